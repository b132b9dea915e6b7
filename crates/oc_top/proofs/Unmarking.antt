-- What is said without marks.
use Rattle.std.proofs.Common.{ℤ, ◌≡◌, ◌∙◌, ap, sym, refl, List, [], ◌∷◌, ◌++◌, map, if◌then◌else◌}
use Rattle.oc_tree.specs.Tree.{TProgram}
use Rattle.oc_tree.specs.Expansion.{expansion}
use Rattle.oc_tree.specs.declared.said.Said.{Said}
use Rattle.oc_tree.specs.declared.said.Said.TheVariants.{Entered, Committed}
use Rattle.oc_items.specs.Erase.{without_mark, without_marks}
use Rattle.oc_meaning.specs.Store.{Event}
use Rattle.oc_meaning.specs.Run.{Trace, said_in}
use Rattle.oc_meaning.specs.Unmarked.{is_mark, unmarked}
use Rattle.oc_meaning.proofs.Bare.{only_tell}
use Rattle.oc_items.specs.Reports.{IsPrefixOf}
use Rattle.oc_top.specs.Meant.{program_marked, program_run, program_said, plain_run, plain_said}

said_on : (e : Event) (rest : List Event) (s : Said) → e.said ≡ s → map (λ (d : Event). d.said) (if is_mark s then rest else e ∷ rest) ≡ without_mark s (map (λ (d : Event). d.said) rest)
said_on e rest (Entered r) i = refl
said_on e rest (Committed r) i = refl
said_on e rest s i = ap (λ (q : Said). q ∷ map (λ (d : Event). d.said) rest) i

said_unmarked : (es : List Event) → map (λ (d : Event). d.said) (unmarked es) ≡ without_marks (map (λ (d : Event). d.said) es)
said_unmarked [] = refl
said_unmarked (e ∷ es) = said_on e (unmarked es) e.said refl ∙ ap (without_mark e.said) (said_unmarked es)

-- the run without regions says what the run says without its marks, and leaves the same nonvolatile words
module _ (p : TProgram) (samples : List ℤ) where
  pub plain_is : plain_said p samples ≡ without_marks (program_said p samples)
  plain_is = ap said_in (sym (only_tell (expansion p) (program_marked p).regions samples)) ∙ said_unmarked (program_run p samples).events

  pub same_words : (program_run p samples).nv ≡ (plain_run p samples).nv
  same_words = ap (λ (t : Trace). t.nv) (only_tell (expansion p) (program_marked p).regions samples)

-- ---- prefixes

on_append : (s : Said) (xs ys : List Said) → without_mark s (xs ++ ys) ≡ without_mark s xs ++ ys
on_append (Entered r) xs ys = refl
on_append (Committed r) xs ys = refl
on_append s xs ys = refl

without_append : (xs ys : List Said) → without_marks (xs ++ ys) ≡ without_marks xs ++ without_marks ys
without_append [] ys = refl
without_append (s ∷ xs) ys = ap (without_mark s) (without_append xs ys) ∙ on_append s (without_marks xs) (without_marks ys)

pub prefix_unmarked : (xs ys : List Said) → IsPrefixOf xs ys → IsPrefixOf (without_marks xs) (without_marks ys)
prefix_unmarked xs ys f = (without_marks f.0, sym (without_append xs f.0) ∙ ap without_marks f.1)
