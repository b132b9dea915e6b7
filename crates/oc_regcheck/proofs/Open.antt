-- Links of open calls: they are between functions, and `main` is found by a search back.
use Rattle.std.proofs.Common.{◌≡◌, ◌<◌, ℕ, ◌+◌, Bool, true, false, true≢false, List, [], ◌∷◌, ◌++◌, length, Option, Some, None, refl, ap, sym, subst, ◌∙◌, arith}
use Rattle.std.specs.Prelude.{flat_map, option_to_list, IfSome}
use Rattle.std.proofs.lemmas.List.{append-nil, length-map}
use Rattle.std.proofs.lemmas.Grind.{flat_map-append}
use Rattle.oc_tree.specs.Tree.{TProgram}
use Rattle.oc_tree.specs.Rules.{main}
use Rattle.oc_tree.specs.Calls.{function_names, function_place}
use Rattle.oc_tree.specs.Checked.{Group, IsChecked}
use Rattle.oc_tree.specs.Reach.{Links, linked, reaches_some}
use Rattle.oc_effects.specs.Effects.{effects_at}
use Rattle.oc_flow.specs.Variables.{from}
use Rattle.oc_flow.proofs.Ranks.{ranked}
use Rattle.oc_reach.specs.Marked.{is_in}
use Rattle.oc_reach.specs.Within.{IsWithin}
use Rattle.oc_names.proofs.Entries.{place_below}
use Rattle.oc_reach.proofs.Tests.{only_one}
use Rattle.oc_reach.proofs.Walk.{some_is}
use Rattle.oc_needs.proofs.Froms.{from_more}
use Rattle.oc_regcheck.specs.Enough.{comes_to}
use Rattle.oc_tree.specs.Members.{is_number_of}
use Rattle.oc_regcheck.specs.Code.{calls_in, calls_by}
use Rattle.oc_regcheck.proofs.Guards.{calls_of}
use Rattle.oc_regcheck.proofs.Exact.{calls_are}

module _ (p : TProgram) (groups : List Group) (checked : IsChecked p groups) (blocks : List ℕ) where
  pub within : IsWithin (calls_by p (is_number_of blocks)) (length p.functions)
  within = λ u v e. (
      let c = calls_of p blocks u v (subst (λ (l : Links). linked l u v ≡ true) (sym (calls_are p checked.form.numbered blocks)) e) in
      (subst (λ n. n < length p.functions) c.callee ((ranked p groups checked).inside v c.effect c.called c.one c.there), c.small))

-- `main` is one of the functions
pub main_small : (p : TProgram) (o : Option ℕ) → o ≡ function_place p.functions main → IfSome o (λ f. f < length p.functions)
main_small p None e = tt
main_small p (Some i) e =
    let below : i < 0 + length (function_names p.functions) = place_below 0 (function_names p.functions) main i (sym e) in
    let many = length-map p.functions (λ f. f.name) in
    omega (arith, below, many)

no_marks : (links : Links) (n f : ℕ) → reaches_some links n (is_in []) f ≡ false
no_marks links n f = by (reaches_some links n (is_in []) f) refl
  where
    by : (b : Bool) → reaches_some links n (is_in []) f ≡ b → b ≡ false
    by true e = let m = some_is n _ e in absurd (true≢false (sym m.2))
    by false e = refl

-- what leads back to the function that is marked, if one is
pub marked_is : (links : Links) (n : ℕ) (o : Option ℕ) (f : ℕ) → IfSome o (λ m. m < n) → reaches_some links n (is_in (option_to_list o)) f ≡ comes_to links n o f
marked_is links n None f h = no_marks links n f
marked_is links n (Some m) f h = only_one links n m f h

pub caller_more : (p : TProgram) (is_block : ℕ → Bool) (caller : ℕ) (old new : List (ℕ × ℕ)) → old ≡ flat_map (λ f. calls_in p is_block f (effects_at p f)) (from 0 caller)
    → new ≡ old ++ calls_in p is_block caller (effects_at p caller) → new ≡ flat_map (λ f. calls_in p is_block f (effects_at p f)) (from 0 (caller + 1))
caller_more p is_block caller old new e h =
    let each : ℕ → List (ℕ × ℕ) = λ f. calls_in p is_block f (effects_at p f) in
    h ∙ ap (λ l. l ++ each caller) e
    ∙ ap (λ l. flat_map each (from 0 caller) ++ l) (sym (append-nil (each caller)))
    ∙ sym (flat_map-append each (from 0 caller) (caller ∷ []))
    ∙ ap (flat_map each) (sym (from_more caller))
