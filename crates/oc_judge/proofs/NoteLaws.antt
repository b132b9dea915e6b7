-- What a walk sees of an annotation is its set.
use Rattle.std.proofs.Common.{◌≡◌, refl, sym, ap, ◌∙◌, ℕ, suc, ◌+◌, ℤ, arith, Bool, true, false, ◌==◌, List, [], ◌∷◌, ◌++◌, Option, Some, None, cond}
use Rattle.std.specs.List.{find, list_any, flat_map}
use Rattle.std.specs.Prelude.{position, ◌||◌}
use Rattle.std.specs.Option.{option_map, option_or}
use Rattle.std.proofs.lemmas.List.Folds.{find-append}
use Rattle.oc_tree.specs.Tree.{TKind, if_else, for_in, while_do, consistent, TElse, no_else, else_do, stmt, TBlock, block, TStmts, no_stmts, more, TFunction, TProgram}
use Rattle.oc_tree.specs.declared.tree.VarId.TheVariants as variables
use Rattle.oc_tree.specs.Numbers.{block_statements}
use Rattle.oc_tree.specs.Places.{Place, Placed, behind, in_branch, in_loop, at_start, kind_placed, else_placed, block_placed, stmts_placed, placed}
use Rattle.oc_tree.specs.Marked.{function_of}
use Rattle.oc_tree.proofs.Maps.{map_or, map_cond}
use Rattle.oc_tree.proofs.Grouped.{ids}
use Rattle.oc_honest.specs.Timely.{set_in, set_at, set_of}
use Rattle.oc_steps.proofs.Homes.{body_ids, position_first, position_later}
use Rattle.oc_judge.specs.Notes.{note_of, kind_note, else_note, block_note, stmts_note, set_or, set_from}

module _ (n : ℕ) where
  -- what is seen of the first of these statements that is the one asked for
  abbrev pub answer : List Placed → Option (Option ℤ)
  answer ps = option_map (λ a. note_of a.kind) (find (λ a. a.id == n) ps)

  answer-append : (xs ys : List Placed) → answer (xs ++ ys) ≡ option_or (answer xs) (answer ys)
  answer-append xs ys =
      ap (option_map (λ a. note_of a.kind)) (find-append (λ a. a.id == n) xs ys) ∙ map_or (λ a. note_of a.kind) (find (λ a. a.id == n) xs) (find (λ a. a.id == n) ys)

  answer-cons : (a : Placed) (xs : List Placed) → answer (a ∷ xs) ≡ cond (a.id == n) (Some (note_of a.kind)) (answer xs)
  answer-cons a xs = map_cond (λ b. note_of b.kind) (a.id == n) (Some a) (find (λ b. b.id == n) xs)

  mutual
    kind_agrees : (at : Place) (id : ℕ) (k : TKind) → answer (kind_placed at id k) ≡ kind_note n k
    kind_agrees at id (if_else c a b) = answer-append (block_placed (in_branch at id) a) (else_placed (in_branch at id) b)
        ∙ (λ i. option_or (block_agrees (in_branch at id) a i) (else_agrees (in_branch at id) b i))
    kind_agrees at id (for_in x c d b) = block_agrees (in_loop at id ((x, variables.Declared id) ∷ [])) b
    kind_agrees at id (while_do c t b) = block_agrees (in_loop at id []) b
    kind_agrees at id _ = refl

    else_agrees : (at : Place) (b : TElse) → answer (else_placed at b) ≡ else_note n b
    else_agrees at no_else = refl
    else_agrees at (else_do b) = block_agrees at b

    pub block_agrees : (at : Place) (b : TBlock) → answer (block_placed at b) ≡ block_note n b
    block_agrees at (block id ss) = stmts_agrees (record at { block = id }) ss

    stmts_agrees : (at : Place) (ss : TStmts) → answer (stmts_placed at ss) ≡ stmts_note n ss
    stmts_agrees at no_stmts = refl
    stmts_agrees at (more (stmt id line k) ss) =
        answer-cons (record { id = id; line = line; kind = k; at = at }) (kind_placed at id k ++ stmts_placed (behind at id k) ss)
        ∙ ap (cond (id == n) (Some (note_of k)))
        (answer-append (kind_placed at id k) (stmts_placed (behind at id k) ss) ∙ (λ i. option_or (kind_agrees at id k i) (stmts_agrees (behind at id k) ss i)))

  -- ---- functions

  abbrev pub has : TFunction → Bool
  has f = list_any (λ m. m == n) (block_statements f.body)

  abbrev pub is_there : Option Placed → Bool
  is_there None = false
  is_there (Some a) = true

  there : (ps : List Placed) → list_any (λ m. m == n) (ids ps) ≡ is_there (find (λ a. a.id == n) ps)
  there [] = refl
  there (a ∷ ps) = by (a.id == n) (there ps)
    where
      by : (b : Bool) → list_any (λ m. m == n) (ids ps) ≡ is_there (find (λ a. a.id == n) ps)
          → (b || list_any (λ m. m == n) (ids ps)) ≡ is_there (cond b (Some a) (find (λ a. a.id == n) ps))
      by true h = refl
      by false h = h

  has_it : (f : TFunction) → has f ≡ is_there (find (λ a. a.id == n) (block_placed (at_start f) f.body))
  has_it f = sym (ap (list_any (λ m. m == n)) (body_ids f)) ∙ there (block_placed (at_start f) f.body)

  abbrev pub set_by : Option ℕ → Option Placed → Option (ℕ × ℤ)
  set_by f None = None
  set_by f (Some a) = set_in f a.kind

  set_here : (i : ℕ) (k : TKind) (later : Option (ℕ × ℤ)) → set_in (Some i) k ≡ set_or (Some (note_of k)) i later
  set_here i (consistent x k) later = refl
  set_here i k later = refl

  abbrev from : ℕ → Option ℕ → Option ℕ
  from i None = None
  from i (Some j) = Some (i + j)

  from_later : (i : ℕ) (o : Option ℕ) → from (i + 1) o ≡ from i (option_map suc o)
  from_later i None = refl
  from_later i (Some j) = ap Some (omega arith)

  from_zero : (o : Option ℕ) → from 0 o ≡ o
  from_zero None = refl
  from_zero (Some j) = let e : 0 + j ≡ j = omega arith in ap Some e

  abbrev placed_in : List TFunction → List Placed
  placed_in fs = flat_map (λ f. block_placed (at_start f) f.body) fs

  sets_from : (i : ℕ) (fs : List TFunction) → set_by (from i (position has fs)) (find (λ a. a.id == n) (placed_in fs)) ≡ set_from n i fs
  sets_from i [] = refl
  sets_from i (f ∷ fs) =
      ap (set_by (from i (position has (f ∷ fs)))) (find-append (λ a. a.id == n) (block_placed (at_start f) f.body) (placed_in fs))
      ∙ by (find (λ a. a.id == n) (block_placed (at_start f) f.body)) (has_it f) (block_agrees (at_start f) f.body) (sets_from (i + 1) fs)
    where
      by : (o : Option Placed) → has f ≡ is_there o → option_map (λ a. note_of a.kind) o ≡ block_note n f.body
          → set_by (from (i + 1) (position has fs)) (find (λ a. a.id == n) (placed_in fs)) ≡ set_from n (i + 1) fs
          → set_by (from i (position has (f ∷ fs))) (option_or o (find (λ a. a.id == n) (placed_in fs))) ≡ set_or (block_note n f.body) i (set_from n (i + 1) fs)
      by None h e ih =
          ap (λ q. set_by (from i q) (find (λ a. a.id == n) (placed_in fs))) (position_later has f fs h)
          ∙ ap (λ q. set_by q (find (λ a. a.id == n) (placed_in fs))) (sym (from_later i (position has fs)))
          ∙ ih
          ∙ ap (λ o. set_or o i (set_from n (i + 1) fs)) e
      by (Some a) h e ih =
          let z : i + 0 ≡ i = omega arith in
          ap (λ q. set_in (from i q) a.kind) (position_first has f fs h)
          ∙ ap (λ m. set_in (Some m) a.kind) z
          ∙ set_here i a.kind (set_from n (i + 1) fs)
          ∙ ap (λ o. set_or o i (set_from n (i + 1) fs)) e

pub set_found : (p : TProgram) (n : ℕ) → set_of p n ≡ set_from n 0 p.functions
set_found p n = by (placed p n) ∙ ap (λ f. set_by n f (placed p n)) (sym (from_zero n (function_of p n))) ∙ sets_from n 0 p.functions
  where
    by : (o : Option Placed) → set_at p n o ≡ set_by n (function_of p n) o
    by None = refl
    by (Some a) = refl
