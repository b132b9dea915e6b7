-- What the statics take of numbers: what is around a statement has a lower number, the outermost the lowest.
use Rattle.std.proofs.Common.{◌≡◌, inl, inr, ℕ, zero, suc, ◌+◌, ◌<◌, ◌≤◌, Bool, true, false, true≢false, List, [], ◌∷◌, map, length, Option, Some, None, nat_eq, cond}
use Rattle.std.proofs.Common.{refl, sym, ap, ◌∙◌, subst, arith}
use Rattle.std.specs.Prelude.{◌==◌, ◌&&◌, not, slice_get, find, flat_map}
use Rattle.std.specs.List.{list_any}
use Rattle.std.proofs.Math.ListN.{get_or}
use Rattle.std.proofs.lemmas.Bool.{eqb-true, and_parts}
use Rattle.std.proofs.lemmas.Option.{none-some, same_Some}
use Rattle.oc_tree.specs.Tree.{TKind, if_else, for_in, while_do}
use Rattle.oc_tree.specs.Tree.{TElse, no_else, else_do, stmt, TBlock, block, TStmts, no_stmts, more, TFunction, TProgram}
use Rattle.oc_tree.specs.Numbers.{kind_statements, else_statements, block_statements, stmts_statements, program_statements}
use Rattle.oc_tree.specs.Places.{Place, Placed, in_branch, in_loop, behind, kind_placed, else_placed, block_placed, stmts_placed, at_start, program_placed, placed}
use Rattle.oc_tree.specs.Marked.{around}
use Rattle.oc_tree.specs.declared.tree.VarId.TheVariants as variables
use Rattle.oc_effects.specs.Effects.{TEffect, effect_of, function_effects, effects_at, is_numbered}
use Rattle.oc_tree.specs.Members.{IsOf}
use Rattle.oc_needs.specs.Sites.{stands_in, is_outside}
use Rattle.oc_needs.proofs.Tests.{any_of}
use Rattle.oc_desugar.proofs.NumberLists.{Follow, first_of, parts}
use Rattle.oc_laws.proofs.Members.{in_append}
use Rattle.oc_timely.proofs.Members.{by_side}

-- ---- numbers that don't rise

abbrev pub Below : ℕ → List ℕ → Type 0
Below n xs = (y : ℕ) → IsOf y xs → y < n

abbrev pub Falls : List ℕ → Type 0
Falls [] = Unit {0}
Falls (x ∷ xs) = Below x xs × Falls xs

-- what is around a statement
abbrev pub IsNested : (id : ℕ) → List ℕ → Type 0
IsNested id xs = Below id xs × Falls xs

-- so in the lists that begin at a number from `n` on
nest : (n i : ℕ) (xs : List ℕ) → n ≤ i → IsNested n xs → IsNested i xs
nest n i xs l h = (λ y o. (let b = h.0 y o in omega (arith, b, l)), h.1)

nest_in : (i : ℕ) (xs : List ℕ) → IsNested i xs → IsNested (suc i) (i ∷ xs)
nest_in i xs h = (λ y o. below y o, h)
  where
    below : (y : ℕ) → IsOf y (i ∷ xs) → y < suc i
    below y (inl e) = omega (arith, e)
    below y (inr o) = let b = h.0 y o in omega (arith, b)

abbrev Nested : Placed → Type 0
Nested q = IsNested q.id q.at.around

mutual
  kind_nested : (id : ℕ) (at : Place) (k : TKind) → IsNested id at.around → Follow (suc id) (kind_statements k) → (q : Placed) → IsOf q (kind_placed at id k) → Nested q
  kind_nested id at (if_else c a b) h f q o =
      let s = parts (suc id) (block_statements a) (else_statements b) f in
      by_side (in_append q (block_placed (in_branch at id) a) (else_placed (in_branch at id) b) o)
      (block_nested (suc id) (in_branch at id) a (nest_in id at.around h) s.0 q)
      (else_nested (suc id + length (block_statements a)) (in_branch at id) b (nest (suc id) (suc id + length (block_statements a)) (id ∷ at.around) (omega arith) (nest_in id at.around h)) s.1 q)
  kind_nested id at (for_in x m n b) h f q o = block_nested (suc id) (in_loop at id ((x, variables.Declared id) ∷ [])) b (nest_in id at.around h) f q o
  kind_nested id at (while_do c n b) h f q o = block_nested (suc id) (in_loop at id []) b (nest_in id at.around h) f q o
  kind_nested id at k h f q o = absurd o

  else_nested : (i : ℕ) (at : Place) (b : TElse) → IsNested i at.around → Follow i (else_statements b) → (q : Placed) → IsOf q (else_placed at b) → Nested q
  else_nested i at no_else h f q o = absurd o
  else_nested i at (else_do b) h f q o = block_nested i at b h f q o

  block_nested : (i : ℕ) (at : Place) (b : TBlock) → IsNested i at.around → Follow i (block_statements b) → (q : Placed) → IsOf q (block_placed at b) → Nested q
  block_nested i at (block id ss) h f q o = stmts_nested i (record at { block = id }) ss h f q o

  stmts_nested : (i : ℕ) (at : Place) (ss : TStmts) → IsNested i at.around → Follow i (stmts_statements ss) → (q : Placed) → IsOf q (stmts_placed at ss) → Nested q
  stmts_nested i at no_stmts h f q o = absurd o
  stmts_nested i at (more (stmt id line k) ss) h f q o =
      let s = parts i (id ∷ kind_statements k) (stmts_statements ss) f in
      let own = first_of id i (kind_statements k) s.0 in
      let next = i + length (id ∷ kind_statements k) in
      let here : IsNested id at.around = subst (λ n. IsNested n at.around) (sym own.0) h in
      let inside : Follow (suc id) (kind_statements k) = subst (λ n. Follow (suc n) (kind_statements k)) (sym own.0) own.1 in
      by_side o (λ (e : q ≡ record { id = id; line = line; kind = k; at = at }). subst Nested (sym e) here)
      (λ j. by_side (in_append q (kind_placed at id k) (stmts_placed (behind at id k) ss) j) (kind_nested id at k here inside q)
      (stmts_nested next (behind at id k) ss (nest i next at.around (omega arith) h) s.1 q))

-- ---- functions

-- from which number on the statements of a function are numbered
pub body_follows : (i : ℕ) (fs : List TFunction) → Follow i (flat_map (λ f. block_statements f.body) fs) → (u : ℕ) (g : TFunction) → slice_get fs u ≡ Some g →
    (first : ℕ) × (i ≤ first) × Follow first (block_statements g.body)
body_follows i [] h u g e = absurd (none-some g e)
body_follows i (f ∷ fs) h zero g e =
    (i, omega arith, subst (λ (z : TFunction). Follow i (block_statements z.body)) (same_Some f g e) (parts i (block_statements f.body) (flat_map (λ z. block_statements z.body) fs) h).0)
body_follows i (f ∷ fs) h (suc u) g e =
    let r = body_follows (i + length (block_statements f.body)) fs (parts i (block_statements f.body) (flat_map (λ z. block_statements z.body) fs) h).1 u g e in
    (r.0, (let l = r.1 in omega (arith, l)), r.2)

none_around : (i : ℕ) → IsNested i []
none_around i = (λ y o. absurd o, tt)

functions_nested : (i : ℕ) (fs : List TFunction) → Follow i (flat_map (λ f. block_statements f.body) fs) → (q : Placed) → IsOf q (flat_map (λ f. block_placed (at_start f) f.body) fs) → Nested q
functions_nested i [] h q o = absurd o
functions_nested i (f ∷ fs) h q o =
    let s = parts i (block_statements f.body) (flat_map (λ z. block_statements z.body) fs) h in
    by_side (in_append q (block_placed (at_start f) f.body) (flat_map (λ z. block_placed (at_start z) z.body) fs) o) (block_nested i (at_start f) f.body (none_around i) s.0 q)
    (functions_nested (i + length (block_statements f.body)) fs s.1 q)

found_of : (s : ℕ) (qs : List Placed) (q : Placed) → find (λ a. a.id == s) qs ≡ Some q → IsOf q qs × (q.id ≡ s)
found_of s [] q e = absurd (none-some q e)
found_of s (a ∷ qs) q e = by (a.id == s) refl e (found_of s qs q)
  where
    by : (b : Bool) → (a.id == s) ≡ b → cond b (Some a) (find (λ a. a.id == s) qs) ≡ Some q → (find (λ a. a.id == s) qs ≡ Some q → IsOf q qs × (q.id ≡ s)) → IsOf q (a ∷ qs) × (q.id ≡ s)
    by true is e rest = let same = same_Some a q e in (inl (sym same), ap (λ z. z.id) (sym same) ∙ eqb-true a.id s is)
    by false is e rest = let r = rest e in (inr r.0, r.1)

module _ (p : TProgram) (follow : Follow 1 (program_statements p)) where
  all_nested : (q : Placed) → IsOf q (program_placed p) → Nested q
  all_nested = functions_nested 1 p.functions follow

  pub below : (s t : ℕ) → IsOf t (around (placed p s)) → t < s
  below s t o = by (placed p s) refl o
    where
      by : (r : Option Placed) → placed p s ≡ r → IsOf t (around r) → t < s
      by None e o = absurd o
      by (Some q) e o =
          let f = found_of s (program_placed p) q e in
          let n = all_nested q f.0 in
          let low = n.0 t o in
          let same = f.1 in omega (arith, low, same)

  -- what is around an effect
  mapped : (qs : List Placed) → ((q : Placed) → IsOf q qs → Nested q) → (a : TEffect) → IsOf a (map (effect_of p) qs) → IsNested a.stmt a.around
  mapped [] h a o = absurd o
  mapped (q ∷ qs) h a (inl e) = subst (λ (z : TEffect). IsNested z.stmt z.around) (sym e) (h q (inl refl))
  mapped (q ∷ qs) h a (inr o) = mapped qs (λ r i. h r (inr i)) a o

  functions_effects : (i : ℕ) (fs : List TFunction) → Follow i (flat_map (λ f. block_statements f.body) fs) → (f : ℕ) (a : TEffect) → IsOf a (get_or (map (function_effects p) fs) f []) →
      IsNested a.stmt a.around
  functions_effects i [] h f a o = absurd o
  functions_effects i (g ∷ fs) h zero a o =
      mapped (block_placed (at_start g) g.body) (block_nested i (at_start g) g.body (none_around i) (parts i (block_statements g.body) (flat_map (λ z. block_statements z.body) fs) h).0) a o
  functions_effects i (g ∷ fs) h (suc f) a o = functions_effects (i + length (block_statements g.body)) fs (parts i (block_statements g.body) (flat_map (λ z. block_statements z.body) fs) h).1 f a o

  pub effects_nested : (f : ℕ) (a : TEffect) → IsOf a (effects_at p f) → IsNested a.stmt a.around
  effects_nested f a o = functions_effects 1 p.functions follow f a o

  -- a variable that isn't declared outside a loop is declared later
  pub inner : (f loop s : ℕ) → is_outside p f loop (variables.Declared s) ≡ false → loop < s
  inner f loop s e =
      let r = any_of (λ a. is_numbered s a && stands_in loop a) (effects_at p f) (not_false (list_any (λ a. is_numbered s a && stands_in loop a) (effects_at p f)) e) in
      let at = eqb-true r.0.stmt s (and_parts (is_numbered s r.0) (stands_in loop r.0) r.2).0 in
      let t = any_of (λ t. nat_eq t loop) r.0.around (and_parts (is_numbered s r.0) (stands_in loop r.0) r.2).1 in
      let same = eqb-true t.0 loop t.2 in
      let n = effects_nested f r.0 r.1 in
      let low = n.0 t.0 t.1 in omega (arith, at, same, low)
    where
      not_false : (b : Bool) → not b ≡ false → b ≡ true
      not_false true h = refl
      not_false false h = absurd (true≢false h)
