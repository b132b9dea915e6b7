-- Statements are found by their numbers, and a region of a function begins at one of its statements.
use Rattle.std.proofs.Common.{◌≡◌, inl, inr, ℕ, zero, suc, ◌+◌, ◌≤◌, Bool, true, false, List, [], ◌∷◌, length, Some, None, cond, refl, sym, ap, ◌∙◌, subst, arith}
use Rattle.std.specs.Prelude.{◌==◌, not, nat_lt, slice_get, find, flat_map, position}
use Rattle.std.specs.List.{list_any, prefix_len}
use Rattle.std.proofs.lemmas.Bool.{eqb-true, ne_eqb, eq-eqb}
use Rattle.std.proofs.lemmas.Option.{none-some, same_Some}
use Rattle.oc_tree.specs.Tree.{TFunction, TProgram}
use Rattle.oc_tree.specs.Numbers.{numbers_on, block_statements, program_statements}
use Rattle.oc_tree.specs.Places.{Placed, block_placed, at_start, program_placed, placed}
use Rattle.oc_tree.specs.Marked.{TRegion, IsRegion}
use Rattle.oc_tree.proofs.Grouped.{ids, program_ids}
use Rattle.oc_effects.specs.Effects.{effect_of, effects_at}
use Rattle.oc_tree.specs.Members.{IsOf}
use Rattle.oc_needs.proofs.Tests.{any_of}
use Rattle.oc_desugar.proofs.NumberLists.{Follow}
use Rattle.oc_laws.proofs.Members.{of_left, of_right, in_image, not_lower}
use Rattle.oc_timely.proofs.Callees.{effects_here}

-- ---- found

found_own : (k n : ℕ) (xs : List Placed) (b : Placed) → ids xs ≡ numbers_on k n → IsOf b xs → (k ≤ b.id) × (find (λ a. a.id == b.id) xs ≡ Some b)
found_own k n [] b e o = absurd o
found_own k zero (x ∷ xs) b e o = absurd (grind (arith, e))
found_own k (suc n) (x ∷ xs) b e (inl i) =
    let first : x.id ≡ k = cc in
    let same : b.id ≡ x.id = ap (λ z. z.id) i in
    (omega (arith, first, same), ap (λ t. cond t (Some x) (find (λ a. a.id == b.id) xs)) (eq-eqb x.id b.id (sym same)) ∙ ap Some (sym i))
found_own k (suc n) (x ∷ xs) b e (inr o) =
    let first : x.id ≡ k = cc in
    let tail : ids xs ≡ numbers_on (suc k) n = cc in
    let r = found_own (suc k) n xs b tail o in
    let l = r.0 in
    let differ : x.id ≡ b.id → ⊥ = λ q. omega (arith, l, q, first) in
    (omega (arith, l), ap (λ t. cond t (Some x) (find (λ a. a.id == b.id) xs)) (ne_eqb x.id b.id differ) ∙ r.1)

in_program : (fs : List TFunction) (u : ℕ) (g : TFunction) → slice_get fs u ≡ Some g → (b : Placed) → IsOf b (block_placed (at_start g) g.body) →
    IsOf b (flat_map (λ f. block_placed (at_start f) f.body) fs)
in_program [] u g e b o = absurd (none-some g e)
in_program (f ∷ fs) zero g e b o =
    of_left b (block_placed (at_start f) f.body) (flat_map (λ z. block_placed (at_start z) z.body) fs) (subst (λ (z : TFunction). IsOf b (block_placed (at_start z) z.body)) (sym (same_Some f g e)) o)
in_program (f ∷ fs) (suc u) g e b o = of_right b (block_placed (at_start f) f.body) (flat_map (λ z. block_placed (at_start z) z.body) fs) (in_program fs u g e b o)

module _ (p : TProgram) (f : ℕ) (g : TFunction) (at : slice_get p.functions f ≡ Some g) where
  pub found : Follow 1 (program_statements p) → (b : Placed) → IsOf b (block_placed (at_start g) g.body) → placed p b.id ≡ Some b
  found follow b o = (found_own 1 (length (program_statements p)) (program_placed p) b (program_ids p ∙ follow) (in_program p.functions f g at b o)).1

  pub effect : (b : Placed) → IsOf b (block_placed (at_start g) g.body) → IsOf (effect_of p b) (effects_at p f)
  effect b o = subst (IsOf (effect_of p b)) (sym (effects_here p f g at)) (in_image (effect_of p) (block_placed (at_start g) g.body) b o)

-- ---- regions

at_prefix : {A : Type 0} (t : A → Bool) (xs : List A) (i : ℕ) (x : A) → prefix_len (λ y. not (t y)) xs ≡ i → slice_get xs i ≡ Some x → t x ≡ true
at_prefix t [] i x e h = absurd (none-some x h)
at_prefix {A} t (y ∷ ys) i x e h = by (t y) refl i e h (λ j. at_prefix t ys j x)
  where
    by : (b : Bool) → t y ≡ b → (i : ℕ) → cond (not b) (1 + prefix_len (λ y. not (t y)) ys) 0 ≡ i → slice_get (y ∷ ys) i ≡ Some x →
        ((j : ℕ) → prefix_len (λ y. not (t y)) ys ≡ j → slice_get ys j ≡ Some x → t x ≡ true) → t x ≡ true
    by true is zero e h rest = ap t (sym (same_Some y x h)) ∙ is
    by true is (suc i) e h rest = absurd (omega (arith, e))
    by false is zero e h rest = absurd (omega (arith, e))
    by false is (suc i) e h rest = rest i (let q = e in omega (arith, q)) h

position_is : {A : Type 0} (t : A → Bool) (xs : List A) (i : ℕ) → position t xs ≡ Some i → prefix_len (λ y. not (t y)) xs ≡ i
position_is t xs i e = by (nat_lt (prefix_len (λ y. not (t y)) xs) (length xs)) e
  where
    by : (b : Bool) → cond b (Some (prefix_len (λ y. not (t y)) xs)) None ≡ Some i → prefix_len (λ y. not (t y)) xs ≡ i
    by true e = same_Some (prefix_len (λ y. not (t y)) xs) i e
    by false e = absurd (none-some i e)

-- it is no earlier than the function's first statement
pub region_begins : (p : TProgram) (policies f first : ℕ) (g : TFunction) → slice_get p.functions f ≡ Some g → Follow first (block_statements g.body) → (r : TRegion) → IsRegion p policies r →
    r.function ≡ f → first ≤ r.first
region_begins p policies f first g at follow r is same =
    let t : list_any (λ n. n == r.first) (block_statements g.body) ≡ true =
    at_prefix (λ (z : TFunction). list_any (λ n. n == r.first) (block_statements z.body)) p.functions r.function g
    (position_is (λ (z : TFunction). list_any (λ n. n == r.first) (block_statements z.body)) p.functions r.function is.function_there) (ap (slice_get p.functions) same ∙ at) in
    let a = any_of (λ n. n == r.first) (block_statements g.body) t in
    let e = eqb-true a.0 r.first a.2 in
    let l = not_lower first (length (block_statements g.body)) a.0 (subst (IsOf a.0) follow a.1) in
    omega (arith, e, l)
