-- In which function a statement stands, and of which set an annotation is.
use Rattle.std.proofs.Common.{◌≡◌, ◌⊎◌, inl, inr, ◌<◌, ◌≤◌, ℕ, zero, suc, ◌+◌, Bool, true, ◌==◌, List, [], ◌∷◌, length, Some, refl, ap, sym, subst, ◌∙◌, arith}
use Rattle.std.specs.Prelude.{ℤ, flat_map, position, slice_get}
use Rattle.std.specs.List.{list_any}
use Rattle.std.proofs.lemmas.Bool.{eqb-true, eq-eqb, false_from_ne_true}
use Rattle.std.proofs.lemmas.Option.{none-some, same_Some}
use Rattle.oc_tree.specs.Tree.{consistent, TFunction, TProgram}
use Rattle.oc_tree.specs.Numbers.{numbers_on, block_statements, program_statements}
use Rattle.oc_tree.specs.Places.{Placed, block_placed, at_start}
use Rattle.oc_tree.specs.Marked.{function_of}
use Rattle.oc_tree.proofs.Grouped.{functions_ids}
use Rattle.oc_tree.specs.Members.{IsOf}
use Rattle.oc_flow.proofs.Lists.{any_in}
use Rattle.oc_needs.proofs.Tests.{any_of}
use Rattle.oc_desugar.proofs.NumberLists.{Follow, parts}
use Rattle.oc_honest.specs.Timely.{set_in, set_at, set_of}
use Rattle.oc_laws.proofs.Members.{of_left, in_append, in_image}
use Rattle.oc_timely.proofs.Positions.{position_first, position_later}
use Rattle.oc_timely.proofs.Stated.{found}

-- ---- numbers

between : (k n y : ℕ) → IsOf y (numbers_on k n) → (k ≤ y) × (y < k + n)
between k zero y o = absurd o
between k (suc n) y (inl e) = (omega (arith, e), omega (arith, e))
between k (suc n) y (inr o) = let l = between (suc k) n y o in (omega (arith, l.0), omega (arith, l.1))

-- the number of a statement of a function is one of its numbers
own_number : (g : TFunction) (b : Placed) → IsOf b (block_placed (at_start g) g.body) → IsOf b.id (block_statements g.body)
own_number g b o =
    let all = flat_map (λ f. block_placed (at_start f) f.body) (g ∷ []) in
    by (in_append b.id (block_statements g.body) [] (subst (IsOf b.id) (functions_ids (g ∷ [])) (in_image (λ a. a.id) all b (of_left b (block_placed (at_start g) g.body) [] o))))
  where
    by : IsOf b.id (block_statements g.body) ⊎ IsOf b.id [] → IsOf b.id (block_statements g.body)
    by (inl i) = i
    by (inr i) = absurd i

abbrev has : ℕ → TFunction → Bool
has n f = list_any (λ m. m == n) (block_statements f.body)

first_at : (i : ℕ) (fs : List TFunction) → Follow i (flat_map (λ f. block_statements f.body) fs) → (u : ℕ) (g : TFunction) → slice_get fs u ≡ Some g → (n : ℕ) → IsOf n (block_statements g.body) →
    (i ≤ n) × (position (has n) fs ≡ Some u)
first_at i [] h u g e n o = absurd (none-some g e)
first_at i (f ∷ fs) h zero g e n o =
    let s = parts i (block_statements f.body) (flat_map (λ f. block_statements f.body) fs) h in
    let mine : IsOf n (block_statements f.body) = subst (λ (z : TFunction). IsOf n (block_statements z.body)) (sym (same_Some f g e)) o in
    ((between i (length (block_statements f.body)) n (subst (IsOf n) s.0 mine)).0, position_first (has n) f fs (any_in (λ m. m == n) (block_statements f.body) n mine (eq-eqb n n refl)))
first_at i (f ∷ fs) h (suc u) g e n o =
    let s = parts i (block_statements f.body) (flat_map (λ f. block_statements f.body) fs) h in
    let r = first_at (i + length (block_statements f.body)) fs s.1 u g e n o in
    let l = r.0 in
    (omega (arith, l), position_later (has n) f fs u (false_from_ne_true (has n f) (λ t. none s.0 l (any_of (λ m. m == n) (block_statements f.body) t))) r.1)
  where
    none : Follow i (block_statements f.body) → i + length (block_statements f.body) ≤ n → (m : ℕ) × IsOf m (block_statements f.body) × ((m == n) ≡ true) → ⊥
    none s l m = let b = (between i (length (block_statements f.body)) m.0 (subst (IsOf m.0) s m.1)).1 in let e = eqb-true m.0 n m.2 in omega (arith, l, b, e)

module _ (p : TProgram) (follow : Follow 1 (program_statements p)) (f : ℕ) (g : TFunction) (at : slice_get p.functions f ≡ Some g) where
  pub function_here : (b : Placed) → IsOf b (block_placed (at_start g) g.body) → function_of p b.id ≡ Some f
  function_here b o = (first_at 1 p.functions follow f g at b.id (own_number g b o)).1

  -- an annotation is of a set of its function
  pub set_here : (b : Placed) (x : _) (k : ℤ) → IsOf b (block_placed (at_start g) g.body) → b.kind ≡ consistent x k → set_of p b.id ≡ Some (f, k)
  set_here b x k o kind = ap (set_at p b.id) (found p f g at follow b o) ∙ ap (λ o. set_in o b.kind) (function_here b o) ∙ ap (set_in (Some f)) kind
