-- A table by levels of calls, each entry worked out once: in an order in which each function stands behind those that
-- it calls, an entry is told by those before it, and from then on no level changes it.
use Rattle.std.proofs.Common.{◌≡◌, ◌<◌, ◌≤◌, ◌+◌, ℕ, zero, suc, true, List, [], ◌∷◌, None, Some, nat_eq, map, length, refl, sym, ap, ◌∙◌, arith, subst, take}
use Rattle.std.specs.Prelude.{slice_get}
use Rattle.std.proofs.Math.ListN.{get_or, set}
use Rattle.std.proofs.lemmas.List.{take_more, ext_get_or, get_or-set_same, get_or-set_other, length-map, take_all}
use Rattle.std.proofs.lemmas.Bool.{eqb-true}
use Rattle.std.proofs.lemmas.Bool.Decides.{eqb_tells}
use mathlib.Core.Logic.{inl, inr}
use Rattle.oc_tree.specs.Tree.{TFunction}
use Rattle.oc_tree.specs.Calls.{block_kinds, call_links}
use Rattle.oc_tree.specs.Reach.{Links}
use Rattle.oc_tree.proofs.ReachLaws.{or_elim}
use Rattle.oc_laws.proofs.Members.{at_place}
use Rattle.oc_reach.specs.Marked.{is_in}
use Rattle.oc_reach.proofs.Lists.{is_in_push, in_at}
use Rattle.oc_weight.specs.Order.{IsOrder}
use Rattle.oc_weight.proofs.Callees.{KindsSame, same_by_links}

-- what is worked out of the first `i` is as at each level from there on, with a cap
abbrev pub IsWorked : (cap : ℕ → ℕ) (to : ℕ → List ℕ) (order ws : List ℕ) (i : ℕ) → Type 0
IsWorked cap to order ws i = (v d : ℕ) → i ≤ d → is_in (take i order) v ≡ true → get_or ws v 0 ≡ cap (get_or (to d) v 0)

pub capped_at : (cap : ℕ → ℕ) → cap 0 ≡ 0 → (ws : List ℕ) (v : ℕ) → get_or (map cap ws) v 0 ≡ cap (get_or ws v 0)
capped_at cap fixed [] v = sym fixed
capped_at cap fixed (w ∷ ws) zero = refl
capped_at cap fixed (w ∷ ws) (suc v) = capped_at cap fixed ws v

-- a place of an order of all numbers below `n` has one of them
pub place_within : {links : Links} {n : ℕ} {order : List ℕ} → IsOrder links n order → (i place : ℕ) → i < length order → place ≡ get_or order i 0 → place < n
place_within {n = n} {order = order} is i place h e = subst (λ x. x < n) (sym e) (is.within (get_or order i 0) (in_at order i h))

-- what is read at a place, as it is seen
pub seen_at : {A B : Type 0} (view : A → B) (xs : List A) (u : ℕ) (x : A) → u < length xs → x ≡ get_or xs u x → slice_get (map view xs) u ≡ Some (view x)
seen_at view [] u x h e = absurd (omega (arith, h))
seen_at view (y ∷ xs) zero x h e = ap (λ z. Some (view z)) (sym e)
seen_at view (y ∷ xs) (suc u) x h e = seen_at view xs u x (omega (arith, h)) e

module _ (cap : ℕ → ℕ) (fixed : cap 0 ≡ 0) (fs : List TFunction) (step : List ℕ → TFunction → ℕ) (to : ℕ → List ℕ)
    (no_level : to 0 ≡ []) (one_level : (d : ℕ) → to (suc d) ≡ map (step (to d)) fs)
    (by_callees : (ws vs : List ℕ) (f : TFunction) → KindsSame fs ws vs (block_kinds None f.body) → step ws f ≡ step vs f)
    (by_capped : (ws : List ℕ) (f : TFunction) → cap (step (map cap ws) f) ≡ cap (step ws f))
    (order : List ℕ) (is : IsOrder (call_links fs) (length fs) order) where
  -- what the next function takes from what is worked out
  pub entry : (ws : List ℕ) (i d : ℕ) (f : TFunction) → i < length order → i < d → IsWorked cap to order ws i → slice_get fs (get_or order i 0) ≡ Some f
      → cap (step ws f) ≡ cap (get_or (to d) (get_or order i 0) 0)
  entry ws i zero f h less worked at = absurd (omega (arith, less))
  entry ws i (suc d) f h less worked at =
      let u = get_or order i 0 in
      let same : step ws f ≡ step (map cap (to d)) f = same_by_links fs step by_callees ws (map cap (to d)) u f at
      (λ v link. worked v d (omega (arith, less)) (is.behind i v h link) ∙ sym (capped_at cap fixed (to d) v)) in
      let level : get_or (to (suc d)) u 0 ≡ step (to d) f = ap (λ l. get_or l u 0) (one_level d) ∙ at_place (step (to d)) fs u f 0 at in
      ap cap same ∙ by_capped (to d) f ∙ ap cap (sym level)

  pub one_worked : (ws : List ℕ) (i : ℕ) (f : TFunction) → i < length order → length ws ≡ length fs → IsWorked cap to order ws i → slice_get fs (get_or order i 0) ≡ Some f
      → IsWorked cap to order (set ws (get_or order i 0) (cap (step ws f))) (i + 1)
  one_worked ws i f h many worked at v d less there =
      let u = get_or order i 0 in
      let w = cap (step ws f) in
      let below : u < length ws = omega (arith, many, place_within is i u h refl) in
      elim (eqb_tells v u) [
        | inl e ↦
            subst (λ x. get_or (set ws u w) x 0 ≡ cap (get_or (to d) x 0)) (sym e.1)
            (get_or-set_same ws u w 0 below ∙ entry ws i d f h (omega (arith, less)) worked at)
        | inr n ↦
            let both = sym (is_in_push (take i order) u v) ∙ ap (λ l. is_in l v) (sym (take_more order i 0 h)) ∙ there in
            get_or-set_other ws u v w 0 n.1
            ∙ or_elim (is_in (take i order) v) (nat_eq u v) both
            (λ k. worked v d (omega (arith, less)) k)
            (λ k. absurd (n.1 (sym (eqb-true u v k))))
      ]

  as_many : (n : ℕ) → n ≡ length fs → length (to n) ≡ n
  as_many zero e = ap length no_level
  as_many (suc n) e = ap length (one_level n) ∙ length-map fs (step (to n)) ∙ sym e

  -- once all are worked out, they are those of the last level
  pub all_worked : (ws : List ℕ) (i : ℕ) → length order ≤ i → i ≤ length order → length ws ≡ length fs → IsWorked cap to order ws i → ws ≡ map cap (to (length fs))
  all_worked ws i h k many worked =
      let n : length (map cap (to (length fs))) ≡ length fs = length-map (to (length fs)) cap ∙ as_many (length fs) refl in
      ext_get_or 0 ws (map cap (to (length fs))) (many ∙ sym n) (λ v below.
      let there : is_in order v ≡ true = is.there v (omega (arith, below, many)) in
      worked v (length fs) (omega (arith, k, is.many)) (ap (λ l. is_in l v) (take_all i order h) ∙ there) ∙ sym (capped_at cap fixed (to (length fs)) v))
