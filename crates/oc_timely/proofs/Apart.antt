-- What the statics take of marks: no statement stands directly in two regions.
use Rattle.std.proofs.Common.{◌≡◌, ◌⊎◌, inl, inr, ℕ, suc, ◌<◌, ◌≤◌, true, false, true≢false, List, [], ◌∷◌, length, Some, sym, ap, ◌∙◌, subst, arith}
use Rattle.std.specs.Prelude.{slice_index_or}
use Rattle.std.specs.List.{AllPairs, list_any}
use Rattle.oc_tree.specs.Tree.{TProgram}
use Rattle.oc_tree.specs.Places.{placed, block_of}
use Rattle.oc_tree.specs.Marked.{TRegion, around, is_in_region, covers, IsRegion, AreRegions}
use Rattle.oc_tree.specs.Members.{IsOf}
use Rattle.oc_timely.proofs.Directly.{Direct, direct_of, of_direct}
use Rattle.std.proofs.lemmas.Option.{same_Some}
use Rattle.std.proofs.lemmas.Bool.{or_left}

each_of : (P : TRegion → Type 0) (rs : List TRegion) → ((j : ℕ) (d : TRegion) → j < length rs → P (slice_index_or rs j d)) → (r : TRegion) → IsOf r rs → P r
each_of P [] h r i = absurd i
each_of P (x ∷ rs) h r (inl e) = subst P (sym e) (h 0 x (omega arith))
each_of P (x ∷ rs) h r (inr i) = each_of P rs (λ j d l. h (suc j) d (omega (arith, l))) r i

-- the same one, or one of them stands before the other
pairs_of : (R : TRegion → TRegion → Type 0) (rs : List TRegion) → AllPairs R rs → (r q : TRegion) → IsOf r rs → IsOf q rs → (r ≡ q) ⊎ (R r q ⊎ R q r)
pairs_of R [] h r q i j = absurd i
pairs_of R (x ∷ rs) h r q (inl a) (inl b) = inl (a ∙ sym b)
pairs_of R (x ∷ rs) h r q (inl a) (inr j) = inr (inl (subst (λ z. R z q) (sym a) (each_of (R x) rs (λ k d l. h 0 (suc k) d (omega arith) (omega (arith, l))) q j)))
pairs_of R (x ∷ rs) h r q (inr i) (inl b) = inr (inr (subst (λ z. R z r) (sym b) (each_of (R x) rs (λ k d l. h 0 (suc k) d (omega arith) (omega (arith, l))) r i)))
pairs_of R (x ∷ rs) h r q (inr i) (inr j) = pairs_of R rs (λ k n d l m. h (suc k) (suc n) d (omega (arith, l)) (omega (arith, m))) r q i j

module _ (p : TProgram) (policies : ℕ) (regions : List TRegion) (are : AreRegions p policies regions) where
  pub its : (r : TRegion) → IsOf r regions → IsRegion p policies r
  its r i = each_of (IsRegion p policies) regions (λ j d l. are.each j d l) r i

  pub region : (r : TRegion) → IsOf r regions → (r.first ≤ r.last) × (block_of p r.first ≡ Some r.block) × (block_of p r.last ≡ Some r.block)
  region r i = let x = its r i in (x.ordered, x.first_there, x.last_there)

  -- the later of two that share a statement would begin in the other
  abbrev Before : TRegion → TRegion → Type 0
  Before r q = (r.first < q.first) × (covers p r q.first ≡ false)

  clash : (r q : TRegion) (s : ℕ) → IsOf q regions → Before r q → Direct p r s → Direct p q s → ⊥
  clash r q s j b d e =
      let low = d.low in let high = d.high in let low' = e.low in
      let same : r.block ≡ q.block = same_Some r.block q.block (sym d.there ∙ e.there) in
      let inside : is_in_region p r q.first ≡ true =
      of_direct p r q.first (record { there = (its q j).first_there ∙ ap Some (sym same); low = let k = b.0 in omega (arith, k); high = omega (arith, low', high) }) in
      true≢false (sym (or_left (is_in_region p r q.first) (list_any (is_in_region p r) (around (placed p q.first))) inside) ∙ b.1)

  pub one_region : (r q : TRegion) (s : ℕ) → IsOf r regions → IsOf q regions → is_in_region p r s ≡ true → is_in_region p q s ≡ true → r ≡ q
  one_region r q s i j d e = elim (pairs_of Before regions (λ k n x l m. (are.rising k n x l m, (are.apart k n x l m).0)) r q i j) [
    | inl same ↦ same
    | inr (inl b) ↦ absurd (clash r q s j b (direct_of p r s d) (direct_of p q s e))
    | inr (inr b) ↦ absurd (clash q r s i b (direct_of p q s e) (direct_of p r s d))
  ]
