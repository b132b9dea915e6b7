-- Reports that aren't timely: the definition says no to an outage between an input and its use, and among the inputs of a set.
use Rattle.std.proofs.Common.{◌≡◌, inl, inr, [], ◌∷◌, refl, arith}
use Rattle.std.specs.Prelude.{pos}
use Rattle.oc_tree.specs.declared.said.Said.TheVariants.{Showed}
use Rattle.oc_tree.specs.declared.said.Shown.TheVariants.{Tagged}
use Rattle.oc_honest.specs.Timely.{AreTogether, event, LateUse, PartedSet}

pub late_use : LateUse
late_use p t = let e : 0 ≡ 1 = t.fresh _ _ 0 (inl refl) (inr (inl refl)) (0, pos 21, refl, refl) tt (inl refl) in absurd (omega (arith, e))

pub parted_set : PartedSet
parted_set p n set s t =
    let tag = event (Showed (Tagged n)) (0 ∷ 1 ∷ []) 1 in
    let together : AreTogether p tag tag = record { one = n; other = n; first = refl; second = refl; set = set; first_set = s; second_set = s; instance = refl } in
    let e : 0 ≡ 1 = t.consistent _ _ _ _ 0 1 (inl refl) (inr (inl refl)) (inr (inr (inl refl))) (inr (inr (inl refl))) (0, pos 5, refl, refl) (1, pos 8, refl, refl) together
    (inl refl) (inr (inl refl)) in
    absurd (omega (arith, e))
