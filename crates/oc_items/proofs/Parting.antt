-- What is left out of two reports, one behind the other.
use Rattle.std.proofs.Common.{◌≡◌, ℤ, List, [], ◌∷◌, ◌++◌, refl, ap, ◌∙◌}
use Rattle.oc_tree.specs.Said.{Told}
use Rattle.oc_tree.specs.declared.said.Said.{Said}
use Rattle.oc_tree.specs.declared.said.Said.TheVariants.{Sensed}
use Rattle.oc_items.specs.Erase.{without_off, without_offs, without_mark, without_marks, sampled, samples_of}

without_off-append : (s : Said) (xs ys : List Said) → without_off s (xs ++ ys) ≡ without_off s xs ++ ys
without_off-append (Sensed a b) xs ys = refl
without_off-append said xs ys = refl

pub without_offs-append : (xs ys : List Told) → without_offs (xs ++ ys) ≡ without_offs xs ++ without_offs ys
without_offs-append [] ys = refl
without_offs-append (i ∷ xs) ys = ap (without_off i.said) (without_offs-append xs ys) ∙ without_off-append i.said (without_offs xs) (without_offs ys)

pub without_mark-append : (s : Said) (xs ys : List Said) → without_mark s (xs ++ ys) ≡ without_mark s xs ++ ys
without_mark-append (Sensed a b) xs ys = refl
without_mark-append said xs ys = refl

pub without_marks-append : (xs ys : List Said) → without_marks (xs ++ ys) ≡ without_marks xs ++ without_marks ys
without_marks-append [] ys = refl
without_marks-append (s ∷ xs) ys = ap (without_mark s) (without_marks-append xs ys) ∙ without_mark-append s (without_marks xs) (without_marks ys)

sampled-append : (s : Said) (xs ys : List ℤ) → sampled s (xs ++ ys) ≡ sampled s xs ++ ys
sampled-append (Sensed a b) xs ys = refl
sampled-append said xs ys = refl

pub samples_of-append : (xs ys : List Said) → samples_of (xs ++ ys) ≡ samples_of xs ++ samples_of ys
samples_of-append [] ys = refl
samples_of-append (s ∷ xs) ys = ap (sampled s) (samples_of-append xs ys) ∙ sampled-append s (samples_of xs) (samples_of ys)
