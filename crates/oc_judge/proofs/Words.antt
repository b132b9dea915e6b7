-- Lists of words of which one is longer.
use Rattle.std.proofs.Common.{◌≡◌, refl, ap, ◌∙◌, suc, ℤ, Bool, true, false, ◌&&◌, List, [], ◌∷◌, length}
use Rattle.std.specs.Ordering.{int_eq}
use Rattle.oc_steps.specs.Fold.{are_words}

no_more : (b : Bool) → b && false ≡ false
no_more true = refl
no_more false = refl

pub other_length : (xs ys : List ℤ) → (length xs ≡ length ys → ⊥) → are_words xs ys ≡ false
other_length [] [] h = absurd (h refl)
other_length [] (y ∷ ys) h = refl
other_length (x ∷ xs) [] h = refl
other_length (x ∷ xs) (y ∷ ys) h = ap (λ b. int_eq x y && b) (other_length xs ys (λ e. h (ap suc e))) ∙ no_more (int_eq x y)
