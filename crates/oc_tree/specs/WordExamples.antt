-- Sums, products and quotients of words, and sets of samples, by examples.
use Rattle.std.specs.Prelude.{◌≡◌, refl, pos, negsuc, true, false, [], ◌∷◌, Some, None}
use Rattle.oc_tree.specs.declared.tree.UnaryOp.TheVariants.{Neg, Not}
use Rattle.oc_tree.specs.Word.{is_word, sum_of, difference_of, product_of, quotient_of, remainder_of, unary_of}
use Rattle.oc_tree.specs.Samples.{with_sample, union}

-- the greatest word is one, and the number behind it is none
pub is_word_example : is_word (pos 2147483647) ≡ true
is_word_example = refl

pub is_word_example_above : is_word (pos 2147483648) ≡ false
is_word_example_above = refl

-- behind the greatest word comes the least one
pub sum_of_example : sum_of (pos 2147483647) (pos 1) ≡ negsuc 2147483647
sum_of_example = refl

pub difference_of_example : difference_of (negsuc 2147483647) (pos 1) ≡ pos 2147483647
difference_of_example = refl

pub product_of_example : product_of (pos 65536) (pos 65536) ≡ pos 0
product_of_example = refl

-- -7 / 2 is -3
pub quotient_of_example : quotient_of (negsuc 6) (pos 2) ≡ Some (negsuc 2)
quotient_of_example = refl

pub quotient_of_example_zero : quotient_of (pos 1) (pos 0) ≡ None
quotient_of_example_zero = refl

-- the least word divided by -1
pub quotient_of_example_least :
    quotient_of (negsuc 2147483647) (negsuc 0) ≡ Some (negsuc 2147483647)
quotient_of_example_least = refl

-- -7 % 2 is -1
pub remainder_of_example : remainder_of (negsuc 6) (pos 2) ≡ Some (negsuc 0)
remainder_of_example = refl

pub unary_of_example : unary_of Neg (negsuc 2147483647) ≡ negsuc 2147483647
unary_of_example = refl

pub unary_of_example_not : unary_of Not (pos 7) ≡ pos 0
unary_of_example_not = refl

pub with_sample_example : with_sample 2 (1 ∷ 3 ∷ []) ≡ 1 ∷ 2 ∷ 3 ∷ []
with_sample_example = refl

pub union_example : union (1 ∷ 3 ∷ []) (2 ∷ 3 ∷ []) ≡ 1 ∷ 2 ∷ 3 ∷ []
union_example = refl
