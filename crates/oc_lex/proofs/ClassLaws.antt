-- The class of a byte tells which tests it passes.
use Rattle.std.proofs.Common.{◌≡◌, ℕ, Bool, true, false, true≢false, refl, ap, sym, ◌∙◌, subst, arith}
use Rattle.std.specs.Prelude.{◌==◌, ◌||◌, if◌then◌else◌}
use Rattle.std.proofs.lemmas.Bool.{eqb-true}
use Rattle.std.proofs.lemmas.Bool.Decides.{nat_tests}
use Rattle.oc_lex.specs.declared.bytes.Class.{Class}
use Rattle.oc_lex.specs.declared.bytes.Class.TheVariants as class
use Rattle.oc_lex.specs.Bytes.{is_blank, is_letter, is_digit, begins_name, in_name, in_number}
use Rattle.oc_lex.specs.Classes.{class_of, begins_name_class, in_name_class, in_number_class}

-- ---- tests that shut each other out

pub record Apart (blank letter under digit : Bool) : Type 0 where
  blank_letter : blank ≡ true → letter ≡ false
  blank_under : blank ≡ true → under ≡ false
  blank_digit : blank ≡ true → digit ≡ false
  letter_under : letter ≡ true → under ≡ false
  letter_digit : letter ≡ true → digit ≡ false
  under_digit : under ≡ true → digit ≡ false

-- a blank is none of what another test takes that takes none of the four
no_blank : (test : ℕ → Bool) → test 32 ≡ false → test 9 ≡ false → test 13 ≡ false → test 10 ≡ false → (b : ℕ) → is_blank b ≡ true → test b ≡ false
no_blank test s t r f b h = by (b == 32) (b == 9) (b == 13) (b == 10) refl refl refl refl h
  where
    at : (n : ℕ) → test n ≡ false → (b == n) ≡ true → test b ≡ false
    at n e i = subst (λ m. test m ≡ false) (sym (eqb-true b n i)) e

    by : (w x y z : Bool) → (b == 32) ≡ w → (b == 9) ≡ x → (b == 13) ≡ y → (b == 10) ≡ z → w || x || y || z ≡ true → test b ≡ false
    by true x y z i j k l m = at 32 s i
    by false true y z i j k l m = at 9 t j
    by false false true z i j k l m = at 13 r k
    by false false false true i j k l m = at 10 f l
    by false false false false i j k l m = absurd (true≢false (sym m))

no_under : (test : ℕ → Bool) → test 95 ≡ false → (b : ℕ) → (b == 95) ≡ true → test b ≡ false
no_under test e b h = subst (λ m. test m ≡ false) (sym (eqb-true b 95 h)) e

other_way : (x y : Bool) → (y ≡ true → x ≡ false) → x ≡ true → y ≡ false
other_way x true h e = absurd (true≢false (sym e ∙ h refl))
other_way x false h e = refl

no_digit : (b : ℕ) → is_letter b ≡ true → is_digit b ≡ false
no_digit b h = grind (arith, nat_tests)

apart : (b : ℕ) → Apart (is_blank b) (is_letter b) (b == 95) (is_digit b)
apart b = record {
  blank_letter = no_blank is_letter refl refl refl refl b;
  blank_under = no_blank (λ n. n == 95) refl refl refl refl b;
  blank_digit = no_blank is_digit refl refl refl refl b;
  letter_under = other_way (is_letter b) (b == 95) (no_under is_letter refl b);
  letter_digit = no_digit b;
  under_digit = no_under is_digit refl b;
}

-- ---- the class by the four tests

abbrev class_by : (blank letter under digit : Bool) → Class
class_by true l u d = class.Blank
class_by false true u d = class.Letter
class_by false false true d = class.Underscore
class_by false false false true = class.Digit
class_by false false false false = class.Other

by_tests : (x y z w : Bool) → (if x then class.Blank else (if y then class.Letter else (if z then class.Underscore else (if w then class.Digit else class.Other)))) ≡ class_by x y z w
by_tests true y z w = refl
by_tests false true z w = refl
by_tests false false true w = refl
by_tests false false false true = refl
by_tests false false false false = refl

class_is : (b : ℕ) → class_of b ≡ class_by (is_blank b) (is_letter b) (b == 95) (is_digit b)
unfolding class_of
class_is b = by_tests (is_blank b) (is_letter b) (b == 95) (is_digit b)

-- ---- blanks

blank_by : (x y z w : Bool) → class_by x y z w ≡ class.Blank → x ≡ true
blank_by true y z w e = refl
blank_by false true z w e = absurd cc
blank_by false false true w e = absurd cc
blank_by false false false true e = absurd cc
blank_by false false false false e = absurd cc

pub blank_of_class : (b : ℕ) → class_of b ≡ class.Blank → is_blank b ≡ true
blank_of_class b e = blank_by (is_blank b) (is_letter b) (b == 95) (is_digit b) (sym (class_is b) ∙ e)

pub class_of_blank : (b : ℕ) → is_blank b ≡ true → class_of b ≡ class.Blank
class_of_blank b h = class_is b ∙ ap (λ x. class_by x (is_letter b) (b == 95) (is_digit b)) h

-- ---- letters

letter_by : (x y z w : Bool) → class_by x y z w ≡ class.Letter → y ≡ true
letter_by true y z w e = absurd cc
letter_by false true z w e = refl
letter_by false false true w e = absurd cc
letter_by false false false true e = absurd cc
letter_by false false false false e = absurd cc

pub letter_of_class : (b : ℕ) → class_of b ≡ class.Letter → is_letter b ≡ true
letter_of_class b e = letter_by (is_blank b) (is_letter b) (b == 95) (is_digit b) (sym (class_is b) ∙ e)

class_letter : (x y z w : Bool) → Apart x y z w → y ≡ true → class_by x y z w ≡ class.Letter
class_letter true true z w a h = absurd (true≢false (a.blank_letter refl))
class_letter false true z w a h = refl
class_letter x false z w a h = absurd (true≢false (sym h))

pub class_of_letter : (b : ℕ) → is_letter b ≡ true → class_of b ≡ class.Letter
class_of_letter b h = class_is b ∙ class_letter (is_blank b) (is_letter b) (b == 95) (is_digit b) (apart b) h

-- ---- digits

digit_by : (x y z w : Bool) → class_by x y z w ≡ class.Digit → w ≡ true
digit_by true y z w e = absurd cc
digit_by false true z w e = absurd cc
digit_by false false true w e = absurd cc
digit_by false false false true e = refl
digit_by false false false false e = absurd cc

pub digit_of_class : (b : ℕ) → class_of b ≡ class.Digit → is_digit b ≡ true
digit_of_class b e = digit_by (is_blank b) (is_letter b) (b == 95) (is_digit b) (sym (class_is b) ∙ e)

class_digit : (x y z w : Bool) → Apart x y z w → w ≡ true → class_by x y z w ≡ class.Digit
class_digit true y z true a h = absurd (true≢false (a.blank_digit refl))
class_digit false true z true a h = absurd (true≢false (a.letter_digit refl))
class_digit false false true true a h = absurd (true≢false (a.under_digit refl))
class_digit false false false true a h = refl
class_digit x y z false a h = absurd (true≢false (sym h))

pub class_of_digit : (b : ℕ) → is_digit b ≡ true → class_of b ≡ class.Digit
class_of_digit b h = class_is b ∙ class_digit (is_blank b) (is_letter b) (b == 95) (is_digit b) (apart b) h

-- ---- what begins a name, and what goes on in names and numbers

begins_by : (x y z w : Bool) → Apart x y z w → y || z ≡ begins_name_class (class_by x y z w)
begins_by true true z w a = a.blank_letter refl
begins_by true false true w a = a.blank_under refl
begins_by true false false w a = refl
begins_by false true z w a = refl
begins_by false false true w a = refl
begins_by false false false true a = refl
begins_by false false false false a = refl

pub begins_is : (b : ℕ) → begins_name b ≡ begins_name_class (class_of b)
unfolding begins_name
begins_is b = begins_by (is_blank b) (is_letter b) (b == 95) (is_digit b) (apart b) ∙ ap begins_name_class (sym (class_is b))

goes_by : (x y z w : Bool) → Apart x y z w → (y || z) || w ≡ in_name_class (class_by x y z w)
goes_by true true z w a = a.blank_letter refl
goes_by true false true w a = a.blank_under refl
goes_by true false false true a = a.blank_digit refl
goes_by true false false false a = refl
goes_by false true z w a = refl
goes_by false false true w a = refl
goes_by false false false true a = refl
goes_by false false false false a = refl

begins_spelled : (b : ℕ) → begins_name b ≡ is_letter b || (b == 95)
unfolding begins_name
begins_spelled b = refl

pub in_name_is : (b : ℕ) → in_name b ≡ in_name_class (class_of b)
unfolding in_name
in_name_is b =
    ap (λ x. x || is_digit b) (begins_spelled b) ∙ goes_by (is_blank b) (is_letter b) (b == 95) (is_digit b) (apart b) ∙ ap in_name_class (sym (class_is b))

number_by : (x y z w : Bool) → Apart x y z w → z || w ≡ in_number_class (class_by x y z w)
number_by true y true w a = a.blank_under refl
number_by true y false true a = a.blank_digit refl
number_by true y false false a = refl
number_by false true true w a = a.letter_under refl
number_by false true false true a = a.letter_digit refl
number_by false true false false a = refl
number_by false false true w a = refl
number_by false false false true a = refl
number_by false false false false a = refl

pub in_number_is : (b : ℕ) → in_number b ≡ in_number_class (class_of b)
unfolding in_number
in_number_is b = number_by (is_blank b) (is_letter b) (b == 95) (is_digit b) (apart b) ∙ ap in_number_class (sym (class_is b))
