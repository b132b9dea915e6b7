-- Whatever a number is, what is written of it has no space and no line feed.
use Rattle.std.proofs.Common.{ℕ, zero, suc, ℤ, pos, negsuc, inl, inr, ◌+◌, ◌<◌, ◌/◌, ◌%◌, ◌≡◌, ◌==◌, true, false, List, [], ◌∷◌, map, codes, decimal, refl, arith}
use Rattle.std.specs.Prelude.{nat_lt}
use Rattle.std.specs.Fmt.{digit_glyph, digits, digits_onto, signed_decimal}
use Rattle.std.proofs.lemmas.Bool.{cases_Bool}
use Rattle.std.proofs.lemmas.Bool.Decides.{nat_tests}
use Rattle.oc_tree.specs.Names.{Text}
use Rattle.oc_items.specs.OneText.{ends_field, is_field}
use Rattle.oc_items.proofs.Fields.{AllFields}

glyph_stays : (d : ℕ) → d < 10 → ends_field (digit_glyph false d) ≡ false
glyph_stays d l =
    let small : nat_lt d 10 ≡ true = grind (arith, nat_tests) in
    rw small (let space : ((48 + d) == 32) ≡ false = grind (arith, nat_tests) in let feed : ((48 + d) == 10) ≡ false = grind (arith, nat_tests) in rw (space, feed) refl)

onto_field : (k n : ℕ) (behind : List ℕ) → is_field behind ≡ true → is_field (digits_onto k 10 false n behind) ≡ true
onto_field zero n behind h = h
onto_field (suc k) n behind h =
    let stays = glyph_stays (n % 10) (omega arith) in
    let here : is_field (digit_glyph false (n % 10) ∷ behind) ≡ true = rw stays h in
    elim (cases_Bool (n / 10 == 0)) [
      | inl last ↦ rw last here
      | inr more ↦ rw more (onto_field k (n / 10) (digit_glyph false (n % 10) ∷ behind) here)
    ]

pub decimal_stays : (n : ℕ) → is_field (decimal n) ≡ true
unfolding digits
decimal_stays n = onto_field 64 n [] refl

pub signed_stays : (z : ℤ) → is_field (signed_decimal z) ≡ true
signed_stays (pos n) = decimal_stays n
signed_stays (negsuc n) = decimal_stays (suc n)

words_stay : (words : List ℤ) → AllFields (map signed_decimal words)
words_stay [] = tt
words_stay (x ∷ xs) = (signed_stays x, words_stay xs)

-- so the line of a nonvolatile variable has one line feed, whatever its words are
pub words_line_fits : (name : Text) (words : List ℤ) → is_field name ≡ true → AllFields (codes "nv" ∷ name ∷ map signed_decimal words)
words_line_fits name words n = (refl, (n, words_stay words))
