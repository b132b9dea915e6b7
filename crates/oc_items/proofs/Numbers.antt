-- Numbers are told by their decimals.
use Rattle.std.proofs.Common.{ℕ, ℤ, pos, negsuc, ◌-◌, ◌^◌, ◌<◌, ◌≡◌, ◌==◌, true, false, cond, List, [], ◌∷◌, length, decimal, ap, ◌∙◌, refl, arith, suc, w32, FitsSigned}
use Rattle.std.specs.Fmt.{signed_decimal}
use Rattle.std.specs.Str.Parse.{digits_value, AllDigits}
use Rattle.std.proofs.lemmas.Fmt.{decimal_is_IsNumeral}
use Rattle.std.proofs.lemmas.Str.Parse.{digit_from_value}
use Rattle.std.proofs.lemmas.Bool.Decides.{nat_tests}
use Rattle.oc_items.specs.OneText.{is_field}
use Rattle.oc_items.proofs.Fields.{decimal_field}

-- the number with a sign that these bytes spell
abbrev pub signed_from : List ℕ → ℤ
signed_from [] = pos 0
signed_from (b ∷ rest) = cond (b == 45) (negsuc (digits_value 10 rest - 1)) (pos (digits_value 10 (b ∷ rest)))

pub decimal_back : (n : ℕ) → n < 2 ^ 64 → digits_value 10 (decimal n) ≡ n
decimal_back n h = (decimal_is_IsNumeral n h).1

pub signed_field : (z : ℤ) → FitsSigned w32 z → is_field (signed_decimal z) ≡ true
signed_field (pos n) h = decimal_field n (omega (arith, h))
signed_field (negsuc n) h = decimal_field (suc n) (omega (arith, h))

-- digits don't begin with a minus sign
plain_from : (ds : List ℕ) → 0 < length ds → AllDigits 10 ds → signed_from ds ≡ pos (digits_value 10 ds)
plain_from [] l h = absurd (omega arith)
plain_from (c ∷ cs) l h =
    let r = digit_from_value c h.0 in
    let f : (c == 45) ≡ false = grind (arith, nat_tests, r.0) in
    rw f refl

pub signed_back : (z : ℤ) → FitsSigned w32 z → signed_from (signed_decimal z) ≡ z
signed_back (pos n) h =
    let d = decimal_is_IsNumeral n (omega (arith, h)) in
    plain_from (decimal n) d.0.0 d.0.1 ∙ ap pos d.1
signed_back (negsuc n) h =
    ap (λ (m : ℕ). negsuc (m - 1)) (decimal_back (suc n) (omega (arith, h))) ∙ ap negsuc (omega arith)
