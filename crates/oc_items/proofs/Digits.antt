-- Numbers by their digits.
use Rattle.std.proofs.Common.{rules, ℕ, zero, suc, ◌+◌, ◌-◌, ◌*◌, ◌<◌, ◌≤◌, ◌^◌, ◌≡◌, true, false, List, [], ◌∷◌, length, drop, get_or, decimal, Option, Some, None, IfSome, refl, sym, ap, subst, ◌∙◌, arith}
use Rattle.std.specs.Prelude.{◌&&◌}
use Rattle.std.specs.Str.{all_ascii_digits}
use Rattle.std.specs.Char.{is_ascii_digit}
use Rattle.std.proofs.lemmas.Bool.{eqb-true, eq-eqb}
use Rattle.std.proofs.lemmas.List.{at_drop_more}
use Rattle.std.proofs.lemmas.Fmt.{decimal_digit, decimal_nonempty, first_decimal, digits_decimal, digits_value-decimal, decimal-digits_value}
use Rattle.std.proofs.lemmas.Str.Parse.{IsNumeralModel, numerals_by_fold}
use Rattle.oc_items.specs.Reading.{spelled_from, zero_leads}

own : IsNumeralModel (λ ds. all_ascii_digits ds ≡ true) (spelled_from 0)
own = numerals_by_fold _ (search rules) spelled_from (search rules)

-- ---- one digit after another

spelled_grows : (n : ℕ) (ds : List ℕ) → n ≤ spelled_from n ds
spelled_grows n [] = omega arith
spelled_grows n (d ∷ ds) = let h = spelled_grows (10 * n + (d - 48)) ds in omega (arith, h)

all_more : (ds : List ℕ) (i : ℕ) → i < length ds → all_ascii_digits (drop i ds) ≡ is_ascii_digit (get_or ds i 0) && all_ascii_digits (drop (i + 1) ds)
all_more ds i h = at_drop_more all_ascii_digits ds i 0 h

spelled_more : (n : ℕ) (ds : List ℕ) (i : ℕ) → i < length ds → spelled_from n (drop i ds) ≡ spelled_from (10 * n + (get_or ds i 0 - 48)) (drop (i + 1) ds)
spelled_more n ds i h = at_drop_more (spelled_from n) ds i 0 h

pub no_digit : (ds : List ℕ) (i b : ℕ) → i < length ds → b ≡ get_or ds i 0 → is_ascii_digit b ≡ false → all_ascii_digits (drop i ds) ≡ all_ascii_digits ds → all_ascii_digits ds ≡ false
no_digit ds i b h e d all = sym all ∙ all_more ds i h ∙ ap (λ t. t && all_ascii_digits (drop (i + 1) ds)) (ap is_ascii_digit (sym e) ∙ d)

pub spelled_past : (n : ℕ) (ds : List ℕ) (i b : ℕ) → i < length ds → b ≡ get_or ds i 0 → 2 ^ 64 ≤ 10 * n + (b - 48) → spelled_from n (drop i ds) ≡ spelled_from 0 ds → 2 ^ 64 ≤ spelled_from 0 ds
spelled_past n ds i b h e l all =
    let g = spelled_grows (10 * n + (get_or ds i 0 - 48)) (drop (i + 1) ds) in
    let m = spelled_more n ds i h in
    subst (λ k. 2 ^ 64 ≤ k) (sym m ∙ all) (omega (arith, g, l, e))

-- ---- a whole number

alone : (ds : List ℕ) → zero_leads ds ≡ false → 0 < length ds → get_or ds 0 0 ≡ 48 → length ds ≡ 1
alone [] h l e = absurd (omega arith)
alone (b ∷ []) h l e = refl
alone (b ∷ c ∷ ds) h l e = let t : true ≡ false = sym (eq-eqb b 48 e) ∙ h in absurd (cc t)

pub number_told : (ds : List ℕ) (n : ℕ) → 0 < length ds → zero_leads ds ≡ false → all_ascii_digits ds ≡ true → n ≡ spelled_from 0 ds → n < 2 ^ 64 → decimal n ≡ ds
number_told ds n l z p e h = ap (λ (k : ℕ). decimal k) e ∙ decimal-digits_value own ds p l (alone ds z l) (omega (arith, e, h))

pub some_told : (ds : List ℕ) (r : Option ℕ) → 0 < length ds → zero_leads ds ≡ false → IfSome r (λ n. n < 2 ^ 64) → IfSome r (λ n. all_ascii_digits ds ≡ true)
    → IfSome r (λ n. n ≡ spelled_from 0 ds) → IfSome r (λ n. decimal n ≡ ds)
some_told ds None l z h p e = tt
some_told ds (Some n) l z h p e = number_told ds n l z p e h

pub nothing_told : (ds : List ℕ) → length ds ≡ 0 → (n : ℕ) → n < 2 ^ 64 → decimal n ≡ ds → ⊥
nothing_told ds z n h e = let l = decimal_nonempty n h in let k = ap length e in omega (arith, l, k, z)

pub zero_told : (ds : List ℕ) → zero_leads ds ≡ true → (n : ℕ) → n < 2 ^ 64 → decimal n ≡ ds → ⊥
zero_told [] z n h e = let t : false ≡ true = z in cc t
zero_told (b ∷ []) z n h e = let t : false ≡ true = z in cc t
zero_told (b ∷ c ∷ ds) z zero h e = let k : 1 ≡ length (b ∷ c ∷ ds) = ap length (sym (decimal_digit 0 (omega arith)) ∙ e) in omega (arith, k)
zero_told (b ∷ c ∷ ds) z (suc n) h e =
    let l = first_decimal (suc n) (omega arith) h in
    let k : get_or (decimal (suc n)) 0 0 ≡ b = ap (λ (ds : List ℕ). get_or ds 0 0) e in
    let q : b ≡ 48 = eqb-true b 48 z in
    omega (arith, l, k, q)

pub others_told : (ds : List ℕ) → (all_ascii_digits ds ≡ true → 2 ^ 64 ≤ spelled_from 0 ds) → (n : ℕ) → n < 2 ^ 64 → decimal n ≡ ds → ⊥
others_told ds f n h e =
    let p : all_ascii_digits ds ≡ true = subst (λ (l : List ℕ). all_ascii_digits l ≡ true) e (digits_decimal own n h) in
    let v : spelled_from 0 ds ≡ n = ap (spelled_from 0) (sym e) ∙ digits_value-decimal own n h in
    let l = f p in
    omega (arith, l, v, h)

-- ---- the first byte
