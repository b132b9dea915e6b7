-- Rounds of the rows.
use Rattle.std.proofs.Common.{ℕ, zero, suc, ◌+◌, ◌-◌, ◌*◌, ◌/◌, ◌^◌, ◌<◌, ◌≤◌, ◌≡◌, ◌∙◌, List, [], ◌∷◌, ◌++◌, Some, length, drop, min, arith, ap, sym, refl, inl, inr, false}
use Rattle.std.specs.Prelude.{nat_lt}
use Rattle.std.proofs.lemmas.Bool.{cases_Bool}
use Rattle.std.proofs.lemmas.Bool.Decides.{nat_tests}
use Rattle.std.proofs.lemmas.List.Sums.{sum_by-append}
use Rattle.std.specs.List.{slice_get}
use Rattle.std.proofs.lemmas.List.{drop_all}
use Rattle.std.proofs.lemmas.Nat.{le-div}
use Rattle.std.proofs.Math.Nat.{div-lt_iff_lt-mul, mul-zero}
use Rattle.oc_io.specs.declared.period.Period.{Period}
use Rattle.oc_power.specs.Looping.{times, whole_rounds}
use Rattle.oc_power.specs.Total.{total}
use Rattle.oc_power.proofs.Pieces.{at_place}

times-nothing : (n : ℕ) → times n [] ≡ []
unfolding times
times-nothing zero = refl
times-nothing (suc n) = times-nothing n

-- before the first round
pub rounds_begin : (rows : List Period) (place n : ℕ) → place ≡ length rows → drop place rows ++ times n rows ≡ times n rows
rounds_begin rows place n e = rw (e, drop_all (length rows) rows (omega arith)) refl

-- after a round the next one begins
pub next_round : (rows : List Period) (place n : ℕ) → place ≡ length rows → 0 < n → drop place rows ++ times n rows ≡ rows ++ times (n - 1) rows
unfolding times
next_round rows place zero e more = absurd (omega arith)
next_round rows place (suc n) e more =
    let last : n ≡ suc n - 1 = omega arith in
    rw (e, drop_all (length rows) rows (omega arith), ← last) refl

pub no_round : (rows : List Period) (place : ℕ) → place ≡ length rows → drop place rows ++ times 0 rows ≡ []
unfolding times
no_round rows place e = rw (e, drop_all (length rows) rows (omega arith)) refl

total-times : (n : ℕ) (rows : List Period) → total (times n rows) ≡ n * total rows
unfolding times
total-times zero rows = omega arith
total-times (suc n) rows = sum_by-append (λ p. p.on + p.off) rows (times n rows) ∙ omega (arith, total-times n rows)

whole_rounds-below : (n sum : ℕ) → whole_rounds n sum * sum < 2 ^ 63
unfolding whole_rounds
whole_rounds-below zero sum = omega arith
whole_rounds-below (suc n) sum = elim (cases_Bool (nat_lt (suc n * sum) (2 ^ 63))) [
  | inl small ↦ rw small (grind (arith, nat_tests))
  | inr large ↦ rw large (whole_rounds-below n sum)
]

pub total-looped : (n : ℕ) (rows : List Period) → total (times (whole_rounds n (total rows)) rows) < 2 ^ 63
total-looped n rows = rw total-times (whole_rounds-below n (total rows))

pub whole_rounds-free : (n : ℕ) → whole_rounds n 0 ≡ n
unfolding whole_rounds
whole_rounds-free zero = refl
whole_rounds-free (suc n) = rw (mul-zero (suc n)) refl

-- the rounds that fit
pub whole_rounds-fit : (n sum : ℕ) → 0 < sum → whole_rounds n sum ≡ min n ((2 ^ 63 - 1) / sum)
unfolding whole_rounds
whole_rounds-fit zero sum some = omega arith
whole_rounds-fit (suc n) sum some = elim (cases_Bool (nat_lt (suc n * sum) (2 ^ 63))) [
  | inl small ↦
      let fits : suc n * sum ≤ 2 ^ 63 - 1 = grind (arith, nat_tests) in
      let within = le-div (suc n) (2 ^ 63 - 1) sum some fits in
      rw small (omega arith)
  | inr large ↦
      let past : 2 ^ 63 ≤ suc n * sum = grind (arith, nat_tests) in
      let few = (div-lt_iff_lt-mul {k = sum} {x = 2 ^ 63 - 1} {y = suc n} some).1 (omega arith) in
      rw large (omega (arith, whole_rounds-fit n sum some))
]

one-le-mul : (n sum : ℕ) → sum ≤ suc n * sum
one-le-mul n sum = grind arith

whole_rounds-none : (n sum : ℕ) → 2 ^ 63 ≤ sum → whole_rounds n sum ≡ 0
unfolding whole_rounds
whole_rounds-none zero sum large = refl
whole_rounds-none (suc n) sum large =
    let many : 2 ^ 63 ≤ suc n * sum = omega (arith, one-le-mul n sum) in
    let past : nat_lt (suc n * sum) (2 ^ 63) ≡ false = grind (arith, nat_tests) in
    rw past (whole_rounds-none n sum large)

-- a sum that stops at the greatest 64-bit number leaves the rounds as they are
pub whole_rounds-capped : (n sum : ℕ) → whole_rounds n (min sum (2 ^ 64 - 1)) ≡ whole_rounds n sum
whole_rounds-capped n sum = elim (cases_Bool (nat_lt sum (2 ^ 64))) [
  | inl small ↦
      let same : min sum (2 ^ 64 - 1) ≡ sum = grind (arith, nat_tests) in rw same refl
  | inr large ↦
      let most : 2 ^ 64 ≤ sum = grind (arith, nat_tests) in
      whole_rounds-none n (min sum (2 ^ 64 - 1)) (omega arith) ∙ sym (whole_rounds-none n sum (omega arith))
]

pub round_told : (rows : List Period) (place n : ℕ) (row : Period) → slice_get rows place ≡ Some row
    → drop place rows ++ times n rows ≡ row ∷ (drop (place + 1) rows ++ times n rows)
round_told rows place n row is = ap (λ (left : List Period). left ++ times n rows) (at_place rows place row is)

-- no row, no period
pub nothing_round : (rows : List Period) (place n : ℕ) → length rows ≡ 0 → drop place rows ++ times n rows ≡ []
nothing_round [] place n e = rw (times-nothing n, drop_all {X = Period} place [] (omega arith)) refl
nothing_round (row ∷ rest) place n e = absurd (omega arith)
