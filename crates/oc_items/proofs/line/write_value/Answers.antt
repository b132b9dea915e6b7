use Rattle.std.proofs.Common.{◌≡◌, ◌+◌, ◌-◌, ◌∷◌, ◌++◌, ℤ, pos, negsuc, false, drop, decimal, int_le, unsigned_abs, refl, sym, ap, ◌∙◌, arith, rules, to_z-of_z, true≢false}
use lib.Dec.{leb-zero}
use Rattle.std.specs.Fmt.{signed_decimal}
use Rattle.std.proofs.lemmas.Fmt.{length-decimal-le}
use Rattle.std.proofs.lemmas.List.{drop-set}
use Rattle.oc_items.proofs.line.write_value.Goals as goal

minus_first : (z : ℤ) → int_le (pos 0) z ≡ false → 45 ∷ decimal (unsigned_abs z) ≡ signed_decimal z
minus_first (pos n) e = absurd (true≢false (sym (leb-zero n) ∙ e))
minus_first (negsuc n) e = refl

pub write_digits-from-requires : goal.write_digits-from-requires
write_digits-from-requires c = (omega (arith, length-decimal-le 10 c.unsigned_abs.result (omega arith) (omega arith) (omega arith)), search rules)

pub returns-then-value-ge0-clause-most : goal.returns-then-value-ge0-clause-most
returns-then-value-ge0-clause-most c = omega (arith, length-decimal-le 10 c.unsigned_abs.result (omega arith) (omega arith) (omega arith))

pub overflow_sub-line : goal.overflow_sub-line
overflow_sub-line c = omega (arith, length-decimal-le 10 c.unsigned_abs.result (omega arith) (omega arith) (omega arith))

pub overflow_sub-result : goal.overflow_sub-result
overflow_sub-result c = omega (arith, length-decimal-le 10 c.unsigned_abs.result (omega arith) (omega arith) (omega arith))

pub returns-clause-most : goal.returns-clause-most
returns-clause-most c = omega (arith, length-decimal-le 10 c.unsigned_abs.result (omega arith) (omega arith) (omega arith))

pub returns-clause-written : goal.returns-clause-written
returns-clause-written c =
    let w = c.write_digits-from in
    let long = length-decimal-le 10 c.unsigned_abs.result (omega arith) (omega arith) (omega arith) in
    let e : w.result - 1 + 1 ≡ w.result = omega arith in
    let back = to_z-of_z c.ranges.value in
    rw (drop-set w.new.buf (w.result - 1) 45 (omega arith), e, w.ensures.written, c.unsigned_abs.ensures.value, back)
    (ap (λ l. l ++ drop c.args.end c.args.line.now) (minus_first c.args.value (rw back at c.if-value-ge0.false)))
