use Rattle.std.proofs.Common.{rules, refl, true, ◌≡◌, ◌≤◌, ◌+◌, ◌-◌, ◌*◌, ◌^◌, get_or, arith}
use Rattle.std.specs.Str.{all_ascii_digits}
use Rattle.oc_items.specs.Reading.{spelled_from}
use Rattle.oc_items.proofs.Digits.{spelled_past}
use Rattle.oc_items.proofs.Numerals.{if_none}
use Rattle.oc_items.proofs.read.number_of.Goals as goal

pub returns-in_err-number-clause-none : goal.returns-in_err-number-clause-none
returns-in_err-number-clause-none c =
    let n = c.loop-byte.number in
    let i = c.loop-byte.byte-index in
    let ds = c.args.bytes.now in
    let past : 2 ^ 64 ≤ 10 * n + (get_or ds i 0 - 48) = search rules in
    if_none c.from_residual.result (all_ascii_digits ds ≡ true → 2 ^ 64 ≤ spelled_from 0 ds)
    (λ p. spelled_past n ds i (get_or ds i 0) (omega arith) refl past c.loop-byte.invariant.spelled)
