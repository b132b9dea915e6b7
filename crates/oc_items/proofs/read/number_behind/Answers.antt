use Rattle.std.proofs.Common.{rules, ◌≡◌, ◌<◌, ◌^◌, decimal, sym, ◌∙◌, arith}
use Rattle.std.proofs.lemmas.List.{append_cancel_left}
use Rattle.std.proofs.lemmas.Fmt.{decimal_injective}
use Rattle.oc_items.proofs.Numerals.{if_none, none_behind}
use Rattle.oc_items.proofs.read.number_behind.Goals as goal

pub returns-in_err-number-clause-none : goal.returns-in_err-number-clause-none
returns-in_err-number-clause-none c =
    if_none c.from_residual-in_err-number.result _
    (none_behind c.args.key.now c.args.bytes.now c.in_ok-digits.digits.now (2 ^ 32) (omega arith) c.in_ok-digits.ensures.some c.in_err-number.ensures.none)

pub returns-then-number-clause-none : goal.returns-then-number-clause-none
returns-then-number-clause-none c = λ n s.
    let l : c.in_ok-number.number < 2 ^ 64 = search rules in
    let m : 4294967295 < c.in_ok-number.number = search rules in
    let d : decimal c.in_ok-number.number ≡ c.in_ok-digits.digits.now = c.in_ok-number.ensures.some in
    let f : decimal n ≡ c.in_ok-digits.digits.now = append_cancel_left c.args.key.now (decimal n) c.in_ok-digits.digits.now (s.spelled ∙ sym c.in_ok-digits.ensures.some) in
    let e = decimal_injective n c.in_ok-number.number (omega (arith, s.below)) l (f ∙ sym d) in
    omega (arith, s.below, m, e)
