use Rattle.oc_items.proofs.Numerals.{if_none, if_none_too, no_space_behind, no_value}
use Rattle.oc_items.proofs.read.value_behind.Goals as goal

pub returns-in_err-digits-clause-none : goal.returns-in_err-digits-clause-none
returns-in_err-digits-clause-none c =
    if_none c.from_residual-in_err-digits.result _ (no_space_behind c.args.name.now c.args.bytes.now c.in_ok-rest.rest.now c.in_ok-rest.ensures.some c.in_err-digits.ensures.none)

pub returns-clause-none : goal.returns-clause-none
returns-clause-none c =
    if_none_too c.read_i32.result _ _ (no_value c.args.name.now c.args.bytes.now c.in_ok-rest.rest.now c.in_ok-digits.digits.now c.in_ok-rest.ensures.some
    c.in_ok-digits.ensures.some) c.read_i32.ensures.none
