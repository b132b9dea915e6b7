use Rattle.std.proofs.Common.{◌^◌, arith}
use Rattle.oc_items.proofs.Numerals.{if_none_too, none_behind}
use Rattle.oc_items.proofs.read.ticks_behind.Goals as goal

pub returns-clause-none : goal.returns-clause-none
returns-clause-none c =
    if_none_too c.read_u64.result _ _ (none_behind c.args.key.now c.args.bytes.now c.in_ok-digits.digits.now (2 ^ 64) (omega arith) c.in_ok-digits.ensures.some) c.read_u64.ensures.none
