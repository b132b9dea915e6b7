use Rattle.std.proofs.Common.{arith}
use Rattle.std.proofs.lemmas.Fmt.{length-decimal-le}
use Rattle.oc_items.proofs.text.put_value.Goals as goal

pub write_digits-from-requires : goal.write_digits-from-requires
write_digits-from-requires g c =
    let tick = length-decimal-le 20 c.args.tick (omega arith) (omega arith) c.ranges.tick.fits in
    let value = c.write_value-last.ensures.most in
    let within = c.write_value-last.ensures.within in
    let gap = c.write_word-gap.ensures.start in
    let name = c.write_word-named.ensures.start in
    let word = c.write_word-middle.ensures.start in
    let short = c.if-name-gt-NAME.false in
    let long = c.write_word-middle.array_long in
    (omega (arith, tick, value, gap, name, word, short, c.requires), omega (arith, within, gap, name, word, long))
