use Rattle.std.proofs.Common.{arith, rules}
use Rattle.std.proofs.lemmas.Fmt.{length-decimal-le}
use Rattle.oc_items.proofs.text.put_number.Goals as goal

pub write_digits-last-requires : goal.write_digits-last-requires
write_digits-last-requires g c = (omega (arith, length-decimal-le 20 c.args.number (omega arith) (omega arith) c.ranges.number.fits), search rules)

pub write_word-middle-requires : goal.write_word-middle-requires
write_word-middle-requires g c =
    let few = length-decimal-le 20 c.args.number (omega arith) (omega arith) c.ranges.number.fits in
    let start = c.write_digits-last.ensures.start in
    (omega (arith, few, start, c.requires), omega (arith, few, start))

pub write_digits-from-requires : goal.write_digits-from-requires
write_digits-from-requires g c =
    let few = length-decimal-le 20 c.args.number (omega arith) (omega arith) c.ranges.number.fits in
    let tick = length-decimal-le 20 c.args.tick (omega arith) (omega arith) c.ranges.tick.fits in
    let start = c.write_digits-last.ensures.start in
    let word = c.write_word-middle.ensures.start in
    let long = c.write_word-middle.array_long in
    (omega (arith, few, tick, start, word, c.requires), omega (arith, few, start, word, long))
