use Rattle.std.proofs.Common.{arith}
use Rattle.oc_parse.proofs.reader.Reader.fill.Goals as goal

pub returns-clause-shorter : goal.returns-clause-shorter
returns-clause-shorter c = omega (arith, c.in_ok-initial.ensures.shorter, c.in_ok-expect.ensures.shorter, c.in_ok-words.ensures.shorter, c.in_ok-expect-2.ensures.shorter, c.in_ok-expect-3.ensures.shorter)
