use Rattle.std.proofs.Common.{arith, refl}
use Rattle.oc_grammar.specs.ReadingStatements.{sense_at}
use Rattle.oc_parse.proofs.Views.{view_sense_only}
use Rattle.oc_parse.proofs.reader.Reader.sense_statement.Goals as goal

pub returns-clause-exact : goal.returns-clause-exact
unfolding sense_at
returns-clause-exact c =
    rw (view_sense_only, c.in_ok-expect.ensures.exact, c.in_ok-sensor.ensures.exact, c.in_ok-expect-2.ensures.exact, c.in_ok-expect-3.ensures.exact) refl

pub returns-clause-shorter : goal.returns-clause-shorter
returns-clause-shorter c = omega (arith, c.in_ok-expect.ensures.shorter, c.in_ok-sensor.ensures.shorter, c.in_ok-expect-2.ensures.shorter, c.in_ok-expect-3.ensures.shorter)
