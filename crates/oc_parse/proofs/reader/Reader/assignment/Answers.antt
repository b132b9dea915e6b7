use Rattle.std.proofs.Common.{arith, refl}
use Rattle.oc_grammar.specs.ReadingStatements.{assign_at}
use Rattle.oc_parse.proofs.Views.{view_assign}
use Rattle.oc_parse.proofs.reader.Reader.assignment.Goals as goal

pub returns-clause-exact : goal.returns-clause-exact
unfolding assign_at
returns-clause-exact c =
    rw (view_assign, c.in_ok-right.ensures.exact) refl

pub returns-clause-shorter : goal.returns-clause-shorter
returns-clause-shorter c = omega (arith, c.in_ok-right.ensures.shorter)
