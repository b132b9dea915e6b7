use Rattle.std.proofs.Common.{arith, refl}
use Rattle.oc_grammar.specs.ReadingPrograms.{function_at}
use Rattle.oc_parse.proofs.statement.Parser.function.Goals as goal

pub returns-clause-exact : goal.returns-clause-exact
unfolding function_at
returns-clause-exact c =
    rw (c.in_ok-name.ensures.exact, c.in_ok-expect.ensures.exact, c.in_ok-params.ensures.exact, c.in_ok-result.ensures.exact, c.in_ok-body.ensures.exact) refl

pub returns-clause-shorter : goal.returns-clause-shorter
returns-clause-shorter c =
    omega (arith, c.in_ok-name.ensures.shorter, c.in_ok-expect.ensures.shorter, c.in_ok-params.ensures.shorter, c.in_ok-result.ensures.shorter, c.in_ok-body.ensures.shorter)
