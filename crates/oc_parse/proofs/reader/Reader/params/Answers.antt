use Rattle.std.proofs.Common.{arith}
use Rattle.std.proofs.lemmas.Result.{err_from_is_err_and}
use Rattle.oc_grammar.specs.ReadingPrograms.{param_at, params_at}
use Rattle.oc_grammar.proofs.ProgramLaws.{param_at_shorter}
use Rattle.oc_parse.specs.Steps.{left}
use Rattle.oc_parse.proofs.Loops.{list_goes_on, list_ends, list_closes, list_stops, list_close_stops}
use Rattle.oc_parse.proofs.reader.Reader.params.Goals as goal

pub returns-in_err-param-clause-exact : goal.returns-in_err-param-clause-exact
unfolding params_at
returns-in_err-param-clause-exact c =
    let p = err_from_is_err_and c.from_residual.result c.from_residual.ensures.1 in
    rw (p.1, p.2) (list_stops param_at param_at_shorter c.loop-params.params.items (left c.loop-params.self) c.in_err-param.field-0.0 (params_at (left c.args.self.now))
    c.loop-params-test.ensures.exact (rw c.loop-params-test.ensures.kept at c.in_err-param.ensures.exact) c.loop-params.invariant.0)

pub returns-in_err-expect-clause-exact : goal.returns-in_err-expect-clause-exact
unfolding params_at
returns-in_err-expect-clause-exact c =
    let p = err_from_is_err_and c.from_residual-in_err-expect.result c.from_residual-in_err-expect.ensures.1 in
    rw (p.1, p.2) (list_close_stops param_at param_at_shorter c.loop-params.params.items (left c.loop-params.self) c.in_ok-param.field-0
    (left c.param.new.self) c.in_err-expect.field-0.0 (params_at (left c.args.self.now)) c.loop-params-test.ensures.exact
    (rw c.loop-params-test.ensures.kept at c.in_ok-param.ensures.exact) c.if-not-take.ensures.exact (rw c.if-not-take.ensures.kept at c.in_err-expect.ensures.exact) c.loop-params.invariant.0)

pub returns-then-not-take-clause-exact : goal.returns-then-not-take-clause-exact
unfolding params_at
returns-then-not-take-clause-exact c =
    rw c.in_ok-push.ensures.items (list_ends param_at param_at_shorter c.loop-params.params.items (left c.loop-params.self) c.in_ok-param.field-0 (left c.param.new.self)
    (left c.expect.new.self) (params_at (left c.args.self.now)) c.loop-params-test.ensures.exact (rw c.loop-params-test.ensures.kept at c.in_ok-param.ensures.exact)
    c.if-not-take.ensures.exact (rw c.if-not-take.ensures.kept at c.in_ok-expect.ensures.exact) c.loop-params.invariant.0)

pub loop-params-preserved : goal.loop-params-preserved
unfolding params_at
loop-params-preserved c = (
  rw c.in_ok-push.ensures.items (list_goes_on param_at param_at_shorter c.loop-params.params.items (left c.loop-params.self) c.in_ok-param.field-0 (left c.param.new.self)
      (left c.take-in-loop-params.new.self) (params_at (left c.args.self.now)) c.loop-params-test.ensures.exact (rw c.loop-params-test.ensures.kept at c.in_ok-param.ensures.exact)
      c.if-not-take.ensures.exact c.loop-params.invariant.0),
  omega (arith, c.loop-params-test.ensures.shorter, c.in_ok-param.ensures.shorter, c.if-not-take.ensures.shorter),
)

pub returns-clause-exact : goal.returns-clause-exact
unfolding params_at
returns-clause-exact c =
    list_closes param_at c.loop-params.params.items (left c.loop-params.self) (left c.take.new.self) (params_at (left c.args.self.now)) c.loop-params-test.ensures.exact c.loop-params.invariant.0
