use Rattle.std.proofs.Common.{refl}
use Rattle.oc_grammar.specs.ReadingStatements.{call_at}
use Rattle.oc_parse.proofs.Views.{view_call, view_call_only}
use Rattle.oc_parse.proofs.reader.Reader.call_statement.Goals as goal

pub returns-clause-exact : goal.returns-clause-exact
unfolding call_at
returns-clause-exact c = rw (view_call_only, view_call, c.in_ok-args.ensures.exact, c.in_ok-expect.ensures.exact) refl
