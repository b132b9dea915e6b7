use Rattle.std.proofs.Common.{refl}
use Rattle.oc_grammar.specs.ReadingStatements.{bind_at}
use Rattle.oc_parse.proofs.Views.{view_let}
use Rattle.oc_parse.proofs.reader.Reader.binding.Goals as goal

pub returns-clause-exact : goal.returns-clause-exact
unfolding bind_at
returns-clause-exact c =
    rw (view_let, c.if-take.ensures.exact, rw c.if-take.ensures.kept at c.in_ok-right.ensures.exact) refl
