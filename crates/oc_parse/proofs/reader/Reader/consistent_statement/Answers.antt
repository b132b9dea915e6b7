use Rattle.std.proofs.Common.{arith, rules, ◌≡◌, w32, to_z, of_z, refl}
use Rattle.oc_grammar.specs.ReadingStatements.{consistent_at}
use Rattle.oc_parse.proofs.Views.{view_consistent}
use Rattle.oc_parse.proofs.reader.Reader.consistent_statement.Goals as goal

pub returns-clause-exact : goal.returns-clause-exact
unfolding consistent_at
returns-clause-exact c =
    let i : to_z w32 (of_z w32 c.in_ok-id.id) ≡ c.in_ok-id.id = search rules in
    rw (view_consistent, i, c.in_ok-expect.ensures.exact, c.in_ok-name.ensures.exact, c.in_ok-expect-2.ensures.exact, c.in_ok-id.ensures.exact, c.in_ok-expect-3.ensures.exact, c.in_ok-expect-4.ensures.exact) refl

pub returns-clause-shorter : goal.returns-clause-shorter
returns-clause-shorter c = omega (arith, c.in_ok-expect.ensures.shorter, c.in_ok-name.ensures.shorter, c.in_ok-expect-2.ensures.shorter, c.in_ok-id.ensures.shorter, c.in_ok-expect-3.ensures.shorter, c.in_ok-expect-4.ensures.shorter)
