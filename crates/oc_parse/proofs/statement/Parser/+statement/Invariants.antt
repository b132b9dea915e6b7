use Rattle.std.proofs.Common.{◌≡◌, length, ◌+◌, ◌*◌, ◌≤◌, map}
use Rattle.oc_tree.specs.View.{stmt_view}
use Rattle.oc_grammar.specs.Limits.{the_depths}
use Rattle.oc_grammar.specs.ReadingStatements.{stmts_at}
use Rattle.oc_parse.specs.Steps.{Fits, from}
use Rattle.oc_parse.proofs.StatementLoops.{afterwards}
use Rattle.oc_parse.proofs.statement.Parser.+statement.Given as goal

abbrev pub decreases-statements : goal.decreases-statements
decreases-statements l = 8 * l.room + 6

abbrev pub decreases-statement : goal.decreases-statement
decreases-statement l = 8 * l.room + 5

abbrev pub decreases-kind : goal.decreases-kind
decreases-kind l = 8 * l.room + 4

abbrev pub decreases-if_statement : goal.decreases-if_statement
decreases-if_statement l = 8 * l.room + 3

abbrev pub decreases-for_statement : goal.decreases-for_statement
decreases-for_statement l = 8 * l.room + 3

abbrev pub decreases-ranged_block : goal.decreases-ranged_block
decreases-ranged_block l = 8 * l.room + 2

abbrev pub decreases-while_statement : goal.decreases-while_statement
decreases-while_statement l = 8 * l.room + 3

abbrev pub decreases-bounded_block : goal.decreases-bounded_block
decreases-bounded_block l = 8 * l.room + 2

abbrev pub decreases-atomic_statement : goal.decreases-atomic_statement
decreases-atomic_statement l = 8 * l.room + 3

abbrev pub decreases-otherwise : goal.decreases-otherwise
decreases-otherwise l = 8 * l.room + 2

abbrev pub decreases-else_if : goal.decreases-else_if
decreases-else_if l = 8 * l.room + 1

abbrev pub decreases-block : goal.decreases-block
decreases-block l = 8 * l.room + 1

abbrev pub invariant-statements-loop-self : goal.invariant-statements-loop-self
invariant-statements-loop-self l = (afterwards (map stmt_view l.statements.items) (from (stmts_at the_depths l.room) l.self) ≡ from (stmts_at the_depths l.room) l.fn.self) × Fits
    l.self × (length l.self.reader.rest.now ≤ length l.fn.self.reader.rest.now)

abbrev pub decreases-statements-loop-self : goal.decreases-statements-loop-self
decreases-statements-loop-self l = length l.self.reader.rest.now
