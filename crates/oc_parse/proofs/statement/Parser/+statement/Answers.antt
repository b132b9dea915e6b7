use Rattle.std.proofs.Common.{rules, ◌≡◌, [], ◌∷◌, ◌++◌, length, map, refl, arith, w32, to_z, of_z}
use Rattle.std.proofs.lemmas.Result.{err_from_is_err_and}
use Rattle.std.proofs.lemmas.List.{map_push, length-map}
use Rattle.oc_tree.specs.View.{block_view, expr_view, kind_view, stmt_view}
use Rattle.oc_grammar.specs.Limits.{the_depths}
use Rattle.oc_grammar.specs.ReadingStatements.{if_by, block_at, stmts_at}
use Rattle.oc_parse.specs.Parts.{ranged_by, statement_of}
use Rattle.oc_parse.specs.Steps.{from, left}
use Rattle.oc_parse.proofs.Views.{view_block, view_for, view_if, view_stmt, view_while}
use Rattle.oc_parse.proofs.StatementLoops.{block_goes_on, block_stops, block_ends, expect_stops, block_too_deep, inside_stops, block_is, chained_too_deep, chained_stops, chained_is, lexeme_line, stmt_is_read, stmt_stops, adds_one}
use Rattle.oc_parse.proofs.StatementParts.{for_is, while_is}
use Rattle.oc_parse.proofs.statement.Parser.+statement.Goals as goal

pub block-returns-in_err-expect-clause-exact : goal.block-returns-in_err-expect-clause-exact
block-returns-in_err-expect-clause-exact t c =
    let p = err_from_is_err_and c.from_residual.result c.from_residual.ensures.1 in
    rw (p.1, p.2) (expect_stops c.args.room c.args.self.now.statements c.args.self.now.blocks (left c.args.self.now.reader) c.in_err-expect.field-0.0 c.in_err-expect.ensures.exact)

pub block-returns-then-room-eq0-clause-exact : goal.block-returns-then-room-eq0-clause-exact
block-returns-then-room-eq0-clause-exact t c =
    rw c.too_many_blocks.ensures (block_too_deep c.args.room c.args.self.now.statements c.args.self.now.blocks (left c.args.self.now.reader) (left c.expect.new.self)
    (length c.expect.new.self.rest.now) c.if-room-eq0.true c.in_ok-expect.ensures.exact (length-map c.expect.new.self.rest.now _))

pub block-returns-in_err-statements-clause-exact : goal.block-returns-in_err-statements-clause-exact
block-returns-in_err-statements-clause-exact t c =
    let p = err_from_is_err_and c.from_residual-in_err-statements.result c.from_residual-in_err-statements.ensures.1 in
    rw (p.1, p.2) (inside_stops c.args.room c.args.self.now.statements c.args.self.now.blocks (left c.args.self.now.reader) (left c.expect.new.self) c.in_err-statements.field-0.0
    (omega arith) c.in_ok-expect.ensures.exact c.in_err-statements.ensures.exact)

pub block-returns-clause-exact : goal.block-returns-clause-exact
block-returns-clause-exact t c =
    rw view_block (block_is c.args.room c.args.self.now.statements c.args.self.now.blocks (left c.args.self.now.reader) (left c.expect.new.self)
    (map stmt_view c.in_ok-statements.statements.items) c.statements.new.self.statements c.statements.new.self.blocks (left c.statements.new.self.reader)
    (omega arith) c.in_ok-expect.ensures.exact c.in_ok-statements.ensures.exact)

pub else_if-returns-then-room-eq0-clause-exact : goal.else_if-returns-then-room-eq0-clause-exact
else_if-returns-then-room-eq0-clause-exact t c =
    rw c.too_many_chained.ensures (chained_too_deep c.args.room c.args.self.now.statements c.args.self.now.blocks (left c.args.self.now.reader)
    (length c.args.self.now.reader.rest.now) c.if-room-eq0.true (length-map c.args.self.now.reader.rest.now _))

pub else_if-returns-in_err-statement-clause-exact : goal.else_if-returns-in_err-statement-clause-exact
else_if-returns-in_err-statement-clause-exact t c =
    let p = err_from_is_err_and c.from_residual.result c.from_residual.ensures.1 in
    rw (p.1, p.2) (chained_stops c.args.room c.args.self.now.statements c.args.self.now.blocks (left c.args.self.now.reader) c.in_err-statement.field-0.0
    (omega arith) c.in_err-statement.ensures.exact)

pub else_if-returns-clause-exact : goal.else_if-returns-clause-exact
else_if-returns-clause-exact t c =
    let s = c.in_ok-statement.ensures.exact in
    let e : c.statement.new.statements.items ≡ s.one ∷ [] = rw (s.adds, c.new-statements.ensures.items) refl in
    rw (view_block, e) (chained_is c.args.room c.args.self.now.statements c.args.self.now.blocks (left c.args.self.now.reader) (stmt_view s.one)
    c.statement.new.self.statements c.statement.new.self.blocks (left c.statement.new.self.reader) (omega arith) s.reads)

pub statement-returns-clause-exact : goal.statement-returns-clause-exact
statement-returns-clause-exact t c =
    let l = lexeme_line c.next.new.self.atomic c.in_ok-token.token.line _ c.in_ok-token.token.kind in
    adds_one c.add_statement.result c.args.statements.now.items c.add_statement.new.statements.items
    (statement_of c.args.self.now.statements c.in_ok-token.token.line c.in_ok-kind.kind) c.kind.new.self _
    (rw view_stmt (stmt_is_read c.args.room c.args.self.now.statements c.args.self.now.blocks (left c.args.self.now.reader) _ _ c.in_ok-token.token.line
    (kind_view c.in_ok-kind.kind) c.kind.new.self.statements c.kind.new.self.blocks (left c.kind.new.self.reader) c.in_ok-token.ensures.exact l c.in_ok-kind.ensures.exact))
    c.add_statement.ensures

pub statements-returns-in_err-statement-clause-exact : goal.statements-returns-in_err-statement-clause-exact
statements-returns-in_err-statement-clause-exact t c =
    let p = err_from_is_err_and c.from_residual.result c.from_residual.ensures.1 in
    rw (p.1, p.2) (block_stops c.args.room (map stmt_view c.loop-self.statements.items) c.loop-self.self.statements c.loop-self.self.blocks
    (left c.loop-self.self.reader) c.in_err-statement.field-0.0 (from (stmts_at the_depths c.args.room) c.args.self.now) c.loop-self-test.ensures.exact
    (rw c.loop-self-test.ensures.kept at c.in_err-statement.ensures.exact) c.loop-self.invariant.0)

pub statements-loop-self-preserved : goal.statements-loop-self-preserved
statements-loop-self-preserved t c =
    let s = c.in_ok-statement.ensures.exact in
    let e : map stmt_view c.statement.new.statements.items ≡ map stmt_view c.loop-self.statements.items ++ stmt_view s.one ∷ [] =
    rw s.adds (map_push _ c.loop-self.statements.items s.one) in (
      rw e (block_goes_on c.args.room (map stmt_view c.loop-self.statements.items) c.loop-self.self.statements c.loop-self.self.blocks (left c.loop-self.self.reader)
          (stmt_view s.one) c.statement.new.self.statements c.statement.new.self.blocks (left c.statement.new.self.reader)
          (from (stmts_at the_depths c.args.room) c.args.self.now) c.loop-self-test.ensures.exact (rw c.loop-self-test.ensures.kept at s.reads) c.loop-self.invariant.0),
      c.in_ok-statement.ensures.fits,
      omega (arith, c.loop-self-test.ensures.shorter, c.in_ok-statement.ensures.shorter),
    )

pub statements-returns-clause-exact : goal.statements-returns-clause-exact
statements-returns-clause-exact t c =
    block_ends c.args.room (map stmt_view c.loop-self.statements.items) c.loop-self.self.statements c.loop-self.self.blocks (left c.loop-self.self.reader) (left c.take.new.self)
    (from (stmts_at the_depths c.args.room) c.args.self.now) c.loop-self-test.ensures.exact c.loop-self.invariant.0

pub for_statement-returns-clause-exact : goal.for_statement-returns-clause-exact
for_statement-returns-clause-exact t c =
    let i : to_z w32 (of_z w32 c.in_ok-from.from) ≡ c.in_ok-from.from = search rules in
    let j : to_z w32 (of_z w32 c.in_ok-from.to) ≡ c.in_ok-from.to = search rules in
    rw (view_for, i, j) (for_is (block_at the_depths c.args.room) c.args.self.now.statements c.args.self.now.blocks (left c.args.self.now.reader) c.in_ok-name.name (left c.name.new.self)
    c.in_ok-from.from c.in_ok-from.to (block_view c.in_ok-from.body) c.ranged_block.new.self.statements c.ranged_block.new.self.blocks (left c.ranged_block.new.self.reader)
    c.in_ok-name.ensures.exact c.in_ok-from.ensures.exact)

pub while_statement-returns-in-Ok-clause-exact : goal.while_statement-returns-in-Ok-clause-exact
while_statement-returns-in-Ok-clause-exact t c =
    rw view_while (while_is (block_at the_depths c.args.room) c.args.self.now.statements c.args.self.now.blocks (left c.args.self.now.reader) (expr_view c.in_ok-condition.condition)
    (left c.expression.new.self) c.in-Ok.bound (block_view c.in-Ok.body) c.bounded_block.new.self.statements c.bounded_block.new.self.blocks (left c.bounded_block.new.self.reader)
    c.in_ok-condition.ensures.exact c.in-Ok.ensures.exact)

pub statement-returns-in_err-kind-clause-exact : goal.statement-returns-in_err-kind-clause-exact
statement-returns-in_err-kind-clause-exact t c =
    let p = err_from_is_err_and c.from_residual-in_err-kind.result c.from_residual-in_err-kind.ensures.1 in
    rw (p.1, p.2) (stmt_stops c.args.room c.args.self.now.statements c.args.self.now.blocks (left c.args.self.now.reader) _ _ c.in_err-kind.field-0.0 c.in_ok-token.ensures.exact
    c.in_err-kind.ensures.exact)

pub ranged_block-returns-clause-exact : goal.ranged_block-returns-clause-exact
unfolding ranged_by
ranged_block-returns-clause-exact t c =
    let i : to_z w32 (of_z w32 c.in_ok-from.from) ≡ c.in_ok-from.from = search rules in
    let j : to_z w32 (of_z w32 c.in_ok-to.to) ≡ c.in_ok-to.to = search rules in
    rw (i, j, c.in_ok-expect_word.ensures.exact, c.in_ok-from.ensures.exact, c.in_ok-expect.ensures.exact, c.in_ok-to.ensures.exact, c.in_ok-body.ensures.exact) refl

pub if_statement-returns-in-Ok-otherwise-clause-exact : goal.if_statement-returns-in-Ok-otherwise-clause-exact
unfolding if_by
if_statement-returns-in-Ok-otherwise-clause-exact t c =
    rw (view_if, c.in_ok-condition.ensures.exact, c.in-Ok.ensures.exact, c.in-Ok-otherwise.ensures.exact) refl
