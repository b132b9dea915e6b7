use Rattle.std.proofs.Common.{◌≡◌, drop}
use Rattle.oc_tree.specs.View.{block_view, stmts_view}
use Rattle.oc_command.specs.DeclaredNames.{block_names, stmts_names}
use Rattle.oc_command.proofs.names.+seeking_declarations.Given as goal

abbrev pub invariant-declared_in_block-loop-statement : goal.invariant-declared_in_block-loop-statement
invariant-declared_in_block-loop-statement l =
    stmts_names l.s (stmts_view (drop l.statement-index l.statement-items)) ≡ block_names l.s (block_view l.block)
