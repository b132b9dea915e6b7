use Rattle.std.proofs.Common.{◌≡◌, drop}
use Rattle.oc_tree.specs.View.{stmts_view}
use Rattle.oc_meaning.specs.Uses.{is_annotated}
use Rattle.oc_meaning.proofs.names.is_annotated.Given as goal

abbrev pub invariant-loop-statement : goal.invariant-loop-statement
invariant-loop-statement l = is_annotated l.name (stmts_view (drop l.statement-index l.rest)) ≡ is_annotated l.name (stmts_view l.rest)
