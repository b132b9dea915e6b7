use Rattle.std.proofs.Common.{◌≡◌, ◌++◌, drop}
use Rattle.oc_tree.specs.View.{stmts_view}
use Rattle.oc_tree.specs.Calls.{stmts_kinds}
use Rattle.oc_names.specs.Seen.{name_seen}
use Rattle.oc_reach.specs.Views.{kinds_seen}
use Rattle.oc_reach.proofs.parts.+kinds.Given as goal

abbrev pub invariant-block_kinds-loop-statement : goal.invariant-block_kinds-loop-statement
invariant-block_kinds-loop-statement l =
    kinds_seen l.kinds.items ++ stmts_kinds (name_seen l.of) (stmts_view (drop l.statement-index l.statement-items))
    ≡ kinds_seen l.initial.kinds.items ++ stmts_kinds (name_seen l.of) (stmts_view l.statement-items)
