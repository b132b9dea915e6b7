use Rattle.std.proofs.Common.{◌≡◌, drop, map, take}
use Rattle.oc_tree.specs.Names.{names_seen}
use Rattle.oc_tree.specs.View.{block_view, function_view, stmts_view}
use Rattle.oc_types.specs.Shown.{all_names, assigned_names, block_shown, stmts_shown}
use Rattle.oc_types.proofs.shown.+shown.Given as goal

abbrev pub invariant-show_block-loop-statement : goal.invariant-show_block-loop-statement
invariant-show_block-loop-statement l = record {
  named : stmts_shown all_names l.hidden (names_seen l.shown.named.items) (stmts_view (drop l.statement-index l.statements))
      ≡ block_shown all_names l.initial.hidden (names_seen l.initial.shown.named.items) (block_view l.block);
  assigned : stmts_shown (assigned_names (map function_view l.lends)) l.hidden (names_seen l.shown.assigned.items) (stmts_view (drop l.statement-index l.statements))
      ≡ block_shown (assigned_names (map function_view l.lends)) l.initial.hidden (names_seen l.initial.shown.assigned.items) (block_view l.block);
  kept : take l.mark l.hidden ≡ l.initial.hidden;
}
