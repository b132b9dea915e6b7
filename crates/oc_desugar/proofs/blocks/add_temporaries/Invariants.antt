use Rattle.std.proofs.Common.{◌≡◌, ◌<◌, ◌^◌, ◌+◌, ◌++◌, map, length}
use Rattle.std.specs.Vec.Iter.{into_iter_items}
use Rattle.oc_tree.specs.View.{right_view, stmt_view}
use Rattle.oc_tree.specs.Expansion.{temporaries}
use Rattle.oc_desugar.proofs.blocks.add_temporaries.Given as goal

abbrev pub invariant-loop-right : goal.invariant-loop-right
invariant-loop-right l =
    (goal.iterator-loop-right).can_next l.right-iterator ×
    (goal.iterator-loop-right).is_finite l.right-iterator ×
    (map stmt_view l.out.items ++ temporaries l.k l.id l.line (map right_view (into_iter_items l.right-iterator))
    ≡ map stmt_view l.initial.out.items ++ temporaries l.initial.k l.initial.id l.line (map right_view (into_iter_items l.initial.right-iterator))) ×
    (l.k + length (map right_view (into_iter_items l.right-iterator)) < 2 ^ 32) ×
    (l.id + length (map right_view (into_iter_items l.right-iterator)) < 2 ^ 32)
