use Rattle.std.proofs.Common.{◌≡◌, ℕ, None, drop}
use Rattle.std.proofs.Math.ListN.{get_or}
use Rattle.oc_tree.specs.Checked.{group_of}
use Rattle.oc_region.specs.Views.{or_group}
use Rattle.oc_region.proofs.groups.group_table.Given as goal

abbrev pub invariant-loop-group : goal.invariant-loop-group
invariant-loop-group l = (s : ℕ) → or_group (get_or l.table.items s None) (group_of l.effects.program (drop l.group-index l.group-items) s) ≡ group_of l.effects.program l.effects.groups s
