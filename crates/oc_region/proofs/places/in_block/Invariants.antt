use Rattle.std.proofs.Common.{◌≡◌, drop, Some}
use Rattle.std.specs.Prelude.{find}
use Rattle.oc_tree.specs.Places.{block_of}
use Rattle.oc_tree.specs.Checked.{same_block}
use Rattle.oc_region.specs.Smallest.{in_block}
use Rattle.oc_region.proofs.places.in_block.Given as goal

abbrev pub invariant-loop-t : goal.invariant-loop-t
invariant-loop-t l = find (λ t. same_block (block_of l.effects.program t) (Some l.block)) (drop l.t-index l.t-items) ≡ in_block l.effects.program l.block l.s
