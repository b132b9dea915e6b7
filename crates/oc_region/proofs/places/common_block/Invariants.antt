use Rattle.std.proofs.Common.{◌≡◌, drop}
use Rattle.std.specs.Prelude.{find, flat_map, option_to_list}
use Rattle.oc_tree.specs.Places.{block_of}
use Rattle.oc_region.specs.Smallest.{common_block}
use Rattle.oc_region.specs.Views.{all_in_block}
use Rattle.oc_region.proofs.places.common_block.Given as goal

abbrev pub invariant-loop-t : goal.invariant-loop-t
invariant-loop-t l = find (all_in_block l.effects.program l.others) (flat_map (λ t. option_to_list (block_of l.effects.program t)) (drop l.t-index l.t-items)) ≡ common_block l.effects.program l.sites
