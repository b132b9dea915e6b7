use Rattle.std.proofs.Common.{◌≡◌, drop}
use Rattle.oc_region.specs.Views.{all_in_block}
use Rattle.oc_region.proofs.places.all_in_block.Given as goal

abbrev pub invariant-loop-s : goal.invariant-loop-s
invariant-loop-s l = all_in_block l.effects.program (drop l.s-index l.sites) l.block ≡ all_in_block l.effects.program l.sites l.block
