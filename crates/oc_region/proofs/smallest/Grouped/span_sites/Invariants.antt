use Rattle.std.proofs.Common.{◌≡◌, drop}
use Rattle.oc_region.specs.Smallest.{groups_in, spread}
use Rattle.oc_region.specs.Views.{spread_from}
use Rattle.oc_region.proofs.smallest.Grouped.span_sites.Given as goal

abbrev pub invariant-loop-s : goal.invariant-loop-s
invariant-loop-s l = spread_from l.all (groups_in l.self.program l.self.groups l.block (drop l.s-index l.sites)) ≡ spread (groups_in l.self.program l.self.groups l.block l.sites)
