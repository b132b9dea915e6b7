use Rattle.std.proofs.Common.{◌≡◌, take}
use Rattle.std.specs.Prelude.{map}
use Rattle.oc_verify.specs.Facts.{needs}
use Rattle.oc_verify.proofs.facts.all_needs.Given as goal

abbrev pub invariant-loop-targets : goal.invariant-loop-targets
invariant-loop-targets l = l.all.items ≡ map needs (map (λ r. r.items) (take l.targets-index l.regions))
