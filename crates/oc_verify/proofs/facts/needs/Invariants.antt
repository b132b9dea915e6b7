use Rattle.std.proofs.Common.{◌≡◌, drop}
use Rattle.std.specs.Prelude.{max}
use Rattle.oc_verify.specs.Facts.{needs}
use Rattle.oc_verify.proofs.facts.needs.Given as goal

abbrev pub invariant-loop-target : goal.invariant-loop-target
invariant-loop-target l = needs l.targets ≡ max l.needs (needs (drop l.target-index l.targets))
