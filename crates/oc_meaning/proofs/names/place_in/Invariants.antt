use Rattle.std.proofs.Common.{◌≡◌, ◌+◌, drop}
use Rattle.oc_meaning.specs.Exec.{number_in}
use Rattle.oc_meaning.proofs.names.place_in.Given as goal

abbrev pub invariant-loop-other : goal.invariant-loop-other
invariant-loop-other l = (l.number ≡ l.other-index) × (l.number + number_in (drop l.other-index l.names) l.name ≡ number_in l.names l.name)
