use Rattle.oc_items.specs.Reading.{NoneBefore}
use Rattle.oc_items.proofs.read.read_named_value.Given as goal

abbrev pub invariant-loop-place : goal.invariant-loop-place
invariant-loop-place l = NoneBefore l.names l.bytes l.place
