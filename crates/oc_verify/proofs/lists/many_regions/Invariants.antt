use Rattle.std.proofs.Common.{◌-◌}
use Rattle.std.specs.Prelude.{map}
use Rattle.oc_verify.specs.Reading.{list_at, target_at}
use Rattle.oc_verify.proofs.Many.{IsMany}
use Rattle.oc_verify.proofs.lists.many_regions.Given as goal

abbrev pub invariant-loop-done : goal.invariant-loop-done
invariant-loop-done l = IsMany (list_at target_at) l.count l.initial.reader (map (λ r. r.items) l.regions.items) (l.count - l._done) l.reader
