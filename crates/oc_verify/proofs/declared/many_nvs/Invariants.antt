use Rattle.std.proofs.Common.{◌≡◌, ◌-◌, ◌++◌}
use Rattle.std.specs.Prelude.{map}
use Rattle.oc_verify.specs.Reading.{nv_at}
use Rattle.oc_verify.proofs.Many.{IsPart}
use Rattle.oc_verify.proofs.declared.many_nvs.Given as goal

abbrev pub invariant-loop-done : goal.invariant-loop-done
invariant-loop-done l = record {
  part : IsPart nv_at l.count l.initial.seen l.initial.reader l.nvs.items (l.count - l._done) l.seen l.reader;
  seen : l.seen
      ≡ l.initial.seen ++ map (λ x. x.0) l.nvs.items;
}
