use Rattle.std.proofs.Common.{◌≡◌, ◌≤◌, drop}
use Rattle.oc_verify.specs.Rules.{rises_from}
use Rattle.oc_verify.proofs.layout.rises_from.Given as goal

abbrev pub invariant-loop-function : goal.invariant-loop-function
invariant-loop-function l = record {
  low : l.low ≤ 4294967296;
  whole : rises_from l.start l.functions ≡ rises_from l.low (drop l.function-index l.functions);
}
