use Rattle.std.proofs.Common.{◌≡◌, ◌≤◌, take}
use Rattle.std.specs.Prelude.{count_by}
use Rattle.oc_isa.specs.Image.{is_main}
use Rattle.oc_verify.proofs.layout.mains.Given as goal

abbrev pub invariant-loop-function : goal.invariant-loop-function
invariant-loop-function l = record {
  few : l.mains ≤ l.function-index;
  count : l.mains ≡ count_by is_main (take l.function-index l.functions);
}
