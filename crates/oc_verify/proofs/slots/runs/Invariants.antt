use Rattle.std.proofs.Common.{◌≡◌, ◌≤◌, ◌++◌, drop}
use Rattle.std.specs.Prelude.{map}
use Rattle.oc_verify.specs.Own.{runs_of}
use Rattle.oc_verify.specs.Told.{kind_of}
use Rattle.oc_verify.proofs.slots.runs.Given as goal

abbrev pub invariant-loop-code : goal.invariant-loop-code
invariant-loop-code l = record {
  few : l.run ≤ l.code-index;
  whole : l.runs.items ++ runs_of l.run (map kind_of (drop l.code-index l.codes)) ≡ runs_of 0 (map kind_of l.codes);
}
