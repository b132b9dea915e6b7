use Rattle.std.proofs.Common.{◌≡◌, ℕ, false}
use Rattle.std.specs.Prelude.{slice_get}
use Rattle.oc_tree.specs.Reach.{linked}
use Rattle.oc_verify.specs.Rules.{calls_of}
use Rattle.oc_verify.specs.Tables.{Calls, IsPassed, passed_seen, with_calls}
use Rattle.oc_verify.specs.Walks.{table_marks}
use Rattle.oc_verify.proofs.SeenLaws.{CallsEach}
use Rattle.oc_verify.proofs.kinds.pass_all.Given as goal

abbrev pub invariant-loop-at : goal.invariant-loop-at
invariant-loop-at l = record {
  passed : (seen : Calls) → IsPassed l.facts seen (table_marks l.table) (passed_seen l.initial.passed.items) → IsPassed l.facts (with_calls seen l.function l.at)
      (table_marks l.table) (passed_seen l.passed.items);
  kept : (k : ℕ) → linked (calls_of l.facts) l.function k ≡ false → slice_get (passed_seen l.passed.items) k ≡ slice_get (passed_seen l.initial.passed.items) k;
  calls : CallsEach l.facts l.table l.function l.at l.calls;
}
