use Rattle.std.proofs.Common.{◌≡◌, ◌<◌, ℕ, drop, length}
use Rattle.std.proofs.Math.ListN.{get_or}
use Rattle.std.specs.Option.{option_or}
use Rattle.oc_tree.specs.declared.tree.VarId.{VarId}
use Rattle.oc_flow.specs.Known.{entry_of, number_from, number_in, slot}
use Rattle.oc_flow.proofs.numbering.numbers_of.Given as goal

abbrev pub invariant-loop-i : goal.invariant-loop-i
invariant-loop-i l = record {
  room : (i : ℕ) (v : VarId) → i < length l.variables → slot (get_or l.variables i v) < length l.numbers;
  numbers : (v : VarId) → option_or (entry_of l.numbers (slot v)) (number_from l.i (drop l.i l.variables) v) ≡ number_in l.variables v;
}
