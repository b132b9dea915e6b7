use Rattle.std.proofs.Common.{◌≡◌, ◌<◌, ◌≤◌, ℕ, true, Some}
use Rattle.std.specs.Prelude.{slice_get}
use Rattle.oc_isa.specs.declared.instr.Placed.{Placed}
use Rattle.oc_verify.specs.Rules.{slot_right}
use Rattle.oc_verify.specs.Tables.{plain_slots}
use Rattle.oc_verify.proofs.kinds.check_uncalled.Given as goal

abbrev pub invariant-loop-at : goal.invariant-loop-at
invariant-loop-at l = (a : ℕ) (p : Placed) → l.entry ≤ a → a < l.at → slice_get l.facts.code a ≡ Some p → slot_right (plain_slots l.facts l.function) p.instr ≡ true
