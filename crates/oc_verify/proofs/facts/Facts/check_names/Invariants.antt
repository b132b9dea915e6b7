use Rattle.std.proofs.Common.{◌≡◌, ◌<◌, ◌≤◌, ℕ, true, Some}
use Rattle.std.specs.Prelude.{slice_get}
use Rattle.oc_isa.specs.declared.instr.Placed.{Placed}
use Rattle.oc_verify.specs.Rules.{names_exist, returns_right}
use Rattle.oc_verify.proofs.facts.Facts.check_names.Given as goal

abbrev pub invariant-loop-at : goal.invariant-loop-at
invariant-loop-at l = (a : ℕ) (p : Placed) → l.entry ≤ a → a < l.at → slice_get l.self.code a ≡ Some p
    → (names_exist l.self l.function p.instr ≡ true) × (returns_right l.self l.function p.instr ≡ true)
