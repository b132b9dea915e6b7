use Rattle.std.proofs.Common.{◌≡◌, ℕ, true, false, get_or, drop}
use Rattle.oc_undo.specs.Undo.{has_entry}
use Rattle.oc_undo.proofs.log.unmark.Given as goal

abbrev pub invariant-loop-entry : goal.invariant-loop-entry
invariant-loop-entry l = (a : ℕ) → get_or l.marks a false ≡ true → has_entry (drop l.entry-index l.entries) a ≡ true
