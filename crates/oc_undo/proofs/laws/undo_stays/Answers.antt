use Rattle.oc_undo.proofs.Undone.{undo_write_marked, undo_noted, one_undone}
use Rattle.oc_undo.proofs.laws.undo_stays.Goals as goal

pub returns-clause-write : goal.returns-clause-write
returns-clause-write c = undo_write_marked

pub returns-clause-note : goal.returns-clause-note
returns-clause-note c = undo_noted

pub returns-clause-part : goal.returns-clause-part
returns-clause-part c = one_undone
