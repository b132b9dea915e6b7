use Rattle.oc_undo.proofs.Undone.{rollback_is, length-undo, undo_at}
use Rattle.oc_undo.proofs.laws.rollback_undoes.Goals as goal

pub returns-clause-again : goal.returns-clause-again
returns-clause-again c = rollback_is

pub returns-clause-words : goal.returns-clause-words
returns-clause-words c = undo_at

pub returns-clause-size : goal.returns-clause-size
returns-clause-size c = length-undo
