use Rattle.std.proofs.Common.{ap, ◌∙◌, ◌≡◌, length, arith, drop}
use Rattle.oc_undo.proofs.Marks.{no_marks, kept_front}
use Rattle.oc_undo.proofs.log.UndoLog.clear.Goals as goal

pub invariant_of-self : goal.invariant_of-self
invariant_of-self c =
    let back : c.self.inside.back ≡ 0 = ap (λ v. v.back) (c.self.view_is ∙ c.restart.ensures) in
    let size : length c.unmark.new.marks ≡ c.self.inside.marks.len = omega arith in
    rw (kept_front c.self.inside.marks.len c.unmark.new.marks (drop (length c.unmark.new.marks) c.self.inside.marks.items) size)
    (no_marks _ _ c.clear.ensures.items c.unmark.ensures, omega arith, omega arith)
