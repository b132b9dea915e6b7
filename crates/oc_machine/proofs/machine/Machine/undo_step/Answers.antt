use Rattle.std.proofs.Common.{◌∙◌, All, List, ℤ, FitsSigned, ap, rules, subst, sym}
use Rattle.std.specs.Int.{w32}
use Rattle.oc_undo.specs.Undo.{Log}
use Rattle.oc_undo.specs.declared.Entry.{Entry}
use Rattle.oc_machine.proofs.Words.{entries_kept, undone_fits}
use Rattle.oc_machine.proofs.machine.Machine.undo_step.Goals as goal

pub invariant_of-self : goal.invariant_of-self
invariant_of-self c =
    let i = c.self.invariant in
    let u = c.undo_one.ensures in
    record {
      made = i.made;
      prepared = i.prepared;
      entry_is = i.entry_is;
      frame_is = i.frame_is;
      entry_low = i.entry_low;
      pc_low = i.pc_low;
      fp_low = i.fp_low;
      room = i.room;
      nv_few = search rules;
      nv_fit = subst (λ (ws : List ℤ). All (FitsSigned w32) ws) (sym u.words) (undone_fits _ _ _ i.nv_fit i.old_fit);
      old_fit = subst (λ (es : List Entry). All (λ e. FitsSigned w32 e.old) es) (sym (ap (λ (l : Log). l.entries) u.log ∙ entries_kept _ _)) i.old_fit;
      noted = search rules;
      size = i.size;
      agrees = search rules;
    }
