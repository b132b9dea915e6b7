use Rattle.std.proofs.Common.{◌≡◌, ◌≤◌, length, arith, false, nat_lt, sym, ◌∙◌}
use Rattle.oc_undo.specs.Undo.{has_entry}
use Rattle.oc_undo.proofs.Marks.{no_entry_past}
use Rattle.oc_undo.proofs.log.UndoLog.marked.Goals as goal

pub returns-else-at-len : goal.returns-else-at-len
returns-else-at-len c =
    let past : length c.self.inside.marks.items ≤ c.args.addr = omega arith in
    let none : has_entry c.self.inside.entries.items c.args.addr ≡ false = no_entry_past _ _ _ c.self.invariant.0.inside past in
    let same : has_entry c.args.self.now.entries c.args.addr ≡ false = rw (← c.self.view_is) none in
    let beyond : nat_lt c.args.addr c.len.result ≡ false = grind arith in
    beyond ∙ sym same
