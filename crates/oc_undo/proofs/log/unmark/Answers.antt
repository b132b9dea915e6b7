use Rattle.std.proofs.Common.{◌<◌, length, arith, All}
use Rattle.oc_undo.specs.declared.Entry.{Entry}
use Rattle.oc_undo.proofs.Marks.{unmark_more, unmark_done}
use Rattle.oc_undo.proofs.log.unmark.Goals as goal

pub loop-entry-preserved : goal.loop-entry-preserved
loop-entry-preserved c =
    let inside : All (λ (e : Entry). e.addr < length c.loop-entry.marks) c.args.entries.now = λ i d h. omega (arith, c.requires.inside i d h) in
    unmark_more _ _ _ _ c.loop-entry-test.true inside c.loop-entry.invariant

pub returns : goal.returns
returns c = unmark_done _ _ _ c.loop-entry-test.false c.loop-entry.invariant
