use Rattle.std.proofs.Common.{List, sym, subst}
use Rattle.std.specs.List.{All}
use Rattle.std.proofs.lemmas.List.Elements.{All-push}
use Rattle.oc_tree.specs.View.{program_view}
use Rattle.oc_types.specs.Marks.{IsNoted}
use Rattle.oc_types.specs.declared.notes.Noted.{Noted}
use Rattle.oc_types.proofs.notes.note_all.Goals as goal

pub loop-name-preserved : goal.loop-name-preserved
loop-name-preserved c =
    let fine : Noted → Type 0 = λ n. IsNoted (program_view c.args.program.now) n.name.now n.assigning n.mentioning in
    subst (λ (ns : List Noted). All fine ns) (sym {A = List Noted} c.in_ok-push.ensures.items)
    (All-push fine c.loop-name.noted.items c.in_ok-note.field-0 c.loop-name.invariant c.in_ok-note.ensures)
