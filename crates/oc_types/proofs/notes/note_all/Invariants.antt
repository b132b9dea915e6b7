use Rattle.std.specs.List.{All}
use Rattle.oc_tree.specs.View.{program_view}
use Rattle.oc_types.specs.Marks.{IsNoted}
use Rattle.oc_types.proofs.notes.note_all.Given as goal

abbrev pub invariant-loop-name : goal.invariant-loop-name
invariant-loop-name l = All (λ n. IsNoted (program_view l.program) n.name.now n.assigning n.mentioning) l.noted.items
