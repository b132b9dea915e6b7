use Rattle.std.proofs.Common.{◌≡◌, subst}
use Rattle.std.specs.Result.{IfOk}
use Rattle.std.proofs.lemmas.Result.{IfOk-weaker}
use Rattle.oc_tree.specs.View.{program_view}
use Rattle.oc_tree.specs.Broken.{broken_element}
use Rattle.oc_tree.specs.declared.tree.Program.{Program}
use Rattle.oc_types.specs.Walk.{Ends, program_walk}
use Rattle.oc_types.proofs.InOrder.{ends_broken}
use Rattle.oc_types.proofs.elements.find_broken_element.Goals as goal

pub returns-in-Ok : goal.returns-in-Ok
returns-in-Ok c =
    let p = program_view c.args.program.now in
    let walked = c.walk_program.result in
    let P : Program → Type 0 = λ q. IfOk walked (λ r. Ends r (program_walk (program_view q))) in
    IfOk-weaker walked (λ r. Ends r (program_walk p)) (λ r. r ≡ broken_element p) (ends_broken p) (subst P c.in-Ok.ensures c.walk_program.ensures)
