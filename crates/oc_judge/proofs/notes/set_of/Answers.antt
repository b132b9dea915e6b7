use Rattle.std.proofs.Common.{refl, sym, ap, ◌∙◌, map}
use Rattle.oc_tree.specs.View.{function_view, program_view}
use Rattle.oc_judge.specs.Notes.{set_from}
use Rattle.oc_judge.proofs.NoteLaws.{set_found}
use Rattle.oc_judge.proofs.notes.set_of.Goals as goal

pub loop-function-init : goal.loop-function-init
loop-function-init c =
    (refl, ap (λ fs. set_from c.args.n 0 (map function_view fs)) c.deref-function-items.ensures.value ∙ sym (set_found (program_view c.args.program.now) c.args.n))
