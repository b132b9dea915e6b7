use Rattle.std.proofs.Common.{ℕ, List, subst}
use Rattle.oc_tree.specs.declared.said.Said.TheVariants.{Ended}
use Rattle.oc_tree.specs.declared.said.Ending.TheVariants.{Halted}
use Rattle.oc_meaning.specs.Store.{noted}
use Rattle.oc_meaning.specs.Cuts.{Oldest}
use Rattle.oc_meaning.proofs.Beginning.{begins}
use Rattle.oc_interpreter.proofs.Cutting.{on_err}
use Rattle.oc_interpreter.proofs.run.halt.Goals as goal

pub returns-in_err-note-clause-cut : goal.returns-in_err-note-clause-cut
returns-in_err-note-clause-cut c =
    let σ = c.args.store.now in
    let es = c.note.new.self.events in
    on_err _ (begins es _ (subst (λ (l : List ℕ). Oldest es (noted (Ended Halted) l σ).events) c.none.ensures c.in_err-note.ensures.cut))
