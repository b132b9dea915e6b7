use Rattle.std.proofs.Common.{◌≡◌, ◌∙◌, List, [], ◌∷◌, ◌++◌, ap, sym, rules}
use Rattle.oc_io.specs.declared.period.Period.{Period}
use Rattle.oc_power.proofs.Pieces.{taken_more}
use Rattle.oc_power.proofs.trace.Trace.to_vec.Goals as goal

pub loop-at-preserved : goal.loop-at-preserved
loop-at-preserved c =
    let next = c.period-next.result in
    let more : c.push.new.self.items ≡ c.loop-at.periods.items ++ next ∷ [] = search rules in
    more ∙ ap (λ (done : List Period). done ++ next ∷ []) c.loop-at.invariant ∙ sym (taken_more c.args.self.now c.loop-at.at next c.period-next.ensures)
