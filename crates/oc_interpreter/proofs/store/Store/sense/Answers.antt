use Rattle.std.proofs.Common.{◌≡◌, pos, [], ◌∷◌, ◌++◌, ap, ◌∙◌, refl, rules, arith}
use Rattle.std.proofs.Math.ListN.{get_or}
use Rattle.oc_tree.specs.declared.said.Said.TheVariants.{Sensed}
use Rattle.oc_interpreter.specs.declared.store.Event.{Event}
use Rattle.oc_interpreter.specs.Stores.{store_view, told}
use Rattle.oc_interpreter.proofs.Cutting.{as_before, on_err, sense_from}
use Rattle.oc_interpreter.proofs.Events.{told-push, sensed}
use Rattle.oc_interpreter.proofs.store.Store.sense.Goals as goal

pub returns-clause-step : goal.returns-clause-step
returns-clause-step c =
    let i = c.self.inside in
    let n = i.taken in
    let z = get_or i.samples.now n (pos 0) in
    let e : Event = record { said = Sensed c.args.sensor z; samples = n ∷ []; instance = 0 } in
    let pushed : c.tell.new.events.items ≡ i.events.items ++ e ∷ [] = search rules in
    let value : c.new.result ≡ record { num = z; samples = n ∷ [] } = search rules in
    sensed c.args.sensor i.samples.now z c.new.result (told c.tell.new.events.items) (store_view i) c.args.self.now refl (omega arith) refl value
    (ap told pushed ∙ told-push i.events.items e) c.self.view_is

pub returns-in_err-samples-clause-cut : goal.returns-in_err-samples-clause-cut
returns-in_err-samples-clause-cut c =
    let σ = c.args.self.now in
    on_err _ (sense_from σ.events c.args.sensor σ.left σ (as_before σ σ refl))

pub returns-in_err-copy-clause-cut : goal.returns-in_err-copy-clause-cut
returns-in_err-copy-clause-cut c =
    let σ = c.args.self.now in
    on_err _ (sense_from σ.events c.args.sensor σ.left σ (as_before σ σ refl))
