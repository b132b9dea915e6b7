use Rattle.std.proofs.Common.{◌∙◌, sym, ap}
use Rattle.oc_meaning.specs.Run.{in_order}
use Rattle.oc_interpreter.proofs.TraceLaws.{in_order-told}
use Rattle.oc_interpreter.proofs.store.Store.into_parts.Goals as goal

pub returns-clause-events : goal.returns-clause-events
returns-clause-events c = sym (in_order-told c.self.inside.events.items) ∙ ap (λ s. in_order s.events) c.self.view_is
