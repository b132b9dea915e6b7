use Rattle.std.proofs.Common.{◌≡◌, ◌∙◌, ap}
use Rattle.oc_flow.specs.Known.{entry_of, number_in}
use Rattle.oc_flow.proofs.Numbers.{number_if}
use Rattle.oc_flow.proofs.numbering.Numbering.number.Goals as goal

pub returns-clause-below : goal.returns-clause-below
returns-clause-below c =
    let e : c.get.result ≡ number_in c.args.self.now c.args.v = c.get.ensures ∙ ap (entry_of c.self.inside.numbers) c.slot.ensures.slot ∙ c.self.invariant c.args.v
    ∙ ap (λ l. number_in l c.args.v) c.self.view_is in
    number_if c.get.result c.args.self.now c.args.v e
