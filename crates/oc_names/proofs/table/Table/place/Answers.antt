use Rattle.std.proofs.Common.{◌≡◌, ◌∙◌, ap}
use Rattle.oc_tree.specs.Calls.{place}
use Rattle.oc_names.proofs.Entries.{place_within}
use Rattle.oc_names.proofs.table.Table.place.Goals as goal

pub returns-clause-below : goal.returns-clause-below
returns-clause-below c =
    let e : c.get.result ≡ place c.args.self.now c.args.name.now = c.get.ensures ∙ c.self.invariant c.args.name.now ∙ ap (λ l. place l c.args.name.now) c.self.view_is in
    place_within c.get.result c.args.self.now c.args.name.now e
