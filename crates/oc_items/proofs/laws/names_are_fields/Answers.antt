use Rattle.oc_items.proofs.Spelled.{names_fit}
use Rattle.oc_items.proofs.laws.names_are_fields.Goals as goal

pub returns : goal.returns
returns c = names_fit
