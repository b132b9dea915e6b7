use Rattle.oc_items.proofs.Tells.{items_tell}
use Rattle.oc_items.proofs.laws.items_tell.Goals as goal

pub returns : goal.returns
returns c = items_tell
