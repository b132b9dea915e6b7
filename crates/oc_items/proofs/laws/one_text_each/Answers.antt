use Rattle.oc_items.proofs.Back.{one_text}
use Rattle.oc_items.proofs.laws.one_text_each.Goals as goal

pub returns : goal.returns
returns c = one_text
