use Rattle.oc_meaning.proofs.Parts as parts
use Rattle.oc_meaning.proofs.laws.says_parts.Goals as goal

pub returns : goal.returns
returns c = parts.says_parts
