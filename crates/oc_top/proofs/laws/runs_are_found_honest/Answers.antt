use Rattle.oc_top.proofs.Vouching.{runs_are_found_honest}
use Rattle.oc_top.proofs.laws.runs_are_found_honest.Goals as goal

pub returns : goal.returns
returns c = runs_are_found_honest c.honest_texts.ensures
