use Rattle.oc_items.proofs.ErasedLaws.{erases_it, erases_alone}
use Rattle.oc_items.proofs.laws.erased_alone.Goals as goal

pub returns-clause-erases : goal.returns-clause-erases
returns-clause-erases c = erases_it

pub returns-clause-alone : goal.returns-clause-alone
returns-clause-alone c = erases_alone
