use Rattle.oc_tree.proofs.ReachLaws.{links_lead, leads_trans}
use Rattle.oc_tree.proofs.laws.calls_lead.Goals as goal

pub returns-clause-direct : goal.returns-clause-direct
returns-clause-direct c = λ links n u v h. links_lead links n u v h

pub returns-clause-on : goal.returns-clause-on
returns-clause-on c = leads_trans
