use Rattle.oc_verify.proofs.MergeLaws.{next_call}
use Rattle.oc_verify.proofs.laws.one_call_more.Goals as goal

pub returns : goal.returns
returns c = λ passed old new ks l e h. next_call passed old new ks l e h
