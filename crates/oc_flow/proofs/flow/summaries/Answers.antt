use Rattle.oc_flow.proofs.FlowLaw.{flows_decide, brings_decide}
use Rattle.oc_flow.proofs.Ranks.{ranked}
use Rattle.oc_flow.proofs.flow.summaries.Goals as goal

pub returns-in-Ok-clause-flow : goal.returns-in-Ok-clause-flow
returns-in-Ok-clause-flow c = λ f u v. flows_decide c.in-Ok.summaries.program (ranked c.in-Ok.summaries.program c.in-Ok.summaries.groups c.in-Ok.ensures.checked) f u v

pub returns-in-Ok-clause-brings : goal.returns-in-Ok-clause-brings
returns-in-Ok-clause-brings c = λ f a v i. brings_decide c.in-Ok.summaries.program (ranked c.in-Ok.summaries.program c.in-Ok.summaries.groups c.in-Ok.ensures.checked) f a v i
