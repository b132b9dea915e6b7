use Rattle.oc_steps.proofs.Aging.{steps_age, senses_age}
use Rattle.oc_steps.proofs.laws.steps_age.Goals as goal

pub returns-clause-steps : goal.returns-clause-steps
returns-clause-steps c = steps_age

pub returns-clause-senses : goal.returns-clause-senses
returns-clause-senses c = senses_age
