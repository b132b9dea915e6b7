use Rattle.oc_outage.proofs.Resting.{ticks_on-over, power_fails-over, one_period-over, through-over, through-begun}
use Rattle.oc_outage.proofs.stays.Goals as goal

pub returns : goal.returns
returns c = record {
  ticks = λ d h w n over. ticks_on-over w over d h n;
  fails = λ d w p over. power_fails-over w over d p;
  period = λ d h w p over. one_period-over w over d h p;
  rest = λ d h w periods over. through-over w over d h periods;
  begun = λ d h w periods. through-begun d h periods w;
}
