-- Marked runs are timely.
use Rattle.oc_meaning.proofs.Bare.{only_tell}
use Rattle.oc_timely.specs.Covering.{MarksAreTimely}
use Rattle.oc_timely.specs.Enough.{RunsAreGood}
use Rattle.oc_timely.proofs.AllFlow.{all_flow}
use Rattle.oc_timely.proofs.Ending.{runs_are_good}
use Rattle.oc_timely.proofs.Law.{marks_are_timely}
use Rattle.oc_timely.proofs.Parted.{runs_part_none}

pub all_good : RunsAreGood
all_good = runs_are_good all_flow (runs_part_none all_flow)

pub all_timely : MarksAreTimely
all_timely = marks_are_timely all_good only_tell
