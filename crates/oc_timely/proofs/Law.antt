-- The law, from what is good of each run.
use Rattle.std.proofs.Common.{List, [], ap, subst}
use Rattle.oc_tree.specs.Tree.{TProgram}
use Rattle.oc_tree.specs.declared.said.Said.TheVariants.{Ended}
use Rattle.oc_tree.specs.declared.said.Ending.TheVariants.{Halted}
use Rattle.oc_meaning.specs.Store.{Event, noted}
use Rattle.oc_meaning.specs.Cuts.{events_in}
use Rattle.oc_meaning.specs.Exec.{Outcome, Went, Returned, Stopped, Trap, Short}
use Rattle.oc_meaning.specs.Run.{Trace, trace_of, main_run, marked_run}
use Rattle.oc_meaning.specs.Unmarked.{MarksOnlyTell}
use Rattle.oc_honest.specs.Timely.{AreTimely, lived_from}
use Rattle.oc_honest.specs.Held.{ran, AreHeld}
use Rattle.oc_timely.specs.Covering.{MarksHold, MarksAreTimely}
use Rattle.oc_timely.specs.Enough.{AllGood, RunsAreGood}
use Rattle.oc_timely.proofs.Good.{good_held}
use Rattle.oc_honest.proofs.Items.{held_is_timely}

-- the end of a run depends on nothing
trace_held : (p : TProgram) (o : Outcome) → AllGood p (events_in o) → AreHeld p (ran (trace_of o).events)
trace_held p (Went σ) g = good_held p (noted (Ended Halted) [] σ).events (tt, g)
trace_held p (Returned v σ) g = good_held p (noted (Ended Halted) [] σ).events (tt, g)
trace_held p (Stopped Trap σ) g = good_held p σ.events g
trace_held p (Stopped Short σ) g = good_held p σ.events g

pub marks_hold : RunsAreGood → MarksHold
marks_hold good m marked covering samples = trace_held m.program (main_run m.program m.regions samples) (good m marked covering samples)

pub marks_are_timely : RunsAreGood → MarksOnlyTell → MarksAreTimely
marks_are_timely good only m marked covering samples items tells =
    let es : List Event = (marked_run m.program m.regions samples).events in
    subst (λ (ds : List Event). AreTimely m.program (lived_from 0 items ds)) (ap (λ (t : Trace). t.events) (only m.program m.regions samples))
    (held_is_timely m.program es items tells (marks_hold good m marked covering samples))
