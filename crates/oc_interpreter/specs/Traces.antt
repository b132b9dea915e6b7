-- What a computed trace tells, in the meaning's terms.
use Rattle.std.specs.Prelude.{ℕ, suc, ◌≤◌, List, [], ◌∷◌, ◌++◌, map, if◌then◌else◌, ◌==◌}
use Rattle.oc_tree.specs.declared.said.Said.{Said}
use Rattle.oc_tree.specs.declared.said.Said.TheVariants.{Sensed, Showed, Entered, Committed, Ended}
use Rattle.oc_tree.specs.declared.said.Shown.TheVariants.{Emitted, Used, Finished, Tagged}
use Rattle.oc_tree.specs.declared.said.Ending.TheVariants.{Halted, Trapped}
use Rattle.oc_tree.specs.declared.said.Visible.{Visible}
use Rattle.oc_tree.specs.declared.said.Visible.TheVariants.{Sense, Emit, Use, Done, Tag, End, Trap}
use Rattle.oc_tree.specs.declared.said.SourceEvent.{SourceEvent}
use Rattle.oc_meaning.specs.Store.{Event}
use Rattle.oc_meaning.specs.Run.{Ending, AtEnd, AtTrap, AtShort, Trace}
use Rattle.oc_interpreter.specs.declared.trace.Outcome.{Outcome}
use Rattle.oc_interpreter.specs.declared.trace.Outcome.TheVariants as outcomes
use Rattle.oc_interpreter.specs.declared.trace.SourceTrace.{SourceTrace}
use Rattle.oc_interpreter.specs.declared.trace.Mark.{Mark}
use Rattle.oc_interpreter.specs.declared.trace.MarkedTrace.{MarkedTrace}

-- what an event of the interpreter says, in the meaning's terms
abbrev pub said_of : Visible → Said
said_of (Sense s z) = Sensed s z
said_of (Emit p z) = Showed (Emitted p z)
said_of (Use n) = Showed (Used n)
said_of (Done n) = Showed (Finished n)
said_of (Tag n) = Showed (Tagged n)
said_of End = Ended Halted
said_of (Trap k n) = Ended (Trapped k n)

-- the event that one of the interpreter stands for
abbrev pub event_view : SourceEvent → Event
event_view e =
    record { said = said_of e.visible; samples = e.samples.numbers.items; instance = e.instance }

-- the ending that one of the interpreter stands for
abbrev pub ending_of : Outcome → Ending
ending_of outcomes.Ended = AtEnd
ending_of outcomes.Trapped = AtTrap
ending_of outcomes.Short = AtShort

-- the run that a trace of the interpreter stands for
abbrev pub trace_view : SourceTrace → Trace
trace_view t =
    record { events = map event_view t.events.items; ending = ending_of t.outcome; nv = t.nv.items }

-- Marks

-- the mark of a region, as an event
abbrev pub mark_view : Mark → Event
mark_view m =
    record {
      said = (if m.enter then Entered m.region else Committed m.region);
      samples = [];
      instance = 0;
    }

-- the marks with just n events of the source before them
abbrev pub marks_at : ℕ → List Mark → List Event
marks_at n [] = []
marks_at n (m ∷ ms) = if m.before == n then mark_view m ∷ marks_at n ms else marks_at n ms

-- what is told from the n-th event of the source on, which is the first of these
abbrev pub told_from : ℕ → List Mark → List Event → List Event
told_from n ms [] = marks_at n ms
told_from n ms (e ∷ es) = marks_at n ms ++ e ∷ told_from (suc n) ms es

-- the events of the source with the marks of regions among them
abbrev pub parts : MarkedTrace → List Event
parts t = told_from 0 t.marks.items (map event_view t.trace.events.items)

-- each mark has as many events before it as the one before or more, from `least` to `most`
abbrev pub Rises : (least : ℕ) → List Mark → (most : ℕ) → Type 0
Rises least [] most = least ≤ most
Rises least (m ∷ ms) most = (least ≤ m.before) × Rises m.before ms most
