use Rattle.std.proofs.Common.{map}
use Rattle.oc_interpreter.specs.Stores.{event_view}
use Rattle.oc_interpreter.specs.Telling.{TellsParts}
use Rattle.oc_meaning.specs.Parts.{AreParts}
use Rattle.oc_interpreter.proofs.trace.split.Given as goal

abbrev pub invariant-loop-event : goal.invariant-loop-event
invariant-loop-event l = AreParts (map event_view l.yielded) → TellsParts l.events.items l.marks.items (map event_view l.yielded)
