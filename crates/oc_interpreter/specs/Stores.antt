-- What a store holds, in the meaning's terms.
use Rattle.std.specs.Prelude.{List, map, reverse, drop}
use Rattle.oc_meaning.specs.Store as meant
use Rattle.oc_interpreter.specs.declared.store.Event.{Event}
use Rattle.oc_interpreter.specs.declared.store.Store.TheInside.{Inside}

abbrev pub event_view : Event → meant.Event
event_view e = record { said = e.said; samples = e.samples; instance = e.instance }

-- events in the order in which they happened, turned around
abbrev pub told : List Event → List meant.Event
told es = reverse (map event_view es)

-- local variables and events stand newest first
abbrev pub store_view : Inside → meant.Store
store_view s =
    record {
      locals = reverse s.locals.items;
      nv = s.nv.items;
      left = drop s.taken s.samples.now;
      taken = s.taken;
      depth = s.depth;
      blocks = s.blocks;
      events = told s.events.items;
    }
