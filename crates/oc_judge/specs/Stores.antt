-- What a store holds, in the meaning's terms.
use Rattle.std.specs.Prelude.{List, [], ◌∷◌, reverse, Option, Some, None}
use Rattle.oc_meaning.specs.Store as meant
use Rattle.oc_meaning.specs.Exec as runs
use Rattle.oc_judge.specs.Values.{age_view, value_view}
use Rattle.oc_judge.specs.declared.store.Event.{Event}
use Rattle.oc_judge.specs.declared.store.Completion.{Completion}
use Rattle.oc_judge.specs.declared.store.Completion.TheVariants as completions
use Rattle.oc_judge.specs.declared.store.Store.TheInside.{Inside}

abbrev pub event_view : Event → meant.Event
event_view e = record { said = e.said; samples = age_view e.age; instance = e.instance }

-- what was said and not taken yet
abbrev pub told : Option Event → List meant.Event
told None = []
told (Some e) = event_view e ∷ []

-- local variables stand newest first
abbrev pub store_view : Inside → meant.Store
store_view s =
    record {
      locals = reverse s.locals.items;
      nv = s.nv.items;
      left = [];
      taken = s.outages;
      depth = s.depth;
      blocks = s.blocks;
      events = told s.told;
    }

-- an outcome with the store that it leaves
abbrev pub completion_at : Completion → meant.Store → runs.Outcome
completion_at completions.Went σ = runs.Went σ
completion_at (completions.Returned v) σ = runs.Returned (value_view v) σ
completion_at completions.Trapped σ = runs.Stopped runs.Trap σ
