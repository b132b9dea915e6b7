-- How far a run was told that was given up.
use Rattle.std.specs.Prelude.{◌≡◌, List, ◌++◌}
use Rattle.oc_meaning.specs.Store.{Event}
use Rattle.oc_meaning.specs.Exec.{Outcome, Went, Returned, Stopped}

-- the events of the store that an outcome leaves
abbrev pub events_in : Outcome → List Event
events_in (Went σ) = σ.events
events_in (Returned v σ) = σ.events
events_in (Stopped s σ) = σ.events

-- these events are the oldest of all
pub record Oldest (events all : List Event) : Type 0 where
  pub more : List Event
  pub is : all ≡ more ++ events

-- these events are the first of all
pub record Begins (events all : List Event) : Type 0 where
  pub rest : List Event
  pub is : all ≡ events ++ rest
