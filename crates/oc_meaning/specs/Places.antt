-- Places of variables in the meaning's terms.
use Rattle.std.specs.Prelude.{Option, Some, None}
use Rattle.oc_meaning.specs.Store.{Turn, Held, holding, nothing, plain}
use Rattle.oc_meaning.specs.Store as meant
use Rattle.oc_meaning.specs.declared.place.Place.{Place}
use Rattle.oc_meaning.specs.declared.place.Place.TheVariants as places

abbrev pub place_view : Place → meant.Place
place_view (places.Local l) = meant.Local l
place_view (places.Global a) = meant.Global a
place_view (places.Turn z) = meant.Turn z
place_view places.Nowhere = meant.Nowhere

-- what stands for a place where no variable is
abbrev pub absent : meant.Place → Held
absent (Turn z) = holding (plain z)
absent p = nothing

abbrev pub held_or : meant.Place → Option Held → Held
held_or p None = absent p
held_or p (Some h) = h
