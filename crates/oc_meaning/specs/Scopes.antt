-- Visible variables in the meaning's terms.
use Rattle.std.specs.Prelude.{List, map, reverse, Option, Some, None}
use Rattle.oc_tree.specs.Names.{Text}
use Rattle.oc_meaning.specs.Store as meant
use Rattle.oc_meaning.specs.declared.scope.Binding.{Binding}
use Rattle.oc_meaning.specs.Places.{place_view}

abbrev pub binding_view : Binding → meant.Binding
binding_view b =
    record {
      name = b.name.now;
      place = place_view b.place;
      reference = b.reference;
      fresh = b.fresh;
    }

-- variables in the order in which they were made, turned around
abbrev pub visible : List Binding → List meant.Binding
visible bs = reverse (map binding_view bs)

-- what was found for a name
abbrev pub found : Text → Option Binding → meant.Binding
found x None = meant.unknown x
found x (Some b) = binding_view b
