-- Names, as contracts see them.
use Rattle.std.specs.Prelude.{ℕ, List, [], ◌∷◌, Option, Some, None, cond, map, get_or}
use Rattle.std.specs.Str.{bytes_eq}
use Rattle.std.proofs.Common.{Bor}
use Rattle.oc_tree.specs.declared.name.Names.{Names}

-- a name or another text, as the list of its bytes
abbrev pub Text : Type 0
Text = List ℕ

-- the names of sensors, ports and nonvolatile variables, in order of declaration
pub record NameLists : Type 0 where
  pub sensors : List Text
  pub ports : List Text
  pub nvs : List Text

-- what contracts see of a program's names
abbrev pub names_view : Names → NameLists
names_view n = record { sensors = n.sensors.items; ports = n.ports.items; nvs = n.nvs.items }

-- the name with this number, from 0, in a list of names
abbrev pub name_at : List Text → ℕ → Text
name_at names n = get_or names n []

-- what stands beside the first entry of a list that has this name
abbrev pub named_in : {A : Type 0} → List (Text × A) → Text → Option A
named_in [] x = None
named_in (n ∷ ns) x = cond (bytes_eq x n.0) (Some n.1) (named_in ns x)

-- what contracts see of borrowed names
abbrev pub names_seen : List (Bor Text) → List Text
names_seen ns = map (λ n. n.now) ns
