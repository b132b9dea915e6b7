-- Names with numbers.
use Rattle.std.specs.Prelude.{ℕ, List, Option}
use Rattle.oc_tree.specs.Names.{Text, named_in}

-- names, each with a number
abbrev pub Entries : Type 0
Entries = List (Text × ℕ)

-- the number of the first entry of this name
abbrev pub number_in : Entries → Text → Option ℕ
number_in es x = named_in es x
