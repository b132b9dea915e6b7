-- A name that may be missing.
use Rattle.std.specs.Prelude.{Option, option_map}
use Rattle.std.proofs.Common.{Bor}
use Rattle.oc_tree.specs.Names.{Text}

-- what contracts see of a name that may be missing
abbrev pub name_seen : Option (Bor Text) → Option Text
name_seen n = option_map (λ x. x.now) n
