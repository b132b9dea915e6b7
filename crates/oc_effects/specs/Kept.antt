-- What effects are that stand without their program.
use Rattle.std.specs.Prelude.{map}
use Rattle.oc_tree.specs.Tree.{TProgram}
use Rattle.oc_effects.specs.Flat.{IsFlat}
use Rattle.oc_effects.specs.View.{effect_view}
use Rattle.oc_effects.specs.declared.effects.Kept.{Kept}

-- they are those of all statements of a program, with the places where those of each function begin
abbrev pub AreKeptOf : TProgram → Kept → Type 0
AreKeptOf p k = IsFlat p (map effect_view k.effects.items) k.starts.items
