use Rattle.std.proofs.Common.{◌≡◌, ◌++◌, drop, map, length}
use Rattle.oc_tree.specs.View.{function_view}
use Rattle.oc_effects.specs.Flat.{all_effects, starts_from}
use Rattle.oc_effects.specs.View.{effect_view}
use Rattle.oc_effects.proofs.effects.all_effects.Given as goal

-- What is there, with that of the functions that are left, is the whole.
abbrev pub invariant-loop-function : goal.invariant-loop-function
invariant-loop-function l = record {
  all : map effect_view l.effects.items ++ all_effects l.known (map function_view (drop l.function-index l.functions)) ≡ all_effects l.known (map function_view l.functions);
  starts : l.starts.items ++ starts_from l.known (length l.effects.items) (map function_view (drop l.function-index l.functions)) ≡ starts_from l.known 0 (map function_view l.functions);
}
