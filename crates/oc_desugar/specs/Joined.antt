-- Arguments one after the other.
use Rattle.std.specs.Prelude.{List, [], ◌∷◌}
use Rattle.oc_tree.specs.Tree.{TArg, TArgs, more_args}

-- these arguments, and behind them others
abbrev pub join_args : List TArg → TArgs → TArgs
join_args [] rest = rest
join_args (a ∷ front) rest = more_args a (join_args front rest)
