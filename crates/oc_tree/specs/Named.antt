-- The variables that expressions and statements name.
use Rattle.std.specs.Prelude.{List, [], ◌∷◌}
use Rattle.std.specs.List.{flat_map}
use Rattle.oc_tree.specs.Names.{Text}
use Rattle.oc_tree.specs.Tree.{TExpr, variable, index, deref, TArg, TKind}
use Rattle.oc_tree.specs.Parts.{expr_parts, arg_parts, own_parts}

-- the variable that an expression names itself, if any
abbrev pub part_names : TExpr → List Text
part_names (variable x) = x ∷ []
part_names (index x e) = x ∷ []
part_names (deref x) = x ∷ []
part_names e = []

-- the variables that an expression and those in it name, from the left
abbrev pub expr_names : TExpr → List Text
expr_names e = flat_map part_names (expr_parts e)

-- the variables that an argument names
abbrev pub arg_names : TArg → List Text
arg_names a = flat_map part_names (arg_parts a)

-- the variables that a statement names in its own expressions or arguments. A target is only assigned
abbrev pub own_names : TKind → List Text
own_names k = flat_map part_names (own_parts k)
