-- How often a name stands in expressions and arguments, as a variable.
use Rattle.std.specs.Prelude.{ℕ, Bool, false, ◌||◌, nat_lt, count_by}
use Rattle.std.specs.List.{flat_map}
use Rattle.std.specs.Str.{bytes_eq}
use Rattle.oc_tree.specs.Names.{Text}
use Rattle.oc_tree.specs.Tree.{TCall, TKind, assign, assign_index, assign_deref, fresh, consistent}
use Rattle.oc_tree.specs.Parts.{call_parts}
use Rattle.oc_tree.specs.Named.{part_names, own_names}

-- how often the name `x` stands in a call's arguments, as a variable
abbrev pub call_mentions : Text → TCall → ℕ
call_mentions x c = count_by (bytes_eq x) (flat_map part_names (call_parts c))

-- how often the name `x` stands in a statement's own expressions and arguments; neither its target
-- nor its annotation is one
abbrev pub own_mentions : Text → TKind → ℕ
own_mentions x k = count_by (bytes_eq x) (own_names k)

-- an assignment's target is the variable `x`, an element of it, or what it refers to
abbrev pub targets : Text → TKind → Bool
targets x (assign y r) = bytes_eq x y
targets x (assign_index y i r) = bytes_eq x y
targets x (assign_deref y r) = bytes_eq x y
targets x _ = false

-- the variable `x` is annotated
abbrev pub annotates : Text → TKind → Bool
annotates x (fresh y) = bytes_eq x y
annotates x (consistent y n) = bytes_eq x y
annotates x _ = false

-- the name `x` stands in a statement itself: in an expression, argument, target or annotation
abbrev pub is_named : Text → TKind → Bool
is_named x k = nat_lt 0 (own_mentions x k) || targets x k || annotates x k
