-- Nonvolatile variables that no call of a statement changes.
use Rattle.std.specs.Prelude.{◌≡◌, ℕ, Bool, true, false, ◌&&◌, List, Some}
use Rattle.std.specs.List.{list_any}
use Rattle.oc_tree.specs.Names.{Text}
use Rattle.oc_tree.specs.Tree.{TKind, TProgram}
use Rattle.oc_tree.specs.Assigned.{reaches_assign}
use Rattle.oc_tree.specs.Calls.{own_calls, place}
use Rattle.oc_tree.specs.Rules.{callee_is}
use Rattle.oc_tree.specs.Scope.{is_name_of}
use Rattle.oc_reach.specs.Marked.{is_in}

-- a function that a statement calls assigns the variable `x`, or calls one that does
abbrev pub callee_changes : TProgram → TKind → Text → Bool
callee_changes p k x = list_any (callee_is (reaches_assign p.functions x) p) (own_calls k)

-- the name `x` is that of a nonvolatile variable, and such a function assigns it
abbrev pub is_changed : TProgram → TKind → Text → Bool
is_changed p k x = is_name_of p.names.nvs x && callee_changes p k x

-- no such function assigns the nonvolatile variables of these numbers
abbrev pub AreQuiet : TProgram → TKind → List ℕ → Type 0
AreQuiet p k numbers = (x : Text) (i : ℕ) → place p.names.nvs x ≡ Some i → is_in numbers i ≡ true
    → callee_changes p k x ≡ false
