-- Uses of fresh variables.
use Rattle.std.specs.Prelude.{ℕ, Bool, false, List, [], ◌∷◌, ◌||◌, if◌then◌else◌}
use Rattle.std.specs.List.{list_any}
use Rattle.std.specs.Str.{bytes_eq}
use Rattle.oc_tree.specs.Names.{Text}
use Rattle.oc_tree.specs.Tree.{TKind, while_do, fresh, return, stmt, TStmts, no_stmts, more}
use Rattle.oc_tree.specs.Named.{own_names}
use Rattle.oc_tree.specs.Samples.{union}
use Rattle.oc_meaning.specs.Store.{Store, Binding, binding_of, held_at, place_of}

-- a statement annotates the variable of this name `Fresh`
abbrev pub is_fresh_note : Text → TKind → Bool
is_fresh_note x (fresh y) = bytes_eq x y
is_fresh_note x k = false

-- whether the variable that stands before these statements is annotated `Fresh` directly among them
abbrev pub is_annotated : Text → TStmts → Bool
is_annotated x no_stmts = false
is_annotated x (more (stmt id line k) rest) = is_fresh_note x k || is_annotated x rest

-- the variable of a name is annotated `Fresh`
abbrev pub is_fresh : List Binding → Text → Bool
is_fresh env x = (binding_of env x).fresh

-- whether a statement names a fresh variable; `is` says which names are those of one
abbrev pub is_use : (Text → Bool) → TKind → Bool
is_use is k = list_any is (own_names k)

-- the samples of the fresh variables among these names
abbrev pub samples_of_fresh : List Binding → Store → List Text → List ℕ
samples_of_fresh env σ [] = []
samples_of_fresh env σ (x ∷ xs) =
    if is_fresh env x then union (held_at σ (place_of env x)).samples (samples_of_fresh env σ xs)
    else samples_of_fresh env σ xs

-- the samples of the fresh variables that a statement names
abbrev pub use_samples : List Binding → TKind → Store → List ℕ
use_samples env k σ = samples_of_fresh env σ (own_names k)

-- whether a statement begins its use before it is executed: a `while` does so at each evaluation of
-- its condition instead
abbrev pub begins_use : (Text → Bool) → TKind → Bool
begins_use is (while_do c n b) = false
begins_use is k = is_use is k

-- whether a statement's use ends behind it: a `while` ends its uses itself, and so does a `return`,
-- whose use ends before its region
abbrev pub ends_use : (Text → Bool) → TKind → Bool
ends_use is (while_do c n b) = false
ends_use is (return e) = false
ends_use is k = is_use is k
