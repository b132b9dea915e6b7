-- Behind which place no binding has a name, and before which one none is of a fresh variable.
use Rattle.std.specs.Prelude.{◌≡◌, ◌≤◌, ℕ, suc, Bool, false, List, length, map, take, drop, Some}
use Rattle.std.specs.List.{list_any}
use Rattle.std.specs.Str.{bytes_eq}
use Rattle.std.proofs.Common.{Bor}
use Rattle.oc_tree.specs.Names.{Text, named_in}
use Rattle.oc_codegen.specs.declared.scope.Binding.{Binding}

-- one of these bindings has the name
abbrev pub has_name : Text → List Binding → Bool
has_name x bs = list_any (λ b. bytes_eq x b.name.now) bs

-- behind the place that stands beside a name, if one does, no binding has it
abbrev pub AreLast : List Binding → List (Bor Text × ℕ) → Type 0
AreLast bs es =
    (x : Text) (i : ℕ) → named_in (map (λ e. (e.0.now, e.1)) es) x ≡ Some i
    → has_name x (drop (suc i) bs) ≡ false

-- one of these variables is annotated `Fresh`
abbrev pub is_any_fresh : List Binding → Bool
is_any_fresh bs = list_any (λ b. b.variable.fresh) bs

-- none of so many of the oldest ones is
abbrev pub ArePlain : ℕ → List Binding → Type 0
ArePlain n bs = (n ≤ length bs) × (is_any_fresh (take n bs) ≡ false)
