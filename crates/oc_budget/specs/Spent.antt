-- What code sees of the expressions of statements, and which functions a region has nothing of.
use Rattle.std.specs.Prelude.{ℕ, Bool, ◌&&◌, List, Option, Some, None, option_map, nat_le}
use Rattle.std.specs.List.{list_any}
use Rattle.std.proofs.Common.{Bor}
use Rattle.oc_tree.specs.declared.tree.Expr.{Expr}
use Rattle.oc_tree.specs.View.{expr_view}
use Rattle.oc_tree.specs.Tree.{TExpr, TKind, return}
use Rattle.oc_tree.specs.Marked.{TRegion}
use Rattle.oc_effects.specs.Effects.{TEffect}

-- the value that a `return` returns
abbrev pub returned : TKind → Option TExpr
returned (return e) = Some e
returned _ = None

-- an expression that code may hold
abbrev pub expr_seen : Option (Bor Expr) → Option TExpr
expr_seen e = option_map (λ x. expr_view x.now) e

-- a number lies from that of a region's first statement to that of its last one
abbrev pub is_within : TRegion → ℕ → Bool
is_within r s = nat_le r.first s && nat_le s r.last

-- one of these statements has such a number
abbrev pub has_within : TRegion → List TEffect → Bool
has_within r es = list_any (λ a. is_within r a.stmt) es
