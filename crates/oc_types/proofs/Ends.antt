-- Where a list of statements ends.
use Rattle.std.proofs.Common.{refl, get_or, ◌≡◌, ℕ, suc, zero, List, [], ◌∷◌, drop, length, nat_lt, ap, ◌∙◌, arith}
use Rattle.std.proofs.lemmas.Bool.Decides.{nat_tests}
use Rattle.std.specs.Prelude.{not}
use Rattle.oc_tree.specs.declared.tree.Stmt.{Stmt}
use Rattle.oc_tree.specs.View.{stmt_view, stmts_view}
use Rattle.oc_tree.specs.Elements.{is_end}
use Rattle.oc_tree.specs.Rules.{is_return, stmts_return}

less : (m n : ℕ) → nat_lt m n ≡ nat_lt (suc m) (suc n)
less m n = grind (arith, nat_tests)

pub is_end_drop : (k : ℕ) (xs : List Stmt) → is_end (stmts_view (drop k xs)) ≡ not (nat_lt k (length xs))
is_end_drop zero [] = grind (arith, nat_tests)
is_end_drop zero (x ∷ xs) = grind (arith, nat_tests)
is_end_drop (suc k) [] = grind (arith, nat_tests)
is_end_drop (suc k) (x ∷ xs) = is_end_drop k xs ∙ ap not (less k (length xs))

-- what the last statement is
pub returns_at : (k : ℕ) (xs : List Stmt) (s : Stmt) → length xs ≡ suc k → stmts_return (stmts_view xs) ≡ is_return (stmt_view (get_or xs k s))
returns_at k [] s n = absurd (omega (arith, n))
returns_at zero (x ∷ []) s n = refl
returns_at zero (x ∷ y ∷ xs) s n = absurd (omega (arith, n))
returns_at (suc k) (x ∷ []) s n = absurd (omega (arith, n))
returns_at (suc k) (x ∷ y ∷ xs) s n = returns_at k (y ∷ xs) s (omega (arith, n))
