-- Marked functions.
use Rattle.std.specs.Prelude.{◌≡◌, ℕ, List, length}
use Rattle.oc_tree.specs.Names.{Text}
use Rattle.oc_tree.specs.Tree.{TProgram}
use Rattle.oc_reach.specs.Marked.{is_in}
use Rattle.oc_tree.specs.Assigned.{reaches_assign}
use Rattle.oc_tree.specs.Calls.{reaches_mention}
use Rattle.oc_tree.specs.Rules.{back_to}

-- the function `n`, and those that call it, directly or through others
pub record IsCallers (p : TProgram) (n : ℕ) (m : List ℕ × ℕ) : Type 0 where
  pub bound : m.1 ≡ length p.functions
  pub marked : (u : ℕ) → is_in m.0 u ≡ back_to p n u

-- the functions that name the nonvolatile variable `x`, and those that call one, directly or
-- through others
pub record IsMentioning (p : TProgram) (x : Text) (m : List ℕ × ℕ) : Type 0 where
  pub bound : m.1 ≡ length p.functions
  pub marked : (u : ℕ) → is_in m.0 u ≡ reaches_mention p.functions x u

-- the functions that assign the nonvolatile variable `x`, and those that call one, directly or
-- through others
pub record IsAssigning (p : TProgram) (x : Text) (m : List ℕ × ℕ) : Type 0 where
  pub bound : m.1 ≡ length p.functions
  pub marked : (u : ℕ) → is_in m.0 u ≡ reaches_assign p.functions x u

-- both marks of the nonvolatile variable `x`
pub record IsNoted (p : TProgram) (x : Text) (assigning mentioning : List ℕ × ℕ) : Type 0 where
  pub assigns : IsAssigning p x assigning
  pub mentions : IsMentioning p x mentioning
