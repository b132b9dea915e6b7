-- The effects of statements as the code goes through them: with the statements around and the visible variables, and
-- without the number of loops, by which no effect goes.
use Rattle.std.specs.Prelude.{ℕ, List, [], ◌∷◌, ◌++◌, Option, option_map}
use Rattle.std.proofs.Common.{Bor}
use Rattle.oc_tree.specs.Tree.{TCall, TRight, TKind, if_else, for_in, while_do, TElse, no_else, else_do, TStmt, stmt, TBlock, block, TStmts, no_stmts, more, TProgram}
use Rattle.oc_tree.specs.View.{call_view, kind_view, right_view}
use Rattle.oc_tree.specs.declared.tree.VarId.TheVariants as variables
use Rattle.oc_tree.specs.declared.tree.Call.{Call}
use Rattle.oc_tree.specs.declared.tree.Right.{Right}
use Rattle.oc_tree.specs.Places.{Placed, Variables, let_variables}
use Rattle.oc_effects.specs.declared.here.Here.{Here}
use Rattle.oc_effects.specs.Effects.{TEffect, effect_of}

-- a statement, where it stands
abbrev pub standing : (block : ℕ) → List ℕ → Variables → (id line : ℕ) → TKind → Placed
standing b around vs id line k =
    record {
      id = id;
      line = line;
      kind = k;
      at = record { block = b; around = around; variables = vs };
    }

-- as the code has it
abbrev pub placed_view : Here → Placed
placed_view h = standing h.block h.around.now h.scope.now h.stmt h.line (kind_view h.kind.now)

-- the variable that a `let` makes visible behind it
abbrev pub declared_by : TStmt → Variables
declared_by (stmt id line k) = let_variables id k

abbrev pub block_id : TBlock → ℕ
block_id (block id ss) = id

abbrev mutual
  pub kind_effects : TProgram → List ℕ → Variables → (id : ℕ) → TKind → List TEffect
  kind_effects p around vs id (if_else c a b) =
      block_effects p (id ∷ around) vs a ++ else_effects p (id ∷ around) vs b
  kind_effects p around vs id (for_in x m n b) =
      block_effects p (id ∷ around) (vs ++ (x, variables.Declared id) ∷ []) b
  kind_effects p around vs id (while_do c n b) = block_effects p (id ∷ around) vs b
  kind_effects p around vs id _ = []

  pub else_effects : TProgram → List ℕ → Variables → TElse → List TEffect
  else_effects p around vs no_else = []
  else_effects p around vs (else_do b) = block_effects p around vs b

  pub stmt_effects : TProgram → (block : ℕ) → List ℕ → Variables → TStmt → List TEffect
  stmt_effects p b around vs (stmt id line k) =
      effect_of p (standing b around vs id line k) ∷ kind_effects p around vs id k

  pub block_effects : TProgram → List ℕ → Variables → TBlock → List TEffect
  block_effects p around vs (block id ss) = stmts_effects p id around vs ss

  pub stmts_effects : TProgram → (block : ℕ) → List ℕ → Variables → TStmts → List TEffect
  stmts_effects p b around vs no_stmts = []
  stmts_effects p b around vs (more s ss) =
      stmt_effects p b around vs s ++ stmts_effects p b around (vs ++ declared_by s) ss

-- ---- parts of a statement, as the code has them

abbrev pub right_seen : Option (Bor Right) → Option TRight
right_seen r = option_map (λ x. right_view x.now) r

abbrev pub call_seen : Option (Bor Call) → Option TCall
call_seen c = option_map (λ x. call_view x.now) c
