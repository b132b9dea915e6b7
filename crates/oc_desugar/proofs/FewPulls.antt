-- No more pulls than statements of the expansion, each of which is a pull or a statement as it is written.
use Rattle.std.proofs.Common.{◌≤◌, List, [], ◌∷◌, sum_by, arith}
use Rattle.std.proofs.lemmas.List.Sums.{sum_by-cons}
use Rattle.oc_tree.specs.Tree.{TKind, let_to, let_array, assign, assign_index, assign_deref, if_else, for_in, while_do, call_only, sense_only, emit, fresh, consistent, return}
use Rattle.oc_tree.specs.Tree.{TElse, no_else, else_do, TStmt, stmt, TBlock, block, TStmts, no_stmts, more, TFunction, TProgram}
use Rattle.oc_tree.specs.Pulls.{inner_pulls, else_pulls, stmt_pulls, block_pulls, stmts_pulls, program_pulls}
use Rattle.oc_tree.specs.Expansion.{inner_size, else_size, stmt_size, block_size, stmts_size, program_size}

mutual
  inner_fits : (k : TKind) → inner_pulls k ≤ inner_size k
  inner_fits (if_else c a b) = omega (arith, block_fits a, else_fits b)
  inner_fits (for_in x m n b) = block_fits b
  inner_fits (while_do c n b) = block_fits b
  inner_fits (let_to m x k r) = omega arith
  inner_fits (let_array m x k i w) = omega arith
  inner_fits (assign x r) = omega arith
  inner_fits (assign_index x i r) = omega arith
  inner_fits (assign_deref x r) = omega arith
  inner_fits (call_only c) = omega arith
  inner_fits (sense_only s) = omega arith
  inner_fits (emit port e) = omega arith
  inner_fits (fresh x) = omega arith
  inner_fits (consistent x i) = omega arith
  inner_fits (return e) = omega arith

  else_fits : (b : TElse) → else_pulls b ≤ else_size b
  else_fits no_else = omega arith
  else_fits (else_do b) = block_fits b

  stmt_fits : (s : TStmt) → stmt_pulls s ≤ stmt_size s
  stmt_fits (stmt id line k) = omega (arith, inner_fits k)

  block_fits : (b : TBlock) → block_pulls b ≤ block_size b
  block_fits (block id ss) = stmts_fits ss

  stmts_fits : (ss : TStmts) → stmts_pulls ss ≤ stmts_size ss
  stmts_fits no_stmts = omega arith
  stmts_fits (more s ss) = omega (arith, stmt_fits s, stmts_fits ss)

functions_fit : (fs : List TFunction) → sum_by (λ f. block_pulls f.body) fs ≤ sum_by (λ f. block_size f.body) fs
functions_fit [] = omega arith
functions_fit (f ∷ fs) =
    let a = sum_by-cons (λ g. block_pulls g.body) f fs in
    let b = sum_by-cons (λ g. block_size g.body) f fs in
    omega (arith, a, b, block_fits f.body, functions_fit fs)

pub few_pulls : (p : TProgram) → program_pulls p ≤ program_size p
few_pulls p = functions_fit p.functions
