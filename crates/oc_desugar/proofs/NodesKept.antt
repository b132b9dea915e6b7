-- The expansion of a program has as many nodes of expressions: a pull's node becomes its temporary's name.
use Rattle.std.proofs.Common.{◌≡◌, ℕ, ◌+◌, List, [], ◌∷◌, ◌++◌, refl, ◌∙◌, arith, sum_by}
use Rattle.std.proofs.lemmas.List.Sums.{sum_by-cons, sum_by-append}
use Rattle.oc_tree.specs.Tree.{TExpr, number, truth, variable, index, deref, unary, binary, sensed, called, TArg, value, shared, mutable, TCall, call, TArgs, no_args, more_args}
use Rattle.oc_tree.specs.Tree.{TRight, right_value, right_sense, right_call, TKind, let_to, let_array, assign, assign_index, assign_deref, if_else, for_in, while_do, call_only}
use Rattle.oc_tree.specs.Tree.{sense_only, emit, fresh, consistent, return, TElse, no_else, else_do, TStmt, stmt, TBlock, block, TStmts, no_stmts, more, TFunction, TProgram}
use Rattle.oc_tree.specs.Nodes.{expr_nodes, arg_nodes, call_nodes, args_nodes, right_nodes, kind_nodes, else_nodes, stmt_nodes, block_nodes, stmts_nodes, program_nodes}
use Rattle.oc_tree.specs.Pulls.{expr_pulls, arg_pulls, own_pulls, stmt_pulls, block_pulls}
use Rattle.oc_tree.specs.Expansion.{left_expr, left_call, left_args, left_arg, left_right, block_size, stmt_size, temporaries, join_stmts, pulled_expr, pulled_call, pulled_args}
use Rattle.oc_tree.specs.Expansion.{pulled_arg, pulled_right, pulled, expand_kind, expand_else, expand_block, expand_stmts, expand_function, expand_functions, expansion}

-- the nodes of what is pulled
abbrev pulls_nodes : List TRight → ℕ
pulls_nodes rs = sum_by right_nodes rs

join : (qs rs : List TRight) → pulls_nodes (qs ++ rs) ≡ pulls_nodes qs + pulls_nodes rs
join qs rs = sum_by-append right_nodes qs rs

one : (r : TRight) → pulls_nodes (r ∷ []) ≡ right_nodes r
one r = sum_by-cons right_nodes r [] ∙ omega arith

mutual
  expr_kept : (k : ℕ) (e : TExpr) → expr_nodes (left_expr k e) + pulls_nodes (pulled_expr k e) ≡ expr_nodes e
  expr_kept k (number n) = refl
  expr_kept k (truth b) = refl
  expr_kept k (variable x) = refl
  expr_kept k (index x e) = omega (arith, expr_kept k e)
  expr_kept k (deref x) = refl
  expr_kept k (unary op e) = omega (arith, expr_kept k e)
  expr_kept k (binary op a b) = omega (arith, expr_kept k a, expr_kept (k + expr_pulls a) b, join (pulled_expr k a) (pulled_expr (k + expr_pulls a) b))
  expr_kept k (sensed s) = omega (arith, one (right_sense s))
  expr_kept k (called c) = omega (arith, call_kept k c, join (pulled_call k c) (right_call (left_call k c) ∷ []), one (right_call (left_call k c)))

  call_kept : (k : ℕ) (c : TCall) → call_nodes (left_call k c) + pulls_nodes (pulled_call k c) ≡ call_nodes c
  call_kept k (call f args) = args_kept k args

  args_kept : (k : ℕ) (xs : TArgs) → args_nodes (left_args k xs) + pulls_nodes (pulled_args k xs) ≡ args_nodes xs
  args_kept k no_args = refl
  args_kept k (more_args a rest) = omega (arith, arg_kept k a, args_kept (k + arg_pulls a) rest, join (pulled_arg k a) (pulled_args (k + arg_pulls a) rest))

  arg_kept : (k : ℕ) (a : TArg) → arg_nodes (left_arg k a) + pulls_nodes (pulled_arg k a) ≡ arg_nodes a
  arg_kept k (value e) = expr_kept k e
  arg_kept k (shared x) = refl
  arg_kept k (mutable x) = refl

right_kept : (k : ℕ) (r : TRight) → right_nodes (left_right k r) + pulls_nodes (pulled_right k r) ≡ right_nodes r
right_kept k (right_value e) = expr_kept k e
right_kept k (right_sense s) = refl
right_kept k (right_call c) = call_kept k c

-- the nodes of a group
group_nodes : (k i line : ℕ) (rs : List TRight) (s : TStmt) (rest : TStmts) → stmts_nodes (join_stmts (temporaries k i line rs ++ s ∷ []) rest) ≡ pulls_nodes rs + stmt_nodes s + stmts_nodes rest
group_nodes k i line [] s rest = omega arith
group_nodes k i line (r ∷ rs) s rest = omega (arith, group_nodes (k + 1) (i + 1) line rs s rest, sum_by-cons right_nodes r rs)

mutual
  kind_kept : (k i : ℕ) (s : TKind) → kind_nodes (expand_kind k i s) + pulls_nodes (pulled k s) ≡ kind_nodes s
  kind_kept k i (let_to m x t r) = right_kept k r
  kind_kept k i (let_array m x t z n) = refl
  kind_kept k i (assign x r) = right_kept k r
  kind_kept k i (assign_index x e r) = omega (arith, expr_kept k e, right_kept (k + expr_pulls e) r, join (pulled_expr k e) (pulled_right (k + expr_pulls e) r))
  kind_kept k i (assign_deref x r) = right_kept k r
  kind_kept k i (if_else c a b) = omega (arith, expr_kept k c, block_kept (k + expr_pulls c) i a, else_kept (k + expr_pulls c + block_pulls a) (i + block_size a) b)
  kind_kept k i (for_in x m n b) = omega (arith, block_kept k i b)
  kind_kept k i (while_do c n b) = omega (arith, expr_kept k c, block_kept (k + expr_pulls c) i b)
  kind_kept k i (call_only c) = call_kept k c
  kind_kept k i (sense_only s) = refl
  kind_kept k i (emit p e) = expr_kept k e
  kind_kept k i (fresh x) = refl
  kind_kept k i (consistent x n) = refl
  kind_kept k i (return e) = expr_kept k e

  else_kept : (k i : ℕ) (b : TElse) → else_nodes (expand_else k i b) ≡ else_nodes b
  else_kept k i no_else = refl
  else_kept k i (else_do b) = block_kept k i b

  block_kept : (k i : ℕ) (b : TBlock) → block_nodes (expand_block k i b) ≡ block_nodes b
  block_kept k i (block id ss) = stmts_kept k i ss

  stmts_kept : (k i : ℕ) (ss : TStmts) → stmts_nodes (expand_stmts k i ss) ≡ stmts_nodes ss
  stmts_kept k i no_stmts = refl
  stmts_kept k i (more (stmt id line s) ss) =
      let rest = expand_stmts (k + stmt_pulls (stmt id line s)) (i + stmt_size (stmt id line s)) ss in
      omega (
        arith,
        group_nodes k i line (pulled k s) (stmt (i + own_pulls s) line (expand_kind k (i + own_pulls s + 1) s)) rest,
        kind_kept k (i + own_pulls s + 1) s,
        stmts_kept (k + stmt_pulls (stmt id line s)) (i + stmt_size (stmt id line s)) ss,
      )

functions_kept : (k i : ℕ) (fs : List TFunction) → sum_by (λ f. block_nodes f.body) (expand_functions k i fs) ≡ sum_by (λ f. block_nodes f.body) fs
functions_kept k i [] = refl
functions_kept k i (f ∷ fs) =
    let rest = functions_kept (k + block_pulls f.body) (i + block_size f.body) fs in
    let first = block_kept k i f.body in
    omega (
      arith,
      first,
      rest,
      sum_by-cons (λ g. block_nodes g.body) (expand_function k i f) (expand_functions (k + block_pulls f.body) (i + block_size f.body) fs),
      sum_by-cons
          (λ g. block_nodes g.body) f fs,
    )

pub nodes_kept : (p : TProgram) → program_nodes (expansion p) ≡ program_nodes p
nodes_kept p = functions_kept 1 1 p.functions
