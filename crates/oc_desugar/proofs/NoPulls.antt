-- No pulls are left in the expansion.
use Rattle.std.proofs.Common.{◌≡◌, ℕ, ◌+◌, List, [], ◌∷◌, ◌++◌, refl, ◌∙◌, arith, sum_by}
use Rattle.std.proofs.lemmas.List.Sums.{sum_by-cons}
use Rattle.oc_tree.specs.Tree.{TExpr, number, truth, variable, index, deref, unary, binary, sensed, called, TArg, value, shared, mutable, TCall, call, TArgs, no_args, more_args}
use Rattle.oc_tree.specs.Tree.{TRight, right_value, right_sense, right_call, TKind, let_to, let_array, assign, assign_index, assign_deref, if_else, for_in, while_do, call_only}
use Rattle.oc_tree.specs.Tree.{sense_only, emit, fresh, consistent, return, TElse, no_else, else_do, TStmt, stmt, TBlock, block, TStmts, no_stmts, more, TFunction, TProgram}
use Rattle.oc_tree.specs.Pulls.{expr_pulls, call_pulls, args_pulls, arg_pulls, right_pulls, own_pulls, inner_pulls, else_pulls, stmt_pulls, block_pulls, stmts_pulls, program_pulls}
use Rattle.oc_tree.specs.Expansion.{left_expr, left_call, left_args, left_arg, left_right, temporaries, pulled_expr, pulled_call, pulled_args, pulled_arg, pulled_right, pulled}
use Rattle.oc_tree.specs.Expansion.{expand_kind, expand_else, expand_block, expand_stmts, expand_function, expand_functions, expansion, join_stmts, block_size, stmt_size}

mutual
  pub none_expr : (k : ℕ) (e : TExpr) → expr_pulls (left_expr k e) ≡ 0
  none_expr k (number n) = refl
  none_expr k (truth b) = refl
  none_expr k (variable x) = refl
  none_expr k (index x e) = none_expr k e
  none_expr k (deref x) = refl
  none_expr k (unary op e) = none_expr k e
  none_expr k (binary op a b) = omega (arith, none_expr k a, none_expr (k + expr_pulls a) b)
  none_expr k (sensed s) = refl
  none_expr k (called c) = refl

  pub none_call : (k : ℕ) (c : TCall) → call_pulls (left_call k c) ≡ 0
  none_call k (call f args) = none_args k args

  none_args : (k : ℕ) (xs : TArgs) → args_pulls (left_args k xs) ≡ 0
  none_args k no_args = refl
  none_args k (more_args a rest) = omega (arith, none_arg k a, none_args (k + arg_pulls a) rest)

  none_arg : (k : ℕ) (a : TArg) → arg_pulls (left_arg k a) ≡ 0
  none_arg k (value e) = none_expr k e
  none_arg k (shared x) = refl
  none_arg k (mutable x) = refl

none_right : (k : ℕ) (r : TRight) → right_pulls (left_right k r) ≡ 0
none_right k (right_value e) = none_expr k e
none_right k (right_sense s) = refl
none_right k (right_call c) = none_call k c

-- what a pull is made of has no pulls
pub data NoPulls : List TRight → Type 0 where
  nothing : NoPulls []
  one_more : (r : TRight) (rs : List TRight) → right_pulls r ≡ 0 → NoPulls rs → NoPulls (r ∷ rs)

joined : (xs ys : List TRight) → NoPulls xs → NoPulls ys → NoPulls (xs ++ ys)
joined [] ys a b = b
joined (x ∷ xs) ys (one_more _ _ h a) b = one_more x (xs ++ ys) h (joined xs ys a b)

mutual
  plain_expr : (k : ℕ) (e : TExpr) → NoPulls (pulled_expr k e)
  plain_expr k (number n) = nothing
  plain_expr k (truth b) = nothing
  plain_expr k (variable x) = nothing
  plain_expr k (index x e) = plain_expr k e
  plain_expr k (deref x) = nothing
  plain_expr k (unary op e) = plain_expr k e
  plain_expr k (binary op a b) = joined _ _ (plain_expr k a) (plain_expr (k + expr_pulls a) b)
  plain_expr k (sensed s) = one_more (right_sense s) [] refl nothing
  plain_expr k (called c) = joined _ _ (plain_call k c) (one_more (right_call (left_call k c)) [] (none_call k c) nothing)

  plain_call : (k : ℕ) (c : TCall) → NoPulls (pulled_call k c)
  plain_call k (call f args) = plain_args k args

  plain_args : (k : ℕ) (xs : TArgs) → NoPulls (pulled_args k xs)
  plain_args k no_args = nothing
  plain_args k (more_args a rest) = joined _ _ (plain_arg k a) (plain_args (k + arg_pulls a) rest)

  plain_arg : (k : ℕ) (a : TArg) → NoPulls (pulled_arg k a)
  plain_arg k (value e) = plain_expr k e
  plain_arg k (shared x) = nothing
  plain_arg k (mutable x) = nothing

plain_right : (k : ℕ) (r : TRight) → NoPulls (pulled_right k r)
plain_right k (right_value e) = plain_expr k e
plain_right k (right_sense s) = nothing
plain_right k (right_call c) = plain_call k c

pub plain_kind : (k : ℕ) (s : TKind) → NoPulls (pulled k s)
plain_kind k (let_to m x t r) = plain_right k r
plain_kind k (let_array m x t z n) = nothing
plain_kind k (assign x r) = plain_right k r
plain_kind k (assign_index x e r) = joined _ _ (plain_expr k e) (plain_right (k + expr_pulls e) r)
plain_kind k (assign_deref x r) = plain_right k r
plain_kind k (if_else c a b) = plain_expr k c
plain_kind k (for_in x m n b) = nothing
plain_kind k (while_do c n b) = plain_expr k c
plain_kind k (call_only c) = plain_call k c
plain_kind k (sense_only s) = nothing
plain_kind k (emit p e) = plain_expr k e
plain_kind k (fresh x) = nothing
plain_kind k (consistent x n) = nothing
plain_kind k (return e) = plain_expr k e

group_pulls : (k i line : ℕ) (rs : List TRight) (s : TStmt) (rest : TStmts) → NoPulls rs → stmt_pulls s ≡ 0 → stmts_pulls (join_stmts (temporaries k i line rs ++ s ∷ []) rest) ≡ stmts_pulls rest
group_pulls k i line [] s rest a h = omega (arith, h)
group_pulls k i line (r ∷ rs) s rest (one_more _ _ z a) h = omega (arith, z, group_pulls (k + 1) (i + 1) line rs s rest a h)

mutual
  pub none_kind : (k i : ℕ) (s : TKind) → own_pulls (expand_kind k i s) + inner_pulls (expand_kind k i s) ≡ 0
  none_kind k i (let_to m x t r) = omega (arith, none_right k r)
  none_kind k i (let_array m x t z n) = refl
  none_kind k i (assign x r) = omega (arith, none_right k r)
  none_kind k i (assign_index x e r) = omega (arith, none_expr k e, none_right (k + expr_pulls e) r)
  none_kind k i (assign_deref x r) = omega (arith, none_right k r)
  none_kind k i (if_else c a b) = omega (arith, none_expr k c, none_block (k + expr_pulls c) i a, none_else (k + expr_pulls c + block_pulls a) (i + block_size a) b)
  none_kind k i (for_in x m n b) = omega (arith, none_block k i b)
  none_kind k i (while_do c n b) = omega (arith, none_expr k c, none_block (k + expr_pulls c) i b)
  none_kind k i (call_only c) = omega (arith, none_call k c)
  none_kind k i (sense_only s) = refl
  none_kind k i (emit p e) = omega (arith, none_expr k e)
  none_kind k i (fresh x) = refl
  none_kind k i (consistent x n) = refl
  none_kind k i (return e) = omega (arith, none_expr k e)

  none_else : (k i : ℕ) (b : TElse) → else_pulls (expand_else k i b) ≡ 0
  none_else k i no_else = refl
  none_else k i (else_do b) = none_block k i b

  none_block : (k i : ℕ) (b : TBlock) → block_pulls (expand_block k i b) ≡ 0
  none_block k i (block id ss) = none_stmts k i ss

  none_stmts : (k i : ℕ) (ss : TStmts) → stmts_pulls (expand_stmts k i ss) ≡ 0
  none_stmts k i no_stmts = refl
  none_stmts k i (more (stmt id line s) ss) =
      group_pulls k i line (pulled k s) (stmt (i + own_pulls s) line (expand_kind k (i + own_pulls s + 1) s))
      (expand_stmts (k + stmt_pulls (stmt id line s)) (i + stmt_size (stmt id line s)) ss) (plain_kind k s) (none_kind k (i + own_pulls s + 1) s)
      ∙ none_stmts (k + stmt_pulls (stmt id line s)) (i + stmt_size (stmt id line s)) ss

none_functions : (k i : ℕ) (fs : List TFunction) → sum_by (λ f. block_pulls f.body) (expand_functions k i fs) ≡ 0
none_functions k i [] = refl
none_functions k i (f ∷ fs) =
    let rest = none_functions (k + block_pulls f.body) (i + block_size f.body) fs in
    let first = none_block k i f.body in
    omega (arith, first, rest, sum_by-cons (λ g. block_pulls g.body) (expand_function k i f) (expand_functions (k + block_pulls f.body) (i + block_size f.body) fs))

pub none_left : (p : TProgram) → program_pulls (expansion p) ≡ 0
none_left p = none_functions 1 1 p.functions
