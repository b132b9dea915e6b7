-- The expansion of a program in form is in form, whatever the names of its temporaries.
use Rattle.std.proofs.Common.{◌≡◌, ℕ, suc, ◌+◌, List, [], ◌∷◌, ◌++◌, length, refl, ap, sym, ◌∙◌, All}
use Rattle.std.proofs.lemmas.List.Elements.{All-nil, All-cons, All-head, All-tail}
use Rattle.oc_lex.specs.Stands.{IsName}
use Rattle.oc_tree.specs.Tree.{TExpr, number, truth, variable, index, deref, unary, binary, sensed, called, TArg, value, shared, mutable, TCall, call, TArgs, no_args, more_args}
use Rattle.oc_tree.specs.Tree.{TRight, right_value, right_sense, right_call, TKind, let_to, let_array, assign, assign_index, assign_deref, if_else, for_in, while_do, call_only}
use Rattle.oc_tree.specs.Tree.{sense_only, emit, fresh, consistent, return, TElse, no_else, else_do, TStmt, stmt, TBlock, block, TStmts, no_stmts, more, TFunction, TProgram}
use Rattle.oc_tree.specs.Numbers.{numbers_on}
use Rattle.oc_tree.specs.Form.{ExprInForm, ArgInForm, CallInForm, ArgsInForm, IsNoPull, RightInForm, KindInForm, ElseInForm, StmtInForm, BlockInForm, StmtsInForm, ParamInForm, FunctionInForm, InForm}
use Rattle.oc_tree.specs.Checked.{AnyName}
use Rattle.oc_tree.specs.Pulls.{expr_pulls, arg_pulls, own_pulls, stmt_pulls, block_pulls}
use Rattle.oc_tree.specs.Expansion.{left_expr, left_call, left_args, left_arg, left_right, block_size, stmt_size, temporaries, join_stmts, pulled_expr, pulled_call, pulled_args}
use Rattle.oc_tree.specs.Expansion.{pulled_arg, pulled_right, pulled, expand_kind, expand_else, expand_block, expand_stmts, expand_function, expand_functions, expansion}
use Rattle.oc_tree.specs.declared.tree.Param.{Param}
use Rattle.oc_desugar.proofs.NumberedLaws.{numbered}
use Rattle.oc_desugar.proofs.NumberLists.{listed}
use Rattle.oc_desugar.proofs.BlockLists.{blocks_kept}
use Rattle.oc_desugar.proofs.NodesKept.{nodes_kept}

-- ---- what is left of a statement

-- no pull is left alone
no_pull : (k : ℕ) (e : TExpr) → IsNoPull (left_expr k e)
no_pull k (number n) = tt
no_pull k (truth b) = tt
no_pull k (variable x) = tt
no_pull k (index x e) = tt
no_pull k (deref x) = tt
no_pull k (unary op e) = tt
no_pull k (binary op a b) = tt
no_pull k (sensed s) = tt
no_pull k (called c) = tt

mutual
  left_form : (k : ℕ) (e : TExpr) → ExprInForm IsName e → ExprInForm AnyName (left_expr k e)
  left_form k (number n) h = h
  left_form k (truth b) h = tt
  left_form k (variable x) h = tt
  left_form k (index x e) h = (tt, left_form k e h.1)
  left_form k (deref x) h = tt
  left_form k (unary op e) h = left_form k e h
  left_form k (binary op a b) h = (left_form k a h.0, left_form (k + expr_pulls a) b h.1)
  left_form k (sensed s) h = tt
  left_form k (called c) h = tt

  call_form : (k : ℕ) (c : TCall) → CallInForm IsName c → CallInForm AnyName (left_call k c)
  call_form k (call f args) h = (tt, args_form k args h.1)

  args_form : (k : ℕ) (xs : TArgs) → ArgsInForm IsName xs → ArgsInForm AnyName (left_args k xs)
  args_form k no_args h = tt
  args_form k (more_args a rest) h = (arg_form k a h.0, args_form (k + arg_pulls a) rest h.1)

  arg_form : (k : ℕ) (a : TArg) → ArgInForm IsName a → ArgInForm AnyName (left_arg k a)
  arg_form k (value e) h = left_form k e h
  arg_form k (shared x) h = tt
  arg_form k (mutable x) h = tt

right_form : (k : ℕ) (r : TRight) → RightInForm IsName r → RightInForm AnyName (left_right k r)
right_form k (right_value e) h = (no_pull k e, left_form k e h.1)
right_form k (right_sense s) h = tt
right_form k (right_call c) h = call_form k c h

-- ---- what is pulled

abbrev RightsInForm : List TRight → Type 0
RightsInForm [] = Unit {0}
RightsInForm (r ∷ rs) = RightInForm AnyName r × RightsInForm rs

joined : (qs rs : List TRight) → RightsInForm qs → RightsInForm rs → RightsInForm (qs ++ rs)
joined [] rs h g = g
joined (q ∷ qs) rs h g = (h.0, joined qs rs h.1 g)

mutual
  pulled_form : (k : ℕ) (e : TExpr) → ExprInForm IsName e → RightsInForm (pulled_expr k e)
  pulled_form k (number n) h = tt
  pulled_form k (truth b) h = tt
  pulled_form k (variable x) h = tt
  pulled_form k (index x e) h = pulled_form k e h.1
  pulled_form k (deref x) h = tt
  pulled_form k (unary op e) h = pulled_form k e h
  pulled_form k (binary op a b) h = joined (pulled_expr k a) (pulled_expr (k + expr_pulls a) b) (pulled_form k a h.0) (pulled_form (k + expr_pulls a) b h.1)
  pulled_form k (sensed s) h = (tt, tt)
  pulled_form k (called c) h = joined (pulled_call k c) (right_call (left_call k c) ∷ []) (pulled_call_form k c h) (call_form k c h, tt)

  pulled_call_form : (k : ℕ) (c : TCall) → CallInForm IsName c → RightsInForm (pulled_call k c)
  pulled_call_form k (call f args) h = pulled_args_form k args h.1

  pulled_args_form : (k : ℕ) (xs : TArgs) → ArgsInForm IsName xs → RightsInForm (pulled_args k xs)
  pulled_args_form k no_args h = tt
  pulled_args_form k (more_args a rest) h = joined (pulled_arg k a) (pulled_args (k + arg_pulls a) rest) (pulled_arg_form k a h.0) (pulled_args_form (k + arg_pulls a) rest h.1)

  pulled_arg_form : (k : ℕ) (a : TArg) → ArgInForm IsName a → RightsInForm (pulled_arg k a)
  pulled_arg_form k (value e) h = pulled_form k e h
  pulled_arg_form k (shared x) h = tt
  pulled_arg_form k (mutable x) h = tt

pulled_right_form : (k : ℕ) (r : TRight) → RightInForm IsName r → RightsInForm (pulled_right k r)
pulled_right_form k (right_value e) h = pulled_form k e h.1
pulled_right_form k (right_sense s) h = tt
pulled_right_form k (right_call c) h = pulled_call_form k c h

own_form : (k : ℕ) (s : TKind) → KindInForm IsName s → RightsInForm (pulled k s)
own_form k (let_to m x t r) h = pulled_right_form k r h.2
own_form k (let_array m x t z n) h = tt
own_form k (assign x r) h = pulled_right_form k r h.1
own_form k (assign_index x e r) h = joined (pulled_expr k e) (pulled_right (k + expr_pulls e) r) (pulled_form k e h.1) (pulled_right_form (k + expr_pulls e) r h.2)
own_form k (assign_deref x r) h = pulled_right_form k r h.1
own_form k (if_else c a b) h = pulled_form k c h.0
own_form k (for_in x m n b) h = tt
own_form k (while_do c n b) h = pulled_form k c h.0
own_form k (call_only c) h = pulled_call_form k c h
own_form k (sense_only s) h = tt
own_form k (emit p e) h = pulled_form k e h.1
own_form k (fresh x) h = tt
own_form k (consistent x n) h = tt
own_form k (return e) h = pulled_form k e h

-- ---- statements

group_form : (k i line : ℕ) (rs : List TRight) (s : TStmt) (rest : TStmts) → RightsInForm rs → StmtInForm AnyName s → StmtsInForm AnyName rest
    → StmtsInForm AnyName (join_stmts (temporaries k i line rs ++ s ∷ []) rest)
group_form k i line [] s rest h g r = (g, r)
group_form k i line (q ∷ qs) s rest h g r = ((tt, tt, h.0), group_form (k + 1) (i + 1) line qs s rest h.1 g r)

mutual
  kind_form : (k i : ℕ) (s : TKind) → KindInForm IsName s → KindInForm AnyName (expand_kind k i s)
  kind_form k i (let_to m x t r) h = (tt, h.1, right_form k r h.2)
  kind_form k i (let_array m x t z n) h = (tt, h.1, h.2, h.3)
  kind_form k i (assign x r) h = (tt, right_form k r h.1)
  kind_form k i (assign_index x e r) h = (tt, left_form k e h.1, right_form (k + expr_pulls e) r h.2)
  kind_form k i (assign_deref x r) h = (tt, right_form k r h.1)
  kind_form k i (if_else c a b) h = (left_form k c h.0, block_form (k + expr_pulls c) i a h.1, else_form (k + expr_pulls c + block_pulls a) (i + block_size a) b h.2)
  kind_form k i (for_in x m n b) h = (tt, h.1, h.2, block_form k i b h.3)
  kind_form k i (while_do c n b) h = (left_form k c h.0, h.1, block_form (k + expr_pulls c) i b h.2)
  kind_form k i (call_only c) h = call_form k c h
  kind_form k i (sense_only s) h = tt
  kind_form k i (emit p e) h = (tt, left_form k e h.1)
  kind_form k i (fresh x) h = tt
  kind_form k i (consistent x n) h = (tt, h.1)
  kind_form k i (return e) h = left_form k e h

  else_form : (k i : ℕ) (b : TElse) → ElseInForm IsName b → ElseInForm AnyName (expand_else k i b)
  else_form k i no_else h = tt
  else_form k i (else_do b) h = block_form k i b h

  block_form : (k i : ℕ) (b : TBlock) → BlockInForm IsName b → BlockInForm AnyName (expand_block k i b)
  block_form k i (block id ss) h = stmts_form k i ss h

  stmts_form : (k i : ℕ) (ss : TStmts) → StmtsInForm IsName ss → StmtsInForm AnyName (expand_stmts k i ss)
  stmts_form k i no_stmts h = tt
  stmts_form k i (more (stmt id line s) ss) h =
      group_form k i line (pulled k s) (stmt (i + own_pulls s) line (expand_kind k (i + own_pulls s + 1) s)) (expand_stmts (k + stmt_pulls (stmt id line s)) (i + stmt_size (stmt id line s)) ss)
      (own_form k s h.0) (kind_form k (i + own_pulls s + 1) s h.0) (stmts_form (k + stmt_pulls (stmt id line s)) (i + stmt_size (stmt id line s)) ss h.1)

-- ---- programs

param_form : (ps : List Param) → All (ParamInForm IsName) ps → All (ParamInForm AnyName) ps
param_form [] h = All-nil (ParamInForm AnyName)
param_form (p ∷ ps) h = All-cons (ParamInForm AnyName) p ps (tt, (All-head (ParamInForm IsName) p ps h).1) (param_form ps (All-tail (ParamInForm IsName) p ps h))

functions_form : (k i : ℕ) (fs : List TFunction) → All (FunctionInForm IsName) fs → All (FunctionInForm AnyName) (expand_functions k i fs)
functions_form k i [] h = All-nil (FunctionInForm AnyName)
functions_form k i (f ∷ fs) h =
    let a = All-head (FunctionInForm IsName) f fs h in
    All-cons (FunctionInForm AnyName) (expand_function k i f) (expand_functions (k + block_pulls f.body) (i + block_size f.body) fs)
    (record { name = tt; params = param_form f.params a.params; body = block_form k i f.body a.body })
    (functions_form (k + block_pulls f.body) (i + block_size f.body) fs (All-tail (FunctionInForm IsName) f fs h))

pub functions_length : (k i : ℕ) (fs : List TFunction) → length (expand_functions k i fs) ≡ length fs
functions_length k i [] = refl
functions_length k i (f ∷ fs) = ap suc (functions_length (k + block_pulls f.body) (i + block_size f.body) fs)

pub form_kept : (p : TProgram) → InForm IsName p → InForm AnyName (expansion p)
form_kept p h = record {
  numbered = record {
    statements = listed (expansion p) (numbered p);
    blocks = blocks_kept p ∙ h.numbered.blocks ∙ ap (λ (l : List ℕ). numbers_on 1 (length l)) (sym (blocks_kept p));
  };
  spellable = record {
    sensors = h.spellable.sensors;
    ports = h.spellable.ports;
    nvs = h.spellable.nvs;
    nv = h.spellable.nv;
    functions = functions_form 1 1 p.functions h.spellable.functions;
  };
  declared = record {
    sensors = h.declared.sensors;
    ports = h.declared.ports;
    nvs = h.declared.nvs;
    functions = h.declared.functions ∙ sym (functions_length 1 1 p.functions);
    each_nv = h.declared.each_nv;
  };
  few_nodes = rw (nodes_kept p) h.few_nodes;
}
