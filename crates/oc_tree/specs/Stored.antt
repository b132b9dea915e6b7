-- How the logic stores a tree, by which it tells trees apart: as cells, each of which has a leaf
-- and two parts.
use Rattle.std.specs.Prelude.{◌≡◌, refl, ℕ, ℤ, pos, Bool, false, List, [], ◌∷◌, Option, None}
use Rattle.std.specs.Coded.{Coded, code_by}
use Rattle.std.proofs.Common.{sym, ap, subst}
use Rattle.std.proofs.Math.ListN.{get_or}
use base.Stored.{Gv, gnil, gnum, gcons}
use Rattle.oc_tree.specs.Names.{Text}
use Rattle.oc_tree.specs.Tree.{TExpr, number, truth, variable, index, deref, unary, binary, sensed, called, TArg, value, shared, mutable, TCall, call, TArgs, no_args, more_args}
use Rattle.oc_tree.specs.Tree.{TRight, right_value, right_sense, right_call, TKind, let_to, let_array, assign, assign_index, assign_deref, if_else, for_in, while_do, call_only}
use Rattle.oc_tree.specs.Tree.{sense_only, emit, fresh, consistent, return, TElse, no_else, else_do, TStmt, stmt, TBlock, block, TStmts, no_stmts, more}
use Rattle.oc_tree.specs.declared.tree.UnaryOp.{UnaryOp}
use Rattle.oc_tree.specs.declared.tree.UnaryOp.TheVariants as unaries
use Rattle.oc_tree.specs.declared.tree.BinaryOp.{BinaryOp}
use Rattle.oc_tree.specs.declared.tree.BinaryOp.TheVariants as binaries
use Rattle.oc_tree.specs.declared.tree.ValueKind.{ValueKind}

-- ---- cells

-- what a node of a tree has beside its parts; `form` tells the nodes of a kind apart
pub record Leaf : Type 0 where
  pub form : ℕ
  pub text : Text
  pub truth : Bool
  pub from : ℤ
  pub to : ℤ
  pub count : ℕ
  pub line : ℕ
  pub kind : Option ValueKind
  pub one : UnaryOp
  pub two : BinaryOp

-- cells: none, or one with a leaf and two parts
pub data Cells : Type 0 where
  nil : Cells
  cell : Leaf → Cells → Cells → Cells

-- a leaf with just a form
abbrev form : ℕ → Leaf
form n = record {
  form = n;
  text = [];
  truth = false;
  from = pos 0;
  to = pos 0;
  count = 0;
  line = 0;
  kind = None;
  one = unaries.Neg;
  two = binaries.Or;
}

-- a leaf with a form and a text
abbrev named : ℕ → Text → Leaf
named n x = record (form n) { text = x }

-- ---- cells of a tree

abbrev mutual
  -- the cells of an expression
  expr_cells : TExpr → Cells
  expr_cells (number z) = cell (record (form 0) { from = z }) nil nil
  expr_cells (truth b) = cell (record (form 1) { truth = b }) nil nil
  expr_cells (variable x) = cell (named 2 x) nil nil
  expr_cells (index x i) = cell (named 3 x) (expr_cells i) nil
  expr_cells (deref x) = cell (named 4 x) nil nil
  expr_cells (unary op e) = cell (record (form 5) { one = op }) (expr_cells e) nil
  expr_cells (binary op a b) = cell (record (form 6) { two = op }) (expr_cells a) (expr_cells b)
  expr_cells (sensed s) = cell (named 7 s) nil nil
  expr_cells (called c) = cell (form 8) (call_cells c) nil

  -- the cells of an argument
  arg_cells : TArg → Cells
  arg_cells (value e) = cell (form 0) (expr_cells e) nil
  arg_cells (shared x) = cell (named 1 x) nil nil
  arg_cells (mutable x) = cell (named 2 x) nil nil

  -- the cells of a call
  call_cells : TCall → Cells
  call_cells (call f args) = cell (named 0 f) (args_cells args) nil

  -- the cells of arguments
  args_cells : TArgs → Cells
  args_cells no_args = nil
  args_cells (more_args a rest) = cell (form 0) (arg_cells a) (args_cells rest)

-- the cells of a right side
abbrev right_cells : TRight → Cells
right_cells (right_value e) = cell (form 0) (expr_cells e) nil
right_cells (right_sense s) = cell (named 1 s) nil nil
right_cells (right_call c) = cell (form 2) (call_cells c) nil

abbrev mutual
  -- the cells of a statement
  kind_cells : TKind → Cells
  kind_cells (let_to m x k r) =
      cell (record (named 0 x) { truth = m; kind = k }) (right_cells r) nil
  kind_cells (let_array m x k i n) =
      cell (record (named 1 x) { truth = m; kind = k; from = i; count = n }) nil nil
  kind_cells (assign x r) = cell (named 2 x) (right_cells r) nil
  kind_cells (assign_index x i r) = cell (named 3 x) (expr_cells i) (right_cells r)
  kind_cells (assign_deref x r) = cell (named 4 x) (right_cells r) nil
  kind_cells (if_else c a b) =
      cell (form 5) (expr_cells c) (cell (form 0) (block_cells a) (else_cells b))
  kind_cells (for_in x m n b) = cell (record (named 6 x) { from = m; to = n }) (block_cells b) nil
  kind_cells (while_do c n b) = cell (record (form 7) { count = n }) (expr_cells c) (block_cells b)
  kind_cells (call_only c) = cell (form 8) (call_cells c) nil
  kind_cells (sense_only s) = cell (named 9 s) nil nil
  kind_cells (emit p e) = cell (named 10 p) (expr_cells e) nil
  kind_cells (fresh x) = cell (named 11 x) nil nil
  kind_cells (consistent x n) = cell (record (named 12 x) { from = n }) nil nil
  kind_cells (return e) = cell (form 13) (expr_cells e) nil

  -- the cells of an `else`, or none
  else_cells : TElse → Cells
  else_cells no_else = nil
  else_cells (else_do b) = cell (form 0) (block_cells b) nil

  -- the cells of a numbered statement
  stmt_cells : TStmt → Cells
  stmt_cells (stmt id line k) =
      cell (record (form 0) { count = id; line = line }) (kind_cells k) nil

  -- the cells of a block
  block_cells : TBlock → Cells
  block_cells (block id ss) = cell (record (form 0) { count = id }) (stmts_cells ss) nil

  -- the cells of statements
  stmts_cells : TStmts → Cells
  stmts_cells no_stmts = nil
  stmts_cells (more s ss) = cell (form 0) (stmt_cells s) (stmts_cells ss)

-- ---- the tree of cells

-- the one of that form
abbrev pick : {A : Type 0} → Leaf → A → List A → A
pick l otherwise xs = get_or xs l.form otherwise

abbrev mutual
  -- the expression of cells; of none, and of another form, it is `false`
  expr_of : Cells → TExpr
  expr_of nil = truth false
  expr_of (cell l a b) =
      pick l (truth false) (number l.from ∷ truth l.truth
      ∷ variable l.text ∷ index l.text (expr_of a) ∷ deref l.text ∷ unary l.one (expr_of a)
      ∷ binary l.two (expr_of a) (expr_of b) ∷ sensed l.text ∷ called (call_of a) ∷ [])

  -- the argument of cells
  arg_of : Cells → TArg
  arg_of nil = shared []
  arg_of (cell l a b) = pick l (shared []) (value (expr_of a) ∷ shared l.text ∷ mutable l.text ∷ [])

  -- the call of cells
  call_of : Cells → TCall
  call_of nil = call [] no_args
  call_of (cell l a b) = call l.text (args_of a)

  -- the arguments of cells
  args_of : Cells → TArgs
  args_of nil = no_args
  args_of (cell l a b) = more_args (arg_of a) (args_of b)

-- the right side of cells
abbrev right_of : Cells → TRight
right_of nil = right_sense []
right_of (cell l a b) =
    pick l (right_sense [])
    (right_value (expr_of a) ∷ right_sense l.text ∷ right_call (call_of a) ∷ [])

abbrev mutual
  -- the statement of cells
  kind_of : Cells → TKind
  kind_of nil = fresh []
  kind_of (cell l a b) =
      pick l (fresh []) (let_to l.truth l.text l.kind (right_of a)
      ∷ let_array l.truth l.text l.kind l.from l.count ∷ assign l.text (right_of a)
      ∷ assign_index l.text (expr_of a) (right_of b) ∷ assign_deref l.text (right_of a)
      ∷ branches_of (expr_of a) b ∷ for_in l.text l.from l.to (block_of a)
      ∷ while_do (expr_of a) l.count (block_of b) ∷ call_only (call_of a) ∷ sense_only l.text
      ∷ emit l.text (expr_of a) ∷ fresh l.text ∷ consistent l.text l.from ∷ return (expr_of a) ∷ [])

  -- the `if` of a condition and of the cells of its branches
  branches_of : TExpr → Cells → TKind
  branches_of c nil = fresh []
  branches_of c (cell l a b) = if_else c (block_of a) (else_of b)

  -- the `else` of cells, or that there is none
  else_of : Cells → TElse
  else_of nil = no_else
  else_of (cell l a b) = else_do (block_of a)

  -- the numbered statement of cells
  stmt_of : Cells → TStmt
  stmt_of nil = stmt 0 0 (fresh [])
  stmt_of (cell l a b) = stmt l.count l.line (kind_of a)

  -- the block of cells
  block_of : Cells → TBlock
  block_of nil = block 0 no_stmts
  block_of (cell l a b) = block l.count (stmts_of a)

  -- the statements of cells
  stmts_of : Cells → TStmts
  stmts_of nil = no_stmts
  stmts_of (cell l a b) = more (stmt_of a) (stmts_of b)

-- ---- a tree is the tree of its cells

mutual
  -- an expression is that of its cells
  expr_back : (e : TExpr) → expr_of (expr_cells e) ≡ e
  expr_back (number z) = refl
  expr_back (truth b) = refl
  expr_back (variable x) = refl
  expr_back (index x i) = ap (index x) (expr_back i)
  expr_back (deref x) = refl
  expr_back (unary op e) = ap (unary op) (expr_back e)
  expr_back (binary op a b) = λ i. binary op (expr_back a i) (expr_back b i)
  expr_back (sensed s) = refl
  expr_back (called c) = ap called (call_back c)

  -- an argument is that of its cells
  arg_back : (a : TArg) → arg_of (arg_cells a) ≡ a
  arg_back (value e) = ap value (expr_back e)
  arg_back (shared x) = refl
  arg_back (mutable x) = refl

  -- a call is that of its cells
  call_back : (c : TCall) → call_of (call_cells c) ≡ c
  call_back (call f args) = ap (call f) (args_back args)

  -- arguments are those of their cells
  args_back : (args : TArgs) → args_of (args_cells args) ≡ args
  args_back no_args = refl
  args_back (more_args a rest) = λ i. more_args (arg_back a i) (args_back rest i)

-- a right side is that of its cells
right_back : (r : TRight) → right_of (right_cells r) ≡ r
right_back (right_value e) = ap right_value (expr_back e)
right_back (right_sense s) = refl
right_back (right_call c) = ap right_call (call_back c)

mutual
  -- a statement is that of its cells
  kind_back : (k : TKind) → kind_of (kind_cells k) ≡ k
  kind_back (let_to m x k r) = ap (let_to m x k) (right_back r)
  kind_back (let_array m x k i n) = refl
  kind_back (assign x r) = ap (assign x) (right_back r)
  kind_back (assign_index x e r) = λ i. assign_index x (expr_back e i) (right_back r i)
  kind_back (assign_deref x r) = ap (assign_deref x) (right_back r)
  kind_back (if_else c a b) = λ i. if_else (expr_back c i) (block_back a i) (else_back b i)
  kind_back (for_in x m n b) = ap (for_in x m n) (block_back b)
  kind_back (while_do c n b) = λ i. while_do (expr_back c i) n (block_back b i)
  kind_back (call_only c) = ap call_only (call_back c)
  kind_back (sense_only s) = refl
  kind_back (emit p e) = ap (emit p) (expr_back e)
  kind_back (fresh x) = refl
  kind_back (consistent x n) = refl
  kind_back (return e) = ap return (expr_back e)

  -- an `else` is that of its cells
  else_back : (b : TElse) → else_of (else_cells b) ≡ b
  else_back no_else = refl
  else_back (else_do b) = ap else_do (block_back b)

  -- a numbered statement is that of its cells
  stmt_back : (s : TStmt) → stmt_of (stmt_cells s) ≡ s
  stmt_back (stmt id line k) = ap (stmt id line) (kind_back k)

  -- a block is that of its cells
  block_back : (b : TBlock) → block_of (block_cells b) ≡ b
  block_back (block id ss) = ap (block id) (stmts_back ss)

  -- statements are those of their cells
  stmts_back : (ss : TStmts) → stmts_of (stmts_cells ss) ≡ ss
  stmts_back no_stmts = refl
  stmts_back (more s ss) = λ i. more (stmt_back s i) (stmts_back ss i)

-- ---- codes

-- the first part of a pair of codes
abbrev head : Gv → Gv
head gnil = gnil
head (gnum n) = gnil
head (gcons a b) = a

-- the second part of a pair of codes
abbrev tail : Gv → Gv
tail gnil = gnil
tail (gnum n) = gnil
tail (gcons a b) = b

-- a code is a pair
abbrev IsCons : Gv → Type 0
IsCons gnil = ⊥
IsCons (gnum n) = ⊥
IsCons (gcons a b) = Unit {0}

module _ (leaf : Coded Leaf) where
  -- the code of cells
  abbrev code_cells : Cells → Gv
  code_cells nil = gnil
  code_cells (cell l a b) = gcons (leaf.code l) (gcons (code_cells a) (code_cells b))

  -- different cells have different codes
  cells_apart : (x y : Cells) → code_cells x ≡ code_cells y → x ≡ y
  cells_apart nil nil p = refl
  cells_apart (cell l a b) (cell m c d) p =
      λ i. cell (leaf.inj l m (ap head p) i) (cells_apart a c (ap (λ g. head (tail g)) p) i)
      (cells_apart b d (ap (λ g. tail (tail g)) p) i)
  cells_apart nil (cell m c d) p = absurd (subst IsCons (sym p) tt)
  cells_apart (cell l a b) nil p = absurd (subst IsCons p tt)

  -- blocks have codes
  pub block_code : Coded TBlock
  block_code =
      code_by Cells (record { code = code_cells; inj = cells_apart }) block_cells block_of
      block_back
