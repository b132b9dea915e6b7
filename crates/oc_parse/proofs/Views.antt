-- The trees of expressions that the code makes.
use Rattle.std.proofs.Common.{rules, ◌≡◌, ℕ, ℤ, Bool, Option, Some, None, map}
use Rattle.oc_tree.specs.Tree.{TExpr, TArg, value, shared, mutable, TCall, called, call, TKind, let_to, assign, assign_index, assign_deref, if_else, for_in, while_do}
use Rattle.oc_tree.specs.Tree.{call_only, sense_only, emit, fresh, consistent, return, TStmt, stmt, TBlock, block}
use Rattle.oc_tree.specs.View.{expr_view, arg_view, call_view, right_view, args_of, arg_step, expr_step, call_step, block_view, else_view, kind_view, stmt_view, stmts_of, kind_step, block_step, stmt_step}
use Rattle.oc_tree.specs.Names.{Text}
use Rattle.oc_tree.specs.declared.tree.Expr.{Expr, the_lemmas}
use Rattle.oc_tree.specs.declared.tree.Expr as code
use Rattle.oc_tree.specs.declared.tree.Arg as arguments
use Rattle.oc_tree.specs.declared.tree.ValueKind.{ValueKind}
use Rattle.oc_tree.specs.declared.tree.Call.{Call, roll-Call, fold-roll-Call}
use Rattle.oc_tree.specs.declared.tree.Right.{Right}
use Rattle.oc_tree.specs.declared.tree.Block.{Block, roll-Block, fold-roll-Block}
use Rattle.oc_tree.specs.declared.tree.Stmt.{roll-Stmt, fold-roll-Stmt}
use Rattle.oc_tree.specs.declared.tree.StmtKind.{StmtKind}
use Rattle.oc_tree.specs.declared.tree.StmtKind as kinds

pub view_called : (c : Call) → expr_view (code.Call c) ≡ called (call_view c)
view_called c = search (rules, the_lemmas)

pub view_call : (f : Text) (args : _) → call_view (roll-Call (record { function = f; args = args })) ≡ call f (args_of (map arg_view args.items))
view_call f args = fold-roll-Call TArg TExpr TCall arg_step expr_step call_step (record { function = f; args = args })

pub view_block : (b : ℕ) (ss : _) → block_view (roll-Block (record { id = b; statements = ss })) ≡ block b (stmts_of (map stmt_view ss.items))
view_block b ss = fold-roll-Block TKind TBlock TStmt kind_step block_step stmt_step (record { id = b; statements = ss })

pub view_stmt : (i l : ℕ) (k : StmtKind) → stmt_view (roll-Stmt (record { id = i; line = l; kind = k })) ≡ stmt i l (kind_view k)
view_stmt i l k = fold-roll-Stmt TKind TBlock TStmt kind_step block_step stmt_step (record { id = i; line = l; kind = k })

pub view_for : (x : Text) (i j : ℤ) (b : Block) → kind_view (kinds.For x i j b) ≡ for_in x i j (block_view b)
view_for x i j b = search (rules, kinds.the_lemmas)

pub view_while : (c : Expr) (n : ℕ) (b : Block) → kind_view (kinds.While c n b) ≡ while_do (expr_view c) n (block_view b)
view_while c n b = search (rules, kinds.the_lemmas)

pub view_return : (e : Expr) → kind_view (kinds.Return e) ≡ return (expr_view e)
view_return e = search (rules, kinds.the_lemmas)

pub view_assign_index : (x : Text) (e : Expr) (r : Right) → kind_view (kinds.AssignIndex x e r) ≡ assign_index x (expr_view e) (right_view r)
view_assign_index x e r = search (rules, kinds.the_lemmas)

pub view_assign_deref : (x : Text) (r : Right) → kind_view (kinds.AssignDeref x r) ≡ assign_deref x (right_view r)
view_assign_deref x r = search (rules, kinds.the_lemmas)

pub view_emit : (p : Text) (e : Expr) → kind_view (kinds.Emit p e) ≡ emit p (expr_view e)
view_emit p e = search (rules, kinds.the_lemmas)

pub view_let : (m : Bool) (x : Text) (k : Option ValueKind) (r : Right) → kind_view (kinds.Let m x k r) ≡ let_to m x k (right_view r)
view_let m x k r = search (rules, kinds.the_lemmas)

pub view_assign : (x : Text) (r : Right) → kind_view (kinds.Assign x r) ≡ assign x (right_view r)
view_assign x r = search (rules, kinds.the_lemmas)

pub view_call_only : (c : Call) → kind_view (kinds.CallOnly c) ≡ call_only (call_view c)
view_call_only c = search (rules, kinds.the_lemmas)

pub view_sense_only : (x : Text) → kind_view (kinds.SenseOnly x) ≡ sense_only x
view_sense_only x = search (rules, kinds.the_lemmas)

pub view_fresh : (x : Text) → kind_view (kinds.Fresh x) ≡ fresh x
view_fresh x = search (rules, kinds.the_lemmas)

pub view_consistent : (x : Text) (i : ℤ) → kind_view (kinds.Consistent x i) ≡ consistent x i
view_consistent x i = search (rules, kinds.the_lemmas)

pub view_value : (e : Expr) → arg_view (arguments.Value e) ≡ value (expr_view e)
view_value e = search (rules, the_lemmas)

pub view_shared : (x : Text) → arg_view (arguments.Shared x) ≡ shared x
view_shared x = search (rules, the_lemmas)

pub view_mutable : (x : Text) → arg_view (arguments.Mutable x) ≡ mutable x
view_mutable x = search (rules, the_lemmas)

pub view_if : (c : Expr) (a : Block) (o : Option Block) → kind_view (kinds.If c a o) ≡ if_else (expr_view c) (block_view a) (else_view o)
view_if c a None = search (rules, kinds.the_lemmas)
view_if c a (Some b) = search (rules, kinds.the_lemmas)
