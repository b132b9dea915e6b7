-- The tree that each declared value stands for.
use Rattle.std.specs.Prelude.{List, [], ◌∷◌, map, Option, Some, None, option_map}
use Rattle.oc_tree.specs.Tree.{TExpr, number, truth, variable, index, deref, unary, binary, sensed, called, TArg, value, shared, mutable, TCall, call, TArgs, no_args, more_args}
use Rattle.oc_tree.specs.Tree.{TRight, right_value, right_sense, right_call, TKind, let_to, let_array, assign, assign_index, assign_deref, if_else, for_in, while_do, call_only}
use Rattle.oc_tree.specs.Tree.{sense_only, emit, fresh, consistent, return, TElse, no_else, else_do, TStmt, stmt, TBlock, block, TStmts, no_stmts, more, TFunction, TProgram}
use Rattle.oc_tree.specs.Names.{names_view}
use Rattle.oc_tree.specs.declared.tree.Expr.{Expr, fold-Expr}
use Rattle.oc_tree.specs.declared.tree.Arg.{Arg, fold-Arg}
use Rattle.oc_tree.specs.declared.tree.Arg.TheOpen.{Arg-F, Expr-F, Call-F}
use Rattle.oc_tree.specs.declared.tree.Call.{Call, fold-Call}
use Rattle.oc_tree.specs.declared.tree.Right.{Right}
use Rattle.oc_tree.specs.declared.tree.Right.TheVariants as rights
use Rattle.oc_tree.specs.declared.tree.StmtKind.{StmtKind, fold-StmtKind}
use Rattle.oc_tree.specs.declared.tree.StmtKind.TheOpen.{StmtKind-F, Block-F, Stmt-F}
use Rattle.oc_tree.specs.declared.tree.Block.{Block, fold-Block}
use Rattle.oc_tree.specs.declared.tree.Stmt.{Stmt, fold-Stmt}
use Rattle.oc_tree.specs.declared.tree.Function.{Function}
use Rattle.oc_tree.specs.declared.tree.Program.{Program}

-- a list of arguments as those of a tree
abbrev pub args_of : List TArg → TArgs
args_of [] = no_args
args_of (a ∷ rest) = more_args a (args_of rest)

-- an argument, from its parts as contracts see them
abbrev pub arg_step : Arg-F TArg TExpr TCall → TArg
arg_step (Arg-F.Value e) = value e
arg_step (Arg-F.Shared x) = shared x
arg_step (Arg-F.Mutable x) = mutable x

-- an expression, from its parts as contracts see them
abbrev pub expr_step : Expr-F TArg TExpr TCall → TExpr
expr_step (Expr-F.Number n) = number n
expr_step (Expr-F.Truth b) = truth b
expr_step (Expr-F.Variable x) = variable x
expr_step (Expr-F.Index x i) = index x i.value
expr_step (Expr-F.Deref x) = deref x
expr_step (Expr-F.Unary op e) = unary op e.value
expr_step (Expr-F.Binary op a b) = binary op a.value b.value
expr_step (Expr-F.Sense s) = sensed s
expr_step (Expr-F.Call c) = called c

-- a call, from its parts as contracts see them
abbrev pub call_step : Call-F TArg TExpr TCall → TCall
call_step c = call c.function (args_of c.args.items)

-- what contracts see of an argument
abbrev pub arg_view : Arg → TArg
arg_view = fold-Arg TArg TExpr TCall arg_step expr_step call_step

-- what contracts see of an expression
abbrev pub expr_view : Expr → TExpr
expr_view = fold-Expr TArg TExpr TCall arg_step expr_step call_step

-- what contracts see of a call
abbrev pub call_view : Call → TCall
call_view = fold-Call TArg TExpr TCall arg_step expr_step call_step

-- what contracts see of arguments
abbrev pub args_view : List Arg → TArgs
args_view args = args_of (map arg_view args)

-- what contracts see of a right side
abbrev pub right_view : Right → TRight
right_view (rights.Value e) = right_value (expr_view e)
right_view (rights.Sense s) = right_sense s
right_view (rights.Call c) = right_call (call_view c)

-- a list of statements as those of a tree
abbrev pub stmts_of : List TStmt → TStmts
stmts_of [] = no_stmts
stmts_of (s ∷ ss) = more s (stmts_of ss)

-- the block of an `else`, if any, as that of a tree
abbrev pub else_of : Option TBlock → TElse
else_of None = no_else
else_of (Some b) = else_do b

-- a statement, from its parts as contracts see them
abbrev pub kind_step : StmtKind-F TKind TBlock TStmt → TKind
kind_step (StmtKind-F.Let m x k r) = let_to m x k (right_view r)
kind_step (StmtKind-F.LetArray m x k i n) = let_array m x k i n
kind_step (StmtKind-F.Assign x r) = assign x (right_view r)
kind_step (StmtKind-F.AssignIndex x i r) = assign_index x (expr_view i) (right_view r)
kind_step (StmtKind-F.AssignDeref x r) = assign_deref x (right_view r)
kind_step (StmtKind-F.If c a b) = if_else (expr_view c) a (else_of b)
kind_step (StmtKind-F.For x m n b) = for_in x m n b
kind_step (StmtKind-F.While c n b) = while_do (expr_view c) n b
kind_step (StmtKind-F.CallOnly c) = call_only (call_view c)
kind_step (StmtKind-F.SenseOnly s) = sense_only s
kind_step (StmtKind-F.Emit p e) = emit p (expr_view e)
kind_step (StmtKind-F.Fresh x) = fresh x
kind_step (StmtKind-F.Consistent x n) = consistent x n
kind_step (StmtKind-F.Return e) = return (expr_view e)

-- a block, from its parts as contracts see them
abbrev pub block_step : Block-F TKind TBlock TStmt → TBlock
block_step b = block b.id (stmts_of b.statements.items)

-- a numbered statement, from its parts as contracts see them
abbrev pub stmt_step : Stmt-F TKind TBlock TStmt → TStmt
stmt_step s = stmt s.id s.line s.kind

-- what contracts see of a statement
abbrev pub kind_view : StmtKind → TKind
kind_view = fold-StmtKind TKind TBlock TStmt kind_step block_step stmt_step

-- what contracts see of a block
abbrev pub block_view : Block → TBlock
block_view = fold-Block TKind TBlock TStmt kind_step block_step stmt_step

-- what contracts see of a numbered statement
abbrev pub stmt_view : Stmt → TStmt
stmt_view = fold-Stmt TKind TBlock TStmt kind_step block_step stmt_step

-- what contracts see of a list of statements
abbrev pub stmts_view : List Stmt → TStmts
stmts_view ss = stmts_of (map stmt_view ss)

-- what contracts see of the block of an `else`, if any
abbrev pub else_view : Option Block → TElse
else_view o = else_of (option_map block_view o)

-- what contracts see of a function
abbrev pub function_view : Function → TFunction
function_view f = record {
  name = f.name;
  line = f.line;
  params = f.params.items;
  result = f.result;
  body = block_view f.body;
}

-- what contracts see of a program
abbrev pub program_view : Program → TProgram
program_view p = record {
  names = names_view p.names;
  nv = p.nv.items;
  functions = map function_view p.functions.items;
  order = p.order.items;
  last_line = p.last_line;
}
