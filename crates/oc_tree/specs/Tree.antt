-- The tree as contracts see it: numbers, names as their bytes, and lists in place of vectors.
-- `ValueKind`, `Param`, `NvDecl` and `Decl` hold no vector, and are seen as they are.
use Rattle.std.specs.Prelude.{ℕ, ℤ, Bool, List, Option}
use Rattle.oc_tree.specs.Names.{Text, NameLists}
use Rattle.oc_tree.specs.declared.tree.UnaryOp.{UnaryOp}
use Rattle.oc_tree.specs.declared.tree.BinaryOp.{BinaryOp}
use Rattle.oc_tree.specs.declared.tree.Scalar.{Scalar}
use Rattle.oc_tree.specs.declared.tree.ValueKind.{ValueKind}
use Rattle.oc_tree.specs.declared.tree.Param.{Param}
use Rattle.oc_tree.specs.declared.tree.NvDecl.{NvDecl}
use Rattle.oc_tree.specs.declared.tree.Decl.{Decl}

mutual
  -- an expression
  pub data TExpr : Type 0 where
    -- a number, as `21`
    number : ℤ → TExpr
    -- `true` or `false`
    truth : Bool → TExpr
    -- a variable by its name
    variable : Text → TExpr
    -- an element of an array, `a[e]`
    index : Text → TExpr → TExpr
    -- what a reference stands for, `*x`
    deref : Text → TExpr
    -- `-e` or `!e`
    unary : UnaryOp → TExpr → TExpr
    -- two operands with an operator between them
    binary : BinaryOp → TExpr → TExpr → TExpr
    -- an input, `sense(s)`, inside an expression; a checked program has none
    sensed : Text → TExpr
    -- a call inside an expression; a checked program has none
    called : TCall → TExpr

  -- an argument of a call
  pub data TArg : Type 0 where
    -- an expression, by value
    value : TExpr → TArg
    -- `&x`
    shared : Text → TArg
    -- `&mut x`
    mutable : Text → TArg

  -- a call of a function by its name
  pub data TCall : Type 0 where
    call : (function : Text) → TArgs → TCall

  -- the arguments of a call, from the left
  pub data TArgs : Type 0 where
    no_args : TArgs
    more_args : TArg → TArgs → TArgs

-- the right side of a `let` or an assignment
pub data TRight : Type 0 where
  -- an expression that is neither just an input nor just a call
  right_value : TExpr → TRight
  -- an input, `sense(s)`
  right_sense : Text → TRight
  -- a call
  right_call : TCall → TRight

mutual
  -- what a statement does
  pub data TKind : Type 0 where
    -- `let x: T = right;`, where `mut` and the type may stand or not
    let_to : (mut : Bool) → Text → Option ValueKind → TRight → TKind
    -- `let a: [i32; words] = [initial; words];`, where `mut` and the type may stand or not
    let_array : (mut : Bool) → Text → Option ValueKind → (initial : ℤ) → (words : ℕ) → TKind
    -- `x = right;`
    assign : Text → TRight → TKind
    -- `a[index] = right;`
    assign_index : Text → TExpr → TRight → TKind
    -- `*x = right;`
    assign_deref : Text → TRight → TKind
    -- `if condition { .. } else { .. }`
    if_else : TExpr → TBlock → TElse → TKind
    -- `for x in from..to { .. }`
    for_in : Text → (from to : ℤ) → TBlock → TKind
    -- `while condition bound n { .. }`
    while_do : TExpr → (bound : ℕ) → TBlock → TKind
    -- `f(..);`
    call_only : TCall → TKind
    -- `sense(s);`
    sense_only : Text → TKind
    -- `emit(p, e);`
    emit : Text → TExpr → TKind
    -- `Fresh(x);`
    fresh : Text → TKind
    -- `Consistent(x, id);`
    consistent : Text → (id : ℤ) → TKind
    -- `return e;`
    return : TExpr → TKind

  -- the `else` of an `if`, or that there is none; an `else if` is an `else` with that `if` alone
  pub data TElse : Type 0 where
    no_else : TElse
    else_do : TBlock → TElse

  -- a statement, with its number from 1 in source order and the line of its first token
  pub data TStmt : Type 0 where
    stmt : (id line : ℕ) → TKind → TStmt

  -- the statements between two braces; blocks are numbered from 1 in the order of their `{`
  pub data TBlock : Type 0 where
    block : (id : ℕ) → TStmts → TBlock

  -- the statements of a block, in order
  pub data TStmts : Type 0 where
    no_stmts : TStmts
    more : TStmt → TStmts → TStmts

-- a function of the program
pub record TFunction : Type 0 where
  -- its name
  pub name : Text
  -- the line of its `fn`
  pub line : ℕ
  -- its parameters, in order
  pub params : List Param
  -- the type of its result, if it has one
  pub result : Option Scalar
  -- the statements between its braces
  pub body : TBlock

-- a whole source
pub record TProgram : Type 0 where
  -- the names of sensors, ports and nonvolatile variables
  pub names : NameLists
  -- the nonvolatile variables, in the order of their names
  pub nv : List NvDecl
  -- the functions, in source order
  pub functions : List TFunction
  -- all declarations and functions, in source order
  pub order : List Decl
  -- the line of the last token, or 1 where there is none
  pub last_line : ℕ
