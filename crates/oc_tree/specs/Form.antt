-- Programs in form: what every tree that tokens spell keeps. What is asked of the names inside the
-- tree is left open: those of a written program are names of the language, while its expansion has
-- names of temporaries too.
use Rattle.std.specs.Prelude.{◌≡◌, ℕ, ℤ, pos, neg_ℤ, ◌⊎◌, ◌≤◌, Bool, true, false, length, All, count_by, Option, Some, None}
use Rattle.oc_lex.specs.Stands.{IsName}
use Rattle.oc_tree.specs.Names.{Text}
use Rattle.oc_tree.specs.Tree.{TExpr, number, truth, variable, index, deref, unary, binary, sensed, called, TArg, value, shared, mutable, TCall, call, TArgs, no_args, more_args}
use Rattle.oc_tree.specs.Tree.{TRight, right_value, right_sense, right_call, TKind, let_to, let_array, assign, assign_index, assign_deref, if_else, for_in, while_do, call_only}
use Rattle.oc_tree.specs.Tree.{sense_only, emit, fresh, consistent, return, TElse, no_else, else_do, TStmt, stmt, TBlock, block, TStmts, no_stmts, more, TFunction, TProgram}
use Rattle.oc_tree.specs.Nodes.{program_nodes}
use Rattle.oc_tree.specs.Numbers.{numbers_on, program_statements, program_blocks}
use Rattle.oc_tree.specs.declared.tree.ValueKind.{ValueKind}
use Rattle.oc_tree.specs.declared.tree.ValueKind.TheVariants as types
use Rattle.oc_tree.specs.declared.tree.Param.{Param}
use Rattle.oc_tree.specs.declared.tree.NvDecl.{NvDecl}
use Rattle.oc_tree.specs.declared.tree.DeclKind.{DeclKind}
use Rattle.oc_tree.specs.declared.tree.DeclKind.TheVariants as decls

-- ---- numbers

-- a number that a token can say
abbrev pub IsNumeral : ℤ → Type 0
IsNumeral z = (n : ℕ) × (z ≡ pos n) × (n ≤ 2147483647)

-- a number that a token can say, or a `-` and such a number
abbrev pub IsConst : ℤ → Type 0
IsConst z = (n : ℕ) × ((z ≡ pos n) ⊎ (z ≡ neg_ℤ (pos n))) × (n ≤ 2147483647)

-- a number of words or turns that a token can say
abbrev pub IsCount : ℕ → Type 0
IsCount n = n ≤ 2147483647

-- ---- types

-- the length of an array type is a number that a token can say
abbrev pub TypeInForm : ValueKind → Type 0
TypeInForm (types.Array n) = IsCount n
TypeInForm _ = Unit {0}

-- the type that may be written in a `let` is in form
abbrev pub NoteInForm : Option ValueKind → Type 0
NoteInForm None = Unit {0}
NoteInForm (Some k) = TypeInForm k

-- ---- expressions: their names are names, and their numbers are numerals

abbrev mutual
  -- an expression in form: its names keep `N`, and its numbers are numerals
  pub ExprInForm : (Text → Type 0) → TExpr → Type 0
  ExprInForm N (number z) = IsNumeral z
  ExprInForm N (truth b) = Unit {0}
  ExprInForm N (variable x) = N x
  ExprInForm N (index x e) = N x × ExprInForm N e
  ExprInForm N (deref x) = N x
  ExprInForm N (unary op e) = ExprInForm N e
  ExprInForm N (binary op a b) = ExprInForm N a × ExprInForm N b
  ExprInForm N (sensed s) = N s
  ExprInForm N (called c) = CallInForm N c

  -- an argument in form: its names keep `N`, and its numbers are numerals
  pub ArgInForm : (Text → Type 0) → TArg → Type 0
  ArgInForm N (value e) = ExprInForm N e
  ArgInForm N (shared x) = N x
  ArgInForm N (mutable x) = N x

  -- a call in form: its names keep `N`, and its numbers are numerals
  pub CallInForm : (Text → Type 0) → TCall → Type 0
  CallInForm N (call f args) = N f × ArgsInForm N args

  -- arguments in form
  pub ArgsInForm : (Text → Type 0) → TArgs → Type 0
  ArgsInForm N no_args = Unit {0}
  ArgsInForm N (more_args a rest) = ArgInForm N a × ArgsInForm N rest

-- an expression is neither just an input nor just a call, which are right sides of their own
abbrev pub IsNoPull : TExpr → Type 0
IsNoPull (sensed s) = ⊥
IsNoPull (called c) = ⊥
IsNoPull _ = Unit {0}

-- a right side in form; an expression there is neither just an input nor just a call
abbrev pub RightInForm : (Text → Type 0) → TRight → Type 0
RightInForm N (right_value e) = IsNoPull e × ExprInForm N e
RightInForm N (right_sense s) = N s
RightInForm N (right_call c) = CallInForm N c

-- ---- statements

abbrev mutual
  -- a statement in form: its names keep `N`, its numbers are constants and counts, and what it
  -- holds is in form
  pub KindInForm : (Text → Type 0) → TKind → Type 0
  KindInForm N (let_to m x k r) = N x × NoteInForm k × RightInForm N r
  KindInForm N (let_array m x k i n) = N x × NoteInForm k × IsConst i × IsCount n
  KindInForm N (assign x r) = N x × RightInForm N r
  KindInForm N (assign_index x i r) = N x × ExprInForm N i × RightInForm N r
  KindInForm N (assign_deref x r) = N x × RightInForm N r
  KindInForm N (if_else c a b) = ExprInForm N c × BlockInForm N a × ElseInForm N b
  KindInForm N (for_in x c d b) = N x × IsConst c × IsConst d × BlockInForm N b
  KindInForm N (while_do c n b) = ExprInForm N c × IsCount n × BlockInForm N b
  KindInForm N (call_only c) = CallInForm N c
  KindInForm N (sense_only s) = N s
  KindInForm N (emit p e) = N p × ExprInForm N e
  KindInForm N (fresh x) = N x
  KindInForm N (consistent x n) = N x × IsNumeral n
  KindInForm N (return e) = ExprInForm N e

  -- an `else` in form, where there is one
  pub ElseInForm : (Text → Type 0) → TElse → Type 0
  ElseInForm N no_else = Unit {0}
  ElseInForm N (else_do b) = BlockInForm N b

  -- a numbered statement in form
  pub StmtInForm : (Text → Type 0) → TStmt → Type 0
  StmtInForm N (stmt id line k) = KindInForm N k

  -- a block in form
  pub BlockInForm : (Text → Type 0) → TBlock → Type 0
  BlockInForm N (block id ss) = StmtsInForm N ss

  -- statements in form
  pub StmtsInForm : (Text → Type 0) → TStmts → Type 0
  StmtsInForm N no_stmts = Unit {0}
  StmtsInForm N (more s ss) = StmtInForm N s × StmtsInForm N ss

-- ---- functions and declarations

-- a parameter in form: its name keeps `N`, and its type is in form
abbrev pub ParamInForm : (Text → Type 0) → Param → Type 0
ParamInForm N p = N p.name × TypeInForm p.kind

-- a function in form: its name keeps `N`, and its parameters and its body are in form
pub record FunctionInForm (N : Text → Type 0) (f : TFunction) : Type 0 where
  pub name : N f.name
  pub params : All (ParamInForm N) f.params
  pub body : BlockInForm N f.body

-- an array's words are a number that a token can say; what isn't an array has one word
abbrev pub CellsInForm : (array : Bool) → ℕ → Type 0
CellsInForm true n = IsCount n
CellsInForm false n = n ≡ 1

-- a nonvolatile variable in form: its words are a count, and its initial value is a constant
abbrev pub NvInForm : NvDecl → Type 0
NvInForm d = CellsInForm d.array d.words × IsConst d.initial

-- a declaration is that of a sensor
abbrev pub is_sensor : DeclKind → Bool
is_sensor decls.Sensor = true
is_sensor _ = false

-- a declaration is that of a port
abbrev pub is_port : DeclKind → Bool
is_port decls.Port = true
is_port _ = false

-- a declaration is that of a nonvolatile variable
abbrev pub is_nv : DeclKind → Bool
is_nv decls.Nv = true
is_nv _ = false

-- a declaration is that of a function
abbrev pub is_function : DeclKind → Bool
is_function decls.Function = true
is_function _ = false

-- ---- programs

-- the order of declarations has each kind as often as something of that kind is declared
pub record DeclaredInOrder (p : TProgram) : Type 0 where
  pub sensors : count_by (λ d. is_sensor d.kind) p.order ≡ length p.names.sensors
  pub ports : count_by (λ d. is_port d.kind) p.order ≡ length p.names.ports
  pub nvs : count_by (λ d. is_nv d.kind) p.order ≡ length p.names.nvs
  pub functions : count_by (λ d. is_function d.kind) p.order ≡ length p.functions
  pub each_nv : length p.nv ≡ length p.names.nvs

-- the names and numbers of a program can be spelled; the names inside its functions keep `N`
pub record Spellable (N : Text → Type 0) (p : TProgram) : Type 0 where
  pub sensors : All IsName p.names.sensors
  pub ports : All IsName p.names.ports
  pub nvs : All IsName p.names.nvs
  pub nv : All NvInForm p.nv
  pub functions : All (FunctionInForm N) p.functions

-- the statements of a program, and its blocks, are numbered from 1 in source order
pub record Numbered (p : TProgram) : Type 0 where
  pub statements : program_statements p ≡ numbers_on 1 (length (program_statements p))
  pub blocks : program_blocks p ≡ numbers_on 1 (length (program_blocks p))

-- a program in form: what every tree that tokens spell keeps, where `N` says what is asked of names
-- inside functions
pub record InForm (N : Text → Type 0) (p : TProgram) : Type 0 where
  pub numbered : Numbered p
  pub spellable : Spellable N p
  pub declared : DeclaredInOrder p
  pub few_nodes : program_nodes p ≤ 2097152
