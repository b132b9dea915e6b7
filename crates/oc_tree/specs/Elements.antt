-- The elements of a program, in the order of their first tokens: declarations and function heads,
-- each head followed by the statements of its body, and last the end of the source. A rule is
-- broken by an element.
use Rattle.std.specs.Prelude.{ℕ, ◌+◌, Bool, true, false, ◌&&◌, List, [], ◌∷◌, ◌++◌, Option, Some, None, slice_get}
use Rattle.oc_tree.specs.Names.{Text}
use Rattle.oc_tree.specs.Tree.{TKind, let_to, let_array, if_else, for_in, while_do, TElse, no_else, else_do, TStmt, stmt, TBlock, block, TStmts, no_stmts, more, TFunction, TProgram}
use Rattle.oc_tree.specs.declared.tree.NvDecl.{NvDecl}
use Rattle.oc_tree.specs.declared.tree.Decl.{Decl}
use Rattle.oc_tree.specs.declared.tree.DeclKind.{DeclKind}
use Rattle.oc_tree.specs.declared.tree.DeclKind.TheVariants as decls
use Rattle.oc_tree.specs.declared.tree.Scalar.{Scalar}
use Rattle.oc_tree.specs.declared.tree.Scalar.TheVariants as scalars
use Rattle.oc_tree.specs.declared.tree.ValueKind.{ValueKind}
use Rattle.oc_tree.specs.declared.tree.ValueKind.TheVariants as kinds
use Rattle.oc_tree.specs.declared.before.Before.{Before}
use Rattle.oc_tree.specs.declared.scope.Origin.TheVariants as origins
use Rattle.oc_tree.specs.declared.scope.Var.{Var}
use Rattle.oc_tree.specs.Scope.{Scope, with_params}
use Rattle.oc_tree.specs.Types.{right_type}

-- what stands at the top level
pub data Item : Type 0 where
  -- a sensor
  sensor_item : Text → Item
  -- a port
  port_item : Text → Item
  -- a nonvolatile variable
  nv_item : Text → NvDecl → Item
  -- the head of a function
  function_item : TFunction → Item

-- where a statement stands
pub record Here : Type 0 where
  -- its function
  pub function : TFunction
  -- the place of its function, from 0
  pub number : ℕ
  -- the variables that are visible there
  pub scope : Scope
  -- the number of the block in which it stands directly
  pub block : ℕ
  -- whether it is the last statement of the function's body
  pub last : Bool

-- what a rule may be broken by
pub data Element : Type 0 where
  -- a declaration or the head of a function, and how many declarations stand before it
  declared : Before → (line : ℕ) → Item → Element
  -- a statement with its number and line, and where it stands
  statement : Here → (id line : ℕ) → TKind → Element
  -- the end of the source
  ending : (line : ℕ) → Element

-- the line of an element
abbrev pub line_of : Element → ℕ
line_of (declared b line i) = line
line_of (statement h id line k) = line
line_of (ending line) = line

-- ---- what statements declare

-- the kind of a variable with this type; where there is none, that of a number
abbrev pub kind_of : Option Scalar → ValueKind
kind_of (Some scalars.Bool) = kinds.Bool
kind_of _ = kinds.Int

-- the variable that the `let` with this number declares
abbrev pub let_var : Here → (id : ℕ) → (mut : Bool) → ValueKind → Var
let_var h id mut kind = record { origin = origins.Let mut id h.block; kind = kind }

-- the variables that are visible after a statement, in its block
abbrev pub scope_after : TProgram → Here → (id : ℕ) → TKind → Scope
scope_after p h id (let_to m x written r) =
    h.scope ++ (x, let_var h id m (kind_of (right_type p h.scope r))) ∷ []
scope_after p h id (let_array m x written i n) = h.scope ++ (x, let_var h id m (kinds.Array n)) ∷ []
scope_after p h id _ = h.scope

-- where a statement stands that follows this one in its block
abbrev pub after_stmt : TProgram → Here → TStmt → Here
after_stmt p h (stmt id line k) = record h { scope = scope_after p h id k }

-- the variable of a `for`
abbrev pub turn_var : Var
turn_var = record { origin = origins.For; kind = kinds.Int }

-- where the statements in the body of a `for` stand, which declares `x`
abbrev pub in_turn : Here → Text → Here
in_turn h x = record h { scope = h.scope ++ (x, turn_var) ∷ []; last = false }

-- where the statements in a branch or in the body of a `while` stand
abbrev pub inside : Here → Here
inside h = record h { last = false }

-- no statement is left
abbrev pub is_end : TStmts → Bool
is_end no_stmts = true
is_end (more s ss) = false

-- where a statement stands that is followed by `ss`
abbrev pub before_stmts : Here → TStmts → Here
before_stmts h ss = record h { last = h.last && is_end ss }

-- ---- the elements

abbrev mutual
  -- the statements inside a statement, as elements
  pub kind_elements : TProgram → Here → TKind → List Element
  kind_elements p h (if_else c a b) = block_elements p (inside h) a ++ else_elements p (inside h) b
  kind_elements p h (for_in x m n b) = block_elements p (in_turn h x) b
  kind_elements p h (while_do c n b) = block_elements p (inside h) b
  kind_elements p h _ = []

  -- the statements of an `else` with those inside them, as elements
  pub else_elements : TProgram → Here → TElse → List Element
  else_elements p h no_else = []
  else_elements p h (else_do b) = block_elements p h b

  -- a statement and those inside it, as elements
  pub stmt_elements : TProgram → Here → TStmt → List Element
  stmt_elements p h (stmt id line k) = statement h id line k ∷ kind_elements p h k

  -- the statements of a block with those inside them, as elements
  pub block_elements : TProgram → Here → TBlock → List Element
  block_elements p h (block id ss) = stmts_elements p (record h { block = id }) ss

  -- statements and those inside them, as elements; each sees what those before it declare
  pub stmts_elements : TProgram → Here → TStmts → List Element
  stmts_elements p h no_stmts = []
  stmts_elements p h (more s ss) =
      stmt_elements p (before_stmts h ss) s ++ stmts_elements p (after_stmt p h s) ss

-- where the first statement of a function's body stands; `n` is the function's place
abbrev pub in_function : TFunction → ℕ → Here
in_function f n =
    record { function = f; number = n; scope = with_params [] f.params; block = 0; last = true }

-- the declaration of a sensor or a port of this name, where there is one
abbrev pub named_element : (Text → Item) → Before → (line : ℕ) → Option Text → List Element
named_element item b line (Some x) = declared b line (item x) ∷ []
named_element item b line None = []

-- the declaration of a nonvolatile variable, where there is one
abbrev pub nv_element : Before → (line : ℕ) → Option Text → Option NvDecl → List Element
nv_element b line (Some x) (Some d) = declared b line (nv_item x d) ∷ []
nv_element b line x d = []

-- the head of a function, where there is one, and the statements of its body
abbrev pub function_elements : TProgram → Before → (line : ℕ) → Option TFunction → List Element
function_elements p b line (Some f) =
    declared b line (function_item f) ∷ block_elements p (in_function f b.functions) f.body
function_elements p b line None = []

-- the next declaration of this kind, behind `b`, with the statements of a function
abbrev pub item_elements : TProgram → Before → (line : ℕ) → DeclKind → List Element
item_elements p b line decls.Sensor =
    named_element sensor_item b line (slice_get p.names.sensors b.sensors)
item_elements p b line decls.Port = named_element port_item b line (slice_get p.names.ports b.ports)
item_elements p b line decls.Nv =
    nv_element b line (slice_get p.names.nvs b.nvs) (slice_get p.nv b.nvs)
item_elements p b line decls.Function =
    function_elements p b line (slice_get p.functions b.functions)

-- how many declarations there are behind one more of this kind
abbrev pub after_item : Before → DeclKind → Before
after_item b decls.Sensor = record b { sensors = b.sensors + 1 }
after_item b decls.Port = record b { ports = b.ports + 1 }
after_item b decls.Nv = record b { nvs = b.nvs + 1 }
after_item b decls.Function = record b { functions = b.functions + 1 }

-- the elements of these declarations, behind `b`, and the end of the source
abbrev pub order_elements : TProgram → Before → List Decl → List Element
order_elements p b [] = ending p.last_line ∷ []
order_elements p b (d ∷ ds) =
    item_elements p b d.line d.kind ++ order_elements p (after_item b d.kind) ds

-- no declaration stands before
abbrev pub nothing_before : Before
nothing_before = record { sensors = 0; ports = 0; nvs = 0; functions = 0 }

-- the elements of a program, in the order of their first tokens
abbrev pub program_elements : TProgram → List Element
program_elements p = order_elements p nothing_before p.order
