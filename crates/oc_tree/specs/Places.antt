-- Where statements stand, and which variables are visible there.
use Rattle.std.specs.Prelude.{ℕ, ◌+◌, ◌<◌, ◌^◌, Bool, true, false, ◌==◌, List, [], ◌∷◌, ◌++◌, length, flat_map, find, All, Option, Some, None, option_map}
use Rattle.oc_tree.specs.Names.{Text, named_in}
use Rattle.oc_tree.specs.Tree.{TKind, let_to, let_array, if_else, for_in, while_do, TElse, no_else, else_do, stmt, TBlock, block, TStmts, no_stmts, more, TFunction, TProgram}
use Rattle.oc_tree.specs.declared.tree.Param.{Param}
use Rattle.oc_tree.specs.declared.tree.VarId.{VarId}
use Rattle.oc_tree.specs.declared.tree.VarId.TheVariants as variables
use Rattle.oc_tree.specs.Calls.{place}
use Rattle.oc_tree.specs.Members.{is_number_of}

-- variables by their names, in the order of their declarations
abbrev pub Variables : Type 0
Variables = List (Text × VarId)

-- the variable of that name in a list of variables
abbrev pub find_variable : Variables → Text → Option VarId
find_variable vs x = named_in vs x

-- where a statement stands in its function
pub record Place : Type 0 where
  -- the number of the block in which it stands directly
  pub block : ℕ
  -- the numbers of the statements in which it stands, the innermost first
  pub around : List ℕ
  -- the variables that are visible there, besides the nonvolatile ones
  pub variables : Variables

-- a statement and the place where it stands
pub record Placed : Type 0 where
  -- its number
  pub id : ℕ
  -- the line of its first token
  pub line : ℕ
  -- what it does
  pub kind : TKind
  -- where it stands
  pub at : Place

-- ---- what statements declare

-- the variables that a statement makes visible behind it: that of a `let`
abbrev pub let_variables : (id : ℕ) → TKind → Variables
let_variables id (let_to m x k r) = (x, variables.Declared id) ∷ []
let_variables id (let_array m x k i n) = (x, variables.Declared id) ∷ []
let_variables id _ = []

-- a statement declares a variable
abbrev pub declares : TKind → Bool
declares (let_to m x k r) = true
declares (let_array m x k i n) = true
declares (for_in x m n b) = true
declares _ = false

-- ---- the places of statements

-- the place behind the statement with this number
abbrev pub behind : Place → (id : ℕ) → TKind → Place
behind at id k = record at { variables = at.variables ++ let_variables id k }

-- the place in a branch of the statement with this number
abbrev pub in_branch : Place → (id : ℕ) → Place
in_branch at id = record at { around = id ∷ at.around }

-- the place in the loop with this number, which declares these variables
abbrev pub in_loop : Place → (id : ℕ) → Variables → Place
in_loop at id vs = record at { around = id ∷ at.around; variables = at.variables ++ vs }

abbrev mutual
  -- the statements inside the statement with this number, each with its place
  pub kind_placed : Place → (id : ℕ) → TKind → List Placed
  kind_placed at id (if_else c a b) =
      block_placed (in_branch at id) a ++ else_placed (in_branch at id) b
  kind_placed at id (for_in x m n b) =
      block_placed (in_loop at id ((x, variables.Declared id) ∷ [])) b
  kind_placed at id (while_do c n b) = block_placed (in_loop at id []) b
  kind_placed at id _ = []

  -- the statements of an `else` and those inside them, each with its place
  pub else_placed : Place → TElse → List Placed
  else_placed at no_else = []
  else_placed at (else_do b) = block_placed at b

  -- the statements of a block and those inside them, each with its place
  pub block_placed : Place → TBlock → List Placed
  block_placed at (block id ss) = stmts_placed (record at { block = id }) ss

  -- statements of a block and those inside them, each with its place
  pub stmts_placed : Place → TStmts → List Placed
  stmts_placed at no_stmts = []
  stmts_placed at (more (stmt id line k) ss) =
      record { id = id; line = line; kind = k; at = at }
      ∷ (kind_placed at id k ++ stmts_placed (behind at id k) ss)

-- the variables of parameters, the first of which has the place `i`
abbrev pub param_variables : (i : ℕ) → List Param → Variables
param_variables i [] = []
param_variables i (q ∷ qs) = (q.name, variables.Param i) ∷ param_variables (i + 1) qs

-- the place in front of a function's body
abbrev pub at_start : TFunction → Place
at_start f = record { block = 0; around = []; variables = param_variables 0 f.params }

-- all statements of a program, each with its place
abbrev pub program_placed : TProgram → List Placed
program_placed p = flat_map (λ f. block_placed (at_start f) f.body) p.functions

-- ---- what is asked of a statement

-- the statement with this number, with its place
abbrev pub placed : TProgram → ℕ → Option Placed
placed p s = find (λ a. a.id == s) (program_placed p)

-- directly in which block the statement with this number stands
abbrev pub block_of : TProgram → ℕ → Option ℕ
block_of p s = option_map (λ a. a.at.block) (placed p s)

-- the line of the statement with this number
abbrev pub line_of_stmt : TProgram → ℕ → Option ℕ
line_of_stmt p s = option_map (λ a. a.line) (placed p s)

-- a statement, which may be none, stands in the statement `outer`
abbrev pub stands_in : (outer : ℕ) → Option Placed → Bool
stands_in outer None = false
stands_in outer (Some a) = is_number_of a.at.around outer

-- the statement `inner` stands in the statement `outer`
abbrev pub encloses : TProgram → (outer inner : ℕ) → Bool
encloses p outer inner = stands_in outer (placed p inner)

-- the nonvolatile variable of this name
abbrev pub nv_variable : TProgram → Text → Option VarId
nv_variable p x = option_map variables.Nv (place p.names.nvs x)

-- this variable, or where there is none the nonvolatile one of the name `x`
abbrev pub or_nonvolatile : TProgram → Text → Option VarId → Option VarId
or_nonvolatile p x (Some v) = Some v
or_nonvolatile p x None = nv_variable p x

-- The parameters of each function, and the nonvolatile variables of a program, can be numbered by `u32`.
pub record FewVariables (p : TProgram) : Type 0 where
  pub nvs : length p.names.nvs < 2 ^ 32
  pub params : All (λ f. length f.params < 2 ^ 32) p.functions
