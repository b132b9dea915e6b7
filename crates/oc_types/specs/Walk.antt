-- The elements one by one, as the code goes through them: what a walk gives is the first that
-- breaks a rule, or the counts after all.
use Rattle.std.specs.Prelude.{◌≡◌, ℕ, List, [], ◌∷◌, Option, Some, None, slice_get}
use Rattle.oc_tree.specs.Names.{Text}
use Rattle.oc_tree.specs.Tree.{TKind, if_else, for_in, while_do, TElse, no_else, else_do, TStmt, stmt, TBlock, block, TStmts, no_stmts, more, TFunction, TProgram}
use Rattle.oc_tree.specs.declared.tree.NvDecl.{NvDecl}
use Rattle.oc_tree.specs.declared.tree.Decl.{Decl}
use Rattle.oc_tree.specs.declared.tree.DeclKind.{DeclKind}
use Rattle.oc_tree.specs.declared.tree.DeclKind.TheVariants as decls
use Rattle.oc_tree.specs.declared.before.Before.{Before}
use Rattle.oc_tree.specs.declared.broken.Broken.{Broken}
use Rattle.oc_tree.specs.Elements.{Item, sensor_item, port_item, nv_item, function_item, Here, Element, line_of, after_stmt, in_turn, inside, before_stmts, in_function, after_item, nothing_before}
use Rattle.oc_tree.specs.Limits.{Tally, nothing_counted, counted, with_item, with_statement}
use Rattle.oc_tree.specs.Broken.{item_rules, statement_rules, end_rules, rules_of, lowest}

-- what a walk over elements finds: the first that breaks a rule, or the counts after all
pub data Walk : Type 0 where
  stop : Broken → Walk
  go : Tally → Walk

-- a walk goes on behind another one, unless that has stopped
abbrev pub and_then : Walk → (Tally → Walk) → Walk
and_then (stop b) next = stop b
and_then (go n) next = next n

-- what the code answers, as a walk
abbrev pub outcome : Option Broken → Tally → Walk
outcome (Some b) n = stop b
outcome None n = go n

-- what a walk has found broken
abbrev pub found : Walk → Option Broken
found (stop b) = Some b
found (go n) = None

-- what an element makes of a walk: the lowest rule that it breaks, or the counts with it
abbrev pub element : (line : ℕ) → Option ℕ → Tally → Walk
element line None n = go n
element line (Some rule) n = stop (record { line = line; rule = rule })

abbrev mutual
  -- a walk over the statements inside a statement
  pub kind_walk : TProgram → Here → Tally → TKind → Walk
  kind_walk p h n (if_else c a b) =
      and_then (block_walk p (inside h) n a) (λ n. else_walk p (inside h) n b)
  kind_walk p h n (for_in x from to b) = block_walk p (in_turn h x) n b
  kind_walk p h n (while_do c bound b) = block_walk p (inside h) n b
  kind_walk p h n _ = go n

  -- a walk over the statements of an `else`
  pub else_walk : TProgram → Here → Tally → TElse → Walk
  else_walk p h n no_else = go n
  else_walk p h n (else_do b) = block_walk p h n b

  -- a walk over a statement and those inside it
  pub stmt_walk : TProgram → Here → Tally → TStmt → Walk
  stmt_walk p h n (stmt id line k) =
      and_then (element line (lowest (statement_rules p (with_statement n h k) h k))
      (with_statement n h k)) (λ n. kind_walk p h n k)

  -- a walk over the statements of a block
  pub block_walk : TProgram → Here → Tally → TBlock → Walk
  block_walk p h n (block id ss) = stmts_walk p (record h { block = id }) n ss

  -- a walk over statements and those inside them
  pub stmts_walk : TProgram → Here → Tally → TStmts → Walk
  stmts_walk p h n no_stmts = go n
  stmts_walk p h n (more s ss) =
      and_then (stmt_walk p (before_stmts h ss) n s) (λ n. stmts_walk p (after_stmt p h s) n ss)

-- a walk over a declaration, or over the head of a function
abbrev pub declaration_walk : TProgram → Before → Tally → (line : ℕ) → Item → Walk
declaration_walk p b n line i =
    element line (lowest (item_rules p (with_item n i) b i)) (with_item n i)

-- a walk over the declaration of a sensor or a port, where there is one
abbrev pub named_walk : (Text → Item) → TProgram → Before → Tally → (line : ℕ) → Option Text → Walk
named_walk item p b n line (Some x) = declaration_walk p b n line (item x)
named_walk item p b n line None = go n

-- a walk over the declaration of a nonvolatile variable, where there is one
abbrev pub nv_walk : TProgram → Before → Tally → (line : ℕ) → Option Text → Option NvDecl → Walk
nv_walk p b n line None d = go n
nv_walk p b n line (Some x) None = go n
nv_walk p b n line (Some x) (Some d) = declaration_walk p b n line (nv_item x d)

-- a walk over a function, where there is one
abbrev pub function_walk : TProgram → Before → Tally → (line : ℕ) → Option TFunction → Walk
function_walk p b n line (Some f) =
    and_then (declaration_walk p b n line (function_item f))
    (λ n. block_walk p (in_function f b.functions) n f.body)
function_walk p b n line None = go n

-- a walk over the next declaration of this kind
abbrev pub item_walk : TProgram → Before → Tally → (line : ℕ) → DeclKind → Walk
item_walk p b n line decls.Sensor =
    named_walk sensor_item p b n line (slice_get p.names.sensors b.sensors)
item_walk p b n line decls.Port = named_walk port_item p b n line (slice_get p.names.ports b.ports)
item_walk p b n line decls.Nv =
    nv_walk p b n line (slice_get p.names.nvs b.nvs) (slice_get p.nv b.nvs)
item_walk p b n line decls.Function = function_walk p b n line (slice_get p.functions b.functions)

-- a walk over declarations, and the end of the source
abbrev pub order_walk : TProgram → Before → Tally → List Decl → Walk
order_walk p b n [] = element p.last_line (lowest (end_rules p)) n
order_walk p b n (d ∷ ds) =
    and_then (item_walk p b n d.line d.kind) (λ n. order_walk p (after_item b d.kind) n ds)

-- a walk over all elements of a program
abbrev pub program_walk : TProgram → Walk
program_walk p = order_walk p nothing_before nothing_counted p.order

-- a walk over a list of elements
abbrev pub list_walk : TProgram → Tally → List Element → Walk
list_walk p n [] = go n
list_walk p n (e ∷ es) =
    and_then (element (line_of e) (lowest (rules_of p (counted n e) e)) (counted n e))
    (λ n. list_walk p n es)

-- an answer is what a walk finds
abbrev pub Ends : Option Broken → Walk → Type 0
Ends r w = found w ≡ r
