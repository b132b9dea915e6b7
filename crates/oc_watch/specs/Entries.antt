-- What the entries of regions cost a run at most, beside its instructions.
use Rattle.std.specs.Prelude.{ℕ, zero, suc, ◌+◌, ◌*◌, List, length, codes, max, Option, Some, None}
use Rattle.oc_tree.specs.Names.{Text}
use Rattle.oc_tree.specs.Tree.{TCall, call, TRight, right_value, right_sense, right_call}
use Rattle.oc_tree.specs.Tree.{TKind, let_to, assign, assign_index, assign_deref, if_else, for_in}
use Rattle.oc_tree.specs.Tree.{while_do, call_only, TElse, no_else, else_do, stmt, TBlock, block}
use Rattle.oc_tree.specs.Tree.{TStmts, no_stmts, more, TFunction, TProgram}
use Rattle.oc_tree.specs.Marked.{TRegion}
use Rattle.oc_tree.specs.Weight.{turns}
use Rattle.oc_meaning.specs.Exec.{begun_by}
use Rattle.oc_meaning.specs.Run.{function_named}

-- what the entry of the region that begins at a place costs, if one does: `toll r` for region r
abbrev pub begun_toll : (toll : ℕ → ℕ) → Option ℕ → ℕ
begun_toll toll None = 0
begun_toll toll (Some r) = toll r

-- what the entries in a call cost at most: those of the called function, which `callee` tells
abbrev pub call_toll : (callee : Text → ℕ) → TCall → ℕ
call_toll callee (call f args) = callee f

-- what the entries in a right side cost at most
abbrev pub right_toll : (callee : Text → ℕ) → TRight → ℕ
right_toll callee (right_call c) = call_toll callee c
right_toll callee (right_value e) = 0
right_toll callee (right_sense s) = 0

module _ (regions : List TRegion) (toll : ℕ → ℕ) (callee : Text → ℕ) where
  abbrev mutual
    -- what the entries inside a statement cost at most, without that of its own region
    pub kind_toll : TKind → ℕ
    kind_toll (let_to m x t r) = right_toll callee r
    kind_toll (assign x r) = right_toll callee r
    kind_toll (assign_index x e r) = right_toll callee r
    kind_toll (assign_deref x r) = right_toll callee r
    kind_toll (if_else c a b) = max (block_toll a) (else_toll b)
    kind_toll (for_in x from to b) = turns from to * block_toll b
    kind_toll (while_do c bound b) = bound * block_toll b
    kind_toll (call_only c) = call_toll callee c
    kind_toll k = 0

    -- what the entries in the second branch of an `if` cost at most
    pub else_toll : TElse → ℕ
    else_toll no_else = 0
    else_toll (else_do b) = block_toll b

    -- what the entries in a block cost at most
    pub block_toll : TBlock → ℕ
    block_toll (block id ss) = stmts_toll ss

    -- what the entries in statements cost at most together, each with that of its own region
    pub stmts_toll : TStmts → ℕ
    stmts_toll no_stmts = 0
    stmts_toll (more (stmt n line k) ss) =
        begun_toll toll (begun_by regions n) + kind_toll k + stmts_toll ss

module _ (p : TProgram) (regions : List TRegion) (toll : ℕ → ℕ) where
  -- what the entries in an execution of a function cost at most
  abbrev pub function_toll : (callee : Text → ℕ) → Option TFunction → ℕ
  function_toll callee None = 0
  function_toll callee (Some f) = block_toll regions toll callee f.body

  -- what the entries in an execution of a function cost at most, where calls go at most so deep
  abbrev pub toll_to : (depth : ℕ) → Text → ℕ
  toll_to zero x = 0
  toll_to (suc d) x = function_toll (toll_to d) (function_named p.functions x)

  -- what the entries in a run cost at most
  abbrev pub run_toll : ℕ
  run_toll = toll_to (suc (length p.functions)) (codes "main")
