-- The names that stand in functions where no variable of theirs hides them, all in one list.
use Rattle.std.specs.Prelude.{ℕ, ◌+◌, List, [], ◌∷◌, ◌++◌, Option, Some, None, cond, option_to_list}
use Rattle.std.specs.List.{flat_map}
use Rattle.oc_tree.specs.Names.{Text}
use Rattle.oc_tree.specs.Tree.{TArg, mutable, TCall, call, TArgs, no_args, more_args, TKind, let_to, let_array, assign, assign_index, assign_deref, if_else, for_in, while_do, fresh, consistent}
use Rattle.oc_tree.specs.Tree.{TElse, no_else, else_do, TStmt, stmt, TBlock, block, TStmts, no_stmts, more, TFunction}
use Rattle.oc_tree.specs.declared.tree.Param.{Param}
use Rattle.oc_tree.specs.Named.{own_names}
use Rattle.oc_tree.specs.Calls.{function_place, own_calls}
use Rattle.oc_tree.specs.Assigned.{assigned_number, mutable_param}
use Rattle.oc_tree.specs.Scope.{Scope, is_in_scope}
use Rattle.oc_tree.specs.Elements.{turn_var}

-- ---- what is asked of a statement itself

-- the variable that a statement assigns to, whole or in part, or annotates
abbrev pub end_name : TKind → Option Text
end_name (assign x r) = Some x
end_name (assign_index x i r) = Some x
end_name (assign_deref x r) = Some x
end_name (fresh x) = Some x
end_name (consistent x n) = Some x
end_name _ = None

-- the variables that a statement itself names
abbrev pub all_names : TKind → List Text
all_names k = own_names k ++ option_to_list (end_name k)

-- the variable that a statement assigns by its name, whole or in part
abbrev pub target_name : TKind → Option Text
target_name (assign x r) = Some x
target_name (assign_index x i r) = Some x
target_name _ = None

-- the variable that argument `i` of a call of `v` lends to a parameter that is assigned through
abbrev pub arg_assigned : List TFunction → (v i : ℕ) → TArg → Option Text
arg_assigned fs v i (mutable x) = cond (assigned_number fs (mutable_param fs v i)) (Some x) None
arg_assigned fs v i a = None

-- the variables that arguments lend so, from argument `i` on
abbrev pub args_assigned : List TFunction → (v i : ℕ) → TArgs → List Text
args_assigned fs v i no_args = []
args_assigned fs v i (more_args a rest) =
    option_to_list (arg_assigned fs v i a) ++ args_assigned fs v (i + 1) rest

-- the variables that arguments lend so to the function at `v`, if any
abbrev pub callee_assigned : List TFunction → TArgs → Option ℕ → List Text
callee_assigned fs args None = []
callee_assigned fs args (Some v) = args_assigned fs v 0 args

-- the variables that a call lends so
abbrev pub call_assigned : List TFunction → TCall → List Text
call_assigned fs (call f args) = callee_assigned fs args (function_place fs f)

-- the variables that a statement itself assigns, by their names or through its calls
abbrev pub assigned_names : List TFunction → TKind → List Text
assigned_names fs k =
    option_to_list (target_name k) ++ flat_map (call_assigned fs) (own_calls k)

-- ---- what hides names

-- the scope with a variable of this name, unless it has one
abbrev pub hiding : Scope → Text → Scope
hiding hs x = cond (is_in_scope hs x) hs (hs ++ (x, turn_var) ∷ [])

-- the scope with variables of the names of parameters
abbrev pub hiding_params : Scope → List Param → Scope
hiding_params hs [] = hs
hiding_params hs (q ∷ qs) = hiding_params (hiding hs q.name) qs

-- the scope behind a statement of this kind
abbrev pub hiding_kind : Scope → TKind → Scope
hiding_kind hs (let_to m x k r) = hiding hs x
hiding_kind hs (let_array m x k i n) = hiding hs x
hiding_kind hs _ = hs

-- the scope behind a statement
abbrev pub hiding_stmt : Scope → TStmt → Scope
hiding_stmt hs (stmt id line k) = hiding_kind hs k

-- ---- the lists

-- a list with those of these names behind it that nothing hides
abbrev pub unhidden : Scope → List Text → List Text → List Text
unhidden hs done [] = done
unhidden hs done (x ∷ xs) = unhidden hs (cond (is_in_scope hs x) done (done ++ x ∷ [])) xs

abbrev mutual
  -- a list with what is asked of the statements inside a statement, where nothing hides it
  pub inner_shown : (TKind → List Text) → Scope → List Text → TKind → List Text
  inner_shown asked hs done (if_else c a b) =
      else_shown asked hs (block_shown asked hs done a) b
  inner_shown asked hs done (for_in x m n b) = block_shown asked (hiding hs x) done b
  inner_shown asked hs done (while_do c n b) = block_shown asked hs done b
  inner_shown asked hs done _ = done

  -- the same of the statements of an `else`
  pub else_shown : (TKind → List Text) → Scope → List Text → TElse → List Text
  else_shown asked hs done no_else = done
  else_shown asked hs done (else_do b) = block_shown asked hs done b

  -- the same of a statement and those inside it
  pub stmt_shown : (TKind → List Text) → Scope → List Text → TStmt → List Text
  stmt_shown asked hs done (stmt id line k) = inner_shown asked hs (unhidden hs done (asked k)) k

  -- the same of the statements of a block
  pub block_shown : (TKind → List Text) → Scope → List Text → TBlock → List Text
  block_shown asked hs done (block id ss) = stmts_shown asked hs done ss

  -- the same of statements, each of which may hide what stands in those behind it
  pub stmts_shown : (TKind → List Text) → Scope → List Text → TStmts → List Text
  stmts_shown asked hs done no_stmts = done
  stmts_shown asked hs done (more s ss) =
      stmts_shown asked (hiding_stmt hs s) (stmt_shown asked hs done s) ss

-- what is asked of the statements of a function, where nothing hides it
abbrev pub function_shown : (TKind → List Text) → TFunction → List Text
function_shown asked f = block_shown asked (hiding_params [] f.params) [] f.body
