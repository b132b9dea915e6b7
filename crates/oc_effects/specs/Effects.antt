-- What the statements of a function do to its variables. It is said of programs without pulls.
use Rattle.std.specs.Prelude.{ℕ, Bool, true, false, List, [], ◌∷◌, ◌++◌, map, flat_map, Option, Some, None, cond, option_map, option_to_list, option_and_then, nat_eq}
use Rattle.std.proofs.Math.ListN.{get_or}
use Rattle.oc_tree.specs.Names.{Text}
use Rattle.oc_tree.specs.Tree.{variable, TArg, value, shared, mutable, TCall, call, TArgs, no_args, more_args, TRight, right_value, right_sense, right_call, TKind, let_to}
use Rattle.oc_tree.specs.Tree.{let_array, assign, assign_index, assign_deref, for_in, while_do, call_only, fresh, consistent, return, TFunction, TProgram}
use Rattle.oc_tree.specs.declared.tree.Param.{Param}
use Rattle.oc_tree.specs.declared.tree.VarId.{VarId}
use Rattle.oc_tree.specs.declared.tree.VarId.TheVariants as variables
use Rattle.oc_tree.specs.Calls.{function_place}
use Rattle.oc_tree.specs.Assigned.{is_mutable}
use Rattle.oc_tree.specs.Places.{Placed, find_variable, or_nonvolatile, declares, block_placed, at_start}
use Rattle.oc_tree.specs.Named.{expr_names, arg_names, own_names}
use Rattle.oc_effects.specs.declared.effect.Note.{Note}
use Rattle.oc_effects.specs.declared.effect.Note.TheVariants as notes

-- an argument of a call
pub record TPassed : Type 0 where
  -- the variables that it names
  pub named : List VarId
  -- the one that it lends to a `&mut` parameter
  pub lent : Option VarId

-- a call that a statement makes
pub record TCalled : Type 0 where
  -- the place of the called function
  pub function : ℕ
  -- the arguments, one for each parameter
  pub args : List TPassed

-- what a statement does by itself, without the statements inside it
pub record TEffect : Type 0 where
  -- its number
  pub stmt : ℕ
  -- its line in the source
  pub line : ℕ
  -- the block in which it stands directly
  pub block : ℕ
  -- the statements around it, the innermost first
  pub around : List ℕ
  -- whether it is a `for` or a `while`
  pub is_loop : Bool
  -- whether it makes a variable
  pub declares : Bool
  -- the variables that it names in its own expressions and arguments
  pub named : List VarId
  -- those that it names in the value that it sets a variable to, and in its target's index
  pub sources : List VarId
  -- the variable that it sets, which is the result of the function for a `return`
  pub target : Option VarId
  -- whether it sets that one to an input
  pub senses : Bool
  -- its call
  pub call : Option TCalled
  -- its annotation
  pub note : Option Note

-- ---- parts of statements

-- a statement is a `for` or a `while`
abbrev pub is_loop : TKind → Bool
is_loop (for_in x m n b) = true
is_loop (while_do c n b) = true
is_loop _ = false

-- the right side of a statement
abbrev pub right_of : TKind → Option TRight
right_of (let_to m x k r) = Some r
right_of (assign x r) = Some r
right_of (assign_index x i r) = Some r
right_of (assign_deref x r) = Some r
right_of _ = None

-- a right side is an input
abbrev pub is_sense : Option TRight → Bool
is_sense (Some (right_sense s)) = true
is_sense _ = false

-- the call that is a right side
abbrev pub right_call_of : TRight → Option TCall
right_call_of (right_call c) = Some c
right_call_of _ = None

-- the call that is the whole right side or the whole statement
abbrev pub call_of : TKind → Option TCall
call_of (call_only c) = Some c
call_of k = option_and_then right_call_of (right_of k)

-- the names in a right side that is an expression
abbrev pub value_names : TRight → List Text
value_names (right_value e) = expr_names e
value_names _ = []

-- the names in the value that a statement sets a variable to, and in its target's index
abbrev pub source_names : TKind → List Text
source_names (let_to m x k r) = value_names r
source_names (assign x r) = value_names r
source_names (assign_index x i r) = expr_names i ++ value_names r
source_names (assign_deref x r) = value_names r
source_names (return e) = expr_names e
source_names _ = []

-- the name that is lent where the parameter takes `&mut`
abbrev pub lent_name : TArg → Option Text
lent_name (value (variable x)) = Some x
lent_name (mutable x) = Some x
lent_name a = None

-- ---- names resolved, at a statement

-- the variable that a name stands for in the statement's own expressions
abbrev pub variable_at : TProgram → Placed → Text → Option VarId
variable_at p a x = or_nonvolatile p x (find_variable a.at.variables x)

-- the variables that names stand for in the statement's own expressions
abbrev pub variables_at : TProgram → Placed → List Text → List VarId
variables_at p a xs = flat_map (λ x. option_to_list (variable_at p a x)) xs

-- the variable that a statement sets: the one that it declares or assigns, or the function's result
abbrev pub target_of : TProgram → Placed → TKind → Option VarId
target_of p a (let_to m x k r) = Some (variables.Declared a.id)
target_of p a (let_array m x k i n) = Some (variables.Declared a.id)
target_of p a (assign x r) = variable_at p a x
target_of p a (assign_index x i r) = variable_at p a x
target_of p a (assign_deref x r) = variable_at p a x
target_of p a (return e) = Some variables.Returned
target_of p a _ = None

-- the annotation that a statement is, of the variable that it names
abbrev pub note_of : TProgram → Placed → TKind → Option Note
note_of p a (fresh x) = option_map notes.Fresh (variable_at p a x)
note_of p a (consistent x k) = option_map (λ v. notes.Consistent v k) (variable_at p a x)
note_of p a _ = None

-- an argument of a call at a statement, for this parameter
abbrev pub passed : TProgram → Placed → Param → TArg → TPassed
passed p a q g = record {
  named = variables_at p a (arg_names g);
  lent = cond (is_mutable q.passing) (option_and_then (variable_at p a) (lent_name g)) None;
}

-- the arguments of a call at a statement, for these parameters
abbrev pub all_passed : TProgram → Placed → List Param → TArgs → List TPassed
all_passed p a [] gs = []
all_passed p a (q ∷ qs) no_args = []
all_passed p a (q ∷ qs) (more_args g gs) = passed p a q g ∷ all_passed p a qs gs

-- the parameters of the function at a place
abbrev pub params_at : TProgram → ℕ → List Param
params_at p f = get_or (map (λ g. g.params) p.functions) f []

-- a call of the function at a place, with these arguments
abbrev pub called_at : TProgram → Placed → TArgs → ℕ → TCalled
called_at p a args f = record { function = f; args = all_passed p a (params_at p f) args }

-- a call at a statement, where the function exists
abbrev pub called_by : TProgram → Placed → TCall → Option TCalled
called_by p a (call f args) = option_map (called_at p a args) (function_place p.functions f)

-- what a statement does by itself, where it stands
abbrev pub effect_of : TProgram → Placed → TEffect
effect_of p a = record {
  stmt = a.id;
  line = a.line;
  block = a.at.block;
  around = a.at.around;
  is_loop = is_loop a.kind;
  declares = declares a.kind;
  named = variables_at p a (own_names a.kind);
  sources = variables_at p a (source_names a.kind);
  target = target_of p a a.kind;
  senses = is_sense (right_of a.kind);
  call = option_and_then (called_by p a) (call_of a.kind);
  note = note_of p a a.kind;
}

-- ---- functions

-- the effects of a function's statements, in source order
abbrev pub function_effects : TProgram → TFunction → List TEffect
function_effects p f = map (effect_of p) (block_placed (at_start f) f.body)

-- the effects of all functions, a list for each, in source order
abbrev pub effects : TProgram → List (List TEffect)
effects p = map (function_effects p) p.functions

-- the effects of the function at a place
abbrev pub effects_at : TProgram → ℕ → List TEffect
effects_at p f = get_or (effects p) f []

-- an effect is that of the statement with this number
abbrev pub is_numbered : ℕ → TEffect → Bool
is_numbered s a = nat_eq a.stmt s
