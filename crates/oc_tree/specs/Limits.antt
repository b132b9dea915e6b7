-- What is counted, and the limits.
use Rattle.std.specs.Prelude.{ℕ, ◌+◌, Bool, false, ◌&&◌, ◌||◌, ◌==◌, List, [], ◌∷◌, ◌++◌, length, Option, Some, None, cond, nat_lt, nat_le}
use Rattle.std.specs.Ordering.{int_eq}
use Rattle.std.specs.List.{list_any}
use Rattle.oc_tree.specs.Tree.{TKind, let_to, let_array, for_in, fresh, consistent}
use Rattle.oc_tree.specs.declared.before.Before.{Before}
use Rattle.oc_tree.specs.declared.scope.Origin.{Origin}
use Rattle.oc_tree.specs.declared.scope.Origin.TheVariants as origins
use Rattle.oc_tree.specs.declared.scope.Annotated.{Annotated}
use Rattle.oc_tree.specs.declared.scope.Annotated.TheVariants as policies
use Rattle.oc_tree.specs.declared.scope.Var.{Var}
use Rattle.oc_tree.specs.Pulls.{own_pulls}
use Rattle.oc_tree.specs.Calls.{own_calls}
use Rattle.oc_tree.specs.Scope.{variable_in}
use Rattle.oc_tree.specs.Sizes.{name_limit, function_limit, parameter_limit, variable_limit, statement_limit, call_limit, policy_limit, word_limit}
use Rattle.oc_tree.specs.Elements.{Item, sensor_item, port_item, nv_item, function_item, Here, Element, declared, statement, ending}

-- what is counted up to an element of the program; each pull is a variable and a statement more
pub record Tally : Type 0 where
  -- the nonvolatile words so far
  pub words : ℕ
  -- the variables of the function so far
  pub variables : ℕ
  -- the statements so far
  pub statements : ℕ
  -- the calls so far
  pub calls : ℕ
  -- the policies so far, each once
  pub policies : List Annotated

-- no word, variable, statement, call or policy was counted yet
abbrev pub nothing_counted : Tally
nothing_counted = record { words = 0; variables = 0; statements = 0; calls = 0; policies = [] }

-- 1 for a statement that declares a variable, else 0
abbrev pub own_declares : TKind → ℕ
own_declares (let_to m x k r) = 1
own_declares (let_array m x k i n) = 1
own_declares (for_in x m n b) = 1
own_declares _ = 0

-- two policies ask for the same
abbrev pub same_policy : Annotated → Annotated → Bool
same_policy (policies.Fresh m) (policies.Fresh n) = m == n
same_policy (policies.Consistent f m) (policies.Consistent g n) = (f == g) && int_eq m n
same_policy _ _ = false

-- one policy more, unless it is there
abbrev pub with_policy : List Annotated → Annotated → List Annotated
with_policy ps q = cond (list_any (same_policy q) ps) ps (ps ++ q ∷ [])

-- the policies, with the one that this variable is fresh, where a `let` declares it
abbrev pub with_let : List Annotated → Origin → List Annotated
with_let ps (origins.Let mut id _) = with_policy ps (policies.Fresh id)
with_let ps _ = ps

-- the policies, with the one that this variable is fresh, where it is known
abbrev pub with_fresh : List Annotated → Option Var → List Annotated
with_fresh ps None = ps
with_fresh ps (Some v) = with_let ps v.origin

-- the policies so far, with the one that a statement asks for
abbrev pub policies_after : List Annotated → Here → TKind → List Annotated
policies_after ps h (fresh x) = with_fresh ps (variable_in h.scope x)
policies_after ps h (consistent x n) = with_policy ps (policies.Consistent h.number n)
policies_after ps h _ = ps

-- the counts with a statement: its pulls, its variable, itself, its calls and its policy
abbrev pub with_statement : Tally → Here → TKind → Tally
with_statement n h k = record n {
  variables = n.variables + (own_pulls k + own_declares k);
  statements = n.statements + (own_pulls k + 1);
  calls = n.calls + length (own_calls k);
  policies = policies_after n.policies h k;
}

-- the counts with a declaration: the words of a nonvolatile variable, or a function's parameters as
-- its first variables
abbrev pub with_item : Tally → Item → Tally
with_item n (nv_item x d) = record n { words = n.words + d.words }
with_item n (function_item f) = record n { variables = length f.params }
with_item n _ = n

-- the counts with an element of the program
abbrev pub counted : Tally → Element → Tally
counted n (declared b line i) = with_item n i
counted n (statement h id line k) = with_statement n h k
counted n (ending line) = n

-- a declaration passes a limit, being one too many or bringing too much
abbrev pub item_passes : Tally → Before → Item → Bool
item_passes n b (sensor_item x) = nat_le name_limit b.sensors
item_passes n b (port_item x) = nat_le name_limit b.ports
item_passes n b (nv_item x d) = nat_le name_limit b.nvs || nat_lt word_limit n.words
item_passes n b (function_item f) =
    nat_le function_limit b.functions
    || (nat_lt parameter_limit (length f.params) || nat_lt variable_limit n.variables)

-- the counts with a statement pass a limit
abbrev pub statement_passes : Tally → Bool
statement_passes n =
    nat_lt variable_limit n.variables || (nat_lt statement_limit n.statements
    || (nat_lt call_limit n.calls || nat_lt policy_limit (length n.policies)))
