-- The same relations as tests, where calls go no deeper than there are functions.
use Rattle.std.specs.Prelude.{ℕ, zero, suc, Bool, false, ◌&&◌, ◌||◌, List, [], ◌∷◌, length, Option, Some, None, nat_eq, is_some}
use Rattle.std.specs.List.{list_any}
use Rattle.oc_tree.specs.Tree.{TProgram}
use Rattle.oc_tree.specs.declared.tree.VarId.{VarId}
use Rattle.oc_effects.specs.Effects.{TCalled, TEffect, effects, effects_at}
use Rattle.oc_flow.specs.Variables.{same_variable, is_among, is_variable_of, variables, is_variable, begins, ends}

-- what is said of two variables of a function
abbrev pub Between : Type 0
Between = ℕ → VarId → VarId → Bool

-- `u` leads to `v` by one step or more, with none but these variables between
abbrev pub chain : (VarId → VarId → Bool) → List VarId → VarId → VarId → Bool
chain step [] u v = step u v
chain step (w ∷ ws) u v = chain step ws u v || (chain step ws u w && chain step ws w v)

-- ---- flow

-- a statement leads from `u` to `t` by the value that it sets `t` to
abbrev pub leads_by_value : TEffect → VarId → VarId → Bool
leads_by_value a u t = is_among u a.sources && is_variable_of a.target t

-- a statement leads from `u` to `t` by its call, if it has one: `u` begins a flow in the called
-- function that ends in `t`
abbrev pub leads_by_call : TProgram → Between → TEffect → Option TCalled → VarId → VarId → Bool
leads_by_call p flow a None u t = false
leads_by_call p flow a (Some c) u t =
    list_any (λ x. begins c x u && list_any (λ y. flow c.function x y && ends a c y t)
    (variables p c.function)) (variables p c.function)

-- some statement of the function leads from `u` to `t`
abbrev pub leads : TProgram → Between → ℕ → VarId → VarId → Bool
leads p flow f u t =
    list_any (λ a. leads_by_value a u t || leads_by_call p flow a a.call u t) (effects_at p f)

-- in a function `u` flows into `v`, where the flow in the functions that it calls is known
abbrev pub flow_by : TProgram → Between → Between
flow_by p flow f u v =
    is_variable p f u
    && (is_variable p f v && (same_variable u v || chain (leads p flow f) (variables p f) u v))

-- in a function `u` flows into `v`, where calls go at most so deep
unfoldable pub flows_to : TProgram → ℕ → Between
flows_to p zero f u v = false
flows_to p (suc depth) f u v = flow_by p (flows_to p depth) f u v

-- in a function `u` flows into `v`. No function calls itself, so calls go no deeper than there are
-- functions
abbrev pub flows : TProgram → Between
flows p = flows_to p (length p.functions)

-- ---- input

-- what is said of a statement and a variable of its function
abbrev pub Bringing : Type 0
Bringing = TEffect → VarId → Bool

-- a statement of a function brings input into a variable that flows into `y`
abbrev pub receives : TProgram → Bringing → ℕ → VarId → Bool
receives p bring f y =
    list_any (λ b. list_any (λ u. bring b u && flows p f u y) (variables p f)) (effects_at p f)

-- a statement brings input into `v` by its call, if it has one: the called function brings it into
-- a variable that ends in `v`
abbrev pub brings_by_call : TProgram → Bringing → TEffect → Option TCalled → VarId → Bool
brings_by_call p bring a None v = false
brings_by_call p bring a (Some c) v =
    list_any (λ y. receives p bring c.function y && ends a c y v) (variables p c.function)

-- a statement brings input into `v`, by itself or by its call, where it is known what the
-- statements of other functions bring
abbrev pub brings_by : TProgram → Bringing → Bringing
brings_by p bring a v = (a.senses && is_variable_of a.target v) || brings_by_call p bring a a.call v

-- a statement brings input into `v`, where calls go at most so deep
unfoldable pub brings_to : TProgram → ℕ → Bringing
brings_to p zero a v = false
brings_to p (suc depth) a v = brings_by p (brings_to p depth) a v

-- a statement brings input into `v`: it sets it to an input, or calls a function in which one comes
-- out to it
abbrev pub brings : TProgram → Bringing
brings p = brings_to p (length p.functions)

-- the statement of a number brings input into `v`
abbrev pub brings_at : TProgram → ℕ → VarId → Bool
brings_at p s v = list_any (λ es. list_any (λ a. nat_eq a.stmt s && brings p a v) es) (effects p)

-- only a statement that reads an input or calls a function may bring input into any variable
abbrev pub may_bring : TEffect → Bool
may_bring a = is_some a.call || a.senses

-- the statement of a number reads an input or calls a function
abbrev pub may_bring_at : TProgram → ℕ → Bool
may_bring_at p s = list_any (λ es. list_any (λ a. nat_eq a.stmt s && may_bring a) es) (effects p)
