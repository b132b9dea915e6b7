-- What the code works with.
use Rattle.std.specs.Prelude.{◌+◌, ℕ, zero, suc, Bool, true, false, ◌&&◌, ◌||◌, not, List, [], ◌∷◌, ◌++◌, map, flat_map, filter, find, length, reverse, Option, Some, None, cond}
use Rattle.std.specs.Prelude.{nat_eq, option_map, option_to_list, replicate}
use Rattle.std.specs.List.{list_any}
use Rattle.std.specs.Option.{unwrap_or}
use Rattle.std.proofs.Math.ListN.{get_or}
use Rattle.oc_tree.specs.Tree.{TProgram}
use Rattle.oc_tree.specs.declared.tree.VarId.{VarId}
use Rattle.oc_tree.specs.declared.tree.VarId.TheVariants.{Nv, Param, Declared}
use Rattle.oc_tree.specs.declared.marked.Policy.{Policy}
use Rattle.oc_tree.specs.declared.marked.PolicyKind.{PolicyKind}
use Rattle.oc_effects.specs.Effects.{TCalled, TEffect, effects_at, is_numbered}
use Rattle.oc_flow.specs.Variables.{from, variables, begins, is_given, same_variable}
use Rattle.oc_flow.specs.Flow.{flows, brings_at}
use Rattle.oc_needs.specs.Policies.{kind_of_note, note_variable, is_note_of, is_held, annotated, held}
use Rattle.oc_needs.specs.Sites.{stands_in, carries}
use Rattle.oc_needs.specs.Need.{Needed, is_empty, needs}
use Rattle.oc_needs.specs.Requirements.{TRequirement, rising, with_inputs, with_list, in_order}

-- what the annotations of the function at the place `f` ask for
abbrev pub asked_by : ℕ → List TEffect → List Policy
asked_by f es =
    flat_map (λ a. option_to_list
    (option_map (λ note. record { function = f; kind = kind_of_note note }) a.note)) es

-- the variables of the annotations of a policy, and what must be held, among the statements of its function
abbrev pub annotated_by : PolicyKind → List TEffect → List VarId
annotated_by kind es =
    flat_map (λ a. option_to_list (option_map note_variable a.note))
    (filter (λ a. is_note_of kind a.note) es)

abbrev pub held_by : PolicyKind → List TEffect → List ℕ
held_by kind es = map (λ a. a.stmt) (filter (is_held kind) es)

-- ---- inputs

-- what is asked of the statement of a number
abbrev pub found_is : (TEffect → Bool) → Option TEffect → Bool
found_is test None = false
found_is test (Some a) = test a

abbrev pub asks_at : (TEffect → Bool) → TProgram → ℕ → ℕ → Bool
asks_at test p f s = found_is test (find (is_numbered s) (effects_at p f))

-- a loop, by the number of its statement
abbrev pub is_loop_by : TProgram → ℕ → ℕ → Bool
is_loop_by p f s = asks_at (λ a. a.is_loop) p f s

abbrev pub loops_by : TProgram → ℕ → (around : List ℕ) → List ℕ
loops_by p f around = filter (is_loop_by p f) (reverse around)

-- a variable is declared outside a loop
abbrev pub is_outside_by : TProgram → ℕ → (loop : ℕ) → VarId → Bool
is_outside_by p f loop (Declared s) = not (asks_at (stands_in loop) p f s)
is_outside_by p f loop _ = true

abbrev pub lifts_by : TProgram → ℕ → (u x : VarId) → (loop : ℕ) → Bool
lifts_by p f u x loop =
    list_any (λ w. carries p f u x w && is_outside_by p f loop w) (variables p f)

-- a statement that brings input into variables, with the loops around it, the outermost first
pub record TSource : Type 0 where
  pub stmt : ℕ
  pub loops : List ℕ
  pub brought : List VarId

abbrev pub source_of : TProgram → ℕ → TEffect → TSource
source_of p f a =
    record {
      stmt = a.stmt;
      loops = loops_by p f a.around;
      brought = filter (brings_at p a.stmt) (variables p f);
    }

-- a statement is one only where it brings something
abbrev pub source_list : TSource → List TSource
source_list s = cond (is_empty s.brought) [] (s ∷ [])

abbrev pub sources : TProgram → ℕ → List TEffect → List TSource
sources p f es = flat_map (λ a. source_list (source_of p f a)) es

-- it stands in a loop
abbrev pub is_looped : TSource → Bool
is_looped s = not (is_empty s.loops)

-- the site of an input that it brings into `u`, for `x`
abbrev pub source_site : TProgram → ℕ → TSource → (u x : VarId) → ℕ
source_site p f s u x = unwrap_or (find (lifts_by p f u x) s.loops) s.stmt

abbrev pub sites_between : TProgram → ℕ → TSource → VarId → List VarId → List ℕ
sites_between p f s u xs = flat_map (λ x. cond (flows p f u x) (source_site p f s u x ∷ []) []) xs

abbrev pub sites_from : TProgram → ℕ → List VarId → TSource → List VarId → List ℕ
sites_from p f xs s us = flat_map (λ u. sites_between p f s u xs) us

abbrev pub source_sites : TProgram → ℕ → List VarId → List TSource → List ℕ
source_sites p f xs ss = flat_map (λ s. sites_from p f xs s s.brought) ss

-- The same with fewer repetitions: a statement in no loop is its own site, once; and the sites of those in loops are
-- the same for all policies, so that each variable has one list of them.
abbrev pub flows_to_some : TProgram → ℕ → List VarId → VarId → Bool
flows_to_some p f xs u = list_any (flows p f u) xs

abbrev pub sites_outside : TProgram → ℕ → List VarId → TSource → List ℕ
sites_outside p f xs s =
    cond (is_empty s.loops) (cond (list_any (flows_to_some p f xs) s.brought) (s.stmt ∷ []) []) []

abbrev pub sites_inside : TProgram → ℕ → VarId → TSource → List ℕ
sites_inside p f x s = cond (is_empty s.loops) [] (sites_from p f (x ∷ []) s s.brought)

abbrev pub looped_sites : TProgram → ℕ → List TSource → VarId → List ℕ
looped_sites p f ss x = rising (flat_map (sites_inside p f x) ss)

abbrev pub all_sites_once : TProgram → ℕ → List VarId → List TSource → List ℕ
all_sites_once p f xs ss = flat_map (sites_outside p f xs) ss ++ flat_map (looped_sites p f ss) xs

-- those of inputs in loops, for each variable of a function
abbrev pub looped_at : TProgram → ℕ → List (List ℕ)
looped_at p f = map (looped_sites p f (sources p f (effects_at p f))) (variables p f)

-- ---- what is known of a function for all policies

-- the function that is called, where one is
abbrev pub callee : Option TCalled → List ℕ
callee None = []
callee (Some c) = c.function ∷ []

-- the functions that statements call
abbrev pub callees : List TEffect → List ℕ
callees es = flat_map (λ a. callee a.call) es

-- the variables of a function, the statements that bring input and whether one of them stands in a loop, and its callees
pub record TLocal : Type 0 where
  pub variables : List VarId
  pub sources : List TSource
  pub has_looped : Bool
  pub callees : List ℕ

abbrev pub local_at : TProgram → ℕ → TLocal
local_at p f = record {
  variables = variables p f;
  sources = sources p f (effects_at p f);
  has_looped = list_any is_looped (sources p f (effects_at p f));
  callees = callees (effects_at p f);
}

abbrev pub all_locals : TProgram → List TLocal
all_locals p = map (local_at p) (from 0 (length p.functions))

-- the variables that statements declare
abbrev pub declared_by : List TEffect → List VarId
declared_by es = map (λ a. Declared a.stmt) (filter (λ a. a.declares) es)

-- ---- needs

-- the variables of a function that are needed, and those of all functions
abbrev pub row_of : TProgram → Needed → ℕ → List VarId
row_of p need f = filter (need f) (variables p f)

abbrev pub rows_of : TProgram → Needed → List (List VarId)
rows_of p need = map (row_of p need) (from 0 (length p.functions))

-- a variable stands for one of these in the function that is called
abbrev pub stands_for : TCalled → List VarId → VarId → Bool
stands_for c row y = list_any (λ x. begins c x y) row

-- a nonvolatile variable, and a parameter
abbrev pub is_nv : VarId → Bool
is_nv (Nv i) = true
is_nv _ = false

abbrev pub is_param : VarId → Bool
is_param (Param i) = true
is_param _ = false

-- the variables that are needed at a call
abbrev pub needed_in_call : List (List VarId) → List VarId → Option TCalled → List VarId
needed_in_call rows vs None = []
needed_in_call rows vs (Some c) = filter (stands_for c (get_or rows c.function [])) vs

abbrev pub needed_in_calls : List (List VarId) → List VarId → List TEffect → List VarId
needed_in_calls rows vs es = flat_map (λ a. needed_in_call rows vs a.call) es

-- something is needed of one of these functions
abbrev pub is_any_needed : List (List VarId) → List ℕ → Bool
is_any_needed rows fs = list_any (λ f. not (is_empty (get_or rows f []))) fs

-- the variables that need what flows into them: at the annotations, and at calls
abbrev pub needed_itself : TProgram → Policy → ℕ → List VarId
needed_itself p q g = cond (nat_eq g q.function && not (is_empty (held p q))) (annotated p q) []

abbrev pub needing : TProgram → Policy → List (List VarId) → ℕ → List VarId
needing p q rows g = needed_itself p q g ++ needed_in_calls rows (variables p g) (effects_at p g)

-- a variable that is given flows into one of these
abbrev pub is_given_to : TProgram → ℕ → List VarId → VarId → Bool
is_given_to p g ends w = is_given w && list_any (flows p g w) ends

abbrev pub row_by : TProgram → Policy → List (List VarId) → ℕ → List VarId
row_by p q rows g = filter (is_given_to p g (needing p q rows g)) (variables p g)

-- a call of a function of which something has changed
abbrev pub is_changed : List Bool → Option TCalled → Bool
is_changed changed None = false
is_changed changed (Some c) = get_or changed c.function true

-- a function with this row is to be looked at again: the policy's own one until it has a row, and one
-- that calls a function of which something has changed
abbrev pub is_stale : Policy → ℕ → List VarId → List TEffect → List Bool → Bool
is_stale q g row es changed =
    (nat_eq g q.function && is_empty row) || list_any (λ a. is_changed changed a.call) es

abbrev pub same_row : List VarId → List VarId → Bool
same_row [] [] = true
same_row (v ∷ vs) (w ∷ ws) = same_variable v w && same_row vs ws
same_row _ _ = false

-- the rows of a depth, and which of them may differ from those of the depth before
pub record TLevel : Type 0 where
  pub rows : List (List VarId)
  pub changed : List Bool

abbrev pub next_row : TProgram → Policy → TLevel → ℕ → List VarId
next_row p q old g =
    cond (is_stale q g (get_or old.rows g []) (effects_at p g) old.changed)
    (row_by p q old.rows g) (get_or old.rows g [])

abbrev pub is_changed_row : TProgram → Policy → List (List VarId) → ℕ → Bool
is_changed_row p q rows g = not (same_row (row_by p q rows g) (get_or rows g []))

abbrev pub is_row_changed : TProgram → Policy → TLevel → ℕ → Bool
is_row_changed p q old g =
    cond (is_stale q g (get_or old.rows g []) (effects_at p g) old.changed)
    (is_changed_row p q old.rows g) false

abbrev pub no_row : ℕ → List VarId
no_row f = []

abbrev pub start_level : (count : ℕ) → TLevel
start_level count = record { rows = map no_row (from 0 count); changed = replicate count false }

abbrev pub next_level : TProgram → Policy → TLevel → TLevel
next_level p q old = record {
  rows = map (next_row p q old) (from 0 (length p.functions));
  changed = map (is_row_changed p q old) (from 0 (length p.functions));
}

unfoldable pub level_at : TProgram → Policy → ℕ → TLevel
level_at p q zero = start_level (length p.functions)
level_at p q (suc depth) = next_level p q (level_at p q depth)

-- ---- sites

-- what is required for variables that are needed
abbrev pub sites_for : TProgram → ℕ → List VarId → List ℕ → List (List ℕ)
sites_for p g needed others =
    with_inputs (all_sites_once p g needed (sources p g (effects_at p g))) others

abbrev pub own_list : TProgram → Policy → ℕ → List (List ℕ)
own_list p q g = sites_for p g (needed_itself p q g) (held p q)

abbrev pub call_list : TProgram → ℕ → List (List VarId) → TEffect → List (List ℕ)
call_list p g rows a = sites_for p g (needed_in_call rows (variables p g) a.call) (a.stmt ∷ [])

abbrev pub call_lists : TProgram → ℕ → List (List VarId) → List TEffect → List (List ℕ)
call_lists p g rows es = flat_map (call_list p g rows) es

-- lists put among lists in order
abbrev pub added : List (List ℕ) → List (List ℕ) → List (List ℕ)
added [] lists = lists
added (ns ∷ rest) lists = with_list ns (added rest lists)

abbrev pub lists_in : TProgram → Policy → List (List VarId) → ℕ → List (List ℕ)
lists_in p q rows g = added (own_list p q g) (in_order (call_lists p g rows (effects_at p g)))

abbrev pub requirements_in : (n : ℕ) → (g : ℕ) → List (List ℕ) → List TRequirement
requirements_in n g lists = map (λ sites. record { policy = n; function = g; sites = sites }) lists

-- the requirements of a policy in a function, and in all functions, and those of policies
abbrev pub required_here : TProgram → (n : ℕ) → Policy → List (List VarId) → ℕ → List TRequirement
required_here p n q rows g = requirements_in n g (lists_in p q rows g)

abbrev pub required_rows : TProgram
    → (n : ℕ) → Policy → List (List VarId) → List ℕ → List TRequirement
required_rows p n q rows gs = flat_map (required_here p n q rows) gs

abbrev pub required_by : TProgram → (n : ℕ) → Policy → List TRequirement
required_by p n q = required_rows p n q (rows_of p (needs p q)) (from 0 (length p.functions))

abbrev pub required_by_from : TProgram → (n : ℕ) → List Policy → List TRequirement
required_by_from p n [] = []
required_by_from p n (q ∷ qs) = required_by p n q ++ required_by_from p (n + 1) qs
