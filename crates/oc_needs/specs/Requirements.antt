-- Requirements: sites of a function that must lie in one region.
use Rattle.std.specs.Prelude.{ℕ, ◌+◌, Bool, true, false, ◌&&◌, ◌||◌, List, [], ◌∷◌, ◌++◌, map, flat_map, filter, length, cond, nat_eq, nat_lt}
use Rattle.oc_tree.specs.Tree.{TProgram}
use Rattle.oc_tree.specs.declared.tree.VarId.{VarId}
use Rattle.oc_tree.specs.declared.marked.Policy.{Policy}
use Rattle.oc_effects.specs.Effects.{TEffect, effects_at}
use Rattle.oc_flow.specs.Variables.{from, variables}
use Rattle.oc_tree.specs.Samples.{union}
use Rattle.oc_needs.specs.Policies.{policies, annotated, held}
use Rattle.oc_needs.specs.Sites.{input_sites}
use Rattle.oc_needs.specs.Need.{is_empty, is_needed_at, needs}

-- sites of a function that must lie in one region
pub record TRequirement : Type 0 where
  -- the number of the policy that requires it
  pub policy : ℕ
  -- the place of the function
  pub function : ℕ
  -- the numbers of the statements, rising
  pub sites : List ℕ

-- a rising list of these numbers, each once
abbrev pub rising : List ℕ → List ℕ
rising ns = union ns []

-- ---- lists of numbers in order

-- one list of numbers stands before another in the order of words in a dictionary
abbrev pub is_before : List ℕ → List ℕ → Bool
is_before [] [] = false
is_before [] (n ∷ ns) = true
is_before (m ∷ ms) [] = false
is_before (m ∷ ms) (n ∷ ns) = nat_lt m n || (nat_eq m n && is_before ms ns)

-- one more list among lists in order, each of which stands once
abbrev pub with_list : List ℕ → List (List ℕ) → List (List ℕ)
with_list ns [] = ns ∷ []
with_list ns (ms ∷ rest) =
    cond (is_before ns ms)
    (ns ∷ (ms ∷ rest)) (cond (is_before ms ns) (ms ∷ with_list ns rest) (ms ∷ rest))

-- lists of numbers in order, each once
abbrev pub in_order : List (List ℕ) → List (List ℕ)
in_order [] = []
in_order (ns ∷ rest) = with_list ns (in_order rest)

-- ---- the sites of a requirement

-- the sites of inputs with others, as one list; none where there are no inputs
abbrev pub with_inputs : List ℕ → List ℕ → List (List ℕ)
with_inputs inputs others = cond (is_empty inputs) [] (rising (inputs ++ others) ∷ [])

-- the sites of a policy in its own function: the inputs of the annotated variables, and what must
-- be held with them
abbrev pub own_sites : TProgram → Policy → List (List ℕ)
own_sites p q =
    cond (is_empty (held p q))
    [] (with_inputs (input_sites p q.function (annotated p q)) (held p q))

-- the variables that are needed at a statement of the function `g`
abbrev pub needed_at : TProgram → Policy → (g : ℕ) → TEffect → List VarId
needed_at p q g a = filter (is_needed_at p (needs p q) a.call) (variables p g)

-- the sites of a policy at a call in the function `g`: the call, and the inputs of the variables
-- that are needed there
abbrev pub call_sites : TProgram → Policy → (g : ℕ) → TEffect → List (List ℕ)
call_sites p q g a = with_inputs (input_sites p g (needed_at p q g a)) (a.stmt ∷ [])

-- the sites of a policy in the function `g`, a list for each way in which they arise
abbrev pub function_sites : TProgram → Policy → (g : ℕ) → List (List ℕ)
function_sites p q g =
    cond (nat_eq g q.function) (own_sites p q) [] ++ flat_map (call_sites p q g) (effects_at p g)

-- ---- the list

-- the requirements of the policy with the number `n` in the function `g`
abbrev pub required_in : TProgram → (n : ℕ) → Policy → (g : ℕ) → List TRequirement
required_in p n q g =
    map (λ sites. record { policy = n; function = g; sites = sites })
    (in_order (function_sites p q g))

-- the requirements of the policy with the number `n` in all functions
abbrev pub required_of : TProgram → (n : ℕ) → Policy → List TRequirement
required_of p n q = flat_map (required_in p n q) (from 0 (length p.functions))

-- the requirements of policies, the first of which has the number `n`
abbrev pub required_from : TProgram → (n : ℕ) → List Policy → List TRequirement
required_from p n [] = []
required_from p n (q ∷ qs) = required_of p n q ++ required_from p (n + 1) qs

-- the requirements of a program: by policy, then by function, then by their sites; equal ones stand once
abbrev pub requirements : TProgram → List TRequirement
requirements p = required_from p 0 (policies p)
