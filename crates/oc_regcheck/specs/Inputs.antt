-- The inputs of a requirement: those of each way in which it arises.
use Rattle.std.specs.Prelude.{ℕ, Bool, true, false, ◌&&◌, List, [], ◌∷◌, ◌++◌, flat_map, Option, Some, None, cond, nat_eq, option_to_list, slice_get}
use Rattle.std.specs.List.{list_any}
use Rattle.oc_tree.specs.Tree.{TProgram}
use Rattle.oc_tree.specs.declared.marked.Policy.{Policy}
use Rattle.oc_tree.specs.declared.tree.VarId.{VarId}
use Rattle.oc_effects.specs.Effects.{TEffect, effects_at}
use Rattle.oc_flow.specs.Variables.{variables}
use Rattle.oc_needs.specs.Policies.{policies, annotated, held}
use Rattle.oc_needs.specs.Sites.{input_sites}
use Rattle.oc_needs.specs.Need.{is_empty}
use Rattle.oc_needs.specs.Requirements.{TRequirement, rising, with_inputs, needed_at}
use Rattle.oc_needs.specs.Code.{all_sites_once, needed_in_call, needed_itself, sources}

-- two lists of numbers are equal
abbrev pub same_sites : List ℕ → List ℕ → Bool
same_sites [] [] = true
same_sites (m ∷ ms) (n ∷ ns) = nat_eq m n && same_sites ms ns
same_sites _ _ = false

-- the inputs of a way in which a requirement arises, where its sites are these
abbrev pub inputs_where : (sites : List ℕ) → (inputs others : List ℕ) → List ℕ
inputs_where sites inputs others =
    cond (list_any (same_sites sites) (with_inputs inputs others)) inputs []

-- the inputs of a requirement that arises in the policy's own function with these sites
abbrev pub own_inputs : TProgram → Policy → (sites : List ℕ) → List ℕ
own_inputs p q sites =
    cond (is_empty (held p q))
    [] (inputs_where sites (input_sites p q.function (annotated p q)) (held p q))

-- the inputs of a requirement that arises at a call in the function `g` with these sites
abbrev pub call_inputs : TProgram → Policy → (g : ℕ) → (sites : List ℕ) → TEffect → List ℕ
call_inputs p q g sites a = inputs_where sites (input_sites p g (needed_at p q g a)) (a.stmt ∷ [])

-- the inputs of a requirement in the function `g` with these sites, of each way in which it arises
abbrev pub inputs_in : TProgram → Policy → (g : ℕ) → (sites : List ℕ) → List ℕ
inputs_in p q g sites =
    cond (nat_eq g q.function) (own_inputs p q sites) []
    ++ flat_map (call_inputs p q g sites) (effects_at p g)

-- the inputs among the sites of a requirement
abbrev pub inputs : TProgram → TRequirement → List ℕ
inputs p r =
    flat_map (λ q. inputs_in p q r.function r.sites)
    (option_to_list (slice_get (policies p) r.policy))

-- the first of these numbers
abbrev pub front : List ℕ → Option ℕ
front [] = None
front (n ∷ ns) = Some n

-- the lowest input of a requirement, where there is one
abbrev pub lowest_input : TProgram → TRequirement → Option ℕ
lowest_input p r = front (rising (inputs p r))

-- ---- what the code works with

-- of the variables that are needed together with other statements
abbrev pub way_inputs : TProgram → (g : ℕ) → List VarId → (others sites : List ℕ) → List ℕ
way_inputs p g needed others sites =
    inputs_where sites (all_sites_once p g needed (sources p g (effects_at p g))) others

abbrev pub call_way : TProgram → (g : ℕ) → List (List VarId) → (sites : List ℕ) → TEffect → List ℕ
call_way p g rows sites a =
    way_inputs p g (needed_in_call rows (variables p g) a.call) (a.stmt ∷ []) sites

abbrev pub call_ways : TProgram
    → (g : ℕ) → List (List VarId) → (sites : List ℕ) → List TEffect → List ℕ
call_ways p g rows sites es = flat_map (call_way p g rows sites) es

abbrev pub all_ways : TProgram → Policy → List (List VarId) → (g : ℕ) → (sites : List ℕ) → List ℕ
all_ways p q rows g sites =
    way_inputs p g (needed_itself p q g) (held p q) sites
    ++ call_ways p g rows sites (effects_at p g)
