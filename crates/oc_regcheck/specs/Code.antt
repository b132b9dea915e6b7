-- What the code works with: one block around each statement, the outermost.
use Rattle.std.specs.Prelude.{◌≡◌, ℕ, Bool, false, not, ◌||◌, List, [], ◌∷◌, length, map, flat_map, find, Option, Some, None, cond, is_some, nat_eq, option_map, option_to_list}
use Rattle.std.specs.List.{list_all}
use Rattle.std.proofs.Common.{Bor}
use Rattle.oc_tree.specs.Tree.{TProgram}
use Rattle.oc_tree.specs.Rules.{main}
use Rattle.oc_tree.specs.Calls.{function_place}
use Rattle.oc_tree.specs.Places.{placed}
use Rattle.oc_tree.specs.Marked.{around}
use Rattle.oc_tree.specs.Reach.{Links}
use Rattle.oc_effects.specs.Effects.{TEffect, effects_at}
use Rattle.oc_flow.specs.Variables.{from}
use Rattle.oc_regcheck.specs.Inputs.{lowest_input}
use Rattle.oc_needs.specs.Requirements.{TRequirement, requirements}
use Rattle.oc_needs.specs.View.{requirement_view}
use Rattle.oc_needs.specs.declared.requirement.Requirement.{Requirement}
use Rattle.oc_regcheck.specs.declared.verdict.BlockVerdict.{BlockVerdict}
use Rattle.oc_regcheck.specs.declared.verdict.BlockVerdict.TheVariants.{Covered, Open}
use Rattle.oc_regcheck.specs.Enough.{comes_to}

-- the last of these that is a block, or `found` where none is
abbrev pub outermost_from : (ℕ → Bool) → Option ℕ → List ℕ → Option ℕ
outermost_from is_block found [] = found
outermost_from is_block found (t ∷ ts) =
    outermost_from is_block (cond (is_block t) (Some t) found) ts

-- the outermost block around a statement
abbrev pub outer : TProgram → (ℕ → Bool) → ℕ → Option ℕ
outer p is_block s = outermost_from is_block None (around (placed p s))

abbrev pub same_place : Option ℕ → Option ℕ → Bool
same_place (Some a) (Some b) = nat_eq a b
same_place _ _ = false

-- two statements have the same outermost block
abbrev pub shares : TProgram → (ℕ → Bool) → ℕ → ℕ → Bool
shares p is_block s u = same_place (outer p is_block s) (outer p is_block u)

-- this is the outermost block around a statement
abbrev pub is_at : TProgram → (ℕ → Bool) → Option ℕ → ℕ → Bool
is_at p is_block o u = same_place o (outer p is_block u)

-- all of these have that of the first
abbrev pub share_all : TProgram → (ℕ → Bool) → List ℕ → Bool
share_all p is_block [] = false
share_all p is_block (s ∷ ss) = list_all (shares p is_block s) (s ∷ ss)

abbrev pub second_by : TProgram → (ℕ → Bool) → (first : ℕ) → List ℕ → Option ℕ
second_by p is_block first sites = find (λ u. not (shares p is_block first u)) sites

-- calls in no block
abbrev pub call_by : TProgram → (ℕ → Bool) → (caller : ℕ) → TEffect → Links
call_by p is_block f a =
    cond (is_some (outer p is_block a.stmt)) [] (map (λ c. (c.function, f)) (option_to_list a.call))

abbrev pub calls_in : TProgram → (ℕ → Bool) → (caller : ℕ) → List TEffect → Links
calls_in p is_block f es = flat_map (call_by p is_block f) es

abbrev pub calls_by : TProgram → (ℕ → Bool) → Links
calls_by p is_block =
    flat_map (λ f. calls_in p is_block f (effects_at p f)) (from 0 (length p.functions))

-- back from a function one comes to `main`
abbrev pub comes_by : TProgram → (ℕ → Bool) → ℕ → Bool
comes_by p is_block f =
    comes_to (calls_by p is_block) (length p.functions) (function_place p.functions main) f

abbrev pub meets : TProgram → (ℕ → Bool) → TRequirement → Bool
meets p is_block r = share_all p is_block r.sites || not (comes_by p is_block r.function)

abbrev pub first_by : TProgram → (ℕ → Bool) → List TRequirement → Option TRequirement
first_by p is_block rs = find (λ r. not (meets p is_block r)) rs

abbrev pub requirement_seen : Option (Bor Requirement) → Option TRequirement
requirement_seen r = option_map (λ x. requirement_view x.now) r

-- the answer, by outermost blocks
pub record IsOpenBy
    (p : TProgram) (is_block : ℕ → Bool) (policy function first second : ℕ) : Type 0 where
  pub requirement : TRequirement
  pub found : first_by p is_block (requirements p) ≡ Some requirement
  pub policy_is : requirement.policy ≡ policy
  pub function_is : requirement.function ≡ function
  pub first_is : lowest_input p requirement ≡ Some first
  pub second_is : second_by p is_block first requirement.sites ≡ Some second

abbrev pub IsVerdictBy : TProgram → (ℕ → Bool) → BlockVerdict → Type 0
IsVerdictBy p is_block Covered = first_by p is_block (requirements p) ≡ None
IsVerdictBy p is_block (Open policy function first second) =
    IsOpenBy p is_block policy function first second
