-- When hand-written blocks suffice for what a program requires.
use Rattle.std.specs.Prelude.{◌≡◌, ◌≢◌, ◌⊎◌, ℕ, Bool, true, false, not, ◌&&◌, ◌||◌, List, [], length, map, flat_map, find, Option, Some, None, cond, is_some, nat_eq, option_to_list}
use Rattle.std.specs.List.{list_any, list_all}
use Rattle.oc_tree.specs.Tree.{TProgram}
use Rattle.oc_tree.specs.Rules.{main}
use Rattle.oc_tree.specs.Calls.{function_place}
use Rattle.oc_tree.specs.Places.{placed, encloses}
use Rattle.oc_tree.specs.Marked.{function_of}
use Rattle.oc_tree.specs.Members.{IsOf}
use Rattle.oc_tree.specs.Reach.{Links, reaches}
use Rattle.oc_effects.specs.Effects.{TCalled, TEffect, effects_at}
use Rattle.oc_flow.specs.Variables.{from}
use Rattle.oc_flow.specs.Laws.{Decides}
use Rattle.oc_needs.specs.Requirements.{TRequirement, requirements}
use Rattle.oc_regcheck.specs.Inputs.{lowest_input}
use Rattle.oc_regcheck.specs.declared.verdict.BlockVerdict.{BlockVerdict}
use Rattle.oc_regcheck.specs.declared.verdict.BlockVerdict.TheVariants.{Covered, Open}

-- these are statements of the program
abbrev pub AreStatements : TProgram → List ℕ → Type 0
AreStatements p blocks = (b : ℕ) → IsOf b blocks → is_some (placed p b) ≡ true

-- ---- covered

-- a statement is inside a block
abbrev pub is_inside : TProgram → List ℕ → ℕ → Bool
is_inside p blocks s = list_any (λ b. encloses p b s) blocks

-- the function of a statement, if there is one, is the one at this place
abbrev pub is_function : ℕ → Option ℕ → Bool
is_function f None = false
is_function f (Some g) = nat_eq g f

-- the block is in the requirement's function, and every site is inside it
abbrev pub covers_all : TProgram → TRequirement → ℕ → Bool
covers_all p r b = is_function r.function (function_of p b) && list_all (encloses p b) r.sites

-- a block of the requirement's function has every site of it inside
abbrev pub is_covered : TProgram → List ℕ → TRequirement → Bool
is_covered p blocks r = list_any (covers_all p r) blocks

-- ---- guarded

-- A function is guarded where it isn't `main` and each call of it is inside a block or in a guarded function.
pub data Guarded (p : TProgram) (blocks : List ℕ) : ℕ → Type 0 where
  guarded : {f : ℕ} → (function_place p.functions main ≢ Some f)
      → ((g : ℕ) (a : TEffect) (c : TCalled) → IsOf a (effects_at p g) → a.call ≡ Some c
      → c.function ≡ f → is_inside p blocks a.stmt ≡ false → Guarded p blocks g)
      → Guarded p blocks f

-- the call of a statement that is inside no block, from the called function back to its caller
abbrev pub open_call : TProgram → List ℕ → (caller : ℕ) → TEffect → Links
open_call p blocks f a =
    cond (is_inside p blocks a.stmt) [] (map (λ c. (c.function, f)) (option_to_list a.call))

-- all calls that are inside no block, each from the called function back to its caller
abbrev pub open_calls : TProgram → List ℕ → Links
open_calls p blocks =
    flat_map (λ f. flat_map (open_call p blocks f) (effects_at p f)) (from 0 (length p.functions))

-- back from a function through these links, from called functions to their callers, one comes to
-- another, if there is one
abbrev pub comes_to : Links → ℕ → Option ℕ → ℕ → Bool
comes_to links n None f = false
comes_to links n (Some m) f = reaches links n f m

-- the test of guarded functions: back from it through calls outside of blocks one doesn't come to
-- `main`
abbrev pub is_guarded : TProgram → List ℕ → ℕ → Bool
is_guarded p blocks f =
    not (comes_to (open_calls p blocks) (length p.functions) (function_place p.functions main) f)

-- ---- all requirements

-- each requirement is covered by a block, or its function is guarded
abbrev pub AreCovered : TProgram → List ℕ → Type 0
AreCovered p blocks =
    (r : TRequirement)
    → IsOf r (requirements p) → (is_covered p blocks r ≡ true) ⊎ Guarded p blocks r.function

-- a requirement is covered by a block, or its function is guarded
abbrev pub is_met : TProgram → List ℕ → TRequirement → Bool
is_met p blocks r = is_covered p blocks r || is_guarded p blocks r.function

-- the first requirement that is neither covered by a block nor in a guarded function
abbrev pub first_open : TProgram → List ℕ → Option TRequirement
first_open p blocks = find (λ r. not (is_met p blocks r)) (requirements p)

-- ---- the answer

-- a block has both statements inside
abbrev pub has_both : TProgram → List ℕ → (s u : ℕ) → Bool
has_both p blocks s u = list_any (λ b. encloses p b s && encloses p b u) blocks

-- the lowest site that no block has inside together with the input; sites rise
abbrev pub second_of : TProgram → List ℕ → (first : ℕ) → List ℕ → Option ℕ
second_of p blocks first sites = find (λ u. not (has_both p blocks first u)) sites

-- the first requirement that is open, its lowest input, and its lowest site that is in no block with that
pub record IsOpen (p : TProgram) (blocks : List ℕ) (policy function first second : ℕ) : Type 0 where
  pub requirement : TRequirement
  pub found : first_open p blocks ≡ Some requirement
  pub policy_is : requirement.policy ≡ policy
  pub function_is : requirement.function ≡ function
  pub first_is : lowest_input p requirement ≡ Some first
  pub second_is : second_of p blocks first requirement.sites ≡ Some second

-- what is answered about blocks: that they suffice, or what the first requirement leaves open that
-- isn't met
abbrev pub IsVerdict : TProgram → List ℕ → BlockVerdict → Type 0
IsVerdict p blocks Covered = first_open p blocks ≡ None
IsVerdict p blocks (Open policy function first second) =
    IsOpen p blocks policy function first second

-- the answer is that the blocks suffice
abbrev pub is_covering : BlockVerdict → Bool
is_covering Covered = true
is_covering (Open policy function first second) = false

-- `Covered` is answered exactly where the blocks suffice
abbrev pub TellsCovered : TProgram → List ℕ → BlockVerdict → Type 0
TellsCovered p blocks v = Decides (is_covering v) (AreCovered p blocks)
