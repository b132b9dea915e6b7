-- Tables of what functions measure, which stop at the cap: level by level of calls, or each entry once, callees first.
use Rattle.std.proofs.Common.{◌≡◌, ◌<◌, ◌≤◌, ◌+◌, ℕ, zero, suc, Option, Some, None, List, [], ◌∷◌, map, length, refl, sym, ap, ◌∙◌, subst, arith, false}
use Rattle.std.specs.Prelude.{◌-◌, slice_get}
use Rattle.std.proofs.Math.ListN.{get_or, set}
use Rattle.oc_tree.specs.Tree.{TFunction, TProgram}
use Rattle.oc_tree.specs.Calls.{block_kinds, call_links, callee, calls, function_place}
use Rattle.oc_tree.specs.Expansion.{block_size, expand_functions, expansion}
use Rattle.oc_tree.specs.Pulls.{block_pulls}
use Rattle.oc_tree.specs.Weight.{function_cost, known_of, weights}
use Rattle.oc_tree.specs.Stack.{function_stack, stacks}
use Rattle.oc_weight.specs.Capped.{capped}
use Rattle.oc_weight.specs.Measured.{IsCap, IsMeasure}
use Rattle.oc_weight.specs.MeasureLaws.{cost_measure, stack_measure}
use Rattle.oc_weight.specs.Order.{IsOrder}
use Rattle.oc_weight.proofs.Callees.{KindsSame, settles_by_callees}
use Rattle.oc_weight.proofs.OrderTables.{IsWorked, capped_at, one_worked, all_worked}
use Rattle.oc_weight.proofs.WeightCallees.{no_cap}

capped_goes : IsCap capped
capped_goes = record {
  sums = λ a b c d h k. omega (arith, h, k);
  maxima = λ a b c d h k. omega (arith, h, k);
}

known_capped : (ws : List ℕ) (place : Option ℕ) → capped (known_of (map capped ws) place) ≡ capped (known_of ws place)
known_capped ws None = refl
known_capped ws (Some v) = let e : capped (capped (get_or ws v 0)) ≡ capped (get_or ws v 0) = omega arith in ap capped (capped_at capped refl ws v) ∙ e

functions_as_many : (k i : ℕ) (fs : List TFunction) → length (expand_functions k i fs) ≡ length fs
functions_as_many k i [] = refl
functions_as_many k i (f ∷ fs) = ap suc (functions_as_many (k + block_pulls f.body) (i + block_size f.body) fs)

module _ {measure : List TFunction → List ℕ → TFunction → ℕ} {levels : List TFunction → ℕ → List ℕ} (is : IsMeasure measure levels) (fs : List TFunction) where
  exactly : (ws vs : List ℕ) (f : TFunction) → KindsSame fs ws vs (block_kinds None f.body) → measure fs ws f ≡ measure fs vs f
  exactly = is.by_callees (λ n. n) no_cap fs

  by_capped : (ws : List ℕ) (f : TFunction) → capped (measure fs (map capped ws) f) ≡ capped (measure fs ws f)
  by_capped ws f = is.by_callees capped capped_goes fs (map capped ws) ws f (λ k i c j. known_capped ws (function_place fs (callee c)))

  all_capped : (ws : List ℕ) (gs : List TFunction) → map (λ f. capped (measure fs (map capped ws) f)) gs ≡ map capped (map (measure fs ws) gs)
  all_capped ws [] = refl
  all_capped ws (g ∷ gs) = λ i. by_capped ws g i ∷ all_capped ws gs i

  -- ---- level by level

  pub no_level : map capped (levels fs 0) ≡ []
  no_level = ap (λ ws. map capped ws) (is.no_level fs)

  -- one more level of calls
  pub next_level : (d : ℕ) (was now : List ℕ) → was ≡ map capped (levels fs d) → now ≡ map (λ f. capped (measure fs was f)) fs → now ≡ map capped (levels fs (d + 1))
  next_level d was now h k =
      let e : suc d ≡ d + 1 = omega arith in
      k ∙ ap (λ ws. map (λ f. capped (measure fs ws f)) fs) h ∙ all_capped (levels fs d) fs ∙ ap (λ ws. map capped ws) (sym (is.one_level fs d)) ∙ ap (λ n. map capped (levels fs n)) e

  -- Where one level more changes nothing, no level does.
  settles : (d : ℕ) (ws : List ℕ) → ws ≡ map capped (levels fs d) → map (λ f. capped (measure fs ws f)) fs ≡ ws → (k : ℕ) → ws ≡ map capped (levels fs (d + k))
  settles d ws e same zero = let n : d ≡ d + 0 = omega arith in e ∙ ap (λ m. map capped (levels fs m)) n
  settles d ws e same (suc k) = let n : d + k + 1 ≡ d + suc k = omega arith in sym same ∙ (next_level (d + k) ws _ (settles d ws e same k) refl ∙ ap (λ m. map capped (levels fs m)) n)

  pub settled : (d m : ℕ) (ws next : List ℕ) → d ≤ m → ws ≡ map capped (levels fs d) → next ≡ map (λ f. capped (measure fs ws f)) fs → next ≡ ws → next ≡ map capped (levels fs m)
  settled d m ws next h e i same = let n : d + (m - d) ≡ m = omega (arith, h) in same ∙ (settles d ws e (sym i ∙ same) (m - d) ∙ ap (λ k. map capped (levels fs k)) n)

  -- ---- callees first

  pub one_taken : (order : List ℕ) → IsOrder (call_links fs) (length fs) order → (ws : List ℕ) (i : ℕ) (f : TFunction) → i < length order → length ws ≡ length fs → IsWorked capped (levels fs) order ws i
      → slice_get fs (get_or order i 0) ≡ Some f → IsWorked capped (levels fs) order (set ws (get_or order i 0) (capped (measure fs ws f))) (i + 1)
  one_taken = one_worked capped refl fs (measure fs) (levels fs) (is.no_level fs) (is.one_level fs) exactly by_capped

  pub all_taken : (order : List ℕ) → IsOrder (call_links fs) (length fs) order → (ws : List ℕ) (i : ℕ) → length order ≤ i → i ≤ length order → length ws ≡ length fs → IsWorked capped (levels fs) order ws i
      → ws ≡ map capped (levels fs (length fs))
  all_taken = all_worked capped refl fs (measure fs) (levels fs) (is.no_level fs) (is.one_level fs) exactly by_capped

-- ---- programs

-- the table of a program is what one level more makes of it
whole_level : {measure : List TFunction → List ℕ → TFunction → ℕ} {levels : List TFunction → ℕ → List ℕ} → IsMeasure measure levels → (p : TProgram) → ((u : ℕ) → calls (expansion p).functions u u ≡ false)
    → levels (expansion p).functions (length p.functions) ≡ map (measure (expansion p).functions (levels (expansion p).functions (length p.functions))) (expansion p).functions
whole_level {measure = measure} {levels = levels} is p none_back =
    let fs = (expansion p).functions in
    subst (λ n. levels fs n ≡ map (measure fs (levels fs n)) fs) (functions_as_many 1 1 p.functions)
    (settles_by_callees fs none_back (measure fs) (levels fs) (is.no_level fs) (is.one_level fs) (exactly is fs))

pub program_weights : (p : TProgram) → ((u : ℕ) → calls (expansion p).functions u u ≡ false) → weights p ≡ map (function_cost (expansion p).functions (weights p)) (expansion p).functions
program_weights = whole_level cost_measure

pub program_stacks : (p : TProgram) → ((u : ℕ) → calls (expansion p).functions u u ≡ false) → stacks p ≡ map (function_stack (expansion p).functions (stacks p)) (expansion p).functions
program_stacks = whole_level stack_measure
