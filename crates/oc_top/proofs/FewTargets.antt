-- A program has few regions, and each of them few targets.
use Rattle.std.proofs.Common.{◌≡◌, ◌<◌, ◌≤◌, ℕ, zero, suc, ◌+◌, ◌==◌, Bool, true, false, List, [], ◌∷◌, ◌++◌, length, Option, Some, None, cond, refl, sym, subst, arith, All}
use Rattle.std.specs.Prelude.{AllPairs, flat_map, map, option_map}
use Rattle.std.proofs.Math.ListN.{get_or}
use Rattle.std.proofs.lemmas.Bool.{eqb-true}
use Rattle.std.proofs.lemmas.List.{length-append}
use Rattle.std.proofs.lemmas.List.Elements.{All-head, All-tail}
use Rattle.oc_tree.specs.Names.{Text}
use Rattle.oc_tree.specs.Tree.{TFunction, TProgram}
use Rattle.oc_tree.specs.Numbers.{numbers_on, program_statements}
use Rattle.oc_tree.specs.Places.{Placed, placed, block_of}
use Rattle.oc_tree.specs.Marked.{TRegion, AreRegions}
use Rattle.oc_tree.specs.declared.tree.NvDecl.{NvDecl}
use Rattle.oc_tree.specs.declared.tree.Param.{Param}
use Rattle.oc_tree.specs.declared.said.Target.{Target}
use Rattle.oc_tree.specs.declared.said.Target.TheVariants as targets
use Rattle.oc_effects.specs.Effects.{params_at}
use Rattle.oc_region.proofs.Elements.{Each, each_any, each_left, each_right, each_weaker}
use Rattle.oc_region.proofs.Owners.{Owns, own_statements, owner}
use Rattle.oc_writes.specs.Targets.{assigns_nv, assigns_param, nv_targets, param_targets, region_targets, words_of}

-- ---- regions begin with different statements

numbers_low : (i n : ℕ) → Each (λ s. s < i + n) (numbers_on i n)
numbers_low i zero = tt
numbers_low i (suc n) = (omega arith, each_weaker (λ s. s < suc i + n) (λ s. s < i + suc n) (λ s l. omega (arith, l)) (numbers_on (suc i) n) (numbers_low (suc i) n))

-- what holds of all statements holds of one of the function at a place
owned : (P : ℕ → Type 0) (fs : List TFunction) (k s : ℕ) → Owns own_statements fs k s → Each P (flat_map own_statements fs) → P s
owned P [] k s h each = absurd h
owned P (f ∷ fs) zero s h each =
    each_any P (λ n. n == s) (P s) (own_statements f) h (each_left P (own_statements f) (flat_map own_statements fs) each) (λ n there same. subst P (eqb-true n s same) there)
owned P (f ∷ fs) (suc k) s h each = owned P fs k s h (each_right P (own_statements f) (flat_map own_statements fs) each)

-- where firsts rise, each is at least its place
firsts_climb : (rs : List TRegion) → AllPairs (λ r q. r.first < q.first) rs → (i : ℕ) (r : TRegion) → i < length rs → i ≤ (get_or rs i r).first
firsts_climb rs rising zero r l = omega arith
firsts_climb rs rising (suc i) r l =
    let below = firsts_climb rs rising i r (omega (arith, l)) in
    let next = rising i (suc i) r (omega arith) l in
    omega (arith, below, next)

as_many : (n : ℕ) (rs : List TRegion) → AllPairs (λ r q. r.first < q.first) rs → All (λ r. r.first < n) rs → length rs ≤ n
as_many n [] rising low = omega arith
as_many n (r ∷ rs) rising low =
    let inside : length rs < length (r ∷ rs) = omega arith in
    let last = low (length rs) r inside in
    let high = firsts_climb (r ∷ rs) rising (length rs) r inside in
    omega (arith, last, high)

module _ (p : TProgram) (count : ℕ) (numbered : program_statements p ≡ numbers_on 1 count) where
  -- a statement that stands in a block has one of their numbers
  placed_low : (s block : ℕ) → block_of p s ≡ Some block → s < 1 + count
  placed_low s block e = by_place (placed p s) refl e
    where
      by_place : (o : Option Placed) → placed p s ≡ o → option_map (λ a. a.at.block) o ≡ Some block → s < 1 + count
      by_place None is f = cc
      by_place (Some a) is f =
          let own = owner p.functions s a is in
          owned (λ n. n < 1 + count) p.functions own.place s own.statement (subst (Each (λ n. n < 1 + count)) (sym numbered) (numbers_low 1 count))

  -- there are no more regions than statements
  pub few_regions : (policies : ℕ) (rs : List TRegion) → AreRegions p policies rs → length rs ≤ 1 + count
  few_regions policies rs are = as_many (1 + count) rs are.rising (λ i r l. placed_low _ _ (are.each i r l).first_there)

-- ---- targets

one_or_none : (is : Bool) (t : Target) (ts : List Target) (n : ℕ) → length ts ≤ n → length (cond is (t ∷ []) [] ++ ts) ≤ suc n
one_or_none true t ts n h = omega (arith, h)
one_or_none false t ts n h = omega (arith, h)

module _ (p : TProgram) (r : TRegion) where
  few_nvs : (i base : ℕ) (xs : List Text) (ds : List NvDecl) → length (nv_targets p r i base xs ds) ≤ length xs
  few_nvs i base [] ds = omega arith
  few_nvs i base (x ∷ xs) [] = omega arith
  few_nvs i base (x ∷ xs) (d ∷ ds) =
      one_or_none (assigns_nv p r i x) (targets.Nv base d.words) (nv_targets p r (i + 1) (base + d.words) xs ds) (length xs) (few_nvs (i + 1) (base + d.words) xs ds)

  few_params : (i : ℕ) (qs : List Param) → length (param_targets p r i qs) ≤ length qs
  few_params i [] = omega arith
  few_params i (q ∷ qs) = one_or_none (assigns_param p r i) (targets.Param i (words_of q.kind)) (param_targets p r (i + 1) qs) (length qs) (few_params (i + 1) qs)

-- the parameters of a function, and none where there is no such function
params_few : (n : ℕ) (fs : List TFunction) (f : ℕ) → All (λ g. length g.params ≤ n) fs → length (get_or (map (λ g. g.params) fs) f []) ≤ n
params_few n [] f h = omega arith
params_few n (g ∷ fs) zero h = All-head (λ g. length g.params ≤ n) g fs h
params_few n (g ∷ fs) (suc f) h = params_few n fs f (All-tail (λ g. length g.params ≤ n) g fs h)

-- a region has no more targets than there are nonvolatile variables and parameters
pub few_targets : (n : ℕ) (p : TProgram) (r : TRegion) → All (λ f. length f.params ≤ n) p.functions → length (region_targets p r) ≤ length p.names.nvs + n
few_targets n p r few =
    let nvs = few_nvs p r 0 0 p.names.nvs p.nv in
    let own = few_params p r 0 (params_at p r.function) in
    let params = params_few n p.functions r.function few in
    omega (arith, length-append (nv_targets p r 0 0 p.names.nvs p.nv) (param_targets p r 0 (params_at p r.function)), nvs, own, params)
