-- A region of a checked program logs at most 589,824 words: the nonvolatile ones, and those of eight parameters.
use Rattle.std.proofs.Common.{◌≡◌, ◌<◌, ◌≤◌, ◌^◌, ℕ, zero, suc, ◌+◌, ◌*◌, Bool, true, false, List, [], ◌∷◌, ◌++◌, length, map, cond, Some, sum_by, refl, ap, arith, All, Vec, Global}
use Rattle.std.specs.Prelude.{slice_get, nat_lt}
use Rattle.std.specs.List.{list_any}
use Rattle.std.proofs.Math.ListN.{get_or}
use Rattle.std.proofs.lemmas.Bool.{ltb-false}
use Rattle.std.proofs.lemmas.List.{get_or-map}
use Rattle.std.proofs.lemmas.List.Sums.{sum_by-append, sum_by-cons}
use Rattle.oc_tree.specs.Names.{Text}
use Rattle.oc_tree.specs.Tree.{TFunction, TProgram}
use Rattle.oc_tree.specs.declared.said.Target.{Target}
use Rattle.oc_tree.specs.declared.said.Target.TheVariants as targets
use Rattle.oc_tree.specs.declared.tree.NvDecl.{NvDecl}
use Rattle.oc_tree.specs.declared.tree.Param.{Param}
use Rattle.oc_tree.specs.declared.tree.ValueKind.{ValueKind}
use Rattle.oc_tree.specs.declared.tree.ValueKind.TheVariants as kinds
use Rattle.oc_tree.specs.Checked.{Group, IsChecked}
use Rattle.oc_tree.specs.Marked.{TRegion, TMarked}
use Rattle.oc_tree.specs.Rules.{has_bad_length}
use Rattle.oc_effects.specs.Effects.{params_at}
use Rattle.oc_checked.proofs.Amounts.{few_words}
use Rattle.oc_checked.proofs.Heads.{head_unbroken}
use Rattle.oc_checked.proofs.BodiesPass.{first_fails, second_fails, function_fine}
use Rattle.oc_checked.proofs.Declared.{AllWithin, all_within}
use Rattle.oc_checked.proofs.Mains.{head_fine}
use Rattle.oc_writes.specs.Targets.{assigns_nv, assigns_param, may_write, nv_targets, param_targets, words_of}
use Rattle.oc_budget.specs.Budgets.{logged, target_words}
use Rattle.oc_budget.proofs.ToldLaws.{logged_is}

-- a target, where it is one
front_few : (b : Bool) (t : Target) (ts : List Target) → sum_by target_words (cond b (t ∷ []) [] ++ ts) ≤ target_words t + sum_by target_words ts
front_few true t ts = omega (arith, sum_by-cons target_words t ts)
front_few false t ts = omega arith

-- a parameter that breaks no rule is short
words_low : (k : ValueKind) → has_bad_length k ≡ false → words_of k ≤ 65536
words_low kinds.Int h = omega arith
words_low kinds.Bool h = omega arith
words_low (kinds.Array n) h = ltb-false 65536 n (second_fails (nat_lt n 1) (nat_lt 65536 n) h)

-- the head of a function
abbrev pub HeadLow : List Param → Type 0
HeadLow qs = (length qs ≤ 8) × (list_any (λ q. has_bad_length q.kind) qs ≡ false)

-- the parameters of the function at a place
at_low : (fs : List TFunction) → ((j : ℕ) (g : TFunction) → slice_get fs j ≡ Some g → HeadLow g.params) → (f : ℕ) → HeadLow (get_or (map (λ g. g.params) fs) f [])
at_low [] h f = (omega arith, refl)
at_low (g ∷ gs) h zero = h 0 g refl
at_low (g ∷ gs) h (suc f) = at_low gs (λ j g e. h (suc j) g e) f

module _ (p : TProgram) (r : TRegion) where
  -- the nonvolatile words are those that are declared
  nv_few : (i base : ℕ) (xs : List Text) (ds : List NvDecl) → sum_by target_words (nv_targets p r i base xs ds) ≤ sum_by (λ d. d.words) ds
  nv_few i base [] ds = omega arith
  nv_few i base (x ∷ xs) [] = omega arith
  nv_few i base (x ∷ xs) (d ∷ ds) =
      omega (
        arith,
        front_few (assigns_nv p r i x) (targets.Nv base d.words) (nv_targets p r (i + 1) (base + d.words) xs ds),
        nv_few (i + 1) (base + d.words) xs ds,
        sum_by-cons (λ d. d.words) d ds,
      )

  -- each parameter has at most 65,536
  params_few : (i : ℕ) (qs : List Param) → list_any (λ q. has_bad_length q.kind) qs ≡ false → sum_by target_words (param_targets p r i qs) ≤ 65536 * length qs
  params_few i [] h = omega arith
  params_few i (q ∷ qs) h =
      omega (
        arith,
        front_few (assigns_param p r i) (targets.Param i (words_of q.kind)) (param_targets p r (i + 1) qs),
        words_low q.kind (first_fails (has_bad_length q.kind) (list_any (λ q. has_bad_length q.kind) qs) h),
        params_few (i + 1) qs (second_fails (has_bad_length q.kind) (list_any (λ q. has_bad_length q.kind) qs) h),
      )

module _ (p : TProgram) (groups : List Group) (checked : IsChecked p groups) where
  within : AllWithin p
  within = all_within p checked.form.declared checked.unbroken

  head_low : (j : ℕ) (g : TFunction) → slice_get p.functions j ≡ Some g → HeadLow g.params
  head_low j g e = ((head_fine p within j g e).few_params, (head_unbroken p j g (function_fine p checked.unbroken checked.form.declared j g e)).long)

  pub logged_few : (r : TRegion) → logged p r ≤ 589824
  logged_few r =
      let low : HeadLow (params_at p r.function) = at_low p.functions head_low r.function in
      omega (
        arith,
        sum_by-append target_words (nv_targets p r 0 0 p.names.nvs p.nv) (param_targets p r 0 (params_at p r.function)),
        nv_few p r 0 0 p.names.nvs p.nv,
        few_words p within checked.form.declared.each_nv,
        params_few p r 0 (params_at p r.function) low.1,
        low.0,
      )

  all_few : (rs : List TRegion) (v : ℕ) → get_or (map (logged p) rs) v 0 ≤ 589824
  all_few [] v = omega arith
  all_few (r ∷ rs) zero = logged_few r
  all_few (r ∷ rs) (suc v) = all_few rs v

-- the same of the targets that an image holds
pub held_few : (m : TMarked) → IsChecked m.program m.groups → (ts : List (Vec Target Global)) → map (λ v. v.items) ts ≡ may_write m → All (λ v. sum_by target_words v.items < 2 ^ 32) ts
held_few m checked ts h i d below =
    let words = λ (v : Vec Target Global). sum_by target_words v.items in
    let own : get_or (map words ts) i 0 ≡ words (get_or ts i d) = get_or-map words ts i d 0 below in
    let told : get_or (map words ts) i 0 ≡ get_or (map (logged m.program) m.regions) i 0 = ap (λ l. get_or l i 0) (logged_is m ts h) in
    omega (arith, own, told, all_few m.program m.groups checked m.regions i)
