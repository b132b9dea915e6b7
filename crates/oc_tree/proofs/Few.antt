-- Programs that break no rule have few functions, few parameters and few nonvolatile variables.
use Rattle.std.proofs.Common.{◌≡◌, refl, subst, ℕ, zero, suc, ◌+◌, ◌<◌, ◌≤◌, ◌^◌, arith, Bool, true, false, ◌==◌, ◌||◌, nat_le, nat_lt, List, [], ◌∷◌, ◌++◌, length, slice_get}
use Rattle.std.proofs.Common.{slice_index_or, Option, Some, None, cond}
use Rattle.std.specs.List.{count_by}
use Rattle.std.proofs.lemmas.Option.{slice_get-get_or}
use Rattle.std.proofs.lemmas.Bool.{eqb-true}
use Rattle.std.proofs.lemmas.List.Sums.{sum_by-cons}
use Rattle.oc_tree.specs.Names.{Text}
use Rattle.oc_tree.specs.Tree.{TFunction, TProgram}
use Rattle.oc_tree.specs.Form.{InForm, is_nv, is_function}
use Rattle.oc_tree.specs.declared.tree.NvDecl.{NvDecl}
use Rattle.oc_tree.specs.declared.tree.Decl.{Decl}
use Rattle.oc_tree.specs.declared.tree.DeclKind.{DeclKind}
use Rattle.oc_tree.specs.declared.tree.DeclKind.TheVariants as decls
use Rattle.oc_tree.specs.declared.before.Before.{Before}
use Rattle.oc_tree.specs.declared.broken.Broken.{Broken}
use Rattle.oc_tree.specs.Elements.{sensor_item, port_item, nv_item, function_item, Element, declared, statement, ending, line_of, nv_element, function_elements, item_elements}
use Rattle.oc_tree.specs.Elements.{after_item, order_elements, nothing_before, program_elements}
use Rattle.oc_tree.specs.Limits.{Tally, nothing_counted, counted}
use Rattle.oc_tree.specs.Broken.{Table, rules_of, lowest, or_later, first_broken, broken_element, or_size, broken}
use Rattle.oc_tree.specs.Places.{FewVariables}

-- ---- elements that break no rule

-- what the limits keep of an element
abbrev Kept : Element → Type 0
Kept (declared b line (nv_item x d)) = b.nvs < 64
Kept (declared b line (function_item f)) = (b.functions < 128) × (length f.params ≤ 8)
Kept _ = Unit {0}

abbrev Each : List Element → Type 0
Each [] = Unit {0}
Each (e ∷ es) = Kept e × Each es

each_second : (es fs : List Element) → Each (es ++ fs) → Each fs
each_second [] fs h = h
each_second (e ∷ es) fs h = each_second es fs h.1

-- no rule of a table is broken
abbrev AreKept : Table → Type 0
AreKept [] = Unit {0}
AreKept (t ∷ ts) = (t.1 ≡ false) × AreKept ts

cond_none : (t : Bool) (n : ℕ) (o : Option ℕ) → cond t (Some n) o ≡ None → (t ≡ false) × (o ≡ None)
cond_none true n o h = grind (arith, h)
cond_none false n o h = (refl, h)

are_kept : (ts : Table) → lowest ts ≡ None → AreKept ts
are_kept [] h = tt
are_kept (t ∷ ts) h = let parts = cond_none t.1 t.0 (lowest ts) h in (parts.0, are_kept ts parts.1)

later_none : (line : ℕ) (o : Option ℕ) (later : Option Broken) → or_later line o later ≡ None → (o ≡ None) × (later ≡ None)
later_none line (Some n) later h = grind (arith, h)
later_none line None later h = (refl, h)

kept : (p : TProgram) (n : Tally) (e : Element) → lowest (rules_of p n e) ≡ None → Kept e
kept p n (declared b line (sensor_item x)) h = tt
kept p n (declared b line (port_item x)) h = tt
kept p n (declared b line (nv_item x d)) h =
    let tests = are_kept (rules_of p n (declared b line (nv_item x d))) h in
    let passes : (nat_le 64 b.nvs || nat_lt 65536 n.words) ≡ false = tests.1.1.0 in grind (arith, passes)
kept p n (declared b line (function_item f)) h =
    let tests = are_kept (rules_of p n (declared b line (function_item f))) h in
    let passes : (nat_le 128 b.functions || (nat_lt 8 (length f.params) || nat_lt 256 n.variables)) ≡ false = tests.1.1.1.1.1.1.0 in (grind (arith, passes), grind (arith, passes))
kept p n (statement h id line k) _ = tt
kept p n (ending line) _ = tt

each_kept : (p : TProgram) (n : Tally) (es : List Element) → first_broken p n es ≡ None → Each es
each_kept p n [] h = tt
each_kept p n (e ∷ es) h = let parts = later_none (line_of e) (lowest (rules_of p (counted n e) e)) (first_broken p (counted n e) es) h in
    (kept p (counted n e) e parts.0, each_kept p (counted n e) es parts.1)

-- ---- declarations

module _ (p : TProgram) where
  -- the nonvolatile variable `k`, from a declaration on, where `m` are declared behind it
  nv_step : (b : Before) (line : ℕ) (kind : DeclKind) (es : List Element) (m k : ℕ) (x : Text) (d : NvDecl) → Each (item_elements p b line kind ++ es) →
      slice_get p.names.nvs k ≡ Some x → slice_get p.nv k ≡ Some d → b.nvs ≤ k → k < b.nvs + (cond (is_nv kind) 1 0 + m) →
      (Each es → (after_item b kind).nvs ≤ k → k < (after_item b kind).nvs + m → k < 64) → k < 64
  nv_step b line decls.Sensor es m k x d h named decl from to on = on (each_second (item_elements p b line decls.Sensor) es h) from (omega (arith, to))
  nv_step b line decls.Port es m k x d h named decl from to on = on (each_second (item_elements p b line decls.Port) es h) from (omega (arith, to))
  nv_step b line decls.Function es m k x d h named decl from to on = on (each_second (item_elements p b line decls.Function) es h) from (omega (arith, to))
  nv_step b line decls.Nv es m k x d h named decl from to on = by_test (k == b.nvs) refl
    where
      by_test : (t : Bool) → (k == b.nvs) ≡ t → k < 64
      by_test true is =
          let same : k ≡ b.nvs = eqb-true k b.nvs is in
          let one = subst (λ o. Each (nv_element b line o (slice_get p.nv b.nvs) ++ es)) (subst (λ i. slice_get p.names.nvs i ≡ Some x) same named) h in
          let two = subst (λ o. Each (nv_element b line (Some x) o ++ es)) (subst (λ i. slice_get p.nv i ≡ Some d) same decl) one in
          omega (arith, same, two.0)
      by_test false is = on (each_second (item_elements p b line decls.Nv) es h) (grind (arith, from, is)) (omega (arith, to))

  few_nvs : (b : Before) (ds : List Decl) (k : ℕ) (x : Text) (d : NvDecl) → Each (order_elements p b ds) →
      slice_get p.names.nvs k ≡ Some x → slice_get p.nv k ≡ Some d → b.nvs ≤ k → k < b.nvs + count_by (λ e. is_nv e.kind) ds → k < 64
  few_nvs b [] k x d h named decl from to = absurd (omega (arith, from, to))
  few_nvs b (e ∷ ds) k x d h named decl from to =
      nv_step b e.line e.kind (order_elements p (after_item b e.kind) ds) (count_by (λ g. is_nv g.kind) ds) k x d h named decl from
      (subst (λ (n : ℕ). k < b.nvs + n) (sum_by-cons (λ g. cond (is_nv g.kind) 1 0) e ds) to)
      (λ rest from' to'. few_nvs (after_item b e.kind) ds k x d rest named decl from' to')

  abbrev IsFew : ℕ → TFunction → Type 0
  IsFew k f = (k < 128) × (length f.params ≤ 8)

  -- the function `k`, from a declaration on, where `m` are declared behind it
  function_step : (b : Before) (line : ℕ) (kind : DeclKind) (es : List Element) (m k : ℕ) (f : TFunction) → Each (item_elements p b line kind ++ es) →
      slice_get p.functions k ≡ Some f → b.functions ≤ k → k < b.functions + (cond (is_function kind) 1 0 + m) →
      (Each es → (after_item b kind).functions ≤ k → k < (after_item b kind).functions + m → IsFew k f) → IsFew k f
  function_step b line decls.Sensor es m k f h found from to on = on (each_second (item_elements p b line decls.Sensor) es h) from (omega (arith, to))
  function_step b line decls.Port es m k f h found from to on = on (each_second (item_elements p b line decls.Port) es h) from (omega (arith, to))
  function_step b line decls.Nv es m k f h found from to on = on (each_second (item_elements p b line decls.Nv) es h) from (omega (arith, to))
  function_step b line decls.Function es m k f h found from to on = by_test (k == b.functions) refl
    where
      by_test : (t : Bool) → (k == b.functions) ≡ t → IsFew k f
      by_test true is =
          let same : k ≡ b.functions = eqb-true k b.functions is in
          let here = subst (λ o. Each (function_elements p b line o ++ es)) (subst (λ i. slice_get p.functions i ≡ Some f) same found) h in
          let below : b.functions < 128 = here.0.0 in (omega (arith, same, below), here.0.1)
      by_test false is = on (each_second (item_elements p b line decls.Function) es h) (grind (arith, from, is)) (omega (arith, to))

  function_few : (b : Before) (ds : List Decl) (k : ℕ) (f : TFunction) → Each (order_elements p b ds) →
      slice_get p.functions k ≡ Some f → b.functions ≤ k → k < b.functions + count_by (λ e. is_function e.kind) ds → IsFew k f
  function_few b [] k f h found from to = absurd (omega (arith, from, to))
  function_few b (e ∷ ds) k f h found from to =
      function_step b e.line e.kind (order_elements p (after_item b e.kind) ds) (count_by (λ g. is_function g.kind) ds) k f h found from
      (subst (λ (n : ℕ). k < b.functions + n) (sum_by-cons (λ g. cond (is_function g.kind) 1 0) e ds) to)
      (λ rest from' to'. function_few (after_item b e.kind) ds k f rest found from' to')

-- ---- programs

got : {X : Type 0} (xs : List X) (i : ℕ) → i < length xs → (x : X) × (slice_get xs i ≡ Some x)
got [] i h = absurd (omega (arith, h))
got (x ∷ xs) zero h = (x, refl)
got (x ∷ xs) (suc i) h = got xs i (omega (arith, h))

size_none : (p : TProgram) (o : Option Broken) → or_size p o ≡ None → o ≡ None
size_none p None h = refl
size_none p (Some b) h = h

module _ (N : Text → Type 0) (p : TProgram) (form : InForm N p) (unbroken : broken p ≡ None) where
  each : Each (program_elements p)
  each = each_kept p nothing_counted (program_elements p) (size_none p (broken_element p) unbroken)

  nvs_few : length p.names.nvs ≤ 64
  nvs_few = by_test (nat_lt 64 (length p.names.nvs)) refl
    where
      by_test : (t : Bool) → nat_lt 64 (length p.names.nvs) ≡ t → length p.names.nvs ≤ 64
      by_test false is = grind (arith, is)
      by_test true is =
          let many : 64 < length p.names.nvs = grind (arith, is) in
          let x = got p.names.nvs 64 many in
          let d = got p.nv 64 (omega (arith, many, form.declared.each_nv)) in
          let less = few_nvs p nothing_before p.order 64 x.0 d.0 each x.1 d.1 (omega arith) (omega (arith, many, form.declared.nvs)) in absurd (omega (arith, less))

  function_at : (k : ℕ) (f : TFunction) → k < length p.functions → slice_get p.functions k ≡ Some f → IsFew p k f
  function_at k f h found = function_few p nothing_before p.order k f each found (omega arith) (omega (arith, h, form.declared.functions))

  params_few : (k : ℕ) (f : TFunction) → k < length p.functions → length (slice_index_or p.functions k f).params < 2 ^ 32
  params_few k f h =
      let few = function_at k (slice_index_or p.functions k f) h (slice_get-get_or p.functions k f h) in omega (arith, few.1)

  pub few_variables : FewVariables p
  few_variables = record { nvs = omega (arith, nvs_few); params = params_few }

  functions_few : length p.functions ≤ 128
  functions_few = by_test (nat_lt 128 (length p.functions)) refl
    where
      by_test : (t : Bool) → nat_lt 128 (length p.functions) ≡ t → length p.functions ≤ 128
      by_test false is = grind (arith, is)
      by_test true is =
          let many : 128 < length p.functions = grind (arith, is) in
          let f = got p.functions 128 many in
          let few = function_at 128 f.0 many f.1 in absurd (omega (arith, few.0))

  pub few_functions : length p.functions < 2 ^ 32
  few_functions = omega (arith, functions_few)
