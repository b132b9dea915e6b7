-- What names stand for, from one statement to the next.
use Rattle.std.proofs.Common.{◌≡◌, ◌⊎◌, inl, inr, ◌<◌, ◌≤◌, ℕ, suc, ◌+◌, Bool, true, false, true≢false, List, [], ◌∷◌, ◌++◌, length, Option, Some, None, cond, refl, ap, sym, ◌∙◌, subst, arith}
use Rattle.std.specs.Prelude.{ℤ, is_some, slice_get, option_map, option_and_then, if◌then◌else◌}
use Rattle.std.specs.Str.{bytes_eq}
use Rattle.std.proofs.lemmas.Slice.Eq.{bytes_eq-Decides}
use Rattle.std.proofs.lemmas.Option.{none-some, same_Some}
use Rattle.oc_tree.specs.Names.{Text}
use Rattle.oc_tree.specs.Tree.{TCall, TProgram}
use Rattle.oc_tree.specs.declared.tree.NvDecl.{NvDecl}
use Rattle.oc_tree.specs.declared.tree.Param.{Param}
use Rattle.oc_tree.specs.declared.scope.Var.{Var}
use Rattle.oc_tree.specs.Calls.{place_from, place}
use Rattle.oc_tree.specs.Scope.{Scope, variable_in, variable_of, or_nv, nv_var, is_variable, is_in_scope, is_declared, is_taken, param_var, with_param, with_params, takes_param}
use Rattle.oc_tree.specs.Types.{is_reference}
use Rattle.oc_tree.specs.Elements.{Here, turn_var, function_item}
use Rattle.oc_tree.specs.Broken.{item_rules}
use Rattle.oc_tree.specs.Rules.{origin_is}
use Rattle.oc_tree.specs.Walks.{call_known}
use Rattle.oc_meaning.specs.Store.{Place, Local, Global, Turn, Nowhere, Store, Binding, binding_of, place_of}
use Rattle.oc_meaning.specs.Exec.{Passed, Copied, Lent}
use Rattle.oc_meaning.specs.Run.{Frame, nv_env}
use Rattle.oc_desugar.proofs.FineCalls.{CallFine}
use Rattle.oc_desugar.proofs.PullSplits.{found_last, found_before}
use Rattle.oc_desugar.proofs.Unbroken.{Passes, none_broken}
use Rattle.oc_checked.proofs.BodiesPass.{first_fails, second_fails, function_fine}
use Rattle.oc_laws.proofs.Maps.{none_is}
use Rattle.oc_copies.specs.Copies.{own_param, own_params, nv_name}
use Rattle.oc_copies.specs.Stands.{IsVariablePlace, Stands, AreFormed, IsRuledCall, FramesStand}
use Rattle.oc_copies.proofs.Back.{IsShared, nv_shared}
use Rattle.oc_copies.proofs.Copied.{nv_of_name}

-- where a name is taken by nothing, no variable has it
pub not_in_scope : (p : TProgram) (s : Scope) (x : Text) → is_taken p s x ≡ false → variable_in s x ≡ None
not_in_scope p s x h = none_is (variable_in s x) (first_fails (is_in_scope s x) (is_declared p x) h)

local_is : (a b : ℕ) → Local a ≡ Local b → a ≡ b
local_is a b e = cc

module _ (p : TProgram) where
  -- in a store with as many variables or more
  pub stands_longer : (s : Scope) (env : List Binding) (σ τ : Store) → length σ.locals ≤ length τ.locals → Stands p s env σ → Stands p s env τ
  stands_longer s env σ τ more h = record {
    found = h.found;
    local = λ x l e. let b = h.local x l e in omega (arith, b, more);
    stored = h.stored;
    turn = h.turn;
    reference = h.reference;
    apart = h.apart;
  }

  -- where a new variable is
  abbrev pub IsNew : Binding → Var → Store → Store → Type 0
  IsNew b v σ τ = ((b.place ≡ Local (length σ.locals)) × (suc (length σ.locals) ≤ length τ.locals)) ⊎ ((z : ℤ) × (b.place ≡ Turn z) × (v ≡ turn_var))

  module _ (s : Scope) (env : List Binding) (σ τ : Store) (b : Binding) (v : Var) (none : variable_in s b.name ≡ None) (new : IsNew b v σ τ) (more : length σ.locals ≤ length τ.locals)
      (reference : b.reference ≡ is_reference v.origin) (h : Stands p s env σ) where
    abbrev after : Scope
    after = s ++ (b.name, v) ∷ []

    abbrev chosen : Bool → Text → Binding
    chosen c y = if c then b else binding_of env y

    not_nowhere : b.place ≡ Nowhere → ⊥
    not_nowhere e = elim new [
      | inl n ↦ (let q : Local (length σ.locals) ≡ Nowhere = sym n.0 ∙ e in absurd (cc))
      | inr n ↦ (let q : Turn n.0 ≡ Nowhere = sym n.1 ∙ e in absurd (cc))
    ]

    not_global : (k : ℕ) → b.place ≡ Global k → ⊥
    not_global k e = elim new [
      | inl n ↦ (let q : Local (length σ.locals) ≡ Global k = sym n.0 ∙ e in absurd (cc))
      | inr n ↦ (let q : Turn n.0 ≡ Global k = sym n.1 ∙ e in absurd (cc))
    ]

    its_local : (l : ℕ) → b.place ≡ Local l → l < length τ.locals
    its_local l e = elim new [
      | inl n ↦ (let q = local_is (length σ.locals) l (sym n.0 ∙ e) in let m = n.1 in omega (arith, q, m))
      | inr n ↦ (let q : Turn n.0 ≡ Local l = sym n.1 ∙ e in absurd (cc))
    ]

    its_turn : (z : ℤ) → b.place ≡ Turn z → v ≡ turn_var
    its_turn z e = elim new [
      | inl n ↦ (let q : Local (length σ.locals) ≡ Turn z = sym n.0 ∙ e in absurd (cc))
      | inr n ↦ n.2
    ]

    -- no older variable is there
    not_old : (y : Text) → IsVariablePlace b.place → place_of env y ≡ b.place → ⊥
    not_old y c e = elim new [
      | inl n ↦ (let q = h.local y (length σ.locals) (e ∙ n.0) in absurd (omega (arith, q)))
      | inr n ↦ subst IsVariablePlace n.1 c
    ]

    found_new : (y : Text) (c : Bool) → bytes_eq y b.name ≡ c → is_variable p after y ≡ true → (chosen c y).place ≡ Nowhere → ⊥
    found_new y true is known e = not_nowhere e
    found_new y false is known e = h.found y (ap (λ o. is_some (or_nv p y o)) (sym (found_before s y b.name v is)) ∙ known) e

    local_new : (y : Text) (l : ℕ) (c : Bool) → (chosen c y).place ≡ Local l → l < length τ.locals
    local_new y l true e = its_local l e
    local_new y l false e = let q = h.local y l e in omega (arith, q, more)

    stored_new : (y : Text) (k : ℕ) (c : Bool) → bytes_eq y b.name ≡ c → (chosen c y).place ≡ Global k → (nv_name p k ≡ Some y) × (variable_in after y ≡ None)
    stored_new y k true is e = absurd (not_global k e)
    stored_new y k false is e = let q = h.stored y k e in (q.0, found_before s y b.name v is ∙ q.1)

    found_as : (y : Text) → bytes_eq y b.name ≡ true → variable_in after y ≡ Some v
    found_as y is = ap (variable_in after) ((bytes_eq-Decides y b.name).0 is) ∙ found_last s b.name v none

    turn_new : (y : Text) (z : ℤ) (c : Bool) → bytes_eq y b.name ≡ c → (chosen c y).place ≡ Turn z → variable_in after y ≡ Some turn_var
    turn_new y z true is e = found_as y is ∙ ap Some (its_turn z e)
    turn_new y z false is e = found_before s y b.name v is ∙ h.turn y z e

    reference_new : (y : Text) (c : Bool) → bytes_eq y b.name ≡ c → (chosen c y).reference ≡ origin_is is_reference (variable_of p after y)
    reference_new y true is = reference ∙ sym (ap (λ o. origin_is is_reference (or_nv p y o)) (found_as y is))
    reference_new y false is = h.reference y ∙ sym (ap (λ o. origin_is is_reference (or_nv p y o)) (found_before s y b.name v is))

    apart_new : (x y : Text) (c d : Bool) → bytes_eq x b.name ≡ c → bytes_eq y b.name ≡ d → IsVariablePlace (chosen c x).place → (chosen c x).place ≡ (chosen d y).place → x ≡ y
    apart_new x y true true i j cell e = (bytes_eq-Decides x b.name).0 i ∙ sym ((bytes_eq-Decides y b.name).0 j)
    apart_new x y true false i j cell e = absurd (not_old y cell (sym e))
    apart_new x y false true i j cell e = absurd (not_old x (subst IsVariablePlace e cell) e)
    apart_new x y false false i j cell e = h.apart x y cell e

    -- with one variable more
    pub stands_more : Stands p after (b ∷ env) τ
    stands_more = record {
      found = λ y k e. found_new y (bytes_eq y b.name) refl k e;
      local = λ y l e. local_new y l (bytes_eq y b.name) e;
      stored = λ y k e. stored_new y k (bytes_eq y b.name) refl e;
      turn = λ y z e. turn_new y z (bytes_eq y b.name) refl e;
      reference = λ y. reference_new y (bytes_eq y b.name) refl;
      apart = λ x y cell e. apart_new x y (bytes_eq x b.name) (bytes_eq y b.name) refl refl cell e;
    }

  -- ---- at the start

  nv_place : (n : ℕ) (xs : List Text) (x : Text) (k : ℕ) → place_from n xs x ≡ Some k → place_of (nv_env n xs) x ≡ Global k
  nv_place n [] x k e = absurd (none-some k e)
  nv_place n (z ∷ xs) x k e = by (bytes_eq x z) e (λ f. let next : n + 1 ≡ suc n = omega arith in subst (λ m. place_of (nv_env m xs) x ≡ Global k) next (nv_place (n + 1) xs x k f))
    where
      by : (b : Bool) → cond b (Some n) (place_from (n + 1) xs x) ≡ Some k → (place_from (n + 1) xs x ≡ Some k → place_of (nv_env (suc n) xs) x ≡ Global k) →
          (if b then record { name = z; place = Global n; reference = false; fresh = false } else binding_of (nv_env (suc n) xs) x).place ≡ Global k
      by true f rest = ap Global (same_Some n k f)
      by false f rest = rest f

  nv_plain : (n : ℕ) (xs : List Text) (x : Text) → (binding_of (nv_env n xs) x).reference ≡ false
  nv_plain n [] x = refl
  nv_plain n (z ∷ xs) x = by (bytes_eq x z) (nv_plain (suc n) xs x)
    where
      by : (b : Bool) → (binding_of (nv_env (suc n) xs) x).reference ≡ false →
          (if b then record { name = z; place = Global n; reference = false; fresh = false } else binding_of (nv_env (suc n) xs) x).reference ≡ false
      by true h = refl
      by false h = h

  nv_known : (o : Option ℕ) → is_some (option_map nv_var (option_and_then (λ i. slice_get p.nv i) o)) ≡ true → (k : ℕ) × (o ≡ Some k)
  nv_known None h = absurd (true≢false (sym h))
  nv_known (Some k) h = (k, refl)

  no_reference : (o : Option NvDecl) → false ≡ origin_is is_reference (option_map nv_var o)
  no_reference None = refl
  no_reference (Some d) = refl

  abbrev nvs : List Binding
  nvs = nv_env 0 p.names.nvs

  nv_stored : (x : Text) (k : ℕ) → place_of nvs x ≡ Global k → nv_name p k ≡ Some x
  nv_stored x k e =
      let n = nv_of_name 0 p.names.nvs x k e in
      let i : n.1.0 ≡ k = (let q = n.1.1 in omega (arith, q)) in
      ap (slice_get p.names.nvs) (sym i) ∙ n.1.2

  shared_place : (x y : Text) (q : Place) → IsShared q → place_of nvs x ≡ q → IsVariablePlace q → q ≡ place_of nvs y → x ≡ y
  shared_place x y (Global k) s e c f = same_Some x y (sym (nv_stored x k e) ∙ nv_stored y k (sym f))
  shared_place x y Nowhere s e c f = absurd c
  shared_place x y (Local l) s e c f = absurd s
  shared_place x y (Turn z) s e c f = absurd s

  -- nonvolatile variables alone
  pub nvs_stand : (σ : Store) → Stands p [] nvs σ
  nvs_stand σ = record {
    found = λ x known e. let k = nv_known (place p.names.nvs x) known in let q : Global k.0 ≡ Nowhere = sym (nv_place 0 p.names.nvs x k.0 k.1) ∙ e in absurd (cc);
    local = λ x l e. absurd (subst IsShared e (nv_shared 0 p.names.nvs x));
    stored = λ x k e. (nv_stored x k e, refl);
    turn = λ x z e. absurd (subst IsShared e (nv_shared 0 p.names.nvs x));
    reference = λ x. nv_plain 0 p.names.nvs x ∙ no_reference _;
    apart = λ x y c e. shared_place x y (place_of nvs x) (nv_shared 0 p.names.nvs x) refl c e;
  }

  -- and parameters
  all_stand : (σ : Store) (s : Scope) (qs : List Param) (ps : List Passed) (fr : Frame) → takes_param p s qs ≡ false → AreFormed qs ps → Stands p s fr.env (record σ { locals = fr.locals }) →
      Stands p (with_params s qs) (own_params σ qs ps fr).env (record σ { locals = (own_params σ qs ps fr).locals })
  all_stand σ s [] [] fr taken f h = h
  all_stand σ s (q ∷ qs) (Copied v ∷ ps) fr taken f h =
      all_stand σ (with_param s q) qs ps (own_param σ q.name (Copied v) fr) (second_fails (is_taken p s q.name) (takes_param p (with_param s q) qs) taken) f.1
      (stands_more s fr.env (record σ { locals = fr.locals }) (record σ { locals = (own_param σ q.name (Copied v) fr).locals })
      (record { name = q.name; place = Local (length fr.locals); reference = false; fresh = false }) (param_var q)
      (not_in_scope p s q.name (first_fails (is_taken p s q.name) (takes_param p (with_param s q) qs) taken)) (inl (refl, omega arith)) (omega arith) (sym f.0) h)
  all_stand σ s (q ∷ qs) (Lent a ∷ ps) fr taken f h =
      all_stand σ (with_param s q) qs ps (own_param σ q.name (Lent a) fr) (second_fails (is_taken p s q.name) (takes_param p (with_param s q) qs) taken) f.1
      (stands_more s fr.env (record σ { locals = fr.locals }) (record σ { locals = (own_param σ q.name (Lent a) fr).locals })
      (record { name = q.name; place = Local (length fr.locals); reference = true; fresh = false }) (param_var q)
      (not_in_scope p s q.name (first_fails (is_taken p s q.name) (takes_param p (with_param s q) qs) taken)) (inl (refl, omega arith)) (omega arith) (sym f.0) h)
  all_stand σ s [] (t ∷ ps) fr taken f h = absurd f
  all_stand σ s (q ∷ qs) [] fr taken f h = absurd f

  -- what rules leave of a call where it stands
  pub ruled_call : (h : Here) (c : TCall) → call_known p h.scope c ≡ true → CallFine p h c → IsRuledCall p h.scope c
  ruled_call h c known fine = record { known = known; meets = fine.meets; lends = fine.lends; alone = fine.alone; hidden = fine.hidden }

pub frames_stand : FramesStand
frames_stand p groups checked f g stands ps σ formed =
    let fine = function_fine p checked.unbroken checked.form.declared f g stands in
    let head : Passes (item_rules p fine.tally fine.before (function_item g)) = none_broken (item_rules p fine.tally fine.before (function_item g)) fine.head in
    all_stand p σ [] g.params ps (record { env = nv_env 0 p.names.nvs; locals = σ.locals }) head.1.0 formed (nvs_stand p (record σ { locals = σ.locals }))
