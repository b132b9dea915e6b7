-- Calls that are spared leave a nonvolatile variable alone, at every depth.
use Rattle.std.proofs.Common.{◌≡◌, ℕ, zero, suc, ◌+◌, Bool, true, false, true≢false, List, [], ◌∷◌, ◌++◌, length, Option, Some, None, cond, refl, ap, sym, ◌∙◌, subst, arith}
use Rattle.std.specs.Prelude.{is_some, slice_get, if◌then◌else◌}
use Rattle.std.specs.Option.{option_or}
use Rattle.std.specs.Str.{bytes_eq}
use Rattle.std.proofs.lemmas.List.{append_assoc}
use Rattle.std.proofs.lemmas.Option.{none-some}
use Rattle.std.proofs.lemmas.Slice.Eq.{bytes_eq-Decides}
use Rattle.oc_tree.specs.Names.{Text}
use Rattle.oc_tree.specs.Tree.{TFunction, TProgram}
use Rattle.oc_tree.specs.declared.tree.Param.{Param}
use Rattle.oc_tree.specs.declared.tree.VarId.{VarId}
use Rattle.oc_tree.specs.declared.tree.VarId.TheVariants as variables
use Rattle.oc_tree.specs.declared.scope.Var.{Var}
use Rattle.oc_tree.specs.Calls.{place_from, place}
use Rattle.oc_tree.specs.Assigned.{reaches_assign}
use Rattle.oc_tree.specs.Checked.{Group, IsChecked}
use Rattle.oc_tree.specs.Marked.{TRegion}
use Rattle.oc_tree.specs.Places.{Variables, find_variable, param_variables, at_start}
use Rattle.oc_tree.specs.Scope.{Scope, variable_in, is_in_scope, is_name_of, is_declared, is_taken, param_var, with_param, takes_param}
use Rattle.oc_meaning.specs.Blocks.{set_home}
use Rattle.oc_meaning.specs.Store.{Place, Global, Nowhere, Store, Binding, binding_of, place_of}
use Rattle.oc_meaning.specs.Exec.{Outcome, Passed, Copied, Lent, block_run}
use Rattle.oc_meaning.proofs.Functions.{place_named}
use Rattle.oc_meaning.specs.Run as meaning
use Rattle.oc_meaning.specs.Run.{nv_env, Frame, with_params, body_run, function_run, call_to}
use Rattle.oc_checked.proofs.Heads.{head_unbroken}
use Rattle.oc_checked.proofs.BodiesPass.{first_fails, second_fails, function_fine}
use Rattle.oc_writes.specs.Kept.{store_after}
use Rattle.oc_writes.proofs.KeptStore.{cell, leave_keeps}
use Rattle.oc_writes.proofs.KeptNames.{Names, Seen, found_on, names_more, seen_same}
use Rattle.oc_writes.proofs.KeptRuns.{IsSafe, PassedSpared, CallsKeep, block_keeps}
use Rattle.oc_writes.proofs.KeptRules.{rule_found_on}
use Rattle.oc_writes.proofs.KeptFunctions.{body_spared}

-- what is not some is none
none_is : {A : Type 0} (o : Option A) → is_some o ≡ false → o ≡ None
none_is None h = refl
none_is (Some a) h = absurd (true≢false h)

-- ---- what is passed

-- the places that are lent; a value has none
abbrev lent_at : List Passed → ℕ → Place
lent_at [] j = Nowhere
lent_at (Copied w ∷ ps) zero = Nowhere
lent_at (Lent q ∷ ps) zero = q
lent_at (s ∷ ps) (suc j) = lent_at ps j

module _ (p : TProgram) (i : ℕ) where
  -- where the variable is lent, it is safe
  safe_at : (v l : ℕ) (ps : List Passed) → PassedSpared p i v l ps → (j : ℕ) → lent_at ps j ≡ Global i → IsSafe p v (l + j)
  safe_at v l [] h j e = absurd (cc)
  safe_at v l (Copied w ∷ ps) h zero e = absurd (cc)
  safe_at v l (Copied w ∷ ps) h (suc j) e = let n : l + 1 + j ≡ l + suc j = omega arith in subst (IsSafe p v) n (safe_at v (l + 1) ps h j e)
  safe_at v l (Lent q ∷ ps) h zero e = let n : l ≡ l + 0 = omega arith in subst (IsSafe p v) n (h.0 e)
  safe_at v l (Lent q ∷ ps) h (suc j) e = let n : l + 1 + j ≡ l + suc j = omega arith in subst (IsSafe p v) n (safe_at v (l + 1) ps h.1 j e)

  -- ---- at the start of a function

  -- the nonvolatile variables
  nv_placed : (n : ℕ) (xs : List Text) (y : Text) → place_of (nv_env n xs) y ≡ Global i → place_from n xs y ≡ Some i
  nv_placed n [] y e = absurd (cc)
  nv_placed n (x ∷ xs) y e = by (bytes_eq y x) e (nv_placed (suc n) xs y)
    where
      by : (b : Bool) → (if b then record { name = x; place = Global n; reference = false; fresh = false } else binding_of (nv_env (suc n) xs) y).place ≡ Global i
          → (place_of (nv_env (suc n) xs) y ≡ Global i → place_from (suc n) xs y ≡ Some i) → cond b (Some n) (place_from (n + 1) xs y) ≡ Some i
      by true e rest = let same : n ≡ i = cc in ap Some same
      by false e rest = let m : n + 1 ≡ suc n = omega arith in ap (λ k. place_from k xs y) m ∙ rest e

  module _ (passed : ℕ → Place) where
    nvs_seen : Seen p i passed [] (nv_env 0 p.names.nvs)
    nvs_seen y e = Names.own refl (nv_placed 0 p.names.nvs y e)

    -- a name that no other declaration has
    record IsNew (vs : Variables) (z : Text) : Type 0 where
      unseen : find_variable vs z ≡ None
      unplaced : place p.names.nvs z ≡ None

    names_fresh : (vs : Variables) (y z : Text) (w : VarId) → IsNew vs z → Names p i passed vs y → Names p i passed (vs ++ (z, w) ∷ []) y
    names_fresh vs y z w new n = by (bytes_eq y z) refl n
      where
        by : (b : Bool) → bytes_eq y z ≡ b → Names p i passed vs y → Names p i passed (vs ++ (z, w) ∷ []) y
        by false e n = names_more p i passed vs y z w e n
        by true e (Names.own none is) = let same : y ≡ z = (bytes_eq-Decides y z).0 e in absurd (none-some i (sym new.unplaced ∙ ap (place p.names.nvs) (sym same) ∙ is))
        by true e (Names.given j some lent) = let same : y ≡ z = (bytes_eq-Decides y z).0 e in absurd (none-some (variables.Param j) (sym new.unseen ∙ ap (find_variable vs) (sym same) ∙ some))

    -- a parameter is bound to what was passed for it
    bound_seen : (vs : Variables) (env : List Binding) (b : Binding) (j : ℕ) → IsNew vs b.name → (b.place ≡ Global i → passed j ≡ Global i) → Seen p i passed vs env
        → Seen p i passed (vs ++ (b.name, variables.Param j) ∷ []) (b ∷ env)
    bound_seen vs env b j new lent seen y = by (bytes_eq y b.name) refl
      where
        by : (t : Bool) → bytes_eq y b.name ≡ t → (if t then b else binding_of env y).place ≡ Global i → Names p i passed (vs ++ (b.name, variables.Param j) ∷ []) y
        by true is e =
            let same : y ≡ b.name = (bytes_eq-Decides y b.name).0 is in
            let none : find_variable vs y ≡ None = ap (find_variable vs) same ∙ new.unseen in
            Names.given j (found_on vs ((b.name, variables.Param j) ∷ []) y ∙ (λ k. option_or (none k) (cond (is k) (Some (variables.Param j)) None))) (lent e)
        by false is e = names_more p i passed vs y b.name (variables.Param j) is (seen y e)

    -- what the rules don't see is not there
    abbrev Covered : Scope → Variables → Type 0
    Covered s vs = (y : Text) → variable_in s y ≡ None → find_variable vs y ≡ None

    covered_more : (s : Scope) (vs : Variables) (z : Text) (v : Var) (w : VarId) → Covered s vs → Covered (s ++ (z, v) ∷ []) (vs ++ (z, w) ∷ [])
    covered_more s vs z v w all y e = found_on vs ((z, w) ∷ []) y ∙ by (variable_in s y) (bytes_eq y z) refl (sym (rule_found_on s ((z, v) ∷ []) y) ∙ e)
      where
        by : (o : Option Var) (b : Bool) → variable_in s y ≡ o → option_or o (cond b (Some v) None) ≡ None → option_or (find_variable vs y) (cond b (Some w) None) ≡ None
        by None true is h = absurd (none-some v (sym h))
        by None false is h = ap (λ o. option_or o None) (all y is)
        by (Some u) b is h = absurd (none-some u (sym h))

    -- a parameter's name is new
    param_new : (s : Scope) (vs : Variables) (q : Param) → Covered s vs → is_taken p s q.name ≡ false → IsNew vs q.name
    param_new s vs q all free =
        let past = second_fails (is_name_of p.names.ports q.name) _ (second_fails (is_name_of p.names.sensors q.name) _ (second_fails (is_in_scope s q.name) (is_declared p q.name) free)) in
        record {
          unseen = all q.name (none_is (variable_in s q.name) (first_fails (is_in_scope s q.name) (is_declared p q.name) free));
          unplaced = none_is (place p.names.nvs q.name) (first_fails (is_name_of p.names.nvs q.name) _ past);
        }

    -- the parameters for which nothing is passed
    rest_seen : (s : Scope) (vs : Variables) (n : ℕ) (qs : List Param) (env : List Binding) → Covered s vs → takes_param p s qs ≡ false → Seen p i passed vs env
        → Seen p i passed (vs ++ param_variables n qs) env
    rest_seen s vs n [] env all free seen = seen_same p i passed vs env seen
    rest_seen s vs n (q ∷ qs) env all free seen =
        let new = param_new s vs q all (first_fails (is_taken p s q.name) _ free) in
        let one : Seen p i passed (vs ++ (q.name, variables.Param n) ∷ []) env = λ y e. names_fresh vs y q.name (variables.Param n) new (seen y e) in
        subst (λ ws. Seen p i passed ws env) (append_assoc vs ((q.name, variables.Param n) ∷ []) (param_variables (n + 1) qs))
        (rest_seen (with_param s q) (vs ++ (q.name, variables.Param n) ∷ []) (n + 1) qs env (covered_more s vs q.name (param_var q) (variables.Param n) all)
        (second_fails (is_taken p s q.name) _ free) one)

    params_seen : (s : Scope) (vs : Variables) (n : ℕ) (qs : List Param) (ps : List Passed) (fr : Frame) → Covered s vs → takes_param p s qs ≡ false
        → ((j : ℕ) → lent_at ps j ≡ Global i → passed (n + j) ≡ Global i) → Seen p i passed vs fr.env → Seen p i passed (vs ++ param_variables n qs) (with_params qs ps fr).env
    params_seen s vs n [] ps fr all free lent seen = seen_same p i passed vs fr.env seen
    params_seen s vs n (q ∷ qs) [] fr all free lent seen = rest_seen s vs n (q ∷ qs) fr.env all free seen
    params_seen s vs n (q ∷ qs) (Copied w ∷ ps) fr all free lent seen =
        let new = param_new s vs q all (first_fails (is_taken p s q.name) _ free) in
        subst (λ ws. Seen p i passed ws (with_params qs ps (meaning.with_param q.name (Copied w) fr)).env) (append_assoc vs ((q.name, variables.Param n) ∷ []) (param_variables (n + 1) qs))
        (params_seen (with_param s q) (vs ++ (q.name, variables.Param n) ∷ []) (n + 1) qs ps (meaning.with_param q.name (Copied w) fr)
        (covered_more s vs q.name (param_var q) (variables.Param n) all) (second_fails (is_taken p s q.name) _ free)
        (λ j e. let m : n + suc j ≡ n + 1 + j = omega arith in ap passed (sym m) ∙ lent (suc j) e)
        (bound_seen vs fr.env _ n new (λ e. absurd (cc)) seen))
    params_seen s vs n (q ∷ qs) (Lent r ∷ ps) fr all free lent seen =
        let new = param_new s vs q all (first_fails (is_taken p s q.name) _ free) in
        let z : n + 0 ≡ n = omega arith in
        subst (λ ws. Seen p i passed ws (with_params qs ps (meaning.with_param q.name (Lent r) fr)).env) (append_assoc vs ((q.name, variables.Param n) ∷ []) (param_variables (n + 1) qs))
        (params_seen (with_param s q) (vs ++ (q.name, variables.Param n) ∷ []) (n + 1) qs ps (meaning.with_param q.name (Lent r) fr)
        (covered_more s vs q.name (param_var q) (variables.Param n) all) (second_fails (is_taken p s q.name) _ free)
        (λ j e. let m : n + suc j ≡ n + 1 + j = omega arith in ap passed (sym m) ∙ lent (suc j) e)
        (bound_seen vs fr.env _ n new (λ e. ap passed (sym z) ∙ lent 0 e) seen))

-- ---- calls

module _ (p : TProgram) (groups : List Group) (checked : IsChecked p groups) (regions : List TRegion) (i : ℕ) (x : Text) (named : slice_get p.names.nvs i ≡ Some x) where
  -- a body that is spared leaves the variable alone
  body_keeps : (call_of : Text → List Passed → Store → Outcome) → CallsKeep p i x call_of → (u : ℕ) (g : TFunction) (ps : List Passed) (σ : Store) → slice_get p.functions u
      ≡ Some g → reaches_assign p.functions x u ≡ false → PassedSpared p i u 0 ps
      → cell i (store_after (body_run p regions call_of g (with_params g.params ps (record { env = nv_env 0 p.names.nvs; locals = σ.locals })) σ)) ≡ cell i σ
  body_keeps call_of calls u g ps σ stands free spared =
      let passed : ℕ → Place = lent_at ps in
      let fr = with_params g.params ps (record { env = nv_env 0 p.names.nvs; locals = σ.locals }) in
      let head = head_unbroken p u g (function_fine p checked.unbroken checked.form.declared u g stands) in
      let seen : Seen p i passed (at_start g).variables fr.env =
      params_seen p i passed [] [] 0 g.params ps (record { env = nv_env 0 p.names.nvs; locals = σ.locals }) (λ y e. refl) head.free
      (λ j e. let z : 0 + j ≡ j = omega arith in ap passed z ∙ e) (nvs_seen p i passed) in
      let safe : (j : ℕ) → passed j ≡ Global i → IsSafe p u j = λ j e. let z : 0 + j ≡ j = omega arith in subst (IsSafe p u) z (safe_at p i u 0 ps spared j e) in
      let inner = body_spared p i x named u g stands passed groups checked free safe in
      let start : Store = record σ { locals = fr.locals } in
      leave_keeps i (cell i σ) (length σ.locals) (block_run p.names regions call_of (set_home g.body) fr.env g.body start)
      (block_keeps p i x passed p.names regions call_of (set_home g.body) calls (cell i σ) fr.env (at_start g) g.body start seen inner refl)

  pub calls_keep : (d : ℕ) → CallsKeep p i x (call_to p regions d)
  calls_keep zero f ps σ h = refl
  calls_keep (suc d) f ps σ h = by (meaning.function_named p.functions f) refl (calls_keep d)
    where
      by : (o : Option TFunction) → meaning.function_named p.functions f ≡ o → CallsKeep p i x (call_to p regions d)
          → cell i (store_after (function_run p regions (call_to p regions d) o ps σ)) ≡ cell i σ
      by None is calls = refl
      by (Some g) is calls =
          let c = place_named 0 p.functions f g is in
          let number : 0 + c.0 ≡ c.0 = omega arith in
          let s = h c.0 (c.1 ∙ ap Some number) in
          body_keeps (call_to p regions d) calls c.0 g ps σ c.2 s.0 s.1
