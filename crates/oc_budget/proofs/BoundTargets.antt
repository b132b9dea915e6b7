-- What each region may write, by its targets.
use Rattle.std.proofs.Common.{◌≡◌, ◌+◌, ℕ, zero, suc, Bool, true, false, true≢false, List, [], ◌∷◌, ◌++◌, map, cond, Option, Some, None, refl, sym, ap, ◌∙◌, arith}
use Rattle.std.specs.Prelude.{slice_get, ◌&&◌, ◌||◌, length, filter, option_map, option_and_then}
use Rattle.std.specs.List.{list_any}
use Rattle.std.proofs.lemmas.Bool.{eq-eqb, and_from, or_left, or_right}
use Rattle.std.proofs.lemmas.Option.{none-some, same_Some}
use Rattle.oc_tree.specs.Names.{Text}
use Rattle.oc_tree.specs.Tree.{variable, TArg, value, shared, mutable, TCall, call, TArgs, no_args, more_args, TRight, right_value, right_sense, right_call, TKind, let_to, let_array}
use Rattle.oc_tree.specs.Tree.{assign, assign_index, assign_deref, if_else, for_in, while_do, call_only, sense_only, emit, fresh, consistent, return, TFunction, TProgram}
use Rattle.oc_tree.specs.declared.said.Target.{Target}
use Rattle.oc_tree.specs.declared.said.Target.TheVariants as targets
use Rattle.oc_tree.specs.declared.tree.NvDecl.{NvDecl}
use Rattle.oc_tree.specs.declared.tree.Param.{Param}
use Rattle.oc_tree.specs.declared.tree.Passing.{Passing}
use Rattle.oc_tree.specs.declared.tree.Passing.TheVariants as passings
use Rattle.oc_tree.specs.declared.tree.ValueKind.{ValueKind}
use Rattle.oc_tree.specs.declared.tree.ValueKind.TheVariants as kinds
use Rattle.oc_tree.specs.declared.tree.VarId.{VarId}
use Rattle.oc_tree.specs.declared.tree.VarId.TheVariants as variables
use Rattle.oc_tree.specs.Calls.{place}
use Rattle.oc_tree.specs.Assigned.{is_mutable, param_names, first_param, param_assigned}
use Rattle.oc_tree.specs.Places.{Placed, or_nonvolatile, at_start, block_placed}
use Rattle.oc_tree.specs.Checked.{Group, IsChecked}
use Rattle.oc_tree.specs.Marked.{TRegion, is_in_region}
use Rattle.oc_code.specs.Scope.{Slot, InFrame, ByAddress, InNv, NoSlot, kind_words, param_slot}
use Rattle.oc_code.proofs.Lawful.{Access}
use Rattle.oc_code.proofs.Closed.{call_within}
use Rattle.oc_code.proofs.Places.{base, nv_width}
use Rattle.oc_effects.specs.Effects.{TEffect, right_call_of, call_of, variable_at, target_of, passed, all_passed, params_at, called_at, called_by, effect_of, function_effects, effects_at}
use Rattle.oc_flow.specs.Variables.{same_variable, is_variable_of}
use Rattle.oc_writes.specs.Targets as region
use Rattle.oc_writes.specs.Targets.{region_effects, assigns_nv, assigns_param, words_of, nv_targets, param_targets, region_targets}
use Rattle.oc_writes.specs.Seen.{stands_in}
use Rattle.oc_writes.proofs.Standing.{Each, each_map, each_both, standing_is}
use Rattle.oc_reach.proofs.Lists.{at_place}
use Rattle.oc_writes.proofs.KeptRules.{Ruled, body_ruled}
use Rattle.oc_checked.proofs.Heads.{head_unbroken}
use Rattle.oc_checked.proofs.BodiesPass.{function_fine}
use Rattle.oc_writes.proofs.KeptFunctions.{place_there}
use Rattle.oc_watch.proofs.Words.{covers}
use Rattle.oc_budget.proofs.BoundAccess.{param_may, access, name_nv, name_param, Old, SlotIs, block_old, start_old}
use Rattle.oc_budget.proofs.BoundWithin.{KindMay}
use Rattle.oc_budget.proofs.BoundWritten.{writes, ArgNamed, ArgsNamed, CallTold, RightTold, Stored, Named, KindTold, kind_ok}

same_itself : (w : VarId) → same_variable w w ≡ true
same_itself (variables.Nv n) = eq-eqb n n refl
same_itself (variables.Param n) = eq-eqb n n refl
same_itself (variables.Declared n) = eq-eqb n n refl
same_itself variables.Returned = refl

-- ---- what stands in a region

each_kept : (p : TProgram) (keeps : TEffect → Bool) (xs : List Placed)
    → Each (λ a. keeps (effect_of p a) ≡ true → (test : TEffect → Bool) → test (effect_of p a) ≡ true → list_any test (filter keeps (map (effect_of p) xs)) ≡ true) xs
each_kept p keeps [] = tt
each_kept p keeps (a ∷ xs) = (own, each_map _ _ more xs (each_kept p keeps xs))
  where
    own : keeps (effect_of p a) ≡ true → (test : TEffect → Bool) → test (effect_of p a) ≡ true → list_any test (filter keeps (map (effect_of p) (a ∷ xs))) ≡ true
    own k test h = ap (λ b. list_any test (cond b (effect_of p a ∷ filter keeps (map (effect_of p) xs)) (filter keeps (map (effect_of p) xs)))) k ∙ or_left (test (effect_of p a)) _ h

    skip : (b : Bool) (test : TEffect → Bool) → list_any test (filter keeps (map (effect_of p) xs)) ≡ true
        → list_any test (cond b (effect_of p a ∷ filter keeps (map (effect_of p) xs)) (filter keeps (map (effect_of p) xs))) ≡ true
    skip true test h = or_right (test (effect_of p a)) _ h
    skip false test h = h

    more : (b : Placed) → (keeps (effect_of p b) ≡ true → (test : TEffect → Bool) → test (effect_of p b) ≡ true → list_any test (filter keeps (map (effect_of p) xs)) ≡ true)
        → keeps (effect_of p b) ≡ true → (test : TEffect → Bool) → test (effect_of p b) ≡ true → list_any test (filter keeps (map (effect_of p) (a ∷ xs))) ≡ true
    more b f k test h = skip (keeps (effect_of p a)) test (f k test h)

module _ (p : TProgram) (r : TRegion) where
  abbrev pub reg_nv : ℕ → Option Text → Bool
  reg_nv i None = false
  reg_nv i (Some x) = assigns_nv p r i x

  abbrev nv : ℕ → Bool
  nv i = reg_nv i (slice_get p.names.nvs i)

  abbrev par : ℕ → Bool
  par = assigns_param p r

  -- what the region of the function may write
  abbrev pub region_access : TFunction → Access
  region_access f = access p f (λ i. reg_nv i (slice_get p.names.nvs i)) (assigns_param p r)

  -- ---- what it may write is among its targets

  abbrev In : List Target → Target → Type 0
  In ts t = (at : ℕ) × (slice_get ts at ≡ Some t)

  in_front : (xs ys : List Target) (t : Target) (k : ℕ) → slice_get xs k ≡ Some t → slice_get (xs ++ ys) k ≡ Some t
  in_front [] ys t k e = absurd (none-some t e)
  in_front (x ∷ xs) ys t zero e = e
  in_front (x ∷ xs) ys t (suc k) e = in_front xs ys t k e

  in_back : (xs ys : List Target) (t : Target) → In ys t → In (xs ++ ys) t
  in_back [] ys t h = h
  in_back (x ∷ xs) ys t h = let r = in_back xs ys t h in (suc r.0, r.1)

  nv_target : (n b : ℕ) (xs : List Text) (ds : List NvDecl) (i : ℕ) (x : Text) → length ds ≡ length xs → slice_get xs i ≡ Some x → assigns_nv p r (n + i) x ≡ true
      → In (nv_targets p r n b xs ds) (targets.Nv (b + base ds i) (nv_width ds i))
  nv_target n b [] ds i x long e h = absurd (none-some x e)
  nv_target n b (y ∷ xs) [] i x long e h = absurd (omega (arith, long))
  nv_target n b (y ∷ xs) (d ∷ ds) zero x long e h =
      let z : n + 0 ≡ n = omega arith in
      let c : b ≡ b + 0 = omega arith in
      let same : y ≡ x = same_Some y x e in
      let own : assigns_nv p r n y ≡ true = (λ k. assigns_nv p r (sym z k) (same k)) ∙ h in
      (0, ap (λ t. slice_get (cond t (targets.Nv b d.words ∷ []) [] ++ nv_targets p r (n + 1) (b + d.words) xs ds) 0) own ∙ ap (λ a. Some (targets.Nv a d.words)) c)
  nv_target n b (y ∷ xs) (d ∷ ds) (suc i) x long e h =
      let m : n + 1 + i ≡ n + suc i = omega arith in
      let l : length ds ≡ length xs = omega (arith, long) in
      let c : b + d.words + base ds i ≡ b + (d.words + base ds i) = omega arith in
      let r' = nv_target (n + 1) (b + d.words) xs ds i x l e (ap (λ k. assigns_nv p r k x) m ∙ h) in
      in_back (cond (assigns_nv p r n y) (targets.Nv b d.words ∷ []) []) (nv_targets p r (n + 1) (b + d.words) xs ds) (targets.Nv (b + (d.words + base ds i)) (nv_width ds i))
      (r'.0, r'.1 ∙ ap (λ a. Some (targets.Nv a (nv_width ds i))) c)

  param_target : (n : ℕ) (qs : List Param) (j : ℕ) (q : Param) → slice_get qs j ≡ Some q → assigns_param p r (n + j) ≡ true → In (param_targets p r n qs) (targets.Param (n + j) (words_of q.kind))
  param_target n [] j q e h = absurd (none-some q e)
  param_target n (c ∷ qs) zero q e h =
      let z : n ≡ n + 0 = omega arith in
      let own : assigns_param p r n ≡ true = ap (assigns_param p r) z ∙ h in
      let same : c ≡ q = same_Some c q e in
      (0, ap (λ t. slice_get (cond t (targets.Param n (words_of c.kind) ∷ []) [] ++ param_targets p r (n + 1) qs) 0) own ∙ (λ k. Some (targets.Param (z k) (words_of (same k).kind))))
  param_target n (c ∷ qs) (suc j) q e h =
      let m : n + 1 + j ≡ n + suc j = omega arith in
      let r' = param_target (n + 1) qs j q e (ap (assigns_param p r) m ∙ h) in
      in_back (cond (assigns_param p r n) (targets.Param n (words_of c.kind) ∷ []) []) (param_targets p r (n + 1) qs) (targets.Param (n + suc j) (words_of q.kind))
      (r'.0, r'.1 ∙ ap (λ a. Some (targets.Param a (words_of q.kind))) m)

  pub stored : (f : TFunction) → length p.nv ≡ length p.names.nvs → (i : ℕ) → (region_access f).nvs i ≡ true → covers (region_targets p r) (nv_width p.nv i) (InNv (base p.nv i))
  stored f long i h = by (slice_get p.names.nvs i) refl h
    where
      by : (o : Option Text) → slice_get p.names.nvs i ≡ o → reg_nv i o ≡ true → covers (region_targets p r) (nv_width p.nv i) (InNv (base p.nv i))
      by None e h = absurd (true≢false (sym h))
      by (Some x) e h =
          let z : 0 + i ≡ i = omega arith in
          let c = nv_target 0 0 p.names.nvs p.nv i x long e (ap (λ k. assigns_nv p r k x) z ∙ h) in (
            c.0,
            0 + base p.nv i,
            nv_width p.nv i,
            in_front (nv_targets p r 0 0 p.names.nvs p.nv) (param_targets p r 0 (params_at p r.function))
                (targets.Nv (0 + base p.nv i) (nv_width p.nv i)) c.0 c.1,
            omega arith,
            omega arith,
          )

  same_words : (k : ValueKind) → kind_words k ≡ words_of k
  same_words kinds.Int = refl
  same_words kinds.Bool = refl
  same_words (kinds.Array n) = refl

  reference_told : (c : Passing) (s : ℕ) (b : Bool) → ByAddress s ≡ param_slot c s → param_may c b ≡ true → b ≡ true
  reference_told passings.Value s b e h = absurd (cc)
  reference_told passings.Shared s b e h = absurd (true≢false (sym h))
  reference_told passings.Mutable s b e h = h

  pub covered : (f : TFunction) → length p.nv ≡ length p.names.nvs → params_at p r.function ≡ f.params → (x : Text) (w : ℕ) (s : Slot) → SlotIs p f x w s → (region_access f).names x ≡ true
      → covers (region_targets p r) w s
  covered f long are x w (InFrame k) is h = tt
  covered f long are x w NoSlot is h = tt
  covered f long are x w (InNv b) is h =
      let c = stored f long is.0 (name_nv p f (λ i. reg_nv i (slice_get p.names.nvs i)) (assigns_param p r) x h is.0 is.1) in
      (c.0, c.1, c.2, c.3, omega (arith, c.4, is.2), omega (arith, c.5, is.2, is.3))
  covered f long are x w (ByAddress k) is h =
      let may = name_param p f (λ i. reg_nv i (slice_get p.names.nvs i)) (assigns_param p r) x h k is.0 is.1 is.2 in
      let told = reference_told is.0.passing k (assigns_param p r k) is.4 may in
      let z : 0 + k ≡ k = omega arith in
      let c = param_target 0 f.params k is.0 is.2 (ap (assigns_param p r) z ∙ told) in
      let front = nv_targets p r 0 0 p.names.nvs p.nv in
      let t = targets.Param (0 + k) (words_of is.0.kind) in
      let d = in_back front (param_targets p r 0 (params_at p r.function)) t (c.0, ap (λ qs. slice_get (param_targets p r 0 qs) c.0) are ∙ c.1) in
      (d.0, words_of is.0.kind, d.1 ∙ ap (λ a. Some (targets.Param a (words_of is.0.kind))) z, omega (arith, is.3, same_words is.0.kind))

  module _ (f : TFunction) (a : Placed) (ruled : Ruled p f a) (old : Old p f a.at.variables)
      (inside : (test : TEffect → Bool) → test (effect_of p a) ≡ true → list_any test (region_effects p r) ≡ true) where
    -- a variable that the region assigns
    abbrev Assigned : VarId → Type 0
    Assigned (variables.Nv i) = (x : Text) → slice_get p.names.nvs i ≡ Some x → assigns_nv p r i x ≡ true
    Assigned (variables.Param j) = assigns_param p r j ≡ true
    Assigned (variables.Declared s) = Unit {0}
    Assigned variables.Returned = Unit {0}

    of_effect : (w : VarId) → region.assigns p w (effect_of p a) ≡ true → Assigned w
    of_effect (variables.Nv i) h = λ x e. inside (λ b. region.assigns p (variables.Nv i) b || region.reaches p b.call x) (or_left _ (region.reaches p (effect_of p a).call x) h)
    of_effect (variables.Param j) h = inside (region.assigns p (variables.Param j)) h
    of_effect (variables.Declared s) h = tt
    of_effect variables.Returned h = tt

    is_nv : (y : Text) (i : ℕ) → place p.names.nvs y ≡ Some i → variable_at p a y ≡ Some (variables.Nv i)
    is_nv y i e = ap (or_nonvolatile p y) (old.nvs y i e) ∙ ap (option_map variables.Nv) e

    is_param : (y : Text) (j : ℕ) → place (param_names f) y ≡ Some j → variable_at p a y ≡ Some (variables.Param j)
    is_param y j e = ap (or_nonvolatile p y) (old.own y j e)

    stored_at : (y : Text) (i : ℕ) → place p.names.nvs y ≡ Some i → Assigned (variables.Nv i) → reg_nv i (slice_get p.names.nvs i) ≡ true
    stored_at y i e h =
        let t = place_there 0 p.names.nvs y i e in
        let z : i ≡ t.0 = omega (arith, t.1) in
        let at : slice_get p.names.nvs i ≡ Some y = ap (slice_get p.names.nvs) z ∙ t.2 in
        ap (reg_nv i) at ∙ h y at

    -- ---- arguments

    args_told : (n v l : ℕ) (qs : List Param) (args : TArgs) → n ≡ first_param p.functions v + l → ((w : VarId) → region.lends p n (all_passed p a qs args) w ≡ true → Assigned w)
        → ArgsNamed p f nv par a ruled old v l qs args
    args_told n v l [] args is back = tt
    args_told n v l (q ∷ qs) no_args is back = tt
    args_told n v l (q ∷ qs) (more_args e rest) is back = (
      λ m told. one e m (ap (param_assigned p.functions) is ∙ told) (λ w h. back w (or_left _ (region.lends p (n + 1) (all_passed p a qs rest) w) h)),
      args_told (n + 1) v (l + 1) qs rest (omega (arith, is)) (λ w h. back w (or_right (is_variable_of (passed p a q e).lent w && param_assigned p.functions n) _ h)),
    )
      where
        one : (e : TArg) → is_mutable q.passing ≡ true → param_assigned p.functions n ≡ true
            → ((w : VarId) → is_variable_of (passed p a q e).lent w && param_assigned p.functions n ≡ true → Assigned w) → ArgNamed p f nv par a ruled old v l e
        one (value (variable y)) m told back =
            λ j c at s mm. back (variables.Param j) (and_from (is_variable_of (passed p a q (value (variable y))).lent (variables.Param j)) _
            (ap (λ o. is_variable_of o (variables.Param j)) (ap (λ b. cond b (variable_at p a y) None) m ∙ is_param y j at) ∙ same_itself (variables.Param j)) told)
        one (value g) m told back = tt
        one (shared y) m told back = tt
        one (mutable y) m told back =
            λ i at. stored_at y i at (back (variables.Nv i) (and_from (is_variable_of (passed p a q (mutable y)).lent (variables.Nv i)) _
            (ap (λ o. is_variable_of o (variables.Nv i)) (ap (λ b. cond b (variable_at p a y) None) m ∙ is_nv y i at) ∙ same_itself (variables.Nv i)) told))

    call_told : (c : TCall) → ((w : VarId) → region.call_assigns p (called_by p a c) w ≡ true → Assigned w)
        → ((i : ℕ) (x : Text) → slice_get p.names.nvs i ≡ Some x → region.reaches p (called_by p a c) x ≡ true → reg_nv i (slice_get p.names.nvs i) ≡ true) → CallTold p f nv par a ruled old c
    call_told (call g args) assigned reached = record {
      lent = λ v h placed there. args_told (first_param p.functions v) v 0 h.params args (omega arith)
          (λ w k. assigned w (ap (λ o. region.call_assigns p o w) (ap (option_map (called_at p a args)) placed) ∙ ap
          (λ qs. region.lends p (first_param p.functions v) (all_passed p a qs args) w) (at_place (λ (c : TFunction). c.params) p.functions v h [] there) ∙ k));
      stored = λ v placed i x at k. reached i x at (ap (λ o. region.reaches p o x) (ap (option_map (called_at p a args)) placed) ∙ k);
    }

    right_told : (c : TRight) → ((w : VarId) → region.call_assigns p (option_and_then (called_by p a) (right_call_of c)) w ≡ true → Assigned w)
        → ((i : ℕ) (x : Text) → slice_get p.names.nvs i ≡ Some x → region.reaches p (option_and_then (called_by p a) (right_call_of c)) x ≡ true → reg_nv i (slice_get p.names.nvs i) ≡ true)
        → RightTold p f nv par a ruled old c
    right_told (right_value e) assigned reached = tt
    right_told (right_sense x) assigned reached = tt
    right_told (right_call c) assigned reached = call_told c assigned reached

    -- what the statement of this form does is told
    record Does (k : TKind) : Type 0 where
      assigned : (w : VarId) → is_variable_of (target_of p a k) w || region.call_assigns p (option_and_then (called_by p a) (call_of k)) w ≡ true → Assigned w
      reached : (i : ℕ) (x : Text) → slice_get p.names.nvs i ≡ Some x → region.reaches p (option_and_then (called_by p a) (call_of k)) x ≡ true → reg_nv i (slice_get p.names.nvs i) ≡ true

    by_call : (k : TKind) → Does k → (w : VarId) → region.call_assigns p (option_and_then (called_by p a) (call_of k)) w ≡ true → Assigned w
    by_call k d w h = d.assigned w (or_right (is_variable_of (target_of p a k) w) _ h)

    target_told : (k : TKind) (y : Text) → Does k → target_of p a k ≡ variable_at p a y → Stored p f nv par a ruled old y
    target_told k y d t = λ i e. stored_at y i e (d.assigned (variables.Nv i) (or_left _ _ (ap (λ o. is_variable_of o (variables.Nv i)) (t ∙ is_nv y i e) ∙ same_itself (variables.Nv i))))

    named_told : (k : TKind) (y : Text) → Does k → target_of p a k ≡ variable_at p a y → Named p f nv par a ruled old y
    named_told k y d t = record {
      stored = target_told k y d t;
      lent = λ j q e s m. d.assigned (variables.Param j) (or_left _ _ (ap (λ o. is_variable_of o (variables.Param j)) (t ∙ is_param y j e) ∙ same_itself (variables.Param j)));
    }

    kind_told : (k : TKind) → Does k → KindTold p f nv par a ruled old k
    kind_told (let_to m y t c) d = right_told c (by_call (let_to m y t c) d) d.reached
    kind_told (let_array m y t z n) d = tt
    kind_told (assign y c) d = (right_told c (by_call (assign y c) d) d.reached, target_told (assign y c) y d refl)
    kind_told (assign_index y e c) d = (right_told c (by_call (assign_index y e c) d) d.reached, named_told (assign_index y e c) y d refl)
    kind_told (assign_deref y c) d = (right_told c (by_call (assign_deref y c) d) d.reached, (named_told (assign_deref y c) y d refl).lent)
    kind_told (if_else e b c) d = tt
    kind_told (for_in x c e b) d = tt
    kind_told (while_do e l b) d = tt
    kind_told (call_only c) d = call_told c (by_call (call_only c) d) d.reached
    kind_told (sense_only x) d = tt
    kind_told (emit q e) d = tt
    kind_told (fresh x) d = tt
    kind_told (consistent x l) d = tt
    kind_told (return e) d = tt

    pub statement_may : (groups : List Group) (checked : IsChecked p groups) → KindMay (region_access f) (call_within p.functions (writes p) (region_access f)) a.kind
    statement_may groups checked =
        kind_ok p f (λ i. reg_nv i (slice_get p.names.nvs i)) (assigns_param p r) a ruled old groups checked a.kind ruled.rules (kind_told a.kind (record {
          assigned = λ w h. of_effect w h;
          reached = λ i x e h. ap (reg_nv i) e ∙ inside (λ b. region.assigns p (variables.Nv i) b || region.reaches p b.call x) (or_right (region.assigns p (variables.Nv i) (effect_of p a)) _ h);
        }))

  -- each statement of the region, or in one of it, keeps to what the region may write
  pub region_each : (groups : List Group) (checked : IsChecked p groups) (f : TFunction) → slice_get p.functions r.function ≡ Some f
      → Each (λ a. list_any (is_in_region p r) (a.id ∷ a.at.around) ≡ true → KindMay (region_access f) (call_within p.functions (writes p) (region_access f)) a.kind)
      (block_placed (at_start f) f.body)
  region_each groups checked f stands =
      let xs = block_placed (at_start f) f.body in
      let fine = function_fine p checked.unbroken checked.form.declared r.function f stands in
      let free = (head_unbroken p r.function f fine).free in
      let ruled = body_ruled p f r.function fine.body in
      let olds = block_old p f (at_start f) f.body (start_old p f free) ruled in
      let same : effects_at p r.function ≡ map (effect_of p) xs = at_place (function_effects p) p.functions r.function f [] stands in
      each_map _ _
      (λ a h k. statement_may f a h.0 h.1.0 (λ test t. sym (ap (list_any test) (standing_is p r groups checked)) ∙ ap (λ es. list_any test (filter (stands_in p r) es)) same ∙ h.1.1 k test t)
      groups checked)
      xs (each_both _ _ xs ruled (each_both _ _ xs olds (each_kept p (stands_in p r) xs)))
