-- What each function may write, and what each region may: the tables of the code's claims, from the rules and from what is
-- told of assignments.
use Rattle.std.proofs.Common.{◌≡◌, ◌+◌, ℕ, suc, Bool, true, false, true≢false, List, [], ◌∷◌, map, get_or, cond, Option, Some, None, refl, sym, ap, ◌∙◌, subst, arith}
use Rattle.std.proofs.lemmas.Bool.{and_from, and_parts, or_left, or_right, not-false}
use Rattle.std.specs.Prelude.{is_some, slice_get, option_map, option_and_then}
use Rattle.std.specs.List.{list_any, list_all}
use Rattle.std.specs.Str.{bytes_eq}
use Rattle.std.proofs.lemmas.Option.{none-some, same_Some}
use Rattle.std.proofs.lemmas.Slice.Eq.{bytes_eq-Decides}
use Rattle.std.proofs.lemmas.List.Folds.{list_any-append}
use Rattle.oc_tree.specs.Names.{Text}
use Rattle.oc_tree.specs.Tree.{variable, TArg, value, shared, mutable, TCall, call, TArgs, no_args, more_args, TRight, right_value, right_sense, right_call, TKind, let_to, let_array}
use Rattle.oc_tree.specs.Tree.{assign, assign_index, assign_deref, if_else, for_in, while_do, call_only, sense_only, emit, fresh, consistent, return, TFunction, TProgram}
use Rattle.oc_tree.specs.declared.tree.Param.{Param}
use Rattle.oc_tree.specs.declared.tree.Passing.{Passing}
use Rattle.oc_tree.specs.declared.tree.Passing.TheVariants as passings
use Rattle.oc_tree.specs.declared.scope.Origin.{Origin}
use Rattle.oc_tree.specs.declared.scope.Origin.TheVariants as origins
use Rattle.oc_tree.specs.Reach.{linked, is_link}
use Rattle.oc_tree.specs.Calls.{place, function_place, callee, args_of_call, call_calls, expr_calls, right_calls, own_calls}
use Rattle.oc_tree.specs.Assigned.{is_mutable, mutable_params, param_names, first_param, takes_mutable, mutable_param, own_param, link_of, arg_links, args_links, to_links, pass_call}
use Rattle.oc_tree.specs.Assigned.{written_through, param_assigned, assigned_number, arg_assigns, args_assign, callee_assigns, call_assigns, is_target, own_assigns, reaches_assign}
use Rattle.oc_tree.specs.Places.{Placed, at_start, block_placed}
use Rattle.oc_tree.specs.Scope.{variable_of, function_named, takes_param}
use Rattle.oc_tree.specs.Checked.{Group, IsChecked}
use Rattle.oc_tree.specs.Rules.{origin_is, is_mutable_param, is_writable, is_writable_array, arg_meets, args_meet, args_list, params_of, arg_lends}
use Rattle.oc_meaning.specs.Run as meaning
use Rattle.oc_code.specs.Scope.{param_slot}
use Rattle.oc_code.proofs.Needs.{FoundAt, found_at_place}
use Rattle.oc_code.proofs.Places.{is_reference}
use Rattle.oc_code.proofs.Lawful.{Access, right_lawful}
use Rattle.oc_code.proofs.Closed.{lent_name, name_may, params_within, call_within, tells_nvs}
use Rattle.oc_desugar.proofs.FineCalls.{CallFine, Each as EachCall, each_back as calls_back}
use Rattle.oc_desugar.proofs.Unbroken.{Unbroken}
use Rattle.oc_checked.proofs.CallLinks.{last_call}
use Rattle.oc_checked.proofs.Heads.{head_unbroken}
use Rattle.oc_checked.proofs.BodiesPass.{first_fails, second_fails, function_fine}
use Rattle.oc_writes.proofs.Standing.{Each, each_map, each_both, each_for, each_all}
use Rattle.oc_reach.proofs.Lists.{at_place}
use Rattle.oc_writes.proofs.KeptReach.{none_assigns, none_called, none_writes, none_passes}
use Rattle.oc_writes.proofs.KeptRules.{Ruled, body_ruled, param_passes, own_passes}
use Rattle.oc_writes.proofs.KeptKinds.{hidden, none_hidden, block_each}
use Rattle.oc_writes.proofs.KeptFunctions.{place_there, stands_among, array_param, value_mutable, calls_for, linked_is, no_param, not_hidden, shared_never, takes_at}
use Rattle.oc_budget.proofs.BoundAccess.{param_may, access, may_name, name_nv, name_param, param_first, Old, block_old, start_old}
use Rattle.oc_budget.proofs.BoundWithin.{KindMay}

-- ---- tests

decide : {A : Type 0} (b : Bool) → (b ≡ true → A) → (b ≡ false → A) → A
decide true f g = f refl
decide false f g = g refl

may_mutable : (s : Passing) (b : Bool) → is_mutable s ≡ true → b ≡ true → param_may s b ≡ true
may_mutable passings.Value b m h = absurd (true≢false (sym m))
may_mutable passings.Shared b m h = absurd (true≢false (sym m))
may_mutable passings.Mutable b m h = h

-- a reference that may be written is one by `&mut` that is told
told_mutable : (s : Passing) (b : Bool) → is_reference (param_slot s 0) ≡ true → param_may s b ≡ true → (is_mutable s ≡ true) × (b ≡ true)
told_mutable passings.Value b r h = absurd (true≢false (sym r))
told_mutable passings.Shared b r h = absurd (true≢false (sym h))
told_mutable passings.Mutable b r h = (refl, h)

module _ (p : TProgram) where
  -- ---- functions

  abbrev pub fun_nv : ℕ → Option Text → Bool
  fun_nv u None = false
  fun_nv u (Some x) = reaches_assign p.functions x u

  abbrev pub fun_par : ℕ → ℕ → Bool
  fun_par u j = param_assigned p.functions (first_param p.functions u + j)

  abbrev pub fun_access : ℕ → TFunction → Access
  fun_access u f = access p f (λ i. fun_nv u (slice_get p.names.nvs i)) (fun_par u)

  abbrev pub no_access : Access
  no_access = record { names = λ x. false; nvs = λ i. false }

  abbrev pub writes_of : ℕ → Option TFunction → Access
  writes_of u None = no_access
  writes_of u (Some f) = fun_access u f

  abbrev pub writes_at : Option ℕ → Access
  writes_at None = no_access
  writes_at (Some u) = writes_of u (slice_get p.functions u)

  -- what a function may write, by its name
  abbrev pub writes : Text → Access
  writes x = writes_at (function_place p.functions x)

  nv_told : (f : TFunction) (nv par : ℕ → Bool) (i : ℕ) (x : Text) → slice_get p.names.nvs i ≡ Some x → (access p f nv par).names x ≡ true
      → (k : ℕ) × (slice_get p.names.nvs k ≡ Some x) × (nv k ≡ true)
  nv_told f nv par i x e w = by (place p.names.nvs x) refl (stands_among 0 p.names.nvs i x e)
    where
      by : (o : Option ℕ) → place p.names.nvs x ≡ o → is_some o ≡ true → (k : ℕ) × (slice_get p.names.nvs k ≡ Some x) × (nv k ≡ true)
      by None is s = absurd (true≢false (sym s))
      by (Some k) is s = let t = place_there 0 p.names.nvs x k is in let z : k ≡ t.0 = omega (arith, t.1) in (k, ap (slice_get p.names.nvs) z ∙ t.2, name_nv p f nv par x w k is)

  pub tells : (f : Text) → tells_nvs p.names.nvs (writes f)
  tells f i x e w = by_place (function_place p.functions f) w
    where
      by_function : (u : ℕ) (o : Option TFunction) → (writes_of u o).names x ≡ true → (writes_of u o).nvs i ≡ true
      by_function u None w = absurd (true≢false (sym w))
      by_function u (Some g) w =
          let t = nv_told g (λ i. fun_nv u (slice_get p.names.nvs i)) (fun_par u) i x e w in
          ap (fun_nv u) e ∙ sym (ap (fun_nv u) t.1) ∙ t.2

      by_place : (o : Option ℕ) → (writes_at o).names x ≡ true → (writes_at o).nvs i ≡ true
      by_place None w = absurd (true≢false (sym w))
      by_place (Some u) w = by_function u (slice_get p.functions u) w

  -- ---- calls

  -- what is lent for parameters by `&mut` that the callee assigns through, the caller may write
  abbrev pub Lent : Access → (v l : ℕ) → List Param → TArgs → Type 0
  Lent a v l [] args = Unit {0}
  Lent a v l (q ∷ qs) no_args = Unit {0}
  Lent a v l (q ∷ qs) (more_args e rest) = (is_mutable q.passing ≡ true → fun_par v l ≡ true → name_may a (lent_name e)) × Lent a v (l + 1) qs rest

  module _ (groups : List Group) (checked : IsChecked p groups) (a : Access) where
    params_lent : (v : ℕ) (g : TFunction) → takes_param p [] g.params ≡ false → (l : ℕ) (qs : List Param) (args : TArgs) → ((j : ℕ) → slice_get g.params (l + j) ≡ slice_get qs j)
        → Lent a v l qs args → params_within a (fun_access v g) qs args
    params_lent v g free l [] args there h = tt
    params_lent v g free l (q ∷ qs) no_args there h = tt
    params_lent v g free l (q ∷ qs) (more_args e rest) there h =
        let z : l + 0 ≡ l = omega arith in
        let y : 0 + l ≡ l = omega arith in
        let at : slice_get g.params l ≡ Some q = ap (slice_get g.params) (sym z) ∙ there 0 in
        let found : place (param_names g) q.name ≡ Some l = param_first p [] 0 g.params l q free at ∙ ap Some y in (
          λ r w. (let t = told_mutable q.passing (fun_par v l) r (name_param p g (λ i. fun_nv v (slice_get p.names.nvs i)) (fun_par v) q.name w l q found at) in h.0 t.0 t.1),
          params_lent v g free (l + 1) qs rest (λ j. let m : l + 1 + j ≡ l + suc j = omega arith in ap (slice_get g.params) m ∙ there (suc j)) h.1,
        )

    pub call_may : (f : Text) (args : TArgs) → ((v : ℕ) (g : TFunction) → function_place p.functions f ≡ Some v → slice_get p.functions v ≡ Some g → Lent a v 0 g.params args)
        → ((v : ℕ) → function_place p.functions f ≡ Some v → (i : ℕ) (x : Text) → slice_get p.names.nvs i ≡ Some x → reaches_assign p.functions x v ≡ true → a.nvs i ≡ true) → call_within
        p.functions writes a (call f args)
    call_may f args lent stored = (
      λ g found. callee_lent g found (meaning.function_named p.functions f) refl (found_at_place 0 p.functions f),
      λ i w. by_place i
          (function_place p.functions f) refl w,
    )
      where
        callee_lent : (g : TFunction) → meaning.function_named p.functions f ≡ Some g → (o : Option TFunction) → meaning.function_named p.functions f ≡ o → FoundAt 0 p.functions f o
            → params_within a (writes f) g.params args
        callee_lent g found None is h = absurd (none-some g (sym is ∙ found))
        callee_lent g found (Some k) is h =
            let z : 0 + h.0 ≡ h.0 = omega arith in
            let placed : function_place p.functions f ≡ Some h.0 = h.1 ∙ ap Some z in
            let same : k ≡ g = same_Some k g (sym is ∙ found) in
            let stands : slice_get p.functions h.0 ≡ Some g = h.2 ∙ ap Some same in
            let free = (head_unbroken p h.0 g (function_fine p checked.unbroken checked.form.declared h.0 g stands)).free in
            let w : fun_access h.0 g ≡ writes f = sym (ap writes_at placed ∙ ap (writes_of h.0) stands) in
            subst (λ b. params_within a b g.params args) w (params_lent h.0 g free 0 g.params args (λ j. let m : 0 + j ≡ j = omega arith in ap (slice_get g.params) m) (lent h.0 g placed stands))

        named : (i v : ℕ) → function_place p.functions f ≡ Some v → (x : Option Text) → slice_get p.names.nvs i ≡ x → fun_nv v x ≡ true → a.nvs i ≡ true
        named i v placed None e w = absurd (true≢false (sym w))
        named i v placed (Some x) e w = stored v placed i x e w

        in_it : (i v : ℕ) → function_place p.functions f ≡ Some v → (o : Option TFunction) → (writes_of v o).nvs i ≡ true → a.nvs i ≡ true
        in_it i v placed None w = absurd (true≢false (sym w))
        in_it i v placed (Some g) w = named i v placed (slice_get p.names.nvs i) refl w

        by_place : (i : ℕ) (o : Option ℕ) → function_place p.functions f ≡ o → (writes_at o).nvs i ≡ true → a.nvs i ≡ true
        by_place i None placed w = absurd (true≢false (sym w))
        by_place i (Some v) placed w = in_it i v placed (slice_get p.functions v) w

-- ---- a statement of a function that may write by its tables

module _ (p : TProgram) (f : TFunction) (nv par : ℕ → Bool) (a : Placed) (ruled : Ruled p f a) (old : Old p f a.at.variables) where
  -- a parameter that is written, or is passed on
  through : (test : Origin → Bool) → ((q : Passing) → test (origins.Param q) ≡ true → is_mutable q ≡ true) → (y : Text) → origin_is test (variable_of p ruled.here.scope y) ≡ true
      → (j : ℕ) (q : Param) → place (param_names f) y ≡ Some j → slice_get f.params j ≡ Some q → (is_mutable q.passing ≡ true → par j ≡ true) → param_may q.passing (par j) ≡ true
  through test only y origin j q e s told =
      let found = param_passes p f test ruled.here.scope a.at.variables ruled.same y origin j (old.own y j e) in
      let same : found.param ≡ q = same_Some found.param q (sym found.stands ∙ s) in
      let m : is_mutable q.passing ≡ true = ap (λ (c : Param). is_mutable c.passing) (sym same) ∙ only found.param.passing found.passes in
      may_mutable q.passing (par j) m (told m)

  -- a variable of the function's own, or a nonvolatile one
  own_may : (y : Text) → origin_is is_writable (variable_of p ruled.here.scope y) ≡ true → ((i : ℕ) → place p.names.nvs y ≡ Some i → nv i ≡ true) → (access p f nv par).names y ≡ true
  own_may y origin stored = may_name p f nv par y stored (λ j q e s. absurd (true≢false (sym
      (param_passes p f is_writable ruled.here.scope a.at.variables ruled.same y origin j (old.own y j e)).passes)))

  -- what is told of a name
  pub record Named (y : Text) : Type 0 where
    pub stored : (i : ℕ) → place p.names.nvs y ≡ Some i → nv i ≡ true
    pub lent : (j : ℕ) (q : Param) → place (param_names f) y ≡ Some j → slice_get f.params j ≡ Some q → is_mutable q.passing ≡ true → par j ≡ true

  named_may : (test : Origin → Bool) → ((q : Passing) → test (origins.Param q) ≡ true → is_mutable q ≡ true) → (y : Text) → origin_is test (variable_of p ruled.here.scope y) ≡ true → Named y
      → (access p f nv par).names y ≡ true
  named_may test only y origin n = may_name p f nv par y n.stored (λ j q e s. through test only y origin j q e s (n.lent j q e s))

  -- of a reference that is passed on
  passed_may : (y : Text) → origin_is is_mutable_param (variable_of p ruled.here.scope y) ≡ true
      → ((j : ℕ) (q : Param) → place (param_names f) y ≡ Some j → slice_get f.params j ≡ Some q → is_mutable q.passing ≡ true → par j ≡ true) → (access p f nv par).names y ≡ true
  passed_may y origin lent =
      may_name p f nv par y
      (λ i e. absurd (true≢false (sym (own_passes p f is_mutable_param ruled.here.scope a.at.variables ruled.same y origin (old.nvs y i e)))))
      (λ j q e s. through is_mutable_param (λ q h. h) y origin j q e s (lent j q e s))

  -- ---- arguments

  -- what is told of an argument for the parameter l of the function v, by `&mut`
  abbrev pub ArgNamed : (v l : ℕ) → TArg → Type 0
  ArgNamed v l (value (variable y)) = (j : ℕ) (q : Param) → place (param_names f) y ≡ Some j → slice_get f.params j ≡ Some q → is_mutable q.passing ≡ true → par j ≡ true
  ArgNamed v l (value e) = Unit {0}
  ArgNamed v l (shared y) = Unit {0}
  ArgNamed v l (mutable y) = (i : ℕ) → place p.names.nvs y ≡ Some i → nv i ≡ true

  abbrev pub ArgsNamed : (v l : ℕ) → List Param → TArgs → Type 0
  ArgsNamed v l [] args = Unit {0}
  ArgsNamed v l (q ∷ qs) no_args = Unit {0}
  ArgsNamed v l (q ∷ qs) (more_args e rest) = (is_mutable q.passing ≡ true → fun_par p v l ≡ true → ArgNamed v l e) × ArgsNamed v (l + 1) qs rest

  arg_may : (v l : ℕ) (q : Param) (e : TArg) → is_mutable q.passing ≡ true → arg_meets p ruled.here.scope q e ≡ true → arg_lends p ruled.here.scope e ≡ true → ArgNamed v l e
      → name_may (access p f nv par) (lent_name e)
  arg_may v l q (value (variable y)) m meets lends n = passed_may y (value_mutable p ruled.here.scope q.passing q.kind y m meets) n
  arg_may v l q (value e) m meets lends n = tt
  arg_may v l q (shared y) m meets lends n = absurd (shared_never p ruled.here.scope q y m meets)
  arg_may v l q (mutable y) m meets lends n = own_may y lends n

  args_may : (v l : ℕ) (qs : List Param) (args : TArgs) → args_meet p ruled.here.scope qs args ≡ true → list_all (arg_lends p ruled.here.scope) (args_list args) ≡ true
      → ArgsNamed v l qs args → Lent p (access p f nv par) v l qs args
  args_may v l [] args meets lends n = tt
  args_may v l (q ∷ qs) no_args meets lends n = tt
  args_may v l (q ∷ qs) (more_args e rest) meets lends n = (
    λ m told. arg_may v l q e m (and_parts (arg_meets p ruled.here.scope q e) (args_meet p ruled.here.scope qs rest) meets).0 (and_parts (arg_lends p ruled.here.scope e) _ lends).0 (n.0 m told),
    args_may v (l + 1) qs rest (and_parts (arg_meets p ruled.here.scope q e) (args_meet p ruled.here.scope qs rest) meets).1 (and_parts (arg_lends p ruled.here.scope e) _ lends).1 n.1,
  )

  -- what is told of a call
  pub record CallTold (c : TCall) : Type 0 where
    pub lent : (v : ℕ) (g : TFunction) → function_place p.functions (callee c) ≡ Some v → slice_get p.functions v ≡ Some g → ArgsNamed v 0 g.params (args_of_call c)
    pub stored : (v : ℕ) → function_place p.functions (callee c) ≡ Some v → (i : ℕ) (x : Text) → slice_get p.names.nvs i ≡ Some x → reaches_assign p.functions x v ≡ true → nv i ≡ true

  call_ok : (groups : List Group) (checked : IsChecked p groups) (c : TCall) → CallFine p ruled.here c → CallTold c → call_within p.functions (writes p) (access p f nv par) c
  call_ok groups checked (call g args) fine told =
      call_may p groups checked (access p f nv par) g args
      (λ v h placed stands. args_may v 0 h.params args (meets v h placed stands) fine.lends (told.lent v h placed stands))
      told.stored
    where
      meets : (v : ℕ) (h : TFunction) → function_place p.functions g ≡ Some v → slice_get p.functions v ≡ Some h → args_meet p ruled.here.scope h.params args ≡ true
      meets v h placed stands =
          let found : function_named p g ≡ Some h = ap (option_and_then (λ k. slice_get p.functions k)) placed ∙ stands in
          subst (λ o. args_meet p ruled.here.scope (params_of o) args ≡ true) found (and_parts _ (args_meet p ruled.here.scope (params_of (function_named p g)) args) fine.meets).1

  abbrev pub RightTold : TRight → Type 0
  RightTold (right_value e) = Unit {0}
  RightTold (right_sense x) = Unit {0}
  RightTold (right_call c) = CallTold c

  abbrev pub Stored : Text → Type 0
  Stored y = (i : ℕ) → place p.names.nvs y ≡ Some i → nv i ≡ true

  abbrev pub Reference : Text → Type 0
  Reference y = (j : ℕ) (q : Param) → place (param_names f) y ≡ Some j → slice_get f.params j ≡ Some q → is_mutable q.passing ≡ true → par j ≡ true

  -- what is told of a statement itself
  abbrev pub KindTold : TKind → Type 0
  KindTold (let_to m y t r) = RightTold r
  KindTold (assign y r) = RightTold r × Stored y
  KindTold (assign_index y e r) = RightTold r × Named y
  KindTold (assign_deref y r) = RightTold r × Reference y
  KindTold (call_only c) = CallTold c
  KindTold k = Unit {0}

  module _ (groups : List Group) (checked : IsChecked p groups) where
    right_ok : (r : TRight) → EachCall (CallFine p ruled.here) (right_calls r) → RightTold r → right_lawful (call_within p.functions (writes p) (access p f nv par)) r
    right_ok (right_value e) fine told = tt
    right_ok (right_sense x) fine told = tt
    right_ok (right_call c) fine told = call_ok groups checked c (last_call (CallFine p ruled.here) c fine) told

    pub kind_ok : (k : TKind) → Unbroken p ruled.here k → KindTold k → KindMay (access p f nv par) (call_within p.functions (writes p) (access p f nv par)) k
    kind_ok (let_to m y t r) u told = right_ok r u.calls told
    kind_ok (let_array m y t z n) u told = tt
    kind_ok (assign y r) u told = (right_ok r u.calls told.0, own_may y (not-false _ u.target) told.1)
    kind_ok (assign_index y e r) u told =
        (right_ok r (calls_back (CallFine p ruled.here) (expr_calls e) (right_calls r) u.calls) told.0, named_may is_writable_array array_param y (not-false _ u.array) told.1)
    kind_ok (assign_deref y r) u told = (right_ok r u.calls told.0, passed_may y (not-false _ u.pointee) told.1)
    kind_ok (if_else e b c) u told = tt
    kind_ok (for_in x d e b) u told = tt
    kind_ok (while_do e l b) u told = tt
    kind_ok (call_only c) u told = call_ok groups checked c (last_call (CallFine p ruled.here) c u.calls) told
    kind_ok (sense_only x) u told = tt
    kind_ok (emit q e) u told = tt
    kind_ok (fresh x) u told = tt
    kind_ok (consistent x l) u told = tt
    kind_ok (return e) u told = tt

-- ---- functions

-- where none of the calls passes, each fails
none_each : (test : TCall → Bool) (cs : List TCall) → list_any test cs ≡ false → EachCall (λ c. test c ≡ false) cs
none_each test [] h = tt
none_each test (c ∷ cs) h = (first_fails (test c) (list_any test cs) h, none_each test cs (second_fails (test c) (list_any test cs) h))

calls_both : (P Q : TCall → Type 0) (cs : List TCall) → EachCall P cs → EachCall Q cs → EachCall (λ c. P c × Q c) cs
calls_both P Q [] h g = tt
calls_both P Q (c ∷ cs) h g = ((h.0, g.0), calls_both P Q cs h.1 g.1)

module _ (p : TProgram) (u : ℕ) (f : TFunction) (stands : slice_get p.functions u ≡ Some f) where
  abbrev first : ℕ
  first = first_param p.functions u

  -- a nonvolatile variable that it doesn't assign
  abbrev Spare : Type 0
  Spare = (i : ℕ) × (x : Text) × (slice_get p.names.nvs i ≡ Some x) × (reaches_assign p.functions x u ≡ false)

  -- a parameter that it doesn't assign through
  abbrev Kept : Type 0
  Kept = (j : ℕ) × (takes_mutable p.functions u j ≡ true) × (param_assigned p.functions (first + j) ≡ false)

  abbrev NoneCalled : Spare → TCall → Type 0
  NoneCalled j c = (v : ℕ) → function_place p.functions (callee c) ≡ Some v → reaches_assign p.functions j.1 v ≡ false

  abbrev NonePassed : Kept → TCall → Type 0
  NonePassed m c = (b : ℕ) → linked (pass_call p.functions first (param_names f) c) (first + m.0) b ≡ true → param_assigned p.functions b ≡ false

  record Facts (k : TKind) : Type 0 where
    assigns : (j : Spare) → own_assigns p.functions j.1 k ≡ false
    called : (j : Spare) → EachCall (NoneCalled j) (own_calls k)
    written : (m : Kept) → own_param first (param_names f) (written_through k) ≡ Some (first + m.0) → ⊥
    passed : (m : Kept) → EachCall (NonePassed m) (own_calls k)

  abbrev nv : ℕ → Bool
  nv i = fun_nv p u (slice_get p.names.nvs i)

  abbrev par : ℕ → Bool
  par = fun_par p u

  stored_if : (y : Text) (i : ℕ) → place p.names.nvs y ≡ Some i → ((j : Spare) → bytes_eq j.1 y ≡ true → ⊥) → fun_nv p u (slice_get p.names.nvs i) ≡ true
  stored_if y i e never =
      let t = place_there 0 p.names.nvs y i e in
      let z : i ≡ t.0 = omega (arith, t.1) in
      let at : slice_get p.names.nvs i ≡ Some y = ap (slice_get p.names.nvs) z ∙ t.2 in
      decide (reaches_assign p.functions y u) (λ r. ap (fun_nv p u) at ∙ r) (λ r. absurd (never (i, y, at, r) ((bytes_eq-Decides y y).1 refl)))

  par_if : (j : ℕ) (q : Param) → slice_get f.params j ≡ Some q → is_mutable q.passing ≡ true → ((m : Kept) → m.0 ≡ j → ⊥) → fun_par p u j ≡ true
  par_if j q s m never =
      let takes : takes_mutable p.functions u j ≡ true = ap (λ l. get_or l j false) (at_place mutable_params p.functions u f [] stands) ∙ at_place (λ r. is_mutable r.passing) f.params j q
      false s ∙ m in
      decide (fun_par p u j) (λ r. r) (λ r. absurd (never (j, takes, r) refl))

  module _ (a : Placed) (ruled : Ruled p f a) (old : Old p f a.at.variables) where
    -- arguments
    args_told : (v l : ℕ) (qs : List Param) (args : TArgs) → ((j : Spare) → args_assign p.functions j.1 v l args ≡ false)
        → ((m : Kept) (b : ℕ) → linked (args_links p.functions first (param_names f) v l args) (first + m.0) b ≡ true → param_assigned p.functions b ≡ false) →
        ((k : ℕ) → takes_mutable p.functions v (l + k) ≡ get_or (map (λ q. is_mutable q.passing) qs) k false) → ArgsNamed p f nv par a ruled old v l qs args
    args_told v l [] args assigns links takes = tt
    args_told v l (q ∷ qs) no_args assigns links takes = tt
    args_told v l (q ∷ qs) (more_args e rest) assigns links takes = (
      λ m told. one e m told (λ j. first_fails (arg_assigns p.functions j.1 v l e) _ (assigns j))
          (λ n b h. links n b (list_any-append (is_link (first + n.0) b) (arg_links p.functions first (param_names f) v l e) (args_links p.functions first (param_names f) v (l + 1) rest) ∙
          or_left _ _ h)),
      args_told v (l + 1) qs rest (λ j. second_fails (arg_assigns p.functions j.1 v l e) _ (assigns j))
          (λ n b h. links n b (list_any-append (is_link (first + n.0) b) (arg_links p.functions first (param_names f) v l e) (args_links p.functions first (param_names f) v (l + 1) rest) ∙ or_right
          (linked (arg_links p.functions first (param_names f) v l e) (first + n.0) b) _ h))
          (λ k. let z : l + 1 + k ≡ l + suc k = omega arith in ap (takes_mutable p.functions v) z ∙ takes (suc k)),
    )
      where
        to : is_mutable q.passing ≡ true → mutable_param p.functions v l ≡ Some (first_param p.functions v + l)
        to m = let z : l + 0 ≡ l = omega arith in ap (λ b. cond b (Some (first_param p.functions v + l)) None) (sym (ap (takes_mutable p.functions v) z) ∙ takes 0 ∙ m)

        one : (e : TArg) → is_mutable q.passing ≡ true → fun_par p v l ≡ true → ((j : Spare) → arg_assigns p.functions j.1 v l e ≡ false)
            → ((n : Kept) (b : ℕ) → linked (arg_links p.functions first (param_names f) v l e) (first + n.0) b ≡ true → param_assigned p.functions b ≡ false) → ArgNamed p f nv par a ruled old v l e
        one (value (variable y)) m told none links =
            λ j r at s mm. par_if j r s mm (λ n same. (
            let own : own_param first (param_names f) (Some y) ≡ Some (first + n.0) = ap (option_map (λ k. first + k)) (at ∙ ap Some (sym same)) in
            true≢false (sym told ∙ links n (first_param p.functions v + l) ((λ k. linked (link_of (own k) (to m k)) (first + n.0) (first_param p.functions v + l)) ∙ linked_is (first + n.0)
            (first_param p.functions v + l)))))
        one (value g) m told none links = tt
        one (shared y) m told none links = tt
        one (mutable y) m told none links =
            λ i at. stored_if y i at (λ j b. true≢false (sym (and_from (bytes_eq j.1 y) _ b (ap (assigned_number p.functions) (to m) ∙ told)) ∙ none j))

    call_told : (c : TCall) → ((j : Spare) → call_assigns p.functions j.1 c ≡ false) → ((j : Spare) → NoneCalled j c) → ((m : Kept) → NonePassed m c) → CallTold p f nv par a ruled old c
    call_told (call g args) assigns called passed = record {
      lent = λ v h placed there. args_told v 0 h.params args (λ j. sym (ap (callee_assigns p.functions j.1 args) placed) ∙ assigns j)
          (λ m b k. passed m b (ap (λ o. linked (to_links p.functions first (param_names f) args o) (first + m.0) b) placed ∙ k))
          (λ k. let z : 0 + k ≡ k = omega arith in ap (takes_mutable p.functions v) z ∙ takes_at p.functions v k ∙ ap (λ o. get_or (map (λ q. is_mutable q.passing) (params_of o)) k false) there);
      stored = λ v placed i x at r. decide (reaches_assign p.functions x u) (λ t. ap (fun_nv p u) at ∙ t) (λ n. absurd (true≢false (sym r ∙ called (i, x, at, n) v placed)));
    }

    abbrev AllOf : TCall → Type 0
    AllOf c = ((j : Spare) → call_assigns p.functions j.1 c ≡ false) × (((j : Spare) → NoneCalled j c) × ((m : Kept) → NonePassed m c))

    all_of : (k : TKind) → Facts k → EachCall AllOf (own_calls k)
    all_of k facts =
        calls_both (λ c. (j : Spare) → call_assigns p.functions j.1 c ≡ false) (λ c. ((j : Spare) → NoneCalled j c) × ((m : Kept) → NonePassed m c)) (own_calls k)
        (calls_for Spare (λ j c. call_assigns p.functions j.1 c ≡ false) (own_calls k)
        (λ j. none_each (call_assigns p.functions j.1) (own_calls k) (second_fails (is_target j.1 k) _ (facts.assigns j))))
        (calls_both (λ c. (j : Spare) → NoneCalled j c) (λ c. (m : Kept) → NonePassed m c) (own_calls k) (calls_for Spare NoneCalled (own_calls k) facts.called)
        (calls_for Kept NonePassed (own_calls k) facts.passed))

    whole_told : (c : TCall) → EachCall AllOf (call_calls c) → CallTold p f nv par a ruled old c
    whole_told c h = let l = last_call AllOf c h in call_told c l.0 l.1.0 l.1.1

    right_told : (r : TRight) → EachCall AllOf (right_calls r) → RightTold p f nv par a ruled old r
    right_told (right_value e) h = tt
    right_told (right_sense x) h = tt
    right_told (right_call c) h = whole_told c h

    target_told : (k : TKind) (y : Text) → Facts k → ((x : Text) → bytes_eq x y ≡ true → is_target x k ≡ true) → Stored p f nv par a ruled old y
    target_told k y facts is = λ i e. stored_if y i e (λ j b. true≢false (sym (or_left (is_target j.1 k) _ (is j.1 b)) ∙ facts.assigns j))

    reference_told : (k : TKind) (y : Text) → Facts k → written_through k ≡ Some y → Reference p f nv par a ruled old y
    reference_told k y facts w = λ j q e s m. par_if j q s m (λ n same.
        facts.written n (ap (own_param first (param_names f)) w ∙ ap (option_map (λ i. first + i)) (e ∙ ap Some (sym same))))

    named_told : (k : TKind) (y : Text) → Facts k → ((x : Text) → bytes_eq x y ≡ true → is_target x k ≡ true) → written_through k ≡ Some y
        → Named p f nv par a ruled old y
    named_told k y facts is w = record { stored = target_told k y facts is; lent = reference_told k y facts w }

    kind_told : (k : TKind) → Facts k → KindTold p f nv par a ruled old k
    kind_told (let_to m y t r) facts = right_told r (all_of (let_to m y t r) facts)
    kind_told (let_array m y t z n) facts = tt
    kind_told (assign y r) facts = (right_told r (all_of (assign y r) facts), target_told (assign y r) y facts (λ x b. b))
    kind_told (assign_index y e r) facts =
        (right_told r (calls_back AllOf (expr_calls e) (right_calls r) (all_of (assign_index y e r) facts)), named_told (assign_index y e r) y facts (λ x b. b) refl)
    kind_told (assign_deref y r) facts = (right_told r (all_of (assign_deref y r) facts), reference_told (assign_deref y r) y facts refl)
    kind_told (if_else e b c) facts = tt
    kind_told (for_in x d e b) facts = tt
    kind_told (while_do e l b) facts = tt
    kind_told (call_only c) facts = whole_told c (all_of (call_only c) facts)
    kind_told (sense_only x) facts = tt
    kind_told (emit q e) facts = tt
    kind_told (fresh x) facts = tt
    kind_told (consistent x l) facts = tt
    kind_told (return e) facts = tt

  -- all its statements keep to what it may write
  pub function_may : (groups : List Group) (checked : IsChecked p groups)
      → Each (λ a. KindMay (fun_access p u f) (call_within p.functions (writes p) (fun_access p u f)) a.kind) (block_placed (at_start f) f.body)
  function_may groups checked =
      let fs = p.functions in
      let xs = block_placed (at_start f) f.body in
      let fine = function_fine p checked.unbroken checked.form.declared u f stands in
      let free = (head_unbroken p u f fine).free in
      let ruled = body_ruled p f u fine.body in
      let olds = block_old p f (at_start f) f.body (start_old p f free) ruled in
      let shown : (j : Spare) → Each (λ a. hidden (Some j.1) a.kind ≡ false) xs = λ j. each_map (Ruled p f) (λ a. hidden (Some j.1) a.kind ≡ false)
      (λ a r. not_hidden p j.0 j.1 j.2 r.here.scope a.kind r.rules.taken) xs ruled in
      let plain = each_all (λ a. hidden None a.kind ≡ false) (λ a. none_hidden a.kind) xs in
      let one = each_for Spare (λ j a. own_assigns fs j.1 a.kind ≡ false) xs (λ j. block_each (Some j.1) (λ k. own_assigns fs j.1 k ≡ false) (at_start f) f.body
      (none_assigns fs u f stands j.1 j.3 (no_param p j.0 j.1 j.2 [] f.params free)) (shown j)) in
      let two = each_for Spare (λ j a. EachCall (NoneCalled j) (own_calls a.kind)) xs (λ j. block_each None (λ k. EachCall (NoneCalled j) (own_calls k)) (at_start f) f.body
      (none_called fs u f stands j.1 j.3) plain) in
      let three = each_for Kept (λ m a. own_param first (param_names f) (written_through a.kind) ≡ Some (first + m.0) → ⊥) xs
      (λ m. block_each None (λ k. own_param first (param_names f) (written_through k) ≡ Some (first + m.0) → ⊥) (at_start f) f.body (none_writes fs u f stands m.0 m.1 m.2) plain) in
      let four = each_for Kept (λ m a. EachCall (NonePassed m) (own_calls a.kind)) xs (λ m. block_each None (λ k. EachCall (NonePassed m) (own_calls k)) (at_start f) f.body
      (none_passes fs u f stands m.0 m.1 m.2) plain) in
      each_map _ _
      (λ a h. kind_ok p f nv par a h.0 h.1.0 groups checked a.kind h.0.rules (kind_told a h.0 h.1.0 a.kind
      (record { assigns = h.1.1.0; called = h.1.1.1.0; written = h.1.1.1.1.0; passed = h.1.1.1.1.1 })))
      xs (each_both _ _ xs ruled (each_both _ _ xs olds (each_both _ _ xs one (each_both _ _ xs two (each_both _ _ xs three four)))))
