-- What a function, or a region of it, may write: names that may stand for a nonvolatile variable, or for what was lent, only
-- where tables say so.
use Rattle.std.proofs.Common.{◌≡◌, ◌+◌, ℕ, zero, suc, Bool, true, false, true≢false, List, [], ◌∷◌, ◌++◌, map, cond, Option, Some, None, refl, sym, ap, ◌∙◌, subst, arith}
use Rattle.std.proofs.lemmas.Bool.{and_from, and_parts}
use Rattle.std.specs.Prelude.{is_some, slice_get, ◌&&◌, if◌then◌else◌}
use Rattle.std.specs.Option.{option_or}
use Rattle.std.specs.Str.{bytes_eq}
use Rattle.std.proofs.lemmas.Option.{none-some, same_Some}
use Rattle.std.proofs.lemmas.Slice.Eq.{bytes_eq-Decides}
use Rattle.std.proofs.lemmas.List.{append-nil}
use Rattle.oc_tree.specs.Names.{Text}
use Rattle.oc_tree.specs.Tree.{TKind, let_to, let_array, if_else, for_in, while_do, TElse, no_else, else_do, stmt, TBlock, block, TStmts, no_stmts, more, TFunction, TProgram}
use Rattle.oc_tree.specs.declared.tree.NvDecl.{NvDecl}
use Rattle.oc_tree.specs.declared.tree.Param.{Param}
use Rattle.oc_tree.specs.declared.tree.Passing.{Passing}
use Rattle.oc_tree.specs.declared.tree.Passing.TheVariants as passings
use Rattle.oc_tree.specs.declared.tree.VarId.TheVariants as variables
use Rattle.oc_tree.specs.declared.scope.Var.{Var}
use Rattle.oc_tree.specs.Calls.{place_from, place, function_place}
use Rattle.oc_tree.specs.Assigned.{param_names}
use Rattle.oc_tree.specs.Places.{Place as Spot, Placed, Variables, find_variable, param_variables, behind, in_branch, in_loop, at_start, kind_placed, else_placed}
use Rattle.oc_tree.specs.Places.{block_placed, stmts_placed}
use Rattle.oc_tree.specs.Scope.{Scope, variable_in, is_name_of, is_taken, is_in_scope, is_declared, takes_param, with_param, param_var}
use Rattle.oc_code.specs.Scope.{Slot, InFrame, ByAddress, InNv, NoSlot, Named, named, kind_words, param_slot, let_named, for_named, params_scope, nv_scope, function_scope}
use Rattle.oc_code.proofs.Places.{base, nv_width}
use Rattle.oc_code.proofs.Lawful.{Access}
use Rattle.oc_checked.proofs.BodiesPass.{first_fails, second_fails}
use Rattle.oc_writes.proofs.Standing.{Each, each_front, each_back, each_join}
use Rattle.oc_writes.proofs.KeptNames.{found_on}
use Rattle.oc_writes.proofs.KeptRules.{Ruled, rule_found_on}

-- ---- tables

abbrev pub at_nv : (ℕ → Bool) → Option ℕ → Bool
at_nv nv None = true
at_nv nv (Some i) = nv i

-- a parameter's variable may be written where it is the function's own, or is lent by `&mut` and told so
abbrev pub param_may : Passing → Bool → Bool
param_may passings.Value b = true
param_may passings.Shared b = false
param_may passings.Mutable b = b

abbrev pub one_param : (ℕ → Bool) → ℕ → Option Param → Bool
one_param par j None = true
one_param par j (Some q) = param_may q.passing (par j)

abbrev pub at_param : (ℕ → Bool) → List Param → Option ℕ → Bool
at_param par qs None = true
at_param par qs (Some j) = one_param par j (slice_get qs j)

abbrev pub access : TProgram → TFunction → (ℕ → Bool) → (ℕ → Bool) → Access
access p f nv par = record { names = λ x. at_nv nv (place p.names.nvs x) && at_param par f.params (place (param_names f) x); nvs = nv }

module _ (p : TProgram) (f : TFunction) (nv par : ℕ → Bool) (x : Text) where
  pub may_name : ((i : ℕ) → place p.names.nvs x ≡ Some i → nv i ≡ true)
      → ((j : ℕ) (q : Param) → place (param_names f) x ≡ Some j → slice_get f.params j ≡ Some q → param_may q.passing (par j) ≡ true) → (access p f nv par).names x ≡ true
  may_name h g = and_from (at_nv nv (place p.names.nvs x)) (at_param par f.params (place (param_names f) x)) (one (place p.names.nvs x) refl) (two (place (param_names f) x) refl)
    where
      one : (o : Option ℕ) → place p.names.nvs x ≡ o → at_nv nv o ≡ true
      one None e = refl
      one (Some i) e = h i e

      three : (j : ℕ) → place (param_names f) x ≡ Some j → (o : Option Param) → slice_get f.params j ≡ o → one_param par j o ≡ true
      three j e None s = refl
      three j e (Some q) s = g j q e s

      two : (o : Option ℕ) → place (param_names f) x ≡ o → at_param par f.params o ≡ true
      two None e = refl
      two (Some j) e = three j e (slice_get f.params j) refl

  pub name_nv : (access p f nv par).names x ≡ true → (i : ℕ) → place p.names.nvs x ≡ Some i → nv i ≡ true
  name_nv h i e = sym (ap (at_nv nv) e) ∙ (and_parts (at_nv nv (place p.names.nvs x)) (at_param par f.params (place (param_names f) x)) h).0

  pub name_param : (access p f nv par).names x ≡ true → (j : ℕ) (q : Param) → place (param_names f) x ≡ Some j → slice_get f.params j ≡ Some q → param_may q.passing (par j) ≡ true
  name_param h j q e s = sym (ap (one_param par j) s) ∙ sym (ap (at_param par f.params) e) ∙ (and_parts (at_nv nv (place p.names.nvs x)) (at_param par f.params (place (param_names f) x)) h).1

-- ---- names of parameters differ

taken_first : (p : TProgram) (scope : Scope) (qs : List Param) (l : ℕ) (q : Param) → takes_param p scope qs ≡ false → slice_get qs l ≡ Some q → is_in_scope scope q.name ≡ false
taken_first p scope [] l q free at = absurd (none-some q at)
taken_first p scope (c ∷ qs) zero q free at =
    ap (λ d. is_in_scope scope d.name) (sym (same_Some c q at)) ∙ first_fails (is_in_scope scope c.name) (is_declared p c.name) (first_fails (is_taken p scope c.name) _ free)
taken_first p scope (c ∷ qs) (suc l) q free at = more (variable_in scope q.name) refl (taken_first p (with_param scope c) qs l q (second_fails (is_taken p scope c.name) _ free) at)
  where
    more : (o : Option Var) → variable_in scope q.name ≡ o → is_in_scope (with_param scope c) q.name ≡ false → is_in_scope scope q.name ≡ false
    more None e h = ap is_some e
    more (Some v) e h = absurd (true≢false (sym (ap is_some (rule_found_on scope ((c.name, param_var c) ∷ []) q.name ∙ ap (λ o. option_or o (variable_in ((c.name, param_var c) ∷ []) q.name))
        e)) ∙ h))

own_in : (scope : Scope) (c : Param) → variable_in scope c.name ≡ None → is_in_scope (with_param scope c) c.name ≡ true
own_in scope c e = ap is_some (rule_found_on scope ((c.name, param_var c) ∷ []) c.name ∙ ap (λ o. option_or o (variable_in ((c.name, param_var c) ∷ []) c.name)) e ∙ ap
    (λ b. cond b (Some (param_var c)) None) ((bytes_eq-Decides c.name c.name).1 refl))

none_is : (o : Option Var) → is_some o ≡ false → o ≡ None
none_is None h = refl
none_is (Some v) h = absurd (true≢false h)

-- a parameter is found at its place
pub param_first : (p : TProgram) (scope : Scope) (n : ℕ) (qs : List Param) (l : ℕ) (q : Param) → takes_param p scope qs ≡ false → slice_get qs l ≡ Some q
    → place_from n (map (λ d. d.name) qs) q.name ≡ Some (n + l)
param_first p scope n [] l q free at = absurd (none-some q at)
param_first p scope n (c ∷ qs) zero q free at =
    let z : n ≡ n + 0 = omega arith in
    ap (λ b. cond b (Some n) (place_from (n + 1) (map (λ d. d.name) qs) q.name)) ((bytes_eq-Decides q.name c.name).1 (ap (λ d. d.name) (sym (same_Some c q at)))) ∙ ap Some z
param_first p scope n (c ∷ qs) (suc l) q free at = by (bytes_eq q.name c.name) refl (param_first p (with_param scope c) (n + 1) qs l q (second_fails (is_taken p scope c.name) _ free) at)
  where
    by : (b : Bool) → bytes_eq q.name c.name ≡ b → place_from (n + 1) (map (λ d. d.name) qs) q.name ≡ Some (n + 1 + l)
        → cond b (Some n) (place_from (n + 1) (map (λ d. d.name) qs) q.name) ≡ Some (n + suc l)
    by false is later = let m : n + 1 + l ≡ n + suc l = omega arith in later ∙ ap Some m
    by true is later =
        let same : q.name ≡ c.name = (bytes_eq-Decides q.name c.name).0 is in
        let none = none_is (variable_in scope c.name) (first_fails (is_in_scope scope c.name) (is_declared p c.name) (first_fails (is_taken p scope c.name) _ free)) in
        absurd (true≢false (sym (own_in scope c none) ∙ ap (is_in_scope (with_param scope c)) (sym same) ∙ taken_first p (with_param scope c) qs l q
        (second_fails (is_taken p scope c.name) _ free) at))

-- no parameter has the name of a nonvolatile variable
not_nv : (p : TProgram) (y : Text) → is_declared p y ≡ false → place p.names.nvs y ≡ None
not_nv p y h = none (place p.names.nvs y) (first_fails (is_name_of p.names.nvs y) (is_some (function_place p.functions y))
    (second_fails (is_name_of p.names.ports y) _ (second_fails (is_name_of p.names.sensors y) _ h)))
  where
    none : (o : Option ℕ) → is_some o ≡ false → o ≡ None
    none None h = refl
    none (Some i) h = absurd (true≢false h)

-- ---- what code sees

module _ (p : TProgram) (f : TFunction) where
  -- a slot by a name: where a nonvolatile variable or a reference stands, it is that of the name
  abbrev pub SlotIs : Text → ℕ → Slot → Type 0
  SlotIs x w (InNv b) = (i : ℕ) × (place p.names.nvs x ≡ Some i) × (b ≡ base p.nv i) × (w ≡ nv_width p.nv i)
  SlotIs x w (ByAddress s) = (q : Param) × (place (param_names f) x ≡ Some s) × (slice_get f.params s ≡ Some q) × (w ≡ kind_words q.kind) × (ByAddress s ≡ param_slot q.passing s)
  SlotIs x w (InFrame s) = Unit {0}
  SlotIs x w NoSlot = Unit {0}

  abbrev pub Slots : List Named → Type 0
  Slots γ = (x : Text) → SlotIs x (named γ x).words (named γ x).slot

  pub slots_more : (γ : List Named) (g : Named) → ((x : Text) → x ≡ g.name → SlotIs x g.words g.slot) → Slots γ → Slots (g ∷ γ)
  slots_more γ g own h x = by (bytes_eq x g.name) refl
    where
      by : (b : Bool) → bytes_eq x g.name ≡ b → SlotIs x (if b then g else named γ x).words (if b then g else named γ x).slot
      by true is = own x ((bytes_eq-Decides x g.name).0 is)
      by false is = h x

  pub slots_let : (γ : List Named) (x : Text) (s w : ℕ) (rest : TStmts) → Slots γ → Slots (let_named x s w rest ∷ γ)
  slots_let γ x s w rest h = slots_more γ (let_named x s w rest) (λ y e. tt) h

  pub slots_for : (γ : List Named) (x : Text) (s : ℕ) → Slots γ → Slots (for_named x s ∷ γ)
  slots_for γ x s h = slots_more γ (for_named x s) (λ y e. tt) h

  -- at the start of the function
  abbrev NvIs : ℕ → ℕ → List Text → List NvDecl → Text → ℕ → Slot → Type 0
  NvIs n a xs ds x w (InNv b) = (i : ℕ) × (place_from n xs x ≡ Some (n + i)) × (b ≡ a + base ds i) × (w ≡ nv_width ds i)
  NvIs n a xs ds x w (ByAddress s) = ⊥
  NvIs n a xs ds x w (InFrame s) = Unit {0}
  NvIs n a xs ds x w NoSlot = Unit {0}

  nvs_slots : (n a : ℕ) (xs : List Text) (ds : List NvDecl) (x : Text) → NvIs n a xs ds x (named (nv_scope a xs ds) x).words (named (nv_scope a xs ds) x).slot
  nvs_slots n a [] ds x = tt
  nvs_slots n a (y ∷ xs) [] x = tt
  nvs_slots n a (y ∷ xs) (d ∷ ds) x = by (bytes_eq x y) refl (nvs_slots (n + 1) (a + d.words) xs ds x)
    where
      g : Named
      g = record { name = y; slot = InNv a; words = d.words; writable = true; fresh = false }

      later : bytes_eq x y ≡ false → (w : ℕ) (s : Slot) → NvIs (n + 1) (a + d.words) xs ds x w s → NvIs n a (y ∷ xs) (d ∷ ds) x w s
      later is w (InNv b) h =
          let m : n + 1 + h.0 ≡ n + suc h.0 = omega arith in
          let c : b ≡ a + base (d ∷ ds) (suc h.0) = omega (arith, h.2) in
          (suc h.0, ap (λ t. cond t (Some n) (place_from (n + 1) xs x)) is ∙ h.1 ∙ ap Some m, c, h.3)
      later is w (ByAddress s) h = h
      later is w (InFrame s) h = tt
      later is w NoSlot h = tt

      by : (b : Bool) → bytes_eq x y ≡ b → NvIs (n + 1) (a + d.words) xs ds x (named (nv_scope (a + d.words) xs ds) x).words (named (nv_scope (a + d.words) xs ds) x).slot
          → NvIs n a (y ∷ xs) (d ∷ ds) x (if b then record { name = y; slot = InNv a; words = d.words; writable = true; fresh = false } else named (nv_scope (a + d.words) xs ds) x).words
          (if b then record { name = y; slot = InNv a; words = d.words; writable = true; fresh = false } else named (nv_scope (a + d.words) xs ds) x).slot
      by true is h = let z : n ≡ n + 0 = omega arith in let c : a ≡ a + base (d ∷ ds) 0 = omega arith in (0, ap (λ t. cond t (Some n) (place_from (n + 1) xs x)) is ∙ ap Some z, c, refl)
      by false is h = later is (named (nv_scope (a + d.words) xs ds) x).words (named (nv_scope (a + d.words) xs ds) x).slot h

  nvs_start : Slots (nv_scope 0 p.names.nvs p.nv)
  nvs_start x = by (named (nv_scope 0 p.names.nvs p.nv) x).words (named (nv_scope 0 p.names.nvs p.nv) x).slot (nvs_slots 0 0 p.names.nvs p.nv x)
    where
      by : (w : ℕ) (s : Slot) → NvIs 0 0 p.names.nvs p.nv x w s → SlotIs x w s
      by w (InNv b) h = let m : 0 + h.0 ≡ h.0 = omega arith in let c : b ≡ base p.nv h.0 = omega (arith, h.2) in (h.0, h.1 ∙ ap Some m, c, h.3)
      by w (ByAddress s) h = absurd h
      by w (InFrame s) h = tt
      by w NoSlot h = tt

  params_slots : (free : takes_param p [] f.params ≡ false) (k : ℕ) (qs : List Param) (γ : List Named) → ((j : ℕ) → slice_get f.params (k + j) ≡ slice_get qs j) → Slots γ
      → Slots (params_scope qs k γ)
  params_slots free k [] γ there h = h
  params_slots free k (q ∷ qs) γ there h =
      params_slots free (k + 1) qs _ (λ j. let e : k + 1 + j ≡ k + suc j = omega arith in ap (slice_get f.params) e ∙ there (suc j))
      (slots_more γ (record { name = q.name; slot = param_slot q.passing k; words = kind_words q.kind; writable = _; fresh = false }) (λ x e. own x e q.passing refl) h)
    where
      at : slice_get f.params k ≡ Some q
      at = let z : k + 0 ≡ k = omega arith in ap (slice_get f.params) (sym z) ∙ there 0

      found : (x : Text) → x ≡ q.name → place (param_names f) x ≡ Some k
      found x e = let z : 0 + k ≡ k = omega arith in ap (place (param_names f)) e ∙ param_first p [] 0 f.params k q free at ∙ ap Some z

      own : (x : Text) → x ≡ q.name → (s : Passing) → q.passing ≡ s → SlotIs x (kind_words q.kind) (param_slot s k)
      own x e passings.Value is = tt
      own x e passings.Shared is = (q, found x e, at, refl, ap (λ c. param_slot c k) (sym is))
      own x e passings.Mutable is = (q, found x e, at, refl, ap (λ c. param_slot c k) (sym is))

  pub start_slots : takes_param p [] f.params ≡ false → Slots (function_scope p f)
  start_slots free = params_slots free 0 f.params (nv_scope 0 p.names.nvs p.nv) (λ j. let e : 0 + j ≡ j = omega arith in ap (slice_get f.params) e) nvs_start

  -- ---- what names stand for where statements stand

  -- no statement hides a parameter or a nonvolatile variable
  pub record Old (vs : Variables) : Type 0 where
    pub own : (y : Text) (j : ℕ) → place (param_names f) y ≡ Some j → find_variable vs y ≡ Some (variables.Param j)
    pub nvs : (y : Text) (i : ℕ) → place p.names.nvs y ≡ Some i → find_variable vs y ≡ None

  old_more : (vs : Variables) (z : Text) (n : ℕ) → place p.names.nvs z ≡ None → Old vs → Old (vs ++ (z, variables.Declared n) ∷ [])
  old_more vs z n new old = record {
    own = λ y j e. found_on vs ((z, variables.Declared n) ∷ []) y ∙ ap (λ o. option_or o (find_variable ((z, variables.Declared n) ∷ []) y)) (old.own y j e);
    nvs = λ y i e. found_on vs ((z, variables.Declared n) ∷ []) y ∙ ap (λ o. option_or o (find_variable ((z, variables.Declared n) ∷ []) y)) (old.nvs y i e) ∙ by y i e (bytes_eq y z) refl;
  }
    where
      by : (y : Text) (i : ℕ) → place p.names.nvs y ≡ Some i → (b : Bool) → bytes_eq y z ≡ b → cond b (Some (variables.Declared n)) None ≡ None
      by y i e false is = refl
      by y i e true is = absurd (none-some i (sym new ∙ ap (place p.names.nvs) (sym ((bytes_eq-Decides y z).0 is)) ∙ e))

  old_same : (vs : Variables) → Old vs → Old (vs ++ [])
  old_same vs old = subst Old (sym (append-nil vs)) old

  new_nv : (a : Placed) (r : Ruled p f a) (z : Text) → is_taken p r.here.scope z ≡ false → place p.names.nvs z ≡ None
  new_nv a r z h = not_nv p z (second_fails (is_in_scope r.here.scope z) (is_declared p z) h)

  abbrev OldAt : Placed → Type 0
  OldAt a = Old a.at.variables

  abbrev Rules : Placed → Type 0
  Rules = Ruled p f

  old_behind : (at : Spot) (n line : ℕ) (k : TKind) → Old at.variables → Ruled p f (record { id = n; line = line; kind = k; at = at }) → Old (behind at n k).variables
  old_behind at n line (let_to m x t r) old u = old_more at.variables x n (new_nv (record { id = n; line = line; kind = let_to m x t r; at = at }) u x u.rules.taken) old
  old_behind at n line (let_array m x t z l) old u = old_more at.variables x n (new_nv (record { id = n; line = line; kind = let_array m x t z l; at = at }) u x u.rules.taken) old
  old_behind at n line k old u = old_same at.variables old

  mutual
    kind_old : (at : Spot) (n line : ℕ) (k : TKind) → Old at.variables → Ruled p f (record { id = n; line = line; kind = k; at = at }) → Each Rules (kind_placed at n k)
        → Each OldAt (kind_placed at n k)
    kind_old at n line (if_else c a b) old u h =
        each_join OldAt (block_placed (in_branch at n) a) (else_placed (in_branch at n) b)
        (block_old (in_branch at n) a old (each_front Rules (block_placed (in_branch at n) a) (else_placed (in_branch at n) b) h))
        (else_old (in_branch at n) b old (each_back Rules (block_placed (in_branch at n) a) (else_placed (in_branch at n) b) h))
    kind_old at n line (for_in x c d b) old u h = block_old (in_loop at n ((x, variables.Declared n) ∷ [])) b
        (old_more at.variables x n (new_nv (record { id = n; line = line; kind = for_in x c d b; at = at }) u x u.rules.taken) old) h
    kind_old at n line (while_do c l b) old u h = block_old (in_loop at n []) b (old_same at.variables old) h
    kind_old at n line k old u h = tt

    else_old : (at : Spot) (b : TElse) → Old at.variables → Each Rules (else_placed at b) → Each OldAt (else_placed at b)
    else_old at no_else old h = tt
    else_old at (else_do b) old h = block_old at b old h

    pub block_old : (at : Spot) (b : TBlock) → Old at.variables → Each Rules (block_placed at b) → Each OldAt (block_placed at b)
    block_old at (block id ss) old h = stmts_old (record at { block = id }) ss old h

    stmts_old : (at : Spot) (ss : TStmts) → Old at.variables → Each Rules (stmts_placed at ss) → Each OldAt (stmts_placed at ss)
    stmts_old at no_stmts old h = tt
    stmts_old at (more (stmt n line k) rest) old h = (
      old,
      each_join OldAt (kind_placed at n k) (stmts_placed (behind at n k) rest) (kind_old at n line k old h.0
          (each_front Rules (kind_placed at n k) (stmts_placed (behind at n k) rest) h.1))
          (stmts_old (behind at n k) rest (old_behind at n line k old h.0) (each_back Rules (kind_placed at n k) (stmts_placed (behind at n k) rest) h.1)),
    )

  param_variable : (n : ℕ) (qs : List Param) (y : Text) (j : ℕ) → place_from n (map (λ q. q.name) qs) y ≡ Some j → find_variable (param_variables n qs) y ≡ Some (variables.Param j)
  param_variable n [] y j e = absurd (none-some j e)
  param_variable n (q ∷ qs) y j e = by (bytes_eq y q.name) e (param_variable (n + 1) qs y j)
    where
      by : (b : Bool) → cond b (Some n) (place_from (n + 1) (map (λ q. q.name) qs) y) ≡ Some j
          → (place_from (n + 1) (map (λ q. q.name) qs) y ≡ Some j → find_variable (param_variables (n + 1) qs) y ≡ Some (variables.Param j)) → cond b (Some (variables.Param n))
          (find_variable (param_variables (n + 1) qs) y) ≡ Some (variables.Param j)
      by true h rest = ap (λ i. Some (variables.Param i)) (same_Some n j h)
      by false h rest = rest h

  nv_variable : (scope : Scope) (n : ℕ) (qs : List Param) (y : Text) (i : ℕ) → takes_param p scope qs ≡ false → place p.names.nvs y ≡ Some i → find_variable (param_variables n qs) y ≡ None
  nv_variable scope n [] y i free e = refl
  nv_variable scope n (q ∷ qs) y i free e = by (bytes_eq y q.name) refl (nv_variable (with_param scope q) (n + 1) qs y i (second_fails (is_taken p scope q.name) _ free) e)
    where
      by : (b : Bool) → bytes_eq y q.name ≡ b → find_variable (param_variables (n + 1) qs) y ≡ None → cond b (Some (variables.Param n)) (find_variable (param_variables (n + 1) qs) y) ≡ None
      by false is later = later
      by true is later =
          let none = not_nv p q.name (second_fails (is_in_scope scope q.name) (is_declared p q.name) (first_fails (is_taken p scope q.name) _ free)) in
          absurd (none-some i (sym none ∙ ap (place p.names.nvs) (sym ((bytes_eq-Decides y q.name).0 is)) ∙ e))

  pub start_old : takes_param p [] f.params ≡ false → Old (at_start f).variables
  start_old free = record { own = λ y j e. param_variable 0 f.params y j e; nvs = λ y i e. nv_variable [] 0 f.params y i free e }
