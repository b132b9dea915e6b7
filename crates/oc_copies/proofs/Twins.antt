-- Two runs of the same statements, over variables that hold the same under other names, do the same.
use Rattle.std.proofs.Common.{◌≡◌, ℕ, zero, suc, ◌+◌, Bool, true, false, true≢false, List, [], ◌∷◌, ◌++◌, length, Option, Some, None, refl, sym, ap, ◌∙◌, subst}
use Rattle.std.specs.Prelude.{ℤ, pos, ◌+ℤ◌, ◌-ℤ◌, ◌||◌, if◌then◌else◌}
use Rattle.std.specs.List.{list_any}
use Rattle.std.specs.Str.{bytes_eq}
use Rattle.oc_tree.specs.Names.{Text}
use Rattle.oc_tree.specs.Tree.{TExpr, number, truth, variable, index, deref, unary, binary, sensed, called, TArg, value, shared, mutable, TCall, call, TArgs, no_args, more_args}
use Rattle.oc_tree.specs.Tree.{TRight, right_value, right_sense, right_call, TKind, let_to, let_array, assign, assign_index, assign_deref, if_else, for_in, while_do, call_only}
use Rattle.oc_tree.specs.Tree.{sense_only, emit, fresh, consistent, return, TElse, no_else, else_do, stmt, TBlock, block, TStmts, no_stmts, more, TFunction, TProgram}
use Rattle.oc_tree.specs.declared.tree.Param.{Param}
use Rattle.oc_tree.specs.declared.tree.Passing.{Passing}
use Rattle.oc_tree.specs.declared.tree.Passing.TheVariants as passings
use Rattle.oc_tree.specs.declared.said.Said.TheVariants.{Sensed, Showed}
use Rattle.oc_tree.specs.declared.said.Shown.TheVariants.{Emitted}
use Rattle.oc_tree.specs.declared.said.TrapKind.{TrapKind}
use Rattle.oc_tree.specs.Marked.{TRegion}
use Rattle.oc_tree.specs.Weight.{count_of}
use Rattle.oc_tree.specs.Samples.{union}
use Rattle.oc_meaning.specs.Store.{Value, Held, Place, Local, Store, Binding, holding, value_in, replaced, with_element, held_at, put, noted, binding_of, place_of}
use Rattle.oc_meaning.specs.Eval.{Got, Val, Traps, is_zero, element_of, read_element, unary_value, combined, and_got, value_of}
use Rattle.oc_tree.specs.Named.{expr_names, own_names}
use Rattle.oc_tree.specs.Walks.{expr_named, arg_named}
use Rattle.oc_meaning.specs.Uses.{is_fresh, is_use, samples_of_fresh, use_samples, begins_use, ends_use}
use Rattle.oc_meaning.specs.Exec.{Outcome, Went, Returned, Stopped, Passed, Copied, Lent, Passing as Given, Passes, Breaks, with_value, then_do, with_result, leave, opened, closed}
use Rattle.oc_meaning.specs.Exec.{used, done, finished, sense, passed_first, copied_first, passed_on, value_first, arg_first, args_of, with_args, element_written, for_turns}
use Rattle.oc_meaning.specs.Exec.{while_turns, bound_to, in_turn, grown, entered, tagged, array_of, begun_by, ended_by, number_in, trapped, call_run, right_run, kind_run}
use Rattle.oc_meaning.specs.Exec.{else_run, block_run, stmts_run}
use Rattle.oc_copies.proofs.Matching.{Renaming, IsRenaming, Match, put_match, made_match, left_match, IsBeside, beside_match, opened_beside, closed_beside, used_beside, done_beside, noted_beside}

-- ---- what code may name

-- names, the newest first, and whether each stands for a parameter by `&`
abbrev pub Flags : Type 0
Flags = List (Text × Bool)

abbrev pub flag_of : Flags → Text → Bool
flag_of [] x = false
flag_of (f ∷ fs) x = if bytes_eq x f.0 then f.1 else flag_of fs x

abbrev pub is_shared : Passing → Bool
is_shared passings.Shared = true
is_shared passing = false

abbrev pub flags_behind : Flags → TKind → Flags
flags_behind fs (let_to m x t r) = (x, false) ∷ fs
flags_behind fs (let_array m x t z n) = (x, false) ∷ fs
flags_behind fs k = fs

-- the name that an argument may hand on by reference
abbrev pub handed : TArg → Option Text
handed (value (variable x)) = Some x
handed (value e) = None
handed (shared x) = Some x
handed (mutable x) = Some x

module _ (hidden : Text → Bool) where
  abbrev pub Shown : List Text → Type 0
  Shown [] = Unit {0}
  Shown (x ∷ xs) = (hidden x ≡ false) × Shown xs

  shown_front : (xs ys : List Text) → Shown (xs ++ ys) → Shown xs
  shown_front [] ys h = tt
  shown_front (x ∷ xs) ys h = (h.0, shown_front xs ys h.1)

  shown_back : (xs ys : List Text) → Shown (xs ++ ys) → Shown ys
  shown_back [] ys h = h
  shown_back (x ∷ xs) ys h = shown_back xs ys h.1

  -- an argument names nothing hidden, and what is only read goes to a parameter by `&`
  pub record IsLawfulArg (fs : Flags) (q : Param) (a : TArg) : Type 0 where
    pub shown : Shown (arg_named a)
    pub careful : (x : Text) → handed a ≡ Some x → flag_of fs x ≡ true → is_shared q.passing ≡ true

  abbrev pub AreLawful : Flags → List Param → TArgs → Type 0
  AreLawful fs [] no_args = Unit {0}
  AreLawful fs (q ∷ qs) (more_args a rest) = IsLawfulArg fs q a × AreLawful fs qs rest
  AreLawful fs qs args = ⊥

  -- `Quiet f`: the function names nothing hidden, nor does any that it leads to
  module _ (p : TProgram) (Quiet : Text → TFunction → Type 0) (function_at : Text → Option TFunction) where
    abbrev pub IsLawfulCall : Flags → TCall → Type 0
    IsLawfulCall fs (call f args) = (g : TFunction) × (function_at f ≡ Some g) × Quiet f g × AreLawful fs g.params args

    abbrev pub IsLawfulRight : Flags → TRight → Type 0
    IsLawfulRight fs (right_value e) = Shown (expr_named e)
    IsLawfulRight fs (right_sense s) = Unit {0}
    IsLawfulRight fs (right_call c) = IsLawfulCall fs c

    abbrev mutual
      pub IsLawful : Flags → TKind → Type 0
      IsLawful fs (let_to m x t r) = IsLawfulRight fs r
      IsLawful fs (let_array m x t z n) = Unit {0}
      IsLawful fs (assign x r) = (hidden x ≡ false) × (flag_of fs x ≡ false) × IsLawfulRight fs r
      IsLawful fs (assign_index x e r) = (hidden x ≡ false) × (flag_of fs x ≡ false) × Shown (expr_named e) × IsLawfulRight fs r
      IsLawful fs (assign_deref x r) = (hidden x ≡ false) × (flag_of fs x ≡ false) × IsLawfulRight fs r
      IsLawful fs (if_else c a b) = Shown (expr_named c) × IsLawfulBlock fs a × IsLawfulElse fs b
      IsLawful fs (for_in x c d b) = IsLawfulBlock ((x, false) ∷ fs) b
      IsLawful fs (while_do c n b) = Shown (expr_named c) × IsLawfulBlock fs b
      IsLawful fs (call_only c) = IsLawfulCall fs c
      IsLawful fs (sense_only s) = Unit {0}
      IsLawful fs (emit q e) = Shown (expr_named e)
      IsLawful fs (fresh x) = Unit {0}
      IsLawful fs (consistent x k) = hidden x ≡ false
      IsLawful fs (return e) = Shown (expr_named e)

      pub IsLawfulElse : Flags → TElse → Type 0
      IsLawfulElse fs no_else = Unit {0}
      IsLawfulElse fs (else_do b) = IsLawfulBlock fs b

      pub IsLawfulBlock : Flags → TBlock → Type 0
      IsLawfulBlock fs (block id ss) = AreLawfulAll fs ss

      pub AreLawfulAll : Flags → TStmts → Type 0
      AreLawfulAll fs no_stmts = Unit {0}
      AreLawfulAll fs (more (stmt n line k) rest) = Shown (own_names k) × IsLawful fs k × AreLawfulAll (flags_behind fs k) rest

abbrev Three : Type 0
Three = Bool × Bool × List ℕ

same3 : (a b c d : Bool) (x y : List ℕ) → a ≡ b → c ≡ d → x ≡ y → ◌≡◌ {A = Three} (a, c, x) (b, d, y)
same3 a b c d x y e f g = cc

-- ---- what names stand for

module _ (hidden : Text → Bool) (r : Renaming) (is : IsRenaming r) (start other_start : Store) where
  abbrev M : Store → Store → Type 0
  M σ τ = Match r is start other_start σ τ

  pub record AreTwins (b c : Binding) : Type 0 where
    pub place : c.place ≡ r.to b.place
    pub live : r.live b.place ≡ true
    pub reference : c.reference ≡ b.reference
    pub fresh : c.fresh ≡ b.fresh

  pub record Sees (fs : Flags) (env env' : List Binding) : Type 0 where
    pub named : (x : Text) → hidden x ≡ false → AreTwins (binding_of env x) (binding_of env' x)
    pub free : (x : Text) → hidden x ≡ false → flag_of fs x ≡ false → r.fixed (place_of env x) ≡ false

  -- one more name
  pub sees_more : (fs : Flags) (env env' : List Binding) (x : Text) (flag : Bool) (b c : Binding) → b.name ≡ x → c.name ≡ x → AreTwins b c → (flag ≡ false → r.fixed b.place ≡ false) →
      Sees fs env env' → Sees ((x, flag) ∷ fs) (b ∷ env) (c ∷ env')
  sees_more fs env env' x flag b c nb nc t f s = record {
    named =
        λ y h. subst (λ z. AreTwins (if bytes_eq y z then b else binding_of env y) (if bytes_eq y c.name then c else binding_of env' y)) (sym nb)
        (subst (λ z. AreTwins (if bytes_eq y x then b else binding_of env y) (if bytes_eq y z then c else binding_of env' y)) (sym nc) (name y h (bytes_eq y x)));
    free = λ y h k. subst (λ z. r.fixed (if bytes_eq y z then b else binding_of env y).place ≡ false) (sym nb) (other y h (bytes_eq y x) k);
  }
    where
      name : (y : Text) → hidden y ≡ false → (q : Bool) → AreTwins (if q then b else binding_of env y) (if q then c else binding_of env' y)
      name y h true = t
      name y h false = s.named y h

      other : (y : Text) → hidden y ≡ false → (q : Bool) → (if q then flag else flag_of fs y) ≡ false → r.fixed (if q then b else binding_of env y).place ≡ false
      other y h true k = f k
      other y h false k = s.free y h k

  -- ---- expressions

  module _ (fs : Flags) (env env' : List Binding) (sees : Sees fs env env') (σ τ : Store) (m : M σ τ) where
    held_twin : (x : Text) → hidden x ≡ false → held_at σ (place_of env x) ≡ held_at τ (place_of env' x)
    held_twin x h = m.holds (place_of env x) (sees.named x h).live ∙ ap (held_at τ) (sym (sees.named x h).place)

    value_twin : (e : TExpr) → Shown hidden (expr_named e) → value_of env σ e ≡ value_of env' τ e
    value_twin (variable x) h = ap (λ v. Val (value_in v)) (held_twin x h.0)
    value_twin (deref x) h = ap (λ v. Val (value_in v)) (held_twin x h.0)
    value_twin (index x e) h =
        ap (λ g. and_got g (λ i. read_element (held_at σ (place_of env x)) (element_of (length (held_at σ (place_of env x)).words) i.num) i.samples)) (value_twin e h.1)
        ∙ ap (λ v. and_got (value_of env' τ e) (λ i. read_element v (element_of (length v.words) i.num) i.samples)) (held_twin x h.0)
    value_twin (unary op e) h = ap (unary_value op) (value_twin e h)
    value_twin (binary op a b) h =
        ap (λ g. combined op g (value_of env σ b)) (value_twin a (shown_front hidden (expr_named a) (expr_named b) h))
        ∙ ap (combined op (value_of env' τ a)) (value_twin b (shown_back hidden (expr_named a) (expr_named b) h))
    value_twin x h = refl

    fresh_twin : (xs : List Text) → Shown hidden xs → samples_of_fresh env σ xs ≡ samples_of_fresh env' τ xs
    fresh_twin [] h = refl
    fresh_twin (x ∷ xs) h =
        ap (λ b. if b then union (held_at σ (place_of env x)).samples (samples_of_fresh env σ xs) else samples_of_fresh env σ xs) (sym (sees.named x h.0).fresh)
        ∙ ap (λ v. if is_fresh env' x then union v.samples (samples_of_fresh env σ xs) else samples_of_fresh env σ xs) (held_twin x h.0)
        ∙ ap (λ s. if is_fresh env' x then union (held_at τ (place_of env' x)).samples s else s) (fresh_twin xs h.1)

  is_use_twin : (fs : Flags) (env env' : List Binding) → Sees fs env env' → (xs : List Text) → Shown hidden xs → list_any (is_fresh env) xs ≡ list_any (is_fresh env') xs
  is_use_twin fs env env' sees [] h = refl
  is_use_twin fs env env' sees (x ∷ xs) h =
      ap (λ b. b || list_any (is_fresh env) xs) (sym (sees.named x h.0).fresh) ∙ ap (λ b. is_fresh env' x || b) (is_use_twin fs env env' sees xs h.1)

  -- ---- outcomes

  abbrev pub Alike : Outcome → Outcome → Type 0
  Alike (Went σ) (Went τ) = M σ τ
  Alike (Returned v σ) (Returned w τ) = (v ≡ w) × M σ τ
  Alike (Stopped s σ) (Stopped t τ) = (s ≡ t) × M σ τ
  Alike o q = ⊥

  then_alike : (o q : Outcome) (f g : Store → Outcome) → Alike o q → ((σ τ : Store) → M σ τ → Alike (f σ) (g τ)) → Alike (then_do o f) (then_do q g)
  then_alike (Went σ) (Went τ) f g h k = k σ τ h
  then_alike (Returned v σ) (Returned w τ) f g h k = h
  then_alike (Stopped s σ) (Stopped t τ) f g h k = h
  then_alike (Went σ) (Returned w τ) f g h k = absurd h
  then_alike (Went σ) (Stopped t τ) f g h k = absurd h
  then_alike (Returned v σ) (Went τ) f g h k = absurd h
  then_alike (Returned v σ) (Stopped t τ) f g h k = absurd h
  then_alike (Stopped s σ) (Went τ) f g h k = absurd h
  then_alike (Stopped s σ) (Returned w τ) f g h k = absurd h

  result_alike : (o q : Outcome) (f g : Value → Store → Outcome) → Alike o q → ((v : Value) (σ τ : Store) → M σ τ → Alike (f v σ) (g v τ)) → Alike (with_result o f) (with_result q g)
  result_alike (Went σ) (Went τ) f g h k = k _ σ τ h
  result_alike (Returned v σ) (Returned w τ) f g h k = subst (λ u. Alike (f v σ) (g u τ)) h.0 (k v σ τ h.1)
  result_alike (Stopped s σ) (Stopped t τ) f g h k = h
  result_alike (Went σ) (Returned w τ) f g h k = absurd h
  result_alike (Went σ) (Stopped t τ) f g h k = absurd h
  result_alike (Returned v σ) (Went τ) f g h k = absurd h
  result_alike (Returned v σ) (Stopped t τ) f g h k = absurd h
  result_alike (Stopped s σ) (Went τ) f g h k = absurd h
  result_alike (Stopped s σ) (Returned w τ) f g h k = absurd h

  finished_alike : (o q : Outcome) (f g : Store → Store) → Alike o q → ((σ τ : Store) → M σ τ → M (f σ) (g τ)) → Alike (finished f o) (finished g q)
  finished_alike (Went σ) (Went τ) f g h k = k σ τ h
  finished_alike (Returned v σ) (Returned w τ) f g h k = h
  finished_alike (Stopped s σ) (Stopped t τ) f g h k = h
  finished_alike (Went σ) (Returned w τ) f g h k = absurd h
  finished_alike (Went σ) (Stopped t τ) f g h k = absurd h
  finished_alike (Returned v σ) (Went τ) f g h k = absurd h
  finished_alike (Returned v σ) (Stopped t τ) f g h k = absurd h
  finished_alike (Stopped s σ) (Went τ) f g h k = absurd h
  finished_alike (Stopped s σ) (Returned w τ) f g h k = absurd h

  leave_alike : (x : ℕ) (o q : Outcome) → Alike o q → Alike (leave (r.low + x) o) (leave (r.other_low + x) q)
  leave_alike x (Went σ) (Went τ) h = left_match r is start other_start σ τ x h
  leave_alike x (Returned v σ) (Returned w τ) h = (h.0, left_match r is start other_start σ τ x h.1)
  leave_alike x (Stopped s σ) (Stopped t τ) h = h
  leave_alike x (Went σ) (Returned w τ) h = absurd h
  leave_alike x (Went σ) (Stopped t τ) h = absurd h
  leave_alike x (Returned v σ) (Went τ) h = absurd h
  leave_alike x (Returned v σ) (Stopped t τ) h = absurd h
  leave_alike x (Stopped s σ) (Went τ) h = absurd h
  leave_alike x (Stopped s σ) (Returned w τ) h = absurd h

  -- a block that begins in matching stores
  pub left_alike : (σ τ : Store) → M σ τ → (o q : Outcome) → Alike o q → Alike (leave (length σ.locals) o) (leave (length τ.locals) q)
  left_alike σ τ m o q h =
      subst (λ n. Alike (leave n o) (leave (length τ.locals) q)) (sym m.count) (subst (λ n. Alike (leave (r.low + m.more) o) (leave n q)) (sym m.other_count) (leave_alike m.more o q h))

  beside_alike : (f : Store → Store) → IsBeside r is start other_start f → (σ τ : Store) → M σ τ → M (f σ) (f τ)
  beside_alike f b σ τ m = beside_match r is start other_start f b σ τ m

  trap_alike : (k : TrapKind) (n : ℕ) (σ τ : Store) → M σ τ → Alike (trapped k n σ) (trapped k n τ)
  trap_alike k n σ τ m = (refl, beside_alike _ (noted_beside r is start other_start _ []) σ τ m)

  value_alike : (g : Got) (n : ℕ) (σ τ : Store) (f h : Value → Outcome) → M σ τ → ((v : Value) → Alike (f v) (h v)) → Alike (with_value g n σ f) (with_value g n τ h)
  value_alike (Val v) n σ τ f h m k = k v
  value_alike (Traps t) n σ τ f h m k = trap_alike t n σ τ m

  either_alike : (b : Bool) (o q o' q' : Outcome) → Alike o o' → Alike q q' → Alike (if b then o else q) (if b then o' else q')
  either_alike true o q o' q' f g = f
  either_alike false o q o' q' f g = g

  left_same : (σ τ : Store) → M σ τ → σ.left ≡ τ.left
  left_same σ τ m = ap (λ (υ : Store). υ.left) m.rest

  sense_on : (s : ℕ) (ls : List ℤ) (σ τ : Store) → M σ τ → Alike (sense s ls σ) (sense s ls τ)
  sense_on s [] σ τ m = (refl, m)
  sense_on s (z ∷ zs) σ τ m = (
    ap (λ (υ : Store). record { num = z; samples = υ.taken ∷ [] }) m.rest,
    beside_alike (λ υ. noted (Sensed s z) (υ.taken ∷ []) (record υ { left = zs; taken = suc υ.taken })) (record { locals = λ υ. refl; nv = λ υ. refl; commutes = λ υ. refl }) σ τ m,
  )

  sense_alike : (s : ℕ) (σ τ : Store) → M σ τ → Alike (sense s σ.left σ) (sense s τ.left τ)
  sense_alike s σ τ m = subst (λ ls. Alike (sense s σ.left σ) (sense s ls τ)) (left_same σ τ m) (sense_on s σ.left σ τ m)

  -- ---- what is passed

  abbrev pub ArePassed : List Param → List Passed → List Passed → Type 0
  ArePassed [] [] [] = Unit {0}
  ArePassed (q ∷ qs) (Copied v ∷ xs) (Copied w ∷ ys) = (v ≡ w) × ArePassed qs xs ys
  ArePassed (q ∷ qs) (Lent a ∷ xs) (Lent b ∷ ys) = (b ≡ r.to a) × (r.live a ≡ true) × (r.fixed a ≡ true → is_shared q.passing ≡ true) × ArePassed qs xs ys
  ArePassed qs xs ys = ⊥

  abbrev AreGiven : List Param → Given → Given → Type 0
  AreGiven qs (Passes xs) (Passes ys) = ArePassed qs xs ys
  AreGiven qs (Breaks k) (Breaks l) = k ≡ l
  AreGiven qs a b = ⊥

  lent_given : (q : Param) (qs : List Param) (a b : Place) (rest rest' : Given) → b ≡ r.to a → r.live a ≡ true → (r.fixed a ≡ true → is_shared q.passing ≡ true) → AreGiven qs rest rest' →
      AreGiven (q ∷ qs) (passed_first (Lent a) rest) (passed_first (Lent b) rest')
  lent_given q qs a b (Passes xs) (Passes ys) e l f h = (e, l, f, h)
  lent_given q qs a b (Breaks k) (Breaks m) e l f h = h
  lent_given q qs a b (Passes xs) (Breaks m) e l f h = absurd h
  lent_given q qs a b (Breaks k) (Passes ys) e l f h = absurd h

  copied_given : (q : Param) (qs : List Param) (g : Got) (rest rest' : Given) → AreGiven qs rest rest' → AreGiven (q ∷ qs) (copied_first g rest) (copied_first g rest')
  copied_given q qs (Val v) (Passes xs) (Passes ys) h = (refl, h)
  copied_given q qs (Val v) (Breaks k) (Breaks m) h = h
  copied_given q qs (Val v) (Passes xs) (Breaks m) h = absurd h
  copied_given q qs (Val v) (Breaks k) (Passes ys) h = absurd h
  copied_given q qs (Traps k) rest rest' h = refl

  module _ (fs : Flags) (env env' : List Binding) (sees : Sees fs env env') (σ τ : Store) (m : M σ τ) where
    careful_place : (q : Param) (x : Text) → hidden x ≡ false → (flag_of fs x ≡ true → is_shared q.passing ≡ true) → r.fixed (place_of env x) ≡ true → is_shared q.passing ≡ true
    careful_place q x h k f = by (flag_of fs x) refl
      where
        by : (b : Bool) → flag_of fs x ≡ b → is_shared q.passing ≡ true
        by true e = k e
        by false e = absurd (true≢false (sym f ∙ sees.free x h e))

    named_given : (q : Param) (qs : List Param) (x : Text) (rest rest' : Given) → hidden x ≡ false → (flag_of fs x ≡ true → is_shared q.passing ≡ true) → AreGiven qs rest rest' →
        AreGiven (q ∷ qs) (passed_first (Lent (place_of env x)) rest) (passed_first (Lent (place_of env' x)) rest')
    named_given q qs x rest rest' h k g = lent_given q qs (place_of env x) (place_of env' x) rest rest' (sees.named x h).place (sees.named x h).live (careful_place q x h k) g

    plain_given : (q : Param) (qs : List Param) (e : TExpr) (rest rest' : Given) → Shown hidden (expr_named e) → AreGiven qs rest rest' →
        AreGiven (q ∷ qs) (copied_first (value_of env σ e) rest) (copied_first (value_of env' τ e) rest')
    plain_given q qs e rest rest' h g =
        subst (λ v. AreGiven (q ∷ qs) (copied_first (value_of env σ e) rest) (copied_first v rest')) (value_twin fs env env' sees σ τ m e h) (copied_given q qs (value_of env σ e) rest rest' g)

    value_given : (q : Param) (qs : List Param) (e : TExpr) (rest rest' : Given) → IsLawfulArg hidden fs q (value e) → AreGiven qs rest rest' →
        AreGiven (q ∷ qs) (value_first (passed_on env e) (value_of env σ e) rest) (value_first (passed_on env' e) (value_of env' τ e) rest')
    value_given q qs (variable x) rest rest' h g = subst (λ b. Goal (binding_of env x).reference b) (sym (sees.named x h.shown.0).reference) (by (binding_of env x).reference)
      where
        Goal : Bool → Bool → Type 0
        Goal b c =
            AreGiven (q ∷ qs) (value_first (if b then Some (place_of env x) else None) (value_of env σ (variable x)) rest)
            (value_first (if c then Some (place_of env' x) else None) (value_of env' τ (variable x)) rest')

        by : (b : Bool) → Goal b b
        by true = named_given q qs x rest rest' h.shown.0 (h.careful x refl) g
        by false = plain_given q qs (variable x) rest rest' h.shown g
    value_given q qs e rest rest' h g = plain_given q qs e rest rest' h.shown g

    arg_given : (q : Param) (qs : List Param) (a : TArg) (rest rest' : Given) → IsLawfulArg hidden fs q a → AreGiven qs rest rest' →
        AreGiven (q ∷ qs) (arg_first env σ a rest) (arg_first env' τ a rest')
    arg_given q qs (value e) rest rest' h g = value_given q qs e rest rest' h g
    arg_given q qs (shared x) rest rest' h g = named_given q qs x rest rest' h.shown.0 (h.careful x refl) g
    arg_given q qs (mutable x) rest rest' h g = named_given q qs x rest rest' h.shown.0 (h.careful x refl) g

    args_given : (qs : List Param) (args : TArgs) → AreLawful hidden fs qs args → AreGiven qs (args_of env σ args) (args_of env' τ args)
    args_given [] no_args h = tt
    args_given (q ∷ qs) (more_args a rest) h = arg_given q qs a (args_of env σ rest) (args_of env' τ rest) h.0 (args_given qs rest h.1)
    args_given [] (more_args a rest) h = absurd h
    args_given (q ∷ qs) no_args h = absurd h

  given_alike : (qs : List Param) (a b : Given) (n : ℕ) (σ τ : Store) (f g : List Passed → Outcome) → M σ τ → AreGiven qs a b → ((xs ys : List Passed) → ArePassed qs xs ys → Alike (f xs) (g ys)) →
      Alike (with_args a n σ f) (with_args b n τ g)
  given_alike qs (Passes xs) (Passes ys) n σ τ f g m h k = k xs ys h
  given_alike qs (Breaks t) (Breaks u) n σ τ f g m h k = subst (λ v. Alike (trapped t n σ) (trapped v n τ)) h (trap_alike t n σ τ m)
  given_alike qs (Passes xs) (Breaks u) n σ τ f g m h k = absurd h
  given_alike qs (Breaks t) (Passes ys) n σ τ f g m h k = absurd h

  -- ---- loops

  for_alike : (t : ℕ) (i : ℤ) (f g : ℤ → Store → Outcome) (σ τ : Store) → M σ τ → ((i : ℤ) (σ τ : Store) → M σ τ → Alike (f i σ) (g i τ)) → Alike (for_turns t i f σ) (for_turns t i g τ)
  for_alike zero i f g σ τ m h = m
  for_alike (suc t) i f g σ τ m h = then_alike (f i σ) (g i τ) (for_turns t (i +ℤ pos 1) f) (for_turns t (i +ℤ pos 1) g) (h i σ τ m) (λ υ φ k. for_alike t (i +ℤ pos 1) f g υ φ k h)

  while_alike : (t n : ℕ) (uses : Bool) (s s' : Store → List ℕ) (c c' : Store → Got) (f g : Store → Outcome) (before : List ℕ) (σ τ : Store) → M σ τ → ((σ τ : Store) → M σ τ → s σ ≡ s' τ) →
      ((σ τ : Store) → M σ τ → c σ ≡ c' τ) → ((σ τ : Store) → M σ τ → Alike (f σ) (g τ)) → Alike (while_turns t n uses s c f before σ) (while_turns t n uses s' c' g before τ)
  while_alike zero n uses s s' c c' f g before σ τ m hs hc hf = beside_alike _ (done_beside r is start other_start uses n before) σ τ m
  while_alike (suc t) n uses s s' c c' f g before σ τ m hs hc hf =
      subst (λ l. Goal l (c' (used uses n l τ))) (hs σ τ m) (subst (λ v. Goal (s σ) v) (hc (used uses n (s σ) σ) (used uses n (s σ) τ) u)
      (value_alike (c (used uses n (s σ) σ)) n (used uses n (s σ) σ) (used uses n (s σ) τ) _ _ u (λ v.
      either_alike (is_zero v.num) (Went (done uses n (union before (s σ)) (used uses n (s σ) σ))) _ (Went (done uses n (union before (s σ)) (used uses n (s σ) τ))) _
      (beside_alike _ (done_beside r is start other_start uses n (union before (s σ))) (used uses n (s σ) σ) (used uses n (s σ) τ) u)
      (then_alike (f (used uses n (s σ) σ)) (g (used uses n (s σ) τ)) _ _ (hf (used uses n (s σ) σ) (used uses n (s σ) τ) u)
      (λ υ φ k. while_alike t n uses s s' c c' f g (union before (s σ)) υ φ k hs hc hf)))))
    where
      u : M (used uses n (s σ) σ) (used uses n (s σ) τ)
      u = beside_alike _ (used_beside r is start other_start uses n (s σ)) σ τ m

      Goal : List ℕ → Got → Type 0
      Goal l v = Alike (while_turns (suc t) n uses s c f before σ)
          (with_value v n (used uses n l τ) (λ v. if is_zero v.num then Went (done uses n (union before l) (used uses n l τ)) else then_do (g (used uses n l τ))
          (while_turns t n uses s' c' g (union before l))))

  -- ---- statements

  module _ (p : TProgram) (regions : List TRegion) (Quiet : Text → TFunction → Type 0) (function_at : Text → Option TFunction) (call_of : Text → List Passed → Store → Outcome) (home : ℤ → ℕ)
      (calls : (f : Text) (g : TFunction) → function_at f ≡ Some g → Quiet f g → (xs ys : List Passed) (σ τ : Store) → M σ τ → ArePassed g.params xs ys → Alike (call_of f xs σ) (call_of f ys τ)) where
    abbrev LawfulCall : Flags → TCall → Type 0
    LawfulCall = IsLawfulCall hidden p Quiet function_at

    call_alike : (fs : Flags) (env env' : List Binding) (n : ℕ) (c : TCall) (σ τ : Store) → Sees fs env env' → LawfulCall fs c → M σ τ →
        Alike (call_run p.names regions call_of home env n σ c) (call_run p.names regions call_of home env' n τ c)
    call_alike fs env env' n (call f args) σ τ s h m =
        given_alike h.0.params (args_of env σ args) (args_of env' τ args) n σ τ (λ ps. call_of f ps σ) (λ ps. call_of f ps τ) m (args_given fs env env' s σ τ m h.0.params args h.3)
        (λ xs ys k. calls f h.0 h.1 h.2 xs ys σ τ m k)

    right_alike : (fs : Flags) (env env' : List Binding) (n : ℕ) (a : TRight) (σ τ : Store) → Sees fs env env' → IsLawfulRight hidden p Quiet function_at fs a → M σ τ →
        Alike (right_run p.names regions call_of home env n σ a) (right_run p.names regions call_of home env' n τ a)
    right_alike fs env env' n (right_value e) σ τ s h m =
        subst (λ g. Alike (with_value (value_of env σ e) n σ (λ v. Returned v σ)) (with_value g n τ (λ v. Returned v τ))) (value_twin fs env env' s σ τ m e h)
        (value_alike (value_of env σ e) n σ τ (λ v. Returned v σ) (λ v. Returned v τ) m (λ v. (refl, m)))
    right_alike fs env env' n (right_sense q) σ τ s h m = sense_alike (number_in p.names.sensors q) σ τ m
    right_alike fs env env' n (right_call c) σ τ s h m = call_alike fs env env' n c σ τ s h m

    write_alike : (fs : Flags) (env env' : List Binding) (x : Text) (σ τ : Store) (h h' : Held) → Sees fs env env' → hidden x ≡ false → flag_of fs x ≡ false → h ≡ h' → M σ τ →
        M (put σ (place_of env x) h) (put τ (place_of env' x) h')
    write_alike fs env env' x σ τ h h' s shown flag e m =
        subst (λ q. M (put σ (place_of env x) h) (put τ q h')) (sym (s.named x shown).place)
        (subst (λ v. M (put σ (place_of env x) h) (put τ (r.to (place_of env x)) v)) e (put_match r is start other_start σ τ (place_of env x) h (s.named x shown).live (s.free x shown flag) m))

    assign_alike : (fs : Flags) (env env' : List Binding) (n : ℕ) (x : Text) (a : TRight) (σ τ : Store) → Sees fs env env'
        → (hidden x ≡ false) × (flag_of fs x ≡ false) × IsLawfulRight hidden p Quiet function_at fs a → M σ τ
        → Alike (with_result (right_run p.names regions call_of home env n σ a) (λ v υ. Went (put υ (place_of env x) (replaced (held_at υ (place_of env x)) v))))
        (with_result (right_run p.names regions call_of home env' n τ a) (λ v υ. Went (put υ (place_of env' x) (replaced (held_at υ (place_of env' x)) v))))
    assign_alike fs env env' n x a σ τ s h m =
        result_alike (right_run p.names regions call_of home env n σ a) (right_run p.names regions call_of home env' n τ a) _ _ (right_alike fs env env' n a σ τ s h.2 m)
        (λ v υ φ k. write_alike fs env env' x υ φ (replaced (held_at υ (place_of env x)) v) (replaced (held_at φ (place_of env' x)) v) s h.0 h.1
        (ap (λ w. replaced w v) (held_twin fs env env' s υ φ k x h.0)) k)

    element_alike : (fs : Flags) (env env' : List Binding) (x : Text) (i v : Value) (n : ℕ) (σ τ : Store) → Sees fs env env' → hidden x ≡ false → flag_of fs x ≡ false → M σ τ
        → Alike (element_written (place_of env x) (element_of (length (held_at σ (place_of env x)).words) i.num) i v n σ)
        (element_written (place_of env' x) (element_of (length (held_at τ (place_of env' x)).words) i.num) i v n τ)
    element_alike fs env env' x i v n σ τ s shown flag m =
        subst (λ w. Alike (element_written (place_of env x) (element_of (length (held_at σ (place_of env x)).words) i.num) i v n σ)
        (element_written (place_of env' x) (element_of (length w.words) i.num) i v n τ)) same (by (element_of (length (held_at σ (place_of env x)).words) i.num))
      where
        same : held_at σ (place_of env x) ≡ held_at τ (place_of env' x)
        same = held_twin fs env env' s σ τ m x shown

        by : (o : Option ℕ) → Alike (element_written (place_of env x) o i v n σ) (element_written (place_of env' x) o i v n τ)
        by None = trap_alike _ n σ τ m
        by (Some e) = write_alike fs env env' x σ τ _ _ s shown flag (ap (λ w. with_element w e v.num (union i.samples v.samples)) same) m

    turn_sees : (fs : Flags) (env env' : List Binding) (x : Text) (i : ℤ) → Sees fs env env' → Sees ((x, false) ∷ fs) (in_turn x i ∷ env) (in_turn x i ∷ env')
    turn_sees fs env env' x i s =
        sees_more fs env env' x false (in_turn x i) (in_turn x i) refl refl (record { place = sym (is.turns i).0; live = (is.turns i).1; reference = refl; fresh = refl }) (λ e. (is.turns i).2) s

    let_sees : (fs : Flags) (env env' : List Binding) (x : Text) (rest : TStmts) (σ τ : Store) → M σ τ → Sees fs env env' → Sees ((x, false) ∷ fs) (bound_to x rest σ ∷ env) (bound_to x rest τ ∷ env')
    let_sees fs env env' x rest σ τ m s =
        sees_more fs env env' x false (bound_to x rest σ) (bound_to x rest τ) refl refl
        (record {
          place = ap Local m.other_count ∙ sym (is.later m.more) ∙ ap (λ n. r.to (Local n)) (sym m.count);
          live = ap (λ n. r.live (Local n)) m.count
              ∙ is.later_live m.more;
          reference = refl;
          fresh = refl;
        })
        (λ e. ap (λ n. r.fixed (Local n)) m.count ∙ is.later_free m.more) s

    grown_sees : (fs : Flags) (env env' : List Binding) (k : TKind) (rest : TStmts) (σ τ : Store) → M σ τ → Sees fs env env' → Sees (flags_behind fs k) (grown k rest env σ) (grown k rest env' τ)
    grown_sees fs env env' (let_to u x t a) rest σ τ m s = let_sees fs env env' x rest σ τ m s
    grown_sees fs env env' (let_array u x t z n) rest σ τ m s = let_sees fs env env' x rest σ τ m s
    grown_sees fs env env' k rest σ τ m s = s

    begins_twin : (fs : Flags) (env env' : List Binding) → Sees fs env env' → (k : TKind) → Shown hidden (own_names k) → begins_use (is_fresh env) k ≡ begins_use (is_fresh env') k
    begins_twin fs env env' s (while_do c n b) h = refl
    begins_twin fs env env' s k h = is_use_twin fs env env' s (own_names k) h

    ends_twin : (fs : Flags) (env env' : List Binding) → Sees fs env env' → (k : TKind) → Shown hidden (own_names k) → ends_use (is_fresh env) k ≡ ends_use (is_fresh env') k
    ends_twin fs env env' s (while_do c n b) h = refl
    ends_twin fs env env' s (return e) h = refl
    ends_twin fs env env' s k h = is_use_twin fs env env' s (own_names k) h

    entered_alike : (id : ℕ) (σ τ : Store) → M σ τ → M (entered id σ) (entered id τ)
    entered_alike id σ τ m = beside_alike (entered id) (record { locals = λ υ. refl; nv = λ υ. refl; commutes = λ υ. refl }) σ τ m

    mutual
      kind_alike : (fs : Flags) (env env' : List Binding) (n : ℕ) (k : TKind) (σ τ : Store) → Sees fs env env' → Shown hidden (own_names k) → IsLawful hidden p Quiet function_at fs k → M σ τ →
          Alike (kind_run p.names regions call_of home env n k σ) (kind_run p.names regions call_of home env' n k τ)
      kind_alike fs env env' n (let_to u x t a) σ τ s o h m =
          result_alike (right_run p.names regions call_of home env n σ a) (right_run p.names regions call_of home env' n τ a) _ _ (right_alike fs env env' n a σ τ s h m)
          (λ v υ φ k. made_match r is start other_start υ φ (holding v) k)
      kind_alike fs env env' n (let_array u x t z c) σ τ s o h m = made_match r is start other_start σ τ (array_of z c) m
      kind_alike fs env env' n (assign x a) σ τ s o h m = assign_alike fs env env' n x a σ τ s h m
      kind_alike fs env env' n (assign_deref x a) σ τ s o h m = assign_alike fs env env' n x a σ τ s h m
      kind_alike fs env env' n (assign_index x e a) σ τ s o h m =
          result_alike (right_run p.names regions call_of home env n σ a) (right_run p.names regions call_of home env' n τ a) _ _ (right_alike fs env env' n a σ τ s h.3 m)
          (λ v υ φ k. subst (λ g. Alike (with_value (value_of env υ e) n υ
          (λ i. element_written (place_of env x) (element_of (length (held_at υ (place_of env x)).words) i.num) i v n υ))
          (with_value g n φ (λ i. element_written (place_of env' x) (element_of (length (held_at φ (place_of env' x)).words) i.num) i v n φ))) (value_twin fs env env' s υ φ k e h.2)
          (value_alike (value_of env υ e) n υ φ _ _ k (λ i. element_alike fs env env' x i v n υ φ s h.0 h.1 k)))
      kind_alike fs env env' n (if_else c a b) σ τ s o h m =
          subst (λ g. Alike (with_value (value_of env σ c) n σ
          (λ v. if is_zero v.num then else_run p.names regions call_of home env b σ else block_run p.names regions call_of home env a σ))
          (with_value g n τ (λ v. if is_zero v.num then else_run p.names regions call_of home env' b τ else block_run p.names regions call_of home env' a τ)))
          (value_twin fs env env' s σ τ m c h.0)
          (value_alike (value_of env σ c) n σ τ _ _ m
          (λ v. either_alike (is_zero v.num) (else_run p.names regions call_of home env b σ) _ (else_run p.names regions call_of home env' b τ) _
          (else_alike fs env env' b σ τ s h.2 m) (block_alike fs env env' a σ τ s h.1 m)))
      kind_alike fs env env' n (for_in x c d b) σ τ s o h m =
          for_alike (count_of (d -ℤ c)) c _ _ σ τ m (λ i υ φ k. block_alike ((x, false) ∷ fs) (in_turn x i ∷ env) (in_turn x i ∷ env') b υ φ (turn_sees fs env env' x i s) h k)
      kind_alike fs env env' n (while_do c t b) σ τ s o h m =
          subst (λ u. Alike (kind_run p.names regions call_of home env n (while_do c t b) σ)
          (while_turns t n u (use_samples env' (while_do c t b)) (λ υ. value_of env' υ c) (block_run p.names regions call_of home env' b) [] τ))
          (is_use_twin fs env env' s (own_names (while_do c t b)) o)
          (while_alike t n (is_use (is_fresh env) (while_do c t b)) (use_samples env (while_do c t b)) (use_samples env' (while_do c t b)) (λ υ. value_of env υ c)
          (λ υ. value_of env' υ c) (block_run p.names regions call_of home env b) (block_run p.names regions call_of home env' b) [] σ τ m
          (λ υ φ k. fresh_twin fs env env' s υ φ k (expr_names c) o) (λ υ φ k. value_twin fs env env' s υ φ k c h.0) (λ υ φ k. block_alike fs env env' b υ φ s h.1 k))
      kind_alike fs env env' n (call_only c) σ τ s o h m =
          result_alike (call_run p.names regions call_of home env n σ c) (call_run p.names regions call_of home env' n τ c) _ _ (call_alike fs env env' n c σ τ s h m) (λ v υ φ k. k)
      kind_alike fs env env' n (sense_only q) σ τ s o h m =
          result_alike (sense (number_in p.names.sensors q) σ.left σ) (sense (number_in p.names.sensors q) τ.left τ) _ _ (sense_alike (number_in p.names.sensors q) σ τ m) (λ v υ φ k. k)
      kind_alike fs env env' n (emit q e) σ τ s o h m =
          subst (λ g. Alike (kind_run p.names regions call_of home env n (emit q e) σ)
          (with_value g n τ (λ v. Went (noted (Showed (Emitted (number_in p.names.ports q) v.num)) v.samples τ)))) (value_twin fs env env' s σ τ m e h)
          (value_alike (value_of env σ e) n σ τ _ _ m (λ v. beside_alike _ (noted_beside r is start other_start _ v.samples) σ τ m))
      kind_alike fs env env' n (fresh x) σ τ s o h m = m
      kind_alike fs env env' n (consistent x k) σ τ s o h m =
          subst (λ w. M (tagged (home k) n (held_at σ (place_of env x)).samples σ) (tagged (home k) n w.samples τ)) (held_twin fs env env' s σ τ m x h)
          (beside_alike (tagged (home k) n (held_at σ (place_of env x)).samples) (record { locals = λ υ. refl; nv = λ υ. refl; commutes = λ υ. refl }) σ τ m)
      kind_alike fs env env' n (return e) σ τ s o h m =
          subst (λ g. Alike (kind_run p.names regions call_of home env n (return e) σ)
          (with_value g n τ (λ v. Returned v (closed (ended_by regions n) (done (is_use (is_fresh env') (return e)) n (use_samples env' (return e) τ) τ))))) (value_twin fs env env' s σ τ m e h)
          (value_alike (value_of env σ e) n σ τ _ _ m (λ v. (
            refl,
            beside_alike (closed (ended_by regions n)) (closed_beside r is start other_start (ended_by regions n)) _ _
                (subst (λ b. M (done (is_use (is_fresh env) (return e)) n (use_samples env (return e) σ) σ) (done b n (use_samples env' (return e) τ) τ))
                (is_use_twin fs env env' s (own_names (return e)) o)
                (subst (λ l. M (done (is_use (is_fresh env) (return e)) n (use_samples env (return e) σ) σ) (done (is_use (is_fresh env) (return e)) n l τ))
                (fresh_twin fs env env' s σ τ m (own_names (return e)) o)
                (beside_alike _ (done_beside r is start other_start (is_use (is_fresh env) (return e)) n (use_samples env (return e) σ)) σ τ m))),
          )))

      else_alike : (fs : Flags) (env env' : List Binding) (b : TElse) (σ τ : Store) → Sees fs env env' → IsLawfulElse hidden p Quiet function_at fs b → M σ τ →
          Alike (else_run p.names regions call_of home env b σ) (else_run p.names regions call_of home env' b τ)
      else_alike fs env env' no_else σ τ s h m = m
      else_alike fs env env' (else_do b) σ τ s h m = block_alike fs env env' b σ τ s h m

      pub block_alike : (fs : Flags) (env env' : List Binding) (b : TBlock) (σ τ : Store) → Sees fs env env' → IsLawfulBlock hidden p Quiet function_at fs b → M σ τ →
          Alike (block_run p.names regions call_of home env b σ) (block_run p.names regions call_of home env' b τ)
      block_alike fs env env' (block id ss) σ τ s h m = left_alike σ τ m _ _ (stmts_alike fs env env' ss (entered id σ) (entered id τ) s h (entered_alike id σ τ m))

      pub stmts_alike : (fs : Flags) (env env' : List Binding) (ss : TStmts) (σ τ : Store) → Sees fs env env' → AreLawfulAll hidden p Quiet function_at fs ss → M σ τ →
          Alike (stmts_run p.names regions call_of home env ss σ) (stmts_run p.names regions call_of home env' ss τ)
      stmts_alike fs env env' no_stmts σ τ s h m = m
      stmts_alike fs env env' (more (stmt n line k) rest) σ τ s h m =
          let set : List ℕ = use_samples env k σ in
          let begins : Bool = begins_use (is_fresh env) k in
          let ends : Bool = ends_use (is_fresh env) k in
          let o = beside_alike (opened (begun_by regions n)) (opened_beside r is start other_start (begun_by regions n)) σ τ m in
          let u = beside_alike (used begins n set) (used_beside r is start other_start begins n set) (opened (begun_by regions n) σ) (opened (begun_by regions n) τ) o in
          let first = finished_alike _ _ (λ υ. closed (ended_by regions n) (done ends n set υ)) (λ υ. closed (ended_by regions n) (done ends n set υ)) (kind_alike fs env env' n k _ _ s h.0 h.1 u)
          (λ υ φ q. beside_alike (closed (ended_by regions n)) (closed_beside r is start other_start (ended_by regions n)) _ _
          (beside_alike (done ends n set) (done_beside r is start other_start ends n set) υ φ q)) in
          let whole = then_alike _ _ (stmts_run p.names regions call_of home (grown k rest env σ) rest) (stmts_run p.names regions call_of home (grown k rest env' τ) rest) first
          (λ υ φ q. stmts_alike (flags_behind fs k) (grown k rest env σ) (grown k rest env' τ) rest υ φ (grown_sees fs env env' k rest σ τ m s) h.2 q) in
          subst (λ (d : Bool × Bool × List ℕ). Alike (stmts_run p.names regions call_of home env (more (stmt n line k) rest) σ)
          (then_do (finished (λ υ. closed (ended_by regions n) (done d.1 n d.2 υ))
          (kind_run p.names regions call_of home env' n k (used d.0 n d.2 (opened (begun_by regions n) τ)))) (stmts_run p.names regions call_of home (grown k rest env' τ) rest)))
          (same3 _ _ _ _ _ _ (begins_twin fs env env' s k h.0) (ends_twin fs env env' s k h.0) (fresh_twin fs env env' s σ τ m (own_names k) h.0)) whole
