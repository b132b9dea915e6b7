-- What a part of a function tells of one consistent set: the tags of its own statements, each of the execution of the set's block that is under way.
use Rattle.std.proofs.Common.{◌≡◌, inl, inr, ℕ, suc, ◌+◌, ◌≤◌, ◌==◌, Bool, true, false, List, [], ◌∷◌, ◌++◌, length, Option, Some, cond, refl, ap, sym, subst, ◌∙◌, arith, true≢false}
use Rattle.std.specs.Prelude.{ℤ, ◌||◌, ◌-ℤ◌, count_by}
use Rattle.std.proofs.lemmas.List.Sums.{sum_by-cons}
use Rattle.oc_tree.specs.Names.{Text, NameLists}
use Rattle.oc_tree.specs.Tree.{TCall, call, TRight, right_value, right_sense, right_call, TKind, let_to, let_array, assign, assign_index, assign_deref, if_else, for_in, while_do}
use Rattle.oc_tree.specs.Tree.{call_only, sense_only, emit, fresh, consistent, return, TElse, no_else, else_do, stmt, TBlock, block, TStmts, no_stmts, more, TFunction, TProgram}
use Rattle.oc_tree.specs.Marked.{TRegion}
use Rattle.oc_tree.specs.declared.said.Said.TheVariants.{Showed}
use Rattle.oc_tree.specs.declared.said.Shown.TheVariants.{Tagged}
use Rattle.oc_meaning.specs.Blocks.{set_home}
use Rattle.oc_meaning.specs.Store.{Event, Store, Binding, held_at, place_of, happened}
use Rattle.oc_meaning.specs.Eval.{is_zero, element_of, value_of}
use Rattle.oc_meaning.specs.Uses.{is_fresh, is_use, use_samples, begins_use, ends_use}
use Rattle.oc_meaning.specs.Exec.{begun_by, ended_by, Outcome, Went, Returned, Stopped, Passed, number_in, opened, closed, used, done, sense, args_of, in_turn, grown}
use Rattle.oc_tree.specs.Weight.{count_of}
use Rattle.oc_meaning.specs.Exec.{entered, tagged, call_run, right_run, kind_run, else_run, block_run, stmts_run}
use Rattle.oc_effects.specs.Effects.{call_of, right_call_of}
use Rattle.oc_tree.specs.Members.{IsOf}
use Rattle.oc_honest.specs.Timely.{set_of}
use Rattle.oc_timely.specs.Steps.{IsTag}
use Rattle.oc_timely.specs.Sets.{times}
use Rattle.oc_timely.proofs.Closed.{tag_number, IsNoTag, IsClosed, KOut, k_opened, k_closed, k_used, k_done, k_put, k_finished, k_leave, k_result, k_value, k_if, k_sense}
use Rattle.oc_timely.proofs.Closed.{k_element, k_args, k_for, k_while}

-- ---- what was told

module _ (p : TProgram) (f : ℕ) (g : TFunction) (k : ℤ) where
  -- a tag of the set
  abbrev pub IsOne : Event → Type 0
  IsOne e = IsTag p (f, k) e.instance e

  -- no tag of the set is of a later instance than that under way
  abbrev pub AreNumbered : Store → Type 0
  AreNumbered σ = (e : Event) → IsOf e σ.events → IsOne e → e.instance ≤ times g k σ

  -- What was told since `older`: the tags of the set in it are of the instance c or later, and of such statements. `inside` says
  -- whether the set's block has begun since.
  pub record Since (older : List Event) (c : ℕ) (own : ℕ → Type 0) (inside : Bool) (σ : Store) : Type 0 where
    pub newer : List Event
    pub is : σ.events ≡ newer ++ older
    pub tags : (e : Event) → IsOf e newer → (t : IsOne e) → (c ≤ e.instance) × own t.stmt
    pub numbered : AreNumbered σ
    pub soon : c ≤ suc (times g k σ)
    pub reached : inside ≡ true → c ≤ times g k σ

  pub numbered_told : (e : Event) (σ : Store) → IsNoTag e.said → AreNumbered σ → AreNumbered (happened e σ)
  numbered_told e σ n h x (inl s) t = absurd (subst IsNoTag (sym (ap (λ (y : Event). y.said) s) ∙ t.said) n)
  numbered_told e σ n h x (inr o) t = h x o t

  pub times_entered : (id : ℕ) (σ : Store) → times g k (entered id σ) ≡ cond (set_home g.body k == id) 1 0 + times g k σ
  times_entered id σ = sum_by-cons (λ b. cond (set_home g.body k == b) 1 0) id σ.blocks

  pub numbered_entered : (id : ℕ) (σ : Store) → AreNumbered σ → AreNumbered (entered id σ)
  numbered_entered id σ h x o t = let c = times_entered id σ in let l = h x o t in omega (arith, c, l)

  module _ (older : List Event) (c : ℕ) (own : ℕ → Type 0) where
    abbrev pub SinceOut : Bool → Outcome → Type 0
    SinceOut i o = KOut (Since older c own i) o

    -- what began since began since
    pub since_less : (i j : Bool) (σ : Store) → (j ≡ true → i ≡ true) → Since older c own i σ → Since older c own j σ
    since_less i j σ l h = record { newer = h.newer; is = h.is; tags = h.tags; numbered = h.numbered; soon = h.soon; reached = λ e. h.reached (l e) }

    less_out : (i j : Bool) (o : Outcome) → (j ≡ true → i ≡ true) → SinceOut i o → SinceOut j o
    less_out i j (Went τ) l h = since_less i j τ l h
    less_out i j (Returned v τ) l h = since_less i j τ l h
    less_out i j (Stopped s τ) l h = since_less i j τ l h

    module _ (inside : Bool) where
      abbrev C : Store → Type 0
      C σ = Since older c own inside σ

      pub since_told : (e : Event) (σ : Store) → IsNoTag e.said → C σ → C (happened e σ)
      since_told e σ n h = record { newer = e ∷ h.newer; is = ap (λ l. e ∷ l) h.is; tags = tags; numbered = numbered_told e σ n h.numbered; soon = h.soon; reached = h.reached }
        where
          tags : (x : Event) → IsOf x (e ∷ h.newer) → (t : IsOne x) → (c ≤ x.instance) × own t.stmt
          tags x (inl s) t = absurd (subst IsNoTag (sym (ap (λ (y : Event). y.said) s) ∙ t.said) n)
          tags x (inr o) t = h.tags x o t

      -- what has the same events and blocks
      pub since_like : (σ τ : Store) → τ.events ≡ σ.events → τ.blocks ≡ σ.blocks → C σ → C τ
      since_like σ τ e b h =
          let same : times g k τ ≡ times g k σ = ap (λ bs. count_by (λ id. set_home g.body k == id) bs) b in
          record {
            newer = h.newer;
            is = e ∙ h.is;
            tags = h.tags;
            numbered = λ x o t. let l = h.numbered x (subst (IsOf x) e o) t in omega (arith, l, same);
            soon = let l = h.soon in omega (arith, l, same);
            reached = λ t. let l = h.reached t in omega (arith, l, same);
          }

      pub since_tagged : (home n : ℕ) (samples : List ℕ) (σ : Store) → (set_of p n ≡ Some (f, k) → (inside ≡ true) × (set_home g.body k ≡ home) × own n) → C σ → C (tagged home n samples σ)
      since_tagged home n samples σ its h = record { newer = e ∷ h.newer; is = ap (λ l. e ∷ l) h.is; tags = tags; numbered = numbered; soon = h.soon; reached = h.reached }
        where
          e : Event
          e = record { said = Showed (Tagged n); samples = samples; instance = count_by (λ b. home == b) σ.blocks }

          number : (x : Event) → x ≡ e → (t : IsOne x) → n ≡ t.stmt
          number x s t = ap tag_number (sym (ap (λ (y : Event). y.said) s) ∙ t.said)

          now : (x : Event) → x ≡ e → IsOne x → x.instance ≡ times g k σ
          now x s t = ap (λ (y : Event). y.instance) s ∙ ap (λ m. count_by (λ b. m == b) σ.blocks) (sym (its (ap (set_of p) (number x s t) ∙ t.set_is)).1)

          tags : (x : Event) → IsOf x (e ∷ h.newer) → (t : IsOne x) → (c ≤ x.instance) × own t.stmt
          tags x (inl s) t = (
            let l = h.reached (its (ap (set_of p) (number x s t) ∙ t.set_is)).0 in let i = now x s t in
                omega (arith, l, i),
            subst own (number x s t) (its (ap (set_of p) (number x s t) ∙ t.set_is)).2,
          )
          tags x (inr o) t = h.tags x o t

          numbered : AreNumbered (tagged home n samples σ)
          numbered x (inl s) t = let i = now x s t in omega (arith, i)
          numbered x (inr o) t = h.numbered x o t

    -- a block begins
    pub since_entered : (i : Bool) (id : ℕ) (σ : Store) → Since older c own i σ → Since older c own (i || (set_home g.body k == id)) (entered id σ)
    since_entered i id σ h = record {
      newer = h.newer;
      is = h.is;
      tags = h.tags;
      numbered = numbered_entered id σ h.numbered;
      soon = let l = h.soon in let e = times_entered id σ in omega (arith, l, e);
      reached = λ t. by i (set_home g.body k == id) refl t h.reached;
    }
      where
        by : (i b : Bool) → (set_home g.body k == id) ≡ b → i || b ≡ true → (i ≡ true → c ≤ times g k σ) → c ≤ times g k (entered id σ)
        by true b e t r = let l = r refl in let q = times_entered id σ in omega (arith, l, q)
        by false true e t r = let l = h.soon in let q = times_entered id σ in let one : ◌≡◌ {A = ℕ} (cond (set_home g.body k == id) 1 0) 1 = ap (λ z. cond z 1 0) e in omega (arith, l, q, one)
        by false false e t r = absurd (true≢false (sym t))

    -- so it is kept by all but tags
    pub is_closed : (i : Bool) → IsClosed (Since older c own i)
    is_closed i = record {
      like = since_like i;
      told = since_told i;
      enters = λ id σ h. since_less (i || (set_home g.body k == id)) i (entered id σ) (λ e. ap (λ z. z || (set_home g.body k == id)) e) (since_entered i id σ h);
    }

    pub since_opened : (i : Bool) (o : Option ℕ) (σ : Store) → Since older c own i σ → Since older c own i (opened o σ)
    since_opened i o σ h = k_opened (Since older c own i) (is_closed i) o σ h

    pub since_closed : (i : Bool) (o : Option ℕ) (σ : Store) → Since older c own i σ → Since older c own i (closed o σ)
    since_closed i o σ h = k_closed (Since older c own i) (is_closed i) o σ h

    pub since_used : (i : Bool) (b : Bool) (n : ℕ) (s : List ℕ) (σ : Store) → Since older c own i σ → Since older c own i (used b n s σ)
    since_used i b n s σ h = k_used (Since older c own i) (is_closed i) b n s σ h

    pub since_done : (i : Bool) (b : Bool) (n : ℕ) (s : List ℕ) (σ : Store) → Since older c own i σ → Since older c own i (done b n s σ)
    since_done i b n s σ h = k_done (Since older c own i) (is_closed i) b n s σ h

    -- ---- statements

    module _ (regions : List TRegion) (call_at : Text → List Passed → Store → Outcome) (home : ℤ → ℕ) where
      abbrev Its : Bool → Store → Type 0
      Its i = Since older c own i

      abbrev names : NameLists
      names = p.names

      -- what is asked of a call, and of a statement
      abbrev pub CallsFit : Bool → Option TCall → Type 0
      CallsFit i o = (x : Text) (args : _) → o ≡ Some (call x args) → (ps : List Passed) (σ : Store) → Since older c own i σ → SinceOut i (call_at x ps σ)

      abbrev pub NoteFits : Bool → ℕ → TKind → Type 0
      NoteFits i n (consistent x j) = set_of p n ≡ Some (f, k) → (i ≡ true) × (set_home g.body k ≡ home j) × own n
      NoteFits i n s = Unit {0}

      abbrev pub Fits : Bool → ℕ → TKind → Type 0
      Fits i n s = NoteFits i n s × CallsFit i (call_of s)

      -- of all statements inside
      abbrev mutual
        pub KindFits : Bool → TKind → Type 0
        KindFits i (if_else d x y) = BlockFits i x × ElseFits i y
        KindFits i (for_in x m n b) = BlockFits i b
        KindFits i (while_do d t b) = BlockFits i b
        KindFits i s = Unit {0}

        pub ElseFits : Bool → TElse → Type 0
        ElseFits i no_else = Unit {0}
        ElseFits i (else_do b) = BlockFits i b

        pub BlockFits : Bool → TBlock → Type 0
        BlockFits i (block id ss) = StmtsFit (i || (set_home g.body k == id)) ss

        pub StmtsFit : Bool → TStmts → Type 0
        StmtsFit i no_stmts = Unit {0}
        StmtsFit i (more (stmt n line s) rest) = Fits i n s × KindFits i s × StmtsFit i rest

      call_since : (i : Bool) (env : List Binding) (n : ℕ) (σ : Store) (d : TCall) → CallsFit i (Some d) → Since older c own i σ → SinceOut i (call_run names regions call_at home env n σ d)
      call_since i env n σ (call x args) fit h = k_args (Its i) (is_closed i) (args_of env σ args) n σ (λ ps. call_at x ps σ) h (λ ps. fit x args refl ps σ h)

      right_since : (i : Bool) (env : List Binding) (n : ℕ) (σ : Store) (r : TRight) → CallsFit i (right_call_of r) → Since older c own i σ →
          SinceOut i (right_run names regions call_at home env n σ r)
      right_since i env n σ (right_value e) fit h = k_value (Its i) (is_closed i) (value_of env σ e) n σ (λ v. Returned v σ) h (λ v. h)
      right_since i env n σ (right_sense s) fit h = k_sense (Its i) (is_closed i) (number_in names.sensors s) σ.left σ h
      right_since i env n σ (right_call c) fit h = call_since i env n σ c fit h

      mutual
        pub kind_since : (i : Bool) (env : List Binding) (n : ℕ) (s : TKind) (σ : Store) → Fits i n s → KindFits i s → Since older c own i σ →
            SinceOut i (kind_run names regions call_at home env n s σ)
        kind_since i env n (let_to mu x t e) σ a p h =
            k_result (Its i) (is_closed i) (right_run names regions call_at home env n σ e) _ (right_since i env n σ e a.1 h) (λ v τ g. since_like i τ _ refl refl g)
        kind_since i env n (let_array mu x t z c) σ a p h = since_like i σ _ refl refl h
        kind_since i env n (assign x e) σ a p h =
            k_result (Its i) (is_closed i) (right_run names regions call_at home env n σ e) _ (right_since i env n σ e a.1 h) (λ v τ g. k_put (Its i) (is_closed i) τ (place_of env x) _ g)
        kind_since i env n (assign_index x y e) σ a p h =
            k_result (Its i) (is_closed i) (right_run names regions call_at home env n σ e) _ (right_since i env n σ e a.1 h)
            (λ v τ g. k_value (Its i) (is_closed i) (value_of env τ y) n τ _ g
            (λ w. k_element (Its i) (is_closed i) (place_of env x) (element_of (length (held_at τ (place_of env x)).words) w.num) w v n τ g))
        kind_since i env n (assign_deref x e) σ a p h =
            k_result (Its i) (is_closed i) (right_run names regions call_at home env n σ e) _ (right_since i env n σ e a.1 h) (λ v τ g. k_put (Its i) (is_closed i) τ (place_of env x) _ g)
        kind_since i env n (if_else c x y) σ a p h =
            k_value (Its i) (is_closed i) (value_of env σ c) n σ _ h
            (λ v. k_if (Its i) (is_closed i) (is_zero v.num) (else_run names regions call_at home env y σ) _ (else_since i env y σ p.1 h) (block_since i env x σ p.0 h))
        kind_since i env n (for_in x c e b) σ a p h = k_for (Its i) (is_closed i) (count_of (e -ℤ c)) c _ σ (λ z τ g. block_since i (in_turn x z ∷ env) b τ p g) h
        kind_since i env n (while_do c t b) σ a p h =
            k_while (Its i) (is_closed i) t n (is_use (is_fresh env) (while_do c t b)) (use_samples env (while_do c t b)) (λ τ. value_of env τ c) (block_run names regions call_at home env b) [] σ
            (λ τ g. block_since i env b τ p g) h
        kind_since i env n (call_only c) σ a p h = k_result (Its i) (is_closed i) (call_run names regions call_at home env n σ c) _ (call_since i env n σ c a.1 h) (λ v τ g. g)
        kind_since i env n (sense_only s) σ a p h =
            k_result (Its i) (is_closed i) (sense (number_in names.sensors s) σ.left σ) _ (k_sense (Its i) (is_closed i) (number_in names.sensors s) σ.left σ h) (λ v τ g. g)
        kind_since i env n (emit s e) σ a p h = k_value (Its i) (is_closed i) (value_of env σ e) n σ _ h (λ v. since_told i _ σ tt h)
        kind_since i env n (fresh x) σ a p h = h
        kind_since i env n (consistent x j) σ a p h = since_tagged i (home j) n (held_at σ (place_of env x)).samples σ a.0 h
        kind_since i env n (return e) σ a p h = k_value (Its i) (is_closed i) (value_of env σ e) n σ _ h
            (λ v. since_closed i (ended_by regions n) (done (is_use (is_fresh env) (return e)) n (use_samples env (return e) σ) σ)
            (since_done i (is_use (is_fresh env) (return e)) n (use_samples env (return e) σ) σ h))

        pub else_since : (i : Bool) (env : List Binding) (b : TElse) (σ : Store) → ElseFits i b → Since older c own i σ → SinceOut i (else_run names regions call_at home env b σ)
        else_since i env no_else σ p h = h
        else_since i env (else_do b) σ p h = block_since i env b σ p h

        pub block_since : (i : Bool) (env : List Binding) (b : TBlock) (σ : Store) → BlockFits i b → Since older c own i σ → SinceOut i (block_run names regions call_at home env b σ)
        block_since i env (block id ss) σ p h = k_leave (Its i) (is_closed i) (length σ.locals) (stmts_run names regions call_at home env ss (entered id σ))
            (less_out (i || (set_home g.body k == id)) i (stmts_run names regions call_at home env ss (entered id σ)) (λ e. ap (λ z. z || (set_home g.body k == id)) e)
            (stmts_since (i || (set_home g.body k == id)) env ss (entered id σ) p (since_entered i id σ h)))

        pub stmts_since : (i : Bool) (env : List Binding) (ss : TStmts) (σ : Store) → StmtsFit i ss → Since older c own i σ → SinceOut i (stmts_run names regions call_at home env ss σ)
        stmts_since i env no_stmts σ p h = h
        stmts_since i env (more (stmt n line s) rest) σ p h =
            let υ : Store = used (begins_use (is_fresh env) s) n (use_samples env s σ) (opened (begun_by regions n) σ) in
            k_finished (Its i) (is_closed i) (kind_run names regions call_at home env n s υ)
            (λ τ. closed (ended_by regions n) (done (ends_use (is_fresh env) s) n (use_samples env s σ) τ)) (stmts_run names regions call_at home (grown s rest env σ) rest)
            (kind_since i env n s υ p.0 p.1 (since_used i (begins_use (is_fresh env) s) n (use_samples env s σ) (opened (begun_by regions n) σ) (since_opened i (begun_by regions n) σ h)))
            (λ τ e d. stmts_since i (grown s rest env σ) rest _ p.2
            (since_closed i (ended_by regions n) (done (ends_use (is_fresh env) s) n (use_samples env s σ) τ) (since_done i (ends_use (is_fresh env) s) n (use_samples env s σ) τ d)))
