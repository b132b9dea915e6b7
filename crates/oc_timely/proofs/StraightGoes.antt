-- What straight statements leave, where calls leave what they must: samples come to variables by the flow and by input alone.
use Rattle.std.proofs.Common.{◌≡◌, inl, inr, ℕ, suc, ◌+◌, ◌<◌, true, List, [], ◌∷◌, length, Option, Some, None, refl, sym, ap, ◌∙◌, subst, arith}
use Rattle.std.specs.Prelude.{ℤ, pos}
use Rattle.oc_tree.specs.Names.{Text}
use Rattle.oc_tree.specs.Tree.{TExpr, TRight, right_value, right_sense, right_call, TCall, TKind, let_to, let_array, assign, assign_index, assign_deref, if_else, for_in, while_do}
use Rattle.oc_tree.specs.Tree.{call_only, sense_only, emit, fresh, consistent, return, TProgram}
use Rattle.oc_tree.specs.Places.{Place as Spot, Placed}
use Rattle.oc_tree.specs.Marked.{TRegion}
use Rattle.oc_tree.specs.declared.tree.VarId.{VarId}
use Rattle.oc_tree.specs.declared.tree.VarId.TheVariants as variables
use Rattle.oc_tree.specs.Samples.{union}
use Rattle.oc_tree.specs.Named.{expr_names}
use Rattle.oc_meaning.specs.Store.{Value, Held, Place, Local, Global, Turn, Nowhere, Store, Binding, plain, holding, replaced, with_element, held_at, place_of, put, made, at, noted}
use Rattle.oc_tree.specs.declared.said.Said.TheVariants.{Sensed, Showed}
use Rattle.oc_tree.specs.declared.said.Shown.TheVariants.{Emitted}
use Rattle.oc_meaning.specs.Eval.{Got, Val, Traps, element_of, value_of}
use Rattle.oc_meaning.specs.Exec.{Outcome, Went, Returned, Stopped, Passed, with_value, with_result, sense, number_in, element_written, tagged, array_of, call_run, right_run, kind_run}
use Rattle.oc_effects.specs.Effects.{TEffect, effect_of, call_of, right_of, right_call_of, is_sense, value_names, source_names, variable_at}
use Rattle.oc_flow.specs.Variables.{is_variable}
use Rattle.oc_tree.specs.Members.{IsOf}
use Rattle.oc_flow.specs.Relations.{itself, by_input}
use Rattle.oc_copies.specs.Copies.{HasStored}
use Rattle.oc_timely.specs.Within.{Where, place_in, samples_of, Comes, new, Came}
use Rattle.oc_timely.specs.Steps.{AreTaken}
use Rattle.oc_timely.specs.Modes.{Sees, IsSteady, with_place, where_behind}
use Rattle.oc_copies.specs.Stands.{makes}
use Rattle.oc_copies.proofs.Cells.{put_locals}
use Rattle.oc_timely.proofs.Sampled.{in_union, got_samples, value_from}
use Rattle.oc_timely.proofs.Came.{comes_back, stays}
use Rattle.oc_timely.proofs.Sources.{source_comes}
use Rattle.oc_timely.proofs.Marks.{like_samples, IsQuiet, quiet_taken, sees_length}
use Rattle.oc_timely.proofs.Straight.{IsStraight}
use Rattle.oc_timely.proofs.Writes.{steady_put, steady_made, put_later, made_later}
use Rattle.oc_timely.proofs.SeesOn.{AreNamed}
use Rattle.oc_laws.proofs.Members.{of_left, of_right}

-- ---- outcomes

pub by_value_run : (g : Got) (n : ℕ) (σ : Store) (go : Value → Outcome) (υ : Store) (A : Type 0) → with_value g n σ go ≡ Went υ → ((v : Value) → g ≡ Val v → go v ≡ Went υ → A) → A
by_value_run (Val v) n σ go υ A e k = k v refl e
by_value_run (Traps t) n σ go υ A e k = absurd (cc)

pub same_store : (σ τ : Store) → Went σ ≡ Went τ → σ ≡ τ
same_store σ τ e = cc

steady_self : (σ : Store) → AreTaken σ → IsSteady σ σ
steady_self σ t = record { taken = t; deep = refl; since = λ d. refl }

-- the store behind an input
abbrev sensed_at : (s : ℕ) (z : ℤ) (zs : List ℤ) → Store → Store
sensed_at s z zs σ = noted (Sensed s z) (σ.taken ∷ []) (record σ { left = zs; taken = suc σ.taken })

same_held : (s : ℕ) (z : ℤ) (zs : List ℤ) (σ : Store) (q : Place) → held_at (sensed_at s z zs σ) q ≡ held_at σ q
same_held s z zs σ (Local l) = refl
same_held s z zs σ (Global l) = refl
same_held s z zs σ (Turn y) = refl
same_held s z zs σ Nowhere = refl

steady_sensed : (s : ℕ) (z : ℤ) (zs : List ℤ) (σ : Store) → AreTaken σ → IsSteady σ (sensed_at s z zs σ)
steady_sensed s z zs σ t = record {
  taken = record {
    held = λ q j h. let a = t.held q j (subst (λ (x : Held). IsOf j x.samples) (same_held s z zs σ q) h) in omega (arith, a);
    count = ap suc t.count;
    opened =
        t.opened;
    begun = let a = t.begun in omega (arith, a);
  };
  deep = refl;
  since = λ d. refl;
}

module _ (p : TProgram) (regions : List TRegion) (call : Text → List Passed → Store → Outcome) (home : ℤ → ℕ) (f base : ℕ) (body : List Placed) where
  -- the effect of this statement
  abbrev pub IsThis : Placed → TEffect → Type 0
  IsThis b a = a ≡ effect_of p b

  -- a right side gave a value, which goes to the target of its statement
  pub record RightGone (b : Placed) (w : Where) (σ τ : Store) (v : Value) : Type 0 where
    pub came : Came p f base (IsThis b) w w σ τ
    pub comes : (t : VarId) → (effect_of p b).target ≡ Some t → is_variable p f t ≡ true → (j : ℕ) → IsOf j v.samples → Comes p f (IsThis b) (samples_of σ w) σ.taken t j
    pub steady : IsSteady σ τ
    pub below : (j : ℕ) → IsOf j v.samples → j < τ.taken
    pub many : length τ.locals ≡ length σ.locals

  abbrev pub RightLeft : Placed → Where → Store → Outcome → Type 0
  RightLeft b w σ (Went τ) = RightGone b w σ τ (plain (pos 0))
  RightLeft b w σ (Returned v τ) = RightGone b w σ τ v
  RightLeft b w σ (Stopped s τ) = Unit {0}

  -- What each call of the body leaves.
  abbrev pub CallsGo : Type 0
  CallsGo =
      (b : Placed) → IsOf b body → (c : TCall) → call_of b.kind ≡ Some c → (env : List Binding) (w : Where) (σ : Store) → Sees p f base b.id b.at env w σ → AreTaken σ → HasStored p σ →
      RightLeft b w σ (call_run p.names regions call home env b.id σ c)

  by_result : (b : Placed) (w : Where) (σ : Store) (o : Outcome) (go : Value → Store → Outcome) (υ : Store) (A : Type 0) → RightLeft b w σ o → with_result o go ≡ Went υ →
      ((v : Value) (τ : Store) → RightGone b w σ τ v → go v τ ≡ Went υ → A) → A
  by_result b w σ (Went τ) go υ A r e k = k (plain (pos 0)) τ r e
  by_result b w σ (Returned v τ) go υ A r e k = k v τ r e
  by_result b w σ (Stopped s τ) go υ A r e k = absurd (cc)

  module _ (names : AreNamed p f body) (calls : CallsGo) (b : Placed) (one : IsOf b body) (env : List Binding) (w : Where) (σ : Store) (sees : Sees p f base b.id b.at env w σ) (taken : AreTaken σ)
      (stored : HasStored p σ) where
    abbrev P : TEffect → Type 0
    P = IsThis b

    abbrev To : VarId → ℕ → Type 0
    To t j = Comes p f P (samples_of σ w) σ.taken t j

    stay : Came p f base P w w σ σ
    stay = stays p f base P b.at env w σ sees.owns

    -- ---- right sides

    -- a value of names among those that the target gets
    pub value_to : (τ : Store) → Came p f base P w w σ τ → length τ.locals ≡ length σ.locals → (e : TExpr) (v : Value) → value_of env τ e ≡ Val v →
        ((x : Text) → IsOf x (expr_names e) → IsOf x (source_names b.kind)) →
        (t : VarId) → (effect_of p b).target ≡ Some t → is_variable p f t ≡ true → (j : ℕ) → IsOf j v.samples → To t j
    value_to τ c many e v is sub t target known j h =
        let n = value_from env τ j e (subst (λ g. IsOf j (got_samples g)) (sym is) h) in
        comes_back p f base P w w σ τ c t j (source_comes p f base P b env w τ (sees_length p f base b.id b.at env w σ τ many sees).owns (names.effect b one) n.0 t j (sub n.0 n.1) target known n.2)

    pub value_below : (τ : Store) → AreTaken τ → (e : TExpr) (v : Value) → value_of env τ e ≡ Val v → (j : ℕ) → IsOf j v.samples → j < τ.taken
    value_below τ t e v is j h = let n = value_from env τ j e (subst (λ g. IsOf j (got_samples g)) (sym is) h) in t.held (place_of env n.0) j n.2

    value_left : (e : TExpr) (g : Got) → value_of env σ e ≡ g → ((x : Text) → IsOf x (expr_names e) → IsOf x (source_names b.kind)) → RightLeft b w σ (with_value g b.id σ (λ v. Returned v σ))
    value_left e (Traps k) is sub = tt
    value_left e (Val v) is sub = record { came = stay; comes = value_to σ stay refl e v is sub; steady = steady_self σ taken; below = value_below σ taken e v is; many = refl }

    sense_left : (s : ℕ) (zs : List ℤ) → ((t : VarId) → (effect_of p b).target ≡ Some t → (effect_of p b).senses ≡ true) → RightLeft b w σ (sense s zs σ)
    sense_left s [] is = tt
    sense_left s (z ∷ zs) is = record {
      came = record {
        within = λ v j h. stay.within v j (subst (λ (x : Held). IsOf j x.samples) (same_held s z zs σ (w v)) h);
        later = omega arith;
        stored = refl;
        below = λ l h. refl;
      };
      comes = λ t e k j h. elim h [ inl q ↦ new (effect_of p b) t refl (by_input (effect_of p b) (names.effect b one) (is t e) e) (itself k) (omega (arith, q)) | inr x ↦ absurd x ];
      steady = steady_sensed s z zs σ taken;
      below = λ j h. elim h [ inl q ↦ omega (arith, q) | inr x ↦ absurd x ];
      many = refl;
    }

    right_left : (r : TRight) → right_of b.kind ≡ Some r → ((x : Text) → IsOf x (value_names r) → IsOf x (source_names b.kind)) → ((c : TCall) → r ≡ right_call c → call_of b.kind ≡ Some c) →
        RightLeft b w σ (right_run p.names regions call home env b.id σ r)
    right_left (right_value e) is sub by = value_left e (value_of env σ e) refl sub
    right_left (right_sense s) is sub by = sense_left (number_in p.names.sensors s) σ.left (λ t e. ap is_sense is)
    right_left (right_call c) is sub by = calls b one c (by c refl) env w σ sees taken stored

    -- ---- what a statement leaves

    pub record Leaves (w' : Where) (n : ℕ) (υ : Store) : Type 0 where
      pub came : Came p f base P w w' σ υ
      pub steady : IsSteady σ υ
      pub many : length υ.locals ≡ n + length σ.locals

    -- what a name stands for is written
    written : (x : Text) (τ : Store) (h : Held) → Came p f base P w w σ τ → IsSteady σ τ → length τ.locals ≡ length σ.locals → (effect_of p b).target ≡ variable_at p b x →
        ((t : VarId) → variable_at p b x ≡ Some t → is_variable p f t ≡ true → (j : ℕ) → IsOf j h.samples → To t j) → ((j : ℕ) → IsOf j h.samples → j < τ.taken) → Leaves w 0 (put τ (place_of env x) h)
    written x τ h c s many target from low =
        record { came = by (variable_at p b x) refl (sees.owns.named x); steady = steady_put σ τ (place_of env x) h low s; many = let l = put_locals τ (place_of env x) h in omega (arith, l, many) }
      where
        by : (o : Option VarId) → variable_at p b x ≡ o → place_of env x ≡ place_in w o → Came p f base P w w σ (put τ (place_of env x) h)
        by None e i = subst (λ q. Came p f base P w w σ (put τ q h)) (sym i) c
        by (Some t) e i = subst (λ q. Came p f base P w w σ (put τ q h)) (sym i) (elim (sees.owns.known t) [
          | inl n ↦ subst (λ q. Came p f base P w w σ (put τ q h)) (sym n) c
          | inr k ↦ put_later p f base P b.at env w σ τ (sees_length p f base b.id b.at env w σ τ many sees).owns c t h (from t e k)
        ])

    -- a variable is made
    made_one : (n : ℕ) (τ : Store) (h : Held) → n ≡ length σ.locals → Came p f base P w w σ τ → IsSteady σ τ → length τ.locals ≡ length σ.locals →
        ((j : ℕ) → IsOf j h.samples → To (variables.Declared b.id) j) → ((j : ℕ) → IsOf j h.samples → j < τ.taken) → Leaves (with_place w b.id (Local n)) 1 (made h τ)
    made_one n τ h same c s many from low =
        let later = sees_length p f base b.id b.at env w σ τ many sees in
        record { came = made_later p f base P b.at env w σ τ later.owns c b.id n h later.room (same ∙ sym many) from; steady = steady_made σ τ h low s; many = omega (arith, many) }

    -- only the events are others
    quiet_left : (υ : Store) → IsQuiet σ υ → Leaves w 0 υ
    quiet_left υ q = record {
      came = record {
        within = λ v j h. stay.within v j (like_samples σ υ q.like w v j h);
        later = let e = q.like.taken in omega (arith, e);
        stored =
            ap (λ (xs : List Held). length xs) q.like.nv;
        below = λ l h. ap (λ xs. at xs l) q.like.locals;
      };
      steady = record { taken = quiet_taken σ υ q taken; deep = q.depth; since = λ d. q.since };
      many = let l = ap (λ (xs : List Held). length xs) q.like.locals in omega (arith, l);
    }

    right_only : (υ : Store) (v : Value) → RightGone b w σ υ v → Leaves w 0 υ
    right_only υ v r = record { came = r.came; steady = r.steady; many = let l = r.many in omega (arith, l) }

    to_store : (w' : Where) (n : ℕ) (τ υ : Store) → Went τ ≡ Went υ → Leaves w' n τ → Leaves w' n υ
    to_store w' n τ υ e l = subst (Leaves w' n) (same_store τ υ e) l

    -- an element is written, beside what its array holds
    element_left : (x : Text) (e : TExpr) (o : Option ℕ) (i v : Value) (τ υ : Store) → RightGone b w σ τ v → value_of env τ e ≡ Val i → (effect_of p b).target ≡ variable_at p b x →
        ((y : Text) → IsOf y (expr_names e) → IsOf y (source_names b.kind)) → element_written (place_of env x) o i v b.id τ ≡ Went υ → Leaves w 0 υ
    element_left x e None i v τ υ r is target sub h = absurd (cc)
    element_left x e (Some n) i v τ υ r is target sub h =
        to_store w 0 (put τ (place_of env x) (with_element (held_at τ (place_of env x)) n v.num (union i.samples v.samples))) υ h
        (written x τ (with_element (held_at τ (place_of env x)) n v.num (union i.samples v.samples)) r.came r.steady r.many target from low)
      where
        from : (t : VarId) → variable_at p b x ≡ Some t → is_variable p f t ≡ true → (j : ℕ) → IsOf j (union (held_at τ (place_of env x)).samples (union i.samples v.samples)) → To t j
        from t q k j g = elim (in_union j (held_at τ (place_of env x)).samples (union i.samples v.samples) g) [
          | inl a ↦ r.came.within t j (subst (λ q. IsOf j (held_at τ q).samples) (sees.owns.named x ∙ ap (place_in w) q) a)
          | inr a ↦ elim (in_union j i.samples v.samples a) [
            | inl c ↦ value_to τ r.came r.many e i is sub t (target ∙ q) k j c
            | inr c ↦ r.comes t (target ∙ q) k j c
          ]
        ]

        low : (j : ℕ) → IsOf j (union (held_at τ (place_of env x)).samples (union i.samples v.samples)) → j < τ.taken
        low j g = elim (in_union j (held_at τ (place_of env x)).samples (union i.samples v.samples) g) [
          | inl a ↦ r.steady.taken.held (place_of env x) j a
          | inr a ↦ elim (in_union j i.samples v.samples a) [
            | inl c ↦ value_below τ r.steady.taken e i is j c
            | inr c ↦ r.below j c
          ]
        ]

  module _ (names : AreNamed p f body) (calls : CallsGo) (spot : Spot) (id line : ℕ) where
    abbrev pub this : TKind → Placed
    this k = record { id = id; line = line; kind = k; at = spot }

    -- what a straight statement leaves
    pub straight_leaves : (k : TKind) → IsStraight k → (one : IsOf (this k) body) (env : List Binding) (w : Where) (first σ υ : Store) → length first.locals ≡ length σ.locals →
        (sees : Sees p f base id spot env w σ) (taken : AreTaken σ) (stored : HasStored p σ) → kind_run p.names regions call home env id k σ ≡ Went υ →
        Leaves names calls (this k) one env w σ sees taken stored (where_behind w id k first) (makes k) υ
    straight_leaves (let_to m x t r) s one env w first σ υ same sees taken stored e =
        by_result (this (let_to m x t r)) w σ (right_run p.names regions call home env id σ r) (λ v τ. Went (made (holding v) τ)) υ _
        (right_left names calls (this (let_to m x t r)) one env w σ sees taken stored r refl (λ x i. i) (λ c q. ap right_call_of q)) e
        (λ v τ g h. to_store names calls (this (let_to m x t r)) one env w σ sees taken stored (with_place w id (Local (length first.locals))) 1 (made (holding v) τ) υ h
        (made_one names calls (this (let_to m x t r)) one env w σ sees taken stored (length first.locals) τ (holding v) same g.came g.steady g.many
        (g.comes (variables.Declared id) refl (names.declared (this (let_to m x t r)) one refl)) g.below))
    straight_leaves (let_array m x t z n) s one env w first σ υ same sees taken stored e =
        to_store names calls (this (let_array m x t z n)) one env w σ sees taken stored (with_place w id (Local (length first.locals))) 1 (made (array_of z n) σ) υ e
        (made_one names calls (this (let_array m x t z n)) one env w σ sees taken stored (length first.locals) σ (array_of z n) same
        (stay names calls (this (let_array m x t z n)) one env w σ sees taken stored) (steady_self σ taken) refl (λ j h. absurd h) (λ j h. absurd h))
    straight_leaves (assign x r) s one env w first σ υ same sees taken stored e =
        by_result (this (assign x r)) w σ (right_run p.names regions call home env id σ r) (λ v τ. Went (put τ (place_of env x) (replaced (held_at τ (place_of env x)) v))) υ _
        (right_left names calls (this (assign x r)) one env w σ sees taken stored r refl (λ x i. i) (λ c q. ap right_call_of q)) e
        (λ v τ g h. to_store names calls (this (assign x r)) one env w σ sees taken stored w 0 (put τ (place_of env x) (replaced (held_at τ (place_of env x)) v)) υ h
        (written names calls (this (assign x r)) one env w σ sees taken stored x τ (replaced (held_at τ (place_of env x)) v) g.came g.steady g.many refl (λ t q k j i. g.comes t q k j i) g.below))
    straight_leaves (assign_deref x r) s one env w first σ υ same sees taken stored e =
        by_result (this (assign_deref x r)) w σ (right_run p.names regions call home env id σ r) (λ v τ. Went (put τ (place_of env x) (replaced (held_at τ (place_of env x)) v))) υ
        _ (right_left names calls (this (assign_deref x r)) one env w σ sees taken stored r refl (λ x i. i) (λ c q. ap right_call_of q)) e
        (λ v τ g h. to_store names calls (this (assign_deref x r)) one env w σ sees taken stored w 0 (put τ (place_of env x) (replaced (held_at τ (place_of env x)) v)) υ h
        (written names calls (this (assign_deref x r)) one env w σ sees taken stored x τ (replaced (held_at τ (place_of env x)) v) g.came g.steady g.many refl
        (λ t q k j i. g.comes t q k j i) g.below))
    straight_leaves (assign_index x i0 r) s one env w first σ υ same sees taken stored e =
        by_result (this (assign_index x i0 r)) w σ (right_run p.names regions call home env id σ r)
        (λ v τ. with_value (value_of env τ i0) id τ (λ i. element_written (place_of env x) (element_of (length (held_at τ (place_of env x)).words) i.num) i v id τ)) υ _
        (right_left names calls (this (assign_index x i0 r)) one env w σ sees taken stored r refl (λ x i. of_right x (expr_names i0) (value_names r) i) (λ c q. ap right_call_of q)) e
        (λ v τ g h. by_value_run (value_of env τ i0) id τ (λ i. element_written (place_of env x) (element_of (length (held_at τ (place_of env x)).words) i.num) i v id τ) υ _ h
        (λ i is h'. element_left names calls (this (assign_index x i0 r)) one env w σ sees taken stored x i0 (element_of (length (held_at τ (place_of env x)).words) i.num) i v τ υ
        g is refl (λ y n. of_left y (expr_names i0) (value_names r) n) h'))
    straight_leaves (call_only c) s one env w first σ υ same sees taken stored e =
        by_result (this (call_only c)) w σ (call_run p.names regions call home env id σ c) (λ v τ. Went τ) υ _ (calls (this (call_only c)) one c refl env w σ sees taken stored) e
        (λ v τ g h. to_store names calls (this (call_only c)) one env w σ sees taken stored w 0 τ υ h (right_only names calls (this (call_only c)) one env w σ sees taken stored τ v g))
    straight_leaves (sense_only q) s one env w first σ υ same sees taken stored e =
        by_result (this (sense_only q)) w σ (sense (number_in p.names.sensors q) σ.left σ) (λ v τ. Went τ) υ _
        (sense_left names calls (this (sense_only q)) one env w σ sees taken stored (number_in p.names.sensors q) σ.left (λ t e. absurd (cc))) e
        (λ v τ g h. to_store names calls (this (sense_only q)) one env w σ sees taken stored w 0 τ υ h (right_only names calls (this (sense_only q)) one env w σ sees taken stored τ v g))
    straight_leaves (emit q x) s one env w first σ υ same sees taken stored e =
        by_value_run (value_of env σ x) id σ (λ v. Went (noted (Showed (Emitted (number_in p.names.ports q) v.num)) v.samples σ)) υ _ e
        (λ v is h. to_store names calls (this (emit q x)) one env w σ sees taken stored w 0 (noted (Showed (Emitted (number_in p.names.ports q) v.num)) v.samples σ) υ h
        (quiet_left names calls (this (emit q x)) one env w σ sees taken stored _
        (record { like = record { locals = refl; nv = refl; taken = refl }; depth = refl; taken = refl; opened = refl; since = refl })))
    straight_leaves (fresh x) s one env w first σ υ same sees taken stored e =
        to_store names calls (this (fresh x)) one env w σ sees taken stored w 0 σ υ e
        (quiet_left names calls (this (fresh x)) one env w σ sees taken stored σ
        (record { like = record { locals = refl; nv = refl; taken = refl }; depth = refl; taken = refl; opened = refl; since = refl }))
    straight_leaves (consistent x n) s one env w first σ υ same sees taken stored e =
        to_store names calls (this (consistent x n)) one env w σ sees taken stored w 0 (tagged (home n) id (held_at σ (place_of env x)).samples σ) υ e
        (quiet_left names calls (this (consistent x n)) one env w σ sees taken stored (tagged (home n) id (held_at σ (place_of env x)).samples σ)
        (record { like = record { locals = refl; nv = refl; taken = refl }; depth = refl; taken = refl; opened = refl; since = refl }))
    straight_leaves (return x) s one env w first σ υ same sees taken stored e =
        by_value_run (value_of env σ x) id σ _ υ _ e (λ v is h. absurd (cc))
    straight_leaves (if_else c a b) s one env w first σ υ same sees taken stored e = absurd s
    straight_leaves (for_in x c d b) s one env w first σ υ same sees taken stored e = absurd s
    straight_leaves (while_do c t b) s one env w first σ υ same sees taken stored e = absurd s
