-- Straight statements add fine events, where their targets are held.
use Rattle.std.proofs.Common.{◌≡◌, inl, inr, ℕ, ◌<◌, ◌≤◌, Bool, true, false, List, [], ◌∷◌, Option, Some, None, refl, sym, ap, ◌∙◌, subst, arith}
use Rattle.std.specs.Prelude.{ℤ, option_map, if◌then◌else◌, ◌==◌}
use Rattle.oc_tree.specs.Names.{Text}
use Rattle.oc_tree.specs.Tree.{TRight, right_value, right_sense, right_call, TCall, TKind, let_to, let_array, assign, assign_index, assign_deref, if_else, for_in, while_do}
use Rattle.oc_tree.specs.Tree.{call_only, sense_only, emit, fresh, consistent, return, TProgram}
use Rattle.oc_tree.specs.Places.{Place as Spot, Placed}
use Rattle.oc_tree.specs.Marked.{TMarked}
use Rattle.oc_tree.specs.declared.tree.VarId.{VarId}
use Rattle.oc_tree.specs.declared.said.Said.TheVariants.{Entered, Committed}
use Rattle.oc_effects.specs.declared.effect.Note.TheVariants as notes
use Rattle.oc_tree.specs.Samples.{union}
use Rattle.oc_tree.specs.Named.{own_names}
use Rattle.oc_meaning.specs.Uses.{is_fresh, samples_of_fresh, is_use, use_samples}
use Rattle.oc_meaning.specs.Store.{Value, Place, Store, Binding, held_at, place_of}
use Rattle.oc_meaning.specs.Eval.{Got, Val, Traps, value_of}
use Rattle.oc_meaning.specs.Exec.{Outcome, Went, Returned, Stopped, Passed, with_value, with_result, sense, number_in, element_written, used, done, closed, opened, told_if}
use Rattle.oc_meaning.specs.Exec.{ended_by, right_run, kind_run}
use Rattle.oc_effects.specs.Effects.{TCalled, effect_of, call_of, right_call_of, variable_at}
use Rattle.oc_tree.specs.Members.{IsOf}
use Rattle.oc_copies.specs.Copies.{HasStored}
use Rattle.oc_timely.specs.Within.{Where, place_in, samples_of}
use Rattle.oc_timely.specs.Enough.{Target, by_use, by_tag, taken_in, is_open, since}
use Rattle.oc_timely.specs.Steps.{AreTaken}
use Rattle.oc_timely.specs.Modes.{AllFine, FineOut, Sees, IsTakenHere, CallFine}
use Rattle.oc_timely.proofs.Sampled.{in_union}
use Rattle.oc_timely.proofs.Sources.{named_among}
use Rattle.oc_timely.proofs.Calls.{fine_put}

-- a statement without blocks
abbrev pub IsStraight : TKind → Type 0
IsStraight (if_else c a b) = ⊥
IsStraight (for_in x c d b) = ⊥
IsStraight (while_do c t b) = ⊥
IsStraight k = Unit {0}

-- ---- steps of runs

pub fine_value : (g : Got) (n : ℕ) (σ : Store) (go : Value → Outcome) → AllFine σ.events → ((v : Value) → FineOut (go v)) → FineOut (with_value g n σ go)
fine_value (Val v) n σ go a k = k v
fine_value (Traps t) n σ go a k = (tt, a)

pub fine_result : (o : Outcome) (go : Value → Store → Outcome) → FineOut o → ((v : Value) (τ : Store) → AllFine τ.events → FineOut (go v τ)) → FineOut (with_result o go)
fine_result (Went τ) go a k = k _ τ a
fine_result (Returned v τ) go a k = k v τ a
fine_result (Stopped s τ) go a k = a

fine_sense : (s : ℕ) (left : List ℤ) (σ : Store) → AreTaken σ → AllFine σ.events → FineOut (sense s left σ)
fine_sense s [] σ t a = a
fine_sense s (z ∷ zs) σ t a = (ap (λ n. n ∷ []) (sym t.count), a)

fine_element : (q : Place) (e : Option ℕ) (i v : Value) (n : ℕ) (σ : Store) → AllFine σ.events → FineOut (element_written q e i v n σ)
fine_element q None i v n σ a = (tt, a)
fine_element q (Some e) i v n σ a = fine_put σ q _ a

pub fine_used : (is : Bool) (n : ℕ) (samples : List ℕ) (σ : Store) → ((j : ℕ) → IsOf j samples → (is_open σ.events ≡ true) × (since σ.events ≤ j) × (j < taken_in σ.events)) → AllFine σ.events →
    AllFine (used is n samples σ).events
fine_used true n samples σ h a = (h, a)
fine_used false n samples σ h a = a

pub fine_done : (is : Bool) (n : ℕ) (samples : List ℕ) (σ : Store) → ((j : ℕ) → IsOf j samples → (is_open σ.events ≡ true) × (since σ.events ≤ j) × (j < taken_in σ.events)) → AllFine σ.events →
    AllFine (done is n samples σ).events
fine_done true n samples σ h a = (h, a)
fine_done false n samples σ h a = a

pub fine_closed : (o : Option ℕ) (σ : Store) → AllFine σ.events → AllFine (closed o σ).events
fine_closed None σ a = a
fine_closed (Some r) σ a = by (σ.depth == 1)
  where
    by : (b : Bool) → AllFine (told_if b (Committed r) σ.events)
    by true = (tt, a)
    by false = a

pub fine_opened : (o : Option ℕ) (σ : Store) → AllFine σ.events → AllFine (opened o σ).events
fine_opened None σ a = a
fine_opened (Some r) σ a = by (σ.depth == 0)
  where
    by : (b : Bool) → AllFine (told_if b (Entered r) σ.events)
    by true = (tt, a)
    by false = a

-- ---- what a use and an annotation read

module _ (p : TProgram) (f base n : ℕ) (b : Placed) (env : List Binding) (w : Where) (σ : Store) (sees : Sees p f base n b.at env w σ) where
  -- a sample of a use is one of a target's
  abbrev pub OfTarget : ℕ → Type 0
  OfTarget j = (x : VarId) × Target p f (effect_of p b) x × IsOf j (samples_of σ w x)

  fresh_target : (xs : List Text) (j : ℕ) → ((x : Text) → IsOf x xs → IsOf x (own_names b.kind)) → IsOf j (samples_of_fresh env σ xs) → OfTarget j
  fresh_target [] j sub h = absurd h
  fresh_target (x ∷ xs) j sub h = by (is_fresh env x) refl h (fresh_target xs j (λ y i. sub y (inr i)))
    where
      by : (c : Bool) → is_fresh env x ≡ c → IsOf j (if c then union (held_at σ (place_of env x)).samples (samples_of_fresh env σ xs) else samples_of_fresh env σ xs) →
          (IsOf j (samples_of_fresh env σ xs) → OfTarget j) → OfTarget j
      by true e i rest = elim (in_union j (held_at σ (place_of env x)).samples (samples_of_fresh env σ xs) i) [
        | inl k ↦
            let s = sees.fresh x e in
            (s.0, by_use s.2 (named_among p b x s.0 (own_names b.kind) (sub x (inl refl)) s.1), subst (λ q. IsOf j (held_at σ q).samples) (sees.owns.named x ∙ ap (place_in w) s.1) k)
        | inr k ↦ rest k
      ]
      by false e i rest = rest i

  pub use_target : (j : ℕ) → IsOf j (use_samples env b.kind σ) → OfTarget j
  use_target j h = fresh_target (own_names b.kind) j (λ x i. i) h

-- ---- straight statements

module _ (m : TMarked) (guarded : ℕ → Bool) (call : Text → List Passed → Store → Outcome) (home : ℤ → ℕ) (f base : ℕ) (body : List Placed) (calls : CallFine m guarded call home f base body) where
  abbrev p : TProgram
  p = m.program

  -- a sample of a target that is held is in the open execution, and was taken
  pub held_since : (w : Where) (σ : Store) (x : VarId) → AreTaken σ → IsTakenHere w σ x → (j : ℕ) → IsOf j (samples_of σ w x) → (is_open σ.events ≡ true) × (since σ.events ≤ j) × (j < taken_in σ.events)
  held_since w σ x t h j i = let a = h j i in let c = t.held (w x) j i in let e = t.count in (a.0, a.1, omega (arith, c, e))

  module _ (b : Placed) (one : IsOf b body) (env : List Binding) (w : Where) (σ : Store) (sees : Sees p f base b.id b.at env w σ) (taken : AreTaken σ) (stored : HasStored p σ)
      (deep : (t : TCalled) → (effect_of p b).call ≡ Some t → guarded t.function ≡ true → is_open σ.events ≡ true) (held : (x : VarId) → Target p f (effect_of p b) x → IsTakenHere w σ x)
      (all : AllFine σ.events) where
    -- a use of the statement
    pub uses_since : (j : ℕ) → IsOf j (use_samples env b.kind σ) → (is_open σ.events ≡ true) × (since σ.events ≤ j) × (j < taken_in σ.events)
    uses_since j i = let o = use_target p f base b.id b env w σ sees j i in held_since w σ o.0 taken (held o.0 o.1) j o.2

    right_fine : (r : TRight) → ((c : TCall) → r ≡ right_call c → call_of b.kind ≡ Some c) → FineOut (right_run p.names m.regions call home env b.id σ r)
    right_fine (right_value e) k = fine_value (value_of env σ e) b.id σ _ all (λ v. all)
    right_fine (right_sense s) k = fine_sense (number_in p.names.sensors s) σ.left σ taken all
    right_fine (right_call c) k = calls b one c (k c refl) env w σ sees taken stored deep held all

    -- the samples of an annotated variable
    tag_since : (x : Text) (v : Option VarId) (i : ℤ) → variable_at p b x ≡ v → ((y : VarId) → v ≡ Some y → (effect_of p b).note ≡ Some (notes.Consistent y i)) → (j : ℕ) →
        IsOf j (held_at σ (place_of env x)).samples → (is_open σ.events ≡ true) × (since σ.events ≤ j) × (j < taken_in σ.events)
    tag_since x None i e note j h = absurd (subst (λ q. IsOf j (held_at σ q).samples) (sees.owns.named x ∙ ap (place_in w) e) h)
    tag_since x (Some y) i e note j h = held_since w σ y taken (held y (by_tag i (note y refl))) j (subst (λ q. IsOf j (held_at σ q).samples) (sees.owns.named x ∙ ap (place_in w) e) h)

  -- ---- each straight statement

  module _ (spot : Spot) (id line : ℕ) where
    abbrev There : TKind → Placed
    There k = record { id = id; line = line; kind = k; at = spot }

    -- what a statement finds: its targets are held
    pub record Finds (k : TKind) (env : List Binding) (w : Where) (σ : Store) : Type 0 where
      pub one : IsOf (There k) body
      pub sees : Sees p f base id spot env w σ
      pub taken : AreTaken σ
      pub stored : HasStored p σ
      pub deep : (t : TCalled) → (effect_of p (There k)).call ≡ Some t → guarded t.function ≡ true → is_open σ.events ≡ true
      pub held : (x : VarId) → Target p f (effect_of p (There k)) x → IsTakenHere w σ x
      pub all : AllFine σ.events

    right : (k : TKind) (r : TRight) (env : List Binding) (w : Where) (σ : Store) → Finds k env w σ → ((c : TCall) → r ≡ right_call c → call_of k ≡ Some c) →
        FineOut (right_run p.names m.regions call home env id σ r)
    right k r env w σ h e = right_fine (There k) h.one env w σ h.sees h.taken h.stored h.deep h.held h.all r e

    -- but for its blocks
    pub straight_fine : (k : TKind) (env : List Binding) (w : Where) (σ : Store) → IsStraight k → Finds k env w σ → FineOut (kind_run p.names m.regions call home env id k σ)
    straight_fine (let_to q x t r) env w σ i h = fine_result _ _ (right (let_to q x t r) r env w σ h (λ c e. ap right_call_of e)) (λ v τ a. a)
    straight_fine (let_array q x t z c) env w σ i h = h.all
    straight_fine (assign x r) env w σ i h = fine_result _ _ (right (assign x r) r env w σ h (λ c e. ap right_call_of e)) (λ v τ a. fine_put τ (place_of env x) _ a)
    straight_fine (assign_index x e r) env w σ i h =
        fine_result _ _ (right (assign_index x e r) r env w σ h (λ c e. ap right_call_of e)) (λ v τ a. fine_value (value_of env τ e) id τ _ a (λ z. fine_element (place_of env x) _ z v id τ a))
    straight_fine (assign_deref x r) env w σ i h = fine_result _ _ (right (assign_deref x r) r env w σ h (λ c e. ap right_call_of e)) (λ v τ a. fine_put τ (place_of env x) _ a)
    straight_fine (call_only c) env w σ i h = fine_result _ _ (calls (There (call_only c)) h.one c refl env w σ h.sees h.taken h.stored h.deep h.held h.all) (λ v τ a. a)
    straight_fine (sense_only s) env w σ i h = fine_result _ _ (fine_sense (number_in p.names.sensors s) σ.left σ h.taken h.all) (λ v τ a. a)
    straight_fine (emit q e) env w σ i h = fine_value (value_of env σ e) id σ _ h.all (λ v. (tt, h.all))
    straight_fine (fresh x) env w σ i h = h.all
    straight_fine (consistent x k) env w σ i h = (
      tag_since (There (consistent x k)) h.one env w σ h.sees h.taken h.stored h.deep h.held h.all x (variable_at p (There (consistent x k)) x) k refl
          (λ y e. ap (option_map (λ v. notes.Consistent v k)) e),
      h.all,
    )
    straight_fine (return e) env w σ i h =
        fine_value (value_of env σ e) id σ _ h.all (λ v.
        fine_closed (ended_by m.regions id) _ (fine_done (is_use (is_fresh env) (return e)) id (use_samples env (return e) σ) σ
        (uses_since (There (return e)) h.one env w σ h.sees h.taken h.stored h.deep h.held h.all) h.all))
    straight_fine (if_else c a b) env w σ i h = absurd i
    straight_fine (for_in x c d b) env w σ i h = absurd i
    straight_fine (while_do c t b) env w σ i h = absurd i
