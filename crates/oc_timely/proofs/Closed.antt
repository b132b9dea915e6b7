-- What is kept by all that is told but tags: of stores, and so of outcomes.
use Rattle.std.proofs.Common.{◌≡◌, ℕ, zero, suc, ◌==◌, Bool, true, false, List, [], ◌∷◌, Option, Some, None, refl, sym, subst}
use Rattle.std.specs.Prelude.{ℤ, pos, ◌+ℤ◌, if◌then◌else◌}
use Rattle.oc_tree.specs.declared.said.TrapKind.{TrapKind}
use Rattle.oc_tree.specs.declared.said.TrapKind.TheVariants as traps
use Rattle.oc_tree.specs.declared.said.Said.{Said}
use Rattle.oc_tree.specs.declared.said.Said.TheVariants.{Showed, Entered, Committed}
use Rattle.oc_tree.specs.declared.said.Shown.TheVariants.{Tagged}
use Rattle.oc_tree.specs.Samples.{union}
use Rattle.oc_meaning.specs.Store.{Value, Held, Place, Local, Global, Turn, Nowhere, Event, Store, put, happened}
use Rattle.oc_meaning.specs.Eval.{Got, Val, Traps, is_zero}
use Rattle.oc_meaning.specs.Exec.{Passing as Given, Passes, Breaks, Passed, Outcome, Went, Returned, Stopped, trapped, with_value, with_args, with_result, then_do, finished, leave}
use Rattle.oc_meaning.specs.Exec.{told_if, used, done, closed, opened, sense, element_written, for_turns, while_turns, entered}

-- which statement a tag tells
abbrev pub tag_number : Said → ℕ
tag_number (Showed (Tagged n)) = n
tag_number s = 0

abbrev pub IsNoTag : Said → Type 0
IsNoTag (Showed (Tagged n)) = ⊥
IsNoTag s = Unit {0}

-- it is kept by all that is no tag
pub record IsClosed (K : Store → Type 0) : Type 0 where
  pub like : (σ τ : Store) → τ.events ≡ σ.events → τ.blocks ≡ σ.blocks → K σ → K τ
  pub told : (e : Event) (σ : Store) → IsNoTag e.said → K σ → K (happened e σ)
  pub enters : (id : ℕ) (σ : Store) → K σ → K (entered id σ)

abbrev pub KOut : (Store → Type 0) → Outcome → Type 0
KOut K (Went τ) = K τ
KOut K (Returned v τ) = K τ
KOut K (Stopped s τ) = K τ

module _ (K : Store → Type 0) (stays : IsClosed K) where
  abbrev Out : Outcome → Type 0
  Out o = KOut K o

  pub k_mark : (b : Bool) (e : Event) (σ : Store) (events : List Event) → events ≡ (if b then e ∷ σ.events else σ.events) → IsNoTag e.said → K σ → K (record σ { events = events })
  k_mark true e σ events q n h = subst (λ (es : List Event). K (record σ { events = es })) (sym q) (stays.told e σ n h)
  k_mark false e σ events q n h = subst (λ (es : List Event). K (record σ { events = es })) (sym q) (stays.like σ _ refl refl h)

  pub k_opened : (o : Option ℕ) (σ : Store) → K σ → K (opened o σ)
  k_opened None σ h = h
  k_opened (Some r) σ h =
      stays.like (record σ { events = told_if (σ.depth == 0) (Entered r) σ.events }) (opened (Some r) σ) refl refl
      (k_mark (σ.depth == 0) (record { said = Entered r; samples = []; instance = 0 }) σ _ refl tt h)

  pub k_closed : (o : Option ℕ) (σ : Store) → K σ → K (closed o σ)
  k_closed None σ h = h
  k_closed (Some r) σ h =
      stays.like (record σ { events = told_if (σ.depth == 1) (Committed r) σ.events }) (closed (Some r) σ) refl refl
      (k_mark (σ.depth == 1) (record { said = Committed r; samples = []; instance = 0 }) σ _ refl tt h)

  pub k_used : (b : Bool) (n : ℕ) (s : List ℕ) (σ : Store) → K σ → K (used b n s σ)
  k_used true n s σ h = stays.told _ σ tt h
  k_used false n s σ h = h

  pub k_done : (b : Bool) (n : ℕ) (s : List ℕ) (σ : Store) → K σ → K (done b n s σ)
  k_done true n s σ h = stays.told _ σ tt h
  k_done false n s σ h = h

  pub k_put : (σ : Store) (q : Place) (x : Held) → K σ → K (put σ q x)
  k_put σ (Local l) x h = stays.like σ _ refl refl h
  k_put σ (Global l) x h = stays.like σ _ refl refl h
  k_put σ (Turn l) x h = h
  k_put σ Nowhere x h = h

  pub k_then : (o : Outcome) (go : Store → Outcome) → Out o → ((τ : Store) → o ≡ Went τ → K τ → Out (go τ)) → Out (then_do o go)
  k_then (Went τ) go a h = h τ refl a
  k_then (Returned v τ) go a h = a
  k_then (Stopped s τ) go a h = a

  pub k_finished : (o : Outcome) (after : Store → Store) (go : Store → Outcome) → Out o → ((τ : Store) → o ≡ Went τ → K τ → Out (go (after τ))) → Out (then_do (finished after o) go)
  k_finished (Went τ) after go a h = h τ refl a
  k_finished (Returned v τ) after go a h = a
  k_finished (Stopped s τ) after go a h = a

  pub k_leave : (n : ℕ) (o : Outcome) → Out o → Out (leave n o)
  k_leave n (Went τ) h = stays.like τ _ refl refl h
  k_leave n (Returned v τ) h = stays.like τ _ refl refl h
  k_leave n (Stopped s τ) h = h

  pub k_result : (o : Outcome) (go : Value → Store → Outcome) → Out o → ((v : Value) (τ : Store) → K τ → Out (go v τ)) → Out (with_result o go)
  k_result (Went τ) go h q = q _ τ h
  k_result (Returned v τ) go h q = q v τ h
  k_result (Stopped s τ) go h q = h

  pub k_trap : (t : TrapKind) (n : ℕ) (σ : Store) → K σ → Out (trapped t n σ)
  k_trap t n σ h = stays.told _ σ tt h

  pub k_value : (v : Got) (n : ℕ) (σ : Store) (go : Value → Outcome) → K σ → ((v : Value) → Out (go v)) → Out (with_value v n σ go)
  k_value (Val v) n σ go h q = q v
  k_value (Traps t) n σ go h q = k_trap t n σ h

  pub k_if : (b : Bool) (o q : Outcome) → Out o → Out q → Out (if b then o else q)
  k_if true o q h i = h
  k_if false o q h i = i

  pub k_sense : (s : ℕ) (zs : List ℤ) (σ : Store) → K σ → Out (sense s zs σ)
  k_sense s [] σ h = h
  k_sense s (z ∷ zs) σ h = stays.told _ (record σ { left = zs; taken = suc σ.taken }) tt (stays.like σ (record σ { left = zs; taken = suc σ.taken }) refl refl h)

  pub k_element : (q : Place) (o : Option ℕ) (i v : Value) (n : ℕ) (σ : Store) → K σ → Out (element_written q o i v n σ)
  k_element q None i v n σ h = k_trap traps.Index n σ h
  k_element q (Some e) i v n σ h = k_put σ q _ h

  pub k_args : (g : Given) (n : ℕ) (σ : Store) (go : List Passed → Outcome) → K σ → ((ps : List Passed) → Out (go ps)) → Out (with_args g n σ go)
  k_args (Passes ps) n σ go h k = k ps
  k_args (Breaks t) n σ go h k = k_trap t n σ h

  pub k_for : (t : ℕ) (i : ℤ) (go : ℤ → Store → Outcome) (σ : Store) → ((i : ℤ) (σ : Store) → K σ → Out (go i σ)) → K σ → Out (for_turns t i go σ)
  k_for zero i go σ h a = a
  k_for (suc t) i go σ h a = k_then (go i σ) (for_turns t (i +ℤ pos 1) go) (h i σ a) (λ τ e b. k_for t (i +ℤ pos 1) go τ h b)

  pub k_while : (t n : ℕ) (uses : Bool) (s : Store → List ℕ) (c : Store → Got) (go : Store → Outcome) (before : List ℕ) (σ : Store) → ((σ : Store) → K σ → Out (go σ)) → K σ →
      Out (while_turns t n uses s c go before σ)
  k_while zero n uses s c go before σ h a = k_done uses n before σ a
  k_while (suc t) n uses s c go before σ h a =
      let υ : Store = used uses n (s σ) σ in
      let b : K υ = k_used uses n (s σ) σ a in
      k_value (c υ) n υ _ b
      (λ v. k_if (is_zero v.num) (Went (done uses n (union before (s σ)) υ)) _ (k_done uses n (union before (s σ)) υ b)
      (k_then (go υ) _ (h υ b) (λ τ e d. k_while t n uses s c go (union before (s σ)) τ h d)))
