-- Marks and uses change no variable.
use Rattle.std.proofs.Common.{◌≡◌, inl, inr, ℕ, zero, suc, ◌-◌, ◌<◌, ◌≤◌, Bool, true, false, List, length, Option, Some, None, refl, sym, ap, ◌∙◌, subst, arith}
use Rattle.std.specs.Prelude.{◌==◌, nat_lt, unwrap_or, slice_index_or}
use Rattle.oc_tree.specs.Tree.{TProgram}
use Rattle.oc_tree.specs.Places.{Place as Spot, find_variable, or_nonvolatile}
use Rattle.oc_tree.specs.declared.tree.VarId.{VarId}
use Rattle.oc_tree.specs.declared.said.Said.TheVariants.{Entered, Committed}
use Rattle.oc_meaning.specs.Store.{Held, Place, Local, Global, Turn, Nowhere, Store, Binding, at, nothing, held_at}
use Rattle.oc_meaning.specs.Exec.{entered, used, done, closed, opened, told_if}
use Rattle.oc_tree.specs.Members.{IsOf}
use Rattle.oc_copies.specs.Copies.{HasStored}
use Rattle.oc_timely.specs.Within.{Where, place_in, samples_of}
use Rattle.oc_timely.specs.Enough.{taken_in, is_open, since}
use Rattle.oc_timely.specs.Steps.{AreTaken}
use Rattle.oc_timely.specs.Scopes.{scope_of}
use Rattle.oc_timely.specs.Modes.{Sees}
use Rattle.oc_copies.specs.Stands.{Stands}
use Rattle.oc_copies.proofs.StandsOn.{stands_longer}

-- the same variables
pub record IsLike (σ τ : Store) : Type 0 where
  pub locals : τ.locals ≡ σ.locals
  pub nv : τ.nv ≡ σ.nv
  pub taken : τ.taken ≡ σ.taken

like_self : (σ : Store) → IsLike σ σ
like_self σ = record { locals = refl; nv = refl; taken = refl }

pub like_held : (σ τ : Store) → IsLike σ τ → (q : Place) → held_at τ q ≡ held_at σ q
like_held σ τ l (Local n) = ap (λ xs. unwrap_or (at xs n) nothing) l.locals
like_held σ τ l (Global n) = ap (λ xs. slice_index_or xs n nothing) l.nv
like_held σ τ l (Turn n) = refl
like_held σ τ l Nowhere = refl

pub like_samples : (σ τ : Store) → IsLike σ τ → (w : Where) (v : VarId) (j : ℕ) → IsOf j (samples_of τ w v) → IsOf j (samples_of σ w v)
like_samples σ τ l w v j h = subst (λ (x : Held). IsOf j x.samples) (like_held σ τ l (w v)) h

-- as many local variables
pub sees_length : (p : TProgram) (f base n : ℕ) (spot : Spot) (env : List Binding) (w : Where) (σ τ : Store) → length τ.locals ≡ length σ.locals → Sees p f base n spot env w σ →
    Sees p f base n spot env w τ
sees_length p f base n spot env w σ τ l s = record {
  owns = record {
    named = s.owns.named;
    known = s.owns.known;
    own = λ v q e. let o = s.owns.own v q e in (o.0, omega (arith, o.1, l));
    apart = s.owns.apart;
    stored = s.owns.stored;
    result = s.owns.result;
  };
  room = let r = s.room in omega (arith, r, l);
  stands = stands_longer p (scope_of p f spot.variables) env σ τ (omega (arith, l)) s.stands;
  older = s.older;
  global = s.global;
  fresh = s.fresh;
}

pub like_sees : (p : TProgram) (f base n : ℕ) (spot : Spot) (env : List Binding) (w : Where) (σ τ : Store) → IsLike σ τ → Sees p f base n spot env w σ → Sees p f base n spot env w τ
like_sees p f base n spot env w σ τ l s = sees_length p f base n spot env w σ τ (ap (λ (xs : List Held). length xs) l.locals) s

-- a later statement
pub sees_later : (p : TProgram) (f base n k : ℕ) (spot : Spot) (env : List Binding) (w : Where) (σ : Store) → n ≤ k → Sees p f base n spot env w σ → Sees p f base k spot env w σ
sees_later p f base n k spot env w σ h s = record {
  owns = s.owns;
  room = s.room;
  stands = s.stands;
  older = λ v. elim (s.older v) [ inl e ↦ inl e | inr l ↦ inr (omega (arith, l, h)) ];
  global = s.global;
  fresh = s.fresh;
}

pub like_stored : (p : TProgram) (σ τ : Store) → IsLike σ τ → HasStored p σ → HasStored p τ
like_stored p σ τ l h = ap (λ (xs : List Held). length xs) l.nv ∙ h

-- nothing is known of the events but that no mark is among them
pub record IsQuiet (σ τ : Store) : Type 0 where
  pub like : IsLike σ τ
  pub depth : τ.depth ≡ σ.depth
  pub taken : taken_in τ.events ≡ taken_in σ.events
  pub opened : is_open τ.events ≡ is_open σ.events
  pub since : since τ.events ≡ since σ.events

quiet_self : (σ : Store) → IsQuiet σ σ
quiet_self σ = record { like = like_self σ; depth = refl; taken = refl; opened = refl; since = refl }

pub quiet_used : (is : Bool) (n : ℕ) (samples : List ℕ) (σ : Store) → IsQuiet σ (used is n samples σ)
quiet_used true n samples σ = record { like = record { locals = refl; nv = refl; taken = refl }; depth = refl; taken = refl; opened = refl; since = refl }
quiet_used false n samples σ = quiet_self σ

pub quiet_done : (is : Bool) (n : ℕ) (samples : List ℕ) (σ : Store) → IsQuiet σ (done is n samples σ)
quiet_done true n samples σ = record { like = record { locals = refl; nv = refl; taken = refl }; depth = refl; taken = refl; opened = refl; since = refl }
quiet_done false n samples σ = quiet_self σ

pub quiet_taken : (σ τ : Store) → IsQuiet σ τ → AreTaken σ → AreTaken τ
quiet_taken σ τ q t = record {
  held = λ r j h. let a = t.held r j (subst (λ (x : Held). IsOf j x.samples) (like_held σ τ q.like r) h) in let e = q.like.taken in omega (arith, a, e);
  count = q.taken ∙ t.count ∙ sym q.like.taken;
  opened = q.opened ∙ t.opened ∙ ap (nat_lt 0) (sym q.depth);
  begun = let a = q.since in let b = t.begun in let c = q.like.taken in omega (arith, a, b, c);
}

-- ---- a region begins

pub like_opened : (o : Option ℕ) (σ : Store) → IsLike σ (opened o σ)
like_opened None σ = like_self σ
like_opened (Some r) σ = record { locals = refl; nv = refl; taken = refl }

pub like_closed : (o : Option ℕ) (σ : Store) → IsLike σ (closed o σ)
like_closed None σ = like_self σ
like_closed (Some r) σ = record { locals = refl; nv = refl; taken = refl }

deep_open : (n : ℕ) → 0 < n → nat_lt 0 n ≡ true
deep_open zero h = absurd (omega arith)
deep_open (suc n) h = grind arith

pub is_deep : (σ : Store) → AreTaken σ → 0 < σ.depth → is_open σ.events ≡ true
is_deep σ t d = t.opened ∙ deep_open σ.depth d

pub was_deep : (σ : Store) → AreTaken σ → is_open σ.events ≡ true → 0 < σ.depth
was_deep σ t e = by σ.depth (sym t.opened ∙ e)
  where
    by : (n : ℕ) → nat_lt 0 n ≡ true → 0 < n
    by zero q = absurd (grind (arith, q))
    by (suc n) q = omega arith

-- what is known behind the beginning of a region
pub record HasBegun (σ τ : Store) : Type 0 where
  pub taken : AreTaken τ
  pub deep : τ.depth ≡ suc σ.depth
  pub still : 0 < σ.depth → since τ.events ≡ since σ.events
  pub anew : σ.depth ≡ 0 → since τ.events ≡ taken_in σ.events

abbrev begun_by_test : ℕ → Store → Bool → Store
begun_by_test r σ b = record σ { depth = suc σ.depth; events = told_if b (Entered r) σ.events }

pub begun_is : (r : ℕ) (σ : Store) → AreTaken σ → HasBegun σ (opened (Some r) σ)
begun_is r σ t = by (σ.depth == 0) refl
  where
    by : (b : Bool) → (σ.depth == 0) ≡ b → HasBegun σ (begun_by_test r σ b)
    by true e = record {
      taken = record { held = t.held; count = t.count; opened = sym (deep_open (suc σ.depth) (omega arith)); begun = let c = t.count in omega (arith, c) };
      deep = refl;
      still = λ d. let z : σ.depth ≡ 0 = grind (arith, e) in absurd (omega (arith, d, z));
      anew = λ z. refl;
    }
    by false e =
        let d : 0 < σ.depth = grind (arith, e) in
        record {
          taken = record { held = t.held; count = t.count; opened = is_deep σ t d ∙ sym (deep_open (suc σ.depth) (omega arith)); begun = t.begun };
          deep = refl;
          still = λ d'. refl;
          anew = λ z. absurd (omega (arith, d, z));
        }

-- what is known behind its end
pub record HasEnded (σ τ : Store) : Type 0 where
  pub taken : AreTaken τ
  pub deep : suc τ.depth ≡ σ.depth
  pub still : since τ.events ≡ since σ.events

abbrev ended_by_test : ℕ → Store → Bool → Store
ended_by_test r σ b = record σ { depth = σ.depth - 1; events = told_if b (Committed r) σ.events }

pub ended_is : (r : ℕ) (σ : Store) → AreTaken σ → 0 < σ.depth → HasEnded σ (closed (Some r) σ)
ended_is r σ t d = by (σ.depth == 1) refl
  where
    one_less : (n : ℕ) → n ≡ 1 → false ≡ nat_lt 0 (n - 1)
    one_less n e = let z : n - 1 ≡ 0 = omega (arith, e) in subst (λ k. false ≡ nat_lt 0 k) (sym z) (grind arith)

    by : (b : Bool) → (σ.depth == 1) ≡ b → HasEnded σ (ended_by_test r σ b)
    by true e = record {
      taken = record { held = t.held; count = t.count; opened = let z : σ.depth ≡ 1 = grind (arith, e) in one_less σ.depth z; begun = t.begun };
      deep = omega (arith, d);
      still = refl;
    }
    by false e = record {
      taken = record { held = t.held; count = t.count; opened = is_deep σ t d ∙ sym (deep_open (σ.depth - 1) (let z : σ.depth ≡ 1 → ⊥ = grind (arith, e) in grind (arith, z, d))); begun = t.begun };
      deep = omega (arith, d);
      still = refl;
    }

-- the same variables are seen at another spot
pub sees_spot : (p : TProgram) (f base n : ℕ) (spot next : Spot) (env : List Binding) (w : Where) (σ : Store) → next.variables ≡ spot.variables → Sees p f base n spot env w σ →
    Sees p f base n next env w σ
sees_spot p f base n spot next env w σ h s = record {
  owns = record {
    named = λ x. s.owns.named x ∙ ap (λ vs. place_in w (or_nonvolatile p x (find_variable vs x))) (sym h);
    known = s.owns.known;
    own = s.owns.own;
    apart = s.owns.apart;
    stored = s.owns.stored;
    result = s.owns.result;
  };
  room = s.room;
  stands = subst (λ vs. Stands p (scope_of p f vs) env σ) (sym h) s.stands;
  older = s.older;
  global = s.global;
  fresh = λ y e. let a = s.fresh y e in (a.0, ap (λ vs. or_nonvolatile p y (find_variable vs y)) h ∙ a.1, a.2);
}

pub quiet_entered : (b : ℕ) (σ : Store) → IsQuiet σ (entered b σ)
quiet_entered b σ = record { like = record { locals = refl; nv = refl; taken = refl }; depth = refl; taken = refl; opened = refl; since = refl }
