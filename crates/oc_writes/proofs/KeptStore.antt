-- What an outcome leaves in one nonvolatile variable.
use Rattle.std.proofs.Common.{◌≡◌, ℕ, zero, suc, Bool, true, false, List, [], ◌∷◌, Option, Some, None, refl, ap, ◌∙◌}
use Rattle.std.specs.Prelude.{ℤ, pos, ◌+ℤ◌, if◌then◌else◌, slice_set, slice_index_or}
use Rattle.oc_tree.specs.Samples.{union}
use Rattle.oc_meaning.specs.Store.{Value, Held, Place, Local, Global, Turn, Nowhere, Store, plain, nothing, held_at, put}
use Rattle.oc_meaning.specs.Eval.{Got, Val, Traps, is_zero}
use Rattle.oc_meaning.specs.Exec.{Outcome, Went, Returned, Stopped, Passed, Passing, Passes, Breaks, with_value, then_do, with_result, dropped, leave, opened, closed, used, done}
use Rattle.oc_meaning.specs.Exec.{finished, sense, with_args, element_written, for_turns, while_turns}
use Rattle.oc_writes.specs.Kept.{store_after}

-- another element of a list that is written at one place
other_element : (hs : List Held) (a i : ℕ) (h : Held) → (a ≡ i → ⊥) → slice_index_or (slice_set hs a h) i nothing ≡ slice_index_or hs i nothing
other_element [] a i h n = refl
other_element (x ∷ hs) zero zero h n = absurd (n refl)
other_element (x ∷ hs) zero (suc i) h n = refl
other_element (x ∷ hs) (suc a) zero h n = refl
other_element (x ∷ hs) (suc a) (suc i) h n = other_element hs a i h (λ e. n (ap suc e))

module _ (i : ℕ) where
  -- what the variable holds
  abbrev pub cell : Store → Held
  cell σ = held_at σ (Global i)

  -- an outcome leaves this in the variable
  abbrev pub Keeps : Held → Outcome → Type 0
  Keeps h o = cell (store_after o) ≡ h

  -- another variable is written
  pub put_keeps : (σ : Store) (q : Place) (h : Held) → (q ≡ Global i → ⊥) → cell (put σ q h) ≡ cell σ
  put_keeps σ (Local l) h n = refl
  put_keeps σ (Global a) h n = other_element σ.nv a i h (λ e. n (ap Global e))
  put_keeps σ (Turn z) h n = refl
  put_keeps σ Nowhere h n = refl

  -- ---- what tells of a store, and leaves its variables alone

  pub opened_keeps : (b : Option ℕ) (σ : Store) → cell (opened b σ) ≡ cell σ
  opened_keeps None σ = refl
  opened_keeps (Some r) σ = refl

  pub closed_keeps : (e : Option ℕ) (σ : Store) → cell (closed e σ) ≡ cell σ
  closed_keeps None σ = refl
  closed_keeps (Some r) σ = refl

  pub used_keeps : (is : Bool) (n : ℕ) (samples : List ℕ) (σ : Store) → cell (used is n samples σ) ≡ cell σ
  used_keeps true n samples σ = refl
  used_keeps false n samples σ = refl

  pub done_keeps : (is : Bool) (n : ℕ) (samples : List ℕ) (σ : Store) → cell (done is n samples σ) ≡ cell σ
  done_keeps true n samples σ = refl
  done_keeps false n samples σ = refl

  -- ---- outcomes

  module _ (h : Held) where
    pub value_keeps : (g : Got) (n : ℕ) (σ : Store) (go : Value → Outcome) → cell σ ≡ h → ((v : Value) → Keeps h (go v)) → Keeps h (with_value g n σ go)
    value_keeps (Val v) n σ go e f = f v
    value_keeps (Traps k) n σ go e f = e

    pub then_keeps : (o : Outcome) (go : Store → Outcome) → Keeps h o → ((σ : Store) → cell σ ≡ h → Keeps h (go σ)) → Keeps h (then_do o go)
    then_keeps (Went σ) go e f = f σ e
    then_keeps (Returned v σ) go e f = e
    then_keeps (Stopped s σ) go e f = e

    pub result_keeps : (o : Outcome) (go : Value → Store → Outcome) → Keeps h o → ((v : Value) (σ : Store) → cell σ ≡ h → Keeps h (go v σ)) → Keeps h (with_result o go)
    result_keeps (Went σ) go e f = f (plain (pos 0)) σ e
    result_keeps (Returned v σ) go e f = f v σ e
    result_keeps (Stopped s σ) go e f = e

    pub dropped_keeps : (o : Outcome) → Keeps h o → Keeps h (dropped o)
    dropped_keeps o e = result_keeps o (λ v σ. Went σ) e (λ v σ k. k)

    pub leave_keeps : (n : ℕ) (o : Outcome) → Keeps h o → Keeps h (leave n o)
    leave_keeps n (Went σ) e = e
    leave_keeps n (Returned v σ) e = e
    leave_keeps n (Stopped s σ) e = e

    pub finished_keeps : (after : Store → Store) (o : Outcome) → ((σ : Store) → cell (after σ) ≡ cell σ) → Keeps h o → Keeps h (finished after o)
    finished_keeps after (Went σ) f e = f σ ∙ e
    finished_keeps after (Returned v σ) f e = e
    finished_keeps after (Stopped s σ) f e = e

    pub sense_keeps : (s : ℕ) (zs : List ℤ) (σ : Store) → cell σ ≡ h → Keeps h (sense s zs σ)
    sense_keeps s [] σ e = e
    sense_keeps s (z ∷ zs) σ e = e

    pub args_keep : (ps : Passing) (n : ℕ) (σ : Store) (go : List Passed → Outcome) → cell σ ≡ h → ((qs : List Passed) → ps ≡ Passes qs → Keeps h (go qs)) → Keeps h (with_args ps n σ go)
    args_keep (Passes qs) n σ go e f = f qs refl
    args_keep (Breaks k) n σ go e f = e

    pub element_keeps : (q : Place) (e : Option ℕ) (j v : Value) (n : ℕ) (σ : Store) → (q ≡ Global i → ⊥) → cell σ ≡ h → Keeps h (element_written q e j v n σ)
    element_keeps q None j v n σ free k = k
    element_keeps q (Some e) j v n σ free k = put_keeps σ q _ free ∙ k

    -- ---- loops

    pub for_keeps : (t : ℕ) (z : ℤ) (body : ℤ → Store → Outcome) (σ : Store) → ((z : ℤ) (τ : Store) → cell τ ≡ h → Keeps h (body z τ)) → cell σ ≡ h → Keeps h (for_turns t z body σ)
    for_keeps zero z body σ f e = e
    for_keeps (suc t) z body σ f e = then_keeps (body z σ) (for_turns t (z +ℤ pos 1) body) (f z σ e) (λ τ k. for_keeps t (z +ℤ pos 1) body τ f k)

    pub while_keeps : (t n : ℕ) (is : Bool) (taken : Store → List ℕ) (test : Store → Got) (body : Store → Outcome) (before : List ℕ) (σ : Store)
        → ((τ : Store) → cell τ ≡ h → Keeps h (body τ)) → cell σ ≡ h → Keeps h (while_turns t n is taken test body before σ)
    while_keeps zero n is taken test body before σ f e = done_keeps is n before σ ∙ e
    while_keeps (suc t) n is taken test body before σ f e =
        let τ = used is n (taken σ) σ in
        let k : cell τ ≡ h = used_keeps is n (taken σ) σ ∙ e in
        value_keeps (test τ) n τ _ k (λ v. by (is_zero v.num) k (λ υ j. while_keeps t n is taken test body (union before (taken σ)) υ f j))
      where
        by : (b : Bool) → cell (used is n (taken σ) σ) ≡ h → ((υ : Store) → cell υ ≡ h → Keeps h (while_turns t n is taken test body (union before (taken σ)) υ))
            → Keeps h (if b then Went (done is n (union before (taken σ)) (used is n (taken σ) σ)) else then_do (body (used is n (taken σ) σ))
            (while_turns t n is taken test body (union before (taken σ))))
        by true k rest = done_keeps is n (union before (taken σ)) (used is n (taken σ) σ) ∙ k
        by false k rest = then_keeps (body (used is n (taken σ) σ)) (while_turns t n is taken test body (union before (taken σ))) (f (used is n (taken σ) σ) k) rest
