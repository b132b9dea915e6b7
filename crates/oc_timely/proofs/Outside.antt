-- Outside of regions, or where none is known to be open, all that a function adds is fine.
use Rattle.std.proofs.Common.{◌≡◌, ◌⊎◌, inl, inr, ℕ, zero, suc, ◌+◌, ◌<◌, ◌≤◌, Bool, true, false, true≢false, List, [], ◌∷◌, length, Option, Some, None, refl, sym, ap, ◌∙◌, subst, arith, append-nil}
use Rattle.std.specs.Prelude.{ℤ, pos, ◌+ℤ◌, ◌-ℤ◌}
use Rattle.oc_tree.specs.Names.{Text}
use Rattle.oc_tree.specs.Tree.{TExpr, TKind, if_else, for_in, while_do, TElse, no_else, else_do, stmt, TBlock, block, TStmts, no_stmts, more, TProgram}
use Rattle.oc_tree.specs.Places.{Place as Spot, Placed, behind, in_branch, in_loop, kind_placed, else_placed, block_placed, stmts_placed}
use Rattle.oc_tree.specs.Marked.{TMarked}
use Rattle.oc_tree.specs.declared.tree.VarId.{VarId}
use Rattle.oc_tree.specs.declared.tree.VarId.TheVariants as variables
use Rattle.oc_tree.specs.Samples.{union}
use Rattle.oc_meaning.specs.Uses.{is_fresh, is_use, use_samples, begins_use, ends_use}
use Rattle.oc_meaning.specs.Store.{Held, Turn, Nowhere, Store, Binding, held_at}
use Rattle.oc_meaning.specs.Eval.{is_zero, value_of}
use Rattle.oc_meaning.specs.Exec.{Outcome, Went, Passed, used, done, closed, opened, begun_by, ended_by, for_turns, while_turns, in_turn, grown, entered, kind_run}
use Rattle.oc_tree.specs.Weight.{count_of}
use Rattle.oc_meaning.specs.Exec.{else_run, block_run, stmts_run}
use Rattle.oc_effects.specs.Effects.{TEffect, effect_of}
use Rattle.oc_tree.specs.Members.{IsOf}
use Rattle.oc_flow.specs.Relations.{Flow, itself}
use Rattle.oc_needs.specs.Sites.{is_outside}
use Rattle.oc_copies.specs.Copies.{HasStored}
use Rattle.oc_timely.specs.Within.{Where, samples_of, Comes, old, new, Came}
use Rattle.oc_timely.specs.Enough.{Target, Apart, Calm, next_mode, OkOwn, OkStep, OkClean, OkKind, OkElse, OkBlock, OkStmts, taken_in, is_open, since}
use Rattle.oc_timely.specs.Steps.{AreTaken}
use Rattle.oc_timely.specs.Modes.{AllFine, FineOut, Sees, CallFine, Flows, Goes, In, IsEffectAmong, own_placed, IsSteady, with_place, where_behind, IsStep, PairedKind, PairedElse, PairedBlock, PairedStmts}
use Rattle.oc_timely.proofs.Came.{flow_on}
use Rattle.oc_timely.proofs.Sampled.{in_union}
use Rattle.oc_timely.proofs.Marks.{like_held, like_samples, sees_length, like_sees, sees_later, like_stored, IsQuiet, quiet_used, quiet_done, quiet_taken, sees_spot, quiet_entered}
use Rattle.oc_timely.proofs.Marks.{like_opened, like_closed, is_deep, was_deep, begun_is, ended_is}
use Rattle.oc_timely.proofs.Straight.{fine_value, fine_used, fine_done, fine_closed, fine_opened, use_target, straight_fine}
use Rattle.oc_timely.proofs.Inside.{fine_then, fine_finished, fine_leave, fine_if, turn_samples, samples_turn, SinceAt, since_quiet, count_open, FitsAt, Open}
use Rattle.oc_laws.proofs.Members.{of_left, of_right}
use Rattle.oc_timely.proofs.Inside.{open_opened, open_less, open_quiet, open_on, use_open, since_on, kind_open}

module _ (m : TMarked) (guarded : ℕ → Bool) (call : Text → List Passed → Store → Outcome) (home : ℤ → ℕ) (f base : ℕ) (body : List Placed) (calls : CallFine m guarded call home f base body)
    (flows : Flows m.program m.regions call home f base body)
    (inner : (loop s : ℕ) → is_outside m.program f loop (variables.Declared s) ≡ false → loop < s) (d0 : Bool) (s0 : ℕ) where
  abbrev p : TProgram
  p = m.program

  abbrev OpenIn : (VarId → Type 0) → Where → ℕ → Store → Type 0
  OpenIn C w n σ = Open m guarded call home f base body calls flows C w n σ

  -- `d0` says whether a region was open when the function began, which `s0` is of; n marks of the list's own are open
  pub record Shut (C : VarId → Type 0) (w : Where) (n : ℕ) (σ : Store) : Type 0 where
    pub taken : AreTaken σ
    pub stored : HasStored p σ
    pub marks : n ≤ σ.depth
    pub entered : d0 ≡ true → (n < σ.depth) × (since σ.events ≡ s0)
    pub clean : (x : VarId) → C x → (v : VarId) (j : ℕ) → IsOf j (samples_of σ w v) → Flow p f v x → (d0 ≡ true) × (s0 ≤ j)
    pub all : AllFine σ.events

  shut_part : (C D : VarId → Type 0) (w : Where) (n : ℕ) (σ : Store) → ((x : VarId) → D x → C x) → Shut C w n σ → Shut D w n σ
  shut_part C D w n σ k o = record { taken = o.taken; stored = o.stored; marks = o.marks; entered = o.entered; clean = λ x d. o.clean x (k x d); all = o.all }

  shut_less : (C : VarId → Type 0) (w : Where) (n k : ℕ) (σ : Store) → k ≤ n → Shut C w n σ → Shut C w k σ
  shut_less C w n k σ h o =
      record { taken = o.taken; stored = o.stored; marks = let a = o.marks in omega (arith, a, h); entered = λ d. let e = o.entered d in (omega (arith, e.0, h), e.1); clean = o.clean; all = o.all }

  shut_quiet : (C : VarId → Type 0) (w : Where) (n : ℕ) (σ τ : Store) → IsQuiet σ τ → AllFine τ.events → Shut C w n σ → Shut C w n τ
  shut_quiet C w n σ τ q a o = record {
    taken = quiet_taken σ τ q o.taken;
    stored = like_stored p σ τ q.like o.stored;
    marks = let l = o.marks in let e = q.depth in omega (arith, l, e);
    entered = λ d. let h = o.entered d in let e = q.depth in (omega (arith, h.0, e), q.since ∙ h.1);
    clean = λ x c v j h fl. o.clean x c v j (like_samples σ τ q.like w v j h) fl;
    all = a;
  }

  -- what brings nothing leaves clean what was
  shut_on : (C : VarId → Type 0) (P : TEffect → Type 0) (w w' : Where) (n : ℕ) (σ τ : Store) → Came p f base P w w' σ τ → IsSteady σ τ → AllFine τ.events → Shut C w n σ →
      Shut (λ x. C x × Apart p f P x) w' n τ
  shut_on C P w w' n σ τ r s a o = record {
    taken = s.taken;
    stored = r.stored ∙ o.stored;
    marks = let l = o.marks in let e = s.deep in omega (arith, l, e);
    entered = λ d. let h = o.entered d in let e = s.deep in (omega (arith, h.0, e), s.since (omega (arith, h.0)) ∙ h.1);
    clean = λ x c v j h fl. go x c v j fl (r.within v j h);
    all = a;
  }
    where
      go : (x : VarId) → C x × Apart p f P x → (v : VarId) (j : ℕ) → Flow p f v x → Comes p f P (samples_of σ w) σ.taken v j → (d0 ≡ true) × (s0 ≤ j)
      go x c v j fl (old u i fl') = o.clean x c.0 u j i (flow_on p x fl' fl)
      go x c v j fl (new b u i br fl' le) = absurd (c.1 b u i br (flow_on p x fl' fl))

  shut_opened : (C : VarId → Type 0) (w : Where) (n : ℕ) (b : Option ℕ) (σ : Store) → Shut C w n σ → Shut C w (n + count_open b) (opened b σ)
  shut_opened C w n None σ o = shut_less C w n (n + 0) σ (omega arith) o
  shut_opened C w n (Some r) σ o =
      let b = begun_is r σ o.taken in
      let d = b.deep in
      record {
        taken = b.taken;
        stored = o.stored;
        marks = let l = o.marks in omega (arith, l, d);
        entered = λ h. let e = o.entered h in (omega (arith, e.0, d), b.still (omega (arith, e.0)) ∙ e.1);
        clean = o.clean;
        all = fine_opened (Some r) σ o.all;
      }

  shut_ends : (C : VarId → Type 0) (w : Where) (r : ℕ) (σ : Store) → Shut C w 1 σ → Shut C w 0 (closed (Some r) σ)
  shut_ends C w r σ o =
      let l = o.marks in
      let e = ended_is r σ o.taken (omega (arith, l)) in
      let d = e.deep in
      record {
        taken = e.taken;
        stored = o.stored;
        marks = omega arith;
        entered = λ h. let a = o.entered h in (omega (arith, a.0, d), e.still ∙ a.1);
        clean = o.clean;
        all =
            fine_closed (Some r) σ o.all;
      }

  shut_closed : (C : VarId → Type 0) (w : Where) (inside begun ended : Option ℕ) (σ : Store) → IsStep inside begun ended → Shut C w (count_open inside + count_open begun) σ →
      Shut C w (count_open (next_mode inside begun ended)) (closed ended σ)
  shut_closed C w (Some r) (Some q) ended σ s o = absurd s
  shut_closed C w None None (Some r) σ s o = absurd s
  shut_closed C w None None None σ s o = o
  shut_closed C w None (Some q) None σ s o = o
  shut_closed C w (Some r) None None σ s o = o
  shut_closed C w None (Some q) (Some r) σ s o = shut_ends C w r σ o
  shut_closed C w (Some q) None (Some r) σ s o = shut_ends C w r σ o

  -- a region begins while its targets are clean
  begins_open : (C : VarId → Type 0) (w : Where) (r : ℕ) (σ : Store) → Shut C w 0 σ → OpenIn C w 0 (opened (Some r) σ)
  begins_open C w r σ o =
      let b = begun_is r σ o.taken in
      let d = b.deep in
      record {
        taken = b.taken;
        stored = o.stored;
        deep = omega (arith, d);
        held = λ x c v j h fl. let k = o.clean x c v j h fl in let e = o.entered k.0 in let q = b.still e.0 in let z = e.1 in omega (arith, q, z, k.1);
        all = fine_opened (Some r) σ o.all;
      }

  -- clean samples are since
  clean_since : (C : VarId → Type 0) (w : Where) (n : ℕ) (σ : Store) → Shut C w n σ → (j : ℕ) → (d0 ≡ true) × (s0 ≤ j) → j < taken_in σ.events → SinceAt σ j
  clean_since C w n σ o j c l = let e = o.entered c.0 in let z = e.1 in (is_deep σ o.taken (omega (arith, e.0)), omega (arith, z, c.1), l)

  target_clean : (C : VarId → Type 0) (w : Where) (n k : ℕ) (spot : Spot) (env : List Binding) (σ : Store) → Sees p f base k spot env w σ → Shut C w n σ → (x : VarId) → C x → (j : ℕ) →
      IsOf j (samples_of σ w x) → (d0 ≡ true) × (s0 ≤ j) × (j < taken_in σ.events)
  target_clean C w n k spot env σ s o x c j h = elim (s.owns.known x) [
    | inl e ↦ absurd (subst (λ q. IsOf j (held_at σ q).samples) e h)
    | inr v ↦
        let a = o.taken.held (w x) j h in
        let e = o.taken.count in
        let k = o.clean x c x j h (itself v) in
        (k.0, k.1, omega (arith, a, e))
  ]

  -- ---- modes

  -- a region of the list is open
  abbrev OpenIf : Option ℕ → (VarId → Type 0) → Where → Store → Type 0
  OpenIf None D w σ = Unit {0}
  OpenIf (Some r) D w σ = OpenIn D w 0 σ

  -- or has just begun
  abbrev OpenOr : Option ℕ → Option ℕ → (VarId → Type 0) → Where → Store → Type 0
  OpenOr (Some r) b D w σ = OpenIn D w 0 σ
  OpenOr None (Some r) D w σ = OpenIn D w 0 σ
  OpenOr None None D w σ = Unit {0}

  open_or : (inside begun : Option ℕ) (D : VarId → Type 0) (w : Where) (σ : Store) → OpenIn D w 0 σ → OpenOr inside begun D w σ
  open_or (Some r) b D w σ o = o
  open_or None (Some r) D w σ o = o
  open_or None None D w σ o = tt

  open_next : (inside begun ended : Option ℕ) (D : VarId → Type 0) (w : Where) (σ : Store) → IsStep inside begun ended → OpenOr inside begun D w σ →
      OpenIf (next_mode inside begun ended) D w (closed ended σ)
  open_next (Some r) (Some q) ended D w σ s o = absurd s
  open_next None None (Some r) D w σ s o = absurd s
  open_next None None None D w σ s o = tt
  open_next None (Some q) None D w σ s o = o
  open_next (Some r) None None D w σ s o = o
  open_next None (Some q) (Some r) D w σ s o = tt
  open_next (Some q) None (Some r) D w σ s o = tt

  -- the mode of a statement: a region is open where it begins, or nothing is known
  abbrev ModeAt : (inside begun : Option ℕ) → (C0 C : VarId → Type 0) → (P : TEffect → Type 0) → (plain : Type 0) → Where → Store → Type 0
  ModeAt inside begun C0 C P plain w σ =
      (OpenIn (OkClean m guarded f inside C0 C begun) w 0 (opened begun σ) × FitsAt m guarded call home f base body calls flows (OkClean m guarded f inside C0 C begun) P)
      ⊎ (plain × ((w' : Where) (τ : Store) → OpenOr inside begun (OkClean m guarded f inside C0 C begun) w' τ))

  mode_at : (inside begun : Option ℕ) (C0 C : VarId → Type 0) (P : TEffect → Type 0) (plain : Type 0) (w : Where) (σ : Store) →
      OkStep m guarded f inside begun (FitsAt m guarded call home f base body calls flows C0 P) (FitsAt m guarded call home f base body calls flows C P) plain
      → Shut C w (count_open inside) σ → OpenIf inside C0 w σ → ModeAt inside begun C0 C P plain w σ
  mode_at (Some r) begun C0 C P plain w σ ok o i =
      inl (
        open_less m guarded call home f base body calls flows C0 w (0 + count_open begun) 0 (opened begun σ) (omega arith)
            (open_opened m guarded call home f base body calls flows C0 w 0 begun σ i),
        ok,
      )
  mode_at None (Some q) C0 C P plain w σ ok o i = inl (begins_open C w q σ o, ok)
  mode_at None None C0 C P plain w σ ok o i = inr (ok, λ w' τ. tt)

  -- ---- loops

  -- what is declared inside a loop isn't alive at it
  gone_inside : (id : ℕ) (w : Where) (v : VarId) → ((s : ℕ) → (w (variables.Declared s) ≡ Nowhere) ⊎ (s < id)) → is_outside p f id v ≡ false → w v ≡ Nowhere
  gone_inside id w (variables.Nv i) older e = absurd (true≢false e)
  gone_inside id w (variables.Param i) older e = absurd (true≢false e)
  gone_inside id w variables.Returned older e = absurd (true≢false e)
  gone_inside id w (variables.Declared s) older e = elim (older s) [ inl g ↦ g | inr l ↦ let h = inner id s e in absurd (omega (arith, l, h)) ]

  -- clean of what a turn brings, where all that carries it on is left behind
  abbrev CleanTurn : (VarId → Type 0) → ℕ → (TEffect → Type 0) → VarId → Type 0
  CleanTurn C id P v = C v × Calm p f id P v

  shut_turn : (C : VarId → Type 0) (id : ℕ) (P : TEffect → Type 0) (w w' : Where) (σ τ : Store) → ((s : ℕ) → (w (variables.Declared s) ≡ Nowhere) ⊎ (s < id)) →
      ((v : VarId) (j : ℕ) → IsOf j (samples_of τ w v) → IsOf j (samples_of τ w' v)) → Came p f base P w' w' σ τ → IsSteady σ τ → AllFine τ.events → Shut (CleanTurn C id P) w' 0 σ →
      Shut (CleanTurn C id P) w 0 τ
  shut_turn C id P w w' σ τ older to r s a o = record {
    taken = s.taken;
    stored = r.stored ∙ o.stored;
    marks = omega arith;
    entered = λ d. let h = o.entered d in let e = s.deep in (omega (arith, h.0, e), s.since (omega (arith, h.0)) ∙ h.1);
    clean = λ x c v j h fl. by x c v j h fl (is_outside p f id v) refl;
    all = a;
  }
    where
      go : (x : VarId) → CleanTurn C id P x → (v : VarId) (j : ℕ) → is_outside p f id v ≡ true → Flow p f v x → Comes p f P (samples_of σ w') σ.taken v j → (d0 ≡ true) × (s0 ≤ j)
      go x c v j e fl (old u i fl') = o.clean x c u j i (flow_on p x fl' fl)
      go x c v j e fl (new b u i br fl' le) = absurd (true≢false (sym e ∙ c.1 b u v i br fl' fl))

      by : (x : VarId) → CleanTurn C id P x → (v : VarId) (j : ℕ) → IsOf j (samples_of τ w v) → Flow p f v x → (b : Bool) → is_outside p f id v ≡ b → (d0 ≡ true) × (s0 ≤ j)
      by x c v j h fl true e = go x c v j e fl (r.within v j (to v j h))
      by x c v j h fl false e = absurd (subst (λ q. IsOf j (held_at τ q).samples) (gone_inside id w v older e) h)

  abbrev InBody : List Placed → Type 0
  InBody bs = In m.program m.regions call home f base body bs

  module _ (C : VarId → Type 0) (spot : Spot) (id line : ℕ) (env : List Binding) (w : Where) where
    for_shut : (x : Text) (c d : ℤ) (b : TBlock) → InBody (own_placed spot id line (for_in x c d b)) → PairedBlock m.regions (suc id) b →
        ((i : ℤ) (σ : Store) → Sees p f base (suc id) (in_loop spot id ((x, variables.Declared id) ∷ [])) (in_turn x i ∷ env) (with_place w id (Turn i)) σ
        → Shut (CleanTurn C id (IsEffectAmong p (kind_placed spot id (for_in x c d b)))) (with_place w id (Turn i)) 0 σ → FineOut (block_run p.names m.regions call home (in_turn x i ∷ env) b σ)) →
        (t : ℕ) (i : ℤ) (σ : Store) → Sees p f base id spot env w σ → Shut (CleanTurn C id (IsEffectAmong p (kind_placed spot id (for_in x c d b)))) w 0 σ
        → FineOut (for_turns t i (λ i. block_run p.names m.regions call home (in_turn x i ∷ env) b) σ)
    for_shut x c d b sub pair each zero i σ s o = o.all
    for_shut x c d b sub pair each (suc t) i σ s o =
        let s' = flows.turn spot id line x c d b (sub _ (inl refl)) env w σ i s in
        let o' : Shut (CleanTurn C id (IsEffectAmong p (kind_placed spot id (for_in x c d b)))) (with_place w id (Turn i)) 0 σ =
        record { taken = o.taken; stored = o.stored; marks = o.marks; entered = o.entered; clean = λ y k v j h fl. o.clean y k v j (turn_samples σ w id i v j h) fl; all = o.all } in
        fine_then (block_run p.names m.regions call home (in_turn x i ∷ env) b σ) _ (each i σ s' o') (λ τ e a.
        let r = flows.block (in_loop spot id ((x, variables.Declared id) ∷ [])) (suc id) b (λ z h. sub z (inr h)) pair (in_turn x i ∷ env) (with_place w id (Turn i)) σ τ s' o.taken o.stored e in
        let gone : w (variables.Declared id) ≡ Nowhere = elim (s.older id) [ inl g ↦ g | inr l ↦ absurd (omega (arith, l)) ] in
        for_shut x c d b sub pair each t (i +ℤ pos 1) τ (sees_length p f base id spot env w σ τ r.2 s)
        (shut_turn C id (IsEffectAmong p (kind_placed spot id (for_in x c d b))) w (with_place w id (Turn i)) σ τ s.older (λ v j h. samples_turn τ w id i v j gone h) r.0 r.1 a o'))

    while_shut : (c : TExpr) (z : ℕ) (b : TBlock) → InBody (own_placed spot id line (while_do c z b)) → PairedBlock m.regions (suc id) b →
        ((x : VarId) → Target p f (effect_of p (record { id = id; line = line; kind = while_do c z b; at = spot })) x → CleanTurn C id (IsEffectAmong p (kind_placed spot id (while_do c z b))) x) →
        ((σ : Store) → Sees p f base (suc id) (in_loop spot id []) env w σ → Shut (CleanTurn C id (IsEffectAmong p (kind_placed spot id (while_do c z b)))) w 0 σ
        → FineOut (block_run p.names m.regions call home env b σ)) →
        (t : ℕ) (before : List ℕ) (σ : Store) → ((j : ℕ) → IsOf j before → (d0 ≡ true) × (s0 ≤ j) × (j < taken_in σ.events)) → Sees p f base id spot env w σ
        → Shut (CleanTurn C id (IsEffectAmong p (kind_placed spot id (while_do c z b)))) w 0 σ →
        FineOut (while_turns t id (is_use (is_fresh env) (while_do c z b)) (use_samples env (while_do c z b)) (λ τ. value_of env τ c) (block_run p.names m.regions call home env b) before σ)
    while_shut c z b sub pair fit each zero before σ h s o =
        fine_done (is_use (is_fresh env) (while_do c z b)) id before σ
        (λ j i. let k = h j i in clean_since (CleanTurn C id (IsEffectAmong p (kind_placed spot id (while_do c z b)))) w 0 σ o j (k.0, k.1) k.2) o.all
    while_shut c z b sub pair fit each (suc t) before σ h s o =
        fine_value (value_of env first c) id first _ seen.all (λ v.
        fine_if (is_zero v.num) (Went (done is id (union before uses) first)) _
        (fine_done is id (union before uses) first (λ j i. let k = all_clean j i in clean_since CC w 0 first seen j (k.0, k.1) k.2) seen.all)
        (fine_then (block_run p.names m.regions call home env b first) _ (each first inner_sees seen) (λ τ e a.
        let r = flows.block (in_loop spot id []) (suc id) b (λ y i. sub y (inr i)) pair env w first τ inner_sees seen.taken seen.stored e in
        while_shut c z b sub pair fit each t (union before uses) τ
        (λ j i. let k = all_clean j i in let l = r.0.later in let x = seen.taken.count in let y = r.1.taken.count in (k.0, k.1, omega (arith, k.2, l, x, y)))
        (sees_length p f base id spot env w first τ r.2 outer)
        (shut_turn C id (IsEffectAmong p (kind_placed spot id (while_do c z b))) w w first τ s.older (λ v j q. q) r.0 r.1 a seen))))
      where
        CC : VarId → Type 0
        CC = CleanTurn C id (IsEffectAmong p (kind_placed spot id (while_do c z b)))

        is : Bool
        is = is_use (is_fresh env) (while_do c z b)

        uses : List ℕ
        uses = use_samples env (while_do c z b) σ

        first : Store
        first = used is id uses σ

        quiet : IsQuiet σ first
        quiet = quiet_used is id uses σ

        now : (j : ℕ) → IsOf j uses → (d0 ≡ true) × (s0 ≤ j) × (j < taken_in σ.events)
        now j i = let u = use_target p f base id (record { id = id; line = line; kind = while_do c z b; at = spot }) env w σ s j i in target_clean CC w 0 id spot env σ s o u.0 (fit u.0 u.1) j u.2

        seen : Shut CC w 0 first
        seen = shut_quiet CC w 0 σ first quiet (fine_used is id uses σ (λ j i. let k = now j i in clean_since CC w 0 σ o j (k.0, k.1) k.2) o.all) o

        same : taken_in first.events ≡ taken_in σ.events
        same = quiet.taken

        all_clean : (j : ℕ) → IsOf j (union before uses) → (d0 ≡ true) × (s0 ≤ j) × (j < taken_in first.events)
        all_clean j i = elim (in_union j before uses i) [ inl k ↦ let q = h j k in (q.0, q.1, omega (arith, q.2, same)) | inr k ↦ let q = now j k in (q.0, q.1, omega (arith, q.2, same)) ]

        outer : Sees p f base id spot env w first
        outer = like_sees p f base id spot env w σ first quiet.like s

        inner_sees : Sees p f base (suc id) (in_loop spot id []) env w first
        inner_sees = sees_later p f base id (suc id) (in_loop spot id []) env w first (omega arith) (sees_spot p f base id spot (in_loop spot id []) env w first (append-nil spot.variables) outer)

  -- ---- a statement of a list

  module _ (spot : Spot) (id line : ℕ) (k : TKind) (rest : TStmts) (inside : Option ℕ) (C0 C : VarId → Type 0) (plain : Type 0) (env : List Binding) (w : Where) (σ : Store)
      (s : Sees p f base id spot env w σ) (o : Shut C w (count_open inside) σ) (sub : InBody (stmts_placed spot (more (stmt id line k) rest)))
      (own : plain → (x : VarId) → Target p f (effect_of p (record { id = id; line = line; kind = k; at = spot })) x → C x)
      (mode : ModeAt inside (begun_by m.regions id) C0 C (IsEffectAmong p (own_placed spot id line k)) plain w σ) where
    abbrev begun : Option ℕ
    begun = begun_by m.regions id

    abbrev ended : Option ℕ
    ended = ended_by m.regions id

    abbrev marked : Store
    marked = opened begun σ

    abbrev uses : List ℕ
    uses = use_samples env k σ

    abbrev start : Store
    start = used (begins_use (is_fresh env) k) id uses marked

    abbrev D : VarId → Type 0
    D = OkClean m guarded f inside C0 C begun

    abbrev count : ℕ
    count = count_open inside + count_open begun

    at_mark : Shut C w count marked
    at_mark = shut_opened C w (count_open inside) begun σ o

    sees_mark : Sees p f base id spot env w marked
    sees_mark = like_sees p f base id spot env w σ marked (like_opened begun σ) s

    uses_then : (j : ℕ) → IsOf j uses → SinceAt marked j
    uses_then j h = elim mode [
      | inl i ↦ use_open m guarded call home f base body calls flows D w 0 (record { id = id; line = line; kind = k; at = spot }) (own_placed spot id line k) env σ marked s
          (like_opened begun σ) i.0 (inl refl) i.1 j h
      | inr i ↦
          let u = use_target p f base id (record { id = id; line = line; kind = k; at = spot }) env w σ s j h in
          let c = target_clean C w count id spot env marked sees_mark at_mark u.0 (own i.0 u.0 u.1) j
          (subst (λ (x : Held). IsOf j x.samples) (sym (like_held σ marked (like_opened begun σ) (w u.0))) u.2) in
          clean_since C w count marked at_mark j (c.0, c.1) c.2
    ]

    quiet : IsQuiet marked start
    quiet = quiet_used (begins_use (is_fresh env) k) id uses marked

    all_start : AllFine start.events
    all_start = fine_used (begins_use (is_fresh env) k) id uses marked uses_then at_mark.all

    at_start : Shut C w count start
    at_start = shut_quiet C w count marked start quiet all_start at_mark

    sees_start : Sees p f base id spot env w start
    sees_start = like_sees p f base id spot env w marked start quiet.like sees_mark

    same_length : length σ.locals ≡ length start.locals
    same_length = ap (λ (xs : List Held). length xs) (sym (quiet.like.locals ∙ (like_opened begun σ).locals))

    -- the statement itself, in its mode
    kind_fine : PairedKind m.regions (suc id) k → (plain → Shut C w 0 start → FineOut (kind_run p.names m.regions call home env id k start)) →
        FineOut (kind_run p.names m.regions call home env id k start)
    kind_fine pair out = elim mode [
      | inl i ↦ kind_open m guarded call home f base body calls flows D spot id line k
          (λ z h. sub z (of_left z (own_placed spot id line k) (stmts_placed (behind spot id k) rest) h)) pair i.1 env w start sees_start
          (open_quiet m guarded call home f base body calls flows D w 0 marked start quiet all_start i.0)
      | inr i ↦ out i.0 (shut_less C w count 0 start (omega arith) at_start)
    ]

    abbrev after : Store → Store
    after τ = closed ended (done (ends_use (is_fresh env) k) id uses τ)

    abbrev C' : VarId → Type 0
    C' x = C x × Apart p f (IsEffectAmong p (own_placed spot id line k)) x

    abbrev w' : Where
    w' = where_behind w id k σ

    module _ (pair : PairedKind m.regions (suc id) k) (τ : Store) (e : kind_run p.names m.regions call home env id k start ≡ Went τ) (a : AllFine τ.events) where
      went : Goes m.program m.regions call home f base body spot id line k rest env w σ start τ
      went = flows.goes spot id line k rest sub pair env w σ start τ same_length sees_start at_start.taken at_start.stored e

      at_end : Shut C' w' count τ
      at_end = shut_on C (IsEffectAmong p (own_placed spot id line k)) w w' count start τ went.came went.steady a at_start

      since_on_start : (j : ℕ) → IsOf j uses → 0 < start.depth → SinceAt τ j
      since_on_start j h d =
          since_on m guarded call home f base body calls flows (IsEffectAmong p (own_placed spot id line k)) w w' start τ j at_start.taken d went.came went.steady
          (since_quiet marked start j quiet (uses_then j h))

      uses_still : (j : ℕ) → IsOf j uses → SinceAt τ j
      uses_still j h = since_on_start j h (was_deep start at_start.taken (since_quiet marked start j quiet (uses_then j h)).0)

      abbrev used_up : Store
      used_up = done (ends_use (is_fresh env) k) id uses τ

      quiet_end : IsQuiet τ used_up
      quiet_end = quiet_done (ends_use (is_fresh env) k) id uses τ

      all_end : AllFine used_up.events
      all_end = fine_done (ends_use (is_fresh env) k) id uses τ uses_still a

      shut_after : IsStep inside begun ended → Shut C' w' (count_open (next_mode inside begun ended)) (after τ)
      shut_after h = shut_closed C' w' inside begun ended used_up h (shut_quiet C' w' count τ used_up quiet_end all_end at_end)

      open_after : IsStep inside begun ended → OpenIf (next_mode inside begun ended) D w' (after τ)
      open_after h = open_next inside begun ended D w' used_up h (elim mode [
        | inl i ↦ open_or inside begun D w' used_up (open_quiet m guarded call home f base body calls flows D w' 0 τ used_up quiet_end all_end
            (open_on m guarded call home f base body calls flows D (IsEffectAmong p (own_placed spot id line k)) w w' 0 start τ went.came went.steady a
            (open_quiet m guarded call home f base body calls flows D w 0 marked start quiet all_start i.0)))
        | inr i ↦ i.1 w' used_up
      ])

      sees_after : Sees p f base (suc id) (behind spot id k) (grown k rest env σ) w' (after τ)
      sees_after = like_sees p f base (suc id) (behind spot id k) (grown k rest env σ) w' used_up (after τ) (like_closed ended used_up)
          (like_sees p f base (suc id) (behind spot id k) (grown k rest env σ) w' τ used_up quiet_end.like went.sees)

  -- what is asked outside of regions
  abbrev Plain : (VarId → Type 0) → Spot → (id line : ℕ) → TKind → Type 0
  Plain C spot id line k = OkOwn m guarded f C (effect_of p (record { id = id; line = line; kind = k; at = spot })) × OkKind m guarded f C spot id line k

  branch_sees : (spot : Spot) (id : ℕ) (env : List Binding) (w : Where) (σ : Store) → Sees p f base id spot env w σ → Sees p f base (suc id) (in_branch spot id) env w σ
  branch_sees spot id env w σ s = sees_later p f base id (suc id) (in_branch spot id) env w σ (omega arith) (sees_spot p f base id spot (in_branch spot id) env w σ refl s)

  -- a call finds no guarded function
  not_guarded : (b : Bool) → b ≡ false → b ≡ true → (c : Bool) → c ≡ true
  not_guarded b e d c = absurd (true≢false (sym d ∙ e))

  mutual
    kind_shut : (C : VarId → Type 0) (spot : Spot) (id line : ℕ) (k : TKind) → InBody (own_placed spot id line k) → PairedKind m.regions (suc id) k →
        OkOwn m guarded f C (effect_of p (record { id = id; line = line; kind = k; at = spot })) → OkKind m guarded f C spot id line k → (env : List Binding) (w : Where) (σ : Store) →
        Sees p f base id spot env w σ → Shut C w 0 σ → FineOut (kind_run p.names m.regions call home env id k σ)
    kind_shut C spot id line (if_else c a b) sub pair own ok env w σ s o =
        fine_value (value_of env σ c) id σ _ o.all (λ v. fine_if (is_zero v.num) (else_run p.names m.regions call home env b σ) (block_run p.names m.regions call home env a σ)
        (else_shut C (in_branch spot id) (suc id) b (λ z h. sub z (inr (of_right z (block_placed (in_branch spot id) a) (else_placed (in_branch spot id) b) h))) pair.1 ok.1 env w σ
        (branch_sees spot id env w σ s) o)
        (block_shut C (in_branch spot id) (suc id) a (λ z h. sub z (inr (of_left z (block_placed (in_branch spot id) a) (else_placed (in_branch spot id) b) h))) pair.0 ok.0 env w σ
        (branch_sees spot id env w σ s) o))
    kind_shut C spot id line (for_in x c d b) sub pair own ok env w σ s o =
        for_shut C spot id line env w x c d b sub pair
        (λ i τ s' o'. block_shut (CleanTurn C id (IsEffectAmong p (kind_placed spot id (for_in x c d b)))) (in_loop spot id ((x, variables.Declared id) ∷ [])) (suc id) b
        (λ z h. sub z (inr h)) pair ok (in_turn x i ∷ env) (with_place w id (Turn i)) τ s' o')
        (count_of (d -ℤ c)) c σ s (shut_part C (CleanTurn C id (IsEffectAmong p (kind_placed spot id (for_in x c d b)))) w 0 σ (λ x d. d.0) o)
    kind_shut C spot id line (while_do c t b) sub pair own ok env w σ s o =
        while_shut C spot id line env w c t b sub pair (λ x z. (own.0 x z, ok.0 x z))
        (λ τ s' o'. block_shut (CleanTurn C id (IsEffectAmong p (kind_placed spot id (while_do c t b)))) (in_loop spot id []) (suc id) b (λ z h. sub z (inr h)) pair ok.1 env w τ s' o')
        t [] σ (λ j h. absurd h) s (shut_part C (CleanTurn C id (IsEffectAmong p (kind_placed spot id (while_do c t b)))) w 0 σ (λ x d. d.0) o)
    kind_shut C spot id line k sub pair own ok env w σ s o =
        straight_fine m guarded call home f base body calls spot id line k env w σ tt (record {
          one = sub _ (inl refl);
          sees = s;
          taken = o.taken;
          stored = o.stored;
          deep = λ t e g. not_guarded (guarded t.function) (own.1 t e) g (is_open σ.events);
          held = λ x t j h. let a = target_clean C w 0 id spot env σ s o x (own.0 x t) j h in let q = clean_since C w 0 σ o j (a.0, a.1) a.2 in (q.0, q.1);
          all = o.all;
        })

    else_shut : (C : VarId → Type 0) (spot : Spot) (n : ℕ) (b : TElse) → InBody (else_placed spot b) → PairedElse m.regions n b → OkElse m guarded f C spot b →
        (env : List Binding) (w : Where) (σ : Store) → Sees p f base n spot env w σ → Shut C w 0 σ → FineOut (else_run p.names m.regions call home env b σ)
    else_shut C spot n no_else sub pair ok env w σ s o = o.all
    else_shut C spot n (else_do b) sub pair ok env w σ s o = block_shut C spot n b sub pair ok env w σ s o

    pub block_shut : (C : VarId → Type 0) (spot : Spot) (n : ℕ) (b : TBlock) → InBody (block_placed spot b) → PairedBlock m.regions n b → OkBlock m guarded f C spot b →
        (env : List Binding) (w : Where) (σ : Store) → Sees p f base n spot env w σ → Shut C w 0 σ → FineOut (block_run p.names m.regions call home env b σ)
    block_shut C spot n (block bid ss) sub pair ok env w σ s o =
        fine_leave (length σ.locals) (stmts_run p.names m.regions call home env ss (entered bid σ))
        (stmts_shut C C (record spot { block = bid }) n None ss sub pair ok env w (entered bid σ)
        (sees_spot p f base n spot (record spot { block = bid }) env w (entered bid σ) refl (like_sees p f base n spot env w σ (entered bid σ) (quiet_entered bid σ).like s))
        (shut_quiet C w 0 σ (entered bid σ) (quiet_entered bid σ) o.all o) tt)

    stmts_shut : (C0 C : VarId → Type 0) (spot : Spot) (n : ℕ) (inside : Option ℕ) (ss : TStmts) → InBody (stmts_placed spot ss) → PairedStmts m.regions n inside ss →
        OkStmts m guarded f inside C0 C spot ss → (env : List Binding) (w : Where) (σ : Store) → Sees p f base n spot env w σ → Shut C w (count_open inside) σ → OpenIf inside C0 w σ →
        FineOut (stmts_run p.names m.regions call home env ss σ)
    stmts_shut C0 C spot n inside no_stmts sub pair ok env w σ s o i = o.all
    stmts_shut C0 C spot n inside (more (stmt id line k) rest) sub pair ok env w σ s o i =
        let s' = sees_later p f base n id spot env w σ pair.0 s in
        let md = mode_at inside (begun_by m.regions id) C0 C (IsEffectAmong p (own_placed spot id line k)) (Plain C spot id line k) w σ ok.0 o i in
        fine_finished (kind_run p.names m.regions call home env id k (start spot id line k rest inside C0 C (Plain C spot id line k) env w σ s' o sub (λ pl x t. pl.0.0 x t) md))
        (after spot id line k rest inside C0 C (Plain C spot id line k) env w σ s' o sub (λ pl x t. pl.0.0 x t) md) (stmts_run p.names m.regions call home (grown k rest env σ) rest)
        (kind_fine spot id line k rest inside C0 C (Plain C spot id line k) env w σ s' o sub (λ pl x t. pl.0.0 x t) md pair.2
        (λ pl o'. kind_shut C spot id line k (λ z h. sub z (of_left z (own_placed spot id line k) (stmts_placed (behind spot id k) rest) h)) pair.2 pl.0 pl.1 env w
        (start spot id line k rest inside C0 C (Plain C spot id line k) env w σ s' o sub (λ pl x t. pl.0.0 x t) md)
        (sees_start spot id line k rest inside C0 C (Plain C spot id line k) env w σ s' o sub (λ pl x t. pl.0.0 x t) md) o'))
        (λ τ e a. stmts_shut (OkClean m guarded f inside C0 C (begun_by m.regions id)) (λ v. C v × Apart p f (IsEffectAmong p (own_placed spot id line k)) v) (behind spot id k) (suc id)
        (next_mode inside (begun_by m.regions id) (ended_by m.regions id)) rest (λ z h. sub z (of_right z (own_placed spot id line k) (stmts_placed (behind spot id k) rest) h)) pair.3 ok.1
        (grown k rest env σ) (where_behind w id k σ) (after spot id line k rest inside C0 C (Plain C spot id line k) env w σ s' o sub (λ pl x t. pl.0.0 x t) md τ)
        (sees_after spot id line k rest inside C0 C (Plain C spot id line k) env w σ s' o sub (λ pl x t. pl.0.0 x t) md pair.2 τ e a)
        (shut_after spot id line k rest inside C0 C (Plain C spot id line k) env w σ s' o sub (λ pl x t. pl.0.0 x t) md pair.2 τ e a pair.1)
        (open_after spot id line k rest inside C0 C (Plain C spot id line k) env w σ s' o sub (λ pl x t. pl.0.0 x t) md pair.2 τ e a pair.1))
