-- How a run is left: by its last item, and by its checkpoints. No image has to be sound for this.
use Rattle.std.proofs.Common.{◌≡◌, ℕ, zero, suc, ℤ, List, [], ◌∷◌, ◌++◌, Option, Some, refl, sym, ap, ◌∙◌, subst, Bool, true, false}
use Rattle.std.specs.Prelude.{not, if◌then◌else◌, ◌↔◌}
use Rattle.oc_io.specs.declared.period.Period.{Period}
use Rattle.oc_tree.specs.Said.{Told}
use Rattle.oc_tree.specs.declared.said.Ending.{Ending}
use Rattle.oc_tree.specs.declared.said.Said.{Said}
use Rattle.oc_tree.specs.declared.said.Said.TheVariants.{Off, Dark, Ended}
use Rattle.oc_ckpt.specs.declared.AreaState.{AreaState}
use Rattle.oc_ckpt.specs.declared.AreaState.TheVariants.{Fresh, Open, Sealed, Armed}
use Rattle.oc_isa.specs.declared.phase.Phase.{Phase}
use Rattle.oc_isa.specs.declared.phase.Phase.TheVariants.{Waking, Undoing, Restoring, Running, Entering, Over, Lost}
use Rattle.oc_isa.specs.Next.{Device}
use Rattle.oc_isa.specs.Power.{State, Stepped, checkpoint, World, with_said, next_at, ticked, tick_on, ticks_on, power_fails, darkness, one_period, through, first_world, power_run}
use Rattle.oc_outage.specs.Honest.{IsLeft, is_armed, loses, loses_checkpoint}
use Rattle.oc_items.specs.Reports.{EndsWith}
use Rattle.oc_outage.proofs.Telling.{IsTold, TellsItsEnd, world_in, told_undoing, wake_tells, restore_tells, enter_on_tells, next_tells}

-- a run that is over has its last item; a step or an outage leaves that alone
abbrev IsClosed : Phase → List Told → Type 0
IsClosed (Over how) report = IsLeft (Over how) report
IsClosed Lost report = IsLeft Lost report
IsClosed p report = Unit {0}

abbrev HasClosed : World → Type 0
HasClosed w = IsClosed w.state.phase w.report

closes : (p : Phase) (said : Option Said) (report : List Told) (t : ℕ) → IsTold p said → IsClosed p (with_said report t said)
closes (Over how) said report t q = (report, t, ap (with_said report t) q)
closes Lost said report t q = absurd q
closes phase said report t q = tt

abbrev is_lost : Phase → Bool
is_lost Lost = true
is_lost p = false

-- a step ends the run only by its last item, and loses no checkpoint
told_unlost : (p : Phase) (said : Option Said) → IsTold p said → is_lost p ≡ false
told_unlost Lost said q = absurd q
told_unlost phase said q = refl

-- what a tick, an outage or the end keep: the last item, and whether a checkpoint was lost
pub record Keeps (w v : World) : Type 0 where
  pub closed : HasClosed w → HasClosed v
  pub lost : is_lost v.state.phase ≡ is_lost w.state.phase

module _ (d : Device) (h : ℕ → ℕ → ℤ) where
  keeps_of : (w : World) (r : Stepped) → is_lost w.state.phase ≡ false → TellsItsEnd r → Keeps w (ticked w r)
  keeps_of w r u q = record { closed = λ z. closes r.state.phase r.said w.report w.tick q; lost = told_unlost r.state.phase r.said q ∙ sym u }

  tick_by : (p : Phase) (w : World) → Keeps (world_in w p) (tick_on d h (world_in w p))
  tick_by Waking w = keeps_of (world_in w Waking) _ refl (wake_tells d w.state.area w.state)
  tick_by (Undoing k) w = keeps_of (world_in w (Undoing k)) _ refl (told_undoing k)
  tick_by (Restoring k) w = keeps_of (world_in w (Restoring k)) _ refl (restore_tells d k w.state)
  tick_by Running w = keeps_of (world_in w Running) _ refl (next_tells (λ s. h s w.tick) (next_at d w.state) w.state)
  tick_by (Entering k) w = keeps_of (world_in w (Entering k)) _ refl (enter_on_tells k (next_at d w.state) w.state)
  tick_by (Over how) w = record { closed = λ c. c; lost = refl }
  tick_by Lost w = record { closed = λ c. c; lost = refl }

  ticks_by : (n : ℕ) (w : World) → Keeps w (ticks_on d h n w)
  ticks_by zero w = record { closed = λ c. c; lost = refl }
  ticks_by (suc n) w =
      let k = tick_by w.state.phase w in
      let l = ticks_by n (tick_on d h w) in
      record { closed = λ c. l.closed (k.closed c); lost = l.lost ∙ k.lost }

  -- an outage where boot is over
  awake_closed : (cut : Bool) (a : AreaState) (s : State) (report : List Told) (t off : ℕ) → IsClosed ((checkpoint cut a s).phase) (with_said report t (Some (Off off)))
  awake_closed true Fresh s report t off = (off, (report, t, refl))
  awake_closed true Open s report t off = (off, (report, t, refl))
  awake_closed true Sealed s report t off = (off, (report, t, refl))
  awake_closed true Armed s report t off = tt
  awake_closed false Fresh s report t off = tt
  awake_closed false area s report t off = tt

  awake_lost : (cut : Bool) (a : AreaState) (s : State) → is_lost ((checkpoint cut a s).phase) ≡ (if cut then not (is_armed a) else false)
  awake_lost true Fresh s = refl
  awake_lost true area s = refl
  awake_lost false Fresh s = refl
  awake_lost false area s = refl

  -- an outage ends a run exactly where it loses the checkpoint
  pub record Fails (p : Period) (w : World) : Type 0 where
    pub closed : HasClosed w → HasClosed (power_fails d p w)
    pub lost : is_lost (power_fails d p w).state.phase ≡ (if is_lost w.state.phase then true else loses p w.state)

  asleep : (b : Bool) → false ≡ (if b then false else false)
  asleep true = refl
  asleep false = refl

  fails_by : (p : Period) (phase : Phase) (w : World) → Fails p (world_in w phase)
  fails_by p Waking w = record { closed = λ c. tt; lost = asleep p.cut }
  fails_by p (Undoing k) w = record { closed = λ c. tt; lost = asleep p.cut }
  fails_by p (Restoring k) w = record { closed = λ c. tt; lost = asleep p.cut }
  fails_by p Running w = record {
    closed = λ c. awake_closed p.cut w.state.area (record w.state { phase = Running }) _ w.tick p.off;
    lost =
        awake_lost p.cut w.state.area (record w.state { phase = Running });
  }
  fails_by p (Entering k) w = record {
    closed = λ c. awake_closed p.cut w.state.area (record w.state { phase = Entering k }) _ w.tick p.off;
    lost =
        awake_lost p.cut w.state.area (record w.state { phase = Entering k });
  }
  fails_by p (Over how) w = record { closed = λ c. c; lost = asleep p.cut }
  fails_by p Lost w = record { closed = λ c. c; lost = refl }

  -- the end
  pub record Ends_as (w v : World) (lost : Bool) : Type 0 where
    pub last : HasClosed w → IsLeft v.state.phase v.report
    pub lost_is : is_lost v.state.phase ≡ (if is_lost w.state.phase then true else lost)

  dark_by : (p : Phase) (w : World) → Ends_as (world_in w p) (darkness (world_in w p)) false
  dark_by (Over how) w = record { last = λ c. c; lost_is = refl }
  dark_by Lost w = record { last = λ c. c; lost_is = refl }
  dark_by phase w = record { last = λ c. (w.report, w.tick, refl); lost_is = refl }

  choice_assoc : (a b c : Bool) → (if (if a then true else b) then true else c) ≡ (if a then true else (if b then true else c))
  choice_assoc true b c = refl
  choice_assoc false b c = refl

  through_by : (periods : List Period) (w : World) → Ends_as w (through d h periods w) (loses_checkpoint d h periods w)
  through_by [] w = dark_by w.state.phase w
  through_by (p ∷ periods) w =
      let v = ticks_on d h p.on w in
      let k = ticks_by p.on w in
      let f = fails_by p v.state.phase v in
      let e = through_by periods (one_period d h p w) in
      let later = loses_checkpoint d h periods (one_period d h p w) in
      record {
        last = λ c. e.last (f.closed (k.closed c));
        lost_is =
            e.lost_is
            ∙ ap (λ b. if b then true else later) (f.lost ∙ ap (λ b. if b then true else loses p v.state) k.lost)
            ∙ choice_assoc (is_lost w.state.phase) (loses p v.state) later;
      }

  run_left : (periods : List Period) → Ends_as (first_world d) (power_run d h periods) (loses_checkpoint d h periods (first_world d))
  run_left periods = through_by periods (first_world d)

  pub last_item : (periods : List Period) → IsLeft (power_run d h periods).state.phase (power_run d h periods).report
  last_item periods = (run_left periods).last tt

  lost_is : (p : Phase) → is_lost p ≡ true → p ≡ Lost
  lost_is Lost e = refl
  lost_is phase e = absurd (cc)

  pub lost_exactly : (periods : List Period) → ((power_run d h periods).state.phase ≡ Lost) ↔ (loses_checkpoint d h periods (first_world d) ≡ true)
  lost_exactly periods =
      let w = power_run d h periods in
      let e = (run_left periods).lost_is in
      (λ l. sym e ∙ ap is_lost l, λ l. lost_is w.state.phase (e ∙ l))

-- the last item tells how the run was left
last_same : (xs ys : List Told) (i j : Told) → xs ++ i ∷ [] ≡ ys ++ j ∷ [] → i ≡ j
last_same [] [] i j e = cc
last_same [] (y ∷ []) i j e = absurd (cc)
last_same [] (y ∷ (z ∷ ys)) i j e = absurd (cc)
last_same (x ∷ []) [] i j e = absurd (cc)
last_same (x ∷ (z ∷ xs)) [] i j e = absurd (cc)
last_same (x ∷ xs) (y ∷ ys) i j e = last_same xs ys i j (cc)

ends_same : (report : List Told) (r s : Said) → EndsWith report r → EndsWith report s → r ≡ s
ends_same report r s a b = ap (λ (i : Told). i.said) (last_same a.0 b.0 _ _ (sym a.2 ∙ b.2))

pub ended_over : (p : Phase) (report : List Told) (how : Ending) → IsLeft p report → EndsWith report (Ended how) → p ≡ Over how
ended_over (Over other) report how l e = let s = ends_same report (Ended other) (Ended how) l e in cc
ended_over Lost report how l e = let s = ends_same report (Off l.0) (Ended how) l.1 e in absurd (cc)
ended_over phase report how l e = let s = ends_same report Dark (Ended how) l e in absurd (cc)

over_ended : (p : Phase) (report : List Told) (how : Ending) → IsLeft p report → p ≡ Over how → EndsWith report (Ended how)
over_ended p report how l e = subst (λ p. IsLeft p report) e l

pub over_exactly : (d : Device) (h : ℕ → ℕ → ℤ) (periods : List Period) (how : Ending) → ((power_run d h periods).state.phase ≡ Over how) ↔ EndsWith (power_run d h periods).report (Ended how)
over_exactly d h periods how =
    let l = last_item d h periods in
    (λ e. over_ended _ _ how l e, λ e. ended_over _ _ how l e)
