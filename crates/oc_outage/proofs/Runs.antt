-- Whole runs.
use Rattle.std.proofs.Common.{◌≡◌, ℕ, zero, suc, ◌+◌, ◌≤◌, ℤ, pos, List, [], ◌∷◌, ◌++◌, length, refl, subst, arith, true, false, true≢false}
use Rattle.std.proofs.lemmas.List.{length-replicate}
use Rattle.oc_io.specs.declared.period.Period.{Period}
use Rattle.oc_tree.specs.Said.{Told}
use Rattle.oc_tree.specs.Word.{is_word}
use Rattle.oc_tree.specs.declared.said.Ending.{Ending}
use Rattle.oc_undo.specs.declared.Entry.{Entry}
use Rattle.oc_ckpt.specs.declared.AreaState.{AreaState}
use Rattle.oc_ckpt.specs.declared.AreaState.TheVariants.{Fresh, Open, Sealed, Armed}
use Rattle.oc_isa.specs.declared.phase.Phase.{Phase}
use Rattle.oc_isa.specs.declared.phase.Phase.TheVariants.{Waking, Undoing, Restoring, Running, Entering, Over, Lost}
use Rattle.oc_isa.specs.Next.{Device}
use Rattle.oc_isa.specs.Run.{IsSound}
use Rattle.oc_isa.specs.Power.{State, World, step_in, ticked, tick_on, ticks_on, power_fails, darkness, one_period, through, first_world, power_run}
use Rattle.oc_outage.specs.Honest.{IsFit, all_on, is_awake, IsHonest, IsWhole}
use Rattle.oc_outage.specs.Kept.{Count, untried, counted, count_ticks, kept_on, kept_after, StandsAfter, CountIsKept}
use Rattle.oc_outage.proofs.Restored.{none_restored}
use Rattle.oc_outage.proofs.Booting.{sealed_later, sealed_keeps, armed_wakes, undo_keeps, undone_keeps}
use Rattle.oc_outage.proofs.Continues.{at_start}
use Rattle.oc_outage.proofs.Facts.{state_at, Holds, AreHonest, IsEnded, IsGood, Stays}
use Rattle.oc_outage.proofs.Inside.{armed_keeps}
use Rattle.oc_outage.proofs.Outages.{outage_keeps}
use Rattle.oc_outage.proofs.Outside.{enter_goes_on, open_keeps}
use Rattle.oc_outage.proofs.Reports.{settled_later, ended_later, whole_within, honest_later, dark_honest}
use Rattle.oc_outage.proofs.Standing.{asleep, asleep_stands, dark_stands}

module _ (d : Device) (h : ℕ → ℕ → ℤ) (fit : IsFit d) (words_of_h : (s t : ℕ) → is_word (h s t) ≡ true) where
  module _ (report : List Told) (c : Count) (made t : ℕ) (stack nv : List ℤ) (log : List Entry) (words : List ℤ) (a : AreHonest d h made report) (sized : length words ≡ 3 + d.room) where
    -- one step, by the area and what is under way
    step_keeps : (area : AreaState) (phase : Phase) (pc fp depth : ℕ) → Holds d area phase depth (state_at phase pc fp depth stack nv log area words) report c made
        → Stays d h report (counted d phase (state_at phase pc fp depth stack nv log area words) c) made t (step_in d (λ s. h s t) phase (state_at phase pc fp depth stack nv log area words))
    step_keeps Fresh Waking pc fp depth s = ((settled_later d report c.kept made d.start nv s.0, s.1), honest_later d h report made a, sized)
    step_keeps Fresh phase pc fp depth s = absurd s
    step_keeps Open Waking pc fp depth s = absurd s
    step_keeps Open (Undoing k) pc fp depth s = absurd s
    step_keeps Open (Restoring k) pc fp depth s = absurd s
    step_keeps Open Running pc fp zero s = open_keeps d h fit words_of_h report c made t pc fp stack nv log words a sized s.0 s.1
    step_keeps Open Running pc fp (suc depth) s = absurd s
    step_keeps Open (Entering k) pc fp depth s = enter_goes_on d h fit report c made t (Entering k) pc fp depth stack nv log words a sized k s
    step_keeps Open (Over how) pc fp depth s = (ended_later d report c.kept made nv s, honest_later d h report made a, sized)
    step_keeps Open Lost pc fp depth s = (record { regs = s.regs; settled = settled_later d report c.kept made s.regs nv s.settled }, honest_later d h report made a, sized)
    step_keeps Sealed Waking pc fp depth s = ((record { sealed = sealed_later d report c made nv words s.0; restored = none_restored d pc fp stack _ }, s.1), honest_later d h report made a, sized)
    step_keeps Sealed (Restoring k) pc fp depth s = sealed_keeps d h report c made t k pc fp depth stack nv log words a sized s.0 s.1
    step_keeps Sealed phase pc fp depth s = absurd s
    step_keeps Armed Waking pc fp depth s = armed_wakes d h report c made t pc fp depth stack nv log words a sized s
    step_keeps Armed (Undoing k) pc fp depth s = undo_keeps d h report c made t pc fp depth stack nv log words a sized k s
    step_keeps Armed (Restoring k) pc fp depth s = undone_keeps d h report c made t pc fp depth stack nv log words a sized k s
    step_keeps Armed Running pc fp zero s = absurd s
    step_keeps Armed Running pc fp (suc depth) s = armed_keeps d h words_of_h report c made t pc fp stack depth nv log words a sized s
    step_keeps Armed (Entering k) pc fp depth s = absurd s
    step_keeps Armed (Over how) pc fp depth s = (ended_later d report c.kept made nv s, honest_later d h report made a, sized)
    step_keeps Armed Lost pc fp depth s = absurd s

  abbrev in_phase : World → Phase → World
  in_phase w phase = record w { state = record w.state { phase = phase } }

  step_stays : (phase : Phase) (c : Count) (made : ℕ) (w : World) → IsGood d h c made (in_phase w phase)
      → Stays d h w.report (counted d phase (in_phase w phase).state c) made w.tick (step_in d (λ s. h s w.tick) phase (in_phase w phase).state)
  step_stays phase c made w g =
      step_keeps w.report c made w.tick w.state.stack w.state.nv w.state.log w.state.words g.honest g.sized w.state.area phase w.state.pc w.state.fp w.state.depth g.holds

  good_after : (phase : Phase) (c : Count) (made : ℕ) (w : World) → IsGood d h c made (in_phase w phase)
      → IsGood d h (counted d phase (in_phase w phase).state c) (suc made) (ticked w (step_in d (λ s. h s w.tick) phase (in_phase w phase).state))
  good_after phase c made w g = let s = step_stays phase c made w g in record { holds = s.0; honest = s.1; sized = s.2 }

  tick_by : (phase : Phase) (c : Count) (made : ℕ) (w : World) → IsGood d h c made (in_phase w phase)
      → IsGood d h (counted d phase (in_phase w phase).state c) (suc made) (tick_on d h (in_phase w phase))
  tick_by (Over how) c made w g = let s = step_stays (Over how) c made w g in record { holds = s.0; honest = s.1; sized = s.2 }
  tick_by Lost c made w g = let s = step_stays Lost c made w g in record { holds = s.0; honest = s.1; sized = s.2 }
  tick_by phase c made w g = good_after phase c made w g

  tick_keeps : (c : Count) (made : ℕ) (w : World) → IsGood d h c made w → IsGood d h (counted d w.state.phase w.state c) (suc made) (tick_on d h w)
  tick_keeps c made w g = tick_by w.state.phase c made w g

  ticks_keep : (n : ℕ) (c : Count) (made : ℕ) (w : World) → IsGood d h c made w → IsGood d h (count_ticks d h n w c) (made + n) (ticks_on d h n w)
  ticks_keep zero c made w g = let e : made ≡ made + 0 = omega arith in subst (λ m. IsGood d h c m w) e g
  ticks_keep (suc n) c made w g =
      let e : suc made + n ≡ made + suc n = omega arith in
      let later = ticks_keep n (counted d w.state.phase w.state c) (suc made) (tick_on d h w) (tick_keeps c made w g) in
      subst (λ m. IsGood d h (count_ticks d h (suc n) w c) m (ticks_on d h (suc n) w)) e later

  -- at the end: the report is honest, and whole where the run ended by itself; and so many instructions are kept
  pub record IsEnd (k made : ℕ) (w : World) : Type 0 where
    pub honest : AreHonest d h made w.report
    pub whole : (how : Ending) → w.state.phase ≡ Over how → IsWhole d made w.report w.state.nv
    pub stands : StandsAfter d w.state.phase k w.state w.report

  over_ended : (area : AreaState) (how : Ending) (depth : ℕ) (c : Count) (made : ℕ) (s : State) (report : List Told) → Holds d area (Over how) depth s report c made
      → IsEnded d report c.kept made s.nv
  over_ended Fresh how depth c made s report g = absurd g
  over_ended Open how depth c made s report g = g
  over_ended Sealed how depth c made s report g = absurd g
  over_ended Armed how depth c made s report g = g

  dark_asleep : (phase : Phase) (c : Count) (made : ℕ) (w : World) → is_awake phase ≡ false → IsGood d h c made (in_phase w phase) → StandsAfter d phase c.kept (in_phase w phase).state w.report
  dark_asleep phase c made w q g =
      asleep_stands d w.report c made w.state.pc w.state.fp w.state.depth w.state.stack w.state.nv w.state.log w.state.words w.state.area phase q g.holds

  dark_by : (phase : Phase) (c : Count) (made : ℕ) (w : World) → is_awake phase ≡ false → IsGood d h c made (in_phase w phase) → IsEnd c.kept made (darkness (in_phase w phase))
  dark_by Waking c made w q g = record {
    honest = dark_honest d h w.report made w.tick g.honest;
    whole = λ how e. absurd (cc);
    stands = dark_stands d w.report w.tick (in_phase w Waking).state c.kept (dark_asleep Waking c made w q g);
  }
  dark_by (Undoing k) c made w q g = record {
    honest = dark_honest d h w.report made w.tick g.honest;
    whole = λ how e. absurd (cc);
    stands = dark_stands d w.report w.tick (in_phase w (Undoing k)).state c.kept (dark_asleep (Undoing k) c made w q g);
  }
  dark_by (Restoring k) c made w q g = record {
    honest = dark_honest d h w.report made w.tick g.honest;
    whole = λ how e. absurd (cc);
    stands = dark_stands d w.report w.tick (in_phase w (Restoring k)).state c.kept (dark_asleep (Restoring k) c made w q g);
  }
  dark_by Running c made w q g = absurd (true≢false q)
  dark_by (Entering k) c made w q g = absurd (true≢false q)
  dark_by (Over how) c made w q g = record {
    honest = g.honest;
    whole = λ other e. whole_within d w.report c.kept made w.state.nv (over_ended w.state.area how w.state.depth c made (in_phase w (Over how)).state w.report g.holds);
    stands = dark_asleep (Over how) c made w q g;
  }
  dark_by Lost c made w q g = record { honest = g.honest; whole = λ how e. absurd (cc); stands = dark_asleep Lost c made w q g }

  through_keeps : (periods : List Period) (k made : ℕ) (w : World) → is_awake w.state.phase ≡ false → IsGood d h (untried k) made w
      → IsEnd (kept_on d h periods w k) (made + all_on periods) (through d h periods w)
  through_keeps [] k made w q g =
      let e : made ≡ made + 0 = omega arith in
      subst (λ m. IsEnd k m (darkness w)) e (dark_by w.state.phase (untried k) made w q g)
  through_keeps (p ∷ periods) k made w q g =
      let e : made + p.on + all_on periods ≡ made + (p.on + all_on periods) = omega arith in
      let v = ticks_on d h p.on w in
      let c : Count = count_ticks d h p.on w (untried k) in
      subst (λ m. IsEnd (kept_on d h (p ∷ periods) w k) m (through d h periods (one_period d h p w))) e
      (through_keeps periods c.kept (made + p.on) (power_fails d p v) (asleep d p v) (outage_keeps d h c (made + p.on) p v (ticks_keep p.on (untried k) made w g)))

  empty_honest : (q rest : List Told) → q ++ rest ≡ [] → (n : ℕ) → 0 ≤ n → IsHonest d h n q
  empty_honest [] rest e n le = record { said = (_, refl); outside = tt; read = tt }
  empty_honest (i ∷ q) rest e n le = absurd (cc)

  first_good : IsSound d → IsGood d h (untried 0) 0 (first_world d)
  first_good s = record {
    holds = (record { within = omega arith; at = at_start d s; closed = refl }, refl);
    honest = record { each = empty_honest };
    sized = length-replicate (3 + d.room) (pos 0);
  }

  run_end : (periods : List Period) → IsSound d → IsEnd (kept_after d h periods) (all_on periods) (power_run d h periods)
  run_end periods s =
      let e : 0 + all_on periods ≡ all_on periods = omega arith in
      subst (λ n. IsEnd (kept_after d h periods) n (power_run d h periods)) e (through_keeps periods 0 0 (first_world d) refl (first_good s))

  -- just as many instructions are kept as are counted
  pub count_is_kept : (periods : List Period) → IsSound d → CountIsKept d h periods
  count_is_kept periods s = (run_end periods s).stands

  pub every_prefix : (periods : List Period) (q rest : List Told) → IsSound d → q ++ rest ≡ (power_run d h periods).report → IsHonest d h (all_on periods) q
  every_prefix periods q rest s e = (run_end periods s).honest.each q rest e (all_on periods) (omega arith)

  pub over_is_whole : (periods : List Period) (how : Ending) → IsSound d → (power_run d h periods).state.phase ≡ Over how
      → IsWhole d (all_on periods) (power_run d h periods).report (power_run d h periods).state.nv
  over_is_whole periods how s e = (run_end periods s).whole how e

  -- the same, against any longer run without outages
  pub every_prefix_later : (periods : List Period) (q rest : List Told) (n : ℕ) → all_on periods ≤ n → IsSound d → q ++ rest ≡ (power_run d h periods).report → IsHonest d h n q
  every_prefix_later periods q rest n le s e = (run_end periods s).honest.each q rest e n le
