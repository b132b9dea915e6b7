-- Each period carries a run further, by its steps from the least number on.
use Rattle.std.proofs.Common.{◌≡◌, ℕ, zero, suc, ◌+◌, ◌*◌, ◌-◌, ◌<◌, ◌≤◌, ℤ, pos, List, [], ◌∷◌, ◌++◌, length, refl, sym, ap, ◌∙◌, arith, Bool, true, false, true≢false, Some}
use Rattle.std.specs.Prelude.{if◌then◌else◌}
use Rattle.std.proofs.lemmas.List.{length-replicate}
use Rattle.oc_io.specs.declared.period.Period.{Period}
use Rattle.oc_tree.specs.Word.{is_word}
use Rattle.oc_tree.specs.declared.said.Ending.{Ending}
use Rattle.oc_tree.specs.declared.said.Said.TheVariants.{Dark}
use Rattle.oc_undo.specs.declared.Entry.{Entry}
use Rattle.oc_ckpt.specs.Saving.{save_all}
use Rattle.oc_ckpt.specs.declared.AreaState.{AreaState}
use Rattle.oc_ckpt.specs.declared.AreaState.TheVariants.{Fresh, Open, Sealed, Armed}
use Rattle.oc_isa.specs.declared.phase.Phase.{Phase}
use Rattle.oc_isa.specs.declared.phase.Phase.TheVariants.{Waking, Undoing, Restoring, Running, Entering, Over, Lost}
use Rattle.oc_isa.specs.Next.{Enters, Device}
use Rattle.oc_isa.specs.Run.{Core, core_at, start_of}
use Rattle.oc_isa.specs.Power.{State, World, is_over, words_of, step_in, fail_in, tick_on, ticks_on, power_fails, one_period, with_said, through, first_world}
use Rattle.oc_outage.specs.Honest.{IsFit}
use Rattle.oc_outage.proofs.Facts.{state_at, regs_at}
use Rattle.oc_outage.proofs.Resting.{ticks_on-over, power_fails-over, through-over}
use Rattle.oc_outage.proofs.Words.{length-words_of, all_saved, length-save_all}
use Rattle.oc_bounds.specs.Bounds.{Bounds, Leaves, Takes, IsBrief, AreLong}
use Rattle.oc_outage.specs.Kept.{Count, untried, counted, count_ticks, kept_on}
use Rattle.oc_bounds.specs.Headway.{AddUp}
use Rattle.oc_bounds.proofs.Ahead.{taking, takes_fits, takes_some, IsStored, IsEntry, Stands, Ahead, Moves, over, gains, nears}
use Rattle.oc_bounds.proofs.Moving.{step_moves}

-- a number of steps suffices for a boot and what comes next
pub record IsLeast (d : Device) (b : Bounds) (least : ℕ) : Type 0 where
  pub low : d.room + 6 ≤ least
  pub entry : (r : ℕ) (c : Core) → IsBrief d b r c → 2 * d.room + 9 ≤ least
  pub attempt : (r : ℕ) (c : Core) → IsBrief d b r c → d.room + 5 + (b.spent r + b.logged r) ≤ least

-- Outages

module _ (d : Device) (b : Bounds) (total : ℕ) where
  module _ (left t pc fp depth : ℕ) (c : Count) (stack nv : List ℤ) (log : List Entry) (words : List ℤ) (sized : length words ≡ 3 + d.room) where
    abbrev Back : State → Type 0
    Back s = Ahead d b total left (5 + d.room + left) (untried c.kept) s

    checkpointed : (n : ℕ) → c.kept + n ≡ total → Takes d b n left (core_at (regs_at pc fp stack) 0 nv) → log ≡ []
        → Back (state_at Waking 0 0 0 [] nv log Sealed (save_all (words_of (regs_at pc fp stack)) words))
    checkpointed n tied l e =
        let regs = regs_at pc fp stack in
        record {
          stands = record { stored = record { n = n; tied = tied; saved = regs; is_saved = all_saved regs words; takes = l; empty = e }; due = omega arith };
          sized = length-save_all (words_of regs) words (omega (arith, sized, takes_fits d b n left (core_at regs 0 nv) l, length-words_of regs)) ∙ sized;
        }

    stored_again : IsStored d b total left c nv log words → Back (state_at Waking 0 0 0 [] nv log Sealed words)
    stored_again g =
        record { stands = record { stored = record { n = g.n; tied = g.tied; saved = g.saved; is_saved = g.is_saved; takes = g.takes; empty = g.empty }; due = omega arith }; sized = sized }

    entry_again : IsEntry d b total left c.kept nv log words → Back (state_at Waking 0 0 0 [] nv log Armed words)
    entry_again e = record {
      stands = record {
        entry = record {
          n = e.n;
          tied = e.tied;
          saved = e.saved;
          is_saved = e.is_saved;
          number = e.number;
          found = e.found;
          entry_nv = e.entry_nv;
          undoes = e.undoes;
          rest = e.rest;
          takes = e.takes;
          brief = e.brief;
          full = e.full;
          due = e.due;
        };
        none = refl;
        due = omega arith;
      };
      sized = sized;
    }

    fails_back : (area : AreaState) (phase : Phase) (deep : ℕ) → Stands d b total area phase deep left t c (state_at phase pc fp deep stack nv log area words)
        → Back (fail_in d false phase (state_at phase pc fp deep stack nv log area words)).state
    fails_back Fresh Waking deep s = record { stands = record { n = s.n; tied = s.tied; takes = s.takes; empty = s.empty; due = omega arith }; sized = sized }
    fails_back Fresh (Undoing j) deep s = absurd s
    fails_back Fresh (Restoring j) deep s = absurd s
    fails_back Fresh Running deep s = absurd s
    fails_back Fresh (Entering j) deep s = absurd s
    fails_back Fresh (Over how) deep s = absurd s
    fails_back Fresh Lost deep s = absurd s
    fails_back Open Waking deep s = absurd s
    fails_back Open (Undoing j) deep s = absurd s
    fails_back Open (Restoring j) deep s = absurd s
    fails_back Open Running zero s = checkpointed s.n s.tied s.takes s.empty
    fails_back Open Running (suc deep) s = absurd s
    fails_back Open (Entering j) deep s = checkpointed s.n s.tied s.takes s.empty
    fails_back Open (Over how) deep s = absurd s
    fails_back Open Lost deep s = absurd s
    fails_back Sealed Waking deep s = stored_again s.stored
    fails_back Sealed (Undoing j) deep s = absurd s
    fails_back Sealed (Restoring j) deep s = stored_again s.stored
    fails_back Sealed Running deep s = absurd s
    fails_back Sealed (Entering j) deep s = absurd s
    fails_back Sealed (Over how) deep s = absurd s
    fails_back Sealed Lost deep s = absurd s
    fails_back Armed Waking deep s = entry_again s.entry
    fails_back Armed (Undoing j) deep s = entry_again s.entry
    fails_back Armed (Restoring j) deep s = entry_again s.entry
    fails_back Armed Running zero s = absurd s
    fails_back Armed Running (suc deep) s = entry_again s.entry
    fails_back Armed (Entering j) deep s = absurd s
    fails_back Armed (Over how) deep s = absurd s
    fails_back Armed Lost deep s = absurd s

    -- where a checkpoint is cut, the run is over
    fails_cut : (area : AreaState) (phase : Phase) (deep : ℕ) → Stands d b total area phase deep left t c (state_at phase pc fp deep stack nv log area words)
        → is_over (fail_in d true phase (state_at phase pc fp deep stack nv log area words)).state.phase ≡ false
        → Back (fail_in d true phase (state_at phase pc fp deep stack nv log area words)).state
    fails_cut Fresh Waking deep s e = fails_back Fresh Waking deep s
    fails_cut Fresh (Undoing j) deep s e = absurd s
    fails_cut Fresh (Restoring j) deep s e = absurd s
    fails_cut Fresh Running deep s e = absurd s
    fails_cut Fresh (Entering j) deep s e = absurd s
    fails_cut Fresh (Over how) deep s e = absurd s
    fails_cut Fresh Lost deep s e = absurd s
    fails_cut Open Waking deep s e = absurd s
    fails_cut Open (Undoing j) deep s e = absurd s
    fails_cut Open (Restoring j) deep s e = absurd s
    fails_cut Open Running zero s e = absurd (true≢false e)
    fails_cut Open Running (suc deep) s e = absurd s
    fails_cut Open (Entering j) deep s e = absurd (true≢false e)
    fails_cut Open (Over how) deep s e = absurd s
    fails_cut Open Lost deep s e = absurd s
    fails_cut Sealed Waking deep s e = fails_back Sealed Waking deep s
    fails_cut Sealed (Undoing j) deep s e = absurd s
    fails_cut Sealed (Restoring j) deep s e = fails_back Sealed (Restoring j) deep s
    fails_cut Sealed Running deep s e = absurd s
    fails_cut Sealed (Entering j) deep s e = absurd s
    fails_cut Sealed (Over how) deep s e = absurd s
    fails_cut Sealed Lost deep s e = absurd s
    fails_cut Armed Waking deep s e = fails_back Armed Waking deep s
    fails_cut Armed (Undoing j) deep s e = fails_back Armed (Undoing j) deep s
    fails_cut Armed (Restoring j) deep s e = fails_back Armed (Restoring j) deep s
    fails_cut Armed Running zero s e = absurd s
    fails_cut Armed Running (suc deep) s e = fails_back Armed Running (suc deep) s
    fails_cut Armed (Entering j) deep s e = absurd s
    fails_cut Armed (Over how) deep s e = absurd s
    fails_cut Armed Lost deep s e = absurd s

    pub fails_any : (cut : Bool) (area : AreaState) (phase : Phase) (deep : ℕ) → Stands d b total area phase deep left t c (state_at phase pc fp deep stack nv log area words)
        → is_over (fail_in d cut phase (state_at phase pc fp deep stack nv log area words)).state.phase ≡ false
        → Back (fail_in d cut phase (state_at phase pc fp deep stack nv log area words)).state
    fails_any true area phase deep s e = fails_cut area phase deep s e
    fails_any false area phase deep s e = fails_back area phase deep s

  -- a boot and what is done again take fewer steps than the least period
  module _ (least : ℕ) (least_is : IsLeast d b least) (left t : ℕ) (c : Count) where
    again : (area : AreaState) (phase : Phase) (depth : ℕ) (s : State) → Stands d b total area phase depth left t c s → 6 + d.room + left ≤ t + least
    again Fresh Waking depth s h = omega (arith, h.due, least_is.low)
    again Fresh (Undoing j) depth s h = absurd h
    again Fresh (Restoring j) depth s h = absurd h
    again Fresh Running depth s h = absurd h
    again Fresh (Entering j) depth s h = absurd h
    again Fresh (Over how) depth s h = absurd h
    again Fresh Lost depth s h = absurd h
    again Open Waking depth s h = absurd h
    again Open (Undoing j) depth s h = absurd h
    again Open (Restoring j) depth s h = absurd h
    again Open Running zero s h = omega (arith, h.due, least_is.low)
    again Open Running (suc depth) s h = absurd h
    again Open (Entering j) depth s h =
        let x = taking d b h.n left (core_at (regs_at s.pc s.fp s.stack) 0 s.nv) (Enters h.number h.to) h.next h.takes in
        let f = takes_fits d b x.less (left - (4 + d.room + b.logged h.number)) (core_at h.to 1 s.nv) x.next.2 in
        omega (arith, h.due, h.upto, f, length-words_of h.to, least_is.entry h.number (core_at h.to 1 s.nv) x.next.1)
    again Open (Over how) depth s h = absurd h
    again Open Lost depth s h = absurd h
    again Sealed Waking depth s h = omega (arith, h.due, least_is.low)
    again Sealed (Undoing j) depth s h = absurd h
    again Sealed (Restoring j) depth s h = omega (arith, h.due, h.restored.upto, least_is.low)
    again Sealed Running depth s h = absurd h
    again Sealed (Entering j) depth s h = absurd h
    again Sealed (Over how) depth s h = absurd h
    again Sealed Lost depth s h = absurd h
    again Armed Waking depth s h = omega (arith, h.due, least_is.low)
    again Armed (Undoing j) depth s h =
        let e = h.entry in
        omega (arith, h.due, e.full, e.brief.few, length-words_of e.saved, least_is.attempt e.number (core_at e.saved 1 e.entry_nv) e.brief)
    again Armed (Restoring j) depth s h =
        let e = h.entry in
        omega (arith, h.due, h.restored.upto, e.full, e.brief.few, least_is.attempt e.number (core_at e.saved 1 e.entry_nv) e.brief)
    again Armed Running zero s h = absurd h
    again Armed Running (suc depth) s h =
        let e = h.entry in
        let some = leaves_some h.m h.leaves in
        omega (arith, h.far, some, least_is.attempt e.number (core_at e.saved 1 e.entry_nv) e.brief)
      where
        leaves_some : (m : ℕ) → Leaves d h.entry.brief.words m (core_at (regs_at s.pc s.fp s.stack) (suc depth) s.nv) → 1 ≤ m
        leaves_some zero l = absurd l
        leaves_some (suc m) l = omega arith
    again Armed (Entering j) depth s h = absurd h
    again Armed (Over how) depth s h = absurd h
    again Armed Lost depth s h = absurd h

  -- some steps and some instructions are left where a run isn't over
  some_by : (n rest left : ℕ) (c : Count) (core : Core) → c.kept + n ≡ total → rest ≤ left → Takes d b n rest core → (1 ≤ left) × (c.kept < total)
  some_by zero rest left c core tied le l = absurd l
  some_by (suc n) rest left c core tied le l = (omega (arith, le, takes_some d b (suc n) rest core l), omega (arith, tied))

  some_entry : (left : ℕ) (c : Count) (nv : List ℤ) (log : List Entry) (words : List ℤ) → IsEntry d b total left c.kept nv log words → (1 ≤ left) × (c.kept < total)
  some_entry left c nv log words e = some_by e.n e.rest left c (core_at e.saved 1 e.entry_nv) e.tied (omega (arith, e.due)) e.takes

  some_left : (left t : ℕ) (c : Count) (area : AreaState) (phase : Phase) (depth : ℕ) (s : State) → Stands d b total area phase depth left t c s → (1 ≤ left) × (c.kept < total)
  some_left left t c Fresh Waking depth s h = some_by h.n left left c (core_at d.start 0 s.nv) h.tied (omega arith) h.takes
  some_left left t c Fresh (Undoing j) depth s h = absurd h
  some_left left t c Fresh (Restoring j) depth s h = absurd h
  some_left left t c Fresh Running depth s h = absurd h
  some_left left t c Fresh (Entering j) depth s h = absurd h
  some_left left t c Fresh (Over how) depth s h = absurd h
  some_left left t c Fresh Lost depth s h = absurd h
  some_left left t c Open Waking depth s h = absurd h
  some_left left t c Open (Undoing j) depth s h = absurd h
  some_left left t c Open (Restoring j) depth s h = absurd h
  some_left left t c Open Running zero s h = some_by h.n left left c (core_at (regs_at s.pc s.fp s.stack) 0 s.nv) h.tied (omega arith) h.takes
  some_left left t c Open Running (suc depth) s h = absurd h
  some_left left t c Open (Entering j) depth s h = some_by h.n left left c (core_at (regs_at s.pc s.fp s.stack) 0 s.nv) h.tied (omega arith) h.takes
  some_left left t c Open (Over how) depth s h = absurd h
  some_left left t c Open Lost depth s h = absurd h
  some_left left t c Sealed Waking depth s h = some_by h.stored.n left left c (core_at h.stored.saved 0 s.nv) h.stored.tied (omega arith) h.stored.takes
  some_left left t c Sealed (Undoing j) depth s h = absurd h
  some_left left t c Sealed (Restoring j) depth s h = some_by h.stored.n left left c (core_at h.stored.saved 0 s.nv) h.stored.tied (omega arith) h.stored.takes
  some_left left t c Sealed Running depth s h = absurd h
  some_left left t c Sealed (Entering j) depth s h = absurd h
  some_left left t c Sealed (Over how) depth s h = absurd h
  some_left left t c Sealed Lost depth s h = absurd h
  some_left left t c Armed Waking depth s h = some_entry left c s.nv s.log s.words h.entry
  some_left left t c Armed (Undoing j) depth s h = some_entry left c s.nv s.log s.words h.entry
  some_left left t c Armed (Restoring j) depth s h = some_entry left c s.nv s.log s.words h.entry
  some_left left t c Armed Running zero s h = absurd h
  some_left left t c Armed Running (suc depth) s h = some_entry left c s.nv s.log s.words h.entry
  some_left left t c Armed (Entering j) depth s h = absurd h
  some_left left t c Armed (Over how) depth s h = absurd h
  some_left left t c Armed Lost depth s h = absurd h

  pub not_over : (left t : ℕ) (c : Count) (area : AreaState) (how : Ending) (depth : ℕ) (s : State) → Stands d b total area (Over how) depth left t c s → ⊥
  not_over left t c Fresh how depth s x = x
  not_over left t c Open how depth s x = x
  not_over left t c Sealed how depth s x = x
  not_over left t c Armed how depth s x = x

  pub not_lost : (left t : ℕ) (c : Count) (area : AreaState) (depth : ℕ) (s : State) → Stands d b total area Lost depth left t c s → ⊥
  not_lost left t c Fresh depth s x = x
  not_lost left t c Open depth s x = x
  not_lost left t c Sealed depth s x = x
  not_lost left t c Armed depth s x = x

-- Ticks and periods

module _ (d : Device) (b : Bounds) (total : ℕ) (h : ℕ → ℕ → ℤ) (fit : IsFit d) (words_of_h : (s t : ℕ) → is_word (h s t) ≡ true) where
  abbrev in_phase : World → Phase → World
  in_phase w phase = record w { state = record w.state { phase = phase } }

  after : (phase : Phase) (left t : ℕ) (c : Count) (w : World) → Ahead d b total left t c (in_phase w phase).state
      → Moves d b total left t 1 c (counted d phase (in_phase w phase).state c) (step_in d (λ s. h s w.tick) phase (in_phase w phase).state).state
  after phase left t c w g = step_moves d b total fit (λ s. h s w.tick) (λ s. words_of_h s w.tick) w.state.stack w.state.nv w.state.log w.state.words g.sized left t c w.state.pc w.state.fp
      w.state.area phase w.state.depth g.stands

  tick_by : (phase : Phase) (left t : ℕ) (c : Count) (w : World) → Ahead d b total left t c (in_phase w phase).state
      → Moves d b total left t 1 c (counted d phase (in_phase w phase).state c) (tick_on d h (in_phase w phase)).state
  tick_by Waking left t c w g = after Waking left t c w g
  tick_by (Undoing j) left t c w g = after (Undoing j) left t c w g
  tick_by (Restoring j) left t c w g = after (Restoring j) left t c w g
  tick_by Running left t c w g = after Running left t c w g
  tick_by (Entering j) left t c w g = after (Entering j) left t c w g
  tick_by (Over how) left t c w g = absurd (not_over d b total left t c w.state.area how w.state.depth _ g.stands)
  tick_by Lost left t c w g = absurd (not_lost d b total left t c w.state.area w.state.depth _ g.stands)

  over_is : (w : World) (how : Ending) → w.state.phase ≡ Over how → is_over w.state.phase ≡ true
  over_is w how e = ap is_over e

  -- a tick and what follows it
  deeper : (j left t less u : ℕ) (c e f : Count) (s : State) → less ≤ left → u + 1 ≤ t → c.kept < e.kept → Moves d b total less u j e f s → Moves d b total left t (suc j) c f s
  deeper j left t less u c e f s le due more (over how x) = over how x
  deeper j left t less u c e f s le due more (gains less' u' le' due' more' g) = gains less' u' (omega (arith, le, le')) (omega (arith, due, due')) (omega (arith, more, more')) g
  deeper j left t less u c e f s le due more (nears u' due' same g) = gains less u' le (omega (arith, due, due')) (omega (arith, more, same)) g

  nearer : (j left t u : ℕ) (c e f : Count) (s : State) → u + 1 ≤ t → c.kept ≡ e.kept → Moves d b total left u j e f s → Moves d b total left t (suc j) c f s
  nearer j left t u c e f s due same (over how x) = over how x
  nearer j left t u c e f s due same (gains less u' le due' more g) = gains less u' le (omega (arith, due, due')) (omega (arith, more, same)) g
  nearer j left t u c e f s due same (nears u' due' same' g) = nears u' (omega (arith, due, due')) (omega (arith, same, same')) g

  join : (j left t : ℕ) (c e : Count) (v : World) → Moves d b total left t 1 c e v.state
      → ((less u : ℕ) → Ahead d b total less u e v.state → Moves d b total less u j e (count_ticks d h j v e) (ticks_on d h j v).state)
      → Moves d b total left t (suc j) c (count_ticks d h j v e) (ticks_on d h j v).state
  join j left t c e v (over how x) f = over how (ap (λ (w : World). w.state.phase) (ticks_on-over v (over_is v how x) d h j) ∙ x)
  join j left t c e v (gains less u le due more g) f = deeper j left t less u c e _ _ le due more (f less u g)
  join j left t c e v (nears u due same g) f = nearer j left t u c e _ _ due same (f left u g)

  pub ticks : (j left t : ℕ) (c : Count) (w : World) → Ahead d b total left t c w.state → Moves d b total left t j c (count_ticks d h j w c) (ticks_on d h j w).state
  ticks zero left t c w g = nears t (omega arith) refl g
  ticks (suc j) left t c w g =
      join j left t c (counted d w.state.phase w.state c) (tick_on d h w) (tick_by w.state.phase left t c w g)
      (λ less u x. ticks j less u (counted d w.state.phase w.state c) (tick_on d h w) x)

  -- an outage
  fail_by : (phase : Phase) (p : Period) (left t : ℕ) (c : Count) (w : World) → Ahead d b total left t c (in_phase w phase).state
      → is_over (power_fails d p (in_phase w phase)).state.phase ≡ false → Ahead d b total left (5 + d.room + left) (untried c.kept) (power_fails d p (in_phase w phase)).state
  fail_by Waking p left t c w g e = fails_any d b total left t w.state.pc w.state.fp w.state.depth c w.state.stack w.state.nv w.state.log w.state.words g.sized p.cut w.state.area Waking
      w.state.depth g.stands e
  fail_by (Undoing j) p left t c w g e = fails_any d b total left t w.state.pc w.state.fp w.state.depth c w.state.stack w.state.nv w.state.log w.state.words g.sized p.cut w.state.area (Undoing j)
      w.state.depth g.stands e
  fail_by (Restoring j) p left t c w g e = fails_any d b total left t w.state.pc w.state.fp w.state.depth c w.state.stack w.state.nv w.state.log w.state.words g.sized p.cut w.state.area
      (Restoring j) w.state.depth g.stands e
  fail_by Running p left t c w g e = fails_any d b total left t w.state.pc w.state.fp w.state.depth c w.state.stack w.state.nv w.state.log w.state.words g.sized p.cut w.state.area Running
      w.state.depth g.stands e
  fail_by (Entering j) p left t c w g e = fails_any d b total left t w.state.pc w.state.fp w.state.depth c w.state.stack w.state.nv w.state.log w.state.words g.sized p.cut w.state.area
      (Entering j) w.state.depth g.stands e
  fail_by (Over how) p left t c w g e = absurd (not_over d b total left t c w.state.area how w.state.depth _ g.stands)
  fail_by Lost p left t c w g e = absurd (not_lost d b total left t c w.state.area w.state.depth _ g.stands)

  -- a period begins, or the whole run
  abbrev pub Begins : (left k : ℕ) → World → Type 0
  Begins left k w = Ahead d b total left (5 + d.room + left) (untried k) w.state

  pub first_at : (work : ℕ) → Takes d b total work (start_of d) → Begins work 0 (first_world d)
  first_at work l =
      let tied : 0 + total ≡ total = omega arith in
      record { stands = record { n = total; tied = tied; takes = l; empty = refl; due = omega arith }; sized = length-replicate (3 + d.room) (pos 0) }

  module _ (least : ℕ) (least_is : IsLeast d b least) where
    -- a period ends the run, or keeps more of it, or has fewer steps than the least number
    pub data Carries (left on : ℕ) (k e : ℕ) (s : State) : Type 0 where
      ended : (how : Ending) → s.phase ≡ Over how → Carries left on k e s
      kept_more : (less : ℕ) → less ≤ left → less + suc on ≤ left + least → k < e → Ahead d b total less (5 + d.room + less) (untried e) s → Carries left on k e s
      kept_all : on < least → k ≡ e → Ahead d b total left (5 + d.room + left) (untried e) s → Carries left on k e s

    period_by : (p : Period) (left : ℕ) (c e : Count) (v : World) → ((less u : ℕ) → Ahead d b total less u e v.state → is_over (power_fails d p v).state.phase ≡ false)
        → Moves d b total left (5 + d.room + left) p.on c e v.state → Carries left p.on c.kept e.kept (power_fails d p v).state
    period_by p left c e v q (over how x) = ended how (ap (λ (w : World). w.state.phase) (power_fails-over v (over_is v how x) d p) ∙ x)
    period_by p left c e v q (gains less u le due more g) =
        let a = again d b total least least_is less u e v.state.area v.state.phase v.state.depth v.state g.stands in
        kept_more less le (omega (arith, a, due)) more (fail_by v.state.phase p less u e v g (q less u g))
    period_by p left c e v q (nears u due same g) =
        let a = again d b total least least_is left u e v.state.area v.state.phase v.state.depth v.state g.stands in
        kept_all (omega (arith, a, due)) same (fail_by v.state.phase p left u e v g (q left u g))

    -- the number that is kept behind a period
    abbrev now_kept : Period → World → (k : ℕ) → ℕ
    now_kept p w k = (count_ticks d h p.on w (untried k)).kept

    period_any : (p : Period) (left k : ℕ) (w : World) → ((less u : ℕ) (e : Count) → Ahead d b total less u e (ticks_on d h p.on w).state → is_over (one_period d h p w).state.phase ≡ false)
        → Begins left k w → Carries left p.on k (now_kept p w k) (one_period d h p w).state
    period_any p left k w q g =
        let c : Count = untried k in
        let e : Count = count_ticks d h p.on w c in
        period_by p left c e (ticks_on d h p.on w) (λ less u. q less u e) (ticks p.on left (5 + d.room + left) c w g)

    -- no checkpoint is lost where none is cut
    wakes_at : (cut : Bool) (area : AreaState) (s : State) → cut ≡ false → is_over (fail_in d cut Running (record s { area = area })).state.phase ≡ false
    wakes_at true area s e = absurd (true≢false e)
    wakes_at false Fresh s e = refl
    wakes_at false Open s e = refl
    wakes_at false Sealed s e = refl
    wakes_at false Armed s e = refl

    wakes_by : (phase : Phase) (p : Period) (left t : ℕ) (c : Count) (w : World) → p.cut ≡ false → Ahead d b total left t c (in_phase w phase).state
        → is_over (power_fails d p (in_phase w phase)).state.phase ≡ false
    wakes_by Waking p left t c w e g = refl
    wakes_by (Undoing j) p left t c w e g = refl
    wakes_by (Restoring j) p left t c w e g = refl
    wakes_by Running p left t c w e g = wakes_at p.cut w.state.area (in_phase w Running).state e
    wakes_by (Entering j) p left t c w e g = wakes_at p.cut w.state.area (in_phase w (Entering j)).state e
    wakes_by (Over how) p left t c w e g = absurd (not_over d b total left t c w.state.area how w.state.depth _ g.stands)
    wakes_by Lost p left t c w e g = absurd (not_lost d b total left t c w.state.area w.state.depth _ g.stands)

    period_whole : (p : Period) (left k : ℕ) (w : World) → p.cut ≡ false → Begins left k w → Carries left p.on k (now_kept p w k) (one_period d h p w).state
    period_whole p left k w cut g = period_any p left k w (λ less u e x. wakes_by (ticks_on d h p.on w).state.phase p less u e (ticks_on d h p.on w) cut x) g

    -- Enough periods

    over_after : (periods : List Period) (w : World) (how : Ending) → w.state.phase ≡ Over how → (through d h periods w).state.phase ≡ Over how
    over_after periods w how e = ap (λ (w : World). w.state.phase) (through-over w (over_is w how e) d h periods) ∙ e

    some_at : (left k : ℕ) (w : World) → Begins left k w → (1 ≤ left) × (k < total)
    some_at left k w g = some_left d b total left (5 + d.room + left) (untried k) w.state.area w.state.phase w.state.depth w.state g.stands

    pub through_enough : (j left k : ℕ) (periods : List Period) (w : World) → left ≤ j → AddUp least j periods → Begins left k w
        → (how : Ending) × ((through d h periods w).state.phase ≡ Over how)
    through_enough zero left k periods w le s g = let some = (some_at left k w g).0 in absurd (omega (arith, le, some))
    through_enough (suc j) left k [] w le s g = absurd s
    through_enough (suc j) left k (p ∷ periods) w le s g =
        go (period_whole p left k w s.0 g) (λ i less e le x. through_enough i less e periods v le x)
      where
        v : World
        v = one_period d h p w

        go : Carries left p.on k (now_kept p w k) v.state
            → ((i less e : ℕ) → less ≤ i → AddUp least i periods → Begins less e v → (how : Ending) × ((through d h periods v).state.phase ≡ Over how))
            → (how : Ending) × ((through d h periods v).state.phase ≡ Over how)
        go (ended how e) f = (how, over_after periods v how e)
        go (kept_more less low carried more x) f = f (suc j - (suc p.on - least)) less (now_kept p w k) (omega (arith, le, low, carried)) s.1 x
        go (kept_all short same x) f = f (suc j - (suc p.on - least)) left (now_kept p w k) (omega (arith, le, short)) s.1 x

    -- each long period keeps an instruction
    pub through_long : (j left k : ℕ) (periods : List Period) (w : World) → total ≤ k + j → AreLong least j periods → Begins left k w
        → (how : Ending) × ((through d h periods w).state.phase ≡ Over how)
    through_long zero left k periods w le s g = let some = (some_at left k w g).1 in absurd (omega (arith, le, some))
    through_long (suc j) left k [] w le s g = absurd s
    through_long (suc j) left k (p ∷ periods) w le s g =
        go (period_whole p left k w s.1 g) (λ less e le x. through_long j less e periods v le s.2 x)
      where
        v : World
        v = one_period d h p w

        go : Carries left p.on k (now_kept p w k) v.state → ((less e : ℕ) → total ≤ e + j → Begins less e v → (how : Ending) × ((through d h periods v).state.phase ≡ Over how))
            → (how : Ending) × ((through d h periods v).state.phase ≡ Over how)
        go (ended how e) f = (how, over_after periods v how e)
        go (kept_more less low carried more x) f = f less (now_kept p w k) (omega (arith, le, more)) x
        go (kept_all short same x) f = absurd (let long = s.0 in omega (arith, short, long))

    -- More is kept

    no_end : (s : State) (how : Ending) → s.phase ≡ Over how → is_over s.phase ≡ false → ⊥
    no_end s how e q = true≢false (sym (ap is_over e) ∙ q)

    dark_by : (v : World) (o : Bool) → is_over (if o then v else record { tick = v.tick; state = v.state; report = with_said v.report v.tick (Some Dark) }).state.phase ≡ is_over v.state.phase
    dark_by v true = refl
    dark_by v false = refl

    more_by : (p : Period) (left k e : ℕ) (s : State) → least ≤ p.on → is_over s.phase ≡ false → Carries left p.on k e s → k < e
    more_by p left k e s le q (ended how x) = absurd (no_end s how x q)
    more_by p left k e s le q (kept_more less low carried more g) = more
    more_by p left k e s le q (kept_all short same g) = absurd (omega (arith, le, short))

    pub keeps_more : (before : List Period) (p : Period) (left k : ℕ) (w : World) → least ≤ p.on → Begins left k w → is_over (through d h (before ++ p ∷ []) w).state.phase ≡ false
        → kept_on d h before w k < kept_on d h (before ++ p ∷ []) w k
    keeps_more [] p left k w le g q =
        let v = one_period d h p w in
        let awake : is_over v.state.phase ≡ false = sym (dark_by v (is_over v.state.phase)) ∙ q in
        more_by p left k (now_kept p w k) v.state le awake (period_any p left k w (λ less u e x. awake) g)
    keeps_more (p' ∷ before) p left k w le g q = by (is_over v.state.phase) refl (λ less e x. keeps_more before p less e v le x q)
      where
        v : World
        v = one_period d h p' w

        Later : Type 0
        Later = (less e : ℕ) → Begins less e v → kept_on d h before v e < kept_on d h (before ++ p ∷ []) v e

        go : is_over v.state.phase ≡ false → Carries left p'.on k (now_kept p' w k) v.state → Later
            → kept_on d h before v (now_kept p' w k) < kept_on d h (before ++ p ∷ []) v (now_kept p' w k)
        go awake (ended how x) f = absurd (no_end v.state how x awake)
        go awake (kept_more less low carried more x) f = f less (now_kept p' w k) x
        go awake (kept_all short same x) f = f left (now_kept p' w k) x

        by : (o : Bool) → is_over v.state.phase ≡ o → Later → kept_on d h before v (now_kept p' w k) < kept_on d h (before ++ p ∷ []) v (now_kept p' w k)
        by true e f = absurd (true≢false (sym e ∙ (sym (ap (λ (w : World). is_over w.state.phase) (through-over v e d h (before ++ p ∷ []))) ∙ q)))
        by false e f = go e (period_any p' left k w (λ less u f x. e) g) f
