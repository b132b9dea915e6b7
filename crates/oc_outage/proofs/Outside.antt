-- Steps outside a region, and into one.
use Rattle.std.proofs.Common.{◌≡◌, ℕ, suc, ◌+◌, ◌<◌, ◌≤◌, ℤ, List, [], ◌∷◌, ◌++◌, length, take, Option, Some, None, refl, sym, ap, ◌∙◌, subst, arith, append-nil, Bool, true, false}
use Rattle.std.specs.Prelude.{nat_lt, slice_set, if◌then◌else◌}
use Rattle.std.proofs.lemmas.Bool.{ltb-true, ltb-false}
use Rattle.std.proofs.lemmas.List.{length-set}
use Rattle.std.proofs.Math.Seq.{take-length}
use Rattle.oc_tree.specs.Said.{Told}
use Rattle.oc_tree.specs.Word.{is_word}
use Rattle.oc_tree.specs.declared.said.Said.TheVariants.{Sensed, Showed, Entered}
use Rattle.oc_tree.specs.declared.said.Shown.{Shown}
use Rattle.oc_undo.specs.Undo.{undo}
use Rattle.oc_undo.specs.declared.Entry.{Entry}
use Rattle.oc_ckpt.specs.declared.AreaState.TheVariants.{Open, Armed}
use Rattle.oc_isa.specs.declared.phase.Phase.{Phase}
use Rattle.oc_isa.specs.declared.phase.Phase.TheVariants.{Running, Entering}
use Rattle.oc_isa.specs.Next.{pushed, Regs, Write, Next, Goes, Senses, Enters, Commits, Ends, Stuck, Device, written}
use Rattle.oc_isa.specs.Run.{core_at}
use Rattle.oc_isa.specs.Power.{State, running, quietly, in_area, words_of, word_of, run_next, enter, enter_on}
use Rattle.oc_items.specs.Erase.{marked, kept_samples}
use Rattle.oc_outage.specs.Honest.{IsFit}
use Rattle.oc_outage.specs.Kept.{Count, untried, takes_one, count_entry, count_entering, count_next}
use Rattle.oc_outage.proofs.Continues as continues
use Rattle.oc_outage.proofs.Continues.{IsAt}
use Rattle.oc_outage.proofs.Erasing.{item}
use Rattle.oc_outage.proofs.Facts.{state_at, regs_at, IsSettled, IsEntering, AreHonest, Stays}
use Rattle.oc_outage.proofs.Reports.{settled_later, honest_later, at_more, settled_more, grown, ended_whole, ended_honest}
use Rattle.oc_outage.proofs.Words.{IsSaved, length-words_of, one_saved}

-- outside a region
module _ (d : Device) (h : ℕ → ℕ → ℤ) (report : List Told) (k made t pc fp : ℕ) (stack nv : List ℤ) (log : List Entry) (words : List ℤ) (a : AreHonest d h made report)
    (sized : length words ≡ 3 + d.room) where
  open_goes : (to : Regs) (w : Option Write) (v : Option Shown) → IsSettled d report k made (regs_at pc fp stack) nv → log ≡ [] → d.next (regs_at pc fp stack) nv ≡ Goes to w v
      → Stays d h report (untried (suc k)) made t (run_next (λ s. h s t) (Goes to w v) (state_at Running pc fp 0 stack nv log Open words))
  open_goes to w None s y e =
      let at = continues.goes d _ _ k (core_at (regs_at pc fp stack) 0 nv) to w None s.at e in
      ((record { within = omega arith; at = at; closed = s.closed }, y), honest_later d h report made a, sized)
  open_goes to w (Some what) s y e =
      let at = at_more d report t (Showed what) tt (kept_samples report) (marked report ++ Showed what ∷ []) (suc k) (core_at to 0 (written w nv))
      (sym (append-nil (kept_samples report))) refl (continues.goes d _ _ k (core_at (regs_at pc fp stack) 0 nv) to w (Some what) s.at e) in (
        (settled_more d report t (Showed what) tt (suc made) (suc k) to (written w nv) at (omega arith) s.closed, y),
        grown d report t (Showed what) tt h made (suc k) (core_at to 0 (written w nv)) a at (omega arith) (tt, tt) tt,
        sized,
      )

  open_senses : (x : ℕ) (to : Regs) → is_word (h x t) ≡ true → IsSettled d report k made (regs_at pc fp stack) nv → log ≡ [] → d.next (regs_at pc fp stack) nv ≡ Senses x to
      → Stays d h report (untried (suc k)) made t (run_next (λ s. h s t) (Senses x to) (state_at Running pc fp 0 stack nv log Open words))
  open_senses x to word s y e =
      let c = core_at (pushed to (h x t)) 0 nv in
      let at = at_more d report t (Sensed x (h x t)) tt (kept_samples report ++ h x t ∷ []) (marked report ++ Sensed x (h x t) ∷ []) (suc k) c refl refl
      (continues.senses d _ _ k (core_at (regs_at pc fp stack) 0 nv) x to (h x t) word s.at e) in (
        (settled_more d report t (Sensed x (h x t)) tt (suc made) (suc k) (pushed to (h x t)) nv at (omega arith) s.closed, y),
        grown d report t (Sensed x (h x t)) tt h made (suc k) c a at (omega arith) (tt, tt) refl,
        sized,
      )

-- a step of an `enter`
module _ (d : Device) (h : ℕ → ℕ → ℤ) (fit : IsFit d) (report : List Told) (c : Count) (made t : ℕ) (phase : Phase) (pc fp depth : ℕ) (stack nv : List ℤ) (log : List Entry) (words : List ℤ)
    (a : AreHonest d h made report) (sized : length words ≡ 3 + d.room) (done : ℕ) (en : IsEntering d report c.kept made done (regs_at pc fp stack) nv log words) where
  abbrev here : State
  here = state_at phase pc fp depth stack nv log Open words

  -- the entry
  arms : IsSaved words en.to → Stays d h report (takes_one 0 c) made t (record { state = in_area (running here en.to 1) Armed; said = Some (Entered en.number) })
  arms saved =
      let s = en.settled in
      let r = en.number in
      let to = en.to in
      let into = continues.enters d (kept_samples report) (marked report) c.kept (regs_at pc fp stack) nv r to s.at en.next in
      let at = at_more d report t (Entered r) tt (kept_samples report) (marked report ++ Entered r ∷ []) (suc c.kept) (core_at to 1 nv) (sym (append-nil (kept_samples report))) refl into in
      let none : suc c.kept ≡ suc c.kept + 0 = omega arith in (
        record {
          region = record { saved = to; is_saved = saved; number = r; found = fit.entered (regs_at pc fp stack) nv r to en.next };
          attempt = record {
            before = report;
            tick = t;
            body = [];
            parts = refl;
            plain = tt;
            entry = record { within = omega arith; entry_nv = nv; undoes = ap (λ l. undo l nv) en.empty; at = into; closed = s.closed };
            within = omega arith;
            at = subst (λ n. IsAt d (kept_samples (report ++ item t (Entered r) ∷ [])) (marked (report ++ item t (Entered r) ∷ [])) n (core_at to 1 nv)) none at;
          };
        },
        grown d report t (Entered r) tt h made (suc c.kept) (core_at to 1 nv) a at (omega arith) (tt, tt) tt,
        sized,
      )

  -- the area has room for the words that are saved
  saved-fit : length (words_of en.to) ≤ length words
  saved-fit =
      let s = en.settled in
      let f = continues.fits d _ _ (suc c.kept) (core_at en.to 1 nv) (continues.enters d _ _ c.kept (regs_at pc fp stack) nv en.number en.to s.at en.next) in
      let n = length-words_of en.to in
      omega arith

  enter_by : (more : Bool) → nat_lt done (length (words_of en.to)) ≡ more → Stays d h report (if more then c else takes_one 0 c) made t
      (if more
      then quietly (record here { phase = Entering (suc done); words = slice_set words done (word_of (words_of en.to) done) })
      else record { state = in_area (running here en.to 1) Armed; said = Some (Entered en.number) })
  enter_by true q =
      let lt : done < length (words_of en.to) = ltb-true done _ q in
      let room = saved-fit in
      let low : done < length words = omega arith in (
        record {
          settled = settled_later d report c.kept made (regs_at pc fp stack) nv en.settled;
          number = en.number;
          to = en.to;
          next = en.next;
          empty = en.empty;
          upto = omega arith;
          saved = one_saved words (words_of en.to) done low lt en.saved;
        },
        honest_later d h report made a,
        length-set words done _ ∙ sized,
      )
  enter_by false q =
      let ge : length (words_of en.to) ≤ done = ltb-false done _ q in
      let up = en.upto in
      let e : done ≡ length (words_of en.to) = omega arith in
      arms (record { front = subst (λ n. take n words ≡ take n (words_of en.to)) e en.saved ∙ take-length (words_of en.to) })

  pub enter_keeps : Stays d h report (count_entry done en.to c) made t (enter done en.number en.to here)
  enter_keeps = enter_by (nat_lt done (length (words_of en.to))) refl

  pub enter_goes_on : Stays d h report (count_entering done (d.next (regs_at pc fp stack) nv) c) made t (enter_on done (d.next (regs_at pc fp stack) nv) here)
  enter_goes_on = subst (λ n. Stays d h report (count_entering done n c) made t (enter_on done n here)) (sym en.next) enter_keeps

-- one step outside a region
module _ (d : Device) (h : ℕ → ℕ → ℤ) (fit : IsFit d) (words_of_h : (s t : ℕ) → is_word (h s t) ≡ true) (report : List Told) (c : Count) (made t pc fp : ℕ) (stack nv : List ℤ)
    (log : List Entry) (words : List ℤ) (a : AreHonest d h made report) (sized : length words ≡ 3 + d.room) where
  open_by : (x : Next) → IsSettled d report c.kept made (regs_at pc fp stack) nv → log ≡ [] → d.next (regs_at pc fp stack) nv ≡ x
      → Stays d h report (count_next x (state_at Running pc fp 0 stack nv log Open words) c) made t (run_next (λ s. h s t) x (state_at Running pc fp 0 stack nv log Open words))
  open_by (Goes to w v) s y e = open_goes d h report c.kept made t pc fp stack nv log words a sized to w v s y e
  open_by (Senses x to) s y e = open_senses d h report c.kept made t pc fp stack nv log words a sized x to (words_of_h x t) s y e
  open_by (Enters r to) s y e = enter_keeps d h fit report c made t Running pc fp 0 stack nv log words a sized 0
      (record { settled = s; number = r; to = to; next = e; empty = y; upto = omega arith; saved = refl })
  open_by (Commits r to) s y e = absurd (continues.commits_never d _ _ c.kept (regs_at pc fp stack) nv r to s.at e)
  open_by (Ends how) s y e =
      let core = core_at (regs_at pc fp stack) 0 nv in
      (ended_whole d report made t c.kept core how s.at s.within e, ended_honest d report made t c.kept core how s.at s.within e h a, sized)
  open_by Stuck s y e = absurd (continues.stuck_never d _ _ c.kept (core_at (regs_at pc fp stack) 0 nv) s.at e)

  pub open_keeps : IsSettled d report c.kept made (regs_at pc fp stack) nv → log ≡ []
      → Stays d h report (count_next (d.next (regs_at pc fp stack) nv) (state_at Running pc fp 0 stack nv log Open words) c) made t
      (run_next (λ s. h s t) (d.next (regs_at pc fp stack) nv) (state_at Running pc fp 0 stack nv log Open words))
  open_keeps s y = open_by (d.next (regs_at pc fp stack) nv) s y refl
