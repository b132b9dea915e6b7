-- An outage keeps the facts.
use Rattle.std.proofs.Common.{◌≡◌, ℕ, zero, suc, ◌+◌, ℤ, List, [], ◌∷◌, ◌++◌, length, refl, sym, ap, ◌∙◌, subst, arith, Bool, true, false}
use Rattle.oc_io.specs.declared.period.Period.{Period}
use Rattle.oc_tree.specs.Said.{Told}
use Rattle.oc_tree.specs.declared.said.Said.TheVariants.{Entered, Aborted, Off}
use Rattle.oc_undo.specs.declared.Entry.{Entry}
use Rattle.oc_ckpt.specs.Saving.{save_all}
use Rattle.oc_ckpt.specs.declared.AreaState.{AreaState}
use Rattle.oc_ckpt.specs.declared.AreaState.TheVariants.{Fresh, Open, Sealed, Armed}
use Rattle.oc_isa.specs.declared.phase.Phase.{Phase}
use Rattle.oc_isa.specs.declared.phase.Phase.TheVariants.{Waking, Undoing, Restoring, Running, Entering, Over, Lost}
use Rattle.oc_isa.specs.Next.{Regs, Device}
use Rattle.oc_isa.specs.Run.{core_at, continuous_run}
use Rattle.oc_isa.specs.Power.{State, World, words_of, word_of, number_of, power_fails}
use Rattle.oc_items.specs.Erase.{erase, without_offs, without_marks, samples_of, HasNoOffInside}
use Rattle.oc_items.specs.Reports.{IsPrefixOf}
use Rattle.oc_outage.specs.Kept.{Count, untried}
use Rattle.oc_outage.proofs.Continues.{IsAt, fits}
use Rattle.oc_outage.proofs.Erasing.{item, erase-attempt}
use Rattle.oc_outage.proofs.Facts.{state_at, regs_at, IsSettled, IsEntry, IsAttempt, IsSealed, IsWaking, IsRunning, IsLost, Holds, AreHonest, IsGood}
use Rattle.oc_outage.proofs.Going.{world_at}
use Rattle.oc_outage.proofs.Growing.{inside, read_more}
use Rattle.oc_outage.proofs.Inside.{parts_more}
use Rattle.oc_outage.proofs.Reports.{honest_all, honest_more, off_honest, settled_off, entry_off}
use Rattle.oc_outage.proofs.Words.{length-words_of, saved_word, all_saved, length-save_all}

-- an attempt is aborted
module _ (d : Device) (report : List Told) (c : Count) (made t r : ℕ) (saved regs : Regs) (depth : ℕ) (nv : List ℤ) (log : List Entry) (s : IsAttempt d report c made r saved regs depth nv log) where
  erase-aborted : erase (report ++ item t (Aborted r) ∷ []) ≡ erase s.before
  erase-aborted = ap erase (parts_more report s.before s.body (item s.tick (Entered r)) (item t (Aborted r)) s.parts) ∙ erase-attempt t r s.tick s.before s.body s.plain

  -- and the entry is there again
  aborted_entry : IsEntry d (report ++ item t (Aborted r) ∷ []) c.kept made r saved nv log
  aborted_entry =
      let e = s.entry in
      let g = sym erase-aborted in
      record {
        within = e.within;
        entry_nv = e.entry_nv;
        undoes = e.undoes;
        at = subst (λ l. IsAt d (samples_of (without_marks (without_offs l))) (without_offs l ++ Entered r ∷ []) c.kept (core_at saved 1 e.entry_nv)) g e.at;
        closed = subst (λ l. inside false l ≡ false) g e.closed;
      }

  aborted_honest : (h : ℕ → ℕ → ℤ) → AreHonest d h made report → AreHonest d h made (report ++ item t (Aborted r) ∷ [])
  aborted_honest h a =
      let g = sym erase-aborted in
      honest_more d h report made t (Aborted r) a
      (λ n le.
      let w = a.each s.before (item s.tick (Entered r) ∷ s.body) (sym s.parts) n le in
      let whole = honest_all d h report made a n le in
      record {
        said = subst (λ l. IsPrefixOf (without_offs l) ((continuous_run d (samples_of (without_marks (without_offs l))) n).out)) g w.said;
        outside = subst (HasNoOffInside false) g w.outside;
        read = read_more h report t (Aborted r) whole.read tt;
      })

module _ (d : Device) (report : List Told) (k made t off : ℕ) where
  sealed_off : (nv words : List ℤ) → IsSealed d report k made nv words → IsSealed d (report ++ item t (Off off) ∷ []) k made nv words
  sealed_off nv words s = record { saved = s.saved; is_saved = s.is_saved; settled = settled_off d report k made t off s.saved nv s.settled }

  -- the low-power checkpoint
  checkpointed : (regs : Regs) (nv words : List ℤ) → IsSettled d report k made regs nv → length words ≡ 3 + d.room
      → IsSealed d (report ++ item t (Off off) ∷ []) k made nv (save_all (words_of regs) words) × (length (save_all (words_of regs) words) ≡ 3 + d.room)
  checkpointed regs nv words s z =
      let f = fits d _ _ k (core_at regs 0 nv) s.at in
      let n = length-words_of regs in
      (record { saved = regs; is_saved = all_saved regs words; settled = settled_off d report k made t off regs nv s }, length-save_all (words_of regs) words (omega arith) ∙ z)

-- of the boot of an attempt, or of an attempt that was aborted, nothing is tried
module _ (d : Device) (report : List Told) (c : Count) (made t off : ℕ) where
  waking_off : (nv : List ℤ) (log : List Entry) (words : List ℤ) → IsWaking d report c made nv log words → IsWaking d (report ++ item t (Off off) ∷ []) (untried c.kept) made nv log words
  waking_off nv log words s = record { region = s.region; entry = entry_off d report c.kept made t off s.region.number s.region.saved nv log s.entry; none = refl }

module _ (d : Device) (h : ℕ → ℕ → ℤ) (report : List Told) (c : Count) (made t on off : ℕ) (stack nv : List ℤ) (log : List Entry) (words : List ℤ) (a : AreHonest d h made report)
    (sized : length words ≡ 3 + d.room) where
  abbrev after : Bool → State → World
  after cut s = power_fails d (record { on = on; off = off; cut = cut }) (world_at t s report)

  lost : (regs : Regs) → IsSettled d report c.kept made regs nv → IsLost d (report ++ item t (Off off) ∷ []) c.kept made nv
  lost regs s = record { regs = regs; settled = settled_off d report c.kept made t off regs nv s }

  -- power fails outside a region, and the checkpoint is cut or complete
  fails_open : (cut : Bool) (pc fp : ℕ) → IsSettled d report c.kept made (regs_at pc fp stack) nv → log ≡ []
      → IsGood d h (untried c.kept) made (after cut (state_at Running pc fp 0 stack nv log Open words))
  fails_open true pc fp s y = record { holds = lost (regs_at pc fp stack) s; honest = off_honest d h report made t off a s.closed; sized = sized }
  fails_open false pc fp s y = let c = checkpointed d report c.kept made t off (regs_at pc fp stack) nv words s sized in
      record { holds = (c.0, y); honest = off_honest d h report made t off a s.closed; sized = c.1 }

  fails_entering : (cut : Bool) (k pc fp depth : ℕ) → IsSettled d report c.kept made (regs_at pc fp stack) nv → log ≡ []
      → IsGood d h (untried c.kept) made (after cut (state_at (Entering k) pc fp depth stack nv log Open words))
  fails_entering true k pc fp depth s y = record { holds = lost (regs_at pc fp stack) s; honest = off_honest d h report made t off a s.closed; sized = sized }
  fails_entering false k pc fp depth s y = let c = checkpointed d report c.kept made t off (regs_at pc fp stack) nv words s sized in
      record { holds = (c.0, y); honest = off_honest d h report made t off a s.closed; sized = c.1 }

  -- power fails in a region
  fails_armed : (cut : Bool) (pc fp depth : ℕ) → IsRunning d report c made (regs_at pc fp stack) (suc depth) nv log words
      → IsGood d h (untried c.kept) made (after cut (state_at Running pc fp (suc depth) stack nv log Armed words))
  fails_armed cut pc fp depth w =
      let r = w.region.number in
      let saved = w.region.saved in
      let entry = aborted_entry d report c made t r saved (regs_at pc fp stack) (suc depth) nv log w.attempt in
      let n : d.region (number_of (word_of words 0)) ≡ r = ap (λ x. d.region (number_of x)) (saved_word words saved 0 w.region.is_saved (omega arith)) ∙ w.region.found in
      subst (λ q. IsGood d h (untried c.kept) made (world_at (t + off) (state_at Waking 0 0 0 [] nv log Armed words) ((report ++ item t (Aborted q) ∷ []) ++ item t (Off off) ∷ []))) (sym n)
      (record {
        holds = record { region = w.region; entry = entry_off d (report ++ item t (Aborted r) ∷ []) c.kept made t off r saved nv log entry; none = refl };
        honest = off_honest d h (report ++ item t (Aborted r) ∷ []) made t off (aborted_honest d report c made t r saved (regs_at pc fp stack) (suc depth) nv log w.attempt h a) entry.closed;
        sized = sized;
      })

  fails_by : (cut : Bool) (area : AreaState) (phase : Phase) (pc fp depth : ℕ) → Holds d area phase depth (state_at phase pc fp depth stack nv log area words) report c made
      → IsGood d h (untried c.kept) made (after cut (state_at phase pc fp depth stack nv log area words))
  fails_by cut Fresh Waking pc fp depth s = record { holds = (settled_off d report c.kept made t off d.start nv s.0, s.1); honest = off_honest d h report made t off a s.0.closed; sized = sized }
  fails_by cut Fresh phase pc fp depth s = absurd s
  fails_by cut Open Waking pc fp depth s = absurd s
  fails_by cut Open (Undoing k) pc fp depth s = absurd s
  fails_by cut Open (Restoring k) pc fp depth s = absurd s
  fails_by cut Open Running pc fp zero s = fails_open cut pc fp s.0 s.1
  fails_by cut Open Running pc fp (suc depth) s = absurd s
  fails_by cut Open (Entering k) pc fp depth s = fails_entering cut k pc fp depth s.settled s.empty
  fails_by cut Open (Over how) pc fp depth s = record { holds = s; honest = a; sized = sized }
  fails_by cut Open Lost pc fp depth s = record { holds = s; honest = a; sized = sized }
  fails_by cut Sealed Waking pc fp depth s = record { holds = (sealed_off d report c.kept made t off nv words s.0, s.1); honest = off_honest d h report made t off a s.0.settled.closed; sized = sized }
  fails_by cut Sealed (Restoring k) pc fp depth s =
      record { holds = (sealed_off d report c.kept made t off nv words s.0.sealed, s.1); honest = off_honest d h report made t off a s.0.sealed.settled.closed; sized = sized }
  fails_by cut Sealed phase pc fp depth s = absurd s
  fails_by cut Armed Waking pc fp depth s = record { holds = waking_off d report c made t off nv log words s; honest = off_honest d h report made t off a s.entry.closed; sized = sized }
  fails_by cut Armed (Undoing k) pc fp depth s =
      record { holds = waking_off d report c made t off nv log words s.waking; honest = off_honest d h report made t off a s.waking.entry.closed; sized = sized }
  fails_by cut Armed (Restoring k) pc fp depth s =
      record { holds = waking_off d report c made t off nv log words s.waking; honest = off_honest d h report made t off a s.waking.entry.closed; sized = sized }
  fails_by cut Armed Running pc fp zero s = absurd s
  fails_by cut Armed Running pc fp (suc depth) s = fails_armed cut pc fp depth s
  fails_by cut Armed (Entering k) pc fp depth s = absurd s
  fails_by cut Armed (Over how) pc fp depth s = record { holds = s; honest = a; sized = sized }
  fails_by cut Armed Lost pc fp depth s = absurd s

module _ (d : Device) (h : ℕ → ℕ → ℤ) where
  pub outage_keeps : (c : Count) (made : ℕ) (p : Period) (w : World) → IsGood d h c made w → IsGood d h (untried c.kept) made (power_fails d p w)
  outage_keeps c made p w g = fails_by d h w.report c made w.tick p.on p.off w.state.stack w.state.nv w.state.log w.state.words g.honest g.sized p.cut w.state.area w.state.phase
      w.state.pc w.state.fp w.state.depth g.holds
