-- Where the run without outages stands behind the instructions that are kept.
use Rattle.std.proofs.Common.{◌≡◌, ℕ, suc, ◌-◌, ℤ, List, [], ◌∷◌, ◌++◌, length, take, drop, refl, sym, ap, ◌∙◌, arith, Bool, true, false, true≢false}
use Rattle.std.specs.Prelude.{reverse}
use Rattle.std.proofs.lemmas.List.{reverse-reverse}
use Rattle.oc_io.specs.declared.period.Period.{Period}
use Rattle.oc_tree.specs.Said.{Told}
use Rattle.oc_tree.specs.declared.said.Said.{Said}
use Rattle.oc_tree.specs.declared.said.Said.TheVariants.{Entered, Dark}
use Rattle.oc_undo.specs.Undo.{undo}
use Rattle.oc_undo.specs.declared.Entry.{Entry}
use Rattle.oc_ckpt.specs.declared.AreaState.{AreaState}
use Rattle.oc_ckpt.specs.declared.AreaState.TheVariants.{Fresh, Open, Sealed, Armed}
use Rattle.oc_isa.specs.declared.phase.Phase.{Phase}
use Rattle.oc_isa.specs.declared.phase.Phase.TheVariants.{Waking, Undoing, Restoring, Running, Entering, Over, Lost}
use Rattle.oc_isa.specs.Next.{Regs, Device}
use Rattle.oc_isa.specs.Run.{Core, core_at, stops, run_on, continuous_run}
use Rattle.oc_isa.specs.Power.{State, World, word_of, number_of, fail_in, power_fails}
use Rattle.oc_items.specs.Erase.{marked, kept_samples}
use Rattle.oc_outage.specs.Honest.{is_awake}
use Rattle.oc_outage.specs.Kept.{Count, held_regs, goes_on_at, said_up_to, StandsAfter}
use Rattle.oc_outage.proofs.Continues.{IsAt, run-from}
use Rattle.oc_outage.proofs.Erasing.{item}
use Rattle.oc_outage.proofs.Facts.{state_at, regs_at, IsSettled, IsSealed, IsWaking, Holds}
use Rattle.oc_outage.proofs.Reports.{same_samples, same_marked}
use Rattle.oc_outage.proofs.Words.{IsSaved, saved_word, length-words_of}

-- the registers that the area holds

stack_held : (words stack : List ℤ) (pc fp sp : ℤ) → take (suc (suc (suc (length stack)))) words ≡ pc ∷ fp ∷ sp ∷ stack → take (length stack) (drop 3 words) ≡ stack
stack_held [] stack pc fp sp e = absurd (cc)
stack_held (x ∷ []) stack pc fp sp e = absurd (cc)
stack_held (x ∷ y ∷ []) stack pc fp sp e = absurd (cc)
stack_held (x ∷ y ∷ z ∷ words) stack pc fp sp e = cc

pub held_is : (words : List ℤ) (saved : Regs) → IsSaved words saved → held_regs words ≡ saved
held_is words saved s =
    let some = length-words_of saved in
    let pc : number_of (word_of words 0) ≡ saved.pc = ap number_of (saved_word words saved 0 s (omega (arith, some))) in
    let fp : number_of (word_of words 1) ≡ saved.fp = ap number_of (saved_word words saved 1 s (omega (arith, some))) in
    let sp : number_of (word_of words 2) ≡ length (reverse saved.stack) = ap number_of (saved_word words saved 2 s (omega (arith, some))) in
    let there : take (length (reverse saved.stack)) (drop 3 words) ≡ reverse saved.stack = stack_held words (reverse saved.stack) _ _ _ s.front in
    let stack : reverse (take (number_of (word_of words 2)) (drop 3 words)) ≡ saved.stack =
    ap (λ n. reverse (take n (drop 3 words))) sp ∙ ap reverse there ∙ reverse-reverse saved.stack in
    ap (λ n. regs_at n (held_regs words).fp (held_regs words).stack) pc ∙ ap (λ n. regs_at saved.pc n (held_regs words).stack) fp ∙ ap (regs_at saved.pc saved.fp) stack

module _ (d : Device) where
  stands : (samples : List ℤ) (out : List Said) (m : ℕ) (c : Core) → IsAt d samples out m c → continuous_run d samples m ≡ stops c out
  stands samples out m c a =
      let none : m - m ≡ 0 = omega arith in
      run-from d samples out m c a m (omega arith) ∙ ap (λ n. run_on d n [] c out) none

  module _ (report : List Told) (c : Count) (made pc fp depth : ℕ) (stack nv : List ℤ) (log : List Entry) (words : List ℤ) where
    settled_stands : (regs : Regs) → IsSettled d report c.kept made regs nv → continuous_run d (kept_samples report) c.kept ≡ stops (core_at regs 0 nv) (marked report)
    settled_stands regs s = stands (kept_samples report) (marked report) c.kept (core_at regs 0 nv) s.at

    sealed_stands : IsSealed d report c.kept made nv words → continuous_run d (kept_samples report) c.kept ≡ stops (core_at (held_regs words) 0 nv) (marked report)
    sealed_stands s = settled_stands s.saved s.settled ∙ ap (λ r. stops (core_at r 0 nv) (marked report)) (sym (held_is words s.saved s.is_saved))

    waking_stands : IsWaking d report c made nv log words
        → continuous_run d (kept_samples report) c.kept ≡ stops (core_at (held_regs words) 1 (undo log nv)) (marked report ++ Entered (d.region (held_regs words).pc) ∷ [])
    waking_stands w =
        let e = w.entry in
        let r = w.region in
        stands (kept_samples report) (marked report ++ Entered r.number ∷ []) c.kept (core_at r.saved 1 e.entry_nv) e.at
        ∙ ap (λ v. stops (core_at r.saved 1 v) (marked report ++ Entered r.number ∷ [])) (sym e.undoes)
        ∙ ap (λ n. stops (core_at r.saved 1 (undo log nv)) (marked report ++ Entered n ∷ [])) (sym r.found)
        ∙ ap (λ (g : Regs). stops (core_at g 1 (undo log nv)) (marked report ++ Entered (d.region g.pc) ∷ [])) (sym (held_is words r.saved r.is_saved))

    -- a state that is not awake
    pub asleep_stands : (area : AreaState) (phase : Phase) → is_awake phase ≡ false → Holds d area phase depth (state_at phase pc fp depth stack nv log area words) report c made
        → StandsAfter d phase c.kept (state_at phase pc fp depth stack nv log area words) report
    asleep_stands Fresh Waking q s = settled_stands d.start s.0
    asleep_stands Fresh phase q s = absurd s
    asleep_stands Open Waking q s = absurd s
    asleep_stands Open (Undoing j) q s = absurd s
    asleep_stands Open (Restoring j) q s = absurd s
    asleep_stands Open Running q s = absurd (true≢false q)
    asleep_stands Open (Entering j) q s = absurd (true≢false q)
    asleep_stands Open (Over how) q s = s.whole
    asleep_stands Open Lost q s = (s.regs, settled_stands s.regs s.settled)
    asleep_stands Sealed Waking q s = sealed_stands s.0
    asleep_stands Sealed (Restoring j) q s = sealed_stands s.0.sealed
    asleep_stands Sealed phase q s = absurd s
    asleep_stands Armed Waking q s = waking_stands s
    asleep_stands Armed (Undoing j) q s = waking_stands s.waking
    asleep_stands Armed (Restoring j) q s = waking_stands s.waking
    asleep_stands Armed Running q s = absurd (true≢false q)
    asleep_stands Armed (Entering j) q s = absurd s
    asleep_stands Armed (Over how) q s = s.whole
    asleep_stands Armed Lost q s = absurd s

  -- the periods are used up
  module _ (report : List Told) (t : ℕ) (s : State) where
    said_dark : (area : AreaState) → said_up_to d area s report ≡ said_up_to d area s (report ++ item t Dark ∷ [])
    said_dark Fresh = same_marked report t Dark tt refl
    said_dark Open = same_marked report t Dark tt refl
    said_dark Sealed = same_marked report t Dark tt refl
    said_dark Armed = ap (λ l. l ++ Entered (d.region (held_regs s.words).pc) ∷ []) (same_marked report t Dark tt refl)

    pub dark_stands : (k : ℕ) → continuous_run d (kept_samples report) k ≡ stops (goes_on_at d s.area s) (said_up_to d s.area s report)
        → continuous_run d (kept_samples (report ++ item t Dark ∷ [])) k ≡ stops (goes_on_at d s.area s) (said_up_to d s.area s (report ++ item t Dark ∷ []))
    dark_stands k e = ap (λ v. continuous_run d v k) (sym (same_samples report t Dark tt refl)) ∙ e ∙ ap (stops (goes_on_at d s.area s)) (said_dark s.area)

  -- behind an outage nothing is awake
  asleep_at : (cut : Bool) (area : AreaState) (s : State) → is_awake (fail_in d cut Running (record s { area = area })).state.phase ≡ false
  asleep_at true Fresh s = refl
  asleep_at true area s = refl
  asleep_at false Fresh s = refl
  asleep_at false area s = refl

  asleep_by : (phase : Phase) (p : Period) (w : World) → is_awake (power_fails d p (record w { state = record w.state { phase = phase } })).state.phase ≡ false
  asleep_by Running p w = asleep_at p.cut w.state.area (record w.state { phase = Running })
  asleep_by (Entering j) p w = asleep_at p.cut w.state.area (record w.state { phase = Entering j })
  asleep_by phase p w = refl

  pub asleep : (p : Period) (w : World) → is_awake (power_fails d p w).state.phase ≡ false
  asleep p w = asleep_by w.state.phase p w
