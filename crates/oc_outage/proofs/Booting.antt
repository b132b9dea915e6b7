-- Steps of a boot.
use Rattle.std.proofs.Common.{◌≡◌, ℕ, zero, suc, ◌+◌, ◌≤◌, ℤ, List, [], ◌∷◌, ◌++◌, length, take, Some, refl, sym, ap, ◌∙◌, subst, arith, append-nil, Bool, true, false}
use Rattle.std.specs.Prelude.{nat_lt, if◌then◌else◌}
use Rattle.std.proofs.lemmas.Bool.{ltb-true, ltb-false}
use Rattle.std.proofs.Math.Seq.{take-length}
use Rattle.oc_tree.specs.Said.{Told}
use Rattle.oc_tree.specs.declared.said.Said.TheVariants.{Entered}
use Rattle.oc_undo.specs.Undo.{put_back, undo}
use Rattle.oc_undo.specs.declared.Entry.{Entry}
use Rattle.oc_ckpt.specs.declared.AreaState.TheVariants.{Sealed, Armed}
use Rattle.oc_isa.specs.declared.phase.Phase.TheVariants.{Waking, Undoing, Restoring, Running}
use Rattle.oc_isa.specs.Next.{Regs, Device}
use Rattle.oc_isa.specs.Run.{core_at}
use Rattle.oc_isa.specs.Power.{State, wake, held, undone, undo_phase, undo_step, restore, resume, quietly, restore_one}
use Rattle.oc_items.specs.Erase.{marked, kept_samples}
use Rattle.oc_outage.specs.Kept.{Count}
use Rattle.oc_outage.proofs.Continues as continues
use Rattle.oc_outage.proofs.Continues.{IsAt}
use Rattle.oc_outage.proofs.Erasing.{item}
use Rattle.oc_outage.proofs.Facts.{state_at, regs_at, IsSealed, IsRestoring, IsWaking, IsUndoing, IsUndone, IsSettled, OnArmed, AreHonest, Stays}
use Rattle.oc_outage.proofs.Reports.{settled_later, entry_later, honest_later, at_more, grown}
use Rattle.oc_outage.proofs.Undone.{undo-set, undo-last, entry_number}
use Rattle.oc_outage.proofs.Restored.{none_restored, more_restored, all_restored}

module _ (d : Device) (report : List Told) (c : Count) (made : ℕ) where
  pub sealed_later : (nv words : List ℤ) → IsSealed d report c.kept made nv words → IsSealed d report c.kept (suc made) nv words
  sealed_later nv words s = record { saved = s.saved; is_saved = s.is_saved; settled = settled_later d report c.kept made s.saved nv s.settled }

  abbrev pub waking_later : (nv : List ℤ) (log : List Entry) (words : List ℤ) → IsWaking d report c made nv log words → IsWaking d report c (suc made) nv log words
  waking_later nv log words s = record { region = s.region; entry = entry_later d report c.kept made s.region.number s.region.saved nv log s.entry; none = s.none }

-- a boot from a checkpoint
module _ (d : Device) (h : ℕ → ℕ → ℤ) (report : List Told) (c : Count) (made t done pc fp depth : ℕ) (stack nv : List ℤ) (log : List Entry) (words : List ℤ) (a : AreHonest d h made report)
    (sized : length words ≡ 3 + d.room) where
  abbrev sealed_here : State
  sealed_here = state_at (Restoring done) pc fp depth stack nv log Sealed words

  restores_sealed : (more : Bool) → IsRestoring d report c.kept made done pc fp stack nv words → log ≡ [] → nat_lt done (held words) ≡ more
      → Stays d h report c made t (if more then restore_one d done sealed_here else resume d Sealed sealed_here)
  restores_sealed false s y q =
      let e = all_restored d words s.sealed.saved s.sealed.is_saved done pc fp stack s.restored (ltb-false done (held words) q) in
      ((subst (λ r. IsSettled d report c.kept (suc made) r nv) (sym e) (settled_later d report c.kept made s.sealed.saved nv s.sealed.settled), y), honest_later d h report made a, sized)
  restores_sealed true s y q =
      let settled = s.sealed.settled in
      let f = continues.fits d _ _ c.kept (core_at s.sealed.saved 0 nv) settled.at in (
        (
          record {
            sealed = record { saved = s.sealed.saved; is_saved = s.sealed.is_saved; settled = settled_later d report c.kept made s.sealed.saved nv settled };
            restored = more_restored d words s.sealed.saved s.sealed.is_saved done pc fp stack s.restored (ltb-true done (held words) q) f;
          },
          y,
        ),
        honest_later d h report made a,
        sized,
      )

  pub sealed_keeps : IsRestoring d report c.kept made done pc fp stack nv words → log ≡ [] → Stays d h report c made t (restore d done sealed_here)
  sealed_keeps s y = restores_sealed (nat_lt done (held words)) s y refl

-- a boot in a region: the last entries are put back first
module _ (d : Device) (report : List Told) (c : Count) (made pc fp depth : ℕ) (stack nv : List ℤ) (log : List Entry) (words : List ℤ) where
  undo_from : (k : ℕ) → (s : IsWaking d report c made nv log words) → k ≤ length log → undo (take k log) nv ≡ s.entry.entry_nv
      → OnArmed d (undo_phase k) depth (state_at (undo_phase k) pc fp depth stack nv log Armed words) report c made
  undo_from zero s le u = record { waking = s; same = u; restored = none_restored d pc fp stack s.region.saved }
  undo_from (suc k) s le u = record { waking = s; short = omega arith; rest = u }

module _ (d : Device) (h : ℕ → ℕ → ℤ) (report : List Told) (c : Count) (made t pc fp depth : ℕ) (stack nv : List ℤ) (log : List Entry) (words : List ℤ) (a : AreHonest d h made report)
    (sized : length words ≡ 3 + d.room) where
  pub armed_wakes : IsWaking d report c made nv log words → Stays d h report c made t (wake d Armed (state_at Waking pc fp depth stack nv log Armed words))
  armed_wakes s = (
    undo_from d report c (suc made) pc fp depth stack nv log words (length log) (waking_later d report c made nv log words s) (omega arith)
        (ap (λ l. undo l nv) (take-length log) ∙ s.entry.undoes),
    honest_later d h report made a,
    sized,
  )

  pub undo_keeps : (k : ℕ) → IsUndoing d report c made nv log words k → Stays d h report c made t (undo_step k (state_at (Undoing k) pc fp depth stack nv log Armed words))
  undo_keeps k u =
      let l = entry_number log k u.short in
      let e = l.entry in
      let s = u.waking.entry in
      let waking : IsWaking d report c (suc made) (put_back e nv) log words =
      record {
        region = u.waking.region;
        entry =
            record { within = omega arith; entry_nv = s.entry_nv; undoes = undo-set log nv e.addr e.old l.has ∙ s.undoes; at = s.at; closed = s.closed };
        none = u.waking.none;
      } in
      let rest : undo (take k log) (put_back e nv) ≡ s.entry_nv = sym (undo-last (take k log) e nv) ∙ ap (λ l. undo l nv) (sym l.taken) ∙ u.rest in
      let here : OnArmed d (undo_phase k) depth (state_at (undo_phase k) pc fp depth stack (put_back e nv) log Armed words) report c (suc made) =
      undo_from d report c (suc made) pc fp depth stack (put_back e nv) log words k waking (omega (arith, u.short)) rest in
      subst (λ o. Stays d h report c made t (quietly (state_at (undo_phase k) pc fp depth stack (undone o nv) log Armed words))) (sym l.got)
      (here, honest_later d h report made a, sized)

  -- the entry again, from the area
  resumes : (w : IsWaking d report c made nv log words) → nv ≡ w.entry.entry_nv → regs_at pc fp stack ≡ w.region.saved
      → Stays d h report c made t (record { state = state_at Running pc fp 1 stack nv log Armed words; said = Some (Entered (d.region pc)) })
  resumes w same eq =
      let s = w.entry in
      let r = w.region.number in
      let saved = w.region.saved in
      let regs = regs_at pc fp stack in
      let there = subst (λ l. IsAt d (kept_samples report) (marked report ++ Entered r ∷ []) c.kept (core_at saved 1 l)) (sym same) s.at in
      let here = subst (λ g. IsAt d (kept_samples report) (marked report ++ Entered r ∷ []) c.kept (core_at g 1 nv)) (sym eq) there in
      let at = at_more d report t (Entered r) tt (kept_samples report) (marked report ++ Entered r ∷ []) c.kept (core_at regs 1 nv) (sym (append-nil (kept_samples report))) refl here in
      let none : c.kept ≡ c.kept + c.tried = omega (arith, w.none) in
      let n : d.region pc ≡ r = ap (λ (g : Regs). d.region g.pc) eq ∙ w.region.found in
      subst (λ q. Stays d h report c made t (record { state = state_at Running pc fp 1 stack nv log Armed words; said = Some (Entered q) })) (sym n) (
        record {
          region = w.region;
          attempt = record {
            before = report;
            tick = t;
            body = [];
            parts = refl;
            plain = tt;
            entry = entry_later d report c.kept made r saved nv log s;
            within = omega (arith, s.within, w.none);
            at = subst (λ n. IsAt d (kept_samples (report ++ item t (Entered r) ∷ [])) (marked (report ++ item t (Entered r) ∷ [])) n (core_at regs 1 nv)) none at;
          };
        },
        grown d report t (Entered r) tt h made c.kept (core_at regs 1 nv) a at (omega (arith, s.within)) (tt, tt) tt,
        sized,
      )

  restores_armed : (done : ℕ) (more : Bool) → IsUndone d report c made done pc fp stack nv log words → nat_lt done (held words) ≡ more
      → Stays d h report c made t (if more then restore_one d done (state_at (Restoring done) pc fp depth stack nv log Armed words) else resume d Armed
      (state_at (Restoring done) pc fp depth stack nv log Armed words))
  restores_armed done false s q =
      resumes s.waking s.same (all_restored d words s.waking.region.saved s.waking.region.is_saved done pc fp stack s.restored (ltb-false done (held words) q))
  restores_armed done true s q =
      let e = s.waking.entry in
      let g = s.waking.region in
      let f = continues.fits d _ _ c.kept (core_at g.saved 1 e.entry_nv) e.at in (
        record {
          waking = waking_later d report c made nv log words s.waking;
          same = s.same;
          restored =
              more_restored d words g.saved g.is_saved done pc fp stack s.restored (ltb-true done (held words) q) f;
        },
        honest_later d h report made a,
        sized,
      )

  pub undone_keeps : (done : ℕ) → IsUndone d report c made done pc fp stack nv log words → Stays d h report c made t (restore d done (state_at (Restoring done) pc fp depth stack nv log Armed words))
  undone_keeps done s = restores_armed done (nat_lt done (held words)) s refl
