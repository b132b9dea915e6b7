-- Facts about a report, later and with one more item.
use Rattle.std.proofs.Common.{◌≡◌, ℕ, suc, ◌≤◌, ℤ, List, [], ◌∷◌, ◌++◌, None, refl, sym, ap, ◌∙◌, subst, ⊎_elim, arith, append-nil, false}
use Rattle.oc_tree.specs.Said.{Told}
use Rattle.oc_tree.specs.declared.said.Ending.{Ending}
use Rattle.oc_tree.specs.declared.said.Said.{Said}
use Rattle.oc_tree.specs.declared.said.Said.TheVariants.{Entered, Off, Dark, Ended}
use Rattle.oc_undo.specs.declared.Entry.{Entry}
use Rattle.oc_isa.specs.Next.{Regs, Ends, Device}
use Rattle.oc_isa.specs.Run.{Core, Ran, core_at, stops, continuous_run}
use Rattle.oc_items.specs.Erase.{mark_or, erase, marked, kept_samples, HasNoOffInside, IsOutside}
use Rattle.oc_outage.specs.Honest.{IsRead, IsHonest, IsWhole}
use Rattle.oc_items.specs.Reports.{IsPrefixOf}
use Rattle.oc_outage.proofs.Erasing.{item}
use Rattle.oc_items.proofs.Joined.{NoAbort}
use Rattle.oc_outage.proofs.Growing.{inside, marked_more, samples_more, inside_more, outside_more, read_more, prefix_last}
use Rattle.oc_outage.proofs.Continues.{IsAt, said_by, ends}
use Rattle.oc_outage.proofs.Facts.{IsSettled, IsEntry, IsEnded, AreHonest}

-- more steps
module _ (d : Device) (report : List Told) (k made : ℕ) where
  pub settled_later : (regs : Regs) (nv : List ℤ) → IsSettled d report k made regs nv → IsSettled d report k (suc made) regs nv
  settled_later regs nv s = record { within = omega arith; at = s.at; closed = s.closed }

  abbrev pub entry_later : (r : ℕ) (saved : Regs) (nv : List ℤ) (log : List Entry) → IsEntry d report k made r saved nv log → IsEntry d report k (suc made) r saved nv log
  entry_later r saved nv log s = record { within = omega arith; entry_nv = s.entry_nv; undoes = s.undoes; at = s.at; closed = s.closed }

  pub ended_later : (nv : List ℤ) → IsEnded d report k made nv → IsEnded d report k (suc made) nv
  ended_later nv e = record { within = omega (arith, e.within); whole = e.whole }

  pub whole_within : (nv : List ℤ) → IsEnded d report k made nv → IsWhole d made report nv
  whole_within nv e = record { said = λ n le. e.whole.said n (omega (arith, e.within, le)); left = λ n le. e.whole.left n (omega (arith, e.within, le)) }

-- one more item
module _ (d : Device) (h : ℕ → ℕ → ℤ) (report : List Told) (made : ℕ) where
  pub honest_later : AreHonest d h made report → AreHonest d h (suc made) report
  honest_later a = record { each = λ q rest e n le. a.each q rest e n (omega arith) }

  -- the report itself
  pub honest_all : AreHonest d h made report → (n : ℕ) → made ≤ n → IsHonest d h n report
  honest_all a n le = a.each report [] (append-nil report) n le

  pub honest_more : (t : ℕ) (s : Said) → AreHonest d h made report → ((n : ℕ) → made ≤ n → IsHonest d h n (report ++ item t s ∷ [])) → AreHonest d h made (report ++ item t s ∷ [])
  honest_more t s a new = record {
    each = λ q rest e n le.
        ⊎_elim
        (λ w. subst (IsHonest d h n) (sym w) (new n le))
        (λ p. a.each q p.0 p.1 n le)
        (prefix_last q rest report (item t s) e);
  }

module _ (d : Device) (report : List Told) (t : ℕ) (s : Said) (unaborted : NoAbort (mark_or s None)) where
  -- what the report leads to, where it got one more item
  pub at_more : (samples : List ℤ) (out : List Said) (m : ℕ) (c : Core) → samples ≡ kept_samples report ++ kept_samples (item t s ∷ [])
      → out ≡ marked report ++ marked (item t s ∷ []) → IsAt d samples out m c → IsAt d (kept_samples (report ++ item t s ∷ [])) (marked (report ++ item t s ∷ [])) m c
  at_more samples out m c ev eo a =
      subst (λ v. IsAt d v (marked (report ++ item t s ∷ [])) m c) (ev ∙ sym (samples_more report t s unaborted))
      (subst (λ o. IsAt d samples o m c) (eo ∙ sym (marked_more report t s unaborted)) a)

  pub settled_more : (made m : ℕ) (regs : Regs) (nv : List ℤ) → IsAt d (kept_samples (report ++ item t s ∷ [])) (marked (report ++ item t s ∷ [])) m (core_at regs 0 nv) → m ≤ made
      → inside (inside false (erase report)) (erase (item t s ∷ [])) ≡ false → IsSettled d (report ++ item t s ∷ []) m made regs nv
  settled_more made m regs nv a le c = record { within = le; at = a; closed = inside_more report t s unaborted ∙ c }

  pub grown : (h : ℕ → ℕ → ℤ) (made m : ℕ) (c : Core) → AreHonest d h made report → IsAt d (kept_samples (report ++ item t s ∷ [])) (marked (report ++ item t s ∷ [])) m c
      → m ≤ suc made → HasNoOffInside (inside false (erase report)) (erase (item t s ∷ [])) → IsRead h t s → AreHonest d h (suc made) (report ++ item t s ∷ [])
  grown h made m c a at le o rd =
      let whole = honest_all d h report made a made (omega arith) in
      honest_more d h report (suc made) t s (honest_later d h report made a)
      (λ n le'. record {
        said = said_by d _ _ m c at n (omega arith);
        outside = outside_more report t s unaborted whole.outside o;
        read = read_more h report t s whole.read rd;
      })

-- the last item of a run that ends by itself
module _ (d : Device) (report : List Told) (made t m : ℕ) (c : Core) (how : Ending) (at : IsAt d (kept_samples report) (marked report) m c) (within : m ≤ made)
    (next : d.next c.regs c.nv ≡ Ends how) where
  run-ended : (n : ℕ) → suc m ≤ n → continuous_run d (kept_samples (report ++ item t (Ended how) ∷ [])) n ≡ stops c (marked (report ++ item t (Ended how) ∷ []))
  run-ended n le =
      ap (λ v. continuous_run d v n) (samples_more report t (Ended how) tt ∙ append-nil (kept_samples report))
      ∙ ends d (kept_samples report) (marked report) m c how at next n le
      ∙ ap (stops c) (sym (marked_more report t (Ended how) tt))

  pub ended_whole : IsEnded d (report ++ item t (Ended how) ∷ []) (suc m) (suc made) c.nv
  ended_whole = record {
    within = omega (arith, within);
    whole = record { said = λ n le. ap (λ (r : Ran). r.out) (run-ended n le); left = λ n le. ap (λ (r : Ran). r.core.nv) (run-ended n le) };
  }

  pub ended_honest : (h : ℕ → ℕ → ℤ) → AreHonest d h made report → AreHonest d h (suc made) (report ++ item t (Ended how) ∷ [])
  ended_honest h a =
      let whole = honest_all d h report made a made (omega arith) in
      honest_more d h report (suc made) t (Ended how) (honest_later d h report made a)
      (λ n le. record {
        said = ([], append-nil _ ∙ sym (ap (λ (r : Ran). r.out) (run-ended n (omega (arith, within, le)))));
        outside = outside_more report t (Ended how) tt whole.outside (tt, tt);
        read = read_more h report t (Ended how) whole.read tt;
      })

-- an `off` or `dark` changes nothing of what is kept
module _ (report : List Told) (t : ℕ) (s : Said) (unaborted : NoAbort (mark_or s None)) where
  pub same_samples : kept_samples (item t s ∷ []) ≡ [] → kept_samples report ≡ kept_samples (report ++ item t s ∷ [])
  same_samples e = sym (append-nil _) ∙ ap (λ l. kept_samples report ++ l) (sym e) ∙ sym (samples_more report t s unaborted)

  pub same_marked : marked (item t s ∷ []) ≡ [] → marked report ≡ marked (report ++ item t s ∷ [])
  same_marked e = sym (append-nil _) ∙ ap (λ l. marked report ++ l) (sym e) ∙ sym (marked_more report t s unaborted)

module _ (d : Device) (h : ℕ → ℕ → ℤ) (report : List Told) (made t : ℕ) where
  outage_honest : (s : Said) → NoAbort (mark_or s None) → marked (item t s ∷ []) ≡ [] → kept_samples (item t s ∷ []) ≡ []
      → HasNoOffInside (inside false (erase report)) (erase (item t s ∷ [])) → IsRead h t s → AreHonest d h made report → AreHonest d h made (report ++ item t s ∷ [])
  outage_honest s unaborted em es o rd a =
      let kept = same_samples report t s unaborted es in
      let said = same_marked report t s unaborted em in
      honest_more d h report made t s a
      (λ n le.
      let w = honest_all d h report made a n le in
      record {
        said = subst (λ v. IsPrefixOf (marked (report ++ item t s ∷ [])) ((continuous_run d v n).out)) kept (subst (λ o. IsPrefixOf o ((continuous_run d (kept_samples report) n).out)) said w.said);
        outside = outside_more report t s unaborted w.outside o;
        read = read_more h report t s w.read rd;
      })

  pub off_honest : (off : ℕ) → AreHonest d h made report → inside false (erase report) ≡ false → AreHonest d h made (report ++ item t (Off off) ∷ [])
  off_honest off a closed = outage_honest (Off off) tt refl refl (subst IsOutside (sym closed) tt, tt) tt a

  pub dark_honest : AreHonest d h made report → AreHonest d h made (report ++ item t Dark ∷ [])
  dark_honest a = outage_honest Dark tt refl refl (tt, tt) tt a

module _ (d : Device) (report : List Told) (k made t off : ℕ) where
  pub settled_off : (regs : Regs) (nv : List ℤ) → IsSettled d report k made regs nv → IsSettled d (report ++ item t (Off off) ∷ []) k made regs nv
  settled_off regs nv s =
      settled_more d report t (Off off) tt made k regs nv
      (at_more d report t (Off off) tt _ _ k (core_at regs 0 nv) (sym (append-nil (kept_samples report))) (sym (append-nil (marked report))) s.at) s.within s.closed

  pub entry_off : (r : ℕ) (saved : Regs) (nv : List ℤ) (log : List Entry) → IsEntry d report k made r saved nv log → IsEntry d (report ++ item t (Off off) ∷ []) k made r saved nv log
  entry_off r saved nv log s = record {
    within = s.within;
    entry_nv = s.entry_nv;
    undoes = s.undoes;
    at =
        subst (λ v. IsAt d v (marked (report ++ item t (Off off) ∷ []) ++ Entered r ∷ []) k (core_at saved 1 s.entry_nv))
        (sym (append-nil (kept_samples report)) ∙ sym (samples_more report t (Off off) tt))
        (subst (λ o. IsAt d (kept_samples report) (o ++ Entered r ∷ []) k (core_at saved 1 s.entry_nv)) (sym (append-nil (marked report)) ∙ sym (marked_more report t (Off off) tt)) s.at);
    closed = inside_more report t (Off off) tt ∙ s.closed;
  }
