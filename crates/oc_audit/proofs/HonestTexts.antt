-- The text of an honest report is found to be honest.
use Rattle.std.proofs.Common.{◌≡◌, ℕ, List, [], ◌∷◌, map, refl, ap, sym, ◌∙◌}
use Rattle.std.specs.Prelude.{Some, None, if◌then◌else◌}
use Rattle.oc_tree.specs.Said.{Told}
use Rattle.oc_tree.specs.declared.said.Said.{Said}
use Rattle.oc_tree.specs.declared.said.Said.TheVariants as said
use Rattle.oc_tree.specs.declared.said.Shown.TheVariants as shown
use Rattle.oc_tree.specs.declared.said.Ending.TheVariants as ending
use Rattle.oc_items.specs.Text.{full_text, is_over}
use Rattle.oc_items.specs.Told.{item_of, told_of, said_at}
use Rattle.oc_honest.specs.Honest.{TReport}
use Rattle.oc_audit.specs.Findings.{IsFinding, HonestTexts, report_of}
use Rattle.oc_audit.specs.declared.audit.Finding.TheVariants as finding
use Rattle.oc_audit.proofs.OneFinding.{one_finding}
use Rattle.oc_audit.proofs.Program.{programs_back}

back_at : (n : ℕ) (s : Said) → told_of (said_at n s) ≡ record { tick = n; said = s }
back_at n (said.Sensed q z) = refl
back_at n (said.Showed (shown.Emitted q z)) = refl
back_at n (said.Showed (shown.Used k)) = refl
back_at n (said.Showed (shown.Finished k)) = refl
back_at n (said.Showed (shown.Tagged k)) = refl
back_at n (said.Entered r) = refl
back_at n (said.Committed r) = refl
back_at n (said.Aborted r) = refl
back_at n (said.Off k) = refl
back_at n said.Dark = refl
back_at n (said.Ended ending.Halted) = refl
back_at n (said.Ended (ending.Trapped k j)) = refl

told_back : (t : Told) → told_of (item_of t) ≡ t
told_back t = back_at t.tick t.said

all_back : (ts : List Told) → map told_of (map item_of ts) ≡ ts
all_back [] = refl
all_back (t ∷ ts) = ap (λ u. u ∷ map told_of (map item_of ts)) (told_back t) ∙ ap (λ us. t ∷ us) (all_back ts)

pub honest_texts : HonestTexts
honest_texts m is told words each count fit honest = (found, λ f g. one_finding m is (full_text m.program.names (map (λ d. d.words) m.program.nv) (map item_of told) words) f finding.Honest g found)
  where
    found : IsFinding m.program m.regions (full_text m.program.names (map (λ d. d.words) m.program.nv) (map item_of told) words) finding.Honest
    found = (
      report_of told words,
      record {
        items = map item_of told;
        nv = if is_over (map item_of told) then Some words else None;
        file = (programs_back m.program m.groups is.checked (map item_of told) words each count fit).spells;
        is = ap (λ ts. report_at ts) (sym (all_back told));
      },
      honest,
    )
      where
        report_at : List Told → TReport
        report_at ts = record { items = ts; nv = if is_over (map item_of told) then Some words else None }
