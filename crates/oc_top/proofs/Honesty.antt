-- Reports of written programs are honest.
use Rattle.std.proofs.Common.{ℕ, ◌≤◌, ◌≡◌, ◌∙◌, sym, subst, refl, ℤ, List, [], ◌++◌, map, Some, None, append-nil, true, false, ap, arith, max}
use Rattle.std.specs.Prelude.{if◌then◌else◌}
use Rattle.oc_io.specs.declared.period.Period.{Period}
use Rattle.oc_tree.specs.Tree.{TProgram}
use Rattle.oc_tree.specs.Said.{Told}
use Rattle.oc_tree.specs.Word.{is_word}
use Rattle.oc_tree.specs.declared.said.Said.{Said}
use Rattle.oc_tree.specs.declared.said.Said.TheVariants.{Ended}
use Rattle.oc_tree.specs.declared.said.Ending.{Ending}
use Rattle.oc_tree.specs.declared.said.Ending.TheVariants.{Halted, Trapped}
use Rattle.oc_tree.specs.Expansion.{expansion}
use Rattle.oc_isa.specs.Image.{Parts}
use Rattle.oc_isa.specs.Power.{power_run}
use Rattle.oc_isa.specs.Run.{IsSound}
use Rattle.oc_isa.specs.Table.{device_of}
use Rattle.oc_items.specs.Erase.{erase, marked, without_marks, kept, kept_samples, HasNoOffInside}
use Rattle.oc_items.specs.Text.{ends, is_over}
use Rattle.oc_items.specs.Told.{item_of}
use Rattle.oc_items.specs.Reports.{IsPrefixOf, EndsWith}
use Rattle.oc_outage.specs.Honest.{AreRead, all_on}
use Rattle.oc_outage.proofs.Enters.{device_fit}
use Rattle.oc_outage.proofs.Growing.{marked_ended}
use Rattle.oc_outage.proofs.Lasting.{over_exactly}
use Rattle.oc_outage.proofs.Ending.{ends_whole}
use Rattle.oc_outage.proofs.Runs.{every_prefix_later, over_is_whole}
use Rattle.oc_honest.specs.Honest.{IsWhole, IsHonest}
use Rattle.oc_honest.specs.Timely.{RunsAreTimely}
use Rattle.oc_honest.proofs.Shorts.{ended_not_short}
use Rattle.oc_top.specs.Meant.{RunsAs, program_marked, program_said, plain_run, plain_said}
use Rattle.oc_top.specs.Headline.{reported, IsWholeRun, IsHonestThroughout}
use Rattle.oc_report.proofs.Stopping.{over_is}
use Rattle.oc_top.proofs.Unmarking.{plain_is, same_words, prefix_unmarked}

later_left : (a b : ℕ) → a ≤ max a b
later_left a b = omega arith

later_right : (a b : ℕ) → b ≤ max a b
later_right a b = omega arith

ends_by : (how : Ending) (tick : ℕ) → ends (item_of (record { tick = tick; said = Ended how })) ≡ true
ends_by Halted tick = refl
ends_by (Trapped kind stmt) tick = refl

module _ (parts : Parts) (p : TProgram) (h : ℕ → ℕ → ℤ) (periods : List Period) (sound : IsSound (device_of parts)) (runs_as : RunsAs parts p)
    (timely : RunsAreTimely (program_marked p)) (words : (sensor tick : ℕ) → is_word (h sensor tick) ≡ true) where
  abbrev report : List Told
  report = (power_run (device_of parts) h periods).report

  abbrev words_left : List ℤ
  words_left = (power_run (device_of parts) h periods).state.nv

  read : AreRead h report
  read = (every_prefix_later (device_of parts) h (device_fit parts) words periods report [] (all_on periods) (omega arith) sound (append-nil report)).read

  front_said : (front rest : List Told) → front ++ rest ≡ report → IsPrefixOf (marked front) (program_said p (kept_samples front)) × HasNoOffInside false (erase front)
  front_said front rest e =
      let run = runs_as (kept_samples front) in
      let n = max (all_on periods) run.0 in
      let late = every_prefix_later (device_of parts) h (device_fit parts) words periods front rest n (later_left (all_on periods) run.0) sound e in
      (subst (λ (all : List Said). IsPrefixOf (marked front) all) (run.1 n (later_right (all_on periods) run.0)).0 late.said, late.outside)

  front_shown : (front rest : List Told) → front ++ rest ≡ report → IsPrefixOf (kept front) (plain_said p (kept_samples front))
  front_shown front rest e =
      subst (λ (all : List Said). IsPrefixOf (kept front) all) (sym (plain_is p (kept_samples front)))
      (prefix_unmarked (marked front) (program_said p (kept_samples front)) (front_said front rest e).0)

  whole : (how : Ending) → EndsWith report (Ended how) → (marked report ≡ program_said p (kept_samples report)) × (words_left ≡ (plain_run p (kept_samples report)).nv)
  whole how e =
      let w = over_is_whole (device_of parts) h (device_fit parts) words periods how sound ((over_exactly (device_of parts) h periods how).1 e) in
      let run = runs_as (kept_samples report) in
      let n = max (all_on periods) run.0 in
      let shown = run.1 n (later_right (all_on periods) run.0) in (
        sym (w.said n (later_left (all_on periods) run.0)) ∙ shown.0,
        sym (w.left n (later_left (all_on periods) run.0)) ∙ shown.1,
      )

  report_whole : (how : Ending) → EndsWith report (Ended how) → IsWhole (expansion p) (program_marked p).regions report (reported report words_left).nv
  report_whole how e =
      let w = whole how e in
      let last = marked_ended report how e in
      let over : is_over (map item_of report) ≡ true = over_is report (Ended how) true e (ends_by how) in
      record {
        said = w.0;
        over = ended_not_short (expansion p) (program_marked p).regions (kept_samples report) last.0 how (sym w.0 ∙ last.1);
        left = ap (λ b. if b then Some words_left else None) over ∙ ap (λ l. Some l) w.1;
      }

  -- a prefix that ends so is the whole report
  front_all : (how : Ending) (front rest : List Told) → front ++ rest ≡ report → EndsWith front (Ended how) → (rest ≡ []) × (front ≡ report)
  front_all how front rest e f =
      let none = ends_whole (device_of parts) h periods front rest how e f in
      (none, sym (append-nil front) ∙ ap (λ (r : List Told). front ++ r) (sym none) ∙ e)

  front_honest : IsHonest (expansion p) (program_marked p).regions (reported report words_left)
  front_honest front rest e =
      let f = front_said front rest e in
      record {
        said = f.0;
        outside = f.1;
        timely = timely (kept_samples front) (erase front) (record { rest = f.0.0; is = f.0.1; outside = f.1 });
        whole = λ how at.
            let all = front_all how front rest e at in
            subst (λ (r : List Told). IsWhole (expansion p) (program_marked p).regions r (reported report words_left).nv) (sym all.1)
            (report_whole how (subst (λ (r : List Told). EndsWith r (Ended how)) all.1 at));
      }

  front_whole : (how : Ending) (front rest : List Told) → front ++ rest ≡ report → EndsWith front (Ended how) → (rest ≡ []) × IsWholeRun p front words_left
  front_whole how front rest e at =
      let all = front_all how front rest e at in
      let w = whole how (subst (λ (r : List Told). EndsWith r (Ended how)) all.1 at) in (
        all.0,
        subst (λ (r : List Told). IsWholeRun p r words_left) (sym all.1) (record {
          shown = ap without_marks w.0 ∙ sym (plain_is p (kept_samples report));
          left = w.1 ∙ sym (same_words p (kept_samples report));
          left_plain = w.1;
        }),
      )

  pub honest_throughout : IsHonestThroughout p h report words_left
  honest_throughout = record { honest = front_honest; shown = front_shown; read = read; whole = front_whole }
