-- How an answer to a task comes of its steps.
use Rattle.std.proofs.Common.{ℕ, suc, ◌≡◌, ◌≤◌, ◌<◌, ◌⊎◌, ◌∙◌, sym, ap, refl, subst, arith, inl, inr, List, [], ◌∷◌, length, Bool, Option, Some, None, true, true≢false}
use Rattle.oc_lex.specs.Limits.{source_limit}
use Rattle.oc_io.specs.Held.{Held}
use Rattle.oc_io.specs.declared.period.Period.{Period}
use Rattle.std.specs.Prelude.{codes, option_map, if◌then◌else◌}
use Rattle.oc_power.specs.Choice.{first_with}
use Rattle.oc_meters.specs.Tally.{Reading as Meter}
use Rattle.oc_sensors.specs.File.{sensor_file}
use Rattle.oc_sensors.specs.File as sensor_rows
use Rattle.oc_sensors.specs.History.{Told, history}
use Rattle.oc_isa.specs.Image.{Parts}
use Rattle.oc_isa.specs.Power.{power_run}
use Rattle.oc_isa.specs.Table.{device_of}
use Rattle.oc_machine.specs.Kept.{Running}
use Rattle.oc_outage.specs.Kept.{CountIsKept}
use Rattle.oc_outage.proofs.Enters.{device_fit}
use Rattle.oc_outage.proofs.Runs.{count_is_kept}
use Rattle.oc_bounds.specs.Attempts.{AttemptsClose}
use Rattle.oc_bounds.proofs.Attempting.{attempts_close}
use Rattle.oc_bounds.specs.Headway.{PeriodsKeep, RunEnds, Suffice}
use Rattle.oc_bounds.proofs.Sufficing.{periods_keep, run_ends}
use Rattle.oc_top.specs.Meant.{program_code, program_bounds}
use Rattle.oc_command.specs.Commands.{Plan, report, regions, listing, imaging, checking, auditing, executing, Task}
use Rattle.oc_command.specs.Commands.{Exec, Run, limits_of, meters_of, audit_limits, image_limit, run_limits, source_task, task_for, plans_of, word_at}
use Rattle.oc_tree.specs.Tree.{TProgram}
use Rattle.oc_command.specs.Files.{Files, AreFiles, Fetches, NotFetched, WereFetched, limit_at, listed, names_of}
use Rattle.oc_top.specs.Sources.{Reading, ReadsAs, faulty, breaks}
use Rattle.oc_top.specs.Printed.{IsPrinted, not_built, put}
use Rattle.oc_top.specs.Judged.{IsAudited, IsChecked, honest, not_audited, not_safe, safe}
use Rattle.oc_top.specs.Judged as judged
use Rattle.oc_report.specs.Runs.{RunFits, Verdict, runs, is_of_run, is_refusal, refuses, prints}
use Rattle.oc_top.specs.Verdict.{printed, regions_of, listing_of, image_of}
use Rattle.oc_top.specs.Headline.{IsHonestThroughout, IsReportedRun, IsRun, program_power}
use Rattle.oc_report.specs.Ready.{IsReadyFor}
use Rattle.oc_top.specs.Steps.{IsNotBuilt, IsReady, IsTurnedDown, by_memory, by_files}
use Rattle.oc_command.specs.Sinks.{Writes, TookNothing}
use Rattle.oc_report.specs.Written.{IsWritten, whole, in_part}
use Rattle.oc_top.specs.Answers.{IsVerdict, IsPrint, IsJudged, IsDone, IsDoneWhole}
use Rattle.oc_command.specs.Meters.{HasTold}
use Rattle.oc_top.specs.Answers.{Call, call_of, IsSilent, IsUnfetched, HasFiles, AreRefused, WasDone, IsWhole, Comes}
use Rattle.oc_command.specs.declared.command.SourceTask.{SourceTask}
use Rattle.oc_command.specs.declared.command.SourceTask.TheVariants as tasks
use Rattle.oc_command.specs.declared.answer.Answer.{Answer}
use Rattle.oc_command.specs.declared.answer.Answer.TheVariants as answer
use Rattle.oc_top.proofs.Exactly.{done_answer, whole_done}
use Rattle.oc_top.specs.Audited.{audited}
use Rattle.oc_top.proofs.Auditing.{audit_refuses, said_refuses, without_program}
use Rattle.oc_report.specs.Images.{IsAdmitted, IsNotRun}
use Rattle.oc_top.proofs.Checking.{check_refuses}
use Rattle.oc_report.proofs.Executing.{is_executed}
use Rattle.oc_top.proofs.Honesty.{honest_throughout}

-- what is ready is a run of the program that the source spells
unfoldable pub ready_run : (files : Files) (plan : Plan) (machine : Running) (sensors : Told) (left : List Period) → IsReady files plan machine sensors left
    → IsRun files plan (runs machine.parts sensors.rows left)
ready_run files plan machine sensors left r =
    let b = r.built in
    let honest = honest_throughout machine.parts b.written (history sensors.rows) left r.can_run.sound b.runs b.timely r.can_run.words in
    let bounds = program_bounds b.written in
    let fit = device_fit machine.parts in
    let attempts = attempts_close (device_of machine.parts) bounds (history sensors.rows) left fit b.bounded r.can_run.words in
    let keeps = periods_keep (device_of machine.parts) bounds (history sensors.rows) fit b.bounded r.can_run.words left in
    let ends = run_ends (device_of machine.parts) bounds (history sensors.rows) fit b.bounded r.can_run.words left in
    record {
      written = b.written;
      spelled = b.reads;
      rows = sensors.rows;
      sensed = subst (λ (i : Parts). sensor_file i.names.sensors files.sensors ≡ sensor_rows.readings sensors.rows) b.is_code r.sensed;
      periods = r.periods;
      powered = r.powered;
      is_run = ap (λ (i : Parts). runs i sensors.rows left) b.is_code ∙ ap (λ (ps : List Period). runs (program_code b.written) sensors.rows ps) r.planned;
      honest = subst (λ (ps : List Period). IsHonestThroughout b.written (history sensors.rows) (power_run (device_of (program_code b.written)) (history sensors.rows) ps).report
          (power_run (device_of (program_code b.written)) (history sensors.rows) ps).state.nv) r.planned
          (subst (λ (i : Parts). IsHonestThroughout b.written (history sensors.rows) (power_run (device_of i) (history sensors.rows) left).report
          (power_run (device_of i) (history sensors.rows) left).state.nv) b.is_code honest);
      attempts = subst (λ (ps : List Period). AttemptsClose bounds ps (program_power b.written sensors.rows ps).report) r.planned
          (subst (λ (i : Parts). AttemptsClose bounds left (power_run (device_of i) (history sensors.rows) left).report) b.is_code attempts);
      headway = subst (λ (ps : List Period). PeriodsKeep (device_of (program_code b.written)) bounds (history sensors.rows) ps) r.planned
          (subst (λ (i : Parts). PeriodsKeep (device_of i) bounds (history sensors.rows) left) b.is_code keeps);
      counts = subst (λ (i : Parts). (before : List Period) → CountIsKept (device_of i) (history sensors.rows) before) b.is_code
          (λ before. count_is_kept (device_of machine.parts) (history sensors.rows) fit r.can_run.words before r.can_run.sound);
      ends = subst (λ (ps : List Period). Suffice (device_of (program_code b.written)) bounds ps → RunEnds (device_of (program_code b.written)) (history sensors.rows) ps) r.planned
          (subst (λ (i : Parts). Suffice (device_of i) bounds left → RunEnds (device_of i) (history sensors.rows) left) b.is_code ends);
    }

-- where it fits its types and is written whole, it is the run of a report
pub reported_run : (files : Files) (plan : Plan) (machine : Running) (sensors : Told) (left : List Period) → IsReady files plan machine sensors left → length files.source ≤ source_limit
    → RunFits machine.parts sensors.rows left → IsReportedRun files plan (runs machine.parts sensors.rows left)
unfolding ready_run
reported_run files plan machine sensors left r short fits = record {
  is = ready_run files plan machine sensors left r;
  short = short;
  fits = subst (λ (ps : List Period). RunFits (program_code r.built.written) sensors.rows ps) r.planned
      (subst (λ (i : Parts). RunFits i sensors.rows left) r.built.is_code fits);
}

-- ---- causes

refusal : (c : Call) (told : List ℕ) (end : Answer) → is_refusal end ≡ true → AreRefused c told end → Comes c told end
refusal c told (answer.Syntax line) e r = r
refusal c told (answer.Rule line rule) e r = r
refusal c told (answer.BadSensors row) e r = r
refusal c told (answer.BadPower row) e r = r
refusal c told (answer.BadImage at) e r = r
refusal c told answer.Refused e r = r
refusal c told (answer.Dishonest item) e r = r
refusal c told (answer.BadReport line) e r = r
refusal c told (answer.Uncovered gap) e r = r
refusal c told end e r = cc e

whole_run : (c : Call) (told : List ℕ) (end : Answer) → is_of_run end ≡ true → WasDone c IsDoneWhole (IsWhole c told end) → Comes c told end
whole_run c told answer.End e w = w
whole_run c told answer.Trapped e w = w
whole_run c told answer.Dark e w = w
whole_run c told answer.Cut e w = w
whole_run c told end e w = cc e

abbrev silence : (c : Call) → TookNothing c.out → IsSilent c []
silence c t = record { unwritten = t; untold = refl }

module _ (c : Call) (task : Task) (asked : c.task ≡ Some task) where
  unfetched : (place file : ℕ) → place ≡ file → (cause : Held → (limit : ℕ) → Type 0) → place < length (limits_of task)
      → WereFetched c.shelf.holds c.words (limits_of task) place → c.shelf.asked (names_of c.words (limits_of task) (suc place))
      → cause (c.shelf.holds (word_at c.words place)) (limit_at (limits_of task) place) → TookNothing c.out → IsUnfetched c [] file cause
  unfetched place file e cause among before all_asked is_cause t =
      subst (λ (k : ℕ). IsUnfetched c [] k cause) e
      (record { task = task; is_task = asked; among = among; before = before; asked = all_asked; is_cause = is_cause; silent = silence c t })

  -- a file wasn't fetched
  pub not_fetched : (end : Answer) → NotFetched c.shelf c.words (limits_of task) end → TookNothing c.out → Comes c [] end
  not_fetched (answer.Unreadable file) n t = unfetched n.place file (sym n.refused.0) _ n.among n.before n.asked n.refused.1 t
  not_fetched (answer.TooLong file) n t = unfetched n.place file (sym n.refused.0) _ n.among n.before n.asked n.refused.1 t
  not_fetched answer.Memory n t = record { task = task; is_task = asked; count = suc n.place; few = n.among; asked = n.asked; silent = silence c t }
  not_fetched end n t = absurd n.refused

  module _ (files : List (List ℕ)) (fetched : AreFiles c.shelf.holds c.words (limits_of task) files)
      (all_asked : c.shelf.asked (names_of c.words (limits_of task) (length (limits_of task)))) where
    abbrev has_files : HasFiles c task files
    has_files = record { is_task = asked; are_files = fetched; asked = all_asked }

    pub no_memory : (end : Answer) → end ≡ answer.Memory → TookNothing c.out → Comes c [] end
    no_memory end e t =
        subst (λ (x : Answer). Comes c [] x) (sym e)
        (record { task = task; is_task = asked; count = length (limits_of task); few = omega arith; asked = all_asked; silent = silence c t })

    pub refused : (end : Answer) → is_refusal end ≡ true → IsJudged files task (refuses end) → TookNothing c.out → Comes c [] end
    refused end e j t = refusal c [] end e (record { task = task; files = files; fetched = has_files; judged = j; silent = silence c t })

    -- the task was done, and written in whole or in part; where it was written in whole, this is what the meters tell
    pub was_told : (told : List ℕ) (run : Verdict) → IsDone files task run → (end : Answer) → ((end ≡ answer.WriteFault → ⊥) → IsDoneWhole files task run)
        → ((end ≡ answer.WriteFault → ⊥) → HasTold run.items (meters_of task) told)
        → (end ≡ answer.WriteFault → told ≡ []) → IsWritten c.out run end → Comes c told end
    was_told told run d end all tells untold (whole e t) =
        let of_run = ap is_of_run e ∙ done_answer files task run d in
        let apart : end ≡ answer.WriteFault → ⊥ = λ fault. true≢false (sym of_run ∙ ap is_of_run fault) in
        whole_run c told end of_run
        (record { task = task; files = files; fetched = has_files; run = run; done = all apart; came = record { answered = e; written = t; tells = tells apart } })
    was_told told run d end all tells untold (in_part e p) =
        subst (λ (x : Answer). Comes c told x) (sym e)
        (record { task = task; files = files; fetched = has_files; run = run; done = d; came = record { written = p; untold = untold e } })

    -- the same without meters
    pub was_done : (run : Verdict) → IsDoneWhole files task run → (end : Answer) → meters_of task ≡ None → IsWritten c.out run end → Comes c [] end
    was_done run d end none w =
        was_told [] run (whole_done files task run d) end (λ apart. d) (λ apart. subst (λ (ms : Option (List Meter)). HasTold run.items ms []) (sym none) refl) (λ e. refl) w

module _ (c : Call) (plan : Plan) (meters : Option (List Meter)) (asked : c.task ≡ Some (report plan meters)) (files : Files)
    (fetched : AreFiles c.shelf.holds c.words (run_limits source_limit) (listed files)) (all_asked : c.shelf.asked (names_of c.words (run_limits source_limit) 3)) where
  pub turned_down : (end : Answer) → IsTurnedDown files plan end → TookNothing c.out → Comes c [] end
  turned_down end (by_memory e) t = no_memory c _ asked (listed files) fetched all_asked end e t
  turned_down end (by_files reading reads is v) t = refused c _ asked (listed files) fetched all_asked end is (record { reading = reading; reads = reads; is_verdict = v }) t

  module _ (machine : Running) (sensors : Told) (left : List Period) (ready : IsReady files plan machine sensors left) (end : Answer)
      (written : IsWritten c.out (runs machine.parts sensors.rows left) end) where
    -- a run was written, and this is what the meters tell of it
    pub was_metered : (told : List ℕ) → ((end ≡ answer.WriteFault → ⊥) → RunFits machine.parts sensors.rows left)
        → ((end ≡ answer.WriteFault → ⊥) → HasTold (runs machine.parts sensors.rows left).items meters told)
        → (end ≡ answer.WriteFault → told ≡ []) → Comes c told end
    was_metered told fits tells untold =
        let short : length files.source ≤ source_limit = (fetched.each 0 (omega arith)).within in
        was_told c _ asked (listed files) fetched all_asked told (runs machine.parts sensors.rows left) (ready_run files plan machine sensors left ready) end
        (λ apart. reported_run files plan machine sensors left ready short (fits apart)) tells untold written

-- ---- a source alone

-- the source of a task wasn't fetched
pub source_unfetched : (c : Call) (task : SourceTask) → c.task ≡ Some (source_task task) → (end : Answer) → NotFetched c.shelf c.words (source_limit ∷ []) end → TookNothing c.out
    → Comes c [] end
source_unfetched c tasks.Regions asked end n t = not_fetched c regions asked end n t
source_unfetched c tasks.Build asked end n t = not_fetched c listing asked end n t
source_unfetched c tasks.Image asked end n t = not_fetched c imaging asked end n t
source_unfetched c tasks.Check asked end n t = not_fetched c checking asked end n t

-- ---- its texts

-- why a source is refused is the verdict on it
refused_by : (source : List ℕ) (text : TProgram → List ℕ) (end : Answer) → IsNotBuilt source end
    → (end ≡ answer.Memory) ⊎ ((is_refusal end ≡ true) × ((reading : Reading) × ReadsAs source reading × (printed reading text ≡ refuses end)))
refused_by source text (answer.Syntax line) r = inr (refl, (faulty line, r, refl))
refused_by source text (answer.Rule line rule) r = inr (refl, (breaks (record { line = line; rule = rule }), r, refl))
refused_by source text answer.Memory r = inl refl
refused_by source text end r = absurd r

module _ (c : Call) (task : Task) (asked : c.task ≡ Some task) (source : List ℕ) (fetched : AreFiles c.shelf.holds c.words (limits_of task) (source ∷ []))
    (all_asked : c.shelf.asked (names_of c.words (limits_of task) (length (limits_of task)))) (text : TProgram → List ℕ)
    (is_judged : (run : Verdict) → IsVerdict source (λ reading. printed reading text) run → IsJudged (source ∷ []) task run)
    (is_done : (run : Verdict) → IsPrint source text run → IsDoneWhole (source ∷ []) task run) (none : meters_of task ≡ None) (end : Answer) where
  -- a text of the program was printed, or the source is refused
  text_comes : IsPrinted source text c.out end → Comes c [] end
  text_comes (not_built n t) = elim (refused_by source text end n) [
    | inl e ↦ no_memory c task asked (source ∷ []) fetched all_asked end e t
    | inr f ↦ refused c task asked (source ∷ []) fetched all_asked end f.0 (is_judged _ (record { reading = f.1.0; reads = f.1.1; is_verdict = f.1.2 })) t
  ]
  text_comes (put p reads w) = was_done c task asked (source ∷ []) fetched all_asked (prints (text p)) (is_done _ (record { written = p; spelled = reads; is_text = refl })) end none w

module _ (c : Call) (source : List ℕ) (fetched : AreFiles c.shelf.holds c.words (source_limit ∷ []) (source ∷ []))
    (all_asked : c.shelf.asked (names_of c.words (source_limit ∷ []) 1)) (end : Answer) where
  pub regions_come : c.task ≡ Some regions → IsPrinted source regions_of c.out end → Comes c [] end
  regions_come asked w = text_comes c _ asked source fetched all_asked regions_of (λ run j. j) (λ run d. d) refl end w

  pub listing_comes : c.task ≡ Some listing → IsPrinted source listing_of c.out end → Comes c [] end
  listing_comes asked w = text_comes c _ asked source fetched all_asked listing_of (λ run j. j) (λ run d. d) refl end w

  pub image_comes : c.task ≡ Some imaging → IsPrinted source image_of c.out end → Comes c [] end
  image_comes asked w = text_comes c _ asked source fetched all_asked image_of (λ run j. j) (λ run d. d) refl end w

-- ---- blocks

module _ (c : Call) (source : List ℕ) (fetched : AreFiles c.shelf.holds c.words (source_limit ∷ []) (source ∷ []))
    (all_asked : c.shelf.asked (names_of c.words (source_limit ∷ []) 1)) (end : Answer) where
  pub checking_comes : c.task ≡ Some checking → IsChecked source c.out end → Comes c [] end
  checking_comes asked (not_safe (inl e) t) = no_memory c _ asked (source ∷ []) fetched all_asked end e t
  checking_comes asked (not_safe (inr j) t) = refused c _ asked (source ∷ []) fetched all_asked end (check_refuses source end j) j t
  checking_comes asked (safe e w) = was_done c _ asked (source ∷ []) fetched all_asked (prints (codes "safe\n")) (record { enough = e; is_run = refl }) end refl w

-- ---- audits

module _ (c : Call) (source report : List ℕ) (fetched : AreFiles c.shelf.holds c.words audit_limits (source ∷ report ∷ []))
    (all_asked : c.shelf.asked (names_of c.words audit_limits 2)) (end : Answer) where
  pub auditing_comes : c.task ≡ Some auditing → IsAudited source report c.out end → Comes c [] end
  auditing_comes asked (not_audited n t) = elim (without_program source report end n) [
    | inl e ↦ no_memory c _ asked (source ∷ report ∷ []) fetched all_asked end e t
    | inr j ↦ refused c _ asked (source ∷ report ∷ []) fetched all_asked end (audit_refuses source report end j) j t
  ]
  auditing_comes asked (judged.refused f found e t) =
      refused c _ asked (source ∷ report ∷ []) fetched all_asked end (said_refuses f end e) (audited f found (sym e)) t
  auditing_comes asked (honest f w) = was_done c _ asked (source ∷ report ∷ []) fetched all_asked (prints (codes "honest\n")) (record { honest = f; is_run = refl }) end refl w

-- ---- images

module _ (c : Call) (plan : Plan) (asked : c.task ≡ Some (executing plan)) (files : Files)
    (fetched : AreFiles c.shelf.holds c.words (run_limits image_limit) (listed files)) (all_asked : c.shelf.asked (names_of c.words (run_limits image_limit) 3))
    (end : Answer) where
  pub not_executed : IsNotRun files plan end → TookNothing c.out → Comes c [] end
  not_executed (inl e) t = no_memory c _ asked (listed files) fetched all_asked end e t
  not_executed (inr r) t = refused c _ asked (listed files) fetched all_asked end r.0 r.1 t

  pub was_executed : (machine : Running) (sensors : Told) (left : List Period) → IsReadyFor (IsAdmitted files.source) files plan machine sensors left
      → IsWritten c.out (runs machine.parts sensors.rows left) end → Comes c [] end
  was_executed machine sensors left ready w =
      was_done c _ asked (listed files) fetched all_asked (runs machine.parts sensors.rows left) (is_executed files plan machine sensors left ready) end refl w

-- ---- tasks

module _ {B : Type 0} (boxes : List B) (number : B → ℕ) (plan : B → Plan) (meters : List Meter) (files : List (List ℕ)) where
  -- a run is asked for with the supply that was chosen, or nothing is
  pub run_is : (supply : ℕ) (metered : Bool) (chosen : Option (List Meter)) (box : Option B) → chosen ≡ (if metered then Some meters else None)
      → box ≡ first_with number supply boxes → option_map (λ p. report p chosen) (option_map plan box) ≡ task_for (plans_of number plan boxes) meters (Run supply metered files)
  run_is supply metered chosen box m p =
      ap (λ (ms : Option (List Meter)). option_map (λ p. report p ms) (option_map plan box)) m
      ∙ ap (λ (o : Option B). option_map (λ q. report q (if metered then Some meters else None)) (option_map plan o)) p

  -- the same of an image
  pub image_is : (box : Option B) → box ≡ first_with number 0 boxes → option_map executing (option_map plan box) ≡ task_for (plans_of number plan boxes) meters (Exec files)
  image_is box p = ap (λ (o : Option B). option_map executing (option_map plan o)) p

-- the same call for what is asked
pub comes_for : (words : List (List ℕ)) (task other : Option Task) (shelf : Fetches) (out : Writes) (told : List ℕ) (end : Answer) → task ≡ other
    → Comes (call_of words task shelf out) told end → Comes (call_of words other shelf out) told end
comes_for words task other shelf out told end e h = subst (λ (t : Option Task). Comes (call_of words t shelf out) told end) e h

-- where nothing is asked for, no file is, and nothing is written
pub comes_none : (c : Call) → c.task ≡ None → c.shelf.asked [] → TookNothing c.out → Comes c [] answer.Usage
comes_none c none asked silent = record { none = none; asked = asked; silent = silence c silent }
