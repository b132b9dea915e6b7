-- What a call does, from its answer and that answer's cause; and where its periods suffice a run ends by itself.
use Rattle.std.proofs.Common.{ℕ, ◌≡◌, ◌⊎◌, ◌∙◌, sym, ap, refl, subst, inl, inr, ℤ, List, [], ◌∷◌, ◌++◌, Bool, true, false, Option, Some}
use Rattle.oc_io.specs.declared.period.Period.{Period}
use Rattle.oc_power.specs.Power.{Power, power_file}
use Rattle.oc_power.specs.Power as power_rows
use Rattle.oc_sensors.specs.declared.sensors.Row.{Row}
use Rattle.oc_sensors.specs.File.{Readings, sensor_file}
use Rattle.oc_sensors.specs.File as sensor_rows
use Rattle.oc_sensors.specs.History.{history}
use Rattle.oc_tree.specs.Tree.{TProgram}
use Rattle.oc_tree.specs.declared.said.Ending.{Ending}
use Rattle.oc_tree.specs.declared.said.Ending.TheVariants.{Halted, Trapped}
use Rattle.oc_isa.specs.Table.{device_of}
use Rattle.oc_isa.specs.declared.phase.Phase.TheVariants.{Over}
use Rattle.oc_bounds.specs.Headway.{Suffice}
use Rattle.oc_top.specs.Meant.{program_code, program_bounds}
use Rattle.oc_meters.specs.Tally.{Reading}
use Rattle.oc_command.specs.Commands.{Plan, report, limits_of, Task}
use Rattle.oc_command.specs.Files.{Files, AreFiles, AreHeld, run_files}
use Rattle.oc_top.specs.Sources.{program, ReadsAs}
use Rattle.oc_report.specs.Reports.{answer_of}
use Rattle.oc_report.specs.Runs.{Verdict, is_of_run, with_sensors}
use Rattle.oc_top.specs.Verdict.{verdict}
use Rattle.oc_top.specs.Headline.{IsRun}
use Rattle.oc_command.specs.Sinks.{Writes, TookAll, TookFront}
use Rattle.oc_command.specs.Statuses.{status_of, is_written, line_of}
use Rattle.oc_top.specs.Answers.{IsJudged, IsDone, Call, HasFiles, Comes}
use Rattle.oc_top.specs.Works.{Works}
use Rattle.oc_command.specs.declared.answer.Answer.{Answer}
use Rattle.oc_command.specs.declared.answer.Answer.TheVariants as answer
use Rattle.oc_top.proofs.OneReading.{one_reading, same_tree}
use Rattle.oc_top.proofs.Exactly.{of_run, same_files, the_task, exactly, missing, long, no_task, usage, quiet, whole_done}

-- ---- the answer to a run that ends by itself

by_ending : (how : Ending) → (answer_of (Over how) ≡ answer.End) ⊎ (answer_of (Over how) ≡ answer.Trapped)
by_ending Halted = inl refl
by_ending (Trapped kind stmt) = inr refl

run_ends : (files : Files) (plan : Plan) (run : Verdict) (r : IsRun files plan run) → Suffice (device_of (program_code r.written)) (program_bounds r.written) (plan r.periods)
    → (run.answer ≡ answer.End) ⊎ (run.answer ≡ answer.Trapped)
run_ends files plan run r suffice =
    let over = r.ends suffice in
    let e : run.answer ≡ answer_of (Over over.0) = ap (λ (v : Verdict). v.answer) r.is_run ∙ ap answer_of over.1 in
    elim (by_ending over.0) [ inl x ↦ inl (e ∙ x) | inr x ↦ inr (e ∙ x) ]

same_periods : (a b : List Period) → power_rows.periods a ≡ power_rows.periods b → a ≡ b
same_periods a b e = cc

-- ---- enough

module _ (c : Call) (told : List ℕ) (task : Task) (asked : c.task ≡ Some task) (plan : Plan) (meters : Option (List Reading)) (is_report : task ≡ report plan meters)
    (files : List (List ℕ)) (held : AreHeld c.shelf.holds c.words (limits_of task) files)
    (p : TProgram) (reads : ReadsAs (run_files files).source (program p)) (rows : List Row) (sensed : sensor_file p.names.sensors (run_files files).sensors ≡ sensor_rows.readings rows)
    (periods : List Period) (powered : power_file (run_files files).power ≡ power_rows.periods periods)
    (suffice : Suffice (device_of (program_code p)) (program_bounds p) (plan periods)) where
  -- a run of these files ends by itself
  ends : (found : List (List ℕ)) (run : Verdict) → found ≡ files → IsRun (run_files found) plan run → (run.answer ≡ answer.End) ⊎ (run.answer ≡ answer.Trapped)
  ends found run there r =
      let written = same_tree r.written p
      (one_reading (run_files files).source (program r.written) (program p) (subst (λ (f : List (List ℕ)). ReadsAs (run_files f).source (program r.written)) there r.spelled) reads) in
      let periods_are = same_periods r.periods periods (sym r.powered ∙ ap (λ (f : List (List ℕ)). power_file (run_files f).power) there ∙ powered) in
      run_ends (run_files found) plan run r
      (subst (λ (q : TProgram). Suffice (device_of (program_code q)) (program_bounds q) (plan r.periods)) (sym written)
      (subst (λ (ps : List Period). Suffice (device_of (program_code p)) (program_bounds p) (plan ps)) (sym periods_are) suffice))

  done_ends : (other : Task) (found : List (List ℕ)) (run : Verdict) → HasFiles c other found → IsDone found other run → (run.answer ≡ answer.End) ⊎ (run.answer ≡ answer.Trapped)
  done_ends other found run f done =
      let same = the_task c told task asked other f.is_task in
      let are : AreFiles c.shelf.holds c.words (limits_of task) found =
      subst (λ (t : Task). AreFiles c.shelf.holds c.words (limits_of t) found) same f.are_files in
      let run_is : IsRun (run_files found) plan run = subst (λ (t : Task). IsDone found t run) (same ∙ is_report) done in
      ends found run (same_files c.shelf.holds c.words (limits_of task) files found held are) run_is

  -- the verdict on these files
  abbrev on : Verdict
  on = verdict (program p) (run_files files) plan

  judged : IsJudged files task on
  judged = subst (λ (t : Task). IsJudged files t on) (sym is_report) (record { reading = program p; reads = reads; is_verdict = refl })

  of_on : is_of_run on.answer ≡ true
  of_on =
      ap (λ (s : Readings). is_of_run (with_sensors (program_code p) s (power_file (run_files files).power) plan).answer) sensed
      ∙ ap (λ (s : Power). is_of_run (with_sensors (program_code p) (sensor_rows.readings rows) s plan).answer) powered
      ∙ of_run (program_code p) (history rows) (plan periods)

  by_answer : (end : Answer) → is_of_run end ≡ true → Comes c told end → (status_of end ≡ 0) ⊎ ((status_of end ≡ 8) ⊎ (status_of end ≡ 11))
  by_answer answer.End r w = inl refl
  by_answer answer.Trapped r w = inr (inl refl)
  by_answer answer.Dark r w = elim (done_ends w.task w.files w.run w.fetched (whole_done w.files w.task w.run w.done)) [ inl x ↦ cc (w.came.answered ∙ x) | inr x ↦ cc (w.came.answered ∙ x) ]
  by_answer answer.Cut r w = elim (done_ends w.task w.files w.run w.fetched (whole_done w.files w.task w.run w.done)) [ inl x ↦ cc (w.came.answered ∙ x) | inr x ↦ cc (w.came.answered ∙ x) ]
  by_answer end r w = cc r

  enough : (c.shelf.rose → ⊥) → (c.out.rose → ⊥) → (end : Answer) → Comes c told end → (status_of end ≡ 0) ⊎ ((status_of end ≡ 8) ⊎ (status_of end ≡ 11))
  enough calm silent end w =
      elim (exactly c told task asked files held on judged calm silent end w) [
        | inl e ↦ by_answer end (ap is_of_run e ∙ of_on) w
        | inr e ↦ inr (inr (ap status_of e))
      ]

-- ---- the whole

module _ (c : Call) (err : Writes) (told : List ℕ) (status : ℕ) (end : Answer) (is : status ≡ status_of end) (comes : Comes c told end) where
  pub works : TookAll err (line_of c.words end ++ told) ⊎ TookFront err (line_of c.words end ++ told) → Works c err status
  works line = record {
    answer = end;
    told = told;
    is_status = is;
    comes = comes;
    line = line;
    exactly = λ task files on asked held judged calm silent.
        elim (exactly c told task asked files held on judged calm silent end comes) [ inl e ↦ inl (is ∙ ap status_of e) | inr e ↦ inr (is ∙ ap status_of e) ];
    usage = (λ e. no_task c told end comes (sym is ∙ e), λ none. is ∙ usage c told none end comes);
    missing = λ task place asked among gone. subst (λ (n : ℕ). (n ≡ 2) ⊎ ((n ≡ 3) ⊎ (n ≡ 11))) (sym is) (missing c told task asked place among gone end comes);
    long = λ task place bytes asked among before there over calm. subst (λ (n : ℕ). (n ≡ 3) ⊎ (n ≡ 11)) (sym is) (long c told task asked place among bytes there over before calm end comes);
    enough = λ task plan meters files p rows periods asked is_report held reads sensed powered suffice calm silent.
        subst (λ (n : ℕ). (n ≡ 0) ⊎ ((n ≡ 8) ⊎ (n ≡ 11))) (sym is)
        (enough c told task asked plan meters is_report files held p reads rows sensed periods powered suffice calm silent end comes);
    quiet = λ e. quiet c told end comes (ap is_written (sym is) ∙ e);
  }
