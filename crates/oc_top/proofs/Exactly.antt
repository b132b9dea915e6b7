-- Answers come exactly where their causes hold.
use Rattle.std.proofs.Common.{ℕ, suc, ◌<◌, ◌≤◌, ◌≡◌, ◌==◌, ◌⊎◌, ◌∙◌, sym, ap, refl, subst, arith, inl, inr, ℤ, List, [], ◌∷◌, length, Bool, true, false, true≢false}
use Rattle.std.proofs.Common.{cond, Option, Some, None}
use Rattle.std.proofs.lemmas.Bool.{cases_order}
use Rattle.oc_io.specs.declared.period.Period.{Period}
use Rattle.oc_io.specs.Held.{Held, untold, nothing, content, Gives, Longer}
use Rattle.oc_power.specs.Power.{Power, power_file}
use Rattle.oc_sensors.specs.File.{Readings}
use Rattle.oc_sensors.specs.File as sensor_rows
use Rattle.oc_sensors.specs.History.{history}
use Rattle.oc_tree.specs.Tree.{TProgram}
use Rattle.oc_tree.specs.declared.said.Ending.TheVariants.{Halted, Trapped}
use Rattle.oc_isa.specs.Image.{Parts}
use Rattle.oc_isa.specs.Power.{power_run}
use Rattle.oc_isa.specs.declared.phase.Phase.{Phase}
use Rattle.oc_isa.specs.declared.phase.Phase.TheVariants.{Over, Lost}
use Rattle.oc_isa.specs.Table.{device_of}
use Rattle.oc_top.specs.Meant.{program_code}
use Rattle.oc_command.specs.Commands.{Plan, report, drill, regions, listing, imaging, checking, auditing, executing, limits_of, Task, word_at}
use Rattle.oc_command.specs.Files.{Files, run_files, file_at, limit_at, IsFile, AreFiles, WereFetched, IsHeld, AreHeld, AreHeldBefore}
use Rattle.oc_top.specs.Sources.{Reading, program}
use Rattle.oc_top.proofs.OneReading.{one_reading}
use Rattle.oc_top.proofs.Auditing.{one_audit, vouched_audit}
use Rattle.oc_top.proofs.Checking.{one_check, safe_check}
use Rattle.oc_report.proofs.Executing.{executed_judged, one_execution}
use Rattle.oc_report.specs.Reports.{answer_of}
use Rattle.oc_report.specs.Runs.{Verdict, is_of_run, is_refusal, refuses, with_sensors}
use Rattle.oc_top.specs.Verdict.{verdict, printed}
use Rattle.oc_top.specs.Headline.{IsRun}
use Rattle.oc_command.specs.Statuses.{status_of, is_written}
use Rattle.oc_top.specs.Answers.{IsVerdict, IsJudged, IsPrint, IsDone, IsDoneWhole, Call, IsNoTask, IsUnfetched, HasFiles, AreRefused, WasDone, IsWhole, IsPart, HadNoMemory, Comes}
use Rattle.oc_command.specs.Sinks.{TookNothing}
use Rattle.oc_command.specs.declared.answer.Answer.{Answer}
use Rattle.oc_command.specs.declared.answer.Answer.TheVariants as answer

-- ---- the answer to a run

run_by : (phase : Phase) → is_of_run (answer_of phase) ≡ true
run_by (Over Halted) = refl
run_by (Over (Trapped kind stmt)) = refl
run_by Lost = refl
run_by phase = refl

pub of_run : (parts : Parts) (h : ℕ → ℕ → ℤ) (periods : List Period) → is_of_run (answer_of (power_run (device_of parts) h periods).state.phase) ≡ true
of_run parts h periods = run_by (power_run (device_of parts) h periods).state.phase

module _ (files : Files) (plan : Plan) (run : Verdict) (r : IsRun files plan run) where
  pub run_answer : is_of_run run.answer ≡ true
  run_answer = ap (λ (v : Verdict). is_of_run v.answer) r.is_run ∙ of_run (program_code r.written) (history r.rows) (plan r.periods)

  pub run_verdict : verdict (program r.written) files plan ≡ run
  run_verdict =
      ap (λ (s : Readings). with_sensors (program_code r.written) s (power_file files.power) plan) r.sensed
      ∙ ap (λ (p : Power). with_sensors (program_code r.written) (sensor_rows.readings r.rows) p plan) r.powered
      ∙ sym r.is_run

-- what is done is the verdict on the files, of which there is one, and its answer is no refusal

print_answer : (source : List ℕ) (text : TProgram → List ℕ) (run : Verdict) → IsPrint source text run → is_of_run run.answer ≡ true
print_answer source text run d = ap (λ (v : Verdict). is_of_run v.answer) d.is_text

print_judged : (source : List ℕ) (text : TProgram → List ℕ) (run : Verdict) → IsPrint source text run → IsVerdict source (λ reading. printed reading text) run
print_judged source text run d = record { reading = program d.written; reads = d.spelled; is_verdict = sym d.is_text }

pub done_answer : (files : List (List ℕ)) (task : Task) (run : Verdict) → IsDone files task run → is_of_run run.answer ≡ true
done_answer files (report plan meters) run d = run_answer (run_files files) plan run d
done_answer files (drill turns plan) run d = ap (λ (v : Verdict). is_of_run v.answer) (sym d.is_verdict)
done_answer files regions run d = print_answer _ _ run d
done_answer files listing run d = print_answer _ _ run d
done_answer files imaging run d = print_answer _ _ run d
done_answer files checking run d = ap (λ (v : Verdict). is_of_run v.answer) d.is_run
done_answer files auditing run d = ap (λ (v : Verdict). is_of_run v.answer) d.is_run
done_answer files (executing plan) run d = ap (λ (v : Verdict). is_of_run v.answer) d.is_run ∙ of_run d.image (history d.rows) (plan d.periods)

-- what was written whole was done
pub whole_done : (files : List (List ℕ)) (task : Task) (run : Verdict) → IsDoneWhole files task run → IsDone files task run
whole_done files (report plan meters) run d = d.is
whole_done files task run d = d

done_judged : (files : List (List ℕ)) (task : Task) (run : Verdict) → IsDone files task run → IsJudged files task run
done_judged files (report plan meters) run d = record { reading = program d.written; reads = d.spelled; is_verdict = run_verdict (run_files files) plan run d }
done_judged files (drill turns plan) run d = d
done_judged files regions run d = print_judged _ _ run d
done_judged files listing run d = print_judged _ _ run d
done_judged files imaging run d = print_judged _ _ run d
done_judged files checking run d = safe_check _ run d
done_judged files auditing run d = vouched_audit _ _ run d
done_judged files (executing plan) run d = executed_judged _ _ run d

same_verdict : (source : List ℕ) (on : Reading → Verdict) (a b : Verdict) → IsVerdict source on a → IsVerdict source on b → a ≡ b
same_verdict source on a b x y = sym x.is_verdict ∙ ap on (one_reading source x.reading y.reading x.reads y.reads) ∙ y.is_verdict

-- each file is no longer than its limit
abbrev AreWithin : List (List ℕ) → List ℕ → Type 0
AreWithin files limits = (k : ℕ) → k < length limits → length (file_at files k) ≤ limit_at limits k

one_verdict : (files : List (List ℕ)) (task : Task) → AreWithin files (limits_of task) → (a b : Verdict) → IsJudged files task a → IsJudged files task b → a ≡ b
one_verdict files (report plan meters) within a b x y = same_verdict _ _ a b x y
one_verdict files (drill turns plan) within a b x y = same_verdict _ _ a b x y
one_verdict files regions within a b x y = same_verdict _ _ a b x y
one_verdict files listing within a b x y = same_verdict _ _ a b x y
one_verdict files imaging within a b x y = same_verdict _ _ a b x y
one_verdict files checking within a b x y = one_check _ a b x y
one_verdict files auditing within a b x y = one_audit _ _ (within 0 (omega arith)) a b x y
one_verdict files (executing plan) within a b x y = one_execution _ _ a b x y

-- ---- files that are held

gives_same : (h : Held) (a b : List ℕ) → h ≡ content a → Gives h b → b ≡ a
gives_same untold a b e g = cc e
gives_same nothing a b e g = absurd g
gives_same (content x) a b e g = g ∙ cc e

not_longer : (h : Held) (limit : ℕ) (bytes : List ℕ) → h ≡ content bytes → length bytes ≤ limit → Longer h limit → ⊥
not_longer untold limit bytes e l g = cc e
not_longer nothing limit bytes e l g = g
not_longer (content x) limit bytes e l g = let f : x ≡ bytes = cc e in omega (arith, ap length f)

-- lists that are as long and have the same at each place are the same
same_lists : (xs ys : List (List ℕ)) → length xs ≡ length ys → ((k : ℕ) → k < length ys → file_at xs k ≡ file_at ys k) → xs ≡ ys
same_lists [] [] n h = refl
same_lists [] (y ∷ ys) n h = absurd (omega (arith, n))
same_lists (x ∷ xs) [] n h = absurd (omega (arith, n))
same_lists (x ∷ xs) (y ∷ ys) n h =
    let front : x ≡ y = h 0 (omega arith) in
    let back : xs ≡ ys = same_lists xs ys (omega (arith, n)) (λ k l. h (suc k) (omega (arith, l))) in
    ap (λ (z : List ℕ). z ∷ xs) front ∙ ap (λ (zs : List (List ℕ)). y ∷ zs) back

-- files that were fetched, where these are held, are these
pub same_files : (holds : List ℕ → Held) (words : List (List ℕ)) (limits : List ℕ) (files other : List (List ℕ)) → AreHeld holds words limits files
    → AreFiles holds words limits other → other ≡ files
same_files holds words limits files other h f =
    let count : length files ≡ length limits = h.count in
    same_lists other files (f.count ∙ sym count) (λ k l. let m : k < length limits = omega (arith, l, count) in gives_same _ (file_at files k) (file_at other k) (h.each k m).told (f.each k m).gives)

-- a file that is held within its limit is refused for want of memory alone
no_cause : (held : Held) (limit : ℕ) (bytes : List ℕ) (rose : Type 0) → IsHeld held limit bytes → (rose → ⊥) → rose ⊎ (held ≡ nothing) → ⊥
no_cause held limit bytes rose h calm (inl f) = calm f
no_cause held limit bytes rose h calm (inr gone) = cc (sym h.told ∙ gone)

gives_something : (held : Held) (bytes : List ℕ) → held ≡ nothing → Gives held bytes → ⊥
gives_something untold bytes e g = cc e
gives_something nothing bytes e g = g
gives_something (content x) bytes e g = cc e

file_fits : (held : Held) (limit : ℕ) (bytes x : List ℕ) → held ≡ content bytes → limit < length bytes → IsFile held limit x → ⊥
file_fits held limit bytes x e l f = let same = gives_same held bytes x e f.gives in let within = f.within in omega (arith, ap length same)

-- ---- the kinds of answers

-- an answer with its cause, by its kind
pub data Cause (c : Call) (told : List ℕ) (end : Answer) : Type 0 where
  nothing_asked : end ≡ answer.Usage → IsNoTask c told → Cause c told end
  unread : (file : ℕ) → end ≡ answer.Unreadable file → IsUnfetched c told file (λ held limit. c.shelf.rose ⊎ (held ≡ nothing)) → Cause c told end
  too_long : (file : ℕ) → end ≡ answer.TooLong file → IsUnfetched c told file Longer → Cause c told end
  refused : is_refusal end ≡ true → AreRefused c told end → Cause c told end
  done : is_of_run end ≡ true → WasDone c IsDoneWhole (IsWhole c told end) → Cause c told end
  in_part : end ≡ answer.WriteFault → WasDone c IsDone (IsPart c told) → Cause c told end
  no_memory : end ≡ answer.Memory → HadNoMemory c told → Cause c told end

pub cause : (c : Call) (told : List ℕ) (end : Answer) → Comes c told end → Cause c told end
cause c told answer.Usage w = nothing_asked refl w
cause c told (answer.Unreadable file) w = unread file refl w
cause c told (answer.TooLong file) w = too_long file refl w
cause c told (answer.Syntax line) w = refused refl w
cause c told (answer.Rule line rule) w = refused refl w
cause c told (answer.BadSensors row) w = refused refl w
cause c told (answer.BadPower row) w = refused refl w
cause c told answer.WriteFault w = in_part refl w
cause c told answer.End w = done refl w
cause c told answer.Trapped w = done refl w
cause c told answer.Dark w = done refl w
cause c told answer.Memory w = no_memory refl w
cause c told answer.Cut w = done refl w
cause c told (answer.BadImage at) w = refused refl w
cause c told answer.Refused w = refused refl w
cause c told (answer.Dishonest item) w = refused refl w
cause c told (answer.BadReport line) w = refused refl w
cause c told (answer.Uncovered gap) w = refused refl w

abbrev is_one : ℕ → Bool
is_one n = n == 1

other_status : (n : ℕ) → is_one n ≡ false → n ≡ 1 → ⊥
other_status n e f = absurd (true≢false (sym (ap is_one f) ∙ e))

-- neither a refusal nor a run has the status of a usage, and a run has one with a text
refusal_apart : (end : Answer) → is_refusal end ≡ true → is_one (status_of end) ≡ false
refusal_apart answer.Usage r = absurd (true≢false (sym r))
refusal_apart end r = refl

run_apart : (end : Answer) → is_of_run end ≡ true → is_one (status_of end) ≡ false
run_apart answer.Usage r = absurd (true≢false (sym r))
run_apart end r = refl

run_written : (end : Answer) → is_of_run end ≡ true → is_written (status_of end) ≡ true
run_written answer.End r = refl
run_written answer.Trapped r = refl
run_written answer.Dark r = refl
run_written answer.Cut r = refl
run_written end r = absurd (true≢false (sym r))

-- ---- one call

same_task : (s t : Task) → ◌≡◌ {A = Option Task} (Some s) (Some t) → s ≡ t
same_task s t e = cc

module _ (c : Call) (told : List ℕ) (task : Task) (asked : c.task ≡ Some task) where
  pub the_task : (other : Task) → c.task ≡ Some other → other ≡ task
  the_task other e = same_task other task (sym e ∙ asked)

  abbrev limits : List ℕ
  limits = limits_of task

  -- ---- exactly

  module _ (files : List (List ℕ)) (held : AreHeld c.shelf.holds c.words limits files) where
    judged_here : (other : List (List ℕ)) (run on : Verdict) → AreFiles c.shelf.holds c.words limits other → IsJudged files task on
        → IsJudged other task run → run.answer ≡ on.answer
    judged_here other run on f j k =
        let same : other ≡ files = same_files c.shelf.holds c.words limits files other held f in
        let here : IsJudged files task run = subst (λ (x : List (List ℕ)). IsJudged x task run) same k in
        ap (λ (v : Verdict). v.answer) (one_verdict files task (λ n l. (held.each n l).within) run on here j)

    judged_same : (other : Task) (found : List (List ℕ)) (run on : Verdict) → HasFiles c other found → IsJudged files task on → IsJudged found other run
        → run.answer ≡ on.answer
    judged_same other found run on f j k =
        let same = the_task other f.is_task in
        judged_here found run on
        (subst (λ (t : Task). AreFiles c.shelf.holds c.words (limits_of t) found) same f.are_files) j
        (subst (λ (t : Task). IsJudged found t run) same k)

    held_here : (other : Task) → c.task ≡ Some other → (place : ℕ) → place < length (limits_of other)
        → (bytes : List ℕ) × IsHeld (c.shelf.holds (word_at c.words place)) (limit_at (limits_of other) place) bytes
    held_here other e place l =
        let same = the_task other e in
        subst (λ (t : Task). place < length (limits_of t)
        → (bytes : List ℕ) × IsHeld (c.shelf.holds (word_at c.words place)) (limit_at (limits_of t) place) bytes) (sym same)
        (λ m. (file_at files place, held.each place m)) l

    -- the answer of this verdict, or there was no memory
    by_cause : (on : Verdict) → IsJudged files task on → (c.shelf.rose → ⊥) → (c.out.rose → ⊥) → (end : Answer) → Cause c told end
        → (end ≡ on.answer) ⊎ (end ≡ answer.Memory)
    by_cause on j calm silent end (nothing_asked e w) = cc (sym w.none ∙ asked)
    by_cause on j calm silent end (unread file e w) =
        let h = held_here w.task w.is_task file w.among in
        absurd (no_cause _ _ h.0 c.shelf.rose h.1 calm w.is_cause)
    by_cause on j calm silent end (too_long file e w) =
        let h = held_here w.task w.is_task file w.among in
        absurd (not_longer _ _ h.0 h.1.told h.1.within w.is_cause)
    by_cause on j calm silent end (refused e w) = inl (judged_same w.task w.files (refuses end) on w.fetched j w.judged)
    by_cause on j calm silent end (done e w) = inl (w.came.answered ∙ judged_same w.task w.files w.run on w.fetched j
        (done_judged w.files w.task w.run (whole_done w.files w.task w.run w.done)))
    by_cause on j calm silent end (in_part e w) = absurd (silent w.came.written.rose)
    by_cause on j calm silent end (no_memory e w) = inr e

    pub exactly : (on : Verdict) → IsJudged files task on → (c.shelf.rose → ⊥) → (c.out.rose → ⊥) → (end : Answer) → Comes c told end
        → (end ≡ on.answer) ⊎ (end ≡ answer.Memory)
    exactly on j calm silent end w = by_cause on j calm silent end (cause c told end w)

  -- ---- files that aren't there, or are too long

  module _ (place : ℕ) (among : place < length limits) where
    fetched_here : (other : Task) (files : List (List ℕ)) → HasFiles c other files
        → (bytes : List ℕ) × IsFile (c.shelf.holds (word_at c.words place)) (limit_at limits place) bytes
    fetched_here other files f =
        let are = subst (λ (t : Task). AreFiles c.shelf.holds c.words (limits_of t) files) (the_task other f.is_task) f.are_files in
        (file_at files place, are.each place among)

    module _ (gone : c.shelf.holds (word_at c.words place) ≡ nothing) where
      not_gone : (other : Task) (files : List (List ℕ)) → HasFiles c other files → ⊥
      not_gone other files f = let g = fetched_here other files f in gives_something _ g.0 gone g.1.gives

      missing_by : (end : Answer) → Cause c told end → (status_of end ≡ 2) ⊎ ((status_of end ≡ 3) ⊎ (status_of end ≡ 11))
      missing_by end (nothing_asked e w) = cc (sym w.none ∙ asked)
      missing_by end (unread file e w) = inl (ap status_of e)
      missing_by end (too_long file e w) = inr (inl (ap status_of e))
      missing_by end (refused e w) = absurd (not_gone w.task w.files w.fetched)
      missing_by end (done e w) = absurd (not_gone w.task w.files w.fetched)
      missing_by end (in_part e w) = absurd (not_gone w.task w.files w.fetched)
      missing_by end (no_memory e w) = inr (inr (ap status_of e))

      pub missing : (end : Answer) → Comes c told end → (status_of end ≡ 2) ⊎ ((status_of end ≡ 3) ⊎ (status_of end ≡ 11))
      missing end w = missing_by end (cause c told end w)

    module _ (bytes : List ℕ) (there : c.shelf.holds (word_at c.words place) ≡ content bytes) (over : limit_at limits place < length bytes)
        (before : AreHeldBefore c.shelf.holds c.words limits place) (calm : c.shelf.rose → ⊥) where
      no_fit : (other : Task) (files : List (List ℕ)) → HasFiles c other files → ⊥
      no_fit other files f = let g = fetched_here other files f in file_fits _ _ bytes g.0 there over g.1

      -- where a file couldn't be read, it is none of those before this one, nor this one, nor one behind it
      no_fault : (at : ℕ) → WereFetched c.shelf.holds c.words limits at → c.shelf.rose ⊎ (c.shelf.holds (word_at c.words at) ≡ nothing)
          → (at ≡ place) ⊎ ((at < place) ⊎ (place < at)) → ⊥
      no_fault at were (inl f) o = calm f
      no_fault at were (inr none) (inl here) = cc (sym there ∙ ap (λ (k : ℕ). c.shelf.holds (word_at c.words k)) (sym here) ∙ none)
      no_fault at were (inr none) (inr (inl earlier)) = let h = before at earlier in cc (sym h.1.told ∙ none)
      no_fault at were (inr none) (inr (inr later)) = let f = were place later in file_fits _ _ bytes f.0 there over f.1

      unread_here : (file : ℕ) → IsUnfetched c told file (λ held limit. c.shelf.rose ⊎ (held ≡ nothing)) → ⊥
      unread_here file w =
          let same = the_task w.task w.is_task in
          no_fault file (subst (λ (t : Task). WereFetched c.shelf.holds c.words (limits_of t) file) same w.before) w.is_cause (cases_order file place)

      long_by : (end : Answer) → Cause c told end → (status_of end ≡ 3) ⊎ (status_of end ≡ 11)
      long_by end (nothing_asked e w) = cc (sym w.none ∙ asked)
      long_by end (unread file e w) = absurd (unread_here file w)
      long_by end (too_long file e w) = inl (ap status_of e)
      long_by end (refused e w) = absurd (no_fit w.task w.files w.fetched)
      long_by end (done e w) = absurd (no_fit w.task w.files w.fetched)
      long_by end (in_part e w) = absurd (no_fit w.task w.files w.fetched)
      long_by end (no_memory e w) = inr (ap status_of e)

      pub long : (end : Answer) → Comes c told end → (status_of end ≡ 3) ⊎ (status_of end ≡ 11)
      long end w = long_by end (cause c told end w)

module _ (c : Call) (told : List ℕ) where
  -- ---- usage

  -- a usage is answered only where nothing is asked for, and there always
  no_task_by : (end : Answer) → Cause c told end → status_of end ≡ 1 → c.task ≡ None
  no_task_by end (nothing_asked e w) s = w.none
  no_task_by end (unread file e w) s = absurd (other_status 2 refl (sym (ap status_of e) ∙ s))
  no_task_by end (too_long file e w) s = absurd (other_status 3 refl (sym (ap status_of e) ∙ s))
  no_task_by end (refused e w) s = absurd (other_status (status_of end) (refusal_apart end e) s)
  no_task_by end (done e w) s = absurd (other_status (status_of end) (run_apart end e) s)
  no_task_by end (in_part e w) s = absurd (other_status 10 refl (sym (ap status_of e) ∙ s))
  no_task_by end (no_memory e w) s = absurd (other_status 11 refl (sym (ap status_of e) ∙ s))

  pub no_task : (end : Answer) → Comes c told end → status_of end ≡ 1 → c.task ≡ None
  no_task end w s = no_task_by end (cause c told end w) s

  module _ (none : c.task ≡ None) where
    not_asked : (task : Task) → c.task ≡ Some task → ⊥
    not_asked task e = cc (sym none ∙ e)

    usage_by : (end : Answer) → Cause c told end → status_of end ≡ 1
    usage_by end (nothing_asked e w) = ap status_of e
    usage_by end (unread file e w) = absurd (not_asked w.task w.is_task)
    usage_by end (too_long file e w) = absurd (not_asked w.task w.is_task)
    usage_by end (refused e w) = absurd (not_asked w.task w.fetched.is_task)
    usage_by end (done e w) = absurd (not_asked w.task w.fetched.is_task)
    usage_by end (in_part e w) = absurd (not_asked w.task w.fetched.is_task)
    usage_by end (no_memory e w) = absurd (not_asked w.task w.is_task)

    pub usage : (end : Answer) → Comes c told end → status_of end ≡ 1
    usage end w = usage_by end (cause c told end w)

  -- ---- what is written

  quiet_by : (end : Answer) → Cause c told end → is_written (status_of end) ≡ false → TookNothing c.out
  quiet_by end (nothing_asked e w) s = w.silent.unwritten
  quiet_by end (unread file e w) s = w.silent.unwritten
  quiet_by end (too_long file e w) s = w.silent.unwritten
  quiet_by end (refused e w) s = w.silent.unwritten
  quiet_by end (done e w) s = absurd (true≢false (sym (run_written end e) ∙ s))
  quiet_by end (in_part e w) s = absurd (true≢false (sym (ap (λ (x : Answer). is_written (status_of x)) e) ∙ s))
  quiet_by end (no_memory e w) s = w.silent.unwritten

  pub quiet : (end : Answer) → Comes c told end → is_written (status_of end) ≡ false → TookNothing c.out
  quiet end w s = quiet_by end (cause c told end w) s
