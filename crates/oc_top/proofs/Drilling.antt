-- How files that needn't be fetched are answered, and what is counted of their runs.
use Rattle.std.proofs.Common.{ℕ, ◌+◌, ◌<◌, ◌^◌, ◌≡◌, List, [], length, ap, sym, ◌∙◌, refl, subst, arith, Option, Some, None}
use Rattle.std.specs.Prelude.{option_map}
use Rattle.oc_power.specs.Choice.{first_with}
use Rattle.oc_io.specs.Counts.{capped, line_feeds}
use Rattle.oc_io.specs.declared.period.Period.{Period}
use Rattle.oc_sensors.specs.History.{Told}
use Rattle.oc_machine.specs.Kept.{Running}
use Rattle.oc_drill.specs.Drill.{drill_line}
use Rattle.oc_command.specs.Sinks.{TookNothing, Writes}
use Rattle.oc_command.specs.Statuses.{status_of}
use Rattle.oc_report.specs.Written.{IsWritten, whole, in_part}
use Rattle.oc_top.specs.Answers.{drill_files, Call, Comes}
use Rattle.oc_command.specs.Commands.{Plan, drill}
use Rattle.oc_top.specs.Drills.{IsAnswered, without_memory, turned_down, was_run, IsMeasured, IsDrilled, IsDrilledWith, no_room, told}
use Rattle.oc_command.specs.Files.{AreFiles, Files}
use Rattle.oc_top.specs.Sources.{Reading, ReadsAs, program}
use Rattle.oc_top.specs.Steps.{IsReady, IsTurnedDown, by_memory, by_files}
use Rattle.oc_report.specs.Runs.{Verdict, runs, prints}
use Rattle.oc_top.specs.Verdict.{verdict}
use Rattle.oc_command.specs.declared.answer.Answer.{Answer}
use Rattle.oc_command.specs.declared.answer.Answer.TheVariants as answer
use Rattle.oc_top.proofs.Asking.{ready_run, comes_none, no_memory, was_done}
use Rattle.oc_top.proofs.Exactly.{run_verdict}

module _ (files : Files) (plan : Plan) (sink : Writes) (end : Answer) where
  pub not_ready : IsTurnedDown files plan end → TookNothing sink → IsAnswered files plan sink end
  not_ready (by_memory e) t = without_memory e t
  not_ready (by_files reading reads apart v) t = turned_down reading reads v t

  pub was_ready : (machine : Running) (sensors : Told) (left : List Period) → IsReady files plan machine sensors left
      → IsWritten sink (runs machine.parts sensors.rows left) end → IsAnswered files plan sink end
  was_ready machine sensors left r w =
      let run = ready_run files plan machine sensors left r in
      was_run (program run.written) run.spelled (subst (λ (v : Verdict). IsWritten sink v end) (sym (run_verdict files plan (runs machine.parts sensors.rows left) run)) w)

  -- the verdict and its text, where no fault rose and there was memory
  record IsAll : Type 0 where
    pub reading : Reading
    pub reads : ReadsAs files.source reading
    pub ends : end ≡ (verdict reading files plan).answer
    pub taken : sink.took (verdict reading files plan).text

  is_all : (sink.rose → ⊥) → (end ≡ answer.Memory → ⊥) → IsAnswered files plan sink end → IsAll
  is_all calm memory (without_memory e t) = absurd (memory e)
  is_all calm memory (turned_down reading reads v t) = record {
    reading = reading;
    reads = reads;
    ends = sym (ap (λ (run : Verdict). run.answer) v);
    taken = subst (λ (x : List ℕ). sink.took x) (sym (ap (λ (run : Verdict). run.text) v)) t.untaken;
  }
  is_all calm memory (was_run reading reads (whole e t)) = record { reading = reading; reads = reads; ends = e; taken = t.taken }
  is_all calm memory (was_run reading reads (in_part e f)) = absurd (calm f.rose)

  -- a sink that counted from 0 on has the numbers
  pub is_measured : (status lines bytes : ℕ) → (sink.rose → ⊥) → ((x : List ℕ) → sink.took x → (bytes ≡ capped (length x)) × (lines ≡ capped (line_feeds x)))
      → status ≡ status_of end → (end ≡ answer.Memory → ⊥) → IsAnswered files plan sink end → IsMeasured files plan status lines bytes
  is_measured status lines bytes calm counts is memory a =
      let all = is_all calm memory a in
      let numbers = counts (verdict all.reading files plan).text all.taken in
      record { reading = all.reading; reads = all.reads; is_status = is ∙ ap status_of all.ends; are_lines = numbers.1; are_bytes = numbers.0 }

-- a count from 0 on, which fits
pub number_is : (count after before size : ℕ) → count ≡ after → before ≡ 0 → capped after ≡ capped (before + size) → count < 2 ^ 64 → count ≡ capped size
number_is count after before size e z h l = omega (arith, e, z, h, l)

-- what was measured of the files of a drill is its line
pub is_drilled : (turns : ℕ) (plan : Plan) (sink : Writes) (end : Answer) (files : Files) (status lines bytes : ℕ) → files ≡ drill_files turns → IsMeasured files plan status lines bytes
    → IsWritten sink (prints (drill_line turns status lines bytes)) end → IsDrilled turns plan sink end
is_drilled turns plan sink end files status lines bytes e m w =
    let n = subst (λ (f : Files). IsMeasured f plan status lines bytes) e m in
    told (prints (drill_line turns status lines bytes)) (record { reading = n.reading; reads = n.reads; is_verdict = rw (n.is_status, n.are_lines, n.are_bytes) refl }) w

-- ---- the call

none_fetched : (c : Call) → AreFiles c.shelf.holds c.words [] []
none_fetched c = record { count = refl; each = λ k l. absurd (omega (arith, l)) }

-- with the supply that was chosen, or none
pub drill_comes : (c : Call) (turns : ℕ) (chosen : Option Plan) → c.task ≡ option_map (drill turns) chosen → c.shelf.asked [] → (end : Answer)
    → IsDrilledWith turns chosen c.out end → Comes c [] end
drill_comes c turns None asked shelf end d = subst (λ (x : Answer). Comes c [] x) (sym d.0) (comes_none c asked shelf d.1)
drill_comes c turns (Some plan) asked shelf end (no_room e t) = no_memory c (drill turns plan) asked [] (none_fetched c) shelf end e t
drill_comes c turns (Some plan) asked shelf end (told run d w) =
    was_done c (drill turns plan) asked [] (none_fetched c) shelf run d end refl w

-- a drill with the first supply of its number
module _ {B : Type 0} (boxes : List B) (number : B → ℕ) (plan : B → Plan) (turns : ℕ) (sink : Writes) (end : Answer) where
  pub chosen_drill : (box : Option B) → box ≡ first_with number 0 boxes → IsDrilledWith turns (option_map plan box) sink end
      → IsDrilledWith turns (option_map plan (first_with number 0 boxes)) sink end
  chosen_drill box e h = subst (λ (o : Option B). IsDrilledWith turns (option_map plan o) sink end) e h
