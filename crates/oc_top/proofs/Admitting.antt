-- Images that are built are admitted, and are executed as their sources are run.
use Rattle.std.proofs.Common.{◌≡◌, ◌≤◌, ◌⊎◌, ◌∙◌, inl, inr, ℕ, Bool, true, false, true≢false, List, [], ◌∷◌, length, Option, refl, ap, sym, subst}
use Rattle.std.specs.Prelude.{◌==◌, ◌||◌}
use Rattle.std.specs.List.{All}
use Rattle.std.proofs.lemmas.List.Elements.{All-weaker}
use Rattle.oc_lex.specs.Stands.{IsName}
use Rattle.oc_power.specs.Power.{Power, power_file}
use Rattle.oc_power.specs.Power as power_rows
use Rattle.oc_sensors.specs.File.{Readings, sensor_file}
use Rattle.oc_sensors.specs.File as sensor_rows
use Rattle.oc_sensors.specs.History.{history}
use Rattle.oc_meters.specs.Tally.{Reading as Meter}
use Rattle.oc_tree.specs.Tree.{TFunction, TProgram}
use Rattle.oc_tree.specs.Form.{FunctionInForm}
use Rattle.oc_tree.specs.Marked.{IsMarked}
use Rattle.oc_tree.specs.Expansion.{expansion}
use Rattle.oc_isa.specs.Image.{Parts}
use Rattle.oc_builds.specs.Built.{MarkedImagesBreakNoRule, MarkedImagesFitFiles}
use Rattle.oc_command.specs.Statuses.{status_of}
use Rattle.oc_top.specs.Answers.{IsJudged}
use Rattle.oc_top.specs.BuiltImages.{BuiltImagesAreAdmitted, BuiltImagesAreNotRefused, BuiltImagesRun}
use Rattle.oc_command.specs.Commands.{Plan, imaging, report}
use Rattle.oc_command.specs.Files.{Files, run_files}
use Rattle.oc_report.specs.Images.{IsAdmitted, IsExecution, executed}
use Rattle.oc_top.specs.Meant.{program_marked, program_code}
use Rattle.oc_top.specs.SmallImages.{ImagesAreSmall}
use Rattle.oc_top.specs.Sources.{Reading, ReadsAs, breaks, faulty, program}
use Rattle.oc_report.specs.Runs.{Verdict, is_of_run, prints, with_parts, with_sensors}
use Rattle.oc_top.specs.Verdict.{image_of, printed, verdict}
use Rattle.oc_command.specs.declared.answer.Answer.{Answer}
use Rattle.oc_command.specs.declared.answer.Answer.TheVariants as answer
use Rattle.oc_top.proofs.Accepted.{is_written, marked_there}
use Rattle.oc_top.proofs.Exactly.{of_run}
use Rattle.oc_report.proofs.Executing.{one_execution}
use Rattle.oc_top.proofs.Imaging.{same_names}
use Rattle.oc_top.proofs.OneReading.{one_reading}

-- the names of the functions of an image are those of the program that is spelled
named : (source : List ℕ) (p : TProgram) → length source ≤ 1048576 → ReadsAs source (program p) → All (λ f. IsName f.name) (program_code p).functions
named source p small reads = same_names (expansion p) (program_marked p).regions IsName 1 1 0 p.functions
    (All-weaker (FunctionInForm IsName) (λ (f : TFunction). IsName f.name) (λ f h. h.name) p.functions (is_written source small p reads).form.spellable.functions)

pub built_images_are_admitted : MarkedImagesBreakNoRule → MarkedImagesFitFiles → ImagesAreSmall → BuiltImagesAreAdmitted
built_images_are_admitted no_rule fit few source p small reads =
    let marked : IsMarked (program_marked p) = marked_there source small p reads in
    record {
      is_image = fit (program_marked p) marked (few source p small reads) (named source p small reads);
      unbroken = no_rule (program_marked p) marked;
    }

-- ---- an image that was printed

-- its source spells a program, whose image it is
record IsPrinted (source image : List ℕ) : Type 0 where
  pub written : TProgram
  pub reads : ReadsAs source (program written)
  pub is_image : image_of written ≡ image

is_printed : (source image : List ℕ) → IsJudged (source ∷ []) imaging (prints image) → IsPrinted source image
is_printed source image v = by v.reading v.reads v.is_verdict
  where
    by : (r : Reading) → ReadsAs source r → printed r image_of ≡ prints image → IsPrinted source image
    by (faulty line) reads e = absurd (true≢false (sym (ap (λ (v : Verdict). is_of_run v.answer) e)))
    by (breaks b) reads e = absurd (true≢false (sym (ap (λ (v : Verdict). is_of_run v.answer) e)))
    by (program p) reads e = record { written = p; reads = reads; is_image = ap (λ (v : Verdict). v.text) e }

module _ (law : BuiltImagesAreAdmitted) (source image sensors power : List ℕ) (plan : Plan) (small : length source ≤ 1048576) (i : IsPrinted source image) where
  abbrev files : Files
  files = run_files (image ∷ sensors ∷ power ∷ [])

  admitted : IsAdmitted image (program_code i.written)
  admitted = subst (λ bytes. IsAdmitted bytes (program_code i.written)) i.is_image (law source i.written small i.reads)

  -- the one verdict on it
  says : (run : Verdict) → IsExecution files plan run → run ≡ with_parts (program_code i.written) files plan
  says run execution = one_execution files plan run (with_parts (program_code i.written) files plan) execution (executed (program_code i.written) admitted refl)

  as_source : (meters : Option (List Meter)) (run : Verdict) → IsExecution files plan run → IsJudged (source ∷ sensors ∷ power ∷ []) (report plan meters) run
  as_source meters run execution = record { reading = program i.written; reads = i.reads; is_verdict = sym (says run execution) }

  as_image : (meters : Option (List Meter)) (run : Verdict) → IsJudged (source ∷ sensors ∷ power ∷ []) (report plan meters) run → IsExecution files plan run
  as_image meters run j =
      let same : j.reading ≡ program i.written = one_reading source j.reading (program i.written) j.reads i.reads in
      let as_run : verdict j.reading (run_files (source ∷ sensors ∷ power ∷ [])) plan ≡ with_parts (program_code i.written) files plan =
      ap (λ r. verdict r (run_files (source ∷ sensors ∷ power ∷ [])) plan) same in
      executed (program_code i.written) admitted (sym j.is_verdict ∙ as_run)

pub built_images_run : BuiltImagesAreAdmitted → BuiltImagesRun
built_images_run law source image sensors power plan meters run small printed =
    let i = is_printed source image printed in
    (as_source law source image sensors power plan small i meters run, as_image law source image sensors power plan small i meters run)

-- ---- no refusal of images

-- the status of bytes that are no image's, or of an image that breaks a rule
abbrev of_image : ℕ → Bool
of_image status = (status == 16) || (status == 17)

run_passes : (end : Answer) → is_of_run end ≡ true → of_image (status_of end) ≡ false
run_passes answer.End r = refl
run_passes answer.Trapped r = refl
run_passes answer.Dark r = refl
run_passes answer.Cut r = refl
run_passes end r = absurd (true≢false (sym r))

files_pass : (parts : Parts) (s : Readings) (w : Power) (plan : Plan) → of_image (status_of (with_sensors parts s w plan).answer) ≡ false
files_pass parts (sensor_rows.bad row) w plan = refl
files_pass parts (sensor_rows.readings rows) (power_rows.bad row) plan = refl
files_pass parts (sensor_rows.readings rows) (power_rows.periods periods) plan = run_passes _ (of_run parts (history rows) (plan periods))

pub built_images_are_not_refused : BuiltImagesAreAdmitted → BuiltImagesAreNotRefused
built_images_are_not_refused law source image sensors power plan run small printed execution status =
    let i = is_printed source image printed in
    let parts = program_code i.written in
    let is : run ≡ with_parts parts (run_files (image ∷ sensors ∷ power ∷ [])) plan = says law source image sensors power plan small i run execution in
    let passes : of_image (status_of run.answer) ≡ false =
    ap (λ (v : Verdict). of_image (status_of v.answer)) is ∙ files_pass parts (sensor_file parts.names.sensors sensors) (power_file power) plan in
    true≢false (sym (refused (status_of run.answer) status) ∙ passes)
  where
    refused : (n : ℕ) → (n ≡ 16) ⊎ (n ≡ 17) → of_image n ≡ true
    refused n (inl e) = ap of_image e
    refused n (inr e) = ap of_image e
