-- Images of files, and their runs.
use Rattle.std.specs.Prelude.{ℕ, ◌≡◌, ◌⊎◌, ◌++◌, ℤ, true, List}
use Rattle.oc_io.specs.declared.period.Period.{Period}
use Rattle.oc_power.specs.Power.{power_file}
use Rattle.oc_power.specs.Power as power_rows
use Rattle.oc_sensors.specs.declared.sensors.Row.{Row}
use Rattle.oc_sensors.specs.File.{sensor_file}
use Rattle.oc_sensors.specs.File as sensor_rows
use Rattle.oc_sensors.specs.History.{history}
use Rattle.oc_tree.specs.Said.{Told}
use Rattle.oc_tree.specs.declared.said.Ending.{Ending}
use Rattle.oc_isa.specs.Image.{Parts}
use Rattle.oc_isa.specs.Next.{Device}
use Rattle.oc_isa.specs.Power.{power_run}
use Rattle.oc_isa.specs.Table.{device_of}
use Rattle.oc_isa.specs.declared.phase.Phase.TheVariants.{Over}
use Rattle.oc_outage.specs.Honest.{IsHonest, IsWhole, all_on}
use Rattle.oc_verify.specs.Reading.{AreImage}
use Rattle.oc_verify.specs.Reads.{IsBad}
use Rattle.oc_verify.specs.Rules.{Broken}
use Rattle.oc_verify.specs.declared.fault.ImageError.{ImageError}
use Rattle.oc_verify.specs.declared.fault.ImageError.TheVariants as errors
use Rattle.oc_verify.specs.declared.fault.VerifyError.{VerifyError}
use Rattle.oc_verify.specs.declared.fault.VerifyError.TheVariants as verify_errors
use Rattle.oc_command.specs.Commands.{Plan}
use Rattle.oc_command.specs.Files.{Files}
use Rattle.oc_report.specs.Runs.{Verdict, is_refusal, refuses, runs, with_parts}
use Rattle.oc_command.specs.declared.answer.Answer.{Answer}
use Rattle.oc_command.specs.declared.answer.Answer.TheVariants as answer

-- these bytes are those of an image that breaks no rule
pub record IsAdmitted (bytes : List ℕ) (image : Parts) : Type 0 where
  pub is_image : AreImage bytes image
  pub unbroken : (address rule : ℕ) → Broken image address rule → ⊥

-- the bytes are no image's, where the first bad field begins at this one; or those of an image that breaks a rule
pub data IsRefusedImage (bytes : List ℕ) (end : Answer) : Type 0 where
  no_image : (at : ℕ)
      → IsBad bytes (errors.Bytes at) → end ≡ answer.BadImage at → IsRefusedImage bytes end
  breaks_rule : (image : Parts) → AreImage bytes image → (address rule : ℕ)
      → Broken image address rule → end ≡ answer.Refused → IsRefusedImage bytes end

-- This is the verdict on an image and the files of its run, where
-- the chosen supply has this plan. It is refused, or it is run
pub data IsExecution (files : Files) (plan : Plan) (run : Verdict) : Type 0 where
  no_run : (end : Answer)
      → IsRefusedImage files.source end → run ≡ refuses end → IsExecution files plan run
  executed : (image : Parts) → IsAdmitted files.source image
      → run ≡ with_parts image files plan → IsExecution files plan run

-- However often power fails, each front part of the report without its aborted attempts says what the device says
-- without outages over the kept samples, or a prefix of it, no outage lies in a region, and each input is the
-- sensor's; and where the run is over it says all of it, and leaves its nonvolatile words
pub record OutagesDontShow (d : Device) (h : ℕ → ℕ → ℤ) (periods : List Period) : Type 0 where
  pub honest : (front rest : List Told)
      → front ++ rest ≡ (power_run d h periods).report → IsHonest d h (all_on periods) front
  pub whole : (how : Ending) → (power_run d h periods).state.phase ≡ Over how
      → IsWhole d (all_on periods) (power_run d h periods).report (power_run d h periods).state.nv

-- a run of the image that the file holds, over what the sensors showed and the periods that the supply told
pub record IsExecuted (files : Files) (plan : Plan) (run : Verdict) : Type 0 where
  pub image : Parts
  pub admitted : IsAdmitted files.source image
  pub rows : List Row
  pub sensed : sensor_file image.names.sensors files.sensors ≡ sensor_rows.readings rows
  pub periods : List Period
  pub powered : power_file files.power ≡ power_rows.periods periods
  pub is_run : run ≡ runs image rows (plan periods)
  pub outages : OutagesDontShow (device_of image) (history rows) (plan periods)

-- ---- the steps

-- the answer to bytes that are no image's, and to an image that isn't accepted
abbrev pub for_bytes : ImageError → Answer
for_bytes (errors.Bytes at) = answer.BadImage at
for_bytes errors.Memory = answer.Memory

abbrev pub for_image : VerifyError → Answer
for_image (verify_errors.Refused address rule) = answer.Refused
for_image verify_errors.Memory = answer.Memory

-- why there is no image
abbrev pub IsNotLoaded : List ℕ → Answer → Type 0
IsNotLoaded bytes end = (end ≡ answer.Memory) ⊎ IsRefusedImage bytes end

-- why it isn't run
abbrev pub IsNotRun : Files → Plan → Answer → Type 0
IsNotRun files plan end =
    (end ≡ answer.Memory) ⊎ ((is_refusal end ≡ true) × IsExecution files plan (refuses end))
