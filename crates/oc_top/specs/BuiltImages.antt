-- What `exec` says of images that `build --image` wrote.
use Rattle.std.specs.Prelude.{ℕ, ◌≡◌, ◌≤◌, ◌⊎◌, ◌↔◌, List, [], ◌∷◌, length, Option}
use Rattle.oc_lex.specs.Limits.{source_limit}
use Rattle.oc_meters.specs.Tally.{Reading}
use Rattle.oc_tree.specs.Tree.{TProgram}
use Rattle.oc_command.specs.Statuses.{status_of}
use Rattle.oc_top.specs.Answers.{IsJudged}
use Rattle.oc_command.specs.Commands.{Plan, executing, imaging, report}
use Rattle.oc_report.specs.Images.{IsAdmitted}
use Rattle.oc_top.specs.Meant.{program_code}
use Rattle.oc_top.specs.Sources.{ReadsAs, program}
use Rattle.oc_report.specs.Runs.{Verdict, prints}
use Rattle.oc_top.specs.Verdict.{image_of}

-- the bytes of the image of each program that a source of at
-- most 1 MiB spells are those of an image that breaks no rule
abbrev pub BuiltImagesAreAdmitted : Type 0
BuiltImagesAreAdmitted =
    (source : List ℕ) (p : TProgram) → length source ≤ source_limit → ReadsAs source (program p)
    → IsAdmitted (image_of p) (program_code p)

-- where `build --image` prints this image of a source, the verdict on `exec` of it is the verdict on `run` of the
-- source, with the same supply, sensors and power
abbrev pub BuiltImagesRun : Type 0
BuiltImagesRun =
    (source image sensors power : List ℕ)
    (plan : Plan) (meters : Option (List Reading)) (run : Verdict)
    → length source ≤ source_limit → IsJudged (source ∷ []) imaging (prints image)
    → IsJudged (image ∷ sensors ∷ power ∷ []) (executing plan) run
    ↔ IsJudged (source ∷ sensors ∷ power ∷ []) (report plan meters) run

-- where `build --image` prints this image of a source, the verdict on `exec` of it has neither the
-- status of bytes that are no image's nor that of an image that breaks a rule
abbrev pub BuiltImagesAreNotRefused : Type 0
BuiltImagesAreNotRefused =
    (source image sensors power : List ℕ) (plan : Plan) (run : Verdict)
    → length source ≤ source_limit → IsJudged (source ∷ []) imaging (prints image)
    → IsJudged (image ∷ sensors ∷ power ∷ []) (executing plan) run
    → (status_of run.answer ≡ 16) ⊎ (status_of run.answer ≡ 17) → ⊥
