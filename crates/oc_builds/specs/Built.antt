-- The images of marked programs, and what the verifier asks of images.
use Rattle.std.specs.Prelude.{ℕ}
use Rattle.std.specs.List.{All}
use Rattle.oc_lex.specs.Stands.{IsName}
use Rattle.oc_tree.specs.Marked.{TMarked, IsMarked}
use Rattle.oc_isa.specs.Bytes.{IsSmall, image_bytes}
use Rattle.oc_isa.specs.Image.{Parts}
use Rattle.oc_verify.specs.Reading.{AreImage}
use Rattle.oc_verify.specs.Rules.{Broken}
use Rattle.oc_writes.specs.Targets.{may_write}
use Rattle.oc_code.specs.Code.{code_of}

-- the image of a marked program, in which each region may overwrite what it may write, breaks no rule of images
abbrev pub MarkedImagesBreakNoRule : Type 0
MarkedImagesBreakNoRule =
    (m : TMarked) → IsMarked m → (address rule : ℕ)
    → Broken (code_of m.program m.regions (may_write m)) address rule → ⊥

-- where its names are names of the language and its lengths fit
-- the numbers of a file, a file of its bytes holds this image
abbrev pub FitsFiles : Parts → Type 0
FitsFiles image =
    IsSmall image → All (λ f. IsName f.name) image.functions → AreImage (image_bytes image) image

-- so it is with the image of a marked program
abbrev pub MarkedImagesFitFiles : Type 0
MarkedImagesFitFiles =
    (m : TMarked) → IsMarked m → FitsFiles (code_of m.program m.regions (may_write m))
