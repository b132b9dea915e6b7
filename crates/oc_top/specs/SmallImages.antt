-- Images are small enough for a file.
use Rattle.std.specs.Prelude.{ℕ, ◌≤◌, List, length}
use Rattle.oc_lex.specs.Limits.{source_limit}
use Rattle.oc_tree.specs.Tree.{TProgram}
use Rattle.oc_isa.specs.Bytes.{IsSmall}
use Rattle.oc_top.specs.Meant.{program_code}
use Rattle.oc_top.specs.Sources.{ReadsAs, program}

-- the image of each program that a source of at most 1 MiB spells is small enough for a file
abbrev pub ImagesAreSmall : Type 0
ImagesAreSmall =
    (source : List ℕ) (p : TProgram)
    → length source ≤ source_limit → ReadsAs source (program p) → IsSmall (program_code p)
