-- The lines of a file, by examples.
use Rattle.std.specs.Prelude.{◌≡◌, refl, [], ◌∷◌, codes}
use Rattle.oc_audit.specs.Files.{lines}

-- an unfinished last piece is a line too
pub lines_example : lines (codes "1 dark\nnv") ≡ codes "1 dark" ∷ codes "nv" ∷ []
lines_example = refl

pub lines_example_finished : lines (codes "1 dark\n") ≡ codes "1 dark" ∷ []
lines_example_finished = refl
