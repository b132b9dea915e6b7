-- Runs that are over.
use Rattle.std.specs.Prelude.{◌≡◌, ◌≢◌, ℤ, List, [], ◌∷◌, ◌++◌}
use Rattle.oc_tree.specs.Tree.{TProgram}
use Rattle.oc_tree.specs.Marked.{TRegion}
use Rattle.oc_tree.specs.declared.said.Ending.{Ending}
use Rattle.oc_tree.specs.declared.said.Said.{Said}
use Rattle.oc_tree.specs.declared.said.Said.TheVariants.{Ended}
use Rattle.oc_meaning.specs.Run.{AtShort, marked_run, said_in}

-- a run that says last that it is over wants no sample
abbrev pub EndedWantsNone : Type 0
EndedWantsNone =
    (p : TProgram) (regions : List TRegion) (samples : List ℤ) (before : List Said) (how : Ending)
    → said_in (marked_run p regions samples) ≡ before ++ Ended how ∷ []
    → (marked_run p regions samples).ending ≢ AtShort
