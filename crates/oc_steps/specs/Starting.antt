-- Before the first item, and after an item that tells nothing.
use Rattle.std.specs.Prelude.{suc, List, [], length, codes}
use Rattle.oc_tree.specs.Marked.{TRegion}
use Rattle.oc_tree.specs.Tree.{TProgram}
use Rattle.oc_tree.specs.Samples.{union}
use Rattle.oc_meaning.specs.Run.{first_store}
use Rattle.oc_steps.specs.Steps.{Step, Goes, Asks, Over, step_passed, of_samples}
use Rattle.oc_steps.specs.Heard.{Under}

-- the first frames are those of the run of `main`, over any samples
abbrev pub Starts : TProgram → List TRegion → Step → Type 0
Starts p regions (Goes fs o) = Under p regions [] [] fs o
Starts p regions (Asks s fs σ) = ⊥
Starts p regions Over = ⊥

abbrev pub StartsRight : Type 0
StartsRight =
    (p : TProgram) (regions : List TRegion) → Starts p regions (step_passed
    p regions union of_samples (suc (length p.functions)) (codes "main") [] [] (first_store p []))
