-- What a run may say: the parts of its trace.
use Rattle.std.specs.Prelude.{ℕ, ℤ, ◌≡◌, List, [], ◌∷◌}
use Rattle.oc_tree.specs.declared.said.Said.{Said}
use Rattle.oc_tree.specs.declared.said.Said.TheVariants.{Sensed, Showed, Entered, Committed, Ended}
use Rattle.oc_tree.specs.Tree.{TProgram}
use Rattle.oc_tree.specs.Marked.{TRegion}
use Rattle.oc_meaning.specs.Store.{Event}
use Rattle.oc_meaning.specs.Run.{marked_run}

-- a run may say this: no abort and no outage; and a mark depends on nothing
abbrev pub MayBe : Said → List ℕ → ℕ → Type 0
MayBe (Sensed s z) samples instance = Unit {0}
MayBe (Showed what) samples instance = Unit {0}
MayBe (Ended how) samples instance = Unit {0}
MayBe (Entered r) samples instance = (samples ≡ []) × (instance ≡ 0)
MayBe (Committed r) samples instance = (samples ≡ []) × (instance ≡ 0)
MayBe said samples instance = ⊥

-- these are events that a run may say
abbrev pub AreParts : List Event → Type 0
AreParts [] = Unit {0}
AreParts (e ∷ es) = MayBe e.said e.samples e.instance × AreParts es

-- the events of each run are such as a run may say
abbrev pub SaysParts : Type 0
SaysParts =
    (p : TProgram) (regions : List TRegion) (samples : List ℤ)
    → AreParts (marked_run p regions samples).events
