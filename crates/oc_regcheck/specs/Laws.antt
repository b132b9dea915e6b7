-- What is so where blocks suffice.
use Rattle.std.specs.Prelude.{ℕ, List}
use Rattle.oc_tree.specs.Tree.{TProgram}
use Rattle.oc_tree.specs.Checked.{Group, TChecked, IsChecked}
use Rattle.oc_flow.specs.Laws.{Decides}
use Rattle.oc_honest.specs.Timely.{RunsAreTimely}
use Rattle.oc_regcheck.specs.Enough.{AreStatements, AreCovered, Guarded, is_guarded}
use Rattle.oc_regcheck.specs.BlockMarks.{blocks_marked}

-- the test of guarded functions decides the relation
abbrev pub GuardsDecide : Type 0
GuardsDecide =
    (p : TProgram) (groups : List Group) → IsChecked p groups
    → (blocks : List ℕ) (f : ℕ) → Decides (is_guarded p blocks f) (Guarded p blocks f)

-- where each requirement is in a block or in a guarded function, each run is timely with outages outside of blocks
abbrev pub BlocksHold : Type 0
BlocksHold =
    (c : TChecked) → IsChecked c.program c.groups
    → (blocks : List ℕ) → AreStatements c.program blocks
    → AreCovered c.program blocks → RunsAreTimely (blocks_marked c blocks)
