-- Loops with nothing in them, and ends that say nothing.
use Rattle.std.specs.Prelude.{◌≡◌, ◌<◌, ℕ, zero, suc, ℤ, List, ◌∷◌}
use Rattle.oc_tree.specs.Names.{Text}
use Rattle.oc_tree.specs.Tree.{TProgram, block, no_stmts}
use Rattle.oc_tree.specs.Marked.{TRegion}
use Rattle.oc_meaning.specs.Store.{Binding}
use Rattle.oc_steps.specs.Ages.{one_more}
use Rattle.oc_steps.specs.Steps.{Frame, Inside, Turns}
use Rattle.oc_steps.specs.Fold.{Way, Went_on, steps_on}

-- so many more of this block
abbrev pub more_times : ℕ → ℕ → List ℕ → List ℕ
more_times zero id counts = counts
more_times (suc n) id counts = more_times n id (one_more id counts)

-- so many turns of a `for` whose body, this block, is empty stand before what else is left to do
pub record HasTurns (before behind : List Frame) (id times : ℕ) : Type 0 where
  pub inside : Inside
  pub name : Text
  pub next : ℤ
  pub env : List Binding
  pub is : before ≡ Turns inside name times next (block id no_stmts) env ∷ behind
  pub some : 0 < times

module _ (p : TProgram) (regions : List TRegion) where
  -- some steps on, it went on to this
  pub record Reaches (before now : Way) : Type 0 where
    pub steps : ℕ
    pub is : steps_on p regions steps before ≡ Went_on now
