-- The answers to `off` and `dark`.
use Rattle.std.specs.Prelude.{ℕ, ℤ, List, [], ◌∷◌, ◌++◌, Option, Some}
use Rattle.oc_tree.specs.Tree.{TProgram}
use Rattle.oc_tree.specs.Marked.{TRegion}
use Rattle.oc_tree.specs.Said.{Told}
use Rattle.oc_tree.specs.declared.said.Said.TheVariants.{Off, Dark}
use Rattle.oc_honest.specs.Honest.{IsHonestSoFar}
use Rattle.oc_steps.specs.Fold.{Watch, off}
use Rattle.oc_steps.specs.Watching.{IsWatch, IsAnswer}
use Rattle.oc_steps.specs.Erasing.{item}

pub record RestsRight : Type 0 where
  pub dark : (p : TProgram) (regions : List TRegion) (nv : Option (List ℤ))
      (q : List Told) (t : ℕ) (w : Watch) → IsHonestSoFar p regions nv q → IsWatch p regions q w
      → IsAnswer p regions nv (q ++ item t Dark ∷ []) (Some w)
  pub offs : (p : TProgram) (regions : List TRegion) (nv : Option (List ℤ))
      (q : List Told) (t m : ℕ) (w : Watch) → IsHonestSoFar p regions nv q → IsWatch p regions q w
      → IsAnswer p regions nv (q ++ item t (Off m) ∷ []) (off p nv w)
