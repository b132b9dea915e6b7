-- A turn of a `for`, and its end.
use Rattle.std.proofs.Common.{◌≡◌, refl, ap, true, false, List, ◌∷◌, arith}
use Rattle.std.specs.Prelude.{ℤ, pos, negsuc, ◌+ℤ◌, ◌-ℤ◌, ◌≤ℤ◌, int_lt}
use Rattle.std.proofs.lemmas.Int.{ints}
use Rattle.oc_tree.specs.Names.{Text}
use Rattle.oc_tree.specs.Tree.{TBlock, TProgram}
use Rattle.oc_tree.specs.Marked.{TRegion}
use Rattle.oc_tree.specs.Weight.{count_of}
use Rattle.oc_meaning.specs.Store.{Binding, Store}
use Rattle.oc_meaning.specs.Exec.{Went, in_turn}
use Rattle.oc_meaning.proofs.Turns.{count_more}
use Rattle.oc_steps.specs.Ages.{join_ages, of_ages}
use Rattle.oc_steps.specs.Steps.{Frame, Goes, Inside, Turns, begin, step_turns}

count_none : (d : ℤ) → d ≤ℤ pos 0 → count_of d ≡ 0
count_none (pos n) h = omega (arith, ints)
count_none (negsuc n) h = refl

module _ (p : TProgram) (rs : List TRegion) (f : Inside) (x : Text) (b : TBlock) (env : List Binding) (fs : List Frame) (σ : Store) where
  pub turn_over : (i to : ℤ) → int_lt i to ≡ false → step_turns p rs join_ages of_ages f x (count_of (to -ℤ i)) i b env fs σ ≡ Goes fs (Went σ)
  turn_over i to h = ap (λ t. step_turns p rs join_ages of_ages f x t i b env fs σ) (count_none (to -ℤ i) (omega (arith, ints)))

  pub turn_more : (i to : ℤ) → int_lt i to ≡ true → step_turns p rs join_ages of_ages f x (count_of (to -ℤ i)) i b env fs σ
      ≡ begin of_ages f (in_turn x i ∷ env) b (Turns f x (count_of (to -ℤ (i +ℤ pos 1))) (i +ℤ pos 1) b env ∷ fs) σ
  turn_more i to h = ap (λ t. step_turns p rs join_ages of_ages f x t i b env fs σ) (count_more i to h)
