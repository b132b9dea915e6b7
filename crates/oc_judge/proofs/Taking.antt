-- Values of right sides.
use Rattle.std.proofs.Common.{◌∙◌, List, ◌∷◌, Option, Some, None}
use Rattle.std.specs.Prelude.{IfSome}
use Rattle.oc_tree.specs.Tree.{TKind, TRight}
use Rattle.oc_meaning.specs.Store.{Binding, Store}
use Rattle.oc_steps.specs.Steps.{Take}
use Rattle.oc_judge.specs.Leading.{HasValue, Takes, TakesRight}
use Rattle.oc_judge.specs.Values.{value_view}
use Rattle.oc_judge.specs.declared.age.Value.{Value}

pub takes_right : (env : List Binding) (σ : Store) (k : TKind) (r : TRight) (o : Option Value) → TakesRight k r → IfSome o (λ v. HasValue env σ r (value_view v))
    → IfSome o (λ v. Takes env σ k (value_view v))
takes_right env σ k r None t h = tt
takes_right env σ k r (Some v) t h = λ p rs f n fs. t p rs f env n fs σ ∙ h p rs f n (Take env n k ∷ fs)
