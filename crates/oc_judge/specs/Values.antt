-- Ages and values in the meaning's terms.
use Rattle.std.specs.Prelude.{ℕ, List, [], ◌∷◌}
use Rattle.oc_meaning.specs.Store as meant
use Rattle.oc_meaning.specs.Eval as evals
use Rattle.oc_steps.specs.Ages.{mixed}
use Rattle.oc_judge.specs.declared.age.Age.{Age}
use Rattle.oc_judge.specs.declared.age.Age.TheVariants as ages
use Rattle.oc_judge.specs.declared.age.Value.{Value}
use Rattle.oc_judge.specs.declared.age.Got.{Got}
use Rattle.oc_judge.specs.declared.age.Got.TheVariants as gots

abbrev pub age_view : Age → List ℕ
age_view ages.Never = []
age_view (ages.Once n) = n ∷ []
age_view ages.Mixed = mixed

abbrev pub value_view : Value → meant.Value
value_view v = record { num = v.number; samples = age_view v.age }

abbrev pub got_view : Got → evals.Got
got_view (gots.Value v) = evals.Val (value_view v)
got_view (gots.Traps k) = evals.Traps k
