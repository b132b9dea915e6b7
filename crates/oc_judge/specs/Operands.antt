-- What both sides of an operator give, where the left one doesn't decide.
use Rattle.std.specs.Prelude.{ℕ, List}
use Rattle.oc_tree.specs.declared.tree.BinaryOp.{BinaryOp}
use Rattle.oc_tree.specs.declared.tree.BinaryOp.TheVariants.{Or, And}
use Rattle.oc_meaning.specs.Store.{Value}
use Rattle.oc_meaning.specs.Eval.{Got, and_got}
use Rattle.oc_steps.specs.Sets.{depending_by, operated_by}

abbrev pub joined_by : (List ℕ → List ℕ → List ℕ) → BinaryOp → Value → Got → Got
joined_by join And x g = depending_by join x.samples g
joined_by join Or x g = depending_by join x.samples g
joined_by join op x g = and_got g (λ y. operated_by join op x y)
