-- An operator in two steps: what its left side decides alone, and what both sides give.
use Rattle.std.specs.Prelude.{ℤ, Bool, false, not}
use Rattle.oc_tree.specs.Word.{truth}
use Rattle.oc_tree.specs.declared.tree.BinaryOp.{BinaryOp}
use Rattle.oc_tree.specs.declared.tree.BinaryOp.TheVariants.{Or, And}
use Rattle.oc_meaning.specs.Store.{Value}
use Rattle.oc_meaning.specs.Eval.{Got, and_got, depending, is_zero, operated}

-- whether this left side decides
abbrev pub decides : BinaryOp → ℤ → Bool
decides And x = is_zero x
decides Or x = not (is_zero x)
decides op x = false

-- the value of an operator whose left side decides
abbrev pub decided : Value → Value
decided x = record { num = truth (not (is_zero x.num)); samples = x.samples }

-- the value where it doesn't
abbrev pub joined : BinaryOp → Value → Got → Got
joined And x g = depending x.samples g
joined Or x g = depending x.samples g
joined op x g = and_got g (λ y. operated op x y)
