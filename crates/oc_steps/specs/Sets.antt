-- What expressions evaluate to, whatever the union of two sets of samples is.
use Rattle.std.specs.Prelude.{ℕ, ℤ, pos, List, [], ◌∷◌, length, Option, Some, None, if◌then◌else◌}
use Rattle.oc_tree.specs.Names.{Text}
use Rattle.oc_tree.specs.Tree.{TExpr, number, truth, variable, index, deref, unary, binary, sensed, called, TArg, value, shared, mutable, TArgs, no_args, more_args, TKind}
use Rattle.oc_tree.specs.Word.{truth as word_of_truth}
use Rattle.oc_tree.specs.declared.tree.BinaryOp.{BinaryOp}
use Rattle.oc_tree.specs.declared.tree.BinaryOp.TheVariants.{Or, And}
use Rattle.oc_tree.specs.declared.said.TrapKind.TheVariants.{Index}
use Rattle.oc_meaning.specs.Store.{Value, Held, Place, Store, Binding, plain, value_in, held_at, place_of, put}
use Rattle.std.specs.Prelude.{slice_index_or, slice_set}
use Rattle.oc_meaning.specs.Eval.{Got, Val, Traps, and_got, given, apply, is_zero, element_of, unary_value}
use Rattle.oc_meaning.specs.Exec.{Outcome, Went, Passing, Passes, Lent, passed_first, value_first, passed_on, trapped}
use Rattle.oc_tree.specs.Named.{own_names}
use Rattle.oc_meaning.specs.Uses.{is_fresh}
use Rattle.oc_tree.specs.declared.said.TrapKind.TheVariants as traps

module _ (join : List ℕ → List ℕ → List ℕ) where
  abbrev pub depending_by : List ℕ → Got → Got
  depending_by samples g =
      and_got g (λ y. Val (record { num = y.num; samples = join samples y.samples }))

  abbrev pub operated_by : BinaryOp → Value → Value → Got
  operated_by op x y = given (apply op x.num y.num) (join x.samples y.samples)

  abbrev pub and_then_by : Value → Got → Got
  and_then_by x g =
      if is_zero x.num
      then Val (record { num = pos 0; samples = x.samples }) else depending_by x.samples g

  abbrev pub or_else_by : Value → Got → Got
  or_else_by x g =
      if is_zero x.num
      then depending_by x.samples g else Val (record { num = pos 1; samples = x.samples })

  abbrev pub combined_by : BinaryOp → Got → Got → Got
  combined_by And g h = and_got g (λ x. and_then_by x h)
  combined_by Or g h = and_got g (λ x. or_else_by x h)
  combined_by op g h = and_got g (λ x. and_got h (λ y. operated_by op x y))

  abbrev pub element_by : Held → Option ℕ → List ℕ → Got
  element_by h None samples = Traps Index
  element_by h (Some i) samples =
      Val (record { num = slice_index_or h.words i (pos 0); samples = join h.samples samples })

  abbrev pub value_by : List Binding → Store → TExpr → Got
  value_by env σ (number z) = Val (plain z)
  value_by env σ (truth b) = Val (plain (word_of_truth b))
  value_by env σ (variable x) = Val (value_in (held_at σ (place_of env x)))
  value_by env σ (deref x) = Val (value_in (held_at σ (place_of env x)))
  value_by env σ (index x e) =
      and_got (value_by env σ e) (λ i. element_by (held_at σ (place_of env x))
      (element_of (length (held_at σ (place_of env x)).words) i.num) i.samples)
  value_by env σ (unary op e) = unary_value op (value_by env σ e)
  value_by env σ (binary op a b) = combined_by op (value_by env σ a) (value_by env σ b)
  value_by env σ (sensed s) = Val (plain (pos 0))
  value_by env σ (called c) = Val (plain (pos 0))

  abbrev pub fresh_by : List Binding → Store → List Text → List ℕ
  fresh_by env σ [] = []
  fresh_by env σ (x ∷ xs) =
      if is_fresh env x
      then join (held_at σ (place_of env x)).samples (fresh_by env σ xs) else fresh_by env σ xs

  abbrev pub use_by : List Binding → TKind → Store → List ℕ
  use_by env k σ = fresh_by env σ (own_names k)

  abbrev pub arg_by : List Binding → Store → TArg → Passing → Passing
  arg_by env σ (value e) rest = value_first (passed_on env e) (value_by env σ e) rest
  arg_by env σ (shared x) rest = passed_first (Lent (place_of env x)) rest
  arg_by env σ (mutable x) rest = passed_first (Lent (place_of env x)) rest

  abbrev pub args_by : List Binding → Store → TArgs → Passing
  args_by env σ no_args = Passes []
  args_by env σ (more_args a rest) = arg_by env σ a (args_by env σ rest)

  abbrev pub with_element_by : Held → ℕ → ℤ → List ℕ → Held
  with_element_by h i z samples =
      record { words = slice_set h.words i z; samples = join h.samples samples }

  abbrev pub element_written_by : Place → Option ℕ → Value → Value → ℕ → Store → Outcome
  element_written_by p None i v n σ = trapped traps.Index n σ
  element_written_by p (Some e) i v n σ =
      Went (put σ p (with_element_by (held_at σ p) e v.num (join i.samples v.samples)))
