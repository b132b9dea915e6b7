-- What an expression evaluates to.
use Rattle.std.specs.Prelude.{ℕ, ℤ, pos, negsuc, Bool, not, List, Option, Some, None, if◌then◌else◌, int_lt, int_le, length, nat_lt, slice_index_or}
use Rattle.std.specs.Ordering.{int_eq}
use Rattle.oc_tree.specs.Word.{truth as word_of_truth, sum_of, difference_of, product_of, quotient_of, remainder_of, unary_of}
use Rattle.oc_tree.specs.Tree.{TExpr, number, truth, variable, index, deref, unary, binary, sensed, called}
use Rattle.oc_tree.specs.declared.said.TrapKind.{TrapKind}
use Rattle.oc_tree.specs.declared.said.TrapKind.TheVariants.{Zero, Index}
use Rattle.oc_tree.specs.declared.tree.UnaryOp.{UnaryOp}
use Rattle.oc_tree.specs.declared.tree.BinaryOp.{BinaryOp}
use Rattle.oc_tree.specs.declared.tree.BinaryOp.TheVariants.{Or, And, Eq, Ne, Lt, Le, Gt, Ge, Add, Sub, Mul, Div, Rem}
use Rattle.oc_tree.specs.Samples.{union}
use Rattle.oc_meaning.specs.Store.{Value, Held, Store, Binding, plain, value_in, held_at, place_of}

-- what an expression evaluates to
pub data Got : Type 0 where
  -- a value
  Val : Value → Got
  -- no value, since it traps in this way
  Traps : TrapKind → Got

-- whether a number is 0, which is also the truth `false`
abbrev pub is_zero : ℤ → Bool
is_zero z = int_eq z (pos 0)

-- what an operator makes of two numbers: none where a divisor is 0. `&&` and `||`, which may skip a
-- side, aren't evaluated so
abbrev pub apply : BinaryOp → ℤ → ℤ → Option ℤ
apply Add x y = Some (sum_of x y)
apply Sub x y = Some (difference_of x y)
apply Mul x y = Some (product_of x y)
apply Div x y = quotient_of x y
apply Rem x y = remainder_of x y
apply Eq x y = Some (word_of_truth (int_eq x y))
apply Ne x y = Some (word_of_truth (not (int_eq x y)))
apply Lt x y = Some (word_of_truth (int_lt x y))
apply Le x y = Some (word_of_truth (int_le x y))
apply Gt x y = Some (word_of_truth (int_lt y x))
apply Ge x y = Some (word_of_truth (int_le y x))
apply op x y = None

-- the value of an operator, which depends on these samples; where it has none, a divisor was 0
abbrev pub given : Option ℤ → List ℕ → Got
given None samples = Traps Zero
given (Some z) samples = Val (record { num = z; samples = samples })

-- on with the value of an expression, unless it traps
abbrev pub and_got : Got → (Value → Got) → Got
and_got (Val x) f = f x
and_got (Traps k) f = Traps k

-- a value that depends on these samples too
abbrev pub depending : List ℕ → Got → Got
depending samples g =
    and_got g (λ y. Val (record { num = y.num; samples = union samples y.samples }))

-- an operator applied to two values: what it gives depends on the samples of both
abbrev pub operated : BinaryOp → Value → Value → Got
operated op x y = given (apply op x.num y.num) (union x.samples y.samples)

-- `&&` behind its left side: the right side is evaluated only where the left one is true
abbrev pub and_then : Value → Got → Got
and_then x g =
    if is_zero x.num
    then Val (record { num = pos 0; samples = x.samples }) else depending x.samples g

-- `||` behind its left side: the right side is evaluated only where the left one is false
abbrev pub or_else : Value → Got → Got
or_else x g =
    if is_zero x.num
    then depending x.samples g else Val (record { num = pos 1; samples = x.samples })

-- what an operator with two sides evaluates to, where the sides evaluate to these
abbrev pub combined : BinaryOp → Got → Got → Got
combined And g h = and_got g (λ x. and_then x h)
combined Or g h = and_got g (λ x. or_else x h)
combined op g h = and_got g (λ x. and_got h (λ y. operated op x y))

-- what an operator with one side evaluates to
abbrev pub unary_value : UnaryOp → Got → Got
unary_value op g = and_got g (λ x. Val (record { num = unary_of op x.num; samples = x.samples }))

-- which element a number names, of so many
abbrev pub element_of : ℕ → ℤ → Option ℕ
element_of count (pos i) = if nat_lt i count then Some i else None
element_of count (negsuc i) = None

-- an element depends on what its array and its index depend on
abbrev pub read_element : Held → Option ℕ → List ℕ → Got
read_element h None samples = Traps Index
read_element h (Some i) samples =
    Val (record { num = slice_index_or h.words i (pos 0); samples = union h.samples samples })

-- what an expression evaluates to; inputs and calls stand in no expression of an expansion
abbrev pub value_of : List Binding → Store → TExpr → Got
value_of env σ (number z) = Val (plain z)
value_of env σ (truth b) = Val (plain (word_of_truth b))
value_of env σ (variable x) = Val (value_in (held_at σ (place_of env x)))
value_of env σ (deref x) = Val (value_in (held_at σ (place_of env x)))
value_of env σ (index x e) =
    and_got (value_of env σ e) (λ i. read_element (held_at σ (place_of env x))
    (element_of (length (held_at σ (place_of env x)).words) i.num) i.samples)
value_of env σ (unary op e) = unary_value op (value_of env σ e)
value_of env σ (binary op a b) = combined op (value_of env σ a) (value_of env σ b)
value_of env σ (sensed s) = Val (plain (pos 0))
value_of env σ (called c) = Val (plain (pos 0))
