-- An operator's code, by how its sides are evaluated.
use Rattle.std.proofs.Common.{◌≡◌, ℕ, ◌+◌, List, length, refl, ap, ◌∙◌}
use Rattle.oc_tree.specs.declared.tree.BinaryOp.{BinaryOp}
use Rattle.oc_tree.specs.declared.tree.BinaryOp.TheVariants as ops
use Rattle.oc_isa.specs.declared.instr.Placed.{Placed}
use Rattle.oc_code.specs.Forms.{binary_code, and_code, or_code}
use Rattle.oc_codegen.specs.Ops.{sides_of, sides_code}
use Rattle.oc_codegen.specs.declared.exprs.Sides.TheVariants.{FirstTrue, FirstFalse}

pub by_sides : (n p : ℕ) (op : BinaryOp) (a : List Placed) (b : ℕ → List Placed) → binary_code n p op a b ≡ sides_code n p (sides_of op) a b
by_sides n p ops.Or a b = refl
by_sides n p ops.And a b = refl
by_sides n p ops.Eq a b = refl
by_sides n p ops.Ne a b = refl
by_sides n p ops.Lt a b = refl
by_sides n p ops.Le a b = refl
by_sides n p ops.Gt a b = refl
by_sides n p ops.Ge a b = refl
by_sides n p ops.Add a b = refl
by_sides n p ops.Sub a b = refl
by_sides n p ops.Mul a b = refl
by_sides n p ops.Div a b = refl
by_sides n p ops.Rem a b = refl

pub and_sides : (n p : ℕ) (op : BinaryOp) (a : List Placed) (b : ℕ → List Placed) → sides_of op ≡ FirstTrue → binary_code n p op a b ≡ and_code n p a (b (p + length a + 1))
and_sides n p op a b h = by_sides n p op a b ∙ ap (λ s. sides_code n p s a b) h

pub or_sides : (n p : ℕ) (op : BinaryOp) (a : List Placed) (b : ℕ → List Placed) → sides_of op ≡ FirstFalse → binary_code n p op a b ≡ or_code n p a (b (p + length a + 3))
or_sides n p op a b h = by_sides n p op a b ∙ ap (λ s. sides_code n p s a b) h
