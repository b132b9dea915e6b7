-- How an operator's sides are evaluated.
use Rattle.std.specs.Prelude.{ℕ, ◌+◌, List, ◌++◌, length}
use Rattle.oc_tree.specs.declared.tree.BinaryOp.{BinaryOp}
use Rattle.oc_tree.specs.declared.tree.BinaryOp.TheVariants as ops
use Rattle.oc_isa.specs.declared.instr.Placed.{Placed}
use Rattle.oc_isa.specs.declared.instr.BinOp.TheVariants as bins
use Rattle.oc_isa.specs.declared.instr.Instr.TheVariants.{Bin}
use Rattle.oc_code.specs.Forms.{one, and_code, or_code}
use Rattle.oc_codegen.specs.declared.exprs.Sides.{Sides}
use Rattle.oc_codegen.specs.declared.exprs.Sides.TheVariants.{Both, FirstTrue, FirstFalse}

abbrev pub sides_of : BinaryOp → Sides
sides_of ops.Or = FirstFalse
sides_of ops.And = FirstTrue
sides_of ops.Eq = Both bins.Eq
sides_of ops.Ne = Both bins.Ne
sides_of ops.Lt = Both bins.Lt
sides_of ops.Le = Both bins.Le
sides_of ops.Gt = Both bins.Gt
sides_of ops.Ge = Both bins.Ge
sides_of ops.Add = Both bins.Add
sides_of ops.Sub = Both bins.Sub
sides_of ops.Mul = Both bins.Mul
sides_of ops.Div = Both bins.Div
sides_of ops.Rem = Both bins.Rem

-- an operator's code at the address p, by how its sides are evaluated
abbrev pub sides_code : ℕ → ℕ → Sides → List Placed → (ℕ → List Placed) → List Placed
sides_code n p FirstTrue a b = and_code n p a (b (p + length a + 1))
sides_code n p FirstFalse a b = or_code n p a (b (p + length a + 3))
sides_code n p (Both op) a b = a ++ (b (p + length a) ++ one n (Bin op))
