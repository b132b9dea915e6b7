-- How long the code of expressions and arguments is at most: four instructions for each node, and one for each argument
-- besides.
use Rattle.std.proofs.Common.{◌≡◌, ◌≤◌, ℕ, ◌+◌, ◌*◌, List, ◌∷◌, ◌++◌, length, Option, Some, None, refl, arith, length-append}
use Rattle.std.specs.Prelude.{pos}
use Rattle.oc_tree.specs.Tree.{TExpr, number, truth, variable, index, deref, unary, binary, sensed, called, TArg, value, shared, mutable, TArgs, no_args, more_args}
use Rattle.oc_tree.specs.declared.tree.BinaryOp.{BinaryOp}
use Rattle.oc_tree.specs.declared.tree.BinaryOp.TheVariants as ops
use Rattle.oc_tree.specs.Nodes.{expr_nodes, arg_nodes, args_nodes}
use Rattle.oc_tree.specs.Rules.{args_list}
use Rattle.oc_isa.specs.declared.instr.Placed.{Placed}
use Rattle.oc_isa.specs.declared.instr.Instr.TheVariants.{Jfalse, Jump, Push, Bin, Un, Index, Get}
use Rattle.oc_code.specs.Scope.{Slot, InFrame, ByAddress, InNv, NoSlot, Named, slot_of, words_of, passed_slot}
use Rattle.oc_code.specs.Forms.{placed, one, read_code, base_code, bin_of, binary_code, expr_code, value_code, arg_code, args_code}

module _ (n : ℕ) where
  -- a scalar's value
  read_short : (s : Slot) → length (read_code n s) ≤ 2
  read_short (InFrame s) = omega arith
  read_short (ByAddress s) = omega arith
  read_short (InNv a) = omega arith
  read_short NoSlot = omega arith

  -- a variable's address
  pub base_short : (s : Slot) → length (base_code n s) ≡ 1
  base_short (InFrame s) = refl
  base_short (ByAddress s) = refl
  base_short (InNv a) = refl
  base_short NoSlot = refl

  -- an operator that takes one instruction
  plain_short : (op : BinaryOp) (a b : List Placed) (i j : ℕ) → length a ≤ 4 * i → length b ≤ 4 * j → length (a ++ (b ++ one n (Bin (bin_of op)))) ≤ 4 * (i + j + 1)
  plain_short op a b i j h g = omega (arith, length-append a (b ++ one n (Bin (bin_of op))), length-append b (one n (Bin (bin_of op))), h, g)

  -- an operator with both sides
  binary_short : (p : ℕ) (op : BinaryOp) (a : List Placed) (b : ℕ → List Placed) (i j : ℕ) → length a ≤ 4 * i → ((q : ℕ) → length (b q) ≤ 4 * j) → length (binary_code n p op a b) ≤ 4 * (i + j + 1)
  binary_short p ops.And a b i j h g =
      let c = b (p + length a + 1) in
      let last : List Placed = placed n (Jump (p + length a + 1 + length c + 2)) ∷ one n (Push (pos 0)) in
      omega (arith, length-append a (placed n (Jfalse (p + length a + 1 + length c + 1)) ∷ (c ++ last)), length-append c last, h, g (p + length a + 1))
  binary_short p ops.Or a b i j h g =
      let c = b (p + length a + 3) in
      let rest : List Placed = placed n (Jfalse (p + length a + 3)) ∷ (placed n (Push (pos 1)) ∷ (placed n (Jump (p + length a + 3 + length c)) ∷ c)) in
      omega (arith, length-append a rest, h, g (p + length a + 3))
  binary_short p ops.Add a b i j h g = plain_short ops.Add a (b (p + length a)) i j h (g (p + length a))
  binary_short p ops.Sub a b i j h g = plain_short ops.Sub a (b (p + length a)) i j h (g (p + length a))
  binary_short p ops.Mul a b i j h g = plain_short ops.Mul a (b (p + length a)) i j h (g (p + length a))
  binary_short p ops.Div a b i j h g = plain_short ops.Div a (b (p + length a)) i j h (g (p + length a))
  binary_short p ops.Rem a b i j h g = plain_short ops.Rem a (b (p + length a)) i j h (g (p + length a))
  binary_short p ops.Eq a b i j h g = plain_short ops.Eq a (b (p + length a)) i j h (g (p + length a))
  binary_short p ops.Ne a b i j h g = plain_short ops.Ne a (b (p + length a)) i j h (g (p + length a))
  binary_short p ops.Lt a b i j h g = plain_short ops.Lt a (b (p + length a)) i j h (g (p + length a))
  binary_short p ops.Le a b i j h g = plain_short ops.Le a (b (p + length a)) i j h (g (p + length a))
  binary_short p ops.Gt a b i j h g = plain_short ops.Gt a (b (p + length a)) i j h (g (p + length a))
  binary_short p ops.Ge a b i j h g = plain_short ops.Ge a (b (p + length a)) i j h (g (p + length a))

  -- an expression
  pub expr_short : (γ : List Named) (p : ℕ) (e : TExpr) → length (expr_code n γ p e) ≤ 4 * expr_nodes e
  expr_short γ p (variable x) = omega (arith, read_short (slot_of γ x))
  expr_short γ p (deref x) = omega (arith, read_short (slot_of γ x))
  expr_short γ p (index x e) =
      let last : List Placed = placed n (Index (words_of γ x)) ∷ one n Get in
      omega (arith, length-append (base_code n (slot_of γ x)) (expr_code n γ (p + 1) e ++ last), length-append (expr_code n γ (p + 1) e) last, base_short (slot_of γ x), expr_short γ (p + 1) e)
  expr_short γ p (unary op e) = omega (arith, length-append (expr_code n γ p e) (one n (Un op)), expr_short γ p e)
  expr_short γ p (binary op a b) = binary_short p op (expr_code n γ p a) (λ q. expr_code n γ q b) (expr_nodes a) (expr_nodes b) (expr_short γ p a) (λ q. expr_short γ q b)
  expr_short γ p x = omega arith

  -- an argument that is an expression
  value_short : (o : Option ℕ) (c : List Placed) (m : ℕ) → length c ≤ m → length (value_code n o c) ≤ m + 1
  value_short None c m h = omega (arith, h)
  value_short (Some s) c m h = omega arith

  -- an argument
  arg_short : (γ : List Named) (p : ℕ) (a : TArg) → length (arg_code n γ p a) ≤ 4 * arg_nodes a + 1
  arg_short γ p (value e) = value_short (passed_slot γ e) (expr_code n γ p e) (4 * expr_nodes e) (expr_short γ p e)
  arg_short γ p (shared x) = omega (arith, base_short (slot_of γ x))
  arg_short γ p (mutable x) = omega (arith, base_short (slot_of γ x))

  -- arguments
  pub args_short : (γ : List Named) (p : ℕ) (args : TArgs) → length (args_code n γ p args) ≤ 4 * args_nodes args + length (args_list args)
  args_short γ p no_args = omega arith
  args_short γ p (more_args a rest) =
      let c = arg_code n γ p a in
      omega (arith, length-append c (args_code n γ (p + length c) rest), arg_short γ p a, args_short γ (p + length c) rest)
