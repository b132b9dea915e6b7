-- A part has as many pulls as are counted.
use Rattle.std.proofs.Common.{◌≡◌, ℕ, ◌+◌, [], ◌∷◌, length, refl, arith}
use Rattle.std.proofs.lemmas.List.{length-append}
use Rattle.oc_tree.specs.Tree.{TExpr, number, truth, variable, index, deref, unary, binary, sensed, called, TArg, value, shared, mutable, TCall, call, TArgs, no_args, more_args}
use Rattle.oc_tree.specs.Tree.{TRight, right_value, right_sense, right_call, TKind, let_to, let_array, assign, assign_index, assign_deref, if_else, for_in, while_do, call_only}
use Rattle.oc_tree.specs.Tree.{sense_only, emit, fresh, consistent, return}
use Rattle.oc_tree.specs.Pulls.{expr_pulls, call_pulls, args_pulls, arg_pulls, right_pulls, own_pulls}
use Rattle.oc_tree.specs.Expansion.{pulled_expr, pulled_call, pulled_args, pulled_arg, pulled_right, pulled, left_call}

mutual
  pub length_expr : (k : ℕ) (e : TExpr) → length (pulled_expr k e) ≡ expr_pulls e
  length_expr k (number n) = refl
  length_expr k (truth b) = refl
  length_expr k (variable x) = refl
  length_expr k (index x e) = length_expr k e
  length_expr k (deref x) = refl
  length_expr k (unary op e) = length_expr k e
  length_expr k (binary op a b) = omega (arith, length-append (pulled_expr k a) (pulled_expr (k + expr_pulls a) b), length_expr k a, length_expr (k + expr_pulls a) b)
  length_expr k (sensed s) = refl
  length_expr k (called c) = omega (arith, length-append (pulled_call k c) (right_call (left_call k c) ∷ []), length_call k c)

  pub length_call : (k : ℕ) (c : TCall) → length (pulled_call k c) ≡ call_pulls c
  length_call k (call f args) = length_args k args

  pub length_args : (k : ℕ) (xs : TArgs) → length (pulled_args k xs) ≡ args_pulls xs
  length_args k no_args = refl
  length_args k (more_args a rest) = omega (arith, length-append (pulled_arg k a) (pulled_args (k + arg_pulls a) rest), length_arg k a, length_args (k + arg_pulls a) rest)

  pub length_arg : (k : ℕ) (a : TArg) → length (pulled_arg k a) ≡ arg_pulls a
  length_arg k (value e) = length_expr k e
  length_arg k (shared x) = refl
  length_arg k (mutable x) = refl

pub length_right : (k : ℕ) (r : TRight) → length (pulled_right k r) ≡ right_pulls r
length_right k (right_value e) = length_expr k e
length_right k (right_sense s) = refl
length_right k (right_call c) = length_call k c

pub length_pulled : (k : ℕ) (s : TKind) → length (pulled k s) ≡ own_pulls s
length_pulled k (let_to m x t r) = length_right k r
length_pulled k (let_array m x t z n) = refl
length_pulled k (assign x r) = length_right k r
length_pulled k (assign_index x e r) = omega (arith, length-append (pulled_expr k e) (pulled_right (k + expr_pulls e) r), length_expr k e, length_right (k + expr_pulls e) r)
length_pulled k (assign_deref x r) = length_right k r
length_pulled k (if_else c a b) = length_expr k c
length_pulled k (for_in x m n b) = refl
length_pulled k (while_do c n b) = length_expr k c
length_pulled k (call_only c) = length_call k c
length_pulled k (sense_only s) = refl
length_pulled k (emit p e) = length_expr k e
length_pulled k (fresh x) = refl
length_pulled k (consistent x n) = refl
length_pulled k (return e) = length_expr k e
