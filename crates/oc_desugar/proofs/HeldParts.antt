-- The temporaries of an expression's pulls, by its parts: those of a part are held where those of the whole are.
use Rattle.std.proofs.Common.{◌≡◌, ℕ, ◌+◌, List, [], ◌∷◌, ◌++◌, length, refl, subst, arith, Some}
use Rattle.oc_tree.specs.Tree.{TExpr, number, truth, variable, index, deref, unary, binary, sensed, called, TArg, value, shared, mutable, TCall, call, TArgs, no_args, more_args}
use Rattle.oc_tree.specs.Tree.{TRight, right_value, right_sense, right_call, TKind, let_to, let_array, assign, assign_index, assign_deref, if_else, for_in, while_do, call_only}
use Rattle.oc_tree.specs.Tree.{sense_only, emit, fresh, consistent, return, TProgram}
use Rattle.oc_tree.specs.declared.tree.Scalar.TheVariants as scalars
use Rattle.oc_tree.specs.Pulls.{expr_pulls, call_pulls, arg_pulls}
use Rattle.oc_tree.specs.Scope.{Scope}
use Rattle.oc_tree.specs.Types.{call_type}
use Rattle.oc_tree.specs.Expansion.{left_call, pulled_expr, pulled_call, pulled_args, pulled_arg, pulled_right}
use Rattle.oc_desugar.proofs.Seen.{IsHeld, HeldPulls, HeldOwn}
use Rattle.oc_desugar.proofs.Lengths.{length_expr, length_call, length_arg}

abbrev mutual
  pub HeldExpr : TProgram → Scope → ℕ → TExpr → Type 0
  HeldExpr p t k (number n) = Unit {0}
  HeldExpr p t k (truth b) = Unit {0}
  HeldExpr p t k (variable x) = Unit {0}
  HeldExpr p t k (index x e) = HeldExpr p t k e
  HeldExpr p t k (deref x) = Unit {0}
  HeldExpr p t k (unary op e) = HeldExpr p t k e
  HeldExpr p t k (binary op a b) = HeldExpr p t k a × HeldExpr p t (k + expr_pulls a) b
  HeldExpr p t k (sensed s) = IsHeld t k (Some scalars.Int)
  HeldExpr p t k (called c) = HeldCall p t k c × IsHeld t (k + call_pulls c) (call_type p c)

  pub HeldCall : TProgram → Scope → ℕ → TCall → Type 0
  HeldCall p t k (call f args) = HeldArgs p t k args

  pub HeldArgs : TProgram → Scope → ℕ → TArgs → Type 0
  HeldArgs p t k no_args = Unit {0}
  HeldArgs p t k (more_args a rest) = HeldArg p t k a × HeldArgs p t (k + arg_pulls a) rest

  pub HeldArg : TProgram → Scope → ℕ → TArg → Type 0
  HeldArg p t k (value e) = HeldExpr p t k e
  HeldArg p t k (shared x) = Unit {0}
  HeldArg p t k (mutable x) = Unit {0}

abbrev pub HeldRight : TProgram → Scope → ℕ → TRight → Type 0
HeldRight p t k (right_value e) = HeldExpr p t k e
HeldRight p t k (right_sense s) = Unit {0}
HeldRight p t k (right_call c) = HeldCall p t k c

-- of a statement itself
abbrev pub HeldKind : TProgram → Scope → ℕ → TKind → Type 0
HeldKind p t k (let_to m x n r) = HeldRight p t k r
HeldKind p t k (let_array m x n z w) = Unit {0}
HeldKind p t k (assign x r) = HeldRight p t k r
HeldKind p t k (assign_index x e r) = HeldExpr p t k e × HeldRight p t (k + expr_pulls e) r
HeldKind p t k (assign_deref x r) = HeldRight p t k r
HeldKind p t k (if_else c a b) = HeldExpr p t k c
HeldKind p t k (for_in x from to b) = Unit {0}
HeldKind p t k (while_do c n b) = HeldExpr p t k c
HeldKind p t k (call_only c) = HeldCall p t k c
HeldKind p t k (sense_only s) = Unit {0}
HeldKind p t k (emit port e) = HeldExpr p t k e
HeldKind p t k (fresh x) = Unit {0}
HeldKind p t k (consistent x n) = Unit {0}
HeldKind p t k (return e) = HeldExpr p t k e

-- ---- lists of pulls, one after the other

module _ (p : TProgram) (t : Scope) where
  pub held_front : (k : ℕ) (xs ys : List TRight) → HeldPulls p t k (xs ++ ys) → HeldPulls p t k xs
  held_front k [] ys h = tt
  held_front k (x ∷ xs) ys h = (h.0, held_front (k + 1) xs ys h.1)

  pub held_back : (k n : ℕ) (xs ys : List TRight) → length xs ≡ n → HeldPulls p t k (xs ++ ys) → HeldPulls p t (k + n) ys
  held_back k n [] ys e h = let z : k ≡ k + n = omega (arith, e) in subst (λ m. HeldPulls p t m ys) z h
  held_back k n (x ∷ xs) ys e h =
      let z : k + 1 + length xs ≡ k + n = omega (arith, e) in
      subst (λ m. HeldPulls p t m ys) z (held_back (k + 1) (length xs) xs ys refl h.1)

  -- ---- from the list to the parts

  mutual
    held_expr : (k : ℕ) (e : TExpr) → HeldPulls p t k (pulled_expr k e) → HeldExpr p t k e
    held_expr k (number n) h = tt
    held_expr k (truth b) h = tt
    held_expr k (variable x) h = tt
    held_expr k (index x e) h = held_expr k e h
    held_expr k (deref x) h = tt
    held_expr k (unary op e) h = held_expr k e h
    held_expr k (binary op a b) h =
        let j = k + expr_pulls a in
        (held_expr k a (held_front k (pulled_expr k a) (pulled_expr j b) h), held_expr j b (held_back k (expr_pulls a) (pulled_expr k a) (pulled_expr j b) (length_expr k a) h))
    held_expr k (sensed s) h = h.0
    held_expr k (called c) h =
        let last : List TRight = right_call (left_call k c) ∷ [] in
        let own = held_back k (call_pulls c) (pulled_call k c) last (length_call k c) h in
        (held_call k c (held_front k (pulled_call k c) last h), held_own k c own.0)

    pub held_call : (k : ℕ) (c : TCall) → HeldPulls p t k (pulled_call k c) → HeldCall p t k c
    held_call k (call f args) h = held_args k args h

    held_args : (k : ℕ) (xs : TArgs) → HeldPulls p t k (pulled_args k xs) → HeldArgs p t k xs
    held_args k no_args h = tt
    held_args k (more_args a rest) h =
        let j = k + arg_pulls a in
        (held_arg k a (held_front k (pulled_arg k a) (pulled_args j rest) h), held_args j rest (held_back k (arg_pulls a) (pulled_arg k a) (pulled_args j rest) (length_arg k a) h))

    held_arg : (k : ℕ) (a : TArg) → HeldPulls p t k (pulled_arg k a) → HeldArg p t k a
    held_arg k (value e) h = held_expr k e h
    held_arg k (shared x) h = tt
    held_arg k (mutable x) h = tt

    -- what is left of a call calls the same function
    held_own : (k : ℕ) (c : TCall) → IsHeld t (k + call_pulls c) (call_type p (left_call k c)) → IsHeld t (k + call_pulls c) (call_type p c)
    held_own k (call f args) h = h

  held_right : (k : ℕ) (r : TRight) → HeldPulls p t k (pulled_right k r) → HeldRight p t k r
  held_right k (right_value e) h = held_expr k e h
  held_right k (right_sense s) h = tt
  held_right k (right_call c) h = held_call k c h

  pub held_kind : (k : ℕ) (s : TKind) → HeldOwn p t k s → HeldKind p t k s
  held_kind k (let_to m x n r) h = held_right k r h
  held_kind k (let_array m x n z w) h = tt
  held_kind k (assign x r) h = held_right k r h
  held_kind k (assign_index x e r) h =
      let j = k + expr_pulls e in
      (held_expr k e (held_front k (pulled_expr k e) (pulled_right j r) h), held_right j r (held_back k (expr_pulls e) (pulled_expr k e) (pulled_right j r) (length_expr k e) h))
  held_kind k (assign_deref x r) h = held_right k r h
  held_kind k (if_else c a b) h = held_expr k c h
  held_kind k (for_in x from to b) h = tt
  held_kind k (while_do c n b) h = held_expr k c h
  held_kind k (call_only c) h = held_call k c h
  held_kind k (sense_only s) h = tt
  held_kind k (emit port e) h = held_expr k e h
  held_kind k (fresh x) h = tt
  held_kind k (consistent x n) h = tt
  held_kind k (return e) h = held_expr k e h
