-- Weights and stacks are measures: up to any cap, what is known of the callees of a function tells its own.
use Rattle.std.proofs.Common.{◌≡◌, inl, inr, ℕ, zero, suc, ◌+◌, ◌*◌, ◌++◌, false, List, [], ◌∷◌, None, refl, ap, ◌∙◌, subst, arith}
use Rattle.std.specs.Prelude.{max, cond, is_some}
use Rattle.oc_tree.specs.Tree.{TCall, call, TRight, right_value, right_sense, right_call, TKind, let_to, let_array, assign, assign_index, assign_deref, if_else, for_in, while_do}
use Rattle.oc_tree.specs.Tree.{call_only, sense_only, emit, fresh, consistent, return, TElse, no_else, else_do, stmt, TBlock, block, TStmts, no_stmts, more, TFunction}
use Rattle.oc_tree.specs.Calls.{args_calls, call_calls, expr_calls, right_calls, kind_hides, kind_kinds, else_kinds, block_kinds, stmts_kinds}
use Rattle.oc_tree.specs.Members.{IsOf}
use Rattle.oc_tree.specs.Weight.{expr_cost, args_cost, call_cost, right_cost, has_result, turns, kind_cost, else_cost, block_cost, stmts_cost, function_cost, weights_to}
use Rattle.oc_tree.specs.Stack.{args_depth, expr_depth, frame, call_depth, right_depth, kind_depth, else_depth, block_depth, stmts_depth, function_stack, stacks_to}
use Rattle.oc_laws.proofs.Members.{of_left, of_right}
use Rattle.oc_weight.specs.Measured.{IsCap, KnownAlike, KindsAlike, IsMeasure}

-- a call is the last of its own calls
own_call : (c : TCall) → IsOf c (call_calls c)
own_call (call f args) = of_right (call f args) (args_calls args) (call f args ∷ []) (inl refl)

-- without a name nothing is hidden
none_hides : (k : TKind) → kind_hides None k ≡ false
none_hides (let_to m x t r) = refl
none_hides (let_array m x t z n) = refl
none_hides _ = refl

module _ (cap : ℕ → ℕ) (is : IsCap cap) (fs : List TFunction) (ws vs : List ℕ) where
  -- ---- numbers

  plus : {a b : ℕ} (n : ℕ) → cap a ≡ cap b → cap (a + n) ≡ cap (b + n)
  plus n h = is.sums _ n _ n h refl

  onto : {a b : ℕ} (n : ℕ) → cap a ≡ cap b → cap (n + a) ≡ cap (n + b)
  onto n h = is.sums n _ n _ refl h

  times : {a b : ℕ} (n : ℕ) → cap a ≡ cap b → cap (n * a) ≡ cap (n * b)
  times {a = a} {b = b} zero h = let e : 0 * a ≡ 0 * b = omega arith in ap cap e
  times {a = a} {b = b} (suc n) h =
      let p : suc n * a ≡ a + n * a = omega arith in
      let q : b + n * b ≡ suc n * b = omega arith in
      ap cap p ∙ is.sums a (n * a) b (n * b) h (times n h) ∙ ap cap q

  least : {a b : ℕ} (n : ℕ) → cap a ≡ cap b → cap (max a n) ≡ cap (max b n)
  least n h = is.maxima _ n _ n h refl

  at_least : {a b : ℕ} (n : ℕ) → cap a ≡ cap b → cap (max n a) ≡ cap (max n b)
  at_least n h = is.maxima n _ n _ refl h

  -- ---- statements

  -- of what is in front, and of what is behind
  pub front_alike : (xs ys : List TKind) → KindsAlike cap fs ws vs (xs ++ ys) → KindsAlike cap fs ws vs xs
  front_alike xs ys h k i = h k (of_left k xs ys i)

  pub back_alike : (xs ys : List TKind) → KindsAlike cap fs ws vs (xs ++ ys) → KindsAlike cap fs ws vs ys
  back_alike xs ys h k i = h k (of_right k xs ys i)

  pub split_alike : (k : TKind) (ss : TStmts) → KindsAlike cap fs ws vs (kind_kinds None k ++ cond (kind_hides None k) [] (stmts_kinds None ss)) → KindsAlike cap fs ws vs (kind_kinds None k ++ stmts_kinds None ss)
  split_alike k ss h = subst (λ b. KindsAlike cap fs ws vs (kind_kinds None k ++ cond b [] (stmts_kinds None ss))) (none_hides k) h

  -- ---- weights

  call_cost_alike : (c : TCall) → KnownAlike cap fs ws vs c → cap (call_cost fs ws c) ≡ cap (call_cost fs vs c)
  call_cost_alike (call f args) h = onto (args_cost args + 1) h

  right_cost_alike : (r : TRight) → ((c : TCall) → IsOf c (right_calls r) → KnownAlike cap fs ws vs c) → cap (right_cost fs ws r) ≡ cap (right_cost fs vs r)
  right_cost_alike (right_value e) h = refl
  right_cost_alike (right_sense s) h = refl
  right_cost_alike (right_call c) h = call_cost_alike c (h c (own_call c))

  mutual
    pub kind_cost_alike : (k : TKind) → KindsAlike cap fs ws vs (kind_kinds None k) → cap (kind_cost fs ws k) ≡ cap (kind_cost fs vs k)
    kind_cost_alike (let_to m x t r) h = plus 1 (right_cost_alike r (h (let_to m x t r) (inl refl)))
    kind_cost_alike (let_array m x t z n) h = refl
    kind_cost_alike (assign x r) h = plus 1 (right_cost_alike r (h (assign x r) (inl refl)))
    kind_cost_alike (assign_index x e r) h = plus 3 (plus (expr_cost e) (right_cost_alike r (λ c i. h (assign_index x e r) (inl refl) c (of_right c (expr_calls e) (right_calls r) i))))
    kind_cost_alike (assign_deref x r) h = plus 2 (right_cost_alike r (h (assign_deref x r) (inl refl)))
    kind_cost_alike (if_else t a b) h =
        let inner : KindsAlike cap fs ws vs (block_kinds None a ++ else_kinds None b) = λ k i. h k (inr i) in
        let first = block_cost_alike a (front_alike (block_kinds None a) (else_kinds None b) inner) in
        onto (expr_cost t + 1) (else_cost_alike (block_cost fs ws a) (block_cost fs vs a) b first (back_alike (block_kinds None a) (else_kinds None b) inner))
    kind_cost_alike (for_in x m n b) h = onto 6 (times (turns m n) (onto 9 (block_cost_alike b (λ k i. h k (inr i)))))
    kind_cost_alike (while_do t n b) h = onto 6 (times n (onto (10 + expr_cost t) (block_cost_alike b (λ k i. h k (inr i)))))
    kind_cost_alike (call_only c) h = plus (cond (has_result fs c) 1 0) (call_cost_alike c (h (call_only c) (inl refl) c (own_call c)))
    kind_cost_alike (sense_only s) h = refl
    kind_cost_alike (emit p e) h = refl
    kind_cost_alike (fresh x) h = refl
    kind_cost_alike (consistent x n) h = refl
    kind_cost_alike (return e) h = refl

    else_cost_alike : (a c : ℕ) (b : TElse) → cap a ≡ cap c → KindsAlike cap fs ws vs (else_kinds None b) → cap (else_cost fs ws a b) ≡ cap (else_cost fs vs c b)
    else_cost_alike a c no_else e h = e
    else_cost_alike a c (else_do b) e h = is.maxima (a + 1) (block_cost fs ws b) (c + 1) (block_cost fs vs b) (plus 1 e) (block_cost_alike b h)

    block_cost_alike : (b : TBlock) → KindsAlike cap fs ws vs (block_kinds None b) → cap (block_cost fs ws b) ≡ cap (block_cost fs vs b)
    block_cost_alike (block id ss) h = stmts_cost_alike ss h

    stmts_cost_alike : (ss : TStmts) → KindsAlike cap fs ws vs (stmts_kinds None ss) → cap (stmts_cost fs ws ss) ≡ cap (stmts_cost fs vs ss)
    stmts_cost_alike no_stmts h = refl
    stmts_cost_alike (more (stmt id line k) ss) h =
        let both = split_alike k ss h in
        is.sums (kind_cost fs ws k) (stmts_cost fs ws ss) (kind_cost fs vs k) (stmts_cost fs vs ss)
        (kind_cost_alike k (front_alike (kind_kinds None k) (stmts_kinds None ss) both)) (stmts_cost_alike ss (back_alike (kind_kinds None k) (stmts_kinds None ss) both))

  cost_alike : (f : TFunction) → KindsAlike cap fs ws vs (block_kinds None f.body) → cap (function_cost fs ws f) ≡ cap (function_cost fs vs f)
  cost_alike f h = plus (cond (is_some f.result) 0 1) (block_cost_alike f.body h)

  -- ---- stacks

  call_depth_alike : (c : TCall) → KnownAlike cap fs ws vs c → cap (call_depth fs ws c) ≡ cap (call_depth fs vs c)
  call_depth_alike (call f args) h = at_least 1 (at_least (args_depth args) h)

  right_depth_alike : (r : TRight) → ((c : TCall) → IsOf c (right_calls r) → KnownAlike cap fs ws vs c) → cap (right_depth fs ws r) ≡ cap (right_depth fs vs r)
  right_depth_alike (right_value e) h = refl
  right_depth_alike (right_sense s) h = refl
  right_depth_alike (right_call c) h = call_depth_alike c (h c (own_call c))

  mutual
    kind_depth_alike : (k : TKind) → KindsAlike cap fs ws vs (kind_kinds None k) → cap (kind_depth fs ws k) ≡ cap (kind_depth fs vs k)
    kind_depth_alike (let_to m x t r) h = right_depth_alike r (h (let_to m x t r) (inl refl))
    kind_depth_alike (let_array m x t z n) h = refl
    kind_depth_alike (assign x r) h = right_depth_alike r (h (assign x r) (inl refl))
    kind_depth_alike (assign_index x e r) h = least (2 + expr_depth e) (right_depth_alike r (λ c i. h (assign_index x e r) (inl refl) c (of_right c (expr_calls e) (right_calls r) i)))
    kind_depth_alike (assign_deref x r) h = least 2 (right_depth_alike r (h (assign_deref x r) (inl refl)))
    kind_depth_alike (if_else t a b) h =
        let inner : KindsAlike cap fs ws vs (block_kinds None a ++ else_kinds None b) = λ k i. h k (inr i) in
        at_least (expr_depth t) (is.maxima (block_depth fs ws a) (else_depth fs ws b) (block_depth fs vs a) (else_depth fs vs b)
        (block_depth_alike a (front_alike (block_kinds None a) (else_kinds None b) inner)) (else_depth_alike b (back_alike (block_kinds None a) (else_kinds None b) inner)))
    kind_depth_alike (for_in x m n b) h = at_least 2 (block_depth_alike b (λ k i. h k (inr i)))
    kind_depth_alike (while_do t n b) h = at_least (max 2 (expr_depth t)) (block_depth_alike b (λ k i. h k (inr i)))
    kind_depth_alike (call_only c) h = call_depth_alike c (h (call_only c) (inl refl) c (own_call c))
    kind_depth_alike (sense_only s) h = refl
    kind_depth_alike (emit p e) h = refl
    kind_depth_alike (fresh x) h = refl
    kind_depth_alike (consistent x n) h = refl
    kind_depth_alike (return e) h = refl

    else_depth_alike : (b : TElse) → KindsAlike cap fs ws vs (else_kinds None b) → cap (else_depth fs ws b) ≡ cap (else_depth fs vs b)
    else_depth_alike no_else h = refl
    else_depth_alike (else_do b) h = block_depth_alike b h

    block_depth_alike : (b : TBlock) → KindsAlike cap fs ws vs (block_kinds None b) → cap (block_depth fs ws b) ≡ cap (block_depth fs vs b)
    block_depth_alike (block id ss) h = stmts_depth_alike ss h

    stmts_depth_alike : (ss : TStmts) → KindsAlike cap fs ws vs (stmts_kinds None ss) → cap (stmts_depth fs ws ss) ≡ cap (stmts_depth fs vs ss)
    stmts_depth_alike no_stmts h = refl
    stmts_depth_alike (more (stmt id line k) ss) h =
        let both = split_alike k ss h in
        is.maxima (kind_depth fs ws k) (stmts_depth fs ws ss) (kind_depth fs vs k) (stmts_depth fs vs ss)
        (kind_depth_alike k (front_alike (kind_kinds None k) (stmts_kinds None ss) both)) (stmts_depth_alike ss (back_alike (kind_kinds None k) (stmts_kinds None ss) both))

  stack_alike : (f : TFunction) → KindsAlike cap fs ws vs (block_kinds None f.body) → cap (function_stack fs ws f) ≡ cap (function_stack fs vs f)
  stack_alike f h = onto (frame f) (block_depth_alike f.body h)

-- ---- measures

pub cost_measure : IsMeasure function_cost weights_to
unfolding weights_to
cost_measure = record { no_level = λ fs. refl; one_level = λ fs depth. refl; by_callees = cost_alike }

pub stack_measure : IsMeasure function_stack stacks_to
unfolding stacks_to
stack_measure = record { no_level = λ fs. refl; one_level = λ fs depth. refl; by_callees = stack_alike }
