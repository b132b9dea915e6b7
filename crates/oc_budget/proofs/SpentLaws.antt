-- The costs of the statements that a test picks, over the tree and over the list of placed statements.
use Rattle.std.proofs.Common.{rules, ◌≡◌, ◌+◌, ◌++◌, ℕ, Bool, true, false, List, [], ◌∷◌, refl, ap, ◌∙◌, arith, cond, Option, Some, None, subst}
use Rattle.std.specs.Prelude.{sum_by, filter, flat_map}
use Rattle.std.proofs.lemmas.List.Sums.{sum_by-append, sum_by-cons}
use Rattle.std.proofs.lemmas.List.Elements.{filter-append}
use Rattle.oc_tree.specs.Tree.{TExpr, TKind, let_to, let_array, assign, assign_index, assign_deref, if_else, for_in, while_do, call_only, sense_only, emit, fresh, consistent}
use Rattle.oc_tree.specs.Tree.{return, TElse, no_else, else_do, stmt, TBlock, block, TStmts, no_stmts, more, TFunction}
use Rattle.oc_tree.specs.declared.tree.VarId.TheVariants as variables
use Rattle.oc_tree.specs.Places.{Place, Placed, kind_placed, else_placed, block_placed, stmts_placed, in_branch, in_loop, behind, at_start}
use Rattle.oc_tree.specs.Marked.{TMarked, TRegion, is_in_region}
use Rattle.oc_budget.specs.Budgets.{budget, held_cost, logged}
use Rattle.oc_tree.specs.Weight.{expr_cost}
use Rattle.oc_budget.specs.Costs.{costs, is_use}
use Rattle.oc_budget.specs.Fitting.{IsFitted}
use Rattle.oc_tree.specs.Costs.{probes, inner_cost}
use Rattle.oc_budget.specs.Spent.{returned}
use Rattle.oc_tree.specs.Picked.{kind_spent, else_spent, block_spent, stmts_spent, functions_spent}

module _ (picks : ℕ → Bool) (cost : ℕ → TKind → ℕ) where
  abbrev pub picked : List Placed → ℕ
  picked xs = sum_by (λ a. cost a.id a.kind) (filter (λ a. picks a.id) xs)

  consed : (b : Bool) (a : Placed) (xs : List Placed) → sum_by (λ x. cost x.id x.kind) (cond b (a ∷ xs) xs) ≡ cond b (cost a.id a.kind) 0 + sum_by (λ x. cost x.id x.kind) xs
  consed true a xs = sum_by-cons (λ x. cost x.id x.kind) a xs
  consed false a xs = omega arith

  picked-cons : (a : Placed) (xs : List Placed) → picked (a ∷ xs) ≡ cond (picks a.id) (cost a.id a.kind) 0 + picked xs
  picked-cons a xs = consed (picks a.id) a (filter (λ x. picks x.id) xs)

  picked-append : (xs ys : List Placed) → picked (xs ++ ys) ≡ picked xs + picked ys
  picked-append xs ys = ap (sum_by (λ a. cost a.id a.kind)) (filter-append (λ a. picks a.id) xs ys) ∙ sum_by-append (λ a. cost a.id a.kind) (filter (λ a. picks a.id) xs) (filter (λ a. picks a.id) ys)

  mutual
    kind_is : (at : Place) (n : ℕ) (k : TKind) → kind_spent picks cost k ≡ picked (kind_placed at n k)
    kind_is at n (if_else c a b) =
        let h = block_is (in_branch at n) a in
        let j = else_is (in_branch at n) b in
        let e = picked-append (block_placed (in_branch at n) a) (else_placed (in_branch at n) b) in
        omega (arith, h, j, e)
    kind_is at n (for_in x c d b) = block_is (in_loop at n ((x, variables.Declared n) ∷ [])) b
    kind_is at n (while_do c t b) = block_is (in_loop at n []) b
    kind_is at n (let_to m x k r) = refl
    kind_is at n (let_array m x k z i) = refl
    kind_is at n (assign x r) = refl
    kind_is at n (assign_index x e r) = refl
    kind_is at n (assign_deref x r) = refl
    kind_is at n (call_only c) = refl
    kind_is at n (sense_only s) = refl
    kind_is at n (emit q e) = refl
    kind_is at n (fresh x) = refl
    kind_is at n (consistent x i) = refl
    kind_is at n (return e) = refl

    else_is : (at : Place) (b : TElse) → else_spent picks cost b ≡ picked (else_placed at b)
    else_is at no_else = refl
    else_is at (else_do b) = block_is at b

    pub block_is : (at : Place) (b : TBlock) → block_spent picks cost b ≡ picked (block_placed at b)
    block_is at (block id ss) = stmts_is (record at { block = id }) ss

    stmts_is : (at : Place) (ss : TStmts) → stmts_spent picks cost ss ≡ picked (stmts_placed at ss)
    stmts_is at no_stmts = refl
    stmts_is at (more (stmt n line k) ss) =
        let h = kind_is at n k in
        let j = stmts_is (behind at n k) ss in
        let e = picked-append (kind_placed at n k) (stmts_placed (behind at n k) ss) in
        let d = picked-cons (record { id = n; line = line; kind = k; at = at }) (kind_placed at n k ++ stmts_placed (behind at n k) ss) in
        omega (arith, h, j, e, d)

  pub spent_is : (fs : List TFunction) → functions_spent picks cost fs ≡ picked (flat_map (λ f. block_placed (at_start f) f.body) fs)
  spent_is [] = refl
  spent_is (f ∷ fs) =
      let h = block_is (at_start f) f.body in
      let j = spent_is fs in
      let e = picked-append (block_placed (at_start f) f.body) (flat_map (λ g. block_placed (at_start g) g.body) fs) in
      omega (arith, h, j, e)

pub budget_is : (m : TMarked) (r : TRegion) → functions_spent (is_in_region m.program r) (held_cost m) m.program.functions + (1 + logged m.program r) ≡ budget m r
budget_is m r =
    let e = spent_is (is_in_region m.program r) (held_cost m) m.program.functions in
    omega (arith, e)

-- what is said of a number that may not fit
pub fitted_same : (o : Option ℕ) (a b : ℕ) → IsFitted o a → a ≡ b → IsFitted o b
fitted_same o a b h e = subst (IsFitted o) e h

-- ---- the cost of a statement of a region

pub held_return : (m : TMarked) (n : ℕ) (k : TKind) (e : TExpr) → returned k ≡ Some e → held_cost m n k ≡ expr_cost e + probes (is_use m.program n) k
held_return m n (let_to w x t r) v h = absurd (search (rules, h))
held_return m n (let_array w x t z i) v h = absurd (search (rules, h))
held_return m n (assign x r) v h = absurd (search (rules, h))
held_return m n (assign_index x e r) v h = absurd (search (rules, h))
held_return m n (assign_deref x r) v h = absurd (search (rules, h))
held_return m n (if_else c a b) v h = absurd (search (rules, h))
held_return m n (for_in x c d b) v h = absurd (search (rules, h))
held_return m n (while_do c t b) v h = absurd (search (rules, h))
held_return m n (call_only c) v h = absurd (search (rules, h))
held_return m n (sense_only x) v h = absurd (search (rules, h))
held_return m n (emit q e) v h = absurd (search (rules, h))
held_return m n (fresh x) v h = absurd (search (rules, h))
held_return m n (consistent x i) v h = absurd (search (rules, h))
held_return m n (return e) v h = cc

pub held_other : (m : TMarked) (n : ℕ) (k : TKind) → returned k ≡ None → held_cost m n k ≡ inner_cost m.program.functions (is_use m.program) m.regions (costs m) n k + probes (is_use m.program n) k
held_other m n (let_to w x t r) h = refl
held_other m n (let_array w x t z i) h = refl
held_other m n (assign x r) h = refl
held_other m n (assign_index x e r) h = refl
held_other m n (assign_deref x r) h = refl
held_other m n (if_else c a b) h = refl
held_other m n (for_in x c d b) h = refl
held_other m n (while_do c t b) h = refl
held_other m n (call_only c) h = refl
held_other m n (sense_only x) h = refl
held_other m n (emit q e) h = refl
held_other m n (fresh x) h = refl
held_other m n (consistent x i) h = refl
held_other m n (return e) h = absurd (search (rules, h))
