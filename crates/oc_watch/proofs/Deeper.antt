-- What functions take grows with the depth of calls.
use Rattle.std.proofs.Common.{◌≡◌, ◌≤◌, ◌+◌, ◌-◌, ◌*◌, ℕ, zero, suc, List, ◌∷◌, length, Option, Some, None, subst, arith}
use Rattle.std.specs.Prelude.{◌-ℤ◌}
use Rattle.std.proofs.Math.Nat.{mul-le-mul_left}
use Rattle.oc_tree.specs.Names.{Text}
use Rattle.oc_tree.specs.Tree.{TCall, call, TRight, right_value, right_sense, right_call, TKind, let_to, let_array, assign, assign_index, assign_deref, if_else, for_in, while_do, call_only}
use Rattle.oc_tree.specs.Tree.{sense_only, emit, fresh, consistent, return, no_else, else_do, stmt, TBlock, block, TStmts, no_stmts, more, TFunction, TProgram}
use Rattle.oc_tree.specs.Marked.{TRegion}
use Rattle.oc_tree.specs.Stack.{kind_slots, block_slots, link_words}
use Rattle.oc_tree.specs.Weight.{count_of}
use Rattle.oc_isa.specs.declared.instr.ProbeKind.TheVariants.{Use}
use Rattle.oc_meaning.specs.Uses.{is_use}
use Rattle.oc_meaning.specs.Run.{function_named}
use Rattle.oc_code.specs.Scope.{Named, is_fresh_in, in_scope, for_named, function_scope}
use Rattle.oc_code.specs.Forms.{probe_code}
use Rattle.oc_code.proofs.Spent.{expr_spent, call_spent, right_spent, kind_spent, block_spent, stmts_spent, function_spent, cost_to}

module _ (fs : List TFunction) (regions : List TRegion) (c c' : Text → ℕ) (le : (f : Text) → c f ≤ c' f) where
  call_more : (γ : List Named) (k : TCall) → call_spent c γ k ≤ call_spent c' γ k
  call_more γ (call f args) = omega (arith, le f)

  right_more : (γ : List Named) (r : TRight) → right_spent c γ r ≤ right_spent c' γ r
  right_more γ (right_value e) = omega arith
  right_more γ (right_sense x) = omega arith
  right_more γ (right_call k) = call_more γ k

  mutual
    kind_more : (γ : List Named) (n s : ℕ) (k : TKind) → kind_spent fs regions c γ n s k ≤ kind_spent fs regions c' γ n s k
    kind_more γ n s (let_to m x t r) = omega (arith, right_more γ r)
    kind_more γ n s (assign x r) = omega (arith, right_more γ r)
    kind_more γ n s (assign_index x e r) = omega (arith, right_more γ r)
    kind_more γ n s (assign_deref x r) = omega (arith, right_more γ r)
    kind_more γ n s (if_else e a no_else) = omega (arith, block_more γ s a)
    kind_more γ n s (if_else e a (else_do b)) = omega (arith, block_more γ s a, block_more γ (s + block_slots a) b)
    kind_more γ n s (for_in x i d b) =
        let q : count_of (d -ℤ i) * (9 + block_spent fs regions c (for_named x s ∷ γ) (s + 1) b) ≤ count_of (d -ℤ i) * (9 + block_spent fs regions c' (for_named x s ∷ γ) (s + 1) b) =
        mul-le-mul_left (count_of (d -ℤ i)) (omega (arith, block_more (for_named x s ∷ γ) (s + 1) b)) in
        omega (arith, q)
    kind_more γ n s (while_do e t b) =
        let bc = length (probe_code n (is_use (is_fresh_in γ) (while_do e t b)) Use) + expr_spent γ e in
        let q : t * (10 + bc + block_spent fs regions c γ (s + 1) b) ≤ t * (10 + bc + block_spent fs regions c' γ (s + 1) b) = mul-le-mul_left t (omega (arith, block_more γ (s + 1) b)) in
        omega (arith, q)
    kind_more γ n s (call_only k) = omega (arith, call_more γ k)
    kind_more γ n s k = omega arith

    block_more : (γ : List Named) (s : ℕ) (b : TBlock) → block_spent fs regions c γ s b ≤ block_spent fs regions c' γ s b
    block_more γ s (block id ss) = stmts_more γ s ss

    stmts_more : (γ : List Named) (s : ℕ) (ss : TStmts) → stmts_spent fs regions c γ s ss ≤ stmts_spent fs regions c' γ s ss
    stmts_more γ s no_stmts = omega arith
    stmts_more γ s (more (stmt n line (return e)) rest) = omega arith
    stmts_more γ s (more (stmt n line kind) rest) = omega (arith, kind_more γ n s kind, stmts_more (in_scope kind s rest γ) (s + kind_slots kind) rest)

module _ (p : TProgram) (regions : List TRegion) where
  function_more : (c c' : Text → ℕ) → ((f : Text) → c f ≤ c' f) → (o : Option TFunction) → function_spent p regions c o ≤ function_spent p regions c' o
  function_more c c' le None = omega arith
  function_more c c' le (Some f) = omega (arith, block_more p.functions regions c c' le (function_scope p f) (length f.params + link_words f) f.body)

  cost_next : (d : ℕ) (x : Text) → cost_to p regions d x ≤ cost_to p regions (suc d) x
  cost_next zero x = omega arith
  cost_next (suc d) x = function_more (cost_to p regions d) (cost_to p regions (suc d)) (cost_next d) (function_named p.functions x)

  cost_up : (k d : ℕ) (x : Text) → cost_to p regions d x ≤ cost_to p regions (k + d) x
  cost_up zero d x = let e : d ≡ 0 + d = omega arith in subst (λ n. cost_to p regions d x ≤ cost_to p regions n x) e (omega arith)
  cost_up (suc k) d x = let e : suc (k + d) ≡ suc k + d = omega arith in subst (λ n. cost_to p regions d x ≤ cost_to p regions n x) e (omega (arith, cost_up k d x, cost_next (k + d) x))

  pub cost_deeper : (d e : ℕ) (x : Text) → d ≤ e → cost_to p regions d x ≤ cost_to p regions e x
  cost_deeper d e x le = let s : e - d + d ≡ e = omega (arith, le) in subst (λ n. cost_to p regions d x ≤ cost_to p regions n x) s (cost_up (e - d) d x)
