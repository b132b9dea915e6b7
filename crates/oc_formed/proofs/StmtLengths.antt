-- How long the code of statements is at most: four instructions for each node of an expression, and 20 for each
-- statement.
use Rattle.std.proofs.Common.{◌≡◌, ◌≤◌, ℕ, ◌+◌, ◌*◌, Bool, true, false, List, [], ◌∷◌, ◌++◌, length, cond, Option, Some, None, subst, arith, length-append}
use Rattle.std.specs.Prelude.{ℤ, pos, if◌then◌else◌}
use Rattle.oc_tree.specs.Names.{Text, NameLists}
use Rattle.oc_tree.specs.Marked.{TRegion}
use Rattle.oc_tree.specs.Tree.{TExpr, TCall, call, TRight, right_value, right_sense, right_call, TKind, let_to, let_array, assign, assign_index, assign_deref, if_else, for_in}
use Rattle.oc_tree.specs.Tree.{while_do, call_only, sense_only, emit, fresh, consistent, return, TElse, no_else, else_do, stmt, TBlock, block, TStmts, no_stmts, more, TFunction}
use Rattle.oc_tree.specs.Nodes.{expr_nodes, call_nodes, right_nodes, kind_nodes, else_nodes, block_nodes, stmts_nodes}
use Rattle.oc_tree.specs.Expansion.{inner_size, else_size, block_size, stmts_size}
use Rattle.oc_tree.specs.Calls.{expr_calls, right_calls, kind_hides, kind_kinds, else_kinds, block_kinds, stmts_kinds}
use Rattle.oc_tree.specs.Rules.{call_args}
use Rattle.oc_tree.specs.Stack.{kind_slots, block_slots}
use Rattle.oc_isa.specs.declared.instr.Placed.{Placed}
use Rattle.oc_isa.specs.declared.instr.ProbeKind.{ProbeKind}
use Rattle.oc_isa.specs.declared.instr.ProbeKind.TheVariants.{Use, Done}
use Rattle.oc_isa.specs.declared.instr.Instr.TheVariants.{Store, Index, Call, Retv, Drop, Emit, Put, Jfalse, Jump}
use Rattle.oc_meaning.specs.Uses.{is_use, begins_use, ends_use}
use Rattle.oc_meaning.specs.Exec.{begun_by, ended_by, number_in}
use Rattle.oc_code.specs.Scope.{Slot, InFrame, ByAddress, InNv, NoSlot, Named, slot_of, words_of, is_fresh_in, in_scope, for_named}
use Rattle.oc_code.specs.Forms.{placed, one, enter_code, commit_code, probe_code, write_code, base_code, expr_code, args_code, again_code, count_code, turn_code, while_code}
use Rattle.oc_tree.specs.Weight.{has_result}
use Rattle.oc_code.specs.Code.{function_number, last_code, before_code, after_code, call_code, right_code, element_code, test_code, return_code}
use Rattle.oc_code.specs.Code.{first_code, whole_code, kind_code, if_code, block_code, stmts_code}
use Rattle.oc_desugar.proofs.FineCalls.{Each, each_back}
use Rattle.oc_checked.proofs.CallLinks.{KindsCall, kinds_front, kinds_back, last_call, none_hides}
use Rattle.oc_formed.proofs.ExprLengths.{base_short, expr_short, args_short}

-- a call has at most eight arguments
abbrev pub FewArgs : TCall → Type 0
FewArgs c = length (call_args c) ≤ 8

module _ (n : ℕ) where
  -- a probe
  probe_short : (is : Bool) (kind : ProbeKind) → length (probe_code n is kind) ≤ 1
  probe_short true kind = omega arith
  probe_short false kind = omega arith

  -- the mark at which a region begins
  enter_short : (o : Option ℕ) → length (enter_code n o) ≤ 1
  enter_short None = omega arith
  enter_short (Some r) = omega arith

  -- the mark at which it ends
  commit_short : (o : Option ℕ) → length (commit_code n o) ≤ 1
  commit_short None = omega arith
  commit_short (Some r) = omega arith

  -- a write of a scalar
  write_short : (s : Slot) → length (write_code n s) ≤ 2
  write_short (InFrame s) = omega arith
  write_short (ByAddress s) = omega arith
  write_short (InNv a) = omega arith
  write_short NoSlot = omega arith

  -- the mark behind a statement
  last_short : (o : Option ℕ) (k : TKind) → length (last_code n o k) ≤ 1
  last_short o (return e) = omega arith
  last_short o k = commit_short o

  -- what stands before a statement's code
  before_short : (o : Option ℕ) (is : Bool) → length (before_code n o is) ≤ 2
  before_short o is = omega (arith, length-append (enter_code n o) (probe_code n is Use), enter_short o, probe_short is Use)

  -- what stands behind it
  after_short : (o : Option ℕ) (is : Bool) (k : TKind) → length (after_code n o is k) ≤ 2
  after_short o is k = omega (arith, length-append (probe_code n is Done) (last_code n o k), probe_short is Done, last_short o k)

  -- a loop that counts
  count_length : (p q : ℕ) (c d : ℤ) (a : List Placed) → length (count_code n p q c d a) ≡ length a + 11
  count_length p q c d a = omega (arith, length-append a (again_code n q (p + 2)))

  -- a turn of a `while`
  turn_length : (e : ℕ) (c a : List Placed) → length (turn_code n e c a) ≡ length c + 1 + length a
  turn_length e c a = omega (arith, length-append c (placed n (Jfalse e) ∷ a))

  -- a `while`
  while_length : (p q bound : ℕ) (c a : List Placed) → length (while_code n p q bound c a) ≡ length c + length a + 12
  while_length p q bound c a =
      let t = turn_code n (p + 6 + (length c + 1 + length a) + 5) c a in
      omega (arith, count_length p q (pos 0) (pos bound) t, turn_length (p + 6 + (length c + 1 + length a) + 5) c a)

-- what is behind a statement
calls_behind : (k : TKind) (rest : TStmts) → KindsCall FewArgs (kind_kinds None k ++ cond (kind_hides None k) [] (stmts_kinds None rest))
    → KindsCall FewArgs (kind_kinds None k) × KindsCall FewArgs (stmts_kinds None rest)
calls_behind k rest h =
    let parts = subst (λ b. KindsCall FewArgs (kind_kinds None k ++ cond b [] (stmts_kinds None rest))) (none_hides k) h in
    (kinds_front FewArgs (kind_kinds None k) (stmts_kinds None rest) parts, kinds_back FewArgs (kind_kinds None k) (stmts_kinds None rest) parts)

module _ (names : NameLists) (fs : List TFunction) (regions : List TRegion) (k : ℕ) where
  -- a call
  call_short : (n : ℕ) (γ : List Named) (p : ℕ) (c : TCall) → FewArgs c → length (call_code names fs regions k n γ p c) ≤ 4 * call_nodes c + 9
  call_short n γ p (call f args) few = omega (arith, length-append (args_code n γ p args) (one n (Call (function_number fs f))), args_short n γ p args, few)

  -- a right side
  right_short : (n : ℕ) (γ : List Named) (p : ℕ) (r : TRight) → Each FewArgs (right_calls r) → length (right_code names fs regions k n γ p r) ≤ 4 * right_nodes r + 9
  right_short n γ p (right_value e) few = omega (arith, expr_short n γ p e)
  right_short n γ p (right_sense s) few = omega arith
  right_short n γ p (right_call c) few = call_short n γ p c (last_call FewArgs c few)

  -- the test of a `while`
  test_short : (n : ℕ) (γ : List Named) (p : ℕ) (is : Bool) (c : TExpr) → length (test_code names fs regions k n γ p is c) ≤ 4 * expr_nodes c + 1
  test_short n γ p is c =
      let probe = probe_code n is Use in
      omega (arith, length-append probe (expr_code n γ (p + length probe) c), probe_short n is Use, expr_short n γ (p + length probe) c)

  -- a result that nothing takes
  drop_short : (n : ℕ) (b : Bool) → length (if b then one n Drop else []) ≤ 1
  drop_short n true = omega arith
  drop_short n false = omega arith

  -- a `return`
  return_short : (n : ℕ) (γ : List Named) (p : ℕ) (e : TExpr) → length (return_code names fs regions k n γ p e) ≤ 4 * expr_nodes e + 3
  return_short n γ p e =
      let probe = probe_code n (is_use (is_fresh_in γ) (return e)) Done in
      let commit = commit_code n (ended_by regions n) in
      let last = one n (Retv k) in
      omega (
        arith,
        length-append (expr_code n γ p e) (probe ++ (commit ++ last)),
        length-append probe (commit ++ last),
        length-append commit last,
        expr_short n γ p e,
        probe_short
            n (is_use (is_fresh_in γ) (return e)) Done,
        commit_short n (ended_by regions n),
      )

  -- a write of a right side to a scalar
  assign_short : (n : ℕ) (γ : List Named) (p : ℕ) (x : Text) (r : TRight) → Each FewArgs (right_calls r)
      → length (right_code names fs regions k n γ p r ++ write_code n (slot_of γ x)) ≤ 4 * right_nodes r + 11
  assign_short n γ p x r few = omega (arith, length-append (right_code names fs regions k n γ p r) (write_code n (slot_of γ x)), right_short n γ p r few, write_short n (slot_of γ x))

  -- a write of a right side to an element
  element_short : (n : ℕ) (γ : List Named) (p : ℕ) (x : Text) (e : TExpr) (r : TRight) → Each FewArgs (right_calls r)
      → length (element_code names fs regions k n γ p x e (right_code names fs regions k n γ p r)) ≤ 4 * (expr_nodes e + right_nodes r) + 12
  element_short n γ p x e r few =
      let a = right_code names fs regions k n γ p r in
      let base = base_code n (slot_of γ x) in
      let i = expr_code n γ (p + length a + 1) e in
      let last : List Placed = placed n (Index (words_of γ x)) ∷ one n Put in
      omega (
        arith,
        length-append a (base ++ (i ++ last)),
        length-append base (i ++ last),
        length-append i last,
        right_short n γ p r few,
        base_short n (slot_of γ x),
        expr_short n γ
            (p + length a + 1) e,
      )

  mutual
    -- a statement's own code
    kind_short : (γ : List Named) (n s p : ℕ) (d : TKind) → KindsCall FewArgs (kind_kinds None d) → length (kind_code names fs regions k γ n s p d) ≤ 4 * kind_nodes d + 16 + 20 * inner_size d
    kind_short γ n s p (let_to m x t r) few = omega (arith, length-append (right_code names fs regions k n γ p r) (one n (Store s)), right_short n γ p r few.0)
    kind_short γ n s p (assign x r) few = omega (arith, assign_short n γ p x r few.0)
    kind_short γ n s p (assign_index x e r) few = omega (arith, element_short n γ p x e r (each_back FewArgs (expr_calls e) (right_calls r) few.0))
    kind_short γ n s p (assign_deref x r) few = omega (arith, assign_short n γ p x r few.0)
    kind_short γ n s p (if_else c a b) few =
        let cc = expr_code n γ p c in
        let ca = block_code names fs regions k γ s (p + length cc + 1) a in
        let first = kinds_front FewArgs (block_kinds None a) (else_kinds None b) few.1 in
        let second = kinds_back FewArgs (block_kinds None a) (else_kinds None b) few.1 in
        omega (arith, else_short γ n s p cc ca (block_slots a) b second, expr_short n γ p c, block_short γ s (p + length cc + 1) a first)
    kind_short γ n s p (for_in x c d b) few =
        let body = block_code names fs regions k (for_named x s ∷ γ) (s + 1) (p + 6) b in
        omega (arith, count_length n p s c d body, block_short (for_named x s ∷ γ) (s + 1) (p + 6) b few.1)
    kind_short γ n s p (while_do c t b) few =
        let is = is_use (is_fresh_in γ) (while_do c t b) in
        let test = test_code names fs regions k n γ (p + 6) is c in
        let body = block_code names fs regions k γ (s + 1) (p + 6 + length test + 1) b in
        let loop = while_code n p s t test body in
        omega (
          arith,
          length-append loop (probe_code n is Done),
          probe_short n is Done,
          while_length n p s t test body,
          test_short n γ (p + 6) is c,
          block_short γ (s + 1)
              (p + 6 + length test + 1) b few.1,
        )
    kind_short γ n s p (call_only c) few =
        let cc = call_code names fs regions k n γ p c in
        omega (arith, length-append cc (if has_result fs c then one n Drop else []), drop_short n (has_result fs c), call_short n γ p c (last_call FewArgs c few.0))
    kind_short γ n s p (emit q e) few = omega (arith, length-append (expr_code n γ p e) (one n (Emit (number_in names.ports q))), expr_short n γ p e)
    kind_short γ n s p (return e) few = omega (arith, return_short n γ p e)
    kind_short γ n s p k few = omega arith

    -- an `if`, whose test and first block have these codes
    else_short : (γ : List Named) (n s p : ℕ) (c a : List Placed) (slots : ℕ) (b : TElse) → KindsCall FewArgs (else_kinds None b)
        → length (if_code names fs regions k γ n s p c a slots b) ≤ length c + length a + 2 + (4 * else_nodes b + 20 * else_size b)
    else_short γ n s p c a slots no_else few = omega (arith, length-append c (placed n (Jfalse (p + length c + 1 + length a)) ∷ a))
    else_short γ n s p c a slots (else_do b) few =
        let cb = block_code names fs regions k γ (s + slots) (p + length c + 1 + length a + 1) b in
        let rest : List Placed = placed n (Jump (p + length c + 1 + length a + 1 + length cb)) ∷ cb in
        omega (arith, length-append c (placed n (Jfalse (p + length c + 1 + length a + 1)) ∷ (a ++ rest)), length-append a rest, block_short γ (s + slots) (p + length c + 1 + length a + 1) b few)

    -- a block
    pub block_short : (γ : List Named) (s p : ℕ) (b : TBlock) → KindsCall FewArgs (block_kinds None b) → length (block_code names fs regions k γ s p b) ≤ 4 * block_nodes b + 20 * block_size b
    block_short γ s p (block id ss) few = stmts_short γ s p ss few

    -- statements
    stmts_short : (γ : List Named) (s p : ℕ) (ss : TStmts) → KindsCall FewArgs (stmts_kinds None ss) → length (stmts_code names fs regions k γ s p ss) ≤ 4 * stmts_nodes ss + 20 * stmts_size ss
    stmts_short γ s p no_stmts few = omega arith
    stmts_short γ s p (more (stmt n line d) rest) few =
        let parts = calls_behind d rest few in
        let fc = first_code names fs regions k γ n d in
        let kc = kind_code names fs regions k γ n s (p + length fc) d in
        let ac = after_code n (ended_by regions n) (ends_use (is_fresh_in γ) d) d in
        let wc = whole_code names fs regions k γ n d kc in
        let rc = stmts_code names fs regions k (in_scope d s rest γ) (s + kind_slots d) (p + length wc) rest in
        let own = kind_short γ n s (p + length fc) d parts.0 in
        let others = stmts_short (in_scope d s rest γ) (s + kind_slots d) (p + length wc) rest parts.1 in
        omega (
          arith,
          length-append wc rc,
          length-append fc (kc ++ ac),
          length-append kc ac,
          before_short n (begun_by regions n) (begins_use (is_fresh_in γ) d),
          after_short n
              (ended_by regions n) (ends_use (is_fresh_in γ) d) d,
          own,
          others,
        )
