-- The statements of a checked body are formed.
use Rattle.std.proofs.Common.{arith, ◌≡◌, ℕ, ◌+◌, Bool, true, false, true≢false, List, [], ◌∷◌, ◌++◌, None, cond, refl, sym, subst, ◌∙◌}
use Rattle.std.proofs.lemmas.Bool.{and_parts, not-false}
use Rattle.std.specs.Prelude.{is_some, ◌&&◌}
use Rattle.oc_tree.specs.Names.{Text}
use Rattle.oc_tree.specs.Tree.{TExpr, TRight, TKind, let_to, let_array, assign, assign_index, assign_deref, if_else, for_in, while_do, call_only, sense_only, emit, fresh}
use Rattle.oc_tree.specs.Tree.{consistent, return, TElse, no_else, else_do, stmt, TBlock, block, TStmts, no_stmts, more, TProgram}
use Rattle.oc_tree.specs.Checked.{AnyName}
use Rattle.oc_tree.specs.Marked.{TRegion}
use Rattle.oc_tree.specs.Form.{KindInForm, ElseInForm, BlockInForm, StmtsInForm}
use Rattle.oc_tree.specs.Calls.{expr_calls, right_calls, kind_kinds, else_kinds, block_kinds, stmts_kinds}
use Rattle.oc_tree.specs.Scope.{variable_of, is_variable, is_name_of}
use Rattle.oc_tree.specs.Types.{is_same, value_type, right_type, type_of}
use Rattle.oc_tree.specs.Elements.{Here, after_stmt, in_turn, inside, is_end, before_stmts, kind_elements, else_elements, stmt_elements, block_elements, stmts_elements}
use Rattle.oc_tree.specs.Rules.{is_mutable_param, is_writable, is_writable_array, origin_is, stmts_return}
use Rattle.oc_tree.specs.Stack.{kind_slots, block_slots}
use Rattle.oc_tree.specs.Walks.{expr_known, right_known}
use Rattle.oc_code.specs.Scope.{Named, in_scope, for_named}
use Rattle.oc_code.specs.Formed.{kind_formed, else_formed, block_formed, stmts_formed, IsLast}
use Rattle.oc_desugar.proofs.FineCalls.{CallFine, Gives, Each, each_back}
use Rattle.oc_desugar.proofs.Unbroken.{Unbroken, unbroken}
use Rattle.oc_checked.proofs.BodiesPass.{AllFine, fine_front, fine_back}
use Rattle.oc_formed.proofs.BodiesPlaces.{among_known}
use Rattle.oc_formed.proofs.BodiesArguments.{same_left, own_value, rule_writes}
use Rattle.oc_formed.proofs.BodiesCalls.{LongParams, call_is_formed, right_is_formed}
use Rattle.oc_formed.proofs.BodiesKinds.{found_behind, found_inside, array_length, few_turns, const_word, returns, returns_later}
use Rattle.oc_formed.proofs.BodiesMarked.{KindMarked, ElseMarked, BlockMarked, StmtsMarked, none_left}
use Rattle.oc_checked.proofs.CallLinks.{KindsCall, kinds_front, kinds_back, last_call, none_hides}
use Rattle.oc_checked.proofs.CallsFall.{Lower}
use Rattle.oc_formed.proofs.ScopesSeen.{AllFound, writes_own, writes_through, writes_array}

-- the calls of a statement and of those in it, and the calls of those behind it
calls_behind : (P : _) (k : TKind) (n line : ℕ) (rest : TStmts) → KindsCall P (stmts_kinds None (more (stmt n line k) rest)) → KindsCall P (kind_kinds None k) × KindsCall P (stmts_kinds None rest)
calls_behind P k n line rest h =
    let parts = subst (λ b. KindsCall P (kind_kinds None k ++ cond b [] (stmts_kinds None rest))) (none_hides k) h in
    (kinds_front P (kind_kinds None k) (stmts_kinds None rest) parts, kinds_back P (kind_kinds None k) (stmts_kinds None rest) parts)

-- where a body ends it gives nothing more
gives_no_more : (gives : Bool) → (gives ≡ true → false ≡ true) → gives ≡ false
gives_no_more true h = absurd (true≢false (sym (h refl)))
gives_no_more false h = refl

-- where statements end, nothing follows
is_last : (rest : TStmts) → is_end rest ≡ true → IsLast rest
is_last no_stmts h = tt
is_last (more s rest) h = absurd (true≢false (sym h))

-- `gives` says that the statements end with a `return`
pub record Ends (gives : Bool) (h : Here) (ss : TStmts) : Type 0 where
  pub result : h.last ≡ true → gives ≡ is_some h.function.result
  pub returned : gives ≡ true → stmts_return ss ≡ true

-- no statement inside another is the last of its function
ends_inside : (h : Here) (ss : TStmts) → h.last ≡ false → Ends false h ss
ends_inside h ss e = record { result = λ l. absurd (true≢false (sym l ∙ e)); returned = λ g. absurd (true≢false (sym g)) }

module _ (p : TProgram) (long : LongParams p) (regions : List TRegion) (rank : Text → ℕ) (own : ℕ) where
  -- the statement is formed in this function
  abbrev KindFormed : List Named → ℕ → TKind → Type 0
  KindFormed γ s k = kind_formed p.names p.functions regions rank own γ s k

  -- so are these statements
  abbrev StmtsFormed : Bool → ℕ → List Named → ℕ → TStmts → Type 0
  StmtsFormed gives inside γ s ss = stmts_formed p.names p.functions regions rank own gives inside γ s ss

  -- the calls of these statements go to lower ranks
  abbrev Calls : List TKind → Type 0
  Calls ks = KindsCall (Lower p rank own) ks

  -- a `return` is the last statement of a function with a result
  return_formed : (gives : Bool) (inside : ℕ) (h : Here) (γ : List Named) (s n line : ℕ) (e : TExpr) (rest : TStmts) → Ends gives h (more (stmt n line (return e)) rest)
      → Unbroken p (before_stmts h rest) (return e) → StmtsMarked regions inside (more (stmt n line (return e)) rest) → StmtsFormed gives inside γ s (more (stmt n line (return e)) rest)
  return_formed gives inside h γ s n line e rest ends u marked =
      let both = not-false ((h.last && is_end rest) && is_same h.function.result (type_of p h.scope e)) u.returns in
      let last = (and_parts (h.last && is_end rest) (is_same h.function.result (type_of p h.scope e)) both).0 in
      let same = (and_parts (h.last && is_end rest) (is_same h.function.result (type_of p h.scope e)) both).1 in
      let end = (and_parts h.last (is_end rest) last).1 in
      let none = none_left regions marked.1 rest end marked.3 in
      (ends.result (and_parts h.last (is_end rest) last).0 ∙ same_left h.function.result (type_of p h.scope e) same, omega (arith, none, marked.2), is_last rest end)

  -- a statement and those behind it
  step_formed : (gives : Bool) (inside : ℕ) (h : Here) (γ : List Named) (s n line : ℕ) (k : TKind) (rest : TStmts) → Ends gives h (more (stmt n line k) rest)
      → Unbroken p (before_stmts h rest) k → (marked : StmtsMarked regions inside (more (stmt n line k) rest)) → (returns k ≡ false → KindFormed γ s k)
      → (returns k ≡ false → StmtsFormed gives marked.1 (in_scope k s rest γ) (s + kind_slots k) rest) → StmtsFormed gives inside γ s (more (stmt n line k) rest)
  step_formed gives inside h γ s n line (return e) rest ends u marked one behind = return_formed gives inside h γ s n line e rest ends u marked
  step_formed gives inside h γ s n line k rest ends u marked one behind = (one refl, marked.1, marked.2, behind refl)

  -- how statements end is how those behind the first end
  ends_behind : (gives : Bool) (h : Here) (n line : ℕ) (k : TKind) (rest : TStmts) → returns k ≡ false → Ends gives h (more (stmt n line k) rest) → Ends gives (after_stmt p h (stmt n line k)) rest
  ends_behind gives h n line k rest other ends = record { result = ends.result; returned = λ g. returns_later n line k rest other (ends.returned g) }

  module _ (h : Here) (γ : List Named) (s : ℕ) (all : AllFound p h.scope γ) where
    -- an assignment to a name
    assign_formed : (x : Text) (r : TRight) → Each (Lower p rank own) (right_calls r) → Unbroken p h (assign x r) → KindFormed γ s (assign x r)
    assign_formed x r lower u =
        let known = (and_parts (is_variable p h.scope x) (right_known p h.scope r) u.known).1 in
        let value = same_left (value_type (variable_of p h.scope x)) (right_type p h.scope r) (not-false (is_same (value_type (variable_of p h.scope x)) (right_type p h.scope r)) u.sides) in
        let writes = not-false (origin_is is_writable (variable_of p h.scope x)) u.target in
        (right_is_formed p long regions rank own h γ all r known u.calls u.gives lower, rule_writes p h.scope γ all is_writable writes_own x writes, own_value p h.scope γ all x value)

    -- an assignment to an element of an array
    assign_index_formed : (x : Text) (e : TExpr) (r : TRight) → Each (Lower p rank own) (expr_calls e ++ right_calls r) → Unbroken p h (assign_index x e r) → KindFormed γ s (assign_index x e r)
    assign_index_formed x e r lower u =
        let parts = (and_parts (is_variable p h.scope x) (expr_known p h.scope e && right_known p h.scope r) u.known).1 in
        let known = (and_parts (expr_known p h.scope e) (right_known p h.scope r) parts).1 in
        let writes = not-false (origin_is is_writable_array (variable_of p h.scope x)) u.array in
        let calls = each_back (CallFine p h) (expr_calls e) (right_calls r) u.calls in
        let gives = each_back (Gives p) (expr_calls e) (right_calls r) u.gives in
        let below = each_back (Lower p rank own) (expr_calls e) (right_calls r) lower in
        (right_is_formed p long regions rank own h γ all r known calls gives below, rule_writes p h.scope γ all is_writable_array writes_array x writes)

    -- an assignment through a reference
    assign_deref_formed : (x : Text) (r : TRight) → Each (Lower p rank own) (right_calls r) → Unbroken p h (assign_deref x r) → KindFormed γ s (assign_deref x r)
    assign_deref_formed x r lower u =
        let known = (and_parts (is_variable p h.scope x) (right_known p h.scope r) u.known).1 in
        let writes = not-false (origin_is is_mutable_param (variable_of p h.scope x)) u.pointee in
        (right_is_formed p long regions rank own h γ all r known u.calls u.gives lower, rule_writes p h.scope γ all is_mutable_param writes_through x writes)

  mutual
    -- a statement but a `return`
    kind_is_formed : (h : Here) (γ : List Named) (s : ℕ) (k : TKind) → returns k ≡ false → KindMarked regions k → AllFound p h.scope γ → KindInForm AnyName k
        → Calls (kind_kinds None k) → Unbroken p h k → AllFine p (kind_elements p h k) → KindFormed γ s k
    kind_is_formed h γ s (let_to m x t r) other marked all form calls u fine = right_is_formed p long regions rank own h γ all r u.known u.calls u.gives calls.0
    kind_is_formed h γ s (let_array m x t z n) other marked all form calls u fine = array_length m x t z n u.lengths
    kind_is_formed h γ s (assign x r) other marked all form calls u fine = assign_formed h γ s all x r calls.0 u
    kind_is_formed h γ s (assign_index x e r) other marked all form calls u fine = assign_index_formed h γ s all x e r calls.0 u
    kind_is_formed h γ s (assign_deref x r) other marked all form calls u fine = assign_deref_formed h γ s all x r calls.0 u
    kind_is_formed h γ s (if_else c a b) other marked all form calls u fine =
        let xs = block_elements p (inside h) a in
        let ys = else_elements p (inside h) b in
        let first = kinds_front (Lower p rank own) (block_kinds None a) (else_kinds None b) calls.1 in
        let second = kinds_back (Lower p rank own) (block_kinds None a) (else_kinds None b) calls.1 in (
          block_is_formed (inside h) γ s a refl marked.0 all form.1 first (fine_front p xs ys fine),
          else_is_formed (inside h) γ (s + block_slots a) b refl marked.1 all form.2
              second (fine_back p xs ys fine),
        )
    kind_is_formed h γ s (for_in x c d b) other marked all form calls u fine =
        (const_word c form.1, const_word d form.2, block_is_formed (in_turn h x) (for_named x s ∷ γ) (s + 1) b refl marked (found_inside p h γ s x c d b u.taken all) form.3 calls.1 fine)
    kind_is_formed h γ s (while_do c n b) other marked all form calls u fine =
        (few_turns c n b u.turns, block_is_formed (inside h) γ (s + 1) b refl marked all form.2 calls.1 fine)
    kind_is_formed h γ s (call_only c) other marked all form calls u fine =
        call_is_formed p long regions rank own h γ all c u.known (last_call (CallFine p h) c u.calls) (last_call (Lower p rank own) c calls.0)
    kind_is_formed h γ s (sense_only x) other marked all form calls u fine = among_known p.names.sensors x u.known
    kind_is_formed h γ s (emit q e) other marked all form calls u fine = among_known p.names.ports q (and_parts (is_name_of p.names.ports q) (expr_known p h.scope e) u.known).0
    kind_is_formed h γ s (fresh x) other marked all form calls u fine = tt
    kind_is_formed h γ s (consistent x n) other marked all form calls u fine = tt
    kind_is_formed h γ s (return e) other marked all form calls u fine = absurd (true≢false other)

    -- what stands behind `else`
    else_is_formed : (h : Here) (γ : List Named) (s : ℕ) (b : TElse) → h.last ≡ false → ElseMarked regions b → AllFound p h.scope γ → ElseInForm AnyName b
        → Calls (else_kinds None b) → AllFine p (else_elements p h b) → else_formed p.names p.functions regions rank own γ s b
    else_is_formed h γ s no_else later marked all form calls fine = tt
    else_is_formed h γ s (else_do b) later marked all form calls fine = block_is_formed h γ s b later marked all form calls fine

    -- a block of a statement
    block_is_formed : (h : Here) (γ : List Named) (s : ℕ) (b : TBlock) → h.last ≡ false → BlockMarked regions b → AllFound p h.scope γ → BlockInForm AnyName b
        → Calls (block_kinds None b) → AllFine p (block_elements p h b) → block_formed p.names p.functions regions rank own γ s b
    block_is_formed h γ s (block id ss) later marked all form calls fine =
        stmts_are_formed false 0 (record h { block = id }) γ s ss (ends_inside (record h { block = id }) ss later) marked all form calls fine

    -- the statements of a block, in front of which `inside` regions are open
    pub stmts_are_formed : (gives : Bool) (inside : ℕ) (h : Here) (γ : List Named) (s : ℕ) (ss : TStmts) → Ends gives h ss → StmtsMarked regions inside ss → AllFound p h.scope γ
        → StmtsInForm AnyName ss → Calls (stmts_kinds None ss) → AllFine p (stmts_elements p h ss) → StmtsFormed gives inside γ s ss
    stmts_are_formed gives inside h γ s no_stmts ends marked all form calls fine = (gives_no_more gives ends.returned, marked)
    stmts_are_formed gives inside h γ s (more (stmt n line k) rest) ends marked all form calls fine =
        let here = before_stmts h rest in
        let next = after_stmt p h (stmt n line k) in
        let xs = stmt_elements p here (stmt n line k) in
        let ys = stmts_elements p next rest in
        let one = fine_front p xs ys fine in
        let u : Unbroken p here k = unbroken p one.0.0 here k one.0.1 in
        let parts = calls_behind (Lower p rank own) k n line rest calls in
        step_formed gives inside h γ s n line k rest ends u marked
        (λ other. kind_is_formed here γ s k other marked.0 all form.0 parts.0 u one.1)
        (λ other. stmts_are_formed gives marked.1 next (in_scope k s rest γ) (s + kind_slots k) rest (ends_behind gives h n line k rest other ends) marked.3
        (found_behind p h γ n s k rest u.taken all) form.1 parts.1 (fine_back p xs ys fine))
