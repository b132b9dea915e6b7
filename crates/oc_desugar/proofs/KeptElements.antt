-- The statements of an expansion break no rule, where those of the program break none.
use Rattle.std.proofs.Common.{◌≡◌, ◌≤◌, ◌^◌, ℕ, ◌+◌, Bool, false, List, [], ◌∷◌, ◌++◌, refl, ap, sym, subst, ◌∙◌, arith, None}
use Rattle.std.specs.Prelude.{◌&&◌}
use Rattle.std.proofs.lemmas.List.{length-map}
use Rattle.oc_lex.specs.Stands.{IsName}
use Rattle.oc_tree.specs.Tree.{TKind, let_to, let_array, assign, assign_index, assign_deref, if_else, for_in, while_do, call_only, sense_only, emit, fresh, consistent, return}
use Rattle.oc_tree.specs.Tree.{TElse, no_else, else_do, TStmt, stmt, TBlock, block, TStmts, no_stmts, more, TProgram}
use Rattle.oc_tree.specs.declared.scope.Origin.TheVariants as origins
use Rattle.oc_tree.specs.declared.scope.Var.{Var}
use Rattle.oc_tree.specs.declared.tree.ValueKind.{ValueKind}
use Rattle.oc_tree.specs.declared.tree.ValueKind.TheVariants as kinds
use Rattle.oc_tree.specs.Pulls.{expr_pulls, own_pulls, inner_pulls, else_pulls, stmt_pulls, block_pulls, stmts_pulls}
use Rattle.oc_tree.specs.Form.{KindInForm, ElseInForm, BlockInForm, StmtsInForm}
use Rattle.oc_tree.specs.Elements.{Here, statement, let_var, kind_of, after_stmt, turn_var, in_turn, inside, is_end, before_stmts, kind_elements, else_elements, block_elements, stmts_elements}
use Rattle.oc_tree.specs.Limits.{Tally, policies_after, with_statement, statement_passes}
use Rattle.oc_tree.specs.Broken.{statement_rules, first_broken}
use Rattle.oc_tree.specs.Expansion.{temporaries, pulled, join_stmts, expand_kind, expand_else, expand_block, expand_stmts, block_size, stmt_size}
use Rattle.oc_desugar.proofs.Seen.{new_var, SameHere, HeldOwn}
use Rattle.oc_desugar.proofs.Lengths.{length_pulled}
use Rattle.oc_desugar.proofs.NoPulls.{plain_kind}
use Rattle.oc_desugar.proofs.KeptNumbers.{InnerPlaced, ElsePlaced, BlockPlaced, StmtsPlaced}
use Rattle.oc_desugar.proofs.KeptScopes.{with_var, sees_more, Unused, unused_more, unused_later}
use Rattle.oc_desugar.proofs.KeptCounts.{new_policy, new_tally, Apart, with_temporaries, group_counts, passes_none, NoMore, same_counts}
use Rattle.oc_desugar.proofs.KeptClean.{tally, tally_join, Clean, clean_none, clean_first, clean_join, first_clean, apart_of, not_at, Laws}
use Rattle.oc_desugar.proofs.KeptGroups.{same_before, Written, group_clean}

-- ---- where the next statement stands

-- a group is not empty
pub group_goes_on : (xs : List TStmt) (x : TStmt) (rest : TStmts) → is_end (join_stmts (xs ++ x ∷ []) rest) ≡ false
group_goes_on [] x rest = refl
group_goes_on (y ∷ xs) x rest = refl

-- statements end where the written ones end
pub same_end : (k i : ℕ) (ss : TStmts) → is_end (expand_stmts k i ss) ≡ is_end ss
same_end k i no_stmts = refl
same_end k i (more (stmt id line s) ss) =
    group_goes_on (temporaries k i line (pulled k s)) (stmt (i + own_pulls s) line (expand_kind k (i + own_pulls s + 1) s))
    (expand_stmts (k + stmt_pulls (stmt id line s)) (i + stmt_size (stmt id line s)) ss)

-- places of both programs, and no temporary from `u` on is used
abbrev Follows : (ℕ → ℕ) → ℕ → Here → Here → Type 0
Follows f u h g = SameHere f h g × Unused u g.scope

-- one variable more
with_scope : (f : ℕ → ℕ) (u : ℕ) (h g : Here) (x : List ℕ) (v w : Var) → IsName x → w ≡ new_var f v → SameHere f h g → Unused u g.scope
    → Follows f u (record h { scope = with_var h.scope x v }) (record g { scope = with_var g.scope x w })
with_scope f u h g x v w n e same unused =
    (record { head = same.head; number = same.number; scope = sees_more f h.scope g.scope x v w e same.scope; block = same.block }, unused_more u g.scope x w n unused)

-- the variable of a `let` with its new number
same_let : (f : ℕ → ℕ) (h g : Here) (id at : ℕ) (m : Bool) (a b : ValueKind) → g.block ≡ h.block → f id ≡ at → b ≡ a → let_var g at m b ≡ new_var f (let_var h id m a)
same_let f h g id at m a b p q r = λ i. record { origin = origins.Let m (sym q i) (p i); kind = r i }

-- without a temporary the counts stay
no_temporaries : (n : Tally) → n ≡ with_temporaries n []
no_temporaries n = same_counts n (with_temporaries n []) refl (omega arith) (omega arith) (omega arith) refl

module _ (p q : TProgram) (f : ℕ → ℕ) (laws : Laws p q f) (apart : Apart f) where
  -- behind a statement
  behind : (h g : Here) (k id i line at u : ℕ) (s : TKind) → SameHere f h g → f id ≡ at → HeldOwn p g.scope k s → KindInForm IsName s → Unused u g.scope
      → Follows f u (after_stmt p h (stmt id line s)) (after_stmt q g (stmt at line (expand_kind k i s)))
  behind h g k id i line at u (let_to m x t r) same e held n unused =
      with_scope f u h g x _ _ n.0 (same_let f h g id at m _ _ same.block e (ap kind_of (laws.type_kept h g k m x t r same held n))) same unused
  behind h g k id i line at u (let_array m x t z w) same e held n unused =
      with_scope f u h g x _ _ n.0 (same_let f h g id at m (kinds.Array w) (kinds.Array w) same.block e refl) same unused
  behind h g k id i line at u (assign x r) same e held n unused = (same, unused)
  behind h g k id i line at u (assign_index x c r) same e held n unused = (same, unused)
  behind h g k id i line at u (assign_deref x r) same e held n unused = (same, unused)
  behind h g k id i line at u (if_else c a b) same e held n unused = (same, unused)
  behind h g k id i line at u (for_in x m c b) same e held n unused = (same, unused)
  behind h g k id i line at u (while_do c m b) same e held n unused = (same, unused)
  behind h g k id i line at u (call_only c) same e held n unused = (same, unused)
  behind h g k id i line at u (sense_only c) same e held n unused = (same, unused)
  behind h g k id i line at u (emit c d) same e held n unused = (same, unused)
  behind h g k id i line at u (fresh x) same e held n unused = (same, unused)
  behind h g k id i line at u (consistent x m) same e held n unused = (same, unused)
  behind h g k id i line at u (return c) same e held n unused = (same, unused)

  -- no limit is passed at the statement itself
  own_passes : (h g : Here) (n : Tally) (k i : ℕ) (s : TKind) → Written p h n s → with_statement (with_temporaries (new_tally f n) (pulled k s)) g (expand_kind k i s)
      ≡ new_tally f (with_statement n h s) → statement_passes (with_statement (with_temporaries (new_tally f n) (pulled k s)) g (expand_kind k i s)) ≡ false
  own_passes h g n k i s w e = ap statement_passes e
      ∙ passes_none (new_tally f (with_statement n h s)) (with_statement n h s) same (not_at (statement_rules p (with_statement n h s) h s) 19 w.unbroken)
    where
      same : NoMore (new_tally f (with_statement n h s)) (with_statement n h s)
      same = record { variables = omega arith; statements = omega arith; calls = omega arith; policies = omega (arith, length-map (policies_after n.policies h s) (new_policy f)) }

  mutual
    -- what stands inside a statement
    kind_clean : (h g : Here) (n : Tally) (k i : ℕ) (s : TKind) → SameHere f h g → Unused (k + own_pulls s) g.scope → k + (own_pulls s + inner_pulls s) ≤ 2 ^ 64
        → KindInForm IsName s → InnerPlaced f i s
        → first_broken p n (kind_elements p h s) ≡ None → Clean q (new_tally f n) (kind_elements q g (expand_kind k i s)) (new_tally f (tally n (kind_elements p h s)))
    kind_clean h g n k i (let_to m x t r) same unused bound w at b = clean_none q _ _ refl
    kind_clean h g n k i (let_array m x t z c) same unused bound w at b = clean_none q _ _ refl
    kind_clean h g n k i (assign x r) same unused bound w at b = clean_none q _ _ refl
    kind_clean h g n k i (assign_index x c r) same unused bound w at b = clean_none q _ _ refl
    kind_clean h g n k i (assign_deref x r) same unused bound w at b = clean_none q _ _ refl
    kind_clean h g n k i (if_else c a e) same unused bound w at b =
        let m = k + expr_pulls c in
        let o = m + block_pulls a in
        let xs = block_elements p (inside h) a in
        let ys = else_elements p (inside h) e in
        let parts = apart_of p n xs ys b in
        let same' : SameHere f (inside h) (inside g) = record { head = same.head; number = same.number; scope = same.scope; block = same.block } in
        let first = block_clean (inside h) (inside g) n m i a same' refl unused (omega (arith, bound)) w.1 at.0 parts.0 in
        let second = else_clean (inside h) (inside g) (tally n xs) o (i + block_size a) e same' refl (unused_later m o g.scope (omega arith) unused) (omega (arith, bound)) w.2 at.1 parts.1 in
        subst (λ z. Clean q (new_tally f n) (kind_elements q g (expand_kind k i (if_else c a e))) (new_tally f z)) (sym (tally_join n xs ys))
        (clean_join q (new_tally f n) (block_elements q (inside g) (expand_block m i a)) (else_elements q (inside g) (expand_else o (i + block_size a) e))
        (new_tally f (tally n xs)) (new_tally f (tally (tally n xs) ys)) first second)
    kind_clean h g n k i (for_in x from to e) same unused bound w at b =
        let next = with_scope f k h g x turn_var turn_var w.0 refl same (unused_later (k + 0) k g.scope (omega arith) unused) in
        let same' : SameHere f (in_turn h x) (in_turn g x) = record { head = same.head; number = same.number; scope = next.0.scope; block = same.block } in
        block_clean (in_turn h x) (in_turn g x) n k i e same' refl next.1 (omega (arith, bound)) w.3 at b
    kind_clean h g n k i (while_do c m e) same unused bound w at b =
        let same' : SameHere f (inside h) (inside g) = record { head = same.head; number = same.number; scope = same.scope; block = same.block } in
        block_clean (inside h) (inside g) n (k + expr_pulls c) i e same' refl unused (omega (arith, bound)) w.2 at b
    kind_clean h g n k i (call_only c) same unused bound w at b = clean_none q _ _ refl
    kind_clean h g n k i (sense_only s) same unused bound w at b = clean_none q _ _ refl
    kind_clean h g n k i (emit x c) same unused bound w at b = clean_none q _ _ refl
    kind_clean h g n k i (fresh x) same unused bound w at b = clean_none q _ _ refl
    kind_clean h g n k i (consistent x m) same unused bound w at b = clean_none q _ _ refl
    kind_clean h g n k i (return c) same unused bound w at b = clean_none q _ _ refl

    else_clean : (h g : Here) (n : Tally) (k i : ℕ) (e : TElse) → SameHere f h g → g.last ≡ h.last → Unused k g.scope → k + else_pulls e ≤ 2 ^ 64 → ElseInForm IsName e → ElsePlaced f i e
        → first_broken p n (else_elements p h e) ≡ None → Clean q (new_tally f n) (else_elements q g (expand_else k i e)) (new_tally f (tally n (else_elements p h e)))
    else_clean h g n k i no_else same kept unused bound w at b = clean_none q _ _ refl
    else_clean h g n k i (else_do e) same kept unused bound w at b = block_clean h g n k i e same kept unused bound w at b

    pub block_clean : (h g : Here) (n : Tally) (k i : ℕ) (e : TBlock) → SameHere f h g → g.last ≡ h.last → Unused k g.scope → k + block_pulls e ≤ 2 ^ 64 → BlockInForm IsName e → BlockPlaced f i e
        → first_broken p n (block_elements p h e) ≡ None → Clean q (new_tally f n) (block_elements q g (expand_block k i e)) (new_tally f (tally n (block_elements p h e)))
    block_clean h g n k i (block id ss) same kept unused bound w at b =
        let same' : SameHere f (record h { block = id }) (record g { block = id }) = record { head = same.head; number = same.number; scope = same.scope; block = refl } in
        stmts_clean (record h { block = id }) (record g { block = id }) n k i ss same' kept unused bound w at b

    -- statements, each with what stands inside it
    stmts_clean : (h g : Here) (n : Tally) (k i : ℕ) (ss : TStmts) → SameHere f h g → g.last ≡ h.last → Unused k g.scope → k + stmts_pulls ss ≤ 2 ^ 64 → StmtsInForm IsName ss → StmtsPlaced f i ss
        → first_broken p n (stmts_elements p h ss) ≡ None → Clean q (new_tally f n) (stmts_elements q g (expand_stmts k i ss)) (new_tally f (tally n (stmts_elements p h ss)))
    stmts_clean h g n k i no_stmts same kept unused bound w at b = clean_none q _ _ refl
    stmts_clean h g n k i (more (stmt id line s) ss) same kept unused bound w at b =
        let h1 = before_stmts h ss in
        let n1 = with_statement n h1 s in
        let u = k + own_pulls s in
        let i1 = i + own_pulls s in
        let own = expand_kind k (i1 + 1) s in
        let last = stmt i1 line own in
        let k2 = k + stmt_pulls (stmt id line s) in
        let i2 = i + stmt_size (stmt id line s) in
        let rest = expand_stmts k2 i2 ss in
        let xs = kind_elements p h1 s in
        let h2 = after_stmt p h (stmt id line s) in
        let ys = stmts_elements p h2 ss in
        let end = new_tally f (tally n1 (xs ++ ys)) in
        let first = first_clean p n (statement h1 id line s) (xs ++ ys) b in
        let parts = apart_of p n1 xs ys first.1 in
        let written : Written p h1 n s = record { in_form = w.0; unbroken = first.0 } in
        let same1 : SameHere f h1 g = record { head = same.head; number = same.number; scope = same.scope; block = same.block } in
        group_clean p q f laws h1 n k line s written last rest end g.last u (pulled k s) [] g k i (new_tally f n) same1 refl refl (omega arith) (omega (arith, length_pulled k s))
        (omega (arith, bound)) tt unused (plain_kind k s) (no_temporaries (new_tally f n))
        (λ g' e stays held un.
        let g2 = before_stmts g' rest in
        let same2 : SameHere f h1 g2 = same_before f h1 g' rest e in
        let same' : SameHere f h g' = record { head = e.head; number = e.number; scope = e.scope; block = e.block } in
        let counts = group_counts f apart n h1 g2 k (i1 + 1) s same2 w.0 in
        let place : g2.last ≡ h1.last = ap (λ c. c && is_end rest) (stays ∙ kept) ∙ ap (λ c. h.last && c) (same_end k2 i2 ss) in
        let rule = laws.statement h1 g2 n1 (with_statement (with_temporaries (new_tally f n) (pulled k s)) g2 own) k (i1 + 1) s same2 place held w.0 first.0
        (own_passes h1 g2 n k (i1 + 1) s written counts) in
        let next = behind h g' k id (i1 + 1) line i1 u s same' at.0 held w.0 un in
        let inner = kind_clean h1 g2 n1 k (i1 + 1) s same2 un (omega (arith, bound)) w.0 at.1 parts.0 in
        let after = stmts_clean h2 (after_stmt q g' last) (tally n1 xs) k2 i2 ss next.0 (stays ∙ kept) (unused_later u k2 (after_stmt q g' last).scope (omega arith) next.1)
        (omega (arith, bound)) w.1 at.2 parts.1 in
        let both = clean_join q (new_tally f n1) (kind_elements q g2 own) (stmts_elements q (after_stmt q g' last) rest) (new_tally f (tally n1 xs))
        (new_tally f (tally (tally n1 xs) ys)) inner after in
        let whole = subst (λ z. Clean q (new_tally f n1) (kind_elements q g2 own ++ stmts_elements q (after_stmt q g' last) rest) (new_tally f z)) (sym (tally_join n1 xs ys)) both in
        let own_counts = subst (λ m. Clean q m (kind_elements q g2 own ++ stmts_elements q (after_stmt q g' last) rest) end) (sym counts) whole in
        clean_first q (with_temporaries (new_tally f n) (pulled k s)) (statement g2 i1 line own) (kind_elements q g2 own ++ stmts_elements q (after_stmt q g' last) rest) end rule own_counts)
