-- The `let`s of the temporaries of a statement break no rule, and behind them all of its pulls are held.
use Rattle.std.proofs.Common.{◌≡◌, ◌<◌, ◌≤◌, ◌^◌, ℕ, ◌+◌, Bool, false, List, [], ◌∷◌, ◌++◌, length, ap, sym, subst, ◌∙◌, arith, append_assoc, append-nil, None}
use Rattle.std.proofs.lemmas.List.{length-append}
use Rattle.oc_lex.specs.Stands.{IsName}
use Rattle.oc_tree.specs.Tree.{TRight, TKind, let_to, TStmt, stmt, TStmts, more, TProgram}
use Rattle.oc_tree.specs.Types.{right_type}
use Rattle.oc_tree.specs.Form.{KindInForm}
use Rattle.oc_tree.specs.Elements.{Here, statement, let_var, kind_of, after_stmt, before_stmts, stmts_elements}
use Rattle.oc_tree.specs.Limits.{Tally, with_statement, statement_passes}
use Rattle.oc_tree.specs.Broken.{statement_rules, lowest}
use Rattle.oc_tree.specs.Expansion.{temporary, temporaries, pulled, join_stmts}
use Rattle.oc_desugar.proofs.Seen.{SameHere, HeldPulls, HeldOwn}
use Rattle.oc_desugar.proofs.NoPulls.{NoPulls, one_more}
use Rattle.oc_desugar.proofs.PullSplits.{sees_more, pulls_held_more, held_one_more}
use Rattle.oc_desugar.proofs.KeptScopes.{with_var, Unused, unused_temporary}
use Rattle.oc_desugar.proofs.KeptCounts.{new_tally, with_temporaries, one_temporary, passes_none, front_counts}
use Rattle.oc_desugar.proofs.KeptClean.{Clean, clean_first, not_at, Laws}

-- the place of a statement that others follow is the same
pub same_before : (f : ℕ → ℕ) (h g : Here) (ss : TStmts) → SameHere f h g → SameHere f h (before_stmts g ss)
same_before f h g ss e = record { head = e.head; number = e.number; scope = e.scope; block = e.block }

-- a written statement at `h` which breaks no rule, with the counts `n` before it
pub record Written (p : TProgram) (h : Here) (n : Tally) (s : TKind) : Type 0 where
  pub in_form : KindInForm IsName s
  pub unbroken : lowest (statement_rules p (with_statement n h s) h s) ≡ None

module _ (p q : TProgram) (f : ℕ → ℕ) (laws : Laws p q f) where
  -- no limit is passed within the group
  within : (h : Here) (n : Tally) (k : ℕ) (s : TKind) (front back : List TRight) → Written p h n s → pulled k s ≡ front ++ back → statement_passes (with_temporaries (new_tally f n) front) ≡ false
  within h n k s front back w e =
      passes_none (with_temporaries (new_tally f n) front) (with_statement n h s) (front_counts f n h k s front back e)
      (not_at (statement_rules p (with_statement n h s) h s) 19 w.unbroken)

  module _ (h : Here) (n : Tally) (k line : ℕ) (s : TKind) (w : Written p h n s) (last : TStmt) (rest : TStmts) (end : Tally) (kept : Bool) (u : ℕ) where
    -- what follows where all temporaries are held
    abbrev Behind : Type 0
    Behind = (g : Here) → SameHere f h g → g.last ≡ kept → HeldOwn p g.scope k s → Unused u g.scope → Clean q (with_temporaries (new_tally f n) (pulled k s)) (stmts_elements q g (more last rest)) end

    -- the `let`s of the pulls that are left, where those in front are held, and what follows
    pub group_clean : (rs front : List TRight) (g : Here) (j i : ℕ) (m : Tally)
        → SameHere f h g → g.last ≡ kept → pulled k s ≡ front ++ rs → j ≡ k + length front → u ≡ j + length rs → u ≤ 2 ^ 64
        → HeldPulls p g.scope k front → Unused j g.scope → NoPulls rs → m ≡ with_temporaries (new_tally f n) front
        → Behind
        → Clean q m (stmts_elements q g (join_stmts (temporaries j i line rs ++ last ∷ []) rest)) end
    group_clean [] front g j i m e kp parts at to bound held unused none counts behind =
        let whole : pulled k s ≡ front = parts ∙ append-nil front in
        let same : m ≡ with_temporaries (new_tally f n) (pulled k s) = counts ∙ ap (with_temporaries (new_tally f n)) (sym whole) in
        let own : HeldOwn p g.scope k s = subst (λ l. HeldPulls p g.scope k l) (sym whole) held in
        let still : Unused u g.scope = subst (λ a. Unused a g.scope) (omega (arith, to)) unused in
        subst (λ a. Clean q a (stmts_elements q g (more last rest)) end) (sym same) (behind g e kp own still)
    group_clean (r ∷ rs) front g j i m e kp parts at to bound held unused (one_more _ _ plain none) counts behind =
        let tail = join_stmts (temporaries (j + 1) (i + 1) line rs ++ last ∷ []) rest in
        let name = temporary j in
        let own = let_to false name None r in
        let g' = after_stmt q g (stmt i line own) in
        let v = let_var g i false (kind_of (right_type q g.scope r)) in
        let grown = front ++ r ∷ [] in
        let split : pulled k s ≡ grown ++ rs = parts ∙ sym (append_assoc front (r ∷ []) rs) in
        let small : j < 2 ^ 64 = omega (arith, to, bound) in
        let new : Unused (k + length front) g.scope = subst (λ a. Unused a g.scope) at unused in
        let none_yet = new (k + length front) (omega arith) (omega (arith, small, at)) in
        let counted : with_statement m (before_stmts g tail) own ≡ with_temporaries (new_tally f n) grown = ap (λ a. with_statement a (before_stmts g tail) own) counts
        ∙ one_temporary (new_tally f n) (before_stmts g tail) name front r plain in
        let passes : statement_passes (with_statement m (before_stmts g tail) own) ≡ false = ap statement_passes counted ∙ within h n k s grown rs w split in
        let rule = laws.temporary_let h (before_stmts g tail) (with_statement n h s) (with_statement m (before_stmts g tail) own) k s front rs r (same_before f h g tail e) parts
        held none_yet w.in_form w.unbroken passes in
        let rule' = subst (λ a. lowest (statement_rules q (with_statement m (before_stmts g tail) own) (before_stmts g tail) (let_to false (temporary a) None r)) ≡ None) (sym at) rule in
        let now = laws.held h g (with_statement n h s) k i s front rs r e parts held none_yet w.in_form w.unbroken in
        let now' = subst (λ a. HeldPulls p (with_var g.scope (temporary a) v) k grown) (sym at)
        (held_one_more p (with_var g.scope (temporary (k + length front)) v) k front r (pulls_held_more p g.scope ((temporary (k + length front), v) ∷ []) k front held) now) in
        let e' : SameHere f h g' = record { head = e.head; number = e.number; scope = sees_more f h.scope g.scope j v e.scope; block = e.block } in
        clean_first q m (statement (before_stmts g tail) i line own) (stmts_elements q g' tail) end rule'
        (group_clean rs grown g' (j + 1) (i + 1) (with_statement m (before_stmts g tail) own) e' kp split (omega (arith, at, length-append front (r ∷ [])))
        (omega (arith, to)) bound now' (unused_temporary j g.scope v unused) none counted behind)
