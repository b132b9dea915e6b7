-- What the rules of declarations look at stays in an expansion.
use Rattle.std.proofs.Common.{◌≡◌, ℕ, ◌+◌, List, [], ◌∷◌, ◌++◌, refl, ap, ◌∙◌, arith, cond, All}
use Rattle.std.specs.Prelude.{◌&&◌, ◌||◌, not, is_some}
use Rattle.std.specs.List.{list_any}
use Rattle.std.proofs.lemmas.List.Elements.{All-tail}
use Rattle.oc_lex.specs.Stands.{IsName}
use Rattle.oc_tree.specs.Names.{Text}
use Rattle.oc_tree.specs.Tree.{TKind, let_to, let_array, assign, assign_index, assign_deref, if_else, for_in, while_do, call_only, sense_only, emit, fresh, consistent, return}
use Rattle.oc_tree.specs.Tree.{TStmt, stmt, TBlock, block, TStmts, no_stmts, more, TFunction, TProgram}
use Rattle.oc_tree.specs.declared.before.Before.{Before}
use Rattle.oc_tree.specs.declared.tree.Param.{Param}
use Rattle.oc_tree.specs.Pulls.{own_pulls, stmt_pulls, block_pulls}
use Rattle.oc_tree.specs.Calls.{place}
use Rattle.oc_tree.specs.Scope.{Scope, is_in_scope, is_taken, param_var, with_param, with_params, takes_param}
use Rattle.oc_tree.specs.Form.{ParamInForm}
use Rattle.oc_tree.specs.Elements.{is_end}
use Rattle.oc_tree.specs.Rules.{stands_before, declared_before, is_main, is_return, stmts_return, block_returns, return_missing}
use Rattle.oc_tree.specs.Expansion.{temporaries, pulled, join_stmts, expand_kind, expand_block, expand_stmts, expand_function, expand_functions, expansion, block_size, stmt_size}
use Rattle.oc_desugar.proofs.Seen.{Sees}
use Rattle.oc_desugar.proofs.KeptLookups.{same_place, same_declared}
use Rattle.oc_desugar.proofs.KeptReach.{same_top}
use Rattle.oc_desugar.proofs.KeptScopes.{sees_more, Unused, unused_more}
use Rattle.oc_desugar.proofs.KeptElements.{group_goes_on, same_end}

-- ---- the names of the top level

-- what is declared before a place
pub same_declared_before : (p : TProgram) (b : Before) (x : Text) → declared_before (expansion p) b x ≡ declared_before p b x
same_declared_before p b x =
    ap (λ o. stands_before (place p.names.sensors x) b.sensors ||
    (stands_before (place p.names.ports x) b.ports || (stands_before (place p.names.nvs x) b.nvs || stands_before o b.functions))) (same_place (same_top p) x)

-- parameters whose names are taken
pub same_takes_param : (p : TProgram) (scope : Scope) (qs : List Param) → takes_param (expansion p) scope qs ≡ takes_param p scope qs
same_takes_param p scope [] = refl
same_takes_param p scope (q ∷ qs) = ap (λ b. b || takes_param (expansion p) (with_param scope q) qs) (ap (λ b. is_in_scope scope q.name || b) (same_declared (same_top p) q.name))
    ∙ ap (λ b. is_taken p scope q.name || b) (same_takes_param p (with_param scope q) qs)

-- a function is called `main`
pub has_main : (k i : ℕ) (fs : List TFunction) → list_any (λ f. is_main f.name) (expand_functions k i fs) ≡ list_any (λ f. is_main f.name) fs
has_main k i [] = refl
has_main k i (f ∷ fs) = ap (λ b. is_main f.name || b) (has_main (k + block_pulls f.body) (i + block_size f.body) fs)

-- ---- the last statement of a body

-- a `return` stays one
same_return : (k i id at line : ℕ) (s : TKind) → is_return (stmt at line (expand_kind k i s)) ≡ is_return (stmt id line s)
same_return k i id at line (let_to m x t r) = refl
same_return k i id at line (let_array m x t z n) = refl
same_return k i id at line (assign x r) = refl
same_return k i id at line (assign_index x e r) = refl
same_return k i id at line (assign_deref x r) = refl
same_return k i id at line (if_else c a b) = refl
same_return k i id at line (for_in x m n b) = refl
same_return k i id at line (while_do c n b) = refl
same_return k i id at line (call_only c) = refl
same_return k i id at line (sense_only s) = refl
same_return k i id at line (emit p e) = refl
same_return k i id at line (fresh x) = refl
same_return k i id at line (consistent x n) = refl
same_return k i id at line (return e) = refl

-- behind a group the last statement is asked on
group_return : (xs : List TStmt) (x : TStmt) (rest : TStmts) → stmts_return (join_stmts (xs ++ x ∷ []) rest) ≡ cond (is_end rest) (is_return x) (stmts_return rest)
group_return [] x rest = refl
group_return (y ∷ xs) x rest = ap (λ b. cond b (is_return y) (stmts_return (join_stmts (xs ++ x ∷ []) rest))) (group_goes_on xs x rest) ∙ group_return xs x rest

-- a body ends in a `return` as the written one does
returns_stmts : (k i : ℕ) (ss : TStmts) → stmts_return (expand_stmts k i ss) ≡ stmts_return ss
returns_stmts k i no_stmts = refl
returns_stmts k i (more (stmt id line s) ss) =
    let k' = k + stmt_pulls (stmt id line s) in
    let i' = i + stmt_size (stmt id line s) in
    let own = stmt (i + own_pulls s) line (expand_kind k (i + own_pulls s + 1) s) in
    group_return (temporaries k i line (pulled k s)) own (expand_stmts k' i' ss)
    ∙ ap (λ b. cond b (is_return own) (stmts_return (expand_stmts k' i' ss))) (same_end k' i' ss)
    ∙ ap (λ b. cond (is_end ss) b (stmts_return (expand_stmts k' i' ss))) (same_return k (i + own_pulls s + 1) id (i + own_pulls s) line s)
    ∙ ap (λ b. cond (is_end ss) (is_return (stmt id line s)) b) (returns_stmts k' i' ss)

returns_block : (k i : ℕ) (b : TBlock) → block_returns (expand_block k i b) ≡ block_returns b
returns_block k i (block id ss) = returns_stmts k i ss

-- and so no `return` is missing that isn't missing there
pub same_missing : (k i : ℕ) (f : TFunction) → return_missing (expand_function k i f) ≡ return_missing f
same_missing k i f = ap (λ b. is_some f.result && not b) (returns_block k i f.body)

-- ---- parameters

-- parameters are seen as they are
pub sees_params : (f : ℕ → ℕ) (scope : Scope) (qs : List Param) → Sees f scope scope → Sees f (with_params scope qs) (with_params scope qs)
sees_params f scope [] h = h
sees_params f scope (q ∷ qs) h = sees_params f (with_param scope q) qs (sees_more f scope scope q.name (param_var q) (param_var q) refl h)

-- no parameter has a temporary's name
pub unused_params : (k : ℕ) (scope : Scope) (qs : List Param) → All (ParamInForm IsName) qs → Unused k scope → Unused k (with_params scope qs)
unused_params k scope [] n h = h
unused_params k scope (q ∷ qs) n h = unused_params k (with_param scope q) qs (All-tail (ParamInForm IsName) q qs n) (unused_more k scope q.name (param_var q) (n 0 q (omega arith)).0 h)
