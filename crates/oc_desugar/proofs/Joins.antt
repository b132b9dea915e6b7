-- Lists of arguments and of statements, one after the other.
use Rattle.std.proofs.Common.{◌∙◌, arith, ◌≡◌, List, [], ◌∷◌, ◌++◌, map, refl, ap, ℕ, ◌+◌, ◌≤◌, length, drop}
use Rattle.std.proofs.lemmas.List.{drop_all, append_assoc}
use Rattle.oc_tree.specs.Pulls.{own_pulls, arg_pulls, stmt_pulls, stmts_pulls}
use Rattle.oc_tree.specs.Expansion.{left_args, left_arg, expand_stmt, expand_stmts, stmt_size, stmts_size, join_stmts, inner_groups, inner_size, stmts_groups}
use Rattle.oc_tree.specs.Tree.{TArgs, no_args, more_args, TKind, TStmt, stmt, TStmts, no_stmts, more}
use Rattle.oc_tree.specs.View.{arg_view, args_view, stmt_view, stmts_view}
use Rattle.oc_tree.specs.declared.tree.Arg.{Arg}
use Rattle.oc_tree.specs.declared.tree.Stmt.{Stmt}
use Rattle.oc_desugar.specs.Joined.{join_args}

pub join_args_push : (xs : List Arg) (x : Arg) (rest : TArgs) → join_args (map arg_view (xs ++ x ∷ [])) rest ≡ join_args (map arg_view xs) (more_args (arg_view x) rest)
join_args_push [] x rest = refl
join_args_push (y ∷ ys) x rest = ap (more_args (arg_view y)) (join_args_push ys x rest)

pub join_args_end : (xs : List Arg) → join_args (map arg_view xs) no_args ≡ args_view xs
join_args_end [] = refl
join_args_end (y ∷ ys) = ap (more_args (arg_view y)) (join_args_end ys)

pub join_stmts_push : (xs : List Stmt) (x : Stmt) (rest : TStmts) → join_stmts (map stmt_view (xs ++ x ∷ [])) rest ≡ join_stmts (map stmt_view xs) (more (stmt_view x) rest)
join_stmts_push [] x rest = refl
join_stmts_push (y ∷ ys) x rest = ap (more (stmt_view y)) (join_stmts_push ys x rest)

pub join_stmts_end : (xs : List Stmt) → join_stmts (map stmt_view xs) no_stmts ≡ stmts_view xs
join_stmts_end [] = refl
join_stmts_end (y ∷ ys) = ap (more (stmt_view y)) (join_stmts_end ys)

-- one more argument
pub left_args_step : (out new : List Arg) (x item : Arg) (k n : ℕ) (i : ℕ) (args : List Arg) (whole : TArgs)
    → new ≡ out ++ x ∷ []
    → arg_view x ≡ left_arg k (arg_view item)
    → n ≡ k + arg_pulls (arg_view item)
    → drop i args ≡ item ∷ drop (i + 1) args
    → join_args (map arg_view out) (left_args k (args_view (drop i args))) ≡ whole
    → join_args (map arg_view new) (left_args n (args_view (drop (i + 1) args))) ≡ whole
left_args_step out new x item k n i args whole a b d e h =
    let p = join_args_push out x (left_args n (args_view (drop (i + 1) args))) in
    let q : left_args k (args_view (drop i args)) ≡ more_args (left_arg k (arg_view item)) (left_args (k + arg_pulls (arg_view item)) (args_view (drop (i + 1) args))) =
    ap (λ l. left_args k (args_view l)) e in
    cc

pub left_args_end : (out : List Arg) (k i : ℕ) (args : List Arg) (whole : TArgs)
    → length args ≤ i
    → join_args (map arg_view out) (left_args k (args_view (drop i args))) ≡ whole
    → args_view out ≡ whole
left_args_end out k i args whole h e =
    let z = drop_all i args h in
    let q : left_args k (args_view (drop i args)) ≡ no_args = ap (λ l. left_args k (args_view l)) z in
    let p = join_args_end out in
    cc

pub join_stmts_append : (xs ys : List TStmt) (rest : TStmts) → join_stmts (xs ++ ys) rest ≡ join_stmts xs (join_stmts ys rest)
join_stmts_append [] ys rest = refl
join_stmts_append (x ∷ xs) ys rest = ap (more x) (join_stmts_append xs ys rest)

-- one more statement
pub stmts_step : (out new : List Stmt) (item : Stmt) (s : TStmt) (k m j n : ℕ) (i : ℕ) (ss : List Stmt) (whole : TStmts)
    → stmt_view item ≡ s
    → map stmt_view new ≡ map stmt_view out ++ expand_stmt k j s
    → m ≡ k + stmt_pulls s
    → n ≡ j + stmt_size s
    → drop i ss ≡ item ∷ drop (i + 1) ss
    → join_stmts (map stmt_view out) (expand_stmts k j (stmts_view (drop i ss))) ≡ whole
    → join_stmts (map stmt_view new) (expand_stmts m n (stmts_view (drop (i + 1) ss))) ≡ whole
stmts_step out new item s k m j n i ss whole v a b d e h =
    let p = join_stmts_append (map stmt_view out) (expand_stmt k j s) (expand_stmts m n (stmts_view (drop (i + 1) ss))) in
    let q : expand_stmts k j (stmts_view (drop i ss))
    ≡ join_stmts (expand_stmt k j (stmt_view item)) (expand_stmts (k + stmt_pulls (stmt_view item)) (j + stmt_size (stmt_view item)) (stmts_view (drop (i + 1) ss))) =
    ap (λ l. expand_stmts k j (stmts_view l)) e in
    cc

pub stmts_pulls_step : (item : Stmt) (s : TStmt) (i : ℕ) (ss : List Stmt) → stmt_view item ≡ s → drop i ss ≡ item ∷ drop (i + 1) ss → stmts_pulls (stmts_view (drop i ss))
    ≡ stmt_pulls s + stmts_pulls (stmts_view (drop (i + 1) ss))
stmts_pulls_step item s i ss v e =
    let q : stmts_pulls (stmts_view (drop i ss)) ≡ stmt_pulls (stmt_view item) + stmts_pulls (stmts_view (drop (i + 1) ss)) = ap (λ l. stmts_pulls (stmts_view l)) e in
    cc

pub stmts_size_step : (item : Stmt) (s : TStmt) (i : ℕ) (ss : List Stmt) → stmt_view item ≡ s → drop i ss ≡ item ∷ drop (i + 1) ss → stmts_size (stmts_view (drop i ss))
    ≡ stmt_size s + stmts_size (stmts_view (drop (i + 1) ss))
stmts_size_step item s i ss v e =
    let q : stmts_size (stmts_view (drop i ss)) ≡ stmt_size (stmt_view item) + stmts_size (stmts_view (drop (i + 1) ss)) = ap (λ l. stmts_size (stmts_view l)) e in
    cc

pub stmts_end : (out : List Stmt) (k j i : ℕ) (ss : List Stmt) (whole : TStmts)
    → length ss ≤ i
    → join_stmts (map stmt_view out) (expand_stmts k j (stmts_view (drop i ss))) ≡ whole
    → stmts_view out ≡ whole
stmts_end out k j i ss whole h e =
    let z = drop_all i ss h in
    let q : expand_stmts k j (stmts_view (drop i ss)) ≡ no_stmts = ap (λ l. expand_stmts k j (stmts_view l)) z in
    let p = join_stmts_end out in
    cc

-- one more group, and those of the statements inside its statement
pub groups_more : (front grown : List (ℕ × ℕ)) (next to id line : ℕ) (k : TKind) (rest : TStmts) (whole : List (ℕ × ℕ))
    → grown ≡ (front ++ (next, next + own_pulls k) ∷ []) ++ inner_groups (next + own_pulls k + 1) k
    → to ≡ next + own_pulls k + 1 + inner_size k
    → front ++ stmts_groups next (more (stmt id line k) rest) ≡ whole
    → grown ++ stmts_groups to rest ≡ whole
groups_more front grown next to id line k rest whole a b h =
    let inside = inner_groups (next + own_pulls k + 1) k in
    let after = stmts_groups to rest in
    let e : to ≡ next + (own_pulls k + 1 + inner_size k) = omega (arith, b) in
    ap (λ g. g ++ after) a
    ∙ append_assoc (front ++ (next, next + own_pulls k) ∷ []) inside after
    ∙ append_assoc front ((next, next + own_pulls k) ∷ []) (inside ++ after)
    ∙ ap (λ m. front ++ (next, next + own_pulls k) ∷ (inside ++ stmts_groups m rest)) e
    ∙ h
