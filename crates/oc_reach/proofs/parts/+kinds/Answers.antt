use Rattle.std.proofs.Common.{◌≡◌, ◌+◌, ◌≤◌, ◌++◌, ◌∷◌, [], List, ℕ, true, false, cond, Option, Some, None, length, drop, ap, refl, sym, ◌∙◌, append-nil, append_assoc, arith}
use Rattle.std.proofs.lemmas.Grind.{common_steps}
use Rattle.std.proofs.lemmas.List.{drop_all, map_push}
use Rattle.std.proofs.lemmas.Result.{on_ok_weaker}
use Rattle.oc_tree.specs.Names.{Text}
use Rattle.oc_tree.specs.Tree.{TKind, TBlock, TStmt, TStmts, if_else, for_in, while_do, block, stmt, more}
use Rattle.oc_tree.specs.View.{block_view, else_view, expr_view, kind_view, stmt_view, stmts_view, kind_step, block_step, stmt_step}
use Rattle.oc_tree.specs.Calls.{block_kinds, else_kinds, hides, kind_hides, kind_kinds, stmts_kinds}
use Rattle.oc_tree.specs.declared.tree.Block.{Block, out-Block, fold_out-Block}
use Rattle.oc_tree.specs.declared.tree.Expr.{Expr}
use Rattle.oc_tree.specs.declared.tree.Stmt.{Stmt, fold_out-Stmt}
use Rattle.oc_tree.specs.declared.tree.StmtKind.{fold-roll-StmtKind}
use Rattle.oc_tree.specs.declared.tree.StmtKind.TheOpen.{StmtKind-F}
use Rattle.oc_tree.specs.declared.tree.StmtKind as X
use Rattle.oc_names.specs.Seen.{name_seen}
use Rattle.oc_reach.specs.Views.{kinds_seen}
use Rattle.oc_reach.proofs.parts.+kinds.Goals as goal

-- a branch, as contracts see it
if_view : (c : Expr) (a : Block) (o : Option Block) → kind_view (X.roll-StmtKind (StmtKind-F.If c a o)) ≡ if_else (expr_view c) (block_view a) (else_view o)
if_view c a None = fold-roll-StmtKind TKind TBlock TStmt kind_step block_step stmt_step (StmtKind-F.If c a None)
if_view c a (Some b) = fold-roll-StmtKind TKind TBlock TStmt kind_step block_step stmt_step (StmtKind-F.If c a (Some b))

-- a statement and those inside it, behind others
kinds_of : (old pushed new inner : List TKind) (of : Option Text) (k shape : TKind) → k ≡ shape → kind_kinds of shape ≡ shape ∷ inner → pushed ≡ old ++ k ∷ [] → new ≡ pushed ++ inner
    → new ≡ old ++ kind_kinds of k
kinds_of old pushed new inner of k shape is all push grown =
    grown
    ∙ ap (λ p. p ++ inner) (push ∙ ap (λ x. old ++ x ∷ []) is)
    ∙ append_assoc old (shape ∷ []) inner
    ∙ ap (λ l. old ++ l) (sym all)
    ∙ ap (λ x. old ++ kind_kinds of x) (sym is)

pub kind_kinds-returns-in-While : goal.kind_kinds-returns-in-While
unfolding X.roll-StmtKind denote.Hole.Carrier.roll
kind_kinds-returns-in-While t c =
    let of = name_seen c.args.of in
    let k = kind_view c.args.kind.now in
    let b = block_view c.in-While.body in
    let old = kinds_seen c.args.kinds.now.items in
    let is : k ≡ while_do (expr_view c.in-While.condition) c.in-While.bound b =
    ap kind_view c.in-While.is ∙ fold-roll-StmtKind TKind TBlock TStmt kind_step block_step stmt_step (StmtKind-F.While c.in-While.condition c.in-While.bound c.in-While.body) in
    let push : kinds_seen c.push.new.self.items ≡ old ++ k ∷ [] = ap kinds_seen c.in_ok-push.ensures.items ∙ map_push (λ x. kind_view x.now) c.args.kinds.now.items c.args.kind in
    on_ok_weaker c.block_kinds-in-While.result (kinds_of old _ _ (block_kinds of b) of k _ is refl push) c.block_kinds-in-While.ensures

pub kind_kinds-returns-else-hides : goal.kind_kinds-returns-else-hides
unfolding X.roll-StmtKind denote.Hole.Carrier.roll
kind_kinds-returns-else-hides t c =
    let of = name_seen c.args.of in
    let k = kind_view c.args.kind.now in
    let b = block_view c.in-For.body in
    let shape = for_in c.in-For.name c.in-For.from c.in-For.to b in
    let old = kinds_seen c.args.kinds.now.items in
    let is : k ≡ shape = ap kind_view c.in-For.is ∙ fold-roll-StmtKind TKind TBlock TStmt kind_step block_step stmt_step (StmtKind-F.For c.in-For.name c.in-For.from c.in-For.to c.in-For.body) in
    let seen : hides of c.in-For.name ≡ false = sym c.hides.ensures ∙ c.if-hides.false in
    let push : kinds_seen c.push.new.self.items ≡ old ++ k ∷ [] = ap kinds_seen c.in_ok-push.ensures.items ∙ map_push (λ x. kind_view x.now) c.args.kinds.now.items c.args.kind in
    on_ok_weaker c.block_kinds-in-For.result (kinds_of old _ _ (block_kinds of b) of k shape is (ap (λ h. shape ∷ cond h [] (block_kinds of b)) seen) push) c.block_kinds-in-For.ensures

pub kind_kinds-returns-then-hides : goal.kind_kinds-returns-then-hides
unfolding X.roll-StmtKind denote.Hole.Carrier.roll
kind_kinds-returns-then-hides t c =
    let of = name_seen c.args.of in
    let k = kind_view c.args.kind.now in
    let b = block_view c.in-For.body in
    let shape = for_in c.in-For.name c.in-For.from c.in-For.to b in
    let old = kinds_seen c.args.kinds.now.items in
    let pushed = kinds_seen c.push.new.self.items in
    let is : k ≡ shape = ap kind_view c.in-For.is ∙ fold-roll-StmtKind TKind TBlock TStmt kind_step block_step stmt_step (StmtKind-F.For c.in-For.name c.in-For.from c.in-For.to c.in-For.body) in
    let hidden : hides of c.in-For.name ≡ true = sym c.hides.ensures ∙ c.if-hides.true in
    let push : pushed ≡ old ++ k ∷ [] = ap kinds_seen c.in_ok-push.ensures.items ∙ map_push (λ x. kind_view x.now) c.args.kinds.now.items c.args.kind in
    kinds_of old pushed pushed [] of k shape is (ap (λ h. shape ∷ cond h [] (block_kinds of b)) hidden) push (sym (append-nil pushed))

pub kind_kinds-returns-in_ok-block_kinds-in-If : goal.kind_kinds-returns-in_ok-block_kinds-in-If
unfolding X.roll-StmtKind denote.Hole.Carrier.roll
kind_kinds-returns-in_ok-block_kinds-in-If t c =
    let of = name_seen c.args.of in
    let k = kind_view c.args.kind.now in
    let a = block_kinds of (block_view c.in-If.then) in
    let o = else_kinds of (else_view c.in-If.otherwise) in
    let old = kinds_seen c.args.kinds.now.items in
    let pushed = kinds_seen c.push.new.self.items in
    let is : k ≡ if_else (expr_view c.in-If.condition) (block_view c.in-If.then) (else_view c.in-If.otherwise) = ap kind_view c.in-If.is ∙ if_view c.in-If.condition c.in-If.then c.in-If.otherwise in
    let push : pushed ≡ old ++ k ∷ [] = ap kinds_seen c.in_ok-push.ensures.items ∙ map_push (λ x. kind_view x.now) c.args.kinds.now.items c.args.kind in
    let first : kinds_seen c.block_kinds.new.kinds.items ≡ pushed ++ a = c.in_ok-block_kinds-in-If.ensures in
    on_ok_weaker c.else_kinds.result (λ h. kinds_of old pushed _ (a ++ o) of k _ is refl push (h ∙ ap (λ l. l ++ o) first ∙ append_assoc pushed a o)) c.else_kinds.ensures

-- the statements of a block, by those in its list
block_is : (old new : List TKind) (of : Option Text) (b : Block) (l : List Stmt) → l ≡ (out-Block b).statements.items → new ≡ old ++ stmts_kinds of (stmts_view l)
    → new ≡ old ++ block_kinds of (block_view b)
block_is old new of b l e h =
    let opened : block_view b ≡ block (out-Block b).id (stmts_view (out-Block b).statements.items) = fold_out-Block TKind TBlock TStmt kind_step block_step stmt_step b in
    h ∙ ap (λ x. old ++ stmts_kinds of (stmts_view x)) e ∙ ap (λ x. old ++ block_kinds of x) (sym opened)

-- one statement more; where it hides the variable it is the last one
kinds_more : (front new whole : List TKind) (of : Option Text) (n line : ℕ) (k : TKind) (ss rest : TStmts) → ss ≡ more (stmt n line k) rest → new ≡ front ++ kind_kinds of k
    → kind_hides of k ≡ false → front ++ stmts_kinds of ss ≡ whole → new ++ stmts_kinds of rest ≡ whole
kinds_more front new whole of n line k ss rest is grown seen all =
    ap (λ l. l ++ stmts_kinds of rest) grown
    ∙ append_assoc front (kind_kinds of k) (stmts_kinds of rest)
    ∙ sym (ap (λ x. front ++ stmts_kinds of x) is ∙ ap (λ h. front ++ (kind_kinds of k ++ cond h [] (stmts_kinds of rest))) seen)
    ∙ all

kinds_last : (front new whole : List TKind) (of : Option Text) (n line : ℕ) (k : TKind) (ss rest : TStmts) → ss ≡ more (stmt n line k) rest → new ≡ front ++ kind_kinds of k
    → kind_hides of k ≡ true → front ++ stmts_kinds of ss ≡ whole → new ≡ whole
kinds_last front new whole of n line k ss rest is grown hidden all =
    grown
    ∙ ap (λ l. front ++ l) (sym (append-nil (kind_kinds of k)))
    ∙ sym (ap (λ x. front ++ stmts_kinds of x) is ∙ ap (λ h. front ++ (kind_kinds of k ++ cond h [] (stmts_kinds of rest))) hidden)
    ∙ all

-- the statement at a place, and those behind it
stmts_at : (i : ℕ) (l : List Stmt) (x : Stmt) → drop i l ≡ x ∷ drop (i + 1) l → stmts_view (drop i l) ≡ more (stmt x.id x.line (kind_view x.kind)) (stmts_view (drop (i + 1) l))
stmts_at i l x e =
    let v : stmt_view x ≡ stmt x.id x.line (kind_view x.kind) = fold_out-Stmt TKind TBlock TStmt kind_step block_step stmt_step x in
    ap stmts_view e ∙ ap (λ y. more y (stmts_view (drop (i + 1) l))) v

pub block_kinds-loop-statement-preserved : goal.block_kinds-loop-statement-preserved
block_kinds-loop-statement-preserved t c =
    let i = c.loop-statement.statement-index in
    let l = c.deref-statement-items.result.now in
    let x = c.statement-item.result in
    let item = c.statement-item.is in
    let of = name_seen c.args.of in
    let e : drop i l ≡ c.statement-item.result ∷ drop (i + 1) l = grind (arith, common_steps) in
    let seen : kind_hides of (kind_view x.kind) ≡ false = sym c.kind_hides.ensures ∙ c.if-kind_hides.false in
    kinds_more (kinds_seen c.loop-statement.kinds.items) _ _ of x.id x.line (kind_view x.kind) _ _ (stmts_at i l x e) c.in_ok-kind_kinds.ensures seen c.loop-statement.invariant

pub block_kinds-returns-then-kind_hides : goal.block_kinds-returns-then-kind_hides
block_kinds-returns-then-kind_hides t c =
    let i = c.loop-statement.statement-index in
    let l = c.deref-statement-items.result.now in
    let x = c.statement-item.result in
    let item = c.statement-item.is in
    let of = name_seen c.args.of in
    let e : drop i l ≡ c.statement-item.result ∷ drop (i + 1) l = grind (arith, common_steps) in
    let hidden : kind_hides of (kind_view x.kind) ≡ true = sym c.kind_hides.ensures ∙ c.if-kind_hides.true in
    block_is (kinds_seen c.args.kinds.now.items) _ of c.args.block.now l c.deref-statement-items.ensures.value
    (kinds_last (kinds_seen c.loop-statement.kinds.items) _ _ of x.id x.line (kind_view x.kind) _ _ (stmts_at i l x e) c.in_ok-kind_kinds.ensures hidden c.loop-statement.invariant)

pub block_kinds-returns : goal.block_kinds-returns
block_kinds-returns t c =
    let i = c.loop-statement.statement-index in
    let l = c.deref-statement-items.result.now in
    let of = name_seen c.args.of in
    let kinds = kinds_seen c.loop-statement.kinds.items in
    let h : length l ≤ i = omega arith in
    let none = ap (λ d. kinds ++ stmts_kinds of (stmts_view d)) (drop_all i l h) in
    block_is (kinds_seen c.args.kinds.now.items) _ of c.args.block.now l c.deref-statement-items.ensures.value (sym (append-nil kinds) ∙ sym none ∙ c.loop-statement.invariant)
