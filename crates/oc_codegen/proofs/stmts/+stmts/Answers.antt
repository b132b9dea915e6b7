use Rattle.std.proofs.Common.{rules, ◌≡◌, ℕ, Bool, List, ◌+◌, ◌-◌, ◌<◌, ◌∷◌, ◌++◌, length, take, take_all, drop, ap, sym, subst, ◌∙◌, arith, append_assoc, length-append, length-drop}
use Rattle.std.proofs.lemmas.Grind.{common_steps}
use Rattle.std.specs.Prelude.{pos, slice_set}
use Rattle.std.proofs.lemmas.List.{length-set}
use Rattle.oc_tree.specs.Tree.{TStmts, if_else, no_else, else_do, while_do}
use Rattle.oc_tree.specs.View.{block_view, expr_view, kind_view, stmts_view}
use Rattle.oc_tree.specs.declared.tree.StmtKind.{fold-roll-StmtKind}
use Rattle.oc_tree.specs.declared.tree.StmtKind as X
use Rattle.oc_tree.specs.declared.tree.Block as blocks
use Rattle.oc_tree.specs.declared.tree.Stmt as statements
use denote.Hole.Carrier
use Rattle.oc_isa.specs.declared.instr.Placed.{Placed}
use Rattle.oc_isa.specs.declared.instr.ProbeKind.TheVariants.{Done}
use Rattle.oc_isa.specs.declared.instr.Instr.TheVariants.{Push, Store, Jump, Jfalse}
use Rattle.oc_meaning.specs.Uses.{is_use}
use Rattle.oc_code.specs.Forms.{placed, one, below_code, count_code, expr_code, one_way_code, probe_code, two_way_code, while_code}
use Rattle.oc_code.specs.Scope.{for_named, in_scope, is_fresh_in}
use Rattle.oc_tree.specs.Stack.{block_slots, kind_slots}
use Rattle.oc_code.specs.Code.{block_code, kind_code, stmts_code, test_code}
use Rattle.oc_codegen.specs.Small.{kind_bounded, stmts_bounded}
use Rattle.oc_codegen.proofs.KindViews.{if_alone, if_both}
use Rattle.oc_codegen.proofs.LoopPatches.{count_filled, while_filled, one_way_filled, two_way_filled}
use Rattle.oc_codegen.proofs.Statements.{left_are, one_stmt, code_step, slots_step, scope_step}
use Rattle.oc_codegen.proofs.stmts.+stmts.Goals as goal

pub for_in-returns-clause-code : goal.for_in-returns-clause-code
for_in-returns-clause-code t c =
    let n = c.args.n in
    let q = c.args.slot in
    let base = c.args.code.now in
    let p = length base in
    let S = c.args.setting.now in
    let γ = c.args.scope.now in
    let body = block_view c.args.body.now in
    let c1 = c.open_count.new.code in
    let f = block_code S.names S.functions S.regions S.params in
    let a = f (for_named c.args.name.now q ∷ γ) (q + 1) (length c1) body in
    let opened : c1 ≡ base ++ placed n (Push c.args.from) ∷ placed n (Store q) ∷ below_code n q c.args.to 0 = search rules in
    let l : length c1 ≡ p + 6 = omega (arith, ap length opened, length-append base (placed n (Push c.args.from) ∷ placed n (Store q) ∷ below_code n q c.args.to 0)) in
    let scope : c.declare.new.self ≡ for_named c.args.name.now q ∷ γ = search rules in
    let turn : c.block.new.code ≡ c1 ++ a = c.in_ok-next.ensures.code ∙ ap (λ g. c1 ++ f g (q + 1) (length c1) body) scope in
    count_filled n q c.args.from c.args.to base a c1 c.block.new.code c.close_count.new.code c.in_ok-start.start opened c.in_ok-start.ensures.start turn c.in_ok-close_count.ensures
    ∙ ap (λ m. base ++ count_code n p q c.args.from c.args.to (f (for_named c.args.name.now q ∷ γ) (q + 1) m body)) l

pub kind-returns-in-None-clause-code : goal.kind-returns-in-None-clause-code
unfolding X.roll-StmtKind denote.Hole.Carrier.roll
kind-returns-in-None-clause-code t c =
    let n = c.args.n in
    let q = c.args.slot in
    let base = c.args.code.now in
    let p = length base in
    let S = c.args.setting.now in
    let γ = c.args.scope.now in
    let f = block_code S.names S.functions S.regions S.params in
    let cond = expr_view c.in-If.condition in
    let a = block_view c.in-If.then in
    let test = expr_code n γ p cond in
    let c1 = c.expr.new.code in
    let c2 = c.open.new.self in
    let c3 = c.block.new.code in
    let hole = c.in_ok-hole-in-If.hole in
    let view : kind_view c.args.kind.now ≡ if_else cond a no_else =
    ap kind_view c.in-If.is ∙ if_alone c.in-If.condition c.in-If.then c.in-If.otherwise c.in-None.is in
    let l : length c2 ≡ p + length test + 1 =
    omega (arith, ap length c.in_ok-hole-in-If.ensures.code, ap length c.in_ok-expr-in-If.ensures, length-append base test, length-append c1 (one n (Jfalse 0))) in
    let set = c.set.ensures ∙ ap (λ m. slice_set c3 hole (placed n (Jfalse m))) c.address-end.ensures.address in
    one_way_filled n base test (f γ q (length c2) a) c1 c2 c3 c.set.new.self (placed n (Jfalse 0)) hole c.in_ok-expr-in-If.ensures c.in_ok-hole-in-If.ensures.code
    c.in_ok-hole-in-If.ensures.address c.in_ok-next-in-If.ensures.code set
    ∙ ap (λ m. base ++ one_way_code n p test (f γ q m a)) l
    ∙ ap (λ k. base ++ kind_code S.names S.functions S.regions S.params γ n q p k) (sym view)

pub kind-returns-in_ok-next-in-Some-clause-code : goal.kind-returns-in_ok-next-in-Some-clause-code
unfolding X.roll-StmtKind denote.Hole.Carrier.roll
kind-returns-in_ok-next-in-Some-clause-code t c =
    let n = c.args.n in
    let q = c.args.slot in
    let base = c.args.code.now in
    let p = length base in
    let S = c.args.setting.now in
    let γ = c.args.scope.now in
    let f = block_code S.names S.functions S.regions S.params in
    let cond = expr_view c.in-If.condition in
    let a = block_view c.in-If.then in
    let b = block_view c.in-Some.second in
    let test = expr_code n γ p cond in
    let c1 = c.expr.new.code in
    let c2 = c.open.new.self in
    let c3 = c.block.new.code in
    let c4 = c.close_then.new.code in
    let c5 = c.block-in-Some.new.code in
    let g = c.block.new.scope in
    let next = c.in_ok-next-in-If.next in
    let hole = c.in_ok-hole-in-If.hole in
    let jump = c.in_ok-jump-in-Some.jump in
    let first = f γ q (length c2) a in
    let view : kind_view c.args.kind.now ≡ if_else cond a (else_do b) =
    ap kind_view c.in-If.is ∙ if_both c.in-If.condition c.in-If.then c.in-If.otherwise c.in-Some.second c.in-Some.is in
    let l : length c2 ≡ p + length test + 1 =
    omega (arith, ap length c.in_ok-hole-in-If.ensures.code, ap length c.in_ok-expr-in-If.ensures, length-append base test, length-append c1 (one n (Jfalse 0))) in
    let patched = slice_set c3 hole (placed n (Jfalse (length c3 + 1))) in
    let m : length c4 ≡ p + length test + 1 + length first + 1 =
    omega (
      arith,
      l,
      ap length c.in_ok-jump-in-Some.ensures.code,
      length-append patched (one n (Jump 0)),
      length-set c3 hole (placed n (Jfalse (length c3 + 1))),
      ap length
          c.in_ok-next-in-If.ensures.code,
      length-append c2 first,
    ) in
    let set = c.set-in-Some.ensures ∙ ap (λ m. slice_set c5 jump (placed n (Jump m))) c.address-end-in-Some.ensures.address in
    two_way_filled n base test first (f g next (length c4) b) c1 c2 c3 c4 c5 c.set-in-Some.new.self (placed n (Jfalse 0)) (placed n (Jump 0)) hole jump c.in_ok-expr-in-If.ensures
    c.in_ok-hole-in-If.ensures.code c.in_ok-hole-in-If.ensures.address c.in_ok-next-in-If.ensures.code c.in_ok-jump-in-Some.ensures.code c.in_ok-jump-in-Some.ensures.jump
    c.in_ok-next-in-Some.ensures.code set
    ∙ ap (λ g. base ++ two_way_code n p test first (f g next (length c4) b)) c.in_ok-next-in-If.ensures.scope
    ∙ ap (λ s. base ++ two_way_code n p test first (f γ s (length c4) b)) c.in_ok-next-in-If.ensures.next
    ∙ ap (λ m. base ++ two_way_code n p test first (f γ (q + block_slots a) m b)) m
    ∙ ap (λ m. base ++ two_way_code n p test (f γ q m a) (f γ (q + block_slots a) (p + length test + 1 + length (f γ q m a) + 1) b)) l
    ∙ ap (λ k. base ++ kind_code S.names S.functions S.regions S.params γ n q p k) (sym view)

pub while_do-returns-clause-code : goal.while_do-returns-clause-code
while_do-returns-clause-code t c =
    let n = c.args.n in
    let q = c.args.slot in
    let base = c.args.code.now in
    let p = length base in
    let S = c.args.setting.now in
    let γ = c.args.scope.now in
    let f = block_code S.names S.functions S.regions S.params in
    let cond = expr_view c.args.condition.now in
    let bound = c.args.bound in
    let body = block_view c.args.body.now in
    let used = c.args.used in
    let tests : ℕ → Bool → List Placed = λ m u. test_code S.names S.functions S.regions S.params n γ m u cond in
    let head = placed n (Push (pos 0)) ∷ placed n (Store q) ∷ below_code n q (pos bound) 0 in
    let c1 = c.open_count.new.code in
    let c2 = c.test.new.code in
    let c3 = c.open.new.self in
    let c4 = c.block.new.code in
    let c5 = c.close_while.new.code in
    let test = tests (length c1) used in
    let is : used ≡ is_use (is_fresh_in γ) (while_do cond bound body) = c.requires.used in
    let opened : c1 ≡ base ++ head = search rules in
    let l : length c1 ≡ p + 6 = omega (arith, ap length opened, length-append base head) in
    let m : length c3 ≡ length c1 + length test + 1 =
    omega (arith, ap length c.in_ok-exit.ensures.code, length-append c2 (one n (Jfalse 0)), ap length c.in_ok-test.ensures, length-append c1 test) in
    let turn : c4 ≡ c3 ++ f γ (q + 1) (length c3) body = c.in_ok-next.ensures.code in
    let loop = while_filled n q bound base test (f γ (q + 1) (length c3) body) c1 c2 c3 c4 c5 (placed n (Jfalse 0)) c.in_ok-start.start c.in_ok-exit.exit opened
    c.in_ok-start.ensures.start c.in_ok-test.ensures c.in_ok-exit.ensures.code c.in_ok-exit.ensures.address turn c.in_ok-close_while.ensures in
    c.in_ok-probe.ensures
    ∙ ap (λ l. l ++ probe_code n used Done) loop
    ∙ append_assoc base (while_code n p q bound test (f γ (q + 1) (length c3) body)) (probe_code n used Done)
    ∙ ap (λ m. base ++ (while_code n p q bound test (f γ (q + 1) m body) ++ probe_code n used Done)) m
    ∙ ap (λ m. base ++ (while_code n p q bound (tests m used) (f γ (q + 1) (m + length (tests m used) + 1) body) ++ probe_code n used Done)) l
    ∙ ap (λ u. base ++ (while_code n p q bound (tests (p + 6) u) (f γ (q + 1) (p + 6 + length (tests (p + 6) u) + 1) body) ++ probe_code n u Done)) is

pub block-statement-requires : goal.block-statement-requires
block-statement-requires t c =
    let S = c.args.setting.now in
    let xs = c.as_slice-statements.result.now in
    let i = c.loop-inner.inner-index in
    let x = c.inner-item.result in
    let code = c.loop-inner.code in
    let γ = c.loop-inner.scope in
    let s = c.loop-inner.next in
    let e : drop i xs ≡ x ∷ drop (i + 1) xs = grind (arith, common_steps) in
    let kind = kind_view x.kind in
    let rest = stmts_view (drop (i + 1) xs) in
    let own = one_stmt S.names S.functions S.regions S.params γ x.id s (length code) kind in
    let f = stmts_code S.names S.functions S.regions S.params in
    let left = f (in_scope kind s rest γ) (s + kind_slots kind) (length code + length own) rest in
    let whole = block_code S.names S.functions S.regions S.params c.args.scope.now c.args.slot (length c.args.code.now) (block_view c.args.block.now) in
    let split : code ++ (own ++ left) ≡ c.args.code.now ++ whole = ap (λ (l : TStmts). code ++ f γ s (length code) l) (sym (left_are x i xs e)) ∙ c.loop-inner.invariant.code in
    let inv = c.loop-inner.invariant in
    let room : length code + length own < 2147483648 = omega (arith, ap length split, length-append code (own ++ left), length-append own left, length-append c.args.code.now whole, c.requires.room) in
    let slots : s + kind_slots kind < 2147483648 = omega (arith, slots_step x i xs e, inv.next, c.requires.slots) in
    let bounded : kind_bounded kind = (subst (λ (l : TStmts). stmts_bounded l) (left_are x i xs e) inv.bounded).0 in
    (search (rules, blocks.the_lemmas, statements.the_lemmas), (room, (slots, bounded)))

pub block-loop-inner-preserved : goal.block-loop-inner-preserved
block-loop-inner-preserved t c =
    let S = c.args.setting.now in
    let xs = c.as_slice-statements.result.now in
    let i = c.loop-inner.inner-index in
    let x = c.inner-item.result in
    let inv = c.loop-inner.invariant in
    let code = c.loop-inner.code in
    let γ = c.loop-inner.scope in
    let s = c.loop-inner.next in
    let e : drop i xs ≡ x ∷ drop (i + 1) xs = grind (arith, common_steps) in
    let kind = kind_view x.kind in
    let rest = stmts_view (drop (i + 1) xs) in
    let all = c.args.code.now ++ block_code S.names S.functions S.regions S.params c.args.scope.now c.args.slot (length c.args.code.now) (block_view c.args.block.now) in
    let n = c.loop-inner.done + 1 in
    let behind : take (length xs - n) (drop n xs) ≡ drop (i + 1) xs = take_all (length xs - n) (drop n xs) (omega (arith, length-drop n xs)) ∙ ap (λ d. drop (d + 1) xs) inv.done in
    let now : c.statement.new.scope ≡ in_scope kind s rest γ = c.in_ok-next.ensures.scope ∙ ap (λ l. in_scope kind s (stmts_view l) γ) behind in
    let seen = scope_step kind s c.len-visible.result rest γ c.statement.new.scope c.args.scope.now now inv.seen inv.scope in
    let next = c.in_ok-next in
    record {
      code = code_step S.names S.functions S.regions S.params γ c.statement.new.scope s next.next code c.statement.new.code all x i xs e inv.code next.ensures.code now next.ensures.next;
      next = omega (arith, slots_step x i xs e, inv.next, c.in_ok-next.ensures.next);
      seen = seen.0;
      scope = seen.1;
      done = omega (arith, inv.done);
      bounded = (subst (λ (l : TStmts). stmts_bounded l) (left_are x i xs e) inv.bounded).1;
    }
