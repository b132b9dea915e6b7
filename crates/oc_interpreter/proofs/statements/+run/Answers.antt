use Rattle.std.proofs.Common.{rules, ◌≡◌, ℕ, ◌+◌, ◌-◌, ◌*◌, ◌≤◌, [], ◌∷◌, length, map, drop, take, refl, ap, sym, ◌∙◌, subst, arith, suc, List, Some, None, w32, to_z, of_z}
use Rattle.std.specs.Prelude.{ℤ, pos, ◌+ℤ◌, ◌-ℤ◌, if◌then◌else◌}
use Rattle.std.proofs.lemmas.Result.{on_err_weaker}
use denote.Hole.Carrier
use Rattle.oc_tree.specs.Tree.{TKind, TBlock, TStmt, assign_index, for_in, while_do, consistent, block, stmt, more}
use Rattle.oc_tree.specs.View.{block_view, call_view, expr_view, function_view, kind_view, program_view, right_view, stmt_view, stmts_view, kind_step, block_step, stmt_step}
use Rattle.oc_tree.specs.Regions.{region_view}
use Rattle.oc_tree.specs.declared.tree.Block.{out-Block, size-Block}
use Rattle.oc_tree.specs.declared.tree.Block as blocks
use Rattle.oc_tree.specs.declared.tree.Stmt as statements
use Rattle.oc_tree.specs.declared.tree.StmtKind.{fold-roll-StmtKind}
use Rattle.oc_tree.specs.declared.tree.StmtKind as X
use Rattle.oc_tree.specs.declared.tree.StmtKind.TheOpen.{StmtKind-F}
use Rattle.oc_tree.specs.Weight.{count_of}
use Rattle.oc_tree.specs.Samples.{union}
use Rattle.oc_meaning.specs.Store.{Binding, Store}
use Rattle.oc_meaning.specs.Eval.{Val, Traps, value_of}
use Rattle.oc_meaning.specs.Uses.{begins_use, ends_use, is_fresh, is_use, use_samples}
use Rattle.oc_meaning.specs.Exec.{Went, Outcome, begun_by, closed, done, ended_by, entered, finished, for_turns, grown, in_turn, leave, opened, then_do, trapped, used, while_turns}
use Rattle.oc_meaning.specs.Run.{function_named}
use Rattle.oc_interpreter.specs.Seen.{completion_at, got_view, passed_view}
use Rattle.oc_meaning.specs.Cuts.{Oldest, events_in}
use Rattle.oc_interpreter.specs.Runs.{begun_at, block_here, callee, ended_at, kind_here, right_here, stmt_here, stmts_here, stmts_in}
use Rattle.oc_interpreter.proofs.Deeper.{calls_deeper, framed}
use Rattle.oc_interpreter.proofs.Outcomes.{along, stays, stops, rest_at, rest_of, oldest_of_one, Keeps, keeps_grown}
use Rattle.oc_interpreter.proofs.Sizes.{largest, less_deep, no_larger}
use Rattle.oc_meaning.proofs.Turns.{count_more, for_more, for_over, one_left, while_ends, while_more, while_traps}
use Rattle.oc_interpreter.proofs.FreshNames.{begun_if, ended_if}
use Rattle.oc_meaning.proofs.Growing.{leave_keeps}
use Rattle.oc_interpreter.proofs.Cutting.{all_of_them, along_with, as_before, begun_stmt_from, behind_kind, block_from, call_from, callee_from, closed_from, in_other, index_from}
use Rattle.oc_meaning.proofs.Beginning.{one_more}
use Rattle.oc_interpreter.proofs.Cutting.{kind_from, on_err, opened_from, stmt_from, stmts_from, then_from, turn_from, turns_from, while_from}
use Rattle.oc_interpreter.proofs.statements.+run.Goals as goal

pub block-returns-clause-runs : goal.block-returns-clause-runs
block-returns-clause-runs t c =
    let r = c.args.run.now in
    let env = c.args.scope.now in
    let σ = c.args.store.now in
    let B = c.args.block.now in
    let τ = c.statements.new.store in
    let o = c.in_ok-completion.completion in
    let id = (out-Block B).id in
    let ss = stmts_in (block_view B) in
    let opened : block_view B ≡ block id (stmts_view (out-Block B).statements.items) = search (rules, blocks.the_lemmas) in
    let view : block_view B ≡ block id ss = opened ∙ ap (λ b. block id (stmts_in b)) (sym opened) in
    let ran : completion_at o τ ≡ stmts_here r env ss (entered id σ) = c.in_ok-completion.ensures.runs ∙ ap (stmts_here r env ss) c.in_ok-enter.ensures.step in
    let left : completion_at c.leave.result c.leave.new.store ≡ leave c.locals-locals.result (completion_at o τ) = c.leave.ensures in
    left
    ∙ ap (λ n. leave n (completion_at o τ)) c.locals-locals.ensures
    ∙ ap (leave (length σ.locals)) ran
    ∙ ap (λ b. block_here r env b σ) (sym view)

pub block-returns-in_err-completion-clause-cut : goal.block-returns-in_err-completion-clause-cut
block-returns-in_err-completion-clause-cut t c =
    let r = c.args.run.now in
    let env = c.args.scope.now in
    let σ = c.args.store.now in
    let B = c.args.block.now in
    let id = (out-Block B).id in
    let ss = stmts_in (block_view B) in
    let opened : block_view B ≡ block id (stmts_view (out-Block B).statements.items) = search (rules, blocks.the_lemmas) in
    let view : block_view B ≡ block id ss = opened ∙ ap (λ b. block id (stmts_in b)) (sym opened) in
    let events = c.statements.new.store.events in
    let cut = along_with events (stmts_here r env ss c.enter.new.self) (stmts_here r env ss (entered id σ)) (ap (stmts_here r env ss) c.in_ok-enter.ensures.step) c.in_err-completion.ensures.cut in
    on_err _
    (along_with events (block_here r env (block id ss) σ) (block_here r env (block_view B) σ) (ap (λ b. block_here r env b σ) (sym view))
    (leave_keeps (Oldest events) (one_more events) (length σ.locals) (stmts_here r env ss (entered id σ)) cut))

pub call_to-block-requires : goal.call_to-block-requires
call_to-block-requires t c =
    let fs = c.args.run.now.program.now.functions.items in
    let d = c.args.run.now.depth in
    let f = c.in-Some.function.now in
    let a : size-Block f.body ≤ largest c.as_slice.result.now = no_larger c.as_slice.result.now f c.in-Some.ensures.among in
    let e : largest c.as_slice.result.now ≡ largest fs = ap largest c.as_slice.ensures.value in
    let m : d * (3 * largest fs + 2) ≡ (d - 1) * (3 * largest fs + 2) + (3 * largest fs + 2) = less_deep d (3 * largest fs + 2) c.if-run-eq0.false in
    let is : t ≡ d * (3 * largest fs + 2) = sym c.decreases in
    (omega (arith, a, e, m, is), tt)

pub call_to-returns-in_ok-completion-in-Some-clause-runs : goal.call_to-returns-in_ok-completion-in-Some-clause-runs
call_to-returns-in_ok-completion-in-Some-clause-runs t c =
    let r = c.args.run.now in
    let p = program_view r.program.now in
    let rs = map region_view r.regions.now in
    let d = r.depth in
    let x = c.args.name.now in
    let ps = map passed_view c.args.passed.items in
    let σ = c.args.store.now in
    let f = function_view c.in-Some.function.now in
    let τ = c.block.new.store in
    let o = c.in_ok-completion-in-Some.completion in
    let inner = record r { depth = d - 1; body = record { ref_ptr = r.body.ref_ptr; now = c.in-Some.function.now.body } } in
    let fr = framed p f ps σ in
    let start : Store = record σ { locals = fr.locals } in
    let slice : Some f ≡ function_named (map function_view c.as_slice.result.now) x = c.in-Some.ensures.named in
    let named : Some f ≡ function_named p.functions x = slice ∙ ap (λ fs. function_named (map function_view fs) x) c.as_slice.ensures.value in
    let here : completion_at o τ ≡ block_here inner c.in_ok-scope-in-Some.scope f.body c.frame.new.store = c.in_ok-completion-in-Some.ensures.runs in
    let scope : c.in_ok-scope-in-Some.scope ≡ fr.env = c.in_ok-scope-in-Some.ensures.scope in
    let store : c.frame.new.store ≡ start = c.in_ok-scope-in-Some.ensures.store in
    let ran : completion_at o τ ≡ block_here inner fr.env f.body start =
    here ∙ ap (λ γ. block_here inner γ f.body c.frame.new.store) scope ∙ ap (block_here inner fr.env f.body) store in
    let left : completion_at c.leave.result c.leave.new.store ≡ leave c.locals-locals.result (completion_at o τ) = c.leave.ensures in
    let locals : c.locals-locals.result ≡ length σ.locals = c.locals-locals.ensures in
    left
    ∙ ap (λ n. leave n (completion_at o τ)) locals
    ∙ ap (leave (length σ.locals)) ran
    ∙ sym (calls_deeper p rs d x f ps σ c.if-run-eq0.false named)

pub for_turns-loop-turn-preserved : goal.for_turns-loop-turn-preserved
for_turns-loop-turn-preserved t c =
    let r = c.args.run.now in
    let env = c.args.scope.now in
    let x = c.args.name.now in
    let b = block_view c.args.body.now in
    let σ = c.loop-turn.store in
    let τ = c.block.new.store in
    let i = to_z w32 c.loop-turn.turn-bits in
    let end = to_z w32 (of_z w32 c.args.to) in
    let body : ℤ → Store → Outcome = λ i. block_here r (in_turn x i ∷ env) b in
    let up : to_z w32 (of_z w32 (i +ℤ pos 1)) ≡ i +ℤ pos 1 = search rules in
    let pushed : c.push.new.self ≡ in_turn x i ∷ env = c.in_ok-push.ensures ∙ ap (λ γ. in_turn x i ∷ γ) c.loop-turn.invariant.scope in
    let ran : body i σ ≡ Went τ =
    sym (c.in_ok-completion.ensures.runs ∙ ap (λ γ. block_here r γ b σ) pushed) ∙ ap (λ o. completion_at o τ) c.in-Went.is in
    let step = for_more i end body σ c.loop-turn-test.true ∙ ap (λ o. then_do o (for_turns (count_of (end -ℤ (i +ℤ pos 1))) (i +ℤ pos 1) body)) ran in
    record {
      runs = ap (λ j. for_turns (count_of (end -ℤ j)) j body τ) up ∙ sym step ∙ c.loop-turn.invariant.runs;
      scope = c.truncate.ensures
          ∙ ap (λ v. drop (length c.block.new.scope - v) c.block.new.scope) c.len-visible.ensures
          ∙ ap (λ γ. drop (length γ - length env) γ) (c.in_ok-completion.ensures.scope ∙ pushed)
          ∙ oldest_of_one (in_turn x i) env;
    }

pub for_turns-returns-in_default : goal.for_turns-returns-in_default
for_turns-returns-in_default t c =
    let r = c.args.run.now in
    let env = c.args.scope.now in
    let x = c.args.name.now in
    let b = block_view c.args.body.now in
    let σ = c.loop-turn.store in
    let τ = c.block.new.store in
    let o = c.in_ok-completion.completion in
    let i = to_z w32 c.loop-turn.turn-bits in
    let end = to_z w32 (of_z w32 c.args.to) in
    let body : ℤ → Store → Outcome = λ i. block_here r (in_turn x i ∷ env) b in
    let to_is : to_z w32 (of_z w32 c.args.to) ≡ c.args.to = search rules in
    let from_is : to_z w32 (of_z w32 c.args.from) ≡ c.args.from = search rules in
    let pushed : c.push.new.self ≡ in_turn x i ∷ env = c.in_ok-push.ensures ∙ ap (λ γ. in_turn x i ∷ γ) c.loop-turn.invariant.scope in
    let ran : body i σ ≡ completion_at o τ = sym (c.in_ok-completion.ensures.runs ∙ ap (λ γ. block_here r γ b σ) pushed) in
    let go = for_turns (count_of (end -ℤ (i +ℤ pos 1))) (i +ℤ pos 1) body in
    let step = for_more i end body σ c.loop-turn-test.true ∙ ap (λ o. then_do o go) ran ∙ stops o τ go c.in_default.not-Went in
    record {
      runs = sym step
          ∙ c.loop-turn.invariant.runs
          ∙ ap (λ z. for_turns (count_of (z -ℤ to_z w32 (of_z w32 c.args.from))) (to_z w32 (of_z w32 c.args.from)) body c.args.store.now) to_is
          ∙ ap (λ z. for_turns (count_of (c.args.to -ℤ z)) z body c.args.store.now) from_is;
      scope = c.truncate.ensures
          ∙ ap (λ v. drop (length c.block.new.scope - v) c.block.new.scope) c.len-visible.ensures
          ∙ ap (λ γ. drop (length γ - length env) γ) (c.in_ok-completion.ensures.scope ∙ pushed)
          ∙ oldest_of_one (in_turn x i) env;
      cut = tt;
    }

pub for_turns-returns-clause-runs : goal.for_turns-returns-clause-runs
for_turns-returns-clause-runs t c =
    let r = c.args.run.now in
    let env = c.args.scope.now in
    let x = c.args.name.now in
    let b = block_view c.args.body.now in
    let body : ℤ → Store → Outcome = λ i. block_here r (in_turn x i ∷ env) b in
    let to_is : to_z w32 (of_z w32 c.args.to) ≡ c.args.to = search rules in
    let from_is : to_z w32 (of_z w32 c.args.from) ≡ c.args.from = search rules in
    sym (for_over (to_z w32 c.loop-turn.turn-bits) (to_z w32 (of_z w32 c.args.to)) body c.loop-turn.store c.loop-turn-test.false)
    ∙ c.loop-turn.invariant.runs
    ∙ ap (λ z. for_turns (count_of (z -ℤ to_z w32 (of_z w32 c.args.from))) (to_z w32 (of_z w32 c.args.from)) body c.args.store.now) to_is
    ∙ ap (λ z. for_turns (count_of (c.args.to -ℤ z)) z body c.args.store.now) from_is

pub kind-returns-in-For-clause-runs : goal.kind-returns-in-For-clause-runs
unfolding X.roll-StmtKind denote.Hole.Carrier.roll
kind-returns-in-For-clause-runs t c =
    let r = c.args.run.now in
    let env = c.args.scope.now in
    let σ = c.args.store.now in
    let n = c.args.n in
    let x = c.in-For.name in
    let b = block_view c.in-For.body in
    let from = c.in-For.from in
    let to = c.in-For.to in
    let body : ℤ → Store → Outcome = λ i. block_here r (in_turn x i ∷ env) b in
    let to_is : to_z w32 (of_z w32 to) ≡ to = search rules in
    let from_is : to_z w32 (of_z w32 from) ≡ from = search rules in
    let view : kind_view c.args.kind.now ≡ for_in x from to b = ap kind_view c.in-For.is
    ∙ fold-roll-StmtKind TKind TBlock TStmt kind_step block_step stmt_step (StmtKind-F.For x from to c.in-For.body) in
    along c.for_turns.result c.for_turns.new.store
    (for_turns (count_of (to_z w32 (of_z w32 to) -ℤ to_z w32 (of_z w32 from))) (to_z w32 (of_z w32 from)) body σ)
    (kind_here r env n (kind_view c.args.kind.now) σ)
    (ap (λ z. for_turns (count_of (z -ℤ to_z w32 (of_z w32 from))) (to_z w32 (of_z w32 from)) body σ) to_is
    ∙ ap (λ z. for_turns (count_of (to -ℤ z)) z body σ) from_is
    ∙ ap (λ k. kind_here r env n k σ) (sym view))
    c.for_turns.ensures.runs

pub kind-returns-in-While-clause-runs : goal.kind-returns-in-While-clause-runs
unfolding X.roll-StmtKind denote.Hole.Carrier.roll
kind-returns-in-While-clause-runs t c =
    let r = c.args.run.now in
    let env = c.args.scope.now in
    let σ = c.args.store.now in
    let n = c.args.n in
    let bound = c.in-While.bound in
    let cond = expr_view c.in-While.condition in
    let b = block_view c.in-While.body in
    let view : kind_view c.args.kind.now ≡ while_do cond bound b =
    ap kind_view c.in-While.is ∙ fold-roll-StmtKind TKind TBlock TStmt kind_step block_step stmt_step (StmtKind-F.While c.in-While.condition bound c.in-While.body) in
    let turns : TKind → Outcome = λ k. while_turns bound n (is_use (is_fresh env) k) (use_samples env k) (λ τ. value_of env τ cond) (block_here r env b) [] σ in
    along c.while_turns.result c.while_turns.new.store
    (turns (kind_view c.args.kind.now))
    (kind_here r env n (kind_view c.args.kind.now) σ)
    (ap turns view ∙ ap (λ k. kind_here r env n k σ) (sym view))
    c.while_turns.ensures.runs

pub kind-returns-in-Consistent-clause-runs : goal.kind-returns-in-Consistent-clause-runs
unfolding X.roll-StmtKind denote.Hole.Carrier.roll
kind-returns-in-Consistent-clause-runs t c =
    let r = c.args.run.now in
    let env = c.args.scope.now in
    let σ = c.args.store.now in
    let n = c.args.n in
    let x = c.in-Consistent.name in
    let id = c.in-Consistent.id in
    let id_is : to_z w32 (of_z w32 id) ≡ id = search rules in
    let view : kind_view c.args.kind.now ≡ consistent x id = ap kind_view c.in-Consistent.is ∙ fold-roll-StmtKind TKind TBlock TStmt kind_step block_step stmt_step (StmtKind-F.Consistent x id) in
    along c.tag.result c.tag.new.store
    (kind_here r env n (consistent x (to_z w32 (of_z w32 id))) σ)
    (kind_here r env n (kind_view c.args.kind.now) σ)
    (ap (λ z. kind_here r env n (consistent x z) σ) id_is ∙ ap (λ k. kind_here r env n k σ) (sym view))
    c.tag.ensures.step

pub statements-loop-inner-preserved : goal.statements-loop-inner-preserved
statements-loop-inner-preserved t c =
    let r = c.args.run.now in
    let env = c.args.scope.now in
    let γ = c.loop-inner.scope in
    let σ = c.loop-inner.store in
    let τ = c.statement.new.store in
    let xs = c.as_slice-all.result.now in
    let i = c.loop-inner.inner-index in
    let s = c.inner-item.result in
    let k = kind_view s.kind in
    let rest = stmts_view (drop (i + 1) xs) in
    let opened : stmt_view s ≡ stmt s.id s.line k = search (rules, statements.the_lemmas) in
    let split : stmts_view (drop i xs) ≡ more (stmt s.id s.line k) rest = ap stmts_view (rest_at xs i s c.loop-inner-test.true c.inner-item.is) ∙ ap (λ q. more q rest) opened in
    let went : stmt_here r γ s.id k σ ≡ Went τ = sym c.in_ok-other.ensures.runs ∙ ap (λ o. completion_at o τ) c.in-Went.is in
    let step = ap (λ ss. stmts_here r γ ss σ) split ∙ ap (λ o. then_do o (stmts_here r (grown k rest γ σ) rest)) went in
    let tail : stmts_view (take (length xs - (c.loop-inner.done + 1)) (drop (c.loop-inner.done + 1) xs)) ≡ rest =
    ap stmts_view (rest_of xs (c.loop-inner.done + 1)) ∙ ap (λ j. stmts_view (drop (j + 1) xs)) c.loop-inner.invariant.done in
    let grew : c.grow.new.scope ≡ grown k rest γ σ =
    c.in_ok-grow-in-Went.ensures σ (sym c.locals-level.ensures) ∙ ap (λ ss. grown k ss c.statement.new.scope σ) tail ∙ ap (λ g. grown k rest g σ) c.in_ok-other.ensures.scope in
    let keeps : Keeps (grown k rest γ σ) env = keeps_grown k rest γ env σ (record { seen = c.loop-inner.invariant.seen; same = c.loop-inner.invariant.scope }) in
    record {
      runs = ap (λ g. stmts_here r g rest τ) grew ∙ sym step ∙ c.loop-inner.invariant.runs;
      seen = subst (λ (g : List Binding). length env ≤ length g) (sym grew) keeps.seen;
      scope = ap (λ g. drop (length g - length env) g) grew ∙ keeps.same;
      done = ap (λ j. j + 1) c.loop-inner.invariant.done;
    }

pub while_turns-returns-then-is_zero-clause-runs : goal.while_turns-returns-then-is_zero-clause-runs
while_turns-returns-then-is_zero-clause-runs t c =
    let r = c.args.run.now in
    let env = c.args.scope.now in
    let γ = c.loop-turn.scope in
    let σ = c.loop-turn.store in
    let τ = c.begin_turn.new.store in
    let n = c.args.n in
    let k = kind_view c.args.kind.now in
    let cond = expr_view c.args.condition.now in
    let before = c.loop-turn.samples in
    let is = is_use (is_fresh env) k in
    let taken = use_samples env k in
    let same : γ ≡ env = c.loop-turn.invariant.scope in
    let told : τ ≡ used (is_use (is_fresh γ) k) n (use_samples γ k σ) σ = c.in_ok-samples.ensures.store in
    let began : τ ≡ used is n (taken σ) σ = told ∙ ap (λ g. used (is_use (is_fresh g) k) n (use_samples g k σ) σ) same in
    let gathered : c.in_ok-samples.samples ≡ union before (use_samples γ k σ) = c.in_ok-samples.ensures.samples in
    let all : c.in_ok-samples.samples ≡ union before (taken σ) = gathered ∙ ap (λ g. union before (use_samples g k σ)) same in
    let counts : c.in_ok-is_use.is_use ≡ is = c.in_ok-is_use.ensures in
    let found : value_of env (used is n (taken σ) σ) cond ≡ Val c.in-Value.value =
    ap (λ s. value_of env s cond) (sym began) ∙ ap (λ g. value_of g τ cond) (sym same) ∙ sym c.in_ok-trapped.ensures ∙ ap got_view c.in-Value.is in
    let ends = while_ends n is taken (λ s. value_of env s cond) (block_here r env (block_view c.args.body.now)) c.args.bound c.loop-turn._turn before σ c.in-Value.value
    c.loop-turn-test.true found (sym c.is_zero.ensures ∙ c.if-is_zero.true) in
    along c.end_turns.result c.end_turns.new.store
    (Went (done c.in_ok-is_use.is_use n c.in_ok-samples.samples τ))
    (while_turns c.args.bound n is taken (λ s. value_of env s cond) (block_here r env (block_view c.args.body.now)) [] c.args.store.now)
    (ap (λ u. Went (done u n c.in_ok-samples.samples τ)) counts
    ∙ ap (λ s. Went (done is n s τ)) all
    ∙ ap (λ s. Went (done is n (union before (taken σ)) s)) began
    ∙ sym ends
    ∙ c.loop-turn.invariant.runs)
    c.end_turns.ensures.step

pub while_turns-returns-in_default : goal.while_turns-returns-in_default
while_turns-returns-in_default t c =
    let r = c.args.run.now in
    let env = c.args.scope.now in
    let γ = c.loop-turn.scope in
    let σ = c.loop-turn.store in
    let τ = c.begin_turn.new.store in
    let n = c.args.n in
    let k = kind_view c.args.kind.now in
    let cond = expr_view c.args.condition.now in
    let b = block_view c.args.body.now in
    let before = c.loop-turn.samples in
    let is = is_use (is_fresh env) k in
    let taken = use_samples env k in
    let o = c.in_ok-other.other in
    let same : γ ≡ env = c.loop-turn.invariant.scope in
    let told : τ ≡ used (is_use (is_fresh γ) k) n (use_samples γ k σ) σ = c.in_ok-samples.ensures.store in
    let began : τ ≡ used is n (taken σ) σ = told ∙ ap (λ g. used (is_use (is_fresh g) k) n (use_samples g k σ) σ) same in
    let found : value_of env (used is n (taken σ) σ) cond ≡ Val c.in-Value.value =
    ap (λ s. value_of env s cond) (sym began) ∙ ap (λ g. value_of g τ cond) (sym same) ∙ sym c.in_ok-trapped.ensures ∙ ap got_view c.in-Value.is in
    let ran : block_here r env b (used is n (taken σ) σ) ≡ completion_at o c.block.new.store =
    ap (block_here r env b) (sym began) ∙ ap (λ g. block_here r g b τ) (sym same) ∙ sym c.in_ok-other.ensures.runs in
    let go = while_turns (c.args.bound - (c.loop-turn._turn + 1)) n is taken (λ s. value_of env s cond) (block_here r env b) (union before (taken σ)) in
    let step = while_more n is taken (λ s. value_of env s cond) (block_here r env b) c.args.bound c.loop-turn._turn before σ c.in-Value.value c.loop-turn-test.true found
    (sym c.is_zero.ensures ∙ c.if-is_zero.false) in
    record {
      runs = sym (step ∙ ap (λ q. then_do q go) ran ∙ stops o c.block.new.store go c.in_default.not-Went) ∙ c.loop-turn.invariant.runs;
      scope = c.in_ok-other.ensures.scope ∙ same;
      cut = tt;
    }

pub while_turns-loop-turn-preserved : goal.while_turns-loop-turn-preserved
while_turns-loop-turn-preserved t c =
    let r = c.args.run.now in
    let env = c.args.scope.now in
    let γ = c.loop-turn.scope in
    let σ = c.loop-turn.store in
    let τ = c.begin_turn.new.store in
    let n = c.args.n in
    let k = kind_view c.args.kind.now in
    let cond = expr_view c.args.condition.now in
    let b = block_view c.args.body.now in
    let before = c.loop-turn.samples in
    let is = is_use (is_fresh env) k in
    let taken = use_samples env k in
    let same : γ ≡ env = c.loop-turn.invariant.scope in
    let told : τ ≡ used (is_use (is_fresh γ) k) n (use_samples γ k σ) σ = c.in_ok-samples.ensures.store in
    let began : τ ≡ used is n (taken σ) σ = told ∙ ap (λ g. used (is_use (is_fresh g) k) n (use_samples g k σ) σ) same in
    let gathered : c.in_ok-samples.samples ≡ union before (use_samples γ k σ) = c.in_ok-samples.ensures.samples in
    let all : c.in_ok-samples.samples ≡ union before (taken σ) = gathered ∙ ap (λ g. union before (use_samples g k σ)) same in
    let found : value_of env (used is n (taken σ) σ) cond ≡ Val c.in-Value.value =
    ap (λ s. value_of env s cond) (sym began) ∙ ap (λ g. value_of g τ cond) (sym same) ∙ sym c.in_ok-trapped.ensures ∙ ap got_view c.in-Value.is in
    let ran : block_here r env b (used is n (taken σ) σ) ≡ Went c.block.new.store =
    ap (block_here r env b) (sym began) ∙ ap (λ g. block_here r g b τ) (sym same) ∙ sym c.in_ok-other.ensures.runs ∙ ap (λ o. completion_at o c.block.new.store) c.in-Went.is in
    let left = c.args.bound - (c.loop-turn._turn + 1) in
    let turns = while_turns left n is taken (λ s. value_of env s cond) (block_here r env b) in
    let step = while_more n is taken (λ s. value_of env s cond) (block_here r env b) c.args.bound c.loop-turn._turn before σ c.in-Value.value c.loop-turn-test.true found
    (sym c.is_zero.ensures ∙ c.if-is_zero.false) in
    record {
      runs = ap (λ s. turns s c.block.new.store) all ∙ sym (step ∙ ap (λ q. then_do q (turns (union before (taken σ)))) ran) ∙ c.loop-turn.invariant.runs;
      scope = c.in_ok-other.ensures.scope ∙ same;
    }

pub block-returns-in_err-enter-clause-cut : goal.block-returns-in_err-enter-clause-cut
block-returns-in_err-enter-clause-cut t c =
    let τ = c.enter.new.self in
    on_err _ (block_from τ.events c.args.run.now c.args.scope.now (block_view c.args.block.now) c.args.store.now (as_before τ c.args.store.now c.in_err-enter.ensures.kept))

pub call-returns-in_err-trapped-clause-cut : goal.call-returns-in_err-trapped-clause-cut
call-returns-in_err-trapped-clause-cut t c =
    let σ = c.args.store.now in
    on_err _ (call_from σ.events c.args.run.now c.args.scope.now c.args.n σ (call_view c.args.call.now) (as_before σ σ refl))

pub call_to-returns-in_err-completion-in-Some-clause-cut : goal.call_to-returns-in_err-completion-in-Some-clause-cut
call_to-returns-in_err-completion-in-Some-clause-cut t c =
    let r = c.args.run.now in
    let p = program_view r.program.now in
    let rs = map region_view r.regions.now in
    let x = c.args.name.now in
    let ps = map passed_view c.args.passed.items in
    let σ = c.args.store.now in
    let f = function_view c.in-Some.function.now in
    let events = c.block.new.store.events in
    let inner = record r { depth = r.depth - 1; body = record { ref_ptr = r.body.ref_ptr; now = c.in-Some.function.now.body } } in
    let fr = framed p f ps σ in
    let start : Store = record σ { locals = fr.locals } in
    let slice : Some f ≡ function_named (map function_view c.as_slice.result.now) x = c.in-Some.ensures.named in
    let named : Some f ≡ function_named p.functions x = slice ∙ ap (λ fs. function_named (map function_view fs) x) c.as_slice.ensures.value in
    let cut : Oldest events (events_in (block_here inner c.in_ok-scope-in-Some.scope f.body c.frame.new.store)) = c.in_err-completion-in-Some.ensures.cut in
    let scope : c.in_ok-scope-in-Some.scope ≡ fr.env = c.in_ok-scope-in-Some.ensures.scope in
    let store : c.frame.new.store ≡ start = c.in_ok-scope-in-Some.ensures.store in
    let ran = along_with events (block_here inner c.in_ok-scope-in-Some.scope f.body c.frame.new.store) (block_here inner fr.env f.body start)
    (ap (λ g. block_here inner g f.body c.frame.new.store) scope ∙ ap (block_here inner fr.env f.body) store) cut in
    on_err _
    (along_with events (leave (length σ.locals) (block_here inner fr.env f.body start)) (callee r x ps σ)
    (sym (calls_deeper p rs r.depth x f ps σ c.if-run-eq0.false named))
    (leave_keeps (Oldest events) (one_more events) (length σ.locals) (block_here inner fr.env f.body start) ran))

pub call_to-returns-in_err-scope-in-Some-clause-cut : goal.call_to-returns-in_err-scope-in-Some-clause-cut
call_to-returns-in_err-scope-in-Some-clause-cut t c =
    let σ = c.args.store.now in
    let events = c.frame.new.store.events in
    on_err _ (callee_from events c.args.run.now c.args.name.now (map passed_view c.args.passed.items) σ (all_of_them events σ.events (sym c.in_err-scope-in-Some.ensures.kept)))

pub for_turns-loop-turn-smaller : goal.for_turns-loop-turn-smaller
for_turns-loop-turn-smaller t c =
    let i = to_z w32 c.loop-turn.turn-bits in
    let end = to_z w32 (of_z w32 c.args.to) in
    let up : to_z w32 (of_z w32 (i +ℤ pos 1)) ≡ i +ℤ pos 1 = search rules in
    let fewer : count_of (end -ℤ i) ≡ suc (count_of (end -ℤ (i +ℤ pos 1))) = count_more i end c.loop-turn-test.true in
    let same : count_of (end -ℤ to_z w32 (of_z w32 (i +ℤ pos 1))) ≡ count_of (end -ℤ (i +ℤ pos 1)) = ap (λ j. count_of (end -ℤ j)) up in
    omega (arith, fewer, same)

pub for_turns-returns-in_err-completion-clause-cut : goal.for_turns-returns-in_err-completion-clause-cut
for_turns-returns-in_err-completion-clause-cut t c =
    let r = c.args.run.now in
    let env = c.args.scope.now in
    let x = c.args.name.now in
    let b = block_view c.args.body.now in
    let σ = c.loop-turn.store in
    let i = to_z w32 c.loop-turn.turn-bits in
    let end = to_z w32 (of_z w32 c.args.to) in
    let from = to_z w32 (of_z w32 c.args.from) in
    let body : ℤ → Store → Outcome = λ i. block_here r (in_turn x i ∷ env) b in
    let to_is : to_z w32 (of_z w32 c.args.to) ≡ c.args.to = search rules in
    let from_is : to_z w32 (of_z w32 c.args.from) ≡ c.args.from = search rules in
    let whole : for_turns (count_of (end -ℤ i)) i body σ ≡ for_turns (count_of (c.args.to -ℤ c.args.from)) c.args.from body c.args.store.now =
    c.loop-turn.invariant.runs
    ∙ ap (λ z. for_turns (count_of (z -ℤ from)) from body c.args.store.now) to_is
    ∙ ap (λ z. for_turns (count_of (c.args.to -ℤ z)) z body c.args.store.now) from_is in
    let events = c.block.new.store.events in
    let pushed : c.push.new.self ≡ in_turn x i ∷ env = c.in_ok-push.ensures ∙ ap (λ g. in_turn x i ∷ g) c.loop-turn.invariant.scope in
    let cut : Oldest events (events_in (block_here r c.push.new.self b σ)) = c.in_err-completion.ensures.cut in
    let ran = along_with events (block_here r c.push.new.self b σ) (body i σ) (ap (λ g. block_here r g b σ) pushed) cut in
    let go = for_turns (count_of (end -ℤ (i +ℤ pos 1))) (i +ℤ pos 1) body in
    on_err _
    (along_with events (then_do (body i σ) go) (for_turns (count_of (c.args.to -ℤ c.args.from)) c.args.from body c.args.store.now)
    (sym (for_more i end body σ c.loop-turn-test.true) ∙ whole)
    (then_from events (body i σ) go ran (λ τ l. turns_from events (count_of (end -ℤ (i +ℤ pos 1))) (i +ℤ pos 1) body τ l (λ j υ m. block_from events r (in_turn x j ∷ env) b υ m))))

pub for_turns-returns-in_err-push-clause-cut : goal.for_turns-returns-in_err-push-clause-cut
for_turns-returns-in_err-push-clause-cut t c =
    let r = c.args.run.now in
    let env = c.args.scope.now in
    let x = c.args.name.now in
    let b = block_view c.args.body.now in
    let σ = c.loop-turn.store in
    let i = to_z w32 c.loop-turn.turn-bits in
    let end = to_z w32 (of_z w32 c.args.to) in
    let from = to_z w32 (of_z w32 c.args.from) in
    let body : ℤ → Store → Outcome = λ i. block_here r (in_turn x i ∷ env) b in
    let to_is : to_z w32 (of_z w32 c.args.to) ≡ c.args.to = search rules in
    let from_is : to_z w32 (of_z w32 c.args.from) ≡ c.args.from = search rules in
    let whole : for_turns (count_of (end -ℤ i)) i body σ ≡ for_turns (count_of (c.args.to -ℤ c.args.from)) c.args.from body c.args.store.now =
    c.loop-turn.invariant.runs
    ∙ ap (λ z. for_turns (count_of (z -ℤ from)) from body c.args.store.now) to_is
    ∙ ap (λ z. for_turns (count_of (c.args.to -ℤ z)) z body c.args.store.now) from_is in
    on_err _
    (along_with σ.events (for_turns (count_of (end -ℤ i)) i body σ) (for_turns (count_of (c.args.to -ℤ c.args.from)) c.args.from body c.args.store.now) whole
    (turns_from σ.events (count_of (end -ℤ i)) i body σ (as_before σ σ refl) (λ j υ m. block_from σ.events r (in_turn x j ∷ env) b υ m)))

pub kind-returns-in_err-given-in-AssignIndex-clause-cut : goal.kind-returns-in_err-given-in-AssignIndex-clause-cut
unfolding X.roll-StmtKind denote.Hole.Carrier.roll
kind-returns-in_err-given-in-AssignIndex-clause-cut t c =
    let r = c.args.run.now in
    let env = c.args.scope.now in
    let σ = c.args.store.now in
    let n = c.args.n in
    let x = c.in-AssignIndex.name in
    let e = expr_view c.in-AssignIndex.index in
    let s = right_view c.in-AssignIndex.side in
    let view : kind_view c.args.kind.now ≡ assign_index x e s = ap kind_view c.in-AssignIndex.is
    ∙ fold-roll-StmtKind TKind TBlock TStmt kind_step block_step stmt_step (StmtKind-F.AssignIndex x c.in-AssignIndex.index c.in-AssignIndex.side) in
    let events = c.right-in-AssignIndex.new.store.events in
    let cut : Oldest events (events_in (right_here r env n σ s)) = c.in_err-given-in-AssignIndex.ensures.cut in
    on_err _
    (along_with events (kind_here r env n (assign_index x e s) σ) (kind_here r env n (kind_view c.args.kind.now) σ) (ap (λ k. kind_here r env n k σ) (sym view))
    (index_from events r env n x e s σ cut))

pub kind-returns-in_err-trapped-in-If-clause-cut : goal.kind-returns-in_err-trapped-in-If-clause-cut
kind-returns-in_err-trapped-in-If-clause-cut t c =
    let σ = c.args.store.now in
    on_err _ (kind_from σ.events c.args.run.now c.args.scope.now c.args.n (kind_view c.args.kind.now) σ (as_before σ σ refl))

pub statement-returns-in_default : goal.statement-returns-in_default
statement-returns-in_default t c =
    let r = c.args.run.now in
    let env = c.args.scope.now in
    let σ = c.args.store.now in
    let n = c.args.statement.now.id in
    let k = kind_view c.args.statement.now.kind in
    let samples = use_samples env k σ in
    let begins = opened (begun_by (map region_view r.regions.now) n) σ in
    let open_is : c.open_region.new.self ≡ begins = c.in_ok-open_region.ensures.step ∙ ap (λ o. opened o σ) c.begun_by.ensures in
    let υ = used (begins_use (is_fresh env) k) n samples begins in
    let begun_is : c.begin.new.store ≡ υ =
    c.in_ok-begin.ensures.step ∙ ap (λ u. begun_at k u n c.open_region.new.self) c.in_ok-uses.ensures ∙ ap (begun_at k (if is_use (is_fresh env) k then Some samples else None) n) open_is
    ∙ begun_if (is_fresh env) k n samples begins in
    let ends : Store → Store = λ s. closed (ended_by (map region_view r.regions.now) n) (done (ends_use (is_fresh env) k) n samples s) in
    let τ = c.kind.new.store in
    record {
      runs = sym (stays c.in_ok-other.other τ ends c.in_default.not-Went) ∙ ap (finished ends) (c.in_ok-other.ensures.runs ∙ ap (kind_here r env n k) begun_is);
      scope = c.in_ok-other.ensures.scope;
      cut = tt;
    }

pub statement-returns-in_err-other-clause-cut : goal.statement-returns-in_err-other-clause-cut
statement-returns-in_err-other-clause-cut t c =
    let r = c.args.run.now in
    let env = c.args.scope.now in
    let σ = c.args.store.now in
    let n = c.args.statement.now.id in
    let k = kind_view c.args.statement.now.kind in
    let samples = use_samples env k σ in
    let begins = opened (begun_by (map region_view r.regions.now) n) σ in
    let open_is : c.open_region.new.self ≡ begins = c.in_ok-open_region.ensures.step ∙ ap (λ o. opened o σ) c.begun_by.ensures in
    let υ = used (begins_use (is_fresh env) k) n samples begins in
    let begun_is : c.begin.new.store ≡ υ =
    c.in_ok-begin.ensures.step ∙ ap (λ u. begun_at k u n c.open_region.new.self) c.in_ok-uses.ensures ∙ ap (begun_at k (if is_use (is_fresh env) k then Some samples else None) n) open_is
    ∙ begun_if (is_fresh env) k n samples begins in
    let events = c.kind.new.store.events in
    on_err _ (behind_kind events r env n k σ (kind_here r env n k υ)
    (along_with events (kind_here r env n k c.begin.new.store) (kind_here r env n k υ) (ap (kind_here r env n k) begun_is) c.in_err-other.ensures.cut))

pub statement-returns-in_err-uses-clause-cut : goal.statement-returns-in_err-uses-clause-cut
statement-returns-in_err-uses-clause-cut t c =
    let r = c.args.run.now in
    let env = c.args.scope.now in
    let σ = c.args.store.now in
    let n = c.args.statement.now.id in
    let k = kind_view c.args.statement.now.kind in
    let samples = use_samples env k σ in
    on_err _ (stmt_from σ.events r env n k σ (as_before σ σ refl))

pub statements-returns-in_default : goal.statements-returns-in_default
statements-returns-in_default t c =
    let r = c.args.run.now in
    let env = c.args.scope.now in
    let γ = c.loop-inner.scope in
    let σ = c.loop-inner.store in
    let τ = c.statement.new.store in
    let xs = c.as_slice-all.result.now in
    let i = c.loop-inner.inner-index in
    let s = c.inner-item.result in
    let k = kind_view s.kind in
    let rest = stmts_view (drop (i + 1) xs) in
    let opened : stmt_view s ≡ stmt s.id s.line k = search (rules, statements.the_lemmas) in
    let split : stmts_view (drop i xs) ≡ more (stmt s.id s.line k) rest = ap stmts_view (rest_at xs i s c.loop-inner-test.true c.inner-item.is) ∙ ap (λ q. more q rest) opened in
    let go = stmts_here r (grown k rest γ σ) rest in
    let whole : then_do (stmt_here r γ s.id k σ) go ≡ stmts_here r env (stmts_in (block_view c.args.block.now)) c.args.store.now = sym (ap (λ ss. stmts_here r γ ss σ) split)
    ∙ c.loop-inner.invariant.runs in
    let o = c.in_ok-other.other in
    record {
      runs = sym (ap (λ q. then_do q go) (sym c.in_ok-other.ensures.runs) ∙ stops o τ go c.in_default.not-Went) ∙ whole;
      scope = ap (λ g. drop (length g - length env) g) c.in_ok-other.ensures.scope ∙ c.loop-inner.invariant.scope;
      cut = tt;
    }

pub statements-returns-in_err-grow-in-Went-clause-cut : goal.statements-returns-in_err-grow-in-Went-clause-cut
statements-returns-in_err-grow-in-Went-clause-cut t c =
    let r = c.args.run.now in
    let env = c.args.scope.now in
    let γ = c.loop-inner.scope in
    let σ = c.loop-inner.store in
    let τ = c.statement.new.store in
    let xs = c.as_slice-all.result.now in
    let i = c.loop-inner.inner-index in
    let s = c.inner-item.result in
    let k = kind_view s.kind in
    let rest = stmts_view (drop (i + 1) xs) in
    let opened : stmt_view s ≡ stmt s.id s.line k = search (rules, statements.the_lemmas) in
    let split : stmts_view (drop i xs) ≡ more (stmt s.id s.line k) rest = ap stmts_view (rest_at xs i s c.loop-inner-test.true c.inner-item.is) ∙ ap (λ q. more q rest) opened in
    let go = stmts_here r (grown k rest γ σ) rest in
    let whole : then_do (stmt_here r γ s.id k σ) go ≡ stmts_here r env (stmts_in (block_view c.args.block.now)) c.args.store.now = sym (ap (λ ss. stmts_here r γ ss σ) split)
    ∙ c.loop-inner.invariant.runs in
    let went : stmt_here r γ s.id k σ ≡ Went τ = sym c.in_ok-other.ensures.runs ∙ ap (λ o. completion_at o τ) c.in-Went.is in
    on_err _
    (along_with τ.events (go τ) (stmts_here r env (stmts_in (block_view c.args.block.now)) c.args.store.now) (sym (ap (λ q. then_do q go) went) ∙ whole)
    (stmts_from τ.events r (grown k rest γ σ) rest τ (as_before τ τ refl)))

pub statements-returns-in_err-other-clause-cut : goal.statements-returns-in_err-other-clause-cut
statements-returns-in_err-other-clause-cut t c =
    let r = c.args.run.now in
    let env = c.args.scope.now in
    let γ = c.loop-inner.scope in
    let σ = c.loop-inner.store in
    let τ = c.statement.new.store in
    let xs = c.as_slice-all.result.now in
    let i = c.loop-inner.inner-index in
    let s = c.inner-item.result in
    let k = kind_view s.kind in
    let rest = stmts_view (drop (i + 1) xs) in
    let opened : stmt_view s ≡ stmt s.id s.line k = search (rules, statements.the_lemmas) in
    let split : stmts_view (drop i xs) ≡ more (stmt s.id s.line k) rest = ap stmts_view (rest_at xs i s c.loop-inner-test.true c.inner-item.is) ∙ ap (λ q. more q rest) opened in
    let go = stmts_here r (grown k rest γ σ) rest in
    let whole : then_do (stmt_here r γ s.id k σ) go ≡ stmts_here r env (stmts_in (block_view c.args.block.now)) c.args.store.now = sym (ap (λ ss. stmts_here r γ ss σ) split)
    ∙ c.loop-inner.invariant.runs in
    on_err _
    (along_with τ.events (then_do (stmt_here r γ s.id k σ) go) (stmts_here r env (stmts_in (block_view c.args.block.now)) c.args.store.now) whole
    (then_from τ.events (stmt_here r γ s.id k σ) go c.in_err-other.ensures.cut (λ υ l. stmts_from τ.events r (grown k rest γ σ) rest υ l)))

pub while_turns-returns-in-Traps-clause-runs : goal.while_turns-returns-in-Traps-clause-runs
while_turns-returns-in-Traps-clause-runs t c =
    let r = c.args.run.now in
    let env = c.args.scope.now in
    let γ = c.loop-turn.scope in
    let σ = c.loop-turn.store in
    let τ = c.begin_turn.new.store in
    let n = c.args.n in
    let k = kind_view c.args.kind.now in
    let cond = expr_view c.args.condition.now in
    let b = block_view c.args.body.now in
    let before = c.loop-turn.samples in
    let is = is_use (is_fresh env) k in
    let taken = use_samples env k in
    let left = c.args.bound - (c.loop-turn._turn + 1) in
    let same : γ ≡ env = c.loop-turn.invariant.scope in
    let told : τ ≡ used (is_use (is_fresh γ) k) n (use_samples γ k σ) σ = c.in_ok-samples.ensures.store in
    let began : τ ≡ used is n (taken σ) σ = told ∙ ap (λ g. used (is_use (is_fresh g) k) n (use_samples g k σ) σ) same in
    let turns = λ (t : ℕ). while_turns t n is taken (λ s. value_of env s cond) (block_here r env b) in
    let found : value_of env (used is n (taken σ) σ) cond ≡ Traps c.in-Traps.trapped =
    ap (λ s. value_of env s cond) (sym began) ∙ ap (λ g. value_of g τ cond) (sym same) ∙ sym c.in_ok-trapped.ensures ∙ ap got_view c.in-Traps.is in
    along c.trap.result c.trap.new.self (trapped c.in-Traps.trapped n τ) (turns c.args.bound [] c.args.store.now)
    (ap (trapped c.in-Traps.trapped n) began
    ∙ sym (while_traps n is taken (λ s. value_of env s cond) (block_here r env b) c.args.bound c.loop-turn._turn before σ c.in-Traps.trapped c.loop-turn-test.true found)
    ∙ c.loop-turn.invariant.runs)
    c.trap.ensures.step

pub while_turns-returns-in_err-is_use-clause-cut : goal.while_turns-returns-in_err-is_use-clause-cut
while_turns-returns-in_err-is_use-clause-cut t c =
    let r = c.args.run.now in
    let env = c.args.scope.now in
    let σ = c.args.store.now in
    let k = kind_view c.args.kind.now in
    let cond = expr_view c.args.condition.now in
    let b = block_view c.args.body.now in
    on_err _ (while_from σ.events c.args.bound c.args.n (is_use (is_fresh env) k) (use_samples env k) (λ s. value_of env s cond) (block_here r env b) [] σ (as_before σ σ refl)
    (λ s l. block_from σ.events r env b s l))

pub while_turns-returns-in_err-other-clause-cut : goal.while_turns-returns-in_err-other-clause-cut
while_turns-returns-in_err-other-clause-cut t c =
    let r = c.args.run.now in
    let env = c.args.scope.now in
    let γ = c.loop-turn.scope in
    let σ = c.loop-turn.store in
    let τ = c.begin_turn.new.store in
    let n = c.args.n in
    let k = kind_view c.args.kind.now in
    let cond = expr_view c.args.condition.now in
    let b = block_view c.args.body.now in
    let before = c.loop-turn.samples in
    let is = is_use (is_fresh env) k in
    let taken = use_samples env k in
    let left = c.args.bound - (c.loop-turn._turn + 1) in
    let same : γ ≡ env = c.loop-turn.invariant.scope in
    let told : τ ≡ used (is_use (is_fresh γ) k) n (use_samples γ k σ) σ = c.in_ok-samples.ensures.store in
    let began : τ ≡ used is n (taken σ) σ = told ∙ ap (λ g. used (is_use (is_fresh g) k) n (use_samples g k σ) σ) same in
    let turns = λ (t : ℕ). while_turns t n is taken (λ s. value_of env s cond) (block_here r env b) in
    let events = c.block.new.store.events in
    let found : value_of env (used is n (taken σ) σ) cond ≡ Val c.in-Value.value =
    ap (λ s. value_of env s cond) (sym began) ∙ ap (λ g. value_of g τ cond) (sym same) ∙ sym c.in_ok-trapped.ensures ∙ ap got_view c.in-Value.is in
    let go = turns left (union before (taken σ)) in
    let step = while_more n is taken (λ s. value_of env s cond) (block_here r env b) c.args.bound c.loop-turn._turn before σ c.in-Value.value c.loop-turn-test.true found
    (sym c.is_zero.ensures ∙ c.if-is_zero.false) in
    let cut : Oldest events (events_in (block_here r γ b τ)) = c.in_err-other.ensures.cut in
    let ran = along_with events (block_here r γ b τ) (block_here r env b (used is n (taken σ) σ)) (ap (λ g. block_here r g b τ) same ∙ ap (block_here r env b) began) cut in
    on_err _
    (along_with events (then_do (block_here r env b (used is n (taken σ) σ)) go) (turns c.args.bound [] c.args.store.now) (sym step ∙ c.loop-turn.invariant.runs)
    (then_from events (block_here r env b (used is n (taken σ) σ)) go ran
    (λ s l. while_from events left n is taken (λ s. value_of env s cond) (block_here r env b) (union before (taken σ)) s l (λ s l. block_from events r env b s l))))

pub while_turns-returns-in_err-trapped-clause-cut : goal.while_turns-returns-in_err-trapped-clause-cut
while_turns-returns-in_err-trapped-clause-cut t c =
    let r = c.args.run.now in
    let env = c.args.scope.now in
    let γ = c.loop-turn.scope in
    let σ = c.loop-turn.store in
    let τ = c.begin_turn.new.store in
    let n = c.args.n in
    let k = kind_view c.args.kind.now in
    let cond = expr_view c.args.condition.now in
    let b = block_view c.args.body.now in
    let before = c.loop-turn.samples in
    let is = is_use (is_fresh env) k in
    let taken = use_samples env k in
    let left = c.args.bound - (c.loop-turn._turn + 1) in
    let same : γ ≡ env = c.loop-turn.invariant.scope in
    let told : τ ≡ used (is_use (is_fresh γ) k) n (use_samples γ k σ) σ = c.in_ok-samples.ensures.store in
    let began : τ ≡ used is n (taken σ) σ = told ∙ ap (λ g. used (is_use (is_fresh g) k) n (use_samples g k σ) σ) same in
    let turns = λ (t : ℕ). while_turns t n is taken (λ s. value_of env s cond) (block_here r env b) in
    on_err _
    (along_with τ.events (turns (suc left) before σ) (turns c.args.bound [] c.args.store.now)
    (ap (λ t. turns t before σ) (sym (one_left c.args.bound c.loop-turn._turn c.loop-turn-test.true)) ∙ c.loop-turn.invariant.runs)
    (turn_from τ.events left n is taken (λ s. value_of env s cond) (block_here r env b) before σ (as_before τ (used is n (taken σ) σ) began) (λ s l. block_from τ.events r env b s l)))

pub statement-returns-in_err-begin-clause-cut : goal.statement-returns-in_err-begin-clause-cut
statement-returns-in_err-begin-clause-cut t c =
    let r = c.args.run.now in
    let env = c.args.scope.now in
    let σ = c.args.store.now in
    let n = c.args.statement.now.id in
    let k = kind_view c.args.statement.now.kind in
    let samples = use_samples env k σ in
    let begins = opened (begun_by (map region_view r.regions.now) n) σ in
    let open_is : c.open_region.new.self ≡ begins = c.in_ok-open_region.ensures.step ∙ ap (λ o. opened o σ) c.begun_by.ensures in
    let υ = used (begins_use (is_fresh env) k) n samples begins in
    let ω = c.begin.new.store in
    let begun_is : begun_at k c.in_ok-uses.uses n c.open_region.new.self ≡ υ =
    ap (λ u. begun_at k u n c.open_region.new.self) c.in_ok-uses.ensures ∙ ap (begun_at k (if is_use (is_fresh env) k then Some samples else None) n) open_is
    ∙ begun_if (is_fresh env) k n samples begins in
    on_err _ (begun_stmt_from ω.events r env n k σ (in_other ω.events (begun_at k c.in_ok-uses.uses n c.open_region.new.self) υ begun_is c.in_err-begin.ensures.cut))

pub statement-returns-in_ok-close_region-in-Went-clause-runs : goal.statement-returns-in_ok-close_region-in-Went-clause-runs
statement-returns-in_ok-close_region-in-Went-clause-runs t c =
    let r = c.args.run.now in
    let env = c.args.scope.now in
    let σ = c.args.store.now in
    let n = c.args.statement.now.id in
    let k = kind_view c.args.statement.now.kind in
    let samples = use_samples env k σ in
    let begins = opened (begun_by (map region_view r.regions.now) n) σ in
    let open_is : c.open_region.new.self ≡ begins = c.in_ok-open_region.ensures.step ∙ ap (λ o. opened o σ) c.begun_by.ensures in
    let υ = used (begins_use (is_fresh env) k) n samples begins in
    let begun_is : c.begin.new.store ≡ υ =
    c.in_ok-begin.ensures.step ∙ ap (λ u. begun_at k u n c.open_region.new.self) c.in_ok-uses.ensures ∙ ap (begun_at k (if is_use (is_fresh env) k then Some samples else None) n) open_is
    ∙ begun_if (is_fresh env) k n samples begins in
    let ends : Store → Store = λ s. closed (ended_by (map region_view r.regions.now) n) (done (ends_use (is_fresh env) k) n samples s) in
    let τ = c.kind.new.store in
    let went : kind_here r env n k υ ≡ Went τ = sym (c.in_ok-other.ensures.runs ∙ ap (kind_here r env n k) begun_is) ∙ ap (λ o. completion_at o τ) c.in-Went.is in
    let end_is : c.end.new.store ≡ done (ends_use (is_fresh env) k) n samples τ = c.in_ok-end-in-Went.ensures.step ∙ ap (λ u. ended_at k u n τ) c.in_ok-uses.ensures
    ∙ ended_if (is_fresh env) k n samples τ in
    let close_is : closed c.ended_by.result c.end.new.store ≡ ends τ = ap (λ o. closed o c.end.new.store) c.ended_by.ensures ∙ ap (closed (ended_by (map region_view r.regions.now) n)) end_is in
    ap Went (c.in_ok-close_region-in-Went.ensures.step ∙ close_is) ∙ ap (finished ends) (sym went)

pub statement-returns-in_err-close_region-in-Went-clause-cut : goal.statement-returns-in_err-close_region-in-Went-clause-cut
statement-returns-in_err-close_region-in-Went-clause-cut t c =
    let r = c.args.run.now in
    let env = c.args.scope.now in
    let σ = c.args.store.now in
    let n = c.args.statement.now.id in
    let k = kind_view c.args.statement.now.kind in
    let samples = use_samples env k σ in
    let begins = opened (begun_by (map region_view r.regions.now) n) σ in
    let open_is : c.open_region.new.self ≡ begins = c.in_ok-open_region.ensures.step ∙ ap (λ o. opened o σ) c.begun_by.ensures in
    let υ = used (begins_use (is_fresh env) k) n samples begins in
    let begun_is : c.begin.new.store ≡ υ =
    c.in_ok-begin.ensures.step ∙ ap (λ u. begun_at k u n c.open_region.new.self) c.in_ok-uses.ensures ∙ ap (begun_at k (if is_use (is_fresh env) k then Some samples else None) n) open_is
    ∙ begun_if (is_fresh env) k n samples begins in
    let ends : Store → Store = λ s. closed (ended_by (map region_view r.regions.now) n) (done (ends_use (is_fresh env) k) n samples s) in
    let τ = c.kind.new.store in
    let went : kind_here r env n k υ ≡ Went τ = sym (c.in_ok-other.ensures.runs ∙ ap (kind_here r env n k) begun_is) ∙ ap (λ o. completion_at o τ) c.in-Went.is in
    let ω = c.close_region.new.self in
    let end_is : c.end.new.store ≡ done (ends_use (is_fresh env) k) n samples τ = c.in_ok-end-in-Went.ensures.step ∙ ap (λ u. ended_at k u n τ) c.in_ok-uses.ensures
    ∙ ended_if (is_fresh env) k n samples τ in
    let close_is : closed c.ended_by.result c.end.new.store ≡ ends τ = ap (λ o. closed o c.end.new.store) c.ended_by.ensures ∙ ap (closed (ended_by (map region_view r.regions.now) n)) end_is in
    on_err _
    (along_with ω.events (Went (ends τ)) (stmt_here r env n k σ) (ap (finished ends) (sym went))
    (in_other ω.events (closed c.ended_by.result c.end.new.store) (ends τ) close_is c.in_err-close_region-in-Went.ensures.cut))

pub statement-returns-in_err-end-in-Went-clause-cut : goal.statement-returns-in_err-end-in-Went-clause-cut
statement-returns-in_err-end-in-Went-clause-cut t c =
    let r = c.args.run.now in
    let env = c.args.scope.now in
    let σ = c.args.store.now in
    let n = c.args.statement.now.id in
    let k = kind_view c.args.statement.now.kind in
    let samples = use_samples env k σ in
    let begins = opened (begun_by (map region_view r.regions.now) n) σ in
    let open_is : c.open_region.new.self ≡ begins = c.in_ok-open_region.ensures.step ∙ ap (λ o. opened o σ) c.begun_by.ensures in
    let υ = used (begins_use (is_fresh env) k) n samples begins in
    let begun_is : c.begin.new.store ≡ υ =
    c.in_ok-begin.ensures.step ∙ ap (λ u. begun_at k u n c.open_region.new.self) c.in_ok-uses.ensures ∙ ap (begun_at k (if is_use (is_fresh env) k then Some samples else None) n) open_is
    ∙ begun_if (is_fresh env) k n samples begins in
    let ends : Store → Store = λ s. closed (ended_by (map region_view r.regions.now) n) (done (ends_use (is_fresh env) k) n samples s) in
    let τ = c.kind.new.store in
    let went : kind_here r env n k υ ≡ Went τ = sym (c.in_ok-other.ensures.runs ∙ ap (kind_here r env n k) begun_is) ∙ ap (λ o. completion_at o τ) c.in-Went.is in
    let ω = c.end.new.store in
    let over = done (ends_use (is_fresh env) k) n samples τ in
    let end_is : ended_at k c.in_ok-uses.uses n τ ≡ over = ap (λ u. ended_at k u n τ) c.in_ok-uses.ensures ∙ ended_if (is_fresh env) k n samples τ in
    on_err _
    (along_with ω.events (Went (ends τ)) (stmt_here r env n k σ) (ap (finished ends) (sym went))
    (closed_from ω.events (ended_by (map region_view r.regions.now) n) over (in_other ω.events (ended_at k c.in_ok-uses.uses n τ) over end_is c.in_err-end-in-Went.ensures.cut)))

pub statement-returns-in_err-open_region-clause-cut : goal.statement-returns-in_err-open_region-clause-cut
statement-returns-in_err-open_region-clause-cut t c =
    let r = c.args.run.now in
    let env = c.args.scope.now in
    let σ = c.args.store.now in
    let n = c.args.statement.now.id in
    let k = kind_view c.args.statement.now.kind in
    let ω = c.open_region.new.self in
    let open_is : opened c.begun_by.result σ ≡ opened (begun_by (map region_view r.regions.now) n) σ = ap (λ o. opened o σ) c.begun_by.ensures in
    on_err _ (opened_from ω.events r env n k σ (in_other ω.events (opened c.begun_by.result σ) (opened (begun_by (map region_view r.regions.now) n) σ) open_is c.in_err-open_region.ensures.cut))

pub while_turns-returns-in_err-samples-clause-cut : goal.while_turns-returns-in_err-samples-clause-cut
while_turns-returns-in_err-samples-clause-cut t c =
    let r = c.args.run.now in
    let env = c.args.scope.now in
    let γ = c.loop-turn.scope in
    let σ = c.loop-turn.store in
    let n = c.args.n in
    let k = kind_view c.args.kind.now in
    let cond = expr_view c.args.condition.now in
    let b = block_view c.args.body.now in
    let before = c.loop-turn.samples in
    let is = is_use (is_fresh env) k in
    let taken = use_samples env k in
    let left = c.args.bound - (c.loop-turn._turn + 1) in
    let same : γ ≡ env = c.loop-turn.invariant.scope in
    let begins : used (is_use (is_fresh γ) k) n (use_samples γ k σ) σ ≡ used is n (taken σ) σ = ap (λ g. used (is_use (is_fresh g) k) n (use_samples g k σ) σ) same in
    let turns = λ (t : ℕ). while_turns t n is taken (λ s. value_of env s cond) (block_here r env b) in
    let ω = c.begin_turn.new.store in
    on_err _
    (along_with ω.events (turns (suc left) before σ) (turns c.args.bound [] c.args.store.now)
    (ap (λ t. turns t before σ) (sym (one_left c.args.bound c.loop-turn._turn c.loop-turn-test.true)) ∙ c.loop-turn.invariant.runs)
    (turn_from ω.events left n is taken (λ s. value_of env s cond) (block_here r env b) before σ
    (in_other ω.events (used (is_use (is_fresh γ) k) n (use_samples γ k σ) σ) (used is n (taken σ) σ) begins c.in_err-samples.ensures.cut)
    (λ s l. block_from ω.events r env b s l)))

pub while_turns-returns-in-Traps-clause-cut : goal.while_turns-returns-in-Traps-clause-cut
while_turns-returns-in-Traps-clause-cut t c =
    let r = c.args.run.now in
    let env = c.args.scope.now in
    let γ = c.loop-turn.scope in
    let σ = c.loop-turn.store in
    let τ = c.begin_turn.new.store in
    let n = c.args.n in
    let k = kind_view c.args.kind.now in
    let cond = expr_view c.args.condition.now in
    let b = block_view c.args.body.now in
    let before = c.loop-turn.samples in
    let is = is_use (is_fresh env) k in
    let taken = use_samples env k in
    let same : γ ≡ env = c.loop-turn.invariant.scope in
    let told : τ ≡ used (is_use (is_fresh γ) k) n (use_samples γ k σ) σ = c.in_ok-samples.ensures.store in
    let began : τ ≡ used is n (taken σ) σ = told ∙ ap (λ g. used (is_use (is_fresh g) k) n (use_samples g k σ) σ) same in
    let turns = λ (t : ℕ). while_turns t n is taken (λ s. value_of env s cond) (block_here r env b) in
    let found : value_of env (used is n (taken σ) σ) cond ≡ Traps c.in-Traps.trapped =
    ap (λ s. value_of env s cond) (sym began) ∙ ap (λ g. value_of g τ cond) (sym same) ∙ sym c.in_ok-trapped.ensures ∙ ap got_view c.in-Traps.is in
    let ω = c.trap.new.self in
    on_err_weaker c.trap.result
    (λ (cut : Oldest ω.events (events_in (trapped c.in-Traps.trapped n τ))). along_with ω.events (trapped c.in-Traps.trapped n τ) (turns c.args.bound [] c.args.store.now)
    (ap (trapped c.in-Traps.trapped n) began
    ∙ sym (while_traps n is taken (λ s. value_of env s cond) (block_here r env b) c.args.bound c.loop-turn._turn before σ c.in-Traps.trapped c.loop-turn-test.true found)
    ∙ c.loop-turn.invariant.runs) cut)
    c.trap.ensures.cut

pub while_turns-returns-then-is_zero-clause-cut : goal.while_turns-returns-then-is_zero-clause-cut
while_turns-returns-then-is_zero-clause-cut t c =
    let r = c.args.run.now in
    let env = c.args.scope.now in
    let γ = c.loop-turn.scope in
    let σ = c.loop-turn.store in
    let τ = c.begin_turn.new.store in
    let n = c.args.n in
    let k = kind_view c.args.kind.now in
    let cond = expr_view c.args.condition.now in
    let b = block_view c.args.body.now in
    let before = c.loop-turn.samples in
    let is = is_use (is_fresh env) k in
    let taken = use_samples env k in
    let same : γ ≡ env = c.loop-turn.invariant.scope in
    let told : τ ≡ used (is_use (is_fresh γ) k) n (use_samples γ k σ) σ = c.in_ok-samples.ensures.store in
    let began : τ ≡ used is n (taken σ) σ = told ∙ ap (λ g. used (is_use (is_fresh g) k) n (use_samples g k σ) σ) same in
    let gathered : c.in_ok-samples.samples ≡ union before (use_samples γ k σ) = c.in_ok-samples.ensures.samples in
    let all : c.in_ok-samples.samples ≡ union before (taken σ) = gathered ∙ ap (λ g. union before (use_samples g k σ)) same in
    let counts : c.in_ok-is_use.is_use ≡ is = c.in_ok-is_use.ensures in
    let turns = λ (t : ℕ). while_turns t n is taken (λ s. value_of env s cond) (block_here r env b) in
    let found : value_of env (used is n (taken σ) σ) cond ≡ Val c.in-Value.value =
    ap (λ s. value_of env s cond) (sym began) ∙ ap (λ g. value_of g τ cond) (sym same) ∙ sym c.in_ok-trapped.ensures ∙ ap got_view c.in-Value.is in
    let ends = while_ends n is taken (λ s. value_of env s cond) (block_here r env b) c.args.bound c.loop-turn._turn before σ c.in-Value.value c.loop-turn-test.true found
    (sym c.is_zero.ensures ∙ c.if-is_zero.true) in
    let ω = c.end_turns.new.store in
    on_err_weaker c.end_turns.result
    (λ (cut : Oldest ω.events (done c.in_ok-is_use.is_use n c.in_ok-samples.samples τ).events). along_with ω.events (Went (done c.in_ok-is_use.is_use n c.in_ok-samples.samples τ))
    (turns c.args.bound [] c.args.store.now)
    (ap (λ u. Went (done u n c.in_ok-samples.samples τ)) counts
    ∙ ap (λ s. Went (done is n s τ)) all
    ∙ ap (λ s. Went (done is n (union before (taken σ)) s)) began
    ∙ sym ends
    ∙ c.loop-turn.invariant.runs) cut)
    c.end_turns.ensures.cut

pub kind-returns-in-Consistent-clause-cut : goal.kind-returns-in-Consistent-clause-cut
unfolding X.roll-StmtKind denote.Hole.Carrier.roll
kind-returns-in-Consistent-clause-cut t c =
    let r = c.args.run.now in
    let env = c.args.scope.now in
    let σ = c.args.store.now in
    let n = c.args.n in
    let x = c.in-Consistent.name in
    let id = c.in-Consistent.id in
    let id_is : to_z w32 (of_z w32 id) ≡ id = search rules in
    let view : kind_view c.args.kind.now ≡ consistent x id = ap kind_view c.in-Consistent.is ∙ fold-roll-StmtKind TKind TBlock TStmt kind_step block_step stmt_step (StmtKind-F.Consistent x id) in
    let events = c.tag.new.store.events in
    on_err_weaker c.tag.result
    (λ (cut : Oldest events (events_in (kind_here r env n (consistent x (to_z w32 (of_z w32 id))) σ))).
    along_with events (kind_here r env n (consistent x (to_z w32 (of_z w32 id))) σ) (kind_here r env n (kind_view c.args.kind.now) σ)
    (ap (λ z. kind_here r env n (consistent x z) σ) id_is ∙ ap (λ k. kind_here r env n k σ) (sym view)) cut)
    c.tag.ensures.cut
