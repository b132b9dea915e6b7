use Rattle.std.proofs.Common.{◌≡◌, ℕ, ◌+◌, ◌-◌, ◌*◌, ◌≤◌, [], ◌∷◌, ◌-ℤ◌, length, drop}
use Rattle.oc_tree.specs.View.{block_view, expr_view, kind_view, stmts_view}
use Rattle.oc_tree.specs.declared.tree.Block.{size-Block}
use Rattle.oc_tree.specs.declared.tree.Stmt.{size-Stmt}
use Rattle.oc_tree.specs.declared.tree.StmtKind.{size-StmtKind}
use Rattle.oc_tree.specs.Weight.{count_of}
use Rattle.oc_meaning.specs.Eval.{value_of}
use Rattle.oc_meaning.specs.Uses.{is_fresh, is_use, use_samples}
use Rattle.oc_meaning.specs.Exec.{for_turns, in_turn, while_turns}
use Rattle.oc_interpreter.specs.Runs.{block_here, stmts_here, stmts_in}
use Rattle.oc_interpreter.specs.declared.running.Running.{Running}
use Rattle.oc_interpreter.proofs.Sizes.{largest}
use Rattle.oc_interpreter.proofs.statements.+run.Given as goal

-- More than any body with its rank, for each call that may still go deeper.
abbrev deep : Running → ℕ
deep r = r.depth * (3 * largest r.program.now.functions.items + 2)

abbrev pub decreases-block : goal.decreases-block
decreases-block l = deep l.run.now + (3 * size-Block l.block.now + 1)

abbrev pub decreases-statements : goal.decreases-statements
decreases-statements l = deep l.run.now + 3 * size-Block l.block.now

abbrev pub decreases-statement : goal.decreases-statement
decreases-statement l = deep l.run.now + 3 * size-Stmt l.statement.now

abbrev pub decreases-kind : goal.decreases-kind
decreases-kind l = deep l.run.now + 3 * size-StmtKind l.kind.now

abbrev pub decreases-for_turns : goal.decreases-for_turns
decreases-for_turns l = deep l.run.now + (3 * size-Block l.body.now + 2)

abbrev pub decreases-while_turns : goal.decreases-while_turns
decreases-while_turns l = deep l.run.now + (3 * size-Block l.body.now + 2)

abbrev pub decreases-right : goal.decreases-right
decreases-right l = deep l.run.now + 2

abbrev pub decreases-call : goal.decreases-call
decreases-call l = deep l.run.now + 1

abbrev pub decreases-call_to : goal.decreases-call_to
decreases-call_to l = deep l.run.now

-- What is left of the statements does here what all of them do at the start; and the variables that were visible
-- before them are the oldest ones.
abbrev pub invariant-statements-loop-inner : goal.invariant-statements-loop-inner
invariant-statements-loop-inner l = record {
  runs : stmts_here l.run l.scope (stmts_view (drop l.inner-index l.all)) l.store ≡ stmts_here l.run l.initial.scope (stmts_in (block_view l.block)) l.initial.store;
  seen : length l.initial.scope ≤ length l.scope;
  scope : drop (length l.scope - length l.initial.scope) l.scope ≡ l.initial.scope;
  done : l.done ≡ l.inner-index;
}

abbrev pub invariant-for_turns-loop-turn : goal.invariant-for_turns-loop-turn
invariant-for_turns-loop-turn l = record {
  runs : for_turns (count_of (l.to -ℤ l.turn)) l.turn (λ i. block_here l.run (in_turn l.name i ∷ l.initial.scope) (block_view l.body)) l.store
      ≡ for_turns (count_of (l.to -ℤ l.from)) l.from (λ i. block_here l.run (in_turn l.name i ∷ l.initial.scope) (block_view l.body)) l.initial.store;
  scope : l.scope ≡ l.initial.scope;
}

abbrev pub decreases-for_turns-loop-turn : goal.decreases-for_turns-loop-turn
decreases-for_turns-loop-turn l = count_of (l.to -ℤ l.turn)

abbrev pub invariant-while_turns-loop-turn : goal.invariant-while_turns-loop-turn
invariant-while_turns-loop-turn l = record {
  runs : while_turns (l.bound - l._turn) l.n (is_use (is_fresh l.initial.scope) (kind_view l.kind)) (use_samples l.initial.scope (kind_view l.kind))
      (λ τ. value_of l.initial.scope τ (expr_view l.condition)) (block_here l.run l.initial.scope (block_view l.body)) l.samples l.store
      ≡ while_turns l.bound l.n (is_use (is_fresh l.initial.scope) (kind_view l.kind)) (use_samples l.initial.scope (kind_view l.kind))
      (λ τ. value_of l.initial.scope τ (expr_view l.condition)) (block_here l.run l.initial.scope (block_view l.body)) [] l.initial.store;
  scope : l.scope ≡ l.initial.scope;
}
