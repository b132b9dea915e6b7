use Rattle.std.proofs.Common.{rules, ◌≡◌, ◌∙◌, ◌-ℤ◌, true, ap}
use Rattle.std.specs.Prelude.{int_lt, unsigned_abs}
use Rattle.oc_tree.specs.Tree.{block, no_stmts}
use Rattle.oc_tree.specs.View.{block_view, stmts_view}
use Rattle.oc_tree.specs.declared.tree.Block.{out-Block, the_lemmas}
use Rattle.oc_judge.proofs.Skips.{has_turns, no_statements}
use Rattle.oc_judge.proofs.passes.empty_turns.Goals as goal

pub returns-in-None : goal.returns-in-None
returns-in-None c =
    let t = c.args.turns.now in
    let body = out-Block t.body.now in
    let opened : block_view t.body.now ≡ block body.id (stmts_view body.statements.items) = search (rules, the_lemmas) in
    let none : stmts_view body.statements.items ≡ no_stmts = no_statements body.statements.items (search rules) in
    let times : c.from.result ≡ unsigned_abs (t.to -ℤ t.next) = search rules in
    let more : int_lt t.next t.to ≡ true = search rules in
    has_turns t body.id c.from.result (opened ∙ ap (block body.id) none) times more
