use Rattle.std.proofs.Common.{◌≡◌, ◌+◌, [], ◌∷◌, ◌++◌, map, drop, ap, sym, ◌∙◌, arith}
use Rattle.std.proofs.lemmas.List.{append-nil, drop_all, map-append}
use Rattle.oc_tree.specs.View.{arg_view, args_view}
use Rattle.oc_meaning.specs.Exec.{Passes, Breaks, arg_first, args_of, passed_first}
use Rattle.oc_interpreter.specs.Seen.{passed_view}
use Rattle.oc_interpreter.specs.Runs.{before}
use Rattle.oc_meaning.proofs.Passings.{behind, behind_first, arg_more}
use Rattle.oc_interpreter.proofs.arguments.pass_arguments.Goals as goal

pub returns-in-Err : goal.returns-in-Err
returns-in-Err c =
    let env = c.args.scope.now in
    let σ = c.args.store.now in
    let xs = c.args.args.now in
    let i = c.loop-arg.arg-index in
    let rest = args_of env σ (args_view (drop (i + 1) xs)) in
    let first : arg_first env σ (arg_view c.arg-item.result) rest ≡ Breaks c.in-Err.kind = c.in_ok-one.ensures rest ∙ ap (λ r. before r rest) c.in-Err.is in
    sym (ap (behind (map passed_view c.loop-arg.passed.items)) (arg_more env σ xs i c.arg-item.result c.loop-arg-test.true c.arg-item.is ∙ first)) ∙ c.loop-arg.invariant

pub loop-arg-preserved : goal.loop-arg-preserved
loop-arg-preserved c =
    let env = c.args.scope.now in
    let σ = c.args.store.now in
    let xs = c.args.args.now in
    let i = c.loop-arg.arg-index in
    let ps = map passed_view c.loop-arg.passed.items in
    let p = passed_view c.in-Ok.one in
    let rest = args_of env σ (args_view (drop (i + 1) xs)) in
    let first : arg_first env σ (arg_view c.arg-item.result) rest ≡ passed_first p rest = c.in_ok-one.ensures rest ∙ ap (λ r. before r rest) c.in-Ok.is in
    let items : map passed_view c.push_back.new.self.items ≡ ps ++ p ∷ [] =
    ap (map passed_view) c.in_ok-push_back-in-Ok.ensures.items ∙ map-append passed_view c.loop-arg.passed.items (c.in-Ok.one ∷ []) in
    ap (λ l. behind l rest) items
    ∙ behind_first ps p rest
    ∙ sym (ap (behind ps) (arg_more env σ xs i c.arg-item.result c.loop-arg-test.true c.arg-item.is ∙ first))
    ∙ c.loop-arg.invariant

pub returns : goal.returns
returns c =
    let env = c.args.scope.now in
    let σ = c.args.store.now in
    let xs = c.args.args.now in
    let i = c.loop-arg.arg-index in
    let ps = map passed_view c.loop-arg.passed.items in
    let done : drop i xs ≡ [] = drop_all i xs (omega arith) in
    ap Passes (sym (append-nil ps))
    ∙ sym (ap (λ l. behind ps (args_of env σ (args_view l))) done)
    ∙ c.loop-arg.invariant
