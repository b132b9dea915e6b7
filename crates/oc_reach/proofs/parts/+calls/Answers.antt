use Rattle.std.proofs.Common.{◌≡◌, ◌+◌, ◌≤◌, ◌++◌, ◌∷◌, [], List, ℕ, length, drop, ap, sym, ◌∙◌, append-nil, append_assoc, arith}
use Rattle.std.proofs.lemmas.Grind.{common_steps}
use Rattle.std.proofs.lemmas.List.{drop_all, map_push}
use Rattle.oc_tree.specs.Tree.{TArg, TArgs, TCall, TExpr, call, more_args}
use Rattle.oc_tree.specs.View.{arg_view, args_view, call_view, arg_step, expr_step, call_step}
use Rattle.oc_tree.specs.Calls.{arg_calls, args_calls, call_calls}
use Rattle.oc_tree.specs.declared.tree.Arg.{Arg}
use Rattle.oc_tree.specs.declared.tree.Call.{Call, out-Call, fold_out-Call}
use Rattle.oc_reach.specs.Views.{calls_seen}
use Rattle.oc_reach.proofs.parts.+calls.Goals as goal

-- one argument more
args_more : (front new whole : List TCall) (a : TArg) (args rest : TArgs) → args ≡ more_args a rest → new ≡ front ++ arg_calls a → front ++ args_calls args ≡ whole → new ++ args_calls rest ≡ whole
args_more front new whole a args rest is grown all =
    ap (λ l. l ++ args_calls rest) grown
    ∙ append_assoc front (arg_calls a) (args_calls rest)
    ∙ sym (ap (λ x. front ++ args_calls x) is)
    ∙ all

-- a call behind those in its arguments
call_is : (old front new : List TCall) (c : Call) (l : List Arg) → l ≡ (out-Call c).args.items → front ≡ old ++ args_calls (args_view l) → new ≡ front ++ call_view c ∷ []
    → new ≡ old ++ call_calls (call_view c)
call_is old front new c l e inside push =
    let args = args_view (out-Call c).args.items in
    let view : call_view c ≡ call (out-Call c).function args = fold_out-Call TArg TExpr TCall arg_step expr_step call_step c in
    push
    ∙ ap (λ p. p ++ call_view c ∷ []) (inside ∙ ap (λ x. old ++ args_calls (args_view x)) e)
    ∙ append_assoc old (args_calls args) (call_view c ∷ [])
    ∙ ap (λ v. old ++ (args_calls args ++ v ∷ [])) view
    ∙ sym (ap (λ v. old ++ call_calls v) view)

pub call_calls-loop-arg-preserved : goal.call_calls-loop-arg-preserved
call_calls-loop-arg-preserved t c =
    let i = c.loop-arg.arg-index in
    let l = c.deref-arg-items.result.now in
    let x = c.arg-item.result in
    let item = c.arg-item.is in
    let e : drop i l ≡ c.arg-item.result ∷ drop (i + 1) l = grind (arith, common_steps) in
    args_more (calls_seen c.loop-arg.calls.items) _ _ (arg_view x) _ _ (ap args_view e) c.in_ok-arg_calls.ensures c.loop-arg.invariant

pub call_calls-returns : goal.call_calls-returns
call_calls-returns t c =
    let i = c.loop-arg.arg-index in
    let l = c.deref-arg-items.result.now in
    let calls = calls_seen c.loop-arg.calls.items in
    let h : length l ≤ i = omega arith in
    let none = ap (λ d. calls ++ args_calls (args_view d)) (drop_all i l h) in
    let push : calls_seen c.push.new.self.items ≡ calls ++ call_view c.args.call.now ∷ [] = ap calls_seen c.in_ok-push.ensures.items ∙ map_push (λ x. call_view x.now) c.loop-arg.calls.items c.args.call in
    call_is (calls_seen c.args.calls.now.items) calls _ c.args.call.now l c.deref-arg-items.ensures.value (sym (append-nil calls) ∙ sym none ∙ c.loop-arg.invariant) push
