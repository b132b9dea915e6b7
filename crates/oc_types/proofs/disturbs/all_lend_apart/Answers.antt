use Rattle.std.proofs.Common.{◌≡◌, ◌+◌, ◌∷◌, true, false, drop, ap, sym, ◌∙◌, arith}
use Rattle.std.specs.Prelude.{◌==◌, count_by}
use Rattle.std.specs.Str.{bytes_eq}
use Rattle.std.proofs.lemmas.Grind.{common_steps}
use Rattle.oc_reach.specs.Views.{calls_seen}
use Rattle.oc_tree.specs.Rules.{call_lends, lends_apart}
use Rattle.oc_tree.specs.View.{call_view, kind_view, program_view}
use Rattle.oc_types.proofs.Tested.{all_by}
use Rattle.oc_types.proofs.disturbs.all_lend_apart.Goals as goal

pub returns-then-not-branch : goal.returns-then-not-branch
returns-then-not-branch c =
    let p = program_view c.args.top.now in
    let k = kind_view c.args.statement.now in
    let i = c.loop-call.call-index in
    let l = c.calls-call-items.result.now in
    let item = c.call-item.is in
    let called = call_view c.call-item.result.now in
    let e : drop i l ≡ c.call-item.result ∷ drop (i + 1) l = grind (arith, common_steps) in
    let single : c.in_ok-lends_single.field-0 ≡ lends_apart p k called =
    c.in_ok-lends_single.ensures ∙ ap (λ ns. call_lends (λ x. count_by (bytes_eq x) ns == 1) p called) c.requires in
    sym (all_by (lends_apart p k) called _ _ false (ap calls_seen e) (sym single ∙ c.if-not-branch.true)) ∙ c.loop-call.invariant

pub loop-call-preserved : goal.loop-call-preserved
loop-call-preserved c =
    let p = program_view c.args.top.now in
    let k = kind_view c.args.statement.now in
    let i = c.loop-call.call-index in
    let l = c.calls-call-items.result.now in
    let item = c.call-item.is in
    let called = call_view c.call-item.result.now in
    let e : drop i l ≡ c.call-item.result ∷ drop (i + 1) l = grind (arith, common_steps) in
    let single : c.in_ok-lends_single.field-0 ≡ lends_apart p k called =
    c.in_ok-lends_single.ensures ∙ ap (λ ns. call_lends (λ x. count_by (bytes_eq x) ns == 1) p called) c.requires in
    sym (all_by (lends_apart p k) called _ _ true (ap calls_seen e) (sym single ∙ c.if-not-branch.false)) ∙ c.loop-call.invariant
