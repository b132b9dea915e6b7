use Rattle.std.proofs.Common.{◌≡◌, refl, ◌∙◌, ap, [], unwrap_or}
use Rattle.oc_tree.specs.View.{kind_view}
use Rattle.oc_tree.specs.Samples.{union}
use Rattle.oc_meaning.specs.Uses.{is_fresh, is_use, use_samples}
use Rattle.oc_meaning.specs.Exec.{used}
use Rattle.oc_interpreter.specs.Runs.{begun}
use Rattle.oc_interpreter.proofs.Cutting.{as_before, in_other, on_err, used_from}
use Rattle.oc_interpreter.proofs.FreshNames.{taken_samples, used_if}
use Rattle.oc_interpreter.proofs.marks.begin_turn.Goals as goal

pub returns-clause-samples : goal.returns-clause-samples
returns-clause-samples c =
    let taken : c.in_ok-taken.taken ≡ unwrap_or c.in_ok-uses.uses [] = c.in_ok-taken.ensures in
    let all : c.in_ok-all.all ≡ union c.args.before c.in_ok-taken.taken = c.in_ok-all.ensures in
    all
    ∙ ap (union c.args.before)
    (taken
    ∙ ap (λ o. unwrap_or o []) c.in_ok-uses.ensures
    ∙ taken_samples c.args.scope.now c.args.store.now (kind_view c.args.kind.now))

pub returns-in_err-uses-clause-cut : goal.returns-in_err-uses-clause-cut
returns-in_err-uses-clause-cut c =
    let σ = c.args.store.now in
    let k = kind_view c.args.kind.now in
    on_err _ (used_from σ.events (is_use (is_fresh c.args.scope.now) k) c.args.n (use_samples c.args.scope.now k σ) σ (as_before σ σ refl))

pub returns-in_err-taken-clause-cut : goal.returns-in_err-taken-clause-cut
returns-in_err-taken-clause-cut c =
    let σ = c.args.store.now in
    let k = kind_view c.args.kind.now in
    on_err _ (used_from σ.events (is_use (is_fresh c.args.scope.now) k) c.args.n (use_samples c.args.scope.now k σ) σ (as_before σ σ refl))

pub returns-in_err-all-clause-cut : goal.returns-in_err-all-clause-cut
returns-in_err-all-clause-cut c =
    let σ = c.args.store.now in
    let k = kind_view c.args.kind.now in
    on_err _ (used_from σ.events (is_use (is_fresh c.args.scope.now) k) c.args.n (use_samples c.args.scope.now k σ) σ (as_before σ σ refl))

pub returns-in_err-begin_use-clause-cut : goal.returns-in_err-begin_use-clause-cut
returns-in_err-begin_use-clause-cut c =
    let σ = c.args.store.now in
    let n = c.args.n in
    let k = kind_view c.args.kind.now in
    let is = is_use (is_fresh c.args.scope.now) k in
    let samples = use_samples c.args.scope.now k σ in
    let begun_is : begun c.in_ok-uses.uses n σ ≡ used is n samples σ = ap (λ o. begun o n σ) c.in_ok-uses.ensures ∙ used_if is n samples σ in
    on_err _ (in_other c.begin_use.new.store.events (begun c.in_ok-uses.uses n σ) (used is n samples σ) begun_is c.in_err-begin_use.ensures.cut)

pub returns-clause-store : goal.returns-clause-store
returns-clause-store c =
    let σ = c.args.store.now in
    let n = c.args.n in
    let k = kind_view c.args.kind.now in
    c.in_ok-begin_use.ensures.step
    ∙ ap (λ o. begun o n σ) c.in_ok-uses.ensures
    ∙ used_if (is_use (is_fresh c.args.scope.now) k) n (use_samples c.args.scope.now k σ) σ
