use Rattle.std.proofs.Common.{◌≡◌, refl, ap, sym, ◌∙◌, map}
use Rattle.oc_tree.specs.View.{expr_view, kind_view}
use Rattle.oc_tree.specs.Regions.{region_view}
use Rattle.oc_meaning.specs.Eval.{Val, value_of}
use Rattle.oc_meaning.specs.Uses.{is_fresh, is_use, use_samples}
use Rattle.oc_meaning.specs.Exec.{Returned, closed, done, ended_by}
use Rattle.oc_interpreter.specs.Runs.{ended}
use Rattle.oc_interpreter.specs.Seen.{got_view}
use Rattle.oc_interpreter.proofs.Cutting.{all_of_them, found_from, in_other, on_err, returned_from, returns_from}
use Rattle.oc_interpreter.proofs.FreshNames.{done_if}
use Rattle.oc_interpreter.proofs.simple.return_value.Goals as goal

pub returns-in_err-kind-clause-cut : goal.returns-in_err-kind-clause-cut
returns-in_err-kind-clause-cut c =
    let σ = c.args.store.now in
    let env = c.args.scope.now in
    let n = c.args.n in
    let k = kind_view c.args.kind.now in
    on_err _ (returns_from σ.events (value_of env σ (expr_view c.args.value.now)) n (ended_by (map region_view c.args.run.now.regions.now) n) (is_use (is_fresh env) k)
    (use_samples env k σ) σ (all_of_them σ.events σ.events refl))

pub returns-in_err-uses-in-Value-clause-cut : goal.returns-in_err-uses-in-Value-clause-cut
returns-in_err-uses-in-Value-clause-cut c =
    let σ = c.args.store.now in
    let env = c.args.scope.now in
    let n = c.args.n in
    let k = kind_view c.args.kind.now in
    on_err _ (returns_from σ.events (value_of env σ (expr_view c.args.value.now)) n (ended_by (map region_view c.args.run.now.regions.now) n) (is_use (is_fresh env) k)
    (use_samples env k σ) σ (all_of_them σ.events σ.events refl))

pub returns-in_err-end_use-in-Value-clause-cut : goal.returns-in_err-end_use-in-Value-clause-cut
returns-in_err-end_use-in-Value-clause-cut c =
    let σ = c.args.store.now in
    let env = c.args.scope.now in
    let n = c.args.n in
    let k = kind_view c.args.kind.now in
    let b = is_use (is_fresh env) k in
    let samples = use_samples env k σ in
    let τ = c.end_use.new.store in
    let g = value_of env σ (expr_view c.args.value.now) in
    let found : g ≡ Val c.in-Value.found = sym c.in_ok-kind.ensures ∙ ap got_view c.in-Value.is in
    let told : ended c.in_ok-uses-in-Value.uses n σ ≡ done b n samples σ = ap (λ u. ended u n σ) c.in_ok-uses-in-Value.ensures ∙ done_if b n samples σ in
    on_err _ (returned_from τ.events g c.in-Value.found n (ended_by (map region_view c.args.run.now.regions.now) n) b samples σ found
    (in_other τ.events (ended c.in_ok-uses-in-Value.uses n σ) (done b n samples σ) told c.in_err-end_use-in-Value.ensures.cut))

pub returns-in_err-close_region-in-Value-clause-cut : goal.returns-in_err-close_region-in-Value-clause-cut
returns-in_err-close_region-in-Value-clause-cut c =
    let σ = c.args.store.now in
    let env = c.args.scope.now in
    let n = c.args.n in
    let k = kind_view c.args.kind.now in
    let b = is_use (is_fresh env) k in
    let samples = use_samples env k σ in
    let τ = c.close_region.new.self in
    let g = value_of env σ (expr_view c.args.value.now) in
    let region = ended_by (map region_view c.args.run.now.regions.now) n in
    let found : g ≡ Val c.in-Value.found = sym c.in_ok-kind.ensures ∙ ap got_view c.in-Value.is in
    let told : c.end_use.new.store ≡ done b n samples σ = c.in_ok-end_use-in-Value.ensures.step ∙ ap (λ u. ended u n σ) c.in_ok-uses-in-Value.ensures ∙ done_if b n samples σ in
    let over : closed c.ended_by.result c.end_use.new.store ≡ closed region (done b n samples σ) = ap (λ o. closed o c.end_use.new.store) c.ended_by.ensures ∙ ap (closed region) told in
    on_err _
    (found_from τ.events g c.in-Value.found n σ (λ v. Returned v (closed region (done b n samples σ))) found
    (in_other τ.events (closed c.ended_by.result c.end_use.new.store) (closed region (done b n samples σ)) over c.in_err-close_region-in-Value.ensures.cut))
