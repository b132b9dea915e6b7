use Rattle.std.proofs.Common.{◌≡◌, ◌<◌, ◌∙◌, true, sym, subst}
use Rattle.std.specs.Prelude.{IfSome}
use Rattle.oc_tree.specs.Checked.{IsChecked, TChecked}
use Rattle.oc_tree.specs.Reach.{linked, reaches_some}
use Rattle.oc_reach.specs.Marked.{is_in}
use Rattle.oc_regcheck.specs.Enough.{comes_to}
use Rattle.oc_regcheck.proofs.Open.{within, marked_is}
use Rattle.oc_regcheck.proofs.guard.from_main.Goals as goal

pub new-requires : goal.new-requires
new-requires c =
    let m = c.args.effects.now in
    let checked = subst (λ (t : TChecked). IsChecked t.program t.groups) c.checked.ensures c.program-program.ensures.checked in
    λ u v e. subst (λ n. (u < n) × (v < n)) (sym c.functions-bound.ensures)
    (within m.program m.groups checked c.args.blocks.now u v (subst (λ l. linked l u v ≡ true) c.in_ok-links.ensures e))

pub returns-clause-marked : goal.returns-clause-marked
returns-clause-marked c = λ f. (
    let links = c.in_ok-links.links.items in
    let bound = c.functions-bound.result in
    let main = c.place_of_main.result in
    c.in_ok-back.ensures.marked f
    ∙ (λ i. reaches_some (c.in_ok-reach.ensures i).0 (c.in_ok-reach.ensures i).1 (is_in (c.in_ok-marks.ensures i).0) f)
    ∙ marked_is links bound main f (subst (λ n. IfSome main (λ k. k < n)) (sym c.functions-bound.ensures) c.place_of_main.ensures.below)
    ∙ (λ i. comes_to (c.in_ok-links.ensures i) (c.functions-bound.ensures i) (c.place_of_main.ensures.place i) f))
