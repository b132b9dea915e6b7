use Rattle.std.proofs.Common.{◌≡◌, sym, ap, ◌∙◌, [], ◌∷◌, ◌++◌, Some, None}
use Rattle.std.specs.Prelude.{position, if◌then◌else◌}
use Rattle.oc_steps.specs.Fold.{is_set}
use Rattle.oc_judge.specs.Ways.{instance_view, sets_view}
use Rattle.oc_judge.proofs.Puts.{put_at, put_by}
use Rattle.oc_judge.proofs.sets.put.Goals as goal

pub returns-in-Some : goal.returns-in-Some
returns-in-Some c =
    let xs = c.args.sets.now.items in
    let at : Some c.in-Some.place ≡ position (λ i. is_set c.args.set (instance_view i)) xs =
    sym c.in-Some.is ∙ c.place_of.ensures.place ∙ ap (position (λ i. is_set c.args.set (instance_view i))) c.deref.ensures.value in
    ap (λ o. sets_view (put_at o c.args.last xs)) at ∙ put_by c.args.set c.args.last xs

pub returns-in-None : goal.returns-in-None
returns-in-None c =
    let xs = c.args.sets.now.items in
    let at : None ≡ position (λ i. is_set c.args.set (instance_view i)) xs =
    sym c.in-None.is ∙ c.place_of.ensures.place ∙ ap (position (λ i. is_set c.args.set (instance_view i))) c.deref.ensures.value in
    ap sets_view (c.push.ensures.items ∙ ap (λ b. if b then xs ++ c.args.last ∷ [] else xs) (c.push.ensures.succeeds c.requires)) ∙ ap (λ o. sets_view (put_at o c.args.last xs)) at ∙ put_by c.args.set c.args.last xs
