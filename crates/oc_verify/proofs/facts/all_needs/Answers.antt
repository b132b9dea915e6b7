use Rattle.std.proofs.Common.{rules, ◌≡◌, ◌≤◌, ◌<◌, ◌++◌, ◌∷◌, [], get_or, length, ap, sym, ◌∙◌}
use Rattle.std.specs.Prelude.{map, take}
use Rattle.std.proofs.lemmas.List.{map-append, take_all, take_more}
use Rattle.oc_verify.specs.Facts.{needs}
use Rattle.oc_verify.proofs.facts.all_needs.Goals as goal

pub loop-targets-preserved : goal.loop-targets-preserved
loop-targets-preserved c =
    let regions = c.args.regions.now in
    let i = c.loop-targets.targets-index in
    let one = c.targets-item.result in
    let low : i < length regions = search rules in
    let read : get_or regions i one ≡ one = search rules in
    let next = take_more regions i one low ∙ ap (λ r. take i regions ++ r ∷ []) read in
    let value = c.needs.ensures.exact ∙ ap needs c.deref.ensures.value in
    c.in_ok-push.ensures.items ∙ (λ j. c.loop-targets.invariant j ++ value j ∷ [])
    ∙ sym (ap (λ rs. map needs (map (λ r. r.items) rs)) next ∙ ap (map needs) (map-append (λ r. r.items) (take i regions) (one ∷ [])) ∙ map-append needs (map (λ r. r.items) (take i regions)) (one.items ∷ []))

pub returns : goal.returns
returns c =
    let regions = c.args.regions.now in
    let i = c.loop-targets.targets-index in
    let past : length regions ≤ i = search rules in
    c.loop-targets.invariant ∙ ap (λ rs. map needs (map (λ r. r.items) rs)) (take_all i regions past)
