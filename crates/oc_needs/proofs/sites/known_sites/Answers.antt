use Rattle.std.proofs.Common.{◌<◌, ◌∙◌, sym, subst}
use Rattle.std.proofs.lemmas.List.{length-map}
use Rattle.std.proofs.lemmas.Option.{IfSome_then}
use Rattle.oc_needs.specs.CodeView.{sites_view}
use Rattle.oc_needs.proofs.SiteTables.{known_is}
use Rattle.oc_needs.proofs.sites.known_sites.Goals as goal

pub returns-in-Some : goal.returns-in-Some
returns-in-Some c =
    let body = c.args.body.now in
    let rows = body.looped.now in
    let place = c.in-Some.place in
    let own = c.as_slice.ensures.value ∙ c.requires.variables in
    IfSome_then c.sites_at-known.result c.sites_at-known.ensures
    (λ s h. known_is body.summaries.now.program body.function (sites_view rows) _ place c.args.x s.now c.requires.looped own
    (subst (λ n. place < n) (sym (length-map rows (λ v. v.items))) h.0) c.in-Some.ensures.1 h.1)
