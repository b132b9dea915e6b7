use Rattle.std.proofs.Common.{◌≡◌, ◌<◌, ◌∙◌, ap, sym, subst, length, [], rules}
use Rattle.std.proofs.Math.ListN.{get_or}
use Rattle.std.proofs.lemmas.List.{length-map}
use Rattle.oc_needs.specs.Code.{local_at}
use Rattle.oc_needs.specs.CodeView.{local_view, sites_view, tables_view, IsLooped}
use Rattle.oc_needs.proofs.Froms.{get_map_from, get_of_map, length_map_from}
use Rattle.oc_needs.proofs.SiteTables.{table_looped}
use Rattle.oc_needs.proofs.local.body_at.Goals as goal

pub returns-clause-body : goal.returns-clause-body
returns-clause-body c =
    let p = c.args.summaries.now.program in
    let xs = c.args.locals.now in
    let i = c.args.function in
    let n = c.in_ok-function.function in
    let many : length xs ≡ length p.functions = sym (length-map xs local_view) ∙ (ap length c.requires.locals ∙ length_map_from (local_at p) 0 (length p.functions)) in
    let few : i < length p.functions = subst (λ k. i < k) many c.requires.function in
    let number : n ≡ i = c.in_ok-function.ensures in
    let x = c.index-locals-function.result in
    let read : x ≡ get_or xs i x = search rules in
    let same : local_view x ≡ local_at p n =
    sym (get_of_map local_view xs i x (local_at p 0) c.requires.function read)
    ∙ (ap (λ ls. get_or ls i (local_at p 0)) c.requires.locals ∙ (get_map_from (local_at p) (length p.functions) i (local_at p 0) few ∙ ap (local_at p) (sym number))) in
    let known : IsLooped p i (get_or (tables_view c.args.looped.now) i []) =
    table_looped p (tables_view c.args.looped.now) (length c.args.looped.now) i c.requires.looped (sym (length-map c.args.looped.now (λ v. sites_view v.items))) in
    record {
      here = subst (λ k. k < length p.functions) (sym number) few;
      variables = ap (λ l. l.variables) same;
      sources = ap (λ l. l.sources) same;
      has_looped = ap (λ l. l.has_looped) same;
      callees = ap (λ l. l.callees) same;
      looped = subst (λ r. IsLooped p n r) (sym c.table_at-looped.ensures) (subst (λ k. IsLooped p k (get_or (tables_view c.args.looped.now) i [])) (sym number) known);
    }
