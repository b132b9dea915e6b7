use Rattle.std.proofs.Common.{◌≡◌, ◌<◌, ◌≤◌, ◌-◌, ℕ, suc, length, map, get_or, nat_le, arith, ap, refl, sym, subst, ◌∙◌}
use Rattle.std.proofs.lemmas.List.{get_or_read}
use Rattle.std.proofs.lemmas.Option.{slice_get_read}
use Rattle.oc_isa.specs.Image.{Parts}
use Rattle.oc_isa.specs.declared.instr.Instr.TheVariants.{Enter}
use Rattle.oc_verify.specs.Facts.{needs}
use Rattle.oc_verify.specs.Rules.{names_exist, on_function, params_of}
use Rattle.oc_verify.proofs.FactLaws.{region_in, all_long}
use Rattle.oc_verify.proofs.facts.Facts.region_fits.Goals as goal

pub returns : goal.returns
returns c =
    let i : Parts = c.args.self.now in
    let f = c.args.function in
    let r : ℕ = c.args.region - 1 in
    let one : 1 ≤ c.args.region = omega (arith, c.if-region-eq0.false) in
    let same : suc r ≡ c.args.region = omega (arith, one) in
    let regions : c.self.inside.needs.items ≡ map needs i.targets = c.self.invariant.regions ∙ ap (λ (k : Parts). map needs k.targets) c.self.view_is in
    let l : c.args.region ≤ length c.self.inside.needs.items = omega (arith, c.if-region-len.false, c.len.ensures) in
    let n = all_long i.targets in
    let m = ap length regions in
    let low : r < length i.targets = omega (arith, one, l, n, m) in
    let read : c.index.result.now ≡ get_or (map needs i.targets) r 0 =
    get_or_read c.self.inside.needs.items r c.index.result.now (omega (arith, one, l)) c.index.ensures 0 ∙ ap (λ xs. get_or xs r 0) regions in
    let g = slice_get_read i.functions (length i.functions) f c.index-2.result.now refl c.requires (c.index-2.ensures ∙ ap (λ (k : Parts). get_or k.functions f c.index-2.result.now) c.self.view_is) in
    let params : c.index-2.result.now.params ≡ params_of i f = sym (ap (on_function 0 (λ g. g.params)) g) in
    let whole : names_exist i f (Enter (suc r)) ≡ nat_le c.index.result.now c.index-2.result.now.params = region_in i f r low ∙ (λ j. nat_le (sym read j) (sym params j)) in
    sym (subst (λ k. names_exist i f (Enter k) ≡ nat_le c.index.result.now c.index-2.result.now.params) same whole)
