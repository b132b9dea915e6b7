use Rattle.std.proofs.Common.{◌≡◌, true, length, get_or, arith, ap, refl, sym, ◌∙◌}
use Rattle.std.proofs.lemmas.Option.{slice_get_read}
use Rattle.oc_verify.specs.Rules.{end_at, laid_out}
use Rattle.oc_verify.proofs.FactLaws.{end_inside}
use Rattle.oc_verify.proofs.facts.Facts.stretch.Goals as goal

pub returns : goal.returns
returns c =
    let i = c.args.self.now in
    let f = c.args.function in
    let x = c.index.result.now in
    let e = slice_get_read i.functions (length i.functions) f x refl c.requires (c.index.ensures ∙ ap (λ k. get_or k.functions f x) c.self.view_is) in
    let n : c.code_end.result ≡ end_at i.functions (length i.code) f = c.code_end.ensures ∙ ap (λ k. end_at k.functions (length k.code) f) c.self.view_is in
    let l : laid_out i ≡ true = sym (ap laid_out c.self.view_is) ∙ c.self.invariant.laid.laid in
    let m = end_inside i l f in
    (x, e, refl, n, omega (arith, n, m))
