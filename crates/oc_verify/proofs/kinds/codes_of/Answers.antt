use Rattle.std.proofs.Common.{rules, ◌≡◌, ◌≤◌, ◌<◌, Some, length, ap, refl, sym, subst, ◌∙◌, arith}
use Rattle.std.specs.Prelude.{replicate, slice_get}
use Rattle.std.specs.List.{All}
use Rattle.std.proofs.lemmas.Option.{slice_get_read}
use Rattle.oc_verify.specs.Rules.{params_of}
use Rattle.oc_verify.specs.Tables.{passed_seen}
use Rattle.oc_verify.proofs.SeenLaws.{codes_none, codes_some, seen_none, seen_some}
use Rattle.oc_verify.proofs.kinds.codes_of.Goals as goal

pub returns-in_ok-copy-in-Some-clause-codes : goal.returns-in_ok-copy-in-Some-clause-codes
returns-in_ok-copy-in-Some-clause-codes c =
    let ps = c.args.passed.now.items in
    let f = c.args.function in
    let i : slice_get ps f ≡ Some c.index.result.now = slice_get_read ps (length ps) f c.index.result.now refl c.requires.passed c.index.ensures in
    let e = seen_some ps f c.in-Some.codes (i ∙ ap Some c.in-Some.is) in
    let copy : c.in_ok-copy-in-Some.copy.items ≡ c.in-Some.codes.items = c.in_ok-copy-in-Some.ensures.items ∙ c.deref.ensures.value in
    copy ∙ codes_some c.args.facts.now (passed_seen ps) f c.in-Some.codes.items e

pub returns-in_ok-copy-in-Some-clause-sized : goal.returns-in_ok-copy-in-Some-clause-sized
returns-in_ok-copy-in-Some-clause-sized c =
    let ps = c.args.passed.now.items in
    let f = c.args.function in
    let i : slice_get ps f ≡ Some c.index.result.now = slice_get_read ps (length ps) f c.index.result.now refl c.requires.passed c.index.ensures in
    let e = seen_some ps f c.in-Some.codes (i ∙ ap Some c.in-Some.is) in
    let copy : c.in_ok-copy-in-Some.copy.items ≡ c.in-Some.codes.items = c.in_ok-copy-in-Some.ensures.items ∙ c.deref.ensures.value in
    ap length copy ∙ c.requires.sized c.in-Some.codes.items e

pub returns-in_ok-copy-in-Some-clause-few : goal.returns-in_ok-copy-in-Some-clause-few
returns-in_ok-copy-in-Some-clause-few c =
    let ps = c.args.passed.now.items in
    let f = c.args.function in
    let i : slice_get ps f ≡ Some c.index.result.now = slice_get_read ps (length ps) f c.index.result.now refl c.requires.passed c.index.ensures in
    let e = seen_some ps f c.in-Some.codes (i ∙ ap Some c.in-Some.is) in
    let copy : c.in_ok-copy-in-Some.copy.items ≡ c.in-Some.codes.items = c.in_ok-copy-in-Some.ensures.items ∙ c.deref.ensures.value in
    let n : length c.in_ok-copy-in-Some.copy.items ≡ params_of c.args.facts.now f = ap length copy ∙ c.requires.sized c.in-Some.codes.items e in
    let p : c.params-params.result ≡ params_of c.args.facts.now f = c.params-params.ensures in
    let few : c.params-params.result ≤ 4294967295 = search rules in
    omega (arith, n, p, few)

pub returns-in_ok-copy-in-Some-clause-small : goal.returns-in_ok-copy-in-Some-clause-small
returns-in_ok-copy-in-Some-clause-small c =
    let ps = c.args.passed.now.items in
    let f = c.args.function in
    let i : slice_get ps f ≡ Some c.index.result.now = slice_get_read ps (length ps) f c.index.result.now refl c.requires.passed c.index.ensures in
    let e = seen_some ps f c.in-Some.codes (i ∙ ap Some c.in-Some.is) in
    let copy : c.in_ok-copy-in-Some.copy.items ≡ c.in-Some.codes.items = c.in_ok-copy-in-Some.ensures.items ∙ c.deref.ensures.value in
    subst (All (λ x. x < 8589934592)) (sym copy) (c.requires.small c.in-Some.codes.items e)

pub returns-in_ok-zeros-in-None-clause-codes : goal.returns-in_ok-zeros-in-None-clause-codes
returns-in_ok-zeros-in-None-clause-codes c =
    let ps = c.args.passed.now.items in
    let f = c.args.function in
    let i : slice_get ps f ≡ Some c.index.result.now = slice_get_read ps (length ps) f c.index.result.now refl c.requires.passed c.index.ensures in
    let zeros : c.in_ok-zeros-in-None.zeros.items ≡ replicate (params_of c.args.facts.now f) 0 = search rules in
    zeros ∙ codes_none c.args.facts.now (passed_seen ps) f (seen_none ps f (i ∙ ap Some c.in-None.is))
