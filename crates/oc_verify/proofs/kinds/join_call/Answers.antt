use Rattle.std.proofs.Common.{rules, ◌≡◌, ◌<◌, Some, length, map, take, ap, refl, sym, subst, ◌∙◌, arith}
use Rattle.std.specs.Prelude.{slice_get}
use Rattle.std.specs.List.{All}
use Rattle.std.proofs.lemmas.Option.{slice_get_read}
use Rattle.oc_verify.specs.Merging.{leasts}
use Rattle.oc_verify.specs.Rules.{params_of}
use Rattle.oc_verify.specs.Stacks.{stack}
use Rattle.oc_verify.specs.Tables.{Mixes, MixesWith, passed_seen}
use Rattle.oc_verify.specs.Told.{kind_of, kinds}
use Rattle.oc_verify.proofs.SeenLaws.{joins_none, joins_some, mixes_some, seen_none, seen_some}
use Rattle.oc_verify.proofs.kinds.join_call.Goals as goal

pub merge_top-requires-clause-deep : goal.merge_top-requires-clause-deep
merge_top-requires-clause-deep c =
    let ps = c.args.passed.now.items in
    let k = c.args.callee in
    let i : slice_get ps k ≡ Some c.index.result.now = slice_get_read ps (length ps) k c.index.result.now refl c.requires.callee c.index.ensures in
    let e = seen_some ps k c.in-Some.codes (i ∙ ap Some c.in-Some.is) in
    let n : length c.in-Some.codes.items ≡ params_of c.args.facts.now k = c.requires.sized c.in-Some.codes.items e in
    let m : length c.deref.result.now ≡ length c.in-Some.codes.items = ap length c.deref.ensures.value in
    let l = c.requires.deep in
    omega (arith, n, m, l)

pub merge_top-requires-clause-small : goal.merge_top-requires-clause-small
merge_top-requires-clause-small c =
    let ps = c.args.passed.now.items in
    let k = c.args.callee in
    let i : slice_get ps k ≡ Some c.index.result.now = slice_get_read ps (length ps) k c.index.result.now refl c.requires.callee c.index.ensures in
    let e = seen_some ps k c.in-Some.codes (i ∙ ap Some c.in-Some.is) in
    let n : length c.in-Some.codes.items ≡ params_of c.args.facts.now k = c.requires.sized c.in-Some.codes.items e in
    subst (All (λ x. x < 8589934592)) (sym c.deref.ensures.value) (c.requires.small c.in-Some.codes.items e)

pub returns-in_ok-both-in-Some-clause-joins : goal.returns-in_ok-both-in-Some-clause-joins
returns-in_ok-both-in-Some-clause-joins c =
    let ps = c.args.passed.now.items in
    let k = c.args.callee in
    let i : slice_get ps k ≡ Some c.index.result.now = slice_get_read ps (length ps) k c.index.result.now refl c.requires.callee c.index.ensures in
    let e = seen_some ps k c.in-Some.codes (i ∙ ap Some c.in-Some.is) in
    let n : length c.in-Some.codes.items ≡ params_of c.args.facts.now k = c.requires.sized c.in-Some.codes.items e in
    let K = kinds c.args.tops.now c.args.ops in
    joins_some (params_of c.args.facts.now k) (passed_seen ps) k K c.in-Some.codes.items c.in_ok-both-in-Some.both.items e n
    (subst (λ xs. leasts (map kind_of xs) K ≡ Some (map kind_of c.in_ok-both-in-Some.both.items)) c.deref.ensures.value c.in_ok-both-in-Some.ensures.least)
    (c.in_ok-both-in-Some.ensures.sized ∙ ap length c.deref.ensures.value) c.in_ok-both-in-Some.ensures.small

pub returns-in_ok-first-in-None-clause-joins : goal.returns-in_ok-first-in-None-clause-joins
returns-in_ok-first-in-None-clause-joins c =
    let ps = c.args.passed.now.items in
    let k = c.args.callee in
    let i : slice_get ps k ≡ Some c.index.result.now = slice_get_read ps (length ps) k c.index.result.now refl c.requires.callee c.index.ensures in
    let top : c.in_ok-first-in-None.first.items ≡ take (params_of c.args.facts.now k) (stack c.args.tops.now c.args.ops) = c.in_ok-first-in-None.ensures.top ∙ ap
    (λ n. take n (stack c.args.tops.now c.args.ops)) c.params.ensures in
    joins_none (params_of c.args.facts.now k) (passed_seen ps) k c.args.tops.now c.args.ops c.in_ok-first-in-None.first.items (seen_none ps k (i ∙ ap Some c.in-None.is)) top c.requires.deep

pub returns-in_err-both-in-Some-clause-fault : goal.returns-in_err-both-in-Some-clause-fault
returns-in_err-both-in-Some-clause-fault c =
    let ps = c.args.passed.now.items in
    let k = c.args.callee in
    let i : slice_get ps k ≡ Some c.index.result.now = slice_get_read ps (length ps) k c.index.result.now refl c.requires.callee c.index.ensures in
    let is = seen_some ps k c.in-Some.codes (i ∙ ap Some c.in-Some.is) in
    let n : length c.in-Some.codes.items ≡ params_of c.args.facts.now k = c.requires.sized c.in-Some.codes.items is in
    let K = kinds c.args.tops.now c.args.ops in
    let e = c.in_err-both-in-Some.field-0.0 in
    let m : Mixes (map kind_of c.in-Some.codes.items) K e = subst (λ xs. Mixes (map kind_of xs) K e) c.deref.ensures.value c.in_err-both-in-Some.ensures.fault in
    let b : MixesWith (slice_get (passed_seen ps) k) (take (params_of c.args.facts.now k) K) e = mixes_some (params_of c.args.facts.now k) (passed_seen ps) k K c.in-Some.codes.items e is n m in
    search rules
