use Rattle.std.proofs.Common.{rules, ◌≡◌, ◌+◌, ◌<◌, refl, suc, length, drop, true, false, arith, ap, sym, ◌∙◌}
use Rattle.oc_verify.specs.Rules.{is_retv, some_before, end_at}
use Rattle.oc_isa.specs.Image.{parts_of}
use Rattle.std.proofs.lemmas.Option.{slice_get_read}
use Rattle.oc_verify.proofs.FactLaws.{before_here, before_next, none_past, end_inside}
use Rattle.oc_verify.proofs.facts.gives_result.Goals as goal

pub index-requires-in-loop-at : goal.index-requires-in-loop-at
index-requires-in-loop-at c =
    let e : c.code_end-at-end.result ≡ end_at c.args.image.now.functions.items (length c.args.image.now.code.items) c.args.function = search rules in
    let s = end_inside (parts_of c.args.image.now) c.requires.laid.laid c.args.function in
    let t = c.loop-at-test.true in
    omega (arith, e, s, t)

pub returns-then-is_retv : goal.returns-then-is_retv
returns-then-is_retv c =
    let code = c.args.image.now.code.items in
    let s = end_inside (parts_of c.args.image.now) c.requires.laid.laid c.args.function in
    let l : c.loop-at.at < length code = (let q : c.code_end-at-end.result ≡ end_at c.args.image.now.functions.items (length code) c.args.function = search rules in let t = c.loop-at-test.true in
    omega (arith, q, s, t)) in
    let e = slice_get_read code (length code) c.loop-at.at c.index-in-loop-at.result.now refl l c.index-in-loop-at.ensures in
    let t : is_retv c.index-in-loop-at.result.now.instr ≡ true = search rules in
    sym (c.loop-at.invariant ∙ before_here is_retv c.code_end-at-end.result c.loop-at.at c.args.image.now.code.items c.index-in-loop-at.result.now e c.loop-at-test.true t)

pub loop-at-preserved : goal.loop-at-preserved
loop-at-preserved c =
    let code = c.args.image.now.code.items in
    let s = end_inside (parts_of c.args.image.now) c.requires.laid.laid c.args.function in
    let l : c.loop-at.at < length code = (let q : c.code_end-at-end.result ≡ end_at c.args.image.now.functions.items (length code) c.args.function = search rules in let t = c.loop-at-test.true in
    omega (arith, q, s, t)) in
    let e = slice_get_read code (length code) c.loop-at.at c.index-in-loop-at.result.now refl l c.index-in-loop-at.ensures in
    let t : is_retv c.index-in-loop-at.result.now.instr ≡ false = search rules in
    let n : suc c.loop-at.at ≡ c.loop-at.at + 1 = omega arith in
    c.loop-at.invariant ∙ before_next is_retv c.code_end-at-end.result c.loop-at.at c.args.image.now.code.items c.index-in-loop-at.result.now e c.loop-at-test.true t
    ∙ ap (λ m. some_before is_retv c.code_end-at-end.result m (drop m c.args.image.now.code.items)) n

pub returns : goal.returns
returns c = sym (c.loop-at.invariant ∙ none_past is_retv c.code_end-at-end.result c.loop-at.at (drop c.loop-at.at c.args.image.now.code.items) c.loop-at-test.false)
