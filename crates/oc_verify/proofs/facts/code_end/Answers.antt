use Rattle.std.proofs.Common.{rules, ◌≡◌, ◌+◌, ◌<◌, ◌≤◌, refl, suc, length, Some, arith, sym, ◌∙◌, subst}
use Rattle.std.specs.Prelude.{slice_get}
use Rattle.std.proofs.lemmas.Option.{slice_get_read}
use Rattle.oc_verify.proofs.FactLaws.{end_is, end_last}
use Rattle.oc_verify.proofs.facts.code_end.Goals as goal

pub returns-then-function-len : goal.returns-then-function-len
returns-then-function-len c =
    let fs = c.args.image.now.functions.items in
    let l : c.args.function + 1 < length fs = (let x = c.if-function-len.true in let y = c.len.ensures in omega (arith, x, y)) in
    let e = slice_get_read fs (length fs) (c.args.function + 1) c.index.result.now refl l c.index.ensures in
    let n : c.args.function + 1 ≡ suc c.args.function = omega arith in
    sym (end_is fs (length c.args.image.now.code.items) c.args.function c.index.result.now (subst (λ m. slice_get fs m ≡ Some c.index.result.now) n e))

pub returns-else-function-len : goal.returns-else-function-len
returns-else-function-len c =
    let s : c.len-else-function-len.result ≡ length c.args.image.now.code.items = search rules in
    let l : length c.args.image.now.functions.items ≤ suc c.args.function = (let x = c.if-function-len.false in let y = c.len.ensures in omega (arith, x, y)) in
    s ∙ sym (end_last c.args.image.now.functions.items (length c.args.image.now.code.items) c.args.function l)
