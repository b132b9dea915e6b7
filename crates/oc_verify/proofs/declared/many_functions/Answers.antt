use Rattle.std.proofs.Common.{rules, ◌≡◌, ℕ, suc, ◌+◌, ◌-◌, List, [], ◌∷◌, ◌++◌, Result, Err, Vec, Global, arith, subst, sym}
use Rattle.oc_tree.specs.Names.{Text}
use Rattle.oc_isa.specs.declared.image.ImageFunction.{ImageFunction}
use Rattle.oc_verify.specs.declared.fault.ReadFault.{ReadFault}
use Rattle.oc_verify.specs.Reading.{function_at, named_at}
use Rattle.oc_verify.specs.Reads.{Reads}
use Rattle.oc_verify.proofs.Many.{IsPart, part_begun, part_more, part_faults, part_faults_behind, part_done}
use Rattle.oc_verify.proofs.declared.many_functions.Goals as goal

pub loop-done-init : goal.loop-done-init
loop-done-init c =
    let none : c.new-functions.result.items ≡ [] = search rules in
    let all : c.args.count ≡ c.args.count - 0 = omega arith in
    subst (λ (xs : List (ImageFunction)). IsPart function_at c.args.count c.args.seen.now c.args.reader.now xs (c.args.count - 0) c.args.seen.now c.args.reader.now) (sym none)
    (subst (λ (m : ℕ). IsPart function_at c.args.count c.args.seen.now c.args.reader.now [] m c.args.seen.now c.args.reader.now) all
    (part_begun function_at c.args.count c.args.seen.now c.args.reader.now))

pub returns-in_err-name : goal.returns-in_err-name
returns-in_err-name c =
    let l : c.args.count - c.loop-done._done ≡ suc (c.args.count - (c.loop-done._done + 1)) = omega (arith, c.loop-done-test.true) in
    let q : c.from_residual.result ≡ Err c.in_err-name.field-0.0 = search rules in
    subst (λ (r : Result (Vec (ImageFunction) Global) ReadFault). Reads (λ v. v.items) r c.fresh.new.reader (named_at function_at c.args.seen.now c.args.count c.args.reader.now)) (sym q)
    (part_faults function_at c.args.count c.args.seen.now c.args.reader.now c.loop-done.functions.items (c.args.count - c.loop-done._done) (c.args.count - (c.loop-done._done + 1))
    c.loop-done.seen c.loop-done.reader l c.loop-done.invariant (λ (v : Vec (ImageFunction) Global). v.items) c.fresh.new.reader c.in_err-name.field-0.0 c.in_err-name.ensures.read)

pub returns-in_err-function : goal.returns-in_err-function
returns-in_err-function c =
    let l : c.args.count - c.loop-done._done ≡ suc (c.args.count - (c.loop-done._done + 1)) = omega (arith, c.loop-done-test.true) in
    let q : c.from_residual-in_err-function.result ≡ Err c.in_err-function.field-0.0 = search rules in
    subst (λ (r : Result (Vec (ImageFunction) Global) ReadFault). Reads (λ v. v.items) r c.function.new.reader (named_at function_at c.args.seen.now c.args.count c.args.reader.now)) (sym q)
    (part_faults_behind function_at c.args.count c.args.seen.now c.args.reader.now c.loop-done.functions.items (c.args.count - c.loop-done._done)
    (c.args.count - (c.loop-done._done + 1)) c.loop-done.seen c.loop-done.reader l c.loop-done.invariant (λ (v : Vec (ImageFunction) Global). v.items) c.in_ok-name.name
    c.fresh.new.reader c.function.new.reader c.in_err-function.field-0.0 c.in_ok-name.ensures.read c.in_err-function.ensures)

pub loop-done-preserved : goal.loop-done-preserved
loop-done-preserved c =
    let l : c.args.count - c.loop-done._done ≡ suc (c.args.count - (c.loop-done._done + 1)) = omega (arith, c.loop-done-test.true) in
    let items : c.push.new.self.items ≡ c.loop-done.functions.items ++ c.in_ok-function.function ∷ [] = search rules in
    let told : c.fresh.new.seen ≡ c.loop-done.seen ++ c.in_ok-name.name ∷ [] = c.in_ok-name.ensures.seen in
    let part : IsPart function_at c.args.count c.args.seen.now c.args.reader.now (c.loop-done.functions.items ++ c.in_ok-function.function ∷ [])
    (c.args.count - (c.loop-done._done + 1)) (c.loop-done.seen ++ c.in_ok-name.name ∷ []) c.function.new.reader =
    part_more function_at c.args.count c.args.seen.now c.args.reader.now c.loop-done.functions.items (c.args.count - c.loop-done._done) (c.args.count - (c.loop-done._done + 1))
    c.loop-done.seen c.loop-done.reader l c.loop-done.invariant c.in_ok-name.name c.fresh.new.reader c.function.new.reader c.in_ok-function.function c.in_ok-name.ensures.read
    c.in_ok-function.ensures in
    let moved : IsPart function_at c.args.count c.args.seen.now c.args.reader.now c.push.new.self.items (c.args.count - (c.loop-done._done + 1)) c.fresh.new.seen c.function.new.reader =
    subst (λ (xs : List (ImageFunction)). IsPart function_at c.args.count c.args.seen.now c.args.reader.now xs (c.args.count - (c.loop-done._done + 1)) c.fresh.new.seen
    c.function.new.reader) (sym items)
    (subst (λ (ss : List Text). IsPart function_at c.args.count c.args.seen.now c.args.reader.now (c.loop-done.functions.items ++ c.in_ok-function.function ∷ [])
    (c.args.count - (c.loop-done._done + 1)) ss c.function.new.reader) (sym told) part) in
    moved

pub returns : goal.returns
returns c =
    let z : c.args.count - c.loop-done._done ≡ 0 = omega (arith, c.loop-done-test.false) in
    part_done function_at c.args.count c.args.seen.now c.args.reader.now c.loop-done.functions.items (c.args.count - c.loop-done._done) c.loop-done.seen c.loop-done.reader z c.loop-done.invariant
