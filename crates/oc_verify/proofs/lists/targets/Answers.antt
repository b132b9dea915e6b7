use Rattle.std.proofs.Common.{rules, ◌≡◌, suc, ◌+◌, ◌-◌, List, [], ◌∷◌, ◌++◌, Result, Err, Vec, Global, arith, subst, sym}
use Rattle.oc_tree.specs.declared.said.Target.{Target}
use Rattle.oc_verify.specs.declared.fault.ReadFault.{ReadFault}
use Rattle.oc_verify.specs.Reading.{target_at, many_at}
use Rattle.oc_verify.specs.Reads.{Reads}
use Rattle.oc_verify.proofs.Many.{IsMany, many_more, many_done, many_faults}
use Rattle.oc_verify.proofs.lists.targets.Goals as goal

pub returns-in_err-target : goal.returns-in_err-target
returns-in_err-target c =
    let l : c.args.count - c.loop-done._done ≡ suc (c.args.count - (c.loop-done._done + 1)) = omega (arith, c.loop-done-test.true) in
    let q : c.from_residual.result ≡ Err c.in_err-target.field-0.0 = search rules in
    subst (λ (r : Result (Vec Target Global) ReadFault). Reads (λ v. v.items) r c.read_target.new.self (many_at target_at c.args.count c.args.reader.now)) (sym q)
    (many_faults (λ (v : Vec Target Global). v.items) target_at c.args.count c.args.reader.now c.loop-done.targets.items (c.args.count - c.loop-done._done)
    (c.args.count - (c.loop-done._done + 1)) c.loop-done.reader c.read_target.new.self c.in_err-target.field-0.0 l c.in_err-target.ensures c.loop-done.invariant)

pub loop-done-preserved : goal.loop-done-preserved
loop-done-preserved c =
    let l : c.args.count - c.loop-done._done ≡ suc (c.args.count - (c.loop-done._done + 1)) = omega (arith, c.loop-done-test.true) in
    let items : c.push.new.self.items ≡ c.loop-done.targets.items ++ c.in_ok-target.target ∷ [] = search rules in
    subst (λ (xs : List Target). IsMany target_at c.args.count c.args.reader.now xs (c.args.count - (c.loop-done._done + 1)) c.read_target.new.self) (sym items)
    (many_more target_at c.args.count c.args.reader.now c.loop-done.targets.items (c.args.count - c.loop-done._done) (c.args.count - (c.loop-done._done + 1)) c.loop-done.reader
    c.read_target.new.self c.in_ok-target.target l c.in_ok-target.ensures c.loop-done.invariant)

pub returns : goal.returns
returns c =
    let z : c.args.count - c.loop-done._done ≡ 0 = omega (arith, c.loop-done-test.false) in
    many_done target_at c.args.count c.args.reader.now c.loop-done.targets.items (c.args.count - c.loop-done._done) c.loop-done.reader z c.loop-done.invariant
