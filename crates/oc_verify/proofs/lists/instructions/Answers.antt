use Rattle.std.proofs.Common.{rules, ◌≡◌, suc, ◌+◌, ◌-◌, List, [], ◌∷◌, ◌++◌, Result, Err, Vec, Global, arith, subst, sym}
use Rattle.oc_isa.specs.declared.instr.Placed.{Placed}
use Rattle.oc_verify.specs.declared.fault.ReadFault.{ReadFault}
use Rattle.oc_verify.specs.Reading.{placed_at, many_at}
use Rattle.oc_verify.specs.Reads.{Reads}
use Rattle.oc_verify.proofs.Many.{IsMany, many_more, many_done, many_faults}
use Rattle.oc_verify.proofs.lists.instructions.Goals as goal

pub returns-in_err-placed : goal.returns-in_err-placed
returns-in_err-placed c =
    let l : c.args.count - c.loop-done._done ≡ suc (c.args.count - (c.loop-done._done + 1)) = omega (arith, c.loop-done-test.true) in
    let q : c.from_residual.result ≡ Err c.in_err-placed.field-0.0 = search rules in
    subst (λ (r : Result (Vec Placed Global) ReadFault). Reads (λ v. v.items) r c.read_placed.new.self (many_at placed_at c.args.count c.args.reader.now)) (sym q)
    (many_faults (λ (v : Vec Placed Global). v.items) placed_at c.args.count c.args.reader.now c.loop-done.code.items (c.args.count - c.loop-done._done)
    (c.args.count - (c.loop-done._done + 1)) c.loop-done.reader c.read_placed.new.self c.in_err-placed.field-0.0 l c.in_err-placed.ensures c.loop-done.invariant)

pub loop-done-preserved : goal.loop-done-preserved
loop-done-preserved c =
    let l : c.args.count - c.loop-done._done ≡ suc (c.args.count - (c.loop-done._done + 1)) = omega (arith, c.loop-done-test.true) in
    let items : c.push.new.self.items ≡ c.loop-done.code.items ++ c.in_ok-placed.placed ∷ [] = search rules in
    subst (λ (xs : List Placed). IsMany placed_at c.args.count c.args.reader.now xs (c.args.count - (c.loop-done._done + 1)) c.read_placed.new.self) (sym items)
    (many_more placed_at c.args.count c.args.reader.now c.loop-done.code.items (c.args.count - c.loop-done._done) (c.args.count - (c.loop-done._done + 1)) c.loop-done.reader
    c.read_placed.new.self c.in_ok-placed.placed l c.in_ok-placed.ensures c.loop-done.invariant)

pub returns : goal.returns
returns c =
    let z : c.args.count - c.loop-done._done ≡ 0 = omega (arith, c.loop-done-test.false) in
    many_done placed_at c.args.count c.args.reader.now c.loop-done.code.items (c.args.count - c.loop-done._done) c.loop-done.reader z c.loop-done.invariant
