use Rattle.std.proofs.Common.{rules, sym, subst}
use Rattle.std.specs.Prelude.{◌≢◌}
use Rattle.oc_verify.specs.Reads.{Reads}
use Rattle.oc_verify.proofs.OperandLaws.{one_operand}
use Rattle.oc_verify.proofs.reader.Reader.operands.Goals as goal

pub returns-in_default : goal.returns-in_default
returns-in_default c =
    let kind = c.args.kind in
    let n8 : kind ≢ 8 = search rules in
    let n9 : kind ≢ 9 = search rules in
    let n11 : kind ≢ 11 = search rules in
    let n12 : kind ≢ 12 = search rules in
    let n18 : kind ≢ 18 = search rules in
    let n21 : kind ≢ 21 = search rules in
    let n24 : kind ≢ 24 = search rules in
    subst (Reads (λ x. x) c.with_operand.result c.with_operand.new.self)
    (sym (one_operand kind c.args.self.now c.requires.least c.requires.greatest n8 n9 n11 n12 n18 n21 n24)) c.with_operand.ensures
