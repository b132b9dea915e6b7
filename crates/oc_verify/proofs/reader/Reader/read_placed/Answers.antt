use Rattle.oc_verify.proofs.OperandLaws.{between}
use Rattle.oc_verify.proofs.reader.Reader.read_placed.Goals as goal

pub operands-requires-clause-least : goal.operands-requires-clause-least
operands-requires-clause-least c = (between 1 24 c.args.self.now c.in_ok-kind.kind c.number.new.self c.in_ok-kind.ensures).0

pub operands-requires-clause-greatest : goal.operands-requires-clause-greatest
operands-requires-clause-greatest c = (between 1 24 c.args.self.now c.in_ok-kind.kind c.number.new.self c.in_ok-kind.ensures).1
