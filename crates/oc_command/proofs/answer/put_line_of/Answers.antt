use Rattle.oc_command.proofs.answer.put_line_of.Goals as goal

pub returns-in-Usage : goal.returns-in-Usage
returns-in-Usage g c = rw c.in-Usage.is c.put_pieces.ensures

pub returns-in-Unreadable : goal.returns-in-Unreadable
returns-in-Unreadable g c = rw c.in-Unreadable.is c.put_word.ensures

pub returns-in-TooLong : goal.returns-in-TooLong
returns-in-TooLong g c = rw c.in-TooLong.is c.put_word-in-TooLong.ensures

pub returns-in-Syntax : goal.returns-in-Syntax
returns-in-Syntax g c = rw c.in-Syntax.is c.put_number.ensures

pub returns-in-Rule : goal.returns-in-Rule
returns-in-Rule g c = rw c.in-Rule.is c.put_rule.ensures

pub returns-in-BadSensors : goal.returns-in-BadSensors
returns-in-BadSensors g c = rw c.in-BadSensors.is c.put_number-in-BadSensors.ensures

pub returns-in-BadPower : goal.returns-in-BadPower
returns-in-BadPower g c = rw c.in-BadPower.is c.put_number-in-BadPower.ensures

pub returns-in-WriteFault : goal.returns-in-WriteFault
returns-in-WriteFault g c = rw c.in-WriteFault.is c.put_pieces-in-WriteFault.ensures

pub returns-in-Memory : goal.returns-in-Memory
returns-in-Memory g c = rw c.in-Memory.is c.put_pieces-in-Memory.ensures

pub returns-in-Cut : goal.returns-in-Cut
returns-in-Cut g c = rw c.in-Cut.is c.put_pieces-in-Cut.ensures

pub returns-in-Dishonest : goal.returns-in-Dishonest
returns-in-Dishonest g c = rw c.in-Dishonest.is c.put_number-in-Dishonest.ensures

pub returns-in-BadReport : goal.returns-in-BadReport
returns-in-BadReport g c = rw c.in-BadReport.is c.put_number-in-BadReport.ensures

pub returns-in-BadImage : goal.returns-in-BadImage
returns-in-BadImage g c = rw c.in-BadImage.is c.put_number-in-BadImage.ensures

pub returns-in-Refused : goal.returns-in-Refused
returns-in-Refused g c = rw c.in-Refused.is c.put_pieces-in-Refused.ensures

pub returns-in-Uncovered : goal.returns-in-Uncovered
returns-in-Uncovered g c = rw c.in-Uncovered.is c.put_gap.ensures
