use Rattle.oc_parse.proofs.Lines.{last_is}
use Rattle.oc_parse.proofs.program.last_line.Goals as goal

pub returns-in-len1-up : goal.returns-in-len1-up
returns-in-len1-up c = λ atomic source. last_is atomic source c.args.tokens.now _ c.in-len1-up.len_at_least
