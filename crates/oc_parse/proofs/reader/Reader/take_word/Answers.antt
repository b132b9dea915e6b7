use Rattle.std.proofs.Common.{false}
use Rattle.oc_parse.specs.Steps.{left}
use Rattle.oc_parse.proofs.Words.{word_behind, word_missing, word_taken, word_tested}
use Rattle.oc_parse.proofs.reader.Reader.take_word.Goals as goal

pub returns-clause-pair : goal.returns-clause-pair
returns-clause-pair c =
    word_taken c.args.word (left c.args.self.now) _
    (word_behind c.args.self.now.atomic c.args.self.now.source.now c.args.self.now.rest.now _ c.args.word c.in-len1-up.len_at_least c.if-not-is_word.ensures)

pub returns-clause-exact : goal.returns-clause-exact
returns-clause-exact c =
    word_behind c.args.self.now.atomic c.args.self.now.source.now c.args.self.now.rest.now _ c.args.word c.in-len1-up.len_at_least c.if-not-is_word.ensures

pub returns-then-not-is_word-clause-pair : goal.returns-then-not-is_word-clause-pair
returns-then-not-is_word-clause-pair c =
    word_missing c.args.word (left c.args.self.now)
    (word_tested c.args.self.now.atomic c.args.self.now.source.now c.args.self.now.rest.now _ c.args.word false c.in-len1-up.len_at_least c.if-not-is_word.ensures)

pub returns-then-not-is_word-clause-exact : goal.returns-then-not-is_word-clause-exact
returns-then-not-is_word-clause-exact c =
    word_tested c.args.self.now.atomic c.args.self.now.source.now c.args.self.now.rest.now _ c.args.word false c.in-len1-up.len_at_least c.if-not-is_word.ensures
