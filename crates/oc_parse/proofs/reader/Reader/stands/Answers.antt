use Rattle.oc_parse.proofs.Words.{word_stands}
use Rattle.oc_parse.proofs.reader.Reader.stands.Goals as goal

pub returns : goal.returns
returns c =
    word_stands c.args.self.now.atomic c.args.self.now.source.now c.args.self.now.rest.now _ c.args.word c.is_word.result c.in-len1-up.len_at_least c.is_word.ensures
