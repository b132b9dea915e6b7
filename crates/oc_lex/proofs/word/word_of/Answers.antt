use Rattle.oc_lex.proofs.Words.{word_among}
use Rattle.oc_lex.proofs.word.word_of.Goals as goal

pub returns : goal.returns
returns c = word_among c.args.text.now c.words_like.result.now c.find_among.result c.words_like.ensures c.find_among.ensures
