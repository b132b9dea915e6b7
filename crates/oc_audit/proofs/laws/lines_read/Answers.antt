use Rattle.oc_audit.proofs.ReadBack.{read_item_more, read_words_more, no_more, begun, unread, unfinished}
use Rattle.oc_audit.proofs.laws.lines_read.Goals as goal

pub returns : goal.returns
returns c = λ names sizes f. record {
  begun = λ done s r. begun names sizes f done s r;
  item = λ done s t line r k. read_item_more names sizes done s t line r k;
  words = λ done s t line r k. read_words_more names sizes done s t line f.each r k;
  none = λ done s line r h k. no_more names sizes f done s r line h k;
  unread = λ done s r. unread names sizes f done s r;
  unfinished = unfinished names sizes;
}
