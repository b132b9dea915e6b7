use Rattle.oc_items.proofs.Numerals.{if_none}
use Rattle.oc_audit.proofs.WordsBack.{no_word}
use Rattle.oc_audit.proofs.words.next_word.Goals as goal

pub returns-in_err-word-clause-none : goal.returns-in_err-word-clause-none
returns-in_err-word-clause-none c =
    if_none c.from_residual-in_err-word.result _
    (no_word c.args.bytes.now c.in_ok-rest.rest.now c.split_word-parts.result.0.now c.split_word-parts.result.1.now
    c.in_ok-rest.ensures.some c.split_word-parts.ensures.parts c.split_word-parts.ensures.field
    c.split_word-parts.ensures.tail c.in_err-word.ensures.none)
