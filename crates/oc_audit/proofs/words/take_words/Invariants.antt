use Rattle.oc_audit.specs.Words.{ReadsOn}
use Rattle.oc_audit.proofs.words.take_words.Given as goal

abbrev pub invariant-loop-place : goal.invariant-loop-place
invariant-loop-place l = ReadsOn l.initial.left l.fn.words.items l.words.items l._place l.left
