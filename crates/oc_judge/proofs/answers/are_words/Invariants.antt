use Rattle.std.proofs.Common.{◌≡◌, drop}
use Rattle.oc_steps.specs.Fold.{are_words}
use Rattle.oc_judge.proofs.answers.are_words.Given as goal

abbrev pub invariant-loop-i : goal.invariant-loop-i
invariant-loop-i l = are_words (drop l.i l.words) (drop l.i l.others) ≡ are_words l.words l.others
