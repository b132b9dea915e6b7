use Rattle.std.proofs.Common.{◌≡◌, ◌≤◌, ◌*◌, take}
use Rattle.std.specs.Prelude.{sum_by}
use Rattle.oc_verify.proofs.layout.nv_words.Given as goal

abbrev pub invariant-loop-one : goal.invariant-loop-one
invariant-loop-one l = record {
  few : l.words ≤ l.one-index * 4294967295;
  sum : l.words ≡ sum_by (λ v. v.words) (take l.one-index l.nv);
}
