use Rattle.std.proofs.Common.{ℕ, List, ◌≡◌, ◌≤◌, ◌+◌, length, take, drop, arith, ap, sym, subst}
use Rattle.std.proofs.lemmas.List.{take_rest, length-drop}
use Rattle.std.proofs.KnownBytes.{Appends-trans}
use Rattle.std.specs.Io.KnownBytes.{Appends}
use Rattle.oc_io.proofs.Streams.{joined}
use Rattle.oc_io.proofs.stream.write_out.Goals as goal

few_more : (n k : ℕ) (rest xs : List ℕ) → rest ≡ drop n xs → n ≤ length xs → k ≤ length rest → n + k ≤ length xs
few_more n k rest xs e l m = let d = ap length e in let s = length-drop n xs in omega (arith, d, s, l, m)

pub loop-written-preserved : goal.loop-written-preserved
loop-written-preserved g c =
    let from = c.args.from in
    let n = c.loop-written.written in
    let k = c.in-Ok.count in
    let xs = c.args.bytes.now in
    let before = g.W.Write.contents c.args.to.now in
    let here = g.W.Write.contents c.loop-written.to in
    let after = g.W.Write.contents c.write.new.self in record {
      few = few_more n k _ xs (take_rest xs n) c.loop-written.invariant.few c.in-Ok.ensures.bound;
      more = (let m = c.loop-written.invariant.more in omega (arith, m));
      bytes =
          subst (Appends before after) (sym (joined from n k xs c.loop-written.invariant.more c.loop-written.invariant.few))
          (Appends-trans before here after (drop from (take n xs)) (take k (drop n xs)) c.loop-written.invariant.bytes
          (subst (λ rest. Appends here after (take k rest)) (take_rest xs n) c.in-Ok.ensures.bytes));
    }
