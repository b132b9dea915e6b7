use Rattle.std.proofs.Common.{rules, ◌≡◌, ◌≤◌, ◌<◌, ◌≢◌, ◌+◌, None, length, get_or, ap, sym, subst, ◌∙◌, arith}
use Rattle.std.specs.Prelude.{replicate}
use Rattle.oc_isa.specs.Image.{Parts}
use Rattle.oc_verify.specs.Tables.{IsDone, all_done, done_by, passed_seen, with_done}
use Rattle.oc_verify.specs.Walks.{IsTable, table_marks}
use Rattle.oc_verify.proofs.OnwardLaws.{all_by, done_as, is_next, next_rank, none_by, none_done, with_next, without_next}
use Rattle.oc_verify.proofs.kinds.examine_all.Goals as goal
use Rattle.oc_verify.proofs.kinds.examine_all.Goals.{then-ranks-function+in_ok-examine, else-ranks-function}

pub loop-above-init : goal.loop-above-init
loop-above-init c =
    let F : Parts = c.args.facts.now in
    let s : c.len-count.result ≡ length c.image.result.now.functions.items = search rules in
    let n : c.len-count.result ≡ length F.functions = s ∙ ap (λ (k : Parts). length k.functions) c.image.ensures.image in
    let e : passed_seen c.in_ok-passed.passed.items ≡ replicate (length F.functions) None = c.in_ok-passed.ensures ∙ ap (λ k. replicate k None) n in
    record {
      table = c.in_ok-table.ensures.table;
      done = none_done F (done_by (length F.functions) c.args.ranks.now 0 0) (table_marks c.in_ok-table.table) (passed_seen c.in_ok-passed.passed.items)
          (none_by F c.args.ranks.now c.requires.ranked) c.in_ok-table.ensures.blank e;
    }

pub examine-requires-clause-done : goal.examine-requires-clause-done
examine-requires-clause-done c =
    let F : Parts = c.args.facts.now in
    let k = c.loop-above.above in
    let f = c.loop-function.function in
    let s : c.len-count.result ≡ length c.image.result.now.functions.items = search rules in
    let n : c.len-count.result ≡ length F.functions = s ∙ ap (λ (k : Parts). length k.functions) c.image.ensures.image in
    let l : f < c.len-count.result = c.loop-function-test.true in
    let r : get_or c.args.ranks.now f 0 + k ≡ c.len-count.result = search rules in
    (done_by (length F.functions) c.args.ranks.now k f, is_next F c.args.ranks.now c.requires.ranked k f (omega (arith, l, n)) (r ∙ n), c.loop-function.invariant.done)

pub loop-function-preserved : goal.loop-function-preserved
loop-function-preserved c =
    let F : Parts = c.args.facts.now in
    let ranks = c.args.ranks.now in
    let R = c.requires.ranked in
    let k = c.loop-above.above in
    let f = c.loop-function.function in
    let s : c.len-count.result ≡ length c.image.result.now.functions.items = search rules in
    let n : c.len-count.result ≡ length F.functions = s ∙ ap (λ (k : Parts). length k.functions) c.image.ensures.image in
    let l : f < c.len-count.result = c.loop-function-test.true in
    let now = done_by (length F.functions) ranks k f in
    let next = done_by (length F.functions) ranks k (f + 1) in
    elim c.if-ranks-function.branch [
      | then-ranks-function+in_ok-examine w ↦
          let r : get_or ranks f 0 + k ≡ c.len-count.result = search rules in
          let low : f < length F.functions = omega (arith, l, n) in
          let N = is_next F ranks R k f low (r ∙ n) in
          record {
            table = subst (IsTable F) (sym w.table-is) w.in_ok-examine.ensures.table;
            done = subst (λ v. IsDone F next (table_marks v) (passed_seen c.if-ranks-function.passed.items)) (sym w.table-is)
                (subst (λ v. IsDone F next (table_marks w.examine.new.table) (passed_seen v.items)) (sym w.passed-is)
                (done_as F (with_done now f) next (table_marks w.examine.new.table) (passed_seen w.examine.new.passed.items) (with_next F ranks R k f low (r ∙ n))
                (w.in_ok-examine.ensures.done now N c.loop-function.invariant.done)));
          }
      | else-ranks-function w ↦
          let r : get_or ranks f 0 + k ≢ c.len-count.result = search rules in
          record {
            table = subst (IsTable F) (sym w.table-is) c.loop-function.invariant.table;
            done = subst (λ v. IsDone F next (table_marks v) (passed_seen c.if-ranks-function.passed.items)) (sym w.table-is)
                (subst (λ v. IsDone F next (table_marks c.loop-function.table) (passed_seen v.items)) (sym w.passed-is)
                (done_as F now next (table_marks c.loop-function.table) (passed_seen c.loop-function.passed.items) (without_next F ranks R k f (λ e. r (e ∙ sym n))) c.loop-function.invariant.done));
          }
    ]

pub loop-above-preserved : goal.loop-above-preserved
loop-above-preserved c =
    let F : Parts = c.args.facts.now in
    let k = c.loop-above.above in
    let f = c.loop-function.function in
    let s : c.len-count.result ≡ length c.image.result.now.functions.items = search rules in
    let n : c.len-count.result ≡ length F.functions = s ∙ ap (λ (k : Parts). length k.functions) c.image.ensures.image in
    let h : c.len-count.result ≤ f = c.loop-function-test.false in
    record {
      table = c.loop-function.invariant.table;
      done = done_as F (done_by (length F.functions) c.args.ranks.now k f) (done_by (length F.functions) c.args.ranks.now (k + 1) 0) (table_marks c.loop-function.table)
          (passed_seen c.loop-function.passed.items)
          (next_rank F c.args.ranks.now c.requires.ranked k f (omega (arith, h, n))) c.loop-function.invariant.done;
    }

pub returns-clause-examined : goal.returns-clause-examined
returns-clause-examined c =
    let F : Parts = c.args.facts.now in
    let k = c.loop-above.above in
    let s : c.len-count.result ≡ length c.image.result.now.functions.items = search rules in
    let n : c.len-count.result ≡ length F.functions = s ∙ ap (λ (k : Parts). length k.functions) c.image.ensures.image in
    let h : c.len-count.result + 1 ≤ k = c.loop-above-test.false in (
      passed_seen c.loop-above.passed.items,
      done_as F (done_by (length F.functions) c.args.ranks.now k 0) (all_done F) (table_marks c.loop-above.table) (passed_seen c.loop-above.passed.items)
          (all_by F c.args.ranks.now c.requires.ranked k (omega (arith, h, n))) c.loop-above.invariant.done,
    )
