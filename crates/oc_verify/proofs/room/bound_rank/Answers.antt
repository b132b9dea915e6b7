use Rattle.std.proofs.Common.{rules, ◌≡◌, ◌≤◌, ◌<◌, ◌+◌, ℕ, List, length, sym, subst}
use Rattle.std.specs.Prelude.{slice_set}
use Rattle.oc_isa.specs.Image.{Parts}
use Rattle.oc_verify.specs.Blames.{Blames}
use Rattle.oc_verify.specs.Facts.{IsLaid}
use Rattle.oc_verify.specs.Room.{AreBounded, bounded_by}
use Rattle.oc_verify.specs.Walks.{table_marks}
use Rattle.oc_verify.proofs.RoomLaws.{all_deep, blame_deep, bounded_callee, bounded_down, bounded_fresh, bounded_next, bounded_rank, bounded_skip, fewer_bounded, one_bounded}
use Rattle.oc_verify.proofs.room.bound_rank.Goals as goal
use Rattle.oc_verify.proofs.room.bound_rank.Goals.{then-ranks-function+in_ok-bounds, else-ranks-function}

pub words_needed-requires-clause-named : goal.words_needed-requires-clause-named
words_needed-requires-clause-named c = c.requires.named c.loop-function.function

pub words_needed-requires-clause-deep : goal.words_needed-requires-clause-deep
words_needed-requires-clause-deep c = all_deep c.args.facts.now c.image.ensures.laid c.requires.named c.args.ranks.now c.requires.ranked (table_marks c.args.table.now)
    c.requires.examined c.loop-function.function

pub returns-in_err-bounds-clause-blames : goal.returns-in_err-bounds-clause-blames
returns-in_err-bounds-clause-blames c =
    let F : Parts = c.args.facts.now in
    let tab = table_marks c.args.table.now in
    let ranks : List ℕ = c.args.ranks.now in
    let done = bounded_by (length F.functions) ranks c.args.rank c.loop-function.function in
    let bounds : List ℕ = c.loop-function.bounds in
    let e = c.in_err-bounds.ensures.fault in
    let b : Blames F c.in_err-bounds.field-0.0 = blame_deep F c.image.ensures.laid c.requires.named ranks c.requires.ranked tab done bounds c.loop-function.invariant c.loop-function.function
    (λ g a p s. bounded_callee F c.image.ensures.laid c.requires.named ranks c.requires.ranked tab c.args.rank c.loop-function.function g a p c.if-ranks-function.true s)
    c.requires.examined c.in_err-bounds.field-0.0 e in
    search rules

pub loop-function-preserved : goal.loop-function-preserved
loop-function-preserved c =
    let F : Parts = c.args.facts.now in
    let tab = table_marks c.args.table.now in
    let ranks : List ℕ = c.args.ranks.now in
    let k : ℕ = c.args.rank in
    let f : ℕ = c.loop-function.function in
    let bounds : List ℕ = c.loop-function.bounds in
    let laid : IsLaid F = c.image.ensures.laid in
    let size : c.len-function-end.result ≡ length F.functions = search rules in
    let low : f < length F.functions = subst (λ n. f < n) size c.loop-function-test.true in
    elim c.if-ranks-function.branch [
      | then-ranks-function+in_ok-bounds w ↦
          let m : ℕ = w.in_ok-bounds.field-0 in
          let most = w.in_ok-bounds.ensures.most in
          let now : c.if-ranks-function.bounds ≡ slice_set bounds f m = search rules in
          subst (AreBounded F tab (bounded_by (length F.functions) ranks k (f + 1))) (sym now)
          (one_bounded F laid c.requires.named ranks c.requires.ranked tab (bounded_by (length F.functions) ranks k f) bounds c.loop-function.invariant f
          (λ g a p s. bounded_callee F laid c.requires.named ranks c.requires.ranked tab k f g a p w.if-ranks-function.true s)
          m low most
          (bounded_fresh F laid c.requires.named ranks c.requires.ranked tab k f w.if-ranks-function.true)
          (bounded_by (length F.functions) ranks k (f + 1))
          (λ h. bounded_next F laid c.requires.named ranks c.requires.ranked tab k f h)
          (λ h g a p d s. bounded_down F laid c.requires.named ranks c.requires.ranked tab k f h g a p d s))
      | else-ranks-function w ↦
          subst (λ v. AreBounded F tab (bounded_by (length F.functions) ranks k (f + 1)) v) (sym w.bounds-is)
          (fewer_bounded F tab (bounded_by (length F.functions) ranks k f) (bounded_by (length F.functions) ranks k (f + 1)) bounds
          (λ h. bounded_skip F laid c.requires.named ranks c.requires.ranked tab k f h w.if-ranks-function.false) c.loop-function.invariant)
    ]

pub returns-clause-bounded : goal.returns-clause-bounded
returns-clause-bounded c =
    let F : Parts = c.args.facts.now in
    let tab = table_marks c.args.table.now in
    let ranks : List ℕ = c.args.ranks.now in
    let size : c.len-function-end.result ≡ length F.functions = search rules in
    let past : length F.functions ≤ c.loop-function.function = subst (λ n. n ≤ c.loop-function.function) size c.loop-function-test.false in
    fewer_bounded F tab (bounded_by (length F.functions) ranks c.args.rank c.loop-function.function) (bounded_by (length F.functions) ranks (c.args.rank + 1) 0) c.loop-function.bounds
    (λ h. bounded_rank F c.image.ensures.laid c.requires.named ranks c.requires.ranked tab c.args.rank c.loop-function.function h past) c.loop-function.invariant
