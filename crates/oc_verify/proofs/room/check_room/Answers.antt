use Rattle.std.proofs.Common.{rules, ◌≡◌, ◌+◌, ◌++◌, ℕ, List, drop, length, take, ap, refl, sym, subst, ◌∙◌, arith}
use Rattle.std.specs.Prelude.{replicate}
use Rattle.std.proofs.lemmas.List.{append-nil, drop_all, take_all}
use Rattle.oc_isa.specs.Image.{Parts}
use Rattle.oc_verify.specs.Room.{AreBounded, bounded_by}
use Rattle.oc_verify.specs.Walks.{table_marks}
use Rattle.oc_verify.proofs.RoomLaws.{all_bounded, none_bounded, none_by}
use Rattle.oc_verify.proofs.room.check_room.Goals as goal

pub loop-rank-init : goal.loop-rank-init
loop-rank-init c =
    let F : Parts = c.args.facts.now in
    let tab = table_marks c.args.table.now in
    let ranks : List ℕ = c.args.ranks.now in
    let n : ℕ = length F.functions in
    let zeros : c.in_ok-bounds.bounds.items ≡ replicate n 0 = search rules in
    subst (AreBounded F tab (bounded_by n ranks 0 0)) (sym zeros)
    (none_bounded F tab n (bounded_by n ranks 0 0) refl (none_by F c.image.ensures.laid c.requires.named ranks c.requires.ranked tab n))

pub bound_rank-requires-clause-bounded : goal.bound_rank-requires-clause-bounded
bound_rank-requires-clause-bounded c =
    let F : Parts = c.args.facts.now in
    subst (AreBounded F (table_marks c.args.table.now) (bounded_by (length F.functions) c.args.ranks.now c.loop-rank.rank 0)) (sym c.deref_mut.ensures.value) c.loop-rank.invariant

pub loop-rank-preserved : goal.loop-rank-preserved
loop-rank-preserved c =
    let F : Parts = c.args.facts.now in
    let old : List ℕ = c.loop-rank.bounds.items in
    let new : List ℕ = c.bound_rank.new.bounds in
    let len : c.loop-rank.bounds.len ≡ length old = sym c.deref_mut.ensures.len ∙ ap length c.deref_mut.ensures.value in
    let same : length new ≡ length old = c.in_ok-bound_rank.ensures.bounded.sized ∙ sym c.loop-rank.invariant.sized in
    let all : take c.loop-rank.bounds.len (new ++ drop (length new) old) ≡ new = ap (λ rest. take c.loop-rank.bounds.len (new ++ rest)) (drop_all (length new) old (omega (arith, same)))
    ∙ ap (take c.loop-rank.bounds.len) (append-nil new) ∙ take_all c.loop-rank.bounds.len new (omega (arith, same, len)) in
    subst (AreBounded F (table_marks c.args.table.now) (bounded_by (length F.functions) c.args.ranks.now (c.loop-rank.rank + 1) 0)) (sym all) c.in_ok-bound_rank.ensures.bounded

pub returns-clause-room : goal.returns-clause-room
returns-clause-room c =
    let F : Parts = c.args.facts.now in
    let tab = table_marks c.args.table.now in
    let ranks : List ℕ = c.args.ranks.now in
    let bounds : List ℕ = c.loop-rank.bounds.items in
    let size : c.len-count.result ≡ length F.functions = search rules in
    let low = c.loop-rank-test.false in
    let high = c.loop-rank.auto.rank-end in
    let last : c.loop-rank.rank ≡ length F.functions + 1 = omega (arith, low, high, size) in
    all_bounded F c.image.ensures.laid c.requires.named ranks c.requires.ranked tab bounds
    (subst (λ k. AreBounded F tab (bounded_by (length F.functions) ranks k 0) bounds) last c.loop-rank.invariant)
