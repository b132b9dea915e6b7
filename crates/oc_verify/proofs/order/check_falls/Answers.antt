use Rattle.std.proofs.Common.{rules, ◌≡◌, ◌<◌, ◌≤◌, ℕ, true, false, length, get_or, nat_lt, take, ap, refl, sym, subst, ◌∙◌, ⊎_elim, arith}
use Rattle.std.proofs.lemmas.List.{take_all, take_more}
use Rattle.oc_tree.specs.Reach.{linked}
use Rattle.oc_verify.proofs.OrderLaws.{link_at, link_of}
use Rattle.oc_verify.proofs.order.check_falls.Goals as goal

pub falls-requires-clause-caller : goal.falls-requires-clause-caller
falls-requires-clause-caller c =
    let l : ℕ × ℕ = get_or c.args.links.now c.loop-link.link-index (0, 0) in
    let low : c.loop-link.link-index < length c.args.links.now = search rules in
    (c.requires l.0 l.1 (link_at c.args.links.now c.loop-link.link-index l (0, 0) low refl)).0

pub falls-requires-clause-callee : goal.falls-requires-clause-callee
falls-requires-clause-callee c =
    let l : ℕ × ℕ = get_or c.args.links.now c.loop-link.link-index (0, 0) in
    let low : c.loop-link.link-index < length c.args.links.now = search rules in
    (c.requires l.0 l.1 (link_at c.args.links.now c.loop-link.link-index l (0, 0) low refl)).1

pub returns-then-not-falls-clause-fault : goal.returns-then-not-falls-clause-fault
returns-then-not-falls-clause-fault c =
    let l : ℕ × ℕ = get_or c.args.links.now c.loop-link.link-index (0, 0) in
    let low : c.loop-link.link-index < length c.args.links.now = search rules in
    let h : nat_lt (get_or c.args.ranks.now l.1 0) (get_or c.args.ranks.now l.0 0) ≡ false = search rules in
    (l.0, l.1, link_at c.args.links.now c.loop-link.link-index l (0, 0) low refl, grind (arith, h), refl)

pub loop-link-preserved : goal.loop-link-preserved
loop-link-preserved c = λ u v linked_now.
    let ranks = c.args.ranks.now in
    let i = c.loop-link.link-index in
    let l : ℕ × ℕ = get_or c.args.links.now i (0, 0) in
    let low : i < length c.args.links.now = search rules in
    let h : nat_lt (get_or ranks l.1 0) (get_or ranks l.0 0) ≡ true = search rules in
    let falls : get_or ranks l.1 0 < get_or ranks l.0 0 = grind (arith, h) in
    ⊎_elim
    (λ q. c.loop-link.invariant u v q)
    (λ q. subst (λ k. get_or ranks v 0 < get_or ranks k 0) q.0 (subst (λ k. get_or ranks k 0 < get_or ranks l.0 0) q.1 falls))
    (link_of (take i c.args.links.now) l u v (ap (λ g. linked g u v) (sym (take_more c.args.links.now i (0, 0) low)) ∙ linked_now))

pub returns-clause-falls : goal.returns-clause-falls
returns-clause-falls c = λ u v h.
    let past : length c.args.links.now ≤ c.loop-link.link-index = search rules in
    c.loop-link.invariant u v (ap (λ g. linked g u v) (take_all c.loop-link.link-index c.args.links.now past) ∙ h)
