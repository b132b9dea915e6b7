use Rattle.std.proofs.Common.{◌≡◌, ◌<◌, ℕ, true, get_or, take}
use Rattle.oc_tree.specs.Reach.{linked}
use Rattle.oc_verify.proofs.order.check_falls.Given as goal

abbrev pub invariant-loop-link : goal.invariant-loop-link
invariant-loop-link l = (u v : ℕ) → linked (take l.link-index l.links) u v ≡ true → get_or l.ranks v 0 < get_or l.ranks u 0
