use Rattle.std.proofs.Common.{◌≡◌, ℕ, [], vec_len, take}
use Rattle.std.proofs.Math.ListN.{get_or}
use Rattle.oc_tree.specs.Reach.{linked}
use Rattle.oc_reach.specs.Marked.{is_in, rows}
use Rattle.oc_reach.proofs.reach.leaders_of.Given as goal

abbrev pub invariant-loop-link : goal.invariant-loop-link
invariant-loop-link l = record {
  bound : vec_len l.leaders ≡ l.bound;
  leaders : (u v : ℕ) → is_in (get_or (rows l.leaders.items) v []) u ≡ linked (take l.link-index l.links) u v;
}
