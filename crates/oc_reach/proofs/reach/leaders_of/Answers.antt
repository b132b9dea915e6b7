use Rattle.std.proofs.Common.{◌≡◌, ◌<◌, ◌+◌, ◌∷◌, ◌++◌, [], take, length, ap, sym, refl, ◌∙◌, arith}
use Rattle.std.proofs.Math.ListN.{get_or}
use Rattle.std.proofs.lemmas.List.{take_more}
use Rattle.oc_tree.specs.Reach.{linked}
use Rattle.oc_reach.specs.Marked.{is_in, rows}
use Rattle.oc_reach.proofs.Rows.{row_is, rows_length, rows_set, link_at, link_more}
use Rattle.oc_reach.proofs.reach.leaders_of.Goals as goal

pub index_mut-requires : goal.index_mut-requires
index_mut-requires c =
    let h = (c.requires _ _ (link_at c.args.links.now c.loop-link.link-index c.loop-link-test.true)).1 in
    omega (arith, h, c.loop-link.invariant.bound)

pub loop-link-preserved : goal.loop-link-preserved
loop-link-preserved c =
    let i = c.loop-link.link-index in
    let links = c.args.links.now in
    let link = get_or links i (0, 0) in
    let old = c.loop-link.leaders.items in
    let inside = (c.requires _ _ (link_at links i c.loop-link-test.true)).1 in
    let h : link.1 < length old = omega (arith, inside, c.loop-link.invariant.bound) in
    let h' : link.1 < length (rows old) = omega (arith, h, rows_length old) in
    let e : take (i + 1) links ≡ take i links ++ link ∷ [] = take_more links i (0, 0) c.loop-link-test.true in
    let grown : c.push.new.self.items ≡ c.index_mut.result.now.items ++ link.0 ∷ [] = c.in_ok-push.ensures.items in
    let row : c.push.new.self.items ≡ get_or (rows old) link.1 [] ++ link.0 ∷ [] =
    grown ∙ ap (λ l. l ++ link.0 ∷ []) (row_is old link.1 c.index_mut.result.now.items c.index_mut.result.now h c.index_mut.ensures.value refl) in
    record {
      bound = c.loop-link.invariant.bound;
      leaders = λ u v. ap (λ l. is_in (get_or l v []) u) (rows_set old link.1 c.push.new.self)
          ∙ link_more (rows old) (take i links) link.0 link.1 c.push.new.self.items h' row c.loop-link.invariant.leaders u v
          ∙ sym (ap (λ l. linked l u v) e);
    }
