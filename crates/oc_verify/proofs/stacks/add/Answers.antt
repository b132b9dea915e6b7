use Rattle.std.proofs.Common.{rules, ◌≡◌, ◌∷◌, ◌++◌, [], Some, nat_cmp, sym, subst}
use Rattle.std.specs.BTreeMap.{Updates}
use Rattle.oc_verify.specs.Stacks.{Nodes, IsIndex}
use Rattle.oc_verify.proofs.PlaceLaws.{index_more}
use Rattle.oc_verify.proofs.stacks.add.Goals as goal

pub returns-clause-index : goal.returns-clause-index
returns-clause-index c =
    let ks = c.args.nodes.now.items in
    let k : c.push.new.self.items ≡ ks ++ c.args.node ∷ [] = search rules in
    let u : Updates nat_cmp c.args.places.now c.insert.new.self c.args.node (Some c.args.place) = search rules in
    subst (λ (l : Nodes). IsIndex l c.insert.new.self) (sym k) (index_more ks c.args.places.now c.insert.new.self c.args.node c.args.place c.requires.index c.requires.fresh c.requires.next u)
