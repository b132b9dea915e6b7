use Rattle.std.proofs.Common.{◌≡◌, ◌<◌, Some, refl, sym, ◌∙◌, arith}
use Rattle.std.specs.Prelude.{option_copied}
use Rattle.oc_verify.specs.Stacks.{place_in}
use Rattle.oc_verify.proofs.PlaceLaws.{added_nodes, added_place, not_found, place_found, place_missing, with_found}
use Rattle.oc_verify.proofs.stacks.place.Goals as goal

pub returns-in-Some-clause-keys : goal.returns-in-Some-clause-keys
returns-in-Some-clause-keys c =
    let ks = c.args.nodes.now.items in
    let p : place_in ks c.args.node ≡ Some c.in-Some.place.now = sym (c.in-Some.ensures.value ∙ c.requires.index c.args.node) in
    with_found ks c.args.node (place_found ks c.args.node c.in-Some.place.now p).1

pub returns-in-Some-clause-found : goal.returns-in-Some-clause-found
returns-in-Some-clause-found c =
    let ks = c.args.nodes.now.items in
    let p : place_in ks c.args.node ≡ Some c.in-Some.place.now = sym (c.in-Some.ensures.value ∙ c.requires.index c.args.node) in
    (place_found ks c.args.node c.in-Some.place.now p).0

pub returns-in-Some-clause-small : goal.returns-in-Some-clause-small
returns-in-Some-clause-small c =
    let ks = c.args.nodes.now.items in
    let p : place_in ks c.args.node ≡ Some c.in-Some.place.now = sym (c.in-Some.ensures.value ∙ c.requires.index c.args.node) in
    let l = (place_found ks c.args.node c.in-Some.place.now p).2 in
    let few = c.requires.few in
    let t : c.in-Some.place.now < 2147483648 = omega (arith, l, few) in
    t

pub returns-in-Some-clause-within : goal.returns-in-Some-clause-within
returns-in-Some-clause-within c =
    let ks = c.args.nodes.now.items in
    let p : place_in ks c.args.node ≡ Some c.in-Some.place.now = sym (c.in-Some.ensures.value ∙ c.requires.index c.args.node) in
    (place_found ks c.args.node c.in-Some.place.now p).2

pub add-requires-clause-fresh : goal.add-requires-clause-fresh
add-requires-clause-fresh c =
    let ks = c.args.nodes.now.items in
    place_missing ks c.args.node (not_found option_copied refl c.get.result (place_in ks c.args.node) (c.get.ensures.value ∙ c.requires.index c.args.node) c.in_default.not-Some)

pub returns-clause-keys : goal.returns-clause-keys
returns-clause-keys c =
    let ks = c.args.nodes.now.items in
    let f = place_missing ks c.args.node (not_found option_copied refl c.get.result (place_in ks c.args.node) (c.get.ensures.value ∙ c.requires.index c.args.node) c.in_default.not-Some) in
    added_nodes c.add.result ks c.add.new.nodes.items c.args.node f c.add.ensures.nodes

pub returns-clause-found : goal.returns-clause-found
returns-clause-found c =
    let ks = c.args.nodes.now.items in
    added_place c.add.result ks c.add.new.nodes.items c.args.node c.add.ensures.nodes c.add.ensures.place
