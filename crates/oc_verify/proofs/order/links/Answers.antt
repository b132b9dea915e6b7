use Rattle.std.proofs.Common.{rules, ◌≡◌, ◌<◌, ◌≤◌, ◌+◌, ◌++◌, ◌∷◌, length, drop, get_or, ap, sym, subst, ◌∙◌}
use Rattle.std.specs.Prelude.{List, pos, slice_get}
use Rattle.oc_isa.specs.declared.instr.Instr.TheVariants.{Push}
use Rattle.std.proofs.lemmas.List.{drop_all, drop_more}
use Rattle.std.proofs.lemmas.Option.{get_or_from_slice_get}
use Rattle.oc_isa.specs.declared.instr.Placed.{Placed}
use Rattle.oc_isa.specs.Image.{parts_of}
use Rattle.oc_verify.specs.Facts.{goes_on}
use Rattle.oc_verify.specs.Rules.{calls_of, link_from, links_on}
use Rattle.oc_verify.proofs.OrderLaws.{all_links, going_low, more_links, placed_there}
use Rattle.oc_verify.proofs.order.links.Goals as goal

pub loop-at-preserved : goal.loop-at-preserved
loop-at-preserved c =
    let code = c.args.image.now.code.items in
    let fs = c.args.image.now.functions.items in
    let a = c.loop-at.at in
    let n = c.going_on-function.result in
    let nothing : Placed = record { instr = Push (pos 0); site = 0 } in
    let low : a < length code = search rules in
    let x = placed_there code a low in
    let g : n ≡ goes_on c.loop-at.function a (slice_get fs (c.loop-at.function + 1)) = search rules in
    let e : drop a code ≡ x.0 ∷ drop (a + 1) code = drop_more code a x.0 low ∙ ap (λ y. y ∷ drop (a + 1) code) (get_or_from_slice_get code a x.0 x.0 x.1) in
    let added : c.add_link.new.links.items ≡ c.loop-at.links.items ++ link_from n x.0.instr = c.in_ok-add_link.ensures
    ∙ ap (λ (y : Placed). c.loop-at.links.items ++ link_from n y.instr)
    (ap (λ (ys : List Placed). get_or ys a nothing) c.deref-placed-items.ensures.value ∙ get_or_from_slice_get code a x.0 nothing x.1) in
    record {
      low = subst (λ m. m ≤ a + 1) (sym g) (going_low c.loop-at.function a (slice_get fs (c.loop-at.function + 1)) c.loop-at.invariant.low);
      whole = ap (λ ls. ls ++ links_on n (a + 1) (drop (n + 1) fs) (drop (a + 1) code)) added
          ∙ more_links c.loop-at.links.items c.loop-at.function a fs x.0 (drop (a + 1) code) code (calls_of (parts_of c.args.image.now)) e c.loop-at.invariant.whole n g;
    }

pub returns : goal.returns
returns c =
    let code = c.args.image.now.code.items in
    let fs = c.args.image.now.functions.items in
    let past : length code ≤ c.loop-at.at = search rules in
    all_links c.loop-at.links.items c.loop-at.function c.loop-at.at (drop (c.loop-at.function + 1) fs) (drop c.loop-at.at code) (calls_of (parts_of c.args.image.now))
    (drop_all c.loop-at.at code past) c.loop-at.invariant.whole
