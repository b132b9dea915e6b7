use Rattle.std.proofs.Common.{rules, ◌≡◌, ◌<◌, ◌≤◌, ◌+◌, ◌++◌, ◌∷◌, [], length, map, drop, get_or, None, refl, sym, subst, ◌∙◌}
use Rattle.std.specs.List.{All}
use Rattle.std.proofs.lemmas.List.{drop_all, drop_more}
use Rattle.std.proofs.lemmas.List.Elements.{All-push}
use Rattle.oc_verify.specs.Merging.{least, leasts}
use Rattle.oc_verify.specs.Stacks.{stack}
use Rattle.oc_verify.specs.Told.{kind_of, kinds}
use Rattle.oc_verify.proofs.TopLaws.{drop_next, least_done, least_next, least_stops, onto}
use Rattle.oc_verify.proofs.kinds.merge_top.Goals as goal

pub returns-in_default-least-clause-fault : goal.returns-in_default-least-clause-fault
returns-in_default-least-clause-fault c =
    let codes = c.args.codes.now in
    let ks = c.args.tops.now in
    let i = c.loop-code.code-index in
    let low : i < length codes = search rules in
    let stops : least (kind_of (get_or codes i 0)) (kind_of c.in-Some.other) ≡ None = search rules in (
      refl,
      refl,
      least_stops ks (drop i codes) c.loop-code.both.items (drop (i + 1) codes) c.loop-code.rest c.in-Some.below (get_or codes i 0) c.in-Some.other
          (leasts (map kind_of codes) (kinds ks c.args.ops)) (drop_more codes i 0 low) c.in-Some.ensures.top stops c.loop-code.invariant.whole,
    )

pub loop-code-preserved : goal.loop-code-preserved
loop-code-preserved c =
    let codes = c.args.codes.now in
    let ks = c.args.tops.now in
    let i = c.loop-code.code-index in
    let both = c.loop-code.both.items in
    let one = c.in-Some-least.one in
    let low : i < length codes = search rules in
    let next : drop i codes ≡ get_or codes i 0 ∷ drop (i + 1) codes = drop_more codes i 0 low in
    let s : stack ks c.loop-code.rest ≡ c.in-Some.other ∷ stack ks c.in-Some.below = c.in-Some.ensures.top in
    let pushed : c.push.new.self.items ≡ both ++ one ∷ [] = search rules in
    let W = leasts (map kind_of codes) (kinds ks c.args.ops) in
    record {
      rest = c.in-Some.ensures.within;
      below = sym (drop_next (stack ks c.args.ops) (stack ks c.in-Some.below) i c.in-Some.other (sym c.loop-code.invariant.below ∙ s));
      sized = search rules;
      small = subst (All (λ x. x < 8589934592)) (sym pushed) (All-push (λ x. x < 8589934592) both one c.loop-code.invariant.small c.in-Some-least.ensures.small);
      whole = subst (λ xs. W ≡ onto (map kind_of xs) (leasts (map kind_of (drop (i + 1) codes)) (kinds ks c.in-Some.below))) (sym pushed)
          (least_next ks (drop i codes) both (drop (i + 1) codes) c.loop-code.rest c.in-Some.below (get_or codes i 0) c.in-Some.other one W next s c.in-Some-least.ensures.least
          c.loop-code.invariant.whole);
    }

pub returns-clause-least : goal.returns-clause-least
returns-clause-least c =
    let codes = c.args.codes.now in
    let past : length codes ≤ c.loop-code.code-index = search rules in
    least_done c.args.tops.now (drop c.loop-code.code-index codes) c.loop-code.both.items c.loop-code.rest (leasts (map kind_of codes) (kinds c.args.tops.now c.args.ops))
    (drop_all c.loop-code.code-index codes past) c.loop-code.invariant.whole
