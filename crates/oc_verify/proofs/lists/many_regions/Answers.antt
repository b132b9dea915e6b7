use Rattle.std.proofs.Common.{rules, ◌≡◌, ℕ, suc, ◌+◌, ◌-◌, List, [], ◌∷◌, ◌++◌, Result, Err, Vec, Global, arith, ap, subst, sym, ◌∙◌}
use Rattle.std.specs.Prelude.{map}
use Rattle.std.proofs.lemmas.List.{map-append}
use Rattle.oc_tree.specs.declared.said.Target.{Target}
use Rattle.oc_verify.specs.declared.fault.ReadFault.{ReadFault}
use Rattle.oc_verify.specs.Reading.{list_at, many_at, target_at}
use Rattle.oc_verify.specs.Reads.{Reads}
use Rattle.oc_verify.proofs.Many.{IsMany, many_begun, many_more, many_done, many_faults}
use Rattle.oc_verify.proofs.lists.many_regions.Goals as goal

abbrev seen : List (Vec Target Global) → List (List Target)
seen rs = map (λ r. r.items) rs

pub loop-done-init : goal.loop-done-init
loop-done-init c =
    let none : c.new-regions.result.items ≡ [] = search rules in
    let all : c.args.count ≡ c.args.count - 0 = omega arith in
    subst (λ (rs : List (Vec Target Global)). IsMany (list_at target_at) c.args.count c.args.reader.now (seen rs) (c.args.count - 0) c.args.reader.now) (sym none)
    (subst (λ (m : ℕ). IsMany (list_at target_at) c.args.count c.args.reader.now [] m c.args.reader.now) all (many_begun (list_at target_at) c.args.count c.args.reader.now))

pub returns-in_err-region : goal.returns-in_err-region
returns-in_err-region c =
    let l : c.args.count - c.loop-done._done ≡ suc (c.args.count - (c.loop-done._done + 1)) = omega (arith, c.loop-done-test.true) in
    let q : c.from_residual.result ≡ Err c.in_err-region.field-0.0 = search rules in
    subst (λ (r : Result (Vec (Vec Target Global) Global) ReadFault). Reads (λ v. seen v.items) r c.region.new.reader (many_at (list_at target_at) c.args.count c.args.reader.now)) (sym q)
    (many_faults (λ (v : Vec (Vec Target Global) Global). seen v.items) (list_at target_at) c.args.count c.args.reader.now (seen c.loop-done.regions.items)
    (c.args.count - c.loop-done._done) (c.args.count - (c.loop-done._done + 1)) c.loop-done.reader c.region.new.reader c.in_err-region.field-0.0 l c.in_err-region.ensures c.loop-done.invariant)

pub loop-done-preserved : goal.loop-done-preserved
loop-done-preserved c =
    let l : c.args.count - c.loop-done._done ≡ suc (c.args.count - (c.loop-done._done + 1)) = omega (arith, c.loop-done-test.true) in
    let more : c.push.new.self.items ≡ c.loop-done.regions.items ++ c.in_ok-region.region ∷ [] = search rules in
    let items : seen c.push.new.self.items ≡ seen c.loop-done.regions.items ++ c.in_ok-region.region.items ∷ [] =
    ap seen more ∙ map-append (λ r. r.items) c.loop-done.regions.items (c.in_ok-region.region ∷ []) in
    subst (λ (xs : List (List Target)). IsMany (list_at target_at) c.args.count c.args.reader.now xs (c.args.count - (c.loop-done._done + 1)) c.region.new.reader) (sym items)
    (many_more (list_at target_at) c.args.count c.args.reader.now (seen c.loop-done.regions.items) (c.args.count - c.loop-done._done) (c.args.count - (c.loop-done._done + 1))
    c.loop-done.reader c.region.new.reader c.in_ok-region.region.items l c.in_ok-region.ensures c.loop-done.invariant)

pub returns : goal.returns
returns c =
    let z : c.args.count - c.loop-done._done ≡ 0 = omega (arith, c.loop-done-test.false) in
    many_done (list_at target_at) c.args.count c.args.reader.now (seen c.loop-done.regions.items) (c.args.count - c.loop-done._done) c.loop-done.reader z c.loop-done.invariant
