use Rattle.std.proofs.Common.{rules, ◌≡◌, ℕ, suc, ◌+◌, ◌-◌, List, [], ◌∷◌, ◌++◌, Result, Err, Vec, Global, arith, ap, subst, sym, ◌∙◌, append_assoc}
use Rattle.std.specs.Prelude.{map}
use Rattle.std.proofs.lemmas.List.{append-nil, map-append}
use Rattle.oc_tree.specs.Names.{Text}
use Rattle.oc_isa.specs.declared.image.ImageNv.{ImageNv}
use Rattle.oc_verify.specs.declared.fault.ReadFault.{ReadFault}
use Rattle.oc_verify.specs.Reading.{nv_at, named_at}
use Rattle.oc_verify.specs.Reads.{Reads}
use Rattle.oc_verify.proofs.Many.{IsPart, part_begun, part_more, part_faults, part_faults_behind, part_done}
use Rattle.oc_verify.proofs.declared.many_nvs.Goals as goal

pub loop-done-init : goal.loop-done-init
loop-done-init c =
    let none : c.new-nvs.result.items ≡ [] = search rules in
    let all : c.args.count ≡ c.args.count - 0 = omega arith in
    record {
      part = subst (λ (xs : List (Text × ImageNv)). IsPart nv_at c.args.count c.args.seen.now c.args.reader.now xs (c.args.count - 0) c.args.seen.now c.args.reader.now) (sym none)
          (subst (λ (m : ℕ). IsPart nv_at c.args.count c.args.seen.now c.args.reader.now [] m c.args.seen.now c.args.reader.now) all (part_begun nv_at c.args.count c.args.seen.now c.args.reader.now));
      seen = sym (ap (λ xs. c.args.seen.now ++ map (λ x. x.0) xs) none ∙ append-nil c.args.seen.now);
    }

pub returns-in_err-name-clause-read : goal.returns-in_err-name-clause-read
returns-in_err-name-clause-read c =
    let l : c.args.count - c.loop-done._done ≡ suc (c.args.count - (c.loop-done._done + 1)) = omega (arith, c.loop-done-test.true) in
    let q : c.from_residual.result ≡ Err c.in_err-name.field-0.0 = search rules in
    subst (λ (r : Result (Vec (Text × ImageNv) Global) ReadFault). Reads (λ v. v.items) r c.fresh.new.reader (named_at nv_at c.args.seen.now c.args.count c.args.reader.now)) (sym q)
    (part_faults nv_at c.args.count c.args.seen.now c.args.reader.now c.loop-done.nvs.items (c.args.count - c.loop-done._done) (c.args.count - (c.loop-done._done + 1))
    c.loop-done.seen c.loop-done.reader l c.loop-done.invariant.part (λ (v : Vec (Text × ImageNv) Global). v.items) c.fresh.new.reader c.in_err-name.field-0.0 c.in_err-name.ensures.read)

pub returns-in_err-nv-clause-read : goal.returns-in_err-nv-clause-read
returns-in_err-nv-clause-read c =
    let l : c.args.count - c.loop-done._done ≡ suc (c.args.count - (c.loop-done._done + 1)) = omega (arith, c.loop-done-test.true) in
    let q : c.from_residual-in_err-nv.result ≡ Err c.in_err-nv.field-0.0 = search rules in
    subst (λ (r : Result (Vec (Text × ImageNv) Global) ReadFault). Reads (λ v. v.items) r c.nv.new.reader (named_at nv_at c.args.seen.now c.args.count c.args.reader.now)) (sym q)
    (part_faults_behind nv_at c.args.count c.args.seen.now c.args.reader.now c.loop-done.nvs.items (c.args.count - c.loop-done._done) (c.args.count - (c.loop-done._done + 1))
    c.loop-done.seen c.loop-done.reader l c.loop-done.invariant.part (λ (v : Vec (Text × ImageNv) Global). v.items) c.in_ok-name.name c.fresh.new.reader c.nv.new.reader
    c.in_err-nv.field-0.0 c.in_ok-name.ensures.read c.in_err-nv.ensures.read)

pub loop-done-preserved : goal.loop-done-preserved
loop-done-preserved c =
    let l : c.args.count - c.loop-done._done ≡ suc (c.args.count - (c.loop-done._done + 1)) = omega (arith, c.loop-done-test.true) in
    let items : c.push.new.self.items ≡ c.loop-done.nvs.items ++ c.in_ok-nv.nv ∷ [] = search rules in
    let told : c.fresh.new.seen ≡ c.loop-done.seen ++ c.in_ok-name.name ∷ [] = c.in_ok-name.ensures.seen in
    let part : IsPart nv_at c.args.count c.args.seen.now c.args.reader.now (c.loop-done.nvs.items ++ c.in_ok-nv.nv ∷ []) (c.args.count - (c.loop-done._done + 1))
    (c.loop-done.seen ++ c.in_ok-name.name ∷ []) c.nv.new.reader =
    part_more nv_at c.args.count c.args.seen.now c.args.reader.now c.loop-done.nvs.items (c.args.count - c.loop-done._done) (c.args.count - (c.loop-done._done + 1))
    c.loop-done.seen c.loop-done.reader l c.loop-done.invariant.part c.in_ok-name.name c.fresh.new.reader c.nv.new.reader c.in_ok-nv.nv c.in_ok-name.ensures.read c.in_ok-nv.ensures.read in
    let moved : IsPart nv_at c.args.count c.args.seen.now c.args.reader.now c.push.new.self.items (c.args.count - (c.loop-done._done + 1)) c.fresh.new.seen c.nv.new.reader =
    subst (λ (xs : List (Text × ImageNv)). IsPart nv_at c.args.count c.args.seen.now c.args.reader.now xs (c.args.count - (c.loop-done._done + 1)) c.fresh.new.seen c.nv.new.reader) (sym items)
    (subst (λ (ss : List Text). IsPart nv_at c.args.count c.args.seen.now c.args.reader.now (c.loop-done.nvs.items ++ c.in_ok-nv.nv ∷ []) (c.args.count - (c.loop-done._done + 1))
    ss c.nv.new.reader) (sym told) part) in
    let named : map (λ x. x.0) c.push.new.self.items ≡ map (λ x. x.0) c.loop-done.nvs.items ++ c.in_ok-name.name ∷ [] = ap (map (λ x. x.0)) items
    ∙ map-append (λ x. x.0) c.loop-done.nvs.items (c.in_ok-nv.nv ∷ []) ∙ ap (λ n. map (λ x. x.0) c.loop-done.nvs.items ++ n ∷ []) c.in_ok-nv.ensures.name in
    record {
      part = moved;
      seen = told ∙ ap (λ s. s ++ c.in_ok-name.name ∷ []) c.loop-done.invariant.seen ∙ append_assoc c.args.seen.now (map (λ x. x.0) c.loop-done.nvs.items) (c.in_ok-name.name ∷ [])
          ∙ ap (λ s. c.args.seen.now ++ s) (sym named);
    }

pub returns-clause-read : goal.returns-clause-read
returns-clause-read c =
    let z : c.args.count - c.loop-done._done ≡ 0 = omega (arith, c.loop-done-test.false) in
    part_done nv_at c.args.count c.args.seen.now c.args.reader.now c.loop-done.nvs.items (c.args.count - c.loop-done._done) c.loop-done.seen c.loop-done.reader z c.loop-done.invariant.part
