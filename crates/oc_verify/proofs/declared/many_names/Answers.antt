use Rattle.std.proofs.Common.{rules, ◌≡◌, ℕ, suc, ◌+◌, ◌-◌, List, [], ◌∷◌, ◌++◌, Result, Err, Vec, Global, arith, ap, subst, sym, ◌∙◌, refl, append_assoc}
use Rattle.std.proofs.lemmas.List.{append-nil}
use Rattle.oc_tree.specs.Names.{Text}
use Rattle.oc_verify.specs.declared.fault.ReadFault.{ReadFault}
use Rattle.oc_verify.specs.Reading.{bare_at, named_at}
use Rattle.oc_verify.specs.Reads.{Reads}
use Rattle.oc_verify.proofs.Many.{IsPart, part_begun, part_more, part_faults, part_done}
use Rattle.oc_verify.proofs.declared.many_names.Goals as goal

pub loop-done-init : goal.loop-done-init
loop-done-init c =
    let none : c.new-names.result.items ≡ [] = search rules in
    let all : c.args.count ≡ c.args.count - 0 = omega arith in
    record {
      part = subst (λ (xs : List (Text)). IsPart bare_at c.args.count c.args.seen.now c.args.reader.now xs (c.args.count - 0) c.args.seen.now c.args.reader.now) (sym none)
          (subst (λ (m : ℕ). IsPart bare_at c.args.count c.args.seen.now c.args.reader.now [] m c.args.seen.now c.args.reader.now) all
          (part_begun bare_at c.args.count c.args.seen.now c.args.reader.now));
      seen = sym (ap (λ xs. c.args.seen.now ++ xs) none ∙ append-nil c.args.seen.now);
    }

pub returns-in_err-name-clause-read : goal.returns-in_err-name-clause-read
returns-in_err-name-clause-read c =
    let l : c.args.count - c.loop-done._done ≡ suc (c.args.count - (c.loop-done._done + 1)) = omega (arith, c.loop-done-test.true) in
    let q : c.from_residual.result ≡ Err c.in_err-name.field-0.0 = search rules in
    subst (λ (r : Result (Vec (Text) Global) ReadFault). Reads (λ v. v.items) r c.fresh.new.reader (named_at bare_at c.args.seen.now c.args.count c.args.reader.now)) (sym q)
    (part_faults bare_at c.args.count c.args.seen.now c.args.reader.now c.loop-done.names.items (c.args.count - c.loop-done._done) (c.args.count - (c.loop-done._done + 1))
    c.loop-done.seen c.loop-done.reader l c.loop-done.invariant.part (λ (v : Vec (Text) Global). v.items) c.fresh.new.reader c.in_err-name.field-0.0 c.in_err-name.ensures.read)

pub loop-done-preserved : goal.loop-done-preserved
loop-done-preserved c =
    let l : c.args.count - c.loop-done._done ≡ suc (c.args.count - (c.loop-done._done + 1)) = omega (arith, c.loop-done-test.true) in
    let items : c.push.new.self.items ≡ c.loop-done.names.items ++ c.in_ok-name.name ∷ [] = search rules in
    let told : c.fresh.new.seen ≡ c.loop-done.seen ++ c.in_ok-name.name ∷ [] = c.in_ok-name.ensures.seen in
    let part : IsPart bare_at c.args.count c.args.seen.now c.args.reader.now (c.loop-done.names.items ++ c.in_ok-name.name ∷ []) (c.args.count - (c.loop-done._done + 1))
    (c.loop-done.seen ++ c.in_ok-name.name ∷ []) c.fresh.new.reader =
    part_more bare_at c.args.count c.args.seen.now c.args.reader.now c.loop-done.names.items (c.args.count - c.loop-done._done) (c.args.count - (c.loop-done._done + 1))
    c.loop-done.seen c.loop-done.reader l c.loop-done.invariant.part c.in_ok-name.name c.fresh.new.reader c.fresh.new.reader c.in_ok-name.name c.in_ok-name.ensures.read refl in
    let moved : IsPart bare_at c.args.count c.args.seen.now c.args.reader.now c.push.new.self.items (c.args.count - (c.loop-done._done + 1)) c.fresh.new.seen c.fresh.new.reader =
    subst (λ (xs : List (Text)). IsPart bare_at c.args.count c.args.seen.now c.args.reader.now xs (c.args.count - (c.loop-done._done + 1)) c.fresh.new.seen c.fresh.new.reader) (sym items)
    (subst (λ (ss : List Text). IsPart bare_at c.args.count c.args.seen.now c.args.reader.now (c.loop-done.names.items ++ c.in_ok-name.name ∷ [])
    (c.args.count - (c.loop-done._done + 1)) ss c.fresh.new.reader) (sym told) part) in
    record {
      part = moved;
      seen = told ∙ ap (λ s. s ++ c.in_ok-name.name ∷ []) c.loop-done.invariant.seen ∙ append_assoc c.args.seen.now c.loop-done.names.items (c.in_ok-name.name ∷ [])
          ∙ ap (λ s. c.args.seen.now ++ s) (sym items);
    }

pub returns-clause-read : goal.returns-clause-read
returns-clause-read c =
    let z : c.args.count - c.loop-done._done ≡ 0 = omega (arith, c.loop-done-test.false) in
    part_done bare_at c.args.count c.args.seen.now c.args.reader.now c.loop-done.names.items (c.args.count - c.loop-done._done) c.loop-done.seen c.loop-done.reader z c.loop-done.invariant.part
