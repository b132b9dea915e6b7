use Rattle.std.proofs.Common.{rules, ◌≡◌, ◌≤◌, ◌<◌, ◌+◌, ℕ, [], Some, None, Option, true, false, length, get_or, is_eq, nat_cmp, nat_lt, ap, refl, sym, subst, ◌∙◌, ⊎_elim, arith}
use Rattle.std.specs.Prelude.{slice_get}
use Rattle.std.specs.List.{list_any}
use Rattle.std.specs.BTreeSet.{contains}
use Rattle.std.proofs.lemmas.Option.{slice_get_read}
use Rattle.oc_isa.specs.declared.instr.Placed.{Placed}
use Rattle.oc_isa.specs.declared.instr.Instr.TheVariants.{Call}
use Rattle.oc_isa.specs.Image.{Parts, parts_of}
use Rattle.oc_verify.specs.declared.fault.VerifyError.{VerifyError}
use Rattle.oc_verify.specs.declared.fault.VerifyError.TheVariants as errors
use Rattle.oc_verify.specs.Facts.{IsStretch}
use Rattle.oc_verify.specs.Rules.{names_exist, params_of}
use Rattle.oc_verify.specs.Tables.{BlamesMixed, Calls, Cells, IsPassed, MixesAt, Passed, SeenCall, call_number, passed_seen, with_calls}
use Rattle.oc_verify.specs.Told.{kinds, pair_of}
use Rattle.oc_verify.specs.Typing.{Pair}
use Rattle.oc_verify.specs.Walks.{table_marks}
use Rattle.oc_verify.specs.Work.{Marks}
use Rattle.oc_verify.proofs.FactLaws.{here}
use Rattle.oc_verify.proofs.Owners.{stands}
use Rattle.oc_verify.proofs.PassLaws.{calls_new, calls_old, calls_parts, pass_begun, passed_as}
use Rattle.oc_verify.proofs.SeenLaws.{CallsEach, call_kept, call_passed, call_suits, calls_more, calls_on, calls_one, cell_call}
use Rattle.oc_verify.proofs.SeenLaws.{joins_again, kinds_high, no_call_blank, no_call_other, none_passed, seen_long}
use Rattle.oc_verify.proofs.kinds.pass_all.Goals as goal
use Rattle.oc_verify.proofs.kinds.pass_all.Goals.{in-Some+in-Call+in_ok-is_new+then-branch+in_ok-pass, in-Some+in-Call+in_ok-is_new+else-branch, in_default, in-Some+in_default-instr}

-- what was read of the table
cell : (cs : Cells) (i : Parts) (f : ℕ) (s : ℕ × ℕ) → length cs ≡ length i.code → IsStretch i f s → (a : ℕ) → a < s.1 → (o : Option (ℕ × ℕ)) → o ≡ get_or cs a o → slice_get cs a ≡ Some o
cell cs i f s n S a l o e = let m = S.4 in slice_get_read cs (length cs) a o refl (omega (arith, n, m, l)) e

no_pair : (o : Option (ℕ × ℕ)) → ((n : ℕ × ℕ) → o ≡ Some n → ⊥) → o ≡ None
no_pair None h = refl
no_pair (Some n) h = absurd (h n refl)

-- a call names a function
callee : (i : Parts) (f g : ℕ) (x : Placed) → names_exist i f x.instr ≡ true → x.instr ≡ Call g → g < length i.functions
callee i f g x n e = let q : nat_lt g (length i.functions) ≡ true = sym (ap (names_exist i f) e) ∙ n in grind (arith, q)

blames : (i : Parts) (f : ℕ) (tab : Marks) (old : Passed) (e : VerifyError) → MixesAt i f tab old e → BlamesMixed i f tab old e
blames i f tab old (errors.Refused place rule) m = m
blames i f tab old errors.Memory m = tt

-- a call stands in the function's code
outside : (i : Parts) (tab : Marks) (f : ℕ) (s : ℕ × ℕ) → IsStretch i f s → (g a : ℕ) (p : Pair) → SeenCall i tab f g a p → (s.0 ≤ a) × (a < s.1)
outside i tab f s S g a p c =
    let t = stands i f a c.placed c.found in
    let z : Some t.home ≡ Some S.0 = sym t.is ∙ S.1 in
    let q : t.home ≡ S.0 = (cc) in
    (let x = S.2 in let y = t.low in let w = ap (λ h. h.entry) q in omega (arith, x, y, w), let x = S.3 in let y = t.high in omega (arith, x, y))

-- all of its calls stand below both addresses
ended : (i : Parts) (tab : Marks) (f to up : ℕ) (ps : Passed) (seen : Calls) → ((g a : ℕ) (p : Pair) → SeenCall i tab f g a p → (a < to) × (a < up))
    → IsPassed i (with_calls seen f to) tab ps → IsPassed i (with_calls seen f up) tab ps
ended i tab f to up ps seen low P = passed_as i (with_calls seen f to) (with_calls seen f up) tab tab ps
    (λ h g a p d s. (⊎_elim (λ q. calls_old seen f to h a q) (λ q. calls_new seen f to h a q.0 (low g a p (subst (λ k. SeenCall i tab k g a p) q.0 s)).0) (calls_parts seen f up h a d), s))
    (λ h g a p d s. (⊎_elim (λ q. calls_old seen f up h a q) (λ q. calls_new seen f up h a q.0 (low g a p (subst (λ k. SeenCall i tab k g a p) q.0 s)).1) (calls_parts seen f to h a d), s))
    P

pub loop-at-init : goal.loop-at-init
loop-at-init c = record {
  passed = λ seen P. pass_begun c.args.facts.now (table_marks c.args.table.now) c.args.function (passed_seen c.args.passed.now.items) seen c.stretch-entry.result.0
      (λ g a p s. (outside c.args.facts.now (table_marks c.args.table.now) c.args.function c.stretch-entry.result c.stretch-entry.ensures g a p s).0) P;
  kept = λ k n. refl;
  calls = λ k m. absurd (let e : c.new-calls.result.keys ≡ [] = search rules in let z : true ≡ false = sym m ∙ ap (list_any (λ x. is_eq (nat_cmp k x))) e in (cc));
}

pub returns-clause-passed : goal.returns-clause-passed
returns-clause-passed c = λ seen P.
    let S = c.stretch-entry.ensures in
    let high : c.stretch-entry.result.1 ≤ c.loop-at.at = c.loop-at-test.false in
    ended c.args.facts.now (table_marks c.args.table.now) c.args.function c.loop-at.at (length c.args.facts.now.code) (passed_seen c.loop-at.passed.items) seen
    (λ g a p s.
    let o = (outside c.args.facts.now (table_marks c.args.table.now) c.args.function c.stretch-entry.result S g a p s).1 in
    let e = S.4 in
    (omega (arith, o, high), omega (arith, o, e)))
    (c.loop-at.invariant.passed seen P)

pub pass-requires-clause-function : goal.pass-requires-clause-function
pass-requires-clause-function c =
    let F = c.args.facts.now in
    let x = c.index-in-Some.result.now in
    let s = here (parts_of c.image-image.result.now) F c.image-image.ensures.image c.args.function c.stretch-entry.result c.stretch-entry.ensures c.loop-at.at
    c.loop-at.auto.at c.loop-at-test.true x c.index-in-Some.ensures in
    callee F c.args.function c.in-Call.f x (c.requires.named c.loop-at.at x s.1).0 c.in-Call.is

pub pass-requires-clause-callee : goal.pass-requires-clause-callee
pass-requires-clause-callee c =
    let F = c.args.facts.now in
    let x = c.index-in-Some.result.now in
    let s = here (parts_of c.image-image.result.now) F c.image-image.ensures.image c.args.function c.stretch-entry.result c.stretch-entry.ensures c.loop-at.at
    c.loop-at.auto.at c.loop-at-test.true x c.index-in-Some.ensures in
    let l = callee F c.args.function c.in-Call.f x (c.requires.named c.loop-at.at x s.1).0 c.in-Call.is in
    let n = seen_long c.loop-at.passed.items in
    let m = (c.loop-at.invariant.passed c.requires.passed.0 c.requires.passed.1).many in
    omega (arith, l, n, m)

pub pass-requires-clause-ops : goal.pass-requires-clause-ops
pass-requires-clause-ops c =
    let o = cell c.args.table.now.cells.items c.args.facts.now c.args.function c.stretch-entry.result c.requires.table.sized c.stretch-entry.ensures c.loop-at.at
    c.loop-at-test.true c.index.result.now c.index.ensures in
    (c.requires.table.cells c.loop-at.at (c.in-Some.ops, c.in-Some.field-0-1) (o ∙ ap Some c.in-Some.is)).0

pub pass-requires-clause-deep : goal.pass-requires-clause-deep
pass-requires-clause-deep c =
    let F = c.args.facts.now in
    let t = c.args.table.now in
    let x = c.index-in-Some.result.now in
    let n : ℕ × ℕ = (c.in-Some.ops, c.in-Some.field-0-1) in
    let s = here (parts_of c.image-image.result.now) F c.image-image.ensures.image c.args.function c.stretch-entry.result c.stretch-entry.ensures c.loop-at.at
    c.loop-at.auto.at c.loop-at-test.true x c.index-in-Some.ensures in
    let o = cell t.cells.items F c.args.function c.stretch-entry.result c.requires.table.sized c.stretch-entry.ensures c.loop-at.at c.loop-at-test.true c.index.result.now c.index.ensures in
    let d = c.requires.deep c.in-Call.f c.loop-at.at (pair_of t.tops t.regions n) (cell_call F t c.args.function c.in-Call.f c.loop-at.at x n s.1 c.in-Call.is (o ∙ ap Some c.in-Some.is)) in
    let h = kinds_high t.tops c.in-Some.ops in
    omega (arith, d, h)

pub pass-requires-clause-sized : goal.pass-requires-clause-sized
pass-requires-clause-sized c = (c.loop-at.invariant.passed c.requires.passed.0 c.requires.passed.1).sized c.in-Call.f

pub pass-requires-clause-small : goal.pass-requires-clause-small
pass-requires-clause-small c = (c.loop-at.invariant.passed c.requires.passed.0 c.requires.passed.1).small c.in-Call.f

pub returns-in_err-pass-clause-fault : goal.returns-in_err-pass-clause-fault
returns-in_err-pass-clause-fault c =
    let F = c.args.facts.now in
    let t = c.args.table.now in
    let x = c.index-in-Some.result.now in
    let n : ℕ × ℕ = (c.in-Some.ops, c.in-Some.field-0-1) in
    let s = here (parts_of c.image-image.result.now) F c.image-image.ensures.image c.args.function c.stretch-entry.result c.stretch-entry.ensures c.loop-at.at
    c.loop-at.auto.at c.loop-at-test.true x c.index-in-Some.ensures in
    let o = cell t.cells.items F c.args.function c.stretch-entry.result c.requires.table.sized c.stretch-entry.ensures c.loop-at.at c.loop-at-test.true c.index.result.now c.index.ensures in
    let e = c.in_err-pass.field-0.0 in
    let b : BlamesMixed F c.args.function (table_marks t) (passed_seen c.args.passed.now.items) e = blames F c.args.function (table_marks t) (passed_seen c.args.passed.now.items) e (record {
      callee = c.in-Call.f;
      address = c.loop-at.at;
      pair = pair_of t.tops t.regions n;
      call = cell_call F t c.args.function c.in-Call.f c.loop-at.at x n s.1 c.in-Call.is (o ∙ ap Some c.in-Some.is);
      before = passed_seen c.loop-at.passed.items;
      passed = c.loop-at.invariant.passed;
      mixes = c.in_err-pass.ensures.fault;
    }) in
    search rules

pub loop-at-preserved : goal.loop-at-preserved
loop-at-preserved c =
    let F = c.args.facts.now in
    let t = c.args.table.now in
    let f = c.args.function in
    let place = c.loop-at.at in
    let first = passed_seen c.args.passed.now.items in
    let old = passed_seen c.loop-at.passed.items in
    let o = cell t.cells.items F f c.stretch-entry.result c.requires.table.sized c.stretch-entry.ensures place c.loop-at-test.true c.index.result.now c.index.ensures in
    elim c.match-index.branch [
      | in-Some+in-Call+in_ok-is_new+then-branch+in_ok-pass w ↦
          let x = w.index-in-Some.result.now in
          let n : ℕ × ℕ = (w.in-Some.ops, w.in-Some.field-0-1) in
          let s = here (parts_of c.image-image.result.now) F c.image-image.ensures.image f c.stretch-entry.result c.stretch-entry.ensures place c.loop-at.auto.at
          c.loop-at-test.true x w.index-in-Some.ensures in
          let new = passed_seen w.pass.new.passed.items in
          let J = w.in_ok-pass.ensures.joins in
          let call = cell_call F t f w.in-Call.f place x n s.1 w.in-Call.is (o ∙ ap Some w.in-Some.is) in
          let deep = c.requires.deep w.in-Call.f place (pair_of t.tops t.regions n) call in
          record {
            passed = λ seen P. subst (λ v. IsPassed F (with_calls seen f (place + 1)) (table_marks t) (passed_seen v.items)) (sym w.passed-is)
                (call_passed F t f place first old c.loop-at.invariant.passed w.in-Call.f x n new s.1 w.in-Call.is (o ∙ ap Some w.in-Some.is) J deep seen P);
            kept = λ k l. ap (λ v. slice_get (passed_seen v.items) k) w.passed-is
                ∙ call_kept F c.image-image.ensures.laid.laid f place w.in-Call.f x (params_of F w.in-Call.f) (kinds t.tops w.in-Some.ops) old new s.1 w.in-Call.is J k l
                ∙ c.loop-at.invariant.kept k l;
            calls = subst (CallsEach F t f (place + 1)) (sym w.calls-is)
                (calls_more F t f place w.in-Call.f x n c.loop-at.calls w.is_new.new.calls s.1 w.in-Call.is (o ∙ ap Some w.in-Some.is) w.in_ok-is_new.ensures.small c.loop-at.invariant.calls
                w.in_ok-is_new.ensures.kept);
          }
      | in-Some+in-Call+in_ok-is_new+else-branch w ↦
          let x = w.index-in-Some.result.now in
          let n : ℕ × ℕ = (w.in-Some.ops, w.in-Some.field-0-1) in
          let s = here (parts_of c.image-image.result.now) F c.image-image.ensures.image f c.stretch-entry.result c.stretch-entry.ensures place c.loop-at.auto.at
          c.loop-at-test.true x w.index-in-Some.ensures in
          let again : contains nat_cmp c.loop-at.calls (call_number w.in-Call.f w.in-Some.ops) ≡ true = search rules in
          let one = calls_one F t f place w.in-Call.f w.in-Some.ops c.loop-at.calls c.loop-at.invariant.calls w.in_ok-is_new.ensures.small again in
          let some = c.requires.passed.0 in
          let P = c.loop-at.invariant.passed some c.requires.passed.1 in
          let J = joins_again F (with_calls some f place) (table_marks t) old w.in-Call.f (kinds t.tops w.in-Some.ops) P (call_suits F t f place w.in-Call.f w.in-Some.ops old some one P) in
          let call = cell_call F t f w.in-Call.f place x n s.1 w.in-Call.is (o ∙ ap Some w.in-Some.is) in
          let deep = c.requires.deep w.in-Call.f place (pair_of t.tops t.regions n) call in
          record {
            passed = λ seen P. subst (λ v. IsPassed F (with_calls seen f (place + 1)) (table_marks t) (passed_seen v.items)) (sym w.passed-is)
                (call_passed F t f place first old c.loop-at.invariant.passed w.in-Call.f x n old s.1 w.in-Call.is (o ∙ ap Some w.in-Some.is) J deep seen P);
            kept = λ k l. ap (λ v. slice_get (passed_seen v.items) k) w.passed-is ∙ c.loop-at.invariant.kept k l;
            calls = subst (CallsEach F t f (place + 1)) (sym w.calls-is)
                (calls_more F t f place w.in-Call.f x n c.loop-at.calls w.is_new.new.calls s.1 w.in-Call.is (o ∙ ap Some w.in-Some.is) w.in_ok-is_new.ensures.small c.loop-at.invariant.calls
                w.in_ok-is_new.ensures.kept);
          }
      | in_default w ↦
          let none = no_call_blank F t f place (o ∙ ap Some (no_pair c.index.result.now w.in_default.not-Some)) in
          record {
            passed = λ seen P. subst (λ v. IsPassed F (with_calls seen f (place + 1)) (table_marks t) (passed_seen v.items)) (sym w.passed-is)
                (none_passed F t f place first old c.loop-at.invariant.passed none seen P);
            kept = λ k l. ap (λ v. slice_get (passed_seen v.items) k) w.passed-is ∙ c.loop-at.invariant.kept k l;
            calls = subst (CallsEach F t f (place + 1)) (sym w.calls-is) (calls_on F t f place c.loop-at.calls c.loop-at.invariant.calls);
          }
      | in-Some+in_default-instr w ↦
          let x = w.index-in-Some.result.now in
          let s = here (parts_of c.image-image.result.now) F c.image-image.ensures.image f c.stretch-entry.result c.stretch-entry.ensures place c.loop-at.auto.at
          c.loop-at-test.true x w.index-in-Some.ensures in
          let none = no_call_other F (table_marks t) f place x s.1 w.in_default-instr.not-Call in
          record {
            passed = λ seen P. subst (λ v. IsPassed F (with_calls seen f (place + 1)) (table_marks t) (passed_seen v.items)) (sym w.passed-is)
                (none_passed F t f place first old c.loop-at.invariant.passed none seen P);
            kept = λ k l. ap (λ v. slice_get (passed_seen v.items) k) w.passed-is ∙ c.loop-at.invariant.kept k l;
            calls = subst (CallsEach F t f (place + 1)) (sym w.calls-is) (calls_on F t f place c.loop-at.calls c.loop-at.invariant.calls);
          }
    ]
