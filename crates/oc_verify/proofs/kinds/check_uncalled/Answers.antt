use Rattle.std.proofs.Common.{rules, ◌≡◌, ◌<◌, ◌≤◌, ℕ, Bool, true, false, Some, length, get_or, map, arith, ap, refl, sym, ◌∙◌, ⊎_elim}
use Rattle.std.specs.Prelude.{◌==◌, replicate, slice_get}
use Rattle.std.proofs.lemmas.Bool.Decides.{eqb_tells}
use Rattle.std.proofs.lemmas.Option.{slice_get_read}
use Rattle.std.proofs.Math.Arith.{lt_of_le-ne}
use Rattle.oc_isa.specs.declared.image.ImageFunction.{ImageFunction}
use Rattle.oc_isa.specs.declared.instr.Instr.{Instr}
use Rattle.oc_isa.specs.declared.instr.Placed.{Placed}
use Rattle.oc_isa.specs.Image.{Parts, parts_of}
use Rattle.oc_verify.specs.Own.{own_list, plain, plain_right}
use Rattle.oc_verify.specs.Rules.{main_number, on_function, own_slots, slot_right}
use Rattle.oc_verify.specs.Tables.{plain_slots}
use Rattle.oc_verify.specs.Told.{kind_of}
use Rattle.oc_verify.proofs.Owners.{stands}
use Rattle.oc_verify.proofs.FactLaws.{here}
use Rattle.oc_verify.proofs.PlainLaws.{plain_tells}
use Rattle.oc_verify.proofs.SeenLaws.{own_slots_are}
use Rattle.oc_verify.proofs.kinds.check_uncalled.Goals as goal

-- what an instruction names is tested as in the list of slots
told : (i : Parts) (f : ℕ) (g : ImageFunction) (x : Instr) (b : Bool) → slice_get i.functions f ≡ Some g → (f == main_number i) ≡ false → plain_right g x ≡ b → slot_right (plain_slots i f) x ≡ b
told i f g x b s n e =
    let q : own_list (plain g) ≡ plain_slots i f = own_slots_are i f g (replicate g.params 0) false (sym n) s
    ∙ ap (λ k. own_slots i f (map kind_of (replicate k 0))) (sym (ap (on_function 0 (λ (h : ImageFunction). h.params)) s)) in
    sym (ap (λ l. slot_right l x) q) ∙ sym (plain_tells g x) ∙ e

pub returns-then-not-is_plain_right-clause-fault : goal.returns-then-not-is_plain_right-clause-fault
returns-then-not-is_plain_right-clause-fault c =
    let F = c.args.facts.now in
    let f = c.args.function in
    let g = c.index.result.now in
    let x = c.index-in-loop-at.result.now in
    let s = slice_get_read F.functions (length F.functions) f g refl c.requires.function (c.index.ensures ∙ ap (λ (k : Parts). get_or k.functions f g) c.image-image.ensures.image) in
    let e = here (parts_of c.image-image.result.now) F c.image-image.ensures.image f c.stretch-entry.result c.stretch-entry.ensures c.loop-at.at c.loop-at.auto.at
    c.loop-at-test.true x c.index-in-loop-at.ensures in
    let h : c.is_plain_right.result ≡ false = search rules in
    (refl, x, e.1, told F f g x.instr false s c.requires.other (sym c.is_plain_right.ensures ∙ h))

pub loop-at-preserved : goal.loop-at-preserved
loop-at-preserved c = λ a p l u e.
    let F = c.args.facts.now in
    let f = c.args.function in
    let g = c.index.result.now in
    let x = c.index-in-loop-at.result.now in
    let i = slice_get_read F.functions (length F.functions) f g refl c.requires.function (c.index.ensures ∙ ap (λ (k : Parts). get_or k.functions f g) c.image-image.ensures.image) in
    let s = here (parts_of c.image-image.result.now) F c.image-image.ensures.image f c.stretch-entry.result c.stretch-entry.ensures c.loop-at.at c.loop-at.auto.at
    c.loop-at-test.true x c.index-in-loop-at.ensures in
    let h : c.is_plain_right.result ≡ true = search rules in
    let t = told F f g x.instr true i c.requires.other (sym c.is_plain_right.ensures ∙ h) in
    ⊎_elim
    (λ q. let z : Some x ≡ Some p = sym s.0 ∙ ap (slice_get F.code) (sym q.1) ∙ e in
    let same : x ≡ p = (cc) in
    ap (λ (y : Placed). slot_right (plain_slots F f) y.instr) (sym same) ∙ t)
    (λ q. c.loop-at.invariant a p l (lt_of_le-ne (omega (arith, u)) q.1) e)
    (eqb_tells a c.loop-at.at)

pub returns-clause-right : goal.returns-clause-right
returns-clause-right c = λ a p e.
    let t = stands c.args.facts.now c.args.function a p e in
    let S = c.stretch-entry.ensures in
    let z : Some t.home ≡ Some S.0 = sym t.is ∙ S.1 in
    let q : t.home ≡ S.0 = (cc) in
    let low : c.stretch-entry.result.0 ≤ a = (let x = S.2 in let y = t.low in let w = ap (λ g. g.entry) q in omega (arith, x, y, w)) in
    let high : a < c.loop-at.at = (let x = S.3 in let y = t.high in let v = c.loop-at-test.false in omega (arith, x, y, v)) in
    c.loop-at.invariant a p low high t.found
