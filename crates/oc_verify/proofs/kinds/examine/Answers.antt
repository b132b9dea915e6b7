use Rattle.std.proofs.Common.{rules, ◌≡◌, ◌<◌, ℕ, List, [], Some, Bool, true, false, length, get_or, map, ap, refl, sym, subst, ◌∙◌, arith}
use Rattle.std.specs.Prelude.{◌==◌, Option, None, if◌then◌else◌, replicate, slice_get}
use Rattle.std.proofs.lemmas.Option.{slice_get_read}
use Rattle.oc_isa.specs.declared.image.ImageFunction.{ImageFunction}
use Rattle.oc_isa.specs.declared.instr.Placed.{Placed}
use Rattle.oc_isa.specs.Image.{Parts}
use Rattle.oc_verify.specs.Blames.{Blames}
use Rattle.oc_verify.specs.Own.{Own, own_list}
use Rattle.oc_verify.specs.Rules.{code_at, main_number, on_function, own_slots, params_of, slot_right}
use Rattle.oc_verify.specs.Tables.{BlamesSlot, Passed, codes_by, codes_of, is_walked, kinds_of, own_marks, passed_seen, plain_slots, was_passed}
use Rattle.oc_verify.specs.Told.{kind_of}
use Rattle.oc_verify.specs.Walks.{table_marks}
use Rattle.oc_verify.specs.Work.{IsWork}
use Rattle.oc_verify.proofs.KindLaws.{call_deep, is_called}
use Rattle.oc_verify.proofs.SeenLaws.{own_slots_are, seen_long}
use Rattle.oc_verify.proofs.StepLaws.{blame_mixed, blame_slot, no_marks, right_here, still_passed, unwalked, walked_on}
use Rattle.oc_verify.proofs.kinds.examine.Goals as goal

-- the function is in the table of what was passed
inside : (i : Parts) (ps : Passed) (n f : ℕ) → length ps ≡ length i.functions → length ps ≡ n → f < length i.functions → f < n
inside i ps n f e m l = omega (arith, e, m, l)

-- the slots of a function, by the kinds that they have
own_is : (i : Parts) (f : ℕ) (o : Own) (g : ImageFunction) (cs : List ℕ) (m : Bool) → o ≡ record { main = m; function = g; codes = cs } → m ≡ (f == main_number i)
    → slice_get i.functions f ≡ Some g
    → own_list o ≡ own_slots i f (map kind_of o.codes)
own_is i f o g cs m e n s = ap own_list e ∙ own_slots_are i f g cs m n s ∙ ap (λ (x : Own). own_slots i f (map kind_of x.codes)) (sym e)

own_by_codes : (i : Parts) (f : ℕ) (ps : Passed) (o : Own) → own_list o ≡ own_slots i f (map kind_of o.codes) → o.codes ≡ codes_of i ps f → own_list o ≡ own_slots i f (kinds_of i ps f)
own_by_codes i f ps o e q = e ∙ ap (λ cs. own_slots i f (map kind_of cs)) q

-- a function that isn't walked through
uncalled : (m w : Bool) → (if m then true else w) ≡ false → (m ≡ false) × (w ≡ false)
uncalled true w e = absurd (cc)
uncalled false w e = (refl, e)

numbers : (params : ℕ) (o : Option (Option (List ℕ))) → was_passed o ≡ false → replicate params 0 ≡ codes_by params o
numbers params None e = refl
numbers params (Some None) e = refl
numbers params (Some (Some cs)) e = absurd (cc)

plain_as : (i : Parts) (f : ℕ) (ps : Passed) → is_walked i ps f ≡ false → plain_slots i f ≡ own_slots i f (kinds_of i ps f)
plain_as i f ps e = ap (λ cs. own_slots i f (map kind_of cs)) (numbers (params_of i f) (slice_get ps f) (uncalled (f == main_number i) (was_passed (slice_get ps f)) e).1)

pub codes_of-requires-clause-passed : goal.codes_of-requires-clause-passed
codes_of-requires-clause-passed c = inside c.args.facts.now (passed_seen c.args.passed.now.items) (length c.args.passed.now.items) c.args.function
    c.requires.done.2.calls.many (seen_long c.args.passed.now.items) c.requires.function

pub is_walked-requires : goal.is_walked-requires
is_walked-requires c = inside c.args.facts.now (passed_seen c.args.passed.now.items) (length c.args.passed.now.items) c.args.function c.requires.done.2.calls.many
    (seen_long c.args.passed.now.items) c.requires.function

pub new-requires-clause-sized : goal.new-requires-clause-sized
new-requires-clause-sized c = λ main.
    let F = c.args.facts.now in
    let g = c.index.result.now in
    let s = slice_get_read F.functions (length F.functions) c.args.function g refl c.requires.function
    (c.index.ensures ∙ ap (λ (k : Parts). get_or k.functions c.args.function g) c.image-image.ensures.image) in
    ap length c.deref.ensures.value ∙ c.in_ok-codes.ensures.sized ∙ ap (on_function 0 (λ (h : ImageFunction). h.params)) s

pub walk_through-requires-clause-slots : goal.walk_through-requires-clause-slots
walk_through-requires-clause-slots c =
    let F = c.args.facts.now in
    let g = c.index.result.now in
    let s = slice_get_read F.functions (length F.functions) c.args.function g refl c.requires.function
    (c.index.ensures ∙ ap (λ (k : Parts). get_or k.functions c.args.function g) c.image-image.ensures.image) in
    own_is F c.args.function c.in_ok-slots.slots g c.deref.result.now c.is_main-main.result c.in_ok-slots.ensures c.is_main-main.ensures s

pub returns-in_err-check_slots-clause-blames : goal.returns-in_err-check_slots-clause-blames
returns-in_err-check_slots-clause-blames c =
    let F = c.args.facts.now in
    let f = c.args.function in
    let ps = passed_seen c.args.passed.now.items in
    let D = c.requires.done in
    let g = c.index.result.now in
    let s = slice_get_read F.functions (length F.functions) f g refl c.requires.function (c.index.ensures ∙ ap (λ (k : Parts). get_or k.functions f g) c.image-image.ensures.image) in
    let o = own_is F f c.in_ok-slots.slots g c.deref.result.now c.is_main-main.result c.in_ok-slots.ensures c.is_main-main.ensures s in
    let q : c.in_ok-slots.slots.codes ≡ codes_of F ps f = ap (λ (x : Own). x.codes) c.in_ok-slots.ensures ∙ c.deref.ensures.value ∙ c.in_ok-codes.ensures.codes in
    let e = c.in_err-check_slots.field-0.0 in
    let b : Blames F e = blame_slot F c.image-image.ensures.laid.laid c.requires.ranked.0 c.requires.ranked.1 D.0 (table_marks c.args.table.now) ps D.2 f D.1 e
    (subst (λ l. BlamesSlot F f l e) (own_by_codes F f ps c.in_ok-slots.slots o q) c.in_err-check_slots.ensures.fault) in
    search rules

pub walk_through-requires-clause-named : goal.walk_through-requires-clause-named
walk_through-requires-clause-named c = c.requires.named c.args.function

pub walk_through-requires-clause-blank : goal.walk_through-requires-clause-blank
walk_through-requires-clause-blank c =
    let D = c.requires.done in
    no_marks c.args.facts.now c.image-image.ensures.laid.laid c.requires.ranked.0 c.requires.ranked.1 D.0 (table_marks c.args.table.now)
    (passed_seen c.args.passed.now.items) D.2 c.args.function D.1

pub returns-in_err-walk_through-clause-blames : goal.returns-in_err-walk_through-clause-blames
returns-in_err-walk_through-clause-blames c =
    let F = c.args.facts.now in
    let f = c.args.function in
    let tab = table_marks c.args.table.now in
    let ps = passed_seen c.args.passed.now.items in
    let laid = c.image-image.ensures.laid.laid in
    let ranks = c.requires.ranked.0 in
    let R = c.requires.ranked.1 in
    let D = c.requires.done in
    let q : c.in_ok-slots.slots.codes ≡ codes_of F ps f = ap (λ (x : Own). x.codes) c.in_ok-slots.ensures ∙ c.deref.ensures.value ∙ c.in_ok-codes.ensures.codes in
    let h : c.is_walked.result ≡ true = search rules in
    let walked : is_walked F ps f ≡ true = sym c.is_walked.ensures ∙ h in
    let b : Blames F c.in_err-walk_through.field-0.0 = c.in_err-walk_through.ensures.blames (kinds_of F ps) (ap (map kind_of) (sym q))
    (right_here F laid ranks R D.0 tab ps D.2 f D.1) (is_called F laid ranks R D.0 D.1.closed tab ps D.2 f walked) in
    search rules

pub pass_all-requires-clause-named : goal.pass_all-requires-clause-named
pass_all-requires-clause-named c = c.requires.named c.args.function

pub pass_all-requires-clause-deep : goal.pass_all-requires-clause-deep
pass_all-requires-clause-deep c = call_deep c.args.facts.now c.args.function (map kind_of c.in_ok-slots.slots.codes) (table_marks c.walk_through.new.table) c.in_ok-walk_through.ensures.work

pub pass_all-requires-clause-passed : goal.pass_all-requires-clause-passed
pass_all-requires-clause-passed c =
    let F = c.args.facts.now in
    let f = c.args.function in
    let ps = passed_seen c.args.passed.now.items in
    let D = c.requires.done in
    let new = table_marks c.walk_through.new.table in
    let q : c.in_ok-slots.slots.codes ≡ codes_of F ps f = ap (λ (x : Own). x.codes) c.in_ok-slots.ensures ∙ c.deref.ensures.value ∙ c.in_ok-codes.ensures.codes in
    let h : c.is_walked.result ≡ true = search rules in
    let walked : is_walked F ps f ≡ true = sym c.is_walked.ensures ∙ h in
    let W = subst (λ l. IsWork F f l (own_marks F f new) []) (ap (map kind_of) q) c.in_ok-walk_through.ensures.work in (
      λ h a. D.0 h,
      still_passed F c.image-image.ensures.laid.laid c.requires.ranked.0 c.requires.ranked.1 D.0 (table_marks c.args.table.now) ps D.2 f D.1 new c.in_ok-walk_through.ensures.others walked W,
    )

pub returns-in_err-pass_all-clause-blames : goal.returns-in_err-pass_all-clause-blames
returns-in_err-pass_all-clause-blames c =
    let F = c.args.facts.now in
    let f = c.args.function in
    let ps = passed_seen c.args.passed.now.items in
    let D = c.requires.done in
    let new = table_marks c.walk_through.new.table in
    let q : c.in_ok-slots.slots.codes ≡ codes_of F ps f = ap (λ (x : Own). x.codes) c.in_ok-slots.ensures ∙ c.deref.ensures.value ∙ c.in_ok-codes.ensures.codes in
    let h : c.is_walked.result ≡ true = search rules in
    let walked : is_walked F ps f ≡ true = sym c.is_walked.ensures ∙ h in
    let W = subst (λ l. IsWork F f l (own_marks F f new) []) (ap (map kind_of) q) c.in_ok-walk_through.ensures.work in
    let e = c.in_err-pass_all.field-0.0 in
    let b : Blames F e = blame_mixed F c.image-image.ensures.laid.laid c.requires.ranked.0 c.requires.ranked.1 D.0 (table_marks c.args.table.now) ps D.2 f D.1 new
    c.in_ok-walk_through.ensures.others walked W e
    c.in_err-pass_all.ensures.fault in
    search rules

pub check_uncalled-requires-clause-other : goal.check_uncalled-requires-clause-other
check_uncalled-requires-clause-other c =
    let F = c.args.facts.now in
    let f = c.args.function in
    let h : c.is_walked.result ≡ false = search rules in
    (uncalled (f == main_number F) (was_passed (slice_get (passed_seen c.args.passed.now.items) f)) (sym c.is_walked.ensures ∙ h)).0

pub returns-in_err-check_uncalled-clause-blames : goal.returns-in_err-check_uncalled-clause-blames
returns-in_err-check_uncalled-clause-blames c =
    let F = c.args.facts.now in
    let f = c.args.function in
    let ps = passed_seen c.args.passed.now.items in
    let D = c.requires.done in
    let h : c.is_walked.result ≡ false = search rules in
    let q = plain_as F f ps (sym c.is_walked.ensures ∙ h) in
    let e = c.in_err-check_uncalled.field-0.0 in
    let b : Blames F e = blame_slot F c.image-image.ensures.laid.laid c.requires.ranked.0 c.requires.ranked.1 D.0 (table_marks c.args.table.now) ps D.2 f D.1 e
    (subst (λ l. BlamesSlot F f l e) q c.in_err-check_uncalled.ensures.fault) in
    search rules

pub returns-then-not-is_walked-clause-done : goal.returns-then-not-is_walked-clause-done
returns-then-not-is_walked-clause-done c = λ done N D.
    let F = c.args.facts.now in
    let f = c.args.function in
    let ps = passed_seen c.args.passed.now.items in
    let h : c.is_walked.result ≡ false = search rules in
    let unwalked' : is_walked F ps f ≡ false = sym c.is_walked.ensures ∙ h in
    let q = plain_as F f ps unwalked' in
    unwalked F c.image-image.ensures.laid.laid c.requires.ranked.0 c.requires.ranked.1 done (table_marks c.args.table.now) ps D f N unwalked'
    (λ a x e. subst (λ l. slot_right l x.instr ≡ true) q (c.in_ok-check_uncalled.ensures.right a x e))

pub returns-clause-done : goal.returns-clause-done
returns-clause-done c = λ done N D.
    let F = c.args.facts.now in
    let f = c.args.function in
    let tab = table_marks c.args.table.now in
    let ps = passed_seen c.args.passed.now.items in
    let laid = c.image-image.ensures.laid.laid in
    let ranks = c.requires.ranked.0 in
    let R = c.requires.ranked.1 in
    let g = c.index.result.now in
    let s = slice_get_read F.functions (length F.functions) f g refl c.requires.function (c.index.ensures ∙ ap (λ (k : Parts). get_or k.functions f g) c.image-image.ensures.image) in
    let o = own_is F f c.in_ok-slots.slots g c.deref.result.now c.is_main-main.result c.in_ok-slots.ensures c.is_main-main.ensures s in
    let q : c.in_ok-slots.slots.codes ≡ codes_of F ps f = ap (λ (x : Own). x.codes) c.in_ok-slots.ensures ∙ c.deref.ensures.value ∙ c.in_ok-codes.ensures.codes in
    let ok : (a : ℕ) (x : Placed) → code_at F f a ≡ Some x → slot_right (own_slots F f (kinds_of F ps f)) x.instr ≡ true =
    λ a x e. subst (λ l. slot_right l x.instr ≡ true) (own_by_codes F f ps c.in_ok-slots.slots o q) (c.in_ok-check_slots.ensures.right a x e) in
    let new = table_marks c.walk_through.new.table in
    let others = c.in_ok-walk_through.ensures.others in
    let h : c.is_walked.result ≡ true = search rules in
    let walked : is_walked F ps f ≡ true = sym c.is_walked.ensures ∙ h in
    let W = subst (λ l. IsWork F f l (own_marks F f new) []) (ap (map kind_of) q) c.in_ok-walk_through.ensures.work in
    let P = c.in_ok-pass_all.ensures.passed (λ h a. done h) (still_passed F laid ranks R done tab ps D f N new others walked W) in
    walked_on F laid ranks R done tab ps D f N new others walked W (passed_seen c.pass_all.new.passed.items) P c.in_ok-pass_all.ensures.kept ok
