-- One function more, whose callers are done.
use Rattle.std.proofs.Common.{◌≡◌, ℕ, ◌<◌, List, [], length, take, drop, map, get_or, Option, Some, None, refl, sym, ap, ◌∙◌, subst, ⊎_elim, inl, inr, arith, Bool, true, false}
use Rattle.std.specs.Prelude.{◌⊎◌, ◌==◌, if◌then◌else◌, slice_get}
use Rattle.std.proofs.lemmas.Bool.Decides.{eqb_tells}
use Rattle.std.proofs.lemmas.List.{take-append-drop, length-take-le}
use Rattle.std.proofs.lemmas.Option.{slice_get_within}
use Rattle.oc_tree.specs.Reach.{linked}
use Rattle.oc_isa.specs.declared.instr.Placed.{Placed}
use Rattle.oc_isa.specs.Image.{Parts}
use Rattle.oc_verify.specs.declared.kind.Kind.{Kind}
use Rattle.oc_verify.specs.declared.kind.Kind.TheVariants.{Number, Place}
use Rattle.oc_verify.specs.declared.fault.VerifyError.{VerifyError}
use Rattle.oc_verify.specs.declared.fault.VerifyError.TheVariants as errors
use Rattle.oc_verify.specs.Blames.{Blames, BlamesIn}
use Rattle.oc_verify.specs.Typing.{Pair, Suits, SuitAll, level}
use Rattle.oc_verify.specs.Merging.{leasts}
use Rattle.oc_verify.specs.Rules.{laid_out, code_at, params_of, calls_of, main_number, own_slots, slot_right, Kinds, CallAt, Passes, AreRight, Broken, mixed, no_slot}
use Rattle.oc_verify.specs.Facts.{IsRanked}
use Rattle.oc_verify.specs.Told.{kind_of}
use Rattle.oc_verify.specs.Work.{IsWork, Marks}
use Rattle.oc_verify.specs.Tables.{Passed, codes_by, kinds_of, was_passed, is_walked, own_by, own_marks, KeepsOthers, SeenCall, IsPassed, IsDone, IsNext, with_done}
use Rattle.oc_verify.specs.Tables.{with_calls, MixesAt, MixesWith, BlamesMixed, BlamesSlot}
use Rattle.oc_verify.proofs.Owners.{owned, stands}
use Rattle.oc_verify.proofs.Exact.{suits_sized, suit_at, level_some}
use Rattle.oc_verify.proofs.Cells.{level_short}
use Rattle.oc_verify.proofs.MergeLaws.{no_least}
use Rattle.oc_verify.proofs.KindLaws.{own_put, kinds_long, call_deep, seen_walked, is_called, all_right}
use Rattle.oc_verify.proofs.PassLaws.{passed_as, calls_old, calls_new, calls_parts}

suits_number : (k : Kind) → Suits k Number → k ≡ Number
suits_number Number s = refl
suits_number (Place n) s = absurd s

no_bool : (b : Bool) → b ≡ true → b ≡ false → ⊥
no_bool true a e = absurd (cc)
no_bool false a e = absurd (cc)

pub done_here : (done : ℕ → Bool) (f h : ℕ) → h ≡ f → with_done done f h ≡ true
done_here done f h e = let q : (h == f) ≡ true = grind (arith, e) in ap (λ b. if b then true else done h) q

done_old : (done : ℕ → Bool) (f h : ℕ) → done h ≡ true → with_done done f h ≡ true
done_old done f h d = by (h == f)
  where
    by : (b : Bool) → (if b then true else done h) ≡ true
    by true = refl
    by false = d

done_parts : (done : ℕ → Bool) (f h : ℕ) → with_done done f h ≡ true → (h ≡ f) ⊎ (done h ≡ true)
done_parts done f h d = ⊎_elim
    (λ q. inl q.1)
    (λ q. inr (sym (ap (λ b. if b then true else done h) q.0) ∙ d))
    (eqb_tells h f)

module _ (i : Parts) (laid : laid_out i ≡ true) (ranks : List ℕ) (R : IsRanked i ranks) (done : ℕ → Bool) (tab : Marks) (ps : Passed) (D : IsDone i done tab ps) (f : ℕ) (N : IsNext i done f) where
  abbrev t : Kinds
  t = kinds_of i ps

  abbrev Slots : Passed → Type 0
  Slots qs = (a : ℕ) (x : Placed) → code_at i f a ≡ Some x → slot_right (own_slots i f (kinds_of i qs f)) x.instr ≡ true

  not_done : (h : ℕ) → done h ≡ true → h ≡ f → ⊥
  not_done h d e = no_bool (done f) (subst (λ k. done k ≡ true) e d) N.fresh

  walked_of : (h a : ℕ) (p : Pair) (x : Placed) → code_at i h a ≡ Some x → tab a ≡ Some p → (done h ≡ true) × (is_walked i ps h ≡ true)
  walked_of h a p x c e = seen_walked i laid ranks R done N.closed tab ps D h a p x c e

  pub right_here : AreRight i t f
  right_here = all_right i laid ranks R done N.closed tab ps D f (inr N.callers)

  -- nothing of its code was looked at
  pub no_marks : (a : ℕ) (x : Placed) → code_at i f a ≡ Some x → tab a ≡ None
  no_marks a x c = by (tab a) refl
    where
      by : (o : Option Pair) → tab a ≡ o → o ≡ None
      by None e = refl
      by (Some p) e = absurd (let w = walked_of f a p x c e in not_done f w.0 refl)

  no_call : (g a : ℕ) (p : Pair) → SeenCall i tab f g a p → ⊥
  no_call g a p s = let w = walked_of f a p s.placed s.found s.pair in not_done f w.0 refl

  -- a slot that isn't there breaks a rule
  pub blame_slot : (e : VerifyError) → BlamesSlot i f (own_slots i f (t f)) e → Blames i e
  blame_slot (errors.Refused place rule) b = subst (Broken i place) (sym b.0) (no_slot t f place b.1 right_here b.2 b.3)
  blame_slot errors.Memory b = tt

  -- it isn't executed
  pub unwalked : is_walked i ps f ≡ false → Slots ps → IsDone i (with_done done f) tab ps
  unwalked n ok = record {
    calls = passed_as i (λ h a. done h) (λ h a. with_done done f h) tab tab ps
        (λ h g a p d s. (⊎_elim (λ e. absurd (no_call g a p (subst (λ k. SeenCall i tab k g a p) e s))) (λ o. o) (done_parts done f h d), s))
        (λ h g a p d s. (done_old done f h d, s))
        D.calls;
    works = λ h d w. ⊎_elim (λ e. absurd (no_bool (is_walked i ps f) (subst (λ k. is_walked i ps k ≡ true) e w) n)) (λ o. D.works h o w) (done_parts done f h d);
    homes = λ a p e. let o = D.homes a p e in (o.0, o.1, o.2, done_old done f o.0 o.3, o.4);
    slots = λ h a x d c. ⊎_elim
        (λ e. subst (λ k. slot_right (own_slots i k (kinds_of i ps k)) x.instr ≡ true) (sym e) (ok a x (subst (λ k. code_at i k a ≡ Some x) e c)))
        (λ o. D.slots h a x o c)
        (done_parts done f h d);
  }

  -- it was walked through
  module _ (tab' : Marks) (others : KeepsOthers i f tab tab') (walked : is_walked i ps f ≡ true) (W : IsWork i f (t f) (own_marks i f tab') []) where
    pub called_here : (e : VerifyError) → BlamesIn i f (t f) e → Blames i e
    called_here e b = b t refl right_here (is_called i laid ranks R done N.closed tab ps D f walked)

    other_code : (h a : ℕ) (x : Placed) → done h ≡ true → code_at i h a ≡ Some x → code_at i f a ≡ None
    other_code h a x d c = by (code_at i f a) refl
      where
        by : (o : Option Placed) → code_at i f a ≡ o → o ≡ None
        by None e = refl
        by (Some y) e = absurd (not_done h d (sym (owned i laid h a x c) ∙ owned i laid f a y e))

    same_there : (h a : ℕ) (x : Placed) → done h ≡ true → code_at i h a ≡ Some x → tab' a ≡ tab a
    same_there h a x d c = others a (other_code h a x d c)

    before : (h g a : ℕ) (p : Pair) → done h ≡ true → SeenCall i tab' h g a p → SeenCall i tab h g a p
    before h g a p d s = record { placed = s.placed; found = s.found; calls = s.calls; pair = sym (same_there h a s.placed d s.found) ∙ s.pair }

    -- the calls of functions that are done are those that they were
    pub still_passed : IsPassed i (λ h a. done h) tab' ps
    still_passed = passed_as i (λ h a. done h) (λ h a. done h) tab tab' ps
        (λ h g a p d s. (d, before h g a p d s))
        (λ h g a p d s. (d, record { placed = s.placed; found = s.found; calls = s.calls; pair = same_there h a s.placed d s.found ∙ s.pair }))
        D.calls

    same_marks : (h : ℕ) → done h ≡ true → own_marks i h tab ≡ own_marks i h tab'
    same_marks h d = (λ j a. by a (code_at i h a) refl j)
      where
        by : (a : ℕ) (o : Option Placed) → code_at i h a ≡ o → own_by o (tab a) ≡ own_by o (tab' a)
        by a None e = refl
        by a (Some x) e = sym (same_there h a x d e)

    work_of : (h : ℕ) → done h ≡ true → is_walked i ps h ≡ true → IsWork i h (t h) (own_marks i h tab') []
    work_of h d w = subst (λ m. IsWork i h (t h) m []) (same_marks h d) (D.works h d w)

    passes_by : (h g a : ℕ) (p : Pair) → is_walked i ps h ≡ true → IsWork i h (t h) (own_marks i h tab') [] → AreRight i t h → SeenCall i tab' h g a p
        → (c : Passes i t g (take (params_of i g) p.ops)) × AreRight i t c.caller
    passes_by h g a p w V r s =
        let call : CallAt i t h g a p = record { reach = V.marks a p (own_put i h tab' a p s.placed s.found s.pair); placed = s.placed; found = s.found; calls = s.calls } in (
          record {
            caller = h;
            called = is_called i laid ranks R done N.closed tab ps D h w;
            address = a;
            kinds = p;
            call = call;
            rest = drop (params_of i g) p.ops;
            parts = sym (take-append-drop (params_of i g) p.ops);
            sized = length-take-le (params_of i g) p.ops (call_deep i h (t h) tab' V g a p s);
          },
          r,
        )

    -- a call that was looked at passes these kinds
    passes_of : (h g a : ℕ) (p : Pair) → (h ≡ f) ⊎ (done h ≡ true) → SeenCall i tab' h g a p → (c : Passes i t g (take (params_of i g) p.ops)) × AreRight i t c.caller
    passes_of h g a p o s = ⊎_elim
        (λ e. passes_by f g a p walked W right_here (subst (λ k. SeenCall i tab' k g a p) e s))
        (λ d. let b = before h g a p d s in
        let w = walked_of h a p b.placed b.found b.pair in
        passes_by h g a p w.1 (work_of h d w.1) (all_right i laid ranks R done N.closed tab ps D h (inl d)) s)
        o

    -- a number that meets a place breaks a rule
    module _ (qs : Passed) (g at' : ℕ) (p : Pair) (S : SeenCall i tab' f g at' p) (P : IsPassed i (with_calls (λ h a. done h) f at') tab' qs) (cs : List ℕ) (is : slice_get qs g ≡ Some (Some cs)) where
      abbrev args : List Kind
      args = take (params_of i g) p.ops

      whose : (h a : ℕ) → with_calls (λ h a. done h) f at' h a ≡ true → (h ≡ f) ⊎ (done h ≡ true)
      whose h a d = ⊎_elim (λ q. inr q) (λ q. inl q.0) (calls_parts (λ h a. done h) f at' h a d)

      number_at : (j : ℕ) → level (map kind_of cs) j ≡ Some Number → (h : ℕ) × (a : ℕ) × (q : Pair) × ((h ≡ f) ⊎ (done h ≡ true)) × SeenCall i tab' h g a
          q × (level (take (params_of i g) q.ops) j ≡ Some Number)
      number_at j l =
          let m = P.passes g cs is in
          let u = P.suits m.0 g m.1 m.2 m.3 m.4 in
          let z : Some (Some u.0) ≡ Some (Some cs) = sym u.1 ∙ is in
          let same : u.0 ≡ cs = (cc) in
          let s : SuitAll (take (params_of i g) m.2.ops) (map kind_of cs) = subst (λ x. SuitAll (take (params_of i g) m.2.ops) (map kind_of x)) same u.2 in
          let n = suits_sized (take (params_of i g) m.2.ops) (map kind_of cs) s in
          let k = level_some (take (params_of i g) m.2.ops) j (let v = level_short (map kind_of cs) j Number l in omega (arith, v, n)) in
          let e : k.0 ≡ Number = suits_number k.0 (suit_at (take (params_of i g) m.2.ops) (map kind_of cs) j k.0 Number s k.1 l) in
          (m.0, m.1, m.2, whose m.0 m.1 m.3, m.4, k.1 ∙ ap Some e)

      meets : leasts (map kind_of cs) args ≡ None → Broken i 0 6
      meets none =
          let own = passes_of f g at' p (inl refl) S in
          let long : length (map kind_of cs) ≡ length args = kinds_long cs ∙ P.sized g cs is ∙ sym own.0.sized in
          let M = no_least (map kind_of cs) args long none in
          ⊎_elim
          (λ w. let a = number_at M.at_place w.0 in
          let other = passes_of a.0 g a.1 a.2 a.3 a.4 in
          mixed t g (take (params_of i g) a.2.ops) args other.0 own.0 other.1 own.1 M.at_place M.words a.5 w.1)
          (λ w. let m = P.met g M.at_place M.words cs is w.1 in
          let other = passes_of m.0 g m.1 m.2 (whose m.0 m.1 m.3) m.4 in
          mixed t g args (take (params_of i g) m.2.ops) own.0 other.0 own.1 other.1 M.at_place M.words w.0 m.5)
          M.which

    blame_by : (place rule : ℕ) (M : MixesAt i f tab' ps (errors.Refused place rule)) (o : Option (Option (List ℕ))) → slice_get M.before M.callee ≡ o
        → MixesWith o (take (params_of i M.callee) M.pair.ops) (errors.Refused place rule) → Broken i place rule
    blame_by place rule M None e m = absurd (cc)
    blame_by place rule M (Some None) e m = absurd (cc)
    blame_by place rule M (Some (Some cs)) e m =
        let b : Broken i 0 6 = meets M.before M.callee M.address M.pair M.call (M.passed (λ h a. done h) still_passed) cs e m.2 in
        subst (λ x. Broken i x rule) (sym m.0) (subst (Broken i 0) (sym m.1) b)

    pub blame_mixed : (e : VerifyError) → BlamesMixed i f tab' ps e → Blames i e
    blame_mixed (errors.Refused place rule) M = blame_by place rule M (slice_get M.before M.callee) refl M.mixes
    blame_mixed errors.Memory M = tt

    -- and its calls were looked at
    module _ (qs : Passed) (P : IsPassed i (with_calls (λ h a. done h) f (length i.code)) tab' qs) (kept : (k : ℕ) → linked (calls_of i) f k ≡ false → slice_get qs k ≡ slice_get ps k) where
      not_called : (k : ℕ) → (k ≡ f) ⊎ (done k ≡ true) → linked (calls_of i) f k ≡ false
      not_called k o = by (linked (calls_of i) f k) refl
        where
          by : (b : Bool) → linked (calls_of i) f k ≡ b → b ≡ false
          by false e = refl
          by true e = absurd (⊎_elim
              (λ q. let l = R.falls f k e in let n : get_or ranks k 0 ≡ get_or ranks f 0 = ap (λ x. get_or ranks x 0) q in omega (arith, l, n))
              (λ d. no_bool (done f) (N.closed f k e d) N.fresh)
              o)

      same : (k : ℕ) → (k ≡ f) ⊎ (done k ≡ true) → slice_get qs k ≡ slice_get ps k
      same k o = kept k (not_called k o)

      kinds_same : (k : ℕ) → (k ≡ f) ⊎ (done k ≡ true) → kinds_of i qs k ≡ t k
      kinds_same k o = ap (λ x. map kind_of (codes_by (params_of i k) x)) (same k o)

      walked_same : (k : ℕ) → (k ≡ f) ⊎ (done k ≡ true) → is_walked i qs k ≡ is_walked i ps k
      walked_same k o = ap (λ x. if k == main_number i then true else was_passed x) (same k o)

      own_address : (h a : ℕ) (x : Placed) → code_at i h a ≡ Some x → a < length i.code
      own_address h a x c = slice_get_within i.code a x (stands i h a x c).found

      pub walked_on : Slots ps → IsDone i (with_done done f) tab' qs
      walked_on ok = record {
        calls = passed_as i (with_calls (λ h a. done h) f (length i.code)) (λ h a. with_done done f h) tab' tab' qs
            (λ h g a p d s. (
              ⊎_elim (λ e. calls_new (λ h a. done h) f (length i.code) h a e (own_address h a s.placed s.found)) (λ o. calls_old (λ h a. done h) f (length i.code) h a o)
                  (done_parts done f h d),
              s,
            ))
            (λ h g a p d s. (⊎_elim (λ o. done_old done f h o) (λ q. done_here done f h q.0) (calls_parts (λ h a. done h) f (length i.code) h a d), s))
            P;
        works = λ h d w. ⊎_elim
            (λ e. subst (λ k. IsWork i k (kinds_of i qs k) (own_marks i k tab') []) (sym e) (subst (λ l. IsWork i f l (own_marks i f tab') []) (sym (kinds_same f (inl refl))) W))
            (λ o. subst (λ l. IsWork i h l (own_marks i h tab') []) (sym (kinds_same h (inr o))) (work_of h o (sym (walked_same h (inr o)) ∙ w)))
            (done_parts done f h d);
        homes = λ a p e. home a p e (code_at i f a) refl;
        slots = λ h a x d c. ⊎_elim
            (λ e. subst (λ k. slot_right (own_slots i k (kinds_of i qs k)) x.instr ≡ true) (sym e)
            (subst (λ l. slot_right (own_slots i f l) x.instr ≡ true) (sym (kinds_same f (inl refl))) (ok a x (subst (λ k. code_at i k a ≡ Some x) e c))))
            (λ o. subst (λ l. slot_right (own_slots i h l) x.instr ≡ true) (sym (kinds_same h (inr o))) (D.slots h a x o c))
            (done_parts done f h d);
      }
        where
          home : (a : ℕ) (p : Pair) → tab' a ≡ Some p → (o : Option Placed) → code_at i f a ≡ o
              → (h : ℕ) × (x : Placed) × (code_at i h a ≡ Some x) × (with_done done f h ≡ true) × (is_walked i qs h ≡ true)
          home a p e (Some x) c = (f, x, c, done_here done f f refl, walked_same f (inl refl) ∙ walked)
          home a p e None c = let o = D.homes a p (sym (others a c) ∙ e) in (o.0, o.1, o.2, done_old done f o.0 o.3, walked_same o.0 (inr o.3) ∙ o.4)
