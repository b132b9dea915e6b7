-- The kinds of parameters are right where all callers are done.
use Rattle.std.proofs.Common.{◌≡◌, ℕ, zero, suc, ◌+◌, ◌<◌, ◌≤◌, List, [], ◌∷◌, length, take, drop, get_or, map, Option, Some, None, Ok, refl, sym, ap, ◌∙◌, subst}
use Rattle.std.proofs.Common.{⊎_elim, inl, inr, arith, Bool, true, false, nat_eq}
use Rattle.std.specs.Prelude.{◌⊎◌, ◌==◌, if◌then◌else◌, slice_get, replicate}
use Rattle.std.proofs.lemmas.List.{take-append-drop, length-take-le}
use Rattle.oc_tree.specs.Reach.{linked, leads}
use Rattle.oc_tree.proofs.ReachLaws.{least}
use Rattle.oc_isa.specs.declared.instr.Placed.{Placed}
use Rattle.oc_isa.specs.declared.instr.Instr.{Instr}
use Rattle.oc_isa.specs.declared.instr.Instr.TheVariants.{Call}
use Rattle.oc_isa.specs.Image.{Parts}
use Rattle.oc_verify.specs.declared.kind.Kind.{Kind}
use Rattle.oc_verify.specs.declared.kind.Kind.TheVariants.{Number, Place}
use Rattle.oc_verify.specs.Typing.{Pair, SuitAll, level}
use Rattle.oc_verify.specs.Rules.{judge, laid_out, code_at, params_of, calls_of, main_number, own_slots, Kinds, CallAt, CalledIn, IsCalled, Passes, IsRight, AreRight}
use Rattle.oc_verify.specs.Facts.{IsRanked}
use Rattle.oc_verify.specs.Told.{kind_of}
use Rattle.oc_verify.specs.Work.{IsWork, Marks}
use Rattle.oc_verify.specs.Tables.{Passed, codes_by, codes_of, kinds_of, was_passed, is_walked, own_by, own_marks, SeenCall, IsDone}
use Rattle.oc_verify.proofs.Owners.{owned}
use Rattle.oc_verify.proofs.Calls.{call_linked, has_arguments}
use Rattle.oc_verify.proofs.Exact.{either, front_is}
use Rattle.oc_verify.proofs.Working.{ends}

-- a function's own mark at an address of its code
pub own_got : (i : Parts) (f : ℕ) (tab : Marks) (a : ℕ) (p : Pair) → own_marks i f tab a ≡ Some p → tab a ≡ Some p
own_got i f tab a p e = by (code_at i f a) e
  where
    by : (o : Option Placed) → own_by o (tab a) ≡ Some p → tab a ≡ Some p
    by None e = absurd (cc)
    by (Some x) e = e

pub own_put : (i : Parts) (f : ℕ) (tab : Marks) (a : ℕ) (p : Pair) (x : Placed) → code_at i f a ≡ Some x → tab a ≡ Some p → own_marks i f tab a ≡ Some p
own_put i f tab a p x e t = ap (λ o. own_by o (tab a)) e ∙ t

-- only numbers
level_numbers : (c j n : ℕ) → level (map kind_of (replicate c 0)) j ≡ Some (Place n) → ⊥
level_numbers zero j n e = absurd (cc)
level_numbers (suc c) j n e = by (j == length (map kind_of (replicate c 0))) e (level_numbers c j n)
  where
    by : (b : Bool) → (if b then Some Number else level (map kind_of (replicate c 0)) j) ≡ Some (Place n) → (level (map kind_of (replicate c 0)) j ≡ Some (Place n) → ⊥) → ⊥
    by true e k = absurd (cc)
    by false e k = k e

pub kinds_long : (cs : List ℕ) → length (map kind_of cs) ≡ length cs
kinds_long [] = refl
kinds_long (c ∷ cs) = ap suc (kinds_long cs)

zeros : (n : ℕ) → length {A = ℕ} (replicate n 0) ≡ n
zeros zero = refl
zeros (suc n) = ap suc (zeros n)

-- a call whose instruction was looked at has all of its arguments
pub call_deep : (i : Parts) (f : ℕ) (ks : List Kind) (tab : Marks) → IsWork i f ks (own_marks i f tab) [] → (g a : ℕ) (p : Pair) → SeenCall i tab f g a p → params_of i g ≤ length p.ops
call_deep i f ks tab W g a p s =
    let k = W.each a p (own_put i f tab a p s.placed s.found s.pair) in
    let z : Some k.placed ≡ Some s.placed = sym k.found ∙ s.found in
    let q : k.placed ≡ s.placed = (cc) in
    let r : judge i (own_slots i f ks) (Call g) p.ops p.opens ≡ Ok k.after = ap (λ (x : Instr). judge i (own_slots i f ks) x p.ops p.opens) (sym (ap (λ (y : Placed). y.instr) q ∙ s.calls))
    ∙ k.right in
    has_arguments i (own_slots i f ks) g p.ops p.opens k.after r

module _ (i : Parts) (laid : laid_out i ≡ true) (ranks : List ℕ) (R : IsRanked i ranks) (done : ℕ → Bool) (closed : (u v : ℕ) → linked (calls_of i) u v ≡ true → done v ≡ true → done u ≡ true)
    (tab : Marks) (ps : Passed) (D : IsDone i done tab ps) where
  abbrev t : Kinds
  t = kinds_of i ps

  seen_linked : (h g a : ℕ) (p : Pair) → SeenCall i tab h g a p → linked (calls_of i) h g ≡ true
  seen_linked h g a p s = call_linked i laid h a g s.placed s.found s.calls

  call_links : (h g a : ℕ) (p : Pair) → CallAt i t h g a p → linked (calls_of i) h g ≡ true
  call_links h g a p c = call_linked i laid h a g c.placed c.found c.calls

  -- a reached call in a function that was walked through was seen
  seen_of : (h g a : ℕ) (p : Pair) → done h ≡ true → is_walked i ps h ≡ true → CallAt i t h g a p → SeenCall i tab h g a p
  seen_of h g a p d w c = record { placed = c.placed; found = c.found; calls = c.calls; pair = own_got i h tab a p (ends i h (t h) (own_marks i h tab) (D.works h d w) c.reach.0 a p c.reach.1) }

  pub walked_passed : (g : ℕ) (cs : List ℕ) → slice_get ps g ≡ Some (Some cs) → is_walked i ps g ≡ true
  walked_passed g cs e = by (g == main_number i)
    where
      by : (b : Bool) → (if b then true else was_passed (slice_get ps g)) ≡ true
      by true = refl
      by false = ap was_passed e

  pub walked_main : (g : ℕ) → g ≡ main_number i → is_walked i ps g ≡ true
  walked_main g e = let q : (g == main_number i) ≡ true = grind (arith, e) in ap (λ b. if b then true else was_passed (slice_get ps g)) q

  -- what is called was walked through
  called_walked : (n g : ℕ) → done g ≡ true → CalledIn i t n g → is_walked i ps g ≡ true
  called_walked zero g d c = walked_main g c
  called_walked (suc n) g d c =
      let h = c.0 in
      let l = call_links h g c.1 c.2 c.4 in
      let dh = closed h g l d in
      let s = D.calls.suits h g c.1 c.2 dh (seen_of h g c.1 c.2 dh (called_walked n h dh c.3) c.4) in
      walked_passed g s.0 s.1

  -- and the other way round
  call_of_seen : (h g a : ℕ) (p : Pair) → done h ≡ true → is_walked i ps h ≡ true → SeenCall i tab h g a p → CallAt i t h g a p
  call_of_seen h g a p d w s = record { reach = (D.works h d w).marks a p (own_put i h tab a p s.placed s.found s.pair); placed = s.placed; found = s.found; calls = s.calls }

  -- an address that was seen is of a function that was walked through
  pub seen_walked : (h a : ℕ) (p : Pair) (x : Placed) → code_at i h a ≡ Some x → tab a ≡ Some p → (done h ≡ true) × (is_walked i ps h ≡ true)
  seen_walked h a p x e s =
      let o = D.homes a p s in
      let q : o.0 ≡ h = sym (owned i laid o.0 a o.1 o.2) ∙ owned i laid h a x e in
      (subst (λ k. done k ≡ true) q o.3, subst (λ k. is_walked i ps k ≡ true) q o.4)

  was_so : (g : ℕ) → is_walked i ps g ≡ true → (g ≡ main_number i) ⊎ ((cs : List ℕ) × (slice_get ps g ≡ Some (Some cs)))
  was_so g e = by (g == main_number i) refl e
    where
      passed : (o : Option (Option (List ℕ))) → slice_get ps g ≡ o → was_passed o ≡ true → (cs : List ℕ) × (slice_get ps g ≡ Some (Some cs))
      passed None q w = absurd (cc)
      passed (Some None) q w = absurd (cc)
      passed (Some (Some cs)) q w = (cs, q)

      by : (b : Bool) → (g == main_number i) ≡ b → (if b then true else was_passed (slice_get ps g)) ≡ true → (g ≡ main_number i) ⊎ ((cs : List ℕ) × (slice_get ps g ≡ Some (Some cs)))
      by true q w = inl (grind (arith, q))
      by false q w = inr (passed (slice_get ps g) refl w)

  walked_called : (r g : ℕ) → length i.functions < get_or ranks g 0 + r → is_walked i ps g ≡ true → IsCalled i t g
  walked_called zero g o w = absurd (let l = R.low g in omega (arith, o, l))
  walked_called (suc r) g o w = ⊎_elim
      (λ m. (0, m))
      (λ q. let s = D.calls.passes g q.0 q.1 in
      let h = s.0 in
      let sw = seen_walked h s.1 s.2 s.4.placed s.4.found s.4.pair in
      let f = R.falls h g (seen_linked h g s.1 s.2 s.4) in
      let c = walked_called r h (omega (arith, o, f)) sw.1 in
      (suc c.0, (h, s.1, s.2, c.1, call_of_seen h g s.1 s.2 sw.0 sw.1 s.4)))
      (was_so g w)

  pub is_called : (g : ℕ) → is_walked i ps g ≡ true → IsCalled i t g
  is_called g w = walked_called (suc (length i.functions)) g (omega arith) w

  pub by_passed : (g : ℕ) (o : Option (Option (List ℕ))) → slice_get ps g ≡ o
      → (was_passed o ≡ false → codes_of i ps g ≡ replicate (params_of i g) 0) × ((cs : List ℕ) → o ≡ Some (Some cs) → codes_of i ps g ≡ cs)
  by_passed g None e = (λ w. ap (codes_by (params_of i g)) e, λ cs q. absurd (cc))
  by_passed g (Some None) e = (λ w. ap (codes_by (params_of i g)) e, λ cs q. absurd (cc))
  by_passed g (Some (Some ds)) e = (λ w. absurd (cc), λ cs q. ap (codes_by (params_of i g)) e ∙ (let z : ds ≡ cs = (cc) in z))

  -- the kinds of a function whose callers are done are right
  pub right : (g : ℕ) → done g ≡ true ⊎ ((h : ℕ) → linked (calls_of i) h g ≡ true → done h ≡ true) → IsRight i t g
  right g c =
      let from : (h : ℕ) → linked (calls_of i) h g ≡ true → done h ≡ true = λ h l. ⊎_elim (λ d. closed h g l d) (λ k. k h l) c in
      record {
        sized = by_size (slice_get ps g) refl;
        suit = λ args P.
            let h = P.caller in
            let dh = from h (call_links h g P.address P.kinds P.call) in
            let s = D.calls.suits h g P.address P.kinds dh (seen_of h g P.address P.kinds dh (called_walked P.called.0 h dh P.called.1) P.call) in
            let e : take (params_of i g) P.kinds.ops ≡ args = ap (take (params_of i g)) P.parts ∙ front_is args P.rest (params_of i g) P.sized in
            let k : map kind_of s.0 ≡ t g = ap (map kind_of) (sym ((by_passed g (slice_get ps g) refl).1 s.0 s.1)) in
            subst (SuitAll args) k (subst (λ l. SuitAll l (map kind_of s.0)) e s.2);
        met = λ j n e. by_met (slice_get ps g) refl j n e;
      }
    where
      by_size : (o : Option (Option (List ℕ))) → slice_get ps g ≡ o → length (t g) ≡ params_of i g
      by_size (Some (Some cs)) e = kinds_long (codes_of i ps g) ∙ ap length ((by_passed g (Some (Some cs)) e).1 cs refl) ∙ D.calls.sized g cs e
      by_size (Some None) e = kinds_long (codes_of i ps g) ∙ ap length ((by_passed g (Some None) e).0 refl) ∙ zeros (params_of i g)
      by_size None e = kinds_long (codes_of i ps g) ∙ ap length ((by_passed g None e).0 refl) ∙ zeros (params_of i g)

      by_met : (o : Option (Option (List ℕ))) → slice_get ps g ≡ o → (j n : ℕ) → level (t g) j ≡ Some (Place n) → (args : List Kind) × Passes i t g args × (level args j ≡ Some (Place n))
      by_met None e j n l = absurd (level_numbers (params_of i g) j n (ap (λ cs. level (map kind_of cs) j) (sym ((by_passed g None e).0 refl)) ∙ l))
      by_met (Some None) e j n l = absurd (level_numbers (params_of i g) j n (ap (λ cs. level (map kind_of cs) j) (sym ((by_passed g (Some None) e).0 refl)) ∙ l))
      by_met (Some (Some cs)) e j n l =
          let m = D.calls.met g j n cs e (ap (λ ds. level (map kind_of ds) j) (sym ((by_passed g (Some (Some cs)) e).1 cs refl)) ∙ l) in
          let h = m.0 in
          let a = m.1 in
          let p = m.2 in
          let s = m.4 in
          let w = seen_walked h a p s.placed s.found s.pair in
          let c = call_of_seen h g a p w.0 w.1 s in
          let deep : params_of i g ≤ length p.ops = call_deep i h (t h) tab (D.works h w.0 w.1) g a p s in (
            take (params_of i g) p.ops,
            record {
              caller = h;
              called = is_called h w.1;
              address = a;
              kinds = p;
              call = c;
              rest = drop (params_of i g) p.ops;
              parts = sym (take-append-drop (params_of i g) p.ops);
              sized = (length-take-le (params_of i g) p.ops deep);
            },
            m.5,
          )

  -- who leads to a function whose callers are done is done
  leads_done : (g f : ℕ) → leads (calls_of i) (length i.functions) g f ≡ true → done f ≡ true ⊎ ((h : ℕ) → linked (calls_of i) h f ≡ true → done h ≡ true) → done g ≡ true
  leads_done g f l = least (calls_of i) (λ a b. done b ≡ true ⊎ ((h : ℕ) → linked (calls_of i) h b ≡ true → done h ≡ true) → done a ≡ true)
      (λ u v l o. ⊎_elim (λ d. closed u v l d) (λ k. k u l) o)
      (λ a b c x y o. x (inl (y o)))
      (length i.functions) g f l

  -- so all kinds on the way to it are right
  pub all_right : (f : ℕ) → done f ≡ true ⊎ ((h : ℕ) → linked (calls_of i) h f ≡ true → done h ≡ true) → AreRight i t f
  all_right f c g r = ⊎_elim
      (λ e. let q : g ≡ f = grind (arith, e) in subst (IsRight i t) (sym q) (right f c))
      (λ l. right g (inl (leads_done g f l c)))
      (either (nat_eq g f) (leads (calls_of i) (length i.functions) g f) r)
