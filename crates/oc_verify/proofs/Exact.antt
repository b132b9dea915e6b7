-- An image that was verified breaks no rule.
use Rattle.std.proofs.Common.{◌≡◌, ℕ, zero, suc, ◌+◌, ◌<◌, ◌≤◌, List, [], ◌∷◌, ◌++◌, length, take, Some, None, Ok, Err, refl, sym, ap, ◌∙◌, subst, ⊎_elim, inl, inr, arith}
use Rattle.std.proofs.Common.{Bool, true, false, nat_lt, nat_eq}
use Rattle.std.specs.Prelude.{◌⊎◌, ◌||◌, slice_get}
use Rattle.std.specs.List.{list_any}
use Rattle.std.proofs.lemmas.Bool.Decides.{eqb_tells}
use Rattle.std.proofs.Math.Arith.{lt_of_le-ne}
use Rattle.oc_tree.specs.Reach.{Links, linked, leads, reaches, rank, count_below, one}
use Rattle.oc_tree.proofs.ReachLaws.{links_lead, leads_trans, rank_falls}
use Rattle.oc_isa.specs.declared.image.ImageFunction.{ImageFunction}
use Rattle.oc_isa.specs.declared.instr.Placed.{Placed}
use Rattle.oc_isa.specs.Image.{Parts}
use Rattle.oc_verify.specs.declared.kind.Kind.{Kind}
use Rattle.oc_verify.specs.declared.kind.Kind.TheVariants.{Number, Place}
use Rattle.oc_verify.specs.Typing.{Pair, pair, Typing, Suits, SuitAll, level}
use Rattle.oc_verify.specs.Rules.{Judged, judge, own_slots, successors, code_at, params_of, names_exist, returns_right, slot_right, main_number, calls_of, counts_fit, laid_out}
use Rattle.oc_verify.specs.Rules.{Onward, ReachIn, Reach, Kinds, CallAt, CalledIn, IsCalled, Passes, IsRight, AreRight, Holds, Broken, layout, leaves, counts, names, no_slot, step}
use Rattle.oc_verify.specs.Rules.{mixed, circle, returns, differ, tall, deep, wide}
use Rattle.oc_verify.specs.Verified.{IsVerified, Seen, Leaves, frame_at}
use Rattle.oc_verify.proofs.Cells.{level_below, level_short}
use Rattle.oc_verify.proofs.Owners.{owned}
use Rattle.oc_verify.proofs.Calls.{call_linked}

pub count_small : (p : ℕ → Bool) (n : ℕ) → count_below p n ≤ n
count_small p zero = omega arith
count_small p (suc n) = let c = count_small p n in let o = one_small (p n) in omega (arith, c, o)
  where
    one_small : (b : Bool) → one b ≤ 1
    one_small true = omega arith
    one_small false = omega arith

pub either : (b c : Bool) → b || c ≡ true → (b ≡ true) ⊎ (c ≡ true)
either true c e = inl refl
either false c e = inr e

pub or_second : (b c : Bool) → c ≡ true → b || c ≡ true
or_second true c e = refl
or_second false c e = e

-- who calls what reaches a function reaches it
pub reach_back : (g : Links) (n u v w : ℕ) → v < n → linked g u v ≡ true → reaches g n v w ≡ true → reaches g n u w ≡ true
reach_back g n u v w s l r = or_second (nat_eq u w) (leads g n u w) (⊎_elim
    (λ e. let q : v ≡ w = grind (arith, e) in subst (λ m. leads g n u m ≡ true) q (links_lead g n u v l))
    (λ e. leads_trans g n u v w s (links_lead g n u v l) e)
    (either (nat_eq v w) (leads g n v w) r))

pub suits_sized : (as' bs : List Kind) → SuitAll as' bs → length as' ≡ length bs
suits_sized [] [] s = refl
suits_sized [] (b ∷ bs) s = absurd s
suits_sized (a ∷ as') [] s = absurd s
suits_sized (a ∷ as') (b ∷ bs) s = ap suc (suits_sized as' bs s.1)

pub suit_at : (xs bs : List Kind) (j : ℕ) (a b : Kind) → SuitAll xs bs → level xs j ≡ Some a → level bs j ≡ Some b → Suits a b
suit_at [] bs j a b s e f = absurd (cc)
suit_at (x ∷ xs) [] j a b s e f = absurd s
suit_at (x ∷ xs) (y ∷ bs) j a b s e f =
    let same : length xs ≡ length bs = suits_sized xs bs s.1 in
    ⊎_elim
    (λ q. let u : x ≡ a = grind (arith, q.1, same) in let v : y ≡ b = grind (arith, q.1, same) in subst (λ z. Suits z b) u (subst (Suits x) v s.0))
    (λ q. suit_at xs bs j a b s.1 (grind (arith, q.1, same)) (grind (arith, q.1, same)))
    (eqb_tells j (length bs))

same_levels : (xs ys : List Kind) → length xs ≡ length ys → ((j : ℕ) (a b : Kind) → level xs j ≡ Some a → level ys j ≡ Some b → a ≡ b) → xs ≡ ys
same_levels [] [] e h = refl
same_levels [] (y ∷ ys) e h = absurd (omega (arith, e))
same_levels (x ∷ xs) [] e h = absurd (omega (arith, e))
same_levels (x ∷ xs) (y ∷ ys) e h =
    let n : length xs ≡ length ys = omega (arith, e) in
    let top : x ≡ y = h (length xs) x y (grind arith) (grind (arith, n)) in
    let rest : xs ≡ ys = same_levels xs ys n (λ j a b p q. h j a b (level_below (x ∷ []) xs j (level_short xs j a p) ∙ p) (level_below (y ∷ []) ys j (level_short ys j b q) ∙ q)) in
    (λ j. top j ∷ rest j)

pub level_some : {A : Type 0} (xs : List A) (j : ℕ) → j < length xs → (x : A) × (level xs j ≡ Some x)
level_some [] j h = absurd (omega (arith, h))
level_some (x ∷ xs) j h = ⊎_elim
    (λ q. (x, grind (arith, q.1)))
    (λ q. let r = level_some xs j (lt_of_le-ne (omega (arith, h)) q.1) in (r.0, grind (arith, q.1, r.1)))
    (eqb_tells j (length xs))

equal_by : (a b : Kind) → ((n : ℕ) → a ≡ Place n → Suits (Place n) b) → ((n : ℕ) → b ≡ Place n → Suits (Place n) a) → a ≡ b
equal_by Number Number h k = refl
equal_by Number (Place m) h k = absurd (k m refl)
equal_by (Place n) Number h k = absurd (h n refl)
equal_by (Place n) (Place m) h k = let u : m ≤ n = h n refl in let v : n ≤ m = k m refl in let e : n ≡ m = omega (arith, u, v) in ap Place e

pub front_is : {A : Type 0} (args rest : List A) (n : ℕ) → length args ≡ n → take n (args ++ rest) ≡ args
front_is [] rest n e = subst (λ m. take m rest ≡ []) e refl
front_is (a ∷ args) rest zero e = absurd (omega (arith, e))
front_is (a ∷ args) rest (suc n) e = ap (λ l. a ∷ l) (front_is args rest n (omega (arith, e)))

module _ (i : Parts) (t : Typing) (v : IsVerified i t) where
  abbrev N : ℕ
  N = length i.functions

  abbrev G : Links
  G = calls_of i

  placed_is : (f a : ℕ) (p q : Placed) → code_at i f a ≡ Some p → code_at i f a ≡ Some q → p ≡ q
  placed_is f a p q x y = let z : Some p ≡ Some q = sym x ∙ y in (cc)

  one_function : (f g a : ℕ) (p q : Placed) → code_at i f a ≡ Some p → code_at i g a ≡ Some q → f ≡ g
  one_function f g a p q x y = sym (owned i v.laid f a p x) ∙ owned i v.laid g a q y

  linked_by : (f g a : ℕ) (p : Pair) (k : Kinds) → CallAt i k f g a p → linked G f g ≡ true
  linked_by f g a p k c = call_linked i v.laid f a g c.placed c.found c.calls

  short_by : (f g a : ℕ) (p : Pair) (k : Kinds) → CallAt i k f g a p → g < N
  short_by f g a p k c =
      let n : names_exist i f c.placed.instr ≡ true = v.names f a c.placed c.found in
      let m : nat_lt g N ≡ true = sym (ap (names_exist i f) c.calls) ∙ n in
      grind (arith, m)

  falls : (f g a : ℕ) (p : Pair) (k : Kinds) → CallAt i k f g a p → rank G N g < rank G N f
  falls f g a p k c = rank_falls G N f g (short_by f g a p k c) (linked_by f g a p k c) (v.no_circle g)

  -- What is reached stands in the table

  pub record Has (f a : ℕ) (p : Pair) : Type 0 where
    pub got : t.pairs a ≡ Some p
    pub placed : Placed
    pub inside : code_at i f a ≡ Some placed

  pub seen_in : (f a : ℕ) (p : Pair) → Has f a p → (s : Seen i t a p) × (s.fn ≡ f)
  seen_in f a p h = let s = v.seen a p h.got in (s, one_function s.fn f a s.placed h.placed s.found h.inside)

  onward : (f a b : ℕ) (p q : Pair) → Has f a p → Onward i f (own_slots i f (t.kinds f)) a p b q → Has f b q
  onward f a b p q h o =
      let r = seen_in f a p h in
      by_fn r.0 r.1
    where
      by_fn : (s : Seen i t a p) → s.fn ≡ f → Has f b q
      by_fn s e =
          let x : s.placed ≡ o.placed = placed_is f a s.placed o.placed (subst (λ g. code_at i g a ≡ Some s.placed) e s.found) o.found in
          let j : judge i (own_slots i f (t.kinds f)) s.placed.instr p.ops p.opens ≡ Ok s.after =
          subst (λ g. judge i (own_slots i g (t.kinds g)) s.placed.instr p.ops p.opens ≡ Ok s.after) e s.right in
          let z : ◌≡◌ {A = Judged Pair} (Ok s.after) (Ok q) = sym j ∙ ap (λ y. judge i (own_slots i f (t.kinds f)) y.instr p.ops p.opens) x ∙ o.right in
          let y : s.after ≡ q = (cc) in
          let w = s.goes b (ap (λ y. list_any (nat_eq b) (successors y.instr a)) x ∙ o.leads) in
          record { got = w.0 ∙ ap Some y; placed = w.1; inside = subst (λ g. code_at i g b ≡ Some w.1) e w.2 }

  reached : (f : ℕ) → ((g : ImageFunction) → slice_get i.functions f ≡ Some g → Has f g.entry (pair [] [])) → (n a : ℕ) (p : Pair) → ReachIn i f (own_slots i f (t.kinds f)) n a p → Has f a p
  reached f e zero a p r = let h = e r.0 r.1 in record { got = ap t.pairs r.2 ∙ h.got ∙ ap Some (sym r.3); placed = h.placed; inside = ap (code_at i f) r.2 ∙ h.inside }
  reached f e (suc n) b q r = onward f r.0 b r.1 q (reached f e n r.0 r.1 r.2) r.3

  function_is : (f : ℕ) (g h : ImageFunction) → slice_get i.functions f ≡ Some g → slice_get i.functions f ≡ Some h → g ≡ h
  function_is f g h a b = let q : Some g ≡ Some h = sym a ∙ b in (cc)

  leaves_by : (f g a : ℕ) (p : Pair) → Has f a p → CallAt i t.kinds f g a p → Leaves i t f g p.ops
  leaves_by f g a p h c =
      let r = seen_in f a p h in
      by_fn r.0 r.1
    where
      by_fn : (s : Seen i t a p) → s.fn ≡ f → Leaves i t f g p.ops
      by_fn s e =
          let x : s.placed ≡ c.placed = placed_is f a s.placed c.placed (subst (λ k. code_at i k a ≡ Some s.placed) e s.found) c.found in
          subst (λ k. Leaves i t k g p.ops) e (s.calls g (ap (λ y. y.instr) x ∙ c.calls))

  entered : (n f : ℕ) → CalledIn i t.kinds n f → (g : ImageFunction) → slice_get i.functions f ≡ Some g → Has f g.entry (pair [] [])
  entered zero f h g is =
      let m : f ≡ t.main = h ∙ sym v.main in
      let q : v.start.0 ≡ g = function_is t.main v.start.0 g v.start.1 (ap (slice_get i.functions) (sym m) ∙ is) in
      record { got = ap (λ k. t.pairs k.entry) (sym q) ∙ v.start.2; placed = v.start.3; inside = ap (λ k. code_at i f k.entry) (sym q) ∙ ap (λ k. code_at i k v.start.0.entry) m ∙ v.start.4 }
  entered (suc n) f h g is =
      let c = h.4 in
      let l = leaves_by h.0 f h.1 h.2 (reached h.0 (entered n h.0 h.3) c.reach.0 h.1 h.2 c.reach.1) c in
      let q : l.callee ≡ g = function_is f l.callee g l.is is in
      record { got = ap (λ k. t.pairs k.entry) (sym q) ∙ l.entered; placed = l.inside.0; inside = ap (λ k. code_at i f k.entry) (sym q) ∙ l.inside.1 }

  pub in_table : (f a : ℕ) (p : Pair) → IsCalled i t.kinds f → Reach i f (t.kinds f) a p → Has f a p
  in_table f a p c r = reached f (entered c.0 f c.1) r.0 a p r.1

  -- the kinds that were found suit each call
  suit : (g : ℕ) (args : List Kind) → Passes i t.kinds g args → SuitAll args (t.kinds g)
  suit g args c =
      let l = leaves_by c.caller g c.address c.kinds (in_table c.caller c.address c.kinds c.called c.call.reach) c.call in
      let e : take (params_of i g) c.kinds.ops ≡ args = ap (take (params_of i g)) c.parts ∙ front_is args c.rest (params_of i g) c.sized in
      subst (λ l. SuitAll l (t.kinds g)) e l.suits

  -- Kinds that are right are those that were found

  module _ (k : Kinds) (f : ℕ) (R : AreRight i k f) where
    abbrev On : ℕ → ℕ → Type 0
    On r g = (N < rank G N g + r) × (reaches G N g f ≡ true)

    on_caller : (r g h a : ℕ) (p : Pair) (m : Kinds) → CallAt i m h g a p → On (suc r) g → On r h
    on_caller r g h a p m c o = (let d = falls h g a p m c in let e = o.0 in omega (arith, d, e), reach_back G N h g f (short_by h g a p m c) (linked_by h g a p m c) o.1)

    on_more : (r g : ℕ) → On r g → On (suc r) g
    on_more r g o = (let e = o.0 in omega (arith, e), o.1)

    abbrev Agree : ℕ → Type 0
    Agree r = (g : ℕ) → On r g → k g ≡ t.kinds g

    call_to : (g h a : ℕ) (p : Pair) → k h ≡ t.kinds h → CallAt i k h g a p → CallAt i t.kinds h g a p
    call_to g h a p e c = record { reach = subst (λ l. Reach i h l a p) e c.reach; placed = c.placed; found = c.found; calls = c.calls }

    call_from : (g h a : ℕ) (p : Pair) → k h ≡ t.kinds h → CallAt i t.kinds h g a p → CallAt i k h g a p
    call_from g h a p e c = record { reach = subst (λ l. Reach i h l a p) (sym e) c.reach; placed = c.placed; found = c.found; calls = c.calls }

    called_to : (r : ℕ) → Agree r → (n g : ℕ) → On (suc r) g → CalledIn i k n g → CalledIn i t.kinds n g
    called_to r A zero g o h = h
    called_to r A (suc n) g o h =
        let w = on_caller r g h.0 h.1 h.2 k h.4 o in
        (h.0, h.1, h.2, called_to r A n h.0 (on_more r h.0 w) h.3, call_to g h.0 h.1 h.2 (A h.0 w) h.4)

    called_from : (r : ℕ) → Agree r → (n g : ℕ) → On (suc r) g → CalledIn i t.kinds n g → CalledIn i k n g
    called_from r A zero g o h = h
    called_from r A (suc n) g o h =
        let w = on_caller r g h.0 h.1 h.2 t.kinds h.4 o in
        (h.0, h.1, h.2, called_from r A n h.0 (on_more r h.0 w) h.3, call_from g h.0 h.1 h.2 (A h.0 w) h.4)

    passes_to : (r : ℕ) → Agree r → (g : ℕ) (args : List Kind) → On (suc r) g → Passes i k g args → Passes i t.kinds g args
    passes_to r A g args o c =
        let w = on_caller r g c.caller c.address c.kinds k c.call o in
        record {
          caller = c.caller;
          called = (c.called.0, called_to r A c.called.0 c.caller (on_more r c.caller w) c.called.1);
          address = c.address;
          kinds = c.kinds;
          call =
              call_to g c.caller c.address c.kinds (A c.caller w) c.call;
          rest = c.rest;
          parts = c.parts;
          sized = c.sized;
        }

    passes_from : (r : ℕ) → Agree r → (g : ℕ) (args : List Kind) → On (suc r) g → Passes i t.kinds g args → Passes i k g args
    passes_from r A g args o c =
        let w = on_caller r g c.caller c.address c.kinds t.kinds c.call o in
        record {
          caller = c.caller;
          called = (c.called.0, called_from r A c.called.0 c.caller (on_more r c.caller w) c.called.1);
          address = c.address;
          kinds = c.kinds;
          call =
              call_from g c.caller c.address c.kinds (A c.caller w) c.call;
          rest = c.rest;
          parts = c.parts;
          sized = c.sized;
        }

    agrees : (r : ℕ) → Agree r
    agrees zero g o = absurd (let c = count_small (leads G N g) N in let e = o.0 in omega (arith, c, e))
    agrees (suc r) g o =
        same_levels (k g) (t.kinds g) ((R g o.1).sized ∙ sym (v.sized g))
        (λ j a b e e'. equal_by a b
        (λ n q. let m = (R g o.1).met j n (e ∙ ap Some q) in suit_at m.0 (t.kinds g) j (Place n) b (suit g m.0 (passes_to r (agrees r) g m.0 o m.1)) m.2 e')
        (λ n q. let m = v.met g j n (e' ∙ ap Some q) in suit_at m.0 (k g) j (Place n) a ((R g o.1).suit m.0 (passes_from r (agrees r) g m.0 o m.1)) m.2 e))

    on_all : (g : ℕ) → reaches G N g f ≡ true → On (suc N) g
    on_all g e = (omega arith, e)

    same_kinds : (g : ℕ) → reaches G N g f ≡ true → k g ≡ t.kinds g
    same_kinds g e = agrees (suc N) g (on_all g e)

    itself : reaches G N f f ≡ true
    itself = let n : nat_eq f f ≡ true = grind arith in ap (λ b. b || leads G N f f) n

    same_here : k f ≡ t.kinds f
    same_here = same_kinds f itself

    called_here : IsCalled i k f → IsCalled i t.kinds f
    called_here c = (c.0, called_to (suc N) (agrees (suc N)) c.0 f (on_more (suc N) f (on_all f itself)) c.1)

    reach_here : (a : ℕ) (p : Pair) → IsCalled i k f → Reach i f (k f) a p → Has f a p
    reach_here a p c r = in_table f a p (called_here c) (subst (λ l. Reach i f l a p) same_here r)

  passes_here : (k : Kinds) (g : ℕ) (args : List Kind) (c : Passes i k g args) → AreRight i k c.caller → Passes i t.kinds g args
  passes_here k g args c R = record {
    caller = c.caller;
    called = called_here k c.caller R c.called;
    address = c.address;
    kinds = c.kinds;
    call =
        call_to k c.caller R g c.caller c.address c.kinds (same_here k c.caller R) c.call;
    rest = c.rest;
    parts = c.parts;
    sized = c.sized;
  }

  no_bool : (b : Bool) → b ≡ true → b ≡ false → ⊥
  no_bool true a e = absurd (cc)
  no_bool false a e = absurd (cc)

  -- what a function alone holds has room
  room_here : (k : Kinds) (f s : ℕ) → AreRight i k f → IsCalled i k f → Holds i k 0 f s → s ≤ t.bound f
  room_here k f s R c h =
      let w = reach_here k f R h.0 h.1 c h.2 in
      let r = seen_in f h.0 h.1 w in
      let u : frame_at i r.0.fn + length h.1.ops ≤ t.bound r.0.fn = r.0.high in
      let u' : frame_at i f + length h.1.ops ≤ t.bound f = subst (λ g. frame_at i g + length h.1.ops ≤ t.bound g) r.1 u in
      omega (arith, h.3, u')

  -- `main` needs no fewer words than what it calls
  bound_low : (n f : ℕ) → CalledIn i t.kinds n f → t.bound f ≤ t.bound t.main
  bound_low zero f c = let e : t.bound f ≡ t.bound t.main = ap t.bound (c ∙ sym v.main) in omega (arith, e)
  bound_low (suc n) f c =
      let l = leaves_by c.0 f c.1 c.2 (in_table c.0 c.1 c.2 (n, c.3) c.4.reach) c.4 in
      let d = l.deep in
      let b = bound_low n c.0 c.3 in
      omega (arith, d, b)

  -- what is held has room
  room : (k : Kinds) → ((f : ℕ) → IsRight i k f) → (n f s : ℕ) → IsCalled i k f → Holds i k n f s → s ≤ t.bound f
  room k all zero f s c h = room_here k f s (λ x e. all x) c h
  room k all (suc n) f s c h =
      let g = h.0 in
      let a = h.1 in
      let p = h.2 in
      let m = h.3 in
      let call = h.4 in
      let R : AreRight i k f = λ x e. all x in
      let w = reach_here k f R a p c call.reach in
      let l = leaves_by f g a p w (call_to k f R g f a p (same_here k f R) call) in
      let below : m ≤ t.bound g = room k all n g m (suc c.0, (f, a, p, c.1, call)) h.5 in
      let d = l.deep in
      omega (arith, h.6, d, below)

  pub unbroken : (a rule : ℕ) → Broken i a rule → ⊥
  unbroken a rule (layout e) = no_bool (laid_out i) v.laid e
  unbroken a rule (leaves k f b p R c r e) = let h = reach_here k f R b p c r in let z : Some h.placed ≡ None = sym h.inside ∙ e in absurd (cc)
  unbroken a rule (counts e) = no_bool (counts_fit i) v.counts e
  unbroken a rule (names f b p c e) = no_bool (names_exist i f p.instr) (v.names f b p c) e
  unbroken a rule (no_slot k f b p R c e) = no_bool (slot_right (own_slots i f (t.kinds f)) p.instr) (v.slots f b p c) (subst (λ l. slot_right (own_slots i f l) p.instr ≡ false) (same_here k f R) e)
  unbroken a rule (step k f b p x n R c r e w) =
      let h = reach_here k f R b p c r in
      let s = seen_in f b p h in
      let x' : s.0.placed ≡ x = placed_is f b s.0.placed x (subst (λ g. code_at i g b ≡ Some s.0.placed) s.1 s.0.found) e in
      let j : judge i (own_slots i f (t.kinds f)) s.0.placed.instr p.ops p.opens ≡ Ok s.0.after =
      subst (λ g. judge i (own_slots i g (t.kinds g)) s.0.placed.instr p.ops p.opens ≡ Ok s.0.after) s.1 s.0.right in
      let w' : judge i (own_slots i f (t.kinds f)) x.instr p.ops p.opens ≡ Err n = subst (λ l. judge i (own_slots i f l) x.instr p.ops p.opens ≡ Err n) (same_here k f R) w in
      let z : ◌≡◌ {A = Judged Pair} (Ok s.0.after) (Err n) = sym j ∙ ap (λ y. judge i (own_slots i f (t.kinds f)) y.instr p.ops p.opens) x' ∙ w' in absurd (cc)
  unbroken a rule (mixed k g as' bs A B R S j n e e') =
      let x = suit g as' (passes_here k g as' A R) in
      let y = suit g bs (passes_here k g bs B S) in
      let q = level_some (t.kinds g) j (let l = level_short as' j Number e in let m = suits_sized as' (t.kinds g) x in omega (arith, l, m)) in
      by_kind q.0 (suit_at as' (t.kinds g) j Number q.0 x e q.1) (suit_at bs (t.kinds g) j (Place n) q.0 y e' q.1)
    where
      by_kind : (b : Kind) → Suits Number b → Suits (Place n) b → ⊥
      by_kind Number x y = y
      by_kind (Place m) x y = x
  unbroken a rule (circle f e) = no_bool (leads G N f f) e (v.no_circle f)
  unbroken a rule (returns f b p c e) = no_bool (returns_right i f p.instr) (v.returns f b p c) e
  unbroken a rule (differ k f b p q R c r s n) =
      let h = reach_here k f R b p c r in
      let h' = reach_here k f R b q c s in
      let z : Some p ≡ Some q = sym h.got ∙ h'.got in n (cc)
  unbroken a rule (tall k f s R c h l) =
      let m = room_here k f s R c h in
      let d = called_here k f R c in
      let b = bound_low d.0 f d.1 in
      let r = v.room in
      absurd (omega (arith, m, b, r, l))
  unbroken a rule (deep k n s all h l) =
      let m : s ≤ t.bound (main_number i) = room k all n (main_number i) s (0, refl) h in
      let b : t.bound (main_number i) ≤ i.stack = subst (λ g. t.bound g ≤ i.stack) v.main v.room in
      absurd (omega (arith, m, b, l))
  unbroken a rule (wide l) = absurd (let w = v.low in omega (arith, w, l))
