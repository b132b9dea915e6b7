-- What the passes leave shows that an image breaks no rule.
use Rattle.std.proofs.Common.{◌≡◌, ℕ, zero, suc, ◌+◌, ◌<◌, ◌≤◌, List, [], ◌∷◌, length, take, map, get_or, Option, Some, None, refl, sym, ap, ◌∙◌, subst, ⊎_elim, inr}
use Rattle.std.proofs.lemmas.Bool.{and_parts}
use Rattle.std.proofs.Common.{arith, Bool, true, false, nat_lt, nat_eq, cond}
use Rattle.std.specs.Prelude.{◌&&◌, if◌then◌else◌, slice_get, count_by}
use Rattle.std.specs.List.{list_all}
use Rattle.std.proofs.lemmas.List.Sums.{sum_by-cons}
use Rattle.std.proofs.lemmas.Option.{slice_get_within}
use Rattle.oc_tree.specs.Reach.{linked}
use Rattle.oc_isa.specs.declared.image.ImageFunction.{ImageFunction}
use Rattle.oc_isa.specs.declared.instr.Placed.{Placed}
use Rattle.oc_isa.specs.declared.instr.Instr.TheVariants.{Call}
use Rattle.oc_isa.specs.Image.{Parts, is_main}
use Rattle.oc_verify.specs.Typing.{Pair, pair, Typing, SuitAll}
use Rattle.oc_verify.specs.Rules.{laid_out, rises, has_frame, code_at, params_of, calls_of, main_from, main_number, names_exist, nv_words, gives, Kinds, IsCalled, IsRight}
use Rattle.oc_verify.specs.Verified.{IsVerified, Seen, Leaves}
use Rattle.oc_verify.specs.Facts.{IsLaid, IsNamed, IsRanked}
use Rattle.oc_verify.specs.Told.{kind_of}
use Rattle.oc_verify.specs.Work.{IsWork, Marks}
use Rattle.oc_verify.specs.Room.{HasRoom}
use Rattle.oc_verify.specs.Tables.{Passed, kinds_of, is_walked, own_by, own_marks, SeenCall, IsDone, IsExamined, all_done}
use Rattle.oc_verify.proofs.Owners.{main_shifts}
use Rattle.oc_verify.proofs.Calls.{function_short}
use Rattle.oc_verify.proofs.OrderLaws.{no_circle}
use Rattle.oc_verify.proofs.KindLaws as known

past_is_none : (xs : List ℕ) (k : ℕ) → length xs ≤ k → get_or xs k 0 ≡ 0
past_is_none [] k h = refl
past_is_none (x ∷ xs) zero h = absurd (omega (arith, h))
past_is_none (x ∷ xs) (suc k) h = past_is_none xs k (omega (arith, h))

-- there is a function that is named `main`
main_there : (fs : List ImageFunction) → 1 ≤ count_by is_main fs → (g : ImageFunction) × (slice_get fs (main_from 0 fs) ≡ Some g)
main_there [] h = absurd (omega (arith, h))
main_there (g ∷ fs) h = by (is_main g) refl (λ k. main_there fs k)
  where
    one : Bool → ℕ
    one b = cond b 1 0

    by : (b : Bool) → is_main g ≡ b → (1 ≤ count_by is_main fs → (k : ImageFunction) × (slice_get fs (main_from 0 fs) ≡ Some k))
        → (k : ImageFunction) × (slice_get (g ∷ fs) (if b then 0 else main_from 1 fs) ≡ Some k)
    by true e ih = (g, refl)
    by false e ih =
        let n : count_by is_main (g ∷ fs) ≡ one (is_main g) + count_by is_main fs = sum_by-cons (λ x. cond (is_main x) 1 0) g fs in
        let z : one (is_main g) ≡ one false = ap one e in
        let y : one false ≡ 0 = refl in
        let r = ih (omega (arith, h, n, z, y)) in
        (r.0, ap (slice_get (g ∷ fs)) (main_shifts fs 0) ∙ r.1)

fourth : (a b c d e : Bool) → a && (b && (c && (d && e))) ≡ true → d ≡ true
fourth a b c d e h = (and_parts d e (and_parts c (d && e) (and_parts b (c && (d && e)) (and_parts a (b && (c && (d && e))) h).1).1).1).0

one_main : (i : Parts) → laid_out i ≡ true → 1 ≤ count_by is_main i.functions
one_main i l =
    let e : nat_eq (count_by is_main i.functions) 1 ≡ true =
    fourth (nat_lt (length i.code) 2147483648) (rises i.functions) (list_all (λ g. nat_lt g.entry (length i.code)) i.functions) (nat_eq (count_by is_main i.functions) 1)
    (list_all has_frame i.functions) l in
    let n : count_by is_main i.functions ≡ 1 = grind (arith, e) in omega (arith, n)

pub function_there : (fs : List ImageFunction) (f : ℕ) → f < length fs → (g : ImageFunction) × (slice_get fs f ≡ Some g)
function_there [] f h = absurd (omega (arith, h))
function_there (g ∷ fs) zero h = (g, refl)
function_there (g ∷ fs) (suc f) h = function_there fs f (omega (arith, h))

own_inside : (o : Option Placed) (m : Option Pair) (p : Pair) → own_by o m ≡ Some p → (x : Placed) × (o ≡ Some x)
own_inside None m p e = absurd (cc)
own_inside (Some x) m p e = (x, refl)

-- functions that call others have numbers, and are done
pub calls_low : (i : Parts) (ranks : List ℕ) → IsRanked i ranks → (u v : ℕ) → linked (calls_of i) u v ≡ true → all_done i u ≡ true
calls_low i ranks R u v l = by (nat_lt u (length i.functions)) refl
  where
    by : (b : Bool) → nat_lt u (length i.functions) ≡ b → b ≡ true
    by true e = refl
    by false e =
        let n : length i.functions ≤ u = grind (arith, e) in
        let m = R.sized in
        let z = past_is_none ranks u (omega (arith, n, m)) in
        let d = R.falls u v l in absurd (omega (arith, z, d))

pub short_done : (i : Parts) (f : ℕ) → f < length i.functions → all_done i f ≡ true
short_done i f h = grind (arith, h)

module _ (i : Parts) (L : IsLaid i) (ranks : List ℕ) (R : IsRanked i ranks) (tab : Marks) (ps : Passed) (D : IsDone i (all_done i) tab ps) where
  abbrev t : Kinds
  t = kinds_of i ps

  abbrev done : ℕ → Bool
  done = all_done i

  closed : (u v : ℕ) → linked (calls_of i) u v ≡ true → done v ≡ true → done u ≡ true
  closed u v l d = calls_low i ranks R u v l

  pub right_all : (f : ℕ) → IsRight i t f
  right_all f = known.right i L.laid ranks R done closed tab ps D f (inr (λ u l. calls_low i ranks R u f l))

  pub called_all : (f : ℕ) → is_walked i ps f ≡ true → IsCalled i t f
  called_all f w = known.is_called i L.laid ranks R done closed tab ps D f w

  pub function_is_done : (h a : ℕ) (x : Placed) → code_at i h a ≡ Some x → done h ≡ true
  function_is_done h a x c = short_done i h (function_short i h a x c)

  pub work_here : (h a : ℕ) (x : Placed) (p : Pair) → code_at i h a ≡ Some x → tab a ≡ Some p → IsWork i h (t h) (own_marks i h tab) []
  work_here h a x p c e = let w = known.seen_walked i L.laid ranks R done closed tab ps D h a p x c e in D.works h w.0 w.1

  pub walked_here : (h a : ℕ) (x : Placed) (p : Pair) → code_at i h a ≡ Some x → tab a ≡ Some p → is_walked i ps h ≡ true
  walked_here h a x p c e = (known.seen_walked i L.laid ranks R done closed tab ps D h a p x c e).1

  -- a function that is executed is entered
  pub entered : (h : ℕ) (g : ImageFunction) → done h ≡ true → is_walked i ps h ≡ true → slice_get i.functions h ≡ Some g
      → (tab g.entry ≡ Some (pair [] [])) × (x : Placed) × (code_at i h g.entry ≡ Some x)
  entered h g d w e =
      let W = D.works h d w in
      let s : own_marks i h tab g.entry ≡ Some (pair [] []) = ⊎_elim (λ q. q) (λ q. absurd q) (W.start g e) in
      let o = own_inside (code_at i h g.entry) (tab g.entry) (pair [] []) s in
      (known.own_got i h tab g.entry (pair [] []) s, o.0, o.1)

  pub main_done : done (main_number i) ≡ true
  main_done = let m = main_there i.functions (one_main i L.laid) in short_done i (main_number i) (slice_get_within i.functions (main_number i) m.0 m.1)

  pub callee_walked : (h g a : ℕ) (p : Pair) → done h ≡ true → SeenCall i tab h g a p → (is_walked i ps g ≡ true) × SuitAll (take (params_of i g) p.ops) (t g)
  callee_walked h g a p d s =
      let u = D.calls.suits h g a p d s in
      let q : map kind_of u.0 ≡ t g = ap (map kind_of) (sym ((known.by_passed i L.laid ranks R done closed tab ps D g (slice_get ps g) refl).1 u.0 u.1)) in
      (known.walked_passed i L.laid ranks R done closed tab ps D g u.0 u.1, subst (SuitAll (take (params_of i g) p.ops)) q u.2)

  module _ (named : (f : ℕ) → IsNamed i f) (bound : ℕ → ℕ) (H : HasRoom i tab bound) where
    abbrev all : Typing
    all = record { pairs = tab; kinds = t; results = gives i; bound = bound; main = main_number i; words = nv_words i }

    leaves_at : (h g a : ℕ) (p : Pair) → SeenCall i tab h g a p → Leaves i all h g p.ops
    leaves_at h g a p s =
        let e : names_exist i h (Call g) ≡ true = ap (names_exist i h) (sym s.calls) ∙ (named h a s.placed s.found).0 in
        let n : nat_lt g (length i.functions) ≡ true = e in
        let l : g < length i.functions = grind (arith, n) in
        let c = function_there i.functions g l in
        let u = callee_walked h g a p (function_is_done h a s.placed s.found) s in
        let o = entered g c.0 (short_done i g l) u.0 c.1 in
        record { callee = c.0; is = c.1; entered = o.0; inside = (o.1, o.2); suits = u.1; deep = (H.each h).deep g a p s }

    seen_at : (a : ℕ) (p : Pair) → tab a ≡ Some p → Seen i all a p
    seen_at a p e =
        let o = D.homes a p e in
        let h = o.0 in
        let W = D.works h o.3 o.4 in
        let k = W.each a p (known.own_put i h tab a p o.1 o.2 e) in
        record {
          fn = h;
          placed = k.placed;
          found = k.found;
          called = called_all h o.4;
          reach = W.marks a p (known.own_put i h tab a p o.1 o.2 e);
          after = k.after;
          right = k.right;
          goes = λ b l. let s : own_marks i h tab b ≡ Some k.after = ⊎_elim (λ q. q) (λ q. absurd q) (k.goes b l) in
              let o = own_inside (code_at i h b) (tab b) k.after s in
              (known.own_got i h tab b k.after s, o.0, o.1);
          high = (H.each h).high a p k.placed k.found e;
          calls = λ g c. leaves_at h g a p (record { placed = k.placed; found = k.found; calls = c; pair = e });
        }

    verified : IsVerified i all
    verified = record {
      laid = L.laid;
      counts = L.counts;
      low = L.low;
      names = λ f a p c. (named f a p c).0;
      returns = λ f a p c. (named f a p c).1;
      no_circle = no_circle (calls_of i) (length i.functions) (λ u. get_or ranks u 0) R.falls;
      main = refl;
      words = refl;
      gives = λ f. refl;
      sized = λ f. (right_all f).sized;
      slots = λ f a p c. D.slots f a p (function_is_done f a p c) c;
      start =
          (let m = main_there i.functions (one_main i L.laid) in
          let w = known.walked_main i L.laid ranks R done closed tab ps D (main_number i) refl in
          let o = entered (main_number i) m.0 main_done w m.1 in
          (m.0, m.1, o.0, o.1, o.2));
      seen = seen_at;
      met = λ g. (right_all g).met;
      room = H.room;
    }

-- so there is a table of kinds with which it is verified
pub verified_of : (i : Parts) → IsLaid i → ((f : ℕ) → IsNamed i f) → (ranks : List ℕ) → IsRanked i ranks → (tab : Marks) → IsExamined i tab → (bound : ℕ → ℕ) → HasRoom i tab bound
    → (t : Typing) × IsVerified i t
verified_of i L named ranks R tab E bound H = (all i L ranks R tab E.0 E.1 named bound H, verified i L ranks R tab E.0 E.1 named bound H)
