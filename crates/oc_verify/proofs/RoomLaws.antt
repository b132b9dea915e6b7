-- What functions need of the stack.
use Rattle.std.proofs.Common.{◌≡◌, ℕ, zero, suc, ◌+◌, ◌-◌, ◌<◌, ◌≤◌, ◌≢◌, List, [], ◌∷◌, length, get_or, max, Some, refl, sym, ap, ◌∙◌, subst, ⊎_elim, inl, inr, arith, Bool, true, false}
use Rattle.std.proofs.lemmas.Bool.{and_parts}
use Rattle.std.specs.Prelude.{nat_le, nat_lt, ◌⊎◌, ◌==◌, ◌&&◌, ◌||◌, slice_set, replicate}
use Rattle.std.proofs.lemmas.Bool.Decides.{eqb_tells}
use Rattle.oc_isa.specs.declared.instr.Placed.{Placed}
use Rattle.oc_isa.specs.declared.instr.Instr.{Instr}
use Rattle.oc_isa.specs.declared.instr.Instr.TheVariants.{Call}
use Rattle.oc_isa.specs.Image.{Parts}
use Rattle.oc_verify.specs.declared.fault.VerifyError.{VerifyError}
use Rattle.oc_verify.specs.declared.fault.VerifyError.TheVariants as errors
use Rattle.oc_verify.specs.Blames.{Blames}
use Rattle.oc_verify.specs.Typing.{Pair, pair}
use Rattle.oc_verify.specs.Rules.{code_at, params_of, main_number, names_exist, Kinds, Reach, CallAt, CalledIn, Holds, Broken, deep}
use Rattle.oc_verify.specs.Verified.{frame_at}
use Rattle.oc_verify.specs.Facts.{IsLaid, IsNamed, IsRanked}
use Rattle.oc_verify.specs.Work.{Marks}
use Rattle.oc_verify.specs.Tables.{Passed, kinds_of, SeenCall, IsDone, IsExamined, all_done}
use Rattle.oc_verify.specs.Room.{IsEnough, HasRoom, IsHeld, needed, needed_at, SeenAt, IsMost, BlamesDeep, AreBounded, bounded_by}
use Rattle.oc_verify.proofs.Calls.{call_linked, function_short}
use Rattle.oc_verify.proofs.Exact.{either, or_second}
use Rattle.oc_verify.proofs.KindLaws.{call_deep, own_put}
use Rattle.oc_verify.proofs.VerifiedLaws.{right_all, called_all, work_here, walked_here, entered, callee_walked, function_is_done, function_there, short_done}

-- what is needed at an instruction

pub needed_high : (i : Parts) (bounds : List ℕ) (f : ℕ) (x : Instr) (h : ℕ) → frame_at i f + h ≤ needed i bounds f x h
needed_high i bounds f (Call g) h = omega arith
needed_high i bounds f x h = omega arith

pub call_or : (i : Parts) (bounds : List ℕ) (f : ℕ) (x : Instr) (h : ℕ) → ((g : ℕ) × (x ≡ Call g)) ⊎ (needed i bounds f x h ≡ frame_at i f + h)
call_or i bounds f (Call g) h = inl (g, refl)
call_or i bounds f x h = inr refl

pub needed_other : (i : Parts) (bounds : List ℕ) (f : ℕ) (x : Instr) (h : ℕ) → ((g : ℕ) → x ≡ Call g → ⊥) → needed i bounds f x h ≡ frame_at i f + h
needed_other i bounds f x h none = ⊎_elim (λ q. absurd (none q.0 q.1)) (λ e. e) (call_or i bounds f x h)

pub max_or : (a b : ℕ) → (max a b ≡ a) ⊎ (max a b ≡ b)
max_or a b = by (nat_le a b) refl
  where
    by : (c : Bool) → nat_le a b ≡ c → (max a b ≡ a) ⊎ (max a b ≡ b)
    by true e = inr (let l : a ≤ b = grind (arith, e) in omega (arith, l))
    by false e = inl (let l : b < a = grind (arith, e) in omega (arith, l))

call_of : (i : Parts) (tab : Marks) (f g : ℕ) (x : Placed) (p : Pair) (s : SeenAt i tab f x p) → x.instr ≡ Call g → SeenCall i tab f g s.address p
call_of i tab f g x p s e = record { placed = x; found = s.found; calls = e; pair = s.pair }

-- one number of a list is set

set_here : (xs : List ℕ) (k v : ℕ) → k < length xs → get_or (slice_set xs k v) k 0 ≡ v
set_here [] k v h = absurd (omega (arith, h))
set_here (x ∷ xs) zero v h = refl
set_here (x ∷ xs) (suc k) v h = set_here xs k v (omega (arith, h))

set_there : (xs : List ℕ) (k v j : ℕ) → j ≢ k → get_or (slice_set xs k v) j 0 ≡ get_or xs j 0
set_there [] k v j d = refl
set_there (x ∷ xs) zero v zero d = absurd (d refl)
set_there (x ∷ xs) zero v (suc j) d = refl
set_there (x ∷ xs) (suc k) v zero d = refl
set_there (x ∷ xs) (suc k) v (suc j) d = set_there xs k v j (λ e. d (ap suc e))

set_long : (xs : List ℕ) (k v : ℕ) → length (slice_set xs k v) ≡ length xs
set_long [] k v = refl
set_long (x ∷ xs) zero v = refl
set_long (x ∷ xs) (suc k) v = ap suc (set_long xs k v)

zeros_at : (n k : ℕ) → ◌≡◌ {A = ℕ} (get_or (replicate n 0) k 0) 0
zeros_at zero k = refl
zeros_at (suc n) zero = refl
zeros_at (suc n) (suc k) = zeros_at n k

zeros_long : (n : ℕ) → length {A = ℕ} (replicate n 0) ≡ n
zeros_long zero = refl
zeros_long (suc n) = ap suc (zeros_long n)

-- nothing is bounded yet
pub none_bounded : (i : Parts) (tab : Marks) (n : ℕ) (done : ℕ → Bool) → n ≡ length i.functions → ((h : ℕ) → done h ≡ true → ⊥) → AreBounded i tab done (replicate n 0)
none_bounded i tab n done e never = record {
  sized = zeros_long n ∙ e;
  low = λ g. (let z = zeros_at n g in omega (arith, z));
  enough = λ f d. absurd (never f d);
  held = λ f d. absurd (never f d);
}

pub fewer_bounded : (i : Parts) (tab : Marks) (done less : ℕ → Bool) (bounds : List ℕ) → ((h : ℕ) → less h ≡ true → done h ≡ true) → AreBounded i tab done bounds → AreBounded i tab less bounds
fewer_bounded i tab done less bounds on B = record { sized = B.sized; low = B.low; enough = λ f d. B.enough f (on f d); held = λ f d. B.held f (on f d) }

module _ (i : Parts) (L : IsLaid i) (named : (f : ℕ) → IsNamed i f) (ranks : List ℕ) (R : IsRanked i ranks) (tab : Marks) where
  callee_low : (f g a : ℕ) (p : Pair) → SeenCall i tab f g a p → g < length i.functions
  callee_low f g a p s =
      let e : names_exist i f (Call g) ≡ true = ap (names_exist i f) (sym s.calls) ∙ (named f a s.placed s.found).0 in
      let n : nat_lt g (length i.functions) ≡ true = e in
      grind (arith, n)

  callee_falls : (f g a : ℕ) (p : Pair) → SeenCall i tab f g a p → get_or ranks g 0 < get_or ranks f 0
  callee_falls f g a p s = R.falls f g (call_linked i L.laid f a g s.placed s.found s.calls)

  -- which functions are bounded, rank by rank

  bounded_parts : (n k f h : ℕ) → bounded_by n ranks k f h ≡ true → (h < n) × ((get_or ranks h 0 < k) ⊎ ((h < f) × (get_or ranks h 0 ≡ k)))
  bounded_parts n k f h d =
      let low : nat_lt h n ≡ true = (and_parts (nat_lt h n) _ d).0 in (
        grind (arith, low),
        ⊎_elim
            (λ e. inl (grind (arith, e)))
            (λ e. inr (
              let x : nat_lt h f ≡ true = (and_parts (nat_lt h f) (get_or ranks h 0 == k) e).0 in grind (arith, x),
              let y : (get_or ranks h 0 == k) ≡ true = (and_parts (nat_lt h f) (get_or ranks h 0 == k) e).1 in grind (arith, y),
            ))
            (either (nat_lt (get_or ranks h 0) k) (nat_lt h f && (get_or ranks h 0 == k)) (and_parts (nat_lt h n) _ d).1),
      )

  bounded_lower : (n k f h : ℕ) → h < n → get_or ranks h 0 < k → bounded_by n ranks k f h ≡ true
  bounded_lower n k f h l r =
      let x : nat_lt h n ≡ true = grind (arith, l) in
      let y : nat_lt (get_or ranks h 0) k ≡ true = grind (arith, r) in
      (λ j. x j && (y j || (nat_lt h f && (get_or ranks h 0 == k))))

  bounded_equal : (n k f h : ℕ) → h < n → h < f → get_or ranks h 0 ≡ k → bounded_by n ranks k f h ≡ true
  bounded_equal n k f h l u r =
      let x : nat_lt h n ≡ true = grind (arith, l) in
      let y : nat_lt h f ≡ true = grind (arith, u) in
      let z : (get_or ranks h 0 == k) ≡ true = grind (arith, r) in
      let w : (nat_lt h f && (get_or ranks h 0 == k)) ≡ true = (λ j. y j && z j) in
      (λ j. x j && (nat_lt (get_or ranks h 0) k || w j)) ∙ or_second (nat_lt (get_or ranks h 0) k) true refl

  pub none_by : (n h : ℕ) → bounded_by n ranks 0 0 h ≡ true → ⊥
  none_by n h d = ⊎_elim (λ e. omega (arith, e)) (λ e. let x = e.0 in omega (arith, x)) (bounded_parts n 0 0 h d).1

  -- what they call is bounded
  pub bounded_down : (k f h g a : ℕ) (p : Pair) → bounded_by (length i.functions) ranks k f h ≡ true → SeenCall i tab h g a p → bounded_by (length i.functions) ranks k f g ≡ true
  bounded_down k f h g a p d s =
      let r = callee_falls h g a p s in
      bounded_lower (length i.functions) k f g (callee_low h g a p s) (⊎_elim (λ e. omega (arith, r, e)) (λ e. let x = e.1 in omega (arith, r, x)) (bounded_parts (length i.functions) k f h d).1)

  pub bounded_callee : (k f g a : ℕ) (p : Pair) → get_or ranks f 0 ≡ k → SeenCall i tab f g a p → bounded_by (length i.functions) ranks k f g ≡ true
  bounded_callee k f g a p e s = let r = callee_falls f g a p s in bounded_lower (length i.functions) k f g (callee_low f g a p s) (omega (arith, r, e))

  pub bounded_fresh : (k f : ℕ) → get_or ranks f 0 ≡ k → bounded_by (length i.functions) ranks k f f ≡ true → ⊥
  bounded_fresh k f e d = ⊎_elim (λ x. omega (arith, x, e)) (λ x. let y = x.0 in omega (arith, y)) (bounded_parts (length i.functions) k f f d).1

  less_or : (a b : ℕ) → a < b + 1 → (a ≡ b) ⊎ (a < b)
  less_or zero zero l = inl refl
  less_or zero (suc b) l = inr (omega arith)
  less_or (suc a) zero l = absurd (omega (arith, l))
  less_or (suc a) (suc b) l = ⊎_elim (λ e. inl (ap suc e)) (λ e. inr (omega (arith, e))) (less_or a b (omega (arith, l)))

  pub bounded_next : (k f h : ℕ) → bounded_by (length i.functions) ranks k (f + 1) h ≡ true → (h ≡ f) ⊎ (bounded_by (length i.functions) ranks k f h ≡ true)
  bounded_next k f h d =
      let b = bounded_parts (length i.functions) k (f + 1) h d in
      ⊎_elim
      (λ e. inr (bounded_lower (length i.functions) k f h b.0 e))
      (λ e. ⊎_elim (λ q. inl q) (λ q. inr (bounded_equal (length i.functions) k f h b.0 q e.1)) (less_or h f e.0))
      b.1

  -- a function of another rank changes nothing
  pub bounded_skip : (k f h : ℕ) → get_or ranks f 0 ≢ k → bounded_by (length i.functions) ranks k (f + 1) h ≡ true → bounded_by (length i.functions) ranks k f h ≡ true
  bounded_skip k f h d b = ⊎_elim
      (λ e. let q = bounded_parts (length i.functions) k (f + 1) h b in
      ⊎_elim (λ l. bounded_lower (length i.functions) k f h q.0 l) (λ l. absurd (d (ap (λ x. get_or ranks x 0) (sym e) ∙ l.1))) q.1)
      (λ e. e)
      (bounded_next k f h b)

  pub bounded_rank : (k f h : ℕ) → length i.functions ≤ f → bounded_by (length i.functions) ranks (k + 1) 0 h ≡ true → bounded_by (length i.functions) ranks k f h ≡ true
  bounded_rank k f h n d =
      let b = bounded_parts (length i.functions) (k + 1) 0 h d in
      let l = b.0 in
      ⊎_elim
      (λ e. ⊎_elim (λ q. bounded_equal (length i.functions) k f h l (omega (arith, n, l)) q) (λ q. bounded_lower (length i.functions) k f h l q) (less_or (get_or ranks h 0) k e))
      (λ e. absurd (let x = e.0 in omega (arith, x)))
      b.1

  -- a call that was looked at has all of its arguments
  pub all_deep : IsExamined i tab → (f g a : ℕ) (p : Pair) → SeenCall i tab f g a p → params_of i g ≤ length p.ops
  all_deep E f g a p s = call_deep i f (kinds_of i E.0 f) tab (work_here i L ranks R tab E.0 E.1 f a s.placed p s.found s.pair) g a p s

  -- what a function needs is held where it is executed
  module _ (done : ℕ → Bool) (bounds : List ℕ) (B : AreBounded i tab done bounds) (f : ℕ) (callees : (g a : ℕ) (p : Pair) → SeenCall i tab f g a p → done g ≡ true) where
    module _ (ps : Passed) (D : IsDone i (all_done i) tab ps) where
      abbrev t : Kinds
      t = kinds_of i ps

      reach_at : (x : Placed) (p : Pair) (s : SeenAt i tab f x p) → Reach i f (t f) s.address p
      reach_at x p s = (work_here i L ranks R tab ps D f s.address x p s.found s.pair).marks s.address p (own_put i f tab s.address p x s.found s.pair)

      held_here : (x : Placed) (p : Pair) (s : SeenAt i tab f x p) (m : ℕ) → m ≡ frame_at i f + length p.ops → (n : ℕ) × Holds i t n f m
      held_here x p s m e = (0, (s.address, p, reach_at x p s, e))

      pub held_at : (x : Placed) (p : Pair) → SeenAt i tab f x p → (n : ℕ) × Holds i t n f (needed_at i bounds f x p)
      held_at x p s = ⊎_elim
          (λ c. let g = c.0 in
          let w = call_of i tab f g x p s c.1 in
          let d = callees g s.address p w in
          let h = B.held g d ps D (callee_walked i L ranks R tab ps D f g s.address p (function_is_done i L ranks R tab ps D f s.address x s.found) w).0 in
          let call : CallAt i t f g s.address p = record { reach = reach_at x p s; placed = x; found = s.found; calls = c.1 } in
          let e : needed_at i bounds f x p ≡ max (frame_at i f + (length p.ops - params_of i g) + get_or bounds g 0) (frame_at i f + length p.ops) = ap (λ y. needed i bounds f y (length p.ops)) c.1 in
          ⊎_elim
          (λ m. (suc h.0, (g, s.address, p, get_or bounds g 0, call, h.1, e ∙ m)))
          (λ m. held_here x p s (needed_at i bounds f x p) (e ∙ m))
          (max_or (frame_at i f + (length p.ops - params_of i g) + get_or bounds g 0) (frame_at i f + length p.ops)))
          (λ e. held_here x p s (needed_at i bounds f x p) e)
          (call_or i bounds f x.instr (length p.ops))

      -- and then `main` holds no less
      up : (k f n s : ℕ) → CalledIn i t k f → Holds i t n f s → (m : ℕ) × (r : ℕ) × Holds i t m (main_number i) r × (s ≤ r)
      up zero f n s c h = (n, s, subst (λ x. Holds i t n x s) c h, omega arith)
      up (suc k) g n s c h =
          let more : ℕ = frame_at i c.0 + (length c.2.ops - params_of i g) + s in
          let r = up k c.0 (suc n) more c.3 (g, c.1, c.2, s, c.4, h, refl) in
          let l = r.3 in
          (r.0, r.1, r.2, omega (arith, l))

      pub too_deep : (x : Placed) (p : Pair) → SeenAt i tab f x p → i.stack < needed_at i bounds f x p → Broken i 0 11
      too_deep x p s l =
          let h = held_at x p s in
          let c = called_all i L ranks R tab ps D f (walked_here i L ranks R tab ps D f s.address x p s.found s.pair) in
          let r = up c.0 f h.0 (needed_at i bounds f x p) c.1 h.1 in
          let m = r.3 in
          deep t r.0 r.1 (right_all i L ranks R tab ps D) r.2 (omega (arith, l, m))

    pub blame_deep : IsExamined i tab → (e : VerifyError) → BlamesDeep i tab bounds f e → Blames i e
    blame_deep E (errors.Refused place rule) b = subst (λ x. Broken i x rule) (sym b.0) (subst (Broken i 0) (sym b.1) (too_deep E.0 E.1 b.2 b.3 b.4 b.5))
    blame_deep E errors.Memory b = tt

    -- one function more
    module _ (m : ℕ) (low : f < length i.functions) (M : IsMost i tab bounds f m) (fresh : done f ≡ true → ⊥) (more : ℕ → Bool) (parts : (h : ℕ) → more h ≡ true → (h ≡ f) ⊎ (done h ≡ true))
        (down : (h g a : ℕ) (p : Pair) → done h ≡ true → SeenCall i tab h g a p → done g ≡ true) where
      abbrev now : List ℕ
      now = slice_set bounds f m

      other : (h : ℕ) → done h ≡ true → h ≢ f
      other h d e = fresh (subst (λ k. done k ≡ true) e d)

      now_here : get_or now f 0 ≡ m
      now_here = set_here bounds f m (let n = B.sized in omega (arith, low, n))

      now_there : (h : ℕ) → done h ≡ true → get_or now h 0 ≡ get_or bounds h 0
      now_there h d = set_there bounds f m h (other h d)

      enough_here : IsEnough i tab f (λ g. get_or now g 0)
      enough_here = record {
        high = λ a p x c e. (let h = needed_high i bounds f x.instr (length p.ops) in let l = M.most x p (record { address = a; found = c; pair = e }) in let n = now_here in omega (arith, h, l, n));
        deep = λ g a p s.
            let l : needed_at i bounds f s.placed p ≤ m = M.most s.placed p (record { address = a; found = s.found; pair = s.pair }) in
            let e : needed_at i bounds f s.placed p ≡ max (frame_at i f + (length p.ops - params_of i g) + get_or bounds g 0) (frame_at i f + length p.ops) =
            ap (λ y. needed i bounds f y (length p.ops)) s.calls in
            let n = now_here in
            let o = now_there g (callees g a p s) in
            omega (arith, l, e, n, o);
      }

      held_now : IsHeld i tab f m
      held_now ps D w =
          let g = function_there i.functions f low in
          let o = entered i L ranks R tab ps D f g.0 (short_done i f low) w g.1 in
          let r = M.held o.1 (pair [] []) (record { address = g.0.entry; found = o.2; pair = o.0 }) in
          let h = held_at ps D r.0 r.1 r.2 in
          (h.0, subst (Holds i (kinds_of i ps) h.0 f) (sym r.3) h.1)

      pub one_bounded : AreBounded i tab more now
      one_bounded = record {
        sized = set_long bounds f m ∙ B.sized;
        low = λ g. ⊎_elim
            (λ e. let l = M.low in let n : get_or now g 0 ≡ m = ap (λ x. get_or now x 0) e.1 ∙ now_here in omega (arith, l, n))
            (λ e. let l = B.low g in let n = set_there bounds f m g e.1 in omega (arith, l, n))
            (eqb_tells g f);
        enough = λ h d. ⊎_elim
            (λ e. subst (λ k. IsEnough i tab k (λ g. get_or now g 0)) (sym e) enough_here)
            (λ o. record {
              high = λ a p x c e. (let l = (B.enough h o).high a p x c e in let n = now_there h o in omega (arith, l, n));
              deep = λ g a p s. (let l = (B.enough h o).deep g a p s in let n = now_there h o in let k = now_there g (down h g a p o s) in omega (arith, l, n, k));
            })
            (parts h d);
        held = λ h d. ⊎_elim
            (λ e. subst (λ k. IsHeld i tab k (get_or now k 0)) (sym e) (subst (IsHeld i tab f) (sym now_here) held_now))
            (λ o. subst (IsHeld i tab h) (sym (now_there h o)) (B.held h o))
            (parts h d);
      }

  -- when all are bounded, there is room
  pub all_bounded : (bounds : List ℕ) → AreBounded i tab (bounded_by (length i.functions) ranks (length i.functions + 1) 0) bounds → (bound : ℕ → ℕ) × HasRoom i tab bound
  all_bounded bounds B = (
    (λ g. get_or bounds g 0),
    record {
      each = λ f. record { high = λ a p x c e. (B.enough f (is_bounded f a x c)).high a p x c e; deep = λ g a p s. (B.enough f (is_bounded f a s.placed s.found)).deep g a p s };
      room = B.low (main_number i);
    },
  )
    where
      is_bounded : (f a : ℕ) (x : Placed) → code_at i f a ≡ Some x → bounded_by (length i.functions) ranks (length i.functions + 1) 0 f ≡ true
      is_bounded f a x c = bounded_lower (length i.functions) (length i.functions + 1) 0 f (function_short i f a x c) (let l = R.low f in omega (arith, l))
