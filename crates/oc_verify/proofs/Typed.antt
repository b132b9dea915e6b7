-- A verified image is typed.
use Rattle.std.proofs.Common.{◌≡◌, ℕ, zero, suc, ◌+◌, ◌-◌, ◌<◌, ◌≤◌, ◌≢◌, List, [], ◌∷◌, ◌++◌, length, append_assoc, take, drop, Option, Some, None, Ok, Err, refl, sym, ap, ◌∙◌}
use Rattle.std.proofs.lemmas.Bool.{and_parts}
use Rattle.std.proofs.Common.{subst, ⊎_elim, arith, Bool, true, false, nat_le, nat_lt, nat_eq, cond}
use Rattle.std.proofs.lemmas.List.Sums.{sum_by-cons}
use Rattle.std.specs.Prelude.{◌==◌, if◌then◌else◌, ◌&&◌, ◌||◌, not, slice_get, count_by}
use Rattle.std.specs.List.{list_any, list_all}
use Rattle.std.proofs.lemmas.Bool.Decides.{eqb_tells}
use Rattle.oc_isa.specs.declared.image.ImageFunction.{ImageFunction}
use Rattle.oc_isa.specs.declared.instr.Placed.{Placed}
use Rattle.oc_isa.specs.declared.instr.Instr.{Instr}
use Rattle.oc_isa.specs.declared.instr.Instr.TheVariants.{Push, Load, Store, Nload, Nstore, Addr, Naddr, Get, Put, Index, Bin, Un, Jump, Jfalse, Call, Ret, Retv, Drop, Sense, Emit}
use Rattle.oc_isa.specs.declared.instr.Instr.TheVariants.{Probe, Enter, Commit, Halt}
use Rattle.oc_isa.specs.Image.{Parts, is_main}
use Rattle.oc_isa.specs.Run.{IsSound}
use Rattle.oc_isa.specs.Table.{device_of}
use Rattle.oc_verify.specs.declared.kind.Kind.{Kind}
use Rattle.oc_verify.specs.declared.kind.Kind.TheVariants.{Number, Place}
use Rattle.oc_verify.specs.Typing.{Pair, pair, Typing, IsTyped, FineAt, Fine, slots, slots_of, result, Leads, AllNumbers, level, owner}
use Rattle.oc_verify.specs.Rules.{Judged, ◌>>=◌, number, place, slot, number_slot, closing, none_open, more, run, judge, own_slots, on_function, successors, code_at, params_of}
use Rattle.oc_verify.specs.Rules.{gives, returns_right, names_exist, main_number, nv_words, counts_fit, has_frame, laid_out, some_before, is_retv, end_at, main_from, rises}
use Rattle.oc_verify.specs.Rules.{target_fits}
use Rattle.oc_verify.specs.Verified.{IsVerified, Seen, frame_at}
use Rattle.oc_verify.proofs.Cells.{level_below, level_short}
use Rattle.oc_verify.proofs.Owners.{owned, stands, main_is, words_are, main_shifts}
use Rattle.oc_verify.proofs.Steps.{sound}
use Rattle.oc_verify.proofs.Calls.{no_call_of_main}

-- A right judgement, taken apart

number_inv : (ks : List Kind) (go : List Kind → Judged Pair) (q : Pair) → (number ks >>= go) ≡ Ok q → (rest : List Kind) × (ks ≡ Number ∷ rest) × (go rest ≡ Ok q)
number_inv [] go q e = absurd (cc)
number_inv (Number ∷ ks) go q e = (ks, refl, e)
number_inv (Place n ∷ ks) go q e = absurd (cc)

place_if : (b : Bool) (n m : ℕ) (ks : List Kind) (go : List Kind → Judged Pair) (q : Pair) → nat_le n m ≡ b → ((if b then Ok ks else Err 4) >>= go) ≡ Ok q → (n ≤ m) × (go ks ≡ Ok q)
place_if true n m ks go q h e = (grind arith, e)
place_if false n m ks go q h e = absurd (cc)

place_inv : (n : ℕ) (ks : List Kind) (go : List Kind → Judged Pair) (q : Pair) → (place n ks >>= go) ≡ Ok q → (m : ℕ) × (rest : List Kind) × (ks ≡ Place m ∷ rest) × (n ≤ m) × (go rest ≡ Ok q)
place_inv n [] go q e = absurd (cc)
place_inv n (Number ∷ ks) go q e = absurd (cc)
place_inv n (Place m ∷ ks) go q e = let r = place_if (nat_le n m) n m ks go q refl e in (m, ks, refl, r.0, r.1)

slot_inv : (o : Option (Option Kind)) (go : Kind → Judged Pair) (q : Pair) → (slot o >>= go) ≡ Ok q → (k : Kind) × (o ≡ Some (Some k)) × (go k ≡ Ok q)
slot_inv None go q e = absurd (cc)
slot_inv (Some None) go q e = absurd (cc)
slot_inv (Some (Some k)) go q e = (k, refl, e)

number_slot_inv : (o : Option (Option Kind)) (go : Kind → Judged Pair) (q : Pair) → (number_slot o >>= go) ≡ Ok q → (o ≡ Some (Some Number)) × (go Number ≡ Ok q)
number_slot_inv None go q e = absurd (cc)
number_slot_inv (Some None) go q e = absurd (cc)
number_slot_inv (Some (Some Number)) go q e = (refl, e)
number_slot_inv (Some (Some (Place n))) go q e = absurd (cc)

dropping_if : (b : Bool) (n : ℕ) (ks : List Kind) (go : List Kind → Judged Pair) (q : Pair) → nat_le n (length ks) ≡ b → ((if b then Ok (drop n ks) else Err 5) >>= go) ≡ Ok q
    → (n ≤ length ks) × (go (drop n ks) ≡ Ok q)
dropping_if true n ks go q h e = (grind arith, e)
dropping_if false n ks go q h e = absurd (cc)

closing_inv : (r : ℕ) (rs : List ℕ) (go : List ℕ → Judged Pair) (q : Pair) → (closing r rs >>= go) ≡ Ok q → (rest : List ℕ) × (rs ≡ r ∷ rest) × (go rest ≡ Ok q)
closing_inv r [] go q e = absurd (cc)
closing_inv r (s ∷ rs) go q e = by (s == r) refl e
  where
    by : (b : Bool) → (s == r) ≡ b → ((if b then Ok rs else Err 9) >>= go) ≡ Ok q → (rest : List ℕ) × (s ∷ rs ≡ r ∷ rest) × (go rest ≡ Ok q)
    by true h e = let n : s ≡ r = grind (arith, h) in (rs, ap (λ y. y ∷ rs) n, e)
    by false h e = absurd (cc)

none_open_inv : (rs : List ℕ) (go : List ℕ → Judged Pair) (q : Pair) → (none_open rs >>= go) ≡ Ok q → (rs ≡ []) × (go [] ≡ Ok q)
none_open_inv [] go q e = (refl, e)
none_open_inv (r ∷ rs) go q e = absurd (cc)

parts : (n : ℕ) (ks : List Kind) → ks ≡ take n ks ++ drop n ks
parts zero ks = refl
parts (suc n) [] = refl
parts (suc n) (k ∷ ks) = ap (λ l. k ∷ l) (parts n ks)

dropped : (n : ℕ) (ks : List Kind) → length (drop n ks) ≡ length ks - n
dropped zero ks = omega arith
dropped (suc n) [] = omega arith
dropped (suc n) (k ∷ ks) = dropped n ks ∙ omega arith

-- Number slots that follow each other

run_all : (pre ss : List (Option Kind)) (s n : ℕ) → s ≤ length ss → AllNumbers (pre ++ ss) (length ss) n → AllNumbers (pre ++ ss) s (run ss s n)
run_all pre [] s n l h = subst (λ a. AllNumbers (pre ++ []) a n) (omega arith) h
run_all pre (k ∷ ss) s n l h = by_level (nat_lt (length ss) s) refl (λ n' u h'. run_all (pre ++ k ∷ []) ss s n' u h')
  where
    whole : (pre ++ k ∷ []) ++ ss ≡ pre ++ k ∷ ss
    whole = append_assoc pre (k ∷ []) ss

    here : level (pre ++ k ∷ ss) (length ss) ≡ Some k
    here = level_below pre (k ∷ ss) (length ss) (omega arith) ∙ grind arith

    counted : (k' : Option Kind) → k ≡ k' → AllNumbers (pre ++ k ∷ ss) (length ss) (more k' n)
    counted None e = λ j q. absurd (omega (arith, q))
    counted (Some (Place m)) e = λ j q. absurd (omega (arith, q))
    counted (Some Number) e = λ j q. one j q
      where
        one : (j : ℕ) → suc j ≤ suc n → level (pre ++ k ∷ ss) (length ss + j) ≡ Some (Some Number)
        one zero q = subst (λ a. level (pre ++ k ∷ ss) a ≡ Some (Some Number)) (omega arith) (here ∙ ap Some e)
        one (suc j) q = subst (λ a. level (pre ++ k ∷ ss) a ≡ Some (Some Number)) (omega arith) (h j (omega (arith, q)))

    by_level : (b : Bool) → nat_lt (length ss) s ≡ b
        → ((n' : ℕ) → s ≤ length ss → AllNumbers ((pre ++ k ∷ []) ++ ss) (length ss) n' → AllNumbers ((pre ++ k ∷ []) ++ ss) s (run ss s n'))
        → AllNumbers (pre ++ k ∷ ss) s (if b then n else run ss s (more k n))
    by_level true e ih = subst (λ a. AllNumbers (pre ++ k ∷ ss) a n) (let u : length ss < s = grind arith in omega (arith, u, l)) h
    by_level false e ih =
        let u : s ≤ length ss = grind arith in
        subst (λ xs. AllNumbers xs s (run ss s (more k n))) whole (ih (more k n) u (subst (λ xs. AllNumbers xs (length ss) (more k n)) (sym whole) (counted k refl)))

run_numbers : (ss : List (Option Kind)) (s : ℕ) → s ≤ length ss → AllNumbers ss s (run ss s 0)
run_numbers ss s l = run_all [] ss s 0 l (λ j q. absurd (omega (arith, q)))

-- the run from a number slot is not empty
pub run_one : (ss : List (Option Kind)) (s n : ℕ) → level ss s ≡ Some (Some Number) → 1 ≤ run ss s n
run_one [] s n e = absurd (cc)
run_one (k ∷ ss) s n e = ⊎_elim
    (λ q. let far : nat_lt (length ss) s ≡ false = grind (arith, q.1) in
    let is : Some k ≡ Some (Some Number) = grind (arith, q.1, e) in
    let is' : k ≡ Some Number = (cc) in
    subst (λ b. 1 ≤ (if b then n else run ss s (more k n))) (sym far) (subst (λ x. 1 ≤ run ss s (more x n)) (sym is') (ends ss s (suc n) (omega (arith, q.1)) (omega arith))))
    (λ q. let e' : level ss s ≡ Some (Some Number) = grind (arith, q.1, e) in
    let u : s < length ss = level_short ss s (Some Number) e' in
    let far : nat_lt (length ss) s ≡ false = grind (arith, u) in
    subst (λ b. 1 ≤ (if b then n else run ss s (more k n))) (sym far) (run_one ss s (more k n) e'))
    (eqb_tells s (length ss))
  where
    ends : (ss : List (Option Kind)) (s n : ℕ) → length ss ≤ s → 1 ≤ n → 1 ≤ run ss s n
    ends [] s n l o = o
    ends (k ∷ ss) s n l o = let far : nat_lt (length ss) s ≡ true = grind (arith, l) in subst (λ b. 1 ≤ (if b then n else run ss s (more k n))) (sym far) o

equal : (n m : ℕ) → nat_eq n m ≡ true → n ≡ m
equal n m e = grind (arith, e)

not_so : (b : Bool) → not b ≡ true → b ≡ false
not_so true e = absurd (cc)
not_so false e = refl

each_frame : (fs : List ImageFunction) (f : ℕ) (g : ImageFunction) → list_all has_frame fs ≡ true → slice_get fs f ≡ Some g → has_frame g ≡ true
each_frame [] f g e h = absurd (cc)
each_frame (x ∷ fs) zero g e h = let q : x ≡ g = (cc) in subst (λ y. has_frame y ≡ true) q (and_parts _ _ e).0
each_frame (x ∷ fs) (suc f) g e h = each_frame fs f g (and_parts _ _ e).1 h

other_frame : (g : ImageFunction) (b : Bool) → is_main g ≡ false → has_frame g ≡ true → g.params + 2 ≤ g.frame
other_frame g b e h = let q : nat_le (g.params + 2) g.frame ≡ true = ap (λ c. if c then nat_eq g.params 0 else nat_le (g.params + 2) g.frame) (sym e) ∙ h in grind (arith, q)

-- a retv in the code of f makes it give a number
some_here : (test : Instr → Bool) (end a j : ℕ) (ps : List Placed) (p : Placed) → slice_get ps j ≡ Some p → test p.instr ≡ true → a + j < end → some_before test end a ps ≡ true
some_here test end a j [] p e h l = absurd (cc)
some_here test end a zero (q ∷ ps) p e h l =
    let s : q ≡ p = (cc) in
    let n : nat_lt a end ≡ true = grind (arith, l) in
    let r : test q.instr ≡ true = subst (λ x. test x.instr ≡ true) (sym s) h in
    ap (λ b. b && (test q.instr || some_before test end (suc a) ps)) n ∙ ap (λ b. b || some_before test end (suc a) ps) r
some_here test end a (suc j) (q ∷ ps) p e h l =
    let n : nat_lt a end ≡ true = grind (arith, l) in
    let r : some_before test end (suc a) ps ≡ true = some_here test end (suc a) j ps p e h (omega (arith, l)) in
    ap (λ b. b && (test q.instr || some_before test end (suc a) ps)) n ∙ ap (λ b. test q.instr || b) r ∙ either_true (test q.instr)
  where
    either_true : (b : Bool) → b || true ≡ true
    either_true true = refl
    either_true false = refl

get_drop : (ps : List Placed) (n j : ℕ) → slice_get (drop n ps) j ≡ slice_get ps (n + j)
get_drop ps zero j = let n : j ≡ 0 + j = omega arith in ap (slice_get ps) n
get_drop [] (suc n) j = refl
get_drop (p ∷ ps) (suc n) j = get_drop ps n j ∙ (let m : suc (n + j) ≡ suc n + j = omega arith in ap (slice_get (p ∷ ps)) m)

retv_gives : (i : Parts) (f a : ℕ) (p : Placed) (k : ℕ) → code_at i f a ≡ Some p → p.instr ≡ Retv k → gives i f ≡ true
retv_gives i f a p k e x =
    let s = stands i f a p e in
    let n : s.home.entry + (a - s.home.entry) ≡ a = (let l = s.low in omega (arith, l)) in
    let g : slice_get (drop s.home.entry i.code) (a - s.home.entry) ≡ Some p = get_drop i.code s.home.entry (a - s.home.entry) ∙ ap (slice_get i.code) n ∙ s.found in
    ap (on_function false (λ h. some_before is_retv (end_at i.functions (length i.code) f) h.entry (drop h.entry i.code))) s.is
    ∙ some_here is_retv (end_at i.functions (length i.code) f) s.home.entry (a - s.home.entry) (drop s.home.entry i.code) p g (ap is_retv x) (let h = s.high in omega (arith, n, h))

abbrev one : Bool → ℕ
one b = cond b 1 0

counted_cons : (p : ImageFunction → Bool) (x : ImageFunction) (xs : List ImageFunction) → count_by p (x ∷ xs) ≡ one (p x) + count_by p xs
counted_cons p x xs = sum_by-cons (λ y. cond (p y) 1 0) x xs

count_here : (p : ImageFunction → Bool) (x : ImageFunction) (xs : List ImageFunction) → p x ≡ true → count_by p (x ∷ xs) ≡ suc (count_by p xs)
count_here p x xs e = counted_cons p x xs ∙ ap (λ b. one b + count_by p xs) e ∙ (let n : 1 + count_by p xs ≡ suc (count_by p xs) = omega arith in n)

count_past : (p : ImageFunction → Bool) (x : ImageFunction) (xs : List ImageFunction) → p x ≡ false → count_by p (x ∷ xs) ≡ count_by p xs
count_past p x xs e = counted_cons p x xs ∙ ap (λ b. one b + count_by p xs) e ∙ (let n : 0 + count_by p xs ≡ count_by p xs = omega arith in n)

count_more : (p : ImageFunction → Bool) (x : ImageFunction) (xs : List ImageFunction) → count_by p xs ≤ count_by p (x ∷ xs)
count_more p x xs = let n = counted_cons p x xs in omega (arith, n)

-- with just one `main`, each other function is none
none_after : (fs : List ImageFunction) → count_by is_main fs ≡ 0 → (f : ℕ) (g : ImageFunction) → slice_get fs f ≡ Some g → is_main g ≡ false
none_after [] c f g e = absurd (cc)
none_after (x ∷ fs) c zero g e = let q : x ≡ g = (cc) in subst (λ y. is_main y ≡ false) q (by (is_main x) refl)
  where
    by : (b : Bool) → is_main x ≡ b → is_main x ≡ false
    by true h = let n : count_by is_main (x ∷ fs) ≡ suc (count_by is_main fs) = count_here is_main x fs h in absurd (omega (arith, n, c))
    by false h = h
none_after (x ∷ fs) c (suc f) g e = none_after fs (let n = count_more is_main x fs in omega (arith, n, c)) f g e

others : (fs : List ImageFunction) → count_by is_main fs ≡ 1 → (f : ℕ) (g : ImageFunction) → slice_get fs f ≡ Some g → f ≢ main_from 0 fs → is_main g ≡ false
others [] c f g e n = absurd (cc)
others (x ∷ fs) c f g e n = by (is_main x) refl f e n (λ f e n c'. others fs c' f g e n)
  where
    by : (b : Bool) → is_main x ≡ b → (f : ℕ) → slice_get (x ∷ fs) f ≡ Some g → f ≢ (if b then 0 else main_from 1 fs)
        → ((f : ℕ) → slice_get fs f ≡ Some g → f ≢ main_from 0 fs → count_by is_main fs ≡ 1 → is_main g ≡ false) → is_main g ≡ false
    by true h zero e n ih = absurd (n refl)
    by true h (suc f) e n ih = none_after fs (let m = count_here is_main x fs h in omega (arith, m, c)) f g e
    by false h zero e n ih = let q : x ≡ g = (cc) in subst (λ y. is_main y ≡ false) q h
    by false h (suc f) e n ih = ih f e (λ q. n (ap suc q ∙ sym (main_shifts fs 0))) (let m = count_past is_main x fs h in omega (arith, m, c))

frames_laid : (i : Parts) → laid_out i ≡ true → list_all has_frame i.functions ≡ true
frames_laid i l =
    let a : rises i.functions && (list_all (λ h. nat_lt h.entry (length i.code)) i.functions && (nat_eq (count_by is_main i.functions) 1 && list_all has_frame i.functions))
    ≡ true = (and_parts (nat_lt (length i.code) 2147483648) _ l).1 in
    let b : list_all (λ h. nat_lt h.entry (length i.code)) i.functions && (nat_eq (count_by is_main i.functions) 1 && list_all has_frame i.functions) ≡ true = (and_parts (rises i.functions) _ a).1 in
    (and_parts (nat_eq (count_by is_main i.functions) 1) _ (and_parts (list_all (λ h. nat_lt h.entry (length i.code)) i.functions) _ b).1).1

words_few : (i : Parts) → counts_fit i ≡ true → nv_words i ≤ 65536
words_few i c =
    let n : nat_le (nv_words i) 65536 ≡ true =
    fifth (nat_le (length i.names.sensors) 64) (nat_le (length i.names.ports) 64) (nat_le (length i.names.nvs) 64) (nat_eq (length i.nv) (length i.names.nvs))
    (nat_le (nv_words i) 65536) (list_all (λ ts. list_all (target_fits i) ts) i.targets) c in grind (arith, n)
  where
    fifth : (a b c d e f : Bool) → a && (b && (c && (d && (e && f)))) ≡ true → e ≡ true
    fifth true true true true true f h = refl
    fifth true true true true false f h = absurd (cc)
    fifth true true true false e f h = absurd (cc)
    fifth true true false d e f h = absurd (cc)
    fifth true false c d e f h = absurd (cc)
    fifth false b c d e f h = absurd (cc)

one_main_only : (i : Parts) → laid_out i ≡ true → (f : ℕ) (g : ImageFunction) → slice_get i.functions f ≡ Some g → f ≢ main_number i → is_main g ≡ false
one_main_only i l f g e n =
    let a : rises i.functions && (list_all (λ h. nat_lt h.entry (length i.code)) i.functions && (nat_eq (count_by is_main i.functions) 1 && list_all has_frame i.functions))
    ≡ true = (and_parts (nat_lt (length i.code) 2147483648) _ l).1 in
    let b : list_all (λ h. nat_lt h.entry (length i.code)) i.functions && (nat_eq (count_by is_main i.functions) 1 && list_all has_frame i.functions) ≡ true = (and_parts (rises i.functions) _ a).1 in
    let c : nat_eq (count_by is_main i.functions) 1 ≡ true = (and_parts _ (list_all has_frame i.functions) (and_parts (list_all (λ h. nat_lt h.entry (length i.code)) i.functions) _ b).1).0 in
    others i.functions (equal _ _ c) f g e n

-- The image at hand

module _ (i : Parts) (t : Typing) (v : IsVerified i t) where
  function_is : (f : ℕ) (g h : ImageFunction) → slice_get i.functions f ≡ Some g → slice_get i.functions f ≡ Some h → g ≡ h
  function_is f g h a b = let q : Some g ≡ Some h = sym a ∙ b in (cc)

  slots_are : (f : ℕ) (g : ImageFunction) → slice_get i.functions f ≡ Some g → own_slots i f (t.kinds f) ≡ slots_of t f g
  slots_are f g e = ap (on_function [] (λ h. slots (main_number i) f h (t.kinds f))) e ∙ ap (λ m. slots m f g (t.kinds f)) (sym v.main)

  frame_is : (f : ℕ) (g : ImageFunction) → slice_get i.functions f ≡ Some g → frame_at i f ≡ g.frame
  frame_is f g e = ap (on_function 0 (λ h. h.frame)) e

  params_are : (f : ℕ) (g : ImageFunction) → slice_get i.functions f ≡ Some g → params_of i f ≡ g.params
  params_are f g e = ap (on_function 0 (λ h. h.params)) e

  -- an address with a pair, in the code of this function
  leads_to : (f b : ℕ) (ks : List Kind) (rs : List ℕ) (q : Pair) → q ≡ pair ks rs → t.pairs b ≡ Some q → (x : Placed) × (code_at i f b ≡ Some x) → Leads i t f b ks rs
  leads_to f b ks rs q e p c = (p ∙ ap Some e, owned i v.laid f b c.0 c.1)

  module _ (a : ℕ) (p : Pair) (s : Seen i t a p) (g : ImageFunction) (is : slice_get i.functions s.fn ≡ Some g) where
    abbrev ss : List (Option Kind)
    ss = own_slots i s.fn (t.kinds s.fn)

    same : ss ≡ slots_of t s.fn g
    same = slots_are s.fn g is

    goes_to : (b : ℕ) (ks : List Kind) (rs : List ℕ) → ◌≡◌ {A = Judged Pair} (Ok (pair ks rs)) (Ok s.after) → list_any (nat_eq b) (successors s.placed.instr a) ≡ true → Leads i t s.fn b ks rs
    goes_to b ks rs e l = let w = s.goes b l in let q : s.after ≡ pair ks rs = (cc) in leads_to s.fn b ks rs s.after q w.0 (w.1, w.2)

    here : (n : ℕ) → nat_eq n n || false ≡ true
    here n = grind arith

    first : (n m : ℕ) → nat_eq n n || (nat_eq n m || false) ≡ true
    first n m = grind arith

    second : (n m : ℕ) → nat_eq n m || (nat_eq n n || false) ≡ true
    second n m = grind arith

    at_slot : (n : ℕ) (k : Option Kind) → level ss n ≡ Some k → level (slots_of t s.fn g) n ≡ Some k
    at_slot n k e = ap (λ l. level l n) (sym same) ∙ e

    words_short : (n : ℕ) → nat_lt n (nv_words i) ≡ true → n < t.words
    words_short n e = let w = v.words in grind (arith, w)

    names_here : (x : Instr) → s.placed.instr ≡ x → names_exist i s.fn x ≡ true
    names_here x e = ap (names_exist i s.fn) (sym e) ∙ v.names s.fn a s.placed s.found

    returns_here : (x : Instr) → s.placed.instr ≡ x → returns_right i s.fn x ≡ true
    returns_here x e = ap (returns_right i s.fn) (sym e) ∙ v.returns s.fn a s.placed s.found

    judged : (x : Instr) → s.placed.instr ≡ x → judge i ss x p.ops p.opens ≡ Ok s.after
    judged x e = ap (λ y. judge i ss y p.ops p.opens) (sym e) ∙ s.right

    to : (x : Instr) → s.placed.instr ≡ x → (b : ℕ) (ks : List Kind) (rs : List ℕ) → ◌≡◌ {A = Judged Pair} (Ok (pair ks rs)) (Ok s.after) → list_any (nat_eq b) (successors x a)
        ≡ true → Leads i t s.fn b ks rs
    to x e b ks rs r l = goes_to b ks rs r (ap (λ y. list_any (nat_eq b) (successors y a)) e ∙ l)

    not_main : (b : Bool) → not (s.fn == main_number i) && b ≡ true → s.fn ≢ t.main
    not_main b e = λ q. ⊎_elim (λ h. absurd (cc)) (λ h. h.1 (q ∙ v.main)) (eqb_tells s.fn (main_number i))

    fine_call : (f : ℕ) → s.placed.instr ≡ Call f → Fine i t (Call f) s.fn g a p.ops p.opens
    fine_call f x =
        let c = s.calls f x in
        let u = dropping_if (nat_le (params_of i f) (length p.ops)) (params_of i f) p.ops (λ rest. Ok (pair (result (gives i f) rest) p.opens)) s.after refl (judged (Call f) x) in
        let fr : frame_at i s.fn ≡ g.frame = frame_is s.fn g is in
        let d : frame_at i s.fn + (length p.ops - params_of i f) + t.bound f ≤ t.bound s.fn = c.deep in
        let z : length (drop (params_of i f) p.ops) ≡ length p.ops - params_of i f = dropped (params_of i f) p.ops in
        let gv : ◌≡◌ {A = Judged Pair} (Ok (pair (result (t.results f) (drop (params_of i f) p.ops)) p.opens)) (Ok s.after) =
        ap (λ b. Ok (pair (result b (drop (params_of i f) p.ops)) p.opens)) (v.gives f) ∙ u.1 in (
          c.callee,
          take (params_of i f) p.ops,
          drop (params_of i f) p.ops,
          c.is,
          (λ q. no_call_of_main i v.laid v.no_circle t.kinds s.fn s.called a s.placed s.found (x ∙ ap Call (q ∙ v.main))),
          parts (params_of i f) p.ops,
          c.suits,
          leads_to f c.callee.entry [] [] (pair [] []) refl c.entered c.inside,
          to (Call f) x (a + 1) _ _ gv (here (a + 1)),
          omega (arith, fr, d, z),
        )

    fine_of : (x : Instr) → s.placed.instr ≡ x → Fine i t x s.fn g a p.ops p.opens
    fine_of (Push c) x = to (Push c) x (a + 1) _ _ (judged (Push c) x) (here (a + 1))
    fine_of (Load n) x = let r = slot_inv _ _ s.after (judged (Load n) x) in (r.0, at_slot n _ r.1, to (Load n) x (a + 1) _ _ r.2 (here (a + 1)))
    fine_of (Store n) x = let r = number_slot_inv _ _ s.after (judged (Store n) x) in let u = number_inv p.ops _ s.after r.1 in
        (u.0, u.1, at_slot n _ r.0, to (Store n) x (a + 1) _ _ u.2 (here (a + 1)))
    fine_of (Addr n) x =
        let r = number_slot_inv _ _ s.after (judged (Addr n) x) in
        let short : n < length ss = level_short ss n (Some Number) r.0 in
        (run ss n 0, (λ j q. at_slot (n + j) _ (run_numbers ss n (omega (arith, short)) j q)), run_one ss n 0 r.0, to (Addr n) x (a + 1) _ _ r.1 (here (a + 1)))
    fine_of Get x = let r = place_inv 1 p.ops _ s.after (judged Get x) in let m : suc (r.0 - 1) ≡ r.0 = omega (arith, r.3) in
        (r.0 - 1, r.1, r.2 ∙ ap (λ z. Place z ∷ r.1) (sym m), to Get x (a + 1) _ _ r.4 (here (a + 1)))
    fine_of Put x = let r = place_inv 1 p.ops _ s.after (judged Put x) in let u = number_inv r.1 _ s.after r.4 in let m : suc (r.0 - 1) ≡ r.0 = omega (arith, r.3) in
        (r.0 - 1, u.0, r.2 ∙ ap (λ z. Place z ∷ r.1) (sym m) ∙ ap (λ l. Place (suc (r.0 - 1)) ∷ l) u.1, to Put x (a + 1) _ _ u.2 (here (a + 1)))
    fine_of (Jump n) x = to (Jump n) x n _ _ (judged (Jump n) x) (here n)
    fine_of (Jfalse n) x = let u = number_inv p.ops _ s.after (judged (Jfalse n) x) in (u.0, u.1, to (Jfalse n) x n _ _ u.2 (first n (a + 1)), to (Jfalse n) x (a + 1) _ _ u.2 (second (a + 1) n))
    fine_of (Call f) x = fine_call f x
    fine_of (Ret k) x =
        let u = none_open_inv p.opens _ s.after (judged (Ret k) x) in
        let r = returns_here (Ret k) x in
        let b = (and_parts (not (s.fn == main_number i)) (nat_eq k (params_of i s.fn) && not (gives i s.fn)) r).1 in
        let e : nat_eq k (params_of i s.fn) ≡ true = (and_parts _ _ b).0 in
        (equal k (params_of i s.fn) e ∙ params_are s.fn g is, not_main _ r, u.0, v.gives s.fn ∙ not_so (gives i s.fn) (and_parts _ _ b).1)
    fine_of (Retv k) x =
        let u = number_inv p.ops _ s.after (judged (Retv k) x) in
        let w = none_open_inv p.opens _ s.after u.2 in
        let r = returns_here (Retv k) x in
        let e : nat_eq k (params_of i s.fn) ≡ true = (and_parts (not (s.fn == main_number i)) _ r).1 in
        (u.0, u.1, equal k (params_of i s.fn) e ∙ params_are s.fn g is, not_main _ r, w.0, v.gives s.fn ∙ retv_gives i s.fn a s.placed k s.found x)
    fine_of (Sense n) x = to (Sense n) x (a + 1) _ _ (judged (Sense n) x) (here (a + 1))
    fine_of (Enter r) x = to (Enter r) x (a + 1) _ _ (judged (Enter r) x) (here (a + 1))
    fine_of (Commit r) x = let u = closing_inv r p.opens _ s.after (judged (Commit r) x) in (u.0, u.1, to (Commit r) x (a + 1) _ _ u.2 (here (a + 1)))
    fine_of Halt x = tt
    fine_of (Nload n) x = (words_short n (names_here (Nload n) x), to (Nload n) x (a + 1) _ _ (judged (Nload n) x) (here (a + 1)))
    fine_of (Nstore n) x = let u = number_inv p.ops _ s.after (judged (Nstore n) x) in (u.0, u.1, words_short n (names_here (Nstore n) x), to (Nstore n) x (a + 1) _ _ u.2 (here (a + 1)))
    fine_of (Naddr n) x = (words_short n (names_here (Naddr n) x), to (Naddr n) x (a + 1) _ _ (ap (λ w. Ok (pair (Place (w - n) ∷ p.ops) p.opens)) v.words ∙ judged (Naddr n) x) (here (a + 1)))
    fine_of (Index n) x = let u = number_inv p.ops _ s.after (judged (Index n) x) in let r = place_inv n u.0 _ s.after u.2 in
        (r.0, r.1, u.1 ∙ ap (λ l. Number ∷ l) r.2, r.3, to (Index n) x (a + 1) _ _ r.4 (here (a + 1)))
    fine_of (Bin op) x = let u = number_inv p.ops _ s.after (judged (Bin op) x) in let w = number_inv u.0 _ s.after u.2 in
        (w.0, u.1 ∙ ap (λ l. Number ∷ l) w.1, to (Bin op) x (a + 1) _ _ w.2 (here (a + 1)))
    fine_of (Un op) x = let u = number_inv p.ops _ s.after (judged (Un op) x) in (u.0, u.1, to (Un op) x (a + 1) _ _ u.2 (here (a + 1)))
    fine_of Drop x = let u = number_inv p.ops _ s.after (judged Drop x) in (u.0, u.1, to Drop x (a + 1) _ _ u.2 (here (a + 1)))
    fine_of (Emit n) x = let u = number_inv p.ops _ s.after (judged (Emit n) x) in (u.0, u.1, to (Emit n) x (a + 1) _ _ u.2 (here (a + 1)))
    fine_of (Probe kind n) x = to (Probe kind n) x (a + 1) _ _ (judged (Probe kind n) x) (here (a + 1))

  fine_at : (a : ℕ) (p : Pair) → t.pairs a ≡ Some p → FineAt i t a p
  fine_at a p e =
      let s = v.seen a p e in
      let st = stands i s.fn a s.placed s.found in
      let o : owner i.functions a ≡ s.fn = owned i v.laid s.fn a s.placed s.found in
      let fr : frame_at i s.fn ≡ st.home.frame = frame_is s.fn st.home st.is in
      let high : frame_at i s.fn + length p.ops ≤ t.bound s.fn = s.high in
      let high' : st.home.frame + length p.ops ≤ t.bound s.fn = omega (arith, fr, high) in
      record {
        instr = s.placed;
        found = st.found;
        home = st.home;
        is = ap (slice_get i.functions) o ∙ st.is;
        high = subst (λ f. st.home.frame + length p.ops ≤ t.bound f) (sym o) high';
        fine = subst (λ f. Fine i t s.placed.instr f st.home a p.ops p.opens) (sym o) (fine_of a p s st.home st.is s.placed.instr refl);
      }

  framed : (f : ℕ) (g : ImageFunction) → slice_get i.functions f ≡ Some g → f ≢ t.main → g.params + 2 ≤ g.frame
  framed f g is n =
      let h : has_frame g ≡ true = each_frame i.functions f g (frames_laid i v.laid) is in
      other_frame g (is_main g) (one_main_only i v.laid f g is (λ q. n (q ∙ sym v.main))) h

  pub typed : IsTyped i t
  typed = record {
    start = (v.start.0, v.start.1, leads_to t.main v.start.0.entry [] [] (pair [] []) refl v.start.2 (v.start.3, v.start.4));
    main = main_is i ∙ ap (slice_get i.functions) (sym v.main);
    each = fine_at;
    sized = λ f g is n. (framed f g is n, v.sized f ∙ params_are f g is);
    room = v.room;
    low = v.low;
    few = (let w = words_few i v.counts in omega (arith, w, v.words));
    words = words_are i ∙ sym v.words;
  }

  pub verified_sound : IsSound (device_of i)
  verified_sound = sound i t typed
