-- Slots, by the numbers of their kinds.
use Rattle.std.proofs.Common.{◌≡◌, ℕ, zero, suc, ◌+◌, ◌-◌, ◌<◌, ◌≤◌, ◌≢◌, List, [], ◌∷◌, ◌++◌, append_assoc, drop, length, length-append, get_or, Option, Some, None, refl, sym, ap, ◌∙◌}
use Rattle.std.proofs.Common.{⊎_elim, arith, Bool, true, false, nat_lt}
use Rattle.std.specs.Prelude.{◌==◌, if◌then◌else◌, map, replicate, option_map}
use Rattle.std.proofs.lemmas.Bool.Decides.{eqb_tells}
use Rattle.std.proofs.lemmas.List.{append-nil, drop_all, drop_more}
use Rattle.std.proofs.Math.Arith.{lt_of_le-ne}
use Rattle.oc_isa.specs.declared.image.ImageFunction.{ImageFunction}
use Rattle.oc_verify.specs.declared.kind.Kind.{Kind}
use Rattle.oc_verify.specs.declared.kind.Kind.TheVariants.{Number}
use Rattle.oc_verify.specs.Typing.{level, slots_by}
use Rattle.oc_verify.specs.Rules.{more, run}
use Rattle.oc_verify.specs.Told.{kind_of}
use Rattle.oc_verify.specs.Own.{Own, own_list, in_frame, slot_kind, runs_of}
use Rattle.oc_verify.proofs.Cells.{level_below, level_out, level_up}

abbrev Slots : Type 0
Slots = List (Option Kind)

numbers : ℕ → Slots
numbers n = replicate n (Some Number)

filled : (n : ℕ) → length (replicate n (Some Number)) ≡ n
filled zero = refl
filled (suc n) = ap suc (filled n)

all_numbers : (n s : ℕ) → s < n → level (replicate n (Some Number)) s ≡ Some (Some Number)
all_numbers zero s h = absurd (omega (arith, h))
all_numbers (suc n) s h = ⊎_elim
    (λ q. let e : s ≡ length (replicate n (Some Number)) = q.1 in grind (arith, q.0))
    (λ q. let d : s ≢ n = (λ e. q.1 (e ∙ sym (filled n))) in (let f : (s == length (replicate n (Some Number))) ≡ false = q.0 in
    ap (λ b. if b then Some (Some Number) else level (replicate n (Some Number)) s) f ∙ all_numbers n s (lt_of_le-ne (omega (arith, h)) d)))
    (eqb_tells s (length (replicate n (Some Number))))

-- a function's slots, from the bottom: its parameters, two links, then numbers

seen_of : (ks : List Kind) → length (map Some ks) ≡ length ks
seen_of [] = refl
seen_of (k ∷ ks) = ap suc (seen_of ks)

param_level : (ks : List Kind) (s : ℕ) → s < length ks → level (map Some ks) s ≡ Some (Some (get_or ks (length ks - 1 - s) Number))
param_level [] s h = absurd (omega (arith, h))
param_level (k ∷ ks) s h = ⊎_elim
    (λ q. let e : s ≡ length ks = q.1 ∙ seen_of ks in let n : suc (length ks) - 1 - s ≡ 0 = omega (arith, e) in
    ap (λ b. if b then Some (Some k) else level (map Some ks) s) q.0 ∙ ap (λ m. Some (Some (get_or (k ∷ ks) m Number))) (sym n))
    (λ q. let d : s ≢ length ks = (λ e. q.1 (e ∙ sym (seen_of ks))) in
    let l : s < length ks = lt_of_le-ne (omega (arith, h)) d in
    let n : suc (length ks) - 1 - s ≡ suc (length ks - 1 - s) = omega (arith, l) in
    ap (λ b. if b then Some (Some k) else level (map Some ks) s) q.0 ∙ param_level ks s l ∙ ap (λ m. Some (Some (get_or (k ∷ ks) m Number))) (sym n))
    (eqb_tells s (length (map Some ks)))

-- ---- how many numbers follow

-- the runs that were found, with those of the parameters that are left, are all
pub run_found : (codes : List ℕ) (i n : ℕ) (xs all : List ℕ) → i < length codes → xs ++ runs_of n (map kind_of (drop i codes)) ≡ all
    → (xs ++ more (Some (kind_of (get_or codes i 0))) n ∷ []) ++ runs_of (more (Some (kind_of (get_or codes i 0))) n) (map kind_of (drop (i + 1) codes)) ≡ all
run_found codes i n xs all low h =
    let m : ℕ = more (Some (kind_of (get_or codes i 0))) n in
    append_assoc xs (m ∷ []) (runs_of m (map kind_of (drop (i + 1) codes))) ∙ sym (ap (λ l. xs ++ runs_of n (map kind_of l)) (drop_more codes i 0 low)) ∙ h

pub runs_found : (codes : List ℕ) (i n : ℕ) (xs all : List ℕ) → length codes ≤ i → xs ++ runs_of n (map kind_of (drop i codes)) ≡ all → xs ≡ all
runs_found codes i n xs all past h = sym (append-nil xs) ∙ sym (ap (λ l. xs ++ runs_of n (map kind_of l)) (drop_all i codes past)) ∙ h

run_past : (ss : Slots) (s n : ℕ) → length ss ≤ s → run ss s n ≡ n
run_past [] s n h = refl
run_past (k ∷ ss) s n h = let t : nat_lt (length ss) s ≡ true = grind (arith, h) in ap (λ b. if b then n else run ss s (more k n)) t

run_step : (k : Option Kind) (ss : Slots) (s n : ℕ) → s ≤ length ss → run (k ∷ ss) s n ≡ run ss s (more k n)
run_step k ss s n h = let t : nat_lt (length ss) s ≡ false = grind (arith, h) in ap (λ b. if b then n else run ss s (more k n)) t

run_params : (ks : List Kind) (s n : ℕ) → s < length ks → run (map Some ks) s n ≡ get_or (runs_of n ks) (length ks - 1 - s) 0
run_params [] s n h = absurd (omega (arith, h))
run_params (k ∷ ks) s n h = ⊎_elim
    (λ q. let e : s ≡ length ks = q.1 in
    let z : suc (length ks) - 1 - s ≡ 0 = omega (arith, e) in
    let l : length (map Some ks) ≤ s = (let m = seen_of ks in omega (arith, m, e)) in
    run_step (Some k) (map Some ks) s n (let m = seen_of ks in omega (arith, m, e)) ∙ run_past (map Some ks) s (more (Some k) n) l ∙ ap (λ m. get_or (runs_of n (k ∷ ks)) m 0) (sym z))
    (λ q. let l : s < length ks = lt_of_le-ne (omega (arith, h)) q.1 in
    let z : suc (length ks) - 1 - s ≡ suc (length ks - 1 - s) = omega (arith, l) in
    run_step (Some k) (map Some ks) s n (let m = seen_of ks in omega (arith, m, l)) ∙ run_params ks s (more (Some k) n) l ∙ ap (λ m. get_or (runs_of n (k ∷ ks)) m 0) (sym z))
    (eqb_tells s (length ks))

run_numbers_on : (c : ℕ) (ss : Slots) (s n : ℕ) → length ss ≤ s → s ≤ length ss + c → run (replicate c (Some Number) ++ ss) s n ≡ (length ss + c - s) + n
run_numbers_on zero ss s n l h = run_past ss s n l ∙ omega (arith, l, h)
run_numbers_on (suc c) ss s n l h = by (nat_lt (length (replicate c (Some Number) ++ ss)) s) refl (λ k. run_numbers_on c ss s (suc n) l k)
  where
    long : length (replicate c (Some Number) ++ ss) ≡ c + length ss
    long = length-append (replicate c (Some Number)) ss ∙ ap (λ m. m + length ss) (filled c)

    by : (b : Bool) → nat_lt (length (replicate c (Some Number) ++ ss)) s ≡ b → (s ≤ length ss + c → run (replicate c (Some Number) ++ ss) s (suc n) ≡ (length ss + c - s) + suc n)
        → (if b then n else run (replicate c (Some Number) ++ ss) s (suc n)) ≡ (length ss + suc c - s) + n
    by true e ih = let u : length (replicate c (Some Number) ++ ss) < s = grind (arith, e) in let m = long in omega (arith, u, m, h)
    by false e ih = let u : s ≤ length (replicate c (Some Number) ++ ss) = grind (arith, e) in let m = long in ih (omega (arith, u, m)) ∙ omega (arith, u, m)

-- numbers above don't matter where a link stands below them
run_over : (c : ℕ) (ss : Slots) (s n : ℕ) → s ≤ length ss → run (replicate c (Some Number) ++ None ∷ ss) s n ≡ run ss s 0
run_over zero ss s n h = run_step None ss s n h
run_over (suc c) ss s n h =
    let long : length (replicate c (Some Number) ++ None ∷ ss) ≡ c + suc (length ss) = length-append (replicate c (Some Number)) (None ∷ ss) ∙ ap (λ m. m + suc (length ss)) (filled c) in
    run_step (Some Number) (replicate c (Some Number) ++ None ∷ ss) s n (omega (arith, long, h)) ∙ run_over c ss s (suc n) h

-- The slots of a function that isn't `main`
module _ (g : ImageFunction) (ks : List Kind) (z : length ks ≡ g.params) where
  abbrev above : ℕ
  above = g.frame - (g.params + 2)

  abbrev linked_params : Slots
  linked_params = None ∷ (None ∷ map Some ks)

  links_long : length linked_params ≡ g.params + 2
  links_long = let m = seen_of ks in omega (arith, m, z)

  pub slot_of_param : (s : ℕ) → s < g.params → level (slots_by false g ks) s ≡ Some (Some (get_or ks (length ks - 1 - s) Number))
  slot_of_param s h =
      let m = seen_of ks in
      level_below (replicate above (Some Number)) linked_params s (let l = links_long in omega (arith, l, h))
      ∙ level_below (None ∷ (None ∷ [])) (map Some ks) s (omega (arith, m, z, h)) ∙ param_level ks s (omega (arith, z, h))

  pub slot_of_link : (s : ℕ) → g.params ≤ s → s < g.params + 2 → slot_kind (level (slots_by false g ks) s) ≡ None
  slot_of_link s l h =
      let m = seen_of ks in
      ap slot_kind (level_below (replicate above (Some Number)) linked_params s (let n = links_long in omega (arith, n, h)))
      ∙ ⊎_elim
      (λ q. ap (λ b. slot_kind (if b then Some None else level (None ∷ map Some ks) s)) q.0)
      (λ q. ap (λ b. slot_kind (if b then Some None else level (None ∷ map Some ks) s)) q.0
      ∙ (let e : s ≡ length (map Some ks) = (let d = q.1 in last s g.params l h (λ e. d (e ∙ (omega (arith, m, z)))) ∙ (omega (arith, m, z))) in
      let t : (s == length (map Some ks)) ≡ true = grind (arith, e) in ap (λ b. slot_kind (if b then Some None else level (map Some ks) s)) t))
      (eqb_tells s (suc (length (map Some ks))))
    where
      last : (s p : ℕ) → p ≤ s → s < p + 2 → s ≢ suc p → s ≡ p
      last s zero l h d = one s h d
        where
          one : (s : ℕ) → s < 0 + 2 → s ≢ 1 → s ≡ 0
          one zero h d = refl
          one (suc zero) h d = absurd (d refl)
          one (suc (suc s)) h d = absurd (omega (arith, h))
      last zero (suc p) l h d = absurd (omega (arith, l))
      last (suc s) (suc p) l h d = ap suc (last s p (omega (arith, l)) (omega (arith, h)) (λ e. d (ap suc e)))

  pub slot_above : (s : ℕ) → g.params + 2 ≤ s → s < g.frame → level (slots_by false g ks) s ≡ Some (Some Number)
  slot_above s l h =
      let m = links_long in
      let e : s ≡ length linked_params + (s - (g.params + 2)) = omega (arith, m, l) in
      ap (level (slots_by false g ks)) e ∙ level_up (replicate above (Some Number)) linked_params (s - (g.params + 2)) ∙ all_numbers above (s - (g.params + 2)) (omega (arith, l, h))

  pub slot_past : (s : ℕ) → g.params + 2 ≤ s → g.frame ≤ s → level (slots_by false g ks) s ≡ None
  slot_past s l h =
      let m = links_long in
      let n : length (slots_by false g ks) ≡ above + length linked_params = length-append (replicate above (Some Number)) linked_params ∙ ap (λ k. k + length linked_params) (filled above) in
      level_out (slots_by false g ks) s (omega (arith, m, n, l, h))

  pub run_of_param : (s : ℕ) → s < g.params → run (slots_by false g ks) s 0 ≡ get_or (runs_of 0 ks) (length ks - 1 - s) 0
  run_of_param s h =
      let m = seen_of ks in
      run_over above (None ∷ map Some ks) s 0 (omega (arith, m, z, h)) ∙ run_step None (map Some ks) s 0 (omega (arith, m, z, h)) ∙ run_params ks s 0 (omega (arith, z, h))

  pub run_above : (s : ℕ) → g.params + 2 ≤ s → s < g.frame → run (slots_by false g ks) s 0 ≡ g.frame - s
  run_above s l h = let m = links_long in run_numbers_on above linked_params s 0 (omega (arith, m, l)) (omega (arith, m, l, h)) ∙ omega (arith, m, l, h)

-- The slots of `main`

append_none : {A : Type 0} (xs : List A) → xs ++ [] ≡ xs
append_none [] = refl
append_none (x ∷ xs) = ap (λ l. x ∷ l) (append_none xs)

pub main_slot : (g : ImageFunction) (ks : List Kind) (s : ℕ) → s < g.frame → level (slots_by true g ks) s ≡ Some (Some Number)
main_slot g ks s h = all_numbers g.frame s h

pub main_past : (g : ImageFunction) (ks : List Kind) (s : ℕ) → g.frame ≤ s → level (slots_by true g ks) s ≡ None
main_past g ks s h = level_out (replicate g.frame (Some Number)) s (let n = filled g.frame in omega (arith, n, h))

pub main_run : (g : ImageFunction) (ks : List Kind) (s : ℕ) → s < g.frame → run (slots_by true g ks) s 0 ≡ g.frame - s
main_run g ks s h = ap (λ l. run l s 0) (sym (append_none (replicate g.frame (Some Number)))) ∙ run_numbers_on g.frame [] s 0 (omega arith) (omega (arith, h)) ∙ omega arith

-- Both, over what is kept

kinds_long : (cs : List ℕ) → length (map kind_of cs) ≡ length cs
kinds_long [] = refl
kinds_long (c ∷ cs) = ap suc (kinds_long cs)

kind_in : (cs : List ℕ) (j : ℕ) → get_or (map kind_of cs) j Number ≡ kind_of (get_or cs j 0)
kind_in [] j = refl
kind_in (c ∷ cs) zero = refl
kind_in (c ∷ cs) (suc j) = kind_in cs j

pub runs_long : (n : ℕ) (cs : List ℕ) → length (runs_of n (map kind_of cs)) ≡ length cs
runs_long n [] = refl
runs_long n (c ∷ cs) = ap suc (runs_long (more (Some (kind_of c)) n) cs)

module _ (o : Own) (s : ℕ) where
  frame_kind : (b : Bool) → nat_lt s o.function.frame ≡ b → (s < o.function.frame → level (own_list o) s ≡ Some (Some Number)) → (o.function.frame ≤ s → level (own_list o) s ≡ None)
      → option_map kind_of (if b then Some 0 else None) ≡ slot_kind (level (own_list o) s)
  frame_kind true e h k = sym (ap slot_kind (h (grind (arith, e))))
  frame_kind false e h k = sym (ap slot_kind (k (grind (arith, e))))

  pub own_main : o.main ≡ true → option_map kind_of (in_frame o s) ≡ slot_kind (level (own_list o) s)
  own_main m = frame_kind (nat_lt s o.function.frame) refl
      (λ l. ap (λ b. level (slots_by b o.function (map kind_of o.codes)) s) m ∙ main_slot o.function (map kind_of o.codes) s l)
      (λ l. ap (λ b. level (slots_by b o.function (map kind_of o.codes)) s) m ∙ main_past o.function (map kind_of o.codes) s l)

  pub main_low : o.main ≡ true → level (own_list o) s ≡ Some (Some Number) → s < o.function.frame
  main_low m e = by (nat_lt s o.function.frame) refl
    where
      by : (b : Bool) → nat_lt s o.function.frame ≡ b → s < o.function.frame
      by true t = grind (arith, t)
      by false t = (let l : o.function.frame ≤ s = grind (arith, t) in let z : Some (Some Number) ≡ None = sym e ∙ ap (λ b. level (slots_by b o.function (map kind_of o.codes)) s) m
          ∙ main_past o.function (map kind_of o.codes) s l in absurd (cc))

  pub own_run_main : o.main ≡ true → level (own_list o) s ≡ Some (Some Number) → o.function.frame - s ≡ run (own_list o) s 0
  own_run_main m e = sym (ap (λ b. run (slots_by b o.function (map kind_of o.codes)) s 0) m ∙ main_run o.function (map kind_of o.codes) s (main_low m e))

  module _ (m : o.main ≡ false) (z : length o.codes ≡ o.function.params) where
    abbrev g : ImageFunction
    g = o.function

    abbrev ks : List Kind
    ks = map kind_of o.codes

    long : length ks ≡ g.params
    long = kinds_long o.codes ∙ z

    as_other : own_list o ≡ slots_by false g ks
    as_other = ap (λ b. slots_by b g ks) m

    pub own_param : s < length o.codes → Some (kind_of (get_or o.codes (length o.codes - 1 - s) 0)) ≡ slot_kind (level (own_list o) s)
    own_param l = sym (ap (λ ss. slot_kind (level ss s)) as_other ∙ ap slot_kind (slot_of_param g ks long s (omega (arith, l, z)))
        ∙ ap (λ n. Some (get_or ks (n - 1 - s) Number)) (kinds_long o.codes) ∙ ap Some (kind_in o.codes (length o.codes - 1 - s)))

    pub own_link : length o.codes ≤ s → s < length o.codes + 2 → None ≡ slot_kind (level (own_list o) s)
    own_link l u = sym (ap (λ ss. slot_kind (level ss s)) as_other ∙ slot_of_link g ks long s (omega (arith, l, z)) (omega (arith, u, z)))

    pub own_above : length o.codes + 2 ≤ s → option_map kind_of (in_frame o s) ≡ slot_kind (level (own_list o) s)
    own_above l = frame_kind (nat_lt s g.frame) refl
        (λ u. ap (λ ss. level ss s) as_other ∙ slot_above g ks long s (omega (arith, l, z)) u)
        (λ u. ap (λ ss. level ss s) as_other ∙ slot_past g ks long s (omega (arith, l, z)) u)

    pub own_run_param : s < length o.codes → get_or (runs_of 0 ks) (length o.codes - 1 - s) 0 ≡ run (own_list o) s 0
    own_run_param l = sym (ap (λ ss. run ss s 0) as_other ∙ run_of_param g ks long s (omega (arith, l, z)) ∙ ap (λ n. get_or (runs_of 0 ks) (n - 1 - s) 0) (kinds_long o.codes))

    -- a number that is no parameter lies in the frame, above the links
    pub above_low : length o.codes ≤ s → level (own_list o) s ≡ Some (Some Number) → (g.params + 2 ≤ s) × (s < g.frame)
    above_low l e = by (nat_lt s (length o.codes + 2)) refl
      where
        by : (b : Bool) → nat_lt s (length o.codes + 2) ≡ b → (g.params + 2 ≤ s) × (s < g.frame)
        by true t = (let u : s < length o.codes + 2 = grind (arith, t) in let q : None ≡ Some Number = own_link l u ∙ ap slot_kind e in absurd (cc))
        by false t = (let u : length o.codes + 2 ≤ s = grind (arith, t) in (omega (arith, u, z), in_it (nat_lt s g.frame) refl u))
          where
            in_it : (b : Bool) → nat_lt s g.frame ≡ b → length o.codes + 2 ≤ s → s < g.frame
            in_it true t u = grind (arith, t)
            in_it false t u = (let v : g.frame ≤ s = grind (arith, t) in
                let q : Some (Some Number) ≡ None = sym e ∙ ap (λ ss. level ss s) as_other ∙ slot_past g ks long s (omega (arith, u, z)) v in absurd (cc))

    pub own_run_above : length o.codes ≤ s → level (own_list o) s ≡ Some (Some Number) → g.frame - s ≡ run (own_list o) s 0
    own_run_above l e = let r = above_low l e in sym (ap (λ ss. run ss s 0) as_other ∙ run_above g ks long s r.0 r.1)
