-- The renaming of one call: its own variables stand for what was passed.
use Rattle.std.proofs.Common.{◌≡◌, ◌⊎◌, inl, inr, ℕ, zero, suc, ◌+◌, ◌-◌, ◌<◌, ◌≤◌, Bool, true, false, true≢false, not, List, [], ◌∷◌, length, refl, sym, ap, ◌∙◌, subst, arith}
use Rattle.std.specs.Prelude.{if◌then◌else◌, nat_lt, nat_eq, ◌||◌}
use Rattle.oc_tree.specs.declared.tree.Param.{Param}
use Rattle.oc_tree.specs.Assigned.{is_mutable}
use Rattle.oc_meaning.specs.Store.{Place, Local, Global, Turn, Nowhere}
use Rattle.oc_meaning.specs.Exec.{Passed, Copied, Lent}
use Rattle.oc_copies.proofs.Cells.{IsCell, has_place}
use Rattle.oc_copies.proofs.Matching.{Renaming, IsRenaming}

abbrev pub Entry : Type 0
Entry = Place × Bool

-- what each own variable stands for, and whether it can only be read; the first value stands at `n`
abbrev pub entries : List Param → List Passed → (n : ℕ) → List Entry
entries [] ps n = []
entries (q ∷ qs) [] n = []
entries (q ∷ qs) (Copied v ∷ ps) n = (Local n, false) ∷ entries qs ps (suc n)
entries (q ∷ qs) (Lent a ∷ ps) n = (a, not (is_mutable q.passing)) ∷ entries qs ps n

-- where the variables behind the values begin
abbrev pub after_values : List Param → List Passed → (n : ℕ) → ℕ
after_values [] ps n = n
after_values (q ∷ qs) [] n = n
after_values (q ∷ qs) (Copied v ∷ ps) n = after_values qs ps (suc n)
after_values (q ∷ qs) (Lent a ∷ ps) n = after_values qs ps n

abbrev pub to_own : List Entry → (n : ℕ) → ℕ → Place
to_own [] n i = Local (n + i)
to_own (e ∷ es) n zero = e.0
to_own (e ∷ es) n (suc i) = to_own es n i

abbrev pub fixed_own : List Entry → ℕ → Bool
fixed_own [] i = false
fixed_own (e ∷ es) zero = e.1
fixed_own (e ∷ es) (suc i) = fixed_own es i

abbrev pub is_global : ℕ → Place → Bool
is_global g (Global k) = nat_eq g k
is_global g p = false

abbrev pub has_global : ℕ → List Entry → Bool
has_global g [] = false
has_global g (e ∷ es) = is_global g e.0 || has_global g es

-- ---- what is asked of entries

-- a place of the caller's, or of a value
abbrev pub IsLow : (n nvs : ℕ) → Place → Type 0
IsLow n nvs (Local l) = l < n
IsLow n nvs (Global g) = g < nvs
IsLow n nvs (Turn z) = Unit {0}
IsLow n nvs Nowhere = ⊥

-- where one of two can be written, they are two places
abbrev pub AreApart : Entry → Entry → Type 0
AreApart a b = (a.1 ≡ false) ⊎ (b.1 ≡ false) → a.0 ≡ b.0 → ⊥

abbrev pub ApartAll : Entry → List Entry → Type 0
ApartAll a [] = Unit {0}
ApartAll a (b ∷ es) = AreApart a b × ApartAll a es

abbrev pub Fine : (n nvs : ℕ) → List Entry → Type 0
Fine n nvs [] = Unit {0}
Fine n nvs (e ∷ es) = IsLow n nvs e.0 × (e.1 ≡ false → IsCell e.0) × ApartAll e es × Fine n nvs es

pub low_not_later : (n nvs i : ℕ) (q : Place) → IsLow n nvs q → q ≡ Local (n + i) → ⊥
low_not_later n nvs i (Local l) h e = let s : l ≡ n + i = cc in omega (arith, h, s)
low_not_later n nvs i (Global g) h e = absurd (cc)
low_not_later n nvs i (Turn z) h e = absurd (cc)
low_not_later n nvs i Nowhere h e = absurd h

-- one entry against the others
first_apart : (n nvs : ℕ) (e : Entry) (es : List Entry) (i : ℕ) → IsLow n nvs e.0 → ApartAll e es → Fine n nvs es → (e.1 ≡ false) ⊎ (fixed_own es i ≡ false) → e.0 ≡ to_own es n i → ⊥
first_apart n nvs e [] i low apart fine f s = low_not_later n nvs i e.0 low s
first_apart n nvs e (b ∷ es) zero low apart fine f s = apart.0 f s
first_apart n nvs e (b ∷ es) (suc i) low apart fine f s = first_apart n nvs e es i low apart.1 fine.3 f s

-- what can be written is one variable's
own_apart : (n nvs : ℕ) (es : List Entry) (i j : ℕ) → Fine n nvs es → fixed_own es i ≡ false → to_own es n i ≡ to_own es n j → i ≡ j
own_apart n nvs [] i j fine f s = let t : n + i ≡ n + j = cc in omega (arith, t)
own_apart n nvs (e ∷ es) zero zero fine f s = refl
own_apart n nvs (e ∷ es) zero (suc j) fine f s = absurd (first_apart n nvs e es j fine.0 fine.2 fine.3 (inl f) s)
own_apart n nvs (e ∷ es) (suc i) zero fine f s = absurd (first_apart n nvs e es i fine.0 fine.2 fine.3 (inr f) (sym s))
own_apart n nvs (e ∷ es) (suc i) (suc j) fine f s = ap suc (own_apart n nvs es i j fine.3 f s)

pub own_later : (n : ℕ) (es : List Entry) (i : ℕ) → (to_own es n (length es + i) ≡ Local (n + i)) × (fixed_own es (length es + i) ≡ false)
own_later n [] i = let s : 0 + i ≡ i = omega arith in (ap (λ k. Local (n + k)) s, refl)
own_later n (e ∷ es) i =
    let s : suc (length es) + i ≡ suc (length es + i) = omega arith in
    let r = own_later n es i in
    (ap (to_own (e ∷ es) n) s ∙ r.0, ap (fixed_own (e ∷ es)) s ∙ r.1)

own_low : (n nvs : ℕ) (es : List Entry) (i m : ℕ) → Fine n nvs es → i < length es → to_own es n i ≡ Local m → m < n
own_low n nvs [] i m fine h e = absurd (omega (arith, h))
own_low n nvs (x ∷ es) zero m fine h e = subst (IsLow n nvs) e fine.0
own_low n nvs (x ∷ es) (suc i) m fine h e = own_low n nvs es i m fine.3 (omega (arith, h)) e

-- no own variable that can be written stands for a turn, and none for nowhere
own_cell : (n nvs : ℕ) (es : List Entry) (i : ℕ) → Fine n nvs es → fixed_own es i ≡ false → IsCell (to_own es n i)
own_cell n nvs [] i fine f = tt
own_cell n nvs (e ∷ es) zero fine f = fine.1 f
own_cell n nvs (e ∷ es) (suc i) fine f = own_cell n nvs es i fine.3 f

pub own_global : (n nvs : ℕ) (es : List Entry) (i g : ℕ) → to_own es n i ≡ Global g → has_global g es ≡ true
own_global n nvs [] i g e = absurd (cc)
own_global n nvs (x ∷ es) zero g e = subst (λ q. is_global g q || has_global g es ≡ true) (sym e) (by (nat_eq g g) (grind arith))
  where
    by : (b : Bool) → b ≡ true → b || has_global g es ≡ true
    by true h = refl
    by false h = absurd (true≢false (sym h))
own_global n nvs (x ∷ es) (suc i) g e = by (is_global g x.0) (own_global n nvs es i g e)
  where
    by : (b : Bool) → has_global g es ≡ true → b || has_global g es ≡ true
    by true h = refl
    by false h = h

own_there : (n nvs : ℕ) (es : List Entry) (i more : ℕ) → Fine n nvs es → fixed_own es i ≡ false → has_place (n + more) nvs (to_own es n i) ≡ nat_lt i (length es + more)
own_there n nvs [] i more fine f = by (nat_lt i (0 + more)) refl
  where
    by : (b : Bool) → nat_lt i (0 + more) ≡ b → nat_lt (n + i) (n + more) ≡ b
    by true e = grind (arith, e)
    by false e = grind (arith, e)
own_there n nvs (x ∷ es) zero more fine f = low_there x.0 fine.0 (fine.1 f) ∙ yes_there
  where
    low_there : (q : Place) → IsLow n nvs q → IsCell q → has_place (n + more) nvs q ≡ true
    low_there (Local l) h c = grind (arith, h)
    low_there (Global g) h c = grind (arith, h)
    low_there (Turn z) h c = absurd c
    low_there Nowhere h c = absurd c

    yes_there : true ≡ nat_lt 0 (suc (length es) + more)
    yes_there = grind arith
own_there n nvs (x ∷ es) (suc i) more fine f = own_there n nvs es i more fine.3 f ∙ step (nat_lt i (length es + more)) refl
  where
    step : (b : Bool) → nat_lt i (length es + more) ≡ b → b ≡ nat_lt (suc i) (suc (length es) + more)
    step true e = grind (arith, e)
    step false e = grind (arith, e)

-- ---- the renaming

module _ (base nvs n : ℕ) (es : List Entry) (fine : Fine n nvs es) where
  abbrev pub to_place : Place → Place
  to_place (Local l) = if nat_lt l base then Local l else to_own es n (l - base)
  to_place q = q

  abbrev pub is_live : Place → Bool
  is_live (Local l) = not (nat_lt l base)
  is_live (Global g) = not (has_global g es)
  is_live q = true

  abbrev pub is_fixed : Place → Bool
  is_fixed (Local l) = if nat_lt l base then false else fixed_own es (l - base)
  is_fixed q = false

  abbrev pub renaming : Renaming
  renaming = record { low = base + length es; other_low = n; nvs = nvs; to = to_place; live = is_live; fixed = is_fixed }

  past : (i : ℕ) → nat_lt (base + i) base ≡ false
  past i = grind arith

  gone : (i : ℕ) → base + i - base ≡ i
  gone i = omega arith

  pub to_at : (i : ℕ) → to_place (Local (base + i)) ≡ to_own es n i
  to_at i = ap (λ b. if b then Local (base + i) else to_own es n (base + i - base)) (past i) ∙ ap (to_own es n) (gone i)

  pub live_at : (i : ℕ) → is_live (Local (base + i)) ≡ true
  live_at i = ap not (past i)

  pub fixed_at : (i : ℕ) → is_fixed (Local (base + i)) ≡ fixed_own es i
  fixed_at i = ap (λ b. if b then false else fixed_own es (base + i - base)) (past i) ∙ ap (fixed_own es) (gone i)

  -- what is live is an own variable, or one of the others
  pub own_index : (l : ℕ) → is_live (Local l) ≡ true → (i : ℕ) × (l ≡ base + i)
  own_index l h = by (nat_lt l base) refl h
    where
      by : (b : Bool) → nat_lt l base ≡ b → not b ≡ true → (i : ℕ) × (l ≡ base + i)
      by true e k = absurd (true≢false (sym k))
      by false e k = let g : base ≤ l = grind (arith, e) in (l - base, omega (arith, g))

  unmet : (g : ℕ) → not (has_global g es) ≡ true → has_global g es ≡ true → ⊥
  unmet g k e = true≢false (sym k ∙ ap not e)

  apart_on : (i : ℕ) (b : Place) → is_live b ≡ true → fixed_own es i ≡ false → to_own es n i ≡ to_place b → Local (base + i) ≡ b
  apart_on i (Local m) lb f e =
      let k = own_index m lb in
      let same : to_own es n i ≡ to_own es n k.0 = e ∙ ap (λ l. to_place (Local l)) k.1 ∙ to_at k.0 in
      let index : i ≡ k.0 = own_apart n nvs es i k.0 fine f same in
      ap Local (ap (λ x. base + x) index ∙ sym k.1)
  apart_on i (Global g) lb f e = absurd (unmet g lb (own_global n nvs es i g e))
  apart_on i (Turn z) lb f e = absurd (subst IsCell e (own_cell n nvs es i fine f))
  apart_on i Nowhere lb f e = absurd (subst IsCell e (own_cell n nvs es i fine f))

  apart_place : (a b : Place) → is_live a ≡ true → is_live b ≡ true → is_fixed a ≡ false → IsCell a → to_place a ≡ to_place b → a ≡ b
  apart_place (Local l) b la lb f c e =
      let k = own_index l la in
      ap Local k.1 ∙ apart_on k.0 b lb (sym (fixed_at k.0) ∙ ap (λ x. is_fixed (Local x)) (sym k.1) ∙ f) (sym (to_at k.0) ∙ ap (λ x. to_place (Local x)) (sym k.1) ∙ e)
  apart_place (Global g) (Local m) la lb f c e =
      let k = own_index m lb in
      absurd (unmet g la (own_global n nvs es k.0 g (sym (to_at k.0) ∙ ap (λ x. to_place (Local x)) (sym k.1) ∙ sym e)))
  apart_place (Global g) (Global h) la lb f c e = e
  apart_place (Global g) (Turn z) la lb f c e = absurd (cc)
  apart_place (Global g) Nowhere la lb f c e = absurd (cc)
  apart_place (Turn z) b la lb f c e = absurd c
  apart_place Nowhere b la lb f c e = absurd c

  there_same : (a : Place) → is_live a ≡ true → is_fixed a ≡ false → (more : ℕ) → has_place (n + more) nvs (to_place a) ≡ has_place (base + length es + more) nvs a
  there_same (Local l) la f more =
      let k = own_index l la in
      let free : fixed_own es k.0 ≡ false = sym (fixed_at k.0) ∙ ap (λ x. is_fixed (Local x)) (sym k.1) ∙ f in
      ap (has_place (n + more) nvs) (ap (λ x. to_place (Local x)) k.1 ∙ to_at k.0) ∙ own_there n nvs es k.0 more fine free ∙ step k.0 (nat_lt k.0 (length es + more)) refl
      ∙ ap (λ x. nat_lt x (base + length es + more)) (sym k.1)
    where
      step : (i : ℕ) (b : Bool) → nat_lt i (length es + more) ≡ b → b ≡ nat_lt (base + i) (base + length es + more)
      step i true e = grind (arith, e)
      step i false e = grind (arith, e)
  there_same (Global g) la f more = refl
  there_same (Turn z) la f more = refl
  there_same Nowhere la f more = refl

  low_of : (l m : ℕ) → l < base + length es → is_live (Local l) ≡ true → to_place (Local l) ≡ Local m → m < n
  low_of l m h la e =
      let k = own_index l la in
      let few : k.0 < length es = omega (arith, h, k.1) in
      own_low n nvs es k.0 m fine few (sym (to_at k.0) ∙ ap (λ x. to_place (Local x)) (sym k.1) ∙ e)

  pub is_renaming : IsRenaming renaming
  is_renaming = record {
    later = λ i. let s : base + length es + i ≡ base + (length es + i) = omega arith in ap (λ x. to_place (Local x)) s ∙ to_at (length es + i) ∙ (own_later n es i).0;
    later_live = λ i. let s : base + length es + i ≡ base + (length es + i) = omega arith in ap (λ x. is_live (Local x)) s ∙ live_at (length es + i);
    later_free = λ i. let s : base + length es + i ≡ base + (length es + i) = omega arith in ap (λ x. is_fixed (Local x)) s ∙ fixed_at (length es + i) ∙ (own_later n es i).1;
    low_other = low_of;
    turns = λ z. (refl, refl, refl);
    nowhere = (refl, refl, refl);
    stored = λ g h. refl;
    apart = apart_place;
    same_there = there_same;
  }
