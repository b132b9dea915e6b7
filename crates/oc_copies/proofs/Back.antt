-- Behind a call the run as it is has left what the run over own variables has left, copied back.
use Rattle.std.proofs.Common.{◌≡◌, ◌⊎◌, inl, inr, ℕ, zero, suc, ◌+◌, ◌<◌, ◌≤◌, Bool, true, false, true≢false, not, List, [], ◌∷◌, length, Option, Some, None, refl, sym, ap, ◌∙◌, subst, arith}
use Rattle.std.proofs.lemmas.Option.{none-some, same_Some}
use Rattle.std.specs.Prelude.{if◌then◌else◌, nat_lt, ◌||◌}
use Rattle.std.specs.Str.{bytes_eq}
use Rattle.oc_tree.specs.Names.{Text}
use Rattle.oc_tree.specs.Tree.{TFunction, TProgram}
use Rattle.oc_tree.specs.declared.tree.Param.{Param}
use Rattle.oc_tree.specs.declared.tree.Passing.{Passing}
use Rattle.oc_tree.specs.declared.tree.Passing.TheVariants as passings
use Rattle.oc_tree.specs.Marked.{TRegion}
use Rattle.oc_meaning.specs.Store.{Place, Local, Global, Turn, Nowhere, Store, held_at, left_at, binding_of, place_of}
use Rattle.oc_meaning.specs.Exec.{Outcome, Went, Returned, Stopped, Passed, Copied, Lent, leave, block_run}
use Rattle.oc_meaning.specs.Run.{Frame, nv_env, with_params, function_named, call_to}
use Rattle.oc_meaning.specs.Blocks.{set_home}
use Rattle.oc_copies.specs.Copies.{own_frame, own_run, lent_run, behind_call, AreCopies, IsCopiedBack, AreCopiedBack, lent_place, passing_at, IsThere, MayPass, HasStored}
use Rattle.oc_copies.proofs.Cells.{IsCell, there, has_place}
use Rattle.oc_copies.proofs.Matching.{Renaming, IsRenaming, Match}
use Rattle.oc_copies.proofs.Twins.{IsLawfulBlock, AreTwins, Alike}
use Rattle.oc_copies.proofs.TwinCalls.{start_flags, framed_alike, calls_alike}
use Rattle.oc_tree.specs.Assigned.{is_mutable}
use Rattle.oc_copies.proofs.Root.{Entry, entries, after_values, to_own, fixed_own, is_global, has_global, IsLow, Fine, own_global, renaming, is_renaming, to_place}
use Rattle.oc_copies.proofs.Root.{is_live, to_at, live_at, fixed_at, own_index}
use Rattle.oc_copies.proofs.Passing.{Lows, more_values, not_value, fine_entries, mutable_is}
use Rattle.oc_copies.proofs.Start.{held_in, IsMade, AreLeft, low_held, all_made}
use Rattle.oc_copies.proofs.StartMatch.{start_match, all_seen}
use Rattle.oc_copies.proofs.Behind.{same_store, left_held, left_length, copied_locals, copied_nv, copied_beside, copied_other, copied_here, lent_or_not}

-- ---- entries by their numbers

later_lent : (s : Passed) (ps : List Passed) (i : ℕ) → lent_place (s ∷ ps) (suc i) ≡ lent_place ps i
later_lent (Copied v) ps i = refl
later_lent (Lent b) ps i = refl

-- a lent place is what its own variable stands for
entry_place : (qs : List Param) (ps : List Passed) (m n i : ℕ) (a : Place) → length ps ≡ length qs → lent_place ps i ≡ Some a → to_own (entries qs ps m) n i ≡ a
entry_place [] [] m n i a l e = absurd (none-some _ e)
entry_place (q ∷ qs) [] m n i a l e = absurd (none-some _ e)
entry_place [] (s ∷ ps) m n i a l e = absurd (omega (arith, l))
entry_place (q ∷ qs) (Copied v ∷ ps) m n zero a l e = absurd (none-some _ e)
entry_place (q ∷ qs) (Copied v ∷ ps) m n (suc i) a l e = entry_place qs ps (suc m) n i a (omega (arith, l)) e
entry_place (q ∷ qs) (Lent b ∷ ps) m n zero a l e = same_Some b a e
entry_place (q ∷ qs) (Lent b ∷ ps) m n (suc i) a l e = entry_place qs ps m n i a (omega (arith, l)) e

-- one that isn't lent by `&mut` is fixed
entry_fixed : (qs : List Param) (ps : List Passed) (m i : ℕ) (a : Place) → length ps ≡ length qs → lent_place ps i ≡ Some a → (passing_at qs i ≡ Some passings.Mutable → ⊥) →
    fixed_own (entries qs ps m) i ≡ true
entry_fixed [] [] m i a l e n = absurd (none-some _ e)
entry_fixed (q ∷ qs) [] m i a l e n = absurd (none-some _ e)
entry_fixed [] (s ∷ ps) m i a l e n = absurd (omega (arith, l))
entry_fixed (q ∷ qs) (Copied v ∷ ps) m zero a l e n = absurd (none-some _ e)
entry_fixed (q ∷ qs) (Copied v ∷ ps) m (suc i) a l e n = entry_fixed qs ps (suc m) i a (omega (arith, l)) e n
entry_fixed (q ∷ qs) (Lent b ∷ ps) m zero a l e n = by (is_mutable q.passing) refl
  where
    by : (c : Bool) → is_mutable q.passing ≡ c → not c ≡ true
    by true k = absurd (n (ap Some (mutable_is q.passing k)))
    by false k = refl
entry_fixed (q ∷ qs) (Lent b ∷ ps) m (suc i) a l e n = entry_fixed qs ps m i a (omega (arith, l)) e n

-- a place of the caller's that an own variable stands for is lent
place_back : (base nvs : ℕ) (qs : List Param) (ps : List Passed) (m n i : ℕ) (a : Place) → base ≤ m → base ≤ n → IsLow base nvs a → to_own (entries qs ps m) n i ≡ a → lent_place ps i ≡ Some a
place_back base nvs [] ps m n i a b c low e = absurd (past a low (sym e))
  where
    past : (q : Place) → IsLow base nvs q → q ≡ Local (n + i) → ⊥
    past (Local l) h s = let t : l ≡ n + i = cc in omega (arith, h, t, c)
    past (Global g) h s = absurd (cc)
    past (Turn z) h s = absurd (cc)
    past Nowhere h s = absurd h
place_back base nvs (q ∷ qs) [] m n i a b c low e = absurd (past a low (sym e))
  where
    past : (q : Place) → IsLow base nvs q → q ≡ Local (n + i) → ⊥
    past (Local l) h s = let t : l ≡ n + i = cc in omega (arith, h, t, c)
    past (Global g) h s = absurd (cc)
    past (Turn z) h s = absurd (cc)
    past Nowhere h s = absurd h
place_back base nvs (q ∷ qs) (Copied v ∷ ps) m n zero a b c low e = absurd (not_value base nvs m a b low (sym e))
place_back base nvs (q ∷ qs) (Copied v ∷ ps) m n (suc i) a b c low e = place_back base nvs qs ps (suc m) n i a (omega (arith, b)) c low e
place_back base nvs (q ∷ qs) (Lent d ∷ ps) m n zero a b c low e = ap Some e
place_back base nvs (q ∷ qs) (Lent d ∷ ps) m n (suc i) a b c low e = place_back base nvs qs ps m n i a b c low e

global_is : (g : ℕ) (a : Place) → is_global g a ≡ true → a ≡ Global g
global_is g (Local l) e = absurd (true≢false (sym e))
global_is g (Global k) e = let s : k ≡ g = grind (arith, e) in ap Global s
global_is g (Turn z) e = absurd (true≢false (sym e))
global_is g Nowhere e = absurd (true≢false (sym e))

-- a nonvolatile variable that an entry has is lent
pub global_back : (qs : List Param) (ps : List Passed) (m g : ℕ) → has_global g (entries qs ps m) ≡ true → (i : ℕ) × (lent_place ps i ≡ Some (Global g))
global_back [] ps m g h = absurd (true≢false (sym h))
global_back (q ∷ qs) [] m g h = absurd (true≢false (sym h))
global_back (q ∷ qs) (Copied v ∷ ps) m g h = let r = global_back qs ps (suc m) g h in (suc r.0, r.1)
global_back (q ∷ qs) (Lent a ∷ ps) m g h = by (is_global g a) refl h (global_back qs ps m g)
  where
    by : (b : Bool) → is_global g a ≡ b → b || has_global g (entries qs ps m) ≡ true → (has_global g (entries qs ps m) ≡ true → (i : ℕ) × (lent_place ps i ≡ Some (Global g))) →
        (i : ℕ) × (lent_place (Lent a ∷ ps) i ≡ Some (Global g))
    by true e k rest = (0, ap Some (global_is g a e))
    by false e k rest = let r = rest k in (suc r.0, r.1)

-- ---- names of nonvolatile variables

abbrev pub is_lent_place : List Entry → Place → Bool
is_lent_place es (Global g) = has_global g es
is_lent_place es q = false

abbrev pub IsShared : Place → Type 0
IsShared (Global g) = Unit {0}
IsShared Nowhere = Unit {0}
IsShared q = ⊥

pub nv_shared : (a : ℕ) (xs : List Text) (x : Text) → IsShared (place_of (nv_env a xs) x)
nv_shared a [] x = tt
nv_shared a (y ∷ xs) x = by (bytes_eq x y) (nv_shared (suc a) xs x)
  where
    by : (b : Bool) → IsShared (binding_of (nv_env (suc a) xs) x).place →
        IsShared (if b then record { name = y; place = Global a; reference = false; fresh = false } else binding_of (nv_env (suc a) xs) x).place
    by true h = tt
    by false h = h

-- the name of a nonvolatile variable that is lent
abbrev pub hidden_by : TProgram → List Entry → Text → Bool
hidden_by p es x = is_lent_place es (place_of (nv_env 0 p.names.nvs) x)

-- ---- one call

module _ (p : TProgram) (f : ℕ) (g : TFunction) (ps : List Passed) (σ : Store) (stored : HasStored p σ) (may : MayPass p f g ps σ) where
  abbrev base : ℕ
  base = length σ.locals

  abbrev nvs : ℕ
  nvs = length σ.nv

  abbrev n : ℕ
  n = after_values g.params ps base

  abbrev pub es : List Entry
  es = entries g.params ps base

  pub low_place : (q : Place) → IsThere p σ q → IsLow base nvs q
  low_place (Local l) h = h
  low_place (Global i) h = omega (arith, h, stored)
  low_place (Turn z) h = tt
  low_place Nowhere h = h

  pub lows : Lows base nvs ps
  lows i q e = low_place q (may.there i q e)

  abbrev fine : Fine n nvs es
  fine = fine_entries base nvs g.params ps base (omega arith) lows may.once may.fixed

  more : base ≤ n
  more = more_values g.params ps base

  abbrev R : Renaming
  R = renaming base nvs n es fine

  abbrev IsR : IsRenaming R
  IsR = is_renaming base nvs n es fine

  abbrev first : Frame
  first = record { env = nv_env 0 p.names.nvs; locals = σ.locals }

  abbrev own : Frame
  own = own_frame p g ps σ

  abbrev lent : Frame
  lent = with_params g.params ps first

  all_left : AreLeft σ nvs n es 0 es
  all_left = record {
    places = λ i. let s : 0 + i ≡ i = omega arith in ap (to_own es n) s;
    fixings = λ i. let s : 0 + i ≡ i = omega arith in ap (fixed_own es) s;
  }

  none_made : IsMade σ nvs n es 0 base first first
  none_made = record {
    many = omega arith;
    other_many = refl;
    above = omega arith;
    held = λ i h. absurd (omega (arith, h));
    few = λ i l h e. absurd (omega (arith, h));
    below = λ l h. refl;
    other_below = λ l h. refl;
  }

  made : IsMade σ nvs n es (length es) n own lent
  made = let s : 0 + length es ≡ length es = omega arith in subst (λ k. IsMade σ nvs n es k n own lent) s (all_made σ nvs n es g.params ps 0 base first first lows all_left none_made)

  abbrev start : Store
  start = record σ { locals = own.locals }

  abbrev other_start : Store
  other_start = record σ { locals = lent.locals }

  abbrev N : Store → Store → Type 0
  N υ τ = Match R IsR start other_start υ τ

  index_few : (qs : List Param) (ps : List Passed) (m i : ℕ) (a : Place) → length ps ≡ length qs → lent_place ps i ≡ Some a → i < length (entries qs ps m)
  index_few [] [] m i a l e = absurd (none-some _ e)
  index_few (q ∷ qs) [] m i a l e = absurd (none-some _ e)
  index_few [] (s ∷ ps) m i a l e = absurd (omega (arith, l))
  index_few (q ∷ qs) (Copied v ∷ ps) m zero a l e = absurd (none-some _ e)
  index_few (q ∷ qs) (Copied v ∷ ps) m (suc i) a l e = let r = index_few qs ps (suc m) i a (omega (arith, l)) e in omega (arith, r)
  index_few (q ∷ qs) (Lent b ∷ ps) m zero a l e = omega arith
  index_few (q ∷ qs) (Lent b ∷ ps) m (suc i) a l e = let r = index_few qs ps m i a (omega (arith, l)) e in omega (arith, r)

  module _ (υ τ : Store) (m : N υ τ) where
    -- what is lent holds what its own variable holds
    lent_same : (i : ℕ) (a : Place) → lent_place ps i ≡ Some a → held_at τ a ≡ held_at υ (Local (base + i))
    lent_same i a e =
        sym (m.holds (Local (base + i)) (live_at base nvs n es fine i) ∙ ap (held_at τ) (to_at base nvs n es fine i ∙ entry_place g.params ps base n i a may.as_many e))

    -- what is lent to be read alone holds what it held
    lent_kept : (i : ℕ) (a : Place) → IsLow base nvs a → lent_place ps i ≡ Some a → (passing_at g.params i ≡ Some passings.Mutable → ⊥) → held_at τ a ≡ held_at σ a
    lent_kept i a low e isnt =
        lent_same i a e
        ∙ m.kept (Local (base + i)) (inr (fixed_at base nvs n es fine i ∙ entry_fixed g.params ps base i a may.as_many e isnt))
        ∙ made.held i (index_few g.params ps base i a may.as_many e)
        ∙ ap (held_in σ lent.locals) (entry_place g.params ps base n i a may.as_many e)
        ∙ low_held σ nvs n es (length es) n own lent made a low

    -- what is lent is gone from the own run, and is there as it was
    own_kept : (i : ℕ) (a : Place) → IsCell a → IsLow base nvs a → lent_place ps i ≡ Some a → held_at υ a ≡ held_at σ a
    own_kept i (Local l) c low e =
        let past : nat_lt l base ≡ true = grind (arith, low) in
        m.kept (Local l) (inl (ap not past)) ∙ made.below l low
    own_kept i (Global k) c low e = m.kept (Global k) (inl (ap not (own_global n nvs es i k (entry_place g.params ps base n i (Global k) may.as_many e))))
    own_kept i (Turn z) c low e = absurd c
    own_kept i Nowhere c low e = absurd c

    -- what isn't lent is in both what it is in one
    unmet : (l : ℕ) → l < base → ((i : ℕ) → lent_place ps i ≡ Some (Local l) → ⊥) → (a : Place) → is_live base nvs n es fine a ≡ true → to_place base nvs n es fine a ≡ Local l → ⊥
    unmet l low isnt (Local k) live e =
        let o = own_index base nvs n es fine k live in
        isnt o.0 (place_back base nvs g.params ps base n o.0 (Local l) (omega arith) more low (sym (to_at base nvs n es fine o.0) ∙ ap (λ x. to_place base nvs n es fine (Local x)) (sym o.1) ∙ e))
    unmet l low isnt (Global k) live e = absurd (cc)
    unmet l low isnt (Turn z) live e = absurd (cc)
    unmet l low isnt Nowhere live e = absurd (cc)

    own_same : (a : Place) → IsCell a → IsLow base nvs a → ((i : ℕ) → lent_place ps i ≡ Some a → ⊥) → held_at τ a ≡ held_at υ a
    own_same (Local l) c low isnt =
        let past : nat_lt l base ≡ true = grind (arith, low) in
        m.other_kept (Local l) (unmet l low isnt) ∙ made.other_below l low ∙ sym (m.kept (Local l) (inl (ap not past)) ∙ made.below l low)
    own_same (Global k) c low isnt = sym (m.holds (Global k) (free (has_global k es) refl))
      where
        free : (b : Bool) → has_global k es ≡ b → not b ≡ true
        free true h = let r = global_back g.params ps base k h in absurd (isnt r.0 r.1)
        free false h = refl
    own_same (Turn z) c low isnt = absurd c
    own_same Nowhere c low isnt = absurd c

    own_more : base ≤ length υ.locals
    own_more = omega (arith, m.count)

    lent_more : base ≤ length τ.locals
    lent_more = omega (arith, m.other_count, more)

    abbrev left : Store
    left = left_at base υ

    low_there : (a : Place) → has_place base nvs a ≡ true → IsCell a × IsLow base nvs a
    low_there (Local l) h = (tt, grind (arith, h))
    low_there (Global k) h = (tt, grind (arith, h))
    low_there (Turn z) h = absurd (true≢false (sym h))
    low_there Nowhere h = absurd (true≢false (sym h))

    -- a `&mut` parameter or not
    mutable_or : (o : Option Passing) → (o ≡ Some passings.Mutable) ⊎ (o ≡ Some passings.Mutable → ⊥)
    mutable_or None = inr (λ e. none-some _ e)
    mutable_or (Some passings.Mutable) = inl refl
    mutable_or (Some passings.Shared) = inr (λ e. absurd (cc))
    mutable_or (Some passings.Value) = inr (λ e. absurd (cc))

    -- place by place
    same_held : (a : Place) → has_place base nvs a ≡ true → held_at τ a ≡ held_at (behind_call base g ps υ) a
    same_held a h =
        let c = low_there a h in
        let own_nv : length υ.nv ≡ nvs = m.stored in
        let own_left : held_at left a ≡ held_at υ a = left_held υ base own_more a (ap (λ k. has_place base k a) own_nv ∙ h) in
        let is_there : there left a ≡ true = ap (λ k. has_place k (length υ.nv) a) (left_length υ base own_more) ∙ ap (λ k. has_place base k a) own_nv ∙ h in
        elim (lent_or_not ps a c.0) [
          | inl l ↦ elim (mutable_or (passing_at g.params l.0)) [
            | inl w ↦ lent_same l.0 a l.1 ∙ sym (copied_here υ base g.params ps left l.0 a may.once w l.1 is_there)
            | inr isnt ↦
                lent_kept l.0 a c.1 l.1 isnt ∙ sym (own_kept l.0 a c.0 c.1 l.1) ∙ sym own_left
                ∙ sym (copied_other υ base g.params ps left a (λ i w e. isnt (subst (λ j. passing_at g.params j ≡ Some passings.Mutable) (may.once i l.0 a w e l.1) w)))
          ]
          | inr none ↦ own_same a c.0 c.1 none ∙ sym own_left ∙ sym (copied_other υ base g.params ps left a (λ i w e. none i e))
        ]

    pub same_behind : left_at base τ ≡ behind_call base g ps υ
    same_behind =
        let other_nv : length τ.nv ≡ nvs = m.other_stored in
        let own_nv : length υ.nv ≡ nvs = m.stored in
        let size : length (left_at base τ).locals ≡ base = left_length τ base lent_more in
        same_store (left_at base τ) (behind_call base g ps υ)
        (size ∙ sym (copied_locals υ base g.params ps left ∙ left_length υ base own_more))
        (other_nv ∙ sym (copied_nv υ base g.params ps left ∙ own_nv))
        (λ a h. let k : has_place base nvs a ≡ true = ap (λ c. has_place c nvs a) (sym size) ∙ ap (λ c. has_place (length (left_at base τ).locals) c a) (sym other_nv) ∙ h in
        left_held τ base lent_more a (ap (λ c. has_place base c a) other_nv ∙ k) ∙ same_held a k)
        (sym m.rest ∙ sym (copied_beside υ base g.params ps left))

    place_true : (a : Place) → IsCell a → IsLow base nvs a → has_place base (length τ.nv) a ≡ true
    place_true (Local l) c low = grind (arith, low)
    place_true (Global k) c low = let e = m.other_stored in let b : k < length τ.nv = omega (arith, e, low) in grind (arith, b)
    place_true (Turn z) c low = absurd c
    place_true Nowhere c low = absurd c

    left_at_place : (a : Place) → IsCell a → IsLow base nvs a → held_at (left_at base τ) a ≡ held_at τ a
    left_at_place a c low = left_held τ base lent_more a (place_true a c low)

    cell_of : (i : ℕ) (a : Place) → passing_at g.params i ≡ Some passings.Mutable → lent_place ps i ≡ Some a → IsLow base nvs a → IsCell a
    cell_of i (Local l) w e low = tt
    cell_of i (Global k) w e low = tt
    cell_of i (Turn z) w e low = absurd (may.fixed i z w e)
    cell_of i Nowhere w e low = absurd low

    own_below : (l : ℕ) → l < base → held_at υ (Local l) ≡ held_at σ (Local l)
    own_below l low = let past : nat_lt l base ≡ true = grind (arith, low) in m.kept (Local l) (inl (ap not past)) ∙ made.below l low

    -- place by place
    pub copied_back_to : IsCopiedBack p base g ps σ υ (left_at base τ)
    copied_back_to = record {
      kept = own_below;
      lent_stays = λ i k e. own_kept i (Global k) tt (lows i (Global k) e) e;
      written = λ i q w e. left_at_place q (cell_of i q w e (lows i q e)) (lows i q e) ∙ lent_same i q e;
      other = λ l low none. left_at_place (Local l) tt low ∙ elim (lent_or_not ps (Local l) tt) [
        | inl h ↦ lent_kept h.0 (Local l) low h.1 (λ w. none h.0 w h.1)
        | inr isnt ↦ own_same (Local l) tt low isnt ∙ own_below l low
      ];
      other_stored = λ k low none. let few : k < nvs = omega (arith, low, stored) in left_at_place (Global k) tt few ∙ elim (lent_or_not ps (Global k) tt) [
        | inl h ↦ lent_kept h.0 (Global k) few h.1 (λ w. none h.0 w h.1) ∙ sym (own_kept h.0 (Global k) tt few h.1)
        | inr isnt ↦ own_same (Global k) tt few isnt
      ];
      locals = left_length τ base lent_more;
      nv = m.other_stored;
      rest = sym m.rest;
    }

  -- outcomes
  copies : (o q : Outcome) → (hidden : Text → Bool) → Alike hidden R IsR start other_start o q → AreCopies base g ps (leave base q) o
  copies (Went υ) (Went τ) hidden h = same_behind υ τ h
  copies (Returned v υ) (Returned w τ) hidden h = (sym h.0, same_behind υ τ h.1)
  copies (Stopped s υ) (Stopped t τ) hidden h = (sym h.0, sym h.1.rest)
  copies (Went υ) (Returned w τ) hidden h = absurd h
  copies (Went υ) (Stopped t τ) hidden h = absurd h
  copies (Returned v υ) (Went τ) hidden h = absurd h
  copies (Returned v υ) (Stopped t τ) hidden h = absurd h
  copies (Stopped s υ) (Went τ) hidden h = absurd h
  copies (Stopped s υ) (Returned w τ) hidden h = absurd h

  copies_back : (o q : Outcome) → (hidden : Text → Bool) → Alike hidden R IsR start other_start o q → AreCopiedBack p base g ps σ (leave base q) o
  copies_back (Went υ) (Went τ) hidden h = copied_back_to υ τ h
  copies_back (Returned v υ) (Returned w τ) hidden h = (sym h.0, copied_back_to υ τ h.1)
  copies_back (Stopped s υ) (Stopped t τ) hidden h = (sym h.0, sym h.1.rest)
  copies_back (Went υ) (Returned w τ) hidden h = absurd h
  copies_back (Went υ) (Stopped t τ) hidden h = absurd h
  copies_back (Returned v υ) (Went τ) hidden h = absurd h
  copies_back (Returned v υ) (Stopped t τ) hidden h = absurd h
  copies_back (Stopped s υ) (Went τ) hidden h = absurd h
  copies_back (Stopped s υ) (Returned w τ) hidden h = absurd h

  abbrev pub hidden : Text → Bool
  hidden = hidden_by p es

  live_shared : (q : Place) → IsShared q → is_lent_place es q ≡ false → (q ≡ R.to q) × (R.live q ≡ true)
  live_shared (Global k) s h = (refl, ap not h)
  live_shared Nowhere s h = (refl, refl)
  live_shared (Local l) s h = absurd s
  live_shared (Turn z) s h = absurd s

  free_shared : (q : Place) → IsShared q → R.fixed q ≡ false
  free_shared (Global k) s = refl
  free_shared Nowhere s = refl
  free_shared (Local l) s = absurd s
  free_shared (Turn z) s = absurd s

  nv_twins : (x : Text) → hidden x ≡ false → AreTwins hidden R IsR start other_start (binding_of (nv_env 0 p.names.nvs) x) (binding_of (nv_env 0 p.names.nvs) x)
  nv_twins x h =
      let l = live_shared (place_of (nv_env 0 p.names.nvs) x) (nv_shared 0 p.names.nvs x) h in
      record { place = l.0; live = l.1; reference = refl; fresh = refl }

  nv_loose : (x : Text) → hidden x ≡ false → R.fixed (place_of (nv_env 0 p.names.nvs) x) ≡ false
  nv_loose x h = free_shared (place_of (nv_env 0 p.names.nvs) x) (nv_shared 0 p.names.nvs x)

  -- bodies are lawful for what is lent
  module _ (regions : List TRegion) (depth : ℕ) (Quiet : Text → TFunction → Type 0)
      (quiet : (x : Text) (h : TFunction) → function_named p.functions x ≡ Some h → Quiet x h → IsLawfulBlock hidden p Quiet (function_named p.functions) (start_flags h.params []) h.body)
      (x : Text) (named : function_named p.functions x ≡ Some g) (q : Quiet x g) where
    both_alike : Alike hidden R IsR start other_start (own_run p regions depth g ps σ) (block_run p.names regions (call_to p regions depth) (set_home g.body) lent.env g.body other_start)
    both_alike =
        framed_alike hidden R IsR start other_start p regions Quiet quiet nv_twins nv_loose (call_to p regions depth)
        (calls_alike hidden R IsR start other_start p regions Quiet quiet nv_twins nv_loose depth) x g named q σ σ own lent
        (record {
          sees =
              all_seen σ n es fine hidden start other_start g.params ps 0 base first first [] may.as_many lows may.form all_left none_made (record { named = nv_twins; free = λ y s e. nv_loose y s });
          match = start_match σ n es fine own lent made;
        })

    -- The law of copies
    pub copied_so : AreCopies base g ps (lent_run p regions depth g ps σ) (own_run p regions depth g ps σ)
    copied_so = copies _ _ hidden both_alike

    pub copied_back_so : AreCopiedBack p base g ps σ (lent_run p regions depth g ps σ) (own_run p regions depth g ps σ)
    copied_back_so = copies_back _ _ hidden both_alike
