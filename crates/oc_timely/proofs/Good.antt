-- Where each event is good, what must be held lies in one execution.
use Rattle.std.proofs.Common.{◌≡◌, ◌⊎◌, inl, inr, ℕ, suc, ◌<◌, ◌≤◌, Bool, true, false, true≢false, List, [], ◌∷◌, ◌++◌, Some, refl, sym, ap, ◌∙◌, subst, arith}
use Rattle.oc_tree.specs.Tree.{TProgram}
use Rattle.oc_tree.specs.declared.said.Said.{Said}
use Rattle.oc_tree.specs.declared.said.Said.TheVariants.{Showed, Entered, Committed}
use Rattle.oc_tree.specs.declared.said.Shown.TheVariants.{Used, Finished, Tagged}
use Rattle.oc_meaning.specs.Store.{Event}
use Rattle.oc_meaning.specs.Run.{in_order}
use Rattle.oc_tree.specs.Members.{IsOf}
use Rattle.oc_honest.specs.Timely.{IsInput, IsUse, AreTogether}
use Rattle.oc_honest.specs.Held.{Ran, within, ran_more, ran_from, ran, AreHeld}
use Rattle.oc_timely.specs.Enough.{sense_count, taken_in, open_after, is_open, since_after, since, AreSince, AreGathered, IsGood, AllGood}
use Rattle.oc_timely.proofs.Gathers.{count_more}

abbrev begun_after : Said → ℕ → ℕ
begun_after (Entered r) n = suc n
begun_after s n = n

-- how many executions began
abbrev begun : List Event → ℕ
begun [] = 0
begun (e ∷ es) = begun_after e.said (begun es)

abbrev back_more : Said → Event → (inside : Bool) (n : ℕ) → List Ran → List Ran
back_more (Entered r) e inside n rest = rest
back_more (Committed r) e inside n rest = rest
back_more s e inside n rest = record { execution = within inside n; event = e } ∷ rest

-- events with their executions, the newest first
abbrev back : List Event → List Ran
back [] = []
back (e ∷ es) = back_more e.said e (is_open es) (begun es) (back es)

-- ---- the same in order

abbrev open_from : Bool → List Event → Bool
open_from b [] = b
open_from b (e ∷ es) = open_from (open_after e.said b) es

abbrev begun_from : ℕ → List Event → ℕ
begun_from n [] = n
begun_from n (e ∷ es) = begun_from (begun_after e.said n) es

last_more : (r : Ran) (s : Said) (b : Bool) (n : ℕ) (e : Event) (xs : List Event) (d : Event) →
    ((b : Bool) (n : ℕ) → IsOf r (ran_from b n (xs ++ d ∷ [])) → IsOf r (ran_from b n xs) ⊎ IsOf r (back_more d.said d (open_from b xs) (begun_from n xs) [])) →
    IsOf r (ran_more s b n e (λ o m. ran_from o m (xs ++ d ∷ [])))
    → IsOf r (ran_more s b n e (λ o m. ran_from o m xs)) ⊎ IsOf r (back_more d.said d (open_from (open_after s b) xs) (begun_from (begun_after s n) xs) [])
last_more r (Entered q) b n e xs d rest h = rest true (suc n) h
last_more r (Committed q) b n e xs d rest h = rest false n h
last_more r s b n e xs d rest (inl h) = inl (inl h)
last_more r s b n e xs d rest (inr h) = elim (rest b n h) [ inl k ↦ inl (inr k) | inr k ↦ inr k ]

alone : (r : Ran) (s : Said) (b : Bool) (n : ℕ) (d : Event) → IsOf r (ran_more s b n d (λ o m. [])) → IsOf r (back_more s d b n [])
alone r (Entered q) b n d h = h
alone r (Committed q) b n d h = h
alone r s b n d h = h

last_of : (r : Ran) (xs : List Event) (d : Event) (b : Bool) (n : ℕ) → IsOf r (ran_from b n (xs ++ d ∷ [])) →
    IsOf r (ran_from b n xs) ⊎ IsOf r (back_more d.said d (open_from b xs) (begun_from n xs) [])
last_of r [] d b n h = inr (alone r d.said b n d h)
last_of r (e ∷ xs) d b n h = last_more r e.said b n e xs d (λ c m k. last_of r xs d c m k) h

open_last : (b : Bool) (xs : List Event) (d : Event) → open_from b (xs ++ d ∷ []) ≡ open_after d.said (open_from b xs)
open_last b [] d = refl
open_last b (e ∷ xs) d = open_last (open_after e.said b) xs d

begun_last : (n : ℕ) (xs : List Event) (d : Event) → begun_from n (xs ++ d ∷ []) ≡ begun_after d.said (begun_from n xs)
begun_last n [] d = refl
begun_last n (e ∷ xs) d = begun_last (begun_after e.said n) xs d

open_is : (es : List Event) → open_from false (in_order es) ≡ is_open es
open_is [] = refl
open_is (e ∷ es) = open_last false (in_order es) e ∙ ap (open_after e.said) (open_is es)

begun_is : (es : List Event) → begun_from 0 (in_order es) ≡ begun es
begun_is [] = refl
begun_is (e ∷ es) = begun_last 0 (in_order es) e ∙ ap (begun_after e.said) (begun_is es)

front_back : (r : Ran) (s : Said) (e : Event) (b : Bool) (n : ℕ) (rest : List Ran) → IsOf r rest → IsOf r (back_more s e b n rest)
front_back r (Entered q) e b n rest h = h
front_back r (Committed q) e b n rest h = h
front_back r s e b n rest h = inr h

new_back : (r : Ran) (s : Said) (e : Event) (b : Bool) (n : ℕ) (rest : List Ran) → IsOf r (back_more s e b n []) → IsOf r (back_more s e b n rest)
new_back r (Entered q) e b n rest h = absurd h
new_back r (Committed q) e b n rest h = absurd h
new_back r s e b n rest (inl h) = inl h
new_back r s e b n rest (inr h) = absurd h

in_back : (r : Ran) (es : List Event) → IsOf r (ran (in_order es)) → IsOf r (back es)
in_back r [] h = h
in_back r (e ∷ es) h = elim (last_of r (in_order es) e false 0 h) [
  | inl k ↦ front_back r e.said e (is_open es) (begun es) (back es) (in_back r es k)
  | inr k ↦ new_back r e.said e (is_open es) (begun es) (back es)
      (subst (λ b. IsOf r (back_more e.said e b (begun es) [])) (open_is es) (subst (λ n. IsOf r (back_more e.said e (open_from false (in_order es)) n [])) (begun_is es) k))
]

-- ---- the newest event, and what is older

-- the newest event itself, or an older one
newest : (r : Ran) (s : Said) (e : Event) (b : Bool) (n : ℕ) (rest : List Ran) → IsOf r (back_more s e b n rest) → (r ≡ record { execution = within b n; event = e }) ⊎ IsOf r rest
newest r (Entered q) e b n rest h = inr h
newest r (Committed q) e b n rest h = inr h
newest r s e b n rest h = h

-- a use or an annotation
abbrev IsHeldAt : Said → Type 0
IsHeldAt (Showed (Used n)) = Unit {0}
IsHeldAt (Showed (Finished n)) = Unit {0}
IsHeldAt (Showed (Tagged n)) = Unit {0}
IsHeldAt s = ⊥

use_held : (s : Said) → IsUse s → IsHeldAt s
use_held (Showed (Used n)) h = tt
use_held (Showed (Finished n)) h = tt
use_held s h = absurd h

within_now : (b : Bool) (n : ℕ) → b ≡ true → within b n ≡ Some n
within_now true n e = refl
within_now false n e = absurd (true≢false (sym e))

module _ (p : TProgram) where
  good_since : (s : Said) (e : Event) (es : List Event) → IsHeldAt s → IsGood p s e es → AreSince es e.samples
  good_since (Showed (Used n)) e es h g = g
  good_since (Showed (Finished n)) e es h g = g
  good_since (Showed (Tagged n)) e es h g = g.0
  good_since s e es h g = absurd h

  -- an input's number
  input_is : (j : ℕ) (e : Event) (es : List Event) → IsInput j e → IsGood p e.said e es → (j ≡ taken_in es) × (sense_count e.said (taken_in es) ≡ suc (taken_in es))
  input_is j e es i g =
      let good : e.samples ≡ taken_in es ∷ [] = subst (λ s. IsGood p s e es) i.2 g in
      (head_is j (taken_in es) (sym i.3 ∙ good), ap (λ s. sense_count s (taken_in es)) i.2)
    where
      head_is : (m n : ℕ) → m ∷ [] ≡ n ∷ [] → m ≡ n
      head_is m n q = cc

  below : (a : Ran) (j : ℕ) (es : List Event) → AllGood p es → IsOf a (back es) → IsInput j a.event → j < taken_in es
  below a j [] g h i = absurd h
  below a j (e ∷ es) g h i = elim (newest a e.said e (is_open es) (begun es) (back es) h) [
    | inl q ↦ let f = input_is j e es (subst (IsInput j) (ap (λ (x : Ran). x.event) q) i) g.0 in omega (arith, f.0, f.1)
    | inr k ↦ let f = below a j es g.1 k i in omega (arith, f, count_more e.said (taken_in es))
  ]

  held_below : (u : Ran) (j : ℕ) (es : List Event) → AllGood p es → IsOf u (back es) → IsHeldAt u.event.said → IsOf j u.event.samples → j < taken_in es
  held_below u j [] g h i o = absurd h
  held_below u j (e ∷ es) g h i o = elim (newest u e.said e (is_open es) (begun es) (back es) h) [
    | inl q ↦
        let same : u.event ≡ e = ap (λ (x : Ran). x.event) q in
        let f = (good_since e.said e es (subst (λ (d : Event). IsHeldAt d.said) same i) g.0 j (subst (λ (d : Event). IsOf j d.samples) same o)).2 in
        omega (arith, f, count_more e.said (taken_in es))
    | inr k ↦ let f = held_below u j es g.1 k i o in omega (arith, f, count_more e.said (taken_in es))
  ]

  -- what was taken since the open execution began lies in it
  older_now : (a : Ran) (j : ℕ) (s : Said) (es : List Event) → (IsOf a (back es) → IsInput j a.event → j < taken_in es) →
      (IsOf a (back es) → IsInput j a.event → is_open es ≡ true → since es ≤ j → a.execution ≡ Some (begun es)) →
      IsOf a (back es) → IsInput j a.event → open_after s (is_open es) ≡ true → since_after s es (since es) ≤ j → a.execution ≡ Some (begun_after s (begun es))
  older_now a j (Entered r) es low rest h i o l = absurd (omega (arith, low h i, l))
  older_now a j (Committed r) es low rest h i o l = absurd (true≢false (sym o))
  older_now a j s es low rest h i o l = rest h i o l

  newer_now : (j : ℕ) (s : Said) (e : Event) (es : List Event) → e.said ≡ s → IsInput j e → open_after s (is_open es) ≡ true → within (is_open es) (begun es) ≡ Some (begun_after s (begun es))
  newer_now j (Entered r) e es q i o = absurd (cc (sym q ∙ i.2))
  newer_now j (Committed r) e es q i o = absurd (true≢false (sym o))
  newer_now j s e es q i o = within_now (is_open es) (begun es) o

  now : (a : Ran) (j : ℕ) (es : List Event) → AllGood p es → IsOf a (back es) → IsInput j a.event → is_open es ≡ true → since es ≤ j → a.execution ≡ Some (begun es)
  now a j [] g h i o l = absurd h
  now a j (e ∷ es) g h i o l = elim (newest a e.said e (is_open es) (begun es) (back es) h) [
    | inl q ↦ ap (λ (x : Ran). x.execution) q ∙ newer_now j e.said e es refl (subst (IsInput j) (ap (λ (x : Ran). x.event) q) i) o
    | inr k ↦ older_now a j e.said es (λ h' i'. below a j es g.1 h' i') (λ h' i' o' l'. now a j es g.1 h' i' o' l') k i o l
  ]

  -- nothing is an input and a use
  not_both : (j : ℕ) (e : Event) → IsInput j e → IsHeldAt e.said → ⊥
  not_both j e i h = subst IsHeldAt i.2 h

  -- a use and the inputs of its samples
  fresh_held : (a u : Ran) (j : ℕ) (es : List Event) → AllGood p es → IsOf a (back es) → IsOf u (back es) → IsInput j a.event → IsHeldAt u.event.said → IsOf j u.event.samples →
      (x : ℕ) × (a.execution ≡ Some x) × (u.execution ≡ Some x)
  fresh_held a u j [] g ha hu i h o = absurd ha
  fresh_held a u j (e ∷ es) g ha hu i h o =
      by (newest a e.said e (is_open es) (begun es) (back es) ha) (newest u e.said e (is_open es) (begun es) (back es) hu) (λ k l. fresh_held a u j es g.1 k l i h o)
    where
      new : Ran
      new = record { execution = within (is_open es) (begun es); event = e }

      by : (a ≡ new) ⊎ IsOf a (back es) → (u ≡ new) ⊎ IsOf u (back es) → (IsOf a (back es) → IsOf u (back es) → (x : ℕ) × (a.execution ≡ Some x) × (u.execution ≡ Some x)) →
          (x : ℕ) × (a.execution ≡ Some x) × (u.execution ≡ Some x)
      by (inl q) (inl k) rest = absurd (not_both j e (subst (IsInput j) (ap (λ (x : Ran). x.event) q) i) (subst (λ (x : Ran). IsHeldAt x.event.said) k h))
      by (inl q) (inr k) rest =
          let f = input_is j e es (subst (IsInput j) (ap (λ (x : Ran). x.event) q) i) g.0 in
          let b = held_below u j es g.1 k h o in
          absurd (omega (arith, f.0, b))
      by (inr k) (inl q) rest =
          let same : u.event ≡ e = ap (λ (x : Ran). x.event) q in
          let f = good_since e.said e es (subst (λ (d : Event). IsHeldAt d.said) same h) g.0 j (subst (λ (d : Event). IsOf j d.samples) same o) in
          (begun es, now a j es g.1 k i f.0 f.1, ap (λ (x : Ran). x.execution) q ∙ within_now (is_open es) (begun es) f.0)
      by (inr k) (inr l) rest = rest k l

  -- ---- the annotations of one instance

  turned : (e d : Event) → AreTogether p e d → AreTogether p d e
  turned e d t = record { one = t.other; other = t.one; first = t.second; second = t.first; set = t.set; first_set = t.second_set; second_set = t.first_set; instance = sym t.instance }

  first_held : (e d : Event) → AreTogether p e d → IsHeldAt e.said
  first_held e d t = subst IsHeldAt (sym t.first) tt

  tag_gathers : (s : Said) (n : ℕ) (e : Event) (es : List Event) → s ≡ Showed (Tagged n) → IsGood p s e es → AreSince es e.samples × AreGathered p e es
  tag_gathers s n e es q g = subst (λ d. IsGood p d e es) q g

  event_back : (r : Ran) (es : List Event) → IsOf r (back es) → IsOf r.event es
  event_back r [] h = h
  event_back r (e ∷ es) h = elim (newest r e.said e (is_open es) (begun es) (back es) h) [
    | inl q ↦ inl (ap (λ (x : Ran). x.event) q)
    | inr k ↦ inr (event_back r es k)
  ]

  -- the samples of both are since, where the newest event is one of them
  both_since : (t u : Event) (es : List Event) → AreTogether p t u → IsGood p t.said t es → (u ≡ t) ⊎ IsOf u es → AreSince es t.samples × AreSince es u.samples
  both_since t u es h g (inl q) = let f = tag_gathers t.said h.one t es h.first g in (f.0, subst (λ (d : Event). AreSince es d.samples) (sym q) f.0)
  both_since t u es h g (inr k) = let f = tag_gathers t.said h.one t es h.first g in (f.0, f.1 u k (turned t u h))

  abbrev InOneExecution : Ran → Ran → Type 0
  InOneExecution a b = (x : ℕ) × (a.execution ≡ Some x) × (b.execution ≡ Some x)

  tags_held : (a b t u : Ran) (j k : ℕ) (es : List Event) → AllGood p es → IsOf a (back es) → IsOf b (back es) → IsOf t (back es) → IsOf u (back es) → IsInput j a.event → IsInput k b.event →
      AreTogether p t.event u.event → IsOf j t.event.samples → IsOf k u.event.samples → InOneExecution a b
  tags_held a b t u j k [] g ha hb ht hu i l h oj ok = absurd ha
  tags_held a b t u j k (e ∷ es) g ha hb ht hu i l h oj ok =
      by (look a ha) (look b hb) (look t ht) (look u hu) (λ xa xb xt xu. tags_held a b t u j k es g.1 xa xb xt xu i l h oj ok)
    where
      new : Ran
      new = record { execution = within (is_open es) (begun es); event = e }

      look : (r : Ran) → IsOf r (back (e ∷ es)) → (r ≡ new) ⊎ IsOf r (back es)
      look r x = newest r e.said e (is_open es) (begun es) (back es) x

      event_is : (r : Ran) → r ≡ new → r.event ≡ e
      event_is r q = ap (λ (x : Ran). x.event) q

      -- the newest event is an annotation, so both inputs are older
      tagged : (r : Ran) (n : ℕ) → IsHeldAt e.said → IsInput n r.event → (r ≡ new) ⊎ IsOf r (back es) → IsOf r (back es)
      tagged r n y z (inl q) = absurd (not_both n e (subst (IsInput n) (event_is r q) z) y)
      tagged r n y z (inr q) = q

      -- both inputs were taken since
      since_both : IsHeldAt e.said → (a ≡ new) ⊎ IsOf a (back es) → (b ≡ new) ⊎ IsOf b (back es) → AreSince es t.event.samples → AreSince es u.event.samples → InOneExecution a b
      since_both y xa xb st su =
          let fj = st j oj in
          let fk = su k ok in
          (begun es, now a j es g.1 (tagged a j y i xa) i fj.0 fj.1, now b k es g.1 (tagged b k y l xb) l fk.0 fk.1)

      -- an input newer than what depends on it
      too_new : (r s : Ran) (n : ℕ) → r ≡ new → IsInput n r.event → IsOf s (back es) → IsHeldAt s.event.said → IsOf n s.event.samples → ⊥
      too_new r s n q z y x o =
          let f = input_is n e es (subst (IsInput n) (event_is r q) z) g.0 in
          let d = held_below s n es g.1 y x o in
          omega (arith, f.0, d)

      by : (a ≡ new) ⊎ IsOf a (back es) → (b ≡ new) ⊎ IsOf b (back es) → (t ≡ new) ⊎ IsOf t (back es) → (u ≡ new) ⊎ IsOf u (back es) →
          (IsOf a (back es) → IsOf b (back es) → IsOf t (back es) → IsOf u (back es) → InOneExecution a b) → InOneExecution a b
      by xa xb (inl q) xu rest =
          let same : t.event ≡ e = event_is t q in
          let other : (u.event ≡ t.event) ⊎ IsOf u.event es = elim xu [ inl v ↦ inl (event_is u v ∙ sym same) | inr v ↦ inr (event_back u es v) ] in
          let f = both_since t.event u.event es h (subst (λ (d : Event). IsGood p d.said d es) (sym same) g.0) other in
          since_both (subst (λ (d : Event). IsHeldAt d.said) same (first_held t.event u.event h)) xa xb f.0 f.1
      by xa xb (inr y) (inl q) rest =
          let same : u.event ≡ e = event_is u q in
          let f = both_since u.event t.event es (turned t.event u.event h) (subst (λ (d : Event). IsGood p d.said d es) (sym same) g.0) (inr (event_back t es y)) in
          since_both (subst (λ (d : Event). IsHeldAt d.said) same (first_held u.event t.event (turned t.event u.event h))) xa xb f.1 f.0
      by (inl q) xb (inr y) (inr z) rest = absurd (too_new a t j q i y (first_held t.event u.event h) oj)
      by (inr x) (inl q) (inr y) (inr z) rest = absurd (too_new b u k q l z (first_held u.event t.event (turned t.event u.event h)) ok)
      by (inr x) (inr w) (inr y) (inr z) rest = rest x w y z

  -- ---- the law

  pub good_held : (es : List Event) → AllGood p es → AreHeld p (ran (in_order es))
  good_held es g = record {
    fresh = λ a u j ha hu i h o. fresh_held a u j es g (in_back a es ha) (in_back u es hu) i (use_held u.event.said h) o;
    consistent =
        λ a b t u j k ha hb ht hu i l h oj ok. tags_held a b t u j k es g (in_back a es ha) (in_back b es hb) (in_back t es ht) (in_back u es hu) i l h
        oj ok;
  }
