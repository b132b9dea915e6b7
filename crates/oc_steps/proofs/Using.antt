-- One thing more is lived: what it does to what is timely.
use Rattle.std.proofs.Common.{◌≡◌, ◌<◌, ◌≤◌, ℕ, zero, suc, ℤ, Bool, true, false, List, [], ◌∷◌, ◌++◌, length, get_or, Some, refl, sym, ap, ◌∙◌, subst, inl, inr, ⊎_elim, arith}
use Rattle.std.proofs.Common.{nat_lt, ltb-true, ltb-false}
use Rattle.std.specs.Prelude.{◌⊎◌}
use Rattle.oc_tree.specs.Tree.{TProgram}
use Rattle.oc_tree.specs.Members.{IsOf}
use Rattle.oc_tree.specs.declared.said.Said.TheVariants.{Sensed, Showed}
use Rattle.oc_tree.specs.declared.said.Shown.TheVariants.{Tagged}
use Rattle.oc_meaning.specs.Store.{Event}
use Rattle.oc_honest.specs.Timely.{Lived, IsInput, IsUse, AreTogether, AreTimely, set_of}
use Rattle.oc_laws.proofs.Members.{of_left}
use Rattle.oc_steps.specs.AgesTell.{HasAge}
use Rattle.oc_steps.specs.Freshness.{AreNumbered, AreNew}
use Rattle.oc_steps.specs.Little.{IsNoInput}
use Rattle.oc_steps.specs.Fold.{Instance, is_new}
use Rattle.oc_steps.specs.Watching.{IsAt, IsAged, IsSeen}
use Rattle.oc_steps.proofs.AgesTell.{ages_tell}
use Rattle.oc_steps.proofs.Freshness.{tests_right}

-- ---- lists

pub of_last : {A : Type 0} (x : A) (xs : List A) → IsOf x (xs ++ x ∷ [])
of_last x [] = inl refl
of_last x (y ∷ xs) = inr (of_last x xs)

pub of_more : {A : Type 0} (x y : A) (xs : List A) → IsOf x (xs ++ y ∷ []) → IsOf x xs ⊎ (x ≡ y)
of_more x y [] (inl e) = inr e
of_more x y [] (inr h) = absurd h
of_more x y (z ∷ xs) (inl e) = inl (inl e)
of_more x y (z ∷ xs) (inr h) = ⊎_elim (λ k. inl (inr k)) inr (of_more x y xs h)

pub get_first : (xs ys : List ℕ) (j : ℕ) → j < length xs → get_or (xs ++ ys) j 0 ≡ get_or xs j 0
get_first [] ys j h = absurd (omega (arith, h))
get_first (x ∷ xs) ys zero h = refl
get_first (x ∷ xs) ys (suc j) h = get_first xs ys j (omega (arith, h))

pub get_last : (xs : List ℕ) (c : ℕ) → get_or (xs ++ c ∷ []) (length xs) 0 ≡ c
get_last [] c = refl
get_last (x ∷ xs) c = get_last xs c

pub length-last : (xs : List ℕ) (c : ℕ) → length (xs ++ c ∷ []) ≡ suc (length xs)
length-last [] c = refl
length-last (x ∷ xs) c = ap suc (length-last xs c)

-- ---- what an event isn't

pub not_input : (e : Event) → IsNoInput e.said → (j : ℕ) → IsInput j e → ⊥
not_input e n j i = subst IsNoInput i.2 n

module _ (p : TProgram) (all : List Lived) (table : List ℕ) (sets : List Instance)
    (numbered : AreNumbered all table) (timely : AreTimely p all) (seen : IsSeen p all table sets) (u0 : Lived) where
  abbrev pub more : List Lived
  more = all ++ u0 ∷ []

  -- ---- an event that is no input

  module _ (silent : (j : ℕ) → IsInput j u0.event → ⊥) where
    -- each input was there before
    pub was : (a : Lived) (j : ℕ) → IsOf a more → IsInput j a.event → IsOf a all
    was a j h i = ⊎_elim (λ k. k) (λ e. absurd (silent j (subst (λ x. IsInput j x.event) e i))) (of_more a u0 all h)

    pub numbered_more : AreNumbered more table
    numbered_more = record {
      each = λ a j h i. numbered.each a j (was a j h i) i;
      has = λ j l. let a = numbered.has j l in (a.0, of_left a.0 all (u0 ∷ []) a.1, a.2, a.3);
    }

    -- inputs of two tags of a set, of which one is new, stand behind as many outages
    abbrev pub TagsAgree : Type 0
    TagsAgree = (a b t u : Lived) (j k : ℕ) → IsOf a all → IsOf b all → IsOf t more → IsOf u more → (t ≡ u0) ⊎ (u ≡ u0) → IsInput j a.event → IsInput k b.event
        → AreTogether p t.event u.event → IsOf j t.event.samples → IsOf k u.event.samples → a.offs ≡ b.offs

    pub timely_more : (IsUse u0.event.said → AreNew all u0.event.samples u0.offs) → TagsAgree → AreTimely p more
    timely_more uses tags = record {
      fresh = λ a u j ha hu i us s.
          let a' = was a j ha i in
          ⊎_elim (λ k. timely.fresh a u j a' k i us s) (λ e. by_new a u j a' i us s e) (of_more u u0 all hu);
      consistent = λ a b t u j k ha hb ht hu i i' g s s'.
          let a' = was a j ha i in
          let b' = was b k hb i' in
          ⊎_elim
          (λ t'. ⊎_elim (λ u'. timely.consistent a b t u j k a' b' t' u' i i' g s s') (λ e. tags a b t u j k a' b' ht hu (inr e) i i' g s s') (of_more u u0 all hu))
          (λ e. tags a b t u j k a' b' ht hu (inl e) i i' g s s')
          (of_more t u0 all ht);
    }
      where
        by_new : (a u : Lived) (j : ℕ) → IsOf a all → IsInput j a.event → IsUse u.event.said → IsOf j u.event.samples → u ≡ u0 → a.offs ≡ u.offs
        by_new a u j a' i us s e =
            uses (subst (λ x. IsUse x.event.said) e us) a j a' (subst (λ x. IsOf j x.event.samples) e s) i ∙ ap (λ x. x.offs) (sym e)

    -- an event of no set
    abbrev pub IsNoTag : Type 0
    IsNoTag = (n : ℕ) (k : ℕ × ℤ) → u0.event.said ≡ Showed (Tagged n) → set_of p n ≡ Some k → ⊥

    pub no_tags : IsNoTag → TagsAgree
    no_tags none a b t u j k ha hb ht hu (inl e) i i' g s s' = absurd (none g.one g.set (subst (λ x. x.event.said ≡ Showed (Tagged g.one)) e g.first) g.first_set)
    no_tags none a b t u j k ha hb ht hu (inr e) i i' g s s' = absurd (none g.other g.set (subst (λ x. x.event.said ≡ Showed (Tagged g.other)) e g.second) g.second_set)

    pub seen_more : IsNoTag → ((j : ℕ) → IsUse u0.event.said → IsOf j u0.event.samples → j < length table) → IsSeen p more table sets
    seen_more none below = record {
      uses = λ u j h us s.
          ⊎_elim (λ k. seen.uses u j k us s) (λ e. below j (subst (λ x. IsUse x.event.said) e us) (subst (λ x. IsOf j x.event.samples) e s)) (of_more u u0 all h);
      tags = λ u n k h d g. ⊎_elim (λ o. seen.tags u n k o d g) (λ e. absurd (none n k (subst (λ x. x.event.said ≡ Showed (Tagged n)) e d) g)) (of_more u u0 all h);
      each = λ k i x f m. aged k i.number x (seen.each k i x f m);
      one = seen.one;
    }
      where
        aged : (k : ℕ × ℤ) (number x : ℕ) → IsAged p all table k number x → IsAged p more table k number x
        aged k number x a = record {
          tag = a.tag;
          stmt = a.stmt;
          sample = a.sample;
          lives = of_left a.tag all (u0 ∷ []) a.lives;
          said = a.said;
          set = a.set;
          instance = a.instance;
          has = a.has;
          stands_at = a.stands_at;
        }

    -- a use of samples of this age
    module _ (uses_it : IsUse u0.event.said) (age : List ℕ) (c : ℕ) (at : u0.offs ≡ c) (is : HasAge table u0.event.samples age) where
      pub use_timely : is_new c age ≡ true → TagsAgree → AreTimely p more
      use_timely h tags = timely_more (λ us. subst (AreNew all u0.event.samples) (sym at) (tests_right.new all table u0.event.samples age c numbered is h)) tags

      pub use_late : is_new c age ≡ false → AreTimely p more → ⊥
      use_late h t =
          tests_right.old all table u0.event.samples age c numbered is h
          (λ a j ha s i. t.fresh a u0 j (of_left a all (u0 ∷ []) ha) (of_last u0 all) i uses_it s ∙ at)

      pub use_below : is_new c age ≡ true → (j : ℕ) → IsOf j u0.event.samples → j < length table
      use_below h j s = below age is h
        where
          below : (a : List ℕ) → HasAge table u0.event.samples a → is_new c a ≡ true → j < length table
          below [] is h = absurd (subst (IsOf j) (ages_tell.none (λ k. get_or table k 0) u0.event.samples (is (λ k. get_or table k 0) (λ k l. refl))) s)
          below (x ∷ []) is h = ages_tell.within table u0.event.samples x is j s
          below (x ∷ y ∷ w) is h = absurd (cc (h))

  -- ---- an input

  module _ (c : ℕ) (input : IsInput (length table) u0.event) (at : u0.offs ≡ c) where
    abbrev pub table' : List ℕ
    table' = table ++ c ∷ []

    only : (j : ℕ) → IsInput j u0.event → j ≡ length table
    only j i = let e : j ∷ [] ≡ length table ∷ [] = sym i.3 ∙ input.3 in cc (e)

    longer : (j : ℕ) → j < length table → j < length table'
    longer j l = let e : length table' ≡ suc (length table) = length-last table c in omega (arith, e, l)

    keeps : (j x : ℕ) → IsAt table j x → IsAt table' j x
    keeps j x h = (longer j h.0, get_first table (c ∷ []) j h.0 ∙ h.1)

    no_use : IsUse u0.event.said → ⊥
    no_use us = subst IsUse input.2 us

    no_tag : (n : ℕ) → u0.event.said ≡ Showed (Tagged n) → ⊥
    no_tag n e = let x : Sensed input.0 input.1 ≡ Showed (Tagged n) = sym input.2 ∙ e in absurd (cc (x))

    -- what isn't the input was there before
    old_use : (u : Lived) → IsOf u more → IsUse u.event.said → IsOf u all
    old_use u h us = ⊎_elim (λ k. k) (λ e. absurd (no_use (subst (λ x. IsUse x.event.said) e us))) (of_more u u0 all h)

    old_tag : (u : Lived) (n : ℕ) → IsOf u more → u.event.said ≡ Showed (Tagged n) → IsOf u all
    old_tag u n h s = ⊎_elim (λ k. k) (λ e. absurd (no_tag n (subst (λ x. x.event.said ≡ Showed (Tagged n)) e s))) (of_more u u0 all h)

    -- an input of an earlier sample was there before
    old_input : (a : Lived) (j : ℕ) → IsOf a more → IsInput j a.event → j < length table → IsOf a all
    old_input a j h i l =
        ⊎_elim (λ k. k) (λ e. let x : j ≡ length table = only j (subst (λ y. IsInput j y.event) e i) in absurd (omega (arith, x, l))) (of_more a u0 all h)

    pub input_numbered : AreNumbered more table'
    input_numbered = record {
      each = λ a j h i. ⊎_elim (λ k. let o = numbered.each a j k i in (longer j o.0, o.1 ∙ sym (get_first table (c ∷ []) j o.0))) (λ e. newest a j e i) (of_more a u0 all h);
      has = λ j l. among j l;
    }
      where
        newest : (a : Lived) (j : ℕ) → a ≡ u0 → IsInput j a.event → (j < length table') × (a.offs ≡ get_or table' j 0)
        newest a j e i =
            let x : j ≡ length table = only j (subst (λ y. IsInput j y.event) e i) in
            let n : length table' ≡ suc (length table) = length-last table c in
            (omega (arith, x, n), ap (λ y. y.offs) e ∙ at ∙ sym (get_last table c) ∙ ap (λ k. get_or table' k 0) (sym x))

        among : (j : ℕ) → j < length table' → (a : Lived) × IsOf a more × IsInput j a.event × (a.offs ≡ get_or table' j 0)
        among j l = by (nat_lt j (length table)) refl
          where
            by : (b : Bool) → nat_lt j (length table) ≡ b → (a : Lived) × IsOf a more × IsInput j a.event × (a.offs ≡ get_or table' j 0)
            by true e =
                let k : j < length table = ltb-true j (length table) e in
                let a = numbered.has j k in
                (a.0, of_left a.0 all (u0 ∷ []) a.1, a.2, a.3 ∙ sym (get_first table (c ∷ []) j k))
            by false e =
                let k : length table ≤ j = ltb-false j (length table) e in
                let n : length table' ≡ suc (length table) = length-last table c in
                let x : length table ≡ j = omega (arith, k, n, l) in
                (u0, of_last u0 all, subst (λ y. IsInput y u0.event) x input, at ∙ sym (get_last table c) ∙ ap (λ y. get_or table' y 0) x)

    pub input_timely : AreTimely p more
    input_timely = record {
      fresh = λ a u j ha hu i us s.
          let u' = old_use u hu us in
          timely.fresh a u j (old_input a j ha i (seen.uses u j u' us s)) u' i us s;
      consistent = λ a b t u j k ha hb ht hu i i' g s s'.
          let t' = old_tag t g.one ht g.first in
          let u' = old_tag u g.other hu g.second in
          let l = seen.tags t g.one g.set t' g.first g.first_set in
          let m = seen.tags u g.other g.set u' g.second g.second_set in
          timely.consistent a b t u j k (old_input a j ha i (l.2.below j s)) (old_input b k hb i' (m.2.below k s')) t' u' i i' g s s';
    }

    pub input_seen : IsSeen p more table' sets
    input_seen = record {
      uses = λ u j h us s. longer j (seen.uses u j (old_use u h us) us s);
      tags = λ u n k h d g.
          let o = seen.tags u n k (old_tag u n h d) d g in (
            o.0,
            o.1,
            record {
              number = o.2.number;
              below = λ j s. longer j (o.2.below j s);
              ages = λ e j s. let x = o.2.ages e j s in (x.0, x.1, keeps j x.0 x.2);
            },
          );
      each = λ k i x f m. aged k i.number x (seen.each k i x f m);
      one = seen.one;
    }
      where
        aged : (k : ℕ × ℤ) (number x : ℕ) → IsAged p all table k number x → IsAged p more table' k number x
        aged k number x a = record {
          tag = a.tag;
          stmt = a.stmt;
          sample = a.sample;
          lives = of_left a.tag all (u0 ∷ []) a.lives;
          said = a.said;
          set = a.set;
          instance = a.instance;
          has = a.has;
          stands_at = keeps a.sample x a.stands_at;
        }
