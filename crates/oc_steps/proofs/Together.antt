-- A tag of a consistent set more.
use Rattle.std.proofs.Common.{◌≡◌, ◌<◌, ◌≤◌, ℕ, ℤ, Bool, true, false, List, [], ◌∷◌, ◌++◌, length, get_or, Option, Some, None, refl, sym, ap, ◌∙◌, subst, inl, inr, ⊎_elim, arith}
use Rattle.std.proofs.lemmas.Bool.{and_parts}
use Rattle.std.proofs.Common.{nat_lt, ltb-true, ltb-false, eqb-true, eq-eqb}
use Rattle.std.specs.Prelude.{◌⊎◌, ◌==◌, ◌&&◌, find, if◌then◌else◌}
use Rattle.std.specs.Ordering.{int_eq}
use Rattle.std.proofs.lemmas.Bool.Decides.{Decides-int_eq}
use Rattle.oc_tree.specs.Tree.{TProgram}
use Rattle.oc_tree.specs.Members.{IsOf}
use Rattle.oc_tree.specs.declared.said.Said.TheVariants.{Showed}
use Rattle.oc_tree.specs.declared.said.Shown.TheVariants.{Tagged}
use Rattle.oc_meaning.specs.Store.{Event}
use Rattle.oc_honest.specs.Timely.{Lived, IsInput, IsUse, AreTogether, AreTimely, set_of}
use Rattle.oc_laws.proofs.Members.{of_left}
use Rattle.oc_steps.specs.Ages.{mixed, join_ages, age_of}
use Rattle.oc_steps.specs.AgesTell.{HasAge}
use Rattle.oc_steps.specs.Freshness.{AreNumbered}
use Rattle.oc_steps.specs.Fold.{Instance, is_one, is_set, is_later, falls_at, age_at, tag_age, put_instance, with_tag}
use Rattle.oc_steps.specs.Watching.{IsAt, IsLatest, IsAged, IsSeen}
use Rattle.oc_steps.proofs.AgesTell.{ages_tell, some}
use Rattle.oc_steps.proofs.Freshness.{tests_right}
use Rattle.oc_steps.proofs.Using.{of_last, of_more, TagsAgree, timely_more}

-- ---- ages

-- two ages of which the joined one is none or one number
join-left : (a b : List ℕ) (x : ℕ) → is_one (join_ages a b) ≡ true → IsOf x a → IsOf x (join_ages a b)
join-left [] b x o h = absurd h
join-left (y ∷ []) [] x o h = h
join-left (y ∷ []) (z ∷ []) x o h = by (y == z) o
  where
    by : (t : Bool) → is_one (if t then y ∷ [] else mixed) ≡ true → IsOf x (if t then y ∷ [] else mixed)
    by true o = h
    by false o = absurd (cc (o))
join-left (y ∷ []) (z ∷ w ∷ b) x o h = absurd (cc (o))
join-left (y ∷ w ∷ a) b x o h = absurd (cc (o))

join-right : (a b : List ℕ) (x : ℕ) → is_one (join_ages a b) ≡ true → IsOf x b → IsOf x (join_ages a b)
join-right [] b x o h = h
join-right (y ∷ []) [] x o h = absurd h
join-right (y ∷ []) (z ∷ []) x o h = by (y == z) refl o
  where
    by : (t : Bool) → (y == z) ≡ t → is_one (if t then y ∷ [] else mixed) ≡ true → IsOf x (if t then y ∷ [] else mixed)
    by true e o = subst (λ n. IsOf x (n ∷ [])) (sym (eqb-true y z e)) h
    by false e o = absurd (cc (o))
join-right (y ∷ []) (z ∷ w ∷ b) x o h = absurd (cc (o))
join-right (y ∷ w ∷ a) b x o h = absurd (cc (o))

join-either : (a b : List ℕ) (x : ℕ) → is_one (join_ages a b) ≡ true → IsOf x (join_ages a b) → IsOf x a ⊎ IsOf x b
join-either [] b x o h = inr h
join-either (y ∷ []) [] x o h = inl h
join-either (y ∷ []) (z ∷ []) x o h = inl (by (y == z) o h)
  where
    by : (t : Bool) → is_one (if t then y ∷ [] else mixed) ≡ true → IsOf x (if t then y ∷ [] else mixed) → IsOf x (y ∷ [])
    by true o h = h
    by false o h = absurd (cc (o))
join-either (y ∷ []) (z ∷ w ∷ b) x o h = absurd (cc (o))
join-either (y ∷ w ∷ a) b x o h = absurd (cc (o))

-- in an age of one number there is just that
same_age : (a : List ℕ) (x y : ℕ) → is_one a ≡ true → IsOf x a → IsOf y a → x ≡ y
same_age [] x y o h k = absurd h
same_age (z ∷ []) x y o (inl e) (inl d) = e ∙ sym d
same_age (z ∷ []) x y o (inr h) k = absurd h
same_age (z ∷ []) x y o (inl e) (inr k) = absurd k
same_age (z ∷ w ∷ a) x y o h k = absurd (cc (o))

-- a joined age of more: the second is, or the first, or both are one number and these differ
pub data Apart (a b : List ℕ) : Type 0 where
  second : is_one b ≡ false → Apart a b
  first : is_one a ≡ false → Apart a b
  both : (x y : ℕ) → a ≡ x ∷ [] → b ≡ y ∷ [] → (x ≡ y → ⊥) → Apart a b

apart : (a b : List ℕ) → is_one (join_ages a b) ≡ false → Apart a b
apart [] b o = second o
apart (x ∷ []) [] o = absurd (cc (o))
apart (x ∷ []) (y ∷ []) o = by (x == y) refl o
  where
    by : (t : Bool) → (x == y) ≡ t → is_one (if t then x ∷ [] else mixed) ≡ false → Apart (x ∷ []) (y ∷ [])
    by true e o = absurd (cc (o))
    by false e o = both x y refl refl (λ q. absurd (let no : true ≡ false = sym (eq-eqb x y q) ∙ e in cc (no)))
apart (x ∷ []) (y ∷ z ∷ w) o = second refl
apart (x ∷ y ∷ w) b o = first refl

-- ---- sets

set_is : (k : ℕ × ℤ) (i : Instance) → is_set k i ≡ true → i.set ≡ k
set_is k i e =
    let h = and_parts (i.set.0 == k.0) (int_eq i.set.1 k.1) e in
    let a : i.set.0 ≡ k.0 = eqb-true i.set.0 k.0 h.0 in
    let b : i.set.1 ≡ k.1 = (Decides-int_eq i.set.1 k.1).0 h.1 in
    ap (λ x. (x, i.set.1)) a ∙ ap (λ y. (k.0, y)) b

is_own : (k : ℕ × ℤ) (i : Instance) → i.set ≡ k → is_set k i ≡ true
is_own k i e =
    let own : is_set i.set i ≡ true = ap (λ b. b && int_eq i.set.1 i.set.1) (eq-eqb i.set.0 i.set.0 refl) ∙ (Decides-int_eq i.set.1 i.set.1).1 refl in
    subst (λ s. is_set s i ≡ true) e own

pub find_put : (k : ℕ × ℤ) (new : Instance) (is : List Instance) → new.set ≡ k → find (is_set k) (put_instance k new is) ≡ Some new
find_put k new [] e = ap (λ b. if b then Some new else None) (is_own k new e)
find_put k new (i ∷ is) e = by (is_set k i) refl (find_put k new is e)
  where
    by : (b : Bool) → is_set k i ≡ b → find (is_set k) (put_instance k new is) ≡ Some new → find (is_set k) (if b then new ∷ is else i ∷ put_instance k new is) ≡ Some new
    by true h ih = ap (λ b. if b then Some new else find (is_set k) is) (is_own k new e)
    by false h ih = ap (λ b. if b then Some i else find (is_set k) (put_instance k new is)) h ∙ ih

-- another set keeps its entry
pub find_other : (k j : ℕ × ℤ) (new : Instance) (is : List Instance) → new.set ≡ k → (j ≡ k → ⊥) → find (is_set j) (put_instance k new is) ≡ find (is_set j) is
find_other k j new is e d = go is
  where
    other : (i : Instance) → i.set ≡ k → is_set j i ≡ false
    other i h = by (is_set j i) refl
      where
        by : (b : Bool) → is_set j i ≡ b → b ≡ false
        by true g = absurd (d (sym (set_is j i g) ∙ h))
        by false g = refl

    go : (is : List Instance) → find (is_set j) (put_instance k new is) ≡ find (is_set j) is
    go [] = ap (λ b. if b then Some new else None) (other new e)
    go (i ∷ is) = by (is_set k i) refl (go is)
      where
        by : (b : Bool) → is_set k i ≡ b → find (is_set j) (put_instance k new is) ≡ find (is_set j) is → find (is_set j) (if b then new ∷ is else i ∷ put_instance k new is) ≡ find (is_set j) (i ∷ is)
        by true h ih =
            ap (λ b. if b then Some new else find (is_set j) is) (other new e) ∙ sym (ap (λ b. if b then Some i else find (is_set j) is) (other i (set_is k i h)))
        by false h ih = ap (λ o. if is_set j i then Some i else o) ih

-- one set or another
pub same_set : (j k : ℕ × ℤ) → (j ≡ k) ⊎ (j ≡ k → ⊥)
same_set j k = by (is_set k i) refl
  where
    i : Instance
    i = record { set = j; number = 0; age = [] }

    by : (b : Bool) → is_set k i ≡ b → (j ≡ k) ⊎ (j ≡ k → ⊥)
    by true e = inl (set_is k i e)
    by false e = inr (λ h. absurd (let no : true ≡ false = sym (is_own k i h) ∙ e in cc (no)))

-- ---- the tag

module _ (p : TProgram) (all : List Lived) (table : List ℕ) (sets : List Instance)
    (numbered : AreNumbered all table) (timely : AreTimely p all) (seen : IsSeen p all table sets) (u0 : Lived)
    (n : ℕ) (k : ℕ × ℤ) (said : u0.event.said ≡ Showed (Tagged n)) (set : set_of p n ≡ Some k)
    (e : Event) (age : HasAge table u0.event.samples e.samples) (instance : e.instance ≡ u0.event.instance) (rises : falls_at (Some k) e sets ≡ false) where
  abbrev all' : List Lived
  all' = all ++ u0 ∷ []

  silent : (j : ℕ) → IsInput j u0.event → ⊥
  silent j i = let x : Showed (Tagged n) ≡ Rattle.oc_tree.specs.declared.said.Said.TheVariants.Sensed i.0 i.1 = sym said ∙ i.2 in absurd (cc (x))

  abbrev joined : List ℕ
  joined = tag_age k e sets

  abbrev old : List ℕ
  old = age_at e.instance (find (is_set k) sets)

  -- a sample of the new tag
  of_new : is_one joined ≡ true → (j : ℕ) → IsOf j u0.event.samples → (x : ℕ) × IsOf x e.samples × IsAt table j x
  of_new o j s = by e.samples refl
    where
      by : (a : List ℕ) → e.samples ≡ a → (x : ℕ) × IsOf x e.samples × IsAt table j x
      by [] h = absurd (subst (IsOf j) (ages_tell.none (λ i. get_or table i 0) u0.event.samples (age (λ i. get_or table i 0) (λ i l. refl) ∙ h)) s)
      by (x ∷ []) h =
          let at : HasAge table u0.event.samples (x ∷ []) = λ before a. age before a ∙ h in (
            x,
            subst (IsOf x) (sym h) (inl refl),
            (
              ages_tell.within table u0.event.samples x at j s,
              ages_tell.each (λ i. get_or table i 0) u0.event.samples x
                  (at (λ i. get_or table i 0) (λ i l. refl)) j s,
            ),
          )
      by (x ∷ y ∷ w) h = absurd (mixes old (subst (λ a. is_one (join_ages old a) ≡ true) h o))
        where
          mixes : (b : List ℕ) → is_one (join_ages b (x ∷ y ∷ w)) ≡ true → ⊥
          mixes [] q = absurd (cc (q))
          mixes (z ∷ []) q = absurd (cc (q))
          mixes (z ∷ v ∷ b) q = absurd (cc (q))

  -- the last instance isn't later
  not_later : (i : Instance) → find (is_set k) sets ≡ Some i → i.number ≤ u0.event.instance
  not_later i f =
      let l : e.instance < i.number → ⊥ = λ q. absurd (let no : true ≡ false = sym (lt_true e.instance i.number q) ∙ (sym (ap (λ o. is_later o e.instance) f) ∙ rises) in cc (no)) in
      by (nat_lt e.instance i.number) refl l
    where
      lt_true : (a b : ℕ) → a < b → nat_lt a b ≡ true
      lt_true a b q = by (nat_lt a b) refl
        where
          by : (t : Bool) → nat_lt a b ≡ t → t ≡ true
          by true h = refl
          by false h = let r : b ≤ a = ltb-false a b h in absurd (omega (arith, q, r))

      by : (t : Bool) → nat_lt e.instance i.number ≡ t → (e.instance < i.number → ⊥) → i.number ≤ u0.event.instance
      by true h l = absurd (l (ltb-true e.instance i.number h))
      by false h l = subst (λ m. i.number ≤ m) instance (ltb-false e.instance i.number h)

  -- a sample of an older tag of this instance
  of_old : (t : Lived) (m : ℕ) → IsOf t all → t.event.said ≡ Showed (Tagged m) → set_of p m ≡ Some k → t.event.instance ≡ u0.event.instance
      → (j : ℕ) → IsOf j t.event.samples → (x : ℕ) × IsOf x old × IsAt table j x
  of_old t m h d g same j s =
      let l = seen.tags t m k h d g in
      let up : t.event.instance ≤ l.0.number = l.2.number in
      let down : l.0.number ≤ u0.event.instance = not_later l.0 l.1 in
      let num : t.event.instance ≡ l.0.number = omega (arith, up, down, same) in
      let x = l.2.ages num j s in
      let own : old ≡ l.0.age = ap (age_at e.instance) l.1 ∙ ap (λ b. if b then l.0.age else []) (eq-eqb l.0.number e.instance (sym num ∙ same ∙ sym instance)) in
      (x.0, subst (IsOf x.0) (sym own) x.1, x.2)

  -- a sample of any tag of this instance
  of_any : is_one joined ≡ true → (t : Lived) (m : ℕ) → IsOf t all' → t.event.said ≡ Showed (Tagged m) → set_of p m ≡ Some k → t.event.instance ≡ u0.event.instance
      → (j : ℕ) → IsOf j t.event.samples → (x : ℕ) × IsOf x joined × IsAt table j x
  of_any o t m h d g same j s =
      ⊎_elim
      (λ w. let x = of_old t m w d g same j s in (x.0, join-left old e.samples x.0 o x.1, x.2))
      (λ w. let x = of_new o j (subst (λ y. IsOf j y.event.samples) w s) in (x.0, join-right old e.samples x.0 o x.1, x.2))
      (of_more t u0 all h)

  tags_agree : is_one joined ≡ true → TagsAgree p all table sets numbered timely seen u0 silent
  tags_agree o a b t u j m ha hb ht hu new i i' g s s' =
      let both = of_set new in
      let x = of_any o t g.one ht g.first both.0 both.2 j s in
      let y = of_any o u g.other hu g.second both.1 both.3 m s' in
      (numbered.each a j ha i).1 ∙ x.2.1 ∙ same_age joined x.0 y.0 o x.1 y.1 ∙ sym y.2.1 ∙ sym (numbered.each b m hb i').1
    where
      -- both are of this set and this instance
      of_set : (t ≡ u0) ⊎ (u ≡ u0) → (set_of p g.one ≡ Some k) × (set_of p g.other ≡ Some k) × (t.event.instance ≡ u0.event.instance) × (u.event.instance ≡ u0.event.instance)
      of_set (inl q) =
          let tag : Showed (Tagged g.one) ≡ Showed (Tagged n) = sym (subst (λ y. y.event.said ≡ Showed (Tagged g.one)) q g.first) ∙ said in
          let one : g.one ≡ n = cc (tag) in
          let is : Some g.set ≡ Some k = sym g.first_set ∙ ap (set_of p) one ∙ set in
          let at : t.event.instance ≡ u0.event.instance = ap (λ y. y.event.instance) q in
          (g.first_set ∙ is, g.second_set ∙ is, at, sym g.instance ∙ at)
      of_set (inr q) =
          let tag : Showed (Tagged g.other) ≡ Showed (Tagged n) = sym (subst (λ y. y.event.said ≡ Showed (Tagged g.other)) q g.second) ∙ said in
          let one : g.other ≡ n = cc (tag) in
          let is : Some g.set ≡ Some k = sym g.second_set ∙ ap (set_of p) one ∙ set in
          let at : u.event.instance ≡ u0.event.instance = ap (λ y. y.event.instance) q in
          (g.first_set ∙ is, g.second_set ∙ is, g.instance ∙ at, at)

  no_use : IsUse u0.event.said → ⊥
  no_use us = subst IsUse said us

  pub tag_timely : is_one joined ≡ true → AreTimely p all'
  tag_timely o = timely_more p all table sets numbered timely seen u0 silent (λ us. absurd (no_use us)) (tags_agree o)

  abbrev new : Instance
  new = record { set = k; number = e.instance; age = joined }

  pub tag_seen : is_one joined ≡ true → IsSeen p all' table (with_tag (Some k) e sets)
  tag_seen o = record {
    uses = λ u j h us s. ⊎_elim (λ w. seen.uses u j w us s) (λ w. absurd (no_use (subst (λ y. IsUse y.event.said) w us))) (of_more u u0 all h);
    tags = tags;
    each = λ j i x f m. ⊎_elim (λ w. mine j i x w f m) (λ w. moved j i.number x (seen.each j i x (sym (find_other k j new sets refl w) ∙ f) m)) (same_set j k);
    one = λ j i f. ⊎_elim (λ w. ap (λ y. is_one y.age) (own j i w f) ∙ o) (λ w. seen.one j i (sym (find_other k j new sets refl w) ∙ f)) (same_set j k);
  }
    where
      own : (j : ℕ × ℤ) (i : Instance) → j ≡ k → find (is_set j) (put_instance k new sets) ≡ Some i → i ≡ new
      own j i w f =
          let x : Some i ≡ Some new = sym f ∙ ap (λ y. find (is_set y) (put_instance k new sets)) w ∙ find_put k new sets refl in
          cc (x)

      moved : (j : ℕ × ℤ) (number x : ℕ) → IsAged p all table j number x → IsAged p all' table j number x
      moved j number x a = record {
        tag = a.tag;
        stmt = a.stmt;
        sample = a.sample;
        lives = of_left a.tag all (u0 ∷ []) a.lives;
        said = a.said;
        set = a.set;
        instance = a.instance;
        has = a.has;
        stands_at = a.stands_at;
      }

      -- a tag of this set, in its new entry
      latest : (u : Lived) (m : ℕ) → IsOf u all' → u.event.said ≡ Showed (Tagged m) → set_of p m ≡ Some k → u.event.instance ≤ u0.event.instance
          → ((j : ℕ) → IsOf j u.event.samples → j < length table) → IsLatest table u.event new
      latest u m h d g up below = record {
        number = subst (λ x. u.event.instance ≤ x) (sym instance) up;
        below = below;
        ages = λ q j s. of_any o u m h d g (q ∙ instance) j s;
      }

      tags : (u : Lived) (m : ℕ) (j : ℕ × ℤ) → IsOf u all' → u.event.said ≡ Showed (Tagged m) → set_of p m ≡ Some j
          → (i : Instance) × (find (is_set j) (put_instance k new sets) ≡ Some i) × IsLatest table u.event i
      tags u m j h d g = ⊎_elim before now (of_more u u0 all h)
        where
          now : u ≡ u0 → (i : Instance) × (find (is_set j) (put_instance k new sets) ≡ Some i) × IsLatest table u.event i
          now w =
              let tag : Showed (Tagged m) ≡ Showed (Tagged n) = sym (subst (λ y. y.event.said ≡ Showed (Tagged m)) w d) ∙ said in
              let one : m ≡ n = cc (tag) in
              let is : Some j ≡ Some k = sym g ∙ ap (set_of p) one ∙ set in
              let jk : j ≡ k = cc (is) in
              let at : u.event.instance ≡ u0.event.instance = ap (λ y. y.event.instance) w in (
                new,
                ap (λ y. find (is_set y) (put_instance k new sets)) jk ∙ find_put k new sets refl,
                latest u m h d (g ∙ is) (omega (arith, at)) (λ i s. (of_new o i (subst (λ y. IsOf i y.event.samples) w s)).2.0),
              )

          before : IsOf u all → (i : Instance) × (find (is_set j) (put_instance k new sets) ≡ Some i) × IsLatest table u.event i
          before w =
              let l = seen.tags u m j w d g in
              ⊎_elim
              (λ jk.
              let f : find (is_set k) sets ≡ Some l.0 = ap (λ y. find (is_set y) sets) (sym jk) ∙ l.1 in
              let up : u.event.instance ≤ l.0.number = l.2.number in
              let down : l.0.number ≤ u0.event.instance = not_later l.0 f in
              (new, ap (λ y. find (is_set y) (put_instance k new sets)) jk ∙ find_put k new sets refl, latest u m h d (g ∙ ap (λ y. Some y) jk) (omega (arith, up, down)) l.2.below))
              (λ jk. (l.0, find_other k j new sets refl jk ∙ l.1, l.2))
              (same_set j k)

      -- what the new entry's age is of
      mine : (j : ℕ × ℤ) (i : Instance) (x : ℕ) → j ≡ k → find (is_set j) (put_instance k new sets) ≡ Some i → IsOf x i.age → IsAged p all' table j i.number x
      mine j i x w f m =
          let is : i ≡ new = own j i w f in
          let h : IsOf x joined = subst (λ y. IsOf x y.age) is m in
          let num : e.instance ≡ i.number = sym (ap (λ y. y.number) is) in
          subst (λ q. IsAged p all' table j q x) num
          (subst (λ y. IsAged p all' table y e.instance x) (sym w) (⊎_elim (from_old (find (is_set k) sets) refl) from_new (join-either old e.samples x o h)))
        where
          from_old : (q : Option Instance) → find (is_set k) sets ≡ q → IsOf x (age_at e.instance q) → IsAged p all' table k e.instance x
          from_old None f h = absurd h
          from_old (Some l) f h = by (l.number == e.instance) refl h
            where
              by : (b : Bool) → (l.number == e.instance) ≡ b → IsOf x (if b then l.age else []) → IsAged p all' table k e.instance x
              by true g h = subst (λ q. IsAged p all' table k q x) (eqb-true l.number e.instance g) (moved k l.number x (seen.each k l x f h))
              by false g h = absurd h

          from_new : IsOf x e.samples → IsAged p all' table k e.instance x
          from_new h = by e.samples refl h
            where
              by : (a : List ℕ) → e.samples ≡ a → IsOf x a → IsAged p all' table k e.instance x
              by [] g h = absurd h
              by (y ∷ []) g (inr h) = absurd h
              by (y ∷ []) g (inl h) =
                  let at : age_of (λ i. get_or table i 0) u0.event.samples ≡ y ∷ [] = age (λ i. get_or table i 0) (λ i l. refl) ∙ g in
                  let s = some (λ i. get_or table i 0) u0.event.samples y at in
                  let a = of_new o s.0 s.1 in
                  record {
                    tag = u0;
                    stmt = n;
                    sample = s.0;
                    lives = of_last u0 all;
                    said = said;
                    set = set;
                    instance = sym instance;
                    has = s.1;
                    stands_at = (a.2.0, s.2 ∙ sym h);
                  }
              by (y ∷ z ∷ v) g h = absurd (mixed_no old (subst (λ q. is_one (join_ages old q) ≡ true) g o))
                where
                  mixed_no : (b : List ℕ) → is_one (join_ages b (y ∷ z ∷ v)) ≡ true → ⊥
                  mixed_no [] q = absurd (cc (q))
                  mixed_no (c ∷ []) q = absurd (cc (q))
                  mixed_no (c ∷ d ∷ b) q = absurd (cc (q))

  -- two tags of this instance
  together : (t : Lived) (m : ℕ) → t.event.said ≡ Showed (Tagged m) → set_of p m ≡ Some k → t.event.instance ≡ u0.event.instance → AreTogether p t.event u0.event
  together t m d g same = record { one = m; other = n; first = d; second = said; set = k; first_set = g; second_set = set; instance = same }

  pub tag_apart : is_one joined ≡ false → AreTimely p all' → ⊥
  tag_apart o t = by (apart old e.samples o)
    where
      later : (a : Lived) → IsOf a all → IsOf a all'
      later a h = of_left a all (u0 ∷ []) h

      first_part : (q : Option Instance) → find (is_set k) sets ≡ q → is_one (age_at e.instance q) ≡ false → ⊥
      first_part None f h = absurd (cc (h))
      first_part (Some l) f h = test (l.number == e.instance) h
        where
          test : (b : Bool) → is_one (if b then l.age else []) ≡ false → ⊥
          test true h = absurd (let no : true ≡ false = sym (seen.one k l f) ∙ h in cc (no))
          test false h = absurd (cc (h))

      two : (q : Option Instance) → find (is_set k) sets ≡ q → (x y : ℕ) → age_at e.instance q ≡ x ∷ [] → e.samples ≡ y ∷ [] → (x ≡ y → ⊥) → ⊥
      two None f x y a b d = absurd (cc (a))
      two (Some l) f x y a b d = test (l.number == e.instance) refl a
        where
          test : (c : Bool) → (l.number == e.instance) ≡ c → (if c then l.age else []) ≡ x ∷ [] → ⊥
          test false g a = absurd (cc (a))
          test true g a =
              let w = seen.each k l x f (subst (IsOf x) (sym a) (inl refl)) in
              let at : HasAge table u0.event.samples (y ∷ []) = λ before h. age before h ∙ b in
              let s = some (λ i. get_or table i 0) u0.event.samples y (at (λ i. get_or table i 0) (λ i q. refl)) in
              let i = numbered.has w.sample w.stands_at.0 in
              let j = numbered.has s.0 (ages_tell.within table u0.event.samples y at s.0 s.1) in
              let same : w.tag.event.instance ≡ u0.event.instance = w.instance ∙ eqb-true l.number e.instance g ∙ instance in
              let offs : i.0.offs ≡ j.0.offs =
              t.consistent i.0 j.0 w.tag u0 w.sample s.0 (later i.0 i.1) (later j.0 j.1) (later w.tag w.lives) (of_last u0 all) i.2 j.2 (together w.tag w.stmt w.said w.set same) w.has s.1 in
              d (sym w.stands_at.1 ∙ sym i.3 ∙ offs ∙ j.3 ∙ s.2)

      by : Apart old e.samples → ⊥
      by (second h) =
          tests_right.more all table u0.event.samples e.samples numbered age h
          (λ a b j i ha hb s s' x y. t.consistent a b u0 u0 j i (later a ha) (later b hb) (of_last u0 all) (of_last u0 all) x y (together u0 n said set refl) s s')
      by (first h) = first_part (find (is_set k) sets) refl h
      by (both x y a b d) = two (find (is_set k) sets) refl x y a b d
