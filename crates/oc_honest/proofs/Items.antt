-- What is held together is timely with outages outside of regions.
use Rattle.std.proofs.Common.{◌≡◌, ℕ, suc, ◌≤◌, ◌<◌, inl, inr, Bool, true, false, List, [], ◌∷◌, ◌++◌, map, Option, Some, refl, sym, ap, ◌∙◌, subst, arith}
use Rattle.std.specs.Prelude.{if◌then◌else◌}
use Rattle.oc_tree.specs.Tree.{TProgram}
use Rattle.oc_tree.specs.Said.{Told}
use Rattle.oc_tree.specs.declared.said.Said.{Said}
use Rattle.oc_tree.specs.declared.said.Said.TheVariants.{Sensed, Showed, Entered, Committed, Aborted, Off, Dark, Ended}
use Rattle.oc_meaning.specs.Store.{Event}
use Rattle.oc_meaning.specs.Unmarked.{is_mark, unmarked}
use Rattle.oc_items.specs.Erase.{without_off, without_offs, MayStand, IsOutside, inside_after, HasNoOffInside}
use Rattle.oc_honest.specs.Timely.{Lived, lives, lived_from, IsInput, IsUse, AreTogether, AreTimely}
use Rattle.oc_tree.specs.Members.{IsOf}
use Rattle.oc_honest.specs.Held.{Ran, within, ran_more, ran_from, ran, AreHeld, HeldIsTimely}

-- an event with its execution and its outages
record Both : Type 0 where
  execution : Option ℕ
  offs : ℕ
  event : Event

abbrev both_more : Said → Bool → (k n : ℕ) → Event → (Bool → ℕ → List Both) → List Both
both_more (Entered r) inside k n e later = later true (suc k)
both_more (Committed r) inside k n e later = later false k
both_more s inside k n e later = record { execution = within inside k; offs = n; event = e } ∷ later inside k

abbrev both_event : Bool → (k n : ℕ) → List Event → (Bool → ℕ → List Event → List Both) → List Both
both_event inside k n [] later = []
both_event inside k n (e ∷ es) later = both_more e.said inside k n e (λ o m. later o m es)

-- items with the events of a marked run
abbrev both_step : Said → Bool → (k n : ℕ) → List Event → (Bool → ℕ → ℕ → List Event → List Both) → List Both
both_step (Off t) inside k n es later = later inside k (suc n) es
both_step Dark inside k n es later = later inside k n es
both_step s inside k n es later = both_event inside k n es (λ o m fs. later o m n fs)

abbrev both_from : Bool → (k n : ℕ) → List Told → List Event → List Both
both_from inside k n [] es = []
both_from inside k n (i ∷ is) es = both_step i.said inside k n es (λ o m l fs. both_from o m l is fs)

-- what is left of the items begins what the events say
abbrev Aligned : List Told → List Event → Type 0
Aligned is es = (rest : List Said) × (without_offs is ++ rest ≡ map (λ (e : Event). e.said) es)

-- an event whose item stands among them
record Found (a : Lived) (all : List Both) : Type 0 where
  both : Both
  one : IsOf both all
  same_offs : both.offs ≡ a.offs
  same_event : both.event ≡ a.event

record Placed (b : Both) (all : List Ran) : Type 0 where
  one : Ran
  stands : IsOf one all
  same_execution : one.execution ≡ b.execution
  same_event : one.event ≡ b.event

found_behind : (a : Lived) (x : Both) (xs : List Both) → Found a xs → Found a (x ∷ xs)
found_behind a x xs f = record { both = f.both; one = inr f.one; same_offs = f.same_offs; same_event = f.same_event }

placed_behind : (b : Both) (x : Ran) (xs : List Ran) → Placed b xs → Placed b (x ∷ xs)
placed_behind b x xs f = record { one = f.one; stands = inr f.stands; same_execution = f.same_execution; same_event = f.same_event }

-- the head of what is said, and what follows
heads : (s d : Said) (xs ys : List Said) → s ∷ xs ≡ d ∷ ys → (d ≡ s) × (xs ≡ ys)
heads s d xs ys e = (cc, cc)

-- ---- each event whose item is there stands among both

module _ (a : Lived) (is : List Told) where
  -- from here on
  abbrev Rest : Type 0
  Rest = (inside : Bool) (k n : ℕ) (es : List Event) → Aligned is es → IsOf a (lived_from n is (unmarked es)) → Found a (both_from inside k n is es)

  abbrev At : (s d : Said) → Bool → (k n : ℕ) → Event → List Event → Type 0
  At s d inside k n e es =
      IsOf a (lives s n (if is_mark d then unmarked es else e ∷ unmarked es) (λ m fs. lived_from m is fs)) →
      Found a (both_more d inside k n e (λ o m. both_from o m n is es))

  told : Rest → (s : Said) → ((t : ℕ) → s ≡ Off t → ⊥) → (s ≡ Dark → ⊥) → (inside : Bool) (k n : ℕ) (e : Event) (es : List Event) → Aligned is es → At s s inside k n e es
  told rest (Entered r) x y inside k n e es al h = rest true (suc k) n es al h
  told rest (Committed r) x y inside k n e es al h = rest false k n es al h
  told rest (Off t) x y inside k n e es al h = absurd (x t refl)
  told rest Dark x y inside k n e es al h = absurd (y refl)
  told rest s x y inside k n e es al (inl q) =
      record { both = record { execution = within inside k; offs = n; event = e }; one = inl refl; same_offs = ap (λ (l : Lived). l.offs) (sym q); same_event = ap (λ (l : Lived). l.event) (sym q) }
  told rest s x y inside k n e es al (inr q) = found_behind a _ _ (rest inside k n es al q)

  -- the next event is what the item tells
  met : Rest → (s : Said) → ((t : ℕ) → s ≡ Off t → ⊥) → (s ≡ Dark → ⊥) → (d : Said) → d ≡ s → (inside : Bool) (k n : ℕ) (e : Event) (es : List Event) → Aligned is es → At s d inside k n e es
  met rest s x y d same inside k n e es al = subst (λ q. At s q inside k n e es) (sym same) (told rest s x y inside k n e es al)

  -- no item of the source comes where no event does
  some_event : Rest → (s : Said) → ((t : ℕ) → s ≡ Off t → ⊥) → (s ≡ Dark → ⊥) → (inside : Bool) (k n : ℕ) (es : List Event) (more : List Said) →
      s ∷ (without_offs is ++ more) ≡ map (λ (e : Event). e.said) es → IsOf a (lives s n (unmarked es) (λ m fs. lived_from m is fs)) →
      Found a (both_event inside k n es (λ o m fs. both_from o m n is fs))
  some_event rest s x y inside k n [] more al h = absurd (cc)
  some_event rest s x y inside k n (e ∷ es) more al h =
      let parts = heads s e.said (without_offs is ++ more) (map (λ (d : Event). d.said) es) al in
      met rest s x y e.said parts.0 inside k n e es (more, parts.1) h

  step : Rest → (s : Said) → (inside : Bool) (k n : ℕ) (es : List Event) (more : List Said) → without_off s (without_offs is) ++ more ≡ map (λ (e : Event). e.said) es →
      IsOf a (lives s n (unmarked es) (λ m fs. lived_from m is fs)) → Found a (both_step s inside k n es (λ o m l fs. both_from o m l is fs))
  step rest (Off t) inside k n es more al h = rest inside k (suc n) es (more, al) h
  step rest Dark inside k n es more al h = rest inside k n es (more, al) h
  step rest (Sensed s z) inside k n es more al h = some_event rest (Sensed s z) (λ t q. absurd (cc)) (λ q. absurd (cc)) inside k n es more al h
  step rest (Showed w) inside k n es more al h = some_event rest (Showed w) (λ t q. absurd (cc)) (λ q. absurd (cc)) inside k n es more al h
  step rest (Entered r) inside k n es more al h = some_event rest (Entered r) (λ t q. absurd (cc)) (λ q. absurd (cc)) inside k n es more al h
  step rest (Committed r) inside k n es more al h = some_event rest (Committed r) (λ t q. absurd (cc)) (λ q. absurd (cc)) inside k n es more al h
  step rest (Aborted r) inside k n es more al h = some_event rest (Aborted r) (λ t q. absurd (cc)) (λ q. absurd (cc)) inside k n es more al h
  step rest (Ended w) inside k n es more al h = some_event rest (Ended w) (λ t q. absurd (cc)) (λ q. absurd (cc)) inside k n es more al h

found_from : (a : Lived) (is : List Told) (inside : Bool) (k n : ℕ) (es : List Event) → Aligned is es → IsOf a (lived_from n is (unmarked es)) → Found a (both_from inside k n is es)
found_from a [] inside k n es al h = absurd h
found_from a (i ∷ is) inside k n es al h = step a is (λ o l m fs bl g. found_from a is o l m fs bl g) i.said inside k n es al.0 al.1 h

-- ---- each of both lies in its execution

module _ (b : Both) (is : List Told) where
  abbrev Rests : Type 0
  Rests = (inside : Bool) (k n : ℕ) (es : List Event) → IsOf b (both_from inside k n is es) → Placed b (ran_from inside k es)

  placed_more : Rests → (d : Said) (inside : Bool) (k n : ℕ) (e : Event) (es : List Event) → IsOf b (both_more d inside k n e (λ o m. both_from o m n is es)) →
      Placed b (ran_more d inside k e (λ o m. ran_from o m es))
  placed_more rest (Entered r) inside k n e es h = rest true (suc k) n es h
  placed_more rest (Committed r) inside k n e es h = rest false k n es h
  placed_more rest d inside k n e es (inl q) =
      record { one = record { execution = within inside k; event = e }; stands = inl refl; same_execution = ap (λ (l : Both). l.execution) (sym q); same_event = ap (λ (l : Both). l.event) (sym q) }
  placed_more rest d inside k n e es (inr q) = placed_behind b _ _ (rest inside k n es q)

  placed_event : Rests → (inside : Bool) (k n : ℕ) (es : List Event) → IsOf b (both_event inside k n es (λ o m fs. both_from o m n is fs)) → Placed b (ran_from inside k es)
  placed_event rest inside k n [] h = absurd h
  placed_event rest inside k n (e ∷ es) h = placed_more rest e.said inside k n e es h

  placed_step : Rests → (s : Said) (inside : Bool) (k n : ℕ) (es : List Event) → IsOf b (both_step s inside k n es (λ o m l fs. both_from o m l is fs)) → Placed b (ran_from inside k es)
  placed_step rest (Off t) inside k n es h = rest inside k (suc n) es h
  placed_step rest Dark inside k n es h = rest inside k n es h
  placed_step rest s inside k n es h = placed_event rest inside k n es h

placed_from : (b : Both) (is : List Told) (inside : Bool) (k n : ℕ) (es : List Event) → IsOf b (both_from inside k n is es) → Placed b (ran_from inside k es)
placed_from b [] inside k n es h = absurd h
placed_from b (i ∷ is) inside k n es h = placed_step b is (λ o l m fs g. placed_from b is o l m fs g) i.said inside k n es h

-- ---- in one execution stand as many outages before each

-- an execution that isn't over, with so many outages before what lies in it
abbrev Later : Bool → (k n x m : ℕ) → Type 0
Later true k n x m = (k ≤ x) × (x ≡ k → m ≡ n)
Later false k n x m = k < x

entered_later : (inside : Bool) (k n x m : ℕ) → Later true (suc k) n x m → Later inside k n x m
entered_later true k n x m h = (omega (arith, h.0), λ e. absurd (omega (arith, h.0, e)))
entered_later false k n x m h = omega (arith, h.0)

committed_later : (inside : Bool) (k n x m : ℕ) → Later false k n x m → Later inside k n x m
committed_later true k n x m h = (omega (arith, h), λ e. absurd (omega (arith, h, e)))
committed_later false k n x m h = h

some_is : (x k : ℕ) → Some k ≡ Some x → x ≡ k
some_is x k e = cc

here_later : (inside : Bool) (k n x : ℕ) → within inside k ≡ Some x → Later inside k n x n
here_later true k n x e = let s = some_is x k e in (omega (arith, s), λ q. refl)
here_later false k n x e = absurd (cc)

here_same : (inside : Bool) (k n x m : ℕ) → within inside k ≡ Some x → Later inside k n x m → m ≡ n
here_same true k n x m e h = h.1 (some_is x k e)
here_same false k n x m e h = absurd (cc)

record Kept (b c : Both) (x : ℕ) (inside : Bool) (k n : ℕ) (all : List Both) : Type 0 where
  first : IsOf b all → Later inside k n x b.offs
  second : IsOf c all → Later inside k n x c.offs
  same : IsOf b all → IsOf c all → b.offs ≡ c.offs

module _ (b c : Both) (x : ℕ) (bs : b.execution ≡ Some x) (cs : c.execution ≡ Some x) (is : List Told) where
  abbrev Keeps : Type 0
  Keeps = (inside : Bool) (k n : ℕ) (es : List Event) → Aligned is es → HasNoOffInside inside is → Kept b c x inside k n (both_from inside k n is es)

  one_more : (inside : Bool) (k n : ℕ) (e : Event) (all : List Both) → Kept b c x inside k n all → Kept b c x inside k n (record { execution = within inside k; offs = n; event = e } ∷ all)
  one_more inside k n e all h = record { first = f; second = g; same = s }
    where
      new : Both
      new = record { execution = within inside k; offs = n; event = e }

      is_within : (d : Both) → d ≡ new → d.execution ≡ Some x → within inside k ≡ Some x
      is_within d q r = ap (λ (l : Both). l.execution) (sym q) ∙ r

      offs_are : (d : Both) → d ≡ new → d.offs ≡ n
      offs_are d q = ap (λ (l : Both). l.offs) q

      f : IsOf b (new ∷ all) → Later inside k n x b.offs
      f (inl q) = subst (Later inside k n x) (sym (offs_are b q)) (here_later inside k n x (is_within b q bs))
      f (inr q) = h.first q

      g : IsOf c (new ∷ all) → Later inside k n x c.offs
      g (inl q) = subst (Later inside k n x) (sym (offs_are c q)) (here_later inside k n x (is_within c q cs))
      g (inr q) = h.second q

      s : IsOf b (new ∷ all) → IsOf c (new ∷ all) → b.offs ≡ c.offs
      s (inl q) (inl r) = offs_are b q ∙ sym (offs_are c r)
      s (inl q) (inr r) = offs_are b q ∙ sym (here_same inside k n x c.offs (is_within b q bs) (h.second r))
      s (inr q) (inl r) = here_same inside k n x b.offs (is_within c r cs) (h.first q) ∙ sym (offs_are c r)
      s (inr q) (inr r) = h.same q r

  kept_on : (inside outer : Bool) (k l n : ℕ) (all : List Both) → ((m : ℕ) → Later inside l n x m → Later outer k n x m) → Kept b c x inside l n all → Kept b c x outer k n all
  kept_on inside outer k l n all f h = record { first = λ q. f b.offs (h.first q); second = λ q. f c.offs (h.second q); same = h.same }

  abbrev KeptAt : (s d : Said) → Bool → (k n : ℕ) → Event → List Event → Type 0
  KeptAt s d inside k n e es = HasNoOffInside (inside_after inside s) is → Kept b c x inside k n (both_more d inside k n e (λ o m. both_from o m n is es))

  kept_told : Keeps → (s : Said) (inside : Bool) (k n : ℕ) (e : Event) (es : List Event) → Aligned is es → KeptAt s s inside k n e es
  kept_told rest (Entered r) inside k n e es al o = kept_on true inside k (suc k) n _ (λ m. entered_later inside k n x m) (rest true (suc k) n es al o)
  kept_told rest (Committed r) inside k n e es al o = kept_on false inside k k n _ (λ m. committed_later inside k n x m) (rest false k n es al o)
  kept_told rest s inside k n e es al o = one_more inside k n e _ (rest inside k n es al o)

  kept_event : Keeps → (s : Said) (inside : Bool) (k n : ℕ) (es : List Event) (more : List Said) → s ∷ (without_offs is ++ more) ≡ map (λ (e : Event). e.said) es →
      HasNoOffInside (inside_after inside s) is → Kept b c x inside k n (both_event inside k n es (λ o m fs. both_from o m n is fs))
  kept_event rest s inside k n [] more al o = absurd (cc)
  kept_event rest s inside k n (e ∷ es) more al o =
      let parts = heads s e.said (without_offs is ++ more) (map (λ (d : Event). d.said) es) al in
      subst (λ d. KeptAt s d inside k n e es) (sym parts.0) (kept_told rest s inside k n e es (more, parts.1)) o

  off_outside : (inside : Bool) (k n m : ℕ) → IsOutside inside → Later inside k (suc n) x m → Later inside k n x m
  off_outside true k n m o h = absurd o
  off_outside false k n m o h = h

  off_kept : (inside : Bool) (k n : ℕ) (all : List Both) → IsOutside inside → Kept b c x inside k (suc n) all → Kept b c x inside k n all
  off_kept inside k n all o h = record { first = λ q. off_outside inside k n b.offs o (h.first q); second = λ q. off_outside inside k n c.offs o (h.second q); same = h.same }

  kept_step : Keeps → (s : Said) (inside : Bool) (k n : ℕ) (es : List Event) (more : List Said) → without_off s (without_offs is) ++ more ≡ map (λ (e : Event). e.said) es → MayStand inside s →
      HasNoOffInside (inside_after inside s) is → Kept b c x inside k n (both_step s inside k n es (λ o m l fs. both_from o m l is fs))
  kept_step rest (Off t) inside k n es more al may o = off_kept inside k n _ may (rest inside k (suc n) es (more, al) o)
  kept_step rest Dark inside k n es more al may o = rest inside k n es (more, al) o
  kept_step rest (Sensed s z) inside k n es more al may o = kept_event rest (Sensed s z) inside k n es more al o
  kept_step rest (Showed w) inside k n es more al may o = kept_event rest (Showed w) inside k n es more al o
  kept_step rest (Entered r) inside k n es more al may o = kept_event rest (Entered r) inside k n es more al o
  kept_step rest (Committed r) inside k n es more al may o = kept_event rest (Committed r) inside k n es more al o
  kept_step rest (Aborted r) inside k n es more al may o = kept_event rest (Aborted r) inside k n es more al o
  kept_step rest (Ended w) inside k n es more al may o = kept_event rest (Ended w) inside k n es more al o

kept_from : (b c : Both) (x : ℕ) (bs : b.execution ≡ Some x) (cs : c.execution ≡ Some x) (is : List Told) (inside : Bool) (k n : ℕ) (es : List Event) → Aligned is es → HasNoOffInside inside is →
    Kept b c x inside k n (both_from inside k n is es)
kept_from b c x bs cs [] inside k n es al o = record { first = λ q. absurd q; second = λ q. absurd q; same = λ q r. absurd q }
kept_from b c x bs cs (i ∷ is) inside k n es al o = kept_step b c x bs cs is (λ d l m fs bl g. kept_from b c x bs cs is d l m fs bl g) i.said inside k n es al.0 al.1 o.0 o.1

-- ---- the law

-- what is held together is timely
held_timely : (p : TProgram) (items : List Told) (es : List Event) → Aligned items es → HasNoOffInside false items → AreHeld p (ran es) → AreTimely p (lived_from 0 items (unmarked es))
held_timely p items es al o held = record {
  fresh = λ a u j ia iu input end of.
      let fa = found a ia in let fu = found u iu in
      let pa = placed fa.both fa.one in let pu = placed fu.both fu.one in
      let ea : pa.one.event ≡ a.event = pa.same_event ∙ fa.same_event in
      let eu : pu.one.event ≡ u.event = pu.same_event ∙ fu.same_event in
      let r = held.fresh pa.one pu.one j pa.stands pu.stands (subst (IsInput j) (sym ea) input) (subst (λ (d : Event). IsUse d.said) (sym eu) end)
      (subst (λ (d : Event). IsOf j d.samples) (sym eu) of) in
      sym fa.same_offs ∙ same fa.both fu.both r.0 fa.one fu.one (sym pa.same_execution ∙ r.1) (sym pu.same_execution ∙ r.2) ∙ fu.same_offs;
  consistent = λ a b t u j k ia ib it iu input other together of also.
      let fa = found a ia in let fb = found b ib in let ft = found t it in let fu = found u iu in
      let pa = placed fa.both fa.one in let pb = placed fb.both fb.one in let pt = placed ft.both ft.one in let pu = placed fu.both fu.one in
      let ea : pa.one.event ≡ a.event = pa.same_event ∙ fa.same_event in
      let eb : pb.one.event ≡ b.event = pb.same_event ∙ fb.same_event in
      let et : pt.one.event ≡ t.event = pt.same_event ∙ ft.same_event in
      let eu : pu.one.event ≡ u.event = pu.same_event ∙ fu.same_event in
      let r = held.consistent pa.one pb.one pt.one pu.one j k pa.stands pb.stands pt.stands pu.stands (subst (IsInput j) (sym ea) input) (subst (IsInput k) (sym eb) other)
      (subst (λ (d : Event). AreTogether p d pu.one.event) (sym et) (subst (λ (d : Event). AreTogether p t.event d) (sym eu) together))
      (subst (λ (d : Event). IsOf j d.samples) (sym et) of) (subst (λ (d : Event). IsOf k d.samples) (sym eu) also) in
      sym fa.same_offs ∙ same fa.both fb.both r.0 fa.one fb.one (sym pa.same_execution ∙ r.1) (sym pb.same_execution ∙ r.2) ∙ fb.same_offs;
}
  where
    found : (a : Lived) → IsOf a (lived_from 0 items (unmarked es)) → Found a (both_from false 0 0 items es)
    found a h = found_from a items false 0 0 es al h

    placed : (b : Both) → IsOf b (both_from false 0 0 items es) → Placed b (ran es)
    placed b h = placed_from b items false 0 0 es h

    same : (b c : Both) (x : ℕ) → IsOf b (both_from false 0 0 items es) → IsOf c (both_from false 0 0 items es) → b.execution ≡ Some x → c.execution ≡ Some x → b.offs ≡ c.offs
    same b c x hb hc bs cs = (kept_from b c x bs cs items false 0 0 es al o).same hb hc

pub held_is_timely : HeldIsTimely
held_is_timely p es items tells held = held_timely p items es (tells.rest, tells.is) tells.outside held
