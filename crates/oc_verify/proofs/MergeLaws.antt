-- One call more.
use Rattle.std.proofs.Common.{◌≡◌, ℕ, suc, ◌<◌, ◌≤◌, List, [], ◌∷◌, length, Option, Some, None, refl, sym, ap, ◌∙◌, subst, ⊎_elim, inl, inr, arith, Bool, true, false, min, nat_le, ◌≢◌}
use Rattle.std.specs.Prelude.{◌⊎◌}
use Rattle.std.proofs.lemmas.Bool.Decides.{eqb_tells}
use Rattle.oc_verify.specs.declared.kind.Kind.{Kind}
use Rattle.oc_verify.specs.declared.kind.Kind.TheVariants.{Number, Place}
use Rattle.oc_verify.specs.Typing.{Suits, SuitAll, level}
use Rattle.oc_verify.proofs.Cells.{level_below, level_short}
use Rattle.oc_verify.specs.Merging.{least, joined, leasts, AreLeast}

suits_then : (a b c : Kind) → Suits a b → Suits b c → Suits a c
suits_then Number Number Number x y = tt
suits_then Number Number (Place m) x y = y
suits_then Number (Place n) c x y = absurd x
suits_then (Place n) Number c x y = absurd x
suits_then (Place n) (Place m) Number x y = y
suits_then (Place n) (Place m) (Place l) x y = omega (arith, x, y)

pub all_then : (as' bs cs : List Kind) → SuitAll as' bs → SuitAll bs cs → SuitAll as' cs
all_then [] [] cs x y = y
all_then [] (b ∷ bs) cs x y = absurd x
all_then (a ∷ as') [] cs x y = absurd x
all_then (a ∷ as') (b ∷ bs) [] x y = y
all_then (a ∷ as') (b ∷ bs) (c ∷ cs) x y = (suits_then a b c x.0 y.0, all_then as' bs cs x.1 y.1)

one_least : (a b k : Kind) → least a b ≡ Some k → (Suits a k × Suits b k) × ((k ≡ a) ⊎ (k ≡ b))
one_least Number Number k e = let q : Number ≡ k = (cc) in (subst (λ x. Suits Number x × Suits Number x) q (tt, tt), inl (sym q))
one_least Number (Place m) k e = absurd (cc)
one_least (Place n) Number k e = absurd (cc)
one_least (Place n) (Place m) k e =
    let q : Place (min n m) ≡ k = (cc) in (
      subst (λ x. Suits (Place n) x × Suits (Place m) x) q (omega arith, omega arith),
      ⊎_elim (λ h. inl (sym q ∙ ap Place h)) (λ h. inr (sym q ∙ ap Place h)) (which n m),
    )
  where
    which : (n m : ℕ) → (min n m ≡ n) ⊎ (min n m ≡ m)
    which n m = ⊎_elim
        (λ h. inl h.1)
        (λ h. inr (let a : min n m ≤ n = omega arith in other n m h.1))
        (eqb_tells (min n m) n)
      where
        other : (n m : ℕ) → (min n m ≡ n → ⊥) → min n m ≡ m
        other n m h = by_le (nat_le n m) refl
          where
            by_le : (b : Bool) → nat_le n m ≡ b → min n m ≡ m
            by_le true e = absurd (h (let l : n ≤ m = grind (arith, e) in omega (arith, l)))
            by_le false e = let l : m < n = grind (arith, e) in omega (arith, l)

join_inv : (k : Option Kind) (ks : Option (List Kind)) (qs : List Kind) → joined k ks ≡ Some qs → (q : Kind) × (rest : List Kind) × (k ≡ Some q) × (ks ≡ Some rest) × (qs ≡ q ∷ rest)
join_inv None ks qs e = absurd (cc)
join_inv (Some q) None qs e = absurd (cc)
join_inv (Some q) (Some rest) qs e = let z : q ∷ rest ≡ qs = (cc) in (q, rest, refl, refl, sym z)

sized : (as' bs ks : List Kind) → length as' ≡ length bs → leasts as' bs ≡ Some ks → length ks ≡ length as'
sized [] bs ks h e = let q : [] ≡ ks = (cc) in ap length (sym q)
sized (a ∷ as') [] ks h e = absurd (omega (arith, h))
sized (a ∷ as') (b ∷ bs) ks h e = let r = join_inv (least a b) (leasts as' bs) ks e in ap length r.4 ∙ ap suc (sized as' bs r.1 (omega (arith, h)) r.3)

-- both suit the least
pub suit_both : (as' bs ks : List Kind) → length as' ≡ length bs → leasts as' bs ≡ Some ks → SuitAll as' ks × SuitAll bs ks
suit_both [] [] ks h e = let q : [] ≡ ks = (cc) in subst (λ l. SuitAll [] l × SuitAll [] l) q (tt, tt)
suit_both [] (b ∷ bs) ks h e = absurd (omega (arith, h))
suit_both (a ∷ as') [] ks h e = absurd (omega (arith, h))
suit_both (a ∷ as') (b ∷ bs) ks h e =
    let r = join_inv (least a b) (leasts as' bs) ks e in
    let u = (one_least a b r.0 r.2).0 in
    let v = suit_both as' bs r.1 (omega (arith, h)) r.3 in
    subst (λ l. SuitAll (a ∷ as') l × SuitAll (b ∷ bs) l) (sym r.4) ((u.0, v.0), (u.1, v.1))

-- each is one of both
pub one_of_both : (as' bs ks : List Kind) → length as' ≡ length bs → leasts as' bs ≡ Some ks → (j : ℕ) (k : Kind) → level ks j ≡ Some k → (level as' j ≡ Some k) ⊎ (level bs j ≡ Some k)
one_of_both [] bs ks h e j k f = let q : [] ≡ ks = (cc) in let z : None ≡ Some k = ap (λ l. level l j) q ∙ f in absurd (cc)
one_of_both (a ∷ as') [] ks h e j k f = absurd (omega (arith, h))
one_of_both (a ∷ as') (b ∷ bs) ks h e j k f =
    let r = join_inv (least a b) (leasts as' bs) ks e in
    let n : length as' ≡ length bs = omega (arith, h) in
    let m : length r.1 ≡ length as' = sized as' bs r.1 n r.3 in
    let g : level (r.0 ∷ r.1) j ≡ Some k = ap (λ l. level l j) (sym r.4) ∙ f in
    ⊎_elim
    (λ q. let z : r.0 ≡ k = grind (arith, q.1, m, g) in
    ⊎_elim
    (λ w. inl (let u : j ≡ length as' = omega (arith, q.1, m) in grind (arith, u, w, z)))
    (λ w. inr (let u : j ≡ length bs = omega (arith, q.1, m, n) in grind (arith, u, w, z)))
    (one_least a b r.0 r.2).1)
    (λ q. let d : j ≢ length as' = (λ u. q.1 (u ∙ sym m)) in
    ⊎_elim
    (λ w. inl (past a as' j k d w))
    (λ w. inr (past b bs j k (λ u. d (u ∙ sym n)) w))
    (one_of_both as' bs r.1 n r.3 j k (grind (arith, q.1, g))))
    (eqb_tells j (length r.1))
  where
    past : (a : Kind) (xs : List Kind) (j : ℕ) (k : Kind) → j ≢ length xs → level xs j ≡ Some k → level (a ∷ xs) j ≡ Some k
    past a xs j k d w = ⊎_elim (λ q. absurd (d q.1)) (λ q. grind (arith, q.1, w)) (eqb_tells j (length xs))

pub first_call : (args : List Kind) → ((args : List Kind) → SuitAll args args) → AreLeast (args ∷ []) args
first_call args same = record {
  suit = λ x h. ⊎_elim (λ q. subst (λ l. SuitAll l args) (sym q) (same args)) (λ q. absurd q) h;
  met = λ j n e. (args, inl refl, e);
}

pub itself : (ks : List Kind) → SuitAll ks ks
itself [] = tt
itself (Number ∷ ks) = (tt, itself ks)
itself (Place n ∷ ks) = (omega arith, itself ks)

-- what suits a kind leaves it the least
one_stays : (a k : Kind) → Suits a k → least k a ≡ Some k
one_stays Number Number s = refl
one_stays Number (Place m) s = absurd s
one_stays (Place n) Number s = absurd s
one_stays (Place n) (Place m) s = let e : min m n ≡ m = omega (arith, s) in ap (λ l. Some (Place l)) e

pub all_stay : (args ks : List Kind) → SuitAll args ks → leasts ks args ≡ Some ks
all_stay args [] s = refl
all_stay [] (k ∷ ks) s = absurd s
all_stay (a ∷ args) (k ∷ ks) s = (λ i. joined (one_stays a k s.0 i) (all_stay args ks s.1 i))

pub next_call : (passed : List (List Kind)) (old new ks : List Kind) → length old ≡ length new → leasts old new ≡ Some ks → AreLeast passed old → AreLeast (new ∷ passed) ks
next_call passed old new ks h e a =
    let s = suit_both old new ks h e in
    record {
      suit = λ x p. ⊎_elim (λ q. subst (λ l. SuitAll l ks) (sym q) s.1) (λ q. all_then x old ks (a.suit x q) s.0) p;
      met = λ j n f. ⊎_elim
          (λ q. let m = a.met j n q in (m.0, inr m.1, m.2))
          (λ q. (new, inl refl, q))
          (one_of_both old new ks h e j (Place n) f);
    }

-- where there is no least, a number meets a place
pub record Meets (as' bs : List Kind) : Type 0 where
  pub at_place : ℕ
  pub words : ℕ
  pub which : ((level as' at_place ≡ Some Number) × (level bs at_place ≡ Some (Place words))) ⊎ ((level bs at_place ≡ Some Number) × (level as' at_place ≡ Some (Place words)))

no_one : (a b : Kind) → least a b ≡ None → (n : ℕ) × (((a ≡ Number) × (b ≡ Place n)) ⊎ ((b ≡ Number) × (a ≡ Place n)))
no_one Number Number e = absurd (cc)
no_one Number (Place m) e = (m, inl (refl, refl))
no_one (Place n) Number e = (n, inr (refl, refl))
no_one (Place n) (Place m) e = absurd (cc)

none_inv : (k : Option Kind) (ks : Option (List Kind)) → joined k ks ≡ None → (k ≡ None) ⊎ (ks ≡ None)
none_inv None ks e = inl refl
none_inv (Some q) None e = inr refl
none_inv (Some q) (Some rest) e = absurd (cc)

more_level : (a : Kind) (xs : List Kind) (j : ℕ) (k : Kind) → level xs j ≡ Some k → level (a ∷ xs) j ≡ Some k
more_level a xs j k e = level_below (a ∷ []) xs j (level_short xs j k e) ∙ e

top_level : (a : Kind) (xs : List Kind) (j : ℕ) → j ≡ length xs → level (a ∷ xs) j ≡ Some a
top_level a xs j e = grind (arith, e)

-- a number meets a place
pub no_least : (as' bs : List Kind) → length as' ≡ length bs → leasts as' bs ≡ None → Meets as' bs
no_least [] bs h e = absurd (cc)
no_least (a ∷ as') [] h e = absurd (omega (arith, h))
no_least (a ∷ as') (b ∷ bs) h e =
    let same : length as' ≡ length bs = omega (arith, h) in
    ⊎_elim
    (λ q. let r = no_one a b q in record {
      at_place = length as';
      words = r.0;
      which = ⊎_elim
          (λ w. inl (top_level a as' (length as') refl ∙ ap Some w.0, top_level b bs (length as') same ∙ ap Some w.1))
          (λ w. inr (top_level b bs (length as') same ∙ ap Some w.0, top_level a as' (length as') refl ∙ ap Some w.1)) r.1;
    })
    (λ q. let r = no_least as' bs same q in record {
      at_place = r.at_place;
      words = r.words;
      which = ⊎_elim
          (λ w. inl (more_level a as' r.at_place Number w.0, more_level b bs r.at_place (Place r.words) w.1))
          (λ w. inr (more_level b bs r.at_place Number w.0, more_level a as' r.at_place (Place r.words) w.1)) r.which;
    })
    (none_inv (least a b) (leasts as' bs) e)
