-- A list of sites without repetitions asks for the same.
use Rattle.std.proofs.Common.{◌≡◌, refl, sym, ap, ◌∙◌, subst, ℕ, Bool, true, false, ◌⊎◌, inl, inr, List, [], ◌∷◌, ◌++◌, cond}
use Rattle.std.specs.Prelude.{flat_map}
use Rattle.std.specs.List.{list_any, find}
use Rattle.std.specs.Option.{unwrap_or}
use Rattle.oc_tree.specs.Tree.{TProgram}
use Rattle.oc_tree.specs.declared.tree.VarId.{VarId}
use Rattle.oc_tree.specs.Members.{IsOf}
use Rattle.oc_flow.specs.Flow.{flows}
use Rattle.oc_needs.specs.Need.{is_empty}
use Rattle.oc_needs.specs.Requirements.{rising, with_inputs}
use Rattle.oc_needs.specs.Code.{TSource, flows_to_some, lifts_by, source_site, sites_between, sites_from, source_sites, sites_outside, sites_inside, looped_sites, all_sites_once}
use Rattle.oc_needs.proofs.Rising.{Within, rises_rising, of_rising, in_rising, same_members}
use Rattle.oc_needs.proofs.Tests.{any_of, of_any}

-- ---- members of joined lists

pub in_front : {A : Type 0} (z : A) (xs ys : List A) → IsOf z xs → IsOf z (xs ++ ys)
in_front z [] ys h = absurd h
in_front z (x ∷ xs) ys (inl e) = inl e
in_front z (x ∷ xs) ys (inr h) = inr (in_front z xs ys h)

pub in_back : {A : Type 0} (z : A) (xs ys : List A) → IsOf z ys → IsOf z (xs ++ ys)
in_back z [] ys h = h
in_back z (x ∷ xs) ys h = inr (in_back z xs ys h)

one_later : {A : Type 0} (z x : A) (xs ys : List A) → (IsOf z xs ⊎ IsOf z ys) → (IsOf z (x ∷ xs) ⊎ IsOf z ys)
one_later z x xs ys (inl i) = inl (inr i)
one_later z x xs ys (inr i) = inr i

pub of_either : {A : Type 0} (z : A) (xs ys : List A) → IsOf z (xs ++ ys) → (IsOf z xs ⊎ IsOf z ys)
of_either z [] ys h = inr h
of_either z (x ∷ xs) ys (inl e) = inl (inl e)
of_either z (x ∷ xs) ys (inr h) = one_later z x xs ys (of_either z xs ys h)

pub in_join : {A B : Type 0} (f : A → List B) (z : B) (x : A) (xs : List A) → IsOf x xs → IsOf z (f x) → IsOf z (flat_map f xs)
in_join f z x [] o h = absurd o
in_join f z x (y ∷ ys) (inl e) h = in_front z (f y) (flat_map f ys) (subst (λ w. IsOf z (f w)) e h)
in_join f z x (y ∷ ys) (inr o) h = in_back z (f y) (flat_map f ys) (in_join f z x ys o h)

joined_of : {A B : Type 0} (f : A → List B) (z : B) (y : A) (ys : List A) → (IsOf z (f y) ⊎ IsOf z (flat_map f ys)) → (IsOf z (flat_map f ys) → (x : A) × IsOf x ys × IsOf z (f x))
    → (x : A) × IsOf x (y ∷ ys) × IsOf z (f x)
joined_of f z y ys (inl i) r = (y, inl refl, i)
joined_of f z y ys (inr i) r = let k = r i in (k.0, inr k.1, k.2)

pub of_join : {A B : Type 0} (f : A → List B) (z : B) (xs : List A) → IsOf z (flat_map f xs) → (x : A) × IsOf x xs × IsOf z (f x)
of_join f z [] h = absurd h
of_join f z (y ∷ ys) h = joined_of f z y ys (of_either z (f y) (flat_map f ys) h) (of_join f z ys)

-- ---- inputs with the same members

pub same_rising : (xs ys : List ℕ) → Within xs ys → Within ys xs → rising xs ≡ rising ys
same_rising xs ys f g = same_members (rising xs) (rising ys) (rises_rising xs) (rises_rising ys) (λ x o. in_rising x ys (f x (of_rising x xs o))) (λ x o. in_rising x xs (g x (of_rising x ys o)))

with_others : (ms ns others : List ℕ) → Within ms ns → Within (ms ++ others) (ns ++ others)
with_others ms ns others f = λ x o. by x (of_either x ms others o)
  where
    by : (x : ℕ) → (IsOf x ms ⊎ IsOf x others) → IsOf x (ns ++ others)
    by x (inl i) = in_front x ns others (f x i)
    by x (inr i) = in_back x ns others i

pub same_inputs : (ms ns others : List ℕ) → Within ms ns → Within ns ms → with_inputs ms others ≡ with_inputs ns others
same_inputs [] [] others f g = refl
same_inputs [] (n ∷ ns) others f g = absurd (g n (inl refl))
same_inputs (m ∷ ms) [] others f g = absurd (f m (inl refl))
same_inputs (m ∷ ms) (n ∷ ns) others f g = ap (λ r. r ∷ []) (same_rising ((m ∷ ms) ++ others) ((n ∷ ns) ++ others) (with_others (m ∷ ms) (n ∷ ns) others f) (with_others (n ∷ ns) (m ∷ ms) others g))

-- ---- the sites of one statement

module _ (p : TProgram) (f : ℕ) (xs : List VarId) (s : TSource) where
  own_site : s.loops ≡ [] → (u x : VarId) → source_site p f s u x ≡ s.stmt
  own_site e u x = ap (λ ls. unwrap_or (find (lifts_by p f u x) ls) s.stmt) e

  -- for one variable
  at_one : VarId → VarId → List ℕ
  at_one u x = cond (flows p f u x) (source_site p f s u x ∷ []) []

  once_told : (z : ℕ) → s.loops ≡ [] → (b : Bool) → list_any (flows_to_some p f xs) s.brought ≡ b → IsOf z (cond b (s.stmt ∷ []) []) → IsOf z (sites_from p f xs s s.brought)
  once_told z e false q h = absurd h
  once_told z e true q (inr h) = absurd h
  once_told z e true q (inl r) =
      let u = any_of (flows_to_some p f xs) s.brought q in
      let x = any_of (flows p f u.0) xs u.2 in
      in_join (λ v. sites_between p f s v xs) z u.0 s.brought u.1
      (in_join (λ y. cond (flows p f u.0 y) (source_site p f s u.0 y ∷ []) []) z x.0 xs x.1
      (subst (λ b. IsOf z (cond b (source_site p f s u.0 x.0 ∷ []) [])) (sym x.2) (inl (r ∙ sym (own_site e u.0 x.0)))))

  once_in : Within (sites_outside p f xs s) (sites_from p f xs s s.brought)
  once_in = λ z h. by z s.loops refl h
    where
      by : (z : ℕ) (ls : List ℕ) → s.loops ≡ ls → IsOf z (cond (is_empty ls) (cond (list_any (flows_to_some p f xs) s.brought) (s.stmt ∷ []) []) []) → IsOf z (sites_from p f xs s s.brought)
      by z [] e h = once_told z e (list_any (flows_to_some p f xs) s.brought) refl h
      by z (l ∷ ls) e h = absurd h

  found : (z : ℕ) → s.loops ≡ [] → (u x : VarId) → IsOf u s.brought → IsOf x xs → (b : Bool) → flows p f u x ≡ b → IsOf z (cond b (source_site p f s u x ∷ []) [])
      → IsOf z (cond (list_any (flows_to_some p f xs) s.brought) (s.stmt ∷ []) [])
  found z e u x o i false q h = absurd h
  found z e u x o i true q (inr h) = absurd h
  found z e u x o i true q (inl r) = subst (λ b. IsOf z (cond b (s.stmt ∷ []) [])) (sym (of_any (flows_to_some p f xs) u s.brought o (of_any (flows p f u) x xs i q))) (inl (r ∙ own_site e u x))

  -- inside loops, for one of the variables
  inside_in : (z : ℕ) (x : VarId) → IsOf x xs → IsOf z (sites_inside p f x s) → IsOf z (sites_from p f xs s s.brought)
  inside_in z x o h = by (is_empty s.loops) h
    where
      one_of : (u y : VarId) → IsOf u s.brought → IsOf y (x ∷ []) → IsOf z (cond (flows p f u y) (source_site p f s u y ∷ []) []) → IsOf z (sites_from p f xs s s.brought)
      one_of u y i (inr k) m = absurd k
      one_of u y i (inl e) m = in_join (λ v. sites_between p f s v xs) z u s.brought i
          (in_join (λ w. cond (flows p f u w) (source_site p f s u w ∷ []) []) z x xs o (subst (λ w. IsOf z (cond (flows p f u w) (source_site p f s u w ∷ []) [])) e m))

      by : (b : Bool) → IsOf z (cond b [] (sites_from p f (x ∷ []) s s.brought)) → IsOf z (sites_from p f xs s s.brought)
      by true k = absurd k
      by false k =
          let u = of_join (λ v. sites_between p f s v (x ∷ [])) z s.brought k in
          let y = of_join (λ w. cond (flows p f u.0 w) (source_site p f s u.0 w ∷ []) []) z (x ∷ []) u.2 in
          one_of u.0 y.0 u.1 y.1 y.2

  -- each site is one of a statement outside loops, or one for a variable
  once_back : (z : ℕ) → IsOf z (sites_from p f xs s s.brought) → (IsOf z (sites_outside p f xs s) ⊎ ((x : VarId) × IsOf x xs × IsOf z (sites_inside p f x s)))
  once_back z h =
      let u = of_join (λ v. sites_between p f s v xs) z s.brought h in
      let x = of_join (λ y. cond (flows p f u.0 y) (source_site p f s u.0 y ∷ []) []) z xs u.2 in
      by u.0 u.1 x.0 x.1 x.2 s.loops refl
    where
      by : (u : VarId) → IsOf u s.brought → (x : VarId) → IsOf x xs → IsOf z (cond (flows p f u x) (source_site p f s u x ∷ []) []) → (ls : List ℕ) → s.loops ≡ ls
          → (IsOf z (cond (is_empty ls) (cond (list_any (flows_to_some p f xs) s.brought) (s.stmt ∷ []) []) []) ⊎
          ((y : VarId) × IsOf y xs × IsOf z (cond (is_empty ls) [] (sites_from p f (y ∷ []) s s.brought))))
      by u i x o m [] e = inl (found z e u x i o (flows p f u x) refl m)
      by u i x o m (l ∷ ls) e = inr (
        x,
        o,
        in_join (λ v. sites_between p f s v (x ∷ [])) z u s.brought i
            (in_join (λ y. cond (flows p f u y) (source_site p f s u y ∷ []) []) z x (x ∷ []) (inl refl) m),
      )

-- ---- those of all

pub all_in : (p : TProgram) (f : ℕ) (xs : List VarId) (ss : List TSource) → Within (all_sites_once p f xs ss) (source_sites p f xs ss)
all_in p f xs ss = λ z h. by z (of_either z (flat_map (sites_outside p f xs) ss) (flat_map (looped_sites p f ss) xs) h)
  where
    by : (z : ℕ) → (IsOf z (flat_map (sites_outside p f xs) ss) ⊎ IsOf z (flat_map (looped_sites p f ss) xs)) → IsOf z (source_sites p f xs ss)
    by z (inl h) = let s = of_join (sites_outside p f xs) z ss h in in_join (λ t. sites_from p f xs t t.brought) z s.0 ss s.1 (once_in p f xs s.0 z s.2)
    by z (inr h) =
        let x = of_join (looped_sites p f ss) z xs h in
        let s = of_join (sites_inside p f x.0) z ss (of_rising z (flat_map (sites_inside p f x.0) ss) x.2) in
        in_join (λ t. sites_from p f xs t t.brought) z s.0 ss s.1 (inside_in p f xs s.0 z x.0 x.1 s.2)

pub all_back : (p : TProgram) (f : ℕ) (xs : List VarId) (ss : List TSource) → Within (source_sites p f xs ss) (all_sites_once p f xs ss)
all_back p f xs ss = λ z h. let s = of_join (λ t. sites_from p f xs t t.brought) z ss h in by z s.0 s.1 (once_back p f xs s.0 z s.2)
  where
    by : (z : ℕ) (s : TSource) → IsOf s ss → (IsOf z (sites_outside p f xs s) ⊎ ((x : VarId) × IsOf x xs × IsOf z (sites_inside p f x s))) → IsOf z (all_sites_once p f xs ss)
    by z s o (inl h) = in_front z (flat_map (sites_outside p f xs) ss) (flat_map (looped_sites p f ss) xs) (in_join (sites_outside p f xs) z s ss o h)
    by z s o (inr x) = in_back z (flat_map (sites_outside p f xs) ss) (flat_map (looped_sites p f ss) xs)
        (in_join (looped_sites p f ss) z x.0 xs x.1 (in_rising z (flat_map (sites_inside p f x.0) ss) (in_join (sites_inside p f x.0) z s ss o x.2)))
