-- The age of a union.
use Rattle.std.proofs.Common.{◌≡◌, ℕ, Bool, true, false, List, [], ◌∷◌, refl, sym, ap, ◌∙◌, eq-eqb, eqb-true}
use Rattle.std.specs.Prelude.{◌==◌, nat_lt, if◌then◌else◌}
use Rattle.oc_tree.specs.Samples.{union, with_sample}
use Rattle.oc_steps.specs.Ages.{mixed, join_ages, age_of}

again : (x y : ℕ) (b : Bool) → (x == y) ≡ b → join_ages (x ∷ []) (if b then x ∷ [] else mixed) ≡ (if b then x ∷ [] else mixed)
again x y true e = ap (λ b. if b then x ∷ [] else mixed) (eq-eqb x x refl)
again x y false e = refl

twice : (x : ℕ) (c : List ℕ) → join_ages (x ∷ []) (join_ages (x ∷ []) c) ≡ join_ages (x ∷ []) c
twice x [] = ap (λ b. if b then x ∷ [] else mixed) (eq-eqb x x refl)
twice x (y ∷ []) = again x y (x == y) refl
twice x (y ∷ z ∷ w) = refl

-- three outages, of which the tests say which are the same
three : (x y z : ℕ) (a b d : Bool) → (x == y) ≡ a → (x == z) ≡ b → (y == z) ≡ d → join_ages (x ∷ []) (if d then y ∷ [] else mixed) ≡ join_ages (y ∷ []) (if b then x ∷ [] else mixed)
three x y z true b true e f g =
    let xy : x ≡ y = eqb-true x y e in
    let xz : x ≡ z = xy ∙ eqb-true y z g in
    let is : true ≡ b = sym (eq-eqb x z xz) ∙ f in
    ap (λ c. if c then x ∷ [] else mixed) e ∙ ap (λ q. q ∷ []) xy
    ∙ sym (ap (λ c. if c then y ∷ [] else mixed) (eq-eqb y x (sym xy)))
    ∙ ap (λ c. join_ages (y ∷ []) (if c then x ∷ [] else mixed)) is
three x y z true true false e f g =
    let yz : y ≡ z = sym (eqb-true x y e) ∙ eqb-true x z f in
    let no : true ≡ false = sym (eq-eqb y z yz) ∙ g in
    absurd (cc)
three x y z true false false e f g = refl
three x y z false true true e f g =
    let xy : x ≡ y = eqb-true x z f ∙ sym (eqb-true y z g) in
    let no : true ≡ false = sym (eq-eqb x y xy) ∙ e in
    absurd (cc)
three x y z false true false e f g = ap (λ c. if c then y ∷ [] else mixed) (sym (other x y e))
  where
    other : (x y : ℕ) → (x == y) ≡ false → (y == x) ≡ false
    other x y e = test (y == x) refl
      where
        test : (b : Bool) → (y == x) ≡ b → b ≡ false
        test true h = let no : true ≡ false = sym (eq-eqb x y (sym (eqb-true y x h))) ∙ e in absurd (cc)
        test false h = refl
three x y z false false true e f g = ap (λ c. if c then x ∷ [] else mixed) e
three x y z false false false e f g = refl

swap : (x y : ℕ) (c : List ℕ) → join_ages (x ∷ []) (join_ages (y ∷ []) c) ≡ join_ages (y ∷ []) (join_ages (x ∷ []) c)
swap x y [] = pair (x == y) refl
  where
    pair : (b : Bool) → (x == y) ≡ b → join_ages (x ∷ []) (y ∷ []) ≡ join_ages (y ∷ []) (x ∷ [])
    pair true e =
        let xy : x ≡ y = eqb-true x y e in
        ap (λ b. if b then x ∷ [] else mixed) e ∙ ap (λ q. q ∷ []) xy ∙ sym (ap (λ b. if b then y ∷ [] else mixed) (eq-eqb y x (sym xy)))
    pair false e = ap (λ b. if b then x ∷ [] else mixed) e ∙ sym (ap (λ b. if b then y ∷ [] else mixed) (back (y == x) refl))
      where
        back : (b : Bool) → (y == x) ≡ b → b ≡ false
        back true h = let no : true ≡ false = sym (eq-eqb x y (sym (eqb-true y x h))) ∙ e in absurd (cc)
        back false h = refl
swap x y (z ∷ []) = three x y z (x == y) (x == z) (y == z) refl refl refl
swap x y (z ∷ u ∷ w) = refl

along : (x y : ℕ) (b c : List ℕ) (d : Bool) → (x == y) ≡ d → join_ages (if d then x ∷ [] else mixed) c ≡ join_ages (x ∷ []) (join_ages (y ∷ []) c)
along x y b [] true e = sym (ap (λ b. if b then x ∷ [] else mixed) e)
along x y b (z ∷ []) true e =
    let xy : x ≡ y = eqb-true x y e in
    sym (twice x (z ∷ [])) ∙ ap (λ q. join_ages (x ∷ []) (join_ages (q ∷ []) (z ∷ []))) xy
along x y b (z ∷ u ∷ w) true e = refl
along x y b [] false e = sym (ap (λ b. if b then x ∷ [] else mixed) e)
along x y b (z ∷ []) false e = sym (apart (y == z) refl)
  where
    apart : (d : Bool) → (y == z) ≡ d → join_ages (x ∷ []) (if d then y ∷ [] else mixed) ≡ mixed
    apart true g = ap (λ b. if b then x ∷ [] else mixed) e
    apart false g = refl
along x y b (z ∷ u ∷ w) false e = refl

together : (a b c : List ℕ) → join_ages (join_ages a b) c ≡ join_ages a (join_ages b c)
together [] b c = refl
together (x ∷ []) [] c = refl
together (x ∷ []) (y ∷ []) c = along x y [] c (x == y) refl
together (x ∷ []) (y ∷ z ∷ w) c = refl
together (x ∷ y ∷ w) b c = refl

module _ (before : ℕ → ℕ) where
  with_age : (n : ℕ) (ms : List ℕ) → age_of before (with_sample n ms) ≡ join_ages (before n ∷ []) (age_of before ms)
  with_age n [] = refl
  with_age n (m ∷ ms) = first (with_age n ms) (nat_lt n m) (n == m) refl
    where
      first : age_of before (with_sample n ms) ≡ join_ages (before n ∷ []) (age_of before ms) → (a b : Bool) → (n == m) ≡ b
          → age_of before (if a then n ∷ m ∷ ms else (if b then m ∷ ms else m ∷ with_sample n ms)) ≡ join_ages (before n ∷ []) (age_of before (m ∷ ms))
      first ih true b e = refl
      first ih false true e =
          let nm : n ≡ m = eqb-true n m e in
          sym (twice (before m) (age_of before ms)) ∙ ap (λ q. join_ages (before q ∷ []) (age_of before (m ∷ ms))) (sym nm)
      first ih false false e = ap (join_ages (before m ∷ [])) ih ∙ swap (before m) (before n) (age_of before ms)

  pub union_age : (a b : List ℕ) → age_of before (union a b) ≡ join_ages (age_of before a) (age_of before b)
  union_age [] b = refl
  union_age (n ∷ a) b =
      with_age n (union a b) ∙ ap (join_ages (before n ∷ [])) (union_age a b) ∙ sym (together (before n ∷ []) (age_of before a) (age_of before b))
