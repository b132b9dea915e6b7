-- Two statements share a block just where the outermost blocks around them are one.
use Rattle.std.proofs.Common.{◌≡◌, ◌<◌, ℕ, Bool, true, false, true≢false, ◌==◌, List, [], ◌∷◌, length, Option, Some, None, cond, refl, ap, sym, subst, ◌∙◌, inl, inr, arith}
use Rattle.std.specs.Prelude.{◌⊎◌, ◌&&◌, is_some}
use Rattle.std.specs.List.{list_any}
use Rattle.std.proofs.lemmas.Bool.{eqb-true, eq-eqb, or_left, or_right, and_parts, and_from, or_cases}
use Rattle.std.proofs.lemmas.Option.{same_Some, none-some}
use Rattle.std.specs.Option.{option_or}
use Rattle.oc_tree.specs.Members.{is_number_of}
use Rattle.oc_laws.proofs.Bools.{both_ways}
use Rattle.oc_regcheck.specs.Code.{outermost_from, same_place}

-- ---- among

pub any_among : (test : ℕ → Bool) (xs : List ℕ) → list_any test xs ≡ true → (b : ℕ) × (is_number_of xs b ≡ true) × (test b ≡ true)
any_among test [] e = absurd (true≢false (sym e))
any_among test (x ∷ xs) e = by (or_cases (test x) (list_any test xs) e) (any_among test xs)
  where
    by : (test x ≡ true) ⊎ (list_any test xs ≡ true) → (list_any test xs ≡ true → (b : ℕ) × (is_number_of xs b ≡ true) × (test b ≡ true)) → (b : ℕ) × (is_number_of (x ∷ xs) b ≡ true) × (test b ≡ true)
    by (inl h) rest = (x, or_left (x == x) (is_number_of xs x) (eq-eqb x x refl), h)
    by (inr h) rest = let r = rest h in (r.0, or_right (x == r.0) (is_number_of xs r.0) r.1, r.2)

pub among_any : (test : ℕ → Bool) (xs : List ℕ) (b : ℕ) → is_number_of xs b ≡ true → test b ≡ true → list_any test xs ≡ true
among_any test [] b m e = absurd (true≢false (sym m))
among_any test (x ∷ xs) b m e = by (or_cases (x == b) (is_number_of xs b) m) (λ h. among_any test xs b h e)
  where
    by : (x == b ≡ true) ⊎ (is_number_of xs b ≡ true) → (is_number_of xs b ≡ true → list_any test xs ≡ true) → list_any test (x ∷ xs) ≡ true
    by (inl h) rest = or_left (test x) (list_any test xs) (subst (λ n. test n ≡ true) (sym (eqb-true x b h)) e)
    by (inr h) rest = or_right (test x) (list_any test xs) (rest h)

-- ---- the outermost

-- each of these statements stands in those behind it: a block decides what is around it
abbrev pub Line : (ℕ → List ℕ) → List ℕ → Type 0
Line up [] = Unit {0}
Line up (t ∷ l) = (up t ≡ l) × Line up l

some_behind : (u : Option ℕ) (t : ℕ) (o : Option ℕ) → option_or u (Some t) ≡ option_or (option_or u (Some t)) o
some_behind None t o = refl
some_behind (Some v) t o = refl

module _ (is_block : ℕ → Bool) where
  abbrev pub outermost_in : List ℕ → Option ℕ
  outermost_in l = outermost_from is_block None l

  -- what was found before counts only where none is found
  pub from_found : (o : Option ℕ) (l : List ℕ) → outermost_from is_block o l ≡ option_or (outermost_in l) o
  from_found o [] = refl
  from_found o (t ∷ l) = by (is_block t) (λ u. from_found u l)
    where
      by : (b : Bool) → ((u : Option ℕ) → outermost_from is_block u l ≡ option_or (outermost_in l) u) → outermost_from is_block (cond b (Some t) o) l
          ≡ option_or (outermost_from is_block (cond b (Some t) None) l) o
      by true h = h (Some t) ∙ some_behind (outermost_in l) t o ∙ ap (λ x. option_or x o) (sym (h (Some t)))
      by false h = h o

  module _ (up : ℕ → List ℕ) where
    -- a block among these is the outermost, or stands in it
    pub over : (l : List ℕ) (b : ℕ) → Line up l → is_block b ≡ true → is_number_of l b ≡ true → outermost_in l ≡ option_or (outermost_in (up b)) (Some b)
    over [] b h k m = absurd (true≢false (sym m))
    over (t ∷ l) b h k m = by (or_cases (t == b) (is_number_of l b) m) (over l b h.1 k)
      where
        stays : (o u rest : Option ℕ) → o ≡ option_or u (Some b) → option_or o rest ≡ o
        stays (Some w) u rest e = refl
        stays None None rest e = absurd (none-some b e)
        stays None (Some v) rest e = absurd (none-some v e)

        by : (t == b ≡ true) ⊎ (is_number_of l b ≡ true)
            → (is_number_of l b ≡ true → outermost_in l ≡ option_or (outermost_in (up b)) (Some b))
            → outermost_in (t ∷ l) ≡ option_or (outermost_in (up b)) (Some b)
        by (inl e) rest =
            let q : t ≡ b = eqb-true t b e in
            let is : is_block t ≡ true = ap is_block q ∙ k in
            ap (λ c. outermost_from is_block (cond c (Some t) None) l) is
            ∙ from_found (Some t) l
            ∙ ap (λ x. option_or (outermost_in x) (Some t)) (sym h.0)
            ∙ ap (λ n. option_or (outermost_in (up n)) (Some n)) q
        by (inr e) rest = from_found (cond (is_block t) (Some t) None) l ∙ stays (outermost_in l) (outermost_in (up b)) (cond (is_block t) (Some t) None) (rest e) ∙ rest e

    -- what is around one of them
    line_of : (l : List ℕ) (t : ℕ) → Line up l → is_number_of l t ≡ true → Line up (up t) × (length (up t) < length l)
    line_of [] t h m = absurd (true≢false (sym m))
    line_of (x ∷ l) t h m = by (or_cases (x == t) (is_number_of l t) m) (line_of l t h.1)
      where
        by : (x == t ≡ true) ⊎ (is_number_of l t ≡ true) → (is_number_of l t ≡ true → Line up (up t) × (length (up t) < length l)) → Line up (up t) × (length (up t) < length (x ∷ l))
        by (inl e) rest =
            let q : l ≡ up t = sym h.0 ∙ ap up (eqb-true x t e) in
            (subst (Line up) q h.1, (let n = ap length q in omega (arith, n)))
        by (inr e) rest = let r = rest e in (r.0, (let k = r.1 in omega (arith, k)))

  -- the outermost is a block, and among them
  pub is_one : (l : List ℕ) (b : ℕ) → outermost_in l ≡ Some b → (is_block b ≡ true) × (is_number_of l b ≡ true)
  is_one [] b e = absurd (none-some b e)
  is_one (t ∷ l) b e = by (outermost_in l) refl (is_block t) refl (sym (from_found (cond (is_block t) (Some t) None) l) ∙ e) (is_one l b)
    where
      by : (o : Option ℕ) → outermost_in l ≡ o → (k : Bool) → is_block t ≡ k → option_or (outermost_in l) (cond (is_block t) (Some t) None) ≡ Some b
          → (outermost_in l ≡ Some b → (is_block b ≡ true) × (is_number_of l b ≡ true)) → (is_block b ≡ true) × (is_number_of (t ∷ l) b ≡ true)
      by (Some c) is k block f rest =
          let q : Some c ≡ Some b = sym (ap (λ x. option_or x (cond (is_block t) (Some t) None)) is) ∙ f in
          let r = rest (is ∙ q) in (r.0, or_right (t == b) (is_number_of l b) r.1)
      by None is true block f rest =
          let q : t ≡ b = same_Some t b (sym (ap (λ x. option_or x (cond (is_block t) (Some t) None)) is ∙ ap (λ c. cond c (Some t) None) block) ∙ f) in
          (subst (λ n. is_block n ≡ true) q block, or_left (t == b) (is_number_of l b) (eq-eqb t b q))
      by None is false block f rest = absurd (none-some b (sym (ap (λ x. option_or x (cond (is_block t) (Some t) None)) is ∙ ap (λ c. cond c (Some t) None) block) ∙ f))

  module _ (up : ℕ → List ℕ) where
    -- the outermost stands in no block
    pub is_alone : (l : List ℕ) (t : ℕ) → Line up l → outermost_in l ≡ Some t → outermost_in (up t) ≡ None
    is_alone l t h e =
        let r = is_one l t e in
        let near = line_of up l t h r.1 in
        by (outermost_in (up t)) refl (sym (over up l t h r.0 r.1) ∙ e) near.0
      where
        by : (o : Option ℕ) → outermost_in (up t) ≡ o → option_or (outermost_in (up t)) (Some t) ≡ Some t → Line up (up t) → outermost_in (up t) ≡ None
        by None is f line = is
        by (Some v) is f line =
            let q : v ≡ t = same_Some v t (sym (ap (λ x. option_or x (Some t)) is) ∙ f) in
            let inside = (is_one (up t) t (is ∙ ap Some q)).1 in
            let less = (line_of up (up t) t line inside).1 in
            absurd (omega (arith, less))

    -- where none is found, no block is among them
    pub none_among : (l : List ℕ) (b : ℕ) → Line up l → outermost_in l ≡ None → is_block b ≡ true → is_number_of l b ≡ true → ⊥
    none_among l b h e k m = by (outermost_in (up b)) (sym e ∙ over up l b h k m)
      where
        by : (o : Option ℕ) → None ≡ option_or o (Some b) → ⊥
        by None f = none-some b f
        by (Some v) f = none-some v f

    -- who shares a block has the same outermost one
    pub shared : (ls ms : List ℕ) → Line up ls → Line up ms → (b : ℕ) → is_block b ≡ true → is_number_of ls b ≡ true → is_number_of ms b ≡ true → same_place (outermost_in ls) (outermost_in ms) ≡ true
    shared ls ms h k b is l m =
        let x = over up ls b h is l in
        let y = over up ms b k is m in
        subst (λ o. same_place o (outermost_in ms) ≡ true) (sym x) (subst (λ o. same_place (option_or (outermost_in (up b)) (Some b)) o ≡ true) (sym y) (itself (outermost_in (up b))))
      where
        itself : (u : Option ℕ) → same_place (option_or u (Some b)) (option_or u (Some b)) ≡ true
        itself None = eq-eqb b b refl
        itself (Some v) = eq-eqb v v refl

  -- two that are the same block
  pub same_two : (o u : Option ℕ) → same_place o u ≡ true → (b : ℕ) × (o ≡ Some b) × (u ≡ Some b)
  same_two (Some a) (Some b) e = (a, refl, ap Some (sym (eqb-true a b e)))
  same_two (Some a) None e = absurd (true≢false (sym e))
  same_two None u e = absurd (true≢false (sym e))

-- ---- as tests over a list of blocks

module _ (blocks : List ℕ) (up : ℕ → List ℕ) where
  -- some block is among them
  pub inside_is : (l : List ℕ) → Line up l → list_any (λ b. is_number_of l b) blocks ≡ is_some (outermost_in (is_number_of blocks) l)
  inside_is l h = both_ways (list_any (λ b. is_number_of l b) blocks) (is_some (outermost_in (is_number_of blocks) l))
      (λ e. let r = any_among (λ b. is_number_of l b) blocks e in there (outermost_in (is_number_of blocks) l) refl r.0 r.1 r.2)
      (λ e. here (outermost_in (is_number_of blocks) l) refl e)
    where
      there : (o : Option ℕ) → outermost_in (is_number_of blocks) l ≡ o → (b : ℕ) → is_number_of blocks b ≡ true → is_number_of l b ≡ true → is_some o ≡ true
      there (Some v) is b k m = refl
      there None is b k m = absurd (none_among (is_number_of blocks) up l b h is k m)

      here : (o : Option ℕ) → outermost_in (is_number_of blocks) l ≡ o → is_some o ≡ true → list_any (λ b. is_number_of l b) blocks ≡ true
      here None is e = absurd (true≢false (sym e))
      here (Some v) is e = let r = is_one (is_number_of blocks) l v is in among_any (λ b. is_number_of l b) blocks v r.0 r.1

  -- some block is among both
  pub both_is : (ls ms : List ℕ) → Line up ls → Line up ms → list_any (λ b. is_number_of ls b && is_number_of ms b) blocks
      ≡ same_place (outermost_in (is_number_of blocks) ls) (outermost_in (is_number_of blocks) ms)
  both_is ls ms h k = both_ways (list_any (λ b. is_number_of ls b && is_number_of ms b) blocks) (same_place (outermost_in (is_number_of blocks) ls) (outermost_in (is_number_of blocks) ms))
      (λ e. let r = any_among (λ b. is_number_of ls b && is_number_of ms b) blocks e in
      let two = and_parts (is_number_of ls r.0) (is_number_of ms r.0) r.2 in
      shared (is_number_of blocks) up ls ms h k r.0 r.1 two.0 two.1)
      (λ e. let t = same_two (λ n. true) (outermost_in (is_number_of blocks) ls) (outermost_in (is_number_of blocks) ms) e in
      let a = is_one (is_number_of blocks) ls t.0 t.1 in
      let b = is_one (is_number_of blocks) ms t.0 t.2 in
      among_any (λ b. is_number_of ls b && is_number_of ms b) blocks t.0 a.0 (and_from (is_number_of ls t.0) (is_number_of ms t.0) a.1 b.1))
