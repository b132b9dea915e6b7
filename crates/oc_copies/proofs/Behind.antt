-- What a call's own variables leave behind, place by place.
use Rattle.std.proofs.Common.{◌≡◌, ◌⊎◌, inl, inr, ℕ, zero, suc, ◌+◌, ◌-◌, ◌<◌, ◌≤◌, Bool, true, false, true≢false, ◌==◌, List, [], ◌∷◌, length, Option, Some, None, refl, sym, ap, ◌∙◌, arith}
use Rattle.std.proofs.lemmas.Option.{none-some, same_Some}
use Rattle.std.specs.Prelude.{if◌then◌else◌, unwrap_or, slice_index_or}
use Rattle.oc_tree.specs.declared.tree.Param.{Param}
use Rattle.oc_tree.specs.declared.tree.Passing.{Passing}
use Rattle.oc_tree.specs.declared.tree.Passing.TheVariants as passings
use Rattle.oc_meaning.specs.Store.{Held, Place, Local, Global, Turn, Nowhere, Store, at, nothing, held_at, put, left_at}
use Rattle.oc_meaning.specs.Exec.{Passed, Copied, Lent}
use Rattle.oc_copies.specs.Copies.{copied_back, all_copied_back, beside, lent_place, passing_at}
use Rattle.oc_copies.proofs.Cells.{at_drop, drop_length, IsCell, there, has_place, held_put, held_put_other, put_locals, put_nv}

-- ---- stores are equal by what their places hold

same_locals : (xs ys : List Held) → length xs ≡ length ys → ((l : ℕ) → l < length xs → unwrap_or (at xs l) nothing ≡ unwrap_or (at ys l) nothing) → xs ≡ ys
same_locals [] [] e h = refl
same_locals [] (y ∷ ys) e h = absurd (omega (arith, e))
same_locals (x ∷ xs) [] e h = absurd (omega (arith, e))
same_locals (x ∷ xs) (y ∷ ys) e h =
    let n : length xs ≡ length ys = omega (arith, e) in
    let first : x ≡ y =
    sym (newest x xs (length xs) refl) ∙ h (length xs) (omega arith) ∙ newest y ys (length xs) n in
    let rest : xs ≡ ys = same_locals xs ys n (λ l b. sym (older x xs l b) ∙ h l (omega (arith, b)) ∙ older y ys l (omega (arith, b, n))) in
    ap (λ z. z ∷ xs) first ∙ ap (λ zs. y ∷ zs) rest
  where
    newest : (z : Held) (zs : List Held) (l : ℕ) → l ≡ length zs → unwrap_or (if l == length zs then Some z else at zs l) nothing ≡ z
    newest z zs l s = let t : (l == length zs) ≡ true = grind (arith, s) in ap (λ b. unwrap_or (if b then Some z else at zs l) nothing) t

    older : (z : Held) (zs : List Held) (l : ℕ) → l < length zs → unwrap_or (if l == length zs then Some z else at zs l) nothing ≡ unwrap_or (at zs l) nothing
    older z zs l s = let t : (l == length zs) ≡ false = grind (arith, s) in ap (λ b. unwrap_or (if b then Some z else at zs l) nothing) t

same_stored : (xs ys : List Held) → length xs ≡ length ys → ((i : ℕ) → i < length xs → slice_index_or xs i nothing ≡ slice_index_or ys i nothing) → xs ≡ ys
same_stored [] [] e h = refl
same_stored [] (y ∷ ys) e h = absurd (omega (arith, e))
same_stored (x ∷ xs) [] e h = absurd (omega (arith, e))
same_stored (x ∷ xs) (y ∷ ys) e h =
    let first : x ≡ y = h 0 (omega arith) in
    let rest : xs ≡ ys = same_stored xs ys (omega (arith, e)) (λ i b. h (suc i) (omega (arith, b))) in
    ap (λ z. z ∷ xs) first ∙ ap (λ zs. y ∷ zs) rest

same_parts : (σ τ : Store) → σ.locals ≡ τ.locals → σ.nv ≡ τ.nv → beside σ ≡ beside τ → σ ≡ τ
same_parts σ τ l n b =
    ap (λ xs. record (record (beside σ) { nv = σ.nv }) { locals = xs }) l ∙ ap (λ xs. record (record (beside σ) { nv = xs }) { locals = τ.locals }) n ∙ ap
    (λ (υ : Store). record (record υ { nv = τ.nv }) { locals = τ.locals }) b

pub same_store : (σ τ : Store) → length σ.locals ≡ length τ.locals → length σ.nv ≡ length τ.nv → ((q : Place) → there σ q ≡ true → held_at σ q ≡ held_at τ q) → beside σ ≡ beside τ → σ ≡ τ
same_store σ τ l n h b =
    same_parts σ τ (same_locals σ.locals τ.locals l (λ i s. h (Local i) (grind (arith, s)))) (same_stored σ.nv τ.nv n (λ i s. h (Global i) (grind (arith, s)))) b

-- ---- what is left holds what it held

pub left_held : (σ : Store) (n : ℕ) → n ≤ length σ.locals → (q : Place) → has_place n (length σ.nv) q ≡ true → held_at (left_at n σ) q ≡ held_at σ q
left_held σ n b (Local l) h = let c : l < n = grind (arith, h) in ap (λ o. unwrap_or o nothing) (at_drop σ.locals (length σ.locals - n) l (omega (arith, c, b)))
left_held σ n b (Global g) h = refl
left_held σ n b (Turn z) h = absurd (true≢false (sym h))
left_held σ n b Nowhere h = absurd (true≢false (sym h))

pub left_length : (σ : Store) (n : ℕ) → n ≤ length σ.locals → length (left_at n σ).locals ≡ n
left_length σ n b = let d = drop_length σ.locals (length σ.locals - n) in omega (arith, d, b)

-- ---- what is copied back

module _ (from : Store) where
  one_locals : (l : ℕ) (w : Passing) (s : Passed) (σ : Store) → length (copied_back from l w s σ).locals ≡ length σ.locals
  one_locals l passings.Mutable (Lent a) σ = put_locals σ a (held_at from (Local l))
  one_locals l passings.Mutable (Copied v) σ = refl
  one_locals l passings.Shared s σ = refl
  one_locals l passings.Value s σ = refl

  one_nv : (l : ℕ) (w : Passing) (s : Passed) (σ : Store) → length (copied_back from l w s σ).nv ≡ length σ.nv
  one_nv l passings.Mutable (Lent a) σ = put_nv σ a (held_at from (Local l))
  one_nv l passings.Mutable (Copied v) σ = refl
  one_nv l passings.Shared s σ = refl
  one_nv l passings.Value s σ = refl

  one_beside : (l : ℕ) (w : Passing) (s : Passed) (σ : Store) → beside (copied_back from l w s σ) ≡ beside σ
  one_beside l passings.Mutable (Lent (Local a)) σ = refl
  one_beside l passings.Mutable (Lent (Global a)) σ = refl
  one_beside l passings.Mutable (Lent (Turn a)) σ = refl
  one_beside l passings.Mutable (Lent Nowhere) σ = refl
  one_beside l passings.Mutable (Copied v) σ = refl
  one_beside l passings.Shared s σ = refl
  one_beside l passings.Value s σ = refl

  pub copied_locals : (l : ℕ) (qs : List Param) (ps : List Passed) (σ : Store) → length (all_copied_back from l qs ps σ).locals ≡ length σ.locals
  copied_locals l [] ps σ = refl
  copied_locals l (q ∷ qs) [] σ = refl
  copied_locals l (q ∷ qs) (s ∷ ps) σ = copied_locals (suc l) qs ps (copied_back from l q.passing s σ) ∙ one_locals l q.passing s σ

  pub copied_nv : (l : ℕ) (qs : List Param) (ps : List Passed) (σ : Store) → length (all_copied_back from l qs ps σ).nv ≡ length σ.nv
  copied_nv l [] ps σ = refl
  copied_nv l (q ∷ qs) [] σ = refl
  copied_nv l (q ∷ qs) (s ∷ ps) σ = copied_nv (suc l) qs ps (copied_back from l q.passing s σ) ∙ one_nv l q.passing s σ

  pub copied_beside : (l : ℕ) (qs : List Param) (ps : List Passed) (σ : Store) → beside (all_copied_back from l qs ps σ) ≡ beside σ
  copied_beside l [] ps σ = refl
  copied_beside l (q ∷ qs) [] σ = refl
  copied_beside l (q ∷ qs) (s ∷ ps) σ = copied_beside (suc l) qs ps (copied_back from l q.passing s σ) ∙ one_beside l q.passing s σ

  -- the place isn't lent by `&mut`
  abbrev pub NotLent : List Param → List Passed → Place → Type 0
  NotLent qs ps a = (i : ℕ) → passing_at qs i ≡ Some passings.Mutable → lent_place ps i ≡ Some a → ⊥

  later_lent : (s : Passed) (ps : List Passed) (i : ℕ) → lent_place (s ∷ ps) (suc i) ≡ lent_place ps i
  later_lent (Copied v) ps i = refl
  later_lent (Lent b) ps i = refl

  one_other : (l : ℕ) (w : Passing) (s : Passed) (ps : List Passed) (σ : Store) (a : Place) → (w ≡ passings.Mutable → lent_place (s ∷ ps) 0 ≡ Some a → ⊥) →
      held_at (copied_back from l w s σ) a ≡ held_at σ a
  one_other l passings.Mutable (Lent b) ps σ a n = held_put_other σ b a (held_at from (Local l)) (λ e. n refl (ap Some e))
  one_other l passings.Mutable (Copied v) ps σ a n = refl
  one_other l passings.Shared s ps σ a n = refl
  one_other l passings.Value s ps σ a n = refl

  -- such a place holds what it held
  pub copied_other : (l : ℕ) (qs : List Param) (ps : List Passed) (σ : Store) (a : Place) → NotLent qs ps a → held_at (all_copied_back from l qs ps σ) a ≡ held_at σ a
  copied_other l [] ps σ a n = refl
  copied_other l (q ∷ qs) [] σ a n = refl
  copied_other l (q ∷ qs) (s ∷ ps) σ a n =
      copied_other (suc l) qs ps (copied_back from l q.passing s σ) a (λ i e f. n (suc i) e (later_lent s ps i ∙ f))
      ∙ one_other l q.passing s ps σ a (λ e f. n 0 (ap Some e) f)

  there_same : (σ τ : Store) (a : Place) → length σ.locals ≡ length τ.locals → length σ.nv ≡ length τ.nv → there σ a ≡ there τ a
  there_same σ τ a l n = ap (λ k. has_place k (length σ.nv) a) l ∙ ap (λ k. has_place (length τ.locals) k a) n

  abbrev pub Once : List Param → List Passed → Type 0
  Once qs ps = (i j : ℕ) (q : Place) → passing_at qs i ≡ Some passings.Mutable → lent_place ps i ≡ Some q → lent_place ps j ≡ Some q → i ≡ j

  -- one that is holds what its variable holds
  pub copied_here : (l : ℕ) (qs : List Param) (ps : List Passed) (σ : Store) (i : ℕ) (a : Place) → Once qs ps → passing_at qs i ≡ Some passings.Mutable → lent_place ps i ≡ Some a → there σ a ≡ true →
      held_at (all_copied_back from l qs ps σ) a ≡ held_at from (Local (l + i))
  copied_here l [] ps σ i a once m e t = absurd (none-some _ m)
  copied_here l (q ∷ qs) [] σ i a once m e t = absurd (none-some _ e)
  copied_here l (q ∷ qs) (Copied v ∷ ps) σ zero a once m e t = absurd (none-some _ e)
  copied_here l (q ∷ qs) (Lent b ∷ ps) σ zero a once m e t =
      let s : l ≡ l + 0 = omega arith in
      copied_other (suc l) qs ps (copied_back from l q.passing (Lent b) σ) a (λ j k f. let z = once 0 (suc j) a m e f in absurd (omega (arith, z)))
      ∙ ap (λ w. held_at (copied_back from l w (Lent b) σ) a) (same_Some q.passing passings.Mutable m)
      ∙ ap (λ c. held_at (put σ c (held_at from (Local l))) a) (same_Some b a e)
      ∙ held_put σ a (held_at from (Local l)) ∙ ap (λ c. if c then held_at from (Local l) else held_at σ a) t
      ∙ ap (λ k. held_at from (Local k)) s
  copied_here l (q ∷ qs) (s ∷ ps) σ (suc i) a once m e t =
      let n : suc l + i ≡ l + suc i = omega arith in
      copied_here (suc l) qs ps (copied_back from l q.passing s σ) i a
      (λ j k b f g h. let z = once (suc j) (suc k) b f (later_lent s ps j ∙ g) (later_lent s ps k ∙ h) in omega (arith, z))
      m (sym (later_lent s ps i) ∙ e)
      (there_same (copied_back from l q.passing s σ) σ a (one_locals l q.passing s σ) (one_nv l q.passing s σ) ∙ t)
      ∙ ap (λ k. held_at from (Local k)) n

-- ---- whether a place is lent

lent_here : (s : Option Place) (a : Place) → IsCell a → (s ≡ Some a) ⊎ (s ≡ Some a → ⊥)
lent_here None a c = inr (λ e. none-some a e)
lent_here (Some (Local l)) (Local m) c = by (l == m) refl
  where
    by : (b : Bool) → (l == m) ≡ b → (Some (Local l) ≡ Some (Local m)) ⊎ (Some (Local l) ≡ Some (Local m) → ⊥)
    by true e = let n : l ≡ m = grind (arith, e) in inl (ap (λ k. Some (Local k)) n)
    by false e = inr (λ q. let n : l ≡ m = cc in absurd (grind (arith, e, n)))
lent_here (Some (Global l)) (Global m) c = by (l == m) refl
  where
    by : (b : Bool) → (l == m) ≡ b → (Some (Global l) ≡ Some (Global m)) ⊎ (Some (Global l) ≡ Some (Global m) → ⊥)
    by true e = let n : l ≡ m = grind (arith, e) in inl (ap (λ k. Some (Global k)) n)
    by false e = inr (λ q. let n : l ≡ m = cc in absurd (grind (arith, e, n)))
lent_here (Some (Local l)) (Global m) c = inr (λ e. absurd (cc))
lent_here (Some (Global l)) (Local m) c = inr (λ e. absurd (cc))
lent_here (Some (Turn z)) (Local m) c = inr (λ e. absurd (cc))
lent_here (Some (Turn z)) (Global m) c = inr (λ e. absurd (cc))
lent_here (Some Nowhere) (Local m) c = inr (λ e. absurd (cc))
lent_here (Some Nowhere) (Global m) c = inr (λ e. absurd (cc))
lent_here (Some q) (Turn z) c = absurd c
lent_here (Some q) Nowhere c = absurd c

pub lent_or_not : (ps : List Passed) (a : Place) → IsCell a → ((i : ℕ) × (lent_place ps i ≡ Some a)) ⊎ ((i : ℕ) → lent_place ps i ≡ Some a → ⊥)
lent_or_not [] a c = inr (λ i e. none-some a e)
lent_or_not (s ∷ ps) a c = elim (lent_here (lent_place (s ∷ ps) 0) a c) [
  | inl e ↦ inl (0, e)
  | inr n ↦ elim (lent_or_not ps a c) [
    | inl h ↦ inl (suc h.0, later s h.0 ∙ h.1)
    | inr m ↦ inr (λ i. none i n m)
  ]
]
  where
    later : (s : Passed) (i : ℕ) → lent_place (s ∷ ps) (suc i) ≡ lent_place ps i
    later (Copied v) i = refl
    later (Lent b) i = refl

    none : (i : ℕ) → (lent_place (s ∷ ps) 0 ≡ Some a → ⊥) → ((i : ℕ) → lent_place ps i ≡ Some a → ⊥) → lent_place (s ∷ ps) i ≡ Some a → ⊥
    none zero n m e = n e
    none (suc i) n m e = m i (sym (later s i) ∙ e)
