-- A walk back along links: it ends with all that reaches one of the numbers that it began with.
use Rattle.std.proofs.Common.{◌≡◌, ◌<◌, ◌≤◌, ◌+◌, ℕ, zero, suc, Bool, true, false, List, length, refl, sym, ap, ◌∙◌, true≢false, arith, subst}
use Rattle.std.specs.Prelude.{◌&&◌, ◌||◌, nat_eq}
use Rattle.std.proofs.Math.ListN.{get_or}
use Rattle.std.proofs.lemmas.Bool.{eqb-true, and_from, and_parts, or_left, or_right}
use Rattle.std.proofs.lemmas.Bool.Decides.{eqb_tells}
use mathlib.Core.Logic.{inl, inr}
use Rattle.oc_tree.specs.Reach.{Links, linked, leads, reaches, some_below, reaches_some}
use Rattle.oc_tree.proofs.ReachLaws.{or_elim, links_lead, leads_trans, least}
use Rattle.oc_reach.specs.Marked.{is_in}
use Rattle.oc_reach.specs.Within.{IsWithin}
use Rattle.oc_reach.proofs.Bools.{both_ways}
use Rattle.oc_reach.proofs.Lists.{place_of, in_at}

-- what is linked to the first `i` numbers is there
abbrev pub IsDone : Links → List ℕ → ℕ → Type 0
IsDone links xs i = (j : ℕ) → j < i → j < length xs → (u : ℕ) → linked links u (get_or xs j 0) ≡ true → is_in xs u ≡ true

-- `u` reaches one of the numbers
abbrev pub IsFrom : Links → ℕ → List ℕ → ℕ → Type 0
IsFrom links n start u = (s : ℕ) × (is_in start s ≡ true) × (reaches links n u s ≡ true)

pub some_at : (n : ℕ) (p : ℕ → Bool) (v : ℕ) → v < n → p v ≡ true → some_below n p ≡ true
some_at zero p v h e = absurd (omega arith)
some_at (suc n) p v h e = elim (eqb_tells v n) [
  | inl q ↦ or_left (p n) (some_below n p) (subst (λ x. p x ≡ true) q.1 e)
  | inr q ↦ let small : v < n = omega (arith, q.1) in or_right (p n) (some_below n p) (some_at n p v small e)
]

pub some_is : (n : ℕ) (p : ℕ → Bool) → some_below n p ≡ true → (v : ℕ) × (v < n) × (p v ≡ true)
some_is zero p h = absurd (true≢false (sym h))
some_is (suc n) p h = or_elim (p n) (some_below n p) h
    (λ e. (n, omega arith, e))
    (λ e. let q = some_is n p e in (q.0, omega (arith, q.1), q.2))

-- tests that agree below `n`
pub some_same : (n : ℕ) (p q : ℕ → Bool) → ((v : ℕ) → v < n → p v ≡ q v) → some_below n p ≡ some_below n q
some_same zero p q h = refl
some_same (suc n) p q h =
    let rest = some_same n p q (λ v k. h v (omega (arith, k))) in
    ap (λ b. b || some_below n p) (h n (omega arith)) ∙ ap (λ b. q n || b) rest

-- what is linked to what reaches a number reaches it
pub one_back : (links : Links) (n : ℕ) (start : List ℕ) (u v : ℕ) → IsWithin links n → linked links u v ≡ true → IsFrom links n start v → IsFrom links n start u
one_back links n start u v within h f =
    let uv = links_lead links n u v h in (
      f.0,
      f.1,
      or_elim (nat_eq v f.0) (leads links n v f.0) f.2
          (λ e. or_right (nat_eq u f.0) (leads links n u f.0) (subst (λ x. leads links n u x ≡ true) (eqb-true v f.0 e) uv))
          (λ e. or_right (nat_eq u f.0) (leads links n u f.0) (leads_trans links n u v f.0 (within u v h).1 uv e)),
    )

-- all that reaches what is there is there, once every place is done
back : (links : Links) (n : ℕ) (xs : List ℕ) → IsDone links xs (length xs) → (u v : ℕ) → reaches links n u v ≡ true → is_in xs v ≡ true → is_in xs u ≡ true
back links n xs done u v h =
    let direct = λ (a b : ℕ) (k : linked links a b ≡ true) (i : is_in xs b ≡ true). (let p = place_of xs b i in done p.0 p.1 p.1 a (subst (λ x. linked links a x ≡ true) (sym p.2) k)) in
    or_elim (nat_eq u v) (leads links n u v) h
    (λ e. λ i. subst (λ x. is_in xs x ≡ true) (sym (eqb-true u v e)) i)
    (λ l. least links (λ a b. is_in xs b ≡ true → is_in xs a ≡ true) direct (λ a w b p q i. p (q i)) n u v l)

pub complete : (links : Links) (n : ℕ) (start xs : List ℕ)
    → ((v : ℕ) → is_in start v ≡ true → v < n)
    → ((u : ℕ) → is_in start u ≡ true → is_in xs u ≡ true)
    → ((u : ℕ) → is_in xs u ≡ true → IsFrom links n start u)
    → IsDone links xs (length xs)
    → (u : ℕ) → is_in xs u ≡ reaches_some links n (is_in start) u
complete links n start xs inside started sound done u = both_ways _ _
    (λ h. let f = sound u h in some_at n (λ v. is_in start v && reaches links n u v) f.0 (inside f.0 f.1) (and_from _ _ f.1 f.2))
    (λ h. let p = some_is n (λ v. is_in start v && reaches links n u v) h in
    back links n xs done u p.0 (and_parts (is_in start p.0) _ p.2).1 (started p.0 (and_parts (is_in start p.0) _ p.2).0))

pub done_all : (links : Links) (xs : List ℕ) (i : ℕ) → length xs ≤ i → IsDone links xs i → IsDone links xs (length xs)
done_all links xs i h done j a b = done j (omega arith) b

-- one more place is done
pub done_more : (links : Links) (xs new : List ℕ) (i : ℕ)
    → i < length xs
    → ((j : ℕ) → j < length xs → get_or new j 0 ≡ get_or xs j 0)
    → ((u : ℕ) → is_in new u ≡ is_in xs u || linked links u (get_or xs i 0))
    → IsDone links xs i → IsDone links new (i + 1)
done_more links xs new i h same marked done j less inside u c =
    elim (eqb_tells j i) [
      | inl e ↦
          let c' : linked links u (get_or xs i 0) ≡ true = subst (λ x. linked links u x ≡ true) (same i h) (subst (λ k. linked links u (get_or new k 0) ≡ true) e.1 c) in
          marked u ∙ or_right (is_in xs u) (linked links u (get_or xs i 0)) c'
      | inr n ↦
          let small : j < i = omega (arith, n.1) in
          let js : j < length xs = omega (arith, small, h) in
          let c' : linked links u (get_or xs j 0) ≡ true = subst (λ x. linked links u x ≡ true) (same j js) c in
          marked u ∙ or_left (is_in xs u) (linked links u (get_or xs i 0)) (done j small js u c')
    ]

pub sound_more : (links : Links) (n : ℕ) (start xs new : List ℕ) (i : ℕ)
    → IsWithin links n
    → i < length xs
    → ((u : ℕ) → is_in new u ≡ is_in xs u || linked links u (get_or xs i 0))
    → ((u : ℕ) → is_in xs u ≡ true → IsFrom links n start u)
    → (u : ℕ) → is_in new u ≡ true → IsFrom links n start u
sound_more links n start xs new i within h marked sound u k =
    or_elim (is_in xs u) (linked links u (get_or xs i 0)) (sym (marked u) ∙ k)
    (λ e. sound u e)
    (λ e. one_back links n start u (get_or xs i 0) within e (sound (get_or xs i 0) (in_at xs i h)))

-- what is there is below the bound
pub from_below : (links : Links) (n : ℕ) (start : List ℕ) (u : ℕ) → IsWithin links n → ((v : ℕ) → is_in start v ≡ true → v < n) → IsFrom links n start u → u < n
from_below links n start u within inside f =
    or_elim (nat_eq u f.0) (leads links n u f.0) f.2
    (λ e. subst (λ x. x < n) (sym (eqb-true u f.0 e)) (inside f.0 f.1))
    (λ l. least links (λ a b. a < n) (λ a b k. (within a b k).0) (λ a w b p q. p) n u f.0 l)
