-- Function after function, callers first.
use Rattle.std.proofs.Common.{◌≡◌, ℕ, zero, suc, ◌+◌, ◌<◌, ◌≤◌, ◌≢◌, List, length, get_or, Some, None, refl, sym, ap, ◌∙◌, subst, ⊎_elim, inl, inr, arith, Bool, true, false, nat_lt}
use Rattle.std.proofs.lemmas.Bool.{and_parts}
use Rattle.std.specs.Prelude.{◌⊎◌, ◌==◌, ◌&&◌, ◌||◌, if◌then◌else◌, slice_get, replicate}
use Rattle.std.proofs.lemmas.Bool.Decides.{eqb_tells}
use Rattle.oc_tree.specs.Reach.{linked}
use Rattle.oc_isa.specs.Image.{Parts}
use Rattle.oc_verify.specs.Rules.{calls_of}
use Rattle.oc_verify.specs.Facts.{IsRanked}
use Rattle.oc_verify.specs.Work.{Marks}
use Rattle.oc_verify.specs.Tables.{Passed, IsDone, IsNext, all_done, done_by, with_done}
use Rattle.oc_verify.proofs.Exact.{either, or_second}
use Rattle.oc_verify.proofs.VerifiedLaws.{calls_low}

pub same_bool : (a b : Bool) → (a ≡ true → b ≡ true) → (b ≡ true → a ≡ true) → a ≡ b
same_bool true b f g = sym (f refl)
same_bool false true f g = g refl
same_bool false false f g = refl

pub no_some : {A : Type 0} (n k : ℕ) (x : A) → slice_get (replicate n None) k ≡ Some (Some x) → ⊥
no_some zero k x e = absurd (cc)
no_some (suc n) zero x e = absurd (cc)
no_some (suc n) (suc k) x e = no_some n k x e

pub copies_long : {A : Type 0} (n : ℕ) (x : A) → length (replicate n x) ≡ n
copies_long zero x = refl
copies_long (suc n) x = ap suc (copies_long n x)

-- these functions are the same ones
pub done_as : (i : Parts) (one two : ℕ → Bool) (tab : Marks) (ps : Passed) → ((h : ℕ) → one h ≡ two h) → IsDone i one tab ps → IsDone i two tab ps
done_as i one two tab ps e D = let same : one ≡ two = (λ j h. e h j) in subst (λ d. IsDone i d tab ps) same D

-- nothing is done yet
pub none_done : (i : Parts) (done : ℕ → Bool) (tab : Marks) (ps : Passed) → ((h : ℕ) → done h ≡ true → ⊥) → ((a : ℕ) → tab a ≡ None) → ps ≡ replicate (length i.functions) None → IsDone i done tab ps
none_done i done tab ps never blank e = record {
  calls = record {
    many = ap length e ∙ copies_long (length i.functions) None;
    sized = λ g cs q. absurd (no_some (length i.functions) g cs (ap (λ l. slice_get l g) (sym e) ∙ q));
    small = λ g cs q. absurd (no_some (length i.functions) g cs (ap (λ l. slice_get l g) (sym e) ∙ q));
    suits = λ h g a p d s. absurd (never h d);
    met = λ g j n cs q l. absurd (no_some (length i.functions) g cs (ap (λ l. slice_get l g) (sym e) ∙ q));
    passes = λ g cs q. absurd (no_some (length i.functions) g cs (ap (λ l. slice_get l g) (sym e) ∙ q));
  };
  works = λ h d w. absurd (never h d);
  homes = λ a p q. absurd (let z : Some p ≡ None = sym q ∙ blank a in (cc));
  slots = λ h a x d c. absurd (never h d);
}

module _ (i : Parts) (ranks : List ℕ) (R : IsRanked i ranks) where
  abbrev n : ℕ
  n = length i.functions

  parts : (k f h : ℕ) → done_by n ranks k f h ≡ true → (h < n) × ((n < get_or ranks h 0 + k) ⊎ ((h < f) × (get_or ranks h 0 + k ≡ n)))
  parts k f h d =
      let low : nat_lt h n ≡ true = (and_parts (nat_lt h n) _ d).0 in (
        grind (arith, low),
        ⊎_elim
            (λ e. inl (grind (arith, e)))
            (λ e. inr (
              let x : nat_lt h f ≡ true = (and_parts (nat_lt h f) (get_or ranks h 0 + k == n) e).0 in
                  grind (arith, x),
              let y : (get_or ranks h 0 + k == n) ≡ true = (and_parts (nat_lt h f) (get_or ranks h 0 + k == n) e).1 in grind (arith, y),
            ))
            (either (nat_lt n (get_or ranks h 0 + k)) (nat_lt h f && (get_or ranks h 0 + k == n)) (and_parts (nat_lt h n) _ d).1),
      )

  above_by : (k f h : ℕ) → h < n → n < get_or ranks h 0 + k → done_by n ranks k f h ≡ true
  above_by k f h l r =
      let x : nat_lt h n ≡ true = grind (arith, l) in
      let y : nat_lt n (get_or ranks h 0 + k) ≡ true = grind (arith, r) in
      (λ j. x j && (y j || (nat_lt h f && (get_or ranks h 0 + k == n))))

  equal_by : (k f h : ℕ) → h < n → h < f → get_or ranks h 0 + k ≡ n → done_by n ranks k f h ≡ true
  equal_by k f h l u r =
      let x : nat_lt h n ≡ true = grind (arith, l) in
      let y : nat_lt h f ≡ true = grind (arith, u) in
      let z : (get_or ranks h 0 + k == n) ≡ true = grind (arith, r) in
      let w : (nat_lt h f && (get_or ranks h 0 + k == n)) ≡ true = (λ j. y j && z j) in
      (λ j. x j && (nat_lt n (get_or ranks h 0 + k) || w j)) ∙ or_second (nat_lt n (get_or ranks h 0 + k)) true refl

  pub none_by : (h : ℕ) → done_by n ranks 0 0 h ≡ true → ⊥
  none_by h d = ⊎_elim (λ e. let l = R.low h in omega (arith, e, l)) (λ e. let x = e.0 in omega (arith, x)) (parts 0 0 h d).1

  less_or : (a b : ℕ) → a < b + 1 → (a ≡ b) ⊎ (a < b)
  less_or zero zero l = inl refl
  less_or zero (suc b) l = inr (omega arith)
  less_or (suc a) zero l = absurd (omega (arith, l))
  less_or (suc a) (suc b) l = ⊎_elim (λ e. inl (ap suc e)) (λ e. inr (omega (arith, e))) (less_or a b (omega (arith, l)))

  -- the next function's callers are done
  pub is_next : (k f : ℕ) → f < n → get_or ranks f 0 + k ≡ n → IsNext i (done_by n ranks k f) f
  is_next k f l e = record {
    fresh = not_yet (done_by n ranks k f f) refl;
    closed = λ u v c d. above_by k f u (low u v c) (let r = R.falls u v c in ⊎_elim (λ x. omega (arith, r, x)) (λ x. let y = x.1 in omega (arith, r, y)) (parts k f v d).1);
    callers = λ u c. above_by k f u (low u f c) (let r = R.falls u f c in omega (arith, r, e));
  }
    where
      low : (u v : ℕ) → linked (calls_of i) u v ≡ true → u < n
      low u v c = let d : nat_lt u n ≡ true = calls_low i ranks R u v c in grind (arith, d)

      not_yet : (b : Bool) → done_by n ranks k f f ≡ b → b ≡ false
      not_yet false q = refl
      not_yet true q = absurd (⊎_elim (λ x. omega (arith, x, e)) (λ x. let y = x.0 in omega (arith, y)) (parts k f f q).1)

  -- with it, the functions that are done are these
  pub with_next : (k f : ℕ) → f < n → get_or ranks f 0 + k ≡ n → (h : ℕ) → with_done (done_by n ranks k f) f h ≡ done_by n ranks k (f + 1) h
  with_next k f l e h = same_bool (with_done (done_by n ranks k f) f h) (done_by n ranks k (f + 1) h)
      (λ d. ⊎_elim
      (λ q. equal_by k (f + 1) h (let x = q.1 in omega (arith, x, l)) (let x = q.1 in omega (arith, x)) (ap (λ x. get_or ranks x 0 + k) q.1 ∙ e))
      (λ q. later (sym (ap (λ b. if b then true else done_by n ranks k f h) q.0) ∙ d))
      (eqb_tells h f))
      (λ d. let p = parts k (f + 1) h d in
      ⊎_elim
      (λ q. ap (λ b. if b then true else done_by n ranks k f h) q.0)
      (λ q. ap (λ b. if b then true else done_by n ranks k f h) q.0 ∙ ⊎_elim
      (λ x. above_by k f h p.0 x)
      (λ x. ⊎_elim (λ y. absurd (q.1 y)) (λ y. equal_by k f h p.0 y x.1) (less_or h f x.0))
      p.1)
      (eqb_tells h f))
    where
      later : done_by n ranks k f h ≡ true → done_by n ranks k (f + 1) h ≡ true
      later d = let p = parts k f h d in ⊎_elim (λ x. above_by k (f + 1) h p.0 x) (λ x. let y = x.0 in equal_by k (f + 1) h p.0 (omega (arith, y)) x.1) p.1

  -- a function of another rank changes nothing
  pub without_next : (k f : ℕ) → get_or ranks f 0 + k ≢ n → (h : ℕ) → done_by n ranks k f h ≡ done_by n ranks k (f + 1) h
  without_next k f e h = same_bool (done_by n ranks k f h) (done_by n ranks k (f + 1) h)
      (λ d. let p = parts k f h d in ⊎_elim (λ x. above_by k (f + 1) h p.0 x) (λ x. let y = x.0 in equal_by k (f + 1) h p.0 (omega (arith, y)) x.1) p.1)
      (λ d. let p = parts k (f + 1) h d in
      ⊎_elim
      (λ x. above_by k f h p.0 x)
      (λ x. ⊎_elim (λ y. absurd (e (ap (λ z. get_or ranks z 0 + k) (sym y) ∙ x.1))) (λ y. equal_by k f h p.0 y x.1) (less_or h f x.0))
      p.1)

  -- the functions of the next rank
  pub next_rank : (k f : ℕ) → n ≤ f → (h : ℕ) → done_by n ranks k f h ≡ done_by n ranks (k + 1) 0 h
  next_rank k f l h = same_bool (done_by n ranks k f h) (done_by n ranks (k + 1) 0 h)
      (λ d. let p = parts k f h d in above_by (k + 1) 0 h p.0 (⊎_elim (λ x. omega (arith, x)) (λ x. let y = x.1 in omega (arith, y)) p.1))
      (λ d. let p = parts (k + 1) 0 h d in
      ⊎_elim
      (λ x. ⊎_elim
      (λ y. let z = p.0 in equal_by k f h p.0 (omega (arith, z, l)) (sym y))
      (λ y. above_by k f h p.0 y)
      (less_or n (get_or ranks h 0 + k) (omega (arith, x))))
      (λ x. absurd (let y = x.0 in omega (arith, y)))
      p.1)

  -- in the end all are done
  pub all_by : (k : ℕ) → n < k → (h : ℕ) → done_by n ranks k 0 h ≡ all_done i h
  all_by k l h = same_bool (done_by n ranks k 0 h) (all_done i h)
      (λ d. let p = (parts k 0 h d).0 in grind (arith, p))
      (λ d. above_by k 0 h (grind (arith, d)) (omega (arith, l)))
