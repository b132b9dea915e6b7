-- Numbers at which no row has to be joined.
use Rattle.std.proofs.Common.{◌≡◌, ◌≢◌, ◌<◌, ◌≤◌, ◌⊎◌, inl, inr, ℕ, suc, Bool, true, false, true≢false, List, [], refl, ap, sym, ◌∙◌, length, arith}
use Rattle.std.specs.Prelude.{◌||◌, ◌&&◌, nat_eq, slice_set}
use Rattle.std.proofs.Math.ListN.{get_or, length-set}
use Rattle.std.proofs.lemmas.Bool.{cases_eq, ne_eqb, eq-eqb}
use Rattle.std.proofs.lemmas.List.{get_or-set_same, get_or-set_other}
use Rattle.oc_checked.proofs.BodiesPass.{first_fails, second_fails}
use Rattle.oc_flow.specs.Known.{AreEntered, Cells, EnteredTo, IsSquare, Joined, JoinedEach, cell}
use Rattle.oc_flow.proofs.Cells.{cut}

-- ---- one more row

-- a row joined to the marks, but for its own number
pub entered_row : (k : ℕ) (rows : Cells) (old joined : List Bool) → IsSquare (length rows) rows → k < length rows → EnteredTo k rows old → Joined (get_or rows k []) old joined
    → EnteredTo (suc k) rows (slice_set joined k (get_or old k false))
entered_row k rows old joined s h t j = record {
  width = length-set joined k (get_or old k false) ∙ j.same ∙ t.width;
  each = λ i m l w d e. by i m w d e (cut k i l) (cases_eq m k);
}
  where
    was : (m : ℕ) → m < length rows → (m ≡ k) ⊎ (m ≢ k) → get_or (slice_set joined k (get_or old k false)) m false ≡ false → get_or old m false ≡ false
    was m w (inl q) e =
        let wide = j.same in
        let same = t.width in
        ap (λ n. get_or old n false) q
        ∙ sym (get_or-set_same joined k (get_or old k false) false (omega (arith, wide, same, h)))
        ∙ ap (λ n. get_or (slice_set joined k (get_or old k false)) n false) (sym q)
        ∙ e
    was m w (inr d) e =
        let same = t.width in
        first_fails (get_or old m false) (cell rows k m) (sym (j.cells m (omega (arith, same, w))) ∙ sym (get_or-set_other joined k m (get_or old k false) false d) ∙ e)

    by : (i m : ℕ) → m < length rows → nat_eq i m ≡ false → get_or (slice_set joined k (get_or old k false)) m false ≡ false → (i < k) ⊎ (i ≡ k) → (m ≡ k) ⊎ (m ≢ k) → cell rows i m ≡ false
    by i m w d e (inl l) q = t.each i m l w d (was m w q e)
    by i m w d e (inr p) (inl q) = absurd (true≢false (sym (ap (λ n. nat_eq n m) (p ∙ sym q) ∙ eq-eqb m m refl) ∙ d))
    by i m w d e (inr p) (inr q) =
        let same = t.width in
        ap (λ n. cell rows n m) p
        ∙ second_fails (get_or old m false) (cell rows k m) (sym (j.cells m (omega (arith, same, w))) ∙ sym (get_or-set_other joined k m (get_or old k false) false q) ∙ e)

-- ---- rows that stay

or_nothing : (a b : Bool) → a ≡ a || (false && b)
or_nothing true b = refl
or_nothing false b = refl

or_same : (a b : Bool) → a ≡ a || (a && b)
or_same true b = refl
or_same false b = refl

or_none : (a b : Bool) → a ≡ a || (b && false)
or_none true b = refl
or_none false true = refl
or_none false false = refl

-- ---- marks stay right

pub entered_kept : (number : ℕ) (rows next : Cells) (marks : List Bool) → number < length rows → JoinedEach number (get_or rows number []) rows next → AreEntered rows marks → AreEntered next marks
entered_kept number rows next marks h join t = record {
  width = t.width ∙ sym join.same;
  each = λ i j l m d e. let n = join.same in by i j (omega (arith, n, l)) (omega (arith, n, m)) d e (cases_eq number j);
}
  where
    both : (a b c : Bool) → a ≡ false → (b && c ≡ false) → a || (b && c) ≡ false
    both a b c p q = ap (λ x. x || (b && c)) p ∙ q

    and_none : (b : Bool) → b && false ≡ false
    and_none true = refl
    and_none false = refl

    by : (i j : ℕ) → i < length rows → j < length rows → nat_eq i j ≡ false → get_or marks j false ≡ false → (number ≡ j) ⊎ (number ≢ j) → cell next i j ≡ false
    by i j l m d e (inl q) =
        let none = t.each i j l m d e in
        join.cells i j l m
        ∙ both (cell rows i j) (cell rows i number) (cell rows number j) none (ap (λ b. b && cell rows number j) (ap (cell rows i) q ∙ none))
    by i j l m d e (inr q) =
        let none = t.each i j l m d e in
        join.cells i j l m
        ∙ both (cell rows i j) (cell rows i number) (cell rows number j) none (ap (λ b. cell rows i number && b) (t.each number j h m (ne_eqb number j q) e) ∙ and_none (cell rows i number))

-- ---- a row that is looked through

decided : (j i : ℕ) → (j < i) ⊎ (i ≤ j)
decided j i = grind arith
