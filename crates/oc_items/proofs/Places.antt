-- A name is told by its place.
use Rattle.std.proofs.Common.{ℕ, ◌+◌, ◌<◌, ◌≡◌, ◌≢◌, true, cond, List, [], ◌∷◌, length, get_or, sym, ◌∙◌, arith, suc, zero, inl, inr}
use Rattle.std.specs.List.{AllPairs}
use Rattle.std.specs.Str.{bytes_eq}
use Rattle.std.specs.Cmp.Lexicographic.{same_text}
use Rattle.std.proofs.lemmas.Bool.{cases_Bool}
use Rattle.std.proofs.lemmas.Cmp.{nat_list_eq_equiv}
use Rattle.oc_tree.specs.Names.{Text}

-- the place of the first of these names that is this one, counted from here
abbrev pub place_from : ℕ → List Text → Text → ℕ
place_from here [] name = here
place_from here (n ∷ rest) name = cond (bytes_eq n name) here (place_from (here + 1) rest name)

abbrev pub Differ : List Text → Type 0
Differ names = AllPairs (λ m n. m ≢ n) names

rest_differ : (n : Text) (rest : List Text) → Differ (n ∷ rest) → Differ rest
rest_differ n rest h = λ i j d below in_range. h (suc i) (suc j) d (omega (arith, below)) (omega (arith, in_range))

is_itself : (n : Text) → bytes_eq n n ≡ true
is_itself n = nat_list_eq_equiv.refl n

place : (here : ℕ) (names : List Text) (k : ℕ) → Differ names → k < length names → place_from here names (get_or names k []) ≡ here + k
place here [] k h l = absurd (omega (arith, l))
place here (n ∷ rest) zero h l = rw (is_itself n) (omega arith)
place here (n ∷ rest) (suc k) h l =
    let other = get_or rest k [] in
    elim (cases_Bool (bytes_eq n other)) [
      | inl same ↦ absurd (h 0 (suc k) [] (omega arith) (omega (arith, l)) (same_text n other (sym same)))
      | inr apart ↦ rw apart (place (here + 1) rest k (rest_differ n rest h) (omega (arith, l)) ∙ omega arith)
    ]

pub place_back : (names : List Text) (k : ℕ) → Differ names → k < length names → place_from 0 names (get_or names k []) ≡ k
place_back names k h l = place 0 names k h l ∙ omega arith
