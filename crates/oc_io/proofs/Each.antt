-- A text of one part for each element of a list, put part by part.
--
-- A loop over xs that puts the part f x of each x has the invariant
-- Going took (the sink at the start) (the sink now) (text (drop i xs)) whole,
-- where text (x ∷ xs) computes to f x ++ text xs: `step` is then λ x xs. refl.
use Rattle.std.proofs.Common.{ℕ, ◌+◌, ◌<◌, ◌≤◌, ◌≡◌, List, [], ◌∷◌, ◌++◌, length, get_or, drop, subst, ap, ◌∙◌}
use Rattle.std.proofs.lemmas.List.{drop_more, drop_all}
use Rattle.oc_io.specs.Faults.{TookPart}
use Rattle.oc_io.proofs.Going.{Going, Both, go_on, stop}

-- a text that begins with the part of its first element
abbrev pub Steps : {X : Type 0} → (List X → List ℕ) → (X → List ℕ) → Type 0
Steps {X = X} text f = (x : X) (xs : List X) → text (x ∷ xs) ≡ f x ++ text xs

next : {S X : Type 0} (took : S → List ℕ → S → Type 0) (a b : S) (text : List X → List ℕ) (f : X → List ℕ) (step : Steps text f) (xs : List X) (i : ℕ) (d : X) (whole : List ℕ) → i < length xs
    → Going took a b (text (drop i xs)) whole → Going took a b (f (get_or xs i d) ++ text (drop (i + 1) xs)) whole
next took a b text f step xs i d whole h g =
    subst (λ (r : List ℕ). Going took a b r whole) (ap text (drop_more xs i d h) ∙ step (get_or xs i d) (drop (i + 1) xs)) g

pub each_on : {S X : Type 0} (took : S → List ℕ → S → Type 0) (both : Both took) (a b c : S) (text : List X → List ℕ) (f : X → List ℕ) (step : Steps text f) (xs : List X) (i : ℕ)
    (d : X) (whole : List ℕ) → i < length xs
    → Going took a b (text (drop i xs)) whole → took b (f (get_or xs i d)) c → Going took a c (text (drop (i + 1) xs)) whole
each_on took both a b c text f step xs i d whole h g p =
    go_on took both a b c (f (get_or xs i d)) (text (drop (i + 1) xs)) whole (next took a b text f step xs i d whole h g) p

pub each_stop : {S X : Type 0} (took : S → List ℕ → S → Type 0) (both : Both took) (a b c : S) (text : List X → List ℕ) (f : X → List ℕ) (step : Steps text f) (xs : List X) (i : ℕ)
    (d : X) (whole : List ℕ) → i < length xs
    → Going took a b (text (drop i xs)) whole → TookPart took b (f (get_or xs i d)) c → TookPart took a whole c
each_stop took both a b c text f step xs i d whole h g p =
    stop took both a b c (f (get_or xs i d)) (text (drop (i + 1) xs)) whole (next took a b text f step xs i d whole h g) p

pub each_done : {S X : Type 0} (took : S → List ℕ → S → Type 0) (a b : S) (text : List X → List ℕ) (xs : List X) (i : ℕ) (whole : List ℕ) → length xs ≤ i
    → Going took a b (text (drop i xs)) whole → Going took a b (text []) whole
each_done took a b text xs i whole h g = subst (λ (r : List ℕ). Going took a b r whole) (ap text (drop_all i xs h)) g
