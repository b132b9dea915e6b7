-- A text of one part for each element of a list, where the part tells the element's number, put part by part.
--
-- A loop over xs that puts the part f n x of each x, the n-th, has the invariant
-- Going took (the sink at the start) (the sink now) (text n (drop i xs)) whole,
-- where text n (x ∷ xs) computes to f n x ++ text (n + 1) xs: `step` is then λ n x xs. refl.
use Rattle.std.proofs.Common.{ℕ, ◌+◌, ◌<◌, ◌≡◌, List, ◌∷◌, ◌++◌, length, get_or, drop, subst, ap, sym, ◌∙◌}
use Rattle.std.proofs.lemmas.List.{drop_more}
use Rattle.oc_io.specs.Faults.{TookPart}
use Rattle.oc_io.proofs.Going.{Going, Both, go_on, stop}

-- a text that begins with the part of its first element, with this number
abbrev pub Counts : {X : Type 0} → (ℕ → List X → List ℕ) → (ℕ → X → List ℕ) → Type 0
Counts {X = X} text f = (n : ℕ) (x : X) (xs : List X) → text n (x ∷ xs) ≡ f n x ++ text (n + 1) xs

module _ {S X : Type 0} (took : S → List ℕ → S → Type 0) (both : Both took) (a b c : S) (text : ℕ → List X → List ℕ) (f : ℕ → X → List ℕ) (step : Counts text f)
    (xs : List X) (n i : ℕ) (d : X) (part whole : List ℕ) (h : i < length xs) (is_part : part ≡ f n (get_or xs i d)) (g : Going took a b (text n (drop i xs)) whole) where
  -- what is still to come begins with the part of this element
  next : Going took a b (part ++ text (n + 1) (drop (i + 1) xs)) whole
  next =
      subst (λ (r : List ℕ). Going took a b r whole)
      (ap (text n) (drop_more xs i d h) ∙ step n (get_or xs i d) (drop (i + 1) xs) ∙ ap (λ (p : List ℕ). p ++ text (n + 1) (drop (i + 1) xs)) (sym is_part)) g

  -- the part of this element was put
  pub counted_on : took b part c → Going took a c (text (n + 1) (drop (i + 1) xs)) whole
  counted_on p = go_on took both a b c part (text (n + 1) (drop (i + 1) xs)) whole next p

  -- a fault came within the part of this element
  pub counted_stop : TookPart took b part c → TookPart took a whole c
  counted_stop p = stop took both a b c part (text (n + 1) (drop (i + 1) xs)) whole next p
