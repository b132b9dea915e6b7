-- The bytes up to the first one of a kind.
use Rattle.std.proofs.Common.{◌≡◌, ◌<◌, ℕ, zero, suc, ◌+◌, ◌-◌, Bool, true, false, List, [], ◌∷◌, ◌++◌, length, take, drop, get_or, refl, sym, ap, ◌∙◌, subst, arith, All, take-append-drop, eqb-true}
use Rattle.std.specs.Prelude.{◌≢◌, ◌==◌, not}
use Rattle.std.specs.List.{list_all}
use Rattle.std.proofs.lemmas.Bool.{ne_eqb}
use Rattle.std.proofs.lemmas.List.{drop_more, take_rest}
use Rattle.std.proofs.lemmas.List.Elements.{All-head, All-tail}
use Rattle.oc_audit.specs.Words.{IsTail}

module _ (c : ℕ) where
  pub all_other : (line : List ℕ) → All (λ b. b ≢ c) line → list_all (λ b. not (b == c)) line ≡ true
  all_other [] h = refl
  all_other (b ∷ bs) h = rw (ne_eqb b c (All-head (λ b. b ≢ c) b bs h)) (all_other bs (All-tail (λ b. b ≢ c) b bs h))

  pub front_other : (line : List ℕ) (place : ℕ) → ((k : ℕ) → k < place → get_or line k 0 ≢ c) → list_all (λ b. not (b == c)) (take place line) ≡ true
  front_other [] zero h = refl
  front_other [] (suc n) h = refl
  front_other (b ∷ bs) zero h = refl
  front_other (b ∷ bs) (suc n) h = rw (ne_eqb b c (h 0 (omega arith))) (front_other bs n (λ k l. h (suc k) (omega (arith, l))))

  pub cut_here : (line : List ℕ) (place : ℕ) → place < length line → get_or line place 0 ≡ c
      → take place line ++ (c ∷ take (length line - (place + 1)) (drop (place + 1) line)) ≡ line
  cut_here line place l here =
      ap (λ (t : List ℕ). take place line ++ (c ∷ t)) (take_rest line (place + 1)) ∙ ap (λ (b : ℕ). take place line ++ (b ∷ drop (place + 1) line)) (sym here)
      ∙ ap (λ (t : List ℕ). take place line ++ t) (sym (drop_more line place 0 l)) ∙ take-append-drop place line

pub cut_before : (line : List ℕ) (place : ℕ) → take place line ++ take (length line - place) (drop place line) ≡ line
cut_before line place = ap (λ (t : List ℕ). take place line ++ t) (take_rest line place) ∙ take-append-drop place line

pub tail_before : (line : List ℕ) (place : ℕ) → place < length line → get_or line place 0 ≡ 32 → IsTail (take (length line - place) (drop place line))
tail_before line place l here = subst IsTail (sym (take_rest line place ∙ drop_more line place 0 l)) here

-- ---- nothing is left

pub none_left : (left : List ℕ) (good : Bool) → good ≡ (length left == 0) → good ≡ true → left ≡ []
none_left [] good e h = refl
none_left (b ∷ bs) good e h = let none : suc (length bs) ≡ 0 = eqb-true (suc (length bs)) 0 (sym e ∙ h) in absurd (omega (arith, none))

pub some_left : (left : List ℕ) (good : Bool) → good ≡ (length left == 0) → good ≡ false → left ≡ [] → ⊥
some_left left good e h n = absurd (let no : true ≡ false = ap (λ l. length l == 0) (sym n) ∙ sym e ∙ h in cc (no))
