-- The effects of all functions in one list, with the place where those of each function begin.
use Rattle.std.specs.Prelude.{◌≡◌, ℕ, ◌+◌, List, [], ◌∷◌, length, map, flat_map}
use Rattle.oc_tree.specs.Tree.{TFunction, TProgram}
use Rattle.oc_tree.specs.Numbers.{numbers_on}
use Rattle.oc_effects.specs.Effects.{TEffect, function_effects}

-- those of functions, one after another
abbrev pub all_effects : TProgram → List TFunction → List TEffect
all_effects p fs = flat_map (function_effects p) fs

-- where those of each function begin, the first of them at `n`, and the end of all
abbrev pub starts_from : TProgram → (n : ℕ) → List TFunction → List ℕ
starts_from p n [] = n ∷ []
starts_from p n (f ∷ fs) = n ∷ starts_from p (n + length (function_effects p f)) fs

pub record IsFlat (p : TProgram) (all : List TEffect) (starts : List ℕ) : Type 0 where
  pub all_are : all ≡ all_effects p p.functions
  pub starts_are : starts ≡ starts_from p 0 p.functions
  pub numbered : map (λ e. e.stmt) all ≡ numbers_on 1 (length all)
