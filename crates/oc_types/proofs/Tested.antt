-- Tests of the first of a list.
use Rattle.std.proofs.Common.{◌≡◌, Bool, List, ◌∷◌, ap, ◌∙◌}
use Rattle.std.specs.Prelude.{◌&&◌, ◌||◌}
use Rattle.std.specs.List.{list_all, list_any}

-- where the first of a list passes the test, it is up to the others whether all do
pub all_by : {A : Type 0} (test : A → Bool) (x : A) (front rest : List A) (b : Bool) → front ≡ x ∷ rest → test x ≡ b → list_all test front ≡ b && list_all test rest
all_by test x front rest b e h = ap (list_all test) e ∙ ap (λ c. c && list_all test rest) h

-- where it passes, one does; else it is up to the others
pub any_by : {A : Type 0} (test : A → Bool) (x : A) (front rest : List A) (b : Bool) → front ≡ x ∷ rest → test x ≡ b → list_any test front ≡ b || list_any test rest
any_by test x front rest b e h = ap (list_any test) e ∙ ap (λ c. c || list_any test rest) h
