-- A field by its place.
use Rattle.std.proofs.Common.{ℕ, ◌≡◌, List, [], ◌∷◌, Option, Some, None, get_or, zero, suc, refl, sym}
use Rattle.std.specs.Borrow.{Bor}
use Rattle.std.specs.Prelude.{option_map, unwrap_or}
use Rattle.csv.specs.Records.{field_at}
use Rattle.csv.proofs.RecordFacts.{field-get}

no_field : (fields : List (List ℕ)) (i : ℕ) → field_at fields i ≡ None → get_or fields i [] ≡ []
unfolding field_at
no_field [] i e = refl
no_field (f ∷ fs) zero e = cc e
no_field (f ∷ fs) (suc i) e = no_field fs i e

pub field_or_nothing : (fields : List (List ℕ)) (i : ℕ) (found : Option (Bor (List ℕ))) (nothing result : Bor (List ℕ)) → result ≡ unwrap_or found nothing → nothing.now ≡ []
    → option_map (λ s. s.now) found ≡ field_at fields i → result.now ≡ get_or fields i []
field_or_nothing fields i None nothing result e n h = rw (e, n) (sym (no_field fields i (sym h)))
field_or_nothing fields i (Some bytes) nothing result e n h = rw e (sym (field-get fields i bytes.now (sym h)))
