-- What stands behind a key.
use Rattle.std.proofs.Common.{ℕ, ◌+◌, ◌≡◌, true, false, List, [], ◌∷◌, ◌++◌, length, take, drop, Option, Some, None, IfSome, IfNone, Bor, refl, sym, ap, ◌∙◌}
use Rattle.std.specs.Str.{bytes_eq}
use Rattle.std.specs.Option.{MatchOption}
use Rattle.std.specs.Cmp.Lexicographic.{same_text}
use Rattle.std.proofs.lemmas.List.{take-append-drop}
use Rattle.std.proofs.lemmas.Cmp.{nat_list_eq_equiv}
use Rattle.oc_items.specs.Reading.{StandsBehind}

abbrev Strips : List ℕ → List ℕ → Option (Bor (List ℕ)) → Type 0
Strips key bytes r = MatchOption r (bytes_eq (take (length key) bytes) key ≡ false)
    (λ x. (bytes_eq (take (length key) bytes) key ≡ true) × (x.now ≡ drop (length key) bytes) × (length x.now + length key ≡ length bytes))

front_is : (key rest : List ℕ) → take (length key) (key ++ rest) ≡ key
front_is [] rest = refl
front_is (k ∷ key) rest = ap (λ (l : List ℕ). k ∷ l) (front_is key rest)

pub stripped : (key bytes : List ℕ) (r : Option (Bor (List ℕ))) → Strips key bytes r → IfSome r (λ rest. StandsBehind key bytes rest.now)
stripped key bytes None h = tt
stripped key bytes (Some x) h =
    ap (λ (l : List ℕ). l ++ x.now) (sym (same_text (take (length key) bytes) key (sym h.0)))
    ∙ ap (λ (l : List ℕ). take (length key) bytes ++ l) h.1 ∙ take-append-drop (length key) bytes

pub not_stripped : (key bytes : List ℕ) (r : Option (Bor (List ℕ))) → Strips key bytes r → IfNone r ((rest : List ℕ) → StandsBehind key bytes rest → ⊥)
not_stripped key bytes (Some x) h = tt
not_stripped key bytes None h = λ rest e.
    let f : take (length key) bytes ≡ key = ap (λ (l : List ℕ). take (length key) l) (sym e) ∙ front_is key rest in
    let t : true ≡ false = sym (nat_list_eq_equiv.refl key) ∙ ap (λ (l : List ℕ). bytes_eq l key) (sym f) ∙ h in
    cc t
