-- What sensors show are words.
use Rattle.std.proofs.Common.{ℕ, ℤ, pos, negsuc, zero, suc, ◌+◌, ◌<◌, ◌^◌, ◌≡◌, List, [], ◌∷◌, length, Option, Some, None, Bool, true, false, arith}
use Rattle.std.proofs.Common.{inl, inr, refl, subst}
use Rattle.std.specs.Prelude.{nat_lt, nat_le, get_or, ◌==◌, ◌&&◌, ⊤, if◌then◌else◌, option_and_then}
use Rattle.std.proofs.lemmas.Bool.{cases_Bool}
use Rattle.std.proofs.lemmas.Bool.Decides.{nat_tests}
use Rattle.oc_rows.specs.Numbers.{number_of}
use Rattle.oc_tree.specs.Word.{is_word}
use Rattle.oc_sensors.specs.declared.sensors.Row.{Row}
use Rattle.oc_sensors.specs.File.{Readings, readings, bad, plain, negative, value_of, row_after, row_of, row_then, sensor_of, sensor_row, sensor_rows, with_row}
use Rattle.oc_sensors.specs.History.{history, shown_after}

plain_word : (n : ℕ) (v : ℤ) → plain n ≡ Some v → is_word v ≡ true
plain_word n v e = elim (cases_Bool (nat_lt n (2 ^ 31))) [
  | inl low ↦
      let f = rw low at e in
      let same : pos n ≡ v = cc f in
      let small : n < 2 ^ 31 = grind (arith, nat_tests) in
      subst (λ z. is_word z ≡ true) same (grind (arith, nat_tests))
  | inr high ↦ let f = rw high at e in cc f
]

negative_word : (n : ℕ) (v : ℤ) → negative n ≡ Some v → is_word v ≡ true
negative_word zero v e = let same : pos 0 ≡ v = cc e in subst (λ z. is_word z ≡ true) same refl
negative_word (suc n) v e = elim (cases_Bool (nat_le (suc n) (2 ^ 31))) [
  | inl low ↦
      let f = rw low at e in
      let same : negsuc n ≡ v = cc f in
      let small : n < 2 ^ 31 = grind (arith, nat_tests) in
      subst (λ z. is_word z ≡ true) same (grind (arith, nat_tests))
  | inr high ↦ let f = rw high at e in cc f
]

and_then_word : (f : ℕ → Option ℤ) → ((n : ℕ) (v : ℤ) → f n ≡ Some v → is_word v ≡ true) → (o : Option ℕ) (v : ℤ) → option_and_then f o ≡ Some v → is_word v ≡ true
and_then_word f each None v e = cc e
and_then_word f each (Some n) v e = each n v e

value_word : (bytes : List ℕ) (v : ℤ) → value_of bytes ≡ Some v → is_word v ≡ true
value_word [] v e = cc e
value_word (first ∷ rest) v e = elim (cases_Bool (first == 45)) [
  | inl minus ↦ let f = rw minus at e in and_then_word negative negative_word (number_of rest) v f
  | inr digit ↦ let f = rw digit at e in and_then_word plain plain_word (number_of (first ∷ rest)) v f
]

named_word : (time : ℕ) (sensor : Option ℕ) (value : Option ℤ) → ((v : ℤ) → value ≡ Some v → is_word v ≡ true) → (row : Row) → row_of time sensor value ≡ Some row → is_word row.value ≡ true
named_word time None value w row e = cc e
named_word time (Some sensor) None w row e = cc e
named_word time (Some sensor) (Some value) w row e =
    let same : value ≡ row.value = grind arith in subst (λ z. is_word z ≡ true) same (w value refl)

after_word : (before : ℕ) (time sensor : Option ℕ) (value : Option ℤ) → ((v : ℤ) → value ≡ Some v → is_word v ≡ true) → (row : Row) → row_after before time sensor value ≡ Some row
    → is_word row.value ≡ true
after_word before None sensor value w row e = cc e
after_word before (Some time) sensor value w row e = elim (cases_Bool (nat_lt time before)) [
  | inl early ↦ let f = rw early at e in cc f
  | inr good ↦ let f = rw good at e in named_word time sensor value w row f
]

row_word : (names : List (List ℕ)) (before : ℕ) (fields : List (List ℕ)) (row : Row) → sensor_row names before fields ≡ Some row → is_word row.value ≡ true
row_word names before fields row e = elim (cases_Bool (length fields == 3)) [
  | inl three ↦ let f = rw three at e in after_word before (number_of (get_or fields 0 [])) (sensor_of names (get_or fields 1 [])) (value_of (get_or fields 2 []))
      (value_word (get_or fields 2 [])) row f
  | inr other ↦ let f = rw other at e in cc f
]

abbrev AreWords : List Row → Type 0
AreWords [] = ⊤
AreWords (row ∷ rest) = (is_word row.value ≡ true) × AreWords rest

rows_words : (names : List (List ℕ)) (number before : ℕ) (left : List (List (List ℕ))) (rows : List Row) → sensor_rows names number before left ≡ readings rows → AreWords rows
rows_words names number before [] rows e = let none : [] ≡ rows = cc e in rw (← none) tt
rows_words names number before (fields ∷ rest) rows e = by (sensor_row names before fields) refl e (λ row. rows_words names (number + 1) row.time rest)
  where
    first : (row : Row) (more : Readings) → ((rs : List Row) → more ≡ readings rs → AreWords rs) → is_word row.value ≡ true → with_row row more ≡ readings rows → AreWords rows
    first row (readings rs) rest word e = let all : row ∷ rs ≡ rows = cc e in rw (← all) (word, rest rs refl)
    first row (bad n) rest word e = cc e

    by : (r : Option Row) → sensor_row names before fields ≡ r → row_then number r (λ row. sensor_rows names (number + 1) row.time rest) ≡ readings rows
        → ((row : Row) (rs : List Row) → sensor_rows names (number + 1) row.time rest ≡ readings rs → AreWords rs) → AreWords rows
    by (Some row) is e more = first row (sensor_rows names (number + 1) row.time rest) (more row) (row_word names before fields row is) e
    by None is e more = cc e

either_word : (b : Bool) (x y : ℤ) → is_word x ≡ true → is_word y ≡ true → is_word (if b then x else y) ≡ true
either_word true x y p q = p
either_word false x y p q = q

shown_word : (value : ℤ) (rows : List Row) (sensor tick : ℕ) → is_word value ≡ true → AreWords rows → is_word (shown_after value rows sensor tick) ≡ true
shown_word value [] sensor tick w ws = w
shown_word value (row ∷ rest) sensor tick w ws =
    shown_word (if (row.sensor == sensor) && nat_le row.time tick then row.value else value) rest sensor tick (either_word ((row.sensor == sensor) && nat_le row.time tick) row.value value ws.0 w) ws.1

-- what the rows of a file show at any tick is a word
pub history_word : (names : List (List ℕ)) (number before : ℕ) (left : List (List (List ℕ))) (rows : List Row) → sensor_rows names number before left ≡ readings rows
    → (sensor tick : ℕ) → is_word (history rows sensor tick) ≡ true
history_word names number before left rows e sensor tick = shown_word (pos 0) rows sensor tick refl (rows_words names number before left rows e)
