-- The values that a sensor file tells are words.
use Rattle.std.proofs.Common.{ℕ, zero, suc, ℤ, pos, ◌+◌, ◌^◌, ◌==◌, ◌≡◌, refl, Bool, true, false, cond, List, [], ◌∷◌, Option, Some, None, arith, subst, get_or, length}
use Rattle.std.specs.Prelude.{nat_lt, nat_le, ◌&&◌, neg_ℤ, option_and_then}
use Rattle.std.proofs.lemmas.Bool.{le-leb, ltb-true, leb-true}
use Rattle.oc_tree.specs.Word.{is_word}
use Rattle.oc_rows.specs.Numbers.{number_of}
use Rattle.oc_rows.specs.Rows.{file_rows}
use Rattle.oc_sensors.specs.declared.sensors.Row.{Row}
use Rattle.oc_sensors.specs.File.{Readings, readings, bad, plain, negative, value_of, row_of, row_after, sensor_of, sensor_row, with_row, row_then, sensor_rows, is_header, readings_of, sensor_file}
use Rattle.oc_sensors.specs.History.{shown_after, history}

abbrev pub IsWord : ℤ → Type 0
IsWord z = is_word z ≡ true

-- ---- values

low_word : (n : ℕ) → nat_lt n (2 ^ 31) ≡ true → IsWord (pos n)
low_word n h = grind (arith, ltb-true, le-leb)

plain_by : (b : Bool) (n : ℕ) (z : ℤ) → nat_lt n (2 ^ 31) ≡ b → cond b (Some (pos n)) None ≡ Some z → IsWord z
plain_by true n z h e = let i : pos n ≡ z = cc in subst IsWord i (low_word n h)
plain_by false n z h e = cc e

plain_word : (n : ℕ) (z : ℤ) → plain n ≡ Some z → IsWord z
plain_word n z e = plain_by (nat_lt n (2 ^ 31)) n z refl e

negative_low : (n : ℕ) → nat_le n (2 ^ 31) ≡ true → IsWord (neg_ℤ (pos n))
negative_low zero h = refl
negative_low (suc k) h = grind (arith, leb-true, le-leb)

negative_by : (b : Bool) (n : ℕ) (z : ℤ) → nat_le n (2 ^ 31) ≡ b → cond b (Some (neg_ℤ (pos n))) None ≡ Some z → IsWord z
negative_by true n z h e = let i : neg_ℤ (pos n) ≡ z = cc in subst IsWord i (negative_low n h)
negative_by false n z h e = cc e

negative_word : (n : ℕ) (z : ℤ) → negative n ≡ Some z → IsWord z
negative_word n z e = negative_by (nat_le n (2 ^ 31)) n z refl e

of_plain : (o : Option ℕ) (z : ℤ) → option_and_then plain o ≡ Some z → IsWord z
of_plain None z e = cc e
of_plain (Some n) z e = plain_word n z e

of_negative : (o : Option ℕ) (z : ℤ) → option_and_then negative o ≡ Some z → IsWord z
of_negative None z e = cc e
of_negative (Some n) z e = negative_word n z e

value_by : (b : Bool) (first : ℕ) (rest : List ℕ) (z : ℤ) → cond b (option_and_then negative (number_of rest)) (option_and_then plain (number_of (first ∷ rest))) ≡ Some z → IsWord z
value_by true first rest z e = of_negative (number_of rest) z e
value_by false first rest z e = of_plain (number_of (first ∷ rest)) z e

value_word : (bytes : List ℕ) (z : ℤ) → value_of bytes ≡ Some z → IsWord z
value_word [] z e = cc e
value_word (first ∷ rest) z e = value_by (first == 45) first rest z e

-- ---- rows

row_by : (time : ℕ) (sensor : Option ℕ) (value : Option ℤ) (row : Row) → row_of time sensor value ≡ Some row → ((z : ℤ) → value ≡ Some z → IsWord z) → IsWord row.value
row_by time None value row e w = cc e
row_by time (Some sensor) None row e w = cc e
row_by time (Some sensor) (Some z) row e w = let i : record { time = time; sensor = sensor; value = z } ≡ row = cc in subst (λ (r : Row). IsWord r.value) i (w z refl)

after_by : (b : Bool) (time : ℕ) (sensor : Option ℕ) (value : Option ℤ) (row : Row) → cond b None (row_of time sensor value) ≡ Some row
    → ((z : ℤ) → value ≡ Some z → IsWord z) → IsWord row.value
after_by true time sensor value row e w = cc e
after_by false time sensor value row e w = row_by time sensor value row e w

row_after_word : (before : ℕ) (time sensor : Option ℕ) (value : Option ℤ) (row : Row) → row_after before time sensor value ≡ Some row → ((z : ℤ) → value ≡ Some z → IsWord z) → IsWord row.value
row_after_word before None sensor value row e w = cc e
row_after_word before (Some time) sensor value row e w = after_by (nat_lt time before) time sensor value row e w

-- every row has a word
abbrev pub AreWords : List Row → Type 0
AreWords [] = Unit {0}
AreWords (row ∷ rest) = IsWord row.value × AreWords rest

same_rows : (a b : List Row) → readings a ≡ readings b → a ≡ b
same_rows a b e = cc

with_words : (row : Row) (more : Readings) (rows : List Row) → with_row row more ≡ readings rows → IsWord row.value → ((rs : List Row) → more ≡ readings rs → AreWords rs) → AreWords rows
with_words row (readings rs) rows e w h = subst AreWords (same_rows (row ∷ rs) rows e) (w, h rs refl)
with_words row (bad number) rows e w h = cc e

module _ (names : List (List ℕ)) where
  row_word_by : (b : Bool) (before : ℕ) (fields : List (List ℕ)) (row : Row)
      → cond b (row_after before (number_of (get_or fields 0 [])) (sensor_of names (get_or fields 1 [])) (value_of (get_or fields 2 []))) None ≡ Some row → IsWord row.value
  row_word_by true before fields row e = row_after_word before _ _ _ row e (value_word (get_or fields 2 []))
  row_word_by false before fields row e = cc e

  row_word : (before : ℕ) (fields : List (List ℕ)) (row : Row) → sensor_row names before fields ≡ Some row → IsWord row.value
  row_word before fields row e = row_word_by (length fields == 3) before fields row e

  then_words : (number : ℕ) (one : Option Row) (more : Row → Readings) (rows : List Row) → row_then number one more ≡ readings rows
      → ((row : Row) → one ≡ Some row → IsWord row.value) → ((row : Row) (rs : List Row) → more row ≡ readings rs → AreWords rs) → AreWords rows
  then_words number (Some row) more rows e w h = with_words row (more row) rows e (w row refl) (h row)
  then_words number None more rows e w h = cc e

  rows_words : (number before : ℕ) (left : List (List (List ℕ))) (rows : List Row) → sensor_rows names number before left ≡ readings rows → AreWords rows
  rows_words number before [] rows e = subst AreWords (same_rows [] rows e) tt
  rows_words number before (fields ∷ left) rows e = then_words number (sensor_row names before fields) _ rows e (row_word before fields) (λ row rs i. rows_words (number + 1) row.time left rs i)

  header_words : (b : Bool) (left : List (List (List ℕ))) (rows : List Row) → cond b (sensor_rows names 2 0 left) (bad 1) ≡ readings rows → AreWords rows
  header_words true left rows e = rows_words 2 0 left rows e
  header_words false left rows e = cc e

  file_words : (all : List (List (List ℕ))) (rows : List Row) → readings_of names all ≡ readings rows → AreWords rows
  file_words [] rows e = cc e
  file_words (header ∷ left) rows e = header_words (is_header header) left rows e

-- ---- what is shown

shown_by : (b : Bool) (x y : ℤ) → IsWord x → IsWord y → IsWord (cond b x y)
shown_by true x y p q = p
shown_by false x y p q = q

shown_word : (rows : List Row) (sensor tick : ℕ) (value : ℤ) → IsWord value → AreWords rows → IsWord (shown_after value rows sensor tick)
shown_word [] sensor tick value w h = w
shown_word (row ∷ rest) sensor tick value w h =
    shown_word rest sensor tick _ (shown_by ((row.sensor == sensor) && nat_le row.time tick) row.value value h.0 w) h.1

-- sensors of a file show words
pub shown_words : (names : List (List ℕ)) (bytes : List ℕ) (rows : List Row) → sensor_file names bytes ≡ readings rows → (sensor tick : ℕ) → is_word (history rows sensor tick) ≡ true
shown_words names bytes rows e sensor tick = shown_word rows sensor tick (pos 0) refl (file_words names (file_rows bytes) rows e)
