-- How long lines of items are.
use Rattle.std.proofs.Common.{ℕ, zero, suc, ℤ, pos, negsuc, ◌+◌, ◌<◌, ◌≤◌, ◌^◌, ◌≡◌, List, [], ◌∷◌, ◌++◌, length, length-append, get_or, codes, decimal, refl, arith, w32, FitsSigned}
use Rattle.std.specs.Fmt.{signed_decimal}
use Rattle.std.proofs.lemmas.Fmt.{length-decimal-le, length_signed_le}
use Rattle.oc_io.specs.Lines.{further}
use Rattle.oc_tree.specs.Names.{NameLists, Text}
use Rattle.oc_tree.specs.declared.said.TrapKind.TheVariants as trap
use Rattle.oc_items.specs.declared.item.Item.{Item}
use Rattle.oc_items.specs.declared.item.Item.TheVariants as item
use Rattle.oc_items.specs.Text.{tick_of, fields_of, item_line}
use Rattle.oc_items.specs.OneText.{IsItem}
use Rattle.oc_meters.specs.Reads.{longest, longest_line}

-- the bytes of these fields, a space before each, and a line feed
abbrev total : List (List ℕ) → ℕ
total [] = 1
total (f ∷ fs) = 1 + (length f + total fs)

further_length : (fs : List (List ℕ)) → length (further fs) ≡ total fs
further_length [] = refl
further_length (f ∷ fs) = omega (arith, length-append f (further fs), further_length fs)

digits : (n : ℕ) → n < 2 ^ 64 → length (decimal n) ≤ 20
digits n h = length-decimal-le 20 n (omega arith) (omega arith) h

few_digits : (n : ℕ) → n < 2 ^ 32 → length (decimal n) ≤ 10
few_digits n h = length-decimal-le 10 n (omega arith) (omega arith) (omega arith)

value_digits : (z : ℤ) → FitsSigned w32 z → length (signed_decimal z) ≤ 11
value_digits (pos n) h = length_signed_le 10 (pos n) (omega (arith, h)) (omega (arith, h))
value_digits (negsuc n) h = length_signed_le 10 (negsuc n) (omega (arith, h)) (omega (arith, h))

name_length : (names : List Text) (k : ℕ) → k < length names → length (get_or names k []) ≤ longest names
name_length [] k h = absurd (omega arith)
name_length (n ∷ names) zero h = omega arith
name_length (n ∷ names) (suc k) h = omega (arith, name_length names k (omega arith))

fields_length : (names : NameLists) (i : Item) → IsItem names i → 19 + total (fields_of names i) ≤ longest_line names
fields_length names (item.Sense tick sensor value) h = omega (arith, name_length names.sensors sensor h.named, value_digits value h.fits)
fields_length names (item.Emit tick port value) h = omega (arith, name_length names.ports port h.named, value_digits value h.fits)
fields_length names (item.Use tick n) h = omega (arith, few_digits n h.fits)
fields_length names (item.Done tick n) h = omega (arith, few_digits n h.fits)
fields_length names (item.Tag tick n) h = omega (arith, few_digits n h.fits)
fields_length names (item.Enter tick n) h = omega (arith, few_digits n h.fits)
fields_length names (item.Commit tick n) h = omega (arith, few_digits n h.fits)
fields_length names (item.Abort tick n) h = omega (arith, few_digits n h.fits)
fields_length names (item.Off tick n) h = omega (arith, digits n h.fits)
fields_length names (item.Trap tick trap.Zero n) h = omega (arith, few_digits n h.fits)
fields_length names (item.Trap tick trap.Index n) h = omega (arith, few_digits n h.fits)
fields_length names (item.End tick) h = omega arith
fields_length names (item.Dark tick) h = omega arith

-- without its line feed no line is longer
pub line_length : (names : NameLists) (i : Item) (line : List ℕ) → IsItem names i → item_line names i ≡ line ++ codes "\n" → length line ≤ longest_line names
line_length names i line h e =
    let whole : length (item_line names i) ≡ length (decimal (tick_of i)) + length (further (fields_of names i)) = length-append (decimal (tick_of i)) (further (fields_of names i)) in
    let cut : length (item_line names i) ≡ length line + 1 = rw e (length-append line (codes "\n")) in
    omega (arith, whole, cut, further_length (fields_of names i), digits (tick_of i) h.tick, fields_length names i h)
