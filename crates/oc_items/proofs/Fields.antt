-- The fields of a line are told by its bytes.
use Rattle.std.proofs.Common.{ℕ, ◌<◌, ◌^◌, ◌≡◌, ◌==◌, ◌&&◌, ◌||◌, not, Bool, true, false, cond, List, [], ◌∷◌, ◌++◌, length, get_or, decimal, ap, sym, ◌∙◌, refl, arith, append_assoc}
use Rattle.std.proofs.lemmas.List.{append-nil}
use Rattle.std.proofs.lemmas.Bool.Decides.{nat_tests}
use Rattle.std.proofs.lemmas.Fmt.{digits_decimal, decimal_nonempty}
use Rattle.std.specs.Str.Parse.{AllDigits}
use Rattle.std.proofs.lemmas.Str.Parse.{numerals_by_value, tells_digits, digit_from_value}
use Rattle.oc_io.specs.Lines.{further, line_of}
use Rattle.oc_items.specs.OneText.{ends_field, is_field}

-- each of these is a field
abbrev pub AllFields : List (List ℕ) → Type 0
AllFields [] = Unit {0}
AllFields (f ∷ rest) = (is_field f ≡ true) × AllFields rest

-- the fields of the first line of these bytes, after what was read of a field
abbrev pub fields_from : List ℕ → List ℕ → List (List ℕ)
fields_from field [] = field ∷ []
fields_from field (b ∷ rest) =
    cond (b == 10) (field ∷ []) (cond (b == 32) (field ∷ fields_from [] rest) (fields_from (field ++ (b ∷ [])) rest))

-- what stands after the first line of these bytes
abbrev pub after_line : List ℕ → List ℕ
after_line [] = []
after_line (b ∷ rest) = cond (b == 10) rest (after_line rest)

split : (a b : Bool) → (not a && b) ≡ true → (a ≡ false) × (b ≡ true)
split false b h = (refl, h)
split true b h = cc

split_or : (a b : Bool) → (a || b) ≡ false → (a ≡ false) × (b ≡ false)
split_or false b h = (refl, h)
split_or true b h = cc

inside : (b : ℕ) (rest : List ℕ) → is_field (b ∷ rest) ≡ true → ((b == 32) ≡ false) × ((b == 10) ≡ false) × (is_field rest ≡ true)
inside b rest h =
    let parts = split (ends_field b) (is_field rest) h in
    let tests = split_or (b == 32) (b == 10) parts.0 in
    (tests.0, tests.1, parts.1)

-- a field is read as far as it goes
reads : (w x rest : List ℕ) → is_field x ≡ true → fields_from w (x ++ rest) ≡ fields_from (w ++ x) rest
reads w [] rest h = ap (λ (v : List ℕ). fields_from v rest) (sym (append-nil w))
reads w (c ∷ x) rest h =
    let t = inside c x h in
    rw (t.1, t.0) (reads (w ++ (c ∷ [])) x rest t.2 ∙ ap (λ (v : List ℕ). fields_from v rest) (append_assoc w (c ∷ []) x))

skips : (x rest : List ℕ) → is_field x ≡ true → after_line (x ++ rest) ≡ after_line rest
skips [] rest h = refl
skips (c ∷ x) rest h = let t = inside c x h in rw t.1 (skips x rest t.2)

further_fields : (w : List ℕ) (fs : List (List ℕ)) (rest : List ℕ) → AllFields fs → fields_from w (further fs ++ rest) ≡ w ∷ fs
further_fields w [] rest h = refl
further_fields w (f ∷ fs) rest h =
    ap (λ (t : List ℕ). w ∷ fields_from [] t) (append_assoc f (further fs) rest)
    ∙ ap (λ (t : List (List ℕ)). w ∷ t) (reads [] f (further fs ++ rest) h.0 ∙ further_fields f fs rest h.1)

further_after : (fs : List (List ℕ)) (rest : List ℕ) → AllFields fs → after_line (further fs ++ rest) ≡ rest
further_after [] rest h = refl
further_after (f ∷ fs) rest h =
    ap after_line (append_assoc f (further fs) rest) ∙ skips f (further fs ++ rest) h.0 ∙ further_after fs rest h.1

pub line_fields : (f : List ℕ) (fs : List (List ℕ)) (rest : List ℕ) → AllFields (f ∷ fs) → fields_from [] (line_of (f ∷ fs) ++ rest) ≡ f ∷ fs
line_fields f fs rest h =
    ap (fields_from []) (append_assoc f (further fs) rest) ∙ reads [] f (further fs ++ rest) h.0 ∙ further_fields f fs rest h.1

pub line_after : (f : List ℕ) (fs : List (List ℕ)) (rest : List ℕ) → AllFields (f ∷ fs) → after_line (line_of (f ∷ fs) ++ rest) ≡ rest
line_after f fs rest h = further_after (f ∷ fs) rest h

digits_field : (ds : List ℕ) → AllDigits 10 ds → is_field ds ≡ true
digits_field [] h = refl
digits_field (c ∷ cs) h =
    let r = digit_from_value c h.0 in
    let space : (c == 32) ≡ false = grind (arith, nat_tests, r.0) in
    let feed : (c == 10) ≡ false = grind (arith, nat_tests, r.0) in
    rw (space, feed) (digits_field cs h.1)

pub decimal_field : (n : ℕ) → n < 2 ^ 64 → is_field (decimal n) ≡ true
decimal_field n h = digits_field (decimal n) (digits_decimal (numerals_by_value (AllDigits 10) tells_digits) n h)

-- two lines with the same bytes have the same fields, and the same stands after them
pub line_cut : (f g : List ℕ) (fs gs : List (List ℕ)) (r s : List ℕ) → AllFields (f ∷ fs) → AllFields (g ∷ gs)
    → line_of (f ∷ fs) ++ r ≡ line_of (g ∷ gs) ++ s → ((f ∷ fs) ≡ (g ∷ gs)) × (r ≡ s)
line_cut f g fs gs r s h k e = (
  sym (line_fields f fs r h) ∙ ap (fields_from []) e ∙ line_fields g gs s k,
  sym (line_after f fs r h) ∙ ap after_line e ∙ line_after g gs s k,
)

first_digit : (ds rest : List ℕ) (d : ℕ) → 0 < length ds → AllDigits 10 ds → get_or (ds ++ rest) 0 d < 58
first_digit [] rest d l h = absurd (omega (arith, l))
first_digit (c ∷ cs) rest d l h = let r = digit_from_value c h.0 in omega (arith, r.0, r.1)

-- a text that begins with a number begins with a digit
pub begins_with_digit : (n : ℕ) (rest : List ℕ) (d : ℕ) → n < 2 ^ 64 → get_or (decimal n ++ rest) 0 d < 58
begins_with_digit n rest d h =
    first_digit (decimal n) rest d (decimal_nonempty n h) (digits_decimal (numerals_by_value (AllDigits 10) tells_digits) n h)
