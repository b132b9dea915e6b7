-- Pieces of the rows.
use Rattle.std.proofs.Common.{ℕ, suc, ◌+◌, ◌-◌, ◌*◌, ◌/◌, ◌<◌, ◌≤◌, ◌≡◌, ◌∙◌, List, [], ◌∷◌, ◌++◌, Some, drop, take, arith, ap, sym, refl, subst}
use Rattle.std.specs.Prelude.{replicate}
use Rattle.std.specs.List.{slice_get}
use Rattle.std.proofs.lemmas.List.{drop_more, take_more}
use Rattle.std.proofs.lemmas.Option.{get_or_from_slice_get, slice_get_within}
use Rattle.std.proofs.lemmas.List.Sums.{sum_by-append, sum_by-cons}
use Rattle.std.proofs.lemmas.List.Folds.{sum_by-replicate}
use Rattle.std.proofs.Math.Nat.{add-mul-div_left, div-lt_iff_lt-mul, mul-div-le}
use Rattle.oc_io.specs.declared.period.Period.{Period}
use Rattle.oc_power.specs.Cutting.{cut_after, cut_row, cut_rows, IsPartOfFirst, whole_piece, whole_pieces}
use Rattle.oc_power.specs.Total.{total}

-- a row of more steps than a piece has begins with a whole piece
cut_row-long : (len : ℕ) (row : Period) → 0 < len → len < row.on → cut_row len row ≡ whole_piece len ∷ cut_row len (record row { on = row.on - len })
cut_row-long len row some long =
    let rest : row.on - 1 ≡ (row.on - len - 1) + len * 1 = omega arith in
    let pieces : whole_pieces len row.on ≡ suc (whole_pieces len (row.on - len)) =
    ap (λ n. n / len) rest ∙ add-mul-div_left (row.on - len - 1) 1 some ∙ omega arith in
    let steps : row.on - len * suc (whole_pieces len (row.on - len)) ≡ row.on - len - len * whole_pieces len (row.on - len) = omega arith in
    rw (pieces, steps) refl

-- any other row is one piece
cut_row-short : (len : ℕ) (row : Period) → 0 < len → row.on ≤ len → cut_row len row ≡ row ∷ []
cut_row-short len row some short =
    let few = (div-lt_iff_lt-mul {k = len} {x = row.on - 1} {y = 1} some).1 (omega arith) in
    let pieces : whole_pieces len row.on ≡ 0 = omega arith in
    let steps : row.on - len * 0 ≡ row.on = omega arith in
    rw (pieces, steps) refl

cut_after-none : (len : ℕ) (rows : List Period) → cut_after len 0 rows ≡ cut_rows len rows
cut_after-none len [] = refl
cut_after-none len (row ∷ rest) = let whole : row.on - 0 ≡ row.on = omega arith in rw whole refl

-- a whole piece is told
piece_on : (len told : ℕ) (row : Period) (rest : List Period) → 0 < len → len < row.on - told
    → cut_after len told (row ∷ rest) ≡ whole_piece len ∷ cut_after len (told + len) (row ∷ rest)
piece_on len told row rest some long =
    let steps : row.on - told - len ≡ row.on - (told + len) = omega arith in
    ap (λ (pieces : List Period). pieces ++ cut_rows len rest) (cut_row-long len (record row { on = row.on - told }) some long) ∙ rw steps refl

-- the last piece of a row is told
row_on : (len told : ℕ) (row : Period) (rest : List Period) → 0 < len → row.on - told ≤ len
    → cut_after len told (row ∷ rest) ≡ record row { on = row.on - told } ∷ cut_after len 0 rest
row_on len told row rest some short =
    ap (λ (pieces : List Period). pieces ++ cut_rows len rest) (cut_row-short len (record row { on = row.on - told }) some short)
    ∙ ap (λ (pieces : List Period). record row { on = row.on - told } ∷ pieces) (sym (cut_after-none len rest))

total-cut_row : (len : ℕ) (row : Period) → total (cut_row len row) ≡ row.on + row.off
total-cut_row len row =
    let k = whole_pieces len row.on in
    let last = record row { on = row.on - len * k } in
    sum_by-append (λ p. p.on + p.off) (replicate k (whole_piece len)) (last ∷ [])
    ∙ ap (λ n. n + (0 + (last.on + last.off))) (sum_by-replicate (λ p. p.on + p.off) k (whole_piece len))
    ∙ omega (arith, mul-div-le (row.on - 1) len)

pub total-cut_rows : (len : ℕ) (rows : List Period) → total (cut_rows len rows) ≡ total rows
total-cut_rows len [] = refl
total-cut_rows len (row ∷ rest) =
    sum_by-append (λ p. p.on + p.off) (cut_row len row) (cut_rows len rest) ∙ omega (arith, sum_by-cons (λ (p : Period). p.on + p.off) row rest, total-cut_row len row, total-cut_rows len rest)

pub at_place : (rows : List Period) (place : ℕ) (row : Period) → slice_get rows place ≡ Some row → drop place rows ≡ row ∷ drop (place + 1) rows
at_place rows place row is =
    drop_more rows place row (slice_get_within rows place row is) ∙ ap (λ (first : Period). first ∷ drop (place + 1) rows) (get_or_from_slice_get rows place row row is)

-- a row at the place has the steps that were told of it, and so many may have been told
pub told_within : (rows : List Period) (place told : ℕ) (row : Period) → slice_get rows place ≡ Some row → IsPartOfFirst told (drop place rows) → told ≤ row.on
told_within rows place told row is h = subst (IsPartOfFirst told) (at_place rows place row is) h

pub may_be_told : (rows : List Period) (place told : ℕ) (row : Period) → slice_get rows place ≡ Some row → told ≤ row.on → IsPartOfFirst told (drop place rows)
may_be_told rows place told row is h = subst (IsPartOfFirst told) (sym (at_place rows place row is)) h

pub taken_more : (rows : List Period) (place : ℕ) (row : Period) → slice_get rows place ≡ Some row → take (place + 1) rows ≡ take place rows ++ row ∷ []
taken_more rows place row is =
    take_more rows place row (slice_get_within rows place row is) ∙ ap (λ (last : Period). take place rows ++ last ∷ []) (get_or_from_slice_get rows place row row is)

-- the sum of a row and of those behind it
pub row_summed : (rows : List Period) (place : ℕ) (row : Period) → slice_get rows place ≡ Some row → total (drop place rows) ≡ row.on + row.off + total (drop (place + 1) rows)
row_summed rows place row is = ap (λ (left : List Period). total left) (at_place rows place row is) ∙ sum_by-cons (λ (p : Period). p.on + p.off) row (drop (place + 1) rows)

pub piece_told : (rows : List Period) (len told place : ℕ) (row : Period) → slice_get rows place ≡ Some row → 1 ≤ len → len < row.on - told
    → cut_after len told (drop place rows) ≡ whole_piece len ∷ cut_after len (told + len) (drop place rows)
piece_told rows len told place row is some long =
    rw (at_place rows place row is) (piece_on len told row (drop (place + 1) rows) (omega arith) long)

pub row_told : (rows : List Period) (len told place : ℕ) (row : Period) → slice_get rows place ≡ Some row → 1 ≤ len → row.on - told ≤ len
    → cut_after len told (drop place rows) ≡ record row { on = row.on - told } ∷ cut_after len 0 (drop (place + 1) rows)
row_told rows len told place row is some short =
    rw (at_place rows place row is) (row_on len told row (drop (place + 1) rows) (omega arith) short)
