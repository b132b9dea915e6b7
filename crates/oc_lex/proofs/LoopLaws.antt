-- One turn of the lexer.
use Rattle.std.proofs.Common.{◌≡◌, ℕ, zero, suc, ◌+◌, ◌<◌, ◌≤◌, Bool, true, false, cond, List, [], ◌∷◌, ◌++◌, length, get_or, take, drop, Option, Some, None, Ok, refl, sym, ap}
use Rattle.std.proofs.Common.{subst, ◌∙◌, arith, length-drop}
use Rattle.std.specs.Prelude.{◌-◌, ◌==◌}
use Rattle.std.specs.List.{AllPass}
use Rattle.std.proofs.Math.Seq.{take-add}
use Rattle.std.proofs.lemmas.List.{take_rest, get_or-drop}
use Rattle.std.proofs.lemmas.List.Sums.{sum_by-append, sum_by-cons}
use Rattle.std.proofs.lemmas.Bool.Decides.{Decides-eqb}
use Rattle.oc_lex.specs.declared.piece.Piece.{Piece}
use Rattle.oc_lex.specs.declared.piece.Piece.TheVariants as piece
use Rattle.oc_lex.specs.declared.token.Mark.{Mark}
use Rattle.oc_lex.specs.declared.token.Mark.TheVariants as marks
use Rattle.oc_lex.specs.declared.token.Kind.{Kind}
use Rattle.oc_lex.specs.declared.token.Token.{Token}
use Rattle.oc_lex.specs.Bytes.{begins_name, in_name, in_number, in_line}
use Rattle.oc_lex.specs.Spellings.{mark_spelling}
use Rattle.oc_lex.specs.Pieces.{IsPiece, Longest}
use Rattle.oc_lex.specs.Tokens.{Lexed, none, between, token, Reads, tokens_of, feeds_of}
use Rattle.oc_io.specs.Counts.{line_feeds}
use Rattle.oc_lex.proofs.PieceLaws.{positive}

-- ---- line feeds

feeds_append : (a b : List ℕ) → line_feeds (a ++ b) ≡ line_feeds a + line_feeds b
feeds_append a b = sum_by-append feeds_of a b

feeds_more : (b : ℕ) (bs : List ℕ) → line_feeds (b ∷ bs) ≡ feeds_of b + line_feeds bs
feeds_more b bs = sum_by-cons feeds_of b bs

not_feed : (p : ℕ → Bool) (b : ℕ) → p 10 ≡ false → p b ≡ true → feeds_of b ≡ 0
not_feed p b f t = by_test (b == 10) refl
  where
    by_test : (c : Bool) → (b == 10) ≡ c → ◌≡◌ {A = ℕ} (cond c 1 0) 0
    by_test false e = refl
    by_test true e =
        let h : b ≡ 10 = (Decides-eqb b 10).0 e in
        let g : false ≡ true = sym f ∙ ap p (sym h) ∙ t in
        absurd cc

no_feeds : (p : ℕ → Bool) (bs : List ℕ) → p 10 ≡ false → AllPass p bs → line_feeds bs ≡ 0
no_feeds p [] f a = refl
no_feeds p (b ∷ bs) f a =
    let h = no_feeds p bs f (λ k d l. a (suc k) d (omega arith)) in
    let g = not_feed p b f (a 0 0 (omega arith)) in
    let e = feeds_more b bs in
    omega arith

mark_first : (m : Mark) → line_feeds (mark_spelling m) ≡ feeds_of (get_or (mark_spelling m) 0 0)
mark_first marks.OpenRound = refl
mark_first _ = refl

-- only the first byte of a piece can be a line feed
piece_feeds : (p : Piece) (text : List ℕ) → IsPiece p text → line_feeds text ≡ feeds_of (get_or text 0 0)
unfolding begins_name in_name in_number
piece_feeds piece.Blank [] d = absurd d
piece_feeds piece.Blank (b ∷ []) d = let e = feeds_more b [] in omega arith
piece_feeds piece.Blank (b ∷ c ∷ bs) d = absurd d
piece_feeds piece.Comment [] d = absurd d
piece_feeds piece.Comment (a ∷ []) d = absurd d
piece_feeds piece.Comment (a ∷ b ∷ bs) d =
    let h = no_feeds in_line bs refl d.2 in
    let g : feeds_of b ≡ 0 = ap feeds_of d.1 in
    let e = feeds_more b bs in
    let f = feeds_more a (b ∷ bs) in
    omega arith
piece_feeds piece.Name [] d = absurd d
piece_feeds piece.Name (b ∷ bs) d = let h = no_feeds in_name bs refl d.1 in let e = feeds_more b bs in omega arith
piece_feeds piece.Number [] d = absurd d
piece_feeds piece.Number (b ∷ bs) d = let h = no_feeds in_number bs refl d.1 in let e = feeds_more b bs in omega arith
piece_feeds (piece.Mark m) text d = subst (λ (t : List ℕ). line_feeds t ≡ feeds_of (get_or t 0 0)) d (mark_first m)

first_taken : (n : ℕ) (bytes : List ℕ) → 0 < n → get_or (take n bytes) 0 0 ≡ get_or bytes 0 0
first_taken zero bytes h = absurd (omega arith)
first_taken (suc n) [] h = refl
first_taken (suc n) (b ∷ bs) h = refl

-- the line after a piece
pub line_more : (source : List ℕ) (at n : ℕ) (p : Piece) → Longest p n (drop at source) → line_feeds (take (at + n) source) ≡ line_feeds (take at source) + feeds_of (get_or source at 0)
line_more source at n p l =
    let a = ap line_feeds (take-add at n source) ∙ feeds_append (take at source) (take n (drop at source)) in
    let b = piece_feeds p (take n (drop at source)) l.is_piece in
    let c = first_taken n (drop at source) (positive p n (drop at source) l.is_piece) in
    let d : get_or (drop at source) 0 0 ≡ get_or source (at + 0) 0 = get_or-drop at source 0 0 in
    let e : get_or source (at + 0) 0 ≡ get_or source at 0 = ap (λ (x : ℕ). get_or source x 0) (let z : at + 0 ≡ at = omega arith in z) in
    let f : feeds_of (get_or (take n (drop at source)) 0 0) ≡ feeds_of (get_or source at 0) = ap feeds_of (c ∙ d ∙ e) in
    omega arith

-- ---- tokens

lexed_append : (source : List ℕ) {at mid : ℕ} {ts : List Token} → Lexed source at ts mid → (us : List Token) (to : ℕ) → Lexed source mid us to → Lexed source at (ts ++ us) to
lexed_append source (none {at = at}) us to d = d
lexed_append source (between {at = at} {n = n} {to = mid} {p = p} {ts = ts} l b rest) us to d = between l b (lexed_append source rest us to d)
lexed_append source (token {at = at} {n = n} {to = mid} {p = p} {k = k} {ts = ts} l b rest) us to d = token l b (lexed_append source rest us to d)

lexed_one : (source : List ℕ) (at n line : ℕ) (p : Piece) (o : Option Kind) → Longest p n (drop at source) → Reads p (take n (drop at source)) (drop n (drop at source)) at (Ok o)
    → line ≡ 1 + line_feeds (take at source) → Lexed source at (tokens_of o at (at + n) line) (at + n)
lexed_one source at n line p None l r e = between l r none
lexed_one source at n line p (Some k) l r e = subst (λ (x : ℕ). Lexed source at (tokens_of (Some k) at (at + n) x) (at + n)) (sym e) (token l r none)

-- the rest as the code names it
abbrev pub rest_of : List ℕ → ℕ → List ℕ
rest_of source at = take (length source - at) (drop at source)

pub lexed_more : (source : List ℕ) (at n line : ℕ) (front all : List Token) (p : Piece) (o : Option Kind) → Longest p n (rest_of source at)
    → Reads p (take n (rest_of source at)) (drop n (rest_of source at)) at (Ok o) → line ≡ 1 + line_feeds (take at source) → Lexed source 0 front at
    → all ≡ front ++ tokens_of o at (at + n) line → Lexed source 0 all (at + n)
lexed_more source at n line front all p o l r e d f =
    let w : rest_of source at ≡ drop at source = take_rest source at in
    let l2 : Longest p n (drop at source) = subst (λ (x : List ℕ). Longest p n x) w l in
    let r2 : Reads p (take n (drop at source)) (drop n (drop at source)) at (Ok o) = subst (λ (x : List ℕ). Reads p (take n x) (drop n x) at (Ok o)) w r in
    subst (λ (x : List Token). Lexed source 0 x (at + n)) (sym f) (lexed_append source d (tokens_of o at (at + n) line) (at + n) (lexed_one source at n line p o l2 r2 e))

pub line_next : (source : List ℕ) (at n line next : ℕ) (p : Piece) → Longest p n (rest_of source at) → line ≡ 1 + line_feeds (take at source)
    → next ≡ line + feeds_of (get_or source at 0) → next ≡ 1 + line_feeds (take (at + n) source)
line_next source at n line next p l e f =
    let l2 : Longest p n (drop at source) = subst (λ (x : List ℕ). Longest p n x) (take_rest source at) l in
    let h = line_more source at n p l2 in
    omega arith

pub within_next : (source : List ℕ) (at n : ℕ) (p : Piece) → at < length source → Longest p n (rest_of source at) → at + n ≤ length source
within_next source at n p h l =
    let w : n ≤ length (rest_of source at) = l.within in
    let e : length (rest_of source at) ≡ length (drop at source) = ap (λ (x : List ℕ). length x) (take_rest source at) in
    omega (arith, length-drop at source)
