-- Tokens of a source stand in it, in order.
use Rattle.std.proofs.Common.{◌≡◌, ℕ, zero, suc, ◌+◌, ◌<◌, ◌≤◌, List, [], ◌∷◌, length, take, drop, refl, sym, ap, subst, ◌∙◌, arith, inl, length-drop, Result, Ok, Err}
use Rattle.std.specs.Prelude.{◌-◌, All, IfOk, MatchResult}
use Rattle.std.specs.Global.{Vec}
use Rattle.oc_lex.specs.declared.piece.Piece.{Piece}
use Rattle.oc_lex.specs.declared.piece.Piece.TheVariants as piece
use Rattle.oc_lex.specs.declared.token.Kind.{Kind}
use Rattle.oc_lex.specs.declared.token.Kind.TheVariants as kinds
use Rattle.oc_lex.specs.declared.token.Token.{Token}
use Rattle.oc_lex.specs.declared.lexer.LexError.{LexError}
use Rattle.oc_lex.specs.Bytes.{value_of}
use Rattle.oc_lex.specs.Spellings.{mark_spelling}
use Rattle.oc_lex.specs.Pieces.{IsPiece, Longest}
use Rattle.oc_lex.specs.Tokens.{IsKind, token_at, Lexed, none, between, token, AreTokens}
use Rattle.oc_lex.specs.Stands.{SpellsKind, StandsIn, InOrder}
use Rattle.oc_lex.proofs.PieceLaws.{positive}

-- ---- one token

small_enough : (v most : ℕ) → (most < v → ⊥) → v ≤ most
small_enough v most h = omega arith

kind_spelled : (p : Piece) (text after : List ℕ) (k : Kind) → IsPiece p text → IsKind p text after k → SpellsKind k text
kind_spelled piece.Name text after kinds.Name i d = (i, d)
kind_spelled piece.Name text after (kinds.Word w) i d = d
kind_spelled piece.Name text after (kinds.Number v) i d = absurd d
kind_spelled piece.Name text after (kinds.Mark m) i d = absurd d
kind_spelled piece.Number text after (kinds.Number v) i d = (i, d.0, small_enough (value_of text) 2147483647 (λ h. d.1 (inl h)))
kind_spelled piece.Number text after kinds.Name i d = absurd d
kind_spelled piece.Number text after (kinds.Word w) i d = absurd d
kind_spelled piece.Number text after (kinds.Mark m) i d = absurd d
kind_spelled (piece.Mark x) text after (kinds.Mark m) i d = ap (λ y. mark_spelling y) (sym d) ∙ i
kind_spelled (piece.Mark x) text after kinds.Name i d = absurd d
kind_spelled (piece.Mark x) text after (kinds.Word w) i d = absurd d
kind_spelled (piece.Mark x) text after (kinds.Number v) i d = absurd d
kind_spelled piece.Blank text after k i d = absurd d
kind_spelled piece.Comment text after k i d = absurd d

token_stands : (source : List ℕ) (at n : ℕ) (p : Piece) (k : Kind) → Longest p n (drop at source) → IsKind p (take n (drop at source)) (drop n (drop at source)) k
    → StandsIn source (token_at source at n k)
token_stands source at n p k l d =
    let h = positive p n (drop at source) l.is_piece in
    let w = l.within in
    let e : n ≡ at + n - at = omega arith in
    record {
      some = omega arith;
      within = omega (arith, length-drop at source);
      line = refl;
      spelled = subst (λ (x : ℕ). SpellsKind k (take x (drop at source))) e (kind_spelled p (take n (drop at source)) (drop n (drop at source)) k l.is_piece d);
    }

-- ---- all tokens

all_none : (P : Token → Type 0) → All P []
all_none P k d l = absurd (omega arith)

all_more : (P : Token → Type 0) (t : Token) (ts : List Token) → P t → All P ts → All P (t ∷ ts)
all_more P t ts h a zero d l = h
all_more P t ts h a (suc k) d l = a k d (omega arith)

lexed_stand : (source : List ℕ) {at to : ℕ} {ts : List Token} → Lexed source at ts to → All (StandsIn source) ts
lexed_stand source (none {at = at}) = all_none (StandsIn source)
lexed_stand source (between {at = at} {n = n} {to = to} {p = p} {ts = ts} l b rest) = lexed_stand source rest
lexed_stand source (token {at = at} {n = n} {to = to} {p = p} {k = k} {ts = ts} l b rest) =
    all_more (StandsIn source) (token_at source at n k) ts (token_stands source at n p k l b) (lexed_stand source rest)

earlier : (from from' : ℕ) (ts : List Token) (to : ℕ) → from' ≤ from → InOrder from ts to → InOrder from' ts to
earlier from from' [] to h d = omega arith
earlier from from' (t ∷ ts) to h d = (let g = d.0 in omega arith, d.1, d.2)

lexed_order : (source : List ℕ) {at to : ℕ} {ts : List Token} → Lexed source at ts to → InOrder at ts to
lexed_order source (none {at = at}) = omega arith
lexed_order source (between {at = at} {n = n} {to = to} {p = p} {ts = ts} l b rest) = earlier (at + n) at ts to (omega arith) (lexed_order source rest)
lexed_order source (token {at = at} {n = n} {to = to} {p = p} {k = k} {ts = ts} l b rest) =
    let h = positive p n (drop at source) l.is_piece in
    (omega arith, omega arith, lexed_order source rest)

order_count : (from : ℕ) (ts : List Token) (to : ℕ) → InOrder from ts to → from + length ts ≤ to
order_count from [] to d = omega arith
order_count from (t ∷ ts) to d =
    let h = order_count t.end ts to d.2 in
    let a = d.0 in
    let b = d.1 in
    omega arith

-- ---- for the layers above

-- each token of a source stands in it
pub tokens_stand : (source : List ℕ) (ts : List Token) → AreTokens source ts → All (StandsIn source) ts
tokens_stand source ts d = lexed_stand source d

-- the tokens of a source follow each other
pub tokens_in_order : (source : List ℕ) (ts : List Token) → AreTokens source ts → InOrder 0 ts (length source)
tokens_in_order source ts d = lexed_order source d

-- a source has no more tokens than bytes
pub tokens_count : (source : List ℕ) (ts : List Token) → AreTokens source ts → length ts ≤ length source
tokens_count source ts d = let h = order_count 0 ts (length source) (lexed_order source d) in omega arith

-- ---- the contract of lex

pub of_ok : (source : List ℕ) (P : List Token → Type 0) → ((ts : List Token) → AreTokens source ts → P ts) → (Q : LexError → Type 0) (r : Result (Vec Token) LexError)
    → MatchResult r (λ v. AreTokens source v.items) Q → IfOk r (λ v. P v.items)
of_ok source P f Q (Ok v) h = f v.items h
of_ok source P f Q (Err e) h = tt
