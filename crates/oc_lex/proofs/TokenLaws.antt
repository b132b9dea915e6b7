-- A source has one list of tokens or one first fault.
use Rattle.std.proofs.Common.{◌≡◌, ℕ, ◌+◌, ◌<◌, true, false, List, [], ◌∷◌, ◌++◌, length, get_or, take, drop, Option, Some, None, Result, Ok, Err, refl, sym, ap, subst, ◌∙◌, arith}
use Rattle.std.proofs.Common.{inl, inr, ◌⊎◌, length-drop}
use Rattle.std.specs.Prelude.{◌==◌, find, pos, ℤ, MatchResult}
use Rattle.std.specs.Global.{Vec}
use Rattle.std.specs.Str.{bytes_eq}
use Rattle.std.proofs.lemmas.List.{append-nil, length-take-le}
use Rattle.oc_lex.specs.declared.bytes.Class.{Class}
use Rattle.oc_lex.specs.declared.bytes.Class.TheVariants as class
use Rattle.oc_lex.specs.declared.piece.Piece.{Piece}
use Rattle.oc_lex.specs.declared.piece.Piece.TheVariants as piece
use Rattle.oc_lex.specs.declared.token.Mark.{Mark}
use Rattle.oc_lex.specs.declared.token.Mark.TheVariants as marks
use Rattle.oc_lex.specs.declared.token.Word.{Word}
use Rattle.oc_lex.specs.declared.token.Kind.{Kind}
use Rattle.oc_lex.specs.declared.token.Kind.TheVariants as kinds
use Rattle.oc_lex.specs.declared.token.Token.{Token}
use Rattle.oc_lex.specs.declared.lexer.LexError.{LexError}
use Rattle.oc_lex.specs.declared.lexer.LexError.TheVariants as errors
use Rattle.oc_lex.specs.Bytes.{value_of}
use Rattle.oc_lex.specs.Classes.{class_of}
use Rattle.oc_lex.specs.Spellings.{mark_spelling, SpellsNoWord}
use Rattle.oc_lex.specs.Pieces.{IsPiece, Longest}
use Rattle.oc_lex.specs.Tokens.{IsBetween, IsRefused, IsKind, token_at, Lexed, none, between, token, AreTokens, IsFault, HasFault, tokens_of}
use Rattle.oc_io.specs.Counts.{line_feeds}
use Rattle.oc_lex.proofs.Words.{found, word_found, word_read}
use Rattle.oc_lex.proofs.PieceLaws.{OfClass, piece_class, positive}

-- ---- one longest piece

all_marks : List Mark
all_marks =
    marks.OpenRound ∷ marks.CloseRound ∷ marks.OpenCurly ∷ marks.CloseCurly ∷ marks.OpenSquare ∷ marks.CloseSquare ∷ marks.Semicolon
    ∷ marks.Colon ∷ marks.Comma ∷ marks.Arrow ∷ marks.Assign ∷ marks.Equal ∷ marks.NotEqual ∷ marks.Less ∷ marks.LessEqual ∷ marks.Greater
    ∷ marks.GreaterEqual ∷ marks.Plus ∷ marks.Minus ∷ marks.Star ∷ marks.Slash ∷ marks.Percent ∷ marks.And ∷ marks.Or ∷ marks.Not
    ∷ marks.Ampersand ∷ marks.Range ∷ []

mark_of : List ℕ → Option Mark
mark_of text = find (λ m. bytes_eq (mark_spelling m) text) all_marks

mark_found : (m : Mark) → mark_of (mark_spelling m) ≡ Some m
unfolding mark_of all_marks
mark_found marks.OpenRound = refl
mark_found _ = refl

mark_same : (x y : Mark) (text : List ℕ) → mark_spelling x ≡ text → mark_spelling y ≡ text → x ≡ y
mark_same x y text e f =
    let g : Some x ≡ Some y = sym (mark_found x) ∙ ap mark_of (e ∙ sym f) ∙ mark_found y in cc

-- a mark doesn't begin like a comment
second_byte : (m : Mark) → (get_or (mark_spelling m) 1 0 == 47) ≡ false
second_byte marks.OpenRound = refl
second_byte _ = refl

not_slashes : (m : Mark) (a b : ℕ) (bs : List ℕ) → mark_spelling m ≡ a ∷ b ∷ bs → b ≡ 47 → ⊥
not_slashes m a b bs e f =
    let g : false ≡ true = sym (second_byte m) ∙ ap (λ (t : List ℕ). get_or t 1 0 == 47) e ∙ ap (λ (x : ℕ). x == 47) f in cc

blank_only : (p : Piece) → OfClass p class.Blank → p ≡ piece.Blank
blank_only piece.Blank u = refl
blank_only _ u = absurd u

letter_only : (p : Piece) → OfClass p class.Letter → p ≡ piece.Name
letter_only piece.Name u = refl
letter_only _ u = absurd u

underscore_only : (p : Piece) → OfClass p class.Underscore → p ≡ piece.Name
underscore_only piece.Name u = refl
underscore_only _ u = absurd u

digit_only : (p : Piece) → OfClass p class.Digit → p ≡ piece.Number
digit_only piece.Number u = refl
digit_only _ u = absurd u

other_same : (p q : Piece) (b : ℕ) (bs : List ℕ) → OfClass p class.Other → OfClass q class.Other → IsPiece p (b ∷ bs) → IsPiece q (b ∷ bs) → p ≡ q
other_same piece.Comment piece.Comment b bs u v d e = refl
other_same (piece.Mark x) (piece.Mark y) b bs u v d e = ap (λ (m : Mark). piece.Mark m) (mark_same x y (b ∷ bs) d e)
other_same piece.Comment (piece.Mark y) b [] u v d e = absurd d
other_same piece.Comment (piece.Mark y) b (c ∷ bs) u v d e = absurd (not_slashes y b c bs e d.1)
other_same (piece.Mark x) piece.Comment b [] u v d e = absurd e
other_same (piece.Mark x) piece.Comment b (c ∷ bs) u v d e = absurd (not_slashes x b c bs d e.1)
other_same piece.Comment piece.Blank b bs u v d e = absurd v
other_same piece.Comment piece.Name b bs u v d e = absurd v
other_same piece.Comment piece.Number b bs u v d e = absurd v
other_same (piece.Mark x) piece.Blank b bs u v d e = absurd v
other_same (piece.Mark x) piece.Name b bs u v d e = absurd v
other_same (piece.Mark x) piece.Number b bs u v d e = absurd v
other_same piece.Blank q b bs u v d e = absurd u
other_same piece.Name q b bs u v d e = absurd u
other_same piece.Number q b bs u v d e = absurd u

same_by_class : (p q : Piece) (b : ℕ) (bs : List ℕ) (k : Class) → OfClass p k → OfClass q k → IsPiece p (b ∷ bs) → IsPiece q (b ∷ bs) → p ≡ q
same_by_class p q b bs class.Blank u v d e = blank_only p u ∙ sym (blank_only q v)
same_by_class p q b bs class.Letter u v d e = letter_only p u ∙ sym (letter_only q v)
same_by_class p q b bs class.Underscore u v d e = underscore_only p u ∙ sym (underscore_only q v)
same_by_class p q b bs class.Digit u v d e = digit_only p u ∙ sym (digit_only q v)
same_by_class p q b bs class.Other u v d e = other_same p q b bs u v d e

piece_same : (p q : Piece) (text : List ℕ) → 0 < length text → IsPiece p text → IsPiece q text → p ≡ q
piece_same p q [] h d e = absurd (omega arith)
piece_same p q (b ∷ bs) h d e = same_by_class p q b bs (class_of b) (piece_class p b bs d) (piece_class q b bs e) d e

-- the longest piece has one length
longest_same : (p q : Piece) (n m : ℕ) (bytes : List ℕ) → Longest p n bytes → Longest q m bytes → n ≡ m
longest_same p q n m bytes l k =
    let a = l.no_longer q m k.within k.is_piece in
    let b = k.no_longer p n l.within l.is_piece in
    omega arith

-- and it is one piece
longest_piece : (p q : Piece) (n : ℕ) (bytes : List ℕ) → Longest p n bytes → Longest q n bytes → p ≡ q
longest_piece p q n bytes l k =
    let h = positive p n bytes l.is_piece in
    let w = l.within in
    let e = length-take-le n bytes w in
    piece_same p q (take n bytes) (omega arith) l.is_piece k.is_piece

-- ---- one kind

abbrev KindIs : Piece → List ℕ → List ℕ → Option Kind → Type 0
KindIs p text after None = IsBetween p
KindIs p text after (Some k) = IsKind p text after k

name_kind : Option Word → Kind
name_kind None = kinds.Name
name_kind (Some w) = kinds.Word w

-- the kind that a piece has, if it is a token at all
kind_read : Piece → List ℕ → Option Kind
kind_read piece.Blank text = None
kind_read piece.Comment text = None
kind_read piece.Name text = Some (name_kind (found text))
kind_read piece.Number text = Some (kinds.Number (pos (value_of text)))
kind_read (piece.Mark m) text = Some (kinds.Mark m)

no_word : (text : List ℕ) → SpellsNoWord text → found text ≡ None
no_word text h = by_case (found text) refl
  where
    by_case : (o : Option Word) → o ≡ found text → o ≡ None
    by_case None e = refl
    by_case (Some w) e = absurd (h w (word_read text (Some w) e))

name_is : (text after : List ℕ) (k : Kind) → IsKind piece.Name text after k → k ≡ name_kind (found text)
unfolding name_kind
name_is text after (kinds.Word w) d = sym (ap name_kind (ap found (sym d) ∙ word_found w))
name_is text after kinds.Name d = sym (ap name_kind (no_word text d))
name_is text after (kinds.Number v) d = absurd d
name_is text after (kinds.Mark m) d = absurd d

number_is : (text after : List ℕ) (k : Kind) → IsKind piece.Number text after k → k ≡ kinds.Number (pos (value_of text))
number_is text after (kinds.Number v) d = ap (λ (x : ℤ). kinds.Number x) d.0
number_is text after kinds.Name d = absurd d
number_is text after (kinds.Word w) d = absurd d
number_is text after (kinds.Mark m) d = absurd d

mark_is : (m : Mark) (text after : List ℕ) (k : Kind) → IsKind (piece.Mark m) text after k → k ≡ kinds.Mark m
mark_is m text after (kinds.Mark n) d = ap (λ (x : Mark). kinds.Mark x) (sym d)
mark_is m text after (kinds.Number v) d = absurd d
mark_is m text after kinds.Name d = absurd d
mark_is m text after (kinds.Word w) d = absurd d

kind_is : (p : Piece) (text after : List ℕ) (o : Option Kind) → KindIs p text after o → o ≡ kind_read p text
unfolding kind_read
kind_is piece.Blank text after None d = refl
kind_is piece.Comment text after None d = refl
kind_is piece.Name text after None d = absurd d
kind_is piece.Number text after None d = absurd d
kind_is (piece.Mark m) text after None d = absurd d
kind_is piece.Blank text after (Some k) d = absurd d
kind_is piece.Comment text after (Some k) d = absurd d
kind_is piece.Name text after (Some k) d = ap (λ (x : Kind). Some x) (name_is text after k d)
kind_is piece.Number text after (Some k) d = ap (λ (x : Kind). Some x) (number_is text after k d)
kind_is (piece.Mark m) text after (Some k) d = ap (λ (x : Kind). Some x) (mark_is m text after k d)

kind_same : (p : Piece) (text after : List ℕ) (j k : Option Kind) → KindIs p text after j → KindIs p text after k → j ≡ k
kind_same p text after j k d e = kind_is p text after j d ∙ sym (kind_is p text after k e)

-- ---- one way on

-- the token of a piece at a place, if it is one
abbrev pub token_here : List ℕ → ℕ → ℕ → Option Kind → List Token
token_here source at n o = tokens_of o at (at + n) (1 + line_feeds (take at source))

-- nothing is read at a place
abbrev Ends : List ℕ → ℕ → Type 0
Ends source at = (p : Piece) (n : ℕ) (o : Option Kind) → Longest p n (drop at source) → KindIs p (take n (drop at source)) (drop n (drop at source)) o → ⊥

abbrev GoesOn : List ℕ → ℕ → ℕ → Option Kind → List Token → ℕ → Type 0
GoesOn source at n o us end = (vs : List Token) × Lexed source (at + n) vs end × (us ≡ token_here source at n o ++ vs)

goes_on : (source : List ℕ) {at end : ℕ} {us : List Token} → Lexed source at us end → (p : Piece) (n : ℕ) (o : Option Kind) → Longest p n (drop at source)
    → KindIs p (take n (drop at source)) (drop n (drop at source)) o → Ends source end → GoesOn source at n o us end
goes_on source (none {at = at}) p n o l k stop = absurd (stop p n o l k)
goes_on source (between {at = at} {n = m} {to = to} {p = q} {ts = us} l' b' d') p n o l k stop =
    let e : m ≡ n = longest_same q p m n (drop at source) l' l in
    let l2 : Longest q n (drop at source) = subst (λ (x : ℕ). Longest q x (drop at source)) e l' in
    let f : q ≡ p = longest_piece q p n (drop at source) l2 l in
    let b2 : IsBetween p = subst IsBetween f b' in
    let g : None ≡ o = kind_same p (take n (drop at source)) (drop n (drop at source)) None o b2 k in
    (us, subst (λ (x : ℕ). Lexed source (at + x) us to) e d', subst (λ (j : Option Kind). us ≡ token_here source at n j ++ us) g refl)
goes_on source (token {at = at} {n = m} {to = to} {p = q} {k = kind} {ts = vs} l' b' d') p n o l k stop =
    let e : m ≡ n = longest_same q p m n (drop at source) l' l in
    let l2 : Longest q n (drop at source) = subst (λ (x : ℕ). Longest q x (drop at source)) e l' in
    let f : q ≡ p = longest_piece q p n (drop at source) l2 l in
    let b2 : IsKind q (take n (drop at source)) (drop n (drop at source)) kind = subst (λ (x : ℕ). IsKind q (take x (drop at source)) (drop x (drop at source)) kind) e b' in
    let b3 : IsKind p (take n (drop at source)) (drop n (drop at source)) kind = subst (λ (x : Piece). IsKind x (take n (drop at source)) (drop n (drop at source)) kind) f b2 in
    let g : Some kind ≡ o = kind_same p (take n (drop at source)) (drop n (drop at source)) (Some kind) o b3 k in
    let h : token_at source at m kind ∷ vs ≡ token_at source at n kind ∷ vs = ap (λ (x : ℕ). token_at source at x kind ∷ vs) e in
    (vs, subst (λ (x : ℕ). Lexed source (at + x) vs to) e d', subst (λ (j : Option Kind). token_at source at m kind ∷ vs ≡ token_here source at n j ++ vs) g h)

abbrev Prefix : List ℕ → ℕ → List Token → List Token → ℕ → Type 0
Prefix source to ts us end = (xs : List Token) × Lexed source to xs end × (us ≡ ts ++ xs)

-- what leads to an end goes through every place that is reached
split : (source : List ℕ) {at to : ℕ} {ts : List Token} → Lexed source at ts to → (us : List Token) (end : ℕ) → Lexed source at us end → Ends source end → Prefix source to ts us end
split source (none {at = at}) us end d stop = (us, d, refl)
split source (between {at = at} {n = n} {to = to} {p = p} {ts = ts} l b rest) us end d stop =
    let r = goes_on source d p n None l b stop in
    let s = split source rest r.0 end r.1 stop in
    (s.0, s.1, r.2 ∙ s.2)
split source (token {at = at} {n = n} {to = to} {p = p} {k = k} {ts = ts} l b rest) us end d stop =
    let r = goes_on source d p n (Some k) l b stop in
    let s = split source rest r.0 end r.1 stop in
    (s.0, s.1, r.2 ∙ ap (λ (xs : List Token). token_at source at n k ∷ xs) s.2)

stays : (source : List ℕ) {at end : ℕ} {us : List Token} → Lexed source at us end → Ends source at → (us ≡ []) × (end ≡ at)
stays source (none {at = at}) stop = (refl, refl)
stays source (between {at = at} {n = n} {to = to} {p = p} {ts = ts} l b rest) stop = absurd (stop p n None l b)
stays source (token {at = at} {n = n} {to = to} {p = p} {k = k} {ts = ts} l b rest) stop = absurd (stop p n (Some k) l b)

same_end : (source : List ℕ) (ts us : List Token) (to end : ℕ) → Lexed source 0 ts to → Lexed source 0 us end → Ends source to → Ends source end → (us ≡ ts) × (end ≡ to)
same_end source ts us to end d e stop stop' =
    let s = split source d us end e stop' in
    let r = stays source s.1 stop in
    (s.2 ∙ ap (λ (xs : List Token). ts ++ xs) r.0 ∙ append-nil ts, r.1)

-- ---- ends

inside : (p : Piece) (n at : ℕ) (source : List ℕ) → Longest p n (drop at source) → at < length source
inside p n at source l =
    let h = positive p n (drop at source) l.is_piece in
    let w = l.within in
    omega (arith, length-drop at source)

end_of_source : (source : List ℕ) → Ends source (length source)
end_of_source source p n o l k = let h = inside p n (length source) source l in absurd (omega arith)

refused_kind : (p : Piece) (text after : List ℕ) (o : Option Kind) → p ≡ piece.Number → IsRefused text after → KindIs p text after o → ⊥
refused_kind p text after o e r k = by_kind o (subst (λ (q : Piece). KindIs q text after o) e k)
  where
    by_kind : (j : Option Kind) → KindIs piece.Number text after j → ⊥
    by_kind None d = d
    by_kind (Some (kinds.Number v)) d = d.1 r
    by_kind (Some kinds.Name) d = d
    by_kind (Some (kinds.Word w)) d = d
    by_kind (Some (kinds.Mark m)) d = d

fault_ends : (source : List ℕ) (at : ℕ) (f : LexError) → IsFault source at f → Ends source at
fault_ends source at (errors.Byte i) d p n o l k = d.2 p n l.within l.is_piece
fault_ends source at (errors.Literal i) d p n o l k =
    let e : d.1 ≡ n = longest_same piece.Number p d.1 n (drop at source) d.2 l in
    let l2 : Longest piece.Number n (drop at source) = subst (λ (x : ℕ). Longest piece.Number x (drop at source)) e d.2 in
    let r : IsRefused (take n (drop at source)) (drop n (drop at source)) = subst (λ (x : ℕ). IsRefused (take x (drop at source)) (drop x (drop at source))) e d.3 in
    refused_kind p (take n (drop at source)) (drop n (drop at source)) o (longest_piece p piece.Number n (drop at source) l l2) r k
fault_ends source at errors.Memory d p n o l k = d

fault_inside : (source : List ℕ) (at : ℕ) (f : LexError) → IsFault source at f → at < length source
fault_inside source at (errors.Byte i) d = d.1
fault_inside source at (errors.Literal i) d = inside piece.Number d.1 at source d.2
fault_inside source at errors.Memory d = absurd d

fault_same : (source : List ℕ) (at : ℕ) (f g : LexError) → IsFault source at f → IsFault source at g → f ≡ g
fault_same source at (errors.Byte i) (errors.Byte j) d e = ap (λ (x : ℕ). errors.Byte x) (d.0 ∙ sym e.0)
fault_same source at (errors.Literal i) (errors.Literal j) d e = ap (λ (x : ℕ). errors.Literal x) (d.0 ∙ sym e.0)
fault_same source at (errors.Byte i) (errors.Literal j) d e = let l = e.2 in absurd (d.2 piece.Number e.1 l.within l.is_piece)
fault_same source at (errors.Literal i) (errors.Byte j) d e = let l = d.2 in absurd (e.2 piece.Number d.1 l.within l.is_piece)
fault_same source at errors.Memory g d e = absurd d
fault_same source at (errors.Byte i) errors.Memory d e = absurd e
fault_same source at (errors.Literal i) errors.Memory d e = absurd e

-- ---- one answer

-- no two lists of tokens are those of one source
pub tokens_same : (source : List ℕ) (ts us : List Token) → AreTokens source ts → AreTokens source us → us ≡ ts
tokens_same source ts us d e = (same_end source ts us (length source) (length source) d e (end_of_source source) (end_of_source source)).0

-- a source with tokens has no fault
pub not_both : (source : List ℕ) (ts : List Token) (f : LexError) → AreTokens source ts → HasFault source f → ⊥
not_both source ts f d e =
    let s = same_end source ts e.0 (length source) e.1 d e.2 (end_of_source source) (fault_ends source e.1 f e.3) in
    let i = fault_inside source e.1 f e.3 in
    let h : e.1 ≡ length source = s.1 in
    omega arith

-- a source has one first fault
pub faults_same : (source : List ℕ) (f g : LexError) → HasFault source f → HasFault source g → f ≡ g
faults_same source f g d e =
    let s = same_end source d.0 e.0 d.1 e.1 d.2 e.2 (fault_ends source d.1 f d.3) (fault_ends source e.1 g e.3) in
    fault_same source d.1 f g d.3 (subst (λ (x : ℕ). IsFault source x g) s.1 e.3)

-- ---- the contract of lex

abbrev Gives : List ℕ → Result (Vec Token) LexError → Type 0
Gives source r = MatchResult r (λ v. AreTokens source v.items) (λ e. (e ≡ errors.Memory) ⊎ HasFault source e)

pub gives_only : (source : List ℕ) (r : Result (Vec Token) LexError) → Gives source r → (ts : List Token) → AreTokens source ts → MatchResult r (λ v. v.items ≡ ts) (λ e. e ≡ errors.Memory)
gives_only source (Ok v) h ts d = tokens_same source ts v.items d h
gives_only source (Err e) h ts d = elim h [ inl m ↦ m | inr f ↦ absurd (not_both source ts e d f) ]

pub gives_first : (source : List ℕ) (r : Result (Vec Token) LexError) → Gives source r → (f : LexError) → HasFault source f → (r ≡ Err f) ⊎ (r ≡ Err errors.Memory)
gives_first source (Ok v) h f d = absurd (not_both source v.items f h d)
gives_first source (Err e) h f d = elim h [
  | inl m ↦ inr (ap (λ (x : LexError). Err x) m)
  | inr g ↦ inl (ap (λ (x : LexError). Err x) (faults_same source e f g d))
]
