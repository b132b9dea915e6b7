-- Longest pieces.
use Rattle.std.proofs.Common.{◌≡◌, ℕ, zero, suc, ◌+◌, ◌<◌, ◌≤◌, Bool, true, false, cond, List, [], ◌∷◌, length, get_or, take, drop, refl, sym, ap, subst, ◌∙◌, arith, length-drop}
use Rattle.std.specs.Prelude.{◌-◌}
use Rattle.std.specs.List.{prefix_len, AllPass}
use Rattle.std.proofs.lemmas.List.{length-take-le, take_all}
use Rattle.std.proofs.lemmas.List.Sums.{prefix_len-le-length}
use Rattle.oc_lex.specs.declared.bytes.Class.{Class}
use Rattle.oc_lex.specs.declared.bytes.Class.TheVariants as class
use Rattle.oc_lex.specs.declared.piece.Piece.{Piece}
use Rattle.oc_lex.specs.declared.piece.Piece.TheVariants as piece
use Rattle.oc_lex.specs.declared.token.Mark.{Mark}
use Rattle.oc_lex.specs.declared.token.Mark.TheVariants as marks
use Rattle.oc_lex.specs.Bytes.{in_name, in_number, in_line}
use Rattle.oc_lex.specs.Classes.{class_of, begins_name_class}
use Rattle.oc_lex.proofs.ClassLaws.{blank_of_class, class_of_blank, digit_of_class, class_of_digit, begins_is}
use Rattle.oc_lex.specs.Spellings.{mark_spelling, SpellsNoMark}
use Rattle.oc_lex.specs.Pieces.{IsPiece, Longest, BeginNoPiece}

-- ---- how far a test is passed

all_none : (p : ℕ → Bool) → AllPass p []
all_none p k d l = absurd (omega arith)

all_more : (p : ℕ → Bool) (b : ℕ) (bs : List ℕ) → p b ≡ true → AllPass p bs → AllPass p (b ∷ bs)
all_more p b bs e h zero d l = e
all_more p b bs e h (suc k) d l = h k d (omega arith)

all_rest : (p : ℕ → Bool) (b : ℕ) (bs : List ℕ) → AllPass p (b ∷ bs) → AllPass p bs
all_rest p b bs h k d l = h (suc k) d (omega arith)

pub run_all : (p : ℕ → Bool) (bs : List ℕ) → AllPass p (take (prefix_len p bs) bs)
run_all p [] = all_none p
run_all p (b ∷ bs) = by_test (p b) refl (run_all p bs)
  where
    by_test : (t : Bool) → p b ≡ t → AllPass p (take (prefix_len p bs) bs) → AllPass p (take (cond t (1 + prefix_len p bs) 0) (b ∷ bs))
    by_test true e h = let s : suc (prefix_len p bs) ≡ 1 + prefix_len p bs = omega arith in subst (λ (n : ℕ). AllPass p (take n (b ∷ bs))) s (all_more p b (take (prefix_len p bs) bs) e h)
    by_test false e h = all_none p

pub run_longest : (p : ℕ → Bool) (bs : List ℕ) (n : ℕ) → n ≤ length bs → AllPass p (take n bs) → n ≤ prefix_len p bs
run_longest p bs zero h a = omega arith
run_longest p [] (suc n) h a = omega arith
run_longest p (b ∷ bs) (suc n) h a =
    let k = run_longest p bs n (omega arith) (all_rest p b (take n bs) a) in
    let t : p b ≡ true = a 0 0 (omega arith) in
    rw t (omega arith)

-- what follows the first, as the code names it
tail_is : (bytes : List ℕ) → take (length bytes - 1) (drop 1 bytes) ≡ drop 1 bytes
tail_is bytes = take_all (length bytes - 1) (drop 1 bytes) (omega (arith, length-drop 1 bytes))

abbrev pub tail_of : List ℕ → List ℕ
tail_of bytes = take (length bytes - 1) (drop 1 bytes)

-- ---- marks

at_front : (x b : ℕ) (xs bs : List ℕ) → x ∷ xs ≡ b ∷ bs → class_of x ≡ class.Other → class_of b ≡ class.Other
at_front x b xs bs e h = let f : x ≡ b = cc in subst (λ (y : ℕ). class_of y ≡ class.Other) f h

pub mark_class : (m : Mark) (b : ℕ) (bs : List ℕ) → mark_spelling m ≡ b ∷ bs → class_of b ≡ class.Other
unfolding class_of
mark_class marks.OpenRound b bs e = at_front _ b _ bs e refl
mark_class _ b bs e = at_front _ b _ bs e refl

mark_short : (m : Mark) → (0 < length (mark_spelling m)) × (length (mark_spelling m) ≤ 2)
mark_short marks.OpenRound = (omega arith, omega arith)
mark_short _ = (omega arith, omega arith)

length-mark : (m : Mark) (text : List ℕ) → mark_spelling m ≡ text → (0 < length text) × (length text ≤ 2)
length-mark m text e = subst (λ (t : List ℕ). (0 < length t) × (length t ≤ 2)) e (mark_short m)

-- ---- the class of the first byte says which pieces it may begin

abbrev pub OfClass : Piece → Class → Type 0
OfClass piece.Blank class.Blank = Unit {0}
OfClass piece.Comment class.Other = Unit {0}
OfClass piece.Name class.Letter = Unit {0}
OfClass piece.Name class.Underscore = Unit {0}
OfClass piece.Number class.Digit = Unit {0}
OfClass (piece.Mark m) class.Other = Unit {0}
OfClass _ _ = ⊥

name_class : (k : Class) → begins_name_class k ≡ true → OfClass piece.Name k
name_class class.Letter e = tt
name_class class.Underscore e = tt
name_class class.Blank e = absurd cc
name_class class.Digit e = absurd cc
name_class class.Other e = absurd cc

slash_class : (b : ℕ) → b ≡ 47 → class_of b ≡ class.Other
unfolding class_of
slash_class b e = subst (λ (x : ℕ). class_of x ≡ class.Other) (sym e) refl

is_of : (p : Piece) (j k : Class) → k ≡ j → OfClass p j → OfClass p k
is_of p j k e h = subst (λ (x : Class). OfClass p x) (sym e) h

pub piece_class : (p : Piece) (b : ℕ) (bs : List ℕ) → IsPiece p (b ∷ bs) → OfClass p (class_of b)
piece_class piece.Blank b [] d = is_of piece.Blank class.Blank (class_of b) (class_of_blank b d) tt
piece_class piece.Blank b (c ∷ bs) d = absurd d
piece_class piece.Comment b [] d = absurd d
piece_class piece.Comment b (c ∷ bs) d = is_of piece.Comment class.Other (class_of b) (slash_class b d.0) tt
piece_class piece.Name b bs d = name_class (class_of b) (sym (begins_is b) ∙ d.0)
piece_class piece.Number b bs d = is_of piece.Number class.Digit (class_of b) (class_of_digit b d.0) tt
piece_class (piece.Mark m) b bs d = is_of (piece.Mark m) class.Other (class_of b) (mark_class m b bs d) tt

-- a piece whose first byte has a known class
of_class : (p : Piece) (b : ℕ) (bs : List ℕ) (k : Class) → class_of b ≡ k → IsPiece p (b ∷ bs) → OfClass p k
of_class p b bs k e d = subst (λ (x : Class). OfClass p x) e (piece_class p b bs d)

pub positive : (p : Piece) (n : ℕ) (bytes : List ℕ) → IsPiece p (take n bytes) → 0 < n
positive piece.Blank zero bytes d = absurd d
positive piece.Comment zero bytes d = absurd d
positive piece.Name zero bytes d = absurd d
positive piece.Number zero bytes d = absurd d
positive (piece.Mark m) zero bytes d = (length-mark m [] d).0
positive p (suc n) bytes d = omega arith

-- ---- blanks, names, numbers

blank_most : (q : Piece) (m : ℕ) (b : ℕ) (bs : List ℕ) → class_of b ≡ class.Blank → m ≤ length (b ∷ bs) → IsPiece q (take m (b ∷ bs)) → m ≤ 1
blank_most q zero b bs e h d = omega arith
blank_most q (suc zero) b bs e h d = omega arith
blank_most q (suc (suc m)) b [] e h d = omega arith
blank_most q (suc (suc m)) b (c ∷ bs) e h d = by_piece q d (of_class q b (c ∷ take m bs) class.Blank e d)
  where
    by_piece : (p : Piece) → IsPiece p (b ∷ c ∷ take m bs) → OfClass p class.Blank → suc (suc m) ≤ 1
    by_piece piece.Blank d o = absurd d
    by_piece piece.Comment d o = absurd o
    by_piece piece.Name d o = absurd o
    by_piece piece.Number d o = absurd o
    by_piece (piece.Mark x) d o = absurd o

pub blank_longest : (bytes : List ℕ) → 1 ≤ length bytes → class_of (get_or bytes 0 0) ≡ class.Blank → Longest piece.Blank 1 bytes
blank_longest [] h e = absurd (omega arith)
blank_longest (b ∷ bs) h e = record { within = omega arith; is_piece = blank_of_class b e; no_longer = λ q m h d. blank_most q m b bs e h d }

name_most : (q : Piece) (m : ℕ) (b : ℕ) (bs : List ℕ) (k : Class) → class_of b ≡ k → begins_name_class k ≡ true → m ≤ length (b ∷ bs) → IsPiece q (take m (b ∷ bs)) → m ≤ 1 + prefix_len in_name bs
name_most q zero b bs k e t h d = omega arith
name_most q (suc m) b bs k e t h d = by_piece q k t d (of_class q b (take m bs) k e d)
  where
    by_piece : (p : Piece) (j : Class) → begins_name_class j ≡ true → IsPiece p (b ∷ take m bs) → OfClass p j → suc m ≤ 1 + prefix_len in_name bs
    by_piece piece.Name j t d o = let l = run_longest in_name bs m (omega arith) d.1 in omega arith
    by_piece p class.Blank t d o = absurd cc
    by_piece p class.Digit t d o = absurd cc
    by_piece p class.Other t d o = absurd cc
    by_piece piece.Blank class.Letter t d o = absurd o
    by_piece piece.Blank class.Underscore t d o = absurd o
    by_piece piece.Comment class.Letter t d o = absurd o
    by_piece piece.Comment class.Underscore t d o = absurd o
    by_piece piece.Number class.Letter t d o = absurd o
    by_piece piece.Number class.Underscore t d o = absurd o
    by_piece (piece.Mark x) class.Letter t d o = absurd o
    by_piece (piece.Mark x) class.Underscore t d o = absurd o

pub name_longest : (bytes : List ℕ) (n : ℕ) (k : Class) → 1 ≤ length bytes → class_of (get_or bytes 0 0) ≡ k → begins_name_class k ≡ true → n ≡ prefix_len in_name (tail_of bytes)
    → Longest piece.Name (1 + n) bytes
name_longest [] n k h e t f = absurd (omega arith)
name_longest (b ∷ bs) n k h e t f =
    let w = prefix_len-le-length in_name bs in
    let l : Longest piece.Name (suc (prefix_len in_name bs)) (b ∷ bs) =
    record { within = omega arith; is_piece = (begins_is b ∙ (ap begins_name_class e ∙ t), run_all in_name bs); no_longer = λ q m h d. let s = name_most q m b bs k e t h d in omega arith } in
    let s : suc (prefix_len in_name bs) ≡ 1 + n = omega (arith, f ∙ ap (prefix_len in_name) (tail_is (b ∷ bs))) in
    subst (λ (x : ℕ). Longest piece.Name x (b ∷ bs)) s l

number_most : (q : Piece) (m : ℕ) (b : ℕ) (bs : List ℕ) → class_of b ≡ class.Digit → m ≤ length (b ∷ bs) → IsPiece q (take m (b ∷ bs)) → m ≤ 1 + prefix_len in_number bs
number_most q zero b bs e h d = omega arith
number_most q (suc m) b bs e h d = by_piece q d (of_class q b (take m bs) class.Digit e d)
  where
    by_piece : (p : Piece) → IsPiece p (b ∷ take m bs) → OfClass p class.Digit → suc m ≤ 1 + prefix_len in_number bs
    by_piece piece.Number d o = let l = run_longest in_number bs m (omega arith) d.1 in omega arith
    by_piece piece.Blank d o = absurd o
    by_piece piece.Comment d o = absurd o
    by_piece piece.Name d o = absurd o
    by_piece (piece.Mark x) d o = absurd o

pub number_longest : (bytes : List ℕ) (n : ℕ) → 1 ≤ length bytes → class_of (get_or bytes 0 0) ≡ class.Digit → n ≡ prefix_len in_number (tail_of bytes) → Longest piece.Number (1 + n) bytes
number_longest [] n h e f = absurd (omega arith)
number_longest (b ∷ bs) n h e f =
    let w = prefix_len-le-length in_number bs in
    let l : Longest piece.Number (suc (prefix_len in_number bs)) (b ∷ bs) =
    record { within = omega arith; is_piece = (digit_of_class b e, run_all in_number bs); no_longer = λ q m h d. let s = number_most q m b bs e h d in omega arith } in
    let s : suc (prefix_len in_number bs) ≡ 1 + n = omega (arith, f ∙ ap (prefix_len in_number) (tail_is (b ∷ bs))) in
    subst (λ (x : ℕ). Longest piece.Number x (b ∷ bs)) s l

-- ---- comments and marks

comment_most : (q : Piece) (m : ℕ) (b c : ℕ) (bs : List ℕ) → b ≡ 47 → m ≤ length (b ∷ c ∷ bs) → IsPiece q (take m (b ∷ c ∷ bs)) → m ≤ 2 + prefix_len in_line bs
comment_most q zero b c bs e h d = omega arith
comment_most q (suc zero) b c bs e h d = omega arith
comment_most q (suc (suc m)) b c bs e h d = by_piece q d (of_class q b (c ∷ take m bs) class.Other (slash_class b e) d)
  where
    by_piece : (p : Piece) → IsPiece p (b ∷ c ∷ take m bs) → OfClass p class.Other → suc (suc m) ≤ 2 + prefix_len in_line bs
    by_piece piece.Comment d o = let l = run_longest in_line bs m (omega arith) d.2 in omega arith
    by_piece (piece.Mark x) d o = let l = (length-mark x (b ∷ c ∷ take m bs) d).1 in let k = length-take-le m bs (omega arith) in omega arith
    by_piece piece.Blank d o = absurd o
    by_piece piece.Name d o = absurd o
    by_piece piece.Number d o = absurd o

pub comment_longest : (b : ℕ) (rest : List ℕ) (n : ℕ) → 1 ≤ length rest → b ≡ 47 → get_or rest 0 0 ≡ 47 → n ≡ prefix_len in_line (tail_of rest) → Longest piece.Comment (2 + n) (b ∷ rest)
comment_longest b [] n h e f g = absurd (omega arith)
comment_longest b (c ∷ bs) n h e f g =
    let w = prefix_len-le-length in_line bs in
    let l : Longest piece.Comment (suc (suc (prefix_len in_line bs))) (b ∷ c ∷ bs) =
    record { within = omega arith; is_piece = (e, f, run_all in_line bs); no_longer = λ q m h d. let s = comment_most q m b c bs e h d in omega arith } in
    let s : suc (suc (prefix_len in_line bs)) ≡ 2 + n = omega (arith, g ∙ ap (prefix_len in_line) (tail_is (c ∷ bs))) in
    subst (λ (x : ℕ). Longest piece.Comment x (b ∷ c ∷ bs)) s l

-- the bytes begin with no comment
abbrev pub NoComment : ℕ → List ℕ → Type 0
NoComment b [] = Unit {0}
NoComment b (c ∷ bs) = b ≡ 47 → c ≡ 47 → ⊥

-- the bytes begin with no mark of two bytes
abbrev pub NoDouble : ℕ → List ℕ → Type 0
NoDouble b [] = Unit {0}
NoDouble b (c ∷ bs) = SpellsNoMark (b ∷ c ∷ [])

-- what begins like no other piece is a mark
other_mark : (q : Piece) (m b : ℕ) (rest : List ℕ) → class_of b ≡ class.Other → NoComment b rest → IsPiece q (take m (b ∷ rest)) → (x : Mark) × (mark_spelling x ≡ take m (b ∷ rest))
other_mark piece.Blank zero b rest e n d = absurd d
other_mark piece.Comment zero b rest e n d = absurd d
other_mark piece.Name zero b rest e n d = absurd d
other_mark piece.Number zero b rest e n d = absurd d
other_mark (piece.Mark x) m b rest e n d = (x, d)
other_mark piece.Blank (suc m) b rest e n d = absurd (of_class piece.Blank b (take m rest) class.Other e d)
other_mark piece.Name (suc m) b rest e n d = absurd (of_class piece.Name b (take m rest) class.Other e d)
other_mark piece.Number (suc m) b rest e n d = absurd (of_class piece.Number b (take m rest) class.Other e d)
other_mark piece.Comment (suc zero) b [] e n d = absurd d
other_mark piece.Comment (suc (suc m)) b [] e n d = absurd d
other_mark piece.Comment (suc zero) b (c ∷ bs) e n d = absurd d
other_mark piece.Comment (suc (suc m)) b (c ∷ bs) e n d = absurd (n d.0 d.1)

two_most : (q : Piece) (m b : ℕ) (rest : List ℕ) → class_of b ≡ class.Other → NoComment b rest → m ≤ length (b ∷ rest) → IsPiece q (take m (b ∷ rest)) → m ≤ 2
two_most q m b rest e n h d =
    let x = other_mark q m b rest e n d in
    let l = length-mark x.0 (take m (b ∷ rest)) x.1 in
    let k = length-take-le m (b ∷ rest) h in
    omega arith

one_most : (q : Piece) (m b : ℕ) (rest : List ℕ) → class_of b ≡ class.Other → NoComment b rest → NoDouble b rest → m ≤ length (b ∷ rest) → IsPiece q (take m (b ∷ rest)) → m ≤ 1
one_most q zero b rest e n t h d = omega arith
one_most q (suc zero) b rest e n t h d = omega arith
one_most q (suc (suc m)) b [] e n t h d = absurd (omega arith)
one_most q (suc (suc zero)) b (c ∷ bs) e n t h d = let x = other_mark q 2 b (c ∷ bs) e n d in absurd (t x.0 x.1)
one_most q (suc (suc (suc m))) b (c ∷ bs) e n t h d = let l = two_most q (suc (suc (suc m))) b (c ∷ bs) e n h d in absurd (omega arith)

pub double_longest : (b : ℕ) (rest : List ℕ) (x : Mark) → 1 ≤ length rest → class_of b ≡ class.Other → NoComment b rest → mark_spelling x ≡ b ∷ get_or rest 0 0 ∷ []
    → Longest (piece.Mark x) 2 (b ∷ rest)
double_longest b [] x h e n s = absurd (omega arith)
double_longest b (c ∷ bs) x h e n s = record { within = omega arith; is_piece = s; no_longer = λ q m h d. two_most q m b (c ∷ bs) e n h d }

pub single_longest : (b : ℕ) (rest : List ℕ) (x : Mark) → class_of b ≡ class.Other → NoComment b rest → NoDouble b rest → mark_spelling x ≡ b ∷ [] → Longest (piece.Mark x) 1 (b ∷ rest)
single_longest b rest x e n t s = record { within = omega arith; is_piece = s; no_longer = λ q m h d. one_most q m b rest e n t h d }

pub no_piece : (b : ℕ) (rest : List ℕ) → class_of b ≡ class.Other → NoComment b rest → NoDouble b rest → SpellsNoMark (b ∷ []) → BeginNoPiece (b ∷ rest)
no_piece b rest e n t s q zero h d = let p = positive q zero (b ∷ rest) d in absurd (omega arith)
no_piece b rest e n t s q (suc zero) h d = let x = other_mark q 1 b rest e n d in s x.0 x.1
no_piece b rest e n t s q (suc (suc m)) h d = let l = one_most q (suc (suc m)) b rest e n t h d in absurd (omega arith)

-- as the code tests

pub no_comment : (b : ℕ) (rest : List ℕ) → (b ≡ 47 → get_or rest 0 0 ≡ 47 → ⊥) → NoComment b rest
no_comment b [] h = tt
no_comment b (c ∷ bs) h = h

pub no_double : (b : ℕ) (rest : List ℕ) → SpellsNoMark (b ∷ get_or rest 0 0 ∷ []) → NoDouble b rest
no_double b [] h = tt
no_double b (c ∷ bs) h = h

pub none_after : (b : ℕ) (rest : List ℕ) → length rest < 1 → NoComment b rest × NoDouble b rest
none_after b [] h = (tt, tt)
none_after b (c ∷ bs) h = absurd (omega arith)
