-- What is read in front stands there, and what stands there is read.
use Rattle.std.proofs.Common.{◌≡◌, ℕ, suc, ℤ, Bool, true, false, cond, eqb, List, [], ◌∷◌, length, get_or, Option, Some, None, Result, Ok, Err, refl, sym, ap, subst, ◌∙◌, inl, inr, ◌⊎◌}
use Rattle.std.proofs.lemmas.Bool.{eqb-true, ne_eqb, eq-eqb}
use Rattle.std.proofs.lemmas.Option.{same_Some}
use Rattle.oc_tree.specs.Names.{Text}
use Rattle.oc_tree.specs.declared.tree.BinaryOp.{BinaryOp}
use Rattle.oc_lex.specs.declared.token.Word.{Word}
use Rattle.oc_lex.specs.declared.token.Word.TheVariants as words
use Rattle.oc_lex.specs.declared.token.Mark.{Mark}
use Rattle.oc_lex.specs.declared.token.Mark.TheVariants as marks
use Rattle.oc_grammar.specs.Lexemes.{Lexeme, Lexemes, named, numeral, keyword, sign}
use Rattle.oc_grammar.specs.Fronts.{Named, a_name, Numeral, a_numeral, Keyword, a_keyword, Sign, a_sign, Infix, an_operator, infix_of}
use Rattle.oc_grammar.specs.Reading.{Fault, ◌>>=◌, with_some, refuse, mark_number, word_number, next_at, strip_mark, strip_word, expect_mark, expect_word, name_at, number_at}
use Rattle.oc_grammar.specs.Reading.{at_level, operator_of, before, operator_front}

-- ---- tools

pub bind_ok : {A B : Type 0} (r : Result A Fault) (f : A → Result B Fault) (y : B) → (r >>= f) ≡ Ok y → (x : A) × (r ≡ Ok x) × (f x ≡ Ok y)
bind_ok (Ok x) f y e = (x, refl, e)
bind_ok (Err d) f y e = absurd cc

pub bind_same : {A B : Type 0} (r : Result A Fault) (f g : A → Result B Fault) → ((x : A) → r ≡ Ok x → f x ≡ g x) → (r >>= f) ≡ (r >>= g)
bind_same (Ok x) f g h = h x refl
bind_same (Err d) f g h = refl

abbrev pub done : {A : Type 0} → A → Result A Fault
done x = Ok x

pub ok_is : {A : Type 0} (x y : A) → done x ≡ done y → x ≡ y
ok_is x y e = cc

pub with_some_ok : {A B : Type 0} (o : Option A) (y : B) (f : A → B) (z : B) → with_some o y f ≡ z → ((o ≡ None) × (y ≡ z)) ⊎ ((x : A) × (o ≡ Some x) × (f x ≡ z))
with_some_ok None y f z e = inl (refl, e)
with_some_ok (Some x) y f z e = inr (x, refl, e)

pub with_some_same : {A B : Type 0} (o : Option A) (y z : B) (f g : A → B) → (o ≡ None → y ≡ z) → ((x : A) → o ≡ Some x → f x ≡ g x) → with_some o y f ≡ with_some o z g
with_some_same None y z f g h k = h refl
with_some_same (Some x) y z f g h k = k x refl

pub chosen : {A : Type 0} (b : Bool) (x y z : A) → cond b x y ≡ z → ((b ≡ true) × (x ≡ z)) ⊎ ((b ≡ false) × (y ≡ z))
chosen true x y z e = inl (refl, e)
chosen false x y z e = inr (refl, e)

-- ---- marks and words

marks_in_order : List Mark
marks_in_order = marks.OpenRound ∷ marks.CloseRound ∷ marks.OpenCurly ∷ marks.CloseCurly ∷ marks.OpenSquare ∷ marks.CloseSquare ∷ marks.Semicolon ∷ marks.Colon ∷ marks.Comma ∷
    marks.Arrow ∷ marks.Assign ∷ marks.Equal ∷ marks.NotEqual ∷ marks.Less ∷ marks.LessEqual ∷ marks.Greater ∷ marks.GreaterEqual ∷ marks.Plus ∷ marks.Minus ∷ marks.Star ∷
    marks.Slash ∷ marks.Percent ∷ marks.And ∷ marks.Or ∷ marks.Not ∷ marks.Ampersand ∷ []

mark_of : ℕ → Mark
mark_of n = get_or marks_in_order n marks.Range

mark_back : (m : Mark) → mark_of (mark_number m) ≡ m
unfolding mark_of marks_in_order
mark_back marks.OpenRound = refl
mark_back x = refl

words_in_order : List Word
words_in_order = words.Sensor ∷ words.Port ∷ words.Nonvolatile ∷ words.Function ∷ words.Let ∷ words.Mutable ∷ words.If ∷ words.Else ∷ words.For ∷ words.In ∷ words.While ∷
    words.Bound ∷ words.Return ∷ words.True ∷ words.False ∷ words.Emit ∷ words.Sense ∷ words.Fresh ∷ words.Consistent ∷ words.Int ∷ words.Bool ∷ words.Atomic ∷ []

word_of : ℕ → Word
word_of n = get_or words_in_order n words.Underscore

word_back : (w : Word) → word_of (word_number w) ≡ w
unfolding word_of words_in_order
word_back words.Sensor = refl
word_back x = refl

pub one_mark : (a b : Mark) → mark_number a ≡ mark_number b → a ≡ b
one_mark a b e = sym (mark_back a) ∙ ap mark_of e ∙ mark_back b

pub one_word : (a b : Word) → word_number a ≡ word_number b → a ≡ b
one_word a b e = sym (word_back a) ∙ ap word_of e ∙ word_back b

-- ---- what is read in front stands there

pub strip_mark_ok : (m : Mark) (ts rest : Lexemes) → strip_mark m ts ≡ Some rest → Sign m ts rest
unfolding strip_mark
strip_mark_ok m (sign line k ∷ ts) rest e =
    elim (chosen (eqb (mark_number k) (mark_number m)) (Some ts) None (Some rest) e) [
      | inl w ↦
          let a : k ≡ m = one_mark k m (eqb-true _ _ w.0) in
          let b : ts ≡ rest = same_Some ts rest w.1 in
          subst (λ (n : Mark). Sign n (sign line k ∷ ts) rest) a (subst (λ (r : Lexemes). Sign k (sign line k ∷ ts) r) b a_sign)
      | inr w ↦ absurd cc
    ]
strip_mark_ok m _ rest e = absurd cc

pub strip_word_ok : (w : Word) (ts rest : Lexemes) → strip_word w ts ≡ Some rest → Keyword w ts rest
unfolding strip_word
strip_word_ok m (keyword line k ∷ ts) rest e =
    elim (chosen (eqb (word_number k) (word_number m)) (Some ts) None (Some rest) e) [
      | inl w ↦
          let a : k ≡ m = one_word k m (eqb-true _ _ w.0) in
          let b : ts ≡ rest = same_Some ts rest w.1 in
          subst (λ (n : Word). Keyword n (keyword line k ∷ ts) rest) a (subst (λ (r : Lexemes). Keyword k (keyword line k ∷ ts) r) b a_keyword)
      | inr w ↦ absurd cc
    ]
strip_word_ok m _ rest e = absurd cc

expected : (o : Option Lexemes) (ts rest : Lexemes) → with_some o (refuse ts) (λ us. Ok us) ≡ done rest → o ≡ Some rest
expected None ts rest e = absurd cc
expected (Some x) ts rest e = ap (λ (l : Lexemes). Some l) (ok_is x rest e)

pub expect_mark_ok : (m : Mark) (ts rest : Lexemes) → expect_mark m ts ≡ Ok rest → Sign m ts rest
unfolding expect_mark
expect_mark_ok m ts rest e = strip_mark_ok m ts rest (expected (strip_mark m ts) ts rest e)

pub expect_word_ok : (w : Word) (ts rest : Lexemes) → expect_word w ts ≡ Ok rest → Keyword w ts rest
unfolding expect_word
expect_word_ok w ts rest e = strip_word_ok w ts rest (expected (strip_word w ts) ts rest e)

pub name_ok : (ts : Lexemes) (x : Text) (rest : Lexemes) → name_at ts ≡ Ok (x, rest) → Named x ts rest
unfolding name_at
name_ok (named line y ∷ ts) x rest e = let p = ok_is (y, ts) (x, rest) e in subst (λ (q : Text × Lexemes). Named q.0 (named line y ∷ ts) q.1) p a_name
name_ok _ x rest e = absurd cc

pub number_ok : (ts : Lexemes) (v : ℤ) (rest : Lexemes) → number_at ts ≡ Ok (v, rest) → Numeral v ts rest
unfolding number_at
number_ok (numeral line y ∷ ts) v rest e = let p = ok_is (y, ts) (v, rest) e in subst (λ (q : ℤ × Lexemes). Numeral q.0 (numeral line y ∷ ts) q.1) p a_numeral
number_ok _ v rest e = absurd cc

pub next_ok : (ts : Lexemes) (x : Lexeme × Lexemes) → next_at ts ≡ Ok x → ts ≡ x.0 ∷ x.1
unfolding next_at
next_ok [] x e = absurd cc
next_ok (t ∷ ts) x e = ap (λ (p : Lexeme × Lexemes). p.0 ∷ p.1) (ok_is (t, ts) x e)

-- ---- what stands in front is read

pub sign_strip : {m : Mark} {from rest : Lexemes} → Sign m from rest → strip_mark m from ≡ Some rest
unfolding strip_mark
sign_strip (a_sign {m = m}) = rw (eq-eqb (mark_number m) (mark_number m) refl) refl

pub sign_expect : {m : Mark} {from rest : Lexemes} → Sign m from rest → expect_mark m from ≡ Ok rest
unfolding expect_mark
sign_expect d = rw (sign_strip d) refl

pub keyword_strip : {w : Word} {from rest : Lexemes} → Keyword w from rest → strip_word w from ≡ Some rest
unfolding strip_word
keyword_strip (a_keyword {w = w}) = rw (eq-eqb (word_number w) (word_number w) refl) refl

pub keyword_expect : {w : Word} {from rest : Lexemes} → Keyword w from rest → expect_word w from ≡ Ok rest
unfolding expect_word
keyword_expect d = rw (keyword_strip d) refl

pub name_read : {x : Text} {from rest : Lexemes} → Named x from rest → name_at from ≡ Ok (x, rest)
unfolding name_at
name_read a_name = refl

pub number_read : {v : ℤ} {from rest : Lexemes} → Numeral v from rest → number_at from ≡ Ok (v, rest)
unfolding number_at
number_read a_numeral = refl

-- ---- what is left is shorter

pub sign_shorter : {m : Mark} {from rest : Lexemes} → Sign m from rest → length from ≡ suc (length rest)
sign_shorter a_sign = refl

pub keyword_shorter : {w : Word} {from rest : Lexemes} → Keyword w from rest → length from ≡ suc (length rest)
keyword_shorter a_keyword = refl

pub name_shorter : {x : Text} {from rest : Lexemes} → Named x from rest → length from ≡ suc (length rest)
name_shorter a_name = refl

pub number_shorter : {v : ℤ} {from rest : Lexemes} → Numeral v from rest → length from ≡ suc (length rest)
number_shorter a_numeral = refl

pub infix_shorter : {op : BinaryOp} {level : ℕ} {from rest : Lexemes} → Infix op level from rest → length from ≡ suc (length rest)
infix_shorter (an_operator o) = refl

-- ---- operators

before_some : (ts : Lexemes) (o : Option BinaryOp) (x : BinaryOp × Lexemes) → before ts o ≡ Some x → (o ≡ Some x.0) × (ts ≡ x.1)
before_some ts None x e = absurd cc
before_some ts (Some op) x e =
    let p = same_Some (op, ts) x e in
    (ap (λ (y : BinaryOp × Lexemes). Some y.0) p, ap (λ (y : BinaryOp × Lexemes). y.1) p)

pub at_level_some : (level : ℕ) (o : Option (BinaryOp × ℕ)) (op : BinaryOp) → at_level level o ≡ Some op → o ≡ Some (op, level)
at_level_some level None op e = absurd cc
at_level_some level (Some x) op e =
    elim (chosen (eqb x.1 level) (Some x.0) None (Some op) e) [
      | inl w ↦ let k : x.1 ≡ level = eqb-true _ _ w.0 in let o : x.0 ≡ op = same_Some x.0 op w.1 in ap (λ (p : BinaryOp × ℕ). Some p) (pair x op level o k)
      | inr w ↦ absurd cc
    ]
  where
    pair : (x : BinaryOp × ℕ) (op : BinaryOp) (level : ℕ) → x.0 ≡ op → x.1 ≡ level → x ≡ (op, level)
    pair x op level a b = ap (λ (o : BinaryOp). (o, x.1)) a ∙ ap (λ (l : ℕ). (op, l)) b

pub front_ok : (level : ℕ) (ts : Lexemes) (x : BinaryOp × Lexemes) → operator_front level ts ≡ Some x → Infix x.0 level ts x.1
unfolding operator_front
front_ok level [] x e = absurd cc
front_ok level (token ∷ ts) x e =
    let b = before_some ts (operator_of level token) x e in
    subst (λ (l : Lexemes). Infix x.0 level (token ∷ ts) l) b.1 (an_operator (at_level_some level (infix_of token) x.0 b.0))

pub infix_front : {op : BinaryOp} {level : ℕ} {from rest : Lexemes} → Infix op level from rest → operator_front level from ≡ Some (op, rest)
unfolding operator_front
infix_front (an_operator {token = token} {op = op} {level = level} {rest = rest} e) = rw (e, eq-eqb level level refl) refl

-- an operator is of one level
pub other_level : {op : BinaryOp} {level : ℕ} {from rest : Lexemes} → Infix op level from rest → (j : ℕ) → (level ≡ j → ⊥) → operator_front j from ≡ None
unfolding operator_front
other_level (an_operator {token = token} {op = op} {level = level} {rest = rest} e) j ne = rw (e, ne_eqb level j ne) refl
