-- Statements without blocks: what is read is spelled so, and what is spelled so is read.
use Rattle.std.proofs.Common.{◌≡◌, ℕ, suc, ℤ, ◌<◌, ◌≤◌, Bool, true, false, eqb, List, ◌∷◌, length, Option, Some, None, Ok, refl, subst, arith, inl, inr}
use Rattle.std.specs.Prelude.{unsigned_abs}
use Rattle.oc_tree.specs.Names.{Text}
use Rattle.oc_tree.specs.Tree.{TExpr, TArg, call, TArgs, TRight, TKind, let_to, let_array, assign, assign_index, assign_deref, call_only, sense_only, emit, fresh, consistent, return, TElse, TBlock}
use Rattle.oc_tree.specs.View.{args_of}
use Rattle.oc_tree.specs.declared.tree.ValueKind.{ValueKind}
use Rattle.oc_tree.specs.declared.tree.ValueKind.TheVariants as types
use Rattle.oc_lex.specs.declared.token.Word.TheVariants as words
use Rattle.oc_lex.specs.declared.token.Mark.{Mark}
use Rattle.oc_lex.specs.declared.token.Mark.TheVariants as marks
use Rattle.oc_grammar.specs.Limits.{Limits}
use Rattle.oc_grammar.specs.Lexemes.{Lexeme, Lexemes, named, keyword, sign}
use Rattle.oc_grammar.specs.Fronts.{Named, a_name, a_numeral, Keyword, a_keyword, Sign, a_sign}
use Rattle.oc_grammar.specs.Expressions.{SpellsArgs, SpellsWhole}
use Rattle.oc_grammar.specs.Reading.{◌>>=◌, with_some, mark_number, next_at, strip_mark, strip_word, expect_mark, expect_word, name_at, number_at, take_word}
use Rattle.oc_grammar.specs.ReadingExpressions.{level_at, args_at, whole_at}
use Rattle.oc_grammar.specs.Statements.{SpellsArray, an_array, SpellsType, int_type, bool_type, array_type, SpellsConst, positive, negative, SpellsRight, a_right, SpellsMut}
use Rattle.oc_grammar.specs.Statements.{with_mut, without_mut, SpellsNote, typed, untyped, LetHead, let_head, SpellsSimple, let_right, let_fill, assigns, assigns_index}
use Rattle.oc_grammar.specs.Statements.{assigns_deref, calls, senses, emits, marks_fresh, marks_consistent, returns}
use Rattle.oc_grammar.specs.ReadingStatements.{array_at, type_from, type_at, const_at, right_at, note_at, fill_at, assign_at, element_to_at, target_at, call_at, sense_at, emit_at}
use Rattle.oc_grammar.specs.ReadingStatements.{fresh_at, consistent_at, return_at, bind_at, let_from, let_at, set_at, simple_from, Reader, kind_by}
use Rattle.oc_grammar.proofs.FrontLaws.{bind_ok, done, ok_is, with_some_ok, strip_mark_ok, strip_word_ok, expect_mark_ok, expect_word_ok, name_ok, number_ok, next_ok, sign_strip}
use Rattle.oc_grammar.proofs.FrontLaws.{sign_expect, keyword_expect, name_read, number_read, sign_shorter, keyword_shorter, name_shorter, number_shorter}
use Rattle.oc_grammar.proofs.ExpressionLaws.{args_sound, level_sound, whole_sound, shorter, shorter_args}
use Rattle.oc_grammar.proofs.ExpressionsRead.{stops_sign, begins, list_of, args_back, args_read, named_no_word, take_without, take_with, whole_read}

-- ---- fronts

-- another mark is in front
pub other_mark : {m : Mark} {from rest : Lexemes} → Sign m from rest → (k : Mark) → eqb (mark_number m) (mark_number k) ≡ false → strip_mark k from ≡ None
unfolding strip_mark
other_mark a_sign k h = rw h refl

-- ---- types and constants

pub array_sound : (from ts : Lexemes) (x : ℕ × Lexemes) → Sign marks.OpenSquare from ts → array_at ts ≡ Ok x → SpellsArray x.0 from x.1
unfolding array_at
array_sound from ts x o e =
    let a = bind_ok (expect_word words.Int ts) _ x e in
    let b = bind_ok (expect_mark marks.Semicolon a.0) _ x a.2 in
    let c = bind_ok (number_at b.0) _ x b.2 in
    let d = bind_ok (expect_mark marks.CloseSquare c.0.1) _ x c.2 in
    subst (λ (q : ℕ × Lexemes). SpellsArray q.0 from q.1) (ok_is _ x d.2)
    (an_array o (expect_word_ok words.Int ts a.0 a.1) (expect_mark_ok marks.Semicolon a.0 b.0 b.1) (number_ok b.0 c.0.0 c.0.1 c.1) (expect_mark_ok marks.CloseSquare c.0.1 d.0 d.1))

type_from_sound : (t : Lexeme) (ts : Lexemes) (x : ValueKind × Lexemes) → type_from t ts ≡ Ok x → SpellsType x.0 (t ∷ ts) x.1
type_from_sound (keyword line words.Int) ts x e = subst (λ (q : ValueKind × Lexemes). SpellsType q.0 (keyword line words.Int ∷ ts) q.1) (ok_is _ x e) (int_type a_keyword)
type_from_sound (keyword line words.Bool) ts x e = subst (λ (q : ValueKind × Lexemes). SpellsType q.0 (keyword line words.Bool ∷ ts) q.1) (ok_is _ x e) (bool_type a_keyword)
type_from_sound (sign line marks.OpenSquare) ts x e =
    let a = bind_ok (array_at ts) _ x e in
    subst (λ (q : ValueKind × Lexemes). SpellsType q.0 (sign line marks.OpenSquare ∷ ts) q.1) (ok_is _ x a.2) (array_type (array_sound (sign line marks.OpenSquare ∷ ts) ts a.0 a_sign a.1))
type_from_sound _ ts x e = absurd cc

pub type_sound : (ts : Lexemes) (x : ValueKind × Lexemes) → type_at ts ≡ Ok x → SpellsType x.0 ts x.1
unfolding type_at
type_sound ts x e =
    let a = bind_ok (next_at ts) _ x e in
    rw (next_ok ts a.0 a.1) (type_from_sound a.0.0 a.0.1 x a.2)

array_read : {n : ℕ} {from rest : Lexemes} → SpellsArray n from rest → type_at from ≡ Ok (types.Array n, rest)
unfolding type_at next_at array_at
array_read (an_array a_sign k s i c) = rw (keyword_expect k, sign_expect s, number_read i, sign_expect c) refl

pub type_read : {t : ValueKind} {from rest : Lexemes} → SpellsType t from rest → type_at from ≡ Ok (t, rest)
unfolding type_at next_at
type_read (int_type a_keyword) = refl
type_read (bool_type a_keyword) = refl
type_read (array_type d) = array_read d

pub type_shorter : {t : ValueKind} {from rest : Lexemes} → SpellsType t from rest → length rest < length from
type_shorter (int_type k) = let a = keyword_shorter k in omega arith
type_shorter (bool_type k) = let a = keyword_shorter k in omega arith
type_shorter (array_type (an_array o k s i c)) = let a = sign_shorter o in let b = keyword_shorter k in let d = sign_shorter s in let e = number_shorter i in let f = sign_shorter c in omega arith

pub const_sound : (ts : Lexemes) (x : ℤ × Lexemes) → const_at ts ≡ Ok x → SpellsConst x.0 ts x.1
unfolding const_at
const_sound ts x e =
    elim (with_some_ok (strip_mark marks.Minus ts) _ _ (Ok x) e) [
      | inl w ↦ positive (number_ok ts x.0 x.1 w.1)
      | inr w ↦
          let a = bind_ok (number_at w.0) _ x w.2 in
          subst (λ (q : ℤ × Lexemes). SpellsConst q.0 ts q.1) (ok_is _ x a.2) (negative (strip_mark_ok marks.Minus ts w.0 w.1) (number_ok w.0 a.0.0 a.0.1 a.1))
    ]

pub const_read : {z : ℤ} {from rest : Lexemes} → SpellsConst z from rest → const_at from ≡ Ok (z, rest)
unfolding const_at strip_mark number_at
const_read (positive a_numeral) = refl
const_read (negative a_sign a_numeral) = refl

pub const_shorter : {z : ℤ} {from rest : Lexemes} → SpellsConst z from rest → length rest < length from
const_shorter (positive i) = let a = number_shorter i in omega arith
const_shorter (negative s i) = let a = sign_shorter s in let b = number_shorter i in omega arith

abbrev IsMut : Lexemes → Bool × Lexemes → Type 0
IsMut ts m = SpellsMut m.0 ts m.1

mut_sound : (ts : Lexemes) → IsMut ts (take_word words.Mutable ts)
unfolding take_word
mut_sound ts = by_word (strip_word words.Mutable ts) refl
  where
    by_word : (o : Option Lexemes) → strip_word words.Mutable ts ≡ o → IsMut ts (with_some o (false, ts) (λ us. (true, us)))
    by_word None k = without_mut
    by_word (Some us) k = with_mut (strip_word_ok words.Mutable ts us k)

mut_read : {m : Bool} {x : Text} {from a rest : Lexemes} → SpellsMut m from a → Named x a rest → take_word words.Mutable from ≡ (m, a)
mut_read (with_mut k) i = take_with k
mut_read (without_mut {rest = rest}) i = take_without words.Mutable rest (named_no_word i words.Mutable)

mut_shorter : {m : Bool} {from rest : Lexemes} → SpellsMut m from rest → length rest ≤ length from
mut_shorter (with_mut k) = let a = keyword_shorter k in omega arith
mut_shorter without_mut = omega arith

note_sound : (ts : Lexemes) (x : Option ValueKind × Lexemes) → note_at ts ≡ Ok x → SpellsNote x.0 ts x.1
unfolding note_at
note_sound ts x e =
    elim (with_some_ok (strip_mark marks.Colon ts) _ _ (Ok x) e) [
      | inl w ↦ subst (λ (q : Option ValueKind × Lexemes). SpellsNote q.0 ts q.1) (ok_is _ x w.1) untyped
      | inr w ↦
          let a = bind_ok (type_at w.0) _ x w.2 in
          subst (λ (q : Option ValueKind × Lexemes). SpellsNote q.0 ts q.1) (ok_is _ x a.2) (typed (strip_mark_ok marks.Colon ts w.0 w.1) (type_sound w.0 a.0 a.1))
    ]

note_read : {k : Option ValueKind} {from a rest : Lexemes} → SpellsNote k from a → Sign marks.Assign a rest → note_at from ≡ Ok (k, a)
unfolding note_at
note_read (typed s t) o = rw (sign_strip s, type_read t) refl
note_read untyped o = rw (other_mark o marks.Colon refl) refl

note_shorter : {k : Option ValueKind} {from rest : Lexemes} → SpellsNote k from rest → length rest ≤ length from
note_shorter (typed s t) = let a = sign_shorter s in let b = type_shorter t in omega arith
note_shorter untyped = omega arith

pub head_shorter : {m : Bool} {x : Text} {k : Option ValueKind} {from rest : Lexemes} → LetHead m x k from rest → length rest < length from
head_shorter (let_head w m i t s) = let a = keyword_shorter w in let b = mut_shorter m in let c = name_shorter i in let d = note_shorter t in let e = sign_shorter s in omega arith

module _ (limits : Limits) where
  pub whole_shorter : {e : TExpr} {from rest : Lexemes} → SpellsWhole limits e from rest → length rest < length from
  whole_shorter d = shorter limits d.spelled

  pub args_at_sound : (room : ℕ) (ts : Lexemes) (x : List TArg × Lexemes) → args_at limits room ts ≡ Ok x → SpellsArgs limits room (args_of x.0) ts x.1
  unfolding args_at
  args_at_sound room ts x e = args_sound limits room (level_at limits 5 room) (level_sound limits room 5) ts x e

  pub args_at_read : {room : ℕ} {args : TArgs} {from rest : Lexemes} → SpellsArgs limits room args from rest → args_at limits room from ≡ Ok (list_of args, rest)
  unfolding args_at
  args_at_read {from = from} d = args_read limits d (suc (length from)) (omega arith)

  -- ---- right sides, `mut` and types that may stand there

  pub right_sound : (ts : Lexemes) (x : TRight × Lexemes) → right_at limits ts ≡ Ok x → SpellsRight limits x.0 ts x.1
  unfolding right_at
  right_sound ts x e =
      let a = bind_ok (whole_at limits ts) _ x e in
      let b = bind_ok (expect_mark marks.Semicolon a.0.1) _ x a.2 in
      subst (λ (q : TRight × Lexemes). SpellsRight limits q.0 ts q.1) (ok_is _ x b.2) (a_right (whole_sound limits ts a.0 a.1) (expect_mark_ok marks.Semicolon a.0.1 b.0 b.1))

  pub right_read : {r : TRight} {from rest : Lexemes} → SpellsRight limits r from rest → right_at limits from ≡ Ok (r, rest)
  unfolding right_at
  right_read (a_right d s) = rw (whole_read limits d (stops_sign 6 marks.Semicolon _ _ refl refl refl s), sign_expect s) refl

  pub right_shorter : {r : TRight} {from rest : Lexemes} → SpellsRight limits r from rest → length rest < length from
  right_shorter (a_right d s) = let a = whole_shorter d in let b = sign_shorter s in omega arith

  right_begins : {r : TRight} {from rest : Lexemes} → SpellsRight limits r from rest → strip_mark marks.OpenSquare from ≡ None
  right_begins (a_right d s) = (begins limits d.spelled).2

  -- ---- what is read is spelled so

  moved : (from : Lexemes) (a b : TKind × Lexemes) → done a ≡ done b → SpellsSimple limits a.0 from a.1 → SpellsSimple limits b.0 from b.1
  moved from a b e d = subst (λ (q : TKind × Lexemes). SpellsSimple limits q.0 from q.1) (ok_is a b e) d

  fill_sound : (m : Bool) (x : Text) (k : Option ValueKind) (from aa ts : Lexemes) (y : TKind × Lexemes) → LetHead m x k from aa → Sign marks.OpenSquare aa ts
      → fill_at m x k ts ≡ Ok y → SpellsSimple limits y.0 from y.1
  unfolding fill_at
  fill_sound m x k from aa ts y h o e =
      let s1 = bind_ok (const_at ts) _ y e in
      let s2 = bind_ok (expect_mark marks.Semicolon s1.0.1) _ y s1.2 in
      let s3 = bind_ok (number_at s2.0) _ y s2.2 in
      let s4 = bind_ok (expect_mark marks.CloseSquare s3.0.1) _ y s3.2 in
      let s5 = bind_ok (expect_mark marks.Semicolon s4.0) _ y s4.2 in
      moved from (let_array m x k s1.0.0 (unsigned_abs s3.0.0), s5.0) y s5.2
      (let_fill h o (const_sound ts s1.0 s1.1) (expect_mark_ok marks.Semicolon s1.0.1 s2.0 s2.1) (number_ok s2.0 s3.0.0 s3.0.1 s3.1)
      (expect_mark_ok marks.CloseSquare s3.0.1 s4.0 s4.1) (expect_mark_ok marks.Semicolon s4.0 s5.0 s5.1))

  assign_sound : (x : Text) (from aa ts : Lexemes) (y : TKind × Lexemes) → Named x from aa → Sign marks.Assign aa ts → assign_at limits x ts ≡ Ok y → SpellsSimple limits y.0 from y.1
  unfolding assign_at
  assign_sound x from aa ts y i o e =
      let s1 = bind_ok (right_at limits ts) _ y e in
      moved from (assign x s1.0.0, s1.0.1) y s1.2 (assigns i o (right_sound ts s1.0 s1.1))

  element_to_sound : (x : Text) (from aa ts : Lexemes) (y : TKind × Lexemes) → Named x from aa → Sign marks.OpenSquare aa ts → element_to_at limits x ts ≡ Ok y → SpellsSimple limits y.0 from y.1
  unfolding element_to_at
  element_to_sound x from aa ts y i o e =
      let s1 = bind_ok (whole_at limits ts) _ y e in
      let s2 = bind_ok (expect_mark marks.CloseSquare s1.0.1) _ y s1.2 in
      let s3 = bind_ok (expect_mark marks.Assign s2.0) _ y s2.2 in
      let s4 = bind_ok (right_at limits s3.0) _ y s3.2 in
      moved from (assign_index x s1.0.0 s4.0.0, s4.0.1) y s4.2
      (assigns_index i o (whole_sound limits ts s1.0 s1.1) (expect_mark_ok marks.CloseSquare s1.0.1 s2.0 s2.1) (expect_mark_ok marks.Assign s2.0 s3.0 s3.1) (right_sound s3.0 s4.0 s4.1))

  target_sound : (from ts : Lexemes) (y : TKind × Lexemes) → Sign marks.Star from ts → target_at limits ts ≡ Ok y → SpellsSimple limits y.0 from y.1
  unfolding target_at
  target_sound from ts y o e =
      let s1 = bind_ok (name_at ts) _ y e in
      let s2 = bind_ok (expect_mark marks.Assign s1.0.1) _ y s1.2 in
      let s3 = bind_ok (right_at limits s2.0) _ y s2.2 in
      moved from (assign_deref s1.0.0 s3.0.0, s3.0.1) y s3.2 (assigns_deref o (name_ok ts s1.0.0 s1.0.1 s1.1) (expect_mark_ok marks.Assign s1.0.1 s2.0 s2.1) (right_sound s2.0 s3.0 s3.1))

  call_sound : (f : Text) (from aa ts : Lexemes) (y : TKind × Lexemes) → Named f from aa → Sign marks.OpenRound aa ts → call_at limits f ts ≡ Ok y → SpellsSimple limits y.0 from y.1
  unfolding call_at
  call_sound f from aa ts y i o e =
      let s1 = bind_ok (args_at limits limits.brackets ts) _ y e in
      let s2 = bind_ok (expect_mark marks.Semicolon s1.0.1) _ y s1.2 in
      moved from (call_only (call f (args_of s1.0.0)), s2.0) y s2.2 (calls i o (args_at_sound limits.brackets ts s1.0 s1.1) (expect_mark_ok marks.Semicolon s1.0.1 s2.0 s2.1))

  sense_sound : (from ts : Lexemes) (y : TKind × Lexemes) → Keyword words.Sense from ts → sense_at ts ≡ Ok y → SpellsSimple limits y.0 from y.1
  unfolding sense_at
  sense_sound from ts y k e =
      let s1 = bind_ok (expect_mark marks.OpenRound ts) _ y e in
      let s2 = bind_ok (name_at s1.0) _ y s1.2 in
      let s3 = bind_ok (expect_mark marks.CloseRound s2.0.1) _ y s2.2 in
      let s4 = bind_ok (expect_mark marks.Semicolon s3.0) _ y s3.2 in
      moved from (sense_only s2.0.0, s4.0) y s4.2
      (senses k (expect_mark_ok marks.OpenRound ts s1.0 s1.1) (name_ok s1.0 s2.0.0 s2.0.1 s2.1) (expect_mark_ok marks.CloseRound s2.0.1 s3.0 s3.1) (expect_mark_ok marks.Semicolon s3.0 s4.0 s4.1))

  emit_sound : (from ts : Lexemes) (y : TKind × Lexemes) → Keyword words.Emit from ts → emit_at limits ts ≡ Ok y → SpellsSimple limits y.0 from y.1
  unfolding emit_at
  emit_sound from ts y k e =
      let s1 = bind_ok (expect_mark marks.OpenRound ts) _ y e in
      let s2 = bind_ok (name_at s1.0) _ y s1.2 in
      let s3 = bind_ok (expect_mark marks.Comma s2.0.1) _ y s2.2 in
      let s4 = bind_ok (whole_at limits s3.0) _ y s3.2 in
      let s5 = bind_ok (expect_mark marks.CloseRound s4.0.1) _ y s4.2 in
      let s6 = bind_ok (expect_mark marks.Semicolon s5.0) _ y s5.2 in
      moved from (emit s2.0.0 s4.0.0, s6.0) y s6.2
      (emits k (expect_mark_ok marks.OpenRound ts s1.0 s1.1) (name_ok s1.0 s2.0.0 s2.0.1 s2.1) (expect_mark_ok marks.Comma s2.0.1 s3.0 s3.1) (whole_sound limits s3.0 s4.0 s4.1)
      (expect_mark_ok marks.CloseRound s4.0.1 s5.0 s5.1) (expect_mark_ok marks.Semicolon s5.0 s6.0 s6.1))

  fresh_sound : (from ts : Lexemes) (y : TKind × Lexemes) → Keyword words.Fresh from ts → fresh_at ts ≡ Ok y → SpellsSimple limits y.0 from y.1
  unfolding fresh_at
  fresh_sound from ts y k e =
      let s1 = bind_ok (expect_mark marks.OpenRound ts) _ y e in
      let s2 = bind_ok (name_at s1.0) _ y s1.2 in
      let s3 = bind_ok (expect_mark marks.CloseRound s2.0.1) _ y s2.2 in
      let s4 = bind_ok (expect_mark marks.Semicolon s3.0) _ y s3.2 in
      moved from (fresh s2.0.0, s4.0) y s4.2 (marks_fresh k (expect_mark_ok marks.OpenRound ts s1.0 s1.1) (name_ok s1.0 s2.0.0 s2.0.1 s2.1)
      (expect_mark_ok marks.CloseRound s2.0.1 s3.0 s3.1) (expect_mark_ok marks.Semicolon s3.0 s4.0 s4.1))

  consistent_sound : (from ts : Lexemes) (y : TKind × Lexemes) → Keyword words.Consistent from ts → consistent_at ts ≡ Ok y → SpellsSimple limits y.0 from y.1
  unfolding consistent_at
  consistent_sound from ts y k e =
      let s1 = bind_ok (expect_mark marks.OpenRound ts) _ y e in
      let s2 = bind_ok (name_at s1.0) _ y s1.2 in
      let s3 = bind_ok (expect_mark marks.Comma s2.0.1) _ y s2.2 in
      let s4 = bind_ok (number_at s3.0) _ y s3.2 in
      let s5 = bind_ok (expect_mark marks.CloseRound s4.0.1) _ y s4.2 in
      let s6 = bind_ok (expect_mark marks.Semicolon s5.0) _ y s5.2 in
      moved from (consistent s2.0.0 s4.0.0, s6.0) y s6.2
      (marks_consistent k (expect_mark_ok marks.OpenRound ts s1.0 s1.1) (name_ok s1.0 s2.0.0 s2.0.1 s2.1) (expect_mark_ok marks.Comma s2.0.1 s3.0 s3.1)
      (number_ok s3.0 s4.0.0 s4.0.1 s4.1) (expect_mark_ok marks.CloseRound s4.0.1 s5.0 s5.1) (expect_mark_ok marks.Semicolon s5.0 s6.0 s6.1))

  return_sound : (from ts : Lexemes) (y : TKind × Lexemes) → Keyword words.Return from ts → return_at limits ts ≡ Ok y → SpellsSimple limits y.0 from y.1
  unfolding return_at
  return_sound from ts y k e =
      let s1 = bind_ok (whole_at limits ts) _ y e in
      let s2 = bind_ok (expect_mark marks.Semicolon s1.0.1) _ y s1.2 in
      moved from (return s1.0.0, s2.0) y s2.2 (returns k (whole_sound limits ts s1.0 s1.1) (expect_mark_ok marks.Semicolon s1.0.1 s2.0 s2.1))

  bind_sound : (m : Bool) (x : Text) (k : Option ValueKind) (from ts : Lexemes) (y : TKind × Lexemes) → LetHead m x k from ts → bind_at limits m x k ts ≡ Ok y → SpellsSimple limits y.0 from y.1
  unfolding bind_at
  bind_sound m x k from ts y h e =
      elim (with_some_ok (strip_mark marks.OpenSquare ts) _ _ (Ok y) e) [
        | inl w ↦
            let a = bind_ok (right_at limits ts) _ y w.1 in
            moved from (let_to m x k a.0.0, a.0.1) y a.2 (let_right h (right_sound ts a.0 a.1))
        | inr w ↦ fill_sound m x k from ts w.0 y h (strip_mark_ok marks.OpenSquare ts w.0 w.1) w.2
      ]

  let_sound : (from ts : Lexemes) (y : TKind × Lexemes) → Keyword words.Let from ts → let_at limits ts ≡ Ok y → SpellsSimple limits y.0 from y.1
  unfolding let_at let_from
  let_sound from ts y w e =
      let a = bind_ok (name_at (take_word words.Mutable ts).1) _ y e in
      let b = bind_ok (note_at a.0.1) _ y a.2 in
      let c = bind_ok (expect_mark marks.Assign b.0.1) _ y b.2 in
      bind_sound (take_word words.Mutable ts).0 a.0.0 b.0.0 from c.0 y
      (let_head w (mut_sound ts) (name_ok _ a.0.0 a.0.1 a.1) (note_sound a.0.1 b.0 b.1) (expect_mark_ok marks.Assign b.0.1 c.0 c.1)) c.2

  set_sound : (x : Text) (from ts : Lexemes) (y : TKind × Lexemes) → Named x from ts → set_at limits x ts ≡ Ok y → SpellsSimple limits y.0 from y.1
  unfolding set_at
  set_sound x from ts y i e =
      elim (with_some_ok (strip_mark marks.OpenRound ts) _ _ (Ok y) e) [
        | inl w ↦
            elim (with_some_ok (strip_mark marks.OpenSquare ts) _ _ (Ok y) w.1) [
              | inl v ↦
                  let a = bind_ok (expect_mark marks.Assign ts) _ y v.1 in
                  assign_sound x from ts a.0 y i (expect_mark_ok marks.Assign ts a.0 a.1) a.2
              | inr v ↦ element_to_sound x from ts v.0 y i (strip_mark_ok marks.OpenSquare ts v.0 v.1) v.2
            ]
        | inr w ↦ call_sound x from ts w.0 y i (strip_mark_ok marks.OpenRound ts w.0 w.1) w.2
      ]

  pub simple_sound : (t : Lexeme) (ts : Lexemes) (y : TKind × Lexemes) → simple_from limits t ts ≡ Ok y → SpellsSimple limits y.0 (t ∷ ts) y.1
  simple_sound (keyword line words.Let) ts y e = let_sound _ ts y a_keyword e
  simple_sound (named line x) ts y e = set_sound x _ ts y a_name e
  simple_sound (sign line marks.Star) ts y e = target_sound _ ts y a_sign e
  simple_sound (keyword line words.Sense) ts y e = sense_sound _ ts y a_keyword e
  simple_sound (keyword line words.Emit) ts y e = emit_sound _ ts y a_keyword e
  simple_sound (keyword line words.Fresh) ts y e = fresh_sound _ ts y a_keyword e
  simple_sound (keyword line words.Consistent) ts y e = consistent_sound _ ts y a_keyword e
  simple_sound (keyword line words.Return) ts y e = return_sound _ ts y a_keyword e
  simple_sound _ ts y e = absurd cc

  -- ---- what is left is shorter

  pub simple_shorter : {k : TKind} {from rest : Lexemes} → SpellsSimple limits k from rest → length rest < length from
  simple_shorter (let_right h r) = let a = head_shorter h in let b = right_shorter r in omega arith
  simple_shorter (let_fill h o i s n c t) = let a = head_shorter h in let b = sign_shorter o in let d = const_shorter i in let e = sign_shorter s in let f = number_shorter n in
      let g = sign_shorter c in let l = sign_shorter t in omega arith
  simple_shorter (assigns i s r) = let a = name_shorter i in let b = sign_shorter s in let c = right_shorter r in omega arith
  simple_shorter (assigns_index i o w c s r) = let a = name_shorter i in let b = sign_shorter o in let d = whole_shorter w in let e = sign_shorter c in let f = sign_shorter s in
      let g = right_shorter r in omega arith
  simple_shorter (assigns_deref o i s r) = let a = sign_shorter o in let b = name_shorter i in let c = sign_shorter s in let d = right_shorter r in omega arith
  simple_shorter (calls i o d s) = let a = name_shorter i in let b = sign_shorter o in let c = shorter_args limits d in let e = sign_shorter s in omega arith
  simple_shorter (senses k o i c s) = let a = keyword_shorter k in let b = sign_shorter o in let d = name_shorter i in let e = sign_shorter c in let f = sign_shorter s in omega arith
  simple_shorter (emits k o i m w c s) = let a = keyword_shorter k in let b = sign_shorter o in let d = name_shorter i in let e = sign_shorter m in let f = whole_shorter w in
      let g = sign_shorter c in let h = sign_shorter s in omega arith
  simple_shorter (marks_fresh k o i c s) = let a = keyword_shorter k in let b = sign_shorter o in let d = name_shorter i in let e = sign_shorter c in let f = sign_shorter s in omega arith
  simple_shorter (marks_consistent k o i m n c s) = let a = keyword_shorter k in let b = sign_shorter o in let d = name_shorter i in let e = sign_shorter m in let f =
      number_shorter n in let g = sign_shorter c in let h = sign_shorter s in omega arith
  simple_shorter (returns k w s) = let a = keyword_shorter k in let b = whole_shorter w in let c = sign_shorter s in omega arith

  -- ---- what is spelled so is read

  abbrev pub KindRead : Reader TBlock → Reader TElse → TKind → ℕ → ℕ → Lexemes → ℕ × ℕ × Lexemes → Type 0
  KindRead body other k n b from p = (next_at from >>= λ x. kind_by limits body other x.0 n b x.1) ≡ Ok (k, p.0, p.1, p.2)

  pub simple_read : (body : Reader TBlock) (other : Reader TElse) (n b : ℕ) {k : TKind} {from rest : Lexemes} → SpellsSimple limits k from rest → KindRead body other k n b from (n, b, rest)
  unfolding next_at let_at let_from bind_at fill_at set_at assign_at element_to_at call_at target_at sense_at emit_at fresh_at consistent_at return_at
  simple_read body other n b (let_right (let_head a_keyword m i t s) r) = rw (mut_read m i, name_read i, note_read t s, sign_expect s, right_begins r, right_read r) refl
  simple_read body other n b (let_fill (let_head a_keyword m i t s) o z u v c w) =
      rw (mut_read m i, name_read i, note_read t s, sign_expect s, sign_strip o, const_read z, sign_expect u, number_read v, sign_expect c, sign_expect w) refl
  simple_read body other n b (assigns a_name s r) = rw (other_mark s marks.OpenRound refl, other_mark s marks.OpenSquare refl, sign_expect s, right_read r) refl
  simple_read body other n b (assigns_index a_name o w c s r) =
      rw (other_mark o marks.OpenRound refl, sign_strip o, whole_read limits w (stops_sign 6 marks.CloseSquare _ _ refl refl refl c), sign_expect c, sign_expect s, right_read r) refl
  simple_read body other n b (assigns_deref a_sign i s r) = rw (name_read i, sign_expect s, right_read r) refl
  simple_read body other n b (calls {args = args} a_name o d s) = rw (sign_strip o, args_at_read d, sign_expect s, args_back args) refl
  simple_read body other n b (senses a_keyword o i c s) = rw (sign_expect o, name_read i, sign_expect c, sign_expect s) refl
  simple_read body other n b (emits a_keyword o i m w c s) =
      rw (sign_expect o, name_read i, sign_expect m, whole_read limits w (stops_sign 6 marks.CloseRound _ _ refl refl refl c), sign_expect c, sign_expect s) refl
  simple_read body other n b (marks_fresh a_keyword o i c s) = rw (sign_expect o, name_read i, sign_expect c, sign_expect s) refl
  simple_read body other n b (marks_consistent a_keyword o i m v c s) = rw (sign_expect o, name_read i, sign_expect m, number_read v, sign_expect c, sign_expect s) refl
  simple_read body other n b (returns a_keyword w s) = rw (whole_read limits w (stops_sign 6 marks.Semicolon _ _ refl refl refl s), sign_expect s) refl
