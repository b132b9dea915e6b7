-- Programs: what is read is spelled so, and what is spelled so is read.
use Rattle.std.proofs.Common.{◌≡◌, ℕ, zero, suc, ◌<◌, ◌≤◌, Bool, true, false, List, [], ◌∷◌, length, Option, Some, None, Ok, refl, sym, subst, ◌∙◌, arith, inl, inr}
use Rattle.oc_tree.specs.Names.{Text}
use Rattle.oc_tree.specs.Tree.{TBlock, TFunction, TProgram}
use Rattle.oc_tree.specs.declared.tree.Scalar.{Scalar}
use Rattle.oc_tree.specs.declared.tree.Passing.{Passing}
use Rattle.oc_tree.specs.declared.tree.Passing.TheVariants as passings
use Rattle.oc_tree.specs.declared.tree.Param.{Param}
use Rattle.oc_tree.specs.declared.tree.NvDecl.{NvDecl}
use Rattle.oc_lex.specs.declared.token.Word.TheVariants as words
use Rattle.oc_lex.specs.declared.token.Mark.TheVariants as marks
use Rattle.oc_grammar.specs.Limits.{Limits}
use Rattle.oc_grammar.specs.Lexemes.{Lexeme, Lexemes, keyword, sign, front_line, last_line}
use Rattle.oc_grammar.specs.Fronts.{Named, a_name, Keyword, a_keyword, Sign, a_sign}
use Rattle.oc_grammar.specs.Reading.{with_some, next_at, strip_mark, strip_word, expect_mark, name_at, take_word, listed_by}
use Rattle.oc_grammar.specs.Statements.{SpellsScalar, int_scalar, bool_scalar, an_array, SpellsType, int_type, bool_type, array_type, Position, SpellsBlock, braces}
use Rattle.oc_grammar.specs.ReadingStatements.{array_at, type_at, const_at, block_at}
use Rattle.oc_grammar.specs.Programs.{SpellsPassing, itself, shared_ref, mutable_ref, SpellsParam, a_param, SpellsParams, no_param, last_param, further_params, SpellsResult}
use Rattle.oc_grammar.specs.Programs.{no_result, a_result, SpellsFunction, a_function, SpellsCells, one_cell, array_cells, SpellsNv, an_nv, SpellsItem, sensor_item, port_item}
use Rattle.oc_grammar.specs.Programs.{nv_item, function_item, SpellsItems, no_item, an_item, empty_program, SpellsProgram}
use Rattle.oc_grammar.specs.ReadingPrograms.{reference_to, passing_at, param_at, params_at, scalar_from, scalar_at, result_at, function_at, cells_from, cells_at, nv_at}
use Rattle.oc_grammar.specs.ReadingPrograms.{declared_at, item_by, item_at, items_by, items_at, program_at}
use Rattle.oc_grammar.proofs.FrontLaws.{bind_ok, ok_is, with_some_ok, strip_mark_ok, strip_word_ok, expect_mark_ok, name_ok, next_ok, sign_strip, sign_expect, name_read}
use Rattle.oc_grammar.proofs.FrontLaws.{number_read, keyword_expect, sign_shorter, keyword_shorter, name_shorter}
use Rattle.oc_grammar.proofs.ListLaws.{PartSound, Shortens, listed_sound}
use Rattle.oc_grammar.proofs.ExpressionsRead.{take_without, take_with}
use Rattle.oc_grammar.proofs.SimpleLaws.{other_mark, array_sound, type_sound, type_read, type_shorter, const_sound, const_read, const_shorter}
use Rattle.oc_grammar.proofs.StatementLaws.{block_sound, block_shorter}
use Rattle.oc_grammar.proofs.StatementsRead.{block_read}

-- ---- what is read is spelled so: functions

abbrev IsPassing : Lexemes → Passing × Lexemes → Type 0
IsPassing ts p = SpellsPassing p.0 ts p.1

passing_sound : (ts : Lexemes) → IsPassing ts (passing_at ts)
unfolding passing_at take_word
passing_sound ts = by_mark (strip_mark marks.Ampersand ts) refl
  where
    by_word : (us : Lexemes) (o : Option Lexemes) → strip_mark marks.Ampersand ts ≡ Some us → strip_word words.Mutable us ≡ o → IsPassing ts (reference_to (with_some o (false, us) (λ vs. (true, vs))))
    by_word us None a k = shared_ref (strip_mark_ok marks.Ampersand ts us a)
    by_word us (Some vs) a k = mutable_ref (strip_mark_ok marks.Ampersand ts us a) (strip_word_ok words.Mutable us vs k)

    by_mark : (o : Option Lexemes) → strip_mark marks.Ampersand ts ≡ o
        → IsPassing ts (with_some o (passings.Value, ts) (λ us. reference_to (with_some (strip_word words.Mutable us) (false, us) (λ vs. (true, vs)))))
    by_mark None a = itself
    by_mark (Some us) a = by_word us (strip_word words.Mutable us) a refl

param_sound : PartSound SpellsParam param_at
unfolding param_at
param_sound ts y e =
    let x = bind_ok (name_at ts) _ y e in
    let c = bind_ok (expect_mark marks.Colon x.0.1) _ y x.2 in
    let k = bind_ok (type_at (passing_at c.0).1) _ y c.2 in
    subst (λ (q : Param × Lexemes). SpellsParam q.0 ts q.1) (ok_is _ y k.2)
    (a_param (name_ok ts x.0.0 x.0.1 x.1) (expect_mark_ok marks.Colon x.0.1 c.0 c.1) (passing_sound c.0) (type_sound (passing_at c.0).1 k.0 k.1))

params_sound : (ts : Lexemes) (y : List Param × Lexemes) → params_at ts ≡ Ok y → SpellsParams y.0 ts y.1
unfolding params_at
params_sound ts y e =
    listed_sound SpellsParam SpellsParams param_at param_sound
    (λ from rest s. no_param s) (λ p from b rest d s. last_param d s) (λ p ps from b c rest d s q. further_params d s q) (suc (length ts)) ts y e

scalar_from_sound : (t : Lexeme) (ts : Lexemes) (y : Scalar × Lexemes) → scalar_from t ts ≡ Ok y → SpellsScalar y.0 (t ∷ ts) y.1
scalar_from_sound (keyword line words.Int) ts y e = subst (λ (q : Scalar × Lexemes). SpellsScalar q.0 (keyword line words.Int ∷ ts) q.1) (ok_is _ y e) (int_scalar a_keyword)
scalar_from_sound (keyword line words.Bool) ts y e = subst (λ (q : Scalar × Lexemes). SpellsScalar q.0 (keyword line words.Bool ∷ ts) q.1) (ok_is _ y e) (bool_scalar a_keyword)
scalar_from_sound _ ts y e = absurd cc

scalar_sound : (ts : Lexemes) (y : Scalar × Lexemes) → scalar_at ts ≡ Ok y → SpellsScalar y.0 ts y.1
unfolding scalar_at
scalar_sound ts y e =
    let a = bind_ok (next_at ts) _ y e in
    rw (next_ok ts a.0 a.1) (scalar_from_sound a.0.0 a.0.1 y a.2)

result_sound : (ts : Lexemes) (y : Option Scalar × Lexemes) → result_at ts ≡ Ok y → SpellsResult y.0 ts y.1
unfolding result_at
result_sound ts y e =
    elim (with_some_ok (strip_mark marks.Arrow ts) _ _ (Ok y) e) [
      | inl w ↦ subst (λ (q : Option Scalar × Lexemes). SpellsResult q.0 ts q.1) (ok_is _ y w.1) no_result
      | inr w ↦
          let a = bind_ok (scalar_at w.0) _ y w.2 in
          subst (λ (q : Option Scalar × Lexemes). SpellsResult q.0 ts q.1) (ok_is _ y a.2) (a_result (strip_mark_ok marks.Arrow ts w.0 w.1) (scalar_sound w.0 a.0 a.1))
    ]

-- ---- declarations

cells_from_sound : (t : Lexeme) (ts : Lexemes) (y : (ℕ × Bool) × Lexemes) → cells_from t ts ≡ Ok y → SpellsCells y.0.0 y.0.1 (t ∷ ts) y.1
cells_from_sound (keyword line words.Int) ts y e = subst (λ (q : (ℕ × Bool) × Lexemes). SpellsCells q.0.0 q.0.1 (keyword line words.Int ∷ ts) q.1) (ok_is _ y e) (one_cell a_keyword)
cells_from_sound (sign line marks.OpenSquare) ts y e =
    let a = bind_ok (array_at ts) _ y e in
    subst (λ (q : (ℕ × Bool) × Lexemes). SpellsCells q.0.0 q.0.1 (sign line marks.OpenSquare ∷ ts) q.1) (ok_is _ y a.2) (array_cells (array_sound (sign line marks.OpenSquare ∷ ts) ts a.0 a_sign a.1))
cells_from_sound _ ts y e = absurd cc

cells_sound : (ts : Lexemes) (y : (ℕ × Bool) × Lexemes) → cells_at ts ≡ Ok y → SpellsCells y.0.0 y.0.1 ts y.1
unfolding cells_at
cells_sound ts y e =
    let a = bind_ok (next_at ts) _ y e in
    rw (next_ok ts a.0 a.1) (cells_from_sound a.0.0 a.0.1 y a.2)

nv_sound : (from ts : Lexemes) (y : (Text × NvDecl) × Lexemes) → Keyword words.Nonvolatile from ts → nv_at ts ≡ Ok y → SpellsNv y.0.0 y.0.1 from y.1
unfolding nv_at
nv_sound from ts y w e =
    let x = bind_ok (name_at ts) _ y e in
    let a = bind_ok (expect_mark marks.Colon x.0.1) _ y x.2 in
    let c = bind_ok (cells_at a.0) _ y a.2 in
    let d = bind_ok (expect_mark marks.Assign c.0.1) _ y c.2 in
    let i = bind_ok (const_at d.0) _ y d.2 in
    let s = bind_ok (expect_mark marks.Semicolon i.0.1) _ y i.2 in
    subst (λ (q : (Text × NvDecl) × Lexemes). SpellsNv q.0.0 q.0.1 from q.1) (ok_is _ y s.2)
    (an_nv w (name_ok ts x.0.0 x.0.1 x.1) (expect_mark_ok marks.Colon x.0.1 a.0 a.1) (cells_sound a.0 c.0 c.1) (expect_mark_ok marks.Assign c.0.1 d.0 d.1) (const_sound d.0 i.0 i.1)
    (expect_mark_ok marks.Semicolon i.0.1 s.0 s.1))

-- a name and the `;`
abbrev IsDeclared : Text → Lexemes → Lexemes → Type 0
IsDeclared x from rest = (a : Lexemes) × Named x from a × Sign marks.Semicolon a rest

declared_sound : (ts : Lexemes) (y : Text × Lexemes) → declared_at ts ≡ Ok y → IsDeclared y.0 ts y.1
unfolding declared_at
declared_sound ts y e =
    let a = bind_ok (name_at ts) _ y e in
    let b = bind_ok (expect_mark marks.Semicolon a.0.1) _ y a.2 in
    subst (λ (q : Text × Lexemes). IsDeclared q.0 ts q.1) (ok_is _ y b.2) (a.0.1, name_ok ts a.0.0 a.0.1 a.1, expect_mark_ok marks.Semicolon a.0.1 b.0 b.1)

-- ---- what is left is shorter

passing_shorter : {p : Passing} {from rest : Lexemes} → SpellsPassing p from rest → length rest ≤ length from
passing_shorter itself = omega arith
passing_shorter (shared_ref s) = let a = sign_shorter s in omega arith
passing_shorter (mutable_ref s k) = let a = sign_shorter s in let b = keyword_shorter k in omega arith

pub param_shorter : {p : Param} {from rest : Lexemes} → SpellsParam p from rest → length rest < length from
param_shorter (a_param i s p t) = let a = name_shorter i in let b = sign_shorter s in let c = passing_shorter p in let d = type_shorter t in omega arith

pub param_at_shorter : Shortens param_at
param_at_shorter ts x e = param_shorter (param_sound ts x e)

pub params_shorter : {ps : List Param} {from rest : Lexemes} → SpellsParams ps from rest → length rest < length from
params_shorter (no_param s) = let a = sign_shorter s in omega arith
params_shorter (last_param p s) = let a = param_shorter p in let b = sign_shorter s in omega arith
params_shorter (further_params p s d) = let a = param_shorter p in let b = sign_shorter s in let c = params_shorter d in omega arith

pub result_shorter : {r : Option Scalar} {from rest : Lexemes} → SpellsResult r from rest → length rest ≤ length from
result_shorter no_result = omega arith
result_shorter (a_result s (int_scalar k)) = let a = sign_shorter s in let b = keyword_shorter k in omega arith
result_shorter (a_result s (bool_scalar k)) = let a = sign_shorter s in let b = keyword_shorter k in omega arith

cells_shorter : {n : ℕ} {array : Bool} {from rest : Lexemes} → SpellsCells n array from rest → length rest < length from
cells_shorter (one_cell k) = let a = keyword_shorter k in omega arith
cells_shorter (array_cells d) = type_shorter (array_type d)

nv_shorter : {x : Text} {d : NvDecl} {from rest : Lexemes} → SpellsNv x d from rest → length rest < length from
nv_shorter (an_nv w i c d s z e) = let a = keyword_shorter w in let b = name_shorter i in let f = sign_shorter c in let g = cells_shorter d in let h = sign_shorter s in let l =
    const_shorter z in let m = sign_shorter e in omega arith

-- ---- what is spelled so is read

type_front : {t : _} {from rest : Lexemes} → SpellsType t from rest → (strip_mark marks.Ampersand from ≡ None) × (strip_word words.Mutable from ≡ None)
unfolding strip_mark strip_word
type_front (int_type a_keyword) = (refl, refl)
type_front (bool_type a_keyword) = (refl, refl)
type_front (array_type (an_array a_sign k s i c)) = (refl, refl)

passing_read : {p : Passing} {t : _} {from a rest : Lexemes} → SpellsPassing p from a → SpellsType t a rest → passing_at from ≡ (p, a)
unfolding passing_at
passing_read itself t = rw (type_front t).0 refl
passing_read (shared_ref {rest = rest} s) t = rw (sign_strip s, take_without words.Mutable rest (type_front t).1) refl
passing_read (mutable_ref s k) t = rw (sign_strip s, take_with k) refl

param_read : {p : Param} {from rest : Lexemes} → SpellsParam p from rest → param_at from ≡ Ok (p, rest)
unfolding param_at
param_read (a_param i s p t) = rw (name_read i, sign_expect s, passing_read p t, type_read t) refl

param_front : {p : Param} {from rest : Lexemes} → SpellsParam p from rest → strip_mark marks.CloseRound from ≡ None
unfolding strip_mark
param_front (a_param a_name s p t) = refl

params_read : {ps : List Param} {from rest : Lexemes} → SpellsParams ps from rest → (k : ℕ) → length from ≤ k → listed_by param_at k from ≡ Ok (ps, rest)
unfolding listed_by
params_read (no_param s) zero h = let g = sign_shorter s in absurd (omega arith)
params_read (no_param s) (suc k) h = rw (sign_strip s) refl
params_read (last_param p s) zero h = let g = param_shorter p in absurd (omega arith)
params_read (last_param p s) (suc k) h = rw (param_front p, param_read p, other_mark s marks.Comma refl, sign_expect s) refl
params_read (further_params p s d) zero h = let g = param_shorter p in absurd (omega arith)
params_read (further_params p s d) (suc k) h =
    let g = param_shorter p in
    let f = sign_shorter s in
    rw (param_front p, param_read p, sign_strip s, params_read d k (omega arith)) refl

params_at_read : {ps : List Param} {from rest : Lexemes} → SpellsParams ps from rest → params_at from ≡ Ok (ps, rest)
unfolding params_at
params_at_read {from = from} d = params_read d (suc (length from)) (omega arith)

scalar_read : {s : Scalar} {from rest : Lexemes} → SpellsScalar s from rest → scalar_at from ≡ Ok (s, rest)
unfolding scalar_at next_at
scalar_read (int_scalar a_keyword) = refl
scalar_read (bool_scalar a_keyword) = refl

cells_read : {n : ℕ} {array : Bool} {from rest : Lexemes} → SpellsCells n array from rest → cells_at from ≡ Ok ((n, array), rest)
unfolding cells_at next_at array_at
cells_read (one_cell a_keyword) = refl
cells_read (array_cells (an_array a_sign k s i c)) = rw (keyword_expect k, sign_expect s, number_read i, sign_expect c) refl

module _ (limits : Limits) where
  function_sound : (n b : ℕ) (from ts : Lexemes) (y : TFunction × ℕ × ℕ × Lexemes) → Keyword words.Function from ts → function_at limits (front_line from) n b ts ≡ Ok y
      → SpellsFunction limits y.0 (n, b, from) (y.1, y.2, y.3)
  unfolding function_at
  function_sound n b from ts y w e =
      let f = bind_ok (name_at ts) _ y e in
      let o = bind_ok (expect_mark marks.OpenRound f.0.1) _ y f.2 in
      let ps = bind_ok (params_at o.0) _ y o.2 in
      let r = bind_ok (result_at ps.0.1) _ y ps.2 in
      let t = bind_ok (block_at limits limits.blocks n b r.0.1) _ y r.2 in
      subst (λ (q : TFunction × ℕ × ℕ × Lexemes). SpellsFunction limits q.0 (n, b, from) (q.1, q.2, q.3)) (ok_is _ y t.2)
      (a_function w (name_ok ts f.0.0 f.0.1 f.1) (expect_mark_ok marks.OpenRound f.0.1 o.0 o.1) (params_sound o.0 ps.0 ps.1) (result_sound ps.0.1 r.0 r.1)
      (block_sound limits limits.blocks n b r.0.1 t.0 t.1))

  -- ---- items

  abbrev pub Grows : TProgram → Position → TProgram × ℕ × ℕ × Lexemes → Type 0
  Grows p x y = SpellsItem limits p x y.0 (y.1, y.2, y.3)

  item_by_sound : (p : TProgram) (t : Lexeme) (n b : ℕ) (ts : Lexemes) (y : TProgram × ℕ × ℕ × Lexemes) → item_by limits p t n b ts ≡ Ok y → Grows p (n, b, t ∷ ts) y
  item_by_sound p (keyword line words.Sensor) n b ts y e =
      let x = bind_ok (declared_at ts) _ y e in
      let d = declared_sound ts x.0 x.1 in
      subst (Grows p (n, b, keyword line words.Sensor ∷ ts)) (ok_is _ y x.2) (sensor_item a_keyword d.1 d.2)
  item_by_sound p (keyword line words.Port) n b ts y e =
      let x = bind_ok (declared_at ts) _ y e in
      let d = declared_sound ts x.0 x.1 in
      subst (Grows p (n, b, keyword line words.Port ∷ ts)) (ok_is _ y x.2) (port_item a_keyword d.1 d.2)
  item_by_sound p (keyword line words.Nonvolatile) n b ts y e =
      let x = bind_ok (nv_at ts) _ y e in
      subst (Grows p (n, b, keyword line words.Nonvolatile ∷ ts)) (ok_is _ y x.2) (nv_item (nv_sound _ ts x.0 a_keyword x.1))
  item_by_sound p (keyword line words.Function) n b ts y e =
      let f = bind_ok (function_at limits line n b ts) _ y e in
      subst (Grows p (n, b, keyword line words.Function ∷ ts)) (ok_is _ y f.2) (function_item (function_sound n b (keyword line words.Function ∷ ts) ts f.0 a_keyword f.1))
  item_by_sound p _ n b ts y e = absurd cc

  pub item_sound : (p : TProgram) (n b : ℕ) (ts : Lexemes) (y : TProgram × ℕ × ℕ × Lexemes) → item_at limits p n b ts ≡ Ok y → Grows p (n, b, ts) y
  unfolding item_at
  item_sound p n b ts y e =
      let x = bind_ok (next_at ts) _ y e in
      rw (next_ok ts x.0 x.1) (item_by_sound p x.0.0 n b x.0.1 y x.2)

  items_sound : (k : ℕ) (p : TProgram) (n b : ℕ) (ts : Lexemes) (r : TProgram) → items_by limits k p n b ts ≡ Ok r → SpellsItems limits p (n, b, ts) r
  unfolding items_by
  items_sound zero p n b ts r e = absurd cc
  items_sound (suc k) p n b [] r e = subst (λ (q : TProgram). SpellsItems limits p (n, b, []) q) (ok_is p r e) no_item
  items_sound (suc k) p n b (t ∷ ts) r e =
      let x = bind_ok (item_at limits p n b (t ∷ ts)) _ r e in
      an_item (item_sound p n b (t ∷ ts) x.0 x.1) (items_sound k x.0.0 x.0.1 x.0.2 x.0.3 r x.2)

  pub program_sound : (ts : Lexemes) (p : TProgram) → program_at limits ts ≡ Ok p → SpellsProgram limits p ts
  unfolding program_at items_at
  program_sound ts p e = items_sound (suc (length ts)) (empty_program (last_line ts)) 1 1 ts p e

  function_shorter : {f : TFunction} {p q : Position} → SpellsFunction limits f p q → length q.2 < length p.2
  function_shorter (a_function w i o ps r t) = let a = keyword_shorter w in let b = name_shorter i in let c = sign_shorter o in let d = params_shorter ps in let e =
      result_shorter r in let f = block_shorter limits t in omega arith

  pub item_shorter : {p q : TProgram} {x y : Position} → SpellsItem limits p x q y → length y.2 < length x.2
  item_shorter (sensor_item w i s) = let a = keyword_shorter w in let b = name_shorter i in let c = sign_shorter s in omega arith
  item_shorter (port_item w i s) = let a = keyword_shorter w in let b = name_shorter i in let c = sign_shorter s in omega arith
  item_shorter (nv_item d) = nv_shorter d
  item_shorter (function_item d) = function_shorter d

  block_no_arrow : {room : ℕ} {t : TBlock} {p q : Position} → SpellsBlock limits room t p q → strip_mark marks.Arrow p.2 ≡ None
  unfolding strip_mark
  block_no_arrow (braces a_sign d) = refl

  result_read : {r : Option Scalar} {room : ℕ} {t : TBlock} {from : Lexemes} {p q : Position} → SpellsResult r from p.2 → SpellsBlock limits room t p q → result_at from ≡ Ok (r, p.2)
  unfolding result_at
  result_read no_result t = rw (block_no_arrow t) refl
  result_read (a_result s d) t = rw (sign_strip s, scalar_read d) refl

  function_read : (line n b : ℕ) {ts c d e g : Lexemes} {f : Text} {ps : List Param} {r : Option Scalar} {t : TBlock} {q : Position} → Named f ts c → Sign marks.OpenRound c d
      → SpellsParams ps d e → SpellsResult r e g → SpellsBlock limits limits.blocks t (n, b, g) q → function_at limits line n b ts
      ≡ Ok (record { name = f; line = line; params = ps; result = r; body = t }, q.0, q.1, q.2)
  unfolding function_at
  function_read line n b i o ps r t = rw (name_read i, sign_expect o, params_at_read ps, result_read r t, block_read limits t) refl

  abbrev ItemRead : TProgram → Position → TProgram → Position → Type 0
  ItemRead p x q y = item_at limits p x.0 x.1 x.2 ≡ Ok (q, y.0, y.1, y.2)

  item_read : {p q : TProgram} {x y : Position} → SpellsItem limits p x q y → ItemRead p x q y
  unfolding item_at next_at declared_at nv_at
  item_read (sensor_item a_keyword i s) = rw (name_read i, sign_expect s) refl
  item_read (port_item a_keyword i s) = rw (name_read i, sign_expect s) refl
  item_read (nv_item (an_nv a_keyword i c d s z e)) = rw (name_read i, sign_expect c, cells_read d, sign_expect s, const_read z, sign_expect e) refl
  item_read (function_item (a_function {n = n} {b = b} (a_keyword {line = line}) i o ps r t)) = rw (function_read line n b i o ps r t) refl

  items_more : (k : ℕ) (p q : TProgram) (x y : Position) → SpellsItem limits p x q y → items_by limits (suc k) p x.0 x.1 x.2 ≡ items_by limits k q y.0 y.1 y.2
  unfolding items_by
  items_more k p q x y d = by_front x.2 (item_shorter d) (item_read d)
    where
      by_front : (ts : Lexemes) → length y.2 < length ts → item_at limits p x.0 x.1 ts ≡ Ok (q, y.0, y.1, y.2) → items_by limits (suc k) p x.0 x.1 ts ≡ items_by limits k q y.0 y.1 y.2
      by_front [] h e = absurd (omega arith)
      by_front (t ∷ ts) h e = rw e refl

  items_read : {p r : TProgram} {x : Position} → SpellsItems limits p x r → (k : ℕ) → length x.2 < k → items_by limits k p x.0 x.1 x.2 ≡ Ok r
  unfolding items_by
  items_read no_item zero h = absurd (omega arith)
  items_read no_item (suc k) h = refl
  items_read (an_item d e) zero h = absurd (omega arith)
  items_read (an_item {p = p} {q = q} {x = x} {y = y} d e) (suc k) h =
      let g = item_shorter d in
      items_more k p q x y d ∙ items_read e k (omega arith)

  pub program_read : (ts : Lexemes) (p : TProgram) → SpellsProgram limits p ts → program_at limits ts ≡ Ok p
  unfolding program_at items_at
  program_read ts p d = items_read d (suc (length ts)) (omega arith)

  -- no two programs
  pub one_program : (ts : Lexemes) (p q : TProgram) → SpellsProgram limits p ts → SpellsProgram limits q ts → p ≡ q
  one_program ts p q d e = ok_is p q (sym (program_read ts p d) ∙ program_read ts q e)
