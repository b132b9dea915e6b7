-- What is read is spelled so, and what is spelled so is read: expressions.
use Rattle.std.proofs.Common.{◌≡◌, ◌≢◌, ℕ, zero, suc, ◌+◌, ◌<◌, ◌≤◌, Bool, true, false, eqb, List, ◌∷◌, length, Option, Some, None, Ok, refl, sym, ap, subst, ◌∙◌, arith, inl, inr, ◌⊎◌}
use Rattle.std.proofs.lemmas.Bool.{eqb-true, ne_eqb, eq-eqb}
use Rattle.oc_tree.specs.Names.{Text}
use Rattle.oc_tree.specs.Tree.{TExpr, number, truth, variable, index, deref, unary, binary, sensed, called, TArg, call, TArgs}
use Rattle.oc_tree.specs.View.{args_of}
use Rattle.oc_tree.specs.declared.tree.UnaryOp.TheVariants as prefixes
use Rattle.oc_lex.specs.declared.token.Word.TheVariants as words
use Rattle.oc_lex.specs.declared.token.Mark.TheVariants as marks
use Rattle.oc_grammar.specs.Limits.{Limits, brackets_depth}
use Rattle.oc_grammar.specs.Lexemes.{Lexeme, Lexemes, named, numeral, keyword, sign}
use Rattle.oc_grammar.specs.Fronts.{Named, a_name, a_numeral, Keyword, a_keyword, Sign, a_sign}
use Rattle.oc_grammar.specs.Expressions.{operators, Spells, literal, yes, no, name, element, target, parens, minus, negation, input, result, one, more, compare, SpellsArg}
use Rattle.oc_grammar.specs.Expressions.{by_value, by_shared, by_mutable, SpellsArgs, closed, last, further, SpellsWhole}
use Rattle.oc_grammar.specs.Reading.{Read, with_some, too_deep, next_at, strip_mark, strip_word, expect_mark, name_at, take_word, operator_front}
use Rattle.oc_grammar.specs.ReadingExpressions.{ReadExpr, spend_at, chain, most, levels, named_by, unary_by, whole_by, reference_by, arg_by, args_by, sensor_at, unary_at, level_at, part_at, whole_at}
use Rattle.oc_grammar.proofs.FrontLaws.{bind_ok, done, ok_is, with_some_ok, strip_mark_ok, strip_word_ok, expect_mark_ok, name_ok, next_ok, sign_shorter, keyword_shorter}
use Rattle.oc_grammar.proofs.FrontLaws.{name_shorter, number_shorter, infix_shorter, front_ok}
use Rattle.oc_grammar.proofs.ListLaws.{PartSound, listed_sound}

pub spent : (n : ℕ) (ts : Lexemes) (m : ℕ) → spend_at n ts ≡ Ok m → n ≡ suc m
unfolding spend_at
spent zero ts m e = absurd cc
spent (suc n) ts m e = ap (λ (k : ℕ). suc k) (ok_is n m e)

-- whether a level is that of comparisons
pub is_three : (level : ℕ) → (level ≡ 3) ⊎ (level ≢ 3)
is_three level = by_flag (eqb level 3) refl
  where
    by_flag : (b : Bool) → eqb level 3 ≡ b → (level ≡ 3) ⊎ (level ≢ 3)
    by_flag true e = inl (eqb-true _ _ e)
    by_flag false e = inr (λ k. let t : true ≡ false = sym (eq-eqb level 3 k) ∙ e in cc)

pub most_other : (level : ℕ) (ts : Lexemes) → level ≢ 3 → most level ts ≡ length ts
most_other level ts ne = rw (ne_eqb level 3 ne) refl

-- inside one more bracket or prefix operator
abbrev pub Inside : ℕ → (ℕ → Type 0) → Type 0
Inside zero P = ⊥
Inside (suc room) P = P room

-- a sensor's name and the `)`
abbrev pub IsSensor : Text → Lexemes → Lexemes → Type 0
IsSensor s from rest = (a : Lexemes) × Named s from a × Sign marks.CloseRound a rest

sensor_sound : (ts : Lexemes) (x : Text × Lexemes) → sensor_at ts ≡ Ok x → IsSensor x.0 ts x.1
unfolding sensor_at
sensor_sound ts x e =
    let a = bind_ok (name_at ts) _ x e in
    let b = bind_ok (expect_mark marks.CloseRound a.0.1) _ x a.2 in
    subst (λ (q : Text × Lexemes). IsSensor q.0 ts q.1) (ok_is _ x b.2) (a.0.1, name_ok ts a.0.0 a.0.1 a.1, expect_mark_ok marks.CloseRound a.0.1 b.0 b.1)

module _ (limits : Limits) where
  -- ---- what is read is spelled so

  -- what was read, with the binary operators that it took
  abbrev pub Spelled : ℕ → ℕ → ℕ → Lexemes → TExpr × ℕ × Lexemes → Type 0
  Spelled room level n from x = Spells limits room level x.0 from x.2 × (operators x.0 + x.1 ≡ n)

  abbrev pub Sound : (ℕ → Lexemes → ReadExpr) → ℕ → ℕ → Type 0
  Sound read room level = (n : ℕ) (ts : Lexemes) (x : TExpr × ℕ × Lexemes) → read n ts ≡ Ok x → Spelled room level n ts x

  moved : (room level n : ℕ) (from : Lexemes) (a b : TExpr × ℕ × Lexemes) → done a ≡ done b → Spelled room level n from a → Spelled room level n from b
  moved room level n from a b e d = subst (λ (p : TExpr × ℕ × Lexemes). Spelled room level n from p) (ok_is a b e) d

  chain_sound : (room level : ℕ) (part : ℕ → Lexemes → ReadExpr) → suc level ≢ 3 → Sound part room level
      → (k total : ℕ) (from : Lexemes) (e : TExpr) (n : ℕ) (ts : Lexemes) (y : TExpr × ℕ × Lexemes) → Spelled room (suc level) total from (e, n, ts)
      → chain (suc level) part k e n ts ≡ Ok y → Spelled room (suc level) total from y
  unfolding chain
  chain_sound room level part ne sound zero total from e n ts y d h = moved room (suc level) total from (e, n, ts) y h d
  chain_sound room level part ne sound (suc k) total from e n ts y d h =
      elim (with_some_ok (operator_front (suc level) ts) _ _ (Ok y) h) [
        | inl w ↦ moved room (suc level) total from (e, n, ts) y w.1 d
        | inr w ↦
            let s = bind_ok (spend_at n w.0.1) _ y w.2 in
            let b = bind_ok (part s.0 w.0.1) _ y s.2 in
            let p = sound s.0 w.0.1 b.0 b.1 in
            let c = spent n w.0.1 s.0 s.1 in
            let o = d.1 in
            let q = p.1 in
            chain_sound room level part ne sound k total from (binary w.0.0 e b.0.0) b.0.1 b.0.2 y (more ne d.0 (front_ok (suc level) ts w.0 w.1) p.0, omega arith) b.2
      ]

  three_sound : (room : ℕ) (part : ℕ → Lexemes → ReadExpr) → Sound part room 2 → (total : ℕ) (from : Lexemes) (e : TExpr) (n : ℕ) (ts : Lexemes) (y : TExpr × ℕ × Lexemes)
      → Spelled room 2 total from (e, n, ts) → chain 3 part 1 e n ts ≡ Ok y → Spelled room 3 total from y
  unfolding chain
  three_sound room part sound total from e n ts y d h =
      elim (with_some_ok (operator_front 3 ts) _ _ (Ok y) h) [
        | inl w ↦ moved room 3 total from (e, n, ts) y w.1 (one d.0, d.1)
        | inr w ↦
            let s = bind_ok (spend_at n w.0.1) _ y w.2 in
            let b = bind_ok (part s.0 w.0.1) _ y s.2 in
            let p = sound s.0 w.0.1 b.0 b.1 in
            let c = spent n w.0.1 s.0 s.1 in
            let o = d.1 in
            let q = p.1 in
            moved room 3 total from (binary w.0.0 e b.0.0, b.0.1, b.0.2) y b.2 (compare d.0 (front_ok 3 ts w.0 w.1) p.0, omega arith)
      ]

  third_sound : (room : ℕ) (lowest : ℕ → Lexemes → ReadExpr) → Sound (levels 2 lowest) room 2 → Sound (levels 3 lowest) room 3
  unfolding levels
  third_sound room lowest sound n ts y e =
      let b = bind_ok (levels 2 lowest n ts) _ y e in
      three_sound room (levels 2 lowest) sound n ts b.0.0 b.0.1 b.0.2 y (sound n ts b.0 b.1) b.2

  levels_sound : (room : ℕ) (lowest : ℕ → Lexemes → ReadExpr) → Sound lowest room 0 → (level : ℕ) → Sound (levels level lowest) room level
  unfolding levels
  levels_sound room lowest sound zero n ts y e = sound n ts y e
  levels_sound room lowest sound (suc level) n ts y e =
      elim (is_three (suc level)) [
        | inl k ↦
            let two : level ≡ 2 = omega arith in
            let P : ℕ → Type 0 = λ l. Sound (levels l lowest) room l → Sound (levels (suc l) lowest) room (suc l) in
            subst P (sym two) (third_sound room lowest) (levels_sound room lowest sound level) n ts y e
        | inr ne ↦
            let b = bind_ok (levels level lowest n ts) _ y e in
            let d = levels_sound room lowest sound level n ts b.0 b.1 in
            chain_sound room level (levels level lowest) ne (levels_sound room lowest sound level) (most (suc level) b.0.2) n ts b.0.0 b.0.1 b.0.2 y (one d.0, d.1) b.2
      ]

  element_in : (room : ℕ) (x : Text) (e : TExpr) (from a b c rest : Lexemes) → Named x from a → Sign marks.OpenSquare a b → Inside room (λ r. Spells limits r 5 e b c)
      → Sign marks.CloseSquare c rest → Spells limits room 0 (index x e) from rest
  element_in zero x e from a b c rest i s d k = absurd d
  element_in (suc room) x e from a b c rest i s d k = element i s d k

  parens_in : (room : ℕ) (e : TExpr) (from a b rest : Lexemes) → Sign marks.OpenRound from a → Inside room (λ r. Spells limits r 5 e a b) → Sign marks.CloseRound b rest
      → Spells limits room 0 e from rest
  parens_in zero e from a b rest s d k = absurd d
  parens_in (suc room) e from a b rest s d k = parens s d k

  minus_in : (room : ℕ) (e : TExpr) (from a rest : Lexemes) → Sign marks.Minus from a → Inside room (λ r. Spells limits r 0 e a rest) → Spells limits room 0 (unary prefixes.Neg e) from rest
  minus_in zero e from a rest s d = absurd d
  minus_in (suc room) e from a rest s d = minus s d

  negation_in : (room : ℕ) (e : TExpr) (from a rest : Lexemes) → Sign marks.Not from a → Inside room (λ r. Spells limits r 0 e a rest) → Spells limits room 0 (unary prefixes.Not e) from rest
  negation_in zero e from a rest s d = absurd d
  negation_in (suc room) e from a rest s d = negation s d

  input_in : (room : ℕ) (s : Text) (from a b rest : Lexemes) → Keyword words.Sense from a → Sign marks.OpenRound a b → Inside room (λ r. IsSensor s b rest) → Spells limits room 0 (sensed s) from rest
  input_in zero s from a b rest k o d = absurd d
  input_in (suc room) s from a b rest k o d = input k o d.1 d.2

  result_in : (room : ℕ) (f : Text) (args : TArgs) (from a b rest : Lexemes) → Named f from a → Sign marks.OpenRound a b → Inside room (λ r. SpellsArgs limits r args b rest)
      → Spells limits room 0 (called (call f args)) from rest
  result_in zero f args from a b rest i o d = absurd d
  result_in (suc room) f args from a b rest i o d = result i o d

  -- the readings of what is inside are sound
  record Parts (room : ℕ) (prefixed inner : ℕ → Lexemes → ReadExpr) (args : Lexemes → Read (List TArg)) (sensor : Lexemes → Read Text) : Type 0 where
    of_prefixed : (n : ℕ) (ts : Lexemes) (x : TExpr × ℕ × Lexemes) → prefixed n ts ≡ Ok x → Inside room (λ r. Spells limits r 0 x.0 ts x.2) × (operators x.0 + x.1 ≡ n)
    of_inner : (n : ℕ) (ts : Lexemes) (x : TExpr × ℕ × Lexemes) → inner n ts ≡ Ok x → Inside room (λ r. Spells limits r 5 x.0 ts x.2) × (operators x.0 + x.1 ≡ n)
    of_args : (ts : Lexemes) (x : List TArg × Lexemes) → args ts ≡ Ok x → Inside room (λ r. SpellsArgs limits r (args_of x.0) ts x.1)
    of_sensor : (ts : Lexemes) (x : Text × Lexemes) → sensor ts ≡ Ok x → Inside room (λ r. IsSensor x.0 ts x.1)

  named_sound : (room : ℕ) (prefixed inner : ℕ → Lexemes → ReadExpr) (args : Lexemes → Read (List TArg)) (sensor : Lexemes → Read Text) → Parts room prefixed inner args sensor
      → (line : ℕ) (x : Text) (n : ℕ) (ts : Lexemes) (y : TExpr × ℕ × Lexemes) → named_by inner args x n ts ≡ Ok y → Spelled room 0 n (named line x ∷ ts) y
  named_sound room prefixed inner args sensor p line x n ts y e =
      elim (with_some_ok (strip_mark marks.OpenRound ts) _ _ (Ok y) e) [
        | inl w ↦
            elim (with_some_ok (strip_mark marks.OpenSquare ts) _ _ (Ok y) w.1) [
              | inl v ↦ moved room 0 n (named line x ∷ ts) (variable x, n, ts) y v.1 (name a_name, omega arith)
              | inr v ↦
                  let b = bind_ok (inner n v.0) _ y v.2 in
                  let d = p.of_inner n v.0 b.0 b.1 in
                  let c = bind_ok (expect_mark marks.CloseSquare b.0.2) _ y b.2 in
                  moved room 0 n (named line x ∷ ts) (index x b.0.0, b.0.1, c.0) y c.2
                  (element_in room x b.0.0 (named line x ∷ ts) ts v.0 b.0.2 c.0 a_name (strip_mark_ok marks.OpenSquare ts v.0 v.1) d.0 (expect_mark_ok marks.CloseSquare b.0.2 c.0 c.1), d.1)
            ]
        | inr w ↦
            let b = bind_ok (args w.0) _ y w.2 in
            moved room 0 n (named line x ∷ ts) (called (call x (args_of b.0.0)), n, b.0.1) y b.2
            (result_in room x (args_of b.0.0) (named line x ∷ ts) ts w.0 b.0.1 a_name (strip_mark_ok marks.OpenRound ts w.0 w.1) (p.of_args w.0 b.0 b.1), omega arith)
      ]

  unary_by_sound : (room : ℕ) (prefixed inner : ℕ → Lexemes → ReadExpr) (args : Lexemes → Read (List TArg)) (sensor : Lexemes → Read Text) → Parts room prefixed inner args sensor
      → (t : Lexeme) (n : ℕ) (ts : Lexemes) (y : TExpr × ℕ × Lexemes) → unary_by prefixed inner args sensor t n ts ≡ Ok y → Spelled room 0 n (t ∷ ts) y
  unary_by_sound room prefixed inner args sensor p (numeral line v) n ts y e = moved room 0 n (numeral line v ∷ ts) (number v, n, ts) y e (literal a_numeral, omega arith)
  unary_by_sound room prefixed inner args sensor p (named line x) n ts y e = named_sound room prefixed inner args sensor p line x n ts y e
  unary_by_sound room prefixed inner args sensor p (keyword line words.True) n ts y e = moved room 0 n (keyword line words.True ∷ ts) (truth true, n, ts) y e (yes a_keyword, omega arith)
  unary_by_sound room prefixed inner args sensor p (keyword line words.False) n ts y e = moved room 0 n (keyword line words.False ∷ ts) (truth false, n, ts) y e (no a_keyword, omega arith)
  unary_by_sound room prefixed inner args sensor p (keyword line words.Sense) n ts y e =
      let a = bind_ok (expect_mark marks.OpenRound ts) _ y e in
      let b = bind_ok (sensor a.0) _ y a.2 in
      moved room 0 n (keyword line words.Sense ∷ ts) (sensed b.0.0, n, b.0.1) y b.2
      (input_in room b.0.0 (keyword line words.Sense ∷ ts) ts a.0 b.0.1 a_keyword (expect_mark_ok marks.OpenRound ts a.0 a.1) (p.of_sensor a.0 b.0 b.1), omega arith)
  unary_by_sound room prefixed inner args sensor p (sign line marks.Star) n ts y e =
      let a = bind_ok (name_at ts) _ y e in
      moved room 0 n (sign line marks.Star ∷ ts) (deref a.0.0, n, a.0.1) y a.2 (target a_sign (name_ok ts a.0.0 a.0.1 a.1), omega arith)
  unary_by_sound room prefixed inner args sensor p (sign line marks.OpenRound) n ts y e =
      let b = bind_ok (inner n ts) _ y e in
      let d = p.of_inner n ts b.0 b.1 in
      let c = bind_ok (expect_mark marks.CloseRound b.0.2) _ y b.2 in
      moved room 0 n (sign line marks.OpenRound ∷ ts) (b.0.0, b.0.1, c.0) y c.2
      (parens_in room b.0.0 (sign line marks.OpenRound ∷ ts) ts b.0.2 c.0 a_sign d.0 (expect_mark_ok marks.CloseRound b.0.2 c.0 c.1), d.1)
  unary_by_sound room prefixed inner args sensor p (sign line marks.Minus) n ts y e =
      let b = bind_ok (prefixed n ts) _ y e in
      let d = p.of_prefixed n ts b.0 b.1 in
      moved room 0 n (sign line marks.Minus ∷ ts) (unary prefixes.Neg b.0.0, b.0.1, b.0.2) y b.2 (minus_in room b.0.0 (sign line marks.Minus ∷ ts) ts b.0.2 a_sign d.0, d.1)
  unary_by_sound room prefixed inner args sensor p (sign line marks.Not) n ts y e =
      let b = bind_ok (prefixed n ts) _ y e in
      let d = p.of_prefixed n ts b.0 b.1 in
      moved room 0 n (sign line marks.Not ∷ ts) (unary prefixes.Not b.0.0, b.0.1, b.0.2) y b.2 (negation_in room b.0.0 (sign line marks.Not ∷ ts) ts b.0.2 a_sign d.0, d.1)
  unary_by_sound room prefixed inner args sensor p _ n ts y e = absurd cc

  part_sound : (room : ℕ) (inner : ℕ → Lexemes → ReadExpr) → Sound inner room 5 → (ts : Lexemes) (x : TExpr × Lexemes) → whole_by limits inner ts ≡ Ok x
      → Spells limits room 5 x.0 ts x.1 × (operators x.0 ≤ limits.operators)
  part_sound room inner sound ts x e =
      let b = bind_ok (inner limits.operators ts) _ x e in
      let d = sound limits.operators ts b.0 b.1 in
      let c = d.1 in
      subst (λ (q : TExpr × Lexemes). Spells limits room 5 q.0 ts q.1 × (operators q.0 ≤ limits.operators)) (ok_is _ x b.2) (d.0, omega arith)

  reference_sound : (room : ℕ) (from us : Lexemes) (x : TArg × Lexemes) → Sign marks.Ampersand from us → reference_by (take_word words.Mutable us) ≡ Ok x → SpellsArg limits room x.0 from x.1
  unfolding take_word
  reference_sound room from us x s e = by_word (strip_word words.Mutable us) refl e
    where
      by_word : (o : Option Lexemes) → strip_word words.Mutable us ≡ o → reference_by (with_some o (false, us) (λ vs. (true, vs))) ≡ Ok x → SpellsArg limits room x.0 from x.1
      by_word None k e =
          let b = bind_ok (name_at us) _ x e in
          subst (λ (q : TArg × Lexemes). SpellsArg limits room q.0 from q.1) (ok_is _ x b.2) (by_shared s (name_ok us b.0.0 b.0.1 b.1))
      by_word (Some vs) k e =
          let b = bind_ok (name_at vs) _ x e in
          subst (λ (q : TArg × Lexemes). SpellsArg limits room q.0 from q.1) (ok_is _ x b.2) (by_mutable s (strip_word_ok words.Mutable us vs k) (name_ok vs b.0.0 b.0.1 b.1))

  arg_sound : (room : ℕ) (inner : ℕ → Lexemes → ReadExpr) → Sound inner room 5 → PartSound (SpellsArg limits room) (arg_by limits inner)
  arg_sound room inner sound ts x e =
      elim (with_some_ok (strip_mark marks.Ampersand ts) _ _ (Ok x) e) [
        | inl w ↦
            let b = bind_ok (whole_by limits inner ts) _ x w.1 in
            let d = part_sound room inner sound ts b.0 b.1 in
            subst (λ (q : TArg × Lexemes). SpellsArg limits room q.0 ts q.1) (ok_is _ x b.2) (by_value d.0 d.1)
        | inr w ↦ reference_sound room ts w.0 x (strip_mark_ok marks.Ampersand ts w.0 w.1) w.2
      ]

  pub args_sound : (room : ℕ) (inner : ℕ → Lexemes → ReadExpr) → Sound inner room 5 → (ts : Lexemes) (x : List TArg × Lexemes) → args_by limits inner ts ≡ Ok x
      → SpellsArgs limits room (args_of x.0) ts x.1
  args_sound room inner sound ts x e =
      listed_sound (SpellsArg limits room) (λ xs from rest. SpellsArgs limits room (args_of xs) from rest) (arg_by limits inner) (arg_sound room inner sound)
      (λ from rest s. closed s) (λ a from b rest d s. last d s) (λ a as' from b c rest d s q. further d s q) (suc (length ts)) ts x e

  pub unary_sound : (room : ℕ) → Sound (unary_at limits room) room 0
  unfolding unary_at
  unary_sound zero n ts y e =
      let b = bind_ok (next_at ts) _ y e in
      let none : Parts zero (λ n us. too_deep brackets_depth us) (λ n us. too_deep brackets_depth us) (λ us. too_deep brackets_depth us) (λ us. too_deep brackets_depth us) = record {
        of_prefixed = λ n ts x e. absurd cc;
        of_inner = λ n ts x e. absurd cc;
        of_args = λ ts x e. absurd cc;
        of_sensor = λ ts x e. absurd cc;
      } in
      rw (next_ok ts b.0 b.1) (unary_by_sound zero _ _ _ _ none b.0.0 n b.0.1 y b.2)
  unary_sound (suc room) n ts y e =
      let b = bind_ok (next_at ts) _ y e in
      let all : Sound (levels 5 (unary_at limits room)) room 5 = levels_sound room (unary_at limits room) (unary_sound room) 5 in
      let inside : Parts (suc room) (unary_at limits room) (levels 5 (unary_at limits room)) (args_by limits (levels 5 (unary_at limits room))) sensor_at = record {
        of_prefixed = unary_sound room;
        of_inner = all;
        of_args = args_sound room (levels 5 (unary_at limits room)) all;
        of_sensor = sensor_sound;
      } in
      rw (next_ok ts b.0 b.1) (unary_by_sound (suc room) _ _ _ _ inside b.0.0 n b.0.1 y b.2)

  pub level_sound : (room level : ℕ) → Sound (level_at limits level room) room level
  level_sound room level = levels_sound room (unary_at limits room) (unary_sound room) level

  pub whole_sound : (ts : Lexemes) (x : TExpr × Lexemes) → whole_at limits ts ≡ Ok x → SpellsWhole limits x.0 ts x.1
  unfolding whole_at part_at
  whole_sound ts x e =
      let d = part_sound limits.brackets (level_at limits 5 limits.brackets) (level_sound limits.brackets 5) ts x e in
      record { spelled = d.0; few = d.1 }

  -- ---- what is left is shorter

  mutual
    pub shorter : {room level : ℕ} {e : TExpr} {from rest : Lexemes} → Spells limits room level e from rest → length rest < length from
    shorter (literal i) = let h = number_shorter i in omega arith
    shorter (yes i) = let h = keyword_shorter i in omega arith
    shorter (no i) = let h = keyword_shorter i in omega arith
    shorter (name i) = let h = name_shorter i in omega arith
    shorter (element i s d k) = let h = name_shorter i in let g = sign_shorter s in let f = shorter d in let l = sign_shorter k in omega arith
    shorter (target s i) = let h = sign_shorter s in let g = name_shorter i in omega arith
    shorter (parens s d k) = let h = sign_shorter s in let g = shorter d in let f = sign_shorter k in omega arith
    shorter (minus s d) = let h = sign_shorter s in let g = shorter d in omega arith
    shorter (negation s d) = let h = sign_shorter s in let g = shorter d in omega arith
    shorter (input k o i c) = let h = keyword_shorter k in let g = sign_shorter o in let f = name_shorter i in let l = sign_shorter c in omega arith
    shorter (result i o d) = let h = name_shorter i in let g = sign_shorter o in let f = shorter_args d in omega arith
    shorter (one d) = shorter d
    shorter (more ne d o e) = let h = shorter d in let g = infix_shorter o in let f = shorter e in omega arith
    shorter (compare d o e) = let h = shorter d in let g = infix_shorter o in let f = shorter e in omega arith

    pub shorter_arg : {room : ℕ} {arg : TArg} {from rest : Lexemes} → SpellsArg limits room arg from rest → length rest < length from
    shorter_arg (by_value d few) = shorter d
    shorter_arg (by_shared s i) = let h = sign_shorter s in let g = name_shorter i in omega arith
    shorter_arg (by_mutable s k i) = let h = sign_shorter s in let f = keyword_shorter k in let g = name_shorter i in omega arith

    pub shorter_args : {room : ℕ} {args : TArgs} {from rest : Lexemes} → SpellsArgs limits room args from rest → length rest < length from
    shorter_args (closed s) = let h = sign_shorter s in omega arith
    shorter_args (last d s) = let h = shorter_arg d in let g = sign_shorter s in omega arith
    shorter_args (further d s e) = let h = shorter_arg d in let g = sign_shorter s in let f = shorter_args e in omega arith

  pub arg_shorter : (room : ℕ) (ts : Lexemes) (x : TArg × Lexemes) → arg_by limits (level_at limits 5 room) ts ≡ Ok x → length x.1 < length ts
  arg_shorter room ts x e = shorter_arg (arg_sound room (level_at limits 5 room) (level_sound room 5) ts x e)
