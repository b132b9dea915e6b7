-- What is spelled so is read: expressions.
use Rattle.std.proofs.Common.{◌≡◌, ◌≢◌, ℕ, zero, suc, ◌+◌, ◌-◌, ◌<◌, ◌≤◌, Bool, true, false, cond, eqb, List, [], ◌∷◌, length, Some, None, Ok, refl, sym, ap, ◌∙◌, arith}
use Rattle.std.proofs.lemmas.Bool.{eqb-true, ne_eqb}
use Rattle.std.specs.Prelude.{if◌then◌else◌, ◌==◌}
use Rattle.oc_tree.specs.Names.{Text}
use Rattle.oc_tree.specs.Tree.{TExpr, number, truth, variable, deref, binary, TArg, TArgs, no_args, more_args}
use Rattle.oc_tree.specs.View.{args_of}
use Rattle.oc_tree.specs.declared.tree.BinaryOp.{BinaryOp}
use Rattle.oc_lex.specs.declared.token.Word.{Word}
use Rattle.oc_lex.specs.declared.token.Word.TheVariants as words
use Rattle.oc_lex.specs.declared.token.Mark.{Mark}
use Rattle.oc_lex.specs.declared.token.Mark.TheVariants as marks
use Rattle.oc_grammar.specs.Limits.{Limits}
use Rattle.oc_grammar.specs.Lexemes.{Lexeme, Lexemes, named, numeral, keyword, sign}
use Rattle.oc_grammar.specs.Fronts.{Named, a_name, a_numeral, Keyword, a_keyword, Sign, a_sign, Infix, an_operator, infix_of, mark_operator}
use Rattle.oc_grammar.specs.Expressions.{operators, Spells, literal, yes, no, name, element, target, parens, minus, negation, input, result, one, more, compare, SpellsArg}
use Rattle.oc_grammar.specs.Expressions.{by_value, by_shared, by_mutable, SpellsArgs, closed, last, further, SpellsWhole}
use Rattle.oc_grammar.specs.Reading.{mark_number, next_at, strip_mark, strip_word, expect_mark, name_at, take_word, operator_front, listed_by}
use Rattle.oc_grammar.specs.ReadingExpressions.{ReadExpr, spend_at, chain, most, levels, reference, reference_by, arg_by, sensor_at, unary_at, level_at, part_at, whole_at}
use Rattle.oc_grammar.proofs.FrontLaws.{bind_same, done, with_some_same, sign_strip, keyword_strip, name_read, sign_shorter, infix_shorter, front_ok, infix_front, other_level}
use Rattle.oc_grammar.proofs.ExpressionLaws.{level_sound, shorter, shorter_arg}

abbrev pub ShortensExpr : (ℕ → Lexemes → ReadExpr) → Type 0
ShortensExpr part = (n : ℕ) (ts : Lexemes) (x : TExpr × ℕ × Lexemes) → part n ts ≡ Ok x → length x.2 < length ts

pub chain_enough : (level : ℕ) (part : ℕ → Lexemes → ReadExpr) → ShortensExpr part → (k j : ℕ) (e : TExpr) (n : ℕ) (ts : Lexemes) → length ts ≤ k → length ts ≤ j
    → chain level part k e n ts ≡ chain level part j e n ts
unfolding chain operator_front
chain_enough level part short zero zero e n ts h g = refl
chain_enough level part short zero (suc j) e n [] h g = refl
chain_enough level part short zero (suc j) e n (t ∷ ts) h g = absurd (omega arith)
chain_enough level part short (suc k) zero e n [] h g = refl
chain_enough level part short (suc k) zero e n (t ∷ ts) h g = absurd (omega arith)
chain_enough level part short (suc k) (suc j) e n ts h g =
    with_some_same (operator_front level ts) _ _ _ _ (λ _. refl) (λ o f.
    let l = infix_shorter (front_ok level ts o f) in
    bind_same (spend_at n o.1) _ _ (λ m _.
    bind_same (part m o.1) _ _ (λ x p.
    let s = short m o.1 x p in
    chain_enough level part short k j (binary o.0 e x.0) x.1 x.2 (omega arith) (omega arith))))

pub no_front : (level : ℕ) (y : BinaryOp × Lexemes) → operator_front level [] ≡ Some y → ⊥
unfolding operator_front
no_front level y e = cc

-- ---- where an expression ends

-- a comparison ends before another one
abbrev pub reach : ℕ → ℕ
reach level = if level == 3 then 4 else level

pub record Stops (level : ℕ) (ts : Lexemes) : Type 0 where
  pub no_call : strip_mark marks.OpenRound ts ≡ None
  pub no_index : strip_mark marks.OpenSquare ts ≡ None
  pub no_operator : (j : ℕ) → j < reach level → operator_front j ts ≡ None

pub stops_sign : (level : ℕ) (m : Mark) (from rest : Lexemes) → mark_operator m ≡ None → eqb (mark_number m) 0 ≡ false → eqb (mark_number m) 4 ≡ false → Sign m from rest → Stops level from
unfolding strip_mark operator_front
stops_sign level m from rest h f g a_sign = record { no_call = rw f refl; no_index = rw g refl; no_operator = λ j _. rw h refl }

pub stops_keyword : (level : ℕ) {w : Word} {from rest : Lexemes} → Keyword w from rest → Stops level from
unfolding strip_mark operator_front
stops_keyword level a_keyword = record { no_call = refl; no_index = refl; no_operator = λ j _. refl }

infix_opens_not : {op : BinaryOp} {level : ℕ} {from rest : Lexemes} → Infix op level from rest → (strip_mark marks.OpenRound from ≡ None) × (strip_mark marks.OpenSquare from ≡ None)
unfolding strip_mark
infix_opens_not (an_operator {token = token} {op = op} {level = level} {rest = rest} e) = by_token token e
  where
    by_mark : (line : ℕ) (m : Mark) → mark_operator m ≡ Some (op, level) → (strip_mark marks.OpenRound (sign line m ∷ rest) ≡ None) × (strip_mark marks.OpenSquare (sign line m ∷ rest) ≡ None)
    by_mark line marks.OpenRound e = absurd cc
    by_mark line marks.OpenSquare e = absurd cc
    by_mark line _ e = (refl, refl)

    by_token : (t : Lexeme) → infix_of t ≡ Some (op, level) → (strip_mark marks.OpenRound (t ∷ rest) ≡ None) × (strip_mark marks.OpenSquare (t ∷ rest) ≡ None)
    by_token (sign line m) e = by_mark line m e
    by_token _ e = (refl, refl)

stops_infix : (low : ℕ) {op : BinaryOp} {level : ℕ} {from rest : Lexemes} → Infix op level from rest → reach low ≤ level → Stops low from
stops_infix low o h = let p = infix_opens_not o in record { no_call = p.0; no_index = p.1; no_operator = λ j l. other_level o j (λ e. omega arith) }

lower : (low high : ℕ) (ts : Lexemes) → reach low ≤ reach high → Stops high ts → Stops low ts
lower low high ts h s = record { no_call = s.no_call; no_index = s.no_index; no_operator = λ j l. s.no_operator j (omega arith) }

reach_next : (level : ℕ) → reach level ≤ reach (suc level)
reach_next level = by_flag (eqb level 3) (eqb (suc level) 3) refl refl
  where
    by_flag : (a b : Bool) → eqb level 3 ≡ a → eqb (suc level) 3 ≡ b → cond a 4 level ≤ cond b 4 (suc level)
    by_flag true true e f = omega arith
    by_flag true false e f = let k : level ≡ 3 = eqb-true _ _ e in omega arith
    by_flag false true e f = let k : suc level ≡ 3 = eqb-true _ _ f in omega arith
    by_flag false false e f = omega arith

reach_other : (level : ℕ) → level ≢ 3 → reach level ≡ level
reach_other level ne = rw (ne_eqb level 3 ne) refl

below_next : (level : ℕ) → level < reach (suc level)
below_next level = by_flag (eqb (suc level) 3) refl
  where
    by_flag : (b : Bool) → eqb (suc level) 3 ≡ b → level < cond b 4 (suc level)
    by_flag true f = let k : suc level ≡ 3 = eqb-true _ _ f in omega arith
    by_flag false f = omega arith

pub chain_stopped : (level : ℕ) (part : ℕ → Lexemes → ReadExpr) (k : ℕ) (e : TExpr) (n : ℕ) (ts : Lexemes) → operator_front level ts ≡ None → chain level part k e n ts ≡ Ok (e, n, ts)
unfolding chain
chain_stopped level part zero e n ts h = refl
chain_stopped level part (suc k) e n ts h = rw h refl

-- ---- arguments

pub list_of : TArgs → List TArg
list_of no_args = []
list_of (more_args a rest) = a ∷ list_of rest

pub args_back : (args : TArgs) → args_of (list_of args) ≡ args
unfolding list_of
args_back no_args = refl
args_back (more_args a rest) = ap (λ (r : TArgs). more_args a r) (args_back rest)

abbrev pub Begins : Lexemes → Type 0
Begins from = (strip_mark marks.CloseRound from ≡ None) × (strip_mark marks.Ampersand from ≡ None) × (strip_mark marks.OpenSquare from ≡ None)

pub named_no_word : {x : Text} {from rest : Lexemes} → Named x from rest → (w : Word) → strip_word w from ≡ None
unfolding strip_word
named_no_word a_name w = refl

comma_only : {from rest : Lexemes} → Sign marks.CloseRound from rest → strip_mark marks.Comma from ≡ None
unfolding strip_mark
comma_only a_sign = refl

pub take_without : (w : Word) (ts : Lexemes) → strip_word w ts ≡ None → take_word w ts ≡ (false, ts)
unfolding take_word
take_without w ts e = rw e refl

pub take_with : {w : Word} {ts rest : Lexemes} → Keyword w ts rest → take_word w ts ≡ (true, rest)
unfolding take_word
take_with k = rw (keyword_strip k) refl

reference_read : (m : Bool) (x : Text) (a us rest : Lexemes) → Named x us rest → take_word words.Mutable a ≡ (m, us) → reference_by (take_word words.Mutable a) ≡ Ok (reference m x, rest)
reference_read m x a us rest i e = rw (e, name_read i) refl

module _ (limits : Limits) where
  -- ---- any number of turns that is enough

  pub level_shorter : (room level n : ℕ) (ts : Lexemes) (x : TExpr × ℕ × Lexemes) → level_at limits level room n ts ≡ Ok x → length x.2 < length ts
  level_shorter room level n ts x e = shorter limits (level_sound limits room level n ts x e).0

  -- one turn
  pub chain_turn : (room level : ℕ) (e : TExpr) (n : ℕ) (op : BinaryOp) (a b : Lexemes) (x : TExpr × ℕ × Lexemes) → operator_front (suc level) a ≡ Some (op, b) → level_at limits level room n b ≡ Ok x
      → chain (suc level) (level_at limits level room) (length a) e (suc n) a ≡ chain (suc level) (level_at limits level room) (length x.2) (binary op e x.0) x.1 x.2
  unfolding chain spend_at
  chain_turn room level e n op [] b x o p = absurd (no_front (suc level) (op, b) o)
  chain_turn room level e n op (t ∷ ts) b x o p =
      let l = infix_shorter (front_ok (suc level) (t ∷ ts) (op, b) o) in
      let s = level_shorter room level n b x p in
      rw (o, p) (chain_enough (suc level) (level_at limits level room) (level_shorter room level) (length ts) (length x.2) (binary op e x.0) x.1 x.2 (omega arith) (omega arith))

  -- ---- what is spelled so is read

  -- what is read where a tree of this level was read
  abbrev pub on : ℕ → ℕ → TExpr → ℕ → Lexemes → ReadExpr
  on zero room e n ts = Ok (e, n, ts)
  on (suc level) room e n ts = if suc level == 3 then Ok (e, n, ts) else chain (suc level) (level_at limits level room) (length ts) e n ts

  stopped : (level room : ℕ) (e : TExpr) (n : ℕ) (ts : Lexemes) → operator_front level ts ≡ None → on level room e n ts ≡ Ok (e, n, ts)
  stopped zero room e n ts h = refl
  stopped (suc level) room e n ts h = by_flag (eqb (suc level) 3)
    where
      by_flag : (b : Bool) → cond b (done (e, n, ts)) (chain (suc level) (level_at limits level room) (length ts) e n ts) ≡ Ok (e, n, ts)
      by_flag true = refl
      by_flag false = chain_stopped (suc level) (level_at limits level room) (length ts) e n ts h

  on_is : (level room : ℕ) (e : TExpr) (n : ℕ) (ts : Lexemes) → (suc level ≡ 3 → operator_front (suc level) ts ≡ None)
      → chain (suc level) (level_at limits level room) (most (suc level) ts) e n ts ≡ on (suc level) room e n ts
  on_is level room e n ts h = by_flag (eqb (suc level) 3) refl
    where
      by_flag : (b : Bool) → eqb (suc level) 3 ≡ b → chain (suc level) (level_at limits level room) (cond b 1 (length ts)) e n ts
          ≡ cond b (Ok (e, n, ts)) (chain (suc level) (level_at limits level room) (length ts) e n ts)
      by_flag true k = chain_stopped (suc level) (level_at limits level room) 1 e n ts (h (eqb-true _ _ k))
      by_flag false k = refl

  on_other : (level room : ℕ) (e : TExpr) (n : ℕ) (ts : Lexemes) → suc level ≢ 3 → on (suc level) room e n ts ≡ chain (suc level) (level_at limits level room) (length ts) e n ts
  on_other level room e n ts ne = rw (ne_eqb (suc level) 3 ne) refl

  -- the reading of a level, at the level below
  level_from : (level room m : ℕ) (from : Lexemes) (e : TExpr) (n : ℕ) (ts : Lexemes) → level_at limits level room m from ≡ Ok (e, n, ts)
      → (suc level ≡ 3 → operator_front (suc level) ts ≡ None) → level_at limits (suc level) room m from ≡ on (suc level) room e n ts
  unfolding levels
  level_from level room m from e n ts r h = rw r (on_is level room e n ts h)

  three_is : (room m : ℕ) (from : Lexemes) (l : TExpr) (n : ℕ) (op : BinaryOp) (a b : Lexemes) (r : TExpr) (k : ℕ) (rest : Lexemes) → level_at limits 2 room m from
      ≡ Ok (l, suc n, a) → operator_front 3 a ≡ Some (op, b) → level_at limits 2 room n b ≡ Ok (r, k, rest) → level_at limits 3 room m from ≡ Ok (binary op l r, k, rest)
  unfolding levels chain spend_at
  three_is room m from l n op a b r k rest e o f = rw (e, o, f) refl

  -- ---- one unary

  pub unary_literal : (room n line : ℕ) (v : _) (rest : Lexemes) → unary_at limits room n (numeral line v ∷ rest) ≡ Ok (number v, n, rest)
  unfolding unary_at next_at
  unary_literal zero n line v rest = refl
  unary_literal (suc room) n line v rest = refl

  unary_yes : (room n line : ℕ) (rest : Lexemes) → unary_at limits room n (keyword line words.True ∷ rest) ≡ Ok (truth true, n, rest)
  unfolding unary_at next_at
  unary_yes zero n line rest = refl
  unary_yes (suc room) n line rest = refl

  unary_no : (room n line : ℕ) (rest : Lexemes) → unary_at limits room n (keyword line words.False ∷ rest) ≡ Ok (truth false, n, rest)
  unfolding unary_at next_at
  unary_no zero n line rest = refl
  unary_no (suc room) n line rest = refl

  unary_name : (room n line : ℕ) (x : Text) (rest : Lexemes) → strip_mark marks.OpenRound rest ≡ None → strip_mark marks.OpenSquare rest ≡ None
      → unary_at limits room n (named line x ∷ rest) ≡ Ok (variable x, n, rest)
  unfolding unary_at next_at
  unary_name zero n line x rest h g = rw (h, g) refl
  unary_name (suc room) n line x rest h g = rw (h, g) refl

  unary_target : (room n line line' : ℕ) (x : Text) (rest : Lexemes) → unary_at limits room n (sign line marks.Star ∷ named line' x ∷ rest) ≡ Ok (deref x, n, rest)
  unfolding unary_at next_at name_at
  unary_target zero n line line' x rest = refl
  unary_target (suc room) n line line' x rest = refl

  pub begins : {room level : ℕ} {e : TExpr} {from rest : Lexemes} → Spells limits room level e from rest → Begins from
  unfolding strip_mark
  begins (literal a_numeral) = (refl, refl, refl)
  begins (yes a_keyword) = (refl, refl, refl)
  begins (no a_keyword) = (refl, refl, refl)
  begins (name a_name) = (refl, refl, refl)
  begins (element a_name s d k) = (refl, refl, refl)
  begins (target a_sign i) = (refl, refl, refl)
  begins (parens a_sign d k) = (refl, refl, refl)
  begins (minus a_sign d) = (refl, refl, refl)
  begins (negation a_sign d) = (refl, refl, refl)
  begins (input a_keyword o i c) = (refl, refl, refl)
  begins (result a_name o d) = (refl, refl, refl)
  begins (one d) = begins d
  begins (more ne d o e) = begins d
  begins (compare d o e) = begins d

  arg_begins : {room : ℕ} {arg : TArg} {from rest : Lexemes} → SpellsArg limits room arg from rest → strip_mark marks.CloseRound from ≡ None
  unfolding strip_mark
  arg_begins (by_value d few) = (begins d).0
  arg_begins (by_shared a_sign i) = refl
  arg_begins (by_mutable a_sign k i) = refl

  mutual
    unfolding list_of levels unary_at next_at listed_by strip_mark expect_mark sensor_at name_at

    pub goes_on : {room level : ℕ} {e : TExpr} {from rest : Lexemes} → Spells limits room level e from rest → Stops level rest → (n m : ℕ) → m ≡ operators e + n
        → level_at limits level room m from ≡ on level room e n rest
    goes_on (literal {room = room} {v = v} {rest = rest} (a_numeral {line = line})) stops n m h =
        let k : m ≡ n = omega arith in rw k (unary_literal room n line v rest)
    goes_on (yes {room = room} {rest = rest} (a_keyword {line = line})) stops n m h =
        let k : m ≡ n = omega arith in rw k (unary_yes room n line rest)
    goes_on (no {room = room} {rest = rest} (a_keyword {line = line})) stops n m h =
        let k : m ≡ n = omega arith in rw k (unary_no room n line rest)
    goes_on (name {room = room} {x = x} {rest = rest} (a_name {line = line})) stops n m h =
        let k : m ≡ n = omega arith in rw k (unary_name room n line x rest stops.no_call stops.no_index)
    goes_on (element {room = room} {x = x} {e = e} {b = b} {c = c} {rest = rest} a_name a_sign d s) stops n m h =
        let inner : level_at limits 5 room m b ≡ Ok (e, n, c) = goes_on d (stops_sign 5 marks.CloseSquare c rest refl refl refl s) n m h
        ∙ stopped 5 room e n c ((stops_sign 6 marks.CloseSquare c rest refl refl refl s).no_operator 5 (omega arith)) in
        rw (inner, sign_strip s) refl
    goes_on (target {room = room} {x = x} {rest = rest} (a_sign {line = line}) (a_name {line = line'})) stops n m h =
        let k : m ≡ n = omega arith in rw k (unary_target room n line line' x rest)
    goes_on (parens {room = room} {e = e} {a = a} {b = b} {rest = rest} a_sign d s) stops n m h =
        let inner : level_at limits 5 room m a ≡ Ok (e, n, b) = goes_on d (stops_sign 5 marks.CloseRound b rest refl refl refl s) n m h
        ∙ stopped 5 room e n b ((stops_sign 6 marks.CloseRound b rest refl refl refl s).no_operator 5 (omega arith)) in
        rw (inner, sign_strip s) refl
    goes_on (minus {room = room} {e = e} {a = a} {rest = rest} a_sign d) stops n m h =
        let inner : unary_at limits room m a ≡ Ok (e, n, rest) = goes_on d stops n m h in
        rw inner refl
    goes_on (negation {room = room} {e = e} {a = a} {rest = rest} a_sign d) stops n m h =
        let inner : unary_at limits room m a ≡ Ok (e, n, rest) = goes_on d stops n m h in
        rw inner refl
    goes_on (input {room = room} {s = s} {rest = rest} a_keyword a_sign a_name c) stops n m h =
        let k : m ≡ n = omega arith in rw (k, sign_strip c) refl
    goes_on (result {room = room} {f = f} {args = args} {b = b} {rest = rest} a_name a_sign d) stops n m h =
        let k : m ≡ n = omega arith in
        let inner : listed_by (arg_by limits (level_at limits 5 room)) (suc (length b)) b ≡ Ok (list_of args, rest) = args_read d (suc (length b)) (omega arith) in
        rw (k, inner, args_back args) refl
    goes_on (one {room = room} {level = level} {e = e} {from = from} {rest = rest} d) stops n m h =
        let g = below_next level in
        let below : level_at limits level room m from ≡ Ok (e, n, rest) = goes_on d (lower level (suc level) rest (reach_next level) stops) n m h
        ∙ stopped level room e n rest (stops.no_operator level g) in
        level_from level room m from e n rest below (λ k. stops.no_operator (suc level) (rw k (omega arith)))
    goes_on (more {room = room} {level = level} {op = op} {l = l} {r = r} {from = from} {a = a} {b = b} {rest = rest} ne d o e) stops n m h =
        let k : ℕ = operators r + n in
        let g = below_next level in
        let right : level_at limits level room k b ≡ Ok (r, n, rest) = goes_on e (lower level (suc level) rest (reach_next level) stops) n k refl
        ∙ stopped level room r n rest (stops.no_operator level g) in
        let f = reach_other (suc level) ne in
        let left : level_at limits (suc level) room m from ≡ on (suc level) room l (suc k) a = goes_on d (stops_infix (suc level) o (omega arith)) (suc k) m (omega arith) in
        left ∙ on_other level room l (suc k) a ne ∙ chain_turn room level l k op a b (r, n, rest) (infix_front o) right ∙ sym (on_other level room (binary op l r) n rest ne)
    goes_on (compare {room = room} {op = op} {l = l} {r = r} {from = from} {a = a} {b = b} {rest = rest} d o e) stops n m h =
        let k : ℕ = operators r + n in
        let right : level_at limits 2 room k b ≡ Ok (r, n, rest) = goes_on e (lower 2 3 rest (omega arith) stops) n k refl ∙ stopped 2 room r n rest (stops.no_operator 2 (omega arith)) in
        let left : level_at limits 2 room m from ≡ Ok (l, suc k, a) = goes_on d (stops_infix 2 o (omega arith)) (suc k) m (omega arith)
        ∙ stopped 2 room l (suc k) a (other_level o 2 (λ e. omega arith)) in
        three_is room m from l k op a b r n rest left (infix_front o) right

    arg_read : {room : ℕ} {arg : TArg} {from rest : Lexemes} → SpellsArg limits room arg from rest → Stops 6 rest → arg_by limits (level_at limits 5 room) from ≡ Ok (arg, rest)
    arg_read (by_value {room = room} {e = e} {from = from} {rest = rest} d few) stops =
        let n : ℕ = limits.operators - operators e in
        let inner : level_at limits 5 room limits.operators from ≡ Ok (e, n, rest) = goes_on d (lower 5 6 rest (omega arith) stops) n limits.operators (omega arith)
        ∙ stopped 5 room e n rest (stops.no_operator 5 (omega arith)) in
        rw ((begins d).1, inner) refl
    arg_read (by_shared {room = room} {x = x} {a = a} {rest = rest} a_sign i) stops = reference_read false x a a rest i (take_without words.Mutable a (named_no_word i words.Mutable))
    arg_read (by_mutable {room = room} {x = x} {a = a} {b = b} {rest = rest} a_sign k i) stops = reference_read true x a b rest i (take_with k)

    pub args_read : {room : ℕ} {args : TArgs} {from rest : Lexemes} → SpellsArgs limits room args from rest → (k : ℕ) → length from ≤ k
        → listed_by (arg_by limits (level_at limits 5 room)) k from ≡ Ok (list_of args, rest)
    args_read (closed s) zero h = let g = sign_shorter s in absurd (omega arith)
    args_read (closed s) (suc k) h = rw (sign_strip s) refl
    args_read (last d s) zero h = let g = shorter_arg limits d in absurd (omega arith)
    args_read (last {room = room} {arg = arg} {from = from} {a = a} {rest = rest} d s) (suc k) h =
        let part = arg_read d (stops_sign 6 marks.CloseRound a rest refl refl refl s) in
        rw (arg_begins d, part, comma_only s, sign_strip s) refl
    args_read (further d s e) zero h = let g = shorter_arg limits d in absurd (omega arith)
    args_read (further {room = room} {arg = arg} {args = args} {from = from} {a = a} {b = b} {rest = rest} d s e) (suc k) h =
        let part = arg_read d (stops_sign 6 marks.Comma a b refl refl refl s) in
        let g = shorter_arg limits d in
        let f = sign_shorter s in
        rw (arg_begins d, part, sign_strip s, args_read e k (omega arith)) refl

  -- a whole expression is read where it ends
  pub part_read : (room : ℕ) (e : TExpr) (from rest : Lexemes) → Spells limits room 5 e from rest → operators e ≤ limits.operators → Stops 6 rest → part_at limits room from ≡ Ok (e, rest)
  unfolding part_at
  part_read room e from rest d few stops =
      let n : ℕ = limits.operators - operators e in
      let inner : level_at limits 5 room limits.operators from ≡ Ok (e, n, rest) = goes_on d (lower 5 6 rest (omega arith) stops) n limits.operators (omega arith)
      ∙ stopped 5 room e n rest (stops.no_operator 5 (omega arith)) in
      rw inner refl

  pub whole_read : {e : TExpr} {from rest : Lexemes} → SpellsWhole limits e from rest → Stops 6 rest → whole_at limits from ≡ Ok (e, rest)
  unfolding whole_at
  whole_read {e = e} {from = from} {rest = rest} d stops = part_read limits.brackets e from rest d.spelled d.few stops
