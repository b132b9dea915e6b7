-- Which expressions the tokens spell.
use Rattle.std.specs.Prelude.{◌≢◌, ℕ, suc, ℤ, ◌+◌, ◌≤◌, true, false}
use Rattle.oc_tree.specs.Names.{Text}
use Rattle.oc_tree.specs.Tree.{TExpr, number, truth, variable, index, deref, unary, binary, sensed, called, TArg, value, shared, mutable, call, TArgs, no_args, more_args}
use Rattle.oc_tree.specs.declared.tree.UnaryOp.TheVariants as prefixes
use Rattle.oc_tree.specs.declared.tree.BinaryOp.{BinaryOp}
use Rattle.oc_lex.specs.declared.token.Word.TheVariants as words
use Rattle.oc_lex.specs.declared.token.Mark.TheVariants as marks
use Rattle.oc_grammar.specs.Limits.{Limits}
use Rattle.oc_grammar.specs.Lexemes.{Lexemes}
use Rattle.oc_grammar.specs.Fronts.{Named, Numeral, Keyword, Sign, Infix}

-- how many binary operators an expression has; those in a call's arguments count there
abbrev pub operators : TExpr → ℕ
operators (index x e) = operators e
operators (unary op e) = operators e
operators (binary op a b) = operators a + suc (operators b)
operators _ = 0

-- The levels of expressions: 0 is a unary, 1 a product, 2 a sum, 3 a comparison, 4 joined by `&&`,
-- 5 joined by `||`.
--
-- Spells room level e from rest: the tokens of `from` up to where `rest` begins spell the
-- expression, at this level, with at most `room` brackets and prefix operators in one another. A
-- pair of parentheses leaves no node. The arguments of a call stand in its bracket, and each is a
-- whole one for its binary operators.
mutual
  pub data Spells (limits : Limits) : ℕ → ℕ → TExpr → Lexemes → Lexemes → Type 0 where
    -- a number
    literal : {room : ℕ} {v : ℤ} {from rest : Lexemes}
        → Numeral v from rest → Spells limits room 0 (number v) from rest
    -- `true`
    yes : {room : ℕ} {from rest : Lexemes}
        → Keyword words.True from rest → Spells limits room 0 (truth true) from rest
    -- `false`
    no : {room : ℕ} {from rest : Lexemes}
        → Keyword words.False from rest → Spells limits room 0 (truth false) from rest
    -- a variable by its name
    name : {room : ℕ} {x : Text} {from rest : Lexemes}
        → Named x from rest → Spells limits room 0 (variable x) from rest
    -- `a[e]`
    element : {room : ℕ} {x : Text} {e : TExpr} {from a b c rest : Lexemes}
        → Named x from a → Sign marks.OpenSquare a b → Spells limits room 5 e b c
        → Sign marks.CloseSquare c rest
        → Spells limits (suc room) 0 (index x e) from rest
    -- `*x`
    target : {room : ℕ} {x : Text} {from a rest : Lexemes}
        → Sign marks.Star from a → Named x a rest → Spells limits room 0 (deref x) from rest
    -- `(e)`
    parens : {room : ℕ} {e : TExpr} {from a b rest : Lexemes}
        → Sign marks.OpenRound from a → Spells limits room 5 e a b → Sign marks.CloseRound b rest
        → Spells limits (suc room) 0 e from rest
    -- `-e`
    minus : {room : ℕ} {e : TExpr} {from a rest : Lexemes}
        → Sign marks.Minus from a → Spells limits room 0 e a rest
        → Spells limits (suc room) 0 (unary prefixes.Neg e) from rest
    -- `!e`
    negation : {room : ℕ} {e : TExpr} {from a rest : Lexemes}
        → Sign marks.Not from a → Spells limits room 0 e a rest
        → Spells limits (suc room) 0 (unary prefixes.Not e) from rest
    -- `sense(s)`
    input : {room : ℕ} {s : Text} {from a b c rest : Lexemes}
        → Keyword words.Sense from a → Sign marks.OpenRound a b → Named s b c
        → Sign marks.CloseRound c rest
        → Spells limits (suc room) 0 (sensed s) from rest
    -- `f(..)`
    result : {room : ℕ} {f : Text} {args : TArgs} {from a b rest : Lexemes}
        → Named f from a → Sign marks.OpenRound a b → SpellsArgs limits room args b rest
        → Spells limits (suc room) 0 (called (call f args)) from rest
    -- an expression of a tighter level is one of the next
    one : {room level : ℕ} {e : TExpr} {from rest : Lexemes}
        → Spells limits room level e from rest → Spells limits room (suc level) e from rest
    -- operators of one level group from the left
    more : {room level : ℕ} {op : BinaryOp} {l r : TExpr} {from a b rest : Lexemes}
        → suc level ≢ 3 → Spells limits room (suc level) l from a → Infix op (suc level) a b
        → Spells limits room level r b rest
        → Spells limits room (suc level) (binary op l r) from rest
    -- a comparison has two operands
    compare : {room : ℕ} {op : BinaryOp} {l r : TExpr} {from a b rest : Lexemes}
        → Spells limits room 2 l from a → Infix op 3 a b → Spells limits room 2 r b rest
        → Spells limits room 3 (binary op l r) from rest

  -- the tokens spell an argument, with at most so many brackets and prefix operators in one another
  pub data SpellsArg (limits : Limits) : ℕ → TArg → Lexemes → Lexemes → Type 0 where
    -- an expression
    by_value : {room : ℕ} {e : TExpr} {from rest : Lexemes}
        → Spells limits room 5 e from rest → operators e ≤ limits.operators
        → SpellsArg limits room (value e) from rest
    -- `&x`
    by_shared : {room : ℕ} {x : Text} {from a rest : Lexemes}
        → Sign marks.Ampersand from a → Named x a rest → SpellsArg limits room (shared x) from rest
    -- `&mut x`
    by_mutable : {room : ℕ} {x : Text} {from a b rest : Lexemes}
        → Sign marks.Ampersand from a → Keyword words.Mutable a b → Named x b rest
        → SpellsArg limits room (mutable x) from rest

  -- the tokens spell the arguments of a call, behind the `(` or a comma, up to and with the `)`
  pub data SpellsArgs (limits : Limits) : ℕ → TArgs → Lexemes → Lexemes → Type 0 where
    closed : {room : ℕ} {from rest : Lexemes}
        → Sign marks.CloseRound from rest → SpellsArgs limits room no_args from rest
    last : {room : ℕ} {arg : TArg} {from a rest : Lexemes}
        → SpellsArg limits room arg from a → Sign marks.CloseRound a rest
        → SpellsArgs limits room (more_args arg no_args) from rest
    further : {room : ℕ} {arg : TArg} {args : TArgs} {from a b rest : Lexemes}
        → SpellsArg limits room arg from a → Sign marks.Comma a b
        → SpellsArgs limits room args b rest
        → SpellsArgs limits room (more_args arg args) from rest

-- the tokens spell a whole expression, within the limits of its brackets and operators
pub record SpellsWhole (limits : Limits) (e : TExpr) (from rest : Lexemes) : Type 0 where
  pub spelled : Spells limits limits.brackets 5 e from rest
  pub few : operators e ≤ limits.operators
