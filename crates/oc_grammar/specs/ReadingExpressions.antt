-- Reading expressions.
use Rattle.std.specs.Prelude.{ℕ, zero, suc, Bool, true, false, List, length, Result, Ok, ◌==◌, if◌then◌else◌}
use Rattle.oc_tree.specs.Names.{Text}
use Rattle.oc_tree.specs.Tree.{TExpr, number, truth, variable, index, deref, unary, binary, sensed, called, TArg, value, shared, mutable, call}
use Rattle.oc_tree.specs.View.{args_of}
use Rattle.oc_tree.specs.declared.tree.UnaryOp.{UnaryOp}
use Rattle.oc_tree.specs.declared.tree.UnaryOp.TheVariants as prefixes
use Rattle.oc_lex.specs.declared.token.Word.TheVariants as words
use Rattle.oc_lex.specs.declared.token.Mark.TheVariants as marks
use Rattle.oc_grammar.specs.Limits.{Limits, operators_depth, brackets_depth}
use Rattle.oc_grammar.specs.Lexemes.{Lexeme, Lexemes, named, numeral, keyword, sign}
use Rattle.oc_grammar.specs.Reading.{Fault, Read, ◌>>=◌, with_some, refuse_last, too_deep, next_at, strip_mark, expect_mark, name_at, take_word, operator_front, listed_by}

-- the tree, how many more binary operators the whole expression may have, and the tokens behind
abbrev pub ReadExpr : Type 0
ReadExpr = Result (TExpr × ℕ × Lexemes) Fault

-- one operator less, or a fault at the operator before
unfoldable pub spend_at : ℕ → Lexemes → Result ℕ Fault
spend_at zero ts = too_deep operators_depth ts
spend_at (suc n) ts = Ok n

-- what goes on behind a tree of this level, at most k operators
unfoldable pub chain : ℕ → (ℕ → Lexemes → ReadExpr) → ℕ → TExpr → ℕ → Lexemes → ReadExpr
chain level part zero e n ts = Ok (e, n, ts)
chain level part (suc k) e n ts =
    with_some (operator_front level ts) (Ok (e, n, ts))
    (λ o. spend_at n o.1 >>= λ m. part m o.1 >>= λ x. chain level part k (binary o.0 e x.0) x.1 x.2)

-- a comparison goes on once, another level as long as there are operators
abbrev pub most : ℕ → Lexemes → ℕ
most level ts = if level == 3 then 1 else length ts

-- an expression up to this level, where `lowest` reads a unary
unfoldable pub levels : ℕ → (ℕ → Lexemes → ReadExpr) → ℕ → Lexemes → ReadExpr
levels zero lowest n ts = lowest n ts
levels (suc level) lowest n ts =
    levels level lowest n ts
    >>= λ x. chain (suc level) (levels level lowest) (most (suc level) x.2) x.0 x.1 x.2

-- ---- a unary, where the readings of what is inside are given

-- `-e` or `!e`, behind its operator
abbrev pub prefix_by : (ℕ → Lexemes → ReadExpr) → UnaryOp → ℕ → Lexemes → ReadExpr
prefix_by inner op n ts = inner n ts >>= λ x. Ok (unary op x.0, x.1, x.2)

-- `(e)`, behind the `(`
abbrev pub parens_by : (ℕ → Lexemes → ReadExpr) → ℕ → Lexemes → ReadExpr
parens_by inner n ts =
    inner n ts >>= λ x. expect_mark marks.CloseRound x.2 >>= λ us. Ok (x.0, x.1, us)

-- `a[e]`, behind the `[`
abbrev pub element_by : (ℕ → Lexemes → ReadExpr) → Text → ℕ → Lexemes → ReadExpr
element_by inner a n ts =
    inner n ts >>= λ x. expect_mark marks.CloseSquare x.2 >>= λ us. Ok (index a x.0, x.1, us)

-- `f(..)`, behind the `(`
abbrev pub result_by : (Lexemes → Read (List TArg)) → Text → ℕ → Lexemes → ReadExpr
result_by args f n ts = args ts >>= λ x. Ok (called (call f (args_of x.0)), n, x.1)

-- a variable, an element or a call, behind the name
abbrev pub named_by : (ℕ → Lexemes → ReadExpr) → (Lexemes → Read (List TArg)) → Text → ℕ → Lexemes
    → ReadExpr
named_by inner args x n ts =
    with_some (strip_mark marks.OpenRound ts)
    (with_some (strip_mark marks.OpenSquare ts) (Ok (variable x, n, ts)) (element_by inner x n))
    (result_by args x n)

-- `sense(s)`, behind the word
abbrev pub input_by : (Lexemes → Read Text) → ℕ → Lexemes → ReadExpr
input_by sensor n ts =
    expect_mark marks.OpenRound ts >>= λ us. sensor us >>= λ x. Ok (sensed x.0, n, x.1)

-- a unary that begins with this token
abbrev pub unary_by : (prefixed inner : ℕ → Lexemes → ReadExpr) → (Lexemes → Read (List TArg))
    → (Lexemes → Read Text) → Lexeme → ℕ → Lexemes → ReadExpr
unary_by prefixed inner args sensor (numeral line v) n ts = Ok (number v, n, ts)
unary_by prefixed inner args sensor (named line x) n ts = named_by inner args x n ts
unary_by prefixed inner args sensor (keyword line words.True) n ts = Ok (truth true, n, ts)
unary_by prefixed inner args sensor (keyword line words.False) n ts = Ok (truth false, n, ts)
unary_by prefixed inner args sensor (keyword line words.Sense) n ts = input_by sensor n ts
unary_by prefixed inner args sensor (sign line marks.Star) n ts =
    name_at ts >>= λ x. Ok (deref x.0, n, x.1)
unary_by prefixed inner args sensor (sign line marks.OpenRound) n ts = parens_by inner n ts
unary_by prefixed inner args sensor (sign line marks.Minus) n ts =
    prefix_by prefixed prefixes.Neg n ts
unary_by prefixed inner args sensor (sign line marks.Not) n ts =
    prefix_by prefixed prefixes.Not n ts
unary_by prefixed inner args sensor _ n ts = refuse_last ts

-- an expression that is a whole one for its binary operators
abbrev pub whole_by : Limits → (ℕ → Lexemes → ReadExpr) → Lexemes → Read TExpr
whole_by limits inner ts = inner limits.operators ts >>= λ x. Ok (x.0, x.2)

-- `&x`, or `&mut x`
abbrev pub reference : Bool → Text → TArg
reference true x = mutable x
reference false x = shared x

-- an argument by reference, behind the `&` and the `mut` that may stand there
abbrev pub reference_by : Bool × Lexemes → Read TArg
reference_by m = name_at m.1 >>= λ x. Ok (reference m.0 x.0, x.1)

-- an argument of a call
abbrev pub arg_by : Limits → (ℕ → Lexemes → ReadExpr) → Lexemes → Read TArg
arg_by limits inner ts =
    with_some (strip_mark marks.Ampersand ts)
    (whole_by limits inner ts >>= λ x. Ok (value x.0, x.1))
    (λ us. reference_by (take_word words.Mutable us))

-- the arguments of a call, behind the `(` and up to the `)`
abbrev pub args_by : Limits → (ℕ → Lexemes → ReadExpr) → Lexemes → Read (List TArg)
args_by limits inner ts = listed_by (arg_by limits inner) (suc (length ts)) ts

-- the sensor's name, behind the `(` and up to the `)`
unfoldable pub sensor_at : Lexemes → Read Text
sensor_at ts = name_at ts >>= λ x. expect_mark marks.CloseRound x.1 >>= λ us. Ok (x.0, us)

-- ---- with this room for brackets and prefix operators

-- a unary, with this room for brackets and prefix operators
unfoldable pub unary_at : Limits → ℕ → ℕ → Lexemes → ReadExpr
unary_at limits zero n ts =
    next_at ts
    >>= λ x. unary_by (λ n us. too_deep brackets_depth us) (λ n us. too_deep brackets_depth us)
    (λ us. too_deep brackets_depth us) (λ us. too_deep brackets_depth us) x.0 n x.1
unary_at limits (suc room) n ts =
    next_at ts >>= λ x. unary_by (unary_at limits room) (levels 5 (unary_at limits room))
    (args_by limits (levels 5 (unary_at limits room))) sensor_at x.0 n x.1

-- an expression up to this level, with this room for brackets and prefix operators
abbrev pub level_at : Limits → ℕ → ℕ → ℕ → Lexemes → ReadExpr
level_at limits level room n ts = levels level (unary_at limits room) n ts

-- a whole expression inside brackets that leave so much room
unfoldable pub part_at : Limits → ℕ → Lexemes → Read TExpr
part_at limits room ts = whole_by limits (level_at limits 5 room) ts

-- a whole expression
unfoldable pub whole_at : Limits → Lexemes → Read TExpr
whole_at limits ts = part_at limits limits.brackets ts

-- ---- the parts of a unary

-- the operand of a prefix operator, which takes a bit of the room
unfoldable pub prefixed_at : Limits → ℕ → ℕ → Lexemes → ReadExpr
prefixed_at limits zero n ts = too_deep brackets_depth ts
prefixed_at limits (suc room) n ts = unary_at limits room n ts

-- the expression in brackets, which take a bit of the room
unfoldable pub inner_at : Limits → ℕ → ℕ → Lexemes → ReadExpr
inner_at limits zero n ts = too_deep brackets_depth ts
inner_at limits (suc room) n ts = level_at limits 5 room n ts

-- the arguments of a call, with this room for brackets and prefix operators inside
unfoldable pub args_at : Limits → ℕ → Lexemes → Read (List TArg)
args_at limits room ts = args_by limits (level_at limits 5 room) ts

-- an argument of a call, with this room for brackets and prefix operators inside
unfoldable pub arg_at : Limits → ℕ → Lexemes → Read TArg
arg_at limits room ts = arg_by limits (level_at limits 5 room) ts

-- the arguments of a call, whose bracket takes a bit of the room
unfoldable pub inner_args_at : Limits → ℕ → Lexemes → Read (List TArg)
inner_args_at limits zero ts = too_deep brackets_depth ts
inner_args_at limits (suc room) ts = args_at limits room ts

-- the sensor of an input, whose bracket takes a bit of the room
unfoldable pub inner_sensor_at : ℕ → Lexemes → Read Text
inner_sensor_at zero ts = too_deep brackets_depth ts
inner_sensor_at (suc room) ts = sensor_at ts

-- a variable, an element or a call, behind the name, with this room for brackets
unfoldable pub named_at : Limits → ℕ → Text → ℕ → Lexemes → ReadExpr
named_at limits room x n ts = named_by (inner_at limits room) (inner_args_at limits room) x n ts

-- the reading of a unary, by its first token
unfoldable pub unary_here : Limits → ℕ → ℕ → Lexemes → ReadExpr
unary_here limits room n ts =
    next_at ts >>= λ x. unary_by (prefixed_at limits room) (inner_at limits room)
    (inner_args_at limits room) (inner_sensor_at room) x.0 n x.1
