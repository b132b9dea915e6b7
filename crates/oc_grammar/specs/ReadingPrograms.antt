-- Reading programs.
use Rattle.std.specs.Prelude.{ℕ, zero, suc, Bool, true, false, List, [], ◌∷◌, length, Option, Some, None, Result, Ok}
use Rattle.oc_tree.specs.Names.{Text}
use Rattle.oc_tree.specs.Tree.{TFunction, TProgram}
use Rattle.oc_tree.specs.declared.tree.Scalar.{Scalar}
use Rattle.oc_tree.specs.declared.tree.Scalar.TheVariants as scalars
use Rattle.oc_tree.specs.declared.tree.Passing.{Passing}
use Rattle.oc_tree.specs.declared.tree.Passing.TheVariants as passings
use Rattle.oc_tree.specs.declared.tree.Param.{Param}
use Rattle.oc_tree.specs.declared.tree.NvDecl.{NvDecl}
use Rattle.oc_lex.specs.declared.token.Word.TheVariants as words
use Rattle.oc_lex.specs.declared.token.Mark.TheVariants as marks
use Rattle.oc_grammar.specs.Limits.{Limits}
use Rattle.oc_grammar.specs.Lexemes.{Lexeme, Lexemes, keyword, sign, last_line}
use Rattle.oc_grammar.specs.Reading.{Fault, Read, ◌>>=◌, with_some, refuse, refuse_last, next_at, strip_mark, expect_mark, name_at, take_word, listed_by}
use Rattle.oc_grammar.specs.Programs.{with_sensor, with_port, with_nv, with_function, empty_program}
use Rattle.oc_grammar.specs.ReadingStatements.{array_at, type_at, const_at, Reader, block_at}

-- ---- functions

-- passing by `&mut`, or by `&`
abbrev pub reference : Bool → Passing
reference true = passings.Mutable
reference false = passings.Shared

-- passing by `&mut` or by `&`, and the tokens behind
abbrev pub reference_to : Bool × Lexemes → Passing × Lexemes
reference_to m = (reference m.0, m.1)

-- how a parameter is passed, before its type
unfoldable pub passing_at : Lexemes → Passing × Lexemes
passing_at ts =
    with_some (strip_mark marks.Ampersand ts) (passings.Value, ts)
    (λ us. reference_to (take_word words.Mutable us))

-- a parameter of this name, behind how it is passed
abbrev pub param_from : Text → Passing × Lexemes → Read Param
param_from x p = type_at p.1 >>= λ k. Ok (record { name = x; passing = p.0; kind = k.0 }, k.1)

-- a parameter of a function
unfoldable pub param_at : Lexemes → Read Param
param_at ts = do
  x ← name_at ts
  us ← expect_mark marks.Colon x.1
  param_from x.0 (passing_at us)

-- the parameters of a function, behind the `(` and up to the `)`
unfoldable pub params_at : Lexemes → Read (List Param)
params_at ts = listed_by param_at (suc (length ts)) ts

-- the type of a scalar, which begins with this token
abbrev pub scalar_from : Lexeme → Lexemes → Read Scalar
scalar_from (keyword line words.Int) ts = Ok (scalars.Int, ts)
scalar_from (keyword line words.Bool) ts = Ok (scalars.Bool, ts)
scalar_from _ ts = refuse_last ts

-- the type of a scalar
unfoldable pub scalar_at : Lexemes → Read Scalar
scalar_at ts = next_at ts >>= λ x. scalar_from x.0 x.1

-- the type of a function's result, if there is an `->`
unfoldable pub result_at : Lexemes → Read (Option Scalar)
result_at ts =
    with_some (strip_mark marks.Arrow ts) (Ok (None, ts))
    (λ us. scalar_at us >>= λ s. Ok (Some s.0, s.1))

-- a function, behind the `fn`, which has this line
unfoldable pub function_at : Limits → ℕ → Reader TFunction
function_at limits line n b ts = do
  f ← name_at ts
  us ← expect_mark marks.OpenRound f.1
  ps ← params_at us
  r ← result_at ps.1
  t ← block_at limits limits.blocks n b r.1
  Ok (record { name = f.0; line = line; params = ps.0; result = r.0; body = t.0 }, t.1, t.2, t.3)

-- ---- declarations

-- the words of a nonvolatile variable, by the token that begins their type
abbrev pub cells_from : Lexeme → Lexemes → Read (ℕ × Bool)
cells_from (keyword line words.Int) ts = Ok ((1, false), ts)
cells_from (sign line marks.OpenSquare) ts = array_at ts >>= λ n. Ok ((n.0, true), n.1)
cells_from _ ts = refuse_last ts

-- the words of a nonvolatile variable, and whether they are an array
unfoldable pub cells_at : Lexemes → Read (ℕ × Bool)
cells_at ts = next_at ts >>= λ x. cells_from x.0 x.1

-- a nonvolatile variable, behind the `nv`
unfoldable pub nv_at : Lexemes → Read (Text × NvDecl)
nv_at ts = do
  x ← name_at ts
  us ← expect_mark marks.Colon x.1
  c ← cells_at us
  us ← expect_mark marks.Assign c.1
  i ← const_at us
  us ← expect_mark marks.Semicolon i.1
  Ok ((x.0, record { words = c.0.0; array = c.0.1; initial = i.0 }), us)

-- the name of a sensor or a port, and the `;`
unfoldable pub declared_at : Lexemes → Read Text
declared_at ts = do
  x ← name_at ts
  us ← expect_mark marks.Semicolon x.1
  Ok (x.0, us)

-- ---- programs

-- the program with the item that begins with this token
abbrev pub item_by : Limits → TProgram → Lexeme → Reader TProgram
item_by limits p (keyword line words.Sensor) n b ts =
    declared_at ts >>= λ x. Ok (with_sensor line x.0 p, n, b, x.1)
item_by limits p (keyword line words.Port) n b ts =
    declared_at ts >>= λ x. Ok (with_port line x.0 p, n, b, x.1)
item_by limits p (keyword line words.Nonvolatile) n b ts =
    nv_at ts >>= λ x. Ok (with_nv line x.0.0 x.0.1 p, n, b, x.1)
item_by limits p (keyword line words.Function) n b ts =
    function_at limits line n b ts >>= λ f. Ok (with_function f.0 p, f.1, f.2, f.3)
item_by limits p _ n b ts = refuse_last ts

-- the program with the next declaration or function
unfoldable pub item_at : Limits → TProgram → Reader TProgram
item_at limits p n b ts = next_at ts >>= λ x. item_by limits p x.0 n b x.1

-- the program with at most so many declarations and functions more
unfoldable pub items_by : Limits → ℕ → TProgram → ℕ → ℕ → Lexemes → Result TProgram Fault
items_by limits zero p n b ts = refuse ts
items_by limits (suc k) p n b [] = Ok p
items_by limits (suc k) p n b (t ∷ ts) =
    item_at limits p n b (t ∷ ts) >>= λ x. items_by limits k x.0 x.1 x.2 x.3

-- the program with all declarations and functions up to the end
unfoldable pub items_at : Limits → TProgram → ℕ → ℕ → Lexemes → Result TProgram Fault
items_at limits p n b ts = items_by limits (suc (length ts)) p n b ts

-- the program that tokens spell, within these limits
unfoldable pub program_at : Limits → Lexemes → Result TProgram Fault
program_at limits tokens = items_at limits (empty_program (last_line tokens)) 1 1 tokens
