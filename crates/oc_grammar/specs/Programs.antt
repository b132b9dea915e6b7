-- Which programs the tokens spell.
use Rattle.std.specs.Prelude.{ℕ, ℤ, Bool, true, false, List, [], ◌∷◌, ◌++◌, Option, Some, None}
use Rattle.oc_tree.specs.Names.{Text, NameLists}
use Rattle.oc_tree.specs.Tree.{TBlock, TFunction, TProgram}
use Rattle.oc_tree.specs.declared.tree.Scalar.{Scalar}
use Rattle.oc_tree.specs.declared.tree.ValueKind.{ValueKind}
use Rattle.oc_tree.specs.declared.tree.Passing.{Passing}
use Rattle.oc_tree.specs.declared.tree.Passing.TheVariants as passings
use Rattle.oc_tree.specs.declared.tree.Param.{Param}
use Rattle.oc_tree.specs.declared.tree.NvDecl.{NvDecl}
use Rattle.oc_tree.specs.declared.tree.DeclKind.{DeclKind}
use Rattle.oc_tree.specs.declared.tree.DeclKind.TheVariants as decls
use Rattle.oc_tree.specs.declared.tree.Decl.{Decl}
use Rattle.oc_lex.specs.declared.token.Word.TheVariants as words
use Rattle.oc_lex.specs.declared.token.Mark.TheVariants as marks
use Rattle.oc_grammar.specs.Limits.{Limits}
use Rattle.oc_grammar.specs.Lexemes.{Lexemes, front_line, last_line}
use Rattle.oc_grammar.specs.Fronts.{Named, Keyword, Sign}
use Rattle.oc_grammar.specs.Statements.{SpellsScalar, SpellsArray, SpellsType, SpellsConst, Position, SpellsBlock}

-- ---- functions

-- the tokens spell how a parameter is passed: nothing, `&` or `&mut`
pub data SpellsPassing : Passing → Lexemes → Lexemes → Type 0 where
  itself : {rest : Lexemes} → SpellsPassing passings.Value rest rest
  shared_ref : {from rest : Lexemes}
      → Sign marks.Ampersand from rest → SpellsPassing passings.Shared from rest
  mutable_ref : {from a rest : Lexemes}
      → Sign marks.Ampersand from a → Keyword words.Mutable a rest
      → SpellsPassing passings.Mutable from rest

-- the tokens spell a parameter
pub data SpellsParam : Param → Lexemes → Lexemes → Type 0 where
  a_param : {x : Text} {p : Passing} {k : ValueKind} {from a b c rest : Lexemes}
      → Named x from a → Sign marks.Colon a b → SpellsPassing p b c → SpellsType k c rest
      → SpellsParam (record { name = x; passing = p; kind = k }) from rest

-- the tokens spell the parameters of a function, behind the `(` or a comma, up to and with the `)`
pub data SpellsParams : List Param → Lexemes → Lexemes → Type 0 where
  no_param : {from rest : Lexemes} → Sign marks.CloseRound from rest → SpellsParams [] from rest
  last_param : {p : Param} {from a rest : Lexemes}
      → SpellsParam p from a → Sign marks.CloseRound a rest → SpellsParams (p ∷ []) from rest
  further_params : {p : Param} {ps : List Param} {from a b rest : Lexemes}
      → SpellsParam p from a → Sign marks.Comma a b → SpellsParams ps b rest
      → SpellsParams (p ∷ ps) from rest

-- the tokens spell the type of a function's result, or there is none
pub data SpellsResult : Option Scalar → Lexemes → Lexemes → Type 0 where
  no_result : {rest : Lexemes} → SpellsResult None rest rest
  a_result : {s : Scalar} {from a rest : Lexemes}
      → Sign marks.Arrow from a → SpellsScalar s a rest → SpellsResult (Some s) from rest

-- the tokens spell a function, whose body is a block inside none
pub data SpellsFunction (limits : Limits) : TFunction → Position → Position → Type 0 where
  a_function : {n b : ℕ} {f : Text} {ps : List Param} {r : Option Scalar} {t : TBlock}
      {from a c d e g : Lexemes} {q : Position}
      → Keyword words.Function from a → Named f a c → Sign marks.OpenRound c d → SpellsParams ps d e
      → SpellsResult r e g → SpellsBlock limits limits.blocks t (n, b, g) q
      → SpellsFunction limits (record
      { name = f; line = front_line from; params = ps; result = r; body = t }) (n, b, from) q

-- ---- declarations

-- the tokens spell so many nonvolatile words, and whether they are an array
pub data SpellsCells : ℕ → Bool → Lexemes → Lexemes → Type 0 where
  one_cell : {from rest : Lexemes} → Keyword words.Int from rest → SpellsCells 1 false from rest
  array_cells : {n : ℕ} {from rest : Lexemes}
      → SpellsArray n from rest → SpellsCells n true from rest

-- the tokens spell a nonvolatile variable
pub data SpellsNv : Text → NvDecl → Lexemes → Lexemes → Type 0 where
  an_nv : {x : Text} {n : ℕ} {array : Bool} {i : ℤ} {from a b c d e f rest : Lexemes}
      → Keyword words.Nonvolatile from a → Named x a b → Sign marks.Colon b c
      → SpellsCells n array c d → Sign marks.Assign d e → SpellsConst i e f
      → Sign marks.Semicolon f rest
      → SpellsNv x (record { words = n; array = array; initial = i }) from rest

-- ---- programs

-- the order of declarations, with one more
abbrev pub declared : DeclKind → ℕ → List Decl → List Decl
declared kind line order = order ++ record { kind = kind; line = line } ∷ []

-- the program with one more sensor
abbrev pub with_sensor : ℕ → Text → TProgram → TProgram
with_sensor line x p = record p {
  names = record p.names { sensors = p.names.sensors ++ x ∷ [] };
  order = declared decls.Sensor line p.order;
}

-- the program with one more port
abbrev pub with_port : ℕ → Text → TProgram → TProgram
with_port line x p = record p {
  names = record p.names { ports = p.names.ports ++ x ∷ [] };
  order = declared decls.Port line p.order;
}

-- the program with one more nonvolatile variable
abbrev pub with_nv : ℕ → Text → NvDecl → TProgram → TProgram
with_nv line x d p = record p {
  names = record p.names { nvs = p.names.nvs ++ x ∷ [] };
  nv = p.nv ++ d ∷ [];
  order = declared decls.Nv line p.order;
}

-- the program with one more function
abbrev pub with_function : TFunction → TProgram → TProgram
with_function f p = record p {
  functions = p.functions ++ f ∷ [];
  order = declared decls.Function f.line p.order;
}

-- the tokens between two places spell a declaration, which makes the first program the second
pub data SpellsItem (limits : Limits) : TProgram → Position → TProgram → Position → Type 0 where
  sensor_item : {p : TProgram} {n b : ℕ} {x : Text} {from a c rest : Lexemes}
      → Keyword words.Sensor from a → Named x a c → Sign marks.Semicolon c rest
      → SpellsItem limits p (n, b, from) (with_sensor (front_line from) x p) (n, b, rest)
  port_item : {p : TProgram} {n b : ℕ} {x : Text} {from a c rest : Lexemes}
      → Keyword words.Port from a → Named x a c → Sign marks.Semicolon c rest
      → SpellsItem limits p (n, b, from) (with_port (front_line from) x p) (n, b, rest)
  nv_item : {p : TProgram} {n b : ℕ} {x : Text} {d : NvDecl} {from rest : Lexemes}
      → SpellsNv x d from rest
      → SpellsItem limits p (n, b, from) (with_nv (front_line from) x d p) (n, b, rest)
  function_item : {p : TProgram} {f : TFunction} {x y : Position}
      → SpellsFunction limits f x y → SpellsItem limits p x (with_function f p) y

-- the tokens from a place to the end spell declarations, which make the first program the second
pub data SpellsItems (limits : Limits) : TProgram → Position → TProgram → Type 0 where
  no_item : {p : TProgram} {n b : ℕ} → SpellsItems limits p (n, b, []) p
  an_item : {p q r : TProgram} {x y : Position}
      → SpellsItem limits p x q y → SpellsItems limits q y r → SpellsItems limits p x r

-- no sensor, port or nonvolatile variable
abbrev pub no_names : NameLists
no_names = record { sensors = []; ports = []; nvs = [] }

-- a program that declares nothing, with the line of the last token
abbrev pub empty_program : ℕ → TProgram
empty_program line =
    record { names = no_names; nv = []; functions = []; order = []; last_line = line }

-- the tokens spell the program, within the limits
abbrev pub SpellsProgram : Limits → TProgram → Lexemes → Type 0
SpellsProgram limits p tokens =
    SpellsItems limits (empty_program (last_line tokens)) (1, 1, tokens) p
