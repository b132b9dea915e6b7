-- Which statements the tokens spell.
use Rattle.std.specs.Prelude.{ℕ, suc, ℤ, unsigned_abs, Bool, true, false, Option, Some, None}
use Rattle.std.specs.Int.{w32, int_wrapping_neg}
use Rattle.oc_tree.specs.Names.{Text}
use Rattle.oc_tree.specs.Tree.{TExpr, truth, sensed, called, call, TArgs, TRight, right_value, right_sense, right_call, TKind, let_to, let_array, assign, assign_index}
use Rattle.oc_tree.specs.Tree.{assign_deref, if_else, for_in, while_do, call_only, sense_only, emit, fresh, consistent, return, TElse, no_else, else_do, TStmt, stmt, TBlock, block}
use Rattle.oc_tree.specs.Tree.{TStmts, no_stmts, more}
use Rattle.oc_tree.specs.declared.tree.Scalar.{Scalar}
use Rattle.oc_tree.specs.declared.tree.Scalar.TheVariants as scalars
use Rattle.oc_tree.specs.declared.tree.ValueKind.{ValueKind}
use Rattle.oc_tree.specs.declared.tree.ValueKind.TheVariants as types
use Rattle.oc_lex.specs.declared.token.Word.TheVariants as words
use Rattle.oc_lex.specs.declared.token.Mark.TheVariants as marks
use Rattle.oc_grammar.specs.Limits.{Limits}
use Rattle.oc_grammar.specs.Lexemes.{Lexemes, front_line}
use Rattle.oc_grammar.specs.Fronts.{Named, Numeral, Keyword, Sign}
use Rattle.oc_grammar.specs.Expressions.{SpellsArgs, SpellsWhole}

-- ---- types and constants

-- the tokens spell the type of a scalar
pub data SpellsScalar : Scalar → Lexemes → Lexemes → Type 0 where
  int_scalar : {from rest : Lexemes}
      → Keyword words.Int from rest → SpellsScalar scalars.Int from rest
  bool_scalar : {from rest : Lexemes}
      → Keyword words.Bool from rest → SpellsScalar scalars.Bool from rest

-- the tokens spell the type of an array of so many words
pub data SpellsArray : ℕ → Lexemes → Lexemes → Type 0 where
  an_array : {n : ℤ} {from a b c d rest : Lexemes}
      → Sign marks.OpenSquare from a → Keyword words.Int a b → Sign marks.Semicolon b c
      → Numeral n c d → Sign marks.CloseSquare d rest
      → SpellsArray (unsigned_abs n) from rest

-- the tokens spell a type
pub data SpellsType : ValueKind → Lexemes → Lexemes → Type 0 where
  int_type : {from rest : Lexemes} → Keyword words.Int from rest → SpellsType types.Int from rest
  bool_type : {from rest : Lexemes} → Keyword words.Bool from rest → SpellsType types.Bool from rest
  array_type : {n : ℕ} {from rest : Lexemes}
      → SpellsArray n from rest → SpellsType (types.Array n) from rest

-- a number with the other sign
abbrev pub opposite : ℤ → ℤ
opposite z = int_wrapping_neg w32 z

-- the tokens spell a constant: a number, perhaps after a `-`
pub data SpellsConst : ℤ → Lexemes → Lexemes → Type 0 where
  positive : {z : ℤ} {from rest : Lexemes} → Numeral z from rest → SpellsConst z from rest
  negative : {z : ℤ} {from a rest : Lexemes}
      → Sign marks.Minus from a → Numeral z a rest → SpellsConst (opposite z) from rest

-- ---- statements without blocks

-- an expression as a right side; one that is just an input or a call has its own tree
abbrev pub right_of : TExpr → TRight
right_of (sensed s) = right_sense s
right_of (called c) = right_call c
right_of e = right_value e

-- the tokens spell a right side, up to and with the `;`
pub data SpellsRight (limits : Limits) : TRight → Lexemes → Lexemes → Type 0 where
  a_right : {e : TExpr} {from a rest : Lexemes}
      → SpellsWhole limits e from a → Sign marks.Semicolon a rest
      → SpellsRight limits (right_of e) from rest

-- the tokens spell whether a variable may be assigned: `mut` may stand there
pub data SpellsMut : Bool → Lexemes → Lexemes → Type 0 where
  with_mut : {from rest : Lexemes} → Keyword words.Mutable from rest → SpellsMut true from rest
  without_mut : {rest : Lexemes} → SpellsMut false rest rest

-- the tokens spell the type of a variable, which may stand there
pub data SpellsNote : Option ValueKind → Lexemes → Lexemes → Type 0 where
  typed : {k : ValueKind} {from a rest : Lexemes}
      → Sign marks.Colon from a → SpellsType k a rest → SpellsNote (Some k) from rest
  untyped : {rest : Lexemes} → SpellsNote None rest rest

-- the tokens spell a `let` up to its `=`
pub data LetHead : Bool → Text → Option ValueKind → Lexemes → Lexemes → Type 0 where
  let_head : {m : Bool} {x : Text} {k : Option ValueKind} {from a b c d rest : Lexemes}
      → Keyword words.Let from a → SpellsMut m a b → Named x b c → SpellsNote k c d
      → Sign marks.Assign d rest
      → LetHead m x k from rest

-- the tokens spell a statement without blocks, up to and with the `;`
pub data SpellsSimple (limits : Limits) : TKind → Lexemes → Lexemes → Type 0 where
  -- `let x: T = right;`, where `mut` and the type may stand or not
  let_right : {m : Bool} {x : Text} {k : Option ValueKind} {r : TRight} {from a rest : Lexemes}
      → LetHead m x k from a → SpellsRight limits r a rest
      → SpellsSimple limits (let_to m x k r) from rest
  -- `let a: T = [c; n];`, where `mut` and the type may stand or not
  let_fill : {m : Bool} {x : Text} {k : Option ValueKind} {i n : ℤ}
      {from a b c d e f rest : Lexemes}
      → LetHead m x k from a → Sign marks.OpenSquare a b → SpellsConst i b c
      → Sign marks.Semicolon c d → Numeral n d e → Sign marks.CloseSquare e f
      → Sign marks.Semicolon f rest
      → SpellsSimple limits (let_array m x k i (unsigned_abs n)) from rest
  -- `x = right;`
  assigns : {x : Text} {r : TRight} {from a b rest : Lexemes}
      → Named x from a → Sign marks.Assign a b → SpellsRight limits r b rest
      → SpellsSimple limits (assign x r) from rest
  -- `a[e] = right;`
  assigns_index : {x : Text} {i : TExpr} {r : TRight} {from a b c d e rest : Lexemes}
      → Named x from a → Sign marks.OpenSquare a b → SpellsWhole limits i b c
      → Sign marks.CloseSquare c d → Sign marks.Assign d e → SpellsRight limits r e rest
      → SpellsSimple limits (assign_index x i r) from rest
  -- `*x = right;`
  assigns_deref : {x : Text} {r : TRight} {from a b c rest : Lexemes}
      → Sign marks.Star from a → Named x a b → Sign marks.Assign b c → SpellsRight limits r c rest
      → SpellsSimple limits (assign_deref x r) from rest
  -- `f(..);`, where each argument is a whole expression
  calls : {f : Text} {args : TArgs} {from a b c rest : Lexemes}
      → Named f from a → Sign marks.OpenRound a b → SpellsArgs limits limits.brackets args b c
      → Sign marks.Semicolon c rest
      → SpellsSimple limits (call_only (call f args)) from rest
  -- `sense(s);`
  senses : {s : Text} {from a b c d rest : Lexemes}
      → Keyword words.Sense from a → Sign marks.OpenRound a b → Named s b c
      → Sign marks.CloseRound c d → Sign marks.Semicolon d rest
      → SpellsSimple limits (sense_only s) from rest
  -- `emit(p, e);`
  emits : {p : Text} {v : TExpr} {from a b c d e f rest : Lexemes}
      → Keyword words.Emit from a → Sign marks.OpenRound a b → Named p b c → Sign marks.Comma c d
      → SpellsWhole limits v d e → Sign marks.CloseRound e f → Sign marks.Semicolon f rest
      → SpellsSimple limits (emit p v) from rest
  -- `Fresh(x);`
  marks_fresh : {x : Text} {from a b c d rest : Lexemes}
      → Keyword words.Fresh from a → Sign marks.OpenRound a b → Named x b c
      → Sign marks.CloseRound c d → Sign marks.Semicolon d rest
      → SpellsSimple limits (fresh x) from rest
  -- `Consistent(x, n);`
  marks_consistent : {x : Text} {n : ℤ} {from a b c d e f rest : Lexemes}
      → Keyword words.Consistent from a → Sign marks.OpenRound a b → Named x b c
      → Sign marks.Comma c d → Numeral n d e → Sign marks.CloseRound e f
      → Sign marks.Semicolon f rest
      → SpellsSimple limits (consistent x n) from rest
  -- `return e;`
  returns : {v : TExpr} {from a b rest : Lexemes}
      → Keyword words.Return from a → SpellsWhole limits v a b → Sign marks.Semicolon b rest
      → SpellsSimple limits (return v) from rest

-- ---- statements and blocks

-- a place in the tokens: the number of the next statement, that of the next block, and the tokens
-- that are left
abbrev pub Position : Type 0
Position = ℕ × ℕ × Lexemes

-- With at most `room` more blocks in one another, the tokens between two places spell what a
-- statement does.
mutual
  pub data SpellsKind (limits : Limits) : ℕ → TKind → Position → Position → Type 0 where
    -- a statement without blocks
    simple : {room n b : ℕ} {k : TKind} {from rest : Lexemes}
        → SpellsSimple limits k from rest → SpellsKind limits room k (n, b, from) (n, b, rest)
    -- `if e { .. }`, and perhaps an `else`
    if_form : {room n b : ℕ} {c : TExpr} {t : TBlock} {o : TElse} {from a d : Lexemes}
        {p q : Position}
        → Keyword words.If from a → SpellsWhole limits c a d → SpellsBlock limits room t (n, b, d) p
        → SpellsElse limits room o p q
        → SpellsKind limits room (if_else c t o) (n, b, from) q
    -- `for x in c..d { .. }`
    for_form : {room n b : ℕ} {x : Text} {i j : ℤ} {t : TBlock} {from a c d e f g : Lexemes}
        {p : Position}
        → Keyword words.For from a → Named x a c → Keyword words.In c d → SpellsConst i d e
        → Sign marks.Range e f → SpellsConst j f g → SpellsBlock limits room t (n, b, g) p
        → SpellsKind limits room (for_in x i j t) (n, b, from) p
    -- `while e bound n { .. }`
    while_form : {room n b : ℕ} {c : TExpr} {z : ℤ} {t : TBlock} {from a d e f : Lexemes}
        {p : Position}
        → Keyword words.While from a → SpellsWhole limits c a d → Keyword words.Bound d e
        → Numeral z e f → SpellsBlock limits room t (n, b, f) p
        → SpellsKind limits room (while_do c (unsigned_abs z) t) (n, b, from) p
    -- `atomic` and a block has the tree of `if true` and that block
    atomic_form : {room n b : ℕ} {t : TBlock} {from a : Lexemes} {p : Position}
        → Keyword words.Atomic from a → SpellsBlock limits room t (n, b, a) p
        → SpellsKind limits room (if_else (truth true) t no_else) (n, b, from) p

  -- the tokens spell an `else`, or there is none
  pub data SpellsElse (limits : Limits) : ℕ → TElse → Position → Position → Type 0 where
    -- no `else`
    without : {room : ℕ} {p : Position} → SpellsElse limits room no_else p p
    -- `else { .. }`
    otherwise : {room n b : ℕ} {t : TBlock} {from a : Lexemes} {p : Position}
        → Keyword words.Else from a → SpellsBlock limits room t (n, b, a) p
        → SpellsElse limits room (else_do t) (n, b, from) p
    -- an `else if` is an `else` whose block holds that `if`
    else_if : {room n b : ℕ} {s : TStmt} {from a c : Lexemes} {p : Position}
        → Keyword words.Else from a → Keyword words.If a c
        → SpellsStmt limits room s (n, suc b, a) p
        → SpellsElse limits (suc room) (else_do (block b (more s no_stmts))) (n, b, from) p

  -- the tokens spell a statement, which has the next number and the line of its first token
  pub data SpellsStmt (limits : Limits) : ℕ → TStmt → Position → Position → Type 0 where
    statement : {room n b : ℕ} {k : TKind} {from : Lexemes} {p : Position}
        → SpellsKind limits room k (suc n, b, from) p
        → SpellsStmt limits room (stmt n (front_line from) k) (n, b, from) p

  -- the tokens spell a block between its braces, which has the next number
  pub data SpellsBlock (limits : Limits) : ℕ → TBlock → Position → Position → Type 0 where
    braces : {room n b : ℕ} {ss : TStmts} {from a : Lexemes} {p : Position}
        → Sign marks.OpenCurly from a → SpellsStmts limits room ss (n, suc b, a) p
        → SpellsBlock limits (suc room) (block b ss) (n, b, from) p

  -- the tokens spell the statements of a block, behind its `{`, up to and with the `}`
  pub data SpellsStmts (limits : Limits) : ℕ → TStmts → Position → Position → Type 0 where
    end : {room n b : ℕ} {from rest : Lexemes}
        → Sign marks.CloseCurly from rest
        → SpellsStmts limits room no_stmts (n, b, from) (n, b, rest)
    first : {room : ℕ} {s : TStmt} {ss : TStmts} {p q r : Position}
        → SpellsStmt limits room s p q → SpellsStmts limits room ss q r
        → SpellsStmts limits room (more s ss) p r
