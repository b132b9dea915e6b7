-- What the tokens of a source say is in form.
use Rattle.std.proofs.Common.{ℕ, Bool, true, false, cond, List, [], ◌∷◌, All}
use Rattle.std.proofs.lemmas.List.Elements.{All-head, All-tail}
use Rattle.oc_lex.specs.declared.token.Kind.{Kind}
use Rattle.oc_lex.specs.declared.token.Word.{Word}
use Rattle.oc_lex.specs.declared.token.Kind.TheVariants as kinds
use Rattle.oc_lex.specs.declared.token.Token.{Token}
use Rattle.oc_lex.specs.Bytes.{value_of}
use Rattle.oc_lex.specs.Stands.{SpellsKind, StandsIn}
use Rattle.oc_lex.specs.Tokens.{AreTokens}
use Rattle.oc_lex.proofs.StandsLaws.{tokens_stand}
use Rattle.oc_grammar.specs.Lexemes.{keyword, reserved, says, lexeme_by, lexemes_in, LexemeInForm, LexemesInForm}

word_in : (b : Bool) (line : ℕ) (w : Word) → LexemeInForm (cond b (keyword line w) (reserved line))
word_in true line w = tt
word_in false line w = tt

by_kind : (atomic : Bool) (line : ℕ) (text : List ℕ) (k : Kind) → SpellsKind k text → LexemeInForm (lexeme_by atomic line text k)
by_kind atomic line text kinds.Name h = h
by_kind atomic line text (kinds.Number v) h = (value_of text, h.1, h.2)
by_kind atomic line text (kinds.Word w) h = word_in (says atomic w) line w
by_kind atomic line text (kinds.Mark m) h = tt

all_in : (atomic : Bool) (source : List ℕ) (ts : List Token) → All (StandsIn source) ts → LexemesInForm (lexemes_in atomic source ts)
all_in atomic source [] h = tt
all_in atomic source (t ∷ ts) h = (by_kind atomic t.line _ t.kind (All-head (StandsIn source) t ts h).spelled, all_in atomic source ts (All-tail (StandsIn source) t ts h))

pub lexemes_in_form : (atomic : Bool) (source : List ℕ) (ts : List Token) → AreTokens source ts → LexemesInForm (lexemes_in atomic source ts)
lexemes_in_form atomic source ts d = all_in atomic source ts (tokens_stand source ts d)
