-- A word in front of the tokens that are left.
use Rattle.std.proofs.Common.{◌≡◌, ℕ, ◌≤◌, ◌-◌, Bool, true, false, cond, List, [], ◌∷◌, length, get_or, drop, take, take_all, length-drop, Some, None, refl, sym, ap, ◌∙◌, arith}
use Rattle.std.specs.Prelude.{◌&&◌, if◌then◌else◌, is_some, slice_range}
use Rattle.oc_tree.specs.Names.{Text}
use Rattle.oc_lex.specs.declared.token.Kind.{Kind}
use Rattle.oc_lex.specs.declared.token.Kind.TheVariants as kinds
use Rattle.oc_lex.specs.declared.token.Token.{Token}
use Rattle.oc_lex.specs.declared.token.Word.{Word}
use Rattle.oc_grammar.specs.Lexemes.{Lexemes, keyword, reserved, says, lexeme_by, lexemes_in}
use Rattle.oc_grammar.specs.Reading.{same_word, strip_word, take_word}
use Rattle.oc_parse.specs.Steps.{word_is}

said : (b : Bool) (line : ℕ) (k w : Word) (ts : Lexemes) → strip_word w (cond b (keyword line k) (reserved line) ∷ ts) ≡ (if b && same_word k w then Some ts else None)
unfolding strip_word
said true line k w ts = refl
said false line k w ts = refl

by_kind : (atomic : Bool) (line : ℕ) (text : Text) (k : Kind) (w : Word) (ts : Lexemes) → strip_word w (lexeme_by atomic line text k ∷ ts) ≡ (if word_is atomic w k then Some ts else None)
unfolding strip_word
by_kind atomic line text kinds.Name w ts = refl
by_kind atomic line text (kinds.Number v) w ts = refl
by_kind atomic line text (kinds.Word k) w ts = said (says atomic k) line k w ts
by_kind atomic line text (kinds.Mark m) w ts = refl

-- what a test of the token in front says of the word
pub word_tested : (atomic : Bool) (source : List ℕ) (ts : List Token) (d : Token) (w : Word) (b : Bool) → 1 ≤ length ts → b ≡ word_is atomic w (get_or ts 0 d).kind
    → strip_word w (lexemes_in atomic source ts) ≡ (if b then Some (lexemes_in atomic source (drop 1 ts)) else None)
word_tested atomic source [] d w b l is = absurd (omega arith)
word_tested atomic source (t ∷ ts) d w b l is = rw is (by_kind atomic t.line (slice_range source t.start t.end) t.kind w (lexemes_in atomic source ts))

-- the tokens behind the first one, as a part of a slice
pub word_behind : (atomic : Bool) (source : List ℕ) (ts : List Token) (d : Token) (w : Word) → 1 ≤ length ts → true ≡ word_is atomic w (get_or ts 0 d).kind
    → strip_word w (lexemes_in atomic source ts) ≡ Some (lexemes_in atomic source (take (length ts - 1) (drop 1 ts)))
word_behind atomic source ts d w l is =
    word_tested atomic source ts d w true l is
    ∙ ap (λ us. Some (lexemes_in atomic source us)) (sym (take_all (length ts - 1) (drop 1 ts) (omega (arith, length-drop 1 ts))))

pub word_stands : (atomic : Bool) (source : List ℕ) (ts : List Token) (d : Token) (w : Word) (b : Bool) → 1 ≤ length ts → b ≡ word_is atomic w (get_or ts 0 d).kind
    → b ≡ is_some (strip_word w (lexemes_in atomic source ts))
word_stands atomic source ts d w true l is = rw (word_tested atomic source ts d w true l is) refl
word_stands atomic source ts d w false l is = rw (word_tested atomic source ts d w false l is) refl

pub word_taken : (w : Word) (ts us : Lexemes) → strip_word w ts ≡ Some us → (true, us) ≡ take_word w ts
unfolding take_word
word_taken w ts us h = rw h refl

pub word_missing : (w : Word) (ts : Lexemes) → strip_word w ts ≡ None → (false, ts) ≡ take_word w ts
unfolding take_word
word_missing w ts h = rw h refl
