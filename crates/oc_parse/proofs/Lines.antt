-- The line of the last token, and how many are left.
use Rattle.std.proofs.Common.{◌≡◌, ℕ, Bool, true, false, cond, suc, ◌-◌, ◌≤◌, List, [], ◌∷◌, length, get_or, refl, arith}
use Rattle.std.proofs.lemmas.List.{length-map}
use Rattle.oc_lex.specs.declared.token.Kind.{Kind}
use Rattle.oc_lex.specs.declared.token.Word.{Word}
use Rattle.oc_lex.specs.declared.token.Kind.TheVariants as kinds
use Rattle.oc_lex.specs.declared.token.Token.{Token}
use Rattle.oc_parse.specs.declared.reader.Reader.{Reader}
use Rattle.oc_parse.specs.Steps.{left}
use Rattle.oc_grammar.specs.Lexemes.{keyword, reserved, says, line_of, lexeme_by, lexemes_in, last_line}

word_line : (b : Bool) (line : ℕ) (w : Word) → line ≡ line_of (cond b (keyword line w) (reserved line))
word_line true line w = refl
word_line false line w = refl

line_by : (atomic : Bool) (line : ℕ) (text : List ℕ) (k : Kind) → line ≡ line_of (lexeme_by atomic line text k)
line_by atomic line text kinds.Name = refl
line_by atomic line text (kinds.Number v) = refl
line_by atomic line text (kinds.Word w) = word_line (says atomic w) line w
line_by atomic line text (kinds.Mark m) = refl

pub last_is : (atomic : Bool) (source : List ℕ) (ts : List Token) (d : Token) → 1 ≤ length ts → (get_or ts (length ts - 1) d).line ≡ last_line (lexemes_in atomic source ts)
last_is atomic source [] d h = absurd (omega arith)
last_is atomic source (t ∷ []) d h = line_by atomic t.line _ t.kind
last_is atomic source (t ∷ u ∷ ts) d h =
    let e : suc (suc (length ts)) - 1 ≡ suc (length ts) = omega arith in
    let f : suc (length ts) - 1 ≡ length ts = omega arith in
    let r : (get_or (u ∷ ts) (suc (length ts) - 1) d).line ≡ last_line (lexemes_in atomic source (u ∷ ts)) = last_is atomic source (u ∷ ts) d (omega arith) in
    rw e (rw f at r)

pub count_left : (r : Reader) → length (left r) ≡ length r.rest.now
count_left r = length-map r.rest.now _
