-- The words that begin as a text does are all looked through.
use Rattle.std.proofs.Common.{◌≡◌, ℕ, Bool, true, false, cond, List, [], ◌∷◌, Option, Some, None, refl, sym, ap, subst, ◌∙◌}
use Rattle.std.specs.Prelude.{find, MatchOption}
use Rattle.std.specs.Str.{bytes_eq}
use Rattle.std.proofs.lemmas.Slice.Eq.{bytes_eq-Decides}
use Rattle.oc_lex.specs.declared.token.Word.{Word}
use Rattle.oc_lex.specs.declared.token.Word.TheVariants as words
use Rattle.oc_lex.specs.Spellings.{word_spelling, words_like, SpellsNoWord}

abbrev pub found : List ℕ → Option Word
found text = find (λ w. bytes_eq (word_spelling w) text) (words_like text)

passes : (p : Word → Bool) (ws : List Word) (o : Option Word) → o ≡ find p ws → MatchOption o (Unit {0}) (λ w. p w ≡ true)
passes p [] o e = subst (λ (r : Option Word). MatchOption r (Unit {0}) (λ w. p w ≡ true)) (sym e) tt
passes p (w ∷ ws) o e = by_test (p w) refl e (passes p ws o)
  where
    by_test : (b : Bool) → p w ≡ b → o ≡ cond b (Some w) (find p ws) → (o ≡ find p ws → MatchOption o (Unit {0}) (λ v. p v ≡ true)) → MatchOption o (Unit {0}) (λ v. p v ≡ true)
    by_test true t f h = subst (λ (r : Option Word). MatchOption r (Unit {0}) (λ v. p v ≡ true)) (sym f) t
    by_test false t f h = h f

-- each word is found by its spelling
pub word_found : (w : Word) → found (word_spelling w) ≡ Some w
unfolding words_like
word_found words.Sensor = refl
word_found _ = refl

pub word_read : (text : List ℕ) (o : Option Word) → o ≡ found text → MatchOption o (SpellsNoWord text) (λ w. word_spelling w ≡ text)
word_read text None e = λ w h. let g : found text ≡ Some w = subst (λ (t : List ℕ). found t ≡ Some w) h (word_found w) in let f : None ≡ Some w = e ∙ g in cc
word_read text (Some w) e = (bytes_eq-Decides (word_spelling w) text).0 (passes (λ v. bytes_eq (word_spelling v) text) (words_like text) (Some w) e)

pub word_among : (text : List ℕ) (ws : List Word) (o : Option Word) → ws ≡ words_like text → o ≡ find (λ w. bytes_eq (word_spelling w) text) ws
    → MatchOption o (SpellsNoWord text) (λ w. word_spelling w ≡ text)
word_among text ws o s e = word_read text o (e ∙ ap (λ (vs : List Word). find (λ w. bytes_eq (word_spelling w) text) vs) s)
