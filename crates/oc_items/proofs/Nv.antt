-- The line of a nonvolatile variable, put word by word.
use Rattle.std.proofs.Common.{ℕ, ℤ, ◌≡◌, ◌+◌, List, [], ◌∷◌, ◌++◌, map, codes, refl, ap}
use Rattle.std.specs.Fmt.{signed_decimal}
use Rattle.std.proofs.lemmas.List.{append-nil}
use Rattle.oc_io.specs.Lines.{further}
use Rattle.oc_io.proofs.Going.{Going}
use Rattle.oc_items.specs.Text.{words_line, word_field}

-- the line's first piece, and the fields of these words
abbrev pub head_of : List ℕ → List ℕ
head_of name = codes "nv " ++ (name ++ [])

abbrev pub words_fields : List ℤ → List ℕ
words_fields words = further (map signed_decimal words)

pub words_fields-cons : (word : ℤ) (words : List ℤ) → words_fields (word ∷ words) ≡ word_field word ++ words_fields words
words_fields-cons word words = refl

pub at_head : {S : Type 0} (took : S → List ℕ → S → Type 0) (none : (s : S) → took s [] s) (a : S) (name : List ℕ) (words : List ℤ)
    → Going took a a (head_of name ++ words_fields words) (words_line name words)
at_head took none a name words = record { done = []; taken = none a; joins = ap (λ (s : List ℕ). codes "nv " ++ (s ++ words_fields words)) (append-nil name) }
