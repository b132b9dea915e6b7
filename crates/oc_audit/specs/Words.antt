-- The line of a nonvolatile variable, read back.
use Rattle.std.specs.Prelude.{◌≡◌, ℕ, ℤ, Bool, true, false, List, [], ◌∷◌, ◌++◌, length, codes, FitsSigned}
use Rattle.std.specs.Int.{w32}
use Rattle.std.specs.List.{All, flat_map}
use Rattle.oc_items.specs.Text.{word_field}

-- nothing, or a space first
abbrev pub IsTail : List ℕ → Type 0
IsTail [] = Unit {0}
IsTail (b ∷ bs) = b ≡ 32

-- a word stands in front, with a space before it, and then these bytes
pub record IsNext (bytes : List ℕ) (word : ℤ) (behind : List ℕ) : Type 0 where
  pub fits : FitsSigned w32 word
  pub spelled : word_field word ++ behind ≡ bytes
  pub tail : IsTail behind

abbrev pub HasNoNext : List ℕ → Type 0
HasNoNext bytes = (word : ℤ) (behind : List ℕ) → IsNext bytes word behind → ⊥

-- these words, a space before each
abbrev pub spaced : List ℤ → List ℕ
spaced words = flat_map word_field words

-- the line has so many words behind the name
pub record IsWordsLine (name : List ℕ) (count : ℕ) (line : List ℕ) (words : List ℤ) : Type 0 where
  pub many : length words ≡ count
  pub fit : All (FitsSigned w32) words
  pub spelled : codes "nv " ++ (name ++ spaced words) ≡ line

-- n words were read of these bytes and stand behind the old ones; no other words can stand there
pub record ReadsOn (bytes : List ℕ) (old now : List ℤ) (n : ℕ) (left : List ℕ) : Type 0 where
  pub words : List ℤ
  pub is : now ≡ old ++ words
  pub many : length words ≡ n
  pub fit : All (FitsSigned w32) words
  pub spelled : spaced words ++ left ≡ bytes
  pub only : (us : List ℤ) → All (FitsSigned w32) us
      → spaced us ≡ bytes → (more : List ℤ) × (us ≡ words ++ more) × (spaced more ≡ left)

-- the words of the line stand behind the old ones; or it is no line of this name and so many words
abbrev pub GivesWords : List ℕ → ℕ → List ℕ → List ℤ → Bool → List ℤ → Type 0
GivesWords name count line old true now =
    (words : List ℤ) × IsWordsLine name count line words × (now ≡ old ++ words)
GivesWords name count line old false now = (words : List ℤ) → IsWordsLine name count line words → ⊥
