-- The words of the area.
use Rattle.std.proofs.Common.{◌≡◌, ℕ, zero, suc, ◌+◌, ◌<◌, ◌≤◌, ℤ, pos, List, [], ◌∷◌, ◌++◌, length, refl, sym, ap, ◌∙◌, arith, get_or, take, drop}
use Rattle.std.specs.Prelude.{slice_set, reverse}
use Rattle.std.proofs.Math.Seq.{take-suc, take-suc-set}
use Rattle.std.proofs.lemmas.List.{length-append, length-drop, length-reverse}
use Rattle.oc_ckpt.specs.Saving.{save_all}
use Rattle.oc_isa.specs.Next.{Regs}
use Rattle.oc_isa.specs.Power.{words_of, word_of, number_of, held}

-- the area holds these registers and stack words
pub record IsSaved (words : List ℤ) (saved : Regs) : Type 0 where
  pub front : take (length (words_of saved)) words ≡ words_of saved

pub length-words_of : (saved : Regs) → length (words_of saved) ≡ 3 + length saved.stack
length-words_of saved = let e : length (reverse saved.stack) ≡ length saved.stack = length-reverse saved.stack in omega arith

get_or-take' : (n i : ℕ) (xs : List ℤ) → i < n → get_or (take n xs) i (pos 0) ≡ get_or xs i (pos 0)
get_or-take' zero i xs h = absurd (omega arith)
get_or-take' (suc n) i [] h = refl
get_or-take' (suc n) zero (x ∷ xs) h = refl
get_or-take' (suc n) (suc i) (x ∷ xs) h = get_or-take' n i xs (omega arith)

pub saved_word : (words : List ℤ) (saved : Regs) (i : ℕ) → IsSaved words saved → i < length (words_of saved) → word_of words i ≡ word_of (words_of saved) i
saved_word words saved i k h = sym (get_or-take' (length (words_of saved)) i words h) ∙ ap (λ l. get_or l i (pos 0)) k.front

-- the third word tells how many there are
pub held-saved : (words : List ℤ) (saved : Regs) → IsSaved words saved → held words ≡ length (words_of saved)
held-saved words saved k =
    let e : number_of (word_of words 2) ≡ length (reverse saved.stack) = ap number_of (saved_word words saved 2 k (omega arith)) in
    omega arith

take-front : (xs ys : List ℤ) → take (length xs) (xs ++ ys) ≡ xs
take-front [] ys = refl
take-front (x ∷ xs) ys = ap (λ l. x ∷ l) (take-front xs ys)

pub all_saved : (saved : Regs) (words : List ℤ) → IsSaved (save_all (words_of saved) words) saved
all_saved saved words = record { front = take-front (words_of saved) (drop (length (words_of saved)) words) }

pub length-save_all : (saved words : List ℤ) → length saved ≤ length words → length (save_all saved words) ≡ length words
length-save_all saved words h = length-append saved (drop (length saved) words) ∙ (omega (arith, length-drop (length saved) words))

-- one more word is saved
pub one_saved : (words xs : List ℤ) (j : ℕ) → j < length words → j < length xs → take j words ≡ take j xs → take (suc j) (slice_set words j (word_of xs j)) ≡ take (suc j) xs
one_saved words xs j hw hx e = take-suc-set words j (word_of xs j) hw ∙ ap (λ l. l ++ word_of xs j ∷ []) e ∙ sym (take-suc xs j (pos 0) hx)
