-- What is saved at a checkpoint, by examples.
use Rattle.std.specs.Prelude.{◌≡◌, refl, pos, [], ◌∷◌}
use Rattle.oc_ckpt.specs.Saving.{saved_words, save_all}

-- the program counter 5, the frame's place 0, how many words the stack has, and these
pub saved_words_example :
    saved_words (pos 5) (pos 0) (pos 8 ∷ pos 9 ∷ []) ≡ pos 5 ∷ pos 0 ∷ pos 2 ∷ pos 8 ∷ pos 9 ∷ []
saved_words_example = refl

-- the words behind those that are saved stay
pub save_all_example :
    save_all (pos 1 ∷ pos 2 ∷ []) (pos 7 ∷ pos 8 ∷ pos 9 ∷ []) ≡ pos 1 ∷ pos 2 ∷ pos 9 ∷ []
save_all_example = refl
