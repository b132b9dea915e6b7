-- What the area holds, and what is saved there.
use Rattle.std.specs.Prelude.{ℤ, pos, List, ◌∷◌, ◌++◌, length, drop}
use Rattle.oc_ckpt.specs.declared.AreaState.{AreaState}

-- the words of the area, and its state word
pub record Held : Type 0 where
  pub words : List ℤ
  pub state : AreaState

-- the words that are saved: program counter, frame's place, stack's length, and the stack
abbrev pub saved_words : ℤ → ℤ → List ℤ → List ℤ
saved_words pc fp stack = pc ∷ (fp ∷ (pos (length stack) ∷ stack))

-- the words of the area with these saved from the first word on; those past them are kept
abbrev pub save_all : List ℤ → List ℤ → List ℤ
save_all saved words = saved ++ drop (length saved) words
