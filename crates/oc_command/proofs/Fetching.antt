-- Why a file wasn't fetched, and for which files a shelf was asked.
use Rattle.std.proofs.Common.{ℕ, zero, suc, ◌<◌, List, [], ◌∷◌, ◌++◌, length, arith, inl, inr, refl}
use Rattle.oc_lex.specs.Limits.{source_limit}
use Rattle.oc_io.specs.Held.{Held}
use Rattle.oc_command.specs.Commands.{audit_limits, run_limits, rows_limit, word_at}
use Rattle.oc_command.specs.Files.{AreFiles, Fetches, IsFile, IsRefused, NotFetched, WereFetched, file_at, limit_at, names_of}
use Rattle.oc_command.specs.declared.answer.Answer.{Answer}
use Rattle.oc_command.specs.declared.answer.Answer.TheVariants as answer

module _ {F : Type 0} (asked : F → List (List ℕ × ℕ) → F → Type 0) (both : (a b c : F) (x y : List (List ℕ × ℕ)) → asked a x b → asked b y c → asked a (x ++ y) c)
    (words : List (List ℕ)) (limits : List ℕ) where
  pub two_asked : (a b c : F) → asked a ((word_at words 0, limit_at limits 0) ∷ []) b → asked b ((word_at words 1, limit_at limits 1) ∷ []) c
      → asked a (names_of words limits 2) c
  two_asked a b c p q = both a b c (names_of words limits 1) _ p q

  pub three_asked : (a b c d : F) → asked a ((word_at words 0, limit_at limits 0) ∷ []) b → asked b ((word_at words 1, limit_at limits 1) ∷ []) c
      → asked c ((word_at words 2, limit_at limits 2) ∷ []) d → asked a (names_of words limits 3) d
  three_asked a b c d p q r = both a c d (names_of words limits 2) _ (two_asked a b c p q) r

-- ---- files that were fetched

module _ (holds : List ℕ → Held) (words : List (List ℕ)) where
  only_at : (limit : ℕ) (bytes : List ℕ) → IsFile (holds (word_at words 0)) limit bytes → (k : ℕ) → k < 1
      → IsFile (holds (word_at words k)) (limit_at (limit ∷ []) k) (file_at (bytes ∷ []) k)
  only_at limit bytes f zero l = f
  only_at limit bytes f (suc k) l = absurd (omega arith)

  pub one_file : (limit : ℕ) (bytes : List ℕ) → IsFile (holds (word_at words 0)) limit bytes → AreFiles holds words (limit ∷ []) (bytes ∷ [])
  one_file limit bytes f = record { count = refl; each = only_at limit bytes f }

  of_two : (a b : List ℕ) → IsFile (holds (word_at words 0)) source_limit a → IsFile (holds (word_at words 1)) rows_limit b
      → (k : ℕ) → k < 2 → IsFile (holds (word_at words k)) (limit_at audit_limits k) (file_at (a ∷ b ∷ []) k)
  of_two a b f g zero l = f
  of_two a b f g (suc zero) l = g
  of_two a b f g (suc (suc k)) l = absurd (omega arith)

  pub two_files : (a b : List ℕ) → IsFile (holds (word_at words 0)) source_limit a → IsFile (holds (word_at words 1)) rows_limit b
      → AreFiles holds words audit_limits (a ∷ b ∷ [])
  two_files a b f g = record { count = refl; each = of_two a b f g }

  of_three : (limit : ℕ) (a b c : List ℕ) → IsFile (holds (word_at words 0)) limit a → IsFile (holds (word_at words 1)) rows_limit b
      → IsFile (holds (word_at words 2)) rows_limit c → (k : ℕ) → k < 3
      → IsFile (holds (word_at words k)) (limit_at (run_limits limit) k) (file_at (a ∷ b ∷ c ∷ []) k)
  of_three limit a b c f g h zero l = f
  of_three limit a b c f g h (suc zero) l = g
  of_three limit a b c f g h (suc (suc zero)) l = h
  of_three limit a b c f g h (suc (suc (suc k))) l = absurd (omega arith)

  pub three_files : (limit : ℕ) (a b c : List ℕ) → IsFile (holds (word_at words 0)) limit a → IsFile (holds (word_at words 1)) rows_limit b
      → IsFile (holds (word_at words 2)) rows_limit c → AreFiles holds words (run_limits limit) (a ∷ b ∷ c ∷ [])
  three_files limit a b c f g h = record { count = refl; each = of_three limit a b c f g h }

-- ---- a file that wasn't

module _ (shelf : Fetches) (words : List (List ℕ)) (limits : List ℕ) where
  none_before : WereFetched shelf.holds words limits 0
  none_before k h = absurd (omega arith)

  one_before : (a : List ℕ) → IsFile (shelf.holds (word_at words 0)) (limit_at limits 0) a → WereFetched shelf.holds words limits 1
  one_before a f zero h = (a, f)
  one_before a f (suc k) h = absurd (omega arith)

  two_before : (a b : List ℕ) → IsFile (shelf.holds (word_at words 0)) (limit_at limits 0) a → IsFile (shelf.holds (word_at words 1)) (limit_at limits 1) b
      → WereFetched shelf.holds words limits 2
  two_before a b f g zero h = (a, f)
  two_before a b f g (suc zero) h = (b, g)
  two_before a b f g (suc (suc k)) h = absurd (omega arith)

  -- a fault of the last fetch is one of the whole
  more_faults : (held : Held) (limit place : ℕ) (few more : Type 0) (end : Answer) → (few → more) → IsRefused held limit place few end → IsRefused held limit place more end
  more_faults held limit place few more (answer.Unreadable file) up r = (r.0, elim r.1 [ inl f ↦ inl (up f) | inr n ↦ inr n ])
  more_faults held limit place few more (answer.TooLong file) up r = r
  more_faults held limit place few more answer.Memory up r = r
  more_faults held limit place few more end up r = absurd r

  pub first_refused : (end : Answer) → 0 < length limits → shelf.asked (names_of words limits 1)
      → IsRefused (shelf.holds (word_at words 0)) (limit_at limits 0) 0 shelf.rose end → NotFetched shelf words limits end
  first_refused end some asked r = record { place = 0; among = some; before = none_before; asked = asked; refused = r }

  pub second_refused : (few : Type 0) (a : List ℕ) (end : Answer) → 1 < length limits → (few → shelf.rose) → IsFile (shelf.holds (word_at words 0)) (limit_at limits 0) a
      → shelf.asked (names_of words limits 2) → IsRefused (shelf.holds (word_at words 1)) (limit_at limits 1) 1 few end
      → NotFetched shelf words limits end
  second_refused few a end some up f asked r = record {
    place = 1;
    among = some;
    before = one_before a f;
    asked = asked;
    refused = more_faults _ _ _ few shelf.rose end up r;
  }

  pub third_refused : (few : Type 0) (a b : List ℕ) (end : Answer) → 2 < length limits → (few → shelf.rose) → IsFile (shelf.holds (word_at words 0)) (limit_at limits 0) a
      → IsFile (shelf.holds (word_at words 1)) (limit_at limits 1) b
      → shelf.asked (names_of words limits 3) → IsRefused (shelf.holds (word_at words 2)) (limit_at limits 2) 2 few end
      → NotFetched shelf words limits end
  third_refused few a b end some up f g asked r = record {
    place = 2;
    among = some;
    before = two_before a b f g;
    asked = asked;
    refused = more_faults _ _ _ few shelf.rose end up r;
  }
