-- The files that are read, in the order of their words.
use Rattle.std.specs.Prelude.{ℕ, zero, suc, ◌<◌, ◌≤◌, ◌≡◌, ◌⊎◌, List, [], ◌∷◌, ◌++◌, length, get_or}
use Rattle.oc_io.specs.Faults.{Rose}
use Rattle.oc_io.specs.Held.{Held, nothing, content, Gives, Longer}
use Rattle.oc_command.specs.Commands.{word_at}
use Rattle.oc_command.specs.declared.files.Fetched.{Fetched}
use Rattle.oc_command.specs.declared.answer.Answer.{Answer}
use Rattle.oc_command.specs.declared.answer.Answer.TheVariants as answer

-- the file at a place
abbrev pub file_at : List (List ℕ) → ℕ → List ℕ
file_at files place = get_or files place []

-- the limit of the file at a place
abbrev pub limit_at : List ℕ → ℕ → ℕ
limit_at limits place = get_or limits place 0

-- the files of a run
pub record Files : Type 0 where
  -- the source, or an image in its place
  pub source : List ℕ
  -- the rows of the sensors
  pub sensors : List ℕ
  -- the rows of the power
  pub power : List ℕ

abbrev pub bytes_of : Fetched → Files
bytes_of f = record { source = f.source.items; sensors = f.sensors.items; power = f.power.items }

-- the three of them in order, and back
abbrev pub listed : Files → List (List ℕ)
listed f = f.source ∷ f.sensors ∷ f.power ∷ []

-- the files of a run, from a list of them in order
abbrev pub run_files : List (List ℕ) → Files
run_files files =
    record { source = file_at files 0; sensors = file_at files 1; power = file_at files 2 }

-- these bytes are those held, where that is told, and they are no more than the limit
pub record IsFile (held : Held) (limit : ℕ) (bytes : List ℕ) : Type 0 where
  pub gives : Gives held bytes
  pub within : length bytes ≤ limit

-- these are the files under these words with these limits
pub record AreFiles (holds : List ℕ → Held)
    (words : List (List ℕ)) (limits : List ℕ) (files : List (List ℕ)) : Type 0 where
  pub count : length files ≡ length limits
  pub each : (k : ℕ)
      → k < length limits → IsFile (holds (word_at words k)) (limit_at limits k) (file_at files k)

-- a shelf that tells what it holds has just these bytes under a name, no more than the limit
pub record IsHeld (held : Held) (limit : ℕ) (bytes : List ℕ) : Type 0 where
  pub told : held ≡ content bytes
  pub within : length bytes ≤ limit

-- a shelf that tells what it holds has these files under these words, each no more than its limit
pub record AreHeld (holds : List ℕ → Held)
    (words : List (List ℕ)) (limits : List ℕ) (files : List (List ℕ)) : Type 0 where
  pub count : length files ≡ length limits
  pub each : (k : ℕ)
      → k < length limits → IsHeld (holds (word_at words k)) (limit_at limits k) (file_at files k)

-- the shelf has the files before this one, each no more than its limit
abbrev pub AreHeldBefore : (List ℕ → Held) → List (List ℕ) → List ℕ → ℕ → Type 0
AreHeldBefore holds words limits place =
    (k : ℕ)
    → k < place → (bytes : List ℕ) × IsHeld (holds (word_at words k)) (limit_at limits k) bytes

-- the files before this one were fetched
abbrev pub WereFetched : (List ℕ → Held) → List (List ℕ) → List ℕ → ℕ → Type 0
WereFetched holds words limits place =
    (k : ℕ)
    → k < place → (bytes : List ℕ) × IsFile (holds (word_at words k)) (limit_at limits k) bytes

-- ---- fetching

-- what a shelf did in a call
pub record Fetches : Type 1 where
  -- what it holds under a name, if it tells that
  pub holds : List ℕ → Held
  -- for which names it was asked, each with its limit
  pub asked : List (List ℕ × ℕ) → Type 0
  -- its count of faults rose
  pub rose : Type 0

-- what a shelf did from one state to another
abbrev pub fetches : {F : Type 0}
    → (F → List ℕ → Held) → (F → List (List ℕ × ℕ) → F → Type 0) → (F → ℕ) → F → F → Fetches
fetches holds asked faults old new = record {
  holds = holds old;
  asked = λ names. asked old names new;
  rose = Rose (faults old) (faults new);
}

-- a shelf holds what it held, and its count of faults doesn't fall
pub record ShelfStays {F : Type 0}
    (holds : F → List ℕ → Held) (faults : F → ℕ) (old new : F) : Type 0 where
  pub held : (name : List ℕ) → holds new name ≡ holds old name
  pub count : faults old ≤ faults new

-- so many of the files, in the order of their words, each with its limit
abbrev pub names_of : List (List ℕ) → List ℕ → (count : ℕ) → List (List ℕ × ℕ)
names_of words limits zero = []
names_of words limits (suc k) = names_of words limits k ++ (word_at words k, limit_at limits k) ∷ []

-- why the file at a place wasn't fetched: the shelf's faults rose, or it tells that nothing is there; or the file is
-- longer than its limit; or there was no memory
abbrev pub IsRefused : Held → ℕ → ℕ → Type 0 → Answer → Type 0
IsRefused held limit place unread (answer.Unreadable file) =
    (file ≡ place) × (unread ⊎ (held ≡ nothing))
IsRefused held limit place unread (answer.TooLong file) = (file ≡ place) × Longer held limit
IsRefused held limit place unread answer.Memory = Unit {0}
IsRefused held limit place unread end = ⊥

-- one of the files under these words wasn't fetched, and none behind it was asked for
pub record NotFetched
    (shelf : Fetches) (words : List (List ℕ)) (limits : List ℕ) (end : Answer) : Type 0 where
  pub place : ℕ
  pub among : place < length limits
  pub before : WereFetched shelf.holds words limits place
  pub asked : shelf.asked (names_of words limits (suc place))
  pub refused : IsRefused
      (shelf.holds (word_at words place)) (limit_at limits place) place shelf.rose end
