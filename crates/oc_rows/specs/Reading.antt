-- What a reader has left to read.
use Rattle.std.specs.Prelude.{ℕ, ◌+◌, ◌^◌, ◌<◌, ◌≡◌, Bool, true, false, List, [], length, Some, unwrap_or}
use Rattle.std.specs.Borrow.{Bor}
use Rattle.csv.specs.Reading.{Ready, default_config, has_failed, is_flexible, reader_config, reader_state, reader_trim, records_from, source_of}
use Rattle.csv.specs.declared.reader.Reader.{Reader}
use Rattle.csv.specs.declared.reader.Trim.TheVariants as trim

-- the bytes left
abbrev pub unread : Reader (Bor (List ℕ)) → List ℕ
unread reader = unwrap_or (source_of (λ s. Some s.now) reader) []

-- the rows left; none once the end was met or a read failed
abbrev pub rows_left : Bool → Reader (Bor (List ℕ)) → List (List (List ℕ))
rows_left true reader = []
rows_left false reader =
    records_from default_config (length (unread reader) + 1) (reader_state reader) (unread reader)

-- until it has ended, the reader gives each record as it stands, and their numbers stay small
pub record ReadsPlainly (reader : Reader (Bor (List ℕ))) (number : ℕ) (ended : Bool) : Type 0 where
  pub goes : ended ≡ false → has_failed reader ≡ false
  pub config : ended ≡ false → reader_config reader ≡ default_config
  pub trim : ended ≡ false → reader_trim reader ≡ trim.None
  pub flexible : ended ≡ false → is_flexible reader ≡ true
  pub ready : ended ≡ false → Ready reader
  pub few : number + length (rows_left ended reader) < 2 ^ 64
