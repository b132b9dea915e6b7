-- What a read does to the rows left.
use Rattle.std.proofs.Common.{ℕ, ◌+◌, ◌≡◌, ◌∙◌, arith, List, [], ◌∷◌, length, Option, Some, None, Bool, true, false, refl, inl, inr}
use Rattle.std.specs.Borrow.{Bor}
use Rattle.std.specs.Prelude.{◌==◌, ◌&&◌, not}
use Rattle.std.proofs.lemmas.Bool.{cases_Bool}
use Rattle.csv.specs.Machine.{Read, next_record}
use Rattle.csv.specs.Reading.{ExplainsRead, NextIs, ReadRecord, Ready, default_config, has_failed, is_flexible, pending_of, reader_config, reader_state, reader_trim, source_of}
use Rattle.csv.specs.Reading.{stops_reader, took_first}
use Rattle.csv.specs.declared.parser.State.{State}
use Rattle.csv.specs.declared.reader.Reader.{Reader}
use Rattle.csv.specs.declared.reader.Trim.TheVariants as trim
use Rattle.csv.specs.declared.error.ErrorKind.{ErrorKind}
use Rattle.csv.specs.declared.error.ErrorKind.TheVariants as kind
use Rattle.oc_rows.specs.Reading.{ReadsPlainly, rows_left, unread}
use Rattle.oc_rows.proofs.Turns.{records_from-none, records_from-taken}

-- a reader over bytes in memory knows what it has left
known : (reader : Reader (Bor (List ℕ))) → has_failed reader ≡ false → source_of (λ s. Some s.now) reader ≡ Some (unread reader)
known reader goes = elim (cases_Bool (not reader.bom_checked && (reader.at == 0) && (reader.filled == 0))) [
  | inl e ↦ rw (goes, e) refl
  | inr e ↦ rw (goes, e) refl
]

taken : (o : Option Read) (fields : List (List ℕ)) (s : State) (ys : List ℕ) → NextIs o true fields s ys → o ≡ Some (fields, s, ys)
taken None fields s ys h = cc h
taken (Some p) fields s ys (a, b, c, d) = rw (b, c, d) refl

none : (o : Option Read) (fields : List (List ℕ)) (s : State) (ys : List ℕ) → NextIs o false fields s ys → o ≡ None
none None fields s ys h = refl
none (Some p) fields s ys h = cc h.0

-- after a read, nothing but the bytes at hand and those underneath is left
after : (reader : Reader (Bor (List ℕ))) → has_failed reader ≡ false → reader.bom_checked ≡ true → pending_of (Some reader.rdr.now) reader ≡ Some (unread reader)
after reader goes checked = rw (goes, checked) refl

next_is : (old new : Reader (Bor (List ℕ))) (found : Bool) (fields : List (List ℕ)) → has_failed old ≡ false → has_failed new ≡ false → reader_config old ≡ default_config
    → ReadRecord (λ s. Some s.now) old new found fields → NextIs (next_record default_config (reader_state old) [] [] (unread old)) found fields (reader_state new) (unread new)
next_is old new found fields goes still config read = rw (config, known old goes, after new still read.1) at read.0

-- a read that finds a record takes the first row left
rows_left-found : (old new : Reader (Bor (List ℕ))) (fields : List (List ℕ)) → has_failed old ≡ false → has_failed new ≡ false → reader_config old ≡ default_config
    → ReadRecord (λ s. Some s.now) old new true fields → rows_left false old ≡ fields ∷ rows_left false new
rows_left-found old new fields goes still config read =
    let first = taken (next_record default_config (reader_state old) [] [] (unread old)) fields (reader_state new) (unread new) (next_is old new true fields goes still config read) in
    records_from-taken default_config (reader_state old) (reader_state new) (unread old) (unread new) fields first

-- a read that finds none had no row left
rows_left-none : (old new : Reader (Bor (List ℕ))) (fields : List (List ℕ)) → has_failed old ≡ false → has_failed new ≡ false → reader_config old ≡ default_config
    → ReadRecord (λ s. Some s.now) old new false fields → rows_left false old ≡ []
rows_left-none old new fields goes still config read =
    let first = none (next_record default_config (reader_state old) [] [] (unread old)) fields (reader_state new) (unread new) (next_is old new false fields goes still config read) in
    records_from-none default_config (reader_state old) (unread old) first

-- what a reader that reads plainly answers to a read
abbrev pub Reads : Reader (Bor (List ℕ)) → Reader (Bor (List ℕ)) → Bool → List (List ℕ) → Type 0
Reads old new found fields = reader_trim old ≡ trim.None → Ready old → ReadRecord (λ s. Some s.now) old new found fields

-- a read that finds a record takes the first row left, and the reader reads on plainly
pub row_taken : (old new : Reader (Bor (List ℕ))) (fields : List (List ℕ)) (number : ℕ) (ended found : Bool) → ended ≡ false → found ≡ true → ReadsPlainly old number ended
    → has_failed new ≡ has_failed old → is_flexible new ≡ is_flexible old → took_first new ≡ true → Reads old new found fields
    → (rows_left ended old ≡ fields ∷ rows_left false new) × ReadsPlainly new (number + 1) false
row_taken old new fields number ended found e f plain same bends first reads =
    let goes = plain.goes e in
    let still : has_failed new ≡ false = same ∙ goes in
    let read = rw f at reads (plain.trim e) (plain.ready e) in
    let rows = rows_left-found old new fields goes still (plain.config e) read in
    let few = rw e at plain.few in
    let more : length (rows_left false old) ≡ length (rows_left false new) + 1 = rw rows (omega arith) in (
      rw e rows,
      record {
        goes = λ _. still;
        config = λ _. read.2 ∙ plain.config e;
        trim = λ _. read.3 ∙ plain.trim e;
        flexible = λ _. bends ∙ plain.flexible e;
        ready = λ _. inl first;
        few = omega arith;
      },
    )

-- a read that finds none had no row left
pub no_row : (old new : Reader (Bor (List ℕ))) (fields : List (List ℕ)) (number : ℕ) (ended found : Bool) → ended ≡ false → found ≡ false → ReadsPlainly old number ended
    → has_failed new ≡ has_failed old → Reads old new found fields → rows_left ended old ≡ []
no_row old new fields number ended found e f plain same reads =
    let read = rw f at reads (plain.trim e) (plain.ready e) in
    rw e (rows_left-none old new fields (plain.goes e) (same ∙ plain.goes e) (plain.config e) read)

-- a read of a flexible reader fails only for the bytes underneath or for memory
pub stopped : (old new : Reader (Bor (List ℕ))) (why : ErrorKind) → is_flexible old ≡ true → ExplainsRead (λ s. Some s.now) old new false why → stops_reader why ≡ true
stopped old new (kind.Io e) bends h = refl
stopped old new kind.OutOfMemory bends h = refl
stopped old new (kind.UnequalLengths pos expected len) bends h = cc (bends, h.0)
stopped old new (kind.Utf8 pos err) bends h = cc h.0
stopped old new (kind.Serialize text) bends h = absurd h
stopped old new (kind.Deserialize pos err) bends h = absurd h
