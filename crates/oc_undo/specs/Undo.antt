-- What a log of old words puts back.
use Rattle.std.specs.Prelude.{ℕ, zero, suc, ◌+◌, ◌-◌, ◌==◌, ◌≡◌, ◌<◌, ℤ, Bool, true, false, List, [], ◌∷◌, length, Option, Some, None, slice_get, slice_set, slice_index_or}
use Rattle.std.specs.Prelude.{if◌then◌else◌, count_by, All}
use Rattle.oc_undo.specs.declared.Entry.{Entry}

-- the entries, the oldest first, how many of them were put back, and of how many words the log is
pub record Log : Type 0 where
  pub entries : List Entry
  pub back : ℕ
  pub words : ℕ

-- the nonvolatile words with the old word of an entry put back at its address
abbrev pub put_back : Entry → List ℤ → List ℤ
put_back e nv = slice_set nv e.addr e.old

-- the nonvolatile words with all entries put back, from the last to the first
abbrev pub undo : List Entry → List ℤ → List ℤ
undo [] nv = nv
undo (e ∷ es) nv = put_back e (undo es nv)

-- whether there is an entry of this address
abbrev pub has_entry : List Entry → ℕ → Bool
has_entry [] a = false
has_entry (e ∷ es) a = if e.addr == a then true else has_entry es a

-- how many entries weren't put back yet
abbrev pub left : Log → ℕ
left log = length log.entries - log.back

-- the nonvolatile words with an entry put back, if there is one
abbrev pub put_back_some : Option Entry → List ℤ → List ℤ
put_back_some None nv = nv
put_back_some (Some e) nv = put_back e nv

-- where so many entries are left, the last of them is put back
abbrev pub undo_one : List Entry → ℕ → List ℤ → List ℤ
undo_one entries zero nv = nv
undo_one entries (suc k) nv = put_back_some (slice_get entries k) nv

-- the log after one entry more was put back, until all were
abbrev pub after_one : Log → ℕ → Log
after_one log zero = log
after_one log (suc k) = record log { back = log.back + 1 }

-- where so many entries are left, so many of them are put back one by one, or all
abbrev pub undo_some : List Entry → ℕ → ℕ → List ℤ → List ℤ
undo_some entries left zero nv = nv
undo_some entries zero (suc n) nv = nv
undo_some entries (suc k) (suc n) nv = undo_some entries k n (undo_one entries (suc k) nv)

-- a rollback that was begun anew after so many entries each time, and at last runs to its end
abbrev pub rollback : List Entry → List ℕ → List ℤ → List ℤ
rollback entries [] nv = undo_some entries (length entries) (length entries) nv
rollback entries (n ∷ broken_off) nv =
    rollback entries broken_off (undo_some entries (length entries) n nv)

-- the old word of the first entry of this address, or this word where there is none
abbrev pub first_old : List Entry → ℕ → ℤ → ℤ
first_old [] a word = word
first_old (e ∷ es) a word = if e.addr == a then e.old else first_old es a word

-- there is a mark exactly where there is an entry, and each entry has a mark of its own
pub record IsMarked (entries : List Entry) (marks : List Bool) : Type 0 where
  pub told : (a : ℕ) → a < length marks → slice_index_or marks a false ≡ has_entry entries a
  pub inside : All (λ e. e.addr < length marks) entries
  pub count : count_by (λ m. m) marks ≡ length entries
