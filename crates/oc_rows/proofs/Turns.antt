-- How many turns read every record.
use Rattle.std.proofs.Common.{ℕ, ◌+◌, ◌≤◌, ◌≡◌, List, [], ◌∷◌, length, Option, Some, None, ap, refl, arith, zero, suc, inl, inr, add-one}
use Rattle.std.proofs.lemmas.Bool.{cases_Bool}
use Rattle.csv.specs.Machine.{Read, next_record, step, is_end, ends_at_end, fields_after, field_after}
use Rattle.csv.specs.Reading.{is_bom, records_from, records_next, strip_bom}
use Rattle.csv.specs.declared.parser.Config.{Config}
use Rattle.csv.specs.declared.parser.State.{State}
use Rattle.csv.specs.declared.parser.State.TheVariants as st

-- a record leaves no more bytes than there were
shorter : (cfg : Config) (s : State) (fields : List (List ℕ)) (field xs : List ℕ) (p : Read) → next_record cfg s fields field xs ≡ Some p → length p.2 ≤ length xs
unfolding next_record
shorter cfg s fields field [] p e = grind arith
shorter cfg s fields field (c ∷ rest) p e =
    elim (cases_Bool (is_end (step cfg s c).1)) [
      | inl ends ↦ let f = rw ends at e in grind arith
      | inr goes ↦ let f = rw goes at e in
          let h = shorter cfg (step cfg s c).0 (fields_after (step cfg s c).1 fields field) (field_after (step cfg s c).1 c field) rest p f in omega arith
    ]

-- a record that begins before the end takes a byte
takes : (cfg : Config) (s : State) (c : ℕ) (rest : List ℕ) (p : Read) → next_record cfg s [] [] (c ∷ rest) ≡ Some p → length p.2 ≤ length rest
unfolding next_record
takes cfg s c rest p e =
    elim (cases_Bool (is_end (step cfg s c).1)) [
      | inl ends ↦ let f = rw ends at e in grind arith
      | inr goes ↦ let f = rw goes at e in
          shorter cfg (step cfg s c).0 (fields_after (step cfg s c).1 [] []) (field_after (step cfg s c).1 c []) rest p f
    ]

-- a record at the end of the text is the last
last : (cfg : Config) (s : State) (p : Read) → next_record cfg s [] [] [] ≡ Some p → (p.1 ≡ st.StartRecord) × (p.2 ≡ [])
unfolding next_record
last cfg s p e = elim (cases_Bool (ends_at_end s)) [
  | inl ends ↦ let f = rw ends at e in (grind arith, grind arith)
  | inr goes ↦ let f = rw goes at e in cc f
]

at_end : (cfg : Config) (n : ℕ) → records_from cfg n st.StartRecord [] ≡ []
unfolding records_from next_record
at_end cfg zero = refl
at_end cfg (suc n) = refl

next_same : (o : Option Read) (f g : State → List ℕ → List (List (List ℕ))) → ((p : Read) → o ≡ Some p → f p.1 p.2 ≡ g p.1 p.2) → records_next f o ≡ records_next g o
next_same None f g h = refl
next_same (Some p) f g h = ap (λ (l : List (List (List ℕ))). p.0 ∷ l) (h p refl)

-- more turns than bytes are enough
same_turns : (cfg : Config) (n m : ℕ) (s : State) (xs : List ℕ) → length xs + 1 ≤ n → length xs + 1 ≤ m → records_from cfg n s xs ≡ records_from cfg m s xs
unfolding records_from
same_turns cfg zero m s xs h k = absurd (omega arith)
same_turns cfg (suc n) zero s xs h k = absurd (omega arith)
same_turns cfg (suc n) (suc m) s [] h k =
    next_same (next_record cfg s [] [] []) (records_from cfg n) (records_from cfg m)
    (λ p e. let (a, b) = last cfg s p e in rw (a, b, at_end cfg n, at_end cfg m) refl)
same_turns cfg (suc n) (suc m) s (c ∷ rest) h k =
    next_same (next_record cfg s [] [] (c ∷ rest)) (records_from cfg n) (records_from cfg m)
    (λ p e. let t = takes cfg s c rest p e in same_turns cfg n m p.1 p.2 (omega arith) (omega arith))

-- the record that a read took, and then the others
pub records_from-taken : (cfg : Config) (s s2 : State) (xs ys : List ℕ) (fields : List (List ℕ)) → next_record cfg s [] [] xs ≡ Some (fields, s2, ys)
    → records_from cfg (length xs + 1) s xs ≡ fields ∷ records_from cfg (length ys + 1) s2 ys
unfolding records_from
records_from-taken cfg s s2 [] ys fields e =
    let (a, b) = last cfg s (fields, s2, ys) e in rw (add-one, e, a, b, at_end cfg 0, at_end cfg 1) refl
records_from-taken cfg s s2 (c ∷ rest) ys fields e =
    let t = takes cfg s c rest (fields, s2, ys) e in
    let more = same_turns cfg (length {A = ℕ} (c ∷ rest)) (suc (length ys)) s2 ys (omega arith) (omega arith) in
    rw (add-one, e, add-one) (ap (λ (l : List (List (List ℕ))). fields ∷ l) more)

pub records_from-none : (cfg : Config) (s : State) (xs : List ℕ) → next_record cfg s [] [] xs ≡ None → records_from cfg (length xs + 1) s xs ≡ []
unfolding records_from
records_from-none cfg s xs e = rw (add-one, e) refl

-- a turn gives one record at most
length-records_from : (cfg : Config) (n : ℕ) (s : State) (xs : List ℕ) → length (records_from cfg n s xs) ≤ n
unfolding records_from
length-records_from cfg zero s xs = omega arith
length-records_from cfg (suc n) s xs = by (next_record cfg s [] [] xs) (length-records_from cfg n)
  where
    by : (o : Option Read) → ((s : State) (xs : List ℕ) → length (records_from cfg n s xs) ≤ n) → length (records_next (records_from cfg n) o) ≤ suc n
    by None h = omega arith
    by (Some p) h = omega (arith, h p.1 p.2)

length-strip_bom : (bytes : List ℕ) → length (strip_bom bytes) ≤ length bytes
unfolding strip_bom
length-strip_bom [] = omega arith
length-strip_bom (a ∷ []) = omega arith
length-strip_bom (a ∷ b ∷ []) = omega arith
length-strip_bom (a ∷ b ∷ c ∷ rest) = elim (cases_Bool (is_bom a b c)) [
  | inl mark ↦ rw mark (omega arith)
  | inr other ↦ rw other (omega arith)
]

-- a file has not many more rows than bytes
pub few_rows : (bytes unread : List ℕ) (cfg : Config) (s : State) → unread ≡ strip_bom bytes → length (records_from cfg (length unread + 1) s unread) ≤ length bytes + 1
few_rows bytes unread cfg s e =
    let size : length unread ≤ length bytes = rw e (length-strip_bom bytes) in
    omega (arith, length-records_from cfg (length unread + 1) s unread)
