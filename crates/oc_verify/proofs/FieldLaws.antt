-- What a field was read from: its own bytes; a fault lies inside of what was to be read.
use Rattle.std.proofs.Common.{append_assoc, ◌≡◌, ℕ, zero, suc, ◌+◌, ◌<◌, ◌≤◌, ◌^◌, List, [], ◌∷◌, ◌++◌, length, length-append, take, drop, get_or, Result, Ok, Err, refl, sym, ap}
use Rattle.std.proofs.lemmas.Bool.{and_parts}
use Rattle.std.proofs.Common.{◌∙◌, subst, arith, Bool, true, false, nat_le}
use Rattle.std.specs.Prelude.{◌&&◌, FitsSigned}
use Rattle.std.specs.List.{flat_map, All}
use Rattle.std.specs.Int.{w32, cast_signed, cast_unsigned}
use Rattle.std.proofs.lemmas.Nat.{le_bytes_4}
use Rattle.std.proofs.lemmas.Int.{of_z-to_z}
use Rattle.std.proofs.lemmas.List.{take-append-drop, length-take}
use Rattle.std.proofs.lemmas.List.Elements.{All-nil, All-cons}
use borrow.Author.Gap.{read_sfits}
use Rattle.oc_isa.specs.Bytes.{Bytes, number_bytes, word_bytes, list_bytes, IsFew}
use Rattle.oc_verify.specs.Reading.{Read, ◌>>=◌, if_in, number_at, any_at, word_at, greatest, many_at, list_at, IsNumber, front_number}

abbrev pub AreBytes : Bytes → Type 0
AreBytes bs = (i : ℕ) → get_or bs i 0 < 256

pub bytes_front : (n : ℕ) (bs : Bytes) → AreBytes bs → AreBytes (take n bs)
bytes_front zero bs h i = omega arith
bytes_front (suc n) [] h i = omega arith
bytes_front (suc n) (b ∷ bs) h zero = h 0
bytes_front (suc n) (b ∷ bs) h (suc i) = bytes_front n bs (λ j. h (suc j)) i

pub bytes_behind : (n : ℕ) (bs : Bytes) → AreBytes bs → AreBytes (drop n bs)
bytes_behind zero bs h = h
bytes_behind (suc n) [] h = h
bytes_behind (suc n) (b ∷ bs) h = bytes_behind n bs (λ j. h (suc j))

pub bytes_last : (xs ys : Bytes) → AreBytes (xs ++ ys) → AreBytes ys
bytes_last [] ys h = h
bytes_last (x ∷ xs) ys h = bytes_last xs ys (λ j. h (suc j))

-- the bytes of a field, what is known of it, and what is behind it
pub record Was {A : Type 0} (bytes : A → Bytes) (P : A → Type 0) (bs : Bytes) (x : A) (rest : Bytes) : Type 0 where
  pub is : bs ≡ bytes x ++ rest
  pub fine : P x
  pub behind : AreBytes rest

-- a field is read from its bytes alone
pub record IsField {A : Type 0} (one : Bytes → Read A) (bytes : A → Bytes) (P : A → Type 0) : Type 0 where
  pub good : (bs : Bytes) → AreBytes bs → (x : A) (rest : Bytes) → one bs ≡ Ok (x, rest) → Was bytes P bs x rest
  pub bad : (bs : Bytes) → AreBytes bs → (left : ℕ) → one bs ≡ Err left → left ≤ length bs

pub shorter : (xs ys bs : Bytes) → bs ≡ xs ++ ys → length ys ≤ length bs
shorter xs ys bs e = let n : length bs ≡ length xs + length ys = ap length e ∙ length-append xs ys in omega (arith, n)

-- two steps

pub bind_good : {A B : Type 0} (r : Read A) (f : A × Bytes → Result B ℕ) (y : B) → (r >>= f) ≡ Ok y → (x : A) × (rest : Bytes) × (r ≡ Ok (x, rest)) × (f (x, rest) ≡ Ok y)
bind_good (Ok x) f y e = (x.0, x.1, refl, e)
bind_good (Err k) f y e = absurd (cc)

pub bind_bad : {A B : Type 0} (r : Read A) (f : A × Bytes → Result B ℕ) (left n : ℕ) → (r >>= f) ≡ Err left → (r ≡ Err left → left ≤ n)
    → ((x : A) (rest : Bytes) → r ≡ Ok (x, rest) → f (x, rest) ≡ Err left → left ≤ n) → left ≤ n
bind_bad (Ok x) f left n e h k = k x.0 x.1 refl e
bind_bad (Err j) f left n e h k = h (let q : j ≡ left = (cc) in ap Err q)

-- what follows a field
pub then_bad : {A B : Type 0} (one : Bytes → Read A) (bytes : A → Bytes) (P : A → Type 0) → IsField one bytes P → (bs : Bytes) → AreBytes bs
    → (f : A × Bytes → Result B ℕ) (left : ℕ) → (one bs >>= f) ≡ Err left
    → ((x : A) (rest : Bytes) → Was bytes P bs x rest → f (x, rest) ≡ Err left → left ≤ length rest) → left ≤ length bs
then_bad one bytes P F bs h f left e k = bind_bad (one bs) f left (length bs) e (λ q. F.bad bs h left q) (λ x rest q g. let w = F.good bs h x rest q in let s =
    shorter (bytes x) rest bs w.is in let t = k x rest w g in omega (arith, s, t))

-- tests

pub if_good : {A : Type 0} (b : Bool) (bs : Bytes) (go : Read A) (y : A × Bytes) → if_in b bs go ≡ Ok y → (b ≡ true) × (go ≡ Ok y)
if_good true bs go y e = (refl, e)
if_good false bs go y e = absurd (cc)

pub if_bad : {A : Type 0} (b : Bool) (bs : Bytes) (go : Read A) (left : ℕ) → if_in b bs go ≡ Err left → (go ≡ Err left → left ≤ length bs) → left ≤ length bs
if_bad true bs go left e h = h e
if_bad false bs go left e h = let q : length bs ≡ left = (cc) in omega (arith, q)

pub pair_of : {A B : Type 0} (a c : A) (b d : B) → ◌≡◌ {A = A × B} (a, b) (c, d) → (a ≡ c) × (b ≡ d)
pair_of a c b d e = (ap (λ q. q.0) e, ap (λ q. q.1) e)

pub ok_pair : {A : Type 0} (a c : A) (b d : Bytes) → ◌≡◌ {A = Read A} (Ok (a, b)) (Ok (c, d)) → (a ≡ c) × (b ≡ d)
ok_pair {A = A} a c b d e = let q : ◌≡◌ {A = A × Bytes} (a, b) (c, d) = (cc) in pair_of a c b d q

-- numbers

number_of_four : (bs : Bytes) → AreBytes bs → 4 ≤ length bs → (number_bytes (front_number bs) ≡ take 4 bs)
unfolding number_bytes
number_of_four bs h l = le_bytes_4 (take 4 bs) (front_number bs) (let n = length-take 4 bs in omega (arith, n, l)) (bytes_front 4 bs h) refl

four_small : (bs : Bytes) → AreBytes bs → front_number bs < 2 ^ 32
four_small [] h = omega arith
four_small (a ∷ []) h = let x = h 0 in omega (arith, x)
four_small (a ∷ (b ∷ [])) h = let x = h 0 in let y = h 1 in omega (arith, x, y)
four_small (a ∷ (b ∷ (c ∷ []))) h = let x = h 0 in let y = h 1 in let z = h 2 in omega (arith, x, y, z)
four_small (a ∷ (b ∷ (c ∷ (d ∷ bs)))) h = let x = h 0 in let y = h 1 in let z = h 2 in let w = h 3 in omega (arith, x, y, z, w)

abbrev pub IsBetween : (low high n : ℕ) → Type 0
IsBetween low high n = IsNumber n × (low ≤ n) × (n ≤ high)

pub number_field : (low high : ℕ) → IsField (number_at low high) number_bytes (IsBetween low high)
unfolding number_at
number_field low high = record {
  good = λ bs h x rest e.
      let a = if_good (nat_le 4 (length bs)) bs (if_in (nat_le low (front_number bs) && nat_le (front_number bs) high) bs (Ok (front_number bs, drop 4 bs))) (x, rest) e in
      let b = if_good (nat_le low (front_number bs) && nat_le (front_number bs) high) bs (Ok (front_number bs, drop 4 bs)) (x, rest) a.1 in
      let q = ok_pair (front_number bs) x (drop 4 bs) rest b.1 in
      let four : 4 ≤ length bs = grind (arith, a.0) in
      let l : low ≤ front_number bs = (let t : nat_le low (front_number bs) ≡ true = (and_parts (nat_le low (front_number bs)) (nat_le (front_number bs) high) b.0).0 in grind (arith, t)) in
      let u : front_number bs ≤ high = (let t : nat_le (front_number bs) high ≡ true = (and_parts (nat_le low (front_number bs)) (nat_le (front_number bs) high) b.0).1 in grind (arith, t)) in
      let whole : bs ≡ number_bytes (front_number bs) ++ drop 4 bs = sym (take-append-drop 4 bs) ∙ ap (λ l. l ++ drop 4 bs) (sym (number_of_four bs h four)) in
      record {
        is = whole ∙ (λ j. number_bytes (q.0 j) ++ q.1 j);
        fine = subst (IsBetween low high) q.0 (four_small bs h, l, u);
        behind = subst AreBytes q.1 (bytes_behind 4 bs h);
      };
  bad = λ bs h left e.
      if_bad (nat_le 4 (length bs)) bs (if_in (nat_le low (front_number bs) && nat_le (front_number bs) high) bs (Ok (front_number bs, drop 4 bs))) left e
      (λ f. if_bad (nat_le low (front_number bs) && nat_le (front_number bs) high) bs (Ok (front_number bs, drop 4 bs)) left f (λ g. absurd (cc)));
}

pub any_field : IsField any_at number_bytes IsNumber
any_field = record {
  good = λ bs h x rest e. let w = (number_field 0 greatest).good bs h x rest e in record { is = w.is; fine = w.fine.0; behind = w.behind };
  bad = (number_field 0 greatest).bad;
}

pub signed_fits : (n : ℕ) → FitsSigned w32 (cast_signed w32 n)
signed_fits n = read_sfits w32 n

pub word_field : IsField word_at word_bytes (FitsSigned w32)
word_field = record {
  good = λ bs h x rest e.
      let s = bind_good (any_at bs) (λ n. Ok (cast_signed w32 n.0, n.1)) (x, rest) e in
      let w = any_field.good bs h s.0 s.1 s.2 in
      let q = ok_pair (cast_signed w32 s.0) x s.1 rest s.3 in
      let back : cast_unsigned w32 (cast_signed w32 s.0) ≡ s.0 = of_z-to_z w32 s.0 w.fine in
      record {
        is = w.is ∙ ap (λ n. number_bytes n ++ s.1) (sym back) ∙ (λ j. word_bytes (q.0 j) ++ q.1 j);
        fine = subst (FitsSigned w32) q.0 (signed_fits s.0);
        behind = subst AreBytes q.1 w.behind;
      };
  bad = λ bs h left e. then_bad any_at number_bytes IsNumber any_field bs h (λ n. Ok (cast_signed w32 n.0, n.1)) left e (λ x rest w f. absurd (cc));
}

-- lists

module _ {A : Type 0} (one : Bytes → Read A) (bytes : A → Bytes) (P : A → Type 0) (F : IsField one bytes P) where
  abbrev AreMany : ℕ → Bytes → List A → Bytes → Type 0
  AreMany n bs xs rest = Was (flat_map bytes) (λ ys. (length ys ≡ n) × All P ys) bs xs rest

  many_good : (n : ℕ) (bs : Bytes) → AreBytes bs → (xs : List A) (rest : Bytes) → many_at one n bs ≡ Ok (xs, rest) → AreMany n bs xs rest
  unfolding many_at
  many_good zero bs h xs rest e = let q = ok_pair [] xs bs rest e in subst (λ ys. AreMany 0 bs ys rest) q.0 (record { is = q.1; fine = (refl, All-nil P); behind = subst AreBytes q.1 h })
  many_good (suc n) bs h xs rest e =
      let s = bind_good (one bs) (λ x. many_at one n x.1 >>= λ ys. Ok (x.0 ∷ ys.0, ys.1)) (xs, rest) e in
      let w = F.good bs h s.0 s.1 s.2 in
      let t = bind_good (many_at one n s.1) (λ ys. Ok (s.0 ∷ ys.0, ys.1)) (xs, rest) s.3 in
      let v = many_good n s.1 w.behind t.0 t.1 t.2 in
      let q = ok_pair (s.0 ∷ t.0) xs t.1 rest t.3 in
      subst (λ ys. AreMany (suc n) bs ys rest) q.0 (record {
        is = w.is ∙ ap (λ l. bytes s.0 ++ l) (v.is ∙ ap (λ l. flat_map bytes t.0 ++ l) q.1) ∙ sym (append_assoc (bytes s.0) (flat_map bytes t.0) rest);
        fine = (ap suc v.fine.0, All-cons P s.0 t.0 w.fine v.fine.1);
        behind = subst AreBytes q.1 v.behind;
      })

  many_bad : (n : ℕ) (bs : Bytes) → AreBytes bs → (left : ℕ) → many_at one n bs ≡ Err left → left ≤ length bs
  unfolding many_at
  many_bad zero bs h left e = absurd (cc)
  many_bad (suc n) bs h left e = then_bad one bytes P F bs h (λ x. many_at one n x.1 >>= λ ys. Ok (x.0 ∷ ys.0, ys.1)) left e
      (λ x rest w f. bind_bad (many_at one n rest) (λ ys. Ok (x ∷ ys.0, ys.1)) left (length rest) f (λ q. many_bad n rest w.behind left q) (λ y more q g. absurd (cc)))

  pub list_field : IsField (list_at one) (list_bytes bytes) (λ xs. IsFew xs × All P xs)
  list_field = record {
    good = λ bs h x rest e.
        let s = bind_good (any_at bs) (λ n. many_at one n.0 n.1) (x, rest) e in
        let w = any_field.good bs h s.0 s.1 s.2 in
        let v = many_good s.0 s.1 w.behind x rest s.3 in
        record {
          is = w.is ∙ (λ j. number_bytes (sym v.fine.0 j) ++ v.is j) ∙ sym (append_assoc (number_bytes (length x)) (flat_map bytes x) rest);
          fine = (subst IsNumber (sym v.fine.0) w.fine, v.fine.1);
          behind = v.behind;
        };
    bad = λ bs h left e. then_bad any_at number_bytes IsNumber any_field bs h (λ n. many_at one n.0 n.1) left e (λ x rest w f. many_bad x rest w.behind left f);
  }
