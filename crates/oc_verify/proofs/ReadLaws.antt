-- Fields are read back.
use Rattle.std.proofs.Common.{append_assoc, ◌≡◌, ℕ, ◌<◌, ◌≤◌, ◌^◌, List, [], ◌∷◌, ◌++◌, length, take, drop, Ok, refl, ap, ◌∙◌, arith, true, nat_le}
use Rattle.std.proofs.lemmas.Bool.{and_from}
use Rattle.std.specs.Prelude.{◌&&◌}
use Rattle.std.specs.List.{flat_map, All}
use Rattle.std.specs.Int.{w32, from_le_bytes}
use Rattle.std.proofs.lemmas.Nat.{from_le_bytes-to_le_bytes_4}
use Rattle.std.proofs.lemmas.List.Elements.{All-head, All-tail}
use Rattle.oc_tree.specs.declared.said.Target.{Target}
use Rattle.oc_tree.specs.declared.said.Target.TheVariants.{Nv, Param}
use Rattle.oc_isa.specs.Bytes.{Bytes, number_bytes, target_bytes, list_bytes}
use Rattle.oc_verify.specs.Reading.{Read, ◌>>=◌, if_in, target_by, number_at, any_at, greatest, many_at, target_at, list_at, IsNumber, AreNumbers, target_numbers, front_number}

number_four : (n : ℕ) (rest : Bytes) → take 4 (number_bytes n ++ rest) ≡ number_bytes n
unfolding number_bytes
number_four n rest = refl

number_behind : (n : ℕ) (rest : Bytes) → drop 4 (number_bytes n ++ rest) ≡ rest
unfolding number_bytes
number_behind n rest = refl

number_long : (n : ℕ) (rest : Bytes) → nat_le 4 (length (number_bytes n ++ rest)) ≡ true
unfolding number_bytes
number_long n rest = grind arith

number_is : (n : ℕ) → n < 2 ^ 32 → from_le_bytes w32 (number_bytes n) ≡ n
unfolding number_bytes
number_is n s = from_le_bytes-to_le_bytes_4 n s

pub number_back : (low high n : ℕ) (rest : Bytes) → low ≤ n → n ≤ high → n < 2 ^ 32 → number_at low high (number_bytes n ++ rest) ≡ Ok (n, rest)
unfolding number_at
number_back low high n rest l h s =
    let bs : Bytes = number_bytes n ++ rest in
    let v : front_number bs ≡ n = ap (from_le_bytes w32) (number_four n rest) ∙ number_is n s in
    let a : nat_le low n ≡ true = grind (arith, l) in
    let b : nat_le n high ≡ true = grind (arith, h) in
    ap (λ t. if_in t bs (if_in (nat_le low (front_number bs) && nat_le (front_number bs) high) bs (Ok (front_number bs, drop 4 bs)))) (number_long n rest)
    ∙ ap (λ m. if_in (nat_le low m && nat_le m high) bs (Ok (m, drop 4 bs))) v
    ∙ ap (λ t. if_in t bs (Ok (n, drop 4 bs))) (and_from (nat_le low n) (nat_le n high) a b)
    ∙ ap (λ r. Ok (n, r)) (number_behind n rest)

pub any_back : (n : ℕ) (rest : Bytes) → IsNumber n → any_at (number_bytes n ++ rest) ≡ Ok (n, rest)
any_back n rest s = number_back 0 greatest n rest (omega arith) (omega (arith, s)) s

-- so many, where each is read back
pub many_back : {A : Type 0} (one : Bytes → Read A) (bytes : A → Bytes) (P : A → Type 0) → ((x : A) (rest : Bytes) → P x → one (bytes x ++ rest) ≡ Ok (x, rest))
    → (xs : List A) (rest : Bytes) → All P xs → many_at one (length xs) (flat_map bytes xs ++ rest) ≡ Ok (xs, rest)
unfolding many_at
many_back one bytes P back [] rest h = refl
many_back one bytes P back (x ∷ xs) rest h =
    ap (λ bs. one bs >>= λ y. many_at one (length xs) y.1 >>= λ ys. Ok (y.0 ∷ ys.0, ys.1)) (append_assoc (bytes x) (flat_map bytes xs) rest)
    ∙ ap (λ r. r >>= λ y. many_at one (length xs) y.1 >>= λ ys. Ok (y.0 ∷ ys.0, ys.1)) (back x (flat_map bytes xs ++ rest) (All-head P x xs h))
    ∙ ap (λ r. r >>= λ ys. Ok (x ∷ ys.0, ys.1)) (many_back one bytes P back xs rest (All-tail P x xs h))

-- a list with its length
pub list_back : {A : Type 0} (one : Bytes → Read A) (bytes : A → Bytes) (P : A → Type 0) → ((x : A) (rest : Bytes) → P x → one (bytes x ++ rest) ≡ Ok (x, rest))
    → (xs : List A) (rest : Bytes) → IsNumber (length xs) → All P xs → list_at one (list_bytes bytes xs ++ rest) ≡ Ok (xs, rest)
list_back one bytes P back xs rest few h =
    ap (λ bs. any_at bs >>= λ n. many_at one n.0 n.1) (append_assoc (number_bytes (length xs)) (flat_map bytes xs) rest)
    ∙ ap (λ r. r >>= λ n. many_at one n.0 n.1) (any_back (length xs) (flat_map bytes xs ++ rest) few)
    ∙ many_back one bytes P back xs rest h

-- three numbers, one after the other
three : (a b c rest : Bytes) → (a ++ (b ++ c)) ++ rest ≡ a ++ (b ++ (c ++ rest))
three a b c rest = append_assoc a (b ++ c) rest ∙ ap (λ s. a ++ s) (append_assoc b c rest)

pub target_back : (t : Target) (rest : Bytes) → AreNumbers (target_numbers t) → target_at (target_bytes t ++ rest) ≡ Ok (t, rest)
target_back (Nv base len) rest h =
    ap target_at (three (number_bytes 0) (number_bytes base) (number_bytes len) rest)
    ∙ ap (λ r. r >>= λ t. any_at t.1 >>= λ a. any_at a.1 >>= λ b. Ok (target_by t.0 a.0 b.0, b.1))
    (number_back 0 1 0 (number_bytes base ++ (number_bytes len ++ rest)) (omega arith) (omega arith) (omega arith))
    ∙ ap (λ r. r >>= λ a. any_at a.1 >>= λ b. Ok (target_by 0 a.0 b.0, b.1)) (any_back base (number_bytes len ++ rest) h.1)
    ∙ ap (λ r. r >>= λ b. Ok (target_by 0 base b.0, b.1)) (any_back len rest h.2)
target_back (Param slot len) rest h =
    ap target_at (three (number_bytes 1) (number_bytes slot) (number_bytes len) rest)
    ∙ ap (λ r. r >>= λ t. any_at t.1 >>= λ a. any_at a.1 >>= λ b. Ok (target_by t.0 a.0 b.0, b.1))
    (number_back 0 1 1 (number_bytes slot ++ (number_bytes len ++ rest)) (omega arith) (omega arith) (omega arith))
    ∙ ap (λ r. r >>= λ a. any_at a.1 >>= λ b. Ok (target_by 1 a.0 b.0, b.1)) (any_back slot (number_bytes len ++ rest) h.1)
    ∙ ap (λ r. r >>= λ b. Ok (target_by 1 slot b.0, b.1)) (any_back len rest h.2)

pub regions_back : (rs : List (List Target)) (rest : Bytes) → IsNumber (length rs) → All (λ ts. IsNumber (length ts) × All (λ t. AreNumbers (target_numbers t)) ts) rs
    → list_at (list_at target_at) (list_bytes (list_bytes target_bytes) rs ++ rest) ≡ Ok (rs, rest)
regions_back rs rest few h =
    list_back (list_at target_at) (list_bytes target_bytes) (λ ts. IsNumber (length ts) × All (λ t. AreNumbers (target_numbers t)) ts)
    (λ ts back k. list_back target_at target_bytes (λ t. AreNumbers (target_numbers t)) target_back ts back k.0 k.1) rs rest few h
