-- Kinds that have just one operand, which may be any number.
use Rattle.std.proofs.Common.{◌≡◌, ◌≤◌, ℕ, Bool, true, false, Ok, drop, length, nat_le, refl, subst, arith}
use Rattle.std.specs.Prelude.{◌&&◌, ◌==◌, ◌≢◌, if◌then◌else◌}
use Rattle.std.specs.Int.{w32, cast_signed}
use Rattle.oc_isa.specs.declared.instr.Instr.{Instr}
use Rattle.oc_isa.specs.declared.instr.Instr.TheVariants.{Push, Load, Store, Nload, Nstore, Addr, Naddr, Index, Jump, Jfalse, Call, Ret, Retv, Sense, Emit, Enter}
use Rattle.oc_isa.specs.Bytes.{Bytes}
use Rattle.oc_verify.specs.Reading.{Read, any_operand, front_number, if_in, number_at, operands_at}
use Rattle.oc_verify.specs.Reads.{instr_with}
use Rattle.oc_verify.proofs.FieldLaws.{ok_pair}

-- this kind, or one of those behind it
this_or : (kind k : ℕ) (this behind : ℕ → Instr) (next : Read Instr) (bs : Bytes) → (kind ≢ k → next ≡ any_operand behind bs)
    → (if kind == k then any_operand this bs else next) ≡ any_operand (λ n. if kind == k then this n else behind n) bs
this_or kind k this behind next bs h = by (kind == k) refl
  where
    by : (b : Bool) → (kind == k) ≡ b → (if b then any_operand this bs else next) ≡ any_operand (λ n. if b then this n else behind n) bs
    by true e = refl
    by false e = h (λ q. let t : (kind == k) ≡ true = grind (arith, q) in absurd (cc))

not_this : (kind k : ℕ) (this next read : Read Instr) → kind ≢ k → next ≡ read → (if kind == k then this else next) ≡ read
not_this kind k this next read n e = by (kind == k) refl
  where
    by : (b : Bool) → (kind == k) ≡ b → (if b then this else next) ≡ read
    by true t = absurd (n (grind (arith, t)))
    by false t = e

just_this : (kind k : ℕ) (this next : Read Instr) → kind ≡ k → (if kind == k then this else next) ≡ this
just_this kind k this next e = by (kind == k) refl
  where
    by : (b : Bool) → (kind == k) ≡ b → (if b then this else next) ≡ this
    by true t = refl
    by false t = let s : (kind == k) ≡ true = grind (arith, e) in absurd (cc)

pub one_operand : (kind : ℕ) (bs : Bytes) → 1 ≤ kind → kind ≤ 24 → kind ≢ 8 → kind ≢ 9 → kind ≢ 11 → kind ≢ 12 → kind ≢ 18 → kind ≢ 21 → kind ≢ 24
    → operands_at kind bs ≡ any_operand (instr_with kind) bs
one_operand kind bs l u n8 n9 n11 n12 n18 n21 n24 =
    this_or kind 1 (λ n. Push (cast_signed w32 n)) _ _ bs (λ n1.
    this_or kind 2 (λ n. Load n) _ _ bs (λ n2.
    this_or kind 3 (λ n. Store n) _ _ bs (λ n3.
    this_or kind 4 (λ n. Nload n) _ _ bs (λ n4.
    this_or kind 5 (λ n. Nstore n) _ _ bs (λ n5.
    this_or kind 6 (λ n. Addr n) _ _ bs (λ n6.
    this_or kind 7 (λ n. Naddr n) _ _ bs (λ n7.
    not_this kind 8 _ _ _ n8 (
    not_this kind 9 _ _ _ n9 (
    this_or kind 10 (λ n. Index n) _ _ bs (λ n10.
    not_this kind 11 _ _ _ n11 (
    not_this kind 12 _ _ _ n12 (
    this_or kind 13 (λ n. Jump n) _ _ bs (λ n13.
    this_or kind 14 (λ n. Jfalse n) _ _ bs (λ n14.
    this_or kind 15 (λ n. Call n) _ _ bs (λ n15.
    this_or kind 16 (λ n. Ret n) _ _ bs (λ n16.
    this_or kind 17 (λ n. Retv n) _ _ bs (λ n17.
    not_this kind 18 _ _ _ n18 (
    this_or kind 19 (λ n. Sense n) _ _ bs (λ n19.
    this_or kind 20 (λ n. Emit n) _ _ bs (λ n20.
    not_this kind 21 _ _ _ n21 (
    this_or kind 22 (λ n. Enter n) _ _ bs (λ n22.
    just_this kind 23 _ _ (omega (arith, l, u, n1, n2, n3, n4, n5, n6, n7, n8, n9, n10, n11, n12, n13, n14, n15, n16, n17, n18, n19, n20, n21, n22, n24))))))))))))))))))))))))

-- what was read as a number between two others lies there
pub between : (low high : ℕ) (bs : Bytes) (n : ℕ) (rest : Bytes) → number_at low high bs ≡ Ok (n, rest) → (low ≤ n) × (n ≤ high)
unfolding number_at
between low high bs n rest e = by (nat_le 4 (length bs)) (nat_le low (front_number bs)) (nat_le (front_number bs) high) refl refl e
  where
    by : (a b c : Bool) → nat_le low (front_number bs) ≡ b → nat_le (front_number bs) high ≡ c
        → if_in a bs (if_in (b && c) bs (Ok (front_number bs, drop 4 bs))) ≡ Ok (n, rest) → (low ≤ n) × (n ≤ high)
    by true true true p q f =
        let s = (ok_pair (front_number bs) n (drop 4 bs) rest f).0 in
        let l : low ≤ front_number bs = grind (arith, p) in
        let u : front_number bs ≤ high = grind (arith, q) in
        (subst (λ m. low ≤ m) s l, subst (λ m. m ≤ high) s u)
    by true true false p q f = absurd (cc)
    by true false c p q f = absurd (cc)
    by false b c p q f = absurd (cc)
