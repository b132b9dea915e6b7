-- What targets and instructions were read from.
use Rattle.std.proofs.Common.{append_assoc, ◌≡◌, ℕ, zero, suc, ◌≤◌, ◌++◌, length, Result, Ok, Err, refl, sym, ap, ◌∙◌, subst, arith, Bool, true, false}
use Rattle.std.specs.Prelude.{◌==◌, ◌≢◌, if◌then◌else◌}
use Rattle.std.specs.Int.{w32, cast_signed}
use Rattle.std.proofs.lemmas.Int.{of_z-to_z}
use Rattle.oc_isa.specs.declared.instr.Placed.{Placed}
use Rattle.oc_isa.specs.declared.instr.Instr.{Instr}
use Rattle.oc_isa.specs.declared.instr.Instr.TheVariants.{Push, Load, Store, Nload, Nstore, Addr, Naddr, Get, Put, Index, Bin, Un, Jump, Jfalse, Call, Ret, Retv, Drop, Sense, Emit}
use Rattle.oc_isa.specs.declared.instr.Instr.TheVariants.{Probe, Enter, Commit, Halt}
use Rattle.oc_isa.specs.Bytes.{Bytes, number_bytes, target_bytes, instr_numbers, binary_number, unary_number, probe_number, placed_bytes}
use Rattle.oc_verify.specs.Reading.{Read, ◌>>=◌, number_at, any_at, greatest, unused_at, operand_at, one_at, any_operand, none_at, operands_at, probe_at, placed_at, target_at}
use Rattle.oc_verify.specs.Reading.{target_by, target_numbers, binary_by, unary_by, probe_by, IsNumber, AreNumbers, PushesWord, IsInstr}
use Rattle.oc_verify.proofs.FieldLaws.{AreBytes, IsField, IsBetween, bind_good, bind_bad, then_bad, ok_pair, number_field, any_field, signed_fits}

abbrev triple : ℕ → ℕ → ℕ → ℕ × ℕ × ℕ
triple a b c = (a, b, c)

-- three numbers, one after the other
three : (a b c rest : Bytes) → a ++ (b ++ (c ++ rest)) ≡ (a ++ (b ++ c)) ++ rest
three a b c rest = sym (append_assoc a (b ++ c) rest ∙ ap (λ s. a ++ s) (append_assoc b c rest))

target_of : (t a b : ℕ) (rest : Bytes) → t ≤ 1 → (number_bytes t ++ (number_bytes a ++ (number_bytes b ++ rest)) ≡ target_bytes (target_by t a b) ++ rest) ×
    (target_numbers (target_by t a b) ≡ triple t a b)
target_of zero a b rest h = (three (number_bytes 0) (number_bytes a) (number_bytes b) rest, refl)
target_of (suc zero) a b rest h = (three (number_bytes 1) (number_bytes a) (number_bytes b) rest, refl)
target_of (suc (suc t)) a b rest h = absurd (omega (arith, h))

pub target_field : IsField target_at target_bytes (λ t. AreNumbers (target_numbers t))
target_field = record {
  good = λ bs h x rest e.
      let s = bind_good (number_at 0 1 bs) (λ t. any_at t.1 >>= λ a. any_at a.1 >>= λ b. Ok (target_by t.0 a.0 b.0, b.1)) (x, rest) e in
      let w = (number_field 0 1).good bs h s.0 s.1 s.2 in
      let t = bind_good (any_at s.1) (λ a. any_at a.1 >>= λ b. Ok (target_by s.0 a.0 b.0, b.1)) (x, rest) s.3 in
      let v = any_field.good s.1 w.behind t.0 t.1 t.2 in
      let u = bind_good (any_at t.1) (λ b. Ok (target_by s.0 t.0 b.0, b.1)) (x, rest) t.3 in
      let z = any_field.good t.1 v.behind u.0 u.1 u.2 in
      let q = ok_pair (target_by s.0 t.0 u.0) x u.1 rest u.3 in
      let is = target_of s.0 t.0 u.0 u.1 w.fine.2 in
      let numbers : AreNumbers (triple s.0 t.0 u.0) = (w.fine.0, v.fine, z.fine) in
      record {
        is = w.is ∙ ap (λ l. number_bytes s.0 ++ l) (v.is ∙ ap (λ l. number_bytes t.0 ++ l) z.is) ∙ is.0 ∙ (λ j. target_bytes (q.0 j) ++ q.1 j);
        fine = subst (λ y. AreNumbers (target_numbers y)) q.0 (subst AreNumbers (sym is.1) numbers);
        behind = subst AreBytes q.1 z.behind;
      };
  bad = λ bs h left e.
      then_bad (number_at 0 1) number_bytes (IsBetween 0 1) (number_field 0 1) bs h (λ t. any_at t.1 >>= λ a. any_at a.1 >>= λ b. Ok (target_by t.0 a.0 b.0, b.1)) left e
      (λ t r w f. then_bad any_at number_bytes IsNumber any_field r w.behind (λ a. any_at a.1 >>= λ b. Ok (target_by t a.0 b.0, b.1)) left f
      (λ a r' v g. then_bad any_at number_bytes IsNumber any_field r' v.behind (λ b. Ok (target_by t a b.0, b.1)) left g (λ b r'' u k. absurd (cc))));
}

-- Operands

-- the operands of a kind, as they were read
record Had (kind : ℕ) (bs : Bytes) (x : Instr) (rest : Bytes) : Type 0 where
  kind_is : (instr_numbers x).0 ≡ kind
  is : bs ≡ number_bytes (instr_numbers x).1 ++ (number_bytes (instr_numbers x).2 ++ rest)
  first : IsNumber (instr_numbers x).1
  second : IsNumber (instr_numbers x).2
  word : PushesWord x
  behind : AreBytes rest

-- what the readers of operands keep
record Gives (kind : ℕ) (read : Bytes → Read Instr) : Type 0 where
  good : (bs : Bytes) → AreBytes bs → (x : Instr) (rest : Bytes) → read bs ≡ Ok (x, rest) → Had kind bs x rest
  bad : (bs : Bytes) → AreBytes bs → (left : ℕ) → read bs ≡ Err left → left ≤ length bs

zero_field : (bs : Bytes) → AreBytes bs → (n : ℕ) (rest : Bytes) → number_at 0 0 bs ≡ Ok (n, rest) → (bs ≡ number_bytes 0 ++ rest) × AreBytes rest
zero_field bs h n rest e = let w = (number_field 0 0).good bs h n rest e in let z : n ≡ 0 = omega (arith, w.fine.2) in (w.is ∙ ap (λ m. number_bytes m ++ rest) z, w.behind)

none_gives : (x : Instr) (kind : ℕ) → instr_numbers x ≡ triple kind 0 0 → PushesWord x → Gives kind (none_at x)
unfolding unused_at
none_gives x kind n word = record {
  good = λ bs h y rest e.
      let s = by_unused bs h y rest e in
      let k : instr_numbers y ≡ triple kind 0 0 = ap instr_numbers (sym s.0) ∙ n in
      record {
        kind_is = ap (λ q. q.0) k;
        is = s.1 ∙ (λ j. number_bytes (sym (ap (λ q. q.1) k) j) ++ (number_bytes (sym (ap (λ q. q.2) k) j) ++ rest));
        first = subst IsNumber (sym (ap (λ q. q.1) k)) (omega arith);
        second = subst IsNumber (sym (ap (λ q. q.2) k)) (omega arith);
        word = subst PushesWord s.0 word;
        behind = s.2;
      };
  bad = λ bs h left e. by_bad bs h left e;
}
  where
    unused_good : (bs rest : Bytes) → AreBytes bs → unused_at bs ≡ Ok rest → (bs ≡ number_bytes 0 ++ (number_bytes 0 ++ rest)) × AreBytes rest
    unused_good bs rest h e =
        let s = bind_good (number_at 0 0 bs) (λ a. number_at 0 0 a.1 >>= λ b. Ok b.1) rest e in
        let v = zero_field bs h s.0 s.1 s.2 in
        let t = bind_good (number_at 0 0 s.1) (λ b. Ok b.1) rest s.3 in
        let w = zero_field s.1 v.1 t.0 t.1 t.2 in
        let q : t.1 ≡ rest = (cc) in
        (v.0 ∙ ap (λ l. number_bytes 0 ++ l) (w.0 ∙ ap (λ l. number_bytes 0 ++ l) q), subst AreBytes q w.1)

    unused_bad : (bs : Bytes) → AreBytes bs → (left : ℕ) → unused_at bs ≡ Err left → left ≤ length bs
    unused_bad bs h left e =
        then_bad (number_at 0 0) number_bytes (IsBetween 0 0) (number_field 0 0) bs h (λ a. number_at 0 0 a.1 >>= λ b. Ok b.1) left e
        (λ a r w f. then_bad (number_at 0 0) number_bytes (IsBetween 0 0) (number_field 0 0) r w.behind (λ b. Ok b.1) left f (λ b r' v g. absurd (cc)))

    by_unused : (bs : Bytes) → AreBytes bs → (y : Instr) (rest : Bytes) → none_at x bs ≡ Ok (y, rest) → (x ≡ y) × (bs ≡ number_bytes 0 ++ (number_bytes 0 ++ rest)) × AreBytes rest
    by_unused bs h y rest e = by (unused_at bs) refl e
      where
        by : (r : Result Bytes ℕ) → unused_at bs ≡ r → ◌≡◌ {A = Read Instr} (◌>>=◌ {B = Instr × Bytes} r (λ l. Ok (x, l))) (Ok (y, rest))
            → (x ≡ y) × (bs ≡ number_bytes 0 ++ (number_bytes 0 ++ rest)) × AreBytes rest
        by (Ok l) u f = let q = ok_pair x y l rest f in let w = unused_good bs l h u in (q.0, w.0 ∙ ap (λ m. number_bytes 0 ++ (number_bytes 0 ++ m)) q.1, subst AreBytes q.1 w.1)
        by (Err k) u f = absurd (cc)

    by_bad : (bs : Bytes) → AreBytes bs → (left : ℕ) → none_at x bs ≡ Err left → left ≤ length bs
    by_bad bs h left e = by (unused_at bs) refl e
      where
        by : (r : Result Bytes ℕ) → unused_at bs ≡ r → ◌≡◌ {A = Read Instr} (◌>>=◌ {B = Instr × Bytes} r (λ l. Ok (x, l))) (Err left) → left ≤ length bs
        by (Ok l) u f = absurd (cc)
        by (Err k) u f = let q : k ≡ left = (cc) in unused_bad bs h left (u ∙ ap Err q)

one_gives : (make : ℕ → Instr) (kind high : ℕ) → ((n : ℕ) → IsNumber n → n ≤ high → instr_numbers (make n) ≡ triple kind n 0) → ((n : ℕ) → IsNumber n → PushesWord (make n))
    → Gives kind (one_at make high)
unfolding operand_at
one_gives make kind high n word = record {
  good = λ bs h y rest e.
      let o = bind_good (operand_at high bs) (λ a. Ok (make a.0, a.1)) (y, rest) e in
      let s = bind_good (number_at 0 high bs) (λ a. number_at 0 0 a.1 >>= λ b. Ok (a.0, b.1)) (o.0, o.1) o.2 in
      let v = (number_field 0 high).good bs h s.0 s.1 s.2 in
      let t = bind_good (number_at 0 0 s.1) (λ b. Ok (s.0, b.1)) (o.0, o.1) s.3 in
      let w = zero_field s.1 v.behind t.0 t.1 t.2 in
      let p = ok_pair s.0 o.0 t.1 o.1 t.3 in
      let q = ok_pair (make o.0) y o.1 rest o.3 in
      let m : make s.0 ≡ y = ap make p.0 ∙ q.0 in
      let k : instr_numbers y ≡ triple kind s.0 0 = ap instr_numbers (sym m) ∙ n s.0 v.fine.0 v.fine.2 in
      record {
        kind_is = ap (λ q. q.0) k;
        is = v.is ∙ ap (λ l. number_bytes s.0 ++ l) (w.0 ∙ ap (λ l. number_bytes 0 ++ l) (p.1 ∙ q.1))
            ∙ (λ j. number_bytes (sym (ap (λ q. q.1) k) j) ++ (number_bytes (sym (ap (λ q. q.2) k) j) ++ rest));
        first = subst IsNumber (sym (ap (λ q. q.1) k)) v.fine.0;
        second = subst IsNumber (sym (ap (λ q. q.2) k)) (omega arith);
        word = subst PushesWord m (word s.0 v.fine.0);
        behind = subst AreBytes (p.1 ∙ q.1) w.1;
      };
  bad = λ bs h left e.
      bind_bad (operand_at high bs) (λ a. Ok (make a.0, a.1)) left (length bs) e
      (λ f. then_bad (number_at 0 high) number_bytes (IsBetween 0 high) (number_field 0 high) bs h (λ a. number_at 0 0 a.1 >>= λ b. Ok (a.0, b.1)) left f
      (λ a r w g. then_bad (number_at 0 0) number_bytes (IsBetween 0 0) (number_field 0 0) r w.behind (λ b. Ok (a, b.1)) left g (λ b r' v k. absurd (cc))))
      (λ a r q f. absurd (cc));
}

any_gives : (make : ℕ → Instr) (kind : ℕ) → ((n : ℕ) → IsNumber n → instr_numbers (make n) ≡ triple kind n 0) → ((n : ℕ) → IsNumber n → PushesWord (make n)) → Gives kind (any_operand make)
any_gives make kind n word = one_gives make kind greatest (λ m h l. n m h) word

binary_told : (n : ℕ) → n ≤ 10 → binary_number (binary_by n) ≡ n
binary_told zero h = refl
binary_told (suc zero) h = refl
binary_told (suc (suc zero)) h = refl
binary_told (suc (suc (suc zero))) h = refl
binary_told (suc (suc (suc (suc zero)))) h = refl
binary_told (suc (suc (suc (suc (suc zero))))) h = refl
binary_told (suc (suc (suc (suc (suc (suc zero)))))) h = refl
binary_told (suc (suc (suc (suc (suc (suc (suc zero))))))) h = refl
binary_told (suc (suc (suc (suc (suc (suc (suc (suc zero)))))))) h = refl
binary_told (suc (suc (suc (suc (suc (suc (suc (suc (suc zero))))))))) h = refl
binary_told (suc (suc (suc (suc (suc (suc (suc (suc (suc (suc zero)))))))))) h = refl
binary_told (suc (suc (suc (suc (suc (suc (suc (suc (suc (suc (suc n))))))))))) h = absurd (omega (arith, h))

unary_told : (n : ℕ) → n ≤ 1 → unary_number (unary_by n) ≡ n
unary_told zero h = refl
unary_told (suc zero) h = refl
unary_told (suc (suc n)) h = absurd (omega (arith, h))

probe_told : (n : ℕ) → n ≤ 2 → probe_number (probe_by n) ≡ n
probe_told zero h = refl
probe_told (suc zero) h = refl
probe_told (suc (suc zero)) h = refl
probe_told (suc (suc (suc n))) h = absurd (omega (arith, h))

probe_gives : Gives 21 probe_at
probe_gives = record {
  good = λ bs h y rest e.
      let s = bind_good (number_at 0 2 bs) (λ k. any_at k.1 >>= λ n. Ok (Probe (probe_by k.0) n.0, n.1)) (y, rest) e in
      let v = (number_field 0 2).good bs h s.0 s.1 s.2 in
      let t = bind_good (any_at s.1) (λ n. Ok (Probe (probe_by s.0) n.0, n.1)) (y, rest) s.3 in
      let w = any_field.good s.1 v.behind t.0 t.1 t.2 in
      let q = ok_pair (Probe (probe_by s.0) t.0) y t.1 rest t.3 in
      let n : instr_numbers (Probe (probe_by s.0) t.0) ≡ triple 21 s.0 t.0 = ap (λ m. triple 21 m t.0) (probe_told s.0 v.fine.2) in
      let k : instr_numbers y ≡ triple 21 s.0 t.0 = ap instr_numbers (sym q.0) ∙ n in
      record {
        kind_is = ap (λ q. q.0) k;
        is = v.is ∙ ap (λ l. number_bytes s.0 ++ l) (w.is ∙ ap (λ l. number_bytes t.0 ++ l) q.1) ∙ (λ j. number_bytes (sym (ap (λ q. q.1) k) j) ++ (number_bytes (sym (ap (λ q. q.2) k) j) ++ rest));
        first = subst IsNumber (sym (ap (λ q. q.1) k)) v.fine.0;
        second = subst IsNumber (sym (ap (λ q. q.2) k)) w.fine;
        word = subst PushesWord q.0 tt;
        behind = subst AreBytes q.1 w.behind;
      };
  bad = λ bs h left e.
      then_bad (number_at 0 2) number_bytes (IsBetween 0 2) (number_field 0 2) bs h (λ k. any_at k.1 >>= λ n. Ok (Probe (probe_by k.0) n.0, n.1)) left e
      (λ k r w f. then_bad any_at number_bytes IsNumber any_field r w.behind (λ n. Ok (Probe (probe_by k) n.0, n.1)) left f (λ n r' v g. absurd (cc)));
}

-- this kind, or another one
or_next : (kind k : ℕ) (this next : Bytes → Read Instr) → Gives k this → (kind ≢ k → Gives kind next) → Gives kind (λ bs. if kind == k then this bs else next bs)
or_next kind k this next g h = by (kind == k) refl
  where
    by : (b : Bool) → (kind == k) ≡ b → Gives kind (λ bs. if b then this bs else next bs)
    by true e = let q : k ≡ kind = grind (arith, e) in subst (λ m. Gives m this) q g
    by false e = h (λ q. let t : (kind == k) ≡ true = grind (arith, q) in absurd (cc))

operands_give : (kind : ℕ) → 1 ≤ kind → kind ≤ 24 → Gives kind (operands_at kind)
operands_give kind l u =
    or_next kind 1 _ _ (any_gives (λ c. Push (cast_signed w32 c)) 1 (λ n h. ap (λ m. triple 1 m 0) (of_z-to_z w32 n h)) (λ n h. signed_fits n)) (λ n1.
    or_next kind 2 _ _ (any_gives (λ s. Load s) 2 (λ n h. refl) (λ n h. tt)) (λ n2.
    or_next kind 3 _ _ (any_gives (λ s. Store s) 3 (λ n h. refl) (λ n h. tt)) (λ n3.
    or_next kind 4 _ _ (any_gives (λ a. Nload a) 4 (λ n h. refl) (λ n h. tt)) (λ n4.
    or_next kind 5 _ _ (any_gives (λ a. Nstore a) 5 (λ n h. refl) (λ n h. tt)) (λ n5.
    or_next kind 6 _ _ (any_gives (λ s. Addr s) 6 (λ n h. refl) (λ n h. tt)) (λ n6.
    or_next kind 7 _ _ (any_gives (λ a. Naddr a) 7 (λ n h. refl) (λ n h. tt)) (λ n7.
    or_next kind 8 _ _ (none_gives Get 8 refl tt) (λ n8.
    or_next kind 9 _ _ (none_gives Put 9 refl tt) (λ n9.
    or_next kind 10 _ _ (any_gives (λ n. Index n) 10 (λ n h. refl) (λ n h. tt)) (λ n10.
    or_next kind 11 _ _ (one_gives (λ n. Bin (binary_by n)) 11 10 (λ n h l. ap (λ m. triple 11 m 0) (binary_told n l)) (λ n h. tt)) (λ n11.
    or_next kind 12 _ _ (one_gives (λ n. Un (unary_by n)) 12 1 (λ n h l. ap (λ m. triple 12 m 0) (unary_told n l)) (λ n h. tt)) (λ n12.
    or_next kind 13 _ _ (any_gives (λ t. Jump t) 13 (λ n h. refl) (λ n h. tt)) (λ n13.
    or_next kind 14 _ _ (any_gives (λ t. Jfalse t) 14 (λ n h. refl) (λ n h. tt)) (λ n14.
    or_next kind 15 _ _ (any_gives (λ f. Call f) 15 (λ n h. refl) (λ n h. tt)) (λ n15.
    or_next kind 16 _ _ (any_gives (λ k. Ret k) 16 (λ n h. refl) (λ n h. tt)) (λ n16.
    or_next kind 17 _ _ (any_gives (λ k. Retv k) 17 (λ n h. refl) (λ n h. tt)) (λ n17.
    or_next kind 18 _ _ (none_gives Drop 18 refl tt) (λ n18.
    or_next kind 19 _ _ (any_gives (λ s. Sense s) 19 (λ n h. refl) (λ n h. tt)) (λ n19.
    or_next kind 20 _ _ (any_gives (λ p. Emit p) 20 (λ n h. refl) (λ n h. tt)) (λ n20.
    or_next kind 21 _ _ probe_gives (λ n21.
    or_next kind 22 _ _ (any_gives (λ r. Enter r) 22 (λ n h. refl) (λ n h. tt)) (λ n22.
    or_next kind 23 _ _ (any_gives (λ r. Commit r) 23 (λ n h. refl) (λ n h. tt)) (λ n23.
    let q : 24 ≡ kind = omega (arith, l, u, n1, n2, n3, n4, n5, n6, n7, n8, n9, n10, n11, n12, n13, n14, n15, n16, n17, n18, n19, n20, n21, n22, n23) in
    subst (λ m. Gives m (none_at Halt)) q (none_gives Halt 24 refl tt))))))))))))))))))))))))

four : (a b c d rest : Bytes) → a ++ (b ++ (c ++ (d ++ rest))) ≡ (a ++ (b ++ (c ++ d))) ++ rest
four a b c d rest = sym (append_assoc a (b ++ (c ++ d)) rest ∙ ap (λ s. a ++ s) (append_assoc b (c ++ d) rest ∙ ap (λ s. b ++ s) (append_assoc c d rest)))

pub placed_field : IsField placed_at placed_bytes IsInstr
placed_field = record {
  good = λ bs h x rest e.
      let s = bind_good (number_at 1 24 bs) (λ k. any_at k.1 >>= λ t. operands_at k.0 t.1 >>= λ y. Ok (record { instr = y.0; site = t.0 }, y.1)) (x, rest) e in
      let w = (number_field 1 24).good bs h s.0 s.1 s.2 in
      let t = bind_good (any_at s.1) (λ t. operands_at s.0 t.1 >>= λ y. Ok (record { instr = y.0; site = t.0 }, y.1)) (x, rest) s.3 in
      let v = any_field.good s.1 w.behind t.0 t.1 t.2 in
      let u = bind_good (operands_at s.0 t.1) (λ y. Ok (record { instr = y.0; site = t.0 }, y.1)) (x, rest) t.3 in
      let o = (operands_give s.0 w.fine.1 w.fine.2).good t.1 v.behind u.0 u.1 u.2 in
      let made : Placed = record { instr = u.0; site = t.0 } in
      let q = ok_pair made x u.1 rest u.3 in
      let n = instr_numbers u.0 in
      let kind : IsNumber n.0 = subst IsNumber (sym o.kind_is) w.fine.0 in
      let fine : IsInstr made = (v.fine, (kind, o.first, o.second), o.word) in
      record {
        is = w.is ∙ (λ j. number_bytes (sym o.kind_is j) ++ s.1) ∙ ap (λ l. number_bytes n.0 ++ l) (v.is ∙ ap (λ l. number_bytes t.0 ++ l) o.is)
            ∙ four (number_bytes n.0) (number_bytes t.0) (number_bytes n.1) (number_bytes n.2) u.1 ∙ (λ j. placed_bytes (q.0 j) ++ q.1 j);
        fine = subst IsInstr q.0 fine;
        behind = subst AreBytes q.1 o.behind;
      };
  bad = λ bs h left e.
      then_bad (number_at 1 24) number_bytes (IsBetween 1 24) (number_field 1 24) bs h (λ k. any_at k.1 >>= λ t. operands_at k.0 t.1 >>= λ y. Ok (record { instr = y.0; site = t.0 }, y.1)) left e
      (λ k r w f. then_bad any_at number_bytes IsNumber any_field r w.behind (λ t. operands_at k t.1 >>= λ y. Ok (record { instr = y.0; site = t.0 }, y.1)) left f
      (λ t r' v g. bind_bad (operands_at k r') (λ y. Ok (record { instr = y.0; site = t }, y.1)) left (length r') g
      (λ q. (operands_give k w.fine.1 w.fine.2).bad r' v.behind left q) (λ y r'' q d. absurd (cc))));
}
