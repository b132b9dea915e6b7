-- The kinds below so many others.
use Rattle.std.proofs.Common.{◌≡◌, ℕ, zero, suc, ◌+◌, ◌-◌, ◌<◌, ◌≤◌, List, [], ◌∷◌, length, drop, map, Ok, Err, ap, refl, sym, ◌∙◌, subst, arith, Bool, true, false, nat_le}
use Rattle.std.proofs.lemmas.List.{length-drop}
use Rattle.std.specs.Prelude.{if◌then◌else◌}
use Rattle.oc_verify.specs.declared.kind.Kind.{Kind}
use Rattle.oc_verify.specs.Rules.{Judged, dropping}
use Rattle.oc_verify.specs.Stacks.{Grows, Nodes}
use Rattle.oc_verify.specs.Told.{Leaves, kind_of}

pub drop_next : (ks : List Kind) (n : ℕ) (k : Kind) (rest : List Kind) → drop n ks ≡ k ∷ rest → (drop (suc n) ks ≡ rest) × (suc n ≤ length ks)
drop_next [] zero k rest e = absurd (cc)
drop_next [] (suc n) k rest e = absurd (cc)
drop_next (x ∷ ks) zero k rest e = (let t : ks ≡ rest = (cc) in t, omega arith)
drop_next (x ∷ ks) (suc n) k rest e = let r = drop_next ks n k rest e in (r.0, let l = r.1 in omega (arith, l))

none_left : (ks : List Kind) (n : ℕ) → drop n ks ≡ [] → length ks ≤ n
none_left [] n e = omega arith
none_left (x ∷ ks) zero e = absurd (cc)
none_left (x ∷ ks) (suc n) e = let r = none_left ks n e in omega (arith, r)

abbrev either : Bool → List Kind → Judged (List Kind)
either b ks = if b then Ok ks else Err 5

pub dropped_out : (ks : List Kind) (n count : ℕ) → drop n ks ≡ [] → n < count → dropping count ks ≡ Err 5
dropped_out ks n count e l = let m = none_left ks n e in let t : nat_le count (length ks) ≡ false = (let u : length ks < count = omega (arith, m, l) in grind (arith, u)) in
    ap (λ b. either b (drop count ks)) t

drop_one : (n : ℕ) (ks : List Kind) → drop (suc n) ks ≡ drop 1 (drop n ks)
drop_one zero [] = refl
drop_one (suc n) [] = refl
drop_one zero (k ∷ ks) = refl
drop_one (suc n) (k ∷ ks) = drop_one n ks

-- one word more
pub drop_on : (n : ℕ) (ks rest : List Kind) → rest ≡ drop n ks → drop 1 rest ≡ drop (n + 1) ks
drop_on n ks rest e = let m : suc n ≡ n + 1 = omega arith in ap (drop 1) e ∙ sym (drop_one n ks) ∙ ap (λ k. drop k ks) m

-- what ends alike goes on alike
alike : (d m : ℕ) (ks ls : List Kind) → drop d ks ≡ drop d ls → drop (m + d) ks ≡ drop (m + d) ls
alike d zero ks ls e = let n : d ≡ 0 + d = omega arith in subst (λ k. drop k ks ≡ drop k ls) n e
alike d (suc m) ks ls e =
    let n : suc (m + d) ≡ suc m + d = omega arith in
    subst (λ k. drop k ks ≡ drop k ls) n (drop_one (m + d) ks ∙ ap (drop 1) (alike d m ks ls e) ∙ sym (drop_one (m + d) ls))

-- what is below so many of the one is below them of the other, which goes on alike
pub beside : (ks ls rest : List Kind) (d count : ℕ) → drop d ks ≡ drop d ls → d ≤ length ks → d < count → dropping count ls ≡ Ok rest → dropping count ks ≡ Ok rest
beside ks ls rest d count e k l o = by (nat_le count (length ls)) refl o
  where
    by : (b : Bool) → nat_le count (length ls) ≡ b → either b (drop count ls) ≡ Ok rest → dropping count ks ≡ Ok rest
    by false q o = absurd (cc)
    by true q o =
        let r : drop count ls ≡ rest = (cc) in
        let c : count ≤ length ls = grind (arith, q) in
        let n : length ks - d ≡ length ls - d = sym (length-drop d ks) ∙ ap length e ∙ length-drop d ls in
        let u : count ≤ length ks = omega (arith, n, c, k, l) in
        let h : nat_le count (length ks) ≡ true = grind (arith, u) in
        let m : count ≡ (count - d) + d = omega (arith, l) in
        let s : drop count ks ≡ drop count ls = ap (λ x. drop x ks) m ∙ alike d (count - d) ks ls e ∙ sym (ap (λ x. drop x ls) m) in
        ap (λ b. either b (drop count ks)) h ∙ ap Ok (s ∙ r)

-- stacks stay where nodes are added
pub leaves_on : (old new : Nodes) (last : ℕ × ℕ × ℕ) → Grows old new → Leaves old last → Leaves new last
leaves_on old new last G L =
    let l = G.longer in
    let f = L.from in
    let t = L.to in
    record {
      from = omega (arith, l, f);
      to = omega (arith, l, t);
      leaves = ap (λ s. dropping last.0 (map kind_of s)) (G.kept last.1 f) ∙ L.leaves ∙ ap (λ s. Ok (map kind_of s)) (sym (G.kept last.2 t));
    }
