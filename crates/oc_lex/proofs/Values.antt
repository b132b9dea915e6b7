-- Values of digits.
use Rattle.std.proofs.Common.{◌≡◌, ℕ, ◌+◌, ◌*◌, ◌<◌, ◌≤◌, Bool, true, false, cond, List, [], ◌∷◌, length, get_or, drop, sym, ◌∙◌, arith}
use Rattle.std.specs.Prelude.{◌-◌, ◌==◌, fold}
use Rattle.std.proofs.lemmas.List.{at_drop_more, at_drop_all}
use Rattle.oc_lex.specs.Bytes.{value_of, with_digit}

abbrev pub value_from : ℕ → List ℕ → ℕ
value_from n digits = fold with_digit n digits

digit_grows : (b : Bool) (n d : ℕ) → n ≤ cond b n (n * 10 + (d - 48))
digit_grows true n d = omega arith
digit_grows false n d = omega arith

value_grows : (n : ℕ) (ds : List ℕ) → n ≤ value_from n ds
value_grows n [] = omega arith
value_grows n (d ∷ ds) = let h = value_grows (with_digit n d) ds in let g = digit_grows (d == 95) n d in omega arith

pub value_more : (v : ℕ) (ds : List ℕ) (i : ℕ) → i < length ds → value_from v (drop i ds) ≡ value_from (with_digit v (get_or ds i 0)) (drop (i + 1) ds)
value_more v ds i h = at_drop_more (λ l. value_from v l) ds i 0 h

pub value_large : (v most : ℕ) (ds rest : List ℕ) → value_from v rest ≡ value_of ds → most < v → most < value_of ds
value_large v most ds rest e h = let g = value_grows v rest in omega arith

pub value_small : (v : ℕ) (ds : List ℕ) (i : ℕ) → length ds ≤ i → value_from v (drop i ds) ≡ value_of ds → v ≡ value_of ds
value_small v ds i h e =
    let r : value_from v (drop i ds) ≡ v = at_drop_all (λ l. value_from v l) ds i h in
    sym r ∙ e
