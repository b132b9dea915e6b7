-- A loop that changes each element of a list.
use Rattle.std.proofs.Common.{ℕ, zero, suc, ◌+◌, ◌<◌, ◌≡◌, List, [], ◌∷◌, ◌++◌, length, map, take, drop, get_or, set, subst, refl, arith}

on : {X Y : Type 0} (f : X → Y) (g : Y → Y) (n : ℕ) (now : List X) (old : List Y) (x y : X)
    → map f now ≡ map g (take n old) ++ drop n old → n < length now → x ≡ get_or now n x → f y ≡ g (f x) → map f (set now n y) ≡ map g (take (suc n) old) ++ drop (suc n) old
on f g n [] old x y h l e s = absurd (omega arith)
on f g zero (z ∷ now) [] x y h l e s = cc h
on f g zero (z ∷ now) (o ∷ old) x y h l e s =
    let whole : f z ∷ map f now ≡ o ∷ old = h in let here : x ≡ z = e in let first : f y ≡ g o = cc in let rest : map f now ≡ old = cc in rw (first, rest) refl
on f g (suc n) (z ∷ now) [] x y h l e s = cc h
on f g (suc n) (z ∷ now) (o ∷ old) x y h l e s =
    let whole : f z ∷ map f now ≡ g o ∷ (map g (take n old) ++ drop n old) = h in
    let first : f z ≡ g o = cc in
    let rest : map f now ≡ map g (take n old) ++ drop n old = cc in
    let others : map f (set now n y) ≡ map g (take (suc n) old) ++ drop (suc n) old = on f g n now old x y rest (omega arith) e s in
    rw (first, others) refl

-- where f of the first n elements is g of what it was, and of the others what it was: one element more
pub half_on : {X Y : Type 0} (f : X → Y) (g : Y → Y) (n : ℕ) (now : List X) (old : List Y) (x y : X)
    → map f now ≡ map g (take n old) ++ drop n old → n < length now → x ≡ get_or now n x → f y ≡ g (f x) → map f (set now n y) ≡ map g (take (n + 1) old) ++ drop (n + 1) old
half_on f g n now old x y h l e s =
    let k : suc n ≡ n + 1 = omega arith in subst (λ m. map f (set now n y) ≡ map g (take m old) ++ drop m old) k (on f g n now old x y h l e s)
