-- Jumps whose ends are written later.
use Rattle.std.proofs.Common.{◌≡◌, ℕ, ◌+◌, List, [], ◌∷◌, ◌++◌, length, sym, ap, ◌∙◌, arith, append_assoc, length-append}
use Rattle.std.specs.Prelude.{slice_set, pos, Result, Ok, Err, OnOk}
use Rattle.std.proofs.Math.Seq.{set-append_seam}
use Rattle.oc_isa.specs.declared.instr.Placed.{Placed}
use Rattle.oc_isa.specs.declared.instr.Instr.TheVariants.{Push, Jump, Jfalse}
use Rattle.oc_code.specs.Forms.{placed, one, and_code, or_code}

-- what follows from what holds of a result that is none of a fault
pub on_ok : {A E : Type 0} {P Q : Type 0} (r : Result A E) → (P → Q) → OnOk r P → OnOk r Q
on_ok (Ok a) go h = go h
on_ok (Err e) go h = tt

-- an instruction in the place of one behind which code was written
pub filled : (front next all inner : List Placed) (x i : Placed) (hole : ℕ) → next ≡ front ++ x ∷ [] → all ≡ next ++ inner → hole ≡ length front → slice_set all hole i ≡ front ++ i ∷ inner
filled front next all inner x i hole e f h =
    ap (λ l. slice_set l hole i) (f ∙ ap (λ l. l ++ inner) e ∙ append_assoc front (x ∷ []) inner)
    ∙ ap (λ m. slice_set (front ++ x ∷ inner) m i) h
    ∙ set-append_seam front x inner i

-- how long the code is then
pub grown : (front next all inner : List Placed) (x : Placed) → next ≡ front ++ x ∷ [] → all ≡ next ++ inner → length all ≡ length front + 1 + length inner
grown front next all inner x e f = omega (arith, ap length e, ap length f, length-append front (x ∷ []), length-append next inner)

pub and_filled : (n : ℕ) (base a b c1 c2 c3 c4 : List Placed) (x : Placed) (hole : ℕ)
    → c1 ≡ base ++ a → c2 ≡ c1 ++ x ∷ [] → hole ≡ length c1 → c3 ≡ c2 ++ b
    → c4 ≡ slice_set c3 hole (placed n (Jfalse (length c3 + 1))) ++ placed n (Jump (length c3 + 2)) ∷ one n (Push (pos 0))
    → c4 ≡ base ++ and_code n (length base) a b
and_filled n base a b c1 c2 c3 c4 x hole e1 e2 h e3 e4 =
    let p = length base in
    let tail = placed n (Jump (length c3 + 2)) ∷ one n (Push (pos 0)) in
    let l = grown c1 c2 c3 b x e2 e3 in
    let m = length-append base a in
    let j : length c3 + 1 ≡ p + length a + 1 + length b + 1 = omega (arith, l, m, ap length e1) in
    let k : length c3 + 2 ≡ p + length a + 1 + length b + 2 = omega (arith, l, m, ap length e1) in
    e4 ∙ ap (λ l. l ++ tail) (filled c1 c2 c3 b x (placed n (Jfalse (length c3 + 1))) hole e2 e3 h)
    ∙ append_assoc c1 (placed n (Jfalse (length c3 + 1)) ∷ b) tail
    ∙ ap (λ l. l ++ placed n (Jfalse (length c3 + 1)) ∷ (b ++ tail)) e1
    ∙ append_assoc base a (placed n (Jfalse (length c3 + 1)) ∷ (b ++ tail))
    ∙ ap (λ t. base ++ (a ++ placed n (Jfalse t) ∷ (b ++ tail))) j
    ∙ ap (λ t. base ++ (a ++ placed n (Jfalse (p + length a + 1 + length b + 1)) ∷ (b ++ placed n (Jump t) ∷ one n (Push (pos 0))))) k

pub or_filled : (n : ℕ) (base a b c1 c2 c3 c4 : List Placed) (x : Placed) (hole : ℕ)
    → c1 ≡ base ++ a → c2 ≡ c1 ++ placed n (Jfalse (length c1 + 3)) ∷ placed n (Push (pos 1)) ∷ x ∷ [] → hole ≡ length c1 + 2 → c3 ≡ c2 ++ b
    → c4 ≡ slice_set c3 hole (placed n (Jump (length c3)))
    → c4 ≡ base ++ or_code n (length base) a b
or_filled n base a b c1 c2 c3 c4 x hole e1 e2 h e3 e4 =
    let p = length base in
    let test = placed n (Jfalse (length c1 + 3)) in
    let one_more = placed n (Push (pos 1)) in
    let front = c1 ++ test ∷ one_more ∷ [] in
    let f : c2 ≡ front ++ x ∷ [] = e2 ∙ sym (append_assoc c1 (test ∷ one_more ∷ []) (x ∷ [])) in
    let at_hole : hole ≡ length front = omega (arith, h, length-append c1 (test ∷ one_more ∷ [])) in
    let l = grown front c2 c3 b x f e3 in
    let m = length-append base a in
    let j : length c1 + 3 ≡ p + length a + 3 = omega (arith, m, ap length e1) in
    let k : length c3 ≡ p + length a + 3 + length b = omega (arith, l, m, ap length e1, length-append c1 (test ∷ one_more ∷ [])) in
    let jump = placed n (Jump (length c3)) in
    e4 ∙ filled front c2 c3 b x jump hole f e3 at_hole
    ∙ append_assoc c1 (test ∷ one_more ∷ []) (jump ∷ b)
    ∙ ap (λ l. l ++ test ∷ one_more ∷ jump ∷ b) e1
    ∙ append_assoc base a (test ∷ one_more ∷ jump ∷ b)
    ∙ ap (λ t. base ++ (a ++ placed n (Jfalse t) ∷ one_more ∷ jump ∷ b)) j
    ∙ ap (λ t. base ++ (a ++ placed n (Jfalse (p + length a + 3)) ∷ one_more ∷ placed n (Jump t) ∷ b)) k
