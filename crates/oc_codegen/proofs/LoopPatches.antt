-- Loops and branches whose ends are written later.
use Rattle.std.proofs.Common.{◌≡◌, ℕ, ℤ, ◌+◌, List, [], ◌∷◌, ◌++◌, length, sym, ap, ◌∙◌, arith, append_assoc, length-append}
use Rattle.std.specs.Prelude.{slice_set, pos}
use Rattle.std.proofs.lemmas.List.{length-set}
use Rattle.oc_isa.specs.declared.instr.Placed.{Placed}
use Rattle.oc_isa.specs.declared.instr.BinOp.TheVariants.{Lt}
use Rattle.oc_isa.specs.declared.instr.Instr.TheVariants.{Push, Load, Store, Bin, Jump, Jfalse}
use Rattle.oc_code.specs.Forms.{placed, below_code, again_code, count_code, turn_code, while_code, one_way_code, two_way_code}
use Rattle.oc_codegen.proofs.Patches.{filled, grown}

-- what stands in a loop before its jump to the end
abbrev pub opening : ℕ → ℕ → ℤ → ℤ → List Placed
opening n q c d = placed n (Push c) ∷ placed n (Store q) ∷ placed n (Load q) ∷ placed n (Push d) ∷ placed n (Bin Lt) ∷ []

pub count_filled : (n q : ℕ) (c d : ℤ) (base a c1 c2 c3 : List Placed) (start : ℕ)
    → c1 ≡ base ++ placed n (Push c) ∷ placed n (Store q) ∷ below_code n q d 0
    → start ≡ length base
    → c2 ≡ c1 ++ a
    → c3 ≡ slice_set c2 (start + 5) (placed n (Jfalse (length c2 + 5))) ++ again_code n q (start + 2)
    → c3 ≡ base ++ count_code n (length base) q c d a
count_filled n q c d base a c1 c2 c3 start e1 h e2 e3 =
    let p = length base in
    let head = opening n q c d in
    let front = base ++ head in
    let x = placed n (Jfalse 0) in
    let jump = placed n (Jfalse (length c2 + 5)) in
    let tail = again_code n q (start + 2) in
    let f : c1 ≡ front ++ x ∷ [] = e1 ∙ sym (append_assoc base head (x ∷ [])) in
    let l = grown front c1 c2 a x f e2 in
    let m : length front ≡ p + 5 = length-append base head in
    let at_hole : start + 5 ≡ length front = omega (arith, h, m) in
    let j : length c2 + 5 ≡ p + 6 + length a + 5 = omega (arith, l, m) in
    e3 ∙ ap (λ l. l ++ tail) (filled front c1 c2 a x jump (start + 5) f e2 at_hole)
    ∙ append_assoc front (jump ∷ a) tail
    ∙ append_assoc base head (jump ∷ (a ++ tail))
    ∙ ap (λ t. base ++ (head ++ placed n (Jfalse t) ∷ (a ++ tail))) j
    ∙ ap (λ t. base ++ (head ++ placed n (Jfalse (p + 6 + length a + 5)) ∷ (a ++ again_code n q (t + 2)))) h

pub while_filled : (n q bound : ℕ) (base t b c1 c2 c3 c4 c6 : List Placed) (x : Placed) (start exit : ℕ)
    → c1 ≡ base ++ placed n (Push (pos 0)) ∷ placed n (Store q) ∷ below_code n q (pos bound) 0
    → start ≡ length base
    → c2 ≡ c1 ++ t
    → c3 ≡ c2 ++ x ∷ []
    → exit ≡ length c2
    → c4 ≡ c3 ++ b
    → c6 ≡ slice_set (slice_set c4 exit (placed n (Jfalse (length c4 + 5)))) (start + 5) (placed n (Jfalse (length c4 + 5))) ++ again_code n q (start + 2)
    → c6 ≡ base ++ while_code n (length base) q bound t b
while_filled n q bound base t b c1 c2 c3 c4 c6 x start exit e1 h e2 e3 k e4 e6 =
    let c5 = slice_set c4 exit (placed n (Jfalse (length c4 + 5))) in
    let p = length base in
    let l = grown c2 c3 c4 b x e3 e4 in
    let first = length-append base (placed n (Push (pos 0)) ∷ placed n (Store q) ∷ below_code n q (pos bound) 0) in
    let m : length c4 + 5 ≡ p + 6 + (length t + 1 + length b) + 5 = omega (arith, l, ap length e2, length-append c1 t, ap length e1, first) in
    let inner : c5 ≡ c1 ++ turn_code n (length c4 + 5) t b =
    filled c2 c3 c4 b x (placed n (Jfalse (length c4 + 5))) exit e3 e4 k ∙ ap (λ l. l ++ placed n (Jfalse (length c4 + 5)) ∷ b) e2 ∙ append_assoc c1 t (placed n (Jfalse (length c4 + 5)) ∷ b) in
    let same : length c5 ≡ length c4 = length-set c4 exit (placed n (Jfalse (length c4 + 5))) in
    let end = e6 ∙ ap (λ m. slice_set c5 (start + 5) (placed n (Jfalse (m + 5))) ++ again_code n q (start + 2)) (sym same) in
    count_filled n q (pos 0) (pos bound) base (turn_code n (length c4 + 5) t b) c1 c5 c6 start e1 h inner end
    ∙ ap (λ e. base ++ count_code n p q (pos 0) (pos bound) (turn_code n e t b)) m

pub one_way_filled : (n : ℕ) (base c a c1 c2 c3 c4 : List Placed) (x : Placed) (hole : ℕ)
    → c1 ≡ base ++ c → c2 ≡ c1 ++ x ∷ [] → hole ≡ length c1 → c3 ≡ c2 ++ a
    → c4 ≡ slice_set c3 hole (placed n (Jfalse (length c3)))
    → c4 ≡ base ++ one_way_code n (length base) c a
one_way_filled n base c a c1 c2 c3 c4 x hole e1 e2 h e3 e4 =
    let p = length base in
    let l = grown c1 c2 c3 a x e2 e3 in
    let j : length c3 ≡ p + length c + 1 + length a = omega (arith, l, ap length e1, length-append base c) in
    e4 ∙ filled c1 c2 c3 a x (placed n (Jfalse (length c3))) hole e2 e3 h
    ∙ ap (λ l. l ++ placed n (Jfalse (length c3)) ∷ a) e1
    ∙ append_assoc base c (placed n (Jfalse (length c3)) ∷ a)
    ∙ ap (λ t. base ++ (c ++ placed n (Jfalse t) ∷ a)) j

pub two_way_filled : (n : ℕ) (base c a b c1 c2 c3 c4 c5 c6 : List Placed) (x y : Placed) (hole jump : ℕ)
    → c1 ≡ base ++ c → c2 ≡ c1 ++ x ∷ [] → hole ≡ length c1 → c3 ≡ c2 ++ a
    → c4 ≡ slice_set c3 hole (placed n (Jfalse (length c3 + 1))) ++ y ∷ []
    → jump ≡ length c3 → c5 ≡ c4 ++ b
    → c6 ≡ slice_set c5 jump (placed n (Jump (length c5)))
    → c6 ≡ base ++ two_way_code n (length base) c a b
two_way_filled n base c a b c1 c2 c3 c4 c5 c6 x y hole jump e1 e2 h e3 e4 k e5 e6 =
    let p = length base in
    let l = grown c1 c2 c3 a x e2 e3 in
    let test = placed n (Jfalse (length c3 + 1)) in
    let over = placed n (Jump (length c5)) in
    let front = c1 ++ test ∷ a in
    let f : c4 ≡ front ++ y ∷ [] = e4 ∙ ap (λ l. l ++ y ∷ []) (filled c1 c2 c3 a x test hole e2 e3 h) in
    let m : length front ≡ length c3 = omega (arith, l, length-append c1 (test ∷ a)) in
    let at_jump : jump ≡ length front = omega (arith, k, m) in
    let w = grown front c4 c5 b y f e5 in
    let i : length c3 + 1 ≡ p + length c + 1 + length a + 1 = omega (arith, l, ap length e1, length-append base c) in
    let j : length c5 ≡ p + length c + 1 + length a + 1 + length b = omega (arith, w, m, i) in
    e6 ∙ filled front c4 c5 b y over jump f e5 at_jump
    ∙ append_assoc c1 (test ∷ a) (over ∷ b)
    ∙ ap (λ l. l ++ test ∷ (a ++ over ∷ b)) e1
    ∙ append_assoc base c (test ∷ (a ++ over ∷ b))
    ∙ ap (λ t. base ++ (c ++ placed n (Jfalse t) ∷ (a ++ over ∷ b))) i
    ∙ ap (λ t. base ++ (c ++ placed n (Jfalse (p + length c + 1 + length a + 1)) ∷ (a ++ placed n (Jump t) ∷ b))) j
