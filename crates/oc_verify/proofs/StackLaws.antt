-- Equal stacks have one number.
use Rattle.std.proofs.Common.{◌≡◌, ℕ, zero, suc, ◌<◌, ◌≤◌, ◌≢◌, [], ◌∷◌, ◌++◌, length, Option, Some, None, refl, sym, ap, ◌∙◌, subst, ⊎_elim, arith, Bool, true, false, nat_eq}
use Rattle.std.specs.Prelude.{slice_get, ◌||◌, if◌then◌else◌}
use Rattle.std.specs.List.{list_any}
use Rattle.std.proofs.lemmas.Bool.Decides.{eqb_tells}
use Rattle.std.proofs.Math.Arith.{lt_of_le-ne}
use Rattle.oc_verify.specs.Stacks.{Nodes, node, below_of, top_of, stack_to, stack_by, stack, AreNodes, with_node}

-- there is such a node
there : (ks : Nodes) (n : ℕ) → n < length ks → (x : ℕ) × (slice_get ks n ≡ Some x)
there [] n h = absurd (omega (arith, h))
there (k ∷ ks) zero h = (k, refl)
there (k ∷ ks) (suc n) h = there ks n (omega (arith, h))

as_node : (x : ℕ) → node (below_of x) (top_of x) ≡ x
as_node x = omega arith

module _ (ks : Nodes) (a : AreNodes ks) where
  -- more than is needed gives the same
  pub enough : (k m n : ℕ) → n ≤ k → n ≤ m → stack_to ks k n ≡ stack_to ks m n
  unfolding stack_to
  enough zero zero n h l = refl
  enough zero (suc m) zero h l = refl
  enough zero (suc m) (suc n) h l = absurd (omega (arith, h))
  enough (suc k) zero zero h l = refl
  enough (suc k) zero (suc n) h l = absurd (omega (arith, l))
  enough (suc k) (suc m) zero h l = refl
  enough (suc k) (suc m) (suc n) h l = by (slice_get ks n) refl (λ x e. enough k m (below_of x) (let b = a.below n x e in omega (arith, b, h)) (let b = a.below n x e in omega (arith, b, l)))
    where
      by : (o : Option ℕ) → slice_get ks n ≡ o → ((x : ℕ) → slice_get ks n ≡ Some x → stack_to ks k (below_of x) ≡ stack_to ks m (below_of x)) → stack_by (stack_to ks k) o ≡ stack_by (stack_to ks m) o
      by None e ih = refl
      by (Some x) e ih = ap (λ l. top_of x ∷ l) (ih x e)

  pub one_stack : (k m n l : ℕ) → n ≤ k → l ≤ m → n ≤ length ks → l ≤ length ks → stack_to ks k n ≡ stack_to ks m l → n ≡ l
  unfolding stack_to
  one_stack zero m zero zero h g i j e = refl
  one_stack zero zero zero (suc l) h g i j e = absurd (omega (arith, g))
  one_stack zero (suc m) zero (suc l) h g i j e = let t = there ks l (omega (arith, j)) in let z : [] ≡ stack_by (stack_to ks m) (Some t.0) = e ∙ ap (stack_by (stack_to ks m)) t.1 in absurd (cc)
  one_stack zero m (suc n) l h g i j e = absurd (omega (arith, h))
  one_stack (suc k) m zero zero h g i j e = refl
  one_stack (suc k) zero zero (suc l) h g i j e = absurd (omega (arith, g))
  one_stack (suc k) (suc m) zero (suc l) h g i j e = let t = there ks l (omega (arith, j)) in let z : [] ≡ stack_by (stack_to ks m) (Some t.0) = e ∙ ap (stack_by (stack_to ks m)) t.1 in absurd (cc)
  one_stack (suc k) zero (suc n) zero h g i j e = let t = there ks n (omega (arith, i)) in let z : stack_by (stack_to ks k) (Some t.0) ≡ [] = sym (ap (stack_by (stack_to ks k)) t.1) ∙ e in absurd (cc)
  one_stack (suc k) (suc m) (suc n) zero h g i j e = let t = there ks n (omega (arith, i)) in let z : stack_by (stack_to ks k) (Some t.0) ≡ [] =
      sym (ap (stack_by (stack_to ks k)) t.1) ∙ e in absurd (cc)
  one_stack (suc k) zero (suc n) (suc l) h g i j e = absurd (omega (arith, g))
  one_stack (suc k) (suc m) (suc n) (suc l) h g i j e =
      let t = there ks n (omega (arith, i)) in
      let u = there ks l (omega (arith, j)) in
      let z : stack_by (stack_to ks k) (Some t.0) ≡ stack_by (stack_to ks m) (Some u.0) = sym (ap (stack_by (stack_to ks k)) t.1) ∙ e ∙ ap (stack_by (stack_to ks m)) u.1 in
      let top : top_of t.0 ≡ top_of u.0 = (cc) in
      let rest : stack_to ks k (below_of t.0) ≡ stack_to ks m (below_of u.0) = (cc) in
      let b = a.below n t.0 t.1 in
      let c = a.below l u.0 u.1 in
      let under : below_of t.0 ≡ below_of u.0 = one_stack k m (below_of t.0) (below_of u.0) (omega (arith, b, h)) (omega (arith, c, g)) (omega (arith, b, i)) (omega (arith, c, j)) rest in
      let same : t.0 ≡ u.0 = sym (as_node t.0) ∙ (λ q. node (under q) (top q)) ∙ as_node u.0 in
      ap suc (a.differ n l t.0 t.1 (u.1 ∙ ap Some (sym same)))

  -- stacks that are equal have one number
  pub same_number : (n l : ℕ) → n ≤ length ks → l ≤ length ks → stack ks n ≡ stack ks l → n ≡ l
  same_number n l i j e = one_stack n l n l (omega arith) (omega arith) i j e

  -- the stack of a node
  pub stack_is : (n x : ℕ) → slice_get ks n ≡ Some x → stack ks (suc n) ≡ top_of x ∷ stack ks (below_of x)
  unfolding stack_to
  stack_is n x e = ap (stack_by (stack_to ks n)) e ∙ ap (λ l. top_of x ∷ l) (enough n (below_of x) (below_of x) (a.below n x e) (omega arith))

-- ---- one more node

get_within : (ks : Nodes) (x i : ℕ) → i < length ks → slice_get (ks ++ x ∷ []) i ≡ slice_get ks i
get_within [] x i h = absurd (omega (arith, h))
get_within (k ∷ ks) x zero h = refl
get_within (k ∷ ks) x (suc i) h = get_within ks x i (omega (arith, h))

pub get_last : (ks : Nodes) (x : ℕ) → slice_get (ks ++ x ∷ []) (length ks) ≡ Some x
get_last [] x = refl
get_last (k ∷ ks) x = get_last ks x

get_past : (ks : Nodes) (i x : ℕ) → slice_get ks i ≡ Some x → i < length ks
get_past [] i x e = absurd (cc)
get_past (k ∷ ks) zero x e = omega arith
get_past (k ∷ ks) (suc i) x e = let r = get_past ks i x e in omega (arith, r)

grown : (ks : Nodes) (x : ℕ) → length (ks ++ x ∷ []) ≡ suc (length ks)
grown [] x = refl
grown (k ∷ ks) x = ap suc (grown ks x)

second : (b c : Bool) → b || c ≡ false → (b ≡ false) × (c ≡ false)
second true c h = absurd (cc)
second false c h = (refl, h)

not_among : (ks : Nodes) (x i y : ℕ) → list_any (nat_eq x) ks ≡ false → slice_get ks i ≡ Some y → x ≢ y
not_among [] x i y n e z = absurd (cc)
not_among (k ∷ ks) x zero y n e z = let w : k ≡ y = (cc) in let t : nat_eq x k ≡ true = grind (arith, z, w) in let f : true ≡ false =
    sym t ∙ (second (nat_eq x k) (list_any (nat_eq x) ks) n).0 in absurd (cc)
not_among (k ∷ ks) x (suc i) y n e z = not_among ks x i y (second (nat_eq x k) (list_any (nat_eq x) ks) n).1 e z

node_parts : (b t : ℕ) → t < 8589934592 → (below_of (node b t) ≡ b) × (top_of (node b t) ≡ t)
node_parts b t h = (omega (arith, h), omega (arith, h))

more_nodes : (ks : Nodes) (x : ℕ) → AreNodes ks → length (ks ++ x ∷ []) < 2147483648 → list_any (nat_eq x) ks ≡ false → below_of x ≤ length ks → AreNodes (ks ++ x ∷ [])
more_nodes ks x a few n b = record {
  few = few;
  below = λ i y e. ⊎_elim
      (λ q. let z : Some x ≡ Some y = sym (get_last ks x) ∙ ap (slice_get (ks ++ x ∷ [])) (sym q.1) ∙ e in let w : x ≡ y = (cc) in subst (λ u. below_of u ≤ i) w (omega (arith, q.1, b)))
      (λ q. a.below i y (sym (get_within ks x i (inside i y e q.1)) ∙ e))
      (eqb_tells i (length ks));
  differ = λ i j y e f. ⊎_elim
      (λ q. ⊎_elim
      (λ r. q.1 ∙ sym r.1)
      (λ r. absurd (not_among ks x j y n (sym (get_within ks x j (inside j y f r.1)) ∙ f) (last i y e q.1)))
      (eqb_tells j (length ks)))
      (λ q. ⊎_elim
      (λ r. absurd (not_among ks x i y n (sym (get_within ks x i (inside i y e q.1)) ∙ e) (last j y f r.1)))
      (λ r. a.differ i j y (sym (get_within ks x i (inside i y e q.1)) ∙ e) (sym (get_within ks x j (inside j y f r.1)) ∙ f))
      (eqb_tells j (length ks)))
      (eqb_tells i (length ks));
}
  where
    inside : (i y : ℕ) → slice_get (ks ++ x ∷ []) i ≡ Some y → i ≢ length ks → i < length ks
    inside i y e d = lt_of_le-ne (let l = get_past (ks ++ x ∷ []) i y e in let g = grown ks x in omega (arith, l, g)) d

    last : (i y : ℕ) → slice_get (ks ++ x ∷ []) i ≡ Some y → i ≡ length ks → x ≡ y
    last i y e q = let z : Some x ≡ Some y = sym (get_last ks x) ∙ ap (slice_get (ks ++ x ∷ [])) (sym q) ∙ e in (cc)

-- earlier stacks stay
stays_to : (ks : Nodes) (x : ℕ) → AreNodes ks → (k n : ℕ) → n ≤ length ks → stack_to (ks ++ x ∷ []) k n ≡ stack_to ks k n
unfolding stack_to
stays_to ks x a zero n h = refl
stays_to ks x a (suc k) zero h = refl
stays_to ks x a (suc k) (suc n) h =
    let t = there ks n (omega (arith, h)) in
    let b = a.below n t.0 t.1 in
    ap (stack_by (stack_to (ks ++ x ∷ []) k)) (get_within ks x n (omega (arith, h)) ∙ t.1) ∙ ap (λ l. top_of t.0 ∷ l) (stays_to ks x a k (below_of t.0) (omega (arith, b, h)))
    ∙ sym (ap (stack_by (stack_to ks k)) t.1)

pub with_node_are : (ks : Nodes) (below top : ℕ) → AreNodes ks → length (with_node ks (node below top)) < 2147483648 → below ≤ length ks → top < 8589934592 → AreNodes (with_node ks (node below top))
with_node_are ks below top a few b t = by (list_any (nat_eq (node below top)) ks) refl few
  where
    by : (c : Bool) → list_any (nat_eq (node below top)) ks ≡ c → length (if c then ks else ks ++ node below top ∷ []) < 2147483648 → AreNodes (if c then ks else ks ++ node below top ∷ [])
    by true e few = a
    by false e few = more_nodes ks (node below top) a few e (let p = (node_parts below top t).0 in omega (arith, p, b))

pub with_node_keeps : (ks : Nodes) (x : ℕ) → AreNodes ks → (n : ℕ) → n ≤ length ks → stack (with_node ks x) n ≡ stack ks n
with_node_keeps ks x a n h = by (list_any (nat_eq x) ks)
  where
    by : (c : Bool) → stack (if c then ks else ks ++ x ∷ []) n ≡ stack ks n
    by true = refl
    by false = stays_to ks x a n n h

pub with_node_longer : (ks : Nodes) (x : ℕ) → length ks ≤ length (with_node ks x)
with_node_longer ks x = by (list_any (nat_eq x) ks)
  where
    by : (c : Bool) → length ks ≤ length (if c then ks else ks ++ x ∷ [])
    by true = omega arith
    by false = let g = grown ks x in omega (arith, g)

-- the stack of the new node
pub with_node_is : (ks : Nodes) (below top n : ℕ) → AreNodes ks → length (with_node ks (node below top)) < 2147483648 → below ≤ length ks → top < 8589934592
    → slice_get (with_node ks (node below top)) n ≡ Some (node below top) → stack (with_node ks (node below top)) (suc n) ≡ top ∷ stack ks below
with_node_is ks below top n a few b t e =
    let p = node_parts below top t in
    stack_is (with_node ks (node below top)) (with_node_are ks below top a few b t) n (node below top) e
    ∙ (λ q. p.1 q ∷ stack (with_node ks (node below top)) (p.0 q))
    ∙ ap (λ l. top ∷ l) (with_node_keeps ks (node below top) a below b)
