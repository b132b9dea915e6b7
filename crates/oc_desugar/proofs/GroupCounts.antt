-- Each number of a statement lies between the first and the last of just one group.
use Rattle.std.proofs.Common.{◌≡◌, ℕ, ◌+◌, ◌<◌, ◌≤◌, ◌⊎◌, inl, inr, Bool, true, false, cond, ◌&&◌, List, [], ◌∷◌, ◌++◌, refl, ap, sym, ◌∙◌, arith, count_by, sum_by}
use Rattle.std.specs.Prelude.{nat_le}
use Rattle.std.proofs.lemmas.List.Sums.{sum_by-cons, sum_by-append}
use Rattle.std.proofs.lemmas.Bool.{le-leb}
use Rattle.std.proofs.lemmas.Bool.Decides.{leb_tells}
use Rattle.oc_tree.specs.Tree.{TKind, let_to, let_array, assign, assign_index, assign_deref, if_else, for_in, while_do, call_only, sense_only, emit, fresh, consistent, return}
use Rattle.oc_tree.specs.Tree.{TElse, no_else, else_do, stmt, TBlock, block, TStmts, no_stmts, more, TFunction, TProgram}
use Rattle.oc_tree.specs.Checked.{Group}
use Rattle.oc_tree.specs.Pulls.{own_pulls}
use Rattle.oc_tree.specs.Expansion.{block_size, inner_size, else_size, stmts_size, program_size, inner_groups, else_groups, block_groups, stmts_groups, functions_groups, program_groups}

-- a number lies between a group's first and its last
abbrev pub is_between : ℕ → Group → Bool
is_between s g = nat_le g.0 s && nat_le s g.1

abbrev one : Bool → ℕ
one b = cond b 1 0

-- once, where it is one of the `n` numbers from `i` on
abbrev inside : (i n s : ℕ) → ℕ
inside i n s = one (nat_le i s && nat_le (s + 1) (i + n))

abbrev order : ℕ → ℕ → Type 0
order a b = (a < b) ⊎ (b ≤ a)

ordered : (a b : ℕ) → order a b
ordered a b = told (leb_tells b a) where
  told : ((nat_le b a ≡ true) × (b ≤ a)) ⊎ ((nat_le b a ≡ false) × (a < b)) → order a b
  told (inl h) = inr h.1
  told (inr h) = inl h.1

not_le : (a b : ℕ) → b < a → nat_le a b ≡ false
not_le a b h = told (leb_tells a b) where
  told : ((nat_le a b ≡ true) × (a ≤ b)) ⊎ ((nat_le a b ≡ false) × (b < a)) → nat_le a b ≡ false
  told (inl g) = absurd (omega (arith, h, g.1))
  told (inr g) = g.0

within : (i n s : ℕ) → i ≤ s → s < i + n → inside i n s ≡ 1
within i n s h g = ap (λ b. one (b && nat_le (s + 1) (i + n))) (le-leb i s h) ∙ ap one (le-leb (s + 1) (i + n) (omega (arith, g)))

before : (i n s : ℕ) → s < i → inside i n s ≡ 0
before i n s h = ap (λ b. one (b && nat_le (s + 1) (i + n))) (not_le i s h)

neither : (b : Bool) → one (b && false) ≡ 0
neither true = refl
neither false = refl

behind : (i n s : ℕ) → i + n ≤ s → inside i n s ≡ 0
behind i n s h = ap (λ b. one (nat_le i s && b)) (not_le (s + 1) (i + n) (omega (arith, h))) ∙ neither (nat_le i s)

-- two stretches of numbers, one behind the other
inside_both : (i m n s : ℕ) → inside i (m + n) s ≡ inside i m s + inside (i + m) n s
inside_both i m n s = told (ordered s i) (ordered s (i + m)) (ordered s (i + m + n)) where
  told : order s i → order s (i + m) → order s (i + m + n) → inside i (m + n) s ≡ inside i m s + inside (i + m) n s
  told (inl a) b c = let x = before i (m + n) s a in let y = before i m s a in let z = before (i + m) n s (omega (arith, a)) in omega (arith, x, y, z)
  told (inr a) (inl b) c = let x = within i (m + n) s a (omega (arith, b)) in let y = within i m s a b in let z = before (i + m) n s b in omega (arith, x, y, z)
  told (inr a) (inr b) (inl c) = let x = within i (m + n) s a (omega (arith, c)) in let y = behind i m s b in let z = within (i + m) n s b c in omega (arith, x, y, z)
  told (inr a) (inr b) (inr c) = let x = behind i (m + n) s (omega (arith, c)) in let y = behind i m s b in let z = behind (i + m) n s c in omega (arith, x, y, z)

none_inside : (i s : ℕ) → inside i 0 s ≡ 0
none_inside i s = told (ordered s i) where
  told : order s i → inside i 0 s ≡ 0
  told (inl a) = before i 0 s a
  told (inr a) = behind i 0 s (omega (arith, a))

-- one group
between_inside : (i own s : ℕ) → one (is_between s (i, i + own)) ≡ inside i (own + 1) s
between_inside i own s = told (ordered s i) (ordered s (i + (own + 1))) where
  told : order s i → order s (i + (own + 1)) → one (is_between s (i, i + own)) ≡ inside i (own + 1) s
  told (inl a) b = ap (λ x. one (x && nat_le s (i + own))) (not_le i s a) ∙ sym (before i (own + 1) s a)
  told (inr a) (inl b) = ap (λ x. one (x && nat_le s (i + own))) (le-leb i s a) ∙ ap one (le-leb s (i + own) (omega (arith, b))) ∙ sym (within i (own + 1) s a b)
  told (inr a) (inr b) = ap (λ x. one (nat_le i s && x)) (not_le s (i + own) (omega (arith, b))) ∙ neither (nat_le i s) ∙ sym (behind i (own + 1) s b)

-- ---- how many groups of a tree a number lies in

module _ (s : ℕ) where
  abbrev count : List Group → ℕ
  count groups = sum_by (λ g. one (is_between s g)) groups

  both : (xs ys : List Group) (i m n : ℕ) → count xs ≡ inside i m s → count ys ≡ inside (i + m) n s → count (xs ++ ys) ≡ inside i (m + n) s
  both xs ys i m n h k = let e = sum_by-append (λ g. one (is_between s g)) xs ys in let f = inside_both i m n s in omega (arith, e, h, k, f)

  mutual
    inner_counted : (i : ℕ) (k : TKind) → count (inner_groups i k) ≡ inside i (inner_size k) s
    inner_counted i (let_to m x t r) = sym (none_inside i s)
    inner_counted i (let_array m x t z n) = sym (none_inside i s)
    inner_counted i (assign x r) = sym (none_inside i s)
    inner_counted i (assign_index x e r) = sym (none_inside i s)
    inner_counted i (assign_deref x r) = sym (none_inside i s)
    inner_counted i (if_else c a b) = both (block_groups i a) (else_groups (i + block_size a) b) i (block_size a) (else_size b) (block_counted i a) (else_counted (i + block_size a) b)
    inner_counted i (for_in x m n b) = block_counted i b
    inner_counted i (while_do c n b) = block_counted i b
    inner_counted i (call_only c) = sym (none_inside i s)
    inner_counted i (sense_only x) = sym (none_inside i s)
    inner_counted i (emit p e) = sym (none_inside i s)
    inner_counted i (fresh x) = sym (none_inside i s)
    inner_counted i (consistent x n) = sym (none_inside i s)
    inner_counted i (return e) = sym (none_inside i s)

    else_counted : (i : ℕ) (b : TElse) → count (else_groups i b) ≡ inside i (else_size b) s
    else_counted i no_else = sym (none_inside i s)
    else_counted i (else_do b) = block_counted i b

    block_counted : (i : ℕ) (b : TBlock) → count (block_groups i b) ≡ inside i (block_size b) s
    block_counted i (block id ss) = stmts_counted i ss

    stmts_counted : (i : ℕ) (ss : TStmts) → count (stmts_groups i ss) ≡ inside i (stmts_size ss) s
    stmts_counted i no_stmts = sym (none_inside i s)
    stmts_counted i (more (stmt id line k) ss) =
        let own = own_pulls k in
        let n = inner_size k in
        let inner = inner_groups (i + own + 1) k in
        let rest = stmts_groups (i + (own + 1 + n)) ss in
        let e : i + own + 1 ≡ i + (own + 1) = omega arith in
        let f : i + (own + 1 + n) ≡ i + (own + 1) + n = omega arith in
        let a = inner_counted (i + own + 1) k ∙ ap (λ j. inside j n s) e in
        let b = stmts_counted (i + (own + 1 + n)) ss ∙ ap (λ j. inside j (stmts_size ss) s) f in
        let c = both inner rest (i + (own + 1)) n (stmts_size ss) a b in
        let d = sum_by-cons (λ g. one (is_between s g)) (i, i + own) (inner ++ rest) in
        let g = between_inside i own s in
        let h = inside_both i (own + 1) (n + stmts_size ss) s in
        let q : own + 1 + (n + stmts_size ss) ≡ own + 1 + n + stmts_size ss = omega arith in
        let r = ap (λ m. inside i m s) q in
        omega (arith, c, d, g, h, r)

  functions_counted : (i : ℕ) (fs : List TFunction) → count (functions_groups i fs) ≡ inside i (sum_by (λ f. block_size f.body) fs) s
  functions_counted i [] = sym (none_inside i s)
  functions_counted i (f ∷ fs) =
      both (block_groups i f.body) (functions_groups (i + block_size f.body) fs) i (block_size f.body) (sum_by (λ g. block_size g.body) fs) (block_counted i f.body)
      (functions_counted (i + block_size f.body) fs)
      ∙ ap (λ n. inside i n s) (sym (sum_by-cons (λ g. block_size g.body) f fs))

  pub counted_once : (p : TProgram) → 1 ≤ s → s < 1 + program_size p → count_by (is_between s) (program_groups p) ≡ 1
  counted_once p h g = functions_counted 1 p.functions ∙ within 1 (program_size p) s h g
