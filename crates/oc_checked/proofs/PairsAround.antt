-- The statements around a part of a program, and what they tell of the blocks in which statements stand.
use Rattle.std.proofs.Common.{◌≡◌, ◌<◌, ◌≤◌, ◌⊎◌, inl, inr, ℕ, suc, Bool, true, false, List, [], ◌∷◌, ◌++◌, cond, Some, refl, ap, sym, ◌∙◌, subst, arith, append_assoc}
use Rattle.std.specs.Prelude.{◌==◌}
use Rattle.std.proofs.lemmas.Bool.{eqb-true}
use Rattle.std.proofs.lemmas.Option.{none-some, same_Some}
use Rattle.oc_tree.specs.Tree.{TProgram}
use Rattle.oc_tree.specs.Places.{block_of}
use Rattle.oc_desugar.proofs.BlockPairs.{Pair, block_beside, block_is_beside, program_pairs}
use Rattle.oc_checked.proofs.BlockRanges.{EachPair, pairs_join, pairs_map, From, Ranged, RangedIn}

-- not between n and m
abbrev pub Gap : (n m s : ℕ) → Type 0
Gap n m s = (s ≤ n) ⊎ (m ≤ s)

-- a block below j, or from d on
abbrev pub Outside : (j d b : ℕ) → Type 0
Outside j d b = (b < j) ⊎ (d ≤ b)

-- an earlier statement, in another block
abbrev pub Earlier : (i j d : ℕ) → Pair → Type 0
Earlier i j d x = (x.0 < i) × Outside j d x.1

-- a later statement, in another block
abbrev pub Later : (z j d : ℕ) → Pair → Type 0
Later z j d x = (z ≤ x.0) × Outside j d x.1

-- outside of a smaller range
smaller : (j d j' d' b : ℕ) → j ≤ j' → d' ≤ d → Outside j d b → Outside j' d' b
smaller j d j' d' b l m (inl h) = inl (omega (arith, h, l))
smaller j d j' d' b l m (inr h) = inr (omega (arith, h, m))

-- what is in a range is behind what ends where it begins
pub later_part : (a z c d j : ℕ) (xs : List Pair) → EachPair (Ranged a z c d) xs → EachPair (Later a j c) xs
later_part a z c d j xs h = pairs_map (Ranged a z c d) (Later a j c) (λ x r. (r.0.0, inr r.1.0)) xs h

-- and before what begins where it ends
pub earlier_part : (a z c d e : ℕ) (xs : List Pair) → EachPair (Ranged a z c d) xs → EachPair (Earlier z d e) xs
earlier_part a z c d e xs h = pairs_map (Ranged a z c d) (Earlier z d e) (λ x r. (r.0.1, inl r.1.1)) xs h

-- what is found beside a number stands in the list
found : (P : Pair → Type 0) (xs : List Pair) → EachPair P xs → (s b : ℕ) → block_beside xs s ≡ Some b → P (s, b)
found P [] h s b e = absurd (none-some b e)
found P (x ∷ xs) h s b e = go (x.0 == s) refl e (found P xs h.1 s b)
  where
    go : (c : Bool) → (x.0 == s) ≡ c → cond c (Some x.1) (block_beside xs s) ≡ Some b → (block_beside xs s ≡ Some b → P (s, b)) → P (s, b)
    go true is e rest = subst (λ m. P (s, m)) (same_Some x.1 b e) (subst (λ m. P (m, x.1)) (eqb-true x.0 s is) h.0)
    go false is e rest = rest e

module _ (p : TProgram) where
  -- Statements with numbers from i on and below z stand in one stretch of the program's. Those in front of it have lower
  -- numbers and those behind it greater ones, and all of these stand in blocks that are not from j on and below d.
  pub record Around (i z j d : ℕ) (part : List Pair) : Type 0 where
    pub front : List Pair
    pub back : List Pair
    pub is : program_pairs p ≡ front ++ (part ++ back)
    pub before : EachPair (Earlier i j d) front
    pub behind : EachPair (Later z j d) back

  -- around the first of two parts
  pub around_first : (i z j d z' j' d' : ℕ) (xs ys : List Pair) → z' ≤ z → j ≤ j' → d' ≤ d → EachPair (Later z' j' d') ys → Around i z j d (xs ++ ys) → Around i z' j' d' xs
  around_first i z j d z' j' d' xs ys l m n h a = record {
    front = a.front;
    back = ys ++ a.back;
    is = a.is ∙ ap (λ r. a.front ++ r) (append_assoc xs ys a.back);
    before = pairs_map (Earlier i j d) (Earlier i j' d') (λ x r. (r.0, smaller j d j' d' x.1 m n r.1)) a.front a.before;
    behind = pairs_join (Later z' j' d') ys a.back h (pairs_map (Later z j d) (Later z' j' d') (λ x r. (omega (arith, r.0, l), smaller j d j' d' x.1 m n r.1)) a.back a.behind);
  }

  -- around the second of two
  pub around_second : (i z j d i' j' d' : ℕ) (xs ys : List Pair) → i ≤ i' → j ≤ j' → d' ≤ d → EachPair (Earlier i' j' d') xs → Around i z j d (xs ++ ys) → Around i' z j' d' ys
  around_second i z j d i' j' d' xs ys l m n h a = record {
    front = a.front ++ xs;
    back = a.back;
    is = a.is ∙ ap (λ r. a.front ++ r) (append_assoc xs ys a.back) ∙ sym (append_assoc a.front xs (ys ++ a.back));
    before = pairs_join (Earlier i' j' d') a.front xs (pairs_map (Earlier i j d) (Earlier i' j' d') (λ x r. (omega (arith, r.0, l), smaller j d j' d' x.1 m n r.1)) a.front a.before) h;
    behind = pairs_map (Later z j d) (Later z j' d') (λ x r. (r.0, smaller j d j' d' x.1 m n r.1)) a.back a.behind;
  }

  -- around the same part, for fewer blocks
  pub around_less : (i z j d j' : ℕ) (xs : List Pair) → j ≤ j' → Around i z j d xs → Around i z j' d xs
  around_less i z j d j' xs m a = record {
    front = a.front;
    back = a.back;
    is = a.is;
    before = pairs_map (Earlier i j d) (Earlier i j' d) (λ x r. (r.0, smaller j d j' d x.1 m (omega arith) r.1)) a.front a.before;
    behind = pairs_map (Later z j d) (Later z j' d) (λ x r. (r.0, smaller j d j' d x.1 m (omega arith) r.1)) a.back a.behind;
  }

  -- what holds of each statement and its block
  pub told : (P : Pair → Type 0) (i z j d : ℕ) (part : List Pair) (a : Around i z j d part) → EachPair P a.front → EachPair P part → EachPair P a.back → (s b : ℕ) → block_of p s ≡ Some b → P (s, b)
  told P i z j d part a f g h s b e =
      let all = subst (EachPair P) (sym a.is) (pairs_join P a.front (part ++ a.back) f (pairs_join P part a.back g h)) in
      found P (program_pairs p) all s b (sym (block_is_beside p s) ∙ e)

  -- the statements of a block have numbers in the range of that block
  pub in_block_range : (i z j d : ℕ) (xs : List Pair) → EachPair (Ranged i z j d) xs → Around i z j d xs → (b : ℕ) → b ≡ j → j < d → (s : ℕ) → block_of p s ≡ Some b → From i z s
  in_block_range i z j d xs r a b e lt s h =
      told P i z j d xs a
      (pairs_map (Earlier i j d) P (λ x o at. absurd (never x.1 at o.1)) a.front a.before)
      (pairs_map (Ranged i z j d) P (λ x o at. o.0) xs r)
      (pairs_map (Later z j d) P (λ x o at. absurd (never x.1 at o.1)) a.back a.behind)
      s b h refl
    where
      P : Pair → Type 0
      P x = x.1 ≡ b → From i z x.0

      never : (c : ℕ) → c ≡ b → Outside j d c → ⊥
      never c at (inl o) = omega (arith, at, e, o)
      never c at (inr o) = omega (arith, at, e, o, lt)

  -- between a statement of a block and the next, m, there are none of that block
  pub in_block_gap : (i z j d m j' b : ℕ) (ks ss : List Pair) → m ≤ z → b < j → EachPair (Ranged (suc i) m j j') ks → EachPair (RangedIn b m z j' d) ss
      → Around i z j d ((i, b) ∷ (ks ++ ss)) → (s : ℕ) → block_of p s ≡ Some b → Gap i m s
  in_block_gap i z j d m j' b ks ss l lt r q a s h =
      told P i z j d ((i, b) ∷ (ks ++ ss)) a
      (pairs_map (Earlier i j d) P (λ x o at. inl (omega (arith, o.0))) a.front a.before) (
        λ at. inl (omega arith),
        pairs_join P ks ss
            (pairs_map (Ranged (suc i) m j j') P (λ x o at. absurd (omega (arith, at, lt, o.1.0))) ks r)
            (pairs_map (RangedIn b m z j' d) P (λ x o at. inr o.0.0) ss q),
      )
      (pairs_map (Later z j d) P (λ x o at. inr (omega (arith, o.0, l))) a.back a.behind)
      s b h refl
    where
      P : Pair → Type 0
      P x = x.1 ≡ b → Gap i m x.0
