-- The samples of an expression are those of variables that it names.
use Rattle.std.proofs.Common.{◌≡◌, ◌⊎◌, inl, inr, ℕ, Bool, true, false, ◌==◌, List, [], ◌∷◌, ◌++◌, Option, Some, None, refl, sym, subst}
use Rattle.std.specs.Prelude.{ℤ, if◌then◌else◌, nat_lt}
use Rattle.std.proofs.lemmas.Grind.{flat_map-append}
use Rattle.oc_tree.specs.Names.{Text}
use Rattle.oc_tree.specs.Tree.{TExpr, number, truth, variable, index, deref, unary, binary, sensed, called}
use Rattle.oc_tree.specs.declared.tree.BinaryOp.{BinaryOp}
use Rattle.oc_tree.specs.declared.tree.BinaryOp.TheVariants.{Or, And}
use Rattle.oc_tree.specs.Samples.{with_sample, union}
use Rattle.oc_meaning.specs.Store.{Value, Held, Store, Binding, held_at, place_of}
use Rattle.oc_meaning.specs.Eval.{Got, Val, Traps, is_zero, apply, given, and_got, depending, operated, combined, unary_value, element_of, read_element, value_of}
use Rattle.oc_tree.specs.Parts.{expr_parts}
use Rattle.oc_tree.specs.Named.{part_names, expr_names}
use Rattle.oc_tree.specs.Members.{IsOf}
use Rattle.oc_laws.proofs.Members.{of_left, of_right}

in_with : (j n : ℕ) (ms : List ℕ) → IsOf j (with_sample n ms) → (j ≡ n) ⊎ IsOf j ms
in_with j n [] h = h
in_with j n (m ∷ ms) h = by (nat_lt n m) (n == m) h (λ k. in_with j n ms k)
  where
    by : (b c : Bool) → IsOf j (if b then n ∷ m ∷ ms else (if c then m ∷ ms else m ∷ with_sample n ms)) → (IsOf j (with_sample n ms) → (j ≡ n) ⊎ IsOf j ms) → (j ≡ n) ⊎ IsOf j (m ∷ ms)
    by true c h rest = h
    by false true h rest = inr h
    by false false (inl e) rest = inr (inl e)
    by false false (inr k) rest = elim (rest k) [ inl e ↦ inl e | inr l ↦ inr (inr l) ]

pub in_union : (j : ℕ) (a b : List ℕ) → IsOf j (union a b) → IsOf j a ⊎ IsOf j b
in_union j [] b h = inr h
in_union j (n ∷ a) b h = elim (in_with j n (union a b) h) [
  | inl e ↦ inl (inl e)
  | inr k ↦ elim (in_union j a b k) [ inl l ↦ inl (inr l) | inr l ↦ inr l ]
]

abbrev pub got_samples : Got → List ℕ
got_samples (Val v) = v.samples
got_samples (Traps k) = []

module _ (env : List Binding) (σ : Store) (j : ℕ) where
  -- it is a sample of one of these names
  abbrev pub From : List Text → Type 0
  From xs = (x : Text) × IsOf x xs × IsOf j (held_at σ (place_of env x)).samples

  from_front : (xs ys : List Text) → From xs → From (xs ++ ys)
  from_front xs ys f = (f.0, of_left f.0 xs ys f.1, f.2)

  from_back : (xs ys : List Text) → From ys → From (xs ++ ys)
  from_back xs ys f = (f.0, of_right f.0 xs ys f.1, f.2)

  given_samples : (o : Option ℤ) (s : List ℕ) → IsOf j (got_samples (given o s)) → IsOf j s
  given_samples None s h = absurd h
  given_samples (Some z) s h = h

  depending_samples : (s : List ℕ) (g : Got) → IsOf j (got_samples (depending s g)) → IsOf j s ⊎ IsOf j (got_samples g)
  depending_samples s (Val v) h = in_union j s v.samples h
  depending_samples s (Traps k) h = absurd h

  operated_samples : (op : BinaryOp) (x y : Value) → IsOf j (got_samples (operated op x y)) → IsOf j x.samples ⊎ IsOf j y.samples
  operated_samples op x y h = in_union j x.samples y.samples (given_samples (apply op x.num y.num) (union x.samples y.samples) h)

  decided : (b : Bool) (v : Value) (g : Got) (w : Value) → w.samples ≡ v.samples → IsOf j (got_samples (if b then Val w else depending v.samples g)) → IsOf j v.samples ⊎ IsOf j (got_samples g)
  decided true v g w e h = inl (subst (IsOf j) e h)
  decided false v g w e h = depending_samples v.samples g h

  decided_other : (b : Bool) (v : Value) (g : Got) (w : Value) → w.samples ≡ v.samples → IsOf j (got_samples (if b then depending v.samples g else Val w)) → IsOf j v.samples ⊎ IsOf j (got_samples g)
  decided_other true v g w e h = depending_samples v.samples g h
  decided_other false v g w e h = inl (subst (IsOf j) e h)

  plainly : (op : BinaryOp) (g h : Got) → IsOf j (got_samples (and_got g (λ x. and_got h (λ y. operated op x y)))) → IsOf j (got_samples g) ⊎ IsOf j (got_samples h)
  plainly op (Val x) (Val y) h = operated_samples op x y h
  plainly op (Val x) (Traps k) h = absurd h
  plainly op (Traps k) g h = absurd h

  combined_samples : (op : BinaryOp) (g h : Got) → IsOf j (got_samples (combined op g h)) → IsOf j (got_samples g) ⊎ IsOf j (got_samples h)
  combined_samples And (Val x) g h = decided (is_zero x.num) x g _ refl h
  combined_samples And (Traps k) g h = absurd h
  combined_samples Or (Val x) g h = decided_other (is_zero x.num) x g _ refl h
  combined_samples Or (Traps k) g h = absurd h
  combined_samples op g h i = plainly op g h i

  element_samples : (v : Held) (o : Option ℕ) (s : List ℕ) → IsOf j (got_samples (read_element v o s)) → IsOf j v.samples ⊎ IsOf j s
  element_samples v None s h = absurd h
  element_samples v (Some i) s h = in_union j v.samples s h

  index_samples : (v : Held) (g : Got) (count : ℕ) → IsOf j (got_samples (and_got g (λ i. read_element v (element_of count i.num) i.samples))) → IsOf j v.samples ⊎ IsOf j (got_samples g)
  index_samples v (Val i) count h = element_samples v (element_of count i.num) i.samples h
  index_samples v (Traps k) count h = absurd h

  unary_samples : (op : _) (g : Got) → IsOf j (got_samples (unary_value op g)) → IsOf j (got_samples g)
  unary_samples op (Val v) h = h
  unary_samples op (Traps k) h = absurd h

  pub value_from : (e : TExpr) → IsOf j (got_samples (value_of env σ e)) → From (expr_names e)
  value_from (number z) h = absurd h
  value_from (truth b) h = absurd h
  value_from (variable x) h = (x, inl refl, h)
  value_from (deref x) h = (x, inl refl, h)
  value_from (index x e) h = elim (index_samples (held_at σ (place_of env x)) (value_of env σ e) _ h) [
    | inl k ↦ (x, inl refl, k)
    | inr k ↦ let f = value_from e k in (f.0, inr f.1, f.2)
  ]
  value_from (unary op e) h = value_from e (unary_samples op (value_of env σ e) h)
  value_from (binary op a b) h =
      subst (λ xs. From xs) (sym (flat_map-append part_names (expr_parts a) (expr_parts b)))
      (elim (combined_samples op (value_of env σ a) (value_of env σ b) h) [
        | inl k ↦ from_front (expr_names a) (expr_names b) (value_from a k)
        | inr k ↦ from_back (expr_names a) (expr_names b) (value_from b k)
      ])
  value_from (sensed s) h = absurd h
  value_from (called c) h = absurd h
