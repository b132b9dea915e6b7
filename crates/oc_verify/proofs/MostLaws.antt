-- The most words that a function needs, address by address.
use Rattle.std.proofs.Common.{◌≡◌, ℕ, ◌+◌, ◌<◌, ◌≤◌, List, length, get_or, max, Option, Some, None, refl, sym, ap, subst, ◌∙◌, ⊎_elim, inl, inr, arith, Bool, true, false, nat_lt}
use Rattle.std.specs.Prelude.{◌⊎◌, slice_get}
use Rattle.std.proofs.lemmas.Option.{slice_get_read}
use Rattle.oc_isa.specs.declared.instr.Instr.TheVariants.{Call}
use Rattle.oc_isa.specs.declared.instr.Placed.{Placed}
use Rattle.oc_isa.specs.Image.{Parts}
use Rattle.oc_verify.specs.declared.fault.VerifyError.TheVariants as errors
use Rattle.oc_verify.specs.declared.walk.Table.{Table}
use Rattle.oc_verify.specs.Facts.{IsNamed, IsStretch}
use Rattle.oc_verify.specs.Room.{BlamesDeep, IsMost, SeenAt, needed, needed_at}
use Rattle.oc_verify.specs.Rules.{code_at, names_exist, params_of}
use Rattle.oc_verify.specs.Stacks.{stack}
use Rattle.oc_verify.specs.Tables.{SeenCall}
use Rattle.oc_verify.specs.Told.{pair_of}
use Rattle.oc_verify.specs.Typing.{Pair}
use Rattle.oc_verify.specs.Walks.{IsTable, table_marks}
use Rattle.oc_verify.specs.Work.{Marks}
use Rattle.oc_verify.proofs.FactLaws.{here}
use Rattle.oc_verify.proofs.Owners.{stands}
use Rattle.oc_verify.proofs.RoomLaws.{max_or}
use Rattle.oc_verify.proofs.SeenLaws.{cell_call, cell_mark, kinds_high}

-- before an address it needs no more than this, and so many somewhere if that is any
pub record IsMostBefore (i : Parts) (tab : Marks) (bounds : List ℕ) (f end m : ℕ) : Type 0 where
  pub low : m ≤ i.stack
  pub most : (x : Placed) (p : Pair) (s : SeenAt i tab f x p) → s.address < end → needed_at i bounds f x p ≤ m
  pub held : (m ≡ 0) ⊎ ((y : Placed) × (q : Pair) × SeenAt i tab f y q × (m ≡ needed_at i bounds f y q))

-- an address in the code of f where the table has these stacks, with their height
pub record IsLooked (i : Parts) (t : Table) (f a : ℕ) (n : ℕ × ℕ) (x : Placed) (hs : List ℕ) : Type 0 where
  pub cell : slice_get t.cells.items a ≡ Some (Some n)
  pub found : code_at i f a ≡ Some x
  pub height : get_or hs n.0 0 ≡ length (pair_of t.tops t.regions n).ops

-- what is read of the table and of the code at an address
module _ (j i : Parts) (q : j ≡ i) (t : Table) (T : IsTable i t) (f : ℕ) (s : ℕ × ℕ) (S : IsStretch i f s) (a : ℕ) (l : s.0 ≤ a) (u : a < s.1)
    (o : Option (ℕ × ℕ)) (r : o ≡ get_or t.cells.items a o) where
  pub cell_read : slice_get t.cells.items a ≡ Some o
  cell_read = slice_get_read t.cells.items (length t.cells.items) a o refl (let n = T.sized in let m = S.4 in omega (arith, n, m, u)) r

  pub looked : (hs : List ℕ) → ((n : ℕ) → n ≤ length t.tops → get_or hs n 0 ≡ length (stack t.tops n)) → (n : ℕ × ℕ) → o ≡ Some n
      → (x : Placed) → x ≡ get_or j.code a x → IsLooked i t f a n x hs
  looked hs H n is x e =
      let c = cell_read ∙ ap Some is in
      record {
        cell = c;
        found = (here j i q f s S a l u x e).1;
        height = H n.0 (T.cells a n c).0 ∙ sym (kinds_high t.tops n.0);
      }

module _ (i : Parts) (tab : Marks) (bounds : List ℕ) (f : ℕ) where
  same_address : (a b : ℕ) → a < b + 1 → nat_lt a b ≡ false → a ≡ b
  same_address a b l t = let u : b ≤ a = grind (arith, t) in omega (arith, u, l)

  -- nothing was looked at there
  pub blank_more : (a m : ℕ) → tab a ≡ None → IsMostBefore i tab bounds f a m → IsMostBefore i tab bounds f (a + 1) m
  blank_more a m e B = record { low = B.low; most = λ x p s l. by x p s l (nat_lt s.address a) refl; held = B.held }
    where
      by : (x : Placed) (p : Pair) (s : SeenAt i tab f x p) → s.address < a + 1 → (b : Bool) → nat_lt s.address a ≡ b → needed_at i bounds f x p ≤ m
      by x p s l true t = B.most x p s (grind (arith, t))
      by x p s l false t = let z : Some p ≡ None = sym s.pair ∙ ap tab (same_address s.address a l t) ∙ e in absurd (cc)

  -- one address more
  pub seen_more : (a m : ℕ) (x : Placed) (p : Pair) → code_at i f a ≡ Some x → tab a ≡ Some p → needed_at i bounds f x p ≤ i.stack
      → IsMostBefore i tab bounds f a m → IsMostBefore i tab bounds f (a + 1) (max (needed_at i bounds f x p) m)
  seen_more a m x p c e h B = record {
    low = high (needed_at i bounds f x p) m i.stack h B.low;
    most = λ y q s l. by y q s l (nat_lt s.address a) refl;
    held = ⊎_elim
        (λ k. inr (x, p, record { address = a; found = c; pair = e }, k))
        (λ k. ⊎_elim (λ z. inl (k ∙ z)) (λ r. inr (r.0, r.1, r.2, k ∙ r.3)) B.held)
        (max_or (needed_at i bounds f x p) m);
  }
    where
      high : (u v w : ℕ) → u ≤ w → v ≤ w → max u v ≤ w
      high u v w k l = omega (arith, k, l)

      left : (u v w : ℕ) → w ≡ u → w ≤ max u v
      left u v w k = omega (arith, k)

      right : (u v w : ℕ) → w ≤ v → w ≤ max u v
      right u v w k = omega (arith, k)

      by : (y : Placed) (q : Pair) (s : SeenAt i tab f y q) → s.address < a + 1 → (b : Bool) → nat_lt s.address a ≡ b → needed_at i bounds f y q ≤ max (needed_at i bounds f x p) m
      by y q s l true t = right (needed_at i bounds f x p) m (needed_at i bounds f y q) (B.most y q s (grind (arith, t)))
      by y q s l false t =
          let w = same_address s.address a l t in
          let found : Some y ≡ Some x = sym s.found ∙ ap (code_at i f) w ∙ c in
          let pairs : Some q ≡ Some p = sym s.pair ∙ ap tab w ∙ e in
          let k : y ≡ x = (cc) in
          let n : q ≡ p = (cc) in
          left (needed_at i bounds f x p) m (needed_at i bounds f y q) (λ j. needed_at i bounds f (k j) (n j))

  -- at the end of its code
  pub most_all : (s : ℕ × ℕ) (end m : ℕ) → IsStretch i f s → s.1 ≤ end → IsMostBefore i tab bounds f end m → IsMost i tab bounds f m
  most_all h end m S l B = record {
    low = B.low;
    most = λ x p s. B.most x p s (inside x p s);
    held = λ x p s. ⊎_elim (λ z. (x, p, s, none (needed_at i bounds f x p) z (B.most x p s (inside x p s)))) (λ r. r) B.held;
  }
    where
      inside : (x : Placed) (p : Pair) (s : SeenAt i tab f x p) → s.address < end
      inside x p s = let u = (stands i f s.address x s.found).high in let e = S.3 in omega (arith, u, e, l)

      none : (n : ℕ) → m ≡ 0 → n ≤ m → m ≡ n
      none n z k = omega (arith, z, k)

-- with what was read at an address
module _ (i : Parts) (t : Table) (f a : ℕ) (n : ℕ × ℕ) (x : Placed) (hs : List ℕ) (L : IsLooked i t f a n x hs) where
  abbrev p : Pair
  p = pair_of t.tops t.regions n

  -- a call there
  pub looked_call : IsNamed i f → (g : ℕ) → x.instr ≡ Call g → (SeenCall i (table_marks t) f g a p → params_of i g ≤ length p.ops)
      → (g < length i.functions) × (params_of i g ≤ get_or hs n.0 0)
  looked_call named g is deep =
      let e : nat_lt g (length i.functions) ≡ true = ap (names_exist i f) (sym is) ∙ (named a x L.found).0 in
      (grind (arith, e), subst (λ k. params_of i g ≤ k) (sym L.height) (deep (cell_call i t f g a x n L.found is L.cell)))

  module _ (bounds : List ℕ) (h : ℕ) (is : h ≡ needed i bounds f x.instr (get_or hs n.0 0)) (size : ℕ) (stacks : size ≡ i.stack) where
    needs : h ≡ needed_at i bounds f x p
    needs = is ∙ ap (needed i bounds f x.instr) L.height

    -- it needs more than the stack has
    pub looked_deep : size < h → BlamesDeep i (table_marks t) bounds f (errors.Refused 0 11)
    looked_deep l = (
      refl,
      refl,
      x,
      p,
      record { address = a; found = L.found; pair = cell_mark t a n L.cell },
      subst (λ k. k < needed_at i bounds f x p) stacks (subst (λ k. size < k) needs l),
    )

    -- it needs no more
    pub looked_more : h ≤ size → (m : ℕ) → IsMostBefore i (table_marks t) bounds f a m → IsMostBefore i (table_marks t) bounds f (a + 1) (max h m)
    looked_more l m B = subst (λ k. IsMostBefore i (table_marks t) bounds f (a + 1) (max k m)) (sym needs)
        (seen_more i (table_marks t) bounds f a m x p L.found (cell_mark t a n L.cell) (subst (λ k. needed_at i bounds f x p ≤ k) stacks (subst (λ k. k ≤ size) needs l)) B)
