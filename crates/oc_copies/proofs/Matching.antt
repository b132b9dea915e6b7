-- Two stores in which places hold the same under other names: the variables of a call's own, and those that were lent.
use Rattle.std.proofs.Common.{◌≡◌, ◌⊎◌, inl, inr, ℕ, zero, suc, ◌+◌, ◌-◌, ◌<◌, ◌≤◌, Bool, true, false, true≢false, ◌==◌, List, length, drop, Option, Some, None, refl, sym, ap, ◌∙◌, subst, arith}
use Rattle.std.specs.Prelude.{ℤ, if◌then◌else◌, unwrap_or, nat_lt}
use Rattle.oc_tree.specs.declared.said.Said.{Said}
use Rattle.oc_meaning.specs.Store.{Held, Place, Local, Global, Turn, Nowhere, Store, at, nothing, held_at, put, made, left_at, noted}
use Rattle.oc_meaning.specs.Exec.{opened, closed, used, done}
use Rattle.oc_copies.specs.Copies.{beside}
use Rattle.oc_copies.proofs.Cells.{at_past, at_drop, drop_length, IsCell, same_cell, has_place, there, held_put, held_put_other, put_locals, put_nv}

-- how places of the one store are called in the other
pub record Renaming : Type 0 where
  -- so many variables of either were there at the start; later ones stand for each other in their order
  pub low : ℕ
  pub other_low : ℕ
  -- how many nonvolatile variables there are
  pub nvs : ℕ
  pub to : Place → Place
  -- what can be reached, and what can only be read
  pub live : Place → Bool
  pub fixed : Place → Bool

pub record IsRenaming (r : Renaming) : Type 0 where
  pub later : (i : ℕ) → r.to (Local (r.low + i)) ≡ Local (r.other_low + i)
  pub later_live : (i : ℕ) → r.live (Local (r.low + i)) ≡ true
  pub later_free : (i : ℕ) → r.fixed (Local (r.low + i)) ≡ false
  pub low_other : (l m : ℕ) → l < r.low → r.live (Local l) ≡ true → r.to (Local l) ≡ Local m → m < r.other_low
  pub turns : (z : ℤ) → (r.to (Turn z) ≡ Turn z) × (r.live (Turn z) ≡ true) × (r.fixed (Turn z) ≡ false)
  pub nowhere : (r.to Nowhere ≡ Nowhere) × (r.live Nowhere ≡ true) × (r.fixed Nowhere ≡ false)
  pub stored : (g : ℕ) → r.live (Global g) ≡ true → r.to (Global g) ≡ Global g
  -- what is written has one name
  pub apart : (a b : Place) → r.live a ≡ true → r.live b ≡ true → r.fixed a ≡ false → IsCell a → r.to a ≡ r.to b → a ≡ b
  pub same_there : (a : Place) → r.live a ≡ true → r.fixed a ≡ false → (n : ℕ) → has_place (r.other_low + n) r.nvs (r.to a) ≡ has_place (r.low + n) r.nvs a

module _ (r : Renaming) (is : IsRenaming r) (start other_start : Store) where
  -- nothing stands for this place
  abbrev Unmet : Place → Type 0
  Unmet b = (a : Place) → r.live a ≡ true → r.to a ≡ b → ⊥

  pub record Match (σ τ : Store) : Type 0 where
    pub more : ℕ
    pub count : length σ.locals ≡ r.low + more
    pub other_count : length τ.locals ≡ r.other_low + more
    pub stored : length σ.nv ≡ r.nvs
    pub other_stored : length τ.nv ≡ r.nvs
    pub holds : (a : Place) → r.live a ≡ true → held_at σ a ≡ held_at τ (r.to a)
    pub rest : beside σ ≡ beside τ
    pub kept : (a : Place) → (r.live a ≡ false) ⊎ (r.fixed a ≡ true) → held_at σ a ≡ held_at start a
    pub other_kept : (b : Place) → Unmet b → held_at τ b ≡ held_at other_start b

  -- ---- writes

  -- where neither is there, neither holds the value
  either_put : (b c : Bool) (h x y : Held) → b ≡ c → x ≡ y → (if b then h else x) ≡ (if c then h else y)
  either_put b c h x y e f = ap (λ t. if t then h else x) e ∙ ap (λ z. if c then h else z) f

  cell_there : (σ τ : Store) → Match σ τ → (a : Place) → r.live a ≡ true → r.fixed a ≡ false → there σ a ≡ there τ (r.to a)
  cell_there σ τ m a l f =
      ap (λ n. has_place n (length σ.nv) a) m.count ∙ ap (λ n. has_place (r.low + m.more) n a) m.stored
      ∙ sym (is.same_there a l f m.more) ∙ ap (λ n. has_place n r.nvs (r.to a)) (sym m.other_count) ∙ ap (λ n. has_place (length τ.locals) n (r.to a)) (sym m.other_stored)

  put_cell : (σ τ : Store) (a : Place) (h : Held) → IsCell a → r.live a ≡ true → r.fixed a ≡ false → Match σ τ → Match (put σ a h) (put τ (r.to a) h)
  put_cell σ τ a h c l f m = record {
    more = m.more;
    count = put_locals σ a h ∙ m.count;
    other_count = put_locals τ (r.to a) h ∙ m.other_count;
    stored = put_nv σ a h ∙ m.stored;
    other_stored = put_nv τ (r.to a) h ∙ m.other_stored;
    holds = λ b k. elim (same_cell a b c) [
      | inl e ↦ subst (λ q. held_at (put σ a h) q ≡ held_at (put τ (r.to a) h) (r.to q)) e
          (held_put σ a h ∙ either_put (there σ a) (there τ (r.to a)) h (held_at σ a) (held_at τ (r.to a)) (cell_there σ τ m a l f) (m.holds a l) ∙ sym (held_put τ (r.to a) h))
      | inr n ↦ held_put_other σ a b h n ∙ m.holds b k ∙ sym (held_put_other τ (r.to a) (r.to b) h (λ e. n (is.apart a b l k f c e)))
    ];
    rest = put_beside σ a h ∙ m.rest ∙ sym (put_beside τ (r.to a) h);
    kept = λ b k. held_put_other σ a b h (λ e. other b k e) ∙ m.kept b k;
    other_kept = λ b n. held_put_other τ (r.to a) b h (λ e. n a l e) ∙ m.other_kept b n;
  }
    where
      put_beside : (υ : Store) (q : Place) (x : Held) → beside (put υ q x) ≡ beside υ
      put_beside υ (Local l) x = refl
      put_beside υ (Global l) x = refl
      put_beside υ (Turn l) x = refl
      put_beside υ Nowhere x = refl

      other : (b : Place) → (r.live b ≡ false) ⊎ (r.fixed b ≡ true) → a ≡ b → ⊥
      other b (inl k) e = absurd (true≢false (sym l ∙ ap r.live e ∙ k))
      other b (inr k) e = absurd (true≢false (sym k ∙ sym (ap r.fixed e) ∙ f))

  pub put_match : (σ τ : Store) (a : Place) (h : Held) → r.live a ≡ true → r.fixed a ≡ false → Match σ τ → Match (put σ a h) (put τ (r.to a) h)
  put_match σ τ (Local i) h l f m = put_cell σ τ (Local i) h tt l f m
  put_match σ τ (Global g) h l f m = put_cell σ τ (Global g) h tt l f m
  put_match σ τ (Turn z) h l f m = subst (λ q. Match σ (put τ q h)) (sym (is.turns z).0) m
  put_match σ τ Nowhere h l f m = subst (λ q. Match σ (put τ q h)) (sym is.nowhere.0) m

  -- ---- a new variable

  new_holds : (σ : Store) (h : Held) (n : ℕ) → length σ.locals ≡ n → held_at (made h σ) (Local n) ≡ h
  new_holds σ h n e = let same : (n == length σ.locals) ≡ true = grind (arith, e) in ap (λ b. unwrap_or (if b then Some h else at σ.locals n) nothing) same

  old_holds : (σ : Store) (h : Held) (q : Place) → (q ≡ Local (length σ.locals) → ⊥) → held_at (made h σ) q ≡ held_at σ q
  old_holds σ h (Local l) n = by (l == length σ.locals) refl
    where
      by : (b : Bool) → (l == length σ.locals) ≡ b → unwrap_or (if b then Some h else at σ.locals l) nothing ≡ unwrap_or (at σ.locals l) nothing
      by true e = let same : l ≡ length σ.locals = grind (arith, e) in absurd (n (ap Local same))
      by false e = refl
  old_holds σ h (Global g) n = refl
  old_holds σ h (Turn z) n = refl
  old_holds σ h Nowhere n = refl

  pub made_match : (σ τ : Store) (h : Held) → Match σ τ → Match (made h σ) (made h τ)
  made_match σ τ h m = record {
    more = suc m.more;
    count = omega (arith, m.count);
    other_count = omega (arith, m.other_count);
    stored = m.stored;
    other_stored = m.other_stored;
    holds = λ b k. elim (same_cell new b tt) [
      | inl e ↦ subst (λ q. held_at (made h σ) q ≡ held_at (made h τ) (r.to q)) e (new_holds σ h (r.low + m.more) m.count ∙ sym (new_holds τ h (r.other_low + m.more) m.other_count)
          ∙ ap (held_at (made h τ)) (sym (is.later m.more)))
      | inr n ↦ old_holds σ h b (λ e. n (sym (e ∙ ap Local m.count))) ∙ m.holds b k
          ∙ sym (old_holds τ h (r.to b) (λ e. n (is.apart new b (is.later_live m.more) k (is.later_free m.more) tt (is.later m.more ∙ sym (e ∙ ap Local m.other_count)))))
    ];
    rest = m.rest;
    kept = λ b k. old_holds σ h b (λ e. other b k (e ∙ ap Local m.count)) ∙ m.kept b k;
    other_kept = λ b n. old_holds τ h b (λ e. n new (is.later_live m.more) (is.later m.more ∙ sym (e ∙ ap Local m.other_count))) ∙ m.other_kept b n;
  }
    where
      new : Place
      new = Local (r.low + m.more)

      other : (b : Place) → (r.live b ≡ false) ⊎ (r.fixed b ≡ true) → b ≡ new → ⊥
      other b (inl k) e = absurd (true≢false (sym (is.later_live m.more) ∙ sym (ap r.live e) ∙ k))
      other b (inr k) e = absurd (true≢false (sym k ∙ ap r.fixed e ∙ is.later_free m.more))

  -- ---- variables that are gone

  -- a place is among those that stay where the newest k are dropped
  abbrev Stays : (k count : ℕ) → Place → Type 0
  Stays k count (Local l) = l + k < count
  Stays k count q = Unit {0}

  abbrev dropped_to : ℕ → Store → Store
  dropped_to k σ = record σ { locals = drop k σ.locals }

  stays_held : (σ : Store) (k : ℕ) (q : Place) → Stays k (length σ.locals) q → held_at (dropped_to k σ) q ≡ held_at σ q
  stays_held σ k (Local l) h = ap (λ o. unwrap_or o nothing) (at_drop σ.locals k l h)
  stays_held σ k (Global g) h = refl
  stays_held σ k (Turn z) h = refl
  stays_held σ k Nowhere h = refl

  gone_held : (σ : Store) (k l : ℕ) → length σ.locals ≤ l + k → held_at (dropped_to k σ) (Local l) ≡ nothing
  gone_held σ k l h = ap (λ o. unwrap_or o nothing) (at_past (drop k σ.locals) l (omega (arith, h, drop_length σ.locals k)))

  -- a place that something low stands for stays
  low_stays : (k count l : ℕ) (q : Place) → r.other_low + k ≤ count → l < r.low → r.live (Local l) ≡ true → r.to (Local l) ≡ q → Stays k count q
  low_stays k count l (Local m) c low live e = let b = is.low_other l m low live e in omega (arith, b, c)
  low_stays k count l (Global g) c low live e = tt
  low_stays k count l (Turn z) c low live e = tt
  low_stays k count l Nowhere c low live e = tt

  low_or_later : (low l : ℕ) → (l < low) ⊎ ((i : ℕ) × (l ≡ low + i))
  low_or_later zero l = inr (l, omega arith)
  low_or_later (suc low) zero = inl (omega arith)
  low_or_later (suc low) (suc l) = elim (low_or_later low l) [
    | inl h ↦ inl (omega (arith, h))
    | inr p ↦ inr (p.0, omega (arith, p.1))
  ]

  module _ (σ τ : Store) (m : Match σ τ) (k : ℕ) (few : k ≤ m.more) where
    later_same : (i : ℕ) → r.live (Local (r.low + i)) ≡ true → held_at (dropped_to k σ) (Local (r.low + i)) ≡ held_at (dropped_to k τ) (Local (r.other_low + i))
    later_same i live = by (nat_lt (i + k) m.more) refl
      where
        by : (b : Bool) → nat_lt (i + k) m.more ≡ b → held_at (dropped_to k σ) (Local (r.low + i)) ≡ held_at (dropped_to k τ) (Local (r.other_low + i))
        by true e =
            let h : i + k < m.more = grind (arith, e) in
            stays_held σ k (Local (r.low + i)) (omega (arith, h, m.count)) ∙ m.holds (Local (r.low + i)) live ∙ ap (held_at τ) (is.later i)
            ∙ sym (stays_held τ k (Local (r.other_low + i)) (omega (arith, h, m.other_count)))
        by false e =
            let h : m.more ≤ i + k = grind (arith, e) in
            gone_held σ k (r.low + i) (omega (arith, h, m.count)) ∙ sym (gone_held τ k (r.other_low + i) (omega (arith, h, m.other_count)))

    drop_holds : (a : Place) → r.live a ≡ true → held_at (dropped_to k σ) a ≡ held_at (dropped_to k τ) (r.to a)
    drop_holds (Local l) live = elim (low_or_later r.low l) [
      | inl h ↦ stays_held σ k (Local l) (omega (arith, h, few, m.count)) ∙ m.holds (Local l) live
          ∙ sym (stays_held τ k (r.to (Local l)) (low_stays k (length τ.locals) l (r.to (Local l)) (omega (arith, few, m.other_count)) h live refl))
      | inr p ↦
          let live' : r.live (Local (r.low + p.0)) ≡ true = ap (λ n. r.live (Local n)) (sym p.1) ∙ live in
          ap (λ n. held_at (dropped_to k σ) (Local n)) p.1 ∙ later_same p.0 live' ∙ ap (held_at (dropped_to k τ)) (sym (ap (λ n. r.to (Local n)) p.1 ∙ is.later p.0))
    ]
    drop_holds (Global g) live = m.holds (Global g) live ∙ ap (held_at τ) (is.stored g live) ∙ ap (held_at (dropped_to k τ)) (sym (is.stored g live))
    drop_holds (Turn z) live = ap (held_at (dropped_to k τ)) (sym (is.turns z).0)
    drop_holds Nowhere live = ap (held_at (dropped_to k τ)) (sym is.nowhere.0)

    drop_kept : (a : Place) → (r.live a ≡ false) ⊎ (r.fixed a ≡ true) → held_at (dropped_to k σ) a ≡ held_at start a
    drop_kept (Local l) h = elim (low_or_later r.low l) [
      | inl b ↦ stays_held σ k (Local l) (omega (arith, b, few, m.count)) ∙ m.kept (Local l) h
      | inr p ↦ absurd (elim h [
        | inl e ↦ true≢false (sym (is.later_live p.0) ∙ ap (λ n. r.live (Local n)) (sym p.1) ∙ e)
        | inr e ↦ true≢false (sym e ∙ ap (λ n. r.fixed (Local n)) p.1 ∙ is.later_free p.0)
      ])
    ]
    drop_kept (Global g) h = m.kept (Global g) h
    drop_kept (Turn z) h = m.kept (Turn z) h
    drop_kept Nowhere h = m.kept Nowhere h

    drop_other : (b : Place) → Unmet b → held_at (dropped_to k τ) b ≡ held_at other_start b
    drop_other (Local l) h = elim (low_or_later r.other_low l) [
      | inl b ↦ stays_held τ k (Local l) (omega (arith, b, few, m.other_count)) ∙ m.other_kept (Local l) h
      | inr p ↦ absurd (h (Local (r.low + p.0)) (is.later_live p.0) (is.later p.0 ∙ ap Local (sym p.1)))
    ]
    drop_other (Global g) h = m.other_kept (Global g) h
    drop_other (Turn z) h = m.other_kept (Turn z) h
    drop_other Nowhere h = m.other_kept Nowhere h

    drop_match : Match (dropped_to k σ) (dropped_to k τ)
    drop_match = record {
      more = m.more - k;
      count = omega (arith, drop_length σ.locals k, m.count, few);
      other_count = omega (arith, drop_length τ.locals k, m.other_count, few);
      stored = m.stored;
      other_stored = m.other_stored;
      holds = drop_holds;
      rest = m.rest;
      kept = drop_kept;
      other_kept = drop_other;
    }

  -- at the end of a block that began with so many variables more than at the start
  pub left_match : (σ τ : Store) (x : ℕ) → Match σ τ → Match (left_at (r.low + x) σ) (left_at (r.other_low + x) τ)
  left_match σ τ x m =
      let one : length σ.locals - (r.low + x) ≡ m.more - x = omega (arith, m.count) in
      let other : length τ.locals - (r.other_low + x) ≡ m.more - x = omega (arith, m.other_count) in
      let d = drop_match σ τ m (m.more - x) (omega arith) in
      subst (λ n. Match (dropped_to n σ) (left_at (r.other_low + x) τ)) (sym one) (subst (λ n. Match (dropped_to (m.more - x) σ) (dropped_to n τ)) (sym other) d)

  -- ---- what is told beside

  held_same : (σ υ : Store) → υ.locals ≡ σ.locals → υ.nv ≡ σ.nv → (q : Place) → held_at υ q ≡ held_at σ q
  held_same σ υ l n (Local i) = ap (λ xs. unwrap_or (at xs i) nothing) l
  held_same σ υ l n (Global g) = ap (λ xs. held_at (record σ { nv = xs }) (Global g)) n
  held_same σ υ l n (Turn z) = refl
  held_same σ υ l n Nowhere = refl

  -- what changes nothing but what is told
  pub record IsBeside (f : Store → Store) : Type 0 where
    pub locals : (σ : Store) → (f σ).locals ≡ σ.locals
    pub nv : (σ : Store) → (f σ).nv ≡ σ.nv
    pub commutes : (σ : Store) → beside (f σ) ≡ f (beside σ)

  pub beside_match : (f : Store → Store) → IsBeside f → (σ τ : Store) → Match σ τ → Match (f σ) (f τ)
  beside_match f b σ τ m = record {
    more = m.more;
    count = ap length (b.locals σ) ∙ m.count;
    other_count = ap length (b.locals τ) ∙ m.other_count;
    stored = ap length (b.nv σ) ∙ m.stored;
    other_stored = ap length (b.nv τ) ∙ m.other_stored;
    holds = λ a l. held_same σ (f σ) (b.locals σ) (b.nv σ) a ∙ m.holds a l ∙ sym (held_same τ (f τ) (b.locals τ) (b.nv τ) (r.to a));
    rest = b.commutes σ ∙ ap f m.rest ∙ sym (b.commutes τ);
    kept = λ a k. held_same σ (f σ) (b.locals σ) (b.nv σ) a ∙ m.kept a k;
    other_kept = λ a n. held_same τ (f τ) (b.locals τ) (b.nv τ) a ∙ m.other_kept a n;
  }

  pub opened_beside : (o : Option ℕ) → IsBeside (opened o)
  opened_beside None = record { locals = λ σ. refl; nv = λ σ. refl; commutes = λ σ. refl }
  opened_beside (Some n) = record { locals = λ σ. refl; nv = λ σ. refl; commutes = λ σ. refl }

  pub closed_beside : (o : Option ℕ) → IsBeside (closed o)
  closed_beside None = record { locals = λ σ. refl; nv = λ σ. refl; commutes = λ σ. refl }
  closed_beside (Some n) = record { locals = λ σ. refl; nv = λ σ. refl; commutes = λ σ. refl }

  pub used_beside : (b : Bool) (n : ℕ) (s : List ℕ) → IsBeside (used b n s)
  used_beside true n s = record { locals = λ σ. refl; nv = λ σ. refl; commutes = λ σ. refl }
  used_beside false n s = record { locals = λ σ. refl; nv = λ σ. refl; commutes = λ σ. refl }

  pub done_beside : (b : Bool) (n : ℕ) (s : List ℕ) → IsBeside (done b n s)
  done_beside true n s = record { locals = λ σ. refl; nv = λ σ. refl; commutes = λ σ. refl }
  done_beside false n s = record { locals = λ σ. refl; nv = λ σ. refl; commutes = λ σ. refl }

  pub noted_beside : (s : Said) (n : List ℕ) → IsBeside (noted s n)
  noted_beside s n = record { locals = λ σ. refl; nv = λ σ. refl; commutes = λ σ. refl }
