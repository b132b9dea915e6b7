-- How many regions begin with a statement, end with it, and are open in front of it.
use Rattle.std.proofs.Common.{◌≡◌, ◌<◌, ◌≤◌, ◌⊎◌, inl, inr, ℕ, ◌+◌, Bool, true, false, List, [], ◌∷◌, sum_by, cond, Option, Some, refl, ap, sym, ◌∙◌, arith}
use Rattle.std.specs.Prelude.{◌==◌, ◌&&◌, nat_lt, nat_le, if◌then◌else◌}
use Rattle.std.proofs.lemmas.Bool.{eqb-true, eqb-false, eq-eqb, ne_eqb, lt-ltb, le-ltb, le-leb, lt-leb}
use Rattle.std.proofs.lemmas.Option.{same_Some}
use Rattle.std.proofs.lemmas.List.Sums.{sum_by-cons}
use Rattle.oc_tree.specs.Marked.{TRegion}
use Rattle.oc_meaning.specs.Exec.{begun_by, ended_by}
use Rattle.oc_code.specs.Formed.{marks}
use Rattle.oc_checked.proofs.PairsAround.{Gap}
use Rattle.oc_checked.proofs.RegionsApart.{EachRegion, Differ, InBlock}

-- one where it holds
abbrev one_if : Bool → ℕ
one_if b = cond b 1 0

-- whether a region begins with statement n
abbrev pub begins : ℕ → TRegion → ℕ
begins n r = one_if (n == r.first)

-- whether it ends with it
abbrev pub ends : ℕ → TRegion → ℕ
ends n r = one_if (n == r.last)

-- whether a region from f to l is open in front of n
abbrev spans : (f l n : ℕ) → ℕ
spans f l n = one_if (nat_lt f n && nat_le n l)

-- whether a region of the block b is open in front of n
abbrev opens : (b n : ℕ) → TRegion → ℕ
opens b n r = cond (r.block == b) (spans r.first r.last n) 0

-- how many are open
abbrev pub open_at : List TRegion → (b n : ℕ) → ℕ
open_at rs b n = sum_by (opens b n) rs

-- ---- at most one region begins or ends with a statement

-- where none has the number n, the count is 0
none_keyed : (key : TRegion → ℕ) (n : ℕ) (rs : List TRegion) → EachRegion (λ q. key q ≡ n → ⊥) rs → sum_by (λ r. one_if (n == key r)) rs ≡ 0
none_keyed key n [] h = refl
none_keyed key n (r ∷ rs) h =
    let own : one_if (n == key r) ≡ 0 = ap one_if (ne_eqb n (key r) (λ e. h.0 (sym e))) in
    omega (arith, sum_by-cons (λ r. one_if (n == key r)) r rs, own, none_keyed key n rs h.1)

-- where others differ from one that has the number n, none of them has it
others_keyed : (key : TRegion → ℕ) (n : ℕ) (r : TRegion) (rs : List TRegion) → n ≡ key r → EachRegion (λ q. key q ≡ key r → ⊥) rs → EachRegion (λ q. key q ≡ n → ⊥) rs
others_keyed key n r [] e h = tt
others_keyed key n r (q ∷ rs) e h = (λ g. h.0 (g ∙ e), others_keyed key n r rs e h.1)

-- the mark where a region begins
pub begun_counted : (rs : List TRegion) (n : ℕ) → Differ (λ r. r.first) rs → marks (begun_by rs n) ≡ sum_by (begins n) rs
begun_counted [] n d = refl
begun_counted (r ∷ rs) n d = go (n == r.first) refl (begun_counted rs n d.1) ∙ sym (sum_by-cons (begins n) r rs)
  where
    go : (b : Bool) → (n == r.first) ≡ b → marks (begun_by rs n) ≡ sum_by (begins n) rs → marks (if b then Some r.id else begun_by rs n) ≡ begins n r + sum_by (begins n) rs
    go true is rest =
        let own : begins n r ≡ 1 = ap one_if is in
        let none = none_keyed (λ r. r.first) n rs (others_keyed (λ r. r.first) n r rs (eqb-true n r.first is) d.0) in
        omega (arith, own, none)
    go false is rest = let own : begins n r ≡ 0 = ap one_if is in omega (arith, own, rest)

-- the mark where a region ends
pub ended_counted : (rs : List TRegion) (n : ℕ) → Differ (λ r. r.last) rs → marks (ended_by rs n) ≡ sum_by (ends n) rs
ended_counted [] n d = refl
ended_counted (r ∷ rs) n d = go (n == r.last) refl (ended_counted rs n d.1) ∙ sym (sum_by-cons (ends n) r rs)
  where
    go : (b : Bool) → (n == r.last) ≡ b → marks (ended_by rs n) ≡ sum_by (ends n) rs → marks (if b then Some r.id else ended_by rs n) ≡ ends n r + sum_by (ends n) rs
    go true is rest =
        let own : ends n r ≡ 1 = ap one_if is in
        let none = none_keyed (λ r. r.last) n rs (others_keyed (λ r. r.last) n r rs (eqb-true n r.last is) d.0) in
        omega (arith, own, none)
    go false is rest = let own : ends n r ≡ 0 = ap one_if is in omega (arith, own, rest)

-- ---- from one statement of a block to the next

-- begun before n, and not ended before
spans_yes : (f l n : ℕ) → f < n → n ≤ l → spans f l n ≡ 1
spans_yes f l n a b = ap (λ c. one_if (c && nat_le n l)) (lt-ltb f n a) ∙ ap one_if (le-leb n l b)

-- not begun before n
spans_before : (f l n : ℕ) → n ≤ f → spans f l n ≡ 0
spans_before f l n a = ap (λ c. one_if (c && nat_le n l)) (le-ltb f n a)

-- ended before n
spans_behind : (f l n : ℕ) → l < n → spans f l n ≡ 0
spans_behind f l n a = ap (λ c. one_if (nat_lt f n && c)) (lt-leb n l a) ∙ both (nat_lt f n)
  where
    both : (b : Bool) → one_if (b && false) ≡ 0
    both true = refl
    both false = refl

-- the same number
is_one : (n f : ℕ) → n ≡ f → one_if (n == f) ≡ 1
is_one n f e = ap one_if (eq-eqb n f e)

-- another number
is_none : (n f : ℕ) → (n ≡ f → ⊥) → one_if (n == f) ≡ 0
is_none n f e = ap one_if (ne_eqb n f e)

-- at most n is less or n
less_or_same : (f n : ℕ) → f ≤ n → (f < n) ⊎ (n ≡ f)
less_or_same f n a = go (n == f) refl
  where
    go : (b : Bool) → (n == f) ≡ b → (f < n) ⊎ (n ≡ f)
    go true is = inr (eqb-true n f is)
    go false is = let differ = eqb-false n f is in inl (omega (arith, a, differ))

-- what is open in front of n or begins there is open in front of the next statement m or ends at n
abbrev Crosses : (f l n m : ℕ) → Type 0
Crosses f l n m = spans f l n + one_if (n == f) ≡ spans f l m + one_if (n == l)

-- of a region that begins from m on
begun_later : (f l n m : ℕ) → f ≤ l → n < m → m ≤ f → Crosses f l n m
begun_later f l n m o lt a =
    let none : spans f l n ≡ 0 = spans_before f l n (omega (arith, a, lt)) in
    let later : spans f l m ≡ 0 = spans_before f l m a in
    let start : one_if (n == f) ≡ 0 = is_none n f (λ e. omega (arith, e, a, lt)) in
    let stop : one_if (n == l) ≡ 0 = is_none n l (λ e. omega (arith, e, a, o, lt)) in
    omega (arith, none, later, start, stop)

-- of one that begins before n
begun_before : (f l n m : ℕ) → f < n → n < m → Gap n m l → Crosses f l n m
begun_before f l n m a lt (inr b) =
    let on : spans f l n ≡ 1 = spans_yes f l n a (omega (arith, b, lt)) in
    let later : spans f l m ≡ 1 = spans_yes f l m (omega (arith, a, lt)) b in
    let start : one_if (n == f) ≡ 0 = is_none n f (λ e. omega (arith, e, a)) in
    let stop : one_if (n == l) ≡ 0 = is_none n l (λ e. omega (arith, e, b, lt)) in
    omega (arith, on, later, start, stop)
begun_before f l n m a lt (inl b) =
    let later : spans f l m ≡ 0 = spans_behind f l m (omega (arith, b, lt)) in
    let start : one_if (n == f) ≡ 0 = is_none n f (λ e. omega (arith, e, a)) in
    let rest : spans f l n ≡ one_if (n == l) = go (less_or_same l n b) in
    omega (arith, later, start, rest)
  where
    go : (l < n) ⊎ (n ≡ l) → spans f l n ≡ one_if (n == l)
    go (inl c) =
        let none : spans f l n ≡ 0 = spans_behind f l n c in
        let stop : one_if (n == l) ≡ 0 = is_none n l (λ e. omega (arith, e, c)) in
        omega (arith, none, stop)
    go (inr e) =
        let on : spans f l n ≡ 1 = spans_yes f l n a (omega (arith, e)) in
        let stop : one_if (n == l) ≡ 1 = is_one n l e in
        omega (arith, on, stop)

-- of one that begins at n
begun_here : (f l n m : ℕ) → f ≤ l → n < m → n ≡ f → Gap n m l → Crosses f l n m
begun_here f l n m o lt e (inr b) =
    let none : spans f l n ≡ 0 = spans_before f l n (omega (arith, e)) in
    let later : spans f l m ≡ 1 = spans_yes f l m (omega (arith, e, lt)) b in
    let start : one_if (n == f) ≡ 1 = is_one n f e in
    let stop : one_if (n == l) ≡ 0 = is_none n l (λ g. omega (arith, g, b, lt)) in
    omega (arith, none, later, start, stop)
begun_here f l n m o lt e (inl b) =
    let same : n ≡ l = omega (arith, o, e, b) in
    let none : spans f l n ≡ 0 = spans_before f l n (omega (arith, e)) in
    let later : spans f l m ≡ 0 = spans_behind f l m (omega (arith, b, lt)) in
    let start : one_if (n == f) ≡ 1 = is_one n f e in
    let stop : one_if (n == l) ≡ 1 = is_one n l same in
    omega (arith, none, later, start, stop)

-- of any
across : (f l n m : ℕ) → f ≤ l → n < m → Gap n m f → Gap n m l → Crosses f l n m
across f l n m o lt (inr a) gap = begun_later f l n m o lt a
across f l n m o lt (inl a) gap = go (less_or_same f n a)
  where
    go : (f < n) ⊎ (n ≡ f) → Crosses f l n m
    go (inl b) = begun_before f l n m b lt gap
    go (inr e) = begun_here f l n m o lt e gap

-- ---- all regions

-- `spot` says directly in which block a statement stands
module _ (spot : ℕ → Option ℕ) where
  -- from statement n of the block b to the next, m
  one_across : (b n m : ℕ) → spot n ≡ Some b → n < m → ((s : ℕ) → spot s ≡ Some b → Gap n m s) → (r : TRegion) → InBlock spot r → opens b n r + begins n r ≡ opens b m r + ends n r
  one_across b n m here lt gap r at = go (r.block == b) refl
    where
      elsewhere : (r.block ≡ b → ⊥) → (s : ℕ) → spot s ≡ Some r.block → n ≡ s → ⊥
      elsewhere d s there e = d (same_Some r.block b (sym there ∙ sym (ap spot e) ∙ here))

      go : (c : Bool) → (r.block == b) ≡ c → cond {A = ℕ} (r.block == b) (spans r.first r.last n) 0 + begins n r ≡ cond {A = ℕ} (r.block == b) (spans r.first r.last m) 0 + ends n r
      go true is =
          let e : r.block ≡ b = eqb-true r.block b is in
          let now : cond {A = ℕ} (r.block == b) (spans r.first r.last n) 0 ≡ spans r.first r.last n = ap (λ c. cond {A = ℕ} c (spans r.first r.last n) 0) is in
          let later : cond {A = ℕ} (r.block == b) (spans r.first r.last m) 0 ≡ spans r.first r.last m = ap (λ c. cond {A = ℕ} c (spans r.first r.last m) 0) is in
          let step : spans r.first r.last n + one_if (n == r.first) ≡ spans r.first r.last m + one_if (n == r.last) =
          across r.first r.last n m at.ordered lt (gap r.first (at.first_there ∙ ap Some e)) (gap r.last (at.last_there ∙ ap Some e)) in
          omega (arith, now, later, step)
      go false is =
          let d = eqb-false r.block b is in
          let now : cond {A = ℕ} (r.block == b) (spans r.first r.last n) 0 ≡ 0 = ap (λ c. cond {A = ℕ} c (spans r.first r.last n) 0) is in
          let later : cond {A = ℕ} (r.block == b) (spans r.first r.last m) 0 ≡ 0 = ap (λ c. cond {A = ℕ} c (spans r.first r.last m) 0) is in
          let start : begins n r ≡ 0 = is_none n r.first (elsewhere d r.first at.first_there) in
          let stop : ends n r ≡ 0 = is_none n r.last (elsewhere d r.last at.last_there) in
          omega (arith, now, later, start, stop)

  -- the same of all regions
  pub all_across : (b n m : ℕ) → spot n ≡ Some b → n < m → ((s : ℕ) → spot s ≡ Some b → Gap n m s) → (rs : List TRegion) → EachRegion (InBlock spot) rs
      → open_at rs b n + sum_by (begins n) rs ≡ open_at rs b m + sum_by (ends n) rs
  all_across b n m here lt gap [] at = refl
  all_across b n m here lt gap (r ∷ rs) at =
      omega (
        arith,
        sum_by-cons (opens b n) r rs,
        sum_by-cons (opens b m) r rs,
        sum_by-cons (begins n) r rs,
        sum_by-cons (ends n) r rs,
        one_across b n m here lt gap r at.0,
        all_across b n m here lt gap rs at.1,
      )

  -- a region of another block is not open
  not_open : (b n : ℕ) (r : TRegion) → (r.block ≡ b → spans r.first r.last n ≡ 0) → opens b n r ≡ 0
  not_open b n r h = go (r.block == b) refl
    where
      go : (c : Bool) → (r.block == b) ≡ c → cond {A = ℕ} (r.block == b) (spans r.first r.last n) 0 ≡ 0
      go true is = ap (λ c. cond {A = ℕ} c (spans r.first r.last n) 0) is ∙ h (eqb-true r.block b is)
      go false is = ap (λ c. cond {A = ℕ} c (spans r.first r.last n) 0) is

  -- none is open in front of a block's statements
  pub none_before : (b n : ℕ) → ((s : ℕ) → spot s ≡ Some b → n ≤ s) → (rs : List TRegion) → EachRegion (InBlock spot) rs → open_at rs b n ≡ 0
  none_before b n h [] at = refl
  none_before b n h (r ∷ rs) at =
      let own = not_open b n r (λ e. spans_before r.first r.last n (h r.first (at.0.first_there ∙ ap Some e))) in
      omega (arith, sum_by-cons (opens b n) r rs, own, none_before b n h rs at.1)

  -- and none is behind them
  pub none_behind : (b n : ℕ) → ((s : ℕ) → spot s ≡ Some b → s < n) → (rs : List TRegion) → EachRegion (InBlock spot) rs → open_at rs b n ≡ 0
  none_behind b n h [] at = refl
  none_behind b n h (r ∷ rs) at =
      let own = not_open b n r (λ e. spans_behind r.first r.last n (h r.last (at.0.last_there ∙ ap Some e))) in
      omega (arith, sum_by-cons (opens b n) r rs, own, none_behind b n h rs at.1)
