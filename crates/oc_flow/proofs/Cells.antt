-- Cells of tables.
use Rattle.std.proofs.Common.{◌≡◌, ◌≢◌, ◌<◌, ◌⊎◌, inl, inr, ℕ, zero, suc, Bool, true, false, List, [], ◌∷◌, Option, Some, None, drop, refl, ap, sym, ◌∙◌, subst, length, arith, replicate, Vec, Global}
use Rattle.std.proofs.lemmas.Bool.{and_from, and_parts, or_left, or_right, cases_eq}
use Rattle.std.specs.Prelude.{◌||◌, ◌&&◌, slice_set}
use Rattle.std.proofs.Math.ListN.{get_or}
use Rattle.std.proofs.lemmas.List.{get_or-set_same, get_or-set_other}
use Rattle.std.proofs.Math.ListN.{length-set}
use Rattle.oc_tree.specs.declared.tree.VarId.{VarId}
use Rattle.oc_tree.proofs.ReachLaws.{or_elim}
use Rattle.oc_laws.proofs.Bools.{both_ways}
use Rattle.oc_flow.specs.Variables.{same_variable, is_among}
use Rattle.oc_flow.specs.Flow.{chain}
use Rattle.oc_flow.specs.Known.{number_in, Cells, cells_of, cell, cell_at, IsSquare, TTable, linked, Links, set_cell, Joined, JoinedEach, JoinedTo}
use Rattle.oc_flow.proofs.Lists.{same_is, same_itself}
use Rattle.oc_flow.proofs.Numbers.{number_below, number_at, numbered}

-- ---- rows

pub set_length : (rows : Cells) (i j : ℕ) → length (set_cell rows i j) ≡ length rows
set_length rows i j = length-set rows i (slice_set (get_or rows i []) j true)

row_other : (rows : Cells) (i : ℕ) (row : List Bool) (k : ℕ) → k ≢ i → get_or (slice_set rows i row) k [] ≡ get_or rows k []
row_other rows i row k d = get_or-set_other rows i k row [] d

row_same : (rows : Cells) (i : ℕ) (row : List Bool) → i < length rows → get_or (slice_set rows i row) i [] ≡ row
row_same rows i row h = get_or-set_same rows i row [] h

-- a row of the same length in place of one keeps a square
pub row_square : (n : ℕ) (rows : Cells) (i : ℕ) (row : List Bool) → IsSquare n rows → i < n → length row ≡ n → IsSquare n (slice_set rows i row)
row_square n rows i row s h e = record { height = length-set rows i row ∙ s.height; width = λ k l. wide k l (cases_eq k i) }
  where
    wide : (k : ℕ) → k < n → (k ≡ i) ⊎ (k ≢ i) → length (get_or (slice_set rows i row) k []) ≡ n
    wide k l (inl q) = ap (λ m. length (get_or (slice_set rows i row) m [])) q ∙ ap length (row_same rows i row (omega (arith, s.height))) ∙ e
    wide k l (inr d) = ap length (row_other rows i row k d) ∙ s.width k l

pub set_here : (n : ℕ) (rows : Cells) (i j : ℕ) → IsSquare n rows → i < n → j < n → cell (set_cell rows i j) i j ≡ true
set_here n rows i j s h l =
    let w = s.width i h in
    ap (λ r. get_or r j false) (row_same rows i (slice_set (get_or rows i []) j true) (omega (arith, s.height))) ∙ get_or-set_same (get_or rows i []) j true false (omega (arith, w))

pub set_elsewhere : (n : ℕ) (rows : Cells) (i j a b : ℕ) → IsSquare n rows → i < n → (a ≡ i → b ≡ j → ⊥) → cell (set_cell rows i j) a b ≡ cell rows a b
set_elsewhere n rows i j a b s h d = by (cases_eq a i)
  where
    by : (a ≡ i) ⊎ (a ≢ i) → cell (set_cell rows i j) a b ≡ cell rows a b
    by (inr e) = ap (λ r. get_or r b false) (row_other rows i (slice_set (get_or rows i []) j true) a e)
    by (inl e) = subst (λ k. cell (set_cell rows i j) k b ≡ cell rows k b) (sym e)
        (ap (λ r. get_or r b false) (row_same rows i (slice_set (get_or rows i []) j true) (omega (arith, s.height))) ∙ get_or-set_other (get_or rows i []) j b true false (λ q. d e q))

-- ---- joined rows

pub cut : (k i : ℕ) → i < suc k → (i < k) ⊎ (i ≡ k)
cut k i h = grind arith

-- one row more that has the number
pub joined_row : (k number : ℕ) (other : List Bool) (old new : Cells) (row : List Bool) → k < length old → number < length old → length other ≡ length old
    → JoinedTo k number other old new → cell new k number ≡ true → Joined other (get_or new k []) row → JoinedTo (suc k) number other old (slice_set new k row)
joined_row k number other old new row h m o t has join =
    let wide : length row ≡ length old = join.same ∙ t.square.width k h in
    record {
      same = length-set new k row ∙ t.same;
      square = row_square (length old) new k row t.square h wide;
      done = λ i j l q. by i j q (cut k i l);
      rest = λ i l. row_other new k row i (λ e. absurd (omega arith)) ∙ t.rest i (omega arith);
    }
  where
    here : (j : ℕ) → j < length old → cell (slice_set new k row) k j ≡ cell old k j || (cell old k number && get_or other j false)
    here j q =
        let e = t.rest k (omega arith) in
        let w = t.square.width k h in
        let set : cell old k number ≡ true = ap (λ r. get_or r number false) (sym e) ∙ has in
        ap (λ r. get_or r j false) (row_same new k row (omega (arith, t.same)))
        ∙ join.cells j (omega (arith, w))
        ∙ ap (λ r. get_or r j false || get_or other j false) e
        ∙ ap (λ b. cell old k j || (b && get_or other j false)) (sym set)

    by : (i j : ℕ) → j < length old → (i < k) ⊎ (i ≡ k) → cell (slice_set new k row) i j ≡ cell old i j || (cell old i number && get_or other j false)
    by i j q (inl l) = ap (λ r. get_or r j false) (row_other new k row i (λ e. absurd (omega arith))) ∙ t.done i j l q
    by i j q (inr e) = subst (λ i. cell (slice_set new k row) i j ≡ cell old i j || (cell old i number && get_or other j false)) (sym e) (here j q)

or_nothing : (a b : Bool) → a ≡ a || (false && b)
or_nothing true b = refl
or_nothing false b = refl

-- one that has not
pub joined_not : (k number : ℕ) (other : List Bool) (old new : Cells) → JoinedTo k number other old new → cell new k number ≡ false → JoinedTo (suc k) number other old new
joined_not k number other old new t has = record { same = t.same; square = t.square; done = λ i j l q. by i j q (cut k i l); rest = λ i l. t.rest i (omega arith) }
  where
    by : (i j : ℕ) → j < length old → (i < k) ⊎ (i ≡ k) → cell new i j ≡ cell old i j || (cell old i number && get_or other j false)
    by i j q (inl l) = t.done i j l q
    by i j q (inr e) =
        let r = t.rest k (omega arith) in
        let unset : cell old k number ≡ false = ap (λ r. get_or r number false) (sym r) ∙ has in
        subst (λ i. cell new i j ≡ cell old i j || (cell old i number && get_or other j false)) (sym e)
        (ap (λ r. get_or r j false) r ∙ or_nothing (cell old k j) (get_or other j false) ∙ ap (λ b. cell old k j || (b && get_or other j false)) (sym unset))

-- all of them
pub joined_all : (number : ℕ) (other : List Bool) (old new : Cells) → JoinedTo (length old) number other old new → JoinedEach number other old new
joined_all number other old new t = record { same = t.same; square = t.square; cells = t.done }

-- ---- what tables say

-- a cell by the numbers of its variables
pub linked_is : (t : TTable) (u v : VarId) (i j : ℕ) → number_in t.variables u ≡ Some i → number_in t.variables v ≡ Some j → linked t u v ≡ cell t.cells i j
linked_is t u v i j a b = ap (λ o. cell_at t.cells o (number_in t.variables v)) a ∙ ap (cell_at t.cells (Some i)) b

-- the number tells the variable
pub same_number : (vs : List VarId) (u v : VarId) (i : ℕ) → number_in vs u ≡ Some i → number_in vs v ≡ Some i → u ≡ v
same_number vs u v i a b =
    let l = number_below vs u i a in
    sym (number_at vs u i a) ∙ got vs i u v l ∙ number_at vs v i b
  where
    got : (vs : List VarId) (i : ℕ) (u v : VarId) → i < length vs → get_or vs i u ≡ get_or vs i v
    got [] i u v h = absurd (omega arith)
    got (x ∷ vs) zero u v h = refl
    got (x ∷ vs) (suc i) u v h = got vs i u v (omega arith)

-- a set cell is one link more
pub link_set : (vs : List VarId) (rows : Cells) (u v : VarId) (i j : ℕ) → IsSquare (length vs) rows → number_in vs u ≡ Some i → number_in vs v ≡ Some j
    → Links (record { variables = vs; cells = set_cell rows i j }) (λ a b. linked (record { variables = vs; cells = rows }) a b || (same_variable a u && same_variable b v))
link_set vs rows u v i j s hu hv a b ha hb =
    let x = numbered 0 vs a ha in
    let y = numbered 0 vs b hb in
    let old : TTable = record { variables = vs; cells = rows } in
    let new : TTable = record { variables = vs; cells = set_cell rows i j } in
    let lu = number_below vs u i hu in
    let lv = number_below vs v j hv in
    both_ways (linked new a b) (linked old a b || (same_variable a u && same_variable b v))
    (λ h. more x.0 y.0 x.1 y.1 h (cases_eq x.0 i) (cases_eq y.0 j))
    (λ h. or_elim (linked old a b) (same_variable a u && same_variable b v) h
    (λ k. kept x.0 y.0 x.1 y.1 k (cases_eq x.0 i) (cases_eq y.0 j))
    (λ k. subst (λ w. linked new w b ≡ true) (sym (same_is a u (and_parts (same_variable a u) (same_variable b v) k).0))
    (subst (λ w. linked new u w ≡ true) (sym (same_is b v (and_parts (same_variable a u) (same_variable b v) k).1)) (linked_is new u v i j hu hv ∙ set_here (length vs) rows i j s lu lv))))
  where
    old' : TTable
    old' = record { variables = vs; cells = rows }

    new' : TTable
    new' = record { variables = vs; cells = set_cell rows i j }

    away : (x y : ℕ) → number_in vs a ≡ Some x → number_in vs b ≡ Some y → (x ≡ i → y ≡ j → ⊥) → linked new' a b ≡ linked old' a b
    away x y ea eb d = linked_is new' a b x y ea eb ∙ set_elsewhere (length vs) rows i j x y s (number_below vs u i hu) d ∙ sym (linked_is old' a b x y ea eb)

    at_cell : (x y : ℕ) → number_in vs a ≡ Some x → number_in vs b ≡ Some y → x ≡ i → y ≡ j → (a ≡ u) × (b ≡ v)
    at_cell x y ea eb ex ey = (same_number vs a u i (ea ∙ ap Some ex) hu, same_number vs b v j (eb ∙ ap Some ey) hv)

    more : (x y : ℕ) → number_in vs a ≡ Some x → number_in vs b ≡ Some y → linked new' a b ≡ true → (x ≡ i) ⊎ (x ≢ i) → (y ≡ j) ⊎ (y ≢ j)
        → linked old' a b || (same_variable a u && same_variable b v) ≡ true
    more x y ea eb h (inl ex) (inl ey) =
        let z = at_cell x y ea eb ex ey in
        or_right (linked old' a b) (same_variable a u && same_variable b v)
        (and_from (same_variable a u) (same_variable b v) (subst (λ w. same_variable a w ≡ true) z.0 (same_itself a)) (subst (λ w. same_variable b w ≡ true) z.1 (same_itself b)))
    more x y ea eb h (inr d) q = or_left (linked old' a b) (same_variable a u && same_variable b v) (sym (away x y ea eb (λ e f. d e)) ∙ h)
    more x y ea eb h (inl e) (inr d) = or_left (linked old' a b) (same_variable a u && same_variable b v) (sym (away x y ea eb (λ e f. d f)) ∙ h)

    kept : (x y : ℕ) → number_in vs a ≡ Some x → number_in vs b ≡ Some y → linked old' a b ≡ true → (x ≡ i) ⊎ (x ≢ i) → (y ≡ j) ⊎ (y ≢ j) → linked new' a b ≡ true
    kept x y ea eb h (inl ex) (inl ey) =
        linked_is new' a b x y ea eb ∙ subst (λ k. cell (set_cell rows i j) k y ≡ true) (sym ex)
        (subst (λ k. cell (set_cell rows i j) i k ≡ true) (sym ey) (set_here (length vs) rows i j s (number_below vs u i hu) (number_below vs v j hv)))
    kept x y ea eb h (inr d) q = away x y ea eb (λ e f. d e) ∙ h
    kept x y ea eb h (inl e) (inr d) = away x y ea eb (λ e f. d f) ∙ h

-- joined rows are links through the variable
pub link_through : (vs : List VarId) (rows next : Cells) (w : VarId) (k : ℕ) → length rows ≡ length vs → number_in vs w ≡ Some k → JoinedEach k (get_or rows k []) rows next
    → Links (record { variables = vs; cells = next })
    (λ a b. linked (record { variables = vs; cells = rows }) a b || (linked (record { variables = vs; cells = rows }) a w && linked (record { variables = vs; cells = rows }) w b))
link_through vs rows next w k n hw join a b ha hb =
    let x = numbered 0 vs a ha in
    let y = numbered 0 vs b hb in
    let old : TTable = record { variables = vs; cells = rows } in
    let new : TTable = record { variables = vs; cells = next } in
    let lx = number_below vs a x.0 x.1 in
    let ly = number_below vs b y.0 y.1 in
    linked_is new a b x.0 y.0 x.1 y.1
    ∙ join.cells x.0 y.0 (omega (arith, lx, n)) (omega (arith, ly, n))
    ∙ (λ i. sym (linked_is old a b x.0 y.0 x.1 y.1) i || (sym (linked_is old a w x.0 k x.1 hw) i && sym (linked_is old w b k y.0 hw y.1) i))

-- no cell is set
pub get_none : (n k : ℕ) → get_or (replicate n false) k false ≡ false
get_none zero k = refl
get_none (suc n) zero = refl
get_none (suc n) (suc k) = get_none n k

cell_none : (n m i j : ℕ) → cell (replicate n (replicate m false)) i j ≡ false
cell_none zero m i j = refl
cell_none (suc n) m zero j = get_none m j
cell_none (suc n) m (suc i) j = cell_none n m i j

none_at : (n m : ℕ) (a b : Option ℕ) → cell_at (replicate n (replicate m false)) a b ≡ false
none_at n m None b = refl
none_at n m (Some i) None = refl
none_at n m (Some i) (Some j) = cell_none n m i j

pub none_linked : (vs : List VarId) (n : ℕ) (u v : VarId) → linked (record { variables = vs; cells = replicate n (replicate n false) }) u v ≡ false
none_linked vs n u v = none_at n n (number_in vs u) (number_in vs v)

-- ---- rows that code holds

pub row_of : (r : List (Vec Bool Global)) (i : ℕ) (w d : Vec Bool Global) → i < length r → w ≡ get_or r i d → w.items ≡ get_or (cells_of r) i []
row_of [] i w d h e = absurd (omega arith)
row_of (v ∷ r) zero w d h e = ap (λ (v : Vec Bool Global). v.items) e
row_of (v ∷ r) (suc i) w d h e = row_of r i w d (omega arith) e

pub row_set : (r : List (Vec Bool Global)) (i : ℕ) (w : Vec Bool Global) → cells_of (slice_set r i w) ≡ slice_set (cells_of r) i w.items
row_set [] i w = refl
row_set (v ∷ r) zero w = refl
row_set (v ∷ r) (suc i) w = ap (λ l. v.items ∷ l) (row_set r i w)

pub row_width : (r : List (Vec Bool Global)) (i n : ℕ) (w d : Vec Bool Global) → i < length r → IsSquare n (cells_of r) → length r ≡ n → w ≡ get_or r i d → length w.items ≡ n
row_width r i n w d h s l e = ap length (row_of r i w d h e) ∙ s.width i (omega (arith, h, l))

pub cells_height : (r : List (Vec Bool Global)) → length (cells_of r) ≡ length r
cells_height [] = refl
cells_height (v ∷ r) = ap suc (cells_height r)

-- ---- links of tables

-- one that is not in the table leads to nothing more
pub link_not : (t : TTable) (u v : VarId) → ((i j : ℕ) → number_in t.variables u ≡ Some i → number_in t.variables v ≡ Some j → ⊥)
    → Links t (λ a b. linked t a b || (same_variable a u && same_variable b v))
link_not t u v none a b ha hb = both_ways (linked t a b) (linked t a b || (same_variable a u && same_variable b v)) (λ h. or_left (linked t a b) (same_variable a u && same_variable b v) h)
    (λ h. or_elim (linked t a b) (same_variable a u && same_variable b v) h (λ k. k)
    (λ k.
    let x = numbered 0 t.variables u (subst (λ w. is_among w t.variables ≡ true) (same_is a u (and_parts (same_variable a u) (same_variable b v) k).0) ha) in
    let y = numbered 0 t.variables v (subst (λ w. is_among w t.variables ≡ true) (same_is b v (and_parts (same_variable a u) (same_variable b v) k).1) hb) in
    absurd (none x.0 y.0 x.1 y.1)))

drop_at : (vs : List VarId) (n : ℕ) (w d : VarId) → n < length vs → w ≡ get_or vs n d → drop n vs ≡ w ∷ drop (suc n) vs
drop_at [] n w d h e = absurd (omega arith)
drop_at (x ∷ vs) zero w d h e = ap (λ y. y ∷ vs) (sym e)
drop_at (x ∷ vs) (suc n) w d h e = drop_at vs n w d (omega arith) e

pub among_at : (vs : List VarId) (n : ℕ) (w d : VarId) → n < length vs → w ≡ get_or vs n d → is_among w vs ≡ true
among_at [] n w d h e = absurd (omega arith)
among_at (x ∷ vs) zero w d h e = or_left (same_variable w x) (is_among w vs) (subst (λ y. same_variable w y ≡ true) e (same_itself w))
among_at (x ∷ vs) (suc n) w d h e = or_right (same_variable w x) (is_among w vs) (among_at vs n w d (omega arith) e)

-- one variable more between
pub closed_more : (step : VarId → VarId → Bool) (vs : List VarId) (n m : ℕ) (w d : VarId) (t new : TTable) → t.variables ≡ vs → new.variables ≡ t.variables → n < length vs
    → m ≡ suc n → w ≡ get_or vs n d
    → Links t (λ a b. chain step (drop m vs) a b) → Links new (λ a b. linked t a b || (linked t a w && linked t w b)) → Links new (λ a b. chain step (drop n vs) a b)
closed_more step vs n m w d t new e f h q at old more a b ha hb =
    let in_t : (x : VarId) → is_among x new.variables ≡ true → is_among x t.variables ≡ true = λ x k. subst (λ l. is_among x l ≡ true) f k in
    let hw : is_among w t.variables ≡ true = subst (λ l. is_among w l ≡ true) (sym e) (among_at vs n w d h at) in
    more a b ha hb
    ∙ (λ i. old a b (in_t a ha) (in_t b hb) i || (old a w (in_t a ha) hw i && old w b hw (in_t b hb) i))
    ∙ (λ i. chain step (drop (q i) vs) a b || (chain step (drop (q i) vs) a w && chain step (drop (q i) vs) w b))
    ∙ ap (λ ws. chain step ws a b) (sym (drop_at vs n w d h at))
