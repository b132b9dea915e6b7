-- Orders of numbers behind those that they lead to.
use Rattle.std.proofs.Common.{◌≡◌, ◌≢◌, ◌<◌, ◌≤◌, ◌+◌, ◌++◌, ℕ, zero, suc, Bool, true, false, List, [], ◌∷◌, nat_eq, map, length, refl, sym, ap, ◌∙◌, true≢false, arith, subst, take, Vec, Global}
use Rattle.std.specs.Prelude.{◌&&◌, ◌||◌, if◌then◌else◌}
use Rattle.std.proofs.Math.ListN.{get_or, get_or-append}
use Rattle.std.proofs.Math.Seq.{get_or-append_seam, take-append_seam}
use Rattle.std.proofs.lemmas.List.{length-append, length-map, take-append-le}
use Rattle.std.proofs.lemmas.Bool.{eq-eqb, eqb-true, or_right}
use Rattle.std.proofs.lemmas.Bool.Decides.{eqb_tells, nat_tests}
use Rattle.std.proofs.lemmas.List.Folds.{list_any-append}
use mathlib.Core.Logic.{inl, inr}
use Rattle.oc_tree.specs.Names.{Text}
use Rattle.oc_tree.specs.Tree.{TFunction}
use Rattle.oc_tree.specs.Calls.{body_calls, called_places, links_from, function_names, call_links}
use Rattle.oc_tree.specs.Reach.{Links, linked, is_link, leads, one, count_below, rank}
use Rattle.oc_tree.proofs.ReachLaws.{or_elim, count_less, rank_falls}
use Rattle.oc_laws.proofs.Bools.{or_false}
use Rattle.oc_reach.specs.Marked.{is_in, add, rows}
use Rattle.oc_reach.specs.Within.{IsWithin}
use Rattle.oc_reach.proofs.Lists.{is_in_push}
use Rattle.oc_reach.proofs.Rows.{row_is, rows_length}
use Rattle.oc_reach.proofs.Walk.{some_at}
use Rattle.oc_weight.specs.Order.{row_links, IsBehind, IsBegun, IsOrder, comes_back}

-- ---- rows

spread : (a b c : Bool) → (a && b) || (a && c) ≡ a && (b || c)
spread true b c = refl
spread false b c = refl

row_linked : (w u v : ℕ) (row : List ℕ) → linked (map (λ x. (w, x)) row) u v ≡ nat_eq w u && is_in row v
row_linked w u v [] = none (nat_eq w u)
  where
    none : (b : Bool) → false ≡ b && false
    none true = refl
    none false = refl
row_linked w u v (x ∷ row) = ap (λ b. (nat_eq w u && nat_eq x v) || b) (row_linked w u v row) ∙ spread (nat_eq w u) (nat_eq x v) (is_in row v)

-- no row before the first has links
none_before : (w u v : ℕ) (rows : List (List ℕ)) → u < w → linked (row_links w rows) u v ≡ false
none_before w u v [] h = refl
none_before w u v (row ∷ rows) h =
    let other : nat_eq w u ≡ false = grind (arith, nat_tests) in
    list_any-append (is_link u v) (map (λ x. (w, x)) row) (row_links (w + 1) rows)
    ∙ ap (λ b. b || linked (row_links (w + 1) rows) u v) (row_linked w u v row ∙ ap (λ b. b && is_in row v) other)
    ∙ none_before (w + 1) u v rows (omega (arith, h))

rows_from : (w k v : ℕ) (rows : List (List ℕ)) → linked (row_links w rows) (w + k) v ≡ is_in (get_or rows k []) v
rows_from w k v [] = refl
rows_from w zero v (row ∷ rows) =
    let own : nat_eq w (w + 0) ≡ true = grind (arith, nat_tests) in
    let small : w + 0 < w + 1 = omega arith in
    list_any-append (is_link (w + 0) v) (map (λ x. (w, x)) row) (row_links (w + 1) rows)
    ∙ ap (λ b. b || linked (row_links (w + 1) rows) (w + 0) v) (row_linked w (w + 0) v row ∙ ap (λ b. b && is_in row v) own)
    ∙ or_false (is_in row v) (linked (row_links (w + 1) rows) (w + 0) v) (none_before (w + 1) (w + 0) v rows small)
rows_from w (suc k) v (row ∷ rows) =
    let other : nat_eq w (w + suc k) ≡ false = grind (arith, nat_tests) in
    let n : w + suc k ≡ w + 1 + k = omega arith in
    list_any-append (is_link (w + suc k) v) (map (λ x. (w, x)) row) (row_links (w + 1) rows)
    ∙ ap (λ b. b || linked (row_links (w + 1) rows) (w + suc k) v) (row_linked w (w + suc k) v row ∙ ap (λ b. b && is_in row v) other)
    ∙ ap (λ m. linked (row_links (w + 1) rows) m v) n
    ∙ rows_from (w + 1) k v rows

-- what a number leads to stands in its row
pub row_at : (rows : List (List ℕ)) (u v : ℕ) → linked (row_links 0 rows) u v ≡ is_in (get_or rows u []) v
row_at rows u v = let n : u ≡ 0 + u = omega arith in ap (λ m. linked (row_links 0 rows) m v) n ∙ rows_from 0 u v rows

-- the same of the rows that code holds
pub links_of : (r : List (Vec ℕ Global)) (u : ℕ) (w : Vec ℕ Global) (row : List ℕ) → u < length r → w ≡ get_or r u w → row ≡ w.items → (v : ℕ) → linked (row_links 0 (rows r)) u v ≡ is_in row v
links_of r u w row h at items v = row_at (rows r) u v ∙ ap (λ l. is_in l v) (sym (row_is r u row w h at items))

links_by_rows : (names : List Text) (u : ℕ) (fs : List TFunction) → links_from names u fs ≡ row_links u (map (λ f. called_places names (body_calls f)) fs)
links_by_rows names u [] = refl
links_by_rows names u (f ∷ fs) = ap (λ l. map (λ v. (u, v)) (called_places names (body_calls f)) ++ l) (links_by_rows names (u + 1) fs)

-- the links of functions are those of the rows of their callees
pub calls_by_rows : (fs : List TFunction) (rows : List (List ℕ)) → rows ≡ map (λ f. called_places (function_names fs) (body_calls f)) fs → call_links fs ≡ row_links 0 rows
calls_by_rows fs rows h = links_by_rows (function_names fs) 0 fs ∙ ap (row_links 0) (sym h)

pub rows_as_many : (fs : List TFunction) (r : List (Vec ℕ Global)) → rows r ≡ map (λ f. called_places (function_names fs) (body_calls f)) fs → length r ≡ length fs
rows_as_many fs r h = sym (rows_length r) ∙ ap length h ∙ length-map fs (λ f. called_places (function_names fs) (body_calls f))

-- ---- one number more

pub none_begun : (links : Links) (n : ℕ) → IsBegun links n []
none_begun links n = record {
  behind = λ i v h l. absurd (omega (arith, h));
  within = λ v h. absurd (true≢false (sym h));
  once = none n;
}
  where
    none : (n : ℕ) → count_below (is_in []) n ≡ 0
    none zero = refl
    none (suc n) = omega (arith, none n)

same_count : (p q : ℕ → Bool) (n : ℕ) → ((v : ℕ) → v < n → p v ≡ q v) → count_below p n ≡ count_below q n
same_count p q zero h = refl
same_count p q (suc n) h = let a = h n (omega arith) in omega (arith, ap one a, same_count p q n (λ v k. h v (omega (arith, k))))

count_more : (p q : ℕ → Bool) (u n : ℕ) → u < n → p u ≡ false → q u ≡ true → ((v : ℕ) → v ≢ u → q v ≡ p v) → count_below q n ≡ suc (count_below p n)
count_more p q u zero h a b same = absurd (omega (arith, h))
count_more p q u (suc n) h a b same = elim (eqb_tells u n) [
  | inl e ↦
      let pn : one (p n) ≡ 0 = ap one (subst (λ x. p x ≡ false) e.1 a) in
      let qn : one (q n) ≡ 1 = ap one (subst (λ x. q x ≡ true) e.1 b) in
      let rest = same_count q p n (λ v k. same v (λ x. absurd (omega (arith, k, x, e.1)))) in
      omega (arith, pn, qn, rest)
  | inr d ↦
      let small : u < n = omega (arith, h, d.1) in
      let here : one (q n) ≡ one (p n) = ap one (same n (λ x. d.1 (sym x))) in
      omega (arith, here, count_more p q u n small a b same)
]

pushed : (links : Links) (n : ℕ) (order : List ℕ) (u : ℕ) → IsBegun links n order → u < n → is_in order u ≡ false → ((v : ℕ) → linked links u v ≡ true → is_in order v ≡ true)
    → IsBegun links n (order ++ u ∷ [])
pushed links n order u begun below new ready = record {
  behind = behind;
  within = λ v h. or_elim (is_in order v) (nat_eq u v) (sym (is_in_push order u v) ∙ h)
      (λ k. begun.within v k)
      (λ k. subst (λ x. x < n) (eqb-true u v k) below);
  once = count_more (is_in order) (is_in (order ++ u ∷ [])) u n below new own others ∙ ap suc begun.once ∙ more;
}
  where
    own : is_in (order ++ u ∷ []) u ≡ true
    own = is_in_push order u u ∙ or_right (is_in order u) (nat_eq u u) (eq-eqb u u refl)

    others : (v : ℕ) → v ≢ u → is_in (order ++ u ∷ []) v ≡ is_in order v
    others v d = let other : nat_eq u v ≡ false = grind (arith, nat_tests) in is_in_push order u v ∙ or_false (is_in order v) (nat_eq u v) other

    more : suc (length order) ≡ length (order ++ u ∷ [])
    more = omega (arith, length-append order (u ∷ []))

    behind : IsBehind links (order ++ u ∷ [])
    behind i v h l = elim (eqb_tells i (length order)) [
      | inl e ↦
          let at : get_or (order ++ u ∷ []) i 0 ≡ u = subst (λ j. get_or (order ++ u ∷ []) j 0 ≡ u) (sym e.1) (get_or-append_seam order u [] 0) in
          let front : take i (order ++ u ∷ []) ≡ order = subst (λ j. take j (order ++ u ∷ []) ≡ order) (sym e.1) (take-append_seam order (u ∷ [])) in
          ap (λ xs. is_in xs v) front ∙ ready v (subst (λ x. linked links x v ≡ true) at l)
      | inr d ↦
          let small : i < length order = omega (arith, h, d.1, length-append order (u ∷ [])) in
          let at : get_or (order ++ u ∷ []) i 0 ≡ get_or order i 0 = get_or-append order (u ∷ []) 0 i small in
          let front : take i (order ++ u ∷ []) ≡ take i order = take-append-le i order (u ∷ []) (omega (arith, small)) in
          ap (λ xs. is_in xs v) front ∙ begun.behind i v small (subst (λ x. linked links x v ≡ true) at l)
    ]

-- one number more, behind those that it leads to
pub begun_more : (links : Links) (n : ℕ) (order : List ℕ) (u : ℕ) → IsBegun links n order → u < n → ((v : ℕ) → linked links u v ≡ true → is_in order v ≡ true) → IsBegun links n (add order u)
begun_more links n order u begun below ready = by (is_in order u) refl
  where
    by : (b : Bool) → is_in order u ≡ b → IsBegun links n (if b then order else order ++ u ∷ [])
    by true h = begun
    by false h = pushed links n order u begun below h ready

-- ---- all numbers

count_all : (p : ℕ → Bool) (n : ℕ) → ((v : ℕ) → v < n → p v ≡ true) → count_below p n ≡ n
count_all p zero h = refl
count_all p (suc n) h = let a = h n (omega arith) in omega (arith, ap one a, count_all p n (λ v k. h v (omega (arith, k))))

pub order_of_all : (links : Links) (n : ℕ) (order : List ℕ) → IsBegun links n order → ((v : ℕ) → v < n → is_in order v ≡ true) → IsOrder links n order
order_of_all links n order begun there = record {
  behind = begun.behind;
  within = begun.within;
  there = there;
  many = sym begun.once ∙ count_all (is_in order) n there;
}

-- ---- where no number leads to itself

no_way_back : (links : Links) (n : ℕ) → comes_back links n ≡ false → (u : ℕ) → u < n → leads links n u u ≡ false
no_way_back links n none u h = by (leads links n u u) refl
  where
    by : (b : Bool) → leads links n u u ≡ b → b ≡ false
    by false e = refl
    by true e = absurd (true≢false (sym (some_at n (λ w. leads links n w w) u h e) ∙ none))

-- a way on by one link is longer by one
pub one_deeper : (links : Links) (n u v d : ℕ) → IsWithin links n → linked links u v ≡ true → comes_back links n ≡ false → d ≤ rank links n v → d + 1 ≤ rank links n u
one_deeper links n u v d within link none h =
    let below = (within u v link).1 in
    omega (arith, h, rank_falls links n u v below link (no_way_back links n none v below))

-- a number that doesn't lead to itself leads to fewer than there are
pub rank_small : (links : Links) (n u : ℕ) → u < n → leads links n u u ≡ false → rank links n u < n
rank_small links n u below none =
    let less = count_less (leads links n u) (λ x. true) (λ x h. refl) n u below none refl in
    omega (arith, less, count_all (λ x. true) n (λ v h. refl))

-- no way on is as long as there are numbers
pub too_deep : (links : Links) (n u : ℕ) → u < n → (comes_back links n ≡ false → n ≤ rank links n u) → comes_back links n ≡ true
too_deep links n u below deep = by (comes_back links n) refl
  where
    by : (b : Bool) → comes_back links n ≡ b → b ≡ true
    by true e = refl
    by false e = absurd (omega (arith, deep e, rank_small links n u below (no_way_back links n e u below)))
