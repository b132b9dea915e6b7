-- No two sensors of a program that breaks no rule have the same name, and no two ports.
use Rattle.std.proofs.Common.{◌≡◌, ◌<◌, ◌≤◌, ℕ, zero, suc, ◌+◌, Bool, true, false, true≢false, ◌||◌, List, [], ◌∷◌, length, Some, None, cond, refl}
use Rattle.std.proofs.Common.{ap, sym, subst, ◌∙◌, arith}
use Rattle.std.specs.Prelude.{◌≢◌, count_by, slice_get}
use Rattle.std.specs.Str.{bytes_eq}
use Rattle.std.specs.List.{AllPairs}
use Rattle.std.proofs.Math.Dec.{ltb}
use Rattle.std.proofs.Math.ListN.{get_or}
use Rattle.std.proofs.lemmas.Bool.{ltb-true, ltb-false, lt-ltb}
use Rattle.std.proofs.lemmas.Slice.Eq.{bytes_eq-Decides}
use Rattle.std.proofs.lemmas.Option.{same_Some, none-some, slice_get-get_or}
use Rattle.std.proofs.lemmas.List.Sums.{sum_by-cons}
use Rattle.oc_tree.specs.Names.{Text}
use Rattle.oc_tree.specs.Tree.{TProgram}
use Rattle.oc_tree.specs.declared.before.Before.{Before}
use Rattle.oc_tree.specs.declared.tree.Decl.{Decl}
use Rattle.oc_tree.specs.declared.tree.DeclKind.{DeclKind}
use Rattle.oc_tree.specs.declared.tree.DeclKind.TheVariants as decls
use Rattle.oc_tree.specs.Form.{InForm, is_sensor, is_port}
use Rattle.oc_tree.specs.Calls.{place, place_from, function_place}
use Rattle.oc_tree.specs.Elements.{sensor_item, port_item, Element, declared, named_element, item_elements, after_item, order_elements, nothing_before}
use Rattle.oc_tree.specs.Limits.{Tally, nothing_counted}
use Rattle.oc_tree.specs.Rules.{stands_before, declared_before}
use Rattle.oc_tree.specs.Broken.{item_rules, first_broken, broken}
use Rattle.oc_desugar.proofs.KeptClean.{tally, first_clean, apart_of}
use Rattle.oc_desugar.proofs.SizesKept.{unbroken_element}
use Rattle.oc_desugar.proofs.Unbroken.{none_broken}
use Rattle.oc_checked.proofs.BodiesPass.{first_fails, second_fails}

-- ---- lists of names

-- the first of a name stands where one of it stands, or before
pub place_below : (n : ℕ) (xs : List Text) (i : ℕ) (x : Text) → slice_get xs i ≡ Some x → (k : ℕ) × (place_from n xs x ≡ Some k) × (k ≤ n + i)
place_below n [] zero x e = absurd (none-some x e)
place_below n [] (suc i) x e = absurd (none-some x e)
place_below n (y ∷ ys) zero x e =
    (n, ap (λ b. cond b (Some n) (place_from (n + 1) ys x)) ((bytes_eq-Decides x y).1 (sym (same_Some y x e))), omega arith)
place_below n (y ∷ ys) (suc i) x e = by (bytes_eq x y) (place_below (n + 1) ys i x e)
  where
    by : (b : Bool) → (k : ℕ) × (place_from (n + 1) ys x ≡ Some k) × (k ≤ n + 1 + i)
        → (k : ℕ) × (cond b (Some n) (place_from (n + 1) ys x) ≡ Some k) × (k ≤ n + suc i)
    by true rest = (n, refl, omega arith)
    by false rest = (rest.0, rest.1, omega (arith, rest.2))

-- the first of these names are each the first of its spelling
abbrev AreNew : List Text → (count : ℕ) → Type 0
AreNew xs count = (i : ℕ) (x : Text) → i < count → slice_get xs i ≡ Some x → stands_before (place xs x) i ≡ false

-- one more of them
new_more : (xs : List Text) (n : ℕ) (y : Text) → AreNew xs n → slice_get xs n ≡ Some y → stands_before (place xs y) n ≡ false → AreNew xs (n + 1)
new_more xs n y h at new i x l e = by (ltb i n) refl
  where
    by : (b : Bool) → ltb i n ≡ b → stands_before (place xs x) i ≡ false
    by true is = h i x (ltb-true i n is) e
    by false is =
        let same : n ≡ i = omega (arith, l, ltb-false i n is) in
        subst (λ z. stands_before (place xs z) i ≡ false) (same_Some y x (sym at ∙ ap (slice_get xs) same ∙ e)) (subst (λ j. stands_before (place xs y) j ≡ false) same new)

-- no two names are the same where each is new
all_differ : (xs : List Text) → AreNew xs (length xs) → AllPairs (λ x y. x ≢ y) xs
all_differ xs h i j d below within same =
    let first = slice_get-get_or xs i d (omega (arith, below, within)) in
    let second = slice_get-get_or xs j d within in
    let k = place_below 0 xs i (get_or xs j d) (first ∙ ap Some same) in
    let stands : stands_before (place xs (get_or xs j d)) j ≡ true = ap (λ o. stands_before o j) k.1 ∙ lt-ltb k.0 j (omega (arith, k.2, below)) in
    true≢false (sym stands ∙ h j (get_or xs j d) within second)

-- ---- the declarations one after the other

-- how many are still to be declared
abbrev still : (DeclKind → Bool) → List Decl → ℕ
still test ds = count_by (λ d. test d.kind) ds

one_more : (test : DeclKind → Bool) (d : Decl) (ds : List Decl) → still test (d ∷ ds) ≡ cond {A = ℕ} (test d.kind) 1 0 + still test ds
one_more test d ds = sum_by-cons (λ x. cond {A = ℕ} (test x.kind) 1 0) d ds

module _ (p : TProgram) where
  abbrev Clean : Tally → List Element → Type 0
  Clean n es = first_broken p n es ≡ None

  -- all names so far are new
  record SoFar (b : Before) : Type 0 where
    sensors : AreNew p.names.sensors b.sensors
    ports : AreNew p.names.ports b.ports

  -- what is left to be declared
  record Left (b : Before) (ds : List Decl) : Type 0 where
    sensors : b.sensors + still is_sensor ds ≡ length p.names.sensors
    ports : b.ports + still is_port ds ≡ length p.names.ports

  -- the declaration of a name that is told by its place in these
  new_sensor : (n : Tally) (b : Before) (line : ℕ) → (x : Text) → Clean n (declared b line (sensor_item x) ∷ []) → declared_before p b x ≡ false
  new_sensor n b line x h = (none_broken (item_rules p n b (sensor_item x)) (first_clean p n (declared b line (sensor_item x)) [] h).0).0

  new_port : (n : Tally) (b : Before) (line : ℕ) → (x : Text) → Clean n (declared b line (port_item x) ∷ []) → declared_before p b x ≡ false
  new_port n b line x h = (none_broken (item_rules p n b (port_item x)) (first_clean p n (declared b line (port_item x)) [] h).0).0

  -- no sensor of that name stands before, and no port
  none_before : (b : Before) (x : Text) → declared_before p b x ≡ false
      → (stands_before (place p.names.sensors x) b.sensors ≡ false) × (stands_before (place p.names.ports x) b.ports ≡ false)
  none_before b x h =
      let s = stands_before (place p.names.sensors x) b.sensors in
      let q = stands_before (place p.names.ports x) b.ports in
      let rest = stands_before (place p.names.nvs x) b.nvs || stands_before (function_place p.functions x) b.functions in
      (first_fails s (q || rest) h, first_fails q rest (second_fails s (q || rest) h))

  -- what is left with one declaration of this kind
  abbrev LeftMore : Before → DeclKind → List Decl → Type 0
  LeftMore b k ds = (b.sensors + (cond {A = ℕ} (is_sensor k) 1 0 + still is_sensor ds) ≡ length p.names.sensors) ×
      (b.ports + (cond {A = ℕ} (is_port k) 1 0 + still is_port ds) ≡ length p.names.ports)

  -- and behind it
  item_left : (b : Before) (k : DeclKind) (ds : List Decl) → LeftMore b k ds → Left (after_item b k) ds
  item_left b decls.Sensor ds l = record { sensors = omega (arith, l.0); ports = omega (arith, l.1) }
  item_left b decls.Port ds l = record { sensors = omega (arith, l.0); ports = omega (arith, l.1) }
  item_left b decls.Nv ds l = record { sensors = omega (arith, l.0); ports = omega (arith, l.1) }
  item_left b decls.Function ds l = record { sensors = omega (arith, l.0); ports = omega (arith, l.1) }

  -- one more declaration
  item_new : (n : Tally) (b : Before) (line : ℕ) (k : DeclKind) (ds : List Decl) → LeftMore b k ds → Clean n (item_elements p b line k) → SoFar b → SoFar (after_item b k)
  item_new n b line decls.Sensor ds l h w =
      let x = slice_get-get_or p.names.sensors b.sensors [] (omega (arith, l.0)) in
      let name = get_or p.names.sensors b.sensors [] in
      let new = new_sensor n b line name (subst (λ o. Clean n (named_element sensor_item b line o)) x h) in
      record { sensors = new_more p.names.sensors b.sensors name w.sensors x (none_before b name new).0; ports = w.ports }
  item_new n b line decls.Port ds l h w =
      let x = slice_get-get_or p.names.ports b.ports [] (omega (arith, l.1)) in
      let name = get_or p.names.ports b.ports [] in
      let new = new_port n b line name (subst (λ o. Clean n (named_element port_item b line o)) x h) in
      record { sensors = w.sensors; ports = new_more p.names.ports b.ports name w.ports x (none_before b name new).1 }
  item_new n b line decls.Nv ds l h w = record { sensors = w.sensors; ports = w.ports }
  item_new n b line decls.Function ds l h w = record { sensors = w.sensors; ports = w.ports }

  -- the declarations that are left
  order_new : (n : Tally) (b : Before) (ds : List Decl) → Left b ds → Clean n (order_elements p b ds) → SoFar b
      → AreNew p.names.sensors (length p.names.sensors) × AreNew p.names.ports (length p.names.ports)
  order_new n b [] l h w =
      let s : b.sensors ≡ length p.names.sensors = omega (arith, l.sensors) in
      let q : b.ports ≡ length p.names.ports = omega (arith, l.ports) in
      (subst (AreNew p.names.sensors) s w.sensors, subst (AreNew p.names.ports) q w.ports)
  order_new n b (d ∷ ds) l h w =
      let xs = item_elements p b d.line d.kind in
      let ys = order_elements p (after_item b d.kind) ds in
      let parts = apart_of p n xs ys h in
      let more : LeftMore b d.kind ds =
      (ap (λ m. b.sensors + m) (sym (one_more is_sensor d ds)) ∙ l.sensors, ap (λ m. b.ports + m) (sym (one_more is_port d ds)) ∙ l.ports) in
      order_new (tally n xs) (after_item b d.kind) ds (item_left b d.kind ds more) parts.1 (item_new n b d.line d.kind ds more parts.0 w)

-- the names of a program in form that breaks no rule
pub names_differ : (N : Text → Type 0) (p : TProgram) → InForm N p → broken p ≡ None
    → AllPairs (λ x y. x ≢ y) p.names.sensors × AllPairs (λ x y. x ≢ y) p.names.ports
names_differ N p form h =
    let new =
    order_new p nothing_counted nothing_before p.order (record { sensors = omega (arith, form.declared.sensors); ports = omega (arith, form.declared.ports) }) (unbroken_element p h)
    (record { sensors = λ i x l e. absurd (omega (arith, l)); ports = λ i x l e. absurd (omega (arith, l)) }) in
    (all_differ p.names.sensors new.0, all_differ p.names.ports new.1)
