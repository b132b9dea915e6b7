-- No two names of a program's top level are the same, of whatever sort.
use Rattle.std.proofs.Common.{◌≡◌, ◌<◌, ℕ, zero, suc, ◌+◌, Bool, true, false, true≢false, ◌||◌, List, [], ◌∷◌, ◌++◌, length, Some, None, cond, refl, ap, sym, subst, ◌∙◌, ⊎_elim, inl, inr}
use Rattle.std.proofs.Common.{arith}
use Rattle.std.specs.Prelude.{count_by, slice_get, not, ◌&&◌, ◌⊎◌}
use Rattle.std.specs.Str.{bytes_eq}
use Rattle.std.proofs.Math.Bool.{or_assoc}
use Rattle.std.proofs.lemmas.Bool.{lt-ltb}
use Rattle.std.proofs.lemmas.Slice.Eq.{bytes_eq-Decides}
use Rattle.std.proofs.lemmas.Option.{same_Some, none-some, slice_get_within}
use Rattle.std.proofs.lemmas.List.Sums.{sum_by-cons}
use Rattle.oc_tree.specs.Names.{Text}
use Rattle.oc_tree.specs.Tree.{TFunction, TProgram}
use Rattle.oc_tree.specs.declared.before.Before.{Before}
use Rattle.oc_tree.specs.declared.tree.Decl.{Decl}
use Rattle.oc_tree.specs.declared.tree.DeclKind.{DeclKind}
use Rattle.oc_tree.specs.declared.tree.DeclKind.TheVariants as decls
use Rattle.oc_tree.specs.Form.{DeclaredInOrder, is_sensor, is_port, is_nv, is_function}
use Rattle.oc_tree.specs.Calls.{place, function_place, function_names}
use Rattle.oc_tree.specs.Elements.{sensor_item, port_item, nv_item, function_item, Element, declared, named_element, nv_element, function_elements, block_elements, in_function, item_elements}
use Rattle.oc_tree.specs.Elements.{after_item, order_elements, nothing_before}
use Rattle.oc_tree.specs.Limits.{Tally, nothing_counted, with_item}
use Rattle.oc_tree.specs.Rules.{stands_before, declared_before}
use Rattle.oc_tree.specs.Broken.{item_rules, first_broken, broken}
use Rattle.oc_desugar.proofs.KeptClean.{tally, first_clean, apart_of}
use Rattle.oc_desugar.proofs.SizesKept.{unbroken_element}
use Rattle.oc_desugar.proofs.Unbroken.{none_broken}
use Rattle.oc_checked.proofs.BodiesPass.{first_fails, second_fails}
use Rattle.oc_verify.specs.Reading.{is_named, each_once}
use Rattle.oc_checked.proofs.NamesDiffer.{place_below}
use Rattle.oc_builds.proofs.Reached.{get_there}

-- ---- lists of names

-- none of the first n of these is x
abbrev Free : List Text → ℕ → Text → Type 0
Free xs n x = (i : ℕ) → i < n → slice_get xs i ≡ Some x → ⊥

free_by : (xs : List Text) (n : ℕ) (x : Text) → stands_before (place xs x) n ≡ false → Free xs n x
free_by xs n x h i l e =
    let k = place_below 0 xs i x e in
    let stands : stands_before (place xs x) n ≡ true = ap (λ o. stands_before o n) k.1 ∙ lt-ltb k.0 n (omega (arith, k.2, l)) in
    true≢false (sym stands ∙ h)

-- the first n differ
abbrev Once : List Text → ℕ → Type 0
Once xs n = (i j : ℕ) (x : Text) → i < j → j < n → slice_get xs i ≡ Some x → slice_get xs j ≡ Some x → ⊥

-- the first n of these are none of the first m of those
abbrev Apart : List Text → ℕ → List Text → ℕ → Type 0
Apart xs n ys m = (i j : ℕ) (x : Text) → i < n → j < m → slice_get xs i ≡ Some x → slice_get ys j ≡ Some x → ⊥

below_or : (i n : ℕ) → i < n + 1 → (i < n) ⊎ (i ≡ n)
below_or zero zero h = inr refl
below_or zero (suc n) h = inl (omega arith)
below_or (suc i) zero h = absurd (omega (arith, h))
below_or (suc i) (suc n) h = ⊎_elim (λ l. inl (omega (arith, l))) (λ e. inr (ap suc e)) (below_or i n (omega (arith, h)))

once_more : (xs : List Text) (n : ℕ) (y : Text) → Once xs n → slice_get xs n ≡ Some y → Free xs n y → Once xs (n + 1)
once_more xs n y old at free i j x l u e f = ⊎_elim
    (λ b. old i j x l b e f)
    (λ s. let same : y ≡ x = same_Some y x (sym at ∙ ap (slice_get xs) (sym s) ∙ f) in free i (omega (arith, l, s)) (e ∙ ap Some (sym same)))
    (below_or j n u)

apart_left : (xs : List Text) (n : ℕ) (ys : List Text) (m : ℕ) (y : Text) → Apart xs n ys m → slice_get xs n ≡ Some y → Free ys m y → Apart xs (n + 1) ys m
apart_left xs n ys m y old at free i j x l u e f = ⊎_elim
    (λ b. old i j x b u e f)
    (λ s. let same : y ≡ x = same_Some y x (sym at ∙ ap (slice_get xs) (sym s) ∙ e) in free j u (f ∙ ap Some (sym same)))
    (below_or i n l)

apart_right : (xs : List Text) (n : ℕ) (ys : List Text) (m : ℕ) (y : Text) → Apart xs n ys m → slice_get ys m ≡ Some y → Free xs n y → Apart xs n ys (m + 1)
apart_right xs n ys m y old at free i j x l u e f = ⊎_elim
    (λ b. old i j x l b e f)
    (λ s. let same : y ≡ x = same_Some y x (sym at ∙ ap (slice_get ys) (sym s) ∙ f) in free i l (e ∙ ap Some (sym same)))
    (below_or j m u)

-- ---- the declarations one after the other

abbrev still : (DeclKind → Bool) → List Decl → ℕ
still test ds = count_by (λ d. test d.kind) ds

one_more : (test : DeclKind → Bool) (d : Decl) (ds : List Decl) → still test (d ∷ ds) ≡ cond {A = ℕ} (test d.kind) 1 0 + still test ds
one_more test d ds = sum_by-cons (λ x. cond {A = ℕ} (test x.kind) 1 0) d ds

function_at : (fs : List TFunction) (i : ℕ) (f : TFunction) → slice_get fs i ≡ Some f → slice_get (function_names fs) i ≡ Some f.name
function_at [] i f e = absurd (none-some f e)
function_at (g ∷ fs) zero f e = ap (λ g. Some g.name) (same_Some g f e)
function_at (g ∷ fs) (suc i) f e = function_at fs i f e

names_long : (fs : List TFunction) → length (function_names fs) ≡ length fs
names_long [] = refl
names_long (f ∷ fs) = ap suc (names_long fs)

module _ (p : TProgram) (each : length p.nv ≡ length p.names.nvs) where
  abbrev S : List Text
  S = p.names.sensors

  abbrev P : List Text
  P = p.names.ports

  abbrev N : List Text
  N = p.names.nvs

  abbrev F : List Text
  F = function_names p.functions

  abbrev Clean : Tally → List Element → Type 0
  Clean n es = first_broken p n es ≡ None

  -- no two names so far are the same
  pub record SoFar (s q v f : ℕ) : Type 0 where
    pub ss : Once S s
    pub pp : Once P q
    pub nn : Once N v
    pub ff : Once F f
    pub sp : Apart S s P q
    pub sn : Apart S s N v
    pub sf : Apart S s F f
    pub pn : Apart P q N v
    pub pf : Apart P q F f
    pub nf : Apart N v F f

  -- the name is none of those so far
  record New (b : Before) (x : Text) : Type 0 where
    s : Free S b.sensors x
    q : Free P b.ports x
    v : Free N b.nvs x
    f : Free F b.functions x

  new_by : (b : Before) (x : Text) → declared_before p b x ≡ false → New b x
  new_by b x h =
      let s = stands_before (place S x) b.sensors in
      let q = stands_before (place P x) b.ports in
      let v = stands_before (place N x) b.nvs in
      let f = stands_before (function_place p.functions x) b.functions in
      let r1 = second_fails s (q || (v || f)) h in
      let r2 = second_fails q (v || f) r1 in
      record {
        s = free_by S b.sensors x (first_fails s (q || (v || f)) h);
        q = free_by P b.ports x (first_fails q (v || f) r1);
        v = free_by N b.nvs x (first_fails v f r2);
        f = free_by F b.functions x (second_fails v f r2);
      }

  abbrev At : Before → Type 0
  At b = SoFar b.sensors b.ports b.nvs b.functions

  -- one more declaration
  sensor_new : (n : Tally) (b : Before) (line : ℕ) → Clean n (item_elements p b line decls.Sensor) → b.sensors < length S → At b → At (after_item b decls.Sensor)
  sensor_new n b line h l w =
      let x = get_there S b.sensors l in
      let c = subst (λ o. Clean n (named_element sensor_item b line o)) x.1 h in
      let new = new_by b x.0 (none_broken (item_rules p n b (sensor_item x.0)) (first_clean p n (declared b line (sensor_item x.0)) [] c).0).0 in
      record {
        ss = once_more S b.sensors x.0 w.ss x.1 new.s;
        pp = w.pp;
        nn = w.nn;
        ff = w.ff;
        sp = apart_left S b.sensors P b.ports x.0 w.sp x.1 new.q;
        sn = apart_left S b.sensors N b.nvs x.0 w.sn x.1 new.v;
        sf = apart_left S b.sensors F b.functions x.0 w.sf x.1 new.f;
        pn = w.pn;
        pf = w.pf;
        nf = w.nf;
      }

  port_new : (n : Tally) (b : Before) (line : ℕ) → Clean n (item_elements p b line decls.Port) → b.ports < length P → At b → At (after_item b decls.Port)
  port_new n b line h l w =
      let x = get_there P b.ports l in
      let c = subst (λ o. Clean n (named_element port_item b line o)) x.1 h in
      let new = new_by b x.0 (none_broken (item_rules p n b (port_item x.0)) (first_clean p n (declared b line (port_item x.0)) [] c).0).0 in
      record {
        ss = w.ss;
        pp = once_more P b.ports x.0 w.pp x.1 new.q;
        nn = w.nn;
        ff = w.ff;
        sp = apart_right S b.sensors P b.ports x.0 w.sp x.1 new.s;
        sn = w.sn;
        sf = w.sf;
        pn = apart_left P b.ports N b.nvs x.0 w.pn x.1 new.v;
        pf = apart_left P b.ports F b.functions x.0 w.pf x.1 new.f;
        nf = w.nf;
      }

  nv_new : (n : Tally) (b : Before) (line : ℕ) → Clean n (item_elements p b line decls.Nv) → b.nvs < length N → At b → At (after_item b decls.Nv)
  nv_new n b line h l w =
      let x = get_there N b.nvs l in
      let d = get_there p.nv b.nvs (omega (arith, l, each)) in
      let c = subst (λ o. Clean n (nv_element b line (Some x.0) o)) d.1 (subst (λ o. Clean n (nv_element b line o (slice_get p.nv b.nvs))) x.1 h) in
      let m = with_item n (nv_item x.0 d.0) in
      let new = new_by b x.0 (none_broken (item_rules p m b (nv_item x.0 d.0)) (first_clean p n (declared b line (nv_item x.0 d.0)) [] c).0).0 in
      record {
        ss = w.ss;
        pp = w.pp;
        nn = once_more N b.nvs x.0 w.nn x.1 new.v;
        ff = w.ff;
        sp = w.sp;
        sn = apart_right S b.sensors N b.nvs x.0 w.sn x.1 new.s;
        sf = w.sf;
        pn = apart_right P b.ports N b.nvs x.0 w.pn x.1 new.q;
        pf = w.pf;
        nf = apart_left N b.nvs F b.functions x.0 w.nf x.1 new.f;
      }

  function_new : (n : Tally) (b : Before) (line : ℕ) → Clean n (item_elements p b line decls.Function) → b.functions < length p.functions → At b → At (after_item b decls.Function)
  function_new n b line h l w =
      let g = get_there p.functions b.functions l in
      let c = subst (λ o. Clean n (function_elements p b line o)) g.1 h in
      let x : Text = g.0.name in
      let at : slice_get F b.functions ≡ Some x = function_at p.functions b.functions g.0 g.1 in
      let m = with_item n (function_item g.0) in
      let new = new_by b x (none_broken (item_rules p m b (function_item g.0)) (first_clean p n (declared b line (function_item g.0)) (block_elements p
      (in_function g.0 b.functions) g.0.body) c).0).0 in
      record {
        ss = w.ss;
        pp = w.pp;
        nn = w.nn;
        ff = once_more F b.functions x w.ff at new.f;
        sp = w.sp;
        sn = w.sn;
        sf = apart_right S b.sensors F b.functions x w.sf at new.s;
        pn = w.pn;
        pf = apart_right P b.ports F b.functions x w.pf at new.q;
        nf = apart_right N b.nvs F b.functions x w.nf at new.v;
      }

  -- what is left to be declared
  record Left (b : Before) (ds : List Decl) : Type 0 where
    sensors : b.sensors + still is_sensor ds ≡ length S
    ports : b.ports + still is_port ds ≡ length P
    nvs : b.nvs + still is_nv ds ≡ length N
    functions : b.functions + still is_function ds ≡ length p.functions

  -- the numbers with those of one declaration more
  record LeftMore (b : Before) (k : DeclKind) (ds : List Decl) : Type 0 where
    sensors : b.sensors + (cond {A = ℕ} (is_sensor k) 1 0 + still is_sensor ds) ≡ length S
    ports : b.ports + (cond {A = ℕ} (is_port k) 1 0 + still is_port ds) ≡ length P
    nvs : b.nvs + (cond {A = ℕ} (is_nv k) 1 0 + still is_nv ds) ≡ length N
    functions : b.functions + (cond {A = ℕ} (is_function k) 1 0 + still is_function ds) ≡ length p.functions

  item_left : (b : Before) (k : DeclKind) (ds : List Decl) → LeftMore b k ds → Left (after_item b k) ds
  item_left b decls.Sensor ds l = let s = l.sensors in let q = l.ports in let v = l.nvs in
      let f = l.functions in record { sensors = omega (arith, s); ports = omega (arith, q); nvs = omega (arith, v); functions = omega (arith, f) }
  item_left b decls.Port ds l = let s = l.sensors in let q = l.ports in let v = l.nvs in
      let f = l.functions in record { sensors = omega (arith, s); ports = omega (arith, q); nvs = omega (arith, v); functions = omega (arith, f) }
  item_left b decls.Nv ds l = let s = l.sensors in let q = l.ports in let v = l.nvs in
      let f = l.functions in record { sensors = omega (arith, s); ports = omega (arith, q); nvs = omega (arith, v); functions = omega (arith, f) }
  item_left b decls.Function ds l = let s = l.sensors in let q = l.ports in let v = l.nvs in
      let f = l.functions in record { sensors = omega (arith, s); ports = omega (arith, q); nvs = omega (arith, v); functions = omega (arith, f) }

  item_new : (n : Tally) (b : Before) (line : ℕ) (k : DeclKind) (ds : List Decl) → LeftMore b k ds → Clean n (item_elements p b line k) → At b → At (after_item b k)
  item_new n b line decls.Sensor ds l h w = let s = l.sensors in sensor_new n b line h (omega (arith, s)) w
  item_new n b line decls.Port ds l h w = let s = l.ports in port_new n b line h (omega (arith, s)) w
  item_new n b line decls.Nv ds l h w = let s = l.nvs in nv_new n b line h (omega (arith, s)) w
  item_new n b line decls.Function ds l h w = let s = l.functions in function_new n b line h (omega (arith, s)) w

  abbrev All_new : Type 0
  All_new = SoFar (length S) (length P) (length N) (length p.functions)

  order_new : (n : Tally) (b : Before) (ds : List Decl) → Left b ds → Clean n (order_elements p b ds) → At b → All_new
  order_new n b [] l h w =
      let ls = l.sensors in
      let lq = l.ports in
      let lv = l.nvs in
      let lf = l.functions in
      let s : b.sensors ≡ length S = omega (arith, ls) in
      let q : b.ports ≡ length P = omega (arith, lq) in
      let v : b.nvs ≡ length N = omega (arith, lv) in
      let f : b.functions ≡ length p.functions = omega (arith, lf) in
      subst (λ m. SoFar (length S) (length P) (length N) m) f (subst (λ m. SoFar (length S) (length P) m b.functions) v (subst (λ m. SoFar (length S) m b.nvs b.functions) q (subst
      (λ m. SoFar m b.ports b.nvs b.functions) s w)))
  order_new n b (d ∷ ds) l h w =
      let xs = item_elements p b d.line d.kind in
      let ys = order_elements p (after_item b d.kind) ds in
      let parts = apart_of p n xs ys h in
      let more : LeftMore b d.kind ds = record {
        sensors = ap (λ m. b.sensors + m) (sym (one_more is_sensor d ds)) ∙ l.sensors;
        ports = ap (λ m. b.ports + m) (sym (one_more is_port d ds)) ∙ l.ports;
        nvs = ap (λ m. b.nvs + m) (sym (one_more is_nv d ds)) ∙ l.nvs;
        functions = ap (λ m. b.functions + m) (sym (one_more is_function d ds)) ∙ l.functions;
      } in
      order_new (tally n xs) (after_item b d.kind) ds (item_left b d.kind ds more) parts.1 (item_new n b d.line d.kind ds more parts.0 w)

-- ---- as one list

abbrev Member : List Text → Text → Type 0
Member xs x = (i : ℕ) × (slice_get xs i ≡ Some x)

abbrev Differ : List Text → Type 0
Differ [] = Unit {0}
Differ (x ∷ xs) = (Member xs x → ⊥) × Differ xs

differ_by : (xs : List Text) → Once xs (length xs) → Differ xs
differ_by [] h = tt
differ_by (x ∷ xs) h = (
  (λ k. let l = slice_get_within xs k.0 x k.1 in h 0 (suc k.0) x (omega arith) (omega (arith, l)) refl k.1),
  differ_by xs (λ i j y l u e f. h (suc i) (suc j) y (omega (arith, l)) (omega (
    arith,
    u,
  )) e f),
)

either_member : (xs ys : List Text) (x : Text) → Member (xs ++ ys) x → Member xs x ⊎ Member ys x
either_member [] ys x m = inr m
either_member (y ∷ xs) ys x m = by m.0 m.1 (λ k. either_member xs ys x k)
  where
    by : (i : ℕ) → slice_get ((y ∷ xs) ++ ys) i ≡ Some x → (Member (xs ++ ys) x → Member xs x ⊎ Member ys x) → Member (y ∷ xs) x ⊎ Member ys x
    by zero e rest = inl (0, e)
    by (suc i) e rest = ⊎_elim (λ k. inl (suc k.0, k.1)) (λ k. inr k) (rest (i, e))

differ_both : (xs ys : List Text) → Differ xs → Differ ys → ((x : Text) → Member xs x → Member ys x → ⊥) → Differ (xs ++ ys)
differ_both [] ys h k apart = k
differ_both (x ∷ xs) ys h k apart =
    ((λ m. ⊎_elim (λ a. h.0 a) (λ b. apart x (0, refl) b) (either_member xs ys x m)), differ_both xs ys h.1 k (λ y a b. apart y (suc a.0, a.1) b))

apart_by : (xs ys : List Text) → Apart xs (length xs) ys (length ys) → (x : Text) → Member xs x → Member ys x → ⊥
apart_by xs ys h x a b = h a.0 b.0 x (slice_get_within xs a.0 x a.1) (slice_get_within ys b.0 x b.1) a.1 b.1

named_more : (seen : List Text) (y x : Text) → is_named (seen ++ x ∷ []) y ≡ is_named seen y || bytes_eq y x
named_more [] y x = or_none (bytes_eq y x)
  where
    or_none : (b : Bool) → b || false ≡ b
    or_none true = refl
    or_none false = refl
named_more (z ∷ seen) y x = ap (λ b. bytes_eq y z || b) (named_more seen y x) ∙ sym (or_assoc (bytes_eq y z) (is_named seen y) (bytes_eq y x))

once_by : (xs seen : List Text) → ((x : Text) → Member xs x → is_named seen x ≡ false) → Differ xs → each_once seen xs ≡ true
once_by [] seen new h = refl
once_by (x ∷ xs) seen new h =
    ap (λ b. not b && each_once (seen ++ x ∷ []) xs) (new x (0, refl))
    ∙ once_by xs (seen ++ x ∷ []) (λ y m. named_more seen y x ∙ ap (λ b. b || bytes_eq y x) (new y (suc m.0, m.1)) ∙ other y (bytes_eq y x) refl m) h.1
  where
    other : (y : Text) (b : Bool) → bytes_eq y x ≡ b → Member xs y → b ≡ false
    other y true e m = absurd (h.0 (subst (Member xs) ((bytes_eq-Decides y x).0 e) m))
    other y false e m = refl

-- the names of a program that breaks no rule
pub names_differ : (p : TProgram) → DeclaredInOrder p → broken p ≡ None → each_once [] (p.names.sensors ++ (p.names.ports ++ (p.names.nvs ++ function_names p.functions))) ≡ true
names_differ p order h =
    let s = order.sensors in
    let q = order.ports in
    let v = order.nvs in
    let f = order.functions in
    let new = order_new p order.each_nv nothing_counted nothing_before p.order
    (record { sensors = omega (arith, s); ports = omega (arith, q); nvs = omega (arith, v); functions = omega (arith, f) }) (unbroken_element p h)
    (record {
      ss = λ i j x l u e f. absurd (omega (arith, u));
      pp = λ i j x l u e f. absurd (omega (arith, u));
      nn = λ i j x l u e f. absurd (omega (arith, u));
      ff = λ i j x l u e f. absurd (omega (arith, u));
      sp = λ i j x l u e f. absurd (omega (arith, l));
      sn = λ i j x l u e f. absurd (omega (arith, l));
      sf = λ i j x l u e f. absurd (omega (arith, l));
      pn = λ i j x l u e f. absurd (omega (arith, l));
      pf = λ i j x l u e f. absurd (omega (arith, l));
      nf = λ i j x l u e f. absurd (omega (arith, l));
    }) in
    let S : List Text = p.names.sensors in
    let P : List Text = p.names.ports in
    let N : List Text = p.names.nvs in
    let F : List Text = function_names p.functions in
    let many : length F ≡ length p.functions = names_long p.functions in
    let ff : Once F (length F) = subst (Once F) (sym many) new.ff in
    let sf : Apart S (length S) F (length F) = subst (Apart S (length S) F) (sym many) new.sf in
    let pf : Apart P (length P) F (length F) = subst (Apart P (length P) F) (sym many) new.pf in
    let nf : Apart N (length N) F (length F) = subst (Apart N (length N) F) (sym many) new.nf in
    let behind_n : Differ (N ++ F) = differ_both N F (differ_by N new.nn) (differ_by F ff) (apart_by N F nf) in
    let behind_p : Differ (P ++ (N ++ F)) = differ_both P (N ++ F) (differ_by P new.pp) behind_n
    (λ x a b. ⊎_elim (λ c. apart_by P N new.pn x a c) (λ c. apart_by P F pf x a c) (either_member N F x b)) in
    let all : Differ (S ++ (P ++ (N ++ F))) = differ_both S (P ++ (N ++ F)) (differ_by S new.ss) behind_p
    (λ x a b. ⊎_elim (λ c. apart_by S P new.sp x a c) (λ c. ⊎_elim (λ d. apart_by S N new.sn x a d) (λ d. apart_by S F sf x a d) (either_member N F x c)) (either_member P (N ++ F) x b)) in
    once_by (S ++ (P ++ (N ++ F))) [] (λ x m. refl) all
