-- The code of each function of a formed program, with the kinds of its words.
use Rattle.std.proofs.Common.{◌≡◌, ℕ, zero, suc, ◌+◌, ◌-◌, ◌<◌, ◌≤◌, Bool, true, false, List, [], ◌∷◌, ◌++◌, length, map, replicate, Some, None, refl, sym, ap, ◌∙◌, subst, ⊎_elim, arith}
use Rattle.std.proofs.Common.{append-nil, true≢false, nat_eq, nat_le, sum_by, cond}
use Rattle.std.specs.Prelude.{slice_get, if◌then◌else◌, ◌==◌, ◌&&◌, ◌||◌, not, is_some, codes}
use Rattle.std.specs.List.{All, list_all}
use Rattle.std.proofs.lemmas.Bool.Decides.{eqb_tells}
use Rattle.std.proofs.lemmas.List.{length-map}
use Rattle.std.proofs.lemmas.Option.{none-some, same_Some, slice_get_within}
use Rattle.std.proofs.lemmas.List.Elements.{All-head, All-tail}
use Rattle.std.proofs.lemmas.List.Sums.{sum_by-cons}
use Rattle.std.proofs.lemmas.Slice.Eq.{bytes_eq-Decides}
use Rattle.oc_tree.specs.Names.{Text}
use Rattle.oc_tree.specs.Tree.{TFunction, TProgram, TBlock, block}
use Rattle.oc_tree.specs.declared.tree.NvDecl.{NvDecl}
use Rattle.oc_tree.specs.declared.tree.Param.{Param}
use Rattle.oc_tree.specs.declared.tree.Passing.{Passing}
use Rattle.oc_tree.specs.declared.tree.Passing.TheVariants.{Value, Shared, Mutable}
use Rattle.oc_tree.specs.declared.said.Target.{Target}
use Rattle.oc_tree.specs.Marked.{TRegion}
use Rattle.oc_tree.specs.Rules.{is_main}
use Rattle.oc_tree.specs.Stack.{block_slots, link_words}
use Rattle.oc_isa.specs.declared.image.ImageFunction.{ImageFunction}
use Rattle.oc_isa.specs.declared.instr.Placed.{Placed}
use Rattle.oc_isa.specs.declared.instr.Instr.TheVariants.{Ret, Retv, Halt}
use Rattle.oc_isa.specs.Image.{Parts}
use Rattle.oc_verify.specs.declared.kind.Kind.{Kind}
use Rattle.oc_verify.specs.declared.kind.Kind.TheVariants.{Number}
use Rattle.oc_verify.specs.Typing.{pair, level, slots_by}
use Rattle.oc_verify.specs.Rules.{gives as pushes, main_number, nv_words, on_function, own_slots, params_of, run, target_fits, is_region, is_retv, returns_right}
use Rattle.oc_verify.proofs.Cells.{level_below, level_short}
use Rattle.oc_verify.proofs.Typed.{run_one}
use Rattle.oc_verify.proofs.SlotLaws.{slot_above, run_above, main_slot, main_run}
use Rattle.oc_meaning.specs.Exec.{ended_by}
use Rattle.oc_code.proofs.Needs.{block_depth, need_to}
use Rattle.oc_code.proofs.Whole.{as_many}
use Rattle.oc_code.specs.Scope.{InNv, Named, kind_words, param_slot, may_write, params_scope, nv_scope, function_scope}
use Rattle.oc_code.specs.Forms.{placed, one}
use Rattle.oc_code.specs.Code.{function_number, block_code, close_code, body_code, function_code, image_function, image_nv, code_of}
use Rattle.oc_code.specs.Formed.{body_formed, IsFormed}
use Rattle.oc_builds.proofs.Pieces.{Nowhere, Home, Runs, Ends, KindOf, AreOf, onto, join_end, one_end}
use Rattle.oc_builds.proofs.Exprs.{Lies, Sees}
use Rattle.oc_builds.proofs.Calls.{HasFunctions, onto_length, fit_length}
use Rattle.oc_builds.proofs.Stmts.{BlockSeen}
use Rattle.oc_builds.proofs.Bodies.{sees_more, stmts_runs, body_ends}
use Rattle.oc_builds.proofs.Plain.{some_in, gives_is, stmts_plain, body_returns}
use Rattle.oc_builds.proofs.Placing.{number_found, name_found, function_in, main_numbered}

-- what is asked of a marked program besides its being formed: each name is of one function, a parameter by value has one
-- word and each other some, elements are of variables with words, regions end in the order in which they begin and are
-- in the image, and what they overwrite is there
pub record IsPlacedRight (p : TProgram) (regions : List TRegion) (targets : List (List Target)) : Type 0 where
  pub numbered : (i : ℕ) (f : TFunction) → slice_get p.functions i ≡ Some f → function_number p.functions f.name ≡ i
  pub words : (i : ℕ) (f : TFunction) → slice_get p.functions i ≡ Some f → All (λ q. 1 ≤ kind_words q.kind) f.params
  pub single : (i : ℕ) (f : TFunction) → slice_get p.functions i ≡ Some f → All (λ q. q.passing ≡ Value → kind_words q.kind ≡ 1) f.params
  pub seen : (i : ℕ) (f : TFunction) → slice_get p.functions i ≡ Some f
      → BlockSeen (code_of p regions targets) i regions (function_scope p f) (length f.params + link_words f) f.body
  pub fits : list_all (λ ts. list_all (target_fits (code_of p regions targets)) ts) targets ≡ true

-- ---- slots

level_map : (ks : List Kind) (s : ℕ) (k : Kind) → level ks s ≡ Some k → level (map Some ks) s ≡ Some (Some k)
level_map [] s k e = absurd (none-some k e)
level_map (x ∷ ks) s k e = ⊎_elim (λ q. (let n : length (map Some ks) ≡ length ks = length-map ks Some in grind (arith, q.1, e, n))) (λ q. (let n : length (map Some ks) ≡ length ks = length-map ks Some in grind (
  arith,
  q.1,
  e,
  n,
  level_map ks s k,
)))
    (eqb_tells s (length ks))

-- what is on top of others, by its place
pub level_onto : (zs ks : List Kind) (j : ℕ) (k : Kind) → slice_get zs j ≡ Some k → level (onto zs ks) (length ks + j) ≡ Some k
level_onto [] ks j k e = absurd (none-some k e)
level_onto (z ∷ zs) ks zero k e = let n : length ks + 0 ≡ length ks = omega arith in ap (level (onto zs (z ∷ ks))) n ∙ under zs (z ∷ ks) (length ks) (omega arith) ∙ top ∙ e
  where
    under : (zs ks : List Kind) (j : ℕ) → j < length ks → level (onto zs ks) j ≡ level ks j
    under [] ks j h = refl
    under (z ∷ zs) ks j h = under zs (z ∷ ks) j (omega (arith, h)) ∙ level_below (z ∷ []) ks j h

    top : level (z ∷ ks) (length ks) ≡ Some z
    top = grind arith
level_onto (z ∷ zs) ks (suc j) k e = let n : length ks + suc j ≡ length (z ∷ ks) + j = omega arith in ap (level (onto zs (z ∷ ks))) n ∙ level_onto zs (z ∷ ks) j k e

-- ---- variables at the start of a body

module _ (home : Home) where
  nv_sees : (a : ℕ) (xs : List Text) (ds : List NvDecl) → a + sum_by (λ d. d.words) ds ≤ nv_words home.parts → All (λ d. 1 ≤ d.words) ds → Sees home (nv_scope a xs ds)
  nv_sees a [] ds fits some = λ x. (refl, refl)
  nv_sees a (y ∷ xs) [] fits some = λ x. (refl, refl)
  nv_sees a (y ∷ xs) (d ∷ ds) fits some =
      let sums = sum_by-cons (λ (d : NvDecl). d.words) d ds in
      let here : 1 ≤ d.words = All-head (λ (d : NvDecl). 1 ≤ d.words) d ds some in
      sees_more home (nv_scope (a + d.words) xs ds) (record { name = y; slot = InNv a; words = d.words; writable = true; fresh = false })
      (nv_sees (a + d.words) xs ds (omega (arith, fits, sums)) (All-tail (λ (d : NvDecl). 1 ≤ d.words) d ds some)) (here, omega (arith, fits, sums))

  param_lies : (how : Passing) (w s : ℕ) (k : Kind) → KindOf how w k → level home.slots s ≡ Some (Some k) → Lies home (param_slot how s) w (may_write how)
  param_lies Value w s k is at =
      let here : level home.slots s ≡ Some (Some Number) = at ∙ ap (λ k. Some (Some k)) is.0 in
      let long = run_one home.slots s 0 here in
      let one = is.1 in
      (omega (arith, one), here, omega (arith, one, long))
  param_lies Shared w s k is at = (is.2, is.0, at ∙ ap (λ k. Some (Some k)) is.1, is.3)
  param_lies Mutable w s k is at = (is.2, is.0, at ∙ ap (λ k. Some (Some k)) is.1, is.3)

  params_sees : (qs : List Param) (zs : List Kind) (s : ℕ) (γ : List Named) → AreOf qs zs → ((j : ℕ) (k : Kind) → slice_get zs j ≡ Some k → level home.slots (s + j) ≡ Some (Some k)) → Sees home γ
      → Sees home (params_scope qs s γ)
  params_sees [] zs s γ fit at sees = sees
  params_sees (q ∷ qs) [] s γ fit at sees = absurd fit
  params_sees (q ∷ qs) (z ∷ zs) s γ fit at sees =
      let g : Named = record { name = q.name; slot = param_slot q.passing s; words = kind_words q.kind; writable = may_write q.passing; fresh = false } in
      let zero_more : s + 0 ≡ s = omega arith in
      let here : level home.slots s ≡ Some (Some z) = ap (level home.slots) (sym zero_more) ∙ at 0 z refl in
      params_sees qs zs (s + 1) (g ∷ γ) fit.1 (λ j k e. (let n : s + 1 + j ≡ s + suc j = omega arith in ap (level home.slots) n ∙ at (suc j) k e))
      (sees_more home γ g sees (param_lies q.passing (kind_words q.kind) s z fit.0 here))

-- ---- functions of a formed program

-- the kinds of a function's parameters, the last first
pub record AreKinds (f : TFunction) (ks : List Kind) : Type 0 where
  pub zs : List Kind
  pub fit : AreOf f.params zs
  pub is : ks ≡ onto zs []

module _ (p : TProgram) (regions : List TRegion) (targets : List (List Target)) (formed : IsFormed p regions targets) (right : IsPlacedRight p regions targets) where
  abbrev pub I : Parts
  I = code_of p regions targets

  -- whether it is `main` is told by its number
  pub number_is : (i : ℕ) (f : TFunction) → slice_get p.functions i ≡ Some f → (i == main_number I) ≡ is_main f.name
  number_is i f e = by (is_main f.name) refl
    where
      m : ℕ
      m = function_number p.functions (codes "main")

      main_there : slice_get p.functions m ≡ Some formed.main
      main_there = number_found p.functions (codes "main") formed.main formed.main_found

      by : (b : Bool) → is_main f.name ≡ b → (i == main_number I) ≡ b
      by true is =
          let named : f.name ≡ codes "main" = (bytes_eq-Decides f.name (codes "main")).0 is in
          let same : i ≡ main_number I = sym (right.numbered i f e) ∙ ap (function_number p.functions) named ∙ sym (main_numbered p regions targets) in
          grind (arith, same)
      by false is = ⊎_elim
          (λ q. let there : Some f ≡ Some formed.main = sym e ∙ ap (slice_get p.functions) (q.1 ∙ main_numbered p regions targets) ∙ main_there in
          let same : f ≡ formed.main = same_Some f formed.main there in
          let named : is_main f.name ≡ true = (bytes_eq-Decides f.name (codes "main")).1 (ap (λ g. g.name) same ∙ sym (name_found p.functions (codes "main") formed.main formed.main_found)) in
          absurd (true≢false (sym named ∙ is)))
          (λ q. q.0)
          (eqb_tells i (main_number I))

  -- `main` is the one that is found by its name
  pub is_the_main : (i : ℕ) (f : TFunction) → slice_get p.functions i ≡ Some f → is_main f.name ≡ true → f ≡ formed.main
  is_the_main i f e is =
      let named : f.name ≡ codes "main" = (bytes_eq-Decides f.name (codes "main")).0 is in
      let same : i ≡ function_number p.functions (codes "main") = sym (right.numbered i f e) ∙ ap (function_number p.functions) named in
      same_Some f formed.main (sym e ∙ ap (slice_get p.functions) same ∙ number_found p.functions (codes "main") formed.main formed.main_found)

  pub params_is : (i : ℕ) (f : TFunction) → slice_get p.functions i ≡ Some f → params_of I i ≡ length f.params
  params_is i f e = ap (on_function 0 (λ g. g.params)) (function_in p regions targets i f e).is

  -- ---- what a function's code is made of

  abbrev start_scope : TFunction → List Named
  start_scope f = function_scope p f

  abbrev start_slot : TFunction → ℕ
  start_slot f = length f.params + link_words f

  abbrev code_of_block : TFunction → ℕ → TBlock → List Placed
  code_of_block f at b = block_code p.names p.functions regions (length f.params) (start_scope f) (start_slot f) at b

  abbrev Formed_body : TFunction → Bool → TBlock → Type 0
  Formed_body f gives b = body_formed p.names p.functions regions formed.rank (formed.rank f.name) gives (start_scope f) (start_slot f) b

  some_both : (xs ys : List Placed) → some_in is_retv (xs ++ ys) ≡ some_in is_retv xs || some_in is_retv ys
  some_both [] ys = refl
  some_both (x ∷ xs) ys = go (is_retv x.instr) (some_in is_retv (xs ++ ys)) (some_in is_retv xs) (some_in is_retv ys) (some_both xs ys)
    where
      go : (t a b c : Bool) → a ≡ b || c → t || a ≡ (t || b) || c
      go true a b c h = refl
      go false a b c h = h

  pub body_pushes : (f : TFunction) (at : ℕ) (gives : Bool) (b : TBlock) → Formed_body f gives b → some_in is_retv (code_of_block f at b) ≡ gives
  body_pushes f at true (block id ss) h = body_returns p.names p.functions regions (length f.params) formed.rank (formed.rank f.name) ss 0 (start_scope f) (start_slot f) at h
  body_pushes f at false (block id ss) h = stmts_plain p.names p.functions regions (length f.params) formed.rank (formed.rank f.name) ss 0 (start_scope f) (start_slot f) at h

  close_pushes : (f : TFunction) (m r : Bool) → some_in is_retv (if m then one 0 Halt else (if r then [] else one 0 (Ret (length f.params)))) ≡ false
  close_pushes f true r = refl
  close_pushes f false true = refl
  close_pushes f false false = refl

  or_false : (b : Bool) → b || false ≡ b
  or_false true = refl
  or_false false = refl

  -- it pushes a word where it has a result
  pub pushes_is : (i : ℕ) (f : TFunction) → slice_get p.functions i ≡ Some f → pushes I i ≡ is_some f.result
  pushes_is i f e =
      let h = function_in p regions targets i f e in
      gives_is I i h.entry (function_code p regions h.entry f) h.laid
      ∙ some_both (body_code p regions h.entry f) (close_code f)
      ∙ ap (λ b. b || some_in is_retv (close_code f)) (body_pushes f h.entry (is_some f.result) f.body (formed.bodies i f e))
      ∙ ap (λ b. is_some f.result || b) (close_pushes f (is_main f.name) (is_some f.result))
      ∙ or_false (is_some f.result)

  -- a function with these kinds of parameters, where calls go so deep
  abbrev pub home_of : ℕ → TFunction → List Kind → ℕ → Home
  home_of i f ks d = record {
    parts = I;
    fn = i;
    slots = own_slots I i ks;
    depth = block_depth (need_to p.functions d) f.body;
    functions = p.functions;
    rank = formed.rank;
    own = formed.rank f.name;
    need = need_to p.functions d;
  }

  pub has_functions : (i : ℕ) (f : TFunction) (ks : List Kind) (d : ℕ) → HasFunctions (home_of i f ks d)
  has_functions i f ks d = record {
    there = λ x c h. (let n = as_many p regions 0 p.functions in let s = slice_get_within p.functions (function_number p.functions x) c (number_found p.functions x c h) in omega (arith, n, s));
    params = λ x c h. params_is (function_number p.functions x) c (number_found p.functions x c h);
    results = λ x c h. pushes_is (function_number p.functions x) c (number_found p.functions x c h);
  }

  -- regions that end are regions of the image
  ended_in : (rs : List TRegion) (n r : ℕ) → All (λ r. (1 ≤ r.id) × (r.id ≤ length targets)) rs → ended_by rs n ≡ Some r → is_region I r ≡ true
  ended_in [] n r all e = absurd (none-some r e)
  ended_in (q ∷ rs) n r all e = by (n == q.last) e (ended_in rs n r (All-tail (λ (r : TRegion). (1 ≤ r.id) × (r.id ≤ length targets)) q rs all))
    where
      by : (b : Bool) → (if b then Some q.id else ended_by rs n) ≡ Some r → (ended_by rs n ≡ Some r → is_region I r ≡ true) → is_region I r ≡ true
      by true h rest =
          let is : q.id ≡ r = same_Some q.id r h in
          let known = All-head (λ (r : TRegion). (1 ≤ r.id) × (r.id ≤ length targets)) q rs all in
          let low : 1 ≤ r = omega (arith, is, known.0) in
          let high : r ≤ length targets = omega (arith, is, known.1) in
          and_true (nat_le 1 r) (nat_le r (length targets)) (grind (arith, low)) (grind (arith, high))
        where
          and_true : (a b : Bool) → a ≡ true → b ≡ true → a && b ≡ true
          and_true true b e f = f
          and_true false b e f = absurd (true≢false (sym e))
      by false h rest = rest h

  module _ (i : ℕ) (f : TFunction) (e : slice_get p.functions i ≡ Some f) (ks : List Kind) (kinds : AreKinds f ks) where
    abbrev at : ℕ
    at = (function_in p regions targets i f e).entry

    abbrev g : ImageFunction
    g = image_function p regions at f

    slots_are : own_slots I i ks ≡ slots_by (is_main f.name) g ks
    slots_are = ap (on_function [] (λ g. slots_by (i == main_number I) g ks)) (function_in p regions targets i f e).is ∙ ap (λ b. slots_by b g ks) (number_is i f e)

    long : length ks ≡ length f.params
    long = ap length kinds.is ∙ onto_length kinds.zs [] ∙ (let n = fit_length f.params kinds.zs kinds.fit in omega (arith, n))

    free_in : (m : Bool) (s w : ℕ) → length f.params + cond m 0 2 ≤ s → s + w ≤ length f.params + cond m 0 2 + block_slots f.body → g.frame ≡ length f.params + cond m 0 2 + block_slots f.body
        → 1 ≤ w
        → (level (slots_by m g ks) s ≡ Some (Some Number)) × (w ≤ run (slots_by m g ks) s 0)
    free_in true s w l u is some = (main_slot g ks s (omega (arith, u, is, some)), (let r = main_run g ks s (omega (arith, u, is, some)) in omega (arith, r, u, is)))
    free_in false s w l u is some =
        (slot_above g ks long s (omega (arith, l)) (omega (arith, u, is, some)), (let r = run_above g ks long s (omega (arith, l)) (omega (arith, u, is, some)) in omega (arith, r, u, is)))

    free : (s w : ℕ) → start_slot f ≤ s → s + w ≤ start_slot f + block_slots f.body → 1 ≤ w → (level (own_slots I i ks) s ≡ Some (Some Number)) × (w ≤ run (own_slots I i ks) s 0)
    free s w l u some =
        let h = free_in (is_main f.name) s w l u refl some in
        (ap (λ ss. level ss s) slots_are ∙ h.0, subst (λ ss. w ≤ run ss s 0) (sym slots_are) h.1)

    param_at : (m : Bool) → (m ≡ true → f.params ≡ []) → (j : ℕ) (k : Kind) → slice_get kinds.zs j ≡ Some k → level (slots_by m g ks) (0 + j) ≡ Some (Some k)
    param_at true none j k h =
        let n = fit_length f.params kinds.zs kinds.fit in
        let z : length f.params ≡ 0 = ap length (none refl) in
        let s = slice_get_within kinds.zs j k h in
        absurd (omega (arith, n, z, s))
    param_at false none j k h =
        let zero_more : 0 + j ≡ j = omega arith in
        let there : level ks j ≡ Some k = ap (λ l. level l j) kinds.is ∙ ap (level (onto kinds.zs [])) (sym zero_more) ∙ level_onto kinds.zs [] j k h in
        let mapped = level_map ks j k there in
        let short = level_short (map Some ks) j (Some k) mapped in
        ap (level (slots_by false g ks)) zero_more
        ∙ level_below (replicate (g.frame - (g.params + 2)) (Some Number)) (None ∷ (None ∷ map Some ks)) j (omega (arith, short))
        ∙ level_below (None ∷ (None ∷ [])) (map Some ks) j short ∙ mapped

    no_params : is_main f.name ≡ true → f.params ≡ []
    no_params is = ap (λ f. f.params) (is_the_main i f e is) ∙ formed.main_takes_none

    starts : (d : ℕ) → Sees (home_of i f ks d) (function_scope p f)
    starts d = params_sees (home_of i f ks d) f.params kinds.zs 0 (nv_scope 0 p.names.nvs p.nv) kinds.fit
        (λ j k h. ap (λ ss. level ss (0 + j)) slots_are ∙ param_at (is_main f.name) no_params j k h)
        (nv_sees (home_of i f ks d) 0 p.names.nvs p.nv (let n = nv_total p.nv in omega (arith, n)) formed.nv_some)
      where
        nv_from : (ds : List NvDecl) → sum_by (λ v. v.words) (map image_nv ds) ≡ sum_by (λ d. d.words) ds
        nv_from [] = refl
        nv_from (d ∷ ds) = sum_by-cons (λ v. v.words) (image_nv d) (map image_nv ds) ∙ ap (λ n. d.words + n) (nv_from ds) ∙ sym (sum_by-cons (λ (d : NvDecl). d.words) d ds)

        nv_total : (ds : List NvDecl) → sum_by (λ v. v.words) (map image_nv ds) ≡ sum_by (λ d. d.words) ds
        nv_total ds = nv_from ds

    -- ---- the whole code of a function

    abbrev Home_ : ℕ → Home
    Home_ d = home_of i f ks d

    body_goes : (d : ℕ) (b : TBlock) → Formed_body f false b → BlockSeen I i regions (start_scope f) (start_slot f) b → block_depth (need_to p.functions d) b ≤ (Home_ d).depth
        → block_slots b ≤ block_slots f.body
        → Runs (Home_ d) Nowhere at (code_of_block f at b) (pair [] []) (pair [] [])
    body_goes d (block id ss) formed_body seen deep few =
        stmts_runs (Home_ d) regions (length f.params) (has_functions i f ks d) (λ n r. ended_in regions n r formed.regions_known) (start_slot f) (start_slot f + block_slots f.body) free
        ss [] 0 (start_scope f) (start_slot f) at Nowhere [] (starts d) (omega arith) (omega (arith, few)) formed_body seen deep

    body_stops : (d : ℕ) (b : TBlock) → Formed_body f true b → BlockSeen I i regions (start_scope f) (start_slot f) b → block_depth (need_to p.functions d) b ≤ (Home_ d).depth
        → block_slots b ≤ block_slots f.body
        → returns_right I i (Retv (length f.params)) ≡ true → Ends (Home_ d) Nowhere at (code_of_block f at b) (pair [] [])
    body_stops d (block id ss) formed_body seen deep few may =
        body_ends (Home_ d) regions (length f.params) (has_functions i f ks d) (λ n r. ended_in regions n r formed.regions_known) (start_slot f) (start_slot f + block_slots f.body) free may
        ss [] 0 (start_scope f) (start_slot f) at (starts d) (omega arith) (omega (arith, few)) formed_body seen deep

    and_true : (a b : Bool) → a ≡ true → b ≡ true → a && b ≡ true
    and_true true b e f = f
    and_true false b e f = absurd (true≢false (sym e))

    own_params : nat_eq (length f.params) (params_of I i) ≡ true
    own_params = let n : length f.params ≡ params_of I i = sym (params_is i f e) in grind (arith, n)

    no_main : is_main f.name ≡ false → not (i == main_number I) ≡ true
    no_main is = ap not (number_is i f e ∙ is)

    pub function_ends : (d : ℕ) → Ends (Home_ d) Nowhere at (function_code p regions at f) (pair [] [])
    function_ends d = by (is_main f.name) (is_some f.result) refl refl (formed.bodies i f e)
      where
        bc : List Placed
        bc = body_code p regions at f

        q : ℕ
        q = at + length bc

        by : (m r : Bool) → is_main f.name ≡ m → is_some f.result ≡ r → Formed_body f r f.body
            → Ends (Home_ d) Nowhere at (bc ++ (if m then one 0 Halt else (if r then [] else one 0 (Ret (length f.params))))) (pair [] [])
        by true true is gives h =
            let none : is_some f.result ≡ false = ap (λ f. is_some f.result) (is_the_main i f e is) ∙ ap is_some formed.main_gives_none in
            absurd (true≢false (sym gives ∙ none))
        by true false is gives h =
            join_end (Home_ d) Nowhere at q bc (one 0 Halt) (pair [] []) (pair [] []) refl (body_goes d f.body h (right.seen i f e) (omega arith) (omega arith))
            (one_end (Home_ d) Nowhere q (placed 0 Halt) (pair [] []) (pair [] []) (record { named = refl; returns = number_is i f e ∙ is; slot = refl; low = omega arith; calls = tt }) refl refl)
        by false true is gives h =
            let may : returns_right I i (Retv (length f.params)) ≡ true = and_true (not (i == main_number I)) (nat_eq (length f.params) (params_of I i)) (no_main is) own_params in
            subst (λ c. Ends (Home_ d) Nowhere at c (pair [] [])) (sym (append-nil bc)) (body_stops d f.body h (right.seen i f e) (omega arith) (omega arith) may)
        by false false is gives h =
            let may : returns_right I i (Ret (length f.params)) ≡ true =
            and_true (not (i == main_number I)) (nat_eq (length f.params) (params_of I i) && not (pushes I i)) (no_main is)
            (and_true (nat_eq (length f.params) (params_of I i)) (not (pushes I i)) own_params (ap not (pushes_is i f e ∙ gives))) in
            join_end (Home_ d) Nowhere at q bc (one 0 (Ret (length f.params))) (pair [] []) (pair [] []) refl (body_goes d f.body h (right.seen i f e) (omega arith) (omega arith))
            (one_end (Home_ d) Nowhere q (placed 0 (Ret (length f.params))) (pair [] []) (pair [] []) (record { named = refl; returns = may; slot = refl; low = omega arith; calls = tt }) refl refl)
