-- The numbers of a marked program's image fit the fields of a file.
use Rattle.std.proofs.Common.{Option, ◌≡◌, ℕ, zero, suc, ◌+◌, ◌-◌, ◌<◌, ◌≤◌, ◌^◌, Bool, true, false, true≢false, List, [], ◌∷◌, ◌++◌, length, map, replicate, get_or, cond, Some, None, refl, sym, ap}
use Rattle.std.proofs.Common.{◌∙◌, subst, arith, length-append, nat_eq, nat_lt, nat_le, sum_by}
use Rattle.std.specs.Prelude.{slice_get, is_some, FitsSigned, ◌==◌, not, if◌then◌else◌}
use Rattle.std.specs.Int.{w32}
use Rattle.std.specs.List.{All}
use mir.ValLaws.{of_z_fits}
use Rattle.std.proofs.lemmas.Bool.{and_parts, eqb-true}
use Rattle.std.proofs.lemmas.List.{length-map, length-replicate}
use Rattle.std.proofs.lemmas.Option.{none-some, same_Some, slice_get-get_or, slice_get_within}
use Rattle.std.proofs.lemmas.List.Elements.{All-nil, All-cons, All-head, All-tail, All-append, All-map, All-weaker, All-get_or}
use Rattle.std.proofs.lemmas.List.Sums.{sum_by-cons}
use Rattle.oc_tree.specs.Names.{Text}
use Rattle.oc_tree.specs.Tree.{TFunction, TProgram}
use Rattle.oc_tree.specs.declared.tree.NvDecl.{NvDecl}
use Rattle.oc_tree.specs.declared.tree.Param.{Param}
use Rattle.oc_tree.specs.declared.tree.ValueKind.{ValueKind}
use Rattle.oc_tree.specs.declared.tree.ValueKind.TheVariants as kinds
use Rattle.oc_tree.specs.declared.tree.UnaryOp.{UnaryOp}
use Rattle.oc_tree.specs.declared.tree.UnaryOp.TheVariants as signs
use Rattle.oc_tree.specs.declared.said.Target.{Target}
use Rattle.oc_tree.specs.declared.said.Target.TheVariants as targets
use Rattle.oc_tree.specs.Checked.{AnyName}
use Rattle.oc_tree.specs.Form.{TypeInForm, ParamInForm, FunctionInForm, NvInForm, CellsInForm}
use Rattle.oc_tree.specs.Stack.{link_words, frame}
use Rattle.oc_tree.specs.Marked.{TRegion, TMarked, IsMarked}
use Rattle.oc_tree.specs.Rules.{is_main}
use Rattle.oc_isa.specs.declared.image.ImageFunction.{ImageFunction}
use Rattle.oc_isa.specs.declared.instr.BinOp.{BinOp}
use Rattle.oc_isa.specs.declared.instr.BinOp.TheVariants as bins
use Rattle.oc_isa.specs.declared.instr.ProbeKind.{ProbeKind}
use Rattle.oc_isa.specs.declared.instr.ProbeKind.TheVariants as probes
use Rattle.oc_isa.specs.declared.instr.Placed.{Placed}
use Rattle.oc_isa.specs.declared.instr.Instr.{Instr}
use Rattle.oc_isa.specs.declared.instr.Instr.TheVariants.{Push, Load, Store, Nload, Nstore, Addr, Naddr, Get, Put, Index, Bin, Un, Jump, Jfalse, Call, Ret, Retv, Drop, Sense, Emit, Probe, Enter}
use Rattle.oc_isa.specs.declared.instr.Instr.TheVariants.{Commit, Halt}
use Rattle.oc_isa.specs.Bytes.{IsFew, IsSmall, binary_number, unary_number, probe_number, instr_numbers}
use Rattle.oc_isa.specs.Image.{Parts, IsWellMade}
use Rattle.oc_verify.specs.declared.kind.Kind.{Kind}
use Rattle.oc_verify.specs.declared.kind.Kind.TheVariants.{Number}
use Rattle.oc_verify.specs.Typing.{level, slots_by}
use Rattle.oc_verify.specs.Reading.{IsNumber, AreNumbers, target_numbers, PushesWord, IsInstr, all_names, HasNumbers}
use Rattle.oc_verify.specs.Rules.{names_exist, returns_right, slot_right, own_slots, code_at, on_function, params_of, nv_words, main_number, is_region}
use Rattle.oc_verify.proofs.Cells.{level_short}
use Rattle.oc_effects.specs.Effects.{params_at}
use Rattle.oc_writes.specs.Targets.{assigns_nv, assigns_param, words_of, nv_targets, param_targets, region_targets, may_write}
use Rattle.oc_checked.proofs.Declared.{AllWithin, all_within}
use Rattle.oc_checked.proofs.Mains.{head_fine}
use Rattle.oc_checked.proofs.Amounts.{few_functions}
use Rattle.oc_code.proofs.Whole.{as_many}
use Rattle.oc_code.specs.Scope.{function_scope}
use Rattle.oc_code.specs.Forms.{one}
use Rattle.oc_code.specs.Code.{body_code, close_code, function_code, image_function, image_nv, code_of}
use Rattle.oc_code.specs.Formed.{IsFormed}
use Rattle.oc_builds.proofs.Calls.{onto_length, fit_length}
use Rattle.oc_builds.proofs.Reached.{stands}
use Rattle.oc_builds.proofs.Placing.{covers, laid_of, function_in}
use Rattle.oc_builds.proofs.Homes.{params_is}
use Rattle.oc_builds.proofs.KindsPassed.{canon_of, static}
use Rattle.oc_builds.proofs.Rooms.{names_there, returns_there}
use Rattle.oc_builds.proofs.Small.{Small, SmallInstr, AllSmall, both, block_small, nv_few, params_few, const_fits}
use Rattle.oc_builds.proofs.Sizes.{body_room, numbers_small, body_few, frame_few}
use Rattle.oc_builds.proofs.Accepted as accepted

-- ---- numbers of operators

binary_low : (op : BinOp) → binary_number op < 2 ^ 32
binary_low bins.Add = omega arith
binary_low bins.Sub = omega arith
binary_low bins.Mul = omega arith
binary_low bins.Div = omega arith
binary_low bins.Rem = omega arith
binary_low bins.Eq = omega arith
binary_low bins.Ne = omega arith
binary_low bins.Lt = omega arith
binary_low bins.Le = omega arith
binary_low bins.Gt = omega arith
binary_low bins.Ge = omega arith

unary_low : (op : UnaryOp) → unary_number op < 2 ^ 32
unary_low signs.Neg = omega arith
unary_low signs.Not = omega arith

probe_low : (kind : ProbeKind) → probe_number kind < 2 ^ 32
probe_low probes.Use = omega arith
probe_low probes.Done = omega arith
probe_low probes.Tag = omega arith

-- ---- slots

slot_in : (ss : List (Option Kind)) (s : ℕ) (x : Instr) → (level ss s ≡ None → slot_right ss x ≡ false) → slot_right ss x ≡ true → s < length ss
slot_in ss s x none h = by (level ss s) refl
  where
    by : (o : Option (Option Kind)) → level ss s ≡ o → s < length ss
    by None e = absurd (true≢false (sym h ∙ none e))
    by (Some k) e = level_short ss s k e

slots_long : (m : Bool) (g : ImageFunction) (ks : List Kind) → length (slots_by m g ks) ≤ g.frame + 2 + length ks
slots_long true g ks = omega (arith, length-replicate g.frame (Some Number))
slots_long false g ks =
    let n : ℕ = g.frame - (g.params + 2) in
    omega (arith, length-append (replicate n (Some Number)) (None ∷ (None ∷ map Some ks)), length-replicate n (Some Number), length-map ks Some)

-- ---- instructions

-- what bounds the numbers of instructions
record Bounded (i : Parts) : Type 0 where
  words : nv_words i ≤ 65536
  code : length i.code < 2 ^ 31
  functions : length i.functions ≤ 128
  sensors : length i.names.sensors ≤ 64
  ports : length i.names.ports ≤ 64
  regions : length i.targets < 2 ^ 32

module _ (i : Parts) (bounded : Bounded i) (fn : ℕ) (ss : List (Option Kind)) (few : length ss < 2 ^ 32) (params : params_of i fn ≤ 8) where
  below : (a n : ℕ) → n < 2 ^ 32 → nat_lt a n ≡ true → a < 2 ^ 32
  below a n l h = let q : a < n = grind (arith, h) in omega (arith, l, q)

  region_low : (r : ℕ) → is_region i r ≡ true → r < 2 ^ 32
  region_low r h = let q = and_parts (nat_le 1 r) (nat_le r (length i.targets)) h in let l : r ≤ length i.targets = grind (arith, q.1) in let m = bounded.regions in omega (arith, l, m)

  are_numbers : (x : Instr) → SmallInstr x → names_exist i fn x ≡ true → returns_right i fn x ≡ true → slot_right ss x ≡ true → AreNumbers (instr_numbers x)
  are_numbers (Push z) small named right slot = (omega arith, (of_z_fits w32 z small).fits, omega arith)
  are_numbers (Load s) small named right slot = let l = slot_in ss s (Load s) (λ e. rw e refl) slot in (omega arith, omega (arith, l, few), omega arith)
  are_numbers (Store s) small named right slot = let l = slot_in ss s (Store s) (λ e. rw e refl) slot in (omega arith, omega (arith, l, few), omega arith)
  are_numbers (Addr s) small named right slot = let l = slot_in ss s (Addr s) (λ e. rw e refl) slot in (omega arith, omega (arith, l, few), omega arith)
  are_numbers (Nload a) small named right slot = (omega arith, below a (nv_words i) (let m = bounded.words in omega (arith, m)) named, omega arith)
  are_numbers (Nstore a) small named right slot = (omega arith, below a (nv_words i) (let m = bounded.words in omega (arith, m)) named, omega arith)
  are_numbers (Naddr a) small named right slot = (omega arith, below a (nv_words i) (let m = bounded.words in omega (arith, m)) named, omega arith)
  are_numbers Get small named right slot = (omega arith, omega arith, omega arith)
  are_numbers Put small named right slot = (omega arith, omega arith, omega arith)
  are_numbers (Index n) small named right slot = (omega arith, small, omega arith)
  are_numbers (Bin op) small named right slot = (omega arith, binary_low op, omega arith)
  are_numbers (Un op) small named right slot = (omega arith, unary_low op, omega arith)
  are_numbers (Jump t) small named right slot = (omega arith, below t (length i.code) (let m = bounded.code in omega (arith, m)) named, omega arith)
  are_numbers (Jfalse t) small named right slot = (omega arith, below t (length i.code) (let m = bounded.code in omega (arith, m)) named, omega arith)
  are_numbers (Call g) small named right slot = (omega arith, below g (length i.functions) (let m = bounded.functions in omega (arith, m)) named, omega arith)
  are_numbers (Ret k) small named right slot =
      let q = and_parts (not (fn == main_number i)) _ right in
      let e : k ≡ params_of i fn = eqb-true k (params_of i fn) (and_parts (nat_eq k (params_of i fn)) _ q.1).0 in
      (omega arith, omega (arith, e, params), omega arith)
  are_numbers (Retv k) small named right slot =
      let q = and_parts (not (fn == main_number i)) (nat_eq k (params_of i fn)) right in
      let e : k ≡ params_of i fn = eqb-true k (params_of i fn) q.1 in
      (omega arith, omega (arith, e, params), omega arith)
  are_numbers Drop small named right slot = (omega arith, omega arith, omega arith)
  are_numbers (Sense s) small named right slot = (omega arith, below s (length i.names.sensors) (let m = bounded.sensors in omega (arith, m)) named, omega arith)
  are_numbers (Emit q) small named right slot = (omega arith, below q (length i.names.ports) (let m = bounded.ports in omega (arith, m)) named, omega arith)
  are_numbers (Probe kind n) small named right slot = (omega arith, probe_low kind, small)
  are_numbers (Enter r) small named right slot = (omega arith, region_low r (and_parts (is_region i r) _ named).0, omega arith)
  are_numbers (Commit r) small named right slot = (omega arith, region_low r named, omega arith)
  are_numbers Halt small named right slot = (omega arith, omega arith, omega arith)

pushes_word : (x : Instr) → SmallInstr x → PushesWord x
pushes_word (Push z) h = h
pushes_word x h = tt

-- ---- targets

params_in : (P : List Param → Type 0) (fs : List TFunction) (i : ℕ) → P [] → ((j : ℕ) (f : TFunction) → slice_get fs j ≡ Some f → P f.params) → P (get_or (map (λ g. g.params) fs) i [])
params_in P [] i none each = none
params_in P (f ∷ fs) zero none each = each 0 f refl
params_in P (f ∷ fs) (suc i) none each = params_in P fs i none (λ j g e. each (suc j) g e)

abbrev Fits : List Target → Type 0
Fits ts = All (λ t. AreNumbers (target_numbers t)) ts

fits_cond : (b : Bool) (t : Target) (rest : List Target) → AreNumbers (target_numbers t) → Fits rest → Fits (cond b (t ∷ []) [] ++ rest)
fits_cond true t rest h g = All-cons (λ t. AreNumbers (target_numbers t)) t rest h g
fits_cond false t rest h g = g

nv_fits : (p : TProgram) (r : TRegion) (i base : ℕ) (xs : List Text) (ds : List NvDecl) → base + sum_by (λ d. d.words) ds ≤ 65536 → Fits (nv_targets p r i base xs ds)
nv_fits p r i base [] ds h = All-nil (λ t. AreNumbers (target_numbers t))
nv_fits p r i base (x ∷ xs) [] h = All-nil (λ t. AreNumbers (target_numbers t))
nv_fits p r i base (x ∷ xs) (d ∷ ds) h =
    let s = sum_by-cons (λ (d : NvDecl). d.words) d ds in
    fits_cond (assigns_nv p r i x) (targets.Nv base d.words) (nv_targets p r (i + 1) (base + d.words) xs ds) (
      omega arith,
      omega (arith, h, s),
      omega (
        arith,
        h,
        s,
      ),
    ) (nv_fits p r (i + 1) (base + d.words) xs ds (omega (arith, h, s)))

words_low : (k : ValueKind) → TypeInForm k → words_of k < 2 ^ 32
words_low kinds.Int h = omega arith
words_low kinds.Bool h = omega arith
words_low (kinds.Array n) h = omega (arith, h)

params_fits : (p : TProgram) (r : TRegion) (i : ℕ) (qs : List Param) → i + length qs ≤ 8 → All (ParamInForm AnyName) qs → Fits (param_targets p r i qs)
params_fits p r i [] l h = All-nil (λ t. AreNumbers (target_numbers t))
params_fits p r i (q ∷ qs) l h =
    fits_cond (assigns_param p r i) (targets.Param i (words_of q.kind)) (param_targets p r (i + 1) qs) (omega arith, omega (arith, l), words_low q.kind (All-head (ParamInForm AnyName) q qs h).1)
    (params_fits p r (i + 1) qs (omega (arith, l)) (All-tail (ParamInForm AnyName) q qs h))

-- ---- a marked program

module _ (m : TMarked) (is : IsMarked m) where
  abbrev p : TProgram
  p = m.program

  abbrev I : Parts
  I = code_of p m.regions (may_write m)

  formed : IsFormed p m.regions (may_write m)
  formed = accepted.formed m is

  within : AllWithin p
  within = all_within p is.checked.form.declared is.checked.unbroken

  in_form : (i : ℕ) (f : TFunction) → slice_get p.functions i ≡ Some f → FunctionInForm AnyName f
  in_form i f e = subst (FunctionInForm AnyName) (get_is p.functions i f e) (All-get_or (FunctionInForm AnyName) p.functions i f
      (slice_get_within p.functions i f e) is.checked.form.spellable.functions)
    where
      get_is : (fs : List TFunction) (i : ℕ) (f : TFunction) → slice_get fs i ≡ Some f → get_or fs i f ≡ f
      get_is [] i f e = refl
      get_is (g ∷ fs) zero f e = same_Some g f e
      get_is (g ∷ fs) (suc i) f e = get_is fs i f e

  few_params : (i : ℕ) (f : TFunction) → slice_get p.functions i ≡ Some f → length f.params ≤ 8
  few_params i f e = (head_fine p within i f e).few_params

  frame_low : (i : ℕ) (f : TFunction) → slice_get p.functions i ≡ Some f → frame f ≤ 536879114
  frame_low i f e = frame_few f (few_params i f e)
      (body_room p.names p.functions m.regions formed.rank (formed.rank f.name) f.body (is_some f.result) (function_scope p f) (length f.params + link_words f) (formed.bodies i f e))
      (body_few p m.groups is.checked formed.expanded i f e)

  nv_low : All (λ d. d.words ≤ 2147483647) p.nv
  nv_low = All-weaker NvInForm (λ (d : NvDecl). d.words ≤ 2147483647) (λ d h. by d d.array h.0) p.nv is.checked.form.spellable.nv
    where
      by : (d : NvDecl) (b : Bool) → CellsInForm b d.words → d.words ≤ 2147483647
      by d true h = h
      by d false h = omega (arith, h)

  -- the code of each function has small numbers
  function_small : (i : ℕ) (f : TFunction) → slice_get p.functions i ≡ Some f → (at : ℕ) → AllSmall (function_code p m.regions at f)
  function_small i f e at =
      both (body_code p m.regions at f) (close_code f)
      (block_small p.names p.functions m.regions (length f.params) f.body (function_scope p f) (length f.params + link_words f) at
      (params_few f.params 0 _ (in_form i f e).params (nv_few 0 p.names.nvs p.nv nv_low)) (in_form i f e).body (numbers_small p m.groups is.checked formed.expanded i f e))
      (closed (is_main f.name) (is_some f.result))
    where
      closed : (x y : Bool) → AllSmall (if x then one 0 Halt else (if y then [] else one 0 (Ret (length f.params))))
      closed true y = ((omega arith, tt), tt)
      closed false true = tt
      closed false false = ((omega arith, tt), tt)

  small_at : (c : List Placed) (k : ℕ) (x : Placed) → AllSmall c → slice_get c k ≡ Some x → Small x
  small_at [] k x h e = absurd (none-some x e)
  small_at (y ∷ c) zero x h e = subst Small (same_Some y x e) h.0
  small_at (y ∷ c) (suc k) x h e = small_at c k x h.1 e

  module _ (few : IsSmall I) (made : IsWellMade I) where
    bounded : Bounded I
    bounded = record {
      words = made.few_words;
      code = made.code_short;
      functions = (let n = as_many p m.regions 0 p.functions in let l = few_functions p within in omega (arith, n, l));
      sensors = made.few_sensors;
      ports = made.few_ports;
      regions = few.regions;
    }

    instr_at : (k : ℕ) (x : Placed) → slice_get I.code k ≡ Some x → IsInstr x
    instr_at k x e =
        let c = covers p m.regions 0 p.functions k x e in
        let i = c.number in
        let f = c.function in
        let at : c.placed.entry + c.place ≡ k = (let n = c.is in omega (arith, n)) in
        let here : code_at I i k ≡ Some x =
        ap (code_at I i) (sym at) ∙ stands I i c.placed.entry (function_code p m.regions c.placed.entry f) (laid_of p m.regions (may_write m) i f c.placed) c.place x c.found in
        let small = small_at (function_code p m.regions c.placed.entry f) c.place x (function_small i f c.there c.placed.entry) c.found in
        let right = accepted.placed_right m is in
        let kept = static p m.regions (may_write m) formed right i f c.there k x here in
        let ks = canon_of p m.regions (may_write m) formed right i f c.there in
        let sized : length ks.0 ≡ length f.params = ap length ks.1.is ∙ onto_length ks.1.zs [] ∙ (let n = fit_length f.params ks.1.zs ks.1.fit in omega (arith, n)) in
        let g : ImageFunction = image_function p m.regions (function_in p m.regions (may_write m) i f c.there).entry f in
        let slots : own_slots I i ks.0 ≡ slots_by (i == main_number I) g ks.0 = ap (on_function [] (λ g. slots_by (i == main_number I) g ks.0)) (function_in p m.regions
        (may_write m) i f c.there).is in
        let long = slots_long (i == main_number I) g ks.0 in
        let frames = frame_low i f c.there in
        let params = few_params i f c.there in
        let same : length (own_slots I i ks.0) ≡ length (slots_by (i == main_number I) g ks.0) = ap length slots in
        let number : params_of I i ≡ length f.params = params_is p m.regions (may_write m) formed right i f c.there in (
          small.0,
          are_numbers I bounded i (own_slots I i ks.0) (omega (arith, same, long, frames, params, sized)) (omega (arith, number, params)) x.instr small.1
              (names_there p m.regions (may_write m) formed right i k x here) (returns_there p m.regions (may_write m) formed right i k x here) kept.1.slot,
          pushes_word x.instr small.1,
        )

    instrs : All IsInstr I.code
    instrs = λ k d l. instr_at k (get_or I.code k d) (slice_get-get_or I.code k d l)

    functions_fit : All (λ f. AreNumbers (f.entry, f.params, f.frame)) I.functions
    functions_fit k d l =
        let n = as_many p m.regions 0 p.functions in
        let f = there p.functions k (omega (arith, l, n)) in
        let h = function_in p m.regions (may_write m) k f.0 f.1 in
        let same : get_or I.functions k d ≡ image_function p m.regions h.entry f.0 = same_Some (get_or I.functions k d) (image_function p m.regions h.entry f.0) (sym
        (slice_get-get_or I.functions k d l) ∙ h.is) in
        let before = h.laid.before in
        let whole : length I.code ≡ length (h.laid.front ++ (function_code p m.regions h.entry f.0 ++ h.laid.back)) = ap length h.laid.whole in
        let short = made.code_short in
        let frames = frame_low k f.0 f.1 in
        let params = few_params k f.0 f.1 in
        let entry : h.entry < 2 ^ 32 = omega (arith, before, whole, short, length-append h.laid.front (function_code p m.regions h.entry f.0 ++ h.laid.back)) in
        subst (λ (g : ImageFunction). AreNumbers (g.entry, g.params, g.frame)) (sym same) (entry, omega (arith, params), omega (arith, frames))
      where
        there : (fs : List TFunction) (k : ℕ) → k < length fs → (f : TFunction) × (slice_get fs k ≡ Some f)
        there [] k h = absurd (omega (arith, h))
        there (f ∷ fs) zero h = (f, refl)
        there (f ∷ fs) (suc k) h = there fs k (omega (arith, h))

    targets_fit : (rs : List TRegion) → All IsFew (map (region_targets p) rs) → All (λ ts. IsFew ts × Fits ts) (map (region_targets p) rs)
    targets_fit [] h = All-nil (λ ts. IsFew ts × Fits ts)
    targets_fit (r ∷ rs) h =
        let qs = params_at p r.function in
        let sized : length qs ≤ 8 = params_in (λ qs. length qs ≤ 8) p.functions r.function (omega arith) few_params in
        let forms : All (ParamInForm AnyName) qs = params_in (All (ParamInForm AnyName)) p.functions r.function (All-nil (ParamInForm AnyName)) (λ j f e. (in_form j f e).params) in
        let words = formed.few_words in
        All-cons (λ ts. IsFew ts × Fits ts) (region_targets p r) (map (region_targets p) rs) (
          All-head IsFew (region_targets p r) (map (region_targets p) rs) h,
          All-append (λ t. AreNumbers (target_numbers t)) (nv_targets p r 0 0 p.names.nvs p.nv) (param_targets p r 0 qs) (nv_fits p r 0 0 p.names.nvs p.nv (omega (
            arith,
            words,
          ))) (params_fits p r 0 qs (omega (arith, sized)) forms),
        )
        (targets_fit rs (All-tail IsFew (region_targets p r) (map (region_targets p) rs) h))

    nvs_fit : All (λ v. IsNumber v.words × FitsSigned w32 v.initial) I.nv
    nvs_fit = All-map (λ v. IsNumber v.words × FitsSigned w32 v.initial) image_nv p.nv
        (All-weaker NvInForm (λ (d : NvDecl). IsNumber d.words × FitsSigned w32 d.initial) (λ d h. (by d d.array h.0, const_fits d.initial h.1)) p.nv is.checked.form.spellable.nv)
      where
        by : (d : NvDecl) (b : Bool) → CellsInForm b d.words → d.words < 2 ^ 32
        by d true h = omega (arith, h)
        by d false h = omega (arith, h)

    names_few : All IsFew (all_names I)
    names_few = All-append IsFew I.names.sensors (I.names.ports ++ (I.names.nvs ++ map (λ f. f.name) I.functions)) few.sensors
        (All-append IsFew I.names.ports (I.names.nvs ++ map (λ f. f.name) I.functions) few.ports
        (All-append IsFew I.names.nvs (map (λ f. f.name) I.functions) few.nvs (All-map IsFew (λ f. f.name) I.functions few.names)))

    pub has_numbers : HasNumbers I
    has_numbers = record {
      names = names_few;
      nv = nvs_fit;
      functions = functions_fit;
      regions = few.regions;
      targets = targets_fit m.regions few.targets;
      stack = (let l = made.stack_low in omega (arith, l));
      long = (let l = made.code_short in omega (arith, l));
      code = instrs;
    }
