-- The code of blocks and of functions' bodies.
use Rattle.std.proofs.Common.{Option, ◌≡◌, ℕ, ◌+◌, ◌≤◌, Bool, true, false, List, [], ◌∷◌, ◌++◌, length, Some, refl, sym, ap, ◌∙◌, subst, arith, append-nil, true≢false}
use Rattle.std.specs.Prelude.{if◌then◌else◌}
use Rattle.std.specs.Str.{bytes_eq}
use Rattle.oc_tree.specs.Names.{Text}
use Rattle.oc_tree.specs.Tree.{TExpr, TRight, right_value, right_sense, right_call, call, TKind, let_to, let_array, assign, assign_index, assign_deref, if_else, for_in, while_do, call_only}
use Rattle.oc_tree.specs.Tree.{sense_only, emit, fresh, consistent, return, no_else, else_do, stmt, TBlock, block, TStmts, no_stmts, more}
use Rattle.oc_tree.specs.Stack.{expr_depth, kind_slots, block_slots, stmts_slots}
use Rattle.oc_tree.specs.Weight.{has_result}
use Rattle.oc_tree.specs.Marked.{TRegion}
use Rattle.oc_isa.specs.declared.instr.ProbeKind.TheVariants.{Use, Done, Tag}
use Rattle.oc_isa.specs.declared.instr.Placed.{Placed}
use Rattle.oc_isa.specs.declared.instr.Instr.TheVariants.{Store, Put, Index, Drop, Sense, Emit, Probe, Retv}
use Rattle.oc_verify.specs.declared.kind.Kind.TheVariants.{Number, Place}
use Rattle.oc_verify.specs.Typing.{Pair, pair, level, result}
use Rattle.oc_verify.specs.Rules.{run, is_region, returns_right}
use Rattle.oc_meaning.specs.Exec.{begun_by, ended_by, number_in}
use Rattle.oc_meaning.specs.Uses.{is_use, begins_use, ends_use}
use Rattle.oc_code.proofs.Steps.{lt_true}
use Rattle.oc_code.proofs.Writes.{write_room, room_one, room_two}
use Rattle.oc_code.proofs.Needs.{right_depth, kind_depth, block_depth, stmts_depth}
use Rattle.oc_code.specs.Scope.{Slot, InFrame, ByAddress, InNv, NoSlot, Named, named, slot_of, words_of, is_fresh_in, in_scope, for_named, let_named}
use Rattle.oc_code.specs.Forms.{placed, one, enter_code, commit_code, probe_code, write_code, base_code, expr_code, while_code}
use Rattle.oc_code.specs.Code.{after_code, call_code, right_code, return_code, first_code, whole_code, kind_code, block_code, stmts_code}
use Rattle.oc_code.specs.Formed.{marks, IsLast, kind_formed, block_formed, stmts_formed}
use Rattle.oc_builds.proofs.Pieces.{Labels, Nowhere, Home, Ends, join, join_end, none, one_on, one_end}
use Rattle.oc_builds.proofs.Exprs.{ExprKnown, expr_some, Lies, Sees, R, base_runs, write_runs, store_runs, index_runs, put_runs, drop_runs, expr_runs}
use Rattle.oc_builds.proofs.Calls.{HasFunctions, call_runs, right_runs}
use Rattle.oc_builds.proofs.Stmts.{entered, entered_front, MayEnter, KindSeen, BlockSeen, StmtsSeen, probe_runs, enter_runs, commit_runs, one_way_runs, two_way_runs, count_runs, while_runs}
use Rattle.oc_builds.proofs.Stmts.{array_runs}

-- a `return`
abbrev pub returns : TKind → Bool
returns (return e) = true
returns k = false

right_some : (need : Text → ℕ) (r : TRight) → 1 ≤ right_depth need r
right_some need (right_value e) = expr_some e
right_some need (right_sense s) = omega arith
right_some need (right_call (call f args)) = omega arith

lies_some : (home : Home) (s : Slot) (w : ℕ) (b : Bool) → Lies home s w b → b ≡ true → 1 ≤ w
lies_some home (InFrame s) w b h e = h.0
lies_some home (ByAddress s) w b h e = h.0
lies_some home (InNv a) w b h e = h.0
lies_some home NoSlot w b h e = absurd (true≢false (sym e ∙ h.1))

-- a variable more
pub sees_more : (home : Home) (γ : List Named) (g : Named) → Sees home γ → Lies home g.slot g.words g.writable → Sees home (g ∷ γ)
sees_more home γ g sees lies x = by (bytes_eq x g.name)
  where
    by : (b : Bool) → Lies home (if b then g else named γ x).slot (if b then g else named γ x).words (if b then g else named γ x).writable
    by true = lies
    by false = sees x

module _ (home : Home) (regions : List TRegion) (k : ℕ) (has : HasFunctions home) (known : (n r : ℕ) → ended_by regions n ≡ Some r → is_region home.parts r ≡ true) (low top : ℕ)
    (free : (s w : ℕ) → low ≤ s → s + w ≤ top → 1 ≤ w → (level home.slots s ≡ Some (Some Number)) × (w ≤ run home.slots s 0)) where
  abbrev code_of_kind : List Named → ℕ → ℕ → ℕ → TKind → List Placed
  code_of_kind = kind_code home.parts.names home.functions regions k

  abbrev code_of_block : List Named → ℕ → ℕ → TBlock → List Placed
  code_of_block = block_code home.parts.names home.functions regions k

  abbrev code_of_stmts : List Named → ℕ → ℕ → TStmts → List Placed
  code_of_stmts = stmts_code home.parts.names home.functions regions k

  abbrev front_code : List Named → ℕ → TKind → List Placed
  front_code = first_code home.parts.names home.functions regions k

  abbrev whole : List Named → ℕ → TKind → List Placed → List Placed
  whole = whole_code home.parts.names home.functions regions k

  abbrev KF : List Named → ℕ → TKind → Type 0
  KF = kind_formed home.parts.names home.functions regions home.rank home.own

  abbrev SF : Bool → ℕ → List Named → ℕ → TStmts → Type 0
  SF = stmts_formed home.parts.names home.functions regions home.rank home.own

  in_sees : (kind : TKind) (γ : List Named) (s : ℕ) (rest : TStmts) → Sees home γ → low ≤ s → s + kind_slots kind ≤ top → KF γ s kind → Sees home (in_scope kind s rest γ)
  in_sees (let_to m x t r) γ s rest sees l u formed = sees_more home γ (let_named x s 1 rest) sees (omega arith, (free s 1 l u (omega arith)).0, (free s 1 l u (omega arith)).1)
  in_sees (let_array m x t z n) γ s rest sees l u formed =
      let f = free (s + 1) n (omega (arith, l)) (omega (arith, u)) formed.0 in
      sees_more home γ (let_named x (s + 1) n rest) sees (formed.0, f.0, f.1)
  in_sees kind γ s rest sees l u formed = sees

  -- a statement's marks and probes around its own code
  whole_runs : (γ : List Named) (n : ℕ) (kind : TKind) (c : List Placed) (L : Labels) (at : ℕ) (o left rs : List ℕ) → returns kind ≡ false → MayEnter home.parts home.fn (begun_by regions n)
      → entered (begun_by regions n) o ≡ entered (ended_by regions n) left
      → R home L (at + length (front_code γ n kind)) c (pair [] (entered (begun_by regions n) o ++ rs)) (pair [] (entered (begun_by regions n) o ++ rs))
      → R home L at (whole γ n kind c) (pair [] (o ++ rs)) (pair [] (left ++ rs))
  whole_runs γ n kind c L at o left rs other may marks run =
      let b = begun_by regions n in
      let e = ended_by regions n in
      let A : Pair = pair [] (o ++ rs) in
      let B : Pair = pair [] (entered b o ++ rs) in
      let D : Pair = pair [] (left ++ rs) in
      let en : List Placed = enter_code n b in
      let us : List Placed = probe_code n (begins_use (is_fresh_in γ) kind) Use in
      let dn : List Placed = probe_code n (ends_use (is_fresh_in γ) kind) Done in
      let co : List Placed = commit_code n e in
      let m : ℕ = at + length en in
      let q : ℕ = at + length (en ++ us) in
      let r : ℕ = q + length c in
      let opens : R home L at en A B = subst (λ l. R home L at en A (pair [] l)) (entered_front b o rs) (enter_runs home n L at [] (o ++ rs) b may (omega arith)) in
      let front : R home L at (en ++ us) A B = join home L at m en us A B B refl opens (probe_runs home n L m [] (entered b o ++ rs) (begins_use (is_fresh_in γ) kind) Use (omega arith)) in
      let closes : R home L (r + length dn) co B D = subst (λ l. R home L (r + length dn) co (pair [] l) D) (entered_front e left rs ∙ ap (λ l. l ++ rs) (sym marks))
      (commit_runs home n L (r + length dn) [] (left ++ rs) e (known n) (omega arith)) in
      let behind : R home L r (dn ++ co) B D = join home L r (r + length dn) dn co B B D refl (probe_runs home n L r [] (entered b o ++ rs) (ends_use (is_fresh_in γ) kind) Done
      (omega arith)) closes in
      let all : R home L at ((en ++ us) ++ (c ++ (dn ++ co))) A D = join home L at q (en ++ us) (c ++ (dn ++ co)) A B D refl front (join home L q r c (dn ++ co) B B D refl run behind) in
      subst (λ d. R home L at ((en ++ us) ++ (c ++ d)) A D) (sym (last_is n e (ends_use (is_fresh_in γ) kind) kind other)) all
    where
      last_is : (n : ℕ) (e : Option ℕ) (is : Bool) (kind : TKind) → returns kind ≡ false → after_code n e is kind ≡ probe_code n is Done ++ commit_code n e
      last_is n e is (return x) h = absurd (true≢false h)
      last_is n e is kind h = refl

  -- what is known of a statement that is no `return`
  pub record PartsOf (gives : Bool) (inside : ℕ) (γ : List Named) (s n : ℕ) (kind : TKind) (rest : TStmts) : Type 0 where
    pub formed : KF γ s kind
    pub left : ℕ
    pub behind : SF gives left (in_scope kind s rest γ) (s + kind_slots kind) rest

  parts : (gives : Bool) (inside : ℕ) (γ : List Named) (s n line : ℕ) (kind : TKind) (rest : TStmts) → returns kind ≡ false → SF gives inside γ s (more (stmt n line kind) rest)
      → PartsOf gives inside γ s n kind rest
  parts gives inside γ s n line (return e) rest other h = absurd (true≢false other)
  parts gives inside γ s n line kind rest other h = record { formed = h.0; left = h.1; behind = h.3 }

  -- where nothing is given, no statement returns
  no_return : (inside : ℕ) (γ : List Named) (s n line : ℕ) (kind : TKind) (rest : TStmts) → SF false inside γ s (more (stmt n line kind) rest) → returns kind ≡ false
  no_return inside γ s n line (return e) rest h = absurd (true≢false (sym h.0))
  no_return inside γ s n line kind rest h = refl

  drop_if : (b : Bool) (n : ℕ) (L : Labels) (at : ℕ) (rs : List ℕ) → 1 ≤ home.depth → R home L at (if b then one n Drop else []) (pair (result b []) rs) (pair [] rs)
  drop_if true n L at rs deep = drop_runs home n L at [] rs deep
  drop_if false n L at rs deep = none home L at (pair [] rs)

  mutual
    kind_runs : (kind : TKind) (γ : List Named) (n s at : ℕ) (L : Labels) (rs : List ℕ) → Sees home γ → low ≤ s → s + kind_slots kind ≤ top → KF γ s kind
        → KindSeen home.parts home.fn regions γ s kind
        → kind_depth home.need kind ≤ home.depth → R home L at (code_of_kind γ n s at kind) (pair [] rs) (pair [] rs)
    kind_runs (let_to m x t r) γ n s at L rs sees l u formed seen deep =
        let c : List Placed = right_code home.parts.names home.functions regions k n γ at r in
        join home L at (at + length c) c (one n (Store s)) (pair [] rs) (pair (Number ∷ []) rs) (pair [] rs) refl
        (right_runs home regions k has n γ sees L r [] rs at formed seen (omega (arith, deep)))
        (store_runs home n L (at + length c) [] rs s (free s 1 l u (omega arith)).0 (omega (arith, deep, right_some home.need r)))
    kind_runs (let_array m x t z c) γ n s at L rs sees l u formed seen deep =
        let f = free (s + 1) c (omega (arith, l)) (omega (arith, u)) formed.0 in
        array_runs home n L at rs s (free s 1 l (omega (arith, u)) (omega arith)).0 (omega (arith, deep)) z c formed.0 f.0 f.1 deep
    kind_runs (assign x r) γ n s at L rs sees l u formed seen deep =
        let c : List Placed = right_code home.parts.names home.functions regions k n γ at r in
        let g = named γ x in
        let room : write_room g.slot ≡ 1 = room_one g.slot formed.2 in
        join home L at (at + length c) c (write_code n (slot_of γ x)) (pair [] rs) (pair (Number ∷ []) rs) (pair [] rs) refl
        (right_runs home regions k has n γ sees L r [] rs at formed.0 seen (omega (arith, deep)))
        (write_runs home n L (at + length c) [] rs g.slot g.words g.writable (sees x) (omega (arith, room, deep, right_some home.need r)))
    kind_runs (assign_index x e r) γ n s at L rs sees l u formed seen deep =
        let c : List Placed = right_code home.parts.names home.functions regions k n γ at r in
        let g = named γ x in
        let some : 1 ≤ g.words = lies_some home g.slot g.words g.writable (sees x) formed.1 in
        let m : ℕ = at + length c in
        let q : ℕ = m + 1 in
        let ce : List Placed = expr_code n γ q e in
        let t : ℕ = q + length ce in
        let b = base_runs home n L m (Number ∷ []) rs g.slot g.words g.writable (sees x) some (omega (arith, deep)) in
        let bc : List Placed = base_code n (slot_of γ x) in
        let last : List Placed = placed n (Index (words_of γ x)) ∷ one n Put in
        let A : Pair = pair [] rs in
        let B : Pair = pair (Number ∷ []) rs in
        let C : Pair = pair (Place b.wide ∷ (Number ∷ [])) rs in
        let D : Pair = pair (Number ∷ (Place b.wide ∷ (Number ∷ []))) rs in
        let E : Pair = pair (Place 1 ∷ (Number ∷ [])) rs in
        join home L at m c (bc ++ (ce ++ last)) A B A refl (right_runs home regions k has n γ sees L r [] rs at formed.0 seen.0 (omega (arith, deep)))
        (join home L m q bc (ce ++ last) B C A (omega (arith, b.one_long)) b.runs
        (join home L q t ce last C D A refl (expr_runs home n γ sees e seen.1 L q (Place b.wide ∷ (Number ∷ [])) rs deep_two)
        (join home L t (t + 1) (one n (Index (words_of γ x))) (one n Put) D E A refl
        (index_runs home n L t (Number ∷ []) rs g.words b.wide some b.fits (omega (arith, deep, expr_some e))) (put_runs home n L (t + 1) [] rs 1 (omega arith) (omega (arith, deep))))))
      where
        deep_two : 2 + expr_depth e ≤ home.depth
        deep_two = omega (arith, deep)
    kind_runs (assign_deref x r) γ n s at L rs sees l u formed seen deep =
        let c : List Placed = right_code home.parts.names home.functions regions k n γ at r in
        let g = named γ x in
        join home L at (at + length c) c (write_code n (slot_of γ x)) (pair [] rs) (pair (Number ∷ []) rs) (pair [] rs) refl
        (right_runs home regions k has n γ sees L r [] rs at formed.0 seen (omega (arith, deep)))
        (write_runs home n L (at + length c) [] rs g.slot g.words g.writable (sees x) (omega (arith, room_two g.slot, deep)))
    kind_runs (if_else c a no_else) γ n s at L rs sees l u formed seen deep =
        let q : ℕ = at + length (expr_code n γ at c) + 1 in
        one_way_runs home n L at rs (expr_code n γ at c) (code_of_block γ s q a) (omega (arith, deep, expr_some c))
        (λ M. expr_runs home n γ sees c seen.0 M at [] rs (omega (arith, deep))) (λ M. block_runs a γ s q M rs sees l (omega (arith, u)) formed.0 seen.1 (omega (arith, deep)))
    kind_runs (if_else c a (else_do b)) γ n s at L rs sees l u formed seen deep =
        let q : ℕ = at + length (expr_code n γ at c) + 1 in
        let ca : List Placed = code_of_block γ s q a in
        let t : ℕ = q + length ca + 1 in
        two_way_runs home n L at rs (expr_code n γ at c) ca (code_of_block γ (s + block_slots a) t b) (omega (arith, deep, expr_some c))
        (λ M. expr_runs home n γ sees c seen.0 M at [] rs (omega (arith, deep))) (λ M. block_runs a γ s q M rs sees l (omega (arith, u)) formed.0 seen.1 (omega (arith, deep)))
        (λ M. block_runs b γ (s + block_slots a) t M rs sees (omega (arith, l)) (omega (arith, u)) formed.1 seen.2 (omega (arith, deep)))
    kind_runs (for_in x c d b) γ n s at L rs sees l u formed seen deep =
        let f = free s 1 l (omega (arith, u)) (omega arith) in
        let γ' : List Named = for_named x s ∷ γ in
        count_runs home n L at rs s f.0 (omega (arith, deep)) c d (code_of_block γ' (s + 1) (at + 6) b)
        (λ M there. block_runs b γ' (s + 1) (at + 6) M rs (sees_more home γ (for_named x s) sees (omega arith, f.0, f.1)) (omega (arith, l)) (omega (arith, u)) formed.2 seen (omega (arith, deep)))
    kind_runs (while_do c m b) γ n s at L rs sees l u formed seen deep =
        let is : Bool = is_use (is_fresh_in γ) (while_do c m b) in
        let f = free s 1 l (omega (arith, u)) (omega arith) in
        let pr : List Placed = probe_code n is Use in
        let ce : List Placed = expr_code n γ (at + 6 + length pr) c in
        let q : ℕ = at + 6 + length (pr ++ ce) + 1 in
        let cb : List Placed = code_of_block γ (s + 1) q b in
        let loop : List Placed = while_code n at s m (pr ++ ce) cb in
        let A : Pair = pair [] rs in
        let B : Pair = pair (Number ∷ []) rs in
        join home L at (at + length loop) loop (probe_code n is Done) A A A refl
        (while_runs home n L at rs s f.0 (omega (arith, deep)) m (pr ++ ce) cb
        (λ M. join home M (at + 6) (at + 6 + length pr) pr ce A A B refl (probe_runs home n M (at + 6) [] rs is Use (omega arith))
        (expr_runs home n γ sees c seen.0 M (at + 6 + length pr) [] rs (omega (arith, deep))))
        (λ M. block_runs b γ (s + 1) q M rs sees (omega (arith, l)) (omega (arith, u)) formed.1 seen.1 (omega (arith, deep))))
        (probe_runs home n L (at + length loop) [] rs is Done (omega arith))
    kind_runs (call_only c) γ n s at L rs sees l u formed seen deep =
        let d : List Placed = call_code home.parts.names home.functions regions k n γ at c in
        join home L at (at + length d) d (if has_result home.functions c then one n Drop else []) (pair [] rs) (pair (result (has_result home.functions c) []) rs) (pair [] rs) refl
        (call_runs home regions k has n γ sees L c [] rs at formed seen (omega (arith, deep))) (drop_if (has_result home.functions c) n L (at + length d) rs (omega (
          arith,
          deep,
          right_some home.need (right_call c),
        )))
    kind_runs (sense_only x) γ n s at L rs sees l u formed seen deep =
        let i : ℕ = number_in home.parts.names.sensors x in
        join home L at (at + 1) (one n (Sense i)) (one n Drop) (pair [] rs) (pair (Number ∷ []) rs) (pair [] rs) refl
        (one_on home L at (placed n (Sense i)) (pair [] rs) (pair (Number ∷ []) rs)
        (record { named = lt_true i (length home.parts.names.sensors) formed; returns = refl; slot = refl; low = omega arith; calls = tt }) refl refl)
        (drop_runs home n L (at + 1) [] rs (omega (arith, deep)))
    kind_runs (emit p e) γ n s at L rs sees l u formed seen deep =
        let i : ℕ = number_in home.parts.names.ports p in
        let c : List Placed = expr_code n γ at e in
        join home L at (at + length c) c (one n (Emit i)) (pair [] rs) (pair (Number ∷ []) rs) (pair [] rs) refl
        (expr_runs home n γ sees e seen L at [] rs (omega (arith, deep)))
        (one_on home L (at + length c) (placed n (Emit i)) (pair (Number ∷ []) rs) (pair [] rs)
        (record { named = lt_true i (length home.parts.names.ports) formed; returns = refl; slot = refl; low = omega (arith, deep, expr_some e); calls = tt }) refl refl)
    kind_runs (fresh x) γ n s at L rs sees l u formed seen deep = none home L at (pair [] rs)
    kind_runs (consistent x i) γ n s at L rs sees l u formed seen deep =
        one_on home L at (placed n (Probe Tag n)) (pair [] rs) (pair [] rs) (record { named = refl; returns = refl; slot = refl; low = omega arith; calls = tt }) refl refl
    kind_runs (return e) γ n s at L rs sees l u formed seen deep = absurd formed

    block_runs : (b : TBlock) (γ : List Named) (s at : ℕ) (L : Labels) (rs : List ℕ) → Sees home γ → low ≤ s → s + block_slots b ≤ top
        → block_formed home.parts.names home.functions regions home.rank home.own γ s b → BlockSeen home.parts home.fn regions γ s b
        → block_depth home.need b ≤ home.depth → R home L at (code_of_block γ s at b) (pair [] rs) (pair [] rs)
    block_runs (block id ss) γ s at L rs sees l u formed seen deep = stmts_runs ss [] 0 γ s at L rs sees l u formed seen deep

    pub stmts_runs : (ss : TStmts) (o : List ℕ) (inside : ℕ) (γ : List Named) (s at : ℕ) (L : Labels) (rs : List ℕ) → Sees home γ → low ≤ s → s + stmts_slots ss ≤ top
        → SF false inside γ s ss → StmtsSeen home.parts home.fn regions o γ s ss
        → stmts_depth home.need ss ≤ home.depth → R home L at (code_of_stmts γ s at ss) (pair [] (o ++ rs)) (pair [] rs)
    stmts_runs no_stmts o inside γ s at L rs sees l u formed seen deep = subst (λ p. R home L at [] (pair [] (p ++ rs)) (pair [] rs)) (sym seen) (none home L at (pair [] rs))
    stmts_runs (more (stmt n line kind) rest) o inside γ s at L rs sees l u formed seen deep =
        let other = no_return inside γ s n line kind rest formed in
        let p = parts false inside γ s n line kind rest other formed in
        let b = begun_by regions n in
        let m : ℕ = at + length (front_code γ n kind) in
        let c : List Placed = code_of_kind γ n s m kind in
        let w : List Placed = whole γ n kind c in
        let own = kind_runs kind γ n s m L (entered b o ++ rs) sees l (omega (arith, u)) p.formed seen.0 (omega (arith, deep)) in
        let left : List ℕ = seen.2 in
        join home L at (at + length w) w (code_of_stmts (in_scope kind s rest γ) (s + kind_slots kind) (at + length w) rest) (pair [] (o ++ rs)) (pair [] (left ++ rs)) (pair [] rs) refl
        (whole_runs γ n kind c L at o left rs other seen.1 seen.3 own)
        (stmts_runs rest left p.left (in_scope kind s rest γ) (s + kind_slots kind) (at + length w) L rs (in_sees kind γ s rest sees l (omega (arith, u)) p.formed) (omega (
          arith,
          l,
        )) (omega (arith, u)) p.behind seen.4 (omega (arith, deep)))

  -- ---- bodies that end with a `return`

  module _ (right : returns_right home.parts home.fn (Retv k) ≡ true) where
    -- the last statement
    return_ends : (e : TExpr) (o left : List ℕ) (γ : List Named) (n at : ℕ) → Sees home γ → ExprKnown γ e → MayEnter home.parts home.fn (begun_by regions n)
        → entered (begun_by regions n) o ≡ entered (ended_by regions n) left → left ≡ [] → expr_depth e ≤ home.depth
        → Ends home Nowhere at (whole γ n (return e) (return_code home.parts.names home.functions regions k n γ (at + length (front_code γ n (return e))) e)) (pair [] o)
    return_ends e o left γ n at sees seen may marks gone deep =
        let b = begun_by regions n in
        let d = ended_by regions n in
        let X : List ℕ = entered b o in
        let A : Pair = pair [] o in
        let B : Pair = pair [] X in
        let C : Pair = pair (Number ∷ []) X in
        let D : Pair = pair (Number ∷ []) [] in
        let is : Bool = is_use (is_fresh_in γ) (return e) in
        let en : List Placed = enter_code n b in
        let us : List Placed = probe_code n is Use in
        let m : ℕ = at + length en in
        let q : ℕ = at + length (en ++ us) in
        let ce : List Placed = expr_code n γ q e in
        let dn : List Placed = probe_code n is Done in
        let co : List Placed = commit_code n d in
        let rt : List Placed = one n (Retv k) in
        let q1 : ℕ = q + length ce in
        let q2 : ℕ = q1 + length dn in
        let q3 : ℕ = q2 + length co in
        let low : 1 ≤ home.depth = omega (arith, deep, expr_some e) in
        let front : R home Nowhere at (en ++ us) A B = join home Nowhere at m en us A B B refl (enter_runs home n Nowhere at [] o b may (omega arith)) (probe_runs home n Nowhere m [] X is Use
        (omega arith)) in
        let shut : X ≡ entered d [] = marks ∙ ap (entered d) gone in
        let closes : R home Nowhere q2 co C D = subst (λ l. R home Nowhere q2 co (pair (Number ∷ []) l) D) (sym shut) (commit_runs home n Nowhere q2 (Number ∷ []) [] d (known n) low) in
        let last : Ends home Nowhere q3 rt D = one_end home Nowhere q3 (placed n (Retv k)) D (pair [] []) (record { named = refl; returns = right; slot = refl; low = low; calls = tt }) refl refl in
        let own : Ends home Nowhere q (ce ++ (dn ++ (co ++ rt))) B = join_end home Nowhere q q1 ce (dn ++ (co ++ rt)) B C refl (expr_runs home n γ sees e seen Nowhere q [] X (omega (arith, deep)))
        (join_end home Nowhere q1 q2 dn (co ++ rt) C C refl (probe_runs home n Nowhere q1 (Number ∷ []) X is Done low) (join_end home Nowhere q2 q3 co rt C D refl closes last)) in
        let all : Ends home Nowhere at ((en ++ us) ++ (ce ++ (dn ++ (co ++ rt)))) A = join_end home Nowhere at q (en ++ us) (ce ++ (dn ++ (co ++ rt))) A B refl front own in
        subst (λ c. Ends home Nowhere at ((en ++ us) ++ c) A) (sym (append-nil (ce ++ (dn ++ (co ++ rt))))) all

    none_left : (o : List ℕ) (γ : List Named) (s : ℕ) (rest : TStmts) → IsLast rest → StmtsSeen home.parts home.fn regions o γ s rest → o ≡ []
    none_left o γ s no_stmts is seen = seen
    none_left o γ s (more st rest) is seen = absurd is

    none_behind : (γ : List Named) (s at : ℕ) (rest : TStmts) → IsLast rest → code_of_stmts γ s at rest ≡ []
    none_behind γ s at no_stmts is = refl
    none_behind γ s at (more st rest) is = absurd is

    pub body_ends : (ss : TStmts) (o : List ℕ) (inside : ℕ) (γ : List Named) (s at : ℕ) → Sees home γ → low ≤ s → s + stmts_slots ss ≤ top → SF true inside γ s ss
        → StmtsSeen home.parts home.fn regions o γ s ss
        → stmts_depth home.need ss ≤ home.depth → Ends home Nowhere at (code_of_stmts γ s at ss) (pair [] o)
    body_ends no_stmts o inside γ s at sees l u formed seen deep = absurd (true≢false formed.0)
    body_ends (more (stmt n line (return e)) rest) o inside γ s at sees l u formed seen deep =
        let w : List Placed = whole γ n (return e) (return_code home.parts.names home.functions regions k n γ (at + length (front_code γ n (return e))) e) in
        let gone = none_left seen.2 γ (s + 0) rest formed.2 seen.4 in
        let none : code_of_stmts γ (s + 0) (at + length w) rest ≡ [] = none_behind γ (s + 0) (at + length w) rest formed.2 in
        subst (λ c. Ends home Nowhere at c (pair [] o)) (sym (ap (λ c. w ++ c) none ∙ append-nil w)) (return_ends e o seen.2 γ n at sees seen.0 seen.1 seen.3 gone (omega (arith, deep)))
    body_ends (more (stmt n line kind) rest) o inside γ s at sees l u formed seen deep =
        let b = begun_by regions n in
        let m : ℕ = at + length (front_code γ n kind) in
        let c : List Placed = code_of_kind γ n s m kind in
        let w : List Placed = whole γ n kind c in
        let own = kind_runs kind γ n s m Nowhere (entered b o ++ []) sees l (omega (arith, u)) formed.0 seen.0 (omega (arith, deep)) in
        let left : List ℕ = seen.2 in
        let one_more = whole_runs γ n kind c Nowhere at o left [] refl seen.1 seen.3 own in
        let here = subst (λ p. R home Nowhere at w (pair [] p) (pair [] (left ++ []))) (append-nil o) one_more in
        let there = subst (λ p. R home Nowhere at w (pair [] o) (pair [] p)) (append-nil left) here in
        join_end home Nowhere at (at + length w) w (code_of_stmts (in_scope kind s rest γ) (s + kind_slots kind) (at + length w) rest) (pair [] o) (pair [] left) refl there
        (body_ends rest left formed.1 (in_scope kind s rest γ) (s + kind_slots kind) (at + length w) (in_sees kind γ s rest sees l (omega (arith, u)) formed.0) (omega (arith, l)) (omega (
          arith,
          u,
        )) formed.3 seen.4 (omega (arith, deep)))
