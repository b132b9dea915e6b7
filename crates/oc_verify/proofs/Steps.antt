-- Each instruction keeps the frames.
use Rattle.std.proofs.Common.{◌≡◌, ℕ, zero, suc, ◌+◌, ◌-◌, ◌<◌, ◌≤◌, ◌≢◌, ℤ, pos, negsuc, List, [], ◌∷◌, ◌++◌, length, Option, Some, None, refl, sym, ap, ◌∙◌, subst, ⊎_elim, arith}
use Rattle.std.proofs.Common.{drop, Bool, true, false, map, length-append, append_assoc, append-nil, nat_lt, nat_le}
use Rattle.std.specs.Prelude.{◌==◌, if◌then◌else◌, replicate, slice_get, slice_set}
use Rattle.std.proofs.lemmas.List.{length-set}
use Rattle.std.proofs.lemmas.Option.{slice_get_within}
use Rattle.std.proofs.lemmas.Bool.Decides.{eqb_tells}
use Rattle.std.specs.Ordering.{int_eq}
use Rattle.oc_tree.specs.Word.{is_word, unary_of}
use Rattle.oc_tree.specs.declared.said.TrapKind.TheVariants as trap
use Rattle.oc_tree.specs.declared.said.Ending.TheVariants.{Trapped}
use Rattle.oc_isa.specs.declared.image.ImageFunction.{ImageFunction}
use Rattle.oc_isa.specs.declared.instr.Instr.{Instr}
use Rattle.oc_isa.specs.declared.instr.Instr.TheVariants.{Push, Load, Store, Nload, Nstore, Addr, Naddr, Get, Put, Index, Bin, Un, Jump, Jfalse, Call, Ret, Retv, Drop, Sense, Emit}
use Rattle.oc_isa.specs.declared.instr.Instr.TheVariants.{Probe, Enter, Commit, Halt}
use Rattle.oc_isa.specs.Image.{Parts, frame_of, entry_of, initial_words}
use Rattle.oc_tree.specs.Levels.{at_level, set_level}
use Rattle.oc_isa.specs.Next.{Regs, Next, Goes, Senses, Enters, Commits, Ends, Stuck}
use Rattle.oc_isa.specs.Run.{Core, core_at, start_of, Aim, Safe, safe_next, safe_sense, safe_commit, IsSound}
use Rattle.oc_isa.specs.Table.{on, check, popped, popped_two, moves, pushes, pushes_number, loads, stores, writes, address, gets_at, puts_at, element, binary_of, results, jumps}
use Rattle.oc_isa.specs.Table.{calls, address_in, returns, goes_back, goes_back_above, act, next_of, device_of}
use Rattle.oc_verify.specs.declared.kind.Kind.{Kind}
use Rattle.oc_verify.specs.declared.kind.Kind.TheVariants.{Number, Place}
use Rattle.oc_verify.specs.Typing.{pair, Typing, IsTyped, Fine, slots_by, slots_of, result, Leads, AllNumbers, Suits, SuitAll, level, owner}
use Rattle.oc_verify.proofs.Cells.{Cell, Free, Fixed, Matches, cells, fixed, find, put_free, same_length, level_below, level_up, slot_of, cells_sized, level_short, cell_by, Found}
use Rattle.oc_verify.proofs.Cells.{IsAs, drop_frame, split, cells_match}
use Rattle.oc_verify.proofs.Frames.{Frame, Good, Called, Chain, Inv, below, own_cells, depth_of, HasKinds, HasKind, IsPlace, LiveBy, IsLive, SlotsAre, SlotIs}

-- what an instruction makes of the step is right
module _ (samples : List ℤ) (c : Core) (go : Aim) where
  abbrev pub Is : Next → Type 0
  Is n = safe_next n samples c go

  check_is : (b : Bool) (n : Next) → b ≡ true → Is n → Is (check b n)
  check_is b n e h = subst (λ y. Is (check y n)) (sym e) h

  on_is : {A : Type 0} (o : Option A) (x : A) (k : A → Next) → o ≡ Some x → Is (k x) → Is (on o k)
  on_is o x k e h = subst (λ y. Is (on y k)) (sym e) h

  push_is : (room pc fp : ℕ) (stack : List ℤ) (w : ℤ) → length stack < room → Is (moves pc fp (w ∷ stack)) → Is (pushes room pc fp stack w)
  push_is room pc fp stack w h g = check_is (nat_lt (length stack) room) _ (grind (arith, h)) g

  -- the operands stand above the frame
  pop_is : (fp : ℕ) (k : ℤ → List ℤ → Next) (w : ℤ) (ops : List ℤ) (ds : List Cell) (stack : List ℤ)
      → Matches (fixed (w ∷ ops) ++ ds) stack → fp ≤ length ds
      → ((xs : List ℤ) → stack ≡ w ∷ xs → Matches (fixed ops ++ ds) xs → Is (k w xs))
      → Is (popped fp stack k)
  pop_is fp k w ops ds [] m e h = absurd m
  pop_is fp k w ops ds (x ∷ xs) m e h =
      let same : length (fixed ops ++ ds) ≡ length xs = same_length (fixed ops ++ ds) xs m.1 in
      let q : nat_le fp (length xs) ≡ true = grind (arith, same, e, length-append (fixed ops) ds) in
      let r : x ∷ xs ≡ w ∷ xs = ap (λ y. y ∷ xs) (sym m.0) in
      subst (λ b. Is (on {A = ℤ × List ℤ} (if b then Some (x, xs) else None) (λ t. k t.0 t.1))) (sym q)
      (subst (λ y. Is (k y xs)) m.0 (h xs r m.1))

  pop_two_is : (fp : ℕ) (k : ℤ → ℤ → List ℤ → Next) (y x : ℤ) (ops : List ℤ) (ds : List Cell) (stack : List ℤ)
      → Matches (fixed (y ∷ (x ∷ ops)) ++ ds) stack → fp ≤ length ds
      → ((xs : List ℤ) → stack ≡ y ∷ (x ∷ xs) → Matches (fixed ops ++ ds) xs → Is (k y x xs))
      → Is (popped_two fp stack k)
  pop_two_is fp k y x ops ds [] m e h = absurd m
  pop_two_is fp k y x ops ds (a ∷ []) m e h = absurd m.1
  pop_two_is fp k y x ops ds (a ∷ (b ∷ xs)) m e h =
      let same : length (fixed ops ++ ds) ≡ length xs = same_length (fixed ops ++ ds) xs m.1.1 in
      let q : nat_le fp (length xs) ≡ true = grind (arith, same, e, length-append (fixed ops) ds) in
      let r : a ∷ (b ∷ xs) ≡ y ∷ (x ∷ xs) = (λ j. sym m.0 j ∷ (sym m.1.0 j ∷ xs)) in
      subst (λ b'. Is (on {A = ℤ × ℤ × List ℤ} (if b' then Some (a, b, xs) else None) (λ t. k t.0 t.1 t.2))) (sym q)
      (subst (λ z. Is (k z b xs)) m.0 (subst (λ z. Is (k y z xs)) m.1.0 (h xs r m.1.1)))

kinds_sized : (words : ℕ) (cs : List Cell) (xs : List ℤ) (ks : List Kind) → HasKinds words cs xs ks → length xs ≡ length ks
kinds_sized words cs [] [] h = refl
kinds_sized words cs [] (k ∷ ks) h = absurd h
kinds_sized words cs (x ∷ xs) [] h = absurd h
kinds_sized words cs (x ∷ xs) (k ∷ ks) h = ap suc (kinds_sized words cs xs ks h.1)

fixed_sized : (ws : List ℤ) → length (fixed ws) ≡ length ws
fixed_sized [] = refl
fixed_sized (w ∷ ws) = ap suc (fixed_sized ws)

-- what is live stays so under further words
live_by : (b : Bool) (words : ℕ) (ds cs : List Cell) (a : ℕ) → LiveBy b words cs a → LiveBy b words (ds ++ cs) a
live_by true words ds cs a h = level_below ds cs a (level_short cs a Free h) ∙ h
live_by false words ds cs a h = h

place_more : (words : ℕ) (ds cs : List Cell) (w : ℤ) (n : ℕ) → IsPlace words cs w n → IsPlace words (ds ++ cs) w n
place_more words ds cs (pos a) n h = λ j q. live_by (nat_lt (a + j) 65536) words ds cs (a + j) (h j q)
place_more words ds cs (negsuc a) n h = h

kind_more : (words : ℕ) (ds cs : List Cell) (w : ℤ) (k : Kind) → HasKind words cs w k → HasKind words (ds ++ cs) w k
kind_more words ds cs w Number h = tt
kind_more words ds cs w (Place n) h = place_more words ds cs w n h

kind_as : (words : ℕ) (cs : List Cell) (k : Kind) (w x : ℤ) → IsAs (cell_by (Some k) w) x → HasKind words cs w k → HasKind words cs x k
kind_as words cs Number w x e h = tt
kind_as words cs (Place n) w x e h = subst (λ y. IsPlace words cs y n) e h

slots_sized : (words : ℕ) (cs : List Cell) (xs : List ℤ) (ks : List (Option Kind)) → SlotsAre words cs xs ks → length xs ≡ length ks
slots_sized words cs [] [] h = refl
slots_sized words cs [] (k ∷ ks) h = absurd h
slots_sized words cs (x ∷ xs) [] h = absurd h
slots_sized words cs (x ∷ xs) (k ∷ ks) h = ap suc (slots_sized words cs xs ks h.1)

slot_kind : (words : ℕ) (cs : List Cell) (ws : List ℤ) (ss : List (Option Kind)) (s : ℕ) (k : Kind) (w : ℤ) → SlotsAre words cs ws ss → level ss s ≡ Some (Some k)
    → level ws s ≡ Some w → HasKind words cs w k
slot_kind words cs [] [] s k w h e g = absurd (cc)
slot_kind words cs [] (y ∷ ss) s k w h e g = absurd h
slot_kind words cs (x ∷ ws) [] s k w h e g = absurd h
slot_kind words cs (x ∷ ws) (y ∷ ss) s k w h e g =
    let same : length ws ≡ length ss = slots_sized words cs ws ss h.1 in
    ⊎_elim
    (λ q. let a : y ≡ Some k = grind (arith, q.1, same) in let b : x ≡ w = grind (arith, q.1, same) in subst (λ z. HasKind words cs z k) b (subst (SlotIs words cs x) a h.0))
    (λ q. slot_kind words cs ws ss s k w h.1 (grind (arith, q.1, same)) (grind (arith, q.1, same)))
    (eqb_tells s (length ws))

-- nonvolatile words
nv_word : (nv : List ℤ) (a : ℕ) → a < length nv → (w : ℤ) × (slice_get nv a ≡ Some w)
nv_word [] a q = absurd (omega arith)
nv_word (x ∷ nv) zero q = (x, refl)
nv_word (x ∷ nv) (suc a) q = nv_word nv a (omega arith)

small_word : (n : ℕ) → n < 2147483648 → is_word (pos n) ≡ true
small_word n h = grind arith

read_by : (b : Bool) (words : ℕ) (ops : List ℤ) (cs : List Cell) (stack nv : List ℤ) (a : ℕ) → LiveBy b words cs a → Matches (fixed ops ++ cs) stack → length nv ≡ words
    → (w : ℤ) × ((if b then at_level stack a else slice_get nv (a - 65536)) ≡ Some w)
read_by true words ops cs stack nv a l m e =
    let f : Found Free stack a = find (fixed ops ++ cs) stack a Free m (level_below (fixed ops) cs a (level_short cs a Free l) ∙ l) in (f.word, f.got)
read_by false words ops cs stack nv a l m e = nv_word nv (a - 65536) (omega (arith, e, l))

live_small : (b : Bool) (words : ℕ) (cs : List Cell) (a : ℕ) → nat_lt a 65536 ≡ b → words ≤ 65536 → LiveBy b words cs a → a < 2147483648
live_small true words cs a e w l = grind arith
live_small false words cs a e w l = omega arith

pub record KindsSplit (words : ℕ) (cs : List Cell) (xs : List ℤ) (as' bs : List Kind) : Type 0 where
  pub front : List ℤ
  pub back : List ℤ
  pub is : xs ≡ front ++ back
  pub fronts : HasKinds words cs front as'
  pub backs : HasKinds words cs back bs

split_kinds : (words : ℕ) (cs : List Cell) (xs : List ℤ) (as' bs : List Kind) → HasKinds words cs xs (as' ++ bs) → KindsSplit words cs xs as' bs
split_kinds words cs xs [] bs h = record { front = []; back = xs; is = refl; fronts = tt; backs = h }
split_kinds words cs [] (a ∷ as') bs h = absurd h
split_kinds words cs (x ∷ xs) (a ∷ as') bs h = let r = split_kinds words cs xs as' bs h.1 in
    record { front = x ∷ r.front; back = r.back; is = ap (λ l. x ∷ l) r.is; fronts = (h.0, r.fronts); backs = r.backs }

suits_kind : (words : ℕ) (cs : List Cell) (x : ℤ) (a b : Kind) → HasKind words cs x a → Suits a b → HasKind words cs x b
suits_kind words cs x a Number h s = tt
suits_kind words cs x Number (Place m) h s = absurd s
suits_kind words cs (pos p) (Place n) (Place m) h s = λ j q. h j (omega (arith, s, q))
suits_kind words cs (negsuc p) (Place n) (Place m) h s = h

suits_slots : (words : ℕ) (ds cs : List Cell) (xs : List ℤ) (as' bs : List Kind) → HasKinds words cs xs as' → SuitAll as' bs → SlotsAre words (ds ++ cs) xs (map Some bs)
suits_slots words ds cs [] [] [] h s = tt
suits_slots words ds cs (x ∷ xs) [] bs h s = absurd h
suits_slots words ds cs [] (a ∷ as') bs h s = absurd h
suits_slots words ds cs [] [] (b ∷ bs) h s = absurd s
suits_slots words ds cs (x ∷ xs) (a ∷ as') [] h s = absurd s
suits_slots words ds cs (x ∷ xs) (a ∷ as') (b ∷ bs) h s = (kind_more words ds cs x b (suits_kind words cs x a b h.0 s.0), suits_slots words ds cs xs as' bs h.1 s.1)

suits_sized : (as' bs : List Kind) → SuitAll as' bs → length as' ≡ length bs
suits_sized [] [] s = refl
suits_sized [] (b ∷ bs) s = absurd s
suits_sized (a ∷ as') [] s = absurd s
suits_sized (a ∷ as') (b ∷ bs) s = ap suc (suits_sized as' bs s.1)

zero_slots : (n : ℕ) (words : ℕ) (cs : List Cell) (xs : List ℤ) (ss : List (Option Kind)) → SlotsAre words cs xs ss → SlotsAre words cs (replicate n (pos 0) ++ xs) (replicate n (Some Number) ++ ss)
zero_slots zero words cs xs ss h = h
zero_slots (suc n) words cs xs ss h = (tt, zero_slots n words cs xs ss h)

zeros_sized : {A : Type 0} (n : ℕ) (x : A) (xs : List A) → length (replicate n x ++ xs) ≡ n + length xs
zeros_sized zero x xs = omega arith
zeros_sized (suc n) x xs = let r = zeros_sized n x xs in omega (arith, r)

map_sized : (ks : List Kind) → length (map Some ks) ≡ length ks
map_sized [] = refl
map_sized (k ∷ ks) = ap suc (map_sized ks)

link_level : {A : Type 0} (pre : List A) (a b : A) (xs : List A) → level (pre ++ a ∷ (b ∷ xs)) (length xs) ≡ Some b
link_level pre a b xs = level_below pre (a ∷ (b ∷ xs)) (length xs) (omega arith) ∙ grind arith

link_level' : {A : Type 0} (pre : List A) (a b : A) (xs : List A) → level (pre ++ a ∷ (b ∷ xs)) (length xs + 1) ≡ Some a
link_level' pre a b xs = level_below pre (a ∷ (b ∷ xs)) (length xs + 1) (omega arith) ∙ grind arith

-- a link word as an address
address_some : (o : Option ℤ) (n : ℕ) → o ≡ Some (pos n) → address_in o ≡ Some n
address_some o n e = ap address_in e

module _ (i : Parts) (t : Typing) where
  -- the same frame at another place
  abbrev moved : Frame → List ℤ → List Kind → List ℕ → Frame
  moved f ops ks rs = record { fn = f.fn; pc = f.pc; home = f.home; words = f.words; ops = ops; kinds = ks; opens = rs }

  moved_chain : (f : Frame) (ops : List ℤ) (ks : List Kind) (rs : List ℕ) (fs : List Frame) → Chain i t (f ∷ fs) → Chain i t (moved f ops ks rs ∷ fs)
  moved_chain f ops ks rs [] h = h
  moved_chain f ops ks rs (g ∷ fs) h = (
    record {
      here = h.0.here;
      no_main = h.0.no_main;
      back = h.0.back;
      link = h.0.link;
      none = h.0.none;
      none' = h.0.none';
      typed =
          h.0.typed;
      good = h.0.good;
    },
    h.1,
  )

  moved_to_chain : (f : Frame) (pc : ℕ) (ops : List ℤ) (ks : List Kind) (rs : List ℕ) (fs : List Frame) → Chain i t (f ∷ fs)
      → Chain i t (record { fn = f.fn; pc = pc; home = f.home; words = f.words; ops = ops; kinds = ks; opens = rs } ∷ fs)
  moved_to_chain f pc ops ks rs [] h = h
  moved_to_chain f pc ops ks rs (g ∷ fs) h =
      (record { here = h.0.here; no_main = h.0.no_main; back = h.0.back; link = h.0.link; none = h.0.none; none' = h.0.none'; typed = h.0.typed; good = h.0.good }, h.1)

  record Caller (f : Frame) (fs : List Frame) : Type 0 where
    g : Frame
    gs : List Frame
    is : fs ≡ g ∷ gs
    called : Called i t f g gs
    chain : Chain i t (g ∷ gs)

  caller : (f : Frame) (fs : List Frame) → Chain i t (f ∷ fs) → f.fn ≢ t.main → Caller f fs
  caller f [] h n = absurd (n h)
  caller f (g ∷ gs) h n = record { g = g; gs = gs; is = refl; called = h.0; chain = h.1 }

  -- a caller goes on
  resumed : (f g : Frame) (gs : List Frame) → Called i t f g gs → Chain i t (g ∷ gs) → (ops : List ℤ) (ks : List Kind) (stack : List ℤ) (depth : ℕ) (nv : List ℤ)
      → t.pairs g.pc ≡ Some (pair ks g.opens)
      → HasKinds t.words (own_cells i t g ++ below i t gs) ops ks
      → Matches (fixed ops ++ (own_cells i t g ++ below i t gs)) stack
      → depth ≡ length g.opens + depth_of i t gs
      → length nv ≡ t.words
      → Inv i t (core_at (record { pc = g.pc; fp = length (below i t gs); stack = stack }) depth nv)
  resumed f g gs h ch ops ks stack depth nv p k m d z = record {
    top = moved g ops ks g.opens;
    rest = gs;
    here = h.here;
    fp = refl;
    matches = m;
    typed = p;
    good = record { is = h.good.is; sized = h.good.sized; framed = h.good.framed; places = h.good.places; ops = k; fits = h.good.fits };
    chain = moved_chain g ops ks g.opens gs ch;
    depth = d;
    sized = z;
  }

  -- the words of a frame and its operands at a place have room
  high_of : IsTyped i t → (f : Frame) (cs : List Cell) → Good i t f cs → (pc : ℕ) (ks : List Kind) (rs : List ℕ) → t.pairs pc ≡ Some (pair ks rs) → owner i.functions pc ≡ f.fn
      → f.home.frame + length ks + length cs ≤ i.stack
  high_of ty f cs good pc ks rs p o =
      let a = ty.each pc (pair ks rs) p in
      let q : Some a.home ≡ Some f.home = sym a.is ∙ ap (slice_get i.functions) o ∙ good.is in
      let r : a.home ≡ f.home = (cc) in
      let b : t.bound (owner i.functions pc) ≡ t.bound f.fn = ap t.bound o in
      let e : a.home.frame ≡ f.home.frame = ap (λ g. g.frame) r in
      let high : a.home.frame + length ks ≤ t.bound (owner i.functions pc) = a.high in
      let fits : length cs + t.bound f.fn ≤ i.stack = good.fits in
      omega (arith, b, e, high, fits)

  -- an address with a pair is one of the code
  inside_code : IsTyped i t → (pc : ℕ) (ks : List Kind) (rs : List ℕ) → t.pairs pc ≡ Some (pair ks rs) → nat_lt pc (length i.code) ≡ true
  inside_code ty pc ks rs p = let a = ty.each pc (pair ks rs) p in let w = slice_get_within i.code pc a.instr a.found in grind (arith, w)

  module _ (samples : List ℤ) (c : Core) (v : Inv i t c) where
    abbrev floor_cells : List Cell
    floor_cells = own_cells i t v.top ++ below i t v.rest

    abbrev kept : Aim
    kept = λ s c'. Inv i t c'

    abbrev Goal : Next → Type 0
    Goal n = safe_next n samples c kept

    -- what a step within a frame leaves
    stay : (pc : ℕ) (ops : List ℤ) (ks : List Kind) (rs : List ℕ) (stack : List ℤ) (depth : ℕ) (nv : List ℤ)
        → Leads i t v.top.fn pc ks rs
        → HasKinds t.words floor_cells ops ks
        → Matches (fixed ops ++ floor_cells) stack
        → depth ≡ length rs + depth_of i t v.rest
        → length nv ≡ t.words
        → Inv i t (core_at (record { pc = pc; fp = c.regs.fp; stack = stack }) depth nv)
    stay pc ops ks rs stack depth nv l k m d z = record {
      top = moved v.top ops ks rs;
      rest = v.rest;
      here = l.1;
      fp = v.fp;
      matches = m;
      typed = l.0;
      good = record { is = v.good.is; sized = v.good.sized; framed = v.good.framed; places = v.good.places; ops = k; fits = v.good.fits };
      chain = moved_chain v.top ops ks rs v.rest v.chain;
      depth = d;
      sized = z;
    }

    -- within a frame, at the same depth and with the same nonvolatile words
    on_at : (pc : ℕ) (ops : List ℤ) (ks : List Kind) (stack : List ℤ) → Leads i t v.top.fn pc ks v.top.opens → HasKinds t.words floor_cells ops ks → Matches (fixed ops ++ floor_cells) stack
        → Inv i t (core_at (record { pc = pc; fp = c.regs.fp; stack = stack }) c.depth c.nv)
    on_at pc ops ks stack l k m = stay pc ops ks v.top.opens stack c.depth c.nv l k m v.depth v.sized

    floor_is : length floor_cells ≡ c.regs.fp + v.top.home.frame
    floor_is =
        let a : length (own_cells i t v.top) ≡ length v.top.words = cells_sized _ _ v.good.sized in
        omega (arith, a, v.good.framed, v.fp, length-append (own_cells i t v.top) (below i t v.rest))

    -- room for what an instruction leads to
    roomy : IsTyped i t → (pc : ℕ) (ops : List ℤ) (ks : List Kind) (rs : List ℕ) (stack : List ℤ) → Leads i t v.top.fn pc ks rs → length ks ≡ suc (length ops)
        → Matches (fixed ops ++ floor_cells) stack → length stack < i.stack
    roomy ty pc ops ks rs stack l e m =
        let f = ty.each pc (pair ks rs) l.0 in
        let same : length (fixed ops ++ floor_cells) ≡ length stack = same_length _ _ m in
        let q : Some f.home ≡ Some v.top.home = sym f.is ∙ ap (slice_get i.functions) l.1 ∙ v.good.is in
        let r : f.home ≡ v.top.home = (cc) in
        let b : t.bound (owner i.functions pc) ≡ t.bound v.top.fn = ap t.bound l.1 in
        let a : f.home.frame ≡ v.top.home.frame = ap (λ g. g.frame) r in
        let high : f.home.frame + length ks ≤ t.bound (owner i.functions pc) = f.high in
        let fits : length (below i t v.rest) + t.bound v.top.fn ≤ i.stack = v.good.fits in
        omega (arith, same, a, b, e, high, fits, floor_is, v.fp, fixed_sized ops, length-append (fixed ops) floor_cells)

    floor_at : c.regs.fp ≤ length floor_cells
    floor_at = omega (arith, floor_is)

    pushing_on : IsTyped i t → (ops : List ℤ) (ks : List Kind) (stack : List ℤ) → HasKinds t.words floor_cells ops ks → Matches (fixed ops ++ floor_cells) stack
        → (w : ℤ) (k : Kind) → HasKind t.words floor_cells w k → Leads i t v.top.fn (c.regs.pc + 1) (k ∷ ks) v.top.opens → Goal (pushes i.stack (c.regs.pc + 1) c.regs.fp stack w)
    pushing_on ty ops ks stack o m w k h l =
        push_is samples c kept i.stack (c.regs.pc + 1) c.regs.fp stack w
        (roomy ty _ ops _ _ stack l (ap suc (sym (kinds_sized _ _ _ _ o))) m)
        (on_at (c.regs.pc + 1) (w ∷ ops) (k ∷ ks) (w ∷ stack) l (h, o) (refl, m))

    pushing : IsTyped i t → (w : ℤ) (k : Kind) → HasKind t.words floor_cells w k → Leads i t v.top.fn (c.regs.pc + 1) (k ∷ v.top.kinds) v.top.opens
        → Goal (pushes i.stack (c.regs.pc + 1) c.regs.fp c.regs.stack w)
    pushing ty w k h l = pushing_on ty v.top.ops v.top.kinds c.regs.stack v.good.ops v.matches w k h l

    numbering_on : IsTyped i t → (ops : List ℤ) (ks : List Kind) (stack : List ℤ) → HasKinds t.words floor_cells ops ks → Matches (fixed ops ++ floor_cells) stack
        → (w : ℤ) (k : Kind) → is_word w ≡ true → HasKind t.words floor_cells w k → Leads i t v.top.fn (c.regs.pc + 1) (k ∷ ks) v.top.opens
        → Goal (pushes_number i.stack (c.regs.pc + 1) c.regs.fp stack w)
    numbering_on ty ops ks stack o m w k e h l = check_is samples c kept (is_word w) _ e (pushing_on ty ops ks stack o m w k h l)

    popping : (k : Kind) (ks : List Kind) → v.top.kinds ≡ k ∷ ks → (go : ℤ → List ℤ → Next)
        → ((w : ℤ) (under xs : List ℤ) → c.regs.stack ≡ w ∷ xs → HasKind t.words floor_cells w k → HasKinds t.words floor_cells under ks → Matches (fixed under ++ floor_cells) xs → Goal (go w xs))
        → Goal (popped c.regs.fp c.regs.stack go)
    popping k ks e go h = by_ops v.top.ops (subst (HasKinds t.words floor_cells v.top.ops) e v.good.ops) v.matches
      where
        by_ops : (ops : List ℤ) → HasKinds t.words floor_cells ops (k ∷ ks) → Matches (fixed ops ++ floor_cells) c.regs.stack → Goal (popped c.regs.fp c.regs.stack go)
        by_ops [] o m = absurd o
        by_ops (x ∷ ops) o m = pop_is samples c kept c.regs.fp go x ops floor_cells c.regs.stack m floor_at (λ xs q n. h x ops xs q o.0 o.1 n)

    popping_two : (k j : Kind) (ks : List Kind) → v.top.kinds ≡ k ∷ (j ∷ ks) → (go : ℤ → ℤ → List ℤ → Next)
        → ((y x : ℤ) (under xs : List ℤ) → c.regs.stack ≡ y ∷ (x ∷ xs) → HasKind t.words floor_cells y k → HasKind t.words floor_cells x j → HasKinds t.words floor_cells under ks
        → Matches (fixed under ++ floor_cells) xs → Goal (go y x xs))
        → Goal (popped_two c.regs.fp c.regs.stack go)
    popping_two k j ks e go h = by_ops v.top.ops (subst (HasKinds t.words floor_cells v.top.ops) e v.good.ops) v.matches
      where
        by_ops : (ops : List ℤ) → HasKinds t.words floor_cells ops (k ∷ (j ∷ ks)) → Matches (fixed ops ++ floor_cells) c.regs.stack → Goal (popped_two c.regs.fp c.regs.stack go)
        by_ops [] o m = absurd o
        by_ops (y ∷ []) o m = absurd o.1
        by_ops (y ∷ (x ∷ ops)) o m = pop_two_is samples c kept c.regs.fp go y x ops floor_cells c.regs.stack m floor_at (λ xs q n. h y x ops xs q o.0 o.1.0 o.1.1 n)

    -- the cell of a slot, under any operands
    slot_cell : (s : ℕ) (k : Option Kind) (ops : List ℤ) → level (slots_of t v.top.fn v.top.home) s ≡ Some k
        → (w : ℤ) × (level v.top.words s ≡ Some w) × (level (fixed ops ++ floor_cells) (c.regs.fp + s) ≡ Some (cell_by k w))
    slot_cell s k ops e =
        let r = slot_of (slots_of t v.top.fn v.top.home) v.top.words s k v.good.sized e in
        let short : s < length (own_cells i t v.top) = level_short _ s _ r.cell in
        let long : c.regs.fp + s < length floor_cells = omega (arith, short, v.fp, length-append (own_cells i t v.top) (below i t v.rest)) in
        let up : level floor_cells (c.regs.fp + s) ≡ level (own_cells i t v.top) s =
        subst (λ n. level floor_cells (n + s) ≡ level (own_cells i t v.top) s) (sym v.fp) (level_up (own_cells i t v.top) (below i t v.rest) s) in
        (r.word, r.got, level_below (fixed ops) floor_cells _ long ∙ up ∙ r.cell)

    loading : IsTyped i t → (s : ℕ) (k : Kind) → level (slots_of t v.top.fn v.top.home) s ≡ Some (Some k) → Leads i t v.top.fn (c.regs.pc + 1) (k ∷ v.top.kinds) v.top.opens
        → Goal (loads i.stack (c.regs.pc + 1) c.regs.fp c.regs.stack s)
    loading ty s k e l =
        let r = slot_cell s (Some k) v.top.ops e in
        let f : Found (cell_by (Some k) r.0) c.regs.stack (c.regs.fp + s) = find _ c.regs.stack (c.regs.fp + s) _ v.matches r.2 in
        on_is samples c kept _ f.word _ f.got
        (pushing ty f.word k (kind_as t.words floor_cells k r.0 f.word f.as'
        (kind_more t.words (own_cells i t v.top) (below i t v.rest) r.0 k (slot_kind t.words _ v.top.words _ s k r.0 v.good.places e r.1))) l)

    -- a slot is a stack word
    slot_inside : (s : ℕ) (k : Option Kind) → level (slots_of t v.top.fn v.top.home) s ≡ Some k → nat_lt (c.regs.fp + s) (length c.regs.stack) ≡ true
    slot_inside s k e =
        let r = slot_cell s k v.top.ops e in
        let short : c.regs.fp + s < length (fixed v.top.ops ++ floor_cells) = level_short _ _ _ r.2 in
        let same : length (fixed v.top.ops ++ floor_cells) ≡ length c.regs.stack = same_length _ _ v.matches in
        grind (arith, short, same)

    storing : (s : ℕ) (ks : List Kind) → v.top.kinds ≡ Number ∷ ks → level (slots_of t v.top.fn v.top.home) s ≡ Some (Some Number) → Leads i t v.top.fn (c.regs.pc + 1) ks v.top.opens
        → Goal (stores (c.regs.pc + 1) c.regs.fp c.regs.stack s)
    storing s ks e sl l =
        check_is samples c kept _ _ (slot_inside s _ sl)
        (popping Number ks e _ (λ w under xs q k o m. let r = slot_cell s (Some Number) under sl in on_at (c.regs.pc + 1) under ks (set_level xs (c.regs.fp + s) w) l o (put_free _ xs _ w m r.2)))

    stack_fits : IsTyped i t → length c.regs.stack ≤ i.stack
    stack_fits ty =
        let f = ty.each c.regs.pc (pair v.top.kinds v.top.opens) v.typed in
        let same : length (fixed v.top.ops ++ floor_cells) ≡ length c.regs.stack = same_length _ _ v.matches in
        let q : Some f.home ≡ Some v.top.home = sym f.is ∙ ap (slice_get i.functions) v.here ∙ v.good.is in
        let r : f.home ≡ v.top.home = (cc) in
        let b : t.bound (owner i.functions c.regs.pc) ≡ t.bound v.top.fn = ap t.bound v.here in
        let a : f.home.frame ≡ v.top.home.frame = ap (λ g. g.frame) r in
        let high : f.home.frame + length v.top.kinds ≤ t.bound (owner i.functions c.regs.pc) = f.high in
        let fits : length (below i t v.rest) + t.bound v.top.fn ≤ i.stack = v.good.fits in
        let e : length v.top.ops ≡ length v.top.kinds = kinds_sized _ _ _ _ v.good.ops in
        omega (arith, same, a, b, e, high, fits, floor_is, v.fp, fixed_sized v.top.ops, length-append (fixed v.top.ops) floor_cells)

    floor_fits : IsTyped i t → length floor_cells ≤ 65536
    floor_fits ty =
        let same : length (fixed v.top.ops ++ floor_cells) ≡ length c.regs.stack = same_length _ _ v.matches in
        omega (arith, same, stack_fits ty, ty.low, length-append (fixed v.top.ops) floor_cells)

    addressing : IsTyped i t → (s n : ℕ) → AllNumbers (slots_of t v.top.fn v.top.home) s n → 1 ≤ n → Leads i t v.top.fn (c.regs.pc + 1) (Place n ∷ v.top.kinds) v.top.opens
        → Goal (pushes_number i.stack (c.regs.pc + 1) c.regs.fp c.regs.stack (pos (c.regs.fp + s)))
    addressing ty s n h o l =
        let at' : (j : ℕ) → suc j ≤ n → level floor_cells (c.regs.fp + (s + j)) ≡ Some Free = λ j q. (slot_cell (s + j) (Some Number) [] (h j q)).2 in
        let low : (j : ℕ) → suc j ≤ n → nat_lt (c.regs.fp + s + j) 65536 ≡ true =
        λ j q. (let r : c.regs.fp + (s + j) < length floor_cells = level_short _ _ _ (at' j q) in let z = floor_fits ty in grind (arith, r, z)) in
        let same : (j : ℕ) → c.regs.fp + (s + j) ≡ c.regs.fp + s + j = λ j. omega arith in
        let first : c.regs.fp + (s + 0) < length floor_cells = level_short _ _ _ (at' 0 (omega (arith, o))) in
        numbering_on ty v.top.ops v.top.kinds c.regs.stack v.good.ops v.matches (pos (c.regs.fp + s)) (Place n) (small_word (c.regs.fp + s) (omega (arith, first, floor_fits ty)))
        (λ j q. subst (λ b. LiveBy b t.words floor_cells (c.regs.fp + s + j)) (sym (low j q)) (subst (λ a. level floor_cells a ≡ Some Free) (same j) (at' j q))) l

    naddressing : IsTyped i t → (n : ℕ) → n < t.words → Leads i t v.top.fn (c.regs.pc + 1) (Place (t.words - n) ∷ v.top.kinds) v.top.opens
        → Goal (pushes_number i.stack (c.regs.pc + 1) c.regs.fp c.regs.stack (pos (65536 + n)))
    naddressing ty n h l =
        numbering_on ty v.top.ops v.top.kinds c.regs.stack v.good.ops v.matches (pos (65536 + n)) (Place (t.words - n)) (small_word (65536 + n) (omega (arith, h, ty.few)))
        (λ j q. let e : nat_lt (65536 + n + j) 65536 ≡ false = grind arith in subst (λ b. LiveBy b t.words floor_cells (65536 + n + j)) (sym e) (omega (arith, q, h))) l

    getting : IsTyped i t → (n : ℕ) (w : ℤ) (under xs : List ℤ) (ks : List Kind) → HasKind t.words floor_cells w (Place (suc n)) → HasKinds t.words floor_cells under ks
        → Matches (fixed under ++ floor_cells) xs
        → Leads i t v.top.fn (c.regs.pc + 1) (Number ∷ ks) v.top.opens
        → Goal (gets_at i.stack (c.regs.pc + 1) c.regs.fp c.regs.stack xs c.nv w)
    getting ty n (pos a) under xs ks k o m l =
        let live : IsLive t.words floor_cells (a + 0) = k 0 (omega arith) in
        let live' : IsLive t.words floor_cells a = subst (IsLive t.words floor_cells) (omega arith) live in
        let r = read_by (nat_lt a 65536) t.words v.top.ops floor_cells c.regs.stack c.nv a live' v.matches v.sized in
        on_is samples c kept _ r.0 _ r.1 (pushing_on ty under ks xs o m r.0 Number tt l)
    getting ty n (negsuc a) under xs ks k o m l = absurd k

    put_by : (b : Bool) (a : ℕ) (x : ℤ) (under xs : List ℤ) (ks : List Kind) → LiveBy b t.words floor_cells a → HasKinds t.words floor_cells under ks → Matches (fixed under ++ floor_cells) xs
        → Leads i t v.top.fn (c.regs.pc + 1) ks v.top.opens
        → Goal (if b then check (nat_lt a (length c.regs.stack)) (moves (c.regs.pc + 1) c.regs.fp (set_level xs a x))
        else writes (c.regs.pc + 1) c.regs.fp xs c.nv (a - 65536) x)
    put_by true a x under xs ks live o m l =
        let short : a < length floor_cells = level_short _ _ _ live in
        let same : length (fixed v.top.ops ++ floor_cells) ≡ length c.regs.stack = same_length _ _ v.matches in
        let fits : nat_lt a (length c.regs.stack) ≡ true = grind (arith, short, same, length-append (fixed v.top.ops) floor_cells) in
        check_is samples c kept _ _ fits
        (on_at (c.regs.pc + 1) under ks (set_level xs a x) l o (put_free _ xs a x m (level_below (fixed under) floor_cells a short ∙ live)))
    put_by false a x under xs ks live o m l =
        let fits : nat_lt (a - 65536) (length c.nv) ≡ true = grind (arith, live, v.sized) in
        check_is samples c kept _ _ fits
        (stay (c.regs.pc + 1) under ks v.top.opens xs c.depth (slice_set c.nv (a - 65536) x) l o m v.depth (length-set c.nv (a - 65536) x ∙ v.sized))

    putting : (n : ℕ) (w x : ℤ) (under xs : List ℤ) (ks : List Kind) → HasKind t.words floor_cells w (Place (suc n)) → HasKinds t.words floor_cells under ks → Matches (fixed under ++ floor_cells) xs
        → Leads i t v.top.fn (c.regs.pc + 1) ks v.top.opens
        → Goal (on (address w) (λ a. puts_at (c.regs.pc + 1) c.regs.fp c.regs.stack xs c.nv a x))
    putting n (pos a) x under xs ks k o m l =
        let live : IsLive t.words floor_cells (a + 0) = k 0 (omega arith) in
        let live' : IsLive t.words floor_cells a = subst (IsLive t.words floor_cells) (omega arith) live in
        put_by (nat_lt a 65536) a x under xs ks live' o m l
    putting n (negsuc a) x under xs ks k o m l = absurd k

    index_by : IsTyped i t → (b : Bool) (site n m a j : ℕ) (under xs : List ℤ) (ks : List Kind) → nat_lt j n ≡ b → n ≤ m → IsPlace t.words floor_cells (pos a) m
        → HasKinds t.words floor_cells under ks → Matches (fixed under ++ floor_cells) xs
        → Leads i t v.top.fn (c.regs.pc + 1) (Place 1 ∷ ks) v.top.opens
        → Goal (if b then pushes_number i.stack (c.regs.pc + 1) c.regs.fp xs (pos (a + j)) else Ends (Trapped trap.Index site))
    index_by ty true site n m a j under xs ks e q k o mt l =
        let live : IsLive t.words floor_cells (a + j) = k j (grind arith) in
        numbering_on ty under ks xs o mt (pos (a + j)) (Place 1) (small_word (a + j) (live_small (nat_lt (a + j) 65536) t.words floor_cells (a + j) refl ty.few live))
        (λ u r. subst (IsLive t.words floor_cells) (omega (arith, r)) live) l
    index_by ty false site n m a j under xs ks e q k o mt l = tt

    indexing : IsTyped i t → (site n m : ℕ) (k b : ℤ) (under xs : List ℤ) (ks : List Kind) → n ≤ m → HasKind t.words floor_cells b (Place m) → HasKinds t.words floor_cells under ks
        → Matches (fixed under ++ floor_cells) xs
        → Leads i t v.top.fn (c.regs.pc + 1) (Place 1 ∷ ks) v.top.opens
        → Goal (element i.stack site n (c.regs.pc + 1) c.regs.fp xs b (address k))
    indexing ty site n m (pos j) (pos a) under xs ks q k o mt l = index_by ty (nat_lt j n) site n m a j under xs ks refl q k o mt l
    indexing ty site n m (pos j) (negsuc a) under xs ks q k o mt l = absurd k
    indexing ty site n m (negsuc j) b under xs ks q k o mt l = tt

    computing : IsTyped i t → (site : ℕ) (r : Option ℤ) (under xs : List ℤ) (ks : List Kind) → HasKinds t.words floor_cells under ks → Matches (fixed under ++ floor_cells) xs
        → Leads i t v.top.fn (c.regs.pc + 1) (Number ∷ ks) v.top.opens
        → Goal (results i.stack site (c.regs.pc + 1) c.regs.fp xs r)
    computing ty site None under xs ks o m l = tt
    computing ty site (Some w) under xs ks o m l = pushing_on ty under ks xs o m w Number tt l

    jumping : IsTyped i t → (to : ℕ) (ops : List ℤ) (ks : List Kind) (stack : List ℤ) → Leads i t v.top.fn to ks v.top.opens → HasKinds t.words floor_cells ops ks
        → Matches (fixed ops ++ floor_cells) stack
        → Goal (jumps (length i.code) to c.regs.fp stack)
    jumping ty to ops ks stack l o m = check_is samples c kept _ _ (inside_code ty to ks v.top.opens l.0) (on_at to ops ks stack l o m)

    branching : IsTyped i t → (b : Bool) (to : ℕ) (ops : List ℤ) (ks : List Kind) (stack : List ℤ) → Leads i t v.top.fn to ks v.top.opens
        → Leads i t v.top.fn (c.regs.pc + 1) ks v.top.opens → HasKinds t.words floor_cells ops ks → Matches (fixed ops ++ floor_cells) stack
        → Goal (if b then jumps (length i.code) to c.regs.fp stack else moves (c.regs.pc + 1) c.regs.fp stack)
    branching ty true to ops ks stack l l' o m = jumping ty to ops ks stack l o m
    branching ty false to ops ks stack l l' o m = on_at (c.regs.pc + 1) ops ks stack l' o m

    sensing : (s : ℕ) (l : Leads i t v.top.fn (c.regs.pc + 1) (Number ∷ v.top.kinds) v.top.opens) (xs : List ℤ)
        → safe_sense xs (record { pc = c.regs.pc + 1; fp = c.regs.fp; stack = c.regs.stack }) c kept
    sensing s l [] = tt
    sensing s l (x ∷ xs) = on_at (c.regs.pc + 1) (x ∷ v.top.ops) (Number ∷ v.top.kinds) (x ∷ c.regs.stack) l (tt, v.good.ops) (refl, v.matches)

    commits : (d : ℕ) (to : Regs) (n : ℕ) → d ≡ suc n → Inv i t (core_at to n c.nv) → safe_commit d to samples c kept
    commits d to n e h = subst (λ m. safe_commit m to samples c kept) (sym e) h

    link_at : (s : ℕ) (z : ℤ) → level (slots_of t v.top.fn v.top.home) s ≡ Some None → level v.top.words s ≡ Some z → at_level c.regs.stack (c.regs.fp + s) ≡ Some z
    link_at s z e g =
        let r = slot_cell s None v.top.ops e in
        let f : Found (Fixed r.0) c.regs.stack (c.regs.fp + s) = find _ c.regs.stack (c.regs.fp + s) _ v.matches r.2 in
        let q : Some r.0 ≡ Some z = sym r.1 ∙ g in
        let same : r.0 ≡ z = (cc) in
        f.got ∙ ap Some (sym f.as' ∙ same)

    returning : v.top.fn ≢ t.main → (k : ℕ) → k ≡ v.top.home.params → (go : ℕ → ℕ → List ℤ → Next)
        → ((r : Caller v.top v.rest) (xs : List ℤ) → Matches (below i t (r.g ∷ r.gs)) xs → Goal (go r.g.pc (length (below i t r.gs)) xs))
        → Goal (returns k c.regs.fp c.regs.stack go)
    returning n k e go h =
        let r = caller v.top v.rest v.chain n in
        let k' : at_level c.regs.stack (c.regs.fp + k) ≡ Some (pos r.g.pc) =
        subst (λ j. at_level c.regs.stack (c.regs.fp + j) ≡ Some (pos r.g.pc)) (sym e) (link_at v.top.home.params (pos r.g.pc) r.called.none r.called.back) in
        let n' : c.regs.fp + (v.top.home.params + 1) ≡ c.regs.fp + k + 1 = omega (arith, e) in
        let l' : at_level c.regs.stack (c.regs.fp + k + 1) ≡ Some (pos (length (below i t r.gs))) =
        subst (λ j. at_level c.regs.stack j ≡ Some (pos (length (below i t r.gs)))) n' (link_at (v.top.home.params + 1) _ r.called.none' r.called.link) in
        let m : Matches (below i t v.rest) (drop (length c.regs.stack - length (below i t v.rest)) c.regs.stack) =
        drop_frame (fixed v.top.ops ++ own_cells i t v.top) (below i t v.rest) c.regs.stack
        (subst (λ cs. Matches cs c.regs.stack) (sym (append_assoc (fixed v.top.ops) (own_cells i t v.top) (below i t v.rest))) v.matches) in
        let m' : Matches (below i t v.rest) (drop (length c.regs.stack - c.regs.fp) c.regs.stack) =
        subst (λ j. Matches (below i t v.rest) (drop (length c.regs.stack - j) c.regs.stack)) (sym v.fp) m in
        on_is samples c kept _ _ _ (address_some _ _ k')
        (on_is samples c kept _ _ _ (address_some _ _ l') (h r _ (subst (λ fs. Matches (below i t fs) (drop (length c.regs.stack - c.regs.fp) c.regs.stack)) r.is m')))

    depth_back : (r : Caller v.top v.rest) → v.top.opens ≡ [] → c.depth ≡ length r.g.opens + depth_of i t r.gs
    depth_back r e =
        let a : length v.top.opens ≡ 0 = ap length e in
        let b : depth_of i t v.rest ≡ length r.g.opens + depth_of i t r.gs = ap (depth_of i t) r.is in
        omega (arith, a, b, v.depth)

    ret : v.top.fn ≢ t.main → (k : ℕ) → k ≡ v.top.home.params → v.top.opens ≡ [] → t.results v.top.fn ≡ false → Goal (goes_back k c.regs.fp c.regs.stack)
    ret n k e o b = returning n k e (λ pc fp rest. moves pc fp rest)
        (λ r xs m. resumed v.top r.g r.gs r.called r.chain r.g.ops r.g.kinds xs c.depth c.nv
        (subst (λ y. t.pairs r.g.pc ≡ Some (pair (result y r.g.kinds) r.g.opens)) b r.called.typed) r.called.good.ops m (depth_back r o) v.sized)

    retv : IsTyped i t → v.top.fn ≢ t.main → (k : ℕ) → k ≡ v.top.home.params → v.top.opens ≡ [] → t.results v.top.fn ≡ true → (w : ℤ) → Goal (goes_back_above i.stack k c.regs.fp c.regs.stack w)
    retv ty n k e o b w = returning n k e (λ pc fp rest. pushes i.stack pc fp rest w) (λ r xs m.
        let p : t.pairs r.g.pc ≡ Some (pair (Number ∷ r.g.kinds) r.g.opens) = subst (λ y. t.pairs r.g.pc ≡ Some (pair (result y r.g.kinds) r.g.opens)) b r.called.typed in
        let high = high_of ty r.g (below i t r.gs) r.called.good r.g.pc _ _ p r.called.here in
        let same : length (fixed r.g.ops ++ (own_cells i t r.g ++ below i t r.gs)) ≡ length xs = same_length _ xs m in
        let own : length (own_cells i t r.g) ≡ length r.g.words = cells_sized _ _ r.called.good.sized in
        let ks : length r.g.ops ≡ length r.g.kinds = kinds_sized _ _ _ _ r.called.good.ops in
        let room : length xs < i.stack = omega (
          arith,
          high,
          same,
          own,
          ks,
          r.called.good.framed,
          fixed_sized r.g.ops,
          length-append (fixed r.g.ops)
              (own_cells i t r.g ++ below i t r.gs),
          length-append (own_cells i t r.g) (below i t r.gs),
        ) in
        push_is samples c kept i.stack r.g.pc (length (below i t r.gs)) xs w room
        (resumed v.top r.g r.gs r.called r.chain (w ∷ r.g.ops) (Number ∷ r.g.kinds) (w ∷ xs) c.depth c.nv p (tt, r.called.good.ops) (refl, m) (depth_back r o) v.sized))

    call : IsTyped i t → (f : ℕ) (h : ImageFunction) (args rest : List Kind) (ops : List ℤ) → HasKinds t.words floor_cells ops (args ++ rest) → Matches (fixed ops ++ floor_cells) c.regs.stack
        → slice_get i.functions f ≡ Some h → f ≢ t.main → SuitAll args (t.kinds f)
        → Leads i t f h.entry [] [] → Leads i t v.top.fn (c.regs.pc + 1) (result (t.results f) rest) v.top.opens
        → (v.top.home.frame + length rest + t.bound f ≤ t.bound v.top.fn)
        → Goal (calls (length i.code) i.stack (c.regs.pc + 1) c.regs.fp c.regs.stack h.entry h.params h.frame)
    call ty f h args rest ops o m is nm suit entry back bound =
        let r = split_kinds t.words floor_cells ops args rest o in
        let sp = split r.front r.back floor_cells c.regs.stack (subst (λ l. Matches (fixed l ++ floor_cells) c.regs.stack) r.is m) in
        let sized = ty.sized f h is nm in
        let n : ℕ = h.frame - (h.params + 2) in
        let ws : List ℤ = replicate n (pos 0) ++ pos c.regs.fp ∷ (pos (c.regs.pc + 1) ∷ r.front) in
        let g : Frame = record { fn = v.top.fn; pc = c.regs.pc + 1; home = v.top.home; words = v.top.words; ops = r.back; kinds = rest; opens = v.top.opens } in
        let new : Frame = record { fn = f; pc = 0; home = h; words = ws; ops = []; kinds = []; opens = [] } in
        let front : length r.front ≡ h.params = kinds_sized _ _ _ _ r.fronts ∙ suits_sized args (t.kinds f) suit ∙ sized.1 in
        let under : length (fixed r.back ++ floor_cells) ≡ length sp.below = same_length _ _ sp.matches in
        let stack : length c.regs.stack ≡ length r.front + length sp.below = ap length sp.parts ∙ length-append r.front sp.below in
        let cells' : length (fixed r.back ++ floor_cells) ≡ length r.back + length floor_cells = length-append (fixed r.back) floor_cells ∙ omega (arith, fixed_sized r.back) in
        let kinds' : length r.back ≡ length rest = kinds_sized _ _ _ _ r.backs in
        let ne : (f == t.main) ≡ false = grind (arith, nm) in
        let SS : List (Option Kind) = replicate n (Some Number) ++ None ∷ (None ∷ map Some (t.kinds f)) in
        let is_slots : slots_of t f h ≡ SS = ap (λ b. slots_by b h (t.kinds f)) ne in
        let mapped : length (map Some (t.kinds f)) ≡ h.params = map_sized (t.kinds f) ∙ sized.1 in
        let long : length ws ≡ h.frame = zeros_sized n (pos 0) (pos c.regs.fp ∷ (pos (c.regs.pc + 1) ∷ r.front)) ∙ omega (arith, front, sized.0) in
        let long' : length (slots_of t f h) ≡ length ws = ap length is_slots ∙ zeros_sized n (Some Number) (None ∷ (None ∷ map Some (t.kinds f))) ∙ omega (arith, mapped, long, sized.0) in
        let places : SlotsAre t.words (fixed r.back ++ floor_cells) ws (slots_of t f h) =
        subst (SlotsAre t.words (fixed r.back ++ floor_cells) ws) (sym is_slots)
        (zero_slots n t.words _ _ _ (tt, (tt, suits_slots t.words (fixed r.back) floor_cells r.front args (t.kinds f) r.fronts suit))) in
        let matches : Matches (cells (slots_of t f h) ws ++ (fixed r.back ++ floor_cells)) (ws ++ sp.below) = cells_match (slots_of t f h) ws (fixed r.back ++ floor_cells) sp.below long' sp.matches in
        let same : ws ++ sp.below ≡ replicate n (pos 0) ++ pos c.regs.fp ∷ (pos (c.regs.pc + 1) ∷ c.regs.stack) =
        append_assoc (replicate n (pos 0)) (pos c.regs.fp ∷ (pos (c.regs.pc + 1) ∷ r.front)) sp.below ∙ ap (λ l. replicate n (pos 0) ++ pos c.regs.fp ∷ (pos (c.regs.pc + 1) ∷ l)) (sym sp.parts) in
        let fits : length (fixed r.back ++ floor_cells) + t.bound f ≤ i.stack = omega (arith, cells', kinds', bound, v.good.fits, floor_is, v.fp) in
        let good : Good i t new (fixed r.back ++ floor_cells) = record { is = is; sized = long'; framed = long; places = places; ops = tt; fits = fits } in
        let high = high_of ty new (fixed r.back ++ floor_cells) good h.entry [] [] entry.0 entry.1 in
        let backs : level ws h.params ≡ Some (pos (c.regs.pc + 1)) =
        subst (λ j. level ws j ≡ Some (pos (c.regs.pc + 1))) front (link_level (replicate n (pos 0)) (pos c.regs.fp) (pos (c.regs.pc + 1)) r.front) in
        let links : level ws (h.params + 1) ≡ Some (pos (length (below i t v.rest))) =
        subst (λ j. level ws (j + 1) ≡ Some (pos (length (below i t v.rest)))) front (link_level' (replicate n (pos 0)) (pos c.regs.fp) (pos (c.regs.pc + 1)) r.front
        ∙ ap (λ z. Some (pos z)) v.fp) in
        let none : level (slots_of t f h) h.params ≡ Some None =
        subst (λ l. level l h.params ≡ Some None) (sym is_slots) (subst (λ j. level SS j ≡ Some None) mapped (link_level (replicate n (Some Number)) None None (map Some (t.kinds f)))) in
        let none' : level (slots_of t f h) (h.params + 1) ≡ Some None =
        subst (λ l. level l (h.params + 1) ≡ Some None) (sym is_slots)
        (subst (λ j. level SS (j + 1) ≡ Some None) mapped (link_level' (replicate n (Some Number)) None None (map Some (t.kinds f)))) in
        let called : Called i t new g v.rest = record {
          here = back.1;
          no_main = nm;
          back = backs;
          link = links;
          none = none;
          none' = none';
          typed = back.0;
          good =
              record { is = v.good.is; sized = v.good.sized; framed = v.good.framed; places = v.good.places; ops = r.backs; fits = v.good.fits };
        } in
        let c1 : nat_le (c.regs.fp + h.params) (length c.regs.stack) ≡ true = grind (arith, stack, front, under, cells', floor_is) in
        let c3 : nat_le (h.params + 2) h.frame ≡ true = grind (arith, sized.0) in
        let c4 : nat_le (length c.regs.stack + (h.frame - h.params)) i.stack ≡ true = let u : length c.regs.stack + (h.frame - h.params) ≤ i.stack =
        omega (arith, stack, front, under, high, sized.0) in grind (arith, u) in
        check_is samples c kept _ _ c1 (check_is samples c kept _ _ c3 (check_is samples c kept _ _ c4 (check_is samples c kept _ _ (inside_code ty h.entry [] [] entry.0)
        (record {
          top = new;
          rest = g ∷ v.rest;
          here = entry.1;
          fp = omega (arith, stack, front, under);
          matches = subst (Matches (cells (slots_of t f h) ws ++ (fixed r.back ++ floor_cells))) same matches;
          typed = entry.0;
          good = good;
          chain = (called, moved_to_chain v.top (c.regs.pc + 1) r.back rest v.top.opens v.rest v.chain);
          depth = omega (arith, v.depth);
          sized = v.sized;
        }))))

    one : IsTyped i t → (site : ℕ) (x : Instr) → Fine i t x v.top.fn v.top.home c.regs.pc v.top.kinds v.top.opens → Goal (act i site x c.regs c.nv)
    one ty site (Push z) f = pushing ty z Number tt f
    one ty site (Load s) f = loading ty s f.0 f.1 f.2
    one ty site (Store s) f = storing s f.0 f.1 f.2 f.3
    one ty site (Jump to) f = jumping ty to v.top.ops v.top.kinds c.regs.stack f v.good.ops v.matches
    one ty site (Jfalse to) f = popping Number f.0 f.1 _ (λ w under xs q k o m. branching ty (int_eq w (pos 0)) to under f.0 xs f.2 f.3 o m)
    one ty site (Sense s) f =
        let room : length c.regs.stack < i.stack = roomy ty _ v.top.ops _ _ c.regs.stack f (ap suc (sym (kinds_sized _ _ _ _ v.good.ops))) v.matches in
        let fits : nat_lt (length c.regs.stack) i.stack ≡ true = grind (arith, room) in
        check_is samples c kept _ _ fits (sensing s f samples)
    one ty site (Enter r) f = stay (c.regs.pc + 1) v.top.ops v.top.kinds (r ∷ v.top.opens) c.regs.stack (suc c.depth) c.nv f v.good.ops v.matches (omega (arith, v.depth)) v.sized
    one ty site (Commit r) f =
        let d : c.depth ≡ suc (length f.0 + depth_of i t v.rest) = v.depth ∙ ap (λ l. length l + depth_of i t v.rest) f.1 ∙ omega arith in
        commits c.depth _ _ d (stay (c.regs.pc + 1) v.top.ops v.top.kinds f.0 c.regs.stack (length f.0 + depth_of i t v.rest) c.nv f.2 v.good.ops v.matches refl v.sized)
    one ty site Halt f = tt
    one ty site (Probe kind n) f = on_at (c.regs.pc + 1) v.top.ops v.top.kinds c.regs.stack f v.good.ops v.matches
    one ty site Drop f = popping Number f.0 f.1 _ (λ w under xs q k o m. on_at (c.regs.pc + 1) under f.0 xs f.2 o m)
    one ty site (Emit p) f = popping Number f.0 f.1 _ (λ w under xs q k o m. on_at (c.regs.pc + 1) under f.0 xs f.2 o m)
    one ty site (Nload n) f = let r = nv_word c.nv n (omega (arith, f.0, v.sized)) in on_is samples c kept _ r.0 _ r.1 (pushing ty r.0 Number tt f.1)
    one ty site (Nstore n) f = popping Number f.0 f.1 _ (λ w under xs q k o m.
        let short : n < t.words = f.2 in
        let fits : nat_lt n (length c.nv) ≡ true = grind (arith, short, v.sized) in
        check_is samples c kept _ _ fits (stay (c.regs.pc + 1) under f.0 v.top.opens xs c.depth (slice_set c.nv n w) f.3 o m v.depth (length-set c.nv n w ∙ v.sized)))
    one ty site (Addr s) f = addressing ty s f.0 f.1 f.2 f.3
    one ty site (Naddr n) f = naddressing ty n f.0 f.1
    one ty site Get f = popping (Place (suc f.0)) f.1 f.2 _ (λ w under xs q k o m. getting ty f.0 w under xs f.1 k o m f.3)
    one ty site Put f = popping_two (Place (suc f.0)) Number f.1 f.2 _ (λ w x under xs q k k' o m. putting f.0 w x under xs f.1 k o m f.3)
    one ty site (Index n) f = popping_two Number (Place f.0) f.1 f.2 _ (λ y b under xs q k k' o m. indexing ty site n f.0 y b under xs f.1 f.3 k' o m f.4)
    one ty site (Bin op) f = popping_two Number Number f.0 f.1 _ (λ y x under xs q k k' o m. computing ty site (binary_of op x y) under xs f.0 o m f.2)
    one ty site (Un op) f = popping Number f.0 f.1 _ (λ x under xs q k o m. pushing_on ty under f.0 xs o m (unary_of op x) Number tt f.2)
    one ty site (Call g) f =
        on_is samples c kept _ f.0 _ f.3 (call ty g f.0 f.1 f.2 v.top.ops (subst (HasKinds t.words floor_cells v.top.ops) f.5 v.good.ops) v.matches f.3 f.4 f.6 f.7 f.8 f.9)
    one ty site (Ret k) f = ret f.1 k f.0 f.2 f.3
    one ty site (Retv k) f = popping Number f.0 f.1 _ (λ w under xs q k' o m. retv ty f.3 k f.2 f.4 f.5 w)

    fine_here : (o fn : ℕ) (h g : ImageFunction) (x : Instr) → o ≡ fn → h ≡ g → Fine i t x o h c.regs.pc v.top.kinds v.top.opens → Fine i t x fn g c.regs.pc v.top.kinds v.top.opens
    fine_here o fn h g x e q f = subst (λ k. Fine i t x k g c.regs.pc v.top.kinds v.top.opens) e (subst (λ k. Fine i t x o k c.regs.pc v.top.kinds v.top.opens) q f)

    -- a step meets nothing undefined, and keeps the frames
    step : IsTyped i t → Goal (next_of i c.regs c.nv)
    step ty =
        let f = ty.each c.regs.pc (pair v.top.kinds v.top.opens) v.typed in
        let q : Some f.home ≡ Some v.top.home = sym f.is ∙ ap (slice_get i.functions) v.here ∙ v.good.is in
        let r : f.home ≡ v.top.home = (cc) in
        on_is samples c kept _ f.instr _ f.found
        (one ty f.instr.site f.instr.instr (fine_here _ _ _ _ f.instr.instr v.here r f.fine))

  more_sense : (go to : Aim) → ((s : List ℤ) (c : Core) → go s c → to s c) → (xs : List ℤ) (r : Regs) (c : Core) → safe_sense xs r c go → safe_sense xs r c to
  more_sense go to h [] r c s = tt
  more_sense go to h (x ∷ xs) r c s = h xs _ s

  more_commit : (go to : Aim) → ((s : List ℤ) (c : Core) → go s c → to s c) → (d : ℕ) (r : Regs) (xs : List ℤ) (c : Core) → safe_commit d r xs c go → safe_commit d r xs c to
  more_commit go to h zero r xs c s = s
  more_commit go to h (suc k) r xs c s = h xs _ s

  safe_more : (go to : Aim) → ((s : List ℤ) (c : Core) → go s c → to s c) → (n : Next) (xs : List ℤ) (c : Core) → safe_next n xs c go → safe_next n xs c to
  safe_more go to h (Goes r w v) xs c s = h xs _ s
  safe_more go to h (Senses x r) xs c s = more_sense go to h xs r c s
  safe_more go to h (Enters x r) xs c s = h xs _ s
  safe_more go to h (Commits x r) xs c s = more_commit go to h c.depth r xs c s
  safe_more go to h (Ends how) xs c s = tt
  safe_more go to h Stuck xs c s = s

  keeps : IsTyped i t → (n : ℕ) (samples : List ℤ) (c : Core) → Inv i t c → Safe (device_of i) n samples c
  keeps ty zero samples c v = tt
  keeps ty (suc n) samples c v = (stack_fits samples c v ty, safe_more (λ s c'. Inv i t c') (Safe (device_of i) n) (keeps ty n) (next_of i c.regs c.nv) samples c (step samples c v ty))

  zeros_are : (n words : ℕ) → SlotsAre words [] (replicate n (pos 0)) (replicate n (Some Number))
  zeros_are zero words = tt
  zeros_are (suc n) words = (tt, zeros_are n words)

  copies : {A : Type 0} (n : ℕ) (x : A) → length (replicate n x) ≡ n
  copies zero x = refl
  copies (suc n) x = ap suc (copies n x)

  -- where `main` begins
  begins : IsTyped i t → (g : ImageFunction) → slice_get i.functions t.main ≡ Some g → Inv i t (core_at (record { pc = g.entry; fp = 0; stack = replicate g.frame (pos 0) }) 0 (initial_words i.nv))
  begins ty g is =
      let e : Some ty.start.0 ≡ Some g = sym ty.start.1 ∙ is in
      let r : ty.start.0 ≡ g = (cc) in
      let entry : Leads i t t.main g.entry [] [] = subst (λ h. Leads i t t.main h.entry [] []) r ty.start.2 in
      let same : (t.main == t.main) ≡ true = grind arith in
      let s : slots_of t t.main g ≡ replicate g.frame (Some Number) = ap (λ b. slots_by b g (t.kinds t.main)) same in
      let long : length (slots_of t t.main g) ≡ length (replicate g.frame (pos 0)) = ap length s ∙ copies g.frame (Some Number) ∙ sym (copies g.frame (pos 0)) in
      let f : Frame = record { fn = t.main; pc = 0; home = g; words = replicate g.frame (pos 0); ops = []; kinds = []; opens = [] } in
      let m : Matches (cells (slots_of t t.main g) (replicate g.frame (pos 0)) ++ []) (replicate g.frame (pos 0) ++ []) = cells_match (slots_of t t.main g) (replicate g.frame (pos 0)) [] [] long tt in
      record {
        top = f;
        rest = [];
        here = entry.1;
        fp = refl;
        matches = subst (Matches (cells (slots_of t t.main g) (replicate g.frame (pos 0)) ++ [])) (append-nil (replicate g.frame (pos 0))) m;
        typed = entry.0;
        good = record {
          is = is;
          sized = long;
          framed = copies g.frame (pos 0);
          places =
              subst (SlotsAre t.words [] (replicate g.frame (pos 0))) (sym s) (zeros_are g.frame t.words);
          ops = tt;
          fits = omega (arith, ty.room);
        };
        chain = refl;
        depth = refl;
        sized = ty.words;
      }

  abbrev start_core : Option ImageFunction → Core
  start_core o = core_at (record { pc = entry_of o; fp = 0; stack = replicate (frame_of o) (pos 0) }) 0 (initial_words i.nv)

  pub sound : IsTyped i t → IsSound (device_of i)
  sound ty = record {
    safe = λ n samples w. keeps ty n samples (start_of (device_of i))
        (subst (λ o. Inv i t (start_core o)) (sym (ty.main ∙ ty.start.1)) (begins ty ty.start.0 ty.start.1));
  }
