-- The first fault of a reading is where the tokens stop to begin a program, or pass a depth.
use Rattle.std.proofs.Common.{◌≡◌, ℕ, zero, suc, ◌+◌, ◌-◌, ◌<◌, ◌≤◌, Bool, true, false, eqb, [], ◌∷◌, ◌++◌, length, Result, Ok, Err, refl, sym, ap, subst, ◌∙◌, arith, append_assoc}
use Rattle.std.proofs.Common.{append-nil, inl, inr, ◌⊎◌}
use Rattle.std.proofs.lemmas.Bool.{eqb-true, eqb-false}
use Rattle.std.proofs.lemmas.List.{length-append}
use Rattle.oc_tree.specs.Tree.{TProgram}
use Rattle.oc_lex.specs.declared.token.Mark.TheVariants as marks
use Rattle.oc_lex.specs.declared.token.Word.TheVariants as words
use Rattle.oc_grammar.specs.Limits.{Limits, the_depths, Depth, blocks_depth, brackets_depth, operators_depth, limit}
use Rattle.oc_grammar.specs.Lexemes.{Lexeme, Lexemes, keyword, sign, last_line}
use Rattle.oc_grammar.specs.Reading.{Fault, syntax_fault, depth_fault}
use Rattle.oc_grammar.specs.Programs.{empty_program, no_item}
use Rattle.oc_grammar.specs.ReadingPrograms.{items_at, program_at}
use Rattle.oc_grammar.specs.Depths.{BeginsWithin, BeginsProgram, Opens, curly, round, square, before_minus, before_not, between, PassesDepth, InDepth, IsDepth, IsSyntax, wrong, ended}
use Rattle.oc_grammar.proofs.ProgramLaws.{program_sound, program_read}
use Rattle.oc_grammar.proofs.Online.{Positive, is_curly, Online}
use Rattle.oc_grammar.proofs.TogetherExpressions.{Above, base, up, whole_good, call_args_good}
use Rattle.oc_grammar.proofs.TogetherPrograms.{programs, items_online}
use Rattle.oc_grammar.proofs.Outcomes.{left_of, Completes, within, never_at_end, reads_too, refuses_too, waits_too, deep_too, goes_on}

-- ---- limits beside limits

above_le : (a c : ℕ) → a ≤ c → Above (c - a) a c
above_le zero c h = let e : c ≡ c - 0 = omega arith in subst (λ (x : ℕ). Above (c - 0) 0 x) (sym e) base
above_le (suc a) zero h = absurd (omega arith)
above_le (suc a) (suc c) h = let e : c - a ≡ suc c - suc a = omega arith in up (subst (λ (x : ℕ). Above x a c) e (above_le a c (omega arith)))

abbrev gap_of : Limits → Limits → Depth → ℕ
gap_of small large d = limit d large - limit d small

abbrev Wider : Limits → Limits → Type 0
Wider small large = (d : Depth) → limit d small ≤ limit d large

together : (asks : Lexeme → Type 0) (small large : Limits) → Wider small large → Positive (gap_of small large brackets_depth) ⊎ ((line : ℕ) → asks (keyword line words.Sense) → ⊥)
    → Positive (gap_of small large blocks_depth) ⊎ ((t : Lexeme) → asks t → is_curly t ≡ true) → (k : ℕ) (p p' : TProgram)
    → Online (gap_of small large) asks programs true k (items_at small p 1 1) (items_at large p' 1 1)
together asks small large w sensible curly_only k p p' =
    let gap = gap_of small large in
    let spends = above_le small.operators large.operators (w operators_depth) in
    let brackets = above_le small.brackets large.brackets (w brackets_depth) in
    items_online (gap_of small large) asks small large (whole_good (gap_of small large) asks small large spends sensible brackets)
    (call_args_good (gap_of small large) asks small large spends sensible brackets) curly_only (above_le small.blocks large.blocks (w blocks_depth)) k p p' 1 1

no_asks : Lexeme → Type 0
no_asks t = ⊥

abbrev all_asks : Lexeme → Type 0
all_asks t = Unit {0}

-- where nothing is asked
quietly : (small large : Limits) → Wider small large → (k : ℕ) (p p' : TProgram) → Online (gap_of small large) no_asks programs true k (items_at small p 1 1) (items_at large p' 1 1)
unfolding no_asks
quietly small large w k p p' = together no_asks small large w (inr (λ line a. a)) (inr (λ t a. absurd a)) k p p'

raise : (small large : Limits) → Wider small large → (p p' : TProgram) (ts : Lexemes) (x : TProgram) → items_at small p 1 1 ts ≡ Ok x → (y : TProgram) × (items_at large p' 1 1 ts ≡ Ok y)
raise small large w p p' ts x e = reads_too (gap_of small large) no_asks programs true (quietly small large w (suc (length ts)) p p') ts (omega arith) x e

-- at least as deep as both
abbrev larger : ℕ → ℕ → ℕ
larger a b = a + (b - a)

abbrev both : Limits → Limits
both l = record { blocks = larger the_depths.blocks l.blocks; brackets = larger the_depths.brackets l.brackets; operators = larger the_depths.operators l.operators }

both_depths : (l : Limits) → Wider the_depths (both l)
both_depths l blocks_depth = omega arith
both_depths l brackets_depth = omega arith
both_depths l operators_depth = omega arith

both_limits : (l : Limits) → Wider l (both l)
both_limits l blocks_depth = omega arith
both_limits l brackets_depth = omega arith
both_limits l operators_depth = omega arith

both_same : (d : Depth) (l : Limits) → limit d l ≡ limit d the_depths → gap_of the_depths (both l) d ≡ 0
both_same blocks_depth l e = omega arith
both_same brackets_depth l e = omega arith
both_same operators_depth l e = omega arith

-- ---- what begins a program

same_program : (limits : Limits) (ts : Lexemes) → program_at limits ts ≡ items_at limits (empty_program (last_line ts)) 1 1 ts
unfolding program_at
same_program limits ts = refl

wide_self : (limits : Limits) → Wider limits limits
wide_self limits d = omega arith

begun : (limits : Limits) (p : TProgram) (front : Lexemes) (t : Lexeme) → Completes (λ more. items_at limits p 1 1 (front ++ t ∷ more)) → BeginsWithin limits (front ++ t ∷ [])
begun limits p front t c =
    let ts : Lexemes = (front ++ t ∷ []) ++ c.0 in
    let e : front ++ t ∷ c.0 ≡ ts = sym (append_assoc front (t ∷ []) c.0) in
    let h : items_at limits p 1 1 ts ≡ Ok c.1 = subst (λ (l : Lexemes). items_at limits p 1 1 l ≡ Ok c.1) e c.2 in
    let y = raise limits limits (wide_self limits) p (empty_program (last_line ts)) ts c.1 h in
    record { more = c.0; program = y.0; spelled = program_sound limits ts y.0 (same_program limits ts ∙ y.1) }

read_on : (limits : Limits) (p : TProgram) (front : Lexemes) (t : Lexeme) → BeginsWithin limits (front ++ t ∷ []) → Completes (λ more. items_at (both limits) p 1 1 (front ++ t ∷ more))
read_on limits p front t w =
    let ts : Lexemes = (front ++ t ∷ []) ++ w.more in
    let h : items_at limits (empty_program (last_line ts)) 1 1 ts ≡ Ok w.program = sym (same_program limits ts) ∙ program_read limits ts w.program w.spelled in
    let y = raise limits (both limits) (both_limits limits) (empty_program (last_line ts)) p ts w.program h in
    let e : ts ≡ front ++ t ∷ w.more = append_assoc front (t ∷ []) w.more in
    (w.more, y.0, subst (λ (l : Lexemes). items_at (both limits) p 1 1 l ≡ Ok y.0) e y.1)

-- no program begins so: what is refused is refused at every depth
no_such : (q : Lexemes → Result TProgram Fault) (more : Lexemes) (y : TProgram) (f : Fault) → q more ≡ Ok y → q more ≡ Err f → ⊥
no_such q more y f a e = let k : ◌≡◌ {A = Result TProgram Fault} (Ok y) (Err f) = sym a ∙ e in cc

refused_begins_not : (p : TProgram) (front : Lexemes) (t : Lexeme) (behind : Lexemes) → items_at the_depths p 1 1 (front ++ t ∷ behind) ≡ Err (syntax_fault (suc (length behind)))
    → BeginsProgram (front ++ t ∷ []) → ⊥
refused_begins_not p front t behind e b =
    let c = read_on b.limits p front t b.within in
    let h = refuses_too (gap_of the_depths (both b.limits)) no_asks programs true
    (quietly the_depths (both b.limits) (both_depths b.limits) (suc (length (front ++ t ∷ behind))) p p) front t behind c.0 (omega arith) e in
    no_such (λ more. items_at (both b.limits) p 1 1 (front ++ t ∷ more)) c.0 c.1 _ c.2 h

-- one more of each
abbrev one_more : Limits
one_more = record { blocks = 33; brackets = 34; operators = 256 }

more_depths : Wider the_depths one_more
more_depths blocks_depth = omega arith
more_depths brackets_depth = omega arith
more_depths operators_depth = omega arith

aloud : (k : ℕ) (p p' : TProgram) → Online (gap_of the_depths one_more) all_asks programs true k (items_at the_depths p 1 1) (items_at one_more p' 1 1)
aloud k p p' = together all_asks the_depths one_more more_depths (inl tt) (inl tt) k p p'

more_positive : (d : Depth) → Positive (gap_of the_depths one_more d)
more_positive blocks_depth = tt
more_positive brackets_depth = tt
more_positive operators_depth = tt

-- where reading stops later, the tokens begin a program
stops_later : (p : TProgram) (front : Lexemes) (t : Lexeme) (behind : Lexemes) (f : Fault) → items_at the_depths p 1 1 (front ++ t ∷ behind) ≡ Err f → left_of f ≤ length behind
    → BeginsProgram (front ++ t ∷ [])
stops_later p front t behind f e h =
    record {
      limits = one_more;
      within = begun one_more p front t (goes_on (gap_of the_depths one_more) all_asks programs true (aloud (suc (length (front ++ t ∷ behind))) p p) front t behind f (omega arith) e h tt);
    }

-- ---- tokens in front

record Split (ts : Lexemes) (m : ℕ) : Type 0 where
  front : Lexemes
  token : Lexeme
  behind : Lexemes
  is : ts ≡ front ++ token ∷ behind
  left : length behind ≡ m

below : (a m : ℕ) → m < suc a → (a ≡ m → ⊥) → m < a
below zero zero h ne = absurd (ne refl)
below zero (suc m) h ne = absurd (omega arith)
below (suc a) zero h ne = omega arith
below (suc a) (suc m) h ne = let g = below a m (omega arith) (λ e. ne (ap (λ (x : ℕ). suc x) e)) in omega arith

no_length : (ts : Lexemes) → length ts ≡ 0 → ts ≡ []
no_length [] e = refl
no_length (t ∷ ts) e = absurd (omega arith)

split : (ts : Lexemes) (m : ℕ) → m < length ts → Split ts m
split [] m h = absurd (omega arith)
split (t ∷ ts) m h = by_length (eqb (length ts) m) refl (λ g. split ts m g)
  where
    by_length : (b : Bool) → eqb (length ts) m ≡ b → (m < length ts → Split ts m) → Split (t ∷ ts) m
    by_length true e again = record { front = []; token = t; behind = ts; is = refl; left = eqb-true _ _ e }
    by_length false e again =
        let ne : length ts ≡ m → ⊥ = eqb-false (length ts) m e in
        let s = again (below (length ts) m h ne) in
        record { front = t ∷ s.front; token = s.token; behind = s.behind; is = ap (λ (l : Lexemes). t ∷ l) s.is; left = s.left }

empty_begins : BeginsProgram []
empty_begins = record { limits = the_depths; within = record { more = []; program = empty_program 1; spelled = no_item } }

front_begins : (p : TProgram) (front rest : Lexemes) (f : Fault) → items_at the_depths p 1 1 (front ++ rest) ≡ Err f → left_of f ≤ length rest → BeginsProgram front
front_begins p [] rest f e h = empty_begins
front_begins p (t ∷ front) rest f e h =
    let s = split (t ∷ front) 0 (omega arith) in
    let k : s.behind ≡ [] = no_length s.behind s.left in
    let i : t ∷ front ≡ s.front ++ s.token ∷ [] = s.is ∙ ap (λ (l : Lexemes). s.front ++ s.token ∷ l) k in
    let j : (t ∷ front) ++ rest ≡ s.front ++ s.token ∷ rest = ap (λ (l : Lexemes). l ++ rest) i ∙ append_assoc s.front (s.token ∷ []) rest in
    subst BeginsProgram (sym i) (stops_later p s.front s.token rest f (subst (λ (l : Lexemes). items_at the_depths p 1 1 l ≡ Err f) j e) h)

-- ---- depths that are passed

-- one more of each but this one
abbrev others : Depth → Limits
others blocks_depth = record { blocks = 32; brackets = 34; operators = 256 }
others brackets_depth = record { blocks = 33; brackets = 33; operators = 256 }
others operators_depth = record { blocks = 33; brackets = 34; operators = 255 }

abbrev is_bracket : Lexeme → Bool
is_bracket (sign line marks.OpenRound) = true
is_bracket (sign line marks.OpenSquare) = true
is_bracket (sign line marks.Minus) = true
is_bracket (sign line marks.Not) = true
is_bracket _ = false

abbrev Asked : Depth → Lexeme → Type 0
Asked blocks_depth t = is_curly t ≡ true
Asked brackets_depth t = is_bracket t ≡ true
Asked operators_depth t = Unit {0}

asked : (d : Depth) (t : Lexeme) → Opens d t → Asked d t
asked _ _ curly = refl
asked _ _ round = refl
asked _ _ square = refl
asked _ _ before_minus = refl
asked _ _ before_not = refl
asked _ _ (between e) = tt

others_wider : (d : Depth) → Wider the_depths (others d)
others_wider blocks_depth blocks_depth = omega arith
others_wider blocks_depth brackets_depth = omega arith
others_wider blocks_depth operators_depth = omega arith
others_wider brackets_depth blocks_depth = omega arith
others_wider brackets_depth brackets_depth = omega arith
others_wider brackets_depth operators_depth = omega arith
others_wider operators_depth blocks_depth = omega arith
others_wider operators_depth brackets_depth = omega arith
others_wider operators_depth operators_depth = omega arith

others_limit : (d : Depth) → limit d (others d) ≡ limit d the_depths
others_limit blocks_depth = refl
others_limit brackets_depth = refl
others_limit operators_depth = refl

asking : (d : Depth) (k : ℕ) (p p' : TProgram) → Online (gap_of the_depths (others d)) (Asked d) programs true k (items_at the_depths p 1 1) (items_at (others d) p' 1 1)
asking blocks_depth k p p' = together (Asked blocks_depth) the_depths (others blocks_depth) (others_wider blocks_depth) (inl tt) (inr (λ t a. a)) k p p'
asking brackets_depth k p p' = together (Asked brackets_depth) the_depths (others brackets_depth) (others_wider brackets_depth) (inr (λ line a. let e : false ≡ true = a in cc)) (inl tt) k p p'
asking operators_depth k p p' = together (Asked operators_depth) the_depths (others operators_depth) (others_wider operators_depth) (inl tt) (inl tt) k p p'

-- where reading stops later, no token before passed a depth
in_depth : (p : TProgram) (front rest : Lexemes) (f : Fault) → items_at the_depths p 1 1 (front ++ rest) ≡ Err f → left_of f ≤ length rest → InDepth front
in_depth p front rest f e h d a t b i passes =
    let j : front ++ rest ≡ a ++ t ∷ (b ++ rest) = ap (λ (l : Lexemes). l ++ rest) i ∙ append_assoc a (t ∷ b) rest in
    let l = length-append b rest in
    let c = goes_on (gap_of the_depths (others d)) (Asked d) programs true (asking d (suc (length (a ++ t ∷ (b ++ rest)))) p p) a t (b ++ rest) f (omega arith)
    (subst (λ (z : Lexemes). items_at the_depths p 1 1 z ≡ Err f) j e) (omega arith) (asked d t passes.opens) in
    passes.passed (others d) (others_limit d) (begun (others d) p a t c)

whole_there : (d : Depth) (front : Lexemes) (t : Lexeme) (p : TProgram)
    → ((Positive (gap_of the_depths one_more d) → ⊥) × ((more : Lexemes) → items_at one_more p 1 1 (front ++ t ∷ more) ≡ Err (depth_fault d (suc (length more))))) ⊎
    (Positive (gap_of the_depths one_more d) × (all_asks t → Completes (λ more. items_at one_more p 1 1 (front ++ t ∷ more)))) → Completes (λ more. items_at one_more p 1 1 (front ++ t ∷ more))
whole_there d front t p (inl h) = absurd (h.0 (more_positive d))
whole_there d front t p (inr h) = h.1 tt

passed_there : (d : Depth) (l : Limits) → limit d l ≡ limit d the_depths → (front : Lexemes) (t : Lexeme) (p : TProgram)
    → Completes (λ more. items_at (both l) p 1 1 (front ++ t ∷ more))
    → ((Positive (gap_of the_depths (both l) d) → ⊥) × ((more : Lexemes) → items_at (both l) p 1 1 (front ++ t ∷ more) ≡ Err (depth_fault d (suc (length more))))) ⊎
    (Positive (gap_of the_depths (both l) d) × (no_asks t → Completes (λ more. items_at (both l) p 1 1 (front ++ t ∷ more)))) → ⊥
passed_there d l k front t p c (inl h) = no_such (λ more. items_at (both l) p 1 1 (front ++ t ∷ more)) c.0 c.1 _ c.2 (h.1 c.0)
passed_there d l k front t p c (inr h) = subst Positive (both_same d l k) h.0

deep_passes : (p : TProgram) (front : Lexemes) (t : Lexeme) (behind : Lexemes) (d : Depth) → items_at the_depths p 1 1 (front ++ t ∷ behind)
    ≡ Err (depth_fault d (suc (length behind))) → PassesDepth d front t
deep_passes p front t behind d e =
    let n : ℕ = suc (length (front ++ t ∷ behind)) in
    let deep = deep_too (gap_of the_depths one_more) all_asks programs true (aloud n p p) front t behind d (omega arith) e in
    record {
      opens = deep.0;
      begins = record { limits = one_more; within = begun one_more p front t (whole_there d front t p deep.1) };
      passed = λ l k w.
          let c = read_on l p front t w in
          let again = deep_too (gap_of the_depths (both l)) no_asks programs true (quietly the_depths (both l) (both_depths l) n p p) front t behind d (omega arith) e in
          passed_there d l k front t p c again.1;
    }

-- ---- the first fault

fault_place : (ts : Lexemes) (p : TProgram) (f : Fault) → items_at the_depths p 1 1 ts ≡ Err f → left_of f ≤ length ts
fault_place ts p f e = within (gap_of the_depths the_depths) no_asks programs true (quietly the_depths the_depths (wide_self the_depths) (suc (length ts)) p p) ts (omega arith) f e

wrong_there : (ts : Lexemes) (p : TProgram) (m : ℕ) → items_at the_depths p 1 1 ts ≡ Err (syntax_fault (suc m)) → IsSyntax ts (length ts - suc m)
wrong_there ts p m e =
    let h = fault_place ts p (syntax_fault (suc m)) e in
    let s = split ts m (omega arith) in
    let e' : items_at the_depths p 1 1 (s.front ++ s.token ∷ s.behind) ≡ Err (syntax_fault (suc (length s.behind))) =
    subst (λ (l : Lexemes). items_at the_depths p 1 1 l ≡ Err (syntax_fault (suc (length s.behind)))) s.is (rw s.left e) in
    let g = length-append s.front (s.token ∷ s.behind) in
    let k : length ts ≡ length (s.front ++ s.token ∷ s.behind) = ap (λ (l : Lexemes). length l) s.is in
    let left = s.left in
    wrong s.front s.token s.behind s.is (omega arith) (in_depth p s.front (s.token ∷ s.behind) _ e' (omega arith)) (front_begins p s.front (s.token ∷ s.behind) _ e' (omega arith))
    (refused_begins_not p s.front s.token s.behind e')

ended_there : (ts : Lexemes) (p : TProgram) → items_at the_depths p 1 1 ts ≡ Err (syntax_fault 0) → IsSyntax ts (length ts - 0)
ended_there ts p e =
    let e' : items_at the_depths p 1 1 (ts ++ []) ≡ Err (syntax_fault 0) = rw (append-nil ts) e in
    ended (omega arith) (in_depth p ts [] _ e' (omega arith)) (front_begins p ts [] _ e' (omega arith)) (λ l q d.
    let h : items_at l (empty_program (last_line ts)) 1 1 ts ≡ Ok q = sym (same_program l ts) ∙ program_read l ts q d in
    let y = raise l (both l) (both_limits l) (empty_program (last_line ts)) p ts q h in
    let g = waits_too (gap_of the_depths (both l)) no_asks programs true (quietly the_depths (both l) (both_depths l) (suc (length ts)) p p) ts (omega arith) e in
    no_such (λ us. items_at (both l) p 1 1 us) ts y.0 _ y.1 g)

deep_there : (ts : Lexemes) (p : TProgram) (d : Depth) (m : ℕ) → items_at the_depths p 1 1 ts ≡ Err (depth_fault d (suc m)) → IsDepth ts (length ts - suc m)
deep_there ts p d m e =
    let h = fault_place ts p (depth_fault d (suc m)) e in
    let s = split ts m (omega arith) in
    let e' : items_at the_depths p 1 1 (s.front ++ s.token ∷ s.behind) ≡ Err (depth_fault d (suc (length s.behind))) =
    subst (λ (l : Lexemes). items_at the_depths p 1 1 l ≡ Err (depth_fault d (suc (length s.behind)))) s.is (rw s.left e) in
    let g = length-append s.front (s.token ∷ s.behind) in
    let k : length ts ≡ length (s.front ++ s.token ∷ s.behind) = ap (λ (l : Lexemes). length l) s.is in
    let left = s.left in
    record {
      front = s.front;
      token = s.token;
      behind = s.behind;
      split = s.is;
      place = omega arith;
      depth = d;
      passes = deep_passes p s.front s.token s.behind d e';
      first = in_depth p s.front (s.token ∷ s.behind) _ e' (omega arith);
    }

-- a reading's fault is that of the tokens
pub syntax_there : (ts : Lexemes) (n : ℕ) → program_at the_depths ts ≡ Err (syntax_fault n) → IsSyntax ts (length ts - n)
syntax_there ts zero e = ended_there ts (empty_program (last_line ts)) (sym (same_program the_depths ts) ∙ e)
syntax_there ts (suc m) e = wrong_there ts (empty_program (last_line ts)) m (sym (same_program the_depths ts) ∙ e)

pub depth_there : (ts : Lexemes) (d : Depth) (n : ℕ) → program_at the_depths ts ≡ Err (depth_fault d n) → IsDepth ts (length ts - n)
depth_there ts d zero e =
    let p = empty_program (last_line ts) in
    absurd (never_at_end (gap_of the_depths the_depths) no_asks programs true (quietly the_depths the_depths (wide_self the_depths) (suc (length ts)) p p) ts (omega arith) d
    (sym (same_program the_depths ts) ∙ e))
depth_there ts d (suc m) e = deep_there ts (empty_program (last_line ts)) d m (sym (same_program the_depths ts) ∙ e)
