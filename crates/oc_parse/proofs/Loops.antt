-- The loops of the code, one turn at a time.
use Rattle.std.proofs.Common.{◌≡◌, ℕ, zero, suc, ◌+◌, ◌-◌, ◌<◌, ◌≤◌, List, [], ◌∷◌, ◌++◌, length, Option, Some, None, Bool, false, Result, Ok, Err, refl, sym, ap, subst, ◌∙◌, arith, append_assoc}
use Rattle.std.specs.Prelude.{is_some, MatchResult}
use Rattle.std.proofs.lemmas.List.{append-nil}
use Rattle.oc_tree.specs.Names.{Text}
use Rattle.oc_tree.specs.Tree.{TExpr, index, unary, binary, value}
use Rattle.oc_tree.specs.View.{expr_view}
use Rattle.oc_tree.specs.declared.tree.Expr.{Expr}
use Rattle.oc_tree.specs.declared.tree.UnaryOp.{UnaryOp}
use Rattle.oc_tree.specs.declared.tree.BinaryOp.{BinaryOp}
use Rattle.oc_lex.specs.declared.token.Mark.TheVariants as marks
use Rattle.oc_lex.specs.declared.token.Word.TheVariants as words
use Rattle.oc_grammar.specs.Limits.{the_depths}
use Rattle.oc_grammar.specs.Lexemes.{Lexemes}
use Rattle.oc_grammar.specs.Reading.{Fault, Read, ◌>>=◌, strip_mark, expect_mark, name_at, take_word, operator_front}
use Rattle.oc_grammar.specs.ReadingExpressions.{ReadExpr, prefix_by, element_by, prefixed_at, inner_at, spend_at, chain, levels, unary_here, level_at, reference, part_at, arg_at, args_at}
use Rattle.oc_grammar.proofs.FrontLaws.{bind_ok, ok_is}
use Rattle.oc_grammar.proofs.ListLaws.{Shortens, listed_at, behind, listed_turn, listed_closed}
use Rattle.oc_grammar.proofs.UnaryLaws.{unary_is, prefixed_is}
use Rattle.oc_grammar.proofs.ExpressionLaws.{arg_shorter, spent}
use Rattle.oc_grammar.proofs.ExpressionsRead.{chain_turn, chain_stopped, no_front}
use Rattle.oc_parse.specs.declared.stop.Stop.{Stop}
use Rattle.oc_parse.specs.declared.stop.Stop.TheVariants as stops
use Rattle.oc_parse.specs.Parts.{operations_at, operand_at, operation_at, enclosed_at, after}
use Rattle.oc_parse.specs.Steps.{Reads, ReadsOver, ReadsExpr, Stopped, infix_front}

-- ---- where reading stops

pub stopped_bind : {A B : Type 0} (s : Stop) (r : Result A Fault) (f : A → Result B Fault) → Stopped s r → Stopped s (r >>= f)
stopped_bind stops.Memory r f h = tt
stopped_bind (stops.Syntax n) r f h = rw h refl
stopped_bind (stops.Blocks n) r f h = rw h refl
stopped_bind (stops.Brackets n) r f h = rw h refl
stopped_bind (stops.Operators n) r f h = rw h refl

pub stopped_along : {A : Type 0} (s : Stop) (a b : Result A Fault) → a ≡ b → Stopped s a → Stopped s b
stopped_along s a b e h = subst (λ (r : Result _ Fault). Stopped s r) e h

-- what goes on behind a part that is read in two
pub binds : {A B C : Type 0} (r : Result A Fault) (f : A → Result B Fault) (g : B → Result C Fault) (h : A → Result C Fault) → ((x : A) → (f x >>= g) ≡ h x)
    → ((r >>= f) >>= g) ≡ (r >>= h)
binds (Ok x) f g h e = e x
binds (Err d) f g h e = refl

-- ---- trees for which there may be no memory

pub made : (r : Result Expr Stop) (e : TExpr) (n : ℕ) (rest : Lexemes) (read : ReadExpr) → read ≡ Ok (e, n, rest) → MatchResult r (λ x. expr_view x ≡ e) (λ s. s ≡ stops.Memory)
    → ReadsExpr expr_view r n rest read
made (Ok x) e n rest read h is = rw is h
made (Err s) e n rest read h is = rw is tt

-- ---- things with commas between them

after_more : {A : Type 0} (front : List A) (x : A) (read : Read (List A)) → after front (read >>= λ xs. Ok (x ∷ xs.0, xs.1)) ≡ after (front ++ x ∷ []) read
after_more front x (Ok y) = ap (λ (l : List _). Ok (l, y.1)) (sym (append_assoc front (x ∷ []) y.0))
after_more front x (Err f) = refl

pub list_goes_on : {A : Type 0} (part : Lexemes → Read A) → Shortens part → (front : List A) (ts : Lexemes) (x : A) (us vs : Lexemes) (total : Read (List A))
    → strip_mark marks.CloseRound ts ≡ None → part ts ≡ Ok (x, us) → strip_mark marks.Comma us ≡ Some vs → after front (listed_at part ts) ≡ total → after (front ++ x ∷ []) (listed_at part vs) ≡ total
list_goes_on part short front ts x us vs total none e comma so_far =
    let turn : listed_at part ts ≡ (listed_at part vs >>= λ xs. Ok (x ∷ xs.0, xs.1)) = listed_turn part short ts none ∙ rw (e, comma) refl in
    sym (ap (λ (r : Read (List _)). after front r) turn ∙ after_more front x (listed_at part vs)) ∙ so_far

pub list_ends : {A : Type 0} (part : Lexemes → Read A) → Shortens part → (front : List A) (ts : Lexemes) (x : A) (us vs : Lexemes) (total : Read (List A))
    → strip_mark marks.CloseRound ts ≡ None → part ts ≡ Ok (x, us) → strip_mark marks.Comma us ≡ None → expect_mark marks.CloseRound us ≡ Ok vs → after front (listed_at part ts)
    ≡ total → total ≡ Ok (front ++ x ∷ [], vs)
list_ends part short front ts x us vs total none e comma close so_far =
    let turn : listed_at part ts ≡ Ok (x ∷ [], vs) = listed_turn part short ts none ∙ rw (e, comma, close) refl in
    sym so_far ∙ ap (λ (r : Read (List _)). after front r) turn

pub list_closes : {A : Type 0} (part : Lexemes → Read A) (front : List A) (ts us : Lexemes) (total : Read (List A)) → strip_mark marks.CloseRound ts ≡ Some us
    → after front (listed_at part ts) ≡ total → total ≡ Ok (front, us)
list_closes part front ts us total e so_far =
    sym so_far ∙ ap (λ (r : Read (List _)). after front r) (listed_closed part ts us e) ∙ ap (λ (l : List _). Ok (l, us)) (append-nil front)

pub list_stops : {A : Type 0} (part : Lexemes → Read A) → Shortens part → (front : List A) (ts : Lexemes) (s : Stop) (total : Read (List A)) → strip_mark marks.CloseRound ts ≡ None
    → Stopped s (part ts) → after front (listed_at part ts) ≡ total → Stopped s total
list_stops part short front ts s total none h so_far =
    stopped_along s _ total (sym (ap (λ (r : Read (List _)). after front r) (listed_turn part short ts none)) ∙ so_far)
    (stopped_bind s (part ts >>= behind (listed_at part)) _ (stopped_bind s (part ts) (behind (listed_at part)) h))

pub list_close_stops : {A : Type 0} (part : Lexemes → Read A) → Shortens part → (front : List A) (ts : Lexemes) (x : A) (us : Lexemes) (s : Stop) (total : Read (List A))
    → strip_mark marks.CloseRound ts ≡ None → part ts ≡ Ok (x, us) → strip_mark marks.Comma us ≡ None → Stopped s (expect_mark marks.CloseRound us)
    → after front (listed_at part ts) ≡ total → Stopped s total
list_close_stops part short front ts x us s total none e comma h so_far =
    let turn : listed_at part ts ≡ (expect_mark marks.CloseRound us >>= λ vs. Ok (x ∷ [], vs)) = listed_turn part short ts none ∙ rw (e, comma) refl in
    stopped_along s _ total (sym (ap (λ (r : Read (List _)). after front r) turn) ∙ so_far)
    (stopped_bind s (expect_mark marks.CloseRound us >>= λ vs. Ok (x ∷ [], vs)) _ (stopped_bind s (expect_mark marks.CloseRound us) _ h))

pub list_last : {A U : Type 0} (r : Result U Stop) (part : Lexemes → Read A) → Shortens part → (front : List A) (ts : Lexemes) (x : A) (us vs : Lexemes) (total : Read (List A))
    → strip_mark marks.CloseRound ts ≡ None → part ts ≡ Ok (x, us) → strip_mark marks.Comma us ≡ None → ReadsOver r vs (expect_mark marks.CloseRound us)
    → after front (listed_at part ts) ≡ total → Reads (λ u. front ++ x ∷ []) r vs total
list_last (Ok u) part short front ts x us vs total none e comma h so_far = list_ends part short front ts x us vs total none e comma h so_far
list_last (Err s) part short front ts x us vs total none e comma h so_far = list_close_stops part short front ts x us s total none e comma h so_far

after_none : {A : Type 0} (read : Read (List A)) → after [] read ≡ read
after_none (Ok x) = refl
after_none (Err f) = refl

-- where nothing was read before
pub alone : {A : Type 0} (front : List A) (read : Read (List A)) → front ≡ [] → after front read ≡ read
alone front read e = ap (λ (l : List _). after l read) e ∙ after_none read

-- ---- arguments

pub args_are : (room : ℕ) (ts : Lexemes) → args_at the_depths room ts ≡ listed_at (arg_at the_depths room) ts
unfolding args_at arg_at
args_are room ts = refl

pub args_shorten : (room : ℕ) → Shortens (arg_at the_depths room)
unfolding arg_at
args_shorten room = arg_shorter the_depths room

pub value_read : (room : ℕ) (ts : Lexemes) (e : TExpr) (us : Lexemes) → strip_mark marks.Ampersand ts ≡ None → part_at the_depths room ts ≡ Ok (e, us)
    → arg_at the_depths room ts ≡ Ok (value e, us)
unfolding arg_at part_at
value_read room ts e us n h = rw (n, h) refl

pub reference_read : (room : ℕ) (ts us : Lexemes) (m : Bool) (vs : Lexemes) (x : Text) (ws : Lexemes) → strip_mark marks.Ampersand ts ≡ Some us → (m, vs) ≡ take_word words.Mutable us
    → name_at vs ≡ Ok (x, ws) → arg_at the_depths room ts ≡ Ok (reference m x, ws)
unfolding arg_at
reference_read room ts us m vs x ws n w h = rw (n, sym w, h) refl

-- ---- operators of one level

pub level_zero : (level room n : ℕ) (ts : Lexemes) → level ≡ 0 → level_at the_depths level room n ts ≡ unary_here the_depths room n ts
unfolding levels
level_zero zero room n ts e = unary_is the_depths room n ts
level_zero (suc level) room n ts e = absurd (omega arith)

level_onward : (level room n : ℕ) (ts : Lexemes) (e : TExpr) (m : ℕ) (us : Lexemes) → level_at the_depths level room n ts ≡ Ok (e, m, us)
    → level_at the_depths (level + 1) room n ts ≡ operations_at (level + 1) room e m us
unfolding levels
level_onward level room n ts e m us h =
    let s : level + 1 ≡ suc level = omega arith in
    let p : suc level - 1 ≡ level = omega arith in
    let same : level_at the_depths (suc level) room n ts ≡ operations_at (suc level) room e m us = rw (p, h) refl in
    subst (λ (k : ℕ). level_at the_depths k room n ts ≡ operations_at k room e m us) (sym s) same

level_up : (level room n : ℕ) (ts : Lexemes) (s : Stop) → Stopped s (level_at the_depths level room n ts) → Stopped s (level_at the_depths (suc level) room n ts)
unfolding levels
level_up level room n ts s h = stopped_bind s (level_at the_depths level room n ts) _ h

pub none_is : {A : Type 0} (o : Option A) → is_some o ≡ false → o ≡ None
none_is None e = refl
none_is (Some x) e = absurd cc

none_stands : (level : ℕ) (ts : Lexemes) → infix_front ts ≡ None → operator_front level ts ≡ None
unfolding infix_front operator_front
none_stands level [] h = refl
none_stands level (t ∷ ts) h = rw h refl

-- an operand behind an operator and its first operand
abbrev with_operand : BinaryOp → TExpr → TExpr × ℕ × Lexemes → ReadExpr
with_operand op e x = Ok (binary op e x.0, x.1, x.2)

-- a part that gives an operand, and what goes on behind the operation
then_on : (s : Result ℕ Fault) (part : ℕ → ReadExpr) (op : BinaryOp) (e : TExpr) (f : TExpr → ℕ → Lexemes → ReadExpr)
    → (s >>= λ m. part m >>= λ x. f (binary op e x.0) x.1 x.2) ≡ (((s >>= part) >>= with_operand op e) >>= λ y. f y.0 y.1 y.2)
then_on (Err d) part op e f = refl
then_on (Ok m) part op e f = by (part m)
  where
    by : (r : ReadExpr) → (r >>= λ x. f (binary op e x.0) x.1 x.2) ≡ ((r >>= with_operand op e) >>= λ y. f y.0 y.1 y.2)
    by (Ok x) = refl
    by (Err d) = refl

chain_here : (level room : ℕ) (e : TExpr) (n : ℕ) (ts : Lexemes) (op : BinaryOp) (mid : Lexemes) → operator_front level ts ≡ Some (op, mid)
    → (k : ℕ) × (chain level (level_at the_depths (level - 1) room) (length ts) e n ts
    ≡ (operation_at level room op e n mid >>= λ y. chain level (level_at the_depths (level - 1) room) k y.0 y.1 y.2))
unfolding chain operand_at operation_at
chain_here level room e n [] op mid o = absurd (no_front level (op, mid) o)
chain_here level room e n (t ∷ ts) op mid o =
    let below : ℕ → Lexemes → ReadExpr = level_at the_depths (level - 1) room in
    (length ts, rw o (then_on (spend_at n mid) (λ m. below m mid) op e (λ x m us. chain level below (length ts) x m us)))

level_turn : (room level : ℕ) (e : TExpr) (n : ℕ) (ts : Lexemes) (op : BinaryOp) (mid : Lexemes) (m : ℕ) (r : TExpr) (k : ℕ) (rest : Lexemes) → 0 < level
    → operator_front level ts ≡ Some (op, mid) → spend_at n mid ≡ Ok m → level_at the_depths (level - 1) room m mid ≡ Ok (r, k, rest)
    → chain level (level_at the_depths (level - 1) room) (length ts) e n ts ≡ chain level (level_at the_depths (level - 1) room) (length rest) (binary op e r) k rest
level_turn room zero e n ts op mid m r k rest h o s p = absurd (omega arith)
level_turn room (suc level) e n ts op mid m r k rest h o s p =
    let q : suc level - 1 ≡ level = omega arith in
    let p' : level_at the_depths level room m mid ≡ Ok (r, k, rest) = rw q at p in
    rw (q, spent n mid m s) (chain_turn the_depths room level e m op ts mid (r, k, rest) o p')

pub operation_turn : (room level : ℕ) (e : TExpr) (n : ℕ) (ts : Lexemes) (op : BinaryOp) (mid : Lexemes) (y : TExpr × ℕ × Lexemes) → 0 < level
    → operator_front level ts ≡ Some (op, mid) → operation_at level room op e n mid ≡ Ok y
    → chain level (level_at the_depths (level - 1) room) (length ts) e n ts ≡ chain level (level_at the_depths (level - 1) room) (length y.2) y.0 y.1 y.2
unfolding operand_at operation_at
operation_turn room level e n ts op mid y h o p =
    let below : ℕ → Lexemes → ReadExpr = level_at the_depths (level - 1) room in
    let x = bind_ok (operand_at level room n mid) (λ x. Ok (binary op e x.0, x.1, x.2)) y p in
    let m = bind_ok (spend_at n mid) (λ m. below m mid) x.0 x.1 in
    level_turn room level e n ts op mid m.0 x.0.0 x.0.1 x.0.2 h o m.1 m.2
    ∙ ap (λ (z : TExpr × ℕ × Lexemes). chain level below (length z.2) z.0 z.1 z.2) (ok_is (binary op e x.0.0, x.0.1, x.0.2) y x.2)

pub turn_stops : (level room : ℕ) (e : TExpr) (n : ℕ) (ts : Lexemes) (op : BinaryOp) (mid : Lexemes) (s : Stop) (total : ReadExpr)
    → operator_front level ts ≡ Some (op, mid) → Stopped s (operation_at level room op e n mid) → chain level (level_at the_depths (level - 1) room) (length ts) e n ts ≡ total
    → Stopped s total
turn_stops level room e n ts op mid s total o h so_far =
    let c = chain_here level room e n ts op mid o in
    stopped_along s _ total (sym c.1 ∙ so_far) (stopped_bind s (operation_at level room op e n mid) _ h)

-- ---- the operand of an operator

pub spend_stops : (level room n : ℕ) (ts : Lexemes) (s : Stop) → Stopped s (spend_at n ts) → Stopped s (operand_at level room n ts)
unfolding operand_at
spend_stops level room n ts s h = stopped_bind s (spend_at n ts) _ h

pub operand_is : (level room n : ℕ) (ts : Lexemes) (m : ℕ) → spend_at n ts ≡ Ok m → operand_at level room n ts ≡ level_at the_depths (level - 1) room m ts
unfolding operand_at
operand_is level room n ts m h = rw h refl

pub operand_stops : (level room : ℕ) (op : BinaryOp) (e : TExpr) (n : ℕ) (ts : Lexemes) (s : Stop) → Stopped s (operand_at level room n ts) → Stopped s (operation_at level room op e n ts)
unfolding operation_at
operand_stops level room op e n ts s h = stopped_bind s (operand_at level room n ts) _ h

pub operation_is : (level room : ℕ) (op : BinaryOp) (e : TExpr) (n : ℕ) (ts : Lexemes) (r : TExpr) (m : ℕ) (us : Lexemes) → operand_at level room n ts ≡ Ok (r, m, us)
    → operation_at level room op e n ts ≡ Ok (binary op e r, m, us)
unfolding operation_at
operation_is level room op e n ts r m us h = rw h refl

pub comparison_is : (room : ℕ) (e : TExpr) (n : ℕ) (ts : Lexemes) (op : BinaryOp) (mid : Lexemes) → operator_front 3 ts ≡ Some (op, mid)
    → operations_at 3 room e n ts ≡ operation_at 3 room op e n mid
unfolding chain operand_at operation_at
comparison_is room e n ts op mid o =
    rw o (sym (binds (spend_at n mid) (λ m. level_at the_depths 2 room m mid) (λ x. Ok (binary op e x.0, x.1, x.2))
    (λ m. level_at the_depths 2 room m mid >>= λ x. Ok (binary op e x.0, x.1, x.2)) (λ m. refl)))

pub level_ends : (level : ℕ) (part : ℕ → Lexemes → ReadExpr) (e : TExpr) (n : ℕ) (ts : Lexemes) → operator_front level ts ≡ None → chain level part (length ts) e n ts ≡ Ok (e, n, ts)
level_ends level part e n ts h = chain_stopped level part (length ts) e n ts h

-- what is read of a level is read of the level above, with the operators behind it
pub level_more : (level room n : ℕ) (ts : Lexemes) (e : TExpr) (m : ℕ) (us : Lexemes) (y : TExpr × ℕ × Lexemes) → level_at the_depths level room n ts ≡ Ok (e, m, us)
    → operations_at (level + 1) room e m us ≡ Ok y → level_at the_depths (level + 1) room n ts ≡ Ok y
level_more level room n ts e m us y h g = level_onward level room n ts e m us h ∙ g

-- with no operator in front, a reading of a level is one of each level above
pub level_alone : (level low room n : ℕ) (ts : Lexemes) (e : TExpr) (m : ℕ) (us : Lexemes) → low ≤ level → infix_front us ≡ None
    → level_at the_depths low room n ts ≡ Ok (e, m, us) → level_at the_depths level room n ts ≡ Ok (e, m, us)
level_alone level low room n ts e m us l none h =
    let s : (level - low) + low ≡ level = omega (arith, l) in
    subst (λ (k : ℕ). level_at the_depths k room n ts ≡ Ok (e, m, us)) s (by_more (level - low))
  where
    by_more : (k : ℕ) → level_at the_depths (k + low) room n ts ≡ Ok (e, m, us)
    by_more zero = let z : low ≡ 0 + low = omega arith in subst (λ (j : ℕ). level_at the_depths j room n ts ≡ Ok (e, m, us)) z h
    by_more (suc k) =
        let s : (k + low) + 1 ≡ suc k + low = omega arith in
        subst (λ (j : ℕ). level_at the_depths j room n ts ≡ Ok (e, m, us)) s
        (level_more (k + low) room n ts e m us (e, m, us) (by_more k) (chain_stopped ((k + low) + 1) _ _ e m us (none_stands ((k + low) + 1) us none)))

-- where a unary stops, all levels do
pub levels_unread : (level room n : ℕ) (ts : Lexemes) (s : Stop) → Stopped s (unary_here the_depths room n ts) → Stopped s (level_at the_depths level room n ts)
levels_unread zero room n ts s h = stopped_along s _ _ (sym (level_zero 0 room n ts refl)) h
levels_unread (suc level) room n ts s h = level_up level room n ts s (levels_unread level room n ts s h)

-- where the operators of a level stop, all levels from there on do
pub levels_stop : (level low room n : ℕ) (ts : Lexemes) (e : TExpr) (m : ℕ) (us : Lexemes) (s : Stop) → low < level → level_at the_depths low room n ts ≡ Ok (e, m, us)
    → Stopped s (operations_at (low + 1) room e m us) → Stopped s (level_at the_depths level room n ts)
levels_stop level low room n ts e m us s l h d =
    let t : (level - (low + 1)) + (low + 1) ≡ level = omega (arith, l) in
    subst (λ (k : ℕ). Stopped s (level_at the_depths k room n ts)) t (by_more (level - (low + 1)))
  where
    by_more : (k : ℕ) → Stopped s (level_at the_depths (k + (low + 1)) room n ts)
    by_more zero =
        let z : low + 1 ≡ 0 + (low + 1) = omega arith in
        subst (λ (j : ℕ). Stopped s (level_at the_depths j room n ts)) z (stopped_along s _ _ (sym (level_onward low room n ts e m us h)) d)
    by_more (suc k) =
        let t : suc (k + (low + 1)) ≡ suc k + (low + 1) = omega arith in
        subst (λ (j : ℕ). Stopped s (level_at the_depths j room n ts)) t (level_up (k + (low + 1)) room n ts s (by_more k))

-- ---- prefix operators

pub prefixed_stops : (room : ℕ) (op : UnaryOp) (n : ℕ) (ts : Lexemes) (s : Stop) → 0 < room → Stopped s (unary_here the_depths (room - 1) n ts)
    → Stopped s (prefix_by (prefixed_at the_depths room) op n ts)
prefixed_stops room op n ts s h d = stopped_bind s (prefixed_at the_depths room n ts) _
    (stopped_along s (unary_here the_depths (room - 1) n ts) (prefixed_at the_depths room n ts) (sym (prefixed_is the_depths room n ts h)) d)

pub prefixed_read : (room : ℕ) (op : UnaryOp) (n : ℕ) (ts : Lexemes) (e : TExpr) (m : ℕ) (us : Lexemes) → 0 < room → unary_here the_depths (room - 1) n ts ≡ Ok (e, m, us)
    → prefix_by (prefixed_at the_depths room) op n ts ≡ Ok (unary op e, m, us)
prefixed_read room op n ts e m us h d = rw (prefixed_is the_depths room n ts h, d) refl

-- ---- elements

element_by_parts : (room : ℕ) (a : Text) (n : ℕ) (ts : Lexemes)
    → (enclosed_at marks.CloseSquare room n ts >>= λ x. Ok (index a x.0, x.1, x.2)) ≡ element_by (inner_at the_depths room) a n ts
element_by_parts room a n ts =
    let at : TExpr × ℕ × Lexemes → ReadExpr = λ x. Ok (index a x.0, x.1, x.2) in
    binds (inner_at the_depths room n ts) (λ x. expect_mark marks.CloseSquare x.2 >>= λ us. Ok (x.0, x.1, us)) at
    (λ x. expect_mark marks.CloseSquare x.2 >>= λ us. Ok (index a x.0, x.1, us))
    (λ x. binds (expect_mark marks.CloseSquare x.2) (λ us. Ok (x.0, x.1, us)) at (λ us. Ok (index a x.0, x.1, us)) (λ us. refl))

pub element_is : (room : ℕ) (a : Text) (n : ℕ) (ts : Lexemes) (e : TExpr) (m : ℕ) (us : Lexemes) → enclosed_at marks.CloseSquare room n ts ≡ Ok (e, m, us)
    → element_by (inner_at the_depths room) a n ts ≡ Ok (index a e, m, us)
element_is room a n ts e m us h = sym (element_by_parts room a n ts) ∙ rw h refl

pub element_stops : (room : ℕ) (a : Text) (n : ℕ) (ts : Lexemes) (s : Stop) → Stopped s (enclosed_at marks.CloseSquare room n ts)
    → Stopped s (element_by (inner_at the_depths room) a n ts)
element_stops room a n ts s h =
    stopped_along s _ (element_by (inner_at the_depths room) a n ts) (element_by_parts room a n ts) (stopped_bind s (enclosed_at marks.CloseSquare room n ts) _ h)
