-- What was looked at, as stacks grow.
use Rattle.std.proofs.Common.{◌≡◌, true, ℕ, zero, suc, ◌≢◌, List, [], ◌∷◌, ◌++◌, length, map, reverse, Option, Some, None, Ok, Err, refl, sym, ap, ◌∙◌, subst, ⊎_elim, arith}
use Rattle.std.specs.Prelude.{if◌then◌else◌, slice_get, slice_set}
use Rattle.std.specs.List.{All}
use Rattle.std.proofs.lemmas.Bool.Decides.{eqb_tells}
use Rattle.std.proofs.lemmas.List.{map-append, reverse-append, reverse-reverse}
use Rattle.std.proofs.lemmas.List.Elements.{All-nil, All-cons, All-head, All-tail, All-append}
use Rattle.oc_isa.specs.declared.instr.Placed.{Placed}
use Rattle.oc_isa.specs.Image.{Parts}
use Rattle.oc_verify.specs.declared.kind.Kind.{Kind}
use Rattle.oc_verify.specs.Typing.{Pair, pair}
use Rattle.oc_verify.specs.Facts.{crowds}
use Rattle.oc_verify.specs.Rules.{judge, own_slots, successors, code_at}
use Rattle.oc_verify.specs.Stacks.{Nodes, stack, Grows}
use Rattle.oc_verify.specs.Told.{AreIn, kind_of, kinds, pair_of}
use Rattle.oc_verify.specs.Work.{Todo, todo_at, Marks, mark, IsWork}
use Rattle.oc_verify.specs.Tables.{Cells, pair_in, marks, own_by, own_marks, todo_of, AreCells, IsWalk}
use Rattle.oc_verify.specs.Rules.{Kinds}
use Rattle.oc_verify.specs.Blames.{BlamesIn}
use Rattle.oc_verify.specs.declared.fault.VerifyError.TheVariants as errors
use Rattle.oc_verify.proofs.Calls.{crowded}
use Rattle.oc_verify.proofs.Working.{again, looks, blames_place, blames_step, blames_crowd, blames_pair}

abbrev Step : Type 0
Step = ℕ × (ℕ × ℕ)

-- different stacks have different kinds

one_kind : (x y : ℕ) → kind_of x ≡ kind_of y → x ≡ y
one_kind zero zero e = refl
one_kind zero (suc y) e = absurd (cc)
one_kind (suc x) zero e = absurd (cc)
one_kind (suc x) (suc y) e = let q : x ≡ y = (cc) in ap suc q

one_list : (xs ys : List ℕ) → map kind_of xs ≡ map kind_of ys → xs ≡ ys
one_list [] [] e = refl
one_list [] (y ∷ ys) e = absurd (cc)
one_list (x ∷ xs) [] e = absurd (cc)
one_list (x ∷ xs) (y ∷ ys) e = let h : kind_of x ≡ kind_of y = (cc) in let t : map kind_of xs ≡ map kind_of ys = (cc) in (λ j. one_kind x y h j ∷ one_list xs ys t j)

pub tops_differ : (ks rs : Nodes) (n m : ℕ × ℕ) → stack ks n.0 ≢ stack ks m.0 → pair_of ks rs n ≢ pair_of ks rs m
tops_differ ks rs n m d e = d (one_list (stack ks n.0) (stack ks m.0) (ap (λ p. p.ops) e))

-- earlier numbers keep their stacks
module _ (ks ks' rs rs' : Nodes) (g : Grows ks ks') (h : Grows rs rs') where
  same_pair : (n : ℕ × ℕ) → AreIn ks rs n → pair_of ks' rs' n ≡ pair_of ks rs n
  same_pair n b = (λ j. pair (map kind_of (g.kept n.0 b.0 j)) (h.kept n.1 b.1 j))

  still_in : (n : ℕ × ℕ) → AreIn ks rs n → AreIn ks' rs' n
  still_in n b = (let x = g.longer in let y = b.0 in omega (arith, x, y), let x = h.longer in let y = b.1 in omega (arith, x, y))

  pub same_marks : (cs : Cells) → AreCells ks rs cs → (a : ℕ) → marks ks' rs' cs a ≡ marks ks rs cs a
  same_marks cs c a = by (slice_get cs a) refl
    where
      by : (o : Option (Option (ℕ × ℕ))) → slice_get cs a ≡ o → pair_in ks' rs' o ≡ pair_in ks rs o
      by None e = refl
      by (Some None) e = refl
      by (Some (Some n)) e = ap Some (same_pair n (c a n e))

  same_todo : (es : List Step) → All (λ e. AreIn ks rs e.1) es → map (todo_of ks' rs') es ≡ map (todo_of ks rs) es
  same_todo [] b = refl
  same_todo (e ∷ es) b = (λ j. todo_at (same_pair e.1 (All-head (λ e. AreIn ks rs e.1) e es b) j) e.0 ∷ same_todo es (All-tail (λ e. AreIn ks rs e.1) e es b) j)

  all_still : (es : List Step) → All (λ e. AreIn ks rs e.1) es → All (λ e. AreIn ks' rs' e.1) es
  all_still [] b = All-nil (λ e. AreIn ks' rs' e.1)
  all_still (e ∷ es) b = All-cons (λ e. AreIn ks' rs' e.1) e es (still_in e.1 (All-head (λ e. AreIn ks rs e.1) e es b)) (all_still es (All-tail (λ e. AreIn ks rs e.1) e es b))

-- one cell more

set_same : (cs : Cells) (a : ℕ) (o x : Option (ℕ × ℕ)) → slice_get cs a ≡ Some o → slice_get (slice_set cs a x) a ≡ Some x
set_same [] a o x e = absurd (cc)
set_same (c ∷ cs) zero o x e = refl
set_same (c ∷ cs) (suc a) o x e = set_same cs a o x e

pub set_other : (cs : Cells) (a b : ℕ) (x : Option (ℕ × ℕ)) → b ≢ a → slice_get (slice_set cs a x) b ≡ slice_get cs b
set_other [] a b x d = refl
set_other (c ∷ cs) zero zero x d = absurd (d refl)
set_other (c ∷ cs) zero (suc b) x d = refl
set_other (c ∷ cs) (suc a) zero x d = refl
set_other (c ∷ cs) (suc a) (suc b) x d = set_other cs a b x (λ e. d (ap suc e))

set_long : (cs : Cells) (a : ℕ) (x : Option (ℕ × ℕ)) → length (slice_set cs a x) ≡ length cs
set_long [] a x = refl
set_long (c ∷ cs) zero x = refl
set_long (c ∷ cs) (suc a) x = ap suc (set_long cs a x)

own_mark : (i : Parts) (f : ℕ) (tab : Marks) (a : ℕ) (p : Pair) (x : Placed) → code_at i f a ≡ Some x → (b : ℕ) → mark (own_marks i f tab) a p b ≡ own_marks i f (mark tab a p) b
own_mark i f tab a p x e b = ⊎_elim
    (λ q. ap (λ c. if c then Some p else own_marks i f tab b) q.0 ∙ sym (ap (λ o. own_by o (mark tab a p b)) (ap (code_at i f) q.1 ∙ e) ∙ ap (λ c. if c then Some p else tab b) q.0))
    (λ q. ap (λ c. if c then Some p else own_marks i f tab b) q.0 ∙ sym (ap (λ c. own_by (code_at i f b) (if c then Some p else tab b)) q.0))
    (eqb_tells b a)

snoc_reverse : (es : List Step) (e : Step) → reverse (es ++ e ∷ []) ≡ e ∷ reverse es
snoc_reverse es e = reverse-append es (e ∷ [])

reverse_all : (P : Step → Type 0) (es : List Step) → All P es → All P (reverse es)
reverse_all P [] h = All-nil P
reverse_all P (e ∷ es) h = subst (All P) (sym (reverse-append (e ∷ []) es))
    (All-append P (reverse es) (e ∷ []) (reverse_all P es (All-tail P e es h)) (All-cons P e [] (All-head P e es h) (All-nil P)))

all_front : (P : Step → Type 0) (es ds : List Step) → All P (es ++ ds) → All P es
all_front P [] ds h = All-nil P
all_front P (e ∷ es) ds h = All-cons P e es (All-head P e (es ++ ds) h) (all_front P es ds (All-tail P e (es ++ ds) h))

pub all_last : (P : Step → Type 0) (es : List Step) (e : Step) → All P (es ++ e ∷ []) → P e
all_last P [] e h = All-head P e [] h
all_last P (d ∷ es) e h = all_last P es e (All-tail P d (es ++ e ∷ []) h)

module _ (i : Parts) (f : ℕ) (kinds' : List Kind) (ks rs : Nodes) (cs : Cells) (todo : List Step) (a : ℕ) (n : ℕ × ℕ) (w : IsWalk i f kinds' ks rs cs (todo ++ (a, n) ∷ [])) where
  abbrev tab : Marks
  tab = own_marks i f (marks ks rs cs)

  abbrev now : Todo
  now = todo_of ks rs (a, n)

  abbrev left : List Todo
  left = map (todo_of ks rs) (reverse todo)

  next_work : IsWork i f kinds' tab (now ∷ left)
  next_work = subst (λ es. IsWork i f kinds' tab (map (todo_of ks rs) es)) (snoc_reverse todo (a, n)) w.work

  -- it was looked at, with the same pair
  pub seen_again : (x : Placed) → code_at i f a ≡ Some x → slice_get cs a ≡ Some (Some n) → IsWalk i f kinds' ks rs cs todo
  seen_again x e s = record {
    work = again i f kinds' tab now left (ap (λ o. own_by o (marks ks rs cs a)) e ∙ ap (pair_in ks rs) s) next_work;
    sized = w.sized;
    cells = w.cells;
    todo = all_front (λ e. AreIn ks rs e.1) todo ((a, n) ∷ []) w.todo;
  }

  -- it is looked at for the first time
  pub seen_first : (ks' rs' : Nodes) (x : Placed) (after : ℕ × ℕ) → slice_get cs a ≡ Some None → code_at i f a ≡ Some x → Grows ks ks' → Grows rs rs' → AreIn ks' rs' after
      → judge i (own_slots i f kinds') x.instr (kinds ks n.0) (stack rs n.1) ≡ Ok (pair_of ks' rs' after)
      → IsWalk i f kinds' ks' rs' (slice_set cs a (Some n)) (todo ++ reverse (map (λ b. (b, after)) (successors x.instr a)))
  seen_first ks' rs' x after s e g h b right =
      let q : Pair = pair_of ks' rs' after in
      let steps : List Step = map (λ b. (b, after)) (successors x.instr a) in
      let cs' : Cells = slice_set cs a (Some n) in
      let blank : tab a ≡ None = ap (λ o. own_by o (marks ks rs cs a)) e ∙ ap (pair_in ks rs) s in
      let here : AreIn ks rs n = all_last (λ e. AreIn ks rs e.1) todo (a, n) w.todo in
      let old = all_front (λ e. AreIn ks rs e.1) todo ((a, n) ∷ []) w.todo in
      let worked : IsWork i f kinds' (mark tab a (pair_of ks rs n)) (map (todo_at q) (successors x.instr a) ++ left) = looks i f kinds' tab now left x q blank e right next_work in
      let cells' : AreCells ks' rs' cs' = λ b m z. ⊎_elim
      (λ y. let v : Some (Some n) ≡ Some (Some m) = sym (set_same cs a None (Some n) s) ∙ ap (slice_get cs') (sym y.1) ∙ z in let v' : n ≡ m = (cc) in
      subst (AreIn ks' rs') v' (still_in ks ks' rs rs' g h n here))
      (λ y. still_in ks ks' rs rs' g h m (w.cells b m (sym (set_other cs a b (Some n) y.1) ∙ z)))
      (eqb_tells b a) in
      let told : (b : ℕ) → marks ks' rs' cs' b ≡ mark (marks ks rs cs) a (pair_of ks rs n) b = λ b. ⊎_elim
      (λ y. ap (pair_in ks' rs') (ap (slice_get cs') y.1 ∙ set_same cs a None (Some n) s) ∙ ap Some (same_pair ks ks' rs rs' g h n here)
      ∙ sym (ap (λ c. if c then Some (pair_of ks rs n) else marks ks rs cs b) y.0))
      (λ y. ap (pair_in ks' rs') (set_other cs a b (Some n) y.1) ∙ same_marks ks ks' rs rs' g h cs w.cells b ∙ sym (ap (λ c. if c then Some (pair_of ks rs n) else marks ks rs cs b) y.0))
      (eqb_tells b a) in
      let table : mark tab a (pair_of ks rs n) ≡ own_marks i f (marks ks' rs' cs') =
      (λ j b. (own_mark i f (marks ks rs cs) a (pair_of ks rs n) x e b ∙ ap (own_by (code_at i f b)) (sym (told b))) j) in
      let order : map (todo_at q) (successors x.instr a) ++ left ≡ map (todo_of ks' rs') (reverse (todo ++ reverse steps)) =
      (λ j. step_map (successors x.instr a) j ++ sym (same_todo ks ks' rs rs' g h (reverse todo) (reverse_all (λ e. AreIn ks rs e.1) todo old)) j)
      ∙ sym (map-append (todo_of ks' rs') steps (reverse todo))
      ∙ ap (map (todo_of ks' rs')) (ap (λ l. l ++ reverse todo) (sym (reverse-reverse steps)) ∙ sym (reverse-append todo (reverse steps))) in
      record {
        work = subst (λ t. IsWork i f kinds' t (map (todo_of ks' rs') (reverse (todo ++ reverse steps)))) table (subst (IsWork i f kinds' (mark tab a (pair_of ks rs n))) order worked);
        sized = set_long cs a (Some n) ∙ w.sized;
        cells = cells';
        todo = All-append (λ e. AreIn ks' rs' e.1) todo (reverse steps) (all_still ks ks' rs rs' g h todo old) (reverse_all (λ e. AreIn ks' rs' e.1) steps (all_after (successors x.instr a)));
      }
    where
      step_map : (bs : List ℕ) → map (todo_at (pair_of ks' rs' after)) bs ≡ map (todo_of ks' rs') (map (λ b. (b, after)) bs)
      step_map [] = refl
      step_map (c ∷ bs) = ap (λ l. todo_at (pair_of ks' rs' after) c ∷ l) (step_map bs)

      all_after : (bs : List ℕ) → All {X = Step} (λ (e : Step). AreIn ks' rs' e.1) (map (λ b. (b, after)) bs)
      all_after [] = All-nil (λ (e : Step). AreIn ks' rs' e.1)
      all_after (c ∷ bs) = All-cons (λ (e : Step). AreIn ks' rs' e.1) (c, after) (map (λ b. (b, after)) bs) b (all_after bs)

  -- a fault blames a rule that is broken

  in_kinds : (t : Kinds) → t f ≡ kinds' → IsWork i f (t f) tab (now ∷ left)
  in_kinds t e = subst (λ l. IsWork i f l tab (now ∷ left)) (sym e) next_work

  pub blame_place : code_at i f a ≡ None → BlamesIn i f kinds' (errors.Refused a 2)
  blame_place n t e R c = blames_place i t f R c tab now left n (in_kinds t e)

  pub blame_step : (x : Placed) (rule : ℕ) → code_at i f a ≡ Some x → judge i (own_slots i f kinds') x.instr (kinds ks n.0) (stack rs n.1) ≡ Err rule → BlamesIn i f kinds' (errors.Refused a rule)
  blame_step x rule e wrong t q R c = blames_step i t f R c tab now left x rule e (subst (λ l. judge i (own_slots i f l) x.instr (kinds ks n.0) (stack rs n.1) ≡ Err rule) (sym q) wrong) (in_kinds t q)

  pub blame_pair : (x : Placed) (m : ℕ × ℕ) → code_at i f a ≡ Some x → slice_get cs a ≡ Some (Some m) → pair_of ks rs m ≢ pair_of ks rs n → BlamesIn i f kinds' (errors.Refused a 10)
  blame_pair x m e s d t q R c = blames_pair i t f R c tab now left (pair_of ks rs m) (ap (λ o. own_by o (marks ks rs cs a)) e ∙ ap (pair_in ks rs) s) d (in_kinds t q)

  pub blame_crowd : (x : Placed) (q : Pair) → crowds i x.instr ≡ true → judge i (own_slots i f kinds') x.instr (kinds ks n.0) (stack rs n.1) ≡ Ok q → BlamesIn i f kinds' (errors.Refused 0 11)
  blame_crowd x q more right t e R c = blames_crowd i t f R c tab now left (crowded i (own_slots i f kinds') x.instr (kinds ks n.0) (stack rs n.1) q more right) (in_kinds t e)
