-- Samples that are still to come change nothing else.
use Rattle.std.proofs.Common.{◌≡◌, ℕ, ℤ, Bool, true, false, suc, ◌-◌, List, [], ◌∷◌, ◌++◌, length, Option, Some, None, refl, ap, ◌∙◌}
use Rattle.std.specs.Prelude.{◌==◌, if◌then◌else◌}
use Rattle.oc_tree.specs.declared.said.Said.{Said}
use Rattle.oc_tree.specs.declared.said.Said.TheVariants.{Entered, Committed}
use Rattle.oc_tree.specs.Names.{Text}
use Rattle.oc_tree.specs.Tree.{TExpr, number, truth, variable, index, deref, unary, binary, sensed, called, TArg, value, shared, mutable, TArgs, no_args, more_args, TKind, let_to, let_array, TStmts}
use Rattle.oc_tree.specs.declared.tree.BinaryOp.{BinaryOp}
use Rattle.oc_tree.specs.declared.tree.BinaryOp.TheVariants.{Or, And}
use Rattle.oc_tree.specs.Samples.{union}
use Rattle.oc_meaning.specs.Store.{Value, Held, Place, Local, Global, Turn, Nowhere, Event, Store, Binding, value_in, held_at, put, place_of}
use Rattle.oc_meaning.specs.Eval.{Got, Val, and_got, read_element, element_of, unary_value, combined, value_of}
use Rattle.oc_tree.specs.Named.{own_names}
use Rattle.oc_meaning.specs.Uses.{is_fresh, samples_of_fresh, use_samples}
use Rattle.oc_meaning.specs.Exec.{Passing, value_first, passed_on, arg_first, args_of, told_if, opened, closed, used, done, grown, element_written}
use Rattle.oc_steps.specs.Sets.{combined_by, element_by, value_by, fresh_by, use_by, args_by, arg_by, element_written_by}
use Rattle.oc_steps.specs.Follow.{with_left, with_more}

module _ (past : List Event) (t : List ℤ) where
  pub held_left : (σ : Store) (q : Place) → held_at (with_left past t σ) q ≡ held_at σ q
  held_left σ (Local l) = refl
  held_left σ place = refl

  combined_same : (op : BinaryOp) (g h : Got) → combined op g h ≡ combined_by union op g h
  combined_same And g h = refl
  combined_same Or g h = refl
  combined_same op g h = refl

  element_same : (h : Held) (o : Option ℕ) (s : List ℕ) → read_element h o s ≡ element_by union h o s
  element_same h None s = refl
  element_same h (Some i) s = refl

  pub value_left : (env : List Binding) (σ : Store) (e : TExpr) → value_of env (with_left past t σ) e ≡ value_by union env σ e
  value_left env σ (number z) = refl
  value_left env σ (truth b) = refl
  value_left env σ (variable x) = ap (λ h. Val (value_in h)) (held_left σ (place_of env x))
  value_left env σ (deref x) = ap (λ h. Val (value_in h)) (held_left σ (place_of env x))
  value_left env σ (index x e) =
      ap (λ g. and_got g (λ i. read_element (held_at (with_left past t σ) (place_of env x)) (element_of (length (held_at (with_left past t σ) (place_of env x)).words) i.num)
      i.samples)) (value_left env σ e)
      ∙ ap (λ h. and_got (value_by union env σ e) (λ i. read_element h (element_of (length h.words) i.num) i.samples)) (held_left σ (place_of env x))
      ∙ index_same (value_by union env σ e) (held_at σ (place_of env x))
    where
      index_same : (g : Got) (h : Held) → and_got g (λ i. read_element h (element_of (length h.words) i.num) i.samples)
          ≡ and_got g (λ i. element_by union h (element_of (length h.words) i.num) i.samples)
      index_same (Val v) h = element_same h (element_of (length h.words) v.num) v.samples
      index_same g h = refl
  value_left env σ (unary op e) = ap (unary_value op) (value_left env σ e)
  value_left env σ (binary op a b) =
      ap (λ g. combined op g (value_of env (with_left past t σ) b)) (value_left env σ a)
      ∙ ap (combined op (value_by union env σ a)) (value_left env σ b)
      ∙ combined_same op (value_by union env σ a) (value_by union env σ b)
  value_left env σ (sensed s) = refl
  value_left env σ (called c) = refl

  fresh_left : (env : List Binding) (σ : Store) (xs : List Text) → samples_of_fresh env (with_left past t σ) xs ≡ fresh_by union env σ xs
  fresh_left env σ [] = refl
  fresh_left env σ (x ∷ xs) =
      ap (λ h. if is_fresh env x then union h.samples (samples_of_fresh env (with_left past t σ) xs) else samples_of_fresh env (with_left past t σ) xs) (held_left σ (place_of env x))
      ∙ ap (λ s. if is_fresh env x then union (held_at σ (place_of env x)).samples s else s) (fresh_left env σ xs)

  pub use_left : (env : List Binding) (k : TKind) (σ : Store) → use_samples env k (with_left past t σ) ≡ use_by union env k σ
  use_left env k σ = fresh_left env σ (own_names k)

  arg_left : (env : List Binding) (σ : Store) (a : TArg) (rest : Passing) → arg_first env (with_left past t σ) a rest ≡ arg_by union env σ a rest
  arg_left env σ (value e) rest = ap (λ g. value_first (passed_on env e) g rest) (value_left env σ e)
  arg_left env σ (shared x) rest = refl
  arg_left env σ (mutable x) rest = refl

  pub args_left : (env : List Binding) (σ : Store) (gs : TArgs) → args_of env (with_left past t σ) gs ≡ args_by union env σ gs
  args_left env σ no_args = refl
  args_left env σ (more_args a rest) = ap (arg_first env (with_left past t σ) a) (args_left env σ rest) ∙ arg_left env σ a (args_by union env σ rest)

  pub put_left : (σ : Store) (q : Place) (h : Held) → put (with_left past t σ) q h ≡ with_left past t (put σ q h)
  put_left σ (Local l) h = refl
  put_left σ place h = refl

  told_left : (b : Bool) (s : Said) (es : List Event) → told_if b s (es ++ past) ≡ told_if b s es ++ past
  told_left true s es = refl
  told_left false s es = refl

  pub opened_left : (o : Option ℕ) (σ : Store) → opened o (with_left past t σ) ≡ with_left past t (opened o σ)
  opened_left None σ = refl
  opened_left (Some r) σ = ap (λ es. record σ { left = t; depth = suc σ.depth; events = es }) (told_left (σ.depth == 0) (Entered r) σ.events)

  pub closed_left : (o : Option ℕ) (σ : Store) → closed o (with_left past t σ) ≡ with_left past t (closed o σ)
  closed_left None σ = refl
  closed_left (Some r) σ = ap (λ es. record σ { left = t; depth = σ.depth - 1; events = es }) (told_left (σ.depth == 1) (Committed r) σ.events)

  pub used_left : (b : Bool) (n : ℕ) (s : List ℕ) (σ : Store) → used b n s (with_left past t σ) ≡ with_left past t (used b n s σ)
  used_left true n s σ = refl
  used_left false n s σ = refl

  pub done_left : (b : Bool) (n : ℕ) (s : List ℕ) (σ : Store) → done b n s (with_left past t σ) ≡ with_left past t (done b n s σ)
  done_left true n s σ = refl
  done_left false n s σ = refl

  pub grown_left : (k : TKind) (rest : TStmts) (env : List Binding) (σ : Store) → grown k rest env (with_left past t σ) ≡ grown k rest env σ
  grown_left (let_to m x k r) rest env σ = refl
  grown_left (let_array m x k z n) rest env σ = refl
  grown_left k rest env σ = refl

  pub written_left : (q : Place) (o : Option ℕ) (i v : Value) (n : ℕ) (σ : Store) → element_written q o i v n (with_left past t σ) ≡ with_more past t (element_written_by union q o i v n σ)
  written_left q None i v n σ = refl
  written_left (Local l) (Some e) i v n σ = refl
  written_left place (Some e) i v n σ = refl
