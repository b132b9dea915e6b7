-- The same of calls, at every depth.
use Rattle.std.proofs.Common.{◌≡◌, ℕ, zero, suc, Bool, true, false, true≢false, List, [], ◌∷◌, Some, refl, sym, ap, ◌∙◌, subst}
use Rattle.oc_tree.specs.Names.{Text}
use Rattle.oc_tree.specs.Tree.{TFunction, TProgram}
use Rattle.oc_tree.specs.declared.tree.Param.{Param}
use Rattle.oc_tree.specs.Marked.{TRegion}
use Rattle.oc_meaning.specs.Blocks.{set_home}
use Rattle.oc_meaning.specs.Store.{Local, Store, Binding, holding, binding_of}
use Rattle.oc_meaning.specs.Exec.{Outcome, Passed, Copied, Lent, block_run}
use Rattle.oc_meaning.specs.Run.{Frame, nv_env, with_param, with_params, body_run, function_named, function_run, call_to}
use Rattle.oc_copies.proofs.Matching.{Renaming, IsRenaming, Match, made_match}
use Rattle.oc_copies.proofs.Twins.{Flags, is_shared, IsLawfulBlock, AreTwins, Sees, sees_more, Alike, left_alike, ArePassed, block_alike}

-- the names of the parameters, the newest first
abbrev pub start_flags : List Param → Flags → Flags
start_flags [] fs = fs
start_flags (q ∷ qs) fs = start_flags qs ((q.name, is_shared q.passing) ∷ fs)

module _ (hidden : Text → Bool) (r : Renaming) (is : IsRenaming r) (start other_start : Store) (p : TProgram) (regions : List TRegion) (Quiet : Text → TFunction → Type 0)
    (quiet : (f : Text) (g : TFunction) → function_named p.functions f ≡ Some g → Quiet f g → IsLawfulBlock hidden p Quiet (function_named p.functions) (start_flags g.params []) g.body)
    (stored : (x : Text) → hidden x ≡ false → AreTwins hidden r is start other_start (binding_of (nv_env 0 p.names.nvs) x) (binding_of (nv_env 0 p.names.nvs) x))
    (loose : (x : Text) → hidden x ≡ false → r.fixed (binding_of (nv_env 0 p.names.nvs) x).place ≡ false) where
  abbrev N : Store → Store → Type 0
  N σ τ = Match r is start other_start σ τ

  abbrev See : Flags → List Binding → List Binding → Type 0
  See = Sees hidden r is start other_start

  -- frames that see the same
  pub record AreFrames (fs : Flags) (σ τ : Store) (a b : Frame) : Type 0 where
    pub sees : See fs a.env b.env
    pub match : N (record σ { locals = a.locals }) (record τ { locals = b.locals })

  params_alike : (qs : List Param) (xs ys : List Passed) (fs : Flags) (σ τ : Store) (a b : Frame) → ArePassed hidden r is start other_start qs xs ys → AreFrames fs σ τ a b →
      AreFrames (start_flags qs fs) σ τ (with_params qs xs a) (with_params qs ys b)
  params_alike [] [] [] fs σ τ a b h f = f
  params_alike (q ∷ qs) (Copied v ∷ xs) (Copied w ∷ ys) fs σ τ a b h f =
      subst (λ u. AreFrames (start_flags ((q ∷ qs)) fs) σ τ (with_params (q ∷ qs) (Copied v ∷ xs) a) (with_params (q ∷ qs) (Copied u ∷ ys) b)) h.0
      (params_alike qs xs ys ((q.name, is_shared q.passing) ∷ fs) σ τ (with_param q.name (Copied v) a) (with_param q.name (Copied v) b) h.1 (record {
        sees = sees_more hidden r is start other_start fs a.env b.env q.name (is_shared q.passing) _ _ refl refl
            (record {
              place = ap Local f.match.other_count ∙ sym (is.later f.match.more) ∙ ap (λ n. r.to (Local n)) (sym f.match.count);
              live =
                  ap (λ n. r.live (Local n)) f.match.count ∙ is.later_live f.match.more;
              reference = refl;
              fresh = refl;
            })
            (λ e. ap (λ n. r.fixed (Local n)) f.match.count ∙ is.later_free f.match.more) f.sees;
        match = made_match r is start other_start (record σ { locals = a.locals }) (record τ { locals = b.locals }) (holding v) f.match;
      }))
  params_alike (q ∷ qs) (Lent d ∷ xs) (Lent e ∷ ys) fs σ τ a b h f =
      params_alike qs xs ys ((q.name, is_shared q.passing) ∷ fs) σ τ (with_param q.name (Lent d) a) (with_param q.name (Lent e) b) h.3 (record {
        sees =
            sees_more hidden r is start other_start fs a.env b.env q.name (is_shared q.passing) _ _ refl refl (record { place = h.0; live = h.1; reference = refl; fresh = refl })
            (λ s. loose_place (r.fixed d) refl s) f.sees;
        match = f.match;
      })
    where
      loose_place : (c : Bool) → r.fixed d ≡ c → is_shared q.passing ≡ false → r.fixed d ≡ false
      loose_place true k s = absurd (true≢false (sym (h.2 k) ∙ s))
      loose_place false k s = k
  params_alike [] [] (y ∷ ys) fs σ τ a b h f = absurd h
  params_alike [] (x ∷ xs) ys fs σ τ a b h f = absurd h
  params_alike (q ∷ qs) [] ys fs σ τ a b h f = absurd h
  params_alike (q ∷ qs) (Copied v ∷ xs) [] fs σ τ a b h f = absurd h
  params_alike (q ∷ qs) (Lent v ∷ xs) [] fs σ τ a b h f = absurd h
  params_alike (q ∷ qs) (Copied v ∷ xs) (Lent e ∷ ys) fs σ τ a b h f = absurd h
  params_alike (q ∷ qs) (Lent d ∷ xs) (Copied w ∷ ys) fs σ τ a b h f = absurd h

  abbrev pub CallsAlike : (Text → List Passed → Store → Outcome) → Type 0
  CallsAlike call_of =
      (f : Text) (g : TFunction) → function_named p.functions f ≡ Some g → Quiet f g → (xs ys : List Passed) (σ τ : Store) → N σ τ → ArePassed hidden r is start other_start g.params xs ys →
      Alike hidden r is start other_start (call_of f xs σ) (call_of f ys τ)

  -- bodies over frames that see the same
  pub framed_alike : (call_of : Text → List Passed → Store → Outcome) → CallsAlike call_of → (f : Text) (g : TFunction) → function_named p.functions f ≡ Some g → Quiet f g →
      (σ τ : Store) (a b : Frame) → AreFrames (start_flags g.params []) σ τ a b →
      Alike hidden r is start other_start (block_run p.names regions call_of (set_home g.body) a.env g.body (record σ { locals = a.locals }))
      (block_run p.names regions call_of (set_home g.body) b.env g.body (record τ { locals = b.locals }))
  framed_alike call_of calls f g at q σ τ a b h =
      block_alike hidden r is start other_start p regions Quiet (function_named p.functions) call_of (set_home g.body) calls (start_flags g.params []) a.env b.env g.body
      (record σ { locals = a.locals }) (record τ { locals = b.locals }) h.sees (quiet f g at q) h.match

  body_alike : (call_of : Text → List Passed → Store → Outcome) → CallsAlike call_of → (f : Text) (g : TFunction) → function_named p.functions f ≡ Some g → Quiet f g →
      (xs ys : List Passed) (σ τ : Store) → N σ τ → ArePassed hidden r is start other_start g.params xs ys →
      Alike hidden r is start other_start (body_run p regions call_of g (with_params g.params xs (record { env = nv_env 0 p.names.nvs; locals = σ.locals })) σ)
      (body_run p regions call_of g (with_params g.params ys (record { env = nv_env 0 p.names.nvs; locals = τ.locals })) τ)
  body_alike call_of calls f g at q xs ys σ τ m h =
      left_alike hidden r is start other_start σ τ m _ _
      (framed_alike call_of calls f g at q σ τ _ _
      (params_alike g.params xs ys [] σ τ (record { env = nv_env 0 p.names.nvs; locals = σ.locals }) (record { env = nv_env 0 p.names.nvs; locals = τ.locals }) h
      (record { sees = record { named = stored; free = λ x s e. loose x s }; match = m })))

  pub calls_alike : (d : ℕ) → CallsAlike (call_to p regions d)
  calls_alike zero f g at q xs ys σ τ m h = m
  calls_alike (suc d) f g at q xs ys σ τ m h =
      subst (λ o. Alike hidden r is start other_start (function_run p regions (call_to p regions d) o xs σ) (function_run p regions (call_to p regions d) o ys τ)) (sym at)
      (body_alike (call_to p regions d) (calls_alike d) f g at q xs ys σ τ m h)
