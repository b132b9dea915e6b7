-- Every body of a checked program is formed.
use Rattle.std.proofs.Common.{◌≡◌, ℕ, ◌+◌, Bool, true, false, true≢false, List, [], length, Some, None, refl, subst}
use Rattle.std.specs.Prelude.{is_some, not, slice_get, ◌&&◌}
use Rattle.std.proofs.lemmas.Option.{slice_get_within, get_or_from_slice_get}
use Rattle.std.proofs.lemmas.List.Elements.{All-get_or}
use Rattle.oc_tree.specs.Names.{Text}
use Rattle.oc_tree.specs.Tree.{TBlock, block, TFunction, TProgram}
use Rattle.oc_tree.specs.Checked.{Group, AnyName, IsChecked}
use Rattle.oc_tree.specs.Marked.{TRegion}
use Rattle.oc_tree.specs.Form.{BlockInForm, FunctionInForm}
use Rattle.oc_tree.specs.Calls.{block_kinds}
use Rattle.oc_tree.specs.Elements.{Here, block_elements, in_function}
use Rattle.oc_tree.specs.Rules.{block_returns}
use Rattle.oc_tree.specs.Stack.{link_words}
use Rattle.oc_code.specs.Scope.{Named, function_scope}
use Rattle.oc_code.specs.Formed.{body_formed}
use Rattle.oc_checked.proofs.BodiesPass.{AllFine, function_fine}
use Rattle.oc_checked.proofs.CallLinks.{KindsCall, each_kind}
use Rattle.oc_checked.proofs.CallsFall.{Lower, RanksFall}
use Rattle.oc_checked.proofs.Heads.{head_unbroken}
use Rattle.oc_formed.proofs.BodiesMarked.{BlockMarked, block_unmarked}
use Rattle.oc_formed.proofs.BodiesCalls.{LongParams}
use Rattle.oc_formed.proofs.BodiesStatements.{Ends, stmts_are_formed}
use Rattle.oc_formed.proofs.ScopesSeen.{AllFound}
use Rattle.oc_formed.proofs.ScopesStart.{start_found}

-- a function with a result ends with a `return`
result_returned : (a b : Bool) → a && not b ≡ false → a ≡ true → b ≡ true
result_returned a true h is = refl
result_returned true false h is = absurd (true≢false h)
result_returned false false h is = is

module _ (p : TProgram) (long : LongParams p) (regions : List TRegion) (rank : Text → ℕ) (f : TFunction) (i : ℕ) where
  -- the body of a function
  body_is_formed : (γ : List Named) (s : ℕ) (b : TBlock) → BlockMarked regions b → AllFound p (in_function f i).scope γ → BlockInForm AnyName b
      → KindsCall (Lower p rank (rank f.name)) (block_kinds None b) → AllFine p (block_elements p (in_function f i) b) → (is_some f.result ≡ true → block_returns b ≡ true)
      → body_formed p.names p.functions regions rank (rank f.name) (is_some f.result) γ s b
  body_is_formed γ s (block id ss) marked all form calls fine returned =
      let h : Here = record (in_function f i) { block = id } in
      let ends : Ends (is_some f.result) h ss = record { result = λ l. refl; returned = returned } in
      stmts_are_formed p long regions rank (rank f.name) (is_some f.result) 0 h γ s ss ends marked all form calls fine

-- every body is formed, where ranks fall along calls and regions begin and end in the same block
pub marked_bodies_formed : (p : TProgram) (groups : List Group) → IsChecked p groups → (rank : Text → ℕ) → RanksFall p rank → (regions : List TRegion)
    → ((i : ℕ) (f : TFunction) → slice_get p.functions i ≡ Some f → BlockMarked regions f.body) → (i : ℕ) (f : TFunction) → slice_get p.functions i ≡ Some f
    → body_formed p.names p.functions regions rank (rank f.name) (is_some f.result) (function_scope p f) (length f.params + link_words f) f.body
marked_bodies_formed p groups checked rank falls regions marked i f stands =
    let long : LongParams p = λ j g there. (head_unbroken p j g (function_fine p checked.unbroken checked.form.declared j g there)).long in
    let own = function_fine p checked.unbroken checked.form.declared i f stands in
    let head = head_unbroken p i f own in
    let form : FunctionInForm AnyName f = subst (FunctionInForm AnyName) (get_or_from_slice_get p.functions i f f stands)
    (All-get_or (FunctionInForm AnyName) p.functions i f (slice_get_within p.functions i f stands) checked.form.spellable.functions) in
    body_is_formed p long regions rank f i (function_scope p f) (length f.params + link_words f) f.body (marked i f stands) (start_found p f checked.form.spellable.nv head.free)
    form.body (each_kind (Lower p rank (rank f.name)) (block_kinds None f.body) (falls i f stands)) own.body (result_returned (is_some f.result) (block_returns f.body) head.returns)
