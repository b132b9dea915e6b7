-- What a function doesn't name, neither its statements nor those that they call do.
use Rattle.std.proofs.Common.{◌≡◌, ◌<◌, ℕ, ◌+◌, Bool, true, false, true≢false, List, map, length, Some, None, sym, ◌∙◌, subst, arith}
use Rattle.std.specs.Prelude.{◌&&◌, not, slice_get}
use Rattle.std.specs.List.{list_any}
use Rattle.std.proofs.lemmas.Option.{slice_get_within}
use Rattle.oc_tree.specs.Names.{Text}
use Rattle.oc_tree.specs.Tree.{TFunction}
use Rattle.oc_tree.specs.Reach.{linked}
use Rattle.oc_tree.specs.Mentions.{is_named}
use Rattle.oc_tree.specs.Calls.{function_names, function_place, callee, own_calls, block_kinds, body_calls, called_places, call_links, has_param, test_at}
use Rattle.oc_tree.specs.Calls.{function_mentions, reaches_mention}
use Rattle.oc_reach.proofs.LinkLaws.{calls_within}
use Rattle.oc_reach.proofs.Lists.{at_place}
use Rattle.oc_desugar.proofs.FineCalls.{Each as EachCall}
use Rattle.oc_copies.proofs.LeadToNone.{EachKind, none_pass, each_calls, self_fails, next_fails, call_row, each_called}

-- ---- a function that doesn't lead to a mention

module _ (fs : List TFunction) (u : ℕ) (f : TFunction) (stands : slice_get fs u ≡ Some f) where
  below : u < length fs
  below = slice_get_within fs u f stands

  -- none of its statements names the variable, where no parameter hides it
  pub none_names : (x : Text) → reaches_mention fs x u ≡ false → has_param x f.params ≡ false → EachKind (λ k. is_named x k ≡ false) (block_kinds (Some x) f.body)
  none_names x free shown =
      let own : function_mentions x f ≡ false = sym (at_place (function_mentions x) fs u f false stands) ∙ self_fails (call_links fs) (length fs) (test_at (function_mentions x) fs) u below free in
      none_pass (is_named x) (block_kinds (Some x) f.body) (by (has_param x f.params) shown own)
    where
      by : (b : Bool) → b ≡ false → not b && list_any (is_named x) (block_kinds (Some x) f.body) ≡ false → list_any (is_named x) (block_kinds (Some x) f.body) ≡ false
      by true e h = absurd (true≢false e)
      by false e h = h

  -- and no function that they call leads to a mention
  pub none_called : (hidden : Text → Bool) → ((x : Text) → hidden x ≡ true → reaches_mention fs x u ≡ false) →
      EachKind (λ k. EachCall (λ c. (v : ℕ) → function_place fs (callee c) ≡ Some v → (x : Text) → hidden x ≡ true → reaches_mention fs x v ≡ false) (own_calls k)) (block_kinds None f.body)
  none_called hidden free =
      let z : 0 + u ≡ u = omega arith in
      each_calls _ (block_kinds None f.body)
      (each_called (function_names fs) u (λ v. (x : Text) → hidden x ≡ true → reaches_mention fs x v ≡ false) (body_calls f)
      (λ v l x h. next_fails (call_links fs) (length fs) (test_at (function_mentions x) fs) u v (calls_within fs)
      (call_row (function_names fs) 0 fs u f u v stands (subst (λ w. linked (map (λ v. (w, v)) (called_places (function_names fs) (body_calls f))) u v ≡ true) (sym z) l)) (free x h)))
