use Rattle.std.proofs.Common.{rules, ◌≡◌, ◌+◌, ◌-◌, ◌++◌, length, drop, ap, ◌∙◌, arith, append_assoc, length-append}
use Rattle.oc_tree.specs.Stack.{link_words}
use Rattle.oc_tree.specs.View.{block_view, function_view}
use Rattle.oc_code.specs.Scope.{params_scope}
use Rattle.oc_code.specs.Code.{block_code, close_code}
use Rattle.oc_codegen.specs.Around.{Around}
use Rattle.oc_codegen.proofs.Functions.{params_gone}
use Rattle.oc_codegen.proofs.program.function.Goals as goal

pub returns-clause-code : goal.returns-clause-code
returns-clause-code c =
    let f = c.args.function.now in
    let base = c.args.code.now in
    let body = block_view f.body in
    let S = c.args.setting.now in
    let ps = f.params.items in
    let γ = c.args.scope.now in
    let params : c.len-params.result ≡ length ps = search rules in
    let scope : c.declare_params.new.scope ≡ params_scope ps 0 γ = search rules in
    let first : c.len-params.result + c.link_words.result ≡ length ps + link_words (function_view f) = search rules in
    let last = close_code (function_view f) in
    let whole = block_code S.names S.functions S.regions (length ps) (params_scope ps 0 γ) (length ps + link_words (function_view f)) (length base) body in
    let block : c.block.new.code ≡ base ++ whole =
    c.in_ok-frame.ensures.code
    ∙ ap (λ (T : Around). base ++ block_code T.names T.functions T.regions T.params c.declare_params.new.scope (c.len-params.result + c.link_words.result) (length base) body) c.enter.ensures
    ∙ ap (λ k. base ++ block_code S.names S.functions S.regions k c.declare_params.new.scope (c.len-params.result + c.link_words.result) (length base) body) params
    ∙ ap (λ g. base ++ block_code S.names S.functions S.regions (length ps) g (c.len-params.result + c.link_words.result) (length base) body) scope
    ∙ ap (λ s. base ++ block_code S.names S.functions S.regions (length ps) (params_scope ps 0 γ) s (length base) body) first in
    c.in_ok-close.ensures ∙ ap (λ l. l ++ last) block ∙ append_assoc base whole last

pub returns-clause-scope : goal.returns-clause-scope
returns-clause-scope c =
    let ps = c.args.function.now.params.items in
    let γ = c.args.scope.now in
    let scope : c.block.new.scope ≡ params_scope ps 0 γ = search rules in
    c.truncate.ensures
    ∙ ap (λ g. drop (length g - c.len-visible.result) g) scope
    ∙ ap (λ n. drop (length (params_scope ps 0 γ) - n) (params_scope ps 0 γ)) c.len-visible.ensures
    ∙ params_gone ps 0 γ

pub block-requires-clause-room : goal.block-requires-clause-room
block-requires-clause-room c =
    let f = c.args.function.now in
    let base = c.args.code.now in
    let body = block_view f.body in
    let S = c.args.setting.now in
    let ps = f.params.items in
    let γ = c.args.scope.now in
    let params : c.len-params.result ≡ length ps = search rules in
    let scope : c.declare_params.new.scope ≡ params_scope ps 0 γ = search rules in
    let first : c.len-params.result + c.link_words.result ≡ length ps + link_words (function_view f) = search rules in
    let last = close_code (function_view f) in
    let whole = block_code S.names S.functions S.regions (length ps) (params_scope ps 0 γ) (length ps + link_words (function_view f)) (length base) body in
    let N = c.enter.new.self in
    let own : block_code N.names N.functions N.regions N.params c.declare_params.new.scope (c.len-params.result + c.link_words.result) (length base) body ≡ whole =
    ap (λ (T : Around). block_code T.names T.functions T.regions T.params c.declare_params.new.scope (c.len-params.result + c.link_words.result) (length base) body) c.enter.ensures
    ∙ ap (λ k. block_code S.names S.functions S.regions k c.declare_params.new.scope (c.len-params.result + c.link_words.result) (length base) body) params
    ∙ ap (λ g. block_code S.names S.functions S.regions (length ps) g (c.len-params.result + c.link_words.result) (length base) body) scope
    ∙ ap (λ s. block_code S.names S.functions S.regions (length ps) (params_scope ps 0 γ) s (length base) body) first in
    omega (arith, ap length own, length-append whole last, c.requires.room)

pub block-requires-clause-slots : goal.block-requires-clause-slots
block-requires-clause-slots c =
    let f = c.args.function.now in
    let params : c.len-params.result ≡ length f.params.items = search rules in
    let links : c.link_words.result ≡ link_words (function_view f) = search rules in
    omega (arith, params, links, c.requires.small.short_frame)

pub block-requires-clause-bounded : goal.block-requires-clause-bounded
block-requires-clause-bounded c = c.requires.small.bounded

pub close-requires-clause-room : goal.close-requires-clause-room
close-requires-clause-room c =
    let f = c.args.function.now in
    let base = c.args.code.now in
    let body = block_view f.body in
    let S = c.args.setting.now in
    let ps = f.params.items in
    let γ = c.args.scope.now in
    let params : c.len-params.result ≡ length ps = search rules in
    let scope : c.declare_params.new.scope ≡ params_scope ps 0 γ = search rules in
    let first : c.len-params.result + c.link_words.result ≡ length ps + link_words (function_view f) = search rules in
    let last = close_code (function_view f) in
    let whole = block_code S.names S.functions S.regions (length ps) (params_scope ps 0 γ) (length ps + link_words (function_view f)) (length base) body in
    let block : c.block.new.code ≡ base ++ whole =
    c.in_ok-frame.ensures.code
    ∙ ap (λ (T : Around). base ++ block_code T.names T.functions T.regions T.params c.declare_params.new.scope (c.len-params.result + c.link_words.result) (length base) body) c.enter.ensures
    ∙ ap (λ k. base ++ block_code S.names S.functions S.regions k c.declare_params.new.scope (c.len-params.result + c.link_words.result) (length base) body) params
    ∙ ap (λ g. base ++ block_code S.names S.functions S.regions (length ps) g (c.len-params.result + c.link_words.result) (length base) body) scope
    ∙ ap (λ s. base ++ block_code S.names S.functions S.regions (length ps) (params_scope ps 0 γ) s (length base) body) first in
    omega (arith, ap length block, length-append base whole, length-append whole last, c.requires.room)
