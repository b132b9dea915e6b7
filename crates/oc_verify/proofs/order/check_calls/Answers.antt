use Rattle.std.proofs.Common.{rules, ◌≡◌, ◌<◌, ◌≤◌, ℕ, List, length, get_or, ap, refl, sym, subst, ◌∙◌}
use Rattle.oc_isa.specs.Image.{Parts}
use Rattle.oc_tree.specs.Reach.{Links, count_below, linked, reaches}
use Rattle.oc_verify.specs.Rules.{calls_of}
use Rattle.oc_verify.proofs.OrderLaws.{blame_falls, links_within, ranked_by}
use Rattle.oc_verify.proofs.order.check_calls.Goals as goal

pub new-requires : goal.new-requires
new-requires c = λ u v h.
    let q : c.in_ok-copy.copy.items ≡ calls_of c.args.facts.now = c.in_ok-copy.ensures.items ∙ c.deref.ensures.value ∙ c.in_ok-links.ensures ∙ ap calls_of c.image-image.ensures.image in
    let s : c.len.result ≡ length c.image-image.result.now.functions.items = search rules in
    let n : c.len.result ≡ length c.args.facts.now.functions = s ∙ ap (λ (k : Parts). length k.functions) c.image-image.ensures.image in
    let w = links_within c.args.facts.now c.image-image.ensures.laid.laid c.requires u v (ap (λ g. linked g u v) (sym q) ∙ h) in
    (subst (λ m. u < m) (sym n) w.0, subst (λ m. v < m) (sym n) w.1)

pub returns-in_err-check_falls-clause-blames : goal.returns-in_err-check_falls-clause-blames
returns-in_err-check_falls-clause-blames c =
    let F : Parts = c.args.facts.now in
    let q : c.in_ok-copy.copy.items ≡ calls_of F = c.in_ok-copy.ensures.items ∙ c.deref.ensures.value ∙ c.in_ok-links.ensures ∙ ap calls_of c.image-image.ensures.image in
    let s : c.len.result ≡ length c.image-image.result.now.functions.items = search rules in
    let n : c.len.result ≡ length F.functions = s ∙ ap (λ (k : Parts). length k.functions) c.image-image.ensures.image in
    let p : ◌≡◌ {A = Links × ℕ} c.in_ok-reach.reach (calls_of F, length F.functions) = c.in_ok-reach.ensures ∙ (λ j. (q j, n j)) in
    let xs : List ℕ = c.in_ok-ranks.ranks.items in
    let is : (u : ℕ) → u < length F.functions → get_or xs u 0 ≡ count_below (reaches (calls_of F) (length F.functions) u) (length F.functions) =
    subst (λ (r : Links × ℕ). (u : ℕ) → u < r.1 → get_or xs u 0 ≡ count_below (reaches r.0 r.1 u) r.1) p c.in_ok-ranks.ensures.ranks in
    let lsq : c.deref-2.result.now ≡ calls_of F = c.deref-2.ensures.value ∙ c.in_ok-links.ensures ∙ ap calls_of c.image-image.ensures.image in
    let x = c.in_err-check_falls.ensures.fault in
    let b = blame_falls F c.image-image.ensures.laid.laid c.requires (calls_of F) refl xs is _
    (x.0, x.1, sym (ap (λ g. linked g x.0 x.1) lsq) ∙ x.2, subst (λ ys. get_or ys x.0 0 ≤ get_or ys x.1 0) c.deref-3.ensures.value x.3, x.4) in
    search rules

pub returns-clause-ranked : goal.returns-clause-ranked
returns-clause-ranked c =
    let F : Parts = c.args.facts.now in
    let q : c.in_ok-copy.copy.items ≡ calls_of F = c.in_ok-copy.ensures.items ∙ c.deref.ensures.value ∙ c.in_ok-links.ensures ∙ ap calls_of c.image-image.ensures.image in
    let s : c.len.result ≡ length c.image-image.result.now.functions.items = search rules in
    let n : c.len.result ≡ length F.functions = s ∙ ap (λ (k : Parts). length k.functions) c.image-image.ensures.image in
    let p : ◌≡◌ {A = Links × ℕ} c.in_ok-reach.reach (calls_of F, length F.functions) = c.in_ok-reach.ensures ∙ (λ j. (q j, n j)) in
    let xs : List ℕ = c.in_ok-ranks.ranks.items in
    let is : (u : ℕ) → u < length F.functions → get_or xs u 0 ≡ count_below (reaches (calls_of F) (length F.functions) u) (length F.functions) =
    subst (λ (r : Links × ℕ). (u : ℕ) → u < r.1 → get_or xs u 0 ≡ count_below (reaches r.0 r.1 u) r.1) p c.in_ok-ranks.ensures.ranks in
    let lsq : c.deref-2.result.now ≡ calls_of F = c.deref-2.ensures.value ∙ c.in_ok-links.ensures ∙ ap calls_of c.image-image.ensures.image in
    ranked_by F (calls_of F) refl xs (c.in_ok-ranks.ensures.sized ∙ ap (λ (r : Links × ℕ). r.1) p) is
    (λ u v h. subst (λ ys. get_or ys v 0 < get_or ys u 0) c.deref-3.ensures.value (c.in_ok-check_falls.ensures.falls u v (ap (λ g. linked g u v) lsq ∙ h)))
