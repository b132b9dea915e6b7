-- Tables of functions, as code makes them.
use Rattle.std.proofs.Common.{◌≡◌, ◌<◌, ◌+◌, ◌-◌, ◌++◌, map, ℕ, suc, Bool, true, false, List, [], ◌∷◌, refl, ap, sym, ◌∙◌, subst, arith, append_assoc, filter, inl, inr}
use Rattle.std.specs.Prelude.{◌||◌, ◌&&◌}
use Rattle.oc_tree.specs.declared.tree.VarId.{VarId}
use Rattle.oc_flow.specs.Variables.{is_among, from}
use Rattle.oc_tree.specs.Members.{IsOf}
use Rattle.oc_flow.specs.Flow.{chain}
use Rattle.std.specs.List.{list_any}
use Rattle.oc_effects.specs.Effects.{TEffect}
use Rattle.oc_flow.specs.Known.{TTable, linked, Links, Adds, TKnown, Knowns, KnownBy, table_flows, some_leads, some_brings, outer_of, declared_of}
use Rattle.oc_flow.proofs.Lists.{of_among}

pub range_more : (K : ℕ → VarId) (old new whole : List VarId) (i count : ℕ) → i < count → new ≡ old ++ K i ∷ [] → old ++ map K (from i (count - i)) ≡ whole
    → new ++ map K (from (i + 1) (count - (i + 1))) ≡ whole
range_more K old new whole i count h e all =
    let n : suc (count - (i + 1)) ≡ count - i = omega arith in
    ap (λ l. l ++ map K (from (i + 1) (count - (i + 1)))) e
    ∙ append_assoc old (K i ∷ []) (map K (from (i + 1) (count - (i + 1))))
    ∙ ap (λ m. old ++ map K (from i m)) n
    ∙ all

-- steps that are the same between what is among the variables
pub chain_among : (vs : List VarId) (s t : VarId → VarId → Bool) → ((u v : VarId) → is_among u vs ≡ true → is_among v vs ≡ true → s u v ≡ t u v)
    → (ws : List VarId) → ((w : VarId) → IsOf w ws → is_among w vs ≡ true) → (u v : VarId) → is_among u vs ≡ true → is_among v vs ≡ true → chain s ws u v ≡ chain t ws u v
chain_among vs s t h [] each u v a b = h u v a b
chain_among vs s t h (w ∷ ws) each u v a b =
    let c = each w (inl refl) in
    let rest = chain_among vs s t h ws (λ x i. each x (inr i)) in
    λ i. rest u v a b i || (rest u w a c i && rest w v c b i)

pub table_links : (L : VarId → VarId → Bool) (vs : List VarId) (t0 t1 t2 : TTable) → t0.variables ≡ vs → Links t0 (λ u v. false) → Adds L t0 t1 → t2.variables ≡ t1.variables
    → Links t2 (λ a b. chain (linked t1) t1.variables a b) → Links t2 (λ a b. chain L vs a b)
table_links L vs t0 t1 t2 e none adds f links a b ha hb =
    let g : t1.variables ≡ vs = adds.variables ∙ e in
    let in1 : (x : VarId) → is_among x t2.variables ≡ true → is_among x t1.variables ≡ true = λ x k. subst (λ l. is_among x l ≡ true) f k in
    let in0 : (x : VarId) → is_among x t1.variables ≡ true → is_among x t0.variables ≡ true = λ x k. subst (λ l. is_among x l ≡ true) adds.variables k in
    links a b ha hb
    ∙ chain_among t1.variables (linked t1) L (λ u v hu hv. adds.links u v hu hv ∙ ap (λ x. x || L u v) (none u v (in0 u hu) (in0 v hv))) t1.variables
    (λ w i. of_among w t1.variables i) a b (in1 a ha) (in1 b hb)
    ∙ ap (λ l. chain L l a b) g

pub known_by : (n q : ℕ) (ks : Knowns) (es : List TEffect) (k : TKnown) (t : TTable) (out vs : List VarId) (rs : List Bool) → k ≡ record { table = t; outer = out; received = rs }
    → out ≡ outer_of n q → t.variables ≡ vs → vs ≡ outer_of n q ++ declared_of es
    → Links t (λ a b. chain (some_leads ks es) vs a b) → rs ≡ map (λ y. list_any (λ u. table_flows t u y) (filter (some_brings ks es) t.variables)) t.variables → KnownBy n q ks es k
known_by n q ks es k t out vs rs e o v w links received = subst (KnownBy n q ks es) (sym e) (record {
  outer = o;
  variables = v ∙ w;
  links = λ a b ha hb. links a b ha hb ∙ ap (λ vs. chain (some_leads ks es) vs a b) w;
  received = received;
})
