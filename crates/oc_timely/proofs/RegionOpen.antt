-- While a list of statements goes through one region, that is open.
use Rattle.std.proofs.Common.{◌≡◌, ◌⊎◌, inl, inr, ℕ, ◌<◌, ◌≤◌, Bool, List, Option, Some, None, refl, ap, arith}
use Rattle.oc_tree.specs.Tree.{TProgram}
use Rattle.oc_tree.specs.Places.{Placed}
use Rattle.oc_tree.specs.Marked.{TRegion, TMarked}
use Rattle.oc_meaning.specs.Store.{Store}
use Rattle.oc_meaning.specs.Exec.{begun_by, ended_by, opened}
use Rattle.oc_tree.specs.Members.{IsOf}
use Rattle.oc_timely.specs.Laid.{Static}
use Rattle.oc_timely.proofs.Directly.{begun_none, begun_some, ended_some, Direct, either, same_at, begins_at, ends_at}

module _ (m : TMarked) (guarded : ℕ → Bool) (f : ℕ) (body : List Placed) (facts : Static m guarded f body) (q : TRegion) (one : IsOf q m.regions) where
  abbrev p : TProgram
  p = m.program

  -- behind its first statement none begins
  pub none_begins : (s : ℕ) → Direct p q s → q.first < s → begun_by m.regions s ≡ None
  none_begins s d l = by (begun_by m.regions s) refl
    where
      by : (o : Option ℕ) → begun_by m.regions s ≡ o → o ≡ None
      by None e = refl
      by (Some y) e =
          let r = begun_some m.regions s y e in
          let same = same_at m guarded f body facts r.0 q s r.1 one (begins_at m guarded f body facts r.0 s r.1 r.2) d in
          let first : r.0.first ≡ q.first = ap (λ (z : TRegion). z.first) same in
          let at = r.2 in
          absurd (omega (arith, l, first, at))

  -- before its last none ends
  pub none_ends : (s : ℕ) → Direct p q s → s < q.last → ended_by m.regions s ≡ None
  none_ends s d l = by (ended_by m.regions s) refl
    where
      by : (o : Option ℕ) → ended_by m.regions s ≡ o → o ≡ None
      by None e = refl
      by (Some y) e =
          let r = ended_some m.regions s y e in
          let same = same_at m guarded f body facts r.0 q s r.1 one (ends_at m guarded f body facts r.0 s r.1 r.2) d in
          let last : r.0.last ≡ q.last = ap (λ (z : TRegion). z.last) same in
          let at = r.2 in
          absurd (omega (arith, l, last, at))

  -- at its statements it is open
  pub open_at : (s : ℕ) (σ : Store) → Direct p q s → (q.first < s → 0 < σ.depth) → 0 < (opened (begun_by m.regions s) σ).depth
  open_at s σ d h = by (either s q.first) (begun_by m.regions s) refl
    where
      by : (q.first ≤ s) ⊎ (s < q.first) → (o : Option ℕ) → begun_by m.regions s ≡ o → 0 < (opened o σ).depth
      by x (Some r) e = omega arith
      by (inr l) None e = absurd (let k = d.low in omega (arith, k, l))
      by (inl l) None e = later (either q.first s)
        where
          later : (s ≤ q.first) ⊎ (q.first < s) → 0 < σ.depth
          later (inr k) = h k
          later (inl k) = absurd (begun_none m.regions s q e one (omega (arith, l, k)))
