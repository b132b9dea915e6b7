-- Which number leads to which, where some lead to others directly.
use Rattle.std.specs.Prelude.{ℕ, zero, suc, ◌+◌, Bool, true, false, ◌&&◌, ◌||◌, List, nat_eq}
use Rattle.std.specs.List.{list_any}

-- the pairs of which the first leads directly to the second
abbrev pub Links : Type 0
Links = List (ℕ × ℕ)

-- a pair is the link from `u` to `v`
abbrev pub is_link : ℕ → ℕ → (ℕ × ℕ) → Bool
is_link u v l = nat_eq l.0 u && nat_eq l.1 v

-- `u` leads directly to `v`
abbrev pub linked : Links → ℕ → ℕ → Bool
linked links u v = list_any (is_link u v) links

-- `u` leads to `v` directly, or through numbers below `n`
abbrev pub leads : Links → ℕ → ℕ → ℕ → Bool
leads links zero u v = linked links u v
leads links (suc n) u v = leads links n u v || (leads links n u n && leads links n n v)

-- `u` is `v`, or leads to it
abbrev pub reaches : Links → ℕ → ℕ → ℕ → Bool
reaches links n u v = nat_eq u v || leads links n u v

-- a number below `n` has the property
abbrev pub some_below : ℕ → (ℕ → Bool) → Bool
some_below zero p = false
some_below (suc n) p = p n || some_below n p

-- `u` has the property, or leads to a number that has it
abbrev pub reaches_some : Links → ℕ → (ℕ → Bool) → ℕ → Bool
reaches_some links n p u = some_below n (λ v. p v && reaches links n u v)

-- 1 where it holds, else 0
abbrev pub one : Bool → ℕ
one true = 1
one false = 0

-- how many numbers below `n` have the property
abbrev pub count_below : (ℕ → Bool) → ℕ → ℕ
count_below p zero = 0
count_below p (suc n) = one (p n) + count_below p n

-- to how many numbers `u` leads. Where none leads to itself, it falls along every link
abbrev pub rank : Links → ℕ → ℕ → ℕ
rank links n u = count_below (leads links n u) n
