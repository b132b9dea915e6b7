-- What a walk that seeks a declaration sees is the name that the statement declares.
use Rattle.std.proofs.Common.{◌≡◌, refl, sym, ap, ◌∙◌, ℕ, ◌<◌, ◌==◌, length, List, [], ◌∷◌, ◌++◌, Option, Some, cond, map, get_or}
use Rattle.std.specs.List.{find, flat_map}
use Rattle.std.specs.Option.{option_map, option_or, unwrap_or}
use Rattle.std.proofs.lemmas.List.Folds.{find-append}
use Rattle.std.proofs.lemmas.List.{get_or-map, length-map}
use Rattle.oc_tree.specs.Names.{Text}
use Rattle.oc_tree.specs.Tree.{TKind, if_else, for_in, while_do, TElse, no_else, else_do, stmt, TBlock, block, TStmts, no_stmts, more, TFunction, TProgram}
use Rattle.oc_tree.specs.declared.tree.VarId.TheVariants as variables
use Rattle.oc_tree.specs.Places.{Place, Placed, behind, in_branch, in_loop, at_start, kind_placed, else_placed, block_placed, stmts_placed, placed}
use Rattle.oc_tree.proofs.Maps.{map_or, map_cond}
use Rattle.oc_command.specs.Names.{declared_name, variable_name}
use Rattle.oc_command.specs.DeclaredNames.{kind_names, else_names, block_names, stmts_names, functions_names, program_names}

-- the name that the first of these statements with the number `s` declares
abbrev named_among : (s : ℕ) → List Placed → Option Text
named_among s ps = option_map (λ a. declared_name a.kind) (find (λ a. a.id == s) ps)

module _ (s : ℕ) where
  among-append : (xs ys : List Placed) → named_among s (xs ++ ys) ≡ option_or (named_among s xs) (named_among s ys)
  among-append xs ys = ap (option_map (λ a. declared_name a.kind)) (find-append (λ a. a.id == s) xs ys) ∙ map_or (λ a. declared_name a.kind) (find (λ a. a.id == s) xs) (find (λ a. a.id == s) ys)

  among-cons : (a : Placed) (xs : List Placed) → named_among s (a ∷ xs) ≡ cond (a.id == s) (Some (declared_name a.kind)) (named_among s xs)
  among-cons a xs = map_cond (λ b. declared_name b.kind) (a.id == s) (Some a) (find (λ b. b.id == s) xs)

  mutual
    kind_agrees : (at : Place) (id : ℕ) (k : TKind) → named_among s (kind_placed at id k) ≡ kind_names s k
    kind_agrees at id (if_else c a b) = among-append (block_placed (in_branch at id) a) (else_placed (in_branch at id) b)
        ∙ (λ i. option_or (block_agrees (in_branch at id) a i) (else_agrees (in_branch at id) b i))
    kind_agrees at id (for_in x m n b) = block_agrees (in_loop at id ((x, variables.Declared id) ∷ [])) b
    kind_agrees at id (while_do c n b) = block_agrees (in_loop at id []) b
    kind_agrees at id _ = refl

    else_agrees : (at : Place) (b : TElse) → named_among s (else_placed at b) ≡ else_names s b
    else_agrees at no_else = refl
    else_agrees at (else_do b) = block_agrees at b

    block_agrees : (at : Place) (b : TBlock) → named_among s (block_placed at b) ≡ block_names s b
    block_agrees at (block id ss) = stmts_agrees (record at { block = id }) ss

    stmts_agrees : (at : Place) (ss : TStmts) → named_among s (stmts_placed at ss) ≡ stmts_names s ss
    stmts_agrees at no_stmts = refl
    stmts_agrees at (more (stmt id line k) ss) =
        among-cons (record { id = id; line = line; kind = k; at = at }) (kind_placed at id k ++ stmts_placed (behind at id k) ss) ∙
        ap (cond (id == s) (Some (declared_name k)))
        (among-append (kind_placed at id k) (stmts_placed (behind at id k) ss) ∙ (λ i. option_or (kind_agrees at id k i) (stmts_agrees (behind at id k) ss i)))

  functions_agree : (fs : List TFunction) → named_among s (flat_map (λ f. block_placed (at_start f) f.body) fs) ≡ functions_names s fs
  functions_agree [] = refl
  functions_agree (f ∷ fs) = among-append (block_placed (at_start f) f.body) (flat_map (λ g. block_placed (at_start g) g.body) fs)
      ∙ (λ i. option_or (block_agrees (at_start f) f.body i) (functions_agree fs i))

  -- the walk sees the name of the statement that is asked for
  pub names_agree : (p : TProgram) → option_map (λ a. declared_name a.kind) (placed p s) ≡ program_names s p
  names_agree p = functions_agree p.functions

-- what the walk sees is the variable's name
pub declared_is : (p : TProgram) (function s : ℕ) (o : Option Text) → o ≡ program_names s p → unwrap_or o [] ≡ variable_name p function (variables.Declared s)
declared_is p function s o e = ap (λ (q : Option Text). unwrap_or q []) (e ∙ sym (names_agree s p))

-- an element that was read, and what is seen of it
pub seen_at : {X Y : Type 0} (f : X → Y) (xs : List X) (i : ℕ) (x : X) (d : Y) → i < length xs → x ≡ get_or xs i x → f x ≡ get_or (map f xs) i d
seen_at f xs i x d h e = ap f e ∙ sym (get_or-map f xs i x d h)

-- the same where it is seen through a view
pub viewed_at : {X Y Z : Type 0} (f : X → Y) (g : Y → Z) (xs : List X) (i : ℕ) (x : X) (d : Z) → i < length xs → x ≡ get_or xs i x → g (f x) ≡ get_or (map g (map f xs)) i d
viewed_at f g xs i x d h e =
    let within : i < length (map f xs) = rw (length-map xs f) h in
    ap g (seen_at f xs i x (f x) h e) ∙ sym (get_or-map g (map f xs) i (f x) d within)
