-- The rules by their numbers, and the first element that breaks one.
use Rattle.std.specs.Prelude.{ℕ, Bool, not, List, [], ◌∷◌, Option, Some, None, cond, nat_lt}
use Rattle.std.specs.List.{list_any}
use Rattle.oc_tree.specs.Tree.{TKind, TProgram}
use Rattle.oc_tree.specs.declared.before.Before.{Before}
use Rattle.oc_tree.specs.declared.broken.Broken.{Broken}
use Rattle.oc_tree.specs.Pulls.{own_skips}
use Rattle.oc_tree.specs.Scope.{nv_kind, takes_param}
use Rattle.oc_tree.specs.Elements.{Item, sensor_item, port_item, nv_item, function_item, Here, Element, declared, statement, ending, line_of, program_elements}
use Rattle.oc_tree.specs.Limits.{Tally, nothing_counted, counted, item_passes, statement_passes}
use Rattle.oc_tree.specs.Sizes.{weight_limit, word_limit}
use Rattle.oc_tree.specs.Weight.{weights}
use Rattle.oc_tree.specs.Stack.{stack_words}
use Rattle.oc_tree.specs.Rules.{declared_before, takes_name, own_known, main_head, calls_main, main_missing, own_fits, sides_differ, condition_is_number, args_differ}
use Rattle.oc_tree.specs.Rules.{result_missing, has_bad_length, let_bad_length, is_array_value, target_fixed, array_fixed, pointee_fixed, lends_fixed, lent_twice, exposes_nv}
use Rattle.oc_tree.specs.Rules.{annotates_other, calls_back, return_missing, returns_elsewhere, has_many_turns, pulls_disturb}

-- rules by their numbers, each with whether it is broken
abbrev pub Table : Type 0
Table = List (ℕ × Bool)

-- which rules speak of a declaration or a function's head, and whether it breaks them
abbrev pub item_rules : TProgram → Tally → Before → Item → Table
item_rules p n b (sensor_item x) =
    (1, declared_before p b x) ∷
    (22, item_passes n b (sensor_item x)) ∷ []
item_rules p n b (port_item x) =
    (1, declared_before p b x) ∷
    (22, item_passes n b (port_item x)) ∷ []
item_rules p n b (nv_item x d) =
    (1, declared_before p b x) ∷
    (10, has_bad_length (nv_kind d)) ∷
    (22, item_passes n b (nv_item x d)) ∷ []
item_rules p n b (function_item f) =
    (1, declared_before p b f.name) ∷
    (2, takes_param p [] f.params) ∷
    (4, main_head f) ∷
    (10, list_any (λ q. has_bad_length q.kind) f.params) ∷
    (17, list_any is_array_value f.params) ∷
    (19, return_missing f) ∷
    (22, item_passes n b (function_item f)) ∷ []

-- which rules speak of a statement itself, and whether it breaks them
abbrev pub statement_rules : TProgram → Tally → Here → TKind → Table
statement_rules p n h k =
    (2, takes_name p h.scope k) ∷
    (3, not (own_known p h.scope k)) ∷
    (4, calls_main k) ∷
    (5, not (own_fits p h.scope k)) ∷
    (6, sides_differ p h.scope k) ∷
    (7, condition_is_number p h.scope k) ∷
    (8, args_differ p h.scope k) ∷
    (9, result_missing p k) ∷
    (10, let_bad_length k) ∷
    (11, target_fixed p h.scope k) ∷
    (12, array_fixed p h.scope k) ∷
    (13, pointee_fixed p h.scope k) ∷
    (14, lends_fixed p h.scope k) ∷
    (15, lent_twice p k) ∷
    (16, exposes_nv p h.scope k) ∷
    (18, annotates_other h k) ∷
    (19, returns_elsewhere p h k) ∷
    (20, calls_back p h.number k) ∷
    (21, has_many_turns k) ∷
    (22, statement_passes n) ∷
    (25, own_skips k) ∷
    (26, pulls_disturb p k) ∷ []

-- which rule speaks of the end of the source, and whether it is broken
abbrev pub end_rules : TProgram → Table
end_rules p = (4, main_missing p) ∷ []

-- which rules speak of an element, and whether it breaks them, where `n` counts up to it
abbrev pub rules_of : TProgram → Tally → Element → Table
rules_of p n (declared b line i) = item_rules p n b i
rules_of p n (statement h id line k) = statement_rules p n h k
rules_of p n (ending line) = end_rules p

-- the first rule of a table, whose numbers rise, that is broken
abbrev pub lowest : Table → Option ℕ
lowest [] = None
lowest (t ∷ ts) = cond t.1 (Some t.0) (lowest ts)

-- the rule that an element in this line breaks, or else what a later element breaks
abbrev pub or_later : (line : ℕ) → Option ℕ → Option Broken → Option Broken
or_later line (Some rule) later = Some (record { line = line; rule = rule })
or_later line None later = later

-- the first of the elements that breaks a rule, and the lowest rule there, where `n` counts what
-- stands before them
abbrev pub first_broken : TProgram → Tally → List Element → Option Broken
first_broken p n [] = None
first_broken p n (e ∷ es) =
    or_later (line_of e) (lowest (rules_of p (counted n e) e)) (first_broken p (counted n e) es)

-- the first element that breaks a rule other than on weight or stack, and the lowest one
abbrev pub broken_element : TProgram → Option Broken
broken_element p = first_broken p nothing_counted (program_elements p)

-- The rules on weight and stack, which are looked at where no other rule is broken: a function
-- weighs more than 2^32, or `main` takes more than 65,536 words of stack.
abbrev pub size_rules : TProgram → Table
size_rules p =
    (23, list_any (nat_lt weight_limit) (weights p)) ∷
    (24, nat_lt word_limit (stack_words p)) ∷ []

-- the element that breaks a rule, or else the broken rule on weight or stack, in the last line
abbrev pub or_size : TProgram → Option Broken → Option Broken
or_size p (Some b) = Some b
or_size p None = or_later p.last_line (lowest (size_rules p)) None

-- the first element of a program that breaks a rule, if any, and the lowest rule there
abbrev pub broken : TProgram → Option Broken
broken p = or_size p (broken_element p)
