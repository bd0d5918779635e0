-- How the patterns of a list and of a side grow, pattern by pattern.
use Rattle.std.proofs.Common.{◌≡◌, ℕ, refl, sym, ◌∙◌, ap, subst, List, [], ◌∷◌, ◌++◌}
use Rattle.qs_lex.specs.declared.token.Token.{Token}
use Rattle.qs_lex.specs.Grammar.{comma, plus}
use Rattle.qs_pattern.specs.declared.pattern.Pattern.{Pattern, Node', Tree, Forest}
use Rattle.qs_pattern.specs.Patterns.{Patterns, no_pattern, node_first, tree_var_first, forest_var_first, pattern_before, patterns}
use Rattle.qs_pattern.specs.working.Patterns.{one_pattern}
use Rattle.qs_reader.specs.working.Readers.{Reads, AToken, a_token, Then, then}
use Rattle.qs_ruletext.specs.working.Readers.{ATree, AnItem}
use Rattle.qs_ruletext.specs.Reading.{joined, ReadsTree, ReadsItem, ReadsList, reads_list, ReadsMoreItems, no_more_items, one_more_item, ReadsSide, reads_side, ReadsMoreTrees, no_more_trees, one_more_tree}

pub joined-nil : (ps : Patterns) → joined ps no_pattern ≡ ps
joined-nil no_pattern = refl
joined-nil (node_first h kids ps) = ap (node_first h kids) (joined-nil ps)
joined-nil (tree_var_first v ps) = ap (tree_var_first v) (joined-nil ps)
joined-nil (forest_var_first v ps) = ap (forest_var_first v) (joined-nil ps)

pub joined-assoc : (ps qs rs : Patterns) → joined (joined ps qs) rs ≡ joined ps (joined qs rs)
joined-assoc no_pattern qs rs = refl
joined-assoc (node_first h kids ps) qs rs = ap (node_first h kids) (joined-assoc ps qs rs)
joined-assoc (tree_var_first v ps) qs rs = ap (tree_var_first v) (joined-assoc ps qs rs)
joined-assoc (forest_var_first v ps) qs rs = ap (forest_var_first v) (joined-assoc ps qs rs)

before_joined : (p : Pattern) (qs rs : Patterns) → joined (pattern_before p qs) rs ≡ pattern_before p (joined qs rs)
before_joined (Node' h shape kids) qs rs = refl
before_joined (Tree v) qs rs = refl
before_joined (Forest v) qs rs = refl

pub patterns_push : (ps : List Pattern) (p : Pattern) → patterns (ps ++ p ∷ []) ≡ joined (patterns ps) (one_pattern p)
patterns_push [] p = refl
patterns_push (q ∷ ps) p = ap (pattern_before q) (patterns_push ps p) ∙ sym (before_joined q (patterns ps) (one_pattern p))

-- a list of which these items are read, and whatever is read behind them, is read whole
abbrev pub CompletesList : Patterns → Reads
CompletesList items names text ts rest = (ps : Patterns) (end : List Token) → ReadsMoreItems names text rest ps end → ReadsList names text ts (joined items ps) end

pub list_first : {p : Patterns} (items : Patterns) → items ≡ p → (names : List (List ℕ)) (text : List ℕ) (ts rest : List Token) → ReadsItem names text ts p rest → CompletesList items names text ts rest
list_first items e names text ts rest r ps end m = subst (λ q. ReadsList names text ts (joined q ps) end) (sym e) (reads_list r m)

pub list_next : {p : Patterns} (items longer : Patterns) → longer ≡ joined items p → (names : List (List ℕ)) (text : List ℕ) (ts us rest : List Token)
    → CompletesList items names text ts us → Then (AToken comma) (AnItem p) names text us rest → CompletesList longer names text ts rest
list_next {p} items longer e names text ts us rest before (then (a_token c) r) ps end m =
    subst (λ q. ReadsList names text ts q end) (sym (ap (λ q. joined q ps) e ∙ joined-assoc items p ps)) (before (joined p ps) end (one_more_item c r m))

pub list_last : {items : Patterns} (names : List (List ℕ)) (text : List ℕ) (ts rest : List Token) → CompletesList items names text ts rest → ReadsList names text ts items rest
list_last {items} names text ts rest whole = subst (λ q. ReadsList names text ts q rest) (joined-nil items) (whole no_pattern rest no_more_items)

-- the like for a side
abbrev pub CompletesSide : Patterns → Reads
CompletesSide trees names text ts rest = (ps : Patterns) (end : List Token) → ReadsMoreTrees names text rest ps end → ReadsSide names text ts (joined trees ps) end

pub side_first : {p : Patterns} (trees : Patterns) → trees ≡ p → (names : List (List ℕ)) (text : List ℕ) (ts rest : List Token) → ReadsTree names text ts p rest → CompletesSide trees names text ts rest
side_first trees e names text ts rest r ps end m = subst (λ q. ReadsSide names text ts (joined q ps) end) (sym e) (reads_side r m)

pub side_next : {p : Patterns} (trees longer : Patterns) → longer ≡ joined trees p → (names : List (List ℕ)) (text : List ℕ) (ts us rest : List Token)
    → CompletesSide trees names text ts us → Then (AToken plus) (ATree p) names text us rest → CompletesSide longer names text ts rest
side_next {p} trees longer e names text ts us rest before (then (a_token c) r) ps end m =
    subst (λ q. ReadsSide names text ts q end) (sym (ap (λ q. joined q ps) e ∙ joined-assoc trees p ps)) (before (joined p ps) end (one_more_tree c r m))

pub side_last : {trees : Patterns} (names : List (List ℕ)) (text : List ℕ) (ts rest : List Token) → CompletesSide trees names text ts rest → ReadsSide names text ts trees rest
side_last {trees} names text ts rest whole = subst (λ q. ReadsSide names text ts q rest) (joined-nil trees) (whole no_pattern rest no_more_trees)
