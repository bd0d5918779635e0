-- Patterns that are written are read as they were: as a list in a condition, below a node, and as a side of a rule.
use Rattle.std.proofs.Common.{ℕ, ◌≤◌, refl, sym, ap, subst, List, [], ◌∷◌, ◌++◌, length, arith, codes}
use Rattle.std.specs.List.{flat_map}
use Rattle.qs_lex.specs.declared.token.Kind.TheVariants.{Opening, Closing, Comma, Plus}
use Rattle.qs_lex.specs.Grammar.{sort_of}
use Rattle.qs_pattern.specs.declared.variable.Var.{Var}
use Rattle.qs_pattern.specs.declared.pattern.Head.{Head}
use Rattle.qs_pattern.specs.Variables.{IsTreeVar, IsForestVar}
use Rattle.qs_pattern.specs.Patterns.{Patterns, no_pattern, node_first, tree_var_first, forest_var_first, count, IsHeadInClass, AreInClass, NoForestAtTop}
use Rattle.qs_pattern.specs.Named.{IsHeadNamed, ArePatternsNamed}
use Rattle.qs_ruletext.specs.Reading.{joined, ReadsTree, reads_node, reads_tree_variable, ReadsSubtrees, no_parentheses, list_inside, ReadsList, reads_list, ReadsMoreItems, no_more_items, one_more_item, ReadsItem, reads_tree, reads_forest_variable, ReadsMoreTrees, no_more_trees, one_more_tree, ReadsSide, reads_side}
use Rattle.qs_ruletext.specs.Texts.{variable_text, head_text, kids_text, pattern_texts, list_text, side_text, in_parentheses}
use Rattle.qs_ruletext.specs.Written.{AreOnOneLine}
use Rattle.qs_ruletext.proofs.ReadBack.{Goes, both, turned, nothing, token, spaced}
use Rattle.qs_ruletext.proofs.HeadsReadBack.{Closes, head_goes, tree_variable_goes, forest_variable_goes}

-- before a comma, a parenthesis and a space everything closes
commas_close : (texts : List (List ℕ)) (left : List ℕ) → Closes left → Closes (flat_map (λ t. codes "," ++ t) texts ++ left)
commas_close [] left c = c
commas_close (t ∷ ts) left c = refl

pluses_close : (texts : List (List ℕ)) (left : List ℕ) → Closes left → Closes (flat_map (λ t. codes " + " ++ t) texts ++ left)
pluses_close [] left c = c
pluses_close (t ∷ ts) left c = refl

pub kids_close : (texts : List (List ℕ)) (left : List ℕ) → Closes left → Closes (kids_text texts ++ left)
kids_close [] left c = c
kids_close (t ∷ ts) left c = refl

module _ (names : List (List ℕ)) (text : List ℕ) (line : AreOnOneLine names) where
  -- these patterns behind commas, and behind pluses
  abbrev commas : Patterns → List ℕ
  commas ps = flat_map (λ t. codes "," ++ t) (pattern_texts names ps)

  abbrev pluses : Patterns → List ℕ
  pluses ps = flat_map (λ t. codes " + " ++ t) (pattern_texts names ps)

  abbrev ItemGoes : Patterns → List ℕ → Type 0
  ItemGoes p piece = (left : List ℕ) → Closes left → Goes text (λ ts rest. ReadsItem names text ts p rest) piece left

  abbrev TreeGoes : Patterns → List ℕ → Type 0
  TreeGoes p piece = (left : List ℕ) → Closes left → Goes text (λ ts rest. ReadsTree names text ts p rest) piece left

  abbrev MoreItemsGo : Patterns → List ℕ → Type 0
  MoreItemsGo ps piece = (left : List ℕ) → Closes left → Goes text (λ ts rest. ReadsMoreItems names text ts ps rest) piece left

  abbrev ListGoes : Patterns → List ℕ → Type 0
  ListGoes ps piece = (left : List ℕ) → Closes left → 1 ≤ count ps → Goes text (λ ts rest. ReadsList names text ts ps rest) piece left

  abbrev MoreTreesGo : Patterns → List ℕ → Type 0
  MoreTreesGo ps piece = (left : List ℕ) → Closes left → Goes text (λ ts rest. ReadsMoreTrees names text ts ps rest) piece left

  abbrev SideGoes : Patterns → List ℕ → Type 0
  SideGoes ps piece = (left : List ℕ) → Closes left → 1 ≤ count ps → Goes text (λ ts rest. ReadsSide names text ts ps rest) piece left

  -- below a node
  abbrev KidsGo : Patterns → Type 0
  KidsGo ps = (left : List ℕ) → Goes text (λ ts rest. ReadsSubtrees names text ts ps rest) (kids_text (pattern_texts names ps)) left

  in_parentheses_goes : (ps : Patterns) → ListGoes ps (list_text names ps) → 1 ≤ count ps → (left : List ℕ)
      → Goes text (λ ts rest. ReadsSubtrees names text ts ps rest) (in_parentheses (list_text names ps)) left
  in_parentheses_goes ps goes some left =
      turned text (in_parentheses (list_text names ps)) left
      (λ ts rest x.
      let inside = subst (λ us. ReadsList names text x.0 ps us) x.2.2.1 x.2.1 in
      subst (λ us. ReadsSubtrees names text us ps rest) (sym x.1.1) (list_inside (ap sort_of x.1.2) inside (ap sort_of x.2.2.2)))
      (both text (codes "(") (list_text names ps ++ codes ")") left
      (token text Opening tt (codes "(") ((list_text names ps ++ codes ")") ++ left) refl tt refl)
      (both text (list_text names ps) (codes ")") left (goes (codes ")" ++ left) refl some) (token text Closing tt (codes ")") left refl tt refl)))

  kids_go : (ps : Patterns) → ListGoes ps (list_text names ps) → KidsGo ps
  kids_go no_pattern goes left = turned text [] left (λ ts rest e. subst (λ us. ReadsSubtrees names text ts no_pattern us) e no_parentheses) (nothing text left)
  kids_go (node_first h kids ps) goes left = in_parentheses_goes (node_first h kids ps) goes (omega arith) left
  kids_go (tree_var_first v ps) goes left = in_parentheses_goes (tree_var_first v ps) goes (omega arith) left
  kids_go (forest_var_first v ps) goes left = in_parentheses_goes (forest_var_first v ps) goes (omega arith) left

  -- one pattern
  node_goes : (h : Head) (kids : Patterns) → IsHeadNamed (length names) h → IsHeadInClass h → KidsGo kids
      → TreeGoes (node_first h kids no_pattern) (head_text names h ++ kids_text (pattern_texts names kids))
  node_goes h kids named class go left c =
      let below : List ℕ = kids_text (pattern_texts names kids) in
      turned text (head_text names h ++ below) left
      (λ ts rest x. subst (λ us. ReadsTree names text us (node_first h kids no_pattern) rest) (sym x.1.1) (reads_node x.1.2 x.2))
      (both text (head_text names h) below left (head_goes text names h (below ++ left) line named class (kids_close (pattern_texts names kids) left c)) (go left))

  tree_var_goes : (v : Var) → IsTreeVar v → TreeGoes (tree_var_first v no_pattern) (variable_text v)
  tree_var_goes v is left c =
      turned text (variable_text v) left
      (λ ts rest x. subst (λ us. ReadsTree names text us (tree_var_first v no_pattern) rest) (sym x.1) (reads_tree_variable x.2))
      (tree_variable_goes text v left is c)

  forest_var_goes : (v : Var) → IsForestVar v → ItemGoes (forest_var_first v no_pattern) (variable_text v)
  forest_var_goes v is left c =
      turned text (variable_text v) left
      (λ ts rest x. subst (λ us. ReadsItem names text us (forest_var_first v no_pattern) rest) (sym x.1) (reads_forest_variable x.2))
      (forest_variable_goes text v left is c)

  as_item : (p : Patterns) (piece : List ℕ) → TreeGoes p piece → ItemGoes p piece
  as_item p piece go left c = turned text piece left (λ ts rest x. reads_tree x) (go left c)

  -- one more pattern in front
  one_item : (p ps : Patterns) (piece : List ℕ) → ItemGoes p piece → MoreItemsGo ps (commas ps)
      → MoreItemsGo (joined p ps) ((codes "," ++ piece) ++ commas ps) × ListGoes (joined p ps) (piece ++ commas ps)
  one_item p ps piece go more = (
    λ left c.
        turned text ((codes "," ++ piece) ++ commas ps) left
        (λ ts rest x. subst (λ us. ReadsMoreItems names text us (joined p ps) rest) (sym x.1.1.1) (one_more_item (ap sort_of x.1.1.2) x.1.2 x.2))
        (both text (codes "," ++ piece) (commas ps) left
        (both text (codes ",") piece (commas ps ++ left) (token text Comma tt (codes ",") (piece ++ (commas ps ++ left)) refl tt refl) (go (commas ps ++ left) (commas_close (pattern_texts names ps) left c)))
        (more left c)),
    λ left c some.
        turned text (piece ++ commas ps) left (λ ts rest x. reads_list x.1 x.2)
        (both text piece (commas ps) left (go (commas ps ++ left) (commas_close (pattern_texts names ps) left c)) (more left c)),
  )

  pub lists_go : (ps : Patterns) → ArePatternsNamed (length names) ps → AreInClass ps → MoreItemsGo ps (commas ps) × ListGoes ps (list_text names ps)
  lists_go no_pattern named class = (
    λ left c. turned text [] left (λ ts rest e. subst (λ us. ReadsMoreItems names text ts no_pattern us) e no_more_items) (nothing text left),
    λ left c some. absurd (omega arith),
  )
  lists_go (node_first h kids ps) named class =
      let piece : List ℕ = head_text names h ++ kids_text (pattern_texts names kids) in
      one_item (node_first h kids no_pattern) ps piece
      (as_item (node_first h kids no_pattern) piece (node_goes h kids named.0 class.0 (kids_go kids (lists_go kids named.1 class.1).1)))
      (lists_go ps named.2 class.2).0
  lists_go (tree_var_first v ps) named class =
      one_item (tree_var_first v no_pattern) ps (variable_text v) (as_item (tree_var_first v no_pattern) (variable_text v) (tree_var_goes v class.0)) (lists_go ps named class.1).0
  lists_go (forest_var_first v ps) named class =
      one_item (forest_var_first v no_pattern) ps (variable_text v) (forest_var_goes v class.0) (lists_go ps named class.1).0

  one_tree : (p ps : Patterns) (piece : List ℕ) → TreeGoes p piece → MoreTreesGo ps (pluses ps)
      → MoreTreesGo (joined p ps) ((codes " + " ++ piece) ++ pluses ps) × SideGoes (joined p ps) (piece ++ pluses ps)
  one_tree p ps piece go more = (
    λ left c.
        turned text ((codes " + " ++ piece) ++ pluses ps) left
        (λ ts rest x. subst (λ us. ReadsMoreTrees names text us (joined p ps) rest) (sym x.1.1.1) (one_more_tree (ap sort_of x.1.1.2) x.1.2 x.2))
        (both text (codes " + " ++ piece) (pluses ps) left
        (both text (codes " + ") piece (pluses ps ++ left) (spaced text Plus tt (codes "+") (piece ++ (pluses ps ++ left)) refl tt refl) (go (pluses ps ++ left) (pluses_close (pattern_texts names ps) left c)))
        (more left c)),
    λ left c some.
        turned text (piece ++ pluses ps) left (λ ts rest x. reads_side x.1 x.2)
        (both text piece (pluses ps) left (go (pluses ps ++ left) (pluses_close (pattern_texts names ps) left c)) (more left c)),
  )

  pub sides_go : (ps : Patterns) → ArePatternsNamed (length names) ps → AreInClass ps → NoForestAtTop ps → MoreTreesGo ps (pluses ps) × SideGoes ps (side_text names ps)
  sides_go no_pattern named class top = (
    λ left c. turned text [] left (λ ts rest e. subst (λ us. ReadsMoreTrees names text ts no_pattern us) e no_more_trees) (nothing text left),
    λ left c some. absurd (omega arith),
  )
  sides_go (node_first h kids ps) named class top =
      one_tree (node_first h kids no_pattern) ps (head_text names h ++ kids_text (pattern_texts names kids))
      (node_goes h kids named.0 class.0 (kids_go kids (lists_go kids named.1 class.1).1))
      (sides_go ps named.2 class.2 top).0
  sides_go (tree_var_first v ps) named class top =
      one_tree (tree_var_first v no_pattern) ps (variable_text v) (tree_var_goes v class.0) (sides_go ps named class.1 top).0
  sides_go (forest_var_first v ps) named class top = absurd top
