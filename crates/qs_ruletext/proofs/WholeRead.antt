-- What is whole by the grammar is read as a rule, in names that name its labels.
use Rattle.std.proofs.Common.{◌≡◌, ℕ, refl, sym, subst, ⊎_elim, inl, inr, List, ◌∷◌, ◌++◌}
use Rattle.std.specs.Prelude.{◌⊎◌, Option, Some, None}
use Rattle.std.specs.List.{All}
use Rattle.qs_lex.specs.declared.token.Token.{Token}
use Rattle.qs_lex.specs.declared.token.Word.TheVariants.{Dans, Hors, Egal, Et, Ou, Non}
use Rattle.qs_lex.specs.Grammar.{Sort, a_label, a_label_variable, a_tree_variable, a_forest_variable, the_word, opening, closing, comma, plus, slash, equals, stop, part, IsWhole}
use Rattle.qs_lex.proofs.Stopping.{front_of}
use Rattle.qs_lex.proofs.Meanings.{IsOne, is_one, AreMany, none_left, one_behind, Means, whole_means}
use Rattle.qs_pattern.specs.declared.pattern.Head.{Head}
use Rattle.qs_pattern.specs.declared.pattern.Head.TheVariants as head
use Rattle.qs_pattern.specs.Patterns.{Patterns, no_pattern, node_first}
use Rattle.qs_pattern.specs.Conditions.{within, outside, same, Condition, Conditions, compared}
use Rattle.qs_ruletext.specs.WrittenRules.{WrittenRule}
use Rattle.qs_ruletext.specs.Grammar.{Part, rule, side, tree, list, item, cond, conj, neg, prim, line}
use Rattle.qs_ruletext.specs.Reading.{IsHeadOf, ReadsTree, reads_node, reads_tree_variable, ReadsSubtrees, no_parentheses, nothing_inside, list_inside, ReadsList, reads_list, ReadsMoreItems, no_more_items, one_more_item, ReadsItem, reads_tree, reads_forest_variable, ReadsMoreTrees, no_more_trees, one_more_tree, ReadsSide, reads_side, ReadsCond, reads_cond, ReadsMoreConjs, no_more_conjs, one_more_conj, ReadsConj, reads_conj, ReadsMoreNegs, no_more_negs, one_more_neg, ReadsNeg, not_negated, reads_negated, ReadsPrim, reads_group, reads_compared}
use Rattle.qs_ruletext.specs.Rules.{cell_bytes, ReadsCondIfGiven, no_cond, some_cond, reads_rule, ReadsWrittenRule}
use Rattle.qs_ruletext.proofs.KnownTokens.{IsKnown}

module _ (names : List (List ℕ)) (text : List ℕ) where
  abbrev One : Sort → List Token → List Token → Type 0
  One = IsOne (IsKnown names text)

  -- what each part is read as
  abbrev Meant : Part → List Token → List Token → Type 0
  Meant rule ts rest = (r : WrittenRule) × ReadsWrittenRule names text ts r rest
  Meant side ts rest = (p : Patterns) × ReadsSide names text ts p rest
  Meant tree ts rest = (p : Patterns) × ReadsTree names text ts p rest
  Meant list ts rest = (p : Patterns) × ReadsList names text ts p rest
  Meant item ts rest = (p : Patterns) × ReadsItem names text ts p rest
  Meant cond ts rest = (c : Condition) × ReadsCond names text ts c rest
  Meant conj ts rest = (c : Condition) × ReadsConj names text ts c rest
  Meant neg ts rest = (c : Condition) × ReadsNeg names text ts c rest
  Meant prim ts rest = (c : Condition) × ReadsPrim names text ts c rest

  abbrev Meaning : Part → List Token → List Token → Type 0
  Meaning p = Means (IsKnown names text) Meant (line p)

  -- ---- trees and lists

  -- a head, and what stands behind it
  record IsHead (ts rest : List Token) : Type 0 where
    next : Token
    are : ts ≡ next ∷ rest
    head_is : Head
    of : IsHeadOf names text next head_is

  label_head : {ts rest : List Token} → One a_label ts rest → IsHead ts rest
  label_head (is_one {t} e k) = let l = k.label e in record { next = t; are = refl; head_is = head.Label l.0; of = l.1 }

  variable_head : {ts rest : List Token} → One a_label_variable ts rest → IsHead ts rest
  variable_head (is_one {t} e k) = let v = k.variable a_label_variable refl e in record { next = t; are = refl; head_is = head.Var v.0; of = v.1 }

  inside : {a b c d : List Token} → One opening a b → (b ≡ c) ⊎ ((p : Patterns) × ReadsList names text b p c) → One closing c d → (p : Patterns) × ReadsSubtrees names text a p d
  inside (is_one {t} e k) (inl alike) close = by alike close
    where
      by : {b c d : List Token} → b ≡ c → One closing c d → (p : Patterns) × ReadsSubtrees names text (t ∷ b) p d
      by {d} alike (is_one {t = u} f l) = (no_pattern, subst (λ us. ReadsSubtrees names text (t ∷ us) no_pattern d) (sym alike) (nothing_inside e f))
  inside (is_one e k) (inr p) (is_one f l) = (p.0, list_inside e p.1 f)

  subtrees_of : {a d : List Token} → (a ≡ d) ⊎ ((b : List Token) × One opening a b × ((c : List Token) × ((b ≡ c) ⊎ ((p : Patterns) × ReadsList names text b p c)) × One closing c d))
      → (p : Patterns) × ReadsSubtrees names text a p d
  subtrees_of {a} (inl alike) = (no_pattern, subst (λ us. ReadsSubtrees names text a no_pattern us) alike no_parentheses)
  subtrees_of (inr h) = inside h.1 h.2.1 h.2.2

  node : {ts middle rest : List Token} → IsHead ts middle → (p : Patterns) × ReadsSubtrees names text middle p rest → (p : Patterns) × ReadsTree names text ts p rest
  node {rest} h s =
      let p : Patterns = node_first h.head_is s.0 no_pattern in (p, subst (λ us. ReadsTree names text us p rest) (sym h.are) (reads_node h.of s.1))

  tree_of : {ts rest : List Token} → Meaning tree ts rest → Meant tree ts rest
  tree_of (inl m) = node (⊎_elim (λ l. label_head l) (λ v. variable_head v) m.1) (subtrees_of m.2)
  tree_of (inr (is_one e k)) = let v = k.variable a_tree_variable refl e in (_, reads_tree_variable v.1)

  items_of : {ts rest : List Token} → AreMany (λ a c. (b : List Token) × One comma a b × ((p : Patterns) × ReadsItem names text b p c)) ts rest → (p : Patterns) × ReadsMoreItems names text ts p rest
  items_of none_left = (no_pattern, no_more_items)
  items_of (one_behind m more) = by m.1 m.2 (items_of more)
    where
      by : {a b c d : List Token} → One comma a b → (p : Patterns) × ReadsItem names text b p c → (p : Patterns) × ReadsMoreItems names text c p d → (p : Patterns) × ReadsMoreItems names text a p d
      by (is_one e k) p q = (_, one_more_item e p.1 q.1)

  list_of : {ts rest : List Token} → Meaning list ts rest → Meant list ts rest
  list_of m = (_, reads_list m.1.1 (items_of m.2).1)

  item_of : {ts rest : List Token} → Meaning item ts rest → Meant item ts rest
  item_of (inl t) = (t.0, reads_tree t.1)
  item_of (inr (is_one e k)) = let v = k.variable a_forest_variable refl e in (_, reads_forest_variable v.1)

  trees_of : {ts rest : List Token} → AreMany (λ a c. (b : List Token) × One plus a b × ((p : Patterns) × ReadsTree names text b p c)) ts rest → (p : Patterns) × ReadsMoreTrees names text ts p rest
  trees_of none_left = (no_pattern, no_more_trees)
  trees_of (one_behind m more) = by m.1 m.2 (trees_of more)
    where
      by : {a b c d : List Token} → One plus a b → (p : Patterns) × ReadsTree names text b p c → (p : Patterns) × ReadsMoreTrees names text c p d → (p : Patterns) × ReadsMoreTrees names text a p d
      by (is_one e k) p q = (_, one_more_tree e p.1 q.1)

  side_of : {ts rest : List Token} → Meaning side ts rest → Meant side ts rest
  side_of m = (_, reads_side m.1.1 (trees_of m.2).1)

  -- ---- conditions

  conjs_of : {ts rest : List Token} → AreMany (λ a c. (b : List Token) × One (the_word Ou) a b × ((p : Condition) × ReadsConj names text b p c)) ts rest → (cs : Conditions) × ReadsMoreConjs names text ts cs rest
  conjs_of none_left = (_, no_more_conjs)
  conjs_of (one_behind m more) = by m.1 m.2 (conjs_of more)
    where
      by : {a b c d : List Token} → One (the_word Ou) a b → (p : Condition) × ReadsConj names text b p c → (cs : Conditions) × ReadsMoreConjs names text c cs d → (cs : Conditions) × ReadsMoreConjs names text a cs d
      by (is_one e k) p q = (_, one_more_conj e p.1 q.1)

  negs_of : {ts rest : List Token} → AreMany (λ a c. (b : List Token) × One (the_word Et) a b × ((p : Condition) × ReadsNeg names text b p c)) ts rest → (cs : Conditions) × ReadsMoreNegs names text ts cs rest
  negs_of none_left = (_, no_more_negs)
  negs_of (one_behind m more) = by m.1 m.2 (negs_of more)
    where
      by : {a b c d : List Token} → One (the_word Et) a b → (p : Condition) × ReadsNeg names text b p c → (cs : Conditions) × ReadsMoreNegs names text c cs d → (cs : Conditions) × ReadsMoreNegs names text a cs d
      by (is_one e k) p q = (_, one_more_neg e p.1 q.1)

  neg_of : {a b rest : List Token} → (a ≡ b) ⊎ One (the_word Non) a b → (c : Condition) × ReadsPrim names text b c rest → (c : Condition) × ReadsNeg names text a c rest
  neg_of {rest} (inl alike) p = (p.0, not_negated (subst (λ us. ReadsPrim names text us p.0 rest) (sym alike) p.1))
  neg_of (inr (is_one e k)) p = (_, reads_negated e p.1)

  group_of : {a b c d : List Token} → One opening a b → (p : Condition) × ReadsCond names text b p c → One closing c d → (p : Condition) × ReadsPrim names text a p d
  group_of (is_one e k) p (is_one f l) = (p.0, reads_group e p.1 f)

  comparison_of : {a b c d : List Token} → (p : Patterns) × ReadsList names text a p b → One (the_word Dans) b c ⊎ (One (the_word Hors) b c ⊎ One (the_word Egal) b c) → (p : Patterns) × ReadsList names text c p d
      → (p : Condition) × ReadsPrim names text a p d
  comparison_of p (inl (is_one e k)) q = (compared within p.0 q.0, reads_compared p.1 e q.1)
  comparison_of p (inr (inl (is_one e k))) q = (compared outside p.0 q.0, reads_compared p.1 e q.1)
  comparison_of p (inr (inr (is_one e k))) q = (compared same p.0 q.0, reads_compared p.1 e q.1)

  prim_of : {ts rest : List Token} → Meaning prim ts rest → Meant prim ts rest
  prim_of (inl m) = group_of m.1 m.2.1 m.2.2
  prim_of (inr m) = comparison_of m.1 m.2.1 m.2.2

  -- ---- rules

  cond_of : {ts rest : List Token} → (ts ≡ rest) ⊎ ((b : List Token) × One slash ts b × ((c : Condition) × ReadsCond names text b c rest)) → (o : Option Condition) × ReadsCondIfGiven names text ts o rest
  cond_of {ts} (inl alike) = (None, subst (λ us. ReadsCondIfGiven names text ts None us) alike no_cond)
  cond_of (inr h) = by h.1 h.2
    where
      by : {a b c : List Token} → One slash a b → (p : Condition) × ReadsCond names text b p c → (o : Option Condition) × ReadsCondIfGiven names text a o c
      by (is_one e k) p = (Some p.0, some_cond e p.1)

  rule_of : {a b c d e rest : List Token} → (p : Patterns) × ReadsSide names text a p b → One equals b c → (p : Patterns) × ReadsSide names text c p d
      → (o : Option Condition) × ReadsCondIfGiven names text d o e → One stop e rest → (tokens : List Token) → a ≡ tokens ++ rest → Meant rule a rest
  rule_of l (is_one g k) r o (is_one h m) tokens are = (
    record { rule = record { left = l.0; right = r.0; condition = o.0 }; at = cell_bytes tokens },
    record { rule = reads_rule l.1 g r.1 o.1 h; tokens = tokens; are = are; at = refl },
  )

  lines : (p : Part) (ts rest : List Token) → All (IsKnown names text) ts → IsWhole line (part p) ts rest → Meaning p ts rest → Meant p ts rest
  lines rule ts rest all w m = let f = front_of w in rule_of m.1 m.2.1 m.2.2.1 (cond_of m.2.2.2.1) m.2.2.2.2 f.front f.are
  lines side ts rest all w m = side_of m
  lines tree ts rest all w m = tree_of m
  lines list ts rest all w m = list_of m
  lines item ts rest all w m = item_of m
  lines cond ts rest all w m = (_, reads_cond m.1.1 (conjs_of m.2).1)
  lines conj ts rest all w m = (_, reads_conj m.1.1 (negs_of m.2).1)
  lines neg ts rest all w m = neg_of m.1 m.2
  lines prim ts rest all w m = prim_of m

  -- a whole rule of known tokens is read
  pub rule_read : {ts rest : List Token} → All (IsKnown names text) ts → IsWhole line (part rule) ts rest → (r : WrittenRule) × ReadsWrittenRule names text ts r rest
  rule_read all w = whole_means line (IsKnown names text) Meant lines all w
