-- What is read from tokens can be checked.
use Rattle.std.proofs.Common.{◌≡◌, ℕ, ◌+◌, ◌≤◌, Bool, true, false, IsTrue, List, [], ◌∷◌, ◌++◌, length, map, Option, refl, sym, ◌∙◌, ap, arith}
use Rattle.std.specs.Prelude.{if◌then◌else◌, filter, nat_le, ◌&&◌, ◌||◌}
use Rattle.std.proofs.lemmas.Bool.Decides.{nat_tests}
use Rattle.qs_lex.specs.declared.token.Token.{Token}
use Rattle.qs_lex.specs.declared.token.Kind.{Kind}
use Rattle.qs_lex.specs.declared.token.Kind.TheVariants.{Bare, Quoted, Variable, Node as a_node, Word as a_word, Opening, Closing, Comma, Plus, Slash, Equals, Stop}
use Rattle.qs_lex.specs.Grammar.{Sort, a_label, a_label_variable, a_tree_variable, a_forest_variable, sort_of, variable_sort}
use Rattle.qs_lex.specs.Spelling.{IsLabelText}
use Rattle.qs_pattern.specs.declared.variable.Var.{Var}
use Rattle.qs_pattern.specs.declared.pattern.Head.{Head}
use Rattle.qs_pattern.specs.declared.pattern.Head.TheVariants as head
use Rattle.qs_pattern.specs.Letters.{is_variable_letter}
use Rattle.qs_pattern.specs.Patterns.{Patterns, no_pattern, node_first, tree_var_first, forest_var_first, count, cells, AreInClass, IsHeadInClass, NoForestAtTop}
use Rattle.qs_pattern.specs.Conditions.{Condition, Conditions, no_condition, condition_first, condition_cells, IsConditionInClass, HasEnoughMembers, HaveEnoughMembers}
use Rattle.qs_pattern.specs.working.Conditions.{EachListOfAll}
use Rattle.qs_pattern.specs.Rules.{UnmarkedRule, rule_cells, cells_if_given, IsInClassIfGiven, HasEnoughMembersIfGiven}
use Rattle.qs_ruletext.specs.WrittenRules.{WrittenRule}
use Rattle.qs_ruletext.specs.Reading.{IsVariableOf, IsHeadOf, joined, ReadsTree, reads_node, reads_tree_variable, ReadsSubtrees, no_parentheses, nothing_inside, list_inside, ReadsList, reads_list, ReadsMoreItems, no_more_items, one_more_item, ReadsItem, reads_tree, reads_forest_variable, ReadsMoreTrees, no_more_trees, one_more_tree, ReadsSide, reads_side, any_of, all_of, ReadsCond, reads_cond, ReadsMoreConjs, no_more_conjs, one_more_conj, ReadsConj, reads_conj, ReadsMoreNegs, no_more_negs, one_more_neg, ReadsNeg, not_negated, reads_negated, ReadsPrim, reads_group, reads_compared}
use Rattle.qs_ruletext.specs.Rules.{is_cell, cell_bytes, ReadsCondIfGiven, no_cond, some_cond, ReadsRule, reads_rule, ReadsWrittenRule}
use Rattle.qs_check.specs.Checking.{CanBeChecked}
use Rattle.qs_check.proofs.Written.{conditions_cells}
use Rattle.qs_check.proofs.Limits.{cells-joined, count-joined}

-- ---- tokens that are cells

abbrev is_cell_sort : Sort → Bool
is_cell_sort a_label = true
is_cell_sort a_label_variable = true
is_cell_sort a_tree_variable = true
is_cell_sort a_forest_variable = true
is_cell_sort _ = false

abbrev many : List Token → ℕ
many ts = length (cell_bytes ts)

abbrev cells_in : List Token → List Token
cells_in ts = filter (λ t. is_cell t.kind) ts

a_cell : (t : Token) (ts : List Token) → is_cell t.kind ≡ true → many (t ∷ ts) ≡ many ts + 1
a_cell t ts e = ap (λ b. length (map (λ (u : Token). u.from) (if b then t ∷ cells_in ts else cells_in ts))) e ∙ omega arith

no_cell : (t : Token) (ts : List Token) → is_cell t.kind ≡ false → many (t ∷ ts) ≡ many ts
no_cell t ts e = ap (λ b. length (map (λ (u : Token). u.from) (if b then t ∷ cells_in ts else cells_in ts))) e

many-append : (ts us : List Token) → many (ts ++ us) ≡ many ts + many us
many-append [] us = omega arith
many-append (t ∷ ts) us = tested (is_cell t.kind) refl (many-append ts us)
  where
    tested : (b : Bool) → is_cell t.kind ≡ b → many (ts ++ us) ≡ many ts + many us → many (t ∷ (ts ++ us)) ≡ many (t ∷ ts) + many us
    tested true e h = omega (arith, a_cell t (ts ++ us) e, a_cell t ts e, h)
    tested false e h = omega (arith, no_cell t (ts ++ us) e, no_cell t ts e, h)

label_cell : (k : Kind) (bytes text : List ℕ) → IsLabelText k bytes text → is_cell k ≡ true
label_cell Bare bytes text i = refl
label_cell Quoted bytes text i = refl
label_cell (Variable l n) bytes text i = absurd i
label_cell (a_node n) bytes text i = absurd i
label_cell (a_word w) bytes text i = absurd i
label_cell Opening bytes text i = absurd i
label_cell Closing bytes text i = absurd i
label_cell Comma bytes text i = absurd i
label_cell Plus bytes text i = absurd i
label_cell Slash bytes text i = absurd i
label_cell Equals bytes text i = absurd i
label_cell Stop bytes text i = absurd i

variable_cell : (letter : ℕ) → is_cell_sort (variable_sort letter) ≡ true
variable_cell letter = by (nat_le 65 letter && nat_le letter 70) (nat_le 73 letter && nat_le letter 78)
  where
    by : (a b : Bool) → is_cell_sort (if a then a_label_variable else (if b then a_tree_variable else a_forest_variable)) ≡ true
    by true b = refl
    by false true = refl
    by false false = refl

cell_of : (k : Kind) → is_cell k ≡ is_cell_sort (sort_of k)
cell_of Bare = refl
cell_of Quoted = refl
cell_of (Variable l n) = sym (variable_cell l)
cell_of (a_node n) = refl
cell_of (a_word w) = refl
cell_of Opening = refl
cell_of Closing = refl
cell_of Comma = refl
cell_of Plus = refl
cell_of Slash = refl
cell_of Equals = refl
cell_of Stop = refl

-- the sort says whether a token is a cell
of_sort : {s : Sort} (k : Kind) → sort_of k ≡ s → is_cell k ≡ is_cell_sort s
of_sort k e = cell_of k ∙ ap is_cell_sort e

-- ---- variables at places of their classes

letter_of : {s : Sort} {t : Token} {v : Var} → IsVariableOf s t v → variable_sort v.letter ≡ s
letter_of i = ap sort_of (sym i.variable) ∙ i.of_sort

label_letter : (l : ℕ) → variable_sort l ≡ a_label_variable → (65 ≤ l) × (l ≤ 70)
label_letter l e = by (nat_le 65 l) refl (nat_le l 70) refl (nat_le 73 l) (nat_le l 78) e
  where
    by : (a : Bool) → nat_le 65 l ≡ a → (b : Bool) → nat_le l 70 ≡ b → (c d : Bool)
        → (if a && b then a_label_variable else (if c && d then a_tree_variable else a_forest_variable)) ≡ a_label_variable → (65 ≤ l) × (l ≤ 70)
    by true p true q c d e = (grind (arith, nat_tests), grind (arith, nat_tests))
    by true p false q true true e = absurd cc
    by true p false q true false e = absurd cc
    by true p false q false d e = absurd cc
    by false p b q true true e = absurd cc
    by false p b q true false e = absurd cc
    by false p b q false d e = absurd cc

tree_letter : (l : ℕ) → variable_sort l ≡ a_tree_variable → (73 ≤ l) × (l ≤ 78)
tree_letter l e = by (nat_le 65 l && nat_le l 70) (nat_le 73 l) refl (nat_le l 78) refl e
  where
    by : (a c : Bool) → nat_le 73 l ≡ c → (d : Bool) → nat_le l 78 ≡ d
        → (if a then a_label_variable else (if c && d then a_tree_variable else a_forest_variable)) ≡ a_tree_variable → (73 ≤ l) × (l ≤ 78)
    by true c p d q e = absurd cc
    by false true p true q e = (grind (arith, nat_tests), grind (arith, nat_tests))
    by false true p false q e = absurd cc
    by false false p d q e = absurd cc

forest_letter : (l : ℕ) → IsTrue (is_variable_letter l) → variable_sort l ≡ a_forest_variable → (85 ≤ l) × (l ≤ 90)
forest_letter l known e = by (nat_le 65 l && nat_le l 70) (nat_le 73 l && nat_le l 78) (nat_le 85 l) refl (nat_le l 90) refl known e
  where
    by : (a c f : Bool) → nat_le 85 l ≡ f → (g : Bool) → nat_le l 90 ≡ g → IsTrue ((a || c) || (f && g))
        → (if a then a_label_variable else (if c then a_tree_variable else a_forest_variable)) ≡ a_forest_variable → (85 ≤ l) × (l ≤ 90)
    by true c f p g q k e = absurd cc
    by false true f p g q k e = absurd cc
    by false false true p true q k e = (grind (arith, nat_tests), grind (arith, nat_tests))
    by false false true p false q k e = absurd cc
    by false false false p g q k e = absurd cc

-- ---- patterns

class-joined : (ps qs : Patterns) → AreInClass ps → AreInClass qs → AreInClass (joined ps qs)
class-joined no_pattern qs c d = d
class-joined (node_first h ks ps) qs c d = (c.0, c.1, class-joined ps qs c.2 d)
class-joined (tree_var_first v ps) qs c d = (c.0, class-joined ps qs c.1 d)
class-joined (forest_var_first v ps) qs c d = (c.0, class-joined ps qs c.1 d)

trees-joined : (ps qs : Patterns) → NoForestAtTop ps → NoForestAtTop qs → NoForestAtTop (joined ps qs)
trees-joined no_pattern qs c d = d
trees-joined (node_first h ks ps) qs c d = trees-joined ps qs c d
trees-joined (tree_var_first v ps) qs c d = trees-joined ps qs c d
trees-joined (forest_var_first v ps) qs c d = absurd c

-- the tokens in front of the rest give these patterns and as many cells
record Given (ts : List Token) (ps : Patterns) (rest : List Token) : Type 0 where
  class : AreInClass ps
  cells_are : many ts ≡ cells ps + many rest

record GivenTrees (ts : List Token) (ps : Patterns) (rest : List Token) : Type 0 where
  given : Given ts ps rest
  top : NoForestAtTop ps

record GivenSome (ts : List Token) (ps : Patterns) (rest : List Token) : Type 0 where
  trees : GivenTrees ts ps rest
  some : 1 ≤ count ps

given_joined : {ts middle rest : List Token} {ps qs : Patterns} → Given ts ps middle → Given middle qs rest → Given ts (joined ps qs) rest
given_joined {ps = ps} {qs = qs} a b = record { class = class-joined ps qs a.class b.class; cells_are = omega (arith, a.cells_are, b.cells_are, cells-joined ps qs) }

given_behind : {t : Token} {ts rest : List Token} {ps : Patterns} → is_cell t.kind ≡ false → Given ts ps rest → Given (t ∷ ts) ps rest
given_behind {t} {ts} e a = record { class = a.class; cells_are = no_cell t ts e ∙ a.cells_are }

head_is : (names : List (List ℕ)) (text : List ℕ) (t : Token) (h : Head) → IsHeadOf names text t h → IsHeadInClass h × (is_cell t.kind ≡ true)
head_is names text t (head.Label l) i = (tt, label_cell t.kind _ i.spelling i.of_token)
head_is names text t (head.Var v) i = (label_letter v.letter (letter_of i), of_sort _ i.of_sort)

module _ (names : List (List ℕ)) (text : List ℕ) where
  mutual
    tree_given : {ts rest : List Token} {ps : Patterns} → ReadsTree names text ts ps rest → GivenSome ts ps rest
    tree_given (reads_node {t = t} {h = h} {ts = ts} i s) =
        let g = subtrees_given s in
        let k = head_is names text t h i in
        record {
          trees = record { given = record { class = (k.0, g.class, tt); cells_are = omega (arith, a_cell t ts k.1, g.cells_are) }; top = tt };
          some = omega arith;
        }
    tree_given (reads_tree_variable {t = t} {v = v} {rest = rest} i) = record {
      trees = record {
        given = record { class = (tree_letter v.letter (letter_of i), tt); cells_are = omega (arith, a_cell t rest (of_sort _ i.of_sort)) };
        top = tt;
      };
      some = omega arith;
    }

    subtrees_given : {ts rest : List Token} {ps : Patterns} → ReadsSubtrees names text ts ps rest → Given ts ps rest
    subtrees_given no_parentheses = record { class = tt; cells_are = omega arith }
    subtrees_given (nothing_inside {t = t} {u = u} {rest = rest} i j) =
        record { class = tt; cells_are = no_cell t (u ∷ rest) (of_sort _ i) ∙ no_cell u rest (of_sort _ j) ∙ omega arith }
    subtrees_given (list_inside {t = t} {u = u} {ts = ts} {rest = rest} i l j) =
        let g = list_given l in
        record { class = g.class; cells_are = omega (arith, no_cell t ts (of_sort _ i), g.cells_are, no_cell u rest (of_sort _ j)) }

    list_given : {ts rest : List Token} {ps : Patterns} → ReadsList names text ts ps rest → Given ts ps rest
    list_given (reads_list a b) = given_joined (item_given a) (more_items_given b)

    more_items_given : {ts rest : List Token} {ps : Patterns} → ReadsMoreItems names text ts ps rest → Given ts ps rest
    more_items_given no_more_items = record { class = tt; cells_are = omega arith }
    more_items_given (one_more_item i a b) = given_behind (of_sort _ i) (given_joined (item_given a) (more_items_given b))

    item_given : {ts rest : List Token} {ps : Patterns} → ReadsItem names text ts ps rest → Given ts ps rest
    item_given (reads_tree a) = (tree_given a).trees.given
    item_given (reads_forest_variable {t = t} {v = v} {rest = rest} i) =
        record { class = (forest_letter v.letter v.known.0 (letter_of i), tt); cells_are = omega (arith, a_cell t rest (of_sort _ i.of_sort)) }

  trees_joined_given : {ts middle rest : List Token} {ps qs : Patterns} → GivenTrees ts ps middle → GivenTrees middle qs rest → GivenTrees ts (joined ps qs) rest
  trees_joined_given {ps = ps} {qs = qs} a b = record { given = given_joined a.given b.given; top = trees-joined ps qs a.top b.top }

  more_trees_given : {ts rest : List Token} {ps : Patterns} → ReadsMoreTrees names text ts ps rest → GivenTrees ts ps rest
  more_trees_given no_more_trees = record { given = record { class = tt; cells_are = omega arith }; top = tt }
  more_trees_given (one_more_tree i a b) =
      let g = trees_joined_given (tree_given a).trees (more_trees_given b) in record { given = given_behind (of_sort _ i) g.given; top = g.top }

  side_given : {ts rest : List Token} {ps : Patterns} → ReadsSide names text ts ps rest → GivenSome ts ps rest
  side_given (reads_side {first = ps} {behind = qs} a b) =
      let g = tree_given a in
      record { trees = trees_joined_given g.trees (more_trees_given b); some = omega (arith, g.some, count-joined ps qs) }

  -- ---- conditions

  record GivenCondition (ts : List Token) (c : Condition) (rest : List Token) : Type 0 where
    class : IsConditionInClass c
    enough : HasEnoughMembers c
    cells_are : many ts ≡ condition_cells c + many rest

  record GivenConditions (ts : List Token) (cs : Conditions) (rest : List Token) : Type 0 where
    class : EachListOfAll AreInClass cs
    enough : HaveEnoughMembers cs
    cells_are : many ts ≡ conditions_cells cs + many rest

  any_given : {ts middle rest : List Token} (c : Condition) (cs : Conditions) → GivenCondition ts c middle → GivenConditions middle cs rest → GivenCondition ts (any_of c cs) rest
  any_given c no_condition a b = record { class = a.class; enough = a.enough; cells_are = omega (arith, a.cells_are, b.cells_are) }
  any_given c (condition_first d ds) a b = record {
    class = (a.class, b.class);
    enough = (omega arith, (a.enough, b.enough));
    cells_are = omega (arith, a.cells_are, b.cells_are);
  }

  all_given : {ts middle rest : List Token} (c : Condition) (cs : Conditions) → GivenCondition ts c middle → GivenConditions middle cs rest → GivenCondition ts (all_of c cs) rest
  all_given c no_condition a b = record { class = a.class; enough = a.enough; cells_are = omega (arith, a.cells_are, b.cells_are) }
  all_given c (condition_first d ds) a b = record {
    class = (a.class, b.class);
    enough = (omega arith, (a.enough, b.enough));
    cells_are = omega (arith, a.cells_are, b.cells_are);
  }

  more_given : {t : Token} {ts middle rest : List Token} (c : Condition) (cs : Conditions) → is_cell t.kind ≡ false → GivenCondition ts c middle → GivenConditions middle cs rest
      → GivenConditions (t ∷ ts) (condition_first c cs) rest
  more_given {t} {ts} c cs e a b =
      record { class = (a.class, b.class); enough = (a.enough, b.enough); cells_are = omega (arith, no_cell t ts e, a.cells_are, b.cells_are) }

  mutual
    cond_given : {ts rest : List Token} {c : Condition} → ReadsCond names text ts c rest → GivenCondition ts c rest
    cond_given (reads_cond {c = c} {cs = cs} a b) = any_given c cs (conj_given a) (more_conjs_given b)

    more_conjs_given : {ts rest : List Token} {cs : Conditions} → ReadsMoreConjs names text ts cs rest → GivenConditions ts cs rest
    more_conjs_given no_more_conjs = record { class = tt; enough = tt; cells_are = omega arith }
    more_conjs_given (one_more_conj {c = c} {cs = cs} i a b) = more_given c cs (of_sort _ i) (conj_given a) (more_conjs_given b)

    conj_given : {ts rest : List Token} {c : Condition} → ReadsConj names text ts c rest → GivenCondition ts c rest
    conj_given (reads_conj {c = c} {cs = cs} a b) = all_given c cs (neg_given a) (more_negs_given b)

    more_negs_given : {ts rest : List Token} {cs : Conditions} → ReadsMoreNegs names text ts cs rest → GivenConditions ts cs rest
    more_negs_given no_more_negs = record { class = tt; enough = tt; cells_are = omega arith }
    more_negs_given (one_more_neg {c = c} {cs = cs} i a b) = more_given c cs (of_sort _ i) (neg_given a) (more_negs_given b)

    neg_given : {ts rest : List Token} {c : Condition} → ReadsNeg names text ts c rest → GivenCondition ts c rest
    neg_given (not_negated p) = prim_given p
    neg_given (reads_negated {t = t} {ts = ts} i p) =
        let g = prim_given p in record { class = g.class; enough = g.enough; cells_are = no_cell t ts (of_sort _ i) ∙ g.cells_are }

    prim_given : {ts rest : List Token} {c : Condition} → ReadsPrim names text ts c rest → GivenCondition ts c rest
    prim_given (reads_group {t = t} {u = u} {ts = ts} {rest = rest} i p j) =
        let g = cond_given p in
        record { class = g.class; enough = g.enough; cells_are = omega (arith, no_cell t ts (of_sort _ i), g.cells_are, no_cell u rest (of_sort _ j)) }
    prim_given (reads_compared {t = t} {middle = middle} a i b) =
        let g = list_given a in
        let h = list_given b in
        record { class = (g.class, h.class); enough = tt; cells_are = omega (arith, g.cells_are, no_cell t middle (of_sort _ i), h.cells_are) }

  -- ---- rules

  record GivenIfGiven (ts : List Token) (o : Option Condition) (rest : List Token) : Type 0 where
    class : IsInClassIfGiven o
    enough : HasEnoughMembersIfGiven o
    cells_are : many ts ≡ cells_if_given o + many rest

  if_given : {ts rest : List Token} {o : Option Condition} → ReadsCondIfGiven names text ts o rest → GivenIfGiven ts o rest
  if_given no_cond = record { class = tt; enough = tt; cells_are = omega arith }
  if_given (some_cond {t = t} {ts = ts} i c) =
      let g = cond_given c in record { class = g.class; enough = g.enough; cells_are = no_cell t ts (of_sort _ i) ∙ g.cells_are }

  record GivenRule (ts : List Token) (rule : UnmarkedRule) (rest : List Token) : Type 0 where
    left_some : 1 ≤ count rule.left
    right_some : 1 ≤ count rule.right
    left_top : NoForestAtTop rule.left
    right_top : NoForestAtTop rule.right
    left_class : AreInClass rule.left
    right_class : AreInClass rule.right
    condition : IsInClassIfGiven rule.condition
    enough : HasEnoughMembersIfGiven rule.condition
    cells_are : many ts ≡ rule_cells rule + many rest

  rule_given : {ts rest : List Token} {rule : UnmarkedRule} → ReadsRule names text ts rule rest → GivenRule ts rule rest
  rule_given (reads_rule {t = t} {u = u} {middle = middle} {rest = rest} l i r c j) =
      let a = side_given l in
      let b = side_given r in
      let g = if_given c in
      record {
        left_some = a.some;
        right_some = b.some;
        left_top = a.trees.top;
        right_top = b.trees.top;
        left_class = a.trees.given.class;
        right_class = b.trees.given.class;
        condition = g.class;
        enough = g.enough;
        cells_are = omega (
          arith,
          a.trees.given.cells_are,
          no_cell t middle (of_sort _ i),
          b.trees.given.cells_are,
          g.cells_are,
          no_cell u rest (of_sort _ j),
        );
      }

pub can_be_checked : (names : List (List ℕ)) (text : List ℕ) (ts : List Token) (raw : WrittenRule) (rest : List Token) → ReadsWrittenRule names text ts raw rest → CanBeChecked raw
can_be_checked names text ts raw rest r =
    let g = rule_given names text r.rule in
    record {
      left_some = g.left_some;
      right_some = g.right_some;
      left_top = g.left_top;
      right_top = g.right_top;
      left_in_class = g.left_class;
      right_in_class = g.right_class;
      condition_in_class = g.condition;
      members = g.enough;
      bytes = omega (arith, ap length r.at, g.cells_are, ap many r.are, many-append r.tokens rest);
    }
