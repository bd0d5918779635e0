-- That each of the facts of Named.antt has one proof at most, as a type has to have of what it keeps.
use Rattle.std.specs.Prelude.{ℕ, List, Option, Some, None}
use Rattle.std.specs.Coded.{Unit-prop, le_prop}
use Rattle.qs_tree.specs.declared.cell.Label.{Label}
use Rattle.qs_tree.specs.Trees.{Forest, no_tree, first_tree}
use Rattle.qs_tree.specs.Text.{AreNamed}
use Rattle.qs_pattern.specs.declared.pattern.Head.{Head}
use Rattle.qs_pattern.specs.declared.pattern.Head.TheVariants as head
use Rattle.qs_pattern.specs.Patterns.{Patterns, no_pattern, node_first, tree_var_first, forest_var_first}
use Rattle.qs_pattern.specs.Conditions.{Condition, Conditions, compared, negated, combined, no_condition}
use Rattle.qs_pattern.specs.Conditions.{condition_first}
use Rattle.qs_pattern.specs.Rules.{Rule}
use Rattle.qs_pattern.specs.Named.{IsHeadNamed, ArePatternsNamed, IsConditionNamed, IsNamedIfGiven}
use Rattle.qs_pattern.specs.working.Named.{AreConditionsNamed}
use Rattle.qs_graph.specs.Graphs.{Arc}
use Rattle.qs_graphtext.specs.Texts.{AreArcsNamed}
use Rattle.qs_deck.specs.declared.system.System.{System}
use Rattle.qs_deck.specs.Named.{IsRuleNamed, AreSystemsNamed, AreLinesNamed}

-- Each of these facts has one proof at most.
pub AreNamed-prop : (n : ℕ) (g : Forest) → IsProp (AreNamed n g)
AreNamed-prop n no_tree = Unit-prop
AreNamed-prop n (first_tree l k r) =
    λ x y i. (le_prop x.0 y.0 i, AreNamed-prop n k x.1 y.1 i, AreNamed-prop n r x.2 y.2 i)

pub IsHeadNamed-prop : (n : ℕ) (h : Head) → IsProp (IsHeadNamed n h)
IsHeadNamed-prop n (head.Label l) = le_prop
IsHeadNamed-prop n (head.Var v) = Unit-prop

pub ArePatternsNamed-prop : (n : ℕ) (p : Patterns) → IsProp (ArePatternsNamed n p)
ArePatternsNamed-prop n no_pattern = Unit-prop
ArePatternsNamed-prop n (node_first h k b) =
    λ x y i. (IsHeadNamed-prop n h x.0 y.0 i, ArePatternsNamed-prop n k x.1 y.1 i, ArePatternsNamed-prop n b x.2 y.2 i)
ArePatternsNamed-prop n (tree_var_first v b) = ArePatternsNamed-prop n b
ArePatternsNamed-prop n (forest_var_first v b) = ArePatternsNamed-prop n b

mutual
  pub IsConditionNamed-prop : (n : ℕ) (c : Condition) → IsProp (IsConditionNamed n c)
  IsConditionNamed-prop n (compared word a b) =
      λ x y i. (ArePatternsNamed-prop n a x.0 y.0 i, ArePatternsNamed-prop n b x.1 y.1 i)
  IsConditionNamed-prop n (negated c) = IsConditionNamed-prop n c
  IsConditionNamed-prop n (combined word cs) = AreConditionsNamed-prop n cs

  pub AreConditionsNamed-prop : (n : ℕ) (cs : Conditions) → IsProp (AreConditionsNamed n cs)
  AreConditionsNamed-prop n no_condition = Unit-prop
  AreConditionsNamed-prop n (condition_first c cs) =
      λ x y i. (IsConditionNamed-prop n c x.0 y.0 i, AreConditionsNamed-prop n cs x.1 y.1 i)

pub IsNamedIfGiven-prop : (n : ℕ) (o : Option Condition) → IsProp (IsNamedIfGiven n o)
IsNamedIfGiven-prop n None = Unit-prop
IsNamedIfGiven-prop n (Some c) = IsConditionNamed-prop n c

pub IsRuleNamed-prop : (n : ℕ) (rule : Rule) → IsProp (IsRuleNamed n rule)
IsRuleNamed-prop n rule =
    λ x y i. record {
      left = ArePatternsNamed-prop n rule.left x.left y.left i;
      right = ArePatternsNamed-prop n rule.right x.right y.right i;
      condition = IsNamedIfGiven-prop n rule.condition x.condition y.condition i;
    }

pub AreSystemsNamed-prop : (n : ℕ) (systems : List System) → IsProp (AreSystemsNamed n systems)
AreSystemsNamed-prop n systems =
    λ x y i system among. record {
      name = le_prop (x system among).name (y system among).name i;
      rules = λ rule there. IsRuleNamed-prop n rule ((x system among).rules rule there)
          ((y system among).rules rule there) i;
    }

pub AreArcsNamed-prop : (n : ℕ) (arcs : List Arc) → IsProp (AreArcsNamed n arcs)
AreArcsNamed-prop n arcs =
    λ x y i arc among.
    (le_prop (x arc among).0 (y arc among).0 i, AreNamed-prop n arc.tree.subtrees (x arc among).1 (y arc among).1 i)

pub AreLinesNamed-prop : (n : ℕ) (lines : List (List Label)) → IsProp (AreLinesNamed n lines)
AreLinesNamed-prop n lines =
    λ x y i line among label there. le_prop (x line among label there) (y line among label there) i
