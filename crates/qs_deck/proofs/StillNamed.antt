-- Where there are more names, the labels of grammars stay among them.
use Rattle.std.proofs.Common.{ℕ, ◌≤◌, List, Option, Some, None, arith}
use Rattle.qs_pattern.specs.declared.pattern.Head.{Head}
use Rattle.qs_pattern.specs.declared.pattern.Head.TheVariants as head
use Rattle.qs_pattern.specs.Patterns.{Patterns, no_pattern, node_first, tree_var_first, forest_var_first}
use Rattle.qs_pattern.specs.Conditions.{Condition, Conditions, compared, negated, combined, no_condition}
use Rattle.qs_pattern.specs.Conditions.{condition_first}
use Rattle.qs_pattern.specs.Named.{IsHeadNamed, ArePatternsNamed, IsConditionNamed, IsNamedIfGiven}
use Rattle.qs_pattern.specs.working.Named.{AreConditionsNamed}
use Rattle.qs_deck.specs.declared.system.System.{System}
use Rattle.qs_deck.specs.Named.{AreSystemsNamed}

module _ (n m : ℕ) (more : n ≤ m) where
  head_named : (h : Head) → IsHeadNamed n h → IsHeadNamed m h
  head_named (head.Label l) x = omega (arith, x, more)
  head_named (head.Var v) x = tt

  patterns_named : (p : Patterns) → ArePatternsNamed n p → ArePatternsNamed m p
  patterns_named no_pattern x = tt
  patterns_named (node_first h k b) x = (head_named h x.0, patterns_named k x.1, patterns_named b x.2)
  patterns_named (tree_var_first v b) x = patterns_named b x
  patterns_named (forest_var_first v b) x = patterns_named b x

  mutual
    condition_named : (c : Condition) → IsConditionNamed n c → IsConditionNamed m c
    condition_named (compared word a b) x = (patterns_named a x.0, patterns_named b x.1)
    condition_named (negated c) x = condition_named c x
    condition_named (combined word cs) x = conditions_named cs x

    conditions_named : (cs : Conditions) → AreConditionsNamed n cs → AreConditionsNamed m cs
    conditions_named no_condition x = tt
    conditions_named (condition_first c cs) x = (condition_named c x.0, conditions_named cs x.1)

  if_given_named : (o : Option Condition) → IsNamedIfGiven n o → IsNamedIfGiven m o
  if_given_named None x = tt
  if_given_named (Some c) x = condition_named c x

  pub still_systems_named : (systems : List System) → AreSystemsNamed n systems → AreSystemsNamed m systems
  still_systems_named systems x =
      λ system among. record {
        name = let l = (x system among).name in omega (arith, l, more);
        rules = λ rule there. record {
          left = patterns_named rule.left ((x system among).rules rule there).left;
          right = patterns_named rule.right ((x system among).rules rule there).right;
          condition = if_given_named rule.condition ((x system among).rules rule there).condition;
        };
      }
