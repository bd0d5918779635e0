-- How many patterns stand for one tree each.
use Rattle.std.proofs.Common.{◌≡◌, ℕ, ◌+◌, ◌<◌, ◌≤◌, List, [], ◌∷◌, length, drop, get_or, refl, sym, ap, ◌∙◌, arith}
use Rattle.std.proofs.lemmas.List.{drop_more, drop_all}
use Rattle.qs_pattern.specs.declared.pattern.Pattern.{Pattern, Node', Tree, Forest}
use Rattle.qs_pattern.specs.Patterns.{Patterns, pattern_before, patterns, NoForestAtTop}
use Rattle.qs_pattern.specs.working.Patterns.{one_pattern}
use Rattle.qs_match.specs.working.Counts.{singles, CanFit}

singles-before : (p : Pattern) (us : Patterns) → singles (pattern_before p us) ≡ singles (one_pattern p) + singles us
singles-before (Node' h shape kids) us = omega arith
singles-before (Tree v) us = omega arith
singles-before (Forest v) us = omega arith

pub singles-drop : (ps : List Pattern) (i : ℕ) (p : Pattern) → i < length ps → p ≡ get_or ps i p → singles (patterns (drop i ps)) ≡ singles (one_pattern p) + singles (patterns (drop (i + 1) ps))
singles-drop ps i p l is =
    ap (λ us. singles (patterns us)) (drop_more ps i p l) ∙ singles-before (get_or ps i p) (patterns (drop (i + 1) ps))
    ∙ ap (λ q. singles (one_pattern q) + singles (patterns (drop (i + 1) ps))) (sym is)

pub singles-end : (ps : List Pattern) (i : ℕ) → length ps ≤ i → singles (patterns (drop i ps)) ≡ 0
singles-end ps i l = ap (λ us. singles (patterns us)) (drop_all i ps l)

pub singles-least : (ps : List Pattern) → singles (patterns ps) ≤ length ps
singles-least [] = omega arith
singles-least (Node' h shape kids ∷ ps) = omega (arith, singles-least ps)
singles-least (Tree v ∷ ps) = omega (arith, singles-least ps)
singles-least (Forest v ∷ ps) = omega (arith, singles-least ps)

singles-all : (ps : List Pattern) → NoForestAtTop (patterns ps) → singles (patterns ps) ≡ length ps
singles-all [] n = refl
singles-all (Node' h shape kids ∷ ps) n = omega (arith, singles-all ps n)
singles-all (Tree v ∷ ps) n = omega (arith, singles-all ps n)
singles-all (Forest v ∷ ps) n = absurd n

all-singles : (ps : List Pattern) → singles (patterns ps) ≡ length ps → NoForestAtTop (patterns ps)
all-singles [] e = tt
all-singles (Node' h shape kids ∷ ps) e = let f : singles (patterns ps) ≡ length ps = omega arith in all-singles ps f
all-singles (Tree v ∷ ps) e = let f : singles (patterns ps) ≡ length ps = omega arith in all-singles ps f
all-singles (Forest v ∷ ps) e = absurd (omega (arith, singles-least ps))

module _ (ps : List Pattern) (n : ℕ) where
  -- without a forest variable
  pub fit_all : singles (patterns ps) ≡ length ps → n ≡ singles (patterns ps) → CanFit (patterns ps) n
  fit_all e f = record { least = omega arith; exact = λ s. sym f }

  pub fit_all-is : singles (patterns ps) ≡ length ps → CanFit (patterns ps) n → n ≡ singles (patterns ps)
  fit_all-is e c = sym (c.exact (all-singles ps e))

  -- with one
  pub fit_some : (singles (patterns ps) ≡ length ps → ⊥) → singles (patterns ps) ≤ n → CanFit (patterns ps) n
  fit_some d l = record { least = l; exact = λ s. absurd (d (singles-all ps s)) }
