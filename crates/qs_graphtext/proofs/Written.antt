-- The parts of a line, one behind the other.
use Rattle.std.proofs.Common.{◌≡◌, ℕ, List, ◌++◌, length, take, refl, append_assoc}
use Rattle.std.specs.Prelude.{codes}
use Rattle.std.proofs.Math.Seq.{take-length}
use Rattle.qs_tree.proofs.Kept.{kept-append}
use Rattle.qs_graphtext.specs.Texts.{line}

module _ (start o1 o2 o3 o4 from tree to : List ℕ) (e1 : o1 ≡ start ++ from) (e2 : o2 ≡ o1 ++ codes " ") (e3 : o3 ≡ o2 ++ tree) (e4 : o4 ≡ o3 ++ codes " ") where
  -- the parts of an arc's line make the line
  pub arc_done : (o5 o6 : List ℕ) → o5 ≡ o4 ++ to → o6 ≡ o5 ++ codes ".\n" → o6 ≡ start ++ line (from ++ (codes " " ++ (tree ++ (codes " " ++ (to ++ codes ".")))))
  arc_done o5 o6 e5 e6 = rw (e6, e5, e4, e3, e2, e1) (simp append_assoc refl)

  -- what stood there still does
  pub kept_four : take (length start) o4 ≡ start
  kept_four =
      kept-append start o3 o4 (codes " ") (kept-append start o2 o3 tree (kept-append start o1 o2 (codes " ") (kept-append start start o1 from (take-length start) e1) e2) e3) e4

-- a list that begins with another one still does with more behind it
pub begins : (start more now : List ℕ) → now ≡ start ++ more → take (length start) now ≡ start
begins start more now e = kept-append start start now more (take-length start) e
