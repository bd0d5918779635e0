-- The parts of a line, one behind the other.
use Rattle.std.proofs.Common.{◌≡◌, ℕ, List, ◌++◌, length, take, refl, append_assoc}
use Rattle.std.specs.Prelude.{codes}
use Rattle.std.proofs.Math.Seq.{take-length}
use Rattle.qs_tree.proofs.Kept.{kept-append}
use Rattle.qs_graphtext.specs.Texts.{line}
use Rattle.qs_graphtext.proofs.Written.{begins}

-- what stands before an arc's line makes the comment with it
pub arc_done : (start number arc o1 o2 o3 o4 : List ℕ) → o1 ≡ start ++ codes "# arc " → o2 ≡ o1 ++ number → o3 ≡ o2 ++ codes " " → o4 ≡ o3 ++ arc → o4 ≡ start ++ (codes "# arc " ++ (number ++ (codes " " ++ arc)))
arc_done start number arc o1 o2 o3 o4 e1 e2 e3 e4 = rw (e4, e3, e2, e1) (simp append_assoc refl)

-- the parts of a firing's line up to its path, and all that stands before what it added
pub kept_rule : (start rule o1 o2 o3 : List ℕ) → o1 ≡ start ++ codes "# rule " → o2 ≡ o1 ++ rule → o3 ≡ o2 ++ codes " on " → take (length start) o3 ≡ start
kept_rule start rule o1 o2 o3 e1 e2 e3 =
    kept-append start o2 o3 (codes " on ") (kept-append start o1 o2 rule (kept-append start start o1 (codes "# rule ") (take-length start) e1) e2) e3

pub use_done : (start rule path o1 o2 o3 o4 : List ℕ) → o1 ≡ start ++ codes "# rule " → o2 ≡ o1 ++ rule → o3 ≡ o2 ++ codes " on " → o4 ≡ o3 ++ path → o4 ≡ start ++ (codes "# rule " ++ (rule ++ (codes " on " ++ path)))
use_done start rule path o1 o2 o3 o4 e1 e2 e3 e4 = rw (e4, e3, e2, e1) (simp append_assoc refl)

pub kept_use : (start used o1 o2 : List ℕ) → o1 ≡ start ++ used → o2 ≡ o1 ++ codes " gives " → take (length start) o2 ≡ start
kept_use start used o1 o2 e1 e2 = kept-append start o1 o2 (codes " gives ") (begins start used o1 e1) e2

-- the parts of a firing's line make the line
pub firing_done : (start rule path added o1 o2 o3 o4 : List ℕ) → o1 ≡ start ++ (codes "# rule " ++ (rule ++ (codes " on " ++ path))) → o2 ≡ o1 ++ codes " gives " → o3 ≡ o2 ++ added → o4 ≡ o3 ++ codes ".\n"
    → o4 ≡ start ++ line (codes "# rule " ++ (rule ++ (codes " on " ++ (path ++ (codes " gives " ++ (added ++ codes "."))))))
firing_done start rule path added o1 o2 o3 o4 e1 e2 e3 e4 = rw (e4, e3, e2, e1) (simp append_assoc refl)
