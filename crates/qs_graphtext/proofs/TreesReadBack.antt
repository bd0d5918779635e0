-- Trees that are written are read as they were.
use Rattle.std.proofs.Common.{◌≡◌, ℕ, ◌<◌, refl, sym, ap, subst, List, [], ◌∷◌, ◌++◌, length, codes}
use Rattle.qs_lex.specs.declared.token.Token.{Token}
use Rattle.qs_lex.specs.declared.token.Kind.TheVariants.{Opening, Closing, Comma}
use Rattle.qs_lex.specs.Grammar.{sort_of}
use Rattle.qs_tree.specs.declared.cell.Label.{Label}
use Rattle.qs_tree.specs.Text.{name_of, label_text, in_parentheses, behind_comma, forest_text, tree_text, AreNamed, IsNamed}
use Rattle.qs_tree.specs.Trees.{Forest, no_tree, first_tree, Tree}
use Rattle.qs_pattern.specs.declared.pattern.Head.TheVariants as head
use Rattle.qs_reader.specs.Names.{IsLabelOf}
use Rattle.qs_ruletext.specs.Written.{AreOnOneLine}
use Rattle.qs_ruletext.proofs.ReadBack.{Goes, both, turned, nothing, token}
use Rattle.qs_ruletext.proofs.HeadsReadBack.{Closes, head_goes}
use Rattle.qs_graphtext.specs.Reading.{reads_plain, ReadsSubtrees, no_parentheses, plains_inside, ReadsPlains, reads_plains, ReadsMorePlains, no_more_plains, one_more_plain, ReadsRooted, reads_rooted}

-- a label ends before its subtrees, and before the trees behind it
pub below_closes : (kids : Forest) (inside left : List ℕ) → Closes left → Closes (in_parentheses kids inside ++ left)
below_closes no_tree inside left c = c
below_closes (first_tree l k r) inside left c = refl

pub behind_closes : (trees : Forest) (behind left : List ℕ) → Closes left → Closes (behind_comma trees behind ++ left)
behind_closes no_tree behind left c = c
behind_closes (first_tree l k r) behind left c = refl

pub plain_closes : (kids trees : Forest) (inside behind left : List ℕ) → Closes left → Closes ((in_parentheses kids inside ++ behind_comma trees behind) ++ left)
plain_closes no_tree trees inside behind left c = behind_closes trees behind left c
plain_closes (first_tree l k r) trees inside behind left c = refl

module _ (names : List (List ℕ)) (text : List ℕ) (line : AreOnOneLine names) where
  -- the token of a label
  abbrev AreLabel : Label → List Token → List Token → Type 0
  AreLabel l ts rest = (t : Token) × (ts ≡ t ∷ rest) × IsLabelOf names text t l

  label_goes : (l : Label) (left : List ℕ) → l.0 < length names → Closes left → Goes text (AreLabel l) (label_text (name_of names l)) left
  label_goes l left within c = head_goes text names (head.Label l) left line within tt c

  abbrev SubtreesGo : Forest → Type 0
  SubtreesGo kids = (left : List ℕ) → Goes text (λ ts rest. ReadsSubtrees names text ts kids rest) (in_parentheses kids (forest_text names kids)) left

  abbrev MoreGo : Forest → Type 0
  MoreGo trees = (left : List ℕ) → Closes left → Goes text (λ ts rest. ReadsMorePlains names text ts trees rest) (behind_comma trees (forest_text names trees)) left

  abbrev PlainsGo : Forest → Type 0
  PlainsGo trees = (left : List ℕ) → Closes left → Goes text (λ ts rest. ReadsPlains names text ts trees rest) (forest_text names trees) left

  -- a first tree and those behind it
  plains_go : (l : Label) (k r : Forest) → l.0 < length names → SubtreesGo k → MoreGo r → PlainsGo (first_tree l k r)
  plains_go l k r within below more left c =
      let kids : List ℕ = in_parentheses k (forest_text names k) in
      let others : List ℕ = behind_comma r (forest_text names r) in
      let name : List ℕ = label_text (name_of names l) in
      turned text (name ++ (kids ++ others)) left
      (λ ts rest x. subst (λ us. ReadsPlains names text us (first_tree l k r) rest) (sym x.1.1) (reads_plains (reads_plain x.1.2 x.2.1) x.2.2))
      (both text name (kids ++ others) left
      (label_goes l ((kids ++ others) ++ left) within (plain_closes k r (forest_text names k) (forest_text names r) left c))
      (both text kids others left (below (others ++ left)) (more left c)))

  -- trees in parentheses
  inside_goes : (l : Label) (k r : Forest) → PlainsGo (first_tree l k r) → SubtreesGo (first_tree l k r)
  inside_goes l k r goes left =
      let written : List ℕ = forest_text names (first_tree l k r) in
      turned text (codes "(" ++ (written ++ codes ")")) left
      (λ ts rest x.
      let inside = subst (λ us. ReadsPlains names text x.0 (first_tree l k r) us) x.2.2.1 x.2.1 in
      subst (λ us. ReadsSubtrees names text us (first_tree l k r) rest) (sym x.1.1) (plains_inside (ap sort_of x.1.2) inside (ap sort_of x.2.2.2)))
      (both text (codes "(") (written ++ codes ")") left
      (token text Opening tt (codes "(") ((written ++ codes ")") ++ left) refl tt refl)
      (both text written (codes ")") left (goes (codes ")" ++ left) refl) (token text Closing tt (codes ")") left refl tt refl)))

  -- trees behind a comma
  more_goes : (l : Label) (k r : Forest) → PlainsGo (first_tree l k r) → MoreGo (first_tree l k r)
  more_goes l k r goes left c =
      let written : List ℕ = forest_text names (first_tree l k r) in
      turned text (codes "," ++ written) left
      (λ ts rest x. subst (λ us. ReadsMorePlains names text us (first_tree l k r) rest) (sym x.1.1) (one_of (ap sort_of x.1.2) x.2))
      (both text (codes ",") written left (token text Comma tt (codes ",") (written ++ left) refl tt refl) (goes left c))
    where
      one_of : {t : Token} {ts rest : List Token} → sort_of t.kind ≡ sort_of Comma → ReadsPlains names text ts (first_tree l k r) rest → ReadsMorePlains names text (t ∷ ts) (first_tree l k r) rest
      one_of is (reads_plains first behind) = one_more_plain is first behind

  forest_goes : (trees : Forest) → AreNamed (length names) trees → SubtreesGo trees × MoreGo trees
  forest_goes no_tree named = (
    λ left. turned text [] left (λ ts rest e. subst (λ us. ReadsSubtrees names text ts no_tree us) e no_parentheses) (nothing text left),
    λ left c. turned text [] left (λ ts rest e. subst (λ us. ReadsMorePlains names text ts no_tree us) e no_more_plains) (nothing text left),
  )
  forest_goes (first_tree l k r) named =
      let goes : PlainsGo (first_tree l k r) = plains_go l k r named.0 (forest_goes k named.1).0 (forest_goes r named.2).1 in
      (inside_goes l k r goes, more_goes l k r goes)

  -- a tree, with the byte at which it begins
  pub tree_goes : (tree : Tree) → IsNamed (length names) tree → (left : List ℕ) → Closes left
      → Goes text (λ ts rest. (byte : ℕ) × ReadsRooted names text ts tree byte rest) (tree_text names tree) left
  tree_goes tree named left c =
      let kids : List ℕ = in_parentheses tree.subtrees (forest_text names tree.subtrees) in
      let name : List ℕ = label_text (name_of names tree.root) in
      turned text (name ++ kids) left
      (λ ts rest x. (x.1.0.from, subst (λ us. ReadsRooted names text us tree x.1.0.from rest) (sym x.1.1) (reads_rooted (reads_plain x.1.2 x.2))))
      (both text name kids left
      (label_goes tree.root (kids ++ left) named.0 (below_closes tree.subtrees (forest_text names tree.subtrees) left c))
      ((forest_goes tree.subtrees named.1).0 left))
