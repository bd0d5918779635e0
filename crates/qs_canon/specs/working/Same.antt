-- Arcs, nodes and firings of two graphs that grew from one start, where they are the same up to numbering. What is the
-- same is told by how it came about, so no map of numbers is needed.
use Rattle.std.specs.Prelude.{ℕ, ◌+◌, ◌<◌, ◌≤◌, ◌≡◌, true, false, List, [], ◌∷◌, length, slice_get, Some}
use Rattle.qs_pattern.specs.Rules.{Rule, all_unique}
use Rattle.qs_graph.specs.Graphs.{Arc, QGraph}
use Rattle.qs_firing.specs.Firings.{Firing}
use Rattle.qs_firing.specs.Adding.{built}
use Rattle.qs_core.specs.Growth.{DoneAt}

-- How many trees a firing builds.
abbrev pub width : List Rule → Firing → ℕ
width R f = length (built R f)

mutual
  -- From the start G the graph H grew by the firings fs, and the graph K by the firings gs. Arc k of H is arc l of K:
  -- it is the start's; or both were added by one firing at one place, where the rules aren't all unique; or their ends
  -- are the same and they carry equal trees, where the rules are all unique.
  pub data SameArc (R : List Rule) (G : QGraph) (fs gs : List Firing) (H K : QGraph) : ℕ → ℕ → Type 0 where
    of_start : {k l : ℕ} (low : k < length G.arcs) (is : k ≡ l) → SameArc R G fs gs H K k l
    of_firing : {k l : ℕ} (apart : all_unique R ≡ false) (f g : Firing) (P Q : QGraph) (j : ℕ)
        (f_at : DoneAt R G fs f P) (g_at : DoneAt R G gs g Q)
        (rule : f.rule ≡ g.rule) (values : f.values ≡ g.values) (path : SamePath R G fs gs H K f.path g.path)
        (within : j < width R f) (k_is : k ≡ length P.arcs + j) (l_is : l ≡ length Q.arcs + j)
        → SameArc R G fs gs H K k l
    of_ends : {k l : ℕ} (unique : all_unique R ≡ true) (a b : Arc)
        (a_is : slice_get H.arcs k ≡ Some a) (b_is : slice_get K.arcs l ≡ Some b)
        (k_new : length G.arcs ≤ k) (l_new : length G.arcs ≤ l)
        (from : SameNode R G fs gs H K a.from b.from) (to : SameNode R G fs gs H K a.to b.to) (tree : a.tree ≡ b.tree)
        → SameArc R G fs gs H K k l

  -- Two lists of arcs have at each place arcs that are the same.
  pub data SamePath (R : List Rule) (G : QGraph) (fs gs : List Firing) (H K : QGraph) : List ℕ → List ℕ → Type 0 where
    no_arc : SamePath R G fs gs H K [] []
    and_arc : {k l : ℕ} {ks ls : List ℕ} → SameArc R G fs gs H K k l → SamePath R G fs gs H K ks ls
        → SamePath R G fs gs H K (k ∷ ks) (l ∷ ls)

  -- Node n of H is node m of K: it is the start's, or both were added by one firing at one place. Such a firing builds
  -- several trees, and meets no arc.
  pub data SameNode (R : List Rule) (G : QGraph) (fs gs : List Firing) (H K : QGraph) : ℕ → ℕ → Type 0 where
    node_of_start : {n m : ℕ} (low : n ≤ G.nodes) (is : n ≡ m) → SameNode R G fs gs H K n m
    node_of_firing : {n m : ℕ} (f g : Firing) (P Q : QGraph) (i : ℕ)
        (f_at : DoneAt R G fs f P) (g_at : DoneAt R G gs g Q)
        (rule : f.rule ≡ g.rule) (values : f.values ≡ g.values) (path : SamePath R G fs gs H K f.path g.path)
        (some : 1 ≤ i) (within : i < width R f) (n_is : n ≡ P.nodes + i) (m_is : m ≡ Q.nodes + i)
        → SameNode R G fs gs H K n m

-- The firing f of the one is the firing g of the other: rule and substitution are equal, and the paths are the same.
pub record SameFiring (R : List Rule) (G : QGraph) (fs gs : List Firing) (H K : QGraph) (f g : Firing) : Type 0 where
  pub rule : f.rule ≡ g.rule
  pub values : f.values ≡ g.values
  pub path : SamePath R G fs gs H K f.path g.path
