-- What is still to be written in the walk over a tree: a tree, or none, and then, for each list of trees that is open,
-- innermost last, those that are left in it.
use Rattle.std.proofs.Common.{◌≡◌, ℕ, ◌+◌, ◌*◌, ◌<◌, List, [], ◌∷◌, ◌++◌, map, Option, Some, None, sym, refl, ap, ◌∙◌, subst, arith, append_assoc}
use Rattle.qs_tree.specs.declared.borrowed.TreeRef.{TreeRef}
use Rattle.qs_tree.specs.declared.borrowed.ForestRef.{ForestRef}
use Rattle.std.proofs.lemmas.List.{map-append}
use Rattle.qs_tree.specs.declared.cell.Label.{Label}
use Rattle.qs_tree.specs.declared.cell.Cell.{Cell}
use Rattle.qs_tree.specs.Trees.{Forest, no_tree, first_tree, Tree, trees, size, forest}
use Rattle.qs_tree.specs.working.Trees.{forest-trees}
use Rattle.qs_tree.specs.Cells.{tree_of, forest_in, trees_of}
use Rattle.qs_tree.specs.Text.{label_text, name_of, in_parentheses, behind_comma, forest_text, tree_text, AreNamed, IsNamed}

-- a label as it is written
abbrev pub spelling : List (List ℕ) → Label → List ℕ
spelling names l = label_text (name_of names l)

-- the lists of trees behind these references
abbrev pub forests : List ForestRef → List Forest
forests fs = map (λ f. forest_in f.cells.now) fs

-- what is left to write of a list whose first tree is written
abbrev pub left_text : List (List ℕ) → Forest → List ℕ
left_text names g = behind_comma g (forest_text names g)

-- what is left to write of all open lists, the last of which is the innermost
abbrev pub open_text : List (List ℕ) → List Forest → List ℕ
open_text names [] = []
open_text names (g ∷ gs) = open_text names gs ++ (left_text names g ++ 41 ∷ [])

-- a number that falls with each step: the steps that the open lists may still take
abbrev pub open_size : List Forest → ℕ
open_size [] = 0
open_size (g ∷ gs) = 4 * size g + 1 + open_size gs

-- each label in the open lists is one of the first n
abbrev pub OpenNamed : ℕ → List Forest → Type 0
OpenNamed n [] = Unit {0}
OpenNamed n (g ∷ gs) = AreNamed n g × OpenNamed n gs

-- the text of the tree that comes next, if there is one
abbrev pub here_text : List (List ℕ) → Option TreeRef → List ℕ
here_text names None = []
here_text names (Some t) = tree_text names (tree_of t.cells.now)

-- the steps that this tree may take
abbrev pub here_size : Option TreeRef → ℕ
here_size None = 0
here_size (Some t) = 4 * size (tree_of t.cells.now).subtrees + 3

-- each label in this tree is one of the first n
abbrev pub HereNamed : ℕ → Option TreeRef → Type 0
HereNamed n None = Unit {0}
HereNamed n (Some t) = IsNamed n (tree_of t.cells.now)

-- the invariant of the walk: what is written, and behind it what is left to write, is the whole
pub record Walks (names : List (List ℕ)) (n : ℕ) (whole out : List ℕ) (next : Option TreeRef) (waiting : List Forest) : Type 0 where
  pub text : out ++ (here_text names next ++ open_text names waiting) ≡ whole
  pub here : HereNamed n next
  pub named : OpenNamed n waiting

-- one more list, inside the others
open_text-push : (names : List (List ℕ)) (gs : List Forest) (g : Forest) → open_text names (gs ++ g ∷ []) ≡ left_text names g ++ 41 ∷ open_text names gs
open_text-push names [] g = refl
open_text-push names (h ∷ hs) g =
    ap (λ t. t ++ (left_text names h ++ 41 ∷ [])) (open_text-push names hs g)
    ∙ append_assoc (left_text names g) (41 ∷ open_text names hs) (left_text names h ++ 41 ∷ [])

open_size-push : (gs : List Forest) (g : Forest) → open_size (gs ++ g ∷ []) ≡ open_size gs + 4 * size g + 1
open_size-push [] g = omega arith
open_size-push (h ∷ hs) g = omega (arith, open_size-push hs g)

OpenNamed-push : (n : ℕ) (gs : List Forest) (g : Forest) → OpenNamed n gs → AreNamed n g → OpenNamed n (gs ++ g ∷ [])
OpenNamed-push n [] g a b = (b, tt)
OpenNamed-push n (h ∷ hs) g a b = (a.0, OpenNamed-push n hs g a.1 b)

OpenNamed-last : (n : ℕ) (gs : List Forest) (g : Forest) → OpenNamed n (gs ++ g ∷ []) → AreNamed n g × OpenNamed n gs
OpenNamed-last n [] g a = (a.0, tt)
OpenNamed-last n (h ∷ hs) g a = let r = OpenNamed-last n hs g a.1 in (r.0, (a.0, r.1))

-- ---- one step down, to the first subtree

regroup_down : (o s a b c w : List ℕ) → o ++ ((s ++ 40 ∷ ((a ++ (b ++ c)) ++ 41 ∷ [])) ++ w) ≡ ((o ++ s) ++ 40 ∷ []) ++ ((a ++ b) ++ (c ++ 41 ∷ w))
regroup_down o s a b c w = simp append_assoc

down_text : (names : List (List ℕ)) (o : List ℕ) (l : Label) (b : Forest) (f : Tree) (r : Forest) (ws : List Forest) → b ≡ first_tree f.root f.subtrees r
    → o ++ ((spelling names l ++ in_parentheses b (forest_text names b)) ++ open_text names ws)
    ≡ ((o ++ spelling names l) ++ 40 ∷ []) ++ (tree_text names f ++ open_text names (ws ++ r ∷ []))
down_text names o l b f r ws e =
    ap (λ g. o ++ ((spelling names l ++ in_parentheses g (forest_text names g)) ++ open_text names ws)) e
    ∙ regroup_down o (spelling names l) (spelling names f.root) (in_parentheses f.subtrees (forest_text names f.subtrees)) (left_text names r) (open_text names ws)
    ∙ ap (λ w. ((o ++ spelling names l) ++ 40 ∷ []) ++ (tree_text names f ++ w)) (sym (open_text-push names ws r))

pub down : (names : List (List ℕ)) (n : ℕ) (whole o o' : List ℕ) (t f : TreeRef) (ws ws' : List Forest) (r : Forest)
    → (tree_of t.cells.now).subtrees ≡ first_tree (tree_of f.cells.now).root (tree_of f.cells.now).subtrees r
    → o' ≡ (o ++ spelling names (tree_of t.cells.now).root) ++ 40 ∷ [] → ws' ≡ ws ++ r ∷ []
    → Walks names n whole o (Some t) ws → Walks names n whole o' (Some f) ws'
down names n whole o o' t f ws ws' r e p w h =
    let all : AreNamed n (first_tree (tree_of f.cells.now).root (tree_of f.cells.now).subtrees r) = subst (AreNamed n) e h.here.1 in
    record {
      text =
          ap (λ x. x ++ (tree_text names (tree_of f.cells.now) ++ open_text names ws')) p
          ∙ ap (λ vs. ((o ++ spelling names (tree_of t.cells.now).root) ++ 40 ∷ []) ++ (tree_text names (tree_of f.cells.now) ++ open_text names vs)) w
          ∙ sym (down_text names o (tree_of t.cells.now).root (tree_of t.cells.now).subtrees (tree_of f.cells.now) r ws e)
          ∙ h.text;
      here = (all.0, all.1);
      named = subst (OpenNamed n) (sym w) (OpenNamed-push n ws r h.named all.2);
    }

pub down_smaller : (t f : TreeRef) (ws ws' : List Forest) (r : Forest)
    → (tree_of t.cells.now).subtrees ≡ first_tree (tree_of f.cells.now).root (tree_of f.cells.now).subtrees r → ws' ≡ ws ++ r ∷ []
    → here_size (Some f) + open_size ws' < here_size (Some t) + open_size ws
down_smaller t f ws ws' r e w = omega (arith, ap size e, ap open_size w, open_size-push ws r)

-- ---- one step over, to the next tree of the innermost list

regroup_over : (o a b c w : List ℕ) → o ++ ((44 ∷ (a ++ (b ++ c))) ++ 41 ∷ w) ≡ (o ++ 44 ∷ []) ++ ((a ++ b) ++ (c ++ 41 ∷ w))
regroup_over o a b c w = simp append_assoc

over_text : (names : List (List ℕ)) (o : List ℕ) (g : Forest) (f : Tree) (r : Forest) (vs : List Forest) → g ≡ first_tree f.root f.subtrees r
    → o ++ open_text names (vs ++ g ∷ []) ≡ (o ++ 44 ∷ []) ++ (tree_text names f ++ open_text names (vs ++ r ∷ []))
over_text names o g f r vs e =
    ap (λ x. o ++ x) (open_text-push names vs g)
    ∙ ap (λ h. o ++ (left_text names h ++ 41 ∷ open_text names vs)) e
    ∙ regroup_over o (spelling names f.root) (in_parentheses f.subtrees (forest_text names f.subtrees)) (left_text names r) (open_text names vs)
    ∙ ap (λ w. (o ++ 44 ∷ []) ++ (tree_text names f ++ w)) (sym (open_text-push names vs r))

pub over : (names : List (List ℕ)) (n : ℕ) (whole o o' : List ℕ) (f : TreeRef) (ws ws' vs : List Forest) (g r : Forest)
    → g ≡ first_tree (tree_of f.cells.now).root (tree_of f.cells.now).subtrees r
    → o' ≡ o ++ 44 ∷ [] → ws ≡ vs ++ g ∷ [] → ws' ≡ vs ++ r ∷ []
    → Walks names n whole o None ws → Walks names n whole o' (Some f) ws'
over names n whole o o' f ws ws' vs g r e p w w' h =
    let last : AreNamed n g × OpenNamed n vs = OpenNamed-last n vs g (subst (OpenNamed n) w h.named) in
    let all : AreNamed n (first_tree (tree_of f.cells.now).root (tree_of f.cells.now).subtrees r) = subst (AreNamed n) e last.0 in
    record {
      text =
          ap (λ x. x ++ (tree_text names (tree_of f.cells.now) ++ open_text names ws')) p
          ∙ ap (λ us. (o ++ 44 ∷ []) ++ (tree_text names (tree_of f.cells.now) ++ open_text names us)) w'
          ∙ sym (over_text names o g (tree_of f.cells.now) r vs e)
          ∙ sym (ap (λ us. o ++ open_text names us) w)
          ∙ h.text;
      here = (all.0, all.1);
      named = subst (OpenNamed n) (sym w') (OpenNamed-push n vs r last.1 all.2);
    }

pub over_smaller : (f : TreeRef) (ws ws' vs : List Forest) (g r : Forest)
    → g ≡ first_tree (tree_of f.cells.now).root (tree_of f.cells.now).subtrees r → ws ≡ vs ++ g ∷ [] → ws' ≡ vs ++ r ∷ []
    → here_size (Some f) + open_size ws' < open_size ws
over_smaller f ws ws' vs g r e w w' =
    omega (arith, ap size e, ap open_size w, ap open_size w', open_size-push vs r, open_size-push vs g)

-- ---- one step up, past the end of the innermost list

pub up : (names : List (List ℕ)) (n : ℕ) (whole o o' : List ℕ) (ws vs : List Forest) (g : Forest)
    → g ≡ no_tree → o' ≡ o ++ 41 ∷ [] → ws ≡ vs ++ g ∷ [] → Walks names n whole o None ws → Walks names n whole o' None vs
up names n whole o o' ws vs g e p w h =
    let last : AreNamed n g × OpenNamed n vs = OpenNamed-last n vs g (subst (OpenNamed n) w h.named) in
    record {
      text =
          ap (λ x. x ++ open_text names vs) p
          ∙ append_assoc o (41 ∷ []) (open_text names vs)
          ∙ sym (ap (λ us. o ++ open_text names us) w ∙ ap (λ x. o ++ x) (open_text-push names vs g) ∙ ap (λ k. o ++ (left_text names k ++ 41 ∷ open_text names vs)) e)
          ∙ h.text;
      here = tt;
      named = last.1;
    }

pub up_smaller : (ws vs : List Forest) (g : Forest) → ws ≡ vs ++ g ∷ [] → open_size vs < open_size ws
up_smaller ws vs g w = omega (arith, ap open_size w, open_size-push vs g)

-- ---- the trees behind references

pub first_of : (b : Forest) (ks : List Cell) (f : Tree) (rs : List Cell) → trees_of ks ≡ trees b → trees_of ks ≡ f ∷ trees_of rs → b ≡ first_tree f.root f.subtrees (forest_in rs)
first_of b ks f rs e h =
    sym (forest-trees b) ∙ ap forest (sym e ∙ h) ∙ ap (λ g. first_tree f.root f.subtrees g) (forest-trees (forest_in rs))

pub none_of : (b : Forest) (ks : List Cell) → trees_of ks ≡ trees b → trees_of ks ≡ [] → b ≡ no_tree
none_of b ks e h = sym (forest-trees b) ∙ ap forest (sym e ∙ h)

pub forests-push : (fs gs : List ForestRef) (f : ForestRef) → gs ≡ fs ++ f ∷ [] → forests gs ≡ forests fs ++ forest_in f.cells.now ∷ []
forests-push fs gs f e = ap forests e ∙ map-append (λ (h : ForestRef). forest_in h.cells.now) fs (f ∷ [])

-- ---- the same from the loop's own `next`

module _ (names : List (List ℕ)) (n : ℕ) (whole o o' : List ℕ) (next : Option TreeRef) (ws ws' : List Forest) where
  pub goes_down : (t f : TreeRef) (r : Forest) → next ≡ Some t
      → (tree_of t.cells.now).subtrees ≡ first_tree (tree_of f.cells.now).root (tree_of f.cells.now).subtrees r
      → o' ≡ (o ++ spelling names (tree_of t.cells.now).root) ++ 40 ∷ [] → ws' ≡ ws ++ r ∷ []
      → Walks names n whole o next ws → Walks names n whole o' (Some f) ws'
  goes_down t f r i e p w h = down names n whole o o' t f ws ws' r e p w (subst (λ x. Walks names n whole o x ws) i h)

  pub goes_over : (f : TreeRef) (vs : List Forest) (g r : Forest) → next ≡ None
      → g ≡ first_tree (tree_of f.cells.now).root (tree_of f.cells.now).subtrees r
      → o' ≡ o ++ 44 ∷ [] → ws ≡ vs ++ g ∷ [] → ws' ≡ vs ++ r ∷ []
      → Walks names n whole o next ws → Walks names n whole o' (Some f) ws'
  goes_over f vs g r i e p w w' h = over names n whole o o' f ws ws' vs g r e p w w' (subst (λ x. Walks names n whole o x ws) i h)

  pub goes_up : (g : Forest) → next ≡ None → g ≡ no_tree → o' ≡ o ++ 41 ∷ [] → ws ≡ ws' ++ g ∷ []
      → Walks names n whole o next ws → Walks names n whole o' next ws'
  goes_up g i e p w h =
      subst (λ x. Walks names n whole o' x ws') (sym i) (up names n whole o o' ws ws' g e p w (subst (λ x. Walks names n whole o x ws) i h))

module _ (next : Option TreeRef) (ws ws' : List Forest) where
  pub smaller_down : (t f : TreeRef) (r : Forest) → next ≡ Some t
      → (tree_of t.cells.now).subtrees ≡ first_tree (tree_of f.cells.now).root (tree_of f.cells.now).subtrees r → ws' ≡ ws ++ r ∷ []
      → here_size (Some f) + open_size ws' < here_size next + open_size ws
  smaller_down t f r i e w = subst (λ x. here_size (Some f) + open_size ws' < here_size x + open_size ws) (sym i) (down_smaller t f ws ws' r e w)

  pub smaller_over : (f : TreeRef) (vs : List Forest) (g r : Forest) → g ≡ first_tree (tree_of f.cells.now).root (tree_of f.cells.now).subtrees r
      → ws ≡ vs ++ g ∷ [] → ws' ≡ vs ++ r ∷ [] → here_size (Some f) + open_size ws' < here_size next + open_size ws
  smaller_over f vs g r e w w' = omega (arith, over_smaller f ws ws' vs g r e w w')

  pub smaller_up : (g : Forest) → ws ≡ ws' ++ g ∷ [] → here_size next + open_size ws' < here_size next + open_size ws
  smaller_up g w = omega (arith, up_smaller ws ws' g w)
