-- Which arc a firing meets, what it adds, and which arcs are its result.
use Rattle.std.proofs.Common.{◌≡◌, ℕ, zero, suc, ◌+◌, ◌<◌, ◌≤◌, Bool, true, false, List, [], ◌∷◌, ◌++◌, length, map, refl, sym, ◌∙◌, ap, subst, arith, Option, Some, None, slice_get, unwrap_or, eqb, eqb-true, eq-eqb, append-nil, append_assoc, length-append}
use Rattle.std.specs.Prelude.{◌&&◌, if◌then◌else◌, is_some}
use Rattle.std.specs.Option.{option_map}
use Rattle.std.specs.List.{cons_option}
use Rattle.qs_tree.specs.Lists.{◌∈◌}
use Rattle.qs_tree.specs.Trees.{Tree}
use Rattle.qs_tree.specs.Sameness.{same_tree}
use Rattle.qs_tree.proofs.Sameness.{and_true, true_and, same_tree-true, same_tree-refl}
use Rattle.qs_pattern.specs.Rules.{Rule, all_unique, IsUnique}
use Rattle.qs_pattern.proofs.Marks.{all_unique-true, true-all_unique}
use Rattle.qs_graph.specs.Graphs.{Arc, QGraph, Leads, IsPath, arcs_at, trees_on}
use Rattle.qs_graph.specs.Chains.{chain, with_chain}
use Rattle.qs_firing.specs.Firings.{Firing}
use Rattle.qs_firing.specs.Adding.{start_of, end_of, built, is_from_to, least_arc, standing, met, unless_met, added, adds, between, StandsAt, from_on, result_by, result_arcs, first_arc, meets}

-- an arc by its ends and its tree
abbrev pub arc : ℕ → ℕ → Tree → Arc
arc a b t = record { from = a; to = b; tree = t }

from_to-true : (a b : ℕ) (t : Tree) (x : Arc) → is_from_to a b t x ≡ true → x ≡ arc a b t
from_to-true a b t x e =
    let (p, r) = and_true (eqb x.from a) (eqb x.to b && same_tree x.tree t) e in
    let (q, s) = and_true (eqb x.to b) (same_tree x.tree t) r in
    let f = eqb-true x.from a p in
    let g = eqb-true x.to b q in
    let h = same_tree-true x.tree t s in
    λ i. record { from = f i; to = g i; tree = h i }

from_to-refl : (a b : ℕ) (t : Tree) → is_from_to a b t (arc a b t) ≡ true
from_to-refl a b t = true_and (eqb a a) (eqb b b && same_tree t t) (eq-eqb a a refl) (true_and (eqb b b) (same_tree t t) (eq-eqb b b refl) (same_tree-refl t))

-- the least such arc is one
pub least_is : (arcs : List Arc) (a b : ℕ) (t : Tree) (l : ℕ) → least_arc arcs a b t ≡ Some l → slice_get arcs l ≡ Some (arc a b t)
least_is [] a b t l e = absurd cc
least_is (x ∷ arcs) a b t l e = tested (λ m. least_is arcs a b t m) (is_from_to a b t x) refl (least_arc arcs a b t) refl e
  where
    tested : ((m : ℕ) → least_arc arcs a b t ≡ Some m → slice_get arcs m ≡ Some (arc a b t)) → (c : Bool) → is_from_to a b t x ≡ c → (o : Option ℕ) → least_arc arcs a b t ≡ o
        → (if c then Some 0 else option_map suc o) ≡ Some l → slice_get (x ∷ arcs) l ≡ Some (arc a b t)
    tested ih true c o s e = let z : 0 ≡ l = cc in subst (λ n. slice_get (x ∷ arcs) n ≡ Some (arc a b t)) z (ap Some (from_to-true a b t x c))
    tested ih false c None s e = absurd cc
    tested ih false c (Some m) s e = let z : suc m ≡ l = cc in subst (λ n. slice_get (x ∷ arcs) n ≡ Some (arc a b t)) z (ih m s)

-- where one stands there is a least one
pub least_at : (arcs : List Arc) (a b : ℕ) (t : Tree) (k : ℕ) → slice_get arcs k ≡ Some (arc a b t) → (l : ℕ) × (least_arc arcs a b t ≡ Some l) × (l ≤ k)
least_at [] a b t k e = absurd cc
least_at (x ∷ arcs) a b t zero e =
    let same : x ≡ arc a b t = cc in
    (zero, ap (λ c. if c then Some 0 else option_map suc (least_arc arcs a b t)) (ap (is_from_to a b t) same ∙ from_to-refl a b t), omega arith)
least_at (x ∷ arcs) a b t (suc k) e = tested (is_from_to a b t x) (least_at arcs a b t k e)
  where
    tested : (c : Bool) → ((m : ℕ) × (least_arc arcs a b t ≡ Some m) × (m ≤ k)) → (l : ℕ) × ((if c then Some 0 else option_map suc (least_arc arcs a b t)) ≡ Some l) × (l ≤ suc k)
    tested true (m, s, h) = (zero, refl, omega arith)
    tested false (m, s, h) = (suc m, ap (option_map suc) s, omega arith)

-- no such arc stands before the least one
pub least_low : (arcs : List Arc) (a b : ℕ) (t : Tree) (l k : ℕ) → least_arc arcs a b t ≡ Some l → slice_get arcs k ≡ Some (arc a b t) → l ≤ k
least_low arcs a b t l k e at = let (m, s, h) = least_at arcs a b t k at in let same : m ≡ l = (let p = sym s ∙ e in cc) in omega arith

-- where there is no least one, none stands
pub none_stands : (arcs : List Arc) (a b : ℕ) (t : Tree) (k : ℕ) → least_arc arcs a b t ≡ None → slice_get arcs k ≡ Some (arc a b t) → ⊥
none_stands arcs a b t k e at = let (m, s, h) = least_at arcs a b t k at in absurd (let p = sym s ∙ e in cc)

-- the least one is the one that no such arc stands before
pub is_least : (arcs : List Arc) (a b : ℕ) (t : Tree) (l : ℕ) → slice_get arcs l ≡ Some (arc a b t) → ((k : ℕ) → slice_get arcs k ≡ Some (arc a b t) → l ≤ k) → least_arc arcs a b t ≡ Some l
is_least arcs a b t l at low =
    let (m, s, h) = least_at arcs a b t l at in
    let below : l ≤ m = low m (least_is arcs a b t m s) in
    let same : m ≡ l = omega arith in
    s ∙ ap Some same

-- what a firing that meets an arc shows
pub record Meeting (R : List Rule) (G : QGraph) (f : Firing) (l : ℕ) : Type 0 where
  pub unique : all_unique R ≡ true
  pub tree : Tree
  pub one : built R f ≡ tree ∷ []
  pub least : least_arc G.arcs (start_of G.arcs f.path) (end_of G.arcs f.path) tree ≡ Some l

pub meeting : (R : List Rule) (G : QGraph) (f : Firing) (l : ℕ) → met R G f ≡ Some l → Meeting R G f l
meeting R G f l e = tested (all_unique R) refl (built R f) refl e
  where
    tested : (c : Bool) → all_unique R ≡ c → (ts : List Tree) → built R f ≡ ts
        → (if c then standing G.arcs (start_of G.arcs f.path) ts (end_of G.arcs f.path) else None) ≡ Some l → Meeting R G f l
    tested true c [] s e = absurd cc
    tested true c (t ∷ []) s e = record { unique = c; tree = t; one = s; least = e }
    tested true c (t ∷ u ∷ ts) s e = absurd cc
    tested false c ts s e = absurd cc

-- of unique rules a firing that builds one tree meets the least arc, if there is one
pub met-one : (R : List Rule) (G : QGraph) (f : Firing) (t : Tree) → all_unique R ≡ true → built R f ≡ t ∷ [] → met R G f ≡ least_arc G.arcs (start_of G.arcs f.path) (end_of G.arcs f.path) t
met-one R G f t u one =
    ap (λ c. if c then standing G.arcs (start_of G.arcs f.path) (built R f) (end_of G.arcs f.path) else None) u
    ∙ ap (λ ts. standing G.arcs (start_of G.arcs f.path) ts (end_of G.arcs f.path)) one

-- where such an arc stands, the firing meets one
pub met_at : (R : List Rule) (G : QGraph) (f : Firing) (t : Tree) (k : ℕ) → all_unique R ≡ true → built R f ≡ t ∷ [] → slice_get G.arcs k ≡ Some (arc (start_of G.arcs f.path) (end_of G.arcs f.path) t)
    → (l : ℕ) × (met R G f ≡ Some l) × (l ≤ k)
met_at R G f t k u one at =
    let (l, s, h) = least_at G.arcs (start_of G.arcs f.path) (end_of G.arcs f.path) t k at in
    (l, met-one R G f t u one ∙ s, h)

-- nothing is met where the rules aren't all unique, or where the firing doesn't build just one tree
pub not_unique : (R : List Rule) (G : QGraph) (f : Firing) → all_unique R ≡ false → met R G f ≡ None
not_unique R G f e = ap (λ c. if c then standing G.arcs (start_of G.arcs f.path) (built R f) (end_of G.arcs f.path) else None) e

pub not_one : (R : List Rule) (G : QGraph) (f : Firing) → (length (built R f) ≡ 1 → ⊥) → met R G f ≡ None
not_one R G f n = tested (met R G f) refl
  where
    tested : (o : Option ℕ) → met R G f ≡ o → o ≡ None
    tested None e = refl
    tested (Some l) e = absurd (n (ap (λ ts. length ts) (meeting R G f l e).one))

-- a firing that meets an arc adds nothing
pub met-adds : (R : List Rule) (G : QGraph) (f : Firing) (l : ℕ) → met R G f ≡ Some l → adds R G f ≡ G
met-adds R G f l e =
    let n : G.nodes + 0 ≡ G.nodes = omega arith in
    let s : added R G f ≡ [] = ap (λ o. unless_met o (built R f)) e in
    ap (λ ts. with_chain G (start_of G.arcs f.path) ts (end_of G.arcs f.path)) s
    ∙ (λ i. record { nodes = n i; arcs = append-nil G.arcs i })

-- each other one adds what it builds
pub unmet-added : (R : List Rule) (G : QGraph) (f : Firing) → met R G f ≡ None → added R G f ≡ built R f
unmet-added R G f e = ap (λ o. unless_met o (built R f)) e

pub unmet-adds : (R : List Rule) (G : QGraph) (f : Firing) → met R G f ≡ None → adds R G f ≡ with_chain G (start_of G.arcs f.path) (built R f) (end_of G.arcs f.path)
unmet-adds R G f e = ap (λ ts. with_chain G (start_of G.arcs f.path) ts (end_of G.arcs f.path)) (unmet-added R G f e)

-- what is added is built, and is no more than that
pub in_added : (R : List Rule) (G : QGraph) (f : Firing) (t : Tree) → t ∈ added R G f → t ∈ built R f
in_added R G f t i = tested (met R G f) i
  where
    tested : (o : Option ℕ) → t ∈ unless_met o (built R f) → t ∈ built R f
    tested (Some l) i = absurd i
    tested None i = i

pub length-added : (R : List Rule) (G : QGraph) (f : Firing) → length (added R G f) ≤ length (built R f)
length-added R G f = tested (met R G f)
  where
    tested : (o : Option ℕ) → length (unless_met o (built R f)) ≤ length (built R f)
    tested (Some l) = omega arith
    tested None = omega arith

-- the two cases of what a firing adds
pub is_met : (R : List Rule) (G : QGraph) (f : Firing) (t : Tree) (l : ℕ) → IsUnique R → built R f ≡ t ∷ [] → StandsAt G f t l → ((k : ℕ) → StandsAt G f t k → l ≤ k)
    → (adds R G f ≡ G) × (result_arcs R G f ≡ l ∷ []) × (first_arc R G f ≡ l) × (meets R G f ≡ true)
is_met R G f t l u one at low =
    let e : met R G f ≡ Some l = met-one R G f t (all_unique-true R u) one ∙ is_least G.arcs (start_of G.arcs f.path) (end_of G.arcs f.path) t l at low in
    (met-adds R G f l e, ap (λ o. result_by o (length G.arcs) (length (built R f))) e, ap (λ o. unwrap_or o (length G.arcs)) e, ap is_some e)

pub is_not_met : (R : List Rule) (G : QGraph) (f : Firing) → ((t : Tree) (k : ℕ) → IsUnique R → built R f ≡ t ∷ [] → StandsAt G f t k → ⊥)
    → (adds R G f ≡ with_chain G (start_of G.arcs f.path) (built R f) (end_of G.arcs f.path)) × (result_arcs R G f ≡ from_on (length G.arcs) (length (built R f)))
    × (first_arc R G f ≡ length G.arcs) × (meets R G f ≡ false)
is_not_met R G f none =
    (unmet-adds R G f unmet, ap (λ o. result_by o (length G.arcs) (length (built R f))) unmet, ap (λ o. unwrap_or o (length G.arcs)) unmet, ap is_some unmet)
  where
    tested : (o : Option ℕ) → met R G f ≡ o → o ≡ None
    tested None e = refl
    tested (Some l) e = let x = meeting R G f l e in
        absurd (none x.tree l (true-all_unique R x.unique) x.one (least_is G.arcs (start_of G.arcs f.path) (end_of G.arcs f.path) x.tree l x.least))

    unmet : met R G f ≡ None
    unmet = tested (met R G f) refl

-- the result, from its first arc and whether it was met
pub result_from_first : (R : List Rule) (G : QGraph) (f : Firing) → result_arcs R G f ≡ (if meets R G f then first_arc R G f ∷ [] else from_on (first_arc R G f) (length (built R f)))
result_from_first R G f = tested (met R G f)
  where
    tested : (o : Option ℕ) → result_by o (length G.arcs) (length (built R f)) ≡ (if is_some o then unwrap_or o (length G.arcs) ∷ [] else from_on (unwrap_or o (length G.arcs)) (length (built R f)))
    tested (Some l) = refl
    tested None = refl

-- the member behind the front of a list
pub at_seam : {X : Type 0} (xs : List X) (y : X) (ys : List X) → slice_get (xs ++ y ∷ ys) (length xs) ≡ Some y
at_seam [] y ys = refl
at_seam (x ∷ xs) y ys = at_seam xs y ys

-- the arcs of a chain behind others lead from its start to its end, and carry its trees
pub chain_leads : (arcs : List Arc) (a : ℕ) (ts : List Tree) (next b : ℕ) → 0 < length ts → Leads (arcs ++ chain a ts next b) a (from_on (length arcs) (length ts)) b
chain_leads arcs a [] next b some = absurd (omega arith)
chain_leads arcs a (t ∷ []) next b some = (arc a b t, at_seam arcs (arc a b t) [], refl, refl)
chain_leads arcs a (t ∷ u ∷ ts) next b some =
    let x = arc a next t in
    let n : length (arcs ++ x ∷ []) ≡ length arcs + 1 = length-append arcs (x ∷ []) in
    let rest = chain_leads (arcs ++ x ∷ []) next (u ∷ ts) (next + 1) b (omega arith) in (
      x,
      at_seam arcs x (chain next (u ∷ ts) (next + 1) b),
      refl,
      subst (λ all. Leads all next (from_on (length arcs + 1) (length (u ∷ ts))) b) (append_assoc arcs (x ∷ []) (chain next (u ∷ ts) (next + 1) b))
          (subst (λ k. Leads ((arcs ++ x ∷ []) ++ chain next (u ∷ ts) (next + 1) b) next (from_on k (length (u ∷ ts))) b) n rest),
    )

abbrev tree_of_arc : Arc → Tree
tree_of_arc x = x.tree

pub chain_trees : (arcs : List Arc) (a : ℕ) (ts : List Tree) (next b : ℕ) → trees_on (arcs ++ chain a ts next b) (from_on (length arcs) (length ts)) ≡ ts
chain_trees arcs a [] next b = refl
chain_trees arcs a (t ∷ []) next b = ap (λ o. map tree_of_arc (cons_option o [])) (at_seam arcs (arc a b t) [])
chain_trees arcs a (t ∷ u ∷ ts) next b =
    let x = arc a next t in
    let more = chain next (u ∷ ts) (next + 1) b in
    let n : length (arcs ++ x ∷ []) ≡ length arcs + 1 = length-append arcs (x ∷ []) in
    let rest = chain_trees (arcs ++ x ∷ []) next (u ∷ ts) (next + 1) b in
    let rest : trees_on (arcs ++ x ∷ more) (from_on (length arcs + 1) (length (u ∷ ts))) ≡ u ∷ ts =
    subst (λ all. trees_on all (from_on (length arcs + 1) (length (u ∷ ts))) ≡ u ∷ ts) (append_assoc arcs (x ∷ []) more)
    (subst (λ k. trees_on ((arcs ++ x ∷ []) ++ more) (from_on k (length (u ∷ ts))) ≡ u ∷ ts) n rest) in
    ap (λ o. map tree_of_arc (cons_option o (arcs_at (arcs ++ x ∷ more) (from_on (length arcs + 1) (length (u ∷ ts)))))) (at_seam arcs x more)
    ∙ ap (λ us. t ∷ us) rest

-- the result of a firing is a path between the ends of the firing's own, with the trees that it builds
pub result_leads : (R : List Rule) (G : QGraph) (f : Firing) → 0 < length (built R f) → IsPath (adds R G f).arcs (start_of G.arcs f.path) (result_arcs R G f) (end_of G.arcs f.path)
result_leads R G f some = tested (met R G f) refl
  where
    long : (n m : ℕ) → 0 < m → 0 < length (from_on n m)
    long n zero h = absurd (omega arith)
    long n (suc m) h = omega arith

    tested : (o : Option ℕ) → met R G f ≡ o → IsPath (adds R G f).arcs (start_of G.arcs f.path) (result_arcs R G f) (end_of G.arcs f.path)
    tested (Some l) e =
        let x = meeting R G f l e in
        let at = least_is G.arcs (start_of G.arcs f.path) (end_of G.arcs f.path) x.tree l x.least in
        subst (λ (H : QGraph). IsPath H.arcs (start_of G.arcs f.path) (result_arcs R G f) (end_of G.arcs f.path)) (sym (met-adds R G f l e))
        (subst (λ o. IsPath G.arcs (start_of G.arcs f.path) (result_by o (length G.arcs) (length (built R f))) (end_of G.arcs f.path)) (sym e)
        (record { some = omega arith; leads = (between G f x.tree, at, refl, refl) }))
    tested None e =
        subst (λ (H : QGraph). IsPath H.arcs (start_of G.arcs f.path) (result_arcs R G f) (end_of G.arcs f.path)) (sym (unmet-adds R G f e))
        (subst (λ o. IsPath (with_chain G (start_of G.arcs f.path) (built R f) (end_of G.arcs f.path)).arcs (start_of G.arcs f.path) (result_by o (length G.arcs) (length (built R f))) (end_of G.arcs f.path)) (sym e)
        (record { some = long (length G.arcs) (length (built R f)) some; leads = chain_leads G.arcs (start_of G.arcs f.path) (built R f) (G.nodes + 1) (end_of G.arcs f.path) some }))

pub result_trees : (R : List Rule) (G : QGraph) (f : Firing) → trees_on (adds R G f).arcs (result_arcs R G f) ≡ built R f
result_trees R G f = tested (met R G f) refl
  where
    tested : (o : Option ℕ) → met R G f ≡ o → trees_on (adds R G f).arcs (result_arcs R G f) ≡ built R f
    tested (Some l) e =
        let x = meeting R G f l e in
        let at = least_is G.arcs (start_of G.arcs f.path) (end_of G.arcs f.path) x.tree l x.least in
        ap (λ (H : QGraph). trees_on H.arcs (result_arcs R G f)) (met-adds R G f l e)
        ∙ ap (λ o. trees_on G.arcs (result_by o (length G.arcs) (length (built R f)))) e
        ∙ ap (λ o. map tree_of_arc (cons_option o [])) at
        ∙ sym x.one
    tested None e =
        ap (λ (H : QGraph). trees_on H.arcs (result_arcs R G f)) (unmet-adds R G f e)
        ∙ ap (λ o. trees_on (with_chain G (start_of G.arcs f.path) (built R f) (end_of G.arcs f.path)).arcs (result_by o (length G.arcs) (length (built R f)))) e
        ∙ chain_trees G.arcs (start_of G.arcs f.path) (built R f) (G.nodes + 1) (end_of G.arcs f.path)
