-- At the start the tables are those of the opening.
use Rattle.std.proofs.Common.{◌≡◌, ℕ, zero, suc, ◌+◌, ◌<◌, ◌≤◌, ◌⊎◌, inl, inr, List, [], ◌∷◌, ◌++◌, length, take, refl, sym, ap, ◌∙◌, subst, arith, Option, Some, None, slice_get}
use Rattle.std.specs.Prelude.{◌↔◌, if◌then◌else◌, ltb, leb}
use Rattle.std.proofs.lemmas.Bool.{cases_lt, lt-ltb, le-ltb, le-leb, lt-leb}
use Rattle.std.proofs.lemmas.List.{take_more}
use Rattle.std.proofs.lemmas.Option.{get_or_from_slice_get}
use Rattle.qs_graph.specs.Graphs.{Arc}
use Rattle.qs_firing.specs.Adding.{from_on}
use Rattle.qs_firing.proofs.Within.{IsWithin, within_length}
use Rattle.qs_core.specs.Core.{fired}
use Rattle.qs_core.specs.Runs.{Machine}
use Rattle.qs_core.proofs.Growth.{grown_within}
use Rattle.qs_canon.specs.Rounds.{Stage, start, firings}
use Rattle.qs_canon.specs.working.Same.{SameArc, SameNode}
use Rattle.qs_canon.specs.working.CanonTables.{IsRecorded, IsTable, IsNodeTable}
use Rattle.qs_canon.specs.working.CanonNumbers.{table_of}
use Rattle.qs_canon.specs.working.CanonSteps.{stage_of, IsBetween}
use Rattle.qs_canon.proofs.Canonical.{table_opening, nodes_opening}

-- one number more
pub from_on-more : (n m : ℕ) → from_on n (suc m) ≡ from_on n m ++ (n + m) ∷ []
from_on-more n zero = let e : n ≡ n + 0 = omega arith in ap (λ (k : ℕ). k ∷ []) e
from_on-more n (suc m) =
    let e : n + 1 + m ≡ n + suc m = omega arith in
    ap (λ ks. n ∷ ks) (from_on-more (n + 1) m ∙ ap (λ (k : ℕ). from_on (n + 1) m ++ k ∷ []) e)

pub from_on-push : (n m : ℕ) → from_on n (m + 1) ≡ from_on n m ++ (n + m) ∷ []
from_on-push n m = let e : suc m ≡ m + 1 = omega arith in subst (λ (k : ℕ). from_on n k ≡ from_on n m ++ (n + m) ∷ []) e (from_on-more n m)

pub from_own : (m : ℕ) → from_on 0 m ++ m ∷ [] ≡ from_on 0 (m + 1)
from_own m = let e : m ≡ 0 + m = omega arith in ap (λ (k : ℕ). from_on 0 m ++ k ∷ []) e ∙ sym (from_on-push 0 m)

take_front : (xs ys : List Arc) → take (length xs) (xs ++ ys) ≡ xs
take_front [] ys = refl
take_front (x ∷ xs) ys = ap (λ zs. x ∷ zs) (take_front xs ys)

below : (k n : ℕ) → (if ltb k (n + 1) then Some k else None) ≡ (if leb k n then Some k else None)
below k n = cases (cases_lt n k)
  where
    cases : (n < k) ⊎ (k ≤ n) → (if ltb k (n + 1) then Some k else None) ≡ (if leb k n then Some k else None)
    cases (inl h) = ap (λ b. if b then Some k else None) (le-ltb k (n + 1) (omega (arith, h)) ∙ sym (lt-leb k n h))
    cases (inr h) = ap (λ b. if b then Some k else None) (lt-ltb k (n + 1) (omega (arith, h)) ∙ sym (le-leb k n h))

-- one arc more of the machine
pub arcs_more : (arcs : List Arc) (k : ℕ) (arc : Arc) → k < length arcs → slice_get arcs k ≡ Some arc → take (k + 1) arcs ≡ take k arcs ++ arc ∷ []
arcs_more arcs k arc h at = take_more arcs k arc h ∙ ap (λ (a : Arc). take k arcs ++ a ∷ []) (get_or_from_slice_get arcs k arc arc at)

module _ (M : Machine) (x : IsRecorded M.base.rules M.base.start (fired M.state) M.state.graph) where
  within : IsWithin M.base.start M.state.graph
  within = grown_within M.base.rules M.base.start (fired M.state) M.state.graph x.grown

  pub start_few : length M.base.start.arcs ≤ length M.state.graph.arcs
  start_few = within_length within

  pub nodes_few : M.base.start.nodes ≤ M.state.graph.nodes
  nodes_few = within.nodes

  pub start_arcs : (edges : List Arc) (n : ℕ) → n ≡ length M.base.start.arcs → edges ≡ take n M.state.graph.arcs → edges ≡ M.base.start.arcs
  start_arcs edges n e is = is ∙ ap (λ (m : ℕ). take m M.state.graph.arcs) e ∙ ap (take (length M.base.start.arcs)) within.arcs ∙ take_front M.base.start.arcs within.more

  pub opens : (arcs nodes : List (Option ℕ)) (last first many : ℕ) (edges : List Arc) → length arcs ≡ length M.state.graph.arcs → length nodes ≡ M.state.graph.nodes + 1
      → first ≡ length M.base.start.arcs → ((k : ℕ) → table_of arcs k ≡ (if ltb k first then Some k else None))
      → many ≡ M.base.start.nodes + 1 → ((k : ℕ) → table_of nodes k ≡ (if ltb k many then Some k else None))
      → last ≡ M.base.start.nodes → edges ≡ M.base.start.arcs → IsBetween M arcs nodes 0 (stage_of last edges [])
  opens arcs nodes last first many edges arcs_each nodes_each f own m own' l e =
      let same : start M.base.start ≡ stage_of last edges [] = (λ i. stage_of (sym l i) (sym e i) []) in
      record {
        recorded = x;
        reached = sym same;
        arcs_each = arcs_each;
        nodes_each = nodes_each;
        table =
            subst (λ (S : Stage). IsTable M.base.rules M.base.start (fired M.state) M.state.graph (firings S) S.graph (table_of arcs)) same
            (λ k n.
            subst (λ (o : Option ℕ). (o ≡ Some n) ↔ SameArc M.base.rules M.base.start (fired M.state) [] M.state.graph M.base.start k n)
            (ap (λ (j : ℕ). if ltb k j then Some k else None) (sym f) ∙ sym (own k))
            (table_opening M.base.rules M.base.start (fired M.state) M.state.graph k n));
        node_table =
            subst (λ (S : Stage). IsNodeTable M.base.rules M.base.start (fired M.state) M.state.graph (firings S) S.graph (table_of nodes)) same
            (λ k n.
            subst (λ (o : Option ℕ). (o ≡ Some n) ↔ SameNode M.base.rules M.base.start (fired M.state) [] M.state.graph M.base.start k n)
            (sym (below k M.base.start.nodes) ∙ ap (λ (j : ℕ). if ltb k j then Some k else None) (sym m) ∙ sym (own' k))
            (nodes_opening M.base.rules M.base.start (fired M.state) M.state.graph k n));
      }
