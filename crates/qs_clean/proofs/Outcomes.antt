-- What cleaning leaves, and the outcome of a cascade, are determined.
use Rattle.std.proofs.Common.{◌≡◌, ℕ, ◌<◌, List, [], ◌∷◌, length, Option, Some, None, refl, sym, ◌∙◌, ap, ◌↔◌, subst, arith}
use Rattle.qs_tree.specs.Lists.{◌∈◌}
use Rattle.qs_pattern.specs.Rules.{Rule}
use Rattle.qs_graph.specs.Graphs.{QGraph, arcs_at}
use Rattle.qs_canon.specs.Rounds.{Stage, Closes}
use Rattle.qs_clean.specs.Cleaning.{Cleans, IsEndOf, IsLeft}
use Rattle.qs_clean.specs.Cascades.{Cascade, Left, Ending, a_graph, no_arc, no_more, limit, empty, goes_on}
use Rattle.qs_firing.proofs.Ascending.{same_ascending}
use Rattle.qs_canon.proofs.Rounds.{one_closure, not_both}

pub lt-asym : (m n : ℕ) → m < n → n < m → ⊥
lt-asym m n a b = omega arith

pub one_clean : (S : Stage) (G H : QGraph) → Cleans S G → Cleans S H → G ≡ H
one_clean S G H g h =
    let kept : g.kept ≡ h.kept = same_ascending lt-asym g.kept h.kept g.kept_ascend h.kept_ascend
    (λ k i. (h.kept_are k).1 ((g.kept_are k).0 i)) (λ k i. (g.kept_are k).1 ((h.kept_are k).0 i)) in
    let ends : (n : ℕ) → n ∈ h.left ↔ IsEndOf (arcs_at S.graph.arcs g.kept) n =
    subst (λ (ks : List ℕ). (n : ℕ) → n ∈ h.left ↔ IsEndOf (arcs_at S.graph.arcs ks) n) (sym kept) h.left_are in
    let left : g.left ≡ h.left = same_ascending lt-asym g.left h.left g.left_ascend h.left_ascend
    (λ n i. (ends n).1 ((g.left_are n).0 i)) (λ n i. (g.left_are n).1 ((ends n).0 i)) in
    let nodes : G.nodes ≡ H.nodes = g.nodes ∙ ap length left ∙ sym h.nodes in
    let arcs : G.arcs ≡ H.arcs = (let p = g.arcs in let q = h.arcs in cc) in
    λ i. record { nodes = nodes i; arcs = arcs i }

-- one thing is left
pub one_answer : (S : Stage) (r t : Option QGraph) → IsLeft S r → IsLeft S t → r ≡ t
one_answer S None None l m = refl
one_answer S None (Some G) (E, e, none) (g, some) = absurd (omega (arith, ap length (ap (λ (H : QGraph). H.arcs) (one_clean S G E g e) ∙ none)))
one_answer S (Some G) None (g, some) (E, e, none) = absurd (omega (arith, ap length (ap (λ (H : QGraph). H.arcs) (one_clean S G E g e) ∙ none)))
one_answer S (Some G) (Some H) (g, some) (h, more) = ap Some (one_clean S G H g h)

-- the closure and what cleaning leaves of it
pub same_both : {R : List Rule} {G : QGraph} {C D : Stage} {H I : QGraph} → Closes R G C → Closes R G D → Cleans C H → Cleans D I → (C ≡ D) × (H ≡ I)
same_both {C = C} {D} {H} {I} c d k l =
    let p : C ≡ D = one_closure _ _ C D c d in
    (p, one_clean D H I (subst (λ (S : Stage). Cleans S H) p k) l)

pub one_cascade : {L : ℕ} {G : QGraph} {Rs : List (List Rule)} {l m : List Left} {e d : Ending} → Cascade L G Rs l e → Cascade L G Rs m d → (l ≡ m) × (e ≡ d)
one_cascade no_more no_more = (refl, refl)
one_cascade (limit n) (limit m) = (refl, refl)
one_cascade (limit n) (empty c few k z) = absurd (not_both _ _ _ _ c few n)
one_cascade (limit n) (goes_on c few k p o) = absurd (not_both _ _ _ _ c few n)
one_cascade (empty c few k z) (limit m) = absurd (not_both _ _ _ _ c few m)
one_cascade (empty c few k z) (empty c' few' k' z') =
    (ap (λ (S : Stage). no_arc (length S.done) ∷ []) (same_both c c' k k').0, refl)
one_cascade (empty c few k z) (goes_on c' few' k' p' o') = absurd (omega (arith, p', ap length (sym (ap (λ (G : QGraph). G.arcs) (same_both c c' k k').1) ∙ z)))
one_cascade (goes_on c few k p o) (limit m) = absurd (not_both _ _ _ _ c few m)
one_cascade (goes_on c few k p o) (empty c' few' k' z') = absurd (omega (arith, p, ap length (ap (λ (G : QGraph). G.arcs) (same_both c c' k k').1 ∙ z')))
one_cascade {L} (goes_on {Rs = Rs} {end = end} c few k p o) (goes_on {rest = r'} {end = end'} c' few' k' p' o') =
    let both = same_both c c' k k' in
    let ih = one_cascade o (subst (λ (G : QGraph). Cascade L G Rs r' end') (sym both.1) o') in
    ((λ i. a_graph (length (both.0 i).done) (both.1 i) ∷ ih.0 i), ih.1)
