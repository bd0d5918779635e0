-- The arcs that leave each node, with one arc more, from the last arc down.
use Rattle.std.proofs.Common.{◌≡◌, ◌<◌, ◌≤◌, ◌+◌, ◌⊎◌, ℕ, zero, suc, Option, Some, None, slice_get, List, [], ◌∷◌, length, get_or, set, replicate, refl, sym, ◌∙◌, ap, subst, inl, inr, ⊎_elim, arith, length-set}
use Rattle.std.proofs.lemmas.List.{length-replicate}
use Rattle.std.proofs.lemmas.Option.{slice_get_within}
use Rattle.qs_tree.proofs.Elements.{set_cases, of_replicate}
use Rattle.qs_tree.proofs.Decisions.{decide_number}
use Rattle.qs_tree.proofs.Members.{at_place, in_at}
use Rattle.qs_graph.specs.Graphs.{Arc, QGraph, IsValid}
use Rattle.qs_phrase.specs.working.Leaving.{Leaves, IsLeast, IsIndex}

module _ (G : QGraph) where
  -- behind the last arc there is none
  pub no_arc_yet : (first next : List (Option ℕ)) → first ≡ replicate (G.nodes + 1) None → next ≡ replicate (length G.arcs) None → IsIndex G (length G.arcs) first next
  no_arc_yet first next p q = record {
    first_len = ap length p ∙ length-replicate (G.nodes + 1) None;
    next_len = ap length q ∙ length-replicate (length G.arcs) None;
    first_is = λ n o e. subst (IsLeast G.arcs n (length G.arcs)) (sym (of_replicate (G.nodes + 1) None n o (ap (λ xs. slice_get xs n) (sym p) ∙ e)))
        (λ j low (arc, is, from). let l = slice_get_within G.arcs j arc is in omega arith);
    next_is = λ k arc o low is e. let l = slice_get_within G.arcs k arc is in absurd (omega arith);
  }

  -- a number from k on is above k, or k
  from_on : (k j : ℕ) → k ≤ j → (suc k ≤ j) ⊎ (j ≡ k)
  from_on k j h = by (decide_number j k)
    where
      by : Dec (j ≡ k) → (suc k ≤ j) ⊎ (j ≡ k)
      by (yes e) = inr e
      by (no d) = inl (omega (arith, d))

  -- an arc that doesn't leave the node changes nothing for it
  least_kept : (n k : ℕ) (o : Option ℕ) → (Leaves G.arcs n k → ⊥) → IsLeast G.arcs n (suc k) o → IsLeast G.arcs n k o
  least_kept n k None not x = λ j low leaves. ⊎_elim (λ l. x j l leaves) (λ e. not (subst (Leaves G.arcs n) e leaves)) (from_on k j low)
  least_kept n k (Some m) not x = (omega (arith, x.0), x.1, λ j low leaves. ⊎_elim (λ l. x.2 j l leaves) (λ e. absurd (not (subst (Leaves G.arcs n) e leaves))) (from_on k j low))

  pub one_arc_more : (k : ℕ) (arc : Arc) (o : Option ℕ) (first next : List (Option ℕ)) → slice_get G.arcs k ≡ Some arc → slice_get first arc.from ≡ Some o
      → IsIndex G (suc k) first next → IsIndex G k (set first arc.from (Some k)) (set next k o)
  one_arc_more k arc o first next is at x = record {
    first_len = length-set first arc.from (Some k) ∙ x.first_len;
    next_len = length-set next k o ∙ x.next_len;
    first_is = λ n p e. ⊎_elim (λ (d, s). here n p d s) (λ (d, s). least_kept n k p (λ (y, at_k, from). let same : y ≡ arc = cc in d (sym from ∙ ap (λ (z : Arc). z.from) same)) (x.first_is n p s))
        (set_cases first arc.from (Some k) n p e);
    next_is = λ j y p low at_j e. ⊎_elim (λ (d, s). there j y p at_j d s) (λ (d, s). x.next_is j y p (omega (arith, d, low)) at_j s) (set_cases next k o j p e);
  }
    where
      here : (n : ℕ) (p : Option ℕ) → n ≡ arc.from → p ≡ Some k → IsLeast G.arcs n k p
      here n p d s = subst (IsLeast G.arcs n k) (sym s) (omega arith, (arc, is, sym d), λ j low leaves. low)

      there : (j : ℕ) (y : Arc) (p : Option ℕ) → slice_get G.arcs j ≡ Some y → j ≡ k → p ≡ o → IsLeast G.arcs y.from (suc j) p
      there j y p at_j d s =
          let same : y ≡ arc = cc in
          let was : IsLeast G.arcs arc.from (suc k) o = x.first_is arc.from o at in
          subst (λ (z : Arc). IsLeast G.arcs z.from (suc j) p) (sym same) (subst (λ i. IsLeast G.arcs arc.from (suc i) p) (sym d) (subst (IsLeast G.arcs arc.from (suc k)) (sym s) was))

  -- the same with what was read
  pub arc_indexed : (low k from : ℕ) (arc : Arc) (o : Option ℕ) (first next : List (Option ℕ)) → low ≡ suc k → from ≡ arc.from → slice_get G.arcs k ≡ Some arc → slice_get first from ≡ Some o
      → IsIndex G low first next → IsIndex G k (set first from (Some k)) (set next k o)
  arc_indexed low k from arc o first next e d is at x =
      subst (λ n. IsIndex G k (set first n (Some k)) (set next k o)) (sym d)
      (one_arc_more k arc o first next is (ap (slice_get first) (sym d) ∙ at) (subst (λ n. IsIndex G n first next) e x))

-- an arc that was read stands at its place
pub edge_at : (arcs edges : List Arc) (k : ℕ) (x : Arc) → edges ≡ arcs → k < length edges → x ≡ get_or edges k x → slice_get arcs k ≡ Some x
edge_at arcs edges k x e low read = ap (λ xs. slice_get xs k) (sym e) ∙ at_place edges k x low read

-- what was read of the arcs that leave a node
pub least_first : {G : QGraph} {first next : List (Option ℕ)} → IsIndex G 0 first next → (n : ℕ) (read o : Option ℕ) → n < length first → read ≡ get_or first n read → read ≡ o → IsLeast G.arcs n 0 o
least_first {first = first} x n read o low is e = x.first_is n o (at_place first n read low is ∙ ap Some e)

pub least_next : {G : QGraph} {first next : List (Option ℕ)} → IsIndex G 0 first next → (k : ℕ) (arc : Arc) (read o : Option ℕ) → slice_get G.arcs k ≡ Some arc → read ≡ get_or next k read → read ≡ o → IsLeast G.arcs arc.from (suc k) o
least_next {G} {next = next} x k arc read o is_arc is e =
    x.next_is k arc o (omega arith) is_arc (at_place next k read (let l = slice_get_within G.arcs k arc is_arc in omega (arith, x.next_len)) is ∙ ap Some e)

pub least_within : (arcs edges : List Arc) (n low k : ℕ) → edges ≡ arcs → IsLeast arcs n low (Some k) → k < length edges
least_within arcs edges n low k e x =
    let (arc, is, from) = x.1 in
    let l = slice_get_within arcs k arc is in
    omega (arith, ap (λ (xs : List Arc). length xs) e)

-- the node at which an arc starts has its place
pub from_low : (G : QGraph) → IsValid G → (edges : List Arc) (k : ℕ) (x : Arc) (from : ℕ) → edges ≡ G.arcs → k < length edges → x ≡ get_or edges k x → from ≡ x.from → from ≤ G.nodes
from_low G valid edges k x from e low read is =
    let ends = valid.in_range x (in_at G.arcs k x (edge_at G.arcs edges k x e low read)) in
    omega (arith, ends.0.1)
