-- Adding a chain along a path keeps a graph valid, with the same entry and exit.
use Rattle.std.proofs.Common.{◌≡◌, ◌⊎◌, ◌↔◌, ℕ, ◌+◌, ◌<◌, ◌≤◌, List, [], ◌∷◌, length, sym, ◌∙◌, ap, subst, inl, inr, ⊎_elim, arith, length-append}
use Rattle.std.proofs.lemmas.Bool.{cases_lt}
use Rattle.qs_tree.specs.Lists.{◌∈◌}
use Rattle.qs_tree.specs.Trees.{Tree}
use Rattle.qs_graph.specs.Graphs.{Arc, QGraph, IsPath, IsNode, IsEntry, IsExit, IsValid}
use Rattle.qs_graph.specs.Chains.{chain, with_chain}
use Rattle.qs_graph.proofs.Lines.{IsInner, targets, sources, into, out_of}
use Rattle.qs_tree.proofs.Members.{from_append, in_append_left, in_append_right}
use Rattle.qs_graph.proofs.Paths.{first_arc, last_arc, path_above, Joined, joined_arc, joined_on, JoinedOrSame, joined_then, then_joined, not_joined}

-- x comes before y where nodes above N lie on a chain from a to b and the others are joined by these arcs
record Above (N : ℕ) (arcs : List Arc) (a b x y : ℕ) : Type 0 where
  old : x ≤ N → y ≤ N → Joined arcs x y
  onto : x ≤ N → N < y → JoinedOrSame arcs x a
  off : N < x → y ≤ N → JoinedOrSame arcs b y
  inside : N < x → N < y → x < y

-- an arc of a chain that leads to a new node leads up
up_inside : (a : ℕ) (ts : List Tree) (next b : ℕ) → a < next → b < next → (arc : Arc) → arc ∈ chain a ts next b → next ≤ arc.to → arc.from < arc.to
up_inside a [] next b la lb arc i h = absurd i
up_inside a (t ∷ []) next b la lb arc (inl e) h = absurd (omega (arith, ap (λ (x : Arc). x.to) e))
up_inside a (t ∷ []) next b la lb arc (inr i) h = absurd i
up_inside a (t ∷ u ∷ ts) next b la lb arc (inl e) h = omega (arith, ap (λ (x : Arc). x.from) e, ap (λ (x : Arc). x.to) e)
up_inside a (t ∷ u ∷ ts) next b la lb arc (inr i) h = ⊎_elim
    (λ e. absurd (omega arith))
    (λ n. up_inside next (u ∷ ts) (next + 1) b (omega arith) (omega arith) arc i n.0)
    (targets next (u ∷ ts) (next + 1) b arc i)

module _ (G : QGraph) (valid : IsValid G) (a b : ℕ) (path : List ℕ) (p : IsPath G.arcs a path b) (ts : List Tree) (some : 0 < length ts) where
  abbrev N : ℕ
  N = G.nodes

  abbrev new : List Arc
  new = chain a ts (N + 1) b

  abbrev H : QGraph
  H = with_chain G a ts b

  a_in : IsNode G a
  a_in = let (arc, i, e) = first_arc G.arcs a path b p in subst (λ n. IsNode G n) e (valid.in_range arc i).0

  b_in : IsNode G b
  b_in = let (arc, i, e) = last_arc G.arcs a path b p in subst (λ n. IsNode G n) e (valid.in_range arc i).1

  across : Joined G.arcs a b
  across = record { path = path; is = p }

  -- the relation is transitive, holds of no node and itself, and rises along each arc
  above_on : (x y z : ℕ) → Above N G.arcs a b x y → Above N G.arcs a b y z → Above N G.arcs a b x z
  above_on x y z f g = record {
    old = λ xo zo. ⊎_elim
        (λ yn. joined_then G.arcs x b z (then_joined G.arcs x a b (f.onto xo yn) across) (g.off yn zo))
        (λ yo. joined_on G.arcs x y z (f.old xo yo) (g.old yo zo))
        (cases_lt N y);
    onto = λ xo zn. ⊎_elim (λ yn. f.onto xo yn) (λ yo. inr (joined_then G.arcs x y a (f.old xo yo) (g.onto yo zn))) (cases_lt N y);
    off = λ xn zo. ⊎_elim (λ yn. g.off yn zo) (λ yo. inr (then_joined G.arcs b y z (f.off xn yo) (g.old yo zo))) (cases_lt N y);
    inside = λ xn zn. ⊎_elim
        (λ yn. omega (arith, f.inside xn yn, g.inside yn zn))
        (λ yo. absurd (not_joined G valid a (joined_then G.arcs a y a (joined_then G.arcs a b y across (f.off xn yo)) (g.onto yo zn))))
        (cases_lt N y);
  }

  not_above : (x : ℕ) → Above N G.arcs a b x x → ⊥
  not_above x f = ⊎_elim (λ xn. omega (arith, f.inside xn xn)) (λ xo. not_joined G valid x (f.old xo xo)) (cases_lt N x)

  old_rises : (arc : Arc) → arc ∈ G.arcs → Above N G.arcs a b arc.from arc.to
  old_rises arc i =
      let (f, t) = valid.in_range arc i in
      record { old = λ _ _. joined_arc G.arcs arc i; onto = λ _ h. absurd (omega arith); off = λ h _. absurd (omega arith); inside = λ h _. absurd (omega arith) }

  from_old : (arc : Arc) → arc ∈ new → arc.from ≤ N → arc.from ≡ a
  from_old arc i h = ⊎_elim (λ e. e) (λ n. absurd (omega arith)) (sources a ts (N + 1) b arc i)

  to_old : (arc : Arc) → arc ∈ new → arc.to ≤ N → arc.to ≡ b
  to_old arc i h = ⊎_elim (λ e. e) (λ n. absurd (omega arith)) (targets a ts (N + 1) b arc i)

  new_rises : (arc : Arc) → arc ∈ new → Above N G.arcs a b arc.from arc.to
  new_rises arc i = record {
    old = λ f t. subst (λ n. Joined G.arcs n arc.to) (sym (from_old arc i f)) (subst (λ n. Joined G.arcs a n) (sym (to_old arc i t)) across);
    onto = λ f _. inl (from_old arc i f);
    off = λ _ t. inl (sym (to_old arc i t));
    inside = λ f t. up_inside a ts (N + 1) b (omega (arith, a_in)) (omega (arith, b_in)) arc i (omega arith);
  }

  rises : (arc : Arc) → arc ∈ H.arcs → Above N G.arcs a b arc.from arc.to
  rises arc i = ⊎_elim (old_rises arc) (new_rises arc) (from_append G.arcs new arc i)

  -- a node of the graph is old or an inner node of the chain
  node_cases : (n : ℕ) → IsNode H n → IsNode G n ⊎ IsInner (N + 1) ts n
  node_cases n h = ⊎_elim (λ l. inr (omega arith, omega arith)) (λ l. inl (h.0, l)) (cases_lt N n)

  pub same_entry : (n : ℕ) → IsEntry G n ↔ IsEntry H n
  same_entry n = (there, back)
    where
      into_old : IsEntry G n → (arc : Arc) → arc ∈ new → arc.to ≡ n → ⊥
      into_old e arc i is =
          let at_b : arc.to ≡ b = to_old arc i (omega (arith, e.node, is)) in
          let (last, j, to) = last_arc G.arcs a path b p in
          e.none_in last j (to ∙ sym at_b ∙ is)

      there : IsEntry G n → IsEntry H n
      there e = record {
        node = (e.node.0, omega (arith, e.node));
        none_in = λ arc i is. ⊎_elim (λ j. e.none_in arc j is) (λ j. into_old e arc j is) (from_append G.arcs new arc i);
      }

      back : IsEntry H n → IsEntry G n
      back e = record {
        node = ⊎_elim (λ o. o)
            (λ inner. let (arc, i, is) = into a ts (N + 1) b n some (inr inner) in absurd (e.none_in arc (in_append_right G.arcs new arc i) is))
            (node_cases n e.node);
        none_in = λ arc i is. e.none_in arc (in_append_left G.arcs new arc i) is;
      }

  pub same_exit : (n : ℕ) → IsExit G n ↔ IsExit H n
  same_exit n = (there, back)
    where
      out_old : IsExit G n → (arc : Arc) → arc ∈ new → arc.from ≡ n → ⊥
      out_old e arc i is =
          let at_a : arc.from ≡ a = from_old arc i (omega (arith, e.node, is)) in
          let (first, j, from) = first_arc G.arcs a path b p in
          e.none_out first j (from ∙ sym at_a ∙ is)

      there : IsExit G n → IsExit H n
      there e = record {
        node = (e.node.0, omega (arith, e.node));
        none_out = λ arc i is. ⊎_elim (λ j. e.none_out arc j is) (λ j. out_old e arc j is) (from_append G.arcs new arc i);
      }

      back : IsExit H n → IsExit G n
      back e = record {
        node = ⊎_elim (λ o. o)
            (λ inner. let (arc, i, is) = out_of a ts (N + 1) b n some (inr inner) in absurd (e.none_out arc (in_append_right G.arcs new arc i) is))
            (node_cases n e.node);
        none_out = λ arc i is. e.none_out arc (in_append_left G.arcs new arc i) is;
      }

  old_in : (n : ℕ) → IsNode G n → IsNode H n
  old_in n h = (h.0, omega (arith, h))

  inner_in : (n : ℕ) → IsInner (N + 1) ts n → IsNode H n
  inner_in n h = (omega (arith, h), omega (arith, h))

  new_in : (arc : Arc) → arc ∈ new → IsNode H arc.from × IsNode H arc.to
  new_in arc i = (
    ⊎_elim (λ e. subst (λ n. IsNode H n) (sym e) (old_in a a_in)) (inner_in arc.from) (sources a ts (N + 1) b arc i),
    ⊎_elim (λ e. subst (λ n. IsNode H n) (sym e) (old_in b b_in)) (inner_in arc.to) (targets a ts (N + 1) b arc i),
  )

  pub adding_valid : IsValid H
  adding_valid = record {
    some_arc = omega (arith, length-append G.arcs new, valid.some_arc);
    in_range = λ arc i. ⊎_elim
        (λ j. (old_in arc.from (valid.in_range arc j).0, old_in arc.to (valid.in_range arc j).1))
        (new_in arc)
        (from_append G.arcs new arc i);
    no_cycle = λ n ks q. not_above n (path_above (Above N G.arcs a b) above_on H.arcs rises n ks n q);
    entry = record { one = valid.entry.one; holds = (same_entry valid.entry.one).0 valid.entry.holds; only = λ n e. valid.entry.only n ((same_entry n).1 e) };
    exit = record { one = valid.exit.one; holds = (same_exit valid.exit.one).0 valid.exit.holds; only = λ n e. valid.exit.only n ((same_exit n).1 e) };
  }
