-- What is whole by the grammar is read as a graph, in names that name its labels.
use Rattle.std.proofs.Common.{◌≡◌, ℕ, refl, sym, ◌∙◌, ap, subst, inl, inr, List, [], ◌∷◌}
use Rattle.std.specs.Prelude.{◌⊎◌}
use Rattle.std.specs.List.{All}
use Rattle.qs_lex.specs.declared.token.Token.{Token}
use Rattle.qs_lex.specs.declared.token.Kind.{Kind}
use Rattle.qs_lex.specs.declared.token.Kind.TheVariants.{Bare, Quoted, Variable, Node, Word as a_word, Opening, Closing, Comma, Plus, Slash, Equals, Stop}
use Rattle.qs_lex.specs.declared.token.Word.TheVariants.{Graphe, Fin}
use Rattle.qs_lex.specs.Grammar.{Sort, a_label, a_node_mark, the_word, opening, closing, comma, plus, stop, sort_of, part, IsWhole}
use Rattle.qs_lex.proofs.Meanings.{IsOne, is_one, AreMany, none_left, one_behind, Means, whole_means}
use Rattle.qs_tree.specs.Trees.{Forest, no_tree, first_tree, Tree}
use Rattle.qs_ruletext.specs.working.Readers.{is_variable}
use Rattle.qs_ruletext.proofs.KnownTokens.{IsKnown, variable_is}
use Rattle.qs_graphtext.specs.WrittenChains.{WrittenChain}
use Rattle.qs_graphtext.specs.Grammar.{Part, graph, chain, plain, line}
use Rattle.qs_graphtext.specs.Reading.{ReadsPlain, reads_plain, ReadsSubtrees, no_parentheses, nothing_inside, plains_inside, reads_plains, ReadsMorePlains, no_more_plains, one_more_plain, ReadsRooted, reads_rooted, ReadsMoreTrees, no_more_trees, one_more_tree, ReadsTrees, reads_trees, ReadsChain, reads_chain, ReadsMoreChains, no_more_chains, one_more_chain, ReadsChains, reads_chains, ReadsGraph, reads_graph}

-- a token of the sort of node marks has a number
mark_is : (kind : Kind) → sort_of kind ≡ a_node_mark → (number : ℕ) × (kind ≡ Node number)
mark_is (Node number) e = (number, refl)
mark_is (Variable letter number) e = let other = sym (variable_is letter) ∙ ap is_variable e in absurd cc
mark_is Bare e = absurd cc
mark_is Quoted e = absurd cc
mark_is (a_word w) e = absurd cc
mark_is Opening e = absurd cc
mark_is Closing e = absurd cc
mark_is Comma e = absurd cc
mark_is Plus e = absurd cc
mark_is Slash e = absurd cc
mark_is Equals e = absurd cc
mark_is Stop e = absurd cc

module _ (names : List (List ℕ)) (text : List ℕ) where
  abbrev One : Sort → List Token → List Token → Type 0
  One = IsOne (IsKnown names text)

  abbrev IsPlain : List Token → List Token → Type 0
  IsPlain ts rest = (tree : Tree) × ReadsPlain names text ts tree rest

  -- what each part is read as
  abbrev Meant : Part → List Token → List Token → Type 0
  Meant graph ts rest = (chains : List WrittenChain) × ReadsGraph names text ts chains rest
  Meant chain ts rest = (c : WrittenChain) × ReadsChain names text ts c rest
  Meant plain ts rest = IsPlain ts rest

  abbrev Meaning : Part → List Token → List Token → Type 0
  Meaning p = Means (IsKnown names text) Meant (line p)

  -- ---- trees

  plains_of : {ts rest : List Token} → AreMany (λ a c. (b : List Token) × One comma a b × IsPlain b c) ts rest → (kids : Forest) × ReadsMorePlains names text ts kids rest
  plains_of none_left = (no_tree, no_more_plains)
  plains_of (one_behind m more) = by m.1 m.2 (plains_of more)
    where
      by : {a b c d : List Token} → One comma a b → IsPlain b c → (kids : Forest) × ReadsMorePlains names text c kids d → (kids : Forest) × ReadsMorePlains names text a kids d
      by (is_one e k) p q = (first_tree p.0.root p.0.subtrees q.0, one_more_plain e p.1 q.1)

  abbrev Inside : List Token → List Token → Type 0
  Inside b c = (b ≡ c) ⊎ ((m : List Token) × IsPlain b m × AreMany (λ x z. (y : List Token) × One comma x y × IsPlain y z) m c)

  inside : {a b c d : List Token} → One opening a b → Inside b c → One closing c d → (kids : Forest) × ReadsSubtrees names text a kids d
  inside (is_one {t} e k) (inl same) close = by same close
    where
      by : {b c d : List Token} → b ≡ c → One closing c d → (kids : Forest) × ReadsSubtrees names text (t ∷ b) kids d
      by {d} same (is_one {t = u} f l) = (no_tree, subst (λ us. ReadsSubtrees names text (t ∷ us) no_tree d) (sym same) (nothing_inside e f))
  inside (is_one e k) (inr m) (is_one f l) =
      let p = m.1 in let q = plains_of m.2 in (first_tree p.0.root p.0.subtrees q.0, plains_inside e (reads_plains p.1 q.1) f)

  subtrees_of : {a d : List Token} → (a ≡ d) ⊎ ((b : List Token) × One opening a b × ((c : List Token) × Inside b c × One closing c d)) → (kids : Forest) × ReadsSubtrees names text a kids d
  subtrees_of {a} (inl same) = (no_tree, subst (λ us. ReadsSubtrees names text a no_tree us) same no_parentheses)
  subtrees_of (inr h) = inside h.1 h.2.1 h.2.2

  plain_of : {a b c : List Token} → One a_label a b → (kids : Forest) × ReadsSubtrees names text b kids c → IsPlain a c
  plain_of (is_one e k) s = let l = k.label e in (record { root = l.0; subtrees = s.0 }, reads_plain l.1 s.1)

  -- ---- chains

  rooted : {ts rest : List Token} → (p : IsPlain ts rest) → (byte : ℕ) × ReadsRooted names text ts p.0 byte rest
  rooted p = by p.1
    where
      by : {ts rest : List Token} {tree : Tree} → ReadsPlain names text ts tree rest → (byte : ℕ) × ReadsRooted names text ts tree byte rest
      by (reads_plain {t} l s) = (t.from, reads_rooted (reads_plain l s))

  -- trees, with the bytes of their roots
  abbrev AreTrees : List Token → List Token → Type 0
  AreTrees ts rest = (trees : List Tree) × (at : List ℕ) × ReadsTrees names text ts trees at rest

  trees_of : {ts rest : List Token} → AreMany (λ a c. (b : List Token) × One plus a b × IsPlain b c) ts rest → (trees : List Tree) × (at : List ℕ) × ReadsMoreTrees names text ts trees at rest
  trees_of none_left = ([], [], no_more_trees)
  trees_of (one_behind m more) = by m.1 m.2 (trees_of more)
    where
      by : {a b c d : List Token} → One plus a b → IsPlain b c → (trees : List Tree) × (at : List ℕ) × ReadsMoreTrees names text c trees at d
          → (trees : List Tree) × (at : List ℕ) × ReadsMoreTrees names text a trees at d
      by (is_one e k) p q = let r = rooted p in (p.0 ∷ q.0, r.0 ∷ q.1, one_more_tree e r.1 q.2)

  all_trees : {a b c : List Token} → IsPlain a b → (trees : List Tree) × (at : List ℕ) × ReadsMoreTrees names text b trees at c → AreTrees a c
  all_trees p q = let r = rooted p in (p.0 ∷ q.0, r.0 ∷ q.1, reads_trees r.1 q.2)

  chain_of : {a b c d rest : List Token} → One a_node_mark a b → AreTrees b c → One a_node_mark c d → One stop d rest → (chain : WrittenChain) × ReadsChain names text a chain rest
  chain_of (is_one {t} e k) ts (is_one {t = u} f l) (is_one g m) =
      let from = mark_is t.kind e in let to = mark_is u.kind f in
      (record { from = from.0; trees = ts.0; to = to.0; at = ts.1 }, reads_chain from.1 ts.2 to.1 g)

  chains_of : {ts rest : List Token} → AreMany (λ a b. (c : WrittenChain) × ReadsChain names text a c b) ts rest → (chains : List WrittenChain) × ReadsMoreChains names text ts chains rest
  chains_of none_left = ([], no_more_chains)
  chains_of (one_behind m more) = let q = chains_of more in (m.0 ∷ q.0, one_more_chain m.1 q.1)

  graph_of : {a b c d : List Token} → One (the_word Graphe) a b → (chains : List WrittenChain) × ReadsChains names text b chains c → One (the_word Fin) c d
      → (chains : List WrittenChain) × ReadsGraph names text a chains d
  graph_of (is_one e k) cs (is_one f l) = (cs.0, reads_graph e cs.1 f)

  lines : (p : Part) (ts rest : List Token) → All (IsKnown names text) ts → IsWhole line (part p) ts rest → Meaning p ts rest → Meant p ts rest
  lines graph ts rest all w m =
      let c = m.2.1.1 in let q = chains_of m.2.1.2 in graph_of m.1 (c.0 ∷ q.0, reads_chains c.1 q.1) m.2.2
  lines chain ts rest all w m = chain_of m.1 (all_trees m.2.1.1 (trees_of m.2.1.2)) m.2.2.1 m.2.2.2
  lines plain ts rest all w m = plain_of m.1 (subtrees_of m.2)

  -- a whole graph of known tokens is read
  pub graph_read : {ts rest : List Token} → All (IsKnown names text) ts → IsWhole line (part graph) ts rest → (chains : List WrittenChain) × ReadsGraph names text ts chains rest
  graph_read all w = whole_means line (IsKnown names text) Meant lines all w
