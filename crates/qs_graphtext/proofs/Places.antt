-- The labels of what was read have numbers.
use Rattle.std.proofs.Common.{◌≡◌, ℕ, zero, suc, ◌<◌, sym, subst, ⊎_elim, List, [], ◌∷◌, length, arith}
use Rattle.std.specs.Prelude.{Some, slice_get}
use Rattle.qs_lex.specs.declared.token.Token.{Token}
use Rattle.qs_tree.specs.Lists.{◌∈◌}
use Rattle.qs_tree.specs.Trees.{Forest, Tree}
use Rattle.qs_tree.specs.Text.{IsNamed, AreNamed as ForestIsNamed}
use Rattle.qs_graphtext.specs.WrittenChains.{WrittenChain}
use Rattle.qs_graphtext.specs.Reading.{ReadsPlain, reads_plain, ReadsSubtrees, no_parentheses, nothing_inside, plains_inside, ReadsPlains, reads_plains, ReadsMorePlains, no_more_plains, one_more_plain, ReadsRooted, reads_rooted, ReadsTrees, reads_trees, ReadsMoreTrees, no_more_trees, one_more_tree, ReadsChain, reads_chain, ReadsChains, reads_chains, ReadsMoreChains, no_more_chains, one_more_chain, ReadsGraph, reads_graph, AreNamed}

-- each label that was read has a text
in_names : (names : List (List ℕ)) (k : ℕ) (text : List ℕ) → slice_get names k ≡ Some text → k < length names
in_names [] k text e = absurd cc
in_names (n ∷ ns) zero text e = omega arith
in_names (n ∷ ns) (suc k) text e = let rest = in_names ns k text e in omega (arith, rest)

mutual
  plain_named : {names : List (List ℕ)} {text : List ℕ} {ts rest : List Token} {t : Tree} → ReadsPlain names text ts t rest → IsNamed (length names) t
  plain_named {names} (reads_plain {label} l s) = (in_names names label.0 l.spelling l.named, subtrees_named s)

  subtrees_named : {names : List (List ℕ)} {text : List ℕ} {ts rest : List Token} {f : Forest} → ReadsSubtrees names text ts f rest → ForestIsNamed (length names) f
  subtrees_named no_parentheses = tt
  subtrees_named (nothing_inside o c) = tt
  subtrees_named (plains_inside o p c) = plains_named p

  plains_named : {names : List (List ℕ)} {text : List ℕ} {ts rest : List Token} {f : Forest} → ReadsPlains names text ts f rest → ForestIsNamed (length names) f
  plains_named (reads_plains p m) = let first = plain_named p in (first.0, first.1, more_plains_named m)

  more_plains_named : {names : List (List ℕ)} {text : List ℕ} {ts rest : List Token} {f : Forest} → ReadsMorePlains names text ts f rest → ForestIsNamed (length names) f
  more_plains_named no_more_plains = tt
  more_plains_named (one_more_plain c p m) = let first = plain_named p in (first.0, first.1, more_plains_named m)

rooted_named : {names : List (List ℕ)} {text : List ℕ} {ts rest : List Token} {t : Tree} {byte : ℕ} → ReadsRooted names text ts t byte rest → IsNamed (length names) t
rooted_named (reads_rooted p) = plain_named p

more_trees_named : {names : List (List ℕ)} {text : List ℕ} {ts rest : List Token} {trees : List Tree} {at : List ℕ} → ReadsMoreTrees names text ts trees at rest
    → (t : Tree) → t ∈ trees → IsNamed (length names) t
more_trees_named no_more_trees t i = absurd i
more_trees_named {names} (one_more_tree p r m) t i = ⊎_elim (λ e. subst (λ x. IsNamed (length names) x) (sym e) (rooted_named r)) (λ j. more_trees_named m t j) i

trees_named : {names : List (List ℕ)} {text : List ℕ} {ts rest : List Token} {trees : List Tree} {at : List ℕ} → ReadsTrees names text ts trees at rest
    → (t : Tree) → t ∈ trees → IsNamed (length names) t
trees_named {names} (reads_trees r m) t i = ⊎_elim (λ e. subst (λ x. IsNamed (length names) x) (sym e) (rooted_named r)) (λ j. more_trees_named m t j) i

chain_named : {names : List (List ℕ)} {text : List ℕ} {ts rest : List Token} {c : WrittenChain} → ReadsChain names text ts c rest → (t : Tree) → t ∈ c.trees → IsNamed (length names) t
chain_named (reads_chain f r g s) = trees_named r

more_chains_named : {names : List (List ℕ)} {text : List ℕ} {ts rest : List Token} {chains : List WrittenChain} → ReadsMoreChains names text ts chains rest → AreNamed (length names) chains
more_chains_named no_more_chains c i t j = absurd i
more_chains_named {names} (one_more_chain r m) c i t j =
    ⊎_elim (λ e. chain_named r t (subst (λ x. t ∈ x.trees) e j)) (λ k. more_chains_named m c k t j) i

chains_named : {names : List (List ℕ)} {text : List ℕ} {ts rest : List Token} {chains : List WrittenChain} → ReadsChains names text ts chains rest → AreNamed (length names) chains
chains_named {names} (reads_chains r m) c i t j =
    ⊎_elim (λ e. chain_named r t (subst (λ x. t ∈ x.trees) e j)) (λ k. more_chains_named m c k t j) i

pub graph_named : {names : List (List ℕ)} {text : List ℕ} {ts rest : List Token} {chains : List WrittenChain} → ReadsGraph names text ts chains rest → AreNamed (length names) chains
graph_named (reads_graph g r f) = chains_named r
