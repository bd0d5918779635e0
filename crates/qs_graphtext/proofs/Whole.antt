-- What is read is whole by the grammar.
use Rattle.std.proofs.Common.{ℕ, ap, List}
use Rattle.qs_lex.specs.declared.token.Token.{Token}
use Rattle.qs_lex.specs.Grammar.{comma, plus, sort_of, one, part, ◌·◌, repeated, IsWhole, whole_token, whole_part, whole_sequence, left_out, not_left_out, no_more, one_more}
use Rattle.qs_tree.specs.Trees.{Forest, Tree}
use Rattle.qs_reader.proofs.Tokens.{label_sort}
use Rattle.qs_graphtext.specs.WrittenChains.{WrittenChain}
use Rattle.qs_graphtext.specs.Grammar.{graph, chain, plain, line}
use Rattle.qs_graphtext.specs.Reading.{ReadsPlain, reads_plain, ReadsSubtrees, no_parentheses, nothing_inside, plains_inside, ReadsPlains, reads_plains, ReadsMorePlains, no_more_plains, one_more_plain, ReadsRooted, reads_rooted, reads_trees, ReadsMoreTrees, no_more_trees, one_more_tree, ReadsChain, reads_chain, reads_chains, ReadsMoreChains, no_more_chains, one_more_chain, ReadsGraph, reads_graph}
use Rattle.qs_graphtext.specs.working.Readers.{plains_with, in_parentheses}

mutual
  plain_whole : {names : List (List ℕ)} {text : List ℕ} {ts rest : List Token} {t : Tree} → ReadsPlain names text ts t rest → IsWhole line (part plain) ts rest
  plain_whole {text} (reads_plain {t} l s) = whole_part (whole_sequence (whole_token (label_sort text t l.spelling l.of_token)) (subtrees_whole s))

  subtrees_whole : {names : List (List ℕ)} {text : List ℕ} {ts rest : List Token} {f : Forest} → ReadsSubtrees names text ts f rest → IsWhole line in_parentheses ts rest
  subtrees_whole no_parentheses = left_out
  subtrees_whole (nothing_inside o c) = not_left_out (whole_sequence (whole_token o) (whole_sequence left_out (whole_token c)))
  subtrees_whole (plains_inside o p c) = not_left_out (whole_sequence (whole_token o) (whole_sequence (not_left_out (plains_whole p)) (whole_token c)))

  plains_whole : {names : List (List ℕ)} {text : List ℕ} {ts rest : List Token} {f : Forest} → ReadsPlains names text ts f rest → IsWhole line (plains_with comma) ts rest
  plains_whole (reads_plains p m) = whole_sequence (plain_whole p) (more_plains_whole m)

  more_plains_whole : {names : List (List ℕ)} {text : List ℕ} {ts rest : List Token} {f : Forest} → ReadsMorePlains names text ts f rest
      → IsWhole line (repeated (one comma · part plain)) ts rest
  more_plains_whole no_more_plains = no_more
  more_plains_whole (one_more_plain c p m) = one_more (whole_sequence (whole_token c) (plain_whole p)) (more_plains_whole m)

rooted_whole : {names : List (List ℕ)} {text : List ℕ} {ts rest : List Token} {t : Tree} {byte : ℕ} → ReadsRooted names text ts t byte rest → IsWhole line (part plain) ts rest
rooted_whole (reads_rooted p) = plain_whole p

more_trees_whole : {names : List (List ℕ)} {text : List ℕ} {ts rest : List Token} {trees : List Tree} {at : List ℕ} → ReadsMoreTrees names text ts trees at rest
    → IsWhole line (repeated (one plus · part plain)) ts rest
more_trees_whole no_more_trees = no_more
more_trees_whole (one_more_tree p r m) = one_more (whole_sequence (whole_token p) (rooted_whole r)) (more_trees_whole m)

chain_whole : {names : List (List ℕ)} {text : List ℕ} {ts rest : List Token} {c : WrittenChain} → ReadsChain names text ts c rest → IsWhole line (part chain) ts rest
chain_whole (reads_chain f (reads_trees r m) g s) =
    whole_part (whole_sequence (whole_token (ap sort_of f)) (whole_sequence (whole_sequence (rooted_whole r) (more_trees_whole m)) (whole_sequence (whole_token (ap sort_of g)) (whole_token s))))

more_chains_whole : {names : List (List ℕ)} {text : List ℕ} {ts rest : List Token} {chains : List WrittenChain} → ReadsMoreChains names text ts chains rest
    → IsWhole line (repeated (part chain)) ts rest
more_chains_whole no_more_chains = no_more
more_chains_whole (one_more_chain r m) = one_more (chain_whole r) (more_chains_whole m)

pub graph_whole : {names : List (List ℕ)} {text : List ℕ} {ts rest : List Token} {chains : List WrittenChain} → ReadsGraph names text ts chains rest → IsWhole line (part graph) ts rest
graph_whole (reads_graph g (reads_chains r m) f) =
    whole_part (whole_sequence (whole_token g) (whole_sequence (whole_sequence (chain_whole r) (more_chains_whole m)) (whole_token f)))
