-- A valid graph that is written is read as chains that make it, between other things and alone.
use Rattle.std.proofs.Common.{ℕ, ◌+◌, ◌≤◌, List, [], ◌++◌, length, arith}
use Rattle.qs_lex.specs.Limits.{most_node_number}
use Rattle.qs_lex.specs.declared.token.Token.{Token}
use Rattle.qs_lex.specs.Tokens.{Reads, AreTokensOf}
use Rattle.qs_tree.specs.Lists.{◌∈◌}
use Rattle.qs_graph.specs.Graphs.{Arc, QGraph, IsValid}
use Rattle.qs_ruletext.specs.Written.{AreOnOneLine}
use Rattle.qs_ruletext.proofs.ReadBack.{amid, alone}
use Rattle.qs_graphtext.specs.Texts.{graph_text, AreArcsNamed}
use Rattle.qs_graphtext.specs.ChainsOfArcs.{ReadsBack}
use Rattle.qs_graphtext.proofs.GraphsReadBack.{IsWritable, AreGraph, graph_goes}
use Rattle.qs_graphtext.proofs.SameGraph.{same_graph}

module _ (names : List (List ℕ)) (G : QGraph) (line : AreOnOneLine names) (valid : IsValid G) (few : G.nodes ≤ most_node_number) (named : AreArcsNamed (length names) G.arcs) where
  writable : (arc : Arc) → arc ∈ G.arcs → IsWritable (length names) arc
  writable arc i =
      let ends = valid.in_range arc i in
      record {
        from = (ends.0.0, omega (arith, ends.0.1, few));
        to = (ends.1.0, omega (arith, ends.1.1, few));
        named = named arc i;
      }

  reads_back : (text : List ℕ) (ts rest : List Token) → AreGraph names text G.arcs ts rest → ReadsBack names text ts G rest
  reads_back text ts rest are = record { chains = are.0; reads = are.2; of_arcs = are.1; makes = same_graph G valid are.0 are.1 }

  pub graph_within : (before behind : List ℕ) (rest : List Token) (next : ℕ) → Reads (before ++ (graph_text names G ++ behind)) (length before + length (graph_text names G)) rest next
      → (ts : List Token) × Reads (before ++ (graph_text names G ++ behind)) (length before) ts next × ReadsBack names (before ++ (graph_text names G ++ behind)) ts G rest
  graph_within before behind rest next reads =
      let text : List ℕ = before ++ (graph_text names G ++ behind) in
      let x = amid before (graph_text names G) behind rest next (graph_goes names text line G valid.some_arc writable behind) reads in
      (x.0, x.1, reads_back text x.0 rest x.2)

  pub graph_alone : (ts : List Token) × AreTokensOf (graph_text names G) ts × ReadsBack names (graph_text names G) ts G []
  graph_alone =
      let text : List ℕ = graph_text names G in
      let x = alone text (graph_goes names text line G valid.some_arc writable []) in
      (x.0, x.1, reads_back text x.0 [] x.2)
