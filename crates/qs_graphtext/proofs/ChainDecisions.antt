-- Chains make a valid graph, or they are refused.
use Rattle.std.proofs.Common.{◌≡◌, ◌⊎◌, ◌+◌, ◌<◌, List, [], ◌∷◌, length, refl, inl, inr, ⊎_elim, arith, length-append, get_or}
use Rattle.std.proofs.lemmas.Bool.{cases_lt}
use Rattle.std.proofs.lemmas.Option.{slice_get-get_or}
use Rattle.qs_tree.specs.Lists.{◌∈◌}
use Rattle.qs_tree.proofs.Members.{in_flat_map}
use Rattle.qs_graph.specs.Limits.{most_read_arcs}
use Rattle.qs_graph.specs.Graphs.{IsValid, IsEntry, IsExit, ExactlyOne}
use Rattle.qs_graph.specs.Validity.{LeadsInside, HasCycle}
use Rattle.qs_graphtext.specs.WrittenChains.{WrittenChain}
use Rattle.qs_graphtext.specs.GraphOfChains.{IsWhole, numbers_in, trees_in, places_in, different, dense, graph_of, AreFew, AreRefused}
use Rattle.qs_graphtext.specs.declared.chain_end.ChainEnd.{ChainEnd}
use Rattle.qs_graphtext.specs.declared.chain_end.ChainEnd.TheVariants as chain_end
use Rattle.qs_graphtext.proofs.Numbering.{dense_in}
use Rattle.qs_graphtext.proofs.GraphsOfChains.{arcs_laid, inside_laid, member_contains, trees_some}
use Rattle.qs_graphtext.proofs.GraphDecisions.{decide_cycle, decide_one_entry, decide_one_exit}

graph_inside : (chains : List WrittenChain) → LeadsInside (graph_of chains)
graph_inside chains =
    inside_laid (dense (numbers_in chains)) (different (numbers_in chains)) (record { nodes = different (numbers_in chains); arcs = [] }) chains (omega arith) (λ arc i. absurd i)
    (λ c i. (
      dense_in (numbers_in chains) c.from (member_contains (numbers_in chains) c.from (in_flat_map (λ (d : WrittenChain). d.from ∷ d.to ∷ []) chains c c.from i (inl refl))),
      dense_in (numbers_in chains) c.to (member_contains (numbers_in chains) c.to (in_flat_map (λ (d : WrittenChain). d.from ∷ d.to ∷ []) chains c c.to i (inr (inl refl)))),
    ))

places_many : (chains : List WrittenChain) → ((c : WrittenChain) → c ∈ chains → IsWhole c) → length (places_in chains) ≡ length (trees_in chains)
places_many [] h = refl
places_many (c ∷ chains) h =
    let trees : length (trees_in (c ∷ chains)) ≡ length c.trees + length (trees_in chains) = length-append c.trees (trees_in chains) in
    let places : length (places_in (c ∷ chains)) ≡ length c.at + length (places_in chains) = length-append c.at (places_in chains) in
    omega (arith, trees, places, (h c (inl refl)).places, places_many chains (λ d i. h d (inr i)))

-- they make a valid graph, or they are refused for a cause
abbrev pub MakeOrEnd : List WrittenChain → Type 0
MakeOrEnd chains = (AreFew chains × IsValid (graph_of chains)) ⊎ ((end : ChainEnd) × (end ≡ chain_end.Memory → ⊥) × AreRefused chains end)

module _ (chains : List WrittenChain) (some : 0 < length chains) (whole : (c : WrittenChain) → c ∈ chains → IsWhole c) where
  make_or_end : AreFew chains → Dec (HasCycle (graph_of chains).arcs) → Dec (ExactlyOne (IsEntry (graph_of chains))) → Dec (ExactlyOne (IsExit (graph_of chains))) → MakeOrEnd chains
  make_or_end few (yes c) e x = inr (chain_end.Cycle, λ m. absurd cc, (few, c))
  make_or_end few (no n) (no e) x = inr (chain_end.Entries, λ m. absurd cc, (few, (n, e)))
  make_or_end few (no n) (yes e) (no x) = inr (chain_end.Exits, λ m. absurd cc, (few, (n, e, x)))
  make_or_end few (no n) (yes e) (yes x) =
      let laid = arcs_laid (dense (numbers_in chains)) (record { nodes = different (numbers_in chains); arcs = [] }) chains in
      inl (
        few,
        record {
          some_arc = omega (arith, trees_some chains some whole, laid);
          in_range = graph_inside chains;
          no_cycle = λ a path p. n (record { node = a; path = path; is = p });
          entry = e;
          exit = x;
        },
      )

  pub chains_decided : MakeOrEnd chains
  chains_decided =
      ⊎_elim
      (λ many. inr (
        chain_end.TooManyArcs (get_or (places_in chains) most_read_arcs 0),
        λ m. absurd cc,
        (many, slice_get-get_or (places_in chains) most_read_arcs 0 (omega (arith, many, places_many chains whole))),
      ))
      (λ few. make_or_end few (decide_cycle (graph_of chains).arcs) (decide_one_entry (graph_of chains)) (decide_one_exit (graph_of chains)))
      (cases_lt most_read_arcs (length (trees_in chains)))
