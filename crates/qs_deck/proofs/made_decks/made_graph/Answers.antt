use Rattle.std.proofs.Common.{◌^◌, ap, length, arith}
use Rattle.std.proofs.Math.Pow.{pow_mono}
use Rattle.std.proofs.lemmas.List.FromFn.{length-map-range_with_len}
use Rattle.qs_deck.specs.MadeDecks.{word_tree}
use Rattle.qs_deck.proofs.made_decks.made_graph.Goals as goal

pub line-requires-clause-few : goal.line-requires-clause-few
line-requires-clause-few c =
    omega (arith, ap length c.in_ok-trees.ensures, length-map-range_with_len (word_tree c.args.size) 1 (2 ^ c.args.size), pow_mono c.requires)
