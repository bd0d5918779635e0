use Rattle.std.proofs.Common.{◌++◌}
use Rattle.qs_pieces.proofs.InTwoPieces.{in_two_pieces}
use Rattle.qs_pieces.proofs.Cutting.{cut_deck}
use Rattle.qs_pieces.proofs.laws.two_pieces.Goals as goal

pub returns-clause-together : goal.returns-clause-together
returns-clause-together c = in_two_pieces

pub returns-clause-same : goal.returns-clause-same
returns-clause-same c = λ p text ending all.
    c.one_outcome.ensures p.limit p.names p.graph (p.front ++ p.back) text (p.first ++ p.second) ending p.ending all (in_two_pieces p)

pub returns-clause-decks : goal.returns-clause-decks
returns-clause-decks c = λ text version names graph front back deck. cut_deck deck
