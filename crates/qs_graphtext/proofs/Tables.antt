-- The grammar of graphs has no empty part, the table says with which sorts each may begin, and the next token tells how to go on.
use Rattle.std.proofs.Common.{◌≡◌, Bool, true, false, refl}
use Rattle.qs_lex.specs.Grammar.{Sort, opening}
use Rattle.qs_lex.specs.Expecting.{same_sort}
use Rattle.qs_lex.proofs.Predictive.{IsPredicted}
use Rattle.qs_lex.proofs.Predicting.{is_good, predicted}
use Rattle.qs_graphtext.specs.Grammar.{Part, graph, chain, plain, line}
use Rattle.qs_graphtext.specs.working.Readers.{table}

-- with which sorts a whole part may go on
abbrev pub more : Part → Sort → Bool
more graph k = false
more chain k = false
more plain k = same_sort opening k

good : (p : Part) → is_good line table more p ≡ true
good graph = refl
good chain = refl
good plain = refl

pub all_ok : IsPredicted line table more
all_ok = predicted line table more good
