-- The grammar of decks has no empty part, the table says with which sorts each may begin, and the next token tells how to go on.
use Rattle.std.proofs.Common.{◌≡◌, Bool, true, false, refl}
use Rattle.qs_lex.specs.Grammar.{Sort, renamed}
use Rattle.qs_lex.specs.working.Expecting.{IsPredictive}
use Rattle.qs_lex.proofs.Predictive.{IsPredicted}
use Rattle.qs_lex.proofs.Predicting.{is_good, predicted}
use Rattle.qs_ruletext.specs.Grammar as rules
use Rattle.qs_ruletext.specs.working.Readers.{begins_tree}
use Rattle.qs_ruletext.proofs.Tables as rule_tables
use Rattle.qs_graphtext.specs.Grammar as graphs
use Rattle.qs_graphtext.proofs.Tables as graph_tables
use Rattle.qs_deck.specs.Grammar.{Part, deck, system, of_rules, of_graphs, grammars, line}
use Rattle.qs_deck.specs.working.Readers.{table}

-- with which sorts a whole part may go on
abbrev pub more : Part → Sort → Bool
more deck k = false
more system k = begins_tree k
more (of_rules p) k = rule_tables.more p k
more (of_graphs p) k = graph_tables.more p k

good : (p : Part) → is_good line table more p ≡ true
good deck = refl
good system = refl
good (of_rules rules.rule) = refl
good (of_rules rules.side) = refl
good (of_rules rules.tree) = refl
good (of_rules rules.list) = refl
good (of_rules rules.item) = refl
good (of_rules rules.cond) = refl
good (of_rules rules.conj) = refl
good (of_rules rules.neg) = refl
good (of_rules rules.prim) = refl
good (of_graphs graphs.graph) = refl
good (of_graphs graphs.chain) = refl
good (of_graphs graphs.plain) = refl

pub ok : IsPredicted line table more
ok = predicted line table more good

-- at each place of a list of grammars too
pub grammars_good : IsPredictive table more grammars
grammars_good = (ok.predictive deck).0

-- the lines of rules and of graphs are those of their own grammars
pub rules_are : (p : rules.Part) → line (of_rules p) ≡ renamed of_rules (rules.line p)
rules_are p = refl

pub graphs_are : (p : graphs.Part) → line (of_graphs p) ≡ renamed of_graphs (graphs.line p)
graphs_are p = refl
