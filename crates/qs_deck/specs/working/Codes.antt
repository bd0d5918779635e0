-- How the logic tells written systems and decks apart. Nothing that a reader has to believe stands here.
use Rattle.std.specs.Prelude.{ℕ, Bool, List, refl}
use Rattle.std.specs.Coded.{Coded, code_by, coded×, coded_list, coded_ℕ, coded_bool}
use Rattle.qs_tree.specs.declared.cell.Label.{Label}
use Rattle.qs_tree.specs.contracts.cell.Label as label
use Rattle.qs_ruletext.specs.WrittenRules.{WrittenRule}
use Rattle.qs_ruletext.specs.working.Codes.{written_rule_code}
use Rattle.qs_graphtext.specs.WrittenChains.{WrittenChain}
use Rattle.qs_graphtext.specs.working.Codes.{chain_code}
use Rattle.qs_deck.specs.WrittenDecks.{WrittenSystem, WrittenDeck}

abbrev pub system_code : Coded WrittenSystem
system_code =
    code_by (ℕ × (Label × (Bool × List WrittenRule)))
    (coded× coded_ℕ (coded× label.the_row.coded (coded× coded_bool (coded_list written_rule_code))))
    (λ s. (s.at, (s.name, (s.unique, s.rules))))
    (λ p. record { at = p.0; name = p.1.0; unique = p.1.1.0; rules = p.1.1.1 }) (λ _. refl)

abbrev pub deck_code : Coded WrittenDeck
deck_code =
    code_by (List WrittenSystem × (ℕ × List WrittenChain))
    (coded× (coded_list system_code) (coded× coded_ℕ (coded_list chain_code)))
    (λ d. (d.systems, (d.graph_at, d.chains))) (λ p. record { systems = p.0; graph_at = p.1.0; chains = p.1.1 })
    (λ _. refl)
