-- A deck that is read under some names is read under others that hold the same texts, with other numbers for its labels.
use Rattle.std.proofs.Common.{◌≡◌, ℕ, Bool, refl, ap, List, [], ◌∷◌, map, arith}
use Rattle.std.proofs.lemmas.List.{length-map}
use Rattle.qs_lex.specs.declared.token.Token.{Token}
use Rattle.qs_pattern.specs.Rules.{Rule}
use Rattle.qs_ruletext.specs.WrittenRules.{WrittenRule}
use Rattle.qs_ruletext.specs.Rules.{ReadsRules}
use Rattle.qs_clean.specs.Renaming.{renamed_label, renamed_rule}
use Rattle.qs_deck.specs.WrittenDecks.{WrittenSystem, WrittenDeck}
use Rattle.qs_deck.specs.Reading.{ReadsSystem, reads_system, ReadsSystems, ReadsDeck}
use Rattle.qs_deck.specs.Decks.{rule_of, meaning_of}
use Rattle.qs_pieces.proofs.RenamedGrammars.{Carries, renamed_chain, renamed_grammar}
use Rattle.qs_pieces.proofs.ReadUnderOthers.{renamed_unmarked, label_under, rule_under, graph_under}

-- a rule, a system and a deck that were read have their labels written so; all places stay
abbrev pub renamed_written : (ℕ → ℕ) → WrittenRule → WrittenRule
renamed_written g written = record { rule = renamed_unmarked g written.rule; at = written.at }

abbrev pub renamed_system : (ℕ → ℕ) → WrittenSystem → WrittenSystem
renamed_system g system = record { at = system.at; name = renamed_label g system.name; unique = system.unique; rules = map (renamed_written g) system.rules }

abbrev pub renamed_deck : (ℕ → ℕ) → WrittenDeck → WrittenDeck
renamed_deck g deck = record { systems = map (renamed_system g) deck.systems; graph_at = deck.graph_at; chains = map (renamed_chain g) deck.chains }

module _ (g : ℕ → ℕ) where
  rules_renamed : (unique : Bool) (rules : List WrittenRule) → map (rule_of unique) (map (renamed_written g) rules) ≡ map (renamed_rule g) (map (rule_of unique) rules)
  rules_renamed unique [] = refl
  rules_renamed unique (r ∷ rules) = ap (λ (rs : List Rule). renamed_rule g (rule_of unique r) ∷ rs) (rules_renamed unique rules)

  -- what it means has its labels written so
  pub meanings_renamed : (systems : List WrittenSystem) → map meaning_of (map (renamed_system g) systems) ≡ map (renamed_grammar g) (map meaning_of systems)
  meanings_renamed [] = refl
  meanings_renamed (s ∷ systems) =
      let here = ap (λ (rules : List Rule). record { name = renamed_label g s.name; unique = s.unique; rules = rules }) (rules_renamed s.unique s.rules) in
      let behind = meanings_renamed systems in
      λ i. here i ∷ behind i

module _ (g : ℕ → ℕ) (others names : List (List ℕ)) (carries : Carries g others names) (text : List ℕ) where
  rules_under : (rules : List WrittenRule) (ts rest : List Token) → ReadsRules others text ts rules rest → ReadsRules names text ts (map (renamed_written g) rules) rest
  rules_under [] ts rest e = e
  rules_under (r ∷ rules) ts rest h = (
    h.0,
    record { rule = rule_under g others names carries text h.1.rule; tokens = h.1.tokens; are = h.1.are; at = h.1.at },
    rules_under rules h.0 rest h.2,
  )

  system_under : {ts rest : List Token} {system : WrittenSystem} → ReadsSystem others text ts system rest → ReadsSystem names text ts (renamed_system g system) rest
  system_under (reads_system {ts} {rest} {system = s} word at label mark dot rules) =
      reads_system word at (label_under g others names carries text label) mark dot (rules_under s.rules ts rest rules)

  systems_under : (systems : List WrittenSystem) (ts rest : List Token) → ReadsSystems others text ts systems rest → ReadsSystems names text ts (map (renamed_system g) systems) rest
  systems_under [] ts rest e = e
  systems_under (s ∷ systems) ts rest h = (h.0, system_under h.1, systems_under systems h.0 rest h.2)

  pub deck_under : {ts rest : List Token} {deck : WrittenDeck} → ReadsDeck others text ts deck rest → ReadsDeck names text ts (renamed_deck g deck) rest
  deck_under {ts} {deck = deck} r = record {
    some = omega (arith, r.some, length-map deck.systems (renamed_system g));
    first = r.first;
    behind = r.behind;
    systems = systems_under deck.systems ts (r.first ∷ r.behind) r.systems;
    graph = graph_under g others names carries text r.graph;
    graph_at = r.graph_at;
  }
