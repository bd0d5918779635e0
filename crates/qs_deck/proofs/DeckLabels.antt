-- The label tokens of a deck have the texts of its labels, in the order in which they are written.
use Rattle.std.proofs.Common.{◌≡◌, ℕ, Bool, refl, sym, subst, List, [], ◌∷◌, ◌++◌, map}
use Rattle.qs_lex.specs.declared.token.Token.{Token}
use Rattle.qs_lex.specs.declared.token.Word.TheVariants.{Systeme, Unique}
use Rattle.qs_lex.specs.Grammar.{the_word, stop}
use Rattle.qs_tree.specs.declared.cell.Label.{Label}
use Rattle.qs_pattern.specs.Rules.{unmarked}
use Rattle.qs_ruletext.specs.WrittenRules.{WrittenRule}
use Rattle.qs_ruletext.proofs.LabelTexts.{labels_in_rules, PassesLabels, passes_nothing, passes_label, passes_sign, passes_both, rules_pass}
use Rattle.qs_graphtext.specs.GraphOfChains.{trees_in}
use Rattle.qs_graphtext.proofs.LabelTexts.{labels_in_trees, graph_passes}
use Rattle.qs_deck.specs.WrittenDecks.{WrittenSystem, WrittenDeck}
use Rattle.qs_deck.specs.Reading.{ReadsMark, no_mark, a_mark, ReadsSystem, reads_system, ReadsSystems, ReadsDeck}
use Rattle.qs_deck.specs.Decks.{Grammar, rule_of, meaning_of}

-- the labels of grammars, each with its name in front
abbrev pub labels_in_grammars : List Grammar → List Label
labels_in_grammars [] = []
labels_in_grammars (grammar ∷ grammars) = (grammar.name ∷ labels_in_rules (map unmarked grammar.rules)) ++ labels_in_grammars grammars

-- the rules that written ones mean are those, without the mark
unmarked_rules : (unique : Bool) (raws : List WrittenRule) → map unmarked (map (rule_of unique) raws) ≡ map (λ (raw : WrittenRule). raw.rule) raws
unmarked_rules unique [] = refl
unmarked_rules unique (raw ∷ raws) = λ i. raw.rule ∷ unmarked_rules unique raws i

-- a mark has no label
mark_passes : {names : List (List ℕ)} {text : List ℕ} {ts rest : List Token} {unique : Bool} → ReadsMark ts unique rest → PassesLabels names text ts [] rest
mark_passes no_mark = passes_nothing
mark_passes (a_mark is) = passes_sign (the_word Unique) refl is

system_passes : {names : List (List ℕ)} {text : List ℕ} {ts rest : List Token} {s : WrittenSystem} → ReadsSystem names text ts s rest
    → PassesLabels names text ts (s.name ∷ labels_in_rules (map unmarked (meaning_of s).rules)) rest
system_passes {names} {text} (reads_system {ts} {rest} {system = s} e at label mark f below) =
    passes_both (passes_sign (the_word Systeme) refl e)
    (passes_both (passes_label label)
    (passes_both (mark_passes mark)
    (passes_both (passes_sign stop refl f)
    (subst (λ rules. PassesLabels names text ts (labels_in_rules rules) rest) (sym (unmarked_rules s.unique s.rules)) (rules_pass names text ts rest s.rules below)))))

systems_pass : (names : List (List ℕ)) (text : List ℕ) (systems : List WrittenSystem) (ts rest : List Token) → ReadsSystems names text ts systems rest
    → PassesLabels names text ts (labels_in_grammars (map meaning_of systems)) rest
systems_pass names text [] ts rest e = subst (λ us. PassesLabels names text ts [] us) e passes_nothing
systems_pass names text (s ∷ systems) ts rest h = passes_both (system_passes h.1) (systems_pass names text systems h.0 rest h.2)

pub deck_passes : {names : List (List ℕ)} {text : List ℕ} {ts rest : List Token} {d : WrittenDeck} → ReadsDeck names text ts d rest
    → PassesLabels names text ts (labels_in_grammars (map meaning_of d.systems) ++ labels_in_trees (trees_in d.chains)) rest
deck_passes {names} {text} {ts} {d = d} r = passes_both (systems_pass names text d.systems ts (r.first ∷ r.behind) r.systems) (graph_passes r.graph)
