-- What is read as a deck is whole by the grammar of decks, which takes in the lines of rules and of graphs.
use Rattle.std.proofs.Common.{ℕ, ◌≤◌, Bool, refl, subst, List, [], ◌∷◌, length, arith}
use Rattle.qs_lex.specs.declared.token.Token.{Token}
use Rattle.qs_lex.specs.declared.token.Word.TheVariants.{Unique}
use Rattle.qs_lex.specs.Grammar.{the_word, one, part, optional, repeated, IsWhole, whole_token, whole_part, whole_sequence, left_out, not_left_out, no_more, one_more}
use Rattle.qs_lex.proofs.Renaming.{whole_in}
use Rattle.qs_ruletext.specs.Grammar as rules
use Rattle.qs_reader.proofs.Tokens.{label_sort}
use Rattle.qs_ruletext.proofs.Whole.{rules_whole}
use Rattle.qs_graphtext.specs.Grammar as graphs
use Rattle.qs_graphtext.proofs.Whole.{graph_whole}
use Rattle.qs_deck.specs.WrittenDecks.{WrittenSystem, WrittenDeck}
use Rattle.qs_deck.specs.Grammar.{deck, system, of_rules, of_graphs, grammars, line}
use Rattle.qs_deck.specs.Decks.{IsWritten}
use Rattle.qs_deck.specs.Versions.{IsVersionLine, IsWholeText}
use Rattle.qs_deck.specs.GrammarLists.{AreWritten}
use Rattle.qs_deck.specs.working.Versions.{IsWholeDeck}
use Rattle.qs_deck.specs.Reading.{ReadsMark, no_mark, a_mark, ReadsSystem, reads_system, ReadsSystems, ReadsDeck}

mark_whole : {ts rest : List Token} {unique : Bool} → ReadsMark ts unique rest → IsWhole line (optional (one (the_word Unique))) ts rest
mark_whole no_mark = left_out
mark_whole (a_mark is) = not_left_out (whole_token is)

pub system_whole : {names : List (List ℕ)} {text : List ℕ} {ts rest : List Token} {s : WrittenSystem} → ReadsSystem names text ts s rest → IsWhole line (part system) ts rest
system_whole {names} {text} (reads_system {u} {ts} {rest} {system = s} e at label mark f below) =
    let inside = whole_in rules.line line of_rules (λ p. refl) (rules_whole names text ts rest s.rules below) in
    whole_part (whole_sequence (whole_token e) (whole_sequence (whole_token (label_sort text u label.spelling label.of_token)) (whole_sequence (mark_whole mark) (whole_sequence (whole_token f) inside))))

more_systems_whole : (names : List (List ℕ)) (text : List ℕ) (systems : List WrittenSystem) (ts rest : List Token) → ReadsSystems names text ts systems rest → IsWhole line (repeated (part system)) ts rest
more_systems_whole names text [] ts rest e = subst (λ us. IsWhole line (repeated (part system)) ts us) e no_more
more_systems_whole names text (s ∷ systems) ts rest h = one_more (system_whole h.1) (more_systems_whole names text systems h.0 rest h.2)

-- systems that nothing follows are a list of grammars, whole
pub list_whole : (names : List (List ℕ)) (text : List ℕ) (systems : List WrittenSystem) (ts rest : List Token) → 1 ≤ length systems → ReadsSystems names text ts systems rest → IsWhole line grammars ts rest
list_whole names text [] ts rest some h = absurd (omega arith)
list_whole names text (s ∷ systems) ts rest some h = whole_sequence (system_whole h.1) (more_systems_whole names text systems h.0 rest h.2)

deck_of_parts : (names : List (List ℕ)) (text : List ℕ) (systems : List WrittenSystem) (ts middle rest : List Token) → 1 ≤ length systems → ReadsSystems names text ts systems middle
    → IsWhole line (part (of_graphs graphs.graph)) middle rest → IsWhole line (part deck) ts rest
deck_of_parts names text [] ts middle rest some h g = absurd (omega arith)
deck_of_parts names text (s ∷ systems) ts middle rest some h g =
    whole_part (whole_sequence (list_whole names text (s ∷ systems) ts middle some h) g)

pub deck_whole : {names : List (List ℕ)} {text : List ℕ} {ts rest : List Token} {d : WrittenDeck} → ReadsDeck names text ts d rest → IsWhole line (part deck) ts rest
deck_whole {names} {text} {ts} {rest} {d} r =
    deck_of_parts names text d.systems ts (r.first ∷ r.behind) rest r.some r.systems (whole_in graphs.line line of_graphs (λ p. refl) (graph_whole r.graph))

-- a text that is a written deck is a deck, whole
pub written_whole : {text : List ℕ} {version : ℕ} {names : List (List ℕ)} {d : WrittenDeck} (w : IsWritten text version names d) → IsWholeDeck text w.tokens
written_whole {text} w = record {
  front = w.front;
  body = w.body;
  are = w.are;
  in_front = subst (λ v. IsVersionLine text v w.front) w.version_is w.in_front;
  whole = deck_whole w.reads;
}

-- and one that is a written list of grammars is such a list, whole
pub written_list_whole : {text : List ℕ} {version : ℕ} {names : List (List ℕ)} {systems : List WrittenSystem} (w : AreWritten text version names systems) → IsWholeText grammars text w.tokens
written_list_whole {text} {names = names} {systems = systems} w = record {
  front = w.front;
  body = w.body;
  are = w.are;
  in_front = subst (λ v. IsVersionLine text v w.front) w.version_is w.in_front;
  whole = list_whole names text systems w.body [] w.some w.reads;
}
