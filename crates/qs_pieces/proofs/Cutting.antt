-- What is asked of a cascade that is run in two pieces: that its second part can be written, and that decks have it.
use Rattle.std.proofs.Common.{ℕ, List, ◌++◌, length, Option, Some, None}
use Rattle.qs_lex.specs.Tokens.{version_of}
use Rattle.qs_tree.specs.Lists.{◌∈◌}
use Rattle.qs_tree.proofs.Members.{in_append_right}
use Rattle.qs_pattern.specs.Conditions.{Condition}
use Rattle.qs_pattern.specs.Rules.{Rule, IsInClassIfGiven, HasEnoughMembersIfGiven, unmarked, IsAccepted}
use Rattle.qs_pattern.specs.Named.{IsNamedIfGiven}
use Rattle.qs_ruletext.specs.Rules.{IsWellRead, IsWellReadIfGiven}
use Rattle.qs_graph.specs.Graphs.{QGraph}
use Rattle.qs_deck.specs.Decks.{Grammar, IsDeckOf}
use Rattle.qs_deck.specs.Named.{IsRuleNamed}
use Rattle.qs_deck.proofs.DecksReadBack.{IsWritableGrammar}
use Rattle.qs_deck.proofs.WritableDecks.{names_of_deck, writable_deck}
use Rattle.qs_deck.proofs.DecksAccepted.{deck_accepted}
use Rattle.qs_pieces.specs.Pieces.{CanBeCut}
use Rattle.qs_pieces.proofs.PassingRules.{HasFullListsIfGiven}
use Rattle.qs_pieces.proofs.PassingDecks.{IsPassedGrammar}

-- a condition that compares no empty list, in class and with named labels, is as those that were read
given_read : (n : ℕ) (o : Option Condition) → IsInClassIfGiven o → HasEnoughMembersIfGiven o → IsNamedIfGiven n o → HasFullListsIfGiven o → IsWellReadIfGiven n o
given_read n None in_class enough named full = tt
given_read n (Some c) in_class enough named full = record { in_class = in_class; enough = enough; lists = full; named = named }

-- and so is a rule
rule_read : (n : ℕ) (rule : Rule) → IsAccepted rule → IsRuleNamed n rule → HasFullListsIfGiven rule.condition → IsWellRead n (unmarked rule)
rule_read n rule ok named full = record {
  left = record { some = ok.left.some; no_forest_at_top = ok.left.no_forest_at_top; in_class = ok.left.in_class; named = named.left };
  right = record { some = ok.right.some; no_forest_at_top = ok.right.no_forest_at_top; in_class = ok.right.in_class; named = named.right };
  condition = given_read n rule.condition ok.condition ok.members named.condition full;
}

-- so the second part can be written, where no condition in it compares an empty list and texts of the version tell its rules and
-- marks
pub back_writable : {names : List (List ℕ)} {graph : QGraph} {front back : List Grammar} (version : ℕ) → CanBeCut names graph front back
    → ((grammar : Grammar) → grammar ∈ back → IsPassedGrammar version grammar) → (grammar : Grammar) → grammar ∈ back → IsWritableGrammar version (length names) grammar
back_writable {front = front} {back = back} version can passed grammar i =
    let j = in_append_right front back grammar i in
    let named = can.named grammar j in
    record {
      name = named.0;
      rules = λ rule k. rule_read _ rule (can.accepted grammar j rule k) (named.1 rule k) ((passed grammar i).full rule k).0;
      marked = can.marked_alike grammar i;
      told = λ rule k. ((passed grammar i).full rule k).1;
      mark_told = (passed grammar i).mark_told;
    }

-- a condition that was read has named labels
given_named : (n : ℕ) (o : Option Condition) → IsWellReadIfGiven n o → IsNamedIfGiven n o
given_named n None known = tt
given_named n (Some c) known = known.named

-- the names, the grammars and the graph of a deck
pub cut_deck : {text : List ℕ} {version : ℕ} {names : List (List ℕ)} {graph : QGraph} {front back : List Grammar} → IsDeckOf text version names (front ++ back) graph → CanBeCut names graph front back
cut_deck {text} {names = names} {front = front} {back = back} deck =
    let known = names_of_deck deck in
    let can = writable_deck deck in
    let each : (grammar : Grammar) → grammar ∈ (front ++ back) → IsWritableGrammar (version_of text) (length names) grammar = can.1 in
    record {
      names_differ = known.1;
      accepted = deck_accepted deck;
      named = λ grammar i. (
        (each grammar i).name,
        λ rule j.
            let read = (each grammar i).rules rule j in
            record { left = read.left.named; right = read.right.named; condition = given_named (length names) rule.condition read.condition },
      );
      marked_alike = λ grammar i. (each grammar (in_append_right front back grammar i)).marked;
      valid = can.2;
      arcs_named = can.4;
    }
