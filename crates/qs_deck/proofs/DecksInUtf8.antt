-- What is written of a deck whose names are in UTF-8 is in UTF-8.
use Rattle.std.proofs.Common.{◌≡◌, ◌⊎◌, ℕ, Bool, true, false, refl, sym, subst, inl, inr, List, [], ◌∷◌, ◌++◌, codes}
use Rattle.std.specs.Str.{IsUtf8}
use Rattle.std.specs.List.{flat_map}
use Rattle.std.proofs.lemmas.Str.{IsUtf8-append, IsUtf8-nil}
use Rattle.qs_tree.specs.Lists.{◌∈◌}
use Rattle.qs_tree.specs.Text.{name_of, label_text}
use Rattle.qs_pattern.specs.Rules.{Rule, unmarked}
use Rattle.qs_ruletext.specs.Rules.{IsWellRead}
use Rattle.qs_ruletext.specs.Written.{written}
use Rattle.qs_ruletext.proofs.NamesInUtf8.{AreUtf8}
use Rattle.qs_ruletext.proofs.TextsInUtf8.{ascii_is, name_is, label_text_is, rule_text_is}
use Rattle.qs_graph.specs.Graphs.{QGraph}
use Rattle.qs_graphtext.specs.Texts.{graph_text}
use Rattle.qs_graphtext.proofs.GraphsInUtf8.{line_is, graph_text_is}
use Rattle.qs_deck.specs.Decks.{Grammar}
use Rattle.qs_deck.specs.Texts.{rule_line, mark_text, grammar_text, version_text, deck_text}
use Rattle.qs_deck.proofs.DecksReadBack.{IsWritableGrammar}

mark_is : (unique : Bool) → IsUtf8 (mark_text unique)
mark_is true = ascii_is (codes " -UNIQUE-") refl
mark_is false = IsUtf8-nil

version_is : (version : ℕ) → (version ≡ 1) ⊎ (version ≡ 2) → IsUtf8 (version_text version)
version_is version (inl first) = subst (λ v. IsUtf8 (version_text v)) (sym first) IsUtf8-nil
version_is version (inr second) = subst (λ v. IsUtf8 (version_text v)) (sym second) (ascii_is (codes "-VERSION- 2.\n") refl)

module _ (names : List (List ℕ)) (utf8 : AreUtf8 names) (version n : ℕ) where
  rules_are : (rules : List Rule) → ((rule : Rule) → rule ∈ rules → IsWellRead n (unmarked rule)) → IsUtf8 (flat_map (rule_line names) rules)
  rules_are [] w = IsUtf8-nil
  rules_are (r ∷ rules) w =
      IsUtf8-append (rule_line names r) (flat_map (rule_line names) rules) (line_is (written names (unmarked r)) (rule_text_is names n (unmarked r) utf8 (w r (inl refl)))) (rules_are rules (λ rule i. w rule (inr i)))

  grammar_is : (grammar : Grammar) → IsWritableGrammar version n grammar → IsUtf8 (grammar_text names grammar)
  grammar_is grammar w =
      let label : List ℕ = label_text (name_of names grammar.name) in
      let behind : List ℕ = mark_text grammar.unique ++ codes "." in
      let heading : List ℕ = codes "-SYSTEME- " ++ (label ++ behind) in
      IsUtf8-append (heading ++ codes "\n") (flat_map (rule_line names) grammar.rules)
      (line_is heading
      (IsUtf8-append (codes "-SYSTEME- ") (label ++ behind) (ascii_is (codes "-SYSTEME- ") refl)
      (IsUtf8-append label behind (label_text_is (name_of names grammar.name) (name_is names grammar.name utf8))
      (IsUtf8-append (mark_text grammar.unique) (codes ".") (mark_is grammar.unique) (ascii_is (codes ".") refl)))))
      (rules_are grammar.rules w.rules)

  grammars_are : (grammars : List Grammar) → ((grammar : Grammar) → grammar ∈ grammars → IsWritableGrammar version n grammar) → IsUtf8 (flat_map (grammar_text names) grammars)
  grammars_are [] w = IsUtf8-nil
  grammars_are (grammar ∷ grammars) w =
      IsUtf8-append (grammar_text names grammar) (flat_map (grammar_text names) grammars) (grammar_is grammar (w grammar (inl refl))) (grammars_are grammars (λ other i. w other (inr i)))

  pub deck_text_is : (version ≡ 1) ⊎ (version ≡ 2) → (grammars : List Grammar) → ((grammar : Grammar) → grammar ∈ grammars → IsWritableGrammar version n grammar) → (G : QGraph) → IsUtf8 (deck_text version names grammars G)
  deck_text_is which grammars w G =
      IsUtf8-append (version_text version) (flat_map (grammar_text names) grammars ++ graph_text names G) (version_is version which)
      (IsUtf8-append (flat_map (grammar_text names) grammars) (graph_text names G) (grammars_are grammars w) (graph_text_is names utf8 G))
