-- What is known of a deck that was read: its rules are well read, its names and labels are named, and texts of the version of its
-- own tell its rules and its marks.
use Rattle.std.proofs.Common.{◌≡◌, ℕ, ◌≤◌, Bool, true, sym, subst, inl, inr, List, [], ◌∷◌}
use Rattle.std.specs.List.{All}
use Rattle.std.proofs.lemmas.Bool.{false≢true}
use Rattle.std.proofs.lemmas.List.Elements.{All-head, All-tail}
use Rattle.qs_lex.specs.declared.token.Token.{Token}
use Rattle.qs_lex.specs.declared.token.Word.TheVariants.{Unique}
use Rattle.qs_lex.specs.Tokens.{version_of, IsTokenOf}
use Rattle.qs_lex.proofs.Readings.{token_stands}
use Rattle.qs_lex.proofs.Meanings.{rest_all}
use Rattle.qs_tree.specs.Lists.{◌∈◌}
use Rattle.qs_ruletext.specs.WrittenRules.{WrittenRule}
use Rattle.qs_ruletext.specs.Rules.{ReadsRules}
use Rattle.qs_ruletext.specs.Written.{IsRuleToldIn}
use Rattle.qs_ruletext.proofs.Telling.{known_word, rule_in}
use Rattle.qs_ruletext.proofs.Whole.{rule_whole}
use Rattle.qs_deck.specs.WrittenDecks.{WrittenSystem}
use Rattle.qs_deck.specs.Reading.{ReadsMark, no_mark, a_mark, ReadsSystem, reads_system, ReadsSystems}
use Rattle.qs_deck.proofs.WholeDecks.{system_whole}

module _ (names : List (List ℕ)) (text : List ℕ) where
  abbrev AreOfText : List Token → Type 0
  AreOfText ts = All (IsTokenOf text) ts

  -- texts of this version tell the rules of a system and its mark
  abbrev IsTold : WrittenSystem → Type 0
  IsTold system = ((raw : WrittenRule) → raw ∈ system.rules → IsRuleToldIn (version_of text) raw.rule) × (system.unique ≡ true → 2 ≤ version_of text)

  rules_told : (ts rest : List Token) (raws : List WrittenRule) → AreOfText ts → ReadsRules names text ts raws rest → (raw : WrittenRule) → raw ∈ raws → IsRuleToldIn (version_of text) raw.rule
  rules_told ts rest [] all h raw i = absurd i
  rules_told ts rest (r ∷ raws) all h raw (inl e) = subst (λ (x : WrittenRule). IsRuleToldIn (version_of text) x.rule) (sym e) (rule_in text all h.1.rule)
  rules_told ts rest (r ∷ raws) all h raw (inr i) = rules_told h.0 rest raws (rest_all (IsTokenOf text) (rule_whole h.1.rule) all) h.2 raw i

  mark_told : {ts rest : List Token} {unique : Bool} → AreOfText ts → ReadsMark ts unique rest → (unique ≡ true → 2 ≤ version_of text) × AreOfText rest
  mark_told all no_mark = ((λ t. absurd (false≢true t)), all)
  mark_told all (a_mark {t} {ts} is) =
      ((λ _. known_word (version_of text) Unique t.kind (token_stands (All-head (IsTokenOf text) t ts all)).known is), All-tail (IsTokenOf text) t ts all)

  system_told : {ts rest : List Token} {system : WrittenSystem} → AreOfText ts → ReadsSystem names text ts system rest → IsTold system
  system_told all (reads_system {t} {u} {v} {marks} {ts} {rest} {system} w at l m s r) =
      let marked = mark_told (All-tail (IsTokenOf text) u marks (All-tail (IsTokenOf text) t (u ∷ marks) all)) m in
      (rules_told ts rest system.rules (All-tail (IsTokenOf text) v ts marked.1) r, marked.0)

  pub systems_told : (ts rest : List Token) (systems : List WrittenSystem) → AreOfText ts → ReadsSystems names text ts systems rest → (system : WrittenSystem) → system ∈ systems → IsTold system
  systems_told ts rest [] all h system i = absurd i
  systems_told ts rest (s ∷ systems) all h system (inl e) = subst IsTold (sym e) (system_told all h.1)
  systems_told ts rest (s ∷ systems) all h system (inr i) = systems_told h.0 rest systems (rest_all (IsTokenOf text) (system_whole h.1) all) h.2 system i
