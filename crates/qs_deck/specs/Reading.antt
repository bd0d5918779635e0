-- What is read from the tokens of a deck. In `Reads.. tokens x rest` the tokens before the rest are read as x.
use Rattle.std.specs.Prelude.{◌≡◌, ℕ, ◌≤◌, Bool, true, false, List, [], ◌∷◌, length}
use Rattle.qs_lex.specs.declared.token.Token.{Token}
use Rattle.qs_lex.specs.declared.token.Word.TheVariants.{Systeme, Unique}
use Rattle.qs_lex.specs.Grammar.{the_word, stop, IsOf}
use Rattle.qs_reader.specs.Names.{IsLabelOf}
use Rattle.qs_ruletext.specs.Rules.{ReadsRules}
use Rattle.qs_graphtext.specs.Reading.{ReadsGraph}
use Rattle.qs_deck.specs.WrittenDecks.{WrittenSystem, WrittenDeck}

-- [ -UNIQUE- ]: whether the mark stands
pub data ReadsMark : List Token → Bool → List Token → Type 0 where
  no_mark : {ts : List Token} → ReadsMark ts false ts
  a_mark : {t : Token} {ts : List Token} → IsOf (the_word Unique) t → ReadsMark (t ∷ ts) true ts

-- system = -SYSTEME- label [ -UNIQUE- ] "." { rule }
pub data ReadsSystem (names : List (List ℕ)) (text : List ℕ) : List Token → WrittenSystem → List Token → Type 0 where
  reads_system : {t u v : Token} {marks ts rest : List Token} {system : WrittenSystem}
      → IsOf (the_word Systeme) t → system.at ≡ t.from → IsLabelOf names text u system.name
      → ReadsMark marks system.unique (v ∷ ts) → IsOf stop v → ReadsRules names text ts system.rules rest
      → ReadsSystem names text (t ∷ u ∷ marks) system rest

-- the tokens before the rest are read as these systems, one behind the other
abbrev pub ReadsSystems : List (List ℕ) → List ℕ → List Token → List WrittenSystem → List Token → Type 0
ReadsSystems names text ts [] rest = ts ≡ rest
ReadsSystems names text ts (system ∷ systems) rest =
    (middle : List Token) × ReadsSystem names text ts system middle × ReadsSystems names text middle systems rest

-- deck = system { system } graph. The deck knows the byte at which its graph begins.
pub record ReadsDeck (names : List (List ℕ)) (text : List ℕ) (ts : List Token) (deck : WrittenDeck)
    (rest : List Token) : Type 0 where
  pub some : 1 ≤ length deck.systems
  pub first : Token
  pub behind : List Token
  pub systems : ReadsSystems names text ts deck.systems (first ∷ behind)
  pub graph : ReadsGraph names text (first ∷ behind) deck.chains rest
  pub graph_at : deck.graph_at ≡ first.from
