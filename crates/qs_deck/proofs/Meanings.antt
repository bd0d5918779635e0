-- What a written deck means, and how it is refused.
use Rattle.std.proofs.Common.{◌≡◌, ℕ, ◌≤◌, ◌<◌, Bool, List, [], ◌∷◌, ◌++◌, length, map, refl, sym, ap, subst, inl, inr, arith, Option, Some, None, length-append}
use Rattle.std.specs.Prelude.{IsCharBoundary, Result, Ok, Err, IfOk, IfErr, IsErr}
use Rattle.std.specs.Str.{IsUtf8}
use Rattle.std.specs.List.{All}
use Rattle.std.proofs.lemmas.List.Elements.{All-head, All-tail}
use Rattle.qs_io.specs.Limits.{most_text_bytes}
use Rattle.qs_graph.specs.Limits.{most_read_arcs}
use Rattle.qs_tree.specs.Lists.{◌∈◌}
use Rattle.qs_tree.proofs.Members.{in_append_right, in_map, from_map, in_at}
use Rattle.qs_lex.specs.declared.token.Token.{Token}
use Rattle.qs_lex.specs.declared.refusal.Cause.{Cause}
use Rattle.qs_lex.specs.declared.refusal.Cause.TheVariants.{TooManySystems}
use Rattle.qs_lex.specs.declared.refusal.Refusal.{Refusal}
use Rattle.qs_lex.specs.declared.refusal.LexEnd.{LexEnd}
use Rattle.qs_lex.specs.declared.refusal.LexEnd.TheVariants as lex_end
use Rattle.qs_lex.specs.Refusals.{IsRefusedFor}
use Rattle.qs_lex.specs.Refusals as lexing
use Rattle.qs_lex.proofs.Refusing.{refused}
use Rattle.qs_pattern.specs.Conditions.{Condition}
use Rattle.qs_pattern.specs.Named.{IsNamedIfGiven}
use Rattle.qs_pattern.specs.Rules.{Rule}
use Rattle.qs_ruletext.specs.WrittenRules.{WrittenRule}
use Rattle.qs_ruletext.specs.Rules.{IsWellRead, IsWellReadIfGiven}
use Rattle.qs_check.specs.Checking.{CanBeChecked}
use Rattle.qs_check.specs.declared.checking.CheckEnd.{CheckEnd}
use Rattle.qs_check.specs.declared.checking.CheckEnd.TheVariants as check_end
use Rattle.qs_check.specs.declared.checking.CheckEnd.TheVariants.{Refused}
use Rattle.qs_graphtext.specs.WrittenChains.{WrittenChain}
use Rattle.qs_graphtext.specs.GraphOfChains.{IsWhole, AreRefused, places_in, numbers_in, different, dense, graph_of}
use Rattle.qs_graphtext.specs.Texts.{AreArcsNamed}
use Rattle.qs_graphtext.specs.Reading.{IsByteOf}
use Rattle.qs_graphtext.specs.declared.chain_end.ChainEnd.{ChainEnd}
use Rattle.qs_graphtext.specs.declared.chain_end.ChainEnd.TheVariants as chain_end
use Rattle.qs_graphtext.proofs.Bytes.{byte_of_graph, whole_graph, some_chain}
use Rattle.qs_graphtext.proofs.Places.{graph_named}
use Rattle.qs_graphtext.proofs.TreesLaid.{trees_laid, named_laid}
use Rattle.qs_deck.specs.Limits.{most_systems}
use Rattle.qs_deck.specs.WrittenDecks.{WrittenSystem, WrittenDeck, rules_of}
use Rattle.qs_deck.specs.declared.system.System.{System}
use Rattle.qs_deck.specs.Named.{IsRuleNamed, AreSystemsNamed}
use Rattle.qs_deck.specs.Reading.{ReadsSystems}
use Rattle.qs_deck.specs.Decks.{Grammar, rule_of, grammar_of, meaning_of, HasTokens, IsWritten}
use Rattle.qs_deck.specs.GrammarLists.{AreWritten, IsGrammarsFault, EndsForGrammars}
use Rattle.qs_deck.specs.GrammarLists as lists
use Rattle.qs_deck.specs.Checks.{IsChecked, IsCheckFault, too_many_systems, rule_not_accepted}
use Rattle.qs_deck.specs.Refusals.{too_many_arcs, cycle, entries, exits, tokens, check, graph, IsRefusalOf, EndsFor}
use Rattle.qs_deck.specs.declared.deck.DeckEnd.{DeckEnd}
use Rattle.qs_deck.specs.declared.deck.DeckEnd.TheVariants as deck_end
use Rattle.qs_deck.specs.Answers.{end_of_tokens}
use Rattle.qs_deck.specs.working.Answers.{end_of_check, end_of_chains, IsEndOf, IsEndOfGrammars, IsEndOfList}
use Rattle.qs_deck.specs.declared.fault.FaultEnd.{FaultEnd}
use Rattle.qs_deck.specs.declared.fault.FaultEnd.TheVariants.{Fault, Memory}
use Rattle.qs_deck.specs.working.Checked.{IsFirstFault}
use Rattle.qs_deck.proofs.CheckSteps.{HasFewRules}
use Rattle.qs_deck.proofs.Borders.{spans, byte_border, few_tokens}
use Rattle.qs_deck.proofs.WhatIsRead.{systems_can, systems_few, systems_later, rule_byte, word_byte, systems_named}

-- a text that has no refusal is read, but for want of memory
pub only_memory : {T : Type 0} (text : List ℕ) (r : Result T DeckEnd) → IfErr r (EndsFor text) → ((x : Refusal) → IsRefusalOf text x → ⊥) → IfErr r (λ end. end ≡ deck_end.Memory)
only_memory text (Ok d) h none = tt
only_memory text (Err (deck_end.Refused x)) h none = absurd (none x h)
only_memory text (Err deck_end.Memory) h none = refl

pub only_memory_of_list : {T : Type 0} (text : List ℕ) (r : Result T DeckEnd) → IfErr r (EndsForGrammars text) → ((x : Refusal) → IsRefusedFor IsGrammarsFault text x → ⊥) → IfErr r (λ end. end ≡ deck_end.Memory)
only_memory_of_list text (Ok d) h none = tt
only_memory_of_list text (Err (deck_end.Refused x)) h none = absurd (none x h)
only_memory_of_list text (Err deck_end.Memory) h none = refl

-- what can't be read isn't
pub never_ok : {T E : Type 0} (P : T → Type 0) (r : Result T E) → IfOk r P → ((x : T) → P x → ⊥) → IsErr r
never_ok P (Ok x) h none = absurd (none x h)
never_ok P (Err e) h none = refl

-- a text that has no tokens is refused for their first fault
pub tokens_end : (text : List ℕ) → IsUtf8 text → (end : LexEnd) → lexing.EndsFor text end → EndsFor text (end_of_tokens end)
tokens_end text utf8 (lex_end.Refused r) is = refused (tokens utf8 is.fault) is.tells
tokens_end text utf8 lex_end.Memory is = tt

pub tokens_end_of_list : (text : List ℕ) → IsUtf8 text → (end : LexEnd) → lexing.EndsFor text end → EndsForGrammars text (end_of_tokens end)
tokens_end_of_list text utf8 (lex_end.Refused r) is = refused (lists.unwritten utf8 (lists.tokens is.fault)) is.tells
tokens_end_of_list text utf8 lex_end.Memory is = tt

-- a text that is no written list of grammars means none
pub list_end : (text : List ℕ) → IsUtf8 text → (end : FaultEnd) → IsEndOfList text end → IsEndOfGrammars text end
list_end text utf8 (Fault byte cause) is = (lists.unwritten utf8 is.0, is.1)
list_end text utf8 Memory is = tt

-- what holds of each of a list holds of a member
pub all_member : {X : Type 0} (P : X → Type 0) (xs : List X) (x : X) → All P xs → x ∈ xs → P x
all_member P [] x h i = elim i [ ]
all_member P (y ∷ ys) x h (inl e) = subst P (sym e) (All-head P y ys h)
all_member P (y ∷ ys) x h (inr i) = all_member P ys x (All-tail P y ys h) i

rule_named : (n : ℕ) (unique : Bool) (raw : WrittenRule) → IsWellRead n raw.rule → IsRuleNamed n (rule_of unique raw)
rule_named n unique raw w = record { left = w.left.named; right = w.right.named; condition = if_given raw.rule.condition w.condition }
  where
    if_given : (o : Option Condition) → IsWellReadIfGiven n o → IsNamedIfGiven n o
    if_given None h = tt
    if_given (Some c) h = h.named

-- the labels of a grammar are named
abbrev IsGrammarNamed : ℕ → Grammar → Type 0
IsGrammarNamed n g = (g.name.0 < n) × ((rule : Rule) → rule ∈ g.rules → IsRuleNamed n rule)

-- grammars that are read from the tokens of a text, behind the line of its version
module _ (text : List ℕ) (names : List (List ℕ)) (all front body rest : List Token) (systems : List WrittenSystem) (has : HasTokens text all) (are : all ≡ front ++ body)
    (reads : ReadsSystems names text body systems rest) where
  behind_line : (byte : ℕ) → IsByteOf body byte → IsByteOf all byte
  behind_line byte b = (b.0, subst (λ ts. b.0 ∈ ts) (sym are) (in_append_right front body b.0 b.1), b.2)

  pub can_all : All CanBeChecked (rules_of systems)
  can_all = systems_can names text body rest systems reads

  pub few_each : length text ≤ most_text_bytes → All HasFewRules systems
  few_each short =
      systems_few names text body rest systems reads
      (omega (arith, short, few_tokens text 0 all (spans text all has) (omega (arith)), ap length are, length-append front body))

  border_of : (byte : ℕ) → IsByteOf all byte → IsCharBoundary text byte
  border_of byte b = byte_border text all byte (spans text all has) b

  -- the checks
  check_byte : (cause : Cause) (at : ℕ) → IsFirstFault systems (Refused cause at) → IsByteOf all at
  check_byte cause at (inl x) =
      behind_line at (subst (IsByteOf body) (sym x.3) (word_byte names text body rest systems reads x.0 (in_at systems most_systems x.0 x.1)))
  check_byte cause at (inr x) =
      let f = x.1 in
      let among = subst (λ raws. f.raw ∈ raws) (sym f.are) (in_append_right f.front (f.raw ∷ f.behind) f.raw (inl refl)) in
      behind_line at (rule_byte names text body rest systems reads f.raw among at (in_at f.raw.at f.ends.0 at f.ends.2))

  pub check_border : (cause : Cause) (at : ℕ) → IsFirstFault systems (Refused cause at) → IsCharBoundary text at
  check_border cause at f = border_of at (check_byte cause at f)

  pub check_fault : (cause : Cause) (at : ℕ) → IsFirstFault systems (Refused cause at) → IsCheckFault systems at cause
  check_fault cause at (inl x) = subst (IsCheckFault systems at) (sym x.2) (subst (λ b. IsCheckFault systems b TooManySystems) (sym x.3) (too_many_systems x.0 x.1))
  check_fault cause at (inr x) = rule_not_accepted x.1.front x.1.behind x.1.raw x.0 x.1.are x.1.accepted x.1.ends

  -- the names
  meaning_named : (system : WrittenSystem) → system ∈ systems → IsGrammarNamed (length names) (meaning_of system)
  meaning_named system i =
      let x = systems_named names text body rest systems reads system i in
      (x.0, from_map (rule_of system.unique) system.rules (IsRuleNamed (length names)) (λ raw j. rule_named (length names) system.unique raw (all_member (λ (r : WrittenRule). IsWellRead (length names) r.rule) system.rules raw x.1 j)))

  pub each_named : (read : List System) → map grammar_of read ≡ map meaning_of systems → AreSystemsNamed (length names) read
  each_named read e system i =
      let named = from_map meaning_of systems (IsGrammarNamed (length names)) meaning_named (grammar_of system) (subst (λ gs. grammar_of system ∈ gs) e (in_map grammar_of read system i)) in
      record { name = named.0; rules = named.1 }

-- a list of grammars
module _ (text : List ℕ) (version : ℕ) (names : List (List ℕ)) (systems : List WrittenSystem) (w : AreWritten text version names systems) where
  pub list_can : All CanBeChecked (rules_of systems)
  list_can = can_all text names w.tokens w.front w.body [] systems w.has_tokens w.are w.reads

  pub list_few : length text ≤ most_text_bytes → All HasFewRules systems
  list_few = few_each text names w.tokens w.front w.body [] systems w.has_tokens w.are w.reads

  pub list_named : (read : List System) → map grammar_of read ≡ map meaning_of systems → AreSystemsNamed (length names) read
  list_named = each_named text names w.tokens w.front w.body [] systems w.has_tokens w.are w.reads

  pub list_end_of : (end : CheckEnd) → IsFirstFault systems end → IsEndOfGrammars text (end_of_check end)
  list_end_of (check_end.Refused cause at) f = (
    lists.check version names systems w (check_fault text names w.tokens w.front w.body [] systems w.has_tokens w.are w.reads cause at f),
    check_border text names w.tokens w.front w.body [] systems w.has_tokens w.are w.reads cause at f,
  )
  list_end_of check_end.Memory f = tt

-- a deck
module _ (text : List ℕ) (version : ℕ) (names : List (List ℕ)) (deck : WrittenDeck) (w : IsWritten text version names deck) where
  pub can : All CanBeChecked (rules_of deck.systems)
  can = can_all text names w.tokens w.front w.body (w.reads.first ∷ w.reads.behind) deck.systems w.has_tokens w.are w.reads.systems

  pub few : length text ≤ most_text_bytes → All HasFewRules deck.systems
  few = few_each text names w.tokens w.front w.body (w.reads.first ∷ w.reads.behind) deck.systems w.has_tokens w.are w.reads.systems

  border : (byte : ℕ) → IsByteOf w.tokens byte → IsCharBoundary text byte
  border = border_of text names w.tokens w.front w.body (w.reads.first ∷ w.reads.behind) deck.systems w.has_tokens w.are w.reads.systems

  pub check_end_of : (end : CheckEnd) → IsFirstFault deck.systems end → IsEndOf text (end_of_check end)
  check_end_of (check_end.Refused cause at) f = (
    check version names deck w (check_fault text names w.tokens w.front w.body (w.reads.first ∷ w.reads.behind) deck.systems w.has_tokens w.are w.reads.systems cause at f),
    check_border text names w.tokens w.front w.body (w.reads.first ∷ w.reads.behind) deck.systems w.has_tokens w.are w.reads.systems cause at f,
  )
  check_end_of check_end.Memory f = tt

  -- the graph
  pub chains_some : 0 < length deck.chains
  chains_some = some_chain w.reads.graph

  pub chains_whole : (chain : WrittenChain) → chain ∈ deck.chains → IsWhole chain
  chains_whole = whole_graph w.reads.graph

  byte_behind : (byte : ℕ) → IsByteOf (w.reads.first ∷ w.reads.behind) byte → IsByteOf w.tokens byte
  byte_behind byte b = behind_line text names w.tokens w.front w.body (w.reads.first ∷ w.reads.behind) deck.systems w.has_tokens w.are w.reads.systems byte (b.0, systems_later names text w.body (w.reads.first ∷ w.reads.behind) deck.systems w.reads.systems b.0 b.1, b.2)

  word_of_graph : IsByteOf w.tokens deck.graph_at
  word_of_graph = byte_behind deck.graph_at (w.reads.first, inl refl, sym w.reads.graph_at)

  pub graph_end_of : IsChecked deck.systems → (end : ChainEnd) → AreRefused deck.chains end → IsEndOf text (end_of_chains deck.graph_at end)
  graph_end_of checked (chain_end.TooManyArcs a) h =
      (graph version names deck w checked (too_many_arcs h), border a (byte_behind a (byte_of_graph w.reads.graph a (in_at (places_in deck.chains) most_read_arcs a h.1))))
  graph_end_of checked chain_end.Cycle h = (graph version names deck w checked (cycle h), border deck.graph_at word_of_graph)
  graph_end_of checked chain_end.Entries h = (graph version names deck w checked (entries h), border deck.graph_at word_of_graph)
  graph_end_of checked chain_end.Exits h = (graph version names deck w checked (exits h), border deck.graph_at word_of_graph)
  graph_end_of checked chain_end.Memory h = tt

  -- the names
  pub grammars_named : (systems : List System) → map grammar_of systems ≡ map meaning_of deck.systems → AreSystemsNamed (length names) systems
  grammars_named = each_named text names w.tokens w.front w.body (w.reads.first ∷ w.reads.behind) deck.systems w.has_tokens w.are w.reads.systems

  pub arcs_named : AreArcsNamed (length names) (graph_of deck.chains).arcs
  arcs_named = named_laid (length names) deck.chains (graph_of deck.chains).arcs (trees_laid (dense (numbers_in deck.chains)) (record { nodes = different (numbers_in deck.chains); arcs = [] }) deck.chains) (graph_named w.reads.graph)
