-- The grammars that are run on a line of words, one after another.
use Rattle.std.proofs.Common.{◌≡◌, ◌<◌, ◌≤◌, ◌+◌, ◌*◌, ℕ, zero, suc, Option, Some, None, List, [], ◌∷◌, length, map, drop, get_or, refl, sym, ap, subst, inl, arith}
use Rattle.std.proofs.Math.ListN.{drop_of_length-le}
use Rattle.std.proofs.lemmas.List.{length-map}
use Rattle.qs_graph.proofs.Lay.{tree_in_chain}
use Rattle.qs_tree.specs.declared.cell.Label.{Label}
use Rattle.qs_tree.specs.Lists.{◌∈◌}
use Rattle.qs_tree.specs.Text.{IsNamed}
use Rattle.qs_tree.proofs.Members.{from_map, in_flat_map}
use Rattle.qs_pattern.specs.Rules.{Rule, IsAccepted, IsAcceptable}
use Rattle.qs_ruletext.specs.WrittenRules.{WrittenRule}
use Rattle.qs_graph.specs.Graphs.{QGraph}
use Rattle.qs_graph.proofs.Lines.{length-chain}
use Rattle.qs_clean.specs.Cascades.{Ending, all_done, by_limit}
use Rattle.qs_cascade.specs.declared.stages.StageEnd.{StageEnd}
use Rattle.qs_cascade.specs.declared.stages.StageEnd.TheVariants as end
use Rattle.qs_cascade.specs.Stages.{IsStageEnd, GrowsWithin, IsEndNamed, MakesNoLabels}
use Rattle.qs_phrase.specs.Words.{word_tree, graph_of_words}
use Rattle.qs_deck.specs.declared.system.System.{System}
use Rattle.qs_deck.specs.WrittenDecks.{WrittenSystem, rules_of}
use Rattle.qs_deck.specs.Decks.{Grammar, grammar_of, meaning_of, rule_of}
use Rattle.qs_deck.specs.Named.{AreSystemsNamed}
use Rattle.qs_deck.specs.PhraseTexts.{IsPhraseText}
use Rattle.qs_deck.proofs.Meanings.{all_member}
use Rattle.qs_telling.specs.Cascading.{AreAccepted}
use Rattle.qs_telling.specs.PhraseTexts.{EndsWith}
use Rattle.qs_telling.specs.declared.telling.Telling.TheVariants as telling
use Rattle.qs_telling.specs.working.Cascading.{CanGoOn}
use Rattle.qs_telling.specs.Phrasing.{AreReady}
use Rattle.qs_telling.proofs.NextSystems.{among_all, each_right, goes_on_with, next_system, rest_accepted}
use Rattle.qs_telling.proofs.PhrasesTold.{none_ends, more_ends, empty_ends, limit_ends, words_valid}

-- the system of a grammar that is ready
ready_from : (systems : List System) (i : ℕ) (rules : List Rule) → rules ≡ get_or (map (λ (s : System). s.rules.items) systems) i rules → i < length (map (λ (s : System). s.rules.items) systems)
    → (system : System) × (system ≡ get_or systems i system) × (i < length systems) × (rules ≡ system.rules.items)
ready_from [] i rules is low = absurd (omega arith)
ready_from (s ∷ systems) zero rules is low = (s, refl, omega arith, is)
ready_from (s ∷ systems) (suc i) rules is low =
    let (system, at, short, same) = ready_from systems i rules is (omega (arith, low)) in
    (system, at, omega (arith, short), same)

pub ready_at : (systems : List System) (ready : List (List Rule)) → AreReady systems ready → (i : ℕ) (rules : List Rule) → rules ≡ get_or ready i rules → i < length ready
    → (system : System) × (system ≡ get_or systems i system) × (i < length systems) × (rules ≡ system.rules.items)
ready_at systems ready all i rules is low =
    ready_from systems i rules (subst (λ (rs : List (List Rule)). rules ≡ get_or rs i rules) all is) (omega (arith, low, ap (λ (rs : List (List Rule)). length rs) all))

-- what the grammars from one on leave of a graph is what all leave of the first one
abbrev pub GoesOn : ℕ → List System → ℕ → QGraph → QGraph → Type 0
GoesOn L systems i start now =
    (ending : Ending) (last : Option QGraph) → EndsWith L (map grammar_of (drop i systems)) now ending last → EndsWith L (map grammar_of systems) start ending last

-- one turn of the loop over the grammars
module _ (L : ℕ) (names : List (List ℕ)) (systems : List System) (start now : QGraph) (i : ℕ) (system : System)
    (is : system ≡ get_or systems i system) (low : i < length systems) (accepted : AreAccepted (map grammar_of systems))
    (goes : GoesOn L systems i start now) (can : CanGoOn names now (length (drop i systems))) where
  abbrev others : List Grammar
  others = map grammar_of (drop (i + 1) systems)

  at_system : drop i systems ≡ system ∷ drop (i + 1) systems
  at_system = next_system systems i system is low

  goes_from : (ending : Ending) (last : Option QGraph) → EndsWith L (grammar_of system ∷ others) now ending last → EndsWith L (map grammar_of systems) start ending last
  goes_from ending last o = goes ending last (subst (λ (left : List System). EndsWith L (map grammar_of left) now ending last) (sym at_system) o)

  accepted_from : AreAccepted (grammar_of system ∷ others)
  accepted_from = subst (λ (left : List System). AreAccepted (map grammar_of left)) at_system (rest_accepted systems i accepted)

  can_with : CanGoOn names now (suc (length (drop (i + 1) systems)))
  can_with = subst (λ (left : List System). CanGoOn names now (length left)) at_system can

  -- there is room for what the grammar adds
  pub run_arcs : L ≤ 1000000 → length now.arcs + 16 * L ≤ 4294967295
  run_arcs few = omega (arith, can_with.arcs)

  pub run_nodes : L ≤ 1000000 → now.nodes + 16 * L ≤ 4294967295
  run_nodes few = omega (arith, can_with.nodes)

  module _ (e : StageEnd) (ends : IsStageEnd system.rules.items now L e) where
    -- no arc was left
    pub run_empty : (firings : ℕ) → e ≡ end.Empty firings → EndsWith L (map grammar_of systems) start all_done None
    run_empty firings known =
        let leaves = subst (IsStageEnd system.rules.items now L) known ends in
        goes_from all_done None (empty_ends L now leaves.0 firings (grammar_of system) others leaves.1 leaves.2)

    -- the limit was met
    pub run_over : e ≡ end.Over → EndsWith L (map grammar_of systems) start by_limit None
    run_over known = goes_from by_limit None (limit_ends L now (grammar_of system) others (subst (IsStageEnd system.rules.items now L) known ends))

    -- a graph was left, with which the others go on
    pub run_further : (left : QGraph) (firings : ℕ) → e ≡ end.Left left firings → GoesOn L systems (i + 1) start left
    run_further left firings known = λ ending last o.
        let leaves = subst (IsStageEnd system.rules.items now L) known ends in
        goes_from ending last (more_ends L now left firings (grammar_of system) others ending last leaves.0 leaves.1 o)

    pub run_can_go_on : (left : QGraph) (firings : ℕ) → e ≡ end.Left left firings → L ≤ 1000000 → AreSystemsNamed (length names) systems
        → GrowsWithin now L e → MakesNoLabels system.rules.items now e → CanGoOn names left (length (drop (i + 1) systems))
    run_can_go_on left firings known few named grows labels =
        let leaves = subst (IsStageEnd system.rules.items now L) known ends in
        let all_named : IsEndNamed (length names) e =
        labels (length names) (λ rule j. each_right (length names) systems system named (among_all systems i system is low) rule j) can.named in
        goes_on_with telling.Blocks L names now left firings (length (drop (i + 1) systems)) system.rules.items few can_with (accepted_from (grammar_of system) (inl refl)) leaves.0 leaves.1
        (subst (λ (f : StageEnd). GrowsWithin now L f) known grows) (subst (IsEndNamed (length names)) known all_named)

-- the loop has come to its end
pub run_to_end : (L : ℕ) (systems : List System) (i : ℕ) (start now : QGraph) → length systems ≤ i → GoesOn L systems i start now → EndsWith L (map grammar_of systems) start all_done (Some now)
run_to_end L systems i start now past goes =
    goes all_done (Some now) (subst (λ (left : List System). EndsWith L (map grammar_of left) now all_done (Some now)) (sym (drop_of_length-le systems past)) (none_ends L now))

-- the graph of a line of words can be run on
pub words_can_go_on : (L most : ℕ) (names : List (List ℕ)) (words : List Label) (systems : ℕ) → 0 < length words → length words ≤ 65536 → ((word : Label) → word ∈ words → word.0 < length names)
    → systems ≤ 256 → CanGoOn names (graph_of_words words) systems
words_can_go_on L most names words systems some few named fit =
    let long = length-map words word_tree in
    record {
      valid = words_valid L most names [] words some;
      named = λ arc i. from_map word_tree words (IsNamed (length names)) (λ word j. (named word j, tt)) arc.tree (tree_in_chain 1 (map word_tree words) 3 2 arc i);
      arcs = omega (arith, long, length-chain 1 (map word_tree words) 3 2);
      nodes = omega (arith, long);
    }

-- the rules of a phrase text are accepted
accepted_if_written : (systems : List WrittenSystem) → ((raw : WrittenRule) → raw ∈ rules_of systems → IsAcceptable raw.rule) → AreAccepted (map meaning_of systems)
accepted_if_written systems each =
    from_map meaning_of systems (λ (grammar : Grammar). (rule : Rule) → rule ∈ grammar.rules → IsAccepted rule)
    (λ system i. from_map (rule_of system.unique) system.rules IsAccepted
    (λ raw j. each raw (in_flat_map (λ (s : WrittenSystem). s.rules) systems system raw i j)))

module _ {bytes : List ℕ} {version : ℕ} {names : List (List ℕ)} {grammars : List Grammar} {lines : List (List Label)} (p : IsPhraseText bytes version names grammars lines) where
  pub phrases_accepted : AreAccepted grammars
  phrases_accepted =
      let g = p.are_grammars in
      subst AreAccepted (sym g.grammars_are)
      (accepted_if_written g.written (λ raw i. all_member (λ (r : WrittenRule). IsAcceptable r.rule) (rules_of g.written) raw g.checked.accepted i))

  pub grammars_few : length grammars ≤ 256
  grammars_few = let g = p.are_grammars in omega (arith, g.checked.few, ap length g.grammars_are, length-map g.written meaning_of)
