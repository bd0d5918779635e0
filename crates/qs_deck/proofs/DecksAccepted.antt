-- What is written of the deck that a text means is a text that means this deck, with the same names.
use Rattle.std.proofs.Common.{◌≡◌, ℕ, ◌≤◌, refl, sym, ap, ◌∙◌, subst, ◌⊎◌, inl, inr, List, [], ◌∷◌, ◌++◌, length, map, arith, append-nil}
use Rattle.std.specs.Prelude.{max}
use Rattle.std.specs.List.{All}
use Rattle.std.proofs.lemmas.List.{length-map}
use Rattle.std.proofs.lemmas.List.Elements.{All-nil, All-cons}
use Rattle.qs_lex.specs.Limits.{most_open}
use Rattle.qs_lex.specs.declared.token.Token.{Token}
use Rattle.qs_lex.specs.Tokens.{version_of, AreTokensOf}
use Rattle.qs_tree.specs.declared.cell.Label.{Label}
use Rattle.qs_tree.specs.Lists.{◌∈◌}
use Rattle.qs_tree.specs.Text.{name_of}
use Rattle.qs_tree.proofs.Members.{from_append, from_map, in_map, in_flat_map}
use Rattle.qs_pattern.specs.Rules.{Rule, IsAcceptable, IsAccepted}
use Rattle.qs_ruletext.specs.WrittenRules.{WrittenRule}
use Rattle.qs_ruletext.proofs.AtOnce.{at_once}
use Rattle.qs_ruletext.proofs.ReadBack.{alone}
use Rattle.qs_ruletext.proofs.Nesting.{Fits, fits_if_shallow, shallow_if_fits}
use Rattle.qs_ruletext.proofs.NestingSteps.{Opens}
use Rattle.qs_ruletext.proofs.LabelTexts.{HaveTexts, names_by_texts}
use Rattle.qs_ruletext.proofs.NamesInUtf8.{AreUtf8, names_are}
use Rattle.qs_graph.specs.Graphs.{QGraph}
use Rattle.qs_graphtext.specs.WrittenChains.{WrittenChain}
use Rattle.qs_graphtext.specs.GraphOfChains.{trees_in, numbers_in, different, dense, graph_of}
use Rattle.qs_graphtext.proofs.TreesLaid.{tree_on, trees_laid}
use Rattle.qs_graphtext.proofs.GraphNesting.{trees_height}
use Rattle.qs_graphtext.proofs.LabelTexts.{labels_in_trees}
use Rattle.qs_deck.specs.WrittenDecks.{WrittenSystem, WrittenDeck, rules_of}
use Rattle.qs_deck.specs.Reading.{ReadsDeck}
use Rattle.qs_deck.specs.Decks.{Grammar, rule_of, meaning_of, IsDeckOf}
use Rattle.qs_deck.specs.Texts.{deck_text}
use Rattle.qs_deck.proofs.Meanings.{all_member}
use Rattle.qs_deck.proofs.DecksReadBack.{IsWritableGrammar, ReadsBack, writable, deck_goes, version_written}
use Rattle.qs_deck.proofs.WritableDecks.{body_are, names_of_deck, known_version, writable_deck}
use Rattle.qs_deck.proofs.DecksNested.{grammars_height, line_shows, deck_shows, deck_opens}
use Rattle.qs_deck.proofs.DeckLabels.{labels_in_grammars, deck_passes}
use Rattle.qs_deck.proofs.DecksInUtf8.{deck_text_is}

-- what holds of each member of a list holds of all
all_if_each : {X : Type 0} (P : X → Type 0) (xs : List X) → ((x : X) → x ∈ xs → P x) → All P xs
all_if_each P [] each = All-nil P
all_if_each P (x ∷ xs) each = All-cons P x xs (each x (inl refl)) (all_if_each P xs (λ y i. each y (inr i)))

-- a rule of some systems is one of a system
from_systems : (systems : List WrittenSystem) (raw : WrittenRule) → raw ∈ rules_of systems → (system : WrittenSystem) × (system ∈ systems) × (raw ∈ system.rules)
from_systems [] raw i = absurd i
from_systems (s ∷ systems) raw i = by_place (from_systems systems raw) (from_append s.rules (rules_of systems) raw i)
  where
    by_place : ((raw ∈ rules_of systems) → (system : WrittenSystem) × (system ∈ systems) × (raw ∈ system.rules)) → (raw ∈ s.rules) ⊎ (raw ∈ rules_of systems)
        → (system : WrittenSystem) × (system ∈ (s ∷ systems)) × (raw ∈ system.rules)
    by_place further (inl here) = (s, inl refl, here)
    by_place further (inr there) = let found = further there in (found.0, inr found.1, found.2)

-- the rules of these grammars are accepted
abbrev AreAccepted : List Grammar → Type 0
AreAccepted grammars = (grammar : Grammar) → grammar ∈ grammars → (rule : Rule) → rule ∈ grammar.rules → IsAccepted rule

-- those of the grammars that systems mean are, exactly where those of the systems are
grammars_accepted : (systems : List WrittenSystem) → All (λ (raw : WrittenRule). IsAcceptable raw.rule) (rules_of systems) → AreAccepted (map meaning_of systems)
grammars_accepted systems all =
    from_map meaning_of systems (λ (grammar : Grammar). (rule : Rule) → rule ∈ grammar.rules → IsAccepted rule)
    (λ system i. from_map (rule_of system.unique) system.rules IsAccepted
    (λ raw j. all_member (λ (r : WrittenRule). IsAcceptable r.rule) (rules_of systems) raw all (in_flat_map (λ (s : WrittenSystem). s.rules) systems system raw i j)))

systems_accepted : (systems : List WrittenSystem) → AreAccepted (map meaning_of systems) → All (λ (raw : WrittenRule). IsAcceptable raw.rule) (rules_of systems)
systems_accepted systems accepted =
    all_if_each (λ (raw : WrittenRule). IsAcceptable raw.rule) (rules_of systems)
    (λ raw i.
    let found = from_systems systems raw i in
    accepted (meaning_of found.0) (in_map meaning_of systems found.0 found.1) (rule_of found.0.unique raw) (in_map (rule_of found.0.unique) found.0.rules raw found.2))

-- the trees of chains are those on the arcs of their graph
pub trees_on_arcs : (chains : List WrittenChain) (G : QGraph) → G ≡ graph_of chains → map tree_on G.arcs ≡ trees_in chains
trees_on_arcs chains G e =
    ap (λ (H : QGraph). map tree_on H.arcs) e ∙ trees_laid (dense (numbers_in chains)) (record { nodes = different (numbers_in chains); arcs = [] }) chains

-- the texts of the labels of a whole deck
pub deck_texts : {names : List (List ℕ)} {text : List ℕ} {ts : List Token} {d : WrittenDeck} (labels : List Label)
    → labels ≡ labels_in_grammars (map meaning_of d.systems) ++ labels_in_trees (trees_in d.chains) → ReadsDeck names text ts d [] → HaveTexts text ts (map (name_of names) labels)
deck_texts {names} {text} {ts} {d} labels e r =
    let found = deck_passes r in
    let whole : found.passed ≡ ts = sym (append-nil found.passed) ∙ sym found.are in
    let all : List Label = labels_in_grammars (map meaning_of d.systems) ++ labels_in_trees (trees_in d.chains) in
    subst (λ ls. HaveTexts text ts (map (name_of names) ls)) (sym e) (subst (λ us. HaveTexts text us (map (name_of names) all)) whole found.texts)

module _ {text : List ℕ} {version : ℕ} {names : List (List ℕ)} {grammars : List Grammar} {G : QGraph} (is : IsDeckOf text version names grammars G) where
  abbrev was : WrittenDeck
  was = is.written

  abbrev new : List ℕ
  new = deck_text version names grammars G

  -- the rules of an accepted text are accepted
  pub deck_accepted : (grammar : Grammar) → grammar ∈ grammars → (rule : Rule) → rule ∈ grammar.rules → IsAccepted rule
  deck_accepted = subst AreAccepted (sym is.grammars_are) (grammars_accepted was.systems is.checked.accepted)

  trees_are : map tree_on G.arcs ≡ trees_in was.chains
  trees_are = trees_on_arcs was.chains G is.graph_is

  -- what was read shows how many parentheses are open at most in what is written
  few_open : max (grammars_height grammars) (trees_height (map tree_on G.arcs)) ≤ most_open
  few_open =
      let w = is.is_written in
      let shows = line_shows version w.front w.body [] w.in_front (deck_shows w.reads) in
      let shown = shows.fits 0 (omega arith) (subst (Fits 0) w.are (fits_if_shallow w.tokens w.has_tokens.shallow)) in
      omega (arith, shown.0, ap grammars_height is.grammars_are, ap trees_height trees_are)

  -- the names are in UTF-8
  names_utf8 : AreUtf8 names
  names_utf8 =
      let w = is.is_written in
      names_are text w.body [] names w.has_tokens.utf8 (body_are w) (λ k name e. absurd cc) w.names_are

  -- what is written is of the same version, and can be read in it
  same_version : version ≡ version_of new
  same_version = version_written version (known_version is) names grammars (writable_deck is).0 G

  can_in_new : (grammar : Grammar) → grammar ∈ grammars → IsWritableGrammar (version_of new) (length names) grammar
  can_in_new grammar i = subst (λ v. IsWritableGrammar v (length names) grammar) (sym is.is_written.version_is ∙ same_version) ((writable_deck is).1 grammar i)

  -- what is written is read, and opens no more
  read_back : (ts : List Token) × AreTokensOf new ts × (ReadsBack names new ts version grammars G [] × Opens (max (grammars_height grammars) (trees_height (map tree_on G.arcs))) ts [])
  read_back =
      let line = (names_of_deck is).0 in
      let can = writable_deck is in
      alone new
      (at_once new []
      (deck_goes names new line version (known_version is) same_version grammars can.0 can_in_new G can.2 can.3 can.4 [])
      (deck_opens names new line version (known_version is) same_version grammars can_in_new G (writable (length names) G can.2 can.3 can.4) []))

  pub written_is_accepted : IsDeckOf new version names grammars G
  written_is_accepted =
      let ts : List Token = read_back.0 in
      let back = read_back.2.0 in
      let opens = read_back.2.1 in
      let can = writable_deck is in
      let labels : List Label = labels_in_grammars (map meaning_of was.systems) ++ labels_in_trees (trees_in was.chains) in
      let same_trees : trees_in was.chains ≡ trees_in back.deck.chains = sym trees_are ∙ trees_on_arcs back.deck.chains G (sym back.graph_is) in
      let same_grammars : map meaning_of was.systems ≡ map meaning_of back.deck.systems = sym is.grammars_are ∙ sym back.grammars_are in
      let same_labels = ap (λ gs. labels_in_grammars gs ++ labels_in_trees (trees_in was.chains)) same_grammars ∙ ap (λ trees. labels_in_grammars (map meaning_of back.deck.systems) ++ labels_in_trees trees) same_trees in
      record {
        written = back.deck;
        is_written = record {
          version_is = same_version;
          tokens = ts;
          front = back.front;
          body = back.body;
          are = back.are;
          in_front = back.in_front;
          has_tokens = record {
            utf8 = deck_text_is names names_utf8 version (length names) (known_version is) grammars
                (λ grammar i. subst (λ v. IsWritableGrammar v (length names) grammar) (sym is.is_written.version_is) (can.1 grammar i)) G;
            are_tokens = read_back.1;
            shallow = shallow_if_fits ts (opens.fits 0 (omega (arith, few_open)) tt);
          };
          reads = back.reads;
          names_are =
              names_by_texts text new is.is_written.body back.body (map (name_of names) labels) [] names (deck_texts labels refl is.is_written.reads) (deck_texts labels same_labels back.reads) is.is_written.names_are;
        };
        checked = record {
          few = omega (arith, is.checked.few, ap length same_grammars, length-map was.systems meaning_of, length-map back.deck.systems meaning_of);
          accepted = systems_accepted back.deck.systems (subst AreAccepted (sym back.grammars_are) deck_accepted);
        };
        few = omega (arith, is.few, ap length same_trees);
        valid = is.valid;
        grammars_are = sym back.grammars_are;
        graph_is = sym back.graph_is;
      }
