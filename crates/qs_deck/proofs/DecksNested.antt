-- How deep the parentheses of a deck are: what is read as a deck shows how many are open at most in what is written of it, and
-- what is written opens no more.
use Rattle.std.proofs.Common.{◌≡◌, ◌⊎◌, ℕ, ◌<◌, ◌≤◌, Bool, true, false, sym, ap, subst, inl, inr, refl, List, [], ◌∷◌, ◌++◌, length, map, arith, codes}
use Rattle.std.specs.Prelude.{max}
use Rattle.std.specs.List.{flat_map}
use Rattle.qs_lex.specs.declared.token.Token.{Token}
use Rattle.qs_lex.specs.declared.token.Kind.TheVariants.{Word as a_word, Bare, Stop}
use Rattle.qs_lex.specs.declared.token.Word.TheVariants.{Systeme, Version, Unique}
use Rattle.qs_lex.specs.Tokens.{version_of}
use Rattle.qs_lex.specs.Grammar.{the_word, a_label, stop, sort_of}
use Rattle.qs_tree.specs.declared.cell.Label.{Label}
use Rattle.qs_tree.specs.Lists.{◌∈◌}
use Rattle.qs_tree.specs.Text.{name_of, label_text}
use Rattle.qs_pattern.specs.declared.pattern.Head.TheVariants as head
use Rattle.qs_pattern.specs.Rules.{Rule, unmarked}
use Rattle.qs_ruletext.specs.WrittenRules.{WrittenRule}
use Rattle.qs_ruletext.specs.Rules.{ReadsRules, IsWellRead}
use Rattle.qs_ruletext.specs.Written.{AreOnOneLine, IsRuleToldIn, written}
use Rattle.qs_ruletext.proofs.ReadBack.{Goes, turned, space, token, first_version}
use Rattle.qs_ruletext.proofs.HeadsReadBack.{head_goes}
use Rattle.qs_ruletext.proofs.Nesting.{rule_height}
use Rattle.qs_ruletext.proofs.NestingSteps.{keeps, head_keeps, Shows, shows_none, shows_both, shows_behind, Opens, opens_none, opens_one}
use Rattle.qs_ruletext.proofs.NestingRead.{rule_shows}
use Rattle.qs_ruletext.proofs.NestingWritten.{goes_less, none_goes, both_go, one_goes, rule_opens}
use Rattle.qs_graph.specs.Graphs.{Arc, QGraph}
use Rattle.qs_graphtext.specs.GraphOfChains.{trees_in}
use Rattle.qs_graphtext.specs.Texts.{line, graph_text}
use Rattle.qs_graphtext.proofs.GraphsReadBack.{IsWritable}
use Rattle.qs_graphtext.proofs.GraphNesting.{trees_height, lined, graph_shows, graph_opens}
use Rattle.qs_deck.specs.WrittenDecks.{WrittenSystem, WrittenDeck}
use Rattle.qs_deck.specs.Versions.{IsVersionLine, no_line, the_line}
use Rattle.qs_deck.specs.Reading.{ReadsMark, no_mark, a_mark, ReadsSystem, reads_system, ReadsSystems, ReadsDeck}
use Rattle.qs_deck.specs.Decks.{Grammar, rule_of, meaning_of}
use Rattle.qs_deck.specs.Texts.{rule_line, mark_text, grammar_text, version_text, deck_text}
use Rattle.qs_deck.proofs.DecksReadBack.{IsWritableGrammar, two_is_label, mark_closes}

-- how many are open at most in what is written of rules, and of grammars
abbrev pub rules_height : List Rule → ℕ
rules_height [] = 0
rules_height (r ∷ rules) = max (rule_height (unmarked r)) (rules_height rules)

abbrev pub grammars_height : List Grammar → ℕ
grammars_height [] = 0
grammars_height (grammar ∷ grammars) = max (rules_height grammar.rules) (grammars_height grammars)

-- what is read shows it

rules_show : (names : List (List ℕ)) (text : List ℕ) (unique : Bool) (raws : List WrittenRule) (ts rest : List Token) → ReadsRules names text ts raws rest
    → Shows (rules_height (map (rule_of unique) raws)) ts rest
rules_show names text unique [] ts rest e = subst (λ us. Shows 0 ts us) e (shows_none ts)
rules_show names text unique (raw ∷ raws) ts rest h = shows_both (rule_shows h.1.rule) (rules_show names text unique raws h.0 rest h.2)

mark_shows : {n : ℕ} {ts middle rest : List Token} {unique : Bool} → ReadsMark ts unique middle → Shows n middle rest → Shows n ts rest
mark_shows no_mark s = s
mark_shows (a_mark {t} is) s = shows_behind t (keeps (the_word Unique) t (λ n. refl) is) s

pub line_shows : {n : ℕ} {text : List ℕ} (version : ℕ) (front body rest : List Token) → IsVersionLine text version front → Shows n body rest → Shows n (front ++ body) rest
line_shows version [] body rest no_line s = s
line_shows version front body rest (the_line {word} {number} {dot} w two d) s =
    shows_behind word (keeps (the_word Version) word (λ n. refl) w)
    (shows_behind number (keeps a_label number (λ n. refl) (ap sort_of two.bare)) (shows_behind dot (keeps stop dot (λ n. refl) d) s))

system_shows : {names : List (List ℕ)} {text : List ℕ} {ts rest : List Token} {s : WrittenSystem} → ReadsSystem names text ts s rest
    → Shows (rules_height (meaning_of s).rules) ts rest
system_shows {names} {text} (reads_system {t} {u} {v} {ts} {rest} {system = s} e at label mark f below) =
    shows_behind t (keeps (the_word Systeme) t (λ n. refl) e)
    (shows_behind u (head_keeps names text u (head.Label s.name) label)
    (mark_shows mark
    (shows_behind v (keeps stop v (λ n. refl) f) (rules_show names text s.unique s.rules ts rest below))))

systems_show : (names : List (List ℕ)) (text : List ℕ) (systems : List WrittenSystem) (ts rest : List Token) → ReadsSystems names text ts systems rest
    → Shows (grammars_height (map meaning_of systems)) ts rest
systems_show names text [] ts rest e = subst (λ us. Shows 0 ts us) e (shows_none ts)
systems_show names text (s ∷ systems) ts rest h = shows_both (system_shows h.1) (systems_show names text systems h.0 rest h.2)

pub deck_shows : {names : List (List ℕ)} {text : List ℕ} {ts rest : List Token} {d : WrittenDeck} → ReadsDeck names text ts d rest
    → Shows (max (grammars_height (map meaning_of d.systems)) (trees_height (trees_in d.chains))) ts rest
deck_shows {names} {text} {ts} {d = d} r = shows_both (systems_show names text d.systems ts (r.first ∷ r.behind) r.systems) (graph_shows r.graph)

-- what is written opens no more

module _ (names : List (List ℕ)) (text : List ℕ) (names_line : AreOnOneLine names) where
  rules_open : (rules : List Rule) → ((rule : Rule) → rule ∈ rules → IsWellRead (length names) (unmarked rule)) → ((rule : Rule) → rule ∈ rules → IsRuleToldIn (version_of text) (unmarked rule)) → (left : List ℕ)
      → Goes text (Opens (rules_height rules)) (flat_map (rule_line names) rules) left
  rules_open [] w told left = none_goes text 0 left
  rules_open (r ∷ rules) w told left =
      let others : List ℕ = flat_map (rule_line names) rules in
      both_go text (rule_line names r) others left
      (goes_less text (rule_line names r) (others ++ left)
      (lined text (written names (unmarked r)) (others ++ left) (rule_opens text names names_line (unmarked r) (w r (inl refl)) (told r (inl refl)) (codes "\n" ++ (others ++ left)))) (omega arith))
      (goes_less text others left (rules_open rules (λ rule i. w rule (inr i)) (λ rule i. told rule (inr i)) left) (omega arith))

  mark_opens : (n : ℕ) (unique : Bool) → (unique ≡ true → 2 ≤ version_of text) → (left : List ℕ) → Goes text (Opens n) (mark_text unique) left
  mark_opens n false told left = none_goes text n left
  mark_opens n true told left =
      both_go text (codes " ") (codes "-UNIQUE-") left
      (turned text (codes " ") (codes "-UNIQUE-" ++ left) (λ ts rest e. opens_none n e) (space text (codes "-UNIQUE-" ++ left)))
      (one_goes text n (a_word Unique) (codes "-UNIQUE-") (codes "-UNIQUE-") left (λ m. refl) (token text (a_word Unique) (told refl) (codes "-UNIQUE-") left refl tt refl))

  heading_opens : (n : ℕ) (name : Label) → name.0 < length names → (unique : Bool) → (unique ≡ true → 2 ≤ version_of text) → (left : List ℕ)
      → Goes text (Opens n) (codes "-SYSTEME- " ++ (label_text (name_of names name) ++ (mark_text unique ++ codes "."))) left
  heading_opens n name within unique told left =
      let label : List ℕ = label_text (name_of names name) in
      let behind_label : List ℕ = mark_text unique ++ codes "." in
      let behind_word : List ℕ = codes " " ++ (label ++ behind_label) in
      both_go text (codes "-SYSTEME-") behind_word left
      (one_goes text n (a_word Systeme) (codes "-SYSTEME-") (codes "-SYSTEME-") (behind_word ++ left) (λ m. refl) (token text (a_word Systeme) (first_version text) (codes "-SYSTEME-") (behind_word ++ left) refl tt refl))
      (both_go text (codes " ") (label ++ behind_label) left
      (turned text (codes " ") ((label ++ behind_label) ++ left) (λ ts rest e. opens_none n e) (space text ((label ++ behind_label) ++ left)))
      (both_go text label behind_label left
      (turned text label (behind_label ++ left)
      (λ ts rest x. subst (λ us. Opens n us rest) (sym x.1) (opens_one n x.0 rest (head_keeps names text x.0 (head.Label name) x.2)))
      (head_goes text names (head.Label name) (behind_label ++ left) names_line within tt (mark_closes unique left)))
      (both_go text (mark_text unique) (codes ".") left
      (mark_opens n unique told (codes "." ++ left))
      (one_goes text n Stop (codes ".") (codes ".") left (λ m. refl) (token text Stop tt (codes ".") left refl tt refl)))))

  -- the line of the version
  line_opens : (n version : ℕ) → (version ≡ 1) ⊎ (version ≡ 2) → version ≡ version_of text → (left : List ℕ) → Goes text (Opens n) (version_text version) left
  line_opens n version (inl first) is left = subst (λ v. Goes text (Opens n) (version_text v) left) (sym first) (none_goes text n left)
  line_opens n version (inr second) is left =
      let known : 2 ≤ version_of text = omega (arith, second, is) in
      subst (λ v. Goes text (Opens n) (version_text v) left) (sym second)
      (both_go text (codes "-VERSION-") (codes " 2.\n") left
      (one_goes text n (a_word Version) (codes "-VERSION-") (codes "-VERSION-") (codes " 2.\n" ++ left) (λ m. refl) (token text (a_word Version) known (codes "-VERSION-") (codes " 2.\n" ++ left) refl tt refl))
      (both_go text (codes " ") (codes "2.\n") left
      (turned text (codes " ") (codes "2.\n" ++ left) (λ ts rest e. opens_none n e) (space text (codes "2.\n" ++ left)))
      (both_go text (codes "2") (codes ".\n") left
      (one_goes text n Bare (codes "2") (codes "2") (codes ".\n" ++ left) (λ m. refl) (token text Bare tt (codes "2") (codes ".\n" ++ left) two_is_label refl refl))
      (lined text (codes ".") left (one_goes text n Stop (codes ".") (codes ".") (codes "\n" ++ left) (λ m. refl) (token text Stop tt (codes ".") (codes "\n" ++ left) refl tt refl))))))

  grammar_opens : (grammar : Grammar) → IsWritableGrammar (version_of text) (length names) grammar → (left : List ℕ)
      → Goes text (Opens (rules_height grammar.rules)) (grammar_text names grammar) left
  grammar_opens grammar w left =
      let heading : List ℕ = codes "-SYSTEME- " ++ (label_text (name_of names grammar.name) ++ (mark_text grammar.unique ++ codes ".")) in
      let rules : List ℕ = flat_map (rule_line names) grammar.rules in
      both_go text (line heading) rules left
      (lined text heading (rules ++ left) (heading_opens (rules_height grammar.rules) grammar.name w.name grammar.unique w.mark_told (codes "\n" ++ (rules ++ left))))
      (rules_open grammar.rules w.rules w.told left)

  grammars_open : (grammars : List Grammar) → ((grammar : Grammar) → grammar ∈ grammars → IsWritableGrammar (version_of text) (length names) grammar) → (left : List ℕ)
      → Goes text (Opens (grammars_height grammars)) (flat_map (grammar_text names) grammars) left
  grammars_open [] w left = none_goes text 0 left
  grammars_open (grammar ∷ grammars) w left =
      let others : List ℕ = flat_map (grammar_text names) grammars in
      both_go text (grammar_text names grammar) others left
      (goes_less text (grammar_text names grammar) (others ++ left) (grammar_opens grammar (w grammar (inl refl)) (others ++ left)) (omega arith))
      (goes_less text others left (grammars_open grammars (λ other i. w other (inr i)) left) (omega arith))

  -- whatever follows: a deck ends with the end of a line
  pub deck_opens : (version : ℕ) → (version ≡ 1) ⊎ (version ≡ 2) → version ≡ version_of text → (grammars : List Grammar) → ((grammar : Grammar) → grammar ∈ grammars → IsWritableGrammar (version_of text) (length names) grammar)
      → (G : QGraph) → ((arc : Arc) → arc ∈ G.arcs → IsWritable (length names) arc) → (left : List ℕ)
      → Goes text (Opens (max (grammars_height grammars) (trees_height (map (λ arc. arc.tree) G.arcs)))) (deck_text version names grammars G) left
  deck_opens version which is grammars w G fits left =
      let systems : List ℕ = flat_map (grammar_text names) grammars in
      let graph : List ℕ = graph_text names G in
      both_go text (version_text version) (systems ++ graph) left
      (line_opens (max (grammars_height grammars) (trees_height (map (λ arc. arc.tree) G.arcs))) version which is ((systems ++ graph) ++ left))
      (both_go text systems graph left
      (goes_less text systems (graph ++ left) (grammars_open grammars w (graph ++ left)) (omega arith))
      (goes_less text graph left (graph_opens text names names_line G fits left) (omega arith)))
