-- A written deck that is passed: its labels are written alike under other names that keep what has no end of a line, no condition
-- in it compares an empty list, and its graph has no more nodes than marks can tell, since each node stands on an arc.
use Rattle.std.proofs.Common.{◌≡◌, ◌⊎◌, ℕ, ◌≤◌, Bool, true, false, refl, sym, ap, ◌∙◌, subst, inl, inr, ⊎_elim, List, [], ◌∷◌, ◌++◌, length, drop, codes, arith, append_assoc}
use Rattle.std.specs.Prelude.{decimal, flat_map}
use Rattle.std.proofs.lemmas.Bool.{cases_lt, false≢true}
use Rattle.qs_lex.specs.Tokens.{version_of, bytes_of, AreTokensOf, Reads}
use Rattle.qs_lex.specs.Grammar.{Sort, a_label, a_node_mark, the_word, opening, closing, comma, stop}
use Rattle.qs_lex.specs.declared.token.Token.{Token}
use Rattle.qs_lex.specs.declared.token.Kind.TheVariants.{Bare, Node, Word as a_word, Opening, Closing, Comma, Stop}
use Rattle.qs_lex.specs.declared.token.Word.TheVariants.{Systeme, Graphe, Version, Unique}
use Rattle.qs_tree.specs.Lists.{◌∈◌}
use Rattle.qs_tree.specs.Trees.{Forest, no_tree, first_tree, Tree}
use Rattle.qs_tree.specs.Text.{name_of, label_text, in_parentheses, behind_comma, forest_text, tree_text}
use Rattle.qs_pattern.specs.Rules.{Rule, unmarked, IsAccepted}
use Rattle.qs_ruletext.specs.Written.{IsRuleToldIn, written}
use Rattle.qs_ruletext.proofs.ReadBack.{place, space, end_of_line, token, first_version}
use Rattle.qs_ruletext.proofs.HeadsReadBack.{Closes}
use Rattle.qs_graph.specs.Graphs.{Arc, QGraph, IsValid}
use Rattle.qs_graphtext.specs.Texts.{line, node_mark, arc_line, graph_text}
use Rattle.qs_graphtext.proofs.NodesOnArcs.{on_arc}
use Rattle.qs_deck.specs.Decks.{Grammar}
use Rattle.qs_deck.specs.Texts.{rule_line, mark_text, grammar_text, version_text, deck_text}
use Rattle.qs_deck.proofs.DecksReadBack.{two_is_label}
use Rattle.qs_pieces.proofs.Neighbours.{Chain}
use Rattle.qs_pieces.proofs.MarksRead.{number_fits}
use Rattle.qs_pieces.proofs.Passing.{IsAt, IsBehind, Shows, word_known, pass_none, pass_kind, token_there}
use Rattle.qs_pieces.proofs.PassingRules.{HasFullListsIfGiven, KeepsLines, label_passed, rule_passed}

-- the numbers of its nodes are not too great for marks
abbrev Fits : Arc → Type 0
Fits arc = (arc.from ≤ 999999999) × (arc.to ≤ 999999999)

-- no condition in these rules compares an empty list, and texts of this version tell the rules
abbrev pub HaveFull : ℕ → List Rule → Type 0
HaveFull version rules = (rule : Rule) → rule ∈ rules → HasFullListsIfGiven rule.condition × IsRuleToldIn version (unmarked rule)

-- what is known of a grammar that was passed: no condition in it compares an empty list, and texts of this version tell its
-- rules and its mark
pub record IsPassedGrammar (version : ℕ) (grammar : Grammar) : Type 0 where
  pub full : HaveFull version grammar.rules
  pub mark_told : grammar.unique ≡ true → 2 ≤ version

-- what stands behind a name closes it
closes_label : (unique : Bool) (left : List ℕ) → Closes (mark_text unique ++ (codes "." ++ left))
closes_label true left = refl
closes_label false left = refl

module _ (text : List ℕ) where
  end_passed : (before : Sort) (left : List ℕ) → IsAt text before (codes "\n" ++ left) → IsAt text before left
  end_passed before left at = pass_none text before (10 ∷ []) left (end_of_line text left) at

  stop_passed : (before : Sort) (left : List ℕ) → IsAt text before (codes "." ++ left) → IsAt text stop left
  stop_passed before left at = (pass_kind text Stop (codes ".") before (codes ".") left (token text Stop tt (codes ".") left refl tt refl) at).1

  -- a mark tells a number that is not too great, and is passed
  mark_passed : (n : ℕ) → 1 ≤ n → (before : Sort) (left : List ℕ) → IsAt text before (node_mark n ++ left) → (n ≤ 999999999) × IsAt text a_node_mark left
  mark_passed n some before left at =
      let found = token_there text before (node_mark n ++ left) (omega arith) refl at in
      let t : Token = found.0 in
      let fits = number_fits n left t.kind (bytes_of text t) (drop t.to text) found.1.spelled (found.2 ∙ ap (λ bs. 45 ∷ bs) (append_assoc (decimal n) (45 ∷ []) left)) in
      (fits, (pass_kind text (Node n) (node_mark n) before (node_mark n) left (token text (Node n) tt (node_mark n) left (some, fits, refl) tt refl) at).1)

  -- a mark that stands there is told by texts of this version
  unique_passed : (unique : Bool) (before : Sort) (left : List ℕ) → IsAt text before (mark_text unique ++ left) → (unique ≡ true → 2 ≤ version_of text) × IsBehind text left
  unique_passed false before left at = ((λ t. absurd (false≢true t)), (before, at))
  unique_passed true before left at =
      let a = pass_none text before (32 ∷ []) (codes "-UNIQUE-" ++ left) (space text (codes "-UNIQUE-" ++ left)) at in
      let known = word_known text before Unique left a in
      let b = pass_kind text (a_word Unique) (codes "-UNIQUE-") before (codes "-UNIQUE-") left (token text (a_word Unique) known (codes "-UNIQUE-") left refl tt refl) a in
      ((λ t. known), (the_word Unique, b.1))

  -- the line of the version
  version_passed : (version : ℕ) → (version ≡ 1) ⊎ (version ≡ 2) → (before : Sort) (left : List ℕ) → IsAt text before (version_text version ++ left) → IsBehind text left
  version_passed version (inl first) before left at = (before, subst (λ v. IsAt text before (version_text v ++ left)) first at)
  version_passed version (inr second) before left at =
      let rest : List ℕ = codes " 2.\n" ++ left in
      let here : IsAt text before (codes "-VERSION-" ++ rest) = subst (λ v. IsAt text before (version_text v ++ left)) second at in
      let known = word_known text before Version rest here in
      let a = pass_kind text (a_word Version) (codes "-VERSION-") before (codes "-VERSION-") rest (token text (a_word Version) known (codes "-VERSION-") rest refl tt refl) here in
      let b = pass_none text (the_word Version) (32 ∷ []) (codes "2.\n" ++ left) (space text (codes "2.\n" ++ left)) a.1 in
      let c = pass_kind text Bare (codes "2") (the_word Version) (codes "2") (codes ".\n" ++ left) (token text Bare tt (codes "2") (codes ".\n" ++ left) two_is_label refl refl) b in
      (stop, end_passed stop left (stop_passed a_label (codes "\n" ++ left) c.1))

  module _ (names others : List (List ℕ)) (keeps : KeepsLines names others) where
    -- ---- rules and grammars

    rules_passed : (rules : List Rule) → ((rule : Rule) → rule ∈ rules → IsAccepted rule) → (before : Sort) (left : List ℕ)
        → IsAt text before (flat_map (rule_line names) rules ++ left)
        → HaveFull (version_of text) rules × (flat_map (rule_line names) rules ≡ flat_map (rule_line others) rules) × IsBehind text left
    rules_passed [] accepted before left at = ((λ rule i. absurd i), refl, (before, at))
    rules_passed (r ∷ rules) accepted before left at =
        let ok = accepted r (inl refl) in
        let texts : List ℕ = flat_map (rule_line names) rules in
        let rest : List ℕ = texts ++ left in
        let x = rule_passed text names others keeps (unmarked r) ok.left.in_class ok.right.in_class ok.condition before (codes "\n" ++ rest)
        (subst (IsAt text before) (append_assoc (rule_line names r) texts left ∙ append_assoc (written names (unmarked r)) (codes "\n") rest) at) in
        let y = rules_passed rules (λ rule i. accepted rule (inr i)) stop left (end_passed stop rest x.2) in (
          λ rule i. ⊎_elim (λ e. subst (λ (s : Rule). HasFullListsIfGiven s.condition × IsRuleToldIn (version_of text) (unmarked s)) (sym e) x.0) (y.0 rule) i,
          (λ i. line (x.1 i) ++ y.1 i),
          y.2,
        )

    grammar_passed : (grammar : Grammar) → ((rule : Rule) → rule ∈ grammar.rules → IsAccepted rule) → (before : Sort) (left : List ℕ)
        → IsAt text before (grammar_text names grammar ++ left)
        → IsPassedGrammar (version_of text) grammar × (grammar_text names grammar ≡ grammar_text others grammar) × IsBehind text left
    grammar_passed grammar accepted before left at =
        let label : List ℕ = label_text (name_of names grammar.name) in
        let rules : List ℕ = flat_map (rule_line names) grammar.rules in
        let rest : List ℕ = codes "\n" ++ (rules ++ left) in
        let mark : List ℕ = mark_text grammar.unique in
        let behind : List ℕ = mark ++ (codes "." ++ rest) in
        let whole : IsAt text before (codes "-SYSTEME-" ++ (32 ∷ (label ++ behind))) =
        subst (IsAt text before)
        (append_assoc (line (codes "-SYSTEME- " ++ (label ++ (mark ++ codes ".")))) rules left
        ∙ append_assoc (codes "-SYSTEME- " ++ (label ++ (mark ++ codes "."))) (codes "\n") (rules ++ left)
        ∙ ap (λ bs. codes "-SYSTEME- " ++ bs) (append_assoc label (mark ++ codes ".") rest ∙ ap (λ bs. label ++ bs) (append_assoc mark (codes ".") rest)))
        at in
        let a = pass_kind text (a_word Systeme) (codes "-SYSTEME-") before (codes "-SYSTEME-") (32 ∷ (label ++ behind)) (token text (a_word Systeme) (first_version text) (codes "-SYSTEME-") (32 ∷ (label ++ behind)) refl tt refl) whole in
        let b = pass_none text (the_word Systeme) (32 ∷ []) (label ++ behind) (space text (label ++ behind)) a.1 in
        let c = label_passed text names others keeps grammar.name (the_word Systeme) behind (closes_label grammar.unique rest) b in
        let m = unique_passed grammar.unique c.1.0 (codes "." ++ rest) c.1.1 in
        let d = end_passed stop (rules ++ left) (stop_passed m.1.0 rest m.1.1) in
        let e = rules_passed grammar.rules accepted stop left d in
        (record { full = e.0; mark_told = m.0 }, (λ i. line (codes "-SYSTEME- " ++ (c.0 i ++ (mark ++ codes "."))) ++ e.1 i), e.2)

    grammars_passed : (grammars : List Grammar) → ((grammar : Grammar) → grammar ∈ grammars → (rule : Rule) → rule ∈ grammar.rules → IsAccepted rule) → (before : Sort) (left : List ℕ)
        → IsAt text before (flat_map (grammar_text names) grammars ++ left)
        → ((grammar : Grammar) → grammar ∈ grammars → IsPassedGrammar (version_of text) grammar) × (flat_map (grammar_text names) grammars ≡ flat_map (grammar_text others) grammars) × IsBehind text left
    grammars_passed [] accepted before left at = ((λ grammar i. absurd i), refl, (before, at))
    grammars_passed (grammar ∷ grammars) accepted before left at =
        let texts : List ℕ = flat_map (grammar_text names) grammars in
        let x = grammar_passed grammar (accepted grammar (inl refl)) before (texts ++ left) (subst (IsAt text before) (append_assoc (grammar_text names grammar) texts left) at) in
        let y = grammars_passed grammars (λ other i. accepted other (inr i)) x.2.0 left x.2.1 in (
          λ other i. ⊎_elim (λ e. subst (λ (g : Grammar). IsPassedGrammar (version_of text) g) (sym e) x.0) (y.0 other) i,
          (λ i. x.1 i ++ y.1 i),
          y.2,
        )

    -- ---- graphs

    parentheses_passed : (kids : Forest) → Shows text (forest_text names kids ≡ forest_text others kids) (forest_text names kids)
        → Shows text (in_parentheses kids (forest_text names kids) ≡ in_parentheses kids (forest_text others kids)) (in_parentheses kids (forest_text names kids))
    parentheses_passed no_tree inside = λ before left closes at. (refl, (before, at))
    parentheses_passed (first_tree l k r) inside = λ before left closes at.
        let list : List ℕ = forest_text names (first_tree l k r) in
        let x = pass_kind text Opening (codes "(") before (codes "(") ((list ++ codes ")") ++ left) (token text Opening tt (codes "(") ((list ++ codes ")") ++ left) refl tt refl) at in
        let y = inside opening (codes ")" ++ left) refl (subst (IsAt text opening) (append_assoc list (codes ")") left) x.1) in
        let z = pass_kind text Closing (codes ")") y.1.0 (codes ")") left (token text Closing tt (codes ")") left refl tt refl) y.1.1 in
        (ap (λ bs. 40 ∷ (bs ++ 41 ∷ [])) y.0, (closing, z.1))

    comma_passed : (trees : Forest) → Shows text (forest_text names trees ≡ forest_text others trees) (forest_text names trees)
        → Shows text (behind_comma trees (forest_text names trees) ≡ behind_comma trees (forest_text others trees)) (behind_comma trees (forest_text names trees))
    comma_passed no_tree behind = λ before left closes at. (refl, (before, at))
    comma_passed (first_tree l k r) behind = λ before left closes at.
        let list : List ℕ = forest_text names (first_tree l k r) ++ left in
        let x = pass_kind text Comma (codes ",") before (codes ",") list (token text Comma tt (codes ",") list refl tt refl) at in
        let y = behind comma left closes x.1 in
        (ap (λ bs. 44 ∷ bs) y.0, y.1)

    comma_closes : (trees : Forest) (bytes left : List ℕ) → Closes left → Closes (behind_comma trees bytes ++ left)
    comma_closes no_tree bytes left closes = closes
    comma_closes (first_tree l k r) bytes left closes = refl

    parentheses_close : (kids : Forest) (bytes left : List ℕ) → Closes left → Closes (in_parentheses kids bytes ++ left)
    parentheses_close no_tree bytes left closes = closes
    parentheses_close (first_tree l k r) bytes left closes = refl

    forest_passed : (trees : Forest) → Shows text (forest_text names trees ≡ forest_text others trees) (forest_text names trees)
    forest_passed no_tree = λ before left closes at. (refl, (before, at))
    forest_passed (first_tree l k r) = λ before left closes at.
        let label : List ℕ = label_text (name_of names l) in
        let below : List ℕ = in_parentheses k (forest_text names k) in
        let behind : List ℕ = behind_comma r (forest_text names r) in
        let behind_closes : Closes (behind ++ left) = comma_closes r (forest_text names r) left closes in
        let whole : IsAt text before (label ++ (below ++ (behind ++ left))) =
        subst (IsAt text before) (append_assoc label (below ++ behind) left ∙ ap (λ bs. label ++ bs) (append_assoc below behind left)) at in
        let a = label_passed text names others keeps l before (below ++ (behind ++ left)) (parentheses_close k (forest_text names k) (behind ++ left) behind_closes) whole in
        let b = parentheses_passed k (forest_passed k) a.1.0 (behind ++ left) behind_closes a.1.1 in
        let c = comma_passed r (forest_passed r) b.1.0 left closes b.1.1 in
        ((λ i. a.0 i ++ (b.0 i ++ c.0 i)), c.1)

    tree_passed : (tree : Tree) → Shows text (tree_text names tree ≡ tree_text others tree) (tree_text names tree)
    tree_passed tree = λ before left closes at.
        let label : List ℕ = label_text (name_of names tree.root) in
        let below : List ℕ = in_parentheses tree.subtrees (forest_text names tree.subtrees) in
        let a = label_passed text names others keeps tree.root before (below ++ left) (parentheses_close tree.subtrees (forest_text names tree.subtrees) left closes) (subst (IsAt text before) (append_assoc label below left) at) in
        let b = parentheses_passed tree.subtrees (forest_passed tree.subtrees) a.1.0 left closes a.1.1 in
        ((λ i. a.0 i ++ b.0 i), b.1)

    -- the pieces of a line, from left to right
    in_pieces : (a tree b left : List ℕ)
        → ((a ++ (32 ∷ (tree ++ (32 ∷ (b ++ (46 ∷ [])))))) ++ (10 ∷ [])) ++ left ≡ a ++ (32 ∷ (tree ++ (32 ∷ (b ++ (46 ∷ (10 ∷ left))))))
    in_pieces a tree b left =
        append_assoc (a ++ (32 ∷ (tree ++ (32 ∷ (b ++ (46 ∷ [])))))) (10 ∷ []) left
        ∙ append_assoc a (32 ∷ (tree ++ (32 ∷ (b ++ (46 ∷ []))))) (10 ∷ left)
        ∙ ap (λ w. a ++ (32 ∷ w)) (append_assoc tree (32 ∷ (b ++ (46 ∷ []))) (10 ∷ left))
        ∙ ap (λ w. a ++ (32 ∷ (tree ++ (32 ∷ w)))) (append_assoc b (46 ∷ []) (10 ∷ left))

    arc_passed : (arc : Arc) → 1 ≤ arc.from → 1 ≤ arc.to → (before : Sort) (left : List ℕ) → IsAt text before (arc_line names arc ++ left)
        → Fits arc × (arc_line names arc ≡ arc_line others arc) × IsBehind text left
    arc_passed arc from_some to_some before left at =
        let tree : List ℕ = tree_text names arc.tree in
        let end : List ℕ = 10 ∷ left in
        let last : List ℕ = node_mark arc.to ++ (46 ∷ end) in
        let middle : List ℕ = tree ++ (32 ∷ last) in
        let a = mark_passed arc.from from_some before (32 ∷ middle) (subst (IsAt text before) (in_pieces (node_mark arc.from) tree (node_mark arc.to) left) at) in
        let b = tree_passed arc.tree a_node_mark (32 ∷ last) refl (pass_none text a_node_mark (32 ∷ []) middle (space text middle) a.1) in
        let c = mark_passed arc.to to_some b.1.0 (46 ∷ end) (pass_none text b.1.0 (32 ∷ []) last (space text last) b.1.1) in
        let d = end_passed stop left (stop_passed a_node_mark end c.1) in
        ((a.0, c.0), ap (λ bs. line (node_mark arc.from ++ (codes " " ++ (bs ++ (codes " " ++ (node_mark arc.to ++ codes ".")))))) b.0, (stop, d))

    arcs_passed : (arcs : List Arc) → ((arc : Arc) → arc ∈ arcs → (1 ≤ arc.from) × (1 ≤ arc.to)) → (before : Sort) (left : List ℕ) → IsAt text before (flat_map (arc_line names) arcs ++ left)
        → ((arc : Arc) → arc ∈ arcs → Fits arc) × (flat_map (arc_line names) arcs ≡ flat_map (arc_line others) arcs)
    arcs_passed [] some before left at = ((λ arc i. absurd i), refl)
    arcs_passed (first ∷ arcs) some before left at =
        let texts : List ℕ = flat_map (arc_line names) arcs in
        let ends = some first (inl refl) in
        let x = arc_passed first ends.0 ends.1 before (texts ++ left) (subst (IsAt text before) (append_assoc (arc_line names first) texts left) at) in
        let y = arcs_passed arcs (λ other i. some other (inr i)) x.2.0 left x.2.1 in
        ((λ arc i. ⊎_elim (λ e. subst Fits (sym e) x.0) (y.0 arc) i), (λ i. x.1 i ++ y.1 i))

-- ---- decks

-- what is known of a deck that was passed
pub record IsPassed (version : ℕ) (names others : List (List ℕ)) (grammars : List Grammar) (G : QGraph) : Type 0 where
  pub passed : (grammar : Grammar) → grammar ∈ grammars → IsPassedGrammar (version_of (deck_text version names grammars G)) grammar
  pub alike : deck_text version names grammars G ≡ deck_text version others grammars G
  pub few : G.nodes ≤ 999999999

-- a deck whose text has tokens, which may stand side by side
pub deck_passed : (version : ℕ) → (version ≡ 1) ⊎ (version ≡ 2) → (names others : List (List ℕ)) → KeepsLines names others → (grammars : List Grammar) → ((grammar : Grammar) → grammar ∈ grammars → (rule : Rule) → rule ∈ grammar.rules → IsAccepted rule)
    → (G : QGraph) → IsValid G → (ts : List Token) → AreTokensOf (deck_text version names grammars G) ts → Chain stop ts → IsPassed version names others grammars G
deck_passed version which names others keeps grammars accepted G valid ts are chain = record {
  passed = a.0;
  alike = λ i. version_text version ++ (a.1 i ++ (line (codes "-GRAPHE-") ++ (c.1 i ++ line (codes "-FIN-"))));
  few = ⊎_elim (λ none. omega arith) last_fits (cases_lt G.nodes 1);
}
  where
    text : List ℕ
    text = deck_text version names grammars G

    graph : List ℕ
    graph = graph_text names G

    behind_word : List ℕ
    behind_word = flat_map (arc_line names) G.arcs ++ line (codes "-FIN-")

    systems : List ℕ
    systems = flat_map (grammar_text names) grammars ++ graph

    start : IsAt text stop (version_text version ++ systems)
    start =
        let from : place text text ≡ 0 = omega arith in
        record { is = record { before = []; whole = refl }; tokens = ts; reads = subst (λ (k : ℕ). Reads text k ts (length text)) (sym from) are; chain = chain }

    behind_line : IsBehind text systems
    behind_line = version_passed text version which stop systems start

    a : ((grammar : Grammar) → grammar ∈ grammars → IsPassedGrammar (version_of text) grammar) × (flat_map (grammar_text names) grammars ≡ flat_map (grammar_text others) grammars) × IsBehind text graph
    a = grammars_passed text names others keeps grammars accepted behind_line.0 graph behind_line.1

    b : IsAt text (the_word Graphe) behind_word
    b =
        end_passed text (the_word Graphe) behind_word
        (pass_kind text (a_word Graphe) (codes "-GRAPHE-") a.2.0 (codes "-GRAPHE-") (codes "\n" ++ behind_word)
        (token text (a_word Graphe) (first_version text) (codes "-GRAPHE-") (codes "\n" ++ behind_word) refl tt refl) a.2.1).1

    c : ((arc : Arc) → arc ∈ G.arcs → Fits arc) × (flat_map (arc_line names) G.arcs ≡ flat_map (arc_line others) G.arcs)
    c =
        arcs_passed text names others keeps G.arcs
        (λ arc i. let ends = valid.in_range arc i in (ends.0.0, ends.1.0))
        (the_word Graphe) (line (codes "-FIN-")) b

    last_fits : 1 ≤ G.nodes → G.nodes ≤ 999999999
    last_fits some =
        let (arc, i, at) = on_arc G valid G.nodes (some, omega arith) in
        let small = c.0 arc i in
        ⊎_elim (λ e. omega (arith, e, small.0)) (λ e. omega (arith, e, small.1)) at
