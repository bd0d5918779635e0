-- What is told of the levels of grammars.
use Rattle.std.proofs.Common.{◌≡◌, ◌∙◌, ℕ, zero, suc, ◌+◌, ◌<◌, ◌≤◌, List, [], ◌∷◌, ◌++◌, length, map, drop, Option, Some, None, refl, sym, ap, ap₂, subst, inl, inr, ⊎_elim, arith, append_assoc, append-nil}
use Rattle.std.specs.List.{slice_index_or}
use Rattle.std.proofs.Math.ListN.{drop_of_length-le}
use Rattle.qs_levels.proofs.Numbering.{from_once}
use Rattle.qs_tree.specs.declared.cell.Label.{Label}
use Rattle.qs_tree.specs.Lists.{◌∈◌}
use Rattle.qs_tree.proofs.Members.{in_map, from_append}
use Rattle.qs_pattern.specs.declared.pattern.Head.{Head}
use Rattle.qs_pattern.specs.declared.pattern.Head.TheVariants as head
use Rattle.qs_pattern.specs.Patterns.{Patterns, no_pattern, node_first, tree_var_first, forest_var_first}
use Rattle.qs_pattern.specs.Named.{IsHeadNamed, ArePatternsNamed}
use Rattle.qs_pattern.specs.Rules.{Rule}
use Rattle.qs_levels.specs.Tops.{labels_of_head, top_labels, labels_at_tops}
use Rattle.qs_levels.specs.Certificates.{LevelCertificate, IsFound}
use Rattle.qs_levels.proofs.Existence.{one_found, something_found}
use Rattle.qs_levels.proofs.ExistenceLists.{from_tops_of}
use Rattle.qs_deck.specs.declared.system.System.{System}
use Rattle.qs_deck.specs.Decks.{Grammar, grammar_of}
use Rattle.qs_deck.specs.Named.{IsRuleNamed}
use Rattle.qs_telling.specs.LevelTexts.{levels_block, TellsLevels}
use Rattle.qs_telling.specs.working.Named.{AreLevelsNamed}

-- one text tells the levels of grammars
pub one_telling : (names : List (List ℕ)) (grammars : List Grammar) (t u : List ℕ) → TellsLevels names grammars t → TellsLevels names grammars u → t ≡ u
one_telling names [] t u a b = a ∙ sym b
one_telling names (grammar ∷ grammars) t u (found, is, rest, tells, t_is) (found', is', rest', tells', u_is) =
    t_is ∙ ap₂ (λ (f : Option LevelCertificate) (r : List ℕ). levels_block names grammar.name f ++ r) (one_found grammar.rules found found' is is') (one_telling names grammars rest rest' tells tells') ∙ sym u_is

pub some_telling : (names : List (List ℕ)) (grammars : List Grammar) → (text : List ℕ) × TellsLevels names grammars text
some_telling names [] = ([], refl)
some_telling names (grammar ∷ grammars) =
    let (found, is) = something_found grammar.rules in
    let (rest, tells) = some_telling names grammars in
    (levels_block names grammar.name found ++ rest, (found, is, rest, tells, refl))

-- the labels at the tops of named rules are named
head_named : (n : ℕ) (h : Head) → IsHeadNamed n h → (l : Label) → l ∈ labels_of_head h → l.0 < n
head_named n (head.Label k) named l (inl same) = subst (λ (x : Label). x.0 < n) (sym same) named
head_named n (head.Label k) named l (inr none) = absurd none
head_named n (head.Var v) named l none = absurd none

tops_named : (n : ℕ) (side : Patterns) → ArePatternsNamed n side → (l : Label) → l ∈ top_labels side → l.0 < n
tops_named n no_pattern named l i = absurd i
tops_named n (node_first h kids behind) named l i =
    ⊎_elim (head_named n h named.0 l) (tops_named n behind named.2 l) (from_append (labels_of_head h) (top_labels behind) l i)
tops_named n (tree_var_first v behind) named l i = tops_named n behind named l i
tops_named n (forest_var_first v behind) named l i = tops_named n behind named l i

rules_named : (n : ℕ) (rules : List Rule) → ((rule : Rule) → rule ∈ rules → IsRuleNamed n rule) → (l : Label) → l ∈ labels_at_tops rules → l.0 < n
rules_named n rules named l i =
    let (rule, among, top) = from_tops_of rules l i in
    ⊎_elim (tops_named n rule.left (named rule among).left l) (tops_named n rule.right (named rule among).right l) (from_append (top_labels rule.left) (top_labels rule.right) l top)

-- so are those of what is found for the rules
pub found_named : (n : ℕ) (rules : List Rule) → ((rule : Rule) → rule ∈ rules → IsRuleNamed n rule) → (found : Option LevelCertificate) → IsFound rules found → AreLevelsNamed n found
found_named n rules named None is = tt
found_named n rules named (Some c) is = λ level among.
    let standing : level.0 ∈ map (λ p. p.0) c.of = in_map (λ (p : Label × ℕ). p.0) c.of level among in
    rules_named n rules named level.0 (from_once (labels_at_tops rules) level.0 (subst (λ (ls : List Label). level.0 ∈ ls) is.labels standing))

-- one grammar more of which the levels were told
pub told_further : (names : List (List ℕ)) (systems : List System) (i : ℕ) (system : System) → drop i systems ≡ system ∷ drop (i + 1) systems → (text : List ℕ)
    → ((rest : List ℕ) → TellsLevels names (map grammar_of (drop i systems)) rest → TellsLevels names (map grammar_of systems) (text ++ rest))
    → (found : Option LevelCertificate) → IsFound system.rules.items found → (new : List ℕ) → new ≡ text ++ levels_block names system.name found
    → (rest : List ℕ) → TellsLevels names (map grammar_of (drop (i + 1) systems)) rest → TellsLevels names (map grammar_of systems) (new ++ rest)
told_further names systems i system at text goes_on found is new same rest tells =
    let block : List ℕ = levels_block names system.name found in
    let with_it : TellsLevels names (map grammar_of (drop i systems)) (block ++ rest) =
    subst (λ (left : List System). TellsLevels names (map grammar_of left) (block ++ rest)) (sym at) (found, is, rest, tells, refl) in
    subst (TellsLevels names (map grammar_of systems)) (sym (ap (λ (bytes : List ℕ). bytes ++ rest) same ∙ append_assoc text block rest)) (goes_on (block ++ rest) with_it)

-- all were told
pub told_to_end : (names : List (List ℕ)) (systems : List System) (i : ℕ) → length systems ≤ i → (text : List ℕ)
    → ((rest : List ℕ) → TellsLevels names (map grammar_of (drop i systems)) rest → TellsLevels names (map grammar_of systems) (text ++ rest))
    → TellsLevels names (map grammar_of systems) text
told_to_end names systems i past text goes_on =
    subst (TellsLevels names (map grammar_of systems)) (append-nil text)
    (goes_on [] (subst (λ (left : List System). TellsLevels names (map grammar_of left) []) (sym (drop_of_length-le systems past)) refl))

-- what stands at a place of a list is among it
pub in_index : {X : Type 0} (xs : List X) (i : ℕ) (d : X) → i < length xs → slice_index_or xs i d ∈ xs
in_index [] i d low = absurd (omega arith)
in_index (x ∷ xs) zero d low = inl refl
in_index (x ∷ xs) (suc i) d low = inr (in_index xs i d (omega arith))
