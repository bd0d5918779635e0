-- The steps of the readers of trees, lists and sides.
use Rattle.std.proofs.Common.{◌≡◌, ℕ, ◌+◌, Bool, true, false, refl, sym, ◌∙◌, ap, subst, List, arith}
use Rattle.std.specs.Prelude.{not}
use Rattle.std.proofs.lemmas.Bool.{false≢true}
use Rattle.std.proofs.lemmas.Bool.Decides.{nat_tests}
use Rattle.qs_lex.specs.declared.token.Token.{Token}
use Rattle.qs_lex.specs.declared.token.Kind.{Kind}
use Rattle.qs_lex.specs.declared.token.Kind.TheVariants.{Bare, Quoted, Variable, Node, Word as a_word, Opening, Closing, Comma, Plus, Slash, Equals, Stop}
use Rattle.qs_lex.specs.Tokens.{bytes_of}
use Rattle.qs_lex.specs.Spelling.{Spells}
use Rattle.qs_lex.specs.Grammar.{a_label as the_label, a_label_variable, a_tree_variable, a_forest_variable, opening, closing, variable_sort, sort_of, part}
use Rattle.qs_lex.specs.Expecting.{same_sort}
use Rattle.qs_lex.specs.working.Expecting.{Apart}
use Rattle.qs_lex.proofs.Predictive.{next_neither}
use Rattle.qs_lex.proofs.Predicting.{apart_is}
use Rattle.qs_lex.proofs.Readings.{token_stands}
use Rattle.qs_pattern.specs.declared.variable.Var.{Var}
use Rattle.qs_pattern.specs.declared.variable.VarClass.{VarClass}
use Rattle.qs_pattern.specs.declared.variable.VarClass.TheVariants as class
use Rattle.qs_pattern.specs.declared.pattern.Head.{Head}
use Rattle.qs_pattern.specs.declared.pattern.Head.TheVariants as head
use Rattle.qs_pattern.specs.Classes.{IsClassOf}
use Rattle.qs_pattern.specs.Patterns.{Patterns, no_pattern, node_first, tree_var_first, forest_var_first}
use Rattle.qs_tree.specs.declared.cell.Label.{Label}
use Rattle.qs_reader.specs.declared.text_end.TextEnd.{TextEnd}
use Rattle.qs_reader.specs.Readers.{Reading, rest_of, IsNext, Passes, Stays, NamesLabel, EndsHere}
use Rattle.qs_reader.specs.working.Readers.{Reads, AToken, a_token, ALabel, a_label, Nothing, nothing, Then, then}
use Rattle.qs_reader.proofs.Tokens.{passed, other_next}
use Rattle.qs_reader.proofs.Steps.{passed_read, token_read, label_read, left_out_read, absent_read, then_read, read_so, this_read, other_read, member_read, part_read, stayed_read, stayed_here, stayed_ends, ends_here, token_ends, part_ends, first_ends, then_ends, this_ends, member_ends, before_ends}
use Rattle.qs_ruletext.specs.Reading.{ReadsTree, reads_node, reads_tree_variable, ReadsSubtrees, no_parentheses, nothing_inside, list_inside, reads_tree, reads_forest_variable}
use Rattle.qs_ruletext.specs.Grammar.{tree, list, item}
use Rattle.qs_ruletext.specs.working.Readers.{IsRead, Ends, is_variable, sort_of_class, PassesVariable, a_head, in_parentheses, ReadsHead, reads_head, AList, ATree, AnItem, Subtrees, IsGood}

-- variables
pub spelled_good : (kind : Kind) (bytes : List ℕ) → Spells kind bytes → IsGood kind
spelled_good Bare bytes s = tt
spelled_good Quoted bytes s = tt
spelled_good (Variable letter number) bytes s = (s.0, s.1)
spelled_good (Node number) bytes s = tt
spelled_good (a_word w) bytes s = tt
spelled_good Opening bytes s = tt
spelled_good Closing bytes s = tt
spelled_good Comma bytes s = tt
spelled_good Plus bytes s = tt
spelled_good Slash bytes s = tt
spelled_good Equals bytes s = tt
spelled_good Stop bytes s = tt

pub good_next : (r : Reading) (t : Token) → IsNext t r → IsGood t.kind
good_next r t n = spelled_good t.kind (bytes_of r.text t) (token_stands n.of_text).spelled

-- the sort of a variable, by its class
class_sort : (v : Var) (c : VarClass) → IsClassOf v c → variable_sort v.letter ≡ sort_of_class c
class_sort v class.Label is = grind (arith, nat_tests, is.0, is.1)
class_sort v class.Tree is = grind (arith, nat_tests, is.0, is.1)
class_sort v class.Forest is = grind (arith, nat_tests, is.0, is.1)

pub variable_passed : (c : VarClass) (v : Var) (r s : Reading) (t : Token) → IsNext t r → t.kind ≡ Variable v.letter v.number → IsClassOf v c → s ≡ record r { place = r.place + 1 }
    → PassesVariable (sort_of_class c) v r s
variable_passed c v r s t n e is on = record { token = t; passed = passed r s t n on; is = record { of_sort = ap sort_of e ∙ class_sort v c is; variable = e } }

-- a variable of another class, and a token that is no variable
other_class : (c d : VarClass) → (c ≡ d → ⊥) → same_sort (sort_of_class c) (sort_of_class d) ≡ false
other_class class.Label class.Label n = absurd (n refl)
other_class class.Label class.Tree n = refl
other_class class.Label class.Forest n = refl
other_class class.Tree class.Label n = refl
other_class class.Tree class.Tree n = absurd (n refl)
other_class class.Tree class.Forest n = refl
other_class class.Forest class.Label n = refl
other_class class.Forest class.Tree n = refl
other_class class.Forest class.Forest n = absurd (n refl)

pub other_variable : (c d : VarClass) (v : Var) (r : Reading) (t : Token) → IsNext t r → t.kind ≡ Variable v.letter v.number → IsClassOf v d → (c ≡ d → ⊥) → Stays (sort_of_class c) r r
other_variable c d v r t n e is differs =
    other_next (sort_of_class c) r t n (ap (λ k. same_sort (sort_of_class c) k) (ap sort_of e ∙ class_sort v d is) ∙ other_class c d differs)

class_is_variable : (c : VarClass) → Apart (same_sort (sort_of_class c)) (λ k. not (is_variable k))
class_is_variable class.Label = apart_is (same_sort a_label_variable) (λ k. not (is_variable k)) refl
class_is_variable class.Tree = apart_is (same_sort a_tree_variable) (λ k. not (is_variable k)) refl
class_is_variable class.Forest = apart_is (same_sort a_forest_variable) (λ k. not (is_variable k)) refl

pub no_variable : (c : VarClass) (r : Reading) (t : Token) → IsNext t r → is_variable (sort_of t.kind) ≡ false → Stays (sort_of_class c) r r
no_variable c r t n none = other_next (sort_of_class c) r t n (by_test (same_sort (sort_of_class c) (sort_of t.kind)) refl)
  where
    by_test : (b : Bool) → same_sort (sort_of_class c) (sort_of t.kind) ≡ b → b ≡ false
    by_test true e = let is : not (is_variable (sort_of t.kind)) ≡ false = class_is_variable c (sort_of t.kind) e in absurd (false≢true (sym is ∙ ap not none))
    by_test false e = refl

-- heads
pub read_head_variable : {v : Var} {r s : Reading} (names : List (List ℕ)) → PassesVariable a_label_variable v r s → IsRead a_head (ReadsHead (head.Var v)) r s names names
read_head_variable names p = other_read (passed_read names refl p.is.of_sort (λ later. reads_head p.is) p.passed)

head_of_label : {l : Label} (names : List (List ℕ)) (text : List ℕ) (ts rest : List Token) → ALabel l names text ts rest → ReadsHead (head.Label l) names text ts rest
head_of_label names text ts rest (a_label is) = reads_head is

pub read_head_label : {l : Label} {r s u : Reading} {old new : List (List ℕ)} → Stays a_label_variable r s → NamesLabel l s u old new → IsRead a_head (ReadsHead (head.Label l)) r u old new
read_head_label st n = stayed_read st (this_read (read_so head_of_label (label_read n)))

pub ends_at_head : {r s : Reading} {end : TextEnd} → Stays a_label_variable r s → EndsHere the_label s end → Ends a_head r end
ends_at_head {r} st e = ends_here refl (λ n. next_neither (same_sort the_label) (same_sort a_label_variable) (rest_of r) n st.none) (stayed_here st e)

-- what may stand in parentheses behind a head
nothing_there : (kids : Patterns) → kids ≡ no_pattern → (names : List (List ℕ)) (text : List ℕ) (ts rest : List Token) → Nothing names text ts rest → ReadsSubtrees names text ts kids rest
nothing_there kids e names text ts rest nothing = subst (λ p. ReadsSubtrees names text ts p rest) (sym e) no_parentheses

pub read_no_subtrees : {r s : Reading} (names : List (List ℕ)) (kids : Patterns) → kids ≡ no_pattern → Stays opening r s → IsRead in_parentheses (Subtrees kids) r s names names
read_no_subtrees names kids e st = read_so (nothing_there kids e) (left_out_read names st.none st)

nothing_in_them : (kids : Patterns) → kids ≡ no_pattern → (names : List (List ℕ)) (text : List ℕ) (ts rest : List Token) → Then (AToken opening) (Then Nothing (AToken closing)) names text ts rest → ReadsSubtrees names text ts kids rest
nothing_in_them kids e names text ts rest (then (a_token o) (then nothing (a_token c))) = subst (λ p. ReadsSubtrees names text ts p rest) (sym e) (nothing_inside o c)

pub read_nothing_inside : {r s u : Reading} (names : List (List ℕ)) (kids : Patterns) → kids ≡ no_pattern → Passes opening r s → Passes closing s u
    → IsRead in_parentheses (Subtrees kids) r u names names
read_nothing_inside names kids e p q = read_so (nothing_in_them kids e) (member_read (then_read (token_read names refl p) (then_read (absent_read names refl q) (token_read names refl q))))

list_in_them : {kids : Patterns} (names : List (List ℕ)) (text : List ℕ) (ts rest : List Token) → Then (AToken opening) (Then (AList kids) (AToken closing)) names text ts rest
    → ReadsSubtrees names text ts kids rest
list_in_them names text ts rest (then (a_token o) (then l (a_token c))) = list_inside o l c

pub read_list_inside : {kids : Patterns} {r s u v w : Reading} {old new : List (List ℕ)} → Passes opening r s → Stays closing s u
    → IsRead (part list) (AList kids) u v old new → Passes closing v w
    → IsRead in_parentheses (Subtrees kids) r w old new
read_list_inside {old} {new} p st a q = read_so list_in_them (member_read (then_read (token_read old refl p) (then_read (stayed_read st (member_read a)) (token_read new refl q))))

pub ends_in_list : {r s u : Reading} {end : TextEnd} → Passes opening r s → Stays closing s u → Ends (part list) u end → Ends in_parentheses r end
ends_in_list p st e = member_ends p (before_ends refl st.none (stayed_ends st e))

pub ends_unclosed : {R : Reads} {r s u v : Reading} {old new : List (List ℕ)} {end : TextEnd} → Passes opening r s → Stays closing s u
    → IsRead (part list) R u v old new → EndsHere closing v end → Ends in_parentheses r end
ends_unclosed p st a e = member_ends p (then_ends (stayed_read st (member_read a)) (token_ends e))

-- a tree
pub read_tree_variable : {v : Var} {r s : Reading} (names : List (List ℕ)) → PassesVariable a_tree_variable v r s
    → IsRead (part tree) (ATree (tree_var_first v no_pattern)) r s names names
read_tree_variable names p = part_read (other_read (passed_read names refl p.is.of_sort (λ later. reads_tree_variable p.is) p.passed))

node_of : {h : Head} {kids : Patterns} (p : Patterns) → p ≡ node_first h kids no_pattern → (names : List (List ℕ)) (text : List ℕ) (ts rest : List Token)
    → Then (ReadsHead h) (Subtrees kids) names text ts rest → ReadsTree names text ts p rest
node_of p e names text ts rest (then (reads_head is) below) = subst (λ q. ReadsTree names text ts q rest) (sym e) (reads_node is below)

pub read_node : {h : Head} {kids : Patterns} {r s u v : Reading} {old middle new : List (List ℕ)} (p : Patterns) → p ≡ node_first h kids no_pattern → Stays a_tree_variable r s
    → IsRead a_head (ReadsHead h) s u old middle → IsRead in_parentheses (Subtrees kids) u v middle new
    → IsRead (part tree) (ATree p) r v old new
read_node p e st a b = stayed_read st (part_read (this_read (read_so (node_of p e) (then_read a b))))

pub ends_in_head : {r s : Reading} {end : TextEnd} → Stays a_tree_variable r s → Ends a_head s end → Ends (part tree) r end
ends_in_head st e = part_ends (this_ends st.none (first_ends (stayed_ends st e)))

pub ends_in_subtrees : {R : Reads} {r s u : Reading} {old new : List (List ℕ)} {end : TextEnd} → Stays a_tree_variable r s → IsRead a_head R s u old new → Ends in_parentheses u end → Ends (part tree) r end
ends_in_subtrees st a e = part_ends (this_ends st.none (then_ends (stayed_read st a) e))

-- an item
pub read_forest_variable : {v : Var} {r s : Reading} (names : List (List ℕ)) → PassesVariable a_forest_variable v r s
    → IsRead (part item) (AnItem (forest_var_first v no_pattern)) r s names names
read_forest_variable names p = part_read (other_read (passed_read names refl p.is.of_sort (λ later. reads_forest_variable p.is) p.passed))

pub read_item : {p : Patterns} {r s u : Reading} {old new : List (List ℕ)} → Stays a_forest_variable r s → IsRead (part tree) (ATree p) s u old new
    → IsRead (part item) (AnItem p) r u old new
read_item st a = stayed_read st (part_read (this_read (read_so (λ names text ts rest x. reads_tree x) a)))

pub ends_in_tree : {r s : Reading} {end : TextEnd} → Stays a_forest_variable r s → Ends (part tree) s end → Ends (part item) r end
ends_in_tree st e = part_ends (this_ends st.none (stayed_ends st e))
