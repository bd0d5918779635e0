-- The steps of the reader of trees.
use Rattle.std.proofs.Common.{◌≡◌, ℕ, refl, sym, subst, List}
use Rattle.qs_lex.specs.declared.token.Token.{Token}
use Rattle.qs_lex.specs.Grammar.{a_label as the_label, opening, closing, comma, part}
use Rattle.qs_tree.specs.declared.cell.Label.{Label}
use Rattle.qs_tree.specs.Trees.{Forest, no_tree, first_tree, Tree}
use Rattle.qs_tree.specs.working.Trees.{join}
use Rattle.qs_tree.specs.working.Cells.{join-no_tree}
use Rattle.qs_reader.specs.declared.text_end.TextEnd.{TextEnd}
use Rattle.qs_reader.specs.Readers.{Reading, Passes, Stays, NamesLabel, EndsHere}
use Rattle.qs_reader.specs.working.Readers.{Reads, AToken, a_token, ALabel, a_label, Nothing, nothing, Then, then}
use Rattle.qs_reader.proofs.Steps.{token_read, label_read, left_out_read, absent_read, then_read, read_so, member_read, part_read, stayed_read, stayed_ends, token_ends, part_ends, first_ends, then_ends, member_ends, before_ends}
use Rattle.qs_graphtext.specs.Grammar.{plain}
use Rattle.qs_graphtext.specs.Reading.{ReadsPlain, reads_plain, ReadsSubtrees, no_parentheses, nothing_inside, plains_inside, ReadsPlains, reads_plains, ReadsMorePlains, no_more_plains, one_more_plain}
use Rattle.qs_graphtext.specs.working.Readers.{IsRead, Ends, plains_with, in_parentheses, APlain, Subtrees, Plains}
use Rattle.qs_graphtext.proofs.Cells.{join_assoc}

-- what may stand in parentheses behind a label
nothing_there : (names : List (List ℕ)) (text : List ℕ) (ts rest : List Token) → Nothing names text ts rest → ReadsSubtrees names text ts no_tree rest
nothing_there names text ts rest nothing = no_parentheses

pub read_no_subtrees : {r s : Reading} (names : List (List ℕ)) → Stays opening r s → IsRead in_parentheses (Subtrees no_tree) r s names names
read_no_subtrees names st = read_so nothing_there (left_out_read names st.none st)

nothing_in_them : (names : List (List ℕ)) (text : List ℕ) (ts rest : List Token) → Then (AToken opening) (Then Nothing (AToken closing)) names text ts rest → ReadsSubtrees names text ts no_tree rest
nothing_in_them names text ts rest (then (a_token o) (then nothing (a_token c))) = nothing_inside o c

pub read_nothing_inside : {r s u : Reading} (names : List (List ℕ)) → Passes opening r s → Passes closing s u → IsRead in_parentheses (Subtrees no_tree) r u names names
read_nothing_inside names p q = read_so nothing_in_them (member_read (then_read (token_read names refl p) (then_read (absent_read names refl q) (token_read names refl q))))

plains_in_them : {kids : Forest} (names : List (List ℕ)) (text : List ℕ) (ts rest : List Token) → Then (AToken opening) (Then (Plains kids) (AToken closing)) names text ts rest
    → ReadsSubtrees names text ts kids rest
plains_in_them names text ts rest (then (a_token o) (then p (a_token c))) = plains_inside o p c

pub read_plains_inside : {kids : Forest} {r s u v w : Reading} {old new : List (List ℕ)} → Passes opening r s → Stays closing s u
    → IsRead (plains_with comma) (Plains kids) u v old new → Passes closing v w
    → IsRead in_parentheses (Subtrees kids) r w old new
read_plains_inside {old} {new} p st a q = read_so plains_in_them (member_read (then_read (token_read old refl p) (then_read (stayed_read st (member_read a)) (token_read new refl q))))

pub ends_in_plains : {r s u : Reading} {end : TextEnd} → Passes opening r s → Stays closing s u → Ends (plains_with comma) u end → Ends in_parentheses r end
ends_in_plains p st e = member_ends p (before_ends refl st.none (stayed_ends st e))

pub ends_unclosed : {R : Reads} {r s u v : Reading} {old new : List (List ℕ)} {end : TextEnd} → Passes opening r s → Stays closing s u
    → IsRead (plains_with comma) R u v old new → EndsHere closing v end → Ends in_parentheses r end
ends_unclosed p st a e = member_ends p (then_ends (stayed_read st (member_read a)) (token_ends e))

-- a tree
node_of : {label : Label} {kids : Forest} (names : List (List ℕ)) (text : List ℕ) (ts rest : List Token) → Then (ALabel label) (Subtrees kids) names text ts rest
    → ReadsPlain names text ts (record { root = label; subtrees = kids }) rest
node_of names text ts rest (then (a_label is) below) = reads_plain is below

pub read_node : {label : Label} {kids : Forest} {r s u : Reading} {old middle new : List (List ℕ)} → NamesLabel label r s old middle → IsRead in_parentheses (Subtrees kids) s u middle new
    → IsRead (part plain) (APlain (record { root = label; subtrees = kids })) r u old new
read_node n a = part_read (read_so node_of (then_read (label_read n) a))

pub ends_at_label : {r : Reading} {end : TextEnd} → EndsHere the_label r end → Ends (part plain) r end
ends_at_label e = part_ends (first_ends (token_ends e))

pub ends_in_subtrees : {label : Label} {r s : Reading} {old new : List (List ℕ)} {end : TextEnd} → NamesLabel label r s old new → Ends in_parentheses s end → Ends (part plain) r end
ends_in_subtrees n e = part_ends (then_ends (label_read n) e)

pub same_tree : {t u : Tree} {r s : Reading} {old new : List (List ℕ)} → u ≡ t → IsRead (part plain) (APlain t) r s old new → IsRead (part plain) (APlain u) r s old new
same_tree {r} {s} {old} {new} e a = subst (λ x. IsRead (part plain) (APlain x) r s old new) (sym e) a

-- trees of which these are read, and whatever is read behind them, are read whole
abbrev pub CompletesPlains : Forest → Reads
CompletesPlains trees names text ts rest = (behind : Forest) (end : List Token) → ReadsMorePlains names text rest behind end → ReadsPlains names text ts (join trees behind) end

pub plains_first : {t : Tree} (names : List (List ℕ)) (text : List ℕ) (ts rest : List Token) → ReadsPlain names text ts t rest → CompletesPlains (first_tree t.root t.subtrees no_tree) names text ts rest
plains_first names text ts rest r behind end more = reads_plains r more

pub plains_next : {t : Tree} (trees : Forest) (names : List (List ℕ)) (text : List ℕ) (ts us rest : List Token)
    → CompletesPlains trees names text ts us → Then (AToken comma) (APlain t) names text us rest → CompletesPlains (join trees (first_tree t.root t.subtrees no_tree)) names text ts rest
plains_next {t} trees names text ts us rest before (then (a_token c) r) behind end more =
    subst (λ f. ReadsPlains names text ts f end) (sym (join_assoc trees (first_tree t.root t.subtrees no_tree) behind)) (before (first_tree t.root t.subtrees behind) end (one_more_plain c r more))

pub plains_last : {trees : Forest} (names : List (List ℕ)) (text : List ℕ) (ts rest : List Token) → CompletesPlains trees names text ts rest → ReadsPlains names text ts trees rest
plains_last {trees} names text ts rest whole = subst (λ f. ReadsPlains names text ts f rest) (join-no_tree trees) (whole no_tree rest no_more_plains)
