use Rattle.std.proofs.Common.{refl, ap, ◌∙◌}
use Rattle.std.proofs.lemmas.Result.{IfOk-weaker, IfErr-weaker}
use Rattle.qs_lex.specs.Grammar.{part}
use Rattle.qs_pattern.specs.Patterns.{patterns, no_pattern}
use Rattle.qs_pattern.proofs.PatternLemmas.{pattern-Node}
use Rattle.qs_reader.proofs.Steps.{hands_on, token_read, then_read, part_read, part_ends, first_ends}
use Rattle.qs_reader.proofs.Lists.{first_read, next_read, no_more_read, next_ends}
use Rattle.qs_ruletext.specs.Grammar.{tree, list}
use Rattle.qs_ruletext.specs.working.Readers.{Ends, in_parentheses}
use Rattle.qs_ruletext.proofs.Growing.{patterns_push, list_first, list_next, list_last}
use Rattle.qs_ruletext.proofs.SideSteps.{read_no_subtrees, read_nothing_inside, read_list_inside, ends_in_list, ends_unclosed, read_tree_variable, read_node, ends_in_head, ends_in_subtrees, read_forest_variable, read_item, ends_in_tree}
use Rattle.qs_ruletext.proofs.sides.+trees.Goals as goal

pub item-returns-in-Some-clause-read : goal.item-returns-in-Some-clause-read
item-returns-in-Some-clause-read t c = read_forest_variable c.args.names.now c.in-Some.ensures.some

pub item-returns-in-None-clause-read : goal.item-returns-in-None-clause-read
item-returns-in-None-clause-read t c = IfOk-weaker c.tree.result _ _ (λ found a. read_item c.in-None.ensures.none a) c.tree.ensures.read

pub item-returns-in-None-clause-ends : goal.item-returns-in-None-clause-ends
item-returns-in-None-clause-ends t c = IfErr-weaker c.tree.result _ _ (λ end e. ends_in_tree c.in-None.ensures.none e) c.tree.ensures.ends

pub list-returns-in_err-first-clause-ends : goal.list-returns-in_err-first-clause-ends
list-returns-in_err-first-clause-ends t c = hands_on c.from_residual.result (Ends (part list) c.args.reader.now) c.from_residual.ensures.1 (part_ends (first_ends c.in_err-first.ensures.ends))

pub list-loop-reader-init : goal.list-loop-reader-init
list-loop-reader-init t c = first_read (list_first (patterns c.in_ok-items.items.items) (ap patterns c.in_ok-items.ensures.items)) c.in_ok-first.ensures.read

pub list-returns-in_err-next-clause-ends : goal.list-returns-in_err-next-clause-ends
list-returns-in_err-next-clause-ends t c =
    hands_on c.from_residual-in_err-next.result (Ends (part list) c.args.reader.now) c.from_residual-in_err-next.ensures.1
    (part_ends (next_ends c.loop-reader.invariant (c.loop-reader-test.ensures.yes refl) c.in_err-next.ensures.ends))

pub list-loop-reader-preserved : goal.list-loop-reader-preserved
list-loop-reader-preserved t c =
    next_read (list_next (patterns c.loop-reader.items.items) (patterns c.push.new.self.items) (ap patterns c.in_ok-push.ensures.items ∙ patterns_push c.loop-reader.items.items c.in_ok-next.next))
    c.loop-reader.invariant (then_read (token_read c.loop-reader.names refl (c.loop-reader-test.ensures.yes refl)) c.in_ok-next.ensures.read)

pub list-returns-clause-read : goal.list-returns-clause-read
list-returns-clause-read t c = part_read (no_more_read list_last c.loop-reader.invariant (c.loop-reader-test.ensures.no refl))

pub subtrees-returns-then-not-pass-clause-read : goal.subtrees-returns-then-not-pass-clause-read
subtrees-returns-then-not-pass-clause-read t c = read_no_subtrees c.args.names.now (patterns c.new.result.items) (ap patterns c.new.ensures.items) (c.if-not-pass.ensures.no refl)

pub subtrees-returns-then-pass-clause-read : goal.subtrees-returns-then-pass-clause-read
subtrees-returns-then-pass-clause-read t c =
    read_nothing_inside c.args.names.now (patterns c.new-then-pass.result.items) (ap patterns c.new-then-pass.ensures.items) (c.if-not-pass.ensures.yes refl) (c.if-pass.ensures.yes refl)

pub subtrees-returns-in_err-kids-clause-ends : goal.subtrees-returns-in_err-kids-clause-ends
subtrees-returns-in_err-kids-clause-ends t c =
    hands_on c.from_residual.result (Ends in_parentheses c.args.reader.now) c.from_residual.ensures.1 (ends_in_list (c.if-not-pass.ensures.yes refl) (c.if-pass.ensures.no refl) c.in_err-kids.ensures.ends)

pub subtrees-returns-in_err-expect-clause-ends : goal.subtrees-returns-in_err-expect-clause-ends
subtrees-returns-in_err-expect-clause-ends t c =
    hands_on c.from_residual-in_err-expect.result (Ends in_parentheses c.args.reader.now) c.from_residual-in_err-expect.ensures.1
    (ends_unclosed (c.if-not-pass.ensures.yes refl) (c.if-pass.ensures.no refl) c.in_ok-kids.ensures.read c.in_err-expect.ensures.ends)

pub subtrees-returns-clause-read : goal.subtrees-returns-clause-read
subtrees-returns-clause-read t c = read_list_inside (c.if-not-pass.ensures.yes refl) (c.if-pass.ensures.no refl) c.in_ok-kids.ensures.read c.in_ok-expect.ensures.ok

pub tree-returns-in-Some-clause-read : goal.tree-returns-in-Some-clause-read
tree-returns-in-Some-clause-read t c = read_tree_variable c.args.names.now c.in-Some.ensures.some

pub tree-returns-in_err-head-clause-ends : goal.tree-returns-in_err-head-clause-ends
tree-returns-in_err-head-clause-ends t c =
    hands_on c.from_residual.result (Ends (part tree) c.args.reader.now) c.from_residual.ensures.1 (ends_in_head c.in_default.ensures.none c.in_err-head.ensures.ends)

pub tree-returns-in_err-kids-clause-ends : goal.tree-returns-in_err-kids-clause-ends
tree-returns-in_err-kids-clause-ends t c =
    hands_on c.from_residual-in_err-kids.result (Ends (part tree) c.args.reader.now) c.from_residual-in_err-kids.ensures.1
    (ends_in_subtrees c.in_default.ensures.none c.in_ok-head.ensures.read c.in_err-kids.ensures.ends)

pub tree-returns-clause-read : goal.tree-returns-clause-read
tree-returns-clause-read t c = read_node _ (pattern-Node c.in_ok-head.head c.in_ok-kids.kids no_pattern) c.in_default.ensures.none c.in_ok-head.ensures.read c.in_ok-kids.ensures.read
