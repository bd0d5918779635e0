use Rattle.std.proofs.Common.{refl, sym, ◌∙◌, append-nil}
use Rattle.qs_lex.specs.Grammar.{comma, part}
use Rattle.qs_tree.specs.Trees.{no_tree, first_tree}
use Rattle.qs_tree.specs.working.Trees.{join}
use Rattle.qs_reader.proofs.Steps.{hands_on, token_read, then_read, first_ends}
use Rattle.qs_reader.proofs.Lists.{first_read, next_read, no_more_read, next_ends}
use Rattle.qs_graphtext.specs.Grammar.{plain}
use Rattle.qs_graphtext.specs.working.Readers.{Ends, plains_with, in_parentheses}
use Rattle.qs_graphtext.proofs.Cells.{first_cells, more_cells, root_cells}
use Rattle.qs_graphtext.proofs.PlainSteps.{read_no_subtrees, read_nothing_inside, read_plains_inside, ends_in_plains, ends_unclosed, read_node, ends_at_label, ends_in_subtrees, plains_first, plains_next, plains_last}
use Rattle.qs_graphtext.proofs.plain.+trees.Goals as goal

pub plain-returns-in_err-label-clause-ends : goal.plain-returns-in_err-label-clause-ends
plain-returns-in_err-label-clause-ends t c = hands_on c.from_residual.result (Ends (part plain) c.args.reader.now) c.from_residual.ensures.1 (ends_at_label c.in_err-label.ensures.ends)

pub plain-returns-in_err-subtrees-clause-ends : goal.plain-returns-in_err-subtrees-clause-ends
plain-returns-in_err-subtrees-clause-ends t c =
    hands_on c.from_residual-in_err-subtrees.result (Ends (part plain) c.args.reader.now) c.from_residual-in_err-subtrees.ensures.1
    (ends_in_subtrees c.in_ok-label.ensures.names c.in_err-subtrees.ensures.ends)

pub plain-returns-clause-read : goal.plain-returns-clause-read
plain-returns-clause-read t c =
    let (kids, put, found) = c.in_ok-subtrees.ensures.read in (
      record { root = c.in_ok-label.label; subtrees = kids },
      root_cells c.args.cells.now.items c.push.new.self.items c.subtrees.new.cells.items _ c.in_ok-label.label kids c.len-root.result c.len.result c.in_ok-push.ensures.items put (c.len-root.ensures ∙ c.args.cells.now.ok.0) (c.len.ensures ∙ c.subtrees.new.cells.ok.0),
      read_node c.in_ok-label.ensures.names found,
    )

pub subtrees-returns-then-not-pass-clause-read : goal.subtrees-returns-then-not-pass-clause-read
subtrees-returns-then-not-pass-clause-read t c = (no_tree, sym (append-nil c.args.cells.now.items), read_no_subtrees c.args.names.now (c.if-not-pass.ensures.no refl))

pub subtrees-returns-then-pass-clause-read : goal.subtrees-returns-then-pass-clause-read
subtrees-returns-then-pass-clause-read t c =
    (no_tree, sym (append-nil c.args.cells.now.items), read_nothing_inside c.args.names.now (c.if-not-pass.ensures.yes refl) (c.if-pass.ensures.yes refl))

pub subtrees-returns-in_err-plains-clause-ends : goal.subtrees-returns-in_err-plains-clause-ends
subtrees-returns-in_err-plains-clause-ends t c =
    hands_on c.from_residual.result (Ends in_parentheses c.args.reader.now) c.from_residual.ensures.1 (ends_in_plains (c.if-not-pass.ensures.yes refl) (c.if-pass.ensures.no refl) c.in_err-plains.ensures.ends)

pub subtrees-returns-in_err-expect-clause-ends : goal.subtrees-returns-in_err-expect-clause-ends
subtrees-returns-in_err-expect-clause-ends t c =
    let (kids, put, found) = c.in_ok-plains.ensures.read in
    hands_on c.from_residual-in_err-expect.result (Ends in_parentheses c.args.reader.now) c.from_residual-in_err-expect.ensures.1
    (ends_unclosed (c.if-not-pass.ensures.yes refl) (c.if-pass.ensures.no refl) found c.in_err-expect.ensures.ends)

pub subtrees-returns-clause-read : goal.subtrees-returns-clause-read
subtrees-returns-clause-read t c =
    let (kids, put, found) = c.in_ok-plains.ensures.read in
    (kids, put, read_plains_inside (c.if-not-pass.ensures.yes refl) (c.if-pass.ensures.no refl) found c.in_ok-expect.ensures.ok)

pub plains-returns-in_err-plain-clause-ends : goal.plains-returns-in_err-plain-clause-ends
plains-returns-in_err-plain-clause-ends t c = hands_on c.from_residual.result (Ends (plains_with comma) c.args.reader.now) c.from_residual.ensures.1 (first_ends c.in_err-plain.ensures.ends)

pub plains-loop-reader-init : goal.plains-loop-reader-init
plains-loop-reader-init t c =
    let (tree, put, found) = c.in_ok-plain.ensures.read in
    (first_tree tree.root tree.subtrees no_tree, first_cells c.args.cells.now.items c.plain.new.cells.items tree put, first_read plains_first found)

pub plains-returns-in_err-plain-2-clause-ends : goal.plains-returns-in_err-plain-2-clause-ends
plains-returns-in_err-plain-2-clause-ends t c =
    let (so_far, put, all) = c.loop-reader.invariant in
    hands_on c.from_residual-in_err-plain-2.result (Ends (plains_with comma) c.args.reader.now) c.from_residual-in_err-plain-2.ensures.1
    (next_ends all (c.loop-reader-test.ensures.yes refl) c.in_err-plain-2.ensures.ends)

pub plains-loop-reader-preserved : goal.plains-loop-reader-preserved
plains-loop-reader-preserved t c =
    let (so_far, before, all) = c.loop-reader.invariant in
    let (tree, put, found) = c.in_ok-plain-2.ensures.read in (
      join so_far (first_tree tree.root tree.subtrees no_tree),
      more_cells c.args.cells.now.items c.loop-reader.cells.items c.plain-in-loop-reader.new.cells.items so_far tree before put,
      next_read (plains_next so_far) all (then_read (token_read c.loop-reader.names refl (c.loop-reader-test.ensures.yes refl)) found),
    )

pub plains-returns-clause-read : goal.plains-returns-clause-read
plains-returns-clause-read t c =
    let (so_far, put, all) = c.loop-reader.invariant in
    (so_far, put, no_more_read plains_last all (c.loop-reader-test.ensures.no refl))
