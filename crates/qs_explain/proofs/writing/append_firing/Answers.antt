use Rattle.std.proofs.Common.{◌-◌, ◌++◌, ◌∙◌, ap}
use Rattle.std.specs.Prelude.{codes, decimal}
use Rattle.qs_tree.proofs.Kept.{kept-further, on_err}
use Rattle.qs_firing.specs.Adding.{from_on}
use Rattle.qs_canon.specs.Rounds.{Done}
use Rattle.qs_explain.specs.Texts.{numbers_text}
use Rattle.qs_explain.proofs.Written.{kept_use, firing_done}
use Rattle.qs_explain.proofs.writing.append_firing.Goals as goal

pub returns-in_err-append_range-clause-err : goal.returns-in_err-append_range-clause-err
returns-in_err-append_range-clause-err c =
    on_err _ (kept-further c.args.out.now.items c.extend_from_slice.new.self.items _
    (kept_use c.args.out.now.items _ c.append_use.new.out.items c.extend_from_slice.new.self.items c.in_ok-append_use.ensures.ok c.in_ok-extend_from_slice.ensures.items)
    c.in_err-append_range.ensures.err)

pub returns-clause-ok : goal.returns-clause-ok
returns-clause-ok c =
    let used = ap (λ (d : Done). codes "# rule " ++ (decimal d.firing.rule ++ (codes " on " ++ numbers_text d.firing.path))) c.placed.view_is in
    let first = ap (λ (d : Done). d.first) c.placed.view_is in
    firing_done c.args.out.now.items (decimal c.args.placed.now.firing.rule) (numbers_text c.args.placed.now.firing.path) (numbers_text (from_on c.args.placed.now.first (c.args.behind - c.args.placed.now.first)))
    c.append_use.new.out.items c.extend_from_slice.new.self.items c.append_range.new.out.items c.extend_from_slice-2.new.self.items
    (c.in_ok-append_use.ensures.ok ∙ ap (λ t. c.args.out.now.items ++ t) used) c.in_ok-extend_from_slice.ensures.items
    (c.in_ok-append_range.ensures.ok ∙ ap (λ n. c.extend_from_slice.new.self.items ++ numbers_text (from_on n (c.args.behind - n))) first) c.in_ok-extend_from_slice-2.ensures.items
