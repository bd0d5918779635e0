use Rattle.std.proofs.Common.{◌≡◌, ◌++◌, ◌∙◌, ap}
use Rattle.std.specs.Prelude.{decimal}
use Rattle.qs_tree.proofs.Kept.{kept-further, on_err}
use Rattle.qs_firing.specs.Firings.{Firing}
use Rattle.qs_explain.specs.Texts.{numbers_text}
use Rattle.qs_explain.proofs.Written.{kept_rule, use_done}
use Rattle.qs_explain.proofs.writing.append_use.Goals as goal

pub returns-in_err-append_numbers-clause-err : goal.returns-in_err-append_numbers-clause-err
returns-in_err-append_numbers-clause-err c =
    on_err _ (kept-further c.args.out.now.items c.extend_from_slice-2.new.self.items _
    (kept_rule c.args.out.now.items _ c.extend_from_slice.new.self.items c.append_number.new.out.items c.extend_from_slice-2.new.self.items
    c.in_ok-extend_from_slice.ensures.items c.in_ok-append_number.ensures.ok c.in_ok-extend_from_slice-2.ensures.items)
    c.in_err-append_numbers.ensures.err)

pub returns-clause-ok : goal.returns-clause-ok
returns-clause-ok c =
    let rule = ap (λ (f : Firing). decimal f.rule) c.firing.view_is in
    let path : c.deref.result.now ≡ c.args.firing.now.path = c.deref.ensures.value ∙ ap (λ (f : Firing). f.path) c.firing.view_is in
    use_done c.args.out.now.items (decimal c.args.firing.now.rule) (numbers_text c.args.firing.now.path)
    c.extend_from_slice.new.self.items c.append_number.new.out.items c.extend_from_slice-2.new.self.items c.append_numbers.new.out.items
    c.in_ok-extend_from_slice.ensures.items (c.in_ok-append_number.ensures.ok ∙ ap (λ t. c.extend_from_slice.new.self.items ++ t) rule) c.in_ok-extend_from_slice-2.ensures.items
    (c.in_ok-append_numbers.ensures.ok ∙ ap (λ ns. c.extend_from_slice-2.new.self.items ++ numbers_text ns) path)
