use Rattle.std.proofs.Common.{subst}
use Rattle.std.proofs.Math.Seq.{take-length}
use Rattle.qs_tree.specs.Lists.{◌∈◌}
use Rattle.qs_tree.proofs.Kept.{kept-append}
use Rattle.qs_deck.proofs.Errors.{on_err_further}
use Rattle.qs_deck.proofs.writing.append_system.Goals as goal

pub append_rules-requires : goal.append_rules-requires
append_rules-requires c = λ rule i. c.requires.rules rule (subst (λ rules. rule ∈ rules) c.deref.ensures.value i)

pub returns-clause-err : goal.returns-clause-err
returns-clause-err c =
    on_err_further c.args.out.now.items c.extend_from_slice-2.new.self.items c.append_rules.new.out.items c.append_rules.result
    (kept-append c.args.out.now.items c.append_mark.new.out.items c.extend_from_slice-2.new.self.items _
    (kept-append c.args.out.now.items c.write_label.new.out.items c.append_mark.new.out.items _
    (kept-append c.args.out.now.items c.extend_from_slice.new.self.items c.write_label.new.out.items _
    (kept-append c.args.out.now.items c.args.out.now.items c.extend_from_slice.new.self.items _ (take-length c.args.out.now.items) c.in_ok-extend_from_slice.ensures.items)
    c.in_ok-write_label.ensures.ok)
    c.in_ok-append_mark.ensures.ok)
    c.in_ok-extend_from_slice-2.ensures.items)
    c.append_rules.ensures.err
