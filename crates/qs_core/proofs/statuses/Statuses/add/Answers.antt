use Rattle.std.proofs.Common.{◌≡◌, ◌++◌, ◌∙◌, ap, length, replicate, arith}
use Rattle.qs_core.specs.declared.step.Status.TheVariants as status
use Rattle.qs_core.specs.Machines.{StatusTable}
use Rattle.qs_core.proofs.Tables.{with_more, undone_few}
use Rattle.qs_core.proofs.statuses.Statuses.add.Goals as goal

pub overflow_add-self : goal.overflow_add-self
overflow_add-self c =
    let list = ap (λ (x : StatusTable). length x.list) c.self.view_is in
    let waiting : c.in_ok-more.more.items ≡ replicate c.args.arcs status.Waiting = c.in_ok-more.ensures.items_if_clones_equal (λ y e. e) in
    let t = with_more c.self.invariant c.args.arcs c.append.new.self.items (c.in_ok-append.ensures.items ∙ ap (λ xs. c.self.inside.list.items ++ xs) waiting) (omega (arith, c.requires, list)) in
    omega (arith, t.few, t.left_is, undone_few c.append.new.self.items)

pub invariant_of-self-2 : goal.invariant_of-self-2
invariant_of-self-2 c =
    let list = ap (λ (x : StatusTable). length x.list) c.self.view_is in
    let waiting : c.in_ok-more.more.items ≡ replicate c.args.arcs status.Waiting = c.in_ok-more.ensures.items_if_clones_equal (λ y e. e) in
    with_more c.self.invariant c.args.arcs c.append.new.self.items (c.in_ok-append.ensures.items ∙ ap (λ xs. c.self.inside.list.items ++ xs) waiting) (omega (arith, c.requires, list))
