use Rattle.std.proofs.Common.{◌≡◌, ◌-◌, ◌∙◌, ap, sym, subst, length, take, arith}
use Rattle.std.proofs.lemmas.List.{length-take}
use Rattle.qs_core.specs.Machines.{StatusTable}
use Rattle.qs_core.specs.working.Tables.{IsTable}
use Rattle.qs_core.proofs.Tables.{with_less, waiting_left}
use Rattle.qs_core.proofs.statuses.Statuses.remove.Goals as goal

pub overflow_sub-self : goal.overflow_sub-self
overflow_sub-self c =
    let (kept, is) = c.requires in
    waiting_left c.self.invariant c.args.arcs kept (ap (λ (x : StatusTable). x.list) c.self.view_is ∙ is)

pub invariant_of-self : goal.invariant_of-self
invariant_of-self c =
    let (kept, is) = c.requires in
    let s = c.self.inside in
    let long : c.len.result ≡ length s.list.items = omega (arith, c.len.ensures, s.list.ok.0) in
    let items : c.truncate.new.self.items ≡ take (length s.list.items - c.args.arcs) s.list.items = c.truncate.ensures.items ∙ ap (λ n. take (n - c.args.arcs) s.list.items) long in
    subst (λ xs. IsTable xs s.claims.items c.min-self-inside.result (s.left - c.args.arcs)) (sym items)
    (with_less c.self.invariant c.args.arcs c.min-self-inside.result kept (ap (λ (x : StatusTable). x.list) c.self.view_is ∙ is)
    (omega (arith, c.min-self-inside.ensures))
    (omega (arith, c.min-self-inside.ensures, c.len-2.ensures, c.truncate.new.self.ok.0, ap length items, length-take (length s.list.items - c.args.arcs) s.list.items)))
