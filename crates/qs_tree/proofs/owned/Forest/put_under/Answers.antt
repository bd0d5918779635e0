use Rattle.std.proofs.Common.{◌+◌, ◌-◌, ◌∙◌, arith}
use Rattle.qs_tree.proofs.Under.{within, under}
use Rattle.qs_tree.proofs.owned.Forest.put_under.Goals as goal

pub overflow_sub-extent : goal.overflow_sub-extent
overflow_sub-extent c =
    omega (
      arith,
      c.requires.3,
      within _ c.self.invariant c.requires.0 c.requires.1 (c.self.view_is ∙ c.requires.2),
      c.len.ensures,
    )

pub insert-requires : goal.insert-requires
insert-requires c =
    omega (
      arith,
      c.requires.3,
      within _ c.self.invariant c.requires.0 c.requires.1 (c.self.view_is ∙ c.requires.2),
      c.len.ensures,
    )

pub invariant_of-self-2 : goal.invariant_of-self-2
invariant_of-self-2 c =
    (under _ c.self.invariant c.requires.0 c.requires.1 (c.self.view_is ∙ c.requires.2) c.args.label c.args.nodes
    (c.len.result - c.args.nodes + 1) _ c.requires.3 (omega (arith, c.len.ensures)) c.in_ok-insert.ensures.items).cells

pub returns-clause-ok : goal.returns-clause-ok
returns-clause-ok c first last are long =
    (under _ c.self.invariant first last (c.self.view_is ∙ are) c.args.label c.args.nodes (c.len.result - c.args.nodes + 1)
    _ long (omega (arith, c.len.ensures)) c.in_ok-insert.ensures.items).list
