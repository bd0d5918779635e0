use Rattle.std.proofs.Common.{◌∙◌, arith, length-set}
use Rattle.qs_clean.specs.declared.links.Link.{Link}
use Rattle.qs_tree.proofs.Members.{in_get_or}
use Rattle.qs_clean.proofs.LinkSteps.{group_step}
use Rattle.qs_clean.proofs.links.grouped.Goals as goal

pub index_mut-requires : goal.index_mut-requires
index_mut-requires c =
    let d : Link = record { from = 0; to = 0 } in
    omega (arith, c.requires _ (in_get_or c.args.links.now c.loop-link.link-index (record { from = 0; to = 0 }) (omega arith)), c.loop-link.groups.ok.0)

pub loop-link-preserved : goal.loop-link-preserved
loop-link-preserved c =
    let within = c.requires _ (in_get_or c.args.links.now c.loop-link.link-index (record { from = 0; to = 0 }) (omega arith)) in (
      group_step c.args.links.now c.loop-link.link-index (record { from = 0; to = 0 }) c.loop-link.groups.items c.index_mut.result.now c.push.new.self
          (omega arith) (omega (arith, within)) c.index_mut.ensures.value c.in_ok-push.ensures.items c.loop-link.invariant.0,
      length-set c.loop-link.groups.items _ _ ∙ c.loop-link.invariant.1,
    )
