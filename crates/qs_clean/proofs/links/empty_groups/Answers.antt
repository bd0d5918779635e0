use Rattle.std.proofs.Common.{◌+◌, ◌++◌, ◌∷◌, [], map, ap, sym, subst, ◌∙◌, length}
use Rattle.std.proofs.lemmas.List.{map_push, length_push}
use Rattle.qs_clean.specs.working.Links.{AreGroups}
use Rattle.qs_clean.proofs.LinkSteps.{items_of}
use Rattle.qs_clean.proofs.Grouping.{empty_group, no_groups}
use Rattle.qs_clean.proofs.links.empty_groups.Goals as goal

pub loop-node-init : goal.loop-node-init
loop-node-init c =
    let e = c.in_ok-groups.ensures.items in
    (subst (λ groups. AreGroups [] (map items_of groups)) (sym e) no_groups, ap length e)

pub loop-node-preserved : goal.loop-node-preserved
loop-node-preserved c =
    let p = c.in_ok-push.ensures.items in (
      empty_group (map items_of c.loop-node.groups.items) (map items_of c.push.new.self.items)
          (ap (map items_of) p ∙ map_push items_of c.loop-node.groups.items c.new.result ∙ ap (λ xs. map items_of c.loop-node.groups.items ++ xs ∷ []) c.new.ensures.items) c.loop-node.invariant.0,
      ap length p ∙ length_push c.loop-node.groups.items c.new.result ∙ ap (λ n. n + 1) c.loop-node.invariant.1,
    )
