use Rattle.std.proofs.Common.{◌∷◌, ◌++◌, [], ap, ◌∙◌}
use Rattle.qs_tree.specs.Trees.{node}
use Rattle.qs_pattern.specs.Patterns.{patterns}
use Rattle.qs_pattern.specs.Instances.{inst, label_of}
use Rattle.qs_pattern.proofs.InstanceLemmas.{inst-Node}
use Rattle.qs_pattern.proofs.instances.one_instance.Goals as goal

pub into_tree-requires : goal.into_tree-requires
into_tree-requires c =
    let s = c.args.subst.now in (
      node (label_of s c.in-Node.head) (inst s (patterns c.in-Node.kids.items)),
      c.in_ok-append-in-Node.ensures ∙ ap (λ ts. ts ++ inst s (patterns (c.args.pattern.now ∷ []))) c.in_ok-out-in-Node.ensures ∙ inst-Node s c.in-Node.head c.in-Node.kids _ c.in-Node.is,
    )
