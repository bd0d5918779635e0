use Rattle.std.proofs.Common.{ap, ◌∙◌}
use Rattle.qs_pattern.specs.declared.pattern.Head.TheVariants as head
use Rattle.qs_pattern.specs.Patterns.{patterns, node_first}
use Rattle.qs_pattern.proofs.PatternLemmas.{pattern-Node}
use Rattle.qs_machine_tests.proofs.merging_tests.node.Goals as goal

pub returns : goal.returns
returns c = λ behind.
    pattern-Node (head.Label c.args.label) c.new.result behind
    ∙ ap (λ ps. node_first (head.Label c.args.label) (patterns ps) behind) c.new.ensures.items
