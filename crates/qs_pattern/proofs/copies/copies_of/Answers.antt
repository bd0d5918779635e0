use Rattle.std.proofs.Common.{◌∙◌, ap, map}
use Rattle.std.proofs.lemmas.List.{take_all}
use Rattle.qs_pattern.specs.working.Patterns.{one_pattern}
use Rattle.qs_pattern.proofs.PatternLemmas.{patterns_from_map}
use Rattle.qs_pattern.proofs.copies.copies_of.Goals as goal

pub returns : goal.returns
returns c =
    patterns_from_map c.loop-pattern.copies.items c.args.list.now
    (c.loop-pattern.invariant ∙ ap (map one_pattern) (take_all c.loop-pattern.pattern-index c.args.list.now c.loop-pattern-test.false))
