use Rattle.std.proofs.Common.{sym, ap, ◌∙◌}
use Rattle.qs_telling.specs.Outcomes.{blocks}
use Rattle.qs_telling.proofs.laws.one_outcome.Goals as goal

pub returns : goal.returns
returns c = λ limit names graph grammars t u e d o p.
    let same = c.one_cascade.ensures limit graph _ o.lefts p.lefts e d o.cascade p.cascade in
    (o.text_is ∙ ap (blocks limit names grammars) same.0 ∙ sym p.text_is, same.1)
