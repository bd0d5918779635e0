use Rattle.std.proofs.Common.{refl}
use Rattle.std.proofs.lemmas.Result.{on_ok_weaker}
use Rattle.qs_join.proofs.Below.{adds_narrow, adds_broad}
use Rattle.qs_join.proofs.heads.Heads.add_below.Goals as goal

pub returns-in-Some-clause-below : goal.returns-in-Some-clause-below
returns-in-Some-clause-below c =
    on_ok_weaker c.add.result (λ longer. adds_narrow c.args.root c.in-Some.first c.args.first c.args.place c.key.result _ _ c.in-Some.is c.key.ensures longer refl) c.add.ensures

pub returns-in-None-clause-below : goal.returns-in-None-clause-below
returns-in-None-clause-below c =
    on_ok_weaker c.add-in-None.result (λ longer. adds_broad c.args.root c.args.first c.args.place _ _ c.in-None.is longer refl) c.add-in-None.ensures
