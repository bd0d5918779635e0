use Rattle.std.proofs.Common.{◌∙◌, ap, length, subst, sym}
use Rattle.qs_levels.specs.Certificates.{LevelCertificate}
use Rattle.qs_telling.specs.working.Named.{AreLabelsNamed, AreLevelsNamed}
use Rattle.qs_telling.proofs.levels.append_levels.Goals as goal

pub append_lines-requires : goal.append_lines-requires
append_lines-requires c =
    subst (AreLabelsNamed (length c.args.names.now)) (sym (c.deref.ensures.value ∙ ap (λ (l : LevelCertificate). l.of) c.levels.view_is))
    (subst (AreLevelsNamed (length c.args.names.now)) c.in-Some.is c.requires.labels)
