use Rattle.std.proofs.Common.{subst, sym}
use Rattle.std.specs.Prelude.{OnOk}
use Rattle.qs_telling.specs.declared.phrasing.LineEnd.{LineEnd}
use Rattle.qs_telling.specs.working.Phrasing.{TellsEnd}
use Rattle.qs_telling.specs.Telling.{IsAppended}
use Rattle.qs_telling.proofs.phrasing.PhraseTeller.append_end.Goals as goal

pub returns-in-Left : goal.returns-in-Left
returns-in-Left c =
    subst (λ (e : LineEnd). OnOk c.append_readings.result (IsAppended (TellsEnd c.args.self.now.limit c.args.self.now.readings c.args.self.now.names.now e) c.args.out.now.items c.append_readings.new.out.items)) (sym c.in-Left.is)
    c.append_readings.ensures
