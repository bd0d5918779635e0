use Rattle.std.proofs.Common.{decimal}
use Rattle.qs_graphtext.specs.Texts.{arc_line}
use Rattle.qs_explain.proofs.Written.{arc_done}
use Rattle.qs_explain.proofs.writing.append_arc.Goals as goal

pub returns-clause-ok : goal.returns-clause-ok
returns-clause-ok c =
    arc_done c.args.out.now.items (decimal c.args.number) (arc_line c.args.names.now c.args.edge.now) c.extend_from_slice.new.self.items c.append_number.new.out.items c.extend_from_slice-2.new.self.items
    c.write_arc.new.out.items c.in_ok-extend_from_slice.ensures.items c.in_ok-append_number.ensures.ok c.in_ok-extend_from_slice-2.ensures.items c.in_ok-write_arc.ensures.ok
