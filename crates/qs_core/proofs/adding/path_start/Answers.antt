use Rattle.qs_core.proofs.Ends.{is_arc}
use Rattle.qs_core.proofs.adding.path_start.Goals as goal

pub edge-requires : goal.edge-requires
edge-requires c = let (a, b, p) = c.requires in is_arc c.args.arcs.now.arcs a c.args.path.now b p.leads 0 p.some
