use Rattle.qs_phrase.proofs.Ways.{arc_at, on_a_reading}
use Rattle.qs_phrase.proofs.laws.each_arc_is_read.Goals as goal

pub returns : goal.returns
returns c = λ G valid k low. let (arc, is) = arc_at G.arcs k low in on_a_reading G valid k arc is
