use Rattle.std.proofs.Common.{◌<◌, ℕ, List, Vec, Global, length, subst, sym}
use Rattle.qs_tree.specs.Lists.{◌∈◌}
use Rattle.qs_tree.proofs.Members.{in_map, in_read}
use Rattle.qs_telling.proofs.reading_lines.append_paths.Goals as goal

pub append_reading-requires-clause-within : goal.append_reading-requires-clause-within
append_reading-requires-clause-within c =
    subst (λ (ks : List ℕ). (k : ℕ) → k ∈ ks → k < length c.args.arcs.now) (sym c.deref.ensures.value)
    (c.requires.within c.path-item.result.items (in_map (λ (p : Vec ℕ Global). p.items) c.args.paths.now c.path-item.result (in_read c.args.paths.now c.loop-path.path-index c.path-item.result c.loop-path-test.true c.path-item.is)))
