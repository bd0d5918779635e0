use Rattle.std.proofs.Common.{◌≡◌, ◌++◌, map, take}
use Rattle.std.specs.Prelude.{flat_map}
use Rattle.qs_telling.specs.PhraseTexts.{reading_line}
use Rattle.qs_telling.proofs.reading_lines.append_paths.Given as goal

abbrev pub invariant-loop-path : goal.invariant-loop-path
invariant-loop-path l = l.out.items ≡ l.initial.out.items ++ flat_map (reading_line l.names l.arcs) (map (λ p. p.items) (take l.path-index l.paths))
