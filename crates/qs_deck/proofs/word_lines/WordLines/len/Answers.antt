use Rattle.std.proofs.Common.{◌≡◌, ap, length, arith}
use Rattle.qs_deck.specs.LinesOfWords.{parted}
use Rattle.qs_deck.proofs.PartedWords.{as_many_lines}
use Rattle.qs_deck.proofs.word_lines.WordLines.len.Goals as goal

pub returns : goal.returns
returns c =
    let v : parted 0 c.self.inside.words.items c.self.inside.ends.items ≡ c.args.self.now = c.self.view_is in
    omega (arith, c.len.ensures, c.self.inside.ends.ok.0, as_many_lines 0 c.self.inside.words.items c.self.inside.ends.items, ap length v)
