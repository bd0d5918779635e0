use Rattle.qs_reader.proofs.Naming.{adds_name}
use Rattle.qs_deck.proofs.lines.push_word.Goals as goal

pub returns : goal.returns
returns c = record {
  label = c.in_ok-label.label;
  adds = adds_name c.args.names.now c.intern.new.self c.args.word.now c.in_ok-label.label.0 c.in_ok-label.ensures.named c.in_ok-label.ensures.known c.in_ok-label.ensures.grows;
  named = c.in_ok-label.ensures.named;
  behind_is = c.in_ok-push.ensures.items;
}
