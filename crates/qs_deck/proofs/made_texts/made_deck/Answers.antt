use Rattle.qs_deck.proofs.MadeLemmas.{made_text_is}
use Rattle.qs_deck.proofs.made_texts.made_deck.Goals as goal

pub returns : goal.returns
returns c =
    made_text_is c.args.size c.new-text.result.items c.extend_from_slice.new.self.items c.append_levels.new.out.items c.extend_from_slice-2.new.self.items c.append_words.new.out.items
    c.extend_from_slice-3.new.self.items c.new-text.ensures.items c.in_ok-extend_from_slice.ensures.items c.in_ok-append_levels.ensures c.in_ok-extend_from_slice-2.ensures.items
    c.in_ok-append_words.ensures c.in_ok-extend_from_slice-3.ensures.items
