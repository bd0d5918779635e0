use Rattle.std.proofs.Common.{sym, arith}
use Rattle.std.proofs.lemmas.List.{length-take-le}
use Rattle.std.proofs.lemmas.Result.{MatchResult-at_ok}
use Rattle.qs_lex.specs.declared.refusal.Cause.TheVariants.{NotUtf8}
use Rattle.qs_deck.proofs.Borders.{tells_front, read_ok}
use Rattle.qs_deck.proofs.decks.not_utf8.Goals as goal

pub slice_bounds-from_utf8-end : goal.slice_bounds-from_utf8-end
slice_bounds-from_utf8-end c = sym (length-take-le c.args.valid c.args.bytes.now (omega (arith, c.requires.valid.short)))

pub unwrap-text-requires : goal.unwrap-text-requires
unwrap-text-requires c = read_ok _ _ c.from_utf8.result c.from_utf8.ensures.cases (λ e bad. bad.0 c.requires.valid.front)

pub returns : goal.returns
returns c =
    tells_front c.args.bytes.now c.unwrap-text.result.now c.args.valid NotUtf8 c.at.result (MatchResult-at_ok _ _ c.unwrap-text.result c.unwrap-text.ensures c.from_utf8.ensures.cases).0 c.at.ensures
