use Rattle.std.specs.Str.Parse.{ExplainsUnsignedError, HasUnsignedDigitsIfOk, ParsesUnsigned}
use Rattle.clap.specs.Matches.{found_of}
use Rattle.qs_command.proofs.ReadWords.{is_some_number, reads, unwrapped}
use Rattle.qs_command.proofs.words.number_in.Goals as goal

pub unwrap-requires : goal.unwrap-requires
unwrap-requires c =
    is_some_number _ _ _ _ _
    (reads _ (λ bs r. ParsesUnsigned 32 10 bs r × ExplainsUnsignedError 10 bs r × HasUnsignedDigitsIfOk bs r) (found_of c.args.matches.now) c.args.name.now
    c.requires.least c.requires.most c.get_one.result (λ t x g. g.0) c.requires.fits c.get_one.ensures.value c.requires.number)

pub returns-clause-number : goal.returns-clause-number
returns-clause-number c =
    (unwrapped _ c.unwrap.result _ _ _ _
    (reads _ (λ bs r. ParsesUnsigned 32 10 bs r × ExplainsUnsignedError 10 bs r × HasUnsignedDigitsIfOk bs r) (found_of c.args.matches.now) c.args.name.now
    c.requires.least c.requires.most c.get_one.result (λ t x g. g.0) c.requires.fits c.get_one.ensures.value c.requires.number)
    c.unwrap.ensures).is

pub returns-clause-range : goal.returns-clause-range
returns-clause-range c = λ least most fits has.
    let read = unwrapped _ c.unwrap.result _ _ _ _
    (reads _ (λ bs r. ParsesUnsigned 32 10 bs r × ExplainsUnsignedError 10 bs r × HasUnsignedDigitsIfOk bs r) (found_of c.args.matches.now) c.args.name.now
    least most c.get_one.result (λ t x g. g.0) fits c.get_one.ensures.value has)
    c.unwrap.ensures in
    (read.low, read.high)
