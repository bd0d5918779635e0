use Rattle.std.proofs.lemmas.Str.{encode_ascii}
use Rattle.qs_lex.proofs.Encodings.{high_byte, label_byte, space_byte, sign_byte}
use Rattle.qs_lex.proofs.laws.bytes_of_characters.Goals as goal

pub returns-clause-ascii : goal.returns-clause-ascii
returns-clause-ascii c = encode_ascii

pub returns-clause-other : goal.returns-clause-other
returns-clause-other c = high_byte

pub returns-clause-label : goal.returns-clause-label
returns-clause-label c = label_byte

pub returns-clause-space : goal.returns-clause-space
returns-clause-space c = space_byte

pub returns-clause-sign : goal.returns-clause-sign
returns-clause-sign c = sign_byte
