use Rattle.std.proofs.Common.{◌+◌, Ok, Err, arith, refl, sym, ap, ◌∙◌, drop}
use Rattle.qs_lex.specs.working.Scan.{scan}
use Rattle.qs_lex.specs.Tokens.{StandsIn}
use Rattle.qs_lex.proofs.Lexed.{none_stands, of_rest}
use Rattle.qs_lex.proofs.Standing.{stands, has_byte}
use Rattle.qs_lex.specs.declared.token.Token.{Token}
use Rattle.qs_lex.proofs.lexer.token_at.Goals as goal
use Rattle.qs_lex.proofs.lexer.token_at.Goals.{In-Ok}

-- the token that was found
abbrev found_token : (c : In-Ok) → Token
found_token c = record { kind = c.in-Ok.kind; from = c.args.at; to = c.args.at + c.in-Ok.len }

-- it stands there
found : (c : In-Ok) → StandsIn c.args.bytes.now (found_token c)
found c =
    stands c.args.bytes.now (found_token c) c.in-Ok.len (omega (arith, c.requires.inside))
    (ap (λ v. scan v (drop c.args.at c.args.bytes.now)) (sym c.requires.of_text)
    ∙ of_rest (scan c.args.version) c.args.bytes.now c.args.at c.scan.result (Ok (c.in-Ok.kind, c.in-Ok.len)) c.scan.ensures c.in-Ok.is) refl

pub overflow_add-result : goal.overflow_add-result
overflow_add-result c = let s = found c in omega (arith, s.within, c.requires.short)

pub overflow_cast-result-in-Ok : goal.overflow_cast-result-in-Ok
overflow_cast-result-in-Ok c = let s = found (goal.at.overflow_cast-result-in-Ok c).In-Ok in omega (arith, s.within, c.requires.short)

pub returns-in-Ok-clause-token : goal.returns-in-Ok-clause-token
returns-in-Ok-clause-token c = (refl, found (goal.at.returns-in-Ok-clause-token c).In-Ok)

pub returns-in-Ok-clause-some : goal.returns-in-Ok-clause-some
returns-in-Ok-clause-some c = has_byte (found (goal.at.returns-in-Ok-clause-some c).In-Ok)

pub returns-in-Ok-clause-within : goal.returns-in-Ok-clause-within
returns-in-Ok-clause-within c = (found (goal.at.returns-in-Ok-clause-within c).In-Ok).within

pub returns-in-Err-clause-fault : goal.returns-in-Err-clause-fault
returns-in-Err-clause-fault c =
    none_stands c.args.bytes.now c.args.at c.in-Err.cause c.requires.inside (ap (λ v. scan v (drop c.args.at c.args.bytes.now)) (sym c.requires.of_text)
    ∙ of_rest (scan c.args.version) c.args.bytes.now c.args.at c.scan.result (Err c.in-Err.cause) c.scan.ensures c.in-Err.is)
