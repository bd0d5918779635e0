use Rattle.std.proofs.Common.{◌≡◌, ℕ, length, refl, sym, ap, subst, arith}
use Rattle.qs_lex.specs.Tokens.{blank_len, Reads}
use Rattle.qs_lex.specs.Refusals.{IsFirstFault}
use Rattle.qs_lex.proofs.Lexed.{start, step, fault, of_rest}
use Rattle.qs_lex.proofs.Readings.{not_both, spans_of}
use Rattle.qs_lex.proofs.Refusing.{refused}
use Rattle.qs_lex.proofs.lexer.tokens.Goals as goal
use Rattle.qs_lex.proofs.lexer.tokens.Goals.{In-Err}

pub loop-at-init : goal.loop-at-init
loop-at-init c = start _ _ _ _ c.utf8.text c.as_bytes-bytes.ensures.value c.new-tokens.ensures.items c.blank_len-at.ensures.value

pub loop-at-preserved : goal.loop-at-preserved
loop-at-preserved c =
    step c.args.text.now c.as_bytes-bytes.result.now c.loop-at.tokens.items c.push.new.self.items c.loop-at.at c.blank_len.result c.in-Ok.token c.utf8.text c.as_bytes-bytes.ensures.value
    c.in-Ok.ensures.token
    (sym (of_rest blank_len c.as_bytes-bytes.result.now c.in-Ok.token.to c.blank_len.result c.blank_len.result c.blank_len.ensures.value refl))
    c.in_ok-push-in-Ok.ensures.items c.loop-at.invariant

-- no token stands at the next place
first_fault : (c : In-Err) → IsFirstFault c.args.text.now c.loop-at.at c.in-Err.cause
first_fault c =
    fault c.args.text.now c.as_bytes-bytes.result.now c.loop-at.tokens.items c.loop-at.at c.in-Err.cause c.as_bytes-bytes.ensures.value c.loop-at.invariant c.in-Err.ensures.fault

pub returns-in-Err-clause-end : goal.returns-in-Err-clause-end
returns-in-Err-clause-end c = refused (first_fault (goal.at.returns-in-Err-clause-end c).In-Err) c.at-refusal.ensures

pub returns-in-Err-clause-faultless : goal.returns-in-Err-clause-faultless
returns-in-Err-clause-faultless c = λ ts are. absurd (not_both c.args.text.now ts are (first_fault (goal.at.returns-in-Err-clause-faultless c).In-Err))

pub returns-clause-spans : goal.returns-clause-spans
returns-clause-spans c = spans_of c.args.text.now c.loop-at.tokens.items c.loop-at.at c.utf8.text c.loop-at.invariant.reads

pub returns-clause-faulty : goal.returns-clause-faulty
returns-clause-faulty c = λ place cause f.
    let end : c.loop-at.at ≡ length c.args.text.now = omega (arith, c.loop-at.invariant.border.0, c.loop-at-test.false, ap length c.as_bytes-bytes.ensures.value) in
    let P : ℕ → Type 0 = Reads c.args.text.now 0 c.loop-at.tokens.items in
    absurd (not_both c.args.text.now c.loop-at.tokens.items (subst P end c.loop-at.invariant.reads) f)
