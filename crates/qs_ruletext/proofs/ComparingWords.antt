-- The words by which two lists are compared, as tokens.
use Rattle.std.proofs.Common.{◌≡◌, Bool, false, List, ◌∷◌, refl, sym, ap, ◌∙◌}
use Rattle.qs_lex.specs.declared.token.Token.{Token}
use Rattle.qs_lex.specs.declared.token.Word.{Word}
use Rattle.qs_lex.specs.declared.token.Word.TheVariants.{Dans, Hors, Egal}
use Rattle.qs_lex.specs.Grammar.{Sort, the_word, IsOf, IsWhole, whole_token, whole_this, whole_other}
use Rattle.qs_pattern.specs.Conditions.{Comparing, within, outside, same}
use Rattle.qs_ruletext.specs.Grammar.{line}
use Rattle.qs_ruletext.specs.Reading.{comparing_word}
use Rattle.qs_ruletext.specs.working.Readers.{a_comparing_word}

-- no such token passes a test that none of the words passes
pub none_compares : (p : Sort → Bool) → p (the_word Dans) ≡ false → p (the_word Hors) ≡ false → p (the_word Egal) ≡ false → (w : Comparing) → p (the_word (comparing_word w)) ≡ false
none_compares p dans hors egal within = dans
none_compares p dans hors egal outside = hors
none_compares p dans hors egal same = egal

-- each is one of the words that may stand there
pub comparing_whole : (w : Comparing) {t : Token} {rest : List Token} → IsOf (the_word (comparing_word w)) t → IsWhole line a_comparing_word (t ∷ rest) rest
comparing_whole within e = whole_this (whole_token e)
comparing_whole outside e = whole_other (whole_this (whole_token e))
comparing_whole same e = whole_other (whole_other (whole_token e))

-- and tells by which word the lists are compared
abbrev comparing_at : Word → Comparing
comparing_at Hors = outside
comparing_at Egal = same
comparing_at _ = within

comparing_at-is : (w : Comparing) → comparing_at (comparing_word w) ≡ w
comparing_at-is within = refl
comparing_at-is outside = refl
comparing_at-is same = refl

pub one_comparing : (v w : Comparing) (t : Token) → IsOf (the_word (comparing_word v)) t → IsOf (the_word (comparing_word w)) t → v ≡ w
one_comparing v w t e f =
    let sorts : the_word (comparing_word v) ≡ the_word (comparing_word w) = sym e ∙ f in
    let word : comparing_word v ≡ comparing_word w = cc in
    sym (comparing_at-is v) ∙ ap comparing_at word ∙ comparing_at-is w
