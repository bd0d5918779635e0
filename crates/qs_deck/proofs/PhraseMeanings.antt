-- What a phrase text means, and how it is refused.
use Rattle.std.proofs.Common.{◌≡◌, ℕ, ◌≤◌, refl, sym, ◌∙◌, ap, subst, Option, Some, None, List, [], length, map, arith}
use Rattle.std.specs.Prelude.{IsCharBoundary, Result, Ok, Err, IfErr, ◌+◌, ◌==◌, count_by, chars, not}
use Rattle.std.specs.List.{suffix_len}
use Rattle.std.specs.Str.{IsUtf8}
use Rattle.std.proofs.lemmas.Str.{IsCharBoundary-end}
use Rattle.qs_lex.specs.Characters.{line_feed}
use Rattle.qs_lex.specs.declared.refusal.Cause.{Cause}
use Rattle.qs_lex.specs.declared.refusal.Cause.TheVariants.{Syntax, TooManyArcs}
use Rattle.qs_lex.specs.declared.refusal.Refusal.{Refusal}
use Rattle.qs_lex.specs.declared.refusal.LexEnd.{LexEnd}
use Rattle.qs_lex.specs.declared.refusal.LexEnd.TheVariants as lex_end
use Rattle.qs_lex.specs.Refusals.{Tells, IsRefusedFor}
use Rattle.qs_lex.specs.Refusals as lexing
use Rattle.qs_lex.proofs.Refusing.{refused}
use Rattle.qs_check.specs.declared.checking.CheckEnd.{CheckEnd}
use Rattle.qs_check.specs.declared.checking.CheckEnd.TheVariants as check_end
use Rattle.qs_deck.specs.Limits.{most_systems}
use Rattle.qs_deck.specs.WrittenDecks.{WrittenSystem, rules_of}
use Rattle.qs_deck.specs.declared.deck.DeckEnd.{DeckEnd}
use Rattle.qs_deck.specs.declared.deck.DeckEnd.TheVariants as deck_end
use Rattle.qs_deck.specs.declared.fault.FaultEnd.{FaultEnd}
use Rattle.qs_deck.specs.declared.fault.FaultEnd.TheVariants.{Fault, Memory}
use Rattle.qs_deck.specs.Answers.{end_of_tokens}
use Rattle.qs_deck.specs.declared.system.System.{System}
use Rattle.qs_deck.specs.Decks.{Grammar, grammar_of, meaning_of}
use Rattle.qs_deck.specs.GrammarLists.{AreWritten, AreGrammarsOf, IsListFault, tokens}
use Rattle.qs_deck.specs.PhraseTexts.{border_of, grammar_part, lines_behind, IsPhraseFault, unwritten, no_border, check, too_many_words, EndsForPhrases}
use Rattle.qs_deck.specs.working.Answers.{end_of_check, IsEndOfList, IsEndOfPhrases}
use Rattle.qs_deck.specs.working.Checked.{AreAccepted, IsFirstFault}
use Rattle.qs_deck.specs.working.Phrases.{IsEndOfLines}
use Rattle.qs_deck.proofs.Meanings.{check_fault, check_border}
use Rattle.qs_deck.proofs.BorderLines.{part_front, part_border}

-- a text that has no refusal is read, but for want of memory
pub only_memory_of_phrases : {T : Type 0} (text : List ℕ) (r : Result T DeckEnd) → IfErr r (EndsForPhrases text) → ((x : Refusal) → IsRefusedFor IsPhraseFault text x → ⊥) → IfErr r (λ end. end ≡ deck_end.Memory)
only_memory_of_phrases text (Ok d) h none = tt
only_memory_of_phrases text (Err (deck_end.Refused x)) h none = absurd (none x h)
only_memory_of_phrases text (Err deck_end.Memory) h none = refl

-- a place of the grammar part has the line and the column that it has in the text
tells_whole : (text : List ℕ) (at : ℕ) (cause : Cause) (r : Refusal) → at ≤ length (grammar_part text) → Tells (grammar_part text) at cause r → Tells text at cause r
tells_whole text at cause r within tells =
    let same = (part_front text at within).0 in
    record {
      line = tells.line ∙ ap (λ before. 1 + count_by (λ c. c == line_feed) (chars before)) same;
      column = tells.column ∙ ap (λ before. 1 + suffix_len (λ c. not (c == line_feed)) (chars before)) same;
      cause_is = tells.cause_is;
    }

pub tokens_end_of_phrases : (text part : List ℕ) → IsUtf8 text → part ≡ grammar_part text → (end : LexEnd) → lexing.EndsFor part end → EndsForPhrases text (end_of_tokens end)
tokens_end_of_phrases text part utf8 e (lex_end.Refused r) is =
    let there : lexing.EndsFor (grammar_part text) (lex_end.Refused r) = subst (λ bs. lexing.EndsFor bs (lex_end.Refused r)) e is in
    let within = there.fault.faulty.within in
    refused (unwritten utf8 (tokens there.fault)) (tells_whole text there.byte there.cause r (omega (arith, within)) there.tells)
tokens_end_of_phrases text part utf8 e lex_end.Memory is = tt

pub list_end_of_phrases : (text part : List ℕ) → IsUtf8 text → part ≡ grammar_part text → (end : FaultEnd) → IsEndOfList part end → IsEndOfPhrases text end
list_end_of_phrases text part utf8 e (Fault byte cause) is =
    (unwritten utf8 (subst (λ bs. IsListFault bs byte cause) e is.0), part_border text byte (subst (λ bs. IsCharBoundary bs byte) e is.1))
list_end_of_phrases text part utf8 e Memory is = tt

module _ (text part : List ℕ) (version : ℕ) (names : List (List ℕ)) (systems : List WrittenSystem) (utf8 : IsUtf8 text) (e : part ≡ grammar_part text) (w : AreWritten part version names systems) where
  pub written_part : AreWritten (grammar_part text) version names systems
  written_part = subst (λ bs. AreWritten bs version names systems) e w

  -- the border line is wanting
  pub no_border_end : (border : Option ℕ) → border ≡ border_of text → ((at : ℕ) → border ≡ Some at → ⊥) → IsPhraseFault text (length text) Syntax × IsCharBoundary text (length text)
  no_border_end None is never = (no_border version names systems utf8 written_part (sym is), IsCharBoundary-end text)
  no_border_end (Some at) is never = absurd (never at refl)

  -- the grammars
  pub grammars_of_part : (read : List System) → length systems ≤ most_systems → AreAccepted (rules_of systems) → map grammar_of read ≡ map meaning_of systems → AreGrammarsOf (grammar_part text) version names (map grammar_of read)
  grammars_of_part read few accepted are = record { written = systems; are_written = written_part; checked = record { few = few; accepted = accepted }; grammars_are = are }

  -- the checks
  pub check_end_of_phrases : (border : ℕ) → border_of text ≡ Some border → (end : CheckEnd) → IsFirstFault systems end → IsEndOfPhrases text (end_of_check end)
  check_end_of_phrases border is (check_end.Refused cause at) f = (
    check border version names systems utf8 is written_part (check_fault part names w.tokens w.front w.body [] systems w.has_tokens w.are w.reads cause at f),
    part_border text at (subst (λ bs. IsCharBoundary bs at) e (check_border part names w.tokens w.front w.body [] systems w.has_tokens w.are w.reads cause at f)),
  )
  check_end_of_phrases border is check_end.Memory f = tt

-- the lines
pub lines_end_of_phrases : (text : List ℕ) (border version : ℕ) (names : List (List ℕ)) (grammars : List Grammar) → IsUtf8 text → border_of text ≡ Some border → AreGrammarsOf (grammar_part text) version names grammars
    → (end : FaultEnd) → IsEndOfLines text (lines_behind text border) end → IsEndOfPhrases text end
lines_end_of_phrases text border version names grammars utf8 is of (Fault byte cause) h = (
  subst (IsPhraseFault text byte) (sym h.1)
      (subst (λ b. IsPhraseFault text b TooManyArcs) (sym h.0.byte_is) (too_many_words border version names grammars h.0.front h.0.more h.0.line h.0.word utf8 is of h.0.are h.0.short h.0.word_is)),
  h.0.border,
)
lines_end_of_phrases text border version names grammars utf8 is of Memory h = tt
