-- How a check and the making of a graph answer, told as faults, and that a fault is the first of a text.
use Rattle.std.specs.Prelude.{ℕ, List, IsCharBoundary}
use Rattle.qs_lex.specs.declared.refusal.Cause.TheVariants.{TooManyArcs, Cycle, Entries, Exits}
use Rattle.qs_check.specs.declared.checking.CheckEnd.{CheckEnd}
use Rattle.qs_check.specs.declared.checking.CheckEnd.TheVariants as check_end
use Rattle.qs_graphtext.specs.declared.chain_end.ChainEnd.{ChainEnd}
use Rattle.qs_graphtext.specs.declared.chain_end.ChainEnd.TheVariants as chain_end
use Rattle.qs_deck.specs.declared.fault.FaultEnd.{FaultEnd}
use Rattle.qs_deck.specs.declared.fault.FaultEnd.TheVariants.{Fault, Memory}
use Rattle.qs_deck.specs.Refusals.{IsFault}
use Rattle.qs_deck.specs.GrammarLists.{IsListFault, IsGrammarsFault}
use Rattle.qs_deck.specs.PhraseTexts.{IsPhraseFault}

abbrev pub end_of_check : CheckEnd → FaultEnd
end_of_check (check_end.Refused cause at) = Fault at cause
end_of_check check_end.Memory = Memory

abbrev pub end_of_chains : ℕ → ChainEnd → FaultEnd
end_of_chains graph_at (chain_end.TooManyArcs at) = Fault at TooManyArcs
end_of_chains graph_at chain_end.Cycle = Fault graph_at Cycle
end_of_chains graph_at chain_end.Entries = Fault graph_at Entries
end_of_chains graph_at chain_end.Exits = Fault graph_at Exits
end_of_chains graph_at chain_end.Memory = Memory

-- why a text means no deck: this is its first fault, and its place is between characters; or there was no memory
abbrev pub IsEndOf : List ℕ → FaultEnd → Type 0
IsEndOf text (Fault byte cause) = IsFault text byte cause × IsCharBoundary text byte
IsEndOf text Memory = Unit {0}

-- the same for a text that means no list of grammars
abbrev pub IsEndOfGrammars : List ℕ → FaultEnd → Type 0
IsEndOfGrammars text (Fault byte cause) = IsGrammarsFault text byte cause × IsCharBoundary text byte
IsEndOfGrammars text Memory = Unit {0}

-- the same for a text in UTF-8 that is no written list of grammars, and for one that means no phrase text
abbrev pub IsEndOfList : List ℕ → FaultEnd → Type 0
IsEndOfList text (Fault byte cause) = IsListFault text byte cause × IsCharBoundary text byte
IsEndOfList text Memory = Unit {0}

abbrev pub IsEndOfPhrases : List ℕ → FaultEnd → Type 0
IsEndOfPhrases text (Fault byte cause) = IsPhraseFault text byte cause × IsCharBoundary text byte
IsEndOfPhrases text Memory = Unit {0}

-- the fault's place is between characters
abbrev pub IsBetween : List ℕ → FaultEnd → Type 0
IsBetween text (Fault byte cause) = IsCharBoundary text byte
IsBetween text Memory = Unit {0}
