use Rattle.std.proofs.Common.{map}
use Rattle.std.specs.Prelude.{Result, Ok, Err, IfOk}
use Rattle.qs_deck.specs.declared.deck.Deck.{Deck}
use Rattle.qs_deck.specs.Decks.{grammar_of, IsDeckOf}
use Rattle.qs_deck.specs.Texts.{deck_text}
use Rattle.qs_deck.proofs.Meanings.{only_memory, never_ok}
use Rattle.qs_deck.proofs.decks.read_deck.Goals as goal

pub returns-clause-accepted : goal.returns-clause-accepted
returns-clause-accepted c = λ version names grammars graph is.
    only_memory c.args.bytes.now c.deck_of_bytes.result c.deck_of_bytes.ensures.end (λ refusal refused. c.one_answer.ensures.not_both c.args.bytes.now version names grammars graph refusal is refused)

pub returns-clause-faulty : goal.returns-clause-faulty
returns-clause-faulty c = λ refusal refused.
    never_ok (λ (deck : Deck). IsDeckOf c.args.bytes.now deck.version deck.names (map grammar_of deck.systems.items) deck.graph) c.deck_of_bytes.result c.deck_of_bytes.ensures.deck
    (λ deck is. c.one_answer.ensures.not_both c.args.bytes.now deck.version deck.names (map grammar_of deck.systems.items) deck.graph refusal is refused)

if_read : {T E : Type 0} (P Q : T → Type 0) → ((x : T) → P x → Q x) → (r : Result T E) → IfOk r P → IfOk r Q
if_read P Q f (Ok x) h = f x h
if_read P Q f (Err e) h = tt

pub returns-clause-read_back : goal.returns-clause-read_back
returns-clause-read_back c =
    if_read (λ (deck : Deck). IsDeckOf c.args.bytes.now deck.version deck.names (map grammar_of deck.systems.items) deck.graph)
    (λ (deck : Deck). IsDeckOf (deck_text deck.version deck.names (map grammar_of deck.systems.items) deck.graph) deck.version deck.names (map grammar_of deck.systems.items) deck.graph)
    (λ deck is. c.what_is_written_is_read.ensures c.args.bytes.now deck.version deck.names (map grammar_of deck.systems.items) deck.graph is)
    c.deck_of_bytes.result c.deck_of_bytes.ensures.deck
