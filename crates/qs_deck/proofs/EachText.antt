-- Each text means a deck or has a first fault.
use Rattle.std.proofs.Common.{◌≡◌, ◌⊎◌, ℕ, ◌-◌, ◌<◌, Bool, true, false, refl, sym, ◌∙◌, ap, subst, inl, inr, ⊎_elim, List, [], ◌∷◌, length, map, arith, length-append}
use Rattle.std.specs.Str.{IsUtf8, is_utf8}
use Rattle.std.specs.Str.Lossy.{utf8_valid_len}
use Rattle.std.specs.List.{All}
use Rattle.std.proofs.lemmas.Bool.{cases_lt, false≢true}
use Rattle.std.proofs.lemmas.List.Elements.{All-nil, All-cons, All-head, All-tail}
use Rattle.std.proofs.lemmas.Str.{IsUtf8-from_is_utf8, is_utf8-from_IsUtf8}
use Rattle.qs_tree.proofs.Elements.{exists_at}
use Rattle.qs_lex.specs.declared.token.Token.{Token}
use Rattle.qs_lex.specs.declared.refusal.Cause.{Cause}
use Rattle.qs_lex.specs.declared.refusal.Cause.TheVariants.{NotUtf8, TooDeep, Syntax, TooManySystems, TooManyArcs, Cycle, Entries, Exits}
use Rattle.qs_lex.specs.declared.refusal.Refusal.{Refusal}
use Rattle.qs_lex.proofs.Refusing.{some_refusal}
use Rattle.qs_lex.specs.Tokens.{version_of, AreTokensOf, IsTokenOf}
use Rattle.qs_lex.specs.Grammar.{Form, part, IsWhole}
use Rattle.qs_lex.specs.working.Expecting.{Stops, IsPredictive}
use Rattle.qs_lex.proofs.Totality.{a_reading}
use Rattle.qs_lex.proofs.Deciding.{Below, whole_or_stops}
use Rattle.qs_lex.proofs.OpenParentheses.{first_too_deep}
use Rattle.qs_pattern.specs.Rules.{IsAcceptable}
use Rattle.qs_ruletext.specs.WrittenRules.{WrittenRule}
use Rattle.qs_check.specs.declared.checking.CheckEnd.TheVariants.{Refused}
use Rattle.qs_check.specs.Checking.{CanBeChecked}
use Rattle.qs_check.proofs.EachRule.{rule_accepted_or_refused}
use Rattle.qs_graph.specs.Graphs.{QGraph}
use Rattle.qs_graphtext.specs.GraphOfChains.{AreRefused, graph_of}
use Rattle.qs_graphtext.specs.declared.chain_end.ChainEnd.{ChainEnd}
use Rattle.qs_graphtext.specs.declared.chain_end.ChainEnd.TheVariants as chain_end
use Rattle.qs_graphtext.proofs.ChainDecisions.{chains_decided}
use Rattle.qs_deck.specs.Limits.{most_systems}
use Rattle.qs_deck.specs.WrittenDecks.{WrittenSystem, WrittenDeck, rules_of}
use Rattle.qs_deck.specs.Grammar.{deck, line}
use Rattle.qs_deck.specs.working.Syntax.{StopsBehind}
use Rattle.qs_deck.specs.Checks.{IsChecked, IsCheckFault, too_many_systems, rule_not_accepted}
use Rattle.qs_deck.specs.Decks.{Grammar, meaning_of, HasTokens, IsWritten, IsDeckOf}
use Rattle.qs_deck.specs.Refusals.{IsGraphFault, too_many_arcs, cycle, entries, exits, byte_of, IsFault, bytes, tokens, nesting, syntax, check, graph, IsRefusalOf}
use Rattle.qs_deck.proofs.Meanings as meaning
use Rattle.qs_ruletext.specs.Grammar as rules
use Rattle.qs_graphtext.specs.Grammar as graphs
use Rattle.qs_deck.specs.working.Readers.{table}
use Rattle.qs_deck.specs.Grammar.{Part, system, of_rules, of_graphs}
use Rattle.qs_deck.specs.working.Checked.{IsFirstOf}
use Rattle.qs_deck.proofs.Tables.{more, ok}
use Rattle.qs_deck.proofs.Places.{cannot_go_on}
use Rattle.qs_deck.proofs.Versions.{syntax_decided_by}
use Rattle.qs_deck.proofs.WritableDecks.{all_behind, tokens_are}
use Rattle.qs_deck.proofs.WholeRead.{whole_is_read}

-- ---- syntax

-- each part begins with a token, or with parts of lower ranks
abbrev rank : Part → ℕ
rank deck = 1
rank system = 0
rank (of_rules rules.rule) = 2
rank (of_rules rules.side) = 1
rank (of_rules rules.tree) = 0
rank (of_rules rules.list) = 2
rank (of_rules rules.item) = 1
rank (of_rules rules.cond) = 6
rank (of_rules rules.conj) = 5
rank (of_rules rules.neg) = 4
rank (of_rules rules.prim) = 3
rank (of_graphs p) = 0

low : (p : Part) → rank p < 7
low deck = omega arith
low system = omega arith
low (of_rules rules.rule) = omega arith
low (of_rules rules.side) = omega arith
low (of_rules rules.tree) = omega arith
low (of_rules rules.list) = omega arith
low (of_rules rules.item) = omega arith
low (of_rules rules.cond) = omega arith
low (of_rules rules.conj) = omega arith
low (of_rules rules.neg) = omega arith
low (of_rules rules.prim) = omega arith
low (of_graphs p) = omega arith

not_empty : {A : Type 0} → false ≡ true → A
not_empty e = absurd (false≢true e)

falls : (p : Part) → Below rank (rank p) (line p)
falls deck = ((omega arith, λ e. not_empty e), λ e. not_empty e)
falls system = (tt, λ e. not_empty e)
falls (of_rules rules.rule) = (omega arith, λ e. not_empty e)
falls (of_rules rules.side) = (omega arith, λ e. not_empty e)
falls (of_rules rules.tree) = (((tt, tt), λ e. not_empty e), tt)
falls (of_rules rules.list) = (omega arith, λ e. not_empty e)
falls (of_rules rules.item) = (omega arith, tt)
falls (of_rules rules.cond) = (omega arith, λ e. not_empty e)
falls (of_rules rules.conj) = (omega arith, λ e. not_empty e)
falls (of_rules rules.neg) = (tt, λ e. omega arith)
falls (of_rules rules.prim) = ((tt, λ e. not_empty e), (omega arith, λ e. not_empty e))
falls (of_graphs graphs.graph) = (tt, λ e. not_empty e)
falls (of_graphs graphs.chain) = (tt, λ e. not_empty e)
falls (of_graphs graphs.plain) = (tt, λ e. not_empty e)

pub decided_behind : (form : Form Part) → IsPredictive table more form → (ts : List Token) → IsWhole line form ts [] ⊎ ((at : ℕ) × StopsBehind form ts at)
decided_behind form good ts = ⊎_elim (λ w. inl w) (λ s. inr (length ts - s.0, stopped s.0 s.1)) (whole_or_stops table more ok rank 7 low falls form good ts)
  where
    stopped : (left : ℕ) → Stops line (form ∷ []) ts left → StopsBehind form ts (length ts - left)
    stopped left s =
        let back : left ≡ length ts - (length ts - left) = omega (arith, s.left_is, ap length s.are ∙ length-append s.passed s.rest) in
        cannot_go_on form ts (length ts - left) (omega arith) (subst (λ n. Stops line (form ∷ []) ts n) back s)

-- ---- checks

rules_decided : (raws : List WrittenRule) → All CanBeChecked raws → All (λ raw. IsAcceptable raw.rule) raws ⊎ ((cause : Cause) × (at : ℕ) × IsFirstOf raws (Refused cause at))
rules_decided [] can = inl (All-nil (λ raw. IsAcceptable raw.rule))
rules_decided (raw ∷ raws) can =
    ⊎_elim
    (λ good. ⊎_elim
    (λ others. inl (All-cons (λ r. IsAcceptable r.rule) raw raws good others))
    (λ f. inr (
      f.0,
      f.1,
      record {
        front = raw ∷ f.2.front;
        raw = f.2.raw;
        behind = f.2.behind;
        are = ap (λ rs. raw ∷ rs) f.2.are;
        accepted = All-cons (λ r. IsAcceptable r.rule) raw f.2.front good f.2.accepted;
        ends = f.2.ends;
      },
    ))
    (rules_decided raws (All-tail CanBeChecked raw raws can)))
    (λ c. inr (c.0, c.1, record { front = []; raw = raw; behind = raws; are = refl; accepted = All-nil (λ r. IsAcceptable r.rule); ends = c.2 }))
    (rule_accepted_or_refused raw (All-head CanBeChecked raw raws can))

pub checks_decided : (systems : List WrittenSystem) → All CanBeChecked (rules_of systems) → IsChecked systems ⊎ ((at : ℕ) × (cause : Cause) × IsCheckFault systems at cause)
checks_decided systems can =
    ⊎_elim
    (λ many. let s = exists_at systems most_systems many in inr (s.0.at, TooManySystems, too_many_systems s.0 s.1))
    (λ few. ⊎_elim
    (λ good. inl (record { few = few; accepted = good }))
    (λ f. inr (f.1, f.0, rule_not_accepted f.2.front f.2.behind f.2.raw few f.2.are f.2.accepted f.2.ends))
    (rules_decided (rules_of systems) can))
    (cases_lt most_systems (length systems))

-- ---- graphs

graph_refused : (d : WrittenDeck) (end : ChainEnd) → (end ≡ chain_end.Memory → ⊥) → AreRefused d.chains end → (at : ℕ) × (cause : Cause) × IsGraphFault d at cause
graph_refused d (chain_end.TooManyArcs at) n r = (at, TooManyArcs, too_many_arcs r)
graph_refused d chain_end.Cycle n r = (d.graph_at, Cycle, cycle r)
graph_refused d chain_end.Entries n r = (d.graph_at, Entries, entries r)
graph_refused d chain_end.Exits n r = (d.graph_at, Exits, exits r)
graph_refused d chain_end.Memory n r = absurd (n refl)

-- ---- texts

-- a text means a deck or has a first fault
abbrev IsDecided : List ℕ → Type 0
IsDecided text = ((version : ℕ) × (names : List (List ℕ)) × (grammars : List Grammar) × (graph : QGraph) × IsDeckOf text version names grammars graph) ⊎ ((at : ℕ) × (cause : Cause) × IsFault text at cause)

of_written : (text : List ℕ) (version : ℕ) (names : List (List ℕ)) (d : WrittenDeck) → IsWritten text version names d → IsDecided text
of_written text version names d w = ⊎_elim checked (λ f. inr (f.0, f.1, check version names d w f.2)) (checks_decided d.systems (meaning.can text version names d w))
  where
    checked : IsChecked d.systems → IsDecided text
    checked good =
        ⊎_elim
        (λ made. inl (
          version,
          names,
          map meaning_of d.systems,
          graph_of d.chains,
          record {
            written = d;
            is_written = w;
            checked = good;
            few = made.0;
            valid = made.1;
            grammars_are = refl;
            graph_is = refl;
          },
        ))
        (λ r. let f = graph_refused d r.0 r.1 r.2 in inr (f.0, f.1, graph version names d w good f.2))
        (chains_decided d.chains (meaning.chains_some text version names d w) (meaning.chains_whole text version names d w))

of_shallow : (text : List ℕ) (ts : List Token) → HasTokens text ts → IsDecided text
of_shallow text ts has =
    ⊎_elim
    (λ w. let d = whole_is_read text w.body (all_behind (IsTokenOf text) w.front w.body (subst (All (IsTokenOf text)) w.are (tokens_are text ts has.are_tokens))) w.whole in
    of_written text (version_of text) d.names d.written
    (record { version_is = refl; tokens = ts; has_tokens = has; front = w.front; body = w.body; are = w.are; in_front = w.in_front; reads = d.reads; names_are = d.names_are }))
    (λ s. inr (byte_of text ts s.0, Syntax, syntax ts s.0 has s.1))
    (syntax_decided_by (part deck) text (decided_behind (part deck) tt) ts)

of_tokens : (text : List ℕ) (ts : List Token) → IsUtf8 text → AreTokensOf text ts → IsDecided text
of_tokens text ts utf8 are =
    ⊎_elim
    (λ none. of_shallow text ts (record { utf8 = utf8; are_tokens = are; shallow = none }))
    (λ d. inr (byte_of text ts d.0, TooDeep, nesting ts d.0 utf8 are (record { deep = d.1; first = d.2 })))
    (first_too_deep ts)

of_utf8 : (text : List ℕ) → IsUtf8 text → IsDecided text
of_utf8 text utf8 = ⊎_elim (λ r. of_tokens text r.0 utf8 r.1) (λ f. inr (f.0, f.1, tokens utf8 f.2)) (a_reading text)

of_bytes : (text : List ℕ) → IsDecided text
of_bytes text = by (is_utf8 text) refl
  where
    by : (b : Bool) → is_utf8 text ≡ b → IsDecided text
    by true e = of_utf8 text (IsUtf8-from_is_utf8 text e)
    by false e = inr (utf8_valid_len text, NotUtf8, bytes (λ utf8. false≢true (sym e ∙ is_utf8-from_IsUtf8 text utf8)))

-- a text means a deck or is refused
pub each_text : (text : List ℕ) → ((version : ℕ) × (names : List (List ℕ)) × (grammars : List Grammar) × (graph : QGraph) × IsDeckOf text version names grammars graph) ⊎ ((r : Refusal) × IsRefusalOf text r)
each_text text =
    ⊎_elim (λ d. inl d)
    (λ f. inr (some_refusal IsFault text f.0 f.1 f.2))
    (of_bytes text)
