-- The steps of the readers of systems and decks.
use Rattle.std.proofs.Common.{◌≡◌, ℕ, zero, suc, ◌+◌, ◌<◌, ◌≤◌, Bool, true, false, refl, sym, ◌∙◌, ap, subst, inl, inr, List, [], ◌∷◌, ◌++◌, length, drop, length-append, length-drop, arith}
use Rattle.std.proofs.lemmas.Bool.{false≢true}
use Rattle.qs_lex.specs.declared.token.Token.{Token}
use Rattle.qs_lex.specs.declared.token.Word.TheVariants.{Systeme, Graphe, Fin, Dans, Hors, Et, Ou, Non, Version, Egal, Unique}
use Rattle.qs_lex.specs.Grammar.{Sort, a_label as the_label, a_label_variable, a_tree_variable, a_forest_variable, a_node_mark, the_word, opening, closing, comma, plus, slash, equals, stop, sort_of, part, repeated, IsWhole}
use Rattle.qs_lex.specs.Expecting.{NextIsNo}
use Rattle.qs_lex.specs.Nesting.{IsTooDeep}
use Rattle.qs_lex.proofs.Renaming.{whole_in}
use Rattle.qs_lex.proofs.Stopping.{front_of}
use Rattle.qs_lex.proofs.Predictive.{not_true}
use Rattle.qs_tree.specs.declared.cell.Label.{Label}
use Rattle.qs_reader.specs.declared.text_end.TextEnd.{TextEnd}
use Rattle.qs_reader.specs.declared.text_end.TextEnd.TheVariants.{Syntax, Memory}
use Rattle.qs_reader.specs.Names.{KeepsNames, NamesGrow}
use Rattle.qs_reader.specs.Readers.{Reading, IsNext, Passes, Stays, NamesLabel, EndsHere, between}
use Rattle.qs_reader.specs.working.Readers.{Reads, Nothing, nothing, AToken, a_token, ALabel, a_label, Then, then, StopsOr}
use Rattle.qs_reader.proofs.Steps.{token_read, label_read, left_out_read, member_read, then_read, read_at, read_so, part_read, ends_here, token_ends, part_ends, first_ends, then_ends}
use Rattle.qs_reader.proofs.Known.{whole_taken, all_taken, begun_stops, all_stop, cannot_in, known_stops, known_read}
use Rattle.qs_ruletext.specs.WrittenRules.{WrittenRule}
use Rattle.qs_ruletext.specs.Grammar as rules
use Rattle.qs_ruletext.specs.Rules.{ReadsRules, NoRuleAt}
use Rattle.qs_ruletext.specs.Rules as rule_ends
use Rattle.qs_ruletext.specs.working.Readers.{begins_tree, IsTreeSort}
use Rattle.qs_ruletext.proofs.RuleSteps.{tree_begins_rule}
use Rattle.qs_graphtext.specs.WrittenChains.{WrittenChain}
use Rattle.qs_graphtext.specs.Grammar as graphs
use Rattle.qs_graphtext.specs.Reading.{ReadsGraph}
use Rattle.qs_graphtext.specs.Refusals as graph_ends
use Rattle.qs_graphtext.proofs.Whole.{graph_whole}
use Rattle.qs_deck.specs.WrittenDecks.{WrittenSystem}
use Rattle.qs_deck.specs.Grammar.{deck, system, of_rules, of_graphs, line}
use Rattle.qs_deck.specs.Reading.{no_mark, a_mark, ReadsSystem, reads_system, ReadsSystems, ReadsDeck}
use Rattle.qs_deck.specs.working.Readers.{table, IsRead, Ends, may_be_marked, AMark, some_rules, some_systems, one_graph, Rules, ASystem, Systems, AGraph, ADeck}
use Rattle.qs_deck.proofs.Tables.{more, ok, rules_are, graphs_are}

-- where no rule begins, no tree does
begins_tree_sort : (k : Sort) → begins_tree k ≡ true → IsTreeSort k
begins_tree_sort the_label e = inl refl
begins_tree_sort a_label_variable e = inr (inl refl)
begins_tree_sort a_tree_variable e = inr (inr refl)
begins_tree_sort a_forest_variable e = absurd (false≢true e)
begins_tree_sort a_node_mark e = absurd (false≢true e)
begins_tree_sort (the_word Systeme) e = absurd (false≢true e)
begins_tree_sort (the_word Graphe) e = absurd (false≢true e)
begins_tree_sort (the_word Fin) e = absurd (false≢true e)
begins_tree_sort (the_word Dans) e = absurd (false≢true e)
begins_tree_sort (the_word Hors) e = absurd (false≢true e)
begins_tree_sort (the_word Et) e = absurd (false≢true e)
begins_tree_sort (the_word Ou) e = absurd (false≢true e)
begins_tree_sort (the_word Non) e = absurd (false≢true e)
begins_tree_sort (the_word Version) e = absurd (false≢true e)
begins_tree_sort (the_word Egal) e = absurd (false≢true e)
begins_tree_sort (the_word Unique) e = absurd (false≢true e)
begins_tree_sort opening e = absurd (false≢true e)
begins_tree_sort closing e = absurd (false≢true e)
begins_tree_sort comma e = absurd (false≢true e)
begins_tree_sort plus e = absurd (false≢true e)
begins_tree_sort slash e = absurd (false≢true e)
begins_tree_sort equals e = absurd (false≢true e)
begins_tree_sort stop e = absurd (false≢true e)

pub no_rule_next : (ts : List Token) (at : ℕ) → NoRuleAt ts at → NextIsNo begins_tree (drop at ts)
no_rule_next [] zero n = tt
no_rule_next [] (suc at) n = tt
no_rule_next (t ∷ ts) zero n = not_true (begins_tree (sort_of t.kind)) (λ e. n t refl (tree_begins_rule t (begins_tree_sort (sort_of t.kind) e)))
no_rule_next (t ∷ ts) (suc at) n = no_rule_next ts at n

-- the tokens stay the same
pub shallow_on : {ts us : List Token} → us ≡ ts → ((index : ℕ) → IsTooDeep ts index → ⊥) → (index : ℕ) → IsTooDeep us index → ⊥
shallow_on same shallow = subst (λ ts. (index : ℕ) → IsTooDeep ts index → ⊥) (sym same) shallow

-- rules that begin behind others begin no earlier
begun_behind : (tokens : List Token) (from begun at : ℕ) → IsWhole rules.line (repeated (part rules.rule)) (drop from tokens) (drop begun tokens) → begun < at → at ≤ length tokens → from ≤ at
begun_behind tokens from begun at whole some within =
    let p = front_of whole in
    let long : length (drop from tokens) ≡ length p.front + length (drop begun tokens) = ap length p.are ∙ length-append p.front (drop begun tokens) in
    omega (arith, long, length-drop from tokens, length-drop begun tokens, some, within)

-- rules and a graph, as other readers have read them that go by the same text, tokens and place
module _ {text : List ℕ} {tokens : List Token} {from : ℕ} {r : Reading} (is_text : text ≡ r.text) (are_tokens : tokens ≡ r.tokens) (is_place : from ≡ r.place) where
  pub read_rules : (raws : List WrittenRule) {s : Reading} {to : ℕ} {old new : List (List ℕ)} → s ≡ record r { place = to } → (from ≤ to) × (to ≤ length tokens)
      → ((later : List (List ℕ)) → KeepsNames new later → ReadsRules later text (drop from tokens) raws (drop to tokens))
      → IsWhole rules.line (repeated (part rules.rule)) (drop from tokens) (drop to tokens) → NoRuleAt tokens to
      → NamesGrow text (between tokens from to) old new → KeepsNames old new → length new + from ≤ length old + to
      → IsRead some_rules (Rules raws) r s old new
  read_rules raws {to} goes place reads whole none =
      known_read is_text are_tokens is_place goes place reads (all_taken table more ok tt (λ k. refl) (whole_in rules.line line of_rules rules_are whole) (no_rule_next tokens to none))

  rules_stop : (end : TextEnd) → rule_ends.EndsFrom tokens from end → StopsOr line table some_rules r end
  rules_stop (Syntax at) c =
      known_stops is_text are_tokens is_place (begun_behind tokens from c.begun at c.whole c.some c.within) c.within
      (all_stop table more ok tt (λ k. refl) (whole_in rules.line line of_rules rules_are c.whole) c.some
      (cannot_in rules.line line of_rules rules_are (part rules.rule)
      (record { forward = omega (arith, c.some); within = c.within; begins = c.begins; not_whole = c.not_whole; no_further = c.no_further })))
  rules_stop Memory c = tt

  pub rules_end : {end : TextEnd} → rule_ends.EndsFrom tokens from end → Ends some_rules r end
  rules_end {end} e = record { stops = rules_stop end e }

  pub read_graph : {chains : List WrittenChain} {s : Reading} {to : ℕ} {old new : List (List ℕ)} → s ≡ record r { place = to } → (from < to) × (to ≤ length tokens)
      → ((later : List (List ℕ)) → KeepsNames new later → ReadsGraph later text (drop from tokens) chains (drop to tokens))
      → NamesGrow text (between tokens from to) old new → KeepsNames old new → length new + from ≤ length old + to
      → IsRead one_graph (AGraph chains) r s old new
  read_graph {new} goes place reads =
      known_read is_text are_tokens is_place goes (omega (arith, place.0), place.1) reads
      (whole_taken table more ok tt (λ k. refl) (whole_in graphs.line line of_graphs graphs_are (graph_whole (reads new (λ k t i. i)))))

  graph_stop : (end : TextEnd) → graph_ends.EndsFrom tokens from end → StopsOr line table one_graph r end
  graph_stop (Syntax at) c =
      known_stops is_text are_tokens is_place c.forward c.within
      (begun_stops table more ok tt (λ k. refl) (cannot_in graphs.line line of_graphs graphs_are (part graphs.graph) c))
  graph_stop Memory c = tt

  pub graph_end : {end : TextEnd} → graph_ends.EndsFrom tokens from end → Ends one_graph r end
  graph_end {end} e = record { stops = graph_stop end e }

-- a system
first_byte : {t word : Token} {ts us : List Token} → t ∷ ts ≡ word ∷ us → word.from ≡ t.from
first_byte {t} {word} e = let same : word ≡ t = cc in ap (λ u. u.from) same

-- the mark of a system stands next and was passed, or doesn't
mark_there : {r s : Reading} (names : List (List ℕ)) → Passes (the_word Unique) r s → IsRead may_be_marked (AMark true) r s names names
mark_there names p = read_so marked (member_read (token_read names refl p))
  where
    marked : (names : List (List ℕ)) (text : List ℕ) (ts rest : List Token) → AToken (the_word Unique) names text ts rest → AMark true names text ts rest
    marked names text ts rest (a_token is) = a_mark is

no_mark_there : {r s : Reading} (names : List (List ℕ)) → Stays (the_word Unique) r s → IsRead may_be_marked (AMark false) r s names names
no_mark_there names n = read_so unmarked (left_out_read names n.none n)
  where
    unmarked : (names : List (List ℕ)) (text : List ℕ) (ts rest : List Token) → Nothing names text ts rest → AMark false names text ts rest
    unmarked names text ts rest nothing = no_mark

pub mark_read : {r s : Reading} (names : List (List ℕ)) (unique : Bool) → (unique ≡ true → Passes (the_word Unique) r s) → (unique ≡ false → Stays (the_word Unique) r s)
    → IsRead may_be_marked (AMark unique) r s names names
mark_read names true stands lacks = mark_there names (stands refl)
mark_read names false stands lacks = no_mark_there names (lacks refl)

a_system : {word : Token} {name : Label} {unique : Bool} {raws : List WrittenRule} {names : List (List ℕ)} {text : List ℕ} {ts us rest : List Token} → ts ≡ word ∷ us
    → Then (AToken (the_word Systeme)) (Then (ALabel name) (Then (AMark unique) (Then (AToken stop) (Rules raws)))) names text ts rest
    → ReadsSystem names text ts (record { at = word.from; name = name; unique = unique; rules = raws }) rest
a_system e (then (a_token w) (then (a_label l) (then m (then (a_token s) r)))) = reads_system w (first_byte e) l m s r

pub read_system : {word : Token} {name : Label} {unique : Bool} {raws : List WrittenRule} {r s u m v w : Reading} {old middle new : List (List ℕ)} → IsNext word r → Passes (the_word Systeme) r s
    → NamesLabel name s u old middle → IsRead may_be_marked (AMark unique) u m middle middle → Passes stop m v → IsRead some_rules (Rules raws) v w middle new
    → IsRead (part system) (ASystem (record { at = word.from; name = name; unique = unique; rules = raws })) r w old new
read_system {old} {middle} n p l mark q a =
    part_read (read_at (λ w. w) (λ later x. a_system n.are x) (then_read (token_read old refl p) (then_read (label_read l) (then_read mark (then_read (token_read middle refl q) a)))))

pub ends_at_word : {r : Reading} {end : TextEnd} → EndsHere (the_word Systeme) r end → Ends (part system) r end
ends_at_word e = part_ends (first_ends (token_ends e))

pub ends_at_name : {r s : Reading} {end : TextEnd} (names : List (List ℕ)) → Passes (the_word Systeme) r s → EndsHere the_label s end → Ends (part system) r end
ends_at_name names p e = part_ends (then_ends (token_read names refl p) (first_ends (token_ends e)))

module _ {name : Label} {r s u : Reading} {old middle : List (List ℕ)} (p : Passes (the_word Systeme) r s) (l : NamesLabel name s u old middle) where
  pub ends_at_dot : {unique : Bool} {m : Reading} {end : TextEnd} → IsRead may_be_marked (AMark unique) u m middle middle → EndsHere stop m end → Ends (part system) r end
  ends_at_dot mark e = part_ends (then_ends (token_read old refl p) (then_ends (label_read l) (then_ends mark (first_ends (token_ends e)))))

  pub ends_in_rules : {unique : Bool} {m v : Reading} {end : TextEnd} → IsRead may_be_marked (AMark unique) u m middle middle → Passes stop m v → Ends some_rules v end → Ends (part system) r end
  ends_in_rules mark q e = part_ends (then_ends (token_read old refl p) (then_ends (label_read l) (then_ends mark (then_ends (token_read middle refl q) e))))

-- systems
pub systems_first : {written : WrittenSystem} (systems : List WrittenSystem) → systems ≡ written ∷ [] → (names : List (List ℕ)) (text : List ℕ) (ts rest : List Token)
    → ReadsSystem names text ts written rest → Systems systems names text ts rest
systems_first systems e names text ts rest r = (omega (arith, ap length e), subst (λ xs. ReadsSystems names text ts xs rest) (sym e) (rest, r, refl))

reads_more : (names : List (List ℕ)) (text : List ℕ) (ts middle rest : List Token) (systems : List WrittenSystem) (next : WrittenSystem)
    → ReadsSystems names text ts systems middle → ReadsSystem names text middle next rest → ReadsSystems names text ts (systems ++ next ∷ []) rest
reads_more names text ts middle rest [] next e r = (rest, subst (λ us. ReadsSystem names text us next rest) (sym e) r, refl)
reads_more names text ts middle rest (s ∷ systems) next h r = (h.0, h.1, reads_more names text h.0 middle rest systems next h.2 r)

pub systems_next : {written : WrittenSystem} (systems longer : List WrittenSystem) → longer ≡ systems ++ written ∷ [] → (names : List (List ℕ)) (text : List ℕ) (ts us rest : List Token)
    → Systems systems names text ts us → ReadsSystem names text us written rest → Systems longer names text ts rest
systems_next {written} systems longer e names text ts us rest before r =
    let long : length longer ≡ length systems + 1 = ap length e ∙ length-append systems (written ∷ []) in
    (omega (arith, long), subst (λ xs. ReadsSystems names text ts xs rest) (sym e) (reads_more names text ts us rest systems written before.1 r))

-- a deck, which knows the byte at which its graph begins
abbrev GraphAt : ℕ → List WrittenChain → Reads
GraphAt byte chains names text ts rest = (first : Token) × (behind : List Token) × (ts ≡ first ∷ behind) × (byte ≡ first.from) × ReadsGraph names text ts chains rest

a_deck : {systems : List WrittenSystem} {byte : ℕ} {chains : List WrittenChain} (names : List (List ℕ)) (text : List ℕ) (ts rest : List Token) → Then (Systems systems) (GraphAt byte chains) names text ts rest
    → ReadsDeck names text ts (record { systems = systems; graph_at = byte; chains = chains }) rest
a_deck {systems} {chains} names text ts rest (then s g) =
    record {
      some = s.0;
      first = g.0;
      behind = g.1;
      systems = subst (λ us. ReadsSystems names text ts systems us) g.2 s.1;
      graph = subst (λ us. ReadsGraph names text us chains rest) g.2 g.4;
      graph_at = g.3;
    }

module _ {R : Reads} {r s : Reading} {old middle : List (List ℕ)} (systems : IsRead some_systems R r s old middle) where
  pub ends_at_graph : {end : TextEnd} → EndsHere (the_word Graphe) s end → Ends (part deck) r end
  ends_at_graph e = part_ends (then_ends systems (ends_here refl (λ n. n) e))

  pub ends_in_graph : {end : TextEnd} → Ends one_graph s end → Ends (part deck) r end
  ends_in_graph e = part_ends (then_ends systems e)

pub read_deck : {systems : List WrittenSystem} {word : Token} {chains : List WrittenChain} {r s u : Reading} {old middle new : List (List ℕ)} → IsRead some_systems (Systems systems) r s old middle
    → IsNext word s → IsRead one_graph (AGraph chains) s u middle new → IsRead (part deck) (ADeck (record { systems = systems; graph_at = word.from; chains = chains })) r u old new
read_deck {word} a n g = part_read (read_so a_deck (then_read a (read_at (λ w. w) (λ later x. (word, n.behind, n.are, refl, x)) g)))
