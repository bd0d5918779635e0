-- What is whole by the grammar is read as a deck, or as a list of grammars, in names that grow by its tokens.
use Rattle.std.proofs.Common.{◌≡◌, ◌⊎◌, ℕ, ◌≤◌, length, Bool, true, false, inl, inr, refl, subst, List, [], ◌∷◌, arith}
use Rattle.std.specs.List.{All}
use Rattle.qs_lex.specs.declared.token.Token.{Token}
use Rattle.qs_lex.specs.declared.token.Word.TheVariants.{Systeme, Unique}
use Rattle.qs_lex.specs.Tokens.{IsTokenOf}
use Rattle.qs_lex.specs.Grammar.{Sort, a_label, the_word, stop, part, IsWhole}
use Rattle.qs_lex.proofs.Renaming.{whole_back}
use Rattle.qs_lex.proofs.Meanings.{IsOne, is_one, AreMany, none_left, one_behind, Means, whole_means}
use Rattle.qs_ruletext.specs.WrittenRules.{WrittenRule}
use Rattle.qs_ruletext.specs.Grammar as rules
use Rattle.qs_ruletext.specs.Rules.{ReadsWrittenRule, ReadsRules}
use Rattle.qs_reader.specs.Names.{NamesGrow}
use Rattle.qs_ruletext.proofs.KnownTokens.{IsKnown, all_known, names_grow}
use Rattle.qs_ruletext.proofs.WholeRead.{rule_read}
use Rattle.qs_graphtext.specs.WrittenChains.{WrittenChain}
use Rattle.qs_graphtext.specs.Grammar as graphs
use Rattle.qs_graphtext.specs.Reading.{ReadsGraph}
use Rattle.qs_graphtext.proofs.WholeRead.{graph_read}
use Rattle.qs_deck.specs.WrittenDecks.{WrittenSystem, WrittenDeck}
use Rattle.qs_deck.specs.Grammar.{Part, deck, system, of_rules, of_graphs, grammars, line}
use Rattle.qs_deck.specs.Reading.{ReadsMark, no_mark, a_mark, ReadsSystem, reads_system, ReadsSystems, ReadsDeck}
use Rattle.qs_deck.proofs.Tables.{rules_are, graphs_are}
use Rattle.qs_deck.proofs.Places.{first_of}

module _ (names : List (List ℕ)) (text : List ℕ) where
  abbrev One : Sort → List Token → List Token → Type 0
  One = IsOne (IsKnown names text)

  -- what each part is read as
  abbrev Meant : Part → List Token → List Token → Type 0
  Meant deck ts rest = (d : WrittenDeck) × ReadsDeck names text ts d rest
  Meant system ts rest = (s : WrittenSystem) × ReadsSystem names text ts s rest
  Meant (of_rules rules.rule) ts rest = (r : WrittenRule) × ReadsWrittenRule names text ts r rest
  Meant (of_rules p) ts rest = Unit {0}
  Meant (of_graphs graphs.graph) ts rest = (chains : List WrittenChain) × ReadsGraph names text ts chains rest
  Meant (of_graphs p) ts rest = Unit {0}

  abbrev Meaning : Part → List Token → List Token → Type 0
  Meaning p = Means (IsKnown names text) Meant (line p)

  rules_of : {ts rest : List Token} → AreMany (λ a b. (r : WrittenRule) × ReadsWrittenRule names text a r b) ts rest → (raws : List WrittenRule) × ReadsRules names text ts raws rest
  rules_of none_left = ([], refl)
  rules_of (one_behind {middle} m more) = let q = rules_of more in (m.0 ∷ q.0, (middle, m.1, q.1))

  mark_of : {a b : List Token} → (a ≡ b) ⊎ One (the_word Unique) a b → (unique : Bool) × ReadsMark a unique b
  mark_of {a} (inl e) = (false, subst (λ us. ReadsMark a false us) e no_mark)
  mark_of (inr (is_one e k)) = (true, a_mark e)

  system_of : {a b c d e rest : List Token} → One (the_word Systeme) a b → One a_label b c → (unique : Bool) × ReadsMark c unique d → One stop d e
      → (raws : List WrittenRule) × ReadsRules names text e raws rest → Meant system a rest
  system_of (is_one {t} e k) (is_one f l) mark (is_one g m) rs =
      let name = l.label f in (record { at = t.from; name = name.0; unique = mark.0; rules = rs.0 }, reads_system e refl name.1 mark.1 g rs.1)

  systems_of : {ts rest : List Token} → AreMany (λ a b. (s : WrittenSystem) × ReadsSystem names text a s b) ts rest → (systems : List WrittenSystem) × ReadsSystems names text ts systems rest
  systems_of none_left = ([], refl)
  systems_of (one_behind {middle} m more) = let q = systems_of more in (m.0 ∷ q.0, (middle, m.1, q.1))

  deck_of : {a b c d : List Token} → Meant system a b → (systems : List WrittenSystem) × ReadsSystems names text b systems c → (chains : List WrittenChain) × ReadsGraph names text c chains d → Meant deck a d
  deck_of {a} {b} {d} s more g =
      let f = first_of g.1 in
      let all : List WrittenSystem = s.0 ∷ more.0 in (
        record { systems = all; graph_at = f.0.from; chains = g.0 },
        record {
          some = omega arith;
          first = f.0;
          behind = f.1;
          systems = subst (λ us. ReadsSystems names text a all us) f.2 (b, s.1, more.1);
          graph = subst (λ us. ReadsGraph names text us g.0 d) f.2 g.1;
          graph_at = refl;
        },
      )

  lines : (p : Part) (ts rest : List Token) → All (IsKnown names text) ts → IsWhole line (part p) ts rest → Meaning p ts rest → Meant p ts rest
  lines deck ts rest all w m = deck_of m.1.1 (systems_of m.1.2) m.2
  lines system ts rest all w m = system_of m.1 m.2.1 (mark_of m.2.2.1) m.2.2.2.1 (rules_of m.2.2.2.2)
  lines (of_rules rules.rule) ts rest all w m = rule_read names text all (whole_back rules.line line of_rules rules_are (part rules.rule) w)
  lines (of_rules rules.side) ts rest all w m = tt
  lines (of_rules rules.tree) ts rest all w m = tt
  lines (of_rules rules.list) ts rest all w m = tt
  lines (of_rules rules.item) ts rest all w m = tt
  lines (of_rules rules.cond) ts rest all w m = tt
  lines (of_rules rules.conj) ts rest all w m = tt
  lines (of_rules rules.neg) ts rest all w m = tt
  lines (of_rules rules.prim) ts rest all w m = tt
  lines (of_graphs graphs.graph) ts rest all w m = graph_read names text all (whole_back graphs.line line of_graphs graphs_are (part graphs.graph) w)
  lines (of_graphs graphs.chain) ts rest all w m = tt
  lines (of_graphs graphs.plain) ts rest all w m = tt

  pub list_read : {ts rest : List Token} → All (IsKnown names text) ts → IsWhole line grammars ts rest → (systems : List WrittenSystem) × (1 ≤ length systems) × ReadsSystems names text ts systems rest
  list_read {ts} {rest} all w =
      let m : Means (IsKnown names text) Meant grammars ts rest = whole_means line (IsKnown names text) Meant lines all w in
      let more = systems_of m.2 in
      (m.1.0 ∷ more.0, omega arith, (m.0, m.1.1, more.1))

  pub deck_read : {ts rest : List Token} → All (IsKnown names text) ts → IsWhole line (part deck) ts rest → (d : WrittenDeck) × ReadsDeck names text ts d rest
  deck_read all w = whole_means line (IsKnown names text) Meant lines all w

-- tokens at the end of those of a text that are a deck are read as one
pub record IsReadDeck (text : List ℕ) (ts : List Token) : Type 0 where
  pub names : List (List ℕ)
  pub written : WrittenDeck
  pub reads : ReadsDeck names text ts written []
  pub names_are : NamesGrow text ts [] names

pub whole_is_read : (text : List ℕ) (ts : List Token) → All (IsTokenOf text) ts → IsWhole line (part deck) ts [] → IsReadDeck text ts
whole_is_read text ts all w =
    let n = names_grow text ts [] all in
    let d = deck_read n.0 text (all_known text ts [] n.0 all n.1) w in
    record { names = n.0; written = d.0; reads = d.1; names_are = n.1 }

-- and such tokens that are a list of grammars are read as one
pub record IsReadList (text : List ℕ) (ts : List Token) : Type 0 where
  pub names : List (List ℕ)
  pub written : List WrittenSystem
  pub some : 1 ≤ length written
  pub reads : ReadsSystems names text ts written []
  pub names_are : NamesGrow text ts [] names

pub whole_list_is_read : (text : List ℕ) (ts : List Token) → All (IsTokenOf text) ts → IsWhole line grammars ts [] → IsReadList text ts
whole_list_is_read text ts all w =
    let n = names_grow text ts [] all in
    let d = list_read n.0 text (all_known text ts [] n.0 all n.1) w in
    record { names = n.0; written = d.0; some = d.1; reads = d.2; names_are = n.1 }
