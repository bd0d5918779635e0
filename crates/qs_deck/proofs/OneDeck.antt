-- Tokens are read as one deck only: its systems stand one behind the other, the rules of each end at the next -SYSTEME- or at
-- -GRAPHE-, which begin no rule, and rules and graphs are read in one way.
use Rattle.std.proofs.Common.{◌≡◌, ℕ, ◌≤◌, Bool, false, refl, sym, ◌∙◌, ap, subst, inl, inr, List, [], ◌∷◌, length, map, arith}
use Rattle.std.specs.Prelude.{◌⊎◌}
use Rattle.qs_lex.specs.declared.token.Token.{Token}
use Rattle.qs_lex.specs.declared.token.Word.TheVariants.{Systeme, Graphe, Unique}
use Rattle.qs_lex.specs.Grammar.{Sort, the_word, stop, IsOf}
use Rattle.qs_lex.proofs.Expected.{begin_front}
use Rattle.qs_tree.specs.Names.{AreDistinct}
use Rattle.qs_ruletext.specs.WrittenRules.{WrittenRule}
use Rattle.qs_ruletext.specs.Rules.{ReadsRules}
use Rattle.qs_ruletext.specs.Grammar.{rule}
use Rattle.qs_ruletext.specs.working.Readers.{table}
use Rattle.qs_ruletext.specs.Endings.{NoRuleIn}
use Rattle.qs_ruletext.proofs.Tables.{ok}
use Rattle.qs_ruletext.proofs.OneReading.{one_label, one_sort, holds_not, same_token}
use Rattle.qs_ruletext.proofs.OneRules.{one_rules}
use Rattle.qs_graphtext.specs.WrittenChains.{WrittenChain}
use Rattle.qs_graphtext.specs.Reading.{ReadsGraph, reads_graph}
use Rattle.qs_graphtext.proofs.OneReading.{one_graph}
use Rattle.qs_deck.specs.WrittenDecks.{WrittenSystem, WrittenDeck}
use Rattle.qs_deck.specs.Reading.{ReadsMark, no_mark, a_mark, ReadsSystem, reads_system, ReadsSystems, ReadsDeck}
use Rattle.qs_tree.proofs.Decisions.{cons_parts}

-- rules that are the same, with the same bytes of their cells, are equal
same_rules : (raws others : List WrittenRule) → map (λ (r : WrittenRule). r.rule) raws ≡ map (λ (r : WrittenRule). r.rule) others → map (λ (r : WrittenRule). r.at) raws ≡ map (λ (r : WrittenRule). r.at) others → raws ≡ others
same_rules [] [] e f = refl
same_rules [] (s ∷ others) e f = absurd cc
same_rules (r ∷ raws) [] e f = absurd cc
same_rules (r ∷ raws) (s ∷ others) e f =
    let rule : r.rule ≡ s.rule = (cons_parts e).0 in
    let at : r.at ≡ s.at = (cons_parts f).0 in
    let more = same_rules raws others (cons_parts e).1 (cons_parts f).1 in
    λ i. record { rule = rule i; at = at i } ∷ more i

-- ---- one reading

-- the first token, where there is one, is of this sort
abbrev pub NextIs : Sort → List Token → Type 0
NextIs s [] = ⊥
NextIs s (t ∷ ts) = IsOf s t

-- a system or a graph begins here
abbrev IsBorder : List Token → Type 0
IsBorder ts = NextIs (the_word Systeme) ts ⊎ NextIs (the_word Graphe) ts

no_rule_before : (s : Sort) (ts : List Token) → table rule s ≡ false → NextIs s ts → NoRuleIn ts
no_rule_before s [] fails is = absurd is
no_rule_before s (t ∷ ts) fails is = λ u us e b.
    let P : Token → Type 0 = IsOf s in
    holds_not (table rule) s u fails (subst P (same_token e) is) (begin_front table ok b)

no_rule_at : (ts : List Token) → IsBorder ts → NoRuleIn ts
no_rule_at ts (inl is) = no_rule_before (the_word Systeme) ts refl is
no_rule_at ts (inr is) = no_rule_before (the_word Graphe) ts refl is

pub not_both_words : (ts : List Token) → NextIs (the_word Systeme) ts → NextIs (the_word Graphe) ts → ⊥
not_both_words [] is also = is
not_both_words (t ∷ ts) is also = one_sort (the_word Systeme) (the_word Graphe) t refl is also

module _ (names : List (List ℕ)) (text : List ℕ) where
  system_next : {ts rest : List Token} {a : WrittenSystem} → ReadsSystem names text ts a rest → NextIs (the_word Systeme) ts
  system_next (reads_system e at label mark f rules) = e

  pub graph_next : {ts rest : List Token} {chains : List WrittenChain} → ReadsGraph names text ts chains rest → NextIs (the_word Graphe) ts
  graph_next (reads_graph e chains f) = e

  -- a deck begins with a system
  pub deck_next : {ts rest : List Token} {d : WrittenDeck} → ReadsDeck names text ts d rest → NextIs (the_word Systeme) ts
  deck_next {ts} {d = d} r = by_systems d.systems (r.first ∷ r.behind) r.some r.systems
    where
      by_systems : (systems : List WrittenSystem) (end : List Token) → 1 ≤ length systems → ReadsSystems names text ts systems end → NextIs (the_word Systeme) ts
      by_systems [] end some h = absurd (omega arith)
      by_systems (s ∷ systems) end some h = system_next h.1

  border : (systems : List WrittenSystem) (ts rest : List Token) → ReadsSystems names text ts systems rest → NextIs (the_word Graphe) rest → IsBorder ts
  border [] ts rest e is = inr (subst (λ us. NextIs (the_word Graphe) us) (sym e) is)
  border (a ∷ systems) ts rest h is = inl (system_next h.1)

  list_end : (systems : List WrittenSystem) (ts : List Token) → ReadsSystems names text ts systems [] → NoRuleIn ts
  list_end [] ts e = λ t us is b. (let cut : [] ≡ t ∷ us = sym e ∙ is in absurd cc)
  list_end (a ∷ systems) ts h = no_rule_at ts (inl (system_next h.1))

  -- a mark stands or doesn't
  record IsOneMark (a b : Bool) (us vs : List Token) : Type 0 where
    same : a ≡ b
    rests : us ≡ vs

  -- what stands behind it is a stop
  one_mark : {a b : Bool} {marks more us vs : List Token} {v w : Token} → ReadsMark marks a (v ∷ us) → ReadsMark more b (w ∷ vs) → marks ≡ more → IsOf stop v → IsOf stop w → IsOneMark a b us vs
  one_mark no_mark no_mark e is also = record { same = refl; rests = (cons_parts e).1 }
  one_mark (a_mark m) (a_mark n) e is also = record { same = refl; rests = (cons_parts (cons_parts e).1).1 }
  one_mark {v} no_mark (a_mark n) e is also = absurd (one_sort stop (the_word Unique) v refl is (subst (IsOf (the_word Unique)) (sym (cons_parts e).0) n))
  one_mark {w} (a_mark m) no_mark e is also = absurd (one_sort stop (the_word Unique) w refl also (subst (IsOf (the_word Unique)) (cons_parts e).0 m))

  module _ (distinct : AreDistinct names) where
    one_system : {ts rest end : List Token} {a b : WrittenSystem} → ReadsSystem names text ts a rest → ReadsSystem names text ts b end → NoRuleIn rest → NoRuleIn end
        → (a ≡ b) × (rest ≡ end)
    one_system (reads_system {u} {ts} {rest} {system = a} e at label mark f rules) (reads_system {ts = us} {rest = end} {system = b} g place name_too mark_too h others) none stops =
        let unique = one_mark mark mark_too refl f h in
        let same = one_rules names text distinct a.rules b.rules ts rest end rules (subst (λ vs. ReadsRules names text vs b.rules end) (sym unique.rests) others) none stops in
        let byte : a.at ≡ b.at = at ∙ sym place in
        let name : a.name ≡ b.name = one_label names text distinct u a.name b.name label name_too in
        let written = same_rules a.rules b.rules same.0 same.1 in
        (λ i. record { at = byte i; name = name i; unique = unique.same i; rules = written i }, same.2)

    one_systems : (systems others : List WrittenSystem) (ts rest end : List Token) → ReadsSystems names text ts systems rest → ReadsSystems names text ts others end
        → NextIs (the_word Graphe) rest → NextIs (the_word Graphe) end → (systems ≡ others) × (rest ≡ end)
    one_systems [] [] ts rest end e f is also = (refl, sym e ∙ f)
    one_systems [] (b ∷ others) ts rest end e g is also =
        absurd (not_both_words ts (system_next g.1) (subst (λ us. NextIs (the_word Graphe) us) (sym e) is))
    one_systems (a ∷ systems) [] ts rest end f e is also =
        absurd (not_both_words ts (system_next f.1) (subst (λ us. NextIs (the_word Graphe) us) (sym e) also))
    one_systems (a ∷ systems) (b ∷ others) ts rest end f g is also =
        let here = one_system f.1 g.1 (no_rule_at f.0 (border systems f.0 rest f.2 is)) (no_rule_at g.0 (border others g.0 end g.2 also)) in
        let there = one_systems systems others f.0 rest end f.2 (subst (λ us. ReadsSystems names text us others end) (sym here.1) g.2) is also in
        (λ i. here.0 i ∷ there.0 i, there.1)

    pub one_deck : {ts : List Token} {d e : WrittenDeck} → ReadsDeck names text ts d [] → ReadsDeck names text ts e [] → d ≡ e
    one_deck {ts} {d} {e} r s =
        let systems = one_systems d.systems e.systems ts (r.first ∷ r.behind) (s.first ∷ s.behind) r.systems s.systems (graph_next r.graph) (graph_next s.graph) in
        let at : d.graph_at ≡ e.graph_at = r.graph_at ∙ ap (λ t. t.from) (same_token systems.1) ∙ sym s.graph_at in
        let chains = (one_graph names text distinct r.graph (subst (λ us. ReadsGraph names text us e.chains []) (sym systems.1) s.graph)).0 in
        λ i. record { systems = systems.0 i; graph_at = at i; chains = chains i }

    -- a list of grammars, which nothing follows
    pub one_list : (systems others : List WrittenSystem) (ts : List Token) → ReadsSystems names text ts systems [] → ReadsSystems names text ts others [] → systems ≡ others
    one_list [] [] ts e f = refl
    one_list [] (b ∷ others) ts e g = absurd (subst (λ us. NextIs (the_word Systeme) us) e (system_next g.1))
    one_list (a ∷ systems) [] ts f e = absurd (subst (λ us. NextIs (the_word Systeme) us) e (system_next f.1))
    one_list (a ∷ systems) (b ∷ others) ts f g =
        let here = one_system f.1 g.1 (list_end systems f.0 f.2) (list_end others g.0 g.2) in
        let there = one_list systems others f.0 f.2 (subst (λ us. ReadsSystems names text us others []) (sym here.1) g.2) in
        λ i. here.0 i ∷ there i
