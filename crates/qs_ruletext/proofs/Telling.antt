-- Which texts tell a condition and a rule.
use Rattle.std.proofs.Common.{◌≡◌, ℕ, ◌≤◌, sym, ap, ◌∙◌, subst, List, Option, Some, None, arith}
use Rattle.std.specs.List.{All}
use Rattle.std.proofs.lemmas.Bool.{false≢true}
use Rattle.std.proofs.lemmas.List.Elements.{All-head, All-tail}
use Rattle.qs_lex.specs.declared.token.Token.{Token}
use Rattle.qs_lex.specs.declared.token.Word.{Word}
use Rattle.qs_lex.specs.declared.token.Kind.{Kind}
use Rattle.qs_lex.specs.declared.token.Kind.TheVariants.{Bare, Quoted, Variable, Node, Word as a_word, Opening, Closing, Comma, Plus, Slash, Equals, Stop}
use Rattle.qs_lex.specs.Spelling.{since, IsInVersion}
use Rattle.qs_lex.specs.Tokens.{version_of, IsTokenOf}
use Rattle.qs_lex.specs.Grammar.{the_word, sort_of}
use Rattle.qs_lex.proofs.Readings.{token_stands}
use Rattle.qs_lex.proofs.Versions.{second_version}
use Rattle.qs_lex.proofs.Meanings.{rest_all}
use Rattle.qs_pattern.specs.Conditions.{Condition, Conditions, compared, negated, combined, no_condition, condition_first}
use Rattle.qs_pattern.specs.Rules.{UnmarkedRule}
use Rattle.qs_ruletext.specs.Reading.{comparing_word, any_of, all_of, ReadsCond, reads_cond, ReadsMoreConjs, no_more_conjs, one_more_conj, ReadsConj, reads_conj, ReadsMoreNegs, no_more_negs, one_more_neg, ReadsNeg, not_negated, reads_negated, ReadsPrim, reads_group, reads_compared}
use Rattle.qs_ruletext.specs.Rules.{ReadsCondIfGiven, no_cond, some_cond, ReadsRule, reads_rule}
use Rattle.qs_ruletext.specs.Written.{IsToldIn, AreToldIn, IsToldIfGiven, IsRuleToldIn}
use Rattle.qs_ruletext.specs.working.Readers.{is_variable}
use Rattle.qs_ruletext.proofs.KnownTokens.{variable_is}
use Rattle.qs_ruletext.proofs.Whole.{side_whole, list_whole, conj_whole, neg_whole}

-- later versions have what earlier ones have
module _ {v w : ℕ} (later : v ≤ w) where
  mutual
    condition_later : (c : Condition) → IsToldIn v c → IsToldIn w c
    condition_later (compared word a b) told = omega (arith, told, later)
    condition_later (negated c) told = condition_later c told
    condition_later (combined word cs) told = conditions_later cs told

    conditions_later : (cs : Conditions) → AreToldIn v cs → AreToldIn w cs
    conditions_later no_condition told = tt
    conditions_later (condition_first c cs) told = (condition_later c told.0, conditions_later cs told.1)

  if_given_later : (o : Option Condition) → IsToldIfGiven v o → IsToldIfGiven w o
  if_given_later None told = tt
  if_given_later (Some c) told = condition_later c told

  pub rule_later : (r : UnmarkedRule) → IsRuleToldIn v r → IsRuleToldIn w r
  rule_later r told = if_given_later r.condition told

-- texts of version 2 tell each
mutual
  condition_told : (c : Condition) → IsToldIn 2 c
  condition_told (compared word a b) = second_version (comparing_word word)
  condition_told (negated c) = condition_told c
  condition_told (combined word cs) = conditions_told cs

  conditions_told : (cs : Conditions) → AreToldIn 2 cs
  conditions_told no_condition = tt
  conditions_told (condition_first c cs) = (condition_told c, conditions_told cs)

if_given_told : (o : Option Condition) → IsToldIfGiven 2 o
if_given_told None = tt
if_given_told (Some c) = condition_told c

pub rule_told : (r : UnmarkedRule) → IsRuleToldIn 2 r
rule_told r = if_given_told r.condition

-- a word that stands in a text is one of the text's version
pub known_word : (v : ℕ) (w : Word) (k : Kind) → IsInVersion v k → sort_of k ≡ the_word w → since w ≤ v
known_word v w (a_word u) known is = let same : u ≡ w = cc in subst (λ x. since x ≤ v) same known
known_word v w Bare known is = absurd cc
known_word v w Quoted known is = absurd cc
known_word v w (Variable letter number) known is = absurd (false≢true (ap is_variable (sym is) ∙ variable_is letter))
known_word v w (Node n) known is = absurd cc
known_word v w Opening known is = absurd cc
known_word v w Closing known is = absurd cc
known_word v w Comma known is = absurd cc
known_word v w Plus known is = absurd cc
known_word v w Slash known is = absurd cc
known_word v w Equals known is = absurd cc
known_word v w Stop known is = absurd cc

in_any : (v : ℕ) (c : Condition) (cs : Conditions) → IsToldIn v c → AreToldIn v cs → IsToldIn v (any_of c cs)
in_any v c no_condition a b = a
in_any v c (condition_first d ds) a b = (a, b)

in_all : (v : ℕ) (c : Condition) (cs : Conditions) → IsToldIn v c → AreToldIn v cs → IsToldIn v (all_of c cs)
in_all v c no_condition a b = a
in_all v c (condition_first d ds) a b = (a, b)

module _ {names : List (List ℕ)} (text : List ℕ) where
  mutual
    cond_in : {ts rest : List Token} {c : Condition} → All (IsTokenOf text) ts → ReadsCond names text ts c rest → IsToldIn (version_of text) c
    cond_in all (reads_cond {c} {cs} first more) = in_any (version_of text) c cs (conj_in all first) (conjs_in (rest_all (IsTokenOf text) (conj_whole first) all) more)

    conjs_in : {ts rest : List Token} {cs : Conditions} → All (IsTokenOf text) ts → ReadsMoreConjs names text ts cs rest → AreToldIn (version_of text) cs
    conjs_in all no_more_conjs = tt
    conjs_in all (one_more_conj {t} {ts} e next more) =
        let behind = All-tail (IsTokenOf text) t ts all in (conj_in behind next, conjs_in (rest_all (IsTokenOf text) (conj_whole next) behind) more)

    conj_in : {ts rest : List Token} {c : Condition} → All (IsTokenOf text) ts → ReadsConj names text ts c rest → IsToldIn (version_of text) c
    conj_in all (reads_conj {c} {cs} first more) = in_all (version_of text) c cs (neg_in all first) (negs_in (rest_all (IsTokenOf text) (neg_whole first) all) more)

    negs_in : {ts rest : List Token} {cs : Conditions} → All (IsTokenOf text) ts → ReadsMoreNegs names text ts cs rest → AreToldIn (version_of text) cs
    negs_in all no_more_negs = tt
    negs_in all (one_more_neg {t} {ts} e next more) =
        let behind = All-tail (IsTokenOf text) t ts all in (neg_in behind next, negs_in (rest_all (IsTokenOf text) (neg_whole next) behind) more)

    neg_in : {ts rest : List Token} {c : Condition} → All (IsTokenOf text) ts → ReadsNeg names text ts c rest → IsToldIn (version_of text) c
    neg_in all (not_negated p) = prim_in all p
    neg_in all (reads_negated {t} {ts} e p) = prim_in (All-tail (IsTokenOf text) t ts all) p

    prim_in : {ts rest : List Token} {c : Condition} → All (IsTokenOf text) ts → ReadsPrim names text ts c rest → IsToldIn (version_of text) c
    prim_in all (reads_group {t} {u} {ts} e c f) = cond_in (All-tail (IsTokenOf text) t ts all) c
    prim_in all (reads_compared {word} {t} {ts} {middle} a e b) =
        let there = All-head (IsTokenOf text) t middle (rest_all (IsTokenOf text) (list_whole a) all) in
        known_word (version_of text) (comparing_word word) t.kind (token_stands there).known e

  -- a rule that was read is told by texts of the version of its own
  pub rule_in : {ts rest : List Token} {r : UnmarkedRule} → All (IsTokenOf text) ts → ReadsRule names text ts r rest → IsRuleToldIn (version_of text) r
  rule_in all (reads_rule {t} {u} {ts} {middle} {end} l e r given f) =
      let behind = All-tail (IsTokenOf text) t middle (rest_all (IsTokenOf text) (side_whole l) all) in
      given_in (rest_all (IsTokenOf text) (side_whole r) behind) given
    where
      given_in : {us vs : List Token} {o : Option Condition} → All (IsTokenOf text) us → ReadsCondIfGiven names text us o vs → IsToldIfGiven (version_of text) o
      given_in all no_cond = tt
      given_in all (some_cond {t} {ts} e c) = cond_in (All-tail (IsTokenOf text) t ts all) c
