-- Tokens are read as a rule in one way only, and as rules up to where none goes on.
use Rattle.std.proofs.Common.{◌≡◌, ℕ, refl, sym, ◌∙◌, ap, subst, ◌↔◌, List, [], ◌∷◌, ◌++◌, drop, map, Option, Some}
use Rattle.std.proofs.lemmas.List.{append_cancel_right}
use Rattle.qs_lex.specs.declared.token.Token.{Token}
use Rattle.qs_lex.specs.Grammar.{Sort, a_label, a_label_variable, slash, equals, stop, IsOf, Form, one, part, ◌∣◌, Begins, begins_token, begins_part, begins_first, begins_this, begins_other}
use Rattle.qs_lex.specs.Expecting.{NextIsNo}
use Rattle.qs_tree.specs.Names.{AreDistinct}
use Rattle.qs_pattern.specs.declared.pattern.Head.{Head}
use Rattle.qs_pattern.specs.declared.pattern.Head.TheVariants as head
use Rattle.qs_pattern.specs.Patterns.{Patterns}
use Rattle.qs_pattern.specs.Conditions.{Condition}
use Rattle.qs_pattern.specs.Rules.{UnmarkedRule}
use Rattle.qs_ruletext.specs.WrittenRules.{WrittenRule}
use Rattle.qs_ruletext.specs.Grammar.{Part, rule, tree, line}
use Rattle.qs_ruletext.specs.Reading.{IsHeadOf, ReadsTree, reads_node, reads_tree_variable, ReadsSide, reads_side}
use Rattle.qs_ruletext.specs.Rules.{ReadsCondIfGiven, no_cond, some_cond, ReadsRule, reads_rule, ReadsWrittenRule, ReadsRules, cell_bytes, NoRuleAt}
use Rattle.qs_ruletext.specs.Endings.{NoRuleIn}
use Rattle.qs_reader.proofs.Tokens.{label_sort}
use Rattle.qs_reader.proofs.Between.{next_at, at_next}
use Rattle.qs_ruletext.proofs.OneReading.{after_side, after_cond, fails_for, one_sort, same_rest, one_side, one_cond}

-- what is read as a rule has a first token, and that begins a rule
abbrev FirstBegins : Form Part → List Token → Type 0
FirstBegins f ts = (t : Token) × (us : List Token) × (ts ≡ t ∷ us) × Begins line f (t ∷ [])

head_begins : (names : List (List ℕ)) (text : List ℕ) (t : Token) (h : Head) → IsHeadOf names text t h → Begins line (one a_label ∣ one a_label_variable) (t ∷ [])
head_begins names text t (head.Label l) is = begins_this (begins_token (label_sort text t is.spelling is.of_token))
head_begins names text t (head.Var v) is = begins_other (begins_token is.of_sort)

tree_begins : {names : List (List ℕ)} {text : List ℕ} {ts rest : List Token} {p : Patterns} → ReadsTree names text ts p rest → FirstBegins (part tree) ts
tree_begins {names} {text} (reads_node {t} {h} {ts} is below) = (t, ts, refl, begins_part (begins_this (begins_first (head_begins names text t h is))))
tree_begins (reads_tree_variable {t} {rest} is) = (t, rest, refl, begins_part (begins_other (begins_token is.of_sort)))

rule_begins : {names : List (List ℕ)} {text : List ℕ} {ts rest : List Token} {r : UnmarkedRule} → ReadsRule names text ts r rest → FirstBegins (part rule) ts
rule_begins (reads_rule (reads_side first more) e right given f) =
    let b = tree_begins first in
    (b.0, b.1, b.2, begins_part (begins_first (begins_part (begins_first b.3))))

-- the first token, where there is one, is of this sort
abbrev NextIs : Sort → List Token → Type 0
NextIs s [] = ⊥
NextIs s (t ∷ ts) = IsOf s t

no_rule : {names : List (List ℕ)} {text : List ℕ} {ts rest : List Token} {r : UnmarkedRule} → NoRuleIn ts → ReadsRule names text ts r rest → ⊥
no_rule none r = let b = rule_begins r in none b.0 b.1 b.2 b.3

module _ (names : List (List ℕ)) (text : List ℕ) (distinct : AreDistinct names) where
  one_given : {ts rest end : List Token} {c d : Option Condition} → ReadsCondIfGiven names text ts c rest → ReadsCondIfGiven names text ts d end
      → NextIs stop rest → NextIs stop end → NextIsNo after_cond rest → NextIsNo after_cond end → (c ≡ d) × (rest ≡ end)
  one_given no_cond no_cond s r n m = (refl, refl)
  one_given no_cond (some_cond {t} e d) s r n m = absurd (one_sort stop slash t refl s e)
  one_given (some_cond {t} e c) no_cond s r n m = absurd (one_sort stop slash t refl r e)
  one_given (some_cond e c) (some_cond f d) s r n m = let same = one_cond names text distinct c d n m in (λ i. Some (same.0 i), same.1)

  -- what stands behind the right side
  behind_side : {ts rest : List Token} {c : Option Condition} → ReadsCondIfGiven names text ts c rest → NextIs stop rest → NextIsNo after_side ts
  behind_side (no_cond {ts}) s = by_next ts s
    where
      by_next : (us : List Token) → NextIs stop us → NextIsNo after_side us
      by_next [] s = absurd s
      by_next (u ∷ us) s = fails_for after_side stop u refl s
  behind_side (some_cond {t} e c) s = fails_for after_side slash t refl e

  pub one_rule : {ts rest end : List Token} {r s : UnmarkedRule} → ReadsRule names text ts r rest → ReadsRule names text ts s end → (r ≡ s) × (rest ≡ end)
  one_rule {rest} {end} (reads_rule {t} {u} left e right given stops) (reads_rule {t = v} {u = w} {end = edge} {right = there} {condition} also f next maybe halts) =
      let lefts = one_side names text distinct left also (fails_for after_side equals t refl e) (fails_for after_side equals v refl f) in
      let moved = subst (λ us. ReadsSide names text us there edge) (sym (same_rest lefts.1)) next in
      let rights = one_side names text distinct right moved (behind_side given stops) (behind_side maybe halts) in
      let carried = subst (λ us. ReadsCondIfGiven names text us condition (w ∷ end)) (sym rights.1) maybe in
      let conditions = one_given given carried stops halts (fails_for after_cond stop u refl stops) (fails_for after_cond stop w refl halts) in
      (λ i. record { left = lefts.0 i; right = rights.0 i; condition = conditions.0 i }, same_rest conditions.1)

  -- the bytes of the cells are those of the tokens that were passed
  one_bytes : (ts middle between : List Token) (r s : WrittenRule) → ReadsWrittenRule names text ts r middle → ReadsWrittenRule names text ts s between → middle ≡ between → r.at ≡ s.at
  one_bytes ts middle between r s f g same =
      let fronts : f.tokens ++ middle ≡ g.tokens ++ middle = sym f.are ∙ g.are ∙ ap (λ us. g.tokens ++ us) (sym same) in
      f.at ∙ ap cell_bytes (append_cancel_right f.tokens g.tokens middle fronts) ∙ sym g.at

  pub one_rules : (raws others : List WrittenRule) (ts rest end : List Token) → ReadsRules names text ts raws rest → ReadsRules names text ts others end → NoRuleIn rest → NoRuleIn end
      → (map (λ raw. raw.rule) raws ≡ map (λ raw. raw.rule) others) × (map (λ raw. raw.at) raws ≡ map (λ raw. raw.at) others) × (rest ≡ end)
  one_rules [] [] ts rest end e f none stops = (refl, refl, sym e ∙ f)
  one_rules [] (s ∷ others) ts rest end e g none stops = absurd (no_rule (subst NoRuleIn (sym e) none) g.1.rule)
  one_rules (r ∷ raws) [] ts rest end f e none stops = absurd (no_rule (subst NoRuleIn (sym e) stops) f.1.rule)
  one_rules (r ∷ raws) (s ∷ others) ts rest end f g none stops =
      let here = one_rule f.1.rule g.1.rule in
      let bytes = one_bytes ts f.0 g.0 r s f.1 g.1 here.1 in
      let there = one_rules raws others f.0 rest end f.2 (subst (λ us. ReadsRules names text us others end) (sym here.1) g.2) none stops in
      (λ i. here.0 i ∷ there.0 i, λ i. bytes i ∷ there.1 i, there.2)

pub no_rule_from : (tokens : List Token) (at : ℕ) → NoRuleAt tokens at ↔ NoRuleIn (drop at tokens)
no_rule_from tokens at =
    (λ none t ts e b. none t (next_at tokens ts at t e) b, λ none t e b. let f = at_next tokens at t e in none t f.0 f.1 b)
