-- Rules that are written are read as they were, wherever they stand in a text.
use Rattle.std.proofs.Common.{◌≡◌, ℕ, ◌+◌, refl, sym, ap, subst, List, [], ◌++◌, length, codes, Option, Some, None}
use Rattle.qs_lex.specs.declared.token.Token.{Token}
use Rattle.qs_lex.specs.declared.token.Kind.TheVariants.{Slash, Equals, Stop}
use Rattle.qs_lex.specs.Tokens.{version_of, Reads, AreTokensOf}
use Rattle.qs_lex.specs.Grammar.{sort_of}
use Rattle.qs_pattern.specs.Conditions.{Condition}
use Rattle.qs_pattern.specs.Rules.{UnmarkedRule}
use Rattle.qs_ruletext.specs.Reading.{ReadsSide}
use Rattle.qs_ruletext.specs.Rules.{ReadsCondIfGiven, no_cond, some_cond, ReadsRule, reads_rule, IsWellReadSide, IsWellReadIfGiven, IsWellRead}
use Rattle.qs_ruletext.specs.Texts.{side_text, condition_text, condition_part}
use Rattle.qs_ruletext.specs.Written.{AreOnOneLine, IsToldIfGiven, IsRuleToldIn, written}
use Rattle.qs_ruletext.proofs.ReadBack.{Goes, both, turned, nothing, token, spaced, amid, alone, first_version}
use Rattle.qs_ruletext.proofs.Telling.{rule_later}
use Rattle.qs_ruletext.proofs.HeadsReadBack.{Closes}
use Rattle.qs_ruletext.proofs.PatternsReadBack.{sides_go}
use Rattle.qs_ruletext.proofs.ConditionsReadBack.{cond_goes}
use Rattle.qs_ruletext.proofs.OneRules.{one_rule}
use Rattle.qs_lex.proofs.Readings.{one_list}
use Rattle.qs_tree.specs.Names.{AreDistinct}

pub part_closes : (names : List (List ℕ)) (condition : Option Condition) (left : List ℕ) → Closes ((condition_part names condition ++ codes ".") ++ left)
part_closes names None left = refl
part_closes names (Some c) left = refl

module _ (names : List (List ℕ)) (text : List ℕ) (line : AreOnOneLine names) where
  part_goes : (condition : Option Condition) → IsWellReadIfGiven (length names) condition → IsToldIfGiven (version_of text) condition → (left : List ℕ) → Closes left
      → Goes text (λ ts rest. ReadsCondIfGiven names text ts condition rest) (condition_part names condition) left
  part_goes None w told left closes = turned text [] left (λ ts rest e. subst (λ us. ReadsCondIfGiven names text ts None us) e no_cond) (nothing text left)
  part_goes (Some c) w told left closes =
      turned text (codes " / " ++ condition_text names c) left
      (λ ts rest x. subst (λ us. ReadsCondIfGiven names text us (Some c) rest) (sym x.1.1) (some_cond (ap sort_of x.1.2) x.2))
      (both text (codes " / ") (condition_text names c) left (spaced text Slash tt (codes "/") (condition_text names c ++ left) refl tt refl)
      (cond_goes names text line c (w.named, w.in_class, w.enough, w.lists, told) left closes))

  side_goes : (left : List ℕ) (side : _) → IsWellReadSide (length names) side → Closes left → Goes text (λ ts rest. ReadsSide names text ts side rest) (side_text names side) left
  side_goes left side w closes = (sides_go names text line side w.named w.in_class w.no_forest_at_top).1 left closes w.some

  -- whatever follows: a rule ends with a stop
  pub rule_goes : (r : UnmarkedRule) → IsWellRead (length names) r → IsRuleToldIn (version_of text) r → (left : List ℕ)
      → Goes text (λ ts rest. ReadsRule names text ts r rest) (written names r) left
  rule_goes r w told left =
      let part : List ℕ = condition_part names r.condition in
      let behind_right : List ℕ = part ++ codes "." in
      let behind_equals : List ℕ = side_text names r.right ++ behind_right in
      let behind_left : List ℕ = codes " == " ++ behind_equals in
      turned text (side_text names r.left ++ behind_left) left
      (λ ts rest x.
      let equals = x.2.1 in
      let right = x.2.2.1 in
      let given = x.2.2.2.1 in
      let stop = x.2.2.2.2 in
      reads_rule
      (subst (λ us. ReadsSide names text ts r.left us) equals.1 x.1) (ap sort_of equals.2) right
      (subst (λ us. ReadsCondIfGiven names text x.2.2.0 r.condition us) stop.1 given) (ap sort_of stop.2))
      (both text (side_text names r.left) behind_left left
      (side_goes (behind_left ++ left) r.left w.left refl)
      (both text (codes " == ") behind_equals left
      (spaced text Equals tt (codes "==") (behind_equals ++ left) refl tt refl)
      (both text (side_text names r.right) behind_right left
      (side_goes (behind_right ++ left) r.right w.right (part_closes names r.condition left))
      (both text part (codes ".") left
      (part_goes r.condition w.condition told (codes "." ++ left) refl)
      (token text Stop tt (codes ".") left refl tt refl)))))

-- a rule between other things: where the tokens behind it are read, the rule and those tokens are
pub rule_within : (names : List (List ℕ)) (before behind : List ℕ) (r : UnmarkedRule) (rest : List Token) (next : ℕ)
    → AreOnOneLine names → IsWellRead (length names) r → IsRuleToldIn (version_of (before ++ (written names r ++ behind))) r
    → Reads (before ++ (written names r ++ behind)) (length before + length (written names r)) rest next
    → (ts : List Token) × Reads (before ++ (written names r ++ behind)) (length before) ts next
    × ReadsRule names (before ++ (written names r ++ behind)) ts r rest
rule_within names before behind r rest next line w told =
    amid before (written names r) behind rest next (rule_goes names (before ++ (written names r ++ behind)) line r w told behind)

-- a rule alone
pub rule_alone : (names : List (List ℕ)) (r : UnmarkedRule) → AreOnOneLine names → IsWellRead (length names) r → IsRuleToldIn 1 r
    → (ts : List Token) × AreTokensOf (written names r) ts × ReadsRule names (written names r) ts r []
rule_alone names r line w told = alone (written names r) (rule_goes names (written names r) line r w (rule_later (first_version (written names r)) r told) [])

-- and it is read as that rule only
pub rule_only : (names : List (List ℕ)) (r s : UnmarkedRule) (ts rest : List Token) → AreDistinct names → AreOnOneLine names → IsWellRead (length names) r → IsRuleToldIn 1 r
    → AreTokensOf (written names r) ts → ReadsRule names (written names r) ts s rest → (s ≡ r) × (rest ≡ [])
rule_only names r s ts rest distinct line w told are reads =
    let text : List ℕ = written names r in
    let x = rule_alone names r line w told in
    let same : x.0 ≡ ts = one_list text x.0 ts x.1 are in
    one_rule names text distinct reads (subst (λ us. ReadsRule names text us r []) same x.2)
