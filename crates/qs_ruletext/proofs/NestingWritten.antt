-- What is written of patterns, of conditions and of rules opens as many parentheses as their heights tell, and no more.
use Rattle.std.proofs.Common.{◌≡◌, ℕ, suc, ◌+◌, ◌≤◌, Bool, true, false, refl, sym, ap, subst, List, [], ◌∷◌, ◌++◌, length, arith, codes, Option, Some, None}
use Rattle.std.specs.Prelude.{nat_le, if◌then◌else◌}
use Rattle.std.specs.List.{flat_map}
use Rattle.qs_lex.specs.Limits.{most_open}
use Rattle.qs_lex.specs.declared.token.Kind.{Kind}
use Rattle.qs_lex.specs.declared.token.Kind.TheVariants.{Opening, Closing, Comma, Plus, Slash, Equals, Stop, Word as a_word}
use Rattle.qs_lex.specs.declared.token.Word.{Word}
use Rattle.qs_lex.specs.declared.token.Word.TheVariants.{Non}
use Rattle.qs_lex.specs.Spelling.{between_dashes, name_of as word_name, since}
use Rattle.qs_lex.specs.Tokens.{version_of}
use Rattle.qs_lex.specs.Grammar.{Sort, a_tree_variable, a_forest_variable, sort_of}
use Rattle.qs_pattern.specs.declared.variable.Var.{Var}
use Rattle.qs_pattern.specs.declared.pattern.Head.{Head}
use Rattle.qs_pattern.specs.Patterns.{Patterns, no_pattern, node_first, tree_var_first, forest_var_first, IsHeadInClass, AreInClass}
use Rattle.qs_pattern.specs.Conditions.{Joining, all, any, Condition, Conditions, compared, negated, combined, no_condition, condition_first, IsConditionInClass}
use Rattle.qs_pattern.specs.working.Conditions.{EachListOfAll}
use Rattle.qs_pattern.specs.Named.{IsHeadNamed, ArePatternsNamed, IsConditionNamed}
use Rattle.qs_pattern.specs.working.Named.{AreConditionsNamed}
use Rattle.qs_pattern.specs.Rules.{UnmarkedRule}
use Rattle.qs_ruletext.specs.Rules.{IsWellReadIfGiven, IsWellRead}
use Rattle.qs_ruletext.specs.Reading.{comparing_word}
use Rattle.qs_ruletext.specs.Texts.{spaced_word, joining_word, joining_tightness, joined, in_parentheses, variable_text, head_text, kids_text, pattern_texts, list_text, side_text, tightness, member_text, condition_text, member_texts, condition_part}
use Rattle.qs_ruletext.specs.Written.{AreOnOneLine, IsToldIn, AreToldIn, IsToldIfGiven, IsRuleToldIn, written}
use Rattle.qs_ruletext.proofs.ReadBack.{Goes, IsOne, both, turned, nothing, space, token, spaced, first_version}
use Rattle.qs_ruletext.proofs.HeadsReadBack.{Closes, AreVariable, head_goes, tree_variable_goes, forest_variable_goes}
use Rattle.qs_ruletext.proofs.Nesting.{Fits, below, height, member_height, condition_height, condition_heights, height_if_given, rule_height}
use Rattle.qs_ruletext.proofs.NestingSteps.{behind_sort, keeps, head_keeps, Opens, opens_less, opens_none, opens_both, opens_one, opens_group}
use Rattle.qs_ruletext.proofs.PatternsReadBack.{kids_close}
use Rattle.qs_ruletext.proofs.RulesReadBack.{part_closes}

-- a label and a variable end where further texts are behind them, each behind something before which they end
others_close : (b : ℕ) (bs : List ℕ) → Closes (b ∷ []) → (texts : List (List ℕ)) (left : List ℕ) → Closes left → Closes (flat_map (λ t. (b ∷ bs) ++ t) texts ++ left)
others_close b bs closes [] left c = c
others_close b bs closes (t ∷ ts) left c = closes

module _ (text : List ℕ) where
  -- what opens at most so many opens at most as many as any greater number
  pub goes_less : {a b : ℕ} (piece left : List ℕ) → Goes text (Opens a) piece left → a ≤ b → Goes text (Opens b) piece left
  goes_less piece left go less = turned text piece left (λ ts rest o. opens_less o less) go

  -- nothing
  pub none_goes : (n : ℕ) (left : List ℕ) → Goes text (Opens n) [] left
  none_goes n left = turned text [] left (λ ts rest e. opens_none n e) (nothing text left)

  -- one piece behind the other
  pub both_go : {n : ℕ} (a b left : List ℕ) → Goes text (Opens n) a (b ++ left) → Goes text (Opens n) b left → Goes text (Opens n) (a ++ b) left
  both_go a b left f g = turned text (a ++ b) left (λ ts rest x. opens_both x.1 x.2) (both text a b left f g)

  -- a token that is no parenthesis
  pub one_goes : (n : ℕ) (kind : Kind) (bytes piece left : List ℕ) → ((m : ℕ) → behind_sort m (sort_of kind) ≡ m) → Goes text (IsOne text kind bytes) piece left → Goes text (Opens n) piece left
  one_goes n kind bytes piece left same go =
      turned text piece left
      (λ ts rest x. subst (λ us. Opens n us rest) (sym x.1) (opens_one n x.0 rest (keeps (sort_of kind) x.0 same (ap sort_of x.2))))
      go

  -- what is in parentheses
  pub group_goes : {n : ℕ} (piece left : List ℕ) → Goes text (Opens n) piece (codes ")" ++ left) → Goes text (Opens (suc n)) (in_parentheses piece) left
  group_goes {n} piece left go =
      turned text (in_parentheses piece) left
      (λ ts rest x.
      let inside = subst (λ us. Opens n x.0 us) x.2.2.1 x.2.1 in
      subst (λ us. Opens (suc n) us rest) (sym x.1.1) (opens_group x.1.0 x.2.2.0 (ap sort_of x.1.2) inside (ap sort_of x.2.2.2)))
      (both text (codes "(") (piece ++ codes ")") left
      (token text Opening tt (codes "(") ((piece ++ codes ")") ++ left) refl tt refl)
      (both text piece (codes ")") left go (token text Closing tt (codes ")") left refl tt refl)))

  -- wherever a label and a variable end behind it, the piece opens at most so many
  abbrev pub OpensUpTo : ℕ → List ℕ → Type 0
  OpensUpTo n piece = (left : List ℕ) → Closes left → Goes text (Opens n) piece left

  -- each of these does
  abbrev EachUpTo : ℕ → List (List ℕ) → Type 0
  EachUpTo n [] = Unit {0}
  EachUpTo n (t ∷ ts) = OpensUpTo n t × EachUpTo n ts

  each_less : {a b : ℕ} (texts : List (List ℕ)) → EachUpTo a texts → a ≤ b → EachUpTo b texts
  each_less [] each less = tt
  each_less (t ∷ ts) each less = (λ left c. goes_less t left (each.0 left c) less, each_less ts each.1 less)

  -- this can stand between two texts, and opens none
  record Separates (between : List ℕ) : Type 0 where
    goes : (n : ℕ) (left : List ℕ) → Goes text (Opens n) between left
    closes : (texts : List (List ℕ)) (left : List ℕ) → Closes left → Closes (flat_map (λ t. between ++ t) texts ++ left)

  -- what stands between two patterns, and between two members of a condition
  comma_separates : Separates (codes ",")
  comma_separates = record {
    goes = λ n left. one_goes n Comma (codes ",") (codes ",") left (λ m. refl) (token text Comma tt (codes ",") left refl tt refl);
    closes = others_close 44 [] refl;
  }

  plus_separates : Separates (codes " + ")
  plus_separates = record {
    goes = λ n left. one_goes n Plus (codes "+") (codes " + ") left (λ m. refl) (spaced text Plus tt (codes "+") left refl tt refl);
    closes = others_close 32 (codes "+ ") refl;
  }

  joining_known : (word : Joining) → since (joining_word word) ≤ version_of text
  joining_known all = first_version text
  joining_known any = first_version text

  word_separates : (word : Word) → since word ≤ version_of text → Separates (spaced_word word)
  word_separates word known =
      let bytes : List ℕ = between_dashes (word_name word) in
      record {
        goes = λ n left. one_goes n (a_word word) bytes (spaced_word word) left (λ m. refl) (spaced text (a_word word) known bytes left refl tt refl);
        closes = others_close 32 (bytes ++ codes " ") refl;
      }

  -- texts that each open at most so many open at most so many, one behind the other
  module _ {between : List ℕ} (separates : Separates between) {n : ℕ} where
    others_go : (texts : List (List ℕ)) → EachUpTo n texts → OpensUpTo n (flat_map (λ t. between ++ t) texts)
    others_go [] each left c = none_goes n left
    others_go (t ∷ ts) each left c =
        let others : List ℕ = flat_map (λ t. between ++ t) ts in
        both_go (between ++ t) others left
        (both_go between t (others ++ left) (separates.goes n (t ++ (others ++ left))) (each.0 (others ++ left) (separates.closes ts left c)))
        (others_go ts each.1 left c)

    joined_go : (texts : List (List ℕ)) → EachUpTo n texts → OpensUpTo n (joined between texts)
    joined_go [] each left c = none_goes n left
    joined_go (t ∷ ts) each left c =
        both_go t (flat_map (λ t. between ++ t) ts) left (each.0 (flat_map (λ t. between ++ t) ts ++ left) (separates.closes ts left c)) (others_go ts each.1 left c)

  -- a member of a condition, with parentheses where it isn't tighter
  member_goes : {n : ℕ} (outer : ℕ) (c : Condition) (piece : List ℕ) → OpensUpTo n piece → OpensUpTo (member_height outer c n) (member_text outer c piece)
  member_goes {n} outer c piece go left closes = by_tightness (nat_le (tightness c) outer)
    where
      by_tightness : (grouped : Bool) → Goes text (Opens (if grouped then suc n else n)) (if grouped then in_parentheses piece else piece) left
      by_tightness true = group_goes piece left (go (codes ")" ++ left) refl)
      by_tightness false = go left closes

  -- a variable for a tree or for a forest
  variable_keeps : (sort : Sort) (v : Var) (n : ℕ) (left : List ℕ) → ((m : ℕ) → behind_sort m sort ≡ m) → Goes text (AreVariable text sort v) (variable_text v) left → Goes text (Opens n) (variable_text v) left
  variable_keeps sort v n left same go =
      turned text (variable_text v) left (λ ts rest x. subst (λ us. Opens n us rest) (sym x.1) (opens_one n x.0 rest (keeps sort x.0 same x.2.of_sort))) go

  module _ (names : List (List ℕ)) (line : AreOnOneLine names) where
    -- labels and variables
    pub head_opens : (n : ℕ) (h : Head) → IsHeadNamed (length names) h → IsHeadInClass h → OpensUpTo n (head_text names h)
    head_opens n h named class left c =
        turned text (head_text names h) left
        (λ ts rest x. subst (λ us. Opens n us rest) (sym x.1) (opens_one n x.0 rest (head_keeps names text x.0 h x.2)))
        (head_goes text names h left line named class c)

    -- below a head
    kids_go : (ps : Patterns) → EachUpTo (height ps) (pattern_texts names ps) → (left : List ℕ) → Goes text (Opens (below ps (height ps))) (kids_text (pattern_texts names ps)) left
    kids_go no_pattern each left = none_goes 0 left
    kids_go (node_first h kids ps) each left = group_goes _ left (joined_go comma_separates (pattern_texts names (node_first h kids ps)) each (codes ")" ++ left) refl)
    kids_go (tree_var_first v ps) each left = group_goes _ left (joined_go comma_separates (pattern_texts names (tree_var_first v ps)) each (codes ")" ++ left) refl)
    kids_go (forest_var_first v ps) each left = group_goes _ left (joined_go comma_separates (pattern_texts names (forest_var_first v ps)) each (codes ")" ++ left) refl)

    -- each pattern of a list
    patterns_go : (ps : Patterns) → ArePatternsNamed (length names) ps → AreInClass ps → EachUpTo (height ps) (pattern_texts names ps)
    patterns_go no_pattern named class = tt
    patterns_go (node_first h kids ps) named class =
        let inside : List (List ℕ) = pattern_texts names kids in (
          λ left c.
              both_go (head_text names h) (kids_text inside) left (head_opens _ h named.0 class.0 (kids_text inside ++ left) (kids_close inside left c))
              (goes_less (kids_text inside) left (kids_go kids (patterns_go kids named.1 class.1) left) (omega arith)),
          each_less (pattern_texts names ps) (patterns_go ps named.2 class.2) (omega arith),
        )
    patterns_go (tree_var_first v ps) named class =
        (λ left c. variable_keeps a_tree_variable v _ left (λ m. refl) (tree_variable_goes text v left class.0 c), patterns_go ps named class.1)
    patterns_go (forest_var_first v ps) named class =
        (λ left c. variable_keeps a_forest_variable v _ left (λ m. refl) (forest_variable_goes text v left class.0 c), patterns_go ps named class.1)

    -- a list in a condition, and a side of a rule
    pub list_opens : (ps : Patterns) → ArePatternsNamed (length names) ps → AreInClass ps → OpensUpTo (height ps) (list_text names ps)
    list_opens ps named class = joined_go comma_separates (pattern_texts names ps) (patterns_go ps named class)

    pub side_opens : (ps : Patterns) → ArePatternsNamed (length names) ps → AreInClass ps → OpensUpTo (height ps) (side_text names ps)
    side_opens ps named class = joined_go plus_separates (pattern_texts names ps) (patterns_go ps named class)

    -- two lists with a word between them
    lists_open : (a b : Patterns) (word : List ℕ) → ArePatternsNamed (length names) a × ArePatternsNamed (length names) b → AreInClass a × AreInClass b → ((n : ℕ) (left : List ℕ) → Goes text (Opens n) word left)
        → ((behind left : List ℕ) → Closes ((word ++ behind) ++ left)) → (n : ℕ) → height a ≤ n → height b ≤ n → OpensUpTo n (list_text names a ++ (word ++ list_text names b))
    lists_open a b word named class go closes n a_fits b_fits left c =
        let behind : List ℕ = word ++ list_text names b in
        both_go (list_text names a) behind left
        (goes_less (list_text names a) (behind ++ left) (list_opens a named.0 class.0 (behind ++ left) (closes (list_text names b) left)) a_fits)
        (both_go word (list_text names b) left (go n (list_text names b ++ left)) (goes_less (list_text names b) left (list_opens b named.1 class.1 left c) b_fits))

    -- a word and what it negates
    negated_opens : (c : Condition) → OpensUpTo (condition_height c) (condition_text names c) → OpensUpTo (condition_height (negated c)) (condition_text names (negated c))
    negated_opens c go left closes =
        let member : List ℕ = member_text 3 c (condition_text names c) in
        both_go (codes "-NON- ") member left
        (both_go (codes "-NON-") (codes " ") (member ++ left)
        (one_goes _ (a_word Non) (codes "-NON-") (codes "-NON-") (codes " " ++ (member ++ left)) (λ m. refl) (token text (a_word Non) (first_version text) (codes "-NON-") (codes " " ++ (member ++ left)) refl tt refl))
        (turned text (codes " ") (member ++ left) (λ ts rest e. opens_none _ e) (space text (member ++ left))))
        (member_goes 3 c (condition_text names c) go left closes)

    -- a condition, and each of its members
    mutual
      pub condition_opens : (c : Condition) → IsConditionNamed (length names) c → IsConditionInClass c → IsToldIn (version_of text) c → OpensUpTo (condition_height c) (condition_text names c)
      condition_opens (compared word a b) named class told =
          lists_open a b (spaced_word (comparing_word word)) named class (word_separates (comparing_word word) told).goes (λ behind left. refl) _ (omega arith) (omega arith)
      condition_opens (negated c) named class told = negated_opens c (condition_opens c named class told)
      condition_opens (combined word cs) named class told =
          joined_go (word_separates (joining_word word) (joining_known word)) (member_texts names (joining_tightness word) cs) (members_open (joining_tightness word) cs named class told)

      members_open : (outer : ℕ) (cs : Conditions) → AreConditionsNamed (length names) cs → EachListOfAll AreInClass cs → AreToldIn (version_of text) cs → EachUpTo (condition_heights outer cs) (member_texts names outer cs)
      members_open outer no_condition named class told = tt
      members_open outer (condition_first c cs) named class told = (
        λ left closes. goes_less (member_text outer c (condition_text names c)) left (member_goes outer c (condition_text names c) (condition_opens c named.0 class.0 told.0) left closes) (omega arith),
        each_less (member_texts names outer cs) (members_open outer cs named.1 class.1 told.1) (omega arith),
      )

    given_opens : (condition : Option Condition) → IsWellReadIfGiven (length names) condition → IsToldIfGiven (version_of text) condition → OpensUpTo (height_if_given condition) (condition_part names condition)
    given_opens None w told left closes = none_goes 0 left
    given_opens (Some c) w told left closes =
        both_go (codes " / ") (condition_text names c) left
        (one_goes _ Slash (codes "/") (codes " / ") (condition_text names c ++ left) (λ m. refl) (spaced text Slash tt (codes "/") (condition_text names c ++ left) refl tt refl))
        (condition_opens c w.named w.in_class told left closes)

    -- whatever follows: a rule ends with a stop
    pub rule_opens : (r : UnmarkedRule) → IsWellRead (length names) r → IsRuleToldIn (version_of text) r → (left : List ℕ) → Goes text (Opens (rule_height r)) (written names r) left
    rule_opens r w told left =
        let part : List ℕ = condition_part names r.condition in
        let behind_right : List ℕ = part ++ codes "." in
        let behind_equals : List ℕ = side_text names r.right ++ behind_right in
        let behind_left : List ℕ = codes " == " ++ behind_equals in
        both_go (side_text names r.left) behind_left left
        (goes_less (side_text names r.left) (behind_left ++ left) (side_opens r.left w.left.named w.left.in_class (behind_left ++ left) refl) (omega arith))
        (both_go (codes " == ") behind_equals left
        (one_goes _ Equals (codes "==") (codes " == ") (behind_equals ++ left) (λ m. refl) (spaced text Equals tt (codes "==") (behind_equals ++ left) refl tt refl))
        (both_go (side_text names r.right) behind_right left
        (goes_less (side_text names r.right) (behind_right ++ left) (side_opens r.right w.right.named w.right.in_class (behind_right ++ left) (part_closes names r.condition left)) (omega arith))
        (both_go part (codes ".") left
        (goes_less part (codes "." ++ left) (given_opens r.condition w.condition told (codes "." ++ left) refl) (omega arith))
        (one_goes _ Stop (codes ".") (codes ".") left (λ m. refl) (token text Stop tt (codes ".") left refl tt refl)))))

-- the same in plain words: where as many more parentheses as the rule needs may be open, and what stands behind the rule
-- fits, the rule and what stands behind it do
pub rule_goes_fitting : (names : List (List ℕ)) (text : List ℕ) → AreOnOneLine names → (r : UnmarkedRule) → IsWellRead (length names) r → IsRuleToldIn (version_of text) r → (left : List ℕ)
    → Goes text (λ ts rest. (depth : ℕ) → rule_height r + depth ≤ most_open → Fits depth rest → Fits depth ts) (written names r) left
rule_goes_fitting names text line r w told left = turned text (written names r) left (λ ts rest o. o.fits) (rule_opens text names line r w told left)
