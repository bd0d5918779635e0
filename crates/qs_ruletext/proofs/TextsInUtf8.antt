-- What is written of names in UTF-8 is in UTF-8: labels, patterns, conditions and rules.
use Rattle.std.proofs.Common.{◌≡◌, ℕ, zero, suc, ◌+◌, ◌<◌, ◌≤◌, ◌/◌, ◌%◌, Bool, true, false, cond, refl, List, [], ◌∷◌, ◌++◌, Option, Some, None, slice_get, unwrap_or, arith, eqb, ltb, codes, decimal, IsUtf8, mod-lt}
use Rattle.std.specs.Prelude.{nat_le}
use Rattle.std.specs.List.{All, list_all, flat_map}
use Rattle.std.specs.Fmt.{digits_onto, digits, digit_glyph}
use Rattle.std.proofs.lemmas.Bool.{ltb-true, and_parts}
use Rattle.std.proofs.lemmas.List.Elements.{All-head, All-tail, All-nil, All-cons}
use Rattle.std.proofs.lemmas.Str.{IsUtf8-nil, IsUtf8-append}
use Rattle.qs_lex.specs.Spelling.{suffix_of}
use Rattle.qs_tree.specs.declared.cell.Label.{Label}
use Rattle.qs_tree.specs.Text.{is_bare, name_of, label_text, between_quotes}
use Rattle.qs_pattern.specs.declared.variable.Var.{Var}
use Rattle.qs_pattern.specs.declared.pattern.Head.{Head}
use Rattle.qs_pattern.specs.declared.pattern.Head.TheVariants as head
use Rattle.qs_pattern.specs.Patterns.{Patterns, no_pattern, node_first, tree_var_first, forest_var_first, IsHeadInClass, AreInClass}
use Rattle.qs_pattern.specs.Conditions.{Comparing, within, outside, same, Joining, all, any, Condition, Conditions, compared, negated, combined, no_condition, condition_first, IsConditionInClass}
use Rattle.qs_pattern.specs.working.Conditions.{EachListOfAll}
use Rattle.qs_pattern.specs.Rules.{UnmarkedRule, IsInClassIfGiven}
use Rattle.qs_ruletext.specs.Rules.{IsWellRead, IsWellReadIfGiven}
use Rattle.qs_ruletext.specs.Reading.{comparing_word}
use Rattle.qs_ruletext.specs.Texts.{spaced_word, joining_word, joining_tightness, joined, in_parentheses, variable_text, head_text, kids_text, pattern_texts, list_text, side_text, tightness, member_text, condition_text, member_texts, condition_part}
use Rattle.qs_ruletext.specs.Written.{written}
use Rattle.qs_ruletext.proofs.NamesInUtf8.{AreUtf8, with_ascii_between, between_quotes_is}

-- an ASCII character before a text in UTF-8
pub with_ascii_first : (b : ℕ) (text : List ℕ) → b < 128 → IsUtf8 text → IsUtf8 (b ∷ text)
with_ascii_first b text ascii utf8 = with_ascii_between [] text b ascii IsUtf8-nil utf8

-- ASCII characters alone
pub ascii_is : (text : List ℕ) → list_all (λ b. ltb b 128) text ≡ true → IsUtf8 text
ascii_is [] e = IsUtf8-nil
ascii_is (b ∷ bs) e =
    let parts = and_parts (ltb b 128) (list_all (λ c. ltb c 128) bs) e in
    with_ascii_first b bs (ltb-true b 128 parts.0) (ascii_is bs parts.1)

-- one of two texts in UTF-8
either_is : (q : Bool) (this other : List ℕ) → IsUtf8 this → IsUtf8 other → IsUtf8 (cond q this other)
either_is true this other u v = u
either_is false this other u v = v

-- texts in UTF-8 one behind the other
pub flat_map_is : {X : Type 0} (f : X → List ℕ) (xs : List X) → All (λ x. IsUtf8 (f x)) xs → IsUtf8 (flat_map f xs)
flat_map_is f [] each = IsUtf8-nil
flat_map_is f (x ∷ xs) each = IsUtf8-append (f x) (flat_map f xs) (All-head (λ y. IsUtf8 (f y)) x xs each) (flat_map_is f xs (All-tail (λ y. IsUtf8 (f y)) x xs each))

-- and with a text between two of them
behind_each : (between : List ℕ) (texts : List (List ℕ)) → IsUtf8 between → All IsUtf8 texts → IsUtf8 (flat_map (λ t. between ++ t) texts)
behind_each between [] utf8 each = IsUtf8-nil
behind_each between (t ∷ ts) utf8 each =
    IsUtf8-append (between ++ t) (flat_map (λ u. between ++ u) ts) (IsUtf8-append between t utf8 (All-head IsUtf8 t ts each)) (behind_each between ts utf8 (All-tail IsUtf8 t ts each))

pub joined_is : (between : List ℕ) (texts : List (List ℕ)) → IsUtf8 between → All IsUtf8 texts → IsUtf8 (joined between texts)
joined_is between [] utf8 each = IsUtf8-nil
joined_is between (t ∷ ts) utf8 each = IsUtf8-append t (flat_map (λ u. between ++ u) ts) (All-head IsUtf8 t ts each) (behind_each between ts utf8 (All-tail IsUtf8 t ts each))

-- a text in parentheses
parentheses_are : (text : List ℕ) → IsUtf8 text → IsUtf8 (in_parentheses text)
parentheses_are text utf8 = IsUtf8-append (codes "(") (text ++ codes ")") (ascii_is (codes "(") refl) (IsUtf8-append text (codes ")") utf8 (ascii_is (codes ")") refl))

-- a number is written in digits, and these are ASCII characters
glyph_ascii : (d : ℕ) → d < 10 → digit_glyph false d < 128
glyph_ascii d small = by (ltb d 10)
  where
    by : (q : Bool) → cond q (48 + d) (87 + d) < 128
    by true = omega arith
    by false = omega arith

digits_are : (k n : ℕ) (behind : List ℕ) → IsUtf8 behind → IsUtf8 (digits_onto k 10 false n behind)
digits_are zero n behind utf8 = utf8
digits_are (suc k) n behind utf8 =
    let some : 0 < 10 = omega arith in
    let more : List ℕ = digit_glyph false (n % 10) ∷ behind in
    let is : IsUtf8 more = with_ascii_first (digit_glyph false (n % 10)) behind (glyph_ascii (n % 10) (mod-lt n some)) utf8 in
    either_is (eqb (n / 10) 0) more (digits_onto k 10 false (n / 10) more) is (digits_are k (n / 10) more is)

pub decimal_is : (n : ℕ) → IsUtf8 (decimal n)
unfolding digits
decimal_is n = digits_are 64 n [] IsUtf8-nil

-- what stands behind the star of a variable
suffix_is : (n : ℕ) → IsUtf8 (suffix_of n)
suffix_is zero = IsUtf8-nil
suffix_is (suc n) = decimal_is (suc n)

-- the letter of a variable is an ASCII letter where the variable stands at a place of its class
variable_is : (v : Var) → v.letter ≤ 90 → IsUtf8 (variable_text v)
variable_is v letter =
    let starred : IsUtf8 (42 ∷ suffix_of v.number) = with_ascii_first 42 (suffix_of v.number) (omega arith) (suffix_is v.number) in
    with_ascii_first v.letter (42 ∷ suffix_of v.number) (omega (arith, letter)) starred

-- a label is written as its text, or with each quote doubled between two quotes
pub label_text_is : (name : List ℕ) → IsUtf8 name → IsUtf8 (label_text name)
label_text_is name utf8 = either_is (is_bare name) name (between_quotes name) utf8 (between_quotes_is name utf8)

-- the text of a label: it is one of the names, or nothing
pub name_is : (names : List (List ℕ)) (l : Label) → AreUtf8 names → IsUtf8 (name_of names l)
name_is names l are = by (slice_get names l.0) refl
  where
    by : (o : Option (List ℕ)) → slice_get names l.0 ≡ o → IsUtf8 (unwrap_or o [])
    by None e = IsUtf8-nil
    by (Some name) e = are l.0 name e

module _ (names : List (List ℕ)) (are : AreUtf8 names) where
  -- the head of a pattern, and what stands behind it
  head_is : (h : Head) → IsHeadInClass h → IsUtf8 (head_text names h)
  head_is (head.Label l) c = label_text_is (name_of names l) (name_is names l are)
  head_is (head.Var v) c = variable_is v (omega (arith, c.1))

  kids_are : (texts : List (List ℕ)) → All IsUtf8 texts → IsUtf8 (kids_text texts)
  kids_are [] each = IsUtf8-nil
  kids_are (t ∷ ts) each = parentheses_are (joined (codes ",") (t ∷ ts)) (joined_is (codes ",") (t ∷ ts) (ascii_is (codes ",") refl) each)

  -- each of several patterns, and several in a list and on a side
  patterns_are : (ps : Patterns) → AreInClass ps → All IsUtf8 (pattern_texts names ps)
  patterns_are no_pattern c = All-nil IsUtf8
  patterns_are (node_first h kids behind) c =
      let text : IsUtf8 (head_text names h ++ kids_text (pattern_texts names kids)) =
      IsUtf8-append (head_text names h) (kids_text (pattern_texts names kids)) (head_is h c.0) (kids_are (pattern_texts names kids) (patterns_are kids c.1))
      in
      All-cons IsUtf8 (head_text names h ++ kids_text (pattern_texts names kids)) (pattern_texts names behind) text (patterns_are behind c.2)
  patterns_are (tree_var_first v behind) c = All-cons IsUtf8 (variable_text v) (pattern_texts names behind) (variable_is v (omega (arith, c.0.1))) (patterns_are behind c.1)
  patterns_are (forest_var_first v behind) c = All-cons IsUtf8 (variable_text v) (pattern_texts names behind) (variable_is v (omega (arith, c.0.1))) (patterns_are behind c.1)

  list_is : (ps : Patterns) → AreInClass ps → IsUtf8 (list_text names ps)
  list_is ps c = joined_is (codes ",") (pattern_texts names ps) (ascii_is (codes ",") refl) (patterns_are ps c)

  side_is : (ps : Patterns) → AreInClass ps → IsUtf8 (side_text names ps)
  side_is ps c = joined_is (codes " + ") (pattern_texts names ps) (ascii_is (codes " + ") refl) (patterns_are ps c)

  -- a word between spaces
  comparing_is : (word : Comparing) → IsUtf8 (spaced_word (comparing_word word))
  comparing_is within = ascii_is (spaced_word (comparing_word within)) refl
  comparing_is outside = ascii_is (spaced_word (comparing_word outside)) refl
  comparing_is same = ascii_is (spaced_word (comparing_word same)) refl

  joining_is : (word : Joining) → IsUtf8 (spaced_word (joining_word word))
  joining_is all = ascii_is (spaced_word (joining_word all)) refl
  joining_is any = ascii_is (spaced_word (joining_word any)) refl

  -- two lists with a word between them
  two_lists : (a b : Patterns) (word : List ℕ) → AreInClass a × AreInClass b → IsUtf8 word → IsUtf8 (list_text names a ++ (word ++ list_text names b))
  two_lists a b word c utf8 = IsUtf8-append (list_text names a) (word ++ list_text names b) (list_is a c.0) (IsUtf8-append word (list_text names b) utf8 (list_is b c.1))

  -- a member of a condition, and conditions
  member_is : (outer : ℕ) (c : Condition) (text : List ℕ) → IsUtf8 text → IsUtf8 (member_text outer c text)
  member_is outer c text utf8 = either_is (nat_le (tightness c) outer) (in_parentheses text) text (parentheses_are text utf8) utf8

  mutual
    condition_is : (c : Condition) → IsConditionInClass c → IsUtf8 (condition_text names c)
    condition_is (compared word a b) k = two_lists a b (spaced_word (comparing_word word)) k (comparing_is word)
    condition_is (negated c) k = IsUtf8-append (codes "-NON- ") (member_text 3 c (condition_text names c)) (ascii_is (codes "-NON- ") refl) (member_is 3 c (condition_text names c) (condition_is c k))
    condition_is (combined word cs) k =
        joined_is (spaced_word (joining_word word)) (member_texts names (joining_tightness word) cs) (joining_is word) (members_are (joining_tightness word) cs k)

    members_are : (outer : ℕ) (cs : Conditions) → EachListOfAll AreInClass cs → All IsUtf8 (member_texts names outer cs)
    members_are outer no_condition k = All-nil IsUtf8
    members_are outer (condition_first c cs) k =
        All-cons IsUtf8 (member_text outer c (condition_text names c)) (member_texts names outer cs) (member_is outer c (condition_text names c) (condition_is c k.0)) (members_are outer cs k.1)

  -- the condition of a rule, where there is one
  part_is : (o : Option Condition) → IsInClassIfGiven o → IsUtf8 (condition_part names o)
  part_is None k = IsUtf8-nil
  part_is (Some c) k = IsUtf8-append (codes " / ") (condition_text names c) (ascii_is (codes " / ") refl) (condition_is c k)

  -- a rule in which each variable stands at a place of its class
  pub rule_in_class : (r : UnmarkedRule) → AreInClass r.left → AreInClass r.right → IsInClassIfGiven r.condition → IsUtf8 (written names r)
  rule_in_class r left right condition =
      let part : List ℕ = condition_part names r.condition in
      let behind : List ℕ = side_text names r.right ++ (part ++ codes ".") in
      let ends : IsUtf8 (part ++ codes ".") = IsUtf8-append part (codes ".") (part_is r.condition condition) (ascii_is (codes ".") refl) in
      let follows : IsUtf8 behind = IsUtf8-append (side_text names r.right) (part ++ codes ".") (side_is r.right right) ends in
      IsUtf8-append (side_text names r.left) (codes " == " ++ behind) (side_is r.left left) (IsUtf8-append (codes " == ") behind (ascii_is (codes " == ") refl) follows)

-- a rule that was read
pub rule_text_is : (names : List (List ℕ)) (n : ℕ) (r : UnmarkedRule) → AreUtf8 names → IsWellRead n r → IsUtf8 (written names r)
rule_text_is names n r are well = rule_in_class names are r well.left.in_class well.right.in_class (if_given r.condition well.condition)
  where
    if_given : (o : Option Condition) → IsWellReadIfGiven n o → IsInClassIfGiven o
    if_given None w = tt
    if_given (Some c) w = w.in_class
