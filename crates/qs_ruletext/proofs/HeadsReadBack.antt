-- Labels and variables that are written are read as they were.
use Rattle.std.proofs.Common.{◌≡◌, ℕ, zero, suc, ◌<◌, ◌≤◌, Bool, true, false, ◌||◌, cond, refl, sym, ap, ◌∙◌, subst, List, [], ◌∷◌, ◌++◌, length, arith, Some, slice_get, unwrap_or, eqb}
use Rattle.std.specs.Prelude.{not}
use Rattle.std.specs.List.{list_all}
use Rattle.std.specs.Char.{is_ascii_digit}
use Rattle.std.specs.Int.{is_in_range}
use Rattle.std.proofs.lemmas.Bool.{cond-true, cond-false, or_parts, and_parts}
use Rattle.std.proofs.lemmas.Bool.Decides.{nat_tests}
use Rattle.qs_lex.specs.declared.token.Token.{Token}
use Rattle.qs_lex.specs.declared.token.Kind.{Kind}
use Rattle.qs_lex.specs.declared.token.Kind.TheVariants.{Bare, Quoted, Variable}
use Rattle.qs_lex.specs.Characters.{is_space, is_variable_letter, ends_line, BeginsWithNo, Each}
use Rattle.qs_lex.specs.Spelling.{EndsBefore, IsLabelText, suffix_of}
use Rattle.qs_lex.specs.Tokens.{blank_len, bytes_of, HasLabelText}
use Rattle.qs_lex.specs.Grammar.{Sort, a_label_variable, a_tree_variable, a_forest_variable, sort_of, variable_sort}
use Rattle.qs_lex.proofs.Choices.{each_from_all}
use Rattle.qs_lex.proofs.Scanned.{letter_is_label}
use Rattle.qs_tree.specs.Text.{is_bare, is_label_byte, name_of, label_text, between_quotes}
use Rattle.qs_pattern.specs.declared.variable.Var.{Var}
use Rattle.qs_pattern.specs.declared.pattern.Head.{Head}
use Rattle.qs_pattern.specs.declared.pattern.Head.TheVariants as head
use Rattle.qs_pattern.specs.Variables.{IsLabelVar, IsTreeVar, IsForestVar}
use Rattle.qs_pattern.specs.Patterns.{IsHeadInClass}
use Rattle.qs_pattern.specs.Named.{IsHeadNamed}
use Rattle.qs_ruletext.specs.Reading.{IsVariableOf, IsHeadOf}
use Rattle.qs_ruletext.specs.Texts.{variable_text, head_text}
use Rattle.qs_ruletext.specs.Written.{AreOnOneLine}
use Rattle.qs_ruletext.proofs.ReadBack.{Goes, turned, token}

-- behind it any label and any variable ends
abbrev pub Closes : List ℕ → Type 0
Closes left = BeginsWithNo (λ b. (is_label_byte b || eqb b 42) || eqb b 34) left

bare_ends : (left : List ℕ) → Closes left → EndsBefore Bare left
bare_ends [] c = tt
bare_ends (b ∷ bs) c = (or_parts (is_label_byte b || eqb b 42) (eqb b 34) c).0

quoted_ends : (left : List ℕ) → Closes left → EndsBefore Quoted left
quoted_ends [] c = tt
quoted_ends (b ∷ bs) c = (or_parts (is_label_byte b || eqb b 42) (eqb b 34) c).1

no_digit : (b : ℕ) → is_label_byte b ≡ false → is_ascii_digit b ≡ false
no_digit b e = grind (arith, nat_tests)

variable_ends : (v : Var) (left : List ℕ) → Closes left → EndsBefore (Variable v.letter v.number) left
variable_ends v [] c = tt
variable_ends v (b ∷ bs) c = no_digit b (or_parts (is_label_byte b) (eqb b 42) (bare_ends (b ∷ bs) c)).0

-- a label character begins no white space and no comment
no_sign : (b : ℕ) → is_label_byte b ≡ true → eqb b 35 ≡ false
no_sign b e = grind (arith, nat_tests)

no_space : (b : ℕ) → is_label_byte b ≡ true → is_space b ≡ false
no_space b e = grind (arith, nat_tests)

label_no_blank : (b : ℕ) (bs : List ℕ) → is_label_byte b ≡ true → blank_len (b ∷ bs) ≡ 0
label_no_blank b bs e = cond-false (eqb b 35) _ _ (no_sign b e) ∙ cond-false (is_space b) _ _ (no_space b e)

bare_no_blank : (name left : List ℕ) → 0 < length name → Each is_label_byte name → blank_len (name ++ left) ≡ 0
bare_no_blank [] left some each = absurd (omega arith)
bare_no_blank (b ∷ bs) left some each = label_no_blank b (bs ++ left) each.0

-- the letters of a class
label_letter : (l : ℕ) → 65 ≤ l → l ≤ 70 → (is_variable_letter l ≡ true) × (variable_sort l ≡ a_label_variable)
label_letter l from to =
    let in_range : is_in_range 65 70 l ≡ true = grind (arith, nat_tests) in
    (rw in_range refl, cond-true (is_in_range 65 70 l) _ _ in_range)

tree_letter : (l : ℕ) → 73 ≤ l → l ≤ 78 → (is_variable_letter l ≡ true) × (variable_sort l ≡ a_tree_variable)
tree_letter l from to =
    let no_label : is_in_range 65 70 l ≡ false = grind (arith, nat_tests) in
    let in_range : is_in_range 73 78 l ≡ true = grind (arith, nat_tests) in
    (rw (no_label, in_range) refl, cond-false (is_in_range 65 70 l) _ _ no_label ∙ cond-true (is_in_range 73 78 l) _ _ in_range)

forest_letter : (l : ℕ) → 85 ≤ l → l ≤ 90 → (is_variable_letter l ≡ true) × (variable_sort l ≡ a_forest_variable)
forest_letter l from to =
    let no_label : is_in_range 65 70 l ≡ false = grind (arith, nat_tests) in
    let no_tree : is_in_range 73 78 l ≡ false = grind (arith, nat_tests) in
    let in_range : is_in_range 85 90 l ≡ true = grind (arith, nat_tests) in
    (rw (no_label, no_tree, in_range) refl, cond-false (is_in_range 65 70 l) _ _ no_label ∙ cond-false (is_in_range 73 78 l) _ _ no_tree)

-- the label of a name, by whether it is bare
is_named : (names : List (List ℕ)) (k : ℕ) → k < length names → slice_get names k ≡ Some (unwrap_or (slice_get names k) [])
is_named [] k within = absurd (omega arith)
is_named (x ∷ names) zero within = refl
is_named (x ∷ names) (suc k) within = is_named names k (omega arith)

module _ (text : List ℕ) where
  -- the token of a variable of this sort
  abbrev pub AreVariable : Sort → Var → List Token → List Token → Type 0
  AreVariable sort v ts rest = (t : Token) × (ts ≡ t ∷ rest) × IsVariableOf sort t v

  variable_goes : (sort : Sort) (v : Var) (left : List ℕ) → (is_variable_letter v.letter ≡ true) × (variable_sort v.letter ≡ sort) → Closes left → Goes text (AreVariable sort v) (variable_text v) left
  variable_goes sort v left of c =
      turned text (variable_text v) left
      (λ ts rest x. (x.0, x.1, record { of_sort = ap sort_of x.2 ∙ of.1; variable = x.2 }))
      (token text (Variable v.letter v.number) tt (variable_text v) left (of.0, v.known.1, refl) (variable_ends v left c)
      (label_no_blank v.letter (42 ∷ (suffix_of v.number ++ left)) (letter_is_label v.letter of.0)))

  pub label_variable_goes : (v : Var) (left : List ℕ) → IsLabelVar v → Closes left → Goes text (AreVariable a_label_variable v) (variable_text v) left
  label_variable_goes v left is c = variable_goes a_label_variable v left (label_letter v.letter is.0 is.1) c

  pub tree_variable_goes : (v : Var) (left : List ℕ) → IsTreeVar v → Closes left → Goes text (AreVariable a_tree_variable v) (variable_text v) left
  tree_variable_goes v left is c = variable_goes a_tree_variable v left (tree_letter v.letter is.0 is.1) c

  pub forest_variable_goes : (v : Var) (left : List ℕ) → IsForestVar v → Closes left → Goes text (AreVariable a_forest_variable v) (variable_text v) left
  forest_variable_goes v left is c = variable_goes a_forest_variable v left (forest_letter v.letter is.0 is.1) c

  -- the token of a label with this text
  abbrev AreLabel : List ℕ → List Token → List Token → Type 0
  AreLabel name ts rest = (t : Token) × (ts ≡ t ∷ rest) × HasLabelText text t name

  has_text : (kind : Kind) (bytes name : List ℕ) (t : Token) → IsLabelText kind bytes name → t.kind ≡ kind → bytes_of text t ≡ bytes → HasLabelText text t name
  has_text kind bytes name t is k b = subst (λ x. IsLabelText x (bytes_of text t) name) (sym k) (subst (λ x. IsLabelText kind x name) (sym b) is)

  label_case : (name left : List ℕ) (bare : Bool) → is_bare name ≡ bare → Each (λ b. not (ends_line b)) name → Closes left
      → Goes text (AreLabel name) (cond bare name (between_quotes name)) left
  label_case name left true is line c =
      let parts = and_parts _ (list_all is_label_byte name) is in
      let some : 0 < length name = grind (arith, nat_tests, parts.0) in
      let each : Each is_label_byte name = each_from_all is_label_byte name parts.1 in
      turned text name left (λ ts rest x. (x.0, x.1, has_text Bare name name x.0 refl x.2 x.3))
      (token text Bare tt name left (some, each) (bare_ends left c) (bare_no_blank name left some each))
  label_case name left false is line c =
      turned text (between_quotes name) left (λ ts rest x. (x.0, x.1, has_text Quoted (between_quotes name) name x.0 refl x.2 x.3))
      (token text Quoted tt (between_quotes name) left (name, line, refl) (quoted_ends left c) refl)

  pub head_goes : (names : List (List ℕ)) (h : Head) (left : List ℕ) → AreOnOneLine names → IsHeadNamed (length names) h → IsHeadInClass h → Closes left
      → Goes text (λ ts rest. (t : Token) × (ts ≡ t ∷ rest) × IsHeadOf names text t h) (head_text names h) left
  head_goes names (head.Label l) left line within class c =
      let named : slice_get names l.0 ≡ Some (name_of names l) = is_named names l.0 within in
      turned text (label_text (name_of names l)) left
      (λ ts rest x. (x.0, x.1, record { spelling = name_of names l; of_token = x.2; named = named }))
      (label_case (name_of names l) left (is_bare (name_of names l)) refl (line l.0 (name_of names l) named) c)
  head_goes names (head.Var v) left line within class c = label_variable_goes v left class c
