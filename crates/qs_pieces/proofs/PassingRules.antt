-- A written rule that is passed: its labels are written alike under other names that keep what has no end of a line, and no
-- condition in it compares an empty list.
use Rattle.std.proofs.Common.{◌≡◌, ℕ, ◌≤◌, Bool, true, false, cond, refl, sym, ap, ◌∙◌, subst, List, [], ◌∷◌, ◌++◌, codes, nat_le, Option, Some, None, arith, append_assoc}
use Rattle.std.specs.Prelude.{not}
use Rattle.std.specs.List.{flat_map}
use Rattle.qs_lex.specs.Characters.{ends_line, Each}
use Rattle.qs_lex.specs.Grammar.{Sort, a_label_variable, a_tree_variable, a_forest_variable, the_word, opening, closing, comma, plus, slash, equals, stop}
use Rattle.qs_lex.specs.declared.token.Kind.TheVariants.{Opening, Closing, Comma, Plus, Slash, Equals, Stop, Word as a_word}
use Rattle.qs_lex.specs.declared.token.Word.{Word}
use Rattle.qs_lex.specs.declared.token.Word.TheVariants.{Non}
use Rattle.qs_lex.specs.Spelling.{between_dashes, name_of as word_name, since}
use Rattle.qs_lex.specs.Tokens.{version_of}
use Rattle.qs_tree.specs.declared.cell.Label.{Label}
use Rattle.qs_tree.specs.Text.{name_of, label_text}
use Rattle.qs_pattern.specs.declared.variable.Var.{Var}
use Rattle.qs_pattern.specs.declared.pattern.Head.{Head}
use Rattle.qs_pattern.specs.declared.pattern.Head.TheVariants as head
use Rattle.qs_pattern.specs.Variables.{IsTreeVar, IsForestVar}
use Rattle.qs_pattern.specs.Patterns.{Patterns, no_pattern, node_first, tree_var_first, forest_var_first, count, IsHeadInClass, AreInClass}
use Rattle.qs_pattern.specs.Conditions.{Comparing, Joining, all, any, Condition, Conditions, compared, negated, combined, no_condition, condition_first, IsConditionInClass}
use Rattle.qs_pattern.specs.working.Conditions.{EachListOfAll}
use Rattle.qs_pattern.specs.Rules.{UnmarkedRule, IsInClassIfGiven}
use Rattle.qs_ruletext.specs.Reading.{IsVariableOf, comparing_word}
use Rattle.qs_ruletext.specs.Texts.{joined, in_parentheses, variable_text, head_text, kids_text, pattern_texts, list_text, side_text, joining_tightness, tightness, spaced_word, joining_word, member_text, condition_text, member_texts, condition_part}
use Rattle.qs_ruletext.specs.Written.{HasFullLists, IsToldIn, AreToldIn, IsToldIfGiven, written}
use Rattle.qs_ruletext.specs.working.Written.{HaveFullLists}
use Rattle.qs_ruletext.proofs.ReadBack.{token, space, spaced, first_version}
use Rattle.qs_ruletext.proofs.HeadsReadBack.{Closes, label_variable_goes, tree_variable_goes, forest_variable_goes}
use Rattle.qs_pieces.proofs.Neighbours.{compares, ends, beside, comparing_compares, end_before, not_behind}
use Rattle.qs_pieces.proofs.Passing.{IsAt, IsBehind, Shows, pass_none, pass_one, pass_kind, pass_label, word_known}

-- the condition of a rule, where it has one, compares no empty list
abbrev pub HasFullListsIfGiven : Option Condition → Type 0
HasFullListsIfGiven None = Unit {0}
HasFullListsIfGiven (Some c) = HasFullLists c

-- a label with no end of a line is written alike under the other names
abbrev pub KeepsLines : List (List ℕ) → List (List ℕ) → Type 0
KeepsLines names others = (l : Label) → Each (λ b. not (ends_line b)) (name_of names l) → name_of names l ≡ name_of others l

-- a word between members compares no lists
joins : (word : Joining) → compares (the_word (joining_word word)) ≡ false
joins all = refl
joins any = refl

module _ (text : List ℕ) where
  -- what stands between two texts can be passed, and lets what is before it end
  record IsBetween (between : List ℕ) : Type 0 where
    pub closes : (texts : List (List ℕ)) (left : List ℕ) → Closes left → Closes (flat_map (λ t. between ++ t) texts ++ left)
    pub passed : (before : Sort) (left : List ℕ) → IsAt text before (between ++ left) → IsBehind text left

  commas_close : (texts : List (List ℕ)) (left : List ℕ) → Closes left → Closes (flat_map (λ t. codes "," ++ t) texts ++ left)
  commas_close [] left closes = closes
  commas_close (t ∷ texts) left closes = refl

  pluses_close : (texts : List (List ℕ)) (left : List ℕ) → Closes left → Closes (flat_map (λ t. codes " + " ++ t) texts ++ left)
  pluses_close [] left closes = closes
  pluses_close (t ∷ texts) left closes = refl

  commas : IsBetween (codes ",")
  commas = record {
    closes = commas_close;
    passed = λ before left at. (comma, (pass_kind text Comma (codes ",") before (codes ",") left (token text Comma tt (codes ",") left refl tt refl) at).1);
  }

  pluses : IsBetween (codes " + ")
  pluses = record {
    closes = pluses_close;
    passed = λ before left at. (plus, (pass_kind text Plus (codes "+") before (codes " + ") left (spaced text Plus tt (codes "+") left refl tt refl) at).1);
  }

  -- a word with a space on both sides
  word_there : (word : Word) (before : Sort) (left : List ℕ) → IsAt text before (spaced_word word ++ left) → since word ≤ version_of text
  word_there word before left at =
      let bytes : List ℕ = between_dashes (word_name word) in
      let behind_space = pass_none text before (32 ∷ []) ((bytes ++ 32 ∷ []) ++ left) (space text ((bytes ++ 32 ∷ []) ++ left)) at in
      word_known text before word (32 ∷ left) (subst (IsAt text before) (append_assoc bytes (32 ∷ []) left) behind_space)

  word_passed : (word : Word) (before : Sort) (left : List ℕ) → IsAt text before (spaced_word word ++ left) → (beside before (the_word word) ≡ true) × IsAt text (the_word word) left
  word_passed word before left at =
      let bytes : List ℕ = between_dashes (word_name word) in
      pass_kind text (a_word word) bytes before (spaced_word word) left (spaced text (a_word word) (word_there word before left at) bytes left refl tt refl) at

  -- behind a word that compares lists, this can't stand
  abbrev pub Refuses : List ℕ → Type 0
  Refuses left = (before : Sort) → compares before ≡ true → IsAt text before left → ⊥

  refuses_closing : (left : List ℕ) → Refuses (codes ")" ++ left)
  refuses_closing left before is at =
      not_behind before closing refl refl is (pass_kind text Closing (codes ")") before (codes ")") left (token text Closing tt (codes ")") left refl tt refl) at).0

  refuses_stop : (left : List ℕ) → Refuses (codes "." ++ left)
  refuses_stop left before is at =
      not_behind before stop refl refl is (pass_kind text Stop (codes ".") before (codes ".") left (token text Stop tt (codes ".") left refl tt refl) at).0

  module _ (names others : List (List ℕ)) (keeps : KeepsLines names others) where
    -- these patterns are written alike
    abbrev AreAlike : Patterns → Type 0
    AreAlike ps = pattern_texts names ps ≡ pattern_texts others ps

    pub label_passed : (l : Label) → Shows text (label_text (name_of names l) ≡ label_text (name_of others l)) (label_text (name_of names l))
    label_passed l before left closes at =
        let x = pass_label text before (name_of names l) left closes at in
        (ap label_text (keeps l x.0), x.1)

    head_passed : (h : Head) → IsHeadInClass h → Shows text (head_text names h ≡ head_text others h) (head_text names h)
    head_passed (head.Label l) class = label_passed l
    head_passed (head.Var v) class = λ before left closes at.
        let x = pass_one text (λ t. IsVariableOf a_label_variable t v) before (variable_text v) left (label_variable_goes text v left class closes) at in
        (refl, (_, x.3))

    tree_var_passed : (v : Var) → IsTreeVar v → Shows text (variable_text v ≡ variable_text v) (variable_text v)
    tree_var_passed v class = λ before left closes at.
        let x = pass_one text (λ t. IsVariableOf a_tree_variable t v) before (variable_text v) left (tree_variable_goes text v left class closes) at in
        (refl, (_, x.3))

    forest_var_passed : (v : Var) → IsForestVar v → Shows text (variable_text v ≡ variable_text v) (variable_text v)
    forest_var_passed v class = λ before left closes at.
        let x = pass_one text (λ t. IsVariableOf a_forest_variable t v) before (variable_text v) left (forest_variable_goes text v left class closes) at in
        (refl, (_, x.3))

    -- patterns with this between them; and behind this
    abbrev Joined : List ℕ → Patterns → Type 0
    Joined between ps = Shows text (AreAlike ps) (joined between (pattern_texts names ps))

    abbrev Behind : List ℕ → Patterns → Type 0
    Behind between ps = Shows text (AreAlike ps) (flat_map (λ t. between ++ t) (pattern_texts names ps))

    -- one pattern, and those behind it
    one_more : (between first second : List ℕ) (ps : Patterns) → IsBetween between → Shows text (first ≡ second) first → Behind between ps
        → Shows text (first ∷ pattern_texts names ps ≡ second ∷ pattern_texts others ps) (first ++ flat_map (λ t. between ++ t) (pattern_texts names ps))
        × Shows text (first ∷ pattern_texts names ps ≡ second ∷ pattern_texts others ps) ((between ++ first) ++ flat_map (λ t. between ++ t) (pattern_texts names ps))
    one_more between first second ps is one more = (front, λ before left closes at. behind before left closes at)
      where
        texts : List ℕ
        texts = flat_map (λ t. between ++ t) (pattern_texts names ps)

        front : Shows text (first ∷ pattern_texts names ps ≡ second ∷ pattern_texts others ps) (first ++ texts)
        front before left closes at =
            let here = one before (texts ++ left) (is.closes (pattern_texts names ps) left closes) (subst (IsAt text before) (append_assoc first texts left) at) in
            let there = more here.1.0 left closes here.1.1 in
            ((λ i. here.0 i ∷ there.0 i), there.1)

        behind : Shows text (first ∷ pattern_texts names ps ≡ second ∷ pattern_texts others ps) ((between ++ first) ++ texts)
        behind before left closes at =
            let next = is.passed before ((first ++ texts) ++ left)
            (subst (IsAt text before) (append_assoc (between ++ first) texts left ∙ append_assoc between first (texts ++ left) ∙ ap (λ bs. between ++ bs) (sym (append_assoc first texts left))) at) in
            front next.0 left closes next.1

    -- in parentheses behind a head
    parentheses : (ps : Patterns) → Joined (codes ",") ps → (before : Sort) (left : List ℕ) → IsAt text before (in_parentheses (list_text names ps) ++ left) → AreAlike ps × IsBehind text left
    parentheses ps inside before left at =
        let list : List ℕ = list_text names ps in
        let x = pass_kind text Opening (codes "(") before (codes "(") ((list ++ codes ")") ++ left) (token text Opening tt (codes "(") ((list ++ codes ")") ++ left) refl tt refl) at in
        let y = inside opening (codes ")" ++ left) refl (subst (IsAt text opening) (append_assoc list (codes ")") left) x.1) in
        let z = pass_kind text Closing (codes ")") y.1.0 (codes ")") left (token text Closing tt (codes ")") left refl tt refl) y.1.1 in
        (y.0, (closing, z.1))

    kids_passed : (kids : Patterns) → Joined (codes ",") kids → Shows text (AreAlike kids) (kids_text (pattern_texts names kids))
    kids_passed no_pattern inside = λ before left closes at. (refl, (before, at))
    kids_passed (node_first h kids ps) inside = λ before left closes at. parentheses (node_first h kids ps) inside before left at
    kids_passed (tree_var_first v ps) inside = λ before left closes at. parentheses (tree_var_first v ps) inside before left at
    kids_passed (forest_var_first v ps) inside = λ before left closes at. parentheses (forest_var_first v ps) inside before left at

    node_passed : (h : Head) (kids : Patterns) → IsHeadInClass h → Joined (codes ",") kids
        → Shows text (head_text names h ++ kids_text (pattern_texts names kids) ≡ head_text others h ++ kids_text (pattern_texts others kids)) (head_text names h ++ kids_text (pattern_texts names kids))
    node_passed h kids class inside = λ before left closes at.
        let below : List ℕ = kids_text (pattern_texts names kids) in
        let x = head_passed h class before (below ++ left) (kids_close (pattern_texts names kids) left closes) (subst (IsAt text before) (append_assoc (head_text names h) below left) at) in
        let y = kids_passed kids inside x.1.0 left closes x.1.1 in
        ((λ i. x.0 i ++ kids_text (y.0 i)), y.1)
      where
        kids_close : (texts : List (List ℕ)) (left : List ℕ) → Closes left → Closes (kids_text texts ++ left)
        kids_close [] left closes = closes
        kids_close (t ∷ texts) left closes = refl

    patterns_passed : (between : List ℕ) → IsBetween between → (ps : Patterns) → AreInClass ps → Joined between ps × Behind between ps
    patterns_passed between is no_pattern class = (λ before left closes at. (refl, (before, at)), λ before left closes at. (refl, (before, at)))
    patterns_passed between is (node_first h kids ps) class =
        one_more between (head_text names h ++ kids_text (pattern_texts names kids)) (head_text others h ++ kids_text (pattern_texts others kids)) ps is
        (node_passed h kids class.0 (patterns_passed (codes ",") commas kids class.1).0) (patterns_passed between is ps class.2).1
    patterns_passed between is (tree_var_first v ps) class =
        one_more between (variable_text v) (variable_text v) ps is (tree_var_passed v class.0) (patterns_passed between is ps class.1).1
    patterns_passed between is (forest_var_first v ps) class =
        one_more between (variable_text v) (variable_text v) ps is (forest_var_passed v class.0) (patterns_passed between is ps class.1).1

    -- ---- conditions

    -- the lists of a condition are full, and texts of the version of this one tell it
    abbrev IsFull : Condition → Type 0
    IsFull c = HasFullLists c × IsToldIn (version_of text) c

    abbrev AreFull : Conditions → Type 0
    AreFull cs = HaveFullLists cs × AreToldIn (version_of text) cs

    -- a condition of this text, where no list has ended before it and none begins behind it, shows that it is written alike and
    -- this
    abbrev ShowsFull : Type 0 → List ℕ → List ℕ → Type 0
    ShowsFull F piece other = (before : Sort) (left : List ℕ) → ends before ≡ false → Closes left → Refuses left → IsAt text before (piece ++ left)
        → F × (piece ≡ other) × IsBehind text left

    abbrev ConditionShows : Condition → Type 0
    ConditionShows c = ShowsFull (IsFull c) (condition_text names c) (condition_text others c)

    in_group : {F : Type 0} → (piece other : List ℕ) → ShowsFull F piece other → ShowsFull F (in_parentheses piece) (in_parentheses other)
    in_group piece other shows = λ before left no_end closes refuses at.
        let x = pass_kind text Opening (codes "(") before (codes "(") ((piece ++ codes ")") ++ left) (token text Opening tt (codes "(") ((piece ++ codes ")") ++ left) refl tt refl) at in
        let y = shows opening (codes ")" ++ left) refl refl (refuses_closing left) (subst (IsAt text opening) (append_assoc piece (codes ")") left) x.1) in
        let z = pass_kind text Closing (codes ")") y.2.0 (codes ")") left (token text Closing tt (codes ")") left refl tt refl) y.2.1 in
        (y.0, ap in_parentheses y.1, (closing, z.1))

    -- a member, with parentheses or without
    member_shows : (outer : ℕ) (c : Condition) → ConditionShows c → ShowsFull (IsFull c) (member_text outer c (condition_text names c)) (member_text outer c (condition_text others c))
    member_shows outer c shows = by (nat_le (tightness c) outer)
      where
        by : (b : Bool) → ShowsFull (IsFull c) (cond b (in_parentheses (condition_text names c)) (condition_text names c)) (cond b (in_parentheses (condition_text others c)) (condition_text others c))
        by true = in_group (condition_text names c) (condition_text others c) shows
        by false = shows

    -- two lists with a word between them
    compared_shows : (word : Comparing) (a b : Patterns) → IsConditionInClass (compared word a b) → ConditionShows (compared word a b)
    compared_shows word a b class = λ before left no_end closes refuses at.
        let behind : List ℕ = list_text names b ++ left in
        let between : List ℕ = spaced_word (comparing_word word) in
        let whole : IsAt text before (list_text names a ++ (between ++ behind)) =
        subst (IsAt text before) (append_assoc (list_text names a) (between ++ list_text names b) left ∙ ap (λ bs. list_text names a ++ bs) (append_assoc between (list_text names b) left)) at in
        let x = (patterns_passed (codes ",") commas a class.0).0 before (between ++ behind) refl whole in
        let y = word_passed (comparing_word word) x.1.0 behind x.1.1 in
        let z = (patterns_passed (codes ",") commas b class.1).0 (the_word (comparing_word word)) left closes y.1 in
        (((some_before a before behind no_end whole, some_behind b left refuses y.1), word_there (comparing_word word) x.1.0 behind x.1.1), (λ i. joined (codes ",") (x.0 i) ++ (between ++ joined (codes ",") (z.0 i))), z.1)
      where
        some_before : (ps : Patterns) (before : Sort) (behind : List ℕ) → ends before ≡ false → IsAt text before (list_text names ps ++ (spaced_word (comparing_word word) ++ behind)) → 1 ≤ count ps
        some_before no_pattern before behind no_end at =
            let end : ends before ≡ true = end_before before (the_word (comparing_word word)) (comparing_compares word) (word_passed (comparing_word word) before behind at).0 in
            absurd (let no : true ≡ false = sym end ∙ no_end in cc)
        some_before (node_first h kids ps) before behind no_end at = omega arith
        some_before (tree_var_first v ps) before behind no_end at = omega arith
        some_before (forest_var_first v ps) before behind no_end at = omega arith

        some_behind : (ps : Patterns) (left : List ℕ) → Refuses left → IsAt text (the_word (comparing_word word)) (list_text names ps ++ left) → 1 ≤ count ps
        some_behind no_pattern left refuses at = absurd (refuses (the_word (comparing_word word)) (comparing_compares word) at)
        some_behind (node_first h kids ps) left refuses at = omega arith
        some_behind (tree_var_first v ps) left refuses at = omega arith
        some_behind (forest_var_first v ps) left refuses at = omega arith

    negated_shows : (c : Condition) → ConditionShows c → ConditionShows (negated c)
    negated_shows c shows = λ before left no_end closes refuses at.
        let member : List ℕ = member_text 3 c (condition_text names c) in
        let behind : List ℕ = 32 ∷ (member ++ left) in
        let x = pass_kind text (a_word Non) (codes "-NON-") before (codes "-NON-") behind (token text (a_word Non) (first_version text) (codes "-NON-") behind refl tt refl) at in
        let y = pass_none text (the_word Non) (32 ∷ []) (member ++ left) (space text (member ++ left)) x.1 in
        let z = member_shows 3 c shows (the_word Non) left refl closes refuses y in
        (z.0, ap (λ bs. codes "-NON- " ++ bs) z.1, z.2)

    module _ (word : Joining) where
      abbrev outer : ℕ
      outer = joining_tightness word

      abbrev between : List ℕ
      between = spaced_word (joining_word word)

      abbrev behind_word : Conditions → List ℕ
      behind_word cs = flat_map (λ t. between ++ t) (member_texts names outer cs)

      -- several members, behind the word
      abbrev MoreShow : Conditions → Type 0
      MoreShow cs = (before : Sort) (left : List ℕ) → Closes left → Refuses left → IsAt text before (behind_word cs ++ left)
          → AreFull cs × (member_texts names outer cs ≡ member_texts others outer cs) × IsBehind text left

      more_close : (cs : Conditions) (left : List ℕ) → Closes left → Closes (behind_word cs ++ left)
      more_close no_condition left closes = closes
      more_close (condition_first c cs) left closes = refl

      more_refuse : (cs : Conditions) (left : List ℕ) → Refuses left → Refuses (behind_word cs ++ left)
      more_refuse no_condition left refuses = refuses
      more_refuse (condition_first c cs) left refuses = λ before is at.
          let member : List ℕ = member_text outer c (condition_text names c) in
          let passed = word_passed (joining_word word) before (member ++ (behind_word cs ++ left))
          (subst (IsAt text before) (append_assoc (between ++ member) (behind_word cs) left ∙ append_assoc between member (behind_word cs ++ left)) at) in
          not_behind before (the_word (joining_word word)) (joins word) refl is passed.0

      -- the first member, and those behind it
      first_shows : (c : Condition) (cs : Conditions) → ConditionShows c → MoreShow cs
          → (before : Sort) (left : List ℕ) → ends before ≡ false → Closes left → Refuses left → IsAt text before ((member_text outer c (condition_text names c) ++ behind_word cs) ++ left)
          → AreFull (condition_first c cs) × (member_texts names outer (condition_first c cs) ≡ member_texts others outer (condition_first c cs)) × IsBehind text left
      first_shows c cs shows more before left no_end closes refuses at =
          let member : List ℕ = member_text outer c (condition_text names c) in
          let x = member_shows outer c shows before (behind_word cs ++ left) no_end (more_close cs left closes) (more_refuse cs left refuses)
          (subst (IsAt text before) (append_assoc member (behind_word cs) left) at) in
          let y = more x.2.0 left closes refuses x.2.1 in
          (((x.0.0, y.0.0), (x.0.1, y.0.1)), (λ i. x.1 i ∷ y.1 i), y.2)

      more_shows : (c : Condition) (cs : Conditions) → ConditionShows c → MoreShow cs → MoreShow (condition_first c cs)
      more_shows c cs shows more = λ before left closes refuses at.
          let member : List ℕ = member_text outer c (condition_text names c) in
          let x = word_passed (joining_word word) before ((member ++ behind_word cs) ++ left)
          (subst (IsAt text before) (append_assoc (between ++ member) (behind_word cs) left ∙ append_assoc between member (behind_word cs ++ left) ∙ ap (λ bs. between ++ bs) (sym (append_assoc member (behind_word cs) left))) at) in
          first_shows c cs shows more (the_word (joining_word word)) left refl closes refuses x.1

      -- and all of them, whatever they join
      members_show : (c : Condition) (cs : Conditions) → ConditionShows c → MoreShow cs
          → ShowsFull (AreFull (condition_first c cs)) (joined between (member_texts names outer (condition_first c cs))) (joined between (member_texts others outer (condition_first c cs)))
      members_show c cs shows more = λ before left no_end closes refuses at.
          let x = first_shows c cs shows more before left no_end closes refuses at in
          (x.0, ap (joined between) x.1, x.2)

    mutual
      condition_shows : (c : Condition) → IsConditionInClass c → ConditionShows c
      condition_shows (compared word a b) class = compared_shows word a b class
      condition_shows (negated c) class = negated_shows c (condition_shows c class)
      condition_shows (combined word no_condition) class = λ before left no_end closes refuses at. ((tt, tt), refl, (before, at))
      condition_shows (combined word (condition_first c cs)) class = members_show word c cs (condition_shows c class.0) (more_show word cs class.1)

      more_show : (word : Joining) (cs : Conditions) → EachListOfAll AreInClass cs → MoreShow word cs
      more_show word no_condition class = λ before left closes refuses at. ((tt, tt), refl, (before, at))
      more_show word (condition_first c cs) class = more_shows word c cs (condition_shows c class.0) (more_show word cs class.1)

    -- ---- rules

    part_passed : (condition : Option Condition) → IsInClassIfGiven condition → (before : Sort) (left : List ℕ) → Closes left → Refuses left
        → IsAt text before (condition_part names condition ++ left)
        → (HasFullListsIfGiven condition × IsToldIfGiven (version_of text) condition) × (condition_part names condition ≡ condition_part others condition) × IsBehind text left
    part_passed None class before left closes refuses at = ((tt, tt), refl, (before, at))
    part_passed (Some c) class before left closes refuses at =
        let condition : List ℕ = condition_text names c in
        let x = pass_kind text Slash (codes "/") before (codes " / ") (condition ++ left) (spaced text Slash tt (codes "/") (condition ++ left) refl tt refl) at in
        let y = condition_shows c class slash left refl closes refuses x.1 in
        (y.0, ap (λ bs. codes " / " ++ bs) y.1, y.2)

    part_closes : (condition : Option Condition) (left : List ℕ) → Closes left → Closes (condition_part names condition ++ left)
    part_closes None left closes = closes
    part_closes (Some c) left closes = refl

    -- a rule is written alike, its condition compares no empty list, and texts of this version tell it; behind it, all is at a stop
    pub rule_passed : (r : UnmarkedRule) → AreInClass r.left → AreInClass r.right → IsInClassIfGiven r.condition → (before : Sort) (left : List ℕ)
        → IsAt text before (written names r ++ left)
        → (HasFullListsIfGiven r.condition × IsToldIfGiven (version_of text) r.condition) × (written names r ≡ written others r) × IsAt text stop left
    rule_passed r left_class right_class class before left at =
        let part : List ℕ = condition_part names r.condition in
        let dot : List ℕ = codes "." ++ left in
        let right : List ℕ = side_text names r.right in
        let first : List ℕ = side_text names r.left in
        let behind_equals : List ℕ = right ++ (part ++ dot) in
        let whole : IsAt text before (first ++ (codes " == " ++ behind_equals)) =
        subst (IsAt text before)
        (append_assoc first (codes " == " ++ (right ++ (part ++ codes "."))) left
        ∙ ap (λ bs. first ++ (codes " == " ++ bs)) (append_assoc right (part ++ codes ".") left ∙ ap (λ bs. right ++ bs) (append_assoc part (codes ".") left)))
        at in
        let a = (patterns_passed (codes " + ") pluses r.left left_class).0 before (codes " == " ++ behind_equals) refl whole in
        let b = pass_kind text Equals (codes "==") a.1.0 (codes " == ") behind_equals (spaced text Equals tt (codes "==") behind_equals refl tt refl) a.1.1 in
        let c = (patterns_passed (codes " + ") pluses r.right right_class).0 equals (part ++ dot) (part_closes r.condition dot refl) b.1 in
        let d = part_passed r.condition class c.1.0 dot refl (refuses_stop left) c.1.1 in
        let e = pass_kind text Stop (codes ".") d.2.0 (codes ".") left (token text Stop tt (codes ".") left refl tt refl) d.2.1 in (
          d.0,
          (λ i. joined (codes " + ") (a.0 i) ++ (codes " == " ++ (joined (codes " + ") (c.0 i) ++ (d.1 i ++ codes ".")))),
          e.1,
        )
