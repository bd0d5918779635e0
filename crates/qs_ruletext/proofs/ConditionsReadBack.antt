-- Conditions that are written are read as they were.
use Rattle.std.proofs.Common.{◌≡◌, ℕ, ◌≤◌, refl, sym, ap, ◌∙◌, subst, List, [], ◌∷◌, ◌++◌, length, arith, codes}
use Rattle.std.specs.List.{flat_map}
use Rattle.qs_lex.specs.declared.token.Token.{Token}
use Rattle.qs_lex.specs.declared.token.Kind.TheVariants.{Opening, Closing, Word as a_word}
use Rattle.qs_lex.specs.declared.token.Word.{Word}
use Rattle.qs_lex.specs.declared.token.Word.TheVariants.{Et, Ou, Non}
use Rattle.qs_lex.specs.Spelling.{between_dashes, name_of, since}
use Rattle.qs_lex.specs.Tokens.{version_of}
use Rattle.qs_lex.specs.Grammar.{sort_of}
use Rattle.qs_pattern.specs.Patterns.{Patterns, count, AreInClass}
use Rattle.qs_pattern.specs.Conditions.{Comparing, all, any, Condition, Conditions, compared, negated, combined, no_condition, condition_first, count_conditions, IsConditionInClass, HasEnoughMembers, HaveEnoughMembers}
use Rattle.qs_pattern.specs.working.Conditions.{EachListOfAll}
use Rattle.qs_pattern.specs.Named.{ArePatternsNamed, IsConditionNamed}
use Rattle.qs_pattern.specs.working.Named.{AreConditionsNamed}
use Rattle.qs_ruletext.specs.Reading.{comparing_word, ReadsList, any_of, all_of, ReadsCond, reads_cond, ReadsMoreConjs, no_more_conjs, one_more_conj, ReadsConj, reads_conj, ReadsMoreNegs, no_more_negs, one_more_neg, ReadsNeg, not_negated, reads_negated, ReadsPrim, reads_group, reads_compared}
use Rattle.qs_ruletext.specs.Texts.{list_text, in_parentheses, member_text, member_texts, condition_text, spaced_word}
use Rattle.qs_ruletext.specs.Written.{AreOnOneLine, HasFullLists, IsToldIn, AreToldIn}
use Rattle.qs_ruletext.specs.working.Written.{HaveFullLists}
use Rattle.qs_ruletext.proofs.ReadBack.{Goes, IsOne, IsNone, Both, both, turned, nothing, space, token, spaced, first_version}
use Rattle.qs_ruletext.proofs.HeadsReadBack.{Closes}
use Rattle.qs_ruletext.proofs.PatternsReadBack.{lists_go}

ands_close : (texts : List (List ℕ)) (left : List ℕ) → Closes left → Closes (flat_map (λ t. codes " -ET- " ++ t) texts ++ left)
ands_close [] left c = c
ands_close (t ∷ ts) left c = refl

ors_close : (texts : List (List ℕ)) (left : List ℕ) → Closes left → Closes (flat_map (λ t. codes " -OU- " ++ t) texts ++ left)
ors_close [] left c = c
ors_close (t ∷ ts) left c = refl

-- a word between spaces
word_goes : {text : List ℕ} (word : Word) → since word ≤ version_of text → (left : List ℕ) → Goes text (IsOne text (a_word word) (between_dashes (name_of word))) (spaced_word word) left
word_goes {text} word known left = spaced text (a_word word) known (between_dashes (name_of word)) left refl tt refl

-- what is asked of a condition, so that it can be written in a text of this version
abbrev pub IsWritable : ℕ → ℕ → Condition → Type 0
IsWritable version n c = IsConditionNamed n c × IsConditionInClass c × HasEnoughMembers c × HasFullLists c × IsToldIn version c

abbrev pub AreWritable : ℕ → ℕ → Conditions → Type 0
AreWritable version n cs = AreConditionsNamed n cs × EachListOfAll AreInClass cs × HaveEnoughMembers cs × HaveFullLists cs × AreToldIn version cs

-- at least two make one of several
all_of_several : (c : Condition) (cs : Conditions) → 2 ≤ count_conditions (condition_first c cs) → all_of c cs ≡ combined all (condition_first c cs)
all_of_several c no_condition few = absurd (omega arith)
all_of_several c (condition_first d ds) several = refl

any_of_several : (c : Condition) (cs : Conditions) → 2 ≤ count_conditions (condition_first c cs) → any_of c cs ≡ combined any (condition_first c cs)
any_of_several c no_condition few = absurd (omega arith)
any_of_several c (condition_first d ds) several = refl

module _ (names : List (List ℕ)) (text : List ℕ) where
  -- a part of the grammar is, by itself, each looser part
  conj_of_neg : {ts rest : List Token} (c : Condition) → ReadsNeg names text ts c rest → ReadsConj names text ts c rest
  conj_of_neg c r = reads_conj r no_more_negs

  cond_of_conj : {ts rest : List Token} (c : Condition) → ReadsConj names text ts c rest → ReadsCond names text ts c rest
  cond_of_conj c r = reads_cond r no_more_conjs

  -- the tightest part of the grammar that each condition is without parentheses
  abbrev IsReadAs : Condition → List Token → List Token → Type 0
  IsReadAs (compared word a b) ts rest = ReadsPrim names text ts (compared word a b) rest
  IsReadAs (negated c) ts rest = ReadsNeg names text ts (negated c) rest
  IsReadAs (combined all cs) ts rest = ReadsConj names text ts (combined all cs) rest
  IsReadAs (combined any cs) ts rest = ReadsCond names text ts (combined any cs) rest

  as_cond : (c : Condition) (ts rest : List Token) → IsReadAs c ts rest → ReadsCond names text ts c rest
  as_cond (compared word a b) ts rest r = cond_of_conj (compared word a b) (conj_of_neg (compared word a b) (not_negated r))
  as_cond (negated c) ts rest r = cond_of_conj (negated c) (conj_of_neg (negated c) r)
  as_cond (combined all cs) ts rest r = cond_of_conj (combined all cs) r
  as_cond (combined any cs) ts rest r = r

  abbrev pub ConditionGoes : Condition → Type 0
  ConditionGoes c = (left : List ℕ) → Closes left → Goes text (IsReadAs c) (condition_text names c) left

  -- a condition in parentheses
  group_goes : (c : Condition) → ConditionGoes c → (left : List ℕ) → Goes text (λ ts rest. ReadsPrim names text ts c rest) (in_parentheses (condition_text names c)) left
  group_goes c goes left =
      turned text (in_parentheses (condition_text names c)) left
      (λ ts rest x.
      let inside = subst (λ us. ReadsCond names text x.0 c us) x.2.2.1 (as_cond c x.0 x.2.0 x.2.1) in
      subst (λ us. ReadsPrim names text us c rest) (sym x.1.1) (reads_group (ap sort_of x.1.2) inside (ap sort_of x.2.2.2)))
      (both text (codes "(") (condition_text names c ++ codes ")") left
      (token text Opening tt (codes "(") ((condition_text names c ++ codes ")") ++ left) refl tt refl)
      (both text (condition_text names c) (codes ")") left (goes (codes ")" ++ left) refl) (token text Closing tt (codes ")") left refl tt refl)))

  neg_of_prim : (c : Condition) (piece left : List ℕ) → Goes text (λ ts rest. ReadsPrim names text ts c rest) piece left → Goes text (λ ts rest. ReadsNeg names text ts c rest) piece left
  neg_of_prim c piece left go = turned text piece left (λ ts rest r. not_negated r) go

  -- a member, with parentheses where it isn't tighter
  prim_member : (c : Condition) → ConditionGoes c → (left : List ℕ) → Closes left → Goes text (λ ts rest. ReadsPrim names text ts c rest) (member_text 3 c (condition_text names c)) left
  prim_member (compared word a b) goes left closes = goes left closes
  prim_member (negated c) goes left closes = group_goes (negated c) goes left
  prim_member (combined all cs) goes left closes = group_goes (combined all cs) goes left
  prim_member (combined any cs) goes left closes = group_goes (combined any cs) goes left

  neg_member : (c : Condition) → ConditionGoes c → (left : List ℕ) → Closes left → Goes text (λ ts rest. ReadsNeg names text ts c rest) (member_text 2 c (condition_text names c)) left
  neg_member (compared word a b) goes left closes = neg_of_prim (compared word a b) _ left (goes left closes)
  neg_member (negated c) goes left closes = goes left closes
  neg_member (combined all cs) goes left closes = neg_of_prim (combined all cs) _ left (group_goes (combined all cs) goes left)
  neg_member (combined any cs) goes left closes = neg_of_prim (combined any cs) _ left (group_goes (combined any cs) goes left)

  conj_of_negs : (c : Condition) (piece left : List ℕ) → Goes text (λ ts rest. ReadsNeg names text ts c rest) piece left → Goes text (λ ts rest. ReadsConj names text ts c rest) piece left
  conj_of_negs c piece left go = turned text piece left (λ ts rest r. conj_of_neg c r) go

  conj_member : (c : Condition) → ConditionGoes c → (left : List ℕ) → Closes left → Goes text (λ ts rest. ReadsConj names text ts c rest) (member_text 1 c (condition_text names c)) left
  conj_member (compared word a b) goes left closes = conj_of_negs (compared word a b) _ left (neg_of_prim (compared word a b) _ left (goes left closes))
  conj_member (negated c) goes left closes = conj_of_negs (negated c) _ left (goes left closes)
  conj_member (combined all cs) goes left closes = goes left closes
  conj_member (combined any cs) goes left closes = conj_of_negs (combined any cs) _ left (neg_of_prim (combined any cs) _ left (group_goes (combined any cs) goes left))

  -- several members
  abbrev NegsGo : Conditions → Type 0
  NegsGo cs = (left : List ℕ) → Closes left → Goes text (λ ts rest. ReadsMoreNegs names text ts cs rest) (flat_map (λ t. codes " -ET- " ++ t) (member_texts names 2 cs)) left

  abbrev ConjsGo : Conditions → Type 0
  ConjsGo cs = (left : List ℕ) → Closes left → Goes text (λ ts rest. ReadsMoreConjs names text ts cs rest) (flat_map (λ t. codes " -OU- " ++ t) (member_texts names 1 cs)) left

  no_negs : NegsGo no_condition
  no_negs left c = turned text [] left (λ ts rest e. subst (λ us. ReadsMoreNegs names text ts no_condition us) e no_more_negs) (nothing text left)

  no_conjs : ConjsGo no_condition
  no_conjs left c = turned text [] left (λ ts rest e. subst (λ us. ReadsMoreConjs names text ts no_condition us) e no_more_conjs) (nothing text left)

  one_neg : (c : Condition) (cs : Conditions) → ConditionGoes c → NegsGo cs → NegsGo (condition_first c cs)
  one_neg c cs goes more left closes =
      let first : List ℕ = member_text 2 c (condition_text names c) in
      let others : List ℕ = flat_map (λ t. codes " -ET- " ++ t) (member_texts names 2 cs) in
      turned text ((codes " -ET- " ++ first) ++ others) left
      (λ ts rest x. subst (λ us. ReadsMoreNegs names text us (condition_first c cs) rest) (sym x.1.1.1) (one_more_neg (ap sort_of x.1.1.2) x.1.2 x.2))
      (both text (codes " -ET- " ++ first) others left
      (both text (codes " -ET- ") first (others ++ left) (spaced text (a_word Et) (first_version text) (codes "-ET-") (first ++ (others ++ left)) refl tt refl)
      (neg_member c goes (others ++ left) (ands_close (member_texts names 2 cs) left closes)))
      (more left closes))

  one_conj : (c : Condition) (cs : Conditions) → ConditionGoes c → ConjsGo cs → ConjsGo (condition_first c cs)
  one_conj c cs goes more left closes =
      let first : List ℕ = member_text 1 c (condition_text names c) in
      let others : List ℕ = flat_map (λ t. codes " -OU- " ++ t) (member_texts names 1 cs) in
      turned text ((codes " -OU- " ++ first) ++ others) left
      (λ ts rest x. subst (λ us. ReadsMoreConjs names text us (condition_first c cs) rest) (sym x.1.1.1) (one_more_conj (ap sort_of x.1.1.2) x.1.2 x.2))
      (both text (codes " -OU- " ++ first) others left
      (both text (codes " -OU- ") first (others ++ left) (spaced text (a_word Ou) (first_version text) (codes "-OU-") (first ++ (others ++ left)) refl tt refl)
      (conj_member c goes (others ++ left) (ors_close (member_texts names 1 cs) left closes)))
      (more left closes))

  all_goes : (c : Condition) (cs : Conditions) → 2 ≤ count_conditions (condition_first c cs) → ConditionGoes c → NegsGo cs → ConditionGoes (combined all (condition_first c cs))
  all_goes c cs several goes more left closes =
      let first : List ℕ = member_text 2 c (condition_text names c) in
      let others : List ℕ = flat_map (λ t. codes " -ET- " ++ t) (member_texts names 2 cs) in
      turned text (first ++ others) left
      (λ ts rest x. subst (λ d. ReadsConj names text ts d rest) (all_of_several c cs several) (reads_conj x.1 x.2))
      (both text first others left (neg_member c goes (others ++ left) (ands_close (member_texts names 2 cs) left closes)) (more left closes))

  any_goes : (c : Condition) (cs : Conditions) → 2 ≤ count_conditions (condition_first c cs) → ConditionGoes c → ConjsGo cs → ConditionGoes (combined any (condition_first c cs))
  any_goes c cs several goes more left closes =
      let first : List ℕ = member_text 1 c (condition_text names c) in
      let others : List ℕ = flat_map (λ t. codes " -OU- " ++ t) (member_texts names 1 cs) in
      turned text (first ++ others) left
      (λ ts rest x. subst (λ d. ReadsCond names text ts d rest) (any_of_several c cs several) (reads_cond x.1 x.2))
      (both text first others left (conj_member c goes (others ++ left) (ors_close (member_texts names 1 cs) left closes)) (more left closes))

  -- the word of a negation, with the space behind it
  negation_goes : (left : List ℕ) → Goes text (Both (IsOne text (a_word Non) (codes "-NON-")) IsNone) (codes "-NON- ") left
  negation_goes left = both text (codes "-NON-") (32 ∷ []) left (token text (a_word Non) (first_version text) (codes "-NON-") (32 ∷ left) refl tt refl) (space text left)

  negated_goes : (c : Condition) → ConditionGoes c → ConditionGoes (negated c)
  negated_goes c goes left closes =
      let member : List ℕ = member_text 3 c (condition_text names c) in
      turned text (codes "-NON- " ++ member) left
      (λ ts rest x. subst (λ us. ReadsNeg names text us (negated c) rest) (sym (x.1.1.1 ∙ ap (λ us. x.1.1.0 ∷ us) x.1.2)) (reads_negated (ap sort_of x.1.1.2) x.2))
      (both text (codes "-NON- ") member left (negation_goes (member ++ left)) (prim_member c goes left closes))

  -- two lists with a word between them
  module _ (line : AreOnOneLine names) (word : Comparing) (a b : Patterns) (named : ArePatternsNamed (length names) a × ArePatternsNamed (length names) b) (class : AreInClass a × AreInClass b) (full : (1 ≤ count a) × (1 ≤ count b))
      (told : since (comparing_word word) ≤ version_of text) where
    compared_goes : ConditionGoes (compared word a b)
    compared_goes left closes =
        let between : List ℕ = spaced_word (comparing_word word) in
        let behind : List ℕ = between ++ list_text names b in
        turned text (list_text names a ++ behind) left
        (λ ts rest x. reads_compared {word = word} (subst (λ us. ReadsList names text ts a us) x.2.1.1 x.1) (ap sort_of x.2.1.2) x.2.2)
        (both text (list_text names a) behind left
        ((lists_go names text line a named.0 class.0).1 (behind ++ left) refl full.0)
        (both text between (list_text names b) left (word_goes (comparing_word word) told (list_text names b ++ left))
        ((lists_go names text line b named.1 class.1).1 left closes full.1)))

module _ (names : List (List ℕ)) (text : List ℕ) (line : AreOnOneLine names) where
  mutual
    condition_goes : (c : Condition) → IsWritable (version_of text) (length names) c → ConditionGoes names text c
    condition_goes (compared word a b) w = compared_goes names text line word a b w.0 w.1 w.3 w.4
    condition_goes (negated c) w = negated_goes names text c (condition_goes c w)
    condition_goes (combined all no_condition) w = absurd (omega (arith, w.2.0))
    condition_goes (combined all (condition_first c cs)) w =
        all_goes names text c cs w.2.0 (condition_goes c (w.0.0, w.1.0, w.2.1.0, w.3.0, w.4.0)) (negs_go cs (w.0.1, w.1.1, w.2.1.1, w.3.1, w.4.1))
    condition_goes (combined any no_condition) w = absurd (omega (arith, w.2.0))
    condition_goes (combined any (condition_first c cs)) w =
        any_goes names text c cs w.2.0 (condition_goes c (w.0.0, w.1.0, w.2.1.0, w.3.0, w.4.0)) (conjs_go cs (w.0.1, w.1.1, w.2.1.1, w.3.1, w.4.1))

    negs_go : (cs : Conditions) → AreWritable (version_of text) (length names) cs → NegsGo names text cs
    negs_go no_condition w = no_negs names text
    negs_go (condition_first c cs) w = one_neg names text c cs (condition_goes c (w.0.0, w.1.0, w.2.0, w.3.0, w.4.0)) (negs_go cs (w.0.1, w.1.1, w.2.1, w.3.1, w.4.1))

    conjs_go : (cs : Conditions) → AreWritable (version_of text) (length names) cs → ConjsGo names text cs
    conjs_go no_condition w = no_conjs names text
    conjs_go (condition_first c cs) w = one_conj names text c cs (condition_goes c (w.0.0, w.1.0, w.2.0, w.3.0, w.4.0)) (conjs_go cs (w.0.1, w.1.1, w.2.1, w.3.1, w.4.1))

  -- a condition as the whole of one
  pub cond_goes : (c : Condition) → IsWritable (version_of text) (length names) c → (left : List ℕ) → Closes left → Goes text (λ ts rest. ReadsCond names text ts c rest) (condition_text names c) left
  cond_goes c w left closes = turned text (condition_text names c) left (λ ts rest r. as_cond names text c ts rest r) (condition_goes c w left closes)
