-- Tokens are read as a tree, a list, a side and a condition in one way only, where what is read ends before a token with
-- which it could go on. Both readings of the same tokens are met case by case: two cases that differ ask two sorts of one
-- token.
use Rattle.std.proofs.Common.{◌≡◌, ℕ, Bool, true, false, ◌||◌, refl, sym, ◌∙◌, ap, subst, ⊎_elim, List, [], ◌∷◌, Some}
use Rattle.std.proofs.lemmas.Bool.{false≢true}
use Rattle.qs_lex.specs.declared.token.Token.{Token}
use Rattle.qs_lex.specs.declared.token.Kind.TheVariants.{Variable}
use Rattle.qs_lex.specs.declared.token.Word.TheVariants.{Et, Ou, Non}
use Rattle.qs_lex.specs.Tokens.{bytes_of}
use Rattle.qs_lex.specs.Grammar.{Sort, a_label, a_label_variable, a_tree_variable, a_forest_variable, the_word, opening, closing, comma, plus, sort_of, IsOf, part, IsWhole}
use Rattle.qs_lex.specs.Expecting.{same_sort, NextIsNo}
use Rattle.qs_lex.proofs.Expected.{same_itself, Fronts, whole_front}
use Rattle.qs_lex.proofs.Quotes as quotes
use Rattle.qs_lex.proofs.Predictive.{or_false_left}
use Rattle.qs_tree.specs.Names.{AreDistinct}
use Rattle.qs_tree.specs.declared.cell.Label.{Label}
use Rattle.qs_pattern.specs.declared.variable.Var.{Var}
use Rattle.qs_pattern.specs.contracts.variable.Var as var
use Rattle.qs_pattern.specs.declared.pattern.Head.{Head}
use Rattle.qs_pattern.specs.declared.pattern.Head.TheVariants as head
use Rattle.qs_pattern.specs.Patterns.{Patterns, no_pattern, node_first, tree_var_first, forest_var_first}
use Rattle.qs_pattern.specs.Conditions.{Condition, Conditions, compared, negated, condition_first}
use Rattle.qs_ruletext.specs.Grammar.{Part, tree, list, line}
use Rattle.qs_reader.specs.Names.{IsLabelOf}
use Rattle.qs_ruletext.specs.Reading.{comparing_word, IsVariableOf, IsHeadOf, joined, ReadsTree, reads_node, reads_tree_variable, ReadsSubtrees, no_parentheses, nothing_inside, list_inside, ReadsList, reads_list, ReadsMoreItems, no_more_items, one_more_item, ReadsItem, reads_tree, reads_forest_variable, ReadsMoreTrees, no_more_trees, one_more_tree, ReadsSide, reads_side, any_of, all_of, ReadsCond, reads_cond, ReadsMoreConjs, no_more_conjs, one_more_conj, ReadsConj, reads_conj, ReadsMoreNegs, no_more_negs, one_more_neg, ReadsNeg, not_negated, reads_negated, ReadsPrim, reads_group, reads_compared}
use Rattle.qs_ruletext.specs.working.Readers.{table, begins_tree, begins_item}
use Rattle.qs_ruletext.proofs.ComparingWords.{none_compares, one_comparing}
use Rattle.qs_ruletext.proofs.Tables.{ok}
use Rattle.qs_reader.proofs.Tokens.{label_sort}
use Rattle.qs_ruletext.proofs.Whole.{tree_whole, list_whole}

-- with which sorts a tree, a list, a side, a conjunction and a condition may go on
abbrev pub after_tree : Sort → Bool
after_tree = same_sort opening

abbrev pub after_list : Sort → Bool
after_list k = after_tree k || same_sort comma k

abbrev pub after_side : Sort → Bool
after_side k = after_tree k || same_sort plus k

abbrev pub after_conj : Sort → Bool
after_conj k = after_list k || same_sort (the_word Et) k

abbrev pub after_cond : Sort → Bool
after_cond k = after_conj k || same_sort (the_word Ou) k

-- a token of a sort passes no test that its sort doesn't pass
pub fails_for : (p : Sort → Bool) (s : Sort) (t : Token) → p s ≡ false → IsOf s t → p (sort_of t.kind) ≡ false
fails_for p s t fails e = ap p e ∙ fails

pub holds_not : (p : Sort → Bool) (s : Sort) (t : Token) → p s ≡ false → IsOf s t → p (sort_of t.kind) ≡ true → ⊥
holds_not p s t fails e h = false≢true (sym (fails_for p s t fails e) ∙ h)

pub fails_not : (p : Sort → Bool) (s : Sort) (t : Token) → p s ≡ true → IsOf s t → p (sort_of t.kind) ≡ false → ⊥
fails_not p s t holds e n = false≢true (sym n ∙ ap p e ∙ holds)

-- no token is of two sorts
pub one_sort : (s r : Sort) (t : Token) → same_sort s r ≡ false → IsOf s t → IsOf r t → ⊥
one_sort s r t differ e f = false≢true (sym differ ∙ same_itself s r (sym f ∙ e))

pub next_weaker : (p q : Sort → Bool) (ts : List Token) → NextIsNo (λ k. p k || q k) ts → NextIsNo p ts
next_weaker p q [] n = tt
next_weaker p q (t ∷ ts) n = or_false_left (p (sort_of t.kind)) (q (sort_of t.kind)) n

-- what stands behind the first token
pub same_rest : {t u : Token} {ts us : List Token} → t ∷ ts ≡ u ∷ us → ts ≡ us
same_rest e = cc

pub same_token : {t u : Token} {ts us : List Token} → t ∷ ts ≡ u ∷ us → t ≡ u
same_token e = cc

-- a part that is whole begins with a token with which it may begin
front_of : (p : Part) (ts rest : List Token) → IsWhole line (part p) ts rest → Fronts (table p) ts
front_of p ts rest w = ⊎_elim (λ n. absurd (false≢true n.0)) (λ h. h) (whole_front table ok w)

one_variable : (s r : Sort) (t : Token) (v w : Var) → IsVariableOf s t v → IsVariableOf r t w → v ≡ w
one_variable s r t v w is also =
    let same : Variable v.letter v.number ≡ Variable w.letter w.number = sym is.variable ∙ also.variable in
    let letters : v.letter ≡ w.letter = cc in
    let numbers : v.number ≡ w.number = cc in
    var.the_row.coded.inj v w (rw (letters, numbers) refl)

module _ (names : List (List ℕ)) (text : List ℕ) (distinct : AreDistinct names) where
  pub one_label : (t : Token) (l m : Label) → IsLabelOf names text t l → IsLabelOf names text t m → l ≡ m
  one_label t l m is also =
      let same : is.spelling ≡ also.spelling = quotes.one_label_text t.kind (bytes_of text t) is.spelling also.spelling is.of_token also.of_token in
      let f : l.0 ≡ m.0 = distinct l.0 m.0 also.spelling (is.named ∙ ap (λ s. Some s) same) also.named in
      λ i. record { 0 = f i }

  one_head : (t : Token) (h k : Head) → IsHeadOf names text t h → IsHeadOf names text t k → h ≡ k
  one_head t (head.Label l) (head.Label m) is also = let same = one_label t l m is also in λ i. head.Label (same i)
  one_head t (head.Label l) (head.Var w) is also =
      absurd (one_sort a_label a_label_variable t refl (label_sort text t is.spelling is.of_token) also.of_sort)
  one_head t (head.Var v) (head.Label m) is also =
      absurd (one_sort a_label a_label_variable t refl (label_sort text t also.spelling also.of_token) is.of_sort)
  one_head t (head.Var v) (head.Var w) is also = let same = one_variable a_label_variable a_label_variable t v w is also in λ i. head.Var (same i)

  no_head : (t : Token) (h : Head) (v : Var) → IsHeadOf names text t h → IsVariableOf a_tree_variable t v → ⊥
  no_head t (head.Label l) v is also = one_sort a_label a_tree_variable t refl (label_sort text t is.spelling is.of_token) also.of_sort
  no_head t (head.Var w) v is also = one_sort a_label_variable a_tree_variable t refl is.of_sort also.of_sort

  -- what begins with a tree or a list doesn't begin with a token of another sort
  no_tree : (s : Sort) (t : Token) {ts rest : List Token} {p : Patterns} → begins_tree s ≡ false → IsOf s t → ReadsTree names text (t ∷ ts) p rest → ⊥
  no_tree s t {ts} {rest} other e r = holds_not begins_tree s t other e (front_of tree (t ∷ ts) rest (tree_whole r))

  no_list : (s : Sort) (t : Token) {ts rest : List Token} {p : Patterns} → begins_item s ≡ false → IsOf s t → ReadsList names text (t ∷ ts) p rest → ⊥
  no_list s t {ts} {rest} other e r = holds_not begins_item s t other e (front_of list (t ∷ ts) rest (list_whole r))

  -- what stands behind an item of a list
  behind_item : {ts rest : List Token} {p : Patterns} → ReadsMoreItems names text ts p rest → NextIsNo after_list rest → NextIsNo after_tree ts
  behind_item (no_more_items {ts}) n = next_weaker after_tree (same_sort comma) ts n
  behind_item (one_more_item {t} e next more) n = fails_for after_tree comma t refl e

  mutual
    pub one_tree : {ts rest end : List Token} {p q : Patterns} → ReadsTree names text ts p rest → ReadsTree names text ts q end
        → NextIsNo after_tree rest → NextIsNo after_tree end → (p ≡ q) × (rest ≡ end)
    one_tree (reads_node {t} {h} is below) (reads_node {h = k} also under) n m =
        let heads = one_head t h k is also in
        let kids = one_below below under n m in
        (λ i. node_first (heads i) (kids.0 i) no_pattern, kids.1)
    one_tree (reads_node {t} {h} is below) (reads_tree_variable {v} also) n m = absurd (no_head t h v is also)
    one_tree (reads_tree_variable {v} is) (reads_node {t} {h} also under) n m = absurd (no_head t h v also is)
    one_tree (reads_tree_variable {t} {v} is) (reads_tree_variable {v = w} also) n m =
        let same = one_variable a_tree_variable a_tree_variable t v w is also in
        (λ i. tree_var_first (same i) no_pattern, refl)

    one_below : {ts rest end : List Token} {p q : Patterns} → ReadsSubtrees names text ts p rest → ReadsSubtrees names text ts q end
        → NextIsNo after_tree rest → NextIsNo after_tree end → (p ≡ q) × (rest ≡ end)
    one_below no_parentheses no_parentheses n m = (refl, refl)
    one_below no_parentheses (nothing_inside {t} e f) n m = absurd (fails_not after_tree opening t refl e n)
    one_below no_parentheses (list_inside {t} e l f) n m = absurd (fails_not after_tree opening t refl e n)
    one_below (nothing_inside {t} e f) no_parentheses n m = absurd (fails_not after_tree opening t refl e m)
    one_below (nothing_inside e f) (nothing_inside g h) n m = (refl, refl)
    one_below (nothing_inside {u} e f) (list_inside g l h) n m = absurd (no_list closing u refl f l)
    one_below (list_inside {t} e l f) no_parentheses n m = absurd (fails_not after_tree opening t refl e m)
    one_below (list_inside e l f) (nothing_inside {u} g h) n m = absurd (no_list closing u refl h l)
    one_below (list_inside {u} e l f) (list_inside {u = v} g k h) n m =
        let inside = one_list l k (fails_for after_list closing u refl f) (fails_for after_list closing v refl h) in
        (inside.0, same_rest inside.1)

    pub one_list : {ts rest end : List Token} {p q : Patterns} → ReadsList names text ts p rest → ReadsList names text ts q end
        → NextIsNo after_list rest → NextIsNo after_list end → (p ≡ q) × (rest ≡ end)
    one_list {end} (reads_list first more) (reads_list {behind} next others) n m =
        let here = one_item first next (behind_item more n) (behind_item others m) in
        let there = one_more more (subst (λ us. ReadsMoreItems names text us behind end) (sym here.1) others) n m in
        (λ i. joined (here.0 i) (there.0 i), there.1)

    one_more : {ts rest end : List Token} {p q : Patterns} → ReadsMoreItems names text ts p rest → ReadsMoreItems names text ts q end
        → NextIsNo after_list rest → NextIsNo after_list end → (p ≡ q) × (rest ≡ end)
    one_more no_more_items no_more_items n m = (refl, refl)
    one_more no_more_items (one_more_item {t} e next others) n m = absurd (fails_not after_list comma t refl e n)
    one_more (one_more_item {t} e first more) no_more_items n m = absurd (fails_not after_list comma t refl e m)
    one_more {end} (one_more_item e first more) (one_more_item {behind} f next others) n m =
        let here = one_item first next (behind_item more n) (behind_item others m) in
        let there = one_more more (subst (λ us. ReadsMoreItems names text us behind end) (sym here.1) others) n m in
        (λ i. joined (here.0 i) (there.0 i), there.1)

    one_item : {ts rest end : List Token} {p q : Patterns} → ReadsItem names text ts p rest → ReadsItem names text ts q end
        → NextIsNo after_tree rest → NextIsNo after_tree end → (p ≡ q) × (rest ≡ end)
    one_item (reads_tree r) (reads_tree s) n m = one_tree r s n m
    one_item (reads_tree r) (reads_forest_variable {t} is) n m = absurd (no_tree a_forest_variable t refl is.of_sort r)
    one_item (reads_forest_variable {t} is) (reads_tree s) n m = absurd (no_tree a_forest_variable t refl is.of_sort s)
    one_item (reads_forest_variable {t} {v} is) (reads_forest_variable {v = w} also) n m =
        let same = one_variable a_forest_variable a_forest_variable t v w is also in
        (λ i. forest_var_first (same i) no_pattern, refl)

  -- what stands behind a tree of a side
  behind_tree : {ts rest : List Token} {p : Patterns} → ReadsMoreTrees names text ts p rest → NextIsNo after_side rest → NextIsNo after_tree ts
  behind_tree (no_more_trees {ts}) n = next_weaker after_tree (same_sort plus) ts n
  behind_tree (one_more_tree {t} e next more) n = fails_for after_tree plus t refl e

  more_trees : {ts rest end : List Token} {p q : Patterns} → ReadsMoreTrees names text ts p rest → ReadsMoreTrees names text ts q end
      → NextIsNo after_side rest → NextIsNo after_side end → (p ≡ q) × (rest ≡ end)
  more_trees no_more_trees no_more_trees n m = (refl, refl)
  more_trees no_more_trees (one_more_tree {t} e next others) n m = absurd (fails_not after_side plus t refl e n)
  more_trees (one_more_tree {t} e first more) no_more_trees n m = absurd (fails_not after_side plus t refl e m)
  more_trees {end} (one_more_tree e first more) (one_more_tree {behind} f next others) n m =
      let here = one_tree first next (behind_tree more n) (behind_tree others m) in
      let there = more_trees more (subst (λ us. ReadsMoreTrees names text us behind end) (sym here.1) others) n m in
      (λ i. joined (here.0 i) (there.0 i), there.1)

  pub one_side : {ts rest end : List Token} {p q : Patterns} → ReadsSide names text ts p rest → ReadsSide names text ts q end
      → NextIsNo after_side rest → NextIsNo after_side end → (p ≡ q) × (rest ≡ end)
  one_side {end} (reads_side first more) (reads_side {behind} next others) n m =
      let here = one_tree first next (behind_tree more n) (behind_tree others m) in
      let there = more_trees more (subst (λ us. ReadsMoreTrees names text us behind end) (sym here.1) others) n m in
      (λ i. joined (here.0 i) (there.0 i), there.1)

  -- no condition without `-NON-` begins with it
  no_prim : (t : Token) {ts rest : List Token} {c : Condition} → IsOf (the_word Non) t → ReadsPrim names text (t ∷ ts) c rest → ⊥
  no_prim t e (reads_group f c g) = one_sort (the_word Non) opening t refl e f
  no_prim t e (reads_compared a f b) = no_list (the_word Non) t refl e a

  -- what stands behind a member of a conjunction, and of a condition
  behind_neg : {ts rest : List Token} {cs : Conditions} → ReadsMoreNegs names text ts cs rest → NextIsNo after_conj rest → NextIsNo after_list ts
  behind_neg (no_more_negs {ts}) n = next_weaker after_list (same_sort (the_word Et)) ts n
  behind_neg (one_more_neg {t} e next more) n = fails_for after_list (the_word Et) t refl e

  behind_conj : {ts rest : List Token} {cs : Conditions} → ReadsMoreConjs names text ts cs rest → NextIsNo after_cond rest → NextIsNo after_conj ts
  behind_conj (no_more_conjs {ts}) n = next_weaker after_conj (same_sort (the_word Ou)) ts n
  behind_conj (one_more_conj {t} e next more) n = fails_for after_conj (the_word Ou) t refl e

  -- the lists on both sides of a word, which are read up to the same word
  both_lists : {t u : Token} {ts middle between rest end : List Token} {a b p q : Patterns} → NextIsNo after_list (t ∷ middle) → NextIsNo after_list (u ∷ between)
      → ReadsList names text ts a (t ∷ middle) → ReadsList names text middle b rest → ReadsList names text ts p (u ∷ between) → ReadsList names text between q end
      → NextIsNo after_list rest → NextIsNo after_list end → (a ≡ p) × (t ≡ u) × (b ≡ q) × (rest ≡ end)
  both_lists {end} {q} x y first second also next n m =
      let here = one_list first also x y in
      let there = one_list second (subst (λ us. ReadsList names text us q end) (sym (same_rest here.1)) next) n m in
      (here.0, same_token here.1, there.0, there.1)

  mutual
    pub one_cond : {ts rest end : List Token} {c d : Condition} → ReadsCond names text ts c rest → ReadsCond names text ts d end
        → NextIsNo after_cond rest → NextIsNo after_cond end → (c ≡ d) × (rest ≡ end)
    one_cond {end} (reads_cond first more) (reads_cond {cs = ds} next others) n m =
        let here = one_conj first next (behind_conj more n) (behind_conj others m) in
        let there = more_conjs more (subst (λ us. ReadsMoreConjs names text us ds end) (sym here.1) others) n m in
        (λ i. any_of (here.0 i) (there.0 i), there.1)

    more_conjs : {ts rest end : List Token} {cs ds : Conditions} → ReadsMoreConjs names text ts cs rest → ReadsMoreConjs names text ts ds end
        → NextIsNo after_cond rest → NextIsNo after_cond end → (cs ≡ ds) × (rest ≡ end)
    more_conjs no_more_conjs no_more_conjs n m = (refl, refl)
    more_conjs no_more_conjs (one_more_conj {t} e next others) n m = absurd (fails_not after_cond (the_word Ou) t refl e n)
    more_conjs (one_more_conj {t} e first more) no_more_conjs n m = absurd (fails_not after_cond (the_word Ou) t refl e m)
    more_conjs {end} (one_more_conj e first more) (one_more_conj {cs = ds} f next others) n m =
        let here = one_conj first next (behind_conj more n) (behind_conj others m) in
        let there = more_conjs more (subst (λ us. ReadsMoreConjs names text us ds end) (sym here.1) others) n m in
        (λ i. condition_first (here.0 i) (there.0 i), there.1)

    one_conj : {ts rest end : List Token} {c d : Condition} → ReadsConj names text ts c rest → ReadsConj names text ts d end
        → NextIsNo after_conj rest → NextIsNo after_conj end → (c ≡ d) × (rest ≡ end)
    one_conj {end} (reads_conj first more) (reads_conj {cs = ds} next others) n m =
        let here = one_neg first next (behind_neg more n) (behind_neg others m) in
        let there = more_negs more (subst (λ us. ReadsMoreNegs names text us ds end) (sym here.1) others) n m in
        (λ i. all_of (here.0 i) (there.0 i), there.1)

    more_negs : {ts rest end : List Token} {cs ds : Conditions} → ReadsMoreNegs names text ts cs rest → ReadsMoreNegs names text ts ds end
        → NextIsNo after_conj rest → NextIsNo after_conj end → (cs ≡ ds) × (rest ≡ end)
    more_negs no_more_negs no_more_negs n m = (refl, refl)
    more_negs no_more_negs (one_more_neg {t} e next others) n m = absurd (fails_not after_conj (the_word Et) t refl e n)
    more_negs (one_more_neg {t} e first more) no_more_negs n m = absurd (fails_not after_conj (the_word Et) t refl e m)
    more_negs {end} (one_more_neg e first more) (one_more_neg {cs = ds} f next others) n m =
        let here = one_neg first next (behind_neg more n) (behind_neg others m) in
        let there = more_negs more (subst (λ us. ReadsMoreNegs names text us ds end) (sym here.1) others) n m in
        (λ i. condition_first (here.0 i) (there.0 i), there.1)

    one_neg : {ts rest end : List Token} {c d : Condition} → ReadsNeg names text ts c rest → ReadsNeg names text ts d end
        → NextIsNo after_list rest → NextIsNo after_list end → (c ≡ d) × (rest ≡ end)
    one_neg (not_negated r) (not_negated s) n m = one_prim r s n m
    one_neg (not_negated r) (reads_negated {t} e s) n m = absurd (no_prim t e r)
    one_neg (reads_negated {t} e r) (not_negated s) n m = absurd (no_prim t e s)
    one_neg (reads_negated e r) (reads_negated f s) n m = let same = one_prim r s n m in (λ i. negated (same.0 i), same.1)

    one_prim : {ts rest end : List Token} {c d : Condition} → ReadsPrim names text ts c rest → ReadsPrim names text ts d end
        → NextIsNo after_list rest → NextIsNo after_list end → (c ≡ d) × (rest ≡ end)
    one_prim (reads_group {u} e c f) (reads_group {u = v} g d h) n m =
        let inside = one_cond c d (fails_for after_cond closing u refl f) (fails_for after_cond closing v refl h) in
        (inside.0, same_rest inside.1)
    one_prim (reads_group {t} e c f) (reads_compared a g b) n m = absurd (no_list opening t refl e a)
    one_prim (reads_compared a g b) (reads_group {t} e c f) n m = absurd (no_list opening t refl e a)
    one_prim (reads_compared {word = v} {t} a e b) (reads_compared {word = w} {t = u} p f q) n m =
        let same = both_lists (fails_for after_list (the_word (comparing_word v)) t (none_compares after_list refl refl refl v) e) (fails_for after_list (the_word (comparing_word w)) u (none_compares after_list refl refl refl w) f) a b p q n m in
        let word = one_comparing v w u (subst (λ x. IsOf (the_word (comparing_word v)) x) same.1 e) f in
        (λ i. compared (word i) (same.0 i) (same.2 i), same.3)
