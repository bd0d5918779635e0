-- Tokens are read as a graph in one way only. Both readings of the same tokens are met case by case: two cases that differ
-- ask two sorts of one token.
use Rattle.std.proofs.Common.{◌≡◌, ℕ, Bool, ◌||◌, refl, sym, ◌∙◌, ap, subst, List, ◌∷◌}
use Rattle.qs_lex.specs.declared.token.Token.{Token}
use Rattle.qs_lex.specs.declared.token.Kind.TheVariants.{Node}
use Rattle.qs_lex.specs.declared.token.Word.TheVariants.{Fin}
use Rattle.qs_lex.specs.Grammar.{Sort, a_label, a_node_mark, the_word, opening, closing, comma, plus, sort_of, IsOf}
use Rattle.qs_lex.specs.Expecting.{same_sort, NextIsNo}
use Rattle.qs_tree.specs.Names.{AreDistinct}
use Rattle.qs_tree.specs.Trees.{Forest, first_tree, Tree}
use Rattle.qs_ruletext.proofs.OneReading.{fails_for, fails_not, one_sort, next_weaker, same_rest, same_token, one_label}
use Rattle.qs_graphtext.specs.WrittenChains.{WrittenChain}
use Rattle.qs_graphtext.specs.Reading.{ReadsPlain, reads_plain, ReadsSubtrees, no_parentheses, nothing_inside, plains_inside, ReadsPlains, reads_plains, ReadsMorePlains, no_more_plains, one_more_plain, ReadsRooted, reads_rooted, ReadsTrees, reads_trees, ReadsMoreTrees, no_more_trees, one_more_tree, ReadsChain, reads_chain, ReadsChains, reads_chains, ReadsMoreChains, no_more_chains, one_more_chain, ReadsGraph, reads_graph}
use Rattle.qs_reader.proofs.Tokens.{label_sort}

-- with which sorts a tree, trees in parentheses, the trees of a chain and chains may go on
abbrev after_plain : Sort → Bool
after_plain = same_sort opening

abbrev after_plains : Sort → Bool
after_plains k = after_plain k || same_sort comma k

abbrev after_trees : Sort → Bool
after_trees k = after_plain k || same_sort plus k

abbrev after_chains : Sort → Bool
after_chains = same_sort a_node_mark

-- a token that is a node mark has one number
one_number : (t : Token) (n m : ℕ) → t.kind ≡ Node n → t.kind ≡ Node m → n ≡ m
one_number t n m e f = let same : Node n ≡ Node m = sym e ∙ f in cc

module _ (names : List (List ℕ)) (text : List ℕ) (distinct : AreDistinct names) where
  -- no tree begins with a closing parenthesis
  no_plains : (t : Token) {ts rest : List Token} {f : Forest} → IsOf closing t → ReadsPlains names text (t ∷ ts) f rest → ⊥
  no_plains t e (reads_plains (reads_plain l below) more) = one_sort closing a_label t refl e (label_sort text t l.spelling l.of_token)

  behind_plain : {ts rest : List Token} {f : Forest} → ReadsMorePlains names text ts f rest → NextIsNo after_plains rest → NextIsNo after_plain ts
  behind_plain (no_more_plains {ts}) n = next_weaker after_plain (same_sort comma) ts n
  behind_plain (one_more_plain {t} e next more) n = fails_for after_plain comma t refl e

  mutual
    one_plain : {ts rest end : List Token} {p q : Tree} → ReadsPlain names text ts p rest → ReadsPlain names text ts q end
        → NextIsNo after_plain rest → NextIsNo after_plain end → (p ≡ q) × (rest ≡ end)
    one_plain (reads_plain {t} {label} is below) (reads_plain {label = other} also under) n m =
        let roots = one_label names text distinct t label other is also in
        let kids = one_below below under n m in
        (λ i. record { root = roots i; subtrees = kids.0 i }, kids.1)

    one_below : {ts rest end : List Token} {f g : Forest} → ReadsSubtrees names text ts f rest → ReadsSubtrees names text ts g end
        → NextIsNo after_plain rest → NextIsNo after_plain end → (f ≡ g) × (rest ≡ end)
    one_below no_parentheses no_parentheses n m = (refl, refl)
    one_below no_parentheses (nothing_inside {t} e f) n m = absurd (fails_not after_plain opening t refl e n)
    one_below no_parentheses (plains_inside {t} e p f) n m = absurd (fails_not after_plain opening t refl e n)
    one_below (nothing_inside {t} e f) no_parentheses n m = absurd (fails_not after_plain opening t refl e m)
    one_below (nothing_inside e f) (nothing_inside g h) n m = (refl, refl)
    one_below (nothing_inside {u} e f) (plains_inside g p h) n m = absurd (no_plains u f p)
    one_below (plains_inside {t} e p f) no_parentheses n m = absurd (fails_not after_plain opening t refl e m)
    one_below (plains_inside e p f) (nothing_inside {u} g h) n m = absurd (no_plains u h p)
    one_below (plains_inside {u} e p f) (plains_inside {u = v} g q h) n m =
        let inside = one_plains p q (fails_for after_plains closing u refl f) (fails_for after_plains closing v refl h) in
        (inside.0, same_rest inside.1)

    one_plains : {ts rest end : List Token} {f g : Forest} → ReadsPlains names text ts f rest → ReadsPlains names text ts g end
        → NextIsNo after_plains rest → NextIsNo after_plains end → (f ≡ g) × (rest ≡ end)
    one_plains {end} (reads_plains first more) (reads_plains {behind} next others) n m =
        let here = one_plain first next (behind_plain more n) (behind_plain others m) in
        let there = more_plains more (subst (λ us. ReadsMorePlains names text us behind end) (sym here.1) others) n m in
        (λ i. first_tree (here.0 i).root (here.0 i).subtrees (there.0 i), there.1)

    more_plains : {ts rest end : List Token} {f g : Forest} → ReadsMorePlains names text ts f rest → ReadsMorePlains names text ts g end
        → NextIsNo after_plains rest → NextIsNo after_plains end → (f ≡ g) × (rest ≡ end)
    more_plains no_more_plains no_more_plains n m = (refl, refl)
    more_plains no_more_plains (one_more_plain {t} e next others) n m = absurd (fails_not after_plains comma t refl e n)
    more_plains (one_more_plain {t} e first more) no_more_plains n m = absurd (fails_not after_plains comma t refl e m)
    more_plains {end} (one_more_plain e first more) (one_more_plain {behind} f next others) n m =
        let here = one_plain first next (behind_plain more n) (behind_plain others m) in
        let there = more_plains more (subst (λ us. ReadsMorePlains names text us behind end) (sym here.1) others) n m in
        (λ i. first_tree (here.0 i).root (here.0 i).subtrees (there.0 i), there.1)

  one_rooted : {ts rest end : List Token} {p q : Tree} {a b : ℕ} → ReadsRooted names text ts p a rest → ReadsRooted names text ts q b end
      → NextIsNo after_plain rest → NextIsNo after_plain end → (p ≡ q) × (a ≡ b) × (rest ≡ end)
  one_rooted (reads_rooted r) (reads_rooted s) n m = let same = one_plain r s n m in (same.0, refl, same.1)

  behind_rooted : {ts rest : List Token} {trees : List Tree} {at : List ℕ} → ReadsMoreTrees names text ts trees at rest → NextIsNo after_trees rest → NextIsNo after_plain ts
  behind_rooted (no_more_trees {ts}) n = next_weaker after_plain (same_sort plus) ts n
  behind_rooted (one_more_tree {t} e next more) n = fails_for after_plain plus t refl e

  more_trees : {ts rest end : List Token} {trees others : List Tree} {at places : List ℕ} → ReadsMoreTrees names text ts trees at rest → ReadsMoreTrees names text ts others places end
      → NextIsNo after_trees rest → NextIsNo after_trees end → (trees ≡ others) × (at ≡ places) × (rest ≡ end)
  more_trees no_more_trees no_more_trees n m = (refl, refl, refl)
  more_trees no_more_trees (one_more_tree {t} e next others) n m = absurd (fails_not after_trees plus t refl e n)
  more_trees (one_more_tree {t} e first more) no_more_trees n m = absurd (fails_not after_trees plus t refl e m)
  more_trees {end} (one_more_tree e first more) (one_more_tree {behind} {at = places} f next others) n m =
      let here = one_rooted first next (behind_rooted more n) (behind_rooted others m) in
      let there = more_trees more (subst (λ us. ReadsMoreTrees names text us behind places end) (sym here.2) others) n m in
      (λ i. here.0 i ∷ there.0 i, λ i. here.1 i ∷ there.1 i, there.2)

  one_trees : {ts rest end : List Token} {trees others : List Tree} {at places : List ℕ} → ReadsTrees names text ts trees at rest → ReadsTrees names text ts others places end
      → NextIsNo after_trees rest → NextIsNo after_trees end → (trees ≡ others) × (at ≡ places) × (rest ≡ end)
  one_trees {end} (reads_trees first more) (reads_trees {behind} {at = places} next others) n m =
      let here = one_rooted first next (behind_rooted more n) (behind_rooted others m) in
      let there = more_trees more (subst (λ us. ReadsMoreTrees names text us behind places end) (sym here.2) others) n m in
      (λ i. here.0 i ∷ there.0 i, λ i. here.1 i ∷ there.1 i, there.2)

  one_chain : {ts rest end : List Token} {c d : WrittenChain} → ReadsChain names text ts c rest → ReadsChain names text ts d end → (c ≡ d) × (rest ≡ end)
  one_chain (reads_chain {t} {u} {from} {to} is trees last stops) (reads_chain {u = v} {from = start} {to = end} also others final halts) =
      let inside = one_trees trees others (fails_for after_trees a_node_mark u refl (ap sort_of last)) (fails_for after_trees a_node_mark v refl (ap sort_of final)) in
      let mark : u ≡ v = same_token inside.2 in
      let first = one_number t from start is also in
      let second = one_number v to end (subst (λ (w : Token). w.kind ≡ Node to) mark last) final in
      (λ i. record { from = first i; trees = inside.0 i; to = second i; at = inside.1 i }, same_rest (same_rest inside.2))

  -- no chain begins where no node mark stands
  no_chain : {ts rest : List Token} {c : WrittenChain} → NextIsNo after_chains ts → ReadsChain names text ts c rest → ⊥
  no_chain n (reads_chain {t} is trees last stops) = fails_not after_chains a_node_mark t refl (ap sort_of is) n

  more_chains : {ts rest end : List Token} {cs ds : List WrittenChain} → ReadsMoreChains names text ts cs rest → ReadsMoreChains names text ts ds end
      → NextIsNo after_chains rest → NextIsNo after_chains end → (cs ≡ ds) × (rest ≡ end)
  more_chains no_more_chains no_more_chains n m = (refl, refl)
  more_chains no_more_chains (one_more_chain next others) n m = absurd (no_chain n next)
  more_chains (one_more_chain first more) no_more_chains n m = absurd (no_chain m first)
  more_chains {end} (one_more_chain first more) (one_more_chain {behind} next others) n m =
      let here = one_chain first next in
      let there = more_chains more (subst (λ us. ReadsMoreChains names text us behind end) (sym here.1) others) n m in
      (λ i. here.0 i ∷ there.0 i, there.1)

  one_chains : {ts rest end : List Token} {cs ds : List WrittenChain} → ReadsChains names text ts cs rest → ReadsChains names text ts ds end
      → NextIsNo after_chains rest → NextIsNo after_chains end → (cs ≡ ds) × (rest ≡ end)
  one_chains {end} (reads_chains first more) (reads_chains {behind} next others) n m =
      let here = one_chain first next in
      let there = more_chains more (subst (λ us. ReadsMoreChains names text us behind end) (sym here.1) others) n m in
      (λ i. here.0 i ∷ there.0 i, there.1)

  pub one_graph : {ts rest end : List Token} {cs ds : List WrittenChain} → ReadsGraph names text ts cs rest → ReadsGraph names text ts ds end → (cs ≡ ds) × (rest ≡ end)
  one_graph (reads_graph {u} e chains f) (reads_graph {u = v} g others h) =
      let inside = one_chains chains others (fails_for after_chains (the_word Fin) u refl f) (fails_for after_chains (the_word Fin) v refl h) in
      (inside.0, same_rest inside.1)
