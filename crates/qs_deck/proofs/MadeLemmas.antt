-- The names, the rules, the words and the text of made decks.
use Rattle.std.proofs.Common.{◌≡◌, ◌⊎◌, ℕ, false, zero, suc, ◌+◌, ◌-◌, ◌^◌, ◌<◌, ◌≤◌, List, [], ◌∷◌, ◌++◌, length, map, refl, sym, ◌∙◌, ap, subst, inl, inr, ⊎_elim, arith, get_or, Contains, codes, decimal, flat_map, None}
use Rattle.std.specs.List.{range_with_len}
use Rattle.std.proofs.lemmas.Fmt.{decimal_injective, decimal_nonempty}
use Rattle.std.proofs.lemmas.List.{append_cancel_left, append_assoc, append-nil, length-append}
use Rattle.std.proofs.lemmas.Nat.{pow_pos}
use Rattle.std.proofs.lemmas.List.Elements.{Contains-append_cases}
use Rattle.std.proofs.lemmas.List.FromFn.{length-map-range_with_len, get_or-map-range_with_len, map-range_with_len_more}
use Rattle.qs_tree.specs.Lists.{◌∈◌}
use Rattle.qs_tree.specs.Text.{IsNamed}
use Rattle.qs_tree.proofs.Members.{from_map}
use Rattle.qs_pattern.specs.Variables.{firsts}
use Rattle.qs_pattern.specs.Patterns.{Patterns, no_pattern}
use Rattle.qs_pattern.specs.Rules.{Rule, IsAccepted}
use Rattle.qs_graph.specs.Graphs.{QGraph}
use Rattle.qs_graphtext.specs.Texts.{AreArcsNamed}
use Rattle.qs_deck.specs.declared.system.System.{System}
use Rattle.qs_deck.specs.Decks.{Grammar, grammar_of}
use Rattle.qs_deck.specs.Named.{IsRuleNamed, IsSystemNamed, AreSystemsNamed}
use Rattle.qs_deck.specs.MadeDecks.{level_name, word_name, levels, words, made_names, first_var, second_var, of_level, level_rule, made_grammar, word_tree, made_graph, level_line, words_text, made_text}
use Rattle.qs_deck.specs.working.MadeParts.{numbered}
use Rattle.qs_graph.proofs.Lay.{tree_in_chain}

-- numbers

pub in_range : (a n i : ℕ) → i ∈ range_with_len a n → (a ≤ i) × (i < a + n)
in_range a zero i m = absurd m
in_range a (suc n) i (inl e) = (omega (arith, e), omega (arith, e))
in_range a (suc n) i (inr m) = let (low, high) = in_range (a + 1) n i m in (omega (arith, low), omega (arith, high))

flat_map-range_more : (f : ℕ → List ℕ) (a n j : ℕ) → a + n ≡ j → flat_map f (range_with_len a (n + 1)) ≡ flat_map f (range_with_len a n) ++ f j
flat_map-range_more f a zero j e = let same : a ≡ j = omega (arith, e) in ap (λ i. f i ++ []) same ∙ append-nil (f j)
flat_map-range_more f a (suc n) j e =
    let count : suc n + 1 ≡ suc (n + 1) = omega arith in
    ap (λ m. flat_map f (range_with_len a m)) count
    ∙ ap (λ xs. f a ++ xs) (flat_map-range_more f (a + 1) n j (omega (arith, e))) ∙ sym (append_assoc (f a) (flat_map f (range_with_len (a + 1) n)) (f j))

-- one number more: what was appended for the numbers so far, and for this one
pub appended_next : (f : ℕ → List ℕ) (a j : ℕ) (old out new : List ℕ) → a ≤ j → out ≡ old ++ flat_map f (range_with_len a (j - a)) → new ≡ out ++ f j
    → new ≡ old ++ flat_map f (range_with_len a (j + 1 - a))
appended_next f a j old out new low is grown =
    let count : j + 1 - a ≡ (j - a) + 1 = omega (arith, low) in
    let here : a + (j - a) ≡ j = omega (arith, low) in
    grown ∙ ap (λ xs. xs ++ f j) is ∙ append_assoc old (flat_map f (range_with_len a (j - a))) (f j)
    ∙ ap (λ xs. old ++ xs) (sym (flat_map-range_more f a (j - a) j here)) ∙ ap (λ n. old ++ flat_map f (range_with_len a n)) (sym count)

pub listed_next : {X : Type 0} (f : ℕ → X) (a j : ℕ) (old out new : List X) → a ≤ j → out ≡ old ++ map f (range_with_len a (j - a)) → new ≡ out ++ f j ∷ []
    → new ≡ old ++ map f (range_with_len a (j + 1 - a))
listed_next f a j old out new low is grown =
    let count : j + 1 - a ≡ (j - a) + 1 = omega (arith, low) in
    let here : a + (j - a) ≡ j = omega (arith, low) in
    grown ∙ ap (λ xs. xs ++ f j ∷ []) is ∙ append_assoc old (map f (range_with_len a (j - a))) (f j ∷ [])
    ∙ ap (λ xs. old ++ xs) (sym (map-range_with_len_more f a (j - a) j here)) ∙ ap (λ n. old ++ map f (range_with_len a n)) (sym count)

-- names

-- a text isn't among those with lower numbers
not_below : (letter : List ℕ) (a n number : ℕ) → a + n ≤ number → number < 2 ^ 64 → Contains (map (numbered letter) (range_with_len a n)) (numbered letter number) → ⊥
not_below letter a n number below fits (k, within, e) =
    let f = numbered letter in
    let inside : k < n = subst (λ m. k < m) (length-map-range_with_len f a n) within in
    let same : numbered letter (a + k) ≡ numbered letter number = sym (get_or-map-range_with_len f a n k (a + k) (f number) inside refl) ∙ e in
    let equal : a + k ≡ number = decimal_injective (a + k) number (omega (arith, inside, below, fits)) fits (append_cancel_left letter (decimal (a + k)) (decimal number) same) in
    omega (arith, equal, inside, below)

-- the next text is interned
pub interned_next : (letter : List ℕ) (a number : ℕ) (old names new : List (List ℕ)) (text : List ℕ) → a ≤ number → number < 2 ^ 64
    → names ≡ old ++ map (numbered letter) (range_with_len a (number - a)) → (Contains old (numbered letter number) → ⊥) → text ≡ numbered letter number
    → ((Contains names text → ⊥) → new ≡ names ++ text ∷ [])
    → new ≡ old ++ map (numbered letter) (range_with_len a (number + 1 - a))
interned_next letter a number old names new text low fits is absent same grown =
    let before = map (numbered letter) (range_with_len a (number - a)) in
    let fresh : Contains names text → ⊥ =
    λ there. ⊎_elim absent (not_below letter a (number - a) number (omega (arith, low)) fits)
    (Contains-append_cases old before (numbered letter number)
    (subst (λ xs. Contains xs (numbered letter number)) is (subst (λ x. Contains names x) same there))) in
    listed_next (numbered letter) a number old names new low is (grown fresh ∙ ap (λ x. names ++ x ∷ []) same)

pub names_few : (letter : List ℕ) (a number most : ℕ) (old names : List (List ℕ)) → names ≡ old ++ map (numbered letter) (range_with_len a (number - a))
    → length old + (number - a) ≤ most → length names ≤ most
names_few letter a number most old names is few =
    omega (arith, ap length is, length-append old (map (numbered letter) (range_with_len a (number - a))), length-map-range_with_len (numbered letter) a (number - a), few)

-- the names of the levels don't stand in the way of those of the words
module _ (k : ℕ) (old one new : List (List ℕ)) (empty : old ≡ []) (first : (one ≡ old) ⊎ (one ≡ old ++ codes "M" ∷ []))
    (levels_are : new ≡ one ++ map (numbered (codes "T")) (range_with_len 0 (k + 1))) where
  one_few : length one ≤ 1
  one_few = ⊎_elim (λ e. omega (arith, ap length e, ap length empty)) (λ e. omega (arith, ap length e, length-append old (codes "M" ∷ []), ap length empty)) first

  pub level_names_few : length new ≤ k + 2
  level_names_few =
      omega (arith, one_few, ap length levels_are, length-append one (map (numbered (codes "T")) (range_with_len 0 (k + 1))), length-map-range_with_len (numbered (codes "T")) 0 (k + 1))

  level_absent : (number : ℕ) → Contains (map (numbered (codes "T")) (range_with_len 0 (k + 1))) (numbered (codes "M") number) → ⊥
  level_absent number (i, within, e) =
      let f = numbered (codes "T") in
      let inside : i < k + 1 = subst (λ m. i < m) (length-map-range_with_len f 0 (k + 1)) within in
      let same : numbered (codes "T") (0 + i) ≡ numbered (codes "M") number = sym (get_or-map-range_with_len f 0 (k + 1) i (0 + i) (numbered (codes "M") number) inside refl) ∙ e in
      let letters : 84 ≡ 77 = ap (λ xs. get_or xs 0 0) same in
      omega (arith, letters)

  name_absent : (number : ℕ) → number < 2 ^ 64 → Contains (codes "M" ∷ []) (numbered (codes "M") number) → ⊥
  name_absent number fits (zero, within, e) = omega (arith, ap length e, decimal_nonempty number fits)
  name_absent number fits (suc i, within, e) = omega (arith, within)

  one_absent : (number : ℕ) → number < 2 ^ 64 → Contains one (numbered (codes "M") number) → ⊥
  one_absent number fits there = ⊎_elim
      (λ e. let (i, within, same) = subst (λ xs. Contains xs (numbered (codes "M") number)) (e ∙ empty) there in omega (arith, within))
      (λ e. name_absent number fits (subst (λ xs. Contains xs (numbered (codes "M") number)) (e ∙ ap (λ xs. xs ++ codes "M" ∷ []) empty) there))
      first

  pub word_absent : (number : ℕ) → number ≤ 8208 → Contains new (numbered (codes "M") number) → ⊥
  word_absent number low there = ⊎_elim (one_absent number (omega (arith, low))) (level_absent number)
      (Contains-append_cases one (map (numbered (codes "T")) (range_with_len 0 (k + 1))) (numbered (codes "M") number)
      (subst (λ xs. Contains xs (numbered (codes "M") number)) levels_are there))

names_count : (k : ℕ) → length (made_names k) ≡ k + 2 + 2 ^ k
names_count k =
    omega (arith, length-append (map level_name (levels k)) (map word_name (words k)), length-map-range_with_len level_name 0 (k + 1), length-map-range_with_len word_name 1 (2 ^ k))

-- rules

pub rule_accepted : (i : ℕ) (left right : Patterns) → left ≡ of_level i first_var (of_level i second_var no_pattern) → right ≡ of_level (i + 1) first_var no_pattern
    → IsAccepted (record { left = left; right = right; condition = None; unique = false })
rule_accepted i left right l r = rw (l, r) (record {
  left = record { some = omega arith; at_most = omega arith; no_forest_at_top = tt; in_class = (tt, ((omega arith, omega arith), tt), (tt, ((omega arith, omega arith), tt), tt)) };
  right = record { some = omega arith; at_most = omega arith; no_forest_at_top = tt; in_class = (tt, ((omega arith, omega arith), tt), tt) };
  condition = tt;
  members = tt;
  cells = omega arith;
  variables = let two : length (firsts (first_var ∷ second_var ∷ first_var ∷ [])) ≡ 2 = refl in omega (arith, two);
  bound = λ v among. ⊎_elim (λ e. inl e) (λ none. absurd none) among;
})

pub rule_is : (i : ℕ) (rule : Rule) (left right : Patterns) → rule ≡ record { left = left; right = right; condition = None; unique = false }
    → left ≡ of_level i first_var (of_level i second_var no_pattern) → right ≡ of_level (i + 1) first_var no_pattern → rule ≡ level_rule i
rule_is i rule left right is l r = is ∙ (λ j. record { left = l j; right = r j; condition = None; unique = false })

pub rules_next : (j : ℕ) (out new : List Rule) (rule : Rule) → out ≡ map level_rule (range_with_len 0 j) → rule ≡ level_rule j → new ≡ out ++ rule ∷ []
    → new ≡ map level_rule (range_with_len 0 (j + 1))
rules_next j out new rule is this grown =
    grown ∙ ap (λ rules. rules ++ rule ∷ []) is ∙ ap (λ r. map level_rule (range_with_len 0 j) ++ r ∷ []) this
    ∙ sym (map-range_with_len_more level_rule 0 j j (omega arith))

rule_named : (n i : ℕ) → i + 2 < n → IsRuleNamed n (level_rule i)
rule_named n i within = record {
  left = (omega (arith, within), tt, (omega (arith, within), tt, tt));
  right = (omega (arith, within), tt, tt);
  condition = tt;
}

system_named : (k n : ℕ) (system : System) → k + 2 < n → grammar_of system ≡ made_grammar k → IsSystemNamed n system
system_named k n system within e = record {
  name = let zeroth : system.name.0 ≡ 0 = ap (λ (g : Grammar). g.name.0) e in omega (arith, zeroth, within);
  rules = λ rule among.
      from_map level_rule (range_with_len 0 k) (IsRuleNamed n)
      (λ i there. let (low, high) = in_range 0 k i there in rule_named n i (omega (arith, high, within)))
      rule (subst (λ rules. rule ∈ rules) (ap (λ (g : Grammar). g.rules) e) among);
}

-- trees

-- the labels of a made deck are among its names
pub systems_named : (k : ℕ) (names : List (List ℕ)) (old systems : List System) (system : System) → names ≡ made_names k → old ≡ [] → systems ≡ old ++ system ∷ []
    → grammar_of system ≡ made_grammar k → AreSystemsNamed (length names) systems
systems_named k names old systems system are empty pushed is other among =
    let n : length names ≡ k + 2 + 2 ^ k = ap length are ∙ names_count k in
    let only : other ≡ system = ⊎_elim (λ e. e) (λ none. absurd none) (subst (λ all. other ∈ all) (pushed ∙ ap (λ all. all ++ system ∷ []) empty) among) in
    system_named k (length names) other (omega (arith, n, pow_pos k)) (ap grammar_of only ∙ is)

pub graph_named : (k : ℕ) (names : List (List ℕ)) (graph : QGraph) → names ≡ made_names k → graph ≡ made_graph k → AreArcsNamed (length names) graph.arcs
graph_named k names graph are is arc among =
    let n : length names ≡ k + 2 + 2 ^ k = ap length are ∙ names_count k in
    let trees = map (word_tree k) (words k) in
    from_map (word_tree k) (words k) (IsNamed (length names))
    (λ m there. let (low, high) = in_range 1 (2 ^ k) m there in (omega (arith, n, high, low), (omega (arith, n, high), tt, tt)))
    arc.tree (tree_in_chain 1 trees 3 2 arc (subst (λ arcs. arc ∈ arcs) (ap (λ (G : QGraph). G.arcs) is) among))

-- text

pub lines_next : (f : ℕ → List ℕ) (j : ℕ) (old out new : List ℕ) → out ≡ old ++ flat_map f (range_with_len 0 j) → new ≡ out ++ f j
    → new ≡ old ++ flat_map f (range_with_len 0 (j + 1))
lines_next f j old out new is grown =
    grown ∙ ap (λ xs. xs ++ f j) is ∙ append_assoc old (flat_map f (range_with_len 0 j)) (f j) ∙ ap (λ xs. old ++ xs) (sym (flat_map-range_more f 0 j j (omega arith)))

pub made_text_is : (k : ℕ) (t0 t1 t2 t3 t4 t5 : List ℕ) → t0 ≡ [] → t1 ≡ t0 ++ codes "-SYSTEME- M.\n" → t2 ≡ t1 ++ flat_map level_line (range_with_len 0 k)
    → t3 ≡ t2 ++ codes "-GRAPHE-\n-1- " → t4 ≡ t3 ++ words_text k → t5 ≡ t4 ++ codes " -2-.\n-FIN-\n" → t5 ≡ made_text k
made_text_is k t0 t1 t2 t3 t4 t5 e0 e1 e2 e3 e4 e5 =
    let first = codes "-SYSTEME- M.\n" in
    let rules = flat_map level_line (range_with_len 0 k) in
    let begun = codes "-GRAPHE-\n-1- " in
    let ended = codes " -2-.\n-FIN-\n" in
    e5 ∙ ap (λ t. t ++ ended) (e4 ∙ ap (λ t. t ++ words_text k) (e3 ∙ ap (λ t. t ++ begun) (e2 ∙ ap (λ t. t ++ rules) (e1 ∙ ap (λ t. t ++ first) e0))))
    ∙ append_assoc ((first ++ rules) ++ begun) (words_text k) ended
    ∙ append_assoc (first ++ rules) begun (words_text k ++ ended)
    ∙ append_assoc first rules (begun ++ (words_text k ++ ended))
    ∙ ap (λ t. first ++ (rules ++ (begun ++ t)))
    (sym (append_assoc (words_text k ++ codes " -2-.") (codes "\n") (codes "-FIN-\n") ∙ append_assoc (words_text k) (codes " -2-.") (codes "\n-FIN-\n")))
