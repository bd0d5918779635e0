-- How lists of conditions are written, from one place on.
use Rattle.std.proofs.Common.{◌≡◌, ℕ, ◌<◌, ◌≤◌, ◌+◌, length, List, [], ◌∷◌, ◌++◌, sym, refl, ap, ◌∙◌, subst, append_assoc, append-nil, take, drop, get_or, ◌⊎◌, inl, inr, Result, Ok, Err, OnErr, Global}
use Rattle.std.specs.declared.vec.Vec.{Vec}
use Rattle.qs_tree.proofs.Kept.{kept-further}
use Rattle.std.proofs.lemmas.List.{drop_more, drop_all}
use Rattle.std.specs.List.{flat_map}
use Rattle.qs_pattern.specs.declared.condition.Cond.{Cond, All, Any}
use Rattle.qs_pattern.specs.Conditions.{Condition, Conditions, all, any, combined, condition_of}
use Rattle.qs_pattern.specs.working.Conditions.{conditions}
use Rattle.qs_pattern.proofs.ConditionLemmas.{condition-All, condition-Any}
use Rattle.qs_pattern.specs.Named.{IsConditionNamed}
use Rattle.qs_pattern.specs.working.Named.{AreConditionsNamed}
use Rattle.qs_ruletext.specs.Texts.{joined, tightness, member_text, member_texts, condition_text}
use Rattle.qs_ruletext.specs.working.Texts.{word_of}

-- these texts, each behind `between`, but the first behind `before`
abbrev pub begun : List ℕ → List ℕ → List (List ℕ) → List ℕ
begun before between [] = []
begun before between (t ∷ ts) = before ++ (t ++ flat_map (λ u. between ++ u) ts)

begun_between : (between : List ℕ) (ts : List (List ℕ)) → begun between between ts ≡ flat_map (λ u. between ++ u) ts
begun_between between [] = refl
begun_between between (t ∷ ts) = sym (append_assoc between t (flat_map (λ u. between ++ u) ts))

pub begun_all : (between : List ℕ) (ts : List (List ℕ)) → begun [] between ts ≡ joined between ts
begun_all between [] = refl
begun_all between (t ∷ ts) = refl

module _ (names : List (List ℕ)) (cs : List Cond) (i : ℕ) (x : Cond) (l : i < length cs) (is : x ≡ get_or cs i x) where
  pub conditions_here : conditions (drop i cs) ≡ conditions (x ∷ drop (i + 1) cs)
  conditions_here = ap conditions (drop_more cs i x l) ∙ ap (λ y. conditions (y ∷ drop (i + 1) cs)) (sym is)

  pub member_named : (n : ℕ) → AreConditionsNamed n (conditions (drop i cs)) → IsConditionNamed n (condition_of x) × AreConditionsNamed n (conditions (drop (i + 1) cs))
  member_named n c = subst (AreConditionsNamed n) conditions_here c

  pub begun_more : (outer : ℕ) (before between a b c whole : List ℕ) → b ≡ a ++ before
      → c ≡ b ++ member_text outer (condition_of x) (condition_text names (condition_of x))
      → a ++ begun before between (member_texts names outer (conditions (drop i cs))) ≡ whole
      → c ++ begun between between (member_texts names outer (conditions (drop (i + 1) cs))) ≡ whole
  begun_more outer before between a b c whole e f h =
      let t : List ℕ = member_text outer (condition_of x) (condition_text names (condition_of x)) in
      let ts : List (List ℕ) = member_texts names outer (conditions (drop (i + 1) cs)) in
      let rest : List ℕ = flat_map (λ u. between ++ u) ts in
      ap (λ xs. c ++ xs) (begun_between between ts)
      ∙ ap (λ xs. xs ++ rest) (f ∙ ap (λ xs. xs ++ t) e)
      ∙ append_assoc (a ++ before) t rest
      ∙ append_assoc a before (t ++ rest)
      ∙ sym (ap (λ ks. a ++ begun before between (member_texts names outer ks)) conditions_here)
      ∙ h

pub begun_done : (names : List (List ℕ)) (outer : ℕ) (cs : List Cond) (i : ℕ) (before between a whole : List ℕ) → length cs ≤ i
    → a ++ begun before between (member_texts names outer (conditions (drop i cs))) ≡ whole → a ≡ whole
begun_done names outer cs i before between a whole l h =
    sym (append-nil a) ∙ ap (λ ds. a ++ begun before between (member_texts names outer (conditions ds))) (sym (drop_all i cs l)) ∙ h

members_of : (names : List (List ℕ)) (word : List ℕ) (outer : ℕ) (c d : Condition) (cs : Conditions) → c ≡ d
    → condition_text names d ≡ joined (word_of d) (member_texts names (tightness d) cs) → word ≡ word_of c → outer ≡ tightness c
    → condition_text names c ≡ joined word (member_texts names outer cs)
members_of names word outer c d cs e t w o =
    ap (condition_text names) e ∙ t
    ∙ ap (λ v. joined v (member_texts names (tightness d) cs)) (sym (w ∙ ap word_of e))
    ∙ ap (λ n. joined word (member_texts names n cs)) (sym (o ∙ ap tightness e))

module _ (ms : Vec Cond Global) (c : Cond) (is : (c ≡ All ms) ⊎ (c ≡ Any ms)) where
  -- the members of a condition that joins several
  pub members_named : (n : ℕ) → IsConditionNamed n (condition_of c) → AreConditionsNamed n (conditions ms.items)
  members_named n k =
      elim is [
        | inl e ↦ subst (IsConditionNamed n) (ap condition_of e ∙ condition-All ms) k
        | inr e ↦ subst (IsConditionNamed n) (ap condition_of e ∙ condition-Any ms) k
      ]

  pub members_text : (names : List (List ℕ)) (word : List ℕ) (outer : ℕ) → word ≡ word_of (condition_of c) → outer ≡ tightness (condition_of c)
      → condition_text names (condition_of c) ≡ joined word (member_texts names outer (conditions ms.items))
  members_text names word outer w o =
      elim is [
        | inl e ↦ members_of names word outer (condition_of c) (combined all (conditions ms.items)) (conditions ms.items) (ap condition_of e ∙ condition-All ms) refl w o
        | inr e ↦ members_of names word outer (condition_of c) (combined any (conditions ms.items)) (conditions ms.items) (ap condition_of e ∙ condition-Any ms) refl w o
      ]

-- an error further on
pub err_further : {T E : Type 0} (r : Result T E) (start out now : List ℕ) → take (length start) out ≡ start
    → OnErr r (take (length out) now ≡ out) → OnErr r (take (length start) now ≡ start)
err_further (Ok _) start out now k e = tt
err_further (Err _) start out now k e = kept-further start out now k e
