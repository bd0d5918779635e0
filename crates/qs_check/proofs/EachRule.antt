-- A rule that can be checked is accepted, or has a first cause why it isn't.
use Rattle.std.proofs.Common.{◌≡◌, ◌⊎◌, ℕ, zero, suc, ◌+◌, ◌<◌, ◌≤◌, inl, inr, ⊎_elim, List, [], ◌∷◌, length, take, get_or, Some, slice_get, refl, sym, ◌∙◌, ap, subst, arith, length-append}
use Rattle.std.proofs.lemmas.Bool.{cases_lt}
use Rattle.std.proofs.lemmas.List.{take_all}
use Rattle.std.proofs.lemmas.Option.{slice_get-get_or}
use Rattle.qs_tree.specs.Lists.{◌∈◌}
use Rattle.qs_tree.proofs.Decisions.{decide_member}
use Rattle.qs_tree.proofs.Members.{in_append_right}
use Rattle.qs_lex.specs.declared.refusal.Cause.{Cause}
use Rattle.qs_lex.specs.declared.refusal.Cause.TheVariants.{SideTooLong, TooManyCells, TooManyVariables, Unbound}
use Rattle.qs_pattern.specs.Limits.{most_patterns, most_cells, most_variables}
use Rattle.qs_pattern.specs.declared.variable.Var.{Var}
use Rattle.qs_pattern.specs.declared.pattern.Head.{Head}
use Rattle.qs_pattern.specs.declared.pattern.Head.TheVariants as head
use Rattle.qs_pattern.specs.Variables.{firsts}
use Rattle.qs_pattern.specs.Patterns.{Patterns, no_pattern, node_first, tree_var_first, forest_var_first, count, cells, head_variables, variables_in}
use Rattle.qs_pattern.specs.Rules.{IsAcceptable, rule_cells, rule_variables, variables_behind}
use Rattle.qs_pattern.proofs.MatchDecisions.{decide_var}
use Rattle.qs_pattern.proofs.VariableLemmas.{from_firsts, in_firsts}
use Rattle.qs_ruletext.specs.Reading.{joined}
use Rattle.qs_ruletext.specs.WrittenRules.{WrittenRule}
use Rattle.qs_check.specs.declared.checking.CheckEnd.TheVariants.{Refused}
use Rattle.qs_check.specs.Cells.{written_rule, variables_among}
use Rattle.qs_check.specs.Causes.{Has17th, HasShortSides, Has33rd, HasUnbound, IsFirstCause, left_too_long, right_too_long, too_many_cells, too_many_variables, unbound}
use Rattle.qs_check.specs.Checking.{CanBeChecked, EndsWith}
use Rattle.qs_check.proofs.Written.{variables-rule}
use Rattle.qs_check.proofs.Among.{each_more, firsts_same, firsts_new, only_variable}
use Rattle.qs_check.proofs.Limits.{place_within}

-- ---- the 17th tree of a side

-- a side is cut behind its first n patterns
record IsCut (n : ℕ) (side : Patterns) : Type 0 where
  front : Patterns
  behind : Patterns
  are : side ≡ joined front behind
  many : count front ≡ n
  more : 0 < count behind

cut : (n : ℕ) (side : Patterns) → n < count side → IsCut n side
cut zero side l = record { front = no_pattern; behind = side; are = refl; many = refl; more = l }
cut (suc n) no_pattern l = absurd (omega arith)
cut (suc n) (node_first h kids side) l =
    let c = cut n side (omega arith) in record { front = node_first h kids c.front; behind = c.behind; are = ap (node_first h kids) c.are; many = omega (arith, c.many); more = c.more }
cut (suc n) (tree_var_first v side) l =
    let c = cut n side (omega arith) in record { front = tree_var_first v c.front; behind = c.behind; are = ap (tree_var_first v) c.are; many = omega (arith, c.many); more = c.more }
cut (suc n) (forest_var_first v side) l =
    let c = cut n side (omega arith) in record { front = forest_var_first v c.front; behind = c.behind; are = ap (forest_var_first v) c.are; many = omega (arith, c.many); more = c.more }

side_decided : (side : Patterns) → (count side ≤ most_patterns) ⊎ ((place : ℕ) × Has17th side place)
side_decided side =
    ⊎_elim
    (λ long. let c = cut most_patterns side long in inr (cells c.front, record { front = c.front; behind = c.behind; are = c.are; sixteen = c.many; more = c.more; cells_before = refl }))
    (λ short. inl short)
    (cases_lt most_patterns (count side))

-- ---- variables among the cells

head_at : (xs : List Head) (k : ℕ) → k < length xs → (x : Head) × (x ≡ get_or xs k x) × (slice_get xs k ≡ Some x)
head_at [] k l = absurd (omega arith)
head_at (x ∷ xs) zero l = (x, refl, refl)
head_at (x ∷ xs) (suc k) l = let r = head_at xs k (omega arith) in (r.0, r.1, r.2)

module _ (cs : List Head) where
  -- the cell at a place is a variable that isn't among some, or it adds none to them
  new_or_known : (x : Head) (known : List Var) → ((v : Var) × (x ≡ head.Var v) × (v ∈ known → ⊥)) ⊎ ((v : Var) → v ∈ head_variables x → v ∈ known)
  new_or_known (head.Label l) known = inr (λ v i. absurd i)
  new_or_known (head.Var w) known = by (decide_member decide_var w known)
    where
      by : Dec (w ∈ known) → ((v : Var) × (head.Var w ≡ head.Var v) × (v ∈ known → ⊥)) ⊎ ((v : Var) → v ∈ head_variables (head.Var w) → v ∈ known)
      by (yes i) = inr (λ v j. subst (λ u. u ∈ known) (sym (only_variable (head.Var w) w v refl j)) i)
      by (no n) = inl (w, refl, n)

  abbrev FewBefore : ℕ → Type 0
  FewBefore n = length (firsts (variables_among (take n cs))) ≤ most_variables

  one_further : (n : ℕ) (x : Head) → n < length cs → x ≡ get_or cs n x → slice_get cs n ≡ Some x → FewBefore n → FewBefore (n + 1) ⊎ ((place : ℕ) × Has33rd cs place)
  one_further n x l is there few = by (new_or_known x (variables_among (take n cs)))
    where
      by : ((v : Var) × (x ≡ head.Var v) × (v ∈ variables_among (take n cs) → ⊥)) ⊎ ((v : Var) → v ∈ head_variables x → v ∈ variables_among (take n cs)) → FewBefore (n + 1) ⊎ ((place : ℕ) × Has33rd cs place)
      by (inr known) =
          let same = firsts_same cs n x l is (λ v i. in_firsts (variables_among (take n cs)) v (known v i)) in
          inl (omega (arith, ap length same, few))
      by (inl w) =
          let more = firsts_new cs n x l is w.0 w.1 (λ i. w.2 (from_firsts (variables_among (take n cs)) w.0 i)) in
          let many : length (firsts (variables_among (take (n + 1) cs))) ≡ length (firsts (variables_among (take n cs))) + 1 = ap length more ∙ length-append (firsts (variables_among (take n cs))) (w.0 ∷ []) in
          ⊎_elim
          (λ less. inl (omega (arith, many, less)))
          (λ full. inr (n, record { var = w.0; at = there ∙ ap (λ h. Some h) w.1; new = w.2; before = omega (arith, full, few) }))
          (cases_lt (length (firsts (variables_among (take n cs)))) most_variables)

  few_up_to : (n : ℕ) → n ≤ length cs → FewBefore n ⊎ ((place : ℕ) × Has33rd cs place)
  few_up_to zero l = inl (omega arith)
  few_up_to (suc n) l = ⊎_elim next (λ h. inr h) (few_up_to n (omega arith))
    where
      next : FewBefore n → FewBefore (suc n) ⊎ ((place : ℕ) × Has33rd cs place)
      next few =
          let x = head_at cs n (omega arith) in
          let up : n + 1 ≡ suc n = omega arith in
          subst (λ k. FewBefore k ⊎ ((place : ℕ) × Has33rd cs place)) up (one_further n x.0 (omega arith) x.1 x.2 few)

  variables_decided : (length (firsts (variables_among cs)) ≤ most_variables) ⊎ ((place : ℕ) × Has33rd cs place)
  variables_decided =
      ⊎_elim (λ few. inl (subst (λ us. length (firsts (variables_among us)) ≤ most_variables) (take_all (length cs) cs (omega arith)) few)) (λ h. inr h) (few_up_to (length cs) (omega arith))

  module _ (left : List Var) where
    abbrev BoundBefore : ℕ → Type 0
    BoundBefore n = (v : Var) → v ∈ variables_among (take n cs) → v ∈ left

    bound_up_to : (n : ℕ) → n ≤ length cs → BoundBefore n ⊎ ((place : ℕ) × HasUnbound cs left place)
    bound_up_to zero l = inl (λ v i. absurd i)
    bound_up_to (suc n) l = ⊎_elim next (λ h. inr h) (bound_up_to n (omega arith))
      where
        next : BoundBefore n → BoundBefore (suc n) ⊎ ((place : ℕ) × HasUnbound cs left place)
        next bound =
            let x = head_at cs n (omega arith) in
            let up : n + 1 ≡ suc n = omega arith in
            ⊎_elim
            (λ w. inr (n, record { var = w.0; at = x.2 ∙ ap (λ h. Some h) w.1; unbound = w.2; bound_before = bound }))
            (λ known. inl (subst BoundBefore up (each_more cs n x.0 (omega arith) x.1 left bound known)))
            (new_or_known x.0 left)

    bound_decided : ((v : Var) → v ∈ variables_among cs → v ∈ left) ⊎ ((place : ℕ) × HasUnbound cs left place)
    bound_decided =
        ⊎_elim (λ bound. inl (subst (λ us. (v : Var) → v ∈ variables_among us → v ∈ left) (take_all (length cs) cs (omega arith)) bound)) (λ h. inr h) (bound_up_to (length cs) (omega arith))

-- ---- a rule

module _ (raw : WrittenRule) (can : CanBeChecked raw) where
  abbrev IsDecided : Type 0
  IsDecided = IsAcceptable raw.rule ⊎ ((cause : Cause) × (place : ℕ) × IsFirstCause raw.rule cause place)

  by_binding : HasShortSides raw.rule → rule_cells raw.rule ≤ most_cells → length (firsts (rule_variables raw.rule)) ≤ most_variables → IsDecided
  by_binding short few fewer =
      ⊎_elim
      (λ bound. inl (record {
        left = record { some = can.left_some; at_most = short.left; no_forest_at_top = can.left_top; in_class = can.left_in_class };
        right = record { some = can.right_some; at_most = short.right; no_forest_at_top = can.right_top; in_class = can.right_in_class };
        condition = can.condition_in_class;
        members = can.members;
        cells = few;
        variables = fewer;
        bound = λ v i. bound v (subst (λ vs. v ∈ vs) (sym (variables-rule raw.rule)) (in_append_right (variables_in raw.rule.left) (variables_behind raw.rule) v i));
      }))
      (λ h. inr (Unbound, h.0, unbound short few fewer h.1))
      (bound_decided (written_rule raw.rule) (variables_in raw.rule.left))

  by_variables : HasShortSides raw.rule → rule_cells raw.rule ≤ most_cells → IsDecided
  by_variables short few =
      ⊎_elim
      (λ fewer. by_binding short few (subst (λ vs. length (firsts vs) ≤ most_variables) (variables-rule raw.rule) fewer))
      (λ h. inr (TooManyVariables, h.0, too_many_variables short few h.1))
      (variables_decided (written_rule raw.rule))

  by_cells : HasShortSides raw.rule → IsDecided
  by_cells short = ⊎_elim (λ many. inr (TooManyCells, most_cells, too_many_cells short many)) (λ few. by_variables short few) (cases_lt most_cells (rule_cells raw.rule))

  pub rule_decided : IsDecided
  rule_decided =
      ⊎_elim
      (λ left. ⊎_elim
      (λ right. by_cells (record { left = left; right = right }))
      (λ h. inr (SideTooLong, cells raw.rule.left + h.0, right_too_long left h.1))
      (side_decided raw.rule.right))
      (λ h. inr (SideTooLong, h.0, left_too_long h.1))
      (side_decided raw.rule.left)

  -- with the byte of its cell
  pub rule_accepted_or_refused : IsAcceptable raw.rule ⊎ ((cause : Cause) × (at : ℕ) × EndsWith raw (Refused cause at))
  rule_accepted_or_refused =
      ⊎_elim (λ ok. inl ok)
      (λ c. inr (c.0, get_or raw.at c.1 0, (c.1, c.2, slice_get-get_or raw.at c.1 0 (omega (arith, place_within raw.rule c.0 c.1 c.2, can.bytes)))))
      rule_decided
