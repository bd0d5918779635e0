-- Where a first cause applies, and that there is only one.
use Rattle.std.proofs.Common.{◌≡◌, ℕ, ◌+◌, ◌<◌, ◌≤◌, inl, ⊎_elim, List, [], ◌∷◌, ◌++◌, length, take, drop, Option, Some, None, slice_get, refl, sym, ◌∙◌, ap, subst, arith, length-append}
use Rattle.std.specs.Prelude.{MatchOption}
use Rattle.std.proofs.lemmas.Bool.{cases_order}
use Rattle.std.proofs.lemmas.List.{take-take, take_all, take-append-drop}
use Rattle.std.proofs.lemmas.Option.{slice_get_within, get_or_from_slice_get}
use Rattle.qs_tree.specs.Lists.{◌∈◌}
use Rattle.qs_tree.proofs.Members.{in_append_left, in_append_right, from_append}
use Rattle.qs_lex.specs.declared.refusal.Cause.{Cause}
use Rattle.qs_pattern.specs.Limits.{most_patterns, most_variables}
use Rattle.qs_pattern.specs.declared.variable.Var.{Var}
use Rattle.qs_pattern.specs.declared.pattern.Head.{Head}
use Rattle.qs_pattern.specs.declared.pattern.Head.TheVariants as head
use Rattle.qs_pattern.specs.Variables.{firsts}
use Rattle.qs_pattern.specs.Patterns.{Patterns, no_pattern, node_first, tree_var_first, forest_var_first, count, cells, variables_in}
use Rattle.qs_pattern.specs.Rules.{UnmarkedRule, IsAcceptable, rule_cells, rule_variables, variables_behind}
use Rattle.qs_check.specs.Cells.{written_rule, variables_among}
use Rattle.qs_ruletext.specs.Reading.{joined}
use Rattle.qs_check.specs.Causes.{Has17th, Has33rd, HasUnbound, IsFirstCause, left_too_long, right_too_long, too_many_cells, too_many_variables, unbound}
use Rattle.qs_pattern.proofs.VariableLemmas.{from_firsts}
use Rattle.qs_check.proofs.Written.{length-rule, variables-rule, variables_among-append}
use Rattle.qs_check.proofs.Among.{among-more, firsts_new, firsts-grow}

pub some_case : {X : Type 0} (o : Option X) (P : Type 0) (Q : X → Type 0) (x : X) → o ≡ Some x → MatchOption o P Q → Q x
some_case o P Q x e m = subst (λ o. MatchOption o P Q) e m

pub none_case : {X : Type 0} (o : Option X) (P : Type 0) (Q : X → Type 0) → o ≡ None → MatchOption o P Q → P
none_case o P Q e m = subst (λ o. MatchOption o P Q) e m

pub cells-joined : (ps qs : Patterns) → cells (joined ps qs) ≡ cells ps + cells qs
cells-joined no_pattern qs = omega arith
cells-joined (node_first h kids ps) qs = omega (arith, cells-joined ps qs)
cells-joined (tree_var_first v ps) qs = omega (arith, cells-joined ps qs)
cells-joined (forest_var_first v ps) qs = omega (arith, cells-joined ps qs)

pub count-joined : (ps qs : Patterns) → count (joined ps qs) ≡ count ps + count qs
count-joined no_pattern qs = omega arith
count-joined (node_first h kids ps) qs = omega (arith, count-joined ps qs)
count-joined (tree_var_first v ps) qs = omega (arith, count-joined ps qs)
count-joined (forest_var_first v ps) qs = omega (arith, count-joined ps qs)

some_cells : (ps : Patterns) → 0 < count ps → 0 < cells ps
some_cells no_pattern h = omega arith
some_cells (node_first h kids ps) some = omega arith
some_cells (tree_var_first v ps) some = omega arith
some_cells (forest_var_first v ps) some = omega arith

within_17th : (side : Patterns) (n : ℕ) → Has17th side n → n < cells side
within_17th side n h = omega (arith, ap cells h.are, cells-joined h.front h.behind, some_cells h.behind h.more, h.cells_before)

-- the cell at which a first cause applies is one of the rule's
pub place_within : (rule : UnmarkedRule) (c : Cause) (n : ℕ) → IsFirstCause rule c n → n < rule_cells rule
place_within rule c n (left_too_long h) = omega (arith, within_17th rule.left n h)
place_within rule c n (right_too_long {place = m} short h) = omega (arith, within_17th rule.right m h)
place_within rule c n (too_many_cells short h) = omega arith
place_within rule c n (too_many_variables short few h) = omega (arith, slice_get_within (written_rule rule) n (head.Var h.var) h.at, length-rule rule)
place_within rule c n (unbound short few fewer h) = omega (arith, slice_get_within (written_rule rule) n (head.Var h.var) h.at, length-rule rule)

-- ---- two roots of a 17th tree

-- fronts of one list with equally many patterns have equally many cells
same_front : (ps qs us vs : Patterns) → joined ps us ≡ joined qs vs → count ps ≡ count qs → cells ps ≡ cells qs
same_front no_pattern no_pattern us vs e n = refl
same_front (node_first h ks ps) (node_first g ls qs) us vs e n =
    let kids : ks ≡ ls = cc in
    let rest : joined ps us ≡ joined qs vs = cc in
    omega (arith, ap cells kids, same_front ps qs us vs rest (omega arith))
same_front (tree_var_first v ps) (tree_var_first w qs) us vs e n =
    let rest : joined ps us ≡ joined qs vs = cc in
    omega (arith, same_front ps qs us vs rest (omega arith))
same_front (forest_var_first v ps) (forest_var_first w qs) us vs e n =
    let rest : joined ps us ≡ joined qs vs = cc in
    omega (arith, same_front ps qs us vs rest (omega arith))
same_front no_pattern (node_first g ls qs) us vs e n = absurd (omega arith)
same_front no_pattern (tree_var_first w qs) us vs e n = absurd (omega arith)
same_front no_pattern (forest_var_first w qs) us vs e n = absurd (omega arith)
same_front (node_first h ks ps) no_pattern us vs e n = absurd (omega arith)
same_front (tree_var_first v ps) no_pattern us vs e n = absurd (omega arith)
same_front (forest_var_first v ps) no_pattern us vs e n = absurd (omega arith)
same_front (node_first h ks ps) (tree_var_first w qs) us vs e n = absurd cc
same_front (node_first h ks ps) (forest_var_first w qs) us vs e n = absurd cc
same_front (tree_var_first v ps) (node_first g ls qs) us vs e n = absurd cc
same_front (tree_var_first v ps) (forest_var_first w qs) us vs e n = absurd cc
same_front (forest_var_first v ps) (node_first g ls qs) us vs e n = absurd cc
same_front (forest_var_first v ps) (tree_var_first w qs) us vs e n = absurd cc

one_17th : (side : Patterns) (n m : ℕ) → Has17th side n → Has17th side m → n ≡ m
one_17th side n m h k =
    h.cells_before ∙ same_front h.front k.front h.behind k.behind (sym h.are ∙ k.are) (h.sixteen ∙ sym k.sixteen) ∙ sym k.cells_before

long_17th : (side : Patterns) (n : ℕ) → Has17th side n → most_patterns < count side
long_17th side n h = omega (arith, ap count h.are, count-joined h.front h.behind, h.sixteen, h.more)

-- ---- variables in front of a place

module _ (cs : List Head) where
  -- what is in front of a place is in front of each later one
  later : (m n : ℕ) → m ≤ n → variables_among (take n cs) ≡ variables_among (take m cs) ++ variables_among (drop m (take n cs))
  later m n h =
      ap variables_among (sym (take-append-drop m (take n cs))) ∙ variables_among-append (take m (take n cs)) (drop m (take n cs))
      ∙ ap (λ us. variables_among us ++ variables_among (drop m (take n cs))) (take-take m n cs h)

  -- a variable that stands in front of a place is among those in front of it
  in_front : (m n : ℕ) (v : Var) → slice_get cs m ≡ Some (head.Var v) → m < n → v ∈ variables_among (take n cs)
  in_front m n v at h =
      let within = slice_get_within cs m (head.Var v) at in
      let here : v ∈ variables_among (take (m + 1) cs) = subst (λ vs. v ∈ vs) (sym (among-more cs m (head.Var v) within (sym (get_or_from_slice_get cs m (head.Var v) (head.Var v) at))))
      (in_append_right (variables_among (take m cs)) (v ∷ []) v (inl refl)) in
      subst (λ vs. v ∈ vs) (sym (later (m + 1) n (omega arith))) (in_append_left (variables_among (take (m + 1) cs)) (variables_among (drop (m + 1) (take n cs))) v here)

  -- the 33rd different variable makes 33
  thirty_three : (n m : ℕ) → Has33rd cs n → n < m → most_variables < length (firsts (variables_among (take m cs)))
  thirty_three n m h l =
      let within = slice_get_within cs n (head.Var h.var) h.at in
      let new : h.var ∈ firsts (variables_among (take n cs)) → ⊥ = λ i. h.new (from_firsts (variables_among (take n cs)) h.var i) in
      let more = firsts_new cs n (head.Var h.var) within (sym (get_or_from_slice_get cs n (head.Var h.var) (head.Var h.var) h.at)) h.var refl new in
      let here = ap length more in
      let grown = ap (λ vs. length (firsts vs)) (later (n + 1) m (omega arith)) in
      omega (
        arith,
        here,
        length-append (firsts (variables_among (take n cs))) (h.var ∷ []),
        h.before,
        grown,
        firsts-grow (variables_among (take (n + 1) cs)) (variables_among (drop (n + 1) (take m cs))),
      )

  many : (n : ℕ) → Has33rd cs n → most_variables < length (firsts (variables_among cs))
  many n h =
      let within = slice_get_within cs n (head.Var h.var) h.at in
      subst (λ us. most_variables < length (firsts (variables_among us))) (take_all (length cs) cs (omega arith)) (thirty_three n (length cs) h within)

  not_before_33rd : (n m : ℕ) → Has33rd cs n → Has33rd cs m → n < m → ⊥
  not_before_33rd n m h k l = let more = thirty_three n m h l in let less = k.before in omega arith

  one_33rd : (n m : ℕ) → Has33rd cs n → Has33rd cs m → n ≡ m
  one_33rd n m h k = ⊎_elim (λ e. e) (λ o. absurd (⊎_elim (not_before_33rd n m h k) (not_before_33rd m n k h) o)) (cases_order n m)

  not_before_unbound : (left : List Var) (n m : ℕ) → HasUnbound cs left n → HasUnbound cs left m → n < m → ⊥
  not_before_unbound left n m h k l = h.unbound (k.bound_before h.var (in_front n m h.var h.at l))

  one_unbound : (left : List Var) (n m : ℕ) → HasUnbound cs left n → HasUnbound cs left m → n ≡ m
  one_unbound left n m h k = ⊎_elim (λ e. e) (λ o. absurd (⊎_elim (not_before_unbound left n m h k) (not_before_unbound left m n k h) o)) (cases_order n m)

many_different : (rule : UnmarkedRule) (n : ℕ) → Has33rd (written_rule rule) n → most_variables < length (firsts (rule_variables rule))
many_different rule n h = subst (λ vs. most_variables < length (firsts vs)) (variables-rule rule) (many (written_rule rule) n h)

-- ---- one first cause

pub one_cause : (rule : UnmarkedRule) (c d : Cause) (i j : ℕ) → IsFirstCause rule c i → IsFirstCause rule d j → (c ≡ d) × (i ≡ j)
one_cause rule c d i j (left_too_long h) (left_too_long k) = (refl, one_17th rule.left i j h k)
one_cause rule c d i j (left_too_long h) (right_too_long s k) = absurd (omega (arith, long_17th rule.left i h, s))
one_cause rule c d i j (left_too_long h) (too_many_cells s k) = absurd (omega (arith, long_17th rule.left i h, s.left))
one_cause rule c d i j (left_too_long h) (too_many_variables s f k) = absurd (omega (arith, long_17th rule.left i h, s.left))
one_cause rule c d i j (left_too_long h) (unbound s f g k) = absurd (omega (arith, long_17th rule.left i h, s.left))
one_cause rule c d i j (right_too_long t h) (left_too_long k) = absurd (omega (arith, long_17th rule.left j k, t))
one_cause rule c d i j (right_too_long {place = n} t h) (right_too_long {place = m} s k) = (refl, ap (λ o. cells rule.left + o) (one_17th rule.right n m h k))
one_cause rule c d i j (right_too_long {place = n} t h) (too_many_cells s k) = absurd (omega (arith, long_17th rule.right n h, s.right))
one_cause rule c d i j (right_too_long {place = n} t h) (too_many_variables s f k) = absurd (omega (arith, long_17th rule.right n h, s.right))
one_cause rule c d i j (right_too_long {place = n} t h) (unbound s f g k) = absurd (omega (arith, long_17th rule.right n h, s.right))
one_cause rule c d i j (too_many_cells t h) (left_too_long k) = absurd (omega (arith, long_17th rule.left j k, t.left))
one_cause rule c d i j (too_many_cells t h) (right_too_long {place = m} s k) = absurd (omega (arith, long_17th rule.right m k, t.right))
one_cause rule c d i j (too_many_cells t h) (too_many_cells s k) = (refl, refl)
one_cause rule c d i j (too_many_cells t h) (too_many_variables s f k) = absurd (omega arith)
one_cause rule c d i j (too_many_cells t h) (unbound s f g k) = absurd (omega arith)
one_cause rule c d i j (too_many_variables t e h) (left_too_long k) = absurd (omega (arith, long_17th rule.left j k, t.left))
one_cause rule c d i j (too_many_variables t e h) (right_too_long {place = m} s k) = absurd (omega (arith, long_17th rule.right m k, t.right))
one_cause rule c d i j (too_many_variables t e h) (too_many_cells s k) = absurd (omega arith)
one_cause rule c d i j (too_many_variables t e h) (too_many_variables s f k) = (refl, one_33rd (written_rule rule) i j h k)
one_cause rule c d i j (too_many_variables t e h) (unbound s f g k) = absurd (omega (arith, many_different rule i h, g))
one_cause rule c d i j (unbound t e g h) (left_too_long k) = absurd (omega (arith, long_17th rule.left j k, t.left))
one_cause rule c d i j (unbound t e g h) (right_too_long {place = m} s k) = absurd (omega (arith, long_17th rule.right m k, t.right))
one_cause rule c d i j (unbound t e g h) (too_many_cells s k) = absurd (omega arith)
one_cause rule c d i j (unbound t e g h) (too_many_variables s f k) = absurd (omega (arith, many_different rule j k, g))
one_cause rule c d i j (unbound t e g h) (unbound s f l k) = (refl, one_unbound (written_rule rule) (variables_in rule.left) i j h k)

pub none_if_accepted : (rule : UnmarkedRule) (c : Cause) (i : ℕ) → IsAcceptable rule → IsFirstCause rule c i → ⊥
none_if_accepted rule c i ok (left_too_long h) = omega (arith, long_17th rule.left i h, ok.left.at_most)
none_if_accepted rule c i ok (right_too_long {place = n} s h) = omega (arith, long_17th rule.right n h, ok.right.at_most)
none_if_accepted rule c i ok (too_many_cells s h) = omega (arith, ok.cells)
none_if_accepted rule c i ok (too_many_variables s f h) = omega (arith, many_different rule i h, ok.variables)
none_if_accepted rule c i ok (unbound s f g h) =
    let v = h.var in
    let m : v ∈ variables_among (written_rule rule) = member_at (written_rule rule) i v h.at in
    let both = from_append (variables_in rule.left) (variables_behind rule) v (subst (λ vs. v ∈ vs) (variables-rule rule) m) in
    h.unbound (⊎_elim (λ j. j) (ok.bound v) both)
  where
    member_at : (cs : List Head) (n : ℕ) (v : Var) → slice_get cs n ≡ Some (head.Var v) → v ∈ variables_among cs
    member_at cs n v at =
        subst (λ us. v ∈ variables_among us) (take_all (length cs) cs (omega arith)) (in_front cs n (length cs) v at (slice_get_within cs n (head.Var v) at))
