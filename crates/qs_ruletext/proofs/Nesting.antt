-- How deep the parentheses of tokens are nested: by the tokens, and by the patterns, the conditions and the rules that they
-- are written for.
use Rattle.std.proofs.Common.{◌≡◌, ℕ, zero, suc, ◌+◌, ◌<◌, ◌≤◌, refl, subst, List, [], ◌∷◌, take, arith, Option, Some, None, slice_get}
use Rattle.std.specs.Prelude.{max, nat_le, if◌then◌else◌, fold}
use Rattle.qs_lex.specs.Limits.{most_open}
use Rattle.qs_lex.specs.declared.token.Token.{Token}
use Rattle.qs_lex.specs.declared.token.Kind.{Kind}
use Rattle.qs_lex.specs.declared.token.Kind.TheVariants.{Bare, Quoted, Variable, Node, Word as a_word, Opening, Closing, Comma, Plus, Slash, Equals, Stop}
use Rattle.qs_lex.specs.Nesting.{open_behind, IsTooDeep}
use Rattle.qs_pattern.specs.Patterns.{Patterns, no_pattern, node_first, tree_var_first, forest_var_first}
use Rattle.qs_pattern.specs.Conditions.{all, any, Condition, Conditions, compared, negated, combined, no_condition, condition_first}
use Rattle.qs_pattern.specs.Rules.{UnmarkedRule}
use Rattle.qs_ruletext.specs.Reading.{joined}
use Rattle.qs_ruletext.specs.Texts.{tightness, joining_tightness}

-- at most 1,000 parentheses are open behind each of these tokens, where so many are open before them
abbrev pub Fits : ℕ → List Token → Type 0
Fits depth [] = Unit {0}
Fits depth (t ∷ ts) = (open_behind depth t.kind ≤ most_open) × Fits (open_behind depth t.kind) ts

-- the token at this index opens one more than 1,000, where so many are open before them all
record IsTooDeepFrom (depth : ℕ) (ts : List Token) (index : ℕ) : Type 0 where
  token : Token
  there : slice_get ts index ≡ Some token
  opening : token.kind ≡ Opening
  deep : most_open < fold (λ n t. open_behind n t.kind) depth (take (suc index) ts)

-- only an opening parenthesis makes more of them open
first_fits : (depth : ℕ) (kind : Kind) → depth ≤ most_open → (kind ≡ Opening → open_behind depth kind ≤ most_open) → open_behind depth kind ≤ most_open
first_fits depth Opening few opened = opened refl
first_fits depth Closing few opened = omega (arith, few)
first_fits depth Bare few opened = few
first_fits depth Quoted few opened = few
first_fits depth (Variable letter number) few opened = few
first_fits depth (Node number) few opened = few
first_fits depth (a_word word) few opened = few
first_fits depth Comma few opened = few
first_fits depth Plus few opened = few
first_fits depth Slash few opened = few
first_fits depth Equals few opened = few
first_fits depth Stop few opened = few

fits_from : (depth : ℕ) (ts : List Token) → depth ≤ most_open → ((index : ℕ) → IsTooDeepFrom depth ts index → ⊥) → Fits depth ts
fits_from depth [] few shallow = tt
fits_from depth (t ∷ ts) few shallow =
    let first : open_behind depth t.kind ≤ most_open = first_fits depth t.kind few (λ e. not_more e (λ more. shallow zero (record { token = t; there = refl; opening = e; deep = more }))) in (
      first,
      fits_from (open_behind depth t.kind) ts first (λ index d. shallow (suc index) (record { token = d.token; there = d.there; opening = d.opening; deep = d.deep })),
    )
  where
    not_more : t.kind ≡ Opening → (most_open < open_behind depth t.kind → ⊥) → open_behind depth t.kind ≤ most_open
    not_more e few = omega (arith, few)

shallow_from : (depth : ℕ) (ts : List Token) (index : ℕ) → Fits depth ts → IsTooDeepFrom depth ts index → ⊥
shallow_from depth [] index fits d = let e = d.there in absurd cc
shallow_from depth (t ∷ ts) zero fits d = let deep = d.deep in omega (arith, fits.0, deep)
shallow_from depth (t ∷ ts) (suc index) fits d =
    shallow_from (open_behind depth t.kind) ts index fits.1 (record { token = d.token; there = d.there; opening = d.opening; deep = d.deep })

-- tokens none of which is too deep fit, and the other way round
pub fits_if_shallow : (ts : List Token) → ((index : ℕ) → IsTooDeep ts index → ⊥) → Fits 0 ts
fits_if_shallow ts shallow = fits_from 0 ts (omega arith) (λ index d. shallow index (too_deep index d))
  where
    too_deep : (index : ℕ) → IsTooDeepFrom 0 ts index → IsTooDeep ts index
    too_deep index d =
        let e : suc index ≡ index + 1 = omega arith in
        record {
          token = d.token;
          there = d.there;
          opening = d.opening;
          deep = subst (λ n. most_open < fold (λ m t. open_behind m t.kind) 0 (take n ts)) e d.deep;
        }

pub shallow_if_fits : (ts : List Token) → Fits 0 ts → (index : ℕ) → IsTooDeep ts index → ⊥
shallow_if_fits ts fits index d =
    let e : index + 1 ≡ suc index = omega arith in
    shallow_from 0 ts index fits (record {
      token = d.token;
      there = d.there;
      opening = d.opening;
      deep = subst (λ n. most_open < fold (λ m t. open_behind m t.kind) 0 (take n ts)) e d.deep;
    })

-- how many parentheses are open at most in what is written below a head, by how many are within the list: none where the list
-- is empty, since nothing is written of it
abbrev pub below : Patterns → ℕ → ℕ
below no_pattern inside = 0
below (node_first h kids behind) inside = suc inside
below (tree_var_first v behind) inside = suc inside
below (forest_var_first v behind) inside = suc inside

-- how many are open at most in what is written of patterns, one behind the other
abbrev pub height : Patterns → ℕ
height no_pattern = 0
height (node_first h kids behind) = max (below kids (height kids)) (height behind)
height (tree_var_first v behind) = height behind
height (forest_var_first v behind) = height behind

-- how many are in a member of a condition of this tightness, by how many are within it: one more where it is written in
-- parentheses
abbrev pub member_height : ℕ → Condition → ℕ → ℕ
member_height outer member inside = if nat_le (tightness member) outer then suc inside else inside

-- how many are in a condition
abbrev mutual
  pub condition_height : Condition → ℕ
  condition_height (compared word a b) = max (height a) (height b)
  condition_height (negated c) = member_height 3 c (condition_height c)
  condition_height (combined word cs) = condition_heights (joining_tightness word) cs

  -- how many are in the members of a condition of this tightness
  pub condition_heights : ℕ → Conditions → ℕ
  condition_heights outer no_condition = 0
  condition_heights outer (condition_first c cs) = max (member_height outer c (condition_height c)) (condition_heights outer cs)

abbrev pub height_if_given : Option Condition → ℕ
height_if_given None = 0
height_if_given (Some c) = condition_height c

-- how many are in a rule
abbrev pub rule_height : UnmarkedRule → ℕ
rule_height r = max (max (height r.left) (height r.right)) (height_if_given r.condition)

-- there are at most those within and the two around it
pub below_least : (ps : Patterns) (inside : ℕ) → below ps inside ≤ suc inside
below_least no_pattern inside = omega arith
below_least (node_first h kids behind) inside = omega arith
below_least (tree_var_first v behind) inside = omega arith
below_least (forest_var_first v behind) inside = omega arith

-- patterns behind patterns
pub height-joined : (ps qs : Patterns) → height (joined ps qs) ≡ max (height ps) (height qs)
height-joined no_pattern qs = omega arith
height-joined (node_first h kids ps) qs = omega (arith, height-joined ps qs)
height-joined (tree_var_first v ps) qs = height-joined ps qs
height-joined (forest_var_first v ps) qs = height-joined ps qs

-- the looser the condition around it, the fewer members stand in parentheses
pub looser : (c : Condition) (inside : ℕ)
    → (inside ≤ member_height 1 c inside) × (member_height 1 c inside ≤ member_height 2 c inside) × (member_height 2 c inside ≤ member_height 3 c inside) × (member_height 3 c inside ≤ suc inside)
looser (compared word a b) inside = (omega arith, omega arith, omega arith, omega arith)
looser (negated c) inside = (omega arith, omega arith, omega arith, omega arith)
looser (combined all cs) inside = (omega arith, omega arith, omega arith, omega arith)
looser (combined any cs) inside = (omega arith, omega arith, omega arith, omega arith)
