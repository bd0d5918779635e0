-- Where a token stands at what is written as a quoted label, it is this label, and so the label has no end of a line.
use Rattle.std.proofs.Common.{◌≡◌, ℕ, Bool, true, false, not, cond, eqb, List, [], ◌∷◌, ◌++◌, drop, get_or, refl, sym, ap, ◌∙◌, subst, arith, append_assoc}
use Rattle.std.proofs.lemmas.Bool.{eqb-false}
use Rattle.qs_lex.proofs.Quotes.{undouble_step}
use Rattle.qs_tree.specs.Text.{is_label_byte, doubled, between_quotes}
use Rattle.qs_lex.specs.Characters.{is_variable_letter, ends_line, BeginsWithNo, Each}
use Rattle.qs_lex.specs.Spelling.{Spells, EndsBefore}
use Rattle.qs_lex.specs.declared.token.Kind.{Kind}
use Rattle.qs_lex.specs.declared.token.Kind.TheVariants.{Bare, Quoted, Variable, Node, Word as a_word, Opening, Closing, Comma, Plus, Slash, Equals, Stop}

-- no quote begins it
abbrev pub NoQuote : List ℕ → Type 0
NoQuote bytes = BeginsWithNo (λ b. eqb b 34) bytes

-- a quote that no quote follows doubles none
closed : (x : ℕ) (d rest : List ℕ) (q : Bool) → eqb x 34 ≡ q → NoQuote rest → (cond q (34 ∷ 34 ∷ []) (x ∷ [])) ++ d ≡ 34 ∷ rest → ⊥
closed x d rest true e none same =
    let tail : 34 ∷ d ≡ rest = ap (drop 1) same in
    let no : true ≡ false = subst NoQuote (sym tail) none in
    cc
closed x d rest false e none same = eqb-false x 34 e (ap (λ bs. get_or bs 0 0) same)

-- what is doubled ends at the first quote that is alone
one_doubled : (a b r s : List ℕ) → NoQuote r → NoQuote s → doubled a ++ (34 ∷ r) ≡ doubled b ++ (34 ∷ s) → a ≡ b
one_doubled [] [] r s none also same = refl
one_doubled [] (y ∷ b) r s none also same =
    absurd (closed y (doubled b ++ (34 ∷ s)) r (eqb y 34) refl none (sym (append_assoc (cond (eqb y 34) (34 ∷ 34 ∷ []) (y ∷ [])) (doubled b) (34 ∷ s)) ∙ sym same))
one_doubled (x ∷ a) [] r s none also same =
    absurd (closed x (doubled a ++ (34 ∷ r)) s (eqb x 34) refl also (sym (append_assoc (cond (eqb x 34) (34 ∷ 34 ∷ []) (x ∷ [])) (doubled a) (34 ∷ r)) ∙ same))
one_doubled (x ∷ a) (y ∷ b) r s none also same =
    undouble_step x y a b (doubled a ++ (34 ∷ r)) (doubled b ++ (34 ∷ s)) (eqb x 34) (eqb y 34) refl refl (one_doubled a b r s none also)
    (sym (append_assoc (cond (eqb x 34) (34 ∷ 34 ∷ []) (x ∷ [])) (doubled a) (34 ∷ r)) ∙ same ∙ append_assoc (cond (eqb y 34) (34 ∷ 34 ∷ []) (y ∷ [])) (doubled b) (34 ∷ s))

-- the first byte of what stands there
first_byte : (bytes rest tail : List ℕ) (b : ℕ) (own : List ℕ) → bytes ≡ b ∷ own → bytes ++ rest ≡ 34 ∷ tail → b ≡ 34
first_byte bytes rest tail b own is whole = ap (λ (bs : List ℕ). get_or (bs ++ rest) 0 0) (sym is) ∙ ap (λ bs. get_or bs 0 0) whole

module _ (name left : List ℕ) (none : NoQuote left) where
  pub quoted_line : (kind : Kind) (bytes rest : List ℕ) → Spells kind bytes → EndsBefore kind rest → bytes ++ rest ≡ between_quotes name ++ left → Each (λ b. not (ends_line b)) name
  quoted_line Bare [] rest s ends whole = absurd (omega (arith, s.0))
  quoted_line Bare (b ∷ bs) rest s ends whole =
      let first : b ≡ 34 = ap (λ xs. get_or xs 0 0) whole in
      absurd (let no : false ≡ true = ap is_label_byte (sym first) ∙ s.1.0 in cc)
  quoted_line Quoted bytes rest s ends whole =
      let same : doubled s.0 ++ (34 ∷ rest) ≡ doubled name ++ (34 ∷ left) =
      sym (append_assoc (doubled s.0) (34 ∷ []) rest) ∙ ap (λ (bs : List ℕ). drop 1 (bs ++ rest)) (sym s.2) ∙ ap (drop 1) whole ∙ append_assoc (doubled name) (34 ∷ []) left
      in
      subst (λ (t : List ℕ). Each (λ b. not (ends_line b)) t) (one_doubled s.0 name rest left ends none same) s.1
  quoted_line (Variable letter number) bytes rest s ends whole =
      absurd (let no : false ≡ true = ap is_variable_letter (sym (first_byte bytes rest _ letter _ s.2 whole)) ∙ s.0 in cc)
  quoted_line (Node number) bytes rest s ends whole = absurd (omega (arith, first_byte bytes rest _ 45 _ s.2 whole))
  quoted_line (a_word w) bytes rest s ends whole = absurd (omega (arith, first_byte bytes rest _ 45 _ s whole))
  quoted_line Opening bytes rest s ends whole = absurd (omega (arith, first_byte bytes rest _ 40 _ s whole))
  quoted_line Closing bytes rest s ends whole = absurd (omega (arith, first_byte bytes rest _ 41 _ s whole))
  quoted_line Comma bytes rest s ends whole = absurd (omega (arith, first_byte bytes rest _ 44 _ s whole))
  quoted_line Plus bytes rest s ends whole = absurd (omega (arith, first_byte bytes rest _ 43 _ s whole))
  quoted_line Slash bytes rest s ends whole = absurd (omega (arith, first_byte bytes rest _ 47 _ s whole))
  quoted_line Equals bytes rest s ends whole = absurd (omega (arith, first_byte bytes rest _ 61 _ s whole))
  quoted_line Stop bytes rest s ends whole = absurd (omega (arith, first_byte bytes rest _ 46 _ s whole))
