-- A quoted label, read from the left.
use Rattle.std.proofs.Common.{◌≡◌, ℕ, suc, ◌+◌, Bool, true, false, not, cond, List, [], ◌∷◌, ◌++◌, length, drop, Option, Some, None, refl, sym, ap, ◌∙◌, ⊎_elim, subst, arith, eqb}
use Rattle.std.specs.Prelude.{option_map}
use Rattle.std.proofs.lemmas.Bool.{cond-false, eqb-true, eqb-false, not-true}
use Rattle.qs_tree.specs.Text.{doubled, between_quotes}
use Rattle.qs_lex.specs.Characters.{ends_line, BeginsWithNo, Each}
use Rattle.std.proofs.lemmas.List.{append_cancel_right}
use Rattle.qs_lex.specs.Spelling.{IsLabelText}
use Rattle.qs_lex.specs.declared.token.Kind.{Kind}
use Rattle.qs_lex.specs.declared.token.Kind.TheVariants.{Bare, Quoted, Variable, Node, Word as a_word, Opening, Closing, Comma, Plus, Slash, Equals, Stop}
use Rattle.qs_lex.specs.working.Scan.{quote_len, behind_quote}
use Rattle.qs_lex.proofs.Choices.{choice}

-- how many bytes are left, behind a quote that may close or not
abbrev pub quote_from : Bool → List ℕ → Option ℕ
quote_from true bytes = behind_quote bytes
quote_from false bytes = quote_len bytes

-- so many bytes more
abbrev pub further : ℕ → Option ℕ → Option ℕ
further n None = None
further n (Some k) = Some (n + k)

pub further-zero : (o : Option ℕ) → o ≡ further 0 o
further-zero None = refl
further-zero (Some k) = ap Some (omega arith)

pub further-suc : (n : ℕ) (o : Option ℕ) → further n (option_map suc o) ≡ further (n + 1) o
further-suc n None = refl
further-suc n (Some k) = ap Some (omega arith)

pub ruleset further_laws = (further-zero, further-suc)

-- a doubled text and a quote that closes are read to their end
read_step : (b : ℕ) (d rest : List ℕ) (q : Bool) → eqb b 34 ≡ q → ends_line b ≡ false → quote_len (d ++ 34 ∷ rest) ≡ Some (length d + 1)
    → quote_len (((cond q (34 ∷ 34 ∷ []) (b ∷ [])) ++ d) ++ 34 ∷ rest) ≡ Some (length ((cond q (34 ∷ 34 ∷ []) (b ∷ [])) ++ d) + 1)
read_step b d rest true e line ih = ap (λ o. option_map suc (option_map suc o)) ih ∙ ap Some (omega arith)
read_step b d rest false e line ih =
    ap (option_map suc) (cond-false (eqb b 34) (behind_quote (d ++ 34 ∷ rest)) (cond (ends_line b) None (quote_len (d ++ 34 ∷ rest))) e ∙ cond-false (ends_line b) None (quote_len (d ++ 34 ∷ rest)) line ∙ ih) ∙ ap Some (omega arith)

closing : (rest : List ℕ) → BeginsWithNo (λ b. eqb b 34) rest → quote_len (34 ∷ rest) ≡ Some 1
closing [] ends = refl
closing (b ∷ bs) ends = ap (option_map suc) (cond-false (eqb b 34) (option_map suc (quote_len bs)) (Some 0) ends)

pub quote_read : (text rest : List ℕ) → Each (λ b. not (ends_line b)) text → BeginsWithNo (λ b. eqb b 34) rest → quote_len (doubled text ++ 34 ∷ rest) ≡ Some (length (doubled text) + 1)
quote_read [] rest line ends = closing rest ends
quote_read (b ∷ text) rest line ends = read_step b (doubled text) rest (eqb b 34) refl (not-true (ends_line b) line.0) (quote_read text rest line.1 ends)

-- the bytes are a doubled text, a quote that closes, and n bytes on the rest
pub record IsQuotedBy (bytes rest : List ℕ) : Type 0 where
  pub text : List ℕ
  pub line : Each (λ b. not (ends_line b)) text
  pub spelled : bytes ≡ doubled text ++ 34 ∷ rest
  pub ends : BeginsWithNo (λ b. eqb b 34) rest

mapped : (o : Option ℕ) (n : ℕ) → option_map suc o ≡ Some n → (k : ℕ) × (o ≡ Some k) × (n ≡ suc k)
mapped None n e = cc
mapped (Some k) n e = (k, refl, (let f : n ≡ suc k = cc in f))

-- one more character that is no quote
plain_more : (b : ℕ) (bytes rest : List ℕ) → eqb b 34 ≡ false → ends_line b ≡ false → IsQuotedBy bytes rest → IsQuotedBy (b ∷ bytes) rest
plain_more b bytes rest plain line q = record {
  text = b ∷ q.text;
  line = (ap not line, q.line);
  spelled = ap (λ xs. b ∷ xs) q.spelled ∙ ap (λ xs. (xs ++ doubled q.text) ++ 34 ∷ rest) (sym (cond-false (eqb b 34) (34 ∷ 34 ∷ []) (b ∷ []) plain));
  ends = q.ends;
}

-- two quotes more
pair_more : (bytes rest : List ℕ) → IsQuotedBy bytes rest → IsQuotedBy (34 ∷ 34 ∷ bytes) rest
pair_more bytes rest q = record {
  text = 34 ∷ q.text;
  line = (refl, q.line);
  spelled = ap (λ xs. 34 ∷ 34 ∷ xs) q.spelled;
  ends = q.ends;
}

abbrev BothRead : List ℕ → Type 0
BothRead bytes = ((n : ℕ) → quote_len bytes ≡ Some n → IsQuotedBy bytes (drop n bytes)) × ((n : ℕ) → behind_quote bytes ≡ Some n → IsQuotedBy (34 ∷ bytes) (drop n bytes))

-- behind a quote: another one, or the end
behind_read : (b : ℕ) (bs : List ℕ) (n : ℕ) → BothRead bs → behind_quote (b ∷ bs) ≡ Some n → IsQuotedBy (34 ∷ b ∷ bs) (drop n (b ∷ bs))
behind_read b bs n ih e =
    ⊎_elim
    (λ c.
    let m = mapped (quote_len bs) n c.1 in
    let is : b ≡ 34 = eqb-true b 34 c.0 in
    rw (m.2, is) (pair_more bs (drop m.0 bs) (ih.0 m.0 m.1)))
    (λ c.
    let z : n ≡ 0 = (let f : Some 0 ≡ Some n = c.1 in cc) in
    rw z (record { text = []; line = tt; spelled = refl; ends = c.0 }))
    (choice (eqb b 34) (option_map suc (quote_len bs)) (Some 0) (Some n) e)

-- a quote, or another character of the label
front_at : (b : ℕ) (bs : List ℕ) (k : ℕ) → BothRead bs → cond (eqb b 34) (behind_quote bs) (cond (ends_line b) None (quote_len bs)) ≡ Some k → IsQuotedBy (b ∷ bs) (drop k bs)
front_at b bs k ih e =
    ⊎_elim
    (λ c. let is : b ≡ 34 = eqb-true b 34 c.0 in rw is (ih.1 k c.1))
    (λ c.
    ⊎_elim
    (λ d. let no : None ≡ Some k = d.1 in cc)
    (λ d. plain_more b bs (drop k bs) c.0 d.0 (ih.0 k d.1))
    (choice (ends_line b) None (quote_len bs) (Some k) c.1))
    (choice (eqb b 34) (behind_quote bs) (cond (ends_line b) None (quote_len bs)) (Some k) e)

front_read : (b : ℕ) (bs : List ℕ) (n : ℕ) → BothRead bs → quote_len (b ∷ bs) ≡ Some n → IsQuotedBy (b ∷ bs) (drop n (b ∷ bs))
front_read b bs n ih e =
    let m = mapped (cond (eqb b 34) (behind_quote bs) (cond (ends_line b) None (quote_len bs))) n e in
    let P : ℕ → Type 0 = λ n. IsQuotedBy (b ∷ bs) (drop n (b ∷ bs)) in
    subst P (sym m.2) (front_at b bs m.0 ih m.1)

both_read : (bytes : List ℕ) → BothRead bytes
both_read [] = ((λ n e. let no : None ≡ Some n = e in cc), (λ n e. let z : n ≡ 0 = (let f : Some 0 ≡ Some n = e in cc) in rw z (record { text = []; line = tt; spelled = refl; ends = tt })))
both_read (b ∷ bs) = (λ n e. front_read b bs n (both_read bs) e, λ n e. behind_read b bs n (both_read bs) e)

pub quote_is : (bytes : List ℕ) (n : ℕ) → quote_len bytes ≡ Some n → IsQuotedBy bytes (drop n bytes)
quote_is bytes n e = (both_read bytes).0 n e

-- the first character of a text goes by the front of its doubling
pub undouble_step : (x y : ℕ) (a b d e : List ℕ) (q r : Bool) → eqb x 34 ≡ q → eqb y 34 ≡ r → (d ≡ e → a ≡ b)
    → (cond q (34 ∷ 34 ∷ []) (x ∷ [])) ++ d ≡ (cond r (34 ∷ 34 ∷ []) (y ∷ [])) ++ e → x ∷ a ≡ y ∷ b
undouble_step x y a b d e true true q r rest same =
    let tails : d ≡ e = (let f : 34 ∷ 34 ∷ d ≡ 34 ∷ 34 ∷ e = same in cc) in
    λ i. (eqb-true x 34 q ∙ sym (eqb-true y 34 r)) i ∷ rest tails i
undouble_step x y a b d e true false q r rest same = absurd (let f : 34 ∷ 34 ∷ d ≡ y ∷ e = same in let g : y ≡ 34 = cc in eqb-false y 34 r g)
undouble_step x y a b d e false true q r rest same = absurd (let f : x ∷ d ≡ 34 ∷ 34 ∷ e = same in let g : x ≡ 34 = cc in eqb-false x 34 q g)
undouble_step x y a b d e false false q r rest same =
    let f : x ∷ d ≡ y ∷ e = same in
    let head : x ≡ y = cc in
    let tails : d ≡ e = cc in
    λ i. head i ∷ rest tails i

never_empty : (x : ℕ) (d : List ℕ) (q : Bool) → (cond q (34 ∷ 34 ∷ []) (x ∷ [])) ++ d ≡ [] → ⊥
never_empty x d true e = (let f : 34 ∷ 34 ∷ d ≡ [] = e in cc)
never_empty x d false e = (let f : x ∷ d ≡ [] = e in cc)

-- a doubled text is that of one text
one_doubled : (a b : List ℕ) → doubled a ≡ doubled b → a ≡ b
one_doubled [] [] e = refl
one_doubled [] (y ∷ b) e = absurd (never_empty y (doubled b) (eqb y 34) (sym e))
one_doubled (x ∷ a) [] e = absurd (never_empty x (doubled a) (eqb x 34) e)
one_doubled (x ∷ a) (y ∷ b) e = undouble_step x y a b (doubled a) (doubled b) (eqb x 34) (eqb y 34) refl refl (one_doubled a b) e

pub one_text : (a b : List ℕ) → between_quotes a ≡ between_quotes b → a ≡ b
one_text a b e =
    let tail : doubled a ++ 34 ∷ [] ≡ doubled b ++ 34 ∷ [] = cc in
    one_doubled a b (append_cancel_right (doubled a) (doubled b) (34 ∷ []) tail)

-- a label has one text
pub one_label_text : (k : Kind) (bytes a b : List ℕ) → IsLabelText k bytes a → IsLabelText k bytes b → a ≡ b
one_label_text Bare bytes a b l m = l ∙ sym m
one_label_text Quoted bytes a b l m = one_text a b (sym l ∙ m)
one_label_text (Variable letter n) bytes a b l m = absurd l
one_label_text (Node n) bytes a b l m = absurd l
one_label_text (a_word w) bytes a b l m = absurd l
one_label_text Opening bytes a b l m = absurd l
one_label_text Closing bytes a b l m = absurd l
one_label_text Comma bytes a b l m = absurd l
one_label_text Plus bytes a b l m = absurd l
one_label_text Slash bytes a b l m = absurd l
one_label_text Equals bytes a b l m = absurd l
one_label_text Stop bytes a b l m = absurd l
