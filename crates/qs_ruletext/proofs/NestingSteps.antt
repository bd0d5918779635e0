-- What tokens show of the depth of their parentheses, and how deep they are, step by step: by no token, by one, by one behind
-- the other, and by what is in parentheses.
use Rattle.std.proofs.Common.{◌≡◌, ℕ, suc, ◌+◌, ◌-◌, ◌≤◌, Bool, true, false, refl, sym, ap, ◌∙◌, subst, List, ◌∷◌, arith}
use Rattle.std.specs.Prelude.{max, if◌then◌else◌}
use Rattle.std.specs.Int.{is_in_range}
use Rattle.qs_lex.specs.Limits.{most_open}
use Rattle.qs_lex.specs.declared.token.Token.{Token}
use Rattle.qs_lex.specs.declared.token.Kind.{Kind}
use Rattle.qs_lex.specs.declared.token.Kind.TheVariants.{Bare, Quoted, Variable, Node, Word as a_word, Opening, Closing, Comma, Plus, Slash, Equals, Stop}
use Rattle.qs_lex.specs.Grammar.{Sort, a_label_variable, a_tree_variable, a_forest_variable, opening, closing, variable_sort, sort_of, IsOf}
use Rattle.qs_lex.specs.Nesting.{open_behind}
use Rattle.qs_pattern.specs.declared.pattern.Head.{Head}
use Rattle.qs_pattern.specs.declared.pattern.Head.TheVariants as head
use Rattle.qs_ruletext.specs.Reading.{IsHeadOf}
use Rattle.qs_reader.proofs.Tokens.{label_sort}
use Rattle.qs_ruletext.proofs.Nesting.{Fits}

-- how many are open behind a token of this sort
abbrev pub behind_sort : ℕ → Sort → ℕ
behind_sort n opening = n + 1
behind_sort n closing = n - 1
behind_sort n _ = n

behind_variable : (n letter : ℕ) → behind_sort n (variable_sort letter) ≡ n
behind_variable n letter = by_class (is_in_range 65 70 letter) (is_in_range 73 78 letter)
  where
    by_class : (first second : Bool) → behind_sort n (if first then a_label_variable else (if second then a_tree_variable else a_forest_variable)) ≡ n
    by_class true second = refl
    by_class false true = refl
    by_class false false = refl

-- the sort of a token tells how many are open behind it
by_sort : (n : ℕ) (kind : Kind) → open_behind n kind ≡ behind_sort n (sort_of kind)
by_sort n Bare = refl
by_sort n Quoted = refl
by_sort n (Variable letter number) = sym (behind_variable n letter)
by_sort n (Node number) = refl
by_sort n (a_word word) = refl
by_sort n Opening = refl
by_sort n Closing = refl
by_sort n Comma = refl
by_sort n Plus = refl
by_sort n Slash = refl
by_sort n Equals = refl
by_sort n Stop = refl

-- as many are open behind the token as before it
abbrev pub Keeps : Token → Type 0
Keeps t = (n : ℕ) → open_behind n t.kind ≡ n

pub keeps : (s : Sort) (t : Token) → ((n : ℕ) → behind_sort n s ≡ n) → IsOf s t → Keeps t
keeps s t same is n = by_sort n t.kind ∙ ap (behind_sort n) is ∙ same n

-- a parenthesis, by its sort
opens_one_more : (t : Token) → IsOf opening t → (n : ℕ) → open_behind n t.kind ≡ n + 1
opens_one_more t is n = by_sort n t.kind ∙ ap (behind_sort n) is

closes_one : (t : Token) → IsOf closing t → (n : ℕ) → open_behind (n + 1) t.kind ≡ n
closes_one t is n = let e : open_behind (n + 1) t.kind ≡ (n + 1) - 1 = by_sort (n + 1) t.kind ∙ ap (behind_sort (n + 1)) is in omega (arith, e)

-- as many are open behind a head as before it
pub head_keeps : (names : List (List ℕ)) (text : List ℕ) (t : Token) (h : Head) → IsHeadOf names text t h → Keeps t
head_keeps names text t (head.Label l) is = keeps _ t (λ n. refl) (label_sort text t is.spelling is.of_token)
head_keeps names text t (head.Var v) is = keeps a_label_variable t (λ n. refl) is.of_sort

-- Where the tokens fit, they show that so many more could be open, and those behind them fit.
pub record Shows (height : ℕ) (ts rest : List Token) : Type 0 where
  pub fits : (depth : ℕ) → depth ≤ most_open → Fits depth ts → (height + depth ≤ most_open) × Fits depth rest

-- Where so many more may be open and the tokens behind them fit, the tokens do.
pub record Opens (height : ℕ) (ts rest : List Token) : Type 0 where
  pub fits : (depth : ℕ) → height + depth ≤ most_open → Fits depth rest → Fits depth ts

-- what tokens show
pub shows_less : {a b : ℕ} {ts rest : List Token} → Shows b ts rest → a ≤ b → Shows a ts rest
shows_less s less = record { fits = λ depth few f. let x = s.fits depth few f in (omega (arith, less, x.0), x.1) }

pub shows_none : (ts : List Token) → Shows 0 ts ts
shows_none ts = record { fits = λ depth few f. (omega (arith, few), f) }

pub shows_one : (t : Token) (rest : List Token) → Keeps t → Shows 0 (t ∷ rest) rest
shows_one t rest same = record { fits = λ depth few f. (omega (arith, few), subst (λ n. Fits n rest) (same depth) f.1) }

pub shows_both : {a b : ℕ} {ts middle rest : List Token} → Shows a ts middle → Shows b middle rest → Shows (max a b) ts rest
shows_both s r = record {
  fits = λ depth few f.
      let x = s.fits depth few f in
      let y = r.fits depth few x.1 in
      (omega (arith, x.0, y.0), y.1);
}

pub shows_behind : {a : ℕ} {ts rest : List Token} (t : Token) → Keeps t → Shows a ts rest → Shows a (t ∷ ts) rest
shows_behind {a} {ts} t same s = shows_less (shows_both (shows_one t ts same) s) (omega arith)

pub shows_group : {a : ℕ} {ts rest : List Token} (t u : Token) → IsOf opening t → Shows a ts (u ∷ rest) → IsOf closing u → Shows (suc a) (t ∷ ts) rest
shows_group {a} {ts} {rest} t u opens s closes = record {
  fits = λ depth few f.
      let e : open_behind depth t.kind ≡ depth + 1 = opens_one_more t opens depth in
      let x = s.fits (depth + 1) (omega (arith, e, f.0)) (subst (λ n. Fits n ts) e f.1) in
      (omega (arith, x.0), subst (λ n. Fits n rest) (closes_one u closes depth) x.1.1);
}

-- how deep they are
pub opens_less : {a b : ℕ} {ts rest : List Token} → Opens a ts rest → a ≤ b → Opens b ts rest
opens_less o less = record { fits = λ depth few f. o.fits depth (omega (arith, less, few)) f }

pub opens_none : (a : ℕ) {ts rest : List Token} → ts ≡ rest → Opens a ts rest
opens_none a {ts} {rest} e = record { fits = λ depth few f. subst (Fits depth) (sym e) f }

pub opens_both : {a : ℕ} {ts middle rest : List Token} → Opens a ts middle → Opens a middle rest → Opens a ts rest
opens_both o p = record { fits = λ depth few f. o.fits depth few (p.fits depth few f) }

pub opens_one : (a : ℕ) (t : Token) (rest : List Token) → Keeps t → Opens a (t ∷ rest) rest
opens_one a t rest same = record {
  fits = λ depth few f. (omega (arith, same depth, few), subst (λ n. Fits n rest) (sym (same depth)) f);
}

pub opens_group : {a : ℕ} {ts rest : List Token} (t u : Token) → IsOf opening t → Opens a ts (u ∷ rest) → IsOf closing u → Opens (suc a) (t ∷ ts) rest
opens_group {a} {ts} {rest} t u opens o closes = record {
  fits = λ depth few f.
      let e : open_behind depth t.kind ≡ depth + 1 = opens_one_more t opens depth in
      let c : open_behind (depth + 1) u.kind ≡ depth = closes_one u closes depth in
      let inside : Fits (depth + 1) ts = o.fits (depth + 1) (omega (arith, few)) (omega (arith, few, c), subst (λ n. Fits n rest) (sym c) f) in
      (omega (arith, e, few), subst (λ n. Fits n ts) (sym e) inside);
}
