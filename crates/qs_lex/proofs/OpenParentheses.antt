-- How many parentheses are open, one token more.
use Rattle.std.proofs.Common.{◌≡◌, ◌⊎◌, ℕ, zero, suc, ◌+◌, ◌<◌, ◌≤◌, Option, Some, None, List, length, get_or, take, slice_get, refl, sym, ap, subst, inl, inr, ⊎_elim, ◌∙◌, arith}
use Rattle.std.proofs.lemmas.Bool.{cases_lt}
use Rattle.std.proofs.lemmas.List.Sums.{fold_more}
use Rattle.std.proofs.lemmas.Option.{slice_get-get_or, slice_get_within}
use Rattle.qs_lex.specs.Limits.{most_open}
use Rattle.qs_lex.specs.Nesting.{open_behind, open_count, IsTooDeep}
use Rattle.qs_lex.specs.declared.token.Token.{Token}
use Rattle.qs_lex.specs.declared.token.Kind.{Kind}
use Rattle.qs_lex.specs.declared.token.Kind.TheVariants.{Bare, Quoted, Variable, Node, Word, Opening, Closing, Comma, Plus, Slash, Equals, Stop}

-- other tokens change nothing
pub open_behind_other : (n : ℕ) (k : Kind) → (k ≡ Opening → ⊥) → (k ≡ Closing → ⊥) → open_behind n k ≡ n
open_behind_other n Opening a b = absurd (a refl)
open_behind_other n Closing a b = absurd (b refl)
open_behind_other n Bare a b = refl
open_behind_other n Quoted a b = refl
open_behind_other n (Variable l m) a b = refl
open_behind_other n (Node m) a b = refl
open_behind_other n (Word w) a b = refl
open_behind_other n Comma a b = refl
open_behind_other n Plus a b = refl
open_behind_other n Slash a b = refl
open_behind_other n Equals a b = refl
open_behind_other n Stop a b = refl

pub open_count_more : (ts : List Token) (i n : ℕ) (d : Token) → i < length ts → n ≡ open_count (take i ts) → open_count (take (i + 1) ts) ≡ open_behind n (get_or ts i d).kind
open_count_more ts i n d within e = fold_more (λ m t. open_behind m t.kind) 0 ts i d within ∙ ap (λ m. open_behind m (get_or ts i d).kind) (sym e)

pub too_deep_at : (ts : List Token) (i n : ℕ) (d : Token) → i < length ts → n ≡ open_count (take i ts) → (get_or ts i d).kind ≡ Opening → most_open < n + 1 → IsTooDeep ts i
too_deep_at ts i n d within e opens deep =
    let count : open_count (take (i + 1) ts) ≡ n + 1 = open_count_more ts i n d within e ∙ ap (open_behind n) opens in
    record { token = get_or ts i d; there = slice_get-get_or ts i d within; opening = opens; deep = omega arith }

-- a place where few are open isn't too deep, and one past the end isn't
pub shallow : (ts : List Token) (i m : ℕ) → open_count (take (i + 1) ts) ≡ m → m ≤ most_open → IsTooDeep ts i → ⊥
shallow ts i m e few t = let deep = t.deep in omega arith

pub past_end : (ts : List Token) (i : ℕ) → length ts ≤ i → IsTooDeep ts i → ⊥
past_end ts i past t = let within = slice_get_within ts i t.token t.there in omega arith

-- whether a token is too deep, and which is the first
is_opening : (k : Kind) → Dec (k ≡ Opening)
is_opening Opening = yes refl
is_opening Closing = no (λ e. absurd cc)
is_opening Bare = no (λ e. absurd cc)
is_opening Quoted = no (λ e. absurd cc)
is_opening (Variable l m) = no (λ e. absurd cc)
is_opening (Node m) = no (λ e. absurd cc)
is_opening (Word w) = no (λ e. absurd cc)
is_opening Comma = no (λ e. absurd cc)
is_opening Plus = no (λ e. absurd cc)
is_opening Slash = no (λ e. absurd cc)
is_opening Equals = no (λ e. absurd cc)
is_opening Stop = no (λ e. absurd cc)

is_too_deep : (ts : List Token) (i : ℕ) → Dec (IsTooDeep ts i)
is_too_deep ts i = by (slice_get ts i) refl
  where
    same : {t u : Token} → slice_get ts i ≡ Some t → slice_get ts i ≡ Some u → t ≡ u
    same e f = cc

    opened : (t : Token) → slice_get ts i ≡ Some t → Dec (t.kind ≡ Opening) → (most_open < open_count (take (i + 1) ts)) ⊎ (open_count (take (i + 1) ts) ≤ most_open) → Dec (IsTooDeep ts i)
    opened t e (no n) deep = no (λ d. n (ap (λ (u : Token). u.kind) (same e d.there) ∙ d.opening))
    opened t e (yes o) (inl deep) = yes (record { token = t; there = e; opening = o; deep = deep })
    opened t e (yes o) (inr few) = no (shallow ts i (open_count (take (i + 1) ts)) refl few)

    by : (o : Option Token) → slice_get ts i ≡ o → Dec (IsTooDeep ts i)
    by None e = no (λ d. absurd (let other : None ≡ Some d.token = sym e ∙ d.there in cc))
    by (Some t) e = opened t e (is_opening t.kind) (cases_lt most_open (open_count (take (i + 1) ts)))

-- none is too deep, or there is a first one
abbrev FirstDeepBelow : List Token → ℕ → Type 0
FirstDeepBelow ts n = ((i : ℕ) → i < n → IsTooDeep ts i → ⊥) ⊎ ((i : ℕ) × IsTooDeep ts i × ((earlier : ℕ) → earlier < i → IsTooDeep ts earlier → ⊥))

first_below : (ts : List Token) (n : ℕ) → FirstDeepBelow ts n
first_below ts zero = inl (λ i l d. absurd (omega (arith, l)))
first_below ts (suc n) = ⊎_elim (λ none. by none (is_too_deep ts n)) (λ f. inr f) (first_below ts n)
  where
    by : ((i : ℕ) → i < n → IsTooDeep ts i → ⊥) → Dec (IsTooDeep ts n) → FirstDeepBelow ts (suc n)
    by none (yes d) = inr (n, d, none)
    by none (no here) = inl (λ i l d. ⊎_elim (λ less. none i less d) (λ more. here (let e : i ≡ n = omega (arith, l, more) in subst (IsTooDeep ts) e d)) (cases_lt i n))

pub first_too_deep : (ts : List Token) → ((i : ℕ) → IsTooDeep ts i → ⊥) ⊎ ((i : ℕ) × IsTooDeep ts i × ((earlier : ℕ) → earlier < i → IsTooDeep ts earlier → ⊥))
first_too_deep ts =
    ⊎_elim
    (λ none. inl (λ i d. ⊎_elim (λ inside. none i inside d) (λ past. past_end ts i past d) (cases_lt i (length ts))))
    (λ f. inr f)
    (first_below ts (length ts))
