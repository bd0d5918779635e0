-- How the names grow, token by token, and that they grow in one way.
use Rattle.std.proofs.Common.{◌≡◌, ℕ, zero, suc, ◌⊎◌, inl, inr, ⊎_elim, true, false, refl, sym, ◌∙◌, ap, subst, List, [], ◌∷◌, ◌++◌, length, arith, Some, slice_get, Contains, Result, Ok, Err, append_assoc, length-append}
use Rattle.std.specs.Prelude.{IfOk, OnOk}
use Rattle.qs_lex.specs.declared.token.Token.{Token}
use Rattle.qs_lex.specs.declared.token.Kind.{Kind}
use Rattle.qs_lex.specs.declared.token.Kind.TheVariants.{Bare, Quoted, Variable, Node, Word as a_word, Opening, Closing, Comma, Plus, Slash, Equals, Stop}
use Rattle.qs_lex.specs.Spelling.{IsLabelText}
use Rattle.qs_lex.specs.Tokens.{bytes_of, IsLabel, HasLabelText}
use Rattle.qs_lex.specs.Grammar.{Sort, a_label, sort_of, IsOf}
use Rattle.qs_lex.specs.Expecting.{same_sort}
use Rattle.qs_lex.proofs.Quotes.{one_label_text}
use Rattle.qs_tree.specs.declared.cell.Label.{Label}
use Rattle.qs_tree.specs.Names.{AreDistinct}
use Rattle.qs_tree.proofs.NamesLemmas.{Contains-slice_get}
use Rattle.qs_reader.specs.Names.{AddsName, AddsNameOf, NamesGrow}
use Rattle.qs_reader.specs.working.Names.{NamesGrowUpTo}

-- tokens behind tokens
pub grow_on : (text : List ℕ) (xs ys : List Token) (old middle new : List (List ℕ)) → NamesGrow text xs old middle → NamesGrow text ys middle new → NamesGrow text (xs ++ ys) old new
grow_on text [] ys old middle new g h = subst (λ n. NamesGrow text ys n new) g h
grow_on text (t ∷ xs) ys old middle new g h = (g.0, g.1, grow_on text xs ys g.0 middle new g.2 h)

pub grow_apart : (text : List ℕ) (xs ys : List Token) (old new : List (List ℕ)) → NamesGrow text (xs ++ ys) old new
    → (middle : List (List ℕ)) × NamesGrow text xs old middle × NamesGrow text ys middle new
grow_apart text [] ys old new g = (old, refl, g)
grow_apart text (t ∷ xs) ys old new g = let split = grow_apart text xs ys g.0 new g.2 in (split.0, (g.0, g.1, split.1), split.2)

-- no token
pub no_names : (text : List ℕ) (ts : List Token) (names : List (List ℕ)) → NamesGrowUpTo text ts ts names names
no_names text ts names = ([], refl, refl)

-- up to a place, and then from there on
pub names_on : (text : List ℕ) (ts middle rest : List Token) (old some new : List (List ℕ))
    → NamesGrowUpTo text ts middle old some → NamesGrowUpTo text middle rest some new → NamesGrowUpTo text ts rest old new
names_on text ts middle rest old some new g h =
    (g.0 ++ h.0, g.1 ∙ ap (λ us. g.0 ++ us) h.1 ∙ sym (append_assoc g.0 h.0 rest), grow_on text g.0 h.0 old some new g.2 h.2)

-- one token
pub one_name : (text : List ℕ) (ts rest : List Token) (t : Token) (old new : List (List ℕ)) → ts ≡ t ∷ rest → AddsNameOf text t old new → NamesGrowUpTo text ts rest old new
one_name text ts rest t old new e adds = (t ∷ [], e, (new, adds, refl))

-- one that is no label
pub not_label : (s : Sort) (t : Token) → same_sort a_label s ≡ false → IsOf s t → IsLabel t → ⊥
not_label s t differs of is =
    let a : sort_of t.kind ≡ a_label = ⊎_elim (λ e. ap sort_of e) (λ e. ap sort_of e) is in
    let same : true ≡ same_sort a_label s = ap (same_sort a_label) (sym a ∙ of) in
    absurd cc

pub no_label : (s : Sort) (text : List ℕ) (ts rest : List Token) (t : Token) (names : List (List ℕ)) → same_sort a_label s ≡ false → IsOf s t → ts ≡ t ∷ rest → NamesGrowUpTo text ts rest names names
no_label s text ts rest t names differs of e = one_name text ts rest t names names e (inl (not_label s t differs of, refl))

-- what `intern` does to the names
pub adds_name : (old new : List (List ℕ)) (label : List ℕ) (k : ℕ) → slice_get new k ≡ Some label → (Contains old label → new ≡ old)
    → (new ≡ old) ⊎ (new ≡ old ++ label ∷ []) → AddsName old label new
adds_name old new label k named known (inl same) = inl (Contains-slice_get old label k (subst (λ n. slice_get n k ≡ Some label) same named), same)
adds_name old new label k named known (inr longer) =
    inr (
      λ there.
          let shorter : length (old ++ label ∷ []) ≡ length old = ap length (sym longer ∙ known there) in
          omega (arith, length-append old (label ∷ []), shorter),
      longer,
    )

pub adds_name_of : {E : Type 0} (text : List ℕ) (t : Token) (spelling : List ℕ) (old new : List (List ℕ)) (r : Result Label E) → HasLabelText text t spelling
    → IfOk r (λ label. slice_get new label.0 ≡ Some spelling) → OnOk r (Contains old spelling → new ≡ old) → (new ≡ old) ⊎ (new ≡ old ++ spelling ∷ [])
    → IfOk r (λ _. AddsNameOf text t old new)
adds_name_of text t spelling old new (Ok label) is named known grows = inr (spelling, is, adds_name old new spelling label.0 named known grows)
adds_name_of text t spelling old new (Err e) is named known grows = tt

-- the names grow in one way
pub one_addition : (old new other : List (List ℕ)) (label : List ℕ) → AddsName old label new → AddsName old label other → new ≡ other
one_addition old new other label (inl a) (inl b) = a.1 ∙ sym b.1
one_addition old new other label (inl a) (inr b) = absurd (b.0 a.0)
one_addition old new other label (inr a) (inl b) = absurd (a.0 b.0)
one_addition old new other label (inr a) (inr b) = a.1 ∙ sym b.1

pub is_label : (text : List ℕ) (t : Token) (spelling : List ℕ) → HasLabelText text t spelling → IsLabel t
is_label text t spelling h = by_kind t.kind (bytes_of text t) h
  where
    by_kind : (kind : Kind) (bytes : List ℕ) → IsLabelText kind bytes spelling → (kind ≡ Bare) ⊎ (kind ≡ Quoted)
    by_kind Bare bytes g = inl refl
    by_kind Quoted bytes g = inr refl
    by_kind (Variable letter number) bytes g = absurd g
    by_kind (Node number) bytes g = absurd g
    by_kind (a_word w) bytes g = absurd g
    by_kind Opening bytes g = absurd g
    by_kind Closing bytes g = absurd g
    by_kind Comma bytes g = absurd g
    by_kind Plus bytes g = absurd g
    by_kind Slash bytes g = absurd g
    by_kind Equals bytes g = absurd g
    by_kind Stop bytes g = absurd g

one_addition_of : (text : List ℕ) (t : Token) (old new other : List (List ℕ)) → AddsNameOf text t old new → AddsNameOf text t old other → new ≡ other
one_addition_of text t old new other (inl a) (inl b) = a.1 ∙ sym b.1
one_addition_of text t old new other (inl a) (inr b) = absurd (a.0 (is_label text t b.0 b.1))
one_addition_of text t old new other (inr a) (inl b) = absurd (b.0 (is_label text t a.0 a.1))
one_addition_of text t old new other (inr a) (inr b) =
    let same : a.0 ≡ b.0 = one_label_text t.kind (bytes_of text t) a.0 b.0 a.1 b.1 in
    one_addition old new other b.0 (subst (λ label. AddsName old label new) same a.2) b.2

pub one_growth : (text : List ℕ) (ts : List Token) (old new other : List (List ℕ)) → NamesGrow text ts old new → NamesGrow text ts old other → new ≡ other
one_growth text [] old new other g h = g ∙ sym h
one_growth text (t ∷ ts) old new other g h =
    let same : g.0 ≡ h.0 = one_addition_of text t old g.0 h.0 g.1 h.1 in
    one_growth text ts h.0 new other (subst (λ n. NamesGrow text ts n new) same g.2) h.2

-- no text comes twice
pub place_of : (names : List (List ℕ)) (label text : List ℕ) (i : ℕ) → slice_get (names ++ label ∷ []) i ≡ Some text → (slice_get names i ≡ Some text) ⊎ ((i ≡ length names) × (label ≡ text))
place_of [] label text zero e = inr (refl, cc)
place_of [] label text (suc i) e = absurd cc
place_of (x ∷ names) label text zero e = inl e
place_of (x ∷ names) label text (suc i) e = ⊎_elim (λ h. inl h) (λ h. inr (ap suc h.0, h.1)) (place_of names label text i e)

pub still_distinct : (old new : List (List ℕ)) (label : List ℕ) → AreDistinct old → AddsName old label new → AreDistinct new
still_distinct old new label distinct (inl a) = subst AreDistinct (sym a.1) distinct
still_distinct old new label distinct (inr a) = subst AreDistinct (sym a.1) (λ i j text e f. at_both i j text (place_of old label text i e) (place_of old label text j f))
  where
    new_text : (k : ℕ) (text : List ℕ) → slice_get old k ≡ Some text → label ≡ text → ⊥
    new_text k text e same = a.0 (Contains-slice_get old label k (e ∙ ap (λ t. Some t) (sym same)))

    at_both : (i j : ℕ) (text : List ℕ) → (slice_get old i ≡ Some text) ⊎ ((i ≡ length old) × (label ≡ text)) → (slice_get old j ≡ Some text) ⊎ ((j ≡ length old) × (label ≡ text)) → i ≡ j
    at_both i j text (inl e) (inl f) = distinct i j text e f
    at_both i j text (inl e) (inr f) = absurd (new_text i text e f.1)
    at_both i j text (inr e) (inl f) = absurd (new_text j text f e.1)
    at_both i j text (inr e) (inr f) = e.0 ∙ sym f.0

pub grow_distinct : (text : List ℕ) (ts : List Token) (old new : List (List ℕ)) → AreDistinct old → NamesGrow text ts old new → AreDistinct new
grow_distinct text [] old new distinct g = subst AreDistinct (sym g) distinct
grow_distinct text (t ∷ ts) old new distinct g = grow_distinct text ts g.0 new (by_token g.1) g.2
  where
    by_token : AddsNameOf text t old g.0 → AreDistinct g.0
    by_token (inl a) = subst AreDistinct (sym a.1) distinct
    by_token (inr a) = still_distinct old g.0 a.0 distinct a.2
