-- Names that grow by tokens of a text name each label among them, and there are such names for all tokens of a text.
use Rattle.std.proofs.Common.{◌≡◌, ℕ, Bool, true, false, refl, sym, ◌∙◌, ap, subst, ⊎_elim, inl, inr, List, [], ◌∷◌, length, Some, slice_get}
use Rattle.std.specs.Prelude.{◌⊎◌}
use Rattle.std.specs.Int.{is_in_range}
use Rattle.std.specs.List.{All}
use Rattle.std.proofs.lemmas.List.Elements.{All-nil, All-cons, All-head, All-tail}
use Rattle.qs_lex.specs.declared.token.Token.{Token}
use Rattle.qs_lex.specs.declared.token.Kind.{Kind}
use Rattle.qs_lex.specs.declared.token.Kind.TheVariants.{Bare, Quoted, Variable, Node, Word as a_word, Opening, Closing, Comma, Plus, Slash, Equals, Stop}
use Rattle.qs_lex.specs.Spelling.{Spells, IsLabelText}
use Rattle.qs_lex.specs.Tokens.{IsTokenOf, IsLabel, HasLabelText, bytes_of}
use Rattle.qs_lex.specs.Grammar.{Sort, a_label, variable_sort, sort_of, IsOf}
use Rattle.qs_lex.specs.Expecting.{same_sort}
use Rattle.qs_lex.proofs.Readings.{token_stands}
use Rattle.qs_tree.specs.declared.cell.Label.{Label}
use Rattle.qs_tree.proofs.NamesLemmas.{slice_get-last}
use Rattle.qs_pattern.specs.declared.variable.Var.{Var}
use Rattle.qs_ruletext.specs.Reading.{IsVariableOf}
use Rattle.qs_reader.specs.Names.{IsLabelOf, KeepsNames, AddsName, AddsNameOf, NamesGrow}
use Rattle.qs_ruletext.specs.working.Readers.{IsGood, is_variable}
use Rattle.qs_ruletext.proofs.SideSteps.{spelled_good}
use Rattle.qs_reader.proofs.Additions.{addition_keeps, contained_place, name_added}

-- in these names the token has a number where it is a label, and it is a variable where its sort says so
pub record IsKnown (names : List (List ℕ)) (text : List ℕ) (t : Token) : Type 0 where
  pub label : IsOf a_label t → (l : Label) × IsLabelOf names text t l
  pub variable : (s : Sort) → is_variable s ≡ true → IsOf s t → (v : Var) × IsVariableOf s t v

pub variable_is : (letter : ℕ) → is_variable (variable_sort letter) ≡ true
variable_is letter = by (is_in_range 65 70 letter) refl (is_in_range 73 78 letter) refl
  where
    by : (a : Bool) → is_in_range 65 70 letter ≡ a → (b : Bool) → is_in_range 73 78 letter ≡ b → is_variable (variable_sort letter) ≡ true
    by true e b f = rw e refl
    by false e true f = rw (e, f) refl
    by false e false f = rw (e, f) refl

-- a token of the sort of labels is one
label_is : (kind : Kind) → sort_of kind ≡ a_label → (kind ≡ Bare) ⊎ (kind ≡ Quoted)
label_is Bare e = inl refl
label_is Quoted e = inr refl
label_is (Variable letter number) e = let other : true ≡ false = sym (variable_is letter) ∙ ap is_variable e in absurd cc
label_is (Node number) e = absurd cc
label_is (a_word w) e = absurd cc
label_is Opening e = absurd cc
label_is Closing e = absurd cc
label_is Comma e = absurd cc
label_is Plus e = absurd cc
label_is Slash e = absurd cc
label_is Equals e = absurd cc
label_is Stop e = absurd cc

variable_of : (t : Token) (s : Sort) → IsGood t.kind → is_variable s ≡ true → IsOf s t → (v : Var) × IsVariableOf s t v
variable_of t s good is of = by t.kind refl good of
  where
    no_variable : (r : Sort) → is_variable r ≡ false → r ≡ s → ⊥
    no_variable r n e = let other : true ≡ false = sym is ∙ sym (ap is_variable e) ∙ n in absurd cc

    by : (kind : Kind) → t.kind ≡ kind → IsGood kind → sort_of kind ≡ s → (v : Var) × IsVariableOf s t v
    by (Variable letter number) e g o = (record { letter = letter; number = number; known = g }, record { of_sort = of; variable = e })
    by Bare e g o = absurd (no_variable a_label refl o)
    by Quoted e g o = absurd (no_variable a_label refl o)
    by (Node number) e g o = absurd (no_variable (sort_of (Node number)) refl o)
    by (a_word w) e g o = absurd (no_variable (sort_of (a_word w)) refl o)
    by Opening e g o = absurd (no_variable (sort_of Opening) refl o)
    by Closing e g o = absurd (no_variable (sort_of Closing) refl o)
    by Comma e g o = absurd (no_variable (sort_of Comma) refl o)
    by Plus e g o = absurd (no_variable (sort_of Plus) refl o)
    by Slash e g o = absurd (no_variable (sort_of Slash) refl o)
    by Equals e g o = absurd (no_variable (sort_of Equals) refl o)
    by Stop e g o = absurd (no_variable (sort_of Stop) refl o)

-- ---- names that grow keep what they have

token_keeps : (text : List ℕ) (t : Token) (old new : List (List ℕ)) → AddsNameOf text t old new → KeepsNames old new
token_keeps text t old new (inl a) k spelling e = subst (λ ns. slice_get ns k ≡ Some spelling) (sym a.1) e
token_keeps text t old new (inr a) k spelling e = addition_keeps old new a.0 a.2 k spelling e

grow_keeps : (text : List ℕ) (ts : List Token) (old new : List (List ℕ)) → NamesGrow text ts old new → KeepsNames old new
grow_keeps text [] old new g k spelling e = subst (λ ns. slice_get ns k ≡ Some spelling) (sym g) e
grow_keeps text (t ∷ ts) old new g k spelling e = grow_keeps text ts g.0 new g.2 k spelling (token_keeps text t old g.0 g.1 k spelling e)

added_place : (old new : List (List ℕ)) (label : List ℕ) → AddsName old label new → (k : ℕ) × (slice_get new k ≡ Some label)
added_place old new label (inl a) = let p = contained_place old label a.0 in (p.0, subst (λ ns. slice_get ns p.0 ≡ Some label) (sym a.1) p.1)
added_place old new label (inr a) = (length old, subst (λ ns. slice_get ns (length old) ≡ Some label) (sym a.1) (slice_get-last old label (length old) refl))

label_of : (names : List (List ℕ)) (text : List ℕ) (t : Token) (old new : List (List ℕ)) → AddsNameOf text t old new → KeepsNames new names → IsOf a_label t
    → (l : Label) × IsLabelOf names text t l
label_of names text t old new (inl a) keeps e = absurd (a.0 (label_is t.kind e))
label_of names text t old new (inr a) keeps e =
    let p = added_place old new a.0 a.2 in (record { 0 = p.0 }, record { spelling = a.0; of_token = a.1; named = keeps p.0 a.0 p.1 })

-- tokens of a text by which names have grown are known
pub all_known : (text : List ℕ) (ts : List Token) (old names : List (List ℕ)) → All (IsTokenOf text) ts → NamesGrow text ts old names → All (IsKnown names text) ts
all_known text [] old names all g = All-nil (IsKnown names text)
all_known text (t ∷ ts) old names all g =
    let good = spelled_good t.kind (bytes_of text t) (token_stands (All-head (IsTokenOf text) t ts all)).spelled in
    All-cons (IsKnown names text) t ts
    (record { label = label_of names text t old g.0 g.1 (grow_keeps text ts g.0 names g.2); variable = λ s is of. variable_of t s good is of })
    (all_known text ts g.0 names (All-tail (IsTokenOf text) t ts all) g.2)

-- ---- there are such names

unlabelled : (kind : Kind) → same_sort a_label (sort_of kind) ≡ false → (kind ≡ Bare) ⊎ (kind ≡ Quoted) → ⊥
unlabelled kind n l =
    let is : sort_of kind ≡ a_label = ⊎_elim (λ e. ap sort_of e) (λ e. ap sort_of e) l in
    let other : true ≡ false = sym (ap (same_sort a_label) is) ∙ n in
    absurd cc

text_of : (text : List ℕ) (t : Token) → IsTokenOf text t → (IsLabel t → ⊥) ⊎ ((label : List ℕ) × HasLabelText text t label)
text_of text t of = by t.kind (bytes_of text t) (token_stands of).spelled
  where
    by : (kind : Kind) (bytes : List ℕ) → Spells kind bytes → ((kind ≡ Bare) ⊎ (kind ≡ Quoted) → ⊥) ⊎ ((label : List ℕ) × IsLabelText kind bytes label)
    by Bare bytes s = inr (bytes, refl)
    by Quoted bytes s = inr (s.0, s.2)
    by (Variable letter number) bytes s = inl (λ l. ⊎_elim (λ e. absurd cc) (λ e. absurd cc) l)
    by (Node number) bytes s = inl (unlabelled (Node number) refl)
    by (a_word w) bytes s = inl (λ l. ⊎_elim (λ e. absurd cc) (λ e. absurd cc) l)
    by Opening bytes s = inl (unlabelled Opening refl)
    by Closing bytes s = inl (unlabelled Closing refl)
    by Comma bytes s = inl (unlabelled Comma refl)
    by Plus bytes s = inl (unlabelled Plus refl)
    by Slash bytes s = inl (unlabelled Slash refl)
    by Equals bytes s = inl (unlabelled Equals refl)
    by Stop bytes s = inl (unlabelled Stop refl)

-- the names grow by all tokens of a text
pub names_grow : (text : List ℕ) (ts : List Token) (old : List (List ℕ)) → All (IsTokenOf text) ts → (new : List (List ℕ)) × NamesGrow text ts old new
names_grow text [] old all = (old, refl)
names_grow text (t ∷ ts) old all = by (text_of text t (All-head (IsTokenOf text) t ts all)) (λ next. names_grow text ts next (All-tail (IsTokenOf text) t ts all))
  where
    by : (IsLabel t → ⊥) ⊎ ((label : List ℕ) × HasLabelText text t label) → ((next : List (List ℕ)) → (new : List (List ℕ)) × NamesGrow text ts next new)
        → (new : List (List ℕ)) × NamesGrow text (t ∷ ts) old new
    by (inl n) rest = let g = rest old in (g.0, (old, inl (n, refl), g.1))
    by (inr l) rest = let a = name_added old l.0 in let g = rest a.0 in (g.0, (a.0, inr (l.0, l.1, a.1), g.1))
