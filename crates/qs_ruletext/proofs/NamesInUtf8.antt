-- What is read of a text in UTF-8 is in UTF-8: the texts of its labels, and so the names.
use Rattle.std.proofs.Common.{◌≡◌, ℕ, suc, ◌+◌, ◌<◌, Bool, true, false, cond, inl, inr, refl, sym, subst, ⊎_elim, List, [], ◌∷◌, ◌++◌, length, get_or, drop, Some, arith, eqb, append_assoc, length-append, IsUtf8}
use Rattle.std.specs.Prelude.{slice_get, IsCharBoundary}
use Rattle.std.specs.List.{All}
use Rattle.std.proofs.Math.Seq.{take-append_seam}
use Rattle.std.proofs.lemmas.Bool.{eqb-true}
use Rattle.std.proofs.lemmas.List.{drop_at}
use Rattle.std.proofs.lemmas.List.Elements.{All-head, All-tail}
use Rattle.std.proofs.lemmas.Str.{IsUtf8-nil, IsUtf8-from_ascii, IsUtf8-append, IsUtf8-take, IsUtf8-drop, IsUtf8-between, IsCharBoundary-before_ascii, IsCharBoundary-after_ascii}
use Rattle.std.proofs.lemmas.Str.Ascii.{IsAscii-nil, IsAscii-cons}
use Rattle.qs_lex.specs.declared.token.Token.{Token}
use Rattle.qs_lex.specs.declared.token.Kind.{Kind}
use Rattle.qs_lex.specs.declared.token.Kind.TheVariants.{Bare, Quoted, Variable, Node, Word as a_word, Opening, Closing, Comma, Plus, Slash, Equals, Stop}
use Rattle.qs_tree.specs.Text.{doubled, between_quotes}
use Rattle.qs_lex.specs.Spelling.{IsLabelText}
use Rattle.qs_lex.specs.Tokens.{bytes_of, IsTokenOf, HasLabelText}
use Rattle.qs_lex.proofs.Choices.{first_behind}
use Rattle.qs_lex.proofs.Readings.{token_placed}
use Rattle.qs_reader.specs.Names.{AddsName, AddsNameOf, NamesGrow}
use Rattle.qs_reader.proofs.Naming.{place_of}

-- each of these texts is UTF-8
abbrev pub AreUtf8 : List (List ℕ) → Type 0
AreUtf8 names = (k : ℕ) (name : List ℕ) → slice_get names k ≡ Some name → IsUtf8 name

-- what stands before an ASCII character of a text in UTF-8, and what stands behind it, is UTF-8
pub parted : (before behind : List ℕ) (b : ℕ) → b < 128 → IsUtf8 (before ++ b ∷ behind) → IsUtf8 before × IsUtf8 behind
parted before behind b ascii utf8 =
    let text : List ℕ = before ++ b ∷ behind in
    let size : length text ≡ length before + suc (length behind) = length-append before (b ∷ behind) in
    let there : get_or text (length before) 0 ≡ b = first_behind before (b ∷ behind) in
    let from : IsCharBoundary text (length before) = IsCharBoundary-before_ascii text (length before) (omega (arith, size)) (omega (arith, there, ascii)) in
    let to : IsCharBoundary text (length before + 1) = IsCharBoundary-after_ascii text (length before) utf8 (omega (arith, size)) (omega (arith, there, ascii)) in
    let front : length (before ++ b ∷ []) ≡ length before + 1 = length-append before (b ∷ []) in
    let left : drop (length before + 1) text ≡ behind =
    subst (λ xs. drop (length before + 1) xs ≡ behind) (append_assoc before (b ∷ []) behind) (drop_at (before ++ b ∷ []) behind (length before + 1) front) in
    (subst IsUtf8 (take-append_seam before (b ∷ behind)) (IsUtf8-take text (length before) utf8 from), subst IsUtf8 left (IsUtf8-drop text (length before + 1) utf8 to))

-- and two texts in UTF-8 with an ASCII character between them are one
pub with_ascii_between : (before behind : List ℕ) (b : ℕ) → b < 128 → IsUtf8 before → IsUtf8 behind → IsUtf8 (before ++ b ∷ behind)
with_ascii_between before behind b ascii u v = IsUtf8-append before (b ∷ behind) u (IsUtf8-append (b ∷ []) behind (IsUtf8-from_ascii (b ∷ []) (IsAscii-cons b [] ascii IsAscii-nil)) v)

-- whatever stands before them, the one text is UTF-8 there where the other is
abbrev StaysUtf8 : List ℕ → List ℕ → Type 0
StaysUtf8 this other = (before : List ℕ) → IsUtf8 (before ++ this) → IsUtf8 (before ++ other)

-- a first byte of both goes to what stands before them
one_byte : (b : ℕ) (this other : List ℕ) → StaysUtf8 this other → StaysUtf8 (b ∷ this) (b ∷ other)
one_byte b this other stays before utf8 =
    subst IsUtf8 (append_assoc before (b ∷ []) other) (stays (before ++ b ∷ []) (subst IsUtf8 (sym (append_assoc before (b ∷ []) this)) utf8))

-- a byte and its doubling, before a text and its doubling
is_step : (b : ℕ) (text twice : List ℕ) (q : Bool) → eqb b 34 ≡ q → StaysUtf8 text twice → StaysUtf8 (b ∷ text) ((cond q (34 ∷ 34 ∷ []) (b ∷ [])) ++ twice)
is_step b text twice true e stays before utf8 =
    let parts = parted before text b (omega (arith, eqb-true b 34 e)) utf8 in
    with_ascii_between before (34 ∷ twice) 34 (omega arith) parts.0 (with_ascii_between [] twice 34 (omega arith) IsUtf8-nil (stays [] parts.1))
is_step b text twice false e stays before utf8 = one_byte b text twice stays before utf8

was_step : (b : ℕ) (text twice : List ℕ) (q : Bool) → eqb b 34 ≡ q → StaysUtf8 twice text → StaysUtf8 ((cond q (34 ∷ 34 ∷ []) (b ∷ [])) ++ twice) (b ∷ text)
was_step b text twice true e stays before utf8 =
    let first = parted before (34 ∷ twice) 34 (omega arith) utf8 in
    let second = parted [] twice 34 (omega arith) first.1 in
    with_ascii_between before text b (omega (arith, eqb-true b 34 e)) first.0 (stays [] second.1)
was_step b text twice false e stays before utf8 = one_byte b twice text stays before utf8

-- doubling and undoubling, behind whatever stands before
doubling_stays : (text : List ℕ) → StaysUtf8 text (doubled text)
doubling_stays [] before utf8 = utf8
doubling_stays (b ∷ text) before utf8 = is_step b text (doubled text) (eqb b 34) refl (doubling_stays text) before utf8

undoubling_stays : (text : List ℕ) → StaysUtf8 (doubled text) text
undoubling_stays [] before utf8 = utf8
undoubling_stays (b ∷ text) before utf8 = was_step b text (doubled text) (eqb b 34) refl (undoubling_stays text) before utf8

-- a text is UTF-8 exactly where it is with each quote doubled
pub doubled_is : (text : List ℕ) → IsUtf8 text → IsUtf8 (doubled text)
doubled_is text utf8 = doubling_stays text [] utf8

pub doubled_was : (text : List ℕ) → IsUtf8 (doubled text) → IsUtf8 text
doubled_was text utf8 = undoubling_stays text [] utf8

-- and between quotes
pub between_quotes_is : (text : List ℕ) → IsUtf8 text → IsUtf8 (between_quotes text)
between_quotes_is text utf8 =
    with_ascii_between [] (doubled text ++ 34 ∷ []) 34 (omega arith) IsUtf8-nil (with_ascii_between (doubled text) [] 34 (omega arith) (doubled_is text utf8) IsUtf8-nil)

pub between_quotes_was : (text : List ℕ) → IsUtf8 (between_quotes text) → IsUtf8 text
between_quotes_was text utf8 =
    let opened = parted [] (doubled text ++ 34 ∷ []) 34 (omega arith) utf8 in
    let closed = parted (doubled text) [] 34 (omega arith) opened.1 in
    doubled_was text closed.0

-- the text of a label that is written with bytes in UTF-8
label_in : (kind : Kind) (bytes label : List ℕ) → IsUtf8 bytes → IsLabelText kind bytes label → IsUtf8 label
label_in Bare bytes label utf8 is = subst IsUtf8 (sym is) utf8
label_in Quoted bytes label utf8 is = between_quotes_was label (subst IsUtf8 is utf8)
label_in (Variable letter number) bytes label utf8 is = absurd is
label_in (Node number) bytes label utf8 is = absurd is
label_in (a_word w) bytes label utf8 is = absurd is
label_in Opening bytes label utf8 is = absurd is
label_in Closing bytes label utf8 is = absurd is
label_in Comma bytes label utf8 is = absurd is
label_in Plus bytes label utf8 is = absurd is
label_in Slash bytes label utf8 is = absurd is
label_in Equals bytes label utf8 is = absurd is
label_in Stop bytes label utf8 is = absurd is

-- the text of a label of a text in UTF-8 is UTF-8: its token stands between two borders of characters
pub label_is : (text : List ℕ) (t : Token) (label : List ℕ) → IsUtf8 text → IsTokenOf text t → HasLabelText text t label → IsUtf8 label
label_is text t label utf8 of has =
    let placed = token_placed utf8 of in
    let bytes : IsUtf8 (bytes_of text t) = IsUtf8-between text t.from t.to utf8 (omega (arith, placed.some)) placed.from placed.to in
    label_in t.kind (bytes_of text t) label bytes has

-- one more name
one_more_name : (old new : List (List ℕ)) (label : List ℕ) → AreUtf8 old → IsUtf8 label → AddsName old label new → AreUtf8 new
one_more_name old new label are is (inl a) = subst AreUtf8 (sym a.1) are
one_more_name old new label are is (inr a) =
    subst AreUtf8 (sym a.1) (λ k name e. ⊎_elim (λ there. are k name there) (λ last. subst IsUtf8 last.1 is) (place_of old label name k e))

-- names that grow by what is read of a text in UTF-8 stay in UTF-8
pub names_are : (text : List ℕ) (ts : List Token) (old new : List (List ℕ)) → IsUtf8 text → All (IsTokenOf text) ts → AreUtf8 old → NamesGrow text ts old new → AreUtf8 new
names_are text [] old new utf8 tokens are g = subst AreUtf8 (sym g) are
names_are text (t ∷ ts) old new utf8 tokens are g = names_are text ts g.0 new utf8 (All-tail (IsTokenOf text) t ts tokens) (by_token g.1) g.2
  where
    by_token : AddsNameOf text t old g.0 → AreUtf8 g.0
    by_token (inl a) = subst AreUtf8 (sym a.1) are
    by_token (inr a) = one_more_name old g.0 a.0 are (label_is text t a.0 utf8 (All-head (IsTokenOf text) t ts tokens) a.1) a.2
