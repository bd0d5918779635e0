-- How what is written is read, from right to left: where what stands behind a piece of a text is read, the piece and what
-- stands behind it are.
use Rattle.std.proofs.Common.{◌≡◌, ℕ, suc, ◌+◌, ◌-◌, refl, sym, ap, ◌∙◌, subst, List, [], ◌∷◌, ◌++◌, length, take, drop, arith, append_assoc, append-nil, length-append}
use Rattle.std.proofs.lemmas.List.{take_at, drop_at}
use Rattle.qs_lex.specs.declared.token.Token.{Token}
use Rattle.qs_lex.specs.declared.token.Kind.{Kind}
use Rattle.qs_lex.specs.Spelling.{Spells, IsInVersion, EndsBefore}
use Rattle.qs_lex.specs.Tokens.{version_of, blank_len, next_place, bytes_of, StandsIn, Reads, AreTokensOf}
pub use Rattle.qs_lex.proofs.Versions.{first_version}

-- this is what is left of the text from some place on
pub record IsLeft (text left : List ℕ) : Type 0 where
  pub before : List ℕ
  pub whole : text ≡ before ++ left

-- the place from which on so much is left
abbrev pub place : List ℕ → List ℕ → ℕ
place text left = length text - length left

place_is : {text left : List ℕ} → (is : IsLeft text left) → place text left ≡ length is.before
place_is {text} {left} is = omega (arith, ap length is.whole, length-append is.before left)

pub left_there : {text left : List ℕ} → IsLeft text left → drop (place text left) text ≡ left
left_there {text} {left} is =
    ap (drop (place text left)) is.whole ∙ drop_at is.before left (place text left) (sym (place_is is))

further : (text piece left : List ℕ) → IsLeft text (piece ++ left) → IsLeft text left
further text piece left is = record { before = is.before ++ piece; whole = is.whole ∙ sym (append_assoc is.before piece left) }

-- Where the tokens behind a piece are read from the place behind it on, there are tokens that are read from the piece on: the
-- first of them are read so, and those behind it are the rest.
pub record Goes (text : List ℕ) (Are : List Token → List Token → Type 0) (piece left : List ℕ) : Type 0 where
  pub go : IsLeft text (piece ++ left) → (rest : List Token) (next : ℕ) → Reads text (place text left) rest next
      → (ts : List Token) × Reads text (place text (piece ++ left)) ts next × Are ts rest

-- one behind the other
abbrev pub Both : (List Token → List Token → Type 0) → (List Token → List Token → Type 0) → List Token → List Token → Type 0
Both Are Behind ts rest = (middle : List Token) × Are ts middle × Behind middle rest

-- no token
abbrev pub IsNone : List Token → List Token → Type 0
IsNone ts rest = ts ≡ rest

-- one token, of this kind and with these bytes
abbrev pub IsOne : List ℕ → Kind → List ℕ → List Token → List Token → Type 0
IsOne text kind bytes ts rest = (t : Token) × (ts ≡ t ∷ rest) × (t.kind ≡ kind) × (bytes_of text t ≡ bytes)

module _ (text : List ℕ) where
  pub both : {Are Behind : List Token → List Token → Type 0} → (a b left : List ℕ) → Goes text Are a (b ++ left) → Goes text Behind b left → Goes text (Both Are Behind) (a ++ b) left
  both {Are} {Behind} a b left f g = record {
    go = λ is rest next r.
        let e : (a ++ b) ++ left ≡ a ++ (b ++ left) = append_assoc a b left in
        let is_all : IsLeft text (a ++ (b ++ left)) = subst (IsLeft text) e is in
        let x = g.go (further text a (b ++ left) is_all) rest next r in
        let y = f.go is_all x.0 next x.1 in
        (y.0, subst (λ w. Reads text (place text w) y.0 next) (sym e) y.1, (x.0, y.2, x.2));
  }

  pub turned : {Are Others : List Token → List Token → Type 0} → (piece left : List ℕ) → ((ts rest : List Token) → Are ts rest → Others ts rest) → Goes text Are piece left → Goes text Others piece left
  turned piece left turn f = record {
    go = λ is rest next r. let x = f.go is rest next r in (x.0, x.1, turn x.0 rest x.2);
  }

  pub nothing : (left : List ℕ) → Goes text IsNone [] left
  nothing left = record { go = λ is rest next r. (rest, r, refl) }

  -- the next place is the same before white space and behind it
  from_blank : (b : ℕ) → ((bs : List ℕ) → blank_len (b ∷ bs) ≡ suc (blank_len bs)) → (left : List ℕ) (ts : List Token) (next : ℕ)
      → IsLeft text (b ∷ left) → Reads text (place text left) ts next → Reads text (place text (b ∷ left)) ts next
  from_blank b is_blank left ts next is r = by_tokens ts r
    where
      same : next_place text (place text left) ≡ next_place text (place text (b ∷ left))
      same =
          let here : blank_len (drop (place text (b ∷ left)) text) ≡ suc (blank_len left) = ap blank_len (left_there is) ∙ is_blank left in
          let there : blank_len (drop (place text left) text) ≡ blank_len left = ap blank_len (left_there (further text (b ∷ []) left is)) in
          omega (arith, here, there, ap length is.whole, length-append is.before (b ∷ left))

      by_tokens : (us : List Token) → Reads text (place text left) us next → Reads text (place text (b ∷ left)) us next
      by_tokens [] e = e ∙ same
      by_tokens (u ∷ us) e = (e.0 ∙ same, e.1, e.2)

  blank : (b : ℕ) → ((bs : List ℕ) → blank_len (b ∷ bs) ≡ suc (blank_len bs)) → (left : List ℕ) → Goes text IsNone (b ∷ []) left
  blank b is_blank left = record { go = λ is rest next r. (rest, from_blank b is_blank left rest next is r, refl) }

  pub space : (left : List ℕ) → Goes text IsNone (32 ∷ []) left
  space left = blank 32 (λ bs. refl) left

  pub end_of_line : (left : List ℕ) → Goes text IsNone (10 ∷ []) left
  end_of_line left = blank 10 (λ bs. refl) left

  -- a token whose first byte is neither white space nor the start of a comment
  pub token : (kind : Kind) → IsInVersion (version_of text) kind → (bytes left : List ℕ) → Spells kind bytes → EndsBefore kind left → blank_len (bytes ++ left) ≡ 0 → Goes text (IsOne text kind bytes) bytes left
  token kind known bytes left spelled ends no_blank = record {
    go = λ is rest next r.
        let from : ℕ = place text (bytes ++ left) in
        let to : ℕ = place text left in
        let behind : IsLeft text left = further text bytes left is in
        let size : length bytes ≡ to - from = omega (arith, ap length is.whole, length-append is.before (bytes ++ left), length-append bytes left) in
        let bytes_are : take (to - from) (drop from text) ≡ bytes = ap (take (to - from)) (left_there is) ∙ take_at bytes left (to - from) size in
        let t : Token = record { kind = kind; from = from; to = to } in
        let first : t.from ≡ next_place text from = omega (arith, ap blank_len (left_there is), no_blank) in
        let stands : StandsIn text t = record {
          known = known;
          within = omega arith;
          spelled = subst (Spells kind) (sym bytes_are) spelled;
          ended = subst (EndsBefore kind) (sym (left_there behind)) ends;
        } in
        (t ∷ rest, (first, stands, r), (t, refl, refl, bytes_are));
  }

  -- a token between spaces
  pub spaced : (kind : Kind) → IsInVersion (version_of text) kind → (bytes left : List ℕ) → Spells kind bytes → EndsBefore kind (32 ∷ left) → blank_len (bytes ++ 32 ∷ left) ≡ 0
      → Goes text (IsOne text kind bytes) (32 ∷ (bytes ++ 32 ∷ [])) left
  spaced kind known bytes left spelled ends no_blank =
      turned (32 ∷ (bytes ++ 32 ∷ [])) left
      (λ ts rest x. (x.2.1.0, x.1 ∙ x.2.1.1 ∙ ap (λ us. x.2.1.0 ∷ us) x.2.2, x.2.1.2, x.2.1.3))
      (both (32 ∷ []) (bytes ++ 32 ∷ []) left (space ((bytes ++ 32 ∷ []) ++ left)) (both bytes (32 ∷ []) left (token kind known bytes (32 ∷ left) spelled ends no_blank) (space left)))

-- a piece between other things: where the tokens behind it are read, it and those tokens are
pub amid : {Are : List Token → List Token → Type 0} → (before piece behind : List ℕ) (rest : List Token) (next : ℕ) → Goes (before ++ (piece ++ behind)) Are piece behind
    → Reads (before ++ (piece ++ behind)) (length before + length piece) rest next
    → (ts : List Token) × Reads (before ++ (piece ++ behind)) (length before) ts next × Are ts rest
amid before piece behind rest next goes reads =
    let text : List ℕ = before ++ (piece ++ behind) in
    let to : place text behind ≡ length before + length piece = omega (arith, length-append before (piece ++ behind), length-append piece behind) in
    let from : place text (piece ++ behind) ≡ length before = omega (arith, length-append before (piece ++ behind)) in
    let x = goes.go (record { before = before; whole = refl }) rest next (subst (λ k. Reads text k rest next) (sym to) reads) in
    (x.0, subst (λ k. Reads text k x.0 next) from x.1, x.2)

-- a whole text
pub alone : {Are : List Token → List Token → Type 0} → (text : List ℕ) → Goes text Are text [] → (ts : List Token) × AreTokensOf text ts × Are ts []
alone text goes =
    let is : IsLeft text (text ++ []) = record { before = []; whole = sym (append-nil text) } in
    let end : IsLeft text [] = record { before = text; whole = sym (append-nil text) } in
    let ends : length text ≡ place text [] + blank_len [] = omega arith in
    let reads : Reads text (place text []) [] (length text) = ends ∙ ap (λ bs. place text [] + blank_len bs) (sym (left_there end)) in
    let x = goes.go is [] (length text) reads in
    let from : place text (text ++ []) ≡ 0 = omega (arith, ap length (append-nil text)) in
    (x.0, subst (λ k. Reads text k x.0 (length text)) from x.1, x.2)
