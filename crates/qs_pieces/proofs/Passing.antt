-- A text that has tokens to its end, passed piece by piece from the left. At each piece it is known which token comes next, and
-- which tokens may stand side by side.
use Rattle.std.proofs.Common.{◌≡◌, ℕ, zero, suc, ◌-◌, ◌<◌, ◌≤◌, Bool, true, false, not, cond, Ok, refl, sym, ap, ◌∙◌, subst, List, [], ◌∷◌, ◌++◌, length, drop, arith, append_assoc, length-append, take-append-drop}
use Rattle.std.specs.List.{list_all}
use Rattle.std.proofs.lemmas.Bool.{and_parts, or_parts}
use Rattle.std.proofs.lemmas.List.{drop-drop}
use Rattle.qs_ruletext.proofs.OneLine.{label_ends_none}
use Rattle.qs_lex.specs.Characters.{ends_line, Each}
use Rattle.qs_lex.specs.Spelling.{between_dashes, name_of as word_name, since, IsInVersion}
use Rattle.qs_lex.specs.Tokens.{version_of, blank_len, next_place, bytes_of, StandsIn, Reads}
use Rattle.qs_lex.specs.declared.token.Token.{Token}
use Rattle.qs_lex.specs.declared.token.Kind.{Kind}
use Rattle.qs_lex.specs.declared.token.Kind.TheVariants.{Word as a_word}
use Rattle.qs_lex.specs.declared.token.Word.{Word}
use Rattle.qs_lex.specs.working.Scan.{Found, scan}
use Rattle.qs_lex.specs.Grammar.{Sort, sort_of}
use Rattle.qs_lex.proofs.Choices.{each_from_all}
use Rattle.qs_lex.proofs.Scanned.{scan_finds}
use Rattle.qs_lex.proofs.Versions.{second_version, kind_in_second}
use Rattle.qs_lex.proofs.Standing.{one_token, has_byte}
use Rattle.qs_tree.specs.Text.{is_bare, is_label_byte, label_text, between_quotes}
use Rattle.qs_pattern.specs.declared.pattern.Head.TheVariants as head
use Rattle.qs_ruletext.specs.Reading.{IsHeadOf}
use Rattle.qs_ruletext.specs.Written.{AreOnOneLine}
use Rattle.qs_ruletext.proofs.ReadBack.{IsLeft, place, left_there, Goes, IsNone, IsOne, turned}
use Rattle.qs_ruletext.proofs.HeadsReadBack.{Closes, head_goes}
use Rattle.qs_pieces.proofs.Neighbours.{beside, Chain}
use Rattle.qs_pieces.proofs.QuotedFronts.{NoQuote, quoted_line}

-- so much of the text is left, it has tokens to the end, and these may stand behind a token of this sort
pub record IsAt (text : List ℕ) (before : Sort) (left : List ℕ) : Type 0 where
  pub is : IsLeft text left
  pub tokens : List Token
  pub reads : Reads text (place text left) tokens (length text)
  pub chain : Chain before tokens

-- the same behind a token of some sort
abbrev pub IsBehind : List ℕ → List ℕ → Type 0
IsBehind text left = (before : Sort) × IsAt text before left

-- a piece shows this where it is passed, and what is behind it lets labels and variables end
abbrev pub Shows : List ℕ → Type 0 → List ℕ → Type 0
Shows text S piece = (before : Sort) (left : List ℕ) → Closes left → IsAt text before (piece ++ left) → S × IsBehind text left

-- one token, of which this holds
abbrev pub IsOneThat : (Token → Type 0) → List Token → List Token → Type 0
IsOneThat P ts rest = (t : Token) × (ts ≡ t ∷ rest) × P t

labels_line : (name : List ℕ) → Each is_label_byte name → Each (λ b. not (ends_line b)) name
labels_line [] each = tt
labels_line (b ∷ name) each = (label_ends_none b each.0, labels_line name each.1)

-- where a label can end, no quote stands
no_quote : (left : List ℕ) → Closes left → NoQuote left
no_quote [] closes = tt
no_quote (b ∷ left) closes = (or_parts _ _ closes).1

-- one name is among the names
one_line : (name : List ℕ) → Each (λ b. not (ends_line b)) name → AreOnOneLine (name ∷ [])
one_line name line zero other is = let same : name ≡ other = cc in subst (λ (t : List ℕ). Each (λ b. not (ends_line b)) t) same line
one_line name line (suc k) other is = absurd cc

module _ (text : List ℕ) where
  -- tokens are read from the next place on
  moved : (at mid : ℕ) (ts : List Token) (next : ℕ) → next_place text mid ≡ next_place text at → Reads text at ts next → Reads text mid ts next
  moved at mid [] next e r = r ∙ sym e
  moved at mid (t ∷ ts) next e r = (r.0 ∙ sym e, r.1, r.2)

  -- tokens that are read up to a place are the first of those that are read to the end
  first_tokens : (at mid : ℕ) (front ts : List Token) → Reads text at front (next_place text mid) → Reads text at ts (length text)
      → (us : List Token) × (ts ≡ front ++ us) × Reads text mid us (length text)
  first_tokens at mid [] ts r s = (ts, refl, moved at mid ts (length text) r s)
  first_tokens at mid (t ∷ front) [] r s = let within = r.1.within in absurd (omega (arith, r.0, s, within, has_byte r.1))
  first_tokens at mid (t ∷ front) (u ∷ us) r s =
      let same : t ≡ u = one_token (r.0 ∙ sym s.0) r.1 s.1 in
      let rest = first_tokens t.to mid front us r.2 (subst (λ (k : ℕ). Reads text k us (length text)) (sym (ap (λ (v : Token). v.to) same)) s.2) in
      (rest.0, (λ i. sym same i ∷ rest.1 i), rest.2)

  pass : {Are : List Token → List Token → Type 0} → (before : Sort) (piece left : List ℕ) → Goes text Are piece left → IsAt text before (piece ++ left)
      → (front : List Token) × Are front [] × ((us : List Token) × IsLeft text left × Reads text (place text left) us (length text) × Chain before (front ++ us))
  pass before piece left goes at =
      let x = goes.go at.is [] (next_place text (place text left)) refl in
      let rest = first_tokens (place text (piece ++ left)) (place text left) x.0 at.tokens x.1 at.reads in
      let behind : IsLeft text left = record { before = at.is.before ++ piece; whole = at.is.whole ∙ sym (append_assoc at.is.before piece left) } in
      (x.0, x.2, (rest.0, behind, rest.2, subst (Chain before) rest.1 at.chain))

  -- white space is passed
  pub pass_none : (before : Sort) (piece left : List ℕ) → Goes text IsNone piece left → IsAt text before (piece ++ left) → IsAt text before left
  pass_none before piece left goes at =
      let x = pass before piece left goes at in
      let us : List Token = x.2.0 in
      record { is = x.2.1; tokens = us; reads = x.2.2; chain = subst (λ (ts : List Token). Chain before (ts ++ us)) x.1 x.2.3 }

  -- a token is passed
  pub pass_one : (P : Token → Type 0) (before : Sort) (piece left : List ℕ) → Goes text (IsOneThat P) piece left → IsAt text before (piece ++ left)
      → (t : Token) × P t × (beside before (sort_of t.kind) ≡ true) × IsAt text (sort_of t.kind) left
  pass_one P before piece left goes at =
      let x = pass before piece left goes at in
      let us : List Token = x.2.0 in
      let one = x.1 in
      let chain : Chain before (one.0 ∷ us) = subst (λ (ts : List Token). Chain before (ts ++ us)) one.1 x.2.3 in
      (one.0, one.2, chain.0, record { is = x.2.1; tokens = us; reads = x.2.2; chain = chain.1 })

  pub pass_kind : (kind : Kind) (bytes : List ℕ) (before : Sort) (piece left : List ℕ) → Goes text (IsOne text kind bytes) piece left → IsAt text before (piece ++ left)
      → (beside before (sort_of kind) ≡ true) × IsAt text (sort_of kind) left
  pass_kind kind bytes before piece left goes at =
      let x = pass_one (λ t. t.kind ≡ kind) before piece left (turned text piece left (λ ts rest one. (one.0, one.1, one.2)) goes) at in
      subst (λ (k : Kind). (beside before (sort_of k) ≡ true) × IsAt text (sort_of k) left) x.1 (x.2, x.3)

  -- the token that stands at the next place
  pub token_there : (before : Sort) (left : List ℕ) → 0 < length left → blank_len left ≡ 0 → IsAt text before left → (t : Token) × StandsIn text t × (bytes_of text t ++ drop t.to text ≡ left)
  token_there before left some no_blank at = by_tokens at.tokens at.reads
    where
      here : blank_len (drop (place text left) text) ≡ 0
      here = ap blank_len (left_there at.is) ∙ no_blank

      by_tokens : (ts : List Token) → Reads text (place text left) ts (length text) → (t : Token) × StandsIn text t × (bytes_of text t ++ drop t.to text ≡ left)
      by_tokens [] r = absurd (omega (arith, r, here, some, ap length at.is.whole, length-append at.is.before left))
      by_tokens (t ∷ ts) r =
          let from : t.from ≡ place text left = omega (arith, r.0, here) in
          let behind : drop (t.to - t.from) (drop t.from text) ≡ drop t.to text = drop-drop (t.to - t.from) t.from text ∙ ap (λ (k : ℕ). drop k text) (omega (arith, has_byte r.1)) in (
            t,
            r.1,
            ap (λ (bs : List ℕ). bytes_of text t ++ bs) (sym behind) ∙ take-append-drop (t.to - t.from) (drop t.from text) ∙ ap (λ (k : ℕ). drop k text) from ∙ left_there at.is,
          )

  -- a word that stands there is one of the text's version
  pub word_known : (before : Sort) (word : Word) (left : List ℕ) → IsAt text before (between_dashes (word_name word) ++ left) → since word ≤ version_of text
  word_known before word left at =
      let bytes : List ℕ = between_dashes (word_name word) in
      let found = token_there before (bytes ++ left) (omega arith) refl at in
      let t : Token = found.0 in
      let this : scan 2 (bytes ++ left) ≡ Ok (a_word word, length bytes) = scan_finds 2 (a_word word) bytes left (second_version word) refl tt in
      let that : scan 2 (bytes_of text t ++ drop t.to text) ≡ Ok (t.kind, length (bytes_of text t)) =
      scan_finds 2 t.kind (bytes_of text t) (drop t.to text) (kind_in_second t.kind) found.1.spelled found.1.ended in
      let alike : ◌≡◌ {A = Found} (Ok (t.kind, length (bytes_of text t))) (Ok (a_word word, length bytes)) = sym that ∙ ap (scan 2) found.2 ∙ this in
      let pair : ◌≡◌ {A = Kind × ℕ} (t.kind, length (bytes_of text t)) (a_word word, length bytes) = cc in
      subst (λ (k : Kind). IsInVersion (version_of text) k) (ap (λ (x : Kind × ℕ). x.0) pair) found.1.known

  line_of : (before : Sort) (name left : List ℕ) (bare : Bool) → is_bare name ≡ bare → Closes left → IsAt text before (cond bare name (between_quotes name) ++ left) → Each (λ b. not (ends_line b)) name
  line_of before name left true is closes at = labels_line name (each_from_all is_label_byte name (and_parts _ (list_all is_label_byte name) is).1)
  line_of before name left false is closes at =
      let found = token_there before (between_quotes name ++ left) (omega arith) refl at in
      let t : Token = found.0 in
      quoted_line name left (no_quote left closes) t.kind (bytes_of text t) (drop t.to text) found.1.spelled found.1.ended found.2

  -- a label has no end of a line, and is passed
  pub pass_label : (before : Sort) (name left : List ℕ) → Closes left → IsAt text before (label_text name ++ left) → Each (λ b. not (ends_line b)) name × IsBehind text left
  pass_label before name left closes at =
      let line = line_of before name left (is_bare name) refl closes at in
      let goes = head_goes text (name ∷ []) (head.Label (record { 0 = 0 })) left (one_line name line) (omega arith) tt closes in
      let x = pass_one (λ t. IsHeadOf (name ∷ []) text t (head.Label (record { 0 = 0 }))) before (label_text name) left goes at in
      (line, (sort_of x.0.kind, x.3))
