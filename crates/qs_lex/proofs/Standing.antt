-- Tokens that stand in a text.
use Rattle.std.proofs.Common.{◌≡◌, ℕ, ◌+◌, ◌-◌, ◌<◌, ◌≤◌, List, [], ◌∷◌, ◌++◌, length, take, drop, Ok, Err, refl, sym, ap, ◌∙◌, subst, arith, length-append, length-drop, length-take, take-append-drop}
use Rattle.std.specs.Prelude.{slice_range}
use Rattle.std.proofs.lemmas.List.{take_at, drop_at, drop-drop}
use Rattle.qs_lex.specs.Spelling.{Spells, EndsBefore}
use Rattle.qs_lex.specs.Tokens.{version_of, StandsIn, Reads, next_place}
use Rattle.qs_lex.specs.Refusals.{IsFaulty}
use Rattle.qs_lex.specs.working.Scan.{Found, scan}
use Rattle.qs_lex.specs.declared.token.Token.{Token}
use Rattle.qs_lex.specs.declared.token.Kind.{Kind}
use Rattle.qs_lex.specs.declared.token.Kind.TheVariants.{Bare, Quoted, Variable, Node, Word as a_word, Opening, Closing, Comma, Plus, Slash, Equals, Stop}
use Rattle.qs_lex.specs.declared.refusal.Cause.{Cause}
use Rattle.qs_lex.proofs.Scanned.{scan_is, scan_finds}

-- a token has a byte
some_spelled : (k : Kind) (bytes : List ℕ) → Spells k bytes → 0 < length bytes
some_spelled Bare bytes s = s.0
some_spelled Quoted bytes s = let e = ap length s.2 in omega arith
some_spelled (Variable l n) bytes s = let e = ap length s.2 in omega arith
some_spelled (Node n) bytes s = let e = ap length s.2 in omega arith
some_spelled (a_word w) bytes s = let e = ap length s in omega arith
some_spelled Opening bytes s = let e = ap length s in omega arith
some_spelled Closing bytes s = let e = ap length s in omega arith
some_spelled Comma bytes s = let e = ap length s in omega arith
some_spelled Plus bytes s = let e = ap length s in omega arith
some_spelled Slash bytes s = let e = ap length s in omega arith
some_spelled Equals bytes s = let e = ap length s in omega arith
some_spelled Stop bytes s = let e = ap length s in omega arith

-- what `scan` finds stands there
pub stands : (text : List ℕ) (t : Token) (n : ℕ) → t.from ≤ length text → scan (version_of text) (drop t.from text) ≡ Ok (t.kind, n) → t.to ≡ t.from + n → StandsIn text t
stands text t n within e to_is =
    let front = scan_is (version_of text) (drop t.from text) t.kind n e in
    let size : t.to - t.from ≡ length front.spelling = omega (arith, front.length_is) in
    let part : slice_range text t.from t.to ≡ front.spelling = ap (take (t.to - t.from)) front.whole ∙ take_at front.spelling front.rest (t.to - t.from) (sym size) in
    let behind : drop t.to text ≡ front.rest =
    ap (λ k. drop k text) to_is ∙ sym (drop-drop n t.from text) ∙ ap (drop n) front.whole ∙ drop_at front.spelling front.rest n (sym front.length_is) in
    let P : List ℕ → Type 0 = Spells t.kind in
    let Q : List ℕ → Type 0 = EndsBefore t.kind in
    record {
      known = front.known;
      within = omega (arith, ap length front.whole, length-append front.spelling front.rest, length-drop t.from text, front.length_is);
      spelled = subst P (sym part) front.spelled;
      ended = subst Q (sym behind) front.ended;
    }

-- a token that stands there is found, and has a byte
pub has_byte : {text : List ℕ} {t : Token} → StandsIn text t → t.from < t.to
has_byte {text} {t} s =
    let some = some_spelled t.kind (slice_range text t.from t.to) s.spelled in
    omega (arith, length-take (t.to - t.from) (drop t.from text))

pub found_there : {text : List ℕ} {t : Token} → StandsIn text t → scan (version_of text) (drop t.from text) ≡ Ok (t.kind, t.to - t.from)
found_there {text} {t} s =
    let some = has_byte s in
    let size : length (slice_range text t.from t.to) ≡ t.to - t.from = omega (arith, length-take (t.to - t.from) (drop t.from text), length-drop t.from text, s.within) in
    let behind : drop (t.to - t.from) (drop t.from text) ≡ drop t.to text = drop-drop (t.to - t.from) t.from text ∙ ap (λ k. drop k text) (omega arith) in
    ap (scan (version_of text)) (sym (take-append-drop (t.to - t.from) (drop t.from text)) ∙ ap (λ xs. slice_range text t.from t.to ++ xs) behind)
    ∙ scan_finds (version_of text) t.kind (slice_range text t.from t.to) (drop t.to text) s.known s.spelled s.ended
    ∙ ap (λ k. Ok (t.kind, k)) size

-- one token at most stands at a place
pub one_token : {text : List ℕ} {t u : Token} → t.from ≡ u.from → StandsIn text t → StandsIn text u → t ≡ u
one_token {text} {t} {u} e s r =
    let same : ◌≡◌ {A = Found} (Ok (t.kind, t.to - t.from)) (Ok (u.kind, u.to - u.from)) = sym (found_there s) ∙ ap (λ k. scan (version_of text) (drop k text)) e ∙ found_there r in
    let pair : ◌≡◌ {A = Kind × ℕ} (t.kind, t.to - t.from) (u.kind, u.to - u.from) = cc in
    let kinds : t.kind ≡ u.kind = ap (λ x. x.0) pair in
    let sizes : t.to - t.from ≡ u.to - u.from = ap (λ x. x.1) pair in
    let ends : t.to ≡ u.to = omega (arith, has_byte s, has_byte r) in
    λ i. record { kind = kinds i; from = e i; to = ends i }

-- where `scan` finds none, none stands
pub none_there : (text : List ℕ) (place : ℕ) (c : Cause) → place < length text → scan (version_of text) (drop place text) ≡ Err c → IsFaulty text place
none_there text place c within e = record {
  within = within;
  no_token = λ t from s. let no : ◌≡◌ {A = Found} (Err c) (Ok (t.kind, t.to - t.from)) = sym e ∙ ap (λ k. scan (version_of text) (drop k text)) (sym from) ∙ found_there s in cc;
}

-- one more token
pub reads_more : (text : List ℕ) (at : ℕ) (ts : List Token) (next : ℕ) (t : Token) → Reads text at ts next → t.from ≡ next → StandsIn text t → Reads text at (ts ++ t ∷ []) (next_place text t.to)
reads_more text at [] next t reads from s = (from ∙ reads, s, refl)
reads_more text at (u ∷ us) next t reads from s = (reads.0, reads.1, reads_more text u.to us next t reads.2 from s)
