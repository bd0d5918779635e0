-- The line of the version in front of a form, and where it can't go on.
use Rattle.std.proofs.Common.{◌≡◌, ◌⊎◌, ℕ, suc, ◌≤◌, Bool, true, false, cond, eqb, bytes_eq, refl, sym, ◌∙◌, ap, subst, inl, inr, ⊎_elim, arith, List, [], ◌∷◌, ◌++◌, length, take, drop, Some, slice_get, codes}
use Rattle.std.specs.List.{starts_with}
use Rattle.std.proofs.lemmas.Bool.{false≢true}
use Rattle.std.proofs.lemmas.Slice.Eq.{bytes_eq-Decides}
use Rattle.qs_lex.specs.declared.token.Token.{Token}
use Rattle.qs_lex.specs.declared.token.Word.TheVariants.{Version}
use Rattle.qs_lex.specs.declared.token.Kind.{Kind}
use Rattle.qs_lex.specs.declared.token.Kind.TheVariants.{Bare, Quoted, Variable, Node, Word as a_word, Opening, Closing, Comma, Plus, Slash, Equals, Stop}
use Rattle.qs_lex.specs.Spelling.{name_of, between_dashes}
use Rattle.qs_lex.specs.Tokens.{blank_len, bytes_of, version_of}
use Rattle.qs_lex.specs.Grammar.{Sort, sort_of, the_word, stop, Form, IsOf, IsWhole, Begins}
use Rattle.qs_lex.specs.Expecting.{same_sort}
use Rattle.qs_lex.proofs.Expected.{same_itself, whole_begins}
use Rattle.qs_lex.proofs.Sorts.{same_is}
use Rattle.qs_lex.proofs.Fronts.{front_begins}
use Rattle.qs_deck.specs.Grammar.{Part, line}
use Rattle.qs_deck.specs.Versions.{IsTwo, IsVersionLine, no_line, the_line, BeginsVersionLine, no_token, word_alone, without_stop, IsWholeText, BeginsText, in_the_line, behind_the_line}
use Rattle.qs_deck.specs.Syntax.{StopsText}
use Rattle.qs_deck.specs.working.Syntax.{StopsBehind}

-- ---- version 1: nothing stands in front

module _ (form : Form Part) (text : List ℕ) (first : version_of text ≡ 1) where
  without_line : (ts front body : List Token) → IsVersionLine text 1 front → ts ≡ front ++ body → ts ≡ body
  without_line ts [] body no_line e = e
  without_line ts (t ∷ front) body x e = elim x [ ]

  begins_alone : {ts : List Token} → BeginsText form text ts → Begins line form ts
  begins_alone (in_the_line second b) = absurd (omega (arith, first, second))
  begins_alone {ts} (behind_the_line {front} {body} e in_front b) =
      subst (Begins line form) (sym (without_line ts front body (subst (λ v. IsVersionLine text v front) first in_front) e)) b

  whole_alone : {ts : List Token} → IsWholeText form text ts → IsWhole line form ts []
  whole_alone {ts} w =
      subst (λ us. IsWhole line form us []) (sym (without_line ts w.front w.body (subst (λ v. IsVersionLine text v w.front) first w.in_front) w.are)) w.whole

  no_line_here : IsVersionLine text (version_of text) []
  no_line_here = subst (λ v. IsVersionLine text v []) (sym first) no_line

  pub whole_first : {ts : List Token} → IsWhole line form ts [] → IsWholeText form text ts
  whole_first {ts} w = record { front = []; body = ts; are = refl; in_front = no_line_here; whole = w }

  pub stops_first : (ts : List Token) (at : ℕ) → StopsBehind form ts at → StopsText form text ts at
  stops_first ts at stops = record {
    within = stops.within;
    begins = behind_the_line {front = []} refl no_line_here stops.begins;
    no_further = λ t there b. stops.no_further t there (begins_alone b);
    not_whole = λ end w. stops.not_whole end (whole_alone w);
  }

-- ---- version 2: the word -VERSION-, the label 2 and a stop stand in front

word_of_line : (text : List ℕ) (word : Token) (ts : List Token) → BeginsVersionLine text (word ∷ ts) → IsOf (the_word Version) word
word_of_line text word [] (word_alone w) = w
word_of_line text word (number ∷ []) (without_stop w n) = w
word_of_line text word (number ∷ dot ∷ ts) x = elim x [ ]

number_of_line : (text : List ℕ) (word number : Token) (ts : List Token) → BeginsVersionLine text (word ∷ number ∷ ts) → IsTwo text number
number_of_line text word number [] (without_stop w n) = n
number_of_line text word number (dot ∷ ts) x = elim x [ ]

module _ (form : Form Part) (text : List ℕ) (second : version_of text ≡ 2) where
  -- tokens behind which the form begins are the line and what begins behind it
  record IsBehind (ts : List Token) : Type 0 where
    word : Token
    number : Token
    dot : Token
    body : List Token
    are : ts ≡ word ∷ number ∷ dot ∷ body
    of_word : IsOf (the_word Version) word
    of_number : IsTwo text number
    of_dot : IsOf stop dot

  behind : (ts front body : List Token) → IsVersionLine text 2 front → ts ≡ front ++ body → (b : IsBehind ts) × (b.body ≡ body)
  behind ts front body (the_line {word} {number} {dot} w n d) e = (record { word = word; number = number; dot = dot; body = body; are = e; of_word = w; of_number = n; of_dot = d }, refl)

  -- it begins in the line or behind it
  begins_in_two : {ts : List Token} → BeginsText form text ts → BeginsVersionLine text ts ⊎ ((b : IsBehind ts) × Begins line form b.body)
  begins_in_two (in_the_line two b) = inl b
  begins_in_two {ts} (behind_the_line {front} {body} e in_front b) =
      let x = behind ts front body (subst (λ v. IsVersionLine text v front) second in_front) e in
      inr (x.0, subst (Begins line form) (sym x.1) b)

  whole_in_two : {ts : List Token} → IsWholeText form text ts → (b : IsBehind ts) × IsWhole line form b.body []
  whole_in_two {ts} w =
      let x = behind ts w.front w.body (subst (λ v. IsVersionLine text v w.front) second w.in_front) w.are in
      (x.0, subst (λ us. IsWhole line form us []) (sym x.1) w.whole)

  -- the first token begins the line
  first_is : {word : Token} {ts : List Token} → BeginsText form text (word ∷ ts) → IsOf (the_word Version) word
  first_is {word} {ts} b = by (begins_in_two b)
    where
      by : BeginsVersionLine text (word ∷ ts) ⊎ ((x : IsBehind (word ∷ ts)) × Begins line form x.body) → IsOf (the_word Version) word
      by (inl x) = word_of_line text word ts x
      by (inr x) = let same : word ≡ x.0.word = (let e = x.0.are in cc) in subst (IsOf (the_word Version)) (sym same) x.0.of_word

  second_is : {word number : Token} {ts : List Token} → BeginsText form text (word ∷ number ∷ ts) → IsTwo text number
  second_is {word} {number} {ts} b = by (begins_in_two b)
    where
      by : BeginsVersionLine text (word ∷ number ∷ ts) ⊎ ((x : IsBehind (word ∷ number ∷ ts)) × Begins line form x.body) → IsTwo text number
      by (inl x) = number_of_line text word number ts x
      by (inr x) = let same : number ≡ x.0.number = (let e = x.0.are in cc) in subst (IsTwo text) (sym same) x.0.of_number

  third_is : {word number dot : Token} {ts : List Token} → BeginsText form text (word ∷ number ∷ dot ∷ ts) → IsOf stop dot × Begins line form ts
  third_is {word} {number} {dot} {ts} b = by (begins_in_two b)
    where
      by : BeginsVersionLine text (word ∷ number ∷ dot ∷ ts) ⊎ ((x : IsBehind (word ∷ number ∷ dot ∷ ts)) × Begins line form x.body) → IsOf stop dot × Begins line form ts
      by (inl x) = elim x [ ]
      by (inr x) =
          let same : dot ≡ x.0.dot = (let e = x.0.are in cc) in
          let rest : ts ≡ x.0.body = (let e = x.0.are in cc) in
          (subst (IsOf stop) (sym same) x.0.of_dot, subst (Begins line form) (sym rest) x.1)

  -- it has at least the line
  long : {ts : List Token} → IsWholeText form text ts → 3 ≤ length ts
  long w = let x = whole_in_two w in omega (arith, ap length x.0.are)

  -- it can't go on where its first token, its second or its third isn't the line's
  pub stops_at_word : (ts : List Token) → ((t : Token) → slice_get ts 0 ≡ Some t → IsOf (the_word Version) t → ⊥) → StopsText form text ts 0
  stops_at_word ts none = record {
    within = omega arith;
    begins = in_the_line second no_token;
    no_further = λ t there b. none t there (first_is b);
    not_whole = λ end w. omega (arith, long w);
  }

  pub stops_at_number : (word : Token) (ts : List Token) → IsOf (the_word Version) word → ((t : Token) → slice_get ts 0 ≡ Some t → IsTwo text t → ⊥) → StopsText form text (word ∷ ts) 1
  stops_at_number word ts w none = record {
    within = omega arith;
    begins = in_the_line second (word_alone w);
    no_further = λ t there b. none t there (second_is b);
    not_whole = λ end x. omega (arith, long x, end);
  }

  pub stops_at_dot : (word number : Token) (ts : List Token) → IsOf (the_word Version) word → IsTwo text number → ((t : Token) → slice_get ts 0 ≡ Some t → IsOf stop t → ⊥) → StopsText form text (word ∷ number ∷ ts) 2
  stops_at_dot word number ts w n none = record {
    within = omega arith;
    begins = in_the_line second (without_stop w n);
    no_further = λ t there b. none t there (third_is b).0;
    not_whole = λ end x. omega (arith, long x, end);
  }

  module _ (word number dot : Token) (w : IsOf (the_word Version) word) (n : IsTwo text number) (d : IsOf stop dot) where
    line_here : IsVersionLine text (version_of text) (word ∷ number ∷ dot ∷ [])
    line_here = subst (λ v. IsVersionLine text v (word ∷ number ∷ dot ∷ [])) (sym second) (the_line w n d)

    pub whole_second : {ts : List Token} → IsWhole line form ts [] → IsWholeText form text (word ∷ number ∷ dot ∷ ts)
    whole_second {ts} x = record { front = word ∷ number ∷ dot ∷ []; body = ts; are = refl; in_front = line_here; whole = x }

    pub stops_second : (ts : List Token) (at : ℕ) → StopsBehind form ts at → StopsText form text (word ∷ number ∷ dot ∷ ts) (suc (suc (suc at)))
    stops_second ts at stops = record {
      within = omega (arith, stops.within);
      begins = behind_the_line {front = word ∷ number ∷ dot ∷ []} {body = take at ts} refl line_here stops.begins;
      no_further = λ t there b. stops.no_further t there (third_is b).1;
      not_whole = λ end x. stops.not_whole (omega (arith, end)) (let y = whole_in_two x in let rest : ts ≡ y.0.body = (let e = y.0.are in cc) in subst (λ us. IsWhole line form us []) (sym rest) y.1);
    }

-- ---- either

either_version : (b : Bool) → (◌≡◌ {A = ℕ} (cond b 2 1) 1) ⊎ (◌≡◌ {A = ℕ} (cond b 2 1) 2)
either_version true = inr refl
either_version false = inl refl

pub each_version : (text : List ℕ) → (version_of text ≡ 1) ⊎ (version_of text ≡ 2)
each_version text = either_version (starts_with eqb (drop (blank_len text) text) (between_dashes (name_of Version)))

-- each front of tokens that begin the form begins it
module _ (form : Form Part) (text : List ℕ) where
  of_first : version_of text ≡ 1 → (ts front more : List Token) → BeginsText form text ts → ts ≡ front ++ more → BeginsText form text front
  of_first first ts front more b e = behind_the_line {front = []} refl (no_line_here form text first) (front_begins front more (begins_alone form text first b) e)

  of_second : version_of text ≡ 2 → (ts front more : List Token) → BeginsText form text ts → ts ≡ front ++ more → BeginsText form text front
  of_second second ts [] more b e = in_the_line second no_token
  of_second second ts (word ∷ []) more b e = in_the_line second (word_alone (first_is form text second (subst (BeginsText form text) e b)))
  of_second second ts (word ∷ number ∷ []) more b e =
      let c = subst (BeginsText form text) e b in in_the_line second (without_stop (first_is form text second c) (second_is form text second c))
  of_second second ts (word ∷ number ∷ dot ∷ front) more b e =
      let c = subst (BeginsText form text) e b in
      let x = third_is form text second c in
      behind_the_line {front = word ∷ number ∷ dot ∷ []} refl (line_here form text second word number dot (first_is form text second c) (second_is form text second c) x.0) (front_begins front more x.1 refl)

  pub front_begins_text : (ts front more : List Token) → BeginsText form text ts → ts ≡ front ++ more → BeginsText form text front
  front_begins_text ts front more b e = ⊎_elim (λ first. of_first first ts front more b e) (λ second. of_second second ts front more b e) (each_version text)

-- tokens that are the form begin it
pub whole_text_begins : {form : Form Part} {text : List ℕ} {ts : List Token} → IsWholeText form text ts → BeginsText form text ts
whole_text_begins w = behind_the_line w.are w.in_front (whole_begins w.whole refl)

-- ---- deciding

-- a token is of a sort or isn't
is_of : (s : Sort) (t : Token) → IsOf s t ⊎ (IsOf s t → ⊥)
is_of s t = by (same_sort s (sort_of t.kind)) refl
  where
    by : (b : Bool) → same_sort s (sort_of t.kind) ≡ b → IsOf s t ⊎ (IsOf s t → ⊥)
    by true e = inl (same_is s (sort_of t.kind) e)
    by false e = inr (λ is. false≢true (sym e ∙ same_itself s (sort_of t.kind) is))

-- and the label 2 or isn't
is_bare : (k : Kind) → (k ≡ Bare) ⊎ (k ≡ Bare → ⊥)
is_bare Bare = inl refl
is_bare Quoted = inr (λ e. absurd cc)
is_bare (Variable letter number) = inr (λ e. absurd cc)
is_bare (Node number) = inr (λ e. absurd cc)
is_bare (a_word word) = inr (λ e. absurd cc)
is_bare Opening = inr (λ e. absurd cc)
is_bare Closing = inr (λ e. absurd cc)
is_bare Comma = inr (λ e. absurd cc)
is_bare Plus = inr (λ e. absurd cc)
is_bare Slash = inr (λ e. absurd cc)
is_bare Equals = inr (λ e. absurd cc)
is_bare Stop = inr (λ e. absurd cc)

same_bytes : (xs ys : List ℕ) → (xs ≡ ys) ⊎ (xs ≡ ys → ⊥)
same_bytes xs ys = by (bytes_eq xs ys) refl
  where
    by : (b : Bool) → bytes_eq xs ys ≡ b → (xs ≡ ys) ⊎ (xs ≡ ys → ⊥)
    by true e = inl ((bytes_eq-Decides xs ys).0 e)
    by false e = inr (λ same. false≢true (sym e ∙ (bytes_eq-Decides xs ys).1 same))

is_two : (text : List ℕ) (t : Token) → IsTwo text t ⊎ (IsTwo text t → ⊥)
is_two text t = ⊎_elim (λ bare. by bare (same_bytes (bytes_of text t) (codes "2"))) (λ not. inr (λ two. not two.bare)) (is_bare t.kind)
  where
    by : t.kind ≡ Bare → (bytes_of text t ≡ codes "2") ⊎ (bytes_of text t ≡ codes "2" → ⊥) → IsTwo text t ⊎ (IsTwo text t → ⊥)
    by bare (inl e) = inl (record { bare = bare; two = e })
    by bare (inr n) = inr (λ two. n two.two)

-- the line stands in front, or the tokens can't go on in it
abbrev pub LineOrStop : Form Part → List ℕ → List Token → Type 0
LineOrStop form text ts = ((word : Token) × (number : Token) × (dot : Token) × (body : List Token) × (ts ≡ word ∷ number ∷ dot ∷ body) × IsOf (the_word Version) word × IsTwo text number × IsOf stop dot)
    ⊎ ((at : ℕ) × StopsText form text ts at)

-- the first of these tokens, where there is one, has a property or hasn't
next_of : (P : Token → Type 0) → ((t : Token) → P t ⊎ (P t → ⊥)) → (ts : List Token) → ((t : Token) × (rest : List Token) × (ts ≡ t ∷ rest) × P t) ⊎ ((t : Token) → slice_get ts 0 ≡ Some t → P t → ⊥)
next_of P decide [] = inr (λ t e p. absurd cc)
next_of P decide (t ∷ ts) = ⊎_elim (λ p. inl (t, ts, refl, p)) (λ n. inr (λ u e p. n (let same : u ≡ t = cc in subst P same p))) (decide t)

line_or_stop : (form : Form Part) (text : List ℕ) → version_of text ≡ 2 → (ts : List Token) → LineOrStop form text ts
line_or_stop form text second ts = ⊎_elim with_word (λ none. inr (0, stops_at_word form text second ts none)) (next_of (IsOf (the_word Version)) (is_of (the_word Version)) ts)
  where
    with_dot : (word number : Token) (us : List Token) → ts ≡ word ∷ number ∷ us → IsOf (the_word Version) word → IsTwo text number
        → ((t : Token) × (rest : List Token) × (us ≡ t ∷ rest) × IsOf stop t) ⊎ ((t : Token) → slice_get us 0 ≡ Some t → IsOf stop t → ⊥) → LineOrStop form text ts
    with_dot word number us e w n (inl d) = inl (word, number, d.0, d.1, e ∙ ap (λ vs. word ∷ number ∷ vs) d.2, w, n, d.3)
    with_dot word number us e w n (inr none) = inr (2, subst (λ vs. StopsText form text vs 2) (sym e) (stops_at_dot form text second word number us w n none))

    with_number : (word : Token) (us : List Token) → ts ≡ word ∷ us → IsOf (the_word Version) word
        → ((t : Token) × (rest : List Token) × (us ≡ t ∷ rest) × IsTwo text t) ⊎ ((t : Token) → slice_get us 0 ≡ Some t → IsTwo text t → ⊥) → LineOrStop form text ts
    with_number word us e w (inl n) =
        with_dot word n.0 n.1 (e ∙ ap (λ vs. word ∷ vs) n.2) w n.3 (next_of (IsOf stop) (is_of stop) n.1)
    with_number word us e w (inr none) = inr (1, subst (λ vs. StopsText form text vs 1) (sym e) (stops_at_number form text second word us w none))

    with_word : ((t : Token) × (rest : List Token) × (ts ≡ t ∷ rest) × IsOf (the_word Version) t) → LineOrStop form text ts
    with_word w = with_number w.0 w.1 w.2 w.3 (next_of (IsTwo text) (is_two text) w.1)

-- tokens are the form or can't go on, where this holds of what stands behind the line
pub syntax_decided_by : (form : Form Part) (text : List ℕ) → ((ts : List Token) → IsWhole line form ts [] ⊎ ((at : ℕ) × StopsBehind form ts at)) → (ts : List Token) → IsWholeText form text ts ⊎ ((at : ℕ) × StopsText form text ts at)
syntax_decided_by form text decide ts = ⊎_elim first second (each_version text)
  where
    first : version_of text ≡ 1 → IsWholeText form text ts ⊎ ((at : ℕ) × StopsText form text ts at)
    first one = ⊎_elim (λ w. inl (whole_first form text one w)) (λ s. inr (s.0, stops_first form text one ts s.0 s.1)) (decide ts)

    second : version_of text ≡ 2 → IsWholeText form text ts ⊎ ((at : ℕ) × StopsText form text ts at)
    second two = ⊎_elim
        (λ l. ⊎_elim
        (λ x. inl (subst (IsWholeText form text) (sym l.4) (whole_second form text two l.0 l.1 l.2 l.5 l.6 l.7 x)))
        (λ s. inr (suc (suc (suc s.0)), subst (λ us. StopsText form text us (suc (suc (suc s.0)))) (sym l.4) (stops_second form text two l.0 l.1 l.2 l.5 l.6 l.7 l.3 s.0 s.1)))
        (decide l.3))
        (λ s. inr s)
        (line_or_stop form text two ts)
