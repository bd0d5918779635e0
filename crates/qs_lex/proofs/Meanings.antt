-- What is whole by a grammar is read, where each of its lines is: by the lines alone, whatever the grammar.
use Rattle.std.proofs.Common.{◌≡◌, refl, inl, inr, List, ◌∷◌}
use Rattle.std.specs.Prelude.{◌⊎◌}
use Rattle.std.specs.List.{All}
use Rattle.std.proofs.lemmas.List.Elements.{All-head, All-tail}
use Rattle.qs_lex.specs.declared.token.Token.{Token}
use Rattle.qs_lex.specs.Grammar.{Sort, IsOf, Form, one, part, ◌·◌, ◌∣◌, optional, repeated, Grammar, IsWhole, whole_token, whole_part, whole_sequence, whole_this, whole_other, left_out, not_left_out, no_more, one_more}

-- one token of a sort, of which P holds
pub data IsOne (P : Token → Type 0) (s : Sort) : List Token → List Token → Type 0 where
  is_one : {t : Token} {rest : List Token} → IsOf s t → P t → IsOne P s (t ∷ rest) rest

-- any number of these, one behind the other
pub data AreMany (R : List Token → List Token → Type 0) : List Token → List Token → Type 0 where
  none_left : {ts : List Token} → AreMany R ts ts
  one_behind : {ts middle rest : List Token} → R ts middle → AreMany R middle rest → AreMany R ts rest

-- what a form means, by what its parts mean
abbrev pub Means : {Part : Type 0} → (Token → Type 0) → (Part → List Token → List Token → Type 0) → Form Part → List Token → List Token → Type 0
Means P Meant (one s) ts rest = IsOne P s ts rest
Means P Meant (part p) ts rest = Meant p ts rest
Means P Meant (f · g) ts rest = (middle : List Token) × Means P Meant f ts middle × Means P Meant g middle rest
Means P Meant (f ∣ g) ts rest = Means P Meant f ts rest ⊎ Means P Meant g ts rest
Means P Meant (optional f) ts rest = (ts ≡ rest) ⊎ Means P Meant f ts rest
Means P Meant (repeated f) ts rest = AreMany (Means P Meant f) ts rest

pub rest_all : {Part : Type 0} {line : Grammar Part} (P : Token → Type 0) {f : Form Part} {ts rest : List Token} → IsWhole line f ts rest → All P ts → All P rest
rest_all P (whole_token {t} {rest} e) all = All-tail P t rest all
rest_all P (whole_part w) all = rest_all P w all
rest_all P (whole_sequence w v) all = rest_all P v (rest_all P w all)
rest_all P (whole_this w) all = rest_all P w all
rest_all P (whole_other w) all = rest_all P w all
rest_all P left_out all = all
rest_all P (not_left_out w) all = rest_all P w all
rest_all P no_more all = all
rest_all P (one_more w v) all = rest_all P v (rest_all P w all)

module _ {Part : Type 0} (line : Grammar Part) (P : Token → Type 0) (Meant : Part → List Token → List Token → Type 0)
    (lines : (p : Part) (ts rest : List Token) → All P ts → IsWhole line (part p) ts rest → Means P Meant (line p) ts rest → Meant p ts rest) where
  pub whole_means : {f : Form Part} {ts rest : List Token} → All P ts → IsWhole line f ts rest → Means P Meant f ts rest
  whole_means all (whole_token {t} {rest} e) = is_one e (All-head P t rest all)
  whole_means all (whole_part {name} {ts} {rest} w) = lines name ts rest all (whole_part w) (whole_means all w)
  whole_means all (whole_sequence {middle} w v) = (middle, whole_means all w, whole_means (rest_all P w all) v)
  whole_means all (whole_this w) = inl (whole_means all w)
  whole_means all (whole_other w) = inr (whole_means all w)
  whole_means all left_out = inl refl
  whole_means all (not_left_out w) = inr (whole_means all w)
  whole_means all no_more = none_left
  whole_means all (one_more w v) = one_behind (whole_means all w) (whole_means (rest_all P w all) v)
