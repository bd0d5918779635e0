-- A grammar that takes in the lines of another under other names reads by them what the other does.
use Rattle.std.proofs.Common.{◌≡◌, refl, sym, ◌∙◌, ap, subst, List, [], ◌∷◌}
use Rattle.qs_lex.specs.declared.token.Token.{Token}
use Rattle.qs_lex.specs.Grammar.{Sort, Form, one, part, ◌·◌, ◌∣◌, optional, repeated, renamed, Grammar, IsWhole, whole_token, whole_part, whole_sequence, whole_this, whole_other, left_out, not_left_out, no_more, one_more, Begins, nothing_yet, begins_token, begins_part, begins_first, begins_behind, begins_this, begins_other, begins_optional, begins_next, begins_later}

module _ {A B : Type 0} (inner : Grammar A) (outer : Grammar B) (name : A → B) (is : (p : A) → outer (name p) ≡ renamed name (inner p)) where
  pub whole_in : {f : Form A} {ts rest : List Token} → IsWhole inner f ts rest → IsWhole outer (renamed name f) ts rest
  whole_in (whole_token e) = whole_token e
  whole_in (whole_part {name = p} {ts} {rest} w) = whole_part (subst (λ g. IsWhole outer g ts rest) (sym (is p)) (whole_in w))
  whole_in (whole_sequence w v) = whole_sequence (whole_in w) (whole_in v)
  whole_in (whole_this w) = whole_this (whole_in w)
  whole_in (whole_other w) = whole_other (whole_in w)
  whole_in left_out = left_out
  whole_in (not_left_out w) = not_left_out (whole_in w)
  whole_in no_more = no_more
  whole_in (one_more w v) = one_more (whole_in w) (whole_in v)

  pub begins_in : {f : Form A} {ts : List Token} → Begins inner f ts → Begins outer (renamed name f) ts
  begins_in nothing_yet = nothing_yet
  begins_in (begins_token e) = begins_token e
  begins_in (begins_part {name = p} {ts} b) = begins_part (subst (λ g. Begins outer g ts) (sym (is p)) (begins_in b))
  begins_in (begins_first b) = begins_first (begins_in b)
  begins_in (begins_behind w b) = begins_behind (whole_in w) (begins_in b)
  begins_in (begins_this b) = begins_this (begins_in b)
  begins_in (begins_other b) = begins_other (begins_in b)
  begins_in (begins_optional b) = begins_optional (begins_in b)
  begins_in (begins_next b) = begins_next (begins_in b)
  begins_in (begins_later w b) = begins_later (whole_in w) (begins_in b)

  -- the shape of a form is that of the renamed one
  one_of : (s : Sort) (f : Form A) → one s ≡ renamed name f → f ≡ one s
  one_of s (one r) e = ap one cc
  one_of s (part p) e = absurd cc
  one_of s (h · k) e = absurd cc
  one_of s (h ∣ k) e = absurd cc
  one_of s (optional h) e = absurd cc
  one_of s (repeated h) e = absurd cc

  part_of : (q : B) (f : Form A) → part q ≡ renamed name f → (p : A) × (f ≡ part p) × (q ≡ name p)
  part_of q (one r) e = absurd cc
  part_of q (part p) e = (p, refl, cc)
  part_of q (h · k) e = absurd cc
  part_of q (h ∣ k) e = absurd cc
  part_of q (optional h) e = absurd cc
  part_of q (repeated h) e = absurd cc

  sequence_of : (a b : Form B) (f : Form A) → (a · b) ≡ renamed name f → (h : Form A) × (k : Form A) × (f ≡ (h · k)) × (a ≡ renamed name h) × (b ≡ renamed name k)
  sequence_of a b (one r) e = absurd cc
  sequence_of a b (part p) e = absurd cc
  sequence_of a b (h · k) e = (h, k, refl, cc, cc)
  sequence_of a b (h ∣ k) e = absurd cc
  sequence_of a b (optional h) e = absurd cc
  sequence_of a b (repeated h) e = absurd cc

  choice_of : (a b : Form B) (f : Form A) → (a ∣ b) ≡ renamed name f → (h : Form A) × (k : Form A) × (f ≡ (h ∣ k)) × (a ≡ renamed name h) × (b ≡ renamed name k)
  choice_of a b (one r) e = absurd cc
  choice_of a b (part p) e = absurd cc
  choice_of a b (h · k) e = absurd cc
  choice_of a b (h ∣ k) e = (h, k, refl, cc, cc)
  choice_of a b (optional h) e = absurd cc
  choice_of a b (repeated h) e = absurd cc

  optional_of : (a : Form B) (f : Form A) → optional a ≡ renamed name f → (h : Form A) × (f ≡ optional h) × (a ≡ renamed name h)
  optional_of a (one r) e = absurd cc
  optional_of a (part p) e = absurd cc
  optional_of a (h · k) e = absurd cc
  optional_of a (h ∣ k) e = absurd cc
  optional_of a (optional h) e = (h, refl, cc)
  optional_of a (repeated h) e = absurd cc

  repeated_of : (a : Form B) (f : Form A) → repeated a ≡ renamed name f → (h : Form A) × (f ≡ repeated h) × (a ≡ renamed name h)
  repeated_of a (one r) e = absurd cc
  repeated_of a (part p) e = absurd cc
  repeated_of a (h · k) e = absurd cc
  repeated_of a (h ∣ k) e = absurd cc
  repeated_of a (optional h) e = absurd cc
  repeated_of a (repeated h) e = (h, refl, cc)

  whole_back_of : {g : Form B} {ts rest : List Token} (f : Form A) → g ≡ renamed name f → IsWhole outer g ts rest → IsWhole inner f ts rest
  whole_back_of f e (whole_token {sort} {t} {rest} k) = subst (λ h. IsWhole inner h (t ∷ rest) rest) (sym (one_of sort f e)) (whole_token k)
  whole_back_of f e (whole_part {name = q} {ts} {rest} w) =
      let s = part_of q f e in
      subst (λ h. IsWhole inner h ts rest) (sym s.1) (whole_part (whole_back_of (inner s.0) (ap outer s.2 ∙ is s.0) w))
  whole_back_of f e (whole_sequence {first = a} {behind = b} {ts} {rest} w v) =
      let s = sequence_of a b f e in
      subst (λ h. IsWhole inner h ts rest) (sym s.2) (whole_sequence (whole_back_of s.0 s.3 w) (whole_back_of s.1 s.4 v))
  whole_back_of f e (whole_this {this = a} {other = b} {ts} {rest} w) =
      let s = choice_of a b f e in subst (λ h. IsWhole inner h ts rest) (sym s.2) (whole_this (whole_back_of s.0 s.3 w))
  whole_back_of f e (whole_other {this = a} {other = b} {ts} {rest} w) =
      let s = choice_of a b f e in subst (λ h. IsWhole inner h ts rest) (sym s.2) (whole_other (whole_back_of s.1 s.4 w))
  whole_back_of f e (left_out {member = a} {ts}) = let s = optional_of a f e in subst (λ h. IsWhole inner h ts ts) (sym s.1) left_out
  whole_back_of f e (not_left_out {member = a} {ts} {rest} w) =
      let s = optional_of a f e in subst (λ h. IsWhole inner h ts rest) (sym s.1) (not_left_out (whole_back_of s.0 s.2 w))
  whole_back_of f e (no_more {member = a} {ts}) = let s = repeated_of a f e in subst (λ h. IsWhole inner h ts ts) (sym s.1) no_more
  whole_back_of f e (one_more {member = a} {ts} {rest} w v) =
      let s = repeated_of a f e in
      subst (λ h. IsWhole inner h ts rest) (sym s.1) (one_more (whole_back_of s.0 s.2 w) (whole_back_of (repeated s.0) (ap repeated s.2) v))

  pub whole_back : (f : Form A) {ts rest : List Token} → IsWhole outer (renamed name f) ts rest → IsWhole inner f ts rest
  whole_back f w = whole_back_of f refl w

  begins_back_of : {g : Form B} {ts : List Token} (f : Form A) → g ≡ renamed name f → Begins outer g ts → Begins inner f ts
  begins_back_of f e nothing_yet = nothing_yet
  begins_back_of f e (begins_token {sort} {t} k) = subst (λ h. Begins inner h (t ∷ [])) (sym (one_of sort f e)) (begins_token k)
  begins_back_of f e (begins_part {name = q} {ts} b) =
      let s = part_of q f e in subst (λ h. Begins inner h ts) (sym s.1) (begins_part (begins_back_of (inner s.0) (ap outer s.2 ∙ is s.0) b))
  begins_back_of f e (begins_first {first = a} {behind = c} {ts} b) =
      let s = sequence_of a c f e in subst (λ h. Begins inner h ts) (sym s.2) (begins_first (begins_back_of s.0 s.3 b))
  begins_back_of f e (begins_behind {first = a} {behind = c} {ts} w b) =
      let s = sequence_of a c f e in subst (λ h. Begins inner h ts) (sym s.2) (begins_behind (whole_back_of s.0 s.3 w) (begins_back_of s.1 s.4 b))
  begins_back_of f e (begins_this {this = a} {other = c} {ts} b) =
      let s = choice_of a c f e in subst (λ h. Begins inner h ts) (sym s.2) (begins_this (begins_back_of s.0 s.3 b))
  begins_back_of f e (begins_other {this = a} {other = c} {ts} b) =
      let s = choice_of a c f e in subst (λ h. Begins inner h ts) (sym s.2) (begins_other (begins_back_of s.1 s.4 b))
  begins_back_of f e (begins_optional {member = a} {ts} b) =
      let s = optional_of a f e in subst (λ h. Begins inner h ts) (sym s.1) (begins_optional (begins_back_of s.0 s.2 b))
  begins_back_of f e (begins_next {member = a} {ts} b) =
      let s = repeated_of a f e in subst (λ h. Begins inner h ts) (sym s.1) (begins_next (begins_back_of s.0 s.2 b))
  begins_back_of f e (begins_later {member = a} {ts} w b) =
      let s = repeated_of a f e in
      subst (λ h. Begins inner h ts) (sym s.1) (begins_later (whole_back_of s.0 s.2 w) (begins_back_of (repeated s.0) (ap repeated s.2) b))

  pub begins_back : (f : Form A) {ts : List Token} → Begins outer (renamed name f) ts → Begins inner f ts
  begins_back f b = begins_back_of f refl b
