-- What begins a form does so with each front of its tokens: begun forms have no gaps.
use Rattle.std.proofs.Common.{◌≡◌, refl, sym, subst, ⊎_elim, inl, inr, List, [], ◌∷◌, ◌++◌}
use Rattle.std.specs.Prelude.{◌⊎◌}
use Rattle.qs_lex.specs.declared.token.Token.{Token}
use Rattle.qs_lex.specs.Grammar.{Form, one, Grammar, IsWhole, whole_token, whole_part, whole_sequence, whole_this, whole_other, left_out, not_left_out, no_more, one_more, Begins, nothing_yet, begins_token, begins_part, begins_first, begins_behind, begins_this, begins_other, begins_optional, begins_next, begins_later}

no_tokens : (front more : List Token) → [] ≡ front ++ more → front ≡ []
no_tokens [] more e = refl
no_tokens (t ∷ front) more e = absurd cc

-- where the tokens before the rest are the form whole: a front of them begins the form, or is longer, and the form is whole at
-- its begin
abbrev BeginsOrPasses : {Part : Type 0} → Grammar Part → Form Part → List Token → List Token → List Token → Type 0
BeginsOrPasses line f front more rest = Begins line f front ⊎ ((middle : List Token) × IsWhole line f front middle × (rest ≡ middle ++ more))

fronts : {Part : Type 0} {line : Grammar Part} {ts rest : List Token} {f : Form Part} (front more : List Token) → IsWhole line f ts rest → ts ≡ front ++ more → BeginsOrPasses line f front more rest
fronts [] more w e = inl nothing_yet
fronts {line} (u ∷ front) more (whole_token {sort} {t} {rest} s) e =
    let same : u ≡ t = cc in
    let behind : rest ≡ front ++ more = cc in
    inr (front, subst (λ v. IsWhole line (one sort) (v ∷ front) front) (sym same) (whole_token s), behind)
fronts front more (whole_part w) e =
    ⊎_elim (λ b. inl (begins_part b)) (λ m. inr (m.0, whole_part m.1, m.2)) (fronts front more w e)
fronts front more (whole_sequence w v) e =
    ⊎_elim (λ b. inl (begins_first b))
    (λ m. ⊎_elim (λ b. inl (begins_behind m.1 b)) (λ n. inr (n.0, whole_sequence m.1 n.1, n.2)) (fronts m.0 more v m.2))
    (fronts front more w e)
fronts front more (whole_this w) e =
    ⊎_elim (λ b. inl (begins_this b)) (λ m. inr (m.0, whole_this m.1, m.2)) (fronts front more w e)
fronts front more (whole_other w) e =
    ⊎_elim (λ b. inl (begins_other b)) (λ m. inr (m.0, whole_other m.1, m.2)) (fronts front more w e)
fronts front more left_out e = inr (front, left_out, e)
fronts front more (not_left_out w) e =
    ⊎_elim (λ b. inl (begins_optional b)) (λ m. inr (m.0, not_left_out m.1, m.2)) (fronts front more w e)
fronts front more no_more e = inr (front, no_more, e)
fronts front more (one_more w v) e =
    ⊎_elim (λ b. inl (begins_next b))
    (λ m. ⊎_elim (λ b. inl (begins_later m.1 b)) (λ n. inr (n.0, one_more m.1 n.1, n.2)) (fronts m.0 more v m.2))
    (fronts front more w e)

pub front_begins : {Part : Type 0} {line : Grammar Part} {f : Form Part} {ts : List Token} (front more : List Token) → Begins line f ts → ts ≡ front ++ more → Begins line f front
front_begins {line} {f} front more nothing_yet e = subst (λ us. Begins line f us) (sym (no_tokens front more e)) nothing_yet
front_begins [] more (begins_token s) e = nothing_yet
front_begins {line} (u ∷ front) more (begins_token {sort} {t} s) e =
    let same : u ≡ t = cc in
    let behind : [] ≡ front ++ more = cc in
    subst (λ us. Begins line (one sort) (u ∷ us)) (sym (no_tokens front more behind)) (subst (λ v. Begins line (one sort) (v ∷ [])) (sym same) (begins_token s))
front_begins front more (begins_part b) e = begins_part (front_begins front more b e)
front_begins front more (begins_first b) e = begins_first (front_begins front more b e)
front_begins front more (begins_behind w b) e =
    ⊎_elim (λ c. begins_first c) (λ m. begins_behind m.1 (front_begins m.0 more b m.2)) (fronts front more w e)
front_begins front more (begins_this b) e = begins_this (front_begins front more b e)
front_begins front more (begins_other b) e = begins_other (front_begins front more b e)
front_begins front more (begins_optional b) e = begins_optional (front_begins front more b e)
front_begins front more (begins_next b) e = begins_next (front_begins front more b e)
front_begins front more (begins_later w b) e =
    ⊎_elim (λ c. begins_next c) (λ m. begins_later m.1 (front_begins m.0 more b m.2)) (fronts front more w e)
