-- The place at which a form can't go on.
use Rattle.std.proofs.Common.{◌≡◌, ℕ, ◌+◌, ◌-◌, ◌≤◌, refl, sym, ◌∙◌, ap, subst, ⊎_elim, inl, List, [], ◌∷◌, ◌++◌, length, take, Some, length-append, arith}
use Rattle.std.specs.Prelude.{slice_get}
use Rattle.std.proofs.Math.Seq.{take-append_seam}
use Rattle.qs_lex.specs.declared.token.Token.{Token}
use Rattle.qs_lex.specs.Grammar.{Form, Begins}
use Rattle.qs_lex.specs.working.Expecting.{BeginAll, NotWithNext, Stops}
use Rattle.qs_lex.proofs.Expected.{whole_begins}
use Rattle.qs_graphtext.specs.WrittenChains.{WrittenChain}
use Rattle.qs_graphtext.specs.Reading.{ReadsGraph, reads_graph}
use Rattle.qs_deck.specs.Grammar.{Part, line}
use Rattle.qs_deck.specs.working.Syntax.{StopsBehind}

-- a graph begins with a token
pub first_of : {names : List (List ℕ)} {text : List ℕ} {ts rest : List Token} {chains : List WrittenChain} → ReadsGraph names text ts chains rest
    → (t : Token) × (us : List Token) × (ts ≡ t ∷ us)
first_of (reads_graph {t} {ts} g r f) = (t, ts, refl)

-- where a form can't go on
begin_one : (form : Form Part) (ts : List Token) → BeginAll line (form ∷ []) ts → Begins line form ts
begin_one form ts h = ⊎_elim (λ b. b) (λ m. whole_begins m.1 m.2) h

further : (form : Form Part) (passed rest : List Token) (t : Token) → NotWithNext line (form ∷ []) passed rest → slice_get rest 0 ≡ Some t → Begins line form (passed ++ t ∷ []) → ⊥
further form passed [] t n e b = absurd cc
further form passed (u ∷ rest) t n e b = let same : u ≡ t = cc in n (inl (subst (λ v. Begins line form (passed ++ v ∷ [])) (sym same) b))

get_behind : (passed rest : List Token) → slice_get (passed ++ rest) (length passed) ≡ slice_get rest 0
get_behind [] rest = refl
get_behind (t ∷ passed) rest = get_behind passed rest

none_left : (ts : List Token) → length ts ≡ 0 → ts ≡ []
none_left [] e = refl
none_left (t ∷ ts) e = absurd (omega (arith, e))

pub cannot_go_on : (form : Form Part) (ts : List Token) (at : ℕ) → at ≤ length ts → Stops line (form ∷ []) ts (length ts - at) → StopsBehind form ts at
cannot_go_on form ts at within h =
    let long : length ts ≡ length h.passed + length h.rest = ap length h.are ∙ length-append h.passed h.rest in
    let place : at ≡ length h.passed = omega (arith, long, h.left_is, within) in
    let front : take at ts ≡ h.passed = ap (λ us. take at us) h.are ∙ ap (λ k. take k (h.passed ++ h.rest)) place ∙ take-append_seam h.passed h.rest in
    let next : slice_get ts at ≡ slice_get h.rest 0 = ap (λ us. slice_get us at) h.are ∙ ap (λ k. slice_get (h.passed ++ h.rest) k) place ∙ get_behind h.passed h.rest in
    record {
      within = within;
      begins = subst (λ us. Begins line form us) (sym front) (begin_one form h.passed h.begin);
      no_further = λ t e b. further form h.passed h.rest t h.not_further (sym next ∙ e) (subst (λ us. Begins line form (us ++ t ∷ [])) front b);
      not_whole = λ e w. h.unfinished (none_left h.rest (omega (arith, h.left_is, e))) ([], w, refl);
    }
