-- A form that ends by a token of its own: tokens that begin it, aren't it whole and can't go on don't have it in front.
use Rattle.std.proofs.Common.{◌≡◌, ◌≢◌, Bool, false, refl, sym, ◌∙◌, ap, subst, ⊎_elim, inl, inr, List, [], ◌∷◌, ◌++◌, append-nil}
use Rattle.std.specs.Prelude.{◌⊎◌}
use Rattle.std.proofs.lemmas.Bool.{false≢true}
use Rattle.qs_lex.specs.declared.token.Token.{Token}
use Rattle.qs_lex.specs.Grammar.{Sort, Form, repeated, Grammar, IsWhole, no_more, one_more, Begins}
use Rattle.qs_lex.specs.working.Expecting.{nullable, goes_on, IsPredictive}
use Rattle.qs_lex.proofs.Expected.{whole_front, whole_begins}
use Rattle.qs_lex.proofs.Predictive.{IsPredicted}
use Rattle.qs_lex.proofs.Stopping.{front_of, closed_whole}
use Rattle.qs_lex.proofs.Fronts.{front_begins}

-- of two fronts of a list, with m and n behind them, the first is a front of the second
abbrev Shorter : List Token → List Token → List Token → List Token → Type 0
Shorter a b m n = (d : List Token) × (b ≡ a ++ d) × (m ≡ d ++ n)

cons_shorter : (x y : Token) (a b : List Token) {m n : List Token} → y ≡ x → Shorter a b m n → Shorter (x ∷ a) (y ∷ b) m n
cons_shorter x y a b e s = (s.0, (λ i. e i ∷ s.1 i), s.2)

two_fronts : (a b m n : List Token) → a ++ m ≡ b ++ n → Shorter a b m n ⊎ Shorter b a n m
two_fronts [] b m n e = inl (b, refl, e)
two_fronts (x ∷ a) [] m n e = inr (x ∷ a, refl, sym e)
two_fronts (x ∷ a) (y ∷ b) m n e =
    let head : y ≡ x = cc in
    let tail : a ++ m ≡ b ++ n = cc in
    ⊎_elim (λ s. inl (cons_shorter x y a b head s)) (λ s. inr (cons_shorter y x b a (sym head) s)) (two_fronts a b m n tail)

-- some tokens in front begin the form, aren't it, and with the next token, where there is one, don't begin it
pub record IsStuck {Part : Type 0} (line : Grammar Part) (f : Form Part) (ts : List Token) : Type 0 where
  pub passed : List Token
  pub rest : List Token
  pub are : ts ≡ passed ++ rest
  pub begins : Begins line f passed
  pub not_whole : IsWhole line f passed [] → ⊥
  pub no_further : (t : Token) (us : List Token) → rest ≡ t ∷ us → Begins line f (passed ++ t ∷ []) → ⊥

-- no first token begins the form
abbrev pub NoneBegins : {Part : Type 0} → Grammar Part → Form Part → List Token → Type 0
NoneBegins line f ts = (t : Token) (us : List Token) → ts ≡ t ∷ us → Begins line f (t ∷ []) → ⊥

begins_none : {Part : Type 0} {line : Grammar Part} {f : Form Part} {ts : List Token} (front rest : List Token)
    → front ≢ [] → ts ≡ front ++ rest → Begins line f front → NoneBegins line f ts → ⊥
begins_none [] rest some e b none = some refl
begins_none (t ∷ front) rest some e b none = none t (front ++ rest) e (front_begins (t ∷ []) front b refl)

module _ {Part : Type 0} {line : Grammar Part} (table more : Part → Sort → Bool) (ok : IsPredicted line table more)
    (f : Form Part) (good : IsPredictive table more f) (closed : (k : Sort) → goes_on table more f k ≡ false) where
  one_front : (a b : List Token) {m n : List Token} → ((us : List Token) → IsWhole line f (a ++ us) us) → ((us : List Token) → IsWhole line f (b ++ us) us) → Shorter a b m n → m ≡ n
  one_front a b {m} {n} v w s =
      let whole : IsWhole line f b [] = subst (λ us. IsWhole line f us []) (append-nil b) (w []) in
      let none = closed_whole table more ok f good closed b s.0 (whole_begins whole refl) (subst (λ us. IsWhole line f us s.0) (sym s.1) (v s.0)) in
      s.2 ∙ ap (λ d. d ++ n) none

  pub one_whole : {ts m n : List Token} → IsWhole line f ts m → IsWhole line f ts n → m ≡ n
  one_whole {m} {n} w v =
      let p = front_of w in let q = front_of v in
      ⊎_elim (λ s. one_front p.front q.front p.whole q.whole s) (λ s. sym (one_front q.front p.front q.whole p.whole s)) (two_fronts p.front q.front m n (sym p.are ∙ q.are))

  pub stuck_not_whole : {ts m : List Token} → IsStuck line f ts → IsWhole line f ts m → ⊥
  stuck_not_whole {m} s w = let p = front_of w in ⊎_elim (λ d. past p.front p.whole d.0 d.1 d.2) (λ d. before p.front p.whole d.0 d.1) (two_fronts s.passed p.front s.rest m (sym s.are ∙ p.are))
    where
      past : (front : List Token) → ((us : List Token) → IsWhole line f (front ++ us) us) → (d : List Token) → front ≡ s.passed ++ d → s.rest ≡ d ++ m → ⊥
      past front whole [] e r = s.not_whole (subst (λ us. IsWhole line f us []) (append-nil front ∙ e ∙ append-nil s.passed) (whole []))
      past front whole (t ∷ d) e r =
          s.no_further t (d ++ m) r (front_begins (s.passed ++ t ∷ []) d (whole_begins (subst (λ us. IsWhole line f us []) (append-nil front) (whole [])) refl) (e ∙ sym (append_one s.passed t d)))
        where
          append_one : (a : List Token) (x : Token) (b : List Token) → (a ++ x ∷ []) ++ b ≡ a ++ x ∷ b
          append_one [] x b = refl
          append_one (y ∷ a) x b = ap (λ ys. y ∷ ys) (append_one a x b)

      before : (front : List Token) → ((us : List Token) → IsWhole line f (front ++ us) us) → (d : List Token) → s.passed ≡ front ++ d → ⊥
      before front whole d e =
          let v : IsWhole line f s.passed d = subst (λ us. IsWhole line f us d) (sym e) (whole d) in
          s.not_whole (subst (λ us. IsWhole line f s.passed us) (closed_whole table more ok f good closed s.passed d s.begins v) v)

  -- so where such forms stand one behind the other, and then none begins, none of them is stuck behind others
  module _ (some : nullable f ≡ false) where
    not_empty : IsWhole line f [] [] → ⊥
    not_empty w = ⊎_elim (λ n. false≢true (sym some ∙ n.0)) (λ h. h) (whole_front table ok.table_is w)

    none_whole : {ts m : List Token} → NoneBegins line f ts → IsWhole line f ts m → ⊥
    none_whole {m} none w =
        let p = front_of w in
        let whole : IsWhole line f p.front [] = subst (λ us. IsWhole line f us []) (append-nil p.front) (p.whole []) in
        begins_none p.front m (λ e. not_empty (subst (λ us. IsWhole line f us []) e whole)) p.are (whole_begins whole refl) none

    pub not_stuck : {ts m n : List Token} → IsWhole line (repeated f) ts m → NoneBegins line f m → IsWhole line (repeated f) ts n → (s : IsStuck line f n) → s.passed ≢ [] → ⊥
    not_stuck no_more none no_more s past = begins_none s.passed s.rest past s.are s.begins none
    not_stuck no_more none (one_more w v) s past = none_whole none w
    not_stuck (one_more w v) none no_more s past = stuck_not_whole s w
    not_stuck {m} {n} (one_more w v) none (one_more x y) s past =
        not_stuck v none (subst (λ us. IsWhole line (repeated f) us n) (one_whole x w) y) s past
