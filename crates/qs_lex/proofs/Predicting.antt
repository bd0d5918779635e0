-- Whether a grammar is read with one token of sight, decided sort by sort.
use Rattle.std.proofs.Common.{◌≡◌, Bool, true, false, ◌||◌, ◌&&◌, not, refl}
use Rattle.std.proofs.lemmas.Bool.{false≢true, not-true}
use Rattle.qs_lex.specs.Grammar.{Sort, Form, one, part, ◌·◌, ◌∣◌, optional, repeated, Grammar}
use Rattle.qs_lex.specs.working.Expecting.{nullable, first, goes_on, Apart, IsPredictive}
use Rattle.qs_lex.proofs.Predictive.{IsPredicted}
use Rattle.qs_lex.proofs.Sorts.{every, every_is}

and_first : (a b : Bool) → (a && b) ≡ true → a ≡ true
and_first true b e = refl
and_first false b e = e

and_second : (a b : Bool) → (a && b) ≡ true → b ≡ true
and_second true b e = e
and_second false b e = absurd (false≢true e)

-- one test implies the other, and the two are apart
abbrev implies : (Sort → Bool) → (Sort → Bool) → Bool
implies p q = every (λ k. not (p k) || q k)

implied : (a b : Bool) → (not a || b) ≡ true → a ≡ true → b ≡ true
implied true b e f = e
implied false b e f = absurd (false≢true f)

implies_is : (p q : Sort → Bool) → implies p q ≡ true → (k : Sort) → p k ≡ true → q k ≡ true
implies_is p q e k f = implied (p k) (q k) (every_is (λ k. not (p k) || q k) e k) f

abbrev apart : (Sort → Bool) → (Sort → Bool) → Bool
apart p q = every (λ k. not (p k) || not (q k))

pub apart_is : (p q : Sort → Bool) → apart p q ≡ true → Apart p q
apart_is p q e k f = not-true (q k) (implied (p k) (not (q k)) (every_is (λ k. not (p k) || not (q k)) e k) f)

abbrev is_predictive : {Part : Type 0} → (Part → Sort → Bool) → (Part → Sort → Bool) → Form Part → Bool
is_predictive table more (one s) = true
is_predictive table more (part p) = true
is_predictive table more (f · g) = is_predictive table more f && (is_predictive table more g && apart (first table g) (goes_on table more f))
is_predictive table more (f ∣ g) =
    not (nullable f) && (not (nullable g) && (apart (first table f) (first table g) && (apart (first table g) (first table f) && (is_predictive table more f && is_predictive table more g))))
is_predictive table more (optional f) = not (nullable f) && is_predictive table more f
is_predictive table more (repeated f) = not (nullable f) && (is_predictive table more f && apart (first table f) (goes_on table more f))

predictive_is : {Part : Type 0} (table more : Part → Sort → Bool) (f : Form Part) → is_predictive table more f ≡ true → IsPredictive table more f
predictive_is table more (one s) e = tt
predictive_is table more (part p) e = tt
predictive_is table more (f · g) e =
    let b = and_second (is_predictive table more f) (is_predictive table more g && apart (first table g) (goes_on table more f)) e in (
      predictive_is table more f (and_first (is_predictive table more f) (is_predictive table more g && apart (first table g) (goes_on table more f)) e),
      predictive_is table more g (and_first (is_predictive table more g) (apart (first table g) (goes_on table more f)) b),
      apart_is (first table g) (goes_on table more f) (and_second (is_predictive table more g) (apart (first table g) (goes_on table more f)) b),
    )
predictive_is table more (f ∣ g) e =
    let both : Bool = is_predictive table more f && is_predictive table more g in
    let b = and_second (not (nullable f)) (not (nullable g) && (apart (first table f) (first table g) && (apart (first table g) (first table f) && both))) e in
    let c = and_second (not (nullable g)) (apart (first table f) (first table g) && (apart (first table g) (first table f) && both)) b in
    let d = and_second (apart (first table f) (first table g)) (apart (first table g) (first table f) && both) c in
    let h = and_second (apart (first table g) (first table f)) both d in (
      not-true (nullable f) (and_first (not (nullable f)) (not (nullable g) && (apart (first table f) (first table g) && (apart (first table g) (first table f) && both))) e),
      not-true (nullable g) (and_first (not (nullable g)) (apart (first table f) (first table g) && (apart (first table g) (first table f) && both)) b),
      apart_is (first table f) (first table g) (and_first (apart (first table f) (first table g)) (apart (first table g) (first table f) && both) c),
      apart_is (first table g) (first table f) (and_first (apart (first table g) (first table f)) both d),
      predictive_is table more f (and_first (is_predictive table more f) (is_predictive table more g) h),
      predictive_is table more g (and_second (is_predictive table more f) (is_predictive table more g) h),
    )
predictive_is table more (optional f) e = (
  not-true (nullable f) (and_first (not (nullable f)) (is_predictive table more f) e),
  predictive_is table more f (and_second (not (nullable f)) (is_predictive table more f) e),
)
predictive_is table more (repeated f) e =
    let b = and_second (not (nullable f)) (is_predictive table more f && apart (first table f) (goes_on table more f)) e in (
      not-true (nullable f) (and_first (not (nullable f)) (is_predictive table more f && apart (first table f) (goes_on table more f)) e),
      predictive_is table more f (and_first (is_predictive table more f) (apart (first table f) (goes_on table more f)) b),
      apart_is (first table f) (goes_on table more f) (and_second (is_predictive table more f) (apart (first table f) (goes_on table more f)) b),
    )

-- what is asked of a line of a grammar
abbrev pub is_good : {Part : Type 0} → Grammar Part → (Part → Sort → Bool) → (Part → Sort → Bool) → Part → Bool
is_good line table more p =
    implies (first table (line p)) (table p) && (not (nullable (line p)) && (implies (goes_on table more (line p)) (more p) && is_predictive table more (line p)))

module _ {Part : Type 0} (line : Grammar Part) (table more : Part → Sort → Bool) (p : Part) (good : is_good line table more p ≡ true) where
  behind_first : (not (nullable (line p)) && (implies (goes_on table more (line p)) (more p) && is_predictive table more (line p))) ≡ true
  behind_first = and_second (implies (first table (line p)) (table p)) (not (nullable (line p)) && (implies (goes_on table more (line p)) (more p) && is_predictive table more (line p))) good

  behind_empty : (implies (goes_on table more (line p)) (more p) && is_predictive table more (line p)) ≡ true
  behind_empty = and_second (not (nullable (line p))) (implies (goes_on table more (line p)) (more p) && is_predictive table more (line p)) behind_first

  good_begins : (k : Sort) → first table (line p) k ≡ true → table p k ≡ true
  good_begins =
      implies_is (first table (line p)) (table p)
      (and_first (implies (first table (line p)) (table p)) (not (nullable (line p)) && (implies (goes_on table more (line p)) (more p) && is_predictive table more (line p))) good)

  good_some : nullable (line p) ≡ false
  good_some = not-true (nullable (line p)) (and_first (not (nullable (line p))) (implies (goes_on table more (line p)) (more p) && is_predictive table more (line p)) behind_first)

  good_goes : (k : Sort) → goes_on table more (line p) k ≡ true → more p k ≡ true
  good_goes = implies_is (goes_on table more (line p)) (more p) (and_first (implies (goes_on table more (line p)) (more p)) (is_predictive table more (line p)) behind_empty)

  good_line : IsPredictive table more (line p)
  good_line = predictive_is table more (line p) (and_second (implies (goes_on table more (line p)) (more p)) (is_predictive table more (line p)) behind_empty)

pub predicted : {Part : Type 0} (line : Grammar Part) (table more : Part → Sort → Bool) → ((p : Part) → is_good line table more p ≡ true) → IsPredicted line table more
predicted line table more good =
    record {
      table_is =
          record {
            begins = λ p. good_begins line table more p (good p);
            never_empty = λ p. good_some line table more p (good p);
          };
      goes = λ p. good_goes line table more p (good p);
      predictive = λ p. good_line line table more p (good p);
    }
