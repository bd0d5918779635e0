-- The first readings of a graph: there is one list of them, and one text that tells them.
use Rattle.std.proofs.Common.{◌≡◌, ◌≤◌, ◌+◌, ◌-◌, ◌⊎◌, ◌↔◌, ℕ, zero, suc, Bool, true, false, Option, Some, None, slice_get, List, [], ◌∷◌, ◌++◌, length, Ordering, refl, sym, ◌∙◌, ap, ap₂, subst, inl, inr, ⊎_elim, arith, length-append}
use Rattle.std.specs.Prelude.{IsTrue, flat_map}
use Rattle.std.specs.declared.cmp.Ordering.TheVariants.{Less, Equal, Greater}
use Rattle.std.specs.Ordering.{ordering_reverse, nat_cmp}
use Rattle.std.specs.Cmp.Lexicographic.{slice_cmp}
use Rattle.std.proofs.lemmas.Cmp.{nat_list_cmp_total}
use Rattle.std.proofs.lemmas.Map.Lookups.{exact_bytes}
use Rattle.std.proofs.lemmas.List.{nil_from_length}
use Rattle.std.proofs.lemmas.Option.{slice_get_within}
use Rattle.qs_tree.specs.Lists.{◌∈◌, Ascends}
use Rattle.qs_tree.proofs.Decisions.{decide_number}
use Rattle.qs_graph.specs.Graphs.{Arc, QGraph, IsValid}
use Rattle.qs_phrase.specs.Readings.{IsReading, IsBefore, AreFirst, HasFurther}
use Rattle.qs_phrase.specs.working.Leaving.{Leaves, IsLeast}
use Rattle.qs_phrase.specs.working.Walking.{GoesOn, IsNext, IsLast}
use Rattle.qs_phrase.proofs.Orders.{never_both, never_itself}
use Rattle.qs_phrase.proofs.GoingOn.{IsGoing, going_first, going_short, going_more, going_last, IsSpent, spent_first, HasLast, has_last, spent_more, goes_over, next_is, last_is}
use Rattle.qs_phrase.proofs.Listed.{IsListed, listed_none, listed_more, first_are, further_is}
use Rattle.qs_telling.specs.PhraseTexts.{TellsReadings, more_line, reading_line}

-- ---- one list

-- the first r lists of those of which P holds
record IsFirstOf (P : List ℕ → Type 0) (r : ℕ) (xs : List (List ℕ)) : Type 0 where
  ascends : Ascends IsBefore xs
  are : (x : List ℕ) → x ∈ xs → P x
  behind : (y : List ℕ) → P y → (y ∈ xs → ⊥) → (x : List ℕ) → x ∈ xs → IsBefore x y
  few : length xs ≤ r
  so_many : (length xs ≡ r) ⊎ ((y : List ℕ) → P y → y ∈ xs)

-- behind the first of them
tail_first : (P : List ℕ → Type 0) (r : ℕ) (x : List ℕ) (xs : List (List ℕ)) → IsFirstOf P r (x ∷ xs) → IsFirstOf (λ z. P z × IsBefore x z) (r - 1) xs
tail_first P r x xs a = record {
  ascends = a.ascends.1;
  are = λ z i. (a.are z (inr i), a.ascends.0 z i);
  behind = λ y p out z i. a.behind y p.0 (λ j. ⊎_elim (λ e. never_itself x (subst (IsBefore x) e p.1)) out j) z (inr i);
  few = omega (arith, a.few);
  so_many = ⊎_elim (λ full. inl (omega (arith, full))) (λ all. inr (λ y p. ⊎_elim (λ e. absurd (never_itself x (subst (IsBefore x) e p.1))) (λ k. k) (all y p.0))) a.so_many;
}

not_before : (P : List ℕ → Type 0) (r : ℕ) (x y : List ℕ) (xs ys : List (List ℕ)) → IsFirstOf P r (x ∷ xs) → IsFirstOf P r (y ∷ ys) → IsBefore x y → ⊥
not_before P r x y xs ys a b less =
    let out : x ∈ (y ∷ ys) → ⊥ = λ i. ⊎_elim (λ e. never_itself x (subst (IsBefore x) (sym e) less)) (λ j. never_both x y less (b.ascends.0 x j)) i in
    never_both x y less (b.behind x (a.are x (inl refl)) out y (inl refl))

same_head : (P : List ℕ → Type 0) (r : ℕ) (x y : List ℕ) (xs ys : List (List ℕ)) → IsFirstOf P r (x ∷ xs) → IsFirstOf P r (y ∷ ys) → x ≡ y
same_head P r x y xs ys a b = by (slice_cmp nat_cmp x y) refl
  where
    by : (o : Ordering) → slice_cmp nat_cmp x y ≡ o → x ≡ y
    by Less e = absurd (not_before P r x y xs ys a b e)
    by Equal e = exact_bytes x y e
    by Greater e = absurd (not_before P r y x ys xs b a (nat_list_cmp_total.antisymm y x ∙ ap ordering_reverse e))

same_first : (P : List ℕ → Type 0) (r : ℕ) (xs ys : List (List ℕ)) → IsFirstOf P r xs → IsFirstOf P r ys → xs ≡ ys
same_first P r [] [] a b = refl
same_first P r [] (y ∷ ys) a b = absurd (⊎_elim (λ full. omega (arith, full, b.few)) (λ all. all y (b.are y (inl refl))) a.so_many)
same_first P r (x ∷ xs) [] a b = absurd (⊎_elim (λ full. omega (arith, full, a.few)) (λ all. all x (a.are x (inl refl))) b.so_many)
same_first P r (x ∷ xs) (y ∷ ys) a b =
    let head : x ≡ y = same_head P r x y xs ys a b in
    let rest : IsFirstOf (λ z. P z × IsBefore x z) (r - 1) ys = subst (λ (h : List ℕ). IsFirstOf (λ z. P z × IsBefore h z) (r - 1) ys) (sym head) (tail_first P r y ys b) in
    ap₂ (λ (h : List ℕ) (t : List (List ℕ)). h ∷ t) head (same_first (λ z. P z × IsBefore x z) (r - 1) xs ys (tail_first P r x xs a) rest)

first_of : (G : QGraph) (r : ℕ) (paths : List (List ℕ)) → AreFirst G r paths → IsFirstOf (IsReading G) r paths
first_of G r paths a = record { ascends = a.ascends; are = a.are_readings; behind = a.others_behind; few = a.few; so_many = a.so_many }

same_more : (P : Type 0) (b c : Bool) → (IsTrue b ↔ P) → (IsTrue c ↔ P) → b ≡ c
same_more P true true x y = refl
same_more P true false x y = absurd (let e = y.1 (x.0 refl) in cc)
same_more P false true x y = absurd (let e = x.1 (y.0 refl) in cc)
same_more P false false x y = refl

-- so one text tells the readings
pub one_readings : (most : ℕ) (names : List (List ℕ)) (G : QGraph) (t u : List ℕ) → TellsReadings most names G t → TellsReadings most names G u → t ≡ u
one_readings most names G t u a b =
    let paths : a.paths ≡ b.paths = same_first (IsReading G) most a.paths b.paths (first_of G most a.paths a.are_first) (first_of G most b.paths b.are_first) in
    let more : a.more ≡ b.more = same_more (HasFurther G b.paths) a.more b.more (subst (λ ps. IsTrue a.more ↔ HasFurther G ps) paths a.more_is) b.more_is in
    a.text_is ∙ ap₂ (λ (ps : List (List ℕ)) (m : Bool). flat_map (reading_line names G.arcs) ps ++ more_line m) paths more ∙ sym b.text_is

-- ---- some list

-- the least number, from one on, of an arc that leaves a node
module _ (arcs : List Arc) (n : ℕ) where
  abbrev Least : ℕ → Type 0
  Least low = (o : Option ℕ) × IsLeast arcs n low o

  passed : (low : ℕ) → (Leaves arcs n low → ⊥) → (o : Option ℕ) → IsLeast arcs n (suc low) o → IsLeast arcs n low o
  passed low none (Some k) (l, leaves, least) = (
    omega (arith, l),
    leaves,
    λ j m at. ⊎_elim (λ e. absurd (none (subst (Leaves arcs n) e at))) (λ above. least j above at) (first_or_above low j m),
  )
    where
      first_or_above : (low j : ℕ) → low ≤ j → (j ≡ low) ⊎ (suc low ≤ j)
      first_or_above low j m = grind arith
  passed low none None out = λ j m at. ⊎_elim (λ e. none (subst (Leaves arcs n) e at)) (λ above. out j above at) (first_or_above low j m)
    where
      first_or_above : (low j : ℕ) → low ≤ j → (j ≡ low) ⊎ (suc low ≤ j)
      first_or_above low j m = grind arith

  from_here : (low : ℕ) (o : Option Arc) → slice_get arcs low ≡ o → Least (suc low) → Least low
  from_here low None e (o, is) = (o, passed low (λ (arc, at, d). let same : None ≡ Some arc = sym e ∙ at in absurd cc) o is)
  from_here low (Some arc) e (o, is) = by (decide_number arc.from n)
    where
      by : Dec (arc.from ≡ n) → Least low
      by (yes d) = (Some low, (omega arith, (arc, e, d), λ j m at. m))
      by (no d) = (o, passed low (λ (other, at, f). let same : arc ≡ other = cc in absurd (d (ap (λ (a : Arc). a.from) same ∙ f))) o is)

  search_from : (fuel low : ℕ) → length arcs ≤ low + fuel → Least low
  search_from zero low past = (None, λ j m (arc, at, e). absurd (omega (arith, slice_get_within arcs j arc at, past, m)))
  search_from (suc fuel) low past = from_here low (slice_get arcs low) refl (search_from fuel (suc low) (omega (arith, past)))

  some_least : (low : ℕ) → Least low
  some_least low = search_from (length arcs) low (omega arith)

by_end : (path : List ℕ) → (path ≡ []) ⊎ ((less : List ℕ) × (k : ℕ) × (path ≡ less ++ k ∷ []))
by_end [] = inl refl
by_end (k ∷ path) =
    inr (⊎_elim (λ e. ([], k, ap (λ ks. k ∷ ks) e)) (λ (less, j, e). (k ∷ less, j, ap (λ ks. k ∷ ks) e)) (by_end path))

module _ (G : QGraph) (valid : IsValid G) where
  abbrev Goes : ℕ → List ℕ → Type 0
  Goes from old = (new : List ℕ) × GoesOn G from old new

  going_on : (fuel from : ℕ) (old path : List ℕ) (at : ℕ) → IsGoing G from old path at → G.nodes ≤ fuel + length path → Goes from old
  going_on zero from old path at x long = absurd (omega (arith, going_short G valid x, long))
  going_on (suc fuel) from old path at x long =
      by (some_least G.arcs at 0)
      (λ k arc is least. going_on fuel from old (path ++ k ∷ []) arc.to (going_more G valid from old path at k arc is least x) (omega (arith, long, length-append path (k ∷ []))))
    where
      by : Least G.arcs at 0 → ((k : ℕ) (arc : Arc) → slice_get G.arcs k ≡ Some arc → IsLeast G.arcs at 0 (Some k) → Goes from old) → Goes from old
      by (None, none) further = (path, going_last G valid from old path at none x)
      by (Some k, least) further = let (arc, is, e) = least.1 in further k arc is least

  abbrev NextOrLast : List ℕ → Type 0
  NextOrLast old = ((new : List ℕ) × IsNext G old new) ⊎ IsLast G old

  -- by the last arc of the path
  at_end : (old path : List ℕ) → IsSpent G old path → (less : List ℕ) (k : ℕ) → path ≡ less ++ k ∷ [] → (IsSpent G old less → NextOrLast old) → NextOrLast old
  at_end old path x less k e further = let (arc, last) = has_last G old path less k e x in by arc last (some_least G.arcs arc.from (suc k))
    where
      by : (arc : Arc) → HasLast G old path less k arc → Least G.arcs arc.from (suc k) → NextOrLast old
      by arc last (None, none) = further (spent_more G old path less k arc last none)
      by arc last (Some o, least) =
          let (other, at_o, from) = least.1 in
          let leads = goes_over G old path less k arc o other last least at_o in
          let (new, goes) = going_on G.nodes other.to (less ++ o ∷ []) (less ++ o ∷ []) other.to (going_first G valid last.entry other.to (less ++ o ∷ []) last.is_entry leads) (omega arith) in
          inl (new, next_is G valid old path less k arc o other new last least at_o goes)

  next_from : (fuel : ℕ) (old path : List ℕ) → IsSpent G old path → length path ≤ fuel → NextOrLast old
  next_from zero old path x few = inr (last_is G valid old path (nil_from_length path (omega (arith, few))) x)
  next_from (suc fuel) old path x few =
      ⊎_elim
      (λ e. inr (last_is G valid old path e x))
      (λ (less, k, e). at_end old path x less k e (λ spent. next_from fuel old less spent (omega (arith, few, ap (λ (ks : List ℕ). length ks) e, length-append less (k ∷ [])))))
      (by_end path)

  next_or_last : (old : List ℕ) → IsReading G old → NextOrLast old
  next_or_last old r = next_from (length old) old old (spent_first G old r) (omega arith)

  -- so many are listed, or all of them
  record ListsUpTo (most : ℕ) : Type 0 where
    paths : List (List ℕ)
    path : List ℕ
    more : Bool
    listed : IsListed G path paths more
    few : length paths ≤ most
    full : more ≡ true → length paths ≡ most

  one_more : (most : ℕ) (paths : List (List ℕ)) (path : List ℕ) (more : Bool) → IsListed G path paths more → length paths ≤ most → (more ≡ true → length paths ≡ most) → ListsUpTo (suc most)
  one_more most paths path false listed few full = record { paths = paths; path = path; more = false; listed = listed; few = omega (arith, few); full = λ e. absurd cc }
  one_more most paths path true listed few full =
      ⊎_elim
      (λ (new, next). record {
        paths = paths ++ path ∷ [];
        path = new;
        more = true;
        listed = listed_more G path paths new true (λ e. next) (λ e. absurd cc) listed;
        few = omega (arith, full refl, length-append paths (path ∷ []));
        full = λ e. omega (arith, full refl, length-append paths (path ∷ []));
      })
      (λ last. record {
        paths = paths ++ path ∷ [];
        path = path;
        more = false;
        listed = listed_more G path paths path false (λ e. absurd cc) (λ e. last) listed;
        few = omega (arith, full refl, length-append paths (path ∷ []));
        full = λ e. absurd cc;
      })
      (next_or_last path (listed.is_reading refl))

  lists_up_to : (most : ℕ) → ListsUpTo most
  lists_up_to zero =
      let a : ℕ = valid.entry.one in
      let (path, goes) = going_on G.nodes a [] [] a (going_first G valid a a [] valid.entry.holds refl) (omega arith) in
      record { paths = []; path = path; more = true; listed = listed_none G valid a path valid.entry.holds goes; few = omega arith; full = λ e. refl }
  lists_up_to (suc most) = let x = lists_up_to most in one_more most x.paths x.path x.more x.listed x.few x.full

  pub some_readings : (most : ℕ) (names : List (List ℕ)) → (text : List ℕ) × TellsReadings most names G text
  some_readings most names =
      let x = lists_up_to most in (
        flat_map (reading_line names G.arcs) x.paths ++ more_line x.more,
        record {
          paths = x.paths;
          are_first = first_are G x.path x.paths x.more most x.few x.full x.listed;
          more = x.more;
          more_is = further_is G x.path x.paths x.more x.listed;
          text_is = refl;
        },
      )
