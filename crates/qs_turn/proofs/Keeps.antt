-- Each step keeps the rule.
use Rattle.std.proofs.Common.{◌≡◌, ◌≢◌, ℕ, eqb, zero, suc, ◌+◌, ◌-◌, ◌%◌, ◌^◌, ◌<◌, ◌≤◌, ◌⊎◌, List, [], ◌∷◌, ◌++◌, length, set, get_or, sym, refl, ap, ◌∙◌, subst, inl, inr, ⊎_elim, eq-eqb, ne_eqb, append_assoc, append-nil, length-append, arith}
use Rattle.std.specs.Prelude.{Some, None, All, MatchBool}
use Rattle.std.specs.Prelude as std
use Rattle.std.proofs.Math.Nat.{mod-add-mod, mod-eq_of_lt}
use Rattle.std.proofs.lemmas.List.Elements.{All-nil, All-cons, All-append}
use mathlib.Core.Option.{Option, none, some, some-injective, some-ne-none}
use mathlib.Core.Logic.{dite}
use native.Mathlib.Decide.{ℕ_discrete}
use lib.ListN.{get_elem?}
use lib.Seq.{set-get_or}
use Rattle.atomic_table.specs.Table.{State, Me, step, keeps, takes, gives, stepped, carried_after, Allows, Splits, Joins}
use Rattle.atomic_table.proofs.Lists.{at_set, set_again, set_else, at_snoc, at_longer, one_turn}
use Rattle.qs_turn.specs.declared.protocol.PassView.{PassView}
use Rattle.qs_turn.specs.declared.protocol.Stage.{Stage}
use Rattle.qs_turn.specs.declared.protocol.Stage.TheVariants.{Idle, Waiting, Served}
use Rattle.qs_turn.specs.declared.protocol.SeatView.{SeatView}
use Rattle.qs_turn.specs.History.{IsOtherPass, ContinuedByOthers}
use Rattle.qs_turn.specs.Protocol.{first_number, first_base, first_seen}
use Rattle.qs_turn.specs.working.Protocol.{tickets_of, HasTicket, seat_view, pass_view, new_views, opening_view, no_pass, without_first, only_first, later_passes, first_pass, together, tickets_out, passes_in, count_number, times_in, total, AreRight, IsHome, IsOut, StageFits, IsPlaced, TurnRule, Draws, Takes, Looks, Enters, Serves}
use Rattle.qs_turn.proofs.Totals.{total_set, total_snoc, total_two, total_le, counted_append, counted_parts, length_parts, counted_new, length_new, not_among, counted_itself}

pub set_at : {A : Type 0} (l : List A) (i : ℕ) (v w : A) → get_elem? l i ≡ some v → get_elem? (set l i w) i ≡ some w
set_at [] i v w e = absurd (some-ne-none v (sym e))
set_at (x ∷ xs) zero v w e = refl
set_at (x ∷ xs) (suc i) v w e = set_at xs i v w e

-- what a taken slot holds
abbrev value_in : {S : Type 0} → std.Option S → S → S
value_in (Some y) d = y
value_in None d = d

abbrev front : {S : Type 0} → List (ℕ × std.Option S) → std.Option S
front [] = None
front (x ∷ xs) = x.1

module _ {S E : Type 0} where
  -- a seat that stands for one pass
  pub as_one : (v : SeatView S E) (st : Stage) → length v.known ≡ 1 → v.stage ≡ st → (k : PassView S E) × (v ≡ seat_view (k ∷ []) st)
  as_one v st one is = let found = single v.known one in (found.0, λ i. record { known = found.1 i; stage = is i })
    where
      single : (ks : List (PassView S E)) → length ks ≡ 1 → (k : PassView S E) × (ks ≡ k ∷ [])
      single [] e = absurd (omega arith)
      single (k ∷ []) e = (k, refl)
      single (k ∷ j ∷ ks) e = absurd (omega arith)

Some_injective : {A : Type 0} {a b : A} → Some a ≡ Some b → a ≡ b
Some_injective e = cc

module _ {S C E : Type 0} (base : S → C) (history_of : S → List E) (pass_of : E → ℕ) (one_base : C) (opened : List E) (passes : ℕ) where
  abbrev V : Type 0
  V = SeatView S E

  abbrev St : Type 0
  St = State (std.Option S) V

  abbrev Seat : Type 0
  Seat = Me (std.Option S) V

  abbrev Slots : Type 0
  Slots = List (Option (std.Option S))

  abbrev Rule : St → Type 0
  Rule = TurnRule base history_of pass_of one_base opened passes

  abbrev Right : List E → List (PassView S E) → Type 0
  Right = AreRight base pass_of one_base passes

  -- a seat with a ticket has one of those that are out
  within : (drawn served k : ℕ) (h : List E) (hs : Slots) (st : Stage) (ks : List (PassView S E)) → StageFits drawn served h hs st ks → HasTicket st k → (served ≤ k) × (k < drawn)
  within drawn served k h hs Idle ks fits has = absurd has
  within drawn served k h hs (Waiting j) ks fits has = let a = fits.0 in let b = fits.1 in (omega arith, omega arith)
  within drawn served k h hs (Served j) ks fits has = let a = fits.0 in let b = fits.1 in (omega arith, omega arith)

  no_ticket : (k : ℕ) (st : Stage) → st ≡ Idle → HasTicket st k → ⊥
  no_ticket k st is has = subst (λ (z : Stage). HasTicket z k) is has

  idle_not_served : (st : Stage) (k : ℕ) → st ≡ Idle → st ≡ Served k → ⊥
  idle_not_served st k is e = no_ticket k st is (subst (λ (z : Stage). HasTicket z k) (sym e) refl)

  served_has : (k : ℕ) (st : Stage) → st ≡ Served k → HasTicket st k
  served_has k st is = subst (λ (z : Stage). HasTicket z k) (sym is) refl

  -- of a seat that isn't served
  waits_on : (drawn served drawn' served' : ℕ) (h h' : List E) (hs hs' : Slots) → drawn ≤ drawn' → (st : Stage) (ks : List (PassView S E)) → ((k : ℕ) → HasTicket st k → served' ≤ k) → (HasTicket st served → ⊥)
      → StageFits drawn served h hs st ks → StageFits drawn' served' h' hs' st ks
  waits_on drawn served drawn' served' h h' hs hs' more Idle ks low not fits = tt
  waits_on drawn served drawn' served' h h' hs hs' more (Waiting j) ks low not fits = let b = fits.1 in (low j refl, omega arith, fits.2)
  waits_on drawn served drawn' served' h h' hs hs' more (Served j) ks low not fits = absurd (not fits.0)

  -- one more ticket is drawn
  one_more_drawn : (drawn served : ℕ) (h : List E) (hs : Slots) (st : Stage) (ks : List (PassView S E)) → StageFits drawn served h hs st ks → StageFits (drawn + 1) served h hs st ks
  one_more_drawn drawn served h hs Idle ks fits = tt
  one_more_drawn drawn served h hs (Waiting j) ks fits = let b = fits.1 in (fits.0, omega arith, fits.2)
  one_more_drawn drawn served h hs (Served j) ks fits = let b = fits.1 in (fits.0, omega arith, fits.2, fits.3, fits.4)

  -- a seat has at most as many tickets as it stands for passes
  few_tickets : (drawn served : ℕ) (h : List E) (hs : Slots) (v : V) → StageFits drawn served h hs v.stage v.known → tickets_out v ≤ passes_in v
  few_tickets drawn served h hs v fits = cases v.stage fits
    where
      cases : (st : Stage) → StageFits drawn served h hs st v.known → tickets_of st ≤ length v.known
      cases Idle f = omega arith
      cases (Waiting j) f = let one = f.2 in omega arith
      cases (Served j) f = let one = f.2 in omega arith

  pub few_out : (s : St) (r : Rule s) → r.drawn < r.served + 2 ^ 32
  few_out s r = let le = total_le tickets_out passes_in s.views (λ i v e. few_tickets r.drawn r.served r.history s.homes v (r.each_stage i v e)) in
      let a = r.count_out in let b = r.all_passes in let c = r.few in omega arith

  -- the history of the opening, and the entries that were added
  abbrev Begins : List E → ℕ → Type 0
  Begins history entered = (added : List E) × (history ≡ opened ++ added) × (length added ≡ entered) × All (λ e. pass_of e < passes) added

  -- a ticket that is out after a step of one seat is with that seat now, or was out with another before
  abbrev StillOut : (served drawn served' drawn' : ℕ) → Stage → Stage → Type 0
  StillOut served drawn served' drawn' before after = (k : ℕ) → served' ≤ k → k < drawn' → HasTicket after k ⊎ ((served ≤ k) × (k < drawn) × (HasTicket before k → ⊥))

  -- a seat that keeps its ticket
  still_same : (served drawn : ℕ) (before after : Stage) → ((k : ℕ) → HasTicket before k → HasTicket after k) → ((k : ℕ) → Dec (HasTicket before k)) → StillOut served drawn served drawn before after
  still_same served drawn before after keep test k low high = dec_elim (test k)
    where
      dec_elim : Dec (HasTicket before k) → HasTicket after k ⊎ ((served ≤ k) × (k < drawn) × (HasTicket before k → ⊥))
      dec_elim (yes has) = inl (keep k has)
      dec_elim (no not) = inr (low, high, not)

  -- a step of one seat, which keeps the numbers that it stands for
  step_keeps : (s : St) (r : Rule s) (id : ℕ) (v w : V) (words : List ℕ) (homes : Slots) (history : List E) (drawn served entered : ℕ) → get_elem? s.views id ≡ some v
      → words ≡ drawn % 2 ^ 64 ∷ served % 2 ^ 64 ∷ entered ∷ [] → Begins history entered
      → IsPlaced base history_of pass_of one_base opened passes history homes (set s.views id w)
      → Right history w.known → ((j : ℕ) (u : V) → j ≢ id → get_elem? s.views j ≡ some u → Right history u.known)
      → StageFits drawn served history homes w.stage w.known → ((j : ℕ) (u : V) → j ≢ id → get_elem? s.views j ≡ some u → StageFits drawn served history homes u.stage u.known)
      → ((j k : ℕ) (u : V) → j ≢ id → get_elem? s.views j ≡ some u → HasTicket w.stage k → HasTicket u.stage k → ⊥)
      → StillOut r.served r.drawn served drawn v.stage w.stage
      → served + r.drawn + tickets_out w ≡ drawn + r.served + tickets_out v
      → ((n : ℕ) → times_in n w ≡ times_in n v) → passes_in w ≡ passes_in v
      → Rule record { words = words; homes = homes; views = set s.views id w }
  step_keeps s r id v w words homes history drawn served entered at are begins placed right rights stage stages apart still count numbers width = record {
    history = history;
    drawn = drawn;
    served = served;
    entered = entered;
    words_are = are;
    begins = begins;
    placed = placed;
    each_right = λ j u e. ⊎_elim (λ (t : (j ≡ id) × (w ≡ u)). subst (λ (z : V). Right history z.known) t.1 right) (λ (t : (j ≢ id) × (get_elem? s.views j ≡ some u)). rights j u t.0 t.1) (at_set s.views id j w u e);
    each_stage = λ j u e. ⊎_elim (λ (t : (j ≡ id) × (w ≡ u)). subst (λ (z : V). StageFits drawn served history homes z.stage z.known) t.1 stage) (λ (t : (j ≢ id) × (get_elem? s.views j ≡ some u)). stages j u t.0 t.1) (at_set s.views id j w u e);
    one_each = λ i j k u x p q a b. ⊎_elim
        (λ (t : (i ≡ id) × (w ≡ u)). ⊎_elim (λ (o : (j ≡ id) × (w ≡ x)). t.0 ∙ sym o.0)
        (λ (o : (j ≢ id) × (get_elem? s.views j ≡ some x)). absurd (apart j k x o.0 o.1 (subst (λ (z : V). HasTicket z.stage k) (sym t.1) a) b)) (at_set s.views id j w x q))
        (λ (t : (i ≢ id) × (get_elem? s.views i ≡ some u)). ⊎_elim (λ (o : (j ≡ id) × (w ≡ x)). absurd (apart i k u t.0 t.1 (subst (λ (z : V). HasTicket z.stage k) (sym o.1) b) a))
        (λ (o : (j ≢ id) × (get_elem? s.views j ≡ some x)). r.one_each i j k u x t.1 o.1 a b) (at_set s.views id j w x q))
        (at_set s.views id i w u p);
    each_out = λ k low high. ⊎_elim
        (λ (mine : HasTicket w.stage k). (id, w, set_at s.views id v w at, mine))
        (λ (old : (r.served ≤ k) × (k < r.drawn) × (HasTicket v.stage k → ⊥)). let o = r.each_out k old.0 old.1 in
        (o.0, o.1, set_else s.views id o.0 w (λ same. old.2 (subst (λ (z : V). HasTicket z.stage k) (some-injective o.1 v (sym o.2 ∙ (ap (get_elem? s.views) same ∙ at))) o.3)) ∙ o.2, o.3))
        (still k low high);
    count_out = let e = total_set tickets_out s.views id v w at in let a = r.count_out in omega arith;
    all_passes = let e = total_set passes_in s.views id v w at in let a = r.all_passes in omega arith;
    all_differ = λ n. let e = total_set (times_in n) s.views id v w at in let a = r.all_differ n in let same = numbers n in omega arith;
    few = r.few;
  }

  -- a value that is out stays out with the seat that is served, where another seat steps
  placed_else : (h : List E) (hs : Slots) (views : List V) (id : ℕ) (v w : V) → get_elem? views id ≡ some v → ((k : ℕ) → v.stage ≡ Served k → ⊥)
      → IsPlaced base history_of pass_of one_base opened passes h hs views → IsPlaced base history_of pass_of one_base opened passes h hs (set views id w)
  placed_else h hs views id v w at not (inl here) = inl here
  placed_else h hs views id v w at not (inr out) = let seat : ℕ = out.1.0 in dite (ℕ_discrete seat id)
      (λ e. absurd (not out.1.2 (ap (λ (z : V). z.stage) (some-injective v out.1.1 (sym at ∙ (ap (get_elem? views) (sym e) ∙ out.1.3))) ∙ out.1.4)))
      (λ ne. inr (out.0, (seat, out.1.1, out.1.2, set_else views id seat w ne ∙ out.1.3, out.1.4)))

  pub draw_keeps : (slots id : ℕ) (me : Seat) → me.0.stage ≡ Idle → length me.0.known ≡ 1 → Allows Rule slots id me 0 (λ n. (n + 1) % 2 ^ 64) (Draws (step slots 0 1 0 none) me)
  draw_keeps slots id me idle one s r _ at _ = let w : V = seat_view me.0.known (Waiting r.drawn) in
      let before : tickets_out me.0 ≡ 0 = ap tickets_of idle in
      let found : get_or s.words 0 0 ≡ r.drawn % 2 ^ 64 = ap (λ ws. get_or ws 0 0) r.words_are in
      let words : set s.words 0 ((get_or s.words 0 0 + 1) % 2 ^ 64) ≡ (r.drawn + 1) % 2 ^ 64 ∷ r.served % 2 ^ 64 ∷ r.entered ∷ [] =
      ap (λ ws. set ws 0 ((get_or ws 0 0 + 1) % 2 ^ 64)) r.words_are ∙ ap (λ (x : ℕ). x ∷ r.served % 2 ^ 64 ∷ r.entered ∷ []) (mod-add-mod r.drawn (2 ^ 64) 1) in
      let low : r.served ≤ r.drawn = let a = r.count_out in omega arith in (
        w,
        keeps,
        tt,
        step_keeps s r id me.0 w _ s.homes r.history (r.drawn + 1) r.served r.entered at words r.begins
            (placed_else r.history s.homes s.views id me.0 w at (λ k e. absurd (idle_not_served k (sym idle ∙ e))) r.placed)
            (r.each_right id me.0 at) (λ j u _ e. r.each_right j u e)
            (low, omega arith, one) (λ j u _ e. one_more_drawn r.drawn r.served r.history s.homes u.stage u.known (r.each_stage j u e))
            (λ j k u ne e a b. let i = within r.drawn r.served k r.history s.homes u.stage u.known (r.each_stage j u e) b in let l = i.1 in let a' : r.drawn ≡ k = a in omega arith)
            (λ k below above. dite (ℕ_discrete r.drawn k) (λ e. inl e) (λ ne. inr (below, omega arith, λ has. no_ticket k me.0.stage idle has)))
            (omega arith) (λ _. refl) refl,
        (r.drawn, found, refl),
      )
    where
      idle_not_served : (k : ℕ) → Idle ≡ Served k → ⊥
      idle_not_served k e = cc

  -- a step that changes nothing
  unmoved : (s : St) (r : Rule s) (i id : ℕ) (me : Seat) → get_elem? s.views id ≡ some me.0 → Rule (stepped s i (get_or s.words i 0) id me.1 me.0 keeps)
  unmoved s r i id me at = subst (λ (z : List ℕ × List V). Rule record { words = z.0; homes = s.homes; views = z.1 }) (λ j. (sym (set-get_or s.words i 0) j, sym (set_again s.views id me.0 at) j)) r

  -- the value is at home where the seat whose ticket is served still waits
  home_of : (s : St) (r : Rule s) (id : ℕ) (v : V) → get_elem? s.views id ≡ some v → v.stage ≡ Waiting r.served → (x : S) × IsHome s.homes x × (history_of x ≡ r.history) × (base x ≡ one_base)
  home_of s r id v at is = from r.placed
    where
      apart : (j k : ℕ) → Waiting j ≡ Served k → ⊥
      apart j k e = cc

      from : IsPlaced base history_of pass_of one_base opened passes r.history s.homes s.views → (x : S) × IsHome s.homes x × (history_of x ≡ r.history) × (base x ≡ one_base)
      from (inl here) = here
      from (inr out) = let seat : ℕ = out.1.0 in let u : V = out.1.1 in let k : ℕ = out.1.2 in
          let fits = subst (λ (st : Stage). StageFits r.drawn r.served r.history s.homes st u.known) out.1.4 (r.each_stage seat u out.1.3) in
          let mine : HasTicket v.stage r.served = subst (λ (st : Stage). HasTicket st r.served) (sym is) refl in
          let theirs : HasTicket u.stage r.served = subst (λ (st : Stage). HasTicket st r.served) (sym out.1.4) fits.0 in
          let same : id ≡ seat = r.one_each id seat r.served v u at out.1.3 mine theirs in
          let one : v ≡ u = some-injective v u (sym at ∙ (ap (get_elem? s.views) same ∙ out.1.3)) in
          absurd (apart r.served k (sym is ∙ (ap (λ (z : V). z.stage) one ∙ out.1.4)))

  -- where the value is at home no seat is served
  served_nowhere : (drawn served : ℕ) (h : List E) (hs hs' : Slots) (x : S) → IsHome hs x → (st : Stage) (ks : List (PassView S E)) → StageFits drawn served h hs st ks → StageFits drawn served h hs' st ks
  served_nowhere drawn served h hs hs' x home Idle ks fits = tt
  served_nowhere drawn served h hs hs' x home (Waiting j) ks fits = fits
  served_nowhere drawn served h hs hs' x home (Served j) ks fits = absurd (apart (sym home ∙ fits.4))
    where
      apart : some (Some x) ∷ [] ≡ none ∷ [] → ⊥
      apart e = cc

  look_one_keeps : (slots id k : ℕ) (known : PassView S E) (c : List (ℕ × std.Option S)) → Allows Rule slots id (seat_view (known ∷ []) (Waiting k), c) 1 (λ n. n)
      (λ n m. MatchBool (eqb n (k % 2 ^ 64)) (Takes base history_of pass_of (seat_view (known ∷ []) (Waiting k), c) k m) (m ≡ (seat_view (known ∷ []) (Waiting k), c)))
  look_one_keeps slots id k known c s r _ at _ = let v : V = seat_view (known ∷ []) (Waiting k) in
      let fits = r.each_stage id v at in
      let found : get_or s.words 1 0 ≡ r.served % 2 ^ 64 = ap (λ ws. get_or ws 1 0) r.words_are in
      dite (ℕ_discrete (get_or s.words 1 0) (k % 2 ^ 64))
      (λ hit. let few = few_out s r in let low : r.served ≤ k = fits.0 in let high : k < r.drawn = fits.1 in
      let same : r.served ≡ k = one_turn r.served k (2 ^ 64) low (omega arith) (sym found ∙ hit) in
      let here = home_of s r id v at (ap Waiting (sym same)) in let x : S = here.0 in
      let right = r.each_right id v at in
      let w : V = seat_view (pass_view known.number known.pass_count known.origin r.history (known.turns + 1) ∷ []) (Served k) in
      let words : set s.words 1 (get_or s.words 1 0) ≡ r.drawn % 2 ^ 64 ∷ r.served % 2 ^ 64 ∷ r.entered ∷ [] = set-get_or s.words 1 0 ∙ r.words_are in
      let out : IsOut (set s.homes 0 none) = ap (λ hs. set hs 0 none) here.1 in
      let before : Seat = (v, c) in let after : Seat = (w, (0, Some x) ∷ c) in
      let tell : Takes base history_of pass_of before k after = record {
        value = x;
        slot = refl;
        stage = refl;
        one = refl;
        same_number = refl;
        same_count = refl;
        same_base = refl;
        one_more = refl;
        whole = here.2;
        based = ap Some (right.0.based ∙ sym here.3);
        others = subst (λ (n : ℕ). ContinuedByOthers pass_of n known.number known.seen r.history) (sym right.0.counted) right.0.begun;
      } in (
        w,
        takes 0 (Some x),
        ap (λ hs. get_elem? hs 0) here.1,
        step_keeps s r id v w _ (set s.homes 0 none) r.history r.drawn r.served r.entered at words r.begins
            (inr (out, (id, w, k, set_at s.views id v w at, refl)))
            (record { numbered = right.0.numbered; counted = right.0.counted; based = right.0.based; begun = ([], sym (append-nil r.history), All-nil _) }, tt) (λ j u _ e. r.each_right j u e)
            (sym same, omega arith, refl, refl, out) (λ j u _ e. served_nowhere r.drawn r.served r.history s.homes (set s.homes 0 none) x here.1 u.stage u.known (r.each_stage j u e))
            (λ j i u ne e a b. ne (r.one_each j id i u v e at b a))
            (still_same r.served r.drawn (Waiting k) (Served k) (λ i has. has) (λ i. ℕ_discrete k i))
            (omega arith) (λ _. refl) refl,
        subst (λ b. MatchBool b (Takes base history_of pass_of before k after) (after ≡ before)) (sym (eq-eqb _ _ hit)) tell,
      ))
      (λ miss. let before : Seat = (v, c) in (v, keeps, tt, unmoved s r 1 id before at, subst (λ b. MatchBool b (Takes base history_of pass_of before k before) (before ≡ before)) (sym (ne_eqb _ _ miss)) refl))

  pub look_keeps : (slots id k : ℕ) (me : Seat) → me.0.stage ≡ Waiting k → length me.0.known ≡ 1 → Allows Rule slots id me 1 (λ n. n) (Looks base history_of pass_of (step slots 1 0 0 none) me)
  look_keeps slots id k me is one s r wide at small = let o = as_one me.0 (Waiting k) one is in
      let all = subst (λ (v : V). let old : Seat = (v, me.1) in Allows Rule slots id old 1 (λ n. n) (λ n m. MatchBool (eqb n (k % 2 ^ 64)) (Takes base history_of pass_of old k m) (m ≡ old))) (sym o.1) (look_one_keeps slots id k o.0 me.1) in
      let t = all s r wide at small in
      (t.0, t.1, t.2, t.3, λ j e. subst (λ (i : ℕ). MatchBool (eqb (get_or s.words 1 0) (i % 2 ^ 64)) (Takes base history_of pass_of me i (pair t.0 (carried_after me.1 t.1))) (pair t.0 (carried_after me.1 t.1) ≡ me)) (ticket_of (sym is ∙ e)) t.4)
    where
      ticket_of : {j i : ℕ} → Waiting j ≡ Waiting i → j ≡ i
      ticket_of e = cc

      pair : V → List (ℕ × std.Option S) → Seat
      pair v c = (v, c)

  -- while one seat is served, no other has its ticket
  not_theirs : (s : St) (r : Rule s) (id : ℕ) (v : V) (k : ℕ) → get_elem? s.views id ≡ some v → v.stage ≡ Served k → k ≡ r.served → (j : ℕ) (u : V) → j ≢ id → get_elem? s.views j ≡ some u → HasTicket u.stage r.served → ⊥
  not_theirs s r id v k at is now j u ne e has = ne (r.one_each j id r.served u v e at has (subst (λ (st : Stage). HasTicket st r.served) (sym is) now))

  -- what a pass knows stays right where another enters
  right_longer : (h : List E) (e : E) (n : ℕ) → pass_of e ≡ n → n < passes → (ks : List (PassView S E)) → count_number n ks ≡ 0 → Right h ks → Right (h ++ e ∷ []) ks
  right_longer h e n names made [] apart right = tt
  right_longer h e n names made (k ∷ ks) apart right = let not = not_among n k ks apart in let old = right.0.begun in
      let Other : E → Type 0 = λ d. IsOtherPass passes k.number (pass_of d) in (
        record {
          numbered = right.0.numbered;
          counted = right.0.counted;
          based = right.0.based;
          begun = (
            old.0 ++ e ∷ [],
            ap (λ (l : List E). l ++ e ∷ []) old.1 ∙ append_assoc k.seen old.0 (e ∷ []),
            All-append Other old.0 (e ∷ []) old.2 (All-cons Other e [] ((λ same. not.0 (sym same ∙ names)), omega arith) (All-nil _)),
          );
        },
        right_longer h e n names made ks not.1 right.1,
      )

  enter_one_keeps : (slots id k : ℕ) (known : PassView S E) (x : S) (c : List (ℕ × std.Option S)) (e : E) → history_of x ≡ known.seen ++ e ∷ [] → pass_of e ≡ known.number → length (history_of x) < 2 ^ 64 - 1
      → Allows Rule slots id (seat_view (known ∷ []) (Served k), c) 2 (λ n. (n + 1) % 2 ^ 64) (λ n m. Path Seat m (seat_view (pass_view known.number known.pass_count known.origin (history_of x) known.turns ∷ []) (Served k), c))
  enter_one_keeps slots id k known x c e tells names room s r _ at _ = let v : V = seat_view (known ∷ []) (Served k) in
      let fits = r.each_stage id v at in let right = r.each_right id v at in
      let whole : known.seen ≡ r.history = fits.3 in
      let longer : history_of x ≡ r.history ++ e ∷ [] = tells ∙ ap (λ (l : List E). l ++ e ∷ []) whole in
      let w : V = seat_view (pass_view known.number known.pass_count known.origin (history_of x) known.turns ∷ []) (Served k) in
      let added : List E = r.begins.0 ++ e ∷ [] in
      let begun : history_of x ≡ opened ++ added = longer ∙ (ap (λ (l : List E). l ++ e ∷ []) r.begins.1 ∙ append_assoc opened r.begins.0 (e ∷ [])) in
      let count : length added ≡ r.entered + 1 = let a = r.begins.2 in let b = length-append r.begins.0 (e ∷ []) in omega arith in
      let all_made : All (λ d. pass_of d < passes) added = let Made : E → Type 0 = λ d. pass_of d < passes in let made = right.0.numbered in
      All-append Made r.begins.0 (e ∷ []) r.begins.3 (All-cons Made e [] (omega arith) (All-nil _)) in
      let fitting : r.entered + 1 < 18446744073709551616 = let a = ap length begun in let b = length-append opened added in omega arith in
      let words : set s.words 2 ((get_or s.words 2 0 + 1) % 2 ^ 64) ≡ r.drawn % 2 ^ 64 ∷ r.served % 2 ^ 64 ∷ (r.entered + 1) ∷ [] =
      ap (λ ws. set ws 2 ((get_or ws 2 0 + 1) % 2 ^ 64)) r.words_are ∙ ap (λ (n : ℕ). r.drawn % 2 ^ 64 ∷ r.served % 2 ^ 64 ∷ n ∷ []) (mod-eq_of_lt fitting) in
      let alone = not_theirs s r id v k at refl fits.0 in (
        w,
        keeps,
        tt,
        step_keeps s r id v w _ s.homes (history_of x) r.drawn r.served (r.entered + 1) at words (added, begun, count, all_made)
            (inr (fits.4, (id, w, k, set_at s.views id v w at, refl)))
            (record { numbered = right.0.numbered; counted = right.0.counted; based = right.0.based; begun = ([], sym (append-nil (history_of x)), All-nil _) }, tt)
            (λ j u ne d. subst (λ (l : List E). Right l u.known) (sym longer) (right_longer r.history e known.number names right.0.numbered u.known
            (let both_count = total_two (times_in known.number) s.views j id u v ne d at in let at_most = r.all_differ known.number in let mine = counted_itself known in omega arith) (r.each_right j u d)))
            (fits.0, fits.1, refl, refl, fits.4)
            (λ j u ne d. let old = r.each_stage j u d in waits_on r.drawn r.served r.drawn r.served r.history (history_of x) s.homes s.homes (omega arith) u.stage u.known
            (λ i has. let in_range = within r.drawn r.served i r.history s.homes u.stage u.known old has in in_range.0) (alone j u ne d) old)
            (λ j i u ne d a b. ne (r.one_each j id i u v d at b a))
            (still_same r.served r.drawn (Served k) (Served k) (λ i has. has) (λ i. ℕ_discrete k i))
            (omega arith) (λ _. refl) refl,
        refl,
      )

  pub enter_keeps : (slots id k : ℕ) (me : Seat) (x : S) (e : E) → me.0.stage ≡ Served k → length me.0.known ≡ 1 → me.1 ≡ (0, Some x) ∷ [] → history_of x ≡ first_seen me.0.known ++ e ∷ [] → pass_of e ≡ first_number me.0.known
      → length (history_of x) < 2 ^ 64 - 1 → Allows Rule slots id me 2 (λ n. (n + 1) % 2 ^ 64) (Enters history_of (step slots 2 1 0 none) me)
  enter_keeps slots id k me x e is one slot tells names room = let o = as_one me.0 (Served k) one is in let known : PassView S E = o.0 in
      let tells' : history_of x ≡ known.seen ++ e ∷ [] = tells ∙ ap (λ (v : V). first_seen v.known ++ e ∷ []) o.1 in
      let names' : pass_of e ≡ known.number = names ∙ ap (λ (v : V). first_number v.known) o.1 in
      subst (λ (z : Seat). Allows Rule slots id z 2 (λ n. (n + 1) % 2 ^ 64) (Enters history_of (step slots 2 1 0 none) z)) (λ i. (sym o.1 i, sym slot i))
      (λ s r wide at small. let t = enter_one_keeps slots id k known x ((0, Some x) ∷ []) e tells' names' room s r wide at small in
      (t.0, t.1, t.2, t.3, λ y q. t.4 ∙ (λ i. (seat_view (pass_view known.number known.pass_count known.origin (history_of (value_of q i)) known.turns ∷ []) (Served k), (0, Some x) ∷ []))))
    where
      value_of : {y z : S} → Path (List (ℕ × std.Option S)) ((0, Some y) ∷ []) ((0, Some z) ∷ []) → y ≡ z
      value_of {y} q = ap (λ l. value_in (front l) y) q

  serve_one_keeps : (slots id k : ℕ) (known : PassView S E) (x : S) → history_of x ≡ known.seen → base x ≡ base known.origin
      → Allows Rule slots id (seat_view (known ∷ []) (Served k), (0, Some x) ∷ []) 1 (λ n. (n + 1) % 2 ^ 64) (λ n m. Path Seat m (seat_view (known ∷ []) Idle, []))
  serve_one_keeps slots id k known x tells same s r _ at _ = let v : V = seat_view (known ∷ []) (Served k) in let w : V = seat_view (known ∷ []) Idle in
      let fits = r.each_stage id v at in let right = r.each_right id v at in
      let whole : known.seen ≡ r.history = fits.3 in
      let words : set s.words 1 ((get_or s.words 1 0 + 1) % 2 ^ 64) ≡ r.drawn % 2 ^ 64 ∷ (r.served + 1) % 2 ^ 64 ∷ r.entered ∷ [] =
      ap (λ ws. set ws 1 ((get_or ws 1 0 + 1) % 2 ^ 64)) r.words_are ∙ ap (λ (n : ℕ). r.drawn % 2 ^ 64 ∷ n ∷ r.entered ∷ []) (mod-add-mod r.served (2 ^ 64) 1) in
      let home : IsHome (set s.homes 0 (some (Some x))) x = ap (λ hs. set hs 0 (some (Some x))) fits.4 in
      let alone = not_theirs s r id v k at refl fits.0 in (
        w,
        gives,
        tt,
        step_keeps s r id v w _ _ r.history r.drawn (r.served + 1) r.entered at words r.begins
            (inl (x, home, tells ∙ whole, same ∙ right.0.based))
            right (λ j u _ d. r.each_right j u d)
            tt
            (λ j u ne d. let old = r.each_stage j u d in waits_on r.drawn r.served r.drawn (r.served + 1) r.history r.history s.homes _ (omega arith) u.stage u.known
            (λ i has. let in_range = within r.drawn r.served i r.history s.homes u.stage u.known old has in let low : r.served ≤ i = in_range.0 in
            dite (ℕ_discrete i r.served) (λ is. absurd (alone j u ne d (subst (HasTicket u.stage) is has))) (λ other. omega arith)) (alone j u ne d) old)
            (λ j i u ne d a b. a)
            (λ i low high. let now : k ≡ r.served = fits.0 in inr (omega arith, high, λ (is : k ≡ i). omega arith))
            (omega arith) (λ _. refl) refl,
        refl,
      )

  pub serve_keeps : (slots id k : ℕ) (me : Seat) (x : S) → me.0.stage ≡ Served k → length me.0.known ≡ 1 → me.1 ≡ (0, Some x) ∷ [] → history_of x ≡ first_seen me.0.known → first_base base me.0.known ≡ Some (base x)
      → Allows Rule slots id me 1 (λ n. (n + 1) % 2 ^ 64) (Serves (step slots 1 1 0 none) me)
  serve_keeps slots id k me x is one slot tells same = let o = as_one me.0 (Served k) one is in let known : PassView S E = o.0 in
      let same' : base known.origin ≡ base x = Some_injective (subst (λ (v : V). first_base base v.known ≡ Some (base x)) o.1 same) in
      subst (λ (z : Seat). Allows Rule slots id z 1 (λ n. (n + 1) % 2 ^ 64) (Serves (step slots 1 1 0 none) z)) (λ i. (sym o.1 i, sym slot i))
      (serve_one_keeps slots id k known x (tells ∙ ap (λ (v : V). first_seen v.known) o.1) (sym same'))

  -- views with no ticket come or go: whoever has a ticket had it before
  abbrev OldTickets : List V → List V → Type 0
  OldTickets old new = (i k : ℕ) (v : V) → get_elem? new i ≡ some v → HasTicket v.stage k → get_elem? old i ≡ some v

  abbrev TicketsStay : List V → List V → Type 0
  TicketsStay old new = (i k : ℕ) (v : V) → get_elem? old i ≡ some v → HasTicket v.stage k → get_elem? new i ≡ some v

  -- views are changed that have no ticket, with the same passes in all
  reseated : (s : St) (r : Rule s) (views : List V) → OldTickets s.views views → TicketsStay s.views views → ((i : ℕ) (v : V) → get_elem? views i ≡ some v → Right r.history v.known)
      → ((i : ℕ) (v : V) → get_elem? views i ≡ some v → StageFits r.drawn r.served r.history s.homes v.stage v.known)
      → total tickets_out views ≡ total tickets_out s.views → total passes_in views ≡ total passes_in s.views → ((n : ℕ) → total (times_in n) views ≡ total (times_in n) s.views)
      → Rule record { words = s.words; homes = s.homes; views = views }
  reseated s r views old stays right stage tickets width numbers = record {
    history = r.history;
    drawn = r.drawn;
    served = r.served;
    entered = r.entered;
    words_are = r.words_are;
    begins = r.begins;
    placed = ⊎_elim (λ here. inl here) (λ out. inr (out.0, (out.1.0, out.1.1, out.1.2, stays out.1.0 out.1.2 out.1.1 out.1.3 (served_has out.1.2 out.1.1.stage out.1.4), out.1.4))) r.placed;
    each_right = right;
    each_stage = stage;
    each_out = λ k low high. let o = r.each_out k low high in (o.0, o.1, stays o.0 k o.1 o.2 o.3, o.3);
    one_each = λ i j k v w p q a b. r.one_each i j k v w (old i k v p a) (old j k w q b) a b;
    count_out = let a = r.count_out in omega arith;
    all_passes = width ∙ r.all_passes;
    all_differ = λ n. let a = r.all_differ n in let b = numbers n in omega arith;
    few = r.few;
  }

  right_head : (h : List E) (ks : List (PassView S E)) → Right h ks → Right h (only_first ks)
  right_head h [] right = tt
  right_head h (k ∷ ks) right = (right.0, tt)

  right_rest : (h : List E) (ks : List (PassView S E)) → Right h ks → Right h (without_first ks)
  right_rest h [] right = tt
  right_rest h (k ∷ ks) right = right.1

  right_append : (h : List E) (ks js : List (PassView S E)) → Right h ks → Right h js → Right h (ks ++ js)
  right_append h [] js a b = b
  right_append h (k ∷ ks) js a b = (a.0, right_append h ks js a.1 b)

  idle_fits : (drawn served : ℕ) (h : List E) (hs : Slots) (st : Stage) (ks : List (PassView S E)) → st ≡ Idle → StageFits drawn served h hs st ks
  idle_fits drawn served h hs st ks is = subst (λ (z : Stage). StageFits drawn served h hs z ks) (sym is) tt

  pub split_keeps : (id : ℕ) (v : V) → v.stage ≡ Idle → Splits Rule id v (later_passes v) (first_pass v)
  split_keeps id v idle s r at = let left : V = later_passes v in let right : V = first_pass v in let set_views : List V = set s.views id left in
      let known = r.each_right id v at in
      reseated s r (set_views ++ right ∷ [])
      (λ i k u e has. ⊎_elim
      (λ (t : get_elem? set_views i ≡ some u). ⊎_elim (λ (o : (i ≡ id) × (left ≡ u)). absurd (no_ticket k u.stage (ap (λ (z : V). z.stage) (sym o.1) ∙ idle) has)) (λ (o : (i ≢ id) × (get_elem? s.views i ≡ some u)). o.1) (at_set s.views id i left u t))
      (λ (t : right ≡ u). absurd (no_ticket k u.stage (ap (λ (z : V). z.stage) (sym t)) has)) (at_snoc set_views right u i e))
      (λ i k u e has. at_longer set_views (right ∷ []) i u (set_else s.views id i left (λ same. no_ticket k u.stage
      (ap (λ (z : V). z.stage) (sym (some-injective v u (sym at ∙ (ap (get_elem? s.views) (sym same) ∙ e)))) ∙ idle) has) ∙ e))
      (λ i u e. ⊎_elim
      (λ (t : get_elem? set_views i ≡ some u). ⊎_elim (λ (o : (i ≡ id) × (left ≡ u)). subst (λ (z : V). Right r.history z.known) o.1 (right_rest r.history v.known known)) (λ (o : (i ≢ id) × (get_elem? s.views i ≡ some u)). r.each_right i u o.1) (at_set s.views id i left u t))
      (λ (t : right ≡ u). subst (λ (z : V). Right r.history z.known) t (right_head r.history v.known known)) (at_snoc set_views right u i e))
      (λ i u e. ⊎_elim
      (λ (t : get_elem? set_views i ≡ some u). ⊎_elim (λ (o : (i ≡ id) × (left ≡ u)). idle_fits r.drawn r.served r.history s.homes u.stage u.known (ap (λ (z : V). z.stage) (sym o.1) ∙ idle)) (λ (o : (i ≢ id) × (get_elem? s.views i ≡ some u)). r.each_stage i u o.1) (at_set s.views id i left u t))
      (λ (t : right ≡ u). idle_fits r.drawn r.served r.history s.homes u.stage u.known (ap (λ (z : V). z.stage) (sym t))) (at_snoc set_views right u i e))
      (let a = total_set tickets_out s.views id v left at in let b = total_snoc tickets_out set_views right in omega arith)
      (let a = total_set passes_in s.views id v left at in let b = total_snoc passes_in set_views right in let c = length_parts v.known in omega arith)
      (λ n. let a = total_set (times_in n) s.views id v left at in let b = total_snoc (times_in n) set_views right in let c = counted_parts n v.known in omega arith)

  pub join_keeps : (id : ℕ) (v : V) (other : ℕ) (w : V) → v.stage ≡ Idle → w.stage ≡ Idle → Joins Rule id v other w (together v w) no_pass
  join_keeps id v other w idle idle' s r at apart there' = let one : V = together v w in let once : List V = set s.views id one in
      let there : get_elem? s.views other ≡ some w = sym (set_else s.views id other one apart) ∙ there' in
      let place : (i : ℕ) (u : V) → get_elem? (set once other no_pass) i ≡ some u → (no_pass ≡ u) ⊎ ((one ≡ u) ⊎ (get_elem? s.views i ≡ some u)) =
      λ i u e. ⊎_elim (λ (t : (i ≡ other) × (no_pass ≡ u)). inl t.1) (λ (t : (i ≢ other) × (get_elem? once i ≡ some u)). inr (⊎_elim (λ (o : (i ≡ id) × (one ≡ u)). inl o.1) (λ (o : (i ≢ id) × (get_elem? s.views i ≡ some u)). inr o.1) (at_set s.views id i one u t.1))) (at_set once other i no_pass u e) in
      let stage_of : V → Stage = λ z. z.stage in
      let sums : (f : V → ℕ) → f one ≡ f w + f v → f no_pass ≡ 0 → total f (set once other no_pass) ≡ total f s.views =
      λ f both_are none_is. let a = total_set f s.views id v one at in let b = total_set f once other w no_pass there' in omega arith in
      reseated s r (set once other no_pass)
      (λ i k u e has. ⊎_elim (λ (t : no_pass ≡ u). absurd (no_ticket k u.stage (ap stage_of (sym t)) has))
      (⊎_elim (λ (t : one ≡ u). absurd (no_ticket k u.stage (ap stage_of (sym t) ∙ idle) has)) (λ (t : get_elem? s.views i ≡ some u). t)) (place i u e))
      (λ i k u e has. set_else once other i no_pass (λ same. no_ticket k u.stage (ap stage_of (sym (some-injective w u (sym there ∙ (ap (get_elem? s.views) (sym same) ∙ e)))) ∙ idle') has)
      ∙ (set_else s.views id i one (λ same. no_ticket k u.stage (ap stage_of (sym (some-injective v u (sym at ∙ (ap (get_elem? s.views) (sym same) ∙ e)))) ∙ idle) has) ∙ e))
      (λ i u e. ⊎_elim (λ (t : no_pass ≡ u). subst (λ (z : V). Right r.history z.known) t tt)
      (⊎_elim (λ (t : one ≡ u). subst (λ (z : V). Right r.history z.known) t (right_append r.history w.known v.known (r.each_right other w there) (r.each_right id v at))) (λ (t : get_elem? s.views i ≡ some u). r.each_right i u t)) (place i u e))
      (λ i u e. ⊎_elim (λ (t : no_pass ≡ u). idle_fits r.drawn r.served r.history s.homes u.stage u.known (ap stage_of (sym t)))
      (⊎_elim (λ (t : one ≡ u). idle_fits r.drawn r.served r.history s.homes u.stage u.known (ap stage_of (sym t) ∙ idle)) (λ (t : get_elem? s.views i ≡ some u). r.each_stage i u t)) (place i u e))
      (sums tickets_out (let a : tickets_out v ≡ 0 = ap tickets_of idle in let b : tickets_out w ≡ 0 = ap tickets_of idle' in let c : tickets_out one ≡ 0 = ap tickets_of idle in omega arith) refl)
      (sums passes_in (length-append w.known v.known) refl)
      (λ n. sums (times_in n) (counted_append n w.known v.known) refl)

  -- at the start
  right_new : (x : S) (a c : ℕ) → base x ≡ one_base → a + c ≤ passes → Right opened (new_views passes x opened a c)
  right_new x a zero same fit = tt
  right_new x a (suc c) same fit = (record { numbered = omega arith; counted = refl; based = same; begun = ([], sym (append-nil opened), All-nil _) }, right_new x (suc a) c same (omega arith))

  -- with the seats of all passes in one, the value is at home, and it is as each of them knows
  pub close_finds : (s : St) (r : Rule s) (id : ℕ) (v : V) → get_elem? s.views id ≡ some v → v.stage ≡ Idle → length v.known ≡ passes → 0 < passes → (x : S) × IsHome s.homes x × AreRight base pass_of (base x) passes (history_of x) v.known
  close_finds s r id v at idle all some_pass = from r.placed
    where
      from : IsPlaced base history_of pass_of one_base opened passes r.history s.homes s.views → (x : S) × IsHome s.homes x × AreRight base pass_of (base x) passes (history_of x) v.known
      from (inl here) = (here.0, here.1, subst (λ (z : C × List E). AreRight base pass_of z.0 passes z.1 v.known) (λ i. (sym here.3 i, sym here.2 i)) (r.each_right id v at))
      from (inr out) = let seat : ℕ = out.1.0 in let u : V = out.1.1 in let k : ℕ = out.1.2 in
          let fits = subst (λ (st : Stage). StageFits r.drawn r.served r.history s.homes st u.known) out.1.4 (r.each_stage seat u out.1.3) in
          let two = total_two passes_in s.views seat id u v (λ same. idle_not_served v.stage k idle (ap (λ (z : V). z.stage) (some-injective v u (sym at ∙ (ap (get_elem? s.views) (sym same) ∙ out.1.3))) ∙ out.1.4)) out.1.3 at in
          let width : length u.known ≡ 1 = fits.2 in let every = r.all_passes in absurd (omega arith)

  pub open_keeps : (x : S) → base x ≡ one_base → history_of x ≡ opened → passes < 2 ^ 32 → Rule record { words = 0 ∷ 0 ∷ 0 ∷ []; homes = some (Some x) ∷ []; views = opening_view x opened passes ∷ [] }
  open_keeps x same tells few = let v : V = opening_view x opened passes in record {
    history = opened;
    drawn = 0;
    served = 0;
    entered = 0;
    words_are = refl;
    begins = ([], sym (append-nil opened), refl, All-nil _);
    placed = inl (x, refl, tells, same);
    each_right = λ i u e. subst (λ (z : V). Right opened z.known) (only i v u e) (right_new x 0 passes same (omega arith));
    each_stage = λ i u e. subst (λ (z : V). StageFits 0 0 opened (some (Some x) ∷ []) z.stage z.known) (only i v u e) tt;
    each_out = λ k low high. absurd (omega arith);
    one_each = λ i j k u w p q a b. absurd (subst (λ (z : V). HasTicket z.stage k) (sym (only i v u p)) a);
    count_out = refl;
    all_passes = let a = length_new passes 0 passes x opened in omega arith;
    all_differ = λ n. let a = counted_new n passes 0 passes x opened in omega arith;
    few = few;
  }
    where
      only : (i : ℕ) (v u : V) → get_elem? (v ∷ []) i ≡ some u → v ≡ u
      only zero v u e = some-injective v u e
      only (suc i) v u e = absurd (some-ne-none u (sym e))
