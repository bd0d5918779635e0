use Rattle.std.proofs.Common.{◌≡◌, ℕ, List, length, take, get_or, true, false, Option, Some, None, nat_eq, sym, ap, ◌∙◌, subst, refl, arith}
use Rattle.std.specs.Prelude.{is_some}
use Rattle.std.specs.HashMap.{get}
use Rattle.std.proofs.lemmas.List.{take_all}
use Rattle.qs_tree.specs.declared.cell.Label.{Label}
use Rattle.qs_levels.specs.Certificates.{LevelCertificate}
use Rattle.qs_levels.specs.working.Accepting.{IsWellFormed, AreLevels, AreBelow}
use Rattle.qs_levels.proofs.Known.{no_levels, is_pair, below_more, twice, levels_more}
use Rattle.qs_levels.proofs.accepting.known_levels.Goals as goal

some_of : (o : Option ℕ) → is_some o ≡ true → (m : ℕ) × (o ≡ Some m)
some_of None e = absurd cc
some_of (Some m) e = (m, refl)

none_of : (o : Option ℕ) → is_some o ≡ false → o ≡ None
none_of None e = refl
none_of (Some m) e = absurd cc

pub loop-label-init : goal.loop-label-init
loop-label-init c = (no_levels (λ n. get nat_eq c.new-known.result n) (λ n. rw c.new-known.ensures.empty), (λ l n i. absurd i), omega (arith, c.if-levels-eq0.false))

pub returns-then-level-levels : goal.returns-then-level-levels
returns-then-level-levels c = λ w.
    let v = subst IsWellFormed (sym c.levels.view_is) w in
    let low = v.below (get_or c.deref-label-items.result.now c.loop-label.label-index (record { 0 = 0 }, 0)).0 (get_or c.deref-label-items.result.now c.loop-label.label-index (record { 0 = 0 }, 0)).1 (is_pair c.levels.inside.of.items c.loop-label.label-index (get_or c.deref-label-items.result.now c.loop-label.label-index (record { 0 = 0 }, 0)) (record { 0 = 0 }, 0) (let long = ap (λ (ps : List (Label × ℕ)). length ps) c.deref-label-items.ensures.value in omega (arith, c.loop-label-test.true)) (ap (λ (ps : List (Label × ℕ)). get_or ps c.loop-label.label-index (record { 0 = 0 }, 0)) c.deref-label-items.ensures.value)) in
    omega (arith, c.if-level-levels.true)

pub returns-then-is_some : goal.returns-then-is_some
returns-then-is_some c = λ w.
    let v = subst IsWellFormed (sym c.levels.view_is) w in
    let (m, e) = some_of c.in_ok-insert.field-0 (sym c.is_some.ensures ∙ c.if-is_some.true) in
    twice c.levels.inside.of.items c.loop-label.label-index (get_or c.deref-label-items.result.now c.loop-label.label-index (record { 0 = 0 }, 0)) (record { 0 = 0 }, 0) (let long = ap (λ (ps : List (Label × ℕ)). length ps) c.deref-label-items.ensures.value in omega (arith, c.loop-label-test.true)) (ap (λ (ps : List (Label × ℕ)). get_or ps c.loop-label.label-index (record { 0 = 0 }, 0)) c.deref-label-items.ensures.value) (λ n. get nat_eq c.loop-label.known n) c.loop-label.invariant.0 m (sym c.in_ok-insert.ensures.old ∙ e) v.once

pub loop-label-preserved : goal.loop-label-preserved
loop-label-preserved c =
    let none = none_of c.in_ok-insert.field-0 (sym c.is_some.ensures ∙ c.if-is_some.false) in (
      levels_more c.levels.inside.of.items c.loop-label.label-index (get_or c.deref-label-items.result.now c.loop-label.label-index (record { 0 = 0 }, 0)) (record { 0 = 0 }, 0) (let long = ap (λ (ps : List (Label × ℕ)). length ps) c.deref-label-items.ensures.value in omega (arith, c.loop-label-test.true)) (ap (λ (ps : List (Label × ℕ)). get_or ps c.loop-label.label-index (record { 0 = 0 }, 0)) c.deref-label-items.ensures.value) (λ n. get nat_eq c.loop-label.known n) c.loop-label.invariant.0 (λ n. get nat_eq c.insert.new.self n) (sym c.in_ok-insert.ensures.old ∙ none) c.in_ok-insert.ensures.updates.0,
      below_more c.levels.inside.of.items c.loop-label.label-index (get_or c.deref-label-items.result.now c.loop-label.label-index (record { 0 = 0 }, 0)) (record { 0 = 0 }, 0) (let long = ap (λ (ps : List (Label × ℕ)). length ps) c.deref-label-items.ensures.value in omega (arith, c.loop-label-test.true)) (ap (λ (ps : List (Label × ℕ)). get_or ps c.loop-label.label-index (record { 0 = 0 }, 0)) c.deref-label-items.ensures.value) c.levels.inside.count c.if-level-levels.false c.loop-label.invariant.1,
      c.loop-label.invariant.2,
    )

pub returns : goal.returns
returns c =
    let long = ap (λ (ps : List (Label × ℕ)). length ps) c.deref-label-items.ensures.value in
    let all : take c.loop-label.label-index c.levels.inside.of.items ≡ c.levels.inside.of.items = take_all c.loop-label.label-index c.levels.inside.of.items (omega (arith, c.loop-label-test.false)) in
    let a : AreLevels c.levels.inside.of.items (λ n. get nat_eq c.loop-label.known n) = subst (λ (ps : List (Label × ℕ)). AreLevels ps (λ n. get nat_eq c.loop-label.known n)) all c.loop-label.invariant.0 in
    let b : AreBelow c.levels.inside.of.items c.levels.inside.count = subst (λ (ps : List (Label × ℕ)). AreBelow ps c.levels.inside.count) all c.loop-label.invariant.1 in
    subst (λ (d : LevelCertificate). IsWellFormed d × AreLevels d.of (λ n. get nat_eq c.loop-label.known n)) c.levels.view_is (record { some = c.loop-label.invariant.2; below = b; once = a.once }, a)
