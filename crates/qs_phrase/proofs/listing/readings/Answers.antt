use Rattle.std.proofs.Common.{◌≡◌, ◌++◌, ◌∷◌, [], ◌∙◌, length, map, sym, ap, subst, arith, true, ℕ, List, Vec, Global}
use Rattle.std.proofs.lemmas.List.{map_push, length_push, length-map}
use Rattle.qs_tree.proofs.Decisions.{true_false}
use Rattle.qs_phrase.specs.working.Walking.{GoesOn}
use Rattle.qs_phrase.proofs.Listed.{IsListed, listed_none, listed_more, first_are, further_is}
use Rattle.qs_phrase.proofs.listing.readings.Goals as goal
use Rattle.qs_phrase.proofs.listing.readings.Goals.{then-loop-more-test+else-len-most, else-loop-more-test}

pub loop-more-init : goal.loop-more-init
loop-more-init c =
    let G = c.args.g.now in
    let none : c.new-paths.result.items ≡ [] = c.new-paths.ensures.items in (
      subst (λ (ps : List (Vec ℕ Global)). IsListed G c.go_on.new.path.items (map (λ p. p.items) ps) true) (sym none)
          (listed_none G c.in_ok-leaving.ensures.valid c.entry.result c.go_on.new.path.items c.entry.ensures (subst (λ (ks : List ℕ). GoesOn G c.entry.result ks c.go_on.new.path.items) c.new-path.ensures.items c.in_ok-go_on.ensures)),
      omega (arith, ap (λ (ps : List (Vec ℕ Global)). length ps) none),
    )

pub loop-more-preserved : goal.loop-more-preserved
loop-more-preserved c =
    let G = c.args.g.now in
    let same : c.in_ok-reading.reading.items ≡ c.loop-more.path.items = c.in_ok-reading.ensures.items ∙ c.deref.ensures.value in
    let longer : map (λ (p : Vec ℕ Global). p.items) c.push.new.self.items ≡ map (λ (p : Vec ℕ Global). p.items) c.loop-more.paths.items ++ c.loop-more.path.items ∷ [] =
    ap (map (λ (p : Vec ℕ Global). p.items)) c.in_ok-push.ensures.items ∙ map_push (λ (p : Vec ℕ Global). p.items) c.loop-more.paths.items c.in_ok-reading.reading
    ∙ ap (λ ks. map (λ (p : Vec ℕ Global). p.items) c.loop-more.paths.items ++ ks ∷ []) same in
    let x = subst (λ b. IsListed G c.loop-more.path.items (map (λ (p : Vec ℕ Global). p.items) c.loop-more.paths.items) b) c.loop-more-test.true c.loop-more.invariant.0 in (
      subst (λ ps. IsListed G c.go_over.new.path.items ps c.in_ok-more.more) (sym longer)
          (listed_more G c.loop-more.path.items (map (λ (p : Vec ℕ Global). p.items) c.loop-more.paths.items) c.go_over.new.path.items c.in_ok-more.more c.in_ok-more.ensures.next c.in_ok-more.ensures.last x),
      omega (arith, ap (λ (ps : List (Vec ℕ Global)). length ps) c.in_ok-push.ensures.items, length_push c.loop-more.paths.items c.in_ok-reading.reading, c.loop-more.paths.ok.0),
    )

pub returns-clause-first : goal.returns-clause-first
returns-clause-first c =
    let long = length-map c.loop-more.paths.items (λ (p : Vec ℕ Global). p.items) in
    first_are c.args.g.now c.loop-more.path.items (map (λ (p : Vec ℕ Global). p.items) c.loop-more.paths.items) c.loop-more.more c.args.most (omega (arith, long, c.loop-more.invariant.1))
    (elim c.loop-more-test.branch [
      | then-loop-more-test+else-len-most w ↦ (λ e. omega (arith, long, c.loop-more.invariant.1, c.loop-more.paths.ok.0, w.len.ensures, w.if-len-most.false))
      | else-loop-more-test w ↦ (λ e. absurd (true_false w.loop-more-test.false e))
    ])
    c.loop-more.invariant.0

pub returns-clause-more : goal.returns-clause-more
returns-clause-more c =
    further_is c.args.g.now c.loop-more.path.items (map (λ (p : Vec ℕ Global). p.items) c.loop-more.paths.items) c.loop-more.more c.loop-more.invariant.0
