use Rattle.std.proofs.Common.{◌≡◌, length, ◌∷◌, [], ap, sym, subst, arith, ℕ, List, Global, length-append}
use Rattle.std.specs.declared.vec.Vec.{Vec}
use Rattle.qs_canon.specs.working.CanonCounts.{users_at}
use Rattle.qs_canon.proofs.CanonNumbers.{empty_more}
use Rattle.qs_canon.proofs.waiting.empty_lists.Goals as goal

pub loop-preserved : goal.loop-preserved
loop-preserved c = record {
  long =
      let e = ap (λ (xs : List (Vec ℕ Global)). length xs) c.in_ok-push.ensures.items in
      let m = length-append c.loop.lists.items (c.new.result ∷ []) in
      omega (arith, e, m, c.loop.invariant.long);
  empty = λ k. subst (λ (xs : List (Vec ℕ Global)). users_at xs k ≡ []) (sym c.in_ok-push.ensures.items) (empty_more c.loop.lists.items c.new.result c.new.ensures.items c.loop.invariant.empty k);
}
