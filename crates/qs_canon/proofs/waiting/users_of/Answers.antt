use Rattle.std.proofs.Common.{◌≡◌, ◌<◌, length, ap, subst, arith, ℕ, List, Global}
use Rattle.std.specs.declared.vec.Vec.{Vec}
use Rattle.qs_tree.specs.Lists.{◌∈◌}
use Rattle.qs_tree.proofs.Members.{in_read, in_map}
use Rattle.qs_core.specs.Core.{Fired}
use Rattle.qs_canon.specs.working.CanonNumbers.{IsEntered}
use Rattle.qs_canon.proofs.CanonNumbers.{no_users, users_more, written_back}
use Rattle.qs_canon.proofs.waiting.users_of.Goals as goal

pub loop-number-init : goal.loop-number-init
loop-number-init c = record { long = c.in_ok-users.ensures.len; users = no_users c.in_ok-users.users.items c.in_ok-users.ensures.empty }

pub add_user-requires : goal.add_user-requires
add_user-requires c = λ k i.
    let n = c.loop-number.number in
    let d = c.index-fired-number.result in
    let h : n < length c.args.fired.now = omega arith in
    let there = in_map (λ (x : Fired). x.firing.path) c.args.fired.now d (in_read c.args.fired.now n d h c.index-fired-number.is) in
    let low = c.requires.arcs d.firing.path there k (subst (λ (ks : List ℕ). k ∈ ks) c.path_of.ensures i) in
    let same = ap (λ (xs : List (Vec ℕ Global)). length xs) c.deref_mut.ensures.value in
    omega (arith, low, same, c.loop-number.invariant.long)

pub loop-number-preserved : goal.loop-number-preserved
loop-number-preserved c =
    let n = c.loop-number.number in
    let d = c.index-fired-number.result in
    let h : n < length c.args.fired.now = omega arith in
    let same = ap (λ (xs : List (Vec ℕ Global)). length xs) c.deref_mut.ensures.value in
    let long : length c.add_user.new.users ≡ c.loop-number.users.len = omega (arith, same, c.loop-number.users.ok.0) in
    let whole = written_back c.add_user.new.users c.loop-number.users.items c.loop-number.users.len long in
    let entered = subst (λ (xs : List (Vec ℕ Global)). IsEntered n d.firing.path xs c.add_user.new.users) c.deref_mut.ensures.value
    (subst (λ (ks : List ℕ). IsEntered n ks c.deref_mut.result.now c.add_user.new.users) c.path_of.ensures c.in_ok-add_user.ensures) in
    rw whole (record {
      long = omega (arith, long, c.loop-number.users.ok.0, c.loop-number.invariant.long);
      users = users_more c.args.fired.now n d c.loop-number.users.items c.add_user.new.users h c.index-fired-number.is c.loop-number.invariant.users entered;
    })
