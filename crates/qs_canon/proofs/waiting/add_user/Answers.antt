use Rattle.std.proofs.Common.{◌≡◌, ◌<◌, length, get_or, ◌∷◌, [], ◌++◌, ◌∙◌, ap, sym, arith, ℕ, Global}
use Rattle.std.specs.declared.vec.Vec.{Vec}
use Rattle.qs_tree.proofs.Members.{in_get_or}
use Rattle.qs_canon.proofs.CanonNumbers.{entered_more}
use Rattle.qs_canon.proofs.waiting.add_user.Goals as goal

pub bounds-users-arc : goal.bounds-users-arc
bounds-users-arc c =
    let h : c.loop-arc.arc-index < length c.args.path.now = omega arith in
    omega (arith, c.requires (get_or c.args.path.now c.loop-arc.arc-index 0) (in_get_or c.args.path.now c.loop-arc.arc-index 0 h), c.loop-arc.auto.users)

pub loop-arc-preserved : goal.loop-arc-preserved
loop-arc-preserved c =
    let i = c.loop-arc.arc-index in
    let k = get_or c.args.path.now i 0 in
    let h : i < length c.args.path.now = omega arith in
    let within : k < length c.loop-arc.users = omega (arith, c.requires k (in_get_or c.args.path.now i 0 h), c.loop-arc.auto.users) in
    let is : c.push.new.self.items ≡ c.index-users-arc.result.items ++ c.args.number ∷ [] = c.in_ok-push.ensures.items ∙ ap (λ (u : Vec ℕ Global). u.items ++ c.args.number ∷ []) (sym c.index-users-arc.is) in
    entered_more c.args.number c.args.path.now i c.args.users.now c.loop-arc.users c.index-users-arc.result c.push.new.self h within c.index-users-arc.is is c.loop-arc.invariant
