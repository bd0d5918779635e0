use Rattle.qs_pattern.proofs.SubstitutionLemmas.{IsSubstitution-push}
use Rattle.qs_pattern.proofs.subst.Subst.add.Goals as goal

pub invariant_of-self-2 : goal.invariant_of-self-2
invariant_of-self-2 c =
    rw c.in_ok-push.ensures.items (IsSubstitution-push _ _ _ c.self.invariant (rw c.self.view_is c.requires.absent) c.requires.class)
