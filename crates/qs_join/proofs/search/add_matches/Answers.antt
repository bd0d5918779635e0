use Rattle.std.proofs.Common.{[], ◌∷◌, ◌++◌, ap, ◌∙◌}
use Rattle.qs_join.proofs.Matching.{seen_more, is_one, values_more, values_past}
use Rattle.qs_join.proofs.search.add_matches.Goals as goal

pub is_allowed-requires : goal.is_allowed-requires
is_allowed-requires c =
    let (trees, m) = c.requires in
    let x = c.loop-subst.invariant in
    (trees, m c.in-Some.subst (is_one c.args.matches.items x.seen _ _ c.in-Some.subst x.all c.in-Some.ensures.steps.0))

pub loop-subst-preserved-then-not-branch : goal.loop-subst-preserved-then-not-branch
loop-subst-preserved-then-not-branch c =
    let s = c.args.search.now in
    let x = c.loop-subst.invariant in
    record {
      seen = x.seen ++ c.in-Some.subst ∷ [];
      all = seen_more c.args.matches.items x.seen _ _ c.in-Some.subst x.all c.in-Some.ensures.steps.0;
      finds = values_past s.number s.rule.now c.args.path.now x.seen c.in-Some.subst c.args.found.now.items c.loop-subst.found.items
          (λ h. let k = c.in_ok-is_allowed.ensures.1 h in absurd cc) x.finds;
    }

pub loop-subst-preserved : goal.loop-subst-preserved
loop-subst-preserved c =
    let s = c.args.search.now in
    let x = c.loop-subst.invariant in
    record {
      seen = x.seen ++ c.in-Some.subst ∷ [];
      all = seen_more c.args.matches.items x.seen _ _ c.in-Some.subst x.all c.in-Some.ensures.steps.0;
      finds = values_more s.number s.rule.now c.args.path.now x.seen c.in-Some.subst c.args.found.now.items c.loop-subst.found.items c.push.new.self.items
          (c.in_ok-is_allowed.ensures.0 cc)
          (c.in_ok-push.ensures.items ∙ ap (λ ks. c.loop-subst.found.items ++ record { rule = s.number; path = ks; values = c.in-Some.subst } ∷ []) c.in_ok-path.ensures.items)
          x.finds;
    }
