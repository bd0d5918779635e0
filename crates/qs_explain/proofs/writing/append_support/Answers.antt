use Rattle.std.proofs.Common.{◌≡◌, ◌∙◌, ap, subst}
use Rattle.qs_tree.specs.Lists.{◌∈◌}
use Rattle.qs_explain.specs.Support.{SupportOf}
use Rattle.qs_explain.proofs.Grounded.{supported_within, firing_added}
use Rattle.qs_explain.proofs.writing.append_support.Goals as goal

pub append_arcs-requires-clause-within : goal.append_arcs-requires-clause-within
append_arcs-requires-clause-within c = λ k i.
    let is : c.deref.result.now ≡ c.args.support.now.arcs = c.deref.ensures.value ∙ ap (λ (s : SupportOf). s.arcs) c.support.view_is in
    supported_within c.args.closure.now c.requires.closure k ((c.requires.support.arcs_are k).0 (subst (λ ks. k ∈ ks) is i))

pub append_firings-requires-clause-added : goal.append_firings-requires-clause-added
append_firings-requires-clause-added c = λ i j.
    let is : c.deref-2.result.now ≡ c.args.support.now.firings = c.deref-2.ensures.value ∙ ap (λ (s : SupportOf). s.firings) c.support.view_is in
    firing_added c.args.closure.now.stage i ((c.requires.support.firings_are i).0 (subst (λ ks. i ∈ ks) is j))
