use Rattle.std.proofs.Common.{subst}
use Rattle.qs_tree.proofs.Kept.{kept-further, on_err}
use Rattle.qs_tree.specs.Lists.{◌∈◌}
use Rattle.qs_graphtext.proofs.Written.{begins}
use Rattle.qs_graphtext.proofs.writing.append_graph.Goals as goal

pub append_arcs-requires : goal.append_arcs-requires
append_arcs-requires c = λ arc i. c.requires arc (subst (λ arcs. arc ∈ arcs) c.edges.ensures.value i)

pub returns-in_err-append_arcs-clause-err : goal.returns-in_err-append_arcs-clause-err
returns-in_err-append_arcs-clause-err c =
    on_err _ (kept-further c.args.out.now.items c.extend_from_slice.new.self.items _ (begins c.args.out.now.items _ c.extend_from_slice.new.self.items c.in_ok-extend_from_slice.ensures.items) c.in_err-append_arcs.ensures.err)
