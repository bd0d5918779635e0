use Rattle.std.proofs.Common.{◌∙◌, ◌++◌, ℕ, List, length, ap, arith}
use Rattle.qs_cascade.proofs.Leaves.{behind_end, behind_grows, behind_named, closure_few}
use Rattle.qs_telling.proofs.Tellings.{support_behind, arcs_named}
use Rattle.qs_telling.proofs.telling.Teller.tell_support.Goals as goal

pub end_behind-requires-clause-few : goal.end_behind-requires-clause-few
end_behind-requires-clause-few g c =
    closure_few c.args.grammar.now c.args.graph.now c.args.self.now.limit c.in_ok-closure.closure c.in_ok-closure.ensures.end (omega (arith, c.requires.can_tell.limit.high))

pub block-requires-clause-left : goal.block-requires-clause-left
block-requires-clause-left g c =
    behind_named c.args.grammar.now c.args.graph.now c.args.self.now.limit c.in_ok-closure.closure c.in_ok-end.end c.in_ok-end.ensures c.in_ok-closure.ensures.labels
    (length c.args.self.now.names.now) c.requires.can_tell.rules_named c.requires.can_tell.arcs_named

pub append_support-requires-clause-few : goal.append_support-requires-clause-few
append_support-requires-clause-few g c =
    closure_few c.args.grammar.now c.args.graph.now c.args.self.now.limit c.in_ok-closure.closure c.in_ok-closure.ensures.end (omega (arith, c.requires.can_tell.limit.high))

pub append_support-requires-clause-named : goal.append_support-requires-clause-named
append_support-requires-clause-named g c =
    arcs_named c.args.grammar.now c.args.graph.now c.in_ok-closure.closure c.in_ok-closure.ensures.labels
    (length c.args.self.now.names.now) c.requires.can_tell.rules_named c.requires.can_tell.arcs_named

pub returns : goal.returns
returns g c =
    let (behind, is, same) = c.in_ok-append_support.ensures in record {
      stage = record {
        end = behind_end c.args.grammar.now c.args.graph.now c.args.self.now.limit c.in_ok-closure.closure c.in_ok-end.end c.in_ok-end.ensures c.in_ok-closure.ensures.end;
        grows = behind_grows c.args.grammar.now c.args.graph.now c.args.self.now.limit c.in_ok-closure.closure c.in_ok-end.end c.in_ok-end.ensures c.in_ok-closure.ensures.valid c.in_ok-closure.ensures.grows;
        labels = behind_named c.args.grammar.now c.args.graph.now c.args.self.now.limit c.in_ok-closure.closure c.in_ok-end.end c.in_ok-end.ensures c.in_ok-closure.ensures.labels;
      };
      told = (
        behind,
        support_behind c.args.self.now.limit c.args.self.now.names.now c.args.grammar.now c.args.graph.now c.in_ok-closure.closure c.in_ok-end.end c.in_ok-end.ensures c.in_ok-closure.ensures.end
            behind is,
        same ∙ ap (λ (bytes : List ℕ). bytes ++ behind) c.in_ok-text.ensures,
      );
    }
