use Rattle.std.proofs.Common.{◌++◌, ap, ◌∙◌, sym, append_assoc, refl}
use Rattle.qs_tree.proofs.Kept.{kept-append, kept-further, on_err}
use Rattle.qs_ruletext.proofs.PatternTexts.{kept_first, behind_first, named_first, named_here, joined_first, behind_more, behind_done}
use Rattle.qs_ruletext.proofs.writing.append_patterns.Goals as goal

pub append_pattern-requires : goal.append_pattern-requires
append_pattern-requires c = (named_first c.args.names.now c.args.list.now c.first-item.result c.in-len1-up.len_at_least c.first-item.is _ c.requires).0

pub loop-pattern-init : goal.loop-pattern-init
loop-pattern-init c =
    record {
      written = refl;
      kept = kept_first c.args.out.now.items _ _ c.in_ok-append_pattern.ensures.ok;
      named = (named_first c.args.names.now c.args.list.now c.first-item.result c.in-len1-up.len_at_least c.first-item.is _ c.requires).1;
    }

pub append_pattern-requires-in-loop-pattern : goal.append_pattern-requires-in-loop-pattern
append_pattern-requires-in-loop-pattern c =
    (named_here c.args.names.now _ _ c.loop-pattern.pattern-index c.pattern-item.result c.loop-pattern-test.true c.pattern-item.is c.loop-pattern.invariant.named).0

pub returns-in_err-append_pattern-2-clause-err : goal.returns-in_err-append_pattern-2-clause-err
returns-in_err-append_pattern-2-clause-err c =
    on_err _
    (kept-further _ c.extend_from_slice.new.self.items _ (kept-append _ c.loop-pattern.out.items _ _ c.loop-pattern.invariant.kept c.in_ok-extend_from_slice.ensures.items)
    c.in_err-append_pattern-2.ensures.err)

pub loop-pattern-preserved : goal.loop-pattern-preserved
loop-pattern-preserved c =
    record {
      written =
          behind_more c.args.names.now 0 _ c.loop-pattern.pattern-index c.pattern-item.result c.loop-pattern-test.true c.pattern-item.is c.args.between.now
          _ _ _ _ c.in_ok-extend_from_slice.ensures.items c.in_ok-append_pattern-2.ensures.ok c.loop-pattern.invariant.written;
      kept =
          kept-append _ c.extend_from_slice.new.self.items _ _
          (kept-append _ c.loop-pattern.out.items _ _ c.loop-pattern.invariant.kept c.in_ok-extend_from_slice.ensures.items) c.in_ok-append_pattern-2.ensures.ok;
      named =
          (named_here c.args.names.now _ _ c.loop-pattern.pattern-index c.pattern-item.result c.loop-pattern-test.true c.pattern-item.is c.loop-pattern.invariant.named).1;
    }

pub returns-clause-ok : goal.returns-clause-ok
returns-clause-ok c =
    behind_done c.args.names.now _ c.loop-pattern.pattern-index c.args.between.now _ _ c.loop-pattern-test.false c.loop-pattern.invariant.written
    ∙ ap (λ xs. xs ++ behind_first c.args.names.now c.args.between.now c.args.list.now) c.in_ok-append_pattern.ensures.ok
    ∙ append_assoc c.args.out.now.items _ _
    ∙ ap (λ xs. c.args.out.now.items ++ xs) (sym (joined_first c.args.names.now c.args.list.now c.first-item.result c.in-len1-up.len_at_least c.first-item.is c.args.between.now))
