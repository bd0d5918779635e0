use Rattle.std.proofs.Common.{◌++◌, ap, ◌∙◌}
use Rattle.qs_tree.proofs.Kept.{kept-further, on_err}
use Rattle.qs_tree.specs.Text.{tree_text}
use Rattle.qs_graph.specs.Graphs.{Arc}
use Rattle.qs_graphtext.specs.Texts.{node_mark}
use Rattle.qs_graphtext.proofs.Written.{arc_done, kept_four}
use Rattle.qs_graphtext.proofs.writing.append_arc.Goals as goal

pub returns-in_err-append_mark-2-clause-err : goal.returns-in_err-append_mark-2-clause-err
returns-in_err-append_mark-2-clause-err c =
    on_err _ (kept-further c.args.out.now.items c.extend_from_slice-2.new.self.items _
    (kept_four c.args.out.now.items c.append_mark.new.out.items c.extend_from_slice.new.self.items c.write_tree.new.out.items c.extend_from_slice-2.new.self.items _ _ (node_mark c.args.arc.now.to)
    c.in_ok-append_mark.ensures.ok c.in_ok-extend_from_slice.ensures.items c.in_ok-write_tree.ensures.ok c.in_ok-extend_from_slice-2.ensures.items)
    c.in_err-append_mark-2.ensures.err)

pub returns-clause-ok : goal.returns-clause-ok
returns-clause-ok c =
    let from = ap (λ (x : Arc). node_mark x.from) c.arc.view_is in
    let to = ap (λ (x : Arc). node_mark x.to) c.arc.view_is in
    let tree = c.view.ensures ∙ c.deref.ensures ∙ ap (λ (x : Arc). x.tree) c.arc.view_is in
    arc_done c.args.out.now.items c.append_mark.new.out.items c.extend_from_slice.new.self.items c.write_tree.new.out.items c.extend_from_slice-2.new.self.items
    (node_mark c.args.arc.now.from) (tree_text c.args.names.now c.args.arc.now.tree) (node_mark c.args.arc.now.to)
    (c.in_ok-append_mark.ensures.ok ∙ ap (λ m. c.args.out.now.items ++ m) from) c.in_ok-extend_from_slice.ensures.items
    (c.in_ok-write_tree.ensures.ok ∙ ap (λ t. c.extend_from_slice.new.self.items ++ tree_text c.args.names.now t) tree) c.in_ok-extend_from_slice-2.ensures.items
    c.append_mark-2.new.out.items c.extend_from_slice-3.new.self.items
    (c.in_ok-append_mark-2.ensures.ok ∙ ap (λ m. c.extend_from_slice-2.new.self.items ++ m) to) c.in_ok-extend_from_slice-3.ensures.items
