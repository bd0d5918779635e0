use Rattle.std.proofs.Common.{suc, take, sym, subst}
use Rattle.qs_firing.specs.Work.{WorkWithTrees, IsRightFor}
use Rattle.qs_join.proofs.joining.joined_by.Goals as goal

pub made_of-requires-clause-in_class : goal.made_of-requires-clause-in_class
made_of-requires-clause-in_class c = λ rule i. (c.requires.heads.accepted rule i).left.in_class

pub made_of-requires-clause-fire : goal.made_of-requires-clause-fire
made_of-requires-clause-fire c = (take (suc c.args.newest) c.args.view.now, λ f i. (c.in_ok-found.ensures.sound f ((c.in_ok-sorted.ensures.members f).0 i)).fires)

pub returns-clause-right : goal.returns-clause-right
returns-clause-right c =
    let found = c.in_ok-found.ensures in
    let members = c.in_ok-sorted.ensures.members in
    let made = c.in_ok-made.ensures in
    subst (λ (j : WorkWithTrees). IsRightFor c.args.rules.now c.args.view.now j) (sym c.new.ensures) (record {
      work = record {
        ascends = made.ascends;
        sound = λ f i. found.sound f ((members f).0 (made.sound f i));
        complete = λ f w. made.all f ((members f).1 (found.all f w));
      };
      trees = made.trees;
    })
