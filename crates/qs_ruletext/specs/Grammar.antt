-- The parts of a rule, each with its line of the grammar.
use Rattle.qs_lex.specs.Grammar.{a_label, a_label_variable, a_tree_variable, a_forest_variable, the_word, opening}
use Rattle.qs_lex.specs.Grammar.{closing, comma, plus, slash, equals, stop, one, part, ◌·◌, ◌∣◌, optional, repeated}
use Rattle.qs_lex.specs.Grammar.{Grammar}
use Rattle.qs_lex.specs.declared.token.Word.TheVariants.{Dans, Hors, Egal, Et, Ou, Non}

-- a rule; a side of it, a tree, a list of trees and an item of one; a condition, a conjunction, what may be negated,
-- and what stands at the bottom of a condition
pub data Part : Type 0 where
  rule : Part
  side : Part
  tree : Part
  list : Part
  item : Part
  cond : Part
  conj : Part
  neg : Part
  prim : Part

-- rule = side "==" side [ "/" cond ] "."
-- side = tree { "+" tree }
-- tree = ( label | labelvar ) [ "(" [ list ] ")" ] | treevar
-- list = item { "," item }
-- item = tree | forestvar
-- cond = conj { -OU- conj }
-- conj = neg { -ET- neg }
-- neg = [ -NON- ] prim
-- prim = "(" cond ")" | list ( -DANS- | -HORS- | -EGAL- ) list. Texts of version 1 have no `-EGAL-`.
abbrev pub line : Grammar Part
line rule = part side · one equals · part side · optional (one slash · part cond) · one stop
line side = part tree · repeated (one plus · part tree)
line tree = (one a_label ∣ one a_label_variable) · optional (one opening · optional (part list) · one closing)
    ∣ one a_tree_variable
line list = part item · repeated (one comma · part item)
line item = part tree ∣ one a_forest_variable
line cond = part conj · repeated (one (the_word Ou) · part conj)
line conj = part neg · repeated (one (the_word Et) · part neg)
line neg = optional (one (the_word Non)) · part prim
line prim = one opening · part cond · one closing
    ∣ part list · (one (the_word Dans) ∣ one (the_word Hors) ∣ one (the_word Egal)) · part list
