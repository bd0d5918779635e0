-- The equations of conditions.
use Rattle.std.proofs.Common.{◌≡◌, List, [], ◌∷◌, map, sym, refl, ap, ◌∙◌, Global}
use Rattle.std.specs.declared.vec.Vec.{Vec}
use mathlib.Core.Former.{Count}
use Rattle.qs_pattern.specs.declared.condition.Cond.{Cond, All, Any, Row_of-Cond, end_of-Cond, more_of-Cond, items-the_row-Cond, items_hidden-the_row-Cond-0}
use Rattle.qs_pattern.specs.declared.condition.Cond.TheBlock.{hidden-the_row-Cond-0}
use Rattle.qs_pattern.specs.Conditions.{Condition, Conditions, all, any, combined, no_condition, condition_first, condition_of, row_conditions}
use Rattle.qs_pattern.specs.working.Conditions.{conditions}

row_conditions-is : {n : Count} (k : Row_of-Cond n) → row_conditions k ≡ conditions (items-the_row-Cond n k)
row_conditions-is end_of-Cond = refl
row_conditions-is (more_of-Cond c rest) = ap (condition_first (condition_of c)) (row_conditions-is rest)

pub condition-All : (cs : Vec Cond Global) → condition_of (All cs) ≡ combined all (conditions cs.items)
condition-All cs = ap (combined all) (row_conditions-is (hidden-the_row-Cond-0 cs) ∙ ap conditions (items_hidden-the_row-Cond-0 cs))

pub condition-Any : (cs : Vec Cond Global) → condition_of (Any cs) ≡ combined any (conditions cs.items)
condition-Any cs = ap (combined any) (row_conditions-is (hidden-the_row-Cond-0 cs) ∙ ap conditions (items_hidden-the_row-Cond-0 cs))

abbrev chained : List Condition → Conditions
chained [] = no_condition
chained (c ∷ cs) = condition_first c (chained cs)

conditions-is : (cs : List Cond) → conditions cs ≡ chained (map condition_of cs)
conditions-is [] = refl
conditions-is (c ∷ cs) = ap (condition_first (condition_of c)) (conditions-is cs)

-- lists of conditions with equal conditions, one by one, are equal
pub conditions_from_map : (cs ds : List Cond) → map condition_of cs ≡ map condition_of ds → conditions cs ≡ conditions ds
conditions_from_map cs ds e = conditions-is cs ∙ ap chained e ∙ sym (conditions-is ds)
