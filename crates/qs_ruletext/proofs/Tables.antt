-- The grammar of rules has no empty part, the table says with which sorts each may begin, and the next token tells how to go on.
use Rattle.std.proofs.Common.{◌≡◌, Bool, true, false, ◌||◌, refl}
use Rattle.qs_lex.specs.declared.token.Word.TheVariants.{Et, Ou}
use Rattle.qs_lex.specs.Grammar.{Sort, the_word, opening, comma, plus}
use Rattle.qs_lex.specs.Expecting.{same_sort}
use Rattle.qs_lex.proofs.Expected.{IsTable}
use Rattle.qs_lex.proofs.Predictive.{IsPredicted}
use Rattle.qs_lex.proofs.Predicting.{is_good, predicted}
use Rattle.qs_ruletext.specs.Grammar.{Part, rule, side, tree, list, item, cond, conj, neg, prim, line}
use Rattle.qs_ruletext.specs.working.Readers.{table}

-- with which sorts a whole part may go on
abbrev pub more : Part → Sort → Bool
more rule k = false
more side k = same_sort plus k || same_sort opening k
more tree k = same_sort opening k
more list k = same_sort comma k || same_sort opening k
more item k = same_sort opening k
more cond k = same_sort (the_word Ou) k || (same_sort (the_word Et) k || (same_sort comma k || same_sort opening k))
more conj k = same_sort (the_word Et) k || (same_sort comma k || same_sort opening k)
more neg k = same_sort comma k || same_sort opening k
more prim k = same_sort comma k || same_sort opening k

good : (p : Part) → is_good line table more p ≡ true
good rule = refl
good side = refl
good tree = refl
good list = refl
good item = refl
good cond = refl
good conj = refl
good neg = refl
good prim = refl

pub all_ok : IsPredicted line table more
all_ok = predicted line table more good

pub ok : IsTable line table
ok = all_ok.table_is
