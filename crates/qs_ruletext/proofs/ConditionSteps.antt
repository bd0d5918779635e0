-- The steps of the readers of conditions, and how their members grow.
use Rattle.std.proofs.Common.{◌≡◌, ℕ, ◌≤◌, ◌||◌, refl, sym, ◌∙◌, ap, subst, List, [], ◌∷◌, ◌++◌, length, arith}
use Rattle.qs_lex.specs.declared.token.Token.{Token}
use Rattle.qs_lex.specs.declared.token.Word.TheVariants.{Dans, Hors, Egal, Et, Ou, Non}
use Rattle.qs_lex.specs.Grammar.{opening, closing, the_word, part}
use Rattle.qs_lex.specs.Expecting.{same_sort, NextIsNo}
use Rattle.qs_lex.proofs.Predictive.{next_neither}
use Rattle.qs_pattern.specs.declared.condition.Cond.{Cond}
use Rattle.qs_pattern.specs.Patterns.{Patterns}
use Rattle.qs_pattern.specs.Conditions.{Comparing, within, outside, same, all, any, Condition, Conditions, compared, negated, combined, no_condition, condition_first, condition_of}
use Rattle.qs_pattern.specs.working.Conditions.{conditions}
use Rattle.qs_reader.specs.declared.text_end.TextEnd.{TextEnd}
use Rattle.qs_reader.specs.Readers.{Reading, rest_of, Passes, Stays, EndsHere}
use Rattle.qs_reader.specs.working.Readers.{Reads, AToken, a_token, Nothing, nothing, Then, then}
use Rattle.qs_reader.proofs.Steps.{token_read, left_out_read, then_read, read_so, this_read, other_read, member_read, part_read, stayed_read, stayed_here, stayed_ends, ends_here, token_ends, part_ends, first_ends, then_ends, this_ends, other_ends, next_is_no}
use Rattle.qs_ruletext.specs.Grammar.{list, cond, neg, prim}
use Rattle.qs_ruletext.specs.Reading.{any_of, all_of, comparing_word, ReadsCond, reads_cond, ReadsMoreConjs, no_more_conjs, one_more_conj, ReadsConj, reads_conj, ReadsMoreNegs, no_more_negs, one_more_neg, ReadsNeg, not_negated, reads_negated, ReadsPrim, reads_group, reads_compared}
use Rattle.qs_ruletext.specs.working.Readers.{IsRead, Ends, a_comparison, ACond, AConj, AList, ANeg, APrim, begins_item}

-- two lists, compared
compares : {word : Comparing} {a b : Patterns} (names : List (List ℕ)) (text : List ℕ) (ts rest : List Token) → Then (AList a) (Then (AToken (the_word (comparing_word word))) (AList b)) names text ts rest → ReadsPrim names text ts (compared word a b) rest
compares {word} names text ts rest (then l (then (a_token w) m)) = reads_compared {word = word} l w m

pub read_within : {a b : Patterns} {r s u v : Reading} {old middle new : List (List ℕ)} → IsRead (part list) (AList a) r s old middle → Passes (the_word Dans) s u
    → IsRead (part list) (AList b) u v middle new → IsRead a_comparison (APrim (compared within a b)) r v old new
read_within {middle} a p b = read_so (compares {word = within}) (then_read a (then_read (this_read (token_read middle refl p)) b))

pub read_outside : {a b : Patterns} {r s t u v : Reading} {old middle new : List (List ℕ)} → IsRead (part list) (AList a) r s old middle → Stays (the_word Dans) s t → Passes (the_word Hors) t u
    → IsRead (part list) (AList b) u v middle new → IsRead a_comparison (APrim (compared outside a b)) r v old new
read_outside {middle} a st p b = read_so (compares {word = outside}) (then_read a (stayed_read st (then_read (other_read (this_read (token_read middle refl p))) b)))

pub read_same : {a b : Patterns} {r s t u v w : Reading} {old middle new : List (List ℕ)} → IsRead (part list) (AList a) r s old middle → Stays (the_word Dans) s t → Stays (the_word Hors) t u
    → Passes (the_word Egal) u v → IsRead (part list) (AList b) v w middle new → IsRead a_comparison (APrim (compared same a b)) r w old new
read_same {middle} a st stay p b = read_so (compares {word = same}) (then_read a (stayed_read st (stayed_read stay (then_read (other_read (other_read (token_read middle refl p))) b))))

pub ends_in_first_list : {r : Reading} {end : TextEnd} → Ends (part list) r end → Ends a_comparison r end
ends_in_first_list e = first_ends e

pub ends_at_relation : {R : Reads} {r s t u : Reading} {old new : List (List ℕ)} {end : TextEnd} → IsRead (part list) R r s old new → Stays (the_word Dans) s t → Stays (the_word Hors) t u
    → EndsHere (the_word Egal) u end → Ends a_comparison r end
ends_at_relation {s} {t} a st stay e =
    let no_hors : NextIsNo (same_sort (the_word Hors)) (rest_of s) = subst (λ (q : Reading). NextIsNo (same_sort (the_word Hors)) (rest_of q)) st.same stay.none in
    let neither : NextIsNo (same_sort (the_word Egal)) (rest_of s) → NextIsNo (λ k. same_sort (the_word Dans) k || (same_sort (the_word Hors) k || same_sort (the_word Egal) k)) (rest_of s) =
    λ n.
    next_neither (same_sort (the_word Dans)) (λ k. same_sort (the_word Hors) k || same_sort (the_word Egal) k) (rest_of s) st.none
    (next_neither (same_sort (the_word Hors)) (same_sort (the_word Egal)) (rest_of s) no_hors n) in
    then_ends a (first_ends (ends_here refl neither (stayed_here st (stayed_here stay e))))

pub ends_in_second_within : {R : Reads} {r s u : Reading} {old new : List (List ℕ)} {end : TextEnd} → IsRead (part list) R r s old new → Passes (the_word Dans) s u → Ends (part list) u end → Ends a_comparison r end
ends_in_second_within {new} a p e = then_ends a (then_ends (this_read (token_read new refl p)) e)

pub ends_in_second_outside : {R : Reads} {r s t u : Reading} {old new : List (List ℕ)} {end : TextEnd} → IsRead (part list) R r s old new → Stays (the_word Dans) s t → Passes (the_word Hors) t u → Ends (part list) u end → Ends a_comparison r end
ends_in_second_outside {new} a st p e = then_ends a (stayed_ends st (then_ends (other_read (this_read (token_read new refl p))) e))

pub ends_in_second_same : {R : Reads} {r s t u v : Reading} {old new : List (List ℕ)} {end : TextEnd} → IsRead (part list) R r s old new → Stays (the_word Dans) s t → Stays (the_word Hors) t u → Passes (the_word Egal) u v
    → Ends (part list) v end → Ends a_comparison r end
ends_in_second_same {new} a st stay p e = then_ends a (stayed_ends st (stayed_ends stay (then_ends (other_read (other_read (token_read new refl p))) e)))

-- a condition in parentheses
group : {c : Condition} (names : List (List ℕ)) (text : List ℕ) (ts rest : List Token) → Then (AToken opening) (Then (ACond c) (AToken closing)) names text ts rest → ReadsPrim names text ts c rest
group names text ts rest (then (a_token o) (then c (a_token e))) = reads_group o c e

pub read_group : {c : Condition} {r s u v : Reading} {old new : List (List ℕ)} → Passes opening r s → IsRead (part cond) (ACond c) s u old new → Passes closing u v
    → IsRead (part prim) (APrim c) r v old new
read_group {old} {new} p a q = part_read (this_read (read_so group (then_read (token_read old refl p) (then_read a (token_read new refl q)))))

pub ends_in_group : {r s : Reading} {end : TextEnd} → Passes opening r s → Ends (part cond) s end → Ends (part prim) r end
ends_in_group p e = part_ends (this_ends (next_is_no begins_item refl p) (then_ends (token_read [] refl p) (first_ends e)))

pub ends_unclosed_group : {R : Reads} {r s u : Reading} {old new : List (List ℕ)} {end : TextEnd} → Passes opening r s → IsRead (part cond) R s u old new → EndsHere closing u end → Ends (part prim) r end
ends_unclosed_group {old} p a e = part_ends (this_ends (next_is_no begins_item refl p) (then_ends (token_read old refl p) (then_ends a (token_ends e))))

pub read_comparison : {R : Reads} {r s u : Reading} {old new : List (List ℕ)} → Stays opening r s → IsRead a_comparison R s u old new → IsRead (part prim) R r u old new
read_comparison st a = stayed_read st (part_read (other_read a))

pub ends_in_comparison : {r s : Reading} {end : TextEnd} → Stays opening r s → Ends a_comparison s end → Ends (part prim) r end
ends_in_comparison st e = part_ends (other_ends st.none (stayed_ends st e))

-- what may be negated
negation : {c : Condition} (d : Condition) → d ≡ negated c → (names : List (List ℕ)) (text : List ℕ) (ts rest : List Token) → Then (AToken (the_word Non)) (APrim c) names text ts rest → ReadsNeg names text ts d rest
negation d e names text ts rest (then (a_token n) p) = subst (λ x. ReadsNeg names text ts x rest) (sym e) (reads_negated n p)

no_negation : {c : Condition} (names : List (List ℕ)) (text : List ℕ) (ts rest : List Token) → Then Nothing (APrim c) names text ts rest → ReadsNeg names text ts c rest
no_negation names text ts rest (then nothing p) = not_negated p

pub read_negated : {c : Condition} {r s u : Reading} {old new : List (List ℕ)} (d : Condition) → d ≡ negated c → Passes (the_word Non) r s → IsRead (part prim) (APrim c) s u old new
    → IsRead (part neg) (ANeg d) r u old new
read_negated {old} d e p a = part_read (read_so (negation d e) (then_read (member_read (token_read old refl p)) a))

pub ends_in_negated : {r s : Reading} {end : TextEnd} → Passes (the_word Non) r s → Ends (part prim) s end → Ends (part neg) r end
ends_in_negated p e = part_ends (then_ends (member_read (token_read [] refl p)) e)

pub read_not_negated : {c : Condition} {r s u : Reading} {old new : List (List ℕ)} → Stays (the_word Non) r s → IsRead (part prim) (APrim c) s u old new
    → IsRead (part neg) (ANeg c) r u old new
read_not_negated {old} st a = part_read (read_so no_negation (then_read (left_out_read old st.none st) a))

pub ends_in_prim : {r s : Reading} {end : TextEnd} → Stays (the_word Non) r s → Ends (part prim) s end → Ends (part neg) r end
ends_in_prim st e = part_ends (then_ends (left_out_read [] st.none st) e)

-- the members of a conjunction, and of a condition, one by one
abbrev followed : Conditions → Conditions → Conditions
followed no_condition ds = ds
followed (condition_first c cs) ds = condition_first c (followed cs ds)

followed-nil : (cs : Conditions) → followed cs no_condition ≡ cs
followed-nil no_condition = refl
followed-nil (condition_first c cs) = ap (condition_first c) (followed-nil cs)

followed-push : (cs : List Cond) (c : Cond) (ds : Conditions) → followed (conditions (cs ++ c ∷ [])) ds ≡ followed (conditions cs) (condition_first (condition_of c) ds)
followed-push [] c ds = refl
followed-push (b ∷ cs) c ds = ap (condition_first (condition_of b)) (followed-push cs c ds)

pushed : (more longer : List Cond) (c : Cond) (ds : Conditions) → longer ≡ more ++ c ∷ [] → followed (conditions longer) ds ≡ followed (conditions more) (condition_first (condition_of c) ds)
pushed more longer c ds e = ap (λ x. followed (conditions x) ds) e ∙ followed-push more c ds

abbrev pub CompletesConj : Condition → Conditions → Reads
CompletesConj first more names text ts rest = (cs : Conditions) (end : List Token) → ReadsMoreNegs names text rest cs end → ReadsConj names text ts (all_of first (followed more cs)) end

pub conj_first : {c : Condition} (more : Conditions) → more ≡ no_condition → (names : List (List ℕ)) (text : List ℕ) (ts rest : List Token) → ReadsNeg names text ts c rest → CompletesConj c more names text ts rest
conj_first {c} more e names text ts rest r cs end m = subst (λ ds. ReadsConj names text ts (all_of c (followed ds cs)) end) (sym e) (reads_conj r m)

pub conj_next : (first : Condition) (more longer : List Cond) (c : Cond) → longer ≡ more ++ c ∷ [] → (names : List (List ℕ)) (text : List ℕ) (ts us rest : List Token) → CompletesConj first (conditions more) names text ts us
    → Then (AToken (the_word Et)) (ANeg (condition_of c)) names text us rest → CompletesConj first (conditions longer) names text ts rest
conj_next first more longer c e names text ts us rest before (then (a_token w) r) cs end m =
    subst (λ ds. ReadsConj names text ts (all_of first ds) end) (sym (pushed more longer c cs e)) (before (condition_first (condition_of c) cs) end (one_more_neg w r m))

pub conj_last : (first : Condition) (more : Conditions) (whole : Condition) → whole ≡ all_of first more → (names : List (List ℕ)) (text : List ℕ) (ts rest : List Token) → CompletesConj first more names text ts rest → ReadsConj names text ts whole rest
conj_last first more whole e names text ts rest completes =
    subst (λ c. ReadsConj names text ts c rest) (sym (e ∙ ap (all_of first) (sym (followed-nil more)))) (completes no_condition rest no_more_negs)

abbrev pub CompletesCond : Condition → Conditions → Reads
CompletesCond first more names text ts rest = (cs : Conditions) (end : List Token) → ReadsMoreConjs names text rest cs end → ReadsCond names text ts (any_of first (followed more cs)) end

pub cond_first : {c : Condition} (more : Conditions) → more ≡ no_condition → (names : List (List ℕ)) (text : List ℕ) (ts rest : List Token) → ReadsConj names text ts c rest → CompletesCond c more names text ts rest
cond_first {c} more e names text ts rest r cs end m = subst (λ ds. ReadsCond names text ts (any_of c (followed ds cs)) end) (sym e) (reads_cond r m)

pub cond_next : (first : Condition) (more longer : List Cond) (c : Cond) → longer ≡ more ++ c ∷ [] → (names : List (List ℕ)) (text : List ℕ) (ts us rest : List Token) → CompletesCond first (conditions more) names text ts us
    → Then (AToken (the_word Ou)) (AConj (condition_of c)) names text us rest → CompletesCond first (conditions longer) names text ts rest
cond_next first more longer c e names text ts us rest before (then (a_token w) r) cs end m =
    subst (λ ds. ReadsCond names text ts (any_of first ds) end) (sym (pushed more longer c cs e)) (before (condition_first (condition_of c) cs) end (one_more_conj w r m))

pub cond_last : (first : Condition) (more : Conditions) (whole : Condition) → whole ≡ any_of first more → (names : List (List ℕ)) (text : List ℕ) (ts rest : List Token) → CompletesCond first more names text ts rest → ReadsCond names text ts whole rest
cond_last first more whole e names text ts rest completes =
    subst (λ c. ReadsCond names text ts c rest) (sym (e ∙ ap (any_of first) (sym (followed-nil more)))) (completes no_condition rest no_more_conjs)

-- one member, or several
pub any_of_several : (first : Condition) (more : List Cond) → 1 ≤ length more → any_of first (conditions more) ≡ combined any (condition_first first (conditions more))
any_of_several first [] some = absurd (omega (arith, some))
any_of_several first (c ∷ more) some = refl

pub all_of_several : (first : Condition) (more : List Cond) → 1 ≤ length more → all_of first (conditions more) ≡ combined all (condition_first first (conditions more))
all_of_several first [] some = absurd (omega (arith, some))
all_of_several first (c ∷ more) some = refl
