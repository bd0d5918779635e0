-- The next token, and what passing it does.
use Rattle.std.proofs.Common.{◌≡◌, ℕ, suc, ◌+◌, ◌<◌, ◌≤◌, false, refl, sym, ◌∙◌, ap, subst, List, [], ◌∷◌, length, drop, arith, get_or, Some}
use Rattle.std.proofs.Math.Seq.{drop-cons}
use Rattle.std.proofs.lemmas.Option.{slice_get-get_or}
use Rattle.qs_lex.specs.declared.token.Token.{Token}
use Rattle.qs_lex.specs.declared.token.Kind.{Kind}
use Rattle.qs_lex.specs.declared.token.Kind.TheVariants.{Bare, Quoted, Variable, Node, Word as a_word, Opening, Closing, Comma, Plus, Slash, Equals, Stop}
use Rattle.qs_lex.specs.Spelling.{IsLabelText}
use Rattle.qs_lex.specs.Tokens.{AreTokensOf, bytes_of, HasLabelText}
use Rattle.qs_lex.specs.Grammar.{Sort, a_label, sort_of, IsOf}
use Rattle.qs_lex.specs.Expecting.{same_sort, NextIsNo}
use Rattle.qs_reader.specs.Readers.{Reading, rest_of, IsNext, IsPassed, Stays}

next_at : (tokens : List Token) (place : ℕ) (t : Token) → place < length tokens → t ≡ get_or tokens place t → drop place tokens ≡ t ∷ drop (place + 1) tokens
next_at tokens place t some e =
    let more : suc place ≡ place + 1 = omega arith in
    drop-cons tokens place t some ∙ ap (λ u. u ∷ drop (suc place) tokens) (sym e) ∙ ap (λ k. t ∷ drop k tokens) more

pub next_token : (r : Reading) (t : Token) → AreTokensOf r.text r.tokens → r.place < length r.tokens → t ≡ get_or r.tokens r.place t → IsNext t r
next_token r t are some e =
    record {
      behind = drop (r.place + 1) r.tokens;
      are = next_at r.tokens r.place t some e;
      some = some;
      of_text = record { tokens = r.tokens; are = are; index = r.place; there = slice_get-get_or r.tokens r.place t some ∙ ap Some (sym e) };
    }

tail_is : (tokens behind : List Token) (place : ℕ) (t : Token) → drop place tokens ≡ t ∷ behind → place < length tokens → drop place tokens ≡ t ∷ drop (place + 1) tokens
tail_is tokens behind place t e some =
    let whole : drop place tokens ≡ get_or tokens place t ∷ drop (suc place) tokens = drop-cons tokens place t some in
    let first : get_or tokens place t ∷ drop (suc place) tokens ≡ t ∷ behind = sym whole ∙ e in
    let same : t ≡ get_or tokens place t = cc in
    next_at tokens place t some same

pub passed : (r s : Reading) (t : Token) → IsNext t r → s ≡ record r { place = r.place + 1 } → IsPassed t r s
passed r s t n e =
    subst (IsPassed t r) (sym e)
    (record {
      are = tail_is r.tokens n.behind r.place t n.are n.some;
      goes_on = record { text = refl; tokens = refl; forward = omega arith; within = omega (arith, n.some) };
    })

-- a label is of the sort of labels
pub label_sort : (text : List ℕ) (t : Token) (spelling : List ℕ) → HasLabelText text t spelling → IsOf a_label t
label_sort text t spelling h = by_kind t.kind (bytes_of text t) h
  where
    by_kind : (kind : Kind) (bytes : List ℕ) → IsLabelText kind bytes spelling → sort_of kind ≡ a_label
    by_kind Bare bytes g = refl
    by_kind Quoted bytes g = refl
    by_kind (Variable letter number) bytes g = absurd g
    by_kind (Node number) bytes g = absurd g
    by_kind (a_word w) bytes g = absurd g
    by_kind Opening bytes g = absurd g
    by_kind Closing bytes g = absurd g
    by_kind Comma bytes g = absurd g
    by_kind Plus bytes g = absurd g
    by_kind Slash bytes g = absurd g
    by_kind Equals bytes g = absurd g
    by_kind Stop bytes g = absurd g

-- where no token, or one of another sort, stands next
pub nothing_next : (s : Sort) (r : Reading) → rest_of r ≡ [] → r.place ≤ length r.tokens → Stays s r r
nothing_next s r e within = record { same = refl; within = within; none = subst (λ ts. NextIsNo (same_sort s) ts) (sym e) tt }

pub other_next : (s : Sort) (r : Reading) (t : Token) → IsNext t r → same_sort s (sort_of t.kind) ≡ false → Stays s r r
other_next s r t n differs = record { same = refl; within = omega (arith, n.some); none = subst (λ ts. NextIsNo (same_sort s) ts) (sym n.are) differs }
