-- No label that was read has the end of a line, so names that were read can be written.
use Rattle.std.proofs.Common.{◌≡◌, ℕ, inl, inr, true, sym, ◌∙◌, subst, ⊎_elim, List, [], ◌∷◌, arith}
use Rattle.std.specs.Prelude.{not}
use Rattle.std.specs.List.{All}
use Rattle.std.proofs.lemmas.List.Elements.{All-head, All-tail}
use Rattle.std.proofs.lemmas.Bool.Decides.{nat_tests}
use Rattle.qs_lex.specs.declared.token.Token.{Token}
use Rattle.qs_lex.specs.declared.token.Kind.{Kind}
use Rattle.qs_lex.specs.declared.token.Kind.TheVariants.{Bare, Quoted, Variable, Node, Word as a_word, Opening, Closing, Comma, Plus, Slash, Equals, Stop}
use Rattle.qs_tree.specs.Text.{is_label_byte}
use Rattle.qs_lex.specs.Characters.{ends_line, Each}
use Rattle.qs_lex.specs.Spelling.{Spells, IsLabelText}
use Rattle.qs_lex.specs.Tokens.{bytes_of, StandsIn, IsTokenOf}
use Rattle.qs_lex.proofs.Choices.{each_weaker}
use Rattle.qs_lex.proofs.Quotes.{one_text}
use Rattle.qs_lex.proofs.Readings.{token_stands}
use Rattle.qs_reader.specs.Names.{AddsName, AddsNameOf, NamesGrow}
use Rattle.qs_ruletext.specs.Written.{AreOnOneLine}
use Rattle.qs_reader.proofs.Naming.{place_of}

-- no byte of the text ends a line
abbrev IsOnOneLine : List ℕ → Type 0
IsOnOneLine bytes = Each (λ b. not (ends_line b)) bytes

pub label_ends_none : (b : ℕ) → is_label_byte b ≡ true → not (ends_line b) ≡ true
label_ends_none b e = grind (arith, nat_tests)

label_line : (kind : Kind) (bytes label : List ℕ) → Spells kind bytes → IsLabelText kind bytes label → IsOnOneLine label
label_line Bare bytes label spelled is = subst IsOnOneLine (sym is) (each_weaker is_label_byte (λ b. not (ends_line b)) label_ends_none bytes spelled.1)
label_line Quoted bytes label spelled is = subst IsOnOneLine (one_text spelled.0 label (sym spelled.2 ∙ is)) spelled.1
label_line (Variable letter number) bytes label spelled is = absurd is
label_line (Node number) bytes label spelled is = absurd is
label_line (a_word w) bytes label spelled is = absurd is
label_line Opening bytes label spelled is = absurd is
label_line Closing bytes label spelled is = absurd is
label_line Comma bytes label spelled is = absurd is
label_line Plus bytes label spelled is = absurd is
label_line Slash bytes label spelled is = absurd is
label_line Equals bytes label spelled is = absurd is
label_line Stop bytes label spelled is = absurd is

one_more_line : (old new : List (List ℕ)) (label : List ℕ) → AreOnOneLine old → IsOnOneLine label → AddsName old label new → AreOnOneLine new
one_more_line old new label line is (inl a) = subst AreOnOneLine (sym a.1) line
one_more_line old new label line is (inr a) =
    subst AreOnOneLine (sym a.1) (λ k name e. ⊎_elim (λ there. line k name there) (λ last. subst IsOnOneLine last.1 is) (place_of old label name k e))

pub names_line : (text : List ℕ) (ts : List Token) (old new : List (List ℕ)) → All (IsTokenOf text) ts → AreOnOneLine old → NamesGrow text ts old new → AreOnOneLine new
names_line text [] old new tokens line g = subst AreOnOneLine (sym g) line
names_line text (t ∷ ts) old new tokens line g = names_line text ts g.0 new (All-tail (IsTokenOf text) t ts tokens) (by_token g.1) g.2
  where
    stands : StandsIn text t
    stands = token_stands (All-head (IsTokenOf text) t ts tokens)

    by_token : AddsNameOf text t old g.0 → AreOnOneLine g.0
    by_token (inl a) = subst AreOnOneLine (sym a.1) line
    by_token (inr a) = one_more_line old g.0 a.0 line (label_line t.kind (bytes_of text t) a.0 stands.spelled a.1) a.2
