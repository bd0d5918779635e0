use Rattle.std.proofs.Common.{◌≡◌, ◌+◌, ◌-◌, ◌≤◌, ◌∙◌, Vec, Global, refl, sym, ap, subst, arith, length, drop, take, not, List, ℕ}
use Rattle.std.specs.List.{prefix_len}
use Rattle.qs_tree.specs.declared.cell.Label.{Label}
use Rattle.qs_deck.specs.PhraseTexts.{is_blank}
use Rattle.qs_deck.specs.working.Phrases.{AddsWord, ReadsWordsTo}
use Rattle.qs_deck.proofs.Cutting.{end_border, segment_within, seen}
use Rattle.qs_deck.proofs.LinesRead.{blank_ascii, no_word_yet, no_word_here, one_word_on, one_too_many, all_words}
use Rattle.qs_deck.proofs.lines.read_words.Goals as goal
use Rattle.qs_deck.proofs.lines.read_words.Goals.{then-end-at+else-count-eq-MOST_WORDS+in_ok-push_word, else-end-at}

pub loop-at-init : goal.loop-at-init
loop-at-init c = no_word_yet c.args.text.now c.args.from c.args.names.now c.args.words.now.items c.requires.border c.requires.border.0 c.requires.few_names c.requires.few_words

pub returns-then-count-eq-MOST_WORDS-clause-end : goal.returns-then-count-eq-MOST_WORDS-clause-end
returns-then-count-eq-MOST_WORDS-clause-end c =
    let v = c.as_bytes-bytes.ensures.value in
    let within = subst (λ bs. c.loop-at.at ≤ length bs) v c.loop-at-test.true in
    let t =
    one_too_many c.args.text.now c.args.from c.loop-at.at c.word_len.result c.loop-at.count c.args.names.now c.loop-at.names c.args.words.now.items c.loop-at.words.items c.requires.utf8 c.loop-at.invariant within
    (seen (λ bs. c.word_len.result ≡ prefix_len (λ b. not (is_blank b)) bs) c.args.text.now c.as_bytes-bytes.result.now c.loop-at.at v c.word_len.ensures.value)
    (seen (λ bs. c.word_len.result ≤ length bs) c.args.text.now c.as_bytes-bytes.result.now c.loop-at.at v c.word_len.ensures.bound)
    (omega (arith, c.if-end-at.true)) c.if-count-eq-MOST_WORDS.true (c.loop-at.invariant.border within) c.loop-at.at refl
    in
    (t.0, t.1, t.2, refl, t.3, t.4)

pub range-requires-clause-end_boundary : goal.range-requires-clause-end_boundary
range-requires-clause-end_boundary c =
    let v = c.as_bytes-bytes.ensures.value in
    let within = subst (λ bs. c.loop-at.at ≤ length bs) v c.loop-at-test.true in
    let bound = seen (λ bs. c.word_len.result ≤ length bs) c.args.text.now c.as_bytes-bytes.result.now c.loop-at.at v c.word_len.ensures.bound in
    end_border is_blank blank_ascii c.args.text.now c.loop-at.at c.word_len.result (segment_within c.args.text.now c.loop-at.at c.word_len.result within bound)
    (seen (λ bs. c.word_len.result ≡ prefix_len (λ b. not (is_blank b)) bs) c.args.text.now c.as_bytes-bytes.result.now c.loop-at.at v c.word_len.ensures.value)

pub loop-at-preserved : goal.loop-at-preserved
loop-at-preserved c =
    let text = c.args.text.now in
    let at = c.loop-at.at in
    let n = c.word_len.result in
    let v = c.as_bytes-bytes.ensures.value in
    let within = subst (λ bs. at ≤ length bs) v c.loop-at-test.true in
    let is = seen (λ bs. n ≡ prefix_len (λ b. not (is_blank b)) bs) c.args.text.now c.as_bytes-bytes.result.now c.loop-at.at v c.word_len.ensures.value in
    let bound = seen (λ bs. n ≤ length bs) c.args.text.now c.as_bytes-bytes.result.now c.loop-at.at v c.word_len.ensures.bound in
    let P : ℕ → List (List ℕ) → List Label → Type 0 = λ count names words. ReadsWordsTo text c.args.from (at + n + 1) count c.args.names.now names c.args.words.now.items words in
    elim c.if-end-at.branch [
      | then-end-at+else-count-eq-MOST_WORDS+in_ok-push_word w ↦ (
          let room = w.if-count-eq-MOST_WORDS.false in
          let short = c.loop-at.invariant.short in
          let k : at + n - at ≡ n = omega arith in
          let word : AddsWord (take n (drop at text)) c.loop-at.names w.push_word.new.names c.loop-at.words.items w.push_word.new.words.items =
          subst (λ bs. AddsWord bs c.loop-at.names w.push_word.new.names c.loop-at.words.items w.push_word.new.words.items) (w.range.ensures.value ∙ ap (λ m. take m (drop at text)) k) w.in_ok-push_word.ensures
          in
          let next =
          one_word_on text c.args.from at n c.loop-at.count c.args.names.now c.loop-at.names c.args.words.now.items c.loop-at.words.items c.requires.utf8 c.loop-at.invariant within is bound w.push_word.new.names w.push_word.new.words.items
          (omega (arith, w.if-end-at.true)) (omega (arith, room, short)) word
          in
          subst (λ count. P count c.if-end-at.names c.if-end-at.words.items) (sym w.count-is)
          (subst (λ names. P (c.loop-at.count + 1) names c.if-end-at.words.items) (sym w.names-is)
          (subst (λ (words : Vec Label Global). P (c.loop-at.count + 1) w.push_word.new.names words.items) (sym w.words-is) next))
          )
      | else-end-at w ↦ (
          let next =
          no_word_here text c.args.from at n c.loop-at.count c.args.names.now c.loop-at.names c.args.words.now.items c.loop-at.words.items c.requires.utf8 c.loop-at.invariant within is bound (omega (arith, w.if-end-at.false))
          in
          subst (λ count. P count c.if-end-at.names c.if-end-at.words.items) (sym w.count-is)
          (subst (λ names. P c.loop-at.count names c.if-end-at.words.items) (sym w.names-is)
          (subst (λ (words : Vec Label Global). P c.loop-at.count c.loop-at.names words.items) (sym w.words-is) next))
          )
    ]

pub returns-clause-ok : goal.returns-clause-ok
returns-clause-ok c =
    all_words c.args.text.now c.args.from c.loop-at.at c.loop-at.count c.args.names.now c.loop-at.names c.args.words.now.items c.loop-at.words.items
    (omega (arith, c.loop-at-test.false, ap length c.as_bytes-bytes.ensures.value)) c.loop-at.invariant
