-- The blocks of lines of words, one after another.
use Rattle.std.proofs.Common.{◌≡◌, ◌<◌, ◌≤◌, ◌+◌, ℕ, zero, suc, Option, Some, slice_get, List, [], ◌∷◌, ◌++◌, length, drop, refl, sym, ◌∙◌, ap, subst, inl, inr, arith}
use Rattle.std.specs.Io.KnownBytes.{append_known}
use Rattle.std.proofs.Math.ListN.{drop_of_length-le}
use Rattle.qs_tree.specs.declared.cell.Label.{Label}
use Rattle.qs_tree.specs.Lists.{◌∈◌}
use Rattle.qs_io.specs.Devices.{AppendsProperPrefix}
use Rattle.qs_clean.specs.Cascades.{Ending, all_done, by_limit}
use Rattle.qs_deck.specs.Decks.{Grammar}
use Rattle.qs_command.specs.declared.status.Status.{Status}
use Rattle.qs_command.specs.declared.status.Status.TheVariants.{Memory, WriteFault}
use Rattle.qs_telling.specs.declared.phrasing.LineEnd.{LineEnd}
use Rattle.qs_telling.specs.declared.phrasing.LineEnd.TheVariants as end
use Rattle.qs_telling.specs.Cascading.{AreAccepted}
use Rattle.qs_telling.specs.PhraseTexts.{TellsPhrases, BeginsPhrases, no_line, line_first, no_block, block_first, either_by_limit, phrase_line}
use Rattle.qs_telling.specs.Phrasing.{IsBlockOf, ending_in}
use Rattle.qs_telling.proofs.PhrasesTold.{some_phrases, phrases_some}
use Rattle.qs_program.specs.Defined.{status_of}
use Rattle.qs_program.specs.working.Cascading.{DeliversBlocks, HasCome}
use Rattle.qs_program.specs.working.Phrasing.{TellsOthers, status_with}
use Rattle.qs_program.proofs.GoingOn.{nothing_more, come_further, out_of_memory, sink_failed, all_written}

-- the line at a place, and those behind it
pub at_line : (lines : List (List Label)) (i : ℕ) (words : List Label) → slice_get lines i ≡ Some words → drop i lines ≡ words ∷ drop (i + 1) lines
at_line [] i words at = absurd cc
at_line (line ∷ lines) zero words at = let same : line ≡ words = cc in ap (λ (first : List Label). first ∷ lines) same
at_line (line ∷ lines) (suc i) words at =
    let shift : suc (i + 1) ≡ suc i + 1 = omega arith in
    at_line lines i words at ∙ ap (λ (k : ℕ). words ∷ drop k (line ∷ lines)) shift

pub in_rest : (lines : List (List Label)) (i : ℕ) (words : List Label) → words ∈ drop i lines → words ∈ lines
in_rest lines zero words j = j
in_rest [] (suc i) words j = absurd j
in_rest (line ∷ lines) (suc i) words j = inr (in_rest lines i words j)

pub among_lines : (lines : List (List Label)) (i : ℕ) (words : List Label) → slice_get lines i ≡ Some words → words ∈ lines
among_lines lines i words at = in_rest lines i words (subst (λ (rest : List (List Label)). words ∈ rest) (sym (at_line lines i words at)) (inl refl))

either_three : (a b c : Ending) → either_by_limit (either_by_limit a b) c ≡ either_by_limit a (either_by_limit b c)
either_three all_done b c = refl
either_three by_limit b c = refl

either_none : (a : Ending) → a ≡ either_by_limit a all_done
either_none all_done = refl
either_none by_limit = refl

-- the status of the lines so far and of one more
pub status_further : (status : Status) (so_far : Ending) (e : LineEnd) → status ≡ status_of so_far → status_with status e ≡ status_of (either_by_limit so_far (ending_in e))
status_further status all_done (end.Left graph) is = is
status_further status all_done end.Empty is = is
status_further status all_done end.Over is = refl
status_further status by_limit (end.Left graph) is = is
status_further status by_limit end.Empty is = is
status_further status by_limit end.Over is = refl

module _ (L most : ℕ) (names : List (List ℕ)) (grammars : List Grammar) (lines : List (List Label)) (old : Option (List ℕ)) where
  abbrev Whole : List ℕ → Ending → Type 0
  Whole = TellsPhrases L most names grammars 1 lines

  abbrev Begun : List ℕ → Type 0
  Begun = BeginsPhrases L most names grammars 1 lines

  -- the blocks of the lines before this one were written
  abbrev pub HasTold : ℕ → Ending → Option (List ℕ) → Type 0
  HasTold i so_far mid =
      HasCome Whole (TellsOthers L most names grammars lines i so_far) Begun (BeginsPhrases L most names grammars (i + 1) (drop i lines)) old mid

  pub told_first : HasTold 0 all_done old
  told_first = record { front = []; written = nothing_more old; goes_on = λ text ending o. subst (Whole text) (sym o.ending_is) o.tells; begins = λ text o. o }

  module _ (accepted : AreAccepted grammars) (some : (words : List Label) → words ∈ lines → 0 < length words) (mid : Option (List ℕ)) (i : ℕ) (so_far : Ending) (come : HasTold i so_far mid) where
    some_others : (k : ℕ) → (text : List ℕ) × (ending : Ending) × TellsOthers L most names grammars lines k so_far text ending
    some_others k =
        let (text, others, tells) = some_phrases L most names grammars accepted (drop k lines) (λ words j. some words (in_rest lines k words j)) (k + 1) in
        (text, either_by_limit so_far others, record { others = others; tells = tells; ending_is = refl })

    -- all lines were told
    pub told_to_end : length lines ≤ i → (status : Status) → status ≡ status_of so_far → DeliversBlocks Whole Begun old mid status
    told_to_end past status is =
        let none : drop i lines ≡ [] = drop_of_length-le lines past in
        all_written Whole Begun old (TellsOthers L most names grammars lines i so_far) (BeginsPhrases L most names grammars (i + 1) (drop i lines)) mid come so_far
        (record {
          others = all_done;
          tells = subst (λ (rest : List (List Label)). TellsPhrases L most names grammars (i + 1) rest [] all_done) (sym none) no_line;
          ending_is = either_none so_far;
        })
        status is

    module _ (words : List Label) (at : slice_get lines i ≡ Some words) where
      -- there was no memory for its block
      pub told_without_memory : DeliversBlocks Whole Begun old mid Memory
      told_without_memory =
          let (text, ending, o) = some_others i in
          let tells = subst (λ (rest : List (List Label)). TellsPhrases L most names grammars (i + 1) rest text o.others) (at_line lines i words at) o.tells in
          out_of_memory Whole Begun old (TellsOthers L most names grammars lines i so_far) (BeginsPhrases L most names grammars (i + 1) (drop i lines)) mid come text ending o
          (phrases_some L most names grammars tells)
          (subst (λ (rest : List (List Label)). BeginsPhrases L most names grammars (i + 1) rest []) (sym (at_line lines i words at)) no_block)

      module _ (e : LineEnd) (block : List ℕ) (is : IsBlockOf L most names grammars (i + 1) words e block) where
        with_others : (more : List ℕ) (ending : Ending) → TellsOthers L most names grammars lines (i + 1) (either_by_limit so_far (ending_in e)) more ending
            → TellsOthers L most names grammars lines i so_far (block ++ more) ending
        with_others more ending o =
            let (text, told, same) = is in
            record {
              others = either_by_limit (ending_in e) o.others;
              tells =
                  subst (λ (bytes : List ℕ). TellsPhrases L most names grammars (i + 1) (drop i lines) (bytes ++ more) (either_by_limit (ending_in e) o.others)) (sym same)
                  (subst (λ (rest : List (List Label)). TellsPhrases L most names grammars (i + 1) rest ((phrase_line (i + 1) ++ text) ++ more) (either_by_limit (ending_in e) o.others)) (sym (at_line lines i words at))
                  (line_first told o.tells));
              ending_is = o.ending_is ∙ either_three so_far (ending_in e) o.others;
            }

        begun_others : (more : List ℕ) → BeginsPhrases L most names grammars (i + 1 + 1) (drop (i + 1) lines) more → BeginsPhrases L most names grammars (i + 1) (drop i lines) (block ++ more)
        begun_others more o =
            let (text, told, same) = is in
            subst (λ (bytes : List ℕ). BeginsPhrases L most names grammars (i + 1) (drop i lines) (bytes ++ more)) (sym same)
            (subst (λ (rest : List (List Label)). BeginsPhrases L most names grammars (i + 1) rest ((phrase_line (i + 1) ++ text) ++ more)) (sym (at_line lines i words at)) (block_first told o))

        -- the sink failed in its block
        pub told_failed : (new : Option (List ℕ)) (bytes : List ℕ) → bytes ≡ block → AppendsProperPrefix mid new bytes → DeliversBlocks Whole Begun old new WriteFault
        told_failed new bytes same begun =
            let (more, others, tells) = some_phrases L most names grammars accepted (drop (i + 1) lines) (λ words j. some words (in_rest lines (i + 1) words j)) (i + 1 + 1) in
            let ending : Ending = either_by_limit (either_by_limit so_far (ending_in e)) others in
            sink_failed Whole Begun old (TellsOthers L most names grammars lines i so_far) (BeginsPhrases L most names grammars (i + 1) (drop i lines)) mid come block more ending
            (with_others more ending (record { others = others; tells = tells; ending_is = refl }))
            new (subst (AppendsProperPrefix mid new) same begun)

        -- its block was written
        pub told_further : (new : Option (List ℕ)) (bytes : List ℕ) → bytes ≡ block → new ≡ append_known mid bytes → HasTold (i + 1) (either_by_limit so_far (ending_in e)) new
        told_further new bytes same written =
            come_further Whole Begun old (TellsOthers L most names grammars lines i so_far) (BeginsPhrases L most names grammars (i + 1) (drop i lines)) mid come
            (TellsOthers L most names grammars lines (i + 1) (either_by_limit so_far (ending_in e))) (BeginsPhrases L most names grammars (i + 1 + 1) (drop (i + 1) lines)) block
            with_others begun_others new (written ∙ ap (append_known mid) same)
