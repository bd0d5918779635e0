-- How a cascade goes on from what one grammar leaves, and what has been written of what is told of it.
use Rattle.std.proofs.Common.{◌≡◌, ℕ, suc, ◌+◌, ◌*◌, ◌<◌, ◌≤◌, List, [], ◌∷◌, ◌++◌, length, map, take, drop, get_or, Option, Some, None, refl, sym, ap, ◌∙◌, subst, inl, inr, arith, append_assoc, length-append, append-nil}
use Rattle.std.specs.Io.KnownBytes.{append_known}
use Rattle.std.proofs.Math.ListN.{drop_of_length-le}
use Rattle.std.proofs.Math.Seq.{take-append_seam, take-append-add}
use Rattle.std.proofs.lemmas.List.{take-append-le}
use Rattle.qs_io.specs.Devices.{AppendsProperPrefix}
use Rattle.qs_io.proofs.Transfers.{append_known-append_known}
use Rattle.qs_graph.specs.Graphs.{QGraph}
use Rattle.qs_clean.specs.Cascades.{Ending, all_done, by_limit}
use Rattle.qs_cascade.specs.declared.stages.StageEnd.{StageEnd}
use Rattle.qs_cascade.specs.declared.stages.StageEnd.TheVariants as end
use Rattle.qs_cascade.specs.Stages.{IsStageEnd, GrowsWithin, IsEndNamed, MakesNoLabels}
use Rattle.qs_deck.specs.declared.system.System.{System}
use Rattle.qs_deck.specs.Decks.{Grammar, grammar_of}
use Rattle.qs_deck.specs.Named.{AreSystemsNamed, IsSystemNamed}
use Rattle.qs_command.specs.declared.status.Status.{Status}
use Rattle.qs_command.specs.declared.status.Status.TheVariants.{Done, Limit, WriteFault, Memory}
use Rattle.qs_telling.specs.declared.telling.Telling.{Telling}
use Rattle.qs_telling.specs.working.Telling.{Begins, Tells}
use Rattle.qs_telling.specs.Telling.{IsTold}
use Rattle.qs_telling.specs.Cascading.{AreAccepted}
use Rattle.qs_telling.specs.working.Cascading.{CanGoOn}
use Rattle.qs_telling.proofs.NextSystems.{among_all, each_right, goes_on_with, next_system, rest_accepted}
use Rattle.qs_telling.proofs.Tellings.{none_told, some_told, told_some, more_told, none_begun, more_begun, empty_told, limit_told, told_behind}
use Rattle.qs_program.specs.Defined.{status_of}
use Rattle.qs_program.specs.working.Cascading.{DeliversBlocks, DeliversCascade, HasCome, HasRun}

-- proper prefixes of what is written

-- nothing more than a front that was written, where there is more to write
pub front_written : (old new : Option (List ℕ)) (front text : List ℕ) → 0 < length text → new ≡ append_known old front
    → AppendsProperPrefix old new (front ++ text)
front_written old new front text some is =
    (length front, omega (arith, length-append front text), is ∙ ap (append_known old) (sym (take-append_seam front text)))

-- a proper prefix of a block behind a front that was written
pub block_begun : (old mid new : Option (List ℕ)) (front text more : List ℕ) → mid ≡ append_known old front
    → AppendsProperPrefix mid new text → AppendsProperPrefix old new (front ++ (text ++ more))
block_begun old mid new front text more is (n, within, begun) = (
  length front + n,
  omega (arith, length-append front (text ++ more), length-append text more),
  begun ∙ ap (λ (known : Option (List ℕ)). append_known known (take n text)) is ∙ append_known-append_known old front (take n text)
      ∙ ap (λ (bytes : List ℕ). append_known old (front ++ bytes)) (sym (take-append-le n text more (omega (arith, within))))
      ∙ ap (append_known old) (sym (take-append-add front (text ++ more) n)),
)

pub nothing_more : (known : Option (List ℕ)) → known ≡ append_known known []
nothing_more None = refl
nothing_more (Some bytes) = ap (λ (b : List ℕ). Some b) (sym (append-nil bytes))

-- a text that is written block by block
module _ (Whole : List ℕ → Ending → Type 0) (Begun : List ℕ → Type 0) (old : Option (List ℕ)) where
  -- nothing was written yet
  pub come_first : HasCome Whole Whole Begun Begun old old
  come_first = record { front = []; written = nothing_more old; goes_on = λ text ending o. o; begins = λ text o. o }

  module _ (Rest : List ℕ → Ending → Type 0) (RestBegun : List ℕ → Type 0) (mid : Option (List ℕ)) (come : HasCome Whole Rest Begun RestBegun old mid) where
    further : (text : List ℕ) (new : Option (List ℕ)) → new ≡ append_known mid text → new ≡ append_known old (come.front ++ text)
    further text new is = is ∙ ap (λ (known : Option (List ℕ)). append_known known text) come.written ∙ append_known-append_known old come.front text

    -- one block more was written
    pub come_further : (Next : List ℕ → Ending → Type 0) (NextBegun : List ℕ → Type 0) (text : List ℕ)
        → ((more : List ℕ) (ending : Ending) → Next more ending → Rest (text ++ more) ending) → ((more : List ℕ) → NextBegun more → RestBegun (text ++ more))
        → (new : Option (List ℕ)) → new ≡ append_known mid text → HasCome Whole Next Begun NextBegun old new
    come_further Next NextBegun text goes_on begins new is = record {
      front = come.front ++ text;
      written = further text new is;
      goes_on = λ more ending o.
          subst (λ (bytes : List ℕ). Whole bytes ending) (sym (append_assoc come.front text more)) (come.goes_on (text ++ more) ending (goes_on more ending o));
      begins = λ more o. subst Begun (sym (append_assoc come.front text more)) (come.begins (text ++ more) (begins more o));
    }

    -- the last of the text was written
    pub come_to_end : (text : List ℕ) (ending : Ending) → Rest text ending → (new : Option (List ℕ)) → new ≡ append_known mid text → (answer : Status) → answer ≡ status_of ending
        → DeliversBlocks Whole Begun old new answer
    come_to_end text ending o new is answer same = record {
      text = come.front ++ text;
      ending = ending;
      outcome = come.goes_on text ending o;
      delivered = inl (inl (same, further text new is));
    }

    -- nothing is left to write
    pub all_written : (ending : Ending) → Rest [] ending → (answer : Status) → answer ≡ status_of ending → DeliversBlocks Whole Begun old mid answer
    all_written ending o answer same = come_to_end [] ending o mid (nothing_more mid) answer same

    -- there was no memory for the next block
    pub out_of_memory : (text : List ℕ) (ending : Ending) → Rest text ending → 0 < length text → RestBegun [] → DeliversBlocks Whole Begun old mid Memory
    out_of_memory text ending o some none = record {
      text = come.front ++ text;
      ending = ending;
      outcome = come.goes_on text ending o;
      delivered = inr (record {
        wanting = refl;
        front = come.front;
        begins = subst Begun (append-nil come.front) (come.begins [] none);
        written = come.written;
        prefix = front_written old mid come.front text some come.written;
      });
    }

    -- the sink failed in the next block
    pub sink_failed : (text more : List ℕ) (ending : Ending) → Rest (text ++ more) ending → (new : Option (List ℕ)) → AppendsProperPrefix mid new text
        → DeliversBlocks Whole Begun old new WriteFault
    sink_failed text more ending o new begun = record {
      text = come.front ++ (text ++ more);
      ending = ending;
      outcome = come.goes_on (text ++ more) ending o;
      delivered = inl (inr (refl, block_begun old mid new come.front text more come.written begun));
    }

-- one turn of the loop over the grammars
module _ (t : Telling) (L : ℕ) (names : List (List ℕ)) (systems : List System) (start : QGraph) (old mid : Option (List ℕ)) (now : QGraph) (i : ℕ) (system : System)
    (is : system ≡ get_or systems i system) (low : i < length systems) (accepted : AreAccepted (map grammar_of systems))
    (come : HasRun t L names start (map grammar_of systems) old mid now (map grammar_of (drop i systems))) (can : CanGoOn names now (length (drop i systems))) where
  abbrev others : List Grammar
  others = map grammar_of (drop (i + 1) systems)

  abbrev Whole : List ℕ → Ending → Type 0
  Whole = Tells t L names start (map grammar_of systems)

  abbrev Rest : List ℕ → Ending → Type 0
  Rest = Tells t L names now (grammar_of system ∷ others)

  abbrev Begun : List ℕ → Type 0
  Begun = Begins t L names start (map grammar_of systems)

  abbrev RestBegun : List ℕ → Type 0
  RestBegun = Begins t L names now (grammar_of system ∷ others)

  at_system : drop i systems ≡ system ∷ drop (i + 1) systems
  at_system = next_system systems i system is low

  come_to : HasRun t L names start (map grammar_of systems) old mid now (grammar_of system ∷ others)
  come_to = subst (λ (left : List System). HasRun t L names start (map grammar_of systems) old mid now (map grammar_of left)) at_system come

  accepted_from : AreAccepted (grammar_of system ∷ others)
  accepted_from = subst (λ (left : List System). AreAccepted (map grammar_of left)) at_system (rest_accepted systems i accepted)

  can_with : CanGoOn names now (suc (length (drop (i + 1) systems)))
  can_with = subst (λ (left : List System). CanGoOn names now (length left)) at_system can

  -- there is room for what the grammar adds
  pub turn_arcs : L ≤ 1000000 → length now.arcs + 16 * L ≤ 4294967295
  turn_arcs few = omega (arith, can_with.arcs)

  pub turn_nodes : L ≤ 1000000 → now.nodes + 16 * L ≤ 4294967295
  turn_nodes few = omega (arith, can_with.nodes)

  -- there was no memory
  pub turn_without_memory : DeliversCascade t L names start (map grammar_of systems) old mid Memory
  turn_without_memory =
      let (text, ending, o) = some_told t L names now (grammar_of system ∷ others) accepted_from can.valid in
      out_of_memory Whole Begun old Rest RestBegun mid come_to text ending o (told_some t L names now (grammar_of system) others text ending o)
      (none_begun t L names now (grammar_of system) others)

  -- its labels are named
  pub turn_named : AreSystemsNamed (length names) systems → IsSystemNamed (length names) system
  turn_named named = named system (among_all systems i system is low)

  module _ (e : StageEnd) (ends : IsStageEnd system.rules.items now L e) (text : List ℕ) (told : IsTold t L names system.name system.rules.items now e text) where
    -- the sink failed
    pub turn_failed : (new : Option (List ℕ)) (bytes : List ℕ) → bytes ≡ text → AppendsProperPrefix mid new bytes
        → DeliversCascade t L names start (map grammar_of systems) old new WriteFault
    turn_failed new bytes same begun =
        let (more, ending, o) = told_behind t L names now (grammar_of system) others accepted_from can.valid e ends text told in
        sink_failed Whole Begun old Rest RestBegun mid come_to text more ending o new (subst (AppendsProperPrefix mid new) same begun)

    module _ (new : Option (List ℕ)) (bytes : List ℕ) (same : bytes ≡ text) (written : new ≡ append_known mid bytes) where
      text_written : new ≡ append_known mid text
      text_written = written ∙ ap (append_known mid) same

      -- no arc was left
      pub turn_empty : (firings : ℕ) → e ≡ end.Empty firings → DeliversCascade t L names start (map grammar_of systems) old new Done
      turn_empty firings known =
          come_to_end Whole Begun old Rest RestBegun mid come_to text all_done
          (empty_told t L names now firings (grammar_of system) others text
          (subst (λ (f : StageEnd). IsTold t L names system.name system.rules.items now f text) known told)
          (subst (IsStageEnd system.rules.items now L) known ends))
          new text_written Done refl

      -- the limit was met
      pub turn_over : e ≡ end.Over → DeliversCascade t L names start (map grammar_of systems) old new Limit
      turn_over known =
          come_to_end Whole Begun old Rest RestBegun mid come_to text by_limit
          (limit_told t L names now (grammar_of system) others text
          (subst (λ (f : StageEnd). IsTold t L names system.name system.rules.items now f text) known told)
          (subst (IsStageEnd system.rules.items now L) known ends))
          new text_written Limit refl

      -- a graph was left, with which the others go on
      pub turn_further : (left : QGraph) (firings : ℕ) → e ≡ end.Left left firings → HasRun t L names start (map grammar_of systems) old new left others
      turn_further left firings known =
          let leaves = subst (IsStageEnd system.rules.items now L) known ends in
          let is_told = subst (λ (f : StageEnd). IsTold t L names system.name system.rules.items now f text) known told in
          come_further Whole Begun old Rest RestBegun mid come_to (Tells t L names left others) (Begins t L names left others) text
          (λ more ending o. more_told t L names now left firings (grammar_of system) others text more ending is_told leaves o)
          (λ more o. more_begun t L names now left firings (grammar_of system) others text more is_told leaves o)
          new text_written

    pub turn_can_go_on : (left : QGraph) (firings : ℕ) → e ≡ end.Left left firings → L ≤ 1000000 → AreSystemsNamed (length names) systems
        → GrowsWithin now L e → MakesNoLabels system.rules.items now e → CanGoOn names left (length (drop (i + 1) systems))
    turn_can_go_on left firings known few named grows labels =
        let leaves = subst (IsStageEnd system.rules.items now L) known ends in
        let all_named : IsEndNamed (length names) e =
        labels (length names) (λ rule j. each_right (length names) systems system named (among_all systems i system is low) rule j) can.named in
        goes_on_with t L names now left firings (length (drop (i + 1) systems)) system.rules.items few can_with (accepted_from (grammar_of system) (inl refl)) leaves.0 leaves.1
        (subst (λ (f : StageEnd). GrowsWithin now L f) known grows) (subst (IsEndNamed (length names)) known all_named)

-- the loop has come to its end
pub at_end : (t : Telling) (L : ℕ) (names : List (List ℕ)) (systems : List System) (start : QGraph) (old mid : Option (List ℕ)) (now : QGraph) (i : ℕ) → length systems ≤ i
    → HasRun t L names start (map grammar_of systems) old mid now (map grammar_of (drop i systems)) → DeliversCascade t L names start (map grammar_of systems) old mid Done
at_end t L names systems start old mid now i past come =
    all_written (Tells t L names start (map grammar_of systems)) (Begins t L names start (map grammar_of systems)) old (Tells t L names now []) (Begins t L names now []) mid
    (subst (λ (left : List System). HasRun t L names start (map grammar_of systems) old mid now (map grammar_of left)) (drop_of_length-le systems past) come)
    all_done (none_told t L names now) Done refl
