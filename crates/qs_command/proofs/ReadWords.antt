-- The job of words, from what clap's calls say of a parse.
use Rattle.std.proofs.Common.{◌≡◌, ◌⊎◌, ◌∙◌, ◌<◌, ◌≤◌, ◌^◌, ℕ, Bool, true, false, List, [], Option, Some, None, Result, Ok, refl, sym, subst, ap, inl, inr, arith, codes}
use Rattle.std.specs.Prelude.{IfOk, IsErrOf, IsSome, if◌then◌else◌, ok_or, option_and_then, option_map}
use Rattle.std.specs.Option.{option_map_or}
use Rattle.std.specs.Str.Parse.{ParsesUnsigned, digits_value, without_leading_plus}
use Rattle.std.proofs.lemmas.Option.{none-some, same_Some}
use Rattle.clap.specs.Matches.{ReadsOne, first_value, found_of, one_text}
use Rattle.clap.specs.Values.{kind_of}
use Rattle.clap.specs.Lexer.{without_minus}
use Rattle.clap.specs.Walk.{Row, Text, is_empty, one_of, rows_of}
use Rattle.clap.specs.Simple.{App, HasMatchesOf, app_of, is_simple, matches_of}
use Rattle.clap.specs.Faults.{fault_of, is_simple_and_free}
use Rattle.clap.specs.Kinds.{HasKind, IsAmong, Kinds}
use Rattle.clap.specs.declared.error.Error.{Error}
use Rattle.clap.specs.declared.error.kind.ErrorKind.{ErrorKind}
use Rattle.clap.specs.declared.error.kind.ErrorKind.TheVariants.{OutOfMemory}
use Rattle.clap.specs.declared.builder.command.Command as clap
use Rattle.clap.specs.declared.parser.matches.ArgMatches.{ArgMatches}
use Rattle.clap.specs.declared.parser.matches.Found.{Found}
use Rattle.clap.proofs.OnLiterals.{clap_on_literals}
use Rattle.clap.proofs.CallerReads.{signed_reads}
use Rattle.clap.proofs.WalkLemmas.{first_value-rows, one_text-rows}
use Rattle.qs_command.specs.Words.{command_of, job_in, job_of, job_with, number_in, simple_command, AreRefused, IsJobOf}
use Rattle.qs_command.specs.working.Options.{HasNumber}
use Rattle.qs_command.specs.declared.job.Command.{Command}
use Rattle.qs_command.specs.declared.job.Job.{Job}
use Rattle.qs_command.specs.declared.words.WordsEnd.{WordsEnd}
use Rattle.qs_command.specs.declared.words.WordsEnd.TheVariants.{Usage}
use Rattle.qs_command.proofs.CommandLemmas.{empty_list}

-- what is read of an option that has a number
pub record Reads (r : Option ℕ) (rows : List Row) (name : Text) (least most : ℕ) : Type 0 where
  pub number : ℕ
  pub some : r ≡ Some number
  pub low : least ≤ number
  pub high : number ≤ most
  pub is : number ≡ number_in rows name

pub reads : (E : Type 0) (gives : Text → Result ℕ E → Type 0) (f : Found) (name : Text) (least most : ℕ) (r : Option ℕ)
    → ((t : Text) (x : Result ℕ E) → gives t x → ParsesUnsigned 32 10 t x) → most < 2 ^ 32
    → ((t : Text) → one_text f name ≡ Some t → ReadsOne gives t r)
    → HasNumber f name least most → Reads r (rows_of f) name least most
reads E gives f name least most r parses fits read has =
    let one = read (without_minus has.text) has.is in
    let got = signed_reads E gives 32 least most has.text r one parses fits has.in_range in
    let given : gives (without_minus has.text) (Ok got.0) = subst (λ (o : Option ℕ). ReadsOne gives (without_minus has.text) o) got.1 one in
    let value : got.0 ≡ digits_value 10 (without_leading_plus (without_minus has.text)) = (parses (without_minus has.text) (Ok got.0) given).1 in
    let row : one_of name (rows_of f) ≡ Some (without_minus has.text) = sym (one_text-rows f name) ∙ has.is in
    record {
      number = got.0;
      some = got.1;
      low = got.2;
      high = got.3;
      is = value ∙ ap (λ (o : Option Text). option_map_or (λ text. digits_value 10 (without_leading_plus text)) o 0) (sym row);
    }

pub is_some_number : (r : Option ℕ) (rows : List Row) (name : Text) (least most : ℕ) → Reads r rows name least most → IsSome r
is_some_number r rows name least most read = rw read.some refl

-- what an unwrapped number is
pub record IsRead (n : ℕ) (rows : List Row) (name : Text) (least most : ℕ) : Type 0 where
  pub low : least ≤ n
  pub high : n ≤ most
  pub is : n ≡ number_in rows name

pub unwrapped : (r : Option ℕ) (n : ℕ) (rows : List Row) (name : Text) (least most : ℕ) → Reads r rows name least most → r ≡ Some n → IsRead n rows name least most
unwrapped r n rows name least most read is =
    let same : read.number ≡ n = cc (read.some, is) in
    record {
      low = omega (arith, read.low, same);
      high = omega (arith, read.high, same);
      is = sym same ∙ read.is;
    }

-- the job of a match, by its command word
pub job_by_word : (f : Found) (word : Option Text) → first_value f (codes "command") ≡ word
    → job_in (rows_of f) ≡ option_map (job_with (rows_of f)) (option_and_then command_of word)
job_by_word f word is =
    ap (λ (w : Option Text). option_map (job_with (rows_of f)) (option_and_then command_of w)) (sym (first_value-rows f (codes "command")) ∙ is)

pub no_job_read : (f : Found) (word : Text) → first_value f (codes "command") ≡ Some word → command_of word ≡ None → job_in (rows_of f) ≡ None
no_job_read f word is_word none = job_by_word f (Some word) is_word ∙ ap (λ (o : Option Command). option_map (job_with (rows_of f)) o) none

pub job_read : (f : Found) (word : Text) (command : Command) (limit workers size readings : ℕ) → first_value f (codes "command") ≡ Some word
    → command_of word ≡ Some command → limit ≡ number_in (rows_of f) (codes "limit")
    → workers ≡ number_in (rows_of f) (codes "workers") → size ≡ number_in (rows_of f) (codes "size")
    → readings ≡ number_in (rows_of f) (codes "readings")
    → Some (record { command = command; limit = limit; workers = workers; size = size; readings = readings }) ≡ job_in (rows_of f)
job_read f word command limit workers size readings is_word is_command l w s r =
    (λ i. Some (record { command = command; limit = l i; workers = w i; size = s i; readings = r i }))
    ∙ sym (job_by_word f (Some word) is_word ∙ ap (λ (o : Option Command). option_map (job_with (rows_of f)) o) is_command)

-- clap's definitions of faults and of matches hold of the simple command
is_simple_command : is_simple simple_command ≡ true
unfolding clap_on_literals simple_command
is_simple_command = refl

is_free_command : is_simple_and_free simple_command ≡ true
unfolding clap_on_literals simple_command
is_free_command = refl

-- the job of words that a parse took
pub job_taken : (c : clap.Command) (words : List Text) (m : ArgMatches) → app_of c ≡ simple_command → HasMatchesOf (app_of c) words m
    → (is_simple_and_free (app_of c) ≡ true → fault_of (app_of c) words ≡ []) → job_of words ≡ job_in (rows_of (found_of m))
unfolding job_of
job_taken c words m is matches faults =
    let none : fault_of simple_command words ≡ [] = ap (λ (a : App). fault_of a words) (sym is) ∙ faults (ap is_simple_and_free is ∙ is_free_command) in
    let rows : rows_of (found_of m) ≡ matches_of simple_command words = (matches (ap is_simple is ∙ is_simple_command)).0 ∙ ap (λ (a : App). matches_of a words) is in
    ap (λ (k : Kinds). if is_empty k then job_in (matches_of simple_command words) else None) none ∙ ap job_in (sym rows)

no_fault : (kind : ErrorKind) (kinds : Kinds) → is_empty kinds ≡ true → IsAmong kind kinds → ⊥
no_fault kind kinds none among = subst (IsAmong kind) (empty_list kinds none) among

-- words that a parse refused for another cause than want of memory have none
pub job_refused : (c : clap.Command) (words : List Text) (e : Error) → app_of c ≡ simple_command → (kind_of e ≡ OutOfMemory → ⊥)
    → (is_simple_and_free (app_of c) ≡ true → HasKind (fault_of (app_of c) words) e) → job_of words ≡ None
unfolding job_of
job_refused c words e is other faults =
    let has = subst (λ (a : App). HasKind (fault_of a words) e) is (faults (ap is_simple_and_free is ∙ is_free_command)) in
    tested (is_empty (fault_of simple_command words)) (λ none. elim has [
      | inl memory ↦ other memory
      | inr among ↦ no_fault (kind_of e) (fault_of simple_command words) none among
    ])
  where
    tested : (t : Bool) → (t ≡ true → ⊥) → (if t then job_in (matches_of simple_command words) else None) ≡ None
    tested true not_true = absurd (not_true refl)
    tested false not_true = refl

-- what is answered, from the job of a match
pub answered : (words : List Text) (o : Option Job) (r : Result Job WordsEnd) → job_of words ≡ o → r ≡ ok_or o Usage
    → IfOk r (λ job. job_of words ≡ Some job) × (IsErrOf r Usage → job_of words ≡ None)
answered words None r is e = (rw e tt, λ _. is)
answered words (Some job) r is e = (rw e is, λ usage. absurd (cc (e, usage)))

-- words give one job, or none
pub same_job : (words : List Text) (j k : Job) → IsJobOf words j → IsJobOf words k → j ≡ k
same_job words j k a b = same_Some j k (sym a ∙ b)

pub not_both : (words : List Text) (job : Job) → IsJobOf words job → AreRefused words → ⊥
not_both words job is refused = none-some job (sym refused ∙ is)

some_or_none : (o : Option Job) → ((job : Job) × (o ≡ Some job)) ⊎ (o ≡ None)
some_or_none None = inr refl
some_or_none (Some job) = inl (job, refl)

pub job_or_refused : (words : List Text) → ((job : Job) × IsJobOf words job) ⊎ AreRefused words
job_or_refused words = some_or_none (job_of words)
