-- What a parse gives for the options of the simple command. Only the proof of reading the words needs it.
use Rattle.std.specs.Prelude.{◌≡◌, ℕ, ◌<◌, ◌^◌, pos, List, Some, codes}
use Rattle.clap.specs.Words.{one_text, without_minus, IsSignedIn}
use Rattle.clap.specs.declared.parser.matches.Found.{Found}
use Rattle.qs_deck.specs.Limits.{most_size}
use Rattle.qs_command.specs.Limits.{most_limit, most_workers, most_readings}

-- The option of this name has a text, and it is a number between these two.
pub record HasNumber (found : Found) (name : List ℕ) (least most : ℕ) : Type 0 where
  pub text : List ℕ
  pub is : one_text found name ≡ Some (without_minus text)
  pub in_range : IsSignedIn (pos least) (pos most) text

-- The option of this name has a number of at most 32 bits.
pub record HasSomeNumber (found : Found) (name : List ℕ) : Type 0 where
  pub least : ℕ
  pub most : ℕ
  pub fits : most < 2 ^ 32
  pub number : HasNumber found name least most

-- Each option has a number in its range.
pub record HasNumbers (found : Found) : Type 0 where
  pub limit : HasNumber found (codes "limit") 1 most_limit
  pub workers : HasNumber found (codes "workers") 1 most_workers
  pub size : HasNumber found (codes "size") 0 most_size
  pub readings : HasNumber found (codes "readings") 1 most_readings
