-- White space and comments, read from the left.
use Rattle.std.proofs.Common.{ℕ, Bool, true, false, List}
use Rattle.qs_lex.specs.Tokens.{blank_len, comment_len}

-- how many bytes of white space and comments are left, within a comment or not
abbrev pub blank_from : Bool → List ℕ → ℕ
blank_from true bytes = comment_len bytes
blank_from false bytes = blank_len bytes
