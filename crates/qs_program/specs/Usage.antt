-- The usage line. Its spelling is this project's own.
use Rattle.std.specs.Prelude.{ℕ, List, codes}
use Rattle.qs_graphtext.specs.Texts.{line}

-- What is written for words that give no job.
abbrev pub usage_line : List ℕ
usage_line =
    line
    (codes "usage: qsys run|check|graph|made|explain|levels|phrase [--limit N] [--workers N] [--size N] [--readings N]")
