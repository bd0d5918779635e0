-- How the logic tells supports apart. Nothing that a reader has to believe stands here.
use Rattle.std.specs.Prelude.{ℕ, List, refl}
use Rattle.std.specs.Coded.{Coded, code_by, coded×, coded_list, coded_ℕ}
use Rattle.qs_explain.specs.Support.{SupportOf}

abbrev pub support_code : Coded SupportOf
support_code =
    code_by (List ℕ × List ℕ) (coded× (coded_list coded_ℕ) (coded_list coded_ℕ)) (λ s. (s.arcs, s.firings))
    (λ p. record { arcs = p.0; firings = p.1 }) (λ _. refl)
