use Rattle.std.proofs.Common.{rules, ◌≡◌, [], ◌∷◌, ◌++◌, ◌∙◌, length, ap}
use Rattle.std.specs.Option.{option_to_list}
use Rattle.qs_edge_tests.proofs.Counting.{two_back, entries_of_one}
use Rattle.qs_turn.proofs.NewPasses.{last_new}
use Rattle.qs_edge_tests.proofs.turn_tests.added_by_two.Goals as goal

pub join-first-requires-after_bounds : goal.join-first-requires-after_bounds
join-first-requires-after_bounds g c κs within =
    let last = last_new _ _ _ _ _ c.pop.new.self.items c.unwrap-last.result (c.pop.ensures.items ∙ ap (λ o. c.pop.new.self.items ++ option_to_list o) c.unwrap-last.ensures) c.in_ok-turns.ensures.each in
    let first = last_new _ _ _ _ _ c.pop-2.new.self.items c.unwrap-first.result (c.pop-2.ensures.items ∙ ap (λ o. c.pop-2.new.self.items ++ option_to_list o) c.unwrap-first.ensures) last.1 in
    let none : length c.pop-2.new.self.items ≡ 0 = search rules in
    let one : length c.pop.new.self.items ≡ 1 = search rules in
    ((first.0.own, first.0.idle, first.0.number ∙ none, first.0.seen ∙ c.new.ensures.items), (last.0.own, last.0.idle, last.0.number ∙ one, last.0.seen ∙ c.new.ensures.items))

pub returns : goal.returns
returns g c =
    let first = c.join-first.result.0.0 in
    let last = c.join-first.result.1.0 in
    let back = two_back (λ e. e) _ c.close.result.items.items _ c.pop-2.new.self.items first last (c.push_reserved-2.ensures.items ∙ ap (λ ps. ps ++ last ∷ []) c.push_reserved.ensures.items) c.close.ensures.history in
    let one = c.join-first.ensures.first in
    let two = c.join-first.ensures.second in record {
      first = entries_of_one (λ e. e) _ _ first 0 _ back.0 one.0.2 one.1;
      second = entries_of_one (λ e. e) _ _ last 1 _ back.1 two.0.2 two.1;
    }
