use Rattle.std.proofs.Common.{◌≡◌, ◌∙◌, ap, ap₂, codes}
use Rattle.std.proofs.lemmas.Result.{IfOk-weaker}
use Rattle.clap.specs.Words.{app_of, new_app, with_rule}
use Rattle.clap.specs.Simple.{app_of_fields}
use Rattle.qs_command.specs.Words.{simple_command, without_program}
use Rattle.qs_command.proofs.words.simple_command.Goals as goal

pub returns : goal.returns
unfolding simple_command
returns c =
    let program : app_of c.no_binary_name.result ≡ without_program (new_app (codes "qsys")) =
    ap app_of_fields c.no_binary_name.ensures ∙ ap without_program c.new.ensures.app in
    IfOk-weaker c.arg-5.result _ _
    (λ command added. added.shape c.number_option-4.ensures.local
    ∙ ap₂ with_rule (c.in_ok-arg-4.ensures.shape c.number_option-3.ensures.local
    ∙ ap₂ with_rule (c.in_ok-arg-3.ensures.shape c.number_option-2.ensures.local
    ∙ ap₂ with_rule (c.in_ok-arg-2.ensures.shape c.number_option.ensures.local
    ∙ ap₂ with_rule (c.in_ok-arg.ensures.shape c.required_word.ensures.local
    ∙ ap₂ with_rule program c.required_word.ensures.rule)
    c.number_option.ensures.rule)
    c.number_option-2.ensures.rule)
    c.number_option-3.ensures.rule)
    c.number_option-4.ensures.rule)
    c.arg-5.ensures
