use Rattle.std.proofs.Common.{◌≡◌, true, ap, ap₂, codes, ◌∙◌}
use Rattle.clap.specs.Words.{App, app_of, new_app, with_rule}
use Rattle.clap.specs.Simple.{app_of_fields, on_top}
use Rattle.clap.specs.declared.builder.command.Command.{Command}
use Rattle.clap.specs.declared.builder.command.Command.TheViews.{out-Command}
use Rattle.clap.specs.declared.builder.command.Command.TheOpen.{Command-F}
use Rattle.run_words.proofs.given.command_of.Goals as goal

abbrev without_binary_name : Command-F Command → Command-F Command
without_binary_name fields = record fields { no_binary_name = true }

abbrev without_help : Command-F Command → Command-F Command
without_help fields = record fields { disable_help_flag = true }

abbrev without_version : Command-F Command → Command-F Command
without_version fields = record fields { disable_version_flag = true }

abbrev plain : App → App
plain = on_top (λ shape. record shape {
  no_binary_name = true;
  disable_help_flag = true;
  disable_version_flag = true;
})

pub returns : goal.returns
returns c =
    let fields : out-Command c.disable_version_flag.result ≡ without_version (without_help (without_binary_name (out-Command c.new.result))) =
    c.disable_version_flag.ensures ∙ ap without_version (c.disable_help_flag.ensures ∙ ap without_help c.no_binary_name.ensures) in
    let begun : app_of c.disable_version_flag.result ≡ plain (new_app (codes "adrdssu")) = ap app_of_fields fields ∙ ap plain c.new.ensures.app in
    let unit = c.in_ok-arg.ensures.shape c.option.ensures.local ∙ ap₂ with_rule begun c.option.ensures.rule in
    let journal = c.in_ok-arg-2.ensures.shape c.option-2.ensures.local ∙ ap₂ with_rule unit c.option-2.ensures.rule in
    let sysin = c.in_ok-arg-3.ensures.shape c.option-3.ensures.local ∙ ap₂ with_rule journal c.option-3.ensures.rule in
    let held = c.in_ok-arg-4.ensures.shape c.option-4.ensures.local ∙ ap₂ with_rule sysin c.option-4.ensures.rule in
    let out = c.in_ok-arg-5.ensures.shape c.option-5.ensures.local ∙ ap₂ with_rule held c.option-5.ensures.rule in
    let inputs = c.in_ok-arg-6.ensures.shape c.option-6.ensures.local ∙ ap₂ with_rule out c.option-6.ensures.rule in
    let format = c.in_ok-arg-7.ensures.shape c.option-7.ensures.local ∙ ap₂ with_rule inputs c.option-7.ensures.rule in
    c.in_ok-command.ensures.shape c.option-8.ensures.local ∙ ap₂ with_rule format c.option-8.ensures.rule
