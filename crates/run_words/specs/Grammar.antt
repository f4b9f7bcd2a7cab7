-- The command by which `clap` splits words: each name is an option of it, with one value in each use, and may be used any number of times.
use Rattle.std.specs.Prelude.{true, ℕ, List, [], ◌∷◌, map, flat_map, Some, codes, unwrap_or}
use Rattle.clap.specs.Words.{App, Row, Rule, all_of, new_rule}
use Rattle.clap.specs.Simple.{new_shape}
use Rattle.clap.specs.declared.builder.action.ArgAction.TheVariants.{Append}
use Rattle.run_words.specs.declared.name.Name.{Name}
use Rattle.run_words.specs.declared.name.Name.TheVariants as names
use Rattle.run_words.specs.declared.given.Given.{Given}

-- a name without the hyphens before it
abbrev pub bare : Name → List ℕ
bare names.Unit = codes "unit"
bare names.Journal = codes "journal"
bare names.Sysin = codes "sysin"
bare names.Held = codes "held"
bare names.Out = codes "out"
bare names.In = codes "in"
bare names.FormatJournal = codes "format-journal"
bare names.Make = codes "make"

abbrev pub all_names : List Name
all_names = names.Unit ∷ names.Journal ∷ names.Sysin ∷ names.Held ∷ names.Out ∷ names.In ∷ names.FormatJournal ∷ names.Make ∷ []

abbrev pub option_named : Name → Rule
option_named name = record (new_rule (bare name)) {
  long = Some (bare name);
  action = Some Append;
}

abbrev pub command : App
command = record {
  top = record (new_shape (codes "adrdssu")) {
    rules = map option_named all_names;
    no_binary_name = true;
    disable_help_flag = true;
    disable_version_flag = true;
  };
  subs = [];
}

-- the values that were found for a name, in their order
abbrev pub values_in : List Row → Name → List (List ℕ)
values_in rows name = unwrap_or (all_of (bare name) rows) []

-- these values, each given to the name
abbrev pub given_each : Name → List (List ℕ) → List Given
given_each name values = map (λ value. record { name = name; value = value }) values

-- the options that were found, name by name
abbrev pub options_in : List Row → List Given
options_in rows = flat_map (λ name. given_each name (values_in rows name)) all_names
