-- What the command takes of words, and the options that they spell.
use Rattle.std.proofs.Common.{◌≡◌, ◌≢◌, Bool, true, false, cond, List, [], ◌∷◌, map, fold, All, Some, None, ap, sym, ◌∙◌, refl, codes}
use Rattle.std.specs.Prelude.{if◌then◌else◌, ◌||◌}
use Rattle.std.specs.Str.{bytes_eq}
use Rattle.std.proofs.lemmas.Slice.Eq.{bytes_eq-Decides}
use Rattle.clap.specs.Words.{fault_of, matches_of}
use Rattle.clap.specs.Walk.{Row, Rule, Text, arg_by_id, arg_by_long, finished, has_row, nothing_held, rows_after, with_default}
use Rattle.clap.specs.Simple.{Shape, built}
use Rattle.clap.specs.Faults.{defaults_fault, level_fault}
use Rattle.clap.proofs.FaultLemmas.{leaf_fault}
use Rattle.run_words.specs.Words.{Spells, values_of}
use Rattle.run_words.specs.Grammar.{all_names, bare, command, values_in}
use Rattle.run_words.specs.Parts.{HaveSameValues}
use Rattle.run_words.specs.declared.name.Name.{Name}
use Rattle.run_words.specs.declared.name.Name.TheVariants as names
use Rattle.run_words.specs.declared.given.Given.{Given}
use Rattle.run_words.proofs.Steps.{HasOptions, built_option, at_front, last_settles, last_faultless}
use Rattle.run_words.proofs.Walks.{AreValues, Ends, or_first, or_next, put_given, spelled, taken}
use Rattle.run_words.proofs.Found.{put_all}

module _ (s : Shape) (has : HasOptions s) where
  rows_end : (words : List Text) (options : List Given) → Ends s has (at_front [] None) words [] options → rows_after s.rules [] words ≡ fold put_given [] options
  rows_end words options ends =
      ap (λ w. finished s.rules w.held) ends.walks ∙ has.no_default _ ∙ last_settles s has ends.rows ends.last ∙ ends.holds

  values_end : (words : List Text) (options : List Given) → Ends s has (at_front [] None) words [] options → (name : Name) → values_in (rows_after s.rules [] words) name ≡ values_of name options
  values_end words options ends name = ap (λ (rows : List Row). values_in rows name) (rows_end words options ends) ∙ put_all name options []

  level_taken : (words : List Text) (options : List Given) → Spells words options → level_fault s [] nothing_held words false [] ≡ []
  level_taken words options spells =
      let all = taken s has options words [] None spells in
      rw (all.0, all.1.walks, last_faultless s has all.1.rows all.1.last, has.no_default_fault, has.nothing_wanted) refl

-- ---- the command as it is built

find_named : (some : List Name) (text : Text) (a : Rule) → arg_by_long (map built_option some) text ≡ Some a → (name : Name) × (a ≡ built_option name) × (text ≡ bare name)
find_named [] text a e = let f : None ≡ Some a = e in absurd cc
find_named (name ∷ some) text a e = go (bytes_eq (bare name) text) refl e (find_named some text a)
  where
    go : (b : Bool) → bytes_eq (bare name) text ≡ b → cond (b || false) (Some (built_option name)) (arg_by_long (map built_option some) text) ≡ Some a
        → (arg_by_long (map built_option some) text ≡ Some a → (name : Name) × (a ≡ built_option name) × (text ≡ bare name)) → (name : Name) × (a ≡ built_option name) × (text ≡ bare name)
    go true is e rest = (name, same, sym ((bytes_eq-Decides (bare name) text).0 is))
      where
        same : a ≡ built_option name
        same = let f : Some (built_option name) ≡ Some a = e in cc
    go false is e rest = rest e

either_row : (b : Bool) (rows : List Row) → (if b then rows else rows) ≡ rows
either_row true rows = refl
either_row false rows = refl

keeps_rows : (some : List Name) (rows : List Row) → fold with_default rows (map built_option some) ≡ rows
keeps_rows [] rows = refl
keeps_rows (name ∷ some) rows =
    ap (λ (r : List Row). fold with_default r (map built_option some)) (either_row (has_row (bare name) rows) rows) ∙ keeps_rows some rows

no_fault : (some : List Name) (rows : List Row) → defaults_fault rows (map built_option some) ≡ []
unfolding defaults_fault
no_fault [] rows = refl
no_fault (name ∷ some) rows = rw (go (has_row (bare name) rows)) (no_fault some (with_default rows (built_option name)))
  where
    go : (b : Bool) → (b || true) ≡ true
    go true = refl
    go false = refl

long : (name : Name) → arg_by_long (built command).top.rules (bare name) ≡ Some (built_option name)
long names.Unit = refl
long names.Journal = refl
long names.Sysin = refl
long names.Held = refl
long names.Out = refl
long names.In = refl
long names.FormatJournal = refl
long names.Make = refl

by_id : (name : Name) → arg_by_id (built command).top.rules (bare name) ≡ Some (built_option name)
by_id names.Unit = refl
by_id names.Journal = refl
by_id names.Sysin = refl
by_id names.Held = refl
by_id names.Out = refl
by_id names.In = refl
by_id names.FormatJournal = refl
by_id names.Make = refl

has_all : HasOptions (built command).top
has_all = record {
  long = long;
  only = find_named all_names;
  by_id = by_id;
  no_short = λ x. refl;
  no_place = refl;
  no_default = keeps_rows all_names;
  no_default_fault = no_fault all_names;
  nothing_wanted = λ rows. refl;
}

-- ---- words that spell options, and words that are taken

pub faultless : (words : List Text) (options : List Given) → Spells words options → fault_of command words ≡ []
faultless words options spells = leaf_fault (built command) nothing_held words refl ∙ level_taken (built command).top has_all words options spells

pub same_values : (words : List Text) (options : List Given) → Spells words options → (name : Name) → values_in (matches_of command words) name ≡ values_of name options
same_values words options spells = values_end (built command).top has_all words options (taken (built command).top has_all options words [] None spells).1

-- words spell the same values only
pub same_spelled : (words : List Text) (options others : List Given) → Spells words options → Spells words others → HaveSameValues options others
same_spelled words options others one other = λ name. sym (same_values words options one name) ∙ same_values words others other name

-- the options of words that are taken, which they spell where each has a value
pub record FoundIn (words : List Text) : Type 0 where
  pub options : List Given
  pub spells : AreValues options → Spells words options
  pub same : (name : Name) → values_in (matches_of command words) name ≡ values_of name options

pub found_in : (words : List Text) → All (λ word. word ≢ codes "--") words → fault_of command words ≡ [] → FoundIn words
found_in words ends none =
    let level = sym (leaf_fault (built command) nothing_held words refl) ∙ none in
    let found = spelled (built command).top has_all words ends (or_first _ _ level) (or_first _ _ (or_next _ _ level)) in
    record {
      options = found.options;
      spells = found.spells;
      same = values_end (built command).top has_all words found.options found.ends;
    }
