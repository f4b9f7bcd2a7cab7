-- What one word makes of a walk of `clap`'s over the words of a command whose rules are the options.
use Rattle.std.proofs.Common.{◌≡◌, ℕ, true, false, List, [], ◌∷◌, length, fold, Option, Some, None, refl, codes}
use Rattle.std.specs.Prelude.{slice_get}
use Rattle.std.specs.Str.{bytes_eq, chars}
use Rattle.std.proofs.lemmas.Slice.Eq.{bytes_eq-Decides}
use Rattle.clap.specs.Lexer.{long_of, short_of}
use Rattle.clap.specs.Walk.{Row, Rule, Text, Waiting, Walk, idle, option, arg_by_id, arg_by_index, arg_by_long, arg_by_short, plain, settled_rows, walked, with_default, with_values}
use Rattle.clap.specs.Simple.{Shape, filled, with_index}
use Rattle.clap.specs.Faults.{check_fault, defaults_fault, settle_fault, turn_fault}
use Rattle.clap.specs.declared.builder.value_parser.Reading.TheVariants as reading
use Rattle.clap.specs.declared.parser.matches.ValueSource.TheVariants.{CommandLine}
use Rattle.clap.proofs.WalkLemmas.{bundle_ends}
use Rattle.clap.proofs.FaultLemmas.{fault_ends}
use Rattle.run_words.specs.Grammar.{bare, option_named}
use Rattle.run_words.specs.declared.name.Name.{Name}

is_itself : (text : Text) → bytes_eq text text ≡ true
is_itself text = (bytes_eq-Decides text text).1 refl

-- the rule of an option as it is built
abbrev pub built_option : Name → Rule
built_option name = with_index 1 (filled (option_named name))

-- the rules are the options, and nothing else is asked for
pub record HasOptions (s : Shape) : Type 0 where
  pub long : (name : Name) → arg_by_long s.rules (bare name) ≡ Some (built_option name)
  pub only : (text : Text) (a : Rule) → arg_by_long s.rules text ≡ Some a → (name : Name) × (a ≡ built_option name) × (text ≡ bare name)
  pub by_id : (name : Name) → arg_by_id s.rules (bare name) ≡ Some (built_option name)
  pub no_short : (x : ℕ) → arg_by_short s.rules x ≡ None
  pub no_place : arg_by_index s.rules 1 ≡ None
  pub no_default : (rows : List Row) → fold with_default rows s.rules ≡ rows
  pub no_default_fault : (rows : List Row) → defaults_fault rows s.rules ≡ []
  pub nothing_wanted : (rows : List Row) → check_fault s rows false ≡ []

-- one more value of a name
abbrev pub put : Name → Text → List Row → List Row
put name value rows = with_values (bare name) reading.AsWritten CommandLine (value ∷ []) rows

abbrev stands : List Row → Option (Text × List Text) → Waiting → Walk
stands rows pending waiting = record {
  held = record {
    rows = rows;
    pending = pending;
    skip = 0;
  };
  waiting = waiting;
  position = 1;
  is_trailing = false;
  stopped = None;
}

abbrev pending_of : Option (Name × Text) → Option (Text × List Text)
pending_of None = None
pending_of (Some last) = Some (bare last.0, last.1 ∷ [])

abbrev pub rows_with : List Row → Option (Name × Text) → List Row
rows_with rows None = rows
rows_with rows (Some last) = put last.0 last.1 rows

-- before a word that begins an option; the last one may be held back
abbrev pub at_front : List Row → Option (Name × Text) → Walk
at_front rows last = stands rows (pending_of last) idle

-- behind a name that waits for its value
abbrev pub behind_name : List Row → Name → Walk
behind_name rows name = stands rows (Some (bare name, [])) (option (bare name))

module _ (s : Shape) (has : HasOptions s) where
  -- a word takes the walk on, with no fault
  pub record Goes (walk : Walk) (word : Text) (after : Walk) : Type 0 where
    pub faultless : turn_fault s [] walk word ≡ []
    pub next : walked s.rules [] walk word ≡ after

  pub last_settles : (rows : List Row) (last : Option (Name × Text)) → settled_rows s.rules (pending_of last) rows ≡ rows_with rows last
  last_settles rows None = refl
  last_settles rows (Some (name, value)) = rw (has.by_id name) refl

  pub last_faultless : (rows : List Row) (last : Option (Name × Text)) → settle_fault s.rules s.args_override_self (at_front rows last).held ≡ []
  last_faultless rows None = refl
  last_faultless rows (Some (name, value)) = rw (has.by_id name) refl

  -- `--name=value` settles what was held back, and gives the name one value more
  pub goes_joined : (rows : List Row) (last : Option (Name × Text)) (name : Name) (value word : Text) → bytes_eq word (codes "--") ≡ false
      → long_of word ≡ Some (bare name, Some value) → Goes (at_front rows last) word (at_front (put name value (rows_with rows last)) None)
  unfolding walked
  goes_joined rows last name value word end is = record {
    faultless = rw (end, is, has.long name, last_faultless rows last) refl;
    next = rw (end, is, has.long name, last_settles rows last) refl;
  }

  -- `--name` settles it too, and waits
  pub goes_apart : (rows : List Row) (last : Option (Name × Text)) (name : Name) (word : Text) → bytes_eq word (codes "--") ≡ false
      → long_of word ≡ Some (bare name, None) → Goes (at_front rows last) word (behind_name (rows_with rows last) name)
  unfolding walked
  goes_apart rows last name word end is = record {
    faultless = rw (end, is, has.long name, last_faultless rows last) refl;
    next = rw (end, is, has.long name, last_settles rows last) refl;
  }

  -- the word behind is held back as the value, also where it begins with a hyphen and no character follows
  pub goes_value : (rows : List Row) (name : Name) (word : Text) → bytes_eq word (codes "--") ≡ false → long_of word ≡ None
      → ((flags : Text) → short_of word ≡ Some flags → None ≡ slice_get (chars flags) 0) → Goes (behind_name rows name) word (at_front rows (Some (name, word)))
  unfolding walked
  goes_value rows name word end is none = go (short_of word) refl
    where
      go : (o : Option Text) → short_of word ≡ o → Goes (behind_name rows name) word (at_front rows (Some (name, word)))
      go None short = record {
        faultless = rw (end, is, short) refl;
        next = rw (end, is, short, has.by_id name, is_itself (bare name)) refl;
      }
      go (Some flags) short =
          let held = (behind_name rows name).held in
          let nothing_met = bundle_ends s.rules (length flags) flags 0 plain held (none flags short) in
          let no_fault = fault_ends s.rules s.args_override_self (length flags) flags 0 held (none flags short) in
          record {
            faultless = rw (end, is, short, ← nothing_met, ← no_fault) refl;
            next = rw (end, is, short, ← nothing_met, has.by_id name, is_itself (bare name)) refl;
          }
