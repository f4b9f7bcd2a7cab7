-- What holds of filters whatever reads them.
use Rattle.std.specs.Prelude.{◌≡◌, Bool, List, []}
use Rattle.sysin_text.specs.declared.token.Token.{Token}
use Rattle.sysin_words.specs.declared.lead.Verb.{Verb}
use Rattle.sysin_forms.specs.declared.operand.Operand.{Operand}
use Rattle.sysin_values.specs.Exact.{IsExact, EndsAtClose}
use Rattle.sysin_operands.specs.Bracket.{IsPlainOperand}
use Rattle.sysin_filters.specs.declared.filter.FilterPlace.TheVariants as places
use Rattle.sysin_filters.specs.declared.filter.FilterReading.{FilterReading}
use Rattle.sysin_filters.specs.Filter.{IsPart, IsFilter}
use Rattle.sysin_filters.specs.Progress.{FilterGoes, FilterStops, FilterGives, FilterReads}

-- nothing is read
abbrev pub start_with : Verb → FilterReading
start_with verb = record { verb = verb; parts = []; place = places.First }

-- Filters are read exactly, token by token.
abbrev pub FiltersAreExact : Type 0
FiltersAreExact = (verb : Verb) → IsExact IsFilter (start_with verb) FilterGoes FilterStops FilterGives (λ reading text. (reading.verb ≡ verb) × FilterReads reading text)

abbrev pub FiltersEnd : Type 0
FiltersEnd = EndsAtClose IsFilter

-- a part is an operand of any command, spelled in the same way
abbrev pub PartsAreOperands : Type 0
PartsAreOperands = (verb : Verb) (limited : Bool) (part : Operand) (text : List Token) → IsPart limited part text → IsPlainOperand verb limited part text
