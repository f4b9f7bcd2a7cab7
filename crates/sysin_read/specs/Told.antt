-- Why a token is wrong: told by the one reading of the tokens before it.
use Rattle.std.specs.Prelude.{◌≡◌, List, [], ◌∷◌}
use Rattle.sysin_text.specs.declared.token.Placed.{Placed}
use Rattle.sysin_read.specs.declared.fault.Why.{Why}
use Rattle.sysin_read.specs.declared.text.TextPlace.TheVariants as places
use Rattle.sysin_read.specs.declared.text.TextReading.{TextReading}
use Rattle.sysin_read.specs.Why.{TextStops}
use Rattle.sysin_read.specs.Progress.{TextGoes}

-- nothing is read
abbrev pub nothing_read : TextReading
nothing_read = record { outline = record { frames = []; steps = []; commands = 0 }; place = places.Text }

-- each of these tokens in turn goes on with what is read before it: a command goes on until a token ends it
abbrev pub Leads : TextReading → List Placed → TextReading → Type 0
Leads old [] new = new ≡ old
Leads old (placed ∷ rest) new = (next : TextReading) × TextGoes old placed next × Leads next rest new

-- why a token is wrong behind these, which are read from the first on
abbrev pub IsWhy : List Placed → Placed → Why → Type 0
IsWhy front placed why = (reading : TextReading) × Leads nothing_read front reading × TextStops reading placed why
