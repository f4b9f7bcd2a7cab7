-- A DD name as it is kept.
use Rattle.std.specs.Prelude.{◌-◌, ℕ, List, ◌++◌, length, replicate}
use Rattle.dsn_filter.specs.Text.{capitals}
use Rattle.dd_names.specs.declared.dd.DdName.{DdName}

-- what is kept of a text: its capitals, and zeros behind them
abbrev pub dd_name_of : List ℕ → DdName
dd_name_of text = record { len = length text; text = capitals text ++ replicate (8 - length text) 0 }
