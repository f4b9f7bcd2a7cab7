use Rattle.std.proofs.Common.{rules}
use Rattle.vtoc_core.proofs.Spelled.{IsLength, found_name, found_none}
use Rattle.vtoc_core.proofs.names.dsn_of.Goals as goal

length_of : (c : goal.After-ok) → IsLength c.args.name.now c.name_len-len.result
length_of c = record { within = c.name_len-len.ensures.within; blanks = c.name_len-len.ensures.blanks; last = c.name_len-len.ensures.last }

pub returns-clause-found : goal.returns-clause-found
returns-clause-found c =
    found_name c.args.name.now c.in_ok-text.text c.name_len-len.result (length_of c) c.told-name (search rules) c.in_ok-text.ensures.found c.read.result c.ok.result c.ok.ensures.value c.read.ensures.read

pub returns-clause-none : goal.returns-clause-none
returns-clause-none c =
    found_none c.args.name.now c.in_ok-text.text c.name_len-len.result (length_of c) c.told-name (search rules) c.in_ok-text.ensures.found c.read.result c.ok.result c.ok.ensures.value c.read.ensures.refused
