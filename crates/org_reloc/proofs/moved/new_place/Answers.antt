use Rattle.org_reloc.proofs.Movings.{place_found, place_missing}
use Rattle.org_reloc.proofs.moved.new_place.Goals as goal

pub returns-in-Ok : goal.returns-in-Ok
returns-in-Ok c =
    place_found c.args.numbers.now c.args.news.now c.args.place c.ordinal.result c.in-Ok.index c.binary_search.result _ c.binary_search.ensures.position c.in-Ok.is c.ordinal.ensures c.requires.ascending c.requires.counted

pub returns-in-Err : goal.returns-in-Err
returns-in-Err c =
    place_missing c.args.numbers.now c.args.news.now c.args.place c.ordinal.result c.in-Err.field-0 c.binary_search.result c.binary_search.ensures.position c.in-Err.is c.ordinal.ensures c.requires.ascending
