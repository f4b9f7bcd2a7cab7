use Rattle.dsn_filter.proofs.Named.{name_few, name_short}
use Rattle.dsn_filter.proofs.pattern.Pattern.matches.Goals as goal

pub fits_name-requires-clause-few : goal.fits_name-requires-clause-few
fits_name-requires-clause-few c = name_few c.args.name.now c.as_slice-2.result.now c.requires c.as_slice-2.ensures

pub fits_name-requires-clause-short : goal.fits_name-requires-clause-short
fits_name-requires-clause-short c = name_short c.args.name.now c.as_slice-2.result.now c.requires c.as_slice-2.ensures
