use Rattle.ckd_image.proofs.OneText as texts
use Rattle.ckd_image.proofs.OnePlace as places
use Rattle.ckd_image.proofs.laws.track_laws.Goals as goal

pub returns-clause-one : goal.returns-clause-one
returns-clause-one c = texts.one_text

pub returns-clause-none : goal.returns-clause-none
returns-clause-none c = texts.no_text_where_wrong

pub returns-clause-place : goal.returns-clause-place
returns-clause-place c = λ at slot o n f g s short u v. let same = places.one_place at slot o n f g s u v in (same.place, same.field)
