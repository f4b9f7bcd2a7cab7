use Rattle.sysin_read.proofs.Going.{goes}
use Rattle.sysin_read.proofs.Completing.{right}
use Rattle.sysin_read.proofs.Refusing.{wrong}
use Rattle.sysin_read.proofs.Finishing.{spelled, given}
use Rattle.sysin_read.proofs.OneText.{one_text}
use Rattle.sysin_read.proofs.OnePlace.{never_refused, one_refusal}
use Rattle.sysin_read.proofs.laws.text_laws.Goals as goal

pub returns-clause-exact : goal.returns-clause-exact
returns-clause-exact c = record { goes = goes; spelled = spelled; given = given; right = right; wrong = wrong }

pub returns-clause-one : goal.returns-clause-one
returns-clause-one c = one_text

pub returns-clause-apart : goal.returns-clause-apart
returns-clause-apart c = never_refused

pub returns-clause-refused : goal.returns-clause-refused
returns-clause-refused c = one_refusal
