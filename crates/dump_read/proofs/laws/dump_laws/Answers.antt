use Rattle.dump_read.proofs.OneDump as dumps
use Rattle.dump_read.proofs.OneHeader as headers
use Rattle.dump_read.proofs.laws.dump_laws.Goals as goal

pub returns-clause-none : goal.returns-clause-none
returns-clause-none c = dumps.none_begins

pub returns-clause-header : goal.returns-clause-header
returns-clause-header c = headers.one_header

pub returns-clause-front : goal.returns-clause-front
returns-clause-front c = dumps.one_front

pub returns-clause-one : goal.returns-clause-one
returns-clause-one c = dumps.one_dump
