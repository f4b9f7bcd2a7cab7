use Rattle.dump_read.proofs.Shapes as shapes
use Rattle.dump_read.proofs.laws.shape_laws.Goals as goal

pub returns-clause-fronts : goal.returns-clause-fronts
returns-clause-fronts c = shapes.fronts_go_on

pub returns-clause-pieces : goal.returns-clause-pieces
returns-clause-pieces c = shapes.pieces_stand_behind

pub returns-clause-shapes : goal.returns-clause-shapes
returns-clause-shapes c = shapes.shapes_go_on

pub returns-clause-none : goal.returns-clause-none
returns-clause-none c = shapes.no_shape_begins
