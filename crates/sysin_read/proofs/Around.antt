-- What is open around a statement that starts a line.
use Rattle.std.proofs.Common.{◌≡◌, List, [], ◌∷◌}
use Rattle.sysin_read.specs.declared.outline.Frame.{Frame}
use Rattle.sysin_read.specs.declared.outline.Frame.TheVariants as frames
use Rattle.sysin_read.specs.Why.{around}

-- the innermost is a DO
pub around_do : (list : List Frame) (frame : Frame) (outer : List Frame) → around list ≡ frame ∷ outer → frame ≡ frames.Do
around_do [] frame outer e = cc
around_do (frames.Then ∷ list) frame outer e = around_do list frame outer e
around_do (frames.Else ∷ list) frame outer e = around_do list frame outer e
around_do (frames.Do ∷ list) frame outer e = cc
