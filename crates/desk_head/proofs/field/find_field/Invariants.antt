use Rattle.std.proofs.Common.{take, map}
use Rattle.httparse.specs.Spans.{header_bytes}
use Rattle.desk_head.specs.Fields.{IsFound, values_of}
use Rattle.desk_head.proofs.field.find_field.Given as goal

abbrev pub invariant-loop-header : goal.invariant-loop-header
invariant-loop-header l = IsFound l.input (values_of l.name (map (header_bytes l.input) (take l.header-index l.headers))) l.found
