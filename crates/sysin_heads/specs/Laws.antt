-- What holds of SET and IF whatever reads them.
use Rattle.sysin_values.specs.Exact.{IsExact, OneValue}
use Rattle.sysin_heads.specs.declared.head.HeadPlace.TheVariants as places
use Rattle.sysin_heads.specs.Head.{IsHead}
use Rattle.sysin_heads.specs.Reading.{Goes, Stops, Gives, Reads}

abbrev pub HeadsAreExact : Type 0
HeadsAreExact = IsExact IsHead places.Start Goes Stops Gives Reads

abbrev pub EachIsOne : Type 0
EachIsOne = OneValue IsHead
