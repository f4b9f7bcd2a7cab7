use Rattle.std.proofs.Common.{◌≡◌, sym, ap, subst, ◌∙◌, arith}
use Rattle.dasd_pool.specs.Disk.{Shape, State}
use Rattle.rows_headline.specs.Made.{IsMade, IsSettledVolume}
use Rattle.rows_headline.proofs.Settling.{settled_there, kept_volume, settled_back}
use Rattle.rows_headline.proofs.made.make_and_list.Goals as goal

pub returns-clause-settled : goal.returns-clause-settled
returns-clause-settled g c = λ told.
    let first : State = (g.P.Pool.disk c.args.pool).state in
    let made : State = (g.P.Pool.disk c.in_ok-made.made).state in
    let looked : State = (g.P.Pool.disk c.in_ok-looked.looked).state in
    let shape : Shape = g.P.Pool.shape c.in_ok-made.made in
    let whole : shape ≡ g.P.Pool.shape c.args.pool = c.in_ok-made.ensures.shape in
    let two : shape.units ≡ 2 = omega (arith, ap (λ (s : Shape). s.units) whole, c.units.ensures, c.if-units-ne2.false) in
    let R : Shape → Type 0 = λ s. IsMade s first made in
    let S : Shape → Type 0 = λ s. IsSettledVolume s looked in
    let before : IsSettledVolume shape made = settled_there shape first made two (subst R (sym whole) (c.in_ok-made.ensures.made told)) (c.in_ok-looked.ensures.found told) in
    let then' : IsSettledVolume shape looked = kept_volume shape made looked (c.in_ok-looked.ensures.stays told) before in
    settled_back g.P.Pool.shape (λ pool. (g.P.Pool.disk pool).state) (g.P.Pool.shape c.in_ok-looked.looked) looked (subst S (sym c.in_ok-looked.ensures.shape) then') c.list.result
    (c.list.ensures.stays told) c.list.ensures.shape
