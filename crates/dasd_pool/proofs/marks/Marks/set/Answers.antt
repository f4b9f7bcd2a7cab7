use Rattle.std.proofs.Common.{◌≡◌, ◌∙◌, [], List, get_or, Bool, true, Vec, arith, sym, ap}
use Rattle.std.specs.Prelude.{slice_set}
use Rattle.std.specs.declared.alloc.Global.{Global}
use Rattle.std.proofs.lemmas.List.{map-set, length-map, set_past}
use Rattle.dasd_pool.specs.declared.marks.Marks.TheInside.{Inside}
use Rattle.dasd_pool.specs.Marks.{lists_of}
use Rattle.dasd_pool.proofs.Texts.{map_read}
use Rattle.dasd_pool.proofs.marks.Marks.set.Goals as goal
use Rattle.dasd_pool.proofs.marks.Marks.set.Goals.{in-Some, in_default}

pub returns : goal.returns
returns c =
    let old = c.self.inside.written.items in
    let mark = λ (marks : List (List Bool)). slice_set marks c.args.unit (slice_set (get_or marks c.args.unit []) c.args.block true) in
    elim c.match-get_mut.branch [
      | in-Some w ↦
          let goes : lists_of c.match-get_mut.self-inside.written.items ≡ lists_of (slice_set old c.args.unit w.set_one.new.marks) = ap (λ (m : Inside). lists_of m.written.items) w.self-inside-is in
          let was : get_or (lists_of old) c.args.unit [] ≡ w.in-Some.marks.now.items = map_read (λ (v : Vec Bool Global). v.items) old c.args.unit w.in-Some.marks.now [] (omega (arith, w.in-Some.ensures.item.3.0)) w.in-Some.ensures.value in
          goes
          ∙ map-set (λ (v : Vec Bool Global). v.items) old c.args.unit w.set_one.new.marks
          ∙ ap (λ (l : List Bool). slice_set (lists_of old) c.args.unit l) (w.set_one.ensures ∙ ap (λ (l : List Bool). slice_set l c.args.block true) (sym was))
          ∙ ap mark c.self.view_is
      | in_default w ↦
          let goes : lists_of c.match-get_mut.self-inside.written.items ≡ lists_of old = ap (λ (m : Inside). lists_of m.written.items) w.self-inside-is in
          goes
          ∙ sym (set_past (lists_of old) c.args.unit (slice_set (get_or (lists_of old) c.args.unit []) c.args.block true) (omega (arith, w.in_default.ensures.item.3, length-map old (λ (v : Vec Bool Global). v.items))))
          ∙ ap mark c.self.view_is
    ]
